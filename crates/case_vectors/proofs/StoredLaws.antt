-- The card that the program writes fits its row: its own values are in form.
use mathlib.Core.Path.{◌≡◌, refl, sym, ◌∙◌}
use mathlib.Core.Bool.{Bool, false, not}
use mathlib.Core.List.{List}
use Prim.Native.Nat.{ℕ, ◌≤◌}
use lib.ListN.{length}
use borrow.Author.Tests.{not-false}
use Rattle.byte_strings.specs.Texts.{text}
use Rattle.text_classes.specs.Classes.{are_all, is_alphanumeric, is_mark}
use Rattle.text_classes.specs.Identifiers.{is_identifier}
use Rattle.text_decimals.specs.Decimals.{is_number, is_unpadded}
use Rattle.card_incoming.specs.Incoming.{is_incoming}
use Rattle.card_stored.specs.Stored.{EngineValues, load_values, stored_card}
use Rattle.card_laws.proofs.Incoming.{stored_short}

abbrev own : EngineValues
own = load_values (text "92E101") (text "KMC1")

module _ (s : List ℕ) (t : Bool) (p : t ≡ is_incoming s) (o : not t ≡ false) where
  pub fits : length (stored_card s own) ≤ 256
  unfolding is_number is_unpadded are_all is_identifier is_alphanumeric is_mark
  fits = stored_short s (sym p ∙ not-false t o) own refl refl refl refl
