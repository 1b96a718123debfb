-- `card_incoming::read_card` meets its contract. What is left of the card is a card after the last name, and has the
-- values that are not noted.
use mathlib.Core.Path.{◌≡◌, sym, subst}
use mathlib.Core.Logic.{⊎_elim}
use Prim.Native.Nat.{◌-◌, ◌≤◌}
use lib.ListN.{length, drop}
use Rattle.card_incoming.specs.Incoming.{is_card}
use Rattle.card_incoming.proofs.Sequence.{is_card_from, card_from}
use Rattle.card_incoming.proofs.IncomingLaws.{card_done, card_open, card_order, card_room, card_unfit, card_turn}
use Rattle.card_incoming.proofs.ValueLaws.{ReadTo, nothing_read, read_known, read_unknown, refused, no_values, all_noted, accepted}
use borrow.Author.Rules.{rules}
use Rattle.card_incoming.proofs.read_card.Statement.{statement}
use Rattle.card_incoming.proofs.read_card.Tie as tie

abbrev invariant-loop-at : tie.invariant-loop-at
invariant-loop-at card read₀ at₀ last₀ read at last = (at ≤ length card) × (is_card_from last (drop at card) ≡ is_card card) × ReadTo card at last read

abbrev decreases-loop-at : tie.decreases-loop-at
decreases-loop-at card read₀ at₀ last₀ read at last = length card - at

-- a turn: a search of all fields breaks off here, so the facts are given
loop_again : tie.Need-loop-at-preserved invariant-loop-at decreases-loop-at
loop_again c =
    let p = c.piece_end-end.ensures.0 in
    let h = c.if-card-end.false in
    let q = c.name_of-name.ensures in
    let o = c.if-name-last.false in
    let d = c.index_of-index.ensures in (
      search rules,
      card_turn _ _ _ _ c.loop-at.invariant.1 _ p h _ q o _ d _ c.fits_at.ensures c.if-not-fits_at.false-raw,
      ⊎_elim
          (λ u. subst (ReadTo _ _ _) (sym u.read-is) (read_known _ _ _ _ p h _ q o _ c.loop-at.invariant.2 _ d u.if-index-lt-ROWS.true))
          (λ u. subst (ReadTo _ _ _) (sym u.read-is) (read_unknown _ _ _ _ p h _ q o _ c.loop-at.invariant.2 _ d u.if-index-lt-ROWS.false))
          c.if-index-lt-ROWS.branch-raw,
    )

pub read_card_spec : {M : Type 1} → statement M
read_card_spec =
    tie.close
    (tie.spec
    invariant-loop-at
    decreases-loop-at
    (λ c. (search rules, search card_from, search nothing_read))
    (λ c κs. search rules)
    (λ c. (search (refused, card_open), search no_values))
    (λ c. search rules)
    (λ c. search rules)
    (λ c. search rules)
    (λ c κs. search rules)
    (λ c. (search (refused, card_order), search no_values))
    (λ c. search rules)
    (λ c κs. search rules)
    (λ c. search card_room)
    (λ c. search card_room)
    (λ c. search rules)
    (λ c κs. search rules)
    (λ c. (search (refused, card_unfit), search no_values))
    (λ c. search rules)
    (λ c. search rules)
    (λ c. search rules)
    (λ c. search rules)
    loop_again
    (λ c κs. search rules)
    (λ c. (search (accepted, card_done), λ e. search all_noted)))
