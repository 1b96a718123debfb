-- How accepted requests are read: one with the header of a command is that event, of its own field.
use mathlib.Core.Path.{◌≡◌, refl}
use mathlib.Core.Bool.{true}
use mathlib.Core.List.{List, [], ◌∷◌}
use Prim.Native.Nat.{ℕ}
use Rattle.byte_strings.specs.Texts.{text}
use Rattle.byte_strings.proofs.Flags.{nope}
use Rattle.record_identities.specs.Identities.{name_in}
use Rattle.card_stored.specs.Stored.{in_row}
use Rattle.message_replies.specs.Responses.{fields_of}
use Rattle.message_commands.specs.Commands.{headers, command_of}
use Rattle.message_commands.specs.declared.Command.{Command}
use Rattle.message_commands.specs.declared.Command.TheVariants.{RS, KC, KR, KL, KF, KX, KD, GA, GL, KQ, Unknown}
use Rattle.message_frames.specs.Frames.{header_of}
use Rattle.history.specs.Model.{kc, kr, kl, kf, kx, kd, rs, other, done, loaded, ◌⇒◌}
use Rattle.engine.specs.Requests.{is_among, command_in, fields_in, first_text, second_text, register_in, record_in, slot_in, kmc_identity_in, card_in}
use Rattle.engine.specs.Questions.{group_in, revision_in}
use Rattle.engine.specs.Words.{request_of, is_accepted, item_for, item_of}

-- q is a request and a an accepted answer to it
module _ (q a : List ℕ) (y : is_accepted a ≡ true) where
  -- GL?RS
  pub rs_read : header_of q ≡ (text "GL?RS") → item_of q a ≡ (rs ⇒ done)
  unfolding command_of headers
  rs_read h = rw (h, y) refl

  -- SM?KC, of the KMCID in the KMC identity of its record
  pub kc_read : header_of q ≡ (text "SM?KC") → item_of q a ≡ (kc (name_in (kmc_identity_in (first_text (fields_in q)))) ⇒ done)
  unfolding command_of headers slot_in
  kc_read h = rw (h, y) refl

  -- SM?KR, of the KMCID in the KMC identity of its record
  pub kr_read : header_of q ≡ (text "SM?KR") → item_of q a ≡ (kr (name_in (kmc_identity_in (first_text (fields_in q)))) ⇒ done)
  unfolding command_of headers slot_in
  kr_read h = rw (h, y) refl

  -- SM?KL, of its slot field and the card in its KEY.1 record; its answer's register, and the answer's card with zeros after it
  pub kl_read : header_of q ≡ (text "SM?KL")
      → item_of q a ≡ (kl (first_text (fields_in q)) (group_in (card_in (second_text (fields_in q)))) (revision_in (card_in (second_text (fields_in q)))) ⇒ loaded (register_in (fields_of a)) (in_row (second_text (fields_of a))))
  unfolding command_of headers slot_in record_in
  kl_read h = rw (h, y) refl

  -- SM?KF, SM?KX, of their slot field
  pub kf_read : header_of q ≡ (text "SM?KF") → item_of q a ≡ (kf (first_text (fields_in q)) ⇒ done)
  unfolding command_of headers slot_in
  kf_read h = rw (h, y) refl

  pub kx_read : header_of q ≡ (text "SM?KX") → item_of q a ≡ (kx (first_text (fields_in q)) ⇒ done)
  unfolding command_of headers slot_in
  kx_read h = rw (h, y) refl

  -- SM?KD, of its register field
  pub kd_read : header_of q ≡ (text "SM?KD") → item_of q a ≡ (kd (register_in (fields_in q)) ⇒ done)
  unfolding command_of headers
  kd_read h = rw (h, y) refl

  -- SM?GA, SM?GL, SM?KQ: commands that change nothing
  pub others_read : is_among (command_in q) (GA ∷ GL ∷ KQ ∷ []) ≡ true → item_of q a ≡ (other ⇒ done)
  others_read e = go (command_in q) e
    where
      go : (c : Command) → is_among c (GA ∷ GL ∷ KQ ∷ []) ≡ true → item_for (request_of c (fields_in q)) a ≡ (other ⇒ done)
      go RS e = nope (cc)
      go KC e = nope (cc)
      go KR e = nope (cc)
      go KL e = nope (cc)
      go KF e = nope (cc)
      go KX e = nope (cc)
      go KD e = nope (cc)
      go GA e = rw y refl
      go GL e = rw y refl
      go KQ e = rw y refl
      go Unknown e = nope (cc)
