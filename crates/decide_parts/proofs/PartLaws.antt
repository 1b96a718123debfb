-- What was decided, with its parts, from what the code knows where it returns: s is the payload, and d has the decision e.
use mathlib.Core.Path.{◌≡◌, ap, subst, ◌∙◌}
use mathlib.Core.List.{List}
use mathlib.Core.Option.{Option, none, some}
use Prim.Native.Nat.{ℕ}
use Rattle.byte_bounds.specs.Bounds.{bytes_in, Stands, inside}
use Rattle.byte_bounds.specs.declared.Bounds.{Bounds}
use Rattle.byte_bounds.proofs.BoundsLaws.{stands_inside}
use Rattle.field_values.specs.Values.{values_of}
use Rattle.card_incoming.specs.Incoming.{AreValues}
use Rattle.record_identities.specs.Identities.{name_in, fingerprint_in}
use Rattle.engine.specs.Requests.{first_text, second_text, kmc_identity_in, card_in}
use Rattle.engine.specs.Decisions.{decided}
use Rattle.engine.specs.declared.Refusal.{Refusal}
use Rattle.engine.specs.declared.Decision.{Decision}
use Rattle.engine.specs.declared.Decision.TheVariants.{Refuse, Start, Open, Load}
use Rattle.decide_payloads.specs.Payloads.{OnlyText, BothTexts}
use Rattle.decide_payloads.specs.declared.Texts.{Texts}
use Rattle.decide_parts.specs.Parts.{HasParts, IsDecided}
use Rattle.decide_parts.specs.declared.Parts.{Parts}
use Rattle.decide_parts.specs.declared.Decided.{Decided}

-- a refusal uses no part
pub refused : (d : Decided) (r : Refusal) (e : Decision) (s : List ℕ) → d.decision ≡ Refuse r → Refuse r ≡ e → IsDecided d e s
refused d r e s p q = record { decision_is = p ∙ q; parts_stand = rw p tt }

-- the parts of a decision, unless a question was a no
pub parts_of : (o : Option Refusal) (e : Decision) (p : Parts) (s : List ℕ) → HasParts e p s → HasParts (decided o e) p s
parts_of (some r) e p s h = tt
parts_of none e p s h = h

-- granted at a place, or refused; f is the name of the decision, Open or Load
pub record Grants (f : ℕ → Decision) (g : Decision) : Type 0 where
  pub no : Option Refusal
  pub place : ℕ
  pub is : g ≡ decided no (f place)

pub grants : (f : ℕ → Decision) (o : Option Refusal) (k : ℕ) (g : Decision) → g ≡ decided o (f k) → Grants f g
grants f o k g e = record { no = o; place = k; is = e }

-- the record r is the only string
module _ (s : List ℕ) (at : Bounds) (only : OnlyText s at) where
  abbrev r : List ℕ
  r = bytes_in s at

  -- a part of it, with the bounds b in it
  stood : (f : List ℕ → List ℕ) (b : Bounds) → Stands r b (f r) → Stands s (inside at b) (f (first_text (values_of s)))
  stood f b w = subst (Stands s (inside at b)) (ap f only.stands.1) (stands_inside s at only.stands.0 b (f r) w)

  module _ (a : Bounds) (w : Stands r a (name_in (kmc_identity_in r))) where
    pub started : (b : Bounds) → Stands r b (fingerprint_in (kmc_identity_in r)) → (d : Decided) (k : ℕ) → d.decision ≡ Start k → d.parts.slot ≡ inside at a → d.parts.fingerprint ≡ inside at b
        → (e : Decision) → Start k ≡ e → IsDecided d e s
    started b v d k p i j e q =
        record { decision_is = p ∙ q; parts_stand = rw (p, i, j) (stood (λ (u : List ℕ). name_in (kmc_identity_in u)) a w, stood (λ (u : List ℕ). fingerprint_in (kmc_identity_in u)) b v) }

    pub opened : (g : Decision) (p : Parts) → Grants Open g → (b : Bounds) → b ≡ inside at a → p.slot ≡ b → (e : Decision) → g ≡ e → IsDecided (record { decision = g; parts = p }) e s
    opened g p i b j l e q =
        record { decision_is = q; parts_stand = rw i.is (parts_of i.no (Open i.place) p s (rw (l, j) (stood (λ (u : List ℕ). name_in (kmc_identity_in u)) a w))) }

-- the slot and the record w are the two strings, and the card its part with the bounds c in it
module _ (s : List ℕ) (t : Texts) (both : BothTexts s t) (c : Bounds) (values : List Bounds) where
  abbrev w : List ℕ
  w = bytes_in s t.second

  pub loaded : Stands w c (card_in w) → AreValues values (card_in w) → (g : Decision) (p : Parts) → Grants Load g → p.slot ≡ t.first → (d : Bounds) → d ≡ inside t.second c → p.card ≡ d → p.values ≡ values
      → (e : Decision) → g ≡ e → IsDecided (record { decision = g; parts = p }) e s
  loaded card read g p i j d l m n e q =
      record { decision_is = q; parts_stand = rw i.is (parts_of i.no (Load i.place) p s (rw j both.first_stands, (rw (m, l) stood_card, rw n stood_values))) }
    where
      stood_card : Stands s (inside t.second c) (card_in (second_text (values_of s)))
      stood_card = subst (Stands s (inside t.second c)) (ap card_in both.second_stands.1) (stands_inside s t.second both.second_stands.0 c (card_in w) card)

      stood_values : AreValues values (card_in (second_text (values_of s)))
      stood_values = subst (λ (u : List ℕ). AreValues values (card_in u)) both.second_stands.1 read
