-- What the steps of the builder come to.
use mathlib.Core.Path.{◌≡◌, refl, sym, ap, ◌∙◌}
use mathlib.Core.List.{List, [], ◌∷◌, ◌++◌, append_assoc, map}
use Prim.Native.Nat.{ℕ, ◌+◌, ◌-◌, ◌≤◌, ◌<◌}
use native.Mathlib.Numerals.{add-one}
use native.Mathlib.Omega.{arith}
use lib.ListN.{length, get_or, take, drop, length-append, length-map}
use lib.Seq.{sets, drop-cons}
use Rattle.std.specs.List.{sum_by}
use Rattle.std.proofs.Common.{Bor}
use Rattle.std.proofs.lemmas.List.{get_or-map}
use Rattle.std.proofs.lemmas.List.Sums.{sum_by-cons}
use Rattle.byte_strings.specs.Wrote.{Wrote}
use Rattle.byte_pieces.specs.Pieces.{joined}
use Rattle.byte_strings.proofs.Writes.{then, sets_append, written_part}
use Rattle.check_sums.specs.Checksum.{sum_digits}
use Rattle.check_sums.specs.declared.Kind.TheVariants.{Modbus}
use Rattle.record_writer.specs.Build.{record_bytes}

-- put_field
pub field_written : {d e f v : List ℕ} {a b c : ℕ} (x : ℕ) → Wrote d a v e b → Wrote e b (x ∷ []) f c → Wrote d a (joined x (v ∷ [])) f c
field_written x p q = then p q

-- put_fields: what is left of the fields, from the i-th on, is what is left to write
pub record Left (x : ℕ) (fs : List (List ℕ)) (d₀ : List ℕ) (a₀ : ℕ) (d : List ℕ) (a i : ℕ) : Type 0 where
  pub next : a + length (joined x (drop i fs)) ≡ a₀ + length (joined x fs)
  pub bytes : sets d a (joined x (drop i fs)) ≡ sets d₀ a₀ (joined x fs)

module _ (x : ℕ) (bs : List (Bor (List ℕ))) (b : Bor (List ℕ)) (d₀ : List ℕ) (a₀ : ℕ) (d : List ℕ) (a i : ℕ) where
  abbrev fs : List (List ℕ)
  fs = map (λ f. f.now) bs

  abbrev v : List ℕ
  v = (get_or bs i b).now

  module _ (w : Left x fs d₀ a₀ d a i) (h : i < length bs) where
    here : joined x (drop i fs) ≡ v ++ (x ∷ joined x (drop (i + 1) fs))
    here =
        let l : i < length fs = omega (arith, length-map bs (λ (f : Bor (List ℕ)). f.now)) in
        let e : get_or fs i [] ≡ v = get_or-map (λ (f : Bor (List ℕ)). f.now) bs i b [] h in
        rw (add-one, drop-cons fs i [] l, e)

    pub left_room : (n : ℕ) → a₀ + length (joined x fs) ≤ n → a + length v + 1 ≤ n
    left_room n k = let l = length-append v (x ∷ joined x (drop (i + 1) fs)) in let j = ap length here in let m = w.next in omega arith

    pub left_turn : (e : List ℕ) (c : ℕ) → Wrote d a (joined x (v ∷ [])) e c → Left x fs d₀ a₀ e c (i + 1)
    left_turn e c p =
        let q : (v ++ (x ∷ [])) ++ joined x (drop (i + 1) fs) ≡ joined x (drop i fs) = append_assoc v (x ∷ []) (joined x (drop (i + 1) fs)) ∙ sym here in
        record {
          next = rw p.next (let l = length-append (v ++ (x ∷ [])) (joined x (drop (i + 1) fs)) in let j = ap length q in let m = w.next in omega arith);
          bytes = rw (p.bytes, p.next, sets_append, q) w.bytes;
        }

-- how many bytes fields take, each with its delimiter
its_fields : (x : ℕ) (bs : List (Bor (List ℕ))) → length (joined x (map (λ f. f.now) bs)) ≡ sum_by (λ f. length f.now + 1) bs
its_fields x [] = refl
its_fields x (b ∷ bs) = rw (length-append, its_fields x bs, sum_by-cons (λ (f : Bor (List ℕ)). length f.now + 1) b bs) (omega arith)

-- put_record: the check value of type and fields behind them makes the record
module _ (x : ℕ) (kind : List ℕ) (fs : List (List ℕ)) (d : List ℕ) (a : ℕ) (h : a + length (record_bytes kind x fs) ≤ length d) where
  its_length : length (record_bytes kind x fs) ≡ length kind + 1 + length (joined x fs) + 4
  unfolding record_bytes sum_digits
  its_length =
      let r = joined x (kind ∷ fs) in
      rw length-append (let l = length-append kind (x ∷ joined x fs) in omega arith)

  pub type_room : a + length kind + 1 ≤ length d
  type_room = omega (arith, its_length)

  module _ (e : List ℕ) (b : ℕ) (p : Wrote d a (joined x (kind ∷ [])) e b) (o : length e ≡ length d) where
    pub fields_room : b + length (joined x fs) ≤ length e
    fields_room = omega (arith, its_length, p.next, length-append kind (x ∷ []))

    module _ (f : List ℕ) (c : ℕ) (q : Wrote e b (joined x fs) f c) (m : length f ≡ length e) where
      pub sum_room : (a ≤ c) × (c + 4 ≤ length f)
      sum_room = (omega (arith, p.next, q.next), omega (arith, its_length, p.next, q.next, length-append kind (x ∷ [])))

      pub record_written : (g : List ℕ) (r : ℕ) → Wrote f c (sum_digits Modbus (take (c - a) (drop a f))) g r → Wrote d a (record_bytes kind x fs) g r
      unfolding record_bytes
      record_written g r w =
          let t : Wrote d a (joined x (kind ∷ fs)) f c = rw append_assoc at (then p q) in
          then t (rw (written_part t (omega (arith, sum_room.1))) at w)

-- and how long the record is
pub record_short : (x : ℕ) (kind : List ℕ) (bs : List (Bor (List ℕ))) (d g : List ℕ) (a r : ℕ) → a + length (record_bytes kind x (map (λ f. f.now) bs)) ≤ length d → Wrote d a (record_bytes kind x (map (λ f. f.now) bs)) g r → r ≡ a + length kind + sum_by (λ f. length f.now + 1) bs + 5
record_short x kind bs d g a r h w = omega (arith, w.next, its_length x kind (map (λ f. f.now) bs) d a h, its_fields x bs)
