-- One turn of the loop over the headers, and the headers themselves.
use mathlib.Core.Path.{◌≡◌, refl, sym, ap, ◌∙◌}
use mathlib.Core.Bool.{Bool, true, false, cond}
use mathlib.Core.Logic.{◌≢◌}
use mathlib.Core.List.{List, [], ◌∷◌}
use Prim.Native.Nat.{ℕ, ◌+◌, ◌≤◌, ◌<◌}
use native.Mathlib.Numerals.{add-one}
use lib.ListN.{get_or, drop, drop_of_length-le}
use lib.Seq.{drop-cons}
use Rattle.byte_strings.specs.Texts.{text}
use Rattle.byte_strings.specs.Strings.{same_bytes}
use Rattle.byte_strings.proofs.Flags.{nope}
use Rattle.byte_strings.proofs.StringLaws.{same_equal}
use Rattle.message_commands.specs.Commands.{headers, named, command_of}
use Rattle.message_commands.specs.declared.Command.{Command}
use Rattle.message_commands.specs.declared.Command.TheVariants.{GL, Unknown}
use Rattle.message_commands.specs.declared.Header.{Header}

-- header_at
pub at_place : (d : Header) (k : ℕ) → k < 10 → drop k headers ≡ get_or headers k d ∷ drop (k + 1) headers
unfolding headers
at_place d k h = rw add-one (drop-cons headers k d h)

-- command_of: z is the answer; t is whether the header is that of the k-th command
module _ (h : List ℕ) (z : Command) (k : ℕ) (inv : named (drop k headers) h ≡ z) where
  pub none_named : 10 ≤ k → Unknown ≡ z
  unfolding headers
  none_named l = ap (λ (es : List Header). named es h) (sym (drop_of_length-le headers {i = k} l)) ∙ inv

  module _ (e : Header) (p : drop k headers ≡ e ∷ drop (k + 1) headers) (t : Bool) (q : t ≡ same_bytes h e.1) where
    pub named_here : t ≡ true → e.0 ≡ z
    named_here o = rw (p, ← q, o) at inv

    pub named_later : t ≡ false → named (drop (k + 1) headers) h ≡ z
    named_later o = rw (p, ← q, o) at inv

-- each of the ten headers is read as its own command: none is like another
abbrev pub Reads : List Header → Type 0
Reads [] = Unit
Reads (e ∷ es) = (command_of e.1 ≡ e.0) × Reads es

pub each_reads : Reads headers
unfolding command_of headers
each_reads = (refl, (refl, (refl, (refl, (refl, (refl, (refl, (refl, (refl, (refl, tt))))))))))

-- the only header with a command's name: c is the command, t the header
abbrev Only : Command → List ℕ → List Header → Type 0
Only c t [] = Unit
Only c t (e ∷ es) = (e.0 ≡ c → e.1 ≡ t) × Only c t es

only_header : (c : Command) (t : List ℕ) (es : List Header) (h : List ℕ) → Only c t es → c ≢ Unknown → named es h ≡ c → h ≡ t
only_header c t [] h o n e = absurd (n (sym e))
only_header c t (x ∷ es) h o n e = go (same_bytes h x.1) refl e (only_header c t es h o.1 n)
  where
    go : (b : Bool) → same_bytes h x.1 ≡ b → cond b x.0 (named es h) ≡ c → (named es h ≡ c → h ≡ t) → h ≡ t
    go true q w more = same_equal h x.1 q ∙ o.0 w
    go false q w more = more w

-- a request is SM?GL by this header alone
pub list_header : (h : List ℕ) → command_of h ≡ GL → h ≡ text "SM?GL"
unfolding command_of headers
list_header h e =
    only_header GL (text "SM?GL") headers h
    (λ z. nope (cc), (λ z. nope (cc), (λ z. nope (cc), (λ z. nope (cc), (λ z. nope (cc), (λ z. nope (cc), (λ z. nope (cc), (λ z. nope (cc), (λ z. refl, (λ z. nope (cc), tt))))))))))
    (λ z. nope (cc)) e
