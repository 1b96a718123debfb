-- `card_steps::after_any` meets its contract, a law a return.
use native.Mathlib.Omega.{arith}
use Rattle.card_steps.proofs.Stands.{any_cases, any_out, any_in, any_room}
use borrow.Author.Rules.{rules}
use Rattle.card_steps.proofs.after_any.Statement.{statement}
use Rattle.card_steps.proofs.after_any.Tie as tie

-- the value starts within the entry; from here on a search of all fields breaks off, so the facts are given
sub_in_form : tie.Need-slice_bounds-in_form-count
sub_in_form c =
    omega (arith, any_room _ _ _ _ c.piece_end-end.ensures.0 c.if-s-end.false _ c.name_of.ensures c.if-name_of-name.false c.requires.1)

part_in_form_start : tie.Need-slice_bounds-in_form-start
part_in_form_start c = sub_in_form c

returns_5 : tie.Need-returns
returns_5 c =
    (any_in _ _ _ _ c.if-s-at.false _ c.piece_end-end.ensures.0 c.if-s-end.false _ c.name_of.ensures c.if-name_of-name.false _ c.in_form.ensures c.if-not-in_form.false-raw, search rules)

pub after_any_spec : {M : Type 1} → statement M
after_any_spec =
    tie.close
    (tie.spec
    (λ c. search rules)
    (λ c. (search any_cases, search rules))
    (λ c κs. search rules)
    (λ c. search rules)
    (λ c. (search any_cases, search rules))
    (λ c. search rules)
    (λ c. search rules)
    (λ c. search rules)
    (λ c κs. search rules)
    (λ c. search rules)
    (λ c. (search any_cases, search rules))
    (λ c. search rules)
    sub_in_form
    part_in_form_start
    (λ c. search rules)
    (λ c κs. search rules)
    (λ c. search rules)
    (λ c.
    (any_out _ _ _ _ c.if-s-at.false _ c.piece_end-end.ensures.0 c.if-s-end.false _ c.name_of.ensures c.if-name_of-name.false _ c.in_form.ensures c.if-not-in_form.true-raw, search rules))
    (λ c. search rules)
    returns_5)
