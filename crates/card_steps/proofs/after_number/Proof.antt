-- `card_steps::after_number` meets its contract, a law a return.
use Rattle.card_steps.proofs.Numbers.{number_none, number_other, number_open, number_unended, number_out, number_stands, number_all, limit_start}
use native.Mathlib.Omega.{arith}
use borrow.Author.Rules.{rules}
use Rattle.card_steps.proofs.after_number.Statement.{statement}
use Rattle.card_steps.proofs.after_number.Tie as tie

returns_6 : tie.Need-returns
returns_6 c =
    let i = c.before.before.before in
    let d = i.before.before.before in
    let l = d.before.before in
    let e = l.before.before.before.before.before.before in (
      number_stands _ e.requires.1 _ _ _ _ _ l.lesser-limit.ensures.1 _ d.digit_count.ensures.0 _ c.before.is_number.ensures _ l.before.before.name_of.ensures l.before.if-name_of-name.false e.requires.2 i.before.before.if-s-end.false (omega arith) c.if-not-is_number.false-raw,
      search rules,
    )

-- from here on a search of all fields breaks off, so the facts are given
pub after_number_spec : {M : Type 1} → statement M
after_number_spec =
    tie.close
    (tie.spec
    (λ c. search rules)
    (λ c. search rules)
    (λ c. (search number_none, search rules))
    (λ c. search rules)
    (λ c. search rules)
    (λ c. search rules)
    (λ c. search rules)
    (λ c κs. search rules)
    (λ c. search rules)
    (λ c. (search number_other, search rules))
    (λ c. search rules)
    (λ c. search rules)
    (λ c. search rules)
    (λ c κs. search rules)
    (λ c. search limit_start)
    (λ c. search limit_start)
    (λ c. search rules)
    (λ c κs. search rules)
    (λ c. search rules)
    (λ c. search rules)
    (λ c.
    let d = c.before in
    let l = d.before.before in
    let e = l.before.before.before.before.before.before in
    (number_open _ e.requires.1 _ _ _ _ _ l.lesser-limit.ensures.1 _ d.digit_count.ensures.0 c.if-s-end.true, search rules))
    (λ c. search rules)
    (λ c. search rules)
    (λ c.
    let d = c.before.before.before in
    let l = d.before.before in
    let e = l.before.before.before.before.before.before in
    (number_unended _ e.requires.1 _ _ _ _ _ l.lesser-limit.ensures.1 _ d.digit_count.ensures.0 (search rules), search rules))
    (λ c. search rules)
    (λ c. search rules)
    (λ c. search rules)
    (λ c κs. (search rules, number_all _ _ _ _ c.before.before.before.before.digit_count.ensures.0))
    (λ c. search rules)
    (λ c.
    let d = c.before.before.before.before.before.before in
    let l = d.before.before in
    let e = l.before.before.before.before.before.before in
    (number_out _ e.requires.1 _ _ _ _ _ l.lesser-limit.ensures.1 _ d.digit_count.ensures.0 _ c.before.is_number.ensures c.if-not-is_number.true-raw, search rules))
    (λ c. search rules)
    returns_6)
