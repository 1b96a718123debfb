-- `entry_core::find` meets its contract, a law a return.
use Rattle.decide_counts.proofs.CountLaws.{few_slots, few_registers}
use Rattle.entry_core.proofs.FoundLaws.{not_counted, lent_few, lent_front, is_found, are_owners}
use borrow.Author.Rules.{rules}
use Rattle.entry_core.proofs.find.Statement.{statement}
use Rattle.entry_core.proofs.find.Tie as tie

returns : tie.Need-returns-then-not-are_counts
returns c =
    let p = c.are_counts.ensures in
    let o = c.if-not-are_counts.true-raw in
    ((λ z. not_counted _ _ _ p o z), (λ z. not_counted _ _ _ p o z))

returns_2 : tie.Need-returns
returns_2 c =
    let h = few_registers _ _ _ c.are_counts.ensures c.if-not-are_counts.false-raw in
    let z = c.requires in
    let e = c.find.ensures in
    ((λ y. is_found _ _ z h _ _ _ e.0 _ e.1.0), (λ y. are_owners _ _ z h _ _ _ e.0 _ e.1.1))

pub find_spec : {M : Type 1} → statement M
find_spec =
    tie.close
    (tie.spec
    (λ c κs. search rules)
    (λ c κs. search rules)
    returns
    (λ c. search (lent_front, few_registers))
    (λ c κs. (search few_slots, search (lent_few, few_registers)))
    returns_2)
