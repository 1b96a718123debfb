-- What is said of the tables that the rows are loaded into is said of the rows.
use Rattle.std.proofs.Common.{◌∙◌, ap}
use Rattle.entry_contracts.specs.Numbers.{yes_byte}
use Rattle.entry_contracts.proofs.LentLaws.{same_usable}
use Rattle.diminurel.proofs.diminurel_usable.Goals as goal

pub returns : goal.returns
returns c =
    rw (c.load_slots.ensures, c.load_cards-cards.ensures, c.load_marks-marks.ensures) at c.usable.ensures
    ∙ ap yes_byte (same_usable c.args.slots.now c.args.registers.now c.args.register)
