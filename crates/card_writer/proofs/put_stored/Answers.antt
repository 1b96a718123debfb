-- A turn writes the first of the attributes that are left, its value at the bounds of its index.
use Rattle.std.proofs.Common.{rules}
use Rattle.card_attributes.proofs.TableLaws.{name_three}
use Rattle.card_incoming.proofs.ValueLaws.{value_fits}
use Rattle.card_writer.proofs.LoadLaws.{bounds_are}
use Rattle.card_writer.proofs.WriteLaws.{all_left, entry_room, entry_turn, all_written}
use Rattle.card_writer.proofs.put_stored.Goals as goal

pub loop-k-init : goal.loop-k-init
loop-k-init c = search all_left

pub put_attribute-at-requires : goal.put_attribute-at-requires
put_attribute-at-requires c =
    ((search (rules, value_fits), search (rules, bounds_are)), search (rules, name_three), search (rules, entry_room))

pub loop-k-preserved : goal.loop-k-preserved
loop-k-preserved c = search (rules, entry_turn)

pub returns : goal.returns
returns c = search (rules, all_written)
