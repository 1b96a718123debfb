use Rattle.std.proofs.Common.{rules}
use Rattle.check_crc.proofs.Folds.{eight_bits, fourteen_bits, word_done}
use Rattle.check_crc.proofs.crc_word.Goals as goal

pub returns : goal.returns
unfolding eight_bits fourteen_bits
returns c = search (word_done, rules)
