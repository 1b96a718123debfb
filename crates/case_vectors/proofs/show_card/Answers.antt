-- `case_vectors::show_card` writes a card that fits its row.
use Rattle.card_incoming.proofs.ValueLaws.{read_values}
use Rattle.case_vectors.proofs.StoredLaws.{fits}
use Rattle.case_vectors.proofs.show_card.Goals as goal

pub write_stored-card-requires : goal.write_stored-card-requires
write_stored-card-requires g c = (search read_values, search fits)
