-- A number that is judged: how many digits it has, and between which numbers it is.
use Rattle.text_decimals.proofs.NumberLaws.{number_short, number_most, number_least}

pub ruleset number_bounds = (number_short, number_most, number_least)
