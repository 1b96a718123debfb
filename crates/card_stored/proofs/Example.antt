-- What is stored of the card of 001 example 6.3.5.4, computed: each value from its source, the engine's own, the card's and the default card's.
use mathlib.Core.Path.{◌≡◌, refl}
use Rattle.byte_strings.specs.Texts.{text}
use Rattle.text_classes.specs.Classes.{are_all}
use Rattle.card_attributes.specs.Table.{table, always}
use Rattle.card_entries.specs.Entries.{name_of, value_of, value_or, entry_bytes}
use Rattle.card_stored.specs.Stored.{default_card, load_values, stored_value, stored_card}

pub example : stored_card (text "ACT20130716T151031Z;BDT20130716T151031Z;DKG04;KEN255;KRN6;KTC2;SGC0000758825;") (load_values (text "92E101") (text "KMC1"))
    ≡ text "ACT20130716T151031Z;BDT20130716T151031Z;CLMFFFFFFFF;CLU0;DKG04;IUT20380119T031407Z;KCV92E101;KEN255;KRN6;KSLKMC1;KTC2;SBMFFFF;SGC0000758825;ULM999999999;VND0;"
unfolding table always default_card stored_value stored_card name_of value_of value_or entry_bytes are_all
example = refl

-- the same card with every optional value given: each is kept
pub given : stored_card (text "ACT20130716T151031Z;BDT20130716T151031Z;CLM00000001;DKG04;IUT20300101T000000Z;KEN255;KRN6;KTC2;SBM0003;SGC0000758825;ULM5000;") (load_values (text "92E101") (text "KMC1"))
    ≡ text "ACT20130716T151031Z;BDT20130716T151031Z;CLM00000001;CLU0;DKG04;IUT20300101T000000Z;KCV92E101;KEN255;KRN6;KSLKMC1;KTC2;SBM0003;SGC0000758825;ULM5000;VND0;"
unfolding table always default_card stored_value stored_card name_of value_of value_or entry_bytes are_all
given = refl

-- a supply group name is kept between SGC and ULM, and an empty one stays empty
pub named : stored_card (text "ACT20130716T151031Z;BDT20130716T151031Z;DKG04;KEN255;KRN6;KTC2;SGC0000758825;SGNSURELOAD KMC TEST VUDK 1;") (load_values (text "92E101") (text "KMC1"))
    ≡ text "ACT20130716T151031Z;BDT20130716T151031Z;CLMFFFFFFFF;CLU0;DKG04;IUT20380119T031407Z;KCV92E101;KEN255;KRN6;KSLKMC1;KTC2;SBMFFFF;SGC0000758825;SGNSURELOAD KMC TEST VUDK 1;ULM999999999;VND0;"
unfolding table always default_card stored_value stored_card name_of value_of value_or entry_bytes are_all
named = refl

pub unnamed : stored_card (text "ACT20130716T151031Z;BDT20130716T151031Z;DKG04;KEN255;KRN6;KTC2;SGC0000758825;SGN;") (load_values (text "92E101") (text "KMC1"))
    ≡ text "ACT20130716T151031Z;BDT20130716T151031Z;CLMFFFFFFFF;CLU0;DKG04;IUT20380119T031407Z;KCV92E101;KEN255;KRN6;KSLKMC1;KTC2;SBMFFFF;SGC0000758825;SGN;ULM999999999;VND0;"
unfolding table always default_card stored_value stored_card name_of value_of value_or entry_bytes are_all
unnamed = refl
