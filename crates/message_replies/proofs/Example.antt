-- The response of 001 clause 5.3.2, SM!DI00P94001234~PSTS65V00~749F and a carriage return, is what the reply to SM?DI is written as, and says it: computed.
use mathlib.Core.Path.{◌≡◌, refl}
use mathlib.Core.List.{List, [], ◌∷◌}
use Prim.Native.Nat.{ℕ}
use Rattle.byte_strings.specs.Texts.{text}
use Rattle.check_crc.specs.Crc.{crc_bit, crc_eight, crc_byte}
use Rattle.check_digits.specs.Hex.{hex_digit}
use Rattle.check_sums.specs.Checksum.{sum_digits, ends_in_sum}
use Rattle.text_classes.specs.Classes.{are_all}
use Rattle.field_values.specs.Values.{string, typed, values_of, content_bytes}
use Rattle.message_frames.specs.Frames.{ends_in_return, is_whole, is_checked, text_of, header_of, ending, framed, answered}
use Rattle.message_replies.specs.Responses.{Reply, reply_bytes, reply_to, status_of, fields_of, Says}

abbrev response : List ℕ
response = text "SM!DI00P94001234~PSTS65V00~749F\r"

-- header SM!DI, status 00, fields 94001234 and STS65V00
abbrev reply : Reply
reply = reply_to (text "SM?DI") (text "00") (string (text "94001234") ∷ string (text "STS65V00") ∷ [])

-- it is written as printed,
pub written : reply_bytes reply ≡ response
unfolding crc_bit crc_eight crc_byte hex_digit sum_digits content_bytes ending framed answered reply_bytes
written = refl

-- and reads as just this reply
pub example : Says response reply
unfolding crc_bit crc_eight crc_byte hex_digit sum_digits ends_in_sum are_all typed values_of ends_in_return is_whole is_checked text_of header_of answered status_of fields_of
example = record { whole = refl; checked = refl; header_is = refl; status_is = refl; fields_are = refl }
