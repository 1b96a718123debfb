-- The frame of a message: header, payload, checksum, carriage return (001 clauses 5.2 and 5.3; document 01, Checksum
-- and fields).
use Rattle.std.specs.Prelude.{ℕ, ◌-◌, Bool, List, [], ◌∷◌, ◌++◌, eqb, leb, length, take, drop}
use Rattle.byte_strings.specs.Strings.{is_not, run}
use Rattle.byte_strings.specs.Texts.{text, all}
use Rattle.check_sums.specs.Checksum.{sum_digits, ends_in_sum}
use Rattle.check_sums.specs.declared.Kind.TheVariants.{Arc}

-- the terminator of a message (001 clause 5.3.1)
abbrev pub carriage_return : ℕ
carriage_return = 13

-- the first carriage return is the last byte
unfoldable pub ends_in_return : List ℕ → Bool
ends_in_return s = eqb (run (is_not carriage_return) s) (length s - 1)

-- question 5
unfoldable pub is_whole : List ℕ → Bool
is_whole s =
    all (
    leb 10 (length s)  -- 10 to 1,024 bytes in all
    ∷ leb (length s) 1024
    ∷ ends_in_return s  -- the only carriage return, at the end
    ∷ [])

-- question 6: the checksum before the carriage return is that of all before it
unfoldable pub is_checked : List ℕ → Bool
is_checked s =
    all (
    leb 1 (length s)
    ∷ ends_in_sum Arc (take (length s - 1) s)
    ∷ [])

-- what the checksum covers
unfoldable pub text_of : List ℕ → List ℕ
text_of s = take (length s - 5) s

unfoldable pub header_of : List ℕ → List ℕ
header_of s = take 5 (text_of s)

-- what follows the header of a request
unfoldable pub payload_of : List ℕ → List ℕ
payload_of s = drop 5 (text_of s)

-- checksum and carriage return of a text
unfoldable pub ending : List ℕ → List ℕ
ending s = sum_digits Arc s ++ (carriage_return ∷ [])

-- a message as it is sent
unfoldable pub framed : List ℕ → List ℕ
framed s = s ++ ending s

-- a request as it is sent
unfoldable pub request_bytes : List ℕ → List ℕ → List ℕ
request_bytes header payload = framed (header ++ payload)

-- a response's header: that of the request with ! for ? (001 clause 5.3.1)
unfoldable pub answered : List ℕ → List ℕ
answered header = take 2 header ++ (text "!" ++ drop 3 header)

-- header and status of a response
unfoldable pub head_bytes : List ℕ → List ℕ → List ℕ
head_bytes header status = answered header ++ status
