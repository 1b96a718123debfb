-- A byte string cut at a delimiter that ends each piece: PTVD fields end in ~ (001 Table 6), the fields of a record
-- in its delimiter (003 clause 5.7), the entries of a card in ; (document 01, Cards).
use Rattle.std.specs.Prelude.{ℕ, Bool, true, cond, List, [], ◌∷◌, ◌++◌, eqb}

-- a byte that belongs to the first piece, if there is one
abbrev pub onto : ℕ → List (List ℕ) → List (List ℕ)
onto b [] = []
onto b (p ∷ ps) = (b ∷ p) ∷ ps

-- the pieces, each without its delimiter; what follows the last delimiter is none
abbrev pub pieces : ℕ → List ℕ → List (List ℕ)
pieces delimiter [] = []
pieces delimiter (b ∷ bs) = cond (eqb b delimiter) ([] ∷ pieces delimiter bs) (onto b (pieces delimiter bs))

-- nothing follows the last delimiter
abbrev pub is_ended : ℕ → List ℕ → Bool
is_ended delimiter [] = true
is_ended delimiter (b ∷ []) = eqb b delimiter
is_ended delimiter (b ∷ c ∷ cs) = is_ended delimiter (c ∷ cs)

-- the pieces as they are written, each with its delimiter
abbrev pub joined : ℕ → List (List ℕ) → List ℕ
joined delimiter [] = []
joined delimiter (p ∷ ps) = p ++ (delimiter ∷ joined delimiter ps)
