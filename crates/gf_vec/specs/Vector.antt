-- Whole vectors, as lists of whole numbers: sums, dot products, combinations of rows.
-- `times k xs`, each entry times k, stands in gf_int_theory. Laws: proofs/VectorLaws.antt, proofs/DotLaws.antt, proofs/EntryLaws.antt.
use Rattle.std.specs.Prelude.{ℕ, List, [], ◌∷◌, ℤ, pos, ◌+ℤ◌, ◌*ℤ◌, negsuc, replicate, ◌<ℤ◌, ◌⊎◌, slice_index_or}
use Rattle.gf_int_theory.specs.Content.{scaled}

-- the dot product, of the shorter length
abbrev pub dot : List ℤ → List ℤ → ℤ
dot [] ys = pos 0
dot (x ∷ xs) [] = pos 0
dot (x ∷ xs) (y ∷ ys) = x *ℤ y +ℤ dot xs ys

-- the entry at an index, and 0 past the end
abbrev pub entry_at : List ℤ → ℕ → ℤ
entry_at xs j = slice_index_or xs j (pos 0)

-- the sum entry by entry, of the shorter length
abbrev pub vector_sum : List ℤ → List ℤ → List ℤ
vector_sum [] ys = []
vector_sum (x ∷ xs) [] = []
vector_sum (x ∷ xs) (y ∷ ys) = (x +ℤ y) ∷ vector_sum xs ys

-- n zeros
abbrev pub zeros : ℕ → List ℤ
zeros n = replicate n (pos 0)

-- the combination of n columns: each row by its multiplier
abbrev pub combined : ℕ → List ℤ → List (List ℤ) → List ℤ
combined n [] rows = zeros n
combined n (m ∷ ms) [] = zeros n
combined n (m ∷ ms) (t ∷ ts) = vector_sum (scaled m t) (combined n ms ts)

-- the opposite vector
abbrev pub opposite : List ℤ → List ℤ
opposite xs = scaled (negsuc 0) xs

-- what each row gives on a vector
abbrev pub values : List (List ℤ) → List ℤ → List ℤ
values [] v = []
values (t ∷ ts) v = dot t v ∷ values ts v

-- some entry is positive
abbrev pub SomePositive : List ℤ → Type 0
SomePositive [] = ⊥
SomePositive (m ∷ ms) = (pos 0 <ℤ m) ⊎ SomePositive ms
