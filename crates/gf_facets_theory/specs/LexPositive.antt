-- Vectors whose first nonzero entry is positive, the sign of a vector at a root, and the order of vectors.
-- Laws: proofs/LexPositiveLaws.antt, proofs/RootSignLaws.antt, proofs/VectorOrder.antt. Source: Fukuda, Jensen, Thomas,
-- Computing Gröbner fans, 3.
use Rattle.std.specs.Prelude.{◌≡◌, ◌⊎◌, List, [], ◌∷◌, ℤ, pos, ◌<ℤ◌}
use Rattle.gf_vec.specs.Vector.{dot}
use Rattle.gf_reverse_search.specs.Path.{Precedes}
use Rattle.gf_facets_theory.specs.Rows.{negated}

-- the first entry that isn't zero is positive
abbrev pub IsLexPositive : List ℤ → Type 0
IsLexPositive [] = ⊥
IsLexPositive (x ∷ xs) = (pos 0 <ℤ x) ⊎ ((x ≡ pos 0) × IsLexPositive xs)

-- what a vector gives at the root, and then its entries
abbrev pub rooted : List ℤ → List ℤ → List ℤ
rooted r a = dot a r ∷ a

-- the first nonzero number among these is negative
abbrev pub IsNegative : List ℤ → List ℤ → Type 0
IsNegative r a = IsLexPositive (negated (rooted r a))

-- the order of vectors: the first entry that differs is smaller
abbrev pub IsBefore : List ℤ → List ℤ → Type 0
IsBefore a b = Precedes ◌<ℤ◌ a b
