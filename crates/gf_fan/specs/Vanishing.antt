-- The rows that are zero on some vectors.
use Rattle.std.specs.Prelude.{List, ℤ, pos, Bool, filter}
use Rattle.std.specs.List.{list_all}
use Rattle.std.specs.Ordering.{int_eq}
use Rattle.gf_vec.specs.Vector.{dot}

-- the row is zero on all of the vectors
abbrev pub is_zero_on : List (List ℤ) → List ℤ → Bool
is_zero_on vectors t = list_all (λ r. int_eq (dot t r) (pos 0)) vectors

-- the rows that are zero on all of the vectors, in their order
abbrev pub vanishing_rows : List (List ℤ) → List (List ℤ) → List (List ℤ)
vanishing_rows rows vectors = filter (is_zero_on vectors) rows
