-- The root sign of a vector.
use Rattle.std.specs.Prelude.{List, [], ◌∷◌, ℤ, pos, ◌+ℤ◌}
use Rattle.std.specs.Ordering.{int_cmp}
use Rattle.std.specs.declared.cmp.Ordering.{Ordering}
use Rattle.std.specs.declared.cmp.Ordering.TheVariants.{Less, Equal, Greater}

-- the sum of the entries
abbrev pub total_of : List ℤ → ℤ
total_of [] = pos 0
total_of (x ∷ xs) = x +ℤ total_of xs

-- this sign, or the other where it is zero
abbrev pub sign_or : Ordering → Ordering → Ordering
sign_or Less next = Less
sign_or Equal next = next
sign_or Greater next = Greater

-- the sign of the first entry that isn't zero
abbrev pub first_sign : List ℤ → Ordering
first_sign [] = Equal
first_sign (x ∷ xs) = sign_or (int_cmp x (pos 0)) (first_sign xs)

-- the sign of the first nonzero number among the sum of the entries and the entries
abbrev pub root_sign : List ℤ → Ordering
root_sign xs = first_sign (total_of xs ∷ xs)
