-- Where a vector goes into an ascending list, and what it has once normals were put in. Laws: proofs/ListingLaws.antt.
use Rattle.std.specs.Prelude.{◌⊎◌, ◌↔◌, ℕ, zero, suc, List, [], ◌∷◌, ℤ, Contains}
use Rattle.gf_vec.specs.Primitive.{IsPrimitivePart}
use Rattle.gf_facets_theory.specs.LexPositive.{IsBefore}
use Rattle.gf_facets_theory.specs.Normals.{Ascends}
use Rattle.gf_cone.specs.declared.listing.Placing.{Placing}
use Rattle.gf_cone.specs.declared.listing.Placing.TheVariants.{New, Known}

-- the vectors up to the index i come before v, and v before the one there
abbrev pub GoesInAt : List ℤ → ℕ → List (List ℤ) → Type 0
GoesInAt v zero [] = Unit {0}
GoesInAt v zero (x ∷ xs) = IsBefore v x
GoesInAt v (suc i) [] = ⊥
GoesInAt v (suc i) (x ∷ xs) = IsBefore x v × GoesInAt v i xs

-- where v goes in, or where it is
abbrev pub IsPlacing : List (List ℤ) → List ℤ → Placing → Type 0
IsPlacing xs v (New i) = GoesInAt v i xs
IsPlacing xs v Known = Contains xs v

-- the ascending list more has the vectors of the list, the rows divided by their contents, and no others
pub record Gathers (list rows more : List (List ℤ)) : Type 0 where
  pub rises : Ascends more
  pub has : (a : List ℤ) → Contains more a ↔ (Contains list a ⊎ ((t : List ℤ) × Contains rows t × IsPrimitivePart t a))
