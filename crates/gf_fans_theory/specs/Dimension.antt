-- The dimension of what vectors span.
use Rattle.std.specs.Prelude.{◌≡◌, ℕ, List, [], ◌∷◌, ℤ, length, Contains}
use Rattle.gf_duality_theory.specs.Generators.{Made}

-- none is spanned by those behind it
abbrev pub AreFree : ℕ → List (List ℤ) → Type 0
AreFree n [] = Unit {0}
AreFree n (x ∷ xs) = (Made n [] xs x → ⊥) × AreFree n xs

-- the vectors span a space of this dimension: it has a basis of so many vectors
pub record HasDimension (n : ℕ) (vectors : List (List ℤ)) (dimension : ℕ) : Type 0 where
  pub basis : List (List ℤ)
  pub width : (x : List ℤ) → Contains basis x → length x ≡ n
  pub free : AreFree n basis
  pub to : (x : List ℤ) → Contains vectors x → Made n [] basis x
  pub from : (x : List ℤ) → Contains basis x → Made n [] vectors x
  pub long : length basis ≡ dimension
