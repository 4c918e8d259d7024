-- Polynomials of whose fans no operation leaves the range, by bounds on their exponents.
use Rattle.std.specs.Prelude.{◌≡◌, ℕ, ◌+◌, ◌-◌, ◌≤◌, List, [], ◌∷◌, true, length, All}
use Rattle.gf_poly.specs.declared.Term.{Term}
use Rattle.gf_poly.specs.Polynomial.{Terms, HasVariables}
use Rattle.gf_rays.specs.Limits.{has_room}
use Rattle.gf_tropical.specs.Refusals.{NoneIsZero, IsTropicalWithinLimits}
use Rattle.gf_tropical.specs.Systems.{IsPairSystem, IsSingleSystem}

-- each exponent is at most b
abbrev pub HaveExponentsUpTo : ℕ → List Terms → Type 0
HaveExponentsUpTo b set = All (λ f. All (λ (t : Term). All (λ e. e ≤ b) t.mono) f) set

-- the number of terms of all of them, but so many of each
abbrev pub terms_but : ℕ → List Terms → ℕ
terms_but k [] = 0
terms_but k (f ∷ set) = (length f - k) + terms_but k set

-- there is room for up to so many inequalities
abbrev pub HasRoomUpTo : ℕ → ℕ → ℕ → Type 0
HasRoomUpTo n b count = (k : ℕ) → k ≤ count → has_room n b k ≡ true

-- where there is for the inequalities of a cone of each of them, no operation leaves the range: of the cones of two terms of each, and of
-- the cones of single terms
pub record PolynomialsWithRoomStayWithinLimits : Type 0 where
  pub prevarieties : (n b : ℕ) (set : List Terms) → 1 ≤ n → 1 ≤ b → NoneIsZero set → All (HasVariables n) set → HaveExponentsUpTo b set →
      HasRoomUpTo n b (terms_but 2 set) → IsTropicalWithinLimits IsPairSystem n set
  pub minkowski : (n b : ℕ) (set : List Terms) → 1 ≤ n → 1 ≤ b → NoneIsZero set → All (HasVariables n) set → HaveExponentsUpTo b set →
      HasRoomUpTo n b (terms_but 1 set) → IsTropicalWithinLimits IsSingleSystem n set

-- so for three terms in three variables with exponents up to 2, and for two such polynomials with exponents up to 1; for the Minkowski
-- fan of one such polynomial with exponents up to 1
pub record TrinomialsStayWithinLimits : Type 0 where
  pub one : (f : Terms) → length f ≡ 3 → HasVariables 3 f → HaveExponentsUpTo 2 (f ∷ []) → IsTropicalWithinLimits IsPairSystem 3 (f ∷ [])
  pub two : (f g : Terms) → length f ≡ 3 → length g ≡ 3 → HasVariables 3 f → HasVariables 3 g → HaveExponentsUpTo 1 (f ∷ g ∷ []) →
      IsTropicalWithinLimits IsPairSystem 3 (f ∷ g ∷ [])
  pub minkowski : (f : Terms) → length f ≡ 3 → HasVariables 3 f → HaveExponentsUpTo 1 (f ∷ []) → IsTropicalWithinLimits IsSingleSystem 3 (f ∷ [])
