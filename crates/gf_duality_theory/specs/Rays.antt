-- A cone by its rows, and by the rays and lineality vectors that generate it.
use Rattle.std.specs.Prelude.{◌≡◌, ◌≢◌, ℕ, ◌<◌, List, [], ℤ, pos, ◌<ℤ◌, ◌≤ℤ◌, length, All, ◌↔◌, ◌⊎◌, remove, slice_index_or, AllPairs, Contains}
use Rattle.std.specs.Ordering.{int_cmp}
use Rattle.std.specs.Cmp.Lexicographic.{slice_cmp}
use Rattle.std.specs.declared.cmp.Ordering.TheVariants.{Less}
use Rattle.gf_int_theory.specs.Content.{IsPrimitive, scaled}
use Rattle.gf_vec.specs.Vector.{dot, vector_sum, combined, entry_at}
use Rattle.gf_gordan.specs.Alternative.{AreRows}
use Rattle.gf_gordan.specs.Elimination.{IsPivot}

-- v is in the cone: no inequality is negative on it, and each equation is zero
pub record Satisfies (inequalities equations : List (List ℤ)) (v : List ℤ) : Type 0 where
  pub not_negative : All (λ h. pos 0 ≤ℤ dot h v) inequalities
  pub zero : All (λ e. dot e v ≡ pos 0) equations

-- v is in the lineality space: each row is zero on it
pub record IsLineal (inequalities equations : List (List ℤ)) (v : List ℤ) : Type 0 where
  pub flat : All (λ h. dot h v ≡ pos 0) inequalities
  pub zero : All (λ e. dot e v ≡ pos 0) equations

-- a positive multiple of v is a combination of the rays, none negative, and of the lineality vectors
pub record Generated (n : ℕ) (rays lineality : List (List ℤ)) (v : List ℤ) : Type 0 where
  pub factor : ℤ
  pub rays_by : List ℤ
  pub lin_by : List ℤ
  pub positive : pos 0 <ℤ factor
  pub rays_len : length rays_by ≡ length rays
  pub lin_len : length lin_by ≡ length lineality
  pub not_negative : All (λ m. pos 0 ≤ℤ m) rays_by
  pub is : scaled factor v ≡ vector_sum (combined n rays_by rays) (combined n lin_by lineality)

-- an echelon basis: pivots rise, each is positive and alone in its column, and each row is primitive
pub record IsEchelon (rows : List (List ℤ)) : Type 0 where
  pub rising : AllPairs (λ x y. (p q : ℕ) → IsPivot x p → IsPivot y q → p < q) rows
  pub leading : All (λ x. (p : ℕ) × (IsPivot x p × (pos 0 <ℤ entry_at x p))) rows
  pub alone : (x y : List ℤ) (p q : ℕ) → Contains rows x → Contains rows y → IsPivot x p → IsPivot y q → p ≢ q → entry_at y p ≡ pos 0
  pub primitive : All IsPrimitive rows

-- the echelon basis of the lineality space, and the rays: ascending, primitive, orthogonal to it, in the cone, which is what they generate, none of them by the
-- others
pub record IsRays (n : ℕ) (inequalities equations lineality rays : List (List ℤ)) : Type 0 where
  pub lin_width : AreRows n lineality
  pub echelon : IsEchelon lineality
  pub spans : (v : List ℤ) → length v ≡ n → IsLineal inequalities equations v ↔ Generated n [] lineality v
  pub rays_width : AreRows n rays
  pub ascending : AllPairs (λ x y. slice_cmp int_cmp x y ≡ Less) rays
  pub primitive : All IsPrimitive rays
  pub orthogonal : All (λ r. All (λ l. dot r l ≡ pos 0) lineality) rays
  pub generates : (v : List ℤ) → length v ≡ n → Satisfies inequalities equations v ↔ Generated n rays lineality v
  pub minimal : (i : ℕ) → i < length rays → Generated n (remove rays i) lineality (slice_index_or rays i []) → ⊥

-- t is zero on the whole cone
abbrev pub IsZeroOn : ℕ → List (List ℤ) → List (List ℤ) → List ℤ → Type 0
IsZeroOn n inequalities equations t = (x : List ℤ) → length x ≡ n → Satisfies inequalities equations x → dot t x ≡ pos 0

-- the echelon basis of the span of the equations and of the inequalities that are zero on the whole cone
pub record IsImplied (n : ℕ) (inequalities equations implied : List (List ℤ)) : Type 0 where
  pub rows : List (List ℤ)
  pub each : (t : List ℤ) → Contains rows t → Contains equations t ⊎ (Contains inequalities t × IsZeroOn n inequalities equations t)
  pub every : (t : List ℤ) → Contains equations t ⊎ (Contains inequalities t × IsZeroOn n inequalities equations t) → Contains rows t
  pub width : AreRows n implied
  pub echelon : IsEchelon implied
  pub spans : (v : List ℤ) → length v ≡ n → Generated n [] rows v ↔ Generated n [] implied v
