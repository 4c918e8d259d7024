-- Pairs of members of a monic marked list, by the normal forms of their S-polynomials.
-- Laws: proofs/PairLaws.antt.
-- Source: Cox, Little, O'Shea, Ideals, Varieties, and Algorithms, 2.6 (Buchberger's criterion).
use Rattle.std.specs.Prelude.{◌≢◌, ℕ, ◌<◌, List, [], length}
use Rattle.gf_poly.specs.Polynomial.{Terms, IsDescending, HasVariables}
use Rattle.gf_poly.specs.Marking.{MarkedPolynomial, HaveVariables}
use Rattle.gf_ideal_theory.specs.Reduction.{IsSPolynomial}
use Rattle.gf_ideal_theory.specs.NormalForms.{IsNormalForm}
use Rattle.gf_ideal_theory.specs.Settled.{IsAt}

-- all members have the same number of variables
pub record MembersShareVariables (bs : List MarkedPolynomial) : Type 0 where
  pub n : ℕ
  pub each : HaveVariables n bs

-- r is the normal form of the S-polynomial of the members at i and j, with its terms in descending order and no zero coefficient
pub record IsRemainderAt (bs : List MarkedPolynomial) (i j : ℕ) (r : Terms) : Type 0 where
  pub first : MarkedPolynomial
  pub second : MarkedPolynomial
  pub at_first : IsAt bs i first
  pub at_second : IsAt bs j second
  pub s : Terms
  pub is_s : IsSPolynomial first second s
  pub normal_form : IsNormalForm bs s r
  pub descending : IsDescending r
  pub variables : (n : ℕ) → HaveVariables n bs → HasVariables n r

-- the S-polynomial of the members at i and j has the normal form zero
abbrev pub Vanishes : List MarkedPolynomial → ℕ → ℕ → Type 0
Vanishes bs i j = IsRemainderAt bs i j []

-- the S-polynomial of the member at i and each later one has the normal form zero
abbrev pub VanishFrom : List MarkedPolynomial → ℕ → Type 0
VanishFrom bs i = (j : ℕ) → i < j → j < length bs → Vanishes bs i j

-- the S-polynomial of each two members has the normal form zero
abbrev pub DoAllVanish : List MarkedPolynomial → Type 0
DoAllVanish bs = (i : ℕ) → i < length bs → VanishFrom bs i

-- j is the first index above i such that the S-polynomial of the members at i and j has a nonzero normal form, and r is this normal form
pub record IsFirstFailingWith (bs : List MarkedPolynomial) (i j : ℕ) (r : Terms) : Type 0 where
  pub later : i < j
  pub within : j < length bs
  pub remainder : IsRemainderAt bs i j r
  pub nonzero : r ≢ []
  pub before : (k : ℕ) → i < k → k < j → Vanishes bs i k

-- the pair at i and j is the first of all whose S-polynomial has a nonzero normal form, by the first index and then by the second
pub record IsFirstFailing (bs : List MarkedPolynomial) (i j : ℕ) (r : Terms) : Type 0 where
  pub first : IsFirstFailingWith bs i j r
  pub before : (k : ℕ) → k < i → VanishFrom bs k
