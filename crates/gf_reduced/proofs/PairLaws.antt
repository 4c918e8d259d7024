-- Pairs of members, and the normal forms of their S-polynomials.
-- To cite: pair_at, pair_variables, remainder_of, s_refused, reduction_refused, VanishBefore, vanish_next, AllVanishBefore.
use Rattle.std.specs.Prelude.{◌≡◌, ◌⊎◌, ℕ, ◌+◌, ◌<◌, ◌≤◌, List, [], length}
use Rattle.std.proofs.Common.{arith, subst, get_or, inl, inr}
use Rattle.std.proofs.lemmas.Bool.{cases_lt}
use Rattle.gf_frac.specs.Fraction.{one_ℚ}
use Rattle.gf_poly.specs.declared.error.PolyError.{PolyError}
use Rattle.gf_poly.specs.declared.error.PolyError.TheVariants as errors
use Rattle.gf_poly.specs.Polynomial.{Terms, coefficient, IsDescending, KeepsVariables}
use Rattle.gf_poly.specs.Marking.{MarkedPolynomial, HaveVariables}
use Rattle.gf_ideal_theory.specs.NormalForms.{IsNormalForm}
use Rattle.gf_ideal_theory.specs.Settled.{IsAt}
use Rattle.gf_division.specs.NormalForms.{HasSomeWeight, HaveSameVariables}
use Rattle.gf_division.specs.SPolynomials.{ArePairOf, KeepsPairVariables, IsSPolynomialOf, IsPairRefusal}
use Rattle.gf_division.specs.Steps.{IsReductionRefusal}
use Rattle.gf_division.proofs.ReducerLaws.{member_at, member_contained, member_variables}
use Rattle.gf_division.proofs.SPolynomialLaws.{s_polynomial_of_monic}
use Rattle.gf_reduced.specs.Pairs.{MembersShareVariables, IsRemainderAt, Vanishes, VanishFrom}
use Rattle.gf_reduced.specs.Refusals.{IsPairCause, IsPairsRefusal}

-- ---- one pair

-- the members at i and j of a monic list
pub record IsPairAt (bs : List MarkedPolynomial) (i j : ℕ) (b c : MarkedPolynomial) : Type 0 where
  pub first : IsAt bs i b
  pub second : IsAt bs j c
  pub n : ℕ
  pub are : (m : ℕ) → HaveVariables m bs → ArePairOf m b c
  pub each : HaveVariables n bs
  pub first_monic : coefficient b.poly b.head ≡ one_ℚ
  pub second_monic : coefficient c.poly c.head ≡ one_ℚ

pub pair_at : (bs : List MarkedPolynomial) (i j : ℕ) (b c : MarkedPolynomial) → HasSomeWeight bs → MembersShareVariables bs → i < length bs → j < length bs →
    b ≡ get_or bs i b → c ≡ get_or bs j c → IsPairAt bs i j b c
pair_at bs i j b c w v li lj ei ej =
    let at_i = member_at bs i b li ei in
    let at_j = member_at bs j c lj ej in
    record {
      first = at_i;
      second = at_j;
      n = v.n;
      are = λ m h. record { left = member_variables m bs b h (member_contained bs i b at_i); right = member_variables m bs c h (member_contained bs j c at_j) };
      each = v.each;
      first_monic = (w.1 b (member_contained bs i b at_i)).monic;
      second_monic = (w.1 c (member_contained bs j c at_j)).monic;
    }

pub pair_variables : (bs : List MarkedPolynomial) (i j : ℕ) (b c : MarkedPolynomial) (f : Terms) → IsPairAt bs i j b c → KeepsPairVariables b c f →
    HaveSameVariables f bs
pair_variables bs i j b c f p k = record { n = p.n; poly = k.at p.n (p.are p.n p.each); members = p.each }

pub remainder_of : (bs : List MarkedPolynomial) (i j : ℕ) (b c : MarkedPolynomial) (f r : Terms) → IsPairAt bs i j b c → IsSPolynomialOf b c f →
    KeepsPairVariables b c f → IsNormalForm bs f r → IsDescending r → KeepsVariables f r → IsRemainderAt bs i j r
remainder_of bs i j b c f r p s k h d v = record {
  first = b;
  second = c;
  at_first = p.first;
  at_second = p.second;
  s = f;
  is_s = s_polynomial_of_monic b c f p.first_monic p.second_monic s;
  normal_form = h;
  descending = d;
  variables = λ n u. v.at n (k.at n (p.are n u));
}

-- ---- refusals

pub s_refused : (bs : List MarkedPolynomial) (i j : ℕ) (b c : MarkedPolynomial) (e : PolyError) → IsPairAt bs i j b c → IsPairRefusal b c e →
    IsPairsRefusal bs e
s_refused bs i j b c (errors.Overflow o) p h = IsPairCause.s_polynomial b c (member_contained bs i b p.first) (member_contained bs j c p.second) h
s_refused bs i j b c (errors.Exponent o) p h = IsPairCause.s_polynomial b c (member_contained bs i b p.first) (member_contained bs j c p.second) h
s_refused bs i j b c errors.Memory p h = tt

pub reduction_refused : (bs : List MarkedPolynomial) (i j : ℕ) (b c : MarkedPolynomial) (f : Terms) (e : PolyError) → IsPairAt bs i j b c →
    IsSPolynomialOf b c f → IsReductionRefusal bs f e → IsPairsRefusal bs e
reduction_refused bs i j b c f (errors.Overflow o) p s h = IsPairCause.reduction b c f (member_contained bs i b p.first) (member_contained bs j c p.second)
    (s_polynomial_of_monic b c f p.first_monic p.second_monic s) h
reduction_refused bs i j b c f (errors.Exponent o) p s h = IsPairCause.reduction b c f (member_contained bs i b p.first) (member_contained bs j c p.second)
    (s_polynomial_of_monic b c f p.first_monic p.second_monic s) h
reduction_refused bs i j b c f errors.Memory p s h = tt

-- ---- the loops

-- the pairs of the member at i with those before j
abbrev pub VanishBefore : List MarkedPolynomial → ℕ → ℕ → Type 0
VanishBefore bs i j = (k : ℕ) → i < k → k < j → Vanishes bs i k

-- one pair more, whose normal form is zero
pub vanish_next : (bs : List MarkedPolynomial) (i j : ℕ) (r : Terms) → IsRemainderAt bs i j r → r ≡ [] → VanishBefore bs i j → VanishBefore bs i (j + 1)
vanish_next bs i j r p z h k l m = at (cases_lt k j)
  where
    at : (k < j) ⊎ (j ≤ k) → Vanishes bs i k
    at (inl q) = h k l q
    at (inr q) = let e : j ≡ k = omega arith in subst (Vanishes bs i) e (subst (IsRemainderAt bs i j) z p)

-- the pairs of the members before i
abbrev pub AllVanishBefore : List MarkedPolynomial → ℕ → Type 0
AllVanishBefore bs i = (k : ℕ) → k < i → VanishFrom bs k
