-- Lifts of members of the initial ideal to the ideal: members of which these are the initial forms.
-- Laws: proofs/LiftedLaws.antt. Source: Fukuda, Jensen, Thomas, Computing Gröbner fans, 4.
use Rattle.std.specs.Prelude.{◌≡◌, ℕ, List, [], ◌++◌, Contains, ℤ}
use Rattle.gf_frac.specs.Fraction.{neg_ℚ, one_ℚ}
use Rattle.gf_exponents_theory.specs.Exponents.{Exponents}
use Rattle.gf_poly.specs.Polynomial.{Terms, SamePolynomial, times}
use Rattle.gf_poly.specs.Marking.{MarkedPolynomial}
use Rattle.gf_poly.specs.InitialForms.{IsInitialForm}
use Rattle.gf_ideal_theory.specs.Membership.{HasMonomial, IsMember}
use Rattle.gf_ideal_theory.specs.OrderTable.{AreMultipleApart}
use Rattle.gf_ideal_theory.specs.Reduction.{Reached, IsIrreducible}
use Rattle.gf_initial_theory.specs.Parts.{Matching}

-- l is a member of the ideal of fs with the mark of h, and h is its initial form by v
pub record IsLifted (n : ℕ) (fs : List Terms) (v : List ℤ) (h l : MarkedPolynomial) : Type 0 where
  pub member : IsMember n fs l.poly
  pub head : l.head ≡ h.head
  pub form : IsInitialForm v l.poly h.poly

-- index by index
abbrev pub AreLifted : ℕ → List Terms → List ℤ → List MarkedPolynomial → List MarkedPolynomial → Type 0
AreLifted n fs v hs ls = Matching (IsLifted n fs v) hs ls

-- ---- two ways to get one

-- l is h less its remainder by bs, marked as h
pub record IsLift (bs : List MarkedPolynomial) (h l : MarkedPolynomial) : Type 0 where
  pub remainder : Terms
  pub reached : Reached (Contains bs) h.poly remainder
  pub irreducible : IsIrreducible (Contains bs) remainder
  pub head : l.head ≡ h.head
  pub poly : SamePolynomial l.poly (h.poly ++ times (neg_ℚ one_ℚ) [] remainder)

-- index by index
abbrev pub AreLifts : List MarkedPolynomial → List MarkedPolynomial → List MarkedPolynomial → Type 0
AreLifts bs hs ls = Matching (IsLift bs) hs ls

-- l is h less what steps by bs lead to, none of whose exponents are a multiple of a apart from the mark; marked as h
pub record IsTopLift (bs : List MarkedPolynomial) (a : List ℤ) (h l : MarkedPolynomial) : Type 0 where
  pub remainder : Terms
  pub reached : Reached (Contains bs) h.poly remainder
  pub off : (x : Exponents) → HasMonomial remainder x → AreMultipleApart a x h.head → ⊥
  pub head : l.head ≡ h.head
  pub poly : SamePolynomial l.poly (h.poly ++ times (neg_ℚ one_ℚ) [] remainder)

-- index by index
abbrev pub AreTopLifts : List MarkedPolynomial → List ℤ → List MarkedPolynomial → List MarkedPolynomial → Type 0
AreTopLifts bs a hs ls = Matching (IsTopLift bs a) hs ls
