-- Lifts with reduced tails, each worked out at once: of what a reduction by the set leaves, what steps by the lifts before lead to.
-- Laws: proofs/LiftsInTurnLaws.antt.
use Rattle.std.specs.Prelude.{◌≡◌, List, [], ◌∷◌, ◌++◌, Contains, ℕ}
use Rattle.gf_frac.specs.Fraction.{neg_ℚ, one_ℚ}
use Rattle.gf_poly.specs.Polynomial.{Terms, SamePolynomial, KeepsVariables, times}
use Rattle.gf_poly.specs.Marking.{MarkedPolynomial, MarkedPolynomials}
use Rattle.gf_ideal_theory.specs.Reduction.{Reached}
use Rattle.gf_ideal_theory.specs.Marks.{HasPositiveWeight}
use Rattle.gf_ideal_theory.specs.Bases.{AreArranged}
use Rattle.gf_division.specs.Remainders.{IsRemainder}
use Rattle.gf_division.specs.Autoreduction.{IsAutoreduced, IsReducedOf}
use Rattle.gf_initial_theory.specs.Parts.{Matching}

-- r is a remainder of h by bs, in the variables of h
pub record IsRest (bs : List MarkedPolynomial) (h : MarkedPolynomial) (r : Terms) : Type 0 where
  pub remainder : IsRemainder bs h.poly r
  pub kept : KeepsVariables h.poly r

-- index by index
abbrev pub AreRests : List MarkedPolynomial → List MarkedPolynomial → List Terms → Type 0
AreRests bs hs rs = Matching (IsRest bs) hs rs

-- l is h less what steps by ds lead to from r, marked as h
pub record IsLessBy (ds : List MarkedPolynomial) (r : Terms) (h l : MarkedPolynomial) : Type 0 where
  pub left : Terms
  pub reached : Reached (Contains ds) r left
  pub head : l.head ≡ h.head
  pub poly : SamePolynomial l.poly (h.poly ++ times (neg_ℚ one_ℚ) [] left)

-- each of the list is so from a remainder of one of hs by bs, by those before it
pub data AreLiftsInTurn (bs hs : List MarkedPolynomial) : List MarkedPolynomial → Type 0 where
  none : AreLiftsInTurn bs hs []
  more : (ds : List MarkedPolynomial) (h l : MarkedPolynomial) (r : Terms) → AreLiftsInTurn bs hs ds → Contains hs h → IsRest bs h r →
      IsLessBy ds r h l → AreLiftsInTurn bs hs (ds ++ l ∷ [])

-- l is the one of ds that has the mark of h
abbrev pub IsLiftIn : List MarkedPolynomial → MarkedPolynomial → MarkedPolynomial → Type 0
IsLiftIn ds h l = (l.head ≡ h.head) × Contains ds l

-- index by index
abbrev pub AreLiftsIn : List MarkedPolynomial → List MarkedPolynomial → List MarkedPolynomial → Type 0
AreLiftsIn ds hs ls = Matching (IsLiftIn ds) hs ls

-- t is bs in n variables autoreduced
pub record IsReducedForm (n : ℕ) (bs : List MarkedPolynomial) (t : MarkedPolynomials) : Type 0 where
  pub value : IsAutoreduced (record { variables = n; items = bs }) t
  pub arranged : AreArranged n t.items
  pub marked : HasPositiveWeight n t.items
  pub reduced : IsReducedOf n bs t.items
