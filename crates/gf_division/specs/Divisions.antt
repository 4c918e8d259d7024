-- Division with cofactors: a polynomial is its remainder and the sum of the cofactors times the members.
-- Each step of the rule gives the member that it takes one quotient more; a cofactor is the sum of its quotients.
-- Laws: proofs/DivisionLaws.antt. Source: Cox, Little, O'Shea, Ideals, Varieties, and Algorithms, 2.3, theorem 3.
use Rattle.std.specs.Prelude.{◌≡◌, ◌⊎◌, ℕ, zero, suc, ◌<◌, List, [], ◌∷◌, ◌++◌, length, map, Contains}
use Rattle.std.specs.Global.{Vec}
use Rattle.gf_frac.specs.Fraction.{Fraction}
use Rattle.gf_frac.specs.declared.refusal.Op.{Op}
use Rattle.gf_frac.specs.declared.refusal.Op.TheVariants.{Add}
use Rattle.gf_exponents_theory.specs.Exponents.{Exponents}
use Rattle.gf_poly.specs.declared.Term.{Term}
use Rattle.gf_poly.specs.declared.error.PolyError.{PolyError}
use Rattle.gf_poly.specs.Refusals.{ByKind, IsRefusedBy}
use Rattle.gf_poly.specs.Polynomial.{Terms, coefficient, times, SamePolynomial, IsDescending, HasVariables}
use Rattle.gf_poly.specs.Collecting.{like, sum_of_coefficients, IsLikeSumOverflow}
use Rattle.gf_poly.specs.Marking.{MarkedPolynomial, Each}
use Rattle.gf_ideal_theory.specs.Operands.{IsReductionOperation, IsReductionExponents}
use Rattle.gf_ideal_theory.specs.NormalForms.{IsRuleStep}

-- ---- cofactors

-- h times g
abbrev pub product_of : Terms → Terms → Terms
product_of [] g = []
product_of (t ∷ h) g = times t.coef t.mono g ++ product_of h g

-- the sum of the cofactors times the members, index by index
abbrev pub cofactor_sum : List Terms → List MarkedPolynomial → Terms
cofactor_sum [] bs = []
cofactor_sum (h ∷ hs) [] = []
cofactor_sum (h ∷ hs) (b ∷ bs) = product_of h b.poly ++ cofactor_sum hs bs

-- the cofactors are kept in n variables
abbrev pub AreForms : ℕ → List Terms → Type 0
AreForms n hs = Each (λ (h : Terms). IsDescending h × HasVariables n h) hs

-- ---- quotients

-- no quotient yet, of any member
abbrev pub no_quotients : List MarkedPolynomial → List Terms
no_quotients [] = []
no_quotients (b ∷ bs) = [] ∷ no_quotients bs

-- one quotient more, of the member at the index k
abbrev pub with_quotient : List Terms → ℕ → Term → List Terms
with_quotient [] k t = []
with_quotient (q ∷ qs) zero t = (q ++ t ∷ []) ∷ qs
with_quotient (q ∷ qs) (suc k) t = q ∷ with_quotient qs k t

-- finitely many steps of the rule lead from f to g, and give these quotients, one list for each member
pub data IsDivisionByRule (bs : List MarkedPolynomial) (f : Terms) : List Terms → Terms → Type 0 where
  here : IsDivisionByRule bs f (no_quotients bs) f
  next : (qs : List Terms) (g h : Terms) → IsDivisionByRule bs f qs g → (s : IsRuleStep bs g h) →
      IsDivisionByRule bs f (with_quotient qs s.index (record { coef = coefficient g s.at; mono = s.rest })) h

-- index by index: h is the sum of the quotients q
abbrev pub AreSums : List Terms → List Terms → Type 0
AreSums [] [] = Unit {0}
AreSums [] (h ∷ hs) = ⊥
AreSums (q ∷ qs) [] = ⊥
AreSums (q ∷ qs) (h ∷ hs) = SamePolynomial h q × AreSums qs hs

-- the cofactors are the sums of the quotients by which the rule leads from f to the remainder
pub record AreCofactors (bs : List MarkedPolynomial) (f r : Terms) (hs : List Terms) : Type 0 where
  pub quotients : List Terms
  pub divided : IsDivisionByRule bs f quotients r
  pub sums : AreSums quotients hs

-- ---- refusals

-- two quotients of one cofactor at one monomial are added: the sum of those that came first, and the next one
pub record IsQuotientSum (bs : List MarkedPolynomial) (f : Terms) (op : Op) (left right : Fraction) : Type 0 where
  pub is_op : op ≡ Add
  pub quotients : List Terms
  pub rest : Terms
  pub divided : IsDivisionByRule bs f quotients rest
  pub of_member : Terms
  pub contained : Contains quotients of_member
  pub at : Exponents
  pub earlier : Terms
  pub last : Term
  pub later : Terms
  pub some : 0 < length earlier
  pub split : like at of_member ≡ earlier ++ last ∷ later
  pub is_left : left ≡ sum_of_coefficients earlier
  pub is_right : right ≡ last.coef

-- the operation is one of a step from a polynomial that f reaches, or the sum of two quotients of one cofactor at one monomial
abbrev pub IsDivisionOperation : List MarkedPolynomial → Terms → Op → Fraction → Fraction → Type 0
IsDivisionOperation bs f op left right = IsReductionOperation (Contains bs) f op left right ⊎ IsQuotientSum bs f op left right

-- why the division of f by bs is refused: two numbers of such an operation don't fit, or two exponents of such a step
abbrev pub IsDivisionRefusal : List MarkedPolynomial → Terms → PolyError → Type 0
IsDivisionRefusal bs f = IsRefusedBy (IsDivisionOperation bs f) (IsReductionExponents (Contains bs) f)

-- ---- what is kept of the quotients

-- the quotients have the variables of f
pub record HaveVariablesOf (f : Terms) (qs : List Terms) : Type 0 where
  pub at : (n : ℕ) → HasVariables n f → Each (HasVariables n) qs

-- the sums are kept in n variables wherever the quotients have n variables
pub record KeepForms (qs hs : List Terms) : Type 0 where
  pub at : (n : ℕ) → Each (HasVariables n) qs → AreForms n hs

-- why quotients aren't summed up: a sum of like terms of one list
abbrev pub IsSumRefusal : List Terms → PolyError → Type 0
IsSumRefusal qs = ByKind (λ o. (q : Terms) × Contains qs q × IsLikeSumOverflow q o) (λ o. ⊥)

-- the lists
abbrev pub lists_of : List (Vec Term) → List Terms
lists_of vs = map (λ (v : Vec Term). v.items) vs
