-- Which member reduces a term: the first one whose mark divides it. One monomial may be spared: of a tail the marked one.
-- Laws: proofs/ReducerLaws.antt. Source: Cox, Little, O'Shea, Ideals, Varieties, and Algorithms, 2.3.
use Rattle.std.specs.Prelude.{◌≡◌, ℕ, ◌<◌, false, List, [], length, Contains, Some, None}
use Rattle.std.specs.declared.option.Option.{Option}
use Rattle.gf_exponents_theory.specs.Exponents.{Exponents, same, Divides, NoMultiple}
use Rattle.gf_poly.specs.declared.Term.{Term}
use Rattle.gf_poly.specs.Monomial.{IsMonomial}
use Rattle.gf_poly.specs.Polynomial.{Terms, HasVariables}
use Rattle.gf_poly.specs.Marking.{MarkedPolynomial, Each, HaveVariables}
use Rattle.gf_ideal_theory.specs.Reduction.{IsDivisible}
use Rattle.gf_ideal_theory.specs.Settled.{IsAt}
use Rattle.gf_division.specs.Dividends.{Split, IsSound, IsTermInFront}

-- the member at the index j is the first one whose mark divides x; it has as many variables as x
pub record IsDivisorAt (bs : List MarkedPolynomial) (x : Exponents) (j : ℕ) : Type 0 where
  pub member : MarkedPolynomial
  pub at : IsAt bs j member
  pub divides : Divides member.head x
  pub first : (i : ℕ) (b : MarkedPolynomial) → i < j → IsAt bs i b → Divides b.head x → ⊥
  pub head : length member.head ≡ length x
  pub poly : HasVariables (length x) member.poly

-- b stands at an index of the list, and the mark of no member before that one divides x
pub record IsFirstFor (bs : List MarkedPolynomial) (x : Exponents) (b : MarkedPolynomial) : Type 0 where
  pub index : ℕ
  pub at : IsAt bs index b
  pub before : (i : ℕ) (c : MarkedPolynomial) → i < index → IsAt bs i c → NoMultiple c.head x

-- x isn't the spared monomial
abbrev pub IsBeside : Option Exponents → Exponents → Type 0
IsBeside (Some y) x = same x y ≡ false
IsBeside None x = Unit {0}

-- the spared monomial has n variables
abbrev pub IsSpareIn : ℕ → Option Exponents → Type 0
IsSpareIn n (Some x) = length x ≡ n
IsSpareIn n None = Unit {0}

-- no mark divides a listed monomial, the spared one apart
abbrev pub AreIrreducible : List MarkedPolynomial → Option Exponents → Terms → Type 0
AreIrreducible bs spared f = Each (λ (t : Term). IsBeside spared t.mono → IsDivisible (Contains bs) t.mono → ⊥) f

-- the polynomial, the members and the spared monomial have the same variables
pub record ShareVariables (s : Split) (bs : List MarkedPolynomial) (spared : Option Exponents) : Type 0 where
  pub n : ℕ
  pub sound : IsSound n s
  pub members : HaveVariables n bs
  pub spare : IsSpareIn n spared

-- the member at the index j reduces the first term below the index
pub record IsReducibleFirst (bs : List MarkedPolynomial) (spared : Option Exponents) (s : Split) (j : ℕ) : Type 0 where
  pub term : Term
  pub is : IsTermInFront s.below term
  pub divisor : IsDivisorAt bs term.mono j
  pub beside : IsBeside spared term.mono
  pub monomial : IsMonomial term.mono

-- what a search ends with: the index of such a member, or no terms below the index
abbrev pub IsSought : List MarkedPolynomial → Option Exponents → Split → Option ℕ → Type 0
IsSought bs spared s (Some j) = IsReducibleFirst bs spared s j
IsSought bs spared s None = s.below ≡ []
