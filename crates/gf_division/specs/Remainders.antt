-- Remainders: what steps lead to, at whichever terms they are taken, and of which no mark divides a monomial.
-- One monomial may be spared: of a tail the marked one.
-- Laws: proofs/RemainderLaws.antt. Source: Cox, Little, O'Shea, Ideals, Varieties, and Algorithms, 2.3 and 2.6.
use Rattle.std.specs.Prelude.{◌≡◌, ℕ, List, Contains, Some, None}
use Rattle.std.specs.declared.option.Option.{Option}
use Rattle.gf_exponents_theory.specs.Exponents.{Exponents}
use Rattle.gf_poly.specs.declared.error.PolyError.{PolyError}
use Rattle.gf_poly.specs.Refusals.{UnlessMemory}
use Rattle.gf_poly.specs.Polynomial.{Terms, KeepsVariables}
use Rattle.gf_poly.specs.Marking.{MarkedPolynomial}
use Rattle.gf_ideal_theory.specs.Reduction.{IsStep, IsIrreducible, Reached}
use Rattle.gf_division.specs.Steps.{IsStepRefusal}
use Rattle.gf_division.specs.Dividends.{Split, joined_terms}
use Rattle.gf_division.specs.Reducers.{IsFirstFor, IsBeside, AreIrreducible, ShareVariables, IsReducibleFirst}

-- r is a remainder of f: steps lead from f to it, and no mark divides a monomial of it
pub record IsRemainder (bs : List MarkedPolynomial) (f r : Terms) : Type 0 where
  pub reached : Reached (Contains bs) f r
  pub irreducible : IsIrreducible (Contains bs) r

-- ---- on the way

-- finitely many steps at other monomials than the spared one, each by the first member whose mark divides the monomial
pub data ReachedBeside (bs : List MarkedPolynomial) (spared : Option Exponents) (f : Terms) : Terms → Type 0 where
  here : ReachedBeside bs spared f f
  next : (g h : Terms) → ReachedBeside bs spared f g → (s : IsStep (Contains bs) g h) → IsBeside spared s.at →
      IsFirstFor bs s.at s.member → ReachedBeside bs spared f h

-- c has the mark of b, and steps by bs at unmarked terms lead from b to it
pub record HasTailReached (bs : List MarkedPolynomial) (b c : MarkedPolynomial) : Type 0 where
  pub head : c.head ≡ b.head
  pub reached : ReachedBeside bs (Some b.head) b.poly c.poly

-- old became new by such steps
pub record IsWorkedOn (bs : List MarkedPolynomial) (spared : Option Exponents) (old new : Split) : Type 0 where
  pub reached : ReachedBeside bs spared (joined_terms old) (joined_terms new)
  pub variables : ShareVariables new bs spared
  pub kept : KeepsVariables (joined_terms old) (joined_terms new)

-- what a search for the next step ends with: the index of a member that reduces the first term below the index, or no term
-- can be divided any more
abbrev pub IsNextStep : List MarkedPolynomial → Option Exponents → Split → Option ℕ → Type 0
IsNextStep bs spared s (Some j) = IsReducibleFirst bs spared s j
IsNextStep bs spared s None = AreIrreducible bs spared (joined_terms s)

-- such a step, of a polynomial that f leads to, is refused
pub record IsWorkFault (bs : List MarkedPolynomial) (spared : Option Exponents) (f : Terms) (e : PolyError) : Type 0 where
  pub from : Terms
  pub reached : ReachedBeside bs spared f from
  pub at : Exponents
  pub beside : IsBeside spared at
  pub member : MarkedPolynomial
  pub contained : Contains bs member
  pub refused : IsStepRefusal from member at e

-- such a step is refused, or there is no memory
abbrev pub IsWorkRefusal : List MarkedPolynomial → Option Exponents → Terms → PolyError → Type 0
IsWorkRefusal bs spared f = UnlessMemory (IsWorkFault bs spared f)
