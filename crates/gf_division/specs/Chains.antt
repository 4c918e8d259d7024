-- Many steps at once: a member of two terms, with the coefficients 1 and 1 or -1, turns a term into one other term. Where it reduces that
-- one too, and so on, the steps are a chain, and its end is known at once.
-- Laws: proofs/ChainLaws.antt.
use Rattle.std.specs.Prelude.{◌≡◌, ◌⊎◌, ℕ, zero, suc, ◌+◌, ◌*◌, ◌<◌, ◌≤◌, ◌^◌, List, [], ◌∷◌, ◌++◌, length, Some, None}
use Rattle.std.specs.declared.option.Option.{Option}
use Rattle.std.specs.declared.cmp.Ordering.TheVariants.{Greater}
use Rattle.gf_frac.specs.Fraction.{Fraction, ◌*ℚ◌, neg_ℚ, one_ℚ}
use Rattle.gf_exponents_theory.specs.Exponents.{Exponents, entry, Divides}
use Rattle.gf_exponents_theory.specs.Orders.{deglex, lighter}
use Rattle.gf_poly.specs.declared.Term.{Term}
use Rattle.gf_poly.specs.declared.TheConstants.{ROOM}
use Rattle.gf_poly.specs.Monomial.{IsMonomial}
use Rattle.gf_poly.specs.Polynomial.{Terms, IsAbove}
use Rattle.gf_poly.specs.Marking.{MarkedPolynomial}
use Rattle.gf_ideal_theory.specs.Marks.{AreMarked}
use Rattle.gf_ideal_theory.specs.Measure.{work_left}
use Rattle.gf_ideal_theory.specs.Settled.{IsAt}
use Rattle.gf_division.specs.Dividends.{Split, joined_terms, IsTermInFront, AreOver}
use Rattle.gf_division.specs.Reducers.{IsReducibleFirst}
use Rattle.gf_division.specs.Remainders.{IsWorkedOn}

-- ---- members of two terms

-- 1 or -1
abbrev pub IsUnit : Fraction → Type 0
IsUnit s = (s ≡ one_ℚ) ⊎ (s ≡ neg_ℚ one_ℚ)

-- the marked monomial, with the coefficient 1
abbrev pub marked_term : MarkedPolynomial → Term
marked_term b = record { coef = one_ℚ; mono = b.head }

-- b has the marked term and u, whose coefficient is 1 or -1
pub record IsPair (b : MarkedPolynomial) (u : Term) : Type 0 where
  pub unit : IsUnit u.coef
  pub terms : (b.poly ≡ marked_term b ∷ u ∷ []) ⊎ (b.poly ≡ u ∷ marked_term b ∷ [])

-- ---- along a chain

-- k steps lead from the exponents x to z, each of which takes those of l away and adds those of t
pub record AreAlong (k : ℕ) (l t x z : Exponents) : Type 0 where
  pub at : (i : ℕ) → entry x i + k * entry t i ≡ entry z i + k * entry l i

-- the coefficient after k steps, where the other term has the coefficient s
abbrev pub turned : Fraction → ℕ → Fraction → Fraction
turned s zero c = c
turned s (suc k) c = turned s k (neg_ℚ (c *ℚ s))

-- an exponent of m is greater than that of x and that of z
pub record IsMissed (m x z : Exponents) : Type 0 where
  pub at : ℕ
  pub start : entry x at < entry m at
  pub end : entry z at < entry m at

-- so it is of the mark of each member before the index j
abbrev pub AreMissed : List MarkedPolynomial → ℕ → Exponents → Exponents → Type 0
AreMissed bs j x z = (i : ℕ) (b : MarkedPolynomial) → i < j → IsAt bs i b → IsMissed b.head x z

-- y is greater than x and z, or less than both
abbrev pub IsOutside : Exponents → Exponents → Exponents → Type 0
IsOutside y x z = ((deglex y x ≡ Greater) × (deglex y z ≡ Greater)) ⊎ ((deglex x y ≡ Greater) × (deglex z y ≡ Greater))

-- so is the spared monomial, where there is one
abbrev pub IsSpareOutside : Option Exponents → Exponents → Exponents → Type 0
IsSpareOutside (Some y) x z = IsOutside y x z
IsSpareOutside None x z = Unit {0}

-- ---- the term in its place

-- the terms after the first one are less than z
pub record IsOverRest (z : Exponents) (f : Terms) : Type 0 where
  pub first : Term
  pub rest : Terms
  pub is : f ≡ first ∷ rest
  pub under : IsAbove z rest

-- the terms above the index are greater than z, and those after the first one below it are less
pub record HasRoom (s : Split) (z : Exponents) : Type 0 where
  pub over : AreOver z s.above
  pub below : IsOverRest z s.below

-- u is in place of the first term below the index
pub record IsReplaced (u : Term) (old new : Split) : Type 0 where
  pub first : Term
  pub rest : Terms
  pub before : old.below ≡ first ∷ rest
  pub after : new.below ≡ u ∷ rest
  pub above : new.above ≡ old.above

-- k steps by the member at the index j, each by the first member whose mark divides the term, lead from the first term below the index to u,
-- which that member reduces, too
pub record IsJump (bs : List MarkedPolynomial) (j : ℕ) (spared : Option Exponents) (s : Split) (k : ℕ) (u : Term) : Type 0 where
  pub member : MarkedPolynomial
  pub at : IsAt bs j member
  pub other : Term
  pub pair : IsPair member other
  pub first : Term
  pub is : IsTermInFront s.below first
  pub along : AreAlong k member.head other.mono first.mono u.mono
  pub coefficient_is : u.coef ≡ turned other.coef k first.coef
  pub divides : Divides member.head u.mono
  pub missed : AreMissed bs j first.mono u.mono
  pub outside : IsSpareOutside spared first.mono u.mono
  pub room : HasRoom s u.mono
  pub variables : length u.mono ≡ length first.mono
  pub monomial : IsMonomial u.mono

-- ---- work

-- a reduction has no more work left at g than at f, by any weight of the marks
abbrev pub LeavesNoMore : List MarkedPolynomial → Terms → Terms → Type 0
LeavesNoMore bs f g = (w : List ℕ) → AreMarked (lighter w) bs → work_left (2 ^ 31) ROOM bs g ≤ work_left (2 ^ 31) ROOM bs f

-- it has less
abbrev pub LeavesLess : List MarkedPolynomial → Terms → Terms → Type 0
LeavesLess bs f g = (w : List ℕ) → AreMarked (lighter w) bs → work_left (2 ^ 31) ROOM bs g < work_left (2 ^ 31) ROOM bs f

-- after a jump from s to t: its steps are by first members, that member reduces the first term again, and no more work is left
pub record IsJumped (bs : List MarkedPolynomial) (j : ℕ) (spared : Option Exponents) (s t : Split) : Type 0 where
  pub worked : IsWorkedOn bs spared s t
  pub found : IsReducibleFirst bs spared t j
  pub above : t.above ≡ s.above
  pub work : LeavesNoMore bs (joined_terms s) (joined_terms t)

-- h is f and what comes after it
pub record IsFrontOf (f h : Terms) : Type 0 where
  pub after : Terms
  pub is : h ≡ f ++ after
