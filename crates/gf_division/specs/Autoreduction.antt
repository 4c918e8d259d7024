-- Autoreduction: the members that are needed, made monic, their tails reduced by one another, arranged.
-- A Gröbner basis becomes the reduced one so.
-- Laws: proofs/NeededLaws.antt, proofs/TailLaws.antt, proofs/AutoreductionLaws.antt. Source: Cox, Little, O'Shea, Ideals,
-- Varieties, and Algorithms, 2.7; Fukuda, Jensen, Thomas, Computing Gröbner fans, 2.
use Rattle.std.specs.Prelude.{◌≡◌, ◌⊎◌, ℕ, ◌≤◌, Bool, true, false, List, Contains}
use Rattle.gf_frac.specs.Fraction.{Fraction}
use Rattle.gf_frac.specs.declared.refusal.Op.{Op}
use Rattle.gf_exponents_theory.specs.Exponents.{Exponents, same, Divides}
use Rattle.gf_poly.specs.declared.error.PolyError.{PolyError}
use Rattle.gf_poly.specs.Refusals.{IsRefusedBy, NoSum}
use Rattle.gf_poly.specs.Polynomial.{Terms, HasVariables}
use Rattle.gf_poly.specs.Marking.{MarkedPolynomial, MarkedPolynomials, IsArranged, HaveVariables}
use Rattle.gf_ideal_theory.specs.Membership.{AreInVariables}
use Rattle.gf_ideal_theory.specs.Marks.{IsPositive, IsRealisedBy}
use Rattle.gf_ideal_theory.specs.Reduction.{AreMonicForms}
use Rattle.gf_ideal_theory.specs.Operands.{IsStepOperation, IsStepExponents}
use Rattle.gf_ideal_theory.specs.Settled.{IsAt}
use Rattle.gf_ideal_theory.specs.Bases.{IsBasis, AreApart, IsReducedBasis, IsCanonical}
use Rattle.gf_ideal_theory.specs.WorkLists.{IsTail, AreReducedTails}
use Rattle.gf_division.specs.MonicForms.{IsMadeMonic, IsDivisionByMark}

-- ---- which members are needed

-- b stands at the index i, and a member whose mark divides that of b has the same mark and doesn't stand before it
pub record IsNeeded (bs : List MarkedPolynomial) (i : ℕ) (b : MarkedPolynomial) : Type 0 where
  pub at : IsAt bs i b
  pub least : (j : ℕ) (c : MarkedPolynomial) → IsAt bs j c → Divides c.head b.head → (same c.head b.head ≡ true) × (i ≤ j)

-- k is the monic form of a needed member
pub record IsNeededForm (bs : List MarkedPolynomial) (k : MarkedPolynomial) : Type 0 where
  pub index : ℕ
  pub member : MarkedPolynomial
  pub needed : IsNeeded bs index member
  pub form : IsMadeMonic member k

-- ks are the monic forms of the needed members, each of them once
pub record AreNeededForms (bs ks : List MarkedPolynomial) : Type 0 where
  pub inside : (k : MarkedPolynomial) → Contains ks k → IsNeededForm bs k
  pub all : (i : ℕ) (b : MarkedPolynomial) → IsNeeded bs i b → (k : MarkedPolynomial) × Contains ks k × IsMadeMonic b k
  pub apart : AreApart ks

-- ---- the result

-- t is s autoreduced
pub record IsAutoreduced (s t : MarkedPolynomials) : Type 0 where
  pub forms : List MarkedPolynomial
  pub needed : AreNeededForms s.items forms
  pub tails : List MarkedPolynomial
  pub reduced : AreReducedTails forms forms tails
  pub arranged : IsArranged (record { variables = s.variables; items = tails }) t

-- made monic, the members are a Gröbner basis of the ideal of fs for their marking
pub record IsBasisOnceMonic (n : ℕ) (fs : List Terms) (bs : List MarkedPolynomial) : Type 0 where
  pub forms : List MarkedPolynomial
  pub monic : AreMonicForms bs forms
  pub basis : IsBasis n fs forms

-- where bs is a Gröbner basis, cs is the reduced one for each positive weight of its marking
pub record IsReducedOf (n : ℕ) (bs cs : List MarkedPolynomial) : Type 0 where
  pub at : (fs : List Terms) (w : List ℕ) → AreInVariables n fs → IsBasisOnceMonic n fs bs → IsPositive n w →
      ((b : MarkedPolynomial) → Contains bs b → IsRealisedBy w b) → IsReducedBasis n fs w cs

-- ---- refusals

-- the operation is one of making a needed member of bs monic
pub record IsNeededOperation (bs : List MarkedPolynomial) (op : Op) (left right : Fraction) : Type 0 where
  pub index : ℕ
  pub member : MarkedPolynomial
  pub needed : IsNeeded bs index member
  pub operation : IsDivisionByMark member op left right

-- the operation is one of a step at an unmarked monomial of a tail of ks, by a member of ks
pub record IsTailOperation (ks : List MarkedPolynomial) (op : Op) (left right : Fraction) : Type 0 where
  pub from : MarkedPolynomial
  pub tail : IsTail ks from
  pub at : Exponents
  pub unmarked : same at from.head ≡ false
  pub operation : IsStepOperation (Contains ks) from.poly at op left right

-- the exponents are added in such a step
pub record IsTailExponents (ks : List MarkedPolynomial) (left right : ℕ) : Type 0 where
  pub from : MarkedPolynomial
  pub tail : IsTail ks from
  pub at : Exponents
  pub unmarked : same at from.head ≡ false
  pub sum : IsStepExponents (Contains ks) from.poly at left right

-- why a tail isn't reduced by ks
abbrev pub IsTailRefusal : List MarkedPolynomial → PolyError → Type 0
IsTailRefusal ks = IsRefusedBy (IsTailOperation ks) (IsTailExponents ks)

-- why a needed member of bs isn't made monic; one that is dropped is never divided
abbrev pub IsNeededRefusal : List MarkedPolynomial → PolyError → Type 0
IsNeededRefusal bs = IsRefusedBy (IsNeededOperation bs) NoSum

-- why bs isn't autoreduced: a needed member isn't made monic, or a tail isn't reduced by the monic forms of the needed members
abbrev pub IsAutoreductionRefusal : List MarkedPolynomial → PolyError → Type 0
IsAutoreductionRefusal bs e = IsNeededRefusal bs e ⊎ ((ks : List MarkedPolynomial) × AreNeededForms bs ks × IsTailRefusal ks e)

-- ---- parts

-- the members have some number of variables
pub record ShareSomeVariables (bs : List MarkedPolynomial) : Type 0 where
  pub n : ℕ
  pub each : HaveVariables n bs

-- a member with the mark x, that stands before one with the mark y or doesn't, makes it needless
abbrev pub MakesNeedless : Exponents → Exponents → Bool → Type 0
MakesNeedless x y true = Divides x y
MakesNeedless x y false = Divides x y × ¬ (Divides y x)

-- the member at the index i is needed
abbrev pub IsNeededAt : List MarkedPolynomial → ℕ → Type 0
IsNeededAt bs i = (b : MarkedPolynomial) × IsNeeded bs i b

-- the forms have the variables of the members
pub record KeepVariables (bs ks : List MarkedPolynomial) : Type 0 where
  pub at : (n : ℕ) → HaveVariables n bs → HaveVariables n ks

-- c is kept in as many variables as k
pub record IsKeptForm (k c : MarkedPolynomial) : Type 0 where
  pub at : (n : ℕ) → HasVariables n k.poly → IsCanonical n c

-- each of cs is kept in as many variables as the members ks
pub record AreKeptForms (ks cs : List MarkedPolynomial) : Type 0 where
  pub at : (n : ℕ) → HaveVariables n ks → (c : MarkedPolynomial) → Contains cs c → IsCanonical n c
