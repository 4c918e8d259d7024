-- Polynomials on strands: the exponents of their terms are multiples of a vector apart, and a program keeps of each term that multiple and the
-- coefficient. Laws: proofs/MoveLaws.antt, proofs/StrandLaws.antt.
use Rattle.std.specs.Prelude.{◌≡◌, ℕ, List, [], ◌∷◌, ◌++◌, map, length, Contains, ℤ, pos, ◌+ℤ◌, ◌-ℤ◌, ◌*ℤ◌, ◌<ℤ◌, ◌<◌, unsigned_abs, get_or, IfSome}
use Rattle.gf_frac.specs.Fraction.{Fraction, ◌+ℚ◌, ◌*ℚ◌, ◌/ℚ◌, neg_ℚ, one_ℚ}
use Rattle.gf_exponents_theory.specs.Exponents.{Exponents, entry, Divides}
use Rattle.gf_exponents_theory.specs.Orders.{negated_row_of}
use Rattle.gf_exponents_theory.specs.SixOrders.{MonomialOrder}
use Rattle.gf_poly.specs.declared.Term.{Term}
use Rattle.gf_poly.specs.Polynomial.{Terms, coefficient, SamePolynomial, KeepsVariables, times}
use Rattle.gf_poly.specs.Marking.{MarkedPolynomial, HaveVariables, Each}
use Rattle.gf_ideal_theory.specs.Membership.{HasMonomial}
use Rattle.gf_ideal_theory.specs.OrderTable.{AreMultipleApart}
use Rattle.gf_ideal_theory.specs.Reduction.{IsDivisible, IsMonicForm, Reached}
use Rattle.gf_ideal_theory.specs.Settled.{IsAt}
use Rattle.gf_initial_theory.specs.Parts.{IsPartAlong}
use Rattle.gf_strands.specs.declared.strands.Point.{Point}
use Rattle.gf_strands.specs.declared.strands.Strand.{Strand}
use Rattle.gf_strands.specs.declared.strands.Part.{Part}
use Rattle.gf_strands.specs.Along.{HasNonzero, AreSmall}
use Rattle.gf_strands.specs.Monomials.{with_monomials}

-- ---- monomials on the strand through x

-- x and k times a, as far as that isn't below zero
abbrev pub moved : List ℤ → Exponents → ℤ → Exponents
moved a [] k = []
moved [] (e ∷ x) k = e ∷ moved [] x k
moved (z ∷ a) (e ∷ x) k = unsigned_abs (pos e +ℤ k *ℤ z) ∷ moved a x k

-- the exponents of y are those of x and k times a
abbrev pub IsDistance : List ℤ → Exponents → Exponents → ℤ → Type 0
IsDistance a y x k = (i : ℕ) → pos (entry y i) ≡ pos (entry x i) +ℤ k *ℤ get_or a i (pos 0)

-- x and k times a are exponents
abbrev pub IsSpot : List ℤ → Exponents → ℤ → Type 0
IsSpot a x k = IsDistance a (moved a x k) x k

-- ---- polynomials

-- the term of a point
abbrev pub point_term : List ℤ → Exponents → Point → Term
point_term a x p = record { coef = p.coef; mono = moved a x p.k }

-- the terms of points on the strand through x
abbrev pub strand_terms : List ℤ → Exponents → List Point → Terms
strand_terms a x ps = map (point_term a x) ps

-- each point has exponents
abbrev pub AreSpots : List ℤ → Exponents → List Point → Type 0
AreSpots a x ps = Each (λ (p : Point). IsSpot a x p.k) ps

-- the multiples fall
abbrev pub AreFalling : List Point → Type 0
AreFalling [] = Unit {0}
AreFalling (p ∷ ps) = Each (λ (q : Point). q.k <ℤ p.k) ps × AreFalling ps

-- the marked polynomial of a strand
abbrev pub strand_member : List ℤ → Strand → MarkedPolynomial
strand_member a l = record { poly = record { coef = one_ℚ; mono = l.mark } ∷ strand_terms a l.mark l.rest.items; head = l.mark }

abbrev pub strand_members : List ℤ → List Strand → List MarkedPolynomial
strand_members a ls = map (strand_member a) ls

-- the terms of a part
abbrev pub terms_of_part : List ℤ → Part → Terms
terms_of_part a p = strand_terms a p.base p.points.items

abbrev pub terms_of_parts : List ℤ → List Part → List Terms
terms_of_parts a ps = map (terms_of_part a) ps

-- the unmarked terms of a strand are exponents, more multiples of a away from the mark, and fall
pub record IsStrandAlong (a : List ℤ) (l : Strand) : Type 0 where
  pub width : length l.mark ≡ length a
  pub on : AreSpots a l.mark l.rest.items
  pub further : Each (λ (p : Point). pos 0 <ℤ p.k) l.rest.items
  pub falling : AreFalling l.rest.items

-- the terms of the member at the index p that are a multiple of a apart from the mark of the strand are those of the strand, times the coefficient
-- at its mark
pub record HasOrigin (a : List ℤ) (bs : List MarkedPolynomial) (l : Strand) (p : ℕ) : Type 0 where
  pub member : MarkedPolynomial
  pub at : IsAt bs p member
  pub there : HasMonomial member.poly l.mark
  pub apart : AreMultipleApart a l.mark member.head
  pub part : (x : Exponents) → AreMultipleApart a x l.mark →
      coefficient member.poly l.mark *ℚ coefficient (strand_member a l).poly x ≡ coefficient member.poly x

-- so is each strand, and where it has an index it is of the member there
abbrev pub IsStrandOf : List ℤ → List MarkedPolynomial → Strand → Type 0
IsStrandOf a bs l = IsStrandAlong a l × IfSome l.origin (HasOrigin a bs l)

abbrev pub AreStrandsOf : List ℤ → List MarkedPolynomial → List Strand → Type 0
AreStrandsOf a bs ls = Each (IsStrandOf a bs) ls

-- f has the terms of b that are a multiple of a apart from its mark
pub record IsPartOf (a : List ℤ) (b : MarkedPolynomial) (f : Terms) : Type 0 where
  pub along : IsPartAlong a b (record { poly = f; head = b.head })
  pub variables : KeepsVariables b.poly f

-- so do the points of a part, of the member at its index
pub record IsPartOnStrand (a : List ℤ) (bs : List MarkedPolynomial) (p : Part) : Type 0 where
  pub member : MarkedPolynomial
  pub at : IsAt bs p.index member
  pub base : p.base ≡ member.head
  pub width : length p.base ≡ length a
  pub part : IsPartOf a member (terms_of_part a p)
  pub on : AreSpots a p.base p.points.items
  pub falling : AreFalling p.points.items

abbrev pub ArePartsOnStrands : List ℤ → List MarkedPolynomial → List Part → Type 0
ArePartsOnStrands a bs ps = Each (IsPartOnStrand a bs) ps

-- the vector has small entries, not all of them zero, and the monomials have as many variables
pub record IsGround (a : List ℤ) (xs : List Exponents) : Type 0 where
  pub small : AreSmall a
  pub nonzero : HasNonzero a
  pub marks : HaveVariables (length a) (with_monomials xs [])

-- the order along the facet
abbrev pub facet_order : List ℤ → MonomialOrder
facet_order a = MonomialOrder.facet (negated_row_of a)

-- ---- steps

-- c is added at the multiple k: to the coefficient there, or as a new point
pub data IsPointAdded (k : ℤ) (c : Fraction) (old new : List Point) : Type 0 where
  joined : (before after : List Point) (d : Fraction) → old ≡ before ++ record { k = k; coef = d } ∷ after →
      new ≡ before ++ record { k = k; coef = d +ℚ c } ∷ after → IsPointAdded k c old new
  entered : (before after : List Point) → old ≡ before ++ after → new ≡ before ++ record { k = k; coef = c } ∷ after → IsPointAdded k c old new

-- the points qs, counted from p and times its coefficient, are taken away from the old ones
pub record IsSubtracted (p : Point) (qs old new : List Point) : Type 0 where
  pub terms : (a : List ℤ) (x : Exponents) → IsSpot a x p.k → AreSpots a (moved a x p.k) qs →
      SamePolynomial (strand_terms a x new) (strand_terms a x old ++ times (neg_ℚ p.coef) [] (strand_terms a (moved a x p.k) qs))
  pub on : (a : List ℤ) (x : Exponents) → IsSpot a x p.k → AreSpots a (moved a x p.k) qs → AreSpots a x old → AreSpots a x new
  pub above : (k : ℤ) → k <ℤ p.k → Each (λ (q : Point). pos 0 <ℤ q.k) qs → Each (λ (q : Point). k <ℤ q.k) old → Each (λ (q : Point). k <ℤ q.k) new
  pub falling : AreFalling old → AreFalling new

-- a reduction of f by ds on its way: steps lead to what is left of the work and what is kept of it, and no mark divides what is kept
pub record IsWorkOn (a : List ℤ) (x : Exponents) (ds : List MarkedPolynomial) (f : Terms) (work kept : List Point) : Type 0 where
  pub reached : Reached (Contains ds) f (strand_terms a x (work ++ kept))
  pub on : AreSpots a x (work ++ kept)
  pub falling : AreFalling (work ++ kept)
  pub irreducible : Each (λ (p : Point). IsDivisible (Contains ds) (moved a x p.k) → ⊥) kept

-- whichever polynomial is on its way so, it is so again with the newer lists
pub record KeepsWork (a : List ℤ) (x : Exponents) (ds : List MarkedPolynomial) (work kept newer more : List Point) : Type 0 where
  pub at : (f : Terms) → IsWorkOn a x ds f work kept → IsWorkOn a x ds f newer more

-- where the multiples of work and kept are positive, they stay so
pub record KeepsFurther (work kept newer more : List Point) : Type 0 where
  pub at : Each (λ (p : Point). pos 0 <ℤ p.k) (work ++ kept) → Each (λ (p : Point). pos 0 <ℤ p.k) (newer ++ more)

-- l is the strand of these points, marked at the last one, divided by its coefficient
pub record IsStrandFrom (a : List ℤ) (x : Exponents) (ps : List Point) (l : Strand) : Type 0 where
  pub strand : IsStrandAlong a l
  pub monic : IsMonicForm (strand_terms a x ps) (strand_member a l)
  pub apart : AreMultipleApart a l.mark x

-- the mark of a strand divides x
pub record HasStrandBelow (ls : List Strand) (x : Exponents) (j : ℕ) : Type 0 where
  pub strand : Strand
  pub within : j < length ls
  pub at : get_or ls j strand ≡ strand
  pub divides : Divides strand.mark x

-- none does
pub record NoStrandBelow (ls : List Strand) (x : Exponents) : Type 0 where
  pub none : (j : ℕ) (l : Strand) → j < length ls → get_or ls j l ≡ l → Divides l.mark x → ⊥

-- q is the point p counted from another one, and divided by its coefficient
pub record IsRelative (first p q : Point) : Type 0 where
  pub k : q.k ≡ p.k -ℤ first.k
  pub coef : q.coef ≡ p.coef /ℚ first.coef

-- the term is added as a point on the strand through x, or it isn't on that strand
pub data IsTermAdded (a : List ℤ) (x : Exponents) (t : Term) (old new : List Point) : Type 0 where
  on : (k : ℤ) → IsDistance a t.mono x k → IsPointAdded k t.coef old new → (AreFalling old → AreFalling new) → IsTermAdded a x t old new
  off : (AreMultipleApart a t.mono x → ⊥) → new ≡ old → IsTermAdded a x t old new

-- the point, its coefficient negated
abbrev pub negated_point : Point → Point
negated_point p = record { k = p.k; coef = neg_ℚ p.coef }

-- none of the first j monomials divides x
pub record NoneDividesTo (xs : List Exponents) (j : ℕ) (x : Exponents) : Type 0 where
  pub none : (i : ℕ) → i < j → Divides (get_or xs i []) x → ⊥

-- the monomial at the index j is the first one that divides x
pub record IsMonomialFor (xs : List Exponents) (x : Exponents) (j : ℕ) : Type 0 where
  pub within : j < length xs
  pub divides : Divides (get_or xs j []) x
  pub before : NoneDividesTo xs j x
