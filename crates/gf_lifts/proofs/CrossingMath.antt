-- What the code of a flip meets, from its crossing on: the reduced basis of the parts, and what lifts of it lead to.
-- To cite: crossing_width, crossing_nonzero, crossing_weight, parts_of, monic_parts, liftable, AreEverLifted, ever_lifted, ever_topped, lifts_marked,
-- realisable, lifts_apart, one_index, needed_same, neighbour, have_at, realisable_at, neighbour_at.
use Rattle.std.specs.Prelude.{◌≡◌, ℕ, zero, suc, ◌<◌, true, false, List, [], ◌∷◌, ◌++◌, length, slice_index_or, Contains, IsPermutation, ℤ}
use Rattle.std.proofs.Common.{arith, refl, sym, ap, ◌∙◌, subst}
use Rattle.gf_frac.specs.Fraction.{Fraction, ◌+ℚ◌, neg_ℚ, zero_ℚ, one_ℚ}
use Rattle.gf_frac.proofs.FractionLaws.{+ℚ_assoc, +ℚ_comm, +ℚ-neg_ℚ, zero-+ℚ}
use Rattle.gf_exponents_theory.specs.Exponents.{Exponents, same, plus, NoMultiple, Divides}
use Rattle.gf_exponents_theory.specs.Orders.{IsFacetBelow, negated_row_of}
use Rattle.gf_exponents_theory.proofs.ExponentsLaws.{same-refl, plus_comm}
use Rattle.gf_poly.specs.Polynomial.{Terms, coefficient, times}
use Rattle.gf_poly.specs.Marking.{MarkedPolynomial, polys, MarkedPolynomials, HaveVariables}
use Rattle.gf_ideal_theory.specs.Membership.{AreInVariables}
use Rattle.gf_ideal_theory.specs.Marks.{IsMarked, IsRealisable, HasPositiveWeight}
use Rattle.gf_ideal_theory.specs.Reduction.{Reached, IsIrreducible}
use Rattle.gf_ideal_theory.specs.Settled.{IsAt}
use Rattle.gf_ideal_theory.specs.Bases.{IsBasis, AreApart, IsReducedBasisFor, IsTwin, AreSameBasis, AreArranged}
use Rattle.gf_ideal_theory.specs.WorkLists.{AreReducedTails}
use Rattle.gf_ideal_theory.proofs.ListLaws.{contained_each}
use Rattle.gf_ideal_theory.proofs.MarkWeights.{realised_of_marked}
use Rattle.gf_division.specs.Autoreduction.{IsNeeded, AreNeededForms, IsAutoreduced}
use Rattle.gf_facets_theory.specs.Rows.{negated}
use Rattle.gf_facets_theory.specs.Beyond.{IsBeyond}
use Rattle.gf_facets_theory.specs.Regions.{Region}
use Rattle.gf_facets_theory.specs.Facets.{IsFlippable}
use Rattle.gf_facets_theory.specs.MarkedBases.{IsBasisInRegion}
use Rattle.gf_facets_theory.proofs.NormalLaws.{normal-length, normal-nonzero}
use Rattle.gf_initial_theory.proofs.DifferenceLaws.{difference, less_summand}
use Rattle.gf_initial_theory.specs.Lifts.{AreLifts, IsLifted, AreLifted, AreTopLifts}
use Rattle.gf_initial_theory.proofs.MatchingLaws.{matched-apart}
use Rattle.gf_initial_theory.proofs.LiftedLaws.{lifted_of_lift, lifted_marked, lifted_basis}
use Rattle.gf_initial_theory.proofs.SideLaws.{side-weak}
use Rattle.gf_initial_theory.proofs.FlipLaws.{ArePartFacts, part_facts, lifted_all, lifted_tops, crossed}
use Rattle.gf_strands.specs.Along.{HasNonzero, IsBasisOfParts}
use Rattle.gf_strands.specs.Members.{AreMonic}
use Rattle.gf_lifts.specs.Crossings.{IsCrossing, IsNeighbour}
use Rattle.gf_lifts.specs.Lifting.{AreLiftable}

-- ---- the normal, and the set

-- the normal has n entries
pub crossing_width : (n : ℕ) (bs : List MarkedPolynomial) (a : List ℤ) → IsCrossing n bs a → length a ≡ n
crossing_width n bs a c = normal-length n bs a c.basis.arranged.canonical c.flippable.inside.normal

-- and isn't zero
pub crossing_nonzero : (n : ℕ) (bs : List MarkedPolynomial) (a : List ℤ) → IsCrossing n bs a → HasNonzero a
crossing_nonzero n bs a c = normal-nonzero n bs a c.basis.arranged.canonical c.flippable.inside.normal

-- a positive weight marks the set
pub crossing_weight : (n : ℕ) (bs : List MarkedPolynomial) (a : List ℤ) → IsCrossing n bs a → HasPositiveWeight n bs
crossing_weight n bs a c = c.basis.reduced.basis.marked

-- ---- the reduced basis of the parts

reduced_parts : (n : ℕ) (bs : List MarkedPolynomial) (a : List ℤ) (hs : List MarkedPolynomial) (p : IsBasisOfParts n bs a hs) →
    IsReducedBasisFor n (polys p.along.parts) (IsFacetBelow (negated_row_of a)) hs
reduced_parts n bs a hs p = subst (λ (z : List Terms). IsReducedBasisFor n z (IsFacetBelow (negated_row_of a)) hs) p.along.polynomials p.reduced

-- of an ideal and in a region in which bs is a basis and a flippable
pub parts_of : (n : ℕ) (bs : List MarkedPolynomial) (a : List ℤ) (hs : List MarkedPolynomial) (p : IsBasisOfParts n bs a hs) (gs : List Terms) (k : Region) →
    AreInVariables n gs → IsBasisInRegion n gs k bs → (f : IsFlippable n k bs a) → ArePartFacts n gs bs p.along.parts hs a f.point
parts_of n bs a hs p gs k vars b f = part_facts n gs k bs p.along.parts hs a f.point vars b f.region f.inside p.along.each (reduced_parts n bs a hs p)

-- of the crossing's own
own_parts : (n : ℕ) (bs : List MarkedPolynomial) (a : List ℤ) (hs : List MarkedPolynomial) (c : IsCrossing n bs a) (p : IsBasisOfParts n bs a hs) →
    ArePartFacts n c.generators bs p.along.parts hs a c.flippable.point
own_parts n bs a hs c p = parts_of n bs a hs p c.generators c.region c.variables c.basis c.flippable

pub monic_parts : (n : ℕ) (bs : List MarkedPolynomial) (a : List ℤ) (hs : List MarkedPolynomial) → IsCrossing n bs a → IsBasisOfParts n bs a hs → AreMonic hs
monic_parts n bs a hs c p h k = ((own_parts n bs a hs c p).further h k).monic

-- from one plus what is taken away
only_one : (c r : Fraction) → c ≡ one_ℚ → c +ℚ neg_ℚ r ≡ one_ℚ → r ≡ zero_ℚ
only_one c r e h = sym (less_summand r (neg_ℚ r +ℚ c) c (sym (sum r c))) ∙ ap (λ z. c +ℚ neg_ℚ z) (+ℚ_comm (neg_ℚ r) c ∙ h) ∙ ap (λ z. z +ℚ neg_ℚ one_ℚ) e ∙
    +ℚ-neg_ℚ one_ℚ
  where
    sum : (r c : Fraction) → r +ℚ (neg_ℚ r +ℚ c) ≡ c
    sum r c = sym (+ℚ_assoc r (neg_ℚ r) c) ∙ ap (λ z. z +ℚ c) (+ℚ-neg_ℚ r) ∙ zero-+ℚ c

-- its members may be lifted: the mark stays, since the lift is marked too
pub liftable : (n : ℕ) (bs : List MarkedPolynomial) (a : List ℤ) (hs : List MarkedPolynomial) → IsCrossing n bs a → IsBasisOfParts n bs a hs → AreLiftable bs hs
liftable n bs a hs c p d k = record {
  monic = (q.further d k).monic;
  none = λ t s i. only_one (coefficient d.poly d.head) (coefficient t d.head) (q.further d k).monic (sym (difference d.poly t d.head) ∙ (marked t s i).monic);
}
  where
    v : List ℤ
    v = c.flippable.point

    q : ArePartFacts n c.generators bs p.along.parts hs a v
    q = own_parts n bs a hs c p

    marked : (t : Terms) → Reached (Contains bs) d.poly t → IsIrreducible (Contains bs) t →
        IsMarked (IsBeyond v a) (record { poly = d.poly ++ times (neg_ℚ one_ℚ) [] t; head = d.head })
    marked t s i = lifted_marked n c.generators v a d (record { poly = d.poly ++ times (neg_ℚ one_ℚ) [] t; head = d.head }) (q.further d k)
        (lifted_of_lift n c.generators bs p.along.parts v a d (record { poly = d.poly ++ times (neg_ℚ one_ℚ) [] t; head = d.head })
        c.variables q.side.reduced.basis (side-weak n c.generators v (negated a) bs q.side) q.levels c.flippable.inside.zero (q.basis.members d k)
        (q.further d k)
        (record { remainder = t; reached = s; irreducible = i; head = refl; poly = λ x. refl }))

-- ---- lifts

-- they are lifts for each ideal, region and point inside the facet
pub record AreEverLifted (n : ℕ) (bs : List MarkedPolynomial) (a : List ℤ) (hs ls : List MarkedPolynomial) : Type 0 where
  pub at : (gs : List Terms) (k : Region) → AreInVariables n gs → IsBasisInRegion n gs k bs → (f : IsFlippable n k bs a) → AreLifted n gs f.point hs ls

-- such are the members less their remainders
pub ever_lifted : (n : ℕ) (bs : List MarkedPolynomial) (a : List ℤ) (hs ls : List MarkedPolynomial) → IsBasisOfParts n bs a hs → AreLifts bs hs ls →
    AreEverLifted n bs a hs ls
ever_lifted n bs a hs ls p l = record {
  at = λ gs k vars b f. lifted_all n gs bs p.along.parts hs ls a f.point vars f.inside.zero (parts_of n bs a hs p gs k vars b f) l;
}

-- and lifts that end early
pub ever_topped : (n : ℕ) (bs : List MarkedPolynomial) (a : List ℤ) (hs ls : List MarkedPolynomial) → IsBasisOfParts n bs a hs → AreTopLifts bs a hs ls →
    AreEverLifted n bs a hs ls
ever_topped n bs a hs ls p l = record {
  at = λ gs k vars b f. lifted_tops n gs bs p.along.parts hs ls a f.point vars f.inside.zero (parts_of n bs a hs p gs k vars b f) l;
}

-- they are a basis
lifts_are_basis : (n : ℕ) (bs : List MarkedPolynomial) (a : List ℤ) (hs ls : List MarkedPolynomial) (c : IsCrossing n bs a) → IsBasisOfParts n bs a hs →
    AreEverLifted n bs a hs ls → IsBasis n c.generators ls
lifts_are_basis n bs a hs ls c p l =
    let q = own_parts n bs a hs c p in
    lifted_basis n c.generators c.region bs p.along.parts hs ls c.flippable.point a c.variables q.side.reduced.basis
    (side-weak n c.generators c.flippable.point (negated a) bs q.side) q.levels c.flippable.region q.width q.nonzero c.flippable.inside.zero q.basis
    q.further
    (l.at c.generators c.region c.variables c.basis c.flippable)

-- monic, and marked by some positive weight
pub lifts_marked : (n : ℕ) (bs : List MarkedPolynomial) (a : List ℤ) (hs ls : List MarkedPolynomial) → IsCrossing n bs a → IsBasisOfParts n bs a hs →
    AreEverLifted n bs a hs ls → HasPositiveWeight n ls
lifts_marked n bs a hs ls c p l = (lifts_are_basis n bs a hs ls c p l).marked

pub realisable : (n : ℕ) (bs : List MarkedPolynomial) (a : List ℤ) (hs ls : List MarkedPolynomial) → IsCrossing n bs a → IsBasisOfParts n bs a hs →
    AreEverLifted n bs a hs ls → IsRealisable n ls
realisable n bs a hs ls c p l =
    let m = lifts_marked n bs a hs ls c p l in
    (m.0, m.1, λ d k. realised_of_marked m.0 d (m.2 d k))

-- and apart
pub lifts_apart : (n : ℕ) (bs : List MarkedPolynomial) (a : List ℤ) (hs ls : List MarkedPolynomial) → IsCrossing n bs a → IsBasisOfParts n bs a hs →
    AreEverLifted n bs a hs ls → AreApart ls
lifts_apart n bs a hs ls c p l = matched-apart (IsLifted n c.generators c.flippable.point) hs ls (λ d e q. q.head)
    (l.at c.generators c.region c.variables c.basis c.flippable) p.reduced.heads

-- ---- each of them is needed

not_multiple : (x y : Exponents) → NoMultiple x y → Divides x y → ⊥
not_multiple x y n d = let f : same y (plus x d.rest) ≡ false = n d.rest in let t : same y (plus x d.rest) ≡ true =
    ap (same y) (plus_comm x d.rest) ∙ d.product in absurd (cc)

pub one_index : (bs : List MarkedPolynomial) (i j : ℕ) (b c : MarkedPolynomial) → AreApart bs → IsAt bs i b → IsAt bs j c →
    Divides c.head b.head → i ≡ j
one_index [] i j b c a p q d = absurd (omega (arith, p.within))
one_index (e ∷ bs) zero zero b c a p q d = refl
one_index (e ∷ bs) zero (suc j) b c a p q d = absurd (not_multiple c.head b.head (subst (λ (z : MarkedPolynomial). NoMultiple c.head z.head) p.is
    (contained_each (λ (z : MarkedPolynomial). NoMultiple e.head z.head × NoMultiple z.head e.head) bs a.0 c (j, omega (arith, q.within), q.is)).1) d)
one_index (e ∷ bs) (suc i) zero b c a p q d = absurd (not_multiple c.head b.head (subst (λ (z : MarkedPolynomial). NoMultiple z.head b.head) q.is
    (contained_each (λ (z : MarkedPolynomial). NoMultiple e.head z.head × NoMultiple z.head e.head) bs a.0 b (i, omega (arith, p.within), p.is)).0) d)
one_index (e ∷ bs) (suc i) (suc j) b c a p q d =
    ap suc (one_index bs i j b c a.1 (record { within = omega (arith, p.within); is = p.is }) (record { within = omega (arith, q.within); is = q.is }) d)

itself : (b c : MarkedPolynomial) → c ≡ b → IsTwin b c
itself b c e = subst (λ (z : MarkedPolynomial). IsTwin b z) (sym e) (record { head = same-refl b.head; poly = λ x. refl })

-- monic members that are apart are their own needed forms
pub needed_same : (bs ks : List MarkedPolynomial) → AreApart bs → AreMonic bs → AreNeededForms bs ks → AreSameBasis bs ks
needed_same bs ks a one n = record {
  there = λ b k. let f = n.all k.0 b (needed k.0 b (record { within = k.1; is = k.2 })) in (f.0, f.1, itself b f.0 (f.2.kept (one b k)));
  back = λ c k. let f = n.inside c k in
      let q : Contains bs f.member = (f.index, f.needed.at.within, f.needed.at.is) in
      (f.member, q, itself f.member c (f.form.kept (one f.member q)));
}
  where
    needed : (i : ℕ) (b : MarkedPolynomial) → IsAt bs i b → IsNeeded bs i b
    needed i b p = record { at = p; least = λ j c q d. let e = one_index bs i j b c a p q d in (same_at i j b c p q e, omega (arith, e)) }
      where
        same_at : (i j : ℕ) (b c : MarkedPolynomial) → IsAt bs i b → IsAt bs j c → i ≡ j → same c.head b.head ≡ true
        same_at i j b c p q e = subst (λ (z : MarkedPolynomial). same z.head b.head ≡ true) (equal bs i j b c p.within p.is q.is e) (same-refl b.head)
          where
            equal : (bs : List MarkedPolynomial) (i j : ℕ) (b c : MarkedPolynomial) → i < length bs → slice_index_or bs i b ≡ b → slice_index_or bs j c ≡ c →
                i ≡ j → b ≡ c
            equal [] i j b c l p q e = absurd (omega arith)
            equal (d ∷ bs) zero zero b c l p q e = sym p ∙ q
            equal (d ∷ bs) zero (suc j) b c l p q e = absurd (omega arith)
            equal (d ∷ bs) (suc i) zero b c l p q e = absurd (omega arith)
            equal (d ∷ bs) (suc i) (suc j) b c l p q e = equal bs i j b c (omega arith) p q (omega arith)

-- ---- the neighbour

-- the lifts, or equal members, their tails reduced, arranged
pub neighbour : (n : ℕ) (bs : List MarkedPolynomial) (a : List ℤ) (hs ls ks ts cs : List MarkedPolynomial) → IsBasisOfParts n bs a hs →
    AreEverLifted n bs a hs ls → AreSameBasis ls ks → AreApart ks → AreReducedTails ks ks ts → IsPermutation ts cs → AreArranged n cs → IsNeighbour n bs a cs
neighbour n bs a hs ls ks ts cs p l twins heads tails moved o = record {
  at = λ gs k vars b f. crossed n gs k bs p.along.parts hs ls ks ts cs a f.point vars b f.region f.inside p.along.each (reduced_parts n bs a hs p)
      (l.at gs k vars b f) twins heads tails moved o;
}

-- ---- values under other names

pub have_at : (n m : ℕ) (bs items : List MarkedPolynomial) → HaveVariables n bs → items ≡ bs → m ≡ n → HaveVariables m items
have_at n m bs items v e q = subst (λ (z : ℕ). HaveVariables z items) (sym q) (subst (HaveVariables n) (sym e) v)

pub realisable_at : (n m : ℕ) (bs : List MarkedPolynomial) (a : List ℤ) (hs ls : List MarkedPolynomial) (s : MarkedPolynomials) → IsCrossing n bs a →
    IsBasisOfParts n bs a hs → AreEverLifted n bs a hs ls → m ≡ n → s ≡ record { variables = m; items = ls } → IsRealisable s.variables s.items
realisable_at n m bs a hs ls s c p l e q =
    subst (λ (z : MarkedPolynomials). IsRealisable z.variables z.items) (sym q) (subst (λ (z : ℕ). IsRealisable z ls) (sym e) (realisable n bs a hs ls c p l))

pub neighbour_at : (n m : ℕ) (bs : List MarkedPolynomial) (a : List ℤ) (hs ls : List MarkedPolynomial) (s t : MarkedPolynomials) → IsCrossing n bs a →
    IsBasisOfParts n bs a hs → AreEverLifted n bs a hs ls → m ≡ n → s ≡ record { variables = m; items = ls } → IsAutoreduced s t →
    AreArranged s.variables t.items → IsNeighbour n bs a t.items
neighbour_at n m bs a hs ls s t c p l e q w o =
    neighbour n bs a hs ls w.forms w.tails t.items p l
    (needed_same ls w.forms (lifts_apart n bs a hs ls c p l) (λ b k. ((lifts_marked n bs a hs ls c p l).2 b k).monic)
    (subst (λ (z : MarkedPolynomials). AreNeededForms z.items w.forms) q w.needed))
    w.needed.apart w.reduced w.arranged.members (subst (λ (z : ℕ). AreArranged z t.items) (ap (λ (z : MarkedPolynomials). z.variables) q ∙ e) o)
