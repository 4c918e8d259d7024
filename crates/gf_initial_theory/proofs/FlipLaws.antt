-- Neighbours: two are on both sides of a facet, there is one at most, crossing back gives the first; and what the lifts of
-- the reduced basis of the parts are autoreduced to is one.
-- To cite: side_of_inside, side_there, adjacent_unique, adjacent_turned, adjacent_back, normal-further, along_negated,
-- further_beyond, ArePartFacts, part_facts, lifted_all, lifted_tops, other_side, adjacent_of_side, crossed, both_sides.
use Rattle.std.specs.Prelude.{◌≡◌, ℕ, List, length, get_or, Contains, IsPermutation, ℤ, pos, neg_ℤ}
use Rattle.std.proofs.Common.{arith, sym, ap, ◌∙◌, subst, inl, inr}
use Rattle.std.proofs.lemmas.Int.{ints}
use Rattle.std.proofs.lemmas.List.Sorted.{Contains-permutation, IsPermutation-sym}
use Rattle.gf_exponents_theory.specs.Exponents.{Exponents, plus}
use Rattle.gf_exponents_theory.specs.Orders.{IsStrict, IsFacetBelow, negated_row_of, lighter, gains}
use Rattle.gf_exponents_theory.proofs.ExponentsLaws.{same_trans, same_shift}
use Rattle.gf_exponents_theory.proofs.OrderLaws.{lighter-strict}
use Rattle.gf_exponents_theory.proofs.WholeWeightLaws.{row-order}
use Rattle.gf_poly.specs.Polynomial.{Terms}
use Rattle.gf_poly.specs.Marking.{MarkedPolynomial, polys}
use Rattle.gf_vec.specs.Vector.{dot}
use Rattle.gf_ideal_theory.specs.Membership.{AreInVariables}
use Rattle.gf_ideal_theory.specs.Marks.{AreMarked}
use Rattle.gf_ideal_theory.specs.Reduction.{IsDivisible}
use Rattle.gf_ideal_theory.specs.Bases.{IsBasis, HasReducedTails, AreApart, IsReducedBasisFor, AreSameBasis, AreArranged}
use Rattle.gf_ideal_theory.specs.WorkLists.{AreReducedTails}
use Rattle.gf_ideal_theory.proofs.MembershipLaws.{member-equal, variables_of_member}
use Rattle.gf_ideal_theory.proofs.BasisLaws.{basis_of_groebner_for, basis_along}
use Rattle.gf_ideal_theory.proofs.InterreductionLaws.{interreduced, reduced-tails, apart-tails, tail-marked, tails-of_index}
use Rattle.gf_ideal_theory.proofs.ArrangementLaws.{basis-arranged, apart-arranged}
use Rattle.gf_ideal_theory.proofs.ArrangedLists.{arranged_equal}
use Rattle.gf_ideal_theory.proofs.DividingLaws.{divisible_itself}
use Rattle.gf_facets_theory.specs.Rows.{IsNormal, negated}
use Rattle.gf_facets_theory.specs.Regions.{Region, IsInRegion}
use Rattle.gf_facets_theory.specs.Facets.{IsInsideFacet}
use Rattle.gf_initial_theory.specs.Parts.{Matching, IsPartAlong, ArePartsAlong}
use Rattle.gf_facets_theory.specs.Beyond.{IsFurther, IsBeyond}
use Rattle.gf_facets_theory.specs.MarkedBases.{IsMarkedReduced, IsBasisInRegion}
use Rattle.gf_facets_theory.specs.Neighbours.{AreAdjacent}
use Rattle.gf_initial_theory.specs.Lifts.{IsLift, AreLifts, IsLifted, AreLifted, IsTopLift, AreTopLifts}
use Rattle.gf_facets_theory.proofs.VectorLaws.{IsNonzero, get-negated, negated-twice, dot-negated}
use Rattle.gf_facets_theory.proofs.WholeLaws.{beyond-strict}
use Rattle.gf_bases_theory.proofs.KeptLaws.{marked-twin}
use Rattle.gf_initial_theory.proofs.MatchingLaws.{matched-map}
use Rattle.gf_initial_theory.proofs.PartLaws.{IsLevelPart, parts-variables, parts_reduced}
use Rattle.gf_facets_theory.proofs.RegionLaws.{beyond_weight, beyond-positive}
use Rattle.gf_initial_theory.proofs.LiftLaws.{part_ring}
use Rattle.gf_initial_theory.proofs.LiftedLaws.{lifted_basis, lifted_marks, lifted_of_lift, lifted_of_top}
use Rattle.gf_initial_theory.proofs.ClassLaws.{facet_marks}
use Rattle.gf_facets_theory.proofs.PrimitiveLaws.{divided-entry}
use Rattle.gf_facets_theory.proofs.NormalLaws.{normal_of, normal-length, normal-primitive, normal-nonzero, row-further, beyond_of_inside, HasFurther}
use Rattle.gf_facets_theory.proofs.NormalLaws.{inside_of_beyond}
use Rattle.gf_initial_theory.proofs.SideLaws.{IsSide, side-weak, level_of_along, along_of_level, level_parts, parts_marked, parts_of_one_class, apart-negated}
use Rattle.gf_initial_theory.proofs.SideLaws.{negated-apart, same_ideals, sides_same, side_further}

-- ---- sides

-- the negatives of a vector that isn't zero
negated-nonzero : (a : List ℤ) → IsNonzero a → IsNonzero (negated a)
negated-nonzero a n = (n.0, λ z. n.1 (omega (arith, ints, z, get-negated a n.0)))

-- a basis is the side on which its facet's normal comes back
pub side_of_inside : (n : ℕ) (fs : List Terms) (k : Region) (bs : List MarkedPolynomial) (a v : List ℤ) →
    IsBasisInRegion n fs k bs → IsInsideFacet bs a v → IsSide n fs v (negated a) bs
side_of_inside n fs k bs a v b f = record {
  reduced = b.reduced;
  zero = dot-negated a v ∙ ap neg_ℤ f.zero;
  nonzero = negated-nonzero a (normal-nonzero n bs a b.arranged.canonical f.normal);
  marked = beyond_of_inside n bs a v b.arranged.canonical (λ d c. (b.reduced.basis.marked.2 d c).monic) f;
}

pub side_there : (n : ℕ) (fs : List Terms) (k : Region) (bs : List MarkedPolynomial) (a : List ℤ) (cs : List MarkedPolynomial) →
    (d : AreAdjacent n fs k bs a cs) → IsSide n fs d.point a cs
side_there n fs k bs a cs d = subst (λ (z : List ℤ). IsSide n fs d.point z cs) (negated-twice a) (side_of_inside n fs k cs (negated a) d.point d.there d.back)

-- ---- one neighbour at most

-- two neighbours across one facet are one, whatever the regions and the vectors inside are
pub adjacent_unique : (n : ℕ) (fs : List Terms) (j k : Region) (bs : List MarkedPolynomial) (a : List ℤ) (cs ds : List MarkedPolynomial) →
    AreInVariables n fs → AreAdjacent n fs j bs a cs → AreAdjacent n fs k bs a ds → cs ≡ ds
adjacent_unique n fs j k bs a cs ds vars p q = at (level_parts v bs) (level_parts v cs) (level_parts u ds)
  where
    v : List ℤ
    v = p.point

    u : List ℤ
    u = q.point

    here : IsSide n fs p.point (negated a) bs
    here = side_of_inside n fs j bs a p.point p.here p.facet

    here_too : IsSide n fs q.point (negated a) bs
    here_too = side_of_inside n fs k bs a q.point q.here q.facet

    there : IsSide n fs p.point a cs
    there = side_there n fs j bs a cs p

    there_too : IsSide n fs q.point a ds
    there_too = side_there n fs k bs a ds q

    at : ((ps : List MarkedPolynomial) × Matching (IsLevelPart p.point) bs ps) →
        ((qs : List MarkedPolynomial) × Matching (IsLevelPart p.point) cs qs) →
        ((rs : List MarkedPolynomial) × Matching (IsLevelPart q.point) ds rs) → cs ≡ ds
    at x y z = arranged_equal n cs ds p.there.arranged q.there.arranged
        (sides_same n fs (polys x.0) p.point q.point a cs y.0 ds z.0 vars
        (parts-variables n bs x.0 p.point (λ b c. variables_of_member n fs b.poly vars (here.reduced.basis.members b c)) x.1)
        there y.1 (same_ideals n fs p.point bs x.0 cs y.0 vars here.reduced.basis (side-weak n fs p.point (negated a) bs here) x.1 there.reduced.basis
        (side-weak n fs p.point a cs there) y.1)
        there_too z.1 (same_ideals n fs q.point bs x.0 ds z.0 vars here_too.reduced.basis (side-weak n fs q.point (negated a) bs here_too)
        too there_too.reduced.basis (side-weak n fs q.point a ds there_too) z.1))
      where
        -- the parts along the normal are the same for both vectors
        too : Matching (IsLevelPart q.point) bs x.0
        too = matched-map (IsLevelPart p.point) (IsLevelPart q.point) bs x.0
            (λ b r c i. level_of_along q.point (negated a) b r here_too.nonzero here_too.zero (here_too.marked b c)
            (along_of_level p.point (negated a) b r here.nonzero here.zero (here.marked b c) i)) x.1

-- neighbours are neighbours the other way round
pub adjacent_turned : (n : ℕ) (fs : List Terms) (k : Region) (bs : List MarkedPolynomial) (a : List ℤ) (cs : List MarkedPolynomial) →
    AreAdjacent n fs k bs a cs → AreAdjacent n fs k cs (negated a) bs
adjacent_turned n fs k bs a cs d = record {
  here = d.there;
  there = d.here;
  point = d.point;
  region = d.region;
  facet = d.back;
  back = subst (λ (z : List ℤ). IsInsideFacet bs z d.point) (sym (negated-twice a)) d.facet;
}

-- crossing back gives the basis one came from
pub adjacent_back : (n : ℕ) (fs : List Terms) (j k : Region) (bs : List MarkedPolynomial) (a : List ℤ) (cs ds : List MarkedPolynomial) →
    AreInVariables n fs → AreAdjacent n fs j bs a cs → AreAdjacent n fs k cs (negated a) ds → ds ≡ bs
adjacent_back n fs j k bs a cs ds vars p q = adjacent_unique n fs k j cs (negated a) ds bs vars q (adjacent_turned n fs j bs a cs p)

-- ---- twins

twins_marked : (below : Exponents → Exponents → Type 0) (bs cs : List MarkedPolynomial) → IsStrict below →
    AreSameBasis bs cs → AreMarked below bs → AreMarked below cs
twins_marked below bs cs o s m c k = let b = s.back c k in marked-twin below b.0 c o b.2 (m b.0 b.1)

twins_basis : (n : ℕ) (fs : List Terms) (bs cs : List MarkedPolynomial) → AreSameBasis bs cs → IsBasis n fs bs →
    IsBasis n fs cs
twins_basis n fs bs cs s b = record {
  members = λ c k. let d = s.back c k in member-equal n fs d.0.poly c.poly d.2.poly (b.members d.0 d.1);
  marked = (b.marked.0, b.marked.1, twins_marked (lighter b.marked.0) bs cs (lighter-strict b.marked.0) s b.marked.2);
  decides = λ f m i. b.decides f m (λ x k d. i x k (over x d));
}
  where
    over : (x : Exponents) → IsDivisible (Contains bs) x → IsDivisible (Contains cs) x
    over x d =
        let c = s.there d.member d.contained in
        record {
          member = c.0;
          contained = c.1;
          rest = d.rest;
          divides = same_trans x (plus d.rest d.member.head) (plus d.rest c.0.head) d.divides (same_shift d.rest d.member.head c.0.head c.2.head);
        }

-- ---- in any order

permuted-tails : (bs cs : List MarkedPolynomial) → IsPermutation bs cs → HasReducedTails bs → HasReducedTails cs
permuted-tails bs cs p t c k x m d = t c (Contains-permutation cs bs c (IsPermutation-sym bs cs p) k) x m
    (record { member = d.member; contained = Contains-permutation cs bs d.member (IsPermutation-sym bs cs p) d.contained; rest = d.rest; divides = d.divides })

-- ---- across the facet

-- the normal of a facet gives an unmarked monomial along its negatives
pub normal-further : (n : ℕ) (fs : List Terms) (k : Region) (bs : List MarkedPolynomial) (a : List ℤ) →
    IsBasisInRegion n fs k bs → IsNormal bs a → HasFurther bs (negated a)
normal-further n fs k bs a b p =
    let q = normal_of n bs a b.arranged.canonical p in
    let d = divided-entry q.is_row a q.part in
    record {
      member = q.member;
      contained = q.contained;
      at = q.at;
      there = q.there;
      further = row-further q.member.head q.at a d.0 d.1 ((b.arranged.canonical q.member q.contained).head ∙ sym q.width)
          (λ i. ap (λ (z : List ℤ). get_or z i (pos 0)) (sym q.row) ∙ d.3 i);
    }

-- a part along a is one along the negatives
pub along_negated : (a : List ℤ) (b p : MarkedPolynomial) → IsPartAlong a b p → IsPartAlong (negated a) b p
along_negated a b p i = record {
  head = i.head;
  along = λ x h. i.along x (apart-negated a x b.head h);
  off = λ x n. i.off x (λ h. n (negated-apart a x b.head h));
}

-- what is further along is beyond
pub further_beyond : (v a : List ℤ) (bs : List MarkedPolynomial) → AreMarked (IsFurther a) bs → AreMarked (IsBeyond v a) bs
further_beyond v a bs m b c = record { monic = (m b c).monic; tail = λ x k. elim ((m b c).tail x k) [ inl s ↦ inl s | inr f ↦ inr (inr f) ] }

-- what the parts and the reduced basis of them are
pub record ArePartFacts (n : ℕ) (fs : List Terms) (bs ps hs : List MarkedPolynomial) (a v : List ℤ) : Type 0 where
  pub side : IsSide n fs v (negated a) bs
  pub nonzero : IsNonzero a
  pub width : length a ≡ n
  pub levels : Matching (IsLevelPart v) bs ps
  pub further : AreMarked (IsFurther a) hs
  pub basis : IsBasis n (polys ps) hs

pub part_facts : (n : ℕ) (fs : List Terms) (k : Region) (bs ps hs : List MarkedPolynomial) (a v : List ℤ) →
    AreInVariables n fs → IsBasisInRegion n fs k bs → IsInRegion n k v → IsInsideFacet bs a v →
    ArePartsAlong a bs ps → IsReducedBasisFor n (polys ps) (IsFacetBelow (negated_row_of a)) hs → ArePartFacts n fs bs ps hs a v
part_facts n fs k bs ps hs a v vars b r f parts reduced = record { side = side; nonzero = nz; width = wide; levels = levels; further = further; basis = basis }
  where
    nz : IsNonzero a
    nz = normal-nonzero n bs a b.arranged.canonical f.normal

    wide : length a ≡ n
    wide = normal-length n bs a b.arranged.canonical f.normal

    side : IsSide n fs v (negated a) bs
    side = side_of_inside n fs k bs a v b f

    levels : Matching (IsLevelPart v) bs ps
    levels = matched-map (IsPartAlong a) (IsLevelPart v) bs ps (λ d p c i. level_of_along v (negated a) d p side.nonzero side.zero (side.marked d c)
        (along_negated a d p i)) parts

    part_vars : AreInVariables n (polys ps)
    part_vars = parts-variables n bs ps v (λ d c. variables_of_member n fs d.poly vars (b.reduced.basis.members d c)) levels

    further : AreMarked (IsFurther a) hs
    further = facet_marks n (polys ps) a hs nz part_vars (λ g c x y p q. apart-negated a x y
        (parts_of_one_class n fs v (negated a) bs ps side levels g c x y p q)) reduced

    basis : IsBasis n (polys ps) hs
    basis = basis_of_groebner_for n (polys ps) hs (IsFacetBelow (negated_row_of a)) (row-order (negated_row_of a))
        (beyond-positive n k v a hs r wide nz f.zero (further_beyond v a hs further)) reduced.basis

-- lifts are lifts in the wide sense, whether they are members less their remainders or end early
pub lifted_all : (n : ℕ) (fs : List Terms) (bs ps hs ls : List MarkedPolynomial) (a v : List ℤ) → AreInVariables n fs → dot a v ≡ pos 0 →
    ArePartFacts n fs bs ps hs a v → AreLifts bs hs ls → AreLifted n fs v hs ls
lifted_all n fs bs ps hs ls a v vars o q lifts = matched-map (IsLift bs) (IsLifted n fs v) hs ls
    (λ h l c t. lifted_of_lift n fs bs ps v a h l vars q.side.reduced.basis (side-weak n fs v (negated a) bs q.side) q.levels o (q.basis.members h c)
    (q.further h c) t) lifts

pub lifted_tops : (n : ℕ) (fs : List Terms) (bs ps hs ls : List MarkedPolynomial) (a v : List ℤ) → AreInVariables n fs → dot a v ≡ pos 0 →
    ArePartFacts n fs bs ps hs a v → AreTopLifts bs a hs ls → AreLifted n fs v hs ls
lifted_tops n fs bs ps hs ls a v vars o q lifts = matched-map (IsTopLift bs a) (IsLifted n fs v) hs ls
    (λ h l c t. lifted_of_top n fs bs v a h l vars q.side q.nonzero o (part_ring n fs bs ps v h.poly vars q.side.reduced.basis q.levels (q.basis.members h c))
    (q.further h c) t) lifts

-- the lifts of the reduced basis of the parts for the order along the facet, with their tails reduced, are on the other side
pub other_side : (n : ℕ) (fs : List Terms) (k : Region) (bs ps hs ls ks ts cs : List MarkedPolynomial) (a v : List ℤ) →
    AreInVariables n fs → IsInRegion n k v → dot a v ≡ pos 0 → ArePartFacts n fs bs ps hs a v → AreLifted n fs v hs ls →
    AreSameBasis ls ks → AreApart ks → AreReducedTails ks ks ts → IsPermutation ts cs → IsSide n fs v a cs
other_side n fs k bs ps hs ls ks ts cs a v vars r o q lifts twins heads tails moved = record {
  reduced = record {
    basis = basis-arranged n fs ts cs moved (interreduced n fs ks ks ts vars (twins_basis n fs ls ks twins lifted) (λ d c. c) (divisible_itself ks) tails);
    tails = permuted-tails ts cs moved (reduced-tails ks ts tails);
    heads = apart-arranged ts cs moved (apart-tails ks ks ts tails heads);
  };
  zero = o;
  nonzero = q.nonzero;
  marked = λ d c. let t = tails-of_index ks ks ts tails d (Contains-permutation cs ts d (IsPermutation-sym ts cs moved) c) in
      tail-marked (IsBeyond v a) ks d (beyond-strict v a o q.nonzero) (twins_marked (IsBeyond v a) ls ks (beyond-strict v a o q.nonzero) twins marks) t.2.tail;
}
  where
    lifted : IsBasis n fs ls
    lifted = lifted_basis n fs k bs ps hs ls v a vars q.side.reduced.basis (side-weak n fs v (negated a) bs q.side) q.levels r q.width q.nonzero o q.basis
        q.further lifts

    marks : AreMarked (IsBeyond v a) ls
    marks = lifted_marks n fs v a hs ls q.further lifts

-- a basis on the other side, arranged, is the neighbour
pub adjacent_of_side : (n : ℕ) (fs : List Terms) (k : Region) (bs cs : List MarkedPolynomial) (a v : List ℤ) →
    AreInVariables n fs → IsBasisInRegion n fs k bs → IsInRegion n k v → IsInsideFacet bs a v → IsSide n fs v a cs →
    AreArranged n cs → AreAdjacent n fs k bs a cs
adjacent_of_side n fs k bs cs a v vars b r f there arranged = record {
  here = b;
  there = record { reduced = there.reduced; arranged = arranged; weight = u.0; inside = u.1; marked = u.2 };
  point = v;
  region = r;
  facet = f;
  back = inside_of_beyond n cs a v arranged.canonical wide (normal-primitive bs a f.normal) there.nonzero f.zero there.marked
      (side_further n fs v a (negated a) bs cs vars (side_of_inside n fs k bs a v b f) there (normal-further n fs k bs a b f.normal));
}
  where
    wide : length a ≡ n
    wide = normal-length n bs a b.arranged.canonical f.normal

    u : (u : List ℤ) × IsInRegion n k u × AreMarked (lighter (gains u)) cs
    u = beyond_weight n k v a cs r wide there.nonzero f.zero there.marked

-- so, arranged, they are the neighbour
pub crossed : (n : ℕ) (fs : List Terms) (k : Region) (bs ps hs ls ks ts cs : List MarkedPolynomial) (a v : List ℤ) →
    AreInVariables n fs → IsBasisInRegion n fs k bs → IsInRegion n k v → IsInsideFacet bs a v →
    ArePartsAlong a bs ps → IsReducedBasisFor n (polys ps) (IsFacetBelow (negated_row_of a)) hs → AreLifted n fs v hs ls →
    AreSameBasis ls ks → AreApart ks → AreReducedTails ks ks ts → IsPermutation ts cs → AreArranged n cs →
    AreAdjacent n fs k bs a cs
crossed n fs k bs ps hs ls ks ts cs a v vars b r f parts reduced lifts twins heads tails moved arranged =
    adjacent_of_side n fs k bs cs a v vars b r f (other_side n fs k bs ps hs ls ks ts cs a v vars r f.zero
    (part_facts n fs k bs ps hs a v vars b r f parts reduced) lifts twins heads tails moved) arranged

-- ---- the ideal of the parts, seen from both sides

-- the parts of the two neighbours along the normal are the two reduced bases of the ideal that they generate
pub both_sides : (n : ℕ) (fs : List Terms) (k : Region) (bs ps : List MarkedPolynomial) (a : List ℤ) (cs qs : List MarkedPolynomial) →
    AreInVariables n fs → AreAdjacent n fs k bs a cs → ArePartsAlong a bs ps → ArePartsAlong a cs qs →
    IsMarkedReduced n (polys ps) ps × IsMarkedReduced n (polys ps) qs × AreMarked (IsFurther (negated a)) ps × AreMarked (IsFurther a) qs
both_sides n fs k bs ps a cs qs vars d h i = (
  parts_reduced n fs bs ps v vars s.reduced (side-weak n fs v (negated a) bs s) left,
  record {
    basis = basis_along n (polys qs) (polys ps) qs (same_ideals n fs v bs ps cs qs vars s.reduced.basis (side-weak n fs v (negated a) bs s) left t.reduced.basis
        (side-weak n fs v a cs t) right) r.basis;
    tails = r.tails;
    heads = r.heads;
  },
  parts_marked n fs v (negated a) bs ps s left,
  parts_marked n fs v a cs qs t right,
)
  where
    v : List ℤ
    v = d.point

    s : IsSide n fs d.point (negated a) bs
    s = side_of_inside n fs k bs a d.point d.here d.facet

    t : IsSide n fs d.point a cs
    t = side_there n fs k bs a cs d

    left : Matching (IsLevelPart d.point) bs ps
    left = matched-map (IsPartAlong a) (IsLevelPart d.point) bs ps (λ b p c q. level_of_along d.point (negated a) b p s.nonzero s.zero (s.marked b c)
        (along_negated a b p q)) h

    right : Matching (IsLevelPart d.point) cs qs
    right = matched-map (IsPartAlong a) (IsLevelPart d.point) cs qs (λ b p c q. level_of_along d.point a b p t.nonzero t.zero (t.marked b c) q) i

    r : IsMarkedReduced n (polys qs) qs
    r = parts_reduced n fs cs qs d.point vars t.reduced (side-weak n fs d.point a cs t) right
