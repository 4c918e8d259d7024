-- The theorems of specs/Laws.antt.
-- To cite besides: of_reduced, to_reduced.
use Rattle.std.proofs.Common.{◌≡◌, ◌⊎◌, ℕ, suc, ◌<◌, List, [], ◌∷◌, Contains, true, arith, refl, sym, ap, ◌∙◌, subst, inl, inr}
use Rattle.gf_exponents_theory.specs.Exponents.{Exponents, Divides, IsInRing, NoMultiple, same, plus}
use Rattle.gf_exponents_theory.specs.Orders.{lighter, IsWeightedBelow}
use Rattle.gf_exponents_theory.proofs.ExponentsLaws.{plus_comm, multiple_or_not}
use Rattle.gf_poly.specs.Polynomial.{Terms}
use Rattle.gf_poly.specs.Marking.{MarkedPolynomial, Each, polys}
use Rattle.gf_ideal_theory.specs.Membership.{IsInVariables, AreInVariables, IsMember, AreSameIdeal}
use Rattle.gf_ideal_theory.specs.Marks.{Piece, value, AreMarked, IsPositive}
use Rattle.gf_ideal_theory.specs.MonomialOrders.{MonomialOrder, below_of}
use Rattle.gf_ideal_theory.specs.Bases.{IsReducedBasis, AreArranged}
use Rattle.gf_ideal_theory.proofs.ListLaws.{Each-weaker}
use Rattle.gf_ideal_theory.proofs.OrderWeights.{order-is}
use Rattle.gf_ideal_theory.proofs.InterreductionLaws.{reduced_by_weight, reduced_by_order}
use Rattle.gf_ideal_theory.proofs.BasisLaws.{basis_of_groebner, basis_along, member_pieces}
use Rattle.gf_ideal_theory.proofs.MembershipLaws.{member-generator, variables_of_member, member_of_spans, same_ideal}
use Rattle.gf_ideal_theory.proofs.SpanLaws.{Spans-equal, Spans-generator}
use Rattle.gf_ideal_theory.proofs.PieceLaws.{Contains-polys, Contains-marked, spans_value}
use Rattle.gf_ideal_theory.proofs.StepLaws.{IsPieceIn, closed-ring}
use Rattle.gf_facets_theory.specs.Regions.{Region}
use Rattle.gf_facets_theory.specs.MarkedBases.{IsMarkedReducedBasis, IsBasisInRegion}
use Rattle.gf_bases_theory.specs.Laws.{DicksonsLemma, MarkedBasesAreReduced, OnlyIdealsCount, BasesAreToldByMarks, HomogeneousBases, ReducedBasesExist}
use Rattle.gf_bases_theory.specs.Laws.{WeightsHaveBases, VectorsHaveBases, BasesAreFinite}
use Rattle.gf_bases_theory.proofs.DicksonLaws.{IsNew, dickson}
use Rattle.gf_bases_theory.proofs.ExistenceLaws.{reduced_exists, weighted_exists, marked_unique}
use Rattle.gf_bases_theory.proofs.ContainmentLaws.{contained_equal}
use Rattle.gf_bases_theory.proofs.FiniteLaws.{basis_everywhere, listed_in_region}
use Rattle.gf_bases_theory.proofs.RegionBases.{basis_at}
use Rattle.gf_bases_theory.proofs.GradedBasisLaws.{reduced-homogeneous}
use Rattle.gf_bases_theory.proofs.ShiftedWeightLaws.{vectors_have_bases as each_vector}

-- ---- Dickson's lemma

-- s is the monomial at an index before k
abbrev IsEarlier : (ℕ → Exponents) → ℕ → Exponents → Type 0
IsEarlier t k s = (i : ℕ) × (i < k) × (t i ≡ s)

-- one of those before k divides t k, or it is new
divided_or_new : (t : ℕ → Exponents) (k : ℕ) (ts : List Exponents) → Each (IsEarlier t k) ts →
    ((i : ℕ) × (i < k) × Divides (t i) (t k)) ⊎ IsNew ts (t k)
divided_or_new t k [] h = inr tt
divided_or_new t k (s ∷ ts) h = at (multiple_or_not s (t k)) (divided_or_new t k ts h.1)
  where
    at : ((y : Exponents) × (same (t k) (plus s y) ≡ true)) ⊎ NoMultiple s (t k) →
        ((i : ℕ) × (i < k) × Divides (t i) (t k)) ⊎ IsNew ts (t k) →
        ((i : ℕ) × (i < k) × Divides (t i) (t k)) ⊎ IsNew (s ∷ ts) (t k)
    at (inl m) r = inl (
      h.0.0,
      h.0.1,
      record {
        rest = m.0;
        product = subst (λ (x : Exponents). same (t k) (plus m.0 x) ≡ true) (sym h.0.2) (ap (same (t k)) (plus_comm m.0 s) ∙ m.1);
      },
    )
    at (inr n) (inl d) = inl d
    at (inr n) (inr m) = inr (n, m)

pub dicksons_lemma : DicksonsLemma
dicksons_lemma n t ring = dickson n P step [] 0 tt
  where
    P : List Exponents → Type 0
    P ts = (k : ℕ) → Each (IsEarlier t k) ts → (i : ℕ) × (j : ℕ) × (i < j) × Divides (t i) (t j)

    later : (k : ℕ) (ts : List Exponents) → Each (IsEarlier t k) ts → Each (IsEarlier t (suc k)) ts
    later k [] h = tt
    later k (s ∷ ts) h = ((h.0.0, omega (arith, h.0.1), h.0.2), later k ts h.1)

    step : (ts : List Exponents) → ((x : Exponents) → IsInRing n x → IsNew ts x → P (x ∷ ts)) → P ts
    step ts next k h = at (divided_or_new t k ts h)
      where
        at : ((i : ℕ) × (i < k) × Divides (t i) (t k)) ⊎ IsNew ts (t k) →
            (i : ℕ) × (j : ℕ) × (i < j) × Divides (t i) (t j)
        at (inl d) = (d.0, k, d.1, d.2)
        at (inr m) = next (t k) (ring k) m (suc k) ((k, omega arith, refl), later k ts h)

-- ---- marked reduced bases are the reduced bases

pub of_reduced : (n : ℕ) (fs : List Terms) (w : List ℕ) (bs : List MarkedPolynomial) → IsReducedBasis n fs w bs →
    AreArranged n bs → IsMarkedReducedBasis n fs bs
of_reduced n fs w bs r a = record {
  reduced = record {
    basis = basis_of_groebner n fs bs w (record { positive = r.positive; basis = r.reduced.basis });
    tails = r.reduced.tails;
    heads = r.reduced.heads;
  };
  arranged = a;
}

pub to_reduced : (n : ℕ) (fs : List Terms) (w : List ℕ) (bs : List MarkedPolynomial) → AreInVariables n fs →
    IsMarkedReducedBasis n fs bs → IsPositive n w → AreMarked (lighter w) bs → IsReducedBasis n fs w bs
to_reduced n fs w bs v b p m = reduced_by_weight n fs bs w v b.reduced.basis p m b.reduced.tails b.reduced.heads

pub marked_bases_are_reduced : MarkedBasesAreReduced
marked_bases_are_reduced = record {
  weights = λ n fs bs v. (
    λ b. (b.arranged, (b.reduced.basis.marked.0, to_reduced n fs b.reduced.basis.marked.0 bs v b b.reduced.basis.marked.1 b.reduced.basis.marked.2)),
    λ q. of_reduced n fs q.1.0 bs q.1.1 q.0,
  );
  at_weight = λ n fs w bs v b. (λ r. (r.positive, r.reduced.basis.marked), λ q. to_reduced n fs w bs v b q.0 q.1);
  at_order = λ o n fs bs v b. (
    λ r. r.basis.marked,
    λ m. reduced_by_order n fs bs (below_of o) v b.reduced.basis (order-is o).strict m b.reduced.tails
        b.reduced.heads,
  );
  everywhere = λ n fs bs v. (λ b. record { reduced = b.reduced; arranged = b.arranged }, basis_everywhere n fs bs);
}

-- ---- only the ideal counts

generated : (n : ℕ) (fs : List Terms) (bs : List MarkedPolynomial) → AreInVariables n fs → IsMarkedReducedBasis n fs bs →
    AreInVariables n (polys bs) × AreSameIdeal n fs (polys bs)
generated n fs bs v b = (variables, same_ideal n fs (polys bs) v variables there back)
  where
    variables : AreInVariables n (polys bs)
    variables f c = let e = Contains-marked bs f c in subst (IsInVariables n) e.2 (variables_of_member n fs e.0.poly v (b.reduced.basis.members e.0 e.1))

    back : (g : Terms) → Contains (polys bs) g → IsMember n fs g
    back g c = let e = Contains-marked bs g c in subst (IsMember n fs) e.2 (b.reduced.basis.members e.0 e.1)

    there : (f : Terms) → Contains fs f → IsMember n (polys bs) f
    there f c =
        let p = member_pieces n fs bs (IsInRing n) f v b.reduced.basis
        (closed-ring n (Contains bs) (λ d k. variables_of_member n fs d.poly v (b.reduced.basis.members d k))) (member-generator n fs f c) (v f c) in
        member_of_spans n (polys bs) f variables (v f c)
        (Spans-equal (polys bs) (value p.0) f (λ e. sym (p.2 e))
        (spans_value (polys bs) (Contains bs) (λ d k. Spans-generator (polys bs) d.poly (Contains-polys bs d k)) p.0
        (Each-weaker (IsPieceIn (Contains bs) (IsInRing n)) (λ (q : Piece). Contains bs q.of) (λ q k. k.member) p.0 p.1)))

same_reduced : (n : ℕ) (fs gs : List Terms) (bs : List MarkedPolynomial) → AreSameIdeal n fs gs → IsMarkedReducedBasis n fs bs →
    IsMarkedReducedBasis n gs bs
same_reduced n fs gs bs s b = record {
  reduced = record { basis = basis_along n fs gs bs s b.reduced.basis; tails = b.reduced.tails; heads = b.reduced.heads };
  arranged = b.arranged;
}

same_in_region : (n : ℕ) (fs gs : List Terms) (k : Region) (bs : List MarkedPolynomial) → AreSameIdeal n fs gs → IsBasisInRegion n fs k bs →
    IsBasisInRegion n gs k bs
same_in_region n fs gs k bs s b = record { reduced = r.reduced; arranged = b.arranged; weight = b.weight; inside = b.inside; marked = b.marked }
  where
    r : IsMarkedReducedBasis n gs bs
    r = same_reduced n fs gs bs s (record { reduced = b.reduced; arranged = b.arranged })

pub only_ideals_count : OnlyIdealsCount
only_ideals_count = record { same = same_reduced; in_region = same_in_region; generated = generated }

pub bases_are_told_by_marks : BasesAreToldByMarks
bases_are_told_by_marks = contained_equal

pub homogeneous_bases : HomogeneousBases
homogeneous_bases = reduced-homogeneous

-- ---- existence and uniqueness

pub reduced_bases_exist : ReducedBasesExist
reduced_bases_exist = record {
  for_order = λ o n grade fs a v h. let b = reduced_exists o n grade fs a v h in
      (b.0, b.1, reduced_by_order n fs b.0 (below_of o) v b.1.reduced.basis (order-is o).strict b.2 b.1.reduced.tails b.1.reduced.heads);
  for_weight = λ n fs w v. let b = weighted_exists n fs w v in (
    b.0,
    b.1,
    reduced_by_order n fs b.0 (IsWeightedBelow w) v b.1.reduced.basis (order-is (MonomialOrder.weighted w)).strict b.2 b.1.reduced.tails
        b.1.reduced.heads,
  );
  one = marked_unique;
}

pub weights_have_bases : WeightsHaveBases
weights_have_bases = basis_at

pub vectors_have_bases : VectorsHaveBases
vectors_have_bases = each_vector

-- ---- finiteness

pub bases_are_finite : BasesAreFinite
bases_are_finite n k fs v w = let r = listed_in_region n fs k v w in (r.bases, λ bs. (r.sound bs, r.complete bs))
