-- The theorems of specs/LawsOfBases.antt.
use Rattle.std.proofs.Common.{◌++◌, ◌≡◌, ℕ, List, [], Contains, refl, sym, subst, inl}
use Rattle.std.proofs.lemmas.List.Elements.{Contains-append_left}
use Rattle.gf_exponents_theory.specs.Orders.{lighter, IsStrict}
use Rattle.gf_exponents_theory.proofs.OrderLaws.{lighter-strict}
use Rattle.gf_poly.specs.Polynomial.{Terms}
use Rattle.gf_poly.specs.Marking.{MarkedPolynomial, polys}
use Rattle.gf_ideal_theory.specs.Membership.{AreInVariables, IsMember}
use Rattle.gf_ideal_theory.specs.Marks.{AreMarked, IsPositive, HasPositiveWeight}
use Rattle.gf_ideal_theory.specs.MonomialOrders.{MonomialOrder, below_of, IsOfGrade, IsHomogeneous, IsAdmissible, Comparison, compared_by}
use Rattle.gf_ideal_theory.specs.Bases.{IsBasis, IsReducedBasis, IsHeaviest, IsGreatest}
use Rattle.gf_ideal_theory.specs.Settled.{ArePairsSettled}
use Rattle.gf_ideal_theory.specs.WorkLists.{IsWorkList}
use Rattle.gf_ideal_theory.specs.LawsOfBases.{AreHomogeneous, DoPairsReduceToZero, BuchbergersCriterion, PairsAreSettled, BasesGoByTheirMarks}
use Rattle.gf_ideal_theory.specs.LawsOfBases.{MembershipIsDecided, NormalFormsAreUnique, BasesMayBeInterreduced, BasesMayBeArranged, ReducedBasesAreUnique}
use Rattle.gf_ideal_theory.specs.LawsOfBases.{RunsEndWithABasis}
use Rattle.gf_ideal_theory.proofs.MembershipLaws.{member-zero, member-equal, member-generator, spans_of_member}
use Rattle.gf_ideal_theory.proofs.StepLaws.{member-reached_back}
use Rattle.gf_ideal_theory.proofs.PieceLaws.{Contains-polys, Contains-marked, combined_of_polys}
use Rattle.gf_ideal_theory.proofs.OrderWeights.{order-is, grading}
use Rattle.gf_ideal_theory.proofs.MarkWeights.{IsGradedBy, mark-there, order-marks}
use Rattle.gf_ideal_theory.proofs.SettledLaws.{settled_everywhere}
use Rattle.gf_ideal_theory.proofs.BasisLaws.{remainder_zero, settled_of_basis, basis_by_pairs, groebner_by_weight, groebner_by_order, basis_of_groebner}
use Rattle.gf_ideal_theory.proofs.BasisLaws.{basis_of_groebner_for}
use Rattle.gf_ideal_theory.proofs.InterreductionLaws.{basis-kept, basis-of_tails, tail-marked, reduced_by_weight, reduced_by_order, interreduced}
use Rattle.gf_ideal_theory.proofs.InterreductionLaws.{reduced-tails, apart-tails}
use Rattle.gf_ideal_theory.proofs.ArrangementLaws.{basis-arranged, reduced-arranged}
use Rattle.gf_ideal_theory.proofs.ArrangedLists.{arranged_equal}
use Rattle.gf_ideal_theory.proofs.UniquenessLaws.{unique_by_weight, unique_by_order}
use Rattle.gf_ideal_theory.proofs.IntegerPairLaws.{pair_of_settled}
use Rattle.gf_ideal_theory.proofs.CriteriaLaws.{pair_by_steps, pair_by_product, pair_by_monomials, pair_by_chain, pair_turned, pair_more, pairs_at_join}
use Rattle.gf_ideal_theory.proofs.NormalFormLaws.{normal_form-reached, normal_form-unique}
use Rattle.gf_ideal_theory.proofs.WorkLaws.{work-marked, work-members, work-homogeneous, order_basis, run_basis}
use Rattle.gf_ideal_theory.proofs.DividingLaws.{member_contained}

-- ---- steps

compared-strict : (k : Comparison) → IsStrict (compared_by k)
compared-strict (Comparison.by_weight w) = lighter-strict w
compared-strict (Comparison.by_order o) = (order-is o).strict

member_of_polys : (n : ℕ) (bs : List MarkedPolynomial) (b : MarkedPolynomial) → Contains bs b →
    IsMember n (polys bs) b.poly
member_of_polys n bs b c = member-generator n (polys bs) b.poly (Contains-polys bs b c)

graded : (o : MonomialOrder) (n : ℕ) (grade : List ℕ) (bs : List MarkedPolynomial) → AreMarked (below_of o) bs →
    AreHomogeneous n grade (polys bs) → (b : MarkedPolynomial) → Contains bs b → IsGradedBy (IsOfGrade n grade) b
graded o n grade bs m h b c e k = h b.poly (Contains-polys bs b c) e b.head k (mark-there (below_of o) b (m b c))

settled_by_reduction : (k : Comparison) (n : ℕ) (bs : List MarkedPolynomial) → AreInVariables n (polys bs) →
    AreMarked (compared_by k) bs → DoPairsReduceToZero bs → ArePairsSettled n bs (compared_by k)
settled_by_reduction k n bs v m h i j b c l p q = let r = h i j b c l p q in pair_by_steps n bs (compared_by k) b c r.0 [] v (compared-strict k) m
    (member_contained bs i b p) (member_contained bs j c q) r.1 r.2 (inl (λ x. refl))

-- a basis of its own ideal has settled pairs
settled_pairs : (k : Comparison) (n : ℕ) (bs : List MarkedPolynomial) → AreInVariables n (polys bs) →
    AreMarked (compared_by k) bs → IsBasis n (polys bs) bs → ArePairsSettled n bs (compared_by k)
settled_pairs k n bs v m b i j c d l p q =
    pair_of_settled n bs (compared_by k) c d v (compared-strict k) m (member_contained bs i c p) (member_contained bs j d q)
    (settled_of_basis n (polys bs) bs (compared_by k) c d v b (compared-strict k) m (member_contained bs i c p) (member_contained bs j d q))

weight_basis : (n : ℕ) (w : List ℕ) (bs : List MarkedPolynomial) → IsPositive n w → AreMarked (lighter w) bs →
    ArePairsSettled n bs (lighter w) → IsBasis n (polys bs) bs
weight_basis n w bs p m s = basis_by_pairs n (polys bs) bs (w, p, m) (member_of_polys n bs) (λ f k. combined_of_polys bs f (spans_of_member n (polys bs) f k))
    (λ b c hb hc. settled_everywhere (Contains bs) (lighter w) b c (lighter-strict w) (pairs_at_join n bs (lighter w) (lighter-strict w) s b c hb hc))

own_basis : (o : MonomialOrder) (n : ℕ) (grade : List ℕ) (bs : List MarkedPolynomial) → IsAdmissible o n grade →
    AreHomogeneous n grade (polys bs) → AreMarked (below_of o) bs → ArePairsSettled n bs (below_of o) →
    IsBasis n (polys bs) bs
own_basis o n grade bs a h m s = order_basis o n grade (polys bs) bs a m (graded o n grade bs m h) (member_of_polys n bs)
    (λ f k. member-generator n (polys bs) f k) s

marks_of : (o : MonomialOrder) (n : ℕ) (grade : List ℕ) (bs : List MarkedPolynomial) → IsAdmissible o n grade →
    AreHomogeneous n grade (polys bs) → AreMarked (below_of o) bs → HasPositiveWeight n bs
marks_of o n grade bs a h m = order-marks o n grade bs a m (λ b c. h b.poly (Contains-polys bs b c))

-- ---- the theorems

pub buchbergers_criterion : BuchbergersCriterion
buchbergers_criterion = record {
  for_weight = λ n w bs v p m s. groebner_by_weight n (polys bs) bs w v (weight_basis n w bs p m s) p m;
  weight_only_if = λ n w bs v b. settled_pairs (Comparison.by_weight w) n bs v b.basis.marked (basis_of_groebner n (polys bs) bs w b);
  weight_by_reduction =
      λ n w bs v p m r. groebner_by_weight n (polys bs) bs w v (weight_basis n w bs p m (settled_by_reduction (Comparison.by_weight w) n bs v m r)) p m;
  for_order = λ o n grade bs a v h m s. groebner_by_order n (polys bs) bs (below_of o) v (own_basis o n grade bs a h m s) (order-is o).strict m;
  order_only_if = λ o n grade bs a v h b. settled_pairs (Comparison.by_order o) n bs v b.marked (basis_of_groebner_for n (polys bs) bs (below_of o) (order-is o)
      (marks_of o n grade bs a h b.marked) b);
  order_by_reduction = λ o n grade bs a v h m r. groebner_by_order n (polys bs) bs (below_of o) v
      (own_basis o n grade bs a h m (settled_by_reduction (Comparison.by_order o) n bs v m r)) (order-is o).strict m;
}

pub pairs_are_settled : PairsAreSettled
pairs_are_settled = record {
  by_reduction = λ k n bs b c s r v m hb hc q steps e. pair_by_steps n bs (compared_by k) b c s r v (compared-strict k) m hb hc q steps e;
  by_product = λ k n bs b c v m hb hc q. pair_by_product n bs (compared_by k) b c v (compared-strict k) m hb hc q;
  by_monomials = λ k n bs b c v m hb hc p q. pair_by_monomials n bs (compared_by k) b c v (compared-strict k) m hb hc p q;
  by_chain = λ k n bs b c d u v m hb hc h p q. pair_by_chain n bs (compared_by k) b c d u v (compared-strict k) m hb hc h p q;
  turned = λ k n bs b c v m hb hc p. pair_turned n bs (compared_by k) b c v (compared-strict k) m hb hc p;
  longer = λ k n bs cs b c p. pair_more n bs (bs ++ cs) (compared_by k) b c (λ d h. Contains-append_left bs cs d h) p;
}

pub bases_go_by_their_marks : BasesGoByTheirMarks
bases_go_by_their_marks = record {
  weights = λ n fs u w bs v b p m. groebner_by_weight n fs bs w v (basis_of_groebner n fs bs u b) p m;
  orders = λ o n fs u bs v b m. groebner_by_order n fs bs (below_of o) v (basis_of_groebner n fs bs u b) (order-is o).strict m;
  reduced_weights = λ n fs u w bs v b p m. reduced_by_weight n fs bs w v (of_reduced n fs u bs b) p m b.reduced.tails b.reduced.heads;
  reduced_orders = λ o n fs u bs v b m. reduced_by_order n fs bs (below_of o) v (of_reduced n fs u bs b) (order-is o).strict m b.reduced.tails b.reduced.heads;
  order_to_weight = λ o n grade fs bs a v h b.
      let w = marks_of o n grade bs a h b.basis.marked in
      (w.0, reduced_by_weight n fs bs w.0 v (basis_of_groebner_for n fs bs (below_of o) (order-is o) w b.basis) w.1 w.2 b.tails b.heads);
}
  where
    of_reduced : (n : ℕ) (fs : List Terms) (w : List ℕ) (bs : List MarkedPolynomial) → IsReducedBasis n fs w bs →
        IsBasis n fs bs
    of_reduced n fs w bs b = basis_of_groebner n fs bs w (record { positive = b.positive; basis = b.reduced.basis })

pub membership_is_decided : MembershipIsDecided
membership_is_decided = record {
  zero = remainder_zero;
  member = λ n fs bs f r v w b s z. member-reached_back n fs (Contains bs) f r v w b.members s (member-equal n fs [] r (λ x. sym (z x)) (member-zero n fs));
  of_weight = λ n fs w bs b. basis_of_groebner n fs bs w b;
}

pub normal_forms_are_unique : NormalFormsAreUnique
normal_forms_are_unique = record { remainder = λ bs f r p. (normal_form-reached bs f r p.reached, p.irreducible); unique = normal_form-unique }

pub bases_may_be_interreduced : BasesMayBeInterreduced
bases_may_be_interreduced = record {
  kept = basis-kept;
  tails = basis-of_tails;
  interreduced = λ n fs bs ks cs v b inside over a t. (interreduced n fs bs ks cs v b inside over t, reduced-tails ks cs t, apart-tails ks ks cs t a);
  tails_marked = λ k bs c m t. tail-marked (compared_by k) bs c (compared-strict k) m t;
  reduced = λ n fs w bs v b p m t h. reduced_by_weight n fs bs w v b p m t h;
  reduced_for = λ o n fs bs v b m t h. reduced_by_order n fs bs (below_of o) v b (order-is o).strict m t h;
}

pub bases_may_be_arranged : BasesMayBeArranged
bases_may_be_arranged = record {
  basis = basis-arranged;
  reduced = λ n fs w bs cs p b. record { positive = b.positive; reduced = reduced-arranged n fs (lighter w) (IsHeaviest w) bs cs p b.reduced };
  reduced_for = λ o n fs bs cs p b. reduced-arranged n fs (below_of o) (IsGreatest (below_of o)) bs cs p b;
}

pub reduced_bases_are_unique : ReducedBasesAreUnique
reduced_bases_are_unique = record {
  for_weight = unique_by_weight;
  for_order = λ o n fs bs cs p q. unique_by_order n fs (below_of o) bs cs (order-is o) p q;
  arranged = arranged_equal;
}

pub runs_end_with_a_basis : RunsEndWithABasis
runs_end_with_a_basis = record {
  members = λ n fs o bs v w. work-members n fs (below_of o) bs v w;
  marked = λ fs o bs w. work-marked fs (below_of o) bs w;
  homogeneous = homogeneous;
  basis = λ o n grade fs bs a v h w back s. run_basis o n grade fs bs a v h w back s;
  for_order = λ o n grade fs bs a v h w back s. groebner_by_order n fs bs (below_of o) v (run_basis o n grade fs bs a v h w back s) (order-is o).strict
      (work-marked fs (below_of o) bs w);
}
  where
    homogeneous : (n : ℕ) (grade : List ℕ) (fs : List Terms) (o : MonomialOrder) (bs : List MarkedPolynomial) →
        AreHomogeneous n grade fs → IsWorkList fs (below_of o) bs → AreHomogeneous n grade (polys bs)
    homogeneous n grade fs o bs h w f c = at (Contains-marked bs f c)
      where
        at : ((b : MarkedPolynomial) × Contains bs b × (b.poly ≡ f)) → IsHomogeneous n grade f
        at b = subst (λ (z : Terms). IsHomogeneous n grade z) b.2 (λ x y k l. let g = grading n grade in
            let a = work-homogeneous n grade fs (below_of o) bs h w b.0 b.1 in
            g.transitive x b.0.head y (a x k) (g.symmetric y b.0.head (a y l)))
