-- Tasks: the members of a run have a positive weight, and case by case on which polynomials which order is good.
use Rattle.std.specs.Prelude.{◌≡◌, ℕ, zero, suc, ◌<◌, List, [], ◌∷◌, All, ℤ, pos, negsuc, ◌≤ℤ◌}
use Rattle.std.specs.List.{AllByRecursion}
use Rattle.std.proofs.lemmas.List.Elements.{recursion_from_All}
use Rattle.std.proofs.lemmas.Int.{ints}
use Rattle.std.proofs.Common.{arith, refl, sym, subst, ◌∙◌, inl, inr}
use Rattle.gf_exponents_theory.specs.Exponents.{entry}
use Rattle.gf_exponents_theory.specs.Orders.{gains}
use Rattle.gf_exponents_theory.specs.SixOrders.{MonomialOrder, below_of}
use Rattle.gf_exponents_theory.proofs.WholeWeightLaws.{length-gains, positive-gains}
use Rattle.gf_poly.specs.Polynomial.{Terms, HasVariables}
use Rattle.gf_poly.specs.Marking.{MarkedPolynomial, Each}
use Rattle.gf_ideal_theory.specs.Membership.{AreInVariables}
use Rattle.gf_ideal_theory.specs.Marks.{HasPositiveWeight}
use Rattle.gf_ideal_theory.specs.MonomialOrders.{IsOfGrade}
use Rattle.gf_ideal_theory.specs.WorkLists.{IsWorkList}
use Rattle.gf_ideal_theory.specs.LawsOfBases.{AreHomogeneous}
use Rattle.gf_ideal_theory.proofs.ListLaws.{contained_each}
use Rattle.gf_ideal_theory.proofs.ListedTerms.{variables_by_terms}
use Rattle.gf_ideal_theory.proofs.MarkWeights.{marked_positive}
use Rattle.gf_ideal_theory.proofs.OrderTableLaws.{multiples_are_homogeneous}
use Rattle.gf_ideal_theory.proofs.OrderWeights.{order-weights, ones, entry-ones, degree-ones}
use Rattle.gf_ideal_theory.proofs.WorkLaws.{work-marked, work-homogeneous}
use Rattle.gf_buchberger.specs.Tasks.{HaveRingVariables, IsBasisTask, HaveOneDegree, OrdersThatSuit}
use Rattle.gf_buchberger.specs.Runs.{State, IsRun, AreReducers}

pub ring_variables : (n : ℕ) (fs : List Terms) → HaveRingVariables n fs → AreInVariables n fs
ring_variables n fs v f c = variables_by_terms n f (v.each f c)

-- a list of polynomials in n variables
pub ring_of_each : (n : ℕ) (fs gs : List Terms) → gs ≡ fs → Each (HasVariables n) fs → HaveRingVariables n gs
ring_of_each n fs gs e h = subst (HaveRingVariables n) (sym e) (record { each = λ f c. contained_each (HasVariables n) fs h f c })

-- ---- the members of a run

-- some positive weight marks them
pub run_weight : (order : MonomialOrder) (n : ℕ) (fs : List Terms) (bs : List MarkedPolynomial) → IsBasisTask order n fs → IsWorkList fs (below_of order) bs →
    HasPositiveWeight n bs
run_weight order n fs bs j w = marked_positive (IsOfGrade n j.suited.grade) (below_of order) n bs (order-weights order n j.suited.grade j.suited.admissible)
    (work-marked fs (below_of order) bs w) (work-homogeneous n j.suited.grade fs (below_of order) bs j.suited.homogeneous w)

pub run_reducers : (order : MonomialOrder) (n : ℕ) (fs : List Terms) (s : State) → IsBasisTask order n fs → IsRun order n fs s → AreReducers order s.members
run_reducers order n fs s j r = let w = run_weight order n fs s.members j r.work in record {
  n = n;
  each = r.variables;
  entries = j.entries;
  weight = (w.0, w.2);
}

-- ---- case by case

-- without weights each polynomial is homogeneous
ungraded : (n : ℕ) (fs : List Terms) → HaveRingVariables n fs → AreHomogeneous n [] fs
ungraded n fs v f c x y p q = (refl, λ i l. ring_variables n fs v f c x p i l ∙ sym (ring_variables n fs v f c y q i l))

-- of one degree
of_degree : (n : ℕ) (fs : List Terms) → HaveRingVariables n fs → HaveOneDegree fs → AreHomogeneous n (ones n) fs
of_degree n fs v h f c x y p q =
    let rx = ring_variables n fs v f c x p in
    let ry = ring_variables n fs v f c y q in
    (degree-ones n x rx ∙ h f c x y p q ∙ sym (degree-ones n y ry), λ i l. rx i l ∙ sym (ry i l))

-- nothing counts for an exponent where no entry is positive
no_gain : (a : List ℤ) → All (λ k. k ≤ℤ pos 0) a → (i : ℕ) → entry (gains a) i ≡ 0
no_gain a h i = at a (recursion_from_All (λ k. k ≤ℤ pos 0) a h) i
  where
    at : (a : List ℤ) → AllByRecursion (λ k. k ≤ℤ pos 0) a → (i : ℕ) → entry (gains a) i ≡ 0
    at [] h i = refl
    at (pos k ∷ a) h zero = omega (arith, ints, h.0)
    at (negsuc k ∷ a) h zero = refl
    at (pos k ∷ a) h (suc i) = at a h.1 i
    at (negsuc k ∷ a) h (suc i) = at a h.1 i

pub orders_that_suit : OrdersThatSuit
orders_that_suit = record {
  lex = λ n fs v. record { grade = []; admissible = tt; homogeneous = ungraded n fs v };
  deglex = λ n fs v. record { grade = []; admissible = tt; homogeneous = ungraded n fs v };
  weighted = λ n w fs v. record { grade = []; admissible = tt; homogeneous = ungraded n fs v };
  weighted_revlex = λ n w fs v p e. record {
    grade = [];
    admissible = λ i l. positive-gains w p i (subst (λ (k : ℕ). i < k) (sym e ∙ length-gains w) l);
    homogeneous = ungraded n fs v;
  };
  revlex = λ n fs v h. record { grade = ones n; admissible = λ i l. omega (arith, entry-ones n i l); homogeneous = of_degree n fs v h };
  facet = λ n a v fs r p e h. record {
    grade = v;
    admissible = inl p;
    homogeneous = λ f c. multiples_are_homogeneous n a v f e (ring_variables n fs r f c) (h f c);
  };
  facet_downward = λ n a fs v h. record { grade = []; admissible = inr (no_gain a h); homogeneous = ungraded n fs v };
}
