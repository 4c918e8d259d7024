-- The saturation of an ideal that pure difference binomials generate isn't refused for coefficients; nor is the question whether such an initial
-- ideal has a monomial.
-- To cite: step_inside, way_on, saturation_narrow, cone_narrow. The rest are steps.
use Rattle.std.specs.Prelude.{◌≡◌, ℕ, zero, suc, ◌+◌, ◌<◌, ◌≤◌, Bool, true, false, List, [], ◌∷◌, ◌++◌, Contains, map, length, replicate}
use Rattle.std.specs.Prelude.{if◌then◌else◌, Some, ℤ}
use Rattle.std.proofs.Common.{arith, refl, sym, ap, ◌∙◌, subst, inl, inr}
use Rattle.gf_frac.specs.Fraction.{◌+ℚ◌, neg_ℚ, zero_ℚ, one_ℚ}
use Rattle.gf_frac.specs.declared.refusal.Overflow.{Overflow}
use Rattle.gf_frac.proofs.FractionLaws.{+ℚ-zero}
use Rattle.gf_exponents_theory.specs.Exponents.{Exponents, same}
use Rattle.gf_exponents_theory.specs.SixOrders.{MonomialOrder, below_of}
use Rattle.gf_exponents_theory.proofs.SixOrdersLaws.{order-is}
use Rattle.gf_poly.specs.Polynomial.{Terms}
use Rattle.gf_poly.specs.Marking.{MarkedPolynomial, MarkedPolynomials, Each, polys}
use Rattle.gf_ideal_theory.specs.Membership.{IsInVariables, AreInVariables}
use Rattle.gf_ideal_theory.specs.Marks.{HasPositiveWeight}
use Rattle.gf_ideal_theory.specs.MonomialOrders.{IsOfGrade, IsAdmissible}
use Rattle.gf_ideal_theory.specs.Bases.{IsBasis}
use Rattle.gf_ideal_theory.proofs.BasisLaws.{basis_of_groebner_for}
use Rattle.gf_ideal_theory.proofs.ListedTerms.{variables_by_terms}
use Rattle.gf_ideal_theory.proofs.ListLaws.{each_contained, contained_each}
use Rattle.gf_ideal_theory.proofs.MarkWeights.{marked_positive, mark-there}
use Rattle.gf_ideal_theory.proofs.MembershipLaws.{variables-equal, variables_of_member}
use Rattle.gf_ideal_theory.proofs.OrderWeights.{order-weights}
use Rattle.gf_ideal_theory.proofs.PieceLaws.{Contains-marked}
use Rattle.gf_ideal_theory.proofs.RingLaws.{in_ring_of}
use Rattle.gf_buchberger.specs.declared.bases.BasisError.TheVariants as basis_errors
use Rattle.gf_buchberger.specs.Bases.{IsArrangedBasis, IsBasisRefusal}
use Rattle.gf_duality_theory.specs.Faces.{Rows}
use Rattle.gf_saturation_theory.specs.Saturations.{AreLeftOver}
use Rattle.gf_saturation_theory.proofs.SaturationLaws.{extended_variables}
use Rattle.gf_saturate.specs.Widening.{widened_term, rabinowitsch_terms, extended_list, left_over, variable_at}
use Rattle.gf_saturate.specs.Saturating.{step_order, step_list, IsVariableStep, IsOnTheWay, IsSaturateRefusal}
use Rattle.gf_saturate.proofs.WideningLaws.{same-widened, length-variable}
use Rattle.gf_saturate.proofs.StepLaws.{extended, left_over-are, to_eliminate}
use Rattle.gf_initial_monomials.specs.declared.error.InitialError.TheVariants as initial
use Rattle.gf_initial_monomials.specs.Refusals.{IsConeRefusal, IsFaceRefusal}
use Rattle.gf_binomials_theory.specs.Binomials.{indicator, IsBinomial, AreBinomials, AreMarkedBinomials}
use Rattle.gf_binomials_theory.proofs.MonomialLaws.{neg-zero}
use Rattle.gf_binomials_theory.proofs.BinomialLaws.{binomial-marked}
use Rattle.gf_binomials_theory.proofs.RunLaws.{run_fits}
use Rattle.gf_binomial_bases_theory.proofs.DecidedLaws.{decided_by_basis}
use Rattle.gf_binomial_bases_theory.proofs.ReducedLaws.{reduced_binomials}
use Rattle.gf_binomial_calls_theory.proofs.InitialLaws.{forms_at_binomials, forms_at_variables}

-- in n variables, and such binomials
pub record AreInside (n : ℕ) (fs : List Terms) : Type 0 where
  pub variables : AreInVariables n fs
  pub binomials : AreBinomials fs

-- ---- one basis

module _ (o : MonomialOrder) (n : ℕ) (fs : List Terms) (s : MarkedPolynomials) (a : IsAdmissible o n []) (i : AreInside n fs)
    (b : IsArrangedBasis o n fs s) where
  basis : IsBasis n fs s.items
  basis = basis_of_groebner_for n fs s.items (below_of o) (order-is o) weight b.reduced.basis
    where
      weight : HasPositiveWeight n s.items
      weight = marked_positive (IsOfGrade n []) (below_of o) n s.items (order-weights o n [] a) b.marked
          (λ d c x p.
          let w = variables_by_terms n d.poly (b.arranged.canonical d c).variables in
          (refl, λ i l. w x p i l ∙ sym (w d.head (mark-there (below_of o) d (b.marked d c)) i l)))

  basis_binomials : AreMarkedBinomials (Contains s.items)
  basis_binomials =
      reduced_binomials n fs s.items i.variables i.binomials (decided_by_basis n fs s.items i.variables basis) basis.members basis.decides b.reduced.tails
      (λ c k. (b.marked c k).monic)

  basis_inside : AreInside n (polys s.items)
  basis_inside = record { variables = λ f c. in_ring f (Contains-marked s.items f c); binomials = λ f c. two f (Contains-marked s.items f c) }
    where
      in_ring : (f : Terms) → ((m : MarkedPolynomial) × Contains s.items m × (m.poly ≡ f)) → IsInVariables n f
      in_ring f m = subst (IsInVariables n) m.2 (variables_of_member n fs m.0.poly i.variables (basis.members m.0 m.1))

      two : (f : Terms) → ((m : MarkedPolynomial) × Contains s.items m × (m.poly ≡ f)) → IsBinomial f
      two f m = subst IsBinomial m.2 (binomial-marked m.0 (basis_binomials m.0 m.1))

-- ---- one variable more

widened_binomial : (f : Terms) → IsBinomial f → IsBinomial (map widened_term f)
widened_binomial f h = record { first = h.first; second = h.second; binomial = record { equation = λ e. sym (same-widened f e) ∙ h.binomial.equation e } }

negative : (b : Bool) → (if b then neg_ℚ one_ℚ else zero_ℚ) ≡ neg_ℚ (if b then one_ℚ else zero_ℚ)
negative true = refl
negative false = sym neg-zero

relation_binomial : (u : Exponents) → IsBinomial (rabinowitsch_terms u)
relation_binomial u = record {
  first = Some (u ++ 1 ∷ []);
  second = Some (replicate (length u + 1) 0);
  binomial = record {
    equation = λ e. ap (λ z. indicator (Some (u ++ 1 ∷ [])) e +ℚ z)
        (+ℚ-zero (if same e (replicate (length u + 1) 0) then neg_ℚ one_ℚ else zero_ℚ) ∙ negative (same e (replicate (length u + 1) 0)));
  };
}

extended_each : (u : Exponents) (fs : List Terms) → Each IsBinomial fs → Each IsBinomial (extended_list u fs)
extended_each u [] h = (relation_binomial u, tt)
extended_each u (f ∷ fs) h = (widened_binomial f h.0, extended_each u fs h.1)

module _ (n k : ℕ) (fs : List Terms) (l : k < n) (i : AreInside n fs) where
  pub step_inside : AreInside (n + 1) (step_list n k fs)
  step_inside = record {
    variables = subst (λ (m : ℕ). AreInVariables m (step_list n k fs)) more
        (extended_variables n u fs (step_list n k fs) (in_ring_of n u (length-variable n k l)) i.variables (extended n u fs (length-variable n k l)));
    binomials = contained_each IsBinomial (step_list n k fs) (extended_each u fs (each_contained IsBinomial fs i.binomials));
  }
    where
      u : Exponents
      u = variable_at n k

      more : suc n ≡ n + 1
      more = omega arith

  -- what a step leaves
  left_inside : (hs : List Terms) → IsVariableStep n k fs hs → AreInside n hs
  left_inside hs s = subst (AreInside n) (sym s.is) (record {
    variables = λ h c. let m = left.only h c in variables-equal n m.0.poly h m.3 m.2;
    binomials = λ h c.
        let m = left.only h c in
        let d = binomial-marked m.0 (basis_binomials (step_order n) (n + 1) (step_list n k fs) s.basis tt step_inside s.is_basis m.0 m.1) in
        record { first = d.first; second = d.second; binomial = record { equation = λ e. sym (m.3 e) ∙ d.binomial.equation e } };
  })
    where
      left : AreLeftOver n s.basis.items (left_over n s.basis.items)
      left = left_over-are n s.basis.items s.basis.items (to_eliminate n (step_list n k fs) s.basis s.is_basis) (λ c m. m)

-- ---- each set on the way

pub way_on : (n : ℕ) (fs : List Terms) (k : ℕ) (hs : List Terms) → k ≤ n → AreInVariables n fs → AreBinomials fs → IsOnTheWay n fs k hs → AreInside n hs
way_on n fs zero hs l v two (inl e) = subst (AreInside n) (sym e) (record { variables = v; binomials = two })
way_on n fs zero hs l v two (inr (s, b, e)) =
    subst (AreInside n) (sym e) (basis_inside MonomialOrder.deglex n fs s tt (record { variables = v; binomials = two }) b)
way_on n fs (suc k) hs l v two (gs, w, inl s) = left_inside n k gs (omega arith) (way_on n fs k gs (omega arith) v two w) hs s
way_on n fs (suc k) hs l v two (gs, w, inr (a, e)) = subst (AreInside n) (sym e) (way_on n fs k gs (omega arith) v two w)

run_narrow : (o : MonomialOrder) (n : ℕ) (fs : List Terms) (budget : ℕ) (x : Overflow) → AreBinomials fs →
    IsBasisRefusal o n fs budget (basis_errors.Overflow x) → ⊥
run_narrow o n fs budget x two r = r.1 (run_fits fs (below_of o) x.op x.left x.right two r.0)

pub saturation_narrow : (n : ℕ) (fs : List Terms) (budget : ℕ) (x : Overflow) → AreInVariables n fs → AreBinomials fs →
    IsSaturateRefusal n fs budget (basis_errors.Overflow x) → ⊥
saturation_narrow n fs budget x v two (IsSaturateRefusal.at_step k hs l w r) =
    run_narrow (step_order n) (n + 1) (step_list n k hs) budget x (step_inside n k hs l (way_on n fs k hs (omega arith) v two w)).binomials r.0
saturation_narrow n fs budget x v two (IsSaturateRefusal.at_end hs w r) =
    run_narrow MonomialOrder.deglex n hs budget x (way_on n fs n hs (omega arith) v two w).binomials r.0
saturation_narrow n fs budget x v two (IsSaturateRefusal.no_memory m) = cc

-- ---- initial ideals at the faces of a cone

module _ (n : ℕ) (bs : List MarkedPolynomial) (two : AreMarkedBinomials (Contains bs))
    (inside : (b : MarkedPolynomial) → Contains bs b → IsInVariables n b.poly) where
  pub cone_narrow : (rows : List (List ℤ)) (c : Rows) (pairs : ℕ) (x : Overflow) →
      IsConeRefusal n bs rows c pairs (initial.Saturation (basis_errors.Overflow x)) → ⊥
  cone_narrow rows c pairs x (IsConeRefusal.at_rays s h q) = absurd (cc)
  cone_narrow rows c pairs x (IsConeRefusal.at_faces cut faces i f (IsFaceRefusal.at_face g r h)) =
      saturation_narrow cut.ambient h.0 pairs x
      (forms_at_variables _ bs h.0 h.1.forms (λ b k. binomial-marked b (two b k)) cut.ambient there)
      (forms_at_binomials _ bs h.0 h.1.forms (λ b k. binomial-marked b (two b k))) h.2
    where
      there : (b : MarkedPolynomial) → Contains bs b → IsInVariables cut.ambient b.poly
      there = subst (λ (m : ℕ). (b : MarkedPolynomial) → Contains bs b → IsInVariables m b.poly) (sym i.ambient) inside
  cone_narrow rows c pairs x (IsConeRefusal.at_faces cut faces i f (IsFaceRefusal.no_memory q)) = absurd (cc)
  cone_narrow rows c pairs x (IsConeRefusal.no_memory q) = absurd (cc)
