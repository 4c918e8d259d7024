-- The test of one monomial stays within its limits. To cite: tests_of_monomials_stay_within_limits.
use Rattle.std.proofs.Common.{◌≡◌, ◌≢◌, ℕ, List, [], ◌∷◌, ℤ, pos, map, true, Contains, arith, sym, ◌∙◌, subst, inl, inr}
use Rattle.gf_frac.specs.Fraction.{one_ℚ}
use Rattle.gf_exponents_theory.specs.Exponents.{Exponents, same}
use Rattle.gf_exponents_theory.specs.SixOrders.{MonomialOrder}
use Rattle.gf_exponents_theory.proofs.ExponentsLaws.{same_flip, same_trans}
use Rattle.gf_int_theory.proofs.ListLaws.{Contains-here, all_by}
use Rattle.gf_poly.specs.declared.Term.{Term}
use Rattle.gf_poly.specs.Polynomial.{Terms, HasVariables}
use Rattle.gf_ideal_theory.specs.Membership.{HasMonomial}
use Rattle.gf_duality_theory.proofs.ListLaws.{in_cons, none_in}
use Rattle.gf_buchberger.specs.Bases.{unit_monomial}
use Rattle.gf_buchberger.specs.declared.queue.Strategy.TheVariants.{Degree}
use Rattle.gf_buchberger.proofs.MonomialRuns.{monomials_stay_within_limits}
use Rattle.gf_buchberger.proofs.RuledLaws.{ruled_within_limits}
use Rattle.gf_facets_theory.proofs.RowLaws.{term_of}
use Rattle.gf_duality_theory.specs.Faces.{Rows}
use Rattle.gf_rays.specs.Cones.{rows_of}
use Rattle.gf_rays.specs.Limits.{has_room}
use Rattle.gf_fans_theory.proofs.PartNumbers.{of_map}
use Rattle.gf_fan.specs.declared.cones.FanCone.{FanCone}
use Rattle.gf_fan.specs.FanLists.{FanLists}
use Rattle.gf_fan.specs.MaximalCones.{maximal_of}
use Rattle.gf_fan.proofs.UnderMaximal.{maximal_some}
use Rattle.gf_patterns_theory.specs.Patterns.{points, IsOnPrevariety, IsOnHypersurface}
use Rattle.gf_tropical.specs.Limits.{PolynomialsWithRoomStayWithinLimits}
use Rattle.gf_tropical.specs.TropicalFans.{IsPrevarietyFan}
use Rattle.gf_binomial_bases_theory.specs.Laws.{HaveOneMonomial}
use Rattle.gf_binomial_calls_theory.specs.Limits.{LimitsAreMet}
use Rattle.gf_tree.specs.Ideals.{ideal_by}
use Rattle.gf_tropical_basis_test.specs.Verdicts.{maximal_rows}
use Rattle.gf_tropical_basis_test.specs.Laws.{TestsOfMonomialsStayWithinLimits}

only : {X : Type 0} (x y : X) → Contains (x ∷ []) y → y ≡ x
only {X} x y c = elim (in_cons x [] y c) [ inl e ↦ e | inr k ↦ absurd (none_in y k) ]

abbrev the_term : Exponents → Term
the_term e = record { coef = one_ℚ; mono = e }

-- ---- one monomial

same_as : (e x : Exponents) → HasMonomial (unit_monomial e) x → same x e ≡ true
same_as e x h =
    let t = term_of (unit_monomial e) x h in
    subst (λ (s : Term). same x s.mono ≡ true) (only (the_term e) t.0 t.1) t.2

one_monomial : (e : Exponents) → HaveOneMonomial (unit_monomial e ∷ [])
one_monomial e f c x y hx hy =
    let q = only (unit_monomial e) f c in
    let sx = same_as e x (subst (λ (g : Terms). HasMonomial g x) q hx) in
    let sy = same_as e y (subst (λ (g : Terms). HasMonomial g y) q hy) in
    same_trans x e y sx (same_flip y e sy)

-- ---- no vector is on its prevariety

no_vector : (e : Exponents) (w : List ℤ) → IsOnPrevariety (map points (unit_monomial e ∷ [])) w → ⊥
no_vector e w h =
    let o : IsOnHypersurface (points (unit_monomial e)) w = h (points (unit_monomial e)) (Contains-here (points (unit_monomial e)) []) in
    o.other (only (map pos e) o.one o.first.listed ∙ sym (only (map pos e) o.two o.second.listed))

no_cone_of : (n : ℕ) (e : Exponents) (h : FanLists) (c : Rows) → IsPrevarietyFan n (map points (unit_monomial e ∷ [])) h → Contains (maximal_rows h) c → ⊥
no_cone_of n e h c p m =
    let x = of_map (λ (k : FanCone). rows_of k.cone) (maximal_of h) c m in
    let k = p.each x.0 (maximal_some h.ambient p.fan.0 h p.fan.1 x.0 x.1.0) in
    no_vector e k.vector k.admitted

-- ---- the law

not_empty : (e : Exponents) → unit_monomial e ≡ [] → ⊥
not_empty e q = cc

pub tests_of_monomials_stay_within_limits : PolynomialsWithRoomStayWithinLimits → LimitsAreMet → TestsOfMonomialsStayWithinLimits
tests_of_monomials_stay_within_limits fans searches n b budget e hn hb v up short room = record {
  prevariety = fans.prevarieties n b (unit_monomial e ∷ []) hn hb
      (all_by (λ (f : Terms). f ≢ []) (unit_monomial e ∷ []) (λ f c q. not_empty e (sym (only (unit_monomial e) f c) ∙ q)))
      (all_by (HasVariables n) (unit_monomial e ∷ []) (λ f c. subst (HasVariables n) (sym (only (unit_monomial e) f c)) v)) up
      (λ k l. let z : k ≡ 0 = omega (arith, l) in subst (λ j. has_room n b j ≡ true) (sym z) room);
  root = ruled_within_limits Degree MonomialOrder.deglex n (unit_monomial e ∷ []) budget
      (record { each = λ f c. subst (HasVariables n) (sym (only (unit_monomial e) f c)) v }) (monomials_stay_within_limits MonomialOrder.deglex e budget short);
  search = searches.monomials (ideal_by n (unit_monomial e ∷ [])) budget (one_monomial e);
  faces = λ h d normals c p node a m. absurd (no_cone_of n e h c p.prevariety m);
}
