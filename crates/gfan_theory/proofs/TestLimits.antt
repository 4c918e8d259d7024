-- What `_ismarkedgroebnerbasis` and `_doesidealcontain` may do with marked sets of variables and differences of variables stays within its limits.
-- To cite: linear_tests. The rest are steps.
use Rattle.std.proofs.Common.{List, [], ◌∷◌, map, Contains, Err, refl, subst}
use Rattle.std.proofs.lemmas.List.Sorted.{Contains-permutation, IsPermutation-sym}
use Rattle.gf_int_theory.proofs.ListLaws.{Contains-here}
use Rattle.gf_poly.specs.declared.error.PolyError.TheVariants as errors
use Rattle.gf_poly.specs.Polynomial.{Terms}
use Rattle.gf_poly.specs.Marking.{MarkedPolynomial, MarkedPolynomials, IsArranged}
use Rattle.gf_ideal_theory.proofs.SmallBases.{only}
use Rattle.gf_binomials_theory.specs.Binomials.{IsBinomial, AreBinomials, AreMarkedBinomials}
use Rattle.gf_binomial_calls_theory.proofs.CheckLaws.{forms_binomial}
use Rattle.gf_reduced.specs.Forms.{monic_of, monic_set}
use Rattle.gf_reduced.specs.Refusals.{IsReductionWithinLimits}
use Rattle.gf_reduced.proofs.RefusalLaws.{test_only_memory}
use Rattle.gfan_theory.specs.Linear.{IsLinear, IsLinearSet}
use Rattle.gfan_theory.specs.Tested.{LinearTestsStayWithinLimits}
use Rattle.gfan_theory.proofs.LinearRuns.{AreLinearMarked}
use Rattle.gfan_theory.proofs.LinearChecks.{forms_marked, linear_checks}
use Rattle.gfan_theory.proofs.ContinuedLaws.{reduced_memory}

module _ (s : MarkedPolynomials) (l : IsLinearSet s) (t : MarkedPolynomials) (a : IsArranged (monic_set s) t) where
  from_form : (b : MarkedPolynomial) → Contains t.items b → Contains (map monic_of s.items) b
  from_form b c = Contains-permutation t.items (map monic_of s.items) b (IsPermutation-sym (map monic_of s.items) t.items a.members) c

  arranged_marked : AreLinearMarked t.items
  arranged_marked = record {
    heads = λ b c. (forms_marked s l).heads b (from_form b c);
    within = λ b c. (forms_marked s l).within b (from_form b c);
  }

  arranged_binomials : AreMarkedBinomials (Contains t.items)
  arranged_binomials b c = forms_binomial s l.binomials b (from_form b c)

  one_binomial : (f : Terms) → IsBinomial f → AreBinomials (f ∷ [])
  one_binomial f b g c = subst IsBinomial (only f g c) b

  one_linear : (f : Terms) → IsLinear f → (g : Terms) → Contains (f ∷ []) g → IsLinear g
  one_linear f m g c = subst IsLinear (only f g c) m

  reduction_memory : (f : Terms) → IsBinomial f → IsLinear f → IsReductionWithinLimits t.items f
  reduction_memory f b m (errors.Overflow o) h =
      reduced_memory t.items (f ∷ []) (errors.Overflow o) arranged_marked arranged_binomials (one_binomial f b) (one_linear f m)
      (record { polynomial = f; contained = Contains-here f []; cause = h })
  reduction_memory f b m (errors.Exponent o) h =
      reduced_memory t.items (f ∷ []) (errors.Exponent o) arranged_marked arranged_binomials (one_binomial f b) (one_linear f m)
      (record { polynomial = f; contained = Contains-here f []; cause = h })
  reduction_memory f b m errors.Memory h = refl

pub linear_tests : LinearTestsStayWithinLimits
linear_tests = record {
  tests = λ ring s l small e h. test_only_memory {A = Unit {0}} s (Err e) h (linear_checks s l small);
  containments = λ s fs l small basis d. record {
    variables = l.binomials.variables;
    basis = basis;
    checks = linear_checks s l small;
    members = λ t f a c. reduction_memory s l t a f (d.binomials f c) (d.forms.linear f c);
  };
}
