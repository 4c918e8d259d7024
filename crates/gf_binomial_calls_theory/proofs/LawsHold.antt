-- The theorems of specs/Laws.antt and specs/Limits.antt.
use Rattle.std.specs.Prelude.{ℕ, List, Contains}
use Rattle.gf_frac.specs.declared.refusal.Overflow.{Overflow}
use Rattle.gf_exponents_theory.specs.SixOrders.{MonomialOrder, below_of}
use Rattle.gf_poly.specs.declared.error.PolyError.TheVariants as errors
use Rattle.gf_poly.specs.Polynomial.{Terms}
use Rattle.gf_poly.specs.Marking.{MarkedPolynomial, polys}
use Rattle.gf_ideal_theory.proofs.ListLaws.{contained_each}
use Rattle.gf_division.specs.Steps.{IsReductionRefusal}
use Rattle.gf_buchberger.specs.declared.bases.BasisError.TheVariants as basis_errors
use Rattle.gf_buchberger.specs.Bases.{IsBasisRefusal}
use Rattle.gf_reduced.specs.Terms.{AreReduced}
use Rattle.gf_tree.specs.Ideals.{ideal_by}
use Rattle.gf_binomials_theory.specs.Binomials.{IsBinomial, AreBinomials, AreMarkedBinomials}
use Rattle.gf_binomials_theory.proofs.BinomialLaws.{reduction_fits}
use Rattle.gf_binomials_theory.proofs.RunLaws.{run_fits}
use Rattle.gf_binomial_calls_theory.specs.Written.{written_polynomials}
use Rattle.gf_binomial_calls_theory.specs.Laws.{FlipsOfBinomialsFit, RefusalsTellNoOverflow, PlainSetsAreBinomials}
use Rattle.gf_binomial_calls_theory.proofs.FlipLaws.{flip_fits}
use Rattle.gf_binomial_calls_theory.proofs.TreeLaws.{flip_narrow, tree_narrow}
use Rattle.gf_binomial_calls_theory.proofs.SaturationLaws.{saturation_narrow, cone_narrow}
use Rattle.gf_binomial_calls_theory.proofs.CheckLaws.{polys_binomial, autoreduction_fits, paired_fits, test_fits, monic_forms_fit}
use Rattle.gf_binomial_calls_theory.specs.Limits.{LimitsAreMet}
use Rattle.gf_binomial_calls_theory.proofs.LimitLaws.{plain_difference, runs_within, ruled_within, flip_within, search_within}
use Rattle.gf_binomial_calls_theory.proofs.SystemLimits.{small_search}
use Rattle.gf_binomial_calls_theory.proofs.CheckLimits.{checks_within, tails_within}
use Rattle.gf_binomial_calls_theory.proofs.TermLimits.{monomials_within}
use Rattle.gf_binomial_calls_theory.proofs.SetLaws.{set_binomials, set_sums}

pub flips_of_binomials_fit : FlipsOfBinomialsFit
flips_of_binomials_fit = flip_fits

reduction_narrow : (bs : List MarkedPolynomial) (f : Terms) (o : Overflow) → AreMarkedBinomials (Contains bs) → IsBinomial f →
    IsReductionRefusal bs f (errors.Overflow o) → ⊥
reduction_narrow bs f o m h r = r.1 (reduction_fits (Contains bs) f o.op o.left o.right m h r.0)

basis_narrow : (order : MonomialOrder) (n : ℕ) (fs : List Terms) (budget : ℕ) (o : Overflow) → AreBinomials fs →
    IsBasisRefusal order n fs budget (basis_errors.Overflow o) → ⊥
basis_narrow order n fs budget o h r = r.1 (run_fits fs (below_of order) o.op o.left o.right h r.0)

pub refusals_tell_no_overflow : RefusalsTellNoOverflow
refusals_tell_no_overflow = record {
  reduction = reduction_narrow;
  autoreduction = autoreduction_fits;
  basis = basis_narrow;
  flip = flip_narrow;
  search = tree_narrow;
  saturation = saturation_narrow;
  initial_ideals = λ n bs rows c pairs o two inside r. cone_narrow n bs two inside rows c pairs o r;
  marked_basis = paired_fits (Unit {0});
  reduced_basis = λ k s o p r. paired_fits (AreReduced s.items) k s o p r;
  test = test_fits;
  monic_forms = monic_forms_fit;
  given_search = λ n pairs s o p r. tree_narrow (ideal_by n (polys s.items)) pairs o (polys_binomial s p) r;
}

pub plain_sets_are_binomials : PlainSetsAreBinomials
plain_sets_are_binomials = record {
  meaning = λ n qs ws h r f c. contained_each IsBinomial (written_polynomials ws) (set_binomials n qs ws h r) f c;
  sums = set_sums;
}

pub limits_are_met : LimitsAreMet
limits_are_met = record {
  generators = plain_difference;
  runs = runs_within;
  ruled = ruled_within;
  flips = flip_within;
  search = search_within;
  small_search = small_search;
  checks = checks_within;
  tails = λ n b t e p g a r. tails_within n b p g t a e r;
  monomials = monomials_within;
}
