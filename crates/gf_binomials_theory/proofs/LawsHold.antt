-- The theorems of specs/Laws.antt.
use Rattle.std.specs.Prelude.{Contains}
use Rattle.gf_exponents_theory.specs.SixOrders.{below_of}
use Rattle.gf_binomials_theory.specs.Laws.{BinomialsStayBinomials, OperationsOnBinomialsFit, PrincipalRunsAreShort, PrincipalBasesAreForms}
use Rattle.gf_binomials_theory.proofs.BinomialLaws.{binomial-reached, binomial-s_polynomial, binomial-monic, reduction_fits, s_polynomial_fits, monic_fits}
use Rattle.gf_binomials_theory.proofs.RunLaws.{list_binomials, tail-binomial, tail_fits, run_fits}
use Rattle.gf_binomials_theory.proofs.PrincipalRuns.{work_forms, run_short}
use Rattle.gf_binomials_theory.proofs.PrincipalBases.{basis_forms, basis_short}

pub binomials_stay_binomials : BinomialsStayBinomials
binomials_stay_binomials = record {
  reduction = λ bs. binomial-reached (Contains bs);
  s_polynomial = binomial-s_polynomial;
  monic_form = binomial-monic;
  list = λ fs o. list_binomials fs (below_of o);
  tail = tail-binomial;
}

pub operations_on_binomials_fit : OperationsOnBinomialsFit
operations_on_binomials_fit = record {
  reduction = λ bs. reduction_fits (Contains bs);
  s_polynomial = s_polynomial_fits;
  monic_form = monic_fits;
  tail = tail_fits;
  run = λ fs o. run_fits fs (below_of o);
}

pub principal_runs_are_short : PrincipalRunsAreShort
principal_runs_are_short = record { exponents = run_short; members = λ order f bs a w. (work_forms order f bs a w).1 }

pub principal_bases_are_forms : PrincipalBasesAreForms
principal_bases_are_forms = record { forms = basis_forms; members = basis_short }
