use Rattle.std.proofs.lemmas.Result.{err_from_is_err_and}
use Rattle.std.proofs.Common.{length, subst}
use Rattle.gf_text.specs.Sets.{HasSums}
use Rattle.gf_text.proofs.CombiningLaws.{sums_variables}
use Rattle.gf_text.proofs.SetKindsLaws.{set_cause}
use Rattle.gf_text.proofs.SetMachineLaws.{set_reads}
use Rattle.gf_text.proofs.SetsLaws.{written_variables}
use Rattle.gf_text.proofs.set_reader.written_at.Goals as goal

pub returns-in_err-sums-clause-err : goal.returns-in_err-sums-clause-err
returns-in_err-sums-clause-err c =
    let p = err_from_is_err_and c.from_residual.result c.from_residual.ensures.1 in
    rw (p.1, p.2) (set_cause c.args.ring.now c.names-names.ensures.ring c.args.source.now c.args.from c.in_err-sums.field-0.0 c.in_err-sums.ensures.err)

pub returns-in-Fit-clause-ok : goal.returns-in-Fit-clause-ok
returns-in-Fit-clause-ok c =
    let r = c.in_ok-sums.ensures.ok in
    let come = subst (HasSums (length c.args.ring.now) r.said) c.in-Fit.is r.come in
    record {
      names = c.names-names.ensures.ring;
      said = r.said;
      text = set_reads c.args.ring.now c.args.source.now c.args.from r.said c.in_ok-sums.end r.read;
      sums = come.sums;
      exponents = come.exponents;
      fits = come.fits;
      written = come.written;
    }

pub returns-in-Fit-clause-variables : goal.returns-in-Fit-clause-variables
returns-in-Fit-clause-variables c =
    let n = length c.args.ring.now in
    let r = c.in_ok-sums.ensures.ok in
    let come = subst (HasSums n r.said) c.in-Fit.is r.come in
    written_variables n come.sums c.in-Fit.written.items (sums_variables n r.said come.sums come.exponents) come.written

pub returns-in-Overflow-clause-err : goal.returns-in-Overflow-clause-err
returns-in-Overflow-clause-err c =
    let r = c.in_ok-sums.ensures.ok in
    let come = subst (HasSums (length c.args.ring.now) r.said) c.in-Overflow.is r.come in
    record {
      said = r.said;
      place = c.in_ok-sums.end;
      text = set_reads c.args.ring.now c.args.source.now c.args.from r.said c.in_ok-sums.end r.read;
      sums = come.0;
      exponents = come.1;
      overflow = come.2;
    }

pub returns-in-Exponent-clause-err : goal.returns-in-Exponent-clause-err
returns-in-Exponent-clause-err c =
    let r = c.in_ok-sums.ensures.ok in
    record {
      said = r.said;
      place = c.in_ok-sums.end;
      text = set_reads c.args.ring.now c.args.source.now c.args.from r.said c.in_ok-sums.end r.read;
      exponents = subst (HasSums (length c.args.ring.now) r.said) c.in-Exponent.is r.come;
    }
