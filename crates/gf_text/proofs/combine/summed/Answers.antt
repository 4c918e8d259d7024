use Rattle.std.proofs.Common.{subst}
use Rattle.gf_poly.specs.Polynomial.{SamePolynomial}
use Rattle.gf_text.proofs.CombiningLaws.{within_by, terms_variables}
use Rattle.gf_text.proofs.SetsLaws.{marked_sum, one_sum, summing_cause}
use Rattle.gf_text.proofs.combine.summed.Goals as goal

pub returns-in-Err-clause-err : goal.returns-in-Err-clause-err
returns-in-Err-clause-err c =
    rw c.sum_error.ensures (summing_cause c.args.n c.args.terms.now c.in_ok-made.made.items c.in-Err.error c.in_ok-made.ensures.ok c.in-Err.ensures.cause)

pub first_remaining-requires-clause-sum : goal.first_remaining-requires-clause-sum
first_remaining-requires-clause-sum c = λ f all. subst (SamePolynomial c.in-Ok.sum)
    (one_sum c.args.n c.args.terms.now c.in_ok-made.made.items f c.in_ok-made.ensures.ok all) c.in-Ok.ensures.value

pub first_remaining-requires-clause-variables : goal.first_remaining-requires-clause-variables
first_remaining-requires-clause-variables c =
    c.in-Ok.ensures.variables.at c.args.n (terms_variables c.args.n c.args.terms.now c.in_ok-made.made.items c.in_ok-made.ensures.ok)

pub mark-requires : goal.mark-requires
mark-requires c =
    let found = rw c.in-Some.is at (c.in_ok-place.ensures.ok c.in_ok-made.made.items c.in_ok-made.ensures.ok) in
    within_by c.in-Ok.sum c.in-Some.place found.term found.stands

pub returns-in-Some-clause-ok : goal.returns-in-Some-clause-ok
returns-in-Some-clause-ok c =
    let f = c.in_ok-made.made.items in
    let w = c.in-Ok.ensures in
    let found = rw c.in-Some.is at (c.in_ok-place.ensures.ok f c.in_ok-made.ensures.ok) in
    let marked = marked_sum f c.in-Ok.sum c.in-Some.place w.value w.descending w.variables found in
    record {
      terms = f;
      exponents = c.in_ok-made.ensures.ok;
      fits = w.fits;
      written = rw c.mark.ensures marked;
    }

pub returns-in-None-clause-ok : goal.returns-in-None-clause-ok
returns-in-None-clause-ok c =
    let f = c.in_ok-made.made.items in
    record {
      terms = f;
      exponents = c.in_ok-made.ensures.ok;
      fits = c.in-Ok.ensures.fits;
      written = rw c.in-None.is at (c.in_ok-place.ensures.ok f c.in_ok-made.ensures.ok);
    }
