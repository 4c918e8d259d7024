use Rattle.std.proofs.lemmas.Result.{err_from_is_err_and}
use Rattle.std.proofs.Common.{sym}
use Rattle.gf_text.proofs.RingTextLaws.{ring_reads, ring_read}
use Rattle.gf_text.proofs.RingKindsLaws.{ring_refused}
use Rattle.gf_text.proofs.ring_reader.ring_from.Goals as goal

pub returns-in_err-names-clause-err : goal.returns-in_err-names-clause-err
returns-in_err-names-clause-err c =
    let p = err_from_is_err_and c.from_residual.result c.from_residual.ensures.1 in
    rw (p.1, p.2) (ring_refused c.args.source.now c.args.from c.in_err-names.field-0.0 c.in_err-names.ensures.ring)

pub returns-then-count-gt-MOST_VARIABLES-clause-err : goal.returns-then-count-gt-MOST_VARIABLES-clause-err
returns-then-count-gt-MOST_VARIABLES-clause-err c = record {
  names = c.in_ok-names.names;
  place = c.in_ok-names.end;
  text = ring_reads c.args.source.now c.args.from c.in_ok-names.names c.in_ok-names.end c.in_ok-names.ensures.ring;
  number = sym c.len-count.ensures;
  many = c.if-count-gt-MOST_VARIABLES.true;
}

pub of-requires : goal.of-requires
of-requires c =
    let few = rw (c.len-count.ensures) at c.if-count-gt-MOST_VARIABLES.false in
    rw c.in_ok-copied.ensures (ring_read c.args.source.now c.args.from c.in_ok-names.names c.in_ok-names.end c.in_ok-names.ensures.ring few).ring

pub returns-clause-ok : goal.returns-clause-ok
returns-clause-ok c =
    let few = rw (c.len-count.ensures) at c.if-count-gt-MOST_VARIABLES.false in
    rw (c.of.ensures, c.in_ok-copied.ensures) (ring_read c.args.source.now c.args.from c.in_ok-names.names c.in_ok-names.end c.in_ok-names.ensures.ring few)
