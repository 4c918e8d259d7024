use Rattle.std.proofs.lemmas.Result.{err_from_is_err_and}
use Rattle.gf_text.specs.Machine.{texts}
use Rattle.gf_text.proofs.VectorTextLaws.{vector_read, vector_within, within_in_range}
use Rattle.gf_text.proofs.VectorKindsLaws.{vector_refused}
use Rattle.gf_text.proofs.vector_reader.vector_from.Goals as goal

pub returns-in_err-entries-clause-err : goal.returns-in_err-entries-clause-err
returns-in_err-entries-clause-err c =
    let p = err_from_is_err_and c.from_residual.result c.from_residual.ensures.1 in
    rw (p.1, p.2) (vector_refused c.args.source.now c.args.from c.in_err-entries.field-0.0 c.in_err-entries.ensures.vector)

pub from_vec-requires : goal.from_vec-requires
from_vec-requires c =
    let r = vector_read c.args.source.now c.args.from c.in_ok-entries.entries.items c.in_ok-entries.end c.in_ok-entries.ensures.vector in
    within_in_range c.in_ok-entries.entries.items (vector_within (texts r.front) c.in_ok-entries.entries.items r.text)

pub returns-clause-ok : goal.returns-clause-ok
returns-clause-ok c =
    rw (c.from_vec.ensures) (vector_read c.args.source.now c.args.from c.in_ok-entries.entries.items c.in_ok-entries.end c.in_ok-entries.ensures.vector)

pub returns-clause-entries : goal.returns-clause-entries
returns-clause-entries c =
    let r = vector_read c.args.source.now c.args.from c.in_ok-entries.entries.items c.in_ok-entries.end c.in_ok-entries.ensures.vector in
    rw (c.from_vec.ensures) (vector_within (texts r.front) c.in_ok-entries.entries.items r.text)

pub returns-in_err-entries-clause-vector : goal.returns-in_err-entries-clause-vector
returns-in_err-entries-clause-vector c =
    let p = err_from_is_err_and c.from_residual.result c.from_residual.ensures.1 in
    rw (p.1, p.2) (c.in_err-entries.ensures.vector)

pub returns-clause-vector : goal.returns-clause-vector
returns-clause-vector c = rw (c.from_vec.ensures) (c.in_ok-entries.ensures.vector)
