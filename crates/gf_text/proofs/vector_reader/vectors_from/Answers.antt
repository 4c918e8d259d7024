use Rattle.std.proofs.lemmas.Result.{err_from_is_err_and}
use Rattle.gf_text.specs.Machine.{texts}
use Rattle.gf_text.proofs.VectorListsLaws.{vectors_read, vectors_within, vectors_refused}
use Rattle.gf_text.proofs.vector_reader.vectors_from.Goals as goal

pub returns-in_err-vectors-clause-err : goal.returns-in_err-vectors-clause-err
returns-in_err-vectors-clause-err c =
    let p = err_from_is_err_and c.from_residual.result c.from_residual.ensures.1 in
    rw (p.1, p.2) (vectors_refused c.args.source.now c.args.from c.in_err-vectors.field-0.0 c.in_err-vectors.ensures.vectors)

pub returns-clause-ok : goal.returns-clause-ok
returns-clause-ok c = vectors_read c.args.source.now c.args.from c.in_ok-vectors.vectors.items c.in_ok-vectors.end c.in_ok-vectors.ensures.vectors

pub returns-clause-entries : goal.returns-clause-entries
returns-clause-entries c =
    let r = vectors_read c.args.source.now c.args.from c.in_ok-vectors.vectors.items c.in_ok-vectors.end c.in_ok-vectors.ensures.vectors in
    vectors_within (texts r.front) c.in_ok-vectors.vectors.items r.text
