use Rattle.std.proofs.lemmas.Result.{err_from_is_err_and}
use Rattle.gf_items.specs.Sources.{vectors_alone}
use Rattle.gf_items.proofs.ReadingLaws.{items_refused, end_refused}
use Rattle.gf_items.proofs.sources.vectors.Goals as goal

pub returns-in_err-list-clause-err : goal.returns-in_err-list-clause-err
returns-in_err-list-clause-err c =
    let p = err_from_is_err_and c.from_residual.result c.from_residual.ensures.1 in
    rw (p.1, p.2) (items_refused vectors_alone c.args.source.now c.new-reader.result c.new-reader.ensures c.in_err-list.field-0.0 c.in_err-list.ensures.err)

pub returns-in-Err-clause-err : goal.returns-in-Err-clause-err
returns-in-Err-clause-err c =
    end_refused vectors_alone c.args.source.now c.new-reader.result c.new-reader.ensures c.read_vectors.new.self c.in_ok-list.ensures.source
    c.in_ok-list.list.items c.in_ok-list.ensures.ok c.in-Err.more c.in-Err.ensures.more
