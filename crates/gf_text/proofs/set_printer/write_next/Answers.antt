use Rattle.std.proofs.Common.{refl}
use Rattle.std.proofs.lemmas.Result.{err_from_is_err_and}
use Rattle.gf_text.specs.PrintedSets.{marked_text}
use Rattle.gf_text.proofs.ToldLaws.{told_then, told_failed}
use Rattle.gf_text.proofs.set_printer.write_next.Goals as goal

pub returns-in_err-write_text : goal.returns-in_err-write_text
returns-in_err-write_text g c =
    let p = err_from_is_err_and c.from_residual.result c.from_residual.ensures.1 in
    told_failed c.from_residual.result p.0 _ _ _ _ _ (marked_text c.args.ring.now c.args.marked.now) _ p.1 refl c.in_err-write_text.ensures

pub returns : goal.returns
returns g c = told_then c.write_marked.result _ _ _ _ _ _ _ _ _ refl c.in_ok-write_text.ensures c.write_marked.ensures
