use Rattle.std.proofs.Common.{refl}
use Rattle.std.proofs.lemmas.Result.{err_from_is_err_and}
use Rattle.gf_frame.specs.Commands.{IsRefusedOn}
use Rattle.gfan_common.proofs.RefusedLaws.{of_source, named_text}
use Rattle.gfan_fans.proofs.GroebnerConeLaws.{vectors_refused, vectors_told}
use Rattle.gfan_fans.proofs.groebner_cone.of_vectors.Goals as goal

pub returns-in_err-read-clause-err : goal.returns-in_err-read-clause-err
returns-in_err-read-clause-err c =
    let p = err_from_is_err_and c.from_residual.result c.from_residual.ensures.1 in
    rw (p.1, p.2) (IsRefusedOn.in_text c.in_err-read.field-0.0 c.in_err-read.ensures.err refl)

pub returns-in_err-read-clause-told : goal.returns-in_err-read-clause-told
returns-in_err-read-clause-told c =
    let p = err_from_is_err_and c.from_residual.result c.from_residual.ensures.1 in
    rw (p.1, p.2) (of_source _ _ (named_text c.in_err-read.field-0.0))

pub returns-in_err-text-clause-err : goal.returns-in_err-text-clause-err
returns-in_err-text-clause-err c =
    let r = c.in_ok-read.read in
    let p = err_from_is_err_and c.from_residual-in_err-text.result c.from_residual-in_err-text.ensures.1 in
    rw (p.1, p.2) (vectors_refused c.args.options c.args.source.now r.dimension r.inequalities.items r.equations.items r.inequalities.items c.deref.result.now
    c.in_err-text.field-0.0 c.in_ok-read.ensures.ok refl c.deref.ensures.value c.in_err-text.ensures.err)

pub returns-in_err-text-clause-told : goal.returns-in_err-text-clause-told
returns-in_err-text-clause-told c =
    let p = err_from_is_err_and c.from_residual-in_err-text.result c.from_residual-in_err-text.ensures.1 in
    rw (p.1, p.2) (of_source _ _ c.in_err-text.ensures.told)

pub returns-clause-ok : goal.returns-clause-ok
returns-clause-ok c =
    let r = c.in_ok-read.read in
    vectors_told c.args.options c.args.source.now r.dimension r.inequalities.items r.equations.items r.inequalities.items c.deref.result.now
    c.in_ok-text.text.items c.in_ok-read.ensures.ok refl c.deref.ensures.value c.in_ok-text.ensures.ok
