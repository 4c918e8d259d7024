use Rattle.std.proofs.Common.{refl}
use Rattle.std.proofs.lemmas.Result.{err_from_is_err_and}
use Rattle.gf_frame.specs.Commands.{IsRefusedOn}
use Rattle.gfan_common.proofs.RefusedLaws.{of_source, named_text}
use Rattle.gfan_fans.proofs.GroebnerConeLaws.{cone_told, cone_refused, named_cone}
use Rattle.gfan_fans.proofs.groebner_cone.of_basis.Goals as goal

pub returns-in_err-ring-clause-err : goal.returns-in_err-ring-clause-err
returns-in_err-ring-clause-err c =
    let p = err_from_is_err_and c.from_residual.result c.from_residual.ensures.1 in
    rw (p.1, p.2) (IsRefusedOn.in_text c.in_err-ring.field-0.0 c.in_err-ring.ensures.err refl)

pub returns-in_err-ring-clause-told : goal.returns-in_err-ring-clause-told
returns-in_err-ring-clause-told c =
    let p = err_from_is_err_and c.from_residual.result c.from_residual.ensures.1 in
    rw (p.1, p.2) (of_source _ _ (named_text c.in_err-ring.field-0.0))

pub returns-in-Ok-clause-ok : goal.returns-in-Ok-clause-ok
returns-in-Ok-clause-ok c =
    let r = c.in_ok-ring.field-0 in
    cone_told c.args.options c.args.source.now r.ring r.set c.in_ok-ring.ensures.ok c.in-Ok.text.items c.in-Ok.ensures.ok

pub returns-in-Err-clause-err : goal.returns-in-Err-clause-err
returns-in-Err-clause-err c =
    let r = c.in_ok-ring.field-0 in
    cone_refused c.args.options c.args.source.now r.ring r.set c.in_ok-ring.ensures.ok c.in-Err.refusal c.in-Err.ensures.err

pub returns-in-Err-clause-told : goal.returns-in-Err-clause-told
returns-in-Err-clause-told c =
    let r = c.in_ok-ring.field-0 in
    record {
      named = named_cone c.args.options c.args.source.now r.ring r.set c.in_ok-ring.ensures.ok c.in-Err.refusal c.in-Err.ensures.err;
      ring = (c.in_ok-ring.ensures.ok.read.behind, c.in_ok-ring.ensures.ok.read.one);
    }
