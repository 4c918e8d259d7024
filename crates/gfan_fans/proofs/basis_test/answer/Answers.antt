use Rattle.std.proofs.Common.{None, length, refl}
use Rattle.std.proofs.lemmas.Result.{err_from_is_err_and}
use Rattle.gf_frame.specs.Commands.{IsRefusedOn}
use Rattle.gfan_common.specs.Forms.{generators_of}
use Rattle.gfan_fans.proofs.BasisTestLaws.{named_unanswered, of_test_ring}
use Rattle.gfan_common.proofs.WrittenSetLaws.{in_ring}
use Rattle.gfan_common.proofs.PerformedLaws.{without_vector}
use Rattle.gfan_common.proofs.RefusedLaws.{of_source, named_text}
use Rattle.gfan_fans.proofs.basis_test.answer.Goals as goal

pub returns-in_err-ring-clause-err : goal.returns-in_err-ring-clause-err
returns-in_err-ring-clause-err g c =
    let p = err_from_is_err_and c.from_residual.result c.from_residual.ensures.1 in
    rw (p.1, p.2) (IsRefusedOn.in_text c.in_err-ring.field-0.0 c.in_err-ring.ensures.err refl)

pub returns-in_err-ring-clause-told : goal.returns-in_err-ring-clause-told
returns-in_err-ring-clause-told g c =
    let p = err_from_is_err_and c.from_residual.result c.from_residual.ensures.1 in
    rw (p.1, p.2) (of_source _ _ (named_text c.in_err-ring.field-0.0))

pub returns-in-Ok-clause-ok : goal.returns-in-Ok-clause-ok
returns-in-Ok-clause-ok g c =
    let r = c.in_ok-ring.field-0 in record {
      value = (r.ring, (r.set.items, None));
      read = without_vector c.args.source.now r.ring r.set.items r.vector c.in_ok-ring.ensures.ok;
      answer = c.in-Ok.ensures.ok;
    }

pub returns-in-Err-clause-err : goal.returns-in-Err-clause-err
returns-in-Err-clause-err g c =
    let r = c.in_ok-ring.field-0 in
    IsRefusedOn.behind_text (r.ring, (r.set.items, None)) (without_vector c.args.source.now r.ring r.set.items r.vector c.in_ok-ring.ensures.ok)
    c.in-Err.ensures.err

pub returns-in-Err-clause-told : goal.returns-in-Err-clause-told
returns-in-Err-clause-told g c =
    let r = c.in_ok-ring.field-0 in
    of_test_ring c.args.source.now r.ring r.set.items None (without_vector c.args.source.now r.ring r.set.items r.vector c.in_ok-ring.ensures.ok)
    c.in-Err.refusal
    (named_unanswered r.ring r.set.items c.in-Err.refusal (in_ring (length r.ring) r.set.items (generators_of r.set.items) c.in_ok-ring.ensures.variables refl)
    c.in-Err.ensures.err)
