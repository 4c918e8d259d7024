use Rattle.std.proofs.Common.{List, ℕ, length, refl, sym, subst}
use Rattle.std.proofs.lemmas.Result.{err_from_is_err_and}
use Rattle.gf_text.specs.declared.written.Written.{Written}
use Rattle.gf_text.specs.Sets.{AreIn}
use Rattle.gf_frame.specs.Commands.{IsRefusedOn}
use Rattle.gfan_fans.specs.HomogeneitySpace.{nonzero_of}
use Rattle.gfan_common.proofs.RefusedLaws.{of_source, named_text}
use Rattle.gfan_fans.proofs.HomogeneitySpaceLaws.{space_answered, space_unanswered, no_space_named}
use Rattle.gfan_fans.proofs.homogeneity_space.answer.Goals as goal

pub returns-in_err-read-clause-err : goal.returns-in_err-read-clause-err
returns-in_err-read-clause-err c =
    let p = err_from_is_err_and c.from_residual.result c.from_residual.ensures.1 in
    rw (p.1, p.2) (IsRefusedOn.in_text c.in_err-read.field-0.0 c.in_err-read.ensures.err refl)

pub returns-in_err-read-clause-told : goal.returns-in_err-read-clause-told
returns-in_err-read-clause-told c =
    let p = err_from_is_err_and c.from_residual.result c.from_residual.ensures.1 in
    rw (p.1, p.2) (of_source _ _ (named_text c.in_err-read.field-0.0))

pub space_text-requires-clause-variables : goal.space_text-requires-clause-variables
space_text-requires-clause-variables c =
    subst (λ (k : ℕ). AreIn k c.deref.result.now) (sym c.len.ensures.value) (subst (λ (ws : List Written). AreIn (length c.in_ok-read.read.ring) ws)
    (sym c.deref.ensures.value) c.in_ok-read.ensures.variables)

pub returns-in_err-text-clause-err : goal.returns-in_err-text-clause-err
returns-in_err-text-clause-err c =
    let p = err_from_is_err_and c.from_residual-in_err-text.result c.from_residual-in_err-text.ensures.1 in
    let read = c.in_ok-read.read in
    rw (p.1, p.2) (space_unanswered c.args.source.now c.in_err-text.field-0.0 read.ring read.set.items c.deref.result.now read.vector c.len.result
    c.in_ok-read.ensures.ok c.len.ensures.value c.deref.ensures.value c.in_err-text.ensures.err)

pub returns-in_err-text-clause-told : goal.returns-in_err-text-clause-told
returns-in_err-text-clause-told c =
    let p = err_from_is_err_and c.from_residual-in_err-text.result c.from_residual-in_err-text.ensures.1 in
    rw (p.1, p.2) (of_source _ _ (no_space_named c.len.result (nonzero_of c.deref.result.now) c.in_err-text.field-0.0 c.in_err-text.ensures.err))

pub returns-clause-ok : goal.returns-clause-ok
returns-clause-ok c =
    let read = c.in_ok-read.read in
    space_answered c.args.source.now c.in_ok-text.text.items read.ring read.set.items c.deref.result.now read.vector c.len.result c.in_ok-read.ensures.ok
    c.len.ensures.value c.deref.ensures.value c.in_ok-text.ensures.ok
