use Rattle.std.proofs.Common.{ℕ, None, length, sym, subst, ◌∙◌}
use Rattle.gf_buchberger.specs.Tasks.{HaveRingVariables}
use Rattle.gf_frame.specs.Commands.{IsUnanswered}
use Rattle.gfan_common.specs.Refused.{IsNamedBy}
use Rattle.gfan_sets.specs.Saturation.{saturation_command}
use Rattle.gfan_common.proofs.WrittenSetLaws.{in_ring}
use Rattle.gfan_sets.proofs.SaturationLaws.{saturation_answered, saturation_unanswered, basis_named}
use Rattle.gfan_sets.proofs.saturation.text_of.Goals as goal

pub saturate-requires-clause-variables : goal.saturate-requires-clause-variables
saturate-requires-clause-variables c =
    subst (λ (n : ℕ). HaveRingVariables n c.deref.result.now) (sym c.len.ensures.value)
    (in_ring (length c.args.ring.now) c.args.set.now c.deref.result.now c.requires (c.deref.ensures.value ∙ c.in_ok-generators.ensures))

pub returns-in-Err-clause-err : goal.returns-in-Err-clause-err
returns-in-Err-clause-err c =
    subst (IsUnanswered (saturation_command c.args.options) (c.args.ring.now, (c.args.set.now, None))) (sym c.of_basis.ensures)
    (saturation_unanswered c.args.options c.len.result c.args.ring.now c.args.set.now c.deref.result.now c.in-Err.error c.len.ensures.value
    (c.deref.ensures.value ∙ c.in_ok-generators.ensures) c.in-Err.ensures.err)

pub returns-in-Err-clause-told : goal.returns-in-Err-clause-told
returns-in-Err-clause-told c = subst (IsNamedBy None) (sym c.of_basis.ensures) (basis_named c.in-Err.error)

pub printed-requires : goal.printed-requires
printed-requires c = c.in-Ok.ensures.ok.variables ∙ c.len.ensures.value

pub returns-clause-ok : goal.returns-clause-ok
returns-clause-ok c =
    saturation_answered c.args.options c.len.result c.args.ring.now c.args.set.now c.deref.result.now c.in-Ok.found c.in_ok-text.text.items c.len.ensures.value
    (c.deref.ensures.value ∙ c.in_ok-generators.ensures) c.in-Ok.ensures.ok c.in_ok-text.ensures
