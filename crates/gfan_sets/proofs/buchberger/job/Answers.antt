use Rattle.std.proofs.Common.{ℕ, length, sym, subst, ◌∙◌}
use Rattle.gf_buchberger.specs.Tasks.{HaveRingVariables}
use Rattle.gf_front.specs.declared.refusal.Refusal.{Refusal}
use Rattle.gf_frame.specs.Commands.{IsUnanswered}
use Rattle.gfan_sets.specs.Buchberger.{buchberger_command}
use Rattle.gfan_common.proofs.WrittenSetLaws.{in_ring}
use Rattle.gfan_sets.proofs.BuchbergerLaws.{entries_by, suited_by, basis_refused}
use Rattle.gfan_sets.proofs.buchberger.job.Goals as goal

pub basis_by_several_ways-requires-clause-variables : goal.basis_by_several_ways-requires-clause-variables
basis_by_several_ways-requires-clause-variables c =
    subst (λ (n : ℕ). HaveRingVariables n c.deref.result.now) (sym c.len-2.ensures.value)
    (in_ring (length c.args.ring.now) c.args.set.now c.deref.result.now c.requires.variables (c.deref.ensures.value ∙ c.in-Ok.ensures.ok.generators))

pub basis_by_several_ways-requires-clause-entries : goal.basis_by_several_ways-requires-clause-entries
basis_by_several_ways-requires-clause-entries c =
    entries_by c.len.result c.len-2.result (length c.args.ring.now) c.args.options.revlex c.args.weight c.in-Ok.question.order c.len.ensures.value
    c.len-2.ensures.value c.in-Ok.ensures.ok.order c.in-Ok.ensures.ok.formed.0

pub basis_by_several_ways-requires-clause-suited : goal.basis_by_several_ways-requires-clause-suited
basis_by_several_ways-requires-clause-suited c =
    suited_by c.len.result c.len-2.result (length c.args.ring.now) c.args.options.revlex c.args.weight c.args.set.now c.deref.result.now c.in-Ok.question.order
    c.len.ensures.value c.len-2.ensures.value c.requires.variables (c.deref.ensures.value ∙ c.in-Ok.ensures.ok.generators) c.in-Ok.ensures.ok.order
    c.in-Ok.ensures.ok.formed

pub returns-in-Err-basis_by_several_ways-clause-err : goal.returns-in-Err-basis_by_several_ways-clause-err
returns-in-Err-basis_by_several_ways-clause-err c =
    subst (λ (z : Refusal). IsUnanswered (buchberger_command c.args.options) (c.args.ring.now, (c.args.set.now, c.args.weight)) z) (sym c.of_basis.ensures)
    (basis_refused c.args.options c.len.result c.len-2.result c.args.ring.now c.args.weight c.args.set.now c.deref.result.now c.in-Ok.question.order
    c.in-Err-basis_by_several_ways.error c.len.ensures.value c.len-2.ensures.value
    (c.deref.ensures.value ∙ c.in-Ok.ensures.ok.generators) c.in-Ok.ensures.ok.order c.in-Ok.ensures.ok.formed c.in-Err-basis_by_several_ways.ensures.err
    c.in-Err-basis_by_several_ways.ensures.complete_by_rule)
