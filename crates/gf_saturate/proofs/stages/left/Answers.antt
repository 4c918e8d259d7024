use Rattle.std.proofs.Common.{refl, subst, List, Contains}
use Rattle.gf_poly.specs.Marking.{MarkedPolynomial}
use Rattle.gf_saturate.specs.Marks.{CoverFreeHeads}
use Rattle.gf_saturate.specs.Saturating.{step_list}
use Rattle.gf_saturate.proofs.StepLaws.{to_eliminate}
use Rattle.gf_saturate.proofs.StageLaws.{left_stage}
use Rattle.gf_saturate.proofs.stages.left.Goals as goal

pub left_over_of-requires : goal.left_over_of-requires
left_over_of-requires c = to_eliminate c.args.n (step_list c.args.n c.args.k c.args.set.now) c.args.found.now c.requires.basis

pub marks_left_over-requires-clause-heads : goal.marks_left_over-requires-clause-heads
marks_left_over-requires-clause-heads c =
    λ b m. (c.requires.basis.arranged.canonical b (subst (λ (bs : List MarkedPolynomial). Contains bs b) c.items.ensures.value m)).head

pub returns-clause-step : goal.returns-clause-step
returns-clause-step c = record { basis = c.args.found.now; is_basis = c.requires.basis; is = c.in_ok-polys.ensures }

pub returns-clause-stage : goal.returns-clause-stage
returns-clause-stage c = left_stage c.args.n c.args.k c.args.set.now c.args.found.now _ c.requires.inside c.requires.variables c.requires.basis
    c.in_ok-polys.ensures c.marks_left_over.ensures.long (subst (λ (bs : List MarkedPolynomial). CoverFreeHeads c.args.n bs c.marks_left_over.result)
    c.items.ensures.value c.marks_left_over.ensures.covers) refl
