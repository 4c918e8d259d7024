use Rattle.std.proofs.Common.{inr, refl, subst, List, Contains}
use Rattle.gf_poly.specs.Marking.{MarkedPolynomial}
use Rattle.gf_saturate.specs.Marks.{CoverHeads}
use Rattle.gf_saturate.proofs.StageLaws.{reduced_stage}
use Rattle.gf_saturate.proofs.stages.reduced.Goals as goal

pub marks_of-marks-requires-clause-heads : goal.marks_of-marks-requires-clause-heads
marks_of-marks-requires-clause-heads c =
    λ b m. (c.requires.basis.arranged.canonical b (subst (λ (bs : List MarkedPolynomial). Contains bs b) c.items.ensures.value m)).head

pub returns-clause-way : goal.returns-clause-way
returns-clause-way c = inr (c.args.first, c.requires.basis, c.in_ok-polys.ensures)

pub returns-clause-stage : goal.returns-clause-stage
returns-clause-stage c = reduced_stage c.args.n c.args.set.now c.args.first _ c.requires.variables c.requires.basis c.in_ok-polys.ensures
    c.marks_of-marks.ensures.long (subst (λ (bs : List MarkedPolynomial). CoverHeads bs c.marks_of-marks.result)
    c.items.ensures.value c.marks_of-marks.ensures.covers) refl
