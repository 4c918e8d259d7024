use Rattle.std.proofs.Common.{ap, ◌∙◌, length, refl}
use Rattle.gf_division.proofs.StepLaws.{head_length}
use Rattle.gf_strands.proofs.SplitLaws.{mark_added, part_added}
use Rattle.gf_strands.proofs.along.add.Goals as goal

pub returns-then-is_alone : goal.returns-then-is_alone
returns-then-is_alone c = mark_added c.args.normal.now c.args.index c.args.member.now c.args.all.now c.add_mark.new.all c.head.result.now c.add_mark.result
    (c.if-is_alone.ensures refl) c.head.ensures.value c.add_mark.ensures.indices c.add_mark.ensures.marks c.add_mark.ensures.list

pub returns : goal.returns
returns c = part_added c.args.normal.now c.args.index c.args.member.now c.args.all.now c.add_part.new.all _ c.add_part.result refl
    (c.copy-base.ensures ∙ c.head-2.ensures.value)
    (ap length (c.copy-base.ensures ∙ c.head-2.ensures.value) ∙ head_length (length c.args.normal.now) c.args.member.now c.requires.variables
    c.head-2.ensures.marked)
    c.in_ok-points.ensures.part c.in_ok-points.ensures.on c.in_ok-points.ensures.falling c.add_part.ensures.indices c.add_part.ensures.marks
    c.add_part.ensures.list
