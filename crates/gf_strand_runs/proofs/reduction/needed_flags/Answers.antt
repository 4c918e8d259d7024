use Rattle.std.proofs.Common.{arith, sym, ap}
use Rattle.gf_strands.specs.declared.strands.Strand.{Strand}
use Rattle.gf_strands.specs.Strands.{strand_members}
use Rattle.gf_strands.specs.Monomials.{with_monomials}
use Rattle.gf_strands.proofs.StrandMarks.{strand_width, mark_width}
use Rattle.gf_strand_runs.proofs.NeededStrands.{flags_none, flags_mark, flags_turn, flags_strand, flags_end}
use Rattle.gf_strand_runs.proofs.reduction.needed_flags.Goals as goal

pub marks-init : goal.marks-init
marks-init c = flags_none (with_monomials c.args.ground.now.marks.now (strand_members c.args.ground.now.normal.now c.args.strands.now))
    c.in_ok-flags.flags.items c.in_ok-flags.ensures

pub is_left-needed-requires : goal.is_left-needed-requires
is_left-needed-requires c = mark_width c.args.ground.now.normal.now c.args.ground.now.marks.now c.args.strands.now c.marks.i c.index-marks-i.result
    c.requires.ground c.requires.strands c.marks-test.true c.index-marks-i.is

pub marks-preserved : goal.marks-preserved
marks-preserved c = flags_mark c.args.ground.now.normal.now c.args.ground.now.marks.now c.args.strands.now c.marks.flags.items c.push.new.self.items c.marks.i
    c.index-marks-i.result c.is_left-needed.result
    c.requires.ground c.requires.strands c.requires.apart c.requires.later c.marks-test.true c.index-marks-i.is c.is_left-needed.ensures.left
    c.is_left-needed.ensures.divided c.in-Ok.ensures.items c.marks.invariant

pub strands-init : goal.strands-init
strands-init c = flags_turn c.args.ground.now.normal.now c.args.ground.now.marks.now c.args.strands.now c.marks.flags.items c.marks.i
    (omega (arith, c.marks-test.false, c.marks.auto.i-end)) c.marks.invariant

pub is_left-needed-requires-in-strands : goal.is_left-needed-requires-in-strands
is_left-needed-requires-in-strands c = strand_width c.args.ground.now.normal.now c.args.strands.now c.strands.j c.index-strands-j.result _ c.requires.strands
    c.strands-test.true c.index-strands-j.is (ap (λ (z : Strand). z.mark) (sym c.index-strands-j.is))

pub strands-preserved : goal.strands-preserved
strands-preserved c = flags_strand c.args.ground.now.normal.now c.args.ground.now.marks.now c.args.strands.now c.strands.flags.items
    c.push-in-strands.new.self.items
    c.strands.j c.index-strands-j.result _ c.is_left-needed-in-strands.result
    c.requires.ground c.requires.strands c.requires.later c.strands-test.true c.index-strands-j.is (ap (λ (z : Strand). z.mark) (sym c.index-strands-j.is))
    c.is_left-needed-in-strands.ensures.left c.is_left-needed-in-strands.ensures.divided c.in-Ok-push.ensures.items c.strands.invariant

pub returns : goal.returns
returns c = flags_end c.args.ground.now.normal.now c.args.ground.now.marks.now c.args.strands.now c.strands.flags.items c.strands.j
    (omega (arith, c.strands-test.false, c.strands.auto.j-end)) c.strands.invariant
