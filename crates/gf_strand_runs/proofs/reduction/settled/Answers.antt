use Rattle.std.proofs.Common.{◌+◌, ◌<◌, length, Vec, Global, arith, sym, subst}
use Rattle.gf_strands.specs.declared.strands.Strand.{Strand}
use Rattle.gf_strand_runs.proofs.SettlingLaws.{AreStrandsTo, strands-start, strands-left, strands-settled, strands-size, flags_read, settles_to}
use Rattle.gf_strand_runs.proofs.reduction.settled.Goals.{then-index+in_ok-settle_tail, else-index}
use Rattle.gf_strand_runs.proofs.reduction.settled.Goals as goal

pub strands-init : goal.strands-init
strands-init c = strands-start c.args.ground.now.normal.now c.args.ground.now.marks.now c.args.ground.now.by.now c.in_ok-flags.flags.items
    c.args.strands.now.items
    c.requires.strands

pub settle_tail-requires-clause-strands : goal.settle_tail-requires-clause-strands
settle_tail-requires-clause-strands c = c.strands.invariant.strands

pub settle_tail-requires-clause-within : goal.settle_tail-requires-clause-within
settle_tail-requires-clause-within c = omega (arith, c.strands-test.true, c.len-j-end.ensures, c.strands.invariant.size)

pub strands-preserved : goal.strands-preserved
strands-preserved c =
    let a = c.args.ground.now.normal.now in
    let xs = c.args.ground.now.marks.now in
    let by = c.args.ground.now.by.now in
    let old = c.args.strands.now.items in
    let within : c.strands.j < length old = omega (arith, c.strands-test.true, c.len-j-end.ensures) in
    elim c.if-index.branch [
      | then-index+in_ok-settle_tail w ↦
          subst (λ (v : Vec Strand Global). AreStrandsTo a xs by c.in_ok-flags.flags.items old (c.strands.j + 1) v.items) (sym w.strands-is)
          (strands-settled a xs by c.in_ok-flags.flags.items old c.strands.j c.strands.strands.items w.settle_tail.new.strands.items c.requires.later within
          w.in_ok-settle_tail.ensures.settled w.in_ok-settle_tail.ensures.strands c.strands.invariant)
      | else-index w ↦
          subst (λ (v : Vec Strand Global). AreStrandsTo a xs by c.in_ok-flags.flags.items old (c.strands.j + 1) v.items) (sym w.strands-is)
          (strands-left a xs by c.in_ok-flags.flags.items old c.strands.j c.strands.strands.items c.index.result.now
          (flags_read a xs c.in_ok-flags.flags.items old c.deref.result.now c.deref.ensures.value c.in_ok-flags.ensures)
          within c.index.ensures w.if-index.false c.strands.invariant)
    ]

pub returns-clause-basis : goal.returns-clause-basis
returns-clause-basis c = settles_to c.args.ground.now.normal.now c.args.ground.now.marks.now c.args.ground.now.by.now c.in_ok-flags.flags.items
    c.args.strands.now.items c.strands.j c.strands.strands.items c.requires.ground
    (flags_read c.args.ground.now.normal.now c.args.ground.now.marks.now c.in_ok-flags.flags.items c.args.strands.now.items c.deref.result.now
    c.deref.ensures.value c.in_ok-flags.ensures) (omega (arith, c.strands-test.false, c.strands.auto.j-end, c.len-j-end.ensures)) c.strands.invariant

pub returns-clause-size : goal.returns-clause-size
returns-clause-size c = strands-size c.args.ground.now.normal.now c.args.ground.now.marks.now c.args.ground.now.by.now c.in_ok-flags.flags.items
    c.args.strands.now.items c.strands.j c.strands.strands.items
    (flags_read c.args.ground.now.normal.now c.args.ground.now.marks.now c.in_ok-flags.flags.items c.args.strands.now.items c.deref.result.now
    c.deref.ensures.value c.in_ok-flags.ensures) c.strands.invariant

pub returns-clause-strands : goal.returns-clause-strands
returns-clause-strands c = c.strands.invariant.strands
