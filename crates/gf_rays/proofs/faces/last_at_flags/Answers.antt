use Rattle.std.proofs.Common.{◌≡◌, arith, subst}
use Rattle.gf_rays.specs.FlagFaces.{IsLastAtFlags}
use Rattle.gf_rays.proofs.HeightLaws.{last_none, last_more, next_of}
use Rattle.gf_rays.proofs.faces.last_at_flags.Goals as goal

pub loop-k-init : goal.loop-k-init
loop-k-init c = last_none c.args.rays.now c.args.parts.now.keys c.args.i

pub part_at_flag-requires-clause-flags : goal.part_at_flag-requires-clause-flags
part_at_flag-requires-clause-flags c = (c.args.m, (c.loop-k-test.true, c.requires.flags))

pub part_at_flag-requires-clause-parts : goal.part_at_flag-requires-clause-parts
part_at_flag-requires-clause-parts c = (c.args.m, c.requires.parts.faces)

pub loop-k-preserved : goal.loop-k-preserved
loop-k-preserved c = rw c.later-last.ensures (last_more c.loop-k.k c.args.rays.now c.args.parts.now.keys c.args.i c.loop-k.last _ c.loop-k.invariant
    c.in_ok-part_at_flag.ensures)

pub returns : goal.returns
returns c = next_of c.args.m c.args.rays.now c.args.parts.now.keys c.args.i c.loop-k.last c.requires.parts c.requires.index
    (subst (λ m. IsLastAtFlags m c.args.rays.now c.args.parts.now.keys c.args.i c.loop-k.last) (let e : c.loop-k.k ≡ c.args.m =
    omega (arith, c.loop-k-test.false, c.loop-k.auto.k-end) in e) c.loop-k.invariant)
