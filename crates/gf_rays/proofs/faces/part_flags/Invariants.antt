use Rattle.gf_rays.proofs.MemberLaws.{MembersSoFar}
use Rattle.gf_rays.proofs.faces.part_flags.Given as goal

abbrev pub invariant-loop-part : goal.invariant-loop-part
invariant-loop-part l = MembersSoFar l.count l.parts l.part-index l.out.items
