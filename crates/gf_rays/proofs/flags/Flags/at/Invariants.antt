use Rattle.std.proofs.Common.{take}
use Rattle.gf_rays.proofs.MemberLaws.{AreBitsAt}
use Rattle.gf_rays.proofs.flags.Flags.at.Given as goal

abbrev pub invariant-loop-i : goal.invariant-loop-i
invariant-loop-i l = AreBitsAt l.count (take l.i-index l.numbers) l.words.items
