use Rattle.gf_strands.proofs.StrandMarks.{NoStrandBetween}
use Rattle.gf_strands.proofs.forms.is_left.Given as goal

abbrev pub invariant-strands : goal.invariant-strands
invariant-strands l = NoStrandBetween l.strands l.from l.j l.x
