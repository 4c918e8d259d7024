use Rattle.gf_strands.proofs.FormLaws.{NoStrandTo}
use Rattle.gf_strands.proofs.forms.strand_below.Given as goal

abbrev pub invariant-strands : goal.invariant-strands
invariant-strands l = NoStrandTo l.strands l.j l.x
