use Rattle.gf_strands.proofs.SplitLaws.{AreTermsAlone}
use Rattle.gf_strands.proofs.along.is_alone.Given as goal

abbrev pub invariant-terms : goal.invariant-terms
invariant-terms l = AreTermsAlone l.normal l.member.head l.i l.terms
