use Rattle.gf_small.proofs.LeadingTermsLaws.{Leading}
use Rattle.gf_small.proofs.leading.leading_terms.Given as goal

-- those of the members so far
abbrev pub invariant-members : goal.invariant-members
invariant-members l = Leading l.items l.found.items l.i
