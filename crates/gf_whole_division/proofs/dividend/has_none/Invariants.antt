use Rattle.std.proofs.Common.{take}
use Rattle.gf_whole_division.specs.Values.{whole_terms, HasNone}
use Rattle.gf_whole_division.proofs.dividend.has_none.Given as goal

abbrev pub invariant-terms : goal.invariant-terms
invariant-terms l = HasNone l.x (whole_terms (take l.i l.terms))
