use Rattle.std.proofs.Common.{◌≡◌, take, All}
use Rattle.gf_int_theory.specs.Range.{InRange}
use Rattle.gf_small.specs.Keys.{terms_key}
use Rattle.gf_small.proofs.unions.terms_key.Given as goal

abbrev pub invariant-terms : goal.invariant-terms
invariant-terms l = (l.key.items ≡ terms_key (take l.i l.f)) × All InRange l.key.items
