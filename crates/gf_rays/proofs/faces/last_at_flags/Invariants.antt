use Rattle.gf_rays.specs.FlagFaces.{IsLastAtFlags}
use Rattle.gf_rays.proofs.faces.last_at_flags.Given as goal

abbrev pub invariant-loop-k : goal.invariant-loop-k
invariant-loop-k l = IsLastAtFlags l.k l.rays l.parts.keys l.i l.last
