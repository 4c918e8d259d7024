use Rattle.gf_fan.specs.Tops.{AreTopsBefore}
use Rattle.gf_fan.proofs.numbering.tops.Given as goal

abbrev pub invariant-loop-c : goal.invariant-loop-c
invariant-loop-c l = AreTopsBefore l.cones l.numbering l.c-index l.out.keys
