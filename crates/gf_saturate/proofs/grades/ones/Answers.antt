use Rattle.std.proofs.Common.{pos, replicate, arith}
use Rattle.std.proofs.lemmas.List.Elements.{All-take, All-replicate}
use Rattle.gf_int_theory.specs.Range.{InRange}
use Rattle.gf_poly.specs.declared.TheConstants.{ROOM}
use Rattle.gf_saturate.proofs.grades.ones.Goals as goal

pub from_slice-requires : goal.from_slice-requires
from_slice-requires c =
    All-take InRange c.args.n (replicate ROOM (pos 1)) (All-replicate InRange ROOM (pos 1) (record { within = omega arith }))
