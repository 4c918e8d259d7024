use Rattle.std.proofs.Common.{◌^◌}
use Rattle.gf_poly.specs.declared.TheConstants.{ROOM}
use Rattle.gf_ideal_theory.specs.Measure.{work_left}
use Rattle.gf_division.specs.Dividends.{split_of, joined_terms}
use Rattle.gf_division.specs.Remainders.{IsWorkedOn}
use Rattle.gf_division.proofs.remainders.while_near.Given as goal

abbrev pub invariant-steps : goal.invariant-steps
invariant-steps l = IsWorkedOn l.by l.spared (split_of l.initial.rest) (split_of l.rest)

abbrev pub decreases-steps : goal.decreases-steps
decreases-steps l = work_left (2 ^ 31) ROOM l.by (joined_terms (split_of l.rest))
