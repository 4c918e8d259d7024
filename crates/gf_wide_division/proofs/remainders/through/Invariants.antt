use Rattle.std.proofs.Common.{◌^◌}
use Rattle.gf_poly.specs.declared.TheConstants.{ROOM}
use Rattle.gf_ideal_theory.specs.Measure.{work_left}
use Rattle.gf_division.specs.Dividends.{joined_terms}
use Rattle.gf_division.specs.Remainders.{IsWorkedOn}
use Rattle.gf_wide_division.specs.Dividends.{dividend_of}
use Rattle.gf_wide_division.proofs.remainders.through.Given as goal

abbrev pub invariant-steps : goal.invariant-steps
invariant-steps l = IsWorkedOn l.by l.spared (dividend_of l.initial.rest) (dividend_of l.rest)

abbrev pub decreases-steps : goal.decreases-steps
decreases-steps l = work_left (2 ^ 31) ROOM l.by (joined_terms (dividend_of l.rest))
