use Rattle.std.proofs.Common.{◌^◌}
use Rattle.gf_poly.specs.declared.TheConstants.{ROOM}
use Rattle.gf_ideal_theory.specs.Measure.{work_left}
use Rattle.gf_division.specs.Dividends.{split_of, joined_terms}
use Rattle.gf_division.specs.Divisions.{lists_of}
use Rattle.gf_division.proofs.DivisionLaws.{Dividing}
use Rattle.gf_division.proofs.divisions.divided.Given as goal

abbrev pub invariant-steps : goal.invariant-steps
invariant-steps l = Dividing l.by l.fn.f (split_of l.rest) (lists_of l.lists.items)

abbrev pub decreases-steps : goal.decreases-steps
decreases-steps l = work_left (2 ^ 31) ROOM l.by (joined_terms (split_of l.rest))
