use Rattle.std.proofs.Common.{◌^◌, length}
use Rattle.gf_poly.specs.declared.TheConstants.{ROOM}
use Rattle.gf_ideal_theory.specs.Measure.{work_left}
use Rattle.gf_division.specs.Dividends.{split_of, joined_terms}
use Rattle.gf_lifts.proofs.TopLaws.{Topping}
use Rattle.gf_lifts.proofs.tops.top_remainder.Given as goal

abbrev pub invariant-steps : goal.invariant-steps
invariant-steps l = Topping (length l.normal) l.by l.fn.f (split_of l.rest)

abbrev pub decreases-steps : goal.decreases-steps
decreases-steps l = work_left (2 ^ 31) ROOM l.by (joined_terms (split_of l.rest))
