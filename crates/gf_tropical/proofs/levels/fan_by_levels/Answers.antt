use Rattle.std.proofs.Common.{map, refl}
use Rattle.gf_rays.specs.Cones.{rows_of}
use Rattle.gf_patterns_theory.specs.Patterns.{points}
use Rattle.gf_tropical.proofs.CutLaws.{fan_of_cut}
use Rattle.gf_tropical.proofs.DifferenceRowLaws.{by_differences}
use Rattle.gf_tropical.proofs.MeetingLaws.{given_meeting}
use Rattle.gf_tropical.proofs.levels.fan_by_levels.Goals as goal

pub of_meeting-requires-clause-meeting : goal.of_meeting-requires-clause-meeting
of_meeting-requires-clause-meeting c =
    given_meeting c.args.n c.in_ok-cones.cones.items (map rows_of c.in_ok-cones.cones.items) refl c.in_ok-cones.ensures.fan.fan

pub returns-clause-fan : goal.returns-clause-fan
returns-clause-fan c = fan_of_cut c.args.kind c.args.n (map points c.args.set.now) c.in_ok-cones.cones.items c.in_ok-fan.fan c.fans_are_cone_lists.ensures
    c.in_ok-cones.ensures.fan c.in_ok-fan.ensures.ok

pub returns-clause-rows : goal.returns-clause-rows
returns-clause-rows c = by_differences c.args.n (map points c.args.set.now) c.in_ok-cones.cones.items c.in_ok-fan.fan c.in_ok-cones.ensures.rows
    c.in_ok-fan.ensures.ok
