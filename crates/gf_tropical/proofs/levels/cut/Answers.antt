use Rattle.std.proofs.Common.{map, sym, subst}
use Rattle.gf_gordan.specs.Alternative.{AreRows}
use Rattle.gf_rays.specs.Cones.{rows_of}
use Rattle.gf_fan.specs.Pairs.{AreOfAmbient}
use Rattle.gf_poly.specs.Polynomial.{HasVariables, IsDescending}
use Rattle.gf_patterns_theory.specs.Patterns.{points}
use Rattle.gf_patterns_theory.specs.Refinements.{HaveEntries}
use Rattle.gf_patterns_theory.proofs.PointLaws.{points_distinct}
use Rattle.gf_levels_theory.specs.Levels.{IsLevel}
use Rattle.gf_levels_theory.specs.VertexPoints.{AreVertexPoints}
use Rattle.gf_tropical.proofs.CutLaws.{level_patterns}
use Rattle.gf_tropical.proofs.DifferenceRowLaws.{of_cut}
use Rattle.gf_tropical.proofs.levels.cut.Goals as goal

pub vertex_points-requires-clause-variables : goal.vertex_points-requires-clause-variables
vertex_points-requires-clause-variables c = subst (HasVariables c.args.n) (sym c.terms.ensures.value) c.requires.variables

pub vertex_points-requires-clause-distinct : goal.vertex_points-requires-clause-distinct
vertex_points-requires-clause-distinct c = points_distinct c.terms.result.now (subst IsDescending (sym c.terms.ensures.value) c.terms.ensures.descending)

pub level-requires-clause-wide : goal.level-requires-clause-wide
level-requires-clause-wide c = subst (AreRows c.args.n) (sym c.deref.ensures.value) c.in_ok-tops.ensures.wide

pub have_entries-requires : goal.have_entries-requires
have_entries-requires c = subst (AreOfAmbient c.args.n) (sym c.deref-2.ensures.value) c.in_ok-out.ensures.ambient

pub returns-clause-fan : goal.returns-clause-fan
returns-clause-fan c = λ As some p.
    let f = c.args.f.now in
    let cs = map rows_of c.args.cones.items in
    let ps = map rows_of c.in_ok-out.out.items in
    level_patterns c.args.kind c.args.n As f c.deref.result.now cs ps c.levels_are_of_patterns.ensures c.requires.variables
    c.terms.ensures.descending c.requires.not_zero
    (subst (λ z. AreVertexPoints c.args.n (points z) c.deref.result.now) c.terms.ensures.value
    (subst (AreVertexPoints c.args.n (points c.terms.result.now)) (sym c.deref.ensures.value) c.in_ok-tops.ensures.points)) some
    (subst (λ z. HaveEntries c.args.n (map rows_of z)) c.deref-2.ensures.value c.have_entries.ensures) p
    (subst (λ m. IsLevel m c.args.n c.deref.result.now cs ps) c.members.ensures c.in_ok-out.ensures.level)

pub returns-clause-rows : goal.returns-clause-rows
returns-clause-rows c = λ As listed old.
    let f = c.args.f.now in
    of_cut c.args.n As (points f) c.deref.result.now (map rows_of c.args.cones.items) (map rows_of c.in_ok-out.out.items) listed
    (subst (λ z. AreVertexPoints c.args.n (points z) c.deref.result.now) c.terms.ensures.value
    (subst (AreVertexPoints c.args.n (points c.terms.result.now)) (sym c.deref.ensures.value) c.in_ok-tops.ensures.points)) c.in_ok-out.ensures.rows old
