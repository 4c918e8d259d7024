use Rattle.std.proofs.Common.{◌≡◌, ◌∷◌, [], ℕ, List, map, length, arith, sym, subst}
use Rattle.std.proofs.lemmas.List.{get_or_read}
use Rattle.std.proofs.lemmas.Result.{IfOk-weaker}
use Rattle.gf_rays.specs.Cones.{rows_of}
use Rattle.gf_levels_theory.specs.Parts.{AreTops, AreOfTops}
use Rattle.gf_levels_theory.specs.Generators.{AreOuter}
use Rattle.gf_levels_theory.proofs.PartLaws.{parts_level}
use Rattle.gf_levels_theory.proofs.LevelLaws.{outer_level}
use Rattle.gf_cuts.proofs.LevelLaws.{only_top, highest_alone, level_alone}
use Rattle.gf_cuts.proofs.DrawnLaws.{drawn_outer}
use Rattle.gf_cuts.proofs.parts.parts_of.Goals as goal

pub top_parts-requires-clause-highest : goal.top_parts-requires-clause-highest
top_parts-requires-clause-highest c =
    let kept = c.in_ok-kept.kept.items in
    let t : ℕ = c.index.result.now in
    let e : length kept ≡ 1 = omega arith in
    let one = only_top kept t e (get_or_read kept _ _ (omega (arith, e)) c.index.ensures 0) in
    highest_alone c.args.cone.ambient c.args.points.now t kept (rows_of c.args.cone) one c.in_ok-kept.ensures.tops

pub returns-then-len-eq1-clause-level : goal.returns-then-len-eq1-clause-level
returns-then-len-eq1-clause-level c =
    let kept = c.in_ok-kept.kept.items in
    let t : ℕ = c.index.result.now in
    let e : length kept ≡ 1 = omega arith in
    let one = only_top kept t e (get_or_read kept _ _ (omega (arith, e)) c.index.ensures 0) in
    IfOk-weaker c.top_parts.result _ _
    (λ out s. level_alone c.args.members c.args.cone.ambient c.args.points.now t kept (rows_of c.args.cone) (map rows_of out.items) c.requires one
    c.in_ok-kept.ensures.tops c.in_ok-kept.ensures.inside s) c.top_parts.ensures.parts

pub all_parts_over-requires-clause-tops : goal.all_parts_over-requires-clause-tops
all_parts_over-requires-clause-tops c = subst (AreTops c.args.cone.ambient c.args.points.now (rows_of c.args.cone)) (sym c.deref-2.ensures.value)
    c.in_ok-kept.ensures.tops

pub returns-clause-level : goal.returns-clause-level
returns-clause-level c =
    let n = c.args.cone.ambient in
    let A = c.args.points.now in
    let cone = rows_of c.args.cone in
    let kept = c.in_ok-kept.kept.items in
    let parts = map rows_of c.in_ok-parts.parts.items in
    let out = map rows_of c.in_ok-outer.field-0.items in
    let all : AreOfTops c.args.members n A cone kept kept parts =
    subst (λ (z : List ℕ). AreOfTops c.args.members n A cone z z parts) c.deref-2.ensures.value c.in_ok-parts.ensures.parts in
    outer_level c.args.members n A (cone ∷ []) parts out
    (parts_level c.args.members n A cone parts kept c.requires c.in_ok-kept.ensures.tops c.in_ok-kept.ensures.inside all)
    (subst (λ (m : ℕ). AreOuter m parts out) c.ambient.ensures c.in_ok-outer.ensures.outer)

pub returns-clause-rows : goal.returns-clause-rows
returns-clause-rows c = drawn_outer c.ambient.result c.args.points.now (rows_of c.args.cone ∷ []) (map rows_of c.in_ok-parts.parts.items)
    (map rows_of c.in_ok-outer.field-0.items) c.in_ok-outer.ensures.outer c.in_ok-parts.ensures.rows
