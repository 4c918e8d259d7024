use Rattle.std.proofs.Common.{◌≡◌, ◌∙◌, ◌++◌, ◌∷◌, [], List, ℕ, ℤ, length, All, ◌<◌, ap, sym, subst, arith}
use Rattle.gf_gordan.specs.Alternative.{AreRows}
use Rattle.gf_duality_theory.specs.Rays.{IsRays}
use Rattle.gf_fans_theory.specs.FaceLists.{numbered}
use Rattle.gf_patterns_theory.specs.PatternRows.{point_at, vector_difference}
use Rattle.gf_rays.specs.Cones.{rows_of}
use Rattle.gf_cuts.specs.Heights.{HasItsRays}
use Rattle.gf_cuts.proofs.AboveLaws.{point_difference, drawn_at}
use Rattle.gf_cuts.proofs.DrawnLaws.{drawn_tie}
use Rattle.gf_cuts.proofs.HeightLaws.{table_long}
use Rattle.gf_cuts.proofs.TiedLaws.{rays_fit, tied_as, tied_inside, tied_rays, tie_by, one_row}
use Rattle.gf_cuts.proofs.ties.tie_part.Goals as goal

pub bounds-rows-top : goal.bounds-rows-top
bounds-rows-top c =
    let e = ap length c.requires.rows ∙ table_long c.args.cone.now c.args.points.now in
    let l = c.requires.top in
    omega (arith, e, l)

pub bounds-rows-x : goal.bounds-rows-x
bounds-rows-x c =
    let e = ap length c.requires.rows ∙ table_long c.args.cone.now c.args.points.now in
    let l = c.requires.index in
    omega (arith, e, l)

pub tied_indices-requires-clause-first : goal.tied_indices-requires-clause-first
tied_indices-requires-clause-first c =
    let f = rays_fit c.args.cone.now c.args.points.now c.args.rows.now c.args.top c.index-rows-top.result c.requires.top c.requires.rows c.index-rows-top.is in
    let e = ap length c.rays-rays.ensures.value in
    omega (arith, f, e)

pub tied_indices-requires-clause-second : goal.tied_indices-requires-clause-second
tied_indices-requires-clause-second c =
    let f = rays_fit c.args.cone.now c.args.points.now c.args.rows.now c.args.x c.index-rows-x.result c.requires.index c.requires.rows c.index-rows-x.is in
    let e = ap length c.rays-rays.ensures.value in
    omega (arith, f, e)

pub tie_row-requires-clause-wide : goal.tie_row-requires-clause-wide
tie_row-requires-clause-wide c = (c.args.cone.now.ambient, c.requires.wide)

pub part-requires-clause-width : goal.part-requires-clause-width
part-requires-clause-width c =
    let A = c.args.points.now in
    let d = point_difference c.args.cone.now.ambient A c.args.top c.args.x c.requires.wide c.requires.top c.requires.index in
    subst (AreRows c.args.cone.now.ambient) (sym (c.deref.ensures.value ∙ c.in_ok-zero.ensures))
    (one_row c.args.cone.now.ambient (vector_difference (point_at A c.args.top) (point_at A c.args.x))
    (d.long ∙ c.requires.wide c.args.top [] c.requires.top))

pub part-requires-clause-numbers : goal.part-requires-clause-numbers
part-requires-clause-numbers c =
    let e : length c.rays-rays.result.now ≡ length c.args.cone.now.rays = ap length c.rays-rays.ensures.value in
    subst (All (λ i. i < length c.args.cone.now.rays)) (sym c.deref-2.ensures.value)
    (subst (λ k. All (λ i. i < k) c.in_ok-numbers.numbers.items) e (tied_inside c.index-rows-top.result c.index-rows-x.result (length c.rays-rays.result.now)
    c.in_ok-numbers.numbers.items c.in_ok-numbers.ensures))

pub part-requires-clause-part : goal.part-requires-clause-part
part-requires-clause-part c =
    let cone = c.args.cone.now in
    let A = c.args.points.now in
    let h : List ℤ = vector_difference (point_at A c.args.top) (point_at A c.args.x) in
    let r : HasItsRays cone =
    subst (IsRays cone.ambient cone.inequalities cone.equations cone.lineality) c.rays-rays.ensures.value c.rays-rays.ensures.rays in
    let d = point_difference cone.ambient A c.args.top c.args.x c.requires.wide c.requires.top c.requires.index in
    let t = tied_as cone A c.args.rows.now c.args.top c.args.x c.index-rows-top.result c.index-rows-x.result (length c.rays-rays.result.now)
    c.in_ok-numbers.numbers.items c.requires.top c.requires.index c.requires.rows c.index-rows-top.is c.index-rows-x.is
    (ap length c.rays-rays.ensures.value) c.in_ok-numbers.ensures in
    subst (λ z. IsRays cone.ambient cone.inequalities (cone.equations ++ z) cone.lineality (numbered cone.rays c.deref-2.result.now))
    (sym (c.deref.ensures.value ∙ c.in_ok-zero.ensures))
    (subst (λ (z : List ℕ). IsRays cone.ambient cone.inequalities (cone.equations ++ h ∷ []) cone.lineality (numbered cone.rays z))
    (sym c.deref-2.ensures.value)
    (tied_rays cone A c.args.top c.args.x h c.in_ok-numbers.numbers.items r c.requires.top c.requires.index c.requires.highest d t))

pub returns-clause-part : goal.returns-clause-part
returns-clause-part c =
    let cone = c.args.cone.now in
    let A = c.args.points.now in
    let h : List ℤ = vector_difference (point_at A c.args.top) (point_at A c.args.x) in
    let e = c.in_ok-part.ensures.rows in
    tie_by cone.ambient A c.args.top c.args.x (rows_of cone) (rows_of c.in_ok-part.field-0) h c.deref.result.now
    (point_difference cone.ambient A c.args.top c.args.x c.requires.wide c.requires.top c.requires.index) (c.deref.ensures.value ∙ c.in_ok-zero.ensures) e.1 e.2

pub returns-clause-rows : goal.returns-clause-rows
returns-clause-rows c =
    let cone = c.args.cone.now in
    let A = c.args.points.now in
    let h : List ℤ = vector_difference (point_at A c.args.top) (point_at A c.args.x) in
    let e = c.in_ok-part.ensures.rows in
    drawn_tie A (rows_of cone) (rows_of c.in_ok-part.field-0) h c.deref.result.now
    (drawn_at A c.args.top c.args.x h c.requires.top c.requires.index
    (point_difference cone.ambient A c.args.top c.args.x c.requires.wide c.requires.top c.requires.index))
    (c.deref.ensures.value ∙ c.in_ok-zero.ensures) e.1 e.2
