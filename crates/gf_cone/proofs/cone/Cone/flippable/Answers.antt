use Rattle.std.proofs.Common.{IfErr, ◌≤◌, sym, ap, subst, ℕ, length}
use Rattle.gf_gordan.specs.Alternative.{AreRows}
use Rattle.gf_gordan.specs.Sizes.{HaveEntriesUpTo}
use Rattle.gf_gordan.specs.Steps.{Failed}
use Rattle.gf_cone.specs.Cones.{ConeRows, other_rows, normal_at, in_region}
use Rattle.gf_cone.specs.Answers.{AnswersSystem, IsFlipToldIn, IsNormalStep}
use Rattle.gf_cone.proofs.AnswerLaws.{positive_for, answer_for, interior_of_others, normal_read, system_for, IfOk-weaker}
use Rattle.gf_cone.proofs.RegionLaws.{flip_told_in, region_wide, system_rows, others_of_region, small_system, small_normal}
use Rattle.gf_cone.proofs.cone.Cone.flippable.Goals as goal

pub solved-requires-clause-widths : goal.solved-requires-clause-widths
solved-requires-clause-widths c =
    let k = c.args.region.now in
    let d = c.args.self.now in
    let vars = ap (λ (z : ConeRows). z.variables) c.self.view_is in
    let e = system_rows k d c.args.index c.self.inside.variables c.as_slice.result.now c.in_ok-rows.rows.items c.in_ok-more.more.items c.in_ok-list.list.items
    c.normals-normals.result.now c.rows.result.now
    c.as_slice.ensures.value c.in_ok-rows.ensures c.in_ok-more.ensures c.in_ok-list.ensures c.normals-normals.ensures.value vars c.rows.ensures.value in
    let w = region_wide k d (subst (AreRows d.variables) c.normals-normals.ensures.value c.normals-normals.ensures.widths)
    (subst (λ (m : ℕ). AreRows m k.rows) c.requires.width (subst (AreRows (length k.root)) c.rows.ensures.value c.rows.ensures.widths)) in
    subst (λ (m : ℕ). AreRows m c.as_slice.result.now) (sym vars) (subst (AreRows d.variables) (sym e) (others_of_region k d c.args.index c.requires.index w))

pub solved-requires-clause-positive : goal.solved-requires-clause-positive
solved-requires-clause-positive c =
    let k = c.args.region.now in
    let d = c.args.self.now in
    let vars = ap (λ (z : ConeRows). z.variables) c.self.view_is in
    let e = system_rows k d c.args.index c.self.inside.variables c.as_slice.result.now c.in_ok-rows.rows.items c.in_ok-more.more.items c.in_ok-list.list.items
    c.normals-normals.result.now c.rows.result.now
    c.as_slice.ensures.value c.in_ok-rows.ensures c.in_ok-more.ensures c.in_ok-list.ensures c.normals-normals.ensures.value vars c.rows.ensures.value in
    positive_for (other_rows (in_region k d) c.args.index) c.as_slice.result.now (normal_at d c.args.index) c.index-normals-index.result e
    (normal_read d.normals c.normals-normals.result.now c.args.index c.index-normals-index.result c.requires.index c.normals-normals.ensures.value
    c.index-normals-index.is)
    (interior_of_others (in_region k d) c.args.index c.requires.index c.requires.interior)

pub returns-clause-told : goal.returns-clause-told
returns-clause-told c =
    let k = c.args.region.now in
    let d = c.args.self.now in
    let vars = ap (λ (z : ConeRows). z.variables) c.self.view_is in
    let e = system_rows k d c.args.index c.self.inside.variables c.as_slice.result.now c.in_ok-rows.rows.items c.in_ok-more.more.items c.in_ok-list.list.items
    c.normals-normals.result.now c.rows.result.now
    c.as_slice.ensures.value c.in_ok-rows.ensures c.in_ok-more.ensures c.in_ok-list.ensures c.normals-normals.ensures.value vars c.rows.ensures.value in
    let w = region_wide k d (subst (AreRows d.variables) c.normals-normals.ensures.value c.normals-normals.ensures.widths)
    (subst (λ (m : ℕ). AreRows m k.rows) c.requires.width (subst (AreRows (length k.root)) c.rows.ensures.value c.rows.ensures.widths)) in
    let n = normal_read d.normals c.normals-normals.result.now c.args.index c.index-normals-index.result c.requires.index c.normals-normals.ensures.value
    c.index-normals-index.is in
    IfOk-weaker (AnswersSystem c.self.inside.variables c.as_slice.result.now c.index-normals-index.result) (IsFlipToldIn k d c.args.index) c.solved.result
    (λ answer h. flip_told_in k d c.args.index c.requires.index w c.requires.interior answer
    (answer_for d.variables c.self.inside.variables (other_rows (in_region k d) c.args.index) c.as_slice.result.now (normal_at d c.args.index)
    c.index-normals-index.result answer vars e n h))
    c.solved.ensures.ok

pub returns-clause-three_columns : goal.returns-clause-three_columns
returns-clause-three_columns c = λ v h.
    let k = c.args.region.now in
    let d = c.args.self.now in
    let vars = ap (λ (z : ConeRows). z.variables) c.self.view_is in
    let e = system_rows k d c.args.index c.self.inside.variables c.as_slice.result.now c.in_ok-rows.rows.items c.in_ok-more.more.items c.in_ok-list.list.items
    c.normals-normals.result.now c.rows.result.now
    c.as_slice.ensures.value c.in_ok-rows.ensures c.in_ok-more.ensures c.in_ok-list.ensures c.normals-normals.ensures.value vars c.rows.ensures.value in
    let n = normal_read d.normals c.normals-normals.result.now c.args.index c.index-normals-index.result c.requires.index c.normals-normals.ensures.value
    c.index-normals-index.is in
    c.solved.ensures.three_columns (subst (λ (m : ℕ). m ≤ 3) (sym vars) v)
    (subst (HaveEntriesUpTo 500) (sym e) (small_system 500 k d c.args.index c.requires.index h))
    (small_normal 500 k d c.args.index c.index-normals-index.result c.requires.index n h)

pub returns-clause-err : goal.returns-clause-err
returns-clause-err c =
    let k = c.args.region.now in
    let d = c.args.self.now in
    let vars = ap (λ (z : ConeRows). z.variables) c.self.view_is in
    let e = system_rows k d c.args.index c.self.inside.variables c.as_slice.result.now c.in_ok-rows.rows.items c.in_ok-more.more.items c.in_ok-list.list.items
    c.normals-normals.result.now c.rows.result.now
    c.as_slice.ensures.value c.in_ok-rows.ensures c.in_ok-more.ensures c.in_ok-list.ensures c.normals-normals.ensures.value vars c.rows.ensures.value in
    let n = normal_read d.normals c.normals-normals.result.now c.args.index c.index-normals-index.result c.requires.index c.normals-normals.ensures.value
    c.index-normals-index.is in
    system_for (λ n rows a. IfErr c.solved.result (Failed (IsNormalStep n rows a))) _ _ _ _ _ _ vars e n c.solved.ensures.err
