use Rattle.std.proofs.Common.{◌≡◌, ◌<◌, ◌∙◌, [], List, ℤ, length, get_or, sym, ap, subst, arith}
use Rattle.std.proofs.lemmas.Bool.{false≢true}
use Rattle.std.proofs.lemmas.List.{get_or_default}
use Rattle.std.proofs.lemmas.Result.{err_from_is_err_and}
use Rattle.gf_duality_theory.specs.Faces.{sum_of}
use Rattle.gf_rays.specs.Parts.{zeros_of}
use Rattle.gf_facets_theory.specs.Facets.{IsFlippable}
use Rattle.gf_cone.specs.Cones.{normal_at}
use Rattle.gf_cone.proofs.AnswerLaws.{crossable_flippable}
use Rattle.gf_weights.proofs.CutLaws.{witness_is, normal_row}
use Rattle.gf_weights.proofs.RefusalLaws.{witness_refused}
use Rattle.gf_weights.proofs.FacetLoop.{facets_none, facets_passed, facets_next, facets_all}
use Rattle.gf_weights.proofs.certificates.facets.Goals as goal
use Rattle.gf_weights.proofs.certificates.facets.Goals.{then-is_flippable+in_ok-normal+in_ok-witness+in_ok-push, else-is_flippable}

pub indices-init : goal.indices-init
indices-init c = facets_none c.args.set.now.variables c.args.region.now c.args.set.now.items c.args.cut.now.cone c.new-found.result.items
    c.new-found.ensures.items

pub indices-preserved : goal.indices-preserved
indices-preserved c =
    let n = c.args.set.now.variables in
    let k = c.args.region.now in
    let bs = c.args.set.now.items in
    let cone = c.args.cut.now.cone in
    let rays = c.args.cut.now.rays in
    let index = c.indices.index in
    let long = ap (λ (z : List (List ℤ)). length z) c.normals-normals.ensures.value in
    let l : index < length cone.normals = omega (arith, c.indices-test.true, long) in
    let told = crossable_flippable n k bs cone index l c.requires.cone in
    elim c.if-is_flippable.branch [
      | then-is_flippable+in_ok-normal+in_ok-witness+in_ok-push w ↦
          let e : w.in_ok-normal.normal ≡ normal_at cone index =
          w.in_ok-normal.ensures ∙ w.index-normals-index.is ∙ get_or_default c.normals-normals.result.now index w.index-normals-index.result
          [] c.indices-test.true ∙ ap (λ (z : List (List ℤ)). get_or z index []) c.normals-normals.ensures.value in
          let sum = w.in_ok-witness.ensures.value ∙ ap (λ (a : List ℤ). sum_of rays.ambient (zeros_of a rays.rays))
          (normal_row cone rays index c.requires.rays l) in
          rw w.found-is (facets_next n k bs cone index c.indices.found.items _ (record { normal = w.in_ok-normal.normal; witness = w.in_ok-witness.witness })
          c.requires.cone l e (told.0 (c.is_flippable.ensures.0 w.if-is_flippable.true))
          (witness_is n k bs cone rays (normal_at cone index) w.in_ok-witness.witness c.requires sum) w.in_ok-push.ensures.items c.indices.invariant)
      | else-is_flippable w ↦
          rw w.found-is (facets_passed n k bs cone index c.indices.found.items
          (λ f. false≢true (sym w.if-is_flippable.false ∙ c.is_flippable.ensures.1 (told.1 f))) c.indices.invariant)
    ]

pub returns-in_err-witness-clause-err : goal.returns-in_err-witness-clause-err
returns-in_err-witness-clause-err c =
    let n = c.args.set.now.variables in
    let k = c.args.region.now in
    let bs = c.args.set.now.items in
    let cone = c.args.cut.now.cone in
    let rays = c.args.cut.now.rays in
    let index = c.indices.index in
    let long = ap (λ (z : List (List ℤ)). length z) c.normals-normals.ensures.value in
    let l : index < length cone.normals = omega (arith, c.indices-test.true, long) in
    let told = crossable_flippable n k bs cone index l c.requires.cone in
    let row : List ℤ = get_or rays.inequalities index [] in
    let flip : IsFlippable n k bs row = subst (IsFlippable n k bs) (sym (normal_row cone rays index c.requires.rays l))
    (told.0 (c.is_flippable.ensures.0 c.if-is_flippable.true)) in
    let p = err_from_is_err_and c.from_residual-in_err-witness.result c.from_residual-in_err-witness.ensures.1 in
    rw (p.1, p.2) (witness_refused n k bs cone rays row _ c.requires flip c.in_err-witness.ensures.wide)

pub returns-clause-ok : goal.returns-clause-ok
returns-clause-ok c =
    let long = ap (λ (z : List (List ℤ)). length z) c.normals-normals.ensures.value in
    facets_all c.args.set.now.variables c.args.region.now c.args.set.now.items c.args.cut.now.cone c.indices.index c.indices.found.items c.requires.cone
    (omega (arith, c.indices-test.false, long)) c.indices.invariant
