use Rattle.std.proofs.Common.{◌≡◌, ◌∙◌, ℕ, List, All, ◌<◌, length, sym, ap, subst}
use Rattle.std.proofs.lemmas.Result.{err_from_is_err_and}
use Rattle.gf_vec.specs.Vector.{zeros}
use Rattle.gf_vec.specs.Steps.{IsFirstWide, IfWide}
use Rattle.gf_duality_theory.specs.Faces.{sum_of}
use Rattle.gf_fans_theory.specs.FaceLists.{numbered}
use Rattle.gf_rays.specs.Cones.{rows_of}
use Rattle.gf_rays.specs.Sums.{adding_steps}
use Rattle.gf_rays.specs.declared.faces.Face.{Face}
use Rattle.gf_saturate.proofs.StepLaws.{contains_at}
use Rattle.gf_initial_monomials.specs.Outcomes.{PassesAt, vector_of}
use Rattle.gf_initial_monomials.specs.Refusals.{IsFaceRefusal}
use Rattle.gf_initial_monomials.proofs.OutcomeLaws.{pass_none, pass_more, pass_all, reached}
use Rattle.gf_initial_monomials.proofs.FaceLaws.{face_numbers, fails_by, passes_by, wide_refused, vector_refused}
use Rattle.gf_initial_monomials.proofs.PassingLaws.{passed_none, still_known, found_passes, passed_more}
use Rattle.gf_initial_monomials.proofs.faces.at_faces.Goals as goal

pub faces-init : goal.faces-init
faces-init c = (
  pass_none (PassesAt c.args.basis.now.items c.args.cone.now) c.args.faces.now,
  c.requires.seen,
  passed_none c.args.basis.now.variables c.args.basis.now.items (rows_of c.args.cone.now) c.args.passed.now,
)

pub sum_at-requires : goal.sum_at-requires
sum_at-requires c =
    let f : Face = c.index-faces-i.result in
    subst (λ (z : List ℕ). All (λ i. i < length c.args.cone.now.rays) z) (sym (c.as_slice.ensures ∙ ap (λ (g : Face). g.rays) (sym c.index-faces-i.is)))
    (face_numbers c.args.cone.now c.args.faces.now f c.requires.faces (contains_at c.args.faces.now c.faces.i f c.faces-test.true c.index-faces-i.is))

pub told_at-requires-clause-long : goal.told_at-requires-clause-long
told_at-requires-clause-long c = c.in_ok-v.ensures.long ∙ c.requires.ambient

pub returns-in_err-v-clause-err : goal.returns-in_err-v-clause-err
returns-in_err-v-clause-err c =
    let f : Face = c.index-faces-i.result in
    let p = err_from_is_err_and c.from_residual.result c.from_residual.ensures.1 in
    let w = subst (λ (z : List ℕ). IfWide (λ e. IsFirstWide e (adding_steps (zeros c.args.cone.now.ambient) (numbered c.args.cone.now.rays z)))
    c.in_err-v.field-0.0) (c.as_slice.ensures ∙ ap (λ (g : Face). g.rays) (sym c.index-faces-i.is)) c.in_err-v.ensures.wide in
    rw (p.1, p.2) (IsFaceRefusal.at_face f (reached (PassesAt c.args.basis.now.items c.args.cone.now) c.args.faces.now c.faces.i f c.faces-test.true
    c.index-faces-i.is c.faces.invariant.0) (wide_refused c.args.basis.now.items c.args.cone.now c.args.pairs f _ w))

pub returns-in_err-fails-clause-err : goal.returns-in_err-fails-clause-err
returns-in_err-fails-clause-err c =
    let f : Face = c.index-faces-i.result in
    let q : c.in_ok-v.v ≡ vector_of c.args.cone.now f = c.in_ok-v.ensures.value ∙ ap (λ (z : List ℕ). sum_of c.args.cone.now.ambient
    (numbered c.args.cone.now.rays z)) (c.as_slice.ensures ∙ ap (λ (g : Face). g.rays) (sym c.index-faces-i.is)) in
    let p = err_from_is_err_and c.from_residual-in_err-fails.result c.from_residual-in_err-fails.ensures.1 in
    rw p.1 (subst (IsFaceRefusal c.args.basis.now.items c.args.cone.now c.args.faces.now c.args.pairs) (sym p.2)
    (IsFaceRefusal.at_face f (reached (PassesAt c.args.basis.now.items c.args.cone.now) c.args.faces.now c.faces.i f c.faces-test.true c.index-faces-i.is
    c.faces.invariant.0)
    (vector_refused c.args.basis.now.variables c.args.basis.now.items c.args.cone.now c.args.pairs f c.in_ok-v.v _ c.requires.ambient q
    c.in_err-fails.ensures.err)))

pub returns-then-fails-clause-ok : goal.returns-then-fails-clause-ok
returns-then-fails-clause-ok c =
    let f : Face = c.index-faces-i.result in
    let q : c.in_ok-v.v ≡ vector_of c.args.cone.now f = c.in_ok-v.ensures.value ∙ ap (λ (z : List ℕ). sum_of c.args.cone.now.ambient
    (numbered c.args.cone.now.rays z)) (c.as_slice.ensures ∙ ap (λ (g : Face). g.rays) (sym c.index-faces-i.is)) in (
      f,
      reached (PassesAt c.args.basis.now.items c.args.cone.now) c.args.faces.now c.faces.i f c.faces-test.true c.index-faces-i.is c.faces.invariant.0,
      fails_by c.args.basis.now.variables c.args.basis.now.items c.args.cone.now f c.in_ok-v.v c.in_ok-fails.fails c.requires.ambient q c.if-fails.true
          c.in_ok-fails.ensures.ok,
    )

pub faces-preserved-then-has : goal.faces-preserved-then-has
faces-preserved-then-has c =
    let f : Face = c.index-faces-i.result in
    let q : c.in_ok-v.v ≡ vector_of c.args.cone.now f = c.in_ok-v.ensures.value ∙ ap (λ (z : List ℕ). sum_of c.args.cone.now.ambient
    (numbered c.args.cone.now.rays z)) (c.as_slice.ensures ∙ ap (λ (g : Face). g.rays) (sym c.index-faces-i.is)) in
    let known = still_known c.args.basis.now.variables c.args.basis.now.items (rows_of c.args.cone.now) c.args.passed.now c.faces.passed c.requires.known
    c.faces.invariant.2 in (
      pass_more (PassesAt c.args.basis.now.items c.args.cone.now) c.args.faces.now c.faces.i f c.faces-test.true c.index-faces-i.is
          (found_passes c.args.basis.now.variables c.args.basis.now.items c.args.cone.now c.args.faces.now f c.in_ok-v.v c.faces.passed c.requires.ambient
          c.requires.faces (contains_at c.args.faces.now c.faces.i f c.faces-test.true c.index-faces-i.is) q known (c.has.ensures c.if-has.true))
          c.faces.invariant.0,
      c.faces.invariant.1,
      c.faces.invariant.2,
    )

pub faces-preserved : goal.faces-preserved
faces-preserved c =
    let f : Face = c.index-faces-i.result in
    let q : c.in_ok-v.v ≡ vector_of c.args.cone.now f = c.in_ok-v.ensures.value ∙ ap (λ (z : List ℕ). sum_of c.args.cone.now.ambient
    (numbered c.args.cone.now.rays z)) (c.as_slice.ensures ∙ ap (λ (g : Face). g.rays) (sym c.index-faces-i.is)) in (
      pass_more (PassesAt c.args.basis.now.items c.args.cone.now) c.args.faces.now c.faces.i f c.faces-test.true c.index-faces-i.is
          (passes_by c.args.basis.now.variables c.args.basis.now.items c.args.cone.now f c.in_ok-v.v c.in_ok-fails.fails c.requires.ambient q c.if-fails.false
          c.in_ok-fails.ensures.ok) c.faces.invariant.0,
      c.in_ok-fails.ensures.seen ∙ c.faces.invariant.1,
      passed_more c.args.basis.now.variables c.args.basis.now.items c.args.cone.now c.args.faces.now f c.in_ok-v.v c.in_ok-fails.fails c.args.passed.now
          c.faces.passed c.keep.new.self c.requires.ambient c.requires.faces
          (contains_at c.args.faces.now c.faces.i f c.faces-test.true c.index-faces-i.is) q c.if-fails.false c.in_ok-fails.ensures.ok c.in_ok-keep.ensures
          c.faces.invariant.2,
    )

pub returns-clause-ok : goal.returns-clause-ok
returns-clause-ok c = pass_all (PassesAt c.args.basis.now.items c.args.cone.now) c.args.faces.now c.faces.i c.faces-test.false c.faces.invariant.0

pub returns-then-fails-clause-passed : goal.returns-then-fails-clause-passed
returns-then-fails-clause-passed c = c.faces.invariant.2

pub returns-clause-passed : goal.returns-clause-passed
returns-clause-passed c = c.faces.invariant.2
