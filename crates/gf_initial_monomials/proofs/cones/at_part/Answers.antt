use Rattle.std.proofs.Common.{List, subst}
use Rattle.std.proofs.lemmas.Result.{IfOk-weaker, IfErr-weaker}
use Rattle.gf_duality_theory.specs.Rays.{IsRays}
use Rattle.gf_rays.specs.declared.faces.Face.{Face}
use Rattle.gf_initial_monomials.specs.Outcomes.{IsFirstThatFails, PassesAt, FailsAt}
use Rattle.gf_initial_monomials.specs.Refusals.{IsConeRefusal, IsFaceRefusal}
use Rattle.gf_initial_monomials.proofs.CutLaws.{recut, recut_is, recut_faces, recut_refused}
use Rattle.gf_initial_monomials.proofs.cones.at_part.Goals as goal

pub returns-clause-ok : goal.returns-clause-ok
returns-clause-ok c =
    let n = c.args.basis.now.variables in
    let d = c.args.part.now in
    let r = subst (IsRays d.ambient d.inequalities d.equations d.lineality) c.rays.ensures.value c.rays.ensures.rays in
    IfOk-weaker c.at_faces.result _ _ (λ v o a rows k. record {
      cut = recut a rows d;
      is_cut = recut_is a n rows d k r;
      faces = c.in_ok-faces.faces.items;
      are_faces = recut_faces a n rows d c.in_ok-faces.faces.items k r c.in_ok-faces.ensures;
      outcome = subst (λ (z : List Face). IsFirstThatFails (PassesAt c.args.basis.now.items d) (FailsAt c.args.basis.now.items d) z v) c.deref.ensures.value o;
    }) c.at_faces.ensures.ok

pub returns-clause-err : goal.returns-clause-err
returns-clause-err c =
    let n = c.args.basis.now.variables in
    let d = c.args.part.now in
    let r = subst (IsRays d.ambient d.inequalities d.equations d.lineality) c.rays.ensures.value c.rays.ensures.rays in
    IfErr-weaker c.at_faces.result _ _ (λ e f a rows k. IsConeRefusal.at_faces (recut a rows d) c.in_ok-faces.faces.items (recut_is a n rows d k r)
    (recut_faces a n rows d c.in_ok-faces.faces.items k r c.in_ok-faces.ensures)
    (recut_refused c.args.basis.now.items a rows d c.in_ok-faces.faces.items c.args.pairs e
    (subst (λ (z : List Face). IsFaceRefusal c.args.basis.now.items d z c.args.pairs e) c.deref.ensures.value f))) c.at_faces.ensures.err
