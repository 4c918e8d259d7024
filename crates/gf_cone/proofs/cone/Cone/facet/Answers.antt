use Rattle.std.proofs.lemmas.Result.{err_from_is_err_and}
use Rattle.gf_gordan.specs.Sizes.{HaveEntriesUpTo}
use Rattle.std.proofs.Common.{◌≤◌, ◌∙◌, sym, ap, subst, ℕ}
use Rattle.gf_facets_theory.specs.Normals.{others_of}
use Rattle.gf_cone.specs.Cones.{ConeRows, normal_at}
use Rattle.gf_cone.specs.Answers.{AnswersSystem}
use Rattle.gf_cone.specs.declared.answer.FacetAnswer.TheVariants.{Facet, Redundant}
use Rattle.gf_cone.specs.declared.answer.FlipAnswer.TheVariants.{Yes, No}
use Rattle.gf_cone.proofs.AnswerLaws.{facet_told, kept_wide, positive_for, answer_for, interior_of_normals, normal_read, small_others, small_at}
use Rattle.gf_cone.proofs.cone.Cone.facet.Goals as goal

pub solved-requires-clause-positive : goal.solved-requires-clause-positive
solved-requires-clause-positive c = positive_for (others_of c.args.index c.args.self.now.normals) c.as_slice.result.now (normal_at c.args.self.now c.args.index)
    c.index-normals-index.result
    (c.as_slice.ensures.value ∙ c.in_ok-rows.ensures ∙ ap (others_of c.args.index) c.normals-normals.ensures.value)
    (normal_read c.args.self.now.normals c.normals-normals.result.now c.args.index c.index-normals-index.result c.requires.index c.normals-normals.ensures.value
    c.index-normals-index.is)
    (interior_of_normals c.args.self.now c.args.index c.requires.index c.requires.interior)

pub returns-in-Yes-clause-told : goal.returns-in-Yes-clause-told
returns-in-Yes-clause-told c = facet_told c.args.self.now c.args.index c.requires.index
    (kept_wide c.args.self.now c.self.inside.variables c.self.inside.count c.self.inside.vectors.items (sym c.self.view_is) c.self.invariant)
    c.requires.interior (Facet c.in-Yes.witness)
    (answer_for c.args.self.now.variables c.self.inside.variables (others_of c.args.index c.args.self.now.normals) c.as_slice.result.now
    (normal_at c.args.self.now c.args.index) c.index-normals-index.result (Yes c.in-Yes.witness)
    (ap (λ (z : ConeRows). z.variables) c.self.view_is)
    (c.as_slice.ensures.value ∙ c.in_ok-rows.ensures ∙ ap (others_of c.args.index) c.normals-normals.ensures.value)
    (normal_read c.args.self.now.normals c.normals-normals.result.now c.args.index c.index-normals-index.result c.requires.index c.normals-normals.ensures.value
    c.index-normals-index.is)
    (subst (AnswersSystem c.self.inside.variables c.as_slice.result.now c.index-normals-index.result) c.in-Yes.is c.in_ok-witness.ensures.ok))

pub returns-clause-told : goal.returns-clause-told
returns-clause-told c = facet_told c.args.self.now c.args.index c.requires.index
    (kept_wide c.args.self.now c.self.inside.variables c.self.inside.count c.self.inside.vectors.items (sym c.self.view_is) c.self.invariant)
    c.requires.interior (Redundant c.in-No.times c.in-No.multipliers)
    (answer_for c.args.self.now.variables c.self.inside.variables (others_of c.args.index c.args.self.now.normals) c.as_slice.result.now
    (normal_at c.args.self.now c.args.index) c.index-normals-index.result (No c.in-No.times c.in-No.multipliers)
    (ap (λ (z : ConeRows). z.variables) c.self.view_is)
    (c.as_slice.ensures.value ∙ c.in_ok-rows.ensures ∙ ap (others_of c.args.index) c.normals-normals.ensures.value)
    (normal_read c.args.self.now.normals c.normals-normals.result.now c.args.index c.index-normals-index.result c.requires.index c.normals-normals.ensures.value
    c.index-normals-index.is)
    (subst (AnswersSystem c.self.inside.variables c.as_slice.result.now c.index-normals-index.result) c.in-No.is c.in_ok-witness.ensures.ok))

pub returns-in_err-witness-clause-three_columns : goal.returns-in_err-witness-clause-three_columns
returns-in_err-witness-clause-three_columns c = λ v h.
    let p = err_from_is_err_and c.from_residual-in_err-witness.result c.from_residual-in_err-witness.ensures.1 in
    rw (p.1, p.2) (c.in_err-witness.ensures.three_columns
    (subst (λ (m : ℕ). m ≤ 3) (sym (ap (λ (z : ConeRows). z.variables) c.self.view_is)) v)
    (subst (HaveEntriesUpTo 500) (sym (c.as_slice.ensures.value ∙ c.in_ok-rows.ensures ∙ ap (others_of c.args.index) c.normals-normals.ensures.value))
    (small_others 500 c.args.index c.args.self.now.normals h))
    (small_at 500 c.args.self.now.normals c.normals-normals.result.now c.args.index c.index-normals-index.result c.normals-normals.ensures.value
    c.requires.index c.index-normals-index.is h))
