use Rattle.std.proofs.Common.{refl}
use Rattle.std.proofs.lemmas.Result.{IfOk-weaker}
use Rattle.gfan_common.proofs.PerformedLaws.{on_err}
use Rattle.gfan_plain_theory.proofs.ExactLaws.{leading_source, leading_once}
use Rattle.gfan_plain_theory.proofs.WeightVectorLaws.{weight_source, weight_once}
use Rattle.gfan_plain_theory.proofs.GroebnerConeLaws.{cone_source, cone_once}
use Rattle.gfan_plain_theory.proofs.BasisTestLaws.{intersection_source, intersection_once}
use Rattle.gfan_plain_theory.proofs.CommonRefinementLaws.{refinement_answered, refinement_refused}
use Rattle.gfan.proofs.CommandLaws.{plain_source, plain_once}
use Rattle.gfan.proofs.SourceLaws.{work_on_input, work_on_two, work_on_none}
use Rattle.gfan.proofs.commands.work_for.Goals as goal

pub returns-in-Plain : goal.returns-in-Plain
returns-in-Plain g c =
    work_on_input _ _ _ _ _ _ _ c.in-Plain.is (plain_once _) (plain_source _) c.requires.all c.index-texts-0.is c.deref.ensures.value c.written.ensures
    c.plain_answer.ensures.ok c.plain_answer.ensures.err c.plain_answer.ensures.told

pub returns-in-Buchberger : goal.returns-in-Buchberger
returns-in-Buchberger g c =
    work_on_input _ _ _ _ _ _ _ c.in-Buchberger.is tt refl c.requires.all c.index-texts-0-in-Buchberger.is c.deref-in-Buchberger.ensures.value
    c.written-in-Buchberger.ensures
    c.answer.ensures.ok c.answer.ensures.err c.answer.ensures.told

pub returns-in-LeadingTerms : goal.returns-in-LeadingTerms
returns-in-LeadingTerms g c =
    work_on_input _ _ _ _ _ _ _ c.in-LeadingTerms.is (leading_once _) (leading_source _) c.requires.all c.index-texts-0-in-LeadingTerms.is
    c.deref-in-LeadingTerms.ensures.value c.written-in-LeadingTerms.ensures
    c.answer-in-LeadingTerms.ensures.ok c.answer-in-LeadingTerms.ensures.err c.answer-in-LeadingTerms.ensures.told

pub returns-in-GroebnerCone : goal.returns-in-GroebnerCone
returns-in-GroebnerCone g c =
    work_on_input _ _ _ _ _ _ _ c.in-GroebnerCone.is (cone_once _) (cone_source _) c.requires.all c.index-texts-0-in-GroebnerCone.is
    c.deref-in-GroebnerCone.ensures.value c.written-in-GroebnerCone.ensures
    c.answer-in-GroebnerCone.ensures.ok c.answer-in-GroebnerCone.ensures.err c.answer-in-GroebnerCone.ensures.told

pub returns-in-WeightVector : goal.returns-in-WeightVector
returns-in-WeightVector g c =
    work_on_input _ _ _ _ _ _ _ c.in-WeightVector.is (weight_once _) (weight_source _) c.requires.all c.index-texts-0-in-WeightVector.is
    c.deref-in-WeightVector.ensures.value c.written-in-WeightVector.ensures
    c.answer-in-WeightVector.ensures.ok c.answer-in-WeightVector.ensures.err c.answer-in-WeightVector.ensures.told

pub returns-in-ToPolyhedralFan : goal.returns-in-ToPolyhedralFan
returns-in-ToPolyhedralFan g c =
    work_on_input _ _ _ _ _ _ _ c.in-ToPolyhedralFan.is tt refl c.requires.all c.index-texts-0-in-ToPolyhedralFan.is c.deref-in-ToPolyhedralFan.ensures.value
    c.written-in-ToPolyhedralFan.ensures
    c.answer-in-ToPolyhedralFan.ensures.ok c.answer-in-ToPolyhedralFan.ensures.err c.answer-in-ToPolyhedralFan.ensures.told

pub returns-in-TropicalIntersection : goal.returns-in-TropicalIntersection
returns-in-TropicalIntersection g c =
    work_on_input _ _ _ _ _ _ _ c.in-TropicalIntersection.is (intersection_once _) (intersection_source _)
    c.requires.all c.index-texts-0-in-TropicalIntersection.is c.deref-in-TropicalIntersection.ensures.value c.written-in-TropicalIntersection.ensures
    c.answer-in-TropicalIntersection.ensures.ok c.answer-in-TropicalIntersection.ensures.err c.answer-in-TropicalIntersection.ensures.told

pub returns-in-Saturation : goal.returns-in-Saturation
returns-in-Saturation g c =
    work_on_input _ _ _ _ _ _ _ c.in-Saturation.is tt refl c.requires.all c.index-texts-0-in-Saturation.is c.deref-in-Saturation.ensures.value
    c.written-in-Saturation.ensures
    c.answer-in-Saturation.ensures.ok c.answer-in-Saturation.ensures.err c.answer-in-Saturation.ensures.told

pub returns-in-FanCommonRefinement : goal.returns-in-FanCommonRefinement
returns-in-FanCommonRefinement g c =
    let a = c.deref-in-FanCommonRefinement.result.now in
    let b = c.deref-in-FanCommonRefinement-2.result.now in
    let answer = c.answer-in-FanCommonRefinement in
    work_on_two _ _ _ _ _ a b answer.result _ c.in-FanCommonRefinement.is c.requires.all c.index-texts-0-in-FanCommonRefinement.is c.index-texts-1.is
    c.deref-in-FanCommonRefinement.ensures.value c.deref-in-FanCommonRefinement-2.ensures.value c.written-in-FanCommonRefinement.ensures
    (IfOk-weaker answer.result _ _ (λ text h. refinement_answered _ _ a b text.items h) answer.ensures.ok)
    (on_err answer.result _ _ (λ e h. refinement_refused _ _ a b e.refusal h) answer.ensures.err) answer.ensures.told

pub returns-in-Generated : goal.returns-in-Generated
returns-in-Generated g c =
    work_on_none _ _ _ _ _ c.in-Generated.is c.requires.all c.written-in-Generated.ensures c.answer-in-Generated.ensures.ok c.answer-in-Generated.ensures.err
    c.answer-in-Generated.ensures.told
