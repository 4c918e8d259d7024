use Rattle.std.proofs.Common.{◌∙◌, List, ℤ, ℕ, length, ◌+◌, [], subst, sym}
use Rattle.std.proofs.lemmas.Result.{err_from_is_err_and}
use Rattle.gf_duality_theory.specs.Elimination.{IsEchelonBasis, IsEliminationStep}
use Rattle.gf_rays.specs.declared.ray.Ray.{Ray}
use Rattle.gf_rays.specs.Further.{IsEndStep, echelon}
use Rattle.gf_rays.specs.States.{IsConeState, AreFinished}
use Rattle.gf_gordan.proofs.SystemLaws.{Failed-weaker}
use Rattle.gf_rays.proofs.FinishLaws.{finished_alone}
use Rattle.gf_rays.proofs.finish.lines_alone.Goals as goal

pub returns-in_err-lineality-clause-err : goal.returns-in_err-lineality-clause-err
returns-in_err-lineality-clause-err c =
    let all : ℕ = length c.args.inequalities.now + length c.args.equations.now in
    let p = err_from_is_err_and c.from_residual-in_err-lineality.result c.from_residual-in_err-lineality.ensures.1 in
    rw (p.1, p.2)
    (Failed-weaker (IsEliminationStep all c.args.n c.in_ok-copied.field-0.items c.args.n)
    (IsEndStep c.args.n c.args.inequalities.now c.args.equations.now c.args.made.now.lineality.items c.args.made.now.rays.items)
    (λ s k. echelon (subst (λ (l : List (List ℤ)). IsEliminationStep all c.args.n l c.args.n s) (c.in_ok-copied.ensures ∙ c.as_slice.ensures.value) k)) _
    c.in_err-lineality.ensures.err)

pub returns-clause-ok : goal.returns-clause-ok
returns-clause-ok c =
    let e : IsEchelonBasis c.args.n c.args.made.now.lineality.items c.in_ok-lineality.lineality.items =
    subst (λ (l : List (List ℤ)). IsEchelonBasis c.args.n l c.in_ok-lineality.lineality.items)
    (c.in_ok-copied.ensures ∙ c.as_slice.ensures.value) c.in_ok-lineality.ensures.ok in
    let s : IsConeState c.args.n c.args.inequalities.now c.args.equations.now c.args.made.now.lineality.items [] =
    subst
    (λ (l : List Ray). IsConeState c.args.n c.args.inequalities.now c.args.equations.now c.args.made.now.lineality.items l) c.requires.none
    c.requires.state in
    subst (AreFinished c.args.n c.args.inequalities.now c.args.equations.now c.in_ok-lineality.lineality.items) (sym c.new.ensures.items)
    (finished_alone c.args.n c.args.inequalities.now c.args.equations.now c.args.made.now.lineality.items c.in_ok-lineality.lineality.items s e)
