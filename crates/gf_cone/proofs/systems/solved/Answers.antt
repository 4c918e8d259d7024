use Rattle.std.proofs.Common.{rules, ◌≡◌, sym, subst, ℤ, List, [], ◌∷◌, neg_ℤ, FitsSigned, get_or, pos}
use Rattle.std.specs.Int.{w128}
use Rattle.std.proofs.lemmas.Int.{to_z-of_z}
use Rattle.gf_facets_theory.specs.Combinations.{IsCombination}
use Rattle.gf_gordan.specs.Answers.{IsAlternative}
use Rattle.gf_gordan.specs.Alternative.{IsFarkas}
use Rattle.gf_facets_theory.proofs.FacetSystems.{combination_of_farkas}
use Rattle.gf_cone.proofs.AnswerLaws.{one_equation}
use Rattle.gf_cone.proofs.systems.solved.Goals as goal

pub returns-in-Farkas-clause-ok : goal.returns-in-Farkas-clause-ok
returns-in-Farkas-clause-ok c =
    let a : IsAlternative c.args.n c.args.rows.now (c.args.normal.now ∷ []) c.in_ok-witness.field-0 =
    subst (λ (z : List (List ℤ)). IsAlternative c.args.n c.args.rows.now z c.in_ok-witness.field-0) c.from_ref.ensures.value c.in_ok-witness.ensures.ok in
    let h : IsFarkas c.args.n c.args.rows.now (c.args.normal.now ∷ []) c.in-Farkas.multipliers c.in-Farkas.equations =
    subst (IsAlternative c.args.n c.args.rows.now (c.args.normal.now ∷ [])) c.in-Farkas.is a in
    let e : c.in-Farkas.equations ≡ get_or c.as_slice.result.now 0 (pos 0) ∷ [] =
    one_equation c.in-Farkas.equations c.as_slice.result.now h.equations_len c.as_slice.ensures.value in
    let k : IsCombination c.args.n c.args.rows.now c.args.normal.now (neg_ℤ (get_or c.as_slice.result.now 0 (pos 0))) c.in-Farkas.multipliers =
    combination_of_farkas c.args.n c.args.normal.now c.requires.positive.0 c.args.rows.now c.in-Farkas.multipliers (get_or c.as_slice.result.now 0 (pos 0))
    c.requires.widths c.requires.width c.requires.positive.1 c.requires.positive.2
    (subst (IsFarkas c.args.n c.args.rows.now (c.args.normal.now ∷ []) c.in-Farkas.multipliers) e h) in
    let fe : FitsSigned w128 (get_or c.as_slice.result.now 0 (pos 0)) = search rules in
    let fz : FitsSigned w128 c.negative-times.result = search rules in
    simp to_z-of_z (subst (λ (z : ℤ). IsCombination c.args.n c.args.rows.now c.args.normal.now z c.in-Farkas.multipliers)
    (sym (simp to_z-of_z at c.negative-times.ensures)) k)
