use Rattle.std.proofs.Common.{◌≡◌, ◌∙◌, sym, ap, subst, List, ℤ, ◌++◌, append-nil, IfOk, IfErr}
use Rattle.gf_gordan.specs.Steps.{Failed}
use Rattle.gf_rays.specs.Further.{IsFurtherStep}
use Rattle.gf_fan.proofs.meet.meet_from_first.Goals as goal

pub returns-clause-rows : goal.returns-clause-rows
returns-clause-rows c =
    let x = c.args.c.now in let y = c.args.d.now in
    let q : x.equations ≡ x.equations ++ y.equations = sym (ap (λ (z : List (List ℤ)). x.equations ++ z) c.requires.none ∙ append-nil x.equations) in
    subst (λ (z : List (List ℤ)). IfOk c.with_more.result (λ m. (m.ambient ≡ x.ambient) × (m.inequalities ≡ x.inequalities ++ y.inequalities) ×
    (m.equations ≡ z))) q
    (subst (λ (z : List (List ℤ)). IfOk c.with_more.result (λ m. (m.ambient ≡ x.ambient) × (m.inequalities ≡ x.inequalities ++ z) ×
    (m.equations ≡ x.equations))) c.inequalities.ensures.value c.with_more.ensures.rows)

pub returns-clause-err : goal.returns-clause-err
returns-clause-err c = subst (λ (z : List (List ℤ)). IfErr c.with_more.result (Failed (IsFurtherStep c.args.c.now z)))
    c.inequalities.ensures.value c.with_more.ensures.err
