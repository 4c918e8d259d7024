use Rattle.std.proofs.Common.{sym, ap, refl, ◌∙◌, length}
use Rattle.std.specs.Prelude.{Some}
use Rattle.gf_division.proofs.ReducerLaws.{beside_by_test}
use Rattle.gf_whole_division.proofs.ValueLaws.{differ_by_degree}
use Rattle.gf_whole_division.proofs.terms.differ.Goals as goal

pub returns-then-degree : goal.returns-then-degree
returns-then-degree c = λ _. differ_by_degree c.args.x.now c.args.y.now (λ e. c.if-degree.true (c.degree.ensures ∙ e ∙ sym c.degree-2.ensures))

pub returns : goal.returns
returns c = λ t. beside_by_test (Some c.args.y.now) c.args.x.now c.args.y.now c.exponents-3.result.now c.exponents-4.result.now c.ne.result refl
    (sym (ap length (sym c.exponents.ensures.value) ∙ c.if-exponents.false ∙ ap length c.exponents-2.ensures.value)) c.exponents-3.ensures.value
    c.exponents-4.ensures.value c.ne.ensures t
