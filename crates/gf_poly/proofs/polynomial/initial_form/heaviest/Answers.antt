use Rattle.gf_exponents_theory.specs.Exponents.{whole_weight}
use Rattle.std.proofs.Common.{◌≡◌, ◌≤◌, ◌^◌, to_z, of_z, ℤ, ◌<ℤ◌, unsigned_abs, ◌++◌, ◌∷◌, [], subst, length, sym, rules, FitsSigned, ◌∙◌, ap}
use Rattle.std.specs.Int.{w128}
use Rattle.std.proofs.lemmas.Int.{to_z-of_z}
use Rattle.gf_poly.proofs.ProductLaws.{HasVariables-at}
use Rattle.gf_poly.proofs.InitialFormLaws.{by_greater, by_equal, by_less, heavier_at, as_heavy_at, lighter_at, initial_form_at, descending_at, variables_at}
use Rattle.gf_poly.proofs.polynomial.initial_form.heaviest.Goals as goal
use Rattle.gf_poly.proofs.polynomial.initial_form.heaviest.Goals.{in-Greater+in_ok-push-in-Greater, in-Equal+in_ok-push-in-Equal, in-Less}

pub weight_of-own-requires-clause-same_variables : goal.weight_of-own-requires-clause-same_variables
weight_of-own-requires-clause-same_variables c = HasVariables-at (length c.args.weight.now) c.args.terms.now c.terms.i c.index-terms-i.result c.terms-test.true
    c.index-terms-i.is c.requires.same_variables

pub terms-preserved : goal.terms-preserved
terms-preserved c =
    let fits : FitsSigned w128 c.weight_of-own.result = search rules in
    let e : to_z w128 (of_z w128 c.weight_of-own.result) ≡ whole_weight c.args.weight.now c.index-terms-i.result.mono =
    to_z-of_z w128 c.weight_of-own.result fits ∙ c.weight_of-own.ensures.value in
    let old : ℤ = to_z w128 c.terms.greatest-bits in
    let own : ℤ = to_z w128 (of_z w128 c.weight_of-own.result) in
    elim c.match-cmp.branch [
      | in-Greater+in_ok-push-in-Greater w ↦
          heavier_at _ _ _ _ _ c.index-terms-i.result w.copy.result old (to_z w128 c.match-cmp.greatest-bits) c.terms-test.true c.index-terms-i.is
          w.copy.ensures (w.greatest-is ∙ e)
          (subst (λ (k : ℤ). old <ℤ k) (sym w.greatest-is) (by_greater own old c.cmp.result c.cmp.ensures w.in-Greater.is))
          (ap (λ v. v.items) w.out-is ∙ w.in_ok-push-in-Greater.ensures.items ∙ ap (λ z. z ++ w.copy.result ∷ []) w.clear.ensures.items) c.terms.invariant
      | in-Equal+in_ok-push-in-Equal w ↦
          as_heavy_at _ _ _ _ _ c.index-terms-i.result w.copy-in-Equal.result old own (to_z w128 c.match-cmp.greatest-bits) c.terms-test.true c.index-terms-i.is
          w.copy-in-Equal.ensures e
          (by_equal own old c.cmp.result c.cmp.ensures w.in-Equal.is) w.greatest-is
          (ap (λ v. v.items) w.out-is ∙ w.in_ok-push-in-Equal.ensures.items) c.terms.invariant
      | in-Less w ↦
          lighter_at _ _ _ _ _ c.index-terms-i.result old own (to_z w128 c.match-cmp.greatest-bits) c.terms-test.true c.index-terms-i.is e
          (subst (λ (k : ℤ). unsigned_abs k ≤ 2 ^ 101) (sym (to_z-of_z w128 c.weight_of-own.result fits)) c.weight_of-own.ensures.bound)
          (by_less own old c.cmp.result c.cmp.ensures w.in-Less.is) w.greatest-is (ap (λ v. v.items) w.out-is) c.terms.invariant
    ]

pub returns-clause-value : goal.returns-clause-value
returns-clause-value c = initial_form_at (length c.args.weight.now) c.args.weight.now c.args.terms.now c.terms.out.items c.terms.i _ c.requires.same_variables
    c.requires.descending c.terms-test.false c.terms.invariant

pub returns-clause-descending : goal.returns-clause-descending
returns-clause-descending c = descending_at c.args.weight.now c.args.terms.now c.terms.out.items c.terms.i _ c.requires.descending c.terms-test.false
    c.terms.invariant

pub returns-clause-variables : goal.returns-clause-variables
returns-clause-variables c = variables_at c.args.weight.now c.args.terms.now c.terms.out.items c.terms.i _ c.terms-test.false c.terms.invariant
