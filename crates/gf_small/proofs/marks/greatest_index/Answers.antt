use Rattle.std.proofs.Common.{◌≡◌, ◌+◌, ◌∙◌, ℕ, arith, length, ap, sym, subst, rules, ℤ, to_z, of_z, FitsSigned}
use Rattle.std.specs.Int.{w128}
use Rattle.std.proofs.lemmas.Int.{to_z-of_z}
use Rattle.gf_exponents_theory.specs.Exponents.{Exponents, whole_weight}
use Rattle.gf_division.proofs.TailLaws.{head_at}
use Rattle.gf_small.proofs.MarksByWeightLaws.{exponents_at, width_at, Greatest, Greatest-start, Greatest-new, Greatest-kept, greatest_of}
use Rattle.gf_small.proofs.marks.greatest_index.Goals as goal
use Rattle.gf_small.proofs.marks.greatest_index.Goals.{then-is_above, else-is_above}

pub weight_of-own-requires-clause-entries : goal.weight_of-own-requires-clause-entries
weight_of-own-requires-clause-entries c = width_at _ _ c.terms.i c.index-terms-i.result c.exponents-x.result.now c.terms-test.true c.index-terms-i.is
    c.exponents-x.ensures.value c.requires.same_variables

pub is_above-requires : goal.is_above-requires
is_above-requires c =
    width_at _ _ c.terms.i c.index-terms-i.result c.exponents-x.result.now c.terms-test.true c.index-terms-i.is c.exponents-x.ensures.value
    c.requires.same_variables
    ∙ sym (width_at _ _ c.terms.index c.index-terms-index.result c.exponents-in-terms.result.now c.terms.invariant.inside c.index-terms-index.is
    c.exponents-in-terms.ensures.value c.requires.same_variables)

pub terms-preserved : goal.terms-preserved
terms-preserved c =
    let fits : FitsSigned w128 c.weight_of-own.result = search rules in
    let old : ℤ = to_z w128 c.terms.greatest-bits in
    let own : ℤ = to_z w128 (of_z w128 c.weight_of-own.result) in
    let x : Exponents = c.exponents-x.result.now in
    let y : Exponents = c.exponents-in-terms.result.now in
    let ex : x ≡ c.index-terms-i.result.mono =
    exponents_at c.args.terms.now c.terms.i c.index-terms-i.result x c.index-terms-i.is c.exponents-x.ensures.value in
    let ey = exponents_at c.args.terms.now c.terms.index c.index-terms-index.result y c.index-terms-index.is c.exponents-in-terms.ensures.value ∙
    sym (head_at c.args.terms.now c.terms.index c.index-terms-index.result c.terms.invariant.inside c.index-terms-index.is) in
    let e : own ≡ whole_weight c.args.weight.now c.index-terms-i.result.mono = to_z-of_z w128 c.weight_of-own.result fits ∙
    subst (λ (z : Exponents). c.weight_of-own.result ≡ whole_weight c.args.weight.now z) ex c.weight_of-own.ensures.value in
    elim c.if-is_above.branch [
      | then-is_above w ↦
          let new : Greatest c.args.weight.now c.args.terms.now c.terms.i own (c.terms.i + 1) =
          Greatest-new c.args.weight.now c.args.terms.now c.terms.index c.terms.i old own c.index-terms-i.result c.terms-test.true c.index-terms-i.is e x y
          ex ey (c.is_above.ensures.above w.if-is_above.true) c.terms.invariant in
          subst (λ (p : ℕ). Greatest c.args.weight.now c.args.terms.now p (to_z w128 c.if-is_above.greatest-bits) (c.terms.i + 1)) (sym w.index-is)
          (subst (λ (k : ℤ). Greatest c.args.weight.now c.args.terms.now c.terms.i k (c.terms.i + 1)) (sym w.greatest-is) new)
      | else-is_above w ↦
          let kept : Greatest c.args.weight.now c.args.terms.now c.terms.index old (c.terms.i + 1) =
          Greatest-kept c.args.weight.now c.args.terms.now c.terms.index c.terms.i old own c.index-terms-i.result c.terms-test.true c.index-terms-i.is e x y
          ex ey (c.is_above.ensures.below w.if-is_above.false) c.terms.invariant in
          subst (λ (p : ℕ). Greatest c.args.weight.now c.args.terms.now p (to_z w128 c.if-is_above.greatest-bits) (c.terms.i + 1)) (sym w.index-is)
          (subst (λ (k : ℤ). Greatest c.args.weight.now c.args.terms.now c.terms.index k (c.terms.i + 1)) (sym w.greatest-is) kept)
    ]

pub returns-clause-others : goal.returns-clause-others
returns-clause-others c = greatest_of _ _ _ _ _ c.terms-test.false c.terms.invariant

pub weight_of-own-requires-clause-short : goal.weight_of-own-requires-clause-short
weight_of-own-requires-clause-short c = omega (
  arith,
  c.exponents-x.ensures.valid.room,
  ap length c.exponents-x.ensures.value,
  width_at _ _ c.terms.i c.index-terms-i.result c.exponents-x.result.now c.terms-test.true c.index-terms-i.is c.exponents-x.ensures.value
      c.requires.same_variables,
)

pub weight_of-greatest-requires-clause-entries : goal.weight_of-greatest-requires-clause-entries
weight_of-greatest-requires-clause-entries c = width_at _ _ 0 c.index-terms-0.result c.exponents.result.now c.requires.some c.index-terms-0.is
    c.exponents.ensures.value c.requires.same_variables

pub weight_of-greatest-requires-clause-short : goal.weight_of-greatest-requires-clause-short
weight_of-greatest-requires-clause-short c = omega (
  arith,
  c.exponents.ensures.valid.room,
  ap length c.exponents.ensures.value,
  width_at _ _ 0 c.index-terms-0.result c.exponents.result.now c.requires.some c.index-terms-0.is c.exponents.ensures.value c.requires.same_variables,
)

pub terms-init : goal.terms-init
terms-init c =
    let fits : FitsSigned w128 c.weight_of-greatest.result = search rules in
    let x : c.exponents.result.now ≡ c.index-terms-0.result.mono =
    exponents_at c.args.terms.now 0 c.index-terms-0.result c.exponents.result.now c.index-terms-0.is c.exponents.ensures.value in
    Greatest-start c.args.weight.now c.args.terms.now 0 c.index-terms-0.result (to_z w128 (of_z w128 c.weight_of-greatest.result))
    c.requires.some c.index-terms-0.is
    (to_z-of_z w128 c.weight_of-greatest.result fits ∙ subst (λ (z : Exponents). c.weight_of-greatest.result ≡ whole_weight c.args.weight.now z)
    x c.weight_of-greatest.ensures.value)
