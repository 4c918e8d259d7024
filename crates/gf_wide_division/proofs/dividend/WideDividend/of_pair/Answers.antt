use Rattle.std.proofs.Common.{sym, ◌∙◌, length}
use Rattle.gf_frac.proofs.FractionLaws.{zero-not-one}
use Rattle.gf_division.proofs.SubtractionLaws.{neg-nonzero}
use Rattle.gf_division.proofs.SPolynomialLaws.{multiple_length, pair_facts, left_variables, right_variables}
use Rattle.gf_wide_division.specs.Dividends.{dividend_of}
use Rattle.gf_wide_division.proofs.PairLaws.{nothing_sound, second_sound, pair_value, pair_variables}
use Rattle.gf_wide_division.proofs.dividend.WideDividend.of_pair.Goals as goal

pub cofactors-of_b-requires : goal.cofactors-of_b-requires
cofactors-of_b-requires c = multiple_length c.args.b.now c.args.c.now c.head.result.now c.head-2.result.now c.requires c.head.ensures.marked
    c.head-2.ensures.marked c.head.ensures.value c.head-2.ensures.value

pub subtract-requires-clause-sound : goal.subtract-requires-clause-sound
subtract-requires-clause-sound c = nothing_sound (length c.cofactors-of_b.result.0) (dividend_of c.zero-rest.result) c.zero-rest.ensures

pub subtract-requires-clause-variables : goal.subtract-requires-clause-variables
subtract-requires-clause-variables c =
    let k = pair_facts c.args.b.now c.args.c.now c.head.result.now c.head-2.result.now c.cofactors-of_b.result.0 c.cofactors-of_b.result.1 c.requires
    c.head.ensures.marked c.head.ensures.value c.head-2.ensures.value c.cofactors-of_b.ensures in
    left_variables c.args.b.now c.args.c.now _ _ c.terms.result.now (c.terms.ensures.value ∙ c.poly.ensures) k

pub subtract-requires-clause-nonzero : goal.subtract-requires-clause-nonzero
subtract-requires-clause-nonzero c = λ z. neg-nonzero c.one-one.result (λ y. zero-not-one (sym y ∙ c.one-one.ensures)) (sym c.neg.ensures ∙ z)

pub subtract-requires-2-clause-sound : goal.subtract-requires-2-clause-sound
subtract-requires-2-clause-sound c =
    let k = pair_facts c.args.b.now c.args.c.now c.head.result.now c.head-2.result.now c.cofactors-of_b.result.0 c.cofactors-of_b.result.1 c.requires
    c.head.ensures.marked c.head.ensures.value c.head-2.ensures.value c.cofactors-of_b.ensures in
    second_sound c.args.b.now c.args.c.now _ _ c.neg.result c.terms.result.now (dividend_of c.zero-rest.result) (dividend_of c.subtract.new.self)
    k c.in_ok-subtract.ensures

pub subtract-requires-2-clause-variables : goal.subtract-requires-2-clause-variables
subtract-requires-2-clause-variables c =
    let k = pair_facts c.args.b.now c.args.c.now c.head.result.now c.head-2.result.now c.cofactors-of_b.result.0 c.cofactors-of_b.result.1 c.requires
    c.head.ensures.marked c.head.ensures.value c.head-2.ensures.value c.cofactors-of_b.ensures in
    right_variables c.args.b.now c.args.c.now _ _ c.terms-2.result.now (c.terms-2.ensures.value ∙ c.poly-2.ensures) k

pub subtract-requires-2-clause-nonzero : goal.subtract-requires-2-clause-nonzero
subtract-requires-2-clause-nonzero c = λ y. zero-not-one (sym y ∙ c.one-one.ensures)

pub returns-clause-value : goal.returns-clause-value
returns-clause-value c =
    let k = pair_facts c.args.b.now c.args.c.now c.head.result.now c.head-2.result.now c.cofactors-of_b.result.0 c.cofactors-of_b.result.1 c.requires
    c.head.ensures.marked c.head.ensures.value c.head-2.ensures.value c.cofactors-of_b.ensures in
    pair_value c.args.b.now c.args.c.now _ _ c.neg.result c.one-one.result c.terms.result.now c.terms-2.result.now (dividend_of c.zero-rest.result)
    (dividend_of c.subtract.new.self) (dividend_of c.subtract-2.new.self) (c.terms.ensures.value ∙ c.poly.ensures) (c.terms-2.ensures.value ∙
    c.poly-2.ensures) c.one-one.ensures c.neg.ensures k c.zero-rest.ensures c.in_ok-subtract.ensures c.in_ok-subtract-2.ensures

pub returns-clause-descending : goal.returns-clause-descending
returns-clause-descending c = c.in_ok-subtract-2.ensures.sound.descending

pub returns-clause-variables : goal.returns-clause-variables
returns-clause-variables c =
    let k = pair_facts c.args.b.now c.args.c.now c.head.result.now c.head-2.result.now c.cofactors-of_b.result.0 c.cofactors-of_b.result.1 c.requires
    c.head.ensures.marked c.head.ensures.value c.head-2.ensures.value c.cofactors-of_b.ensures in
    pair_variables c.args.b.now c.args.c.now _ _ c.one-one.result c.terms-2.result.now (dividend_of c.subtract.new.self) (dividend_of c.subtract-2.new.self)
    c.one-one.ensures k c.head.ensures.marked c.in_ok-subtract-2.ensures
