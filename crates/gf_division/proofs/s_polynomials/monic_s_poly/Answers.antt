use Rattle.std.proofs.Common.{refl, sym, ◌∙◌, subst}
use Rattle.std.proofs.lemmas.Result.{err_from_is_err_and}
use Rattle.gf_frac.specs.Fraction.{Fraction}
use Rattle.gf_frac.proofs.FractionLaws.{zero-not-one}
use Rattle.gf_poly.specs.Polynomial.{IsDescending}
use Rattle.gf_division.specs.Dividends.{split_of, joined_terms, Subtracts, IsSubtractionRefusal}
use Rattle.gf_division.proofs.SPolynomialLaws.{multiple_length, pair_facts, left_variables, right_variables, left_sound, over_start, s_value, s_variables}
use Rattle.gf_division.proofs.SPolynomialLaws.{left_refused, s_refused}
use Rattle.gf_division.proofs.s_polynomials.monic_s_poly.Goals as goal

pub cofactors-of_b-requires : goal.cofactors-of_b-requires
cofactors-of_b-requires c = multiple_length c.args.b.now c.args.c.now c.head.result.now c.head-2.result.now c.requires.variables c.head.ensures.marked
    c.head-2.ensures.marked c.head.ensures.value c.head-2.ensures.value

pub raised-requires : goal.raised-requires
raised-requires c =
    let k = pair_facts c.args.b.now c.args.c.now c.head.result.now c.head-2.result.now c.cofactors-of_b.result.0 c.cofactors-of_b.result.1 c.requires.variables
    c.head.ensures.marked c.head.ensures.value c.head-2.ensures.value c.cofactors-of_b.ensures in
    left_variables c.args.b.now c.args.c.now _ _ c.poly.result.now c.poly.ensures k

pub returns-in_err-raised-clause-cause : goal.returns-in_err-raised-clause-cause
returns-in_err-raised-clause-cause c =
    let k = pair_facts c.args.b.now c.args.c.now c.head.result.now c.head-2.result.now c.cofactors-of_b.result.0 c.cofactors-of_b.result.1 c.requires.variables
    c.head.ensures.marked c.head.ensures.value c.head-2.ensures.value c.cofactors-of_b.ensures in
    let p = err_from_is_err_and c.from_residual.result c.from_residual.ensures.1 in
    rw (p.1, p.2) (left_refused c.args.b.now c.args.c.now _ _ c.poly.result.now c.in_err-raised.field-0.0 c.poly.ensures k c.in_err-raised.ensures.cause)

pub subtract-requires-clause-sound : goal.subtract-requires-clause-sound
subtract-requires-clause-sound c =
    let k = pair_facts c.args.b.now c.args.c.now c.head.result.now c.head-2.result.now c.cofactors-of_b.result.0 c.cofactors-of_b.result.1 c.requires.variables
    c.head.ensures.marked c.head.ensures.value c.head-2.ensures.value c.cofactors-of_b.ensures in
    left_sound c.args.b.now c.args.c.now _ _ c.poly.result.now c.in_ok-raised.field-0 (split_of c.new-rest.result) c.poly.ensures k c.in_ok-raised.ensures.value
    c.new-rest.ensures.value

pub subtract-requires-clause-variables : goal.subtract-requires-clause-variables
subtract-requires-clause-variables c =
    let k = pair_facts c.args.b.now c.args.c.now c.head.result.now c.head-2.result.now c.cofactors-of_b.result.0 c.cofactors-of_b.result.1 c.requires.variables
    c.head.ensures.marked c.head.ensures.value c.head-2.ensures.value c.cofactors-of_b.ensures in
    right_variables c.args.b.now c.args.c.now _ _ c.terms.result.now (c.terms.ensures.value ∙ c.poly-2.ensures) k

pub subtract-requires-clause-over : goal.subtract-requires-clause-over
subtract-requires-clause-over c = over_start _ c.terms.result.now c.in_ok-raised.field-0 c.new-rest.result.above.items (split_of c.new-rest.result)
    c.new-rest.ensures.value refl

pub subtract-requires-clause-nonzero : goal.subtract-requires-clause-nonzero
subtract-requires-clause-nonzero c = λ z. zero-not-one (sym z ∙ c.one.ensures)

pub returns-in_err-subtract-clause-cause : goal.returns-in_err-subtract-clause-cause
returns-in_err-subtract-clause-cause c =
    let k = pair_facts c.args.b.now c.args.c.now c.head.result.now c.head-2.result.now c.cofactors-of_b.result.0 c.cofactors-of_b.result.1 c.requires.variables
    c.head.ensures.marked c.head.ensures.value c.head-2.ensures.value c.cofactors-of_b.ensures in
    let r = subst (λ (a : Fraction). IsSubtractionRefusal (joined_terms (split_of c.new-rest.result)) a c.cofactors-of_b.result.1 c.terms.result.now
    c.in_err-subtract.field-0.0) c.one.ensures c.in_err-subtract.ensures.cause in
    let p = err_from_is_err_and c.from_residual-in_err-subtract.result c.from_residual-in_err-subtract.ensures.1 in
    rw (p.1, p.2) (s_refused c.args.b.now c.args.c.now _ _ c.poly.result.now c.terms.result.now c.in_ok-raised.field-0 (split_of c.new-rest.result)
    c.in_err-subtract.field-0.0 c.poly.ensures (c.terms.ensures.value ∙ c.poly-2.ensures) (subst IsDescending (sym c.terms.ensures.value)
    c.terms.ensures.descending) k c.in_ok-raised.ensures.value c.new-rest.ensures.value r)

pub returns-clause-value : goal.returns-clause-value
returns-clause-value c =
    let k = pair_facts c.args.b.now c.args.c.now c.head.result.now c.head-2.result.now c.cofactors-of_b.result.0 c.cofactors-of_b.result.1 c.requires.variables
    c.head.ensures.marked c.head.ensures.value c.head-2.ensures.value c.cofactors-of_b.ensures in
    let d = subst (λ (a : Fraction). Subtracts a c.cofactors-of_b.result.1 c.terms.result.now (split_of c.new-rest.result) (split_of c.subtract.new.self))
    c.one.ensures c.in_ok-subtract.ensures.ok in
    s_value c.args.b.now c.args.c.now _ _ c.poly.result.now c.terms.result.now c.in_ok-raised.field-0 c.in_ok-into_poly.field-0 (split_of c.new-rest.result)
    (split_of c.subtract.new.self) c.poly.ensures (c.terms.ensures.value ∙ c.poly-2.ensures) k c.in_ok-raised.ensures.value c.new-rest.ensures.value d
    c.in_ok-into_poly.ensures

pub returns-clause-variables : goal.returns-clause-variables
returns-clause-variables c =
    let k = pair_facts c.args.b.now c.args.c.now c.head.result.now c.head-2.result.now c.cofactors-of_b.result.0 c.cofactors-of_b.result.1 c.requires.variables
    c.head.ensures.marked c.head.ensures.value c.head-2.ensures.value c.cofactors-of_b.ensures in
    let d = subst (λ (a : Fraction). Subtracts a c.cofactors-of_b.result.1 c.terms.result.now (split_of c.new-rest.result) (split_of c.subtract.new.self))
    c.one.ensures c.in_ok-subtract.ensures.ok in
    s_variables c.args.b.now c.args.c.now _ _ c.terms.result.now c.in_ok-into_poly.field-0 (split_of c.new-rest.result) (split_of c.subtract.new.self)
    k c.head.ensures.marked d c.in_ok-into_poly.ensures
