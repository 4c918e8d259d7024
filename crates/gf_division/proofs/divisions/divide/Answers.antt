use Rattle.std.proofs.lemmas.Result.{err_from_is_err_and}
use Rattle.gf_division.specs.Divisions.{lists_of}
use Rattle.gf_division.proofs.NormalFormLaws.{some_weight, same_variables}
use Rattle.gf_division.proofs.DivisionLaws.{sum_at, indices_at, forms_at, variables_at, sums_refused}
use Rattle.gf_division.proofs.divisions.divide.Goals as goal

pub divided-requires-clause-marked : goal.divided-requires-clause-marked
divided-requires-clause-marked c = some_weight _ _ _ c.items.ensures.value c.requires.marked

pub divided-requires-clause-variables : goal.divided-requires-clause-variables
divided-requires-clause-variables c = same_variables _ _ _ _ _ c.in_ok-copy.ensures c.items.ensures.value c.requires.variables c.items.ensures.variables

pub returns-in_err-sums-clause-cause : goal.returns-in_err-sums-clause-cause
returns-in_err-sums-clause-cause c =
    let p = err_from_is_err_and c.from_residual-in_err-sums.result c.from_residual-in_err-sums.ensures.1 in
    rw (p.1, p.2) (sums_refused c.args.by.now.items c.items.result.now c.args.f.now c.in_ok-copy.field-0 c.in_ok-remainder.remainder
    (lists_of c.in_ok-remainder.quotients.items) c.in_err-sums.field-0.0 c.items.ensures.value c.in_ok-copy.ensures c.in_ok-remainder.ensures.quotients
    c.in_err-sums.ensures.cause)

pub returns-clause-sum : goal.returns-clause-sum
returns-clause-sum c = sum_at c.args.by.now.items c.items.result.now c.args.f.now c.in_ok-copy.field-0 c.in_ok-remainder.remainder
    (lists_of c.in_ok-remainder.quotients.items) c.in_ok-sums.field-0.items c.new-cofactors.result c.items.ensures.value c.in_ok-copy.ensures
    c.new-cofactors.ensures c.in_ok-remainder.ensures.quotients c.in_ok-sums.ensures.value

pub returns-clause-variables : goal.returns-clause-variables
returns-clause-variables c = variables_at c.args.by.now.variables c.args.f.now c.in_ok-copy.field-0 c.in_ok-remainder.remainder c.in_ok-copy.ensures
    c.requires.variables c.in_ok-remainder.ensures.variables

pub returns-clause-indices : goal.returns-clause-indices
returns-clause-indices c = indices_at c.args.by.now.items c.items.result.now c.args.f.now c.in_ok-copy.field-0 c.in_ok-remainder.remainder
    (lists_of c.in_ok-remainder.quotients.items) c.in_ok-sums.field-0.items c.new-cofactors.result c.items.ensures.value c.in_ok-copy.ensures
    c.new-cofactors.ensures c.in_ok-remainder.ensures.quotients c.in_ok-sums.ensures.value

pub returns-clause-forms : goal.returns-clause-forms
returns-clause-forms c = forms_at c.args.by.now.variables c.args.f.now c.in_ok-copy.field-0 (lists_of c.in_ok-remainder.quotients.items)
    c.in_ok-sums.field-0.items c.new-cofactors.result c.in_ok-copy.ensures c.new-cofactors.ensures c.requires.variables c.in_ok-remainder.ensures.forms
    c.in_ok-sums.ensures.forms
