use Rattle.std.proofs.lemmas.Result.{err_from_is_err_and}
use Rattle.gf_division.proofs.QuotientLaws.{summing-more, next_whole, sum_refused}
use Rattle.gf_division.proofs.divisions.sums.Goals as goal

pub returns-in_err-cofactor-clause-cause : goal.returns-in_err-cofactor-clause-cause
returns-in_err-cofactor-clause-cause c =
    let p = err_from_is_err_and c.from_residual-in_err-cofactor.result c.from_residual-in_err-cofactor.ensures.1 in
    rw (p.1, p.2) (sum_refused c.members.yielded c.members.list-iterator.rest.items c.next.new.self.rest.items c.args.lists.items c.in-Some.list
    c.in_err-cofactor.field-0.0 c.in-Some.ensures.steps.0 c.members.invariant.1 c.in_err-cofactor.ensures.cause)

pub members-preserved : goal.members-preserved
members-preserved c = (
  summing-more c.members.yielded c.in-Some.list c.members.cofactors.items c.push.new.self.items c.in_ok-cofactor.cofactor c.in_ok-cofactor.ensures.value
      c.in_ok-cofactor.ensures.descending c.in_ok-cofactor.ensures.variables c.in_ok-push.ensures.items c.members.invariant.0,
  next_whole c.members.yielded c.members.list-iterator.rest.items c.next.new.self.rest.items c.args.lists.items c.in-Some.list c.in-Some.ensures.steps.0
      c.members.invariant.1,
)
