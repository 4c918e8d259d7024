use Rattle.std.proofs.Common.{sym, subst}
use Rattle.std.proofs.lemmas.Result.{err_from_is_err_and}
use Rattle.gf_buchberger.specs.Leading.{IsComparable}
use Rattle.gf_buchberger.proofs.AppendLaws.{append_refused, monic_member}
use Rattle.gf_buchberger.proofs.LeadingLaws.{some_left}
use Rattle.gf_buchberger.proofs.left.left_of.Goals as goal

pub leading-at-requires-clause-comparable : goal.leading-at-requires-clause-comparable
leading-at-requires-clause-comparable c = subst (IsComparable c.args.order.now) (sym c.terms.ensures.value) c.requires

pub leading-at-requires-clause-some : goal.leading-at-requires-clause-some
leading-at-requires-clause-some c = some_left c.args.r c.terms.result.now c.terms.ensures.value (λ z. let q = c.is_zero.ensures.1 z in cc)

pub returns-in_err-member-clause-cause : goal.returns-in_err-member-clause-cause
returns-in_err-member-clause-cause c =
    let p = err_from_is_err_and c.from_residual.result c.from_residual.ensures.1 in
    rw (p.1, p.2) (append_refused c.args.order.now _ _ _ _ _ c.requires c.terms.ensures.value c.terms.ensures.descending c.leading-at.ensures.inside
    c.leading-at.ensures.greatest c.mark.ensures c.in_err-member.ensures.cause)

pub returns-clause-ok : goal.returns-clause-ok
returns-clause-ok c = (
  λ z. (let q = c.is_zero.ensures.1 z in cc),
  monic_member c.args.order.now _ _ _ _ _ c.requires c.terms.ensures.value
      c.terms.ensures.descending c.leading-at.ensures.inside c.leading-at.ensures.greatest c.mark.ensures c.in_ok-member.ensures.value,
)
