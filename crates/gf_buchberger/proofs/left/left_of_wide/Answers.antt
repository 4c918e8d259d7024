use Rattle.std.proofs.Common.{refl}
use Rattle.gf_buchberger.proofs.AppendLaws.{wide_member}
use Rattle.gf_buchberger.proofs.LeadingLaws.{some_left}
use Rattle.gf_buchberger.proofs.left.left_of_wide.Goals as goal

pub leading_of_wide-at-requires-clause-some : goal.leading_of_wide-at-requires-clause-some
leading_of_wide-at-requires-clause-some c = some_left c.args.r.now c.args.r.now refl (λ z. let q = c.is_zero.ensures.1 z in cc)

pub returns : goal.returns
returns c = (
  λ z. (let q = c.is_zero.ensures.1 z in cc),
  wide_member c.args.order.now c.args.r.now c.in_ok-member.member c.leading_of_wide-at.result c.requires
      c.in_ok-member.ensures.descending c.leading_of_wide-at.ensures.inside c.leading_of_wide-at.ensures.greatest c.in_ok-member.ensures.monic,
)
