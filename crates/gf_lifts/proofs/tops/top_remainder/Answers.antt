use Rattle.std.proofs.Common.{None, length, subst}
use Rattle.gf_division.specs.Dividends.{split_of}
use Rattle.gf_division.specs.Reducers.{IsSought}
use Rattle.gf_lifts.proofs.TopLaws.{topping-none, topping_shares, topping_more, left_variables, top_remainder_at}
use Rattle.gf_lifts.proofs.tops.top_remainder.Goals as goal

pub steps-init : goal.steps-init
steps-init c = topping-none (length c.args.normal.now) c.args.by.now c.args.f (split_of c.new-rest.result) c.requires.poly c.new-rest.ensures.descending
    c.new-rest.ensures.value

pub stride-requires-clause-variables : goal.stride-requires-clause-variables
stride-requires-clause-variables c = topping_shares (length c.args.normal.now) c.args.by.now c.args.f (split_of c.steps.rest) (split_of c.seek.new.rest)
    c.in_ok-j.ensures.same c.requires.members c.steps.invariant

pub stride-requires-clause-found : goal.stride-requires-clause-found
stride-requires-clause-found c = subst (IsSought c.args.by.now None (split_of c.seek.new.rest)) c.in-Some.is c.in_ok-j.ensures.found

pub steps-preserved : goal.steps-preserved
steps-preserved c = topping_more (length c.args.normal.now) c.args.by.now c.args.f (split_of c.steps.rest) (split_of c.seek.new.rest)
    (split_of c.stride.new.rest) c.in_ok-j.ensures.same c.steps.invariant c.in-Ok.ensures.worked

pub is_off-requires-clause-terms : goal.is_off-requires-clause-terms
is_off-requires-clause-terms c = left_variables (length c.args.normal.now) c.args.by.now c.args.f c.in-Ok-into_poly.left c.terms.result.now
    (split_of c.steps.rest) (split_of c.seek.new.rest) c.in_ok-j.ensures.same c.in-Ok-into_poly.ensures c.terms.ensures.value c.steps.invariant

pub returns : goal.returns
returns c = top_remainder_at (length c.args.normal.now) c.args.by.now c.args.normal.now c.args.x.now c.args.f c.in-Ok-into_poly.left c.terms.result.now
    (split_of c.steps.rest) (split_of c.seek.new.rest) c.in_ok-j.ensures.same c.in-Ok-into_poly.ensures c.terms.ensures.value
    (c.is_off.ensures c.if-not-is_off.false) c.steps.invariant
