use Rattle.std.proofs.Common.{◌+◌, List, Contains, take, sym, subst}
use Rattle.gf_poly.specs.Marking.{MarkedPolynomial}
use Rattle.gf_saturate.specs.Graded.{AreDividedMembers}
use Rattle.gf_saturate.proofs.StepLaws.{contains_at}
use Rattle.gf_saturate.proofs.GradedLaws.{divided_more, divided_all}
use Rattle.gf_saturate.proofs.graded.divided_members.Goals as goal

pub divided_member-requires-clause-some : goal.divided_member-requires-clause-some
divided_member-requires-clause-some c =
    (c.requires.members c.index-items-i.result (subst (λ (z : List MarkedPolynomial). Contains z c.index-items-i.result) c.items-items.ensures.value
    (contains_at c.items-items.result.now c.members.i c.index-items-i.result c.members-test.true c.index-items-i.is))).0

pub divided_member-requires-clause-variables : goal.divided_member-requires-clause-variables
divided_member-requires-clause-variables c =
    (c.requires.members c.index-items-i.result (subst (λ (z : List MarkedPolynomial). Contains z c.index-items-i.result) c.items-items.ensures.value
    (contains_at c.items-items.result.now c.members.i c.index-items-i.result c.members-test.true c.index-items-i.is))).1

pub divided_member-requires-clause-head : goal.divided_member-requires-clause-head
divided_member-requires-clause-head c =
    (c.requires.members c.index-items-i.result (subst (λ (z : List MarkedPolynomial). Contains z c.index-items-i.result) c.items-items.ensures.value
    (contains_at c.items-items.result.now c.members.i c.index-items-i.result c.members-test.true c.index-items-i.is))).2

pub members-preserved : goal.members-preserved
members-preserved c =
    subst (AreDividedMembers c.args.n c.args.k (take (c.members.i + 1) c.items-items.result.now)) (sym c.in_ok-push.ensures.items)
    (divided_more c.args.n c.args.k c.items-items.result.now c.members.i c.index-items-i.result c.members.all.items c.in-Some.h c.members-test.true
    c.index-items-i.is c.members.invariant c.in-Some.ensures)

pub returns : goal.returns
returns c =
    subst (λ (bs : List MarkedPolynomial). AreDividedMembers c.args.n c.args.k bs c.members.all.items) c.items-items.ensures.value
    (divided_all c.args.n c.args.k c.items-items.result.now c.members.i c.members.all.items c.members-test.false c.members.invariant)
