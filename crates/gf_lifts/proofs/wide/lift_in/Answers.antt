use Rattle.std.proofs.Common.{Contains, sym, ap, ◌∙◌, subst}
use Rattle.gf_poly.specs.Marking.{MarkedPolynomial}
use Rattle.gf_division.proofs.ReducerLaws.{member_at, members_equal}
use Rattle.gf_lifts.proofs.wide.lift_in.Goals as goal

pub returns : goal.returns
returns c = (
  ap (λ (z : MarkedPolynomial). z.head) c.in_ok-lift.ensures
      ∙ ap (λ (z : MarkedPolynomial). z.head) (members_equal c.args.done.now c.in-Some.j c.index-done-j.result c.in-Some.ensures.member
      (member_at c.args.done.now c.in-Some.j c.index-done-j.result c.in-Some.ensures.at.within c.index-done-j.is) c.in-Some.ensures.at)
      ∙ c.in-Some.ensures.head ∙ c.head.ensures.value,
  subst (Contains c.args.done.now) (sym c.in_ok-lift.ensures) (c.in-Some.j, c.in-Some.ensures.at.within, sym c.index-done-j.is),
)
