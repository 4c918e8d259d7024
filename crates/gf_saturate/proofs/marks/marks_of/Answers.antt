use Rattle.std.proofs.Common.{◌≡◌, ◌+◌, length, take, sym, subst, ap, ◌∙◌}
use Rattle.gf_exponents_theory.specs.Exponents.{join}
use Rattle.gf_poly.specs.Marking.{MarkedPolynomial}
use Rattle.gf_poly.proofs.MonomialLaws.{length-join}
use Rattle.gf_saturate.specs.Marks.{CoverHeads}
use Rattle.gf_saturate.proofs.StepLaws.{contains_at}
use Rattle.gf_saturate.proofs.MarkLaws.{covers_more, covers_all}
use Rattle.gf_saturate.proofs.marks.marks_of.Goals as goal

pub lcm-all-requires : goal.lcm-all-requires
lcm-all-requires c =
    let b : MarkedPolynomial = c.index-items-i.result in
    c.members.invariant.0 ∙ sym (ap length c.head.ensures.value ∙ c.requires.heads b
    (contains_at c.args.items.now c.members.i b c.members-test.true c.index-items-i.is))

pub members-preserved : goal.members-preserved
members-preserved c =
    let b : MarkedPolynomial = c.index-items-i.result in
    let long : length b.head ≡ c.args.n = c.requires.heads b (contains_at c.args.items.now c.members.i b c.members-test.true c.index-items-i.is) in
    let is : c.lcm-all.result ≡ join c.members.all b.head = c.lcm-all.ensures ∙ ap (join c.members.all) c.head.ensures.value in (
      ap length is ∙ length-join c.members.all b.head (c.members.invariant.0 ∙ sym long) ∙ c.members.invariant.0,
      subst (CoverHeads (take (c.members.i + 1) c.args.items.now)) (sym is)
          (covers_more c.args.items.now c.members.i b c.members.all c.members-test.true c.index-items-i.is c.members.invariant.1),
    )

pub returns-clause-covers : goal.returns-clause-covers
returns-clause-covers c = covers_all c.args.items.now c.members.i c.members.all c.members-test.false c.members.invariant.1
