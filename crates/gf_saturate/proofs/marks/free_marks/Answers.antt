use Rattle.std.proofs.Common.{rules, ◌≡◌, ◌+◌, ◌==◌, false, length, take, sym, subst, ap, ◌∙◌}
use Rattle.gf_exponents_theory.specs.Exponents.{entry, join}
use Rattle.gf_poly.specs.Marking.{MarkedPolynomial}
use Rattle.gf_poly.proofs.MonomialLaws.{length-join}
use Rattle.gf_saturate.specs.Marks.{CoverFreeHeads}
use Rattle.gf_saturate.proofs.StepLaws.{contains_at}
use Rattle.gf_saturate.proofs.MarkLaws.{free_more, free_skip, free_all}
use Rattle.gf_saturate.proofs.marks.free_marks.Goals as goal
use Rattle.gf_saturate.proofs.marks.free_marks.Goals.{then-is_free, else-is_free}

pub is_free-requires : goal.is_free-requires
is_free-requires c =
    c.requires.heads c.index-items-i.result (contains_at c.args.items.now c.members.i c.index-items-i.result c.members-test.true c.index-items-i.is)

pub lcm-all-requires : goal.lcm-all-requires
lcm-all-requires c =
    let b : MarkedPolynomial = c.index-items-i.result in
    c.members.invariant.0 ∙ sym (ap length c.head.ensures.value ∙ c.requires.heads b
    (contains_at c.args.items.now c.members.i b c.members-test.true c.index-items-i.is))

pub members-preserved : goal.members-preserved
members-preserved c =
    let b : MarkedPolynomial = c.index-items-i.result in
    let long : length b.head ≡ c.args.n + 1 = c.requires.heads b (contains_at c.args.items.now c.members.i b c.members-test.true c.index-items-i.is) in
    elim c.if-is_free.branch [
      | then-is_free w ↦ (
          let is : c.if-is_free.all ≡ join c.members.all b.head = w.all-is ∙ w.lcm-all.ensures ∙ ap (join c.members.all) w.head.ensures.value in (
            ap length is ∙ length-join c.members.all b.head (c.members.invariant.0 ∙ sym long) ∙ c.members.invariant.0,
            subst (CoverFreeHeads c.args.n (take (c.members.i + 1) c.args.items.now)) (sym is)
                (free_more c.args.n c.args.items.now c.members.i b c.members.all c.members-test.true c.index-items-i.is c.members.invariant.1),
          ))
      | else-is_free w ↦ (
          let e : (entry b.head c.args.n == 0) ≡ false = search rules in (
            ap length w.all-is ∙ c.members.invariant.0,
            subst (CoverFreeHeads c.args.n (take (c.members.i + 1) c.args.items.now)) (sym w.all-is)
                (free_skip c.args.n c.args.items.now c.members.i b c.members.all c.members-test.true c.index-items-i.is e c.members.invariant.1),
          ))
    ]

pub returns-clause-covers : goal.returns-clause-covers
returns-clause-covers c = free_all c.args.n c.args.items.now c.members.i c.members.all c.members-test.false c.members.invariant.1
