use Rattle.std.proofs.Common.{arith, subst, ◌∙◌}
use Rattle.gf_exponents_theory.specs.Exponents.{Exponents}
use Rattle.gf_division.specs.Chains.{IsMissed}
use Rattle.gf_division.proofs.ReducerLaws.{member_at}
use Rattle.gf_division.proofs.ChainLaws.{missed-more}
use Rattle.gf_division.proofs.chains.are_missed.Goals as goal

pub members-preserved : goal.members-preserved
members-preserved c = missed-more c.args.by.now c.members.i c.index-by-i.result c.args.x.now c.args.z.now
    (member_at c.args.by.now c.members.i c.index-by-i.result (omega (arith, c.members-test.true, c.requires)) c.index-by-i.is)
    (subst (λ (m : Exponents). IsMissed m c.args.x.now c.args.z.now) (c.exponents.ensures.value ∙ c.head.ensures.value)
    (c.is_missed.ensures c.if-not-is_missed.false)) c.members.invariant
