use Rattle.std.proofs.Common.{refl, subst}
use Rattle.gf_division.specs.Dividends.{Split, split_of}
use Rattle.gf_division.specs.Remainders.{IsWorkedOn}
use Rattle.gf_division.proofs.RemainderLaws.{work_follows, refusal_follows}
use Rattle.gf_division.proofs.remainders.shortened.Goals as goal

pub returns-then-branch-clause-worked : goal.returns-then-branch-clause-worked
returns-then-branch-clause-worked c =
    let h = subst (λ (s : Split). IsWorkedOn c.args.by.now c.args.spared.now s (split_of c.while_near.new.rest))
    c.in_ok-watch.ensures c.in_ok-while_near.ensures.worked in
    work_follows c.args.by.now c.args.spared.now (split_of c.args.rest.now) (split_of c.while_near.new.rest) (split_of c.while_near.new.rest)
    (split_of c.by_table.new.rest) c.by_table.result refl h c.by_table.ensures.worked

pub returns-then-branch-clause-cause : goal.returns-then-branch-clause-cause
returns-then-branch-clause-cause c =
    let h = subst (λ (s : Split). IsWorkedOn c.args.by.now c.args.spared.now s (split_of c.while_near.new.rest))
    c.in_ok-watch.ensures c.in_ok-while_near.ensures.worked in
    refusal_follows c.args.by.now c.args.spared.now (split_of c.args.rest.now) (split_of c.while_near.new.rest) (split_of c.while_near.new.rest)
    c.by_table.result refl h c.by_table.ensures.cause
