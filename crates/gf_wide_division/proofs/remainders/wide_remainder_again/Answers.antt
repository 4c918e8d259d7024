use Rattle.gf_division.proofs.RemainderLaws.{share_start}
use Rattle.gf_wide_division.specs.Dividends.{dividend_of}
use Rattle.gf_wide_division.proofs.RemainderLaws.{if_remainder, if_kept}
use Rattle.gf_wide_division.proofs.remainders.wide_remainder_again.Goals as goal

pub worked_off-requires-clause-variables : goal.worked_off-requires-clause-variables
worked_off-requires-clause-variables c = share_start c.args.f.now c.args.by.now (dividend_of c.in_ok-rest.rest)
    c.requires.variables c.in_ok-rest.ensures.descending c.in_ok-rest.ensures.value

pub returns-clause-value : goal.returns-clause-value
returns-clause-value c = if_remainder c.args.by.now c.args.f.now (dividend_of c.in_ok-rest.rest) c.worked_off.result c.in_ok-rest.ensures.value
    c.worked_off.ensures.done c.worked_off.ensures.worked

pub returns-clause-variables : goal.returns-clause-variables
returns-clause-variables c = if_kept c.args.by.now c.args.f.now (dividend_of c.in_ok-rest.rest) c.worked_off.result c.in_ok-rest.ensures.value
    c.worked_off.ensures.worked
