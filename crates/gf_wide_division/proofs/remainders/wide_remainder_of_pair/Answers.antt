use Rattle.gf_wide_division.specs.Dividends.{dividend_of}
use Rattle.gf_wide_division.proofs.RemainderLaws.{pair_shares, if_pair_remainder}
use Rattle.gf_wide_division.proofs.remainders.wide_remainder_of_pair.Goals as goal

pub of_pair-requires : goal.of_pair-requires
of_pair-requires c = record { n = c.requires.variables.n; are = c.requires.variables.pair }

pub worked_off-requires-clause-variables : goal.worked_off-requires-clause-variables
worked_off-requires-clause-variables c = pair_shares c.args.by.now c.args.b.now c.args.c.now (dividend_of c.in_ok-rest.rest)
    c.requires.variables c.in_ok-rest.ensures.descending c.in_ok-rest.ensures.variables

pub returns : goal.returns
returns c =
    if_pair_remainder c.args.by.now c.requires.marked.0 c.args.b.now c.args.c.now
    (dividend_of c.in_ok-rest.rest) c.worked_off.result c.requires.marked.1 c.in_ok-rest.ensures.value c.in_ok-rest.ensures.variables c.worked_off.ensures.done
    c.worked_off.ensures.worked
