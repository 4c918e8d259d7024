use Rattle.gf_wide_division.specs.Dividends.{dividend_of}
use Rattle.gf_wide_division.proofs.RemainderLaws.{whole_worked, whole_shares}
use Rattle.gf_wide_division.proofs.remainders.worked_off.Goals as goal

pub into_poly-left-requires : goal.into_poly-left-requires
into_poly-left-requires c = c.in_ok-through.ensures.variables.sound.descending

pub is_irreducible-requires : goal.is_irreducible-requires
is_irreducible-requires c = whole_shares c.args.by.now c.args.spared.now (dividend_of c.args.start) (dividend_of c.through.new.rest)
    c.into_poly-left.result c.into_poly-left.ensures c.in_ok-through.ensures

pub returns-then-is_irreducible-clause-worked : goal.returns-then-is_irreducible-clause-worked
returns-then-is_irreducible-clause-worked c = whole_worked c.args.by.now c.args.spared.now (dividend_of c.args.start) (dividend_of c.through.new.rest)
    c.into_poly-left.result c.into_poly-left.ensures c.in_ok-through.ensures
