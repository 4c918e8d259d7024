use Rattle.gf_division.specs.Dividends.{split_of}
use Rattle.gf_division.proofs.ChainLaws.{jump_leads, jumped-none, below_some}
use Rattle.gf_division.proofs.chains.leap.Goals as goal

pub replace_next-requires : goal.replace_next-requires
replace_next-requires c = below_some c.args.by.now c.args.spared.now (split_of c.args.rest.now) c.args.j c.requires.found

pub returns-in_ok-replace_next-in-Some : goal.returns-in_ok-replace_next-in-Some
returns-in_ok-replace_next-in-Some c = jump_leads c.args.by.now c.args.j c.args.spared.now (split_of c.args.rest.now) (split_of c.replace_next.new.self)
    c.in-Some.jump.steps c.in-Some.jump.to c.requires.variables c.requires.found c.in-Some.ensures c.in_ok-replace_next-in-Some.ensures

pub returns-in-None : goal.returns-in-None
returns-in-None c = jumped-none c.args.by.now c.args.j c.args.spared.now (split_of c.args.rest.now) c.requires.variables c.requires.found
