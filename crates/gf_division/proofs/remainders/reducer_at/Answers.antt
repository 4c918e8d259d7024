use Rattle.gf_division.specs.Dividends.{split_of}
use Rattle.gf_division.proofs.ReducerLaws.{first_members, first_spare}
use Rattle.gf_division.proofs.RuleLaws.{share_along}
use Rattle.gf_division.proofs.RemainderLaws.{reducible_first}
use Rattle.gf_division.proofs.remainders.reducer_at.Goals as goal

pub reducer_of-requires-clause-members : goal.reducer_of-requires-clause-members
reducer_of-requires-clause-members c = first_members (split_of c.go_to.new.self) c.args.by.now c.args.spared.now c.in-Some.t.now
    (share_along (split_of c.args.rest.now) (split_of c.go_to.new.self) c.args.by.now c.args.spared.now c.in_ok-go_to.ensures c.requires.variables)
    c.in-Some.ensures

pub reducer_of-requires-clause-spare : goal.reducer_of-requires-clause-spare
reducer_of-requires-clause-spare c = first_spare (split_of c.go_to.new.self) c.args.by.now c.args.spared.now c.in-Some.t.now
    (share_along (split_of c.args.rest.now) (split_of c.go_to.new.self) c.args.by.now c.args.spared.now c.in_ok-go_to.ensures c.requires.variables)
    c.in-Some.ensures

pub returns-in-Some-clause-found : goal.returns-in-Some-clause-found
returns-in-Some-clause-found c = reducible_first c.args.by.now c.args.spared.now (split_of c.go_to.new.self) c.in-Some.t.now c.reducer_of.result
    c.in-Some.ensures c.exponents.ensures.valid c.reducer_of.ensures.found c.reducer_of.ensures.beside
