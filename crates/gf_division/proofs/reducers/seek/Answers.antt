use Rattle.gf_division.specs.Dividends.{split_of}
use Rattle.gf_division.proofs.ReducerLaws.{seeking-more, first_members, first_spare}
use Rattle.gf_division.proofs.reducers.seek.Goals as goal

pub reducer_of-requires-clause-members : goal.reducer_of-requires-clause-members
reducer_of-requires-clause-members c = first_members (split_of c.terms.rest) c.args.by.now c.args.spared.now c.in-Some.t.now c.terms.invariant.variables
    c.in-Some.ensures

pub reducer_of-requires-clause-spare : goal.reducer_of-requires-clause-spare
reducer_of-requires-clause-spare c = first_spare (split_of c.terms.rest) c.args.by.now c.args.spared.now c.in-Some.t.now c.terms.invariant.variables
    c.in-Some.ensures

pub terms-preserved : goal.terms-preserved
terms-preserved c = seeking-more c.args.by.now c.args.spared.now (split_of c.args.rest.now) (split_of c.terms.rest) (split_of c.advance.new.self)
    c.in-Some.t.now c.in-Some.ensures c.in-None.ensures.none c.in_ok-advance-in-None.ensures c.terms.invariant
