use Rattle.gf_wide_division.proofs.RemainderLaws.{term_members, term_spare, irreducible_more, irreducible_all}
use Rattle.gf_wide_division.proofs.remainders.is_irreducible.Goals as goal

pub reducer_of-requires-clause-members : goal.reducer_of-requires-clause-members
reducer_of-requires-clause-members c = term_members c.args.by.now c.args.spared.now c.terms-terms.result.now c.args.f.now c.terms.i c.index-terms-i.result
    c.terms-terms.ensures.value c.terms-test.true c.index-terms-i.is c.requires

pub reducer_of-requires-clause-spare : goal.reducer_of-requires-clause-spare
reducer_of-requires-clause-spare c = term_spare c.args.by.now c.args.spared.now c.terms-terms.result.now c.args.f.now c.terms.i c.index-terms-i.result
    c.terms-terms.ensures.value c.terms-test.true c.index-terms-i.is c.requires

pub terms-preserved : goal.terms-preserved
terms-preserved c = irreducible_more c.args.by.now c.args.spared.now c.terms-terms.result.now c.terms.i c.index-terms-i.result c.terms-test.true
    c.index-terms-i.is c.in-None.ensures.none c.terms.invariant

pub returns : goal.returns
returns c = λ _. irreducible_all c.args.by.now c.args.spared.now c.terms-terms.result.now c.args.f.now c.terms.i c.terms-terms.ensures.value c.terms-test.false
    c.terms.invariant
