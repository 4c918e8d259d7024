use Rattle.std.proofs.Common.{length, refl}
use Rattle.gf_division.specs.Dividends.{split_of}
use Rattle.gf_division.proofs.DividendLaws.{shorter}
use Rattle.gf_lifts.proofs.TopLaws.{first_width, seeking_more}
use Rattle.gf_lifts.proofs.tops.seek_strand.Goals as goal

pub reducer_on_strand-requires-clause-same_length : goal.reducer_on_strand-requires-clause-same_length
reducer_on_strand-requires-clause-same_length c = first_width (length c.args.normal.now) (split_of c.args.rest.now) (split_of c.terms.rest)
    c.in-Some.t.now c.in-Some.ensures c.terms.invariant

pub terms-smaller : goal.terms-smaller
terms-smaller c = shorter (split_of c.terms.rest) (split_of c.advance.new.self) c.terms.rest.below.items c.advance.new.self.below.items refl refl
    c.in-Ok.ensures

pub terms-preserved : goal.terms-preserved
terms-preserved c = seeking_more (length c.args.normal.now) (split_of c.args.rest.now) (split_of c.terms.rest) (split_of c.advance.new.self)
    c.in-Ok.ensures c.terms.invariant
