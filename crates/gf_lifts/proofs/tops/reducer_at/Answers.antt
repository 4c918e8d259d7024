use Rattle.std.proofs.Common.{length}
use Rattle.gf_division.specs.Dividends.{split_of}
use Rattle.gf_division.proofs.DividendLaws.{first_length}
use Rattle.gf_division.proofs.RuleLaws.{sound_same}
use Rattle.gf_lifts.proofs.TopLaws.{reducible_there}
use Rattle.gf_lifts.proofs.tops.reducer_at.Goals as goal

pub reducer_on_strand-requires-clause-same_length : goal.reducer_on_strand-requires-clause-same_length
reducer_on_strand-requires-clause-same_length c = first_length (length c.args.normal.now) (split_of c.go_to.new.self) c.in_ok-t.t.now
    (sound_same (length c.args.normal.now) (split_of c.args.rest.now) (split_of c.go_to.new.self) c.in-Ok-Equal.ensures c.requires.sound) c.in_ok-t.ensures

pub returns-clause-found : goal.returns-clause-found
returns-clause-found c = reducible_there c.args.by.now (split_of c.go_to.new.self) c.in_ok-t.t.now c.reducer_on_strand.result c.in_ok-t.ensures
    c.exponents.ensures.valid c.reducer_on_strand.ensures
