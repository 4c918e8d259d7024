use Rattle.gf_division.proofs.TableLaws.{new_more}
use Rattle.gf_division.proofs.table.Table.new.Goals as goal

pub terms-preserved : goal.terms-preserved
terms-preserved c = new_more c.args.f c.pop.new.self.items c.terms.rest.items c.in-Some.t c.terms.entries.entries c.insert.new.self.entries
    c.into_terms-rest.ensures.descending c.in-Some.ensures.items c.terms.invariant c.in_ok-insert.ensures.entries
