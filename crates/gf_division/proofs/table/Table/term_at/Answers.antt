use Rattle.std.proofs.Common.{sym, ◌∙◌}
use Rattle.gf_division.proofs.TableLaws.{cut_at}
use Rattle.gf_division.proofs.table.Table.term_at.Goals as goal

pub returns-in-Some : goal.returns-in-Some
returns-in-Some c = cut_at (record { mono = c.args.x }) c.args.self.now.entries.entries c.in-Some.coef c.requires (sym c.coefficient.ensures ∙ c.in-Some.is)
