use Rattle.gf_division.specs.Tables.{table_of}
use Rattle.gf_division.proofs.SubtractionLaws.{Subtracting}
use Rattle.gf_division.proofs.table.Table.subtract.Given as goal

abbrev pub invariant-terms : goal.invariant-terms
invariant-terms l = Subtracting l.coef l.shift l.terms (table_of l.initial.self) (table_of l.self) l.i
