use Rattle.std.proofs.Common.{◌∙◌}
use Rattle.gf_text.proofs.printer.Printer.vector.Goals as goal

pub returns-clause-ok : goal.returns-clause-ok
returns-clause-ok c = c.settled.ensures.ok c.args.out.now.items _ _ _ c.write_vector-written.ensures

pub returns-clause-err : goal.returns-clause-err
returns-clause-err c = c.settled.ensures.err c.args.out.now.items _ _ _ (c.len-before.ensures ∙ c.args.out.now.ok.0) c.write_vector-written.ensures
