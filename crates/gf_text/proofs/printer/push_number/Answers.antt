use Rattle.gf_text.proofs.printer.push_number.Goals as goal

pub returns : goal.returns
returns c = c.settled.ensures.ok c.args.out.now.items _ _ _ c.write_number-written.ensures
