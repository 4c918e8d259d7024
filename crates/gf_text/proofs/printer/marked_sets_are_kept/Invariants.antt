use Rattle.std.proofs.Common.{take}
use Rattle.gf_text.specs.WrittenText.{AreKept}
use Rattle.gf_text.proofs.printer.marked_sets_are_kept.Given as goal

abbrev pub invariant-items : goal.invariant-items
invariant-items l = AreKept l.set.variables (take l.marked-index l.marked-items)
