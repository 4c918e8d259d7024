use Rattle.std.proofs.Common.{sym}
use Rattle.gf_text.proofs.combine.Sums.add_read.Goals as goal

pub returns-in-Some : goal.returns-in-Some
returns-in-Some c = rw (c.in-Some.ensures, sym c.as_slice.ensures) c.add.ensures
