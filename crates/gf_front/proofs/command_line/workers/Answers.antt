use Rattle.std.specs.Prelude.{codes}
use Rattle.std.proofs.Common.{arith}
use Rattle.clap.specs.Words.{found_of, rows_of}
use Rattle.gf_front.specs.Table.{most_workers}
use Rattle.gf_front.proofs.OptionLaws.{number_within}
use Rattle.gf_front.proofs.command_line.workers.Goals as goal

pub overflow_cast-result : goal.overflow_cast-result
overflow_cast-result c =
    let e = c.number-number.ensures in
    let w = number_within (codes "workers") 1 most_workers 1 (rows_of (found_of c.args.found.now)) c.requires.1 (omega arith) (omega arith) in
    omega (arith, e, w.1)
