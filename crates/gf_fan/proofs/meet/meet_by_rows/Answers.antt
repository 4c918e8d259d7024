use Rattle.gf_fan.proofs.PairLaws.{rays_of_rows}
use Rattle.gf_fan.proofs.meet.meet_by_rows.Goals as goal

pub returns-clause-rays : goal.returns-clause-rays
returns-clause-rays c = rays_of_rows c.args.n c.as_slice.result.now c.as_slice-2.result.now c.of.result c.of.ensures.rows c.of.ensures.rays
