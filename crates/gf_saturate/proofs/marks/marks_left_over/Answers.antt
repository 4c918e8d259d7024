use Rattle.gf_saturate.proofs.MarkLaws.{free_narrowed}
use Rattle.gf_saturate.proofs.marks.marks_left_over.Goals as goal

pub returns-clause-covers : goal.returns-clause-covers
returns-clause-covers c = free_narrowed c.args.n c.args.items.now c.free_marks-all.result c.narrowed.result c.narrowed.ensures c.free_marks-all.ensures.covers
