use Rattle.gf_buchberger.proofs.second_run.by_second_run.Goals as goal

pub is_by_degree-requires : goal.is_by_degree-requires
is_by_degree-requires c = c.requires.good.entries
