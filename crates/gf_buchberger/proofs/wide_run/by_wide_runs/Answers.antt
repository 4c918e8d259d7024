use Rattle.std.proofs.Common.{rules, ◌≡◌, true}
use Rattle.gf_buchberger.specs.Bases.{is_of_numbers}
use Rattle.gf_buchberger.proofs.RuledLaws.{not_of_numbers}
use Rattle.gf_buchberger.proofs.wide_run.by_wide_runs.Goals as goal

pub returns-clause-complete_by_rule : goal.returns-clause-complete_by_rule
returns-clause-complete_by_rule c =
    λ w. (let t : is_of_numbers c.in-Err-by_degree.refusal ≡ true = search rules in
    absurd (not_of_numbers _ _ _ _ c.in-Err-by_degree.refusal w c.in-Err-by_degree.ensures.by_rule t))
