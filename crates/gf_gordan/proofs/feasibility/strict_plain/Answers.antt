use Rattle.gf_gordan.proofs.ThreeColumns.{not_refused}
use Rattle.gf_gordan.proofs.feasibility.strict_plain.Goals as goal

pub returns-clause-three_columns : goal.returns-clause-three_columns
returns-clause-three_columns c = not_refused _ _ _ _ _ c.requires.rows c.requires.equations c.eliminated.ensures.err
