use Rattle.gfan_theory.proofs.FlatCones.{cones_of_few_rows_fit}
use Rattle.gfan_theory.proofs.ToldLimits.{few_rows_have_room}
use Rattle.gfan_theory.proofs.cones_of_few_rows_fit.Goals as goal

pub returns-clause-cones : goal.returns-clause-cones
returns-clause-cones c = cones_of_few_rows_fit

pub returns-clause-room : goal.returns-clause-room
returns-clause-room c = few_rows_have_room
