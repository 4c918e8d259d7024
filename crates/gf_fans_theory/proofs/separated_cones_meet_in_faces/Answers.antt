use Rattle.gf_fans_theory.proofs.LawsHold.{separated_cones_meet_in_faces}
use Rattle.gf_fans_theory.proofs.separated_cones_meet_in_faces.Goals as goal

pub returns : goal.returns
returns c = separated_cones_meet_in_faces
