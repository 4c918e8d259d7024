use Rattle.gf_known_cone.proofs.shots.common.Given as goal

abbrev pub decreases-steps : goal.decreases-steps
decreases-steps l = l.y
