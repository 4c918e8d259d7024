use Rattle.gf_facets_theory.proofs.LawsHold.{linear_maps_give_points}
use Rattle.gf_facets_theory.proofs.linear_maps_give_points.Goals as goal

pub returns : goal.returns
returns c = linear_maps_give_points
