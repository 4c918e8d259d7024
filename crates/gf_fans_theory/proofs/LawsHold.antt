-- The theorems of specs/Laws.antt.
use Rattle.gf_fans_theory.specs.Laws.{FacesAreRayLists, FacetsHaveOneLess, FansAreTestedByPairs, FacesAreOfCones, SeparatedConesMeetInFaces}
use Rattle.gf_fans_theory.proofs.FaceLaws.{face_rays}
use Rattle.gf_fans_theory.proofs.FaceDimension.{dimension_above}
use Rattle.gf_fans_theory.proofs.FanLaws.{same_lists, pairs_fan, fan_pairs, one_lineality}
use Rattle.gf_fans_theory.proofs.SameCones.{face_of_same, meet_of_same}
use Rattle.gf_fans_theory.proofs.SeparatingLaws.{separated}

pub faces_are_ray_lists : FacesAreRayLists
faces_are_ray_lists = record { rays = face_rays; same = same_lists }

pub facets_have_one_less : FacetsHaveOneLess
facets_have_one_less = dimension_above

pub fans_are_tested_by_pairs : FansAreTestedByPairs
fans_are_tested_by_pairs = record { fan = λ n cones h. (fan_pairs n cones, pairs_fan n cones h); lineality = one_lineality }

pub faces_are_of_cones : FacesAreOfCones
faces_are_of_cones = record { face = face_of_same; meet = meet_of_same }

pub separated_cones_meet_in_faces : SeparatedConesMeetInFaces
separated_cones_meet_in_faces = separated
