-- The theorems of specs/Laws.antt.
use Rattle.gf_gordan.specs.Alternative.{GordansAlternative}
use Rattle.gf_patterns_theory.specs.Laws.{MeetsAreRefinements, CutsAreRefinements, ConesHaveInteriors, FacesOfFacesAreFaces, MaximalConesSuffice}
use Rattle.gf_patterns_theory.specs.Laws.{PatternsAreOfInitialForms, PatternsHaveCones, VerticesSuffice, PatternsAreRefined, VectorsAreInOneCone}
use Rattle.gf_patterns_theory.specs.Patterns.{IsAnywhere, IsOnPrevariety}
use Rattle.gf_patterns_theory.proofs.RefinementLaws.{meets_fan, meets_width, meets_refine}
use Rattle.gf_patterns_theory.proofs.CutLaws.{cuts_fan, cuts_refine}
use Rattle.gf_patterns_theory.proofs.InnerLaws.{inner}
use Rattle.gf_patterns_theory.proofs.InteriorLaws.{interior_relative}
use Rattle.gf_patterns_theory.proofs.PatternLaws.{anywhere, on_prevariety, refined_patterns, own_alone}
use Rattle.gf_patterns_theory.proofs.PatternFanLaws.{interiors, hypersurface_list, minkowski_list, all_singles, all_pairs, vertex_solvable, whole_prevariety}
use Rattle.gf_patterns_theory.proofs.PatternFanLaws.{whole_minkowski}
use Rattle.gf_patterns_theory.proofs.NestedFaces.{face_of_same, face_of_face}
use Rattle.gf_patterns_theory.proofs.CoverLaws.{covered_same, patterns_same, refinement_same}
use Rattle.gf_patterns_theory.proofs.FormLaws.{pattern_form}

pub meets_are_refinements : MeetsAreRefinements
meets_are_refinements = record { fan = meets_fan; width = meets_width; refinement = meets_refine }

pub cuts_are_refinements : GordansAlternative → CutsAreRefinements
cuts_are_refinements g = record {
  fan = λ n cs ds parts wc wd f h k. cuts_fan n cs ds parts g wc wd f h k;
  refinement = λ n cs ds parts wc wd wp f h k. cuts_refine n cs ds parts g wc wd wp f h k;
}

pub cones_have_interiors : GordansAlternative → ConesHaveInteriors
cones_have_interiors g = record {
  inner = λ n c p q. inner n c g p q;
  relative = interior_relative;
  faces = λ n cones w. interiors n cones g w;
}

pub faces_are_of_cones : FacesOfFacesAreFaces
faces_are_of_cones = record { same = face_of_same; nested = face_of_face }

pub maximal_cones_suffice : GordansAlternative → MaximalConesSuffice
maximal_cones_suffice g = record {
  covered = λ n cs ms v w c. covered_same n cs ms g v w c;
  prevariety = patterns_same IsOnPrevariety;
  minkowski = patterns_same IsAnywhere;
  refinement = refinement_same;
}

pub patterns_are_of_initial_forms : PatternsAreOfInitialForms
patterns_are_of_initial_forms = pattern_form

pub patterns_have_cones : GordansAlternative → PatternsHaveCones
patterns_have_cones g = record {
  singles = λ n A b cones w k s. minkowski_list n A b cones g w k (all_singles n A cones s);
  pairs = λ n A cones w d s. hypersurface_list n A cones g w d (all_pairs n A cones s);
  prevariety = whole_prevariety;
  minkowski = whole_minkowski;
}

pub vertices_suffice : GordansAlternative → VerticesSuffice
vertices_suffice g = record {
  singles = λ n A b cones w k s. minkowski_list n A b cones g w k s;
  pairs = λ n A cones w d s. hypersurface_list n A cones g w d s;
  vertex = vertex_solvable;
}

pub patterns_are_refined : GordansAlternative → PatternsAreRefined
patterns_are_refined g = record {
  prevariety = λ n As Bs cs ds es a b w p q r. refined_patterns IsOnPrevariety n As Bs cs ds es on_prevariety a b p q r (interiors n es g w);
  minkowski = λ n As Bs cs ds es a b w p q r. refined_patterns IsAnywhere n As Bs cs ds es anywhere a b p q r (interiors n es g w);
}

pub vectors_are_in_one_cone : VectorsAreInOneCone
vectors_are_in_one_cone = record {
  prevariety = own_alone IsOnPrevariety;
  minkowski = λ n As cones w p some l. own_alone IsAnywhere n As cones w p some l tt;
}
