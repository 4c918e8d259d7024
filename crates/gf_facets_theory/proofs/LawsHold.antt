-- The theorems of specs/Laws.antt.
use Rattle.gf_facets_theory.specs.Laws.{LexPositiveVectors, VectorsAreOrdered, LinearMapsGivePoints, NormalsDefineCones, FacetsDefineCones}
use Rattle.gf_facets_theory.specs.Laws.{WeightsAreSolutions, FacetsAreTold, FlippableNormalsAreTold}
use Rattle.gf_facets_theory.proofs.LexPositiveLaws.{lex-zeros, lex-cases, lex-not_both, lex-plus, lex-times, lex-untimes}
use Rattle.gf_facets_theory.proofs.VectorOrder.{before_strict, vectors_compare}
use Rattle.gf_facets_theory.proofs.RootSignLaws.{negative_sign, sign_negative}
use Rattle.gf_facets_theory.proofs.PointsByLex.{solvable_by_lex}
use Rattle.gf_facets_theory.proofs.ConeLaws.{normals_closed, closed_by_normals, normals_open, open_by_normals}
use Rattle.gf_facets_theory.proofs.FacetConeLaws.{closed_by_facets, open_by_facets}
use Rattle.gf_facets_theory.proofs.SystemLaws.{solvable_of_realisable, realisable_of_solution, marked_system_wide}
use Rattle.gf_facets_theory.proofs.FacetSystems.{facet_or_redundant, facet_not_redundant, flippable_or_redundant, flippable_not_redundant}

pub lex_positive_vectors : LexPositiveVectors
lex_positive_vectors = record {
  one_of_three = lex-cases;
  not_both = lex-not_both;
  not_zero = lex-zeros;
  sum = lex-plus;
  multiple = λ k xs h. (lex-untimes k xs h, lex-times k xs h);
}

pub vectors_are_ordered : VectorsAreOrdered
vectors_are_ordered = record { strict = before_strict; compared = vectors_compare; sign = λ n a e. (negative_sign n a e, sign_negative n a e) }

pub linear_maps_give_points : LinearMapsGivePoints
linear_maps_give_points = solvable_by_lex

pub normals_define_cones : NormalsDefineCones
normals_define_cones = record {
  closed = λ n bs v k. (normals_closed n bs v k, closed_by_normals n bs v k);
  open_cone = λ n bs v k. (normals_open n bs v k, open_by_normals n bs v k);
}

pub facets_define_cones : FacetsDefineCones
facets_define_cones = record {
  closed = λ n bs w v k o. (λ h a f. normals_closed n bs v k h a f.inside.normal, closed_by_facets n bs w v k o);
  open_cone = λ n bs w v k o e f. (λ h a g. normals_open n bs v k h a g.inside.normal, open_by_facets n bs w v k o e f);
}

pub weights_are_solutions : WeightsAreSolutions
weights_are_solutions n bs v m = (marked_system_wide n bs v m, (solvable_of_realisable n bs v m, λ s. realisable_of_solution n bs s.0 v m s.1))

pub facets_are_told : FacetsAreTold
facets_are_told = record {
  either = λ n bs w ns i k o m l. facet_or_redundant n bs w k o ns i m l;
  not_both = λ n bs w ns i k o m l f r. facet_not_redundant n bs w k o ns i m l f r;
}

pub flippable_normals_are_told : FlippableNormalsAreTold
flippable_normals_are_told = record {
  either = λ n k bs w ns i wide c r o m l. flippable_or_redundant n bs w c o ns i m l k wide r;
  not_both = λ n k bs w ns i wide c r o m l f q. flippable_not_redundant n bs w c o ns i m l k wide f q;
}
