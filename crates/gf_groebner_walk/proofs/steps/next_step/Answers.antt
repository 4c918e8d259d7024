use Rattle.std.proofs.Common.{sym, ◌∙◌, subst}
use Rattle.gf_facets_theory.specs.Regions.{all_positive}
use Rattle.gf_groebner_walk.specs.Steps.{IsFacetTold}
use Rattle.gf_groebner_walk.proofs.StepLaws.{facet_read}
use Rattle.gf_groebner_walk.proofs.WalkLaws.{crossing_towards}
use Rattle.gf_groebner_walk.proofs.steps.next_step.Goals as goal

pub facet_towards-requires : goal.facet_towards-requires
facet_towards-requires c = c.requires.width ∙ sym c.in_ok-cone.ensures.variables

pub returns-in-Nowhere : goal.returns-in-Nowhere
returns-in-Nowhere c = subst (IsFacetTold c.args.weight.now c.in_ok-cone.cone) c.in-Nowhere.is c.in_ok-told.ensures c.args.here.now.variables
    (all_positive c.args.here.now.variables) c.args.here.now.items c.in_ok-cone.ensures

pub flip-requires : goal.flip-requires
flip-requires c = crossing_towards c.args.here.now c.args.weight.now c.index-normals-index.result c.requires.basis
    (facet_read c.args.weight.now c.in_ok-cone.cone c.in_ok-told.told c.in-Facet.index c.normals.result.now c.index-normals-index.result c.in_ok-told.ensures
    c.in-Facet.is c.normals.ensures.value c.index-normals-index.is c.args.here.now.variables (all_positive c.args.here.now.variables)
    c.args.here.now.items c.in_ok-cone.ensures)

pub returns-in-Ok : goal.returns-in-Ok
returns-in-Ok c = record {
  normal = c.index-normals-index.result;
  leads = facet_read c.args.weight.now c.in_ok-cone.cone c.in_ok-told.told c.in-Facet.index c.normals.result.now c.index-normals-index.result
      c.in_ok-told.ensures c.in-Facet.is c.normals.ensures.value c.index-normals-index.is c.args.here.now.variables (all_positive c.args.here.now.variables)
      c.args.here.now.items c.in_ok-cone.ensures;
  neighbour = c.in-Ok.ensures.value;
  variables = c.in-Ok.ensures.variables;
}
