use Rattle.gf_facets_theory.proofs.LawsHold.{vectors_are_ordered}
use Rattle.gf_facets_theory.proofs.vectors_are_ordered.Goals as goal

pub returns : goal.returns
returns c = vectors_are_ordered
