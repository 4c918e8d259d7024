use Rattle.gf_tree.proofs.LabelLaws.{AreDownTo}
use Rattle.gf_tree.proofs.steps.downward_in.Given as goal

abbrev pub invariant-normals : goal.invariant-normals
invariant-normals l = AreDownTo l.fn.tree.region.root l.list l.i l.out.items
