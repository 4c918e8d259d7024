use Rattle.gf_number_trees.specs.NumberTree.{bits_all}
use Rattle.gf_number_trees.proofs.numbers.NumberTreeTree.labels.Goals as goal

pub returns-in-Ok-clause-all : goal.returns-in-Ok-clause-all
returns-in-Ok-clause-all c = bits_all c.args.self.now.limit c.args.node.now c.in-Ok.labels.items c.in-Ok.ensures.items
