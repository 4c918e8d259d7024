use Rattle.gf_reverse_search.specs.Pieces.{RefusesAt}
use Rattle.gf_waves.proofs.RefusedLaws.{given_refusals, given_refused_any}
use Rattle.gf_waves.proofs.WaveLaws.{given_leaves, readied_leaves}
use Rattle.gf_waves.proofs.serving.give.Goals as goal

pub returns-clause-list : goal.returns-clause-list
returns-clause-list g c =
    let lt = g.T.Tree.before in
    let up = g.T.Tree.up in
    let refuses = RefusesAt up g.T.Tree.refuses in
    λ workers batches next olds nodes h l. given_leaves lt up g.met.T.Tree.strict g.met.T.Tree.tree refuses c.args.row.now.items c.give_first.result
    c.give_first.new.row.items c.give_first.ensures.given nodes
    (readied_leaves lt up g.met.T.Tree.strict g.met.T.Tree.tree refuses workers batches next olds c.args.row.now.items h nodes l)

pub returns-clause-refusals : goal.returns-clause-refusals
returns-clause-refusals g c = given_refusals g.T.Tree.before g.T.Tree.up (RefusesAt g.T.Tree.up g.T.Tree.refuses) c.args.row.now.items c.give_first.result
    c.give_first.new.row.items c.give_first.ensures.given c.requires

pub returns-clause-refused : goal.returns-clause-refused
returns-clause-refused g c = given_refused_any g.T.Tree.before g.T.Tree.up (RefusesAt g.T.Tree.up g.T.Tree.refuses) c.args.row.now.items c.give_first.result
    c.give_first.new.row.items c.give_first.ensures.given c.requires
