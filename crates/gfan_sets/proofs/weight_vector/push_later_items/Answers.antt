use Rattle.std.proofs.Common.{List, ℤ, ◌++◌, flat_map, ap, ◌∙◌}
use Rattle.gf_poly.specs.Marking.{MarkedPolynomials}
use Rattle.gfan_sets.specs.WeightVector.{later_weight_item}
use Rattle.gfan_sets.proofs.WeightVectorLaws.{items_more, items_all}
use Rattle.gfan_sets.proofs.weight_vector.push_later_items.Goals as goal

pub items-preserved : goal.items-preserved
items-preserved c =
    items_more c.args.echoed c.args.ring.now c.args.sets.now c.args.weights.now c.items.i c.index-sets-i.result c.index-weights-i.result c.args.text.now.items
    c.items.text.items c.extend_from_slice.new.self.items c.push_item.new.text.items
    c.items-test.true c.requires.same c.index-sets-i.is c.index-weights-i.is c.items.invariant c.in_ok-extend_from_slice.ensures.items c.in_ok-push_item.ensures

pub returns : goal.returns
returns c =
    c.items.invariant ∙ ap (λ (zs : List (MarkedPolynomials × List ℤ)). c.args.text.now.items ++ flat_map (later_weight_item c.args.echoed c.args.ring.now) zs)
    (items_all c.args.sets.now c.args.weights.now c.items.i c.items-test.false c.requires.same)
