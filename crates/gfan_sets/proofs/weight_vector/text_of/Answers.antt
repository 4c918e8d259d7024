use Rattle.std.proofs.Common.{List, ℤ, length, ap, ◌∙◌}
use Rattle.std.proofs.lemmas.Slice.Zip.{AllZip-long}
use Rattle.gfan_sets.specs.WeightVector.{IsWeightOfSet}
use Rattle.gfan_sets.proofs.weight_vector.text_of.Goals as goal

pub push_enclosed-requires-clause-same : goal.push_enclosed-requires-clause-same
push_enclosed-requires-clause-same c = ap (λ (vs : List (List ℤ)). length vs) c.deref.ensures.value ∙ AllZip-long IsWeightOfSet c.args.sets.now
    c.in-Ok.weights.items c.in-Ok.ensures.ok
