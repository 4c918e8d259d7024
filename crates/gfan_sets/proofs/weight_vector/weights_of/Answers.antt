use Rattle.gf_weights.specs.Weights.{IsPrintedWeight}
use Rattle.gfan_common.proofs.ZipLaws.{zip_more}
use Rattle.gfan_sets.proofs.weight_vector.weights_of.Goals as goal

pub bases-preserved : goal.bases-preserved
bases-preserved c = zip_more (λ t v. IsPrintedWeight t.variables t.items v) c.args.bases.now c.bases.weights.items c.push.new.self.items c.bases.basis-index
    c.basis-item.result c.in_ok-next.next c.bases-test.true c.basis-item.is c.in_ok-next.ensures.value c.in_ok-push.ensures.items c.bases.invariant
