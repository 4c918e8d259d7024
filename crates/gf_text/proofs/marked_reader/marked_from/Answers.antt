use Rattle.std.proofs.Common.{◌∙◌, sym}
use Rattle.std.specs.Vec.Iter.{into_iter_items}
use Rattle.gf_text.proofs.SetsLaws.{none_zero, nonzero_variables}
use Rattle.gf_text.proofs.marked_reader.marked_from.Goals as goal

pub new-requires : goal.new-requires
new-requires c =
    let all = none_zero c.args.written.items (into_iter_items c.polynomials.next-iterator) c.polynomials.items.items c.polynomials.invariant.whole
    (sym c.polynomials.invariant.left ∙ c.in-None.ensures.steps.0) in
    nonzero_variables c.args.n c.args.written.items c.polynomials.items.items all c.requires
