use Rattle.std.specs.Int.{w64}
use Rattle.std.proofs.Common.{arith, rules, FitsSigned, to_z, sym, ap, ◌∙◌, ◌*ℤ◌, ◌^◌, of_z}
use Rattle.std.proofs.lemmas.Int.{to_z-of_z}
use Rattle.gf_strands.proofs.MultipleLaws.{apart_more, distance_end, not_apart, kept, narrow_entry}
use Rattle.gf_strands.proofs.along.distance.Goals as goal

pub returns-then-less-multiple-clause-none : goal.returns-then-less-multiple-clause-none
returns-then-less-multiple-clause-none c = λ r.
    not_apart c.args.normal.now c.args.x.now c.args.y.now _ _ _ _ c.args.pivot c.entries.i c.less.ensures.value
    (λ j e. kept c.multiplier-k.result (2 ^ 32) c.multiplier-k.ensures.bound (omega arith)
    ∙ c.multiplier-k.ensures.value j (kept c.less.result (2 ^ 32) c.less.ensures.bound (omega arith) ∙ e ∙
    ap (λ z. j *ℤ z) (sym (narrow_entry c.args.normal.now c.args.pivot c.narrow.result c.requires.bounded c.requires.inside c.narrow.ensures))))
    c.less-in-entries.ensures.value
    (c.multiple.ensures ∙ ap (λ z. to_z w64 (of_z w64 c.multiplier-k.result) *ℤ z) (narrow_entry c.args.normal.now c.entries.i c.narrow-in-entries.result
    c.requires.bounded c.entries-test.true c.narrow-in-entries.ensures))
    (λ e. c.if-less-multiple.true (ap (of_z w64) e)) r

pub entries-preserved : goal.entries-preserved
entries-preserved c =
    let f : FitsSigned w64 c.multiple.result = search rules in
    apart_more c.args.normal.now c.args.x.now c.args.y.now _ _ _ c.entries.i c.entries.invariant c.less-in-entries.ensures.value
    (c.multiple.ensures ∙ ap (λ z. to_z w64 (of_z w64 c.multiplier-k.result) *ℤ z) (narrow_entry c.args.normal.now c.entries.i c.narrow-in-entries.result
    c.requires.bounded c.entries-test.true c.narrow-in-entries.ensures))
    (sym (kept c.less-in-entries.result (2 ^ 32) c.less-in-entries.ensures.bound (omega arith)) ∙ ap (to_z w64) c.if-less-multiple.false ∙
    to_z-of_z w64 c.multiple.result f)

pub returns-clause-some : goal.returns-clause-some
returns-clause-some c = distance_end c.args.normal.now c.args.x.now c.args.y.now _ c.entries.i c.requires.same_length c.requires.same_variables
    c.entries-test.false c.entries.invariant
