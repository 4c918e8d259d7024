use Rattle.std.proofs.Common.{◌≡◌, ◌<◌, ◌≤◌, ◌+◌, ◌-◌, ◌==◌, false, length, map, arith, ap, sym, ◌∙◌}
use Rattle.std.specs.List.{range_with_len}
use Rattle.std.proofs.lemmas.Bool.Decides.{nat_tests}
use Rattle.gf_fan_files.specs.FanWords.{greatest_dim, count_of}
use Rattle.gf_fan_files.proofs.FanWordsLaws.{f_vector_of, counts_more}
use Rattle.gf_fan_files.proofs.parts.f_vector.Goals as goal

pub loop-dim-preserved : goal.loop-dim-preserved
loop-dim-preserved c =
    counts_more (count_of c.args.cones.now) c.args.low c.loop-dim.dim c.count_of.result c.loop-dim.counts.items c.push.new.self.items c.loop-dim.auto.dim
    c.loop-dim.invariant c.count_of.ensures c.in_ok-push.ensures.items

pub returns : goal.returns
returns c =
    let low = c.args.low in
    let dim = c.loop-dim.dim in
    let cones = c.args.cones.now in
    let empty : (length cones == 0) ≡ false = sym c.is_empty.ensures ∙ c.if-is_empty.false in
    let some : 0 < length cones = grind (arith, nat_tests, empty) in
    let end = c.max-end.ensures in
    let most = c.greatest_dim.ensures in
    let behind = c.loop-dim-test.false in
    let within : dim ≤ c.max-end.result = c.loop-dim.auto.dim-end (omega (arith, end)) in
    let last : dim - low ≡ greatest_dim cones + 1 - low = omega (arith, end, most, behind, within) in
    c.loop-dim.invariant ∙ ap (λ k. map (count_of cones) (range_with_len low k)) last ∙ sym (f_vector_of low cones some)
