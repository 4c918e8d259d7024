use Rattle.std.proofs.Common.{◌≡◌, ℕ, ◌<◌, ◌≤◌, ◌++◌, List, length, set, map, take, drop, FitsSigned, rules, arith, refl, ap, ◌∙◌}
use Rattle.std.specs.Int.{w32}
use Rattle.std.proofs.lemmas.Bool.{false≢true}
use Rattle.std.proofs.lemmas.Int.{to_z-of_z}
use Rattle.std.proofs.lemmas.List.{take_all, drop_all, append-nil}
use Rattle.std.proofs.lemmas.List.Edits.{map_over_more}
use Rattle.gf_strands.specs.declared.strands.Point.{Point}
use Rattle.gf_strands.specs.Strands.{moved}
use Rattle.gf_strands.proofs.PointLaws.{relative_point, relative_is, strand_from}
use Rattle.gf_strands.proofs.strands.strand_of.Goals as goal

pub points-init : goal.points-init
points-init c = refl

pub points-preserved : goal.points-preserved
points-preserved c =
    let first = c.in_ok-first.first in
    let old = c.pop.new.self.items in
    let l : c.points.i < length old = omega (arith, c.points-test.true, c.len-i-end.ensures, c.pop.new.self.ok.0) in
    ap (λ (z : Point). set c.points.rest.items c.points.i z) (relative_is first c.index.result.now c.in_ok-q.q c.in_ok-q.ensures)
    ∙ map_over_more (relative_point first) old c.points.rest.items c.points.i c.index.result.now l c.points.invariant c.index.ensures

-- all points are counted anew
ended : (f : Point → Point) (old new : List Point) (i : ℕ) → length old ≤ i → new ≡ map f (take i old) ++ drop i old → new ≡ map f old
ended f old new i l e = e ∙ ap (λ (z : List Point). map f z ++ drop i old) (take_all i old l) ∙ ap (λ (z : List Point). map f old ++ z) (drop_all i old l) ∙
    append-nil (map f old)

pub returns-clause-value : goal.returns-clause-value
returns-clause-value c =
    let first = c.in_ok-first.first in
    let old = c.pop.new.self.items in
    let f : FitsSigned w32 first.k = search rules in
    let l : length old ≤ c.points.i = omega (arith, c.points-test.false, c.len-i-end.ensures, c.pop.new.self.ok.0) in
    strand_from c.args.normal.now c.args.base.now c.args.points.items old first _ c.in_ok-first.ensures.items c.requires.nonzero c.requires.base c.requires.on
    c.requires.falling
    (λ e. false≢true (c.if-is_zero.ensures.1 e))
    (c.in_ok-mark.ensures.value ∙ ap (moved c.args.normal.now c.args.base.now) (to_z-of_z w32 first.k f))
    (ended (relative_point first) old c.points.rest.items c.points.i l c.points.invariant)
