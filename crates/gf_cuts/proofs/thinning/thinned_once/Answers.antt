use Rattle.std.proofs.Common.{◌<◌, ℕ, List, length, get_or, All, Contains, IsTrue, refl, sym, subst, rules}
use Rattle.gf_cuts.specs.Heights.{row_at, IsBelow}
use Rattle.gf_cuts.proofs.BelowLaws.{thin_left, thin_kept, index_inside, more_inside}
use Rattle.gf_cuts.proofs.thinning.thinned_once.Goals as goal
use Rattle.gf_cuts.proofs.thinning.thinned_once.Goals.{then-not-is_below_some+in_ok-push, else-not-is_below_some}

pub is_below_some-requires-clause-kept : goal.is_below_some-requires-clause-kept
is_below_some-requires-clause-kept c = subst (All (λ x. x < length c.args.rows.now)) (sym c.deref.ensures.value) c.loop-x.invariant.inside

pub loop-x-preserved : goal.loop-x-preserved
loop-x-preserved c =
    let rows = c.args.rows.now in
    let indices = c.args.indices.now in
    let i = c.loop-x.x-index in
    let x : ℕ = get_or indices i 0 in
    elim c.if-not-is_below_some.branch [
      | then-not-is_below_some+in_ok-push w ↦
          rw w.kept-is (record {
            thin = thin_kept rows indices c.loop-x.kept.items _ x i c.loop-x-test.true refl w.in_ok-push.ensures.items c.loop-x.invariant.thin;
            inside = more_inside (length rows) c.loop-x.kept.items _ x w.in_ok-push.ensures.items
                (index_inside (length rows) indices i c.loop-x-test.true c.requires) c.loop-x.invariant.inside;
          })
      | else-not-is_below_some w ↦
          let t : IsTrue c.is_below_some.result = search rules in
          let y : (y : ℕ) × (Contains c.loop-x.kept.items y × IsBelow (row_at rows x) (row_at rows y)) =
          subst (λ (z : List ℕ). (y : ℕ) × (Contains z y × IsBelow (row_at rows x) (row_at rows y))) c.deref.ensures.value (c.is_below_some.ensures t) in
          rw w.kept-is (record {
            thin = thin_left rows indices c.loop-x.kept.items x i c.loop-x-test.true refl y c.loop-x.invariant.thin;
            inside = c.loop-x.invariant.inside;
          })
    ]
