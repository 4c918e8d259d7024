use Rattle.std.proofs.Common.{◌≡◌, true, IsTrue, rules, sym, subst}
use Rattle.gf_cuts.specs.Heights.{AreTiedIndices}
use Rattle.gf_cuts.proofs.TiedLaws.{tied_none, tied_left, tied_more}
use Rattle.gf_cuts.proofs.ties.tied_indices.Goals as goal
use Rattle.gf_cuts.proofs.ties.tied_indices.Goals.{then-is_same_at+in_ok-push, else-is_same_at}

pub loop-k-init : goal.loop-k-init
loop-k-init c =
    let left = c.as_slice-left.result.now in
    let right = c.as_slice-right.result.now in
    subst (AreTiedIndices left right 0) (sym c.new-out.ensures.items) (tied_none left right)

pub loop-k-preserved : goal.loop-k-preserved
loop-k-preserved c =
    let left = c.as_slice-left.result.now in
    let right = c.as_slice-right.result.now in
    elim c.if-is_same_at.branch [
      | then-is_same_at+in_ok-push w ↦
          let t : IsTrue c.is_same_at.result = w.if-is_same_at.true in
          rw w.out-is (tied_more left right c.loop-k.k c.loop-k.out.items _ (c.is_same_at.ensures.0 t) w.in_ok-push.ensures.items c.loop-k.invariant)
      | else-is_same_at w ↦ rw w.out-is (tied_left left right c.loop-k.k c.loop-k.out.items
          (λ e. let t : c.is_same_at.result ≡ true = c.is_same_at.ensures.1 e in absurd (search rules)) c.loop-k.invariant)
    ]
