use Rattle.std.proofs.Common.{◌≡◌, ◌/◌, ◌%◌, ◌∙◌, ap, arith, length, rules, sym, subst, true, false}
use Rattle.gf_fan.specs.MaximalCones.{maximal_of}
use Rattle.gf_refine.specs.Inside.{AreHolders, IsMet}
use Rattle.gf_refine.proofs.MeetLaws.{maximal_long, pairs_of_cones}
use Rattle.gf_refine.proofs.PairLaws.{MetSoFar, met_none, met_taken, met_left, pairs_met}
use Rattle.gf_refine.proofs.pairs.met_pairs.Goals as goal
use Rattle.gf_refine.proofs.pairs.met_pairs.Goals.{then-is_met+in_ok-push, else-is_met}

pub loop-k-init : goal.loop-k-init
loop-k-init c = rw c.new-out.ensures.items (met_none c.in_ok-held.held.items c.in_ok-others.others.items (length c.maximal-width.result.now))

pub loop-k-preserved : goal.loop-k-preserved
loop-k-preserved c =
    let held = c.in_ok-held.held.items in let others = c.in_ok-others.others.items in
    let width = length c.maximal-width.result.now in
    let k = c.loop-k.k in
    elim c.if-is_met.branch [
      | then-is_met+in_ok-push w ↦ rw w.out-is (met_taken held others width k c.loop-k.out.items _ w.in_ok-push.ensures.items c.loop-k.invariant)
      | else-is_met w ↦ rw w.out-is (met_left held others width k c.loop-k.out.items
          (λ t.
          let f : c.is_met.result ≡ true = c.is_met.ensures.1 (subst (λ z. IsMet z c.deref-in-loop-k-2.result.now (k / width) (k % width))
          (sym c.deref-in-loop-k.ensures.value) (subst (λ z. IsMet held z (k / width) (k % width)) (sym c.deref-in-loop-k-2.ensures.value) t)) in
          let z : true ≡ false = sym f ∙ w.if-is_met.false in absurd (search rules)) c.loop-k.invariant)
    ]

pub returns-clause-pairs : goal.returns-clause-pairs
returns-clause-pairs c =
    let f = c.args.first.now in let h = c.args.second.now in
    let cs = maximal_of f in let ds = maximal_of h in
    let held = c.in_ok-held.held.items in let others = c.in_ok-others.others.items in
    let w : length c.maximal-width.result.now ≡ length ds = ap length c.maximal-width.ensures ∙ sym (maximal_long h) in
    let k : c.loop-k.k ≡ c.args.count = omega (arith, c.loop-k-test.false, c.loop-k.auto.k-end) in
    pairs_met f.ambient c.args.count cs ds c.deref.result.now held others c.loop-k.out.items (pairs_of_cones f h c.args.count c.requires.count)
    (subst (λ n. AreHolders n cs ds c.deref.result.now held) c.requires.ambient c.in_ok-held.ensures)
    (subst (λ z. AreHolders f.ambient ds cs z others) c.deref-2.ensures.value c.in_ok-others.ensures)
    (subst (λ z. MetSoFar held others (length ds) z c.loop-k.out.items) k (subst (λ z. MetSoFar held others z c.loop-k.k c.loop-k.out.items)
    w c.loop-k.invariant))

pub returns-clause-long : goal.returns-clause-long
returns-clause-long c = omega (arith, c.loop-k.invariant.long, c.loop-k.auto.k-end)
