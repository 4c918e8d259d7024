use Rattle.std.proofs.Common.{◌≡◌, ℕ, arith, sym, subst}
use Rattle.gf_cuts.specs.Heights.{AreIndicesBut}
use Rattle.gf_cuts.proofs.BelowLaws.{but_none, but_left, but_more}
use Rattle.gf_cuts.proofs.thinning.indices_but.Goals as goal
use Rattle.gf_cuts.proofs.thinning.indices_but.Goals.{then-k-but+in_ok-push, else-k-but}

pub loop-k-init : goal.loop-k-init
loop-k-init c = subst (AreIndicesBut 0 c.args.but) (sym c.in_ok-out.ensures.items) (but_none c.args.but)

pub loop-k-preserved : goal.loop-k-preserved
loop-k-preserved c = elim c.if-k-but.branch [
  | then-k-but+in_ok-push w ↦
      rw w.out-is (but_more c.loop-k.k c.args.but c.loop-k.out.items _ w.if-k-but.true w.in_ok-push.ensures.items c.loop-k.invariant)
  | else-k-but w ↦ rw w.out-is (but_left c.loop-k.k c.args.but c.loop-k.out.items w.if-k-but.false c.loop-k.invariant)
]

pub returns : goal.returns
returns c =
    let e : c.loop-k.k ≡ c.args.count = omega arith in
    subst (λ (n : ℕ). AreIndicesBut n c.args.but c.loop-k.out.items) e c.loop-k.invariant
