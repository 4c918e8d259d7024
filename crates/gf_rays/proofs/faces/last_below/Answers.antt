use Rattle.std.proofs.Common.{◌≡◌, ◌-◌, ◌∙◌, [], arith, rules, true, sym, subst, get_or}
use Rattle.gf_rays.specs.Flags.{IsBelow}
use Rattle.gf_rays.proofs.MemberLaws.{below_further, flags_read, long_at}
use Rattle.gf_rays.proofs.faces.last_below.Goals as goal

pub is_below-requires : goal.is_below-requires
is_below-requires c = long_at c.requires.long.0 c.args.members.now (c.args.i - 1 - c.loop-k.k) c.index-members-j.result
    (omega (arith, c.requires.index, c.loop-k-test.true)) c.index-members-j.is c.requires.long.1
    ∙ sym (long_at c.requires.long.0 c.args.members.now c.args.i c.index-members-i.result c.requires.index c.index-members-i.is c.requires.long.1)

pub returns-then-is_below : goal.returns-then-is_below
returns-then-is_below c = record {
  before = omega (arith, c.loop-k-test.true);
  below = subst (λ z. IsBelow z (get_or c.args.members.now c.args.i [])) (flags_read c.args.members.now (c.args.i - 1 - c.loop-k.k) c.index-members-j.result
      (omega (arith, c.requires.index, c.loop-k-test.true)) c.index-members-j.is)
      (subst (IsBelow c.index-members-j.result) (flags_read c.args.members.now c.args.i c.index-members-i.result c.requires.index c.index-members-i.is)
      (c.is_below.ensures.0 c.if-is_below.true));
  later = λ m a b w. c.loop-k.invariant m (omega (arith, a, c.loop-k-test.true)) b w;
}

pub loop-k-preserved : goal.loop-k-preserved
loop-k-preserved c = below_further c.args.members.now c.args.i c.loop-k.k c.loop-k-test.true
    (λ w.
    let t : c.is_below.result ≡ true = c.is_below.ensures.1 (subst (IsBelow c.index-members-j.result)
    (sym (flags_read c.args.members.now c.args.i c.index-members-i.result c.requires.index c.index-members-i.is))
    (subst (λ z. IsBelow z (get_or c.args.members.now c.args.i [])) (sym (flags_read c.args.members.now (c.args.i - 1 - c.loop-k.k) c.index-members-j.result
    (omega (arith, c.requires.index, c.loop-k-test.true)) c.index-members-j.is)) w)) in absurd (search rules))
    c.loop-k.invariant
