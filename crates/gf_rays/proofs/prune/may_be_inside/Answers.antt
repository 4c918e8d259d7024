use Rattle.std.proofs.Common.{◌≡◌, ◌∙◌, ℕ, [], ◌∷◌, ◌<◌, sym, ap, subst, length, arith, rules, true, IsTrue, List, Bool, get_or}
use Rattle.gf_rays.specs.declared.ray.Ray.{Ray}
use Rattle.gf_rays.specs.Flags.{flag_at}
use Rattle.gf_rays.specs.Columns.{IsColumn}
use Rattle.gf_rays.proofs.ColumnLaws.{LeftSoFar, left_all, left_more, left_inside}
use Rattle.gf_rays.proofs.prune.may_be_inside.Goals as goal
use Rattle.gf_rays.proofs.prune.may_be_inside.Goals.{then-has+in_ok-left-2, else-has}

pub loop-k-init : goal.loop-k-init
loop-k-init c = left_all c.args.rays.now c.args.i _ (c.in_ok-left.ensures ∙ c.requires.whole)

pub has-requires : goal.has-requires
has-requires c =
    let l : length c.index-rays-i.result.zero ≡ length c.args.columns.now =
    ap (λ (r : Ray). length r.zero) c.index-rays-i.is ∙ c.requires.flags c.args.i c.index-rays-i.result c.requires.index in
    omega (arith, l, c.loop-k-test.true)

pub both-requires : goal.both-requires
both-requires c =
    let f : IsColumn c.loop-k.k c.args.rays.now c.index-columns-k.result =
    subst (IsColumn c.loop-k.k c.args.rays.now) (sym c.index-columns-k.is)
    (c.requires.columns.each c.loop-k.k c.index-columns-k.result c.loop-k-test.true) in
    c.loop-k.invariant.long ∙ sym f.long

pub loop-k-preserved : goal.loop-k-preserved
loop-k-preserved c =
    let f : IsColumn c.loop-k.k c.args.rays.now c.index-columns-k.result =
    subst (IsColumn c.loop-k.k c.args.rays.now) (sym c.index-columns-k.is)
    (c.requires.columns.each c.loop-k.k c.index-columns-k.result c.loop-k-test.true) in
    let l : length c.index-rays-i.result.zero ≡ length c.args.columns.now =
    ap (λ (r : Ray). length r.zero) c.index-rays-i.is ∙ c.requires.flags c.args.i c.index-rays-i.result c.requires.index in
    elim c.if-has.branch [
      | then-has+in_ok-left-2 w ↦
          rw w.left-is
          (left_more c.args.rays.now c.args.i c.loop-k.k c.index-rays-i.result c.index-columns-k.result c.loop-k.left _ c.requires.index c.index-rays-i.is
          (omega (arith, l, c.loop-k-test.true)) (ap (λ (r : Ray). flag_at r.zero c.loop-k.k) c.index-rays-i.is ∙ sym c.has.ensures ∙ w.if-has.true) f
          w.in_ok-left-2.ensures c.loop-k.invariant)
      | else-has w ↦ rw w.left-is c.loop-k.invariant
    ]

pub at-requires : goal.at-requires
at-requires c = λ k d h. let e : k ≡ 0 = omega (arith, h) in subst (λ (m : ℕ). get_or (c.args.i ∷ []) m d < length c.args.rays.now) (sym e) c.requires.index

pub is_below-requires : goal.is_below-requires
is_below-requires c = c.loop-k.invariant.long ∙ sym c.in_ok-own.ensures.long

pub returns : goal.returns
returns c = λ g.
    let n : c.is_below.result ≡ true → ⊥ =
    λ t. left_inside c.args.rays.now c.args.i c.index-rays-i.result c.loop-k.left c.in_ok-own.own c.loop-k.invariant c.in_ok-own.ensures
    (c.is_below.ensures.0 t) g in
    search rules
