use Rattle.std.proofs.Common.{◌≡◌, sym, ◌∙◌, arith, rules, refl}
use Rattle.std.proofs.lemmas.List.{get_or_default}
use Rattle.gf_vec.proofs.lists.is_one_of.Goals as goal

pub returns-then-is_same : goal.returns-then-is_same
returns-then-is_same c =
    let e : c.y-item.result ≡ c.args.x.now = c.is_same.ensures.0 c.if-is_same.true in (
      λ t. (
        c.loop-y.y-index,
        c.loop-y-test.true,
        get_or_default c.args.vectors.now c.loop-y.y-index c.args.x.now c.y-item.result c.loop-y-test.true ∙
            sym c.y-item.is ∙ e,
      ),
      λ t. refl,
    )

pub returns : goal.returns
returns c = (
  λ t. absurd (search rules),
  λ t. absurd (c.loop-y.invariant t.0 c.args.x.now (let h = t.1 in omega (arith, h, c.loop-y-test.false)) t.2),
)
