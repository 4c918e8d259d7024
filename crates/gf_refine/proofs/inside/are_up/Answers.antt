use Rattle.std.proofs.Common.{rules, arith, subst, sym, List, ℤ, IsTrue}
use Rattle.std.proofs.lemmas.List.{take_all}
use Rattle.gf_gordan.specs.Alternative.{AreRows}
use Rattle.gf_refine.specs.Inside.{AreUpOn}
use Rattle.gf_refine.proofs.InsideLaws.{up_none, up_more, row_long}
use Rattle.gf_refine.proofs.inside.are_up.Goals as goal

pub loop-h-init : goal.loop-h-init
loop-h-init c = up_none c.args.rays.now c.args.lineality.now

pub is_up-requires-clause-rays : goal.is_up-requires-clause-rays
is_up-requires-clause-rays c = subst (λ m. AreRows m c.args.rays.now)
    (sym (row_long c.requires.0 c.loop-h.h-index c.args.rows.now c.h-item.result c.loop-h-test.true c.h-item.is c.requires.1.0)) c.requires.1.1

pub is_up-requires-clause-lineality : goal.is_up-requires-clause-lineality
is_up-requires-clause-lineality c = subst (λ m. AreRows m c.args.lineality.now)
    (sym (row_long c.requires.0 c.loop-h.h-index c.args.rows.now c.h-item.result c.loop-h-test.true c.h-item.is c.requires.1.0)) c.requires.1.2

pub loop-h-preserved : goal.loop-h-preserved
loop-h-preserved c = let t : IsTrue c.is_up.result = search rules in let b = c.is_up.ensures t in
    up_more c.args.rows.now c.args.rays.now c.args.lineality.now c.h-item.result c.loop-h.h-index c.loop-h-test.true c.h-item.is b.0 b.1 c.loop-h.invariant

pub returns : goal.returns
returns c = λ t. subst (λ (z : List (List ℤ)). AreUpOn z c.args.rays.now c.args.lineality.now)
    (take_all c.loop-h.h-index c.args.rows.now (omega (arith, c.loop-h-test.false))) c.loop-h.invariant
