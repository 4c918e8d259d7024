use Rattle.std.proofs.Common.{◌<◌, ℕ, length, get_or, IsTrue, rules, arith, refl}
use Rattle.std.proofs.lemmas.List.{get_or_default}
use Rattle.gf_fan.proofs.WordLaws.{told_further}
use Rattle.gf_fan.proofs.words.are_told_at.Goals as goal

pub loop-b-preserved : goal.loop-b-preserved
loop-b-preserved c =
    let t : IsTrue c.is_told_at.result = search rules in
    let b = c.loop-b.b in
    let x : ℕ = get_or c.args.own.now b 0 in
    let y : ℕ = get_or c.args.others.now b 0 in
    let first : b < length c.args.own.now = omega arith in
    let second : b < length c.args.others.now = omega arith in
    told_further c.args.known.now c.args.left.now c.args.right.now c.args.left.now c.args.right.now c.args.own.now c.args.others.now b x y first second refl
    refl (get_or_default c.args.own.now b 0 x first) (get_or_default c.args.others.now b 0 y second) (c.is_told_at.ensures t) c.loop-b.invariant

pub returns : goal.returns
returns c = λ t b h. c.loop-b.invariant b (omega (arith, h))
