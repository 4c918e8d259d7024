use Rattle.std.proofs.Common.{◌≡◌, ◌<◌, ◌-◌, ℕ, List, ℤ, take, drop, length, arith, sym, subst, ◌∙◌}
use Rattle.std.proofs.lemmas.List.{take_all, length-drop}
use Rattle.gf_fan.proofs.words.block.Goals as goal

fewer : (rays : List (List ℤ)) (start : ℕ) → length (take (length rays - start) (drop start rays)) < 128 →
    take (length rays - start) (drop start rays) ≡ take 128 (drop start rays)
fewer rays start h =
    let d : length (drop start rays) ≡ length rays - start = length-drop start rays in
    let whole : take (length rays - start) (drop start rays) ≡ drop start rays = take_all (length rays - start) (drop start rays) (omega (arith, d)) in
    let short : length (drop start rays) < 128 = subst (λ (w : List (List ℤ)). length w < 128) whole h in
    whole ∙ sym (take_all 128 (drop start rays) (omega (arith, short)))

pub returns-then-rest-lt128 : goal.returns-then-rest-lt128
returns-then-rest-lt128 c = fewer c.args.rays.now c.args.start c.if-rest-lt128.true
