use Rattle.std.proofs.Common.{◌≡◌, ◌≢◌, ◌<◌, ◌∙◌, ℕ, sym, subst, length, arith}
use Rattle.std.proofs.lemmas.Bool.{eqb-true, eqb-false}
use Rattle.gf_rays.specs.MarkedRays.{AreFlagged}
use Rattle.gf_rays.proofs.prune.width_of.Goals as goal

pub returns-then-is_empty : goal.returns-then-is_empty
returns-then-is_empty c =
    let z : length c.args.rays.now ≡ 0 = eqb-true (length c.args.rays.now) 0 (sym c.is_empty.ensures ∙ c.if-is_empty.true) in
    λ k d h. absurd (omega (arith, h, z))

pub returns : goal.returns
returns c =
    let z : length c.args.rays.now ≢ 0 = eqb-false (length c.args.rays.now) 0 (sym c.is_empty.ensures ∙ c.if-is_empty.false) in
    let e : c.len.result ≡ c.requires.0 = c.len.ensures ∙ c.requires.1 0 c.index-rays-0.result (omega (arith, z)) in
    subst (λ (m : ℕ). AreFlagged m c.args.rays.now) (sym e) c.requires.1
