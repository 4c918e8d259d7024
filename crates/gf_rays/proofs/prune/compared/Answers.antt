use Rattle.std.proofs.Common.{arith, ◌≡◌, ◌<◌, ◌-◌, remove, length, ℕ, ◌≤◌, subst, sym, List}
use Rattle.std.proofs.lemmas.List.Edits.{length-remove}
use Rattle.gf_rays.specs.MarkedRays.{done, taken, IsInside, AreFlagged}
use Rattle.gf_rays.specs.declared.ray.Ray.{Ray}
use Rattle.gf_rays.proofs.PruneLaws.{next_outside}
use Rattle.gf_duality_theory.proofs.IndicesLaws.{All-rest}
use Rattle.gf_rays.proofs.prune.compared.Goals as goal

pub loop-i-init : goal.loop-i-init
loop-i-init c = (done c.args.rays.items, λ k a b _. absurd (omega (arith, a, b, c.len-i.ensures)), c.requires, omega (arith, c.len-i.ensures))

pub loop-i-preserved-then-is_inside : goal.loop-i-preserved-then-is_inside
loop-i-preserved-then-is_inside c =
    let rs = c.loop-i.left.items in let i : ℕ = c.loop-i.i - 1 in
    let inv = c.loop-i.invariant in
    let hi : i < length rs = omega (arith, inv.3, c.loop-i-test.true) in
    let s : IsInside rs i = subst (λ (t : List Ray). IsInside t i) c.as_slice.ensures.value (c.is_inside.ensures.yes c.if-is_inside.true) in
    let e : c.remove.new.self.items ≡ remove rs i = c.remove.ensures.items in
    let m = length-remove rs i hi in (
      taken c.args.rays.items rs c.remove.new.self.items i inv.0 hi s e,
      subst (λ (t : List Ray). (k : ℕ) → i ≤ k → k < length t → IsInside t k → ⊥) (sym e)
          (λ k. next_outside rs i k hi (λ k h. inv.1 k (omega (arith, h, c.loop-i-test.true)))),
      (inv.2.0, subst (AreFlagged inv.2.0) (sym e) (All-rest (λ (r : Ray). length r.zero ≡ inv.2.0) rs i hi inv.2.1)),
      subst (λ (t : List Ray). i ≤ length t) (sym e) (omega (arith, m, hi)),
    )

pub returns-clause-none : goal.returns-clause-none
returns-clause-none c = λ i h s. c.loop-i.invariant.1 i (omega (arith, c.loop-i-test.false)) h s
