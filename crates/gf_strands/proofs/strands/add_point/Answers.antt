use Rattle.std.proofs.Common.{◌≡◌, ℕ, ◌+◌, ◌-◌, ◌<◌, ◌≤◌, List, length, get_or, ℤ, ◌<ℤ◌, ◌≤ℤ◌, to_z, of_z, FitsSigned, rules, arith, refl, sym, ap, ◌∙◌, subst}
use Rattle.std.specs.Int.{w32}
use Rattle.std.proofs.lemmas.Int.{to_z-of_z}
use Rattle.gf_strands.specs.declared.strands.Point.{Point}
use Rattle.gf_strands.specs.Strands.{IsPointAdded}
use Rattle.gf_strands.proofs.PointLaws.{point_joined, point_entered, falling_set, same_point, falling_entered}
use Rattle.gf_strands.proofs.strands.add_point.Goals as goal
use Rattle.gf_strands.proofs.strands.add_point.Goals.{else-i-gt0-via-then-i-gt0+else-index-k, else-i-gt0-via-else-i-gt0}

-- the multiple of the point at the index
found : (ps : List Point) (i : ℕ) (p q : Point) (k : ℤ) → i < length ps → p ≡ get_or ps i p → q ≡ get_or ps i q → FitsSigned w32 p.k → FitsSigned w32 k →
    of_z w32 p.k ≡ of_z w32 k → q.k ≡ k
found ps i p q k l e g f h o = ap (λ (z : Point). z.k) (same_point ps i i q p refl l g e) ∙ sym (to_z-of_z w32 p.k f) ∙ ap (to_z w32) o ∙ to_z-of_z w32 k h

pub returns-then-index-k-clause-added : goal.returns-then-index-k-clause-added
returns-then-index-k-clause-added c =
    let old = c.args.work.now.items in
    let i = c.index_for-i.result - 1 in
    let f : FitsSigned w32 c.index.result.now.k = search rules in
    let l : i < length old = omega (arith, c.index_for-i.ensures.within, ap length c.deref.ensures.value, c.if-i-gt0.true) in
    point_joined c.args.k c.args.coef old i c.index-then-index-k.result.now _ l c.index-then-index-k.ensures
    (found old i c.index.result.now c.index-then-index-k.result.now c.args.k l c.index.ensures c.index-then-index-k.ensures f c.ranges.k c.if-index-k.true)
    (to_z-of_z w32 c.args.k c.ranges.k) c.in-Ok.ensures.sum

pub returns-then-index-k-clause-falling : goal.returns-then-index-k-clause-falling
returns-then-index-k-clause-falling c = λ h.
    let old = c.args.work.now.items in
    let i = c.index_for-i.result - 1 in
    let f : FitsSigned w32 c.index.result.now.k = search rules in
    let l : i < length old = omega (arith, c.index_for-i.ensures.within, ap length c.deref.ensures.value, c.if-i-gt0.true) in
    falling_set old i c.index-then-index-k.result.now _ l c.index-then-index-k.ensures
    (to_z-of_z w32 c.args.k c.ranges.k ∙ sym (found old i c.index.result.now c.index-then-index-k.result.now c.args.k l c.index.ensures
    c.index-then-index-k.ensures f c.ranges.k c.if-index-k.true)) h

pub returns-in-Ok-insert-clause-added : goal.returns-in-Ok-insert-clause-added
returns-in-Ok-insert-clause-added c =
    let d = c.in-Ok-insert.ensures.items in
    subst (IsPointAdded c.args.k c.args.coef c.args.work.now.items) (sym d)
    (point_entered c.args.k c.args.coef c.args.work.now.items c.index_for-i.result _ (to_z-of_z w32 c.args.k c.ranges.k) refl)

pub returns-in-Ok-insert-clause-falling : goal.returns-in-Ok-insert-clause-falling
returns-in-Ok-insert-clause-falling c = λ f.
    let old = c.args.work.now.items in
    let i : ℕ = c.index_for-i.result in
    let s = to_z-of_z w32 c.args.k c.ranges.k in
    let l : i ≤ length old = omega (arith, c.index_for-i.ensures.within, ap length c.deref.ensures.value) in
    let behind = subst (λ (ws : List Point). (j : ℕ) (p : Point) → i ≤ j → j < length ws → p ≡ get_or ws j p → p.k <ℤ to_z w32 (of_z w32 c.args.k))
    c.deref.ensures.value c.index_for-i.ensures.behind in
    let before = subst (λ (ws : List Point). (j : ℕ) (p : Point) → j + 1 ≡ i → p ≡ get_or ws j p → to_z w32 (of_z w32 c.args.k) ≤ℤ p.k) c.deref.ensures.value
    c.index_for-i.ensures.before in
    let other : (j : ℕ) (p : Point) → j + 1 ≡ i → p ≡ get_or old j p → p.k ≡ to_z w32 (of_z w32 c.args.k) → ⊥ =
    (λ j p m h n. elim c.else-i-gt0.branch [
      | else-i-gt0-via-then-i-gt0+else-index-k w ↦ w.if-index-k.false (ap (of_z w32)
          (ap (λ (z : Point). z.k) (same_point old (i - 1) j w.index.result.now p (omega (arith, m)) (omega (arith, m, l)) w.index.ensures h) ∙ n ∙ s))
      | else-i-gt0-via-else-i-gt0 w ↦ absurd (omega (arith, m, w.if-i-gt0.false))
    ]) in
    falling_entered old c.insert.new.self.items i (to_z w32 (of_z w32 c.args.k)) _ refl l behind before other c.in-Ok-insert.ensures.items f
