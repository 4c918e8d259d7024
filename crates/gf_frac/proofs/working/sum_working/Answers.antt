use Rattle.std.proofs.Common.{FitsSigned, ℕ, ℤ, pos, ◌≡◌, ◌<◌, ◌^◌, ◌*◌, ◌/◌, ◌+ℤ◌, ◌*ℤ◌, arith, rules, ap, ap₂, sym, subst, ◌∙◌}
use Rattle.std.specs.Int.{w128}
use Rattle.std.proofs.lemmas.Int.{to_z-of_z}
use Rattle.gf_int_theory.specs.Gcd.{gcd}
use Rattle.gf_int_theory.specs.Range.{InRange}
use Rattle.gf_frac.specs.Fits.{FitsSum, IsSumWorking, sum_numerator, sum_denominator}
use Rattle.gf_frac.proofs.working.sum_working.Goals as goal

share_of : (d g k s : ℕ) → g ≡ k → s ≡ d / g → s ≡ d / k
share_of d g k s e is = is ∙ ap (λ z. d / z) e

worked : (a c l r n : ℤ) (b d g s t m : ℕ) → g ≡ gcd b d → s ≡ d / g → t ≡ b / g → (l ≡ a *ℤ pos s) × InRange l → (r ≡ c *ℤ pos t) × InRange r →
    (n ≡ l +ℤ r) × InRange n → (m ≡ b * s) × (m < 2 ^ 127) → IsSumWorking a b c d (n, m, g)
worked a c l r n b d g s t m eg es et hl hr hn hm =
    let fs : s ≡ d / gcd b d = share_of d g _ s eg es in
    let el : l ≡ a *ℤ pos (d / gcd b d) = hl.0 ∙ ap (λ z. a *ℤ pos z) fs in
    let er : r ≡ c *ℤ pos (b / gcd b d) = hr.0 ∙ ap (λ z. c *ℤ pos z) (share_of b g _ t eg et) in
    let en : n ≡ sum_numerator a b c d = hn.0 ∙ ap₂ ◌+ℤ◌ el er in
    let em : m ≡ sum_denominator b d = hm.0 ∙ ap (λ z. b * z) fs in
    record {
      fits = record {
        left = subst InRange el hl.1;
        right = subst InRange er hr.1;
        sum = subst InRange en hn.1;
        denominator = subst (λ z. z < 2 ^ 127) em hm.1;
      };
      numerator = en;
      denominator = em;
      divisor = eg;
    }

sum_in : (a c l r : ℤ) (b d g s t : ℕ) → g ≡ gcd b d → s ≡ d / g → t ≡ b / g → l ≡ a *ℤ pos s → r ≡ c *ℤ pos t → FitsSum a b c d → InRange (l +ℤ r)
sum_in a c l r b d g s t eg es et el er f =
    subst InRange (sym (ap₂ ◌+ℤ◌ (el ∙ ap (λ z. a *ℤ pos z) (share_of d g _ s eg es)) (er ∙ ap (λ z. c *ℤ pos z) (share_of b g _ t eg et)))) f.sum

pub returns-in_default : goal.returns-in_default
returns-in_default c =
    let fa : FitsSigned w128 c.args.a = c.ranges.a in
    λ f. (simp to_z-of_z at c.in_default.ensures) (subst (λ z. InRange (c.args.a *ℤ pos z))
    (sym (share_of _ _ _ _ c.common-g.ensures.value c.natural_quotient-share.ensures)) f.left)

pub returns-in_default-scaled : goal.returns-in_default-scaled
returns-in_default-scaled c =
    let fc : FitsSigned w128 c.args.c = c.ranges.c in
    λ f. (simp to_z-of_z at c.in_default-scaled.ensures) (subst (λ z. InRange (c.args.c *ℤ pos z))
    (sym (share_of _ _ _ _ c.common-g.ensures.value c.natural_quotient.ensures)) f.right)

pub returns-in_default-total : goal.returns-in_default-total
returns-in_default-total c =
    let fa : FitsSigned w128 c.args.a = c.ranges.a in
    let fc : FitsSigned w128 c.args.c = c.ranges.c in
    let fl : FitsSigned w128 c.in-Some.left = search rules in
    let fr : FitsSigned w128 c.in-Some-scaled.right = search rules in
    let hl = simp to_z-of_z at c.in-Some.ensures in
    let hr = simp to_z-of_z at c.in-Some-scaled.ensures in
    λ f. (simp to_z-of_z at c.in_default-total.ensures) (sum_in c.args.a c.args.c _ _ c.args.b c.args.d _ _ _ c.common-g.ensures.value
    c.natural_quotient-share.ensures c.natural_quotient.ensures hl.0 hr.0 f)

pub returns-in_default-common_multiple : goal.returns-in_default-common_multiple
returns-in_default-common_multiple c =
    let n = c.in_default-common_multiple.ensures in
    λ f. absurd (omega (
      arith,
      n,
      subst (λ z. c.args.b * z < 2 ^ 127) (sym (share_of _ _ _ _ c.common-g.ensures.value c.natural_quotient-share.ensures))
          f.denominator,
    ))

pub returns : goal.returns
returns c =
    let fa : FitsSigned w128 c.args.a = c.ranges.a in
    let fc : FitsSigned w128 c.args.c = c.ranges.c in
    let fl : FitsSigned w128 c.in-Some.left = search rules in
    let fr : FitsSigned w128 c.in-Some-scaled.right = search rules in
    let fn : FitsSigned w128 c.in-Some-total.numerator = search rules in
    rw (to_z-of_z w128 _ fn) (worked c.args.a c.args.c _ _ _ c.args.b c.args.d _ _ _ _ c.common-g.ensures.value c.natural_quotient-share.ensures
    c.natural_quotient.ensures
    (simp to_z-of_z at c.in-Some.ensures) (simp to_z-of_z at c.in-Some-scaled.ensures) (simp to_z-of_z at c.in-Some-total.ensures)
    c.in-Some-common_multiple.ensures)
