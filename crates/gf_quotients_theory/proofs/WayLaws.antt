-- Lists on the way to a saturation by all variables.
-- To cite: way_start, way_divided, way_variable, way_spared, way_ended.
use Rattle.std.proofs.Common.{◌≡◌, ◌⊎◌, ◌↔◌, ℕ, zero, suc, ◌+◌, ◌<◌, ◌≤◌, List, [], Contains, arith, refl, sym, ap, ◌∙◌, inl, inr}
use Rattle.std.proofs.lemmas.Bool.{cases_lt}
use Rattle.gf_frac.specs.Fraction.{one_ℚ}
use Rattle.gf_exponents_theory.specs.Exponents.{Exponents, entry, plus, degree, IsInRing}
use Rattle.gf_exponents_theory.proofs.ExponentsLaws.{same_by_entries, entries_same, entry-plus}
use Rattle.gf_poly.specs.Polynomial.{Terms, coefficient, times}
use Rattle.gf_poly.proofs.PolynomialLaws.{times-plain}
use Rattle.gf_ideal_theory.specs.Membership.{IsInVariables, AreInVariables, IsMember}
use Rattle.gf_ideal_theory.proofs.RingLaws.{entry-degree}
use Rattle.gf_ideal_theory.proofs.SpanLaws.{Spans-equal}
use Rattle.gf_ideal_theory.proofs.MembershipLaws.{variables-times, variables_of_member, spans_of_member, member_of_spans, member-equal, member-trans}
use Rattle.gf_ideal_theory.proofs.SettledLaws.{twice}
use Rattle.gf_saturation_theory.specs.Saturations.{powered, product_power, IsSaturatedBy, IsSaturated, next_variable}
use Rattle.gf_saturation_theory.proofs.SubstitutionLaws.{entry-product_power, ring-product_power, next-here, ring-next, ring-powered}
use Rattle.gf_saturation_theory.proofs.SaturationLaws.{times_same, variables_of_saturated, saturated_twice, saturated_product, powered-plus}
use Rattle.gf_quotients_theory.specs.Ways.{difference, IsOnTheWay}
use Rattle.gf_quotients_theory.proofs.TakenLaws.{taken, powered-sum, powered-up, powered-none, powered-least, spans_more, traded}
use Rattle.gf_quotients_theory.proofs.QuotientLaws.{power-here, power-other, next-other, cases_at}

pub way_start : (n : ℕ) (fs : List Terms) → AreInVariables n fs → IsOnTheWay n fs fs (product_power n 1)
way_start n fs v = record {
  ring = v;
  inside = λ f m. record { power = 0; member = member-equal n fs f (times one_ℚ (product_power n 0) f) (λ e. at f e) m };
  left = λ f s. (saturated_product n fs f).0 s;
}
  where
    at : (f : Terms) (e : Exponents) → coefficient f e ≡ coefficient (times one_ℚ (product_power n 0) f) e
    at f e = ap (λ g. coefficient g e) (sym (times-plain f)) ∙ times_zero f e
      where
        times_zero : (f : Terms) (e : Exponents) → coefficient (times one_ℚ [] f) e ≡ coefficient (times one_ℚ (product_power n 0) f) e
        times_zero f e = times_same one_ℚ [] (product_power n 0) f (same_by_entries [] (product_power n 0) (λ i. zeros i (cases_lt i n))) e
          where
            zeros : (i : ℕ) → (i < n) ⊎ (n ≤ i) → entry [] i ≡ entry (product_power n 0) i
            zeros i (inl l) = sym (entry-product_power n 0 i l)
            zeros i (inr l) = sym (ring-product_power n 0 i l)

pub saturated_variables : (n : ℕ) (fs : List Terms) (f : Terms) → AreInVariables n fs → IsSaturated n fs f → IsInVariables n f
saturated_variables n fs f v s = variables_of_saturated n fs (product_power n 1) f v ((saturated_product n fs f).0 s)

pub saturated_combined : (n : ℕ) (fs hs : List Terms) (f : Terms) → AreInVariables n fs → AreInVariables n hs →
    ((h : Terms) → Contains hs h → IsSaturated n fs h) → IsMember n hs f → IsSaturated n fs f
saturated_combined n fs hs f r k d m =
    let t = taken one fs hs (λ h c. let s = (saturated_product n fs h).0 (d h c) in record
    { by = s.power; spans = spans_of_member n fs (times one_ℚ (powered s.power one) h) s.member }) f (spans_of_member n hs f m) in
    (saturated_product n fs f).1 (record {
      power = t.by;
      member =
          member_of_spans n fs (times one_ℚ (powered t.by one) f) r
          (variables-times n one_ℚ (powered t.by one) f (ring-powered n t.by one (ring-product_power n 1)) (variables_of_member n hs f k m)) t.spans;
    })
  where
    one : Exponents
    one = product_power n 1

pub way_divided : (n : ℕ) (fs gs hs : List Terms) (v : Exponents) → AreInVariables n fs → IsOnTheWay n fs gs v → AreInVariables n hs →
    ((h : Terms) → Contains hs h → IsSaturated n fs h) → ((g : Terms) → Contains gs g → IsMember n hs g) → IsOnTheWay n fs hs v
way_divided n fs gs hs v r w k d g = record {
  ring = k;
  inside = λ f m. saturated_combined n fs hs f r k d m;
  left = λ f s. let t = w.left f s in record { power = t.power; member = member-trans n hs gs (times one_ℚ (powered t.power v) f) k g t.member };
}

pub way_variable : (n k : ℕ) (fs gs hs : List Terms) (v : Exponents) → k < n → IsInRing n v → AreInVariables n fs →
    IsOnTheWay n fs gs (plus v (next_variable k)) →
    AreInVariables n hs → ((f : Terms) → IsMember n hs f ↔ IsSaturatedBy n gs (next_variable k) f) → IsOnTheWay n fs hs v
way_variable n k fs gs hs v l rv r w h eq = record {
  ring = h;
  inside = λ f m. inside f m ((eq f).0 m);
  left = λ f s. (saturated_twice n v (next_variable k) gs hs rv (λ i g. ring-next k i (omega (arith, l, g))) eq f).1 (w.left f s);
}
  where
    inside : (f : Terms) → IsMember n hs f → IsSaturatedBy n gs (next_variable k) f → IsSaturated n fs f
    inside f m t = at (w.inside (times one_ℚ x f) t.member)
      where
        x : Exponents
        x = powered t.power (next_variable k)

        at : IsSaturated n fs (times one_ℚ x f) → IsSaturated n fs f
        at s = record {
          power = s.power + t.power;
          member =
              member_of_spans n fs (times one_ℚ (product_power n (s.power + t.power)) f) r
              (variables-times n one_ℚ (product_power n (s.power + t.power)) f (ring-product_power n (s.power + t.power)) (variables_of_member n hs f h m))
              (spans_more fs f (plus (product_power n s.power) x) (product_power n (s.power + t.power)) (λ i. entries i (cases_lt i n) (cases_at i k))
              (Spans-equal fs (times one_ℚ (product_power n s.power) (times one_ℚ x f)) (times one_ℚ (plus (product_power n s.power) x) f)
              (λ e. ap (λ g. coefficient g e) (sym (twice (product_power n s.power) x f)))
              (spans_of_member n fs (times one_ℚ (product_power n s.power) (times one_ℚ x f)) s.member)));
        }
          where
            most : (i : ℕ) → ((i < k) ⊎ (k < i)) ⊎ (i ≡ k) → entry x i ≤ t.power
            most i (inl g) = omega (arith, power-other t.power k i g)
            most i (inr e) = omega (arith, ap (entry x) e, power-here t.power k)

            entries : (i : ℕ) → (i < n) ⊎ (n ≤ i) → ((i < k) ⊎ (k < i)) ⊎ (i ≡ k) →
                entry (plus (product_power n s.power) x) i ≤ entry (product_power n (s.power + t.power)) i
            entries i (inl g) c =
                omega (
                  arith,
                  entry-plus (product_power n s.power) x i,
                  entry-product_power n s.power i g,
                  entry-product_power n (s.power + t.power) i g,
                  most i c,
                )
            entries i (inr g) c =
                omega (
                  arith,
                  entry-plus (product_power n s.power) x i,
                  ring-product_power n s.power i g,
                  ring-powered n t.power (next_variable k)
                      (λ j q. ring-next k j (omega (arith, l, q))) i g,
                )

pub way_spared : (n k : ℕ) (fs gs : List Terms) (a b v : Exponents) → k < n → IsInRing n v → IsOnTheWay n fs gs (plus v (next_variable k)) →
    IsMember n gs (difference a b) → 1 ≤ entry a k → ((i : ℕ) → entry v i ≡ 0 → entry b i ≡ 0) → IsOnTheWay n fs gs v
way_spared n k fs gs a b v l rv w m u h = record { ring = w.ring; inside = w.inside; left = λ f s. at f (w.left f s) }
  where
    x : Exponents
    x = next_variable k

    at : (f : Terms) → IsSaturatedBy n gs (plus v x) f → IsSaturatedBy n gs v f
    at f s = record {
      power = q;
      member =
          member_of_spans n gs (times one_ℚ (powered q v) f) w.ring
          (variables-times n one_ℚ (powered q v) f (ring-powered n q v rv) (variables_of_saturated n gs (plus v x) f w.ring s))
          (spans_more gs f (plus (powered p b) (powered p v)) (powered q v) second
          (traded gs a b p (powered p v) f (spans_of_member n gs (difference a b) m)
          (spans_more gs f (powered p (plus v x)) (plus (powered p a) (powered p v)) first
          (spans_of_member n gs (times one_ℚ (powered p (plus v x)) f) s.member))));
    }
      where
        p : ℕ
        p = s.power

        q : ℕ
        q = degree (powered p b) + p

        less : (i : ℕ) → ((i < k) ⊎ (k < i)) ⊎ (i ≡ k) → entry x i ≤ entry a i
        less i (inl g) = omega (arith, next-other k i g)
        less i (inr e) = omega (arith, ap (entry x) e, ap (entry a) e, next-here k, u)

        first : (i : ℕ) → entry (powered p (plus v x)) i ≤ entry (plus (powered p a) (powered p v)) i
        first i =
            omega (
              arith,
              entries_same (powered p (plus v x)) (plus (powered p v) (powered p x)) (powered-plus p v x) i,
              entry-plus (powered p v)
                  (powered p x) i,
              entry-plus (powered p a) (powered p v) i,
              powered-least p x a i (less i (cases_at i k)),
            )

        second : (i : ℕ) → entry (plus (powered p b) (powered p v)) i ≤ entry (powered q v) i
        second i = by (cases_lt 0 (entry v i))
          where
            split : entry (powered (degree (powered p b)) v) i + entry (powered p v) i ≡ entry (powered q v) i
            split = sym (entry-plus (powered (degree (powered p b)) v) (powered p v) i) ∙ ap (λ z. entry z i) (powered-sum (degree (powered p b)) p v)

            by : (0 < entry v i) ⊎ (entry v i ≤ 0) → entry (plus (powered p b) (powered p v)) i ≤ entry (powered q v) i
            by (inl g) =
                omega (
                  arith,
                  entry-plus (powered p b) (powered p v) i,
                  split,
                  entry-degree (powered p b) i,
                  powered-up (degree (powered p b)) v i
                      (omega (arith, g)),
                )
            by (inr g) = omega (arith, entry-plus (powered p b) (powered p v) i, split, powered-none p b i (h i (omega (arith, g))))

pub way_ended : (n : ℕ) (fs gs : List Terms) (f : Terms) → IsOnTheWay n fs gs [] → IsMember n gs f ↔ IsSaturated n fs f
way_ended n fs gs f w = (
  w.inside f,
  λ s. let t =
      w.left f s in member-equal n gs (times one_ℚ (powered t.power []) f) f (λ e. ap (λ x. coefficient (times one_ℚ x f) e) (none t.power)
      ∙ ap (λ g. coefficient g e) (times-plain f)) t.member,
)
  where
    none : (k : ℕ) → powered k [] ≡ []
    none zero = refl
    none (suc k) = none k
