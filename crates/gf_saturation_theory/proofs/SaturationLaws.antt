-- Rabinowitsch's trick: a polynomial in the first n variables is in the ideal of the extended list exactly where it is in the
-- saturation.
-- To cite: one_more, extended_variables, variables_of_saturated, extended_of_saturated, saturated_of_extended, saturated_twice,
-- saturated_same, saturated_product.
use Rattle.std.proofs.Common.{◌≡◌, ◌⊎◌, ◌↔◌, ℕ, zero, suc, ◌+◌, ◌-◌, ◌<◌, ◌≤◌, true, if◌then◌else◌, List, [], ◌∷◌, ◌++◌, Contains, max, arith, refl, sym, ap}
use Rattle.std.proofs.Common.{◌∙◌, inl, inr}
use Rattle.gf_frac.specs.Fraction.{Fraction, ◌+ℚ◌, ◌*ℚ◌, neg_ℚ, zero_ℚ, one_ℚ}
use Rattle.gf_frac.proofs.FractionLaws.{+ℚ-zero, zero-+ℚ, *ℚ_comm, one-*ℚ, +ℚ-neg_ℚ, +ℚ-middle}
use Rattle.gf_exponents_theory.specs.Exponents.{Exponents, entry, same, plus, IsInRing}
use Rattle.gf_exponents_theory.proofs.ExponentsLaws.{same-sym, same_along, same_flip, same_shift_right, same_by_entries, entries_same, entry-plus, plus-nil}
use Rattle.gf_exponents_theory.proofs.ExponentsLaws.{plus_assoc, plus_comm}
use Rattle.gf_poly.specs.declared.Term.{Term}
use Rattle.gf_poly.specs.Polynomial.{Terms, coefficient, SamePolynomial, times}
use Rattle.gf_poly.proofs.PolynomialLaws.{coefficient-++, coefficient-times, SamePolynomial-times, times-plain}
use Rattle.gf_ideal_theory.specs.Membership.{IsInVariables, AreInVariables, IsMember, Spans}
use Rattle.gf_ideal_theory.proofs.Identities.{neg_one, turned}
use Rattle.gf_ideal_theory.proofs.RingLaws.{ring-along, ring-plus}
use Rattle.gf_ideal_theory.proofs.ListedTerms.{by_terms}
use Rattle.gf_ideal_theory.proofs.SpanLaws.{Spans-equal, Spans-zero, Spans-generator, Spans-++, Spans-times, Spans-difference, Spans-trans}
use Rattle.gf_ideal_theory.proofs.MembershipLaws.{variables-times, variables-equal, variables_of_member, spans_of_member, member_of_spans, member-equal}
use Rattle.gf_ideal_theory.proofs.MembershipLaws.{member-times}
use Rattle.gf_saturation_theory.specs.Saturations.{powered, product_power, IsSaturatedBy, IsSaturated, next_variable, rabinowitsch, AreExtended}
use Rattle.gf_saturation_theory.proofs.SubstitutionLaws.{mapped, mapped-++, mapped_same, cut, inverted, inverted-keeps, inverted_multiple, inverted_trick}
use Rattle.gf_saturation_theory.proofs.SubstitutionLaws.{ring-powered, ring-next}
use Rattle.gf_poly.proofs.MergeLaws.{swap_first}
use Rattle.gf_ideal_theory.proofs.SettledLaws.{twice}

-- ---- in how many variables

-- polynomials in n variables are polynomials in one more
pub one_more : (n : ℕ) (f : Terms) → IsInVariables n f → IsInVariables (suc n) f
one_more n f v x m i l = v x m i (omega arith)

rabinowitsch_variables : (n : ℕ) (u : Exponents) → IsInRing n u → IsInVariables (suc n) (rabinowitsch n u)
rabinowitsch_variables n u r = by_terms (IsInRing (suc n)) (rabinowitsch n u) (ring-along (suc n))
    (ring-plus (suc n) u (next_variable n) (λ i l. r i (omega arith)) (ring-next n), ((λ i l. refl), tt))

pub extended_variables : (n : ℕ) (u : Exponents) (fs gs : List Terms) → IsInRing n u → AreInVariables n fs → AreExtended n u fs gs → AreInVariables (suc n) gs
extended_variables n u fs gs h v x g k = at (x.only g k)
  where
    at : ((f : Terms) × Contains fs f × SamePolynomial f g) ⊎ SamePolynomial (rabinowitsch n u) g → IsInVariables (suc n) g
    at (inl f) = variables-equal (suc n) f.0 g f.2 (one_more n f.0 (v f.0 f.1))
    at (inr e) = variables-equal (suc n) (rabinowitsch n u) g e (rabinowitsch_variables n u h)

-- what has a multiple in n variables is in n variables
pub variables_of_multiple : (n : ℕ) (u : Exponents) (f : Terms) → IsInVariables n (times one_ℚ u f) → IsInVariables n f
variables_of_multiple n u f v x m i l =
    let r = v (plus u x) (λ z. m (sym (one-*ℚ _) ∙ sym (coefficient-times one_ℚ u f x) ∙ z)) i l in
    omega (arith, r, entry-plus u x i)

pub variables_of_saturated : (n : ℕ) (fs : List Terms) (u : Exponents) (f : Terms) → AreInVariables n fs → IsSaturatedBy n fs u f → IsInVariables n f
variables_of_saturated n fs u f v s = variables_of_multiple n (powered s.power u) f (variables_of_member n fs (times one_ℚ (powered s.power u) f) v s.member)

-- multiples by the same monomial
pub times_same : (c : Fraction) (u w : Exponents) (f : Terms) → same u w ≡ true → SamePolynomial (times c u f) (times c w f)
times_same c u w [] h e = refl
times_same c u w (t ∷ f) h e =
    ap (λ b. (if b then c *ℚ t.coef else zero_ℚ) +ℚ coefficient (times c u f) e) (same-sym e (plus u t.mono) ∙ same_along (plus u t.mono) (plus w t.mono) e
    (same_shift_right t.mono u w h) ∙ same-sym (plus w t.mono) e)
    ∙ ap (λ z. (if same e (plus w t.mono) then c *ℚ t.coef else zero_ℚ) +ℚ z) (times_same c u w f h e)

-- ---- from the saturation to the extended ideal

-- f times the trick
trick_multiple : (n : ℕ) (u : Exponents) (gs : List Terms) → Spans gs (rabinowitsch n u) → (f : Terms) →
    Spans gs (times one_ℚ (plus u (next_variable n)) f ++ times (neg_ℚ one_ℚ) [] f)
trick_multiple n u gs s [] = Spans-zero gs
trick_multiple n u gs s (t ∷ f) = Spans-equal gs (times t.coef t.mono (rabinowitsch n u) ++ (times one_ℚ m f ++ times (neg_ℚ one_ℚ) [] f))
    (times one_ℚ m (t ∷ f) ++ times (neg_ℚ one_ℚ) [] (t ∷ f)) equal
    (Spans-++ gs (times t.coef t.mono (rabinowitsch n u)) (times one_ℚ m f ++ times (neg_ℚ one_ℚ) [] f) (Spans-times gs (rabinowitsch n u) t.coef t.mono s)
    (trick_multiple n u gs s f))
  where
    m : Exponents
    m = plus u (next_variable n)

    a : Term
    a = record { coef = one_ℚ *ℚ t.coef; mono = plus m t.mono }

    b : Term
    b = record { coef = neg_ℚ one_ℚ *ℚ t.coef; mono = t.mono }

    two : times t.coef t.mono (rabinowitsch n u) ≡ a ∷ b ∷ []
    two =
        ap (λ c. record { coef = c; mono = plus t.mono m } ∷ record { coef = t.coef *ℚ neg_ℚ one_ℚ; mono = plus t.mono [] } ∷ []) (*ℚ_comm t.coef one_ℚ)
        ∙ ap (λ x. record { coef = one_ℚ *ℚ t.coef; mono = x } ∷ record { coef = t.coef *ℚ neg_ℚ one_ℚ; mono = plus t.mono [] } ∷ []) (plus_comm t.mono m)
        ∙ ap (λ c. a ∷ record { coef = c; mono = plus t.mono [] } ∷ []) (*ℚ_comm t.coef (neg_ℚ one_ℚ))
        ∙ ap (λ x. a ∷ record { coef = neg_ℚ one_ℚ *ℚ t.coef; mono = x } ∷ []) (plus-nil t.mono)

    P : Terms
    P = times one_ℚ m f

    Q : Terms
    Q = times (neg_ℚ one_ℚ) [] f

    equal : SamePolynomial (times t.coef t.mono (rabinowitsch n u) ++ (P ++ Q)) ((a ∷ P) ++ (b ∷ Q))
    equal e =
        ap (λ z. coefficient (z ++ (P ++ Q)) e) two
        ∙ coefficient-++ (a ∷ b ∷ []) (P ++ Q) e
        ∙ ap (λ z. coefficient (a ∷ b ∷ []) e +ℚ z) (coefficient-++ P Q e)
        ∙ ap (λ z. z +ℚ (coefficient P e +ℚ coefficient Q e)) (coefficient-++ (a ∷ []) (b ∷ []) e)
        ∙ +ℚ-middle _ _ _ _
        ∙ ap (λ z. z +ℚ (coefficient (b ∷ []) e +ℚ coefficient Q e)) (sym (coefficient-++ (a ∷ []) P e))
        ∙ ap (λ z. coefficient (a ∷ P) e +ℚ z) (sym (coefficient-++ (b ∷ []) Q e))
        ∙ sym (coefficient-++ (a ∷ P) (b ∷ Q) e)

-- what u times the next variable takes into the ideal is in it
lifted_one : (n : ℕ) (u : Exponents) (gs : List Terms) (f : Terms) → Spans gs (rabinowitsch n u) → Spans gs (times one_ℚ (plus u (next_variable n)) f) →
    Spans gs f
lifted_one n u gs f r s = Spans-equal gs (times one_ℚ m f ++ times (neg_ℚ one_ℚ) [] d) f equal
    (Spans-difference gs (times one_ℚ m f) d s (trick_multiple n u gs r f))
  where
    m : Exponents
    m = plus u (next_variable n)

    d : Terms
    d = times one_ℚ m f ++ times (neg_ℚ one_ℚ) [] f

    all : (e : Exponents) → coefficient (times one_ℚ m f) e ≡ coefficient f e +ℚ coefficient d e
    all e = at (coefficient (times one_ℚ m f) e) (coefficient f e) ∙
        ap (λ z. coefficient f e +ℚ z) (sym (coefficient-++ (times one_ℚ m f) (times (neg_ℚ one_ℚ) [] f) e ∙
        ap (λ z. coefficient (times one_ℚ m f) e +ℚ z) (coefficient-times (neg_ℚ one_ℚ) [] f e ∙ neg_one (coefficient f e))))
      where
        at : (a b : Fraction) → a ≡ b +ℚ (a +ℚ neg_ℚ b)
        at a b = sym (+ℚ-zero a) ∙ ap (λ z. a +ℚ z) (sym (+ℚ-neg_ℚ b)) ∙ swap_first a b (neg_ℚ b)

    equal : SamePolynomial (times one_ℚ m f ++ times (neg_ℚ one_ℚ) [] d) f
    equal e =
        coefficient-++ (times one_ℚ m f) (times (neg_ℚ one_ℚ) [] d) e
        ∙ ap (λ z. coefficient (times one_ℚ m f) e +ℚ z) (coefficient-times (neg_ℚ one_ℚ) [] d e)
        ∙ sym (turned (coefficient (times one_ℚ m f) e) (coefficient f e) (coefficient d e) (all e))

-- so does a power of it
lifted : (n : ℕ) (u : Exponents) (gs : List Terms) (k : ℕ) (f : Terms) → Spans gs (rabinowitsch n u) →
    Spans gs (times one_ℚ (powered k (plus u (next_variable n))) f) → Spans gs f
lifted n u gs zero f r s = Spans-equal gs (times one_ℚ [] f) f (λ e. ap (λ z. coefficient z e) (times-plain f)) s
lifted n u gs (suc k) f r s = lifted n u gs k f r (lifted_one n u gs (times one_ℚ (powered k m) f) r (Spans-equal gs (times one_ℚ (plus m (powered k m)) f)
    (times one_ℚ m (times one_ℚ (powered k m) f)) (λ e. ap (λ z. coefficient z e) (twice m (powered k m) f)) s))
  where
    m : Exponents
    m = plus u (next_variable n)

-- the power of a product
pub powered-plus : (k : ℕ) (u v : Exponents) → same (powered k (plus u v)) (plus (powered k u) (powered k v)) ≡ true
powered-plus k u v = same_by_entries (powered k (plus u v)) (plus (powered k u) (powered k v)) (λ i. at k i ∙ sym (entry-plus (powered k u) (powered k v) i))
  where
    at : (k i : ℕ) → entry (powered k (plus u v)) i ≡ entry (powered k u) i + entry (powered k v) i
    at zero i = omega arith
    at (suc k) i = omega (
      arith,
      at k i,
      entry-plus (plus u v) (powered k (plus u v)) i,
      entry-plus u v i,
      entry-plus u (powered k u) i,
      entry-plus v (powered k v) i,
    )

pub extended_of_saturated : (n : ℕ) (u : Exponents) (fs gs : List Terms) (f : Terms) → IsInRing n u → AreInVariables n fs → AreExtended n u fs gs →
    IsSaturatedBy n fs u f → IsMember (suc n) gs f
extended_of_saturated n u fs gs f h v x s = member_of_spans (suc n) gs f (extended_variables n u fs gs h v x)
    (one_more n f (variables_of_saturated n fs u f v s))
    (lifted n u gs k f trick (Spans-equal gs (times one_ℚ (powered k t) (times one_ℚ (powered k u) f)) (times one_ℚ (powered k (plus u t)) f) equal
    (Spans-times gs (times one_ℚ (powered k u) f) one_ℚ (powered k t) inside)))
  where
    k : ℕ
    k = s.power

    t : Exponents
    t = next_variable n

    trick : Spans gs (rabinowitsch n u)
    trick = Spans-equal gs x.trick.0 (rabinowitsch n u) (λ e. sym (x.trick.2 e)) (Spans-generator gs x.trick.0 x.trick.1)

    inside : Spans gs (times one_ℚ (powered k u) f)
    inside = Spans-trans gs fs (times one_ℚ (powered k u) f) (λ g c. let h = x.each g c in Spans-equal gs h.0 g (λ e. sym (h.2 e)) (Spans-generator gs h.0 h.1))
        (spans_of_member n fs (times one_ℚ (powered k u) f) s.member)

    equal : SamePolynomial (times one_ℚ (powered k t) (times one_ℚ (powered k u) f)) (times one_ℚ (powered k (plus u t)) f)
    equal e =
        ap (λ z. coefficient z e) (sym (twice (powered k t) (powered k u) f) ∙ ap (λ y. times one_ℚ y f) (plus_comm (powered k t) (powered k u)))
        ∙ times_same one_ℚ (plus (powered k u) (powered k t)) (powered k (plus u t)) f (same_flip (powered k (plus u t)) (plus (powered k u) (powered k t))
        (powered-plus k u t)) e

-- ---- from the extended ideal to the saturation

-- what the extended ideal has, with the next variable exchanged and enough of u, is in the ideal
record IsCleared (n : ℕ) (u : Exponents) (fs : List Terms) (f : Terms) : Type 0 where
  from : ℕ
  spans : (k : ℕ) → from ≤ k → Spans fs (mapped (inverted n u k) f)

cleared : (n : ℕ) (u : Exponents) (fs gs : List Terms) (f : Terms) → IsInRing n u → AreInVariables n fs → AreExtended n u fs gs → Spans gs f →
    IsCleared n u fs f
cleared n u fs gs f i v x (Spans.none h z) = record {
  from = 0;
  spans = λ k l. Spans.none (mapped (inverted n u k) f) (mapped_same (inverted n u k) (inverted-keeps n k u i) f [] z);
}
cleared n u fs gs f i v x (Spans.more c w p h g j s q) = at (x.only p j) (cleared n u fs gs g i v x s)
  where
    parts : (k : ℕ) → SamePolynomial (mapped (inverted n u k) f) (mapped (inverted n u k) (times c w p) ++ mapped (inverted n u k) g)
    parts k e = mapped_same (inverted n u k) (inverted-keeps n k u i) f (times c w p ++ g) q e ∙ ap (λ z. coefficient z e)
        (mapped-++ (inverted n u k) (times c w p) g)

    at : ((r : Terms) × Contains fs r × SamePolynomial r p) ⊎ SamePolynomial (rabinowitsch n u) p → IsCleared n u fs g → IsCleared n u fs f
    at (inl r) d = record {
      from = d.from;
      spans = λ k l. Spans-equal fs (times c (inverted n u k w) r.0 ++ mapped (inverted n u k) g) (mapped (inverted n u k) f) (λ e. sym (equal k e))
          (Spans-++ fs (times c (inverted n u k w) r.0) (mapped (inverted n u k) g) (Spans-times fs r.0 c (inverted n u k w) (Spans-generator fs r.0 r.1))
          (d.spans k l));
    }
      where
        equal : (k : ℕ) → SamePolynomial (mapped (inverted n u k) f) (times c (inverted n u k w) r.0 ++ mapped (inverted n u k) g)
        equal k e =
            parts k e
            ∙ coefficient-++ (mapped (inverted n u k) (times c w p)) (mapped (inverted n u k) g) e
            ∙ ap (λ z. z +ℚ coefficient (mapped (inverted n u k) g) e) (mapped_same (inverted n u k) (inverted-keeps n k u i) (times c w p) (times c w r.0)
            (SamePolynomial-times c w p r.0 (λ y. sym (r.2 y))) e ∙ inverted_multiple n k u c w r.0 i (v r.0 r.1) e)
            ∙ sym (coefficient-++ (times c (inverted n u k w) r.0) (mapped (inverted n u k) g) e)
    at (inr r) d = record {
      from = max d.from (suc (entry w n));
      spans = λ k l. Spans-equal fs (mapped (inverted n u k) g) (mapped (inverted n u k) f) (λ e. sym (equal k (omega arith) e)) (d.spans k (omega arith));
    }
      where
        equal : (k : ℕ) → entry w n < k → SamePolynomial (mapped (inverted n u k) f) (mapped (inverted n u k) g)
        equal k l e =
            parts k e
            ∙ coefficient-++ (mapped (inverted n u k) (times c w p)) (mapped (inverted n u k) g) e
            ∙ ap (λ z. z +ℚ coefficient (mapped (inverted n u k) g) e) (mapped_same (inverted n u k) (inverted-keeps n k u i) (times c w p)
            (times c w (rabinowitsch n u)) (SamePolynomial-times c w p (rabinowitsch n u) (λ y. sym (r y))) e ∙ inverted_trick n k u c w i l e)
            ∙ zero-+ℚ _

-- of a polynomial in the first n variables it is the power of u times it
inverted_whole : (n k : ℕ) (u : Exponents) (f : Terms) → IsInRing n u → IsInVariables n f →
    SamePolynomial (mapped (inverted n u k) f) (times one_ℚ (powered k u) f)
inverted_whole n k u f i v e =
    ap (λ z. coefficient (mapped (inverted n u k) z) e) (sym (times-plain f))
    ∙ inverted_multiple n k u one_ℚ [] f i v e
    ∙ ap (λ z. coefficient (times one_ℚ (plus (cut n []) (powered z u)) f) e) all
    ∙ ap (λ x. coefficient (times one_ℚ (plus x (powered k u)) f) e) (none n)
  where
    all : k - 0 ≡ k
    all = omega arith

    none : (m : ℕ) → cut m [] ≡ []
    none zero = refl
    none (suc m) = refl

pub saturated_of_extended : (n : ℕ) (u : Exponents) (fs gs : List Terms) (f : Terms) → IsInRing n u → AreInVariables n fs → AreExtended n u fs gs →
    IsInVariables n f → IsMember (suc n) gs f → IsSaturatedBy n fs u f
saturated_of_extended n u fs gs f i v x w m = at (cleared n u fs gs f i v x (spans_of_member (suc n) gs f m))
  where
    at : IsCleared n u fs f → IsSaturatedBy n fs u f
    at d = record {
      power = d.from;
      member = member_of_spans n fs (times one_ℚ (powered d.from u) f) v (variables-times n one_ℚ (powered d.from u) f (ring-powered n d.from u i) w)
          (Spans-equal fs (mapped (inverted n u d.from) f) (times one_ℚ (powered d.from u) f) (inverted_whole n d.from u f i w) (d.spans d.from (omega arith)));
    }

-- ---- one saturation after another

pub saturated_same : (n : ℕ) (u v : Exponents) (fs : List Terms) (f : Terms) → same u v ≡ true → IsSaturatedBy n fs u f → IsSaturatedBy n fs v f
saturated_same n u v fs f h s = record {
  power = s.power;
  member = member-equal n fs (times one_ℚ (powered s.power u) f) (times one_ℚ (powered s.power v) f) (times_same one_ℚ (powered s.power u) (powered s.power v) f
      (at s.power)) s.member;
}
  where
    at : (k : ℕ) → same (powered k u) (powered k v) ≡ true
    at zero = refl
    at (suc k) = same_by_entries (plus u (powered k u)) (plus v (powered k v)) (λ i. omega (
      arith,
      entry-plus u (powered k u) i,
      entry-plus v (powered k v) i,
      entries_same u v h i,
      entries_same (powered k u) (powered k v) (at k) i,
    ))

powered-sum : (j k : ℕ) (u : Exponents) → plus (powered j u) (powered k u) ≡ powered (j + k) u
powered-sum zero k u = let e : k ≡ 0 + k = omega arith in ap (λ z. powered z u) e
powered-sum (suc j) k u = let e : suc (j + k) ≡ suc j + k = omega arith in plus_assoc u (powered j u) (powered k u) ∙ ap (plus u) (powered-sum j k u) ∙
    ap (λ z. powered z u) e

-- more of the power
more_power : (n : ℕ) (u : Exponents) (fs : List Terms) (f : Terms) (j k : ℕ) → IsInRing n u → IsMember n fs (times one_ℚ (powered k u) f) →
    IsMember n fs (times one_ℚ (powered (j + k) u) f)
more_power n u fs f j k r m = member-equal n fs (times one_ℚ (powered j u) (times one_ℚ (powered k u) f)) (times one_ℚ (powered (j + k) u) f)
    (λ e. ap (λ z. coefficient z e) (sym (twice (powered j u) (powered k u) f) ∙ ap (λ y. times one_ℚ y f) (powered-sum j k u)))
    (member-times n fs (times one_ℚ (powered k u) f) one_ℚ (powered j u) (ring-powered n j u r) m)

pub saturated_twice : (n : ℕ) (u v : Exponents) (fs gs : List Terms) → IsInRing n u → IsInRing n v → ((f : Terms) → IsMember n gs f ↔ IsSaturatedBy n fs v f) →
    (f : Terms) → IsSaturatedBy n gs u f ↔ IsSaturatedBy n fs (plus u v) f
saturated_twice n u v fs gs ru rv eq f = (to, from)
  where
    to : IsSaturatedBy n gs u f → IsSaturatedBy n fs (plus u v) f
    to s = at ((eq (times one_ℚ (powered s.power u) f)).0 s.member)
      where
        at : IsSaturatedBy n fs v (times one_ℚ (powered s.power u) f) → IsSaturatedBy n fs (plus u v) f
        at t =
            let j : ℕ = s.power in
            let k : ℕ = t.power in
            record {
              power = k + j;
              member = member-equal n fs (times one_ℚ (powered k u) (times one_ℚ (powered (j + k) v) (times one_ℚ (powered j u) f)))
                  (times one_ℚ (powered (k + j) (plus u v)) f)
                  (λ e.
                  ap (λ z. coefficient (times one_ℚ (powered k u) z) e) (sym (twice (powered (j + k) v) (powered j u) f))
                  ∙ ap (λ z. coefficient z e) (sym (twice (powered k u) (plus (powered (j + k) v) (powered j u)) f))
                  ∙ times_same one_ℚ (plus (powered k u) (plus (powered (j + k) v) (powered j u))) (powered (k + j) (plus u v)) f
                  (same_by_entries (plus (powered k u) (plus (powered (j + k) v) (powered j u))) (powered (k + j) (plus u v)) (λ i.
                  omega (
                    arith,
                    entry-plus (powered k u) (plus (powered (j + k) v) (powered j u)) i,
                    entry-plus (powered (j + k) v) (powered j u) i,
                    ap (λ z. entry z i) (powered-sum k j u),
                    entry-plus (powered k u) (powered j u) i,
                    entries_same (powered (k + j) (plus u v)) (plus (powered (k + j) u) (powered (k + j) v)) (powered-plus (k + j) u v) i,
                    entry-plus (powered (k + j) u) (powered (k + j) v) i,
                    ap (λ z. entry (powered z v) i) (sum_turned j k),
                  ))) e)
                  (member-times n fs (times one_ℚ (powered (j + k) v) (times one_ℚ (powered j u) f)) one_ℚ (powered k u) (ring-powered n k u ru)
                  (more_power n v fs (times one_ℚ (powered j u) f) j k rv t.member));
            }
          where
            sum_turned : (j k : ℕ) → j + k ≡ k + j
            sum_turned j k = omega arith

    from : IsSaturatedBy n fs (plus u v) f → IsSaturatedBy n gs u f
    from s = record {
      power = s.power;
      member = (eq (times one_ℚ (powered s.power u) f)).1 (record {
        power = s.power;
        member = member-equal n fs (times one_ℚ (powered s.power (plus u v)) f) (times one_ℚ (powered s.power v) (times one_ℚ (powered s.power u) f))
            (λ e.
            times_same one_ℚ (powered s.power (plus u v)) (plus (powered s.power u) (powered s.power v)) f (powered-plus s.power u v) e
            ∙ ap (λ z. coefficient z e) (ap (λ y. times one_ℚ y f) (plus_comm (powered s.power u) (powered s.power v)) ∙ twice (powered s.power v)
            (powered s.power u) f))
            s.member;
      });
    }

-- the powers of the product of the variables
pub product_powers : (n k : ℕ) → same (powered k (product_power n 1)) (product_power n k) ≡ true
product_powers n zero = same_by_entries [] (product_power n 0) (λ i. sym (zeros n i))
  where
    zeros : (n i : ℕ) → entry (product_power n 0) i ≡ 0
    zeros zero i = refl
    zeros (suc n) zero = refl
    zeros (suc n) (suc i) = zeros n i
product_powers n (suc k) = same_by_entries (plus (product_power n 1) (powered k (product_power n 1))) (product_power n (suc k))
    (λ i. omega (
      arith,
      entry-plus (product_power n 1) (powered k (product_power n 1)) i,
      entries_same (powered k (product_power n 1)) (product_power n k)
          (product_powers n k) i,
      at n i,
    ))
  where
    at : (n i : ℕ) → entry (product_power n 1) i + entry (product_power n k) i ≡ entry (product_power n (suc k)) i
    at zero i = refl
    at (suc n) zero = omega arith
    at (suc n) (suc i) = at n i

pub saturated_product : (n : ℕ) (fs : List Terms) (f : Terms) → IsSaturated n fs f ↔ IsSaturatedBy n fs (product_power n 1) f
saturated_product n fs f = (
  λ s. record {
    power = s.power;
    member = member-equal n fs (times one_ℚ (product_power n s.power) f) (times one_ℚ (powered s.power (product_power n 1)) f)
        (times_same one_ℚ (product_power n s.power) (powered s.power (product_power n 1)) f
        (same_flip (powered s.power (product_power n 1)) (product_power n s.power) (product_powers n s.power))) s.member;
  },
  λ s. record {
    power = s.power;
    member = member-equal n fs (times one_ℚ (powered s.power (product_power n 1)) f) (times one_ℚ (product_power n s.power) f)
        (times_same one_ℚ (powered s.power (product_power n 1)) (product_power n s.power) f (product_powers n s.power)) s.member;
  },
)
