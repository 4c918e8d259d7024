-- Polynomials of one term in an ideal, and 1 in its saturation.
-- To cite: saturated_one, one_term_of_saturated, one_by_mark, mark_of_one.
use Rattle.std.proofs.Common.{◌≡◌, ◌≢◌, ◌⊎◌, ℕ, ◌<◌, ◌≤◌, Bool, true, false, if◌then◌else◌, List, [], ◌∷◌, Contains, arith, refl, sym, ap, ◌∙◌, inl, inr}
use Rattle.std.proofs.lemmas.Bool.{cases_lt}
use Rattle.gf_frac.specs.Fraction.{Fraction, ◌+ℚ◌, ◌*ℚ◌, reciprocal_ℚ, zero_ℚ, one_ℚ}
use Rattle.gf_frac.proofs.FractionLaws.{+ℚ-zero, one-*ℚ, zero_or_not, reciprocal_ℚ-*ℚ}
use Rattle.gf_exponents_theory.specs.Exponents.{Exponents, entry, same, plus, minus, degree, IsInRing}
use Rattle.gf_exponents_theory.specs.Orders.{IsDeglexBelow}
use Rattle.gf_exponents_theory.proofs.ExponentsLaws.{same-sym, same_along, same-refl, same_by_entries, entries_same, entry-plus, entry-minus, plus-nil}
use Rattle.gf_exponents_theory.proofs.WeightLaws.{degree-same}
use Rattle.gf_poly.specs.Polynomial.{Terms, coefficient, SamePolynomial, times}
use Rattle.gf_poly.specs.Marking.{MarkedPolynomial}
use Rattle.gf_poly.proofs.PolynomialLaws.{coefficient-same, SamePolynomial-times}
use Rattle.gf_ideal_theory.specs.Membership.{HasMonomial, AreInVariables, IsMember}
use Rattle.gf_ideal_theory.specs.Marks.{IsMarked}
use Rattle.gf_ideal_theory.specs.Bases.{IsGreatest, IsReducedBasisFor}
use Rattle.gf_ideal_theory.specs.Reduction.{IsDivisible}
use Rattle.gf_ideal_theory.proofs.Identities.{one_not_zero}
use Rattle.gf_ideal_theory.proofs.MembershipLaws.{variables_of_member, member-times, member-equal}
use Rattle.gf_ideal_theory.proofs.RingLaws.{entry-degree}
use Rattle.gf_saturation_theory.specs.Saturations.{product_power, IsSaturated, IsOfOneTerm, HasOneTermMember, one_polynomial}
use Rattle.gf_saturation_theory.proofs.SubstitutionLaws.{entry-product_power, ring-product_power}

-- a polynomial of one term
abbrev one_term : Fraction → Exponents → Terms
one_term c x = record { coef = c; mono = x } ∷ []

one_term_same : (c d : Fraction) (x y : Exponents) → c ≡ d → same x y ≡ true → SamePolynomial (one_term c x) (one_term d y)
one_term_same c d x y q s e =
    ap (λ b. (if b then c else zero_ℚ) +ℚ zero_ℚ) (same-sym e x ∙ same_along x y e s ∙ same-sym y e)
    ∙ ap (λ z. (if same e y then z else zero_ℚ) +ℚ zero_ℚ) q

-- with no other monomials a polynomial is one
one_term_of : (f : Terms) (x : Exponents) → ((y : Exponents) → HasMonomial f y → same y x ≡ true) → SamePolynomial f (one_term (coefficient f x) x)
one_term_of f x h e = at (same e x) refl
  where
    at : (b : Bool) → same e x ≡ b → coefficient f e ≡ (if b then coefficient f x else zero_ℚ) +ℚ zero_ℚ
    at true s = coefficient-same f e x s ∙ sym (+ℚ-zero _)
    at false s = none (zero_or_not (coefficient f e)) ∙ sym (+ℚ-zero zero_ℚ)
      where
        none : (coefficient f e ≡ zero_ℚ) ⊎ HasMonomial f e → coefficient f e ≡ zero_ℚ
        none (inl z) = z
        none (inr m) = let t : same e x ≡ true = h e m in absurd (cc)

one_term_alone : (c : Fraction) (x : Exponents) → c ≢ zero_ℚ → IsOfOneTerm (one_term c x) x
one_term_alone c x n = record {
  there = λ z. n (sym (+ℚ-zero c) ∙ ap (λ b. (if b then c else zero_ℚ) +ℚ zero_ℚ) (sym (same-refl x)) ∙ z);
  alone = λ y m. at y (same y x) refl m;
}
  where
    at : (y : Exponents) (b : Bool) → same y x ≡ b → ((if b then c else zero_ℚ) +ℚ zero_ℚ ≢ zero_ℚ) → same y x ≡ true
    at y true s m = s
    at y false s m = absurd (m (+ℚ-zero zero_ℚ))

-- ---- 1 in the saturation

pub saturated_one : (n : ℕ) (fs : List Terms) → AreInVariables n fs → HasOneTermMember n fs → IsSaturated n fs one_polynomial
saturated_one n fs v h = record {
  power = k;
  member = member-equal n fs (times r u f) (times one_ℚ (product_power n k) one_polynomial) equal (member-times n fs f r u in_ring h.2);
}
  where
    f : Terms
    f = h.0

    x : Exponents
    x = h.1

    c : Fraction
    c = coefficient f x

    r : Fraction
    r = reciprocal_ℚ c

    k : ℕ
    k = degree x

    u : Exponents
    u = minus (product_power n k) x

    x_ring : IsInRing n x
    x_ring = variables_of_member n fs f v h.2 x h.3.there

    in_ring : IsInRing n u
    in_ring i l = omega (arith, entry-minus (product_power n k) x i, ring-product_power n k i l)

    meets : same (plus u x) (plus (product_power n k) []) ≡ true
    meets = same_by_entries (plus u x) (plus (product_power n k) []) (λ i. at i (cases_lt i n))
      where
        at : (i : ℕ) → (i < n) ⊎ (n ≤ i) → entry (plus u x) i ≡ entry (plus (product_power n k) []) i
        at i (inl l) = omega (arith, entry-plus u x i, entry-minus (product_power n k) x i, entry-product_power n k i l, entry-degree x i) ∙ ap (λ z. entry z i)
            (sym (plus-nil (product_power n k)))
        at i (inr g) = omega (arith, entry-plus u x i, in_ring i g, x_ring i g, ring-product_power n k i g) ∙ ap (λ z. entry z i)
            (sym (plus-nil (product_power n k)))

    equal : SamePolynomial (times r u f) (times one_ℚ (product_power n k) one_polynomial)
    equal e =
        SamePolynomial-times r u f (one_term c x) (one_term_of f x h.3.alone) e
        ∙ one_term_same (r *ℚ c) (one_ℚ *ℚ one_ℚ) (plus u x) (plus (product_power n k) []) (reciprocal_ℚ-*ℚ c h.3.there ∙ sym (one-*ℚ one_ℚ)) meets e

pub one_term_of_saturated : (n : ℕ) (fs : List Terms) → IsSaturated n fs one_polynomial → HasOneTermMember n fs
one_term_of_saturated n fs s = (
  times one_ℚ (product_power n s.power) one_polynomial,
  plus (product_power n s.power) [],
  s.member,
  one_term_alone (one_ℚ *ℚ one_ℚ) (plus (product_power n s.power) []) (λ z. one_not_zero (sym (one-*ℚ one_ℚ) ∙ z)),
)

-- ---- 1 in a basis by deglex

mark_one : (c : MarkedPolynomial) (rest : Exponents) → same [] (plus rest c.head) ≡ true → same c.head [] ≡ true
mark_one c rest s = same_by_entries c.head [] (λ i. omega (arith, entries_same [] (plus rest c.head) s i, entry-plus rest c.head i))

pub mark_of_one : (n : ℕ) (hs : List Terms) (cs : List MarkedPolynomial) → IsReducedBasisFor n hs IsDeglexBelow cs → IsMember n hs one_polynomial →
    (c : MarkedPolynomial) × Contains cs c × (same c.head [] ≡ true)
mark_of_one n hs cs r m = at (r.basis.initial one_polynomial m [] greatest)
  where
    is_one : IsOfOneTerm one_polynomial []
    is_one = one_term_alone one_ℚ [] one_not_zero

    greatest : IsGreatest IsDeglexBelow one_polynomial []
    greatest = record { there = is_one.there; greatest = λ y h. inl (is_one.alone y h) }

    at : IsDivisible (Contains cs) [] → (c : MarkedPolynomial) × Contains cs c × (same c.head [] ≡ true)
    at d = (d.member, d.contained, mark_one d.member d.rest d.divides)

pub one_by_mark : (n : ℕ) (hs : List Terms) (cs : List MarkedPolynomial) → IsReducedBasisFor n hs IsDeglexBelow cs →
    ((c : MarkedPolynomial) × Contains cs c × (same c.head [] ≡ true)) → IsMember n hs one_polynomial
one_by_mark n hs cs r h = member-equal n hs h.0.poly one_polynomial equal (r.basis.members h.0 h.1)
  where
    marked : IsMarked IsDeglexBelow h.0
    marked = r.basis.marked h.0 h.1

    alone : (y : Exponents) → HasMonomial h.0.poly y → same y h.0.head ≡ true
    alone y m = at (marked.tail y m)
      where
        at : (same y h.0.head ≡ true) ⊎ IsDeglexBelow y h.0.head → same y h.0.head ≡ true
        at (inl s) = s
        at (inr (inl l)) = absurd (omega (arith, degree-same h.0.head [] h.2, l))
        at (inr (inr l)) = absurd (omega (arith, entries_same h.0.head [] h.2 l.1.at, l.1.here))

    equal : SamePolynomial h.0.poly one_polynomial
    equal e = one_term_of h.0.poly h.0.head alone e ∙ one_term_same (coefficient h.0.poly h.0.head) one_ℚ h.0.head [] marked.monic h.2 e
