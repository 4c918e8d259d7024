-- Leading monomials: each polynomial is zero, or has a greatest monomial by each monomial order and one of greatest
-- weight by each weight.
-- To cite: top_greatest, top_heaviest. The rest are steps.
use Rattle.std.proofs.Common.{◌≡◌, ◌⊎◌, ◌≢◌, ℕ, ◌<◌, ◌≤◌, true, List, [], ◌∷◌, arith, sym, ap, ◌∙◌, inl, inr}
use Rattle.std.proofs.lemmas.Bool.{cases_lt}
use Rattle.gf_frac.specs.Fraction.{zero_ℚ, one_ℚ}
use Rattle.gf_exponents_theory.specs.Exponents.{Exponents, plus, same, weight}
use Rattle.gf_exponents_theory.specs.Orders.{lighter, IsMonomialOrder}
use Rattle.gf_exponents_theory.proofs.ExponentsLaws.{same-refl, same_flip, same_trans}
use Rattle.gf_exponents_theory.proofs.WeightLaws.{weight-same}
use Rattle.gf_poly.specs.declared.Term.{Term}
use Rattle.gf_poly.specs.Polynomial.{Terms, coefficient, SamePolynomial}
use Rattle.gf_poly.specs.Marking.{MarkedPolynomial, Each}
use Rattle.gf_poly.proofs.PolynomialLaws.{times-plain}
use Rattle.gf_ideal_theory.specs.Marks.{IsMarked}
use Rattle.gf_ideal_theory.specs.Bases.{IsHeaviest, IsGreatest}
use Rattle.gf_ideal_theory.proofs.Identities.{one_not_zero}
use Rattle.gf_ideal_theory.proofs.ListLaws.{Each-weaker}
use Rattle.gf_ideal_theory.proofs.TermLaws.{found_term, Canonical, canonical}

-- ---- leading monomials

-- a polynomial is zero or has a leading monomial, leading ones are monomials of it, and marks lead
pub record IsTop (below : Exponents → Exponents → Type 0) (Top : Terms → Exponents → Type 0) : Type 0 where
  pub some : (f : Terms) → SamePolynomial f [] ⊎ ((x : Exponents) × Top f x)
  pub there : (f : Terms) (x : Exponents) → Top f x → coefficient f x ≢ zero_ℚ
  pub mark : (b : MarkedPolynomial) → IsMarked below b → Top b.poly b.head

-- the greatest of some terms
record Greatest (below : Exponents → Exponents → Type 0) (P : Term → Type 0) (s : Term) (g : Terms) : Type 0 where
  top : Term
  holds : P top
  first : (same s.mono top.mono ≡ true) ⊎ below s.mono top.mono
  rest : Each (λ (t : Term). (same t.mono top.mono ≡ true) ⊎ below t.mono top.mono) g

greatest_of : (below : Exponents → Exponents → Type 0) (P : Term → Type 0) → IsMonomialOrder below →
    (s : Term) (g : Terms) → P s → Each P g → Greatest below P s g
greatest_of below P o s [] h k = record { top = s; holds = h; first = inl (same-refl s.mono); rest = tt }
greatest_of below P o s (u ∷ g) h k = at (greatest_of below P o s g h k.1)
  where
    up : (a b c : Exponents) → (same a b ≡ true) ⊎ below a b → below b c → (same a c ≡ true) ⊎ below a c
    up a b c (inl s) l = inr (o.strict.along_left b a c (same_flip a b s) l)
    up a b c (inr m) l = inr (o.strict.transitive a b c m l)

    at : Greatest below P s g → Greatest below P s (u ∷ g)
    at r = elim (o.total u.mono r.top.mono) [
      | inl l ↦ record { top = r.top; holds = r.holds; first = r.first; rest = (inr l, r.rest) }
      | inr q ↦ elim q [
        | inl e ↦ record { top = r.top; holds = r.holds; first = r.first; rest = (inl e, r.rest) }
        | inr l ↦ record {
          top = u;
          holds = k.0;
          first = up s.mono r.top.mono u.mono r.first l;
          rest = (
            inl (same-refl u.mono),
            Each-weaker (λ (t : Term). (same t.mono r.top.mono ≡ true) ⊎ below t.mono r.top.mono)
                (λ (t : Term). (same t.mono u.mono ≡ true) ⊎ below t.mono u.mono) (λ t m. up t.mono r.top.mono u.mono m l) g r.rest,
          );
        }
      ]
    ]

greatest : (below : Exponents → Exponents → Type 0) (f : Terms) → IsMonomialOrder below →
    SamePolynomial f [] ⊎ ((x : Exponents) × IsGreatest below f x)
greatest below f o = at (canonical f)
  where
    at : Canonical f → SamePolynomial f [] ⊎ ((x : Exponents) × IsGreatest below f x)
    at c = pick c.terms c.equal c.there
      where
        pick : (g : Terms) → SamePolynomial f g → Each (λ (t : Term). coefficient f t.mono ≢ zero_ℚ) g →
            SamePolynomial f [] ⊎ ((x : Exponents) × IsGreatest below f x)
        pick [] e h = inl e
        pick (s ∷ g) e h =
            let r = greatest_of below (λ (t : Term). coefficient f t.mono ≢ zero_ℚ) o s g h.0 h.1 in
            inr (
              r.top.mono,
              record {
                there = r.holds;
                greatest = λ y n. index r.top.mono y (found_term (λ (t : Term). (same t.mono r.top.mono ≡ true) ⊎ below t.mono r.top.mono) one_ℚ [] (s ∷ g) y
                    (r.first, r.rest) (λ z. n (e y ∙ ap (λ g. coefficient g y) (sym (times-plain (s ∷ g))) ∙ z)));
              },
            )
          where
            index : (x y : Exponents) →
                ((t : Term) × ((same t.mono x ≡ true) ⊎ below t.mono x) × (same y (plus [] t.mono) ≡ true)) →
                (same y x ≡ true) ⊎ below y x
            index x y r = elim r.1 [ inl s ↦ inl (same_trans y r.0.mono x r.2 s) | inr l ↦ inr (o.strict.along_left r.0.mono y x (same_flip y r.0.mono r.2) l) ]

-- by a monomial order, the greatest monomial leads
pub top_greatest : (below : Exponents → Exponents → Type 0) → IsMonomialOrder below → IsTop below (IsGreatest below)
top_greatest below o = record {
  some = λ f. greatest below f o;
  there = λ f x t. t.there;
  mark = λ b m. record { there = λ z. one_not_zero (sym m.monic ∙ z); greatest = λ e n. m.tail e n };
}

-- a heaviest exponent
heavy : (w : List ℕ) (P : Term → Type 0) (s : Term) (g : Terms) → P s → Each P g →
    (t : Term) × P t × (weight w s.mono ≤ weight w t.mono) × Each (λ (u : Term). weight w u.mono ≤ weight w t.mono) g
heavy w P s [] h k = (s, h, omega arith, tt)
heavy w P s (u ∷ g) h k = more (heavy w P s g h k.1)
  where
    more : ((t : Term) × P t × (weight w s.mono ≤ weight w t.mono) × Each (λ (u : Term). weight w u.mono ≤ weight w t.mono) g) →
        (t : Term) × P t × (weight w s.mono ≤ weight w t.mono) × Each (λ (u : Term). weight w u.mono ≤ weight w t.mono) (u ∷ g)
    more r = elim (cases_lt (weight w r.0.mono) (weight w u.mono)) [
      | inl l ↦ (
        u,
        k.0,
        omega (arith, r.2),
        (
          omega arith,
          Each-weaker (λ (v : Term). weight w v.mono ≤ weight w r.0.mono)
              (λ (v : Term). weight w v.mono ≤ weight w u.mono) (λ v q. omega arith) g r.3,
        ),
      )
      | inr l ↦ (r.0, r.1, r.2, (l, r.3))
    ]

-- by a weight, the monomials of greatest weight lead
pub top_heaviest : (w : List ℕ) → IsTop (lighter w) (IsHeaviest w)
top_heaviest w = record {
  some = λ f. at f (canonical f);
  there = λ f x t. t.there;
  mark = λ b m. record { there = λ z. one_not_zero (sym m.monic ∙ z); heaviest = λ e n. low b e (m.tail e n) };
}
  where
    low : (b : MarkedPolynomial) (e : Exponents) → (same e b.head ≡ true) ⊎ (weight w e < weight w b.head) →
        weight w e ≤ weight w b.head
    low b e (inl s) = omega (arith, weight-same w e b.head s)
    low b e (inr l) = omega arith

    at : (f : Terms) → Canonical f → SamePolynomial f [] ⊎ ((x : Exponents) × IsHeaviest w f x)
    at f c = pick c.terms c.equal c.there
      where
        pick : (g : Terms) → SamePolynomial f g → Each (λ (t : Term). coefficient f t.mono ≢ zero_ℚ) g →
            SamePolynomial f [] ⊎ ((x : Exponents) × IsHeaviest w f x)
        pick [] e h = inl e
        pick (s ∷ g) e h =
            let r = heavy w (λ (t : Term). coefficient f t.mono ≢ zero_ℚ) s g h.0 h.1 in
            inr (
              r.0.mono,
              record {
                there = r.1;
                heaviest = λ y n. index r.0.mono y (found_term (λ (t : Term). weight w t.mono ≤ weight w r.0.mono) one_ℚ [] (s ∷ g) y
                    (r.2, r.3) (λ z. n (e y ∙ ap (λ g. coefficient g y) (sym (times-plain (s ∷ g))) ∙ z)));
              },
            )
          where
            index : (x y : Exponents) →
                ((t : Term) × (weight w t.mono ≤ weight w x) × (same y (plus [] t.mono) ≡ true)) →
                weight w y ≤ weight w x
            index x y r = omega (arith, r.1, weight-same w y r.0.mono r.2)
