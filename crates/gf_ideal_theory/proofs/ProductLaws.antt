-- Products of polynomials, and the product criterion: a pair with coprime marks is settled.
-- To cite: settled_by_product. The rest are steps.
use Rattle.std.proofs.Common.{◌≡◌, ◌⊎◌, Bool, true, false, if◌then◌else◌, List, [], ◌∷◌, ◌++◌, refl, sym, ap, ◌∙◌, subst, inl, inr}
use Rattle.gf_frac.specs.Fraction.{Fraction, ◌+ℚ◌, ◌*ℚ◌, neg_ℚ, zero_ℚ, one_ℚ}
use Rattle.gf_frac.proofs.FractionLaws.{+ℚ_assoc, +ℚ_comm, +ℚ-zero, *ℚ-zero, *ℚ_comm, zero-+ℚ, one-*ℚ, +ℚ-middle}
use Rattle.gf_exponents_theory.specs.Exponents.{Exponents, plus, same, join, AreCoprime}
use Rattle.gf_exponents_theory.specs.Orders.{IsStrict}
use Rattle.gf_exponents_theory.proofs.ExponentsLaws.{plus_comm, same-refl, same_flip, same_of, join-coprime}
use Rattle.gf_poly.specs.declared.Term.{Term}
use Rattle.gf_poly.specs.Polynomial.{Terms, coefficient, times, SamePolynomial}
use Rattle.gf_poly.specs.Marking.{MarkedPolynomial, Each}
use Rattle.gf_poly.proofs.PolynomialLaws.{coefficient-++, SamePolynomial-times, coefficient-factor, times-plain}
use Rattle.gf_ideal_theory.specs.Marks.{Piece, value, IsMarked}
use Rattle.gf_ideal_theory.specs.Settled.{IsPieceBelow, IsSettledAtJoin}
use Rattle.gf_ideal_theory.proofs.Identities.{joined, crossed_over, neg_one}
use Rattle.gf_ideal_theory.proofs.ListLaws.{Each-++}
use Rattle.gf_ideal_theory.proofs.TermLaws.{without, Canonical, canonical, canonical_terms}
use Rattle.gf_ideal_theory.proofs.PieceLaws.{Each-scale, coefficient-value-++, scale, value-scale}
use Rattle.gf_ideal_theory.proofs.SettledLaws.{times_along}

-- f times g
abbrev pub poly_product : Terms → Terms → Terms
poly_product [] g = []
poly_product (t ∷ f) g = times t.coef t.mono g ++ poly_product f g

poly_product-none : (f : Terms) → poly_product f [] ≡ []
poly_product-none [] = refl
poly_product-none (t ∷ f) = poly_product-none f

one_term : (s t : Term) (e : Exponents) →
    (if same e (plus t.mono s.mono) then t.coef *ℚ s.coef else zero_ℚ) ≡ (if same e (plus s.mono t.mono) then s.coef *ℚ t.coef else zero_ℚ)
one_term s t e = ap (λ x. if same e x then t.coef *ℚ s.coef else zero_ℚ) (plus_comm t.mono s.mono) ∙ ap (λ c. if same e (plus s.mono t.mono) then c else zero_ℚ)
    (*ℚ_comm t.coef s.coef)

poly_product-more : (f : Terms) (s : Term) (g : Terms) (e : Exponents) →
    coefficient (poly_product f (s ∷ g)) e ≡ coefficient (times s.coef s.mono f) e +ℚ coefficient (poly_product f g) e
poly_product-more [] s g e = sym (+ℚ-zero zero_ℚ)
poly_product-more (t ∷ f) s g e =
    coefficient-++ (times t.coef t.mono (s ∷ g)) (poly_product f (s ∷ g)) e
    ∙ ap (λ z. coefficient (times t.coef t.mono (s ∷ g)) e +ℚ z) (poly_product-more f s g e)
    ∙ ap (λ z. (z +ℚ coefficient (times t.coef t.mono g) e) +ℚ (coefficient (times s.coef s.mono f) e +ℚ coefficient (poly_product f g) e)) (one_term s t e)
    ∙ +ℚ-middle _ _ _ _
    ∙ ap (λ z. coefficient (times s.coef s.mono (t ∷ f)) e +ℚ z) (sym (coefficient-++ (times t.coef t.mono g) (poly_product f g) e))

-- products are commutative
pub poly_product-turned : (f g : Terms) (e : Exponents) →
    coefficient (poly_product f g) e ≡ coefficient (poly_product g f) e
poly_product-turned f [] e = ap (λ z. coefficient z e) (poly_product-none f)
poly_product-turned f (s ∷ g) e = poly_product-more f s g e ∙ ap (λ z. coefficient (times s.coef s.mono f) e +ℚ z) (poly_product-turned f g e) ∙
    sym (coefficient-++ (times s.coef s.mono f) (poly_product g f) e)

-- equal factors have equal products
pub poly_product-equal : (f g h : Terms) → SamePolynomial g h → SamePolynomial (poly_product f g) (poly_product f h)
poly_product-equal [] g h q e = refl
poly_product-equal (t ∷ f) g h q e =
    coefficient-++ (times t.coef t.mono g) (poly_product f g) e
    ∙ ap (λ z. z +ℚ coefficient (poly_product f g) e) (SamePolynomial-times t.coef t.mono g h q e)
    ∙ ap (λ z. coefficient (times t.coef t.mono h) e +ℚ z) (poly_product-equal f g h q e)
    ∙ sym (coefficient-++ (times t.coef t.mono h) (poly_product f h) e)

-- a factor, taken apart at an exponent
poly_product-at : (x : Exponents) (f g : Terms) (e : Exponents) →
    coefficient (poly_product f g) e ≡ coefficient f x *ℚ coefficient (times one_ℚ x g) e +ℚ coefficient (poly_product (without x f) g) e
poly_product-at x [] g e = sym (+ℚ-zero _ ∙ *ℚ_comm zero_ℚ _ ∙ *ℚ-zero _)
poly_product-at x (t ∷ f) g e =
    coefficient-++ (times t.coef t.mono g) (poly_product f g) e
    ∙ ap (λ z. coefficient (times t.coef t.mono g) e +ℚ z) (poly_product-at x f g e)
    ∙ at (same x t.mono) refl
  where
    p : Fraction
    p = coefficient (poly_product (without x f) g) e

    at : (b : Bool) → same x t.mono ≡ b → coefficient (times t.coef t.mono g) e +ℚ (coefficient f x *ℚ coefficient (times one_ℚ x g) e +ℚ p) ≡
        ((if b then t.coef else zero_ℚ) +ℚ coefficient f x) *ℚ coefficient (times one_ℚ x g) e +ℚ
        coefficient (poly_product (if b then without x f else (t ∷ without x f)) g) e
    at true s =
        ap (λ z. z +ℚ (coefficient f x *ℚ coefficient (times one_ℚ x g) e +ℚ p)) (times_along t.coef t.mono x g e (same_flip x t.mono s) ∙
        coefficient-factor t.coef x g e)
        ∙ joined t.coef (coefficient f x) (coefficient (times one_ℚ x g) e) p
    at false s =
        front _ _ _
        ∙ ap (λ z. coefficient f x *ℚ coefficient (times one_ℚ x g) e +ℚ z) (sym (coefficient-++ (times t.coef t.mono g) (poly_product (without x f) g) e))
        ∙ ap (λ z. z *ℚ coefficient (times one_ℚ x g) e +ℚ coefficient (poly_product (t ∷ without x f) g) e) (sym (zero-+ℚ (coefficient f x)))
      where
        front : (a b c : Fraction) → a +ℚ (b +ℚ c) ≡ b +ℚ (a +ℚ c)
        front a b c = sym (+ℚ_assoc a b c) ∙ ap (λ z. z +ℚ c) (+ℚ_comm a b) ∙ +ℚ_assoc b a c

-- ---- as pieces
abbrev spread : Terms → MarkedPolynomial → List Piece
spread [] c = []
spread (t ∷ f) c = record { factor = t.coef; shift = t.mono; of = c } ∷ spread f c

value-spread : (f : Terms) (c : MarkedPolynomial) → value (spread f c) ≡ poly_product f c.poly
value-spread [] c = refl
value-spread (t ∷ f) c = ap (λ z. times t.coef t.mono c.poly ++ z) (value-spread f c)

spread-below : (by : MarkedPolynomial → Type 0) (below : Exponents → Exponents → Type 0) (h y : Exponents) (f : Terms) (c : MarkedPolynomial) →
    IsStrict below → by c → same (plus h c.head) y ≡ true →
    Each (λ (t : Term). (same t.mono h ≡ true) ⊎ below t.mono h) f →
    Each (IsPieceBelow by below y) (spread (without h f) c)
spread-below by below h y [] c o m s k = tt
spread-below by below h y (t ∷ f) c o m s k = at (same h t.mono) refl (spread-below by below h y f c o m s k.1)
  where
    at : (b : Bool) → same h t.mono ≡ b → Each (IsPieceBelow by below y) (spread (without h f) c) →
        Each (IsPieceBelow by below y) (spread (if b then without h f else (t ∷ without h f)) c)
    at true q r = r
    at false q r = (record { member = m; lower = o.along_right (plus t.mono c.head) (plus h c.head) y s (low k.0) }, r)
      where
        low : (same t.mono h ≡ true) ⊎ below t.mono h → below (plus t.mono c.head) (plus h c.head)
        low (inl z) = let n : same h t.mono ≡ true = same_flip t.mono h z in absurd (cc)
        low (inr l) = subst (λ a. below a (plus h c.head)) (plus_comm c.head t.mono) (subst (λ a. below (plus c.head t.mono) a) (plus_comm c.head h)
            (o.invariant c.head t.mono h l))

-- coprime marks
pub settled_by_product : (by : MarkedPolynomial → Type 0) (below : Exponents → Exponents → Type 0) (b c : MarkedPolynomial) →
    IsStrict below → IsMarked below b → IsMarked below c → by b → by c → AreCoprime b.head c.head →
    IsSettledAtJoin by below b c
settled_by_product by below b c o mb mc hb hc q = at (canonical b.poly) (canonical c.poly)
  where
    low : (x : MarkedPolynomial) (k : Canonical x.poly) → IsMarked below x →
        Each (λ (t : Term). (same t.mono x.head ≡ true) ⊎ below t.mono x.head) k.terms
    low x k m = canonical_terms (λ y. (same y x.head ≡ true) ⊎ below y x.head) x.poly k m.tail

    at : Canonical b.poly → Canonical c.poly → IsSettledAtJoin by below b c
    at f g = record {
      left = c.head;
      right = b.head;
      of_left = join-coprime b.head c.head q;
      of_right = ap (λ z. same z (join b.head c.head)) (plus_comm b.head c.head) ∙ join-coprime b.head c.head q;
      bridge = record {
        pieces = spread (without b.head f.terms) c ++ scale (neg_ℚ one_ℚ) [] (spread (without c.head g.terms) b);
        lower = Each-++ (IsPieceBelow by below (plus c.head b.head)) (spread (without b.head f.terms) c)
            (scale (neg_ℚ one_ℚ) [] (spread (without c.head g.terms) b))
            (spread-below by below b.head (plus c.head b.head) f.terms c o hc (same_of _ _ (plus_comm b.head c.head)) (low b f mb))
            (Each-scale (IsPieceBelow by below (plus c.head b.head)) (IsPieceBelow by below (plus c.head b.head)) (neg_ℚ one_ℚ)
            [] (λ p h. record { member = h.member; lower = h.lower }) (spread (without c.head g.terms) b)
            (spread-below by below c.head (plus c.head b.head) g.terms b o hb (same-refl (plus c.head b.head)) (low c g mc)));
        equation = λ e.
            crossed_over (coefficient (times one_ℚ c.head b.poly) e) (p e) (coefficient (times one_ℚ b.head c.poly) e)
            (coefficient (poly_product (without b.head f.terms) c.poly) e)
            (sym (apart c b g e mc) ∙ turned e ∙ apart b c f e mb)
            ∙ ap (λ z. coefficient (times one_ℚ b.head c.poly) e +ℚ z)
            (ap (λ z. coefficient z e +ℚ neg_ℚ (p e)) (sym (value-spread (without b.head f.terms) c))
            ∙ ap (λ z. coefficient (value (spread (without b.head f.terms) c)) e +ℚ z) (sym (negated e))
            ∙ sym (coefficient-value-++ (spread (without b.head f.terms) c) (scale (neg_ℚ one_ℚ) [] (spread (without c.head g.terms) b)) e));
      };
    }
      where
        p : Exponents → Fraction
        p e = coefficient (poly_product (without c.head g.terms) b.poly) e

        turned : (e : Exponents) →
            coefficient (poly_product g.terms b.poly) e ≡ coefficient (poly_product f.terms c.poly) e
        turned e = poly_product-equal g.terms b.poly f.terms f.equal e ∙ poly_product-turned g.terms f.terms e ∙
            sym (poly_product-equal f.terms c.poly g.terms g.equal e)

        apart : (x y : MarkedPolynomial) (k : Canonical x.poly) (e : Exponents) → IsMarked below x →
            coefficient (poly_product k.terms y.poly) e ≡ coefficient (times one_ℚ x.head y.poly) e +ℚ coefficient (poly_product (without x.head k.terms)
            y.poly) e
        apart x y k e m =
            poly_product-at x.head k.terms y.poly e
            ∙ ap (λ z. z *ℚ coefficient (times one_ℚ x.head y.poly) e +ℚ coefficient (poly_product (without x.head k.terms) y.poly) e)
            (sym (k.equal x.head) ∙ m.monic)
            ∙ ap (λ z. z +ℚ coefficient (poly_product (without x.head k.terms) y.poly) e) (one-*ℚ _)

        negated : (e : Exponents) →
            coefficient (value (scale (neg_ℚ one_ℚ) [] (spread (without c.head g.terms) b))) e ≡ neg_ℚ (p e)
        negated e =
            ap (λ z. coefficient z e) (value-scale (neg_ℚ one_ℚ) [] (spread (without c.head g.terms) b))
            ∙ coefficient-factor (neg_ℚ one_ℚ) [] (value (spread (without c.head g.terms) b)) e
            ∙ ap (λ z. neg_ℚ one_ℚ *ℚ coefficient z e) (times-plain (value (spread (without c.head g.terms) b)) ∙ value-spread (without c.head g.terms) b)
            ∙ neg_one _
