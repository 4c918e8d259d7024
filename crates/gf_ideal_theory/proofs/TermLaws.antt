-- Polynomials taken apart at a monomial, and the monomials that they have.
-- To cite: found and nothing_there (where the monomials of a multiple come from), canonical (each polynomial is one whose
-- listed terms all count), canonical_terms, canonical_exponents, coefficient-times-one and zero_chosen. The rest are steps.
use Rattle.std.proofs.Common.{◌≡◌, ◌⊎◌, ◌≢◌, ℕ, zero, suc, ◌≤◌, Bool, true, false, if◌then◌else◌, [], ◌∷◌, length, arith, refl, sym, ap, ◌∙◌, inl, inr}
use Rattle.gf_frac.specs.Fraction.{Fraction, ◌+ℚ◌, ◌*ℚ◌, zero_ℚ, one_ℚ}
use Rattle.gf_frac.proofs.FractionLaws.{+ℚ_assoc, +ℚ_comm, +ℚ-zero, *ℚ-zero, zero-+ℚ, zero_or_not}
use Rattle.gf_poly.specs.declared.Term.{Term}
use Rattle.gf_exponents_theory.specs.Exponents.{Exponents, plus, same}
use Rattle.gf_exponents_theory.proofs.ExponentsLaws.{same-sym, same_along, same-refl, same_flip, multiple_or_not, same_shift_right}
use Rattle.gf_poly.specs.Polynomial.{Terms, coefficient, SamePolynomial, times}
use Rattle.gf_poly.proofs.PolynomialLaws.{coefficient-same, coefficient-times, coefficient-times-none, times-plain}
use Rattle.gf_poly.specs.Marking.{Each}
use Rattle.gf_ideal_theory.proofs.ListLaws.{Each-weaker}

-- a multiple has nothing at x, or f has a term where it comes from
pub multiple_at : (c : Fraction) (u : Exponents) (f : Terms) (x : Exponents) →
    (coefficient (times c u f) x ≡ zero_ℚ) ⊎ ((y : Exponents) × (coefficient f y ≢ zero_ℚ) × (same x (plus u y) ≡ true))
multiple_at c u f x = elim (multiple_or_not u x) [
  | inr n ↦ inl (coefficient-times-none c u f x n)
  | inl m ↦ elim (zero_or_not (coefficient f m.0)) [
    | inl z ↦ inl (coefficient-same (times c u f) x (plus u m.0) m.1 ∙ coefficient-times c u f m.0 ∙ ap (λ y. c *ℚ y) z ∙ *ℚ-zero c)
    | inr n ↦ inr (m.0, n, m.1)
  ]
]

-- a monomial of a multiple comes from one of f
pub found : (c : Fraction) (u : Exponents) (f : Terms) (x : Exponents) → coefficient (times c u f) x ≢ zero_ℚ →
    (y : Exponents) × (coefficient f y ≢ zero_ℚ) × (same x (plus u y) ≡ true)
found c u f x n = elim (multiple_at c u f x) [ inl z ↦ absurd (n z) | inr r ↦ r ]

-- where no term of f comes to x, a multiple has nothing there
pub nothing_there : (c : Fraction) (u : Exponents) (f : Terms) (x : Exponents) →
    ((y : Exponents) → coefficient f y ≢ zero_ℚ → same x (plus u y) ≡ true → ⊥) → coefficient (times c u f) x ≡ zero_ℚ
nothing_there c u f x h = elim (multiple_at c u f x) [ inl z ↦ z | inr r ↦ absurd (h r.0 r.1 r.2) ]

-- a nonzero coefficient of a multiple comes from a term
pub found_term : (Q : Term → Type 0) (c : Fraction) (u : Exponents) (f : Terms) (e : Exponents) → Each Q f →
    coefficient (times c u f) e ≢ zero_ℚ → (t : Term) × Q t × (same e (plus u t.mono) ≡ true)
found_term Q c u [] e h n = absurd (n refl)
found_term Q c u (t ∷ f) e h n = at (same e (plus u t.mono)) refl n (found_term Q c u f e h.1)
  where
    at : (b : Bool) → same e (plus u t.mono) ≡ b →
        ((if b then c *ℚ t.coef else zero_ℚ) +ℚ coefficient (times c u f) e ≢ zero_ℚ) →
        (coefficient (times c u f) e ≢ zero_ℚ → (t : Term) × Q t × (same e (plus u t.mono) ≡ true)) →
        (t : Term) × Q t × (same e (plus u t.mono) ≡ true)
    at true s n r = (t, h.0, s)
    at false s n r = r (λ z. n (zero-+ℚ _ ∙ z))

-- the terms at other exponents
abbrev pub without : Exponents → Terms → Terms
without x [] = []
without x (t ∷ f) = if same x t.mono then without x f else (t ∷ without x f)

-- ---- a polynomial taken apart at an exponent
pub apart : (x : Exponents) (f : Terms) (e : Exponents) →
    coefficient f e ≡ (if same e x then coefficient f x else zero_ℚ) +ℚ coefficient (without x f) e
apart x [] e = sym (none (same e x))
  where
    none : (b : Bool) → (if b then zero_ℚ else zero_ℚ) +ℚ zero_ℚ ≡ zero_ℚ
    none true = +ℚ-zero zero_ℚ
    none false = +ℚ-zero zero_ℚ
apart x (t ∷ f) e = ap (λ z. (if same e t.mono then t.coef else zero_ℚ) +ℚ z) (apart x f e) ∙ at (same x t.mono) refl
  where
    rest : Fraction
    rest = coefficient (without x f) e

    joins : (b : Bool) (c d : Fraction) →
        (if b then c else zero_ℚ) +ℚ ((if b then d else zero_ℚ) +ℚ rest) ≡ (if b then c +ℚ d else zero_ℚ) +ℚ rest
    joins true c d = sym (+ℚ_assoc c d rest)
    joins false c d = zero-+ℚ _

    at : (b : Bool) → same x t.mono ≡ b → (if same e t.mono then t.coef else zero_ℚ) +ℚ ((if same e x then coefficient f x else zero_ℚ) +ℚ rest) ≡
        (if same e x then (if b then t.coef else zero_ℚ) +ℚ coefficient f x else zero_ℚ) +ℚ coefficient (if b then without x f else (t ∷ without x f)) e
    at true s = ap (λ b. (if b then t.coef else zero_ℚ) +ℚ ((if same e x then coefficient f x else zero_ℚ) +ℚ rest)) (same-sym e t.mono ∙
        sym (same_along x t.mono e s) ∙ same-sym x e) ∙ joins (same e x) t.coef (coefficient f x)
    at false s =
        front _ _ _ ∙ ap (λ z. (if same e x then z else zero_ℚ) +ℚ ((if same e t.mono then t.coef else zero_ℚ) +ℚ rest)) (sym (zero-+ℚ (coefficient f x)))
      where
        front : (a b c : Fraction) → a +ℚ (b +ℚ c) ≡ b +ℚ (a +ℚ c)
        front a b c = sym (+ℚ_assoc a b c) ∙ ap (λ z. z +ℚ c) (+ℚ_comm a b) ∙ +ℚ_assoc b a c

-- ---- only exponents with nonzero coefficients
pub record Canonical (f : Terms) : Type 0 where
  pub terms : Terms
  pub equal : SamePolynomial f terms
  pub there : Each (λ (t : Term). coefficient f t.mono ≢ zero_ℚ) terms

-- no longer
pub length-without : (x : Exponents) (f : Terms) → length (without x f) ≤ length f
length-without x [] = omega arith
length-without x (t ∷ f) = at (same x t.mono) (length-without x f)
  where
    at : (b : Bool) → length (without x f) ≤ length f →
        length (if b then without x f else (t ∷ without x f)) ≤ suc (length f)
    at true h = omega arith
    at false h = omega arith

-- nothing is left there
pub none_left : (x e : Exponents) (f : Terms) → same e x ≡ true → coefficient (without x f) e ≡ zero_ℚ
none_left x e [] s = refl
none_left x e (t ∷ f) s = at (same x t.mono) refl (none_left x e f s)
  where
    at : (b : Bool) → same x t.mono ≡ b → coefficient (without x f) e ≡ zero_ℚ →
        coefficient (if b then without x f else (t ∷ without x f)) e ≡ zero_ℚ
    at true q r = r
    at false q r = ap (λ b. (if b then t.coef else zero_ℚ) +ℚ coefficient (without x f) e) (sym (same_along x e t.mono (same_flip e x s)) ∙ q) ∙ zero-+ℚ _ ∙ r

canonical_of : (n : ℕ) (f : Terms) → length f ≤ n → Canonical f
canonical_of n [] h = record { terms = []; equal = λ e. refl; there = tt }
canonical_of zero (t ∷ f) h = absurd (omega arith)
canonical_of (suc n) (t ∷ f) h = at (canonical_of n (without t.mono f) (omega (arith, length-without t.mono f))) (zero_or_not (coefficient (t ∷ f) t.mono))
  where
    x : Exponents
    x = t.mono

    c : Fraction
    c = coefficient (t ∷ f) t.mono

    parts : (e : Exponents) → coefficient (t ∷ f) e ≡ (if same e x then c else zero_ℚ) +ℚ coefficient (without x f) e
    parts e = apart x (t ∷ f) e ∙ ap (λ b. (if same e x then c else zero_ℚ) +ℚ coefficient (if b then without x f else (t ∷ without x f)) e) (same-refl x)

    stays : (s : Term) → coefficient (without x f) s.mono ≢ zero_ℚ → coefficient (t ∷ f) s.mono ≢ zero_ℚ
    stays s n z = index (same s.mono x) refl
      where
        index : (b : Bool) → same s.mono x ≡ b → ⊥
        index true q = n (none_left x s.mono f q)
        index false q = n (sym (parts s.mono ∙ ap (λ b. (if b then c else zero_ℚ) +ℚ coefficient (without x f) s.mono) q ∙ zero-+ℚ _) ∙ z)

    nothing : (b : Bool) → c ≡ zero_ℚ → (if b then c else zero_ℚ) ≡ zero_ℚ
    nothing true z = z
    nothing false z = refl

    at : Canonical (without x f) → (c ≡ zero_ℚ) ⊎ (c ≢ zero_ℚ) → Canonical (t ∷ f)
    at r (inl z) = record {
      terms = r.terms;
      equal = λ e. parts e ∙ ap (λ y. y +ℚ coefficient (without x f) e) (nothing (same e x) z) ∙ zero-+ℚ _ ∙ r.equal e;
      there = Each-weaker (λ (s : Term). coefficient (without x f) s.mono ≢ zero_ℚ) (λ (s : Term). coefficient (t ∷ f) s.mono ≢ zero_ℚ) stays r.terms r.there;
    }
    at r (inr n) = record {
      terms = record { coef = c; mono = x } ∷ r.terms;
      equal = λ e. parts e ∙ ap (λ y. (if same e x then c else zero_ℚ) +ℚ y) (r.equal e);
      there = (
        n,
        Each-weaker (λ (s : Term). coefficient (without x f) s.mono ≢ zero_ℚ) (λ (s : Term). coefficient (t ∷ f) s.mono ≢ zero_ℚ)
            stays r.terms r.there,
      );
    }

-- each polynomial is one whose listed terms all count
pub canonical : (f : Terms) → Canonical f
canonical f = canonical_of (length f) f (omega arith)

-- a fact of each exponent of f is one of each of its terms, and back
pub canonical_terms : (B : Exponents → Type 0) (f : Terms) (c : Canonical f) →
    ((e : Exponents) → coefficient f e ≢ zero_ℚ → B e) → Each (λ (t : Term). B t.mono) c.terms
canonical_terms B f c h = Each-weaker (λ (t : Term). coefficient f t.mono ≢ zero_ℚ) (λ (t : Term). B t.mono) (λ t n. h t.mono n) c.terms c.there

-- and back
pub canonical_exponents : (B : Exponents → Type 0) (f : Terms) (c : Canonical f) →
    ((x y : Exponents) → same x y ≡ true → B x → B y) → Each (λ (t : Term). B t.mono) c.terms → (e : Exponents) →
    coefficient f e ≢ zero_ℚ → B e
canonical_exponents B f c along h e n =
    let r = found_term (λ (t : Term). B t.mono) one_ℚ [] c.terms e h (λ z. n (c.equal e ∙ ap (λ g. coefficient g e) (sym (times-plain c.terms)) ∙ z)) in
    along r.0.mono e (same_flip e r.0.mono r.2) r.1

-- a multiple by a monomial that is 1
pub coefficient-times-one : (c : Fraction) (u : Exponents) (f : Terms) (y : Exponents) → same u [] ≡ true → coefficient (times c u f) y ≡ c *ℚ coefficient f y
coefficient-times-one c u f y s = coefficient-same (times c u f) y (plus u y) (same_flip (plus u y) y (same_shift_right y u [] s)) ∙ coefficient-times c u f y

-- zero, or zero
pub zero_chosen : (b : Bool) (c : Fraction) → c ≡ zero_ℚ → (if b then c else zero_ℚ) ≡ zero_ℚ
zero_chosen true c z = z
zero_chosen false c z = refl
