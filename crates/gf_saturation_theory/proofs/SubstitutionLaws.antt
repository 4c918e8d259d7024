-- Monomials of a polynomial exchanged one by one, and the last variable exchanged for the inverse of the product of the others,
-- with a power of the product that clears the fractions.
-- To cite: mapped, mapped_same, mapped-++, inverted, inverted_multiple, inverted_trick, entry-product_power.
use Rattle.std.proofs.Common.{◌≡◌, ℕ, zero, suc, ◌+◌, ◌-◌, ◌<◌, ◌≤◌, Bool, true, false, if◌then◌else◌, [], ◌∷◌, ◌++◌, length, arith, refl, sym, ap, ◌∙◌}
use Rattle.gf_frac.specs.Fraction.{Fraction, ◌+ℚ◌, ◌*ℚ◌, neg_ℚ, zero_ℚ, one_ℚ}
use Rattle.gf_frac.proofs.FractionLaws.{+ℚ_assoc, +ℚ_comm, +ℚ-zero, zero-+ℚ, +ℚ-neg_ℚ, *ℚ-neg_ℚ}
use Rattle.gf_exponents_theory.specs.Exponents.{Exponents, entry, same, plus, IsInRing}
use Rattle.gf_exponents_theory.proofs.ExponentsLaws.{same-sym, same_along, same-refl, entries_same, entry-plus, plus-nil}
use Rattle.gf_poly.specs.declared.Term.{Term}
use Rattle.gf_poly.specs.Polynomial.{Terms, coefficient, SamePolynomial, times}
use Rattle.gf_poly.specs.Marking.{Each}
use Rattle.gf_poly.proofs.PolynomialLaws.{coefficient-++, coefficient-times, SamePolynomial-times}
use Rattle.gf_ideal_theory.specs.Membership.{IsInVariables}
use Rattle.gf_ideal_theory.proofs.Identities.{neg_one}
use Rattle.gf_ideal_theory.proofs.TermLaws.{without, apart, length-without, canonical, canonical_terms, zero_chosen}
use Rattle.gf_ideal_theory.proofs.RingLaws.{ring-plus, same_in_ring}
use Rattle.gf_saturation_theory.specs.Saturations.{powered, product_power, next_variable, rabinowitsch}

-- ---- monomials exchanged

-- the same monomials are exchanged for the same
abbrev pub Keeps : (Exponents → Exponents) → Type 0
Keeps s = (x y : Exponents) → same x y ≡ true → same (s x) (s y) ≡ true

-- each monomial x for s x
abbrev pub mapped : (Exponents → Exponents) → Terms → Terms
mapped s [] = []
mapped s (t ∷ f) = record { coef = t.coef; mono = s t.mono } ∷ mapped s f

pub mapped-++ : (s : Exponents → Exponents) (f g : Terms) → mapped s (f ++ g) ≡ mapped s f ++ mapped s g
mapped-++ s [] g = refl
mapped-++ s (t ∷ f) g = ap (λ z. record { coef = t.coef; mono = s t.mono } ∷ z) (mapped-++ s f g)

mapped-times : (s : Exponents → Exponents) (c : Fraction) (f : Terms) → mapped s (times c [] f) ≡ times c [] (mapped s f)
mapped-times s c [] = refl
mapped-times s c (t ∷ f) = ap (λ z. record { coef = c *ℚ t.coef; mono = s t.mono } ∷ z) (mapped-times s c f)

along_both : (e x y : Exponents) → same x y ≡ true → same e y ≡ same e x
along_both e x y h = same-sym e y ∙ sym (same_along x y e h) ∙ same-sym x e

-- taken apart at one monomial
apart_mapped : (s : Exponents → Exponents) → Keeps s → (x : Exponents) (f : Terms) (e : Exponents) →
    coefficient (mapped s f) e ≡ (if same e (s x) then coefficient f x else zero_ℚ) +ℚ coefficient (mapped s (without x f)) e
apart_mapped s k x [] e = sym (none (same e (s x)))
  where
    none : (b : Bool) → (if b then zero_ℚ else zero_ℚ) +ℚ zero_ℚ ≡ zero_ℚ
    none true = +ℚ-zero zero_ℚ
    none false = +ℚ-zero zero_ℚ
apart_mapped s k x (t ∷ f) e = ap (λ z. (if same e (s t.mono) then t.coef else zero_ℚ) +ℚ z) (apart_mapped s k x f e) ∙ at (same x t.mono) refl
  where
    rest : Fraction
    rest = coefficient (mapped s (without x f)) e

    joins : (b : Bool) (c d : Fraction) →
        (if b then c else zero_ℚ) +ℚ ((if b then d else zero_ℚ) +ℚ rest) ≡ (if b then c +ℚ d else zero_ℚ) +ℚ rest
    joins true c d = sym (+ℚ_assoc c d rest)
    joins false c d = zero-+ℚ _

    at : (b : Bool) → same x t.mono ≡ b → (if same e (s t.mono) then t.coef else zero_ℚ) +ℚ ((if same e (s x) then coefficient f x else zero_ℚ) +ℚ rest) ≡
        (if same e (s x) then (if b then t.coef else zero_ℚ) +ℚ coefficient f x else zero_ℚ) +ℚ
        coefficient (mapped s (if b then without x f else (t ∷ without x f))) e
    at true q = ap (λ b. (if b then t.coef else zero_ℚ) +ℚ ((if same e (s x) then coefficient f x else zero_ℚ) +ℚ rest)) (along_both e (s x) (s t.mono)
        (k x t.mono q)) ∙ joins (same e (s x)) t.coef (coefficient f x)
    at false q = front _ _ _ ∙ ap (λ z. (if same e (s x) then z else zero_ℚ) +ℚ ((if same e (s t.mono) then t.coef else zero_ℚ) +ℚ rest))
        (sym (zero-+ℚ (coefficient f x)))
      where
        front : (a b c : Fraction) → a +ℚ (b +ℚ c) ≡ b +ℚ (a +ℚ c)
        front a b c = sym (+ℚ_assoc a b c) ∙ ap (λ z. z +ℚ c) (+ℚ_comm a b) ∙ +ℚ_assoc b a c

-- zero stays zero
mapped_zero_of : (s : Exponents → Exponents) → Keeps s → (n : ℕ) (f : Terms) → length f ≤ n → SamePolynomial f [] → SamePolynomial (mapped s f) []
mapped_zero_of s k n [] l z e = refl
mapped_zero_of s k zero (t ∷ f) l z e = absurd (omega arith)
mapped_zero_of s k (suc n) (t ∷ f) l z e =
    apart_mapped s k x (t ∷ f) e
    ∙ ap (λ y. y +ℚ coefficient (mapped s (without x (t ∷ f))) e) (zero_chosen (same e (s x)) (coefficient (t ∷ f) x) (z x))
    ∙ zero-+ℚ _
    ∙ ap (λ b. coefficient (mapped s (if b then without x f else (t ∷ without x f))) e) (same-refl x)
    ∙ mapped_zero_of s k n (without x f) (omega (arith, length-without x f)) left e
  where
    x : Exponents
    x = t.mono

    left : SamePolynomial (without x f) []
    left y =
        sym (zero-+ℚ _)
        ∙ ap (λ c. c +ℚ coefficient (without x f) y) (sym (zero_chosen (same y x) (coefficient (t ∷ f) x) (z x)))
        ∙ ap (λ b. (if same y x then coefficient (t ∷ f) x else zero_ℚ) +ℚ coefficient (if b then without x f else (t ∷ without x f)) y) (sym (same-refl x))
        ∙ sym (apart x (t ∷ f) y)
        ∙ z y

-- equal polynomials stay equal
pub mapped_same : (s : Exponents → Exponents) → Keeps s → (f g : Terms) → SamePolynomial f g → SamePolynomial (mapped s f) (mapped s g)
mapped_same s k f g h e = equal (coefficient (mapped s f) e) (coefficient (mapped s g) e) (
    sym (coefficient-++ (mapped s f) (times (neg_ℚ one_ℚ) [] (mapped s g)) e ∙ ap (λ z. coefficient (mapped s f) e +ℚ z) (coefficient-times (neg_ℚ one_ℚ)
    [] (mapped s g) e))
    ∙ ap (λ z. coefficient z e) (ap (λ z. mapped s f ++ z) (sym (mapped-times s (neg_ℚ one_ℚ) g)) ∙ sym (mapped-++ s f (times (neg_ℚ one_ℚ) [] g)))
    ∙ mapped_zero_of s k (length d) d (omega arith) zero_d e
    )
  where
    d : Terms
    d = f ++ times (neg_ℚ one_ℚ) [] g

    zero_d : SamePolynomial d []
    zero_d y = coefficient-++ f (times (neg_ℚ one_ℚ) [] g) y ∙ ap (λ z. coefficient f y +ℚ z) (coefficient-times (neg_ℚ one_ℚ) [] g y ∙
        neg_one (coefficient g y)) ∙ ap (λ z. z +ℚ neg_ℚ (coefficient g y)) (h y) ∙ +ℚ-neg_ℚ (coefficient g y)

    equal : (a b : Fraction) → a +ℚ neg_ℚ one_ℚ *ℚ b ≡ zero_ℚ → a ≡ b
    equal a b q =
        sym (+ℚ-zero a) ∙ ap (λ z. a +ℚ z) (sym (+ℚ-neg_ℚ b) ∙ +ℚ_comm b (neg_ℚ b)) ∙ sym (+ℚ_assoc a (neg_ℚ b) b)
        ∙ ap (λ z. z +ℚ b) (ap (λ z. a +ℚ z) (sym (neg_one b)) ∙ q) ∙ zero-+ℚ b

-- ---- the last variable exchanged

-- the first n exponents of x
abbrev pub cut : ℕ → Exponents → Exponents
cut zero x = []
cut (suc n) [] = []
cut (suc n) (a ∷ x) = a ∷ cut n x

entry-cut : (n : ℕ) (x : Exponents) (i : ℕ) → i < n → entry (cut n x) i ≡ entry x i
entry-cut zero x i l = absurd (omega arith)
entry-cut (suc n) [] i l = refl
entry-cut (suc n) (a ∷ x) zero l = refl
entry-cut (suc n) (a ∷ x) (suc i) l = entry-cut n x i (omega arith)

ring-cut : (n : ℕ) (x : Exponents) → IsInRing n (cut n x)
ring-cut zero x i l = refl
ring-cut (suc n) [] i l = refl
ring-cut (suc n) (a ∷ x) zero l = absurd (omega arith)
ring-cut (suc n) (a ∷ x) (suc i) l = ring-cut n x i (omega arith)

pub entry-product_power : (n k i : ℕ) → i < n → entry (product_power n k) i ≡ k
entry-product_power zero k i l = absurd (omega arith)
entry-product_power (suc n) k zero l = refl
entry-product_power (suc n) k (suc i) l = entry-product_power n k i (omega arith)

pub ring-product_power : (n k : ℕ) → IsInRing n (product_power n k)
ring-product_power zero k i l = refl
ring-product_power (suc n) k zero l = absurd (omega arith)
ring-product_power (suc n) k (suc i) l = ring-product_power n k i (omega arith)

pub next-here : (n : ℕ) → entry (next_variable n) n ≡ 1
next-here zero = refl
next-here (suc n) = next-here n

pub next-below : (n i : ℕ) → i < n → entry (next_variable n) i ≡ 0
next-below zero i l = absurd (omega arith)
next-below (suc n) zero l = refl
next-below (suc n) (suc i) l = next-below n i (omega arith)

pub ring-next : (n : ℕ) → IsInRing (suc n) (next_variable n)
ring-next zero zero l = absurd (omega arith)
ring-next zero (suc i) l = refl
ring-next (suc n) zero l = absurd (omega arith)
ring-next (suc n) (suc i) l = ring-next n i (omega arith)

pub ring-powered : (n k : ℕ) (u : Exponents) → IsInRing n u → IsInRing n (powered k u)
ring-powered n zero u r = λ i l. refl
ring-powered n (suc k) u r = ring-plus n u (powered k u) r (ring-powered n k u r)

-- u to the power k less the exponent of the variable after the first n, in place of that variable
abbrev pub inverted : ℕ → Exponents → ℕ → Exponents → Exponents
inverted n u k x = plus (cut n x) (powered (k - entry x n) u)

ring-inverted : (n k : ℕ) (u x : Exponents) → IsInRing n u → IsInRing n (inverted n u k x)
ring-inverted n k u x r = ring-plus n (cut n x) (powered (k - entry x n) u) (ring-cut n x) (ring-powered n (k - entry x n) u r)

entry-inverted : (n k : ℕ) (u x : Exponents) (i : ℕ) → i < n → entry (inverted n u k x) i ≡ entry x i + entry (powered (k - entry x n) u) i
entry-inverted n k u x i l = omega (arith, entry-plus (cut n x) (powered (k - entry x n) u) i, entry-cut n x i l)

pub inverted-keeps : (n k : ℕ) (u : Exponents) → IsInRing n u → Keeps (inverted n u k)
inverted-keeps n k u r x y s = same_in_ring n (inverted n u k x) (inverted n u k y) (ring-inverted n k u x r) (ring-inverted n k u y r)
    (λ i l. omega (
      arith,
      entry-inverted n k u x i l,
      entry-inverted n k u y i l,
      entries_same x y s i,
      ap (λ e. entry (powered (k - e) u) i) (entries_same x y s n),
    ))

-- a product with a monomial in the first n variables
inverted-plus : (n k : ℕ) (u w y : Exponents) → IsInRing n u → IsInRing n y → same (inverted n u k (plus w y)) (plus (inverted n u k w) y) ≡ true
inverted-plus n k u w y r q = same_in_ring n (inverted n u k (plus w y)) (plus (inverted n u k w) y) (ring-inverted n k u (plus w y) r)
    (ring-plus n (inverted n u k w) y (ring-inverted n k u w r) q)
    (λ i l.
    let e : entry (plus w y) n ≡ entry w n = omega (arith, entry-plus w y n, q n (omega arith)) in
    omega (
      arith,
      entry-inverted n k u (plus w y) i l,
      entry-plus w y i,
      entry-plus (inverted n u k w) y i,
      entry-inverted n k u w i l,
      ap (λ z. entry (powered (k - z) u) i) e,
    ))

inverted_terms : (n k : ℕ) (u : Exponents) (c : Fraction) (w : Exponents) (p : Terms) → IsInRing n u → Each (λ (t : Term). IsInRing n t.mono) p →
    SamePolynomial (mapped (inverted n u k) (times c w p)) (times c (inverted n u k w) p)
inverted_terms n k u c w [] h r e = refl
inverted_terms n k u c w (t ∷ p) h r e =
    ap (λ b. (if b then c *ℚ t.coef else zero_ℚ) +ℚ coefficient (mapped (inverted n u k) (times c w p)) e)
    (sym (along_both e (inverted n u k (plus w t.mono)) (plus (inverted n u k w) t.mono) (inverted-plus n k u w t.mono h r.0)))
    ∙ ap (λ z. (if same e (plus (inverted n u k w) t.mono) then c *ℚ t.coef else zero_ℚ) +ℚ z) (inverted_terms n k u c w p h r.1 e)

-- a multiple of a polynomial in the first n variables
pub inverted_multiple : (n k : ℕ) (u : Exponents) (c : Fraction) (w : Exponents) (p : Terms) → IsInRing n u → IsInVariables n p →
    SamePolynomial (mapped (inverted n u k) (times c w p)) (times c (inverted n u k w) p)
inverted_multiple n k u c w p h v e =
    let q = canonical p in
    mapped_same (inverted n u k) (inverted-keeps n k u h) (times c w p) (times c w q.terms) (SamePolynomial-times c w p q.terms q.equal) e
    ∙ inverted_terms n k u c w q.terms h (canonical_terms (IsInRing n) p q v) e
    ∙ sym (SamePolynomial-times c (inverted n u k w) p q.terms q.equal e)

-- a multiple of the trick goes away
pub inverted_trick : (n k : ℕ) (u : Exponents) (c : Fraction) (w : Exponents) → IsInRing n u → entry w n < k →
    SamePolynomial (mapped (inverted n u k) (times c w (rabinowitsch n u))) []
inverted_trick n k u c w h l e = at (same e (inverted n u k (plus w top))) (same e (inverted n u k (plus w []))) (along_both e
    (inverted n u k (plus w [])) (inverted n u k (plus w top)) alike)
  where
    top : Exponents
    top = plus u (next_variable n)

    nil : (i : ℕ) → entry (plus w []) i ≡ entry w i
    nil i = ap (λ z. entry z i) (plus-nil w)

    below : (i : ℕ) → i < n → entry (plus w top) i ≡ entry w i + entry u i
    below i g = omega (arith, entry-plus w top i, entry-plus u (next_variable n) i, next-below n i g)

    here : entry (plus w top) n ≡ suc (entry w n)
    here = omega (arith, entry-plus w top n, entry-plus u (next_variable n) n, next-here n, h n (omega arith))

    less : k - entry (plus w []) n ≡ suc (k - entry (plus w top) n)
    less = omega (arith, nil n, here, l)

    alike : same (inverted n u k (plus w [])) (inverted n u k (plus w top)) ≡ true
    alike = same_in_ring n (inverted n u k (plus w [])) (inverted n u k (plus w top)) (ring-inverted n k u (plus w []) h) (ring-inverted n k u (plus w top) h)
        (λ i g. omega (
          arith,
          entry-inverted n k u (plus w []) i g,
          nil i,
          entry-inverted n k u (plus w top) i g,
          below i g,
          ap (λ z. entry (powered z u) i) less,
          entry-plus u (powered (k - entry (plus w top) n) u) i,
        ))

    both : (b : Bool) → (if b then c *ℚ one_ℚ else zero_ℚ) +ℚ ((if b then c *ℚ neg_ℚ one_ℚ else zero_ℚ) +ℚ zero_ℚ) ≡ zero_ℚ
    both true = ap (λ z. c *ℚ one_ℚ +ℚ z) (+ℚ-zero _) ∙ ap (λ z. c *ℚ one_ℚ +ℚ z) (*ℚ-neg_ℚ c one_ℚ) ∙ +ℚ-neg_ℚ (c *ℚ one_ℚ)
    both false = zero-+ℚ _ ∙ +ℚ-zero zero_ℚ

    at : (b d : Bool) → b ≡ d → (if b then c *ℚ one_ℚ else zero_ℚ) +ℚ ((if d then c *ℚ neg_ℚ one_ℚ else zero_ℚ) +ℚ zero_ℚ) ≡ zero_ℚ
    at b d q = ap (λ z. (if z then c *ℚ one_ℚ else zero_ℚ) +ℚ ((if d then c *ℚ neg_ℚ one_ℚ else zero_ℚ) +ℚ zero_ℚ)) q ∙ both d
