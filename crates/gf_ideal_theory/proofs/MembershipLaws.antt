-- Members of an ideal, in whole numbers and in the ring's own variables.
-- To cite: spans_of_member, member_of_spans, variables_of_member (the bridge to the working form), and the closure laws
-- member-.. below them. The first part has the closure of the literal form that the bridge is made of.
use Rattle.std.proofs.Common.{◌≡◌, ◌⊎◌, ℕ, ◌-◌, ◌*◌, ℤ, pos, ◌*ℤ◌, List, [], ◌∷◌, ◌++◌, Contains, arith, refl, sym, ap, ◌∙◌, subst, append_assoc, inl, inr}
use Rattle.std.proofs.Math.Nat.{mul-pos}
use Rattle.gf_frac.specs.Fraction.{Fraction, over, whole, ◌+ℚ◌, ◌*ℚ◌, neg_ℚ, zero_ℚ, one_ℚ}
use Rattle.gf_frac.proofs.FractionLaws.{+ℚ-zero, *ℚ-zero, *ℚ-+ℚ, *ℚ_assoc, *ℚ_comm, zero-+ℚ, zero_or_not, one-*ℚ, +ℚ-middle}
use Rattle.gf_exponents_theory.specs.Exponents.{Exponents, plus, IsInRing}
use Rattle.gf_exponents_theory.proofs.ExponentsLaws.{plus-nil, same_flip}
use Rattle.gf_int_theory.proofs.ListLaws.{Contains-here}
use Rattle.gf_poly.specs.Polynomial.{Terms, coefficient, SamePolynomial, times}
use Rattle.gf_poly.specs.Marking.{Each}
use Rattle.gf_poly.proofs.PolynomialLaws.{coefficient-++, coefficient-times, coefficient-times_factor, SamePolynomial-times, times-times, times-++}
use Rattle.gf_ideal_theory.specs.Membership.{HasMonomial, IsInVariables, AreInVariables, IntegerTerms, product, combination, IsMultiplier, IsMember}
use Rattle.gf_ideal_theory.specs.Membership.{AreSameIdeal, Spans}
use Rattle.gf_ideal_theory.proofs.Identities.{whole-*, den_times, divided_by, exchange}
use Rattle.gf_ideal_theory.proofs.ListLaws.{Each-++, Contains-there, Contains-cases, each_contained}
use Rattle.gf_ideal_theory.proofs.RingLaws.{in_ring, ring-along, ring-left, ring-plus}
use Rattle.gf_ideal_theory.proofs.TermLaws.{nothing_there}
use Rattle.gf_ideal_theory.proofs.SpanLaws.{Spans-equal, Spans-zero, Spans-generator, Spans-++, Spans-times, Spans-trans}

-- ---- polynomials in the first n variables

-- a polynomial with no coefficient outside is in the ring
variables_by : (n : ℕ) (f : Terms) → ((x : Exponents) → (IsInRing n x → ⊥) → coefficient f x ≡ zero_ℚ) →
    IsInVariables n f
variables_by n f h x m = at (in_ring n x)
  where
    at : IsInRing n x ⊎ (IsInRing n x → ⊥) → IsInRing n x
    at (inl r) = r
    at (inr o) = absurd (m (h x o))

nothing_outside : (n : ℕ) (f : Terms) (x : Exponents) → IsInVariables n f → (IsInRing n x → ⊥) →
    coefficient f x ≡ zero_ℚ
nothing_outside n f x h o = at (zero_or_not (coefficient f x))
  where
    at : (coefficient f x ≡ zero_ℚ) ⊎ HasMonomial f x → coefficient f x ≡ zero_ℚ
    at (inl z) = z
    at (inr m) = absurd (o (h x m))

-- a sum
pub variables-++ : (n : ℕ) (f g : Terms) → IsInVariables n f → IsInVariables n g → IsInVariables n (f ++ g)
variables-++ n f g h k = variables_by n (f ++ g) (λ x o. coefficient-++ f g x ∙ ap (λ z. z +ℚ coefficient g x) (nothing_outside n f x h o) ∙ zero-+ℚ _ ∙
    nothing_outside n g x k o)

-- a multiple by a monomial in the variables
pub variables-times : (n : ℕ) (c : Fraction) (u : Exponents) (f : Terms) → IsInRing n u → IsInVariables n f →
    IsInVariables n (times c u f)
variables-times n c u f r h = variables_by n (times c u f) (λ x o. nothing_there c u f x
    (λ y m s. o (ring-along n (plus u y) x (same_flip x (plus u y) s) (ring-plus n u y r (h y m)))))

-- an equal polynomial
pub variables-equal : (n : ℕ) (f g : Terms) → SamePolynomial f g → IsInVariables n f → IsInVariables n g
variables-equal n f g e h x m = h x (λ z. m (sym (e x) ∙ z))

-- ---- multipliers: whole multiples, products by a monomial, sums

abbrev scaled : ℤ → IntegerTerms → IntegerTerms
scaled k [] = []
scaled k (t ∷ h) = (k *ℤ t.0, t.1) ∷ scaled k h

abbrev all_scaled : ℤ → List IntegerTerms → List IntegerTerms
all_scaled k [] = []
all_scaled k (h ∷ hs) = scaled k h ∷ all_scaled k hs

abbrev shifted : Exponents → IntegerTerms → IntegerTerms
shifted u [] = []
shifted u (t ∷ h) = (t.0, plus u t.1) ∷ shifted u h

abbrev all_shifted : Exponents → List IntegerTerms → List IntegerTerms
all_shifted u [] = []
all_shifted u (h ∷ hs) = shifted u h ∷ all_shifted u hs

abbrev added : List IntegerTerms → List IntegerTerms → List IntegerTerms
added [] ks = ks
added (h ∷ hs) [] = h ∷ hs
added (h ∷ hs) (k ∷ ks) = (h ++ k) ∷ added hs ks

scaled-ring : (n : ℕ) (k : ℤ) (h : IntegerTerms) → IsMultiplier n h → IsMultiplier n (scaled k h)
scaled-ring n k [] r = tt
scaled-ring n k (t ∷ h) r = (r.0, scaled-ring n k h r.1)

all_scaled-ring : (n : ℕ) (k : ℤ) (hs : List IntegerTerms) → Each (IsMultiplier n) hs →
    Each (IsMultiplier n) (all_scaled k hs)
all_scaled-ring n k [] r = tt
all_scaled-ring n k (h ∷ hs) r = (scaled-ring n k h r.0, all_scaled-ring n k hs r.1)

shifted-ring : (n : ℕ) (u : Exponents) (h : IntegerTerms) → IsInRing n u → IsMultiplier n h →
    IsMultiplier n (shifted u h)
shifted-ring n u [] i r = tt
shifted-ring n u (t ∷ h) i r = (ring-plus n u t.1 i r.0, shifted-ring n u h i r.1)

all_shifted-ring : (n : ℕ) (u : Exponents) (hs : List IntegerTerms) → IsInRing n u → Each (IsMultiplier n) hs →
    Each (IsMultiplier n) (all_shifted u hs)
all_shifted-ring n u [] i r = tt
all_shifted-ring n u (h ∷ hs) i r = (shifted-ring n u h i r.0, all_shifted-ring n u hs i r.1)

added-ring : (n : ℕ) (hs ks : List IntegerTerms) → Each (IsMultiplier n) hs → Each (IsMultiplier n) ks →
    Each (IsMultiplier n) (added hs ks)
added-ring n [] ks r s = s
added-ring n (h ∷ hs) [] r s = r
added-ring n (h ∷ hs) (k ∷ ks) r s = (Each-++ (λ (t : ℤ × Exponents). IsInRing n t.1) h k r.0 s.0, added-ring n hs ks r.1 s.1)

coefficient-scaled : (k : ℤ) (h : IntegerTerms) (f : Terms) (e : Exponents) →
    coefficient (product (scaled k h) f) e ≡ whole k *ℚ coefficient (product h f) e
coefficient-scaled k [] f e = sym (*ℚ-zero (whole k))
coefficient-scaled k (t ∷ h) f e =
    coefficient-++ (times (whole (k *ℤ t.0)) t.1 f) (product (scaled k h) f) e
    ∙ ap (λ z. coefficient (times z t.1 f) e +ℚ coefficient (product (scaled k h) f) e) (whole-* k t.0)
    ∙ ap (λ z. z +ℚ coefficient (product (scaled k h) f) e) (coefficient-times_factor (whole k) (whole t.0) t.1 f e)
    ∙ ap (λ z. whole k *ℚ coefficient (times (whole t.0) t.1 f) e +ℚ z) (coefficient-scaled k h f e)
    ∙ sym (*ℚ-+ℚ (whole k) _ _)
    ∙ ap (λ z. whole k *ℚ z) (sym (coefficient-++ (times (whole t.0) t.1 f) (product h f) e))

coefficient-all_scaled : (k : ℤ) (hs : List IntegerTerms) (fs : List Terms) (e : Exponents) →
    coefficient (combination (all_scaled k hs) fs) e ≡ whole k *ℚ coefficient (combination hs fs) e
coefficient-all_scaled k [] fs e = sym (*ℚ-zero (whole k))
coefficient-all_scaled k (h ∷ hs) [] e = sym (*ℚ-zero (whole k))
coefficient-all_scaled k (h ∷ hs) (f ∷ fs) e =
    coefficient-++ (product (scaled k h) f) (combination (all_scaled k hs) fs) e
    ∙ ap (λ z. z +ℚ coefficient (combination (all_scaled k hs) fs) e) (coefficient-scaled k h f e)
    ∙ ap (λ z. whole k *ℚ coefficient (product h f) e +ℚ z) (coefficient-all_scaled k hs fs e)
    ∙ sym (*ℚ-+ℚ (whole k) _ _)
    ∙ ap (λ z. whole k *ℚ z) (sym (coefficient-++ (product h f) (combination hs fs) e))

product-shifted : (u : Exponents) (h : IntegerTerms) (f : Terms) → product (shifted u h) f ≡ times one_ℚ u (product h f)
product-shifted u [] f = refl
product-shifted u (t ∷ h) f =
    ap (λ z. times z (plus u t.1) f ++ product (shifted u h) f) (sym (one-*ℚ (whole t.0)))
    ∙ ap (λ z. z ++ product (shifted u h) f) (times-times one_ℚ (whole t.0) u t.1 f)
    ∙ ap (λ z. times one_ℚ u (times (whole t.0) t.1 f) ++ z) (product-shifted u h f)
    ∙ sym (times-++ one_ℚ u (times (whole t.0) t.1 f) (product h f))

combination-shifted : (u : Exponents) (hs : List IntegerTerms) (fs : List Terms) →
    combination (all_shifted u hs) fs ≡ times one_ℚ u (combination hs fs)
combination-shifted u [] fs = refl
combination-shifted u (h ∷ hs) [] = refl
combination-shifted u (h ∷ hs) (f ∷ fs) =
    ap (λ z. z ++ combination (all_shifted u hs) fs) (product-shifted u h f)
    ∙ ap (λ z. times one_ℚ u (product h f) ++ z) (combination-shifted u hs fs)
    ∙ sym (times-++ one_ℚ u (product h f) (combination hs fs))

product-++ : (h k : IntegerTerms) (f : Terms) → product (h ++ k) f ≡ product h f ++ product k f
product-++ [] k f = refl
product-++ (t ∷ h) k f = ap (λ z. times (whole t.0) t.1 f ++ z) (product-++ h k f) ∙ sym (append_assoc (times (whole t.0) t.1 f) (product h f) (product k f))

coefficient-added : (hs ks : List IntegerTerms) (fs : List Terms) (e : Exponents) →
    coefficient (combination (added hs ks) fs) e ≡ coefficient (combination hs fs) e +ℚ coefficient (combination ks fs) e
coefficient-added [] ks fs e = sym (zero-+ℚ _)
coefficient-added (h ∷ hs) [] fs e = sym (+ℚ-zero _)
coefficient-added (h ∷ hs) (k ∷ ks) [] e = sym (+ℚ-zero _)
coefficient-added (h ∷ hs) (k ∷ ks) (f ∷ fs) e =
    coefficient-++ (product (h ++ k) f) (combination (added hs ks) fs) e
    ∙ ap (λ z. coefficient z e +ℚ coefficient (combination (added hs ks) fs) e) (product-++ h k f)
    ∙ ap (λ z. z +ℚ coefficient (combination (added hs ks) fs) e) (coefficient-++ (product h f) (product k f) e)
    ∙ ap (λ z. (coefficient (product h f) e +ℚ coefficient (product k f) e) +ℚ z) (coefficient-added hs ks fs e)
    ∙ +ℚ-middle _ _ _ _
    ∙ ap (λ z. z +ℚ (coefficient (product k f) e +ℚ coefficient (combination ks fs) e)) (sym (coefficient-++ (product h f) (combination hs fs) e))
    ∙ ap (λ z. coefficient (combination (h ∷ hs) (f ∷ fs)) e +ℚ z) (sym (coefficient-++ (product k f) (combination ks fs) e))

-- ---- the literal form is closed under sums and multiples in the ring

-- an equal polynomial is a member
pub member-equal : (n : ℕ) (fs : List Terms) (f g : Terms) → SamePolynomial f g → IsMember n fs f → IsMember n fs g
member-equal n fs f g h m = record {
  factor = m.factor;
  positive = m.positive;
  multipliers = m.multipliers;
  in_ring = m.in_ring;
  equation = λ e. ap (λ z. whole (pos m.factor) *ℚ z) (sym (h e)) ∙ m.equation e;
}

-- zero is a member
pub member-zero : (n : ℕ) (fs : List Terms) → IsMember n fs []
member-zero n fs = record { factor = 1; positive = omega arith; multipliers = []; in_ring = tt; equation = λ e. *ℚ-zero _ }

member-here : (n : ℕ) (f : Terms) (fs : List Terms) → IsMember n (f ∷ fs) f
member-here n f fs = record {
  factor = 1;
  positive = omega arith;
  multipliers = ((pos 1, []) ∷ []) ∷ [];
  in_ring = ((λ i l. refl, tt), tt);
  equation = λ e. sym (coefficient-times (whole (pos 1)) [] f e) ∙ sym (coefficient-++ (times (whole (pos 1)) [] f) [] e ∙ +ℚ-zero _)
      ∙ sym (coefficient-++ (times (whole (pos 1)) [] f ++ []) [] e ∙ +ℚ-zero _);
}

member-there : (n : ℕ) (f g : Terms) (fs : List Terms) → IsMember n fs f → IsMember n (g ∷ fs) f
member-there n f g fs m = record {
  factor = m.factor;
  positive = m.positive;
  multipliers = [] ∷ m.multipliers;
  in_ring = (tt, m.in_ring);
  equation = m.equation;
}

-- a generator is a member
pub member-generator : (n : ℕ) (fs : List Terms) (f : Terms) → Contains fs f → IsMember n fs f
member-generator n [] f c = absurd (omega (arith, c.1))
member-generator n (g ∷ fs) f c = at (Contains-cases g f fs c) (λ k. member-generator n fs f k)
  where
    at : (g ≡ f) ⊎ Contains fs f → (Contains fs f → IsMember n fs f) → IsMember n (g ∷ fs) f
    at (inl e) r = subst (λ (z : Terms). IsMember n (z ∷ fs) f) (sym e) (member-here n f fs)
    at (inr k) r = member-there n f g fs (r k)

-- a sum of members is one
pub member-++ : (n : ℕ) (fs : List Terms) (f g : Terms) → IsMember n fs f → IsMember n fs g → IsMember n fs (f ++ g)
member-++ n fs f g m k = record {
  factor = m.factor * k.factor;
  positive = mul-pos m.positive k.positive;
  multipliers = added (all_scaled (pos k.factor) m.multipliers) (all_scaled (pos m.factor) k.multipliers);
  in_ring = added-ring n (all_scaled (pos k.factor) m.multipliers) (all_scaled (pos m.factor) k.multipliers)
      (all_scaled-ring n (pos k.factor) m.multipliers m.in_ring) (all_scaled-ring n (pos m.factor) k.multipliers k.in_ring);
  equation = λ e.
      let c = whole (pos m.factor) in
      let d = whole (pos k.factor) in
      ap (λ z. whole (pos (m.factor * k.factor)) *ℚ z) (coefficient-++ f g e)
      ∙ ap (λ z. z *ℚ (coefficient f e +ℚ coefficient g e)) (whole-* (pos m.factor) (pos k.factor))
      ∙ *ℚ-+ℚ (c *ℚ d) (coefficient f e) (coefficient g e)
      ∙ ap (λ z. z +ℚ (c *ℚ d) *ℚ coefficient g e) (exchange c d (coefficient f e) ∙ ap (λ z. d *ℚ z) (m.equation e) ∙
      sym (coefficient-all_scaled (pos k.factor) m.multipliers fs e))
      ∙ ap (λ z. coefficient (combination (all_scaled (pos k.factor) m.multipliers) fs) e +ℚ z) (*ℚ_assoc c d (coefficient g e) ∙
      ap (λ z. c *ℚ z) (k.equation e) ∙ sym (coefficient-all_scaled (pos m.factor) k.multipliers fs e))
      ∙ sym (coefficient-added (all_scaled (pos k.factor) m.multipliers) (all_scaled (pos m.factor) k.multipliers) fs e);
}

-- a multiple of a member is one
pub member-times : (n : ℕ) (fs : List Terms) (f : Terms) (c : Fraction) (u : Exponents) → IsInRing n u →
    IsMember n fs f → IsMember n fs (times c u f)
member-times n fs f c u i m = record {
  factor = m.factor * c.den;
  positive = mul-pos m.positive c.positive;
  multipliers = all_scaled c.num (all_shifted u m.multipliers);
  in_ring = all_scaled-ring n c.num (all_shifted u m.multipliers) (all_shifted-ring n u m.multipliers i m.in_ring);
  equation = λ e.
      let d = whole (pos m.factor) in
      let b = whole (pos c.den) in
      sym (coefficient-times_factor (whole (pos (m.factor * c.den))) c u f e)
      ∙ ap (λ z. coefficient (times z u f) e) (ap (λ z. z *ℚ c) (whole-* (pos m.factor) (pos c.den)) ∙ *ℚ_assoc d b c ∙ ap (λ z. d *ℚ z) (den_times c) ∙
      *ℚ_comm d (whole c.num))
      ∙ coefficient-times_factor (whole c.num) d u f e
      ∙ ap (λ z. whole c.num *ℚ z) (ap (λ z. coefficient z e) (ap (λ z. times z u f) (sym (one-*ℚ d)) ∙ ap (λ z. times (one_ℚ *ℚ d) z f) (sym (plus-nil u)) ∙
      times-times one_ℚ d u [] f)
      ∙ SamePolynomial-times one_ℚ u (times d [] f) (combination m.multipliers fs) (λ y. coefficient-times d [] f y ∙ m.equation y) e
      ∙ ap (λ z. coefficient z e) (sym (combination-shifted u m.multipliers fs)))
      ∙ sym (coefficient-all_scaled c.num (all_shifted u m.multipliers) fs e);
}

-- a difference of members is one
pub member-difference : (n : ℕ) (fs : List Terms) (f g : Terms) → IsMember n fs f → IsMember n fs g →
    IsMember n fs (f ++ times (neg_ℚ one_ℚ) [] g)
member-difference n fs f g m k = member-++ n fs f (times (neg_ℚ one_ℚ) [] g) m (member-times n fs g (neg_ℚ one_ℚ) [] (λ i l. refl) k)

-- ---- from a member to the working form

spans-product : (fs : List Terms) (h : IntegerTerms) (f : Terms) → Contains fs f → Spans fs (product h f)
spans-product fs [] f c = Spans-zero fs
spans-product fs (t ∷ h) f c = Spans-++ fs (times (whole t.0) t.1 f) (product h f) (Spans-times fs f (whole t.0) t.1 (Spans-generator fs f c))
    (spans-product fs h f c)

spans-combination : (fs : List Terms) (hs : List IntegerTerms) (gs : List Terms) → Each (Contains fs) gs →
    Spans fs (combination hs gs)
spans-combination fs [] gs c = Spans-zero fs
spans-combination fs (h ∷ hs) [] c = Spans-zero fs
spans-combination fs (h ∷ hs) (g ∷ gs) c = Spans-++ fs (product h g) (combination hs gs) (spans-product fs h g c.0) (spans-combination fs hs gs c.1)

-- f is 1/d times the combination
member-parts : (n : ℕ) (fs : List Terms) (f : Terms) (m : IsMember n fs f) (x : Exponents) →
    coefficient f x ≡ over (pos 1) (m.factor - 1) *ℚ coefficient (combination m.multipliers fs) x
member-parts n fs f m x = divided_by m.factor (coefficient f x) (coefficient (combination m.multipliers fs) x) m.positive (m.equation x)

-- a member is spanned
pub spans_of_member : (n : ℕ) (fs : List Terms) (f : Terms) → IsMember n fs f → Spans fs f
spans_of_member n fs f m =
    let c = over (pos 1) (m.factor - 1) in
    Spans-equal fs (times c [] (combination m.multipliers fs)) f (λ x. coefficient-times c [] (combination m.multipliers fs) x ∙ sym (member-parts n fs f m x))
    (Spans-times fs (combination m.multipliers fs) c [] (spans-combination fs m.multipliers fs (each_contained (Contains fs) fs (λ g k. k))))

outside-product : (n : ℕ) (h : IntegerTerms) (f : Terms) (x : Exponents) → IsMultiplier n h → IsInVariables n f →
    (IsInRing n x → ⊥) → coefficient (product h f) x ≡ zero_ℚ
outside-product n [] f x r v o = refl
outside-product n (t ∷ h) f x r v o =
    coefficient-++ (times (whole t.0) t.1 f) (product h f) x
    ∙ ap (λ z. z +ℚ coefficient (product h f) x) (nothing_outside n (times (whole t.0) t.1 f) x (variables-times n (whole t.0) t.1 f r.0 v) o)
    ∙ zero-+ℚ _ ∙ outside-product n h f x r.1 v o

outside-combination : (n : ℕ) (hs : List IntegerTerms) (fs : List Terms) (x : Exponents) → Each (IsMultiplier n) hs →
    AreInVariables n fs → (IsInRing n x → ⊥) → coefficient (combination hs fs) x ≡ zero_ℚ
outside-combination n [] fs x r v o = refl
outside-combination n (h ∷ hs) [] x r v o = refl
outside-combination n (h ∷ hs) (f ∷ fs) x r v o =
    coefficient-++ (product h f) (combination hs fs) x
    ∙ ap (λ z. z +ℚ coefficient (combination hs fs) x) (outside-product n h f x r.0 (v f (Contains-here f fs)) o)
    ∙ zero-+ℚ _ ∙ outside-combination n hs fs x r.1 (λ g k. v g (Contains-there f g fs k)) o

-- a member of an ideal in n variables is a polynomial in n variables
pub variables_of_member : (n : ℕ) (fs : List Terms) (f : Terms) → AreInVariables n fs → IsMember n fs f →
    IsInVariables n f
variables_of_member n fs f v m = variables_by n f (λ x o. member-parts n fs f m x ∙
    ap (λ z. over (pos 1) (m.factor - 1) *ℚ z) (outside-combination n m.multipliers fs x m.in_ring v o) ∙ *ℚ-zero _)

-- ---- and back: the terms in the ring, with shifts in the ring

record InsideRing (n : ℕ) (fs : List Terms) (f : Terms) : Type 0 where
  part : Terms
  member : IsMember n fs part
  alike : (x : Exponents) → IsInRing n x → coefficient f x ≡ coefficient part x
  nothing : (x : Exponents) → (IsInRing n x → ⊥) → coefficient part x ≡ zero_ℚ

inside_ring : (n : ℕ) (fs : List Terms) (f : Terms) → AreInVariables n fs → Spans fs f → InsideRing n fs f
inside_ring n fs f v (Spans.none k z) = record { part = []; member = member-zero n fs; alike = λ x r. z x; nothing = λ x o. refl }
inside_ring n fs f v (Spans.more c u p k g j s q) = at (in_ring n u) (inside_ring n fs g v s)
  where
    at : IsInRing n u ⊎ (IsInRing n u → ⊥) → InsideRing n fs g → InsideRing n fs f
    at (inl i) r = record {
      part = times c u p ++ r.part;
      member = member-++ n fs (times c u p) r.part (member-times n fs p c u i (member-generator n fs p j)) r.member;
      alike = λ x h. q x ∙ coefficient-++ (times c u p) g x ∙ ap (λ z. coefficient (times c u p) x +ℚ z) (r.alike x h) ∙
          sym (coefficient-++ (times c u p) r.part x);
      nothing = λ x o. coefficient-++ (times c u p) r.part x ∙ ap (λ z. z +ℚ coefficient r.part x)
          (nothing_outside n (times c u p) x (variables-times n c u p i (v p j)) o) ∙ zero-+ℚ _ ∙ r.nothing x o;
    }
    at (inr o) r = record {
      part = r.part;
      member = r.member;
      alike = λ x h. q x ∙ coefficient-++ (times c u p) g x ∙ ap (λ z. z +ℚ coefficient g x)
          (nothing_there c u p x (λ y m w. o (ring-left n u y (ring-along n x (plus u y) w h)))) ∙ zero-+ℚ _ ∙ r.alike x h;
      nothing = r.nothing;
    }

-- a polynomial in n variables that is spanned is a member
pub member_of_spans : (n : ℕ) (fs : List Terms) (f : Terms) → AreInVariables n fs → IsInVariables n f → Spans fs f →
    IsMember n fs f
member_of_spans n fs f v w s = at (inside_ring n fs f v s)
  where
    at : InsideRing n fs f → IsMember n fs f
    at r = member-equal n fs r.part f (λ x. equal x (in_ring n x)) r.member
      where
        equal : (x : Exponents) → IsInRing n x ⊎ (IsInRing n x → ⊥) → coefficient r.part x ≡ coefficient f x
        equal x (inl h) = sym (r.alike x h)
        equal x (inr o) = r.nothing x o ∙ sym (nothing_outside n f x w o)

-- ---- members of members, and lists with the same ideal

-- what members generate is in the ideal
pub member-trans : (n : ℕ) (fs gs : List Terms) (f : Terms) → AreInVariables n fs →
    ((g : Terms) → Contains gs g → IsMember n fs g) → IsMember n gs f → IsMember n fs f
member-trans n fs gs f v h m = member_of_spans n fs f v (variables_of_member n gs f (λ g k. variables_of_member n fs g v (h g k)) m)
    (Spans-trans fs gs f (λ g k. spans_of_member n fs g (h g k)) (spans_of_member n gs f m))

-- two lists whose members are members of each other's ideals
pub same_ideal : (n : ℕ) (fs gs : List Terms) → AreInVariables n fs → AreInVariables n gs →
    ((f : Terms) → Contains fs f → IsMember n gs f) → ((g : Terms) → Contains gs g → IsMember n fs g) →
    AreSameIdeal n fs gs
same_ideal n fs gs v w h k = record { inside = λ f m. member-trans n gs fs f w h m; back = λ f m. member-trans n fs gs f v k m }
