-- S-polynomials as code forms them: one polynomial is raised, and a multiple of the other is taken from it.
-- To cite: raised-more, raised_at_end, raised_refused, multiple_length, divides_left, divides_right, join_length,
-- cofactors_of, PairFacts, pair_facts, left_variables, right_variables, left_sound, over_start, s_value, s_variables,
-- left_refused, s_refused, variables_of_monic, monic_refused.
use Rattle.std.specs.Prelude.{◌≡◌, ◌⊎◌, ℕ, ◌+◌, ◌<◌, ◌≤◌, [], ◌∷◌, ◌++◌, length, Contains, Result, Ok, Err, IfOk}
use Rattle.std.proofs.Common.{arith, refl, sym, ap, ◌∙◌, subst, inl, inr, get_or, take}
use Rattle.std.proofs.lemmas.List.{take_more, take_all, map_push}
use Rattle.gf_frac.specs.Fraction.{◌*ℚ◌, neg_ℚ, one_ℚ}
use Rattle.gf_frac.proofs.FractionLaws.{one-*ℚ, zero-not-one}
use Rattle.gf_exponents_theory.specs.Exponents.{Exponents, plus, minus, join, Divides}
use Rattle.gf_exponents_theory.proofs.ExponentsLaws.{same_of, same_flip, minus_left, minus_right}
use Rattle.gf_poly.specs.declared.Term.{Term}
use Rattle.gf_poly.specs.declared.error.PolyError.{PolyError}
use Rattle.gf_poly.specs.declared.error.PolyError.TheVariants as errors
use Rattle.gf_poly.specs.declared.monomial.ExponentOverflow.{ExponentOverflow}
use Rattle.gf_poly.specs.Monomial.{IsFirstOverflow}
use Rattle.gf_poly.specs.Polynomial.{Terms, coefficient, times, times_term, IsDescending, HasVariables, KeepsVariables}
use Rattle.gf_poly.specs.Products.{HasProducts}
use Rattle.gf_poly.specs.Marking.{MarkedPolynomial, HasMarkedTerm}
use Rattle.gf_poly.proofs.MonomialLaws.{length-join, length-minus}
use Rattle.gf_poly.proofs.PolynomialLaws.{coefficient-times}
use Rattle.gf_poly.proofs.ProductLaws.{IsDescending-products, HasVariables-products}
use Rattle.gf_poly.proofs.CoefficientLaws.{term_coefficient}
use Rattle.gf_ideal_theory.specs.Reduction.{IsSPolynomial}
use Rattle.gf_ideal_theory.specs.Operands.{IsShiftOperation, IsSPolynomialExponents}
use Rattle.gf_ideal_theory.proofs.KeptForms.{term_there}
use Rattle.gf_division.specs.SPolynomials.{ArePairOf, SharePairVariables, KeepsPairVariables, IsMonicPairRefusal, AreLcmCofactors, IsRaised, IsRaisingRefusal}
use Rattle.gf_division.specs.SPolynomials.{IsSPolynomialOf}
use Rattle.gf_division.specs.Dividends.{Split, joined_terms, IsSound, AreOverProducts, Subtracts, IsSubtractionRefusal}
use Rattle.gf_division.proofs.StepLaws.{head_length}

-- ---- a polynomial times a monomial

pub raised-more : (u : Exponents) (f out new : Terms) (i : ℕ) (t : Term) (m : Exponents) → i < length f → t ≡ get_or f i t → m ≡ plus u t.mono →
    new ≡ out ++ record { coef = t.coef; mono = m } ∷ [] → out ≡ times one_ℚ u (take i f) → new ≡ times one_ℚ u (take (i + 1) f)
raised-more u f out new i t m l e q p h =
    p ∙ ap (λ (z : Terms). z ++ record { coef = t.coef; mono = m } ∷ []) h ∙ ap (λ (r : Term). times one_ℚ u (take i f) ++ r ∷ []) one
    ∙ sym (map_push (times_term one_ℚ u) (take i f) t) ∙ ap (times one_ℚ u) (sym (take_more f i t l ∙ ap (λ (r : Term). take i f ++ r ∷ []) (sym e)))
  where
    one : record { coef = t.coef; mono = m } ≡ times_term one_ℚ u t
    one = λ j. record { coef = sym (one-*ℚ t.coef) j; mono = q j }

products : (u : Exponents) (f h : Terms) → h ≡ times one_ℚ u f → HasProducts one_ℚ u f h
products u f h e = record { nonzero = λ z. e; zero = λ z. absurd (zero-not-one (sym z)) }

pub raised_at_end : (u : Exponents) (f g out : Terms) (i : ℕ) → g ≡ f → length g ≤ i → HasVariables (length u) f → IsDescending f →
    out ≡ times one_ℚ u (take i g) → IsRaised u f out
raised_at_end u f g out i e l v d h =
    let q : out ≡ times one_ℚ u f = h ∙ ap (times one_ℚ u) (take_all i g l ∙ e) in
    record { value = q; descending = IsDescending-products one_ℚ u f out v d (products u f out q) }

pub raised_refused : (u : Exponents) (f g : Terms) (i : ℕ) (t : Term) (o : ExponentOverflow) → g ≡ f → i < length g → t ≡ get_or g i t →
    HasVariables (length u) f → IsDescending f → IsFirstOverflow u t.mono o → IsRaisingRefusal u f (errors.Exponent o)
raised_refused u f g i t o e l q v d h =
    let c : Contains f t = subst (λ (z : Terms). Contains z t) e (i, l, sym q) in (
      record {
        monomial = t.mono;
        there = term_there (length u) f t v d c;
        variable = h.at;
        operands = inl (h.left, h.right);
      },
      omega (arith, h.left, h.right, h.leaves),
    )

-- ---- the least common multiple

-- what is known of a pair of marked polynomials, their marks x and y, and the cofactors u and v
pub record PairFacts (b c : MarkedPolynomial) (u v : Exponents) : Type 0 where
  pub n : ℕ
  pub are : ArePairOf n b c
  pub cofactors : AreLcmCofactors b.head c.head u v
  pub left : length u ≡ n
  pub right : length v ≡ n

pub multiple_length : (b c : MarkedPolynomial) (x y : Exponents) → SharePairVariables b c → HasMarkedTerm b → HasMarkedTerm c → x ≡ b.head → y ≡ c.head →
    length x ≡ length y
multiple_length b c x y p h k ex ey = ap length ex ∙ head_length p.n b p.are.left h ∙ sym (head_length p.n c p.are.right k) ∙ ap length (sym ey)

pub divides_left : (x y m : Exponents) → m ≡ join x y → Divides x m
divides_left x y m e =
    subst (Divides x) (sym e) (record { rest = minus (join x y) x; product = same_flip (plus (minus (join x y) x) x) (join x y) (minus_left x y) })

pub divides_right : (x y m : Exponents) → m ≡ join x y → Divides y m
divides_right x y m e =
    subst (Divides y) (sym e) (record { rest = minus (join x y) y; product = same_flip (plus (minus (join x y) y) y) (join x y) (minus_right x y) })

pub join_length : (x y m : Exponents) → length x ≡ length y → m ≡ join x y → length m ≡ length x
join_length x y m l e = ap length e ∙ length-join x y l

pub cofactors_of : (x y m u v : Exponents) → length x ≡ length y → m ≡ join x y → u ≡ minus m x → v ≡ minus m y → plus u x ≡ m → plus v y ≡ m →
    AreLcmCofactors x y u v
cofactors_of x y m u v l em eu ev pu pv =
    let j : length m ≡ length x = join_length x y m l em in
    record { left = pu ∙ em; right = pv ∙ em; length_left = ap length eu ∙ length-minus m x j ∙ j; length_right = ap length ev ∙ length-minus m y (j ∙ l) ∙ j }

pub pair_facts : (b c : MarkedPolynomial) (x y u v : Exponents) → SharePairVariables b c → HasMarkedTerm b → x ≡ b.head → y ≡ c.head → AreLcmCofactors x y u v →
    PairFacts b c u v
pair_facts b c x y u v p h ex ey w =
    let n : length x ≡ p.n = ap length ex ∙ head_length p.n b p.are.left h in
    record {
      n = p.n;
      are = p.are;
      cofactors = subst (λ (z : Exponents). AreLcmCofactors z c.head u v) ex (subst (λ (z : Exponents). AreLcmCofactors x z u v) ey w);
      left = w.length_left ∙ n;
      right = w.length_right ∙ n;
    }

pub left_variables : (b c : MarkedPolynomial) (u v : Exponents) (f : Terms) → f ≡ b.poly → PairFacts b c u v → HasVariables (length u) f
left_variables b c u v f e k = subst (HasVariables (length u)) (sym e) (subst (λ (n : ℕ). HasVariables n b.poly) (sym k.left) k.are.left)

pub right_variables : (b c : MarkedPolynomial) (u v : Exponents) (f : Terms) → f ≡ c.poly → PairFacts b c u v → HasVariables (length v) f
right_variables b c u v f e k = subst (HasVariables (length v)) (sym e) (subst (λ (n : ℕ). HasVariables n c.poly) (sym k.right) k.are.right)

pub left_sound : (b c : MarkedPolynomial) (u v : Exponents) (f h : Terms) (s : Split) → f ≡ b.poly → PairFacts b c u v → IsRaised u f h →
    s ≡ record { above = []; below = h } → IsSound (length v) s
left_sound b c u v f h s e k r q = subst (IsSound (length v)) (sym q) (record {
  descending = r.descending;
  variables = subst (λ (n : ℕ). HasVariables n h) (k.left ∙ sym k.right) (HasVariables-products one_ℚ u f h (left_variables b c u v f e k)
      (products u f h r.value));
})

pub over_nothing : (u : Exponents) (g : Terms) → AreOverProducts u g []
over_nothing u [] = tt
over_nothing u (t ∷ g) = (tt, over_nothing u g)

pub over_start : (u : Exponents) (g h f : Terms) (s : Split) → s ≡ record { above = []; below = h } → f ≡ s.above → AreOverProducts u g f
over_start u g h f s e q = subst (AreOverProducts u g) (sym (q ∙ ap (λ (z : Split). z.above) e)) (over_nothing u g)

-- ---- the S-polynomial of monic ones

pub s_value : (b c : MarkedPolynomial) (u v : Exponents) (f g h r : Terms) (s t : Split) → f ≡ b.poly → g ≡ c.poly → PairFacts b c u v → IsRaised u f h →
    s ≡ record { above = []; below = h } → Subtracts one_ℚ v g s t → r ≡ joined_terms t → IsSPolynomial b c r
s_value b c u v f g h r s t ef eg k w q d e = record {
  left = u;
  right = v;
  of_left = same_of (plus u b.head) (join b.head c.head) k.cofactors.left;
  of_right = same_of (plus v c.head) (join b.head c.head) k.cofactors.right;
  equal = λ y.
      ap (λ (z : Terms). coefficient z y) e ∙ d.same y
      ∙ ap (λ (z : Terms). coefficient (z ++ times (neg_ℚ one_ℚ) v g) y) (ap joined_terms q ∙ w.value ∙ ap (times one_ℚ u) ef)
      ∙ ap (λ (z : Terms). coefficient (times one_ℚ u b.poly ++ times (neg_ℚ one_ℚ) v z) y) eg;
}

pub s_variables : (b c : MarkedPolynomial) (u v : Exponents) (g r : Terms) (s t : Split) → PairFacts b c u v → HasMarkedTerm b → Subtracts one_ℚ v g s t →
    r ≡ joined_terms t → KeepsPairVariables b c r
s_variables b c u v g r s t k m d e = record {
  at = λ n a. subst (HasVariables n) (sym e) (subst (λ (i : ℕ). HasVariables i (joined_terms t))
      (k.right ∙ sym (head_length k.n b k.are.left m) ∙ head_length n b a.left m) d.sound.variables);
}

shift_refused : (b c : MarkedPolynomial) (u v : Exponents) (left right : ℕ) → PairFacts b c u v →
    IsShiftOperation u b.poly left right ⊎ IsShiftOperation v c.poly left right → IsSPolynomialExponents b c left right
shift_refused b c u v left right k h = record {
  of_b = u;
  of_c = v;
  shift_b = same_of (plus u b.head) (join b.head c.head) k.cofactors.left;
  shift_c = same_of (plus v c.head) (join b.head c.head) k.cofactors.right;
  sum = h;
}

-- in raising the first
pub left_refused : (b c : MarkedPolynomial) (u v : Exponents) (f : Terms) (e : PolyError) → f ≡ b.poly → PairFacts b c u v → IsRaisingRefusal u f e →
    IsMonicPairRefusal b c e
left_refused b c u v f (errors.Overflow o) q k h = absurd h.0
left_refused b c u v f (errors.Exponent o) q k h = let w = subst (λ (z : Terms). IsRaisingRefusal u z (errors.Exponent o)) q h in
    (shift_refused b c u v o.left o.right k (inl w.0), w.1)
left_refused b c u v f errors.Memory q k h = tt

-- in taking the second away
pub s_refused : (b c : MarkedPolynomial) (u v : Exponents) (f g h : Terms) (s : Split) (e : PolyError) → f ≡ b.poly → g ≡ c.poly → IsDescending g →
    PairFacts b c u v → IsRaised u f h → s ≡ record { above = []; below = h } → IsSubtractionRefusal (joined_terms s) one_ℚ v g e → IsMonicPairRefusal b c e
s_refused b c u v f g h s (errors.Overflow o) ef eg d k w q r = elim r.cause [
  | inl p ↦ absurd (p.other refl)
  | inr p ↦ (
    record {
      is_op = p.operation;
      of_b = u;
      of_c = v;
      shift_b = same_of (plus u b.head) (join b.head c.head) k.cofactors.left;
      shift_c = same_of (plus v c.head) (join b.head c.head) k.cofactors.right;
      exponents = plus v r.term.mono;
      is_left = p.left ∙ ap (λ (z : Terms). coefficient z (plus v r.term.mono)) (ap joined_terms q ∙ w.value ∙ ap (times one_ℚ u) ef);
      is_right =
          p.right ∙ ap (λ z. one_ℚ *ℚ z) (sym (term_coefficient (length v) g r.term (right_variables b c u v g eg k) d r.contained))
          ∙ sym (coefficient-times one_ℚ v g r.term.mono) ∙ ap (λ (z : Terms). coefficient (times one_ℚ v z) (plus v r.term.mono)) eg;
    },
    p.leaves,
  )
]
s_refused b c u v f g h s (errors.Exponent o) ef eg d k w q r = (
  shift_refused b c u v o.left o.right k (inr (subst (λ (z : Terms). IsShiftOperation v z o.left o.right) eg (record {
    monomial = r.term.mono;
    there = term_there (length v) g r.term (right_variables b c u v g eg k) d r.contained;
    variable = r.cause.at;
    operands = inl (r.cause.left, r.cause.right);
  }))),
  omega (arith, r.cause.left, r.cause.right, r.cause.leaves),
)
s_refused b c u v f g h s errors.Memory ef eg d k w q r = tt

-- ---- of any marked polynomials

pub variables_of_monic : (f g b c : MarkedPolynomial) (r : Result Terms PolyError) → KeepsVariables f.poly b.poly → KeepsVariables g.poly c.poly →
    IfOk r (KeepsPairVariables b c) → IfOk r (KeepsPairVariables f g)
variables_of_monic f g b c (Ok s) kb kc h = record { at = λ n a. h.at n (record { left = kb.at n a.left; right = kc.at n a.right }) }
variables_of_monic f g b c (Err e) kb kc h = tt

pub pair_along : (f g b c : MarkedPolynomial) → KeepsVariables f.poly b.poly → KeepsVariables g.poly c.poly → SharePairVariables f g → SharePairVariables b c
pair_along f g b c kb kc p = record { n = p.n; are = record { left = kb.at p.n p.are.left; right = kc.at p.n p.are.right } }

-- of monic polynomials it is their S-polynomial as they are
pub s_polynomial_of_monic : (b c : MarkedPolynomial) (s : Terms) → coefficient b.poly b.head ≡ one_ℚ → coefficient c.poly c.head ≡ one_ℚ →
    IsSPolynomialOf b c s → IsSPolynomial b c s
s_polynomial_of_monic b c s p q h = subst (λ (d : MarkedPolynomial). IsSPolynomial d c s) (h.monic.left.kept p)
    (subst (λ (d : MarkedPolynomial). IsSPolynomial h.left d s) (h.monic.right.kept q) h.value)
