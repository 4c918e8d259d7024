-- The runs on one monomial: they have one member, and work on no numbers but 0, 1 and the exponents of the monomial.
-- To cite: monomials_stay_within_limits.
use Rattle.std.specs.Prelude.{◌≡◌, ◌⊎◌, ℕ, zero, suc, ◌+◌, ◌<◌, ◌≤◌, ◌^◌, Bool, true, false, List, [], ◌∷◌, ◌++◌, length, Contains, max, if◌then◌else◌}
use Rattle.std.proofs.Common.{arith, refl, sym, ap, ap₂, ◌∙◌, subst, inl, inr, lit<}
use Rattle.gf_frac.specs.Fraction.{Fraction, over, ◌+ℚ◌, ◌*ℚ◌, neg_ℚ, reciprocal_ℚ, zero_ℚ, one_ℚ}
use Rattle.gf_frac.specs.Fits.{Fits}
use Rattle.gf_frac.specs.declared.refusal.Op.{Op}
use Rattle.gf_frac.specs.declared.refusal.Op.TheVariants.{Add, Sub, Mul, Div}
use Rattle.gf_frac.proofs.FractionLaws.{+ℚ-zero, one-*ℚ, *ℚ-zero, *ℚ-one, neg_ℚ-*ℚ, +ℚ-neg_ℚ}
use Rattle.gf_int_theory.specs.Gcd.{gcd}
use Rattle.gf_int_theory.proofs.ListLaws.{Contains-here, Contains-last}
use Rattle.gf_exponents_theory.specs.Exponents.{Exponents, entry, same, plus, join}
use Rattle.gf_exponents_theory.specs.SixOrders.{below_of}
use Rattle.gf_exponents_theory.proofs.ExponentsLaws.{same_flip, same_trans, cancel, entries_same, same_by_entries, entry-join}
use Rattle.gf_poly.specs.Polynomial.{Terms, coefficient, times, SamePolynomial}
use Rattle.gf_poly.specs.Marking.{MarkedPolynomial}
use Rattle.gf_poly.proofs.PolynomialLaws.{coefficient-++}
use Rattle.gf_ideal_theory.specs.Membership.{HasMonomial}
use Rattle.gf_ideal_theory.specs.Operands.{AreThese, IsStepOperation, IsStepExponents, IsShiftOperation, IsSPolynomialOperation}
use Rattle.gf_ideal_theory.specs.Reduction.{IsDivisible, IsStep, Reached, IsSPolynomial, IsMonicForm}
use Rattle.gf_ideal_theory.specs.WorkLists.{IsOrigin, IsWorkList, IsTail, IsRunOperation, IsRunExponents}
use Rattle.gf_ideal_theory.proofs.ListLaws.{Contains-cases}
use Rattle.gf_ideal_theory.proofs.TermLaws.{coefficient-times-one}
use Rattle.gf_buchberger.specs.Bases.{unit_monomial, MonomialsStayWithinLimits}
use Rattle.gf_buchberger.specs.Pairs.{pairs_below}

-- ---- the numbers 0 and 1

-- x is 0 or 1
abbrev IsBit : Fraction → Type 0
IsBit x = (x ≡ zero_ℚ) ⊎ (x ≡ one_ℚ)

bits : (P : Fraction → Fraction → Type 0) → P zero_ℚ zero_ℚ → P zero_ℚ one_ℚ → P one_ℚ zero_ℚ → P one_ℚ one_ℚ → (x y : Fraction) → IsBit x → IsBit y → P x y
bits P a b c d x y (inl e) (inl f) = subst (λ z. P z y) (sym e) (subst (P zero_ℚ) (sym f) a)
bits P a b c d x y (inl e) (inr f) = subst (λ z. P z y) (sym e) (subst (P zero_ℚ) (sym f) b)
bits P a b c d x y (inr e) (inl f) = subst (λ z. P z y) (sym e) (subst (P one_ℚ) (sym f) c)
bits P a b c d x y (inr e) (inr f) = subst (λ z. P z y) (sym e) (subst (P one_ℚ) (sym f) d)

zero_less_zero : Fits Sub zero_ℚ zero_ℚ
unfolding over gcd neg_ℚ
zero_less_zero = record { left = record { within = lit< tt }; right = record { within = lit< tt }; sum = record { within = lit< tt }; denominator = lit< tt }

zero_less_one : Fits Sub zero_ℚ one_ℚ
unfolding over gcd neg_ℚ
zero_less_one = record { left = record { within = lit< tt }; right = record { within = lit< tt }; sum = record { within = lit< tt }; denominator = lit< tt }

one_less_zero : Fits Sub one_ℚ zero_ℚ
unfolding over gcd neg_ℚ
one_less_zero = record { left = record { within = lit< tt }; right = record { within = lit< tt }; sum = record { within = lit< tt }; denominator = lit< tt }

one_less_one : Fits Sub one_ℚ one_ℚ
unfolding over gcd neg_ℚ
one_less_one = record { left = record { within = lit< tt }; right = record { within = lit< tt }; sum = record { within = lit< tt }; denominator = lit< tt }

zero_by_zero : Fits Mul zero_ℚ zero_ℚ
unfolding over gcd
zero_by_zero = record { numerator = record { within = lit< tt }; denominator = lit< tt }

zero_by_one : Fits Mul zero_ℚ one_ℚ
unfolding over gcd
zero_by_one = record { numerator = record { within = lit< tt }; denominator = lit< tt }

one_by_zero : Fits Mul one_ℚ zero_ℚ
unfolding over gcd
one_by_zero = record { numerator = record { within = lit< tt }; denominator = lit< tt }

one_by_one : Fits Mul one_ℚ one_ℚ
unfolding over gcd
one_by_one = record { numerator = record { within = lit< tt }; denominator = lit< tt }

zero_over_one : Fits Div zero_ℚ one_ℚ
unfolding over gcd reciprocal_ℚ
zero_over_one = record { numerator = record { within = lit< tt }; denominator = lit< tt }

one_over_one : Fits Div one_ℚ one_ℚ
unfolding over gcd reciprocal_ℚ
one_over_one = record { numerator = record { within = lit< tt }; denominator = lit< tt }

sub_fits : (x y : Fraction) → IsBit x → IsBit y → Fits Sub x y
sub_fits = bits (Fits Sub) zero_less_zero zero_less_one one_less_zero one_less_one

mul_fits : (x y : Fraction) → IsBit x → IsBit y → Fits Mul x y
mul_fits = bits (Fits Mul) zero_by_zero zero_by_one one_by_zero one_by_one

div_fits : (x y : Fraction) → IsBit x → y ≡ one_ℚ → Fits Div x y
div_fits x y (inl e) f = subst (λ z. Fits Div z y) (sym e) (subst (Fits Div zero_ℚ) (sym f) zero_over_one)
div_fits x y (inr e) f = subst (λ z. Fits Div z y) (sym e) (subst (Fits Div one_ℚ) (sym f) one_over_one)

bit_product : (x y : Fraction) → IsBit x → IsBit y → IsBit (x *ℚ y)
bit_product x y h (inl f) = inl (ap (λ z. x *ℚ z) f ∙ *ℚ-zero x)
bit_product x y h (inr f) = subst IsBit (sym (ap (λ z. x *ℚ z) f ∙ *ℚ-one x)) h

opposite : (x : Fraction) → x +ℚ neg_ℚ one_ℚ *ℚ x ≡ zero_ℚ
opposite x = ap (λ z. x +ℚ z) (neg_ℚ-*ℚ one_ℚ x ∙ ap neg_ℚ (one-*ℚ x)) ∙ +ℚ-neg_ℚ x

-- ---- the monomial, and zero

coefficient_there : (e y : Exponents) → same y e ≡ true → coefficient (unit_monomial e) y ≡ one_ℚ
coefficient_there e y s = ap (λ (b : Bool). (if b then one_ℚ else zero_ℚ) +ℚ zero_ℚ) s ∙ +ℚ-zero one_ℚ

coefficient_elsewhere : (e y : Exponents) → same y e ≡ false → coefficient (unit_monomial e) y ≡ zero_ℚ
coefficient_elsewhere e y s = ap (λ (b : Bool). (if b then one_ℚ else zero_ℚ) +ℚ zero_ℚ) s ∙ +ℚ-zero zero_ℚ

bit_at : (e y : Exponents) (b : Bool) → same y e ≡ b → IsBit (coefficient (unit_monomial e) y)
bit_at e y true s = inr (coefficient_there e y s)
bit_at e y false s = inl (coefficient_elsewhere e y s)

-- f is the monomial, or zero
abbrev IsSmall : Exponents → Terms → Type 0
IsSmall e f = SamePolynomial f (unit_monomial e) ⊎ SamePolynomial f []

small_bit : (e : Exponents) (f : Terms) → IsSmall e f → (y : Exponents) → IsBit (coefficient f y)
small_bit e f (inl h) y = subst IsBit (sym (h y)) (bit_at e y (same y e) refl)
small_bit e f (inr h) y = inl (h y)

small_there : (e : Exponents) (f : Terms) (y : Exponents) → IsSmall e f → HasMonomial f y → SamePolynomial f (unit_monomial e) × (same y e ≡ true)
small_there e f y (inr h) n = absurd (n (h y))
small_there e f y (inl h) n = (h, at (same y e) refl)
  where
    at : (b : Bool) → same y e ≡ b → same y e ≡ true
    at true s = s
    at false s = absurd (n (h y ∙ coefficient_elsewhere e y s))

small_along : (e : Exponents) (f g : Terms) → SamePolynomial f g → IsSmall e f → IsSmall e g
small_along e f g k (inl h) = inl (λ y. sym (k y) ∙ h y)
small_along e f g k (inr h) = inr (λ y. sym (k y) ∙ h y)

-- ---- members

-- b is the monomial, marked at it
record IsUnit (e : Exponents) (b : MarkedPolynomial) : Type 0 where
  poly : SamePolynomial b.poly (unit_monomial e)
  head : same b.head e ≡ true

abbrev AreUnits : Exponents → List MarkedPolynomial → Type 0
AreUnits e bs = (b : MarkedPolynomial) → Contains bs b → IsUnit e b

-- raised to e it is as it was
unraised : (e u : Exponents) (b : MarkedPolynomial) → IsUnit e b → same (plus u b.head) e ≡ true → same u [] ≡ true
unraised e u b h s = cancel b.head u [] (same_trans (plus u b.head) e b.head s (same_flip b.head e h.head))

-- a step leaves nothing
step_leaves : (e : Exponents) (bs : List MarkedPolynomial) (g h : Terms) → AreUnits e bs → IsSmall e g → IsStep (Contains bs) g h → SamePolynomial h []
step_leaves e bs g h u s t y =
    t.equal y
    ∙ coefficient-++ g (times (neg_ℚ (coefficient g t.at)) t.rest t.member.poly) y
    ∙ ap (λ z. coefficient g y +ℚ z) (coefficient-times-one (neg_ℚ (coefficient g t.at)) t.rest t.member.poly y none ∙
    ap₂ (λ c x. neg_ℚ c *ℚ x) (there.0 t.at ∙ coefficient_there e t.at there.1) (unit.poly y ∙ sym (there.0 y)))
    ∙ opposite (coefficient g y)
  where
    unit : IsUnit e t.member
    unit = u t.member t.contained

    there : SamePolynomial g (unit_monomial e) × (same t.at e ≡ true)
    there = small_there e g t.at s t.there

    none : same t.rest [] ≡ true
    none = unraised e t.rest t.member unit (same_trans (plus t.rest t.member.head) t.at e (same_flip t.at (plus t.rest t.member.head) t.divides) there.1)

reached_small : (e : Exponents) (bs : List MarkedPolynomial) (f g : Terms) → AreUnits e bs → IsSmall e f → Reached (Contains bs) f g → IsSmall e g
reached_small e bs f h u s (Reached.here g k) = small_along e f g k s
reached_small e bs f h u s (Reached.next g k r t) = inr (step_leaves e bs g k u (reached_small e bs f g u s r) t)

-- an S-polynomial is zero
join_same : (e h k : Exponents) → same h e ≡ true → same k e ≡ true → same (join h k) e ≡ true
join_same e h k p q = same_by_entries (join h k) e (λ i. entry-join h k i ∙ ap₂ max (entries_same h e p i) (entries_same k e q i) ∙ omega arith)

raised_none : (e u : Exponents) (a b c : MarkedPolynomial) → IsUnit e a → IsUnit e b → IsUnit e c → same (plus u a.head) (join b.head c.head) ≡ true →
    same u [] ≡ true
raised_none e u a b c h p q s = unraised e u a h (same_trans (plus u a.head) (join b.head c.head) e s (join_same e b.head c.head p.head q.head))

s_polynomial_none : (e : Exponents) (b c : MarkedPolynomial) (s : Terms) → IsUnit e b → IsUnit e c → IsSPolynomial b c s → SamePolynomial s []
s_polynomial_none e b c s p q h y =
    h.equal y
    ∙ coefficient-++ (times one_ℚ h.left b.poly) (times (neg_ℚ one_ℚ) h.right c.poly) y
    ∙ ap₂ (λ x z. x +ℚ z)
    (coefficient-times-one one_ℚ h.left b.poly y (raised_none e h.left b b c p p q h.of_left) ∙ one-*ℚ (coefficient b.poly y) ∙ p.poly y)
    (coefficient-times-one (neg_ℚ one_ℚ) h.right c.poly y (raised_none e h.right c b c q p q h.of_right) ∙ ap (λ z. neg_ℚ one_ℚ *ℚ z) (q.poly y))
    ∙ opposite (coefficient (unit_monomial e) y)

-- ---- work lists

origin_small : (e : Exponents) (bs : List MarkedPolynomial) (f : Terms) → AreUnits e bs → IsOrigin (unit_monomial e ∷ []) bs f → IsSmall e f
origin_small e bs f u (inl c) = at (Contains-cases (unit_monomial e) f [] c)
  where
    at : (unit_monomial e ≡ f) ⊎ Contains [] f → IsSmall e f
    at (inl q) = inl (λ y. ap (λ (z : Terms). coefficient z y) (sym q))
    at (inr k) = absurd (omega (arith, k.1))
origin_small e bs f u (inr (b, c, k, l, h)) = inr (s_polynomial_none e b c f (u b k) (u c l) h)

monic_unit : (e : Exponents) (g : Terms) (b : MarkedPolynomial) → IsSmall e g → IsMonicForm g b → IsUnit e b
monic_unit e g b s q = record {
  poly = λ y. sym (one-*ℚ (coefficient b.poly y)) ∙ ap (λ z. z *ℚ coefficient b.poly y) (sym (there.0 b.head ∙ coefficient_there e b.head there.1)) ∙
      q.equation y ∙ there.0 y;
  head = there.1;
}
  where
    there : SamePolynomial g (unit_monomial e) × (same b.head e ≡ true)
    there = small_there e g b.head s q.there

first_member : (e : Exponents) (bs : List MarkedPolynomial) (b : MarkedPolynomial) → AreUnits e bs → IsUnit e b → (IsDivisible (Contains bs) b.head → ⊥) →
    length (bs ++ b ∷ []) ≤ 1
first_member e [] b u h n = omega arith
first_member e (a ∷ bs) b u h n =
    absurd (n (record {
      member = a;
      contained = Contains-here a bs;
      rest = [];
      divides = same_trans b.head e a.head h.head (same_flip a.head e (u a (Contains-here a bs)).head);
    }))

one_more : (e : Exponents) (bs : List MarkedPolynomial) (f g : Terms) (b : MarkedPolynomial) → AreUnits e bs → IsOrigin (unit_monomial e ∷ []) bs f →
    Reached (Contains bs) f g → IsMonicForm g b → (IsDivisible (Contains bs) b.head → ⊥) → AreUnits e (bs ++ b ∷ []) × (length (bs ++ b ∷ []) ≤ 1)
one_more e bs f g b units o r q n = (λ c k. at c (Contains-last bs b c k), first_member e bs b units unit n)
  where
    unit : IsUnit e b
    unit = monic_unit e g b (reached_small e bs f g units (origin_small e bs f units o) r) q

    at : (c : MarkedPolynomial) → Contains bs c ⊎ (c ≡ b) → IsUnit e c
    at c (inl k) = units c k
    at c (inr p) = subst (IsUnit e) (sym p) unit

work_units : (e : Exponents) (below : Exponents → Exponents → Type 0) (bs : List MarkedPolynomial) → IsWorkList (unit_monomial e ∷ []) below bs →
    AreUnits e bs × (length bs ≤ 1)
work_units e below cs IsWorkList.start = (λ b c. absurd (omega (arith, c.1)), omega arith)
work_units e below cs (IsWorkList.more bs f g b w o r q m n) = one_more e bs f g b (work_units e below bs w).0 o r q n

-- no step is taken at an unmarked term
no_tail : (e : Exponents) (bs : List MarkedPolynomial) (b c : MarkedPolynomial) → IsUnit e b → (s : IsStep (Contains bs) b.poly c.poly) →
    same s.at b.head ≡ false → ⊥
no_tail e bs b c unit s n = let x : same s.at b.head ≡ true =
    same_trans s.at e b.head (small_there e b.poly s.at (inl unit.poly) s.there).1 (same_flip b.head e unit.head) in absurd (cc)

tail_unit : (e : Exponents) (bs : List MarkedPolynomial) (b : MarkedPolynomial) → AreUnits e bs → IsTail bs b → IsUnit e b
tail_unit e bs c u (IsTail.member b k) = u b k
tail_unit e bs d u (IsTail.step b c t h s n) = absurd (no_tail e bs b c (tail_unit e bs b u t) s n)

-- ---- operations

step_fits : (e : Exponents) (bs : List MarkedPolynomial) (f : Terms) (at : Exponents) (op : Op) (left right : Fraction) → AreUnits e bs → IsSmall e f →
    IsStepOperation (Contains bs) f at op left right → Fits op left right
step_fits e bs f at Add left right u s h = absurd h
step_fits e bs f at Sub left right u s h = sub_fits left right (subst IsBit (sym h.is_left) (small_bit e f s (plus h.rest h.exponents)))
    (subst IsBit (sym h.is_right) (bit_product (coefficient f at) (coefficient h.member.poly h.exponents) (small_bit e f s at)
    (small_bit e h.member.poly (inl (u h.member h.index.contained).poly) h.exponents)))
step_fits e bs f at Mul left right u s h = these h.operands
  where
    x : IsBit (coefficient f at)
    x = small_bit e f s at

    y : IsBit (coefficient h.member.poly h.exponents)
    y = small_bit e h.member.poly (inl (u h.member h.index.contained).poly) h.exponents

    these : AreThese (coefficient f at) (coefficient h.member.poly h.exponents) left right → Fits Mul left right
    these (inl p) = mul_fits left right (subst IsBit (sym p.0) x) (subst IsBit (sym p.1) y)
    these (inr p) = mul_fits left right (subst IsBit (sym p.0) y) (subst IsBit (sym p.1) x)
step_fits e bs f at Div left right u s h = absurd h

s_polynomial_fits : (e : Exponents) (b c : MarkedPolynomial) (op : Op) (left right : Fraction) → IsUnit e b → IsUnit e c →
    IsSPolynomialOperation b c op left right → Fits op left right
s_polynomial_fits e b c op left right p q h = subst (λ o. Fits o left right) (sym h.is_op) (sub_fits left right
    (subst IsBit (sym (h.is_left ∙ plain b h.of_b (raised_none e h.of_b b b c p p q h.shift_b))) (small_bit e b.poly (inl p.poly) h.exponents))
    (subst IsBit (sym (h.is_right ∙ plain c h.of_c (raised_none e h.of_c c b c q p q h.shift_c))) (small_bit e c.poly (inl q.poly) h.exponents)))
  where
    plain : (a : MarkedPolynomial) (u : Exponents) → same u [] ≡ true → coefficient (times one_ℚ u a.poly) h.exponents ≡ coefficient a.poly h.exponents
    plain a u s = coefficient-times-one one_ℚ u a.poly h.exponents s ∙ one-*ℚ (coefficient a.poly h.exponents)

operation_fits : (e : Exponents) (below : Exponents → Exponents → Type 0) (op : Op) (left right : Fraction) →
    IsRunOperation (unit_monomial e ∷ []) below op left right → Fits op left right
operation_fits e below op left right (IsRunOperation.step bs f w o h) =
    let u = (work_units e below bs w).0 in
    step_fits e bs h.from h.at op left right u (reached_small e bs f h.from u (origin_small e bs f u o) h.reached) h.operation
operation_fits e below op left right (IsRunOperation.s_polynomial bs b c w k l h) =
    let u = (work_units e below bs w).0 in s_polynomial_fits e b c op left right (u b k) (u c l) h
operation_fits e below op left right (IsRunOperation.monic bs f g at w o r k n h) =
    let u = (work_units e below bs w).0 in
    let s = reached_small e bs f g u (origin_small e bs f u o) r in
    let there = small_there e g at s h.there in
    subst (λ p. Fits p left right) (sym h.is_op) (div_fits left right (subst IsBit (sym h.is_left) (small_bit e g s h.exponents))
    (h.is_right ∙ there.0 at ∙ coefficient_there e at there.1))
operation_fits e below op left right (IsRunOperation.tail bs b at w t n h) =
    let u = (work_units e below bs w).0 in step_fits e bs b.poly at op left right u (inl (tail_unit e bs b u t).poly) h

-- ---- sums of exponents

abbrev AreShort : Exponents → Type 0
AreShort e = (i : ℕ) → entry e i < 2 ^ 31

shift_fits : (e u : Exponents) (b : MarkedPolynomial) (left right : ℕ) → AreShort e → IsUnit e b → same u [] ≡ true → IsShiftOperation u b.poly left right →
    left + right < 2 ^ 31
shift_fits e u b left right l h s k = these k.operands
  where
    none : entry u k.variable ≡ 0
    none = entries_same u [] s k.variable

    there : entry k.monomial k.variable ≡ entry e k.variable
    there = entries_same k.monomial e (small_there e b.poly k.monomial (inl h.poly) k.there).1 k.variable

    these : AreThese (entry u k.variable) (entry k.monomial k.variable) left right → left + right < 2 ^ 31
    these (inl p) = omega (arith, p.0, p.1, none, there, l k.variable)
    these (inr p) = omega (arith, p.0, p.1, none, there, l k.variable)

step_sum_fits : (e : Exponents) (bs : List MarkedPolynomial) (f : Terms) (at : Exponents) (left right : ℕ) → AreShort e → AreUnits e bs → IsSmall e f →
    IsStepExponents (Contains bs) f at left right → left + right < 2 ^ 31
step_sum_fits e bs f at left right l u s h =
    let there = (small_there e f at s h.index.there).1 in
    shift_fits e h.rest h.member left right l (u h.member h.index.contained) (unraised e h.rest h.member (u h.member h.index.contained)
    (same_trans (plus h.rest h.member.head) at e (same_flip at (plus h.rest h.member.head) h.index.divides) there)) h.sum

sum_fits : (e : Exponents) (below : Exponents → Exponents → Type 0) (left right : ℕ) → AreShort e → IsRunExponents (unit_monomial e ∷ []) below left right →
    left + right < 2 ^ 31
sum_fits e below left right l (IsRunExponents.step bs f w o h) =
    let u = (work_units e below bs w).0 in
    step_sum_fits e bs h.from h.at left right l u (reached_small e bs f h.from u (origin_small e bs f u o) h.reached) h.sum
sum_fits e below left right l (IsRunExponents.s_polynomial bs b c w k m h) = at h.sum
  where
    p : IsUnit e b
    p = (work_units e below bs w).0 b k

    q : IsUnit e c
    q = (work_units e below bs w).0 c m

    at : IsShiftOperation h.of_b b.poly left right ⊎ IsShiftOperation h.of_c c.poly left right → left + right < 2 ^ 31
    at (inl s) = shift_fits e h.of_b b left right l p (raised_none e h.of_b b b c p p q h.shift_b) s
    at (inr s) = shift_fits e h.of_c c left right l q (raised_none e h.of_c c b c q p q h.shift_c) s
sum_fits e below left right l (IsRunExponents.tail bs b at w t n h) =
    let u = (work_units e below bs w).0 in step_sum_fits e bs b.poly at left right l u (inl (tail_unit e bs b u t).poly) h

-- ---- the law

no_pairs : (k : ℕ) → k ≤ 1 → pairs_below k ≡ 0
no_pairs zero l = refl
no_pairs (suc zero) l = refl
no_pairs (suc (suc k)) l = absurd (omega arith)

pub monomials_stay_within_limits : MonomialsStayWithinLimits
monomials_stay_within_limits order e budget l = record {
  operations = λ op left right h. operation_fits e (below_of order) op left right h;
  exponents = λ left right h. sum_fits e (below_of order) left right l h;
  pairs = λ bs w. omega (arith, no_pairs (length bs) (work_units e (below_of order) bs w).1);
}
