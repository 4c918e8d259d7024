-- Which variables are enough to saturate by.
-- To cite: inside_more, inside_all, inside_along, more_enough, two_of, joined_long, followed_enough, enough_same, enough_twice, enough_all, all_chosen,
-- chosen_less.
-- The rest are steps.
use Rattle.std.proofs.Common.{◌≡◌, ◌≢◌, ◌⊎◌, ℕ, zero, suc, ◌+◌, ◌<◌, ◌≤◌, true, List, [], ◌∷◌, ◌++◌}
use Rattle.std.proofs.Common.{Contains, length, get_or, min, arith, sym, ap, ◌∙◌, subst, inl, inr}
use Rattle.std.proofs.lemmas.Bool.{cases_lt}
use Rattle.gf_frac.specs.Fraction.{Fraction, ◌+ℚ◌, ◌*ℚ◌, neg_ℚ, zero_ℚ, one_ℚ, reciprocal_ℚ}
use Rattle.gf_frac.proofs.FractionLaws.{+ℚ_comm, *ℚ_assoc, *ℚ_comm, one-*ℚ, reciprocal_ℚ-*ℚ, +ℚ-middle}
use Rattle.gf_exponents_theory.specs.Exponents.{Exponents, entry, same, plus, minus, join, degree, IsInRing}
use Rattle.gf_exponents_theory.proofs.ExponentsLaws.{same_by_entries, entries_same, entry-plus, entry-join, entry-minus, entry-get_or, entry-past}
use Rattle.gf_exponents_theory.proofs.ExponentsLaws.{plus_assoc, plus_comm}
use Rattle.gf_poly.specs.declared.Term.{Term}
use Rattle.gf_poly.specs.Polynomial.{Terms, HasVariables, IsDescending, coefficient, SamePolynomial, times}
use Rattle.gf_poly.proofs.MonomialLaws.{length-join}
use Rattle.gf_poly.proofs.ProductLaws.{HasVariables-at}
use Rattle.gf_poly.proofs.PolynomialLaws.{coefficient-++, coefficient-factor, times-plain}
use Rattle.gf_ideal_theory.specs.Membership.{AreInVariables, Spans}
use Rattle.gf_ideal_theory.proofs.Identities.{turned}
use Rattle.gf_ideal_theory.proofs.RingLaws.{in_ring_of, entry-degree}
use Rattle.gf_ideal_theory.proofs.SettledLaws.{twice}
use Rattle.gf_ideal_theory.proofs.SpanLaws.{Spans-equal, Spans-zero, Spans-generator, Spans-++, Spans-times, Spans-difference}
use Rattle.gf_ideal_theory.proofs.MembershipLaws.{variables-times, spans_of_member, member_of_spans}
use Rattle.gf_buchberger.specs.Tasks.{HaveRingVariables}
use Rattle.gf_buchberger.proofs.TaskLaws.{ring_variables}
use Rattle.gf_saturation_theory.specs.Saturations.{powered, product_power, IsSaturatedBy}
use Rattle.gf_saturation_theory.proofs.SubstitutionLaws.{entry-product_power, ring-product_power, ring-powered}
use Rattle.gf_saturation_theory.proofs.SaturationLaws.{variables_of_saturated, powered-plus, saturated_same, saturated_product}
use Rattle.gf_quotients_theory.proofs.TakenLaws.{powered-sum, powered-up, powered-none, powered-least, spans_more}
use Rattle.gf_saturate.specs.Graded.{AreInside, IsFollowed, IsEnoughFor, IsChoice}

-- ---- variables, index by index

pub inside_more : (x y : Exponents) (i m : ℕ) → m ≡ min (get_or x i 0) 1 → m ≤ get_or y i 0 → ((k : ℕ) → k < i → entry y k ≡ 0 → entry x k ≡ 0) →
    (k : ℕ) → k < i + 1 → entry y k ≡ 0 → entry x k ≡ 0
inside_more x y i m e l h k b z = index (cases_lt k i)
  where
    here : entry y i ≡ 0 → entry x i ≡ 0
    here q = at (cases_lt (entry x i) 1)
      where
        at : (entry x i < 1) ⊎ (1 ≤ entry x i) → entry x i ≡ 0
        at (inl a) = omega (arith, a)
        at (inr a) = absurd (omega (arith, a, e, l, q, entry-get_or x i, entry-get_or y i))

    index : (k < i) ⊎ (i ≤ k) → entry x k ≡ 0
    index (inl a) = h k a z
    index (inr a) =
        let q : k ≡ i = omega (arith, a, b) in ap (entry x) q ∙ here (sym (ap (entry y) q) ∙ z)

pub inside_all : (x y : Exponents) (i : ℕ) → length x ≤ i → ((k : ℕ) → k < i → entry y k ≡ 0 → entry x k ≡ 0) → AreInside x y
inside_all x y i l h k z = index (cases_lt k i)
  where
    index : (k < i) ⊎ (i ≤ k) → entry x k ≡ 0
    index (inl a) = h k a z
    index (inr a) = entry-past x k (omega (arith, a, l))

pub inside_along : (x y a b : Exponents) → x ≡ a → y ≡ b → AreInside x y → AreInside a b
inside_along x y a b e q h = subst (λ (z : Exponents). AreInside z b) e (subst (λ (z : Exponents). AreInside x z) q h)

-- ---- one monomial for another, where the ideal has a polynomial of these two terms

-- a multiple of the one in the ideal stays there with the other in its place
abbrev Trades : List Terms → Exponents → Exponents → Type 0
Trades gs a b = (f : Terms) → Spans gs (times one_ℚ a f) → Spans gs (times one_ℚ b f)

-- the polynomial of the two terms
abbrev pair : Fraction → Exponents → Fraction → Exponents → Terms
pair c a d b = record { coef = c; mono = a } ∷ record { coef = d; mono = b } ∷ []

-- times f
multiple : (gs : List Terms) (c d : Fraction) (a b : Exponents) → Spans gs (pair c a d b) → (f : Terms) → Spans gs (times c a f ++ times d b f)
multiple gs c d a b s [] = Spans-zero gs
multiple gs c d a b s (t ∷ f) = Spans-equal gs (times t.coef t.mono (pair c a d b) ++ (P ++ Q)) ((l ∷ P) ++ (r ∷ Q)) equal
    (Spans-++ gs (times t.coef t.mono (pair c a d b)) (P ++ Q) (Spans-times gs (pair c a d b) t.coef t.mono s) (multiple gs c d a b s f))
  where
    l : Term
    l = record { coef = c *ℚ t.coef; mono = plus a t.mono }

    r : Term
    r = record { coef = d *ℚ t.coef; mono = plus b t.mono }

    two : times t.coef t.mono (pair c a d b) ≡ l ∷ r ∷ []
    two =
        ap (λ z. record { coef = z; mono = plus t.mono a } ∷ record { coef = t.coef *ℚ d; mono = plus t.mono b } ∷ []) (*ℚ_comm t.coef c)
        ∙ ap (λ x. record { coef = c *ℚ t.coef; mono = x } ∷ record { coef = t.coef *ℚ d; mono = plus t.mono b } ∷ []) (plus_comm t.mono a)
        ∙ ap (λ z. l ∷ record { coef = z; mono = plus t.mono b } ∷ []) (*ℚ_comm t.coef d)
        ∙ ap (λ x. l ∷ record { coef = d *ℚ t.coef; mono = x } ∷ []) (plus_comm t.mono b)

    P : Terms
    P = times c a f

    Q : Terms
    Q = times d b f

    equal : SamePolynomial (times t.coef t.mono (pair c a d b) ++ (P ++ Q)) ((l ∷ P) ++ (r ∷ Q))
    equal e =
        ap (λ z. coefficient (z ++ (P ++ Q)) e) two
        ∙ coefficient-++ (l ∷ r ∷ []) (P ++ Q) e
        ∙ ap (λ z. coefficient (l ∷ r ∷ []) e +ℚ z) (coefficient-++ P Q e)
        ∙ ap (λ z. z +ℚ (coefficient P e +ℚ coefficient Q e)) (coefficient-++ (l ∷ []) (r ∷ []) e)
        ∙ +ℚ-middle _ _ _ _
        ∙ ap (λ z. z +ℚ (coefficient (r ∷ []) e +ℚ coefficient Q e)) (sym (coefficient-++ (l ∷ []) P e))
        ∙ ap (λ z. coefficient (l ∷ P) e +ℚ z) (sym (coefficient-++ (r ∷ []) Q e))
        ∙ sym (coefficient-++ (l ∷ P) (r ∷ Q) e)

-- b f is (c a f + d b f - c (a f)) / d
trades : (gs : List Terms) (c d : Fraction) (a b : Exponents) → d ≢ zero_ℚ → Spans gs (pair c a d b) → Trades gs a b
trades gs c d a b n s f h =
    Spans-equal gs (times (reciprocal_ℚ d) [] q) (times one_ℚ b f) whole
    (Spans-times gs q (reciprocal_ℚ d) []
    (Spans-equal gs (m ++ times (neg_ℚ one_ℚ) [] p) q part
    (Spans-difference gs m p (multiple gs c d a b s f) (Spans-times gs (times one_ℚ a f) c [] h))))
  where
    p : Terms
    p = times c [] (times one_ℚ a f)

    q : Terms
    q = times d b f

    m : Terms
    m = times c a f ++ q

    first : (e : Exponents) → coefficient (times c a f) e ≡ coefficient p e
    first e =
        coefficient-factor c a f e
        ∙ sym (coefficient-factor c [] (times one_ℚ a f) e ∙ ap (λ g. c *ℚ coefficient g e) (times-plain (times one_ℚ a f)))

    part : SamePolynomial (m ++ times (neg_ℚ one_ℚ) [] p) q
    part e =
        coefficient-++ m (times (neg_ℚ one_ℚ) [] p) e
        ∙ ap (λ z. coefficient m e +ℚ z) (coefficient-factor (neg_ℚ one_ℚ) [] p e ∙ ap (λ g. neg_ℚ one_ℚ *ℚ coefficient g e) (times-plain p))
        ∙ sym (turned (coefficient m e) (coefficient q e) (coefficient p e)
        (coefficient-++ (times c a f) q e ∙ ap (λ z. z +ℚ coefficient q e) (first e) ∙ +ℚ_comm (coefficient p e) (coefficient q e)))

    whole : SamePolynomial (times (reciprocal_ℚ d) [] q) (times one_ℚ b f)
    whole e =
        coefficient-factor (reciprocal_ℚ d) [] q e
        ∙ ap (λ g. reciprocal_ℚ d *ℚ coefficient g e) (times-plain q)
        ∙ ap (λ z. reciprocal_ℚ d *ℚ z) (coefficient-factor d b f e)
        ∙ sym (*ℚ_assoc (reciprocal_ℚ d) d (coefficient (times one_ℚ b f) e))
        ∙ ap (λ z. z *ℚ coefficient (times one_ℚ b f) e) (reciprocal_ℚ-*ℚ d n)
        ∙ one-*ℚ (coefficient (times one_ℚ b f) e)

-- so too of powers
trades_powers : (gs : List Terms) (a b : Exponents) (p : ℕ) (u : Exponents) (f : Terms) → Trades gs a b →
    Spans gs (times one_ℚ (plus (powered p a) u) f) → Spans gs (times one_ℚ (plus (powered p b) u) f)
trades_powers gs a b zero u f r s = s
trades_powers gs a b (suc p) u f r s = spans_more gs f (plus (powered p b) (plus b u)) (plus (plus b (powered p b)) u)
    (λ i. omega (arith, entry-plus (powered p b) (plus b u) i, entry-plus b u i, entry-plus (plus b (powered p b)) u i, entry-plus b (powered p b) i))
    (trades_powers gs a b p (plus b u) f r
    (spans_more gs f (plus b (plus (powered p a) u)) (plus (powered p a) (plus b u))
    (λ i. omega (arith, entry-plus b (plus (powered p a) u) i, entry-plus (powered p a) u i, entry-plus (powered p a) (plus b u) i, entry-plus b u i))
    (onto b (r (times one_ℚ (plus (powered p a) u) f) (from a s)))))
  where
    onto : (c : Exponents) → Spans gs (times one_ℚ c (times one_ℚ (plus (powered p a) u) f)) → Spans gs (times one_ℚ (plus c (plus (powered p a) u)) f)
    onto c k =
        Spans-equal gs (times one_ℚ c (times one_ℚ (plus (powered p a) u) f)) (times one_ℚ (plus c (plus (powered p a) u)) f)
        (λ e. ap (λ z. coefficient z e) (sym (twice c (plus (powered p a) u) f))) k

    from : (c : Exponents) → Spans gs (times one_ℚ (plus (plus c (powered p a)) u) f) → Spans gs (times one_ℚ c (times one_ℚ (plus (powered p a) u) f))
    from c k = Spans-equal gs (times one_ℚ (plus (plus c (powered p a)) u) f) (times one_ℚ c (times one_ℚ (plus (powered p a) u) f))
        (λ e. ap (λ y. coefficient (times one_ℚ y f) e) (plus_assoc c (powered p a) u) ∙ ap (λ z. coefficient z e) (twice c (plus (powered p a) u) f)) k

-- ---- what is enough

-- with a in it, where all variables of b are in x
joined_enough : (n : ℕ) (fs : List Terms) (a b x : Exponents) → AreInVariables n fs → IsInRing n x → Trades fs a b → AreInside b x →
    IsEnoughFor n fs (join x a) x
joined_enough n fs a b x v rx r h f s = record {
  power = q;
  member =
      member_of_spans n fs (times one_ℚ (powered q x) f) v
      (variables-times n one_ℚ (powered q x) f (ring-powered n q x rx) (variables_of_saturated n fs (join x a) f v s))
      (spans_more fs f (plus (powered p b) (powered p x)) (powered q x) second
      (trades_powers fs a b p (powered p x) f r
      (spans_more fs f (powered p (join x a)) (plus (powered p a) (powered p x)) first
      (spans_of_member n fs (times one_ℚ (powered p (join x a)) f) s.member))));
}
  where
    p : ℕ
    p = s.power

    q : ℕ
    q = degree (powered p b) + p

    first : (i : ℕ) → entry (powered p (join x a)) i ≤ entry (plus (powered p a) (powered p x)) i
    first i =
        omega (
          arith,
          powered-least p (join x a) (plus a x) i (omega (arith, entry-join x a i, entry-plus a x i)),
          entries_same (powered p (plus a x)) (plus (powered p a) (powered p x)) (powered-plus p a x) i,
        )

    split : (i : ℕ) → entry (powered (degree (powered p b)) x) i + entry (powered p x) i ≡ entry (powered q x) i
    split i = sym (entry-plus (powered (degree (powered p b)) x) (powered p x) i) ∙ ap (λ z. entry z i) (powered-sum (degree (powered p b)) p x)

    second : (i : ℕ) → entry (plus (powered p b) (powered p x)) i ≤ entry (powered q x) i
    second i = by (cases_lt 0 (entry x i))
      where
        by : (0 < entry x i) ⊎ (entry x i ≤ 0) → entry (plus (powered p b) (powered p x)) i ≤ entry (powered q x) i
        by (inl g) =
            omega (
              arith,
              entry-plus (powered p b) (powered p x) i,
              split i,
              entry-degree (powered p b) i,
              powered-up (degree (powered p b)) x i (omega (arith, g)),
            )
        by (inr g) = omega (arith, entry-plus (powered p b) (powered p x) i, split i, powered-none p b i (h i (omega (arith, g))))

-- with more of each variable
pub more_enough : (n : ℕ) (fs : List Terms) (x y : Exponents) → AreInVariables n fs → IsInRing n y → ((i : ℕ) → entry x i ≤ entry y i) → IsEnoughFor n fs x y
more_enough n fs x y v ry l f s = record {
  power = s.power;
  member =
      member_of_spans n fs (times one_ℚ (powered s.power y) f) v
      (variables-times n one_ℚ (powered s.power y) f (ring-powered n s.power y ry) (variables_of_saturated n fs x f v s))
      (spans_more fs f (powered s.power x) (powered s.power y) (λ i. powered-least s.power x y i (l i))
      (spans_of_member n fs (times one_ℚ (powered s.power x) f) s.member));
}

pub enough_same : (n : ℕ) (fs : List Terms) (x y : Exponents) → y ≡ x → IsEnoughFor n fs y x
enough_same n fs x y e f s = subst (λ (z : Exponents). IsSaturatedBy n fs z f) e s

pub enough_twice : (n : ℕ) (fs : List Terms) (x y z : Exponents) → IsEnoughFor n fs z y → IsEnoughFor n fs y x → IsEnoughFor n fs z x
enough_twice n fs x y z h k f s = k f (h f s)

-- all variables, where each occurs
pub enough_all : (n : ℕ) (fs : List Terms) (x : Exponents) → HaveRingVariables n fs → length x ≡ n → (v : Exponents) → ((i : ℕ) → i < n → entry v i ≡ 1) →
    AreInside v x → IsEnoughFor n fs (product_power n 1) x
enough_all n fs x r l v o h = more_enough n fs (product_power n 1) x (ring_variables n fs r) (in_ring_of n x l) (λ i. at i (cases_lt i n))
  where
    some : (i : ℕ) → i < n → (0 < entry x i) ⊎ (entry x i ≤ 0) → 1 ≤ entry x i
    some i g (inl m) = omega (arith, m)
    some i g (inr m) = absurd (omega (arith, o i g, h i (omega (arith, m))))

    at : (i : ℕ) → (i < n) ⊎ (n ≤ i) → entry (product_power n 1) i ≤ entry x i
    at i (inl g) = omega (arith, entry-product_power n 1 i g, some i g (cases_lt 0 (entry x i)))
    at i (inr g) = omega (arith, ring-product_power n 1 i g)

-- ---- by one polynomial

two_terms : (fs : List Terms) (f : Terms) (t s : Term) → Contains fs f → f ≡ t ∷ s ∷ [] → Spans fs (pair t.coef t.mono s.coef s.mono)
two_terms fs f t s c e = Spans-generator fs (t ∷ s ∷ []) (subst (Contains fs) e c)

turned_over : (fs : List Terms) (t s : Term) → Spans fs (pair t.coef t.mono s.coef s.mono) → Spans fs (pair s.coef s.mono t.coef t.mono)
turned_over fs t s h =
    Spans-equal fs (pair t.coef t.mono s.coef s.mono) (pair s.coef s.mono t.coef t.mono)
    (λ e. coefficient-++ (t ∷ []) (s ∷ []) e ∙ +ℚ_comm (coefficient (t ∷ []) e) (coefficient (s ∷ []) e) ∙ sym (coefficient-++ (s ∷ []) (t ∷ []) e)) h

pub two_of : (f : Terms) (t s : Term) → length f ≡ 2 → t ≡ get_or f 0 t → s ≡ get_or f 1 s → f ≡ t ∷ s ∷ []
two_of [] t s l e q = absurd (omega (arith, l))
two_of (a ∷ []) t s l e q = absurd (omega (arith, l))
two_of (a ∷ b ∷ []) t s l e q = ap (λ (z : Term). z ∷ b ∷ []) (sym e) ∙ ap (λ (z : Term). t ∷ z ∷ []) (sym q)
two_of (a ∷ b ∷ c ∷ f) t s l e q = absurd (omega (arith, l))

pub joined_long : (n : ℕ) (f g : Terms) (i : ℕ) (t : Term) (x y : Exponents) → g ≡ f → HasVariables n f → i < length g → t ≡ get_or g i t → length x ≡ n →
    y ≡ join x t.mono → length y ≡ n
joined_long n f g i t x y e v m is l h =
    ap length h ∙ length-join x t.mono (l ∙ sym (HasVariables-at n g i t m is (subst (HasVariables n) (sym e) v))) ∙ l

pub followed_enough : (n : ℕ) (fs : List Terms) (f : Terms) (x y : Exponents) → HaveRingVariables n fs → length x ≡ n → Contains fs f → IsDescending f →
    IsFollowed f x y → IsEnoughFor n fs y x
followed_enough n fs f x y r l c d (IsFollowed.kept e) = enough_same n fs x y e
followed_enough n fs f x y r l c d (IsFollowed.first t s q h e) =
    subst (λ (z : Exponents). IsEnoughFor n fs z x) (sym e)
    (joined_enough n fs t.mono s.mono x (ring_variables n fs r) (in_ring_of n x l)
    (trades fs t.coef s.coef t.mono s.mono (subst IsDescending q d).2.0 (two_terms fs f t s c q)) h)
followed_enough n fs f x y r l c d (IsFollowed.second t s q h e) =
    subst (λ (z : Exponents). IsEnoughFor n fs z x) (sym e)
    (joined_enough n fs s.mono t.mono x (ring_variables n fs r) (in_ring_of n x l)
    (trades fs s.coef t.coef s.mono t.mono (subst IsDescending q d).0 (turned_over fs t s (two_terms fs f t s c q))) h)

-- ---- choices

pub all_chosen : (n : ℕ) (fs : List Terms) (v : Exponents) → length v ≡ n → ((k : ℕ) → k < n → entry v k ≡ 1) → IsChoice n fs v
all_chosen n fs v l o = record {
  long = l;
  once = λ k. at k (cases_lt k n);
  enough = λ f s. saturated_same n (product_power n 1) v fs f meets ((saturated_product n fs f).0 s);
}
  where
    past : (k : ℕ) → n ≤ k → entry v k ≡ 0
    past k m = in_ring_of n v l k m

    at : (k : ℕ) → (k < n) ⊎ (n ≤ k) → entry v k ≤ 1
    at k (inl m) = omega (arith, o k m)
    at k (inr m) = omega (arith, past k m)

    meets : same (product_power n 1) v ≡ true
    meets = same_by_entries (product_power n 1) v (λ k. by k (cases_lt k n))
      where
        by : (k : ℕ) → (k < n) ⊎ (n ≤ k) → entry (product_power n 1) k ≡ entry v k
        by k (inl m) = entry-product_power n 1 k m ∙ sym (o k m)
        by k (inr m) = ring-product_power n 1 k m ∙ sym (past k m)

pub chosen_less : (n : ℕ) (fs : List Terms) (v x w : Exponents) → IsChoice n fs v → length w ≡ n → w ≡ minus v x →
    IsEnoughFor n fs (product_power n 1) w → IsChoice n fs w
chosen_less n fs v x w c l e h = record {
  long = l;
  once = λ k. omega (arith, ap (λ (z : Exponents). entry z k) e, entry-minus v x k, c.once k);
  enough = λ f s. h f ((saturated_product n fs f).0 s);
}
