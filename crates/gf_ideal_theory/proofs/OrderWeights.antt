-- The trade of an order for a weight: inside a box of exponents, and among monomials of one grade, some weight compares
-- as the order does.
-- To cite: order-is, order-weights, order-positive, grading; IsShort, IsGrading, HasWeightsFor. The rest are steps.
use Rattle.std.proofs.Common.{◌≡◌, ◌⊎◌, ℕ, zero, suc, ◌+◌, ◌-◌, ◌*◌, ◌<◌, ◌≤◌, true, List, [], ◌∷◌, max, arith, refl, sym, ap, ◌∙◌, inl, inr}
use Rattle.std.proofs.Math.Nat.{mul-le-mul_left}
use Rattle.std.proofs.lemmas.Bool.{cases_lt}
use Rattle.gf_exponents_theory.specs.Exponents.{Exponents, entry, same, plus, degree, weight}
use Rattle.gf_exponents_theory.specs.Orders.{lighter, WeightRow, is_less, is_alike, IsLexBelow, IsDeglexBelow, IsRevlexBelow, IsWeightedBelow}
use Rattle.gf_exponents_theory.specs.Orders.{IsWeightedRevlexBelow, IsFacetBelow}
use Rattle.gf_exponents_theory.proofs.ExponentsLaws.{entry-plus, entries_same, same_by_entries}
use Rattle.gf_exponents_theory.proofs.WeightLaws.{weight-nil, weight-plus, weight-same}
use Rattle.gf_ideal_theory.specs.Marks.{IsPositive}
pub use Rattle.gf_exponents_theory.proofs.SixOrdersLaws.{order-is}
use Rattle.gf_ideal_theory.specs.MonomialOrders.{MonomialOrder, below_of, IsOfGrade, HasNoLoss, IsAdmissible}
use Rattle.gf_ideal_theory.proofs.RingLaws.{rest, entry-rest, beyond}
use Rattle.gf_ideal_theory.proofs.RowLaws.{below_by, total, multiple, both_of, weight-multiple, weight-both, entry-both, weight-boxed, times_up, weights_for}
use Rattle.gf_ideal_theory.proofs.RowLaws.{lighter-by_rows, lex_rows, lex-by_rows, revlex_rows, revlex-by_rows}

-- ---- what is traded

-- exponents at most k, and none from variable k on
pub record IsShort (k : ℕ) (x : Exponents) : Type 0 where
  pub small : (i : ℕ) → entry x i ≤ k
  pub short : (i : ℕ) → k ≤ i → entry x i ≡ 0

-- an equivalence of monomials that products keep
pub record IsGrading (Alike : Exponents → Exponents → Type 0) : Type 0 where
  pub decide : (x y : Exponents) → Alike x y ⊎ (Alike x y → ⊥)
  pub along : (x y : Exponents) → same x y ≡ true → Alike x y
  pub symmetric : (x y : Exponents) → Alike x y → Alike y x
  pub transitive : (x y z : Exponents) → Alike x y → Alike y z → Alike x z
  pub invariant : (z x y : Exponents) → Alike x y → Alike (plus z x) (plus z y)

-- in each box, among monomials that are alike, some weight compares as the order does
abbrev pub HasWeightsFor : (Exponents → Exponents → Type 0) → (Exponents → Exponents → Type 0) → Type 0
HasWeightsFor Alike below = (k : ℕ) → (w : List ℕ) × ((x y : Exponents) → IsShort k x → IsShort k y → Alike x y → below x y → lighter w x y)

-- ---- each monomial is in a box

-- a larger box
pub short-up : (x : Exponents) (k l : ℕ) → k ≤ l → IsShort k x → IsShort l x
short-up x k l h b = record { small = λ i. omega (arith, b.small i); short = λ i m. b.short i (omega arith) }

-- each monomial is in a box
pub box_of : (x : Exponents) → (k : ℕ) × IsShort k x
box_of [] = (0, record { small = λ i. omega arith; short = λ i l. refl })
box_of (a ∷ x) = at (box_of x)
  where
    at : ((k : ℕ) × IsShort k x) → (k : ℕ) × IsShort k (a ∷ x)
    at r = (suc (max a r.0), record { small = index; short = gone })
      where
        index : (i : ℕ) → entry (a ∷ x) i ≤ suc (max a r.0)
        index zero = omega arith
        index (suc i) = omega (arith, r.1.small i)

        gone : (i : ℕ) → suc (max a r.0) ≤ i → entry (a ∷ x) i ≡ 0
        gone zero l = absurd (omega arith)
        gone (suc i) l = r.1.short i (omega arith)

-- ---- gradings

decide_grade : (n : ℕ) (v : List ℕ) (x y : Exponents) → IsOfGrade n v x y ⊎ (IsOfGrade n v x y → ⊥)
decide_grade n v x y = at (cases_lt (weight v x) (weight v y)) (cases_lt (weight v y) (weight v x)) (beyond n x y)
  where
    at : (weight v x < weight v y) ⊎ (weight v y ≤ weight v x) → (weight v y < weight v x) ⊎ (weight v x ≤ weight v y) →
        ((i : ℕ) → n ≤ i → entry x i ≡ entry y i) ⊎ (((i : ℕ) → n ≤ i → entry x i ≡ entry y i) → ⊥) →
        IsOfGrade n v x y ⊎ (IsOfGrade n v x y → ⊥)
    at (inl l) q r = inr (λ h. absurd (omega (arith, h.0)))
    at (inr g) (inl l) r = inr (λ h. absurd (omega (arith, h.0)))
    at (inr g) (inr h) (inl e) = inl (omega arith, e)
    at (inr g) (inr h) (inr n) = inr (λ k. n k.1)

-- weights and the variables past n make a grading
pub grading : (n : ℕ) (v : List ℕ) → IsGrading (IsOfGrade n v)
grading n v = record {
  decide = decide_grade n v;
  along = λ x y s. (weight-same v x y s, λ i l. entries_same x y s i);
  symmetric = λ x y h. (sym h.0, λ i l. sym (h.1 i l));
  transitive = λ x y z h k. (h.0 ∙ k.0, λ i l. h.1 i l ∙ k.1 i l);
  invariant = λ z x y h. (omega (arith, weight-plus v z x, weight-plus v z y, h.0), λ i l. omega (arith, entry-plus z x i, entry-plus z y i, h.1 i l));
}

-- ---- lex, and orders that are lex where a weight agrees

lex-rows : (k : ℕ) (x y : Exponents) → IsShort k x → IsShort k y → IsLexBelow x y → below_by (lex_rows 0 k) x y
lex-rows k x y p q h = elim (cases_lt h.at k) [
  | inl l ↦ lex-by_rows 0 k x y h.at (omega arith) (omega arith) h.before h.here
  | inr g ↦ absurd (omega (arith, h.here, p.short h.at g, q.short h.at g))
]

-- lex
pub lex-weights : (Alike : Exponents → Exponents → Type 0) → HasWeightsFor Alike IsLexBelow
lex-weights Alike k = (weights_for k (lex_rows 0 k), λ x y p q a h. lighter-by_rows k (lex_rows 0 k) x y p.small (lex-rows k x y p q h))

-- where less and alike go by a row of weights inside the box
by_row : (Alike less alike : Exponents → Exponents → Type 0) →
    ((k : ℕ) → (u : List ℕ) × ((x y : Exponents) → IsShort k x → IsShort k y → Alike x y → (less x y → weight u x < weight u y) × (alike x y →
    weight u x ≡ weight u y))) → HasWeightsFor Alike (λ x y. less x y ⊎ (alike x y × IsLexBelow x y))
by_row Alike less alike r k = at (r k)
  where
    at : ((u : List ℕ) × ((x y : Exponents) → IsShort k x → IsShort k y → Alike x y → (less x y → weight u x < weight u y) × (alike x y →
        weight u x ≡ weight u y))) → (w : List ℕ) × ((x y : Exponents) → IsShort k x → IsShort k y → Alike x y → less x y ⊎ (alike x y × IsLexBelow x y) →
        lighter w x y)
    at u = (weights_for k (u.0 ∷ lex_rows 0 k), λ x y p q a h. lighter-by_rows k (u.0 ∷ lex_rows 0 k) x y p.small (row x y p q a h))
      where
        row : (x y : Exponents) → IsShort k x → IsShort k y → Alike x y → less x y ⊎ (alike x y × IsLexBelow x y) →
            below_by (u.0 ∷ lex_rows 0 k) x y
        row x y p q a (inl l) = inl ((u.1 x y p q a).0 l)
        row x y p q a (inr e) = inr ((u.1 x y p q a).1 e.0, lex-rows k x y p q e.1)

-- 1 for each of the first n variables
abbrev pub ones : ℕ → List ℕ
ones zero = []
ones (suc n) = 1 ∷ ones n

pub entry-ones : (n i : ℕ) → i < n → entry (ones n) i ≡ 1
entry-ones zero i l = absurd (omega arith)
entry-ones (suc n) zero l = refl
entry-ones (suc n) (suc i) l = entry-ones n i (omega arith)

pub degree-ones : (k : ℕ) (x : Exponents) → ((i : ℕ) → k ≤ i → entry x i ≡ 0) → weight (ones k) x ≡ degree x
degree-ones zero [] h = refl
degree-ones zero (a ∷ x) h = omega (arith, h 0 (omega arith), degree-ones zero x (λ i l. h (suc i) (omega arith)))
degree-ones (suc k) [] h = refl
degree-ones (suc k) (a ∷ x) h = omega (arith, degree-ones k x (λ i l. h (suc i) (omega arith)))

-- deglex
pub deglex-weights : (Alike : Exponents → Exponents → Type 0) → HasWeightsFor Alike IsDeglexBelow
deglex-weights Alike = by_row Alike (λ x y. degree x < degree y) (λ x y. degree x ≡ degree y)
    (λ k. (
      ones k,
      λ x y p q a. (
        λ l. omega (arith, degree-ones k x p.short, degree-ones k y q.short),
        λ e. degree-ones k x p.short ∙ e ∙ sym (degree-ones k y q.short),
      ),
    ))

-- a weighted order
pub weighted-weights : (Alike : Exponents → Exponents → Type 0) (u : List ℕ) → HasWeightsFor Alike (IsWeightedBelow u)
weighted-weights Alike u = by_row Alike (λ x y. weight u x < weight u y) (λ x y. weight u x ≡ weight u y) (λ k. (u, λ x y p q a. (λ l. l, λ e. e)))

-- ---- revlex, among monomials of one positive weight

revlex-rows : (n : ℕ) (u : List ℕ) (x y : Exponents) → IsPositive n u → weight u x ≡ weight u y →
    ((i : ℕ) → n ≤ i → entry x i ≡ entry y i) → IsRevlexBelow x y → below_by (revlex_rows n u) x y
revlex-rows n u x y p e b h = elim (cases_lt h.at n) [
  | inl l ↦ revlex-by_rows n u x y h.at p e l h.after h.here
  | inr g ↦ absurd (omega (arith, h.here, b h.at g))
]

-- revlex, among monomials of one positive weight
pub revlex-weights : (n : ℕ) (u : List ℕ) → IsPositive n u → HasWeightsFor (IsOfGrade n u) IsRevlexBelow
revlex-weights n u p k = (weights_for k (revlex_rows n u), λ x y b c a h. lighter-by_rows k (revlex_rows n u) x y b.small (revlex-rows n u x y p a.0 a.1 h))

-- a positive weight, then revlex
pub weighted_revlex-weights : (n : ℕ) (v u : List ℕ) → IsPositive n u →
    HasWeightsFor (IsOfGrade n v) (IsWeightedRevlexBelow u)
weighted_revlex-weights n v u p k = (weights_for k (u ∷ revlex_rows n u), λ x y b c a h. lighter-by_rows k (u ∷ revlex_rows n u) x y b.small (row x y a h))
  where
    row : (x y : Exponents) → IsOfGrade n v x y → IsWeightedRevlexBelow u x y → below_by (u ∷ revlex_rows n u) x y
    row x y a (inl l) = inl l
    row x y a (inr e) = inr (e.0, revlex-rows n u x y p e.0 a.1 e.1)

-- ---- facet, among monomials of one positive weight: a multiple of it makes the row natural

-- the first n weights
abbrev first : ℕ → List ℕ → List ℕ
first zero w = []
first (suc n) w = entry w 0 ∷ first n (rest w)

-- the first n of gain + c v - loss
abbrev lifted : ℕ → ℕ → List ℕ → List ℕ → List ℕ → List ℕ
lifted zero c gain v loss = []
lifted (suc n) c gain v loss = (entry gain 0 + c * entry v 0 - entry loss 0) ∷ lifted n c (rest gain) (rest v) (rest loss)

pub weight-parts : (w : List ℕ) (x : Exponents) → weight w x ≡ entry w 0 * entry x 0 + weight (rest w) (rest x)
unfolding rest
weight-parts [] x = omega arith
weight-parts (a ∷ w) [] = omega (arith, weight-nil w)
weight-parts (a ∷ w) (b ∷ x) = refl

front_weight : (a : ℕ) (w : List ℕ) (x : Exponents) → weight (a ∷ w) x ≡ a * entry x 0 + weight w (rest x)
unfolding rest
front_weight a w [] = omega (arith, weight-nil w)
front_weight a w (b ∷ x) = refl

rest_agree : (n : ℕ) (x y : Exponents) → ((i : ℕ) → suc n ≤ i → entry x i ≡ entry y i) → (i : ℕ) → n ≤ i →
    entry (rest x) i ≡ entry (rest y) i
rest_agree n x y h i l = entry-rest x i ∙ h (suc i) (omega arith) ∙ sym (entry-rest y i)

-- where x and y agree past the first n variables, only the first n weights tell them apart
weight-first : (n : ℕ) (w : List ℕ) (x y : Exponents) → ((i : ℕ) → n ≤ i → entry x i ≡ entry y i) →
    weight w x + weight (first n w) y ≡ weight w y + weight (first n w) x
weight-first zero w x y h = omega (arith, weight-same w x y (same_by_entries x y (λ i. h i (omega arith))))
weight-first (suc n) w x y h =
    omega (
      arith,
      weight-parts w x,
      weight-parts w y,
      front_weight (entry w 0) (first n (rest w)) x,
      front_weight (entry w 0) (first n (rest w)) y,
      weight-first n (rest w) (rest x) (rest y) (rest_agree n x y h),
    )

weight-lifted : (n c : ℕ) (gain v loss : List ℕ) (x : Exponents) → IsPositive n v → ((i : ℕ) → entry loss i ≤ c) →
    weight (lifted n c gain v loss) x + weight (first n loss) x ≡ weight (first n gain) x + c * weight (first n v) x
weight-lifted zero c gain v loss x p b = omega arith
weight-lifted (suc n) c gain v loss x p b =
    joined (entry gain 0) (entry v 0) (entry loss 0) (entry x 0) (weight (lifted n c (rest gain) (rest v) (rest loss)) (rest x))
    (weight (first n (rest loss)) (rest x)) (weight (first n (rest gain)) (rest x)) (weight (first n (rest v)) (rest x)) (p 0 (omega arith)) (b 0)
    (front_weight (entry gain 0 + c * entry v 0 - entry loss 0) (lifted n c (rest gain) (rest v) (rest loss)) x)
    (front_weight (entry loss 0) (first n (rest loss)) x) (front_weight (entry gain 0) (first n (rest gain)) x)
    (front_weight (entry v 0) (first n (rest v)) x)
    (weight-lifted n c (rest gain) (rest v) (rest loss) (rest x) (λ i l. at i (p (suc i) (omega arith))) (λ i. low i (b (suc i))))
  where
    at : (i : ℕ) → 1 ≤ entry v (suc i) → 1 ≤ entry (rest v) i
    at i h = omega (arith, h, entry-rest v i)

    low : (i : ℕ) → entry loss (suc i) ≤ c → entry (rest loss) i ≤ c
    low i h = omega (arith, h, entry-rest loss i)

    spread : (m l g e a : ℕ) → m + l ≡ g + c * e → m * a + l * a ≡ g * a + c * (e * a)
    spread m l g e a h = sides m l a ∙ ap (λ (z : ℕ). z * a) h ∙ out g e a
      where
        sides : (m l a : ℕ) → m * a + l * a ≡ (m + l) * a
        sides m l a = omega arith

        out : (g e a : ℕ) → (g + c * e) * a ≡ g * a + c * (e * a)
        out g e a = omega arith

    fills : (g e l : ℕ) → 1 ≤ e → l ≤ c → (g + c * e - l) + l ≡ g + c * e
    fills g e l h k = let m : c * 1 ≤ c * e = mul-le-mul_left c h in omega (arith, m)

    joined : (g e l a u fl fg fv : ℕ) → 1 ≤ e → l ≤ c → {wu wl wg wv : ℕ} → wu ≡ (g + c * e - l) * a + u →
        wl ≡ l * a + fl → wg ≡ g * a + fg → wv ≡ e * a + fv → u + fl ≡ fg + c * fv → wu + wl ≡ wg + c * wv
    joined g e l a u fl fg fv h k eu el eg ev ih =
        let s = spread (g + c * e - l) l g e a (fills g e l h k) in
        omega (arith, eu, el, eg, ap (λ (z : ℕ). c * z) ev, s, ih)

-- the row of a facet, among monomials of one positive weight
pub facet-weights : (n : ℕ) (v : List ℕ) (r : WeightRow) → IsPositive n v → HasWeightsFor (IsOfGrade n v) (IsFacetBelow r)
facet-weights n v r p = by_row (IsOfGrade n v) (is_less r) (is_alike r) (λ k. at (box_of r.loss))
  where
    at : {k : ℕ} → ((c : ℕ) × IsShort c r.loss) → (u : List ℕ) × ((x y : Exponents) → IsShort k x → IsShort k y → IsOfGrade n v x y →
        (is_less r x y → weight u x < weight u y) × (is_alike r x y → weight u x ≡ weight u y))
    at c = (lifted n c.0 r.gain v r.loss, λ x y b d a. (λ l. less x y a l, λ e. equal x y a e))
      where
        u : List ℕ
        u = lifted n c.0 r.gain v r.loss

        -- what the lifted row says of the difference
        even : (x y : Exponents) → IsOfGrade n v x y → c.0 * weight (first n v) x ≡ c.0 * weight (first n v) y
        even x y a = let e : weight (first n v) x ≡ weight (first n v) y = omega (arith, weight-first n v x y a.1, a.0) in ap (λ (z : ℕ). c.0 * z) e

        less : (x y : Exponents) → IsOfGrade n v x y → is_less r x y → weight u x < weight u y
        less x y a l = omega (
          arith,
          l,
          weight-first n r.gain x y a.1,
          weight-first n r.loss x y a.1,
          weight-lifted n c.0 r.gain v r.loss x p c.1.small,
          weight-lifted n c.0 r.gain v r.loss y p c.1.small,
          even x y a,
        )

        equal : (x y : Exponents) → IsOfGrade n v x y → is_alike r x y → weight u x ≡ weight u y
        equal x y a l = omega (
          arith,
          l,
          weight-first n r.gain x y a.1,
          weight-first n r.loss x y a.1,
          weight-lifted n c.0 r.gain v r.loss x p c.1.small,
          weight-lifted n c.0 r.gain v r.loss y p c.1.small,
          even x y a,
        )

weight-zeros : (w : List ℕ) (x : Exponents) → ((i : ℕ) → entry w i ≡ 0) → weight w x ≡ 0
weight-zeros [] x h = refl
weight-zeros (a ∷ w) [] h = refl
weight-zeros (a ∷ w) (b ∷ x) h = omega (arith, ap (λ (z : ℕ). z * b) (h 0), weight-zeros w x (λ i. h (suc i)))

-- a row that takes nothing away is one of weights
pub facet_gain-weights : (Alike : Exponents → Exponents → Type 0) (r : WeightRow) → HasNoLoss r →
    HasWeightsFor Alike (IsFacetBelow r)
facet_gain-weights Alike r h = by_row Alike (is_less r) (is_alike r)
    (λ k. (
      r.gain,
      λ x y p q a. (
        λ l. omega (arith, l, weight-zeros r.loss x h, weight-zeros r.loss y h),
        λ e. omega (arith, e, weight-zeros r.loss x h, weight-zeros r.loss y h),
      ),
    ))

-- ---- the six orders

-- each of the six goes by weights where it is admissible
pub order-weights : (o : MonomialOrder) (n : ℕ) (grade : List ℕ) → IsAdmissible o n grade →
    HasWeightsFor (IsOfGrade n grade) (below_of o)
order-weights MonomialOrder.lex n grade a = lex-weights (IsOfGrade n grade)
order-weights MonomialOrder.deglex n grade a = deglex-weights (IsOfGrade n grade)
order-weights MonomialOrder.revlex n grade a = revlex-weights n grade a
order-weights (MonomialOrder.weighted w) n grade a = weighted-weights (IsOfGrade n grade) w
order-weights (MonomialOrder.weighted_revlex w) n grade a = weighted_revlex-weights n grade w a
order-weights (MonomialOrder.facet r) n grade a = elim a [ inl p ↦ facet-weights n grade r p | inr h ↦ facet_gain-weights (IsOfGrade n grade) r h ]

-- ---- the weight may be positive

-- by positive ones
pub weights-positive : (Alike below : Exponents → Exponents → Type 0) (n : ℕ) → HasWeightsFor Alike below → (k : ℕ) →
    (w : List ℕ) × IsPositive n w × ((x y : Exponents) → IsShort k x → IsShort k y → Alike x y → below x y → lighter w x y)
weights-positive Alike below n h k = at (h k)
  where
    m : ℕ
    m = suc (total (ones n) * k)

    at : ((w : List ℕ) × ((x y : Exponents) → IsShort k x → IsShort k y → Alike x y → below x y → lighter w x y)) →
        (w : List ℕ) × IsPositive n w × ((x y : Exponents) → IsShort k x → IsShort k y → Alike x y → below x y → lighter w x y)
    at r = (
      both_of (multiple m r.0) (ones n),
      λ i l. omega (arith, entry-both (multiple m r.0) (ones n) i, entry-ones n i l),
      λ x y p q a l.
          omega (
            arith,
            weight-both (multiple m r.0) (ones n) x,
            weight-both (multiple m r.0) (ones n) y,
            weight-multiple m r.0 x,
            weight-multiple m r.0 y,
            times_up m (weight r.0 x) (weight r.0 y) (r.1 x y p q a l),
            weight-boxed k (ones n) x p.small,
          ),
    )
