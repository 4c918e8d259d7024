-- A step of reduction leaves less work, wherever some weight sets each mark above the rest.
-- To cite: work_left-smaller, work_left-smaller_at, work_left-step. The rest are steps: lists of monomials and what they sum to, the monomials of a polynomial,
-- heights that no longer change once they are as deep as the box is large, the box itself.
use Rattle.std.proofs.Common.{◌≡◌, ◌⊎◌, ℕ, zero, suc, ◌+◌, ◌<◌, ◌≤◌, ◌||◌, ℤ, pos, negsuc, Bool, true, false, if◌then◌else◌, List, [], ◌∷◌, ◌++◌, length}
use Rattle.std.proofs.Common.{Contains, arith, refl, sym, ap, ◌∙◌, subst, inl, inr}
use Rattle.std.proofs.lemmas.Bool.{cases_lt, or_parts, or_right, cases_Bool}
use Rattle.gf_frac.specs.Fraction.{Fraction, ◌+ℚ◌, neg_ℚ, zero_ℚ}
use Rattle.gf_frac.proofs.FractionLaws.{zero_by_num, zero-+ℚ, zero_or_not, num_by_zero}
use Rattle.gf_exponents_theory.specs.Exponents.{Exponents, entry, same, plus, minus}
use Rattle.gf_exponents_theory.specs.Orders.{lighter}
use Rattle.gf_exponents_theory.proofs.ExponentsLaws.{same-refl, same-sym, same_along, same_flip, same_trans, same_shift, same_shift_right, same_by_entries}
use Rattle.gf_exponents_theory.proofs.ExponentsLaws.{entries_same, entry-plus, entry-minus}
use Rattle.gf_exponents_theory.proofs.WeightLaws.{weight-plus, weight-same}
use Rattle.gf_poly.specs.Polynomial.{Terms, coefficient, times}
use Rattle.gf_poly.specs.Marking.{MarkedPolynomial, Each}
use Rattle.gf_poly.proofs.PolynomialLaws.{coefficient-++, coefficient-same}
use Rattle.gf_ideal_theory.specs.Membership.{HasMonomial}
use Rattle.gf_ideal_theory.specs.Marks.{IsMarked, AreMarked, HasPositiveWeight}
use Rattle.gf_ideal_theory.specs.Reduction.{IsStep}
use Rattle.gf_ideal_theory.specs.Measure.{within, except, all_raised, total, is_zero_number, lists, support_in, support, IsInBox, FitsBox, front, fronts, box}
use Rattle.gf_ideal_theory.specs.Measure.{brought, all_brought, inside_list, height, work_in, work_left}
use Rattle.gf_ideal_theory.proofs.ListLaws.{Contains-cases}
use Rattle.gf_ideal_theory.proofs.TermLaws.{found}
use Rattle.gf_ideal_theory.proofs.StepLaws.{step-gone}

clash : {A : Type 0} → true ≡ false → A
clash q = cc

-- two tests that hold together are one
one_test : (s t : Bool) → (s ≡ true → t ≡ true) → (t ≡ true → s ≡ true) → s ≡ t
one_test true t h k = sym (h refl)
one_test false true h k = k refl
one_test false false h k = refl

-- ---- lists of monomials

within-along : (ys : List Exponents) (d e : Exponents) → same d e ≡ true → within ys d ≡ within ys e
within-along [] d e h = refl
within-along (y ∷ ys) d e h = ap (λ b. b || within ys d) (same_along d e y h) ∙ ap (λ b. same e y || b) (within-along ys d e h)

within-left : (xs ys : List Exponents) (e : Exponents) → within xs e ≡ true → within (xs ++ ys) e ≡ true
within-left [] ys e h = clash (sym h)
within-left (x ∷ xs) ys e h = at (same e x) (within-left xs ys e) h
  where
    at : (b : Bool) → (within xs e ≡ true → within (xs ++ ys) e ≡ true) → (b || within xs e) ≡ true →
        (b || within (xs ++ ys) e) ≡ true
    at true r h = refl
    at false r h = r h

within-right : (xs ys : List Exponents) (e : Exponents) → within ys e ≡ true → within (xs ++ ys) e ≡ true
within-right [] ys e h = h
within-right (x ∷ xs) ys e h = or_right (same e x) (within (xs ++ ys) e) (within-right xs ys e h)

-- what holds of each monomial that is within holds of each element
each_within : (P : Exponents → Type 0) (ys : List Exponents) → ((y : Exponents) → within ys y ≡ true → P y) → Each P ys
each_within P [] h = tt
each_within P (y ∷ ys) h = (h y (ap (λ b. b || within ys y) (same-refl y)), each_within P ys (λ z k. h z (or_right (same z y) (within ys z) k)))

within-except : (x e : Exponents) (ys : List Exponents) → same x e ≡ false → within ys e ≡ true →
    within (except x ys) e ≡ true
within-except x e [] n h = h
within-except x e (y ∷ ys) n h = at (same x y) refl (within-except x e ys n) h
  where
    at : (b : Bool) → same x y ≡ b → (within ys e ≡ true → within (except x ys) e ≡ true) →
        (same e y || within ys e) ≡ true → within (if b then except x ys else (y ∷ except x ys)) e ≡ true
    at true q r h = r (sym (ap (λ b. b || within ys e) (sym (same-sym y e) ∙ sym (same_along x y e q) ∙ n)) ∙ h)
    at false q r h = elim (cases_Bool (same e y)) [
      | inl p ↦ ap (λ b. b || within (except x ys) e) p
      | inr m ↦ or_right (same e y) (within (except x ys) e) (r (sym (ap (λ b. b || within ys e) m) ∙ h))
    ]

-- what is left was there, and is another monomial
except-within : (x e : Exponents) (ys : List Exponents) → within (except x ys) e ≡ true →
    (within ys e ≡ true) × (same x e ≡ false)
except-within x e [] h = clash (sym h)
except-within x e (y ∷ ys) h = at (same x y) refl (except-within x e ys) h
  where
    at : (b : Bool) → same x y ≡ b → (within (except x ys) e ≡ true → (within ys e ≡ true) × (same x e ≡ false)) →
        within (if b then except x ys else (y ∷ except x ys)) e ≡ true →
        ((same e y || within ys e) ≡ true) × (same x e ≡ false)
    at true q r h = let p = r h in (or_right (same e y) (within ys e) p.0, p.1)
    at false q r h = elim (cases_Bool (same e y)) [
      | inl p ↦ (ap (λ b. b || within ys e) p, same-sym x e ∙ same_along e y x p ∙ same-sym y x ∙ q)
      | inr m ↦ let p = r (sym (ap (λ b. b || within (except x ys) e) m) ∙ h) in (or_right (same e y) (within ys e) p.0, p.1)
    ]

except-le : (x : Exponents) (ys : List Exponents) → length (except x ys) ≤ length ys
except-le x [] = omega arith
except-le x (y ∷ ys) = at (same x y) (except-le x ys)
  where
    at : (b : Bool) → length (except x ys) ≤ length ys →
        length (if b then except x ys else (y ∷ except x ys)) ≤ suc (length ys)
    at true h = omega arith
    at false h = omega arith

except-shorter : (x : Exponents) (ys : List Exponents) → within ys x ≡ true → length (except x ys) < length ys
except-shorter x [] h = clash (sym h)
except-shorter x (y ∷ ys) h = at (same x y) refl (except-le x ys) (except-shorter x ys) h
  where
    at : (b : Bool) → same x y ≡ b → length (except x ys) ≤ length ys →
        (within ys x ≡ true → length (except x ys) < length ys) → (b || within ys x) ≡ true →
        length (if b then except x ys else (y ∷ except x ys)) < suc (length ys)
    at true q l r h = omega arith
    at false q l r h = omega (arith, r h)

within-raised : (u y e : Exponents) (ys : List Exponents) → within ys y ≡ true → same e (plus u y) ≡ true →
    within (all_raised u ys) e ≡ true
within-raised u y e [] h s = clash (sym h)
within-raised u y e (z ∷ ys) h s = elim (cases_Bool (same y z)) [
  | inl p ↦ ap (λ b. b || within (all_raised u ys) e) (same_trans e (plus u y) (plus u z) s (same_shift u y z p))
  | inr m ↦ or_right (same e (plus u z)) (within (all_raised u ys) e) (within-raised u y e ys (sym (ap (λ b. b || within ys y) m) ∙ h) s)
]

-- ---- sums over lists

-- the same monomials give the same
abbrev pub IsAlike : (Exponents → ℕ) → Type 0
IsAlike f = (d e : Exponents) → same d e ≡ true → f d ≡ f e

total-++ : (f : Exponents → ℕ) (xs ys : List Exponents) → total f (xs ++ ys) ≡ total f xs + total f ys
total-++ f [] ys = omega arith
total-++ f (x ∷ xs) ys = omega (arith, total-++ f xs ys)

total-except_le : (f : Exponents → ℕ) (x : Exponents) (ys : List Exponents) → total f (except x ys) ≤ total f ys
total-except_le f x [] = omega arith
total-except_le f x (y ∷ ys) = at (same x y) (total-except_le f x ys)
  where
    at : (b : Bool) → total f (except x ys) ≤ total f ys →
        total f (if b then except x ys else (y ∷ except x ys)) ≤ f y + total f ys
    at true h = omega arith
    at false h = omega arith

total-except : (f : Exponents → ℕ) (x : Exponents) (ys : List Exponents) → IsAlike f → within ys x ≡ true →
    total f (except x ys) + f x ≤ total f ys
total-except f x [] a h = clash (sym h)
total-except f x (y ∷ ys) a h = at (same x y) refl (total-except_le f x ys) (total-except f x ys a) h
  where
    at : (b : Bool) → same x y ≡ b → total f (except x ys) ≤ total f ys →
        (within ys x ≡ true → total f (except x ys) + f x ≤ total f ys) → (b || within ys x) ≡ true →
        total f (if b then except x ys else (y ∷ except x ys)) + f x ≤ f y + total f ys
    at true s l r h = let d : f x ≡ f y = a x y s in omega arith
    at false s l r h = omega (arith, r h)

-- no monomial stands twice
abbrev pub IsDistinct : List Exponents → Type 0
IsDistinct [] = Unit {0}
IsDistinct (y ∷ ys) = (within ys y ≡ false) × IsDistinct ys

-- distinct monomials that all are within another list have no greater sum
total-covered : (f : Exponents → ℕ) (xs ys : List Exponents) → IsAlike f → IsDistinct xs →
    ((e : Exponents) → within xs e ≡ true → within ys e ≡ true) → total f xs ≤ total f ys
total-covered f [] ys a p c = omega arith
total-covered f (x ∷ xs) ys a p c =
    let here : within ys x ≡ true = c x (ap (λ b. b || within xs x) (same-refl x)) in
    let rest : total f xs ≤ total f (except x ys) =
    total-covered f xs (except x ys) a p.1 (λ e o. within-except x e ys (apart e o (cases_Bool (same x e))) (c e (or_right (same e x) (within xs e) o))) in
    omega (arith, rest, total-except f x ys a here)
  where
    apart : (e : Exponents) → within xs e ≡ true → (same x e ≡ true) ⊎ (same x e ≡ false) → same x e ≡ false
    apart e o (inr n) = n
    apart e o (inl y) = clash (sym o ∙ sym (within-along xs x e y) ∙ p.0)

total-each : (f g : Exponents → ℕ) (ys : List Exponents) → Each (λ y. f y ≡ g y) ys → total f ys ≡ total g ys
total-each f g [] h = refl
total-each f g (y ∷ ys) h = omega (arith, h.0, total-each f g ys h.1)

total-raised : (f : Exponents → ℕ) (u v : Exponents) (ys : List Exponents) → IsAlike f → same u v ≡ true →
    total f (all_raised u ys) ≡ total f (all_raised v ys)
total-raised f u v [] a s = refl
total-raised f u v (y ∷ ys) a s = omega (arith, a (plus u y) (plus v y) (same_shift_right y u v s), total-raised f u v ys a s)

-- ---- the monomials of a polynomial

lists-along : (f : Terms) (d e : Exponents) → same d e ≡ true → lists f d ≡ lists f e
lists-along [] d e h = refl
lists-along (t ∷ f) d e h = ap (λ b. b || lists f d) (same_along d e t.mono h) ∙ ap (λ b. same e t.mono || b) (lists-along f d e h)

coefficient-none : (f : Terms) (e : Exponents) → lists f e ≡ false → coefficient f e ≡ zero_ℚ
coefficient-none [] e h = refl
coefficient-none (t ∷ f) e h =
    let p = or_parts (same e t.mono) (lists f e) h in
    ap (λ b. (if b then t.coef else zero_ℚ) +ℚ coefficient f e) p.0 ∙ zero-+ℚ _ ∙ coefficient-none f e p.1

zero_number : (x : Fraction) → is_zero_number x.num ≡ true → x ≡ zero_ℚ
zero_number x h = at x.num refl h
  where
    at : (n : ℤ) → x.num ≡ n → is_zero_number n ≡ true → x ≡ zero_ℚ
    at (pos zero) e h = zero_by_num x e
    at (pos (suc k)) e h = clash (sym h)
    at (negsuc k) e h = clash (sym h)

number_zero : (x : Fraction) → x ≡ zero_ℚ → is_zero_number x.num ≡ true
number_zero x e = ap is_zero_number (num_by_zero x e)

support_in-has : (f g : Terms) (x : Exponents) → within (support_in f g) x ≡ true → HasMonomial f x × (lists g x ≡ true)
support_in-has f [] x h = clash (sym h)
support_in-has f (t ∷ g) x h = at (lists g t.mono || is_zero_number (coefficient f t.mono).num) refl (support_in-has f g x) h
  where
    at : (b : Bool) → (lists g t.mono || is_zero_number (coefficient f t.mono).num) ≡ b →
        (within (support_in f g) x ≡ true → HasMonomial f x × (lists g x ≡ true)) →
        within (if b then support_in f g else (t.mono ∷ support_in f g)) x ≡ true →
        HasMonomial f x × ((same x t.mono || lists g x) ≡ true)
    at true q r h = let p = r h in (p.0, or_right (same x t.mono) (lists g x) p.1)
    at false q r h = elim (cases_Bool (same x t.mono)) [
      | inl s ↦ (
        λ z. clash (sym (number_zero (coefficient f t.mono) (sym (coefficient-same f x t.mono s) ∙ z)) ∙
            (or_parts (lists g t.mono) (is_zero_number (coefficient f t.mono).num) q).1),
        ap (λ b. b || lists g x) s,
      )
      | inr m ↦ let p = r (sym (ap (λ b. b || within (support_in f g) x) m) ∙ h) in (p.0, or_right (same x t.mono) (lists g x) p.1)
    ]

support_in-all : (f g : Terms) (x : Exponents) → HasMonomial f x → lists g x ≡ true → within (support_in f g) x ≡ true
support_in-all f [] x n h = clash (sym h)
support_in-all f (t ∷ g) x n h = at (lists g t.mono || is_zero_number (coefficient f t.mono).num) refl (support_in-all f g x n) h
  where
    at : (b : Bool) → (lists g t.mono || is_zero_number (coefficient f t.mono).num) ≡ b →
        (lists g x ≡ true → within (support_in f g) x ≡ true) → (same x t.mono || lists g x) ≡ true →
        within (if b then support_in f g else (t.mono ∷ support_in f g)) x ≡ true
    at false q r h = elim (cases_Bool (same x t.mono)) [
      | inl s ↦ ap (λ b. b || within (support_in f g) x) s
      | inr m ↦ or_right (same x t.mono) (within (support_in f g) x) (r (sym (ap (λ b. b || lists g x) m) ∙ h))
    ]
    at true q r h = elim (cases_Bool (same x t.mono)) [
      | inr m ↦ r (sym (ap (λ b. b || lists g x) m) ∙ h)
      | inl s ↦ elim (cases_Bool (lists g t.mono)) [
        | inl l ↦ r (lists-along g x t.mono s ∙ l)
        | inr l ↦ absurd (n (coefficient-same f x t.mono s ∙ zero_number (coefficient f t.mono)
            (sym (ap (λ b. b || is_zero_number (coefficient f t.mono).num) l) ∙ q)))
      ]
    ]

support_in-distinct : (f g : Terms) → IsDistinct (support_in f g)
support_in-distinct f [] = tt
support_in-distinct f (t ∷ g) = at (lists g t.mono || is_zero_number (coefficient f t.mono).num) refl (support_in-distinct f g)
  where
    apart : lists g t.mono ≡ false → (b : Bool) → within (support_in f g) t.mono ≡ b → b ≡ false
    apart n true h = clash (sym (support_in-has f g t.mono h).1 ∙ n)
    apart n false h = refl

    at : (b : Bool) → (lists g t.mono || is_zero_number (coefficient f t.mono).num) ≡ b → IsDistinct (support_in f g) →
        IsDistinct (if b then support_in f g else (t.mono ∷ support_in f g))
    at true q r = r
    at false q r = (apart (or_parts (lists g t.mono) (is_zero_number (coefficient f t.mono).num) q).0 (within (support_in f g) t.mono) refl, r)

-- each monomial of the support is one of the polynomial
pub support-has : (f : Terms) (x : Exponents) → within (support f) x ≡ true → HasMonomial f x
support-has f x h = (support_in-has f f x h).0

-- and each of the polynomial is there
pub support-all : (f : Terms) (x : Exponents) → HasMonomial f x → within (support f) x ≡ true
support-all f x n = at (cases_Bool (lists f x))
  where
    at : (lists f x ≡ true) ⊎ (lists f x ≡ false) → within (support f) x ≡ true
    at (inl h) = support_in-all f f x n h
    at (inr h) = absurd (n (coefficient-none f x h))

-- ---- the same monomial has the same height

inside-alike : (xs : List Exponents) (f : Exponents → ℕ) → IsAlike f → IsAlike (inside_list xs f)
inside-alike xs f a d e h = ap (λ b. if b then f d else 0) (within-along xs d e h) ∙ ap (λ n. if within xs e then n else 0) (a d e h)

minus-along : (d e h : Exponents) → same d e ≡ true → same (minus d h) (minus e h) ≡ true
minus-along d e h s = same_by_entries (minus d h) (minus e h) (λ i. omega (arith, entries_same d e s i, entry-minus d h i, entry-minus e h i))

-- whether h divides is a matter of the monomial
divides-along : (d e h : Exponents) → same d e ≡ true → same d (plus (minus d h) h) ≡ true →
    same e (plus (minus e h) h) ≡ true
divides-along d e h s p = same_by_entries e (plus (minus e h) h) (λ i. omega (
  arith,
  entries_same d e s i,
  entries_same d (plus (minus d h) h) p i,
  entry-plus (minus d h) h i,
  entry-plus (minus e h) h i,
  entry-minus d h i,
  entry-minus e h i,
))

brought-alike : (f : Exponents → ℕ) (b : MarkedPolynomial) (d e : Exponents) → IsAlike f → same d e ≡ true →
    total f (brought b d) ≡ total f (brought b e)
brought-alike f b d e a s =
    ap (λ t. total f (if t then all_raised (minus d b.head) rest else [])) (one_test (same d (plus (minus d b.head) b.head))
    (same e (plus (minus e b.head) b.head)) (divides-along d e b.head s) (divides-along e d b.head (same_flip d e s)))
    ∙ at (same e (plus (minus e b.head) b.head))
  where
    rest : List Exponents
    rest = except b.head (support b.poly)

    at : (t : Bool) →
        total f (if t then all_raised (minus d b.head) rest else []) ≡ total f (if t then all_raised (minus e b.head) rest else [])
    at true = total-raised f (minus d b.head) (minus e b.head) rest a (minus-along d e b.head s)
    at false = refl

all_brought-alike : (f : Exponents → ℕ) (bs : List MarkedPolynomial) (d e : Exponents) → IsAlike f → same d e ≡ true →
    total f (all_brought bs d) ≡ total f (all_brought bs e)
all_brought-alike f [] d e a s = refl
all_brought-alike f (b ∷ bs) d e a s = omega (
  arith,
  total-++ f (brought b d) (all_brought bs d),
  total-++ f (brought b e) (all_brought bs e),
  brought-alike f b d e a s,
  all_brought-alike f bs d e a s,
)

height-alike : (xs : List Exponents) (bs : List MarkedPolynomial) (k : ℕ) → IsAlike (height xs bs k)
height-alike xs bs zero d e s = refl
height-alike xs bs (suc k) d e s = ap suc (all_brought-alike (inside_list xs (height xs bs k)) bs d e (inside-alike xs (height xs bs k) (height-alike xs bs k))
    s)

-- ---- what a step brings is lighter

each-raised : (w : List ℕ) (x u h : Exponents) (ys : List Exponents) → same x (plus u h) ≡ true →
    Each (λ y. lighter w y h) ys → Each (λ y. lighter w y x) (all_raised u ys)
each-raised w x u h [] s k = tt
each-raised w x u h (y ∷ ys) s k = (omega (arith, k.0, weight-plus w u y, weight-plus w u h, weight-same w x (plus u h) s), each-raised w x u h ys s k.1)

tail-lighter : (w : List ℕ) (b : MarkedPolynomial) → IsMarked (lighter w) b →
    Each (λ y. lighter w y b.head) (except b.head (support b.poly))
tail-lighter w b m = each_within (λ y. lighter w y b.head) (except b.head (support b.poly)) (λ y h. let p = except-within b.head y (support b.poly) h in
    at y p.1 (m.tail y (support-has b.poly y p.0)))
  where
    at : (y : Exponents) → same b.head y ≡ false → (same y b.head ≡ true) ⊎ lighter w y b.head → lighter w y b.head
    at y n (inl s) = clash (sym (same_flip y b.head s) ∙ n)
    at y n (inr l) = l

brought-lighter : (w : List ℕ) (b : MarkedPolynomial) (x : Exponents) → IsMarked (lighter w) b →
    Each (λ y. lighter w y x) (brought b x)
brought-lighter w b x m = at (same x (plus (minus x b.head) b.head)) refl
  where
    at : (t : Bool) → same x (plus (minus x b.head) b.head) ≡ t →
        Each (λ y. lighter w y x) (if t then all_raised (minus x b.head) (except b.head (support b.poly)) else [])
    at true s = each-raised w x (minus x b.head) b.head (except b.head (support b.poly)) s (tail-lighter w b m)
    at false s = tt

-- ---- heights are stable once they are as deep as the list is long

-- f and g agree in the list, at what is lighter than x
abbrev Agree : List Exponents → List ℕ → Exponents → (Exponents → ℕ) → (Exponents → ℕ) → Type 0
Agree xs w x f g = (e : Exponents) → lighter w e x → within xs e ≡ true → f e ≡ g e

inside-agree : (xs : List Exponents) (w : List ℕ) (x : Exponents) (f g : Exponents → ℕ) (e : Exponents) →
    Agree xs w x f g → lighter w e x → inside_list xs f e ≡ inside_list xs g e
inside-agree xs w x f g e a h = at (within xs e) refl
  where
    at : (b : Bool) → within xs e ≡ b → (if b then f e else 0) ≡ (if b then g e else 0)
    at true q = a e h q
    at false q = refl

Each-inside : (xs : List Exponents) (w : List ℕ) (x : Exponents) (f g : Exponents → ℕ) (ys : List Exponents) →
    Agree xs w x f g → Each (λ y. lighter w y x) ys → Each (λ y. inside_list xs f y ≡ inside_list xs g y) ys
Each-inside xs w x f g [] a h = tt
Each-inside xs w x f g (y ∷ ys) a h = (inside-agree xs w x f g y a h.0, Each-inside xs w x f g ys a h.1)

all_brought-agree : (xs : List Exponents) (w : List ℕ) (f g : Exponents → ℕ) (bs : List MarkedPolynomial) (x : Exponents) →
    Agree xs w x f g → Each (IsMarked (lighter w)) bs →
    total (inside_list xs f) (all_brought bs x) ≡ total (inside_list xs g) (all_brought bs x)
all_brought-agree xs w f g [] x a m = refl
all_brought-agree xs w f g (b ∷ bs) x a m =
    omega (
      arith,
      total-++ (inside_list xs f) (brought b x) (all_brought bs x),
      total-++ (inside_list xs g) (brought b x) (all_brought bs x),
      total-each (inside_list xs f) (inside_list xs g) (brought b x) (Each-inside xs w x f g (brought b x) a (brought-lighter w b x m.0)),
      all_brought-agree xs w f g bs x a m.1,
    )

abbrev nothing_in : Bool → ℕ
nothing_in b = if b then 0 else 0

total-nothing : (xs ys : List Exponents) → total (inside_list xs (λ _. 0)) ys ≡ 0
total-nothing xs [] = refl
total-nothing xs (y ∷ ys) = omega (arith, at (within xs y), total-nothing xs ys)
  where
    at : (b : Bool) → nothing_in b ≡ 0
    at true = refl
    at false = refl

height-stable : (xs : List Exponents) (w : List ℕ) (bs : List MarkedPolynomial) (k : ℕ) (s : List Exponents) (x : Exponents) →
    Each (IsMarked (lighter w)) bs → length s ≤ k
    → ((e : Exponents) → lighter w e x → within xs e ≡ true → within s e ≡ true) → height xs bs k x ≡ height xs bs (suc k) x
height-stable xs w bs zero [] x m l c =
    ap suc (sym (all_brought-agree xs w (λ _. 1) (λ _. 0) bs x (λ e p q. clash (sym (c e p q))) m ∙ total-nothing xs (all_brought bs x)))
height-stable xs w bs zero (z ∷ s) x m l c = absurd (omega arith)
height-stable xs w bs (suc k) s x m l c = ap suc (all_brought-agree xs w (height xs bs k) (height xs bs (suc k)) bs x
    (λ y less here. height-stable xs w bs k (except y s) y m (omega (arith, except-shorter y s (c y less here)))
    (λ e lower q. within-except y e s (apart y e lower (cases_Bool (same y e))) (c e (omega (arith, less, lower)) q))) m)
  where
    apart : (y e : Exponents) → lighter w e y → (same y e ≡ true) ⊎ (same y e ≡ false) → same y e ≡ false
    apart y e l (inr n) = n
    apart y e l (inl q) = absurd (omega (arith, l, weight-same w y e q))

-- ---- a step

brought-le : (f : Exponents → ℕ) (bs : List MarkedPolynomial) (b : MarkedPolynomial) (x : Exponents) → Contains bs b →
    total f (brought b x) ≤ total f (all_brought bs x)
brought-le f [] b x c = absurd (omega (arith, c.1))
brought-le f (d ∷ bs) b x c = at (Contains-cases d b bs c) (λ k. brought-le f bs b x k)
  where
    at : (d ≡ b) ⊎ Contains bs b → (Contains bs b → total f (brought b x) ≤ total f (all_brought bs x)) →
        total f (brought b x) ≤ total f (brought d x ++ all_brought bs x)
    at (inl e) r = subst (λ (z : MarkedPolynomial). total f (brought b x) ≤ total f (brought z x ++ all_brought bs x)) (sym e)
        (omega (arith, total-++ f (brought b x) (all_brought bs x)))
    at (inr k) r = omega (arith, total-++ f (brought d x) (all_brought bs x), r k)

-- a monomial of u b other than x = u times the mark is brought
multiple-brought : (b : MarkedPolynomial) (c : Fraction) (u x e : Exponents) → same x (plus u b.head) ≡ true →
    same x e ≡ false → HasMonomial (times c u b.poly) e → within (brought b x) e ≡ true
multiple-brought b c u x e s n m = let r = found c u b.poly e m in
    ap (λ t. within (if t then all_raised (minus x b.head) (except b.head (support b.poly)) else []) e) divides
    ∙ within-raised (minus x b.head) r.0 e (except b.head (support b.poly))
    (within-except b.head r.0 (support b.poly) (other r.0 r.2 (cases_Bool (same b.head r.0))) (support-all b.poly r.0 r.1))
    (same_trans e (plus u r.0) (plus (minus x b.head) r.0) r.2 (same_shift_right r.0 u (minus x b.head) shift))
  where
    shift : same u (minus x b.head) ≡ true
    shift = same_by_entries u (minus x b.head) (λ i. omega (arith, entries_same x (plus u b.head) s i, entry-plus u b.head i, entry-minus x b.head i))

    divides : same x (plus (minus x b.head) b.head) ≡ true
    divides = same_trans x (plus u b.head) (plus (minus x b.head) b.head) s (same_shift_right b.head u (minus x b.head) shift)

    other : (y : Exponents) → same e (plus u y) ≡ true → (same b.head y ≡ true) ⊎ (same b.head y ≡ false) →
        same b.head y ≡ false
    other y q (inr k) = k
    other y q (inl k) =
        clash (sym (same_trans x (plus u b.head) e s (same_trans (plus u b.head) (plus u y) e (same_shift u b.head y k) (same_flip e (plus u y) q))) ∙ n)

work_in-step : (xs : List Exponents) (w : List ℕ) (bs : List MarkedPolynomial) (f g : Terms) (s : IsStep (Contains bs) f g) →
    AreMarked (lighter w) bs → Each (IsMarked (lighter w)) bs → within xs s.at ≡ true →
    work_in xs bs g < work_in xs bs f
work_in-step xs w bs f g s m each here =
    let k = length xs in
    let v = inside_list xs (height xs bs k) in
    let alike : IsAlike v = inside-alike xs (height xs bs k) (height-alike xs bs k) in
    let there : within (support f) s.at ≡ true = support-all f s.at s.there in
    let cover : total v (support g) ≤ total v (except s.at (support f) ++ brought s.member s.at) =
    total-covered v (support g) (except s.at (support f) ++ brought s.member s.at) alike (support_in-distinct g g)
    (λ e q. from e (support-has g e q) (cases_Bool (same s.at e)) (zero_or_not (coefficient f e))) in
    let parts = total-++ v (except s.at (support f)) (brought s.member s.at) in
    let at_x : v s.at ≡ height xs bs k s.at = ap (λ q. if q then height xs bs k s.at else 0) here in
    let stable : height xs bs k s.at ≡ suc (total v (all_brought bs s.at)) = height-stable xs w bs k xs s.at each (omega arith) (λ e l q. q) in
    omega (arith, cover, parts, at_x, stable, brought-le v bs s.member s.at s.contained, total-except v s.at (support f) alike there)
  where
    gone : coefficient g s.at ≡ zero_ℚ
    gone = step-gone (Contains bs) f g s (m s.member s.contained).monic

    from : (e : Exponents) → HasMonomial g e → (same s.at e ≡ true) ⊎ (same s.at e ≡ false) →
        (coefficient f e ≡ zero_ℚ) ⊎ HasMonomial f e →
        within (except s.at (support f) ++ brought s.member s.at) e ≡ true
    from e n (inl q) r = absurd (n (sym (coefficient-same g s.at e q) ∙ gone))
    from e n (inr q) (inr r) = within-left (except s.at (support f)) (brought s.member s.at) e (within-except s.at e (support f) q (support-all f e r))
    from e n (inr q) (inl z) = within-right (except s.at (support f)) (brought s.member s.at) e (multiple-brought s.member (neg_ℚ (coefficient f s.at))
        s.rest s.at e s.divides q
        (λ y. n (s.equal e ∙ coefficient-++ f (times (neg_ℚ (coefficient f s.at)) s.rest s.member.poly) e ∙
        ap (λ c. c +ℚ coefficient (times (neg_ℚ (coefficient f s.at)) s.rest s.member.poly) e) z ∙ zero-+ℚ _ ∙ y)))

-- ---- the box

within-front : (a : ℕ) (ys : List Exponents) (e : Exponents) → within ys e ≡ true → within (front a ys) (a ∷ e) ≡ true
within-front a [] e h = h
within-front a (y ∷ ys) e h = elim (cases_Bool (same e y)) [
  | inl p ↦ ap (λ b. b || within (front a ys) (a ∷ e)) (same_by_entries (a ∷ e) (a ∷ y) (λ i. entries p i))
  | inr m ↦ or_right (same (a ∷ e) (a ∷ y)) (within (front a ys) (a ∷ e)) (within-front a ys e (sym (ap (λ b. b || within ys e) m) ∙ h))
]
  where
    entries : same e y ≡ true → (i : ℕ) → entry (a ∷ e) i ≡ entry (a ∷ y) i
    entries p zero = refl
    entries p (suc i) = entries_same e y p i

within-fronts : (limit a : ℕ) (ys : List Exponents) (e : Exponents) → a < limit → within ys e ≡ true →
    within (fronts limit ys) (a ∷ e) ≡ true
within-fronts zero a ys e l h = absurd (omega arith)
within-fronts (suc b) a ys e l h = at (cases_lt a b) (λ below. within-fronts b a ys e below h)
  where
    at : (a < b) ⊎ (b ≤ a) → (a < b → within (fronts b ys) (a ∷ e) ≡ true) →
        within (front b ys ++ fronts b ys) (a ∷ e) ≡ true
    at (inl below) r = within-right (front b ys) (fronts b ys) (a ∷ e) (r below)
    at (inr above) r =
        let q : a ≡ b = omega arith in
        within-left (front b ys) (fronts b ys) (a ∷ e) (subst (λ z. within (front z ys) (a ∷ e) ≡ true) q (within-front a ys e h))

-- each monomial that fits is in the box
pub within-box : (limit n : ℕ) (x : Exponents) → IsInBox limit n x → within (box limit n) x ≡ true
unfolding box
within-box limit zero x h = ap (λ b. b || false) (same_by_entries x [] (λ i. h.beyond i (omega arith)))
within-box limit (suc n) [] h =
    within-along (fronts limit (box limit n)) [] (0 ∷ []) refl
    ∙ within-fronts limit 0 (box limit n) [] (h.below 0) (within-box limit n [] (record { below = λ i. h.below 0; beyond = λ i l. refl }))
within-box limit (suc n) (a ∷ x) h = within-fronts limit a (box limit n) x (h.below 0)
    (within-box limit n x (record { below = λ i. h.below (suc i); beyond = λ i l. h.beyond (suc i) (omega arith) }))

each_marked : (w : List ℕ) (bs cs : List MarkedPolynomial) → AreMarked (lighter w) bs →
    ((b : MarkedPolynomial) → Contains cs b → Contains bs b) → Each (IsMarked (lighter w)) cs
each_marked w bs [] m h = tt
each_marked w bs (c ∷ cs) m h = (m c (h c (0, omega arith, refl)), each_marked w bs cs m (λ b k. h b (suc k.0, omega (arith, k.1), k.2)))

-- a step at a monomial in the box leaves less work
pub work_left-at : (limit m : ℕ) (w : List ℕ) (bs : List MarkedPolynomial) (f g : Terms) →
    AreMarked (lighter w) bs → (s : IsStep (Contains bs) f g) → IsInBox limit m s.at →
    work_left limit m bs g < work_left limit m bs f
work_left-at limit m w bs f g h s b = work_in-step (box limit m) w bs f g s h (each_marked w bs bs h (λ b k. k)) (within-box limit m s.at b)

-- a step from a polynomial in the box leaves less work
pub work_left-step : (limit n : ℕ) (w : List ℕ) (bs : List MarkedPolynomial) (f g : Terms) → AreMarked (lighter w) bs →
    FitsBox limit n f → IsStep (Contains bs) f g → work_left limit n bs g < work_left limit n bs f
work_left-step limit n w bs f g m fits s = work_left-at limit n w bs f g m s (fits s.at s.there)

-- so a loop of steps ends, by members that some positive weight marks
pub work_left-smaller : (limit m n : ℕ) (bs : List MarkedPolynomial) (f g : Terms) → HasPositiveWeight n bs →
    FitsBox limit m f → IsStep (Contains bs) f g → work_left limit m bs g < work_left limit m bs f
work_left-smaller limit m n bs f g h fits s = work_left-step limit m h.0 bs f g h.2 fits s

-- where only the monomial of the step is known to be in the box
pub work_left-smaller_at : (limit m n : ℕ) (bs : List MarkedPolynomial) (f g : Terms) → HasPositiveWeight n bs →
    (s : IsStep (Contains bs) f g) → IsInBox limit m s.at → work_left limit m bs g < work_left limit m bs f
work_left-smaller_at limit m n bs f g h s b = work_left-at limit m h.0 bs f g h.2 s b
