-- A stable sort keeps coefficients and like terms, and puts a list in order.
-- To cite: by_deglex, IsOrdered-sorted, HasLikeTerms-sorted.
use Rattle.std.specs.Prelude.{◌≡◌, ℕ, zero, suc, ◌<◌, ◌≤◌, Bool, true, false, not, ◌&&◌, cond, if◌then◌else◌, [], ◌∷◌, length, All}
use Rattle.std.specs.List.{swap, filter}
use Rattle.std.specs.List.Sorted.{IsPermutation, IsSortedBy, IsStableBy, ties}
use Rattle.std.specs.Ordering.{is_lt, is_eq, ordering_reverse}
use Rattle.std.specs.Cmp.{IsStrictWeakOrder}
use Rattle.std.specs.declared.cmp.Ordering.{Ordering}
use Rattle.std.specs.declared.cmp.Ordering.TheVariants.{Greater, Less, Equal}
use Rattle.std.proofs.Common.{arith, refl, sym, ap, ◌∙◌, inl, inr, get_or}
use Rattle.std.proofs.Math.ListN.{set}
use Rattle.std.proofs.lemmas.Bool.{cases_lt}
use Rattle.std.proofs.lemmas.List.{get_or-set_other, length-set}
use Rattle.std.proofs.lemmas.Grind.{get_or-set_at}
use Rattle.std.proofs.lemmas.List.Sorted.{ranks_by, IsStrictWeakOrder-flip, sorted_far, IsPermutation-keeps, All-permutation}
use Rattle.std.proofs.lemmas.List.Elements.{All-cons}
use Rattle.gf_frac.specs.Fraction.{Fraction, ◌+ℚ◌, neg_ℚ, zero_ℚ}
use Rattle.gf_frac.proofs.FractionLaws.{+ℚ_assoc, +ℚ_comm, +ℚ-zero, +ℚ-neg_ℚ}
use Rattle.gf_exponents_theory.specs.Exponents.{Exponents, same}
use Rattle.gf_exponents_theory.specs.Orders.{deglex}
use Rattle.gf_poly.specs.declared.Term.{Term}
use Rattle.gf_poly.specs.Polynomial.{Terms, coefficient, HasVariables}
use Rattle.gf_poly.specs.Collecting.{like, IsNotBelow, IsOrdered, HasLikeTerms}
use Rattle.gf_poly.proofs.DescendingLaws.{deglex-total}

-- the order of the sort: greater monomials first
abbrev pub is_before : Term → Term → Bool
is_before s t = is_lt (deglex t.mono s.mono)

pub by_deglex : IsStrictWeakOrder is_before
by_deglex = IsStrictWeakOrder-flip (λ (s t : Term). is_lt (deglex s.mono t.mono)) (ranks_by deglex-total (λ (t : Term). t.mono))

-- ---- order
not_below : (x : Exponents) (f : Terms) → ((j : ℕ) (d : Term) → j < length f → is_lt (deglex x (get_or f j d).mono) ≡ false) → IsNotBelow x f
not_below x [] h = tt
not_below x (t ∷ f) h = (h 0 t (omega arith), not_below x f (λ j d l. h (suc j) d (omega arith)))

ordered : (f : Terms) → ((i j : ℕ) (d : Term) → i ≤ j → j < length f → is_lt (deglex (get_or f i d).mono (get_or f j d).mono) ≡ false) → IsOrdered f
ordered [] h = tt
ordered (t ∷ f) h = (
  not_below t.mono f (λ j d l. h 0 (suc j) d (omega arith) (omega arith)),
  ordered f (λ i j d k l. h (suc i) (suc j) d (omega arith) (omega arith)),
)

pub IsOrdered-sorted : (f : Terms) → IsSortedBy is_before f → IsOrdered f
IsOrdered-sorted f up = ordered f (sorted_far is_before by_deglex f up)

-- ---- like terms
same_tests : (o p : Ordering) → p ≡ ordering_reverse o → is_eq o ≡ (not (is_lt p) && not (is_lt o))
same_tests Less p e = ap (λ q. not (is_lt q) && false) (sym e)
same_tests Equal p e = ap (λ q. not (is_lt q) && true) (sym e)
same_tests Greater p e = ap (λ q. not (is_lt q) && true) (sym e)

like-filter : (x : Term) (f : Terms) → like x.mono f ≡ filter (ties is_before x) f
like-filter x [] = refl
like-filter x (t ∷ f) =
    ap (λ b. cond b (t ∷ like x.mono f) (like x.mono f)) (same_tests (deglex x.mono t.mono) (deglex t.mono x.mono) (deglex-total.antisymm t.mono x.mono))
    ∙ ap (λ z. cond (ties is_before x t) (t ∷ z) z) (like-filter x f)

-- ---- coefficients
-- a replaced term
coefficient-set : (f : Terms) (i : ℕ) (y d : Term) (e : Exponents) → i < length f →
    coefficient (set f i y) e +ℚ (if same e (get_or f i d).mono then (get_or f i d).coef else zero_ℚ) ≡ coefficient f e +ℚ
    (if same e y.mono then y.coef else zero_ℚ)
coefficient-set [] i y d e l = absurd (omega arith)
coefficient-set (t ∷ f) zero y d e l = turned _ _ _
  where
    turned : (a b c : Fraction) → (a +ℚ b) +ℚ c ≡ (c +ℚ b) +ℚ a
    turned a b c = +ℚ_comm (a +ℚ b) c ∙ ap (λ z. c +ℚ z) (+ℚ_comm a b) ∙ sym (+ℚ_assoc c b a)
coefficient-set (t ∷ f) (suc i) y d e l = +ℚ_assoc _ _ _ ∙ ap (λ z. (if same e t.mono then t.coef else zero_ℚ) +ℚ z) (coefficient-set f i y d e (omega arith)) ∙
    sym (+ℚ_assoc _ _ _)

cancel_right : (a b c : Fraction) → a +ℚ c ≡ b +ℚ c → a ≡ b
cancel_right a b c h = sym (undo a) ∙ ap (λ z. z +ℚ neg_ℚ c) h ∙ undo b
  where
    undo : (x : Fraction) → (x +ℚ c) +ℚ neg_ℚ c ≡ x
    undo x = +ℚ_assoc x c (neg_ℚ c) ∙ ap (λ z. x +ℚ z) (+ℚ-neg_ℚ c) ∙ +ℚ-zero x

coefficient-swap : (e : Exponents) (f : Terms) (i j : ℕ) → i < length f → j < length f → coefficient (swap f i j) e ≡ coefficient f e
coefficient-swap e [] i j p q = absurd (omega arith)
coefficient-swap e (d ∷ f) i j p q =
    let l : Terms = d ∷ f in
    let w : Terms = set l i (get_or l j d) in
    let long : length w ≡ length l = length-set l i (get_or l j d) in
    let first = coefficient-set l i (get_or l j d) d e p in
    let second = coefficient-set w j (get_or l i d) d e (omega arith) in
    cancel_right _ _ _ (ap (λ (t : Term). coefficient (set w j (get_or l i d)) e +ℚ (if same e t.mono then t.coef else zero_ℚ)) (sym (there l p)) ∙ second ∙
    first)
  where
    there : (l : Terms) → i < length l → get_or (set l i (get_or l j d)) j d ≡ get_or l j d
    there l h = elim (cases_lt i j) [
      | inl m ↦ get_or-set_other l i j (get_or l j d) d (λ e. absurd (omega arith))
      | inr m ↦ elim (cases_lt j i) [
        | inl n ↦ get_or-set_other l i j (get_or l j d) d (λ e. absurd (omega arith))
        | inr n ↦ get_or-set_at l i j (get_or l j d) d (omega arith) h
      ]
    ]

pub coefficient-permutation : (f g : Terms) (e : Exponents) → IsPermutation f g → coefficient g e ≡ coefficient f e
coefficient-permutation f g e = IsPermutation-keeps f (λ l. coefficient l e ≡ coefficient f e) refl (λ l i j p q h. coefficient-swap e l i j p q ∙ h) g

-- ---- variables
all_of : (n : ℕ) (f : Terms) → HasVariables n f → All (λ (t : Term). length t.mono ≡ n) f
all_of n [] h = λ k d l. absurd (omega arith)
all_of n (t ∷ f) h = All-cons (λ (s : Term). length s.mono ≡ n) t f h.0 (all_of n f h.1)

of_all : (n : ℕ) (f : Terms) → All (λ (t : Term). length t.mono ≡ n) f → HasVariables n f
of_all n [] h = tt
of_all n (t ∷ f) h = (h 0 t (omega arith), of_all n f (λ k d l. h (suc k) d (omega arith)))

pub HasLikeTerms-sorted : (f g : Terms) → IsPermutation f g → IsStableBy is_before f g → HasLikeTerms f g
HasLikeTerms-sorted f g p stable = record {
  same = λ e. coefficient-permutation f g e p;
  like_terms = λ x. let t : Term = record { coef = zero_ℚ; mono = x } in like-filter t g ∙ stable t ∙ sym (like-filter t f);
  variables = record { at = λ n h. of_all n g (All-permutation (λ (t : Term). length t.mono ≡ n) f g p (all_of n f h)) };
}
