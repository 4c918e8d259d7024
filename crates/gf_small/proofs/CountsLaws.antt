-- Counts of sets, one after another.
-- To cite: greatest-more, terms-more, CountsSoFar and its steps.
use Rattle.std.specs.Prelude.{◌≡◌, ℕ, zero, suc, ◌+◌, ◌-◌, ◌*◌, ◌^◌, ◌<◌, ◌≤◌, List, [], ◌∷◌, ◌++◌, length, take, get_or, map, max, min, Bool, true, false}
use Rattle.std.specs.Prelude.{◌==◌, if◌then◌else◌}
use Rattle.std.specs.Ordering.{nat_cmp, ord_max, is_lt, MatchOrdering}
use Rattle.std.specs.declared.cmp.Ordering.{Ordering}
use Rattle.std.specs.declared.cmp.Ordering.TheVariants.{Less, Equal, Greater}
use Rattle.std.specs.Prelude.{cond}
use Rattle.std.proofs.lemmas.Cmp.{ranked}
use Rattle.std.proofs.Common.{arith, refl, sym, ap, ◌∙◌}
use Rattle.std.proofs.lemmas.List.{take_more, take_all, map-append}
use Rattle.gf_exponents_theory.proofs.ExponentsLaws.{eq_by}
use Rattle.gf_poly.specs.Marking.{MarkedPolynomial, MarkedPolynomials}
use Rattle.gf_poly.proofs.CollectLaws.{nonempty_by_test}
use Rattle.gf_small.specs.declared.counts.Counts.{Counts}
use Rattle.gf_small.specs.Degrees.{greatest}
use Rattle.gf_small.specs.Counts.{least, degree_of_set, count_of_terms, AreSetCounts}

pub greatest-push : (ks : List ℕ) (k : ℕ) → greatest (ks ++ k ∷ []) ≡ max (greatest ks) k
greatest-push [] k = omega arith
greatest-push (l ∷ ks) k = omega (arith, greatest-push ks k)

least-push : (l : ℕ) (ks : List ℕ) (k : ℕ) → least ((l ∷ ks) ++ k ∷ []) ≡ min (least (l ∷ ks)) k
least-push l [] k = refl
least-push l (m ∷ ks) k = omega (arith, least-push m ks k)

next_mapped : {A : Type 0} (f : A → ℕ) (xs : List A) (i : ℕ) (x : A) → i < length xs → x ≡ get_or xs i x →
    map f (take (i + 1) xs) ≡ map f (take i xs) ++ f x ∷ []
next_mapped f xs i x l e = ap (map f) (take_more xs i x l ∙ ap (λ z. take i xs ++ z ∷ []) (sym e)) ∙ map-append f (take i xs) (x ∷ [])

-- the greatest of one number more
pub greatest-more : {A : Type 0} (f : A → ℕ) (xs : List A) (i : ℕ) (x : A) (m k : ℕ) → i < length xs → x ≡ get_or xs i x → k ≡ max m (f x) →
    m ≡ greatest (map f (take i xs)) → k ≡ greatest (map f (take (i + 1) xs))
greatest-more f xs i x m k l e q h = q ∙ ap (λ z. max z (f x)) h ∙ sym (greatest-push (map f (take i xs)) (f x)) ∙ ap greatest (sym (next_mapped f xs i x l e))

-- the least of one number more
pub least-first : {A : Type 0} (f : A → ℕ) (xs : List A) (i : ℕ) (x : A) (k : ℕ) → i ≡ 0 → i < length xs → x ≡ get_or xs i x → k ≡ f x →
    k ≡ least (map f (take (i + 1) xs))
least-first f xs i x k z l e q = q ∙ ap (λ n. least (map f (take n xs) ++ f x ∷ [])) (sym z) ∙ ap least (sym (next_mapped f xs i x l e))

pub least-more : {A : Type 0} (f : A → ℕ) (xs : List A) (i : ℕ) (x : A) (m k : ℕ) → 0 < i → i < length xs → x ≡ get_or xs i x → k ≡ min m (f x) →
    m ≡ least (map f (take i xs)) → k ≡ least (map f (take (i + 1) xs))
least-more {A = A} f xs i x m k p l e q h = q ∙ ap (λ z. min z (f x)) h ∙ by i xs p l ∙ ap least (sym (next_mapped f xs i x l e))
  where
    by : (i : ℕ) (xs : List A) → 0 < i → i < length xs → min (least (map f (take i xs))) (f x) ≡ least (map f (take i xs) ++ f x ∷ [])
    by zero xs p l = absurd (omega arith)
    by (suc i) [] p l = absurd (omega arith)
    by (suc i) (y ∷ ys) p l = sym (least-push (f y) (map f (take i ys)) (f x))

pub whole : {A : Type 0} {B : Type 0} (g : List A → B) (xs : List A) (i : ℕ) (b : B) → length xs ≤ i → b ≡ g (take i xs) → b ≡ g xs
whole g xs i b l e = e ∙ ap g (take_all i xs l)

-- ---- terms

pub terms_in-push : (bs : List MarkedPolynomial) (b : MarkedPolynomial) → count_of_terms (bs ++ b ∷ []) ≡ count_of_terms bs + length b.poly
terms_in-push [] b = omega arith
terms_in-push (d ∷ bs) b = omega (arith, terms_in-push bs b)

-- the terms of the first i polynomials, which have fewer than 2^64 each
pub record TermsSoFar (bs : List MarkedPolynomial) (sum i : ℕ) : Type 0 where
  pub terms : sum ≡ count_of_terms (take i bs)
  pub bound : sum ≤ i * (2 ^ 64 - 1)

pub terms-more : (bs : List MarkedPolynomial) (sum next i : ℕ) (b : MarkedPolynomial) → i < length bs → b ≡ get_or bs i b → length b.poly < 2 ^ 64 →
    next ≡ sum + length b.poly → TermsSoFar bs sum i → TermsSoFar bs next (i + 1)
terms-more bs sum next i b l e few q h = record {
  terms = q ∙ ap (λ z. z + length b.poly) h.terms ∙ sym (terms_in-push (take i bs) b) ∙ ap count_of_terms
      (sym (take_more bs i b l ∙ ap (λ (z : MarkedPolynomial). take i bs ++ z ∷ []) (sym e)));
  bound = omega (arith, h.bound);
}

-- ---- counts

-- those of the first i sets
abbrev pub CountsSoFar : List MarkedPolynomials → Counts → ℕ → Type 0
CountsSoFar sets c i = AreSetCounts (take i sets) c

pub counts-more : (sets : List MarkedPolynomials) (c d : Counts) (i : ℕ) (s : MarkedPolynomials) (first : Bool) → i < length sets → s ≡ get_or sets i s →
    first ≡ (i == 0) → d.max_degree ≡ max c.max_degree (degree_of_set s) →
    d.min_degree ≡ (if first then degree_of_set s else min c.min_degree (degree_of_set s)) → d.max_polynomials ≡ max c.max_polynomials (length s.items) →
    d.max_terms ≡ max c.max_terms (count_of_terms s.items) → CountsSoFar sets c i → CountsSoFar sets d (i + 1)
counts-more sets c d i s first l e f g m p t h = record {
  max_degree = greatest-more degree_of_set sets i s c.max_degree d.max_degree l e g h.max_degree;
  min_degree = by first f m;
  max_polynomials = greatest-more (λ (z : MarkedPolynomials). length z.items) sets i s c.max_polynomials d.max_polynomials l e p h.max_polynomials;
  max_terms = greatest-more (λ (z : MarkedPolynomials). count_of_terms z.items) sets i s c.max_terms d.max_terms l e t h.max_terms;
}
  where
    by : (b : Bool) → b ≡ (i == 0) → d.min_degree ≡ (if b then degree_of_set s else min c.min_degree (degree_of_set s)) →
        d.min_degree ≡ least (map degree_of_set (take (i + 1) sets))
    by true q r = least-first degree_of_set sets i s d.min_degree (eq_by i 0 (sym q)) l e r
    by false q r = least-more degree_of_set sets i s c.min_degree d.min_degree (nonempty_by_test i q) l e r h.min_degree

-- the greater of two numbers, as `max` answers it, and the smaller
pub ord_max-is : (a b : ℕ) → ord_max nat_cmp a b ≡ max a b
ord_max-is a b = at (nat_cmp b a) (ranked b a _ refl)
  where
    at : (o : Ordering) → MatchOrdering o (b < a) (b ≡ a) (a < b) → cond (is_lt o) a b ≡ max a b
    at Less h = omega (arith, h)
    at Equal h = omega (arith, h)
    at Greater h = omega (arith, h)
