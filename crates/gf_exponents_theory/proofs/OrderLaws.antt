-- Lex, deglex, revlex and the weighted orders are monomial orders, and lex and deglex are what code compares.
-- To cite: lex-order, revlex-order, deglex-order, weighted-order, weighted_revlex-order, lighter-strict, lex-compares, deglex-compares.
use Rattle.std.specs.Ordering.{nat_cmp, ordering_then, MatchOrdering}
use Rattle.std.specs.Cmp.Lexicographic.{slice_cmp}
use Rattle.std.specs.declared.cmp.Ordering.{Ordering}
use Rattle.std.specs.declared.cmp.Ordering.TheVariants.{Less, Equal, Greater}
use Rattle.std.proofs.Common.{◌≡◌, ◌⊎◌, ℕ, zero, suc, ◌+◌, ◌<◌, ◌≤◌, true, List, [], ◌∷◌, length, max, arith, refl, sym, ◌∙◌, subst, inl, inr}
use Rattle.std.proofs.lemmas.Bool.{cases_lt}
use Rattle.std.proofs.lemmas.Cmp.{ranked}
use Rattle.gf_exponents_theory.specs.Exponents.{Exponents, entry, same, plus, degree, weight}
use Rattle.gf_exponents_theory.specs.Orders.{deglex, lighter, IsStrict, IsMonomialOrder, IsLexBelow, IsRevlexBelow, IsDeglexBelow, IsWeightedBelow}
use Rattle.gf_exponents_theory.specs.Orders.{IsWeightedRevlexBelow}
use Rattle.gf_exponents_theory.proofs.ExponentsLaws.{entry-plus, entry-past, entries_same, same_by_entries}
use Rattle.gf_exponents_theory.proofs.WeightLaws.{weight-plus, weight-same, degree-plus, degree-same}

-- ---- weights
pub lighter-strict : (w : List ℕ) → IsStrict (lighter w)
lighter-strict w = record {
  irreflexive = λ x y s h. let e = weight-same w x y s in absurd (omega arith);
  transitive = λ x y z h k. omega arith;
  invariant = λ z x y h. omega (arith, weight-plus w z x, weight-plus w z y);
  along_left = λ x y z s h. omega (arith, weight-same w x y s);
  along_right = λ x y z s h. omega (arith, weight-same w y z s);
}

-- ---- lex is strict
pub lex-strict : IsStrict IsLexBelow
lex-strict = record {
  irreflexive = λ x y s h. absurd (omega (arith, entries_same x y s h.at, h.here));
  transitive = λ x y z h k. both x y z h k (cases_lt h.at k.at);
  invariant = λ z x y h. record {
    at = h.at;
    before = λ i l. omega (arith, entry-plus z x i, entry-plus z y i, h.before i l);
    here = omega (arith, entry-plus z x h.at, entry-plus z y h.at, h.here);
  };
  along_left = λ x y z s h. record {
    at = h.at;
    before = λ i l. omega (arith, entries_same x y s i, h.before i l);
    here = omega (arith, entries_same x y s h.at, h.here);
  };
  along_right = λ x y z s h. record {
    at = h.at;
    before = λ i l. omega (arith, entries_same y z s i, h.before i l);
    here = omega (arith, entries_same y z s h.at, h.here);
  };
}
  where
    both : (x y z : Exponents) (h : IsLexBelow x y) (k : IsLexBelow y z) → (h.at < k.at) ⊎ (k.at ≤ h.at) → IsLexBelow x z
    both x y z h k (inl l) = record {
      at = h.at;
      before = λ i m. omega (arith, h.before i m, k.before i (omega arith));
      here = omega (arith, h.here, k.before h.at l);
    }
    both x y z h k (inr g) = elim (cases_lt k.at h.at) [
      | inl l ↦ record { at = k.at; before = λ i m. omega (arith, h.before i (omega arith), k.before i m); here = omega (arith, k.here, h.before k.at l) }
      | inr m ↦ let e : h.at ≡ k.at = omega arith in record {
        at = h.at;
        before = λ i n. omega (arith, h.before i n, k.before i (omega arith));
        here = omega (arith, h.here, subst (λ (j : ℕ). entry y j < entry z j) (sym e) k.here);
      }
    ]

-- ---- revlex is strict
pub revlex-strict : IsStrict IsRevlexBelow
revlex-strict = record {
  irreflexive = λ x y s h. absurd (omega (arith, entries_same x y s h.at, h.here));
  transitive = λ x y z h k. both x y z h k (cases_lt h.at k.at);
  invariant = λ z x y h. record {
    at = h.at;
    after = λ i l. omega (arith, entry-plus z x i, entry-plus z y i, h.after i l);
    here = omega (arith, entry-plus z x h.at, entry-plus z y h.at, h.here);
  };
  along_left = λ x y z s h. record {
    at = h.at;
    after = λ i l. omega (arith, entries_same x y s i, h.after i l);
    here = omega (arith, entries_same x y s h.at, h.here);
  };
  along_right = λ x y z s h. record {
    at = h.at;
    after = λ i l. omega (arith, entries_same y z s i, h.after i l);
    here = omega (arith, entries_same y z s h.at, h.here);
  };
}
  where
    both : (x y z : Exponents) (h : IsRevlexBelow x y) (k : IsRevlexBelow y z) → (h.at < k.at) ⊎ (k.at ≤ h.at) → IsRevlexBelow x z
    both x y z h k (inl l) = record {
      at = k.at;
      after = λ i m. omega (arith, h.after i (omega arith), k.after i m);
      here = omega (arith, k.here, h.after k.at l);
    }
    both x y z h k (inr g) = elim (cases_lt k.at h.at) [
      | inl l ↦ record { at = h.at; after = λ i m. omega (arith, h.after i m, k.after i (omega arith)); here = omega (arith, h.here, k.after h.at l) }
      | inr m ↦ let e : h.at ≡ k.at = omega arith in record {
        at = h.at;
        after = λ i n. omega (arith, h.after i n, k.after i (omega arith));
        here = omega (arith, h.here, subst (λ (j : ℕ). entry z j < entry y j) (sym e) k.here);
      }
    ]

-- ---- lex is total
pub lex-later : (a b : ℕ) (x y : Exponents) → a ≡ b → IsLexBelow x y → IsLexBelow (a ∷ x) (b ∷ y)
lex-later a b x y e h = record { at = suc h.at; before = λ i l. early i l; here = h.here }
  where
    early : (i : ℕ) → i < suc h.at → entry (a ∷ x) i ≡ entry (b ∷ y) i
    early zero l = e
    early (suc i) l = h.before i (omega arith)

pub lex-first : (a b : ℕ) (x y : Exponents) → a < b → IsLexBelow (a ∷ x) (b ∷ y)
lex-first a b x y l = record { at = 0; before = λ i m. absurd (omega arith); here = l }

lex-pad_left : (y : Exponents) → IsLexBelow (0 ∷ []) y → IsLexBelow [] y
lex-pad_left y h = record { at = h.at; before = λ i l. omega (arith, h.before i l, zeros i); here = omega (arith, h.here, zeros h.at) }
  where
    zeros : (i : ℕ) → entry (0 ∷ []) i ≡ 0
    zeros zero = refl
    zeros (suc i) = refl

-- 1 is below each other monomial, by lex
pub first_zero : (y : Exponents) → IsLexBelow [] y ⊎ (same [] y ≡ true)
first_zero [] = inr refl
first_zero (suc b ∷ y) = inl (record { at = 0; before = λ i l. absurd (omega arith); here = omega arith })
first_zero (zero ∷ y) = elim (first_zero y) [
  | inl h ↦ inl (lex-pad_left (0 ∷ y) (lex-later 0 0 [] y refl h))
  | inr s ↦ inr s
]

pub lex-total : (x y : Exponents) → IsLexBelow x y ⊎ (same x y ≡ true) ⊎ IsLexBelow y x
lex-total [] y = elim (first_zero y) [ inl h ↦ inl h | inr s ↦ inr (inl s) ]
lex-total (a ∷ x) [] = elim (first_zero (a ∷ x)) [
  | inl h ↦ inr (inr h)
  | inr s ↦ inr (inl (same_by_entries (a ∷ x) [] (λ i. sym (entries_same [] (a ∷ x) s i))))
]
lex-total (a ∷ x) (b ∷ y) = at (cases_lt a b) (cases_lt b a) (lex-total x y)
  where
    at : (a < b) ⊎ (b ≤ a) → (b < a) ⊎ (a ≤ b) → IsLexBelow x y ⊎ (same x y ≡ true) ⊎ IsLexBelow y x →
        IsLexBelow (a ∷ x) (b ∷ y) ⊎ (same (a ∷ x) (b ∷ y) ≡ true) ⊎ IsLexBelow (b ∷ y) (a ∷ x)
    at (inl l) q r = inl (lex-first a b x y l)
    at (inr g) (inl l) r = inr (inr (lex-first b a y x l))
    at (inr g) (inr h) (inl l) = inl (lex-later a b x y (omega arith) l)
    at (inr g) (inr h) (inr (inl s)) = inr (inl (same_by_entries (a ∷ x) (b ∷ y) (λ i. entries i)))
      where
        entries : (i : ℕ) → entry (a ∷ x) i ≡ entry (b ∷ y) i
        entries zero = omega arith
        entries (suc i) = entries_same x y s i
    at (inr g) (inr h) (inr (inr l)) = inr (inr (lex-later b a y x (omega arith) l))

-- ---- revlex is total
revlex-below : (k : ℕ) (x y : Exponents) → ((i : ℕ) → k ≤ i → entry x i ≡ entry y i) → IsRevlexBelow x y ⊎ (same x y ≡ true) ⊎ IsRevlexBelow y x
revlex-below zero x y h = inr (inl (same_by_entries x y (λ i. h i (omega arith))))
revlex-below (suc k) x y h = at (cases_lt (entry x k) (entry y k)) (cases_lt (entry y k) (entry x k)) (λ g. revlex-below k x y g)
  where
    at : (entry x k < entry y k) ⊎ (entry y k ≤ entry x k) → (entry y k < entry x k) ⊎ (entry x k ≤ entry y k) →
        (((i : ℕ) → k ≤ i → entry x i ≡ entry y i) → IsRevlexBelow x y ⊎ (same x y ≡ true) ⊎ IsRevlexBelow y x) →
        IsRevlexBelow x y ⊎ (same x y ≡ true) ⊎ IsRevlexBelow y x
    at (inl l) q r = inr (inr (record { at = k; after = λ i m. sym (h i m); here = l }))
    at (inr g) (inl l) r = inl (record { at = k; after = λ i m. h i m; here = l })
    at (inr g) (inr j) r = r (λ i m. index i m (cases_lt k i))
      where
        index : (i : ℕ) → k ≤ i → (k < i) ⊎ (i ≤ k) → entry x i ≡ entry y i
        index i m (inl l) = h i l
        index i m (inr l) = let e : k ≡ i = omega arith in subst (λ (z : ℕ). entry x z ≡ entry y z) e (omega arith)

pub revlex-total : (x y : Exponents) → IsRevlexBelow x y ⊎ (same x y ≡ true) ⊎ IsRevlexBelow y x
revlex-total x y = revlex-below (max (length x) (length y)) x y (λ i l. entry-past x i (omega arith) ∙ sym (entry-past y i (omega arith)))

-- ---- the comparisons of code
pub lex-compares : (x y : Exponents) → length x ≡ length y → MatchOrdering (slice_cmp nat_cmp x y) (IsLexBelow x y) (x ≡ y) (IsLexBelow y x)
lex-compares [] [] l = refl
lex-compares [] (b ∷ y) l = absurd (omega arith)
lex-compares (a ∷ x) [] l = absurd (omega arith)
lex-compares (a ∷ x) (b ∷ y) l = at (nat_cmp a b) (ranked a b (nat_cmp a b) refl) (lex-compares x y (omega arith))
  where
    tail : (p : Ordering) → a ≡ b → MatchOrdering p (IsLexBelow x y) (x ≡ y) (IsLexBelow y x) →
        MatchOrdering p (IsLexBelow (a ∷ x) (b ∷ y)) ((a ∷ x) ≡ (b ∷ y)) (IsLexBelow (b ∷ y) (a ∷ x))
    tail Less e h = lex-later a b x y e h
    tail Equal e h = cc
    tail Greater e h = lex-later b a y x (sym e) h

    at : (o : Ordering) → MatchOrdering o (a < b) (a ≡ b) (b < a) → MatchOrdering (slice_cmp nat_cmp x y) (IsLexBelow x y) (x ≡ y) (IsLexBelow y x) →
        MatchOrdering (ordering_then o (slice_cmp nat_cmp x y)) (IsLexBelow (a ∷ x) (b ∷ y)) ((a ∷ x) ≡ (b ∷ y)) (IsLexBelow (b ∷ y) (a ∷ x))
    at Less r h = lex-first a b x y r
    at Equal r h = tail (slice_cmp nat_cmp x y) r h
    at Greater r h = lex-first b a y x r

pub deglex-compares : (x y : Exponents) → length x ≡ length y → MatchOrdering (deglex x y) (IsDeglexBelow x y) (x ≡ y) (IsDeglexBelow y x)
deglex-compares x y l = at (nat_cmp (degree x) (degree y)) (ranked (degree x) (degree y) (nat_cmp (degree x) (degree y)) refl) (lex-compares x y l)
  where
    tail : (p : Ordering) → degree x ≡ degree y → MatchOrdering p (IsLexBelow x y) (x ≡ y) (IsLexBelow y x) →
        MatchOrdering p (IsDeglexBelow x y) (x ≡ y) (IsDeglexBelow y x)
    tail Less e h = inr (e, h)
    tail Equal e h = h
    tail Greater e h = inr (sym e, h)

    at : (o : Ordering) → MatchOrdering o (degree x < degree y) (degree x ≡ degree y) (degree y < degree x) →
        MatchOrdering (slice_cmp nat_cmp x y) (IsLexBelow x y) (x ≡ y) (IsLexBelow y x) → MatchOrdering (ordering_then o (slice_cmp nat_cmp x y))
        (IsDeglexBelow x y) (x ≡ y) (IsDeglexBelow y x)
    at Less r h = inl r
    at Equal r h = tail (slice_cmp nat_cmp x y) r h
    at Greater r h = inl r

-- ---- first by a number, then by an order
-- the number is smaller, or equal and the order says so
abbrev pub IsFirstBy : (Exponents → ℕ) → (Exponents → Exponents → Type 0) → Exponents → Exponents → Type 0
IsFirstBy size below x y = (size x < size y) ⊎ ((size x ≡ size y) × below x y)

pub first-strict : (size : Exponents → ℕ) (below : Exponents → Exponents → Type 0) → ((x y : Exponents) → size (plus x y) ≡ size x + size y) →
    ((x y : Exponents) → same x y ≡ true → size x ≡ size y) → IsStrict below → IsStrict (IsFirstBy size below)
first-strict size below sum alike o = record { irreflexive = never; transitive = chain; invariant = shift; along_left = left; along_right = right }
  where
    never : (x y : Exponents) → same x y ≡ true → IsFirstBy size below x y → ⊥
    never x y s (inl l) = absurd (omega (arith, alike x y s))
    never x y s (inr h) = o.irreflexive x y s h.1

    chain : (x y z : Exponents) → IsFirstBy size below x y → IsFirstBy size below y z → IsFirstBy size below x z
    chain x y z (inl h) (inl k) = inl (omega arith)
    chain x y z (inl h) (inr k) = inl (omega (arith, k.0))
    chain x y z (inr h) (inl k) = inl (omega (arith, h.0))
    chain x y z (inr h) (inr k) = inr (h.0 ∙ k.0, o.transitive x y z h.1 k.1)

    shift : (z x y : Exponents) → IsFirstBy size below x y → IsFirstBy size below (plus z x) (plus z y)
    shift z x y (inl h) = inl (omega (arith, sum z x, sum z y))
    shift z x y (inr h) = inr (omega (arith, sum z x, sum z y, h.0), o.invariant z x y h.1)

    left : (x y z : Exponents) → same x y ≡ true → IsFirstBy size below x z → IsFirstBy size below y z
    left x y z s (inl h) = inl (omega (arith, alike x y s))
    left x y z s (inr h) = inr (omega (arith, alike x y s, h.0), o.along_left x y z s h.1)

    right : (x y z : Exponents) → same y z ≡ true → IsFirstBy size below x y → IsFirstBy size below x z
    right x y z s (inl h) = inl (omega (arith, alike y z s))
    right x y z s (inr h) = inr (omega (arith, alike y z s, h.0), o.along_right x y z s h.1)

pub first-total : (size : Exponents → ℕ) (below : Exponents → Exponents → Type 0) → ((x y : Exponents) → below x y ⊎ (same x y ≡ true) ⊎ below y x) →
    (x y : Exponents) → IsFirstBy size below x y ⊎ (same x y ≡ true) ⊎ IsFirstBy size below y x
first-total size below t x y = elim (cases_lt (size x) (size y)) [
  | inl l ↦ inl (inl l)
  | inr g ↦ elim (cases_lt (size y) (size x)) [
    | inl l ↦ inr (inr (inl l))
    | inr m ↦ at (omega arith) (t x y)
  ]
]
  where
    at : size x ≡ size y → below x y ⊎ (same x y ≡ true) ⊎ below y x → IsFirstBy size below x y ⊎ (same x y ≡ true) ⊎ IsFirstBy size below y x
    at e (inl h) = inl (inr (e, h))
    at e (inr (inl s)) = inr (inl s)
    at e (inr (inr h)) = inr (inr (inr (sym e, h)))

-- ---- the monomial orders
pub lex-order : IsMonomialOrder IsLexBelow
lex-order = record { strict = lex-strict; total = lex-total }

pub revlex-order : IsMonomialOrder IsRevlexBelow
revlex-order = record { strict = revlex-strict; total = revlex-total }

pub deglex-order : IsMonomialOrder IsDeglexBelow
deglex-order = record { strict = first-strict degree IsLexBelow degree-plus degree-same lex-strict; total = first-total degree IsLexBelow lex-total }

pub weighted-order : (w : List ℕ) → IsMonomialOrder (IsWeightedBelow w)
weighted-order w = record {
  strict = first-strict (weight w) IsLexBelow (weight-plus w) (weight-same w) lex-strict;
  total = first-total (weight w) IsLexBelow lex-total;
}

pub weighted_revlex-order : (w : List ℕ) → IsMonomialOrder (IsWeightedRevlexBelow w)
weighted_revlex-order w = record {
  strict = first-strict (weight w) IsRevlexBelow (weight-plus w) (weight-same w) revlex-strict;
  total = first-total (weight w) IsRevlexBelow revlex-total;
}
