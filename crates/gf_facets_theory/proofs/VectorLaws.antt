-- Vectors by their entries: multiples, negatives, sums with zeros.
-- To cite: three, IsNonzero, vectors_by_entries, minus_one, get-negated, length-negated, negated-twice, dot-negated,
-- times-zero, times-zeros, vector_or_not.
use Rattle.std.specs.Ordering.{int_cmp, MatchOrdering}
use Rattle.std.specs.declared.cmp.Ordering.{Ordering}
use Rattle.std.specs.declared.cmp.Ordering.TheVariants.{Less, Equal, Greater}
use Rattle.std.proofs.Common.{◌≡◌, ◌⊎◌, ℕ, zero, suc, List, [], ◌∷◌, length, get_or, ℤ, pos, negsuc, neg_ℤ, ◌*ℤ◌, ◌<ℤ◌, arith, refl, ap, ap₂, ◌∙◌, inl, inr}
use Rattle.std.proofs.Math.IntN.{*ℤ-zero}
use Rattle.std.proofs.lemmas.Cmp.{int_ranked}
use Rattle.std.proofs.lemmas.Int.{ints}
use Rattle.gf_int_theory.specs.Content.{scaled}
use Rattle.gf_vec.specs.Vector.{dot, zeros}
use Rattle.gf_vec.proofs.VectorLaws.{length-times, dot-times}
use Rattle.gf_vec.proofs.EntryLaws.{entry_times}
use Rattle.gf_facets_theory.specs.Rows.{negated}

-- of two whole numbers one is less, or they are equal
pub three : (a b : ℤ) → (a <ℤ b) ⊎ ((a ≡ b) ⊎ (b <ℤ a))
three a b = at (int_cmp a b) (int_ranked a b _ refl)
  where
    at : (o : Ordering) → MatchOrdering o (a <ℤ b) (a ≡ b) (b <ℤ a) → (a <ℤ b) ⊎ ((a ≡ b) ⊎ (b <ℤ a))
    at Less h = inl h
    at Equal h = inr (inl h)
    at Greater h = inr (inr h)

-- some entry isn't zero
abbrev pub IsNonzero : List ℤ → Type 0
IsNonzero a = (i : ℕ) × (get_or a i (pos 0) ≡ pos 0 → ⊥)

-- ---- entries

-- vectors of one length with the same entries are equal
pub vectors_by_entries : (xs ys : List ℤ) → length xs ≡ length ys →
    ((i : ℕ) → get_or xs i (pos 0) ≡ get_or ys i (pos 0)) → xs ≡ ys
vectors_by_entries [] [] e h = refl
vectors_by_entries [] (y ∷ ys) e h = absurd (omega arith)
vectors_by_entries (x ∷ xs) [] e h = absurd (omega arith)
vectors_by_entries (x ∷ xs) (y ∷ ys) e h = ap₂ ◌∷◌ (h 0) (vectors_by_entries xs ys (omega arith) (λ i. h (suc i)))

-- ---- negatives

pub minus_one : (x : ℤ) → negsuc 0 *ℤ x ≡ neg_ℤ x
minus_one x = omega (arith, ints)

-- the entries of the negatives
pub get-negated : (xs : List ℤ) (i : ℕ) → get_or (negated xs) i (pos 0) ≡ neg_ℤ (get_or xs i (pos 0))
get-negated xs i = entry_times (negsuc 0) xs i ∙ minus_one (get_or xs i (pos 0))

pub length-negated : (xs : List ℤ) → length (negated xs) ≡ length xs
length-negated xs = length-times (negsuc 0) xs

twice : (x : ℤ) → negsuc 0 *ℤ (negsuc 0 *ℤ x) ≡ x
twice x = omega (arith, ints)

-- the negatives of the negatives
pub negated-twice : (xs : List ℤ) → negated (negated xs) ≡ xs
negated-twice [] = refl
negated-twice (x ∷ xs) = ap₂ ◌∷◌ (twice x) (negated-twice xs)

-- what they give on a vector
pub dot-negated : (xs ys : List ℤ) → dot (negated xs) ys ≡ neg_ℤ (dot xs ys)
dot-negated xs ys = dot-times (negsuc 0) xs ys ∙ minus_one (dot xs ys)

-- ---- zeros

pub times-zero : (xs : List ℤ) (n : ℕ) → length xs ≡ n → scaled (pos 0) xs ≡ zeros n
times-zero [] zero e = refl
times-zero [] (suc n) e = absurd (omega arith)
times-zero (x ∷ xs) zero e = absurd (omega arith)
times-zero (x ∷ xs) (suc n) e = ap₂ ◌∷◌ (omega (arith, ints)) (times-zero xs n (omega arith))

pub times-zeros : (k : ℤ) (m : ℕ) → scaled k (zeros m) ≡ zeros m
times-zeros k zero = refl
times-zeros k (suc m) = ap₂ ◌∷◌ (*ℤ-zero k) (times-zeros k m)

-- ---- equality

-- whether two vectors are equal is decided
pub vector_or_not : (xs ys : List ℤ) → (xs ≡ ys) ⊎ (xs ≡ ys → ⊥)
vector_or_not [] [] = inl refl
vector_or_not [] (y ∷ ys) = inr (λ e. let l = ap (λ (z : List ℤ). length z) e in absurd (omega arith))
vector_or_not (x ∷ xs) [] = inr (λ e. let l = ap (λ (z : List ℤ). length z) e in absurd (omega arith))
vector_or_not (x ∷ xs) (y ∷ ys) = at (three x y) (vector_or_not xs ys)
  where
    first : (a b : ℤ) (us vs : List ℤ) → (a ∷ us) ≡ (b ∷ vs) → a ≡ b
    first a b us vs e = ap (λ (z : List ℤ). get_or z 0 a) e

    rest_of : List ℤ → List ℤ
    rest_of [] = []
    rest_of (z ∷ zs) = zs

    at : (x <ℤ y) ⊎ ((x ≡ y) ⊎ (y <ℤ x)) → (xs ≡ ys) ⊎ (xs ≡ ys → ⊥) → ((x ∷ xs) ≡ (y ∷ ys)) ⊎ ((x ∷ xs) ≡ (y ∷ ys) → ⊥)
    at (inl l) r = inr (λ e. absurd (omega (arith, ints, l, first x y xs ys e)))
    at (inr (inr l)) r = inr (λ e. absurd (omega (arith, ints, l, first x y xs ys e)))
    at (inr (inl e)) (inl f) = inl (ap₂ ◌∷◌ e f)
    at (inr (inl e)) (inr n) = inr (λ f. n (ap rest_of f))
