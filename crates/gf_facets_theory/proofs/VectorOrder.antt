-- The order of vectors is strict and total, and is what a program compares by.
-- To cite: before_strict, vectors_compare.
use Rattle.std.specs.Ordering.{int_cmp, ordering_then, MatchOrdering}
use Rattle.std.specs.Cmp.Lexicographic.{slice_cmp}
use Rattle.std.specs.declared.cmp.Ordering.{Ordering}
use Rattle.std.specs.declared.cmp.Ordering.TheVariants.{Less, Equal, Greater}
use Rattle.std.proofs.Common.{◌≡◌, List, [], ◌∷◌, ℤ, ◌<ℤ◌, arith, refl, sym, ap₂, inl, inr}
use Rattle.std.proofs.lemmas.Int.{ints}
use Rattle.std.proofs.lemmas.Cmp.{int_ranked}
use Rattle.gf_reverse_search.specs.Path.{IsStrictOrder}
use Rattle.gf_reverse_search.proofs.ListLaws.{precedes_itself, precedes_trans}
use Rattle.gf_reverse_search.proofs.FinitenessLaws.{precedes_total}
use Rattle.gf_facets_theory.specs.LexPositive.{IsBefore}
use Rattle.gf_facets_theory.proofs.VectorLaws.{three}

-- ---- a strict total order

integers_strict : IsStrictOrder {L = ℤ} ◌<ℤ◌
integers_strict = record { irreflexive = λ a h. absurd (omega (arith, ints, h)); transitive = λ a b c h k. omega (arith, ints, h, k); total = three }

pub before_strict : IsStrictOrder IsBefore
before_strict = record {
  irreflexive = precedes_itself ◌<ℤ◌ integers_strict;
  transitive = precedes_trans ◌<ℤ◌ integers_strict;
  total = precedes_total ◌<ℤ◌ integers_strict;
}

-- ---- as a program compares

pub vectors_compare : (a b : List ℤ) → MatchOrdering (slice_cmp int_cmp a b) (IsBefore a b) (a ≡ b) (IsBefore b a)
vectors_compare [] [] = refl
vectors_compare [] (y ∷ b) = tt
vectors_compare (x ∷ a) [] = tt
vectors_compare (x ∷ a) (y ∷ b) = at (int_cmp x y) (int_ranked x y (int_cmp x y) refl) (vectors_compare a b)
  where
    tail : (p : Ordering) → x ≡ y → MatchOrdering p (IsBefore a b) (a ≡ b) (IsBefore b a) →
        MatchOrdering p (IsBefore (x ∷ a) (y ∷ b)) ((x ∷ a) ≡ (y ∷ b)) (IsBefore (y ∷ b) (x ∷ a))
    tail Less e h = inr (e, h)
    tail Equal e h = ap₂ ◌∷◌ e h
    tail Greater e h = inr (sym e, h)

    at : (o : Ordering) → MatchOrdering o (x <ℤ y) (x ≡ y) (y <ℤ x) → MatchOrdering (slice_cmp int_cmp a b) (IsBefore a b) (a ≡ b) (IsBefore b a) →
        MatchOrdering (ordering_then o (slice_cmp int_cmp a b)) (IsBefore (x ∷ a) (y ∷ b)) ((x ∷ a) ≡ (y ∷ b)) (IsBefore (y ∷ b) (x ∷ a))
    at Less m h = inl m
    at Equal m h = tail (slice_cmp int_cmp a b) m h
    at Greater m h = inl m
