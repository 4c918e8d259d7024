-- What a vector shows, looking at one normal after another: all are positive on it but one, on which it is zero.
-- To cite: IsSeen, seen_next.
use Rattle.std.proofs.Common.{◌≡◌, ◌⊎◌, below_more, ℕ, ◌<◌, List, [], length, get_or, ℤ, pos, ◌+◌, ◌<ℤ◌, arith, sym, ap, ◌∙◌, subst, inl, inr}
use Rattle.std.specs.Prelude.{Option, Some, None, IfSome}
use Rattle.std.proofs.lemmas.List.{get_or_default}
use Rattle.gf_vec.specs.Vector.{dot}
use Rattle.gf_cone.specs.Crossing.{IsShownBy}

-- all vectors before k but that at z are seen to be positive, and that is zero; z is before k, or the number of all vectors
abbrev pub IsSeen : List (List ℤ) → List ℤ → ℕ → ℕ → Type 0
IsSeen vectors w k z = (z ≡ length vectors ⊎ z < k) × ((j : ℕ) → j < k → IsShownBy vectors z w j)

pub seen_next : (vectors : List (List ℤ)) (w v : List ℤ) (none k : ℕ) (value : ℤ) (old new : Option ℕ) → none ≡ length vectors →
    k < length vectors → v ≡ get_or vectors k v → value ≡ dot v w →
    IfSome new (λ z. (old ≡ Some z × pos 0 <ℤ value) ⊎ (old ≡ Some none × z ≡ k × value ≡ pos 0)) → IfSome old (IsSeen vectors w k) →
    IfSome new (IsSeen vectors w (k + 1))
seen_next vectors w v none k value old None m l e d h s = h
seen_next vectors w v none k value old (Some z) m l e d (inl h) s =
    let t : IsSeen vectors w k z = subst (λ (o : Option ℕ). IfSome o (IsSeen vectors w k)) h.0 s in (
      later t.0,
      below_more (IsShownBy vectors z w) k t.1 (record {
        zero = λ q. absurd (apart_from t.0 q);
        positive = λ n. subst (λ (x : ℤ). pos 0 <ℤ x) (d ∙ ap (λ (u : List ℤ). dot u w) (e ∙ get_or_default vectors k v [] l)) h.1;
      }),
    )
  where
    later : z ≡ length vectors ⊎ z < k → z ≡ length vectors ⊎ z < k + 1
    later (inl q) = inl q
    later (inr q) = inr (omega (arith, q))

    apart_from : z ≡ length vectors ⊎ z < k → k ≡ z → ⊥
    apart_from (inl q) r = omega (arith, q, r, l)
    apart_from (inr q) r = omega (arith, q, r)
seen_next vectors w v none k value old (Some z) m l e d (inr h) s =
    let t : IsSeen vectors w k none = subst (λ (o : Option ℕ). IfSome o (IsSeen vectors w k)) h.0 s in (
      inr (omega (arith, h.1)),
      below_more (IsShownBy vectors z w) k
          (λ j i. record {
            zero = λ q. absurd (omega (arith, i, q, h.1));
            positive = λ n. (t.1 j i).positive (λ q. omega (arith, q, m, l, i));
          }) (record {
            zero = λ q. subst (λ (x : ℤ). x ≡ pos 0) (d ∙ ap (λ (u : List ℤ). dot u w) (e ∙ get_or_default vectors k v [] l)) h.2;
            positive = λ n. absurd (n (sym h.1));
          }),
    )
