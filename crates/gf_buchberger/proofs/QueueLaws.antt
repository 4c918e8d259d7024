-- The pair that comes first: the top of a heap in which pairs compare the other way round.
use Rattle.std.specs.Prelude.{◌≡◌, ◌⊎◌, false, List, [], ◌∷◌, map, Contains}
use Rattle.std.proofs.Common.{arith, subst, inl, inr}
use Rattle.std.specs.Ordering.{is_lt}
use Rattle.std.specs.BinaryHeap.{IsUpperBound}
use Rattle.gf_ideal_theory.proofs.ListLaws.{Contains-cases}
use Rattle.gf_buchberger.specs.declared.queue.Waiting.{Waiting}
use Rattle.gf_buchberger.specs.Keys.{waiting_order, IsFirst}

pub first_of_bound : {A : Type 0} (pair_of : A → Waiting) (top : A) (xs : List A) →
    IsUpperBound (λ x y. waiting_order (pair_of y) (pair_of x)) top xs → IsFirst (map pair_of xs) (pair_of top)
first_of_bound pair_of top [] h w c = absurd (omega (arith, c.1))
first_of_bound pair_of top (x ∷ xs) h w c = at (Contains-cases (pair_of x) w (map pair_of xs) c) (λ k. first_of_bound pair_of top xs h.1 w k)
  where
    at : (pair_of x ≡ w) ⊎ Contains (map pair_of xs) w → (Contains (map pair_of xs) w → is_lt (waiting_order w (pair_of top)) ≡ false) →
        is_lt (waiting_order w (pair_of top)) ≡ false
    at (inl e) r = subst (λ (z : Waiting). is_lt (waiting_order z (pair_of top)) ≡ false) e h.0
    at (inr k) r = r k
