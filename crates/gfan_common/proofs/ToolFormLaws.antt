-- The form that the small tools, and those on cones, need fails in one way at most, and not where it holds.
-- To cite: variables_check, zero_check, room_check; space_check, each_check, each_joined, first_in_front, first_behind, first_at. The rest are steps.
use Rattle.std.specs.Prelude.{◌≡◌, ℕ, zero, suc, ◌-◌, ◌^◌, ◌<◌, ◌≤◌, min, List, [], ◌∷◌, ◌++◌, length, take, slice_index_or, Some, ℤ}
use Rattle.std.proofs.Common.{arith, sym, ap, ◌∙◌, subst, inl, inr}
use Rattle.std.proofs.lemmas.List.Elements.{All-head, All-tail}
use Rattle.gf_gordan.specs.Alternative.{AreRows}
use Rattle.gf_text.specs.declared.TheConstants.{MOST_VARIABLES}
use Rattle.gf_text.specs.declared.written.Written.{Written}
use Rattle.gf_text.specs.Sets.{IsFirstZero}
use Rattle.gf_front.specs.declared.refusal.Refusal.{Refusal}
use Rattle.gf_front.specs.declared.refusal.Refusal.TheVariants as refusals
use Rattle.gf_items.specs.Refusals.{IsExactRefusal}
use Rattle.gf_items.specs.Checks.{AllHold, FirstFails}
use Rattle.gf_items.proofs.CheckLaws.{IsCheckedOnce, AreCheckedOnce}
use Rattle.gf_items.proofs.ItemLaws.{no_zero, first_zero}
use Rattle.gfan_common.specs.Forms.{IsLengthRefusal}
use Rattle.gfan_common.specs.ToolForms.{for_variables, for_each, IsSpaceRefusal, for_space, HasNoZero, IsZeroRefusal, without_zero, IsRoomRefusal, for_one_more}
use Rattle.gfan_common.proofs.FormLaws.{length_check}

pub variables_check : (n : ℕ) (vector : List ℤ) → IsCheckedOnce (for_variables n vector)
variables_check n vector = length_check n (Some vector)

-- ---- zero polynomials

zero_place : (ws : List Written) (i j : ℕ) → IsFirstZero ws i → IsFirstZero ws j → j ≡ i
zero_place ws i j h k =
    k.place ∙ ap (λ n. min n (2 ^ 32 - 1)) (first_zero k.front h.front k.back h.back (sym k.whole ∙ h.whole)) ∙ sym h.place

pub zero_check : (ws : List Written) → IsCheckedOnce (without_zero ws)
zero_check ws = record { once = once; apart = apart; kind = kind }
  where
    once : (r d : Refusal) → IsZeroRefusal ws r → IsZeroRefusal ws d → d ≡ r
    once (refusals.ZeroPolynomial s i) (refusals.ZeroPolynomial t j) h k =
        ap (λ z. refusals.ZeroPolynomial z j) (k.0 ∙ sym h.0) ∙ ap (λ z. refusals.ZeroPolynomial s z) (zero_place ws i j h.1 k.1)
    once (refusals.ZeroPolynomial s i) _ h k = absurd k
    once _ d h k = absurd h

    apart : (r : Refusal) → HasNoZero ws → IsZeroRefusal ws r → ⊥
    apart (refusals.ZeroPolynomial s i) a h = no_zero a.0 h.1.front h.1.back (sym a.1 ∙ h.1.whole)
    apart _ a h = h

    kind : (r : Refusal) → IsZeroRefusal ws r → IsExactRefusal r
    kind (refusals.ZeroPolynomial s i) h = inr tt
    kind _ h = absurd h

-- ---- one variable more

pub room_check : (n : ℕ) → IsCheckedOnce (for_one_more n)
room_check n = record { once = once; apart = apart; kind = kind }
  where
    once : (r d : Refusal) → IsRoomRefusal n r → IsRoomRefusal n d → d ≡ r
    once (refusals.TooManyVariables a) (refusals.TooManyVariables b) h k = ap (λ z. refusals.TooManyVariables z) (k.0 ∙ sym h.0)
    once (refusals.TooManyVariables a) _ h k = absurd k
    once _ d h k = absurd h

    apart : (r : Refusal) → n < MOST_VARIABLES → IsRoomRefusal n r → ⊥
    apart (refusals.TooManyVariables a) l h = omega arith
    apart _ l h = h

    kind : (r : Refusal) → IsRoomRefusal n r → IsExactRefusal r
    kind (refusals.TooManyVariables a) h = inl tt
    kind _ h = absurd h

-- ---- a space has a dimension

pub space_check : (n : ℕ) → IsCheckedOnce (for_space n)
space_check n = record { once = once; apart = apart; kind = kind }
  where
    once : (r d : Refusal) → IsSpaceRefusal n r → IsSpaceRefusal n d → d ≡ r
    once (refusals.Dimensions l m) (refusals.Dimensions i j) h k =
        ap (λ z. refusals.Dimensions z j) (k.0 ∙ sym h.0) ∙ ap (λ z. refusals.Dimensions l z) (k.1 ∙ sym h.1)
    once (refusals.Dimensions l m) _ h k = absurd k
    once _ d h k = absurd h

    apart : (r : Refusal) → 1 ≤ n → IsSpaceRefusal n r → ⊥
    apart (refusals.Dimensions l m) s h = omega (arith, h.2)
    apart _ s h = h

    kind : (r : Refusal) → IsSpaceRefusal n r → IsExactRefusal r
    kind (refusals.Dimensions l m) h = inr tt
    kind _ h = absurd h

-- ---- several vectors

pub each_check : (n : ℕ) (vectors : List (List ℤ)) → AreCheckedOnce (for_each n vectors)
each_check n [] = tt
each_check n (w ∷ ws) = (variables_check n w, each_check n ws)

-- all fit
pub each_joined : (n : ℕ) (front back : List (List ℤ)) → AreRows n front → AreRows n back → AllHold (for_each n (front ++ back))
each_joined n [] [] f b = tt
each_joined n [] (w ∷ ws) f b = (All-head (λ t. length t ≡ n) w ws b, each_joined n [] ws f (All-tail (λ t. length t ≡ n) w ws b))
each_joined n (w ∷ ws) back f b = (All-head (λ t. length t ≡ n) w ws f, each_joined n ws back (All-tail (λ t. length t ≡ n) w ws f) b)

-- the first that doesn't is in the front, or behind it
pub first_in_front : (n : ℕ) (front back : List (List ℤ)) (r : Refusal) → FirstFails (for_each n front) r → FirstFails (for_each n (front ++ back)) r
first_in_front n [] back r h = absurd h
first_in_front n (w ∷ ws) back r (inl h) = inl h
first_in_front n (w ∷ ws) back r (inr h) = inr (h.0, first_in_front n ws back r h.1)

pub first_behind : (n : ℕ) (front back : List (List ℤ)) (r : Refusal) → AreRows n front → FirstFails (for_each n back) r →
    FirstFails (for_each n (front ++ back)) r
first_behind n [] back r f h = h
first_behind n (w ∷ ws) back r f h = inr (All-head (λ t. length t ≡ n) w ws f, first_behind n ws back r (All-tail (λ t. length t ≡ n) w ws f) h)

-- or at a place
pub first_at : (n : ℕ) (ws : List (List ℤ)) (i : ℕ) (w : List ℤ) (r : Refusal) → i < length ws → w ≡ slice_index_or ws i w → AreRows n (take i ws) →
    IsLengthRefusal n (Some w) r → FirstFails (for_each n ws) r
first_at n [] i w r l e f h = absurd (omega (arith, l))
first_at n (v ∷ ws) zero w r l e f h = inl (subst (λ z. IsLengthRefusal n (Some z) r) e h)
first_at n (v ∷ ws) (suc i) w r l e f h =
    inr (All-head (λ t. length t ≡ n) v (take i ws) f, first_at n ws i w r (omega (arith, l)) e (All-tail (λ t. length t ≡ n) v (take i ws) f) h)
