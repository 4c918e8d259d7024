-- A vector divided by its content: which it is, how long, and how wide.
use Rattle.std.proofs.Common.{◌≡◌, ℕ, zero, suc, ◌<◌, List, [], ◌∷◌, length, ℤ, pos, unsigned_abs, get_or, arith, All, Any, inl, subst}
use Rattle.std.specs.Int.{◌∣◌}
use Rattle.std.proofs.Math.Nat.{eq-one_of_dvd-one}
use Rattle.std.proofs.lemmas.Int.{ints}
use Rattle.std.proofs.lemmas.List.Elements.{All-from_recursion, recursion_from_All}
use Rattle.gf_int_theory.specs.Range.{InRange}
use Rattle.gf_int_theory.specs.Content.{DividesAll, IsContent, quotients}
use Rattle.gf_int_theory.proofs.ContentLaws.{IsContent-one, times-quotients, times-one, quotients-InRange}
use Rattle.gf_vec.specs.Primitive.{IsDivided}

-- division by 1 changes nothing
pub IsDivided-one : (xs : List ℤ) → IsContent xs 1 → IsDivided xs (pos 1) xs
IsDivided-one xs h = record { positive = omega (arith, ints); content = h; multiple = times-one xs }

pub IsDivided-quotients : (xs : List ℤ) (c : ℕ) → IsContent xs c → IsDivided xs (pos c) (quotients (pos c) xs)
IsDivided-quotients xs c h = record { positive = omega (arith, ints, h.positive); content = h; multiple = times-quotients c xs h.divides }

pub range-quotients : (xs : List ℤ) (c : ℕ) → All InRange xs → All InRange (quotients (pos c) xs)
range-quotients xs c h = All-from_recursion InRange _ (quotients-InRange c xs (recursion_from_All InRange xs h))

divides_at : (d : ℕ) (xs : List ℤ) (k : ℕ) (x : ℤ) → k < length xs → get_or xs k x ≡ x → DividesAll d xs → d ∣ unsigned_abs x
divides_at d [] k x h e a = absurd (omega arith)
divides_at d (y ∷ xs) zero x h e a = subst (λ z. d ∣ unsigned_abs z) e a.0
divides_at d (y ∷ xs) (suc k) x h e a = divides_at d xs k x (omega arith) e a.1

-- where an entry is 1 or -1 the content is 1
pub IsContent-unit : (xs : List ℤ) → Any (λ x. unsigned_abs x ≡ 1) xs → IsContent xs 1
IsContent-unit xs (k, x, h, e, one) = IsContent-one xs (λ d a. inl (eq-one_of_dvd-one (subst (λ n. d ∣ n) one (divides_at d xs k x h e a))))
