-- A sum of two vectors in place, one entry further.
use Rattle.std.proofs.Common.{◌≡◌, ℕ, ◌+◌, ◌<◌, ◌≤◌, List, [], ◌∷◌, ◌++◌, length, ℤ, pos, ◌+ℤ◌, arith, sym, refl, ap, ◌∙◌, take, drop, get_or, set, inl, inr}
use Rattle.std.proofs.Common.{append_assoc, subst, negsuc, ◌*ℤ◌, map, All}
use Rattle.std.proofs.lemmas.List.{take_more, drop_more, length-take, get_or_at, set_at, take_all, append-nil, drop_all, length-map}
use Rattle.std.specs.List.{AllByRecursion}
use Rattle.std.proofs.lemmas.Int.{unsigned_abs-mul}
use Rattle.std.proofs.lemmas.List.Elements.{All-from_recursion, recursion_from_All}
use Rattle.gf_int_theory.specs.Range.{InRange}
use Rattle.gf_vec.specs.Vector.{vector_sum}
use Rattle.gf_vec.specs.Steps.{NoneWide, IsWide, sum_steps, IsFirstWide}
use Rattle.gf_vec.specs.declared.error.VecOp.TheVariants.{Add}
use Rattle.gf_vec.specs.declared.error.WideVector.{WideVector}
use Rattle.gf_vec.proofs.VectorLaws.{length-plus}

-- the entries before i are sums, and what is left gives what the whole gives
pub record Summed (xs ys now : List ℤ) (i : ℕ) : Type 0 where
  pub items : now ≡ vector_sum (take i xs) (take i ys) ++ drop i xs
  pub range : AllByRecursion InRange (vector_sum (take i xs) (take i ys))
  pub none : NoneWide (sum_steps (drop i xs) (drop i ys)) → NoneWide (sum_steps xs ys)
  pub first : (e : WideVector) → IsFirstWide e (sum_steps (drop i xs) (drop i ys)) → IsFirstWide e (sum_steps xs ys)

plus-push : (xs ys : List ℤ) (x y : ℤ) → length xs ≡ length ys → vector_sum (xs ++ x ∷ []) (ys ++ y ∷ []) ≡ vector_sum xs ys ++ (x +ℤ y) ∷ []
plus-push [] [] x y e = refl
plus-push [] (z ∷ ys) x y e = absurd (omega arith)
plus-push (z ∷ xs) [] x y e = absurd (omega arith)
plus-push (z ∷ xs) (w ∷ ys) x y e = ap (λ l. (z +ℤ w) ∷ l) (plus-push xs ys x y (omega arith))

pub all_push : (xs : List ℤ) (x : ℤ) → AllByRecursion InRange xs → InRange x → AllByRecursion InRange (xs ++ x ∷ [])
all_push [] x h k = (k, tt)
all_push (y ∷ xs) x h k = (h.0, all_push xs x h.1 k)

front_len : (xs ys : List ℤ) (i : ℕ) → i < length xs → length xs ≡ length ys → length (vector_sum (take i xs) (take i ys)) ≡ i
front_len xs ys i h e = length-plus (take i xs) (take i ys) (omega (arith, length-take i xs, length-take i ys)) ∙ omega (arith, length-take i xs)

split : (xs ys : List ℤ) (i : ℕ) → i < length xs → length xs ≡ length ys → sum_steps (drop i xs) (drop i ys) ≡ record {
  op = Add;
  left = get_or xs i (pos 0);
  right = get_or ys i (pos 0);
} ∷ sum_steps (drop (i + 1) xs) (drop (i + 1) ys)
split xs ys i h e = let k : i < length ys = omega arith in rw (drop_more xs i (pos 0), drop_more ys i (pos 0)) refl

-- the entry at i is as it was
pub Summed-entry : (xs ys now : List ℤ) (i : ℕ) → i < length xs → length xs ≡ length ys → Summed xs ys now i → get_or now i (pos 0) ≡ get_or xs i (pos 0)
Summed-entry xs ys now i h e s =
    ap (λ l. get_or l i (pos 0)) (s.items ∙ ap (λ l. vector_sum (take i xs) (take i ys) ++ l) (drop_more xs i (pos 0) h))
    ∙ get_or_at (vector_sum (take i xs) (take i ys)) (get_or xs i (pos 0)) (drop (i + 1) xs) (pos 0) i (front_len xs ys i h e)

pub Summed-more : (xs ys now next : List ℤ) (i : ℕ) (z : ℤ) → i < length xs → length xs ≡ length ys →
    z ≡ get_or xs i (pos 0) +ℤ get_or ys i (pos 0) → InRange z → next ≡ set now i z → Summed xs ys now i → Summed xs ys next (i + 1)
Summed-more xs ys now next i z h e ez fz en s =
    let k : i < length ys = omega arith in
    let front = vector_sum (take i xs) (take i ys) in
    let more : vector_sum (take (i + 1) xs) (take (i + 1) ys) ≡ front ++ z ∷ [] =
    rw (take_more xs i (pos 0) h, take_more ys i (pos 0) k, ez) (plus-push (take i xs) (take i ys) _ _ (omega (arith, length-take i xs, length-take i ys))) in
    let fits : InRange (get_or xs i (pos 0) +ℤ get_or ys i (pos 0)) = subst (λ w. InRange w) ez fz in
    record {
      items = en ∙ ap (λ l. set l i z) (s.items ∙ ap (λ l. front ++ l) (drop_more xs i (pos 0) h)) ∙ set_at front (get_or xs i (pos 0)) (drop (i + 1) xs) z i
          (front_len xs ys i h e)
          ∙ sym (append_assoc front (z ∷ []) (drop (i + 1) xs)) ∙ ap (λ l. l ++ drop (i + 1) xs) (sym more);
      range = subst (AllByRecursion InRange) (sym more) (all_push front z s.range fz);
      none = λ n. s.none (rw (split xs ys i h e) (fits, n));
      first = λ w f. s.first w (rw (split xs ys i h e) (inr (fits, f)));
    }

pub Summed-wide : (xs ys now : List ℤ) (i : ℕ) (x y : ℤ) (w : WideVector) → i < length xs → length xs ≡ length ys → x ≡ get_or xs i (pos 0) →
    y ≡ get_or ys i (pos 0) → w ≡ record { op = Add; left = x; right = y } → IsWide w → Summed xs ys now i → IsFirstWide w (sum_steps xs ys)
Summed-wide xs ys now i x y w h e ex ey ew iw s = s.first w (rw (split xs ys i h e) (inl (rw (← ex, ← ey) (sym ew), iw)))

negative_range : (x : ℤ) → InRange x → InRange (negsuc 0 *ℤ x)
negative_range x h = record { within = omega (arith, unsigned_abs-mul (negsuc 0) x, h.within) }

negatives_range : (xs : List ℤ) → AllByRecursion InRange xs → AllByRecursion InRange (map (λ x. negsuc 0 *ℤ x) xs)
negatives_range [] h = tt
negatives_range (x ∷ xs) h = (negative_range x h.0, negatives_range xs h.1)

pub negated_all : (xs now : List ℤ) (i : ℕ) → length xs ≤ i → now ≡ map (λ x. negsuc 0 *ℤ x) (take i xs) ++ drop i xs → All InRange xs → All InRange now
negated_all xs now i h e r =
    let d : drop i xs ≡ [] = drop_all i xs h in
    subst (All InRange) (sym (e ∙ ap (λ l. map (λ x. negsuc 0 *ℤ x) (take i xs) ++ l) d ∙ append-nil _ ∙ ap (λ l. map (λ x. negsuc 0 *ℤ x) l)
    (take_all i xs h))) (All-from_recursion InRange _ (negatives_range xs (recursion_from_All InRange xs r)))

-- the entry at i is not turned yet
pub negated_entry : (xs now : List ℤ) (i : ℕ) → i < length xs → now ≡ map (λ x. negsuc 0 *ℤ x) (take i xs) ++ drop i xs →
    get_or now i (pos 0) ≡ get_or xs i (pos 0)
negated_entry xs now i h e =
    ap (λ l. get_or l i (pos 0)) (e ∙ ap (λ l. map (λ x. negsuc 0 *ℤ x) (take i xs) ++ l) (drop_more xs i (pos 0) h))
    ∙ get_or_at (map (λ x. negsuc 0 *ℤ x) (take i xs)) (get_or xs i (pos 0)) (drop (i + 1) xs) (pos 0) i
    (omega (arith, length-map (take i xs) (λ x. negsuc 0 *ℤ x), length-take i xs))
