-- A dot product and its steps, one entry further.
use Rattle.std.proofs.Common.{◌≡◌, List, ◌∷◌, ℤ, pos, length, ℕ, ◌+◌, ◌<◌, get_or, drop, ◌+ℤ◌, ◌*ℤ◌, arith, refl, sym, ◌∙◌, ap, subst, inl, inr}
use Rattle.std.proofs.Math.IntN.{+ℤ_assoc}
use Rattle.std.proofs.lemmas.List.{drop_more}
use Rattle.gf_vec.specs.Vector.{dot}
use Rattle.gf_int_theory.specs.Range.{InRange}
use Rattle.gf_vec.specs.Steps.{NoneWide, IsWide, dot_steps, IsFirstWide}
use Rattle.gf_vec.specs.declared.error.VecOp.TheVariants.{Add, Mul}
use Rattle.gf_vec.specs.declared.error.WideVector.{WideVector}

-- what is left to add gives what the whole gives
pub record Kept (xs ys : List ℤ) (i : ℕ) (sum : ℤ) : Type 0 where
  pub range : InRange sum
  pub value : sum +ℤ dot (drop i xs) (drop i ys) ≡ dot xs ys
  pub none : NoneWide (dot_steps sum (drop i xs) (drop i ys)) → NoneWide (dot_steps (pos 0) xs ys)
  pub first : (e : WideVector) → IsFirstWide e (dot_steps sum (drop i xs) (drop i ys)) → IsFirstWide e (dot_steps (pos 0) xs ys)

pub split : (a : ℤ) (xs ys : List ℤ) (i : ℕ) → i < length xs → length xs ≡ length ys →
    dot_steps a (drop i xs) (drop i ys)
    ≡ record { op = Mul; left = get_or xs i (pos 0); right = get_or ys i (pos 0) }
    ∷ record { op = Add; left = a; right = get_or xs i (pos 0) *ℤ get_or ys i (pos 0) }
    ∷ dot_steps (a +ℤ get_or xs i (pos 0) *ℤ get_or ys i (pos 0)) (drop (i + 1) xs) (drop (i + 1) ys)
split a xs ys i h e = let k : i < length ys = omega arith in rw (drop_more xs i (pos 0), drop_more ys i (pos 0)) refl

pub split-dot : (xs ys : List ℤ) (i : ℕ) → i < length xs → length xs ≡ length ys →
    dot (drop i xs) (drop i ys) ≡ get_or xs i (pos 0) *ℤ get_or ys i (pos 0) +ℤ dot (drop (i + 1) xs) (drop (i + 1) ys)
split-dot xs ys i h e = let k : i < length ys = omega arith in rw (drop_more xs i (pos 0), drop_more ys i (pos 0)) refl

-- one entry further
pub Kept-more : (xs ys : List ℤ) (i : ℕ) (sum x y p next : ℤ) → i < length xs → length xs ≡ length ys →
    x ≡ get_or xs i (pos 0) → y ≡ get_or ys i (pos 0) → p ≡ x *ℤ y → InRange p → next ≡ sum +ℤ p → InRange next →
    Kept xs ys i sum → Kept xs ys (i + 1) next
Kept-more xs ys i sum x y p next h e ex ey ep fp en fn k =
    let x' = get_or xs i (pos 0) in
    let y' = get_or ys i (pos 0) in
    let pe : p ≡ x' *ℤ y' = cc in
    let ne : next ≡ sum +ℤ x' *ℤ y' = cc in
    let fp' : InRange (x' *ℤ y') = subst (λ z. InRange z) pe fp in
    let fn' : InRange (sum +ℤ x' *ℤ y') = subst (λ z. InRange z) ne fn in
    rw ne (record {
      range = fn';
      value = +ℤ_assoc sum (x' *ℤ y') (dot (drop (i + 1) xs) (drop (i + 1) ys)) ∙ ap (λ z. sum +ℤ z) (sym (split-dot xs ys i h e)) ∙ k.value;
      none = λ n. k.none (rw (split sum xs ys i h e) (fp', (fn', n)));
      first = λ w f. k.first w (rw (split sum xs ys i h e) (inr (fp', inr (fn', f))));
    })

pub Kept-mul : (xs ys : List ℤ) (i : ℕ) (sum x y : ℤ) (w : WideVector) → i < length xs → length xs ≡ length ys →
    x ≡ get_or xs i (pos 0) → y ≡ get_or ys i (pos 0) → w ≡ record { op = Mul; left = x; right = y } → IsWide w →
    Kept xs ys i sum → IsFirstWide w (dot_steps (pos 0) xs ys)
Kept-mul xs ys i sum x y w h e ex ey ew iw k =
    k.first w (rw (split sum xs ys i h e) (inl (rw (← ex, ← ey) (sym ew), iw)))

pub Kept-add : (xs ys : List ℤ) (i : ℕ) (sum x y p : ℤ) (w : WideVector) → i < length xs → length xs ≡ length ys →
    x ≡ get_or xs i (pos 0) → y ≡ get_or ys i (pos 0) → p ≡ x *ℤ y → InRange p → w ≡ record { op = Add; left = sum; right = p } → IsWide w →
    Kept xs ys i sum → IsFirstWide w (dot_steps (pos 0) xs ys)
Kept-add xs ys i sum x y p w h e ex ey ep fp ew iw k =
    let pe : p ≡ get_or xs i (pos 0) *ℤ get_or ys i (pos 0) = cc in
    let fp' : InRange (get_or xs i (pos 0) *ℤ get_or ys i (pos 0)) = subst (λ z. InRange z) pe fp in
    k.first w (rw (split sum xs ys i h e) (inr (fp', inl (rw (← pe) (sym ew), iw))))
