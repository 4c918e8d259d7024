-- Dot products on the right, of joined lists and with values; what dot products tell of vectors.
use Rattle.std.proofs.Common.{◌≡◌, zero, suc, List, [], ◌∷◌, ◌++◌, length, ℤ, pos, negsuc, ◌+ℤ◌, ◌*ℤ◌, ◌≤ℤ◌, arith, sym, refl, ap, ap₂, ◌∙◌}
use Rattle.std.specs.List.{AllByRecursion}
use Rattle.std.proofs.Math.IntN.{+ℤ_idl, +ℤ_assoc}
use Rattle.std.proofs.lemmas.Int.{ints}
use Rattle.gf_int_theory.specs.Content.{scaled}
use Rattle.gf_vec.specs.Vector.{dot, vector_sum, zeros, values}
use Rattle.gf_vec.proofs.VectorLaws.{dot_comm, dot-plus, dot-times}

-- a multiple on the right
pub dot-times_right : (k : ℤ) (xs ys : List ℤ) → dot xs (scaled k ys) ≡ k *ℤ dot xs ys
dot-times_right k xs ys = dot_comm xs (scaled k ys) ∙ dot-times k ys xs ∙ ap (λ z. k *ℤ z) (dot_comm ys xs)

-- a sum on the right
pub dot-plus_right : (xs ys zs : List ℤ) → length ys ≡ length zs → dot xs (vector_sum ys zs) ≡ dot xs ys +ℤ dot xs zs
dot-plus_right xs ys zs e = dot_comm xs (vector_sum ys zs) ∙ dot-plus ys zs xs e ∙ cc (dot_comm ys xs, dot_comm zs xs)

-- ---- joined lists and values

pub dot-append : (xs xs' ys ys' : List ℤ) → length xs ≡ length ys → dot (xs ++ xs') (ys ++ ys') ≡ dot xs ys +ℤ dot xs' ys'
dot-append [] xs' [] ys' e = sym (+ℤ_idl (dot xs' ys'))
dot-append [] xs' (y ∷ ys) ys' e = absurd (omega arith)
dot-append (x ∷ xs) xs' [] ys' e = absurd (omega arith)
dot-append (x ∷ xs) xs' (y ∷ ys) ys' e = ap (λ z. x *ℤ y +ℤ z) (dot-append xs xs' ys ys' (omega arith)) ∙ sym (+ℤ_assoc (x *ℤ y) (dot xs ys) (dot xs' ys'))

-- a list of zeros gives zero
pub dot_zero_row : (r u : List ℤ) → AllByRecursion (λ x. x ≡ pos 0) r → dot r u ≡ pos 0
dot_zero_row [] u z = refl
dot_zero_row (x ∷ r) [] z = refl
dot_zero_row (x ∷ r) (y ∷ u) z = rw (z.0, dot_zero_row r u z.1) (omega (arith, ints))

pub values-append : (rows more : List (List ℤ)) (u : List ℤ) → values (rows ++ more) u ≡ values rows u ++ values more u
values-append [] more u = refl
values-append (t ∷ ts) more u = ap (λ w. dot t u ∷ w) (values-append ts more u)

pub length-values : (rows : List (List ℤ)) (u : List ℤ) → length (values rows u) ≡ length rows
length-values [] u = refl
length-values (t ∷ ts) u = ap suc (length-values ts u)

-- ---- what dot products tell of a vector

head_lem : (x : ℤ) → x *ℤ pos 1 +ℤ pos 0 ≡ x
head_lem x = omega (arith, ints)

zero_lem : (x d : ℤ) → x *ℤ pos 0 +ℤ d ≡ d
zero_lem x d = omega (arith, ints)

dot_nil : (xs : List ℤ) → dot xs [] ≡ pos 0
dot_nil [] = refl
dot_nil (x ∷ xs) = refl

-- vectors of one length that give the same on every vector are one
pub vector_ext : (xs ys : List ℤ) → length xs ≡ length ys → ((u : List ℤ) → dot xs u ≡ dot ys u) → xs ≡ ys
vector_ext [] [] e h = refl
vector_ext [] (y ∷ ys) e h = absurd (omega arith)
vector_ext (x ∷ xs) [] e h = absurd (omega arith)
vector_ext (x ∷ xs) (y ∷ ys) e h =
    let a : x ≡ y = sym (ap (λ z. x *ℤ pos 1 +ℤ z) (dot_nil xs) ∙ head_lem x) ∙ h (pos 1 ∷ []) ∙ ap (λ z. y *ℤ pos 1 +ℤ z) (dot_nil ys) ∙ head_lem y in
    ap₂ ◌∷◌ a (vector_ext xs ys (omega arith) (λ u. sym (zero_lem x (dot xs u)) ∙ h (pos 0 ∷ u) ∙ zero_lem y (dot ys u)))

square_zero : (x d : ℤ) → pos 0 ≤ℤ d → x *ℤ x +ℤ d ≡ pos 0 → (x ≡ pos 0) × (d ≡ pos 0)
square_zero (pos zero) d h e = (refl, omega (arith, ints))
square_zero (pos (suc n)) d h e = absurd (omega (arith, ints))
square_zero (negsuc n) d h e = absurd (omega (arith, ints))

-- a vector gives no negative number on itself
pub own_not_negative : (xs : List ℤ) → pos 0 ≤ℤ dot xs xs
own_not_negative [] = omega (arith, ints)
own_not_negative (pos x ∷ xs) = let k : pos 0 ≤ℤ dot xs xs = own_not_negative xs in omega (arith, ints)
own_not_negative (negsuc x ∷ xs) = let k : pos 0 ≤ℤ dot xs xs = own_not_negative xs in omega (arith, ints)

-- and zero only where it is zero
pub own_zero : (xs : List ℤ) → dot xs xs ≡ pos 0 → xs ≡ zeros (length xs)
own_zero [] e = refl
own_zero (x ∷ xs) e = let s = square_zero x (dot xs xs) (own_not_negative xs) e in ap₂ ◌∷◌ s.0 (own_zero xs s.1)
