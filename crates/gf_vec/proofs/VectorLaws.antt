-- Dot products, sums and multiples of whole vectors.
use Rattle.std.proofs.Common.{◌≡◌, ℕ, zero, suc, List, [], ◌∷◌, length, ℤ, pos, ◌+ℤ◌, ◌*ℤ◌, ◌<ℤ◌, ◌≤ℤ◌, arith, sym, refl, ap, ap₂, ◌∙◌, inl, inr}
use Rattle.std.proofs.lemmas.Int.{ints}
use Rattle.std.proofs.Math.IntN.{*ℤ_comm, *ℤ-zero, +ℤ_assoc}
use Rattle.std.specs.List.{AllByRecursion}
use Rattle.gf_vec.specs.Vector.{dot, vector_sum, zeros, combined, values, SomePositive}
use Rattle.gf_int_theory.specs.Content.{scaled}
use Rattle.gf_int_theory.proofs.RingLaws.{same, ◌⊗◌, ◌⊕◌, dv}
use Rattle.gf_int_theory.proofs.SignLaws.{0≤-*ℤ, 0<-*ℤ}

pub dot_comm : (xs ys : List ℤ) → dot xs ys ≡ dot ys xs
dot_comm [] [] = refl
dot_comm [] (y ∷ ys) = refl
dot_comm (x ∷ xs) [] = refl
dot_comm (x ∷ xs) (y ∷ ys) = cc (*ℤ_comm x y, dot_comm xs ys)

plus_step : (x y z a b : ℤ) → (x +ℤ y) *ℤ z +ℤ (a +ℤ b) ≡ x *ℤ z +ℤ a +ℤ (y *ℤ z +ℤ b)
plus_step x y z a b = same ((dv x ⊕ dv y) ⊗ dv z ⊕ (dv a ⊕ dv b)) (dv x ⊗ dv z ⊕ dv a ⊕ (dv y ⊗ dv z ⊕ dv b)) (omega arith)

pub times_step : (k x y a : ℤ) → k *ℤ x *ℤ y +ℤ k *ℤ a ≡ k *ℤ (x *ℤ y +ℤ a)
times_step k x y a = same (dv k ⊗ dv x ⊗ dv y ⊕ dv k ⊗ dv a) (dv k ⊗ (dv x ⊗ dv y ⊕ dv a)) (omega arith)

pub dot-plus : (xs ys zs : List ℤ) → length xs ≡ length ys → dot (vector_sum xs ys) zs ≡ dot xs zs +ℤ dot ys zs
dot-plus [] [] zs e = refl
dot-plus [] (y ∷ ys) zs e = absurd (omega arith)
dot-plus (x ∷ xs) [] zs e = absurd (omega arith)
dot-plus (x ∷ xs) (y ∷ ys) [] e = refl
dot-plus (x ∷ xs) (y ∷ ys) (z ∷ zs) e = ap (λ n. (x +ℤ y) *ℤ z +ℤ n) (dot-plus xs ys zs (omega arith)) ∙ plus_step x y z (dot xs zs) (dot ys zs)

pub dot-times : (k : ℤ) (xs ys : List ℤ) → dot (scaled k xs) ys ≡ k *ℤ dot xs ys
dot-times k [] ys = sym (*ℤ-zero k)
dot-times k (x ∷ xs) [] = sym (*ℤ-zero k)
dot-times k (x ∷ xs) (y ∷ ys) = ap (λ n. k *ℤ x *ℤ y +ℤ n) (dot-times k xs ys) ∙ times_step k x y (dot xs ys)

pub dot-zeros : (n : ℕ) (xs : List ℤ) → dot (zeros n) xs ≡ pos 0
dot-zeros zero xs = refl
dot-zeros (suc n) [] = refl
dot-zeros (suc n) (x ∷ xs) = ap (λ z. pos 0 *ℤ x +ℤ z) (dot-zeros n xs) ∙ omega (arith, ints)

pub length-times : (k : ℤ) (xs : List ℤ) → length (scaled k xs) ≡ length xs
length-times k [] = refl
length-times k (x ∷ xs) = ap suc (length-times k xs)

pub length-plus : (xs ys : List ℤ) → length xs ≡ length ys → length (vector_sum xs ys) ≡ length xs
length-plus [] ys e = refl
length-plus (x ∷ xs) [] e = absurd (omega arith)
length-plus (x ∷ xs) (y ∷ ys) e = ap suc (length-plus xs ys (omega arith))

pub length-zeros : (n : ℕ) → length (zeros n) ≡ n
length-zeros zero = refl
length-zeros (suc n) = ap suc (length-zeros n)

pub length-combined : (n : ℕ) (ms : List ℤ) (rows : List (List ℤ)) → AllByRecursion (λ t. length t ≡ n) rows → length (combined n ms rows) ≡ n
length-combined n [] rows w = length-zeros n
length-combined n (m ∷ ms) [] w = length-zeros n
length-combined n (m ∷ ms) (t ∷ ts) w =
    length-plus (scaled m t) (combined n ms ts) (length-times m t ∙ w.0 ∙ sym (length-combined n ms ts w.1)) ∙ length-times m t ∙ w.0

-- what a combination gives on a vector is the combination of what the rows give
pub dot-combined : (n : ℕ) (ms : List ℤ) (rows : List (List ℤ)) (v : List ℤ) → AllByRecursion (λ t. length t ≡ n) rows →
    dot (combined n ms rows) v ≡ dot ms (values rows v)
dot-combined n [] rows v w = dot-zeros n v
dot-combined n (m ∷ ms) [] v w = dot-zeros n v
dot-combined n (m ∷ ms) (t ∷ ts) v w =
    dot-plus (scaled m t) (combined n ms ts) v (length-times m t ∙ w.0 ∙ sym (length-combined n ms ts w.1))
    ∙ ap (λ z. z +ℤ dot (combined n ms ts) v) (dot-times m t v)
    ∙ ap (λ z. m *ℤ dot t v +ℤ z) (dot-combined n ms ts v w.1)

-- a combination of zeros
pub dot-zero_values : (es : List ℤ) (rows : List (List ℤ)) (v : List ℤ) → AllByRecursion (λ t. dot t v ≡ pos 0) rows → dot es (values rows v) ≡ pos 0
dot-zero_values [] rows v z = refl
dot-zero_values (e ∷ es) [] v z = refl
dot-zero_values (e ∷ es) (t ∷ ts) v z = rw (z.0, dot-zero_values es ts v z.1, *ℤ-zero) refl

-- non-negative multipliers of positive values: not negative, and positive where one is
pub dot-not_negative : (ms : List ℤ) (rows : List (List ℤ)) (v : List ℤ) → AllByRecursion (λ m. pos 0 ≤ℤ m) ms → AllByRecursion (λ t. pos 0 <ℤ dot t v) rows →
    pos 0 ≤ℤ dot ms (values rows v)
dot-not_negative [] rows v a b = omega (arith, ints)
dot-not_negative (m ∷ ms) [] v a b = omega (arith, ints)
dot-not_negative (m ∷ ms) (t ∷ ts) v a b =
    let p : pos 0 ≤ℤ dot t v = omega (arith, ints, b.0) in
    let q : pos 0 ≤ℤ (m *ℤ dot t v) = 0≤-*ℤ m (dot t v) a.0 p in
    let r : pos 0 ≤ℤ dot ms (values ts v) = dot-not_negative ms ts v a.1 b.1 in
    omega (arith, ints)

pub dot-positive : (ms : List ℤ) (rows : List (List ℤ)) (v : List ℤ) → length ms ≡ length rows → AllByRecursion (λ m. pos 0 ≤ℤ m) ms → SomePositive ms →
    AllByRecursion (λ t. pos 0 <ℤ dot t v) rows → pos 0 <ℤ dot ms (values rows v)
dot-positive [] rows v e a s b = absurd s
dot-positive (m ∷ ms) [] v e a s b = absurd (omega arith)
dot-positive (m ∷ ms) (t ∷ ts) v e a (inl s) b =
    let q : pos 0 <ℤ (m *ℤ dot t v) = 0<-*ℤ m (dot t v) s b.0 in
    let r : pos 0 ≤ℤ dot ms (values ts v) = dot-not_negative ms ts v a.1 b.1 in
    omega (arith, ints)
dot-positive (m ∷ ms) (t ∷ ts) v e a (inr s) b =
    let p : pos 0 ≤ℤ dot t v = omega (arith, ints, b.0) in
    let q : pos 0 ≤ℤ (m *ℤ dot t v) = 0≤-*ℤ m (dot t v) a.0 p in
    let r : pos 0 <ℤ dot ms (values ts v) = dot-positive ms ts v (omega arith) a.1 s b.1 in
    omega (arith, ints)

-- ---- sums with zeros

pub plus_assoc : (xs ys zs : List ℤ) → vector_sum (vector_sum xs ys) zs ≡ vector_sum xs (vector_sum ys zs)
plus_assoc [] ys zs = refl
plus_assoc (x ∷ xs) [] zs = refl
plus_assoc (x ∷ xs) (y ∷ ys) [] = refl
plus_assoc (x ∷ xs) (y ∷ ys) (z ∷ zs) = ap₂ ◌∷◌ (+ℤ_assoc x y z) (plus_assoc xs ys zs)

pub zeros-plus : (n : ℕ) (xs : List ℤ) → length xs ≡ n → vector_sum (zeros n) xs ≡ xs
zeros-plus zero [] e = refl
zeros-plus zero (x ∷ xs) e = absurd (omega arith)
zeros-plus (suc n) [] e = absurd (omega arith)
zeros-plus (suc n) (x ∷ xs) e = ap₂ ◌∷◌ (omega (arith, ints)) (zeros-plus n xs (omega arith))

pub plus-zeros : (n : ℕ) (xs : List ℤ) → length xs ≡ n → vector_sum xs (zeros n) ≡ xs
plus-zeros zero [] e = refl
plus-zeros zero (x ∷ xs) e = absurd (omega arith)
plus-zeros (suc n) [] e = absurd (omega arith)
plus-zeros (suc n) (x ∷ xs) e = ap₂ ◌∷◌ (omega (arith, ints)) (plus-zeros n xs (omega arith))

-- no time a vector
pub zero-times : (xs : List ℤ) → scaled (pos 0) xs ≡ zeros (length xs)
zero-times [] = refl
zero-times (x ∷ xs) = ap₂ ◌∷◌ (omega (arith, ints)) (zero-times xs)
