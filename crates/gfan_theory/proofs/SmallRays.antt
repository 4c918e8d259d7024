-- How large the rays of a cone are, in at most three variables, by its rows.
-- To cite: some_own, turned, dot_two, determinant, line_two, turned_zero, turned_own, turned_up, plane_ray_up, rays_up. The rest are steps.
use Rattle.std.proofs.Common.{◌≡◌, ◌⊎◌, ℕ, zero, suc, ◌+◌, ◌*◌, ◌≤◌, List, [], ◌∷◌, ◌++◌, length, ℤ, pos, ◌+ℤ◌, ◌-ℤ◌, ◌*ℤ◌, neg_ℤ, ◌<ℤ◌, unsigned_abs, arith}
use Rattle.std.proofs.Common.{refl}
use Rattle.std.proofs.Common.{sym, ap, ap₂, ◌∙◌, subst, inl, inr, All, Contains}
use Rattle.std.proofs.lemmas.Int.{ints}
use Rattle.std.proofs.lemmas.List.Elements.{All-contains, Contains-append_left, Contains-append_right, Contains-append_cases}
use Rattle.gf_int_theory.specs.Content.{IsPrimitive, scaled}
use Rattle.gf_int_theory.proofs.RingLaws.{same, dv, dn, dneg, ◌⊕◌, ◌⊗◌, ◌⊖◌}
use Rattle.gf_int_theory.proofs.SignLaws.{0<-*ℤ, zero-cancel, zero_product, zero_or_not, sign_of, negative, none, positive}
use Rattle.gf_int_theory.proofs.ListLaws.{Contains-here}
use Rattle.gf_vec.specs.Vector.{dot, vector_sum, zeros, entry_at}
use Rattle.gf_vec.proofs.EntryLaws.{entry_times}
use Rattle.gf_vec.proofs.VectorLaws.{dot_comm, dot-plus, dot-times, dot-zeros, length-plus, length-times}
use Rattle.gf_vec.proofs.DotLaws.{own_zero, own_not_negative}
use Rattle.gf_gordan.proofs.SizeLaws.{UpTo, up_weaker, up_times, up_sum, up_cons, up_none, neg_up, difference_up, product_up, dot_up}
use Rattle.gf_duality_theory.specs.Faces.{Rows}
use Rattle.gf_duality_theory.specs.Rays.{IsRays}
use Rattle.gf_duality_theory.specs.Generators.{IsDescribed}
use Rattle.gf_duality_theory.proofs.ListLaws.{none_in, in_tail, in_cons}
use Rattle.gf_duality_theory.proofs.Determined.{described_of}
use Rattle.gf_rays.specs.Limits.{IsSmallSystem}
use Rattle.gf_rays.proofs.ReachedSizes.{entry_up}
use Rattle.gfan_theory.proofs.RayLines.{IsOnLine, on_ray_line, small_on_line}

-- ---- vectors that aren't zero

-- a vector that gives something on another one has a positive square
pub some_own : (h r : List ℤ) → (dot h r ≡ pos 0 → ⊥) → pos 0 <ℤ dot h h
some_own h r n = elim (sign_of (dot h h)) [
  | positive g ↦ g
  | negative g ↦ absurd (let p = own_not_negative h in omega (arith, ints, p, g))
  | none e ↦ absurd (n (ap (λ (x : List ℤ). dot x r) (own_zero h e) ∙ dot-zeros (length h) r))
]

-- one whose square is zero gives nothing
no_own : (h r : List ℤ) → dot h h ≡ pos 0 → dot h r ≡ pos 0
no_own h r e = ap (λ (x : List ℤ). dot x r) (own_zero h e) ∙ dot-zeros (length h) r

-- ---- a row that is zero on a vector and has a property

record IsFlatRow (rows : List (List ℤ)) (r : List ℤ) (t : List ℤ) : Type 0 where
  listed : Contains rows t
  flat : dot t r ≡ pos 0

data Found (P : List ℤ → Type 0) (rows : List (List ℤ)) (r : List ℤ) : Type 0 where
  one : (t : List ℤ) → IsFlatRow rows r t → P t → Found P rows r
  no_one : ((t : List ℤ) → IsFlatRow rows r t → P t → ⊥) → Found P rows r

find : (P : List ℤ → Type 0) → ((t : List ℤ) → P t ⊎ (P t → ⊥)) → (rows : List (List ℤ)) (r : List ℤ) → Found P rows r
find P test [] r = Found.no_one (λ t f p. none_in t f.listed)
find P test (s ∷ rows) r = at (find P test rows r) (zero_or_not (dot s r)) (test s)
  where
    rest : ((t : List ℤ) → IsFlatRow rows r t → P t → ⊥) → (dot s r ≡ pos 0 → P s → ⊥) → (t : List ℤ) → IsFlatRow (s ∷ rows) r t → P t → ⊥
    rest before here t f p = elim (in_cons s rows t f.listed) [
      | inl e ↦ here (subst (λ (x : List ℤ). dot x r ≡ pos 0) e f.flat) (subst P e p)
      | inr c ↦ before t (record { listed = c; flat = f.flat }) p
    ]

    at : Found P rows r → (dot s r ≡ pos 0) ⊎ (dot s r ≡ pos 0 → ⊥) → P s ⊎ (P s → ⊥) → Found P (s ∷ rows) r
    at (Found.one t f p) z o = Found.one t (record { listed = in_tail s rows t f.listed; flat = f.flat }) p
    at (Found.no_one f) (inl z) (inl p) = Found.one s (record { listed = Contains-here s rows; flat = z }) p
    at (Found.no_one f) (inl z) (inr o) = Found.no_one (rest f (λ e p. o p))
    at (Found.no_one f) (inr z) o = Found.no_one (rest f (λ e p. z e))

abbrev HasSquare : List ℤ → Type 0
HasSquare t = pos 0 <ℤ dot t t

has_square : (t : List ℤ) → HasSquare t ⊎ (HasSquare t → ⊥)
has_square t = elim (sign_of (dot t t)) [
  | positive g ↦ inl g
  | negative g ↦ inr (λ h. omega (arith, ints, g, h))
  | none e ↦ inr (λ h. omega (arith, ints, e, h))
]

square_or_not : (t : List ℤ) → (HasSquare t → ⊥) → dot t t ≡ pos 0
square_or_not t n = elim (sign_of (dot t t)) [
  | positive g ↦ absurd (n g)
  | negative g ↦ absurd (let p = own_not_negative t in omega (arith, ints, p, g))
  | none e ↦ e
]

-- ---- vectors of two and three entries

-- a vector of two entries, turned by a right angle
abbrev pub turned : List ℤ → List ℤ
turned t = neg_ℤ (entry_at t 1) ∷ entry_at t 0 ∷ []

-- the cross product of two vectors of three entries
abbrev cross : List ℤ → List ℤ → List ℤ
cross t s = (entry_at t 1 *ℤ entry_at s 2 -ℤ entry_at t 2 *ℤ entry_at s 1) ∷ (entry_at t 2 *ℤ entry_at s 0 -ℤ entry_at t 0 *ℤ entry_at s 2) ∷
    (entry_at t 0 *ℤ entry_at s 1 -ℤ entry_at t 1 *ℤ entry_at s 0) ∷ []

dot_one : (t s : List ℤ) → length t ≡ 1 → length s ≡ 1 → dot t s ≡ entry_at t 0 *ℤ entry_at s 0
dot_one [] s e f = absurd (omega (arith, e))
dot_one (a ∷ (b ∷ t)) s e f = absurd (omega (arith, e))
dot_one (a ∷ []) [] e f = absurd (omega (arith, f))
dot_one (a ∷ []) (x ∷ s) e f = omega (arith, ints)

pub dot_two : (t s : List ℤ) → length t ≡ 2 → length s ≡ 2 → dot t s ≡ entry_at t 0 *ℤ entry_at s 0 +ℤ entry_at t 1 *ℤ entry_at s 1
dot_two [] s e f = absurd (omega (arith, e))
dot_two (a ∷ t) [] e f = absurd (omega (arith, f))
dot_two (a ∷ t) (x ∷ s) e f = ap (λ (z : ℤ). a *ℤ x +ℤ z) (dot_one t s (omega (arith, e)) (omega (arith, f)))

dot_three : (t s : List ℤ) → length t ≡ 3 → length s ≡ 3 →
    dot t s ≡ entry_at t 0 *ℤ entry_at s 0 +ℤ (entry_at t 1 *ℤ entry_at s 1 +ℤ entry_at t 2 *ℤ entry_at s 2)
dot_three [] s e f = absurd (omega (arith, e))
dot_three (a ∷ t) [] e f = absurd (omega (arith, f))
dot_three (a ∷ t) (x ∷ s) e f = ap (λ (z : ℤ). a *ℤ x +ℤ z) (dot_two t s (omega (arith, e)) (omega (arith, f)))

equal_one : (t s : List ℤ) → length t ≡ 1 → length s ≡ 1 → entry_at t 0 ≡ entry_at s 0 → t ≡ s
equal_one [] s e f p = absurd (omega (arith, e))
equal_one (a ∷ (b ∷ t)) s e f p = absurd (omega (arith, e))
equal_one (a ∷ []) [] e f p = absurd (omega (arith, f))
equal_one (a ∷ []) (x ∷ (y ∷ s)) e f p = absurd (omega (arith, f))
equal_one (a ∷ []) (x ∷ []) e f p = ap (λ (z : ℤ). z ∷ []) p

equal_two : (t s : List ℤ) → length t ≡ 2 → length s ≡ 2 → entry_at t 0 ≡ entry_at s 0 → entry_at t 1 ≡ entry_at s 1 → t ≡ s
equal_two [] s e f p q = absurd (omega (arith, e))
equal_two (a ∷ t) [] e f p q = absurd (omega (arith, f))
equal_two (a ∷ t) (x ∷ s) e f p q = ap₂ (λ (z : ℤ) (l : List ℤ). z ∷ l) p (equal_one t s (omega (arith, e)) (omega (arith, f)) q)

equal_three : (t s : List ℤ) → length t ≡ 3 → length s ≡ 3 → entry_at t 0 ≡ entry_at s 0 → entry_at t 1 ≡ entry_at s 1 → entry_at t 2 ≡ entry_at s 2 → t ≡ s
equal_three [] s e f p q r = absurd (omega (arith, e))
equal_three (a ∷ t) [] e f p q r = absurd (omega (arith, f))
equal_three (a ∷ t) (x ∷ s) e f p q r = ap₂ (λ (z : ℤ) (l : List ℤ). z ∷ l) p (equal_two t s (omega (arith, e)) (omega (arith, f)) q r)

plus_zero : (a b : ℤ) → b ≡ pos 0 → a +ℤ b ≡ a
plus_zero a b e = omega (arith, ints, e)

minus_zero : (a b : ℤ) → b ≡ pos 0 → a -ℤ b ≡ a
minus_zero a b e = omega (arith, ints, e)

zero_difference : (c z d w : ℤ) → z ≡ pos 0 → w ≡ pos 0 → c *ℤ z -ℤ d *ℤ w ≡ pos 0
zero_difference c z d w p q = let k = zero_product c z p in let l = zero_product d w q in omega (arith, ints, k, l)

sum_zero : (a b : ℤ) → a ≡ pos 0 → b ≡ pos 0 → a +ℤ b ≡ pos 0
sum_zero a b e f = omega (arith, ints, e, f)

not_zero_sum : (a b : ℤ) → pos 0 <ℤ a → b ≡ pos 0 → a +ℤ b ≡ pos 0 → ⊥
not_zero_sum a b h e f = omega (arith, ints, h, e, f)

against : (a b : ℤ) → a *ℤ b +ℤ neg_ℤ b *ℤ a ≡ pos 0
against a b = same (dv a ⊗ dv b ⊕ dneg (dv b) ⊗ dv a) (dn 0) (omega arith)

-- ---- two vectors of two entries on which one row that isn't zero is zero

-- a determinant by a row
by_row : (a b x y u v : ℤ) → a *ℤ x +ℤ b *ℤ y ≡ pos 0 → a *ℤ u +ℤ b *ℤ v ≡ pos 0 → a *ℤ (x *ℤ v -ℤ y *ℤ u) ≡ pos 0
by_row a b x y u v e f =
    same (dv a ⊗ (dv x ⊗ dv v ⊖ dv y ⊗ dv u)) (dv v ⊗ (dv a ⊗ dv x ⊕ dv b ⊗ dv y) ⊖ dv y ⊗ (dv a ⊗ dv u ⊕ dv b ⊗ dv v)) (omega arith)
    ∙ zero_difference v (a *ℤ x +ℤ b *ℤ y) y (a *ℤ u +ℤ b *ℤ v) e f

-- the squares of two numbers
square_zero : (a b z : ℤ) → pos 0 <ℤ (a *ℤ a +ℤ b *ℤ b) → a *ℤ z ≡ pos 0 → b *ℤ z ≡ pos 0 → z ≡ pos 0
square_zero a b z h p q =
    zero-cancel (a *ℤ a +ℤ b *ℤ b) z h (same ((dv a ⊗ dv a ⊕ dv b ⊗ dv b) ⊗ dv z) (dv a ⊗ (dv a ⊗ dv z) ⊕ dv b ⊗ (dv b ⊗ dv z)) (omega arith)
    ∙ both (a *ℤ z) (b *ℤ z) p q)
  where
    both : (x y : ℤ) → x ≡ pos 0 → y ≡ pos 0 → a *ℤ x +ℤ b *ℤ y ≡ pos 0
    both x y e f = let k = zero_product a x e in let l = zero_product b y f in omega (arith, ints, k, l)

-- the determinant of two vectors on which a row that isn't zero is zero
pub determinant : (t u v : List ℤ) → length t ≡ 2 → length u ≡ 2 → length v ≡ 2 → pos 0 <ℤ dot t t → dot t u ≡ pos 0 → dot t v ≡ pos 0 →
    entry_at u 0 *ℤ entry_at v 1 -ℤ entry_at u 1 *ℤ entry_at v 0 ≡ pos 0
determinant t u v lt lu lv some e f =
    let a = entry_at t 0 in let b = entry_at t 1 in
    let x = entry_at u 0 in let y = entry_at u 1 in
    let z = entry_at v 0 in let w = entry_at v 1 in
    let p : a *ℤ x +ℤ b *ℤ y ≡ pos 0 = sym (dot_two t u lt lu) ∙ e in
    let q : a *ℤ z +ℤ b *ℤ w ≡ pos 0 = sym (dot_two t v lt lv) ∙ f in
    let swapped : b *ℤ (y *ℤ z -ℤ x *ℤ w) ≡ pos 0 =
    by_row b a y x w z (let k : b *ℤ y +ℤ a *ℤ x ≡ pos 0 = omega (arith, ints, p) in k) (let k : b *ℤ w +ℤ a *ℤ z ≡ pos 0 = omega (arith, ints, q) in k) in
    let other : b *ℤ (x *ℤ w -ℤ y *ℤ z) ≡ pos 0 =
    same (dv b ⊗ (dv x ⊗ dv w ⊖ dv y ⊗ dv z)) (dneg (dv b ⊗ (dv y ⊗ dv z ⊖ dv x ⊗ dv w))) (omega arith) ∙ ap neg_ℤ swapped in
    square_zero a b (x *ℤ w -ℤ y *ℤ z) (subst (λ (k : ℤ). pos 0 <ℤ k) (dot_two t t lt lt) some) (by_row a b x y z w p q) other

-- so they are on one line
pub line_two : (r u : List ℤ) → length r ≡ 2 → length u ≡ 2 → entry_at u 0 *ℤ entry_at r 1 -ℤ entry_at u 1 *ℤ entry_at r 0 ≡ pos 0 →
    scaled (dot r r) u ≡ scaled (dot u r) r
line_two r u lr lu e =
    equal_two (scaled (dot r r) u) (scaled (dot u r) r) (length-times (dot r r) u ∙ lu) (length-times (dot u r) r ∙ lr)
    (entry_times (dot r r) u 0 ∙ ap (λ (k : ℤ). k *ℤ entry_at u 0) (dot_two r r lr lr) ∙ first (entry_at u 0) (entry_at u 1) (entry_at r 0) (entry_at r 1) e
    ∙ ap (λ (k : ℤ). k *ℤ entry_at r 0) (sym (dot_two u r lu lr)) ∙ sym (entry_times (dot u r) r 0))
    (entry_times (dot r r) u 1 ∙ ap (λ (k : ℤ). k *ℤ entry_at u 1) (dot_two r r lr lr) ∙ second (entry_at u 0) (entry_at u 1) (entry_at r 0) (entry_at r 1) e
    ∙ ap (λ (k : ℤ). k *ℤ entry_at r 1) (sym (dot_two u r lu lr)) ∙ sym (entry_times (dot u r) r 1))
  where
    first : (x y p q : ℤ) → x *ℤ q -ℤ y *ℤ p ≡ pos 0 → (p *ℤ p +ℤ q *ℤ q) *ℤ x ≡ (x *ℤ p +ℤ y *ℤ q) *ℤ p
    first x y p q z =
        same ((dv p ⊗ dv p ⊕ dv q ⊗ dv q) ⊗ dv x) ((dv x ⊗ dv p ⊕ dv y ⊗ dv q) ⊗ dv p ⊕ dv q ⊗ (dv x ⊗ dv q ⊖ dv y ⊗ dv p)) (omega arith)
        ∙ plus_zero ((x *ℤ p +ℤ y *ℤ q) *ℤ p) (q *ℤ (x *ℤ q -ℤ y *ℤ p)) (zero_product q (x *ℤ q -ℤ y *ℤ p) z)

    second : (x y p q : ℤ) → x *ℤ q -ℤ y *ℤ p ≡ pos 0 → (p *ℤ p +ℤ q *ℤ q) *ℤ y ≡ (x *ℤ p +ℤ y *ℤ q) *ℤ q
    second x y p q z =
        same ((dv p ⊗ dv p ⊕ dv q ⊗ dv q) ⊗ dv y) ((dv x ⊗ dv p ⊕ dv y ⊗ dv q) ⊗ dv q ⊖ dv p ⊗ (dv x ⊗ dv q ⊖ dv y ⊗ dv p)) (omega arith)
        ∙ minus_zero ((x *ℤ p +ℤ y *ℤ q) *ℤ q) (p *ℤ (x *ℤ q -ℤ y *ℤ p)) (zero_product p (x *ℤ q -ℤ y *ℤ p) z)

-- ---- vectors of three entries

-- the entries of a cross product are zero
record IsNoCross (t s : List ℤ) : Type 0 where
  first : entry_at t 1 *ℤ entry_at s 2 -ℤ entry_at t 2 *ℤ entry_at s 1 ≡ pos 0
  second : entry_at t 2 *ℤ entry_at s 0 -ℤ entry_at t 0 *ℤ entry_at s 2 ≡ pos 0
  third : entry_at t 0 *ℤ entry_at s 1 -ℤ entry_at t 1 *ℤ entry_at s 0 ≡ pos 0

-- then the vectors are on one line
along : (t s : List ℤ) → length t ≡ 3 → length s ≡ 3 → IsNoCross t s → scaled (dot t t) s ≡ scaled (dot t s) t
along t s lt ls z =
    equal_three (scaled (dot t t) s) (scaled (dot t s) t) (length-times (dot t t) s ∙ ls) (length-times (dot t s) t ∙ lt)
    (entry_times (dot t t) s 0 ∙ ap (λ (k : ℤ). k *ℤ entry_at s 0) (dot_three t t lt lt)
    ∙ entry (entry_at t 0) (entry_at t 1) (entry_at t 2) (entry_at s 0) (entry_at s 1) (entry_at s 2) z.third z.second
    ∙ ap (λ (k : ℤ). k *ℤ entry_at t 0) (sym (dot_three t s lt ls)) ∙ sym (entry_times (dot t s) t 0))
    (entry_times (dot t t) s 1 ∙ ap (λ (k : ℤ). k *ℤ entry_at s 1) (dot_three t t lt lt ∙ turn (entry_at t 0 *ℤ entry_at t 0) (entry_at t 1 *ℤ entry_at t 1)
    (entry_at t 2 *ℤ entry_at t 2))
    ∙ entry (entry_at t 1) (entry_at t 2) (entry_at t 0) (entry_at s 1) (entry_at s 2) (entry_at s 0) z.first z.third
    ∙ ap (λ (k : ℤ). k *ℤ entry_at t 1) (sym (turn (entry_at t 0 *ℤ entry_at s 0) (entry_at t 1 *ℤ entry_at s 1) (entry_at t 2 *ℤ entry_at s 2))
    ∙ sym (dot_three t s lt ls)) ∙ sym (entry_times (dot t s) t 1))
    (entry_times (dot t t) s 2 ∙ ap (λ (k : ℤ). k *ℤ entry_at s 2) (dot_three t t lt lt ∙ back (entry_at t 0 *ℤ entry_at t 0) (entry_at t 1 *ℤ entry_at t 1)
    (entry_at t 2 *ℤ entry_at t 2))
    ∙ entry (entry_at t 2) (entry_at t 0) (entry_at t 1) (entry_at s 2) (entry_at s 0) (entry_at s 1) z.second z.first
    ∙ ap (λ (k : ℤ). k *ℤ entry_at t 2) (sym (back (entry_at t 0 *ℤ entry_at s 0) (entry_at t 1 *ℤ entry_at s 1) (entry_at t 2 *ℤ entry_at s 2))
    ∙ sym (dot_three t s lt ls)) ∙ sym (entry_times (dot t s) t 2))
  where
    turn : (x y z : ℤ) → x +ℤ (y +ℤ z) ≡ y +ℤ (z +ℤ x)
    turn x y z = omega (arith, ints)

    back : (x y z : ℤ) → x +ℤ (y +ℤ z) ≡ z +ℤ (x +ℤ y)
    back x y z = omega (arith, ints)

    -- by the determinants that have the entry a of the one vector
    entry : (a b c x y w : ℤ) → a *ℤ y -ℤ b *ℤ x ≡ pos 0 → c *ℤ x -ℤ a *ℤ w ≡ pos 0 →
        (a *ℤ a +ℤ (b *ℤ b +ℤ c *ℤ c)) *ℤ x ≡ (a *ℤ x +ℤ (b *ℤ y +ℤ c *ℤ w)) *ℤ a
    entry a b c x y w e f =
        same ((dv a ⊗ dv a ⊕ (dv b ⊗ dv b ⊕ dv c ⊗ dv c)) ⊗ dv x)
        ((dv a ⊗ dv x ⊕ (dv b ⊗ dv y ⊕ dv c ⊗ dv w)) ⊗ dv a ⊕ (dv c ⊗ (dv c ⊗ dv x ⊖ dv a ⊗ dv w) ⊖ dv b ⊗ (dv a ⊗ dv y ⊖ dv b ⊗ dv x))) (omega arith)
        ∙ plus_zero ((a *ℤ x +ℤ (b *ℤ y +ℤ c *ℤ w)) *ℤ a) (c *ℤ (c *ℤ x -ℤ a *ℤ w) -ℤ b *ℤ (a *ℤ y -ℤ b *ℤ x))
        (zero_difference c (c *ℤ x -ℤ a *ℤ w) b (a *ℤ y -ℤ b *ℤ x) f e)

-- a vector on which two rows are zero, and their cross product
no_cross : (t s r : List ℤ) → length t ≡ 3 → length s ≡ 3 → length r ≡ 3 → dot t r ≡ pos 0 → dot s r ≡ pos 0 → IsNoCross r (cross t s)
no_cross t s r lt ls lr e f = record {
  first = at (entry_at t 0) (entry_at t 1) (entry_at t 2) (entry_at s 0) (entry_at s 1) (entry_at s 2) (entry_at r 0) (entry_at r 1) (entry_at r 2) of_t of_s;
  second = at (entry_at t 1) (entry_at t 2) (entry_at t 0) (entry_at s 1) (entry_at s 2) (entry_at s 0) (entry_at r 1) (entry_at r 2) (entry_at r 0)
      (omega (arith, ints, of_t)) (omega (arith, ints, of_s));
  third = at (entry_at t 2) (entry_at t 0) (entry_at t 1) (entry_at s 2) (entry_at s 0) (entry_at s 1) (entry_at r 2) (entry_at r 0) (entry_at r 1)
      (omega (arith, ints, of_t)) (omega (arith, ints, of_s));
}
  where
    of_t : entry_at t 0 *ℤ entry_at r 0 +ℤ (entry_at t 1 *ℤ entry_at r 1 +ℤ entry_at t 2 *ℤ entry_at r 2) ≡ pos 0
    of_t = sym (dot_three t r lt lr) ∙ e

    of_s : entry_at s 0 *ℤ entry_at r 0 +ℤ (entry_at s 1 *ℤ entry_at r 1 +ℤ entry_at s 2 *ℤ entry_at r 2) ≡ pos 0
    of_s = sym (dot_three s r ls lr) ∙ f

    at : (a b c x y z p q w : ℤ) → a *ℤ p +ℤ (b *ℤ q +ℤ c *ℤ w) ≡ pos 0 → x *ℤ p +ℤ (y *ℤ q +ℤ z *ℤ w) ≡ pos 0 →
        q *ℤ (a *ℤ y -ℤ b *ℤ x) -ℤ w *ℤ (c *ℤ x -ℤ a *ℤ z) ≡ pos 0
    at a b c x y z p q w g h =
        same (dv q ⊗ (dv a ⊗ dv y ⊖ dv b ⊗ dv x) ⊖ dv w ⊗ (dv c ⊗ dv x ⊖ dv a ⊗ dv z))
        (dv a ⊗ (dv x ⊗ dv p ⊕ (dv y ⊗ dv q ⊕ dv z ⊗ dv w)) ⊖ dv x ⊗ (dv a ⊗ dv p ⊕ (dv b ⊗ dv q ⊕ dv c ⊗ dv w))) (omega arith)
        ∙ zero_difference a (x *ℤ p +ℤ (y *ℤ q +ℤ z *ℤ w)) x (a *ℤ p +ℤ (b *ℤ q +ℤ c *ℤ w)) h g

-- ---- a ray, by rows that are zero on it

module _ (n b : ℕ) (c : Rows) (lin rays : List (List ℤ)) (small : IsSmallSystem n b c) (is : IsRays n c.inequalities c.equations lin rays) (r : List ℤ)
    (k : Contains rays r) where
  d : IsDescribed n c.inequalities c.equations lin rays
  d = described_of n c.inequalities c.equations lin rays is

  row_long : (t : List ℤ) → Contains (c.inequalities ++ c.equations) t → length t ≡ n
  row_long t i = elim (Contains-append_cases c.inequalities c.equations t i) [
    | inl j ↦ All-contains (λ x. length x ≡ n) c.inequalities t small.inequalities_width j
    | inr j ↦ All-contains (λ x. length x ≡ n) c.equations t small.equations_width j
  ]

  row_up : (t : List ℤ) → Contains (c.inequalities ++ c.equations) t → UpTo b t
  row_up t i = elim (Contains-append_cases c.inequalities c.equations t i) [
    | inl j ↦ entry_up b t (All-contains (All (λ x. unsigned_abs x ≤ b)) c.inequalities t small.inequalities j)
    | inr j ↦ entry_up b t (All-contains (All (λ x. unsigned_abs x ≤ b)) c.equations t small.equations j)
  ]

  row_flat : (t : List ℤ) → Contains (c.inequalities ++ c.equations) t → (l : List ℤ) → Contains lin l → dot t l ≡ pos 0
  row_flat t i l j = elim (Contains-append_cases c.inequalities c.equations t i) [
    | inl m ↦ d.valid.flat t l m j
    | inr m ↦ d.lin_solves t l m j
  ]

  long : length r ≡ n
  long = d.rays_width r k

  whole : IsPrimitive r
  whole = All-contains IsPrimitive rays r is.primitive k

  abbrev h : List ℤ
  h = (d.pointed r k).0

  h_listed : Contains (c.inequalities ++ c.equations) h
  h_listed = Contains-append_left c.inequalities c.equations h (d.pointed r k).1.0

  h_up : pos 0 <ℤ dot h r
  h_up = (d.pointed r k).1.1

  some : pos 0 <ℤ dot r r
  some = some_own r h (λ e. let f : dot h r ≡ pos 0 = dot_comm h r ∙ e in let p = h_up in omega (arith, ints, f, p))

  on_line : (v : List ℤ) → length v ≡ n → ((l : List ℤ) → Contains lin l → dot v l ≡ pos 0) →
      ((t : List ℤ) → IsFlatRow (c.inequalities ++ c.equations) r t → dot t v ≡ pos 0) → IsOnLine r v
  on_line v lv flat none_there = on_ray_line n c.inequalities c.equations lin rays r v is k lv
      (λ e j. none_there e (record { listed = Contains-append_right c.inequalities c.equations e j; flat = d.solves e r j k })) flat
      (λ t j z. none_there t (record { listed = Contains-append_left c.inequalities c.equations t j; flat = z }))

  -- where no row but zero is zero on it
  by_mark : ((t : List ℤ) → IsFlatRow (c.inequalities ++ c.equations) r t → HasSquare t → ⊥) → UpTo b r
  by_mark free = small_on_line b r h whole (some_own h r (λ e. let p = h_up in omega (arith, ints, e, p))) (row_up h h_listed)
      (on_line h (row_long h h_listed) (row_flat h h_listed) (λ t f. no_own t h (square_or_not t (free t f))))

  -- where each row that is zero on it is on one line with one of them
  module _ (t : List ℤ) (f : IsFlatRow (c.inequalities ++ c.equations) r t) (p : pos 0 <ℤ dot t t)
      (lines : (s : List ℤ) → IsFlatRow (c.inequalities ++ c.equations) r s → scaled (dot t t) s ≡ scaled (dot t s) t) where
    abbrev v : List ℤ
    v = vector_sum (scaled (dot t t) h) (scaled (neg_ℤ (dot t h)) t)

    first_long : length (scaled (dot t t) h) ≡ n
    first_long = length-times (dot t t) h ∙ row_long h h_listed

    second_long : length (scaled (neg_ℤ (dot t h)) t) ≡ n
    second_long = length-times (neg_ℤ (dot t h)) t ∙ row_long t f.listed

    v_long : length v ≡ n
    v_long = length-plus (scaled (dot t t) h) (scaled (neg_ℤ (dot t h)) t) (first_long ∙ sym second_long) ∙ first_long

    gives : (x : List ℤ) → dot v x ≡ dot t t *ℤ dot h x +ℤ neg_ℤ (dot t h) *ℤ dot t x
    gives x = dot-plus (scaled (dot t t) h) (scaled (neg_ℤ (dot t h)) t) x (first_long ∙ sym second_long)
        ∙ ap₂ (λ (y z : ℤ). y +ℤ z) (dot-times (dot t t) h x) (dot-times (neg_ℤ (dot t h)) t x)

    v_flat : (l : List ℤ) → Contains lin l → dot v l ≡ pos 0
    v_flat l i = gives l ∙ sum_zero (dot t t *ℤ dot h l) (neg_ℤ (dot t h) *ℤ dot t l) (zero_product (dot t t) (dot h l) (row_flat h h_listed l i))
        (zero_product (neg_ℤ (dot t h)) (dot t l) (row_flat t f.listed l i))

    own_zero_there : dot t v ≡ pos 0
    own_zero_there = dot_comm t v ∙ gives t ∙ ap (λ (y : ℤ). dot t t *ℤ y +ℤ neg_ℤ (dot t h) *ℤ dot t t) (dot_comm h t) ∙ against (dot t t) (dot t h)

    v_zero : (s : List ℤ) → IsFlatRow (c.inequalities ++ c.equations) r s → dot s v ≡ pos 0
    v_zero s g = zero-cancel (dot t t) (dot s v) p (sym (dot-times (dot t t) s v) ∙ ap (λ (x : List ℤ). dot x v) (lines s g) ∙ dot-times (dot t s) t v
        ∙ zero_product (dot t s) (dot t v) own_zero_there)

    v_there : dot v r ≡ pos 0 → ⊥
    v_there e =
        let q : pos 0 <ℤ (dot t t *ℤ dot h r) = 0<-*ℤ (dot t t) (dot h r) p h_up in
        let z : neg_ℤ (dot t h) *ℤ dot t r ≡ pos 0 = zero_product (neg_ℤ (dot t h)) (dot t r) f.flat in
        not_zero_sum (dot t t *ℤ dot h r) (neg_ℤ (dot t h) *ℤ dot t r) q z (sym (gives r) ∙ e)

    by_line : UpTo (n * (b * b) * b + n * (b * b) * b) r
    by_line =
        let ut = row_up t f.listed in
        let uh = row_up h h_listed in
        let lt = row_long t f.listed in
        let short : length t ≤ n = omega (arith, lt) in
        small_on_line (n * (b * b) * b + n * (b * b) * b) r v whole (some_own v r v_there) (up_sum (n * (b * b) * b) (n * (b * b) * b) (scaled (dot t t) h)
        (scaled (neg_ℤ (dot t h)) t) (up_times (dot t t) (n * (b * b)) b h (dot_up n b b t t short ut ut) uh) (up_times (neg_ℤ (dot t h)) (n * (b * b)) b t
        (neg_up (dot t h) (n * (b * b)) (dot_up n b b t h short ut uh)) ut)) (on_line v v_long v_flat v_zero)

-- ---- bounds

cube : (b : ℕ) → b ≤ 6 * (b * b * b)
cube zero = omega arith
cube (suc b) = omega arith

squares : (b : ℕ) → b * b + b * b ≤ 6 * (b * b * b)
squares zero = omega arith
squares (suc b) = omega arith

-- ---- one variable

one_rays_up : (b : ℕ) (c : Rows) (lin rays : List (List ℤ)) → IsSmallSystem 1 b c → IsRays 1 c.inequalities c.equations lin rays → (r : List ℤ) →
    Contains rays r → UpTo (6 * (b * b * b)) r
one_rays_up b c lin rays small is r k = at (find HasSquare has_square (c.inequalities ++ c.equations) r)
  where
    equal : (t s : List ℤ) → length t ≡ 1 → length s ≡ 1 → scaled (dot t t) s ≡ scaled (dot t s) t
    equal t s lt ls =
        equal_one (scaled (dot t t) s) (scaled (dot t s) t) (length-times (dot t t) s ∙ ls) (length-times (dot t s) t ∙ lt)
        (entry_times (dot t t) s 0 ∙ ap (λ (x : ℤ). x *ℤ entry_at s 0) (dot_one t t lt lt) ∙ turn (entry_at t 0) (entry_at s 0)
        ∙ ap (λ (x : ℤ). x *ℤ entry_at t 0) (sym (dot_one t s lt ls)) ∙ sym (entry_times (dot t s) t 0))
      where
        turn : (x y : ℤ) → x *ℤ x *ℤ y ≡ x *ℤ y *ℤ x
        turn x y = same (dv x ⊗ dv x ⊗ dv y) (dv x ⊗ dv y ⊗ dv x) (omega arith)

    at : Found HasSquare (c.inequalities ++ c.equations) r → UpTo (6 * (b * b * b)) r
    at (Found.no_one free) = up_weaker b (6 * (b * b * b)) r (cube b) (by_mark 1 b c lin rays small is r k free)
    at (Found.one t f p) = up_weaker (1 * (b * b) * b + 1 * (b * b) * b) (6 * (b * b * b)) r (omega arith)
        (by_line 1 b c lin rays small is r k t f p (λ s g. equal t s (row_long 1 b c lin rays small is r k t f.listed)
        (row_long 1 b c lin rays small is r k s g.listed)))

-- ---- two variables

pub turned_zero : (t : List ℤ) → length t ≡ 2 → dot t (turned t) ≡ pos 0
turned_zero t lt = dot_two t (turned t) lt refl ∙ at (entry_at t 0) (entry_at t 1)
  where
    at : (x y : ℤ) → x *ℤ neg_ℤ y +ℤ y *ℤ x ≡ pos 0
    at x y = same (dv x ⊗ dneg (dv y) ⊕ dv y ⊗ dv x) (dn 0) (omega arith)

pub turned_own : (t : List ℤ) → length t ≡ 2 → dot (turned t) (turned t) ≡ dot t t
turned_own t lt = dot_two (turned t) (turned t) refl refl ∙ at (entry_at t 0) (entry_at t 1) ∙ sym (dot_two t t lt lt)
  where
    at : (x y : ℤ) → neg_ℤ y *ℤ neg_ℤ y +ℤ x *ℤ x ≡ x *ℤ x +ℤ y *ℤ y
    at x y = same (dneg (dv y) ⊗ dneg (dv y) ⊕ dv x ⊗ dv x) (dv x ⊗ dv x ⊕ dv y ⊗ dv y) (omega arith)

pub turned_up : (b : ℕ) (t : List ℤ) → UpTo b t → UpTo b (turned t)
turned_up b t u = up_cons b (neg_ℤ (entry_at t 1)) (entry_at t 0 ∷ []) (neg_up (entry_at t 1) b (u.at 1)) (up_cons b (entry_at t 0) [] (u.at 0) (up_none b))

module _ (b : ℕ) (c : Rows) (lin rays : List (List ℤ)) (small : IsSmallSystem 2 b c) (is : IsRays 2 c.inequalities c.equations lin rays) (r : List ℤ)
    (k : Contains rays r) where
  by_turned : (t : List ℤ) → IsFlatRow (c.inequalities ++ c.equations) r t → pos 0 <ℤ dot t t → UpTo b r
  by_turned t f p =
      let lt = row_long 2 b c lin rays small is r k t f.listed in
      let lr = long 2 b c lin rays small is r k in
      let ut = row_up 2 b c lin rays small is r k t f.listed in
      let e : entry_at (turned t) 0 *ℤ entry_at r 1 -ℤ entry_at (turned t) 1 *ℤ entry_at r 0 ≡ pos 0 =
      determinant t (turned t) r lt refl lr p (turned_zero t lt) f.flat in
      small_on_line b r (turned t) (whole 2 b c lin rays small is r k) (subst (λ (x : ℤ). pos 0 <ℤ x) (sym (turned_own t lt)) p)
      (turned_up b t ut)
      (record { k = dot r r; k_positive = some 2 b c lin rays small is r k; a = dot (turned t) r; is = line_two r (turned t) lr refl e })

  -- a ray of a cone in the plane has entries that are no greater than those of its rows
  pub plane_ray_up : UpTo b r
  plane_ray_up = at (find HasSquare has_square (c.inequalities ++ c.equations) r)
    where
      at : Found HasSquare (c.inequalities ++ c.equations) r → UpTo b r
      at (Found.no_one free) = by_mark 2 b c lin rays small is r k free
      at (Found.one t f p) = by_turned t f p

-- ---- three variables

three_rays_up : (b : ℕ) (c : Rows) (lin rays : List (List ℤ)) → IsSmallSystem 3 b c → IsRays 3 c.inequalities c.equations lin rays → (r : List ℤ) →
    Contains rays r → UpTo (6 * (b * b * b)) r
three_rays_up b c lin rays small is r k = at (find HasSquare has_square (c.inequalities ++ c.equations) r)
  where
    rows_long : (t : List ℤ) → Contains (c.inequalities ++ c.equations) t → length t ≡ 3
    rows_long = row_long 3 b c lin rays small is r k

    lr : length r ≡ 3
    lr = long 3 b c lin rays small is r k

    rows_up : (t : List ℤ) → Contains (c.inequalities ++ c.equations) t → UpTo b t
    rows_up = row_up 3 b c lin rays small is r k

    entries : (x y z : ℤ) → x ∷ y ∷ z ∷ [] ≡ zeros 3 → (x ≡ pos 0) × (y ≡ pos 0) × (z ≡ pos 0)
    entries x y z e = (ap (λ (l : List ℤ). entry_at l 0) e, ap (λ (l : List ℤ). entry_at l 1) e, ap (λ (l : List ℤ). entry_at l 2) e)

    flat_cross : (t s : List ℤ) → dot (cross t s) (cross t s) ≡ pos 0 → IsNoCross t s
    flat_cross t s e =
        let z = entries (entry_at t 1 *ℤ entry_at s 2 -ℤ entry_at t 2 *ℤ entry_at s 1) (entry_at t 2 *ℤ entry_at s 0 -ℤ entry_at t 0 *ℤ entry_at s 2)
        (entry_at t 0 *ℤ entry_at s 1 -ℤ entry_at t 1 *ℤ entry_at s 0) (own_zero (cross t s) e) in
        record { first = z.0; second = z.1; third = z.2 }

    minor_up : (x y z w : ℤ) → unsigned_abs x ≤ b → unsigned_abs y ≤ b → unsigned_abs z ≤ b → unsigned_abs w ≤ b →
        unsigned_abs (x *ℤ y -ℤ z *ℤ w) ≤ b * b + b * b
    minor_up x y z w p q u v = difference_up (x *ℤ y) (z *ℤ w) (b * b) (b * b) (product_up x y b b p q) (product_up z w b b u v)

    cross_up : (t s : List ℤ) → UpTo b t → UpTo b s → UpTo (b * b + b * b) (cross t s)
    cross_up t s u v =
        up_cons (b * b + b * b) (entry_at t 1 *ℤ entry_at s 2 -ℤ entry_at t 2 *ℤ entry_at s 1)
        ((entry_at t 2 *ℤ entry_at s 0 -ℤ entry_at t 0 *ℤ entry_at s 2) ∷ (entry_at t 0 *ℤ entry_at s 1 -ℤ entry_at t 1 *ℤ entry_at s 0) ∷ [])
        (minor_up (entry_at t 1) (entry_at s 2) (entry_at t 2) (entry_at s 1) (u.at 1) (v.at 2) (u.at 2) (v.at 1))
        (up_cons (b * b + b * b) (entry_at t 2 *ℤ entry_at s 0 -ℤ entry_at t 0 *ℤ entry_at s 2)
        ((entry_at t 0 *ℤ entry_at s 1 -ℤ entry_at t 1 *ℤ entry_at s 0) ∷ [])
        (minor_up (entry_at t 2) (entry_at s 0) (entry_at t 0) (entry_at s 2) (u.at 2) (v.at 0) (u.at 0) (v.at 2))
        (up_cons (b * b + b * b) (entry_at t 0 *ℤ entry_at s 1 -ℤ entry_at t 1 *ℤ entry_at s 0) []
        (minor_up (entry_at t 0) (entry_at s 1) (entry_at t 1) (entry_at s 0) (u.at 0) (v.at 1) (u.at 1) (v.at 0)) (up_none (b * b + b * b))))

    two_rows : (t s : List ℤ) → IsFlatRow (c.inequalities ++ c.equations) r t → IsFlatRow (c.inequalities ++ c.equations) r s → HasSquare (cross t s) →
        UpTo (6 * (b * b * b)) r
    two_rows t s f g p =
        up_weaker (b * b + b * b) (6 * (b * b * b)) r (squares b)
        (small_on_line (b * b + b * b) r (cross t s) (whole 3 b c lin rays small is r k) p (cross_up t s (rows_up t f.listed) (rows_up s g.listed)) (record {
          k = dot r r;
          k_positive = some 3 b c lin rays small is r k;
          a = dot r (cross t s);
          is = along r (cross t s) lr refl (no_cross t s r (rows_long t f.listed) (rows_long s g.listed) lr f.flat g.flat);
        }))

    at : Found HasSquare (c.inequalities ++ c.equations) r → UpTo (6 * (b * b * b)) r
    at (Found.no_one free) = up_weaker b (6 * (b * b * b)) r (cube b) (by_mark 3 b c lin rays small is r k free)
    at (Found.one t f p) = second (find (λ s. HasSquare (cross t s)) (λ s. has_square (cross t s)) (c.inequalities ++ c.equations) r)
      where
        second : Found (λ s. HasSquare (cross t s)) (c.inequalities ++ c.equations) r → UpTo (6 * (b * b * b)) r
        second (Found.one s g q) = two_rows t s f g q
        second (Found.no_one free) =
            up_weaker (3 * (b * b) * b + 3 * (b * b) * b) (6 * (b * b * b)) r (omega arith)
            (by_line 3 b c lin rays small is r k t f p (λ s g. along t s (rows_long t f.listed) (rows_long s g.listed)
            (flat_cross t s (square_or_not (cross t s) (free s g)))))

-- ---- at most three variables

-- a ray of a cone of rows with entries up to b
pub rays_up : (n b : ℕ) (c : Rows) (lin rays : List (List ℤ)) → 1 ≤ n → n ≤ 3 → IsSmallSystem n b c → IsRays n c.inequalities c.equations lin rays →
    (r : List ℤ) → Contains rays r → UpTo (6 * (b * b * b)) r
rays_up zero b c lin rays h l small is r k = absurd (omega (arith, h))
rays_up (suc zero) b c lin rays h l small is r k = one_rays_up b c lin rays small is r k
rays_up (suc (suc zero)) b c lin rays h l small is r k = up_weaker b (6 * (b * b * b)) r (cube b) (plane_ray_up b c lin rays small is r k)
rays_up (suc (suc (suc zero))) b c lin rays h l small is r k = three_rays_up b c lin rays small is r k
rays_up (suc (suc (suc (suc n)))) b c lin rays h l small is r k = absurd (omega (arith, l))
