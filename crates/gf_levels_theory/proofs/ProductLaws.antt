-- Products with what generates a cone, and what holds on all of it.
use Rattle.std.proofs.Common.{◌≡◌, ℕ, ◌<◌, List, [], ◌∷◌, ◌++◌, length, map, ℤ, pos, negsuc, ◌-ℤ◌, ◌*ℤ◌, ◌≤ℤ◌, arith, sym, ◌∙◌, subst, Contains, inl, inr}
use Rattle.std.proofs.lemmas.Int.{ints}
use Rattle.std.proofs.lemmas.List.{get_or_default}
use Rattle.std.proofs.lemmas.List.Elements.{Contains-append_left, Contains-append_right, Contains-append_cases}
use Rattle.gf_int_theory.proofs.ListLaws.{Contains-here}
use Rattle.gf_vec.specs.Vector.{dot, opposite}
use Rattle.gf_vec.proofs.DotLaws.{dot-times_right}
use Rattle.gf_vec.proofs.VectorLaws.{length-times}
use Rattle.gf_gordan.specs.Alternative.{AreRows}
use Rattle.gf_duality_theory.specs.Generators.{IsDescribed, Made, AreValid}
use Rattle.gf_duality_theory.specs.Faces.{Rows, IsInCone}
use Rattle.gf_duality_theory.proofs.ListLaws.{none_in, in_cons}
use Rattle.gf_duality_theory.proofs.Determined.{described_of}
use Rattle.gf_duality_theory.proofs.FacetRows.{part_of}
use Rattle.gf_duality_theory.proofs.Made.{Made-dot, Made-dot_zero}
use Rattle.gf_duality_theory.proofs.Taking.{ZeroWhere}
use Rattle.gf_duality_theory.proofs.Uniqueness.{face_made}
use Rattle.gf_fans_theory.proofs.FanLaws.{is_in, up_in, zero_in}
use Rattle.gf_fans_theory.proofs.PartNumbers.{in_map, of_map}
use Rattle.gf_patterns_theory.specs.PatternRows.{vector_difference, point_at}
use Rattle.gf_patterns_theory.specs.Cuts.{IsHeldBy}
use Rattle.gf_patterns_theory.proofs.RowLaws.{dot_minus}
use Rattle.gf_levels_theory.specs.Generators.{generators, HasRays}
use Rattle.gf_levels_theory.specs.Parts.{IsTopOn}

-- ---- differences of numbers

lower_up : (x y z : ℤ) → z ≡ x -ℤ y → y ≤ℤ x → pos 0 ≤ℤ z
lower_up x y z e l = omega (arith, ints, e, l)

up_lower : (x y z : ℤ) → z ≡ x -ℤ y → pos 0 ≤ℤ z → y ≤ℤ x
up_lower x y z e l = omega (arith, ints, e, l)

same_zero : (x y z : ℤ) → z ≡ x -ℤ y → x ≡ y → z ≡ pos 0
same_zero x y z e q = omega (arith, ints, e, q)

zero_same : (x y z : ℤ) → z ≡ x -ℤ y → z ≡ pos 0 → x ≡ y
zero_same x y z e q = omega (arith, ints, e, q)

turned_zero : (x y : ℤ) → y ≡ negsuc 0 *ℤ x → x ≡ pos 0 → y ≡ pos 0
turned_zero x y e q = omega (arith, ints, e, q)

turned_flat : (x y : ℤ) → y ≡ negsuc 0 *ℤ x → pos 0 ≤ℤ x → pos 0 ≤ℤ y → x ≡ pos 0
turned_flat x y e p q = omega (arith, ints, e, p, q)

zero_up : (x : ℤ) → x ≡ pos 0 → pos 0 ≤ℤ x
zero_up x e = omega (arith, ints, e)

-- ---- what generates the cone

described : (n : ℕ) (c : Rows) (lin rays : List (List ℤ)) → HasRays n c lin rays → IsDescribed n c.inequalities c.equations lin rays
described n c lin rays r = described_of n c.inequalities c.equations lin rays r

-- a vector of the cone is made of the rays and the lineality vectors
made_of : (n : ℕ) (c : Rows) (lin rays : List (List ℤ)) (v : List ℤ) → HasRays n c lin rays → length v ≡ n → IsInCone c v → Made n rays lin v
made_of n c lin rays v r l i = (described n c lin rays r).complete v l (λ h k. up_in c v h i k) (λ e k. zero_in c v e i k)

turned_in : (lin rays : List (List ℤ)) (x : List ℤ) → Contains lin x → Contains (generators rays lin) (opposite x)
turned_in lin rays x k =
    Contains-append_right rays (lin ++ map opposite lin) (opposite x) (Contains-append_right lin (map opposite lin) (opposite x) (in_map opposite lin x k))

line_in : (lin rays : List (List ℤ)) (x : List ℤ) → Contains lin x → Contains (generators rays lin) x
line_in lin rays x k = Contains-append_right rays (lin ++ map opposite lin) x (Contains-append_left lin (map opposite lin) x k)

ray_in : (lin rays : List (List ℤ)) (x : List ℤ) → Contains rays x → Contains (generators rays lin) x
ray_in lin rays x k = Contains-append_left rays (lin ++ map opposite lin) x k

turned_dot : (h x : List ℤ) → dot h (opposite x) ≡ negsuc 0 *ℤ dot h x
turned_dot h x = dot-times_right (negsuc 0) h x

-- each of them is in the cone
record IsVectorOf (n : ℕ) (c : Rows) (x : List ℤ) : Type 0 where
  width : length x ≡ n
  inside : IsInCone c x

line_of : (n : ℕ) (c : Rows) (lin rays : List (List ℤ)) (y : List ℤ) → HasRays n c lin rays → Contains lin y → IsVectorOf n c y
line_of n c lin rays y r i =
    let d = described n c lin rays r in
    record {
      width = d.lin_width y i;
      inside = is_in c y (λ h j. zero_up (dot h y) (d.valid.flat h y j i)) (λ h j. d.lin_solves h y j i);
    }

turned_of : (n : ℕ) (c : Rows) (lin rays : List (List ℤ)) (y : List ℤ) → HasRays n c lin rays → Contains lin y → IsVectorOf n c (opposite y)
turned_of n c lin rays y r i =
    let d = described n c lin rays r in
    record {
      width = length-times (negsuc 0) y ∙ d.lin_width y i;
      inside = is_in c (opposite y)
          (λ h m. zero_up (dot h (opposite y)) (turned_zero (dot h y) (dot h (opposite y)) (turned_dot h y) (d.valid.flat h y m i)))
          (λ h m. turned_zero (dot h y) (dot h (opposite y)) (turned_dot h y) (d.lin_solves h y m i));
    }

ray_of : (n : ℕ) (c : Rows) (lin rays : List (List ℤ)) (y : List ℤ) → HasRays n c lin rays → Contains rays y → IsVectorOf n c y
ray_of n c lin rays y r i =
    let d = described n c lin rays r in
    record { width = d.rays_width y i; inside = is_in c y (λ h j. d.valid.up h y j i) (λ h j. d.solves h y j i) }

generator_in : (n : ℕ) (c : Rows) (lin rays : List (List ℤ)) (x : List ℤ) → HasRays n c lin rays → Contains (generators rays lin) x → IsVectorOf n c x
generator_in n c lin rays x r k = elim (Contains-append_cases rays (lin ++ map opposite lin) x k) [
  | inl i ↦ ray_of n c lin rays x r i
  | inr i ↦ elim (Contains-append_cases lin (map opposite lin) x i) [
    | inl j ↦ line_of n c lin rays x r j
    | inr j ↦ let o = of_map opposite lin x j in subst (IsVectorOf n c) o.1.1 (turned_of n c lin rays o.0 r o.1.0)
  ]
]

-- a row that is negative on none of them is zero on the lineality vectors
flat_on : (lin rays : List (List ℤ)) (h x : List ℤ) → ((y : List ℤ) → Contains (generators rays lin) y → pos 0 ≤ℤ dot h y) → Contains lin x →
    dot h x ≡ pos 0
flat_on lin rays h x f k =
    turned_flat (dot h x) (dot h (opposite x)) (turned_dot h x) (f x (line_in lin rays x k)) (f (opposite x) (turned_in lin rays x k))

-- and negative nowhere on the cone
up_on : (n : ℕ) (c : Rows) (lin rays : List (List ℤ)) (h v : List ℤ) → HasRays n c lin rays →
    ((x : List ℤ) → Contains (generators rays lin) x → pos 0 ≤ℤ dot h x) → length v ≡ n → IsInCone c v → pos 0 ≤ℤ dot h v
up_on n c lin rays h v r f l i =
    Made-dot n rays lin h v (λ x k. f x (ray_in lin rays x k)) (λ x k. flat_on lin rays h x f k) (made_of n c lin rays v r l i)

-- ---- points

pub below_on : (n : ℕ) (c : Rows) (lin rays : List (List ℤ)) (a b v : List ℤ) → HasRays n c lin rays → length a ≡ length b →
    ((x : List ℤ) → Contains (generators rays lin) x → dot a x ≤ℤ dot b x) → length v ≡ n → IsInCone c v → dot a v ≤ℤ dot b v
below_on n c lin rays a b v r e f l i =
    up_lower (dot b v) (dot a v) (dot (vector_difference b a) v) (dot_minus b a v (sym e))
    (up_on n c lin rays (vector_difference b a) v r
    (λ x k. lower_up (dot b x) (dot a x) (dot (vector_difference b a) x) (dot_minus b a x (sym e)) (f x k)) l i)

point_in : (A : List (List ℤ)) (x : ℕ) → x < length A → Contains A (point_at A x)
point_in A x l = (x, l, get_or_default A x (point_at A x) [] l)

same_width : (n : ℕ) (A : List (List ℤ)) (x y : ℕ) → AreRows n A → x < length A → y < length A → length (point_at A x) ≡ length (point_at A y)
same_width n A x y w l m = w x [] l ∙ sym (w y [] m)

-- a row that is zero on the generators on which another one is, is so on the cone, where that one is negative nowhere
zero_too : (n : ℕ) (c : Rows) (lin rays : List (List ℤ)) (h k v : List ℤ) → HasRays n c lin rays →
    ((z : List ℤ) → Contains (generators rays lin) z → pos 0 ≤ℤ dot h z) →
    ((z : List ℤ) → Contains (generators rays lin) z → dot h z ≡ pos 0 → dot k z ≡ pos 0) → length v ≡ n → IsInCone c v → dot h v ≡ pos 0 → dot k v ≡ pos 0
zero_too n c lin rays h k v r up zero lv iv hv =
    let one : AreValid (h ∷ []) rays lin = record {
      up = λ g z kg kz. elim (in_cons h [] g kg) [
        | inl q ↦ subst (λ (s : List ℤ). pos 0 ≤ℤ dot s z) (sym q) (up z (ray_in lin rays z kz))
        | inr o ↦ absurd (none_in g o)
      ];
      flat = λ g z kg kz. elim (in_cons h [] g kg) [
        | inl q ↦ subst (λ (s : List ℤ). dot s z ≡ pos 0) (sym q) (flat_on lin rays h z up kz)
        | inr o ↦ absurd (none_in g o)
      ];
    } in
    let p = part_of rays h in
    let part_all : (z : List ℤ) → Contains rays z → ZeroWhere (h ∷ []) v z → Contains p.part z = λ z kz g. p.all z kz (g h (Contains-here h []) hv) in
    let m : Made n p.part lin v = face_made n (h ∷ []) rays p.part lin v v one part_all (made_of n c lin rays v r lv iv) (λ g kg q. q) in
    Made-dot_zero n p.part lin k v (λ z kz. let q = p.of_part z kz in zero z (ray_in lin rays z q.0) q.1)
    (λ z kz. zero z (line_in lin rays z kz) (flat_on lin rays h z up kz)) m

pub tied_too : (n : ℕ) (c : Rows) (lin rays A : List (List ℤ)) (top x y : ℕ) (v : List ℤ) → HasRays n c lin rays → AreRows n A → top < length A →
    x < length A → y < length A → IsTopOn n A top c →
    ((z : List ℤ) → Contains (generators rays lin) z → dot (point_at A top) z ≡ dot (point_at A x) z → dot (point_at A top) z ≡ dot (point_at A y) z) →
    length v ≡ n → IsInCone c v → dot (point_at A x) v ≡ dot (point_at A top) v → dot (point_at A y) v ≡ dot (point_at A top) v
tied_too n c lin rays A top x y v r w lt lx ly highest tied lv iv e =
    let h : List ℤ = vector_difference (point_at A top) (point_at A x) in
    let k : List ℤ = vector_difference (point_at A top) (point_at A y) in
    let hx : (z : List ℤ) → dot h z ≡ dot (point_at A top) z -ℤ dot (point_at A x) z =
    λ z. dot_minus (point_at A top) (point_at A x) z (same_width n A top x w lt lx) in
    let hy : (z : List ℤ) → dot k z ≡ dot (point_at A top) z -ℤ dot (point_at A y) z =
    λ z. dot_minus (point_at A top) (point_at A y) z (same_width n A top y w lt ly) in
    sym (zero_same (dot (point_at A top) v) (dot (point_at A y) v) (dot k v) (hy v) (zero_too n c lin rays h k v r
    (λ z kz. let i = generator_in n c lin rays z r kz in
    lower_up (dot (point_at A top) z) (dot (point_at A x) z) (dot h z) (hx z) (highest z i.width i.inside (point_at A x) (point_in A x lx)))
    (λ z kz g. same_zero (dot (point_at A top) z) (dot (point_at A y) z) (dot k z) (hy z)
    (tied z kz (zero_same (dot (point_at A top) z) (dot (point_at A x) z) (dot h z) (hx z) g)))
    lv iv (same_zero (dot (point_at A top) v) (dot (point_at A x) v) (dot h v) (hx v) (sym e))))

-- with one lineality basis, and some of the rays
pub rays_held : (n : ℕ) (c d : Rows) (lin rays more : List (List ℤ)) → HasRays n c lin rays → HasRays n d lin more →
    ((x : List ℤ) → Contains rays x → Contains more x) → IsHeldBy n c d
rays_held n c d lin rays more r s f v lv iv =
    let g = described n d lin more s in
    let m = made_of n c lin rays v r lv iv in
    is_in d v (λ h k. Made-dot n rays lin h v (λ x j. g.valid.up h x k (f x j)) (λ x j. g.valid.flat h x k j) m)
    (λ h k. Made-dot_zero n rays lin h v (λ x j. g.solves h x k (f x j)) (λ x j. g.lin_solves h x k j) m)
