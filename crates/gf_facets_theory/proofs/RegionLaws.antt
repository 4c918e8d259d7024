-- Far along a vector that is inside a facet, and a little past it: a weight in the region that gives the marks beyond.
-- To cite: region-positive, region-natural, region-weight, past, dot-past, beats, bounds, dot-itself, beyond_weight, beyond-positive.
use Rattle.std.specs.List.{AllByRecursion}
use Rattle.std.proofs.Common.{◌≡◌, ◌⊎◌, ℕ, zero, suc, ◌+◌, true, List, [], ◌∷◌, length, All, ℤ, pos, negsuc, neg_ℤ, ◌+ℤ◌, ◌*ℤ◌, ◌<ℤ◌, ◌≤ℤ◌, arith, refl, sym}
use Rattle.std.proofs.Common.{ap, ap₂, ◌∙◌, inl, inr}
use Rattle.std.proofs.lemmas.Int.{ints}
use Rattle.std.proofs.lemmas.List.Elements.{All-from_recursion, recursion_from_All}
use Rattle.gf_int_theory.specs.Content.{scaled}
use Rattle.gf_int_theory.proofs.RingLaws.{dv, dn, dneg, ◌⊕◌, ◌⊗◌, same as same_number}
use Rattle.gf_int_theory.proofs.SignLaws.{0<-*ℤ, ≤ℤ-*ℤ, zero_of_*ℤ, square_not_negative}
use Rattle.gf_vec.specs.Vector.{dot, vector_sum}
use Rattle.gf_vec.proofs.VectorLaws.{dot_comm, dot-plus, dot-times, length-plus, length-times}
use Rattle.gf_exponents_theory.specs.Exponents.{Exponents, same, weight, whole_weight}
use Rattle.gf_exponents_theory.specs.Orders.{lighter, gains}
use Rattle.gf_exponents_theory.proofs.WholeWeightLaws.{whole_weight-same, natural-weight, positive-gains}
use Rattle.gf_poly.specs.declared.Term.{Term}
use Rattle.gf_poly.specs.Marking.{MarkedPolynomial, Each}
use Rattle.gf_ideal_theory.specs.Membership.{HasMonomial}
use Rattle.gf_ideal_theory.specs.Marks.{AreMarked, IsPositive, HasPositiveWeight}
use Rattle.gf_ideal_theory.proofs.ListLaws.{collect, each_contained, contained_each}
use Rattle.gf_ideal_theory.proofs.TermLaws.{canonical, Canonical, canonical_exponents}
use Rattle.gf_facets_theory.specs.Rows.{negated}
use Rattle.gf_facets_theory.specs.Regions.{Region, IsInRegion}
use Rattle.gf_facets_theory.specs.Beyond.{IsBeyond}
use Rattle.gf_facets_theory.proofs.VectorLaws.{IsNonzero, minus_one, length-negated, dot-negated}
use Rattle.gf_vec.proofs.DotLaws.{own_not_negative}
use Rattle.gf_facets_theory.proofs.WholeLaws.{weight-apart, weight-sum, weight-multiple}

-- ---- vectors of a region

-- their entries are natural numbers
pub region-natural : (n : ℕ) (k : Region) (v : List ℤ) → IsInRegion n k v → All (λ x. pos 0 ≤ℤ x) v
region-natural n k v r = All-from_recursion (λ x. pos 0 ≤ℤ x) v (at v (recursion_from_All (λ x. pos 0 <ℤ x) v r.positive))
  where
    at : (v : List ℤ) → AllByRecursion (λ x. pos 0 <ℤ x) v → AllByRecursion (λ x. pos 0 ≤ℤ x) v
    at [] h = tt
    at (x ∷ v) h = (omega (arith, ints, h.0), at v h.1)

-- and positive
pub region-positive : (n : ℕ) (k : Region) (v : List ℤ) → IsInRegion n k v → IsPositive n (gains v)
region-positive n k v r i l = positive-gains v (All-from_recursion (λ x. pos 1 ≤ℤ x) v (at v (recursion_from_All (λ x. pos 0 <ℤ x) v r.positive))) i
    (omega (arith, l, r.width))
  where
    at : (v : List ℤ) → AllByRecursion (λ x. pos 0 <ℤ x) v → AllByRecursion (λ x. pos 1 ≤ℤ x) v
    at [] h = tt
    at (x ∷ v) h = (omega (arith, ints, h.0), at v h.1)

-- they weigh as natural numbers
pub region-weight : (n : ℕ) (k : Region) (v : List ℤ) → IsInRegion n k v → (x : Exponents) → pos (weight (gains v) x) ≡ whole_weight v x
region-weight n k v r x = natural-weight v x (region-natural n k v r)

-- ---- m times v, less a

abbrev pub past : ℕ → List ℤ → List ℤ → List ℤ
past m v a = vector_sum (scaled (pos m) v) (negated a)

pub dot-past : (m : ℕ) (v a c : List ℤ) → length v ≡ length a →
    dot (past m v a) c ≡ pos m *ℤ dot v c +ℤ neg_ℤ (dot a c)
dot-past m v a c e = dot-plus (scaled (pos m) v) (negated a) c (length-times (pos m) v ∙ e ∙ sym (length-negated a)) ∙ ap₂ ◌+ℤ◌ (dot-times (pos m) v c)
    (dot-negated a c)

weight-past : (m : ℕ) (v a : List ℤ) (x : Exponents) → length v ≡ length a →
    whole_weight (past m v a) x ≡ pos m *ℤ whole_weight v x +ℤ neg_ℤ (whole_weight a x)
weight-past m v a x e = weight-sum (scaled (pos m) v) (negated a) x (length-times (pos m) v ∙ e ∙ sym (length-negated a))
    ∙ ap₂ ◌+ℤ◌ (weight-multiple (pos m) v x) (weight-multiple (negsuc 0) a x ∙ minus_one (whole_weight a x))

-- ---- bounds

-- a whole number is below some natural one
bound : (z : ℤ) → (k : ℕ) × (z <ℤ pos k)
bound (pos m) = (suc m, omega (arith, ints))
bound (negsuc m) = (0, omega (arith, ints))

-- past the bound of y, m x - y is positive
pub beats : (m : ℕ) (x y : ℤ) → pos 0 <ℤ x → y <ℤ pos m → pos 0 <ℤ (pos m *ℤ x +ℤ neg_ℤ y)
beats m x y h l =
    let p : (pos m *ℤ pos 1) ≤ℤ (pos m *ℤ x) = ≤ℤ-*ℤ (pos m) (pos 1) x (omega (arith, ints)) (omega (arith, ints, h)) in
    let q : pos m *ℤ pos 1 ≡ pos m = same_number (dn m ⊗ dn 1) (dn m) (omega arith) in
    omega (arith, ints, p, q, l)

-- the numbers of a list are below some natural one
pub bounds : {A : Type 0} (size : A → ℤ) (xs : List A) → (k : ℕ) × Each (λ (x : A). size x <ℤ pos k) xs
bounds {A} size xs = collect (λ (x : A) k. size x <ℤ pos k) (λ x k l h p. omega (arith, ints, h, p)) xs (each_contained (λ (x : A). (k : ℕ) × (size x <ℤ pos k))
    xs (λ x c. bound (size x)))

-- the mark outweighs no monomial of b by m or more
abbrev IsBounded : List ℤ → MarkedPolynomial → ℕ → Type 0
IsBounded a b m = (x : Exponents) → HasMonomial b.poly x → (whole_weight a b.head +ℤ neg_ℤ (whole_weight a x)) <ℤ pos m

bounded : (a : List ℤ) (b : MarkedPolynomial) → (m : ℕ) × IsBounded a b m
bounded a b = at (canonical b.poly)
  where
    size : Term → ℤ
    size t = whole_weight a b.head +ℤ neg_ℤ (whole_weight a t.mono)

    at : Canonical b.poly → (m : ℕ) × IsBounded a b m
    at c =
        let k = bounds size c.terms in (
          k.0,
          canonical_exponents (λ x. (whole_weight a b.head +ℤ neg_ℤ (whole_weight a x)) <ℤ pos k.0) b.poly c
              (λ x y s h. omega (arith, ints, h, whole_weight-same a x y s)) k.1,
        )

all_bounded : (a : List ℤ) (bs : List MarkedPolynomial) → (m : ℕ) × Each (λ b. IsBounded a b m) bs
all_bounded a bs = collect (λ b m. IsBounded a b m) (λ b k l h p x n. omega (arith, ints, h, p x n)) bs (each_contained (λ b. (m : ℕ) × IsBounded a b m) bs
    (λ b c. bounded a b))

-- ---- the weight

-- a vector that isn't zero has a positive square_not_negative
pub dot-itself : (a : List ℤ) → IsNonzero a → pos 0 <ℤ dot a a
dot-itself [] n = absurd (n.1 refl)
dot-itself (x ∷ a) (zero, n) = let s = own_not_negative a in let z : (x *ℤ x ≡ pos 0) → ⊥ =
    (λ e. elim (zero_of_*ℤ x x e) [ inl p ↦ n p | inr p ↦ n p ]) in positive (x *ℤ x) (dot a a) (square_not_negative x) z s
  where
    positive : (p q : ℤ) → pos 0 ≤ℤ p → (p ≡ pos 0 → ⊥) → pos 0 ≤ℤ q → pos 0 <ℤ (p +ℤ q)
    positive (pos zero) q h n k = absurd (n refl)
    positive (pos (suc p)) q h n k = omega (arith, ints, k)
    positive (negsuc p) q h n k = absurd (omega (arith, ints, h))
dot-itself (x ∷ a) (suc i, n) = omega (arith, ints, square_not_negative x, dot-itself a (i, n))

-- with v inside, some vector of the region gives the marks that lighter by v or further along a gives
pub beyond_weight : (n : ℕ) (k : Region) (v a : List ℤ) (bs : List MarkedPolynomial) → IsInRegion n k v →
    length a ≡ n → IsNonzero a → dot a v ≡ pos 0 → AreMarked (IsBeyond v a) bs →
    (u : List ℤ) × IsInRegion n k u × AreMarked (lighter (gains u)) bs
beyond_weight n k v a bs r e nz o m = at (bounds (λ z. z) a) (bounds (λ c. dot c a) k.rows) (all_bounded a bs)
  where
    at : ((i : ℕ) × Each (λ z. z <ℤ pos i) a) → ((i : ℕ) × Each (λ c. dot c a <ℤ pos i) k.rows) →
        ((i : ℕ) × Each (λ b. IsBounded a b i) bs) →
        (u : List ℤ) × IsInRegion n k u × AreMarked (lighter (gains u)) bs
    at p q s = (u, inside, marked)
      where
        i : ℕ
        i = p.0 + q.0 + s.0

        u : List ℤ
        u = past (p.0 + q.0 + s.0) v a

        lengths : length v ≡ length a
        lengths = r.width ∙ sym e

        entries : (v a : List ℤ) → length v ≡ length a → AllByRecursion (λ x. pos 0 <ℤ x) v →
            Each (λ z. z <ℤ pos p.0) a → AllByRecursion (λ x. pos 0 <ℤ x) (past (p.0 + q.0 + s.0) v a)
        entries [] [] l f g = tt
        entries [] (y ∷ a) l f g = absurd (omega arith)
        entries (x ∷ v) [] l f g = absurd (omega arith)
        entries (x ∷ v) (y ∷ a) l f g = (omega (arith, ints, beats (p.0 + q.0 + s.0) x y f.0 (omega (arith, ints, g.0))), entries v a (omega arith) f.1 g.1)

        rows : (cs : List (List ℤ)) → AllByRecursion (λ c. pos 0 <ℤ dot c v) cs → Each (λ c. dot c a <ℤ pos q.0) cs →
            AllByRecursion (λ c. pos 0 <ℤ dot c (past (p.0 + q.0 + s.0) v a)) cs
        rows [] f g = tt
        rows (c ∷ cs) f g = (
          omega (
            arith,
            ints,
            beats (p.0 + q.0 + s.0) (dot c v) (dot c a) f.0 (omega (arith, ints, g.0)),
            dot_comm c (past (p.0 + q.0 + s.0) v a),
            dot-past (p.0 + q.0 + s.0) v a c lengths,
            dot_comm c v,
            dot_comm c a,
            ap (λ z. pos (p.0 + q.0 + s.0) *ℤ z) (dot_comm c v),
          ),
          rows cs f.1 g.1,
        )

        inside : IsInRegion n k u
        inside = record {
          width = length-plus (scaled (pos (p.0 + q.0 + s.0)) v) (negated a) (length-times (pos (p.0 + q.0 + s.0)) v ∙ lengths ∙ sym (length-negated a)) ∙
              length-times (pos (p.0 + q.0 + s.0)) v ∙ r.width;
          positive = All-from_recursion (λ x. pos 0 <ℤ x) u (entries v a lengths (recursion_from_All (λ x. pos 0 <ℤ x) v r.positive) p.1);
          rows = All-from_recursion (λ c. pos 0 <ℤ dot c u) k.rows (rows k.rows (recursion_from_All (λ c. pos 0 <ℤ dot c v) k.rows r.rows) q.1);
        }

        natural : (x : Exponents) → pos (weight (gains u) x) ≡ whole_weight u x
        natural = region-weight n k u inside

        marked : AreMarked (lighter (gains u)) bs
        marked b c = record { monic = (m b c).monic; tail = λ x h. lower x h ((m b c).tail x h) }
          where
            lower : (x : Exponents) → HasMonomial b.poly x → (same x b.head ≡ true) ⊎ IsBeyond v a x b.head →
                (same x b.head ≡ true) ⊎ lighter (gains u) x b.head
            lower x h (inl t) = inl t
            lower x h (inr (inl l)) =
                let f : (whole_weight a b.head +ℤ neg_ℤ (whole_weight a x)) <ℤ pos s.0 = contained_each (λ b. IsBounded a b s.0) bs s.1 b c x h in
                let g = beats (p.0 + q.0 + s.0) (whole_weight v b.head +ℤ neg_ℤ (whole_weight v x)) (whole_weight a b.head +ℤ neg_ℤ (whole_weight a x))
                (omega (arith, ints, l)) (omega (arith, ints, f)) in
                let t = spread (pos (p.0 + q.0 + s.0)) (whole_weight v b.head) (whole_weight v x) in
                inr (omega (
                  arith,
                  ints,
                  g,
                  t,
                  natural x,
                  natural b.head,
                  weight-past (p.0 + q.0 + s.0) v a x lengths,
                  weight-past (p.0 + q.0 + s.0) v a b.head lengths,
                ))
              where
                spread : (m x y : ℤ) → m *ℤ (x +ℤ neg_ℤ y) ≡ m *ℤ x +ℤ neg_ℤ (m *ℤ y)
                spread m x y = same_number (dv m ⊗ (dv x ⊕ dneg (dv y))) (dv m ⊗ dv x ⊕ dneg (dv m ⊗ dv y)) (omega arith)
            lower x h (inr (inr f)) =
                let d = weight-apart v a x b.head (pos f.0) f.2 in
                let w : whole_weight v x ≡ whole_weight v b.head =
                d ∙ ap (λ z. whole_weight v b.head +ℤ pos f.0 *ℤ z) o ∙ off (whole_weight v b.head) (pos f.0) in
                let g = weight-apart a a x b.head (pos f.0) f.2 in
                let t : pos 0 <ℤ (pos f.0 *ℤ dot a a) = 0<-*ℤ (pos f.0) (dot a a) (omega (arith, ints, f.1)) (dot-itself a nz) in
                inr (omega (
                  arith,
                  ints,
                  g,
                  t,
                  ap (λ z. pos (p.0 + q.0 + s.0) *ℤ z) w,
                  natural x,
                  natural b.head,
                  weight-past (p.0 + q.0 + s.0) v a x lengths,
                  weight-past (p.0 + q.0 + s.0) v a b.head lengths,
                ))
              where
                off : (x k : ℤ) → x +ℤ k *ℤ pos 0 ≡ x
                off x k = same_number (dv x ⊕ dv k ⊗ dn 0) (dv x) (omega arith)

-- so some positive weight does
pub beyond-positive : (n : ℕ) (k : Region) (v a : List ℤ) (bs : List MarkedPolynomial) → IsInRegion n k v →
    length a ≡ n → IsNonzero a → dot a v ≡ pos 0 → AreMarked (IsBeyond v a) bs → HasPositiveWeight n bs
beyond-positive n k v a bs r e nz o m = let u = beyond_weight n k v a bs r e nz o m in (gains u.0, region-positive n k u.0 u.1, u.2)
