-- The rays of a cone in at most four variables, of at most three rows that compare two entries and then the unit vectors, are found within all limits:
-- the vectors that are reached are bounded row by row.
-- To cite: vector_in, of_vector, of_pruned, AreMeasured, sizes_of, no_rays_step. The rest are steps.
use Rattle.std.proofs.Common.{
  ◌≡◌,
  ◌≢◌,
  ℕ,
  zero,
  suc,
  ◌+◌,
  ◌*◌,
  ◌^◌,
  ◌-◌,
  ◌<◌,
  ◌≤◌,
  List,
  [],
  ◌∷◌,
  ◌++◌,
  length,
  length-append,
  get_or,
  map,
  drop,
  remove,
  ℤ,
  pos,
  negsuc,
  neg_ℤ,
  ◌+ℤ◌,
  ◌-ℤ◌,
  ◌*ℤ◌,
  unsigned_abs,
  arith,
  refl,
  sym,
  ap,
  ◌∙◌,
  subst,
  ◌⊎◌,
  inl,
  inr,
  Contains,
}
use Rattle.std.proofs.lemmas.Bool.{cases_lt}
use Rattle.std.proofs.lemmas.Int.{ints}
use Rattle.std.proofs.lemmas.List.{get_or_default, get_or_append_left, get_or-append_right}
use Rattle.std.proofs.lemmas.List.Elements.{Contains-append_cases, Contains-get_or}
use Rattle.std.proofs.Math.Nat.{mul-le-mul}
use Rattle.std.proofs.Math.Seq.{get_or-append_seam}
use Rattle.gf_int_theory.specs.Content.{scaled}
use Rattle.gf_int_theory.proofs.ListLaws.{Contains-here, Contains-last}
use Rattle.gf_vec.specs.Vector.{dot, zeros, opposite, entry_at}
use Rattle.gf_vec.specs.Primitive.{IsPrimitivePart}
use Rattle.gf_vec.specs.declared.error.VecOp.TheVariants.{Add, Mul}
use Rattle.gf_vec.proofs.EntryLaws.{entry_times, entry_plus, cancel}
use Rattle.gf_vec.proofs.VectorLaws.{length-times, length-zeros}
use Rattle.gf_gordan.specs.Steps.{IsDotStep}
use Rattle.gf_gordan.specs.declared.error.ConeOverflow.{ConeOverflow}
use Rattle.gf_gordan.proofs.SizeLaws.{UpTo, neg_up, difference_up, product_up, up_weaker, up_times, up_sum, up_divided, up_zeros}
use Rattle.gf_gordan.proofs.StepSizes.{no_dot}
use Rattle.gf_facets_theory.specs.Systems.{unit, units}
use Rattle.gf_facets_theory.proofs.UnitLaws.{dot-unit, unit_of}
use Rattle.gf_duality_theory.specs.Combining.{pair}
use Rattle.gf_duality_theory.specs.Rays.{IsZeroOn}
use Rattle.gf_duality_theory.specs.Elimination.{IsNormalised, IsNullSpace, IsNullStep, columns}
use Rattle.gf_duality_theory.specs.Elimination as eliminations
use Rattle.gf_duality_theory.specs.Straightening.{IsLeveled, IsStraightened, IsOrthogonalized, IsOrthogonalizing}
use Rattle.gf_duality_theory.specs.Straightening as straights
use Rattle.gf_duality_theory.proofs.EchelonUnique.{no_widths}
use Rattle.gf_duality_theory.proofs.ListLaws.{none_in, first_in, in_cons, in_tail, zip_from, of_rest}
use Rattle.gf_rays.specs.declared.ray.Ray.{Ray}
use Rattle.gf_rays.specs.Leveling.{IsLine, IsLinedBy, IsLeveledRay, IsLeveling, IsRowStep}
use Rattle.gf_rays.specs.Leveling as levels
use Rattle.gf_rays.specs.Limits.{IsPointed, turned_bound}
use Rattle.gf_rays.specs.MarkedRays.{IsPruned, vectors_of}
use Rattle.gf_rays.specs.MarkedRays as marked
use Rattle.gf_rays.specs.Reached.{IsReachedState, IsRaysStep}
use Rattle.gf_rays.specs.Reached as states
use Rattle.gf_rays.specs.Splitting.{IsSplit}
use Rattle.gf_rays.specs.Splitting as splits
use Rattle.gf_rays.proofs.ReachedLaws.{reached_state, chosen_in}
use Rattle.gf_rays.proofs.ReachedSizes.{
  AreUpTo,
  BothUpTo,
  IsUnitary,
  unitary_up,
  unitary_eliminated,
  elimination_counts,
  begin_rows,
  normal_up,
  snoc_long,
  sized_last,
  append_long,
  middle_in,
  front_in,
  no_combining,
  no_elimination,
}
use Rattle.gfan_theory.specs.Differences.{IsDifferenceRow, AreDifferenceRows}

-- ---- rays and their vectors

pub vector_in : (rays : List Ray) (r : Ray) → Contains rays r → Contains (vectors_of rays) r.vector
vector_in [] r c = absurd (none_in r c)
vector_in (s ∷ rays) r c = elim (in_cons s rays r c) [
  | inl e ↦ subst (λ (t : Ray). Contains (s.vector ∷ vectors_of rays) t.vector) (sym e) (Contains-here s.vector (vectors_of rays))
  | inr d ↦ in_tail s.vector (vectors_of rays) r.vector (vector_in rays r d)
]

pub of_vector : (rays : List Ray) (v : List ℤ) → Contains (vectors_of rays) v → (r : Ray) × (Contains rays r × (v ≡ r.vector))
of_vector [] v c = absurd (none_in v c)
of_vector (s ∷ rays) v c = elim (in_cons s.vector (vectors_of rays) v c) [
  | inl e ↦ (s, (Contains-here s rays, e))
  | inr d ↦ let t = of_vector rays v d in (t.0, (in_tail s rays t.0 t.1.0, t.1.1))
]

pub of_pruned : (rays out : List Ray) (r : Ray) → IsPruned rays out → Contains out r → Contains rays r
of_pruned rays out r (marked.done rs) c = c
of_pruned rays out r (marked.taken rs mid left i p hi g e) c = of_pruned rs mid r p (of_rest mid i r hi (subst (λ (l : List Ray). Contains l r) e c))

-- ---- what a row gives

-- on a vector with entries up to m the row gives at most s times m
abbrev pub GivesUpTo : ℕ → ℕ → List ℤ → Type 0
GivesUpTo n s h = (m : ℕ) (x : List ℤ) → length x ≡ n → UpTo m x → unsigned_abs (dot h x) ≤ s * m

-- how much the row at an index gives: the first three rows compare two entries, and the others give one
abbrev pub size_of : ℕ → ℕ
size_of zero = 2
size_of (suc zero) = 2
size_of (suc (suc zero)) = 2
size_of (suc (suc (suc k))) = 1

some_size : (k : ℕ) → 1 ≤ size_of k
some_size zero = omega arith
some_size (suc zero) = omega arith
some_size (suc (suc zero)) = omega arith
some_size (suc (suc (suc k))) = omega arith

-- what bounds the combination of two vectors with entries up to m that is zero at such a row
abbrev next : ℕ → ℕ → ℕ
next s m = s * m * m + s * m * m

-- what bounds the vectors after so many rows
abbrev reached : ℕ → ℕ
reached zero = 1
reached (suc zero) = 1
reached (suc (suc k)) = next (size_of (suc k)) (reached (suc k))

rises : (s m : ℕ) → 1 ≤ s → 1 ≤ m → m ≤ next s m
rises s m h k = let p : 1 * 1 ≤ s * m = mul-le-mul h k in let q : 1 * m ≤ s * m * m = mul-le-mul (omega (arith, p)) (omega arith) in omega (arith, q)

reached_some : (k : ℕ) → 1 ≤ reached k
reached_some zero = omega arith
reached_some (suc zero) = omega arith
reached_some (suc (suc k)) =
    let p = reached_some (suc k) in let q = rises (size_of (suc k)) (reached (suc k)) (some_size (suc k)) p in omega (arith, p, q)

step_room : (k : ℕ) → k ≤ 6 → next (size_of k) (reached k) < 2 ^ 127
step_room zero l = omega arith
step_room (suc zero) l = omega arith
step_room (suc (suc zero)) l = omega arith
step_room (suc (suc (suc zero))) l = omega arith
step_room (suc (suc (suc (suc zero)))) l = omega arith
step_room (suc (suc (suc (suc (suc zero))))) l = omega arith
step_room (suc (suc (suc (suc (suc (suc zero)))))) l = omega arith
step_room (suc (suc (suc (suc (suc (suc (suc k))))))) l = absurd (omega (arith, l))

dot_room : (n k : ℕ) → n ≤ 4 → k ≤ 6 → n * (1 * reached k) < 2 ^ 127
dot_room n zero h l = omega (arith, h)
dot_room n (suc zero) h l = omega (arith, h)
dot_room n (suc (suc zero)) h l = omega (arith, h)
dot_room n (suc (suc (suc zero))) h l = omega (arith, h)
dot_room n (suc (suc (suc (suc zero)))) h l = omega (arith, h)
dot_room n (suc (suc (suc (suc (suc zero))))) h l = omega (arith, h)
dot_room n (suc (suc (suc (suc (suc (suc zero)))))) h l = omega (arith, h)
dot_room n (suc (suc (suc (suc (suc (suc (suc k))))))) h l = absurd (omega (arith, l))

turned_room : (n : ℕ) → n ≤ 4 → turned_bound 1 n < 2 ^ 127
turned_room zero l = omega arith
turned_room (suc zero) l = omega arith
turned_room (suc (suc zero)) l = omega arith
turned_room (suc (suc (suc zero))) l = omega arith
turned_room (suc (suc (suc (suc zero)))) l = omega arith
turned_room (suc (suc (suc (suc (suc n))))) l = absurd (omega (arith, l))

-- ---- rows

-- rows of n entries up to 1, each of which gives no more than one at its index
pub record AreMeasured (n : ℕ) (hs : List (List ℤ)) : Type 0 where
  pub long : (h : List ℤ) → Contains hs h → length h ≡ n
  pub small : AreUpTo 1 hs
  pub sizes : (k : ℕ) → k < length hs → GivesUpTo n (size_of k) (get_or hs k [])

module _ (n : ℕ) (before after : List (List ℤ)) (h : List ℤ) (hs : List (List ℤ)) (e : hs ≡ before ++ h ∷ after) (m : AreMeasured n hs) where
  more : length before < length hs
  more = omega (arith, ap length e, length-append before (h ∷ after))

  measured_front : AreMeasured n before
  measured_front = record {
    long = λ x c. m.long x (subst (λ (l : List (List ℤ)). Contains l x) (sym e) (front_in before after h x c));
    small = record { each = λ x c. m.small.each x (subst (λ (l : List (List ℤ)). Contains l x) (sym e) (front_in before after h x c)) };
    sizes = λ k l. subst (GivesUpTo n (size_of k)) (ap (λ (w : List (List ℤ)). get_or w k []) e ∙ get_or_append_left before (h ∷ after) [] k l)
        (m.sizes k (let p = more in omega (arith, l, p)));
  }

  measured_there : Contains hs h
  measured_there = subst (λ (l : List (List ℤ)). Contains l h) (sym e) (middle_in before after h)

  measured_at : GivesUpTo n (size_of (length before)) h
  measured_at =
      subst (GivesUpTo n (size_of (length before))) (ap (λ (w : List (List ℤ)). get_or w (length before) []) e ∙ get_or-append_seam before h after [])
      (m.sizes (length before) more)

-- ---- few rows that compare two entries, and then unit vectors

difference_gives : (n : ℕ) (h : List ℤ) → IsDifferenceRow n h → GivesUpTo n 2 h
difference_gives n h d m x l u =
    let p = u.at d.high in
    let q = u.at d.low in
    let e : dot h x ≡ entry_at x d.high -ℤ entry_at x d.low = d.difference x l in
    subst (λ (z : ℤ). unsigned_abs z ≤ 2 * m) (sym e)
    (let r = difference_up (entry_at x d.high) (entry_at x d.low) m m p q in omega (arith, r))

unit_gives : (n i : ℕ) (h : List ℤ) → i < n → h ≡ unit n i → GivesUpTo n 1 h
unit_gives n i h l e m x w u =
    subst (λ (z : ℤ). unsigned_abs z ≤ 1 * m) (sym (ap (λ (t : List ℤ). dot t x) e ∙ dot-unit n i x l w)) (let p = u.at i in omega (arith, p))

of_one : (n k : ℕ) (h : List ℤ) → GivesUpTo n 1 h → GivesUpTo n (size_of k) h
of_one n zero h g m x l u = let p = g m x l u in omega (arith, p)
of_one n (suc zero) h g m x l u = let p = g m x l u in omega (arith, p)
of_one n (suc (suc zero)) h g m x l u = let p = g m x l u in omega (arith, p)
of_one n (suc (suc (suc k))) h g m x l u = g m x l u

of_two : (n k : ℕ) (h : List ℤ) → k < 3 → GivesUpTo n 2 h → GivesUpTo n (size_of k) h
of_two n zero h l g = g
of_two n (suc zero) h l g = g
of_two n (suc (suc zero)) h l g = g
of_two n (suc (suc (suc k))) h l g = absurd (omega (arith, l))

module _ (n : ℕ) (rows : List (List ℤ)) (few : length rows ≤ 3) (differ : AreDifferenceRows n rows) where
  pub sizes_of : (k : ℕ) → k < length (rows ++ units n n) → GivesUpTo n (size_of k) (get_or (rows ++ units n n) k [])
  sizes_of k l = elim (cases_lt k (length rows)) [
    | inl s ↦
        let t = get_or rows k [] in
        subst (GivesUpTo n (size_of k)) (sym (get_or_append_left rows (units n n) [] k s))
        (of_two n k t (omega (arith, s, few)) (difference_gives n t (differ t (Contains-get_or rows k [] s))))
    | inr g ↦
        let j = k - length rows in
        let s : j < length (units n n) = (let e = length-append rows (units n n) in omega (arith, e, l, g)) in
        let u = unit_of n n (get_or (units n n) j []) (Contains-get_or (units n n) j [] s) in
        subst (GivesUpTo n (size_of k)) (sym (get_or-append_right rows (units n n) (length rows) k [] refl g))
        (of_one n k (get_or (units n n) j []) (unit_gives n u.0 (get_or (units n n) j []) u.1 u.2))
  ]

-- ---- vectors with at most one entry that isn't zero

zero_or_not : (z : ℤ) → (z ≡ pos 0) ⊎ (z ≢ pos 0)
zero_or_not (pos zero) = inl refl
zero_or_not (pos (suc k)) = inr (λ e. omega (arith, ints, e))
zero_or_not (negsuc k) = inr (λ e. omega (arith, ints, e))

-- its entries are up to 1, and one at most isn't zero
record IsSingle (t : List ℤ) : Type 0 where
  pub small : UpTo 1 t
  pub one : (p q : ℕ) → entry_at t p ≢ pos 0 → entry_at t q ≢ pos 0 → p ≡ q

normal_single : (t z : List ℤ) → IsUnitary t → IsNormalised t z → IsSingle z
normal_single t z u d = record {
  small = normal_up 1 t z (unitary_up t u) d;
  one = λ p q h k. u.one p q (λ e. h (none_at p e)) (λ e. k (none_at q e));
}
  where
    none_at : (p : ℕ) → entry_at t p ≡ pos 0 → entry_at z p ≡ pos 0
    none_at p e = cancel d.factor (entry_at z p) d.not_zero (sym (entry_times d.factor z p) ∙ ap (λ (l : List ℤ). entry_at l p) d.multiple ∙ e)

null_single : (n : ℕ) (basis : List (List ℤ)) → IsNullSpace n [] basis → (z : List ℤ) → Contains basis z → IsSingle z
null_single n basis b z c =
    let q = elimination_counts _ (columns n []) 0 b.done b.left b.eliminated in
    let u = unitary_eliminated n (map (drop 0) b.left) n b.basis.done b.basis.left (begin_rows _ n 0 [] b.done b.left (omega (arith, q.0)) b.eliminated)
    b.basis.eliminated in
    let t = zip_from IsNormalised b.basis.done basis z b.basis.normal c in
    normal_single t.0 z (u.first.each t.0 t.1.0) t.1.1

opposite_single : (x : List ℤ) → IsSingle x → IsSingle (opposite x)
opposite_single x s = record {
  small = up_weaker (1 * 1) 1 (opposite x) (omega arith) (up_times (negsuc 0) 1 1 x (omega arith) s.small);
  one = λ p q h k. s.one p q (λ e. h (none_at p e)) (λ e. k (none_at q e));
}
  where
    none_at : (p : ℕ) → entry_at x p ≡ pos 0 → entry_at (opposite x) p ≡ pos 0
    none_at p e = entry_times (negsuc 0) x p ∙ ap (λ (z : ℤ). negsuc 0 *ℤ z) e

-- what a row gives on one of them
sum_none : (x y d : ℤ) → y ≡ pos 0 → d ≡ pos 0 → x *ℤ y +ℤ d ≡ pos 0
sum_none x y d e f = rw (e, f) (let q : x *ℤ pos 0 +ℤ pos 0 ≡ pos 0 = omega (arith, ints) in q)

sum_last : (x y d e : ℤ) → y ≡ pos 0 → d ≡ e → x *ℤ y +ℤ d ≡ e
sum_last x y d e p q = rw (p, q) (let r : x *ℤ pos 0 +ℤ e ≡ e = omega (arith, ints) in r)

sum_first : (p d : ℤ) → d ≡ pos 0 → p +ℤ d ≡ p
sum_first p d e = omega (arith, ints, e)

of_nothing : (z : ℤ) → pos 0 ≡ pos 0 *ℤ z
of_nothing z = omega (arith, ints)

to_nothing : (z : ℤ) → pos 0 ≡ z *ℤ pos 0
to_nothing z = omega (arith, ints)

dot_none : (xs ys : List ℤ) → ((q : ℕ) → entry_at ys q ≡ pos 0) → dot xs ys ≡ pos 0
dot_none [] ys z = refl
dot_none (x ∷ xs) [] z = refl
dot_none (x ∷ xs) (y ∷ ys) z = sum_none x y (dot xs ys) (z 0) (dot_none xs ys (λ q. z (suc q)))

dot_at : (xs ys : List ℤ) (p : ℕ) → ((q : ℕ) → (q ≡ p → ⊥) → entry_at ys q ≡ pos 0) → dot xs ys ≡ entry_at xs p *ℤ entry_at ys p
dot_at [] ys p o = of_nothing (entry_at ys p)
dot_at (x ∷ xs) [] p o = to_nothing (entry_at (x ∷ xs) p)
dot_at (x ∷ xs) (y ∷ ys) zero o = sum_first (x *ℤ y) (dot xs ys) (dot_none xs ys (λ q. o (suc q) (λ e. omega (arith, e))))
dot_at (x ∷ xs) (y ∷ ys) (suc p) o =
    sum_last x y (dot xs ys) (entry_at xs p *ℤ entry_at ys p) (o 0 (λ e. omega (arith, e))) (dot_at xs ys p (λ q n. o (suc q) (λ e. n (omega (arith, e)))))

-- where an entry isn't zero the others are
others_none : (t : List ℤ) (p : ℕ) → IsSingle t → entry_at t p ≢ pos 0 → (q : ℕ) → (q ≡ p → ⊥) → entry_at t q ≡ pos 0
others_none t p s n q d = elim (zero_or_not (entry_at t q)) [ inl e ↦ e | inr k ↦ absurd (d (s.one q p k n)) ]

some_entry : (t : List ℤ) → ((q : ℕ) → entry_at t q ≡ pos 0) ⊎ ((p : ℕ) × (entry_at t p ≢ pos 0))
some_entry [] = inl (λ q. refl)
some_entry (x ∷ t) = elim (zero_or_not x) [
  | inr n ↦ inr (0, n)
  | inl e ↦ elim (some_entry t) [ inr s ↦ inr (suc s.0, s.1) | inl z ↦ inl (both x t e z) ]
]
  where
    both : (x : ℤ) (t : List ℤ) → x ≡ pos 0 → ((q : ℕ) → entry_at t q ≡ pos 0) → (q : ℕ) → entry_at (x ∷ t) q ≡ pos 0
    both x t e z zero = e
    both x t e z (suc q) = z q

single_up : (h t : List ℤ) → UpTo 1 h → IsSingle t → unsigned_abs (dot h t) ≤ 1
single_up h t u s = elim (some_entry t) [
  | inl z ↦ subst (λ (d : ℤ). unsigned_abs d ≤ 1) (sym (dot_none h t z)) (omega arith)
  | inr p ↦ subst (λ (d : ℤ). unsigned_abs d ≤ 1) (sym (dot_at h t p.0 (others_none t p.0 s p.1)))
      (let q = product_up (entry_at h p.0) (entry_at t p.0) 1 1 (u.at p.0) (s.small.at p.0) in omega (arith, q))
]

-- brought along another one, the entries are up to 1, too
one_of_signs : (z : ℤ) → unsigned_abs z ≤ 1 → z ≢ pos 0 → (z ≡ pos 1) ⊎ (z ≡ negsuc 0)
one_of_signs (pos zero) l n = absurd (n refl)
one_of_signs (pos (suc zero)) l n = inl refl
one_of_signs (pos (suc (suc k))) l n = absurd (omega (arith, ints, l))
one_of_signs (negsuc zero) l n = inr refl
one_of_signs (negsuc (suc k)) l n = absurd (omega (arith, ints, l))

balanced : (h x l a b : ℤ) → (x ≡ pos 1) ⊎ (x ≡ negsuc 0) → (l ≡ pos 1) ⊎ (l ≡ negsuc 0) → a ≡ h *ℤ l → b ≡ h *ℤ x →
    unsigned_abs (a *ℤ x +ℤ neg_ℤ b *ℤ l) ≤ 1
balanced h x l a b (inl p) (inl q) e f =
    let g : a ≡ h *ℤ pos 1 = e ∙ ap (λ (z : ℤ). h *ℤ z) q in
    let k : b ≡ h *ℤ pos 1 = f ∙ ap (λ (z : ℤ). h *ℤ z) p in
    rw (p, q) (omega (arith, ints, g, k))
balanced h x l a b (inl p) (inr q) e f =
    let g : a ≡ h *ℤ negsuc 0 = e ∙ ap (λ (z : ℤ). h *ℤ z) q in
    let k : b ≡ h *ℤ pos 1 = f ∙ ap (λ (z : ℤ). h *ℤ z) p in
    rw (p, q) (omega (arith, ints, g, k))
balanced h x l a b (inr p) (inl q) e f =
    let g : a ≡ h *ℤ pos 1 = e ∙ ap (λ (z : ℤ). h *ℤ z) q in
    let k : b ≡ h *ℤ negsuc 0 = f ∙ ap (λ (z : ℤ). h *ℤ z) p in
    rw (p, q) (omega (arith, ints, g, k))
balanced h x l a b (inr p) (inr q) e f =
    let g : a ≡ h *ℤ negsuc 0 = e ∙ ap (λ (z : ℤ). h *ℤ z) q in
    let k : b ≡ h *ℤ negsuc 0 = f ∙ ap (λ (z : ℤ). h *ℤ z) p in
    rw (p, q) (omega (arith, ints, g, k))

left_alone : (a x b l : ℤ) → unsigned_abs a ≤ 1 → unsigned_abs x ≤ 1 → l ≡ pos 0 → unsigned_abs (a *ℤ x +ℤ b *ℤ l) ≤ 1
left_alone a x b l h k e = rw e (let p = product_up a x 1 1 h k in let q : a *ℤ x +ℤ b *ℤ pos 0 ≡ a *ℤ x = omega (arith, ints) in
    subst (λ (z : ℤ). unsigned_abs z ≤ 1) (sym q) (omega (arith, p)))

right_alone : (a x b l : ℤ) → unsigned_abs b ≤ 1 → unsigned_abs l ≤ 1 → x ≡ pos 0 → unsigned_abs (a *ℤ x +ℤ b *ℤ l) ≤ 1
right_alone a x b l h k e = rw e (let p = product_up b l 1 1 h k in let q : a *ℤ pos 0 +ℤ b *ℤ l ≡ b *ℤ l = omega (arith, ints) in
    subst (λ (z : ℤ). unsigned_abs z ≤ 1) (sym q) (omega (arith, p)))

level_single : (n : ℕ) (h l x y : List ℤ) → length l ≡ n → length x ≡ n → UpTo 1 h → IsSingle l → IsSingle x → IsLeveled h l x y → UpTo 1 y
level_single n h l x y ll lx u sl sx (inl k) = subst (UpTo 1) (sym k.1) sx.small
level_single n h l x y ll lx u sl sx (inr k) = up_divided 1 (pair h l x) y k.1.0 k.1.1 (record { at = at })
  where
    value : (p : ℕ) → entry_at (pair h l x) p ≡ dot h l *ℤ entry_at x p +ℤ neg_ℤ (dot h x) *ℤ entry_at l p
    value p =
        entry_plus (scaled (dot h l) x) (scaled (neg_ℤ (dot h x)) l) p (length-times (dot h l) x ∙ lx ∙ sym (length-times (neg_ℤ (dot h x)) l ∙ ll))
        ∙ ap (λ (z : ℤ). z +ℤ entry_at (scaled (neg_ℤ (dot h x)) l) p) (entry_times (dot h l) x p)
        ∙ ap (λ (z : ℤ). dot h l *ℤ entry_at x p +ℤ z) (entry_times (neg_ℤ (dot h x)) l p)

    small : (p : ℕ) → unsigned_abs (dot h l *ℤ entry_at x p +ℤ neg_ℤ (dot h x) *ℤ entry_at l p) ≤ 1
    small p = elim (zero_or_not (entry_at l p)) [
      | inl e ↦ left_alone (dot h l) (entry_at x p) (neg_ℤ (dot h x)) (entry_at l p) (single_up h l u sl) (sx.small.at p) e
      | inr nl ↦ elim (zero_or_not (entry_at x p)) [
        | inl e ↦ right_alone (dot h l) (entry_at x p) (neg_ℤ (dot h x)) (entry_at l p) (neg_up (dot h x) 1 (single_up h x u sx)) (sl.small.at p) e
        | inr nx ↦ balanced (entry_at h p) (entry_at x p) (entry_at l p) (dot h l) (dot h x) (one_of_signs (entry_at x p) (sx.small.at p) nx)
            (one_of_signs (entry_at l p) (sl.small.at p) nl)
            (dot_at h l p (others_none l p sl nl)) (dot_at h x p (others_none x p sx nx))
      ]
    ]

    at : (p : ℕ) → unsigned_abs (entry_at (pair h l x) p) ≤ 1
    at p = subst (λ (z : ℤ). unsigned_abs z ≤ 1) (sym (value p)) (small p)

-- ---- one row

pair_up : (n s m : ℕ) (h p q y : List ℤ) → GivesUpTo n s h → length p ≡ n → length q ≡ n → UpTo m p → UpTo m q → IsPrimitivePart (pair h p q) y →
    UpTo (next s m) y
pair_up n s m h p q y g lp lq up uq d =
    up_divided (next s m) (pair h p q) y d.0 d.1 (up_sum (s * m * m) (s * m * m) (scaled (dot h p) q) (scaled (neg_ℤ (dot h q)) p)
    (up_times (dot h p) (s * m) m q (g m p lp up) uq) (up_times (neg_ℤ (dot h q)) (s * m) m p (neg_up (dot h q) (s * m) (g m q lq uq)) up))

level_up : (n s m : ℕ) (h l x y : List ℤ) → 1 ≤ s → 1 ≤ m → GivesUpTo n s h → length l ≡ n → length x ≡ n → UpTo m l → UpTo m x → IsLeveled h l x y →
    UpTo (next s m) y
level_up n s m h l x y hs hm g ll lx ul ux (inl k) = subst (UpTo (next s m)) (sym k.1) (up_weaker m (next s m) x (rises s m hs hm) ux)
level_up n s m h l x y hs hm g ll lx ul ux (inr k) = pair_up n s m h l x y g ll lx ul ux k.1

opposite_up : (m : ℕ) (x : List ℤ) → UpTo m x → UpTo m (opposite x)
opposite_up m x u = up_weaker (1 * m) m (opposite x) (omega arith) (up_times (negsuc 0) 1 m x (omega arith) u)

-- the lineality vector, or its opposite
line_at : (P : List ℤ → Type 0) (h : List ℤ) (lin : List (List ℤ)) (i : ℕ) (l : List ℤ) → IsLine h lin i l → ((x : List ℤ) → P x → P (opposite x)) →
    ((x : List ℤ) → Contains lin x → P x) → P l
line_at P h lin i l k turn each =
    let at = get_or lin i [] in
    let here : P at = each at (i, k.inside, get_or_default lin i at [] k.inside) in
    elim (k.signed) [ inl e ↦ subst P (sym e) here | inr e ↦ subst P (sym e) (turn at here) ]

opposite_long : (n : ℕ) (x : List ℤ) → length x ≡ n → length (opposite x) ≡ n
opposite_long n x e = length-times (negsuc 0) x ∙ e

split_up : (n s m : ℕ) (h : List ℤ) (lin : List (List ℤ)) (old middle out : List Ray) → 1 ≤ s → 1 ≤ m → GivesUpTo n s h →
    ((x : List ℤ) → Contains (vectors_of old) x → length x ≡ n) → IsSplit h old middle → IsPruned middle out → BothUpTo m lin (vectors_of old) →
    BothUpTo (next s m) lin (vectors_of out)
split_up n s m h lin old middle out hs hm g wide k p q = record {
  first = record { each = λ x c. up_weaker m (next s m) x (rises s m hs hm) (q.first.each x c) };
  second = record {
    each = λ x c.
        let y = of_vector out x c in
        subst (UpTo (next s m)) (sym y.1.1) (elim (k.drawn y.0 (of_pruned middle out y.0 p y.1.0)) [
          | inl t ↦ subst (UpTo (next s m)) (sym t.vector)
              (up_weaker m (next s m) t.r.vector (rises s m hs hm) (q.second.each t.r.vector (vector_in old t.r t.in_r)))
          | inr t ↦
              let a = vector_in old t.p t.in_p in
              let b = vector_in old t.q t.in_q in
              pair_up n s m h t.p.vector t.q.vector y.0.vector g (wide t.p.vector a) (wide t.q.vector b) (q.second.each t.p.vector a)
              (q.second.each t.q.vector b) t.divided
        ]);
  };
}

lined_up : (n s m : ℕ) (h l : List ℤ) (whole lines : List (List ℤ)) (i count : ℕ) (old out : List Ray) → 1 ≤ s → 1 ≤ m → GivesUpTo n s h →
    ((x : List ℤ) → Contains whole x → length x ≡ n) → ((x : List ℤ) → Contains (vectors_of old) x → length x ≡ n) → IsLine h whole i l →
    IsLinedBy h l (remove whole i) old count lines out → BothUpTo m whole (vectors_of old) → BothUpTo (next s m) lines (vectors_of out)
lined_up n s m h l whole lines i count old out hs hm g wide long k z q =
    let ul : UpTo m l = line_at (UpTo m) h whole i l k (opposite_up m) q.first.each in
    let ll : length l ≡ n = line_at (λ (x : List ℤ). length x ≡ n) h whole i l k (opposite_long n) wide in
    record {
      first = record {
        each = λ x c.
            let t = zip_from (IsLeveled h l) (remove whole i) lines x z.leveled c in
            let ct = of_rest whole i t.0 k.inside t.1.0 in
            level_up n s m h l t.0 x hs hm g ll (wide t.0 ct) ul (q.first.each t.0 ct) t.1.1;
      };
      second = record {
        each = λ x c.
            let y = of_vector out x c in
            subst (UpTo (next s m)) (sym y.1.1) (elim (Contains-last z.middle z.ray y.0 (subst (λ (o : List Ray). Contains o y.0) z.all y.1.0)) [
              | inl a ↦
                  let t = zip_from (IsLeveledRay h l) old z.middle y.0 z.rays_leveled a in
                  let ct = vector_in old t.0 t.1.0 in
                  level_up n s m h l t.0.vector y.0.vector hs hm g ll (long t.0.vector ct) ul (q.second.each t.0.vector ct) t.1.1.0
              | inr e ↦ subst (UpTo (next s m)) (sym (ap (λ (o : Ray). o.vector) e ∙ z.vector)) (up_weaker m (next s m) l (rises s m hs hm) ul)
            ]);
      };
    }

-- ---- the first row

begun_state : (n : ℕ) (hs lin : List (List ℤ)) (rays : List Ray) → length hs ≡ 0 → IsReachedState n [] hs lin rays →
    ((x : List ℤ) → Contains lin x → IsSingle x) × ((r : Ray) → Contains rays r → ⊥)
begun_state n hs lin rays z (states.begun basis k) = (null_single n basis k, λ r c. none_in r c)
begun_state n hs lin rays z (states.split before lines old middle out h whole e f k p g r) = absurd (omega (arith, z, snoc_long before h hs e))
begun_state n hs lin rays z (states.lined before whole lines old out h l i all e k b r) = absurd (omega (arith, z, snoc_long before h hs e))

first_split : (h : List ℤ) (lin : List (List ℤ)) (old middle out : List Ray) → ((x : List ℤ) → Contains lin x → IsSingle x) →
    ((r : Ray) → Contains old r → ⊥) → IsSplit h old middle → IsPruned middle out → BothUpTo 1 lin (vectors_of out)
first_split h lin old middle out single none k p = record {
  first = record { each = λ x c. (single x c).small };
  second = record {
    each = λ x c.
        let y = of_vector out x c in
        elim (k.drawn y.0 (of_pruned middle out y.0 p y.1.0)) [ inl t ↦ absurd (none t.r t.in_r) | inr t ↦ absurd (none t.p t.in_p) ];
  };
}

first_lined : (n : ℕ) (h l : List ℤ) (whole lines : List (List ℤ)) (i count : ℕ) (old out : List Ray) → UpTo 1 h →
    ((x : List ℤ) → Contains whole x → length x ≡ n) → ((x : List ℤ) → Contains whole x → IsSingle x) → ((r : Ray) → Contains old r → ⊥) →
    IsLine h whole i l → IsLinedBy h l (remove whole i) old count lines out → BothUpTo 1 lines (vectors_of out)
first_lined n h l whole lines i count old out u wide single none k z =
    let sl : IsSingle l = line_at IsSingle h whole i l k opposite_single single in
    let ll : length l ≡ n = line_at (λ (x : List ℤ). length x ≡ n) h whole i l k (opposite_long n) wide in
    record {
      first = record {
        each = λ x c.
            let t = zip_from (IsLeveled h l) (remove whole i) lines x z.leveled c in
            let ct = of_rest whole i t.0 k.inside t.1.0 in
            level_single n h l t.0 x ll (wide t.0 ct) u sl (single t.0 ct) t.1.1;
      };
      second = record {
        each = λ x c.
            let y = of_vector out x c in
            subst (UpTo 1) (sym y.1.1) (elim (Contains-last z.middle z.ray y.0 (subst (λ (o : List Ray). Contains o y.0) z.all y.1.0)) [
              | inl a ↦ absurd (let t = zip_from (IsLeveledRay h l) old z.middle y.0 z.rays_leveled a in none t.0 t.1.0)
              | inr e ↦ subst (UpTo 1) (sym (ap (λ (o : Ray). o.vector) e ∙ z.vector)) sl.small
            ]);
      };
    }

-- ---- row by row

module _ (n : ℕ) (before : List (List ℤ)) (h : List ℤ) (hs : List (List ℤ)) (e : hs ≡ before ++ h ∷ []) (m : AreMeasured n hs) (whole : List (List ℤ))
    (old : List Ray) (r : IsReachedState n [] before whole old) (q : BothUpTo (reached (length before)) whole (vectors_of old)) where
  wide : (x : List ℤ) → Contains whole x → length x ≡ n
  wide = (reached_state n [] before whole old (no_widths n) r).described.lin_width

  long : (x : List ℤ) → Contains (vectors_of old) x → length x ≡ n
  long = (reached_state n [] before whole old (no_widths n) r).described.rays_width

  gives : (k : ℕ) → length before ≡ k → GivesUpTo n (size_of k) h
  gives k p = subst (λ (i : ℕ). GivesUpTo n (size_of i) h) p (measured_at n before [] h hs e m)

  old_up : (k : ℕ) → length before ≡ k → BothUpTo (reached k) whole (vectors_of old)
  old_up k p = subst (λ (i : ℕ). BothUpTo (reached i) whole (vectors_of old)) p q

  after_split : (middle out : List Ray) (k : ℕ) → length before ≡ k → IsSplit h old middle → IsPruned middle out →
      BothUpTo (reached (suc k)) whole (vectors_of out)
  after_split middle out zero p s g = let b = begun_state n before whole old p r in first_split h whole old middle out b.0 b.1 s g
  after_split middle out (suc k) p s g =
      split_up n (size_of (suc k)) (reached (suc k)) h whole old middle out (some_size (suc k)) (reached_some (suc k)) (gives (suc k) p) long s g
      (old_up (suc k) p)

  after_line : (l : List ℤ) (lines : List (List ℤ)) (i count : ℕ) (out : List Ray) (k : ℕ) → length before ≡ k → IsLine h whole i l →
      IsLinedBy h l (remove whole i) old count lines out → BothUpTo (reached (suc k)) lines (vectors_of out)
  after_line l lines i count out zero p s g =
      let b = begun_state n before whole old p r in
      first_lined n h l whole lines i count old out (m.small.each h (measured_there n before [] h hs e m)) wide b.0 b.1 s g
  after_line l lines i count out (suc k) p s g =
      lined_up n (size_of (suc k)) (reached (suc k)) h l whole lines i count old out (some_size (suc k)) (reached_some (suc k)) (gives (suc k) p) wide long s g
      (old_up (suc k) p)

reached_up : (n : ℕ) (hs lin : List (List ℤ)) (rays : List Ray) → AreMeasured n hs → IsReachedState n [] hs lin rays →
    BothUpTo (reached (length hs)) lin (vectors_of rays)
reached_up n hs lin rays m (states.begun basis k) = record {
  first = record { each = λ x c. (null_single n basis k x c).small };
  second = record { each = λ x c. absurd (none_in x c) };
}
reached_up n hs lin rays m (states.split before lines old middle out h whole e f k p g r) =
    subst (λ (i : ℕ). BothUpTo (reached i) lin (vectors_of rays)) (sym (snoc_long before h hs e))
    (after_split n before h hs e m lin old r (reached_up n before lin old (measured_front n before [] h hs e m) r) middle rays (length before) refl k p)
reached_up n hs lin rays m (states.lined before whole lines old out h l i all e k b r) =
    subst (λ (j : ℕ). BothUpTo (reached j) lin (vectors_of rays)) (sym (snoc_long before h hs e))
    (after_line n before h hs e m whole old r (reached_up n before whole old (measured_front n before [] h hs e m) r) l lin i _ rays (length before) refl k b)

-- ---- the operations of a row

not_add : Add ≢ Mul
not_add e = cc

module _ (n s m row : ℕ) (h : List ℤ) (lin : List (List ℤ)) (rays : List Ray) (o : ConeOverflow) (e : length h ≡ n) (u : UpTo 1 h) (g : GivesUpTo n s h)
    (wide : (x : List ℤ) → Contains lin x → length x ≡ n) (long : (x : List ℤ) → Contains (vectors_of rays) x → length x ≡ n)
    (q : BothUpTo m lin (vectors_of rays)) (small : n * (1 * m) < 2 ^ 127) (room : next s m < 2 ^ 127) where
  no_level : (l x : List ℤ) → length l ≡ n → length x ≡ n → UpTo m l → UpTo m x → IsLeveling row h l x o → ⊥
  no_level l x ll lx ul ux (inl k) = no_dot n 1 m row h x o (omega (arith, e)) u ux small k
  no_level l x ll lx ul ux (inr (inl k)) =
      no_combining row Add (dot h l) x (neg_ℤ (dot h x)) l o (s * m) m (s * m) m not_add (g m l ll ul) ux (neg_up (dot h x) (s * m) (g m x lx ux)) ul room k.1
  no_level l x ll lx ul ux (inr (inr k)) =
      no_combining row Add (dot h l) x (dot h x) (opposite l) o (s * m) m (s * m) m not_add (g m l ll ul) ux (g m x lx ux) (opposite_up m l ul) room k.1

  no_row_step : IsRowStep row h lin rays o → ⊥
  no_row_step (levels.lineal t) =
      no_dot n 1 m row h (get_or lin t.index []) o (omega (arith, e)) u
      (q.first.each (get_or lin t.index []) (t.index, t.inside, get_or_default lin t.index (get_or lin t.index []) [] t.inside)) small t.step
  no_row_step (levels.splitting f (splits.testing r c k)) =
      no_dot n 1 m row h r.vector o (omega (arith, e)) u (q.second.each r.vector (vector_in rays r c)) small k
  no_row_step (levels.splitting f (splits.pairing p r cp cr up down free k)) =
      let a = vector_in rays p cp in
      let b = vector_in rays r cr in
      let ua = q.second.each p.vector a in
      let ub = q.second.each r.vector b in
      no_combining row Add (dot h p.vector) r.vector (neg_ℤ (dot h r.vector)) p.vector o (s * m) m (s * m) m not_add (g m p.vector (long p.vector a) ua) ub
      (neg_up (dot h r.vector) (s * m) (g m r.vector (long r.vector b) ub)) ua room k
  no_row_step (levels.leveling i l y line cy k) =
      no_level l y (line_at (λ (x : List ℤ). length x ≡ n) h lin i l line (opposite_long n) wide) (elim cy [
        | inl c ↦ wide y (of_rest lin i y line.inside c)
        | inr c ↦ long y c
      ])
      (line_at (UpTo m) h lin i l line (opposite_up m) q.first.each) (elim cy [
        | inl c ↦ q.first.each y (of_rest lin i y line.inside c)
        | inr c ↦ q.second.each y c
      ]) k

-- ---- at the end, where the lineality space is zero

zero_lines : (n : ℕ) (hs lin : List (List ℤ)) (rays : List Ray) → IsPointed n hs → IsReachedState n [] hs lin rays → (x : List ℤ) → Contains lin x → x ≡ zeros n
zero_lines n hs lin rays p r x c =
    let t = (reached_state n [] hs lin rays (no_widths n) r).described in
    p x (t.lin_width x c) (λ h k. t.valid.flat h x k c)

straight_none : (ys : List (List ℤ)) (x w : List ℤ) → length ys ≡ 0 → IsStraightened ys x w → w ≡ x
straight_none ys x w e (straights.done v) = refl
straight_none ys x w e (straights.next y rest v z u whole f k s) = absurd (omega (arith, e, ap length f))

own_zero : (n : ℕ) → dot (zeros n) (zeros n) ≡ pos 0
own_zero zero = refl
own_zero (suc n) = let q = own_zero n in omega (arith, ints, q)

orthogonal_none : (n : ℕ) (lin out : List (List ℤ)) → ((x : List ℤ) → Contains lin x → x ≡ zeros n) → IsOrthogonalized lin out → length out ≡ 0
orthogonal_none n lin out z straights.start = refl
orthogonal_none n lin out z (straights.added before old x w whole all e f r s up) =
    let o = orthogonal_none n before old (λ y c. z y (subst (λ (l : List (List ℤ)). Contains l y) (sym e) (first_in before x y c))) r in
    let q : w ≡ zeros n = straight_none old x w o s ∙ z x (sized_last before x lin e) in
    absurd (let k : dot w w ≡ pos 0 = ap (λ (v : List ℤ). dot v v) q ∙ own_zero n in omega (arith, ints, k, up))
orthogonal_none n lin out z (straights.gone before old x w whole e r s k) =
    orthogonal_none n before out (λ y c. z y (subst (λ (l : List (List ℤ)). Contains l y) (sym e) (first_in before x y c))) r

no_orthogonalizing : (row n : ℕ) (lin : List (List ℤ)) (o : ConeOverflow) → ((x : List ℤ) → Contains lin x → x ≡ zeros n) → IsOrthogonalizing row lin o → ⊥
no_orthogonalizing row n lin o z k =
    let none : length k.out ≡ 0 = orthogonal_none n k.before k.out
    (λ y c. z y (subst (λ (l : List (List ℤ)). Contains l y) (sym k.parts) (front_in k.before k.after k.x y c))) k.reached in
    elim (k.step) [
      | inl t ↦ let q = append_long t.before t.after t.y in omega (arith, none, q, ap length t.parts)
      | inr t ↦
          let q : t.0 ≡ zeros n =
          straight_none k.out k.x t.0 none t.1.0 ∙ z k.x (subst (λ (l : List (List ℤ)). Contains l k.x) (sym k.parts) (middle_in k.before k.after k.x)) in
          no_dot n 0 0 row (zeros n) (zeros n) o (omega (arith, length-zeros n)) (up_zeros 0 n) (up_zeros 0 n) (omega arith)
          (subst (λ (v : List ℤ). IsDotStep row v v o) q t.1.1)
    ]

no_null_step : (row n : ℕ) (o : ConeOverflow) → n ≤ 4 → IsNullStep row n [] o → ⊥
no_null_step row n o small (eliminations.eliminating k) = absurd (omega (arith, k.column))
no_null_step row n o small (eliminations.reducing out left e k) =
    let q = elimination_counts _ (columns n []) 0 out left e in
    let u = begin_rows _ n 0 [] out left (omega (arith, q.0)) e in
    no_elimination row n 1 (map (drop 0) left) n n o (record { each = λ x c. unitary_up x (u.each x c) }) (inl (omega arith)) (turned_room n small) k

-- ---- all together

pub no_rays_step : (n : ℕ) (hs : List (List ℤ)) (o : ConeOverflow) → n ≤ 4 → length hs ≤ 7 → AreMeasured n hs → IsPointed n hs → IsRaysStep n hs [] o → ⊥
no_rays_step n hs o small few m p (states.null_space k) = no_null_step _ n o small k
no_rays_step n hs o small few m p (states.taking before after lin rays h e r k) =
    let front = measured_front n before after h hs e m in
    let there = measured_there n before after h hs e m in
    let d = (reached_state n [] before lin rays (no_widths n) r).described in
    let l : length before ≤ 6 = (let q = more n before after h hs e m in omega (arith, q, few)) in
    no_row_step n (size_of (length before)) (reached (length before)) (length before) h lin rays o (m.long h there) (m.small.each h there)
    (measured_at n before after h hs e m) d.lin_width d.rays_width (reached_up n before lin rays front r) (dot_room n (length before) small l)
    (step_room (length before) l) k
no_rays_step n hs o small few m p (states.lineality lin rays r k) = no_orthogonalizing _ n lin o (zero_lines n hs lin rays p r) k
no_rays_step n hs o small few m p (states.straight lin ortho rays y r q c k) =
    let l : length ortho ≡ 0 = orthogonal_none n lin ortho (zero_lines n hs lin rays p r) q in
    let t = append_long k.before k.after k.y in
    absurd (omega (arith, l, t, ap length k.parts))
no_rays_step n hs o small few m p (states.echelon lin rays r k) =
    no_elimination _ n 1 lin n n o (record { each = λ x c. subst (UpTo 1) (sym (zero_lines n hs lin rays p r x c)) (up_zeros 1 n) }) (inl (omega arith))
    (turned_room n small) k
no_rays_step n hs o small few m p (states.implied flat c k) =
    no_elimination _ n 1 (flat ++ []) n n o (record {
      each = λ x i. elim (Contains-append_cases flat [] x i) [
        | inl a ↦ m.small.each x (chosen_in (IsZeroOn n hs []) hs flat x c a)
        | inr a ↦ absurd (none_in x a)
      ];
    }) (inl (omega arith)) (turned_room n small) k
