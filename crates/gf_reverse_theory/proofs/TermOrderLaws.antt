-- A term order compares finitely many monomials as some positive weight does, by Gordan's alternative. So each ideal has one reduced
-- Gröbner basis for it, and a positive weight gives that basis.
-- To cite: term_order_exists, term_orders_have_bases. The rest are steps.
-- Source: Sturmfels, Gröbner Bases and Convex Polytopes, 1 (a weight in place of an order).
use Rattle.std.specs.List.{AllByRecursion}
use Rattle.std.proofs.Common.{◌≡◌, ◌⊎◌, ℕ, zero, suc, ◌+◌, ◌<◌, ◌≤◌, true, List, [], ◌∷◌, ◌++◌, map, length, unsigned_abs, ℤ, pos, negsuc, ◌+ℤ◌, ◌-ℤ◌, ◌*ℤ◌}
use Rattle.std.proofs.Common.{◌<ℤ◌, ◌≤ℤ◌, arith, refl, sym, ap, ap₂, ◌∙◌, subst, inl, inr}
use Rattle.std.proofs.lemmas.Bool.{cases_eq}
use Rattle.std.proofs.lemmas.Int.{ints}
use Rattle.std.proofs.lemmas.List.Elements.{All-nil, All-from_recursion, recursion_from_All}
use Rattle.gf_int_theory.specs.Content.{scaled}
use Rattle.gf_int_theory.proofs.RingLaws.{dv, dn, ◌⊕◌, ◌⊖◌, ◌⊗◌, same as same_number}
use Rattle.gf_vec.specs.Vector.{dot, entry_at, vector_sum, zeros, combined, SomePositive}
use Rattle.gf_vec.proofs.VectorLaws.{length-times, length-combined}
use Rattle.gf_vec.proofs.EntryLaws.{entry_times, entry_plus}
use Rattle.gf_gordan.specs.Alternative.{IsSolvable, IsRefutable}
use Rattle.gf_gordan.proofs.ExistenceLaws.{alternative}
use Rattle.gf_exponents_theory.specs.Exponents.{Exponents, entry, same, plus, whole_weight}
use Rattle.gf_exponents_theory.specs.Orders.{IsMonomialOrder, IsTermOrder, lighter, gains}
use Rattle.gf_exponents_theory.proofs.ExponentsLaws.{plus_comm, same_trans, same_flip, same_shift, same_shift_right, entry-plus, same_by_entries, entries_same}
use Rattle.gf_poly.specs.Polynomial.{Terms}
use Rattle.gf_poly.specs.Marking.{MarkedPolynomial}
use Rattle.gf_ideal_theory.specs.Membership.{AreInVariables}
use Rattle.gf_ideal_theory.specs.MonomialOrders.{IsOfGrade}
use Rattle.gf_ideal_theory.specs.Marks.{AreMarked}
use Rattle.gf_ideal_theory.specs.Bases.{IsBasis, IsReducedBasisFor}
use Rattle.gf_ideal_theory.proofs.OrderWeights.{IsShort, HasWeightsFor, grading}
use Rattle.gf_ideal_theory.proofs.InterreductionLaws.{reduced_by_order}
use Rattle.gf_ideal_theory.proofs.ArrangedLists.{arranged_equal}
use Rattle.gf_ideal_theory.proofs.UniquenessLaws.{unique_by_order}
use Rattle.gf_reverse_search.specs.Listing.{Among}
use Rattle.gf_facets_theory.specs.Rows.{differences}
use Rattle.gf_facets_theory.specs.Regions.{IsInRegion, all_positive}
use Rattle.gf_facets_theory.specs.MarkedBases.{IsMarkedReducedBasis}
use Rattle.gf_facets_theory.proofs.RowLaws.{length-differences, get-differences, dot-differences}
use Rattle.gf_facets_theory.proofs.RegionLaws.{region-weight}
use Rattle.gf_bases_theory.proofs.ExistenceLaws.{homogeneous_in_ring}
use Rattle.gf_bases_theory.proofs.ReducedFormLaws.{reduced_form}
use Rattle.gf_bases_theory.proofs.RunLaws.{basis_exists}
use Rattle.gf_reverse_theory.specs.TermOrders.{below_by, TermOrdersHaveBases}
use Rattle.gf_exponents_theory.proofs.SixOrdersLaws.{entry-variable, variable}

-- ---- powers

-- the k-th power of a monomial
abbrev power : ℕ → Exponents → Exponents
power zero x = []
power (suc k) x = plus x (power k x)

whole-sum : (a b : ℕ) → pos (a + b) ≡ pos a +ℤ pos b
whole-sum a b = omega (arith, ints)

one_more : (k : ℕ) (a b c d : ℤ) → a -ℤ b ≡ pos k *ℤ (c -ℤ d) → (c +ℤ a) -ℤ (d +ℤ b) ≡ pos (suc k) *ℤ (c -ℤ d)
one_more k a b c d e =
    let next : pos 1 +ℤ pos k ≡ pos (suc k) = omega (arith, ints) in
    same_number ((dv c ⊕ dv a) ⊖ (dv d ⊕ dv b)) ((dv c ⊖ dv d) ⊕ (dv a ⊖ dv b)) (omega arith)
    ∙ ap (λ z. (c -ℤ d) +ℤ z) e
    ∙ same_number ((dv c ⊖ dv d) ⊕ dn k ⊗ (dv c ⊖ dv d)) ((dn 1 ⊕ dn k) ⊗ (dv c ⊖ dv d)) (omega arith)
    ∙ ap (λ z. z *ℤ (c -ℤ d)) next

powers-differ : (k : ℕ) (x y : Exponents) (i : ℕ) → pos (entry (power k y) i) -ℤ pos (entry (power k x) i) ≡ pos k *ℤ (pos (entry y i) -ℤ pos (entry x i))
powers-differ zero x y i = omega (arith, ints)
powers-differ (suc k) x y i =
    ap₂ (λ (a b : ℕ). pos a -ℤ pos b) (entry-plus y (power k y) i) (entry-plus x (power k x) i)
    ∙ ap₂ (λ (a b : ℤ). a -ℤ b) (whole-sum (entry y i) (entry (power k y) i)) (whole-sum (entry x i) (entry (power k x) i))
    ∙ one_more k (pos (entry (power k y) i)) (pos (entry (power k x) i)) (pos (entry y i)) (pos (entry x i)) (powers-differ k x y i)

-- ---- an order, and pairs of monomials of which the first is below the second

module _ (n : ℕ) (below : Exponents → Exponents → Type 0) (o : IsMonomialOrder below) where
  -- the same monomial, or below
  abbrev UpTo : Exponents → Exponents → Type 0
  UpTo x y = (same x y ≡ true) ⊎ below x y

  shifted : (z x y : Exponents) → below x y → below (plus x z) (plus y z)
  shifted z x y l = subst (λ u. below u (plus y z)) (plus_comm z x) (subst (λ u. below (plus z x) u) (plus_comm z y) (o.strict.invariant z x y l))

  below_up : (x y u v : Exponents) → below x y → UpTo u v → below (plus x u) (plus y v)
  below_up x y u v l (inl e) = o.strict.along_right (plus x u) (plus y u) (plus y v) (same_shift y u v e) (shifted u x y l)
  below_up x y u v l (inr k) = o.strict.transitive (plus x u) (plus y u) (plus y v) (shifted u x y l) (o.strict.invariant y u v k)

  up_below : (x y u v : Exponents) → UpTo x y → below u v → below (plus x u) (plus y v)
  up_below x y u v (inl e) k = o.strict.along_left (plus y u) (plus x u) (plus y v) (same_flip (plus x u) (plus y u) (same_shift_right u x y e))
      (o.strict.invariant y u v k)
  up_below x y u v (inr l) k = below_up x y u v l (inr k)

  up_up : (x y u v : Exponents) → UpTo x y → UpTo u v → UpTo (plus x u) (plus y v)
  up_up x y u v (inl e) (inl f) = inl (same_trans (plus x u) (plus y u) (plus y v) (same_shift_right u x y e) (same_shift y u v f))
  up_up x y u v (inl e) (inr k) = inr (up_below x y u v (inl e) k)
  up_up x y u v (inr l) k = inr (below_up x y u v l k)

  power_up : (k : ℕ) (x y : Exponents) → below x y → UpTo (power k x) (power k y)
  power_up zero x y l = inl refl
  power_up (suc k) x y l = inr (below_up x y (power k x) (power k y) l (power_up k x y l))

  -- a pair of n exponents each
  pub record IsPair (p : Exponents × Exponents) : Type 0 where
    pub lower : length p.0 ≡ n
    pub upper : length p.1 ≡ n
    pub rises : below p.0 p.1

  abbrev ArePairs : List (Exponents × Exponents) → Type 0
  ArePairs ps = AllByRecursion IsPair ps

  -- the product of powers of the lower ones, and of the upper ones
  abbrev lowers : List ℤ → List (Exponents × Exponents) → Exponents
  lowers [] ps = []
  lowers (m ∷ ms) [] = []
  lowers (m ∷ ms) (p ∷ ps) = plus (power (unsigned_abs m) p.0) (lowers ms ps)

  abbrev uppers : List ℤ → List (Exponents × Exponents) → Exponents
  uppers [] ps = []
  uppers (m ∷ ms) [] = []
  uppers (m ∷ ms) (p ∷ ps) = plus (power (unsigned_abs m) p.1) (uppers ms ps)

  products_up : (ms : List ℤ) (ps : List (Exponents × Exponents)) → ArePairs ps → UpTo (lowers ms ps) (uppers ms ps)
  products_up [] ps t = inl refl
  products_up (m ∷ ms) [] t = inl refl
  products_up (m ∷ ms) (p ∷ ps) t = up_up (power (unsigned_abs m) p.0) (power (unsigned_abs m) p.1) (lowers ms ps) (uppers ms ps)
      (power_up (unsigned_abs m) p.0 p.1 t.0.rises) (products_up ms ps t.1)

  positive_power : (m : ℤ) (x y u v : Exponents) → pos 0 <ℤ m → below x y → UpTo u v →
      below (plus (power (unsigned_abs m) x) u) (plus (power (unsigned_abs m) y) v)
  positive_power (pos zero) x y u v l b k = absurd (omega (arith, ints, l))
  positive_power (pos (suc m)) x y u v l b k = below_up (power (suc m) x) (power (suc m) y) u v (below_up x y (power m x) (power m y) b (power_up m x y b)) k
  positive_power (negsuc m) x y u v l b k = absurd (omega (arith, ints, l))

  products_rise : (ms : List ℤ) (ps : List (Exponents × Exponents)) → length ms ≡ length ps → SomePositive ms → ArePairs ps →
      below (lowers ms ps) (uppers ms ps)
  products_rise [] ps e s t = absurd s
  products_rise (m ∷ ms) [] e s t = absurd (omega arith)
  products_rise (m ∷ ms) (p ∷ ps) e (inl l) t = positive_power m p.0 p.1 (lowers ms ps) (uppers ms ps) l t.0.rises (products_up ms ps t.1)
  products_rise (m ∷ ms) (p ∷ ps) e (inr s) t =
      up_below (power (unsigned_abs m) p.0) (power (unsigned_abs m) p.1) (lowers ms ps) (uppers ms ps) (power_up (unsigned_abs m) p.0 p.1 t.0.rises)
      (products_rise ms ps (omega arith) s t.1)

  -- ---- their rows: the upper exponents less the lower ones

  abbrev rows : List (Exponents × Exponents) → List (List ℤ)
  rows [] = []
  rows (p ∷ ps) = differences p.1 p.0 ∷ rows ps

  rows_wide : (ps : List (Exponents × Exponents)) → ArePairs ps → AllByRecursion (λ t. length t ≡ n) (rows ps)
  rows_wide [] t = tt
  rows_wide (p ∷ ps) t = (length-differences p.1 p.0 (t.0.upper ∙ sym t.0.lower) ∙ t.0.upper, rows_wide ps t.1)

  length-rows : (ps : List (Exponents × Exponents)) → length (rows ps) ≡ length ps
  length-rows [] = refl
  length-rows (p ∷ ps) = ap suc (length-rows ps)

  entry-zeros : (k i : ℕ) → entry_at (zeros k) i ≡ pos 0
  entry-zeros zero i = refl
  entry-zeros (suc k) zero = refl
  entry-zeros (suc k) (suc i) = entry-zeros k i

  natural : (m : ℤ) → pos 0 ≤ℤ m → pos (unsigned_abs m) ≡ m
  natural (pos m) l = refl
  natural (negsuc m) l = absurd (omega (arith, ints, l))

  sum_of : (a b c d p q : ℤ) → a -ℤ b ≡ p → c -ℤ d ≡ q → (a +ℤ c) -ℤ (b +ℤ d) ≡ p +ℤ q
  sum_of a b c d p q e f = same_number ((dv a ⊕ dv c) ⊖ (dv b ⊕ dv d)) ((dv a ⊖ dv b) ⊕ (dv c ⊖ dv d)) (omega arith) ∙ ap₂ (λ (x y : ℤ). x +ℤ y) e f

  products-differ : (ms : List ℤ) (ps : List (Exponents × Exponents)) (i : ℕ) → AllByRecursion (λ m. pos 0 ≤ℤ m) ms → ArePairs ps →
      pos (entry (uppers ms ps) i) -ℤ pos (entry (lowers ms ps) i) ≡ entry_at (combined n ms (rows ps)) i
  products-differ [] ps i a t = sym (entry-zeros n i)
  products-differ (m ∷ ms) [] i a t = sym (entry-zeros n i)
  products-differ (m ∷ ms) (p ∷ ps) i a t =
      ap₂ (λ (x y : ℕ). pos x -ℤ pos y) (entry-plus (power k p.1) (uppers ms ps) i) (entry-plus (power k p.0) (lowers ms ps) i)
      ∙ ap₂ (λ (x y : ℤ). x -ℤ y) (whole-sum (entry (power k p.1) i) (entry (uppers ms ps) i)) (whole-sum (entry (power k p.0) i) (entry (lowers ms ps) i))
      ∙ sum_of (pos (entry (power k p.1) i)) (pos (entry (power k p.0) i)) (pos (entry (uppers ms ps) i)) (pos (entry (lowers ms ps) i))
      (entry_at (scaled m row) i) (entry_at (combined n ms (rows ps)) i) first (products-differ ms ps i a.1 t.1)
      ∙ sym (entry_plus (scaled m row) (combined n ms (rows ps)) i (length-times m row ∙ wide.0 ∙ sym (length-combined n ms (rows ps) wide.1)))
    where
      k : ℕ
      k = unsigned_abs m

      row : List ℤ
      row = differences p.1 p.0

      wide : AllByRecursion (λ s. length s ≡ n) (rows (p ∷ ps))
      wide = rows_wide (p ∷ ps) t

      first : pos (entry (power k p.1) i) -ℤ pos (entry (power k p.0) i) ≡ entry_at (scaled m row) i
      first =
          powers-differ k p.0 p.1 i
          ∙ ap (λ z. z *ℤ (pos (entry p.1 i) -ℤ pos (entry p.0 i))) (natural m a.0)
          ∙ ap (λ z. m *ℤ z) (sym (get-differences p.1 p.0 i (t.0.upper ∙ sym t.0.lower)))
          ∙ sym (entry_times m row i)

  -- ---- Gordan's alternative

  none-combined : (es : List ℤ) → combined n es [] ≡ zeros n
  none-combined [] = refl
  none-combined (e ∷ es) = refl

  -- no multipliers make the zero vector of the rows
  not_refutable : (ps : List (Exponents × Exponents)) → ArePairs ps → IsRefutable n (rows ps) [] → ⊥
  not_refutable ps t (ms, es, f) = o.strict.irreflexive (lowers ms ps) (uppers ms ps) (same_by_entries (lowers ms ps) (uppers ms ps) equal)
      (products_rise ms ps (f.rows_len ∙ length-rows ps) f.not_all_zero t)
    where
      zero_at : (i : ℕ) → entry_at (combined n ms (rows ps)) i ≡ pos 0
      zero_at i =
          let sum : entry_at (combined n ms (rows ps)) i +ℤ entry_at (zeros n) i ≡ pos 0 =
          sym (entry_plus (combined n ms (rows ps)) (zeros n) i (length-combined n ms (rows ps) (rows_wide ps t) ∙ sym (length-combined n [] [] tt)))
          ∙ ap (λ z. entry_at (vector_sum (combined n ms (rows ps)) z) i) (sym (none-combined es))
          ∙ ap (λ z. entry_at z i) f.zero_sum
          ∙ entry-zeros n i
          in
          omega (arith, ints, sum, entry-zeros n i)

      equal : (i : ℕ) → entry (lowers ms ps) i ≡ entry (uppers ms ps) i
      equal i = omega (arith, ints, products-differ ms ps i (recursion_from_All (λ m. pos 0 ≤ℤ m) ms f.not_negative) t, zero_at i)

  -- so some vector is positive on each of them
  solvable : (ps : List (Exponents × Exponents)) → ArePairs ps → IsSolvable n (rows ps) []
  solvable ps t = at (alternative.one n (rows ps) [] (All-from_recursion (λ s. length s ≡ n) (rows ps) (rows_wide ps t)) (All-nil (λ s. length s ≡ n)))
    where
      at : IsSolvable n (rows ps) [] ⊎ IsRefutable n (rows ps) [] → IsSolvable n (rows ps) []
      at (inl s) = s
      at (inr r) = absurd (not_refutable ps t r)

  -- it weighs the upper one more
  heavier : (v : List ℤ) (ps : List (Exponents × Exponents)) → ArePairs ps → AllByRecursion (λ s. pos 0 <ℤ dot s v) (rows ps) → (p : Exponents × Exponents) →
      Among ps p → whole_weight v p.0 <ℤ whole_weight v p.1
  heavier v [] t h p j = absurd j
  heavier v (q ∷ ps) t h p (inl e) =
      subst (λ z. whole_weight v z.0 <ℤ whole_weight v z.1) e (omega (arith, ints, h.0, dot-differences v q.1 q.0 (t.0.upper ∙ sym t.0.lower)))
  heavier v (q ∷ ps) t h p (inr j) = heavier v ps t.1 h.1 p j

  -- ---- all pairs of a list

  -- the pairs are such, and all of them with one of xs and one of ys
  pub record AreAllPairs (xs ys : List Exponents) (ps : List (Exponents × Exponents)) : Type 0 where
    pub pairs : AllByRecursion IsPair ps
    pub all : (x y : Exponents) → Among xs x → Among ys y → below x y → Among ps (x, y)

  abbrev AreWide : List Exponents → Type 0
  AreWide xs = AllByRecursion (λ x. length x ≡ n) xs

  below_or_not : (x y : Exponents) → below x y ⊎ (below x y → ⊥)
  below_or_not x y = at (o.total x y)
    where
      at : below x y ⊎ (same x y ≡ true) ⊎ below y x → below x y ⊎ (below x y → ⊥)
      at (inl l) = inl l
      at (inr (inl e)) = inr (o.strict.irreflexive x y e)
      at (inr (inr g)) = inr (λ l. o.strict.irreflexive x x (entries x) (o.strict.transitive x y x l g))
        where
          entries : (x : Exponents) → same x x ≡ true
          entries x = same_by_entries x x (λ i. refl)

  with_one : (x : Exponents) (ys : List Exponents) → length x ≡ n → AreWide ys → (ps : List (Exponents × Exponents)) × AreAllPairs (x ∷ []) ys ps
  with_one x [] e w = ([], record { pairs = tt; all = λ a b j k. absurd k })
  with_one x (y ∷ ys) e w = at (below_or_not x y) (with_one x ys e w.1)
    where
      at : below x y ⊎ (below x y → ⊥) → ((ps : List (Exponents × Exponents)) × AreAllPairs (x ∷ []) ys ps) →
          (ps : List (Exponents × Exponents)) × AreAllPairs (x ∷ []) (y ∷ ys) ps
      at (inl l) (ps, r) = ((x, y) ∷ ps, record { pairs = (record { lower = e; upper = w.0; rises = l }, r.pairs); all = all })
        where
          all : (a b : Exponents) → Among (x ∷ []) a → Among (y ∷ ys) b → below a b → Among ((x, y) ∷ ps) (a, b)
          all a b (inl q) (inl p) k = inl (ap₂ (λ (u v : Exponents). (u, v)) q p)
          all a b (inl q) (inr j) k = inr (r.all a b (inl q) j k)
          all a b (inr q) j k = absurd q
      at (inr g) (ps, r) = (ps, record { pairs = r.pairs; all = all })
        where
          all : (a b : Exponents) → Among (x ∷ []) a → Among (y ∷ ys) b → below a b → Among ps (a, b)
          all a b (inl q) (inl p) k = absurd (g (subst (λ u. below u y) (sym q) (subst (λ v. below a v) (sym p) k)))
          all a b (inl q) (inr j) k = r.all a b (inl q) j k
          all a b (inr q) j k = absurd q

  among_left : {A : Type 0} (xs ys : List A) (x : A) → Among xs x → Among (xs ++ ys) x
  among_left [] ys x j = absurd j
  among_left (y ∷ xs) ys x (inl e) = inl e
  among_left (y ∷ xs) ys x (inr j) = inr (among_left xs ys x j)

  among_right : {A : Type 0} (xs ys : List A) (x : A) → Among ys x → Among (xs ++ ys) x
  among_right [] ys x j = j
  among_right (y ∷ xs) ys x j = inr (among_right xs ys x j)

  append_pairs : (ps qs : List (Exponents × Exponents)) → AllByRecursion IsPair ps → AllByRecursion IsPair qs → AllByRecursion IsPair (ps ++ qs)
  append_pairs [] qs a b = b
  append_pairs (p ∷ ps) qs a b = (a.0, append_pairs ps qs a.1 b)

  all_pairs : (xs ys : List Exponents) → AreWide xs → AreWide ys → (ps : List (Exponents × Exponents)) × AreAllPairs xs ys ps
  all_pairs [] ys w u = ([], record { pairs = tt; all = λ a b j k. absurd j })
  all_pairs (x ∷ xs) ys w u = at (with_one x ys w.0 u) (all_pairs xs ys w.1 u)
    where
      at : ((ps : List (Exponents × Exponents)) × AreAllPairs (x ∷ []) ys ps) → ((ps : List (Exponents × Exponents)) × AreAllPairs xs ys ps) →
          (ps : List (Exponents × Exponents)) × AreAllPairs (x ∷ xs) ys ps
      at (ps, r) (qs, s) = (ps ++ qs, record { pairs = append_pairs ps qs r.pairs s.pairs; all = all })
        where
          all : (a b : Exponents) → Among (x ∷ xs) a → Among ys b → below a b → Among (ps ++ qs) (a, b)
          all a b (inl q) j k = among_left ps qs (a, b) (r.all a b (inl q) j k)
          all a b (inr q) j k = among_right ps qs (a, b) (s.all a b q j k)

-- ---- the monomials of a box

-- each of xs with each first exponent up to a
abbrev spread : ℕ → List Exponents → List Exponents
spread zero xs = map (λ x. 0 ∷ x) xs
spread (suc a) xs = map (λ x. suc a ∷ x) xs ++ spread a xs

-- those of n exponents up to k
abbrev box : ℕ → ℕ → List Exponents
box zero k = [] ∷ []
box (suc n) k = spread k (box n k)

mapped_wide : (n a : ℕ) (xs : List Exponents) → AllByRecursion (λ x. length x ≡ n) xs → AllByRecursion (λ x. length x ≡ suc n) (map (λ x. a ∷ x) xs)
mapped_wide n a [] w = tt
mapped_wide n a (x ∷ xs) w = (ap suc w.0, mapped_wide n a xs w.1)

joined_wide : (n : ℕ) (xs ys : List Exponents) → AllByRecursion (λ x. length x ≡ n) xs → AllByRecursion (λ x. length x ≡ n) ys →
    AllByRecursion (λ x. length x ≡ n) (xs ++ ys)
joined_wide n [] ys a b = b
joined_wide n (x ∷ xs) ys a b = (a.0, joined_wide n xs ys a.1 b)

spread_wide : (n a : ℕ) (xs : List Exponents) → AllByRecursion (λ x. length x ≡ n) xs → AllByRecursion (λ x. length x ≡ suc n) (spread a xs)
spread_wide n zero xs w = mapped_wide n 0 xs w
spread_wide n (suc a) xs w = joined_wide (suc n) (map (λ x. suc a ∷ x) xs) (spread a xs) (mapped_wide n (suc a) xs w) (spread_wide n a xs w)

box_wide : (n k : ℕ) → AllByRecursion (λ x. length x ≡ n) (box n k)
box_wide zero k = (refl, tt)
box_wide (suc n) k = spread_wide n k (box n k) (box_wide n k)

in_map : (a : ℕ) (xs : List Exponents) (x : Exponents) → Among xs x → Among (map (λ y. a ∷ y) xs) (a ∷ x)
in_map a [] x j = absurd j
in_map a (y ∷ xs) x (inl e) = inl (ap (λ z. a ∷ z) e)
in_map a (y ∷ xs) x (inr j) = inr (in_map a xs x j)

left_of : (xs ys : List Exponents) (x : Exponents) → Among xs x → Among (xs ++ ys) x
left_of [] ys x j = absurd j
left_of (y ∷ xs) ys x (inl e) = inl e
left_of (y ∷ xs) ys x (inr j) = inr (left_of xs ys x j)

right_of : (xs ys : List Exponents) (x : Exponents) → Among ys x → Among (xs ++ ys) x
right_of [] ys x j = j
right_of (y ∷ xs) ys x j = inr (right_of xs ys x j)

in_spread : (k a : ℕ) (xs : List Exponents) (x : Exponents) → a ≤ k → Among xs x → Among (spread k xs) (a ∷ x)
in_spread zero zero xs x l j = in_map 0 xs x j
in_spread zero (suc a) xs x l j = absurd (omega arith)
in_spread (suc k) a xs x l j = at (cases_eq a (suc k)) (λ m. in_spread k a xs x m j)
  where
    at : (a ≡ suc k) ⊎ (a ≡ suc k → ⊥) → (a ≤ k → Among (spread k xs) (a ∷ x)) → Among (spread (suc k) xs) (a ∷ x)
    at (inl e) r = left_of (map (λ y. suc k ∷ y) xs) (spread k xs) (a ∷ x) (subst (λ b. Among (map (λ y. suc k ∷ y) xs) (b ∷ x)) (sym e)
        (in_map (suc k) xs x j))
    at (inr d) r = right_of (map (λ y. suc k ∷ y) xs) (spread k xs) (a ∷ x) (r (omega (arith, l, d)))

-- the first n exponents
abbrev trimmed : ℕ → Exponents → Exponents
trimmed zero x = []
trimmed (suc n) [] = 0 ∷ trimmed n []
trimmed (suc n) (a ∷ x) = a ∷ trimmed n x

-- the others
abbrev beyond_first : ℕ → Exponents → Exponents
beyond_first zero x = x
beyond_first (suc n) [] = 0 ∷ beyond_first n []
beyond_first (suc n) (a ∷ x) = 0 ∷ beyond_first n x

in_box : (n k : ℕ) (x : Exponents) → ((i : ℕ) → entry x i ≤ k) → Among (box n k) (trimmed n x)
in_box zero k x h = inl refl
in_box (suc n) k [] h = in_spread k 0 (box n k) (trimmed n []) (omega arith) (in_box n k [] (λ i. omega arith))
in_box (suc n) k (a ∷ x) h = in_spread k a (box n k) (trimmed n x) (h 0) (in_box n k x (λ i. h (suc i)))

parts-entry : (n : ℕ) (x : Exponents) (i : ℕ) → entry (beyond_first n x) i + entry (trimmed n x) i ≡ entry x i
parts-entry zero x i = omega arith
parts-entry (suc n) [] zero = refl
parts-entry (suc n) [] (suc i) = parts-entry n [] i
parts-entry (suc n) (a ∷ x) zero = omega arith
parts-entry (suc n) (a ∷ x) (suc i) = parts-entry n x i

parts : (n : ℕ) (x : Exponents) → same (plus (beyond_first n x) (trimmed n x)) x ≡ true
parts n x = same_by_entries (plus (beyond_first n x) (trimmed n x)) x (λ i. entry-plus (beyond_first n x) (trimmed n x) i ∙ parts-entry n x i)

beyond_same : (n : ℕ) (x y : Exponents) → ((i : ℕ) → n ≤ i → entry x i ≡ entry y i) → (i : ℕ) → entry (beyond_first n x) i ≡ entry (beyond_first n y) i
beyond_same zero x y h i = h i (omega arith)
beyond_same (suc n) [] [] h i = refl
beyond_same (suc n) [] (b ∷ y) h zero = refl
beyond_same (suc n) [] (b ∷ y) h (suc i) = beyond_same n [] y (λ j l. h (suc j) (omega arith)) i
beyond_same (suc n) (a ∷ x) [] h zero = refl
beyond_same (suc n) (a ∷ x) [] h (suc i) = beyond_same n x [] (λ j l. h (suc j) (omega arith)) i
beyond_same (suc n) (a ∷ x) (b ∷ y) h zero = refl
beyond_same (suc n) (a ∷ x) (b ∷ y) h (suc i) = beyond_same n x y (λ j l. h (suc j) (omega arith)) i

weight-trimmed : (w : List ℤ) (x : Exponents) → whole_weight w (trimmed (length w) x) ≡ whole_weight w x
weight-trimmed [] x = refl
weight-trimmed (a ∷ w) [] = ap (λ z. a *ℤ pos 0 +ℤ z) (weight-trimmed w [] ∙ nil w) ∙ zero_part a
  where
    nil : (w : List ℤ) → whole_weight w [] ≡ pos 0
    nil [] = refl
    nil (b ∷ w) = refl

    zero_part : (a : ℤ) → a *ℤ pos 0 +ℤ pos 0 ≡ pos 0
    zero_part a = same_number (dv a ⊗ dn 0 ⊕ dn 0) (dn 0) (omega arith)
weight-trimmed (a ∷ w) (b ∷ x) = ap (λ z. a *ℤ pos b +ℤ z) (weight-trimmed w x)

-- ---- the trade of a term order for a weight

variable_past : (n i j : ℕ) → i < n → n ≤ j → entry (variable i) j ≡ 0
variable_past n zero zero l m = absurd (omega arith)
variable_past n zero (suc j) l m = refl
variable_past zero (suc i) j l m = absurd (omega arith)
variable_past (suc n) (suc i) zero l m = absurd (omega arith)
variable_past (suc n) (suc i) (suc j) l m = variable_past n i j (omega arith) (omega arith)

variable_small : (i j : ℕ) → entry (variable i) j ≤ 1
variable_small zero zero = omega arith
variable_small zero (suc j) = omega arith
variable_small (suc i) zero = omega arith
variable_small (suc i) (suc j) = variable_small i j

-- a vector that is positive on each variable is positive
positive_at : (v : List ℤ) → ((i : ℕ) → i < length v → pos 0 <ℤ whole_weight v (variable i)) → AllByRecursion (λ x. pos 0 <ℤ x) v
positive_at [] h = tt
positive_at (a ∷ v) h = (
  subst (λ z. pos 0 <ℤ z) (ap (λ z. a *ℤ pos 1 +ℤ z) (nothing v) ∙ one_part a) (h 0 (omega arith)),
  positive_at v (λ i l. subst (λ z. pos 0 <ℤ z) (rest_part a (whole_weight v (variable i))) (h (suc i) (omega arith))),
)
  where
    nothing : (v : List ℤ) → whole_weight v [] ≡ pos 0
    nothing [] = refl
    nothing (b ∷ v) = refl

    one_part : (a : ℤ) → a *ℤ pos 1 +ℤ pos 0 ≡ a
    one_part a = same_number (dv a ⊗ dn 1 ⊕ dn 0) (dv a) (omega arith)

    rest_part : (a b : ℤ) → a *ℤ pos 0 +ℤ b ≡ b
    rest_part a b = same_number (dv a ⊗ dn 0 ⊕ dv b) (dv b) (omega arith)

module _ (n : ℕ) (below : Exponents → Exponents → Type 0) (t : IsTermOrder n below) where
  same_itself : (x : Exponents) → same x x ≡ true
  same_itself x = same_by_entries x x (λ i. refl)

  -- where the other exponents agree, the first n decide
  trimmed_below : (x y : Exponents) → ((i : ℕ) → n ≤ i → entry x i ≡ entry y i) → below x y → below (trimmed n x) (trimmed n y)
  trimmed_below x y h l = at (t.order.total u v)
    where
      z : Exponents
      z = beyond_first n x

      u : Exponents
      u = trimmed n x

      v : Exponents
      v = trimmed n y

      of_x : same (plus z u) x ≡ true
      of_x = parts n x

      of_y : same (plus z v) y ≡ true
      of_y = same_by_entries (plus z v) y (λ i. entry-plus z v i ∙ ap (λ k. k + entry v i) (beyond_same n x y h i) ∙ parts-entry n y i)

      at : below u v ⊎ (same u v ≡ true) ⊎ below v u → below u v
      at (inl k) = k
      at (inr (inl e)) = absurd (t.order.strict.irreflexive x y (same_trans x (plus z u) y (same_flip (plus z u) x of_x)
          (same_trans (plus z u) (plus z v) y (same_shift z u v e) of_y)) l)
      at (inr (inr g)) = absurd (t.order.strict.irreflexive x x (same_itself x) (t.order.strict.transitive x y x l
          (t.order.strict.along_left (plus z v) y x of_y (t.order.strict.along_right (plus z v) (plus z u) x of_x (t.order.strict.invariant z v u g)))))

  -- in each box some weight compares as the order does
  term_weights : HasWeightsFor (IsOfGrade n []) below
  term_weights k = (gains v, λ x y p q a l. lighter_by x y p q a l)
    where
      xs : List Exponents
      xs = box n (suc k)

      ps : (ps : List (Exponents × Exponents)) × AreAllPairs n below t.order xs xs ps
      ps = all_pairs n below t.order xs xs (box_wide n (suc k)) (box_wide n (suc k))

      solution : IsSolvable n (rows n below t.order ps.0) []
      solution = solvable n below t.order ps.0 ps.1.pairs

      v : List ℤ
      v = solution.0

      weigh : (x : Exponents) → whole_weight v (trimmed n x) ≡ whole_weight v x
      weigh x = subst (λ m. whole_weight v (trimmed m x) ≡ whole_weight v x) solution.1.width (weight-trimmed v x)

      whole_below : (x y : Exponents) → ((i : ℕ) → entry x i ≤ suc k) → ((i : ℕ) → entry y i ≤ suc k) → ((i : ℕ) → n ≤ i → entry x i ≡ entry y i) → below x y →
          whole_weight v x <ℤ whole_weight v y
      whole_below x y p q a l =
          let h = heavier n below t.order v ps.0 ps.1.pairs (recursion_from_All (λ s. pos 0 <ℤ dot s v) (rows n below t.order ps.0) solution.1.positive)
          (trimmed n x, trimmed n y)
          (ps.1.all (trimmed n x) (trimmed n y) (in_box n (suc k) x p) (in_box n (suc k) y q) (trimmed_below x y a l)) in
          subst (λ z. z <ℤ whole_weight v y) (weigh x) (subst (λ z. whole_weight v (trimmed n x) <ℤ z) (weigh y) h)

      above_one : (i : ℕ) → i < n → below [] (variable i)
      above_one i l = at (t.least (variable i) (λ j m. variable_past n i j l m))
        where
          at : (same [] (variable i) ≡ true) ⊎ below [] (variable i) → below [] (variable i)
          at (inl e) = absurd (omega (arith, entries_same [] (variable i) e i, entry-variable i))
          at (inr b) = b

      nothing : (v : List ℤ) → whole_weight v [] ≡ pos 0
      nothing [] = refl
      nothing (b ∷ v) = refl

      region : IsInRegion n (all_positive n) v
      region = record {
        width = solution.1.width;
        positive = All-from_recursion (λ x. pos 0 <ℤ x) v (positive_at v (λ i l.
            let m : i < n = subst (λ z. i < z) solution.1.width l in
            subst (λ z. z <ℤ whole_weight v (variable i)) (nothing v) (whole_below [] (variable i) (λ j. omega arith) (λ j. omega (arith, variable_small i j))
            (λ j o. sym (variable_past n i j m o)) (above_one i m))));
        rows = All-nil (λ c. pos 0 <ℤ dot c v);
      }

      lighter_by : (x y : Exponents) → IsShort k x → IsShort k y → IsOfGrade n [] x y → below x y → lighter (gains v) x y
      lighter_by x y p q a l =
          let h : whole_weight v x <ℤ whole_weight v y = whole_below x y (λ i. omega (arith, p.small i)) (λ i. omega (arith, q.small i)) a.1 l in
          omega (arith, ints, h, region-weight n (all_positive n) v region x, region-weight n (all_positive n) v region y)

  -- ---- the reduced basis

  -- there is one, and a positive weight gives it
  pub term_order_exists : (fs : List Terms) → AreInVariables n fs →
      (bs : List MarkedPolynomial) × IsMarkedReducedBasis n fs bs × IsReducedBasisFor n fs below bs
  term_order_exists fs v = at (basis_exists n fs below (IsOfGrade n []) v t.order (grading n []) term_weights (homogeneous_in_ring n fs v))
    where
      at : ((bs : List MarkedPolynomial) × AreMarked below bs × IsBasis n fs bs) →
          (bs : List MarkedPolynomial) × IsMarkedReducedBasis n fs bs × IsReducedBasisFor n fs below bs
      at b =
          let r = reduced_form n fs b.0 below v t.order.strict b.2 b.1 in
          (r.0, r.1, reduced_by_order n fs r.0 below v r.1.reduced.basis t.order.strict r.2 r.1.reduced.tails r.1.reduced.heads)

pub term_orders_have_bases : TermOrdersHaveBases
term_orders_have_bases n fs less v t = (found.0, found.1, found.2, one)
  where
    found : (bs : List MarkedPolynomial) × IsMarkedReducedBasis n fs bs × IsReducedBasisFor n fs (below_by less) bs
    found = term_order_exists n (below_by less) t fs v

    one : (cs : List MarkedPolynomial) → IsMarkedReducedBasis n fs cs → IsReducedBasisFor n fs (below_by less) cs → found.0 ≡ cs
    one cs c r = arranged_equal n found.0 cs found.1.arranged c.arranged (unique_by_order n fs (below_by less) found.0 cs t.order found.2 r)
