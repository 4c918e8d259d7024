-- Tropical hypersurfaces, prevarieties and Minkowski fans of polynomials with few terms and small exponents are found and written within all limits.
-- To cite: tropical_fans_fit. The rest are steps.
use Rattle.std.proofs.Common.{◌≡◌, ◌⊎◌, ℕ, zero, suc, ◌≤◌, List, [], ◌∷◌, ◌++◌, length, map, get_or, ℤ, pos, ◌-ℤ◌, ◌≤ℤ◌, unsigned_abs, arith, sym}
use Rattle.std.proofs.Common.{ap, ◌∙◌, subst, inl, inr, All, Contains}
use Rattle.std.proofs.lemmas.Int.{ints}
use Rattle.std.proofs.lemmas.List.{length-map}
use Rattle.std.proofs.lemmas.List.Elements.{All-contains, Contains-append_cases, Contains-append_left, Contains-append_right}
use Rattle.gf_int_theory.proofs.SignLaws.{IsSigned, sign_of, negative, none, positive}
use Rattle.gf_int_theory.proofs.ListLaws.{Contains-here, all_by}
use Rattle.gf_vec.specs.Vector.{dot}
use Rattle.gf_duality_theory.specs.Faces.{Rows, IsInCone, SameCone}
use Rattle.gf_duality_theory.proofs.ListLaws.{none_in, in_tail, in_cons}
use Rattle.gf_fans_theory.proofs.PartNumbers.{of_map}
use Rattle.gf_rays.specs.Cones.{rows_of}
use Rattle.gf_rays.specs.Limits.{IsSmallSystem}
use Rattle.gf_poly.specs.declared.Term.{Term}
use Rattle.gf_poly.specs.Polynomial.{Terms, HasVariables}
use Rattle.gf_poly.proofs.ProductLaws.{HasVariables-at}
use Rattle.gf_patterns_theory.specs.Patterns.{points, IsClosedCone, IsOnPrevariety, IsAnywhere}
use Rattle.gf_patterns_theory.specs.PatternRows.{vector_difference}
use Rattle.gf_patterns_theory.proofs.RowLaws.{minus_long, dot_minus}
use Rattle.gf_tropical.specs.TropicalFans.{IsPatternFan}
use Rattle.gf_tropical.specs.Limits.{HaveExponentsUpTo, PolynomialsWithRoomStayWithinLimits}
use Rattle.gf_fan.specs.FanLists.{FanLists}
use Rattle.gfan_fans.specs.FanTexts.{IsWritingWithin}
use Rattle.gfan_theory.specs.TropicalFans.{AreFewTerms, TropicalFansFit}
use Rattle.gfan_theory.proofs.ConeRowLaws.{IsBounded, small_system}
use Rattle.gfan_theory.proofs.SmallFans.{writing_fits}

-- ---- points

-- a vector of n entries from 0 to b
record IsPoint (n b : ℕ) (x : List ℤ) : Type 0 where
  long : length x ≡ n
  low : (i : ℕ) → pos 0 ≤ℤ get_or x i (pos 0)
  high : (i : ℕ) → get_or x i (pos 0) ≤ℤ pos b

exponents_low : (es : List ℕ) (i : ℕ) → pos 0 ≤ℤ get_or (map pos es) i (pos 0)
exponents_low [] i = omega (arith, ints)
exponents_low (e ∷ es) zero = omega (arith, ints)
exponents_low (e ∷ es) (suc i) = exponents_low es i

exponents_high : (b : ℕ) (es : List ℕ) (i : ℕ) → All (λ e. e ≤ b) es → get_or (map pos es) i (pos 0) ≤ℤ pos b
exponents_high b [] i h = omega (arith, ints)
exponents_high b (e ∷ es) zero h = let p = h 0 0 (omega arith) in omega (arith, ints, p)
exponents_high b (e ∷ es) (suc i) h = exponents_high b es i (λ k d l. h (suc k) d (omega (arith, l)))

points_small : (n b : ℕ) (fs : List Terms) → All (HasVariables n) fs → HaveExponentsUpTo b fs → (A : List (List ℤ)) → Contains (map points fs) A →
    (x : List ℤ) → Contains A x → IsPoint n b x
points_small n b fs v u A c x i =
    let f = of_map points fs A c in
    let t = of_map (λ (t : Term). map pos t.mono) f.0 x (subst (λ (l : List (List ℤ)). Contains l x) (sym f.1.1) i) in
    let j = t.1.0 in
    let long : length t.0.mono ≡ n = HasVariables-at n f.0 j.0 t.0 j.1 (sym j.2) (All-contains (HasVariables n) fs f.0 v f.1.0) in
    let small : All (λ e. e ≤ b) t.0.mono = All-contains (λ (s : Term). All (λ e. e ≤ b) s.mono) f.0 t.0
    (All-contains (λ (g : Terms). All (λ (s : Term). All (λ e. e ≤ b) s.mono) g) fs f.0 u f.1.0) j in
    record {
      long = ap length (sym t.1.1) ∙ length-map t.0.mono pos ∙ long;
      low = λ k. subst (λ (z : List ℤ). pos 0 ≤ℤ get_or z k (pos 0)) t.1.1 (exponents_low t.0.mono k);
      high = λ k. subst (λ (z : List ℤ). get_or z k (pos 0) ≤ℤ pos b) t.1.1 (exponents_high b t.0.mono k small);
    }

difference_at : (b : ℕ) (x y : List ℤ) (i : ℕ) → ((k : ℕ) → (pos 0 ≤ℤ get_or x k (pos 0)) × (get_or x k (pos 0) ≤ℤ pos b)) →
    ((k : ℕ) → (pos 0 ≤ℤ get_or y k (pos 0)) × (get_or y k (pos 0) ≤ℤ pos b)) → unsigned_abs (get_or (vector_difference x y) i (pos 0)) ≤ b
difference_at b [] y i p q = omega arith
difference_at b (x ∷ xs) [] i p q = omega arith
difference_at b (x ∷ xs) (y ∷ ys) zero p q = let k = p 0 in let l = q 0 in omega (arith, ints, k.0, k.1, l.0, l.1)
difference_at b (x ∷ xs) (y ∷ ys) (suc i) p q = difference_at b xs ys i (λ k. p (suc k)) (λ k. q (suc k))

difference_bounded : (n b : ℕ) (x y : List ℤ) → IsPoint n b x → IsPoint n b y → IsBounded n b (vector_difference x y)
difference_bounded n b x y p q = record {
  long = minus_long n x y p.long q.long;
  up = record { at = λ i. difference_at b x y i (λ k. (p.low k, p.high k)) (λ k. (q.low k, q.high k)) };
}

-- ---- the closed cone of a vector, by rows

-- no point of A is higher than s
abbrev IsTop : List (List ℤ) → List ℤ → List ℤ → Type 0
IsTop A w s = (b : List ℤ) → Contains A b → dot b w ≤ℤ dot s w

top_or_not : (A : List (List ℤ)) (w s : List ℤ) → IsTop A w s ⊎ (IsTop A w s → ⊥)
top_or_not [] w s = inl (λ b c. absurd (none_in b c))
top_or_not (a ∷ A) w s = at (sign_of (dot s w -ℤ dot a w)) (top_or_not A w s)
  where
    higher : pos 0 ≤ℤ (dot s w -ℤ dot a w) → IsTop A w s → IsTop (a ∷ A) w s
    higher l t b c = elim (in_cons a A b c) [
      | inl e ↦ subst (λ (z : List ℤ). dot z w ≤ℤ dot s w) (sym e) (omega (arith, ints, l))
      | inr k ↦ t b k
    ]

    at : IsSigned (dot s w -ℤ dot a w) → IsTop A w s ⊎ (IsTop A w s → ⊥) → IsTop (a ∷ A) w s ⊎ (IsTop (a ∷ A) w s → ⊥)
    at (negative g) t = inr (λ h. let p = h a (Contains-here a A) in omega (arith, ints, g, p))
    at (none e) (inl t) = inl (higher (omega (arith, ints, e)) t)
    at (positive g) (inl t) = inl (higher (omega (arith, ints, g)) t)
    at (none e) (inr n) = inr (λ h. n (λ b c. h b (in_tail a A b c)))
    at (positive g) (inr n) = inr (λ h. n (λ b c. h b (in_tail a A b c)))

-- the highest of some points
record AreHighest (A S : List (List ℤ)) (w : List ℤ) (T : List (List ℤ)) : Type 0 where
  each : (s : List ℤ) → Contains T s → Contains S s × IsTop A w s
  every : (s : List ℤ) → Contains S s → IsTop A w s → Contains T s

highest : (A S : List (List ℤ)) (w : List ℤ) → (T : List (List ℤ)) × AreHighest A S w T
highest A [] w = ([], record { each = λ s c. absurd (none_in s c); every = λ s c t. absurd (none_in s c) })
highest A (s ∷ S) w = at (top_or_not A w s) (highest A S w)
  where
    at : IsTop A w s ⊎ (IsTop A w s → ⊥) → ((T : List (List ℤ)) × AreHighest A S w T) → (T : List (List ℤ)) × AreHighest A (s ∷ S) w T
    at (inl t) h = (
      s ∷ h.0,
      record {
        each = λ x c. elim (in_cons s h.0 x c) [
          | inl e ↦ (subst (Contains (s ∷ S)) (sym e) (Contains-here s S), subst (IsTop A w) (sym e) t)
          | inr k ↦ let p = h.1.each x k in (in_tail s S x p.0, p.1)
        ];
        every = λ x c u. elim (in_cons s S x c) [
          | inl e ↦ subst (Contains (s ∷ h.0)) (sym e) (Contains-here s h.0)
          | inr k ↦ in_tail s h.0 x (h.1.every x k u)
        ];
      },
    )
    at (inr n) h = (
      h.0,
      record {
        each = λ x c. let p = h.1.each x c in (in_tail s S x p.0, p.1);
        every = λ x c u. elim (in_cons s S x c) [ inl e ↦ absurd (n (subst (IsTop A w) e u)) | inr k ↦ h.1.every x k u ];
      },
    )

map_there : (f : List ℤ → List ℤ) (xs : List (List ℤ)) (x : List ℤ) → Contains xs x → Contains (map f xs) (f x)
map_there f [] x c = absurd (none_in x c)
map_there f (y ∷ xs) x c = elim (in_cons y xs x c) [
  | inl e ↦ subst (λ (z : List ℤ). Contains (f y ∷ map f xs) (f z)) (sym e) (Contains-here (f y) (map f xs))
  | inr k ↦ in_tail (f y) (map f xs) (f x) (map_there f xs x k)
]

-- the differences of the highest points of each list and all of its points
record AreClosedRows (As : List (List (List ℤ))) (w : List ℤ) (rows : List (List ℤ)) : Type 0 where
  each : (r : List ℤ) → Contains rows r → (A : List (List ℤ)) × (s : List ℤ) × (b : List ℤ) × (Contains As A × Contains A s × IsTop A w s × Contains A b ×
      (r ≡ vector_difference s b))
  every : (A : List (List ℤ)) (s b : List ℤ) → Contains As A → Contains A s → IsTop A w s → Contains A b → Contains rows (vector_difference s b)

-- those of some points, with all of A
differences : (A T : List (List ℤ)) → (rows : List (List ℤ)) ×
    (((r : List ℤ) → Contains rows r → (s : List ℤ) × (b : List ℤ) × (Contains T s × Contains A b × (r ≡ vector_difference s b))) ×
    ((s b : List ℤ) → Contains T s → Contains A b → Contains rows (vector_difference s b)))
differences A [] = ([], (λ r c. absurd (none_in r c), λ s b c d. absurd (none_in s c)))
differences A (t ∷ T) =
    let h = differences A T in (
      map (vector_difference t) A ++ h.0,
      (
        λ r c. elim (Contains-append_cases (map (vector_difference t) A) h.0 r c) [
          | inl i ↦ let o = of_map (vector_difference t) A r i in (t, o.0, (Contains-here t T, o.1.0, sym o.1.1))
          | inr i ↦ let o = h.1.0 r i in (o.0, o.1, (in_tail t T o.0 o.2.0, o.2.1, o.2.2))
        ],
        λ s b c d. elim (in_cons t T s c) [
          | inl e ↦ subst (λ (z : List ℤ). Contains (map (vector_difference t) A ++ h.0) (vector_difference z b)) (sym e)
              (Contains-append_left (map (vector_difference t) A) h.0 (vector_difference t b) (map_there (vector_difference t) A b d))
          | inr k ↦ Contains-append_right (map (vector_difference t) A) h.0 (vector_difference s b) (h.1.1 s b k d)
        ],
      ),
    )

closed_rows : (As : List (List (List ℤ))) (w : List ℤ) → (rows : List (List ℤ)) × AreClosedRows As w rows
closed_rows [] w = ([], record { each = λ r c. absurd (none_in r c); every = λ A s b c i t d. absurd (none_in A c) })
closed_rows (A ∷ As) w =
    let h = closed_rows As w in
    let h_top = highest A A w in
    let d = differences A h_top.0 in (
      d.0 ++ h.0,
      record {
        each = λ r c. elim (Contains-append_cases d.0 h.0 r c) [
          | inl i ↦ let o = d.1.0 r i in let p = h_top.1.each o.0 o.2.0 in (A, o.0, o.1, (Contains-here A As, p.0, p.1, o.2.1, o.2.2))
          | inr i ↦ let o = h.1.each r i in (o.0, o.1, o.2, (in_tail A As o.0 o.3.0, o.3.1, o.3.2, o.3.3, o.3.4))
        ];
        every = λ B s b c i t k. elim (in_cons A As B c) [
          | inl e ↦ Contains-append_left d.0 h.0 (vector_difference s b) (d.1.1 s b (h_top.1.every s (subst (λ (z : List (List ℤ)). Contains z s) e i)
              (subst (λ (z : List (List ℤ)). IsTop z w s) e t)) (subst (λ (z : List (List ℤ)). Contains z b) e k))
          | inr m ↦ Contains-append_right d.0 h.0 (vector_difference s b) (h.1.every B s b m i t k)
        ];
      },
    )

module _ (n b : ℕ) (As : List (List (List ℤ))) (are : (A : List (List ℤ)) → Contains As A → (x : List ℤ) → Contains A x → IsPoint n b x) (w : List ℤ) where
  cone_small : IsSmallSystem n b (record { inequalities = (closed_rows As w).0; equations = [] })
  cone_small = small_system n b (closed_rows As w).0 [] (λ r c.
      let o = (closed_rows As w).1.each r c in
      subst (IsBounded n b) (sym o.3.4) (difference_bounded n b o.1 o.2 (are o.0 o.3.0 o.1 o.3.1) (are o.0 o.3.0 o.2 o.3.3))) (λ x c. absurd (none_in x c))

  value : (A : List (List ℤ)) (s d u : List ℤ) → Contains As A → Contains A s → Contains A d → dot (vector_difference s d) u ≡ dot s u -ℤ dot d u
  value A s d u c i k = dot_minus s d u ((are A c s i).long ∙ sym (are A c d k).long)

  closed : (f : Rows) → IsClosedCone n As w f → SameCone n f (record { inequalities = (closed_rows As w).0; equations = [] })
  closed f is u lu = (there, back)
    where
      there : IsInCone f u → IsInCone (record { inequalities = (closed_rows As w).0; equations = [] }) u
      there h =
          let p = (is u lu).0 h in
          record {
            not_negative = all_by (λ r. pos 0 ≤ℤ dot r u) (closed_rows As w).0 (λ r c.
                let o = (closed_rows As w).1.each r c in
                let q = (p o.0 o.3.0 o.1 (record { listed = o.3.1; highest = o.3.2 })).highest o.2 o.3.3 in
                let e = value o.0 o.1 o.2 u o.3.0 o.3.1 o.3.3 in
                subst (λ (z : List ℤ). pos 0 ≤ℤ dot z u) (sym o.3.4) (omega (arith, ints, q, e)));
            zero = λ k d l. absurd (omega (arith, l));
          }

      back : IsInCone (record { inequalities = (closed_rows As w).0; equations = [] }) u → IsInCone f u
      back h = (is u lu).1 (λ A c s t. record {
        listed = t.listed;
        highest = λ d k.
            let m = (closed_rows As w).1.every A s d c t.listed t.highest k in
            let q : pos 0 ≤ℤ dot (vector_difference s d) u =
            All-contains (λ r. pos 0 ≤ℤ dot r u) (closed_rows As w).0 (vector_difference s d) h.not_negative m in
            let e = value A s d u c t.listed k in
            omega (arith, ints, q, e);
      })

-- ---- the fans

written : (Admitted : List (List (List ℤ)) → List ℤ → Type 0) (n b but : ℕ) (fs : List Terms) (h : FanLists) → AreFewTerms n b but fs →
    IsPatternFan Admitted n (map points fs) h → IsWritingWithin h
written Admitted n b but fs h are is w step = writing_fits n b h w are.some are.few are.high is.ambient is.fan (λ k c.
    let o = is.each k c in (
      record { inequalities = (closed_rows (map points fs) o.vector).0; equations = [] },
      cone_small n b (map points fs) (points_small n b fs are.variables are.exponents) o.vector,
      closed n b (map points fs) (points_small n b fs are.variables are.exponents) o.vector (rows_of k.cone) o.closed,
    )) step

pub tropical_fans_fit : PolynomialsWithRoomStayWithinLimits → TropicalFansFit
tropical_fans_fit room = record {
  hypersurfaces = λ n b fs are. record {
    systems = (room.prevarieties n b fs are.some are.low are.not_zero are.variables are.exponents are.room).within;
    writing = λ h is. written IsOnPrevariety n b 2 fs h are is;
  };
  intersections = λ n b fs are. record {
    systems = (room.prevarieties n b fs are.some are.low are.not_zero are.variables are.exponents are.room).within;
    writing = λ h is. written IsOnPrevariety n b 2 fs h are is;
  };
  sums = λ n b fs are. record {
    systems = (room.minkowski n b fs are.some are.low are.not_zero are.variables are.exponents are.room).within;
    writing = λ h is. written IsAnywhere n b 1 fs h are is;
  };
}
