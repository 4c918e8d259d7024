-- The normals of the bases of the ideal that the difference of two variables generates.
-- To cite: is_monomial, either, plain_of_variables, short_of_variables, in_variables, gives, vectors_equal, normals_differ. The rest are steps.
use Rattle.std.proofs.Common.{
  ◌≡◌,
  ◌⊎◌,
  ℕ,
  zero,
  suc,
  ◌<◌,
  ◌≤◌,
  Bool,
  true,
  false,
  if◌then◌else◌,
  List,
  [],
  ◌∷◌,
  length,
  get_or,
  Some,
  ℤ,
  pos,
  ◌+ℤ◌,
  ◌-ℤ◌,
  ◌*ℤ◌,
  unsigned_abs,
  arith,
  refl,
  sym,
  ap,
  ap₂,
  ◌∙◌,
  subst,
  inl,
  inr,
  Contains,
}
use Rattle.std.specs.Int.{◌∣◌}
use Rattle.std.proofs.Math.Nat.{eq-one_of_dvd-one}
use Rattle.std.proofs.lemmas.Int.{ints}
use Rattle.std.proofs.lemmas.List.{get_or_default}
use Rattle.gf_frac.specs.Fraction.{zero_ℚ, one_ℚ}
use Rattle.gf_int_theory.specs.Content.{scaled}
use Rattle.gf_int_theory.proofs.ListLaws.{Contains-here}
use Rattle.gf_vec.specs.Vector.{dot}
use Rattle.gf_duality_theory.proofs.ListLaws.{in_tail}
use Rattle.gf_vec.specs.Primitive.{IsPrimitivePart}
use Rattle.gf_vec.proofs.VectorLaws.{dot_comm}
use Rattle.gf_vec.proofs.DotLaws.{dot-times_right}
use Rattle.gf_exponents_theory.specs.Exponents.{Exponents, entry, same, plus, Divides, whole_weight}
use Rattle.gf_exponents_theory.proofs.ExponentsLaws.{same_flip, same_trans, entries_same, entry-plus}
use Rattle.gf_poly.specs.Polynomial.{Terms}
use Rattle.gf_poly.specs.Marking.{MarkedPolynomial}
use Rattle.gf_ideal_theory.specs.Membership.{HasMonomial, IsInVariables}
use Rattle.gf_ideal_theory.specs.Reduction.{IsMonicForm}
use Rattle.gf_ideal_theory.proofs.Identities.{one_not_zero}
use Rattle.gf_ideal_theory.proofs.StepLaws.{monic-monomials}
use Rattle.gf_facets_theory.specs.Rows.{differences, IsNormal}
use Rattle.gf_facets_theory.specs.Systems.{unit}
use Rattle.gf_facets_theory.specs.LexPositive.{IsBefore}
use Rattle.gf_facets_theory.specs.Normals.{AreNormals}
use Rattle.gf_facets_theory.specs.MarkedBases.{AreCanonical}
use Rattle.gf_facets_theory.proofs.RowLaws.{length-differences, get-differences, dot-differences}
use Rattle.gf_facets_theory.proofs.NormalLaws.{normal_of, normal-length}
use Rattle.gf_facets_theory.proofs.UnitLaws.{dot-unit}
use Rattle.gf_facets_theory.proofs.VectorOrder.{before_strict}
use Rattle.gf_binomials_theory.proofs.MonomialLaws.{IsTheMonomial, one_of_two}
use Rattle.gf_binomial_calls_theory.specs.Limits.{IsPlainGenerator, HasExponentsUpTo}
use Rattle.gf_binomial_calls_theory.proofs.LimitLaws.{plain_difference}
use Rattle.gfan_theory.specs.Differences.{IsDifferenceRow, AreDifferenceRows}
use Rattle.gfan_theory.specs.Everyday.{IsVariable, IsDifferenceOfVariables}
use Rattle.gfan_theory.proofs.BinaryRays.{by_entry}

-- ---- the generator

pub is_monomial : (p x : Exponents) → IsTheMonomial (Some p) x → same x p ≡ true
is_monomial p x h = at (same x p) refl
  where
    at : (b : Bool) → same x p ≡ b → same x p ≡ true
    at true s = s
    at false s = absurd (one_not_zero (sym h.one ∙ ap (λ b. if b then one_ℚ else zero_ℚ) s))

small_entry : (i : ℕ) (x : Exponents) → IsVariable i x → (k : ℕ) → entry x k ≤ 1
small_entry i x v k = at (same_index k i)
  where
    same_index : (a b : ℕ) → (a ≡ b) ⊎ (a ≡ b → ⊥)
    same_index zero zero = inl refl
    same_index zero (suc b) = inr (λ e. omega (arith, e))
    same_index (suc a) zero = inr (λ e. omega (arith, e))
    same_index (suc a) (suc b) = elim (same_index a b) [ inl e ↦ inl (ap suc e) | inr n ↦ inr (λ e. n (omega (arith, e))) ]

    at : (k ≡ i) ⊎ (k ≡ i → ⊥) → entry x k ≤ 1
    at (inl e) = let p : entry x k ≡ 1 = ap (λ (j : ℕ). entry x j) e ∙ v.one in omega (arith, p)
    at (inr n) = let p = v.others k n in omega (arith, p)

module _ (n : ℕ) (f : Terms) (d : IsDifferenceOfVariables n f) where
  -- a monomial of it is one of the two variables
  pub either : (x : Exponents) → HasMonomial f x → (same x d.left ≡ true) ⊎ (same x d.right ≡ true)
  either x h = elim (one_of_two (Some d.left) (Some d.right) f x d.binomial h) [
    | inl k ↦ inl (is_monomial d.left x k.there)
    | inr k ↦
        inr (is_monomial d.right x k.there)
  ]

  small : (x : Exponents) → HasMonomial f x → (k : ℕ) → entry x k ≤ 1
  small x h k = at (either x h)
    where
      at : (same x d.left ≡ true) ⊎ (same x d.right ≡ true) → entry x k ≤ 1
      at (inl s) = let p = small_entry d.first d.left d.is_left k in let q = entries_same x d.left s k in omega (arith, p, q)
      at (inr s) = let p = small_entry d.second d.right d.is_right k in let q = entries_same x d.right s k in omega (arith, p, q)

  left_no_divisor : Divides d.left d.right → ⊥
  left_no_divisor h =
      let p = entries_same d.right (plus h.rest d.left) h.product d.first in
      let q = entry-plus h.rest d.left d.first in
      let r = d.is_right.others d.first d.apart in
      let s = d.is_left.one in
      omega (arith, p, q, r, s)

  right_no_divisor : Divides d.right d.left → ⊥
  right_no_divisor h =
      let p = entries_same d.left (plus h.rest d.right) h.product d.second in
      let q = entry-plus h.rest d.right d.second in
      let r = d.is_left.others d.second (λ e. d.apart (sym e)) in
      let s = d.is_right.one in
      omega (arith, p, q, r, s)

  pub plain_of_variables : IsPlainGenerator f
  plain_of_variables = plain_difference d.left d.right f d.binomial left_no_divisor right_no_divisor
      (λ i. let p = small_entry d.first d.left d.is_left i in omega (arith, p)) (λ i. let p = small_entry d.second d.right d.is_right i in omega (arith, p))

  pub short_of_variables : HasExponentsUpTo 500 f
  short_of_variables x h i = let p = small x h i in omega (arith, p)

  pub in_variables : IsInVariables n f
  in_variables x h i l = at (either x h)
    where
      at : (same x d.left ≡ true) ⊎ (same x d.right ≡ true) → entry x i ≡ 0
      at (inl s) = entries_same x d.left s i ∙ d.is_left.others i (λ e. let m = d.first_inside in omega (arith, e, l, m))
      at (inr s) = entries_same x d.right s i ∙ d.is_right.others i (λ e. let m = d.second_inside in omega (arith, e, l, m))

-- ---- rows of two variables

-- a monomial with these entries
along : (i : ℕ) (x y : Exponents) → same x y ≡ true → IsVariable i y → IsVariable i x
along i x y s v = record { one = entries_same x y s i ∙ v.one; others = λ k n. entries_same x y s k ∙ v.others k n }

pub none_weight : (v : List ℤ) (x : Exponents) → ((k : ℕ) → entry x k ≡ 0) → whole_weight v x ≡ pos 0
none_weight [] x z = refl
none_weight (w ∷ v) [] z = refl
none_weight (w ∷ v) (a ∷ x) z =
    let p : a ≡ 0 = z 0 in
    ap (λ (b : ℕ). w *ℤ pos b +ℤ whole_weight v x) p ∙ ap (λ (y : ℤ). w *ℤ pos 0 +ℤ y) (none_weight v x (λ k. z (suc k))) ∙ omega (arith, ints)

pub variable_weight : (v : List ℤ) (x : Exponents) (i : ℕ) → IsVariable i x → whole_weight v x ≡ get_or v i (pos 0)
variable_weight [] x i h = refl
variable_weight (w ∷ v) [] i h = absurd (let p = h.one in omega (arith, p))
variable_weight (w ∷ v) (a ∷ x) zero h =
    let p : a ≡ 1 = h.one in
    ap (λ (b : ℕ). w *ℤ pos b +ℤ whole_weight v x) p ∙ ap (λ (y : ℤ). w *ℤ pos 1 +ℤ y) (none_weight v x (λ k. h.others (suc k) (λ e. omega (arith, e))))
    ∙ omega (arith, ints)
variable_weight (w ∷ v) (a ∷ x) (suc i) h =
    let p : a ≡ 0 = h.others 0 (λ e. omega (arith, e)) in
    ap (λ (b : ℕ). w *ℤ pos b +ℤ whole_weight v x) p
    ∙ ap (λ (y : ℤ). w *ℤ pos 0 +ℤ y) (variable_weight v x i (record { one = h.one; others = λ k m. h.others (suc k) (λ e. m (omega (arith, e))) }))
    ∙ omega (arith, ints)

-- what a row of two variables gives, divided by its content
module _ (n i j : ℕ) (x y : Exponents) (a : List ℤ) (lx : length x ≡ n) (ly : length y ≡ n) (first : i < n) (second : j < n) (apart : i ≡ j → ⊥)
    (vx : IsVariable i x) (vy : IsVariable j y)
    (part : IsPrimitivePart (differences x y) a) where
  same_length : length x ≡ length y
  same_length = lx ∙ sym ly

  row_long : length (differences x y) ≡ n
  row_long = length-differences x y same_length ∙ lx

  one_there : get_or (differences x y) i (pos 0) ≡ pos 1
  one_there = get-differences x y i same_length ∙ ap₂ (λ (p q : ℕ). pos p -ℤ pos q) vx.one (vy.others i apart) ∙ omega (arith, ints)

  content_one : part.0 ≡ pos 1
  content_one =
      let d : unsigned_abs part.0 ∣ unsigned_abs (pos 1) = subst (λ (z : ℤ). unsigned_abs part.0 ∣ unsigned_abs z) one_there
      (by_entry (λ (z : ℤ). unsigned_abs part.0 ∣ unsigned_abs z) (differences x y) i part.1.content.divides (let m = row_long in omega (arith, m, first))) in
      let e : unsigned_abs part.0 ≡ 1 = eq-one_of_dvd-one d in
      let p = part.1.positive in
      omega (arith, ints, e, p)

  a_is : scaled (pos 1) a ≡ differences x y
  a_is = ap (λ (c : ℤ). scaled c a) (sym content_one) ∙ part.1.multiple

  pub gives : (v : List ℤ) → dot a v ≡ get_or v i (pos 0) -ℤ get_or v j (pos 0)
  gives v =
      dot_comm a v ∙ one_times (dot v a) ∙ sym (dot-times_right (pos 1) v a) ∙ ap (λ (z : List ℤ). dot v z) a_is ∙ dot_comm v (differences x y)
      ∙ dot-differences v x y same_length ∙ ap₂ (λ (p q : ℤ). p -ℤ q) (variable_weight v x i vx) (variable_weight v y j vy)
    where
      one_times : (z : ℤ) → z ≡ pos 1 *ℤ z
      one_times z = omega (arith, ints)

-- ---- normals

-- a normal is the difference of the entries at these indices, the first of them that of the mark
pub record IsNormalBetween (n : ℕ) (f : Terms) (d : IsDifferenceOfVariables n f) (h : Exponents) (a : List ℤ) : Type 0 where
  pub high : ℕ
  pub low : ℕ
  pub high_inside : high < n
  pub low_inside : low < n
  pub of_mark : ((same h d.left ≡ true) × (high ≡ d.first) × (low ≡ d.second)) ⊎ ((same h d.right ≡ true) × (high ≡ d.second) × (low ≡ d.first))
  pub gives : (v : List ℤ) → dot a v ≡ get_or v high (pos 0) -ℤ get_or v low (pos 0)

module _ (n : ℕ) (f : Terms) (d : IsDifferenceOfVariables n f) (b : MarkedPolynomial) (form : IsMonicForm f b) (long : length b.head ≡ n) (y : Exponents)
    (ly : length y ≡ n) (there : HasMonomial b.poly y)
    (other : same b.head y ≡ false) (a : List ℤ) (part : IsPrimitivePart (differences b.head y) a) where
  between : IsNormalBetween n f d b.head a
  between = at (either n f d b.head form.there) (either n f d y (monic-monomials f b form y there))
    where
      alike : (z : Exponents) → same b.head z ≡ true → same y z ≡ true → ⊥
      alike z p q = let r : same b.head y ≡ true = same_trans b.head z y p (same_flip y z q) in let e : true ≡ false = sym r ∙ other in absurd (cc)

      at : (same b.head d.left ≡ true) ⊎ (same b.head d.right ≡ true) → (same y d.left ≡ true) ⊎ (same y d.right ≡ true) → IsNormalBetween n f d b.head a
      at (inl p) (inl q) = absurd (alike d.left p q)
      at (inr p) (inr q) = absurd (alike d.right p q)
      at (inl p) (inr q) = record {
        high = d.first;
        low = d.second;
        high_inside = d.first_inside;
        low_inside = d.second_inside;
        of_mark = inl (p, refl, refl);
        gives = gives n d.first d.second b.head y a long ly d.first_inside d.second_inside d.apart (along d.first b.head d.left p d.is_left)
            (along d.second y d.right q d.is_right) part;
      }
      at (inr p) (inl q) = record {
        high = d.second;
        low = d.first;
        high_inside = d.second_inside;
        low_inside = d.first_inside;
        of_mark = inr (p, refl, refl);
        gives = gives n d.second d.first b.head y a long ly d.second_inside d.first_inside (λ e. d.apart (sym e)) (along d.second b.head d.right p d.is_right)
            (along d.first y d.left q d.is_left) part;
      }

-- two variables are different monomials
not_both : (n : ℕ) (f : Terms) (d : IsDifferenceOfVariables n f) (h : Exponents) → same h d.left ≡ true → same h d.right ≡ true → ⊥
not_both n f d h p q =
    let l = entries_same h d.left p d.first in
    let r = entries_same h d.right q d.first in
    let s = d.is_left.one in
    let t = d.is_right.others d.first d.apart in
    omega (arith, l, r, s, t)

indices_once : (n : ℕ) (f : Terms) (d : IsDifferenceOfVariables n f) (h : Exponents) (a b : List ℤ) (p : IsNormalBetween n f d h a)
    (q : IsNormalBetween n f d h b) → (p.high ≡ q.high) × (p.low ≡ q.low)
indices_once n f d h a b p q = at p.of_mark q.of_mark
  where
    at : ((same h d.left ≡ true) × (p.high ≡ d.first) × (p.low ≡ d.second)) ⊎ ((same h d.right ≡ true) × (p.high ≡ d.second) × (p.low ≡ d.first)) →
        ((same h d.left ≡ true) × (q.high ≡ d.first) × (q.low ≡ d.second)) ⊎ ((same h d.right ≡ true) × (q.high ≡ d.second) × (q.low ≡ d.first)) →
        (p.high ≡ q.high) × (p.low ≡ q.low)
    at (inl x) (inl y) = (x.1 ∙ sym y.1, x.2 ∙ sym y.2)
    at (inl x) (inr y) = absurd (not_both n f d h x.0 y.0)
    at (inr x) (inl y) = absurd (not_both n f d h y.0 x.0)
    at (inr x) (inr y) = (x.1 ∙ sym y.1, x.2 ∙ sym y.2)

-- vectors that give the same on each vector are the same
pub vectors_equal : (a b : List ℤ) → length a ≡ length b → ((i : ℕ) → i < length a → get_or a i (pos 0) ≡ get_or b i (pos 0)) → a ≡ b
vectors_equal [] [] e h = refl
vectors_equal [] (y ∷ b) e h = absurd (omega (arith, e))
vectors_equal (x ∷ a) [] e h = absurd (omega (arith, e))
vectors_equal (x ∷ a) (y ∷ b) e h =
    ap₂ (λ (z : ℤ) (zs : List ℤ). z ∷ zs) (h 0 (omega arith)) (vectors_equal a b (omega (arith, e)) (λ i l. h (suc i) (omega (arith, l))))

-- a normal of a member, which is a form of f
pub record IsNormalOfMember (n : ℕ) (f : Terms) (d : IsDifferenceOfVariables n f) (bs : List MarkedPolynomial) (a : List ℤ) : Type 0 where
  pub member : MarkedPolynomial
  pub contained : Contains bs member
  pub between : IsNormalBetween n f d member.head a

module _ (n : ℕ) (f : Terms) (d : IsDifferenceOfVariables n f) (bs : List MarkedPolynomial) (canonical : AreCanonical n bs)
    (forms : (b : MarkedPolynomial) → Contains bs b → IsMonicForm f b)
    (short : length bs ≤ 1) where
  normal_at : (a : List ℤ) → IsNormal bs a → IsNormalOfMember n f d bs a
  normal_at a h =
      let r = normal_of n bs a canonical h in
      record {
        member = r.member;
        contained = r.contained;
        between = between n f d r.member (forms r.member r.contained) (canonical r.member r.contained).head r.at r.width r.there r.unmarked a
            (subst (λ (z : List ℤ). IsPrimitivePart z a) r.row r.part);
      }

  normal_differs : (a : List ℤ) → IsNormal bs a → IsDifferenceRow n a
  normal_differs a h =
      let r = normal_at a h in
      record {
        width = normal-length n bs a canonical h;
        high = r.between.high;
        low = r.between.low;
        high_inside = r.between.high_inside;
        low_inside = r.between.low_inside;
        difference = λ v l. r.between.gives v;
      }

  -- there is one member at most
  one_member : (b c : MarkedPolynomial) → Contains bs b → Contains bs c → b ≡ c
  one_member b c p q =
      let i : p.0 ≡ q.0 = (let l = p.1 in let m = q.1 in omega (arith, l, m, short)) in
      sym p.2 ∙ get_or_default bs p.0 b c p.1 ∙ ap (λ (k : ℕ). get_or bs k c) i ∙ q.2

  one_normal : (a b : List ℤ) → IsNormal bs a → IsNormal bs b → a ≡ b
  one_normal a b h k =
      let r = normal_at a h in
      let s = normal_at b k in
      let members : s.member ≡ r.member = one_member s.member r.member s.contained r.contained in
      let other : IsNormalBetween n f d r.member.head b = subst (λ (z : MarkedPolynomial). IsNormalBetween n f d z.head b) members s.between in
      let indices = indices_once n f d r.member.head a b r.between other in
      let wide : length a ≡ n = normal-length n bs a canonical h in
      let wide_too : length b ≡ n = normal-length n bs b canonical k in
      vectors_equal a b (wide ∙ sym wide_too) (λ i l.
      let inside : i < n = omega (arith, l, wide) in
      sym (dot-unit n i a inside wide) ∙ dot_comm (unit n i) a ∙ r.between.gives (unit n i)
      ∙ ap₂ (λ (p q : ℕ). get_or (unit n i) p (pos 0) -ℤ get_or (unit n i) q (pos 0)) indices.0 indices.1
      ∙ sym (other.gives (unit n i)) ∙ dot_comm b (unit n i) ∙ dot-unit n i b inside wide_too)

  few_normals : (normals : List (List ℤ)) → AreNormals bs normals → length normals ≤ 1
  few_normals [] m = omega arith
  few_normals (a ∷ []) m = omega arith
  few_normals (a ∷ (b ∷ normals)) m =
      let first = Contains-here a (b ∷ normals) in
      let second = in_tail a (b ∷ normals) b (Contains-here b normals) in
      let same : a ≡ b = one_normal a b (m.only a first) (m.only b second) in
      absurd (before_strict.irreflexive a (subst (IsBefore a) (sym same) (m.rises.0 b (Contains-here b normals))))

  pub normals_differ : (normals : List (List ℤ)) → AreNormals bs normals → (length normals ≤ 1) × AreDifferenceRows n normals
  normals_differ normals m = (few_normals normals m, λ row c. normal_differs row (m.only row c))
