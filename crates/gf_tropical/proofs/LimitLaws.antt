-- Where bounds on the exponents of polynomials have room, no operation of finding the rays of their systems leaves the range.
use Rattle.std.proofs.Common.{◌≡◌, ◌≢◌, ℕ, zero, suc, ◌+◌, ◌-◌, ◌<◌, ◌≤◌, List, [], ◌∷◌, ◌++◌, map, length, length-append, ℤ, pos, ◌≤ℤ◌, unsigned_abs, remove}
use Rattle.std.proofs.Common.{All, Contains, ◌⊎◌, true, arith, refl, sym, ap, ◌∙◌, subst, inl, inr}
use Rattle.std.proofs.lemmas.Int.{ints}
use Rattle.std.proofs.lemmas.List.{get_or_default, length-map}
use Rattle.std.proofs.lemmas.List.Edits.{length-remove}
use Rattle.std.proofs.lemmas.List.Elements.{All-contains, Contains-append_left, Contains-append_right}
use Rattle.gf_int_theory.proofs.ListLaws.{Contains-here, all_by}
use Rattle.gf_gordan.specs.Alternative.{AreRows}
use Rattle.gf_gordan.specs.Sizes.{HaveEntriesUpTo}
use Rattle.gf_gordan.specs.declared.error.ConeOverflow.{ConeOverflow}
use Rattle.gf_duality_theory.specs.Faces.{Rows}
use Rattle.gf_duality_theory.proofs.ListLaws.{none_in, in_cons, of_rest}
use Rattle.gf_fans_theory.specs.Fans.{meet}
use Rattle.gf_fans_theory.proofs.PartNumbers.{of_map}
use Rattle.gf_rays.specs.Limits.{IsSmallSystem, has_room}
use Rattle.gf_fan.proofs.LimitLaws.{small_meet, small_face, face_long, no_system_step, no_rows}
use Rattle.gf_poly.specs.declared.Term.{Term}
use Rattle.gf_poly.specs.Polynomial.{Terms, HasVariables}
use Rattle.gf_poly.proofs.ProductLaws.{HasVariables-at}
use Rattle.gf_patterns_theory.specs.Patterns.{points, IsOnPrevariety, IsAnywhere}
use Rattle.gf_patterns_theory.specs.PatternRows.{vector_difference, point_at, single_rows, pair_rows}
use Rattle.gf_patterns_theory.specs.PatternFans.{whole_space}
use Rattle.gf_patterns_theory.proofs.RowLaws.{minus_long, one_list}
use Rattle.gf_tropical.specs.Refusals.{IsSystemStep}
use Rattle.gf_tropical.specs.Systems.{IsConeOrFace, IsFanSystem, none, one, more, IsSystemOf, whole, own, both, IsPairCone, IsSingleCone}
use Rattle.gf_tropical.specs.Limits.{HaveExponentsUpTo, terms_but, HasRoomUpTo, PolynomialsWithRoomStayWithinLimits, TrinomialsStayWithinLimits}

-- ---- differences of exponents

-- a vector of n entries from 0 to b
record IsPoint (n b : ℕ) (x : List ℤ) : Type 0 where
  long : length x ≡ n
  entries : All (λ z. (pos 0 ≤ℤ z) × (z ≤ℤ pos b)) x

difference_up : (b : ℕ) (xs ys : List ℤ) → All (λ z. (pos 0 ≤ℤ z) × (z ≤ℤ pos b)) xs → All (λ z. (pos 0 ≤ℤ z) × (z ≤ℤ pos b)) ys →
    All (λ z. unsigned_abs z ≤ b) (vector_difference xs ys)
difference_up b [] ys u v k d h = absurd (omega (arith, h))
difference_up b (x ∷ xs) [] u v k d h = absurd (omega (arith, h))
difference_up b (x ∷ xs) (y ∷ ys) u v zero d h = let p = u 0 d (omega arith) in let q = v 0 d (omega arith) in omega (arith, ints, p, q)
difference_up b (x ∷ xs) (y ∷ ys) u v (suc k) d h = difference_up b xs ys (λ i e l. u (suc i) e (omega (arith, l))) (λ i e l. v (suc i) e (omega (arith, l))) k
    d (omega (arith, h))

exponents_up : (b : ℕ) (es : List ℕ) → All (λ e. e ≤ b) es → All (λ z. (pos 0 ≤ℤ z) × (z ≤ℤ pos b)) (map pos es)
exponents_up b [] u k d h = absurd (omega (arith, h))
exponents_up b (e ∷ es) u zero d h = let p = u 0 0 (omega arith) in (omega (arith, ints), omega (arith, ints, p))
exponents_up b (e ∷ es) u (suc k) d h = exponents_up b es (λ i c l. u (suc i) c (omega (arith, l))) k d (omega (arith, h))

-- ---- cones of one polynomial

-- a small system with at most k inequalities
record IsSized (n b k : ℕ) (c : Rows) : Type 0 where
  small : IsSmallSystem n b c
  few : length c.inequalities ≤ k

module _ (n b : ℕ) (A : List (List ℤ)) (are : (x : List ℤ) → Contains A x → IsPoint n b x) where
  differences : (a : List ℤ) (S : List (List ℤ)) → Contains A a → ((x : List ℤ) → Contains S x → Contains A x) →
      AreRows n (map (vector_difference a) S) × HaveEntriesUpTo b (map (vector_difference a) S)
  differences a S ca of = (
    all_by (λ t. length t ≡ n) (map (vector_difference a) S) (λ t c. let o = of_map (vector_difference a) S t c in ap length (sym o.1.1) ∙ minus_long n a o.0
        (are a ca).long (are o.0 (of o.0 o.1.0)).long),
    all_by (All (λ z. unsigned_abs z ≤ b)) (map (vector_difference a) S) (λ t c. let o = of_map (vector_difference a) S t c in
        subst (All (λ z. unsigned_abs z ≤ b)) o.1.1 (difference_up b a o.0 (are a ca).entries (are o.0 (of o.0 o.1.0)).entries)),
  )

  point_in : (i : ℕ) → i < length A → Contains A (point_at A i)
  point_in i h = (i, h, get_or_default A i (point_at A i) [] h)

  single_sized : (i : ℕ) → i < length A → IsSized n b (length A - 1) (single_rows A i)
  single_sized i h =
      let d = differences (point_at A i) (remove A i) (point_in i h) (λ x c. of_rest A i x h c) in
      let l = length-map (remove A i) (vector_difference (point_at A i)) in let r = length-remove A i h in
      let empty = no_rows n b in
      record {
        small = record { inequalities_width = d.0; equations_width = empty.equations_width; inequalities = d.1; equations = empty.equations };
        few = omega (arith, l, r);
      }

  pair_sized : (i j : ℕ) → i < j → j < length A → IsSized n b (length A - 2) (pair_rows A i j)
  pair_sized i j hij hj =
      let r = length-remove A j hj in
      let hi : i < length (remove A j) = omega (arith, r, hij, hj) in
      let q = length-remove (remove A j) i hi in
      let l = length-map (remove (remove A j) i) (vector_difference (point_at A i)) in
      let ci = point_in i (omega (arith, hij, hj)) in
      let d = differences (point_at A i) (remove (remove A j) i) ci (λ x c. of_rest A j x hj (of_rest (remove A j) i x hi c)) in
      let e = differences (point_at A i) (point_at A j ∷ []) ci
      (λ x c. subst (Contains A) (elim (in_cons (point_at A j) [] x c) [ inl p ↦ sym p | inr k ↦ absurd (none_in x k) ]) (point_in j hj)) in
      record { small = record { inequalities_width = d.0; equations_width = e.0; inequalities = d.1; equations = e.1 }; few = omega (arith, l, r, q) }

-- ---- systems

-- how many points all of them have, but so many of each
abbrev points_but : ℕ → List (List (List ℤ)) → ℕ
points_but k [] = 0
points_but k (A ∷ As) = (length A - k) + points_but k As

but_append : (k : ℕ) (As Bs : List (List (List ℤ))) → points_but k (As ++ Bs) ≡ points_but k As + points_but k Bs
but_append k [] Bs = omega arith
but_append k (A ∷ As) Bs = let q = but_append k As Bs in omega (arith, q)

but_one : (k : ℕ) (As : List (List (List ℤ))) (A : List (List ℤ)) → Contains As A → length A - k ≤ points_but k As
but_one k [] A c = absurd (none_in A c)
but_one k (B ∷ As) A c = elim (in_cons B As A c) [
  | inl e ↦ let q = ap (λ (l : List (List ℤ)). length l - k) e in omega (arith, q)
  | inr d ↦ let q = but_one k As A d in omega (arith, q)
]

sized_face : (n b k : ℕ) (c f : Rows) → IsSized n b k c → IsConeOrFace n c f → IsSized n b k f
sized_face n b k c f s (inl e) = subst (IsSized n b k) (sym e) s
sized_face n b k c f s (inr x) = let few = s.few in record { small = small_face n b c f s.small x; few = let q = face_long n c f x in omega (arith, q, few) }

sized_meet : (n b j k : ℕ) (c d : Rows) → IsSized n b j c → IsSized n b k d → IsSized n b (j + k) (meet c d)
sized_meet n b j k c d s t = let p = s.few in let q = t.few in record {
  small = small_meet n b c d s.small t.small;
  few = let l = length-append c.inequalities d.inequalities in omega (arith, l, p, q);
}

sized_more : (n b j k : ℕ) (c : Rows) → j ≤ k → IsSized n b j c → IsSized n b k c
sized_more n b j k c h s = let p = s.few in record { small = s.small; few = omega (arith, p, h) }

sized_whole : (n b : ℕ) → IsSized n b 0 whole_space
sized_whole n b = record { small = no_rows n b; few = omega arith }

module _ (First : List (List (List ℤ)) → Rows → Type 0) (Admitted : List (List (List ℤ)) → List ℤ → Type 0) (n b k : ℕ) (As : List (List (List ℤ)))
    (firsts : (A : List (List ℤ)) (c : Rows) → Contains As A → First (A ∷ []) c → IsSized n b (length A - k) c) where
  fan_sized : (Bs : List (List (List ℤ))) (f : Rows) → ((A : List (List ℤ)) → Contains Bs A → Contains As A) → IsFanSystem First Admitted n Bs f →
      IsSized n b (points_but k Bs) f
  fan_sized Bs f of (none g e) = subst (IsSized n b 0) (sym e) (sized_whole n b)
  fan_sized Bs f of (one A Cs c g e q x m) =
      subst (λ (l : List (List (List ℤ))). IsSized n b (points_but k l) f) (sym e)
      (sized_more n b (length A - k) (points_but k (A ∷ [])) f (omega arith)
      (sized_face n b (length A - k) c f (firsts A c (of A (subst (λ (l : List (List (List ℤ))). Contains l A) (sym e) (Contains-here A []))) q)
      (inr x.face)))
  fan_sized Bs f of (more Cs all A c d g e nz p q x m) =
      let front : (B : List (List ℤ)) → Contains Cs B → Contains As B =
      λ B i. of B (subst (λ (l : List (List (List ℤ))). Contains l B) (sym e) (Contains-append_left Cs (A ∷ []) B i)) in
      let last : (B : List (List ℤ)) → Contains (A ∷ []) B → Contains As B =
      λ B i. of B (subst (λ (l : List (List (List ℤ))). Contains l B) (sym e) (Contains-append_right Cs (A ∷ []) B i)) in
      subst (λ m. IsSized n b m f) (sym (but_append k Cs (A ∷ [])) ∙ ap (points_but k) (sym e))
      (sized_face n b (points_but k Cs + points_but k (A ∷ [])) (meet c d) f (sized_meet n b (points_but k Cs) (points_but k (A ∷ [])) c d
      (fan_sized Cs c front p) (fan_sized (A ∷ []) d last q)) (inr x.face))

  system_sized : (f : Rows) → IsSystemOf First Admitted n As f → IsSized n b (points_but k As) f
  system_sized f (whole g e) = subst (IsSized n b (points_but k As)) (sym e) (sized_more n b 0 (points_but k As) whole_space (omega arith) (sized_whole n b))
  system_sized f (own A c g i q x) = sized_more n b (length A - k) (points_but k As) f (but_one k As A i) (sized_face n b (length A - k) c f (firsts A c i q) x)
  system_sized f (both before after A c d g e nz p q x) =
      let front : (B : List (List ℤ)) → Contains before B → Contains As B =
      λ B i. subst (λ (l : List (List (List ℤ))). Contains l B) (sym e) (Contains-append_left before (A ∷ after) B i) in
      let last : (B : List (List ℤ)) → Contains (A ∷ []) B → Contains As B = λ B i. subst (λ (l : List (List (List ℤ))). Contains l B) (sym e)
      (Contains-append_right before (A ∷ after) B (elim (in_cons A [] B i) [
        | inl j ↦ subst (Contains (A ∷ after)) (sym j) (Contains-here A after)
        | inr j ↦ absurd (none_in B j)
      ])) in
      let up : points_but k before + points_but k (A ∷ []) ≤ points_but k As = let l = but_append k before (A ∷ after) in let m =
      ap (points_but k) e in omega (arith, l, m) in
      sized_more n b (points_but k before + points_but k (A ∷ [])) (points_but k As) f up
      (sized_face n b (points_but k before + points_but k (A ∷ [])) (meet c d) f (sized_meet n b (points_but k before) (points_but k (A ∷ [])) c d
      (fan_sized before c front p) (fan_sized (A ∷ []) d last q)) x)

  no_step : (s : ConeOverflow) → 1 ≤ n → 1 ≤ b → HasRoomUpTo n b (points_but k As) → IsSystemStep (IsSystemOf First Admitted n As) n s → ⊥
  no_step s hn hb room x = let q = system_sized x.system x.is_system in no_system_step n b (length x.system.inequalities) x.system s hn hb q.small refl
      (room (length x.system.inequalities) q.few) x.step

-- ---- polynomials

terms_points : (k : ℕ) (set : List Terms) → points_but k (map points set) ≡ terms_but k set
terms_points k [] = refl
terms_points k (f ∷ set) = let l = length-map f (λ (t : Term). map pos t.mono) in let q = terms_points k set in omega (arith, l, q)

points_small : (n b : ℕ) (set : List Terms) → All (HasVariables n) set → HaveExponentsUpTo b set → (A : List (List ℤ)) → Contains (map points set) A →
    (x : List ℤ) → Contains A x → IsPoint n b x
points_small n b set v u A c x i =
    let f = of_map points set A c in
    let t = of_map (λ (t : Term). map pos t.mono) f.0 x (subst (λ (l : List (List ℤ)). Contains l x) (sym f.1.1) i) in
    let j = t.1.0 in
    let long : length t.0.mono ≡ n = HasVariables-at n f.0 j.0 t.0 j.1 (sym j.2) (All-contains (HasVariables n) set f.0 v f.1.0) in
    let small : All (λ e. e ≤ b) t.0.mono = All-contains (λ (s : Term). All (λ e. e ≤ b) s.mono) f.0 t.0
    (All-contains (λ (g : Terms). All (λ (s : Term). All (λ e. e ≤ b) s.mono) g) set f.0 u f.1.0) j in
    record {
      long = ap length (sym t.1.1) ∙ length-map t.0.mono pos ∙ long;
      entries = subst (All (λ z. (pos 0 ≤ℤ z) × (z ≤ℤ pos b))) t.1.1 (exponents_up b t.0.mono small);
    }

pub polynomials_with_room_stay_within_limits : PolynomialsWithRoomStayWithinLimits
polynomials_with_room_stay_within_limits = record {
  prevarieties = λ n b set hn hb nz v u room. record {
    not_zero = nz;
    within = λ s x. no_step IsPairCone IsOnPrevariety n b 2 (map points set)
        (λ A c i q. subst (IsSized n b (length A - 2)) (sym (q.rows ∙ ap (λ (l : List (List ℤ)). pair_rows l q.i q.j) (one_list A q.of q.listed)))
        (pair_sized n b A (points_small n b set v u A i) q.i q.j q.ordered (subst (λ (l : List (List ℤ)). q.j < length l) (one_list A q.of q.listed) q.inside)))
        s hn hb (subst (HasRoomUpTo n b) (sym (terms_points 2 set)) room) x;
  };
  minkowski = λ n b set hn hb nz v u room. record {
    not_zero = nz;
    within = λ s x. no_step IsSingleCone IsAnywhere n b 1 (map points set)
        (λ A c i q. subst (IsSized n b (length A - 1)) (sym (q.rows ∙ ap (λ (l : List (List ℤ)). single_rows l q.i) (one_list A q.of q.listed)))
        (single_sized n b A (points_small n b set v u A i) q.i (subst (λ (l : List (List ℤ)). q.i < length l) (one_list A q.of q.listed) q.inside)))
        s hn hb (subst (HasRoomUpTo n b) (sym (terms_points 1 set)) room) x;
  };
}

-- ---- three terms in three variables

up_to_one : (k : ℕ) → k ≤ 1 → has_room 3 2 k ≡ true
up_to_one zero h = refl
up_to_one (suc zero) h = refl
up_to_one (suc (suc k)) h = absurd (omega (arith, h))

up_to_two : (k : ℕ) → k ≤ 2 → has_room 3 1 k ≡ true
up_to_two zero h = refl
up_to_two (suc zero) h = refl
up_to_two (suc (suc zero)) h = refl
up_to_two (suc (suc (suc k))) h = absurd (omega (arith, h))

some_terms : (f : Terms) → length f ≡ 3 → f ≢ []
some_terms f l e = let q = ap length e in omega (arith, l, q)

pub trinomials_stay_within_limits : TrinomialsStayWithinLimits
trinomials_stay_within_limits = record {
  one = λ f l v u. polynomials_with_room_stay_within_limits.prevarieties 3 2 (f ∷ []) (omega arith) (omega arith)
      (all_by (λ (g : Terms). g ≢ []) (f ∷ []) (λ g c. subst (λ (h : Terms). h ≢ []) (sym (only f g c)) (some_terms f l)))
      (all_by (HasVariables 3) (f ∷ []) (λ g c. subst (HasVariables 3) (sym (only f g c)) v)) u (λ k h. up_to_one k (omega (arith, h, l)));
  two = λ f g l m v w u. polynomials_with_room_stay_within_limits.prevarieties 3 1 (f ∷ g ∷ []) (omega arith) (omega arith)
      (all_by (λ (h : Terms). h ≢ []) (f ∷ g ∷ []) (λ h c. elim (either f g h c) [
        | inl e ↦ subst (λ (p : Terms). p ≢ []) (sym e) (some_terms f l)
        | inr e ↦ subst (λ (p : Terms). p ≢ []) (sym e) (some_terms g m)
      ]))
      (all_by (HasVariables 3) (f ∷ g ∷ []) (λ h c. elim (either f g h c) [
        | inl e ↦ subst (HasVariables 3) (sym e) v
        | inr e ↦ subst (HasVariables 3) (sym e) w
      ])) u (λ k h. up_to_two k (omega (arith, h, l, m)));
  minkowski = λ f l v u. polynomials_with_room_stay_within_limits.minkowski 3 1 (f ∷ []) (omega arith) (omega arith)
      (all_by (λ (g : Terms). g ≢ []) (f ∷ []) (λ g c. subst (λ (h : Terms). h ≢ []) (sym (only f g c)) (some_terms f l)))
      (all_by (HasVariables 3) (f ∷ []) (λ g c. subst (HasVariables 3) (sym (only f g c)) v)) u (λ k h. up_to_two k (omega (arith, h, l)));
}
  where
    only : (f g : Terms) → Contains (f ∷ []) g → g ≡ f
    only f g c = elim (in_cons f [] g c) [ inl e ↦ e | inr k ↦ absurd (none_in g k) ]

    either : (f g h : Terms) → Contains (f ∷ g ∷ []) h → (h ≡ f) ⊎ (h ≡ g)
    either f g h c = elim (in_cons f (g ∷ []) h c) [ inl e ↦ inl e | inr k ↦ inr (only g h k) ]
