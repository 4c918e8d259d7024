-- How large the entries of the states that are reached are, and where none of their operations leaves the range.
use Rattle.std.proofs.Common.{◌≡◌, ◌≢◌, ℕ, zero, suc, ◌+◌, ◌*◌, ◌^◌, ◌<◌, ◌≤◌, List, [], ◌∷◌, ◌++◌, length, ℤ, pos, negsuc, ◌+ℤ◌, ◌*ℤ◌, neg_ℤ, ◌<ℤ◌, ◌-◌, ◌⊎◌}
use Rattle.std.proofs.Common.{arith, sym, refl, ap, ◌∙◌, subst, inl, inr, get_or, map, drop, remove, length-append, unsigned_abs, All, Contains}
use Rattle.std.specs.Int.{int_signum}
use Rattle.std.proofs.lemmas.Int.{ints, unsigned_abs-mul}
use Rattle.std.proofs.lemmas.List.{get_or_default, get_or_append_left}
use Rattle.std.proofs.lemmas.List.Edits.{length-remove}
use Rattle.std.proofs.lemmas.Slice.Zip.{AllZip-long}
use Rattle.std.proofs.lemmas.List.Elements.{All-contains, Contains-append_cases, Contains-append_left, Contains-push}
use Rattle.gf_int_theory.specs.Content.{scaled}
use Rattle.gf_int_theory.proofs.SignLaws.{zero-cancel, 0<-cancel, zero_product, mul_positive}
use Rattle.gf_int_theory.proofs.ListLaws.{Contains-last, all_by}
use Rattle.gf_vec.specs.declared.error.VecOp.{VecOp}
use Rattle.gf_vec.specs.declared.error.VecOp.TheVariants.{Add, Sub, Mul}
use Rattle.gf_vec.specs.Vector.{dot, vector_sum, zeros, values, entry_at, opposite}
use Rattle.gf_vec.specs.Primitive.{IsPrimitivePart}
use Rattle.gf_vec.proofs.EntryLaws.{entry_times, all_zero, cancel}
use Rattle.gf_vec.proofs.VectorLaws.{dot_comm, length-times, length-zeros}
use Rattle.gf_gordan.specs.Alternative.{AreRows}
use Rattle.gf_gordan.specs.Elimination.{row_at, size_at, signed_at}
use Rattle.gf_gordan.specs.Sizes.{HaveEntriesUpTo}
use Rattle.gf_gordan.specs.Steps.{IsDotStep}
use Rattle.gf_gordan.specs.declared.error.ConeOverflow.{ConeOverflow}
use Rattle.gf_duality_theory.specs.Combining.{IsMixStep, IsCombining, pair}
use Rattle.gf_duality_theory.specs.Generators.{unit_vectors}
use Rattle.gf_duality_theory.specs.Rays.{IsZeroOn}
use Rattle.gf_duality_theory.specs.Elimination.{IsTurned, IsEliminated, begun as eliminated_begun, skipped, turned, IsEliminationStep, IsNormalised}
use Rattle.gf_duality_theory.specs.Elimination.{IsNullSpace, IsNullStep, eliminating, reducing, columns}
use Rattle.gf_duality_theory.specs.Straightening.{IsLeveled, IsStraightened, done as straight_done, next as straight_next, IsOrthogonalized, start, added}
use Rattle.gf_duality_theory.specs.Straightening.{gone, IsOrthogonalizing}
use Rattle.gf_duality_theory.proofs.ListLaws.{none_in, first_in, zip_from, of_rest, index, less, at, more}
use Rattle.gf_duality_theory.proofs.Echelon.{turn_in}
use Rattle.gf_rays.specs.declared.ray.Ray.{Ray}
use Rattle.gf_rays.specs.Leveling.{IsLine, IsLinedBy, IsLeveledRay, IsLeveling, IsRowStep, lineal, splitting, leveling}
use Rattle.gf_rays.specs.Limits.{turned_bound, next_bound, reached_bound, IsPointed, IsUnitRow, BeginWithUnits, SmallSystemsStayWithinLimits}
use Rattle.gf_rays.specs.Limits.{PartsOfOrthantsStayWithinLimits, TwoRowsOfThreeVariables}
use Rattle.gf_rays.specs.MarkedRays.{IsPruned, vectors_of}
use Rattle.gf_rays.specs.Reached.{IsReachedState, begun, split, lined, IsRaysStep, null_space, taking, lineality, straight, echelon, implied}
use Rattle.gf_rays.specs.Splitting.{IsSplit, testing, pairing}
use Rattle.gf_rays.proofs.EliminateLaws.{units_long, unit_long, dot_unit, unit_same, unit_other}
use Rattle.gf_rays.proofs.PruneLaws.{of_pruned}
use Rattle.gf_rays.proofs.ReachedLaws.{reached_state, chosen_in}
use Rattle.gf_gordan.proofs.SizeLaws.{UpTo, sum_up, neg_up, difference_up, product_up, up_weaker, up_times, up_sum, up_divided, up_zeros, less_of, dot_up}
use Rattle.gf_rays.proofs.SplitLaws.{vector_in, of_vector}
use Rattle.gf_duality_theory.proofs.NullSpace.{right_columns}
use Rattle.gf_duality_theory.proofs.EchelonUnique.{no_widths}
use Rattle.gf_gordan.proofs.ReducedSizes.{signed_up}
use Rattle.gf_gordan.proofs.StepSizes.{no_wide, no_dot}

-- each entry of each vector is at most b in absolute value
pub record AreUpTo (b : ℕ) (xs : List (List ℤ)) : Type 0 where
  pub each : (x : List ℤ) → Contains xs x → UpTo b x

pub snoc_long : (rows : List (List ℤ)) (h : List ℤ) (whole : List (List ℤ)) → whole ≡ rows ++ h ∷ [] → length whole ≡ suc (length rows)
snoc_long [] h whole e = ap length e
snoc_long (x ∷ xs) h whole e = ap length e ∙ ap suc (snoc_long xs h (xs ++ h ∷ []) refl)

-- ---- bounds that rise

pub mono : (f : ℕ → ℕ) → ((k : ℕ) → f k ≤ f (suc k)) → (j c : ℕ) → j ≤ c → f j ≤ f c
mono f s j zero h = subst (λ i. f i ≤ f zero) (let e : 0 ≡ j = omega (arith, h) in e) (omega arith)
mono f s j (suc c) h = elim (index j (suc c)) [
  | less l ↦ absurd (omega (arith, h, l))
  | at e ↦ subst (λ i. f j ≤ f i) e (omega arith)
  | more l ↦ let a = mono f s j c (omega (arith, l)) in let b = s c in omega (arith, a, b)
]

square_le : (x : ℕ) → x ≤ x * x
square_le zero = omega arith
square_le (suc k) = less_of (suc k) (suc k) (omega arith)

pub turned_step : (b j : ℕ) → turned_bound b j ≤ turned_bound b (suc j)
turned_step b j = let q = square_le (turned_bound b j) in omega (arith, q)

pub next_step : (n b m : ℕ) → 1 ≤ n → 1 ≤ b → 1 ≤ m → m ≤ next_bound n b m
next_step n b m hn hb hm = let q =
    less_of (n * (b * m)) m (mul_positive n (b * m) (omega (arith, hn)) (mul_positive b m (omega (arith, hb)) (omega (arith, hm)))) in omega (arith, q)

reached_one : (n b k : ℕ) → 1 ≤ n → 1 ≤ b → 1 ≤ reached_bound n b k
reached_one n b zero hn hb = omega arith
reached_one n b (suc k) hn hb = let q = reached_one n b k hn hb in let r = next_step n b (reached_bound n b k) hn hb q in omega (arith, q, r)

reached_step : (n b k : ℕ) → 1 ≤ n → 1 ≤ b → reached_bound n b k ≤ reached_bound n b (suc k)
reached_step n b k hn hb = next_step n b (reached_bound n b k) hn hb (reached_one n b k hn hb)

-- ---- operations within bounds

no_mix : (row : ℕ) (op : VecOp) (a x b y : ℤ) (s : ConeOverflow) (p q u v : ℕ) → op ≢ Mul → unsigned_abs a ≤ p → unsigned_abs x ≤ q → unsigned_abs b ≤ u →
    unsigned_abs y ≤ v → p * q + u * v < 2 ^ 127 → IsMixStep row op a x b y s → ⊥
no_mix row op a x b y s p q u v n ha hx hb hy room (inl w) = no_wide row Mul a x s (p * q) (product_up a x p q ha hx) (omega (arith, room)) w
no_mix row op a x b y s p q u v n ha hx hb hy room (inr (inl w)) = no_wide row Mul b y s (u * v) (product_up b y u v hb hy) (omega (arith, room)) w
no_mix row Add a x b y s p q u v n ha hx hb hy room (inr (inr w)) =
    no_wide row Add (a *ℤ x) (b *ℤ y) s (p * q + u * v) (sum_up (a *ℤ x) (b *ℤ y) (p * q) (u * v) (product_up a x p q ha hx) (product_up b y u v hb hy)) room w
no_mix row Sub a x b y s p q u v n ha hx hb hy room (inr (inr w)) =
    no_wide row Sub (a *ℤ x) (b *ℤ y) s (p * q + u * v) (difference_up (a *ℤ x) (b *ℤ y) (p * q) (u * v) (product_up a x p q ha hx) (product_up b y u v hb hy))
    room w
no_mix row Mul a x b y s p q u v n ha hx hb hy room (inr (inr w)) = absurd (n refl)

pub no_combining : (row : ℕ) (op : VecOp) (a : ℤ) (xs : List ℤ) (b : ℤ) (ys : List ℤ) (s : ConeOverflow) (p q u v : ℕ) → op ≢ Mul → unsigned_abs a ≤ p →
    UpTo q xs → unsigned_abs b ≤ u → UpTo v ys → p * q + u * v < 2 ^ 127 → IsCombining row op a xs b ys s → ⊥
no_combining row op a xs b ys s p q u v n ha hx hb hy room w =
    no_mix row op a (entry_at xs w.0) b (entry_at ys w.0) s p q u v n ha (hx.at w.0) hb (hy.at w.0) room w.2

abbrev IsNotMul : VecOp → Type 0
IsNotMul Add = Unit {0}
IsNotMul Sub = Unit {0}
IsNotMul Mul = ⊥

pub not_sub : Sub ≢ Mul
not_sub e = subst IsNotMul e tt

not_add : Add ≢ Mul
not_add e = subst IsNotMul e tt

-- ---- elimination

turned_up : (b : ℕ) (r : List ℤ) (j : ℕ) (t u : List ℤ) → UpTo b r → UpTo b t → IsTurned r j t u → UpTo (b * b + b * b) u
turned_up b r j t u ur ut d = up_divided (b * b + b * b) _ u d.0 d.1 (up_sum (b * b) (b * b) _ _ (up_times (size_at r j) b b t (ur.at j) ut)
    (up_times (neg_ℤ (signed_at r j t)) b b r (neg_up (signed_at r j t) b (signed_up b r j t ut)) ur))

pub record BothUpTo (b : ℕ) (xs ys : List (List ℤ)) : Type 0 where
  pub first : AreUpTo b xs
  pub second : AreUpTo b ys

pub weaker : (a b : ℕ) (xs : List (List ℤ)) → a ≤ b → AreUpTo a xs → AreUpTo b xs
weaker a b xs h u = record { each = λ x c. up_weaker a b x h (u.each x c) }

-- by the number of pivots
pub eliminated_up : (n b : ℕ) (rows : List (List ℤ)) (j : ℕ) (done left : List (List ℤ)) → AreUpTo b rows → IsEliminated n rows j done left →
    BothUpTo (turned_bound b (length done)) done left
eliminated_up n b rows j out left u eliminated_begun = record { first = record { each = λ x c. absurd (none_in x c) }; second = u }
eliminated_up n b rows m out left u (skipped j k done rest e z p) = eliminated_up n b rows j out left u p
eliminated_up n b rows m out left u (turned j k done from others rest whole i e h f za zb eo p) =
    let q = eliminated_up n b rows j done from u p in
    let c = turned_bound b (length done) in
    let em : length out ≡ suc (length done) = snoc_long others (row_at from i) out eo ∙ ap suc (AllZip-long (IsTurned (row_at from i) j) done others za) in
    let ur : UpTo c (row_at from i) = q.second.each (row_at from i) (turn_in from j i f) in
    record {
      first = record {
        each = λ x k. subst (λ l. UpTo (turned_bound b l) x) (sym em)
            (elim (Contains-last others (row_at from i) x (subst (λ (l : List (List ℤ)). Contains l x) eo k)) [
              | inl a ↦ let t = zip_from (IsTurned (row_at from i) j) done others x za a in turned_up c (row_at from i) j t.0 x ur (q.first.each t.0 t.1.0)
                  t.1.1
              | inr g ↦ subst (UpTo (turned_bound b (suc (length done)))) (sym g) (up_weaker _ _ (row_at from i) (turned_step b (length done)) ur)
            ]);
      };
      second = record {
        each = λ x k. subst (λ l. UpTo (turned_bound b l) x) (sym em) (let t = zip_from (IsTurned (row_at from i) j) (remove from i) left x zb k in
            turned_up c (row_at from i) j t.0 x ur (q.second.each t.0 (of_rest from i t.0 f.inside t.1.0)) t.1.1);
      };
    }

-- there are no more pivots than columns, and one row goes with each
pub elimination_counts : (n : ℕ) (rows : List (List ℤ)) (j : ℕ) (done left : List (List ℤ)) → IsEliminated n rows j done left →
    (length done ≤ j) × (length done + length left ≡ length rows)
elimination_counts n rows j out left eliminated_begun = (omega arith, omega arith)
elimination_counts n rows m out left (skipped j k done rest e z p) = let q = elimination_counts n rows j out left p in (omega (arith, q.0, e), q.1)
elimination_counts n rows m out left (turned j k done from others rest whole i e h f za zb eo p) =
    let q = elimination_counts n rows j done from p in
    let a = snoc_long others (row_at from i) out eo in
    let b = AllZip-long (IsTurned (row_at from i) j) done others za in
    let c = AllZip-long (IsTurned (row_at from i) j) (remove from i) left zb in
    let d = length-remove from i f.inside in
    (omega (arith, q.0, e, a, b), omega (arith, q.1, a, b, c, d))

pub no_elimination : (row n b : ℕ) (rows : List (List ℤ)) (columns count : ℕ) (s : ConeOverflow) → AreUpTo b rows → (columns ≤ count) ⊎ (length rows ≤ count) →
    turned_bound b count < 2 ^ 127 → IsEliminationStep row n rows columns s → ⊥
no_elimination row n b rows columns count s u few room k =
    let c = turned_bound b (length k.done) in
    let q = eliminated_up n b rows k.j k.done k.left u k.reached in
    let p = elimination_counts n rows k.j k.done k.left k.reached in
    let ur : UpTo c (row_at k.left k.k) = q.second.each (row_at k.left k.k) (turn_in k.left k.j k.k k.pivot) in
    let ut : UpTo c k.t = elim k.other [ inl a ↦ q.first.each k.t a | inr a ↦ q.second.each k.t (of_rest k.left k.k k.t k.pivot.inside a) ] in
    let fewer : suc (length k.done) ≤ count = elim few [ inl l ↦ omega (arith, l, p.0, k.column) | inr l ↦ omega (arith, l, p.1, k.pivot.inside) ] in
    let m : turned_bound b (suc (length k.done)) ≤ turned_bound b count = mono (turned_bound b) (turned_step b) (suc (length k.done)) count fewer in
    no_combining row Sub (size_at (row_at k.left k.k) k.j) k.t (signed_at (row_at k.left k.k) k.j k.t) (row_at k.left k.k) s c c c c not_sub (ur.at k.j) ut
    (signed_up c (row_at k.left k.k) k.j k.t ut) ur (omega (arith, m, room)) k.turning

-- ---- null spaces: unit vectors stay what they are

-- no entry but zeros, and perhaps a 1
pub record IsUnitary (t : List ℤ) : Type 0 where
  pub values : (p : ℕ) → (entry_at t p ≡ pos 0) ⊎ (entry_at t p ≡ pos 1)
  pub one : (p q : ℕ) → entry_at t p ≢ pos 0 → entry_at t q ≢ pos 0 → p ≡ q

one_up : (z : ℤ) → (z ≡ pos 0) ⊎ (z ≡ pos 1) → unsigned_abs z ≤ 1
one_up z (inl e) = omega (arith, ints, e)
one_up z (inr e) = omega (arith, ints, e)

pub unitary_up : (t : List ℤ) → IsUnitary t → UpTo 1 t
unitary_up t u = record { at = λ i. one_up (entry_at t i) (u.values i) }

sum_entry : (xs ys : List ℤ) (i : ℕ) → (entry_at (vector_sum xs ys) i ≡ pos 0) ⊎ (entry_at (vector_sum xs ys) i ≡ entry_at xs i +ℤ entry_at ys i)
sum_entry [] ys i = inl refl
sum_entry (x ∷ xs) [] i = inl refl
sum_entry (x ∷ xs) (y ∷ ys) zero = inr refl
sum_entry (x ∷ xs) (y ∷ ys) (suc i) = sum_entry xs ys i

turn_zero : (a b x y : ℤ) → a ≡ pos 1 → b ≡ pos 0 → pos (unsigned_abs a) *ℤ x +ℤ neg_ℤ (int_signum a *ℤ b) *ℤ y ≡ x
turn_zero a b x y e f = rw (e, f) (let q : pos 1 *ℤ x +ℤ pos 0 *ℤ y ≡ x = omega (arith, ints) in q)

turn_one : (a b x y : ℤ) → a ≡ pos 1 → b ≡ pos 1 → x ≡ y → pos (unsigned_abs a) *ℤ x +ℤ neg_ℤ (int_signum a *ℤ b) *ℤ y ≡ pos 0
turn_one a b x y e f g = rw (e, f, g) (let q : pos 1 *ℤ y +ℤ negsuc 0 *ℤ y ≡ pos 0 = omega (arith, ints) in q)

not_one : (z : ℤ) → z ≡ pos 1 → z ≢ pos 0
not_one z e f = omega (arith, ints, e, f)

-- where both are 1 in column j, both have the same entries
same_entry : (r t : List ℤ) (j : ℕ) → IsUnitary r → IsUnitary t → entry_at r j ≡ pos 1 → entry_at t j ≡ pos 1 → (p : ℕ) → entry_at t p ≡ entry_at r p
same_entry r t j ur ut er et p = elim (ut.values p) [
  | inr e ↦ let q : p ≡ j = ut.one p j (not_one (entry_at t p) e) (not_one (entry_at t j) et) in e ∙ sym (ap (entry_at r) q ∙ er)
  | inl e ↦ elim (ur.values p) [
    | inl f ↦ e ∙ sym f
    | inr f ↦ let q : p ≡ j = ur.one p j (not_one (entry_at r p) f) (not_one (entry_at r j) er) in absurd (not_one (entry_at t p) (ap (entry_at t) q ∙ et) e)
  ]
]

turned_entry : (r : List ℤ) (j : ℕ) (t : List ℤ) (p : ℕ) → IsUnitary r → IsUnitary t → entry_at r j ≢ pos 0 →
    (entry_at (vector_sum (scaled (size_at r j) t) (scaled (neg_ℤ (signed_at r j t)) r)) p ≡ pos 0) ⊎
    (entry_at (vector_sum (scaled (size_at r j) t) (scaled (neg_ℤ (signed_at r j t)) r)) p ≡ entry_at t p)
turned_entry r j t p ur ut n =
    let er : entry_at r j ≡ pos 1 = elim (ur.values j) [ inl e ↦ absurd (n e) | inr e ↦ e ] in
    elim (sum_entry (scaled (size_at r j) t) (scaled (neg_ℤ (signed_at r j t)) r) p) [
      | inl e ↦ inl e
      | inr e ↦
          let f = e ∙ ap (λ z. z +ℤ entry_at (scaled (neg_ℤ (signed_at r j t)) r) p) (entry_times (size_at r j) t p) ∙
          ap (λ z. size_at r j *ℤ entry_at t p +ℤ z) (entry_times (neg_ℤ (signed_at r j t)) r p) in
          elim (ut.values j) [
            | inl g ↦ inr (f ∙ turn_zero (entry_at r j) (entry_at t j) (entry_at t p) (entry_at r p) er g)
            | inr g ↦ inl (f ∙ turn_one (entry_at r j) (entry_at t j) (entry_at t p) (entry_at r p) er g (same_entry r t j ur ut er g p))
          ]
    ]

divided_one : (c x : ℤ) → pos 0 <ℤ c → c *ℤ x ≡ pos 1 → unsigned_abs x ≤ 1 → x ≡ pos 1
divided_one c x h e k = let q : pos 0 <ℤ x = 0<-cancel c x h (subst (λ z. pos 0 <ℤ z) (sym e) (omega (arith, ints))) in omega (arith, ints, q, k)

unitary_turned : (r : List ℤ) (j : ℕ) (t u : List ℤ) → IsUnitary r → IsUnitary t → entry_at r j ≢ pos 0 → IsTurned r j t u → IsUnitary u
unitary_turned r j t u ur ut n (c, d) = record {
  values = λ p. elim (entries p) [ inl e ↦ inl e | inr e ↦ inr e.0 ];
  one = λ p q hp hq. ut.one p q (origin p hp) (origin q hq);
}
  where
    w : List ℤ
    w = vector_sum (scaled (size_at r j) t) (scaled (neg_ℤ (signed_at r j t)) r)

    value : (p : ℕ) → c *ℤ entry_at u p ≡ entry_at w p
    value p = sym (entry_times c u p) ∙ ap (λ l. entry_at l p) d.multiple

    small : UpTo 1 w
    small = record {
      at = λ p. elim (turned_entry r j t p ur ut n) [
        | inl e ↦ one_up (entry_at w p) (inl e)
        | inr e ↦ subst (λ z. unsigned_abs z ≤ 1) (sym e) (one_up (entry_at t p) (ut.values p))
      ];
    }

    entries : (p : ℕ) → (entry_at u p ≡ pos 0) ⊎ ((entry_at u p ≡ pos 1) × (entry_at t p ≢ pos 0))
    entries p = elim (turned_entry r j t p ur ut n) [
      | inl e ↦ inl (zero-cancel c (entry_at u p) d.positive (value p ∙ e))
      | inr e ↦ elim (ut.values p) [
        | inl f ↦ inl (zero-cancel c (entry_at u p) d.positive (value p ∙ e ∙ f))
        | inr f ↦ inr (divided_one c (entry_at u p) d.positive (value p ∙ e ∙ f) ((up_divided 1 w u c d small).at p), not_one (entry_at t p) f)
      ]
    ]

    origin : (p : ℕ) → entry_at u p ≢ pos 0 → entry_at t p ≢ pos 0
    origin p h = elim (entries p) [ inl e ↦ absurd (h e) | inr e ↦ e.1 ]

-- each of the vectors is such
pub record AreUnitary (xs : List (List ℤ)) : Type 0 where
  pub each : (x : List ℤ) → Contains xs x → IsUnitary x

pub record BothUnitary (xs ys : List (List ℤ)) : Type 0 where
  pub first : AreUnitary xs
  pub second : AreUnitary ys

pub unitary_eliminated : (n : ℕ) (rows : List (List ℤ)) (j : ℕ) (done left : List (List ℤ)) → AreUnitary rows → IsEliminated n rows j done left →
    BothUnitary done left
unitary_eliminated n rows j out left u eliminated_begun = record { first = record { each = λ x c. absurd (none_in x c) }; second = u }
unitary_eliminated n rows m out left u (skipped j k done rest e z p) = unitary_eliminated n rows j out left u p
unitary_eliminated n rows m out left u (turned j k done from others rest whole i e h f za zb eo p) =
    let q = unitary_eliminated n rows j done from u p in
    let ur : IsUnitary (row_at from i) = q.second.each (row_at from i) (turn_in from j i f) in
    record {
      first = record {
        each = λ x c. elim (Contains-last others (row_at from i) x (subst (λ (l : List (List ℤ)). Contains l x) eo c)) [
          | inl a ↦ let t = zip_from (IsTurned (row_at from i) j) done others x za a in unitary_turned (row_at from i) j t.0 x ur (q.first.each t.0 t.1.0)
              f.not_zero t.1.1
          | inr g ↦ subst IsUnitary (sym g) ur
        ];
      };
      second = record {
        each = λ x c. let t = zip_from (IsTurned (row_at from i) j) (remove from i) left x zb c in unitary_turned (row_at from i) j t.0 x ur
            (q.second.each t.0 (of_rest from i t.0 f.inside t.1.0)) f.not_zero t.1.1;
      };
    }

no_unitary_elimination : (row n : ℕ) (rows : List (List ℤ)) (columns : ℕ) (s : ConeOverflow) → AreUnitary rows → IsEliminationStep row n rows columns s → ⊥
no_unitary_elimination row n rows columns s u k =
    let q = unitary_eliminated n rows k.j k.done k.left u k.reached in
    let ur : UpTo 1 (row_at k.left k.k) = unitary_up (row_at k.left k.k) (q.second.each (row_at k.left k.k) (turn_in k.left k.j k.k k.pivot)) in
    let ut : UpTo 1 k.t = unitary_up k.t (elim k.other [ inl a ↦ q.first.each k.t a | inr a ↦ q.second.each k.t (of_rest k.left k.k k.t k.pivot.inside a) ]) in
    no_combining row Sub (size_at (row_at k.left k.k) k.j) k.t (signed_at (row_at k.left k.k) k.j k.t) (row_at k.left k.k) s 1 1 1 1 not_sub (ur.at k.j) ut
    (signed_up 1 (row_at k.left k.k) k.j k.t ut) ur (omega arith) k.turning

pub units_unitary : (n : ℕ) → AreUnitary (unit_vectors n)
units_unitary n = record { each = each }
  where
    only : (k p : ℕ) → k < n → entry_at (get_or (unit_vectors n) k []) p ≢ pos 0 → p ≡ k
    only k p h z = elim (index p k) [
      | less l ↦ absurd (z (unit_other n k p h (λ e. omega (arith, l, e))))
      | at e ↦ e
      | more l ↦ absurd (z (unit_other n k p h (λ e. omega (arith, l, e))))
    ]

    unit : (k : ℕ) → k < n → IsUnitary (get_or (unit_vectors n) k [])
    unit k h = record {
      values = λ p. elim (index p k) [
        | less l ↦ inl (unit_other n k p h (λ e. omega (arith, l, e)))
        | at e ↦ inr (subst (λ i. entry_at (get_or (unit_vectors n) k []) i ≡ pos 1) (sym e) (unit_same n k h))
        | more l ↦ inl (unit_other n k p h (λ e. omega (arith, l, e)))
      ];
      one = λ p q hp hq. only k p h hp ∙ sym (only k q h hq);
    }

    each : (x : List ℤ) → Contains (unit_vectors n) x → IsUnitary x
    each x (k, l, e) = subst IsUnitary (get_or_default (unit_vectors n) k [] x l ∙ e) (unit k (omega (arith, units_long n, l)))

none_eliminated : (n : ℕ) (rows : List (List ℤ)) (j : ℕ) (done left : List (List ℤ)) → length done ≡ 0 → IsEliminated n rows j done left → left ≡ rows
none_eliminated n rows j out left z eliminated_begun = refl
none_eliminated n rows m out left z (skipped j k done rest e y p) = none_eliminated n rows j out left z p
none_eliminated n rows m out left z (turned j k done from others rest whole i e h f za zb eo p) =
    absurd (omega (arith, z, snoc_long others (row_at from i) out eo))

pub begin_rows : (m n j : ℕ) (es done left : List (List ℤ)) → length done ≡ 0 → IsEliminated m (columns n es) j done left →
    AreUnitary (map (drop (length es)) left)
begin_rows m n j es done left z e = subst AreUnitary (sym (ap (map (drop (length es))) (none_eliminated m (columns n es) j done left z e) ∙ right_columns es
    (unit_vectors n))) (units_unitary n)

none_done : (m n : ℕ) (done left : List (List ℤ)) → IsEliminated m (columns n []) 0 done left → length done ≡ 0
none_done m n done left e = let q = elimination_counts m (columns n []) 0 done left e in omega (arith, q.0)

pub normal_up : (b : ℕ) (t z : List ℤ) → UpTo b t → IsNormalised t z → UpTo b z
normal_up b t z u d = record {
  at = λ p.
      let e : unsigned_abs d.factor * unsigned_abs (entry_at z p) ≡ unsigned_abs (entry_at t p) =
      sym (unsigned_abs-mul d.factor (entry_at z p)) ∙ ap unsigned_abs (sym (entry_times d.factor z p) ∙ ap (λ l. entry_at l p) d.multiple) in
      let q = less_of (unsigned_abs d.factor) (unsigned_abs (entry_at z p)) (omega (arith, ints, d.not_zero)) in
      let a = u.at p in omega (arith, e, q, a);
}

no_null_step : (row n : ℕ) (s : ConeOverflow) → IsNullStep row n [] s → ⊥
no_null_step row n s (eliminating k) = absurd (omega (arith, k.column))
no_null_step row n s (reducing done left e k) = no_unitary_elimination row n (map (drop 0) left) n s (begin_rows _ n 0 [] done left (none_done _ n done left e)
    e) k

-- ---- row by row

-- rows with n entries up to b
pub record AreSized (n b : ℕ) (rows : List (List ℤ)) : Type 0 where
  pub long : (h : List ℤ) → Contains rows h → length h ≡ n
  pub small : AreUpTo b rows

sized_front : (n b : ℕ) (rows : List (List ℤ)) (h : List ℤ) (whole : List (List ℤ)) → whole ≡ rows ++ h ∷ [] → AreSized n b whole → AreSized n b rows
sized_front n b rows h whole e s = record {
  long = λ x c. s.long x (subst (λ (l : List (List ℤ)). Contains l x) (sym e) (first_in rows h x c));
  small = record { each = λ x c. s.small.each x (subst (λ (l : List (List ℤ)). Contains l x) (sym e) (first_in rows h x c)) };
}

pub sized_last : (rows : List (List ℤ)) (h : List ℤ) (whole : List (List ℤ)) → whole ≡ rows ++ h ∷ [] → Contains whole h
sized_last rows h whole e = subst (λ (l : List (List ℤ)). Contains l h) (sym e) (Contains-push rows h)

pair_up : (n b m : ℕ) (h p q y : List ℤ) → length h ≡ n → UpTo b h → UpTo m p → UpTo m q → IsPrimitivePart (pair h p q) y → UpTo (next_bound n b m) y
pair_up n b m h p q y l u up uq d =
    let dp = dot_up n b m h p (omega (arith, l)) u up in
    let dq = dot_up n b m h q (omega (arith, l)) u uq in
    up_divided (next_bound n b m) (pair h p q) y d.0 d.1 (up_sum (n * (b * m) * m) (n * (b * m) * m) _ _ (up_times (dot h p) (n * (b * m)) m q dp uq)
    (up_times (neg_ℤ (dot h q)) (n * (b * m)) m p (neg_up (dot h q) (n * (b * m)) dq) up))

leveled_up : (n b m : ℕ) (h l x y : List ℤ) → 1 ≤ n → 1 ≤ b → 1 ≤ m → length h ≡ n → UpTo b h → UpTo m l → UpTo m x → IsLeveled h l x y →
    UpTo (next_bound n b m) y
leveled_up n b m h l x y hn hb hm e u ul ux (inl k) = subst (UpTo (next_bound n b m)) (sym k.1) (up_weaker m (next_bound n b m) x (next_step n b m hn hb hm) ux)
leveled_up n b m h l x y hn hb hm e u ul ux (inr k) = pair_up n b m h l x y e u ul ux k.1

opposite_up : (m : ℕ) (x : List ℤ) → UpTo m x → UpTo m (opposite x)
opposite_up m x u = up_weaker (1 * m) m (opposite x) (omega arith) (up_times (negsuc 0) 1 m x (omega arith) u)

signed_line : (m : ℕ) (l x : List ℤ) → (l ≡ x) ⊎ (l ≡ opposite x) → UpTo m x → UpTo m l
signed_line m l x (inl e) u = subst (UpTo m) (sym e) u
signed_line m l x (inr e) u = subst (UpTo m) (sym e) (opposite_up m x u)

line_up : (m : ℕ) (h : List ℤ) (lin : List (List ℤ)) (i : ℕ) (l : List ℤ) → IsLine h lin i l → AreUpTo m lin → UpTo m l
line_up m h lin i l k u =
    signed_line m l (get_or lin i []) k.signed (u.each (get_or lin i []) (i, k.inside, get_or_default lin i (get_or lin i []) [] k.inside))

pub split_up : (n b m : ℕ) (h : List ℤ) (lin : List (List ℤ)) (old middle out : List Ray) → 1 ≤ n → 1 ≤ b → 1 ≤ m → length h ≡ n → UpTo b h →
    IsSplit h old middle → IsPruned middle out → BothUpTo m lin (vectors_of old) → BothUpTo (next_bound n b m) lin (vectors_of out)
split_up n b m h lin old middle out hn hb one lh uh k p q =
    let step = next_step n b m hn hb one in
    record {
      first = weaker m (next_bound n b m) lin step q.first;
      second = record {
        each = λ x c.
            let y = of_vector out x c in
            subst (UpTo (next_bound n b m)) (sym y.1.1) (elim (k.drawn y.0 (of_pruned middle out y.0 p y.1.0)) [
              | inl t ↦ subst (UpTo (next_bound n b m)) (sym t.vector)
                  (up_weaker m (next_bound n b m) t.r.vector step (q.second.each t.r.vector (vector_in old t.r t.in_r)))
              | inr t ↦ pair_up n b m h t.p.vector t.q.vector y.0.vector lh uh (q.second.each t.p.vector (vector_in old t.p t.in_p))
                  (q.second.each t.q.vector (vector_in old t.q t.in_q)) t.divided
            ]);
      };
    }

pub lined_up : (n b m : ℕ) (h l : List ℤ) (whole lines : List (List ℤ)) (i count : ℕ) (old next : List Ray) → 1 ≤ n → 1 ≤ b → 1 ≤ m → length h ≡ n → UpTo b h →
    IsLine h whole i l → IsLinedBy h l (remove whole i) old count lines next → BothUpTo m whole (vectors_of old) →
    BothUpTo (next_bound n b m) lines (vectors_of next)
lined_up n b m h l whole lines i count old out hn hb one lh uh k z q =
    let step = next_step n b m hn hb one in
    let ul : UpTo m l = line_up m h whole i l k q.first in
    record {
      first = record {
        each = λ x c. let t = zip_from (IsLeveled h l) (remove whole i) lines x z.leveled c in leveled_up n b m h l t.0 x hn hb one lh uh ul
            (q.first.each t.0 (of_rest whole i t.0 k.inside t.1.0)) t.1.1;
      };
      second = record {
        each = λ x c.
            let y = of_vector out x c in
            subst (UpTo (next_bound n b m)) (sym y.1.1) (elim (Contains-last z.middle z.ray y.0 (subst (λ (o : List Ray). Contains o y.0) z.all y.1.0)) [
              | inl a ↦ let t = zip_from (IsLeveledRay h l) old z.middle y.0 z.rays_leveled a in leveled_up n b m h l t.0.vector y.0.vector hn hb one lh uh ul
                  (q.second.each t.0.vector (vector_in old t.0 t.1.0)) t.1.1.0
              | inr g ↦ subst (UpTo (next_bound n b m)) (sym (ap (λ (o : Ray). o.vector) g ∙ z.vector)) (up_weaker m (next_bound n b m) l step ul)
            ]);
      };
    }

-- ---- rows that are unit vectors keep entries what they are

dot_row : (n j : ℕ) (x : List ℤ) → j < n → length x ≡ n → dot (get_or (unit_vectors n) j []) x ≡ entry_at x j
dot_row n j x h l = dot_comm (get_or (unit_vectors n) j []) x ∙ dot_unit n j x l h

zero_unitary : (y : List ℤ) → ((p : ℕ) → entry_at y p ≡ pos 0) → IsUnitary y
zero_unitary y z = record { values = λ p. inl (z p); one = λ p q hp hq. absurd (hp (z p)) }

of_up : (z : ℤ) → (z ≡ pos 0) ⊎ (z ≡ pos 1) → pos 0 <ℤ z → z ≡ pos 1
of_up z (inl e) h = absurd (omega (arith, ints, e, h))
of_up z (inr e) h = e

of_some : (z : ℤ) → (z ≡ pos 0) ⊎ (z ≡ pos 1) → z ≢ pos 0 → z ≡ pos 1
of_some z (inl e) h = absurd (h e)
of_some z (inr e) h = e

pair_zero_at : (a b x y : ℤ) → a ≡ pos 1 → b ≡ pos 1 → x ≡ y → a *ℤ x +ℤ neg_ℤ b *ℤ y ≡ pos 0
pair_zero_at a b x y e f g = rw (e, f, g) (let q : pos 1 *ℤ y +ℤ negsuc 0 *ℤ y ≡ pos 0 = omega (arith, ints) in q)

level_unitary : (n j : ℕ) (l x y : List ℤ) → j < n → length l ≡ n → length x ≡ n → IsUnitary l → IsUnitary x → pos 0 <ℤ dot (get_or (unit_vectors n) j []) l →
    IsLeveled (get_or (unit_vectors n) j []) l x y → IsUnitary y
level_unitary n j l x y h ll lx ul ux up (inl k) = subst IsUnitary (sym k.1) ux
level_unitary n j l x y h ll lx ul ux up (inr k) =
    zero_unitary y (λ p. zero-cancel k.1.0 (entry_at y p) k.1.1.positive (sym (entry_times k.1.0 y p) ∙ ap (λ v. entry_at v p) k.1.1.multiple ∙ zero_at p))
  where
    e : List ℤ
    e = get_or (unit_vectors n) j []

    el : dot e l ≡ pos 1
    el = let q = dot_row n j l h ll in q ∙ of_up (entry_at l j) (ul.values j) (subst (λ z. pos 0 <ℤ z) q up)

    ex : dot e x ≡ pos 1
    ex = let q = dot_row n j x h lx in q ∙ of_some (entry_at x j) (ux.values j) (λ z. k.0 (q ∙ z))

    zero_at : (p : ℕ) → entry_at (vector_sum (scaled (dot e l) x) (scaled (neg_ℤ (dot e x)) l)) p ≡ pos 0
    zero_at p = elim (sum_entry (scaled (dot e l) x) (scaled (neg_ℤ (dot e x)) l) p) [
      | inl z ↦ z
      | inr z ↦ z ∙ ap (λ w. w +ℤ entry_at (scaled (neg_ℤ (dot e x)) l) p) (entry_times (dot e l) x p) ∙
          ap (λ w. dot e l *ℤ entry_at x p +ℤ w) (entry_times (neg_ℤ (dot e x)) l p)
          ∙ pair_zero_at (dot e l) (dot e x) (entry_at x p) (entry_at l p) el ex
          (same_entry l x j ul ux (sym (dot_row n j l h ll) ∙ el) (sym (dot_row n j x h lx) ∙ ex) p)
    ]

below_zero : (z w : ℤ) → (z ≡ pos 0) ⊎ (z ≡ pos 1) → w ≡ negsuc 0 *ℤ z → pos 0 <ℤ w → ⊥
below_zero z w (inl e) f h = omega (arith, ints, e, f, h)
below_zero z w (inr e) f h = omega (arith, ints, e, f, h)

line_unitary : (n j : ℕ) (l x : List ℤ) → j < n → length x ≡ n → IsUnitary x → (l ≡ x) ⊎ (l ≡ opposite x) → pos 0 <ℤ dot (get_or (unit_vectors n) j []) l →
    l ≡ x
line_unitary n j l x h lx u (inl e) up = e
line_unitary n j l x h lx u (inr e) up =
    absurd (below_zero (entry_at x j) (dot (get_or (unit_vectors n) j []) l) (u.values j) (ap (dot (get_or (unit_vectors n) j [])) e ∙ dot_row n j (opposite x)
    h (length-times (negsuc 0) x ∙ lx) ∙ entry_times (negsuc 0) x j) up)

not_below : (z : ℤ) → (z ≡ pos 0) ⊎ (z ≡ pos 1) → z <ℤ pos 0 → ⊥
not_below z (inl e) h = omega (arith, ints, e, h)
not_below z (inr e) h = omega (arith, ints, e, h)

entry_inside : (z : List ℤ) (p : ℕ) → entry_at z p ≢ pos 0 → p < length z
entry_inside [] p h = absurd (h refl)
entry_inside (x ∷ z) zero h = omega arith
entry_inside (x ∷ z) (suc p) h = let q = entry_inside z p h in omega (arith, q)

one_of : (f z : ℤ) → f *ℤ z ≡ pos 1 → unsigned_abs z ≤ 1 → pos 0 <ℤ z → z ≡ pos 1
one_of f z e k h = omega (arith, ints, k, h)

normal_unitary : (t z : List ℤ) → IsUnitary t → IsNormalised t z → IsUnitary z
normal_unitary t z u d = record {
  values = λ p. elim (u.values p) [ inl e ↦ inl (none_at p e) | inr e ↦ inr (one_at p e) ];
  one = λ p q hp hq. u.one p q (λ e. hp (none_at p e)) (λ e. hq (none_at q e));
}
  where
    value : (p : ℕ) → d.factor *ℤ entry_at z p ≡ entry_at t p
    value p = sym (entry_times d.factor z p) ∙ ap (λ l. entry_at l p) d.multiple

    none_at : (p : ℕ) → entry_at t p ≡ pos 0 → entry_at z p ≡ pos 0
    none_at p e = cancel d.factor (entry_at z p) d.not_zero (value p ∙ e)

    some_at : (p : ℕ) → entry_at t p ≡ pos 1 → entry_at z p ≢ pos 0
    some_at p e k = not_one (entry_at t p) e (sym (value p) ∙ zero_product d.factor (entry_at z p) k)

    one_at : (p : ℕ) → entry_at t p ≡ pos 1 → entry_at z p ≡ pos 1
    one_at p e =
        let up : pos 0 <ℤ entry_at z p = d.leading p (record {
          inside = entry_inside z p (some_at p e);
          not_zero = some_at p e;
          first = λ i h. elim (u.values i) [
            | inl k ↦ none_at i k
            | inr k ↦ absurd (let q = u.one i p (not_one (entry_at t i) k) (not_one (entry_at t p) e) in omega (arith, h, q))
          ];
        }) in
        one_of d.factor (entry_at z p) (value p ∙ e) ((normal_up 1 t z (unitary_up t u) d).at p) up

null_unitary : (n : ℕ) (basis : List (List ℤ)) → IsNullSpace n [] basis → AreUnitary basis
null_unitary n basis b =
    let u = unitary_eliminated n (map (drop 0) b.left) n b.basis.done b.basis.left (begin_rows _ n 0 [] b.done b.left (none_done _ n b.done b.left b.eliminated)
    b.eliminated) b.basis.eliminated in
    record { each = λ z c. let t = zip_from IsNormalised b.basis.done basis z b.basis.normal c in normal_unitary t.0 z (u.first.each t.0 t.1.0) t.1.1 }

front_units : (n : ℕ) (rows : List (List ℤ)) (h : List ℤ) (whole : List (List ℤ)) → whole ≡ rows ++ h ∷ [] → ((x : List ℤ) → Contains whole x → IsUnitRow n x) →
    (x : List ℤ) → Contains rows x → IsUnitRow n x
front_units n rows h whole e f x c = f x (subst (λ (l : List (List ℤ)). Contains l x) (sym e) (first_in rows h x c))

reached_unitary : (n : ℕ) (hs lin : List (List ℤ)) (rays : List Ray) → ((x : List ℤ) → Contains hs x → IsUnitRow n x) → IsReachedState n [] hs lin rays →
    BothUnitary lin (vectors_of rays)
reached_unitary n hs lin rays f (begun basis k) = record { first = null_unitary n basis k; second = record { each = λ x c. absurd (none_in x c) } }
reached_unitary n hs lin rays f (split before lines old middle out h whole e z k p g r) =
    let q = reached_unitary n before lin old (front_units n before h hs e f) r in
    let u = f h (sized_last before h hs e) in
    let d = (reached_state n [] before lin old (no_widths n) r).described in
    record {
      first = q.first;
      second = record {
        each = λ x c.
            let y = of_vector rays x c in
            subst IsUnitary (sym y.1.1) (elim (k.drawn y.0 (of_pruned middle rays y.0 p y.1.0)) [
              | inl t ↦ subst IsUnitary (sym t.vector) (q.second.each t.r.vector (vector_in old t.r t.in_r))
              | inr t ↦
                  let cq = vector_in old t.q t.in_q in
                  absurd (not_below (entry_at t.q.vector u.index) ((q.second.each t.q.vector cq).values u.index)
                  (subst (λ v. v <ℤ pos 0) (ap (λ o. dot o t.q.vector) u.is ∙ dot_row n u.index t.q.vector u.inside (d.rays_width t.q.vector cq)) t.down))
            ]);
      };
    }
reached_unitary n hs lin rays f (lined before whole lines old next h l i all e k z r) =
    let q = reached_unitary n before whole old (front_units n before h hs e f) r in
    let u = f h (sized_last before h hs e) in
    let d = (reached_state n [] before whole old (no_widths n) r).described in
    let at = get_or whole i [] in
    let ci : Contains whole at = (i, k.inside, get_or_default whole i at [] k.inside) in
    let up : pos 0 <ℤ dot (get_or (unit_vectors n) u.index []) l = subst (λ o. pos 0 <ℤ dot o l) u.is k.up in
    let el : l ≡ at = line_unitary n u.index l at u.inside (d.lin_width at ci) (q.first.each at ci) k.signed up in
    let ul : IsUnitary l = subst IsUnitary (sym el) (q.first.each at ci) in
    let ll : length l ≡ n = ap length el ∙ d.lin_width at ci in
    record {
      first = record {
        each = λ x c.
            let t = zip_from (IsLeveled h l) (remove whole i) lin x z.leveled c in
            let ct = of_rest whole i t.0 k.inside t.1.0 in
            level_unitary n u.index l t.0 x u.inside ll (d.lin_width t.0 ct) ul (q.first.each t.0 ct) up (subst (λ o. IsLeveled o l t.0 x) u.is t.1.1);
      };
      second = record {
        each = λ x c.
            let y = of_vector rays x c in
            subst IsUnitary (sym y.1.1) (elim (Contains-last z.middle z.ray y.0 (subst (λ (o : List Ray). Contains o y.0) z.all y.1.0)) [
              | inl a ↦
                  let t = zip_from (IsLeveledRay h l) old z.middle y.0 z.rays_leveled a in
                  let ct = vector_in old t.0 t.1.0 in
                  level_unitary n u.index l t.0.vector y.0.vector u.inside ll (d.rays_width t.0.vector ct) ul (q.second.each t.0.vector ct) up
                  (subst (λ o. IsLeveled o l t.0.vector y.0.vector) u.is t.1.1.0)
              | inr g ↦ subst IsUnitary (sym (ap (λ (o : Ray). o.vector) g ∙ z.vector)) ul
            ]);
      };
    }

-- ---- how large they are after unit vectors and some rows more

few_rows : (n b u : ℕ) (hs lin : List (List ℤ)) (rays : List Ray) → 1 ≤ n → 1 ≤ b → length hs ≤ u → BeginWithUnits n u hs → IsReachedState n [] hs lin rays →
    BothUpTo (reached_bound n b (length hs - u)) lin (vectors_of rays)
few_rows n b u hs lin rays hn hb few f r =
    let q = reached_unitary n hs lin rays (λ x c. subst (IsUnitRow n) (get_or_default hs c.0 [] x c.1 ∙ c.2) (f c.0 (omega (arith, c.1, few)) c.1)) r in
    let one = reached_one n b (length hs - u) hn hb in
    record {
      first = record { each = λ x c. up_weaker 1 _ x one (unitary_up x (q.first.each x c)) };
      second = record { each = λ x c. up_weaker 1 _ x one (unitary_up x (q.second.each x c)) };
    }

front_begins : (n u : ℕ) (rows : List (List ℤ)) (h : List ℤ) (whole : List (List ℤ)) → whole ≡ rows ++ h ∷ [] → BeginWithUnits n u whole →
    BeginWithUnits n u rows
front_begins n u rows h whole e f k hk hl =
    subst (IsUnitRow n) (ap (λ (l : List (List ℤ)). get_or l k []) e ∙ get_or_append_left rows (h ∷ []) [] k hl)
    (f k hk (let s = snoc_long rows h whole e in omega (arith, s, hl)))

at_next : (n b u k m : ℕ) (xs ys : List (List ℤ)) → m ≡ suc k → u ≤ k → BothUpTo (next_bound n b (reached_bound n b (k - u))) xs ys →
    BothUpTo (reached_bound n b (m - u)) xs ys
at_next n b u k m xs ys e h q = let s : suc (k - u) ≡ m - u = omega (arith, e, h) in subst (λ i. BothUpTo (reached_bound n b i) xs ys) s q

reached_up : (n b u : ℕ) (hs lin : List (List ℤ)) (rays : List Ray) → 1 ≤ n → 1 ≤ b → AreSized n b hs → BeginWithUnits n u hs →
    IsReachedState n [] hs lin rays → BothUpTo (reached_bound n b (length hs - u)) lin (vectors_of rays)
reached_up n b u hs lin rays hn hb s f (begun basis k) = few_rows n b u [] basis [] hn hb (omega arith) f (begun basis k)
reached_up n b u hs lin rays hn hb s f (split before lines old middle out h whole e z k p g r) = elim (index (length before) u) [
  | less l ↦ at_next n b u (length before) (length hs) lin (vectors_of rays) (snoc_long before h hs e)
      (omega (arith, l)) (split_up n b (reached_bound n b (length before - u)) h lin old middle rays hn hb (reached_one n b (length before - u) hn hb)
      (s.long h (sized_last before h hs e)) (s.small.each h (sized_last before h hs e)) k p
      (reached_up n b u before lin old hn hb (sized_front n b before h hs e s) (front_begins n u before h hs e f) r))
  | at q ↦ at_next n b u (length before) (length hs) lin (vectors_of rays) (snoc_long before h hs e)
      (omega (arith, q)) (split_up n b (reached_bound n b (length before - u)) h lin old middle rays hn hb (reached_one n b (length before - u) hn hb)
      (s.long h (sized_last before h hs e)) (s.small.each h (sized_last before h hs e)) k p
      (reached_up n b u before lin old hn hb (sized_front n b before h hs e s) (front_begins n u before h hs e f) r))
  | more l ↦ few_rows n b u hs lin rays hn hb (let w = snoc_long before h hs e in omega (arith, l, w)) f (split before lines old middle out h whole e z k p g r)
]
reached_up n b u hs lin rays hn hb s f (lined before whole lines old next h l i all e k z r) = elim (index (length before) u) [
  | less t ↦ at_next n b u (length before) (length hs) lin (vectors_of rays) (snoc_long before h hs e)
      (omega (arith, t)) (lined_up n b (reached_bound n b (length before - u)) h l whole lin i _ old rays hn hb (reached_one n b (length before - u) hn hb)
      (s.long h (sized_last before h hs e)) (s.small.each h (sized_last before h hs e)) k z
      (reached_up n b u before whole old hn hb (sized_front n b before h hs e s) (front_begins n u before h hs e f) r))
  | at q ↦ at_next n b u (length before) (length hs) lin (vectors_of rays) (snoc_long before h hs e)
      (omega (arith, q)) (lined_up n b (reached_bound n b (length before - u)) h l whole lin i _ old rays hn hb (reached_one n b (length before - u) hn hb)
      (s.long h (sized_last before h hs e)) (s.small.each h (sized_last before h hs e)) k z
      (reached_up n b u before whole old hn hb (sized_front n b before h hs e s) (front_begins n u before h hs e f) r))
  | more t ↦ few_rows n b u hs lin rays hn hb (let w = snoc_long before h hs e in omega (arith, t, w)) f (lined before whole lines old next h l i all e k z r)
]

no_leveling : (n b m row : ℕ) (h l x : List ℤ) (s : ConeOverflow) → length h ≡ n → UpTo b h → UpTo m l → UpTo m x → n * (b * m) < 2 ^ 127 →
    next_bound n b m < 2 ^ 127 → IsLeveling row h l x s → ⊥
no_leveling n b m row h l x s e u ul ux small room (inl k) = no_dot n b m row h x s (omega (arith, e)) u ux small k
no_leveling n b m row h l x s e u ul ux small room (inr (inl k)) =
    no_combining row Add (dot h l) x (neg_ℤ (dot h x)) l s (n * (b * m)) m (n * (b * m)) m not_add (dot_up n b m h l (omega (arith, e)) u ul) ux
    (neg_up (dot h x) (n * (b * m)) (dot_up n b m h x (omega (arith, e)) u ux)) ul room k.1
no_leveling n b m row h l x s e u ul ux small room (inr (inr k)) =
    no_combining row Add (dot h l) x (dot h x) (opposite l) s (n * (b * m)) m (n * (b * m)) m not_add (dot_up n b m h l (omega (arith, e)) u ul) ux
    (dot_up n b m h x (omega (arith, e)) u ux) (opposite_up m l ul) room k.1

pub no_row_step : (n b m row : ℕ) (h : List ℤ) (lin : List (List ℤ)) (rays : List Ray) (s : ConeOverflow) → length h ≡ n → UpTo b h → AreUpTo m lin →
    AreUpTo m (vectors_of rays) → n * (b * m) < 2 ^ 127 → next_bound n b m < 2 ^ 127 → IsRowStep row h lin rays s → ⊥
no_row_step n b m row h lin rays s e u ul ur small room (lineal t) =
    no_dot n b m row h (get_or lin t.index []) s (omega (arith, e)) u (ul.each _ (t.index, t.inside, get_or_default lin t.index _ [] t.inside)) small t.step
no_row_step n b m row h lin rays s e u ul ur small room (splitting f (testing r c k)) =
    no_dot n b m row h r.vector s (omega (arith, e)) u (ur.each r.vector (vector_in rays r c)) small k
no_row_step n b m row h lin rays s e u ul ur small room (splitting f (pairing p q cp cq up down free k)) =
    let a = ur.each p.vector (vector_in rays p cp) in let d = ur.each q.vector (vector_in rays q cq) in
    no_combining row Add (dot h p.vector) q.vector (neg_ℤ (dot h q.vector)) p.vector s (n * (b * m)) m (n * (b * m)) m not_add
    (dot_up n b m h p.vector (omega (arith, e)) u a) d (neg_up (dot h q.vector) (n * (b * m)) (dot_up n b m h q.vector (omega (arith, e)) u d)) a room k
no_row_step n b m row h lin rays s e u ul ur small room (leveling i l y line cy k) =
    no_leveling n b m row h l y s e u (line_up m h lin i l line ul) (elim cy [ inl c ↦ ul.each y (of_rest lin i y line.inside c) | inr c ↦ ur.each y c ])
    small room k

-- ---- at the end, where the lineality space is zero

zero_lines : (n : ℕ) (hs lin : List (List ℤ)) (rays : List Ray) → IsPointed n hs → IsReachedState n [] hs lin rays → (x : List ℤ) → Contains lin x → x ≡ zeros n
zero_lines n hs lin rays p r x c =
    let t = reached_state n [] hs lin rays (λ k d h. absurd (omega (arith, h))) r in
    p x (t.described.lin_width x c) (λ h k. t.described.valid.flat h x k c)

straight_none : (ys : List (List ℤ)) (x w : List ℤ) → length ys ≡ 0 → IsStraightened ys x w → w ≡ x
straight_none ys x w e (straight_done v) = refl
straight_none ys x w e (straight_next y rest v z u whole f k s) = absurd (omega (arith, e, ap length f))

own_zero : (n : ℕ) → dot (zeros n) (zeros n) ≡ pos 0
own_zero zero = refl
own_zero (suc n) = let q = own_zero n in omega (arith, ints, q)

orthogonal_none : (n : ℕ) (lin out : List (List ℤ)) → ((x : List ℤ) → Contains lin x → x ≡ zeros n) → IsOrthogonalized lin out → length out ≡ 0
orthogonal_none n lin out z start = refl
orthogonal_none n lin out z (added before old x w whole all e f r s up) =
    let o = orthogonal_none n before old (λ y c. z y (subst (λ (l : List (List ℤ)). Contains l y) (sym e) (first_in before x y c))) r in
    let q : w ≡ zeros n = straight_none old x w o s ∙ z x (sized_last before x lin e) in
    absurd (let k : dot w w ≡ pos 0 = ap (λ v. dot v v) q ∙ own_zero n in omega (arith, ints, k, up))
orthogonal_none n lin out z (gone before old x w whole e r s k) =
    orthogonal_none n before out (λ y c. z y (subst (λ (l : List (List ℤ)). Contains l y) (sym e) (first_in before x y c))) r

pub append_long : (before after : List (List ℤ)) (y : List ℤ) → 0 < length (before ++ y ∷ after)
append_long [] after y = omega arith
append_long (x ∷ xs) after y = omega arith

at_middle : (before after : List (List ℤ)) (y : List ℤ) → get_or (before ++ y ∷ after) (length before) [] ≡ y
at_middle [] after y = refl
at_middle (x ∷ xs) after y = at_middle xs after y

pub middle_in : (before after : List (List ℤ)) (y : List ℤ) → Contains (before ++ y ∷ after) y
middle_in [] after y = (0, omega arith, refl)
middle_in (x ∷ xs) after y = let c = middle_in xs after y in (suc c.0, omega (arith, c.1), c.2)

pub front_in : (before after : List (List ℤ)) (y x : List ℤ) → Contains before x → Contains (before ++ y ∷ after) x
front_in before after y x c = Contains-append_left before (y ∷ after) x c

no_orthogonalizing : (row n : ℕ) (lin : List (List ℤ)) (s : ConeOverflow) → ((x : List ℤ) → Contains lin x → x ≡ zeros n) → IsOrthogonalizing row lin s → ⊥
no_orthogonalizing row n lin s z k =
    let o : length k.out ≡ 0 = orthogonal_none n k.before k.out
    (λ y c. z y (subst (λ (l : List (List ℤ)). Contains l y) (sym k.parts) (front_in k.before k.after k.x y c))) k.reached in
    elim k.step [
      | inl t ↦ let q = append_long t.before t.after t.y in omega (arith, o, q, ap length t.parts)
      | inr t ↦
          let q : t.0 ≡ zeros n =
          straight_none k.out k.x t.0 o t.1.0 ∙ z k.x (subst (λ (l : List (List ℤ)). Contains l k.x) (sym k.parts) (middle_in k.before k.after k.x)) in
          no_dot n 0 0 row (zeros n) (zeros n) s (omega (arith, length-zeros n)) (up_zeros 0 n) (up_zeros 0 n) (omega arith)
          (subst (λ v. IsDotStep row v v s) q t.1.1)
    ]

turned_none : (j : ℕ) → turned_bound 0 j ≡ 0
turned_none zero = refl
turned_none (suc j) = let q = turned_none j in rw q refl

-- ---- all together

pub room_below : (n b m : ℕ) → 1 ≤ m → next_bound n b m < 2 ^ 127 → n * (b * m) < 2 ^ 127
room_below n b m h r = let q = less_of m (n * (b * m)) (omega (arith, h)) in omega (arith, q, r)

twice_below : (b j : ℕ) → 1 ≤ b → 2 * suc j ≤ turned_bound b (suc j)
twice_below b zero h = let q = square_le b in omega (arith, q, h)
twice_below b (suc j) h = let q = twice_below b j h in let r = square_le (turned_bound b (suc j)) in omega (arith, q, r)

unit_step_room : (n b : ℕ) → 1 ≤ n → 1 ≤ b → turned_bound b n < 2 ^ 127 → next_bound n 1 1 < 2 ^ 127
unit_step_room zero b hn hb h = absurd (omega (arith, hn))
unit_step_room (suc n) b hn hb h = let q = twice_below b n hb in omega (arith, q, h)

no_reached_step : (n b u : ℕ) (hs : List (List ℤ)) (s : ConeOverflow) → 1 ≤ n → 1 ≤ b → AreSized n b hs → IsPointed n hs → BeginWithUnits n u hs →
    reached_bound n b (length hs - u) < 2 ^ 127 → turned_bound b n < 2 ^ 127 → IsRaysStep n hs [] s → ⊥
no_reached_step n b u hs s hn hb z p f room ends (null_space k) = no_null_step _ n s k
no_reached_step n b u hs s hn hb z p f room ends (taking before after lin rays h e r k) =
    let m = reached_bound n b (length before - u) in
    let zb : AreSized n b before = record {
      long = λ x c. z.long x (subst (λ (l : List (List ℤ)). Contains l x) (sym e) (front_in before after h x c));
      small = record { each = λ x c. z.small.each x (subst (λ (l : List (List ℤ)). Contains l x) (sym e) (front_in before after h x c)) };
    } in
    let fits : suc (length before) ≤ length hs = omega (arith, ap length e, length-append before (h ∷ after)) in
    let fb : BeginWithUnits n u before = λ i hi hl. subst (IsUnitRow n) (ap (λ (l : List (List ℤ)). get_or l i []) e ∙ get_or_append_left before
    (h ∷ after) [] i hl) (f i hi (omega (arith, fits, hl))) in
    let ch : Contains hs h = subst (λ (l : List (List ℤ)). Contains l h) (sym e) (middle_in before after h) in
    let q = reached_up n b u before lin rays hn hb zb fb r in
    let late : u ≤ length before → ⊥ = λ hu.
    let up : next_bound n b m ≤ reached_bound n b (length hs - u) =
    mono (reached_bound n b) (λ i. reached_step n b i hn hb) (suc (length before - u)) (length hs - u) (omega (arith, fits, hu)) in
    let has : next_bound n b m < 2 ^ 127 = omega (arith, up, room) in
    no_row_step n b m (length before) h lin rays s (z.long h ch) (z.small.each h ch) q.first q.second
    (room_below n b m (reached_one n b (length before - u) hn hb) has) has k in
    elim (index (length before) u) [
      | less l ↦ late (omega (arith, l))
      | at l ↦ late (omega (arith, l))
      | more l ↦
          let row : IsUnitRow n h = subst (IsUnitRow n) (ap (λ (l : List (List ℤ)). get_or l (length before) []) e ∙ at_middle before after h)
          (f (length before) l (omega (arith, fits))) in
          let uh : UpTo 1 h = subst (UpTo 1) (sym row.is) (unitary_up _ ((units_unitary n).each _ (
            row.index,
            omega (arith, units_long n, row.inside),
            get_or_default (unit_vectors n) row.index _ [] (omega (arith, units_long n, row.inside)),
          ))) in
          let w = reached_unitary n before lin rays (λ x c. subst (IsUnitRow n) (get_or_default before c.0 [] x c.1 ∙ c.2) (fb c.0 (omega (arith, c.1, l)) c.1))
          r in
          let has = unit_step_room n b hn hb ends in
          no_row_step n 1 1 (length before) h lin rays s (z.long h ch) uh (record { each = λ x c. unitary_up x (w.first.each x c) })
          (record { each = λ x c. unitary_up x (w.second.each x c) }) (room_below n 1 1 (omega arith) has) has k
    ]
no_reached_step n b u hs s hn hb z p f room ends (lineality lin rays r k) = no_orthogonalizing _ n lin s (zero_lines n hs lin rays p r) k
no_reached_step n b u hs s hn hb z p f room ends (straight lin ortho rays y r o c k) =
    let l : length ortho ≡ 0 = orthogonal_none n lin ortho (zero_lines n hs lin rays p r) o in
    let q = append_long k.before k.after k.y in absurd (omega (arith, l, q, ap length k.parts))
no_reached_step n b u hs s hn hb z p f room ends (echelon lin rays r k) =
    no_elimination _ n 0 lin n n s (record { each = λ x c. subst (UpTo 0) (sym (zero_lines n hs lin rays p r x c)) (up_zeros 0 n) }) (inl (omega arith))
    (let q = turned_none n in omega (arith, q)) k
no_reached_step n b u hs s hn hb z p f room ends (implied flat c k) =
    no_elimination _ n b (flat ++ []) n n s (record {
      each = λ x i. elim (Contains-append_cases flat [] x i) [
        | inl a ↦ z.small.each x (chosen_in (IsZeroOn n hs []) hs flat x c a)
        | inr a ↦ absurd (none_in x a)
      ];
    }) (inl (omega arith)) ends k

pub entry_up : (b : ℕ) (xs : List ℤ) → All (λ x. unsigned_abs x ≤ b) xs → UpTo b xs
entry_up b xs h = record { at = λ i. at_index b xs i h }
  where
    at_index : (b : ℕ) (xs : List ℤ) (i : ℕ) → All (λ x. unsigned_abs x ≤ b) xs → unsigned_abs (entry_at xs i) ≤ b
    at_index b [] i h = omega arith
    at_index b (x ∷ xs) zero h = h 0 (pos 0) (omega arith)
    at_index b (x ∷ xs) (suc i) h = at_index b xs i (λ k d l. h (suc k) d (omega (arith, l)))

pub small_systems_stay_within_limits : SmallSystemsStayWithinLimits
small_systems_stay_within_limits n b m rows hn hb w u p f room ends s k =
    no_reached_step n b m rows s hn hb (record {
      long = λ h c. All-contains (λ t. length t ≡ n) rows h w c;
      small = record { each = λ h c. entry_up b h (All-contains (All (λ x. unsigned_abs x ≤ b)) rows h u c) };
    }) p f room ends k

-- ---- the positive orthant and some rows more

orthant_rows : (n : ℕ) (others : List (List ℤ)) → AreRows n others → AreRows n (unit_vectors n ++ others)
orthant_rows n others w = all_by (λ t. length t ≡ n) (unit_vectors n ++ others) (λ t c. elim (Contains-append_cases (unit_vectors n) others t c) [
  | inl a ↦ ap length (sym (get_or_default (unit_vectors n) a.0 [] t a.1 ∙ a.2)) ∙ unit_long n a.0 (omega (arith, units_long n, a.1))
  | inr a ↦ All-contains (λ t. length t ≡ n) others t w a
])

unit_entries : (b : ℕ) (t : List ℤ) → 1 ≤ b → IsUnitary t → All (λ x. unsigned_abs x ≤ b) t
unit_entries b t h u k d l = let q = one_up (entry_at t k) (u.values k) in subst (λ z. unsigned_abs z ≤ b) (get_or_default t k (pos 0) d l)
    (omega (arith, h, q))

orthant_entries : (n b : ℕ) (others : List (List ℤ)) → 1 ≤ b → HaveEntriesUpTo b others → HaveEntriesUpTo b (unit_vectors n ++ others)
orthant_entries n b others h u =
    all_by (All (λ x. unsigned_abs x ≤ b)) (unit_vectors n ++ others) (λ t c. elim (Contains-append_cases (unit_vectors n) others t c) [
      | inl a ↦ unit_entries b t h ((units_unitary n).each t a)
      | inr a ↦ All-contains (All (λ x. unsigned_abs x ≤ b)) others t u a
    ])

orthant_pointed : (n : ℕ) (others : List (List ℤ)) → IsPointed n (unit_vectors n ++ others)
orthant_pointed n others x l f = all_zero n x l (λ i h.
    let e : List ℤ = get_or (unit_vectors n) i [] in
    let k : i < length (unit_vectors n) = omega (arith, units_long n, h) in
    sym (dot_unit n i x l h) ∙ dot_comm x e ∙ f e (Contains-append_left (unit_vectors n) others e (i, k, get_or_default (unit_vectors n) i e [] k)))

orthant_begins : (n : ℕ) (others : List (List ℤ)) → BeginWithUnits n n (unit_vectors n ++ others)
orthant_begins n others k h l = record { index = k; inside = h; is = get_or_append_left (unit_vectors n) others [] k (omega (arith, units_long n, h)) }

pub parts_of_orthants_stay_within_limits : PartsOfOrthantsStayWithinLimits
parts_of_orthants_stay_within_limits n b others hn hb w u room ends =
    small_systems_stay_within_limits n b n (unit_vectors n ++ others) hn hb (orthant_rows n others w) (orthant_entries n b others hb u)
    (orthant_pointed n others) (orthant_begins n others)
    (subst (λ m. reached_bound n b m < 2 ^ 127) (let e : length others ≡ length (unit_vectors n ++ others) - n =
    omega (arith, units_long n, length-append (unit_vectors n) others) in e) room) ends

pub two_rows_of_three_variables : TwoRowsOfThreeVariables
two_rows_of_three_variables g h w u = parts_of_orthants_stay_within_limits 3 30000 (g ∷ h ∷ []) (omega arith) (omega arith) w u (omega arith) (omega arith)
