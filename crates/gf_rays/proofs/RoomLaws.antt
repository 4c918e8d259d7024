-- Where bounds on the rows have room, no operation of finding the rays leaves the range, whatever the equations and the lineality space.
use Rattle.std.proofs.Common.{◌≡◌, ℕ, zero, suc, ◌+◌, ◌*◌, ◌^◌, ◌<◌, ◌≤◌, ◌-◌, List, [], ◌∷◌, ◌++◌, length, ℤ, neg_ℤ, ◌⊎◌, arith, sym, refl, ap, ◌∙◌, subst}
use Rattle.std.proofs.Common.{inl, inr, get_or, map, drop, remove, length-append, unsigned_abs, All, Contains, Bool, true, false, ◌&&◌, cond}
use Rattle.std.proofs.Math.Nat.{mul-le-mul_left}
use Rattle.std.proofs.lemmas.Bool.{ltb-true, and_parts, true_from_ne_false}
use Rattle.std.proofs.lemmas.List.{get_or_default, length-map}
use Rattle.std.proofs.lemmas.List.Edits.{length-remove}
use Rattle.std.proofs.lemmas.List.Elements.{All-contains, Contains-append_cases}
use Rattle.std.proofs.lemmas.Slice.Zip.{AllZip-long}
use Rattle.gf_vec.specs.declared.error.VecOp.TheVariants.{Sub}
use Rattle.gf_vec.specs.Vector.{dot, values}
use Rattle.gf_gordan.specs.Alternative.{AreRows}
use Rattle.gf_gordan.specs.Sizes.{HaveEntriesUpTo}
use Rattle.gf_gordan.specs.declared.error.ConeOverflow.{ConeOverflow}
use Rattle.gf_gordan.proofs.SizeLaws.{UpTo, neg_up, up_weaker, up_times, up_sum, up_divided, up_append, up_cons, up_none, up_drop, less_of, dot_up}
use Rattle.gf_duality_theory.specs.Combining.{pair}
use Rattle.gf_duality_theory.specs.Generators.{unit_vectors}
use Rattle.gf_duality_theory.specs.Rays.{IsRays, IsZeroOn}
use Rattle.gf_duality_theory.specs.Elimination.{IsEliminated, IsNormalised, IsNullSpace, IsNullStep, eliminating, reducing, with_values, columns}
use Rattle.gf_duality_theory.specs.Straightening.{IsLeveled, IsStraightened, done as straight_done, next as straight_next, IsOrthogonalized, start, added}
use Rattle.gf_duality_theory.specs.Straightening.{gone, IsStraightening, IsOrthogonalizing}
use Rattle.gf_duality_theory.proofs.ListLaws.{none_in, first_in, zip_from, index, less, at, more}
use Rattle.gf_duality_theory.proofs.Orthogonal.{basis as orthogonal_basis, straightened, head_in}
use Rattle.gf_fans_theory.proofs.PartNumbers.{of_map}
use Rattle.gf_rays.specs.declared.ray.Ray.{Ray}
use Rattle.gf_rays.specs.Further.{IsTaken, by_split, by_line, IsFurtherState, begun as begun_further, taken, IsEndStep, lineality as end_lineality}
use Rattle.gf_rays.specs.Further.{straight as end_straight, echelon as end_echelon, implied as end_implied, AreMarkedRays, IsFurtherStep}
use Rattle.gf_rays.specs.Further.{taking as taking_further, ending}
use Rattle.gf_rays.specs.Leveling.{IsLine, IsLinedBy}
use Rattle.gf_rays.specs.Limits.{turned_bound, next_bound, along_bound, straight_bound, orthogonal_bound, fits, rows_fit, starts_fit, has_room}
use Rattle.gf_rays.specs.Limits.{SystemsWithRoomStayWithinLimits, SmallSystemsHaveRoom, FurtherRowsStayWithinLimits, ConesHaveRoom}
use Rattle.gf_rays.specs.MarkedRays.{IsPruned, vectors_of}
use Rattle.gf_rays.specs.Reached.{IsReachedState, begun, split, lined, IsRaysStep, null_space, taking, lineality, straight, echelon, implied}
use Rattle.gf_rays.specs.Splitting.{IsSplit}
use Rattle.gf_rays.proofs.EliminateLaws.{units_long, dot_unit}
use Rattle.gf_rays.proofs.FurtherLaws.{state_of, further_state}
use Rattle.gf_rays.proofs.PruneLaws.{of_pruned}
use Rattle.gf_rays.proofs.ReachedLaws.{reached_state, chosen_in}
use Rattle.gf_rays.proofs.SplitLaws.{vector_in, of_vector}
use Rattle.gf_rays.proofs.ReachedSizes.{AreUpTo, BothUpTo, mono, turned_step, next_step, no_combining, not_sub, eliminated_up, elimination_counts}
use Rattle.gf_rays.proofs.ReachedSizes.{no_elimination, begin_rows, normal_up, unitary_eliminated, unitary_up, units_unitary, entry_up, sized_last, snoc_long}
use Rattle.gf_rays.proofs.ReachedSizes.{split_up, lined_up, no_row_step, room_below, middle_in, front_in}
use Rattle.gf_gordan.proofs.StepSizes.{no_dot}
use Rattle.gf_int_theory.proofs.SignLaws.{mul_positive}
use Rattle.gf_int_theory.proofs.ListLaws.{Contains-last, all_by}

-- ---- along vectors, to be orthogonal to them

below_fits : (b : ℕ) → fits b ≡ true → b < 2 ^ 127
below_fits b h = ltb-true b (2 ^ 127) h

more_by : (y c : ℕ) → 1 ≤ c → y ≤ y * c
more_by y c h = let q = mul-le-mul_left y h in omega (arith, q)

along_step : (n o v : ℕ) → 1 ≤ n → 1 ≤ o → v ≤ along_bound n o v
along_step n o v hn ho = let q =
    less_of (n * (o * o)) v (mul_positive n (o * o) (omega (arith, hn)) (mul_positive o o (omega (arith, ho)) (omega (arith, ho)))) in omega (arith, q)

straight_step : (n o v k : ℕ) → 1 ≤ n → 1 ≤ o → straight_bound n o k v ≤ straight_bound n o (suc k) v
straight_step n o v k hn ho = along_step n o (straight_bound n o k v) hn ho

straight_mono : (n o v j c : ℕ) → 1 ≤ n → 1 ≤ o → j ≤ c → straight_bound n o j v ≤ straight_bound n o c v
straight_mono n o v j c hn ho h = mono (λ k. straight_bound n o k v) (λ k. straight_step n o v k hn ho) j c h

straight_one : (n o v c : ℕ) → 1 ≤ n → 1 ≤ o → 1 ≤ v → 1 ≤ straight_bound n o c v
straight_one n o v c hn ho hv = let q = straight_mono n o v 0 c hn ho (omega arith) in omega (arith, q, hv)

orthogonal_step : (n m k : ℕ) → orthogonal_bound n m k ≤ orthogonal_bound n m (suc k)
orthogonal_step n m k = omega arith

orthogonal_mono : (n m j c : ℕ) → j ≤ c → orthogonal_bound n m j ≤ orthogonal_bound n m c
orthogonal_mono n m j c h = mono (orthogonal_bound n m) (orthogonal_step n m) j c h

orthogonal_one : (n m c : ℕ) → 1 ≤ orthogonal_bound n m c
orthogonal_one n m c = orthogonal_mono n m 0 c (omega arith)

along_later : (n o v c : ℕ) → straight_bound n o c (along_bound n o v) ≡ straight_bound n o (suc c) v
along_later n o v zero = refl
along_later n o v (suc c) = ap (along_bound n o) (along_later n o v c)

along_up : (n o v : ℕ) (y x z : List ℤ) → 1 ≤ n → 1 ≤ o → length y ≡ n → UpTo o y → UpTo v x → IsLeveled y y x z → UpTo (along_bound n o v) z
along_up n o v y x z hn ho l uy ux (inl k) = subst (UpTo (along_bound n o v)) (sym k.1) (up_weaker v (along_bound n o v) x (along_step n o v hn ho) ux)
along_up n o v y x z hn ho l uy ux (inr k) =
    let own = dot_up n o o y y (omega (arith, l)) uy uy in
    let at = dot_up n o v y x (omega (arith, l)) uy ux in
    up_divided (along_bound n o v) (pair y y x) z k.1.0 k.1.1 (up_sum (n * (o * o) * v) (n * (o * v) * o) _ _ (up_times (dot y y) (n * (o * o)) v x own ux)
    (up_times (neg_ℤ (dot y x)) (n * (o * v)) o y (neg_up (dot y x) (n * (o * v)) at) uy))

-- vectors of n entries up to b
record AreWide (n b : ℕ) (ys : List (List ℤ)) : Type 0 where
  long : (y : List ℤ) → Contains ys y → length y ≡ n
  small : AreUpTo b ys

wide_tail : (n b : ℕ) (y : List ℤ) (ys whole : List (List ℤ)) → whole ≡ y ∷ ys → AreWide n b whole → AreWide n b ys
wide_tail n b y ys whole e w = record {
  long = λ t c. w.long t (subst (λ (l : List (List ℤ)). Contains l t) (sym e) (suc c.0, omega (arith, c.1), c.2));
  small = record { each = λ t c. w.small.each t (subst (λ (l : List (List ℤ)). Contains l t) (sym e) (suc c.0, omega (arith, c.1), c.2)) };
}

straight_up : (n o v : ℕ) (ys : List (List ℤ)) (x w : List ℤ) → 1 ≤ n → 1 ≤ o → AreWide n o ys → UpTo v x → IsStraightened ys x w →
    UpTo (straight_bound n o (length ys) v) w
straight_up n o v ys x w hn ho wy ux (straight_done u) = ux
straight_up n o v ys x w hn ho wy ux (straight_next y rest u z t whole e k s) =
    let c : Contains ys y = head_in y rest ys e in
    let p : UpTo (straight_bound n o (length rest) (along_bound n o v)) w = straight_up n o (along_bound n o v) rest z w hn ho (wide_tail n o y rest ys e wy)
    (along_up n o v y x z hn ho (wy.long y c) (wy.small.each y c) ux k) s in
    subst (λ b. UpTo b w) (along_later n o v (length rest) ∙ ap (λ (l : List (List ℤ)). straight_bound n o (length l) v) (sym e)) p

no_straightening : (row n o v : ℕ) (ys : List (List ℤ)) (x : List ℤ) (s : ConeOverflow) → 1 ≤ n → 1 ≤ o → 1 ≤ v → AreWide n o ys → UpTo v x →
    straight_bound n o (length ys) v < 2 ^ 127 → IsStraightening row ys x s → ⊥
no_straightening row n o v ys x s hn ho hv wy ux room k =
    let j = length k.before in
    let z = straight_bound n o j v in
    let c : Contains ys k.y = subst (λ (l : List (List ℤ)). Contains l k.y) (sym k.parts) (middle_in k.before k.after k.y) in
    let uy : UpTo o k.y = wy.small.each k.y c in
    let l : length k.y ≡ n = wy.long k.y c in
    let front : AreWide n o k.before = record {
      long = λ t i. wy.long t (subst (λ (q : List (List ℤ)). Contains q t) (sym k.parts) (front_in k.before k.after k.y t i));
      small = record { each = λ t i. wy.small.each t (subst (λ (q : List (List ℤ)). Contains q t) (sym k.parts) (front_in k.before k.after k.y t i)) };
    } in
    let uz : UpTo z k.z = straight_up n o v k.before x k.z hn ho front ux k.reached in
    let fewer : suc j ≤ length ys = omega (arith, ap length k.parts, length-append k.before (k.y ∷ k.after)) in
    let up : along_bound n o z ≤ straight_bound n o (length ys) v = straight_mono n o v (suc j) (length ys) hn ho fewer in
    let first : n * (o * o) ≤ n * (o * o) * z = more_by (n * (o * o)) z (straight_one n o v j hn ho hv) in
    let second : n * (o * z) ≤ n * (o * z) * o = more_by (n * (o * z)) o ho in
    elim k.step [
      | inl t ↦ no_dot n o o row k.y k.y s (omega (arith, l)) uy uy (omega (arith, up, first, room)) t
      | inr t ↦ elim t [
        | inl d ↦ no_dot n o z row k.y k.z s (omega (arith, l)) uy uz (omega (arith, up, second, room)) d
        | inr d ↦ no_combining row Sub (dot k.y k.y) k.z (dot k.y k.z) k.y s (n * (o * o)) z (n * (o * z)) o not_sub
            (dot_up n o o k.y k.y (omega (arith, l)) uy uy) uz (dot_up n o z k.y k.z (omega (arith, l)) uy uz) uy (omega (arith, up, room)) d.1
      ]
    ]

-- no more than there were, and how large
record AreOrthogonal (n m : ℕ) (lin out : List (List ℤ)) : Type 0 where
  fewer : length out ≤ length lin
  small : AreUpTo (orthogonal_bound n m (length lin)) out

wide_front : (n m : ℕ) (lin : List (List ℤ)) (x : List ℤ) (whole : List (List ℤ)) → whole ≡ lin ++ x ∷ [] → AreWide n m whole → AreWide n m lin
wide_front n m lin x whole e w = record {
  long = λ t c. w.long t (subst (λ (l : List (List ℤ)). Contains l t) (sym e) (first_in lin x t c));
  small = record { each = λ t c. w.small.each t (subst (λ (l : List (List ℤ)). Contains l t) (sym e) (first_in lin x t c)) };
}

orthogonal_wide : (n m : ℕ) (lin out : List (List ℤ)) → AreWide n m lin → IsOrthogonalized lin out → AreUpTo (orthogonal_bound n m (length lin)) out →
    AreWide n (orthogonal_bound n m (length lin)) out
orthogonal_wide n m lin out w o u = record { long = (orthogonal_basis n lin out w.long o).base.width; small = u }

-- one more brought along those so far
last_up : (n m : ℕ) (lin out : List (List ℤ)) (x w : List ℤ) → 1 ≤ n → AreWide n m lin → UpTo m x → IsOrthogonalized lin out → AreOrthogonal n m lin out →
    IsStraightened out x w → UpTo (straight_bound n (orthogonal_bound n m (length lin)) (length lin) m) w
last_up n m lin out x w hn wl ux o q s =
    let b = orthogonal_bound n m (length lin) in
    up_weaker _ _ w (straight_mono n b m (length out) (length lin) hn (orthogonal_one n m (length lin)) q.fewer)
    (straight_up n b m out x w hn (orthogonal_one n m (length lin)) (orthogonal_wide n m lin out wl o q.small) ux s)

orthogonal_up : (n m : ℕ) (lin out : List (List ℤ)) → 1 ≤ n → AreWide n m lin → IsOrthogonalized lin out → AreOrthogonal n m lin out
orthogonal_up n m lin out hn w start = record { fewer = omega arith; small = record { each = λ x c. absurd (none_in x c) } }
orthogonal_up n m lin out hn w (added before old x z whole all e f r s up) =
    let wb = wide_front n m before x lin e w in
    let q = orthogonal_up n m before old hn wb r in
    let b = orthogonal_bound n m (length before) in
    let t = straight_bound n b (length before) m in
    let es : length lin ≡ suc (length before) = snoc_long before x lin e in
    let ux : UpTo m x = w.small.each x (sized_last before x lin e) in
    record {
      fewer = omega (arith, es, snoc_long old z out f, q.fewer);
      small = record {
        each = λ y c. subst (λ k. UpTo (orthogonal_bound n m k) y) (sym es) (elim (Contains-last old z y (subst (λ (l : List (List ℤ)). Contains l y) f c)) [
          | inl a ↦ up_weaker b (b + t) y (omega arith) (q.small.each y a)
          | inr g ↦ subst (UpTo (b + t)) (sym g) (up_weaker t (b + t) z (omega arith) (last_up n m before old x z hn wb ux r q s))
        ]);
      };
    }
orthogonal_up n m lin out hn w (gone before old x z whole e r s k) =
    let wb = wide_front n m before x lin e w in
    let q = orthogonal_up n m before out hn wb r in
    let es : length lin ≡ suc (length before) = snoc_long before x lin e in
    record {
      fewer = omega (arith, es, q.fewer);
      small = record { each = λ y c. up_weaker _ _ y (orthogonal_mono n m (length before) (length lin) (omega (arith, es))) (q.small.each y c) };
    }

no_orthogonalizing : (row n m : ℕ) (lin : List (List ℤ)) (s : ConeOverflow) → 1 ≤ n → 1 ≤ m → AreWide n m lin →
    n * (orthogonal_bound n m (length lin) * orthogonal_bound n m (length lin)) < 2 ^ 127 → IsOrthogonalizing row lin s → ⊥
no_orthogonalizing row n m lin s hn hm w room k =
    let j = length k.before in
    let b = orthogonal_bound n m j in
    let t = straight_bound n b j m in
    let d = orthogonal_bound n m (length lin) in
    let front : AreWide n m k.before = record {
      long = λ y i. w.long y (subst (λ (q : List (List ℤ)). Contains q y) (sym k.parts) (front_in k.before k.after k.x y i));
      small = record { each = λ y i. w.small.each y (subst (λ (q : List (List ℤ)). Contains q y) (sym k.parts) (front_in k.before k.after k.x y i)) };
    } in
    let cx : Contains lin k.x = subst (λ (q : List (List ℤ)). Contains q k.x) (sym k.parts) (middle_in k.before k.after k.x) in
    let ux : UpTo m k.x = w.small.each k.x cx in
    let fewer : suc j ≤ length lin = omega (arith, ap length k.parts, length-append k.before (k.x ∷ k.after)) in
    let up : b + t ≤ d = orthogonal_mono n m (suc j) (length lin) fewer in
    let square : d ≤ n * (d * d) = let one = orthogonal_one n m (length lin) in let p = less_of d d (omega (arith, one)) in let q =
    less_of n (d * d) (omega (arith, hn)) in omega (arith, p, q) in
    let q = orthogonal_up n m k.before k.out hn front k.reached in
    let wo = orthogonal_wide n m k.before k.out front k.reached q.small in
    let short : straight_bound n b (length k.out) m ≤ t = straight_mono n b m (length k.out) j hn (orthogonal_one n m j) q.fewer in
    elim k.step [
      | inl f ↦ no_straightening row n b m k.out k.x s hn (orthogonal_one n m j) hm wo ux (omega (arith, short, up, square, room)) f
      | inr f ↦
          let uw : UpTo d f.0 = up_weaker t d f.0 (omega (arith, up)) (last_up n m k.before k.out k.x f.0 hn front ux k.reached q f.1.0) in
          let lw : length f.0 ≡ n = (straightened n k.out k.x f.0 (orthogonal_basis n k.before k.out front.long k.reached).base (w.long k.x cx) f.1.0).long in
          no_dot n d d row f.0 f.0 s (omega (arith, lw)) uw uw room f.1.1
    ]

-- ---- null spaces

values_up : (n b i : ℕ) (es : List (List ℤ)) → i < n → AreWide n b es → UpTo b (values es (get_or (unit_vectors n) i []))
values_up n b i [] h w = up_none b
values_up n b i (e ∷ es) h w =
    let c = head_in e es (e ∷ es) refl in
    up_cons b (dot e (get_or (unit_vectors n) i [])) (values es (get_or (unit_vectors n) i []))
    (subst (λ z. unsigned_abs z ≤ b) (sym (dot_unit n i e (w.long e c) h)) ((w.small.each e c).at i))
    (values_up n b i es h (wide_tail n b e es (e ∷ es) refl w))

columns_up : (n b : ℕ) (es : List (List ℤ)) → 1 ≤ b → AreWide n b es → AreUpTo b (columns n es)
columns_up n b es hb w = record {
  each = λ y c.
      let t = of_map (with_values es) (unit_vectors n) y c in
      let i = t.1.0 in
      let e : get_or (unit_vectors n) i.0 [] ≡ t.0 = get_or_default (unit_vectors n) i.0 [] t.0 i.1 ∙ i.2 in
      let front : UpTo b (values es t.0) = subst (λ x. UpTo b (values es x)) e (values_up n b i.0 es (omega (arith, units_long n, i.1)) w) in
      subst (UpTo b) t.1.1 (up_append b (values es t.0) t.0 front (up_weaker 1 b t.0 hb (unitary_up t.0 ((units_unitary n).each t.0 i))));
}

columns_long : (n : ℕ) (es : List (List ℤ)) → length (columns n es) ≡ n
columns_long n es = length-map (unit_vectors n) (with_values es) ∙ units_long n

drop_up : (b m : ℕ) (rows : List (List ℤ)) → AreUpTo b rows → AreUpTo b (map (drop m) rows)
drop_up b m rows u = record { each = λ y c. let t = of_map (drop m) rows y c in subst (UpTo b) t.1.1 (up_drop b m t.0 (u.each t.0 t.1.0)) }

turned_sum : (b p r : ℕ) → turned_bound (turned_bound b p) r ≡ turned_bound b (p + r)
turned_sum b p zero = ap (turned_bound b) (omega arith)
turned_sum b p (suc r) = ap (λ x. x * x + x * x) (turned_sum b p r) ∙ ap (turned_bound b) (let e : suc (p + r) ≡ p + suc r = omega arith in e)

turned_mono : (b j c : ℕ) → j ≤ c → turned_bound b j ≤ turned_bound b c
turned_mono b j c h = mono (turned_bound b) (turned_step b) j c h

-- what is read of an elimination of columns
record AreRead (n b : ℕ) (es done left : List (List ℤ)) : Type 0 where
  count : length done + length left ≡ n
  small : AreUpTo (turned_bound b (length done)) (map (drop (length es)) left)

read_columns : (n b m j : ℕ) (es done left : List (List ℤ)) → 1 ≤ b → AreWide n b es → IsEliminated m (columns n es) j done left → AreRead n b es done left
read_columns n b m j es out left hb w e = record {
  count = (elimination_counts m (columns n es) j out left e).1 ∙ columns_long n es;
  small = drop_up (turned_bound b (length out)) (length es) left (eliminated_up m b (columns n es) j out left (columns_up n b es hb w) e).second;
}

no_null_step : (row n b : ℕ) (es : List (List ℤ)) (s : ConeOverflow) → 1 ≤ b → AreWide n b es → turned_bound b n < 2 ^ 127 → IsNullStep row n es s → ⊥
no_null_step row n b es s hb w room (eliminating k) = no_elimination row (length es + n) b (columns n es) (length es) n s (columns_up n b es hb w)
    (inr (omega (arith, columns_long n es))) room k
no_null_step row n b es s hb w room (reducing out left e k) =
    let q = read_columns n b (length es + n) (length es) es out left hb w e in
    let l : length (map (drop (length es)) left) ≡ length left = length-map left (drop (length es)) in
    let up : turned_bound (turned_bound b (length out)) (length left) ≤ turned_bound b n =
    subst (λ x. x ≤ turned_bound b n) (sym (turned_sum b (length out) (length left)))
    (turned_mono b (length out + length left) n (omega (arith, q.count))) in
    no_elimination row n (turned_bound b (length out)) (map (drop (length es)) left) n (length left) s q.small
    (inr (omega (arith, l))) (omega (arith, up, room)) k

-- how many vectors a null space has, and how large they are
record IsSmallBasis (n b : ℕ) (basis : List (List ℤ)) : Type 0 where
  few : length basis ≤ n
  all : length basis ≡ n → AreUpTo 1 basis
  small : AreUpTo (turned_bound b n) basis

small_basis : (n b : ℕ) (es basis : List (List ℤ)) → 1 ≤ b → AreWide n b es → IsNullSpace n es basis → IsSmallBasis n b basis
small_basis n b es basis hb w k =
    let m = length es in
    let q = read_columns n b (m + n) m es k.done k.left hb w k.eliminated in
    let p = length k.done in
    let rights = map (drop m) k.left in
    let c = elimination_counts n rights n k.basis.done k.basis.left k.basis.eliminated in
    let l : length rights ≡ length k.left = length-map k.left (drop m) in
    let same : length basis ≡ length k.basis.done = AllZip-long IsNormalised k.basis.done basis k.basis.normal in
    let u = eliminated_up n (turned_bound b p) rights n k.basis.done k.basis.left q.small k.basis.eliminated in
    let up : turned_bound (turned_bound b p) (length k.basis.done) ≤ turned_bound b n =
    subst (λ x. x ≤ turned_bound b n) (sym (turned_sum b p (length k.basis.done)))
    (turned_mono b (p + length k.basis.done) n (omega (arith, q.count, c.1, l))) in
    record {
      few = omega (arith, same, c.1, l, q.count);
      all = λ e.
          let z : length k.done ≡ 0 = omega (arith, e, same, c.1, l, q.count) in
          let v = unitary_eliminated n rights n k.basis.done k.basis.left (begin_rows (m + n) n m es k.done k.left z k.eliminated) k.basis.eliminated in
          record {
            each = λ x i. let t = zip_from IsNormalised k.basis.done basis x k.basis.normal i in normal_up 1 t.0 x (unitary_up t.0 (v.first.each t.0 t.1.0))
                t.1.1;
          };
      small = record {
        each = λ x i. let t = zip_from IsNormalised k.basis.done basis x k.basis.normal i in
            normal_up (turned_bound b n) t.0 x (up_weaker _ _ t.0 up (u.first.each t.0 t.1.0)) t.1.1;
      };
    }

-- ---- row by row

-- of so many rows in all, those behind a state have room
record HasRoom (n b count : ℕ) (hs lin : List (List ℤ)) (rays : List Ray) : Type 0 where
  bound : ℕ
  one : 1 ≤ bound
  up : BothUpTo bound lin (vectors_of rays)
  some : Bool
  empty : some ≡ false → (r : Ray) → Contains rays r → ⊥
  room : rows_fit n b (count - length hs) some (length lin) bound ≡ true

one_turned : (b j : ℕ) → 1 ≤ b → 1 ≤ turned_bound b j
one_turned b j h = let q = turned_mono b 0 j (omega arith) in omega (arith, q, h)

start_at : (n b k p c : ℕ) → starts_fit n b k p ≡ true → c ≤ n → n ≤ c + p →
    (rows_fit n b k false c (turned_bound b n) ≡ true) ⊎ ((c ≡ n) × (rows_fit n b k false c 1 ≡ true))
start_at n b k zero c h l g = inr (omega (arith, l, g), subst (λ d. rows_fit n b k false d 1 ≡ true) (let e : n ≡ c = omega (arith, l, g) in e) h)
start_at n b k (suc p) c h l g =
    let t = and_parts (rows_fit n b k false (n - suc p) (turned_bound b n)) (starts_fit n b k p) h in
    elim (nearer n c p l g) [
      | inl e ↦ inl (subst (λ d. rows_fit n b k false d (turned_bound b n) ≡ true) (sym e) t.0)
      | inr f ↦ start_at n b k p c t.1 l f
    ]
  where
    nearer : (n c p : ℕ) → c ≤ n → n ≤ c + suc p → (c ≡ n - suc p) ⊎ (n ≤ c + p)
    nearer n c p l g = elim (index n (suc (c + p))) [ less a ↦ absurd (omega (arith, a, g)) | at e ↦ inl (omega (arith, e)) | more a ↦ inr (omega (arith, a)) ]

started : (n b count : ℕ) (es basis : List (List ℤ)) → 1 ≤ b → AreWide n b es → starts_fit n b count n ≡ true → IsNullSpace n es basis →
    HasRoom n b count [] basis []
started n b count es basis hb w h k =
    let q = small_basis n b es basis hb w k in
    let all : (m : ℕ) → rows_fit n b count false (length basis) m ≡ true → rows_fit n b (count - length {A = List ℤ} []) false (length basis) m ≡ true =
    λ m r. subst (λ i. rows_fit n b i false (length basis) m ≡ true) (let e : count ≡ count - 0 = omega arith in e) r in
    elim (start_at n b count n (length basis) h q.few (omega arith)) [
      | inl r ↦ record {
        bound = turned_bound b n;
        one = one_turned b n hb;
        up = record { first = q.small; second = record { each = λ x c. absurd (none_in x c) } };
        some = false;
        empty = λ e y c. none_in y c;
        room = all (turned_bound b n) r;
      }
      | inr r ↦ record {
        bound = 1;
        one = omega arith;
        up = record { first = q.all r.0; second = record { each = λ x c. absurd (none_in x c) } };
        some = false;
        empty = λ e y c. none_in y c;
        room = all 1 r.1;
      }
    ]

-- what one row more asks
record HasNextRoom (n b k : ℕ) (some : Bool) (c m : ℕ) : Type 0 where
  next : next_bound n b m < 2 ^ 127
  stays : rows_fit n b k some c (cond some (next_bound n b m) m) ≡ true
  goes : rows_fit n b k true (c - 1) (next_bound n b m) ≡ true

next_room : (n b k j : ℕ) (some : Bool) (c m : ℕ) → j ≡ suc k → rows_fit n b j some c m ≡ true → HasNextRoom n b k some c m
next_room n b k j some c m e h =
    let t = and_parts (fits (next_bound n b m)) (rows_fit n b k some c (cond some (next_bound n b m) m) && rows_fit n b k true (c - 1) (next_bound n b m))
    (subst (λ i. rows_fit n b i some c m ≡ true) e h) in
    let u = and_parts (rows_fit n b k some c (cond some (next_bound n b m) m)) (rows_fit n b k true (c - 1) (next_bound n b m)) t.1 in
    record { next = below_fits (next_bound n b m) t.0; stays = u.0; goes = u.1 }

before_last : (count : ℕ) (before : List (List ℤ)) (h : List ℤ) (whole : List (List ℤ)) → whole ≡ before ++ h ∷ [] → length whole ≤ count →
    count - length before ≡ suc (count - length whole)
before_last count before h whole e l = let s = snoc_long before h whole e in omega (arith, s, l)

module _ (n b count : ℕ) (hn : 1 ≤ n) (hb : 1 ≤ b) where
  split_room : (some : Bool) (m : ℕ) (before whole lin : List (List ℤ)) (h : List ℤ) (old middle out : List Ray) → 1 ≤ m → length h ≡ n → UpTo b h →
      IsSplit h old middle → IsPruned middle out → BothUpTo m lin (vectors_of old) → (some ≡ false → (r : Ray) → Contains old r → ⊥) →
      HasNextRoom n b (count - length whole) some (length lin) m → HasRoom n b count whole lin out
  split_room true m before whole lin h old middle out one l u k p q empty f = record {
    bound = next_bound n b m;
    one = let s = next_step n b m hn hb one in omega (arith, s, one);
    up = split_up n b m h lin old middle out hn hb one l u k p q;
    some = true;
    empty = λ e. absurd (cc);
    room = f.stays;
  }
  split_room false m before whole lin h old middle out one l u k p q empty f =
      let none : (r : Ray) → Contains out r → ⊥ = λ r c. elim (k.drawn r (of_pruned middle out r p c)) [
        | inl t ↦ empty refl t.r t.in_r
        | inr t ↦ empty refl t.p t.in_p
      ] in
      record {
        bound = m;
        one = one;
        up = record { first = q.first; second = record { each = λ x c. let y = of_vector out x c in absurd (none y.0 y.1.0) } };
        some = false;
        empty = λ e. none;
        room = f.stays;
      }

  lined_room : (before whole lines : List (List ℤ)) (h l : List ℤ) (lin : List (List ℤ)) (i m : ℕ) (old next : List Ray)
      (q : HasRoom n b count before lin old) → length h ≡ n → UpTo b h → IsLine h lin i l → IsLinedBy h l (remove lin i) old m lines next →
      HasNextRoom n b (count - length whole) q.some (length lin) q.bound → HasRoom n b count whole lines next
  lined_room before whole lines h l lin i m old next q w u k z f =
      let one = q.one in
      let long : length lin - 1 ≡ length lines = let x = length-remove lin i k.inside in let y =
      AllZip-long (IsLeveled h l) (remove lin i) lines z.leveled in omega (arith, x, y) in
      record {
        bound = next_bound n b q.bound;
        one = let t = next_step n b q.bound hn hb one in omega (arith, t, one);
        up = lined_up n b q.bound h l lin lines i m old next hn hb one w u k z q.up;
        some = true;
        empty = λ x. absurd (cc);
        room = subst (λ d. rows_fit n b (count - length whole) true d (next_bound n b q.bound) ≡ true) long f.goes;
      }

module _ (n b count : ℕ) (es : List (List ℤ)) (hn : 1 ≤ n) (hb : 1 ≤ b) (we : AreWide n b es) (starts : starts_fit n b count n ≡ true) where
  reached_room : (hs lin : List (List ℤ)) (rays : List Ray) → AreWide n b hs → length hs ≤ count → IsReachedState n es hs lin rays →
      HasRoom n b count hs lin rays
  reached_room hs lin rays w l (begun basis k) = started n b count es basis hb we starts k
  reached_room hs lin rays w l (split before lines old middle out h whole e z k p g r) =
      let c = sized_last before h hs e in
      let s = snoc_long before h hs e in
      let q = reached_room before lin old (wide_front n b before h hs e w) (omega (arith, s, l)) r in
      let f = next_room n b (count - length hs) (count - length before) q.some (length lin) q.bound (before_last count before h hs e l) q.room in
      split_room n b count hn hb q.some q.bound before hs lin h old middle rays q.one (w.long h c) (w.small.each h c) k p q.up q.empty f
  reached_room hs lin rays w l (lined before whole lines old next h a i all e k z r) =
      let c = sized_last before h hs e in
      let s = snoc_long before h hs e in
      let q = reached_room before whole old (wide_front n b before h hs e w) (omega (arith, s, l)) r in
      let f = next_room n b (count - length hs) (count - length before) q.some (length whole) q.bound (before_last count before h hs e l) q.room in
      lined_room n b count hn hb before hs lin h a whole i (length before) old next q (w.long h c) (w.small.each h c) k z f

-- what the end asks
record EndsFit (n : ℕ) (some : Bool) (c m : ℕ) : Type 0 where
  own : n * (orthogonal_bound n m c * orthogonal_bound n m c) < 2 ^ 127
  along : (some ≡ true) → straight_bound n (orthogonal_bound n m c) c m < 2 ^ 127
  turned : turned_bound m c < 2 ^ 127

ends_room : (n b j : ℕ) (some : Bool) (c m : ℕ) → j ≡ 0 → rows_fit n b j some c m ≡ true → EndsFit n some c m
ends_room n b j some c m e h =
    let w = orthogonal_bound n m c in
    let t = and_parts (fits (n * (w * w))) (cond some (fits (straight_bound n w c m)) true && fits (turned_bound m c))
    (subst (λ i. rows_fit n b i some c m ≡ true) e h) in
    let u = and_parts (cond some (fits (straight_bound n w c m)) true) (fits (turned_bound m c)) t.1 in
    record {
      own = below_fits (n * (w * w)) t.0;
      along = λ q. below_fits (straight_bound n w c m) (subst (λ x. cond x (fits (straight_bound n w c m)) true ≡ true) q u.0);
      turned = below_fits (turned_bound m c) u.1;
    }

wide_rows : (n b : ℕ) (rows : List (List ℤ)) → AreWide n b rows → AreRows n rows
wide_rows n b rows w = all_by (λ t. length t ≡ n) rows w.long

-- an operation at the end
no_end_step : (n b m : ℕ) (hs es lin : List (List ℤ)) (rays : List Ray) (some : Bool) (s : ConeOverflow) → 1 ≤ n → 1 ≤ m → AreWide n b hs → AreWide n b es →
    AreWide n m lin → AreUpTo m (vectors_of rays) → (some ≡ false → (r : Ray) → Contains rays r → ⊥) → EndsFit n some (length lin) m →
    turned_bound b n < 2 ^ 127 → IsEndStep n hs es lin rays s → ⊥
no_end_step n b m hs es lin rays some s hn hm wh we wl ur empty q turns (end_lineality d) =
    no_orthogonalizing (length hs + length es) n m lin s hn hm wl q.own d
no_end_step n b m hs es lin rays some s hn hm wh we wl ur empty q turns (end_straight ortho y o c d) =
    let w = orthogonal_bound n m (length lin) in
    let t = orthogonal_up n m lin ortho hn wl o in
    let fits_along = q.along (true_from_ne_false some (λ e. empty e y c)) in
    let short : straight_bound n w (length ortho) m ≤ straight_bound n w (length lin) m =
    straight_mono n w m (length ortho) (length lin) hn (orthogonal_one n m (length lin)) t.fewer in
    no_straightening (length hs + length es) n w m ortho y.vector s hn (orthogonal_one n m (length lin)) hm (orthogonal_wide n m lin ortho wl o t.small)
    (ur.each y.vector (vector_in rays y c)) (omega (arith, short, fits_along)) d
no_end_step n b m hs es lin rays some s hn hm wh we wl ur empty q turns (end_echelon d) =
    no_elimination (length hs + length es) n m lin n (length lin) s wl.small (inr (omega arith)) q.turned d
no_end_step n b m hs es lin rays some s hn hm wh we wl ur empty q turns (end_implied d) =
    no_elimination (length hs + length es) n b (d.flat ++ es) n n s
    (record {
      each = λ x i. elim (Contains-append_cases d.flat es x i) [
        | inl a ↦ wh.small.each x (chosen_in (IsZeroOn n hs es) hs d.flat x d.chosen a)
        | inr a ↦ we.small.each x a
      ];
    }) (inl (omega arith)) turns d.step

no_step : (n b : ℕ) (hs es : List (List ℤ)) (s : ConeOverflow) → 1 ≤ n → 1 ≤ b → AreWide n b hs → AreWide n b es → has_room n b (length hs) ≡ true →
    IsRaysStep n hs es s → ⊥
no_step n b hs es s hn hb wh we room k = by_step k
  where
    parts : (fits (turned_bound b n) ≡ true) × (starts_fit n b (length hs) n ≡ true)
    parts = and_parts (fits (turned_bound b n)) (starts_fit n b (length hs) n) room

    turns : turned_bound b n < 2 ^ 127
    turns = below_fits (turned_bound b n) parts.0

    state : (rows lin : List (List ℤ)) (rays : List Ray) → AreWide n b rows → length rows ≤ length hs → IsReachedState n es rows lin rays →
        HasRoom n b (length hs) rows lin rays
    state rows lin rays w l r = reached_room n b (length hs) es hn hb we parts.1 rows lin rays w l r

    width : (rows lin : List (List ℤ)) (rays : List Ray) → IsReachedState n es rows lin rays → (x : List ℤ) → Contains lin x → length x ≡ n
    width rows lin rays r = (reached_state n es rows lin rays (wide_rows n b es we) r).described.lin_width

    last : (lin : List (List ℤ)) (rays : List Ray) → IsReachedState n es hs lin rays →
        (q : HasRoom n b (length hs) hs lin rays) × EndsFit n q.some (length lin) q.bound
    last lin rays r = let q = state hs lin rays wh (omega arith) r in
        (q, ends_room n b (length hs - length hs) q.some (length lin) q.bound (omega arith) q.room)

    at_end : (lin : List (List ℤ)) (rays : List Ray) → IsReachedState n es hs lin rays → IsEndStep n hs es lin rays s → ⊥
    at_end lin rays r k =
        let q = last lin rays r in
        no_end_step n b q.0.bound hs es lin rays q.0.some s hn q.0.one wh we (record { long = width hs lin rays r; small = q.0.up.first })
        q.0.up.second q.0.empty q.1 turns k

    by_step : IsRaysStep n hs es s → ⊥
    by_step (null_space d) = no_null_step (length hs + length es) n b es s hb we turns d
    by_step (taking before after lin rays h e r d) =
        let front : AreWide n b before = record {
          long = λ x c. wh.long x (subst (λ (l : List (List ℤ)). Contains l x) (sym e) (front_in before after h x c));
          small = record { each = λ x c. wh.small.each x (subst (λ (l : List (List ℤ)). Contains l x) (sym e) (front_in before after h x c)) };
        } in
        let fewer : suc (length before) ≤ length hs = omega (arith, ap length e, length-append before (h ∷ after)) in
        let ch : Contains hs h = subst (λ (l : List (List ℤ)). Contains l h) (sym e) (middle_in before after h) in
        let q = state before lin rays front (omega (arith, fewer)) r in
        let f = next_room n b (length hs - suc (length before)) (length hs - length before) q.some (length lin) q.bound (omega (arith, fewer)) q.room in
        no_row_step n b q.bound (length before) h lin rays s (wh.long h ch) (wh.small.each h ch) q.up.first q.up.second (room_below n b q.bound q.one f.next)
        f.next d
    by_step (lineality lin rays r d) = at_end lin rays r (end_lineality d)
    by_step (straight lin ortho rays y r o c d) = at_end lin rays r (end_straight ortho y o c d)
    by_step (echelon lin rays r d) = at_end lin rays r (end_echelon d)
    by_step (implied flat c d) =
        no_elimination (length hs + length es) n b (flat ++ es) n n s
        (record {
          each = λ x i. elim (Contains-append_cases flat es x i) [
            | inl a ↦ wh.small.each x (chosen_in (IsZeroOn n hs es) hs flat x c a)
            | inr a ↦ we.small.each x a
          ];
        }) (inl (omega arith)) turns d

wide_of : (n b : ℕ) (rows : List (List ℤ)) → AreRows n rows → HaveEntriesUpTo b rows → AreWide n b rows
wide_of n b rows w u = record {
  long = λ h c. All-contains (λ t. length t ≡ n) rows h w c;
  small = record { each = λ h c. entry_up b h (All-contains (All (λ x. unsigned_abs x ≤ b)) rows h u c) };
}

pub systems_with_room_stay_within_limits : SystemsWithRoomStayWithinLimits
systems_with_room_stay_within_limits n b c hn hb w room s k = no_step n b c.inequalities c.equations s hn hb
    (wide_of n b c.inequalities w.inequalities_width w.inequalities) (wide_of n b c.equations w.equations_width w.equations) room k

pub small_systems_have_room : SmallSystemsHaveRoom
small_systems_have_room = (refl, refl, refl, refl)

-- ---- behind the rays of a cone

-- one row more
taken_room : (n b count k : ℕ) (before whole lin lines : List (List ℤ)) (h : List ℤ) (old next : List Ray) → 1 ≤ n → 1 ≤ b → whole ≡ before ++ h ∷ [] →
    length whole ≤ count → length h ≡ n → UpTo b h → HasRoom n b count before lin old → IsTaken h k lin old lines next → HasRoom n b count whole lines next
taken_room n b count k before whole lin lines h old next hn hb e l w u q (by_split middle out f z p g) =
    split_room n b count hn hb q.some q.bound before whole lin h old middle next q.one w u z p q.up q.empty
    (next_room n b (count - length whole) (count - length before) q.some (length lin) q.bound (before_last count before h whole e l) q.room)
taken_room n b count k before whole lin lines h old next hn hb e l w u q (by_line i a after out r z) =
    lined_room n b count hn hb before whole lines h a lin i k old next q w u r z (next_room n b (count - length whole) (count - length before) q.some
    (length lin) q.bound (before_last count before h whole e l) q.room)

further_room : (n b count k : ℕ) (basis : List (List ℤ)) (first_rays : List Ray) (others lin : List (List ℤ)) (rays : List Ray) → 1 ≤ n → 1 ≤ b →
    AreWide n b others → length others ≤ count → HasRoom n b count [] basis first_rays → IsFurtherState k basis first_rays others lin rays →
    HasRoom n b count others lin rays
further_room n b count k basis first_rays others lin rays hn hb w l q begun_further = q
further_room n b count k basis first_rays others lin rays hn hb w l q (taken before old lines middle next h whole e t r) =
    let c = sized_last before h others e in
    let s = snoc_long before h others e in
    taken_room n b count (k + length before) before others old lines h middle next hn hb e l (w.long h c) (w.small.each h c)
    (further_room n b count k basis first_rays before old middle hn hb (wide_front n b before h others e w) (omega (arith, s, l)) q r) t

wide_append : (n b : ℕ) (xs ys : List (List ℤ)) → AreWide n b xs → AreWide n b ys → AreWide n b (xs ++ ys)
wide_append n b xs ys wx wy = record {
  long = λ t c. elim (Contains-append_cases xs ys t c) [ inl a ↦ wx.long t a | inr a ↦ wy.long t a ];
  small = record { each = λ t c. elim (Contains-append_cases xs ys t c) [ inl a ↦ wx.small.each t a | inr a ↦ wy.small.each t a ] };
}

pub further_rows_stay_within_limits : FurtherRowsStayWithinLimits
further_rows_stay_within_limits n b m c others hn hb hm small w u turns room s k = by_step k
  where
    wh : AreWide n b c.inequalities
    wh = wide_of n b c.inequalities small.rows.inequalities_width small.rows.inequalities

    we : AreWide n b c.equations
    we = wide_of n b c.equations small.rows.equations_width small.rows.equations

    wm : AreWide n b others
    wm = wide_of n b others w u

    count : ℕ
    count = length c.inequalities

    up_to : (rows : List (List ℤ)) → HaveEntriesUpTo m rows → AreUpTo m rows
    up_to rows h = record { each = λ x i. entry_up m x (All-contains (All (λ x. unsigned_abs x ≤ m)) rows x h i) }

    first : (first_rays : List Ray) → AreMarkedRays c first_rays → HasRoom n b (length others) [] c.lineality first_rays
    first first_rays a = record {
      bound = m;
      one = hm;
      up = record { first = up_to c.lineality small.lineality; second = subst (AreUpTo m) a.vectors (up_to c.rays small.rays) };
      some = true;
      empty = λ e. absurd (cc);
      room = subst (λ i. rows_fit n b i true (length c.lineality) m ≡ true) (let e : length others ≡ length others - 0 = omega arith in e) room;
    }

    room_at : (first_rays : List Ray) (rows lin : List (List ℤ)) (rays : List Ray) → AreMarkedRays c first_rays → AreWide n b rows →
        length rows ≤ length others → IsFurtherState count c.lineality first_rays rows lin rays → HasRoom n b (length others) rows lin rays
    room_at first_rays rows lin rays a wr l r = further_room n b (length others) count c.lineality first_rays rows lin rays hn hb wr l (first first_rays a) r

    by_step : IsFurtherStep c others s → ⊥
    by_step (taking_further first_rays a d) =
        let front : AreWide n b d.before = record {
          long = λ x i. wm.long x (subst (λ (l : List (List ℤ)). Contains l x) (sym d.parts) (front_in d.before d.after d.h x i));
          small = record { each = λ x i. wm.small.each x (subst (λ (l : List (List ℤ)). Contains l x) (sym d.parts) (front_in d.before d.after d.h x i)) };
        } in
        let fewer : suc (length d.before) ≤ length others = omega (arith, ap length d.parts, length-append d.before (d.h ∷ d.after)) in
        let ch : Contains others d.h = subst (λ (l : List (List ℤ)). Contains l d.h) (sym d.parts) (middle_in d.before d.after d.h) in
        let q = room_at first_rays d.before d.lineality d.rays a front (omega (arith, fewer)) d.reached in
        let f = next_room n b (length others - suc (length d.before)) (length others - length d.before) q.some (length d.lineality) q.bound
        (omega (arith, fewer)) q.room in
        no_row_step n b q.bound (count + length d.before) d.h d.lineality d.rays s (wm.long d.h ch) (wm.small.each d.h ch) q.up.first q.up.second
        (room_below n b q.bound q.one f.next) f.next d.step
    by_step (ending first_rays rays lin a r d) =
        let q = room_at first_rays others lin rays a wm (omega arith) r in
        let e = ends_room n b (length others - length others) q.some (length lin) q.bound (omega arith) q.room in
        let st = further_state c.ambient count c.inequalities c.equations c.lineality first_rays others lin rays refl
        (state_of c first_rays (subst (λ i. IsRays i c.inequalities c.equations c.lineality c.rays) (sym small.ambient) small.are_rays) a) r in
        let wl : AreWide n q.bound lin = record { long = λ x i. st.described.lin_width x i ∙ small.ambient; small = q.up.first } in
        no_end_step n b q.bound (c.inequalities ++ others) c.equations lin rays q.some s hn q.one (wide_append n b c.inequalities others wh wm)
        we wl q.up.second q.empty e (below_fits (turned_bound b n) turns)
        (subst (λ i. IsEndStep i (c.inequalities ++ others) c.equations lin rays s) small.ambient d)

pub cones_have_room : ConesHaveRoom
cones_have_room = (refl, refl, refl, refl)
