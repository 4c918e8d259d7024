-- How large vectors are that are brought along others, and null spaces of small equations, whatever their number.
-- To cite: values_up, below_fits, straight_mono, orthogonal_one, AreWide, wide_front, AreOrthogonal, orthogonal_wide, orthogonal_up, no_straightening,
-- no_orthogonalizing, no_null_step, small_basis, one_turned. The rest are steps.
use Rattle.std.proofs.Common.{◌≡◌, ℕ, zero, suc, ◌+◌, ◌*◌, ◌^◌, ◌<◌, ◌≤◌, ◌-◌, List, [], ◌∷◌, ◌++◌, length, ℤ, neg_ℤ, ◌⊎◌, arith, sym, refl, ap, ◌∙◌, subst}
use Rattle.std.proofs.Common.{inl, inr, get_or, map, drop, remove, length-append, unsigned_abs, All, Contains, Bool, true, false, ◌&&◌, cond}
use Rattle.std.proofs.Math.Nat.{mul-le-mul_left}
use Rattle.std.proofs.lemmas.Bool.{ltb-true, and_parts, true_from_ne_false}
use Rattle.std.proofs.lemmas.List.{get_or_default, length-map}
use Rattle.std.proofs.lemmas.List.Elements.{All-contains, Contains-append_cases}
use Rattle.std.proofs.lemmas.Slice.Zip.{AllZip-long}
use Rattle.gf_vec.specs.declared.error.VecOp.TheVariants.{Sub}
use Rattle.gf_vec.specs.Vector.{dot, values}
use Rattle.gf_gordan.specs.declared.error.ConeOverflow.{ConeOverflow}
use Rattle.gf_gordan.proofs.SizeLaws.{UpTo, neg_up, up_weaker, up_times, up_sum, up_divided, up_append, up_cons, up_none, up_drop, less_of, dot_up}
use Rattle.gf_duality_theory.specs.Combining.{pair}
use Rattle.gf_duality_theory.specs.Generators.{unit_vectors}
use Rattle.gf_duality_theory.specs.Elimination.{IsEliminated, IsNormalised, IsNullSpace, IsNullStep, eliminating, reducing, with_values, columns}
use Rattle.gf_duality_theory.specs.Straightening.{IsLeveled, IsStraightened, done as straight_done, next as straight_next, IsOrthogonalized, start, added}
use Rattle.gf_duality_theory.specs.Straightening.{gone, IsStraightening, IsOrthogonalizing}
use Rattle.gf_duality_theory.proofs.ListLaws.{none_in, first_in, zip_from, index, less, at, more}
use Rattle.gf_duality_theory.proofs.Orthogonal.{basis as orthogonal_basis, straightened, head_in}
use Rattle.gf_fans_theory.proofs.PartNumbers.{of_map}
use Rattle.gf_rays.specs.Limits.{turned_bound, along_bound, straight_bound, orthogonal_bound, fits}
use Rattle.gf_rays.proofs.EliminateLaws.{units_long, dot_unit}
use Rattle.gf_rays.proofs.ReachedSizes.{AreUpTo, BothUpTo, mono, turned_step, next_step, no_combining, not_sub, eliminated_up, elimination_counts}
use Rattle.gf_rays.proofs.ReachedSizes.{no_elimination, begin_rows, normal_up, unitary_eliminated, unitary_up, units_unitary, sized_last, snoc_long}
use Rattle.gf_rays.proofs.ReachedSizes.{middle_in, front_in}
use Rattle.gf_gordan.proofs.StepSizes.{no_dot}
use Rattle.gf_int_theory.proofs.SignLaws.{mul_positive}
use Rattle.gf_int_theory.proofs.ListLaws.{Contains-last, all_by}

-- ---- along vectors, to be orthogonal to them

pub below_fits : (b : ℕ) → fits b ≡ true → b < 2 ^ 127
below_fits b h = ltb-true b (2 ^ 127) h

more_by : (y c : ℕ) → 1 ≤ c → y ≤ y * c
more_by y c h = let q = mul-le-mul_left y h in omega (arith, q)

along_step : (n o v : ℕ) → 1 ≤ n → 1 ≤ o → v ≤ along_bound n o v
along_step n o v hn ho = let q =
    less_of (n * (o * o)) v (mul_positive n (o * o) (omega (arith, hn)) (mul_positive o o (omega (arith, ho)) (omega (arith, ho)))) in omega (arith, q)

straight_step : (n o v k : ℕ) → 1 ≤ n → 1 ≤ o → straight_bound n o k v ≤ straight_bound n o (suc k) v
straight_step n o v k hn ho = along_step n o (straight_bound n o k v) hn ho

pub straight_mono : (n o v j c : ℕ) → 1 ≤ n → 1 ≤ o → j ≤ c → straight_bound n o j v ≤ straight_bound n o c v
straight_mono n o v j c hn ho h = mono (λ k. straight_bound n o k v) (λ k. straight_step n o v k hn ho) j c h

straight_one : (n o v c : ℕ) → 1 ≤ n → 1 ≤ o → 1 ≤ v → 1 ≤ straight_bound n o c v
straight_one n o v c hn ho hv = let q = straight_mono n o v 0 c hn ho (omega arith) in omega (arith, q, hv)

orthogonal_step : (n m k : ℕ) → orthogonal_bound n m k ≤ orthogonal_bound n m (suc k)
orthogonal_step n m k = omega arith

orthogonal_mono : (n m j c : ℕ) → j ≤ c → orthogonal_bound n m j ≤ orthogonal_bound n m c
orthogonal_mono n m j c h = mono (orthogonal_bound n m) (orthogonal_step n m) j c h

pub orthogonal_one : (n m c : ℕ) → 1 ≤ orthogonal_bound n m c
orthogonal_one n m c = orthogonal_mono n m 0 c (omega arith)

along_later : (n o v c : ℕ) → straight_bound n o c (along_bound n o v) ≡ straight_bound n o (suc c) v
along_later n o v zero = refl
along_later n o v (suc c) = ap (along_bound n o) (along_later n o v c)

along_up : (n o v : ℕ) (y x z : List ℤ) → 1 ≤ n → 1 ≤ o → length y ≡ n → UpTo o y → UpTo v x → IsLeveled y y x z → UpTo (along_bound n o v) z
along_up n o v y x z hn ho l uy ux (inl k) = subst (UpTo (along_bound n o v)) (sym k.1) (up_weaker v (along_bound n o v) x (along_step n o v hn ho) ux)
along_up n o v y x z hn ho l uy ux (inr k) =
    let own = dot_up n o o y y (omega (arith, l)) uy uy in
    let at = dot_up n o v y x (omega (arith, l)) uy ux in
    up_divided (along_bound n o v) (pair y y x) z k.1.0 k.1.1 (up_sum (n * (o * o) * v) (n * (o * v) * o) _ _ (up_times (dot y y) (n * (o * o)) v x own ux)
    (up_times (neg_ℤ (dot y x)) (n * (o * v)) o y (neg_up (dot y x) (n * (o * v)) at) uy))

-- vectors of n entries up to b
pub record AreWide (n b : ℕ) (ys : List (List ℤ)) : Type 0 where
  pub long : (y : List ℤ) → Contains ys y → length y ≡ n
  pub small : AreUpTo b ys

wide_tail : (n b : ℕ) (y : List ℤ) (ys whole : List (List ℤ)) → whole ≡ y ∷ ys → AreWide n b whole → AreWide n b ys
wide_tail n b y ys whole e w = record {
  long = λ t c. w.long t (subst (λ (l : List (List ℤ)). Contains l t) (sym e) (suc c.0, omega (arith, c.1), c.2));
  small = record { each = λ t c. w.small.each t (subst (λ (l : List (List ℤ)). Contains l t) (sym e) (suc c.0, omega (arith, c.1), c.2)) };
}

straight_up : (n o v : ℕ) (ys : List (List ℤ)) (x w : List ℤ) → 1 ≤ n → 1 ≤ o → AreWide n o ys → UpTo v x → IsStraightened ys x w →
    UpTo (straight_bound n o (length ys) v) w
straight_up n o v ys x w hn ho wy ux (straight_done u) = ux
straight_up n o v ys x w hn ho wy ux (straight_next y rest u z t whole e k s) =
    let c : Contains ys y = head_in y rest ys e in
    let p : UpTo (straight_bound n o (length rest) (along_bound n o v)) w = straight_up n o (along_bound n o v) rest z w hn ho (wide_tail n o y rest ys e wy)
    (along_up n o v y x z hn ho (wy.long y c) (wy.small.each y c) ux k) s in
    subst (λ b. UpTo b w) (along_later n o v (length rest) ∙ ap (λ (l : List (List ℤ)). straight_bound n o (length l) v) (sym e)) p

pub no_straightening : (row n o v : ℕ) (ys : List (List ℤ)) (x : List ℤ) (s : ConeOverflow) → 1 ≤ n → 1 ≤ o → 1 ≤ v → AreWide n o ys → UpTo v x →
    straight_bound n o (length ys) v < 2 ^ 127 → IsStraightening row ys x s → ⊥
no_straightening row n o v ys x s hn ho hv wy ux room k =
    let j = length k.before in
    let z = straight_bound n o j v in
    let c : Contains ys k.y = subst (λ (l : List (List ℤ)). Contains l k.y) (sym k.parts) (middle_in k.before k.after k.y) in
    let uy : UpTo o k.y = wy.small.each k.y c in
    let l : length k.y ≡ n = wy.long k.y c in
    let front : AreWide n o k.before = record {
      long = λ t i. wy.long t (subst (λ (q : List (List ℤ)). Contains q t) (sym k.parts) (front_in k.before k.after k.y t i));
      small = record { each = λ t i. wy.small.each t (subst (λ (q : List (List ℤ)). Contains q t) (sym k.parts) (front_in k.before k.after k.y t i)) };
    } in
    let uz : UpTo z k.z = straight_up n o v k.before x k.z hn ho front ux k.reached in
    let fewer : suc j ≤ length ys = omega (arith, ap length k.parts, length-append k.before (k.y ∷ k.after)) in
    let up : along_bound n o z ≤ straight_bound n o (length ys) v = straight_mono n o v (suc j) (length ys) hn ho fewer in
    let first : n * (o * o) ≤ n * (o * o) * z = more_by (n * (o * o)) z (straight_one n o v j hn ho hv) in
    let second : n * (o * z) ≤ n * (o * z) * o = more_by (n * (o * z)) o ho in
    elim k.step [
      | inl t ↦ no_dot n o o row k.y k.y s (omega (arith, l)) uy uy (omega (arith, up, first, room)) t
      | inr t ↦ elim t [
        | inl d ↦ no_dot n o z row k.y k.z s (omega (arith, l)) uy uz (omega (arith, up, second, room)) d
        | inr d ↦ no_combining row Sub (dot k.y k.y) k.z (dot k.y k.z) k.y s (n * (o * o)) z (n * (o * z)) o not_sub
            (dot_up n o o k.y k.y (omega (arith, l)) uy uy) uz (dot_up n o z k.y k.z (omega (arith, l)) uy uz) uy (omega (arith, up, room)) d.1
      ]
    ]

-- no more than there were, and how large
pub record AreOrthogonal (n m : ℕ) (lin out : List (List ℤ)) : Type 0 where
  pub fewer : length out ≤ length lin
  pub small : AreUpTo (orthogonal_bound n m (length lin)) out

pub wide_front : (n m : ℕ) (lin : List (List ℤ)) (x : List ℤ) (whole : List (List ℤ)) → whole ≡ lin ++ x ∷ [] → AreWide n m whole → AreWide n m lin
wide_front n m lin x whole e w = record {
  long = λ t c. w.long t (subst (λ (l : List (List ℤ)). Contains l t) (sym e) (first_in lin x t c));
  small = record { each = λ t c. w.small.each t (subst (λ (l : List (List ℤ)). Contains l t) (sym e) (first_in lin x t c)) };
}

pub orthogonal_wide : (n m : ℕ) (lin out : List (List ℤ)) → AreWide n m lin → IsOrthogonalized lin out → AreUpTo (orthogonal_bound n m (length lin)) out →
    AreWide n (orthogonal_bound n m (length lin)) out
orthogonal_wide n m lin out w o u = record { long = (orthogonal_basis n lin out w.long o).base.width; small = u }

-- one more brought along those so far
last_up : (n m : ℕ) (lin out : List (List ℤ)) (x w : List ℤ) → 1 ≤ n → AreWide n m lin → UpTo m x → IsOrthogonalized lin out → AreOrthogonal n m lin out →
    IsStraightened out x w → UpTo (straight_bound n (orthogonal_bound n m (length lin)) (length lin) m) w
last_up n m lin out x w hn wl ux o q s =
    let b = orthogonal_bound n m (length lin) in
    up_weaker _ _ w (straight_mono n b m (length out) (length lin) hn (orthogonal_one n m (length lin)) q.fewer)
    (straight_up n b m out x w hn (orthogonal_one n m (length lin)) (orthogonal_wide n m lin out wl o q.small) ux s)

pub orthogonal_up : (n m : ℕ) (lin out : List (List ℤ)) → 1 ≤ n → AreWide n m lin → IsOrthogonalized lin out → AreOrthogonal n m lin out
orthogonal_up n m lin out hn w start = record { fewer = omega arith; small = record { each = λ x c. absurd (none_in x c) } }
orthogonal_up n m lin out hn w (added before old x z whole all e f r s up) =
    let wb = wide_front n m before x lin e w in
    let q = orthogonal_up n m before old hn wb r in
    let b = orthogonal_bound n m (length before) in
    let t = straight_bound n b (length before) m in
    let es : length lin ≡ suc (length before) = snoc_long before x lin e in
    let ux : UpTo m x = w.small.each x (sized_last before x lin e) in
    record {
      fewer = omega (arith, es, snoc_long old z out f, q.fewer);
      small = record {
        each = λ y c. subst (λ k. UpTo (orthogonal_bound n m k) y) (sym es) (elim (Contains-last old z y (subst (λ (l : List (List ℤ)). Contains l y) f c)) [
          | inl a ↦ up_weaker b (b + t) y (omega arith) (q.small.each y a)
          | inr g ↦ subst (UpTo (b + t)) (sym g) (up_weaker t (b + t) z (omega arith) (last_up n m before old x z hn wb ux r q s))
        ]);
      };
    }
orthogonal_up n m lin out hn w (gone before old x z whole e r s k) =
    let wb = wide_front n m before x lin e w in
    let q = orthogonal_up n m before out hn wb r in
    let es : length lin ≡ suc (length before) = snoc_long before x lin e in
    record {
      fewer = omega (arith, es, q.fewer);
      small = record { each = λ y c. up_weaker _ _ y (orthogonal_mono n m (length before) (length lin) (omega (arith, es))) (q.small.each y c) };
    }

pub no_orthogonalizing : (row n m : ℕ) (lin : List (List ℤ)) (s : ConeOverflow) → 1 ≤ n → 1 ≤ m → AreWide n m lin →
    n * (orthogonal_bound n m (length lin) * orthogonal_bound n m (length lin)) < 2 ^ 127 → IsOrthogonalizing row lin s → ⊥
no_orthogonalizing row n m lin s hn hm w room k =
    let j = length k.before in
    let b = orthogonal_bound n m j in
    let t = straight_bound n b j m in
    let d = orthogonal_bound n m (length lin) in
    let front : AreWide n m k.before = record {
      long = λ y i. w.long y (subst (λ (q : List (List ℤ)). Contains q y) (sym k.parts) (front_in k.before k.after k.x y i));
      small = record { each = λ y i. w.small.each y (subst (λ (q : List (List ℤ)). Contains q y) (sym k.parts) (front_in k.before k.after k.x y i)) };
    } in
    let cx : Contains lin k.x = subst (λ (q : List (List ℤ)). Contains q k.x) (sym k.parts) (middle_in k.before k.after k.x) in
    let ux : UpTo m k.x = w.small.each k.x cx in
    let fewer : suc j ≤ length lin = omega (arith, ap length k.parts, length-append k.before (k.x ∷ k.after)) in
    let up : b + t ≤ d = orthogonal_mono n m (suc j) (length lin) fewer in
    let square : d ≤ n * (d * d) = let one = orthogonal_one n m (length lin) in let p = less_of d d (omega (arith, one)) in let q =
    less_of n (d * d) (omega (arith, hn)) in omega (arith, p, q) in
    let q = orthogonal_up n m k.before k.out hn front k.reached in
    let wo = orthogonal_wide n m k.before k.out front k.reached q.small in
    let short : straight_bound n b (length k.out) m ≤ t = straight_mono n b m (length k.out) j hn (orthogonal_one n m j) q.fewer in
    elim k.step [
      | inl f ↦ no_straightening row n b m k.out k.x s hn (orthogonal_one n m j) hm wo ux (omega (arith, short, up, square, room)) f
      | inr f ↦
          let uw : UpTo d f.0 = up_weaker t d f.0 (omega (arith, up)) (last_up n m k.before k.out k.x f.0 hn front ux k.reached q f.1.0) in
          let lw : length f.0 ≡ n = (straightened n k.out k.x f.0 (orthogonal_basis n k.before k.out front.long k.reached).base (w.long k.x cx) f.1.0).long in
          no_dot n d d row f.0 f.0 s (omega (arith, lw)) uw uw room f.1.1
    ]

-- ---- null spaces

pub values_up : (n b i : ℕ) (es : List (List ℤ)) → i < n → AreWide n b es → UpTo b (values es (get_or (unit_vectors n) i []))
values_up n b i [] h w = up_none b
values_up n b i (e ∷ es) h w =
    let c = head_in e es (e ∷ es) refl in
    up_cons b (dot e (get_or (unit_vectors n) i [])) (values es (get_or (unit_vectors n) i []))
    (subst (λ z. unsigned_abs z ≤ b) (sym (dot_unit n i e (w.long e c) h)) ((w.small.each e c).at i))
    (values_up n b i es h (wide_tail n b e es (e ∷ es) refl w))

columns_up : (n b : ℕ) (es : List (List ℤ)) → 1 ≤ b → AreWide n b es → AreUpTo b (columns n es)
columns_up n b es hb w = record {
  each = λ y c.
      let t = of_map (with_values es) (unit_vectors n) y c in
      let i = t.1.0 in
      let e : get_or (unit_vectors n) i.0 [] ≡ t.0 = get_or_default (unit_vectors n) i.0 [] t.0 i.1 ∙ i.2 in
      let front : UpTo b (values es t.0) = subst (λ x. UpTo b (values es x)) e (values_up n b i.0 es (omega (arith, units_long n, i.1)) w) in
      subst (UpTo b) t.1.1 (up_append b (values es t.0) t.0 front (up_weaker 1 b t.0 hb (unitary_up t.0 ((units_unitary n).each t.0 i))));
}

columns_long : (n : ℕ) (es : List (List ℤ)) → length (columns n es) ≡ n
columns_long n es = length-map (unit_vectors n) (with_values es) ∙ units_long n

drop_up : (b m : ℕ) (rows : List (List ℤ)) → AreUpTo b rows → AreUpTo b (map (drop m) rows)
drop_up b m rows u = record { each = λ y c. let t = of_map (drop m) rows y c in subst (UpTo b) t.1.1 (up_drop b m t.0 (u.each t.0 t.1.0)) }

turned_sum : (b p r : ℕ) → turned_bound (turned_bound b p) r ≡ turned_bound b (p + r)
turned_sum b p zero = ap (turned_bound b) (omega arith)
turned_sum b p (suc r) = ap (λ x. x * x + x * x) (turned_sum b p r) ∙ ap (turned_bound b) (let e : suc (p + r) ≡ p + suc r = omega arith in e)

turned_mono : (b j c : ℕ) → j ≤ c → turned_bound b j ≤ turned_bound b c
turned_mono b j c h = mono (turned_bound b) (turned_step b) j c h

-- what is read of an elimination of columns
pub record AreRead (n b : ℕ) (es done left : List (List ℤ)) : Type 0 where
  pub count : length done + length left ≡ n
  pub small : AreUpTo (turned_bound b (length done)) (map (drop (length es)) left)

read_columns : (n b m j : ℕ) (es done left : List (List ℤ)) → 1 ≤ b → AreWide n b es → IsEliminated m (columns n es) j done left → AreRead n b es done left
read_columns n b m j es out left hb w e = record {
  count = (elimination_counts m (columns n es) j out left e).1 ∙ columns_long n es;
  small = drop_up (turned_bound b (length out)) (length es) left (eliminated_up m b (columns n es) j out left (columns_up n b es hb w) e).second;
}

pub no_null_step : (row n b : ℕ) (es : List (List ℤ)) (s : ConeOverflow) → 1 ≤ b → AreWide n b es → turned_bound b n < 2 ^ 127 → IsNullStep row n es s → ⊥
no_null_step row n b es s hb w room (eliminating k) = no_elimination row (length es + n) b (columns n es) (length es) n s (columns_up n b es hb w)
    (inr (omega (arith, columns_long n es))) room k
no_null_step row n b es s hb w room (reducing out left e k) =
    let q = read_columns n b (length es + n) (length es) es out left hb w e in
    let l : length (map (drop (length es)) left) ≡ length left = length-map left (drop (length es)) in
    let up : turned_bound (turned_bound b (length out)) (length left) ≤ turned_bound b n =
    subst (λ x. x ≤ turned_bound b n) (sym (turned_sum b (length out) (length left)))
    (turned_mono b (length out + length left) n (omega (arith, q.count))) in
    no_elimination row n (turned_bound b (length out)) (map (drop (length es)) left) n (length left) s q.small
    (inr (omega (arith, l))) (omega (arith, up, room)) k

-- how many vectors a null space has, and how large they are
pub record IsSmallBasis (n b : ℕ) (basis : List (List ℤ)) : Type 0 where
  pub few : length basis ≤ n
  pub all : length basis ≡ n → AreUpTo 1 basis
  pub small : AreUpTo (turned_bound b n) basis

pub small_basis : (n b : ℕ) (es basis : List (List ℤ)) → 1 ≤ b → AreWide n b es → IsNullSpace n es basis → IsSmallBasis n b basis
small_basis n b es basis hb w k =
    let m = length es in
    let q = read_columns n b (m + n) m es k.done k.left hb w k.eliminated in
    let p = length k.done in
    let rights = map (drop m) k.left in
    let c = elimination_counts n rights n k.basis.done k.basis.left k.basis.eliminated in
    let l : length rights ≡ length k.left = length-map k.left (drop m) in
    let same : length basis ≡ length k.basis.done = AllZip-long IsNormalised k.basis.done basis k.basis.normal in
    let u = eliminated_up n (turned_bound b p) rights n k.basis.done k.basis.left q.small k.basis.eliminated in
    let up : turned_bound (turned_bound b p) (length k.basis.done) ≤ turned_bound b n =
    subst (λ x. x ≤ turned_bound b n) (sym (turned_sum b p (length k.basis.done)))
    (turned_mono b (p + length k.basis.done) n (omega (arith, q.count, c.1, l))) in
    record {
      few = omega (arith, same, c.1, l, q.count);
      all = λ e.
          let z : length k.done ≡ 0 = omega (arith, e, same, c.1, l, q.count) in
          let v = unitary_eliminated n rights n k.basis.done k.basis.left (begin_rows (m + n) n m es k.done k.left z k.eliminated) k.basis.eliminated in
          record {
            each = λ x i. let t = zip_from IsNormalised k.basis.done basis x k.basis.normal i in normal_up 1 t.0 x (unitary_up t.0 (v.first.each t.0 t.1.0))
                t.1.1;
          };
      small = record {
        each = λ x i. let t = zip_from IsNormalised k.basis.done basis x k.basis.normal i in
            normal_up (turned_bound b n) t.0 x (up_weaker _ _ t.0 up (u.first.each t.0 t.1.0)) t.1.1;
      };
    }

pub one_turned : (b j : ℕ) → 1 ≤ b → 1 ≤ turned_bound b j
one_turned b j h = let q = turned_mono b 0 j (omega arith) in omega (arith, q, h)
