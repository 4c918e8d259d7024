-- No step of the recursion leaves the range where the bounds of its numbers have room.
use Rattle.std.proofs.Common.{◌≡◌, ℕ, zero, suc, ◌+◌, ◌*◌, ◌^◌, ◌<◌, ◌≤◌, List, [], ◌∷◌, ◌++◌, length, ℤ, pos, ◌*ℤ◌, arith, refl, ◌∙◌, subst, take, drop}
use Rattle.std.proofs.Common.{unsigned_abs, int_div, inl, inr, ◌⊎◌}
use Rattle.std.specs.List.{AllByRecursion}
use Rattle.std.proofs.lemmas.List.{length-drop}
use Rattle.std.proofs.Math.Nat.{mul-le-mul_right}
use Rattle.gf_vec.specs.declared.error.VecOp.{VecOp}
use Rattle.gf_vec.specs.declared.error.VecOp.TheVariants.{Add, Sub, Mul}
use Rattle.gf_vec.specs.Vector.{dot, entry_at}
use Rattle.gf_vec.specs.Steps.{value_of}
use Rattle.gf_gordan.specs.declared.error.ConeOverflow.{ConeOverflow}
use Rattle.gf_gordan.specs.Elimination.{IsPivot, row_at, size_at, signed_at, lifted, greatest_value, push_factor, scale_part, scale_from, scale_of, times_taken}
use Rattle.gf_gordan.specs.Elimination.{column}
use Rattle.gf_gordan.specs.Steps.{IsWideStep, IsDotStep, IsCrossStep, IsReducing, IsEliminating, IsLifting, IsFactorStep, IsAddingStep, IsPushing, IsScaling}
use Rattle.gf_gordan.specs.Steps.{IsTakingOne, IsTaking, IsSumming, IsCarrying}
use Rattle.gf_gordan.specs.Recursion.{IsRowsStep, earlier, testing, eliminating, below, pushing, carrying}
use Rattle.gf_gordan.specs.Equations.{IsStepOn}
use Rattle.gf_gordan.specs.Equations as equations
use Rattle.gf_gordan.proofs.SizeLaws.{UpTo, up_drop, up_take, sum_up, difference_up, product_up, not_wide, no_dot_step}
use Rattle.gf_gordan.proofs.ReducedSizes.{twice, one_twice, below_bound, one_below, size_up, signed_up, Sized, Sized-below, IsSmallContent}
use Rattle.gf_gordan.proofs.PointSizes.{lift_bound, point_bound, Sized-front, last_long, last_up, lifted_up, greatest_up, factor_up, point_up, point_on_up}
use Rattle.gf_gordan.proofs.PointSizes.{more, grown}
use Rattle.gf_gordan.proofs.ScaleSizes.{power, counted, counted_some, used, used-take, used-taken, counted_product, dot_used, scale_up, joined_up, taking_up}
use Rattle.gf_gordan.proofs.MultiplierSizes.{taken_bound, multiplier_bound, Carries, Carries-rows, Carries-on, takings_up, multiplier_up, multiplier_on_up}
use Rattle.gf_gordan.proofs.MultiplierSizes.{Sized-whole}

-- the operations of one elimination, from n + 1 columns with entries of at most b to n, have room
pub record HasRoomAt (n b : ℕ) : Type 0 where
  pub reducing : twice b < 2 ^ 127
  pub lifting : lift_bound n b (point_bound n (below_bound n b)) < 2 ^ 127
  pub factor : 1 + suc n * (b * b) < 2 ^ 127
  pub pushing : point_bound (suc n) b < 2 ^ 127
  pub testing : suc n * (b * point_bound (suc n) b) < 2 ^ 127
  pub scaling : power (twice b) (suc n) < 2 ^ 127
  pub carrying : suc n * (taken_bound n b (multiplier_bound n (below_bound n b)) * b) < 2 ^ 127
  pub taking : taken_bound n b (multiplier_bound n (below_bound n b)) < 2 ^ 127

-- all operations on a system with n columns and entries of at most b have
abbrev pub HasRoom : ℕ → ℕ → Type 0
HasRoom zero b = Unit {0}
HasRoom (suc n) b = HasRoomAt n b × HasRoom n (below_bound n b)

-- ---- single operations

pub no_wide : (row : ℕ) (op : VecOp) (x y : ℤ) (s : ConeOverflow) (b : ℕ) → unsigned_abs (value_of op x y) ≤ b → b < 2 ^ 127 → IsWideStep row op x y s → ⊥
no_wide row op x y s b h r w = not_wide (value_of op x y) b h r w.1

pub no_dot : (k a b row : ℕ) (xs ys : List ℤ) (s : ConeOverflow) → length xs ≤ k → UpTo a xs → UpTo b ys → k * (a * b) < 2 ^ 127 → IsDotStep row xs ys s → ⊥
no_dot k a b row xs ys s l u v r w = no_dot_step k a b 0 (pos 0) xs ys _ l u v (omega arith) (omega (arith, r)) w.1

-- ---- one elimination

no_reducing : (b row : ℕ) (r : List ℤ) (j : ℕ) (t : List ℤ) (s : ConeOverflow) → UpTo b r → UpTo b t → twice b < 2 ^ 127 → IsReducing row r j t s → ⊥
no_reducing b row r j t s u v k h = at h.3
  where
    left : unsigned_abs (size_at r j *ℤ entry_at t h.0) ≤ b * b
    left = product_up (size_at r j) (entry_at t h.0) b b (size_up b r j u) (v.at h.0)

    right : unsigned_abs (signed_at r j t *ℤ entry_at r h.0) ≤ b * b
    right = product_up (signed_at r j t) (entry_at r h.0) b b (signed_up b r j t v) (u.at h.0)

    at : IsCrossStep row (size_at r j) (entry_at t h.0) (signed_at r j t) (entry_at r h.0) s → ⊥
    at (inl w) = no_wide row Mul (size_at r j) (entry_at t h.0) s (b * b) left (omega arith) w
    at (inr (inl w)) = no_wide row Mul (signed_at r j t) (entry_at r h.0) s (b * b) right (omega arith) w
    at (inr (inr w)) = no_wide row Sub (size_at r j *ℤ entry_at t h.0) (signed_at r j t *ℤ entry_at r h.0) s (twice b)
        (difference_up (size_at r j *ℤ entry_at t h.0) (signed_at r j t *ℤ entry_at r h.0) (b * b) (b * b) left right) k w

vector_up : (b : ℕ) (vectors : List (List ℤ)) (k : ℕ) → k < length vectors → AllByRecursion (UpTo b) vectors → UpTo b (row_at vectors k)
vector_up b [] k h u = absurd (omega arith)
vector_up b (t ∷ ts) zero h u = u.0
vector_up b (t ∷ ts) (suc k) h u = vector_up b ts k (omega arith) u.1

no_eliminating : (b : ℕ) (vectors : List (List ℤ)) (r : List ℤ) (j : ℕ) (s : ConeOverflow) → UpTo b r → AllByRecursion (UpTo b) vectors → twice b < 2 ^ 127 →
    IsEliminating vectors r j s → ⊥
no_eliminating b vectors r j s u v k h = no_reducing b h.0 r j (row_at vectors h.0) s u (vector_up b vectors h.0 h.1 v) k h.2

no_lifting : (n b q row : ℕ) (r : List ℤ) (j : ℕ) (v : List ℤ) (s : ConeOverflow) → length r ≡ n + 1 → UpTo b r → UpTo q v → lift_bound n b q < 2 ^ 127 →
    IsLifting row r j v s → ⊥
no_lifting n b q row r j v s l u k h (inl w) =
    no_wide row Mul (size_at r j) (entry_at v w.0) s (b * q) (product_up (size_at r j) (entry_at v w.0) b q (size_up b r j u) (k.at w.0))
    (let o = grown n (b * q) in omega (arith, h, o)) w.2
no_lifting n b q row r j v s l u k h (inr w) =
    no_dot (suc n) b q row (drop (j + 1) r) (drop j v) s (omega (arith, l, length-drop (j + 1) r)) (up_drop b (j + 1) r u) (up_drop q j v k) h w

no_factor : (n b row : ℕ) (rows : List (List ℤ)) (r : List ℤ) (s : ConeOverflow) → Sized (suc n) b rows → UpTo b r → 1 + suc n * (b * b) < 2 ^ 127 →
    IsFactorStep row rows r s → ⊥
no_factor n b row rows r s z u h (inl w) =
    no_dot (suc n) b b row (row_at rows w.0) r s (omega (arith, width rows w.0 w.1 z.widths)) (vector_up b rows w.0 w.1 z.entries) u (omega arith) w.2
  where
    width : (ts : List (List ℤ)) (k : ℕ) → k < length ts → AllByRecursion (λ t. length t ≡ suc n) ts → length (row_at ts k) ≡ suc n
    width [] k l a = absurd (omega arith)
    width (t ∷ ts) zero l a = a.0
    width (t ∷ ts) (suc k) l a = width ts k (omega arith) a.1
no_factor n b row rows r s z u h (inr w) =
    no_wide row Add (pos 1) (pos (greatest_value rows r)) s (1 + suc n * (b * b)) (sum_up (pos 1) (pos (greatest_value rows r)) 1
    (suc n * (b * b)) (omega arith) (greatest_up (suc n) b rows r z u)) h w

no_adding : (f l b row : ℕ) (factor : ℤ) (u r : List ℤ) (s : ConeOverflow) → unsigned_abs factor ≤ f → UpTo l u → UpTo b r → f * l + b < 2 ^ 127 →
    IsAddingStep row factor u r s → ⊥
no_adding f l b row factor u r s h k m room w = at w.2
  where
    part : unsigned_abs (factor *ℤ entry_at u w.0) ≤ f * l
    part = product_up factor (entry_at u w.0) f l h (k.at w.0)

    at : IsWideStep row Mul factor (entry_at u w.0) s ⊎ IsWideStep row Add (factor *ℤ entry_at u w.0) (entry_at r w.0) s → ⊥
    at (inl x) = no_wide row Mul factor (entry_at u w.0) s (f * l) part (omega arith) x
    at (inr x) = no_wide row Add (factor *ℤ entry_at u w.0) (entry_at r w.0) s (f * l + b) (sum_up (factor *ℤ entry_at u w.0) (entry_at r w.0) (f * l) b part
        (m.at w.0)) room x

no_pushing : (n b q row : ℕ) (rows : List (List ℤ)) (r : List ℤ) (j : ℕ) (v : List ℤ) (s : ConeOverflow) → IsPivot r j → Sized (suc n) b rows →
    length r ≡ n + 1 → UpTo b r → UpTo q v → lift_bound n b q < 2 ^ 127 → 1 + suc n * (b * b) < 2 ^ 127 → (1 + suc n * (b * b)) * lift_bound n b q + b <
    2 ^ 127 → IsPushing row rows r j v s → ⊥
no_pushing n b q row rows r j v s p z l u k a c d (inl w) = no_lifting n b q row r j v s l u k a w
no_pushing n b q row rows r j v s p z l u k a c d (inr (inl w)) = no_factor n b row rows r s z u c w
no_pushing n b q row rows r j v s p z l u k a c d (inr (inr w)) =
    no_adding (1 + suc n * (b * b)) (lift_bound n b q) b row (push_factor rows r) (lifted r j v) r s (factor_up (suc n) b rows r z u)
    (lifted_up n b q r j v p l u k) u d w

-- ---- carrying back

small_front : (P : ℤ → Type 0) (i : ℕ) (cs : List ℤ) → AllByRecursion P cs → AllByRecursion P (take i cs)
small_front P zero cs h = tt
small_front P (suc i) [] h = tt
small_front P (suc i) (c ∷ cs) h = (h.0, small_front P i cs h.1)

content_size : (m : ℕ) (cs : List ℤ) (i : ℕ) → AllByRecursion (IsSmallContent m) cs → unsigned_abs (entry_at cs i) ≤ m
content_size m [] i h = omega arith
content_size m (c ∷ cs) zero h = h.0.1
content_size m (c ∷ cs) (suc i) h = content_size m cs i h.1

one_size : (p m x : ℕ) → x ≤ unsigned_abs (pos 1) * p → x * m ≤ m * p
one_size p m x h = let k : x * m ≤ p * m = mul-le-mul_right m (omega arith) in omega (arith, k)

no_scaling : (n b l all : ℕ) (r : List ℤ) (j : ℕ) (col cs ms : List ℤ) (s : ConeOverflow) → Carries n b l r j col cs ms → power (twice b) (suc n) < 2 ^ 127 →
    IsScaling all cs ms s → ⊥
no_scaling n b l all r j col cs ms s k room w =
    let i = w.0 in
    let m = twice b in
    let scale = scale_from (pos 1) (take i cs) (take i ms) in
    let c = entry_at cs i in
    let before : used (take i ms) ≤ n = (let e = used-take i ms in let f = counted_some (entry_at ms i) w.2 in omega (arith, e, f, k.few)) in
    let a = scale_up m n (pos 1) (take i cs) (take i ms) (one_twice b k.one) (small_front _ i cs k.contents) before in
    let d = joined_up scale c m (content_size m cs i k.contents) in
    no_wide all Mul (scale_part scale c) c s (power m (suc n)) (let o = one_size (power m n) m (unsigned_abs scale) a in omega (arith, d, o)) room w.3

no_taking : (n b l : ℕ) (r : List ℤ) (j : ℕ) (col cs ms : List ℤ) (s : ConeOverflow) → Carries n b l r j col cs ms → suc n * (taken_bound n b l * b) < 2 ^ 127 →
    taken_bound n b l < 2 ^ 127 → IsTaking (size_at r j) col cs ms s → ⊥
no_taking n b l r j col cs ms s k room own w = at w.2
  where
    part : unsigned_abs (entry_at ms w.0 *ℤ int_div (scale_of cs ms) (entry_at cs w.0)) ≤ taken_bound n b l
    part = taking_up (twice b) n l cs ms w.0 (one_twice b k.one) k.contents k.as_many k.few k.multipliers w.1

    at : IsTakingOne w.0 (entry_at ms w.0) (int_div (scale_of cs ms) (entry_at cs w.0)) (size_at r j) (entry_at col w.0) s → ⊥
    at (inl x) = no_wide w.0 Mul (entry_at ms w.0) (int_div (scale_of cs ms) (entry_at cs w.0)) s (taken_bound n b l) part own x
    at (inr (inl x)) = no_wide w.0 Mul (entry_at ms w.0 *ℤ int_div (scale_of cs ms) (entry_at cs w.0)) (size_at r j) s
        (taken_bound n b l * b) (product_up (entry_at ms w.0 *ℤ int_div (scale_of cs ms) (entry_at cs w.0)) (size_at r j) (taken_bound n b l) b part
        (size_up b r j k.row)) (let o = grown n (taken_bound n b l * b) in omega (arith, room, o)) x
    at (inr (inr x)) = no_wide w.0 Mul (entry_at ms w.0 *ℤ int_div (scale_of cs ms) (entry_at cs w.0)) (entry_at col w.0) s
        (taken_bound n b l * b) (product_up (entry_at ms w.0 *ℤ int_div (scale_of cs ms) (entry_at cs w.0)) (entry_at col w.0) (taken_bound n b l) b part
        (k.column.at w.0)) (let o = grown n (taken_bound n b l * b) in omega (arith, room, o)) x

few_sums : (u c t p n : ℕ) → u + c ≤ t → t ≤ suc n → u * p + c * p ≤ suc n * p
few_sums u c t p n h k = let l : (u + c) * p ≤ suc n * p = mul-le-mul_right p (omega arith) in omega (arith, l)

no_summing : (n b l row : ℕ) (r : List ℤ) (j : ℕ) (col cs ms : List ℤ) (s : ConeOverflow) → Carries n b l r j col cs ms →
    suc n * (taken_bound n b l * b) < 2 ^ 127 → IsSumming row col cs ms s → ⊥
no_summing n b l row r j col cs ms s k room w =
    let i = w.0 in
    let t = taken_bound n b l in
    let u = takings_up n b l r j col cs ms k in
    let a = dot_used t b (take i (times_taken cs ms)) (take i col) (up_take t i (times_taken cs ms) u) (up_take b i col k.column) in
    let d = counted_product (entry_at (times_taken cs ms) i) (entry_at col i) t b (u.at i) (k.column.at i) in
    let f : used (times_taken cs ms) ≤ suc n = (let e = used-taken (scale_of cs ms) cs ms in omega (arith, e, k.few)) in
    let g = few_sums (used (take i (times_taken cs ms))) (counted (entry_at (times_taken cs ms) i)) (used (times_taken cs ms)) (t * b) n
    (used-take i (times_taken cs ms)) f in
    let v = sum_up (dot (take i (times_taken cs ms)) (take i col)) (entry_at (times_taken cs ms) i *ℤ entry_at col i)
    (used (take i (times_taken cs ms)) * (t * b)) (counted (entry_at (times_taken cs ms) i) * (t * b)) a d in
    no_wide row Add (dot (take i (times_taken cs ms)) (take i col)) (entry_at (times_taken cs ms) i *ℤ entry_at col i) s
    (suc n * (t * b)) (omega (arith, v, g)) room w.2

no_carrying : (n b l all row : ℕ) (r : List ℤ) (j : ℕ) (col cs ms : List ℤ) (s : ConeOverflow) → Carries n b l r j col cs ms →
    power (twice b) (suc n) < 2 ^ 127 → suc n * (taken_bound n b l * b) < 2 ^ 127 → taken_bound n b l < 2 ^ 127 → IsCarrying all row r j col cs ms s → ⊥
no_carrying n b l all row r j col cs ms s k scaling room own (inl w) = no_scaling n b l all r j col cs ms s k scaling w
no_carrying n b l all row r j col cs ms s k scaling room own (inr (inl w)) = no_taking n b l r j col cs ms s k room own w
no_carrying n b l all row r j col cs ms s k scaling room own (inr (inr w)) = no_summing n b l row r j col cs ms s k room w

-- ---- the steps of the recursion

-- room for n + 1 columns
room_at : (m n b : ℕ) → m ≡ n + 1 → HasRoom m b → HasRoomAt n b × HasRoom n (below_bound n b)
room_at m n b e h = subst (λ i. HasRoom i b) (e ∙ more n) h

-- room for an elimination by a vector with a pivot
room_of : (n b : ℕ) (r : List ℤ) (j : ℕ) → IsPivot r j → length r ≡ n → HasRoom n b → twice b < 2 ^ 127
room_of zero b r j p l h = absurd (let i = p.inside in omega (arith, i, l))
room_of (suc n) b r j p l h = h.0.reducing

test_room : (n b : ℕ) → HasRoom n b → n * (b * point_bound n b) < 2 ^ 127
test_room zero b h = omega arith
test_room (suc n) b h = h.0.testing

pub no_rows_step : (all n b : ℕ) (rows : List (List ℤ)) (s : ConeOverflow) → 1 ≤ b → Sized n b rows → HasRoom n b → IsRowsStep all n rows s → ⊥
no_rows_step all n b rows s h z room (earlier a m old more t whole e p) = no_rows_step a m b old t h (Sized-front m b old more (subst (Sized m b) e z)) room p
no_rows_step all n b rows s h z room (testing a m old r u t whole e p w) =
    let zs = subst (Sized m b) e z in
    no_dot m b (point_bound m b) (length old) r u t (omega (arith, last_long m b old r zs)) (last_up m b old r zs)
    (point_up m b old u (Sized-front m b old (r ∷ []) zs) p) (test_room m b room) w
no_rows_step all n b rows s h z room (eliminating a m old r j u t whole e p pt low w) =
    let zs = subst (Sized m b) e z in
    no_eliminating b old r j t (last_up m b old r zs) (Sized-front m b old (r ∷ []) zs).entries (room_of m b r j p (last_long m b old r zs) room) w
no_rows_step all n b rows s h z room (below a m old r j cs by_r u t k whole ek e p sys pt low w) =
    let zs : Sized (m + 1) b (old ++ r ∷ []) = subst (λ i. Sized i b (old ++ r ∷ [])) ek (subst (Sized k b) e z) in
    no_rows_step a m (below_bound m b) by_r t (one_below m b h) (Sized-below m b r j old cs by_r p (last_long (m + 1) b old r zs) (last_up (m + 1) b old r zs)
    (Sized-front (m + 1) b old (r ∷ []) zs) sys) (room_at k m b ek room).1 w
no_rows_step all n b rows s h z room (pushing a m old r j cs by_r u v t k whole ek e p sys pt low q w) =
    let zs : Sized (m + 1) b (old ++ r ∷ []) = subst (λ i. Sized i b (old ++ r ∷ [])) ek (subst (Sized k b) e z) in
    let zo = Sized-front (m + 1) b old (r ∷ []) zs in
    let l = last_long (m + 1) b old r zs in
    let u = last_up (m + 1) b old r zs in
    let f = (room_at k m b ek room).0 in
    no_pushing m b (point_bound m (below_bound m b)) (length old) old r j v t p (subst (λ i. Sized i b old) (more m) zo) l u
    (point_up m (below_bound m b) by_r v (Sized-below m b r j old cs by_r p l u zo sys) q) f.lifting f.factor f.pushing w
no_rows_step all n b rows s h z room (carrying a m old r j cs by_r u ms t k whole ek e p sys pt low q w) =
    let zs : Sized (m + 1) b (old ++ r ∷ []) = subst (λ i. Sized i b (old ++ r ∷ [])) ek (subst (Sized k b) e z) in
    let zb = Sized-below m b r j old cs by_r p (last_long (m + 1) b old r zs) (last_up (m + 1) b old r zs) (Sized-front (m + 1) b old (r ∷ []) zs) sys in
    let f = (room_at k m b ek room).0 in
    let c = Carries-rows m b old r j cs by_r ms h zs p sys q (multiplier_up m (below_bound m b) by_r ms (one_below m b h) zb q) in
    no_carrying m b (multiplier_bound m (below_bound m b)) a (length old) r j (column j old) cs ms t c f.scaling f.carrying f.taking w

pub no_step : (all n b : ℕ) (rows es : List (List ℤ)) (s : ConeOverflow) → 1 ≤ b → Sized n b (rows ++ es) → HasRoom n b → IsStepOn all n rows es s → ⊥
no_step all n b rows es s h z room (equations.plain a m old t w) = no_rows_step a m b old t h (Sized-front m b old [] z) room w
no_step all n b rows es s h z room (equations.earlier a m old fs e t whole x k w) =
    no_step a m b old fs t h (Sized-front m b (old ++ fs) (e ∷ []) (Sized-whole m m b old fs whole e refl x z)) room w
no_step all n b rows es s h z room (equations.eliminating a m old fs e j t whole x p w) =
    let zs = Sized-whole m m b old fs whole e refl x z in
    no_eliminating b (old ++ fs) e j t (last_up m b (old ++ fs) e zs) (Sized-front m b (old ++ fs) (e ∷ []) zs).entries
    (room_of m b e j p (last_long m b (old ++ fs) e zs) room) w
no_step all n b rows es s h z room (equations.below a m old fs e j cs by_rows by_es t k whole ek x p sys w) =
    let zs = Sized-whole k (m + 1) b old fs whole e ek x z in
    no_step a m (below_bound m b) by_rows by_es t (one_below m b h) (Sized-below m b e j (old ++ fs) cs (by_rows ++ by_es) p
    (last_long (m + 1) b (old ++ fs) e zs) (last_up (m + 1) b (old ++ fs) e zs) (Sized-front (m + 1) b (old ++ fs) (e ∷ []) zs) sys.system)
    (room_at k m b ek room).1 w
no_step all n b rows es s h z room (equations.lifting a m old fs e j cs by_rows by_es v t k whole ek x p sys q w) =
    let zs = Sized-whole k (m + 1) b old fs whole e ek x z in
    let l = last_long (m + 1) b (old ++ fs) e zs in
    let u = last_up (m + 1) b (old ++ fs) e zs in
    let zb = Sized-below m b e j (old ++ fs) cs (by_rows ++ by_es) p l u (Sized-front (m + 1) b (old ++ fs) (e ∷ []) zs) sys.system in
    no_lifting m b (point_bound m (below_bound m b)) (length old + length fs) e j v t l u (point_on_up m (below_bound m b) by_rows by_es v zb q)
    (room_at k m b ek room).0.lifting w
no_step all n b rows es s h z room (equations.carrying a m old fs e j cs by_rows by_es ms t k whole ek x p sys q w) =
    let zs = Sized-whole k (m + 1) b old fs whole e ek x z in
    let zb = Sized-below m b e j (old ++ fs) cs (by_rows ++ by_es) p (last_long (m + 1) b (old ++ fs) e zs) (last_up (m + 1) b (old ++ fs) e zs)
    (Sized-front (m + 1) b (old ++ fs) (e ∷ []) zs) sys.system in
    let f = (room_at k m b ek room).0 in
    let c = Carries-on m b old fs e j cs by_rows by_es ms h zs p sys.system q (multiplier_on_up m (below_bound m b) by_rows by_es ms (one_below m b h) zb q) in
    no_carrying m b (multiplier_bound m (below_bound m b)) a (length old + length fs) e j (column j (old ++ fs)) cs ms t c f.scaling f.carrying f.taking w
