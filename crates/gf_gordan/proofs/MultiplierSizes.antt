-- How large the recursion's multipliers are: few aren't zero, whatever the number of rows.
use Rattle.std.proofs.Common.{◌≡◌, ℕ, zero, suc, ◌+◌, ◌*◌, ◌≤◌, List, [], ◌∷◌, ◌++◌, length, ℤ, pos, ◌*ℤ◌, neg_ℤ, arith, sym, refl, ap, ◌∙◌, subst}
use Rattle.std.proofs.Common.{unsigned_abs}
use Rattle.std.specs.Int.{int_signum}
use Rattle.std.specs.List.{AllByRecursion}
use Rattle.std.proofs.Math.Nat.{mul-le-mul_right}
use Rattle.gf_int_theory.specs.Content.{scaled}
use Rattle.gf_vec.specs.Vector.{dot, zeros, entry_at}
use Rattle.gf_gordan.specs.Elimination.{IsPivot, size_at, IsSystemBy, column, times_taken, IsCarried}
use Rattle.gf_gordan.specs.Elimination as elimination
use Rattle.gf_gordan.specs.Recursion.{IsMultipliers, zero_row, prefix, carried}
use Rattle.gf_gordan.specs.Equations.{IsMultipliersOn}
use Rattle.gf_gordan.specs.Equations as equations
use Rattle.gf_gordan.proofs.SystemLaws.{length-system, length-contents}
use Rattle.gf_gordan.proofs.MultiplierLaws.{IsMultipliers-length}
use Rattle.gf_gordan.proofs.EquationSound.{IsMultipliersOn-refutes}
use Rattle.gf_gordan.proofs.SizeLaws.{UpTo, up_weaker, up_none, up_cons, up_zeros, up_append, up_times, up_divided, neg_up, product_up, signum_up}
use Rattle.gf_gordan.proofs.ReducedSizes.{twice, one_twice, below_bound, one_below, size_up, Sized, Sized-below, IsSmallContent, contents_up, column_up}
use Rattle.gf_gordan.proofs.PointSizes.{Sized-front, Sized-back, Sized-append, last_long, last_up, more}
use Rattle.gf_gordan.proofs.ScaleSizes.{power, counted_one, used, used-append, used-zeros, used-times, used-kept, used-taken, dot_used, taken_up}

-- ---- how many aren't zero

-- one more than below
used_carried : (r : List ℤ) (j : ℕ) (col cs ms out : List ℤ) (n : ℕ) → used ms ≤ n → IsCarried r j col cs ms out → used out ≤ suc n
used_carried r j col cs ms out n h d =
    let x = neg_ℤ (int_signum (entry_at r j)) *ℤ dot (times_taken cs ms) col in
    let a = used-kept d.0 out d.1.positive in
    let b = ap used d.1.multiple in
    let c = used-append (scaled (size_at r j) (times_taken cs ms)) (x ∷ []) in
    let e = used-times (size_at r j) (times_taken cs ms) in
    let f = used-taken (elimination.scale_of cs ms) cs ms in
    let g = counted_one x in
    omega (arith, a, b, c, e, f, g, h)

-- at most one more than there are columns
pub few : (n : ℕ) (rows : List (List ℤ)) (ms : List ℤ) → IsMultipliers n rows ms → used ms ≤ suc n
few n rows ms (zero_row m old r whole e z) = let a = used-append (zeros (length old)) (pos 1 ∷ []) in let b = used-zeros (length old) in omega (arith, a, b)
few n rows ms (prefix m old more ns whole e p) = let a = used-append ns (zeros (length more)) in let b = used-zeros (length more) in let c =
    few m old ns p in omega (arith, a, b, c)
few n rows ms (carried m old r j cs below u ns out k whole ek e piv sys pt low q c) =
    let a = used_carried r j (column j old) cs ns out (suc m) (few m below ns q) c in omega (arith, a, ek)

pub few_on : (n : ℕ) (rows es : List (List ℤ)) (ms : List ℤ) → IsMultipliersOn n rows es ms → used ms ≤ suc n
few_on n rows es ms (equations.plain m old ns p) = few m old ns p
few_on n rows es ms (equations.dropped m old fs e ns whole s z p) = let a = used-append ns (pos 0 ∷ []) in let c = few_on m old fs ns p in omega (arith, a, c)
few_on n rows es ms (equations.carried m old fs e j cs by_rows by_es ns out k whole ek s piv sys q c) =
    let a = used_carried e j (column j (old ++ fs)) cs ns out (suc m) (few_on m by_rows by_es ns q) c in omega (arith, a, ek)

-- ---- how large they are

-- what bounds the takings of a system with n columns, where the multipliers are at most l
abbrev pub taken_bound : ℕ → ℕ → ℕ → ℕ
taken_bound n b l = l * power (twice b) n

-- what bounds the multipliers of a system with n columns and entries of at most b
abbrev pub multiplier_bound : ℕ → ℕ → ℕ
multiplier_bound zero b = 1
multiplier_bound (suc n) b = 1 + suc n * (taken_bound n b (multiplier_bound n (below_bound n b)) * b)

one_multiplier : (n b : ℕ) → 1 ≤ multiplier_bound n b
one_multiplier zero b = omega arith
one_multiplier (suc n) b = omega arith

-- a system whose multipliers are carried back: its contents, the column that is taken away, and the multipliers
pub record Carries (n b l : ℕ) (r : List ℤ) (j : ℕ) (col cs ms : List ℤ) : Type 0 where
  pub one : 1 ≤ b
  pub row : UpTo b r
  pub column : UpTo b col
  pub contents : AllByRecursion (IsSmallContent (twice b)) cs
  pub as_many : length cs ≡ length ms
  pub few : used ms ≤ suc n
  pub multipliers : UpTo l ms

pub takings_up : (n b l : ℕ) (r : List ℤ) (j : ℕ) (col cs ms : List ℤ) → Carries n b l r j col cs ms → UpTo (taken_bound n b l) (times_taken cs ms)
takings_up n b l r j col cs ms k = taken_up (twice b) n l cs ms (one_twice b k.one) k.contents k.as_many k.few k.multipliers

few_takings : (u v p k : ℕ) → u ≤ v → v ≤ k → u * p ≤ k * p
few_takings u v p k h g = mul-le-mul_right p (omega arith)

-- what is added up for the multiplier of r
pub own_up : (n b l : ℕ) (r : List ℤ) (j : ℕ) (col cs ms : List ℤ) → Carries n b l r j col cs ms →
    unsigned_abs (dot (times_taken cs ms) col) ≤ suc n * (taken_bound n b l * b)
own_up n b l r j col cs ms k =
    let d = dot_used (taken_bound n b l) b (times_taken cs ms) col (takings_up n b l r j col cs ms k) k.column in
    let w = few_takings (used (times_taken cs ms)) (used ms) (taken_bound n b l * b) (suc n) (used-taken (elimination.scale_of cs ms) cs ms) k.few in
    omega (arith, d, w)

swapped : (n p b : ℕ) → b * p ≤ 1 + suc n * (p * b)
swapped n p b = omega arith

carried_up : (n b l : ℕ) (r : List ℤ) (j : ℕ) (col cs ms out : List ℤ) → Carries n b l r j col cs ms → IsCarried r j col cs ms out →
    UpTo (1 + suc n * (taken_bound n b l * b)) out
carried_up n b l r j col cs ms out k d =
    let x = neg_ℤ (int_signum (entry_at r j)) *ℤ dot (times_taken cs ms) col in
    let o = product_up (neg_ℤ (int_signum (entry_at r j))) (dot (times_taken cs ms) col) 1 (suc n * (taken_bound n b l * b)) (neg_up (int_signum (entry_at r j))
    1 (signum_up (entry_at r j))) (own_up n b l r j col cs ms k) in
    let f = up_times (size_at r j) b (taken_bound n b l) (times_taken cs ms) (size_up b r j k.row) (takings_up n b l r j col cs ms k) in
    up_divided _ _ out d.0 d.1
    (up_append (1 + suc n * (taken_bound n b l * b)) (scaled (size_at r j) (times_taken cs ms))
    (x ∷ []) (up_weaker (b * taken_bound n b l) _ _ (swapped n (taken_bound n b l) b) f) (up_cons _ x [] (omega (arith, o)) (up_none _)))

-- the system by the last row, and its multipliers
pub Carries-rows : (n b : ℕ) (rows : List (List ℤ)) (r : List ℤ) (j : ℕ) (cs : List ℤ) (below : List (List ℤ)) (ms : List ℤ) → 1 ≤ b →
    Sized (n + 1) b (rows ++ r ∷ []) → IsPivot r j → IsSystemBy r j rows cs below → IsMultipliers n below ms → UpTo (multiplier_bound n (below_bound n b)) ms →
    Carries n b (multiplier_bound n (below_bound n b)) r j (column j rows) cs ms
Carries-rows n b rows r j cs below ms h z piv sys q u =
    let zo = Sized-front (n + 1) b rows (r ∷ []) z in
    let ur = last_up (n + 1) b rows r z in
    let zb = Sized-below n b r j rows cs below piv (last_long (n + 1) b rows r z) ur zo sys in record {
      one = h;
      row = ur;
      column = column_up b j rows zo.entries;
      contents = contents_up b r j rows cs below h ur zo.entries sys;
      as_many = length-contents r j rows cs below sys ∙ sym (length-system r j rows cs below sys) ∙ sym (IsMultipliers-length n below ms zb.widths q);
      few = few n below ms q;
      multipliers = u;
    }

pub multiplier_up : (n b : ℕ) (rows : List (List ℤ)) (ms : List ℤ) → 1 ≤ b → Sized n b rows → IsMultipliers n rows ms → UpTo (multiplier_bound n b) ms
multiplier_up n b rows ms h z (zero_row m old r whole e k) =
    up_append _ (zeros (length old)) (pos 1 ∷ []) (up_zeros _ (length old)) (up_cons _ (pos 1) [] (let o = one_multiplier m b in omega (arith, o)) (up_none _))
multiplier_up n b rows ms h z (prefix m old more ns whole e p) =
    up_append _ ns (zeros (length more)) (multiplier_up m b old ns h (Sized-front m b old more (subst (Sized m b) e z)) p) (up_zeros _ (length more))
multiplier_up n b rows ms h z (carried m old r j cs below v ns out k whole ek e piv sys p low q c) =
    let zs : Sized (m + 1) b (old ++ r ∷ []) = subst (λ i. Sized i b (old ++ r ∷ [])) ek (subst (Sized k b) e z) in
    let zb = Sized-below m b r j old cs below piv (last_long (m + 1) b old r zs) (last_up (m + 1) b old r zs) (Sized-front (m + 1) b old (r ∷ []) zs) sys in
    let u = multiplier_up m (below_bound m b) below ns (one_below m b h) zb q in
    subst (λ i. UpTo (multiplier_bound i b) out) (sym (ek ∙ more m)) (carried_up m b (multiplier_bound m (below_bound m b)) r j (column j old) cs ns out
    (Carries-rows m b old r j cs below ns h zs piv sys q u) c)

-- ---- with equations

-- the rows and the equations before the last one
pub Sized-whole : (m n b : ℕ) (rows es whole : List (List ℤ)) (e : List ℤ) → m ≡ n → whole ≡ es ++ e ∷ [] → Sized m b (rows ++ whole) →
    Sized n b ((rows ++ es) ++ e ∷ [])
Sized-whole m n b rows es whole e em s z =
    let ze : Sized n b (es ++ e ∷ []) = subst (λ i. Sized i b (es ++ e ∷ [])) em (subst (Sized m b) s (Sized-back m b rows whole z)) in
    let zo : Sized n b rows = subst (λ i. Sized i b rows) em (Sized-front m b rows whole z) in
    Sized-append n b (rows ++ es) (e ∷ []) (Sized-append n b rows es zo (Sized-front n b es (e ∷ []) ze)) (Sized-back n b es (e ∷ []) ze)

pub Carries-on : (n b : ℕ) (rows es : List (List ℤ)) (e : List ℤ) (j : ℕ) (cs : List ℤ) (by_rows by_es : List (List ℤ)) (ms : List ℤ) → 1 ≤ b →
    Sized (n + 1) b ((rows ++ es) ++ e ∷ []) → IsPivot e j → IsSystemBy e j (rows ++ es) cs (by_rows ++ by_es) → IsMultipliersOn n by_rows by_es ms →
    UpTo (multiplier_bound n (below_bound n b)) ms → Carries n b (multiplier_bound n (below_bound n b)) e j (column j (rows ++ es)) cs ms
Carries-on n b rows es e j cs by_rows by_es ms h z piv sys q u =
    let zo = Sized-front (n + 1) b (rows ++ es) (e ∷ []) z in
    let ur = last_up (n + 1) b (rows ++ es) e z in
    let zb = Sized-below n b e j (rows ++ es) cs (by_rows ++ by_es) piv (last_long (n + 1) b (rows ++ es) e z) ur zo sys in
    let len = (IsMultipliersOn-refutes n by_rows by_es ms (Sized-front n _ by_rows by_es zb).widths (Sized-back n _ by_rows by_es zb).widths q).len in record {
      one = h;
      row = ur;
      column = column_up b j (rows ++ es) zo.entries;
      contents = contents_up b e j (rows ++ es) cs (by_rows ++ by_es) h ur zo.entries sys;
      as_many = length-contents e j (rows ++ es) cs (by_rows ++ by_es) sys ∙ sym (length-system e j (rows ++ es) cs (by_rows ++ by_es) sys) ∙ sym len;
      few = few_on n by_rows by_es ms q;
      multipliers = u;
    }

pub multiplier_on_up : (n b : ℕ) (rows es : List (List ℤ)) (ms : List ℤ) → 1 ≤ b → Sized n b (rows ++ es) → IsMultipliersOn n rows es ms →
    UpTo (multiplier_bound n b) ms
multiplier_on_up n b rows es ms h z (equations.plain m old ns p) = multiplier_up m b old ns h (Sized-front m b old [] z) p
multiplier_on_up n b rows es ms h z (equations.dropped m old fs e ns whole s k p) =
    up_append _ ns (pos 0 ∷ []) (multiplier_on_up m b old fs ns h (Sized-front m b (old ++ fs) (e ∷ []) (Sized-whole m m b old fs whole e refl s z)) p)
    (up_cons _ (pos 0) [] (omega arith) (up_none _))
multiplier_on_up n b rows es ms h z (equations.carried m old fs e j cs by_rows by_es ns out k whole ek s piv sys q c) =
    let zs = Sized-whole k (m + 1) b old fs whole e ek s z in
    let zb = Sized-below m b e j (old ++ fs) cs (by_rows ++ by_es) piv (last_long (m + 1) b (old ++ fs) e zs) (last_up (m + 1) b (old ++ fs) e zs)
    (Sized-front (m + 1) b (old ++ fs) (e ∷ []) zs) sys.system in
    let u = multiplier_on_up m (below_bound m b) by_rows by_es ns (one_below m b h) zb q in
    subst (λ i. UpTo (multiplier_bound i b) out) (sym (ek ∙ more m)) (carried_up m b (multiplier_bound m (below_bound m b)) e j (column j (old ++ fs)) cs ns out
    (Carries-on m b old fs e j cs by_rows by_es ns h zs piv sys.system q u) c)
