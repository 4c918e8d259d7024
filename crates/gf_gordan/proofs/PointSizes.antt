-- How large the entries of the recursion's points are.
use Rattle.std.proofs.Common.{◌≡◌, ℕ, zero, suc, ◌+◌, ◌*◌, ◌≤◌, List, [], ◌∷◌, ◌++◌, length, ℤ, ◌*ℤ◌, neg_ℤ, arith, sym, ◌∙◌, subst, unsigned_abs, remove}
use Rattle.std.specs.Int.{int_signum}
use Rattle.gf_int_theory.specs.Content.{scaled}
use Rattle.gf_vec.specs.Vector.{dot, entry_at}
use Rattle.gf_gordan.specs.Elimination.{IsPivot, size_at, lifted, greatest_value, push_factor, IsPushed}
use Rattle.gf_gordan.specs.Recursion.{IsPoint, nothing, kept, pushed}
use Rattle.gf_gordan.specs.Equations.{IsPointOn}
use Rattle.gf_gordan.specs.Equations as equations
use Rattle.gf_gordan.proofs.PointLaws.{all_snoc, length-remove_lem}
use Rattle.gf_gordan.proofs.MultiplierLaws.{all_front}
use Rattle.gf_gordan.proofs.SizeLaws.{UpTo, up_weaker, up_zeros, up_times, up_sum, up_remove, up_insert, up_divided, neg_up, product_up, signum_up, dot_up}
use Rattle.gf_gordan.proofs.ReducedSizes.{below_bound, size_up, Sized, Sized-below}
use Rattle.gf_int_theory.proofs.ListLaws.{all_join, all_back}

-- what bounds a lifted point, where the point has n entries of at most q
abbrev pub lift_bound : ℕ → ℕ → ℕ → ℕ
lift_bound n b q = suc n * (b * q)

-- what bounds a point of a system with n columns and entries of at most b
abbrev pub point_bound : ℕ → ℕ → ℕ
point_bound zero b = 0
point_bound (suc n) b = (1 + suc n * (b * b)) * lift_bound n b (point_bound n (below_bound n b)) + b

-- ---- vectors in a system

pub Sized-front : (n b : ℕ) (xs ys : List (List ℤ)) → Sized n b (xs ++ ys) → Sized n b xs
Sized-front n b xs ys z = record { widths = all_front (λ t. length t ≡ n) xs ys z.widths; entries = all_front (UpTo b) xs ys z.entries }

pub Sized-back : (n b : ℕ) (xs ys : List (List ℤ)) → Sized n b (xs ++ ys) → Sized n b ys
Sized-back n b xs ys z = record { widths = all_back (λ t. length t ≡ n) xs ys z.widths; entries = all_back (UpTo b) xs ys z.entries }

pub Sized-append : (n b : ℕ) (xs ys : List (List ℤ)) → Sized n b xs → Sized n b ys → Sized n b (xs ++ ys)
Sized-append n b xs ys y z = record { widths = all_join (λ t. length t ≡ n) xs ys y.widths z.widths; entries = all_join (UpTo b) xs ys y.entries z.entries }

-- the last vector
pub last_long : (n b : ℕ) (xs : List (List ℤ)) (r : List ℤ) → Sized n b (xs ++ r ∷ []) → length r ≡ n
last_long n b xs r z = (all_snoc (λ t. length t ≡ n) xs r z.widths).1

pub last_up : (n b : ℕ) (xs : List (List ℤ)) (r : List ℤ) → Sized n b (xs ++ r ∷ []) → UpTo b r
last_up n b xs r z = (all_snoc (UpTo b) xs r z.entries).1

-- ---- a lifted point

pub grown : (n p : ℕ) → p ≤ suc n * p
grown n p = omega arith

pub lifted_up : (n b q : ℕ) (r : List ℤ) (j : ℕ) (v : List ℤ) → IsPivot r j → length r ≡ n + 1 → UpTo b r → UpTo q v → UpTo (lift_bound n b q) (lifted r j v)
lifted_up n b q r j v p l u k =
    let size = up_times (size_at r j) b q v (size_up b r j u) k in
    let d = dot_up (suc n) b q (remove r j) v (omega (arith, l, length-remove_lem r j p.inside)) (up_remove b r j u) k in
    let x = product_up (neg_ℤ (int_signum (entry_at r j))) (dot (remove r j) v) 1 (lift_bound n b q)
    (neg_up (int_signum (entry_at r j)) 1 (signum_up (entry_at r j))) d in
    up_insert (lift_bound n b q) (scaled (size_at r j) v) j (neg_ℤ (int_signum (entry_at r j)) *ℤ dot (remove r j) v)
    (omega (arith, x)) (up_weaker (b * q) (lift_bound n b q) _ (grown n (b * q)) size)

-- ---- a pushed point

pub greatest_up : (n b : ℕ) (rows : List (List ℤ)) (r : List ℤ) → Sized n b rows → UpTo b r → greatest_value rows r ≤ n * (b * b)
greatest_up n b [] r z u = omega arith
greatest_up n b (t ∷ ts) r z u =
    let d = dot_up n b b t r (omega (arith, z.widths.0)) z.entries.0 u in
    let g = greatest_up n b ts r (record { widths = z.widths.1; entries = z.entries.1 }) u in
    omega (arith, d, g)

pub factor_up : (n b : ℕ) (rows : List (List ℤ)) (r : List ℤ) → Sized n b rows → UpTo b r → unsigned_abs (push_factor rows r) ≤ 1 + n * (b * b)
factor_up n b rows r z u = let g = greatest_up n b rows r z u in omega (arith, g)

pushed_up : (n b q : ℕ) (rows : List (List ℤ)) (r : List ℤ) (j : ℕ) (v u : List ℤ) → IsPivot r j → Sized (suc n) b rows → length r ≡ n + 1 → UpTo b r →
    UpTo q v → IsPushed rows r j v u → UpTo ((1 + suc n * (b * b)) * lift_bound n b q + b) u
pushed_up n b q rows r j v u p z l ur uv h =
    up_divided _ _ u h.0 h.1
    (up_sum ((1 + suc n * (b * b)) * lift_bound n b q) b (scaled (push_factor rows r) (lifted r j v)) r
    (up_times (push_factor rows r) (1 + suc n * (b * b)) (lift_bound n b q) (lifted r j v) (factor_up (suc n) b rows r z ur) (lifted_up n b q r j v p l ur uv))
    ur)

pub more : (n : ℕ) → n + 1 ≡ suc n
more n = omega arith

-- the points of the recursion on rows
pub point_up : (n b : ℕ) (rows : List (List ℤ)) (u : List ℤ) → Sized n b rows → IsPoint n rows u → UpTo (point_bound n b) u
point_up n b rows u z (nothing m) = up_zeros (point_bound m b) m
point_up n b rows u z (kept m old r v whole e p h) = point_up m b old v (Sized-front m b old (r ∷ []) (subst (Sized m b) e z)) p
point_up n b rows u z (pushed m old r j cs below last v x k whole ek e piv sys pt low p push) =
    let zs : Sized (m + 1) b (old ++ r ∷ []) = subst (λ i. Sized i b (old ++ r ∷ [])) ek (subst (Sized k b) e z) in
    let zo = Sized-front (m + 1) b old (r ∷ []) zs in
    let l = last_long (m + 1) b old r zs in
    let ur = last_up (m + 1) b old r zs in
    let q = point_up m (below_bound m b) below v (Sized-below m b r j old cs below piv l ur zo sys) p in
    subst (λ i. UpTo (point_bound i b) x) (sym (ek ∙ more m)) (pushed_up m b (point_bound m (below_bound m b)) old r j v x piv
    (subst (λ i. Sized i b old) (more m) zo) l ur q push)

grown_point : (f l b : ℕ) → l ≤ (1 + f) * l + b
grown_point f l b = omega arith

-- and those with equations
pub point_on_up : (n b : ℕ) (rows es : List (List ℤ)) (u : List ℤ) → Sized n b (rows ++ es) → IsPointOn n rows es u → UpTo (point_bound n b) u
point_on_up n b rows es u z (equations.plain m old v p) = point_up m b old v (Sized-front m b old [] z) p
point_on_up n b rows es u z (equations.dropped m old fs e v whole s none p) =
    point_on_up m b old fs v (Sized-append m b old fs (Sized-front m b old whole z)
    (Sized-front m b fs (e ∷ []) (subst (Sized m b) s (Sized-back m b old whole z)))) p
point_on_up n b rows es u z (equations.raised m old fs e j cs by_rows by_es v k whole ek s piv sys p) =
    let ze : Sized (m + 1) b (fs ++ e ∷ []) = subst (λ i. Sized i b (fs ++ e ∷ [])) ek (subst (Sized k b) s (Sized-back k b old whole z)) in
    let zo : Sized (m + 1) b old = subst (λ i. Sized i b old) ek (Sized-front k b old whole z) in
    let zs = Sized-append (m + 1) b old fs zo (Sized-front (m + 1) b fs (e ∷ []) ze) in
    let l = last_long (m + 1) b fs e ze in
    let ue = last_up (m + 1) b fs e ze in
    let q = point_on_up m (below_bound m b) by_rows by_es v (Sized-below m b e j (old ++ fs) cs (by_rows ++ by_es) piv l ue zs sys.system) p in
    let t = lifted_up m b (point_bound m (below_bound m b)) e j v piv l ue q in
    subst (λ i. UpTo (point_bound i b) (lifted e j v)) (sym (ek ∙ more m))
    (up_weaker _ _ (lifted e j v) (grown_point (suc m * (b * b)) (lift_bound m b (point_bound m (below_bound m b))) b) t)
