-- The null space that is read from an elimination of the columns of equations is what the equations are zero on.
use Rattle.std.proofs.Common.{◌≡◌, ◌≢◌, ℕ, zero, suc, ◌+◌, ◌<◌, ◌≤◌, List, [], ◌∷◌, ◌++◌, length, ℤ, pos, negsuc, ◌+ℤ◌, ◌*ℤ◌, neg_ℤ, ◌<ℤ◌, arith, sym, refl, ap}
use Rattle.std.proofs.Common.{ap₂, ◌∙◌, subst, Contains, inl, inr, remove, map, take, drop, unsigned_abs, length-append}
use Rattle.std.specs.Int.{int_signum}
use Rattle.std.proofs.lemmas.Int.{ints}
use Rattle.std.proofs.lemmas.List.{take_more, length-drop, take_all}
use Rattle.std.proofs.lemmas.List.Elements.{All-contains}
use Rattle.gf_int_theory.specs.Content.{scaled}
use Rattle.gf_int_theory.proofs.RingLaws.{same, dv, dn, dneg, ◌⊗◌, ◌⊕◌}
use Rattle.gf_int_theory.proofs.SignLaws.{positive}
use Rattle.gf_vec.specs.Vector.{dot, vector_sum, zeros, values, entry_at, opposite}
use Rattle.gf_vec.proofs.VectorLaws.{length-times}
use Rattle.gf_gordan.specs.Alternative.{AreRows}
use Rattle.gf_gordan.specs.Elimination.{row_at, size_at, signed_at}
use Rattle.gf_duality_theory.specs.Combining.{pair}
use Rattle.gf_duality_theory.specs.Generators.{ray, IsDescribed, unit_vectors}
use Rattle.gf_duality_theory.specs.Elimination.{IsTurned, IsEliminated, begun, skipped, turned, IsNullSpace, columns, with_values}
use Rattle.gf_duality_theory.proofs.ListLaws.{none_in, in_cons, zip_from, zip_to, of_rest, rest_cover}
use Rattle.gf_vec.proofs.DotLaws.{dot-times_right, length-values}
use Rattle.gf_vec.proofs.EntryLaws.{same_by, signum_up, entry_times, entry_plus, drop_times, drop_plus}
use Rattle.gf_vec.proofs.VectorIdentities.{vv, vz, ◌⊞◌, ◌⊡◌, by, vsame}
use Rattle.gf_duality_theory.proofs.PairLaws.{vpair}
use Rattle.gf_duality_theory.proofs.Made.{Made-into, span-times, span-made, Made-dot_zero}
use Rattle.gf_duality_theory.proofs.Described.{Along}
use Rattle.gf_duality_theory.proofs.Equations.{equation_flat, equation_lined, in_map, map_in, units_width, all_of}
use Rattle.gf_duality_theory.proofs.Echelon.{Turned, turned_of, turn_in, SameSpan, basis_span}

-- the first entries are what the equations give on the others
pub record IsConsistent (n : ℕ) (es : List (List ℤ)) (w : List ℤ) : Type 0 where
  pub long : length w ≡ length es + n
  pub value : (i : ℕ) → i < length es → entry_at w i ≡ dot (row_at es i) (drop (length es) w)

drop_values : (es : List (List ℤ)) (x y : List ℤ) → drop (length es) (values es x ++ y) ≡ y
drop_values [] x y = refl
drop_values (e ∷ es) x y = drop_values es x y

entry_values : (es : List (List ℤ)) (x y : List ℤ) (i : ℕ) → i < length es → entry_at (values es x ++ y) i ≡ dot (row_at es i) x
entry_values [] x y i h = absurd (omega arith)
entry_values (e ∷ es) x y zero h = refl
entry_values (e ∷ es) x y (suc i) h = entry_values es x y i (omega arith)

column_consistent : (n : ℕ) (es : List (List ℤ)) (x : List ℤ) → length x ≡ n → IsConsistent n es (with_values es x)
column_consistent n es x l = record {
  long = length-append (values es x) x ∙ ap₂ ◌+◌ (length-values es x) l;
  value = λ i h. entry_values es x x i h ∙ ap (dot (row_at es i)) (sym (drop_values es x x));
}

pub columns_width : (n : ℕ) (es : List (List ℤ)) (w : List ℤ) → Contains (columns n es) w → length w ≡ length es + n
columns_width n es w c = let t = in_map (with_values es) (unit_vectors n) w c in ap length t.1.1 ∙ (column_consistent n es t.0 (units_width n t.0 t.1.0)).long

drop_long : (n m : ℕ) (w : List ℤ) → length w ≡ m + n → length (drop m w) ≡ n
drop_long n m w l = omega (arith, length-drop m w, l)

pub right_columns : (es xs : List (List ℤ)) → map (drop (length es)) (map (with_values es) xs) ≡ xs
right_columns es [] = refl
right_columns es (x ∷ xs) = ap₂ ◌∷◌ (drop_values es x x) (right_columns es xs)

-- the right part of a turned row
right_turned : (n m : ℕ) (c a b : ℤ) (u t r : List ℤ) → length t ≡ m + n → length r ≡ m + n → scaled c u ≡ vector_sum (scaled a t) (scaled b r) →
    scaled c (drop m u) ≡ vector_sum (scaled a (drop m t)) (scaled b (drop m r))
right_turned n m c a b u t r lt lr e = sym (drop_times m c u) ∙ ap (drop m) e ∙ drop_plus m (scaled a t) (scaled b r)
    (length-times a t ∙ lt ∙ sym lr ∙ sym (length-times b r)) ∙ ap₂ vector_sum (drop_times m a t) (drop_times m b r)

turned_consistent : (n : ℕ) (es : List (List ℤ)) (j : ℕ) (r t u : List ℤ) → IsConsistent n es r → IsConsistent n es t → Turned (length es + n) j r t u →
    IsConsistent n es u
turned_consistent n es j r t u cr ct s =
    let m : ℕ = length es in let c = s.c in let a = s.a in let b = s.b in
    let xr : List ℤ = drop m r in let xt : List ℤ = drop m t in let xu : List ℤ = drop m u in
    let lr : length xr ≡ n = drop_long n m r cr.long in let lt : length xt ≡ n = drop_long n m t ct.long in
    let same_len : length (scaled a t) ≡ length (scaled b r) = length-times a t ∙ ct.long ∙ sym cr.long ∙ sym (length-times b r) in
    record {
      long = s.long;
      value = λ i h. let e : List ℤ = row_at es i in
          same_by c (entry_at u i) (dot e xu) s.c_positive
          (sym (entry_times c u i) ∙ ap (λ v. entry_at v i) s.is ∙ entry_plus (scaled a t) (scaled b r) i same_len ∙ ap₂ ◌+ℤ◌ (entry_times a t i)
          (entry_times b r i)
          ∙ ap₂ ◌+ℤ◌ (ap (λ z. a *ℤ z) (ct.value i h)) (ap (λ z. b *ℤ z) (cr.value i h))
          ∙ same (dv a ⊗ by e (vv xt lt) ⊕ dv b ⊗ by e (vv xr lr)) (by e (dv a ⊡ vv xt lt ⊞ dv b ⊡ vv xr lr)) (omega arith)
          ∙ ap (dot e) (sym (right_turned n m c a b u t r ct.long cr.long s.is)) ∙ dot-times_right c e xu);
    }

-- what holds of the rows that are left
pub record NullState (n : ℕ) (es : List (List ℤ)) (j : ℕ) (left : List (List ℤ)) : Type 0 where
  pub consistent : (w : List ℤ) → Contains left w → IsConsistent n es w
  pub described : IsDescribed n [] (take j es) (map (drop (length es)) left) []

-- the row that has its turn, by its sign, so that the equation is positive on it
record Line (e x l : List ℤ) (s : ℤ) : Type 0 where
  long : length l ≡ length x
  positive : pos 0 <ℤ dot e l
  size : pos (unsigned_abs s) ≡ dot e l
  zero_too : (k : List ℤ) → dot k x ≡ pos 0 → dot k l ≡ pos 0
  own : (n : ℕ) → length x ≡ n → pair e l x ≡ zeros n
  part : (n : ℕ) (z : ℤ) → length x ≡ n → scaled (neg_ℤ (int_signum s *ℤ z)) x ≡ scaled (neg_ℤ z) l

line_up : (e x : List ℤ) (s : ℤ) (k : ℕ) → s ≡ pos (suc k) → s ≡ dot e x → Line e x x s
line_up e x s k q v = record {
  long = refl;
  positive = omega (arith, ints, q, v);
  size = omega (arith, ints, q, v);
  zero_too = λ h z. z;
  own = λ n l. vsame (vpair e (vv x l) (vv x l)) (vz n) (λ w. omega arith);
  part = λ n z l. ap (λ t. scaled (neg_ℤ (int_signum t *ℤ z)) x) q ∙ ap (λ t. scaled (neg_ℤ (t *ℤ z)) x) (signum_up k) ∙ vsame (dneg (dn 1 ⊗ dv z) ⊡ vv x l)
      (dneg (dv z) ⊡ vv x l) (λ w. omega arith);
}

line_down : (e x : List ℤ) (s : ℤ) (k : ℕ) → s ≡ negsuc k → s ≡ dot e x → Line e x (opposite x) s
line_down e x s k q v =
    let d : dot e (opposite x) ≡ neg_ℤ (dot e x) = same (by e (dneg (dn 1) ⊡ vv x refl)) (dneg (by e (vv x refl))) (omega arith) in
    record {
      long = length-times (negsuc 0) x;
      positive = omega (arith, ints, q, v, d);
      size = omega (arith, ints, q, v, d);
      zero_too = λ h z. same (by h (dneg (dn 1) ⊡ vv x refl)) (dneg (by h (vv x refl))) (omega arith) ∙ ap neg_ℤ z;
      own = λ n l. vsame (vpair e (dneg (dn 1) ⊡ vv x l) (vv x l)) (vz n) (λ w. omega arith);
      part = λ n z l. ap (λ t. scaled (neg_ℤ (int_signum t *ℤ z)) x) q ∙ vsame (dneg (dneg (dn 1) ⊗ dv z) ⊡ vv x l) (dneg (dv z) ⊡ (dneg (dn 1) ⊡ vv x l))
          (λ w. omega arith);
    }

line_of : (e x : List ℤ) (s : ℤ) → s ≢ pos 0 → s ≡ dot e x → (l : List ℤ) × Line e x l s
line_of e x (pos zero) n v = absurd (n refl)
line_of e x (pos (suc k)) n v = (x, line_up e x (pos (suc k)) k refl v)
line_of e x (negsuc k) n v = (opposite x, line_down e x (negsuc k) k refl v)

-- a turned row's right part is brought along the line
along_line : (n : ℕ) (es : List (List ℤ)) (j : ℕ) (r t u l : List ℤ) → j < length es → IsConsistent n es r → IsConsistent n es t → IsConsistent n es u →
    entry_at r j ≢ pos 0 → IsTurned r j t u → Line (row_at es j) (drop (length es) r) l (entry_at r j) → Along n (row_at es j) l (drop (length es) t)
    (drop (length es) u)
along_line n es j r t u l hj cr ct cu nz d g =
    let m : ℕ = length es in let e : List ℤ = row_at es j in
    let s = turned_of (m + n) j r t u ct.long cr.long nz d in
    let xr : List ℤ = drop m r in let xt : List ℤ = drop m t in let xu : List ℤ = drop m u in
    let lr : length xr ≡ n = drop_long n m r cr.long in
    let lt : length xt ≡ n = drop_long n m t ct.long in
    let right = right_turned n m d.0 (size_at r j) (neg_ℤ (signed_at r j t)) u t r ct.long cr.long d.1.multiple in
    let whole : scaled d.0 xu ≡ pair e l xt =
    right ∙ ap₂ vector_sum (ap (λ z. scaled z xt) g.size) (g.part n (entry_at t j) lr ∙ ap (λ z. scaled (neg_ℤ z) l) (ct.value j hj)) in
    record {
      long = drop_long n m u cu.long;
      c = d.0;
      c_positive = d.1.positive;
      a = dot e l;
      a_positive = g.positive;
      b = neg_ℤ (dot e xt);
      is = whole;
      d = d.0;
      d_fits = omega (arith, ints, d.1.positive);
      pair_is = sym whole;
      zero = sym (cu.value j hj) ∙ s.at;
    }

pub null_state : (n : ℕ) (es : List (List ℤ)) (j : ℕ) (done left : List (List ℤ)) → AreRows n es → j ≤ length es →
    IsEliminated (length es + n) (columns n es) j done left → NullState n es j left
null_state n es j done left w h begun = record {
  consistent = λ x c. let t = in_map (with_values es) (unit_vectors n) x c in
      subst (IsConsistent n es) (sym t.1.1) (column_consistent n es t.0 (units_width n t.0 t.1.0));
  described = subst (λ l. IsDescribed n [] [] l []) (sym (right_columns es (unit_vectors n))) (all_of n);
}
null_state n es j done left w h (skipped b m old rest e z g) =
    let hb : b < length es = omega (arith, e, h) in
    let s = null_state n es b old rest w (omega (arith, hb)) g in
    record {
      consistent = s.consistent;
      described = subst (λ l. IsDescribed n [] l (map (drop (length es)) rest) []) (sym (ap (λ k. take k es) e ∙ take_more es b [] hb))
          (equation_flat n (take b es) (map (drop (length es)) rest) (row_at es b) s.described
          (λ x c. let t = in_map (drop (length es)) rest x c in ap (dot (row_at es b)) t.1.1 ∙ sym ((s.consistent t.0 t.1.0).value b hb) ∙
          All-contains (λ t. entry_at t b ≡ pos 0) rest t.0 z t.1.0));
    }
null_state n es j done left w h (turned b m old from others rest out k e hn f zd zr q g) =
    let hb : b < length es = omega (arith, e, h) in
    let s = null_state n es b old from w (omega (arith, hb)) g in
    let d = s.described in
    let mm : ℕ = length es in
    let r : List ℤ = row_at from k in let cr = turn_in from b k f in
    let kr = s.consistent r cr in
    let ev : List ℤ = row_at es b in
    let x : List ℤ = drop mm r in
    let lx : length x ≡ n = drop_long n mm r kr.long in
    let cx : Contains (map (drop mm) from) x = map_in (drop mm) from r cr in
    let ln = line_of ev x (entry_at r b) f.not_zero (kr.value b hb) in
    let l : List ℤ = ln.0 in
    let tu : (t u : List ℤ) → Contains from t → IsTurned r b t u → Turned (mm + n) b r t u =
    λ t u c i. turned_of (mm + n) b r t u (s.consistent t c).long kr.long f.not_zero i in
    let cons : (u : List ℤ) → Contains rest u → IsConsistent n es u = λ u c.
    let t = zip_from (IsTurned r b) (remove from k) rest u zr c in let i =
    of_rest from k t.0 f.inside t.1.0 in turned_consistent n es b r t.0 u kr (s.consistent t.0 i) (tu t.0 u i t.1.1) in
    record {
      consistent = cons;
      described = subst (λ t. IsDescribed n [] t (map (drop mm) rest) []) (sym (ap (λ k. take k es) e ∙ take_more es b [] hb))
          (equation_lined n (take b es) (map (drop mm) from) (map (drop mm) rest) ev l d (ln.1.long ∙ lx) ln.1.positive
          (λ y c. ln.1.zero_too y (d.lin_solves y x c cx))
          (λ y c. let u = in_map (drop mm) rest y c in let t = zip_from (IsTurned r b) (remove from k) rest u.0 zr u.1.0 in let i =
          of_rest from k t.0 f.inside t.1.0 in (
            drop mm t.0,
            (
              map_in (drop mm) from t.0 i,
              subst (Along n ev l (drop mm t.0)) (sym u.1.1) (along_line n es b r t.0 u.0 l hb kr (s.consistent t.0 i)
                  (cons u.0 u.1.0) f.not_zero t.1.1 ln.1),
            ),
          ))
          (λ y c. let t = in_map (drop mm) from y c in elim (rest_cover from k [] t.0 f.inside t.1.0) [
            | inl a ↦ let u = zip_to (IsTurned r b) (remove from k) rest t.0 zr a in
                inr (
                  drop mm u.0,
                  (
                    map_in (drop mm) rest u.0 u.1.0,
                    subst (λ z. Along n ev l z (drop mm u.0)) (sym t.1.1)
                        (along_line n es b r t.0 u.0 l hb kr (s.consistent t.0 t.1.0) (cons u.0 u.1.0) f.not_zero u.1.1 ln.1),
                  ),
                )
            | inr a ↦ elim (in_cons r [] t.0 a) [ inl i ↦ inl (ap (pair ev l) (t.1.1 ∙ ap (drop mm) i) ∙ ln.1.own n lx) | inr i ↦ absurd (none_in t.0 i) ]
          ]));
    }

-- other lineality vectors of the same span
pub same_lines : (n : ℕ) (hs es lin out rays : List (List ℤ)) → IsDescribed n hs es lin rays → SameSpan n lin out → IsDescribed n hs es out rays
same_lines n hs es lin out rays d s = record {
  lin_width = s.width;
  rays_width = d.rays_width;
  valid = record { up = d.valid.up; flat = λ h x ch cx. Made-dot_zero n [] lin h x (λ y c. absurd (none_in y c)) (λ y c. d.valid.flat h y ch c) (s.from x cx) };
  solves = d.solves;
  lin_solves = λ e x ce cx. Made-dot_zero n [] lin e x (λ y c. absurd (none_in y c)) (λ y c. d.lin_solves e y ce c) (s.from x cx);
  complete = λ v lv up z. Made-into n rays lin rays out v (λ x l c. ray n rays out x l c)
      (λ a x l c. span-made n rays out (scaled a x) (span-times n out a x (s.to x c))) (d.complete v lv up z);
  pointed = d.pointed;
}

-- the null space is what the equations are zero on
pub null_described : (n : ℕ) (es out : List (List ℤ)) → AreRows n es → IsNullSpace n es out → IsDescribed n [] es out []
null_described n es out w b =
    let s = null_state n es (length es) b.done b.left w (omega arith) b.eliminated in
    let d : IsDescribed n [] es (map (drop (length es)) b.left) [] =
    subst (λ t. IsDescribed n [] t (map (drop (length es)) b.left) []) (take_all (length es) es (omega arith)) s.described in
    same_lines n [] es (map (drop (length es)) b.left) out [] d (basis_span n (map (drop (length es)) b.left) out d.lin_width b.basis)
