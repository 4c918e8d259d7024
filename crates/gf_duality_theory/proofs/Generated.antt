-- What is made, as a combination with multipliers, and back.
use Rattle.gf_duality_theory.proofs.ListLaws.{in_tail}
use Rattle.gf_duality_theory.specs.Generators.{Made, nothing, ray, line, summed, multiplied, divided}
use Rattle.std.proofs.Common.{◌≡◌, ℕ, zero, suc, ◌<◌, List, [], ◌∷◌, length, ℤ, pos, ◌+ℤ◌, ◌*ℤ◌, ◌<ℤ◌, ◌≤ℤ◌, arith, sym, refl, ap, ◌∙◌, Contains}
use Rattle.std.proofs.Common.{slice_index_or}
use Rattle.std.specs.List.{AllByRecursion}
use Rattle.std.proofs.lemmas.Int.{ints}
use Rattle.std.proofs.lemmas.List.Elements.{All-from_recursion, recursion_from_All}
use Rattle.gf_int_theory.specs.Content.{scaled}
use Rattle.gf_vec.specs.Vector.{dot, vector_sum, zeros, combined, values}
use Rattle.gf_int_theory.proofs.RingLaws.{dv, dn, ◌⊗◌}
use Rattle.gf_int_theory.proofs.SignLaws.{0<-*ℤ}
use Rattle.gf_int_theory.proofs.ListLaws.{Contains-here}
use Rattle.gf_vec.proofs.VectorLaws.{dot-zeros, dot-combined, length-combined, length-zeros, length-times}
use Rattle.gf_gordan.specs.Alternative.{AreRows}
use Rattle.gf_duality_theory.specs.Rays.{Generated}
use Rattle.gf_vec.proofs.VectorIdentities.{Vec, moved, vv, vz, ◌⊞◌, ◌⊡◌, vsame}
use Rattle.gf_duality_theory.proofs.Made.{Made-length, divided_length}
use Rattle.gf_duality_theory.proofs.Described.{sum_up}
use Rattle.gf_gordan.proofs.MultiplierLaws.{zeros_signs, times_not_negative}

abbrev HaveWidth : ℕ → List (List ℤ) → Type 0
HaveWidth n rows = AllByRecursion (λ t. length t ≡ n) rows

-- a combination, by what its multipliers give
abbrev pub vc : {n k : ℕ} {ms : List ℤ} → (rows : List (List ℤ)) → HaveWidth n rows → Vec k ms → Vec n (combined n ms rows)
vc {n} {k} {ms} rows w x = record { long = length-combined n ms rows w; on = λ u. moved (sym (dot-combined n ms rows u w)) (x.on (values rows u)) }

-- a at one index, and zeros
abbrev pub spike : ℕ → ℕ → ℤ → List ℤ
spike zero i a = []
spike (suc n) zero a = a ∷ zeros n
spike (suc n) (suc i) a = pos 0 ∷ spike n i a

pub length-spike : (n i : ℕ) (a : ℤ) → length (spike n i a) ≡ n
length-spike zero i a = refl
length-spike (suc n) zero a = ap suc (length-zeros n)
length-spike (suc n) (suc i) a = ap suc (length-spike n i a)

pub dot-spike : (rows : List (List ℤ)) (i : ℕ) (a : ℤ) (d u : List ℤ) → i < length rows →
    dot (spike (length rows) i a) (values rows u) ≡ a *ℤ dot (slice_index_or rows i d) u
dot-spike [] i a d u l = absurd (omega arith)
dot-spike (t ∷ ts) zero a d u l = ap (λ z. a *ℤ dot t u +ℤ z) (dot-zeros (length ts) (values ts u)) ∙ omega (arith, ints)
dot-spike (t ∷ ts) (suc i) a d u l = ap (λ z. pos 0 *ℤ dot t u +ℤ z) (dot-spike ts i a d u (omega arith)) ∙ omega (arith, ints)

spike_fits : (n i : ℕ) (a : ℤ) → pos 0 ≤ℤ a → AllByRecursion (λ m. pos 0 ≤ℤ m) (spike n i a)
spike_fits zero i a h = tt
spike_fits (suc n) zero a h = (h, zeros_signs n)
spike_fits (suc n) (suc i) a h = (omega (arith, ints), spike_fits n i a h)

plus_fits : (xs ys : List ℤ) → AllByRecursion (λ m. pos 0 ≤ℤ m) xs → AllByRecursion (λ m. pos 0 ≤ℤ m) ys → AllByRecursion (λ m. pos 0 ≤ℤ m) (vector_sum xs ys)
plus_fits [] ys a b = tt
plus_fits (x ∷ xs) [] a b = tt
plus_fits (x ∷ xs) (y ∷ ys) a b = (sum_up x y a.0 b.0, plus_fits xs ys a.1 b.1)

-- multipliers, by recursion
record Counts (n : ℕ) (rays lin : List (List ℤ)) (v : List ℤ) : Type 0 where
  k : ℤ
  ms : List ℤ
  ks : List ℤ
  k_positive : pos 0 <ℤ k
  ms_len : length ms ≡ length rays
  ks_len : length ks ≡ length lin
  fit : AllByRecursion (λ m. pos 0 ≤ℤ m) ms
  is : scaled k v ≡ vector_sum (combined n ms rays) (combined n ks lin)

counts : (n : ℕ) (rays lin : List (List ℤ)) (v : List ℤ) → HaveWidth n rays → HaveWidth n lin → Made n rays lin v → Counts n rays lin v
counts n rays lin v wr wl (nothing m rs ls) = record {
  k = pos 1;
  ms = zeros (length rs);
  ks = zeros (length ls);
  k_positive = omega (arith, ints);
  ms_len = length-zeros (length rs);
  ks_len = length-zeros (length ls);
  fit = zeros_signs (length rs);
  is = vsame (dn 1 ⊡ vz m) (vc rs wr (vz (length rs)) ⊞ vc ls wl (vz (length ls))) (λ w. omega arith);
}
counts n rays lin v wr wl (ray m rs ls w l c) = record {
  k = pos 1;
  ms = spike (length rs) c.0 (pos 1);
  ks = zeros (length ls);
  k_positive = omega (arith, ints);
  ms_len = length-spike (length rs) c.0 (pos 1);
  ks_len = length-zeros (length ls);
  fit = spike_fits (length rs) c.0 (pos 1) (omega (arith, ints));
  is = vsame (dn 1 ⊡ vv w l) (record {
    long = length-combined m (spike (length rs) c.0 (pos 1)) rs wr;
    on = λ u. moved (ap (λ z. pos 1 *ℤ dot z u) (sym c.2) ∙ sym (dot-spike rs c.0 (pos 1) w u c.1) ∙ sym (dot-combined m (spike (length rs) c.0 (pos 1))
        rs u wr)) (dn 1 ⊗ dv (dot w u));
  } ⊞ vc ls wl (vz (length ls))) (λ u. omega arith);
}
counts n rays lin v wr wl (line m rs ls a x w l c e) = record {
  k = pos 1;
  ms = zeros (length rs);
  ks = spike (length ls) c.0 a;
  k_positive = omega (arith, ints);
  ms_len = length-zeros (length rs);
  ks_len = length-spike (length ls) c.0 a;
  fit = zeros_signs (length rs);
  is = ap (scaled (pos 1)) e ∙ vsame (dn 1 ⊡ (dv a ⊡ vv x l)) (vc rs wr (vz (length rs)) ⊞ record {
    long = length-combined m (spike (length ls) c.0 a) ls wl;
    on = λ u. moved (ap (λ z. a *ℤ dot z u) (sym c.2) ∙ sym (dot-spike ls c.0 a x u c.1) ∙ sym (dot-combined m (spike (length ls) c.0 a) ls u wl))
        (dv a ⊗ dv (dot x u));
  }) (λ u. omega arith);
}
counts n rays lin v wr wl (summed m rs ls x y w e f g) =
    let s = counts m rs ls x wr wl f in let t = counts m rs ls y wr wl g in let k = s.k in let l = t.k in
    let lx = Made-length m rs ls x f in let ly = Made-length m rs ls y g in
    record {
      k = k *ℤ l;
      ms = vector_sum (scaled l s.ms) (scaled k t.ms);
      ks = vector_sum (scaled l s.ks) (scaled k t.ks);
      k_positive = 0<-*ℤ k l s.k_positive t.k_positive;
      ms_len = (dv l ⊡ vv s.ms s.ms_len ⊞ dv k ⊡ vv t.ms t.ms_len).long;
      ks_len = (dv l ⊡ vv s.ks s.ks_len ⊞ dv k ⊡ vv t.ks t.ks_len).long;
      fit = plus_fits _ _ (times_not_negative l s.ms (omega (arith, ints, t.k_positive)) s.fit)
          (times_not_negative k t.ms (omega (arith, ints, s.k_positive)) t.fit);
      is = ap (scaled (k *ℤ l)) e
          ∙ vsame (dv k ⊗ dv l ⊡ (vv x lx ⊞ vv y ly)) (dv l ⊡ (dv k ⊡ vv x lx) ⊞ dv k ⊡ (dv l ⊡ vv y ly)) (λ w. omega arith)
          ∙ ap (λ z. vector_sum (scaled l z) (scaled k (scaled l y))) s.is ∙
          ap (λ z. vector_sum (scaled l (vector_sum (combined m s.ms rs) (combined m s.ks ls))) (scaled k z)) t.is
          ∙ vsame (dv l ⊡ (vc rs wr (vv s.ms s.ms_len) ⊞ vc ls wl (vv s.ks s.ks_len)) ⊞ dv k ⊡ (vc rs wr (vv t.ms t.ms_len) ⊞ vc ls wl (vv t.ks t.ks_len)))
          (vc rs wr (dv l ⊡ vv s.ms s.ms_len ⊞ dv k ⊡ vv t.ms t.ms_len) ⊞ vc ls wl (dv l ⊡ vv s.ks s.ks_len ⊞ dv k ⊡ vv t.ks t.ks_len)) (λ w. omega arith);
    }
counts n rays lin v wr wl (multiplied m rs ls a x w g e f) =
    let s = counts m rs ls x wr wl f in let k = s.k in let lx = Made-length m rs ls x f in
    record {
      k = k;
      ms = scaled a s.ms;
      ks = scaled a s.ks;
      k_positive = s.k_positive;
      ms_len = length-times a s.ms ∙ s.ms_len;
      ks_len = length-times a s.ks ∙ s.ks_len;
      fit = times_not_negative a s.ms g s.fit;
      is = ap (scaled k) e ∙ vsame (dv k ⊡ (dv a ⊡ vv x lx)) (dv a ⊡ (dv k ⊡ vv x lx)) (λ w. omega arith) ∙ ap (scaled a) s.is
          ∙ vsame (dv a ⊡ (vc rs wr (vv s.ms s.ms_len) ⊞ vc ls wl (vv s.ks s.ks_len))) (vc rs wr (dv a ⊡ vv s.ms s.ms_len) ⊞ vc ls wl (dv a ⊡ vv s.ks s.ks_len))
          (λ w. omega arith);
    }
counts n rays lin v wr wl (divided m rs ls a x w g e f) =
    let s = counts m rs ls w wr wl f in let k = s.k in let lx = divided_length m rs ls a x w e f in
    record {
      k = k *ℤ a;
      ms = s.ms;
      ks = s.ks;
      k_positive = 0<-*ℤ k a s.k_positive g;
      ms_len = s.ms_len;
      ks_len = s.ks_len;
      fit = s.fit;
      is = vsame (dv k ⊗ dv a ⊡ vv x lx) (dv k ⊡ (dv a ⊡ vv x lx)) (λ w. omega arith) ∙ ap (scaled k) e ∙ s.is;
    }

pub made-generated : (n : ℕ) (rays lin : List (List ℤ)) (v : List ℤ) → AreRows n rays → AreRows n lin → Made n rays lin v → Generated n rays lin v
made-generated n rays lin v wr wl m =
    let c = counts n rays lin v (recursion_from_All (λ t. length t ≡ n) rays wr) (recursion_from_All (λ t. length t ≡ n) lin wl) m in
    record {
      factor = c.k;
      rays_by = c.ms;
      lin_by = c.ks;
      positive = c.k_positive;
      rays_len = c.ms_len;
      lin_len = c.ks_len;
      not_negative = All-from_recursion (λ z. pos 0 ≤ℤ z) c.ms c.fit;
      is = c.is;
    }

rays_made : (n : ℕ) (rays lin rows : List (List ℤ)) (ms : List ℤ) → HaveWidth n rows → ((x : List ℤ) → Contains rows x → Contains rays x) →
    AllByRecursion (λ m. pos 0 ≤ℤ m) ms → Made n rays lin (combined n ms rows)
rays_made n rays lin rows [] w s a = nothing n rays lin
rays_made n rays lin [] (m ∷ ms) w s a = nothing n rays lin
rays_made n rays lin (t ∷ ts) (m ∷ ms) w s a =
    summed n rays lin (scaled m t) (combined n ms ts) _ refl (multiplied n rays lin m t _ a.0 refl (ray n rays lin t w.0 (s t (Contains-here t ts))))
    (rays_made n rays lin ts ms w.1 (λ x c. s x (in_tail t ts x c)) a.1)

lines_made : (n : ℕ) (rays lin rows : List (List ℤ)) (ms : List ℤ) → HaveWidth n rows → ((x : List ℤ) → Contains rows x → Contains lin x) →
    Made n rays lin (combined n ms rows)
lines_made n rays lin rows [] w s = nothing n rays lin
lines_made n rays lin [] (m ∷ ms) w s = nothing n rays lin
lines_made n rays lin (t ∷ ts) (m ∷ ms) w s =
    summed n rays lin (scaled m t) (combined n ms ts) _ refl (line n rays lin m t _ w.0 (s t (Contains-here t ts)) refl)
    (lines_made n rays lin ts ms w.1 (λ x c. s x (in_tail t ts x c)))

pub generated-made : (n : ℕ) (rays lin : List (List ℤ)) (v : List ℤ) → AreRows n rays → AreRows n lin → Generated n rays lin v → Made n rays lin v
generated-made n rays lin v wr wl g =
    let ur = recursion_from_All (λ t. length t ≡ n) rays wr in let ul = recursion_from_All (λ t. length t ≡ n) lin wl in
    divided n rays lin g.factor v _ g.positive g.is (summed n rays lin _ _ _ refl
    (rays_made n rays lin rays g.rays_by ur (λ x c. c) (recursion_from_All (λ z. pos 0 ≤ℤ z) g.rays_by g.not_negative))
    (lines_made n rays lin lin g.lin_by ul (λ x c. c)))
