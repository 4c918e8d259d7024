-- The relative interior does not depend on the rows, and a vector that is interior by the rows is in it.
use Rattle.std.proofs.Common.{◌≡◌, ℕ, List, [], ◌∷◌, length, ℤ, pos, negsuc, ◌+ℤ◌, ◌-ℤ◌, ◌*ℤ◌, neg_ℤ, ◌<ℤ◌, ◌≤ℤ◌, arith, sym, subst, Contains, ◌⊎◌, inl, inr}
use Rattle.std.proofs.lemmas.Int.{ints}
use Rattle.std.proofs.lemmas.List.Elements.{All-contains}
use Rattle.gf_int_theory.proofs.RingLaws.{same, dv, dn, dneg, ◌⊗◌, ◌⊖◌}
use Rattle.gf_int_theory.proofs.SignLaws.{0≤-*ℤ, zero_product}
use Rattle.gf_vec.specs.Vector.{dot}
use Rattle.gf_duality_theory.specs.Faces.{Rows, IsInCone, SameCone, IsInterior}
use Rattle.gf_duality_theory.proofs.ListLaws.{none_in, in_cons}
use Rattle.gf_vec.proofs.VectorIdentities.{Vec, vv, ◌⊞◌, ◌⊡◌, by}
use Rattle.gf_fans_theory.proofs.FanLaws.{is_in, zero_in}
use Rattle.gf_patterns_theory.specs.Interiors.{beyond, IsRelativeInterior}

pub beyond_vec : {n : ℕ} (k : ℤ) (w u : List ℤ) → length w ≡ n → length u ≡ n → Vec n (beyond k w u)
beyond_vec k w u lw lu = dv k ⊡ vv w lw ⊞ dneg (dn 1) ⊡ vv u lu

pub dot_beyond : (n : ℕ) (k : ℤ) (h w u : List ℤ) → length w ≡ n → length u ≡ n → dot h (beyond k w u) ≡ k *ℤ dot h w -ℤ dot h u
dot_beyond n k h w u lw lu = same (by h (dv k ⊡ vv w lw ⊞ dneg (dn 1) ⊡ vv u lu)) (dv k ⊗ by h (vv w lw) ⊖ by h (vv u lu)) (omega arith)

-- a bound of what the rows give on u
pub record IsBound (hs : List (List ℤ)) (u : List ℤ) : Type 0 where
  pub bound : ℤ
  pub up : pos 0 ≤ℤ bound
  pub above : (h : List ℤ) → Contains hs h → dot h u ≤ℤ bound
  pub below : (h : List ℤ) → Contains hs h → neg_ℤ bound ≤ℤ dot h u

larger : (a z : ℤ) → pos 0 ≤ℤ a → (m : ℤ) × ((a ≤ℤ m) × (z ≤ℤ m) × (neg_ℤ m ≤ℤ z))
larger a (pos z) l = (a +ℤ pos z, (omega (arith, ints), omega (arith, ints), omega (arith, ints)))
larger a (negsuc z) l = (a -ℤ negsuc z, (omega (arith, ints), omega (arith, ints), omega (arith, ints)))

pub bound_of : (hs : List (List ℤ)) (u : List ℤ) → IsBound hs u
bound_of [] u = record { bound = pos 0; up = omega (arith, ints); above = λ h k. absurd (none_in h k); below = λ h k. absurd (none_in h k) }
bound_of (t ∷ hs) u =
    let b = bound_of hs u in let up_b = b.up in let m = larger b.bound (dot t u) b.up in let l = m.1.0 in let p = m.1.1 in let q = m.1.2 in
    record {
      bound = m.0;
      up = omega (arith, ints, up_b, l);
      above = λ h k. elim (in_cons t hs h k) [ inl e ↦ subst (λ z. dot z u ≤ℤ m.0) (sym e) p | inr i ↦ let g = b.above h i in omega (arith, ints, g, l) ];
      below = λ h k. elim (in_cons t hs h k) [ inl e ↦ subst (λ z. neg_ℤ m.0 ≤ℤ dot z u) (sym e) q | inr i ↦ let g = b.below h i in omega (arith, ints, g, l) ];
    }

-- where y is at least 1, k * y is at least k
pub times_up : (k y : ℤ) → pos 0 ≤ℤ k → pos 0 <ℤ y → k ≤ℤ (k *ℤ y)
times_up k y p q =
    let g : pos 0 ≤ℤ (k *ℤ (y -ℤ pos 1)) = 0≤-*ℤ k (y -ℤ pos 1) p (omega (arith, ints, q)) in
    let e : k *ℤ (y -ℤ pos 1) ≡ k *ℤ y -ℤ k = same (dv k ⊗ (dv y ⊖ dn 1)) (dv k ⊗ dv y ⊖ dv k) (omega arith) in
    omega (arith, ints, g, e)

pub interior_relative : (n : ℕ) (c : Rows) (w : List ℤ) → IsInterior n c w → IsRelativeInterior n c w
interior_relative n c w i = record {
  width = i.width;
  inside = i.inside;
  past = λ u lu iu.
      let b = bound_of c.inequalities u in let k : ℤ = b.bound in (
        k,
        is_in c (beyond k w u)
            (λ h ch.
            let e = dot_beyond n k h w u i.width lu in
            elim (All-contains (λ h. (pos 0 <ℤ dot h w) ⊎ ((x : List ℤ) → length x ≡ n → IsInCone c x → dot h x ≡ pos 0)) c.inequalities h i.positive ch) [
              | inl p ↦ let a = b.above h ch in let t = times_up k (dot h w) b.up p in omega (arith, ints, e, a, t)
              | inr z ↦ let a = zero_product k (dot h w) (z w i.width i.inside) in let t = z u lu iu in omega (arith, ints, e, a, t)
            ])
            (λ h ch. let e = dot_beyond n k h w u i.width lu in let a = zero_product k (dot h w) (zero_in c w h i.inside ch) in let t = zero_in c u h iu ch in
            omega (arith, ints, e, a, t)),
      );
}

pub relative_same : (n : ℕ) (c d : Rows) (w : List ℤ) → SameCone n c d → IsRelativeInterior n c w → IsRelativeInterior n d w
relative_same n c d w e i = record {
  width = i.width;
  inside = (e w i.width).0 i.inside;
  past = λ u lu iu. let r = i.past u lu ((e u lu).1 iu) in (r.0, (e (beyond r.0 w u) (beyond_vec r.0 w u i.width lu).long).0 r.1);
}
