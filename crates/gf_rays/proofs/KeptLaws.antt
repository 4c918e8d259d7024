-- Rays with one flag more, where an inequality is negative on none of them, from the last on.
use Rattle.std.proofs.Common.{◌≡◌, ℕ, ◌+◌, ◌<◌, ◌≤◌, List, [], ◌∷◌, ◌++◌, length, take, get_or, ℤ, pos, ◌≤ℤ◌, All, Contains, Bool, IsTrue, ◌↔◌, arith, refl}
use Rattle.std.proofs.Common.{sym, ap, ◌∙◌, subst, inl, inr}
use Rattle.std.proofs.lemmas.Int.{ints}
use Rattle.std.proofs.lemmas.List.{get_or_append_left, get_or_default, length-append, take_more}
use Rattle.std.proofs.lemmas.List.Elements.{All-push, Contains-push}
use Rattle.std.proofs.Math.Seq.{get_or-append_seam}
use Rattle.gf_int_theory.proofs.ListLaws.{Contains-last}
use Rattle.gf_vec.specs.Vector.{dot}
use Rattle.gf_duality_theory.proofs.ListLaws.{first_in, index, less, at, more}
use Rattle.gf_rays.specs.declared.ray.Ray.{Ray}
use Rattle.gf_rays.specs.Splitting.{IsRayKept, IsSplit, AreValues}
use Rattle.gf_rays.proofs.SplitLoops.{value_of, values_long}

-- the last rays flagged; the others stand as they stood
pub record FlaggedSoFar (rays : List Ray) (values : List ℤ) (left out : List Ray) : Type 0 where
  pub few : length left ≤ length rays
  pub front : (j : ℕ) (d : Ray) → j < length left → get_or left j d ≡ get_or rays j d
  pub drawn : (h : List ℤ) → AreValues h rays values → All (λ z. pos 0 ≤ℤ z) values → (y : Ray) → Contains out y → IsRayKept h rays y
  pub kept : (j : ℕ) (d : Ray) → length left ≤ j → j < length rays → (y : Ray) × (Contains out y × (y.vector ≡ (get_or rays j d).vector))

pub flagged_none : (rays : List Ray) (values : List ℤ) → FlaggedSoFar rays values rays []
flagged_none rays values = record {
  few = omega arith;
  front = λ j d h. refl;
  drawn = λ h a p y c. absurd (let l = c.1 in omega (arith, l));
  kept = λ j d h l. absurd (omega (arith, h, l));
}

-- not negative on the ray at an index
not_negative_at : (h : List ℤ) (rays : List Ray) (values : List ℤ) (j : ℕ) (r : Ray) → AreValues h rays values → All (λ z. pos 0 ≤ℤ z) values →
    j < length rays → (get_or values j (pos 0) ≡ dot h (get_or rays j r).vector) × (pos 0 ≤ℤ dot h (get_or rays j r).vector)
not_negative_at h rays values j r a p l =
    let e = (value_of h rays values j r a l).0 in
    let k = values_long h rays values a in
    (e, subst (λ z. pos 0 ≤ℤ z) e (p j (pos 0) (omega (arith, k, l))))

pub flagged_more : (rays : List Ray) (values : List ℤ) (left rest out new : List Ray) (r y : Ray) (bit : Bool) (z : ℤ) → left ≡ rest ++ r ∷ [] →
    z ≡ get_or values (length rest) (pos 0) → y.vector ≡ r.vector → y.zero ≡ r.zero ++ bit ∷ [] → (IsTrue bit ↔ (z ≡ pos 0)) → new ≡ out ++ y ∷ [] →
    FlaggedSoFar rays values left out → FlaggedSoFar rays values rest new
flagged_more rays values left rest out new r y bit z el ez ev ef eb en s =
    let n : ℕ = length rest in
    let long : length left ≡ n + 1 = ap length el ∙ length-append rest (r ∷ []) in
    let few = s.few in
    let hn : n < length rays = omega (arith, few, long) in
    let last : get_or rays n r ≡ r = sym (s.front n r (omega (arith, long))) ∙ ap (λ (l : List Ray). get_or l n r) el ∙ get_or-append_seam rest r [] r in
    let listed : Contains rays r = (n, hn, last) in
    subst (λ (l : List Ray). FlaggedSoFar rays values rest l) (sym en) (record {
      few = omega (arith, few, long);
      front = λ j d l. sym (get_or_append_left rest (r ∷ []) d j l) ∙ ap (λ (x : List Ray). get_or x j d) (sym el) ∙ s.front j d (omega (arith, long, l));
      drawn = λ h a p x c. elim (Contains-last out y x c) [
        | inl b ↦ s.drawn h a p x b
        | inr q ↦
            let w = not_negative_at h rays values n r a p hn in
            let value : z ≡ dot h r.vector = ez ∙ w.0 ∙ ap (λ (t : Ray). dot h t.vector) last in
            subst (IsRayKept h rays) (sym q) (record {
              r = r;
              bit = bit;
              in_r = listed;
              up = subst (λ (t : Ray). pos 0 ≤ℤ dot h t.vector) last w.1;
              vector = ev;
              flags = ef;
              zero = (λ u. sym value ∙ eb.0 u, λ u. eb.1 (value ∙ u));
            })
      ];
      kept = λ j d h l. elim (index j n) [
        | more b ↦ absurd (omega (arith, h, b))
        | at q ↦ (y, (Contains-push out y, ev ∙ ap (λ (t : Ray). t.vector) (sym last ∙ get_or_default rays n r d hn ∙ ap (λ i. get_or rays i d) (sym q))))
        | less b ↦ let t = s.kept j d (omega (arith, long, b)) l in (t.0, (first_in out y t.0 t.1.0, t.1.1))
      ];
    })

-- ---- values that aren't negative, one further

pub up_more : (values : List ℤ) (i : ℕ) → i < length values → pos 0 ≤ℤ get_or values i (pos 0) → All (λ z. pos 0 ≤ℤ z) (take i values) →
    All (λ z. pos 0 ≤ℤ z) (take (i + 1) values)
up_more values i l p a = subst (All (λ z. pos 0 ≤ℤ z)) (sym (take_more values i (pos 0) l))
    (All-push (λ z. pos 0 ≤ℤ z) (take i values) (get_or values i (pos 0)) a p)

pub flagged_done : (rays : List Ray) (values : List ℤ) (left out : List Ray) → length left ≡ 0 → FlaggedSoFar rays values left out → (h : List ℤ) →
    AreValues h rays values → All (λ z. pos 0 ≤ℤ z) values → IsSplit h rays out
flagged_done rays values left out e s h a p = record {
  drawn = λ y c. inl (s.drawn h a p y c);
  kept = λ r c u. let t = s.kept c.0 r (omega (arith, e)) c.1 in (t.0, (t.1.0, t.1.1 ∙ ap (λ (x : Ray). x.vector) c.2));
  covered = λ x q cx cq up down.
      let w = (not_negative_at h rays values cq.0 q a p cq.1).1 in
      let up2 : pos 0 ≤ℤ dot h q.vector = subst (λ (t : Ray). pos 0 ≤ℤ dot h t.vector) cq.2 w in
      absurd (omega (arith, ints, up2, down));
}
