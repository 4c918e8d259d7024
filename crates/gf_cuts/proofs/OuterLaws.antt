-- Cones that hold others.
use Rattle.std.proofs.Common.{◌≡◌, ℕ, List, [], ◌∷◌, ◌++◌, map, ℤ, append_assoc, sym, ap, ◌∙◌, subst, Contains, All, inl, inr}
use Rattle.std.specs.List.Sorted.{IsPermutation}
use Rattle.std.proofs.lemmas.List.{map-append}
use Rattle.std.proofs.lemmas.List.Elements.{All-contains, All-push, Contains-append_right, Contains-push}
use Rattle.std.proofs.lemmas.List.Sorted.{Contains-permutation, IsPermutation-sym}
use Rattle.gf_int_theory.proofs.ListLaws.{Contains-here, Contains-last, all_by}
use Rattle.gf_duality_theory.specs.Faces.{Rows}
use Rattle.gf_duality_theory.proofs.ListLaws.{none_in, first_in}
use Rattle.gf_fans_theory.proofs.PartNumbers.{in_map, of_map}
use Rattle.gf_patterns_theory.specs.Cuts.{IsHeldBy}
use Rattle.gf_rays.specs.Cones.{RowsAndRays, rows_of}
use Rattle.gf_levels_theory.specs.Generators.{AreOuter}
use Rattle.gf_levels_theory.specs.Generators as theory
use Rattle.gf_levels_theory.proofs.ProductLaws.{rays_held}
use Rattle.gf_cuts.specs.Heights.{HasItsRays}

-- with one lineality basis, and some of the rays
pub inside_by : (x y : RowsAndRays) → HasItsRays x → HasItsRays y → y.ambient ≡ x.ambient → y.lineality ≡ x.lineality →
    ((z : List ℤ) → Contains x.rays z → Contains y.rays z) → IsHeldBy x.ambient (rows_of x) (rows_of y)
inside_by x y r s e l f = rays_held x.ambient (rows_of x) (rows_of y) x.lineality x.rays y.rays r
    (subst (λ n. theory.HasRays n (rows_of y) x.lineality y.rays) e (subst (λ z. theory.HasRays y.ambient (rows_of y) z y.rays) l s)) f

pub outer_none : (n : ℕ) → AreOuter n [] []
outer_none n = record { each = λ d k. absurd (none_in d k); every = λ c k. absurd (none_in c k) }

-- what was taken and what is left are all
pub taken : (vs rest new all : List RowsAndRays) (v : RowsAndRays) → rest ≡ v ∷ new → vs ++ rest ≡ all → (vs ++ v ∷ []) ++ new ≡ all
taken vs rest new all v e h = append_assoc vs (v ∷ []) new ∙ ap (λ z. vs ++ z) (sym e) ∙ h

pub joined_more : (cones vs out new : List RowsAndRays) (v : RowsAndRays) → new ≡ out ++ v ∷ [] → out ≡ cones ++ vs → new ≡ cones ++ (vs ++ v ∷ [])
joined_more cones vs out new v n e = n ∙ ap (λ z. z ++ v ∷ []) e ∙ append_assoc cones vs (v ∷ [])

pub taken_ambient : (n : ℕ) (vs rest new all : List RowsAndRays) (v : RowsAndRays) → rest ≡ v ∷ new → vs ++ rest ≡ all →
    All (λ (c : RowsAndRays). c.ambient ≡ n) all → v.ambient ≡ n
taken_ambient n vs rest new all v e h a = All-contains (λ (c : RowsAndRays). c.ambient ≡ n) all v a
    (subst (λ z. Contains z v) h (Contains-append_right vs rest v (subst (λ z. Contains z v) (sym e) (Contains-here v new))))

pub kept_ambient : (n : ℕ) (kept new : List RowsAndRays) (c : RowsAndRays) → new ≡ kept ++ c ∷ [] → c.ambient ≡ n →
    All (λ (c : RowsAndRays). c.ambient ≡ n) kept → All (λ (c : RowsAndRays). c.ambient ≡ n) new
kept_ambient n kept new c e q a = subst (All (λ (c : RowsAndRays). c.ambient ≡ n)) (sym e) (All-push (λ (c : RowsAndRays). c.ambient ≡ n) kept c a q)

pub held_as : (n : ℕ) (read kept : List RowsAndRays) (c : RowsAndRays) → c.ambient ≡ n → read ≡ kept →
    (d : RowsAndRays) × (Contains read d × IsHeldBy c.ambient (rows_of c) (rows_of d)) →
    (d : RowsAndRays) × (Contains kept d × IsHeldBy n (rows_of c) (rows_of d))
held_as n read kept c e f h = subst (λ m. (d : RowsAndRays) × (Contains kept d × IsHeldBy m (rows_of c) (rows_of d))) e
    (subst (λ z. (d : RowsAndRays) × (Contains z d × IsHeldBy c.ambient (rows_of c) (rows_of d))) f h)

pub outer_left : (n : ℕ) (cones kept : List RowsAndRays) (c : RowsAndRays) →
    (d : RowsAndRays) × (Contains kept d × IsHeldBy n (rows_of c) (rows_of d)) → AreOuter n (map rows_of cones) (map rows_of kept) →
    AreOuter n (map rows_of (cones ++ c ∷ [])) (map rows_of kept)
outer_left n cones kept c d a = subst (λ z. AreOuter n z (map rows_of kept)) (sym (map-append rows_of cones (c ∷ []))) (record {
  each = λ x k. first_in (map rows_of cones) (rows_of c) x (a.each x k);
  every = λ x k. elim (Contains-last (map rows_of cones) (rows_of c) x k) [
    | inl i ↦ a.every x i
    | inr q ↦ (rows_of d.0, (in_map rows_of kept d.0 d.1.0, subst (λ (z : Rows). IsHeldBy n z (rows_of d.0)) (sym q) d.1.1))
  ];
})

pub outer_kept : (n : ℕ) (cones kept new : List RowsAndRays) (c : RowsAndRays) → new ≡ kept ++ c ∷ [] →
    AreOuter n (map rows_of cones) (map rows_of kept) → AreOuter n (map rows_of (cones ++ c ∷ [])) (map rows_of new)
outer_kept n cones kept new c e a =
    subst (λ z. AreOuter n z (map rows_of new)) (sym (map-append rows_of cones (c ∷ [])))
    (subst (AreOuter n (map rows_of cones ++ rows_of c ∷ [])) (sym (ap (map rows_of) e ∙ map-append rows_of kept (c ∷ []))) (record {
      each = λ x k. elim (Contains-last (map rows_of kept) (rows_of c) x k) [
        | inl i ↦ first_in (map rows_of cones) (rows_of c) x (a.each x i)
        | inr q ↦ subst (Contains (map rows_of cones ++ rows_of c ∷ [])) (sym q) (Contains-push (map rows_of cones) (rows_of c))
      ];
      every = λ x k. elim (Contains-last (map rows_of cones) (rows_of c) x k) [
        | inl i ↦ let r = a.every x i in (r.0, (first_in (map rows_of kept) (rows_of c) r.0 r.1.0, r.1.1))
        | inr q ↦ (rows_of c, (Contains-push (map rows_of kept) (rows_of c), subst (λ (z : Rows). IsHeldBy n z (rows_of c)) (sym q) (λ v lv iv. iv)))
      ];
    }))

-- of those that are left, in another order, those that hold the others
pub outer_again : (n : ℕ) (cones first turned kept : List RowsAndRays) → IsPermutation first turned → AreOuter n (map rows_of cones) (map rows_of first) →
    AreOuter n (map rows_of turned) (map rows_of kept) → AreOuter n (map rows_of cones) (map rows_of kept)
outer_again n cones first turned kept p a b =
    let back : (x : Rows) → Contains (map rows_of turned) x → Contains (map rows_of first) x = λ x k.
    let o = of_map rows_of turned x k in
    subst (Contains (map rows_of first)) o.1.1 (in_map rows_of first o.0 (Contains-permutation turned first o.0 (IsPermutation-sym first turned p) o.1.0)) in
    let forth : (x : Rows) → Contains (map rows_of first) x → Contains (map rows_of turned) x = λ x k.
    let o = of_map rows_of first x k in
    subst (Contains (map rows_of turned)) o.1.1 (in_map rows_of turned o.0 (Contains-permutation first turned o.0 p o.1.0)) in
    record {
      each = λ d k. a.each d (back d (b.each d k));
      every = λ c k.
          let r = a.every c k in
          let s = b.every r.0 (forth r.0 r.1.0) in
          (s.0, (s.1.0, λ v lv iv. s.1.1 v lv (r.1.1 v lv iv)));
    }

pub turned_ambient : (n : ℕ) (cones turned : List RowsAndRays) → IsPermutation cones turned → All (λ (c : RowsAndRays). c.ambient ≡ n) cones →
    All (λ (c : RowsAndRays). c.ambient ≡ n) turned
turned_ambient n cones turned p a = all_by (λ (c : RowsAndRays). c.ambient ≡ n) turned
    (λ c k. All-contains (λ (c : RowsAndRays). c.ambient ≡ n) cones c a (Contains-permutation turned cones c (IsPermutation-sym cones turned p) k))
