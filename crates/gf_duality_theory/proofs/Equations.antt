-- The solutions of equations, one after another, from the unit vectors on.
use Rattle.gf_duality_theory.proofs.ListLaws.{none_in, in_tail, in_cons, in_more}
use Rattle.gf_duality_theory.specs.Combining.{pair}
use Rattle.gf_duality_theory.specs.Generators.{Made, nothing, ray, line, summed, multiplied, divided, AreValid, IsDescribed, unit_vectors}
use Rattle.std.proofs.Common.{◌≡◌, ℕ, zero, suc, List, [], ◌∷◌, ◌++◌, length, ℤ, pos, ◌+ℤ◌, ◌*ℤ◌, ◌<ℤ◌, arith, sym, refl, ap, ap₂, ◌∙◌, subst, Contains, ◌⊎◌}
use Rattle.std.proofs.Common.{inl, inr, map}
use Rattle.std.proofs.lemmas.Int.{ints}
use Rattle.std.proofs.lemmas.List.Elements.{Contains-append_left, Contains-push}
use Rattle.gf_int_theory.specs.Content.{scaled}
use Rattle.gf_vec.specs.Vector.{dot, vector_sum, zeros}
use Rattle.gf_int_theory.proofs.RingLaws.{dv, ◌⊗◌}
use Rattle.gf_int_theory.proofs.ListLaws.{Contains-here}
use Rattle.gf_vec.proofs.VectorLaws.{length-zeros}
use Rattle.gf_vec.proofs.VectorIdentities.{vv, vz, ◌⊞◌, ◌⊡◌, vsame}
use Rattle.gf_duality_theory.proofs.Made.{Made-into}
use Rattle.gf_duality_theory.proofs.Stepping.{step_equation}
use Rattle.gf_duality_theory.proofs.Described.{Along, along_zero}

no_rows : (lin : List (List ℤ)) → AreValid [] [] lin
no_rows lin = record { up = λ h x c d. absurd (none_in h c); flat = λ h x c d. absurd (none_in h c) }

-- an equation that is zero on the lineality vectors
pub equation_flat : (n : ℕ) (es lin : List (List ℤ)) (e : List ℤ) → IsDescribed n [] es lin [] → ((x : List ℤ) → Contains lin x → dot e x ≡ pos 0) →
    IsDescribed n [] (es ++ e ∷ []) lin []
equation_flat n es lin e d f = record {
  lin_width = d.lin_width;
  rays_width = d.rays_width;
  valid = d.valid;
  solves = λ k x ck c. absurd (none_in x c);
  lin_solves = λ k x ck cx. in_more (λ u. dot u x ≡ pos 0) es e (λ u cu. d.lin_solves u x cu cx) (f x cx) k ck;
  complete = λ v lv up z. d.complete v lv up (λ k c. z k (Contains-append_left es (e ∷ []) k c));
  pointed = d.pointed;
}

-- an equation that is positive on l
pub equation_lined : (n : ℕ) (es lin lines : List (List ℤ)) (e l : List ℤ) → IsDescribed n [] es lin [] → length l ≡ n → pos 0 <ℤ dot e l →
    ((k : List ℤ) → Contains es k → dot k l ≡ pos 0) → ((y : List ℤ) → Contains lines y → (x : List ℤ) × (Contains lin x × Along n e l x y)) →
    ((x : List ℤ) → Contains lin x → (pair e l x ≡ zeros n) ⊎ ((y : List ℤ) × (Contains lines y × Along n e l x y))) → IsDescribed n [] (es ++ e ∷ []) lines []
equation_lined n es lin lines e l d ll g zl from to =
    record {
      lin_width = λ y c. let f = from y c in f.1.1.long;
      rays_width = λ x c. absurd (none_in x c);
      valid = no_rows lines;
      solves = λ k x ck c. absurd (none_in x c);
      lin_solves = λ k y ck cy. let f = from y cy in let t = f.1.1 in
          in_more (λ u. dot u y ≡ pos 0) es e (λ u cu. along_zero n e l f.0 y u ll (d.lin_width f.0 f.1.0) t (zl u cu) (d.lin_solves u f.0 cu f.1.0))
          t.zero k ck;
      complete = λ v lv up z. step_equation n [] lin [] lines e l v ll g (λ x lx c. absurd (none_in x c))
          (λ a x lx c. elim (to x c) [
            | inl q ↦ subst (Made n [] lines) (sym (ap (scaled a) q ∙ vsame (dv a ⊡ vz n) (vz n) (λ w. omega arith))) (nothing n [] lines)
            | inr f ↦ let t = f.1.1 in let k = t.d in
                line n [] lines (a *ℤ k) f.0 _ t.long f.1.0 (ap (scaled a) t.pair_is ∙ vsame (dv a ⊡ (dv k ⊡ vv f.0 t.long)) (dv a ⊗ dv k ⊡ vv f.0 t.long)
                (λ w. omega arith))
          ])
          (d.complete v lv (λ h c. absurd (none_in h c)) (λ k c. z k (Contains-append_left es (e ∷ []) k c))) (z e (Contains-push es e));
      pointed = λ x c. absurd (none_in x c);
    }

pub in_map : (f : List ℤ → List ℤ) (xs : List (List ℤ)) (y : List ℤ) → Contains (map f xs) y → (x : List ℤ) × (Contains xs x × (y ≡ f x))
in_map f [] y c = absurd (none_in y c)
in_map f (x ∷ xs) y c = elim (in_cons (f x) (map f xs) y c) [
  | inl e ↦ (x, (Contains-here x xs, e))
  | inr d ↦ let t = in_map f xs y d in (t.0, (in_tail x xs t.0 t.1.0, t.1.1))
]

pub map_in : (f : List ℤ → List ℤ) (xs : List (List ℤ)) (x : List ℤ) → Contains xs x → Contains (map f xs) (f x)
map_in f [] x c = absurd (none_in x c)
map_in f (y ∷ xs) x c = elim (in_cons y xs x c) [
  | inl e ↦ subst (λ t. Contains (f y ∷ map f xs) (f t)) (sym e) (Contains-here (f y) (map f xs))
  | inr d ↦ in_tail (f y) (map f xs) (f x) (map_in f xs x d)
]

pub units_width : (n : ℕ) (x : List ℤ) → Contains (unit_vectors n) x → length x ≡ n
units_width zero x c = absurd (none_in x c)
units_width (suc n) x c = elim (in_cons (pos 1 ∷ zeros n) (map (λ v. pos 0 ∷ v) (unit_vectors n)) x c) [
  | inl e ↦ ap length e ∙ ap suc (length-zeros n)
  | inr d ↦ let t = in_map (λ v. pos 0 ∷ v) (unit_vectors n) x d in ap length t.1.1 ∙ ap suc (units_width n t.0 t.1.0)
]

-- a zero entry_at in front
front_times : (a : ℤ) (x : List ℤ) → pos 0 ∷ scaled a x ≡ scaled a (pos 0 ∷ x)
front_times a x = ap (λ z. z ∷ scaled a x) (let e : pos 0 ≡ a *ℤ pos 0 = omega (arith, ints) in e)

front_plus : (x y : List ℤ) → pos 0 ∷ vector_sum x y ≡ vector_sum (pos 0 ∷ x) (pos 0 ∷ y)
front_plus x y = refl

fronted : (n : ℕ) (rays lin : List (List ℤ)) (v : List ℤ) → ((x : List ℤ) → Contains rays x → ⊥) → Made n rays lin v →
    Made (suc n) [] (map (λ x. pos 0 ∷ x) lin) (pos 0 ∷ v)
fronted n rays lin v z (nothing m rs ls) = nothing (suc m) [] (map (λ x. pos 0 ∷ x) ls)
fronted n rays lin v z (ray m rs ls w l c) = absurd (z w c)
fronted n rays lin v z (line m rs ls a u w l c e) = line (suc m) [] (map (λ x. pos 0 ∷ x) ls) a (pos 0 ∷ u) (pos 0 ∷ w) (ap suc l)
    (map_in (λ x. pos 0 ∷ x) ls u c) (ap (λ t. pos 0 ∷ t) e ∙ front_times a u)
fronted n rays lin v z (summed m rs ls x y w e p q) = summed (suc m) [] (map (λ x. pos 0 ∷ x) ls) (pos 0 ∷ x) (pos 0 ∷ y) (pos 0 ∷ w) (ap (λ t. pos 0 ∷ t) e ∙
    front_plus x y) (fronted m rs ls x z p) (fronted m rs ls y z q)
fronted n rays lin v z (multiplied m rs ls a x w k e p) = multiplied (suc m) [] (map (λ x. pos 0 ∷ x) ls) a (pos 0 ∷ x) (pos 0 ∷ w) k
    (ap (λ t. pos 0 ∷ t) e ∙ front_times a x) (fronted m rs ls x z p)
fronted n rays lin v z (divided m rs ls a x w k e p) = divided (suc m) [] (map (λ x. pos 0 ∷ x) ls) a (pos 0 ∷ x) (pos 0 ∷ w) k
    (sym (front_times a x) ∙ ap (λ t. pos 0 ∷ t) e) (fronted m rs ls w z p)

spans_all : (n : ℕ) (v : List ℤ) → length v ≡ n → Made n [] (unit_vectors n) v
spans_all zero [] l = nothing zero [] []
spans_all zero (x ∷ v) l = absurd (omega arith)
spans_all (suc n) [] l = absurd (omega arith)
spans_all (suc n) (x ∷ v) l =
    let lv : length v ≡ n = omega arith in
    let all = unit_vectors (suc n) in
    summed (suc n) [] all (scaled x (pos 1 ∷ zeros n)) (pos 0 ∷ v) (x ∷ v)
    (ap₂ ◌∷◌ (let e : x ≡ x *ℤ pos 1 +ℤ pos 0 = omega (arith, ints) in e) (vsame (vv v lv) (dv x ⊡ vz n ⊞ vv v lv) (λ w. omega arith)))
    (line (suc n) [] all x (pos 1 ∷ zeros n) _ (ap suc (length-zeros n)) (Contains-here (pos 1 ∷ zeros n) (map (λ v. pos 0 ∷ v) (unit_vectors n))) refl)
    (Made-into (suc n) [] (map (λ v. pos 0 ∷ v) (unit_vectors n)) [] all (pos 0 ∷ v) (λ y i c. absurd (none_in y c))
    (λ a y i c. line (suc n) [] all a y _ i (in_tail (pos 1 ∷ zeros n) (map (λ v. pos 0 ∷ v) (unit_vectors n)) y c) refl)
    (fronted n [] (unit_vectors n) v (λ y c. none_in y c) (spans_all n v lv)))

pub all_of : (n : ℕ) → IsDescribed n [] [] (unit_vectors n) []
all_of n = record {
  lin_width = units_width n;
  rays_width = λ x c. absurd (none_in x c);
  valid = no_rows (unit_vectors n);
  solves = λ k x ck c. absurd (none_in x c);
  lin_solves = λ k x ck c. absurd (none_in k ck);
  complete = λ v lv up z. spans_all n v lv;
  pointed = λ x c. absurd (none_in x c);
}
