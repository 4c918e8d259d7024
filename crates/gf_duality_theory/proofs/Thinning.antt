-- Rays that are never made: each of them inside one that is.
use Rattle.gf_duality_theory.proofs.ListLaws.{in_tail}
use Rattle.gf_duality_theory.specs.Generators.{IsDescribed, ray, line}
use Rattle.std.proofs.Common.{◌≡◌, ℕ, zero, suc, List, [], ◌∷◌, ◌++◌, ℤ, arith, sym, refl, ◌∙◌, subst, Contains, get_or}
use Rattle.std.proofs.lemmas.List.{get_or_default}
use Rattle.std.proofs.lemmas.List.Elements.{Contains-append_right}
use Rattle.gf_int_theory.proofs.ListLaws.{Contains-here}
use Rattle.gf_duality_theory.proofs.Made.{Made-into}
use Rattle.gf_duality_theory.proofs.Taking.{ZeroWhere}
use Rattle.gf_duality_theory.proofs.Described.{pruned}

-- only which rays there are counts, and not their order
pub same_rays : (n : ℕ) (hs es lin rays others : List (List ℤ)) → IsDescribed n hs es lin rays → ((x : List ℤ) → Contains rays x → Contains others x) →
    ((x : List ℤ) → Contains others x → Contains rays x) → IsDescribed n hs es lin others
same_rays n hs es lin rays others d to from = record {
  lin_width = d.lin_width;
  rays_width = λ x c. d.rays_width x (from x c);
  valid = record { up = λ h x ch cx. d.valid.up h x ch (from x cx); flat = d.valid.flat };
  solves = λ e x ce cx. d.solves e x ce (from x cx);
  lin_solves = d.lin_solves;
  complete = λ v lv up z. Made-into n rays lin others lin v (λ x l c. ray n others lin x l (to x c)) (λ a x l c. line n others lin a x _ l c refl)
      (d.complete v lv up z);
  pointed = λ x c. d.pointed x (from x c);
}

pub thinned : (n : ℕ) (hs es lin left out : List (List ℤ)) → ((x : List ℤ) → Contains left x → (y : List ℤ) × (Contains out y × ZeroWhere hs x y)) →
    IsDescribed n hs es lin (left ++ out) → IsDescribed n hs es lin out
thinned n hs es lin [] out f d = d
thinned n hs es lin (x ∷ left) out f d =
    let t = f x (Contains-here x left) in let y : List ℤ = t.0 in
    let c : Contains (left ++ out) y = Contains-append_right left out y t.1.0 in
    let k : ℕ = c.0 in let hk = c.1 in
    let e : get_or (left ++ out) k [] ≡ y = get_or_default (left ++ out) k [] y hk ∙ c.2 in
    thinned n hs es lin left out (λ z i. f z (in_tail x left z i))
    (pruned n hs es lin (x ∷ (left ++ out)) zero (suc k) d (omega arith) (omega (arith, hk)) (λ q. omega arith) (subst (ZeroWhere hs x) (sym e) t.1.1))
