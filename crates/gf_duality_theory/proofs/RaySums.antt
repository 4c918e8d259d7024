-- The sum of rays: it is generated, and a row that is negative on none of them is zero on it only where it is zero on each.
use Rattle.std.proofs.Common.{◌≡◌, ℕ, List, [], ◌∷◌, length, ℤ, pos, ◌+ℤ◌, ◌≤ℤ◌, arith, refl, ap, ◌∙◌, Contains, inl, inr}
use Rattle.std.proofs.lemmas.Int.{ints}
use Rattle.gf_int_theory.specs.Content.{scaled}
use Rattle.gf_int_theory.proofs.RingLaws.{same, dn, ◌⊕◌}
use Rattle.gf_int_theory.proofs.ListLaws.{Contains-here}
use Rattle.gf_vec.specs.Vector.{dot}
use Rattle.gf_vec.proofs.VectorIdentities.{vv, ◌⊞◌, ◌⊡◌, by}
use Rattle.gf_duality_theory.specs.Generators.{Made, nothing, ray, summed, multiplied}
use Rattle.gf_duality_theory.specs.Faces.{sum_of}
use Rattle.gf_duality_theory.proofs.ListLaws.{none_in, in_tail, in_cons}
use Rattle.gf_duality_theory.proofs.Made.{Made-length, Made-dot}

-- the sum of vectors is made
pub sum_made : (n : ℕ) (rays lin rows : List (List ℤ)) → ((x : List ℤ) → Contains rows x → length x ≡ n) → ((x : List ℤ) → Contains rows x → Contains rays x) →
    Made n rays lin (sum_of n rows)
sum_made n rays lin [] w s = nothing n rays lin
sum_made n rays lin (t ∷ ts) w s =
    let lt = w t (Contains-here t ts) in
    summed n rays lin (scaled (pos 1) t) (sum_of n ts) _ refl (multiplied n rays lin (pos 1) t _ (omega (arith, ints)) refl
    (ray n rays lin t lt (s t (Contains-here t ts)))) (sum_made n rays lin ts (λ x c. w x (in_tail t ts x c)) (λ x c. s x (in_tail t ts x c)))

sum_step : (n : ℕ) (h t : List ℤ) (ts : List (List ℤ)) → length t ≡ n → length (sum_of n ts) ≡ n → dot h (sum_of n (t ∷ ts)) ≡ dot h t +ℤ dot h (sum_of n ts)
sum_step n h t ts lt ls = same (by h (dn 1 ⊡ vv t lt ⊞ vv (sum_of n ts) ls)) (by h (vv t lt) ⊕ by h (vv (sum_of n ts) ls)) (omega arith)

pub sum_long : (n : ℕ) (rows : List (List ℤ)) → ((x : List ℤ) → Contains rows x → length x ≡ n) → length (sum_of n rows) ≡ n
sum_long n rows w = Made-length n rows [] (sum_of n rows) (sum_made n rows [] rows w (λ x c. c))

sum_up : (n : ℕ) (rows : List (List ℤ)) (h : List ℤ) → ((x : List ℤ) → Contains rows x → length x ≡ n) → ((x : List ℤ) → Contains rows x → pos 0 ≤ℤ dot h x) →
    pos 0 ≤ℤ dot h (sum_of n rows)
sum_up n rows h w f = Made-dot n rows [] h (sum_of n rows) f (λ x c. absurd (none_in x c)) (sum_made n rows [] rows w (λ x c. c))

-- where the sum is zero each of them is
pub sum_zero : (n : ℕ) (rows : List (List ℤ)) (h x : List ℤ) → ((x : List ℤ) → Contains rows x → length x ≡ n) →
    ((x : List ℤ) → Contains rows x → pos 0 ≤ℤ dot h x) → dot h (sum_of n rows) ≡ pos 0 → Contains rows x → dot h x ≡ pos 0
sum_zero n [] h x w f z c = absurd (none_in x c)
sum_zero n (t ∷ ts) h x w f z c =
    let lt = w t (Contains-here t ts) in
    let wt : (y : List ℤ) → Contains ts y → length y ≡ n = λ y k. w y (in_tail t ts y k) in
    let ft : (y : List ℤ) → Contains ts y → pos 0 ≤ℤ dot h y = λ y k. f y (in_tail t ts y k) in
    let e : dot h (sum_of n (t ∷ ts)) ≡ dot h t +ℤ dot h (sum_of n ts) = sum_step n h t ts lt (sum_long n ts wt) in
    let p : pos 0 ≤ℤ dot h t = f t (Contains-here t ts) in
    let q : pos 0 ≤ℤ dot h (sum_of n ts) = sum_up n ts h wt ft in
    elim (in_cons t ts x c) [
      | inl i ↦ ap (dot h) i ∙ omega (arith, ints)
      | inr k ↦ sum_zero n ts h x wt ft (omega (arith, ints)) k
    ]
