-- Monomials in one more variable: what a loop over the exponents has done.
use Rattle.std.specs.Prelude.{◌≡◌, ℕ, ◌+◌, ◌<◌, ◌≤◌, ◌^◌, [], ◌∷◌, ◌++◌, length, take, set}
use Rattle.std.proofs.Common.{arith, sym, subst, ap, ◌∙◌, get_or}
use Rattle.std.proofs.lemmas.List.{length-append, take_more, take_all, take_more_set}
use Rattle.std.proofs.lemmas.List.Elements.{All-push}
use Rattle.gf_exponents_theory.specs.Exponents.{Exponents}
use Rattle.gf_poly.specs.declared.TheConstants.{ROOM}
use Rattle.gf_poly.specs.Monomial.{IsMonomial}

-- one more exponent within the limit
pub filled-monomial : (x : Exponents) (e : ℕ) → length x < ROOM → IsMonomial x → e < 2 ^ 31 → IsMonomial (x ++ e ∷ [])
filled-monomial x e l m h = record { room = omega (arith, length-append x (e ∷ [])); limit = All-push (λ (k : ℕ). k < 2 ^ 31) x e m.limit h }

-- one more exponent is there
pub entries-more : (all old : Exponents) (i v : ℕ) → i < length all → i < length old → v ≡ get_or old i 0 → take i all ≡ take i old →
    take (i + 1) (set all i v) ≡ take (i + 1) old
entries-more all old i v l k e h = take_more_set all i v l ∙ ap (λ (z : Exponents). z ++ v ∷ []) h ∙ ap (λ (z : ℕ). take i old ++ z ∷ []) e ∙
    sym (take_more old i 0 k)

-- all are there, and the last
pub filled-array : (all old : Exponents) (i e : ℕ) → length old ≤ i → i ≤ length old → length old < length all → take i all ≡ take i old →
    take (length old + 1) (set all (length old) e) ≡ old ++ e ∷ []
filled-array all old i e l k r h =
    let at : i ≡ length old = omega arith in
    take_more_set all (length old) e r ∙ ap (λ (z : Exponents). z ++ e ∷ []) (subst (λ (j : ℕ). take j all ≡ take j old) at h ∙ take_all (length old) old
    (omega arith))
