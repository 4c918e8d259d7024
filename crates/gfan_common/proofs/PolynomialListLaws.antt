-- The polynomials of a marked set, one after another.
use Rattle.std.specs.Prelude.{◌≡◌, ◌≢◌, ℕ, zero, suc, ◌+◌, ◌<◌, All, List, [], ◌∷◌, ◌++◌, length, take, get_or}
use Rattle.std.proofs.Common.{arith, sym, ap, ◌∙◌, subst}
use Rattle.std.proofs.lemmas.List.{take_more, map-append}
use Rattle.std.proofs.lemmas.List.Elements.{All-push}
use Rattle.gf_poly.specs.Polynomial.{Terms, HasVariables}
use Rattle.gf_poly.specs.Marking.{MarkedPolynomial, Each, HaveVariables, polys}

-- the first i members of a set, as polynomials: none is zero, and each has its variables
pub record PolynomialsSoFar (n : ℕ) (bs : List MarkedPolynomial) (found : List Terms) (i : ℕ) : Type 0 where
  pub value : found ≡ polys (take i bs)
  pub some : All (λ f. f ≢ []) found
  pub variables : All (HasVariables n) found

-- what holds of each holds of the one at a place
each_at : {A : Type 0} (P : A → Type 0) (xs : List A) (i : ℕ) (x : A) → Each P xs → i < length xs → x ≡ get_or xs i x → P x
each_at P [] i x h l e = absurd (omega arith)
each_at P (y ∷ xs) zero x h l e = subst P (sym e) h.0
each_at P (y ∷ xs) (suc i) x h l e = each_at P xs i x h.1 (omega arith) e

pub polynomials-more : (n : ℕ) (bs : List MarkedPolynomial) (found next : List Terms) (i : ℕ) (b : MarkedPolynomial) (f : Terms) → HaveVariables n bs →
    i < length bs → b ≡ get_or bs i b → f ≡ b.poly → 0 < length f → next ≡ found ++ f ∷ []
    → PolynomialsSoFar n bs found i → PolynomialsSoFar n bs next (i + 1)
polynomials-more n bs found next i b f v l e p m q h = record {
  value = q ∙ ap (λ z. z ++ f ∷ []) h.value ∙ ap (λ z. polys (take i bs) ++ z ∷ []) p ∙ sym (map-append poly_of (take i bs) (b ∷ [])) ∙ ap polys
      (sym (take_more bs i b l ∙ ap (λ (z : MarkedPolynomial). take i bs ++ z ∷ []) (sym e)));
  some = subst (All (λ (g : Terms). g ≢ [])) (sym q) (All-push (λ (g : Terms). g ≢ []) found f h.some (λ z. omega (arith, m, ap length z)));
  variables = subst (All (HasVariables n)) (sym q) (All-push (HasVariables n) found f h.variables
      (subst (HasVariables n) (sym p) (each_at (λ (c : MarkedPolynomial). HasVariables n c.poly) bs i b v l e)));
}
  where
    poly_of : MarkedPolynomial → Terms
    poly_of c = c.poly
