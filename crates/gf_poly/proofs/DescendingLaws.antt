-- Deglex is a total order of exponent lists, and what it makes of descending lists of terms.
-- To cite: greater_trans, less_greater, equal_same, never_greater, IsAbove-from, IsAbove-contains, Contains-cons.
use Rattle.std.specs.Prelude.{◌≡◌, ◌≢◌, ◌⊎◌, ℕ, zero, suc, [], ◌∷◌, ◌++◌, length, Contains}
use Rattle.std.specs.Ordering.{nat_cmp, ordering_then, ordering_reverse}
use Rattle.std.specs.declared.cmp.Ordering.{Ordering}
use Rattle.std.specs.declared.cmp.Ordering.TheVariants.{Greater, Less, Equal}
use Rattle.std.specs.Cmp.{IsTotalOrder}
use Rattle.std.proofs.Common.{arith, sym, ap, ◌∙◌, inl, inr}
use Rattle.std.proofs.lemmas.Cmp.{nat_cmp_total, nat_list_cmp_total, on_total, then_total}
use Rattle.std.proofs.lemmas.Map.Lookups.{exact_bytes}
use Rattle.gf_frac.specs.Fraction.{zero_ℚ}
use Rattle.gf_exponents_theory.specs.Exponents.{Exponents, degree}
use Rattle.gf_exponents_theory.specs.Orders.{deglex}
use Rattle.gf_poly.specs.declared.Term.{Term}
use Rattle.gf_poly.specs.Polynomial.{Terms, IsAbove, IsDescending, HasVariables}

-- ---- deglex
pub deglex-total : IsTotalOrder deglex
deglex-total = then_total (on_total degree nat_cmp_total) nat_list_cmp_total

pub greater_trans : (x y z : Exponents) → deglex x y ≡ Greater → deglex y z ≡ Greater → deglex x z ≡ Greater
greater_trans x y z h k =
    let o = deglex-total in
    o.antisymm x z ∙ ap ordering_reverse (o.trans z y x (o.antisymm z y ∙ ap ordering_reverse k) (o.antisymm y x ∙ ap ordering_reverse h))

pub less_greater : (x y : Exponents) → deglex x y ≡ Less → deglex y x ≡ Greater
less_greater x y h = deglex-total.antisymm y x ∙ ap ordering_reverse h

pub never_greater : (x : Exponents) → deglex x x ≡ Greater → ⊥
never_greater x h = let q : Greater ≡ Less = sym h ∙ deglex-total.antisymm x x ∙ ap ordering_reverse h in absurd (cc)

then_equal : (a b : Ordering) → ordering_then a b ≡ Equal → b ≡ Equal
then_equal Less b h = absurd (cc)
then_equal Equal b h = h
then_equal Greater b h = absurd (cc)

-- the same monomial, where neither is greater
pub equal_same : (x y : Exponents) → deglex x y ≡ Equal → x ≡ y
equal_same x y h = exact_bytes x y (then_equal (nat_cmp (degree x) (degree y)) _ h)

-- ---- elements of lists
pub Contains-cons : (f : Terms) (s t : Term) → Contains (t ∷ f) s → (s ≡ t) ⊎ Contains f s
Contains-cons f s t (zero, l, e) = inl (sym e)
Contains-cons f s t (suc k, l, e) = inr (k, omega arith, e)

pub Contains-there : (f : Terms) (s t : Term) → Contains f s → Contains (t ∷ f) s
Contains-there f s t (k, l, e) = (suc k, omega arith, e)

pub Contains-none : (s : Term) → Contains {X = Term} [] s → ⊥
Contains-none s (k, l, e) = absurd (omega arith)

-- ---- above
pub IsAbove-from : (x y : Exponents) (f : Terms) → deglex x y ≡ Greater → IsAbove y f → IsAbove x f
IsAbove-from x y [] h a = tt
IsAbove-from x y (t ∷ f) h a = (greater_trans x y t.mono h a.0, IsAbove-from x y f h a.1)

pub IsAbove-contains : (x : Exponents) (f : Terms) (s : Term) → IsAbove x f → Contains f s → deglex x s.mono ≡ Greater
IsAbove-contains x [] s a c = absurd (Contains-none s c)
IsAbove-contains x (t ∷ f) s a c = elim (Contains-cons f s t c) [
  | inl e ↦ ap (λ (z : Term). deglex x z.mono) e ∙ a.0
  | inr d ↦ IsAbove-contains x f s a.1 d
]

pub IsAbove-push : (x : Exponents) (out : Terms) (t : Term) → IsAbove x out → deglex x t.mono ≡ Greater → IsAbove x (out ++ t ∷ [])
IsAbove-push x [] t h a = (a, tt)
IsAbove-push x (s ∷ out) t h a = (h.0, IsAbove-push x out t h.1 a)

-- each term of out is above each of f
abbrev pub AllAbove : Terms → Terms → Type 0
AllAbove [] f = Unit {0}
AllAbove (t ∷ out) f = IsAbove t.mono f × AllAbove out f

pub AllAbove-rest : (out : Terms) (t : Term) (f : Terms) → AllAbove out (t ∷ f) → AllAbove out f
AllAbove-rest [] t f h = tt
AllAbove-rest (s ∷ out) t f h = (h.0.1, AllAbove-rest out t f h.1)

pub AllAbove-push : (out : Terms) (t : Term) (f : Terms) → AllAbove out f → IsAbove t.mono f → AllAbove (out ++ t ∷ []) f
AllAbove-push [] t f h a = (a, tt)
AllAbove-push (s ∷ out) t f h a = (h.0, AllAbove-push out t f h.1 a)

-- a term with the monomial of the next one fits after out
pub IsDescending-push : (out : Terms) (t u : Term) (f : Terms) → IsDescending out → AllAbove out (t ∷ f) → u.mono ≡ t.mono → u.coef ≢ zero_ℚ →
    IsDescending (out ++ u ∷ [])
IsDescending-push [] t u f d h e n = (n, tt, tt)
IsDescending-push (s ∷ out) t u f d h e n = (d.0, IsAbove-push s.mono out u d.1 (ap (deglex s.mono) e ∙ h.0.0), IsDescending-push out t u f d.2 h.1 e n)

pub HasVariables-push : (n : ℕ) (out : Terms) (t : Term) → HasVariables n out → length t.mono ≡ n → HasVariables n (out ++ t ∷ [])
HasVariables-push n [] t h e = (e, tt)
HasVariables-push n (s ∷ out) t h e = (h.0, HasVariables-push n out t h.1 e)
