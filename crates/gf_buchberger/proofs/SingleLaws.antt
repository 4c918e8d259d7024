-- A member whose polynomial is one term has one monomial.
use Rattle.std.specs.Prelude.{◌≡◌, ◌⊎◌, true, [], ◌∷◌, length, Contains}
use Rattle.std.proofs.Common.{arith, ap, subst, inl, inr}
use Rattle.gf_exponents_theory.specs.Exponents.{Exponents, same}
use Rattle.gf_poly.specs.declared.Term.{Term}
use Rattle.gf_poly.specs.Polynomial.{Terms}
use Rattle.gf_poly.specs.Marking.{MarkedPolynomial, Each, HasMarkedTerm}
use Rattle.gf_ideal_theory.specs.Reduction.{HasOneMonomial}
use Rattle.gf_ideal_theory.proofs.ListLaws.{Contains-cases}
use Rattle.gf_ideal_theory.proofs.ListedTerms.{listed}

-- the only term of a list is each one that is contained
one_term : (f : Terms) (m : Term) → length f ≡ 1 → Contains f m → Each (λ (t : Term). t.mono ≡ m.mono) f
one_term [] m l c = absurd (omega arith)
one_term (t ∷ []) m l c = (at (Contains-cases t m [] c), tt)
  where
    at : (t ≡ m) ⊎ Contains [] m → t.mono ≡ m.mono
    at (inl e) = ap (λ (s : Term). s.mono) e
    at (inr k) = absurd (omega (arith, k.1))
one_term (t ∷ s ∷ f) m l c = absurd (omega arith)

pub single_at : (b : MarkedPolynomial) (f : Terms) → f ≡ b.poly → length f ≡ 1 → HasMarkedTerm b → HasOneMonomial b
single_at b f e l m x n = at (listed (λ (t : Term). t.mono ≡ b.head) b.poly x (one_term b.poly (record { coef = m.mark; mono = b.head })
    (subst (λ (z : Terms). length z ≡ 1) e l) m.term) n)
  where
    at : (t : Term) × (t.mono ≡ b.head) × (same x t.mono ≡ true) → same x b.head ≡ true
    at t = subst (λ (z : Exponents). same x z ≡ true) t.1 t.2
