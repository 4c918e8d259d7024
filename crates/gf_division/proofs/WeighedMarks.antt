-- Loops that test whether a weight sets marks above the other monomials of listed polynomials.
-- To cite: each-all, Weighing, IsWithin, realised_by_terms, realisable_by_members, weight_by_members.
use Rattle.std.specs.Prelude.{◌≡◌, ◌⊎◌, ℕ, ◌+◌, ◌*◌, ◌≤◌, ◌^◌, true, List, length, take, drop}
use Rattle.std.proofs.Common.{subst, inl, inr}
use Rattle.std.proofs.lemmas.List.{take_all}
use Rattle.gf_exponents_theory.specs.Exponents.{Exponents, same, weight}
use Rattle.gf_exponents_theory.specs.Orders.{lighter}
use Rattle.gf_exponents_theory.proofs.ExponentsLaws.{same_flip, same_trans}
use Rattle.gf_exponents_theory.proofs.OrderLaws.{lighter-strict}
use Rattle.gf_poly.specs.declared.Term.{Term}
use Rattle.gf_poly.specs.Polynomial.{HasVariables}
use Rattle.gf_poly.specs.Marking.{MarkedPolynomial, Each, HasMarkedTerm}
use Rattle.gf_ideal_theory.specs.Marks.{IsMarked, IsPositive, HasPositiveWeight, IsRealisedBy, IsRealisable}
use Rattle.gf_ideal_theory.proofs.ListLaws.{contained_each}
use Rattle.gf_ideal_theory.proofs.ListedTerms.{by_terms}
use Rattle.gf_ideal_theory.proofs.KeptForms.{term_there}

-- ---- loops over lists

pub each-all : {A : Type 0} (P : A → Type 0) (xs : List A) (i : ℕ) → length xs ≤ i → Each P (take i xs) → Each P xs
each-all P xs i l h = subst (Each P) (take_all i xs l) h

-- ---- weights, added up

-- the weight of the first i exponents
pub record Weighing (w : List ℕ) (x : Exponents) (i sum : ℕ) : Type 0 where
  pub value : sum + weight (drop i w) (drop i x) ≡ weight w x
  pub bound : sum ≤ i * 2 ^ 40

-- ---- marks

-- the monomial of the term is x, or lighter
abbrev pub IsWithin : List ℕ → Exponents → Term → Type 0
IsWithin w x t = (same t.mono x ≡ true) ⊎ lighter w t.mono x

pub realised_by_terms : (n : ℕ) (w : List ℕ) (b : MarkedPolynomial) → HasVariables n b.poly → HasMarkedTerm b →
    Each (IsWithin w b.head) b.poly → IsRealisedBy w b
realised_by_terms n w b v m h = record {
  there = term_there n b.poly (record { coef = m.mark; mono = b.head }) v m.descending m.term;
  tail = by_terms (λ x. (same x b.head ≡ true) ⊎ lighter w x b.head) b.poly along h;
}
  where
    along : (x y : Exponents) → same x y ≡ true → (same x b.head ≡ true) ⊎ lighter w x b.head →
        (same y b.head ≡ true) ⊎ lighter w y b.head
    along x y s (inl e) = inl (same_trans y x b.head (same_flip x y s) e)
    along x y s (inr l) = inr ((lighter-strict w).along_left x y b.head s l)

pub realisable_by_members : (n : ℕ) (w : List ℕ) (bs : List MarkedPolynomial) → IsPositive n w → Each (IsRealisedBy w) bs → IsRealisable n bs
realisable_by_members n w bs p h = (w, p, λ b c. contained_each (IsRealisedBy w) bs h b c)

pub weight_by_members : (n : ℕ) (w : List ℕ) (bs : List MarkedPolynomial) → IsPositive n w → Each (IsMarked (lighter w)) bs → HasPositiveWeight n bs
weight_by_members n w bs p h = (w, p, λ b c. contained_each (IsMarked (lighter w)) bs h b c)
