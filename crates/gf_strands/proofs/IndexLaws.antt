-- Members at indices: one that is put in, and lists with the same marks.
-- To cite: at_index, set_cases, put_same, put_other, divisible_along.
use Rattle.std.proofs.Common.{◌≡◌, ◌⊎◌, ℕ, ◌<◌, true, List, length, get_or, set, Contains, arith, sym, ap, ◌∙◌, subst, inl, inr}
use Rattle.std.proofs.lemmas.Bool.{cases_eq}
use Rattle.std.proofs.lemmas.List.{get_or_default, get_or-set_same, get_or-set_other, length-set}
use Rattle.gf_exponents_theory.specs.Exponents.{Exponents, same, plus}
use Rattle.gf_poly.specs.Marking.{MarkedPolynomial}
use Rattle.gf_ideal_theory.specs.Reduction.{IsDivisible}
use Rattle.gf_ideal_theory.specs.Settled.{IsAt}
use Rattle.gf_division.proofs.ReducerLaws.{member_contained}

pub at_index : (bs : List MarkedPolynomial) (i : ℕ) (d : MarkedPolynomial) → i < length bs → IsAt bs i (get_or bs i d)
at_index bs i d l = record { within = l; is = get_or_default bs i (get_or bs i d) d l }

-- a member is that one or one as before
pub set_cases : (bs : List MarkedPolynomial) (i : ℕ) (c d : MarkedPolynomial) → Contains (set bs i c) d → (c ≡ d) ⊎ Contains bs d
set_cases bs i c d k = at (cases_eq k.0 i)
  where
    inside : k.0 < length bs
    inside = omega (arith, k.1, length-set bs i c)

    at : (k.0 ≡ i) ⊎ (k.0 ≡ i → ⊥) → (c ≡ d) ⊎ Contains bs d
    at (inl e) = inl (sym (get_or-set_same bs i c d (omega (arith, inside, e))) ∙ ap (λ (z : ℕ). get_or (set bs i c) z d) (sym e) ∙ k.2)
    at (inr n) = inr (k.0, inside, sym (get_or-set_other bs i k.0 c d n) ∙ k.2)

-- at its index, and at another
pub put_same : (bs : List MarkedPolynomial) (i j : ℕ) (c d : MarkedPolynomial) → i < length bs → j ≡ i → IsAt (set bs i c) j d → c ≡ d
put_same bs i j c d l e a = sym (get_or-set_same bs i c d l) ∙ ap (λ (z : ℕ). get_or (set bs i c) z d) (sym e) ∙ a.is

pub put_other : (bs : List MarkedPolynomial) (i j : ℕ) (c d : MarkedPolynomial) → (j ≡ i → ⊥) → IsAt (set bs i c) j d → IsAt bs j d
put_other bs i j c d n a = record { within = omega (arith, a.within, length-set bs i c); is = sym (get_or-set_other bs i j c d n) ∙ a.is }

-- what a mark of the one list divides, one of another with the same marks does
pub divisible_along : (ls ms : List MarkedPolynomial) → length ms ≡ length ls → ((j : ℕ) (b c : MarkedPolynomial) → IsAt ls j b → IsAt ms j c →
    c.head ≡ b.head) → (x : Exponents) → IsDivisible (Contains ls) x → IsDivisible (Contains ms) x
divisible_along ls ms e h x d =
    let j = d.contained.0 in
    let p : IsAt ls j d.member = record { within = d.contained.1; is = d.contained.2 } in
    let q : IsAt ms j (get_or ms j d.member) = at_index ms j d.member (omega (arith, d.contained.1, e)) in
    record {
      member = get_or ms j d.member;
      contained = member_contained ms j (get_or ms j d.member) q;
      rest = d.rest;
      divides = subst (λ (z : Exponents). same x (plus d.rest z) ≡ true) (sym (h j d.member (get_or ms j d.member) p q)) d.divides;
    }
