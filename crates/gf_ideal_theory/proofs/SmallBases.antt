-- The smallest bases: none for the zero ideal, and one marked polynomial for the ideal that it generates.
-- To cite: zero_ideal, principal_ideal.
use Rattle.std.proofs.Common.{◌≡◌, ◌⊎◌, ℕ, true, List, [], ◌∷◌, Contains, arith, sym, subst, inl, inr}
use Rattle.gf_exponents_theory.specs.Exponents.{same, plus}
use Rattle.gf_exponents_theory.specs.Orders.{lighter}
use Rattle.gf_exponents_theory.proofs.WeightLaws.{weight-plus, weight-same}
use Rattle.gf_poly.specs.Polynomial.{Terms, SamePolynomial}
use Rattle.gf_poly.specs.Marking.{MarkedPolynomial}
use Rattle.gf_ideal_theory.specs.Membership.{HasMonomial, IsInVariables, AreInVariables, Spans}
use Rattle.gf_ideal_theory.specs.Marks.{IsMarked, AreMarked, IsPositive}
use Rattle.gf_ideal_theory.specs.Bases.{HasReducedTails, IsReducedBasis}
use Rattle.gf_ideal_theory.specs.Settled.{ArePairsSettled}
use Rattle.gf_ideal_theory.specs.LawsOfBases.{SmallIdealsHaveBases}
use Rattle.gf_ideal_theory.proofs.ListLaws.{Contains-cases}
use Rattle.gf_ideal_theory.proofs.MembershipLaws.{spans_of_member}
use Rattle.gf_ideal_theory.proofs.InterreductionLaws.{reduced_by_weight}
use Rattle.gf_ideal_theory.proofs.BasisLaws.{basis_of_groebner}
use Rattle.gf_ideal_theory.proofs.LawsOfBasesHold.{buchbergers_criterion}

pub only : {A : Type 0} (x y : A) → Contains (x ∷ []) y → x ≡ y
only x y c = elim (Contains-cases x y [] c) [ inl e ↦ e | inr k ↦ absurd (omega (arith, k.1)) ]

-- the members of the zero ideal are zero
pub spans_nothing : (f : Terms) → Spans [] f → SamePolynomial f []
spans_nothing f (Spans.none k z) = z
spans_nothing f (Spans.more c u p k g j s q) = absurd (omega (arith, j.1))

-- the zero ideal has the empty basis
pub zero_ideal : (n : ℕ) (w : List ℕ) → IsPositive n w → IsReducedBasis n [] w []
zero_ideal n w p = record {
  positive = p;
  reduced = record {
    basis = record {
      members = λ b c. absurd (omega (arith, c.1));
      marked = λ b c. absurd (omega (arith, c.1));
      initial = λ f m x t. absurd (t.there (spans_nothing f (spans_of_member n [] f m) x));
    };
    tails = λ b c. absurd (omega (arith, c.1));
    heads = tt;
  };
}

-- a monic polynomial that a positive weight marks is the reduced basis of the ideal that it generates
pub principal_ideal : (n : ℕ) (w : List ℕ) (b : MarkedPolynomial) → IsPositive n w → IsInVariables n b.poly →
    IsMarked (lighter w) b → IsReducedBasis n (b.poly ∷ []) w (b ∷ [])
principal_ideal n w b p v m = reduced_by_weight n (b.poly ∷ []) (b ∷ []) w inside
    (basis_of_groebner n (b.poly ∷ []) (b ∷ []) w (buchbergers_criterion.for_weight n w (b ∷ []) inside p marked pairs)) p marked tails (tt, tt)
  where
    inside : AreInVariables n (b.poly ∷ [])
    inside f c = subst (λ (g : Terms). IsInVariables n g) (only b.poly f c) v

    marked : AreMarked (lighter w) (b ∷ [])
    marked d c = subst (λ (e : MarkedPolynomial). IsMarked (lighter w) e) (only b d c) m

    -- there are no two indices
    pairs : ArePairsSettled n (b ∷ []) (lighter w)
    pairs i j c d l h k = absurd (omega (arith, l, k.within))

    tails : HasReducedTails (b ∷ [])
    tails d c x k q = at (m.tail x (subst (λ (e : MarkedPolynomial). HasMonomial e.poly x) (sym (only b d c)) k))
      where
        mark : same x (plus q.rest b.head) ≡ true
        mark = subst (λ (e : MarkedPolynomial). same x (plus q.rest e.head) ≡ true) (sym (only b q.member q.contained)) q.divides

        at : (same x b.head ≡ true) ⊎ lighter w x b.head → same x d.head ≡ true
        at (inl s) = subst (λ (e : MarkedPolynomial). same x e.head ≡ true) (only b d c) s
        at (inr l) = absurd (omega (arith, l, weight-same w x (plus q.rest b.head) mark, weight-plus w q.rest b.head))

pub small_ideals_have_bases : SmallIdealsHaveBases
small_ideals_have_bases = record { zero_ideal = zero_ideal; principal_ideal = principal_ideal }
