-- Remainders of members of an ideal, and monic forms.
-- To cite: remainder (a member is an irreducible member and multiples, none of which leaves a set that steps don't
-- leave), monic, monic_is, monic-marked.
use Rattle.std.proofs.Common.{◌≡◌, ℕ, List, [], ◌++◌, Contains, sym, ap, ◌∙◌}
use Rattle.gf_frac.specs.Fraction.{reciprocal_ℚ, ◌+ℚ◌, ◌*ℚ◌, neg_ℚ, one_ℚ}
use Rattle.gf_frac.proofs.FractionLaws.{*ℚ_assoc, *ℚ-reciprocal_ℚ, one-*ℚ}
use Rattle.gf_exponents_theory.specs.Exponents.{Exponents, IsInRing}
use Rattle.gf_exponents_theory.specs.Orders.{lighter}
use Rattle.gf_poly.specs.declared.Term.{Term}
use Rattle.gf_poly.specs.Polynomial.{Terms, coefficient, times}
use Rattle.gf_poly.specs.Marking.{MarkedPolynomial, Each}
use Rattle.gf_poly.proofs.PolynomialLaws.{coefficient-++, coefficient-times, coefficient-factor, times-plain}
use Rattle.gf_ideal_theory.specs.Membership.{HasMonomial, IsInVariables, AreInVariables, IsMember, Spans}
use Rattle.gf_ideal_theory.specs.Marks.{Piece, value, IsMarked, AreMarked}
use Rattle.gf_ideal_theory.specs.Reduction.{IsIrreducible, IsMonicForm}
use Rattle.gf_ideal_theory.specs.Bases.{AreMembers, IsGreatest}
use Rattle.gf_ideal_theory.proofs.Identities.{away}
use Rattle.gf_ideal_theory.proofs.ListLaws.{Each-weaker}
use Rattle.gf_ideal_theory.proofs.ListedTerms.{by_terms}
use Rattle.gf_ideal_theory.proofs.RingLaws.{ring-along}
use Rattle.gf_ideal_theory.proofs.SpanLaws.{Spans-equal, Spans-difference}
use Rattle.gf_ideal_theory.proofs.MembershipLaws.{variables_of_member, spans_of_member, member_of_spans}
use Rattle.gf_ideal_theory.proofs.PieceLaws.{spans_value}
use Rattle.gf_ideal_theory.proofs.StepLaws.{IsClosed, closed-ring, closed-both, IsPieceIn, IsWithin, monic-one, monic-monomials}
use Rattle.gf_ideal_theory.proofs.DivisionLaws.{Divided, divided, irreducible_terms}

-- ---- what was taken away

-- f less g, where g is what was added
pub taken : (f g rest : Terms) → ((e : Exponents) → coefficient f e ≡ coefficient rest e +ℚ coefficient g e) →
    (e : Exponents) → coefficient rest e ≡ coefficient (f ++ times (neg_ℚ one_ℚ) [] g) e
taken f g rest h e =
    away (coefficient f e) (coefficient rest e) one_ℚ (coefficient g e) (h e ∙ ap (λ z. coefficient rest e +ℚ z) (sym (one-*ℚ _)))
    ∙ ap (λ z. coefficient f e +ℚ z) (sym (coefficient-factor (neg_ℚ one_ℚ) [] g e ∙ ap (λ g. neg_ℚ one_ℚ *ℚ coefficient g e) (times-plain g)))
    ∙ sym (coefficient-++ f (times (neg_ℚ one_ℚ) [] g) e)

-- ---- remainders

-- f is an irreducible member and multiples of the list's members, all inside B
pub record HasRemainder (n : ℕ) (fs : List Terms) (bs : List MarkedPolynomial) (B : Exponents → Type 0) (f : Terms) : Type 0 where
  pub rest : Terms
  pub member : IsMember n fs rest
  pub within : IsWithin B rest
  pub irreducible : IsIrreducible (Contains bs) rest
  pub pieces : List Piece
  pub inside : Each (IsPieceIn (Contains bs) B) pieces
  pub equal : (e : Exponents) → coefficient f e ≡ coefficient rest e +ℚ coefficient (value pieces) e

pub remainder : (n : ℕ) (fs : List Terms) (bs : List MarkedPolynomial) (w : List ℕ) (B : Exponents → Type 0) (f : Terms) →
    AreInVariables n fs → AreMembers n fs bs → AreMarked (lighter w) bs → IsClosed (Contains bs) B → IsMember n fs f →
    IsWithin B f → HasRemainder n fs bs B f
remainder n fs bs w B f v inside m d mem h =
    at (divided bs w C f m (closed-both (Contains bs) B (IsInRing n) d (closed-ring n (Contains bs) (λ c k. variables_of_member n fs c.poly v (inside c k))))
    (λ x k. (h x k, variables_of_member n fs f v mem x k)))
  where
    C : Exponents → Type 0
    C x = B x × IsInRing n x

    at : Divided bs C f → HasRemainder n fs bs B f
    at q = record {
      rest = q.remainder;
      member = member_of_spans n fs q.remainder v in_ring spanned;
      within = by_terms B q.remainder d.along (Each-weaker (λ (t : Term). C t.mono) (λ (t : Term). B t.mono) (λ t k. k.0) q.remainder q.kept);
      irreducible = irreducible_terms bs q.remainder q.irreducible;
      pieces = q.pieces;
      inside = Each-weaker (IsPieceIn (Contains bs) C) (IsPieceIn (Contains bs) B) (λ p k. record { member = k.member; inside = k.inside.0 }) q.pieces q.inside;
      equal = q.equal;
    }
      where
        spanned : Spans fs q.remainder
        spanned = Spans-equal fs (f ++ times (neg_ℚ one_ℚ) [] (value q.pieces)) q.remainder (λ e. sym (taken f (value q.pieces) q.remainder q.equal e))
            (Spans-difference fs f (value q.pieces) (spans_of_member n fs f mem)
            (spans_value fs (Contains bs) (λ c k. spans_of_member n fs c.poly (inside c k)) q.pieces
            (Each-weaker (IsPieceIn (Contains bs) C) (λ (p : Piece). Contains bs p.of) (λ p k. k.member) q.pieces q.inside)))

        in_ring : IsInVariables n q.remainder
        in_ring = by_terms (IsInRing n) q.remainder (ring-along n) (Each-weaker (λ (t : Term). C t.mono) (λ (t : Term). IsInRing n t.mono) (λ t k. k.1)
            q.remainder q.kept)

-- ---- monic forms

-- f divided by its coefficient at x, and marked there
abbrev pub monic : Terms → Exponents → MarkedPolynomial
monic f x = record { poly = times (reciprocal_ℚ (coefficient f x)) [] f; head = x }

pub monic_is : (f : Terms) (x : Exponents) → HasMonomial f x → IsMonicForm f (monic f x)
monic_is f x h = record {
  there = h;
  equation = λ y. ap (λ z. coefficient f x *ℚ z) (coefficient-times (reciprocal_ℚ (coefficient f x)) [] f y) ∙
      sym (*ℚ_assoc (coefficient f x) (reciprocal_ℚ (coefficient f x)) (coefficient f y)) ∙ ap (λ z. z *ℚ coefficient f y)
      (*ℚ-reciprocal_ℚ (coefficient f x) h) ∙
      one-*ℚ _;
}

-- at its greatest monomial
pub monic-marked : (below : Exponents → Exponents → Type 0) (f : Terms) (x : Exponents) → IsGreatest below f x →
    IsMarked below (monic f x)
monic-marked below f x t = record {
  monic = monic-one f (monic f x) (monic_is f x t.there);
  tail = λ y m. t.greatest y (monic-monomials f (monic f x) (monic_is f x t.there) y m);
}
