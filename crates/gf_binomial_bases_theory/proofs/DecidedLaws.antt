-- With a basis, membership is decided: a polynomial is a sum of multiples of the members and an irreducible rest.
-- To cite: decided_by_basis.
use Rattle.std.proofs.Common.{◌⊎◌, ℕ, List, [], ◌++◌, Contains, sym, ap, ◌∙◌, inl, inr}
use Rattle.gf_frac.specs.Fraction.{◌+ℚ◌, neg_ℚ, one_ℚ}
use Rattle.gf_frac.proofs.FractionLaws.{zero-+ℚ}
use Rattle.gf_exponents_theory.specs.Exponents.{Exponents, IsInRing}
use Rattle.gf_poly.specs.Polynomial.{Terms, coefficient, SamePolynomial, times}
use Rattle.gf_poly.specs.Marking.{MarkedPolynomial}
use Rattle.gf_ideal_theory.specs.Membership.{IsInVariables, AreInVariables, IsMember, Spans}
use Rattle.gf_ideal_theory.specs.Marks.{Piece, value}
use Rattle.gf_ideal_theory.specs.Bases.{IsBasis, IsHeaviest}
use Rattle.gf_ideal_theory.proofs.ListLaws.{Each-weaker}
use Rattle.gf_ideal_theory.proofs.ListedTerms.{by_terms}
use Rattle.gf_ideal_theory.proofs.RingLaws.{ring-along}
use Rattle.gf_ideal_theory.proofs.SpanLaws.{Spans-equal, Spans-difference}
use Rattle.gf_ideal_theory.proofs.MembershipLaws.{variables_of_member, spans_of_member, member_of_spans}
use Rattle.gf_ideal_theory.proofs.PieceLaws.{spans_value}
use Rattle.gf_ideal_theory.proofs.StepLaws.{closed-ring, IsPieceIn}
use Rattle.gf_ideal_theory.proofs.DivisionLaws.{Divided, divided, irreducible_terms}
use Rattle.gf_ideal_theory.proofs.LeadingLaws.{top_heaviest}
use Rattle.gf_bases_theory.proofs.RemainderLaws.{taken}
use Rattle.gf_binomial_bases_theory.proofs.CongruenceLaws.{IsDecided}

pub decided_by_basis : (n : ℕ) (fs : List Terms) (bs : List MarkedPolynomial) → AreInVariables n fs → IsBasis n fs bs → IsDecided n fs
decided_by_basis n fs bs v b f w =
    at (divided bs b.marked.0 (IsInRing n) f b.marked.2 (closed-ring n (Contains bs) (λ c k. variables_of_member n fs c.poly v (b.members c k))) w)
  where
    at : Divided bs (IsInRing n) f → IsMember n fs f ⊎ (IsMember n fs f → ⊥)
    at q = by ((top_heaviest []).some q.remainder)
      where
        sum : Spans fs (value q.pieces)
        sum = spans_value fs (Contains bs) (λ c k. spans_of_member n fs c.poly (b.members c k)) q.pieces (Each-weaker (IsPieceIn (Contains bs) (IsInRing n))
            (λ (p : Piece). Contains bs p.of) (λ p k. k.member) q.pieces q.inside)

        in_ring : IsInVariables n q.remainder
        in_ring = by_terms (IsInRing n) q.remainder (ring-along n) q.kept

        rest : IsMember n fs f → IsMember n fs q.remainder
        rest m = member_of_spans n fs q.remainder v in_ring (Spans-equal fs (f ++ times (neg_ℚ one_ℚ) [] (value q.pieces)) q.remainder
            (λ e. sym (taken f (value q.pieces) q.remainder q.equal e))
            (Spans-difference fs f (value q.pieces) (spans_of_member n fs f m) sum))

        by : SamePolynomial q.remainder [] ⊎ ((x : Exponents) × IsHeaviest [] q.remainder x) → IsMember n fs f ⊎ (IsMember n fs f → ⊥)
        by (inl z) =
            inl (member_of_spans n fs f v w (Spans-equal fs (value q.pieces) f
            (λ e. sym (q.equal e ∙ ap (λ y. y +ℚ coefficient (value q.pieces) e) (z e) ∙ zero-+ℚ _)) sum))
        by (inr x) = inr (λ m. x.1.there (b.decides q.remainder (rest m) (irreducible_terms bs q.remainder q.irreducible) x.0))
