-- Lifts: what steps of a basis take from a member of the ideal of the parts, and that lifts decide membership by their marks.
-- To cite: further-flat, lift-taken, taken_exists, taken_member, part_ring, lifts_decide.
use Rattle.std.proofs.Common.{◌≡◌, ◌⊎◌, ℕ, List, [], ◌++◌, Contains, ℤ, pos, arith, refl, sym, ◌∙◌, inl, inr}
use Rattle.std.proofs.lemmas.Int.{ints}
use Rattle.gf_frac.specs.Fraction.{neg_ℚ, zero_ℚ, one_ℚ}
use Rattle.gf_frac.proofs.FractionLaws.{zero_or_not}
use Rattle.gf_exponents_theory.specs.Exponents.{Exponents, whole_weight}
use Rattle.gf_exponents_theory.proofs.WholeWeightLaws.{whole_weight-same}
use Rattle.gf_poly.specs.Polynomial.{Terms, coefficient, SamePolynomial, times}
use Rattle.gf_poly.specs.Marking.{MarkedPolynomial, polys}
use Rattle.gf_vec.specs.Vector.{dot}
use Rattle.gf_ideal_theory.specs.Membership.{HasMonomial, IsInVariables, AreInVariables, IsMember}
use Rattle.gf_ideal_theory.specs.Marks.{IsMarked, Piece, value}
use Rattle.gf_ideal_theory.specs.Reduction.{IsIrreducible, Reached}
use Rattle.gf_ideal_theory.specs.Bases.{IsBasis, IsGreatest}
use Rattle.gf_ideal_theory.proofs.ListLaws.{Each-weaker}
use Rattle.gf_ideal_theory.proofs.ListedTerms.{by_terms}
use Rattle.gf_ideal_theory.proofs.DivisionLaws.{Divided, divided, irreducible_terms}
use Rattle.gf_ideal_theory.proofs.MembershipLaws.{variables-++, variables-times, variables-equal, variables_of_member, spans_of_member, member_of_spans}
use Rattle.gf_ideal_theory.proofs.SpanLaws.{Spans-equal}
use Rattle.gf_ideal_theory.proofs.PieceLaws.{spans_value}
use Rattle.gf_ideal_theory.proofs.StepLaws.{IsClosed, IsPieceIn, AreTaken, taken}
use Rattle.gf_ideal_theory.proofs.LeadingLaws.{top_greatest}
use Rattle.gf_facets_theory.specs.Facets.{IsInClosedCone}
use Rattle.gf_facets_theory.specs.Beyond.{IsFurther}
use Rattle.gf_facets_theory.proofs.WholeLaws.{IsTilted, tilted-order, further-weight}
use Rattle.gf_bases_theory.proofs.DifferenceLaws.{difference, other_summand}
use Rattle.gf_initial_theory.specs.Parts.{Matching}
use Rattle.gf_initial_theory.proofs.PartLaws.{IsLevelPart, divisible_part, parts-variables, IsTopPart, IsUnder, closed-under, top_part}
use Rattle.gf_initial_theory.proofs.InitialLaws.{greatest-weight}

-- what is marked by `further along` has one weight
pub further-flat : (v a : List ℤ) (h : MarkedPolynomial) → dot a v ≡ pos 0 → IsMarked (IsFurther a) h → (x : Exponents) →
    HasMonomial h.poly x → whole_weight v x ≡ whole_weight v h.head
further-flat v a h o m x n = elim (m.tail x n) [ inl s ↦ whole_weight-same v x h.head s | inr f ↦ further-weight v a x h.head o f ]

-- ---- what is taken away

-- multiples of members, none of which weighs more than the mark of h, taken from h
abbrev pub AreTakenUnder : ℕ → List ℤ → List MarkedPolynomial → MarkedPolynomial → Terms → Type 0
AreTakenUnder n v bs h r = AreTaken (Contains bs) (IsUnder n v (whole_weight v h.head)) h.poly r

-- steps leave those monomials
closed-mark : (n : ℕ) (fs : List Terms) (bs : List MarkedPolynomial) (v : List ℤ) (h : MarkedPolynomial) → AreInVariables n fs →
    IsBasis n fs bs → IsInClosedCone v bs → IsClosed (Contains bs) (IsUnder n v (whole_weight v h.head))
closed-mark n fs bs v h vars basis k = closed-under n bs v (whole_weight v h.head) k (λ b c. variables_of_member n fs b.poly vars (basis.members b c))

-- which h has
within-mark : (n : ℕ) (v a : List ℤ) (h : MarkedPolynomial) → dot a v ≡ pos 0 → IsInVariables n h.poly → IsMarked (IsFurther a) h →
    (x : Exponents) → HasMonomial h.poly x → IsUnder n v (whole_weight v h.head) x
within-mark n v a h o ring mark x m = (omega (arith, ints, further-flat v a h o mark x m), ring x m)

-- steps by a basis take such multiples
pub lift-taken : (n : ℕ) (fs : List Terms) (bs : List MarkedPolynomial) (v a : List ℤ) (h : MarkedPolynomial) (r : Terms) →
    AreInVariables n fs → IsBasis n fs bs → IsInClosedCone v bs → dot a v ≡ pos 0 → IsInVariables n h.poly →
    IsMarked (IsFurther a) h → Reached (Contains bs) h.poly r → AreTakenUnder n v bs h r
lift-taken n fs bs v a h r vars basis k o ring mark reached =
    taken (Contains bs) (IsUnder n v (whole_weight v h.head)) h.poly r (closed-mark n fs bs v h vars basis k) (within-mark n v a h o ring mark) reached

-- and there is a remainder that they leave
pub taken_exists : (n : ℕ) (fs : List Terms) (bs : List MarkedPolynomial) (v a : List ℤ) (h : MarkedPolynomial) → AreInVariables n fs →
    IsBasis n fs bs → IsInClosedCone v bs → dot a v ≡ pos 0 → IsInVariables n h.poly → IsMarked (IsFurther a) h →
    (r : Terms) × AreTakenUnder n v bs h r × IsIrreducible (Contains bs) r
taken_exists n fs bs v a h vars basis k o ring mark =
    at (divided bs basis.marked.0 (IsUnder n v (whole_weight v h.head)) h.poly basis.marked.2 closed (within-mark n v a h o ring mark))
  where
    closed : IsClosed (Contains bs) (IsUnder n v (whole_weight v h.head))
    closed = closed-mark n fs bs v h vars basis k

    at : Divided bs (IsUnder n v (whole_weight v h.head)) h.poly → (r : Terms) × AreTakenUnder n v bs h r × IsIrreducible (Contains bs) r
    at q = (
      q.remainder,
      record { pieces = q.pieces; inside = q.inside; equal = q.equal; within = by_terms (IsUnder n v (whole_weight v h.head)) q.remainder closed.along q.kept },
      irreducible_terms bs q.remainder q.irreducible,
    )

-- h less what they leave is a member of the ideal
pub taken_member : (n : ℕ) (fs : List Terms) (bs : List MarkedPolynomial) (v : List ℤ) (h l : MarkedPolynomial) (r : Terms) →
    AreInVariables n fs → IsBasis n fs bs → IsInVariables n h.poly → AreTakenUnder n v bs h r →
    SamePolynomial l.poly (h.poly ++ times (neg_ℚ one_ℚ) [] r) → IsMember n fs l.poly
taken_member n fs bs v h l r vars basis ring w poly =
    member_of_spans n fs l.poly vars in_variables
    (Spans-equal fs (value w.pieces) l.poly (λ x. sym (poly x ∙ difference h.poly r x ∙ other_summand (coefficient r x) (coefficient (value w.pieces) x)
    (coefficient h.poly x) (w.equal x)))
    (spans_value fs (Contains bs) (λ b c. spans_of_member n fs b.poly (basis.members b c)) w.pieces
    (Each-weaker (IsPieceIn (Contains bs) (IsUnder n v (whole_weight v h.head))) (λ (p : Piece). Contains bs p.of) (λ p q. q.member) w.pieces w.inside)))
  where
    in_variables : IsInVariables n l.poly
    in_variables = variables-equal n (h.poly ++ times (neg_ℚ one_ℚ) [] r) l.poly (λ x. sym (poly x))
        (variables-++ n h.poly (times (neg_ℚ one_ℚ) [] r) ring
        (variables-times n (neg_ℚ one_ℚ) [] r (λ i l. refl) (λ x m. (w.within x m).1)))

-- the members of the ideal of the parts are in the ring
pub part_ring : (n : ℕ) (fs : List Terms) (bs ps : List MarkedPolynomial) (v : List ℤ) (f : Terms) → AreInVariables n fs →
    IsBasis n fs bs → Matching (IsLevelPart v) bs ps → IsMember n (polys ps) f → IsInVariables n f
part_ring n fs bs ps v f vars basis match mem =
    variables_of_member n (polys ps) f (parts-variables n bs ps v (λ b c. variables_of_member n fs b.poly vars (basis.members b c)) match) mem

-- ---- the marks decide

-- a member of the ideal that the marks of the lifts don't divide is zero
pub lifts_decide : (R : MarkedPolynomial → MarkedPolynomial → Type 0) → ((h l : MarkedPolynomial) → R h l → l.head ≡ h.head) →
    (n : ℕ) (fs : List Terms) (bs ps hs ls : List MarkedPolynomial) (v : List ℤ) (f : Terms) →
    AreInVariables n fs → IsBasis n fs bs → IsInClosedCone v bs → Matching (IsLevelPart v) bs ps →
    IsBasis n (polys ps) hs → Matching R hs ls → IsMember n fs f → IsIrreducible (Contains ls) f → SamePolynomial f []
lifts_decide R heads n fs bs ps hs ls v f vars basis k match parts lifts m i = at ((top_greatest (IsTilted v []) (tilted-order v [])).some f)
  where
    at : SamePolynomial f [] ⊎ ((x : Exponents) × IsGreatest (IsTilted v []) f x) → SamePolynomial f []
    at (inl z) = z
    at (inr t) = absurd (t.1.there (sym (r.level t.0 refl) ∙ parts.decides r.poly r.member irreducible t.0))
      where
        r : IsTopPart n (polys ps) v (whole_weight v t.0) f
        r = top_part n fs bs ps v (whole_weight v t.0) f vars basis k match m (λ y c. greatest-weight v [] f t.0 y t.1 c)

        irreducible : IsIrreducible (Contains hs) r.poly
        irreducible y c d = i y (λ z. c (whole y z)) (divisible_part R hs ls y heads lifts d)
          where
            whole : (y : Exponents) → coefficient f y ≡ zero_ℚ → coefficient r.poly y ≡ zero_ℚ
            whole y z = elim (zero_or_not (coefficient r.poly y)) [ inl q ↦ q | inr q ↦ absurd (q (r.off y (λ e. q (r.level y e ∙ z)))) ]
