-- What a basis gives: a member is a sum of multiples that stay where it is, so that a mark divides its leading monomials
-- by each weight and each order that gives the marks; and each pair is settled.
-- To cite: member_pieces, basis_heaviest, basis_greatest, settled_of_basis, remainder_zero, basis_by_pairs,
-- groebner_by_weight, groebner_by_order, basis_of_groebner, basis_of_groebner_for, basis_along (the same ideal).
use Rattle.std.proofs.Common.{◌≡◌, ◌⊎◌, ◌≢◌, ℕ, ◌≤◌, true, false, List, [], ◌∷◌, ◌++◌, Contains, arith, refl, sym, ap, ◌∙◌, inl, inr}
use Rattle.gf_frac.specs.Fraction.{Fraction, ◌+ℚ◌, ◌*ℚ◌, neg_ℚ, zero_ℚ, one_ℚ}
use Rattle.gf_frac.proofs.FractionLaws.{zero-+ℚ, one-*ℚ}
use Rattle.gf_exponents_theory.specs.Exponents.{Exponents, plus, same, join, minus, weight, IsInRing}
use Rattle.gf_exponents_theory.specs.Orders.{lighter, IsStrict, IsMonomialOrder}
use Rattle.gf_exponents_theory.proofs.ExponentsLaws.{same-refl, same_flip, same_shift, same_trans, minus_left, minus_right}
use Rattle.gf_exponents_theory.proofs.WeightLaws.{weight-same}
use Rattle.gf_exponents_theory.proofs.OrderLaws.{lighter-strict}
use Rattle.gf_poly.specs.declared.Term.{Term}
use Rattle.gf_poly.specs.Polynomial.{Terms, coefficient, SamePolynomial, times}
use Rattle.gf_poly.specs.Marking.{MarkedPolynomial, Each}
use Rattle.gf_poly.proofs.PolynomialLaws.{coefficient-++, coefficient-factor, times-plain}
use Rattle.gf_ideal_theory.specs.Membership.{IsInVariables, AreInVariables, IsMember, AreSameIdeal, Spans}
use Rattle.gf_ideal_theory.specs.Marks.{Piece, level, value, IsMarked, AreMarked, IsPositive, HasPositiveWeight, IsCombined}
use Rattle.gf_ideal_theory.specs.Reduction.{IsDivisible, IsIrreducible, Reached, IsSPolynomial}
use Rattle.gf_ideal_theory.specs.Bases.{AreMembers, IsBasis, IsHeaviest, IsGreatest, IsGroebnerBasisBy, IsGroebnerBasis, IsGroebnerBasisFor}
use Rattle.gf_ideal_theory.specs.Settled.{IsPieceBelow, IsSettledEverywhere, IsSettledAtJoin}
use Rattle.gf_ideal_theory.proofs.Identities.{away, taken_over, neg_one}
use Rattle.gf_ideal_theory.proofs.ListLaws.{Each-weaker}
use Rattle.gf_ideal_theory.proofs.TermLaws.{nothing_there}
use Rattle.gf_ideal_theory.proofs.ListedTerms.{by_terms}
use Rattle.gf_ideal_theory.proofs.RingLaws.{ring-along}
use Rattle.gf_ideal_theory.proofs.SpanLaws.{Spans-equal, Spans-difference}
use Rattle.gf_ideal_theory.proofs.MembershipLaws.{variables_of_member, spans_of_member, member_of_spans}
use Rattle.gf_ideal_theory.proofs.PieceLaws.{Found, NoneAt, find, spans_value}
use Rattle.gf_ideal_theory.proofs.StepLaws.{IsClosed, closed_downward, closed-below, closed-up_to, closed-ring, closed-both, IsPieceIn, IsWithin, IsUpTo}
use Rattle.gf_ideal_theory.proofs.StepLaws.{member-reached, member-s_polynomial}
use Rattle.gf_ideal_theory.proofs.MarkWeights.{mark-there}
use Rattle.gf_ideal_theory.proofs.CriterionLaws.{irreducible_zero}
use Rattle.gf_ideal_theory.proofs.ReductionLaws.{s_polynomial-within}
use Rattle.gf_ideal_theory.proofs.DivisionLaws.{Divided, divided, irreducible_terms}
use Rattle.gf_ideal_theory.proofs.LeadingLaws.{IsTop, top_heaviest, top_greatest}

-- ---- remainders

-- an irreducible polynomial that a member reaches is zero
pub remainder_zero : (n : ℕ) (fs : List Terms) (bs : List MarkedPolynomial) (f r : Terms) → AreInVariables n fs →
    IsBasis n fs bs → IsMember n fs f → Reached (Contains bs) f r → IsIrreducible (Contains bs) r →
    SamePolynomial r []
remainder_zero n fs bs f r v b m s i = b.decides r (member-reached n fs (Contains bs) f r v b.members s m) i

-- ---- no piece passes y: a term at y is a mark
pub record IsPieceNotPast (by : MarkedPolynomial → Type 0) (below : Exponents → Exponents → Type 0) (y : Exponents) (p : Piece) : Type 0 where
  pub member : by p.of
  pub not_past : below y (level p) → ⊥

off_top : (below : Exponents → Exponents → Type 0) (c : Fraction) (u y : Exponents) (b : MarkedPolynomial) →
    IsStrict below → IsMarked below b → (below y (plus u b.head) → ⊥) → same y (plus u b.head) ≡ false →
    coefficient (times c u b.poly) y ≡ zero_ℚ
off_top below c u y b o m le n = nothing_there c u b.poly y (λ z k q. at z (m.tail z k) q)
  where
    at : (z : Exponents) → (same z b.head ≡ true) ⊎ below z b.head → same y (plus u z) ≡ true → ⊥
    at z (inl s) q = let e : same y (plus u b.head) ≡ true = same_trans y (plus u z) (plus u b.head) q (same_shift u z b.head s) in absurd (cc)
    at z (inr l) q = le (o.along_left (plus u z) y (plus u b.head) (same_flip y (plus u z) q) (o.invariant u z b.head l))

nothing_on_top : (by : MarkedPolynomial → Type 0) (below : Exponents → Exponents → Type 0) (y : Exponents) (ps : List Piece) →
    IsStrict below → ((b : MarkedPolynomial) → by b → IsMarked below b) → Each (IsPieceNotPast by below y) ps →
    NoneAt y ps → coefficient (value ps) y ≡ zero_ℚ
nothing_on_top by below y [] o m h n = refl
nothing_on_top by below y (p ∷ ps) o m h n =
    coefficient-++ (times p.factor p.shift p.of.poly) (value ps) y
    ∙ ap (λ z. z +ℚ coefficient (value ps) y) (off_top below p.factor p.shift y p.of o (m p.of h.0.member) h.0.not_past n.0)
    ∙ zero-+ℚ _ ∙ nothing_on_top by below y ps o m h.1 n.1

-- a term at a monomial that no piece passes stands at the mark of one
pub divisible_on_top : (by : MarkedPolynomial → Type 0) (below : Exponents → Exponents → Type 0) (y : Exponents) (ps : List Piece) →
    IsStrict below → ((b : MarkedPolynomial) → by b → IsMarked below b) → Each (IsPieceNotPast by below y) ps →
    coefficient (value ps) y ≢ zero_ℚ → IsDivisible by y
divisible_on_top by below y ps o m h n = at (find (IsPieceNotPast by below y) y ps h)
  where
    at : Found (IsPieceNotPast by below y) y ps ⊎ NoneAt y ps → IsDivisible by y
    at (inl f) = record { member = f.piece.of; contained = f.holds.member; rest = f.piece.shift; divides = f.like }
    at (inr z) = absurd (n (nothing_on_top by below y ps o m h z))

-- ---- a member is a sum of multiples that stay where it is

-- a member is a sum of multiples inside any set that it is in and that steps don't leave
pub member_pieces : (n : ℕ) (fs : List Terms) (bs : List MarkedPolynomial) (B : Exponents → Type 0) (f : Terms) →
    AreInVariables n fs → IsBasis n fs bs → IsClosed (Contains bs) B → IsMember n fs f → IsWithin B f →
    (ps : List Piece) × Each (IsPieceIn (Contains bs) B) ps × SamePolynomial f (value ps)
member_pieces n fs bs B f v b d mem h =
    at (divided bs b.marked.0 C f b.marked.2 (closed-both (Contains bs) B (IsInRing n) d
    (closed-ring n (Contains bs) (λ c k. variables_of_member n fs c.poly v (b.members c k)))) (λ x m. (h x m, variables_of_member n fs f v mem x m)))
  where
    C : Exponents → Type 0
    C x = B x × IsInRing n x

    at : Divided bs C f → (ps : List Piece) × Each (IsPieceIn (Contains bs) B) ps × SamePolynomial f (value ps)
    at q = (
      q.pieces,
      Each-weaker (IsPieceIn (Contains bs) C) (IsPieceIn (Contains bs) B) (λ p k. record { member = k.member; inside = k.inside.0 }) q.pieces q.inside,
      λ e. q.equal e ∙ ap (λ z. z +ℚ coefficient (value q.pieces) e) (zero e) ∙ zero-+ℚ _,
    )
      where
        taken : (e : Exponents) →
            coefficient q.remainder e ≡ coefficient (f ++ times (neg_ℚ one_ℚ) [] (value q.pieces)) e
        taken e =
            away (coefficient f e) (coefficient q.remainder e) one_ℚ (coefficient (value q.pieces) e)
            (q.equal e ∙ ap (λ z. coefficient q.remainder e +ℚ z) (sym (one-*ℚ _)))
            ∙ ap (λ z. coefficient f e +ℚ z) (sym (coefficient-factor (neg_ℚ one_ℚ) [] (value q.pieces) e ∙ ap (λ g. neg_ℚ one_ℚ *ℚ coefficient g e)
            (times-plain (value q.pieces))))
            ∙ sym (coefficient-++ f (times (neg_ℚ one_ℚ) [] (value q.pieces)) e)

        spanned : Spans fs q.remainder
        spanned = Spans-equal fs (f ++ times (neg_ℚ one_ℚ) [] (value q.pieces)) q.remainder (λ e. sym (taken e))
            (Spans-difference fs f (value q.pieces) (spans_of_member n fs f mem)
            (spans_value fs (Contains bs) (λ c k. spans_of_member n fs c.poly (b.members c k)) q.pieces
            (Each-weaker (IsPieceIn (Contains bs) C) (λ (p : Piece). Contains bs p.of) (λ p k. k.member) q.pieces q.inside)))

        in_ring : IsInVariables n q.remainder
        in_ring = by_terms (IsInRing n) q.remainder (ring-along n) (Each-weaker (λ (t : Term). C t.mono) (λ (t : Term). IsInRing n t.mono) (λ t k. k.1)
            q.remainder q.kept)

        zero : SamePolynomial q.remainder []
        zero = b.decides q.remainder (member_of_spans n fs q.remainder v in_ring spanned) (irreducible_terms bs q.remainder q.irreducible)

-- ---- leading monomials

-- by each weight that gives the marks
pub basis_heaviest : (n : ℕ) (fs : List Terms) (bs : List MarkedPolynomial) (w : List ℕ) (f : Terms) (x : Exponents) →
    AreInVariables n fs → IsBasis n fs bs → AreMarked (lighter w) bs → IsMember n fs f → IsHeaviest w f x →
    IsDivisible (Contains bs) x
basis_heaviest n fs bs w f x v b m mem t =
    at (member_pieces n fs bs (λ y. weight w y ≤ weight w x) f v b
    (closed_downward (Contains bs) (lighter w) (λ y. weight w y ≤ weight w x) (lighter-strict w) m (λ y z s h. omega (arith, weight-same w y z s))
    (λ y z l h. omega arith)) mem (λ e k. t.heaviest e k))
  where
    at : ((ps : List Piece) × Each (IsPieceIn (Contains bs) (λ y. weight w y ≤ weight w x)) ps × SamePolynomial f (value ps)) →
        IsDivisible (Contains bs) x
    at r = divisible_on_top (Contains bs) (lighter w) x r.0 (lighter-strict w) m
        (Each-weaker (IsPieceIn (Contains bs) (λ y. weight w y ≤ weight w x)) (IsPieceNotPast (Contains bs) (lighter w) x)
        (λ p q. record { member = q.member; not_past = λ l. absurd (omega (arith, q.inside)) }) r.0 r.1)
        (λ z. t.there (r.2 x ∙ z))

-- by each order that gives the marks
pub basis_greatest : (n : ℕ) (fs : List Terms) (bs : List MarkedPolynomial) (below : Exponents → Exponents → Type 0) (f : Terms) (x : Exponents) →
    AreInVariables n fs → IsBasis n fs bs → IsStrict below → AreMarked below bs → IsMember n fs f →
    IsGreatest below f x → IsDivisible (Contains bs) x
basis_greatest n fs bs below f x v b o m mem t =
    at (member_pieces n fs bs (IsUpTo below x) f v b (closed-up_to (Contains bs) below x o m) mem (λ e k. t.greatest e k))
  where
    not_past : (y : Exponents) → IsUpTo below x y → below x y → ⊥
    not_past y (inl q) l = o.irreflexive x y (same_flip y x q) l
    not_past y (inr k) l = o.irreflexive x x (same-refl x) (o.transitive x y x l k)

    at : ((ps : List Piece) × Each (IsPieceIn (Contains bs) (IsUpTo below x)) ps × SamePolynomial f (value ps)) →
        IsDivisible (Contains bs) x
    at r = divisible_on_top (Contains bs) below x r.0 o m
        (Each-weaker (IsPieceIn (Contains bs) (IsUpTo below x)) (IsPieceNotPast (Contains bs) below x)
        (λ p q. record { member = q.member; not_past = λ l. not_past (level p) q.inside l }) r.0 r.1)
        (λ z. t.there (r.2 x ∙ z))

-- ---- the pairs of a basis are settled

-- the S-polynomial of two members is a sum of multiples below the least common multiple of the marks
pub settled_of_basis : (n : ℕ) (fs : List Terms) (bs : List MarkedPolynomial) (below : Exponents → Exponents → Type 0) (b c : MarkedPolynomial) →
    AreInVariables n fs → IsBasis n fs bs → IsStrict below → AreMarked below bs → Contains bs b → Contains bs c →
    IsSettledAtJoin (Contains bs) below b c
settled_of_basis n fs bs below b c v basis o m hb hc =
    at (member_pieces n fs bs (λ x. below x (join b.head c.head)) s v basis (closed-below (Contains bs) below (join b.head c.head) o m)
    (member-s_polynomial n fs b c s v (mark-there below b (m b hb)) (mark-there below c (m c hc)) (basis.members b hb) (basis.members c hc) is_s)
    (s_polynomial-within below b c s o (m b hb) (m c hc) is_s))
  where
    u : Exponents
    u = minus (join b.head c.head) b.head

    x : Exponents
    x = minus (join b.head c.head) c.head

    s : Terms
    s = times one_ℚ u b.poly ++ times (neg_ℚ one_ℚ) x c.poly

    is_s : IsSPolynomial b c s
    is_s = record { left = u; right = x; of_left = minus_left b.head c.head; of_right = minus_right b.head c.head; equal = λ e. refl }

    parts : (e : Exponents) →
        coefficient s e ≡ coefficient (times one_ℚ u b.poly) e +ℚ neg_ℚ (coefficient (times one_ℚ x c.poly) e)
    parts e = coefficient-++ (times one_ℚ u b.poly) (times (neg_ℚ one_ℚ) x c.poly) e ∙
        ap (λ z. coefficient (times one_ℚ u b.poly) e +ℚ z) (coefficient-factor (neg_ℚ one_ℚ) x c.poly e ∙ neg_one _)

    at : ((ps : List Piece) × Each (IsPieceIn (Contains bs) (λ y. below y (join b.head c.head))) ps × SamePolynomial s (value ps)) →
        IsSettledAtJoin (Contains bs) below b c
    at r = record {
      left = u;
      right = x;
      of_left = minus_left b.head c.head;
      of_right = minus_right b.head c.head;
      bridge = record {
        pieces = r.0;
        lower = Each-weaker (IsPieceIn (Contains bs) (λ y. below y (join b.head c.head))) (IsPieceBelow (Contains bs) below (plus u b.head))
            (λ p q. record {
              member = q.member;
              lower = o.along_right (level p) (join b.head c.head) (plus u b.head) (same_flip (plus u b.head) (join b.head c.head) (minus_left b.head c.head))
                  q.inside;
            }) r.0 r.1;
        equation = λ e. taken_over _ _ _ _ (parts e) (r.2 e);
      };
    }

-- ---- what gives a basis

-- all pairs are settled by one weight
pub basis_by_pairs : (n : ℕ) (fs : List Terms) (bs : List MarkedPolynomial) (m : HasPositiveWeight n bs) →
    AreMembers n fs bs → ((f : Terms) → IsMember n fs f → IsCombined (Contains bs) f) →
    ((b c : MarkedPolynomial) → Contains bs b → Contains bs c → IsSettledEverywhere (Contains bs) (lighter m.0) b c) →
    IsBasis n fs bs
basis_by_pairs n fs bs m inside all s = record { members = inside; marked = m; decides = λ f h i. irreducible_zero (Contains bs) m.0 f m.2 s (all f h) i }

-- the basis of an ideal, whatever list generates it
pub basis_along : (n : ℕ) (fs gs : List Terms) (bs : List MarkedPolynomial) → AreSameIdeal n fs gs → IsBasis n fs bs →
    IsBasis n gs bs
basis_along n fs gs bs s b = record { members = λ c k. s.inside c.poly (b.members c k); marked = b.marked; decides = λ f m i. b.decides f (s.back f m) i }

-- ---- Gröbner bases

-- by a positive weight that gives the marks
pub groebner_by_weight : (n : ℕ) (fs : List Terms) (bs : List MarkedPolynomial) (w : List ℕ) → AreInVariables n fs →
    IsBasis n fs bs → IsPositive n w → AreMarked (lighter w) bs → IsGroebnerBasis n fs w bs
groebner_by_weight n fs bs w v b p m = record {
  positive = p;
  basis = record { members = b.members; marked = m; initial = λ f k x y. basis_heaviest n fs bs w f x v b m k y };
}

-- by an order that gives the marks
pub groebner_by_order : (n : ℕ) (fs : List Terms) (bs : List MarkedPolynomial) (below : Exponents → Exponents → Type 0) →
    AreInVariables n fs → IsBasis n fs bs → IsStrict below → AreMarked below bs → IsGroebnerBasisFor n fs below bs
groebner_by_order n fs bs below v b o m = record { members = b.members; marked = m; initial = λ f k x y. basis_greatest n fs bs below f x v b o m k y }

-- an irreducible member with a leading monomial would have it divided
decided : (n : ℕ) (fs : List Terms) (below : Exponents → Exponents → Type 0) (Top : Terms → Exponents → Type 0) (bs : List MarkedPolynomial) →
    IsTop below Top → IsGroebnerBasisBy n fs below Top bs → (f : Terms) → IsMember n fs f →
    IsIrreducible (Contains bs) f → SamePolynomial f []
decided n fs below Top bs t b f m i = at (t.some f)
  where
    at : SamePolynomial f [] ⊎ ((x : Exponents) × Top f x) → SamePolynomial f []
    at (inl z) = z
    at (inr x) = absurd (i x.0 (t.there f x.0 x.1) (b.initial f m x.0 x.1))

-- a Gröbner basis for a weight is a basis
pub basis_of_groebner : (n : ℕ) (fs : List Terms) (bs : List MarkedPolynomial) (w : List ℕ) →
    IsGroebnerBasis n fs w bs → IsBasis n fs bs
basis_of_groebner n fs bs w b = record {
  members = b.basis.members;
  marked = (w, b.positive, b.basis.marked);
  decides = decided n fs (lighter w) (IsHeaviest w) bs (top_heaviest w) b.basis;
}

-- so is one for an order, where a positive weight gives its marks
pub basis_of_groebner_for : (n : ℕ) (fs : List Terms) (bs : List MarkedPolynomial) (below : Exponents → Exponents → Type 0) →
    IsMonomialOrder below → HasPositiveWeight n bs → IsGroebnerBasisFor n fs below bs → IsBasis n fs bs
basis_of_groebner_for n fs bs below o m b = record {
  members = b.members;
  marked = m;
  decides = decided n fs below (IsGreatest below) bs (top_greatest below o) b;
}
