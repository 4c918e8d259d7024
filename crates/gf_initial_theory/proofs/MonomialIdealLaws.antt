-- At a vector of a region monomials generate the initial ideal exactly where the reduced basis for the vector has its marks.
-- To cite: monomial-there, monomial-at, open_where_monomial, monomial_where_open.
use Rattle.std.proofs.Common.{◌≡◌, ◌≢◌, ◌⊎◌, if◌then◌else◌, ℕ, Bool, true, false, List, [], Contains, ℤ, ◌<ℤ◌, arith, refl, sym, ap, ◌∙◌, inl, inr}
use Rattle.std.proofs.lemmas.Int.{ints}
use Rattle.gf_frac.specs.Fraction.{◌+ℚ◌, ◌*ℚ◌, zero_ℚ, one_ℚ}
use Rattle.gf_frac.proofs.FractionLaws.{+ℚ-zero, zero-+ℚ, one-*ℚ, zero_or_not}
use Rattle.gf_exponents_theory.specs.Exponents.{Exponents, same, plus, whole_weight, IsInRing}
use Rattle.gf_exponents_theory.specs.Orders.{lighter}
use Rattle.gf_exponents_theory.proofs.ExponentsLaws.{same-refl, same-sym, same_along, same_flip, same_trans}
use Rattle.gf_exponents_theory.proofs.WholeWeightLaws.{whole_weight-same}
use Rattle.gf_poly.specs.Polynomial.{Terms, coefficient, SamePolynomial, times}
use Rattle.gf_poly.specs.Marking.{MarkedPolynomial, polys}
use Rattle.gf_poly.proofs.PolynomialLaws.{coefficient-++, coefficient-same}
use Rattle.gf_ideal_theory.specs.Membership.{HasMonomial, AreInVariables, IsMember, Spans}
use Rattle.gf_ideal_theory.specs.Reduction.{IsDivisible, IsIrreducible}
use Rattle.gf_ideal_theory.specs.Bases.{IsBasis}
use Rattle.gf_ideal_theory.proofs.Identities.{one_not_zero}
use Rattle.gf_ideal_theory.proofs.TermLaws.{found}
use Rattle.gf_ideal_theory.proofs.RingLaws.{ring-along, ring-left}
use Rattle.gf_ideal_theory.proofs.MembershipLaws.{member-equal, member-generator, member-times, variables_of_member, spans_of_member}
use Rattle.gf_ideal_theory.proofs.PieceLaws.{Contains-polys, Contains-marked}
use Rattle.gf_ideal_theory.proofs.MarkWeights.{mark-there}
use Rattle.gf_ideal_theory.proofs.DivisionLaws.{NoMark, divisible_or_not, undivided}
use Rattle.gf_facets_theory.specs.Facets.{IsInClosedCone, IsInOpenCone}
use Rattle.gf_facets_theory.specs.InitialIdeals.{IsInInitialIdeal, monomial, IsMonomialAt}
use Rattle.gf_facets_theory.specs.MarkedBases.{IsMarkedReduced}
use Rattle.gf_facets_theory.proofs.VectorLaws.{three}
use Rattle.gf_bases_theory.proofs.ReducedFormLaws.{through}
use Rattle.gf_initial_theory.specs.Parts.{Matching, IsInitialPart, AreInitialParts}
use Rattle.gf_initial_theory.proofs.MatchingLaws.{matched-from, matched-to, matched-map}
use Rattle.gf_initial_theory.proofs.PartLaws.{IsLevelPart, initial_of_level, part-there, parts-variables, parts_decide}
use Rattle.gf_initial_theory.proofs.InitialLaws.{from_initial, into_initial}
use Rattle.gf_initial_theory.proofs.SideLaws.{level_parts}

-- ---- monomials

pub monomial-there : (x : Exponents) → coefficient (monomial x) x ≡ one_ℚ
monomial-there x = ap (λ b. (if b then one_ℚ else zero_ℚ) +ℚ zero_ℚ) (same-refl x) ∙ +ℚ-zero one_ℚ

pub monomial-at : (x y : Exponents) → HasMonomial (monomial x) y → same y x ≡ true
monomial-at x y h = by (same y x) refl
  where
    by : (b : Bool) → same y x ≡ b → b ≡ true
    by true e = refl
    by false e = absurd (h (ap (λ b. (if b then one_ℚ else zero_ℚ) +ℚ zero_ℚ) e ∙ +ℚ-zero zero_ℚ))

-- none elsewhere
pub monomial-off : (x y : Exponents) → same y x ≡ false → coefficient (monomial x) y ≡ zero_ℚ
monomial-off x y e = ap (λ b. (if b then one_ℚ else zero_ℚ) +ℚ zero_ℚ) e ∙ +ℚ-zero zero_ℚ

-- x = u m
monomial-multiple : (x u m : Exponents) → same x (plus u m) ≡ true → SamePolynomial (times one_ℚ u (monomial m)) (monomial x)
monomial-multiple x u m s e = ap (λ b. (if b then one_ℚ *ℚ one_ℚ else zero_ℚ) +ℚ zero_ℚ) alike ∙
    ap (λ c. (if same e x then c else zero_ℚ) +ℚ zero_ℚ) (one-*ℚ one_ℚ)
  where
    alike : same e (plus u m) ≡ same e x
    alike = same-sym e (plus u m) ∙ sym (same_along x (plus u m) e s) ∙ same-sym x e

-- each monomial of a combination of polynomials is divisible where each of theirs is
divisible_spanned : (by : MarkedPolynomial → Type 0) (hs : List Terms) (q : Terms) → Spans hs q →
    ((h : Terms) → Contains hs h → (y : Exponents) → HasMonomial h y → IsDivisible by y) → (x : Exponents) →
    HasMonomial q x → IsDivisible by x
divisible_spanned by hs q (Spans.none f z) d x h = absurd (h (z x))
divisible_spanned by hs q (Spans.more c u p f g k s e) d x h = at (zero_or_not (coefficient (times c u p) x)) (divisible_spanned by hs g s d x)
  where
    at : (coefficient (times c u p) x ≡ zero_ℚ) ⊎ (coefficient (times c u p) x ≢ zero_ℚ) →
        (HasMonomial g x → IsDivisible by x) → IsDivisible by x
    at (inl z) r = r (λ y. h (e x ∙ coefficient-++ (times c u p) g x ∙ ap (λ k. k +ℚ coefficient g x) z ∙ zero-+ℚ _ ∙ y))
    at (inr m) r =
        let y = found c u p x m in
        let b = d p k y.0 y.1 in
        record { member = b.member; contained = b.contained; rest = plus u b.rest; divides = through x y.0 b.member.head u b.rest y.2 b.divides }

-- ---- the parts of a basis

-- the initial forms of the members
record HasParts (v : List ℤ) (bs : List MarkedPolynomial) : Type 0 where
  parts : List MarkedPolynomial
  levels : Matching (IsLevelPart v) bs parts
  initial : AreInitialParts v bs parts

parts_of : (n : ℕ) (fs : List Terms) (v : List ℤ) (bs : List MarkedPolynomial) → IsBasis n fs bs → IsInClosedCone v bs → HasParts v bs
parts_of n fs v bs basis k = at (level_parts v bs)
  where
    at : ((ps : List MarkedPolynomial) × Matching (IsLevelPart v) bs ps) → HasParts v bs
    at p = record {
      parts = p.0;
      levels = p.1;
      initial = matched-map (IsLevelPart v) (IsInitialPart v) bs p.0
          (λ b q c i. initial_of_level v b q (k b c) (mark-there (lighter basis.marked.0) b (basis.marked.2 b c)) i) p.1;
    }

-- ---- where monomials generate the initial ideal, the vector gives the marks

pub open_where_monomial : (n : ℕ) (fs : List Terms) (v : List ℤ) (bs : List MarkedPolynomial) → AreInVariables n fs →
    IsMonomialAt n fs v → IsMarkedReduced n fs bs → IsInClosedCone v bs → IsInOpenCone v bs
open_where_monomial n fs v bs vars mono r k b c x m = at (three (whole_weight v x) (whole_weight v b.head))
  where
    level : whole_weight v x ≡ whole_weight v b.head → (same x b.head ≡ true) ⊎ (whole_weight v x <ℤ whole_weight v b.head)
    level e = with_parts (parts_of n fs v bs r.basis k)
      where
        with_parts : HasParts v bs → (same x b.head ≡ true) ⊎ (whole_weight v x <ℤ whole_weight v b.head)
        with_parts h = with_part (matched-to (IsLevelPart v) bs h.parts h.levels b c)
          where
            with_part : ((p : MarkedPolynomial) × Contains h.parts p × IsLevelPart v b p) → (same x b.head ≡ true) ⊎ (whole_weight v x <ℤ whole_weight v b.head)
            with_part p = elim (divisible_or_not bs x) [
              | inl d ↦ inl (r.tails b c x m d)
              | inr none ↦ absurd (one_not_zero (sym (monomial-there x) ∙ zero none x))
            ]
              where
                inside : IsInInitialIdeal n fs v (monomial x)
                inside = mono p.0.poly (into_initial n fs bs h.parts v p.0.poly r.basis h.initial
                    (member-generator n (polys h.parts) p.0.poly (Contains-polys h.parts p.0 p.1))) x (λ z. m (sym (p.2.level x e) ∙ z))

                irreducible : NoMark bs x → IsIrreducible (Contains bs) (monomial x)
                irreducible none y i d = undivided bs x none (record {
                  member = d.member;
                  contained = d.contained;
                  rest = d.rest;
                  divides = same_trans x y (plus d.rest d.member.head) (same_flip y x (monomial-at x y i)) d.divides;
                })

                zero : NoMark bs x → SamePolynomial (monomial x) []
                zero none = parts_decide n fs bs h.parts v (monomial x) vars r.basis k h.levels
                    (from_initial n fs bs h.parts v (monomial x) vars r.basis k h.levels inside) (irreducible none)

    at : (whole_weight v x <ℤ whole_weight v b.head) ⊎ ((whole_weight v x ≡ whole_weight v b.head) ⊎ (whole_weight v b.head <ℤ whole_weight v x)) →
        (same x b.head ≡ true) ⊎ (whole_weight v x <ℤ whole_weight v b.head)
    at (inl l) = inr l
    at (inr (inl e)) = level e
    at (inr (inr l)) = absurd (omega (arith, ints, l, k b c x m))

-- ---- where the vector gives the marks, monomials generate the initial ideal

-- the part is the mark alone
part_monomial : (v : List ℤ) (b p : MarkedPolynomial) → coefficient b.poly b.head ≡ one_ℚ →
    ((x : Exponents) → HasMonomial b.poly x → (same x b.head ≡ true) ⊎ (whole_weight v x <ℤ whole_weight v b.head)) → IsLevelPart v b p →
    SamePolynomial p.poly (monomial b.head)
part_monomial v b p one o i y = at (same y b.head) refl
  where
    only : HasMonomial p.poly y → (same y b.head ≡ true)
    only m = let t = part-there v b p y i m in elim (o y t.1) [ inl s ↦ s | inr l ↦ absurd (omega (arith, ints, l, t.0)) ]

    at : (s : Bool) → same y b.head ≡ s → coefficient p.poly y ≡ coefficient (monomial b.head) y
    at true e = coefficient-same p.poly y b.head e ∙ i.level b.head refl ∙ one ∙ sym (monomial-there b.head) ∙
        sym (coefficient-same (monomial b.head) y b.head e)
    at false e = elim (zero_or_not (coefficient p.poly y)) [
      | inl z ↦ z ∙ sym (monomial-off b.head y e)
      | inr m ↦ absurd (let s : same y b.head ≡ true = only m in cc)
    ]

-- the open cone is part of the closed one
closed_of_open : (v : List ℤ) (bs : List MarkedPolynomial) → IsInOpenCone v bs → IsInClosedCone v bs
closed_of_open v bs o b c x m = elim (o b c x m) [ inl s ↦ omega (arith, ints, whole_weight-same v x b.head s) | inr l ↦ omega (arith, ints, l) ]

pub monomial_where_open : (n : ℕ) (fs : List Terms) (v : List ℤ) (bs : List MarkedPolynomial) → AreInVariables n fs →
    IsMarkedReduced n fs bs → IsInOpenCone v bs → IsMonomialAt n fs v
monomial_where_open n fs v bs vars r o q i x m = with_parts (parts_of n fs v bs r.basis (closed_of_open v bs o))
  where
    with_parts : HasParts v bs → IsInInitialIdeal n fs v (monomial x)
    with_parts h = at (divisible_spanned (Contains bs) (polys h.parts) q (spans_of_member n (polys h.parts) q member) divisible x m)
      where
        member : IsMember n (polys h.parts) q
        member = from_initial n fs bs h.parts v q vars r.basis (closed_of_open v bs o) h.levels i

        divisible : (p : Terms) → Contains (polys h.parts) p → (y : Exponents) → HasMonomial p y → IsDivisible (Contains bs) y
        divisible f c y j = by (Contains-marked h.parts f c)
          where
            by : ((p : MarkedPolynomial) × Contains h.parts p × (p.poly ≡ f)) → IsDivisible (Contains bs) y
            by p =
                let b = matched-from (IsLevelPart v) bs h.parts h.levels p.0 p.1 in
                record {
                  member = b.0;
                  contained = b.1;
                  rest = [];
                  divides = monomial-at b.0.head y (λ z. j (sym (ap (λ (g : Terms). coefficient g y) p.2) ∙ part_monomial v b.0 p.0
                      (r.basis.marked.2 b.0 b.1).monic (o b.0 b.1) b.2 y ∙ z));
                }

        at : IsDivisible (Contains bs) x → IsInInitialIdeal n fs v (monomial x)
        at d = with_part (matched-to (IsLevelPart v) bs h.parts h.levels d.member d.contained)
          where
            with_part : ((p : MarkedPolynomial) × Contains h.parts p × IsLevelPart v d.member p) → IsInInitialIdeal n fs v (monomial x)
            with_part p = into_initial n fs bs h.parts v (monomial x) r.basis h.initial
                (member-equal n (polys h.parts) (times one_ℚ d.rest (monomial d.member.head)) (monomial x) (monomial-multiple x d.rest d.member.head d.divides)
                (member-times n (polys h.parts) (monomial d.member.head) one_ℚ d.rest
                (ring-left n d.rest d.member.head (ring-along n x (plus d.rest d.member.head) d.divides ring)) mark))
              where
                ring : IsInRing n x
                ring = variables_of_member n (polys h.parts) q
                    (parts-variables n bs h.parts v (λ b c. variables_of_member n fs b.poly vars (r.basis.members b c)) h.levels) member x m

                mark : IsMember n (polys h.parts) (monomial d.member.head)
                mark = member-equal n (polys h.parts) p.0.poly (monomial d.member.head)
                    (part_monomial v d.member p.0 (r.basis.marked.2 d.member d.contained).monic (o d.member d.contained) p.2)
                    (member-generator n (polys h.parts) p.0.poly (Contains-polys h.parts p.0 p.1))
