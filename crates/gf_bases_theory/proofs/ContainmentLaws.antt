-- Two marked reduced bases of one ideal are the same as soon as each mark of the one is a multiple of a mark of the other.
-- To cite: divisible_monomial, AreMultiples, contained_same, contained_equal. The rest are steps.
use Rattle.std.proofs.Common.{◌≡◌, ◌⊎◌, ℕ, true, List, [], ◌∷◌, ◌++◌, Contains, sym, ap, ◌∙◌, subst, inl, inr}
use Rattle.gf_frac.specs.Fraction.{◌+ℚ◌, neg_ℚ, zero_ℚ, one_ℚ}
use Rattle.gf_frac.proofs.FractionLaws.{+ℚ-neg_ℚ, zero_or_not}
use Rattle.gf_exponents_theory.specs.Exponents.{Exponents, same, plus}
use Rattle.gf_exponents_theory.specs.Orders.{lighter}
use Rattle.gf_exponents_theory.proofs.ExponentsLaws.{same_flip, same_trans}
use Rattle.gf_poly.specs.declared.Term.{Term}
use Rattle.gf_poly.specs.Polynomial.{Terms, coefficient, times}
use Rattle.gf_poly.specs.Marking.{MarkedPolynomial, Each}
use Rattle.gf_poly.proofs.PolynomialLaws.{coefficient-same}
use Rattle.gf_ideal_theory.specs.Membership.{HasMonomial, IsMember}
use Rattle.gf_ideal_theory.specs.Reduction.{IsDivisible, IsIrreducible}
use Rattle.gf_ideal_theory.specs.Bases.{IsTwin, AreSameBasis}
use Rattle.gf_ideal_theory.proofs.TermLaws.{Canonical, canonical}
use Rattle.gf_ideal_theory.proofs.MembershipLaws.{member-difference}
use Rattle.gf_ideal_theory.proofs.MarkWeights.{mark-there}
use Rattle.gf_ideal_theory.proofs.DivisionLaws.{NoMark, divisible_or_not, irreducible_terms}
use Rattle.gf_ideal_theory.proofs.InterreductionLaws.{divisible_through}
use Rattle.gf_ideal_theory.proofs.ArrangedLists.{arranged_equal}
use Rattle.gf_facets_theory.specs.MarkedBases.{IsMarkedReduced, IsMarkedReducedBasis}
use Rattle.gf_bases_theory.proofs.DifferenceLaws.{difference}
use Rattle.gf_ideal_theory.proofs.UniquenessLaws.{apart_same, both_ways, equal_if}
use Rattle.gf_bases_theory.proofs.ReducedFormLaws.{through}

-- ---- what isn't irreducible has a divisible monomial

each_or_one : (bs : List MarkedPolynomial) (f g : Terms) → Each (λ (t : Term). HasMonomial f t.mono) g →
    Each (λ (t : Term). NoMark bs t.mono) g ⊎ ((x : Exponents) × HasMonomial f x × IsDivisible (Contains bs) x)
each_or_one bs f [] h = inl tt
each_or_one bs f (t ∷ g) h = at (divisible_or_not bs t.mono) (each_or_one bs f g h.1)
  where
    at : IsDivisible (Contains bs) t.mono ⊎ NoMark bs t.mono →
        Each (λ (s : Term). NoMark bs s.mono) g ⊎ ((x : Exponents) × HasMonomial f x × IsDivisible (Contains bs) x) →
        Each (λ (s : Term). NoMark bs s.mono) (t ∷ g) ⊎ ((x : Exponents) × HasMonomial f x × IsDivisible (Contains bs) x)
    at (inl d) r = inr (t.mono, h.0, d)
    at (inr n) (inl m) = inl (n, m)
    at (inr n) (inr x) = inr x

pub divisible_monomial : (bs : List MarkedPolynomial) (f : Terms) →
    IsIrreducible (Contains bs) f ⊎ ((x : Exponents) × HasMonomial f x × IsDivisible (Contains bs) x)
divisible_monomial bs f = at (canonical f)
  where
    at : Canonical f → IsIrreducible (Contains bs) f ⊎ ((x : Exponents) × HasMonomial f x × IsDivisible (Contains bs) x)
    at c = by (each_or_one bs f c.terms c.there)
      where
        by : Each (λ (t : Term). NoMark bs t.mono) c.terms ⊎ ((x : Exponents) × HasMonomial f x × IsDivisible (Contains bs) x) →
            IsIrreducible (Contains bs) f ⊎ ((x : Exponents) × HasMonomial f x × IsDivisible (Contains bs) x)
        by (inl n) = inl (λ x h d. irreducible_terms bs c.terms n x (λ z. h (c.equal x ∙ z)) d)
        by (inr x) = inr x

-- ---- marks

-- each mark of bs is a multiple of a mark of cs
abbrev pub AreMultiples : List MarkedPolynomial → List MarkedPolynomial → Type 0
AreMultiples bs cs = (b : MarkedPolynomial) → Contains bs b → IsDivisible (Contains cs) b.head

-- then it is so the other way round
turned : (n : ℕ) (fs : List Terms) (bs cs : List MarkedPolynomial) → IsMarkedReduced n fs bs →
    IsMarkedReduced n fs cs → AreMultiples bs cs → AreMultiples cs bs
turned n fs bs cs b c over e h = at (divisible_monomial bs e.poly)
  where
    there : HasMonomial e.poly e.head
    there = mark-there (lighter c.basis.marked.0) e (c.basis.marked.2 e h)

    at : IsIrreducible (Contains bs) e.poly ⊎ ((x : Exponents) × HasMonomial e.poly x × IsDivisible (Contains bs) x) →
        IsDivisible (Contains bs) e.head
    at (inl i) = absurd (there (b.basis.decides e.poly (c.basis.members e h) i e.head))
    at (inr x) =
        let s : same x.0 e.head ≡ true = c.tails e h x.0 x.1 (divisible_through bs cs over x.0 x.2) in
        record {
          member = x.2.member;
          contained = x.2.contained;
          rest = x.2.rest;
          divides = same_trans e.head x.0 (plus x.2.rest x.2.member.head) (same_flip x.0 e.head s) x.2.divides;
        }

-- ---- members

-- each member of the one has a twin in the other
twin_there : (n : ℕ) (fs : List Terms) (bs cs : List MarkedPolynomial) → IsMarkedReduced n fs bs →
    IsMarkedReduced n fs cs → AreMultiples bs cs → AreMultiples cs bs → (b : MarkedPolynomial) → Contains bs b →
    (c : MarkedPolynomial) × Contains cs c × IsTwin b c
twin_there n fs bs cs p q over back b hb =
    let d = over b hb in
    (d.member, d.contained, twin d.member d.contained d.rest d.divides (back d.member d.contained))
  where
    twin : (c : MarkedPolynomial) → Contains cs c → (u : Exponents) → same b.head (plus u c.head) ≡ true →
        IsDivisible (Contains bs) c.head → IsTwin b c
    twin c hc u s r = record {
      head = head;
      poly = λ x. equal_if (coefficient b.poly x) (coefficient c.poly x) (sym (difference b.poly c.poly x) ∙ p.basis.decides d member irreducible x);
    }
      where
        itself : r.member ≡ b
        itself = apart_same bs r.member b p.heads r.contained hb (plus u r.rest) (through b.head c.head r.member.head u r.rest s r.divides)

        head : same b.head c.head ≡ true
        head = both_ways b.head c.head u r.rest s (subst (λ (x : MarkedPolynomial). same c.head (plus r.rest x.head) ≡ true) itself r.divides)

        d : Terms
        d = b.poly ++ times (neg_ℚ one_ℚ) [] c.poly

        member : IsMember n fs d
        member = member-difference n fs b.poly c.poly (p.basis.members b hb) (q.basis.members c hc)

        at_mark : (x : Exponents) → same x b.head ≡ true → coefficient d x ≡ zero_ℚ
        at_mark x k =
            difference b.poly c.poly x
            ∙ ap (λ z. z +ℚ neg_ℚ (coefficient c.poly x)) (coefficient-same b.poly x b.head k ∙ (p.basis.marked.2 b hb).monic)
            ∙ ap (λ z. one_ℚ +ℚ neg_ℚ z) (coefficient-same c.poly x c.head (same_trans x b.head c.head k head) ∙ (q.basis.marked.2 c hc).monic)
            ∙ +ℚ-neg_ℚ one_ℚ

        irreducible : IsIrreducible (Contains bs) d
        irreducible x h k = elim (zero_or_not (coefficient b.poly x)) [
          | inr m ↦ h (at_mark x (p.tails b hb x m k))
          | inl z ↦ h (at_mark x (same_trans x c.head b.head
              (q.tails c hc x (λ y. h (difference b.poly c.poly x ∙ ap (λ v. v +ℚ neg_ℚ (coefficient c.poly x)) z ∙ ap (λ v. zero_ℚ +ℚ neg_ℚ v) y ∙
              +ℚ-neg_ℚ zero_ℚ)) (divisible_through bs cs over x k))
              (same_flip b.head c.head head)))
        ]

-- so the two are the same
pub contained_same : (n : ℕ) (fs : List Terms) (bs cs : List MarkedPolynomial) → IsMarkedReduced n fs bs → IsMarkedReduced n fs cs →
    AreMultiples bs cs → AreSameBasis bs cs
contained_same n fs bs cs b c over = record {
  there = twin_there n fs bs cs b c over back;
  back = λ d h. let e = twin_there n fs cs bs c b back over d h in
      (e.0, e.1, record { head = same_flip d.head e.0.head e.2.head; poly = λ x. sym (e.2.poly x) });
}
  where
    back : AreMultiples cs bs
    back = turned n fs bs cs b c over

-- and equal lists, where they are arranged
pub contained_equal : (n : ℕ) (fs : List Terms) (bs cs : List MarkedPolynomial) → IsMarkedReducedBasis n fs bs →
    IsMarkedReducedBasis n fs cs → AreMultiples bs cs → bs ≡ cs
contained_equal n fs bs cs b c over = arranged_equal n bs cs b.arranged c.arranged (contained_same n fs bs cs b.reduced c.reduced over)
