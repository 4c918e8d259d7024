-- What enters and what leaves the leading monomials where a facet is crossed.
-- To cite: something_enters, what_enters_pulls. The rest are steps.
use Rattle.std.proofs.Common.{◌≡◌, ◌⊎◌, ℕ, zero, suc, ◌+◌, ◌<◌, Bool, true, false, if◌then◌else◌, List, [], Contains, get_or, ℤ, pos, ◌+ℤ◌, ◌*ℤ◌, ◌<ℤ◌, arith}
use Rattle.std.proofs.Common.{refl, sym, ap, ◌∙◌, inl, inr}
use Rattle.std.proofs.lemmas.Int.{ints}
use Rattle.gf_frac.specs.Fraction.{◌+ℚ◌, zero_ℚ, one_ℚ}
use Rattle.gf_frac.proofs.FractionLaws.{+ℚ-zero, zero-+ℚ, zero_or_not, zero-not-one}
use Rattle.gf_int_theory.proofs.RingLaws.{+ℤ-*ℤ}
use Rattle.gf_int_theory.proofs.SignLaws.{0<-*ℤ}
use Rattle.gf_exponents_theory.specs.Exponents.{Exponents, same, plus, IsInRing, whole_weight}
use Rattle.gf_exponents_theory.specs.Orders.{IsFacetBelow, negated_row_of}
use Rattle.gf_exponents_theory.proofs.WholeWeightLaws.{negated-less, negated-alike, row-order}
use Rattle.gf_vec.specs.Vector.{dot}
use Rattle.gf_facets_theory.proofs.VectorLaws.{IsNonzero}
use Rattle.gf_exponents_theory.proofs.ExponentsLaws.{entry-plus, entries_same, same_by_entries, same-refl, same_flip, same_trans}
use Rattle.gf_poly.specs.Polynomial.{Terms, coefficient, SamePolynomial}
use Rattle.gf_poly.specs.Marking.{MarkedPolynomial}
use Rattle.gf_ideal_theory.specs.Membership.{HasMonomial, IsInVariables, IsMember}
use Rattle.gf_ideal_theory.specs.Marks.{Piece, value, AreMarked}
use Rattle.gf_ideal_theory.specs.Bases.{IsGreatest}
use Rattle.gf_ideal_theory.proofs.LeadingLaws.{top_greatest}
use Rattle.gf_ideal_theory.proofs.BasisLaws.{basis_greatest}
use Rattle.gf_facets_theory.proofs.WholeLaws.{weight-apart}
use Rattle.gf_ideal_theory.specs.Reduction.{IsDivisible, IsIrreducible}
use Rattle.gf_ideal_theory.proofs.ListLaws.{Each-weaker}
use Rattle.gf_ideal_theory.proofs.RingLaws.{ring-along}
use Rattle.gf_ideal_theory.proofs.ListedTerms.{by_terms}
use Rattle.gf_ideal_theory.proofs.MembershipLaws.{spans_of_member, member_of_spans, variables_of_member}
use Rattle.gf_ideal_theory.proofs.PieceLaws.{spans_value}
use Rattle.gf_ideal_theory.proofs.StepLaws.{IsClosed, IsPieceIn, IsWithin, closed-both, closed-ring}
use Rattle.gf_ideal_theory.proofs.DivisionLaws.{Divided, divided, irreducible_terms}
use Rattle.gf_ideal_theory.proofs.DividingLaws.{divisible_along}
use Rattle.gf_facets_theory.specs.Beyond.{IsStepsFrom}
use Rattle.gf_facets_theory.specs.InitialIdeals.{monomial}
use Rattle.gf_facets_theory.proofs.RegionLaws.{dot-itself}
use Rattle.gf_bases_theory.proofs.ContainmentLaws.{divisible_monomial}
use Rattle.gf_initial_theory.specs.Crossings.{HaveParts}
use Rattle.gf_initial_theory.proofs.MonomialIdealLaws.{monomial-off}

-- ---- multiples of a
steps_sum : (j k : ℕ) (c : ℤ) → pos (j + k) *ℤ c ≡ pos j *ℤ c +ℤ pos k *ℤ c
steps_sum j k c = let e : pos (j + k) ≡ pos j +ℤ pos k = omega (arith, ints) in ap (λ z. z *ℤ c) e ∙ +ℤ-*ℤ (pos j) (pos k) c

steps-none : (a : List ℤ) (x : Exponents) → IsStepsFrom 0 a x x
steps-none a x i = omega (arith, ints)

steps-along : (k : ℕ) (a : List ℤ) (x y z : Exponents) → same y z ≡ true → IsStepsFrom k a x y → IsStepsFrom k a x z
steps-along k a x y z s h i = ap pos (sym (entries_same y z s i)) ∙ h i

steps-more : (j k : ℕ) (a : List ℤ) (x u h t : Exponents) → IsStepsFrom j a x (plus u h) → IsStepsFrom k a h t →
    IsStepsFrom (j + k) a x (plus u t)
steps-more j k a x u h t p q i =
    let c = get_or a i (pos 0) in
    omega (arith, ints, p i, q i, entry-plus u h i, entry-plus u t i, steps_sum j k c)

-- ---- what enters pulls out something above it

coefficient-at : (x y : Exponents) → same y x ≡ true → coefficient (monomial x) y ≡ one_ℚ
coefficient-at x y s = ap (λ b. (if b then one_ℚ else zero_ℚ) +ℚ zero_ℚ) s ∙ +ℚ-zero one_ℚ

-- some monomial is x and at least one times a, leads in bs, and doesn't lead in cs
pub record IsPulledOut (a : List ℤ) (bs cs : List MarkedPolynomial) (x : Exponents) : Type 0 where
  pub at : Exponents
  pub steps : ℕ
  pub some : 0 < steps
  pub apart : IsStepsFrom steps a x at
  pub led : IsDivisible (Contains bs) at
  pub not_led : IsDivisible (Contains cs) at → ⊥

pub what_enters_pulls : (n : ℕ) (a : List ℤ) (bs cs : List MarkedPolynomial) (x : Exponents) → HaveParts n a bs cs → IsInRing n x →
    (IsDivisible (Contains bs) x → ⊥) → IsDivisible (Contains cs) x → IsPulledOut a bs cs x
what_enters_pulls n a bs cs x h r out enters =
    at (divided h.there h.basis_there.marked.0 B (monomial x) h.basis_there.marked.2 closed inside)
  where
    From : Exponents → Type 0
    From y = (k : ℕ) × IsStepsFrom k a x y

    B : Exponents → Type 0
    B y = From y × IsInRing n y

    along_from : (y z : Exponents) → same y z ≡ true → From y → From z
    along_from y z s q = (q.0, steps-along q.0 a x y z s q.1)

    along_b : (y z : Exponents) → same y z ≡ true → B y → B z
    along_b y z s q = (along_from y z s q.0, ring-along n y z s q.1)

    closed : IsClosed (Contains h.there) B
    closed = closed-both (Contains h.there) From (IsInRing n)
        (record {
          along = along_from;
          lower = λ b m u t k q. (let s = h.above b m t k in (q.0 + s.0, steps-more q.0 s.0 a x u b.head t q.1 s.1));
        })
        (closed-ring n (Contains h.there) (λ c k. variables_of_member n h.ideal c.poly h.variables (h.basis_there.members c k)))

    inside : IsWithin B (monomial x)
    inside y m = same_case (same y x) refl
      where
        same_case : (b : Bool) → same y x ≡ b → B y
        same_case true s = along_b x y (same_flip y x s) ((0, steps-none a x), r)
        same_case false s = absurd (m (monomial-off x y s))

    at : Divided h.there B (monomial x) → IsPulledOut a bs cs x
    at q = found (divisible_monomial h.here f)
      where
        f : Terms
        f = value q.pieces

        kept : IsWithin B q.remainder
        kept = by_terms B q.remainder along_b q.kept

        gone : coefficient q.remainder x ≡ zero_ℚ
        gone = elim (zero_or_not (coefficient q.remainder x)) [
          | inl z ↦ z
          | inr m ↦ absurd (irreducible_terms h.there q.remainder q.irreducible x m ((h.lead_there x).1 enters))
        ]

        member : IsMember n h.ideal f
        member = member_of_spans n h.ideal f h.variables in_ring
            (spans_value h.ideal (Contains h.there) (λ c k. spans_of_member n h.ideal c.poly (h.basis_there.members c k)) q.pieces
            (Each-weaker (IsPieceIn (Contains h.there) B) (λ (p : Piece). Contains h.there p.of) (λ p k. k.member) q.pieces q.inside))
          where
            in_ring : IsInVariables n f
            in_ring y m = elim (zero_or_not (coefficient q.remainder y)) [
              | inr k ↦ (kept y k).1
              | inl z ↦ (inside y (λ c. m (sym (zero-+ℚ _) ∙ ap (λ w. w +ℚ coefficient f y) (sym z) ∙ sym (q.equal y) ∙ c))).1
            ]

        there : HasMonomial f x
        there z = zero-not-one (sym (+ℚ-zero zero_ℚ) ∙ ap (λ w. w +ℚ zero_ℚ) (sym gone) ∙ ap (λ w. coefficient q.remainder x +ℚ w) (sym z) ∙ sym (q.equal x) ∙
            coefficient-at x x (same-refl x))

        found : IsIrreducible (Contains h.here) f ⊎ ((y : Exponents) × HasMonomial f y × IsDivisible (Contains h.here) y) → IsPulledOut a bs cs x
        found (inl i) = absurd (there (h.basis_here.decides f member i x))
        found (inr y) = leaving (same y.0 x) refl
          where
            leaving : (b : Bool) → same y.0 x ≡ b → IsPulledOut a bs cs x
            leaving true s = absurd (out ((h.lead_here x).0 (divisible_along (Contains h.here) y.0 x s y.2)))
            leaving false s = record {
              at = y.0;
              steps = (kept y.0 remains).0.0;
              some = positive (kept y.0 remains).0.0 (kept y.0 remains).0.1;
              apart = (kept y.0 remains).0.1;
              led = (h.lead_here y.0).0 y.2;
              not_led = λ d. irreducible_terms h.there q.remainder q.irreducible y.0 remains ((h.lead_there y.0).1 d);
            }
              where
                remains : HasMonomial q.remainder y.0
                remains z = y.1 (sym (zero-+ℚ _) ∙ ap (λ w. w +ℚ coefficient f y.0) (sym z) ∙ sym (q.equal y.0) ∙ monomial-off x y.0 s)

                positive : (k : ℕ) → IsStepsFrom k a x y.0 → 0 < k
                positive zero p = absurd (let e : same y.0 x ≡ true = same_by_entries y.0 x (λ i. omega (arith, ints, p i)) in cc)
                positive (suc k) p = omega arith

-- ---- something enters

-- x is a monomial of bs that leads in cs and not in bs
pub record Enters (bs cs : List MarkedPolynomial) : Type 0 where
  pub at : Exponents
  pub member : MarkedPolynomial
  pub contained : Contains bs member
  pub there : HasMonomial member.poly at
  pub not_led : IsDivisible (Contains bs) at → ⊥
  pub led : IsDivisible (Contains cs) at

-- the further along a, the lower
abbrev Lower : List ℤ → Exponents → Exponents → Type 0
Lower a = IsFacetBelow (negated_row_of a)

rises : (k : ℕ) (a : List ℤ) (x y : Exponents) → IsNonzero a → 0 < k → IsStepsFrom k a x y → whole_weight a x <ℤ whole_weight a y
rises k a x y n l h =
    let e = weight-apart a a y x (pos k) h in
    let m : pos 0 <ℤ (pos k *ℤ dot a a) = 0<-*ℤ (pos k) (dot a a) (omega (arith, ints)) (dot-itself a n) in
    omega (arith, ints, e, m)

lower_along : (k : ℕ) (a : List ℤ) (x y : Exponents) → IsNonzero a → IsStepsFrom k a x y → (same y x ≡ true) ⊎ Lower a y x
lower_along zero a x y n h = inl (same_by_entries y x (λ i. omega (arith, ints, h i)))
lower_along (suc k) a x y n h = inr (inl ((negated-less a y x).1 (rises (suc k) a x y n (omega arith) h)))

not_lower : (k : ℕ) (a : List ℤ) (x y : Exponents) → IsNonzero a → 0 < k → IsStepsFrom k a x y → Lower a x y → ⊥
not_lower k a x y n l h (inl p) = absurd (let u = rises k a x y n l h in let v = (negated-less a x y).0 p in omega (arith, ints, u, v))
not_lower k a x y n l h (inr p) = absurd (let u = rises k a x y n l h in let v = (negated-alike a x y).0 p.0 in omega (arith, ints, u, v))

pub something_enters : (n : ℕ) (a : List ℤ) (bs cs : List MarkedPolynomial) → IsNonzero a → HaveParts n a bs cs → Enters bs cs
something_enters n a bs cs nz h = at ((top_greatest (Lower a) (row-order (negated_row_of a))).some h.member.poly)
  where
    marked : AreMarked (Lower a) h.there
    marked p k = record { monic = (h.basis_there.marked.2 p k).monic; tail = λ x m. (let s = h.above p k x m in lower_along s.0 a p.head x nz s.1) }

    at : SamePolynomial h.member.poly [] ⊎ ((x : Exponents) × IsGreatest (Lower a) h.member.poly x) → Enters bs cs
    at (inl z) = absurd (h.has_other (z h.other))
    at (inr t) = record {
      at = t.0;
      member = whole.0;
      contained = whole.1;
      there = whole.2;
      not_led = λ d. away (h.reduced h.member h.contained t.0 t.1.there ((h.lead_here t.0).1 d));
      led = (h.lead_there t.0).0 (basis_greatest n h.ideal h.there (Lower a) h.member.poly t.0 h.variables h.basis_there (row-order (negated_row_of a)).strict
          marked (h.basis_here.members h.member h.contained) t.1);
    }
      where
        whole : (b : MarkedPolynomial) × Contains bs b × HasMonomial b.poly t.0
        whole = h.within h.member h.contained t.0 t.1.there

        -- the greatest isn't the mark
        away : same t.0 h.member.head ≡ true → ⊥
        away s = elim (t.1.greatest h.other h.has_other) [
          | inl q ↦ (let c : same h.other h.member.head ≡ true = same_trans h.other t.0 h.member.head q s in let u = h.unmarked in absurd (cc))
          | inr l ↦ (let d = h.below h.member h.contained h.other h.has_other in
              down d.0 d.1 ((row-order (negated_row_of a)).strict.along_right h.other t.0 h.member.head s l))
        ]
          where
            down : (k : ℕ) → IsStepsFrom k a h.other h.member.head → Lower a h.other h.member.head → ⊥
            down zero p l = absurd (let c : same h.other h.member.head ≡ true = same_by_entries h.other h.member.head (λ i. omega (arith, ints, p i)) in let u =
                h.unmarked in cc)
            down (suc k) p l = not_lower (suc k) a h.other h.member.head nz (omega arith) p l
