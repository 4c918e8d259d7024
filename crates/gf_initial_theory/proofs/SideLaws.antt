-- A marked reduced basis on one side of a facet: its parts, which are those along the normal, and the ideal of the parts.
-- Two on the same side are the same; of two on both sides, one has an unmarked monomial along the normal where the other
-- has.
-- To cite: IsSide, side-weak, level_of_along, along_of_level, side_parts, parts_of_one_class, same_ideals, same_by_marks,
-- sides_same, side_further.
use Rattle.std.proofs.Common.{◌≡◌, ◌⊎◌, ℕ, true, false, if◌then◌else◌, List, [], ◌∷◌, Contains, get_or, ℤ, pos, neg_ℤ, ◌+ℤ◌, ◌*ℤ◌, ◌≤ℤ◌, arith, refl, sym, ap}
use Rattle.std.proofs.Common.{◌∙◌, subst, inl, inr}
use Rattle.std.proofs.lemmas.Int.{ints}
use Rattle.gf_int_theory.proofs.RingLaws.{dv, dn, dneg, ◌⊕◌, ◌⊗◌, same as same_number}
use Rattle.gf_int_theory.proofs.ListLaws.{Contains-here}
use Rattle.gf_frac.specs.Fraction.{◌+ℚ◌, zero_ℚ}
use Rattle.gf_frac.proofs.FractionLaws.{zero-+ℚ, zero_or_not}
use Rattle.gf_exponents_theory.specs.Exponents.{Exponents, entry, same, whole_weight}
use Rattle.gf_exponents_theory.specs.Orders.{IsFacetBelow, negated_row_of, lighter}
use Rattle.gf_exponents_theory.proofs.ExponentsLaws.{same_flip, same_trans, same_of}
use Rattle.gf_exponents_theory.proofs.WholeWeightLaws.{whole_weight-same, row-order}
use Rattle.gf_poly.specs.Polynomial.{Terms, coefficient, SamePolynomial}
use Rattle.gf_poly.specs.Marking.{MarkedPolynomial, polys}
use Rattle.gf_vec.specs.Vector.{dot}
use Rattle.gf_ideal_theory.specs.Membership.{HasMonomial, AreInVariables, AreSameIdeal}
use Rattle.gf_ideal_theory.specs.Marks.{IsMarked, AreMarked}
use Rattle.gf_ideal_theory.specs.OrderTable.{AreMultipleApart}
use Rattle.gf_ideal_theory.specs.Bases.{IsBasis, IsHeaviest, IsReducedBasisFor, IsTwin, AreSameBasis}
use Rattle.gf_ideal_theory.proofs.ListLaws.{Contains-there, Contains-cases}
use Rattle.gf_ideal_theory.proofs.TermLaws.{without, apart, none_left}
use Rattle.gf_ideal_theory.proofs.MembershipLaws.{variables_of_member}
use Rattle.gf_ideal_theory.proofs.PieceLaws.{Contains-marked}
use Rattle.gf_ideal_theory.proofs.MarkWeights.{mark-there}
use Rattle.gf_ideal_theory.proofs.LeadingLaws.{top_heaviest}
use Rattle.gf_ideal_theory.proofs.BasisLaws.{basis_along}
use Rattle.gf_ideal_theory.proofs.InterreductionLaws.{reduced_by_order}
use Rattle.gf_ideal_theory.proofs.UniquenessLaws.{unique_by_order}
use Rattle.gf_facets_theory.specs.Rows.{negated}
use Rattle.gf_initial_theory.specs.Parts.{Matching, IsInitialPart, AreInitialParts, IsPartAlong}
use Rattle.gf_facets_theory.specs.Facets.{IsInClosedCone}
use Rattle.gf_facets_theory.specs.Beyond.{IsFurther, IsBeyond}
use Rattle.gf_facets_theory.specs.MarkedBases.{IsMarkedReduced}
use Rattle.gf_facets_theory.proofs.VectorLaws.{IsNonzero, get-negated}
use Rattle.gf_facets_theory.proofs.WholeLaws.{weight-apart, further-weight, further-strict}
use Rattle.gf_initial_theory.proofs.MatchingLaws.{matched-from, matched-to, matched-map}
use Rattle.gf_initial_theory.proofs.PartLaws.{IsLevelPart, initial_of_level, part-there, parts-variables, parts_reduced}
use Rattle.gf_bases_theory.proofs.ContainmentLaws.{AreMultiples, contained_same}
use Rattle.gf_bases_theory.proofs.GradedBasisLaws.{IsOfOneClass}
use Rattle.gf_initial_theory.proofs.InitialLaws.{from_initial, into_initial}
use Rattle.gf_initial_theory.proofs.ClassLaws.{apart_or_not, multiple-grading, further_marks}
use Rattle.gf_poly.proofs.InitialFormLaws.{of_weight, coefficient-on, coefficient-off, same_or_not}
use Rattle.gf_facets_theory.proofs.NormalLaws.{HasFurther}

-- a marked reduced basis of which each unmarked monomial is lighter by v, or further along a, where v is orthogonal to a
pub record IsSide (n : ℕ) (fs : List Terms) (v a : List ℤ) (bs : List MarkedPolynomial) : Type 0 where
  pub reduced : IsMarkedReduced n fs bs
  pub zero : dot a v ≡ pos 0
  pub nonzero : IsNonzero a
  pub marked : AreMarked (IsBeyond v a) bs

-- v is in its closed cone
pub side-weak : (n : ℕ) (fs : List Terms) (v a : List ℤ) (bs : List MarkedPolynomial) → IsSide n fs v a bs →
    IsInClosedCone v bs
side-weak n fs v a bs s b c x m = at ((s.marked b c).tail x m)
  where
    at : (same x b.head ≡ true) ⊎ IsBeyond v a x b.head → whole_weight v x ≤ℤ whole_weight v b.head
    at (inl e) = omega (arith, ints, whole_weight-same v x b.head e)
    at (inr (inl l)) = omega (arith, ints, l)
    at (inr (inr f)) = omega (arith, ints, further-weight v a x b.head s.zero f)

-- ---- the parts along the normal are those of one weight

-- further along is a multiple apart
pub further-apart : (a : List ℤ) (x y : Exponents) → IsFurther a x y → AreMultipleApart a x y
further-apart a x y f = (pos f.0, f.2)

-- a multiple of a is one of its negatives
pub apart-negated : (a : List ℤ) (x y : Exponents) → AreMultipleApart (negated a) x y → AreMultipleApart a x y
apart-negated a x y h = (neg_ℤ h.0, λ i. h.1 i ∙ ap (λ z. pos (entry y i) +ℤ h.0 *ℤ z) (get-negated a i) ∙ turned (pos (entry y i)) h.0 (get_or a i (pos 0)))
  where
    turned : (y k z : ℤ) → y +ℤ k *ℤ neg_ℤ z ≡ y +ℤ neg_ℤ k *ℤ z
    turned y k z = same_number (dv y ⊕ dv k ⊗ dneg (dv z)) (dv y ⊕ dneg (dv k) ⊗ dv z) (omega arith)

-- and back
pub negated-apart : (a : List ℤ) (x y : Exponents) → AreMultipleApart a x y → AreMultipleApart (negated a) x y
negated-apart a x y h =
    (neg_ℤ h.0, λ i. h.1 i ∙ turned (pos (entry y i)) h.0 (get_or a i (pos 0)) ∙ ap (λ z. pos (entry y i) +ℤ neg_ℤ h.0 *ℤ z) (sym (get-negated a i)))
  where
    turned : (y k z : ℤ) → y +ℤ k *ℤ z ≡ y +ℤ neg_ℤ k *ℤ neg_ℤ z
    turned y k z = same_number (dv y ⊕ dv k ⊗ dv z) (dv y ⊕ dneg (dv k) ⊗ dneg (dv z)) (omega arith)

pub apart-weight : (v a : List ℤ) (x y : Exponents) → dot a v ≡ pos 0 → AreMultipleApart a x y →
    whole_weight v x ≡ whole_weight v y
apart-weight v a x y o h = weight-apart v a x y h.0 h.1 ∙ ap (λ z. whole_weight v y +ℤ h.0 *ℤ z) o ∙ same_number (dv (whole_weight v y) ⊕ dv h.0 ⊗ dn 0)
    (dv (whole_weight v y)) (omega arith)

-- a monomial that weighs as the mark is a multiple apart from it
along-mark : (v a : List ℤ) (b : MarkedPolynomial) (x : Exponents) → IsNonzero a → IsMarked (IsBeyond v a) b →
    HasMonomial b.poly x → whole_weight v x ≡ whole_weight v b.head → AreMultipleApart a x b.head
along-mark v a b x nz m h e = at (m.tail x h)
  where
    at : (same x b.head ≡ true) ⊎ IsBeyond v a x b.head → AreMultipleApart a x b.head
    at (inl s) = (multiple-grading a nz).along x b.head s
    at (inr (inl l)) = absurd (omega (arith, ints, e, l))
    at (inr (inr f)) = further-apart a x b.head f

-- the part along a of a member
pub level_of_along : (v a : List ℤ) (b p : MarkedPolynomial) → IsNonzero a → dot a v ≡ pos 0 → IsMarked (IsBeyond v a) b →
    IsPartAlong a b p → IsLevelPart v b p
level_of_along v a b p nz o m i = record {
  head = i.head;
  level = λ x e. elim (apart_or_not a nz x b.head) [
    | inl h ↦ i.along x h
    | inr n ↦ i.off x n ∙ sym (elim (zero_or_not (coefficient b.poly x)) [ inl z ↦ z | inr c ↦ absurd (n (along-mark v a b x nz m c e)) ])
  ];
  off = λ x n. i.off x (λ h. n (apart-weight v a x b.head o h));
}

-- and back
pub along_of_level : (v a : List ℤ) (b p : MarkedPolynomial) → IsNonzero a → dot a v ≡ pos 0 → IsMarked (IsBeyond v a) b →
    IsLevelPart v b p → IsPartAlong a b p
along_of_level v a b p nz o m i = record {
  head = i.head;
  along = λ x h. i.level x (apart-weight v a x b.head o h);
  off = λ x n. elim (zero_or_not (coefficient p.poly x)) [ inl z ↦ z | inr c ↦ let q = part-there v b p x i c in absurd (n (along-mark v a b x nz m q.1 q.0)) ];
}

-- ---- each list has parts

-- each list has parts by each weight
pub level_parts : (w : List ℤ) (bs : List MarkedPolynomial) → (ps : List MarkedPolynomial) × Matching (IsLevelPart w) bs ps
level_parts w [] = ([], tt)
level_parts w (b ∷ bs) =
    let r = level_parts w bs in
    let m = whole_weight w b.head in (
      record { poly = of_weight w m b.poly; head = b.head } ∷ r.0,
      (
        record {
          head = refl;
          level = coefficient-on w m b.poly;
          off = coefficient-off w m b.poly;
        },
        r.1,
      ),
    )

-- ---- the parts of one side

-- they are marked by what is further along
pub parts_marked : (n : ℕ) (fs : List Terms) (v a : List ℤ) (bs ps : List MarkedPolynomial) → IsSide n fs v a bs →
    Matching (IsLevelPart v) bs ps → AreMarked (IsFurther a) ps
parts_marked n fs v a bs ps s h p c = at (matched-from (IsLevelPart v) bs ps h p c)
  where
    at : ((b : MarkedPolynomial) × Contains bs b × IsLevelPart v b p) → IsMarked (IsFurther a) p
    at b = record {
      monic = ap (coefficient p.poly) b.2.head ∙ b.2.level b.0.head refl ∙ (s.marked b.0 b.1).monic;
      tail = λ x m. subst (λ (z : Exponents). (same x z ≡ true) ⊎ IsFurther a x z) (sym b.2.head) (let q = part-there v b.0 p x b.2 m in
          index x q.0 ((s.marked b.0 b.1).tail x q.1));
    }
      where
        index : (x : Exponents) → whole_weight v x ≡ whole_weight v b.0.head →
            (same x b.0.head ≡ true) ⊎ IsBeyond v a x b.0.head → (same x b.0.head ≡ true) ⊎ IsFurther a x b.0.head
        index x e (inl t) = inl t
        index x e (inr (inl l)) = absurd (omega (arith, ints, e, l))
        index x e (inr (inr f)) = inr f

-- each lies in one class
pub parts_of_one_class : (n : ℕ) (fs : List Terms) (v a : List ℤ) (bs ps : List MarkedPolynomial) → IsSide n fs v a bs →
    Matching (IsLevelPart v) bs ps → (f : Terms) → Contains (polys ps) f → IsOfOneClass (AreMultipleApart a) f
parts_of_one_class n fs v a bs ps s h f c x y m k = at (Contains-marked ps f c)
  where
    apart_from : (p : MarkedPolynomial) → Contains ps p → (x : Exponents) → HasMonomial p.poly x → AreMultipleApart a x p.head
    apart_from p d x m = elim ((parts_marked n fs v a bs ps s h p d).tail x m) [
      | inl e ↦ (multiple-grading a s.nonzero).along x p.head e
      | inr g ↦ further-apart a x p.head g
    ]

    at : ((p : MarkedPolynomial) × Contains ps p × (p.poly ≡ f)) → AreMultipleApart a x y
    at p =
        let g = multiple-grading a s.nonzero in
        let left = apart_from p.0 p.1 x (subst (λ (z : Terms). HasMonomial z x) (sym p.2) m) in
        let right = apart_from p.0 p.1 y (subst (λ (z : Terms). HasMonomial z y) (sym p.2) k) in
        g.transitive x p.0.head y left (g.symmetric y p.0.head right)

-- the parts of two bases of one ideal in whose closed cones v is generate one ideal
pub same_ideals : (n : ℕ) (fs : List Terms) (v : List ℤ) (bs ps cs qs : List MarkedPolynomial) → AreInVariables n fs →
    IsBasis n fs bs → IsInClosedCone v bs → Matching (IsLevelPart v) bs ps → IsBasis n fs cs → IsInClosedCone v cs →
    Matching (IsLevelPart v) cs qs → AreSameIdeal n (polys qs) (polys ps)
same_ideals n fs v bs ps cs qs vars b k h c l i = record {
  inside = λ f m. from_initial n fs bs ps v f vars b k h (into_initial n fs cs qs v f c (forms cs qs c l i) m);
  back = λ f m. from_initial n fs cs qs v f vars c l i (into_initial n fs bs ps v f b (forms bs ps b k h) m);
}
  where
    forms : (cs qs : List MarkedPolynomial) → IsBasis n fs cs → IsInClosedCone v cs → Matching (IsLevelPart v) cs qs →
        AreInitialParts v cs qs
    forms cs qs c l i =
        matched-map (IsLevelPart v) (IsInitialPart v) cs qs (λ b p d q. initial_of_level v b p (l b d) (mark-there (lighter c.marked.0) b (c.marked.2 b d)) q) i

-- the parts are the reduced basis of an ideal, for the order along the facet
pub side_reduced : (n : ℕ) (fs gs : List Terms) (v a : List ℤ) (bs ps : List MarkedPolynomial) → AreInVariables n fs →
    AreInVariables n gs → IsSide n fs v a bs → Matching (IsLevelPart v) bs ps → AreSameIdeal n (polys ps) gs →
    IsReducedBasisFor n gs (IsFacetBelow (negated_row_of a)) ps
side_reduced n fs gs v a bs ps vars wars s h i =
    let r = parts_reduced n fs bs ps v vars s.reduced (side-weak n fs v a bs s) h in
    reduced_by_order n gs ps (IsFacetBelow (negated_row_of a)) wars (basis_along n (polys ps) gs ps i r.basis) (row-order (negated_row_of a)).strict
    (further_marks a ps s.nonzero (parts_marked n fs v a bs ps s h)) r.tails r.heads

-- ---- two on the same side

-- where each of the parts has a twin among the others', each mark is one of the other list
marks_by_parts : (v u : List ℤ) (bs ps cs qs : List MarkedPolynomial) → Matching (IsLevelPart v) bs ps →
    Matching (IsLevelPart u) cs qs → AreSameBasis ps qs → AreMultiples bs cs
marks_by_parts v u bs ps cs qs h i t b c =
    let p = matched-to (IsLevelPart v) bs ps h b c in
    let q = t.there p.0 p.1 in
    let d = matched-from (IsLevelPart u) cs qs i q.0 q.1 in
    record {
      member = d.0;
      contained = d.1;
      rest = [];
      divides = same_trans b.head p.0.head d.0.head (same_flip p.0.head b.head (same_of p.0.head b.head p.2.head))
          (same_trans p.0.head q.0.head d.0.head q.2.head (same_of q.0.head d.0.head d.2.head));
    }

-- where the ideals of their parts are one, two on the same side are the same, whatever the vectors inside the facet are
pub sides_same : (n : ℕ) (fs gs : List Terms) (v u a : List ℤ) (bs ps cs qs : List MarkedPolynomial) → AreInVariables n fs →
    AreInVariables n gs → IsSide n fs v a bs → Matching (IsLevelPart v) bs ps → AreSameIdeal n (polys ps) gs →
    IsSide n fs u a cs → Matching (IsLevelPart u) cs qs → AreSameIdeal n (polys qs) gs → AreSameBasis bs cs
sides_same n fs gs v u a bs ps cs qs vars wars s h i t k j = contained_same n fs bs cs s.reduced t.reduced (marks_by_parts v u bs ps cs qs h k twins)
  where
    twins : AreSameBasis ps qs
    twins = unique_by_order n gs (IsFacetBelow (negated_row_of a)) ps qs (row-order (negated_row_of a)) (side_reduced n fs gs v a bs ps vars wars s h i)
        (side_reduced n fs gs u a cs qs vars wars t k j)

-- ---- an unmarked monomial along the normal

-- an element that has P, or all have Q
some_or_all : {A : Type 0} (P Q : A → Type 0) → ((x : A) → P x ⊎ Q x) → (xs : List A) →
    ((x : A) × Contains xs x × P x) ⊎ ((x : A) → Contains xs x → Q x)
some_or_all {A} P Q d [] = inr (λ x c. absurd (omega (arith, c.1)))
some_or_all {A} P Q d (x ∷ xs) = at (d x) (some_or_all P Q d xs)
  where
    at : P x ⊎ Q x → ((y : A) × Contains xs y × P y) ⊎ ((y : A) → Contains xs y → Q y) →
        ((y : A) × Contains (x ∷ xs) y × P y) ⊎ ((y : A) → Contains (x ∷ xs) y → Q y)
    at (inl p) r = inl (x, Contains-here x xs, p)
    at (inr q) (inl r) = inl (r.0, Contains-there x r.0 xs r.1, r.2)
    at (inr q) (inr r) = inr (λ y c. elim (Contains-cases x y xs c) [ inl e ↦ subst Q e q | inr k ↦ r y k ])

-- b has an unmarked monomial
abbrev HasOther : MarkedPolynomial → Type 0
HasOther b = (x : Exponents) × HasMonomial b.poly x × (same x b.head ≡ false)

-- or it has none
abbrev HasNoOther : MarkedPolynomial → Type 0
HasNoOther b = (x : Exponents) → HasMonomial b.poly x → same x b.head ≡ true

other_or_not : (b : MarkedPolynomial) → HasOther b ⊎ HasNoOther b
other_or_not b = at ((top_heaviest []).some (without b.head b.poly))
  where
    off : (x : Exponents) → same x b.head ≡ false → coefficient b.poly x ≡ coefficient (without b.head b.poly) x
    off x e = apart b.head b.poly x ∙ ap (λ t. (if t then coefficient b.poly b.head else zero_ℚ) +ℚ coefficient (without b.head b.poly) x) e ∙ zero-+ℚ _

    at : SamePolynomial (without b.head b.poly) [] ⊎ ((x : Exponents) × IsHeaviest [] (without b.head b.poly) x) →
        HasOther b ⊎ HasNoOther b
    at (inl z) = inr (λ x m. elim (same_or_not x b.head) [ inl s ↦ s | inr e ↦ absurd (m (off x e ∙ z x)) ])
    at (inr t) = elim (same_or_not t.0 b.head) [
      | inl s ↦ absurd (t.1.there (none_left b.head t.0 b.poly s))
      | inr e ↦ inl (t.0, (λ z. t.1.there (sym (off t.0 e) ∙ z)), e)
    ]

-- of two sides, with vectors that are negatives of one another: where the one has a monomial further along, so has the other
pub side_further : (n : ℕ) (fs : List Terms) (v a b : List ℤ) (bs cs : List MarkedPolynomial) → AreInVariables n fs →
    IsSide n fs v b bs → IsSide n fs v a cs → HasFurther bs b → HasFurther cs a
side_further n fs v a b bs cs vars s t h = at (level_parts v bs) (level_parts v cs)
  where
    at : ((ps : List MarkedPolynomial) × Matching (IsLevelPart v) bs ps) →
        ((qs : List MarkedPolynomial) × Matching (IsLevelPart v) cs qs) → HasFurther cs a
    at p q = decide (some_or_all HasOther HasNoOther other_or_not q.0)
      where
        found : (r : MarkedPolynomial) → Contains q.0 r → (x : Exponents) → HasMonomial r.poly x → same x r.head ≡ false → HasFurther cs a
        found r c x m e =
            let d = matched-from (IsLevelPart v) cs q.0 q.1 r c in
            record {
              member = d.0;
              contained = d.1;
              at = x;
              there = (part-there v d.0 r x d.2 m).1;
              further = subst (λ (z : Exponents). IsFurther a x z) d.2.head (index ((parts_marked n fs v a cs q.0 t q.1 r c).tail x m));
            }
          where
            index : (same x r.head ≡ true) ⊎ IsFurther a x r.head → IsFurther a x r.head
            index (inl y) = absurd (cc)
            index (inr f) = f

        vars_ps : AreInVariables n (polys p.0)
        vars_ps = parts-variables n bs p.0 v (λ d c. variables_of_member n fs d.poly vars (s.reduced.basis.members d c)) p.1

        decide : ((r : MarkedPolynomial) × Contains q.0 r × HasOther r) ⊎ ((r : MarkedPolynomial) → Contains q.0 r → HasNoOther r) → HasFurther cs a
        decide (inl r) = found r.0 r.1 r.2.0 r.2.1 r.2.2
        decide (inr all) = clash (matched-to (IsLevelPart v) bs p.0 p.1 h.member h.contained)
          where
            ideals : AreSameIdeal n (polys q.0) (polys p.0)
            ideals = same_ideals n fs v bs p.0 cs q.0 vars s.reduced.basis (side-weak n fs v b bs s) p.1 t.reduced.basis (side-weak n fs v a cs t) q.1

            -- a list without unmarked monomials is marked by anything
            others : IsReducedBasisFor n (polys p.0) (IsFacetBelow (negated_row_of b)) q.0
            others =
                let r = parts_reduced n fs cs q.0 v vars t.reduced (side-weak n fs v a cs t) q.1 in
                reduced_by_order n (polys p.0) q.0 (IsFacetBelow (negated_row_of b)) vars_ps (basis_along n (polys q.0) (polys p.0) q.0 ideals r.basis)
                (row-order (negated_row_of b)).strict
                (λ d c. record { monic = (parts_marked n fs v a cs q.0 t q.1 d c).monic; tail = λ x m. inl (all d c x m) }) r.tails r.heads

            twins : AreSameBasis p.0 q.0
            twins = unique_by_order n (polys p.0) (IsFacetBelow (negated_row_of b)) p.0 q.0 (row-order (negated_row_of b))
                (side_reduced n fs (polys p.0) v b bs p.0 vars vars_ps s p.1 (record { inside = λ f m. m; back = λ f m. m })) others

            clash : ((d : MarkedPolynomial) × Contains p.0 d × IsLevelPart v h.member d) → HasFurther cs a
            clash d = unmarked (twins.there d.0 d.1)
              where
                there : HasMonomial d.0.poly h.at
                there z = h.there (sym (d.2.level h.at (further-weight v b h.at h.member.head s.zero h.further)) ∙ z)

                strict : same h.at h.member.head ≡ true → ⊥
                strict e = (further-strict b s.nonzero).irreflexive h.at h.member.head e h.further

                unmarked : ((e : MarkedPolynomial) × Contains q.0 e × IsTwin d.0 e) → HasFurther cs a
                unmarked e = absurd (strict (same_trans h.at e.0.head h.member.head (all e.0 e.1 h.at (λ z. there (e.2.poly h.at ∙ z)))
                    (same_trans e.0.head d.0.head h.member.head (same_flip d.0.head e.0.head e.2.head) (same_of d.0.head h.member.head d.2.head))))
