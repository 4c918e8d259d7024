-- Lifts: members of the ideal whose initial forms are the members of a basis of the parts. There are some, and they are a
-- basis on the other side.
-- To cite: lifted_marked, lifted_of_lower, lifted_of_taken, lifted_of_lift, lifted_of_top, lifted_marks, lifted_basis, lifts_exist.
use Rattle.std.proofs.Common.{◌≡◌, ◌⊎◌, ◌≢◌, ℕ, true, List, [], ◌∷◌, ◌++◌, length, Contains, ℤ, pos, ◌<ℤ◌, ◌≤ℤ◌, arith, refl, sym, ap, ◌∙◌, subst, inl, inr}
use Rattle.std.proofs.lemmas.Int.{ints}
use Rattle.gf_frac.specs.Fraction.{◌+ℚ◌, neg_ℚ, zero_ℚ, one_ℚ}
use Rattle.gf_frac.proofs.FractionLaws.{zero_or_not}
use Rattle.gf_exponents_theory.specs.Exponents.{Exponents, same, whole_weight}
use Rattle.gf_exponents_theory.proofs.ExponentsLaws.{same_flip}
use Rattle.gf_exponents_theory.proofs.WholeWeightLaws.{whole_weight-same}
use Rattle.gf_int_theory.proofs.ListLaws.{Contains-here}
use Rattle.gf_poly.specs.Polynomial.{Terms, coefficient, SamePolynomial, times}
use Rattle.gf_poly.specs.Marking.{MarkedPolynomial, polys}
use Rattle.gf_poly.specs.InitialForms.{IsInitialForm, IsOfGreatestWeight}
use Rattle.gf_vec.specs.Vector.{dot}
use Rattle.gf_ideal_theory.specs.Membership.{HasMonomial, IsInVariables, AreInVariables, IsMember}
use Rattle.gf_ideal_theory.specs.Marks.{IsMarked, AreMarked}
use Rattle.gf_ideal_theory.specs.Reduction.{IsIrreducible}
use Rattle.gf_ideal_theory.specs.OrderTable.{AreMultipleApart}
use Rattle.gf_ideal_theory.specs.Bases.{AreMembers, IsBasis}
use Rattle.gf_ideal_theory.proofs.ListLaws.{Contains-there}
use Rattle.gf_ideal_theory.proofs.Identities.{one_not_zero}
use Rattle.gf_ideal_theory.proofs.OrderWeights.{IsGrading}
use Rattle.gf_ideal_theory.proofs.StepLaws.{IsClosed, closed_downward, AreTaken, taken}
use Rattle.gf_facets_theory.specs.Rows.{negated}
use Rattle.gf_facets_theory.specs.Regions.{Region, IsInRegion}
use Rattle.gf_initial_theory.specs.Parts.{Matching}
use Rattle.gf_facets_theory.specs.Facets.{IsInClosedCone}
use Rattle.gf_facets_theory.specs.Beyond.{IsFurther, IsBeyond}
use Rattle.gf_initial_theory.specs.Lifts.{IsLift, IsLifted, AreLifted, IsTopLift}
use Rattle.gf_facets_theory.proofs.VectorLaws.{three, IsNonzero}
use Rattle.gf_facets_theory.proofs.WholeLaws.{beyond-strict, further-weight}
use Rattle.gf_initial_theory.proofs.MatchingLaws.{matched-from}
use Rattle.gf_initial_theory.proofs.PartLaws.{IsLevelPart}
use Rattle.gf_bases_theory.proofs.DifferenceLaws.{difference, less_zero}
use Rattle.gf_initial_theory.proofs.InitialLaws.{remainder_below}
use Rattle.gf_facets_theory.proofs.RegionLaws.{beyond-positive}
use Rattle.gf_initial_theory.proofs.ClassLaws.{multiple-grading}
use Rattle.gf_initial_theory.proofs.LiftLaws.{further-flat, AreTakenUnder, lift-taken, taken_exists, taken_member, part_ring, lifts_decide}
use Rattle.gf_initial_theory.proofs.SideLaws.{IsSide, side-weak, further-apart, apart-negated}

-- ---- one lift

-- no monomial of a lift is heavier than its mark
lifted-heaviest : (n : ℕ) (fs : List Terms) (v a : List ℤ) (h l : MarkedPolynomial) → IsMarked (IsFurther a) h →
    IsLifted n fs v h l → IsOfGreatestWeight v l.poly h.head
lifted-heaviest n fs v a h l mark t y m = at (three (whole_weight v h.head) (whole_weight v y))
  where
    at : (whole_weight v h.head <ℤ whole_weight v y) ⊎ ((whole_weight v h.head ≡ whole_weight v y) ⊎ (whole_weight v y <ℤ whole_weight v h.head)) →
        whole_weight v y ≤ℤ whole_weight v h.head
    at (inl d) = absurd (one_not_zero (sym mark.monic ∙ t.form.lighter h.head y m d))
    at (inr (inl e)) = omega (arith, ints, e)
    at (inr (inr d)) = omega (arith, ints, d)

-- its monomials are the mark, lighter, or further along
pub lifted_marked : (n : ℕ) (fs : List Terms) (v a : List ℤ) (h l : MarkedPolynomial) → IsMarked (IsFurther a) h →
    IsLifted n fs v h l → IsMarked (IsBeyond v a) l
lifted_marked n fs v a h l mark t = record {
  monic = ap (coefficient l.poly) t.head ∙ sym (t.form.heaviest h.head top) ∙ mark.monic;
  tail = λ x m. subst (λ (z : Exponents). (same x z ≡ true) ⊎ IsBeyond v a x z) (sym t.head) (index x m (three (whole_weight v x) (whole_weight v h.head)));
}
  where
    top : IsOfGreatestWeight v l.poly h.head
    top = lifted-heaviest n fs v a h l mark t

    index : (x : Exponents) → HasMonomial l.poly x →
        (whole_weight v x <ℤ whole_weight v h.head) ⊎ ((whole_weight v x ≡ whole_weight v h.head) ⊎ (whole_weight v h.head <ℤ whole_weight v x)) →
        (same x h.head ≡ true) ⊎ IsBeyond v a x h.head
    index x m (inl d) = inr (inl d)
    index x m (inr (inl e)) = elim (mark.tail x (λ z. m (sym (t.form.heaviest x (λ y k. omega (arith, ints, top y k, e))) ∙ z))) [
      | inl s ↦ inl s
      | inr f ↦
          inr (inr f)
    ]
    index x m (inr (inr d)) = absurd (omega (arith, ints, d, top x m))

-- what lighter terms are taken from is the initial form
lower-form : (v a : List ℤ) (h l : MarkedPolynomial) (r : Terms) → dot a v ≡ pos 0 → IsMarked (IsFurther a) h →
    ((x : Exponents) → HasMonomial r x → whole_weight v x <ℤ whole_weight v h.head) →
    SamePolynomial l.poly (h.poly ++ times (neg_ℚ one_ℚ) [] r) → IsInitialForm v l.poly h.poly
lower-form v a h l r o mark lower poly = record {
  heaviest = λ x k. at x k (zero_or_not (coefficient r x));
  lighter = λ x y m d. elim (zero_or_not (coefficient h.poly x)) [
    | inl z ↦ z
    | inr c ↦ absurd (omega (arith, ints, d, under y m, further-flat v a h o mark x c))
  ];
}
  where
    parts : (x : Exponents) → coefficient l.poly x ≡ coefficient h.poly x +ℚ neg_ℚ (coefficient r x)
    parts x = poly x ∙ difference h.poly r x

    level : (x : Exponents) → coefficient r x ≡ zero_ℚ → coefficient l.poly x ≡ coefficient h.poly x
    level x z = parts x ∙ ap (λ c. coefficient h.poly x +ℚ neg_ℚ c) z ∙ less_zero (coefficient h.poly x)

    there : HasMonomial l.poly h.head
    there z = one_not_zero (sym mark.monic ∙ sym (level h.head none) ∙ z)
      where
        none : coefficient r h.head ≡ zero_ℚ
        none = elim (zero_or_not (coefficient r h.head)) [ inl y ↦ y | inr m ↦ absurd (omega (arith, ints, lower h.head m)) ]

    at : (x : Exponents) → IsOfGreatestWeight v l.poly x → (coefficient r x ≡ zero_ℚ) ⊎ (coefficient r x ≢ zero_ℚ) → coefficient h.poly x ≡ coefficient l.poly x
    at x k (inl z) = sym (level x z)
    at x k (inr m) = absurd (omega (arith, ints, k h.head there, lower x m))

    under : (y : Exponents) → HasMonomial l.poly y → whole_weight v y ≤ℤ whole_weight v h.head
    under y m = elim (zero_or_not (coefficient r y)) [
      | inl z ↦ omega (arith, ints, further-flat v a h o mark y (λ c. m (level y z ∙ c)))
      | inr c ↦ omega (arith, ints, lower y c)
    ]

-- a polynomial further along, in the ring, less what multiples leave where all of that is lighter
pub lifted_of_lower : (n : ℕ) (fs : List Terms) (bs : List MarkedPolynomial) (v a : List ℤ) (h l : MarkedPolynomial) (r : Terms) →
    AreInVariables n fs → IsBasis n fs bs → dot a v ≡ pos 0 → IsInVariables n h.poly → IsMarked (IsFurther a) h →
    AreTakenUnder n v bs h r → ((x : Exponents) → HasMonomial r x → whole_weight v x <ℤ whole_weight v h.head) →
    l.head ≡ h.head → SamePolynomial l.poly (h.poly ++ times (neg_ℚ one_ℚ) [] r) → IsLifted n fs v h l
lifted_of_lower n fs bs v a h l r vars basis o ring mark w lower head poly = record {
  member = taken_member n fs bs v h l r vars basis ring w poly;
  head = head;
  form = lower-form v a h l r o mark lower poly;
}

-- less an irreducible remainder
pub lifted_of_taken : (n : ℕ) (fs : List Terms) (bs ps : List MarkedPolynomial) (v a : List ℤ) (h l : MarkedPolynomial) (r : Terms) →
    AreInVariables n fs → IsBasis n fs bs → IsInClosedCone v bs → Matching (IsLevelPart v) bs ps → dot a v ≡ pos 0 →
    IsMember n (polys ps) h.poly → IsMarked (IsFurther a) h → AreTakenUnder n v bs h r → IsIrreducible (Contains bs) r →
    l.head ≡ h.head → SamePolynomial l.poly (h.poly ++ times (neg_ℚ one_ℚ) [] r) → IsLifted n fs v h l
lifted_of_taken n fs bs ps v a h l r vars basis k match o mem mark w i head poly =
    lifted_of_lower n fs bs v a h l r vars basis o (part_ring n fs bs ps v h.poly vars basis match mem) mark w
    (remainder_below n fs bs ps v (whole_weight v h.head) h.poly r w vars basis k match mem (further-flat v a h o mark) i)
    head poly

-- less its remainder by steps
pub lifted_of_lift : (n : ℕ) (fs : List Terms) (bs ps : List MarkedPolynomial) (v a : List ℤ) (h l : MarkedPolynomial) →
    AreInVariables n fs → IsBasis n fs bs → IsInClosedCone v bs → Matching (IsLevelPart v) bs ps → dot a v ≡ pos 0 →
    IsMember n (polys ps) h.poly → IsMarked (IsFurther a) h → IsLift bs h l → IsLifted n fs v h l
lifted_of_lift n fs bs ps v a h l vars basis k match o mem mark t = lifted_of_taken n fs bs ps v a h l t.remainder vars basis k match o mem mark
    (lift-taken n fs bs v a h t.remainder vars basis k o (part_ring n fs bs ps v h.poly vars basis match mem) mark t.reached) t.irreducible t.head t.poly

-- ---- lifts that end early

-- at most of a weight, and where it is of that weight, a multiple of a apart from x
abbrev pub IsOnLine : List ℤ → List ℤ → Exponents → Exponents → Type 0
IsOnLine v a x y = (whole_weight v y ≤ℤ whole_weight v x) × (whole_weight v y ≡ whole_weight v x → AreMultipleApart a y x)

-- which steps don't leave
closed-line : (n : ℕ) (fs : List Terms) (v a : List ℤ) (bs : List MarkedPolynomial) (h : Exponents) → IsNonzero a →
    IsSide n fs v (negated a) bs → IsClosed (Contains bs) (IsOnLine v a h)
closed-line n fs v a bs h nz s = closed_downward (Contains bs) (IsBeyond v (negated a)) (IsOnLine v a h) (beyond-strict v (negated a) s.zero s.nonzero) s.marked
    (λ x y e q. (
      omega (arith, ints, whole_weight-same v x y e, q.0),
      λ k. g.transitive y x h (g.along y x (same_flip x y e))
          (q.1 (omega (arith, ints, whole_weight-same v x y e, k))),
    ))
    lower
  where
    g : IsGrading (AreMultipleApart a)
    g = multiple-grading a nz

    lower : (x y : Exponents) → IsBeyond v (negated a) x y → IsOnLine v a h y → IsOnLine v a h x
    lower x y (inl d) q = (omega (arith, ints, d, q.0), λ e. absurd (omega (arith, ints, d, q.0, e)))
    lower x y (inr f) q =
        let w = further-weight v (negated a) x y s.zero f in
        (omega (arith, ints, w, q.0), λ e. g.transitive x y h (apart-negated a x y (further-apart (negated a) x y f)) (q.1 (omega (arith, ints, w, e))))

-- what is left off the line is lighter
pub lifted_of_top : (n : ℕ) (fs : List Terms) (bs : List MarkedPolynomial) (v a : List ℤ) (h l : MarkedPolynomial) →
    AreInVariables n fs → IsSide n fs v (negated a) bs → IsNonzero a → dot a v ≡ pos 0 → IsInVariables n h.poly →
    IsMarked (IsFurther a) h → IsTopLift bs a h l → IsLifted n fs v h l
lifted_of_top n fs bs v a h l vars s nz o ring mark t =
    lifted_of_lower n fs bs v a h l t.remainder vars s.reduced.basis o ring mark (lift-taken n fs bs v a h t.remainder vars s.reduced.basis
    (side-weak n fs v (negated a) bs s) o ring mark t.reached) lower t.head t.poly
  where
    g : IsGrading (AreMultipleApart a)
    g = multiple-grading a nz

    start : (x : Exponents) → HasMonomial h.poly x → IsOnLine v a h.head x
    start x m = (
      omega (arith, ints, further-flat v a h o mark x m),
      λ e. elim (mark.tail x m) [
        | inl q ↦ g.along x h.head q
        | inr f ↦ further-apart a x h.head f
      ],
    )

    w : AreTaken (Contains bs) (IsOnLine v a h.head) h.poly t.remainder
    w = taken (Contains bs) (IsOnLine v a h.head) h.poly t.remainder (closed-line n fs v a bs h.head nz s) start t.reached

    lower : (x : Exponents) → HasMonomial t.remainder x → whole_weight v x <ℤ whole_weight v h.head
    lower x m = at (three (whole_weight v x) (whole_weight v h.head))
      where
        at : (whole_weight v x <ℤ whole_weight v h.head) ⊎ ((whole_weight v x ≡ whole_weight v h.head) ⊎ (whole_weight v h.head <ℤ whole_weight v x)) →
            whole_weight v x <ℤ whole_weight v h.head
        at (inl d) = d
        at (inr (inl e)) = absurd (t.off x m ((w.within x m).1 e))
        at (inr (inr d)) = absurd (omega (arith, ints, d, (w.within x m).0))

-- ---- all lifts

-- their marks
pub lifted_marks : (n : ℕ) (fs : List Terms) (v a : List ℤ) (hs ls : List MarkedPolynomial) → AreMarked (IsFurther a) hs →
    AreLifted n fs v hs ls → AreMarked (IsBeyond v a) ls
lifted_marks n fs v a hs ls marks lifts l c = let h = matched-from (IsLifted n fs v) hs ls lifts l c in lifted_marked n fs v a h.0 l (marks h.0 h.1) h.2

-- the lifts of a basis of the parts, marked by what is further along, are a basis
pub lifted_basis : (n : ℕ) (fs : List Terms) (k : Region) (bs ps hs ls : List MarkedPolynomial) (v a : List ℤ) →
    AreInVariables n fs → IsBasis n fs bs → IsInClosedCone v bs → Matching (IsLevelPart v) bs ps → IsInRegion n k v →
    length a ≡ n → IsNonzero a → dot a v ≡ pos 0 → IsBasis n (polys ps) hs → AreMarked (IsFurther a) hs →
    AreLifted n fs v hs ls → IsBasis n fs ls
lifted_basis n fs k bs ps hs ls v a vars basis weak match r e nz o parts marks lifts = record {
  members = λ l c. (matched-from (IsLifted n fs v) hs ls lifts l c).2.member;
  marked = beyond-positive n k v a ls r e nz o (lifted_marks n fs v a hs ls marks lifts);
  decides = λ f m i. lifts_decide (IsLifted n fs v) (λ h l q. q.head) n fs bs ps hs ls v f vars basis weak match parts lifts m i;
}

-- each list has lifts
pub lifts_exist : (n : ℕ) (fs : List Terms) (bs ps hs : List MarkedPolynomial) (v a : List ℤ) → AreInVariables n fs →
    IsBasis n fs bs → IsInClosedCone v bs → Matching (IsLevelPart v) bs ps → dot a v ≡ pos 0 →
    AreMembers n (polys ps) hs → AreMarked (IsFurther a) hs → (ls : List MarkedPolynomial) × AreLifted n fs v hs ls
lifts_exist n fs bs ps [] v a vars basis k match o inside marks = ([], tt)
lifts_exist n fs bs ps (h ∷ hs) v a vars basis k match o inside marks =
    at (taken_exists n fs bs v a h vars basis k o (part_ring n fs bs ps v h.poly vars basis match (inside h (Contains-here h hs)))
    (marks h (Contains-here h hs)))
    (lifts_exist n fs bs ps hs v a vars basis k match o (λ g c. inside g (Contains-there h g hs c)) (λ g c. marks g (Contains-there h g hs c)))
  where
    at : ((r : Terms) × AreTakenUnder n v bs h r × IsIrreducible (Contains bs) r) → ((ls : List MarkedPolynomial) × AreLifted n fs v hs ls) →
        (ls : List MarkedPolynomial) × AreLifted n fs v (h ∷ hs) ls
    at q rest = (
      l ∷ rest.0,
      (
        lifted_of_taken n fs bs ps v a h l q.0 vars basis k match o (inside h (Contains-here h hs)) (marks h (Contains-here h hs))
            q.1 q.2 refl (λ x. refl),
        rest.1,
      ),
    )
      where
        l : MarkedPolynomial
        l = record { poly = h.poly ++ times (neg_ℚ one_ℚ) [] q.0; head = h.head }
