-- Initial forms of a basis: in the closed cone of its marking they are a basis, of the initial ideal.
-- To cite: IsLevelPart, level_of_initial, initial_of_level, part-there, parts-variables, divisible_part, divisible_whole,
-- parts_decide, parts_basis, parts_reduced, IsTopPart, IsUnder, top_of_pieces, closed-under, top_part.
use Rattle.std.proofs.Common.{◌≡◌, ◌⊎◌, ◌≢◌, ℕ, true, List, [], ◌∷◌, ◌++◌, Contains, ℤ, ◌<ℤ◌, ◌≤ℤ◌, arith, refl, sym, ap, ◌∙◌, subst, inl, inr}
use Rattle.std.proofs.lemmas.Int.{ints}
use Rattle.gf_frac.specs.Fraction.{Fraction, ◌+ℚ◌, ◌*ℚ◌, zero_ℚ}
use Rattle.gf_frac.proofs.FractionLaws.{zero-+ℚ, zero_or_not}
use Rattle.gf_exponents_theory.specs.Exponents.{Exponents, same, plus, whole_weight, IsInRing}
use Rattle.gf_exponents_theory.specs.Orders.{lighter}
use Rattle.gf_exponents_theory.proofs.ExponentsLaws.{multiple_or_not}
use Rattle.gf_exponents_theory.proofs.WholeWeightLaws.{whole_weight-same}
use Rattle.gf_poly.specs.Polynomial.{Terms, coefficient, SamePolynomial, times}
use Rattle.gf_poly.specs.Marking.{MarkedPolynomial, Each, polys}
use Rattle.gf_poly.proofs.PolynomialLaws.{coefficient-++, coefficient-same, coefficient-times, coefficient-times-none}
use Rattle.gf_ideal_theory.specs.Membership.{HasMonomial, IsInVariables, AreInVariables, IsMember, Spans}
use Rattle.gf_ideal_theory.specs.Marks.{IsMarked, Piece, level, value}
use Rattle.gf_ideal_theory.specs.Reduction.{IsDivisible, IsIrreducible}
use Rattle.gf_ideal_theory.specs.Bases.{AreMembers, IsBasis, IsGreatest}
use Rattle.gf_ideal_theory.proofs.TermLaws.{nothing_there}
use Rattle.gf_ideal_theory.proofs.RingLaws.{in_ring, ring-along, ring-left}
use Rattle.gf_ideal_theory.proofs.MembershipLaws.{member-zero, member-generator, member-++, member-times, variables_of_member, spans_of_member}
use Rattle.gf_ideal_theory.proofs.PieceLaws.{Contains-polys, Contains-marked}
use Rattle.gf_ideal_theory.proofs.StepLaws.{IsClosed, IsPieceIn, closed-both, closed-ring}
use Rattle.gf_ideal_theory.proofs.LeadingLaws.{top_greatest}
use Rattle.gf_ideal_theory.proofs.BasisLaws.{basis_greatest, member_pieces}
use Rattle.gf_initial_theory.specs.Parts.{Matching, IsInitialPart}
use Rattle.gf_facets_theory.specs.Facets.{IsWeaklyMarked, IsInClosedCone}
use Rattle.gf_facets_theory.specs.MarkedBases.{IsMarkedReduced}
use Rattle.gf_facets_theory.proofs.VectorLaws.{three}
use Rattle.gf_facets_theory.proofs.WholeLaws.{weight-product, IsTilted, tilted-strict, tilted-order}
use Rattle.gf_initial_theory.proofs.MatchingLaws.{matched-from, matched-to, matched-apart}

-- ---- the terms that weigh as the mark

-- p has the terms of b that weigh as the mark, and the same mark
pub record IsLevelPart (w : List ℤ) (b p : MarkedPolynomial) : Type 0 where
  pub head : p.head ≡ b.head
  pub level : (x : Exponents) → whole_weight w x ≡ whole_weight w b.head → coefficient p.poly x ≡ coefficient b.poly x
  pub off : (x : Exponents) → (whole_weight w x ≡ whole_weight w b.head → ⊥) → coefficient p.poly x ≡ zero_ℚ

-- a monomial that is heavier than the mark isn't there
too_heavy : (w : List ℤ) (b : MarkedPolynomial) (x : Exponents) → IsWeaklyMarked w b →
    whole_weight w b.head <ℤ whole_weight w x → coefficient b.poly x ≡ zero_ℚ
too_heavy w b x k l = elim (zero_or_not (coefficient b.poly x)) [ inl z ↦ z | inr n ↦ absurd (omega (arith, ints, k x n, l)) ]

-- the initial form has these terms
pub level_of_initial : (w : List ℤ) (b p : MarkedPolynomial) → IsWeaklyMarked w b → HasMonomial b.poly b.head →
    IsInitialPart w b p → IsLevelPart w b p
level_of_initial w b p k m i = record {
  head = i.head;
  level = λ x e. i.form.heaviest x (λ y n. omega (arith, ints, k y n, e));
  off = λ x n. at x n (three (whole_weight w x) (whole_weight w b.head));
}
  where
    at : (x : Exponents) → (whole_weight w x ≡ whole_weight w b.head → ⊥) →
        (whole_weight w x <ℤ whole_weight w b.head) ⊎ ((whole_weight w x ≡ whole_weight w b.head) ⊎ (whole_weight w b.head <ℤ whole_weight w x)) →
        coefficient p.poly x ≡ zero_ℚ
    at x n (inl l) = i.form.lighter x b.head m l
    at x n (inr (inl e)) = absurd (n e)
    at x n (inr (inr l)) = i.form.heaviest x (λ y h. omega (arith, ints, k y h, l)) ∙ too_heavy w b x k l

-- and back
pub initial_of_level : (w : List ℤ) (b p : MarkedPolynomial) → IsWeaklyMarked w b → HasMonomial b.poly b.head →
    IsLevelPart w b p → IsInitialPart w b p
initial_of_level w b p k m i = record {
  head = i.head;
  form = record {
    heaviest = λ x h. at x h (three (whole_weight w x) (whole_weight w b.head));
    lighter = λ x y n l. i.off x (λ e. absurd (omega (arith, ints, k y n, l, e)));
  };
}
  where
    at : (x : Exponents) → ((y : Exponents) → coefficient b.poly y ≢ zero_ℚ → whole_weight w y ≤ℤ whole_weight w x) →
        (whole_weight w x <ℤ whole_weight w b.head) ⊎ ((whole_weight w x ≡ whole_weight w b.head) ⊎ (whole_weight w b.head <ℤ whole_weight w x)) →
        coefficient p.poly x ≡ coefficient b.poly x
    at x h (inl l) = absurd (omega (arith, ints, h b.head m, l))
    at x h (inr (inl e)) = i.level x e
    at x h (inr (inr l)) = i.off x (λ e. absurd (omega (arith, ints, l, e))) ∙ sym (too_heavy w b x k l)

-- a monomial of the part is one of the whole, and weighs as the mark
pub part-there : (w : List ℤ) (b p : MarkedPolynomial) (x : Exponents) → IsLevelPart w b p → HasMonomial p.poly x →
    (whole_weight w x ≡ whole_weight w b.head) × HasMonomial b.poly x
part-there w b p x i n = at (three (whole_weight w x) (whole_weight w b.head))
  where
    at : (whole_weight w x <ℤ whole_weight w b.head) ⊎ ((whole_weight w x ≡ whole_weight w b.head) ⊎ (whole_weight w b.head <ℤ whole_weight w x)) →
        (whole_weight w x ≡ whole_weight w b.head) × HasMonomial b.poly x
    at (inl l) = absurd (n (i.off x (λ e. absurd (omega (arith, ints, l, e)))))
    at (inr (inl e)) = (e, λ z. n (i.level x e ∙ z))
    at (inr (inr l)) = absurd (n (i.off x (λ e. absurd (omega (arith, ints, l, e)))))

-- ---- multiples

shift_level : (w : List ℤ) (u x y h : Exponents) → same x (plus u y) ≡ true → whole_weight w x ≡ whole_weight w (plus u h) →
    whole_weight w y ≡ whole_weight w h
shift_level w u x y h s e = omega (arith, ints, whole_weight-same w x (plus u y) s, weight-product w u y, weight-product w u h, e)

level_shift : (w : List ℤ) (u x y h : Exponents) → same x (plus u y) ≡ true → whole_weight w y ≡ whole_weight w h →
    whole_weight w x ≡ whole_weight w (plus u h)
level_shift w u x y h s e = omega (arith, ints, whole_weight-same w x (plus u y) s, weight-product w u y, weight-product w u h, e)

-- a multiple of the part is the multiple of the whole at the weight of its mark
times-level : (w : List ℤ) (b p : MarkedPolynomial) (c : Fraction) (u x : Exponents) → IsLevelPart w b p →
    whole_weight w x ≡ whole_weight w (plus u b.head) → coefficient (times c u p.poly) x ≡ coefficient (times c u b.poly) x
times-level w b p c u x i e = elim (multiple_or_not u x) [
  | inl m ↦ coefficient-same (times c u p.poly) x (plus u m.0) m.1 ∙ coefficient-times c u p.poly m.0
      ∙ ap (λ z. c *ℚ z) (i.level m.0 (shift_level w u x m.0 b.head m.1 e))
      ∙ sym (coefficient-times c u b.poly m.0) ∙ sym (coefficient-same (times c u b.poly) x (plus u m.0) m.1)
  | inr n ↦ coefficient-times-none c u p.poly x n ∙ sym (coefficient-times-none c u b.poly x n)
]

-- and nothing elsewhere
times-off : (w : List ℤ) (b p : MarkedPolynomial) (c : Fraction) (u x : Exponents) → IsLevelPart w b p →
    (whole_weight w x ≡ whole_weight w (plus u b.head) → ⊥) → coefficient (times c u p.poly) x ≡ zero_ℚ
times-off w b p c u x i n = nothing_there c u p.poly x (λ y k s. k (i.off y (λ e. n (level_shift w u x y b.head s e))))

-- a multiple of the whole has nothing above its mark
times-over : (w : List ℤ) (b : MarkedPolynomial) (c : Fraction) (u x : Exponents) → IsWeaklyMarked w b →
    whole_weight w (plus u b.head) <ℤ whole_weight w x → coefficient (times c u b.poly) x ≡ zero_ℚ
times-over w b c u x k l = nothing_there c u b.poly x (λ y n s. absurd (omega (
  arith,
  ints,
  k y n,
  l,
  whole_weight-same w x (plus u y) s,
  weight-product w u y,
  weight-product w u b.head,
)))

-- ---- a member of the ideal of the parts is what weighs d of a member of the ideal

record IsRaised (n : ℕ) (fs : List Terms) (w : List ℤ) (d : ℤ) (q : Terms) : Type 0 where
  poly : Terms
  member : IsMember n fs poly
  level : (x : Exponents) → IsInRing n x → whole_weight w x ≡ d → coefficient poly x ≡ coefficient q x
  over : (x : Exponents) → d <ℤ whole_weight w x → coefficient poly x ≡ zero_ℚ

raised : (n : ℕ) (fs : List Terms) (bs ps : List MarkedPolynomial) (w : List ℤ) (d : ℤ) → AreMembers n fs bs →
    IsInClosedCone w bs → Matching (IsLevelPart w) bs ps → (q : Terms) → Spans (polys ps) q → IsRaised n fs w d q
raised n fs bs ps w d m k h q (Spans.none f z) = record { poly = []; member = member-zero n fs; level = λ x r e. sym (z x); over = λ x l. refl }
raised n fs bs ps w d m k h q (Spans.more c u f j g i s e) = at (Contains-marked ps f i) (raised n fs bs ps w d m k h g s)
  where
    by : (p b : MarkedPolynomial) → Contains bs b → IsLevelPart w b p → p.poly ≡ f → IsRaised n fs w d g →
        IsInRing n u ⊎ (IsInRing n u → ⊥) →
        (whole_weight w (plus u b.head) <ℤ d) ⊎ ((whole_weight w (plus u b.head) ≡ d) ⊎ (d <ℤ whole_weight w (plus u b.head))) →
        IsRaised n fs w d q
    by p b hb part z r ring index = choose ring index
      where
        sum : (x : Exponents) → coefficient q x ≡ coefficient (times c u p.poly) x +ℚ coefficient g x
        sum x = e x ∙ ap (λ y. coefficient (times c u y ++ g) x) (sym z) ∙ coefficient-++ (times c u p.poly) g x

        dropped : ((x : Exponents) → IsInRing n x → whole_weight w x ≡ d → coefficient (times c u p.poly) x ≡ zero_ℚ) →
            IsRaised n fs w d q
        dropped none = record {
          poly = r.poly;
          member = r.member;
          level = λ x v y. r.level x v y ∙ sym (sum x ∙ ap (λ t. t +ℚ coefficient g x) (none x v y) ∙ zero-+ℚ _);
          over = r.over;
        }

        choose : IsInRing n u ⊎ (IsInRing n u → ⊥) →
            (whole_weight w (plus u b.head) <ℤ d) ⊎ ((whole_weight w (plus u b.head) ≡ d) ⊎ (d <ℤ whole_weight w (plus u b.head))) →
            IsRaised n fs w d q
        choose (inr o) t = dropped (λ x v y. nothing_there c u p.poly x (λ a l t. o (ring-left n u a (ring-along n x (plus u a) t v))))
        choose (inl v) (inl l) = dropped (λ x a y. times-off w b p c u x part (λ t. absurd (omega (arith, ints, l, y, t))))
        choose (inl v) (inr (inr l)) = dropped (λ x a y. times-off w b p c u x part (λ t. absurd (omega (arith, ints, l, y, t))))
        choose (inl v) (inr (inl t)) = record {
          poly = times c u b.poly ++ r.poly;
          member = member-++ n fs (times c u b.poly) r.poly (member-times n fs b.poly c u v (m b hb)) r.member;
          level = λ x a y. coefficient-++ (times c u b.poly) r.poly x
              ∙ ap (λ l. l +ℚ coefficient r.poly x) (sym (times-level w b p c u x part (y ∙ sym t)))
              ∙ ap (λ l. coefficient (times c u p.poly) x +ℚ l) (r.level x a y) ∙ sym (sum x);
          over = λ x l. coefficient-++ (times c u b.poly) r.poly x
              ∙ ap (λ y. y +ℚ coefficient r.poly x) (times-over w b c u x (k b hb) (omega (arith, ints, t, l)))
              ∙ zero-+ℚ _ ∙ r.over x l;
        }

    at : ((p : MarkedPolynomial) × Contains ps p × (p.poly ≡ f)) → IsRaised n fs w d g → IsRaised n fs w d q
    at p r =
        let b = matched-from (IsLevelPart w) bs ps h p.0 p.1 in
        by p.0 b.0 b.1 b.2 p.2 r (in_ring n u) (three (whole_weight w (plus u b.0.head)) d)

-- ---- marks and variables

-- marks of a weak marking, with ties broken by a weight that gives the marks
pub tilted-marked : (w : List ℤ) (u : List ℕ) (b : MarkedPolynomial) → IsWeaklyMarked w b → IsMarked (lighter u) b →
    IsMarked (IsTilted w u) b
tilted-marked w u b k m = record { monic = m.monic; tail = λ x n. at x n (three (whole_weight w x) (whole_weight w b.head)) (m.tail x n) }
  where
    at : (x : Exponents) → HasMonomial b.poly x →
        (whole_weight w x <ℤ whole_weight w b.head) ⊎ ((whole_weight w x ≡ whole_weight w b.head) ⊎ (whole_weight w b.head <ℤ whole_weight w x)) →
        (same x b.head ≡ true) ⊎ lighter u x b.head → (same x b.head ≡ true) ⊎ IsTilted w u x b.head
    at x n (inl l) t = inr (inl l)
    at x n (inr (inl e)) (inl s) = inl s
    at x n (inr (inl e)) (inr l) = inr (inr (e, inl l))
    at x n (inr (inr l)) t = absurd (omega (arith, ints, k x n, l))

-- the parts are marked by the same weight
part-marked : (w : List ℤ) (u : List ℕ) (b p : MarkedPolynomial) → IsLevelPart w b p → IsMarked (lighter u) b →
    IsMarked (lighter u) p
part-marked w u b p i m = record {
  monic = ap (coefficient p.poly) i.head ∙ i.level b.head refl ∙ m.monic;
  tail = λ x n. subst (λ (h : Exponents). (same x h ≡ true) ⊎ lighter u x h) (sym i.head) (m.tail x (part-there w b p x i n).1);
}

-- the parts are in the variables
pub parts-variables : (n : ℕ) (bs ps : List MarkedPolynomial) (w : List ℤ) →
    ((b : MarkedPolynomial) → Contains bs b → IsInVariables n b.poly) → Matching (IsLevelPart w) bs ps →
    AreInVariables n (polys ps)
parts-variables n bs ps w v h f c x n' = at (Contains-marked ps f c)
  where
    at : ((p : MarkedPolynomial) × Contains ps p × (p.poly ≡ f)) → IsInRing n x
    at p =
        let b = matched-from (IsLevelPart w) bs ps h p.0 p.1 in
        v b.0 b.1 x (part-there w b.0 p.0 x b.2 (subst (λ (g : Terms). HasMonomial g x) (sym p.2) n')).1

-- a mark of the one list divides x exactly where one of the other does
pub divisible_part : (R : MarkedPolynomial → MarkedPolynomial → Type 0) (bs ps : List MarkedPolynomial) (x : Exponents) →
    ((b p : MarkedPolynomial) → R b p → p.head ≡ b.head) → Matching R bs ps → IsDivisible (Contains bs) x →
    IsDivisible (Contains ps) x
divisible_part R bs ps x e h d =
    let p = matched-to R bs ps h d.member d.contained in
    record {
      member = p.0;
      contained = p.1;
      rest = d.rest;
      divides = subst (λ (z : Exponents). same x (plus d.rest z) ≡ true) (sym (e d.member p.0 p.2)) d.divides;
    }

-- and back
pub divisible_whole : (R : MarkedPolynomial → MarkedPolynomial → Type 0) (bs ps : List MarkedPolynomial) (x : Exponents) →
    ((b p : MarkedPolynomial) → R b p → p.head ≡ b.head) → Matching R bs ps → IsDivisible (Contains ps) x →
    IsDivisible (Contains bs) x
divisible_whole R bs ps x e h d =
    let b = matched-from R bs ps h d.member d.contained in
    record { member = b.0; contained = b.1; rest = d.rest; divides = subst (λ (z : Exponents). same x (plus d.rest z) ≡ true) (e b.0 d.member b.2) d.divides }

level-head : (w : List ℤ) (b p : MarkedPolynomial) → IsLevelPart w b p → p.head ≡ b.head
level-head w b p i = i.head

-- ---- the parts are a basis of the ideal that they generate

-- a member of that ideal is zero where no mark divides a monomial of it
pub parts_decide : (n : ℕ) (fs : List Terms) (bs ps : List MarkedPolynomial) (w : List ℤ) (q : Terms) → AreInVariables n fs →
    IsBasis n fs bs → IsInClosedCone w bs → Matching (IsLevelPart w) bs ps → IsMember n (polys ps) q →
    IsIrreducible (Contains bs) q → SamePolynomial q []
parts_decide n fs bs ps w q v basis k h m i = at ((top_greatest (IsTilted w u) (tilted-order w u)).some q)
  where
    u : List ℕ
    u = basis.marked.0

    in_variables : IsInVariables n q
    in_variables = variables_of_member n (polys ps) q (parts-variables n bs ps w (λ b c. variables_of_member n fs b.poly v (basis.members b c)) h) m

    at : SamePolynomial q [] ⊎ ((x : Exponents) × IsGreatest (IsTilted w u) q x) → SamePolynomial q []
    at (inl z) = z
    at (inr t) = absurd (i x t.1.there (basis_greatest n fs bs (IsTilted w u) r.poly x v basis (tilted-strict w u)
        (λ b c. tilted-marked w u b (k b c) (basis.marked.2 b c)) r.member top))
      where
        x : Exponents
        x = t.0

        r : IsRaised n fs w (whole_weight w t.0) q
        r = raised n fs bs ps w (whole_weight w x) basis.members k h q (spans_of_member n (polys ps) q m)

        below : (y : Exponents) → HasMonomial r.poly y →
            (whole_weight w y <ℤ whole_weight w x) ⊎ ((whole_weight w y ≡ whole_weight w x) ⊎ (whole_weight w x <ℤ whole_weight w y)) →
            (same y x ≡ true) ⊎ IsTilted w u y x
        below y n' (inl l) = inr (inl l)
        below y n' (inr (inl e)) = t.1.greatest y (λ z. n' (r.level y (variables_of_member n fs r.poly v r.member y n') e ∙ z))
        below y n' (inr (inr l)) = absurd (n' (r.over y l))

        top : IsGreatest (IsTilted w u) r.poly x
        top = record {
          there = λ z. t.1.there (sym (r.level x (in_variables x t.1.there) refl) ∙ z);
          greatest = λ y n'. below y n' (three (whole_weight w y) (whole_weight w x));
        }

-- the parts are a basis
pub parts_basis : (n : ℕ) (fs : List Terms) (bs ps : List MarkedPolynomial) (w : List ℤ) → AreInVariables n fs →
    IsBasis n fs bs → IsInClosedCone w bs → Matching (IsLevelPart w) bs ps → IsBasis n (polys ps) ps
parts_basis n fs bs ps w v basis k h = record {
  members = λ p c. member-generator n (polys ps) p.poly (Contains-polys ps p c);
  marked = (
    basis.marked.0,
    basis.marked.1,
    λ p c. let b = matched-from (IsLevelPart w) bs ps h p c in
        part-marked w basis.marked.0 b.0 p b.2 (basis.marked.2 b.0 b.1),
  );
  decides = λ q m i. parts_decide n fs bs ps w q v basis k h m (λ x n' d. i x n' (divisible_part (IsLevelPart w) bs ps x (level-head w) h d));
}

-- a reduced one, where the whole is
pub parts_reduced : (n : ℕ) (fs : List Terms) (bs ps : List MarkedPolynomial) (w : List ℤ) → AreInVariables n fs →
    IsMarkedReduced n fs bs → IsInClosedCone w bs → Matching (IsLevelPart w) bs ps → IsMarkedReduced n (polys ps) ps
parts_reduced n fs bs ps w v r k h = record {
  basis = parts_basis n fs bs ps w v r.basis k h;
  tails = λ p c x m d. tail p x (matched-from (IsLevelPart w) bs ps h p c) m d;
  heads = matched-apart (IsLevelPart w) bs ps (level-head w) h r.heads;
}
  where
    tail : (p : MarkedPolynomial) (x : Exponents) → ((b : MarkedPolynomial) × Contains bs b × IsLevelPart w b p) →
        HasMonomial p.poly x → IsDivisible (Contains ps) x → same x p.head ≡ true
    tail p x b m d = subst (λ (z : Exponents). same x z ≡ true) (sym b.2.head)
        (r.tails b.0 b.1 x (part-there w b.0 p x b.2 m).1 (divisible_whole (IsLevelPart w) bs ps x (level-head w) h d))

-- ---- what weighs most of a member is in the ideal of the parts

-- what weighs d of f, as a member of the ideal of gs
pub record IsTopPart (n : ℕ) (gs : List Terms) (w : List ℤ) (d : ℤ) (f : Terms) : Type 0 where
  pub poly : Terms
  pub member : IsMember n gs poly
  pub level : (x : Exponents) → whole_weight w x ≡ d → coefficient poly x ≡ coefficient f x
  pub off : (x : Exponents) → (whole_weight w x ≡ d → ⊥) → coefficient poly x ≡ zero_ℚ

-- monomials that don't weigh more than d, in n variables
abbrev pub IsUnder : ℕ → List ℤ → ℤ → Exponents → Type 0
IsUnder n w d y = (whole_weight w y ≤ℤ d) × IsInRing n y

-- of a sum of multiples
pub top_of_pieces : (n : ℕ) (bs ps : List MarkedPolynomial) (w : List ℤ) (d : ℤ) → IsInClosedCone w bs →
    Matching (IsLevelPart w) bs ps → (qs : List Piece) → Each (IsPieceIn (Contains bs) (IsUnder n w d)) qs →
    IsTopPart n (polys ps) w d (value qs)
top_of_pieces n bs ps w d k h [] e = record { poly = []; member = member-zero n (polys ps); level = λ x l. refl; off = λ x l. refl }
top_of_pieces n bs ps w d k h (q ∷ qs) e = at (matched-to (IsLevelPart w) bs ps h q.of e.0.member) (three (whole_weight w (level q)) d)
    (top_of_pieces n bs ps w d k h qs e.1)
  where
    at : ((p : MarkedPolynomial) × Contains ps p × IsLevelPart w q.of p) →
        (whole_weight w (level q) <ℤ d) ⊎ ((whole_weight w (level q) ≡ d) ⊎ (d <ℤ whole_weight w (level q))) →
        IsTopPart n (polys ps) w d (value qs) → IsTopPart n (polys ps) w d (value (q ∷ qs))
    at p (inl l) r = record {
      poly = r.poly;
      member = r.member;
      level = λ x y. r.level x y ∙ sym (coefficient-++ (times q.factor q.shift q.of.poly) (value qs) x
          ∙ ap (λ z. z +ℚ coefficient (value qs) x) (times-over w q.of q.factor q.shift x (k q.of e.0.member) (omega (arith, ints, l, y))) ∙ zero-+ℚ _);
      off = r.off;
    }
    at p (inr (inr l)) r = absurd (omega (arith, ints, l, e.0.inside.0))
    at p (inr (inl t)) r = record {
      poly = times q.factor q.shift p.0.poly ++ r.poly;
      member = member-++ n (polys ps) (times q.factor q.shift p.0.poly) r.poly
          (member-times n (polys ps) p.0.poly q.factor q.shift (ring-left n q.shift q.of.head e.0.inside.1)
          (member-generator n (polys ps) p.0.poly (Contains-polys ps p.0 p.1))) r.member;
      level = λ x y. coefficient-++ (times q.factor q.shift p.0.poly) r.poly x
          ∙ ap (λ z. z +ℚ coefficient r.poly x) (times-level w q.of p.0 q.factor q.shift x p.2 (y ∙ sym t))
          ∙ ap (λ z. coefficient (times q.factor q.shift q.of.poly) x +ℚ z) (r.level x y)
          ∙ sym (coefficient-++ (times q.factor q.shift q.of.poly) (value qs) x);
      off = λ x y. coefficient-++ (times q.factor q.shift p.0.poly) r.poly x
          ∙ ap (λ z. z +ℚ coefficient r.poly x) (times-off w q.of p.0 q.factor q.shift x p.2 (λ s. y (s ∙ t)))
          ∙ zero-+ℚ _ ∙ r.off x y;
    }

-- steps don't leave them
pub closed-under : (n : ℕ) (bs : List MarkedPolynomial) (w : List ℤ) (d : ℤ) → IsInClosedCone w bs →
    ((b : MarkedPolynomial) → Contains bs b → IsInVariables n b.poly) → IsClosed (Contains bs) (IsUnder n w d)
closed-under n bs w d k v = closed-both (Contains bs) (λ y. whole_weight w y ≤ℤ d) (IsInRing n)
    (record {
      along = λ x y s h. omega (arith, ints, whole_weight-same w x y s, h);
      lower = λ b c u t m h. omega (arith, ints, k b c t m, h, weight-product w u t, weight-product w u b.head);
    })
    (closed-ring n (Contains bs) v)

-- of a member of the ideal, none of whose monomials weighs more than d
pub top_part : (n : ℕ) (fs : List Terms) (bs ps : List MarkedPolynomial) (w : List ℤ) (d : ℤ) (f : Terms) →
    AreInVariables n fs → IsBasis n fs bs → IsInClosedCone w bs → Matching (IsLevelPart w) bs ps → IsMember n fs f →
    ((x : Exponents) → HasMonomial f x → whole_weight w x ≤ℤ d) → IsTopPart n (polys ps) w d f
top_part n fs bs ps w d f v basis k h m l = at (member_pieces n fs bs (IsUnder n w d) f v basis
    (closed-under n bs w d k (λ b c. variables_of_member n fs b.poly v (basis.members b c))) m (λ x n'. (l x n', variables_of_member n fs f v m x n')))
  where
    at : ((qs : List Piece) × Each (IsPieceIn (Contains bs) (IsUnder n w d)) qs × SamePolynomial f (value qs)) →
        IsTopPart n (polys ps) w d f
    at q = let r = top_of_pieces n bs ps w d k h q.0 q.1 in record { poly = r.poly; member = r.member; level = λ x e. r.level x e ∙ sym (q.2 x); off = r.off }
