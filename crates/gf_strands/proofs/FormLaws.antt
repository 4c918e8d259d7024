-- Remainders on strands, by monomials and by strands; and new strands.
-- To cite: undivided-none, undivided-more, undivided_end, monomial_for, cover_found, cover_missed, none_of_all, both_undivided, NoStrandTo, no_strand-more,
-- strand_found,
-- no_strand_missed, dropped_zero, dropped_covered, strand_subtracted, point_kept, work_start, irreducible_points, work_done, unchanged, taken_strand,
-- taken_part,
-- strands_more,
-- origin_of, none_below, marks_wide, strands_wide.
use Rattle.std.proofs.Common.{◌≡◌, ◌≢◌, ◌⊎◌, ℕ, zero, suc, ◌+◌, ◌<◌, ◌≤◌, Bool, true, false, if◌then◌else◌, Some, None, IfSome, IfNone, List, [], ◌∷◌, ◌++◌}
use Rattle.std.proofs.Common.{length, get_or, Contains, ℤ, ◌<ℤ◌, arith, refl, sym, ap, ◌∙◌, subst, inl, inr}
use Rattle.std.specs.Option.{is_some}
use Rattle.std.specs.declared.option.Option.{Option}
use Rattle.std.proofs.lemmas.Bool.{cases_lt}
use Rattle.std.proofs.lemmas.List.{append_assoc, append-nil, get_or_default, map-append, map_push}
use Rattle.gf_int_theory.specs.Integers.{diff-eq, naturals}
use Rattle.gf_frac.specs.Fraction.{Fraction, over-eq, ◌+ℚ◌, ◌*ℚ◌, neg_ℚ, zero_ℚ, one_ℚ}
use Rattle.gf_frac.proofs.FractionLaws.{overs, each_q, dens, zero-+ℚ, *ℚ-one}
use Rattle.gf_exponents_theory.specs.Exponents.{Exponents, Divides, same, plus, minus}
use Rattle.gf_exponents_theory.proofs.ExponentsLaws.{same_along, same_of, same-sym}
use Rattle.gf_poly.specs.Polynomial.{Terms, coefficient, SamePolynomial, KeepsVariables, HasVariables, times}
use Rattle.gf_poly.specs.Marking.{MarkedPolynomial, HaveVariables, Each}
use Rattle.gf_poly.proofs.MonomialLaws.{length-minus, plus-minus}
use Rattle.gf_poly.proofs.PolynomialLaws.{coefficient-++}
use Rattle.gf_ideal_theory.specs.Membership.{HasMonomial}
use Rattle.gf_ideal_theory.specs.OrderTable.{AreMultipleApart}
use Rattle.gf_ideal_theory.specs.Reduction.{IsDivisible, IsIrreducible, Reached}
use Rattle.gf_ideal_theory.proofs.DividingLaws.{member_contained, divisible_along}
use Rattle.gf_ideal_theory.proofs.ListLaws.{Each-++, contained_each}
use Rattle.gf_ideal_theory.proofs.StepLaws.{reached-here, reached-next, reached_trans}
use Rattle.gf_ideal_theory.proofs.TermLaws.{zero_chosen}
use Rattle.gf_division.specs.Remainders.{IsRemainder}
use Rattle.gf_initial_theory.proofs.ClassLaws.{multiple-grading}
use Rattle.gf_strands.specs.declared.strands.Point.{Point}
use Rattle.gf_strands.specs.declared.strands.Strand.{Strand}
use Rattle.gf_strands.specs.declared.strands.Part.{Part}
use Rattle.gf_strands.specs.Along.{HasNonzero}
use Rattle.gf_strands.specs.Strands.{moved, IsSpot, AreSpots, AreFalling, AreStrandsOf, point_term, strand_terms, strand_member, strand_members, terms_of_part}
use Rattle.gf_strands.specs.Strands.{facet_order}
use Rattle.gf_strands.specs.Strands.{IsStrandAlong, IsStrandOf, HasOrigin, IsPartOnStrand, IsGround, IsSubtracted, IsWorkOn, KeepsWork, IsStrandFrom}
use Rattle.gf_strands.specs.Strands.{HasStrandBelow}
use Rattle.gf_strands.specs.Strands.{NoStrandBelow, NoneDividesTo, IsMonomialFor}
use Rattle.gf_strands.specs.Forms.{NoStrandFrom, HasCover, IsTakenIn}
use Rattle.gf_strands.specs.Monomials.{monomial_member, with_monomials}
use Rattle.gf_strands.proofs.StrandLaws.{strand_listed, strand_coefficient, strand_variables, member_variables, strand_marked}
use Rattle.gf_strands.proofs.MonomialLaws.{monomial_single, AtFront, AtBehind, front_at, joined_cases, joined_push, behind_contained, front_contained}
use Rattle.gf_strands.proofs.MoveLaws.{moved-length, moved_plus, on_plus}

-- ---- the first monomial that divides

pub undivided-none : (xs : List Exponents) (x : Exponents) → NoneDividesTo xs 0 x
undivided-none xs x = record { none = λ i l. absurd (omega (arith, l)) }

pub undivided-more : (xs : List Exponents) (j : ℕ) (x m : Exponents) → j < length xs → m ≡ get_or xs j m → (Divides m x → ⊥) → NoneDividesTo xs j x →
    NoneDividesTo xs (j + 1) x
undivided-more xs j x m l e n h = record { none = λ i k d. at i (cases_lt i j) k d }
  where
    at : (i : ℕ) → (i < j) ⊎ (j ≤ i) → i < j + 1 → Divides (get_or xs i []) x → ⊥
    at i (inl q) k d = h.none i q d
    at i (inr q) k d =
        let r : i ≡ j = omega (arith, q, k) in
        n (subst (λ (z : Exponents). Divides z x) (sym (e ∙ get_or_default xs j m [] l)) (subst (λ (z : ℕ). Divides (get_or xs z []) x) r d))

pub undivided_end : (xs : List Exponents) (j : ℕ) (x : Exponents) → length xs ≤ j → NoneDividesTo xs j x → NoneDividesTo xs (length xs) x
undivided_end xs j x l h = record { none = λ i k d. h.none i (omega (arith, l, k)) d }

pub monomial_for : (xs : List Exponents) (j : ℕ) (x m : Exponents) → j < length xs → m ≡ get_or xs j m → Divides m x → NoneDividesTo xs j x →
    IsMonomialFor xs x j
monomial_for xs j x m l e d h = record {
  within = l;
  divides = subst (λ (z : Exponents). Divides z x) (e ∙ get_or_default xs j m [] l) d;
  before = h;
}

-- ---- whether a monomial divides

-- the monomial that a search found covers
pub cover_found : (xs : List Exponents) (x : Exponents) (o : Option ℕ) → IfSome o (IsMonomialFor xs x) → is_some o ≡ true → HasCover (with_monomials xs []) x
cover_found xs x (Some j) h t = record {
  member = monomial_member y;
  contained = member_contained (with_monomials xs []) j (monomial_member y) (front_at xs [] j y h.within (get_or_default xs j [] y h.within));
  single = monomial_single y;
  divides = h.divides;
}
  where
    y : Exponents
    y = get_or xs j []
cover_found xs x None h t = absurd (let z : false ≡ true = t in cc)

-- where it found none, no monomial divides
pub cover_missed : (xs : List Exponents) (x : Exponents) (o : Option ℕ) → IfNone o (NoneDividesTo xs (length xs) x) → is_some o ≡ false →
    IsDivisible (Contains (with_monomials xs [])) x → ⊥
cover_missed xs x (Some j) h t d = absurd (let z : true ≡ false = t in cc)
cover_missed xs x None h t d = at (joined_cases xs [] d.contained.0 d.member (record { within = d.contained.1; is = d.contained.2 }))
  where
    at : AtFront xs d.contained.0 d.member ⊎ AtBehind xs [] d.contained.0 d.member → ⊥
    at (inl f) =
        let e : d.member.head ≡ get_or xs d.contained.0 [] =
        ap (λ (c : MarkedPolynomial). c.head) f.member ∙ f.is ∙ get_or_default xs d.contained.0 f.mono [] f.within in
        h.none d.contained.0 f.within (subst (λ (z : Exponents). Divides z x) e (record { rest = d.rest; product = d.divides }))
    at (inr g) = absurd (omega (arith, g.at.within))

-- what covers is a monomial
record IsCovering (xs : List Exponents) (bs : List MarkedPolynomial) (x : Exponents) : Type 0 where
  mono : Exponents
  contained : Contains (with_monomials xs bs) (monomial_member mono)
  divides : Divides mono x

covering : (xs : List Exponents) (bs : List MarkedPolynomial) (x : Exponents) → HasCover (with_monomials xs []) x → IsCovering xs bs x
covering xs bs x h = at (joined_cases xs [] h.contained.0 h.member (record { within = h.contained.1; is = h.contained.2 }))
  where
    at : AtFront xs h.contained.0 h.member ⊎ AtBehind xs [] h.contained.0 h.member → IsCovering xs bs x
    at (inl f) = record {
      mono = f.mono;
      contained = subst (Contains (with_monomials xs bs)) f.member (front_contained xs bs h.member h.contained);
      divides = subst (λ (b : MarkedPolynomial). Divides b.head x) f.member h.divides;
    }
    at (inr g) = absurd (omega (arith, g.at.within))

-- where neither a monomial nor a member divides, none of all does
pub none_of_all : (xs : List Exponents) (bs : List MarkedPolynomial) (x : Exponents) → (IsDivisible (Contains (with_monomials xs [])) x → ⊥) →
    (IsDivisible (Contains bs) x → ⊥) → IsDivisible (Contains (with_monomials xs bs)) x → ⊥
none_of_all xs bs x n m d = elim (joined_cases xs bs d.contained.0 d.member (record { within = d.contained.1; is = d.contained.2 })) [
  | inl f ↦ n (record {
    member = monomial_member f.mono;
    contained = member_contained (with_monomials xs []) d.contained.0 (monomial_member f.mono) (front_at xs [] d.contained.0 f.mono f.within f.is);
    rest = d.rest;
    divides = subst (λ (b : MarkedPolynomial). same x (plus d.rest b.head) ≡ true) f.member d.divides;
  })
  | inr g ↦ m (record { member = d.member; contained = member_contained bs g.index d.member g.at; rest = d.rest; divides = d.divides })
]

pub both_undivided : (xs : List Exponents) (bs : List MarkedPolynomial) (f : Terms) → IsIrreducible (Contains (with_monomials xs [])) f →
    IsIrreducible (Contains bs) f → IsIrreducible (Contains (with_monomials xs bs)) f
both_undivided xs bs f n m x h d = none_of_all xs bs x (n x h) (m x h) d

-- ---- the first strand whose mark divides

-- none of the first j marks divides x
pub record NoStrandTo (ls : List Strand) (j : ℕ) (x : Exponents) : Type 0 where
  pub none : (i : ℕ) (l : Strand) → i < j → get_or ls i l ≡ l → Divides l.mark x → ⊥

pub no_strand-more : (ls : List Strand) (j : ℕ) (x : Exponents) (m : Strand) → j < length ls → m ≡ get_or ls j m → (Divides m.mark x → ⊥) → NoStrandTo ls j x →
    NoStrandTo ls (j + 1) x
no_strand-more ls j x m l e n h = record { none = λ i g k q d. at i g (cases_lt i j) k q d }
  where
    at : (i : ℕ) (g : Strand) → (i < j) ⊎ (j ≤ i) → i < j + 1 → get_or ls i g ≡ g → Divides g.mark x → ⊥
    at i g (inl p) k q d = h.none i g p q d
    at i g (inr p) k q d =
        let r : i ≡ j = omega (arith, p, k) in
        let s : g ≡ m = sym q ∙ ap (λ (z : ℕ). get_or ls z g) r ∙ get_or_default ls j g m l ∙ sym e in
        n (subst (λ (z : Strand). Divides z.mark x) s d)

pub strand_found : (ls : List Strand) (j : ℕ) (x : Exponents) (m : Strand) → j < length ls → m ≡ get_or ls j m → Divides m.mark x → HasStrandBelow ls x j
strand_found ls j x m l e d = record { strand = m; within = l; at = sym e; divides = d }

-- the strand of a member
record IsStrandThere (a : List ℤ) (ls : List Strand) (b : MarkedPolynomial) : Type 0 where
  index : ℕ
  strand : Strand
  within : index < length ls
  at : get_or ls index strand ≡ strand
  member : strand_member a strand ≡ b

strand_there : (a : List ℤ) (ls : List Strand) (b : MarkedPolynomial) (i : ℕ) → i < length (strand_members a ls) → get_or (strand_members a ls) i b ≡ b →
    IsStrandThere a ls b
strand_there a [] b i l e = absurd (omega (arith, l))
strand_there a (m ∷ ls) b zero l e = record { index = 0; strand = m; within = omega arith; at = refl; member = e }
strand_there a (m ∷ ls) b (suc i) l e =
    let r = strand_there a ls b i (omega (arith, l)) e in
    record { index = suc r.index; strand = r.strand; within = omega (arith, r.within); at = r.at; member = r.member }

member_there : (a : List ℤ) (ls : List Strand) (l : Strand) (j : ℕ) → j < length ls → get_or ls j l ≡ l → Contains (strand_members a ls) (strand_member a l)
member_there a [] l j k e = absurd (omega (arith, k))
member_there a (m ∷ ls) l zero k e = (0, omega arith, ap (strand_member a) e)
member_there a (m ∷ ls) l (suc j) k e =
    let r = member_there a ls l j (omega (arith, k)) e in
    (suc r.0, omega (arith, r.1), r.2)

-- no mark of a strand divides
none_of_strands : (a : List ℤ) (ls : List Strand) (x : Exponents) → NoStrandBelow ls x → IsDivisible (Contains (strand_members a ls)) x → ⊥
none_of_strands a ls x n d =
    let r = strand_there a ls d.member d.contained.0 d.contained.1 d.contained.2 in
    n.none r.index r.strand r.within r.at (record {
      rest = d.rest;
      product = subst (λ (b : MarkedPolynomial). same x (plus d.rest b.head) ≡ true) (sym r.member) d.divides;
    })

-- ---- lists of points

each_two : {A : Type 0} (P Q R : A → Type 0) → ((x : A) → P x → Q x → R x) → (xs : List A) → Each P xs → Each Q xs → Each R xs
each_two P Q R f [] p q = tt
each_two P Q R f (x ∷ xs) p q = (f x p.0 q.0, each_two P Q R f xs p.1 q.1)

each_apart : {A : Type 0} (P : A → Type 0) (xs ys : List A) → Each P (xs ++ ys) → Each P xs × Each P ys
each_apart P [] ys h = (tt, h)
each_apart P (x ∷ xs) ys h = let r = each_apart P xs ys h.1 in ((h.0, r.0), r.1)

-- without one of them
each_without : {A : Type 0} (P : A → Type 0) (xs ys : List A) (x : A) → Each P (xs ++ x ∷ ys) → Each P (xs ++ ys)
each_without P xs ys x h = let r = each_apart P xs (x ∷ ys) h in Each-++ P xs ys r.0 r.1.1

-- both fall, and the multiples of the ones in front are greater
record IsFallingOn (xs ys : List Point) : Type 0 where
  front : AreFalling xs
  back : AreFalling ys
  apart : Each (λ (q : Point). Each (λ (p : Point). q.k <ℤ p.k) xs) ys

falling_apart : (xs ys : List Point) → AreFalling (xs ++ ys) → IsFallingOn xs ys
falling_apart [] ys h = record { front = tt; back = h; apart = all ys }
  where
    all : (ys : List Point) → Each (λ (q : Point). Each (λ (p : Point). q.k <ℤ p.k) []) ys
    all [] = tt
    all (y ∷ ys) = (tt, all ys)
falling_apart (x ∷ xs) ys h =
    let r = falling_apart xs ys h.1 in
    let s = each_apart (λ (q : Point). q.k <ℤ x.k) xs ys h.0 in
    record {
      front = (s.0, r.front);
      back = r.back;
      apart = each_two (λ (q : Point). q.k <ℤ x.k) (λ (q : Point). Each (λ (p : Point). q.k <ℤ p.k) xs)
          (λ (q : Point). Each (λ (p : Point). q.k <ℤ p.k) (x ∷ xs)) (λ q l m. (l, m)) ys s.1 r.apart;
    }

falling_joined : (xs ys : List Point) → IsFallingOn xs ys → AreFalling (xs ++ ys)
falling_joined [] ys h = h.back
falling_joined (x ∷ xs) ys h = (
  Each-++ (λ (q : Point). q.k <ℤ x.k) xs ys h.front.0 (first ys h.apart),
  falling_joined xs ys (record { front = h.front.1; back = h.back; apart = rest ys h.apart }),
)
  where
    first : (ys : List Point) → Each (λ (q : Point). Each (λ (p : Point). q.k <ℤ p.k) (x ∷ xs)) ys → Each (λ (q : Point). q.k <ℤ x.k) ys
    first [] h = tt
    first (y ∷ ys) h = (h.0.0, first ys h.1)

    rest : (ys : List Point) → Each (λ (q : Point). Each (λ (p : Point). q.k <ℤ p.k) (x ∷ xs)) ys → Each (λ (q : Point). Each (λ (p : Point). q.k <ℤ p.k) xs) ys
    rest [] h = tt
    rest (y ∷ ys) h = (h.0.1, rest ys h.1)

falling_without : (xs ys : List Point) (p : Point) → AreFalling (xs ++ p ∷ ys) → AreFalling (xs ++ ys)
falling_without xs ys p h = let r = falling_apart xs (p ∷ ys) h in falling_joined xs ys (record { front = r.front; back = r.back.1; apart = r.apart.1 })

-- ---- coefficients

joined_coefficient : (a : List ℤ) (x : Exponents) (xs ys : List Point) (e : Exponents) →
    coefficient (strand_terms a x (xs ++ ys)) e ≡ coefficient (strand_terms a x xs) e +ℚ coefficient (strand_terms a x ys) e
joined_coefficient a x xs ys e = ap (λ (z : Terms). coefficient z e) (map-append (point_term a x) xs ys) ∙ coefficient-++ (strand_terms a x xs)
    (strand_terms a x ys) e

dropped : (w k c : Fraction) (b : Bool) → c ≡ zero_ℚ → w +ℚ ((if b then c else zero_ℚ) +ℚ k) ≡ w +ℚ k
dropped w k c b z = ap (λ (t : Fraction). w +ℚ (t +ℚ k)) (zero_chosen b c z) ∙ ap (λ (t : Fraction). w +ℚ t) (zero-+ℚ k)

-- c is there once, and taken away
gone : (w t k c : Fraction) (b d : Bool) → b ≡ d → (w +ℚ t) +ℚ k ≡ (w +ℚ ((if b then c else zero_ℚ) +ℚ k)) +ℚ ((if d then neg_ℚ c *ℚ one_ℚ else zero_ℚ) +ℚ t)
gone w t k c b d e = at b d e
  where
    one : (w t k c : Fraction) → (w +ℚ t) +ℚ k ≡ (w +ℚ (c +ℚ k)) +ℚ (neg_ℚ c +ℚ t)
    one = each_q _
        (λ a a' k. each_q _
        (λ b b' l. each_q _ (λ c c' m. each_q _ (λ d d' n. simp overs (over-eq _ _ _ _ (simp dens (simp naturals (diff-eq _ _ _ _ (omega arith)))))))))

    two : (w t k : Fraction) → (w +ℚ t) +ℚ k ≡ (w +ℚ k) +ℚ t
    two = each_q _
        (λ a a' k. each_q _ (λ b b' l. each_q _ (λ c c' m. simp overs (over-eq _ _ _ _ (simp dens (simp naturals (diff-eq _ _ _ _ (omega arith))))))))

    at : (b d : Bool) → b ≡ d → (w +ℚ t) +ℚ k ≡ (w +ℚ ((if b then c else zero_ℚ) +ℚ k)) +ℚ ((if d then neg_ℚ c *ℚ one_ℚ else zero_ℚ) +ℚ t)
    at true true e = one w t k c ∙ ap (λ (z : Fraction). (w +ℚ (c +ℚ k)) +ℚ (z +ℚ t)) (sym (*ℚ-one (neg_ℚ c)))
    at false false e = two w t k ∙ ap (λ (z : Fraction). (w +ℚ z) +ℚ t) (sym (zero-+ℚ k)) ∙ ap (λ (z : Fraction). (w +ℚ (zero_ℚ +ℚ k)) +ℚ z) (sym (zero-+ℚ t))
    at true false e = absurd (let z : true ≡ false = e in cc)
    at false true e = absurd (let z : false ≡ true = e in cc)

-- the points on the strand through a multiple of the mark are that multiple of the points on the strand through the mark
strand_times : (c : Fraction) (a : List ℤ) (u m : Exponents) (qs : List Point) → length u ≡ length m → AreSpots a m qs →
    times c [] (strand_terms a (plus u m) qs) ≡ times c u (strand_terms a m qs)
strand_times c a u m [] e o = refl
strand_times c a u m (q ∷ qs) e o =
    ap (λ (z : Exponents). record { coef = c *ℚ q.coef; mono = z } ∷ times c [] (strand_terms a (plus u m) qs)) (moved_plus a u m q.k e o.0)
    ∙ ap (λ (z : Terms). record { coef = c *ℚ q.coef; mono = plus u (moved a m q.k) } ∷ z) (strand_times c a u m qs e o.1)

strand_moved : (a : List ℤ) (u m : Exponents) (qs : List Point) → length u ≡ length m → AreSpots a m qs → AreSpots a (plus u m) qs
strand_moved a u m [] e o = tt
strand_moved a u m (q ∷ qs) e o = (on_plus a u m q.k e o.0, strand_moved a u m qs e o.1)

-- ---- the steps

-- the point is the last of work
work_joined : (work kept : List Point) (p : Point) → (work ++ p ∷ []) ++ kept ≡ work ++ p ∷ kept
work_joined work kept p = append_assoc work (p ∷ []) kept

-- what is known of the points while p is there
record IsWorkAt (a : List ℤ) (x : Exponents) (ds : List MarkedPolynomial) (f : Terms) (work kept : List Point) (p : Point) : Type 0 where
  reached : Reached (Contains ds) f (strand_terms a x (work ++ p ∷ kept))
  on : AreSpots a x (work ++ p ∷ kept)
  falling : AreFalling (work ++ p ∷ kept)
  irreducible : Each (λ (q : Point). IsDivisible (Contains ds) (moved a x q.k) → ⊥) kept

work_at : (a : List ℤ) (x : Exponents) (ds : List MarkedPolynomial) (f : Terms) (work kept : List Point) (p : Point) → IsWorkOn a x ds f (work ++ p ∷ []) kept →
    IsWorkAt a x ds f work kept p
work_at a x ds f work kept p h = record {
  reached = subst (λ (z : List Point). Reached (Contains ds) f (strand_terms a x z)) (work_joined work kept p) h.reached;
  on = subst (AreSpots a x) (work_joined work kept p) h.on;
  falling = subst AreFalling (work_joined work kept p) h.falling;
  irreducible = h.irreducible;
}

-- a point without a coefficient is left out
pub dropped_zero : (a : List ℤ) (x : Exponents) (ds : List MarkedPolynomial) (work kept : List Point) (p : Point) → p.coef ≡ zero_ℚ →
    KeepsWork a x ds (work ++ p ∷ []) kept work kept
dropped_zero a x ds work kept p z = record { at = λ f h. at f (work_at a x ds f work kept p h) }
  where
    equal : SamePolynomial (strand_terms a x (work ++ p ∷ kept)) (strand_terms a x (work ++ kept))
    equal e = joined_coefficient a x work (p ∷ kept) e
        ∙ dropped (coefficient (strand_terms a x work) e) (coefficient (strand_terms a x kept) e) p.coef (same e (moved a x p.k)) z
        ∙ sym (joined_coefficient a x work kept e)

    at : (f : Terms) → IsWorkAt a x ds f work kept p → IsWorkOn a x ds f work kept
    at f h = record {
      reached = reached_trans (Contains ds) f (strand_terms a x (work ++ p ∷ kept)) (strand_terms a x (work ++ kept)) h.reached
          (Reached.here (strand_terms a x (work ++ kept)) equal);
      on = each_without (λ (q : Point). IsSpot a x q.k) work kept p h.on;
      falling = falling_without work kept p h.falling;
      irreducible = h.irreducible;
    }

-- the coefficient at the point is its own
coefficient_at : (a : List ℤ) (x : Exponents) (ds : List MarkedPolynomial) (f : Terms) (work kept : List Point) (p : Point) → HasNonzero a →
    IsWorkAt a x ds f work kept p → coefficient (strand_terms a x (work ++ p ∷ kept)) (moved a x p.k) ≡ p.coef
coefficient_at a x ds f work kept p n h = strand_coefficient a x work kept p n h.on h.falling

-- a multiple of a member takes the point away, and what comes in its place is among the new points
record IsTakenAway (a : List ℤ) (x : Exponents) (ds : List MarkedPolynomial) (work kept : List Point) (p : Point) (new : List Point) : Type 0 where
  member : MarkedPolynomial
  contained : Contains ds member
  rest : Exponents
  divides : same (moved a x p.k) (plus rest member.head) ≡ true
  equal : SamePolynomial (strand_terms a x (new ++ kept)) (strand_terms a x (work ++ p ∷ kept) ++ times (neg_ℚ p.coef) rest member.poly)

taken_away : (a : List ℤ) (x : Exponents) (ds : List MarkedPolynomial) (f : Terms) (work kept new : List Point) (p : Point) → HasNonzero a → p.coef ≢ zero_ℚ →
    IsWorkAt a x ds f work kept p → IsTakenAway a x ds work kept p new → Reached (Contains ds) f (strand_terms a x (new ++ kept))
taken_away a x ds f work kept new p n z h s = reached-next (Contains ds) f (strand_terms a x (work ++ p ∷ kept)) (strand_terms a x (new ++ kept)) h.reached
    (record {
      at = moved a x p.k;
      member = s.member;
      rest = s.rest;
      contained = s.contained;
      there = λ e. z (sym c ∙ e);
      divides = s.divides;
      equal = subst (λ (k : Fraction). SamePolynomial (strand_terms a x (new ++ kept)) (strand_terms a x (work ++ p ∷ kept) ++ times (neg_ℚ k)
          s.rest s.member.poly))
          (sym c) s.equal;
    })
  where
    c : coefficient (strand_terms a x (work ++ p ∷ kept)) (moved a x p.k) ≡ p.coef
    c = coefficient_at a x ds f work kept p n h

-- where a multiple of the terms behind a mark is taken away from the points in front, that multiple of all terms is taken away from all points
step_coefficients : (a : List ℤ) (x : Exponents) (work kept new : List Point) (p : Point) (u m : Exponents) (f : Terms) →
    same (moved a x p.k) (plus u m) ≡ true → SamePolynomial (strand_terms a x new) (strand_terms a x work ++ times (neg_ℚ p.coef) u f) →
    SamePolynomial (strand_terms a x (new ++ kept)) (strand_terms a x (work ++ p ∷ kept) ++ times (neg_ℚ p.coef) u (record { coef = one_ℚ; mono = m } ∷ f))
step_coefficients a x work kept new p u m f s q e =
    joined_coefficient a x new kept e
    ∙ ap (λ (z : Fraction). z +ℚ k) (q e ∙ coefficient-++ (strand_terms a x work) (times (neg_ℚ p.coef) u f) e)
    ∙ gone w t k p.coef (same e (moved a x p.k)) (same e (plus u m)) same_there
    ∙ ap (λ (z : Fraction). z +ℚ coefficient (times (neg_ℚ p.coef) u (record { coef = one_ℚ; mono = m } ∷ f)) e)
    (sym (joined_coefficient a x work (p ∷ kept) e))
    ∙ sym (coefficient-++ (strand_terms a x (work ++ p ∷ kept)) (times (neg_ℚ p.coef) u (record { coef = one_ℚ; mono = m } ∷ f)) e)
  where
    w : Fraction
    w = coefficient (strand_terms a x work) e

    k : Fraction
    k = coefficient (strand_terms a x kept) e

    t : Fraction
    t = coefficient (times (neg_ℚ p.coef) u f) e

    same_there : same e (moved a x p.k) ≡ same e (plus u m)
    same_there = same-sym e (moved a x p.k) ∙ same_along (moved a x p.k) (plus u m) e s ∙ same-sym (plus u m) e

-- a monomial takes the point away
pub dropped_covered : (a : List ℤ) (x : Exponents) (xs : List Exponents) (bs : List MarkedPolynomial) (work kept : List Point) (p : Point) → HasNonzero a →
    p.coef ≢ zero_ℚ → HasCover (with_monomials xs []) (moved a x p.k) → KeepsWork a x (with_monomials xs bs) (work ++ p ∷ []) kept work kept
dropped_covered a x xs bs work kept p n z v = record { at = λ f h. at f (work_at a x ds f work kept p h) }
  where
    ds : List MarkedPolynomial
    ds = with_monomials xs bs

    o : IsCovering xs bs (moved a x p.k)
    o = covering xs bs (moved a x p.k) v

    equal : SamePolynomial (strand_terms a x work) (strand_terms a x work ++ [])
    equal e = ap (λ (g : Terms). coefficient g e) (sym (append-nil (strand_terms a x work)))

    step : IsTakenAway a x ds work kept p work
    step = record {
      member = monomial_member o.mono;
      contained = o.contained;
      rest = o.divides.rest;
      divides = o.divides.product;
      equal = step_coefficients a x work kept work p o.divides.rest o.mono [] o.divides.product equal;
    }

    at : (f : Terms) → IsWorkAt a x ds f work kept p → IsWorkOn a x ds f work kept
    at f h = record {
      reached = taken_away a x ds f work kept work p n z h step;
      on = each_without (λ (q : Point). IsSpot a x q.k) work kept p h.on;
      falling = falling_without work kept p h.falling;
      irreducible = h.irreducible;
    }

-- the other terms of a strand are taken away in the place of the point
pub strand_subtracted : (a : List ℤ) (x : Exponents) (xs : List Exponents) (ls : List Strand) (work kept new : List Point) (p : Point) (j : ℕ) (l : Strand) →
    HasNonzero a → length x ≡ length a → Each (IsStrandAlong a) ls → p.coef ≢ zero_ℚ → HasStrandBelow ls (moved a x p.k) j → l ≡ get_or ls j l →
    IsSubtracted p l.rest.items work new → KeepsWork a x (with_monomials xs (strand_members a ls)) (work ++ p ∷ []) kept new kept
strand_subtracted a x xs ls work kept new p j l n w strands z b e s = record { at = λ f h. at f (work_at a x ds f work kept p h) }
  where
    ds : List MarkedPolynomial
    ds = with_monomials xs (strand_members a ls)

    y : Exponents
    y = moved a x p.k

    same_strand : b.strand ≡ l
    same_strand = sym b.at ∙ get_or_default ls j b.strand l b.within ∙ sym e

    divides : Divides l.mark y
    divides = subst (λ (g : Strand). Divides g.mark y) same_strand b.divides

    is : IsStrandAlong a l
    is = contained_each (IsStrandAlong a) ls strands l (j, b.within, sym e)

    long : length y ≡ length l.mark
    long = moved-length a x p.k ∙ w ∙ sym is.width

    u : Exponents
    u = minus y l.mark

    there : plus u l.mark ≡ y
    there = plus-minus y l.mark long divides

    wide : length u ≡ length l.mark
    wide = length-minus y l.mark long ∙ long

    on_y : AreSpots a y l.rest.items
    on_y = subst (λ (g : Exponents). AreSpots a g l.rest.items) there (strand_moved a u l.mark l.rest.items wide is.on)

    rest_terms : times (neg_ℚ p.coef) [] (strand_terms a y l.rest.items) ≡ times (neg_ℚ p.coef) u (strand_terms a l.mark l.rest.items)
    rest_terms = ap (λ (g : Exponents). times (neg_ℚ p.coef) [] (strand_terms a g l.rest.items)) (sym there) ∙ strand_times (neg_ℚ p.coef)
        a u l.mark l.rest.items wide is.on

    step : IsSpot a x p.k → IsTakenAway a x ds work kept p new
    step o = record {
      member = strand_member a l;
      contained = behind_contained xs (strand_members a ls) (strand_member a l) (member_there a ls l j b.within (sym e));
      rest = u;
      divides = same_of y (plus u l.mark) (sym there);
      equal = step_coefficients a x work kept new p u l.mark (strand_terms a l.mark l.rest.items) (same_of y (plus u l.mark) (sym there))
          (subst (λ (g : Terms). SamePolynomial (strand_terms a x new) (strand_terms a x work ++ g)) rest_terms (s.terms a x o on_y));
    }

    at : (f : Terms) → IsWorkAt a x ds f work kept p → IsWorkOn a x ds f new kept
    at f h = record {
      reached = taken_away a x ds f work kept new p n z h (step on.1.0);
      on = Each-++ (λ (q : Point). IsSpot a x q.k) new kept (s.on a x on.1.0 on_y on.0) on.1.1;
      falling = falling_joined new kept (record {
        front = s.falling fall.front;
        back = fall.back.1;
        apart = each_two (λ (q : Point). q.k <ℤ p.k) (λ (q : Point). Each (λ (r : Point). q.k <ℤ r.k) work)
            (λ (q : Point). Each (λ (r : Point). q.k <ℤ r.k) new) (λ q g v. s.above q.k g is.further v) kept fall.back.0 fall.apart.1;
      });
      irreducible = h.irreducible;
    }
      where
        on : Each (λ (q : Point). IsSpot a x q.k) work × Each (λ (q : Point). IsSpot a x q.k) (p ∷ kept)
        on = each_apart (λ (q : Point). IsSpot a x q.k) work (p ∷ kept) h.on

        fall : IsFallingOn work (p ∷ kept)
        fall = falling_apart work (p ∷ kept) h.falling

-- the point is kept
pub point_kept : (a : List ℤ) (x : Exponents) (xs : List Exponents) (ls : List Strand) (work kept : List Point) (p : Point) →
    (IsDivisible (Contains (with_monomials xs [])) (moved a x p.k) → ⊥) → NoStrandBelow ls (moved a x p.k) →
    KeepsWork a x (with_monomials xs (strand_members a ls))
    (work ++ p ∷ []) kept work (p ∷ kept)
point_kept a x xs ls work kept p n m = record { at = λ f h. at f (work_at a x (with_monomials xs (strand_members a ls)) f work kept p h) }
  where
    at : (f : Terms) → IsWorkAt a x (with_monomials xs (strand_members a ls)) f work kept p →
        IsWorkOn a x (with_monomials xs (strand_members a ls)) f work (p ∷ kept)
    at f h = record {
      reached = h.reached;
      on = h.on;
      falling = h.falling;
      irreducible = (none_of_all xs (strand_members a ls) (moved a x p.k) n (none_of_strands a ls (moved a x p.k) m), h.irreducible);
    }

-- ---- the remainder

pub work_start : (a : List ℤ) (x : Exponents) (ds : List MarkedPolynomial) (points : List Point) → AreSpots a x points → AreFalling points →
    IsWorkOn a x ds (strand_terms a x points) points []
work_start a x ds points o f = record {
  reached = subst (λ (z : List Point). Reached (Contains ds) (strand_terms a x points) (strand_terms a x z)) (sym (append-nil points))
      (reached-here (Contains ds) (strand_terms a x points));
  on = subst (AreSpots a x) (sym (append-nil points)) o;
  falling = subst AreFalling (sym (append-nil points)) f;
  irreducible = tt;
}

-- what is left of the points is irreducible
pub irreducible_points : (a : List ℤ) (x : Exponents) (ds : List MarkedPolynomial) (ps : List Point) →
    Each (λ (p : Point). IsDivisible (Contains ds) (moved a x p.k) → ⊥) ps → IsIrreducible (Contains ds) (strand_terms a x ps)
irreducible_points a x ds ps h y t d =
    let r = strand_listed a x y ps t in
    contained_each (λ (p : Point). IsDivisible (Contains ds) (moved a x p.k) → ⊥) ps h r.0 r.1 (divisible_along (Contains ds) y (moved a x r.0.k) r.2 d)

pub work_done : (a : List ℤ) (x : Exponents) (ds : List MarkedPolynomial) (f : Terms) (kept : List Point) → IsWorkOn a x ds f [] kept →
    IsRemainder ds f (strand_terms a x kept)
work_done a x ds f kept h = record { reached = h.reached; irreducible = irreducible_points a x ds kept h.irreducible }

-- where no mark divides a term, no step is taken
pub unchanged : (bs : List MarkedPolynomial) (f : Terms) → IsIrreducible (Contains bs) f → IsRemainder bs f f
unchanged bs f n = record { reached = reached-here (Contains bs) f; irreducible = n }

-- zero leads to zero
reached_zero : (by : MarkedPolynomial → Type 0) (f g : Terms) → SamePolynomial f [] → Reached by f g → SamePolynomial g []
reached_zero by f g z (Reached.here h s) e = sym (s e) ∙ z e
reached_zero by f g z (Reached.next h k r s) e = absurd (s.there (reached_zero by f h z r s.at))

-- what isn't zero comes from points
remainder_keeps : (a : List ℤ) (x y : Exponents) (ds : List MarkedPolynomial) (ps rs : List Point) →
    Reached (Contains ds) (strand_terms a x ps) (strand_terms a x rs) → HasMonomial (strand_terms a x rs) y →
    KeepsVariables (strand_terms a x ps) (strand_terms a x rs)
remainder_keeps a x y ds [] rs r h = absurd (h (reached_zero (Contains ds) [] (strand_terms a x rs) (λ e. refl) r y))
remainder_keeps a x y ds (p ∷ ps) rs r h = record { at = λ n v. strand_variables a x rs n (sym (moved-length a x p.k) ∙ v.0) }

-- ---- new strands

-- some points are left, and they are a strand
taken_points : (a : List ℤ) (x : Exponents) (xs : List Exponents) (ls new : List Strand) (f : Terms) (rs : List Point) (l : Strand) → IsGround a xs →
    length x ≡ length a → IsRemainder (with_monomials xs (strand_members a ls)) f (strand_terms a x rs) → KeepsVariables f (strand_terms a x rs) →
    IsStrandFrom a x rs l → new ≡ ls ++ l ∷ [] → IsTakenIn (facet_order a) f (with_monomials xs (strand_members a ls))
    (with_monomials xs (strand_members a new))
taken_points a x xs ls new f rs l g w h v k e = record {
  r = strand_terms a x rs;
  normal = h;
  variables = v;
  left = inr (
    some,
    record {
      member = strand_member a l;
      monic = k.monic;
      marked = strand_marked a l g.nonzero k.strand;
      poly = λ n u. member_variables a l n (width n rs some u);
      head = λ n u. width n rs some u;
      members = ap (λ (z : List Strand). with_monomials xs (strand_members a z)) e ∙ ap (with_monomials xs) (map_push (strand_member a) ls l) ∙ joined_push xs
          (strand_members a ls) (strand_member a l);
    },
  );
}
  where
    some : strand_terms a x rs ≢ []
    some z = k.monic.there (ap (λ (t : Terms). coefficient t l.mark) z)

    width : (n : ℕ) (rs : List Point) → strand_terms a x rs ≢ [] → HasVariables n (strand_terms a x rs) → length l.mark ≡ n
    width n [] s u = absurd (s refl)
    width n (r ∷ rs) s u = k.strand.width ∙ sym w ∙ sym (moved-length a x r.k) ∙ u.0

pub taken_strand : (a : List ℤ) (x : Exponents) (xs : List Exponents) (ls new : List Strand) (ps rs : List Point) (l : Strand) → IsGround a xs →
    length x ≡ length a → IsRemainder (with_monomials xs (strand_members a ls)) (strand_terms a x ps) (strand_terms a x rs) → IsStrandFrom a x rs l →
    new ≡ ls ++ l ∷ [] → IsTakenIn (facet_order a) (strand_terms a x ps) (with_monomials xs (strand_members a ls)) (with_monomials xs (strand_members a new))
taken_strand a x xs ls new ps rs l g w h k e =
    taken_points a x xs ls new (strand_terms a x ps) rs l g w h (remainder_keeps a x l.mark (with_monomials xs (strand_members a ls))
    ps rs h.reached k.monic.there)
    k e

pub strands_more : (a : List ℤ) (bs : List MarkedPolynomial) (ls new : List Strand) (l : Strand) → AreStrandsOf a bs ls → IsStrandAlong a l →
    IfSome l.origin (HasOrigin a bs l) → new ≡ ls ++ l ∷ [] → AreStrandsOf a bs new
strands_more a bs ls new l h k o e = subst (AreStrandsOf a bs) (sym e) (Each-++ (IsStrandOf a bs) ls (l ∷ []) h ((k, o), tt))

-- ---- parts

-- the strand of a part is of its member
pub origin_of : (a : List ℤ) (bs : List MarkedPolynomial) (p : Part) (l : Strand) → HasNonzero a → IsPartOnStrand a bs p →
    IsStrandFrom a p.base p.points.items l → HasOrigin a bs l p.index
origin_of a bs p l n h k = record {
  member = h.member;
  at = h.at;
  there = λ z. k.monic.there (along l.mark apart ∙ z);
  apart = apart;
  part = λ x s. ap (λ (z : Fraction). z *ℚ coefficient (strand_member a l).poly x) (sym (along l.mark apart)) ∙ k.monic.equation x ∙ along x
      ((multiple-grading a n).transitive x l.mark h.member.head s apart);
}
  where
    along : (x : Exponents) → AreMultipleApart a x h.member.head → coefficient (terms_of_part a p) x ≡ coefficient h.member.poly x
    along x s = h.part.along.along x s

    apart : AreMultipleApart a l.mark h.member.head
    apart = subst (AreMultipleApart a l.mark) h.base k.apart

-- none from the first index on does
pub none_below : (a : List ℤ) (x : Exponents) (ls : List Strand) (ps : List Point) → Each (λ (p : Point). NoStrandFrom ls 0 (moved a x p.k)) ps →
    Each (λ (p : Point). NoStrandBelow ls (moved a x p.k)) ps
none_below a x ls [] h = tt
none_below a x ls (p ∷ ps) h = (record { none = λ j l k e d. h.0.none j l (omega arith) k e d }, none_below a x ls ps h.1)

-- then no mark of all divides a term
clear_points : (a : List ℤ) (x : Exponents) (xs : List Exponents) (ls : List Strand) (ps : List Point) →
    IsIrreducible (Contains (with_monomials xs [])) (strand_terms a x ps) → Each (λ (p : Point). NoStrandBelow ls (moved a x p.k)) ps →
    IsIrreducible (Contains (with_monomials xs (strand_members a ls))) (strand_terms a x ps)
clear_points a x xs ls ps n h = both_undivided xs (strand_members a ls) (strand_terms a x ps) n (λ y t d. at y (strand_listed a x y ps t) d)
  where
    at : (y : Exponents) → (p : Point) × Contains ps p × (same y (moved a x p.k) ≡ true) → IsDivisible (Contains (strand_members a ls)) y → ⊥
    at y r d = none_of_strands a ls (moved a x r.0.k) (contained_each (λ (p : Point). NoStrandBelow ls (moved a x p.k)) ps h r.0 r.1)
        (divisible_along (Contains (strand_members a ls)) y (moved a x r.0.k) r.2 d)

-- a part that no mark divides is a strand as it is
pub taken_part : (a : List ℤ) (xs : List Exponents) (ls new : List Strand) (p : Part) (l : Strand) → IsGround a xs → length p.base ≡ length a →
    IsIrreducible (Contains (with_monomials xs [])) (terms_of_part a p) → Each (λ (q : Point). NoStrandBelow ls (moved a p.base q.k)) p.points.items →
    IsStrandFrom a p.base p.points.items l → new ≡ ls ++ l ∷ [] → IsTakenIn (facet_order a) (terms_of_part a p) (with_monomials xs (strand_members a ls))
    (with_monomials xs (strand_members a new))
taken_part a xs ls new p l g w n h k e =
    taken_points a p.base xs ls new (terms_of_part a p) p.points.items l g w (unchanged (with_monomials xs (strand_members a ls)) (terms_of_part a p)
    (clear_points a p.base xs ls p.points.items n h)) (record { at = λ n v. v }) k e

-- ---- widths

-- the monomials have the variables of a point, and so have the strands
pub marks_wide : (a : List ℤ) (xs : List Exponents) (x y : Exponents) (k : ℤ) → IsGround a xs → length x ≡ length a → y ≡ moved a x k →
    HaveVariables (length y) (with_monomials xs [])
marks_wide a xs x y k g w e = subst (λ (n : ℕ). HaveVariables n (with_monomials xs [])) (sym (ap length e ∙ moved-length a x k ∙ w)) g.marks

pub strands_wide : (a : List ℤ) (ls : List Strand) (x y : Exponents) (k : ℤ) → Each (IsStrandAlong a) ls → length x ≡ length a → y ≡ moved a x k →
    Each (λ (l : Strand). length l.mark ≡ length y) ls
strands_wide a [] x y k h w e = tt
strands_wide a (l ∷ ls) x y k h w e = (h.0.width ∙ sym w ∙ sym (moved-length a x k) ∙ sym (ap length e), strands_wide a ls x y k h.1 w e)
