-- One vector of the relative interior of a face tells of all of it, and the test of all faces is right.
-- To cite: decided, one_for_all, around, passed, failed.
use Rattle.std.proofs.Common.{
  ◌≡◌,
  ◌≢◌,
  ◌⊎◌,
  ◌↔◌,
  ℕ,
  List,
  [],
  map,
  ℤ,
  pos,
  negsuc,
  ◌+ℤ◌,
  ◌-ℤ◌,
  ◌*ℤ◌,
  ◌<ℤ◌,
  ◌≤ℤ◌,
  length,
  Contains,
  arith,
  sym,
  ap,
  ◌∙◌,
  inl,
  inr,
}
use Rattle.std.proofs.lemmas.Int.{ints}
use Rattle.gf_frac.specs.Fraction.{zero_ℚ}
use Rattle.gf_frac.proofs.FractionLaws.{zero_or_not}
use Rattle.gf_int_theory.specs.Content.{scaled}
use Rattle.gf_int_theory.proofs.ListLaws.{all_by}
use Rattle.gf_int_theory.proofs.SignLaws.{equal_or_not}
use Rattle.gf_exponents_theory.specs.Exponents.{Exponents, whole_weight}
use Rattle.gf_exponents_theory.specs.Orders.{lighter}
use Rattle.gf_poly.specs.Polynomial.{Terms, coefficient}
use Rattle.gf_poly.specs.Marking.{MarkedPolynomial, polys}
use Rattle.gf_ideal_theory.specs.Membership.{HasMonomial, AreInVariables}
use Rattle.gf_ideal_theory.proofs.MarkWeights.{mark-there}
use Rattle.gf_ideal_theory.proofs.MembershipLaws.{member-generator}
use Rattle.gf_ideal_theory.proofs.PieceLaws.{Contains-polys}
use Rattle.gf_vec.specs.Vector.{dot, opposite}
use Rattle.gf_vec.proofs.VectorLaws.{length-times}
use Rattle.gf_duality_theory.specs.Faces.{Rows, IsInCone, IsFaceOf, part}
use Rattle.gf_duality_theory.proofs.ListLaws.{none_in}
use Rattle.gf_fans_theory.specs.Fans.{meet}
use Rattle.gf_fans_theory.proofs.Meeting.{ZeroRows, zero_rows, right_in}
use Rattle.gf_fans_theory.proofs.FanLaws.{both_in, face_in, part_in, of_part, part_zero, up_in}
use Rattle.gf_patterns_theory.specs.Interiors.{beyond, IsRelativeInterior}
use Rattle.gf_patterns_theory.specs.Patterns.{points, IsClosedCone, IsOnPrevariety, ArePatternCones}
use Rattle.gf_patterns_theory.specs.Refinements.{IsFaceOfSome}
use Rattle.gf_patterns_theory.proofs.InteriorLaws.{beyond_vec, interior_relative}
use Rattle.gf_patterns_theory.proofs.PatternLaws.{on_prevariety}
use Rattle.gf_facets_theory.specs.Facets.{IsInClosedCone}
use Rattle.gf_facets_theory.specs.MarkedBases.{IsMarkedReduced, IsMarkedReducedBasis}
use Rattle.gf_facets_theory.proofs.VectorLaws.{three}
use Rattle.gf_facets_theory.proofs.WholeLaws.{weight-sum, weight-multiple}
use Rattle.gf_bases_theory.proofs.LawsHold.{vectors_have_bases}
use Rattle.gf_initial_theory.specs.Parts.{IsInitialPart, AreInitialParts}
use Rattle.gf_initial_theory.proofs.MatchingLaws.{matched-map}
use Rattle.gf_initial_theory.proofs.PartLaws.{IsLevelPart, level_of_initial, initial_of_level}
use Rattle.gf_initial_theory.proofs.LawsHold.{initial_forms_of_bases}
use Rattle.gf_saturation_theory.specs.Saturations.{HasOneTermMember}
use Rattle.gf_tropical_basis_test.specs.Tests.{IsMonomialFree, IsFacePassed, IsBasisPassed, IsFailedAt}
use Rattle.gf_tropical_basis_test.specs.TropicalBases.{MonomialsDecide, IsBasisTest, TropicalBasesAreTested}

-- ---- initial forms decide

decided : (n : ℕ) (fs : List Terms) (w : List ℤ) (bs ps : List MarkedPolynomial) → AreInVariables n fs → IsMarkedReduced n fs bs →
    IsInClosedCone w bs → AreInitialParts w bs ps → IsMonomialFree n fs w ↔ (HasOneTermMember n (polys ps) → ⊥)
decided n fs w bs ps v b k p = (
  λ free h. free h.0 h.1 ((initial_forms_of_bases.generate n fs w bs ps h.0 v b k p).1 h.2) h.3,
  λ none q x m s. none (q, x, (initial_forms_of_bases.generate n fs w bs ps q v b k p).0 m, s),
)

-- ---- one vector decides for all of a relative interior

weight-beyond : (n : ℕ) (k : ℤ) (v u : List ℤ) (x : Exponents) → length v ≡ n → length u ≡ n →
    whole_weight (beyond k v u) x ≡ k *ℤ whole_weight v x -ℤ whole_weight u x
weight-beyond n k v u x lv lu =
    weight-sum (scaled k v) (opposite u) x (length-times k v ∙ lv ∙ sym lu ∙ sym (length-times (negsuc 0) u))
    ∙ ap (λ z. z +ℤ whole_weight (opposite u) x) (weight-multiple k v x)
    ∙ ap (λ z. k *ℤ whole_weight v x +ℤ z) (weight-multiple (negsuc 0) u x)
    ∙ omega (arith, ints)

-- monomials that weigh as the mark at one vector of the relative interior do so on the whole cone
as_heavy : (n : ℕ) (bs : List MarkedPolynomial) (f : Rows) (v w : List ℤ) → ((u : List ℤ) → length u ≡ n → IsInCone f u → IsInClosedCone u bs) →
    IsRelativeInterior n f v → length w ≡ n → IsInCone f w → (b : MarkedPolynomial) → Contains bs b → (x : Exponents) → HasMonomial b.poly x →
    whole_weight v x ≡ whole_weight v b.head → whole_weight w x ≡ whole_weight w b.head
as_heavy n bs f v w inside i lw iw b c x m e =
    let p = i.past w lw iw in
    let k : ℤ = p.0 in
    let low : whole_weight w x ≤ℤ whole_weight w b.head = inside w lw iw b c x m in
    let high : whole_weight (beyond k v w) x ≤ℤ whole_weight (beyond k v w) b.head = inside (beyond k v w) (beyond_vec k v w i.width lw).long p.1 b c x m in
    let at_x : whole_weight (beyond k v w) x ≡ k *ℤ whole_weight v x -ℤ whole_weight w x = weight-beyond n k v w x i.width lw in
    let at_head : whole_weight (beyond k v w) b.head ≡ k *ℤ whole_weight v b.head -ℤ whole_weight w b.head = weight-beyond n k v w b.head i.width lw in
    let same_k : k *ℤ whole_weight v x ≡ k *ℤ whole_weight v b.head = ap (λ z. k *ℤ z) e in
    omega (arith, ints, low, high, at_x, at_head, same_k)

level_moved : (v w : List ℤ) (b p : MarkedPolynomial) →
    ((x : Exponents) → HasMonomial b.poly x → whole_weight v x ≡ whole_weight v b.head → whole_weight w x ≡ whole_weight w b.head) →
    ((x : Exponents) → HasMonomial b.poly x → whole_weight w x ≡ whole_weight w b.head → whole_weight v x ≡ whole_weight v b.head) →
    IsLevelPart v b p → IsLevelPart w b p
level_moved v w b p to from i = record {
  head = i.head;
  level = λ x e. up x e (zero_or_not (coefficient b.poly x));
  off = λ x n. out x n (equal_or_not (whole_weight v x) (whole_weight v b.head));
}
  where
    nothing : (x : Exponents) → coefficient b.poly x ≡ zero_ℚ →
        (whole_weight v x ≡ whole_weight v b.head) ⊎ (whole_weight v x ≡ whole_weight v b.head → ⊥) → coefficient p.poly x ≡ zero_ℚ
    nothing x z (inl e) = i.level x e ∙ z
    nothing x z (inr n) = i.off x n

    up : (x : Exponents) → whole_weight w x ≡ whole_weight w b.head → (coefficient b.poly x ≡ zero_ℚ) ⊎ (coefficient b.poly x ≢ zero_ℚ) →
        coefficient p.poly x ≡ coefficient b.poly x
    up x e (inl z) = nothing x z (equal_or_not (whole_weight v x) (whole_weight v b.head)) ∙ sym z
    up x e (inr m) = i.level x (from x m e)

    out : (x : Exponents) → (whole_weight w x ≡ whole_weight w b.head → ⊥) →
        (whole_weight v x ≡ whole_weight v b.head) ⊎ (whole_weight v x ≡ whole_weight v b.head → ⊥) → coefficient p.poly x ≡ zero_ℚ
    out x n (inr o) = i.off x o
    out x n (inl e) = i.level x e ∙ none (zero_or_not (coefficient b.poly x))
      where
        none : (coefficient b.poly x ≡ zero_ℚ) ⊎ (coefficient b.poly x ≢ zero_ℚ) → coefficient b.poly x ≡ zero_ℚ
        none (inl z) = z
        none (inr m) = absurd (n (to x m e))

one_for_all : (n : ℕ) (fs : List Terms) (bs ps : List MarkedPolynomial) (f : Rows) (v w : List ℤ) → IsMarkedReduced n fs bs →
    ((u : List ℤ) → length u ≡ n → IsInCone f u → IsInClosedCone u bs) → IsRelativeInterior n f v → IsRelativeInterior n f w →
    AreInitialParts v bs ps → AreInitialParts w bs ps
one_for_all n fs bs ps f v w r inside i j h = matched-map (IsInitialPart v) (IsInitialPart w) bs ps moved h
  where
    there : (b : MarkedPolynomial) → Contains bs b → HasMonomial b.poly b.head
    there b c = mark-there (lighter r.basis.marked.0) b (r.basis.marked.2 b c)

    moved : (b p : MarkedPolynomial) → Contains bs b → IsInitialPart v b p → IsInitialPart w b p
    moved b p c q = initial_of_level w b p (inside w j.width j.inside b c) (there b c)
        (level_moved v w b p (as_heavy n bs f v w inside i j.width j.inside b c) (as_heavy n bs f w v inside j i.width i.inside b c)
        (level_of_initial v b p (inside v i.width i.inside b c) (there b c) q))

pub monomials_decide : MonomialsDecide
monomials_decide = record {
  by_forms = decided;
  at_once = λ n ps p x c s. (p.poly, x, member-generator n (polys ps) p.poly (Contains-polys ps p c), s);
  one_for_all = one_for_all;
}

-- ---- a vector of a cone is in the relative interior of the face on which the rows that are zero there are zero

record IsAround (n : ℕ) (c : Rows) (w : List ℤ) : Type 0 where
  zero : List (List ℤ)
  listed : (t : List ℤ) → Contains zero t → Contains c.inequalities t
  interior : IsRelativeInterior n (part c zero) w

around : (n : ℕ) (c : Rows) (w : List ℤ) → length w ≡ n → IsInCone c w → IsAround n c w
around n c w lw i = record {
  zero = z.rows;
  listed = z.listed;
  interior = interior_relative n (part c z.rows) w (record {
    width = lw;
    inside = part_in c z.rows w i z.zero;
    positive = all_by (λ h. (pos 0 <ℤ dot h w) ⊎ ((x : List ℤ) → length x ≡ n → IsInCone (part c z.rows) x → dot h x ≡ pos 0)) c.inequalities
        (λ h k. at h k (three (pos 0) (dot h w)));
  });
}
  where
    z : ZeroRows c.inequalities w
    z = zero_rows c.inequalities w

    at : (h : List ℤ) → Contains c.inequalities h → (pos 0 <ℤ dot h w) ⊎ ((pos 0 ≡ dot h w) ⊎ (dot h w <ℤ pos 0)) →
        (pos 0 <ℤ dot h w) ⊎ ((x : List ℤ) → length x ≡ n → IsInCone (part c z.rows) x → dot h x ≡ pos 0)
    at h k (inl l) = inl l
    at h k (inr (inl e)) = inr (λ x lx ix. part_zero c z.rows x h ix (z.all h k (sym e)))
    at h k (inr (inr l)) = let u = up_in c w h i k in absurd (omega (arith, ints, u, l))

-- ---- the test

-- a cone of the list has vectors of the prevariety only
on_cone : (n : ℕ) (As : List (List (List ℤ))) (cones : List Rows) (c : Rows) (v : List ℤ) → ArePatternCones IsOnPrevariety n As cones →
    Contains cones c → length v ≡ n → IsInCone c v → IsOnPrevariety As v
on_cone n As cones c v p k lv i =
    let a = p.each c (record { cone = c; listed = k; face = whole }) in
    on_prevariety.kept As a.vector v a.admitted ((a.closed v lv).0 i)
  where
    whole : IsFaceOf n c c
    whole = (
      [],
      (
        all_by (Contains c.inequalities) [] (λ t k. absurd (none_in t k)),
        λ x lx. (λ ix. part_in c [] x ix (λ t k. absurd (none_in t k)), λ ix. of_part c [] x ix),
      ),
    )

passed : (n : ℕ) (grade : List ℕ) (fs : List Terms) (cones : List Rows) → IsBasisTest n grade fs cones →
    ((bs : List MarkedPolynomial) → IsMarkedReducedBasis n fs bs → IsBasisPassed n cones bs) →
    (w : List ℤ) → length w ≡ n → IsOnPrevariety (map points fs) w → IsMonomialFree n fs w
passed n grade fs cones t all w lw o = (decided n fs w bs k.sample.parts t.variables basis.reduced in_closed parts).1 k.free
  where
    found : (cs : List MarkedPolynomial) × IsMarkedReducedBasis n fs cs × IsInClosedCone w cs
    found = vectors_have_bases n grade fs w t.variables t.positive t.homogeneous lw

    bs : List MarkedPolynomial
    bs = found.0

    basis : IsMarkedReducedBasis n fs bs
    basis = found.1

    in_closed : IsInClosedCone w bs
    in_closed = found.2

    p : IsBasisPassed n cones bs
    p = all bs basis

    face : (f : Rows) × (IsFaceOfSome n cones f × IsClosedCone n (map points fs) w f)
    face = t.cones_are.every w lw o

    c : Rows
    c = face.1.0.cone

    in_c : IsInCone c w
    in_c = face_in n face.0 c w face.1.0.face lw ((face.1.1 w lw).1 (λ A k s h. h))

    d : Rows
    d = meet c p.rows

    a : IsAround n d w
    a = around n d w lw (both_in c p.rows w in_c ((p.closed w lw).1 in_closed))

    k : IsFacePassed n bs (part d a.zero)
    k = p.faces c face.1.0.listed a.zero a.listed

    inside : (u : List ℤ) → length u ≡ n → IsInCone (part d a.zero) u → IsInClosedCone u bs
    inside u lu iu = (p.closed u lu).0 (right_in c p.rows u (of_part d a.zero u iu))

    parts : AreInitialParts w bs k.sample.parts
    parts = one_for_all n fs bs k.sample.parts (part d a.zero) k.sample.vector w basis.reduced inside k.sample.interior a.interior k.sample.are_parts

failed : (n : ℕ) (grade : List ℕ) (fs : List Terms) (cones : List Rows) (v : List ℤ) → IsBasisTest n grade fs cones → length v ≡ n →
    IsFailedAt n fs cones v → IsOnPrevariety (map points fs) v × (IsMonomialFree n fs v → ⊥)
failed n grade fs cones v t lv h = (
  on_cone n (map points fs) cones h.cone v t.cones_are h.listed lv h.in_cone,
  λ free. (decided n fs v h.basis h.parts t.variables h.is_basis.reduced h.inside h.are_parts).0 free h.single,
)

pub tropical_bases_are_tested : TropicalBasesAreTested
tropical_bases_are_tested = record { yes = passed; no = failed }
