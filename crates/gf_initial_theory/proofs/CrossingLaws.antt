-- Neighbours have parts on their common facet: two bases of one ideal.
-- To cite: parts_of_neighbours.
use Rattle.std.proofs.Common.{◌≡◌, ℕ, true, false, Bool, List, Contains, get_or, ℤ, pos, ◌+ℤ◌, ◌*ℤ◌, arith, refl, sym, ap, ◌∙◌, subst, inl, inr}
use Rattle.std.proofs.lemmas.Int.{ints}
use Rattle.gf_int_theory.proofs.RingLaws.{*ℤ-neg}
use Rattle.gf_exponents_theory.specs.Exponents.{Exponents, same, entry, whole_weight}
use Rattle.gf_exponents_theory.proofs.ExponentsLaws.{entries_same}
use Rattle.gf_poly.specs.Polynomial.{Terms}
use Rattle.gf_poly.specs.Marking.{MarkedPolynomial, polys}
use Rattle.gf_ideal_theory.specs.Membership.{AreInVariables}
use Rattle.gf_ideal_theory.specs.Marks.{AreMarked}
use Rattle.gf_ideal_theory.proofs.MembershipLaws.{variables_of_member}
use Rattle.gf_ideal_theory.proofs.BasisLaws.{basis_along}
use Rattle.gf_facets_theory.specs.Rows.{negated}
use Rattle.gf_facets_theory.specs.Regions.{Region}
use Rattle.gf_facets_theory.specs.Beyond.{IsStepsFrom, IsFurther}
use Rattle.gf_facets_theory.specs.MarkedBases.{IsMarkedReduced}
use Rattle.gf_facets_theory.specs.Neighbours.{AreAdjacent}
use Rattle.gf_facets_theory.proofs.WholeLaws.{further-weight, further-strict}
use Rattle.gf_facets_theory.proofs.VectorLaws.{get-negated}
use Rattle.gf_facets_theory.proofs.NormalLaws.{HasFurther}
use Rattle.gf_initial_theory.specs.Parts.{Matching}
use Rattle.gf_initial_theory.proofs.MatchingLaws.{matched-from, matched-to}
use Rattle.gf_initial_theory.proofs.PartLaws.{IsLevelPart, part-there, parts-variables, divisible_part, divisible_whole, parts_reduced}
use Rattle.gf_initial_theory.proofs.SideLaws.{IsSide, side-weak, level_parts, parts_marked, same_ideals}
use Rattle.gf_initial_theory.proofs.FlipLaws.{side_of_inside, side_there, normal-further}
use Rattle.gf_initial_theory.specs.Crossings.{HaveParts}

-- further along the negatives is steps back
steps_back : (a : List ℤ) (x y : Exponents) → (f : IsFurther (negated a) x y) → IsStepsFrom f.0 a x y
steps_back a x y f i = let e = get-negated a i in omega (
  arith,
  ints,
  f.2 i ∙ ap (λ z. pos (entry y i) +ℤ pos f.0 *ℤ z) e,
  *ℤ-neg (pos f.0) (get_or a i (pos 0)),
)

-- no steps, where monomials are the same
no_steps : (a : List ℤ) (x y : Exponents) → same x y ≡ true → IsStepsFrom 0 a x y
no_steps a x y s i = let e = entries_same x y s i in omega (arith, ints, e)

pub parts_of_neighbours : (n : ℕ) (fs : List Terms) (k : Region) (bs cs : List MarkedPolynomial) (a : List ℤ) →
    AreInVariables n fs → AreAdjacent n fs k bs a cs → HaveParts n a bs cs
parts_of_neighbours n fs k bs cs a vars d = at (level_parts d.point bs) (level_parts d.point cs)
  where
    v : List ℤ
    v = d.point

    s : IsSide n fs d.point (negated a) bs
    s = side_of_inside n fs k bs a d.point d.here d.facet

    t : IsSide n fs d.point a cs
    t = side_there n fs k bs a cs d

    far : HasFurther bs (negated a)
    far = normal-further n fs k bs a d.here d.facet.normal

    at : ((ps : List MarkedPolynomial) × Matching (IsLevelPart d.point) bs ps) →
        ((qs : List MarkedPolynomial) × Matching (IsLevelPart d.point) cs qs) → HaveParts n a bs cs
    at p q = with_member (matched-to (IsLevelPart d.point) bs p.0 p.1 far.member far.contained)
      where
        left : IsMarkedReduced n (polys p.0) p.0
        left = parts_reduced n fs bs p.0 d.point vars s.reduced (side-weak n fs d.point (negated a) bs s) p.1

        right : IsMarkedReduced n (polys q.0) q.0
        right = parts_reduced n fs cs q.0 d.point vars t.reduced (side-weak n fs d.point a cs t) q.1

        marks_left : AreMarked (IsFurther (negated a)) p.0
        marks_left = parts_marked n fs d.point (negated a) bs p.0 s p.1

        marks_right : AreMarked (IsFurther a) q.0
        marks_right = parts_marked n fs d.point a cs q.0 t q.1

        with_member : ((r : MarkedPolynomial) × Contains p.0 r × IsLevelPart d.point far.member r) → HaveParts n a bs cs
        with_member r = record {
          ideal = polys p.0;
          variables = parts-variables n bs p.0 d.point (λ b c. variables_of_member n fs b.poly vars (s.reduced.basis.members b c)) p.1;
          here = p.0;
          there = q.0;
          basis_here = left.basis;
          basis_there = basis_along n (polys q.0) (polys p.0) q.0 (same_ideals n fs d.point bs p.0 cs q.0 vars s.reduced.basis
              (side-weak n fs d.point (negated a) bs s) p.1 t.reduced.basis (side-weak n fs d.point a cs t) q.1) right.basis;
          reduced = left.tails;
          below = λ m c x h. elim ((marks_left m c).tail x h) [ inl e ↦ (0, no_steps a x m.head e) | inr f ↦ (f.0, steps_back a x m.head f) ];
          above = λ m c x h. elim ((marks_right m c).tail x h) [
            | inl e ↦ (0, λ i. (let g = entries_same x m.head e i in omega (arith, ints, g)))
            | inr f ↦ (f.0, f.2)
          ];
          lead_here = λ x. (
            divisible_whole (IsLevelPart d.point) bs p.0 x (λ b m i. i.head) p.1,
            divisible_part (IsLevelPart d.point) bs p.0 x
                (λ b m i. i.head) p.1,
          );
          lead_there = λ x. (
            divisible_whole (IsLevelPart d.point) cs q.0 x (λ b m i. i.head) q.1,
            divisible_part (IsLevelPart d.point) cs q.0 x
                (λ b m i. i.head) q.1,
          );
          within = λ m c x h. (let b = matched-from (IsLevelPart d.point) bs p.0 p.1 m c in (b.0, b.1, (part-there d.point b.0 m x b.2 h).1));
          member = r.0;
          contained = r.1;
          other = far.at;
          has_other = λ z. far.there (sym (r.2.level far.at weight) ∙ z);
          unmarked = off (same far.at r.0.head) refl;
        }
          where
            weight : whole_weight d.point far.at ≡ whole_weight d.point far.member.head
            weight = further-weight d.point (negated a) far.at far.member.head s.zero far.further

            off : (b : Bool) → same far.at r.0.head ≡ b → b ≡ false
            off false e = refl
            off true e = absurd (nowhere (subst (λ (z : Exponents). same far.at z ≡ true) r.2.head e))
              where
                nowhere : same far.at far.member.head ≡ true → ⊥
                nowhere e = (further-strict (negated a) s.nonzero).irreflexive far.at far.member.head e far.further
