-- The pairs of the monic forms tell whether a marked set is a Gröbner basis for its marking.
-- To cite: polys_variables, some_weight, s_at, groebner_of_forms, failing_refutes, basis_of.
use Rattle.std.specs.Prelude.{◌≡◌, ◌≢◌, ℕ, true, List, [], map, Contains, IsPermutation}
use Rattle.std.proofs.Common.{sym, subst}
use Rattle.std.proofs.lemmas.List.Sorted.{Contains-permutation}
use Rattle.gf_exponents_theory.specs.Exponents.{Exponents, same, plus}
use Rattle.gf_exponents_theory.specs.Orders.{lighter}
use Rattle.gf_poly.specs.Polynomial.{Terms, HasVariables}
use Rattle.gf_poly.specs.Marking.{MarkedPolynomial, MarkedPolynomials, HaveVariables, polys, IsArranged}
use Rattle.gf_poly.proofs.CoefficientLaws.{descending_unique}
use Rattle.gf_ideal_theory.specs.Membership.{HasMonomial, IsMember, AreInVariables, AreSameIdeal, IsInVariables}
use Rattle.gf_ideal_theory.specs.Marks.{IsRealisable}
use Rattle.gf_ideal_theory.specs.Reduction.{IsDivisible, IsSPolynomial}
use Rattle.gf_ideal_theory.specs.Bases.{IsBasis, IsGroebnerBasis}
use Rattle.gf_ideal_theory.specs.Settled.{IsAt}
use Rattle.gf_ideal_theory.proofs.MembershipLaws.{member-generator, same_ideal}
use Rattle.gf_ideal_theory.proofs.PieceLaws.{Contains-polys, Contains-marked}
use Rattle.gf_ideal_theory.proofs.ListLaws.{contained_each}
use Rattle.gf_ideal_theory.proofs.ListedTerms.{variables_by_terms}
use Rattle.gf_ideal_theory.proofs.StepLaws.{member-s_polynomial}
use Rattle.gf_ideal_theory.proofs.NormalFormLaws.{normal_form-reached}
use Rattle.gf_ideal_theory.proofs.GeneratorLaws.{monic_list}
use Rattle.gf_ideal_theory.proofs.MarkWeights.{mark-there}
use Rattle.gf_ideal_theory.proofs.BasisLaws.{remainder_zero, basis_of_groebner, basis_along}
use Rattle.gf_ideal_theory.proofs.ArrangementLaws.{basis-arranged, members_from}
use Rattle.gf_division.specs.NormalForms.{HasSomeWeight}
use Rattle.gf_division.proofs.ReducerLaws.{members_equal, member_contained}
use Rattle.gf_reduced.specs.Forms.{monic_of, monic_set}
use Rattle.gf_reduced.specs.Markings.{IsMarkedGroebnerBasis, IsBasisOf}
use Rattle.gf_reduced.specs.Pairs.{IsRemainderAt}
use Rattle.gf_reduced.proofs.FormLaws.{AreThere, realised_there, forms-variables, are_forms, form_of, form_there, forms_marked_by}

-- ---- the polynomials of a list as a program keeps them

pub polys_variables : (n : ℕ) (bs : List MarkedPolynomial) → HaveVariables n bs → AreInVariables n (polys bs)
polys_variables n bs v f c = at (Contains-marked bs f c)
  where
    at : ((b : MarkedPolynomial) × Contains bs b × (b.poly ≡ f)) → IsInVariables n f
    at b = subst (λ (g : Terms). IsInVariables n g) b.2 (variables_by_terms n b.0.poly (contained_each (λ (b : MarkedPolynomial). HasVariables n b.poly)
        bs v b.0 b.1))

-- ---- the monic forms

-- they generate the same ideal
forms_ideal : (n : ℕ) (bs : List MarkedPolynomial) → HaveVariables n bs → AreThere bs → AreSameIdeal n (polys bs) (polys (map monic_of bs))
forms_ideal n bs v h = monic_list n bs (map monic_of bs) (polys_variables n bs v) (are_forms bs h)

-- a weight that gives the marks marks them
pub some_weight : (n : ℕ) (bs : List MarkedPolynomial) → IsRealisable n bs → HasSomeWeight (map monic_of bs)
some_weight n bs r = (r.0, forms_marked_by r.0 bs r.2)

-- they have the same marks
pub divisible_back : (bs : List MarkedPolynomial) (x : Exponents) → IsDivisible (Contains (map monic_of bs)) x → IsDivisible (Contains bs) x
divisible_back bs x d =
    let b = form_of bs d.member d.contained in
    record { member = b.0; contained = b.1; rest = d.rest; divides = subst (λ (c : MarkedPolynomial). same x (plus d.rest c.head) ≡ true) (sym b.2) d.divides }

divisible_there : (bs : List MarkedPolynomial) (x : Exponents) → IsDivisible (Contains bs) x → IsDivisible (Contains (map monic_of bs)) x
divisible_there bs x d = record { member = monic_of d.member; contained = form_there bs d.member d.contained; rest = d.rest; divides = d.divides }

-- ---- pairs

-- the S-polynomial of the members at i and j
pub s_at : (bs : List MarkedPolynomial) (i j : ℕ) (b c : MarkedPolynomial) (r : Terms) (v : IsRemainderAt bs i j r) → IsAt bs i b → IsAt bs j c →
    IsSPolynomial b c v.s
s_at bs i j b c r v p q = subst (λ (x : MarkedPolynomial). IsSPolynomial x c v.s) (members_equal bs i v.first b v.at_first p)
    (subst (λ (y : MarkedPolynomial). IsSPolynomial v.first y v.s) (members_equal bs j v.second c v.at_second q) v.is_s)

-- the monic forms are a Gröbner basis for a weight that gives the marks
pub groebner_of_forms : (n : ℕ) (bs : List MarkedPolynomial) → HaveVariables n bs → (r : IsRealisable n bs) →
    IsGroebnerBasis n (polys (map monic_of bs)) r.0 (map monic_of bs) → IsMarkedGroebnerBasis n bs
groebner_of_forms n bs v r basis = record {
  weight = r.0;
  positive = r.1;
  marks = r.2;
  initial = λ f k x t. divisible_back bs x (basis.basis.initial f (same_ideals.inside f k) x t);
}
  where
    same_ideals : AreSameIdeal n (polys bs) (polys (map monic_of bs))
    same_ideals = forms_ideal n bs v (realised_there n bs r)

-- ---- the forms are a basis

forms_basis : (n : ℕ) (bs : List MarkedPolynomial) → HaveVariables n bs → IsMarkedGroebnerBasis n bs → IsBasis n (polys (map monic_of bs)) (map monic_of bs)
forms_basis n bs v g = basis_of_groebner n (polys forms) forms g.weight (record {
  positive = g.positive;
  basis = record {
    members = λ c k. member-generator n (polys forms) c.poly (Contains-polys forms c k);
    marked = forms_marked_by g.weight bs g.marks;
    initial = λ f k x t. divisible_there bs x (g.initial f (same_ideals.back f k) x t);
  };
})
  where
    forms : List MarkedPolynomial
    forms = map monic_of bs

    same_ideals : AreSameIdeal n (polys bs) (polys forms)
    same_ideals = forms_ideal n bs v (λ b k. (g.marks b k).there)

-- so the normal form of each S-polynomial of two is zero
pub failing_refutes : (n : ℕ) (bs : List MarkedPolynomial) (i j : ℕ) (r : Terms) → HaveVariables n bs → IsRemainderAt (map monic_of bs) i j r → r ≢ [] →
    IsMarkedGroebnerBasis n bs → ⊥
failing_refutes n bs i j r v p z g =
    z (descending_unique n r [] (p.variables n kept) tt p.descending tt (remainder_zero n (polys forms) forms p.s r inside basis s_member
    (normal_form-reached forms p.s r p.normal_form.reached) p.normal_form.irreducible))
  where
    forms : List MarkedPolynomial
    forms = map monic_of bs

    kept : HaveVariables n forms
    kept = forms-variables n bs v

    inside : AreInVariables n (polys forms)
    inside = polys_variables n forms kept

    basis : IsBasis n (polys forms) forms
    basis = forms_basis n bs v g

    marked : (c : MarkedPolynomial) → Contains forms c → HasMonomial c.poly c.head
    marked c k = mark-there (lighter g.weight) c (forms_marked_by g.weight bs g.marks c k)

    member : (c : MarkedPolynomial) → Contains forms c → IsMember n (polys forms) c.poly
    member c k = member-generator n (polys forms) c.poly (Contains-polys forms c k)

    s_member : IsMember n (polys forms) p.s
    s_member =
        let one = member_contained forms i p.first p.at_first in
        let two = member_contained forms j p.second p.at_second in
        member-s_polynomial n (polys forms) p.first p.second p.s inside (marked p.first one) (marked p.second two) (member p.first one) (member p.second two)
        p.is_s

-- ---- arranged

-- in any order the members generate the same ideal
permuted_ideal : (n : ℕ) (bs cs : List MarkedPolynomial) → HaveVariables n bs → IsPermutation bs cs → AreSameIdeal n (polys bs) (polys cs)
permuted_ideal n bs cs v p = same_ideal n (polys bs) (polys cs) (polys_variables n bs v) (λ f k. polys_variables n bs v f (back f k))
    (λ f k. member-generator n (polys cs) f (there f k)) (λ f k. member-generator n (polys bs) f (back f k))
  where
    there : (f : Terms) → Contains (polys bs) f → Contains (polys cs) f
    there f k = let b = Contains-marked bs f k in subst (λ (g : Terms). Contains (polys cs) g) b.2
        (Contains-polys cs b.0 (Contains-permutation bs cs b.0 p b.1))

    back : (f : Terms) → Contains (polys cs) f → Contains (polys bs) f
    back f k = let c = Contains-marked cs f k in subst (λ (g : Terms). Contains (polys bs) g) c.2 (Contains-polys bs c.0 (members_from bs cs p c.0 c.1))

both_ideals : (n : ℕ) (fs gs hs : List Terms) → AreSameIdeal n fs gs → AreSameIdeal n gs hs → AreSameIdeal n fs hs
both_ideals n fs gs hs s t = record { inside = λ f m. t.inside f (s.inside f m); back = λ f m. s.back f (t.back f m) }

-- the monic forms, arranged, are a basis of the ideal
pub basis_of : (s t : MarkedPolynomials) → HaveVariables s.variables s.items → IsArranged (monic_set s) t → IsMarkedGroebnerBasis s.variables s.items →
    IsBasisOf s t
basis_of s t v r g = record {
  marked = g;
  ideal = both_ideals s.variables (polys s.items) (polys forms) (polys t.items) (forms_ideal s.variables s.items v (λ b k. (g.marks b k).there)) permuted;
  basis = subst (λ (n : ℕ). IsBasis n (polys t.items) t.items) (sym r.variables) (basis_along s.variables (polys forms) (polys t.items) t.items permuted
      (basis-arranged s.variables (polys forms) forms t.items r.members (forms_basis s.variables s.items v g)));
}
  where
    forms : List MarkedPolynomial
    forms = map monic_of s.items

    permuted : AreSameIdeal s.variables (polys forms) (polys t.items)
    permuted = permuted_ideal s.variables forms t.items (forms-variables s.variables s.items v) r.members
