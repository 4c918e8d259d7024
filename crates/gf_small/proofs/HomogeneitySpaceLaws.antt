-- The homogeneity space as the null space of rows.
-- To cite: RowsSoFar and its steps, basis_of, dimension_of.
use Rattle.std.specs.Prelude.{◌≡◌, ◌↔◌, ◌⊎◌, ℕ, zero, suc, ◌+◌, ◌<◌, true, false, List, [], ◌∷◌, ◌++◌, length, take, get_or, All, Contains, ℤ, pos}
use Rattle.std.proofs.Common.{arith, sym, ap, subst, ◌∙◌, inl, inr, append_assoc, append-nil}
use Rattle.std.proofs.lemmas.Int.{ints}
use Rattle.std.proofs.lemmas.List.{take_more}
use Rattle.std.proofs.lemmas.List.Elements.{All-contains, Contains-get_or}
use Rattle.gf_exponents_theory.specs.Exponents.{same, whole_weight}
use Rattle.gf_exponents_theory.proofs.WholeWeightLaws.{whole_weight-same}
use Rattle.gf_vec.specs.Vector.{dot}
use Rattle.gf_poly.specs.declared.Term.{Term}
use Rattle.gf_poly.specs.Polynomial.{HasVariables}
use Rattle.gf_poly.specs.Marking.{MarkedPolynomial, MarkedPolynomials, Each, HaveVariables, HasMarkedTerm}
use Rattle.gf_poly.proofs.CoefficientLaws.{term_length}
use Rattle.gf_ideal_theory.proofs.ListLaws.{Each-++}
use Rattle.gf_gordan.specs.Alternative.{AreRows}
use Rattle.gf_duality_theory.specs.Rays.{IsLineal, IsRays}
use Rattle.gf_facets_theory.specs.Rows.{rows_of_polynomials, differences}
use Rattle.gf_facets_theory.proofs.RowLaws.{row-in, row-from, IsTermRow, length-differences, dot-differences}
use Rattle.gf_small.specs.HomogeneitySpace.{IsInSpace, IsBasisOfSpace, HasSpaceDimension}
use Rattle.gf_small.specs.Statistics.{members_of}
use Rattle.gf_poly.proofs.InitialFormLaws.{same_or_not}
use Rattle.gf_cone.proofs.RowsLaws.{members-append}

-- ---- the rows of lists

members_of-push : (sets : List MarkedPolynomials) (s : MarkedPolynomials) → members_of (sets ++ s ∷ []) ≡ members_of sets ++ s.items
members_of-push [] s = append-nil s.items
members_of-push (t ∷ sets) s = ap (λ z. t.items ++ z) (members_of-push sets s) ∙ sym (append_assoc t.items (members_of sets) s.items)

-- the rows of the first i sets
pub record RowsSoFar (n : ℕ) (sets : List MarkedPolynomials) (rows : List (List ℤ)) (i : ℕ) : Type 0 where
  pub items : rows ≡ rows_of_polynomials (members_of (take i sets))
  pub marked : Each HasMarkedTerm (members_of (take i sets))
  pub variables : HaveVariables n (members_of (take i sets))

next_members : (sets : List MarkedPolynomials) (i : ℕ) (s : MarkedPolynomials) → i < length sets → s ≡ get_or sets i s →
    members_of (take (i + 1) sets) ≡ members_of (take i sets) ++ s.items
next_members sets i s l e = ap members_of (take_more sets i s l ∙ ap (λ (z : MarkedPolynomials). take i sets ++ z ∷ []) (sym e)) ∙ members_of-push (take i sets)
    s

pub rows-more : (n : ℕ) (sets : List MarkedPolynomials) (rows next : List (List ℤ)) (i : ℕ) (s : MarkedPolynomials) → i < length sets → s ≡ get_or sets i s →
    s.variables ≡ n → Each HasMarkedTerm s.items → HaveVariables s.variables s.items → next ≡ rows ++ rows_of_polynomials s.items → RowsSoFar n sets rows i →
    RowsSoFar n sets next (i + 1)
rows-more n sets rows next i s l e q m v r h =
    let more = next_members sets i s l e in
    record {
      items = r ∙ ap (λ (z : List (List ℤ)). z ++ rows_of_polynomials s.items) h.items ∙ sym (members-append (members_of (take i sets)) s.items) ∙
          ap rows_of_polynomials (sym more);
      marked = subst (Each HasMarkedTerm) (sym more) (Each-++ HasMarkedTerm (members_of (take i sets)) s.items h.marked m);
      variables = subst (HaveVariables n) (sym more) (Each-++ (λ (b : MarkedPolynomial). HasVariables n b.poly) (members_of (take i sets)) s.items h.variables
          (subst (λ (k : ℕ). HaveVariables k s.items) q v));
    }

-- ---- members

each_member : (P : MarkedPolynomial → Type 0) (bs : List MarkedPolynomial) (b : MarkedPolynomial) → Each P bs → Contains bs b → P b
each_member P [] b h c = absurd (omega (arith, c.1))
each_member P (d ∷ bs) b h (zero, l, e) = subst P e h.0
each_member P (d ∷ bs) b h (suc k, l, e) = each_member P bs b h.1 (k, omega arith, e)

-- ---- the space

flat_on : (n : ℕ) (w : List ℤ) (bs : List MarkedPolynomial) → HaveVariables n bs → Each HasMarkedTerm bs → IsInSpace w bs → (r : List ℤ) →
    Contains (rows_of_polynomials bs) r → dot r w ≡ pos 0
flat_on n w bs v m h r c = at (row-from bs r c)
  where
    at : ((b : MarkedPolynomial) × Contains bs b × IsTermRow b.head b.poly r) → dot r w ≡ pos 0
    at q =
        let b : MarkedPolynomial = q.0 in
        let variables : HasVariables n b.poly = each_member (λ (d : MarkedPolynomial). HasVariables n d.poly) bs b v q.1 in
        let marked : HasMarkedTerm b = each_member HasMarkedTerm bs b m q.1 in
        let top : Term = record { coef = marked.mark; mono = b.head } in
        let lengths : length b.head ≡ length q.2.term.mono =
        term_length n b.poly top variables marked.term ∙ sym (term_length n b.poly q.2.term variables q.2.inside) in
        ap (λ (z : List ℤ). dot z w) q.2.row ∙ dot-differences w b.head q.2.term.mono lengths ∙ omega (arith, ints, h b q.1 top q.2.term marked.term q.2.inside)

level : (n : ℕ) (w : List ℤ) (bs : List MarkedPolynomial) → HaveVariables n bs → Each HasMarkedTerm bs → All (λ e. dot e w ≡ pos 0) (rows_of_polynomials bs) →
    (b : MarkedPolynomial) → Contains bs b → (t : Term) → Contains b.poly t → whole_weight w t.mono ≡ whole_weight w b.head
level n w bs v m h b c t k = at (same_or_not b.head t.mono)
  where
    variables : HasVariables n b.poly
    variables = each_member (λ (d : MarkedPolynomial). HasVariables n d.poly) bs b v c

    marked : HasMarkedTerm b
    marked = each_member HasMarkedTerm bs b m c

    at : (same b.head t.mono ≡ true) ⊎ (same b.head t.mono ≡ false) → whole_weight w t.mono ≡ whole_weight w b.head
    at (inl s) = sym (whole_weight-same w b.head t.mono s)
    at (inr d) =
        let lengths : length b.head ≡ length t.mono = term_length n b.poly (record { coef = marked.mark; mono = b.head }) variables marked.term ∙
        sym (term_length n b.poly t variables k) in
        omega (
          arith,
          ints,
          dot-differences w b.head t.mono lengths,
          All-contains (λ e. dot e w ≡ pos 0) (rows_of_polynomials bs) (differences b.head t.mono) h
              (row-in bs b t c k d),
        )

space_exact : (n : ℕ) (w : List ℤ) (bs : List MarkedPolynomial) → HaveVariables n bs → Each HasMarkedTerm bs →
    IsInSpace w bs ↔ IsLineal [] (rows_of_polynomials bs) w
space_exact n w bs v m = (
  λ h. record { flat = λ k d l. absurd (omega arith); zero = λ k d l. flat_on n w bs v m h _ (Contains-get_or (rows_of_polynomials bs) k d l) },
  λ h b c s t a e. level n w bs v m h.zero b c s a ∙ sym (level n w bs v m h.zero b c t e),
)

-- the rows have the width of the space
pub rows_width : (n : ℕ) (bs : List MarkedPolynomial) → HaveVariables n bs → Each HasMarkedTerm bs → AreRows n (rows_of_polynomials bs)
rows_width n bs v m k d l = at (row-from bs (get_or (rows_of_polynomials bs) k d) (Contains-get_or (rows_of_polynomials bs) k d l))
  where
    at : ((b : MarkedPolynomial) × Contains bs b × IsTermRow b.head b.poly (get_or (rows_of_polynomials bs) k d)) →
        length (get_or (rows_of_polynomials bs) k d) ≡ n
    at q =
        let variables : HasVariables n q.0.poly = each_member (λ (b : MarkedPolynomial). HasVariables n b.poly) bs q.0 v q.1 in
        let marked : HasMarkedTerm q.0 = each_member HasMarkedTerm bs q.0 m q.1 in
        let head : length q.0.head ≡ n = term_length n q.0.poly (record { coef = marked.mark; mono = q.0.head }) variables marked.term in
        ap length q.2.row ∙ length-differences q.0.head q.2.term.mono (head ∙ sym (term_length n q.0.poly q.2.term variables q.2.inside)) ∙ head

-- those of the first i sets have it
pub rows_wide : (n : ℕ) (sets : List MarkedPolynomials) (rows : List (List ℤ)) (i : ℕ) → RowsSoFar n sets rows i → AreRows n rows
rows_wide n sets rows i h = subst (AreRows n) (sym h.items) (rows_width n (members_of (take i sets)) h.variables h.marked)

-- the lineality space of the rows is the homogeneity space
pub basis_of : (n : ℕ) (bs : List MarkedPolynomial) (rows lineality rays : List (List ℤ)) → HaveVariables n bs → Each HasMarkedTerm bs →
    rows ≡ rows_of_polynomials bs → IsRays n [] rows lineality rays → IsBasisOfSpace n bs lineality
basis_of n bs rows lineality rays v m e r = record {
  width = r.lin_width;
  echelon = r.echelon;
  spans = λ w l.
      let exact = space_exact n w bs v m in
      let spans = r.spans w l in (
        λ h. spans.0 (subst (λ (z : List (List ℤ)). IsLineal [] z w) (sym e) (exact.0 h)),
        λ g. exact.1 (subst (λ (z : List (List ℤ)). IsLineal [] z w) e (spans.1 g)),
      );
}

pub dimension_of : (n d : ℕ) (bs : List MarkedPolynomial) (rows lineality rays : List (List ℤ)) → HaveVariables n bs → Each HasMarkedTerm bs →
    rows ≡ rows_of_polynomials bs → IsRays n [] rows lineality rays → d ≡ length lineality → HasSpaceDimension n bs d
dimension_of n d bs rows lineality rays v m e r q = (lineality, basis_of n bs rows lineality rays v m e r, sym q)
