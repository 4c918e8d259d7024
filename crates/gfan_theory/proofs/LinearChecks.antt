-- The checks of a marked set of variables and differences of variables stay within their limits, and so does its printed weight.
-- To cite: forms_marked, linear_checks_beside, linear_checks, set_differences, linear_weight, linear_weights. The rest are steps.
use Rattle.std.proofs.Common.{◌≡◌, ℕ, ◌+◌, ◌<◌, ◌≤◌, ◌^◌, List, [], ◌++◌, length, map, All, Contains, ℤ, unsigned_abs}
use Rattle.std.proofs.Common.{arith, refl, sym, ap, ◌∙◌, subst, inl, inr}
use Rattle.std.proofs.lemmas.List.Elements.{All-nil, All-contains, Contains-append_left, Contains-append_cases}
use Rattle.gf_exponents_theory.specs.Exponents.{Exponents, plus, join, degree}
use Rattle.gf_exponents_theory.proofs.WeightLaws.{degree-plus, degree-same}
use Rattle.gf_int_theory.proofs.ListLaws.{all_by}
use Rattle.gf_poly.specs.declared.error.PolyError.{PolyError}
use Rattle.gf_poly.specs.declared.error.PolyError.TheVariants as errors
use Rattle.gf_poly.specs.Marking.{MarkedPolynomial, MarkedPolynomials, HasMarkedTerm, polys, IsArranged}
use Rattle.gf_ideal_theory.specs.Operands.{IsShiftOperation, IsSPolynomialExponents}
use Rattle.gf_division.specs.SPolynomials.{AreMadeMonic}
use Rattle.gf_ideal_theory.proofs.ListLaws.{each_contained}
use Rattle.gf_ideal_theory.proofs.PieceLaws.{Contains-marked}
use Rattle.gf_ideal_theory.proofs.StepLaws.{taken, monic-monomials}
use Rattle.gf_bases_theory.proofs.LawsHold.{only_ideals_count, marked_bases_are_reduced}
use Rattle.gf_gordan.specs.Alternative.{AreRows}
use Rattle.gf_gordan.specs.Sizes.{HaveEntriesUpTo}
use Rattle.gf_gordan.proofs.SizeLaws.{UpTo}
use Rattle.gf_ideal_theory.proofs.KeptForms.{term_there}
use Rattle.gf_facets_theory.specs.Rows.{rows_of_polynomials}
use Rattle.gf_facets_theory.specs.Systems.{units, system_of}
use Rattle.gf_facets_theory.proofs.RowLaws.{IsTermRow, row-from}
use Rattle.gf_facets_theory.proofs.SystemLaws.{canonical_all, marked_system_wide}
use Rattle.gf_facets_theory.proofs.UnitLaws.{unit_of, units_wide}
use Rattle.gf_facets_theory.specs.Regions.{all_positive}
use Rattle.gf_facets_theory.specs.MarkedBases.{AreCanonical, IsBasisInRegion, IsMarkedReducedBasis}
use Rattle.gf_reduced.specs.Forms.{monic_of, monic_set, IsFormRefusal}
use Rattle.gf_reduced.specs.Markings.{IsMarkedGroebnerBasis}
use Rattle.gf_reduced.specs.Terms.{AreReduced}
use Rattle.gf_reduced.specs.Refusals.{IsPairCause, IsPairsRefusal, AreChecksWithinLimits, AreChecksWithinLimitsBeside}
use Rattle.gf_reduced.proofs.FormLaws.{is_form, form_of}
use Rattle.gf_reduced.proofs.GroebnerLaws.{polys_variables}
use Rattle.gf_reduced.proofs.ReducedLaws.{reduced_of}
use Rattle.gf_weights.specs.Refusals.{IsWeightWithinLimits, AreCertificatesFittingIn}
use Rattle.gf_weights.specs.declared.error.WeightError.TheVariants as weight_errors
use Rattle.gf_duality_theory.proofs.ListLaws.{none_in}
use Rattle.gf_binomial_calls_theory.proofs.CheckLaws.{head_there, member_fits, polys_binomial, forms_binomial, pairs_fit}
use Rattle.gfan_theory.specs.Differences.{AreDifferenceRows}
use Rattle.gfan_theory.specs.Linear.{IsLinear, AreLinearDifferences, IsLinearSet, LinearWeightsStayWithinLimits}
use Rattle.gfan_theory.proofs.LinearRuns.{IsOfDegree, AreLinearMarked, closed-degree, entry_low, join_low, shift_short, step_short, s_polynomial_degree}
use Rattle.gfan_theory.proofs.LinearNormals.{linear_normals}
use Rattle.gfan_theory.proofs.FourColumns.{no_system_step}
use Rattle.gfan_theory.proofs.LinearLimits.{all_up, differences_up, unit_up}
use Rattle.gfan_theory.proofs.DifferenceLimits.{rows_small, certificates_of_differences_fit}

module _ (s : MarkedPolynomials) (l : IsLinearSet s) where
  -- the monic forms
  pub forms_marked : AreLinearMarked (map monic_of s.items)
  forms_marked = record { heads = heads; within = within }
    where
      heads : (d : MarkedPolynomial) → Contains (map monic_of s.items) d → degree d.head ≡ 1
      heads d c =
          let b = form_of s.items d c in
          subst (λ (z : MarkedPolynomial). degree z.head ≡ 1) b.2 (l.linear b.0 b.1 b.0.head (head_there s l.binomials b.0 b.1))

      within : (d : MarkedPolynomial) → Contains (map monic_of s.items) d → IsLinear d.poly
      within d c =
          let b = form_of s.items d c in
          subst (λ (z : MarkedPolynomial). IsLinear z.poly) b.2
          (λ x m. l.linear b.0 b.1 x (monic-monomials b.0.poly (monic_of b.0) (is_form b.0 (head_there s l.binomials b.0 b.1)) x m))

  forms_memory : (e : PolyError) → IsFormRefusal s.items e → e ≡ errors.Memory
  forms_memory (errors.Overflow o) f = absurd (member_fits s l.binomials f.member o f.contained f.cause)
  forms_memory (errors.Exponent o) f = absurd f
  forms_memory errors.Memory f = refl

  -- a sum of exponents of an S-polynomial
  pair_short : (x y : MarkedPolynomial) (left right : ℕ) (u : Exponents) (of : MarkedPolynomial) → degree x.head ≡ 1 → degree y.head ≡ 1 →
      degree of.head ≡ 1 → IsLinear of.poly →
      degree (plus u of.head) ≡ degree (join x.head y.head) → IsShiftOperation u of.poly left right → left + right < 2 ^ 31
  pair_short x y left right u of dx dy d m e i =
      shift_short u of left right (let p = degree-plus u of.head in let q = join_low x.head y.head in omega (arith, p, q, dx, dy, d, e)) m i

  pairs_memory : (e : PolyError) → IsPairsRefusal (map monic_of s.items) e → e ≡ errors.Memory
  pairs_memory (errors.Overflow o) q = absurd (pairs_fit (map monic_of s.items) o (forms_binomial s l.binomials) q)
  pairs_memory (errors.Exponent o) (IsPairCause.s_polynomial c d hc hd r) = absurd (let k = at r.0 in let w = r.1 in omega (arith, k, w))
    where
      at : ((x : MarkedPolynomial) × (y : MarkedPolynomial) × AreMadeMonic c d x y × IsSPolynomialExponents x y o.left o.right) → o.left + o.right < 2 ^ 31
      at (x, y, m, k) = elim (k.sum) [
        | inl i ↦ pair_short x y o.left o.right k.of_b x dx dy dx (λ z h. forms_marked.within c hc z (monic-monomials c.poly x m.left.form z h))
            (degree-same (plus k.of_b x.head) (join x.head y.head) k.shift_b) i
        | inr i ↦ pair_short x y o.left o.right k.of_c y dx dy dy (λ z h. forms_marked.within d hd z (monic-monomials d.poly y m.right.form z h))
            (degree-same (plus k.of_c y.head) (join x.head y.head) k.shift_c) i
      ]
        where
          dx : degree x.head ≡ 1
          dx = ap degree m.left.head ∙ forms_marked.heads c hc

          dy : degree y.head ≡ 1
          dy = ap degree m.right.head ∙ forms_marked.heads d hd
  pairs_memory (errors.Exponent o) (IsPairCause.reduction c d h hc hd q r) =
      let e = s_polynomial_degree (map monic_of s.items) c d h forms_marked hc hd q in
      let k = step_short (map monic_of s.items) e.0 r.0.from r.0.at o.left o.right forms_marked e.1
      (taken (Contains (map monic_of s.items)) (IsOfDegree e.0) h r.0.from (closed-degree e.0 (map monic_of s.items) forms_marked) e.2 r.0.reached).within
      r.0.sum in
      absurd (let w = r.1 in omega (arith, k, w))
  pairs_memory errors.Memory q = refl

  -- the rows of the marking, those of a region that compare two entries, and the unit vectors
  abbrev system : List (List ℤ) → List (List ℤ)
  system rows = rows_of_polynomials s.items ++ (rows ++ units s.variables s.variables)

  canonical : AreCanonical s.variables s.items
  canonical = canonical_all s.variables s.items l.binomials.variables (each_contained HasMarkedTerm s.items l.binomials.marked)

  row_up : (r : List ℤ) → Contains (rows_of_polynomials s.items) r → UpTo 10 r
  row_up r k = at (row-from s.items r k)
    where
      at : ((d : MarkedPolynomial) × Contains s.items d × IsTermRow d.head d.poly r) → UpTo 10 r
      at d =
          let t = d.2.term in
          let w = canonical d.0 d.1 in
          subst (UpTo 10) (sym d.2.row) (differences_up 10 d.0.head t.mono
          (λ i. let p = entry_low d.0.head i in let q = l.linear d.0 d.1 d.0.head (head_there s l.binomials d.0 d.1) in omega (arith, p, q))
          (λ i. let p = entry_low t.mono i in
          let q = l.linear d.0 d.1 t.mono (term_there s.variables d.0.poly t w.variables w.descending d.2.inside) in omega (arith, p, q)))

  system_low : (rows : List (List ℤ)) → AreDifferenceRows s.variables rows → HaveEntriesUpTo 10 (system rows)
  system_low rows differ = all_by (All (λ x. unsigned_abs x ≤ 10)) (system rows)
      (λ t k. elim (Contains-append_cases (rows_of_polynomials s.items) (rows ++ units s.variables s.variables) t k) [
        | inl r ↦ all_up 10 t (row_up t r)
        | inr i ↦ elim (Contains-append_cases rows (units s.variables s.variables) t i) [
          | inl r ↦ All-contains (All (λ x. unsigned_abs x ≤ 10)) rows t (rows_small s.variables rows 10 (omega arith) differ) r
          | inr u ↦ let p = unit_of s.variables s.variables t u in all_up 10 t (subst (UpTo 10) (sym p.2) (unit_up 10 s.variables p.0 (omega arith)))
        ]
      ])

  system_wide : (rows : List (List ℤ)) → AreDifferenceRows s.variables rows → AreRows s.variables (system rows)
  system_wide rows differ = all_by (λ t. length t ≡ s.variables) (system rows)
      (λ t k. elim (Contains-append_cases (rows_of_polynomials s.items) (rows ++ units s.variables s.variables) t k) [
        | inl r ↦ All-contains (λ t. length t ≡ s.variables) (system_of s.variables s.items) t
            (marked_system_wide s.variables s.items l.binomials.variables (each_contained HasMarkedTerm s.items l.binomials.marked))
            (Contains-append_left (rows_of_polynomials s.items) (units s.variables s.variables) t r)
        | inr i ↦ elim (Contains-append_cases rows (units s.variables s.variables) t i) [
          | inl r ↦ (differ t r).width
          | inr u ↦ units_wide s.variables s.variables t u
        ]
      ])

  -- the checks beside rows of a region that compare two entries
  pub linear_checks_beside : (rows : List (List ℤ)) → AreDifferenceRows s.variables rows → s.variables ≤ 4 → AreChecksWithinLimitsBeside rows s
  linear_checks_beside rows differ small = record {
    system = λ o k. no_system_step (length (system rows)) s.variables (system rows) [] o small (system_wide rows differ) (All-nil _) (system_low rows differ)
        (All-nil _) k;
    forms = forms_memory;
    pairs = pairs_memory;
  }

  pub linear_checks : s.variables ≤ 4 → AreChecksWithinLimits s
  linear_checks small =
      let c = linear_checks_beside [] (λ t k. absurd (none_in t k)) small in record { system = c.system; forms = c.forms; pairs = c.pairs }

  -- its polynomials
  pub set_differences : AreLinearDifferences s.variables (polys s.items)
  set_differences = record {
    forms = record {
      variables = polys_variables s.variables s.items l.binomials.variables;
      linear = λ f c. let b = Contains-marked s.items f c in subst IsLinear b.2 (l.linear b.0 b.1);
    };
    binomials = polys_binomial s l.binomials;
  }

  -- ---- the weight

  module _ (basis : IsMarkedGroebnerBasis s.variables s.items) (terms : AreReduced s.items) (t : MarkedPolynomials) (a : IsArranged (monic_set s) t) where
    pub node : IsBasisInRegion s.variables (polys s.items) (all_positive s.variables) t.items
    node =
        let r = reduced_of s t l.binomials.variables (each_contained HasMarkedTerm s.items l.binomials.marked) a terms basis in
        let here : IsMarkedReducedBasis s.variables (polys t.items) t.items = subst (λ (m : ℕ). IsMarkedReducedBasis m (polys t.items) t.items) a.variables
        r.reduced in
        let own : IsMarkedReducedBasis s.variables (polys s.items) t.items =
        only_ideals_count.same s.variables (polys t.items) (polys s.items) t.items (record { inside = r.basis.ideal.back; back = r.basis.ideal.inside }) here in
        (marked_bases_are_reduced.everywhere s.variables (polys s.items) t.items set_differences.forms.variables).1 own

    pub linear_weight : 1 ≤ s.variables → s.variables ≤ 4 → IsWeightWithinLimits t.variables t.items
    linear_weight some small = subst (λ (m : ℕ). IsWeightWithinLimits m t.items) (sym a.variables) fits
      where
        all : AreCertificatesFittingIn s.variables (all_positive s.variables) t.items
        all = certificates_of_differences_fit s.variables (all_positive s.variables) t.items some small (λ row k. absurd (none_in row k))
            (λ normals m. let p = linear_normals s.variables (polys s.items) (all_positive s.variables) t.items set_differences node normals m small in
            (let k = p.0 in omega (arith, k), p.1))

        fits : IsWeightWithinLimits s.variables t.items
        fits (weight_errors.Cone o) h = all (weight_errors.Cone o) h
        fits (weight_errors.Wide w) h = all (weight_errors.Wide w) (inl h)
        fits weight_errors.Memory h = refl

pub linear_weights : LinearWeightsStayWithinLimits
linear_weights = record {
  checks = λ s l small. linear_checks s l small;
  weights = λ s l some small basis terms. record {
    variables = l.binomials.variables;
    basis = basis;
    terms = terms;
    checks = linear_checks s l small;
    weight = λ t a. linear_weight s l basis terms t a some small;
  };
}
