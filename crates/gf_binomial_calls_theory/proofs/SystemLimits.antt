-- The systems of the normals of an ideal with one generator, and of the marking of a set, stay in range, where there are at most three
-- variables and the exponents and the rows of the region are up to 500.
-- To cite: systems_within, small_search, marking_within.
use Rattle.std.proofs.Common.{◌≡◌, ℕ, zero, suc, ◌+◌, ◌≤◌, List, [], ◌∷◌, ◌++◌, length, All, Contains, Err, ℤ, pos, ◌-ℤ◌, unsigned_abs, arith, refl, sym, ◌∙◌}
use Rattle.std.proofs.Common.{subst, inl, inr}
use Rattle.std.proofs.lemmas.Int.{ints}
use Rattle.std.proofs.lemmas.List.{get_or_default}
use Rattle.std.proofs.lemmas.List.Elements.{All-nil, All-contains, Contains-get_or, Contains-append_cases}
use Rattle.gf_exponents_theory.specs.Exponents.{Exponents, entry}
use Rattle.gf_int_theory.proofs.ListLaws.{all_by}
use Rattle.gf_poly.specs.Marking.{MarkedPolynomial, MarkedPolynomials, HaveVariables, HasMarkedTerm, Each}
use Rattle.gf_poly.specs.Polynomial.{Terms, HasVariables}
use Rattle.gf_ideal_theory.specs.Membership.{AreInVariables}
use Rattle.gf_ideal_theory.specs.Reduction.{IsMonicForm}
use Rattle.gf_ideal_theory.proofs.ListLaws.{contained_each}
use Rattle.gf_ideal_theory.proofs.KeptForms.{term_there, marked_there}
use Rattle.gf_gordan.specs.Alternative.{AreRows}
use Rattle.gf_gordan.specs.Sizes.{HaveEntriesUpTo}
use Rattle.gf_gordan.specs.declared.error.ConeOverflow.{ConeOverflow}
use Rattle.gf_gordan.specs.declared.error.GordanError.TheVariants.{Cone, Memory}
use Rattle.gf_gordan.proofs.SizeLaws.{UpTo, up_none, up_cons, up_zeros, up_divided}
use Rattle.gf_gordan.proofs.ThreeColumns.{not_refused}
use Rattle.gf_facets_theory.specs.Rows.{differences, rows_of_polynomials, IsNormal}
use Rattle.gf_facets_theory.specs.Systems.{unit, units, system_of}
use Rattle.gf_facets_theory.specs.Normals.{others_of}
use Rattle.gf_facets_theory.specs.MarkedBases.{AreCanonical, IsBasisInRegion}
use Rattle.gf_facets_theory.proofs.RowLaws.{IsTermRow, row-from}
use Rattle.gf_facets_theory.proofs.NormalLaws.{normal-length}
use Rattle.gf_facets_theory.proofs.NormalListLaws.{others_only}
use Rattle.gf_facets_theory.proofs.SystemLaws.{region_rows_wide, canonical_all, marked_system_wide}
use Rattle.gf_facets_theory.proofs.UnitLaws.{unit_of}
use Rattle.gf_reduced.specs.Refusals.{IsSystemWithinLimits}
use Rattle.gf_cone.specs.Cones.{ConeRows, normal_at, other_rows}
use Rattle.gf_reverse_theory.specs.Upward.{Fan, IsNodeIn}
use Rattle.gf_tree.specs.Refusals.{IsConeStep, IsTreeWithinLimits}
use Rattle.gf_binomials_theory.proofs.PrincipalBases.{basis_forms}
use Rattle.gf_binomial_calls_theory.specs.Limits.{IsPlainGenerator, HasExponentsUpTo}
use Rattle.gf_binomial_calls_theory.proofs.LimitLaws.{search_within}
use Rattle.gf_ideal_theory.proofs.SmallBases.{only}
use Rattle.gf_ideal_theory.proofs.StepLaws.{monic-monomials}

-- ---- entries

all_up : (b : ℕ) (xs : List ℤ) → UpTo b xs → All (λ x. unsigned_abs x ≤ b) xs
all_up b xs u i d l = subst (λ (x : ℤ). unsigned_abs x ≤ b) (get_or_default xs i (pos 0) d l) (u.at i)

differences_up : (b : ℕ) (x y : Exponents) → ((i : ℕ) → entry x i ≤ b) → ((i : ℕ) → entry y i ≤ b) → UpTo b (differences x y)
differences_up b [] y h k = up_none b
differences_up b (a ∷ x) [] h k = up_none b
differences_up b (a ∷ x) (c ∷ y) h k =
    let p : a ≤ b = h 0 in
    let q : c ≤ b = k 0 in
    up_cons b (pos a -ℤ pos c) (differences x y) (omega (arith, ints, p, q)) (differences_up b x y (λ i. h (suc i)) (λ i. k (suc i)))

unit_up : (n i : ℕ) → UpTo 500 (unit n i)
unit_up zero i = up_none 500
unit_up (suc n) zero = up_cons 500 _ _ (omega arith) (up_zeros 500 n)
unit_up (suc n) (suc i) = up_cons 500 _ _ (omega arith) (unit_up n i)

-- ---- the systems

pub systems_within : (F : Fan) (f : Terms) → F.ideal ≡ f ∷ [] → F.variables ≤ 3 → HaveEntriesUpTo 500 F.region.rows → HasExponentsUpTo 500 f →
    (v : MarkedPolynomials) (s : ConeOverflow) → IsNodeIn F v → IsConeStep F v s → ⊥
systems_within F f e few low short v s node step =
    let q : Cone s ≡ Memory = not_refused (Err (Cone s)) (length rows + 1) c.variables rows (a ∷ []) rows_wide equation_wide step.step
    (omega (arith, few, node.variables, step.is_cone.variables)) rows_low equation_low in
    absurd (cc)
  where
    n : ℕ
    n = v.variables

    c : ConeRows
    c = step.cone

    rows : List (List ℤ)
    rows = other_rows c step.index

    a : List ℤ
    a = normal_at c step.index

    basis : IsBasisInRegion n (f ∷ []) F.region v.items
    basis = subst (λ (z : List Terms). IsBasisInRegion n z F.region v.items) e (subst (λ (m : ℕ). IsBasisInRegion m F.ideal F.region v.items)
        (sym node.variables) node.basis)

    inside : AreInVariables n (f ∷ [])
    inside = subst (λ (z : List Terms). AreInVariables n z) e (subst (λ (m : ℕ). AreInVariables m F.ideal) (sym node.variables) node.fan.ideal)

    form : (b : MarkedPolynomial) → Contains v.items b → IsMonicForm f b
    form = basis_forms n f v.items (inside f (0, omega arith, refl)) basis.reduced.basis basis.reduced.tails basis.reduced.heads

    canonical : AreCanonical n v.items
    canonical = step.is_cone.canonical

    normal_up : (b : List ℤ) → IsNormal v.items b → UpTo 500 b
    normal_up b k = at (row-from v.items k.0 k.1)
      where
        at : ((d : MarkedPolynomial) × Contains v.items d × IsTermRow d.head d.poly k.0) → UpTo 500 b
        at d =
            let m = form d.0 d.1 in
            let t = d.2.term in
            let w = canonical d.0 d.1 in
            up_divided 500 k.0 b k.2.0 k.2.1 (subst (UpTo 500) (sym d.2.row)
            (differences_up 500 d.0.head t.mono (short d.0.head m.there)
            (short t.mono (monic-monomials f d.0 m t.mono (term_there n d.0.poly t w.variables w.descending d.2.inside)))))

    normal_long : (b : List ℤ) → IsNormal v.items b → length b ≡ c.variables
    normal_long b k = normal-length n v.items b canonical k ∙ sym step.is_cone.variables

    region_wide : AreRows n F.region.rows
    region_wide = subst (λ (m : ℕ). AreRows m F.region.rows) (sym node.variables) node.fan.region.widths

    is_normal : IsNormal v.items a
    is_normal = step.is_cone.normals.only a (Contains-get_or c.normals step.index [] step.inside)

    other : (t : List ℤ) → Contains (others_of step.index c.normals) t → IsNormal v.items t
    other t k = step.is_cone.normals.only t (others_only c.normals step.index t step.is_cone.normals.rises step.inside k).0

    rows_wide : AreRows c.variables rows
    rows_wide = all_by (λ t. length t ≡ c.variables) rows (λ t k. elim (Contains-append_cases (others_of step.index c.normals) c.beside t k) [
      | inl o ↦ normal_long t (other t o)
      | inr i ↦ All-contains (λ t. length t ≡ n) (F.region.rows ++ units n n) t (region_rows_wide n F.region region_wide)
          (subst (λ (z : List (List ℤ)). Contains z t) step.is_cone.beside i) ∙ sym step.is_cone.variables
    ])

    rows_low : HaveEntriesUpTo 500 rows
    rows_low = all_by (All (λ x. unsigned_abs x ≤ 500)) rows (λ t k. elim (Contains-append_cases (others_of step.index c.normals) c.beside t k) [
      | inl o ↦ all_up 500 t (normal_up t (other t o))
      | inr i ↦ elim (Contains-append_cases F.region.rows (units n n) t (subst (λ (z : List (List ℤ)). Contains z t) step.is_cone.beside i)) [
        | inl r ↦ All-contains (All (λ x. unsigned_abs x ≤ 500)) F.region.rows t low r
        | inr u ↦ let p = unit_of n n t u in all_up 500 t (subst (UpTo 500) (sym p.2) (unit_up n p.0))
      ]
    ])

    equation_wide : AreRows c.variables (a ∷ [])
    equation_wide = all_by (λ t. length t ≡ c.variables) (a ∷ []) (λ t k. subst (λ (z : List ℤ). length z ≡ c.variables) (only a t k) (normal_long a is_normal))

    equation_low : HaveEntriesUpTo 500 (a ∷ [])
    equation_low = all_by (All (λ x. unsigned_abs x ≤ 500)) (a ∷ []) (λ t k. subst (λ (z : List ℤ). All (λ x. unsigned_abs x ≤ 500) z) (only a t k)
        (all_up 500 a (normal_up a is_normal)))

-- so a search over the bases of such an ideal stays within its limits
pub small_search : (F : Fan) (f : Terms) (pairs : ℕ) → F.ideal ≡ f ∷ [] → IsPlainGenerator f → F.variables ≤ 3 → HaveEntriesUpTo 500 F.region.rows →
    HasExponentsUpTo 500 f → IsTreeWithinLimits F pairs
small_search F f pairs e g few low short = search_within F f pairs e g (systems_within F f e few low short)

-- ---- the marking of a set

pub marking_within : (n : ℕ) (bs : List MarkedPolynomial) → HaveVariables n bs → Each HasMarkedTerm bs → n ≤ 3 →
    ((b : MarkedPolynomial) → Contains bs b → HasExponentsUpTo 500 b.poly) → IsSystemWithinLimits (record { variables = n; items = bs })
marking_within n bs v m few low o step =
    let q : Cone o ≡ Memory = not_refused (Err (Cone o)) (length (system_of n bs)) n (system_of n bs) [] (marked_system_wide n bs v m)
    (All-nil (λ (t : List ℤ). length t ≡ n)) step few rows_low (All-nil (All (λ (x : ℤ). unsigned_abs x ≤ 500))) in
    absurd (cc)
  where
    canonical : AreCanonical n bs
    canonical = canonical_all n bs v m

    row_up : (r : List ℤ) → Contains (rows_of_polynomials bs) r → UpTo 500 r
    row_up r k = at (row-from bs r k)
      where
        at : ((d : MarkedPolynomial) × Contains bs d × IsTermRow d.head d.poly r) → UpTo 500 r
        at d =
            let t = d.2.term in
            let w = canonical d.0 d.1 in
            let head = marked_there n d.0 (contained_each (λ (b : MarkedPolynomial). HasVariables n b.poly) bs v d.0 d.1)
            (contained_each HasMarkedTerm bs m d.0 d.1) in
            subst (UpTo 500) (sym d.2.row) (differences_up 500 d.0.head t.mono (low d.0 d.1 d.0.head head)
            (low d.0 d.1 t.mono (term_there n d.0.poly t w.variables w.descending d.2.inside)))

    rows_low : HaveEntriesUpTo 500 (system_of n bs)
    rows_low = all_by (All (λ x. unsigned_abs x ≤ 500)) (system_of n bs) (λ t k. elim (Contains-append_cases (rows_of_polynomials bs) (units n n) t k) [
      | inl r ↦ all_up 500 t (row_up t r)
      | inr u ↦ let p = unit_of n n t u in all_up 500 t (subst (UpTo 500) (sym p.2) (unit_up n p.0))
    ])
