-- The cone of a reduced basis of variables and differences of variables, in at most three variables, is described within all limits.
-- To cite: monic_normals, normals_found, normals_bounded, cones_of_linear_sets_fit. The rest are steps.
use Rattle.std.proofs.Common.{◌≡◌, ◌⊎◌, ℕ, zero, suc, ◌+◌, ◌-◌, ◌<◌, ◌≤◌, ◌^◌, Bool, true, false, List, [], ◌∷◌, ◌++◌, length, length-append, map, ℤ, pos, ◌<ℤ◌}
use Rattle.std.proofs.Common.{unsigned_abs, arith, refl, sym, ap, ap₂, ◌∙◌, subst, inl, inr, All, Contains}
use Rattle.std.proofs.lemmas.Int.{ints}
use Rattle.std.proofs.lemmas.List.Elements.{All-contains, Contains-append_cases, Contains-append_left, Contains-append_right}
use Rattle.std.proofs.lemmas.List.Sorted.{Contains-permutation, IsPermutation-sym}
use Rattle.gf_int_theory.specs.Content.{AllZero}
use Rattle.gf_int_theory.proofs.SignLaws.{zero_product}
use Rattle.gf_int_theory.proofs.ListLaws.{Contains-here}
use Rattle.gf_vec.specs.Vector.{dot}
use Rattle.gf_vec.proofs.VectorLaws.{dot-times}
use Rattle.gf_vec.proofs.DotLaws.{dot_zero_row}
use Rattle.gf_vec.proofs.EntryLaws.{all_zero}
use Rattle.gf_exponents_theory.specs.Exponents.{Exponents}
use Rattle.gf_frac.specs.Fraction.{Fraction, reciprocal_ℚ}
use Rattle.gf_poly.specs.Polynomial.{Terms, HasVariables, times, coefficient}
use Rattle.gf_poly.specs.Marking.{MarkedPolynomial, MarkedPolynomials, polys, IsArranged}
use Rattle.gf_poly.proofs.CoefficientLaws.{term_length}
use Rattle.gf_ideal_theory.proofs.ListLaws.{contained_each}
use Rattle.gf_duality_theory.proofs.ListLaws.{none_in, in_tail, in_cons}
use Rattle.gf_rays.specs.Cones.{AreRaysWithinLimits}
use Rattle.gf_rays.specs.Limits.{turned_bound, reached_bound, IsPointed, has_room}
use Rattle.gf_rays.proofs.ReachedSizes.{mono, next_step, entry_up, small_systems_stay_within_limits}
use Rattle.gf_facets_theory.specs.Rows.{row_between, rows_of_terms, rows_of_polynomials}
use Rattle.gf_facets_theory.specs.Normals.{AreNormals}
use Rattle.gf_facets_theory.specs.Systems.{unit, units}
use Rattle.gf_facets_theory.specs.Regions.{all_positive}
use Rattle.gf_facets_theory.specs.MarkedBases.{AreCanonical}
use Rattle.gf_facets_theory.proofs.UnitLaws.{length-unit, dot-unit, unit_of, unit_there}
use Rattle.gf_facets_theory.proofs.SystemLaws.{whole_of, length-whole, whole-in_region, open_of_weight}
use Rattle.gf_facets_theory.proofs.ConeLaws.{normals_open}
use Rattle.gf_reduced.specs.Forms.{monic_of, monic_set}
use Rattle.gf_reduced.specs.Markings.{IsMarkedGroebnerBasis}
use Rattle.gf_reduced.specs.Terms.{AreReduced}
use Rattle.gf_sections.specs.ConeRows.{AreConeRows, given_rows}
use Rattle.gf_sections.specs.declared.error.SectionsError.{SectionsError}
use Rattle.gf_sections.specs.declared.error.SectionsError.TheVariants as errors
use Rattle.gf_sections.specs.ConeText.{IsSectionsCause, IsConeCause, IsConeWithinLimits}
use Rattle.gf_front.specs.declared.options.GroebnerConeOptions.{GroebnerConeOptions}
use Rattle.gfan_fans.specs.GroebnerCone.{IsBasisConeWithin}
use Rattle.gfan_fans.specs.ToPolyhedralFan.{inequalities_of}
use Rattle.gfan_fans.specs.ToldCones.{IsConeFanWithin, IsToldWithin, IsTellingWithin}
use Rattle.gfan_theory.specs.Differences.{AreDifferenceRows}
use Rattle.gfan_theory.specs.Linear.{IsLinearSet}
use Rattle.gfan_theory.specs.SmallCones.{HasRoomUpTo, ConesOfLinearSetsFit}
use Rattle.gfan_theory.proofs.DifferenceLimits.{rows_small}
use Rattle.gfan_theory.proofs.LinearNormals.{few_in_three, linear_normals}
use Rattle.gfan_theory.proofs.LinearChecks.{linear_checks, set_differences, node}
use Rattle.gfan_theory.proofs.Arrangements.{arranged_set}
use Rattle.gfan_theory.proofs.ConeRowLaws.{AreBounded, given_long, given_bounded, rows_bounded, rows_positive, rows_few, unit_one, length_units, cut_bounded}
use Rattle.gfan_theory.proofs.ConeRowLaws.{small_system}
use Rattle.gfan_theory.proofs.ToldLimits.{finding_fits, fan_fits, certified_fit, up_to_two, up_to_three, up_to_four}

-- ---- the normals of a set are those of its members made monic

scaled_rows : (c : Fraction) (x : Exponents) (f : Terms) → rows_of_terms x (times c [] f) ≡ rows_of_terms x f
scaled_rows c x [] = refl
scaled_rows c x (t ∷ f) = ap (λ (z : List (List ℤ)). row_between x t.mono ++ z) (scaled_rows c x f)

monic_rows : (bs : List MarkedPolynomial) → rows_of_polynomials (map monic_of bs) ≡ rows_of_polynomials bs
monic_rows [] = refl
monic_rows (b ∷ bs) =
    ap₂ (λ (y z : List (List ℤ)). y ++ z) (scaled_rows (reciprocal_ℚ (coefficient b.poly b.head)) b.head b.poly) (monic_rows bs)

-- of a list with the same members
rows_there : (bs : List MarkedPolynomial) (b : MarkedPolynomial) (r : List ℤ) → Contains bs b → Contains (rows_of_terms b.head b.poly) r →
    Contains (rows_of_polynomials bs) r
rows_there [] b r c k = absurd (none_in b c)
rows_there (d ∷ bs) b r c k = elim (in_cons d bs b c) [
  | inl e ↦ Contains-append_left (rows_of_terms d.head d.poly) (rows_of_polynomials bs) r
      (subst (λ (z : MarkedPolynomial). Contains (rows_of_terms z.head z.poly) r) e k)
  | inr i ↦ Contains-append_right (rows_of_terms d.head d.poly) (rows_of_polynomials bs) r (rows_there bs b r i k)
]

rows_moved : (bs cs : List MarkedPolynomial) (r : List ℤ) → ((b : MarkedPolynomial) → Contains bs b → Contains cs b) → Contains (rows_of_polynomials bs) r →
    Contains (rows_of_polynomials cs) r
rows_moved [] cs r h k = absurd (none_in r k)
rows_moved (b ∷ bs) cs r h k = elim (Contains-append_cases (rows_of_terms b.head b.poly) (rows_of_polynomials bs) r k) [
  | inl i ↦ rows_there cs b r (h b (Contains-here b bs)) i
  | inr i ↦ rows_moved bs cs r (λ d c. h d (in_tail b bs d c)) i
]

module _ (s t : MarkedPolynomials) (a : IsArranged (monic_set s) t) where
  forward : (r : List ℤ) → Contains (rows_of_polynomials s.items) r → Contains (rows_of_polynomials t.items) r
  forward r k = rows_moved (map monic_of s.items) t.items r (λ b c. Contains-permutation (map monic_of s.items) t.items b a.members c)
      (subst (λ (z : List (List ℤ)). Contains z r) (sym (monic_rows s.items)) k)

  backward : (r : List ℤ) → Contains (rows_of_polynomials t.items) r → Contains (rows_of_polynomials s.items) r
  backward r k = subst (λ (z : List (List ℤ)). Contains z r) (monic_rows s.items)
      (rows_moved t.items (map monic_of s.items) r
      (λ b c. Contains-permutation t.items (map monic_of s.items) b (IsPermutation-sym (map monic_of s.items) t.items a.members) c) k)

  pub monic_normals : (ns : List (List ℤ)) → AreNormals s.items ns → AreNormals t.items ns
  monic_normals ns m = record {
    rises = m.rises;
    only = λ x c. let n = m.only x c in (n.0, forward n.0 n.1, n.2);
    all = λ x n. m.all x (n.0, backward n.0 n.1, n.2);
  }

-- ---- unit vectors

unit_nonzero : (n i : ℕ) → i < n → AllZero (unit n i) → ⊥
unit_nonzero n i l z =
    let e : dot (unit n i) (unit n i) ≡ pos 1 = dot-unit n i (unit n i) l (length-unit n i) ∙ unit_one n i l in
    let f : dot (unit n i) (unit n i) ≡ pos 0 = dot_zero_row (unit n i) (unit n i) z in
    omega (arith, ints, e, f)

-- ---- bounds

reached_some : (n k : ℕ) → 1 ≤ n → 1 ≤ reached_bound n 1 k
reached_some n zero h = omega arith
reached_some n (suc k) h = let p = reached_some n k h in let q = next_step n 1 (reached_bound n 1 k) h (omega arith) p in omega (arith, p, q)

reached_rises : (n : ℕ) → 1 ≤ n → (k : ℕ) → reached_bound n 1 k ≤ reached_bound n 1 (suc k)
reached_rises n h k = next_step n 1 (reached_bound n 1 k) h (omega arith) (reached_some n k h)

reached_room : (n : ℕ) → 1 ≤ n → n ≤ 3 → reached_bound n 1 5 < 2 ^ 127
reached_room zero h l = absurd (omega (arith, h))
reached_room (suc zero) h l = omega arith
reached_room (suc (suc zero)) h l = omega arith
reached_room (suc (suc (suc zero))) h l = omega arith
reached_room (suc (suc (suc (suc n)))) h l = absurd (omega (arith, l))

turned_room : (n : ℕ) → n ≤ 3 → turned_bound 1 n < 2 ^ 127
turned_room zero l = omega arith
turned_room (suc zero) l = omega arith
turned_room (suc (suc zero)) l = omega arith
turned_room (suc (suc (suc zero))) l = omega arith
turned_room (suc (suc (suc (suc n)))) l = absurd (omega (arith, l))

-- ---- the rows of the cone

module _ (s t : MarkedPolynomials) (l : IsLinearSet s) (some : 1 ≤ s.variables) (small : s.variables ≤ 3) (basis : IsMarkedGroebnerBasis s.variables s.items)
    (terms : AreReduced s.items) (a : IsArranged (monic_set s) t) (ns : List (List ℤ)) (are : AreNormals s.items ns) where
  pub normals_found : (length ns ≤ 2) × AreDifferenceRows s.variables ns
  normals_found = (
    few_in_three s.variables (polys s.items) (all_positive s.variables) t.items (set_differences s l) (node s l basis terms t a) ns
        (monic_normals s t a ns are) small,
    (linear_normals s.variables (polys s.items) (all_positive s.variables) t.items (set_differences s l) (node s l basis terms t a) ns
        (monic_normals s t a ns are) (omega (arith, small))).1,
  )

  pub normals_bounded : AreBounded s.variables 1 ns
  normals_bounded x c = record {
    long = (normals_found.1 x c).width;
    up = entry_up 1 x (All-contains (All (λ z. unsigned_abs z ≤ 1)) ns x (rows_small s.variables ns 1 (omega arith) normals_found.1) c);
  }

  -- a vector that makes each of them positive
  abbrev weight : List ℤ
  weight = whole_of s.variables basis.weight

  canonical : AreCanonical s.variables s.items
  canonical b c =
      let v = contained_each (λ (d : MarkedPolynomial). HasVariables s.variables d.poly) s.items l.binomials.variables b c in
      let m = l.binomials.marked b c in
      record { variables = v; descending = m.descending; head = term_length s.variables b.poly (record { coef = m.mark; mono = b.head }) v m.term }

  positive : (x : List ℤ) → Contains ns x → pos 0 <ℤ dot x weight
  positive x c = normals_open s.variables s.items weight canonical (open_of_weight s.variables basis.weight s.items canonical basis.marks) x (are.only x c)

  module _ (cut : Bool) (rows : List (List ℤ)) (of : AreConeRows (given_rows (inequalities_of cut s.variables ns) []) rows) where
    bounded : AreBounded s.variables 1 rows
    bounded = rows_bounded s.variables 1 (given_rows (inequalities_of cut s.variables ns) []) rows of
        (given_bounded s.variables 1 (inequalities_of cut s.variables ns) [] (cut_bounded cut s.variables 1 ns (omega arith) normals_bounded)
        (λ x c. absurd (none_in x c)))

    given_positive : (c : Bool) (x : List ℤ) → Contains (inequalities_of c s.variables ns) x → pos 0 <ℤ dot x weight
    given_positive false x c = positive x c
    given_positive true x c = elim (Contains-append_cases ns (units s.variables s.variables) x c) [
      | inl i ↦ positive x i
      | inr i ↦
          let u = unit_of s.variables s.variables x i in
          let region = whole-in_region s.variables basis.weight basis.positive in
          let long : length weight ≡ s.variables = length-whole s.variables basis.weight in
          subst (λ (z : List ℤ). pos 0 <ℤ dot z weight) (sym u.2) (subst (λ (z : ℤ). pos 0 <ℤ z) (sym (dot-unit s.variables u.0 weight u.1 long))
          (region.positive u.0 (pos 0) (let p = u.1 in omega (arith, p, long))))
    ]

    inside : (x : List ℤ) → Contains rows x → pos 0 <ℤ dot x weight
    inside = rows_positive (given_rows (inequalities_of cut s.variables ns) []) rows weight of
        (λ y k. elim (Contains-append_cases (inequalities_of cut s.variables ns) [] y k) [ inl i ↦ given_positive cut y i | inr i ↦ absurd (none_in y i) ])

    count : length rows ≤ length (inequalities_of cut s.variables ns)
    count = let p = rows_few (given_rows (inequalities_of cut s.variables ns) []) rows of in let q = given_long (inequalities_of cut s.variables ns) [] in
        omega (arith, p, q)

    pub sections_told : AreRaysWithinLimits s.variables rows [] → (certified : Bool) (e : SectionsError) → IsSectionsCause s.variables certified rows e →
        e ≡ errors.Memory
    sections_told fits = certified_fit s.variables 1 rows weight some small (omega arith) bounded (length-whole s.variables basis.weight) inside fits

  -- there is room for two rows
  two_rows : HasRoomUpTo s.variables 1 2
  two_rows = at s.variables some small
    where
      at : (n : ℕ) → 1 ≤ n → n ≤ 3 → HasRoomUpTo n 1 2
      at zero h k = absurd (omega (arith, h))
      at (suc zero) h k = up_to_two 1 1 refl refl refl
      at (suc (suc zero)) h k = up_to_two 2 1 refl refl refl
      at (suc (suc (suc zero))) h k = up_to_two 3 1 refl refl refl
      at (suc (suc (suc (suc n)))) h k = absurd (omega (arith, k))

  plain_finding : (rows : List (List ℤ)) → AreConeRows (given_rows ns []) rows → AreRaysWithinLimits s.variables rows []
  plain_finding rows of = finding_fits s.variables 1 ns [] rows some (omega arith) normals_bounded (λ x c. absurd (none_in x c))
      (λ k h. two_rows k (let p = normals_found.0 in omega (arith, p, h))) of

  -- with the unit vectors the cone is pointed
  orthant_finding : (rows : List (List ℤ)) → AreConeRows (given_rows (ns ++ units s.variables s.variables) []) rows → AreRaysWithinLimits s.variables rows []
  orthant_finding rows of =
      let sized = small_system s.variables 1 rows [] (bounded true rows of) (λ x c. absurd (none_in x c)) in
      let long : length rows ≤ 5 =
      (let p = count true rows of in let q = length-append ns (units s.variables s.variables) in let r = length_units s.variables s.variables in
      let f = normals_found.0 in omega (arith, p, q, r, f, small)) in
      let up : reached_bound s.variables 1 (length rows - 0) ≤ reached_bound s.variables 1 5 =
      mono (reached_bound s.variables 1) (reached_rises s.variables some) (length rows - 0) 5 (omega (arith, long)) in
      let room = reached_room s.variables some small in
      small_systems_stay_within_limits s.variables 1 0 rows some (omega arith) sized.inequalities_width sized.inequalities pointed
      (λ i h m. absurd (omega (arith, h))) (omega (arith, up, room)) (turned_room s.variables small)
    where
      zero_on : (x : List ℤ) → ((h : List ℤ) → Contains rows h → dot h x ≡ pos 0) → (i : ℕ) → i < s.variables → dot (unit s.variables i) x ≡ pos 0
      zero_on x flat i k =
          let listed : Contains (given_rows (ns ++ units s.variables s.variables) []) (unit s.variables i) =
          Contains-append_left (ns ++ units s.variables s.variables) [] (unit s.variables i)
          (Contains-append_right ns (units s.variables s.variables) (unit s.variables i) (unit_there s.variables s.variables i k)) in
          let o = of.primitive.every (unit s.variables i) listed (unit_nonzero s.variables i k) in
          sym (ap (λ (v : List ℤ). dot v x) o.2.1.multiple) ∙ dot-times o.2.0 o.0 x ∙ zero_product o.2.0 (dot o.0 x) (flat o.0 o.1)

      pointed : IsPointed s.variables rows
      pointed x lx flat = all_zero s.variables x lx (λ i k. sym (dot-unit s.variables i x k lx) ∙ zero_on x flat i k)

  told_sections : (cut certified : Bool) → IsConeWithinLimits s.variables certified (inequalities_of cut s.variables ns) []
  told_sections cut certified e (IsConeCause.no_memory q) = q
  told_sections cut certified e (IsConeCause.of_rows rows of c) = sections_told cut rows of (finding cut of) certified e c
    where
      finding : (cut : Bool) → AreConeRows (given_rows (inequalities_of cut s.variables ns) []) rows → AreRaysWithinLimits s.variables rows []
      finding false p = plain_finding rows p
      finding true p = orthant_finding rows p

  plain_fan : IsConeFanWithin s.variables ns []
  plain_fan = fan_fits s.variables 1 ns [] some small (omega arith) (omega arith) normals_bounded (λ x c. absurd (none_in x c))
      (λ k h. two_rows k (let p = normals_found.0 in omega (arith, p, h)))

  -- in at most two variables, with the unit vectors
  orthant_fan : s.variables ≤ 2 → IsConeFanWithin s.variables (ns ++ units s.variables s.variables) []
  orthant_fan two = fan_fits s.variables 1 (ns ++ units s.variables s.variables) [] some small (omega arith) (omega arith)
      (cut_bounded true s.variables 1 ns (omega arith) normals_bounded) (λ x c. absurd (none_in x c))
      (λ k h. few s.variables some two k (let p = length-append ns (units s.variables s.variables) in let r = length_units s.variables s.variables in
      let f = normals_found.0 in omega (arith, p, r, f, h)))
    where
      few : (n : ℕ) → 1 ≤ n → n ≤ 2 → (k : ℕ) → k ≤ 2 + n → has_room n 1 k ≡ true
      few zero h l k m = absurd (omega (arith, h))
      few (suc zero) h l k m = up_to_three 1 1 (up_to_two 1 1 refl refl refl) refl k (omega (arith, m))
      few (suc (suc zero)) h l k m = up_to_four 2 1 (up_to_three 2 1 (up_to_two 2 1 refl refl refl) refl) refl k (omega (arith, m))
      few (suc (suc (suc n))) h l k m = absurd (omega (arith, l))

-- ---- the command

module _ (o : GroebnerConeOptions) (s t : MarkedPolynomials) (l : IsLinearSet s) (some : 1 ≤ s.variables) (small : s.variables ≤ 3)
    (basis : IsMarkedGroebnerBasis s.variables s.items) (terms : AreReduced s.items) (a : IsArranged (monic_set s) t) where
  within : ((ns : List (List ℤ)) → AreNormals s.items ns → IsTellingWithin o s.variables ns []) → IsBasisConeWithin o s
  within cone = record { variables = l.binomials.variables; basis = basis; reduced = terms; checks = linear_checks s l (omega (arith, small)); cone = cone }

  as_sections : o.as_fan ≡ false → IsBasisConeWithin o s
  as_sections p = within (λ ns are. subst (λ (f : Bool). IsToldWithin f o.certificates s.variables (inequalities_of o.restricted s.variables ns) []) (sym p)
      (told_sections s t l some small basis terms a ns are o.restricted o.certificates))

  fan_of : (cut : Bool) → (cut ≡ false) ⊎ (s.variables ≤ 2) → (ns : List (List ℤ)) → AreNormals s.items ns →
      IsConeFanWithin s.variables (inequalities_of cut s.variables ns) []
  fan_of false q ns are = plain_fan s t l some small basis terms a ns are
  fan_of true (inl q) ns are = absurd (let e : true ≡ false = q in cc)
  fan_of true (inr q) ns are = orthant_fan s t l some small basis terms a ns are q

  as_fan : o.as_fan ≡ true → (o.restricted ≡ false) ⊎ (s.variables ≤ 2) → IsBasisConeWithin o s
  as_fan p q = within (λ ns are. subst (λ (f : Bool). IsToldWithin f o.certificates s.variables (inequalities_of o.restricted s.variables ns) []) (sym p)
      (fan_of o.restricted q ns are))

pub cones_of_linear_sets_fit : ConesOfLinearSetsFit
cones_of_linear_sets_fit = record {
  sections = λ o s p l some small basis terms. let t = arranged_set (monic_set s) in as_sections o s t.0 l some small basis terms t.1 p;
  fans = λ o s p q l some small basis terms. let t = arranged_set (monic_set s) in as_fan o s t.0 l some small basis terms t.1 p q;
}
