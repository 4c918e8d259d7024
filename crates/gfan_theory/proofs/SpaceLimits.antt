-- Homogeneity spaces of polynomials with small exponents, in at most three variables, are found within all limits.
-- To cite: statistics_of_small_sets_fit, spaces_of_small_sets_fit. The rest are steps.
use Rattle.std.proofs.Common.{◌≡◌, ℕ, zero, suc, ◌≤◌, List, [], ◌∷◌, ◌++◌, length, get_or, ℤ, pos, ◌-ℤ◌, unsigned_abs, arith, refl, sym, ap, ◌∙◌, subst}
use Rattle.std.proofs.Common.{inl, inr, All, Contains}
use Rattle.std.specs.Prelude.{true}
use Rattle.std.proofs.lemmas.Int.{ints}
use Rattle.std.proofs.lemmas.List.{get_or_default}
use Rattle.std.proofs.lemmas.List.Elements.{All-nil, All-contains}
use Rattle.gf_int_theory.proofs.ListLaws.{all_by}
use Rattle.gf_exponents_theory.specs.Exponents.{Exponents, entry}
use Rattle.gf_poly.specs.Marking.{MarkedPolynomial}
use Rattle.gf_poly.proofs.CoefficientLaws.{term_length}
use Rattle.gf_gordan.specs.Alternative.{AreRows}
use Rattle.gf_gordan.specs.Sizes.{HaveEntriesUpTo}
use Rattle.gf_gordan.specs.declared.error.GordanError.{GordanError}
use Rattle.gf_gordan.specs.declared.error.GordanError.TheVariants as gordan_errors
use Rattle.gf_vec.specs.Vector.{vector_sum, zeros}
use Rattle.gf_vec.specs.Steps.{sum_steps, IsFirstWide}
use Rattle.gf_vec.specs.declared.error.WideVector.{WideVector}
use Rattle.gf_duality_theory.specs.Rays.{IsRays, Generated}
use Rattle.gf_duality_theory.proofs.Determined.{described_of}
use Rattle.gf_duality_theory.proofs.Generated.{made-generated, generated-made}
use Rattle.gf_duality_theory.proofs.Implied.{ray_in}
use Rattle.gf_duality_theory.proofs.Made.{span-made}
use Rattle.gf_duality_theory.proofs.ListLaws.{none_in, in_tail, in_cons}
use Rattle.gf_int_theory.proofs.ListLaws.{Contains-here}
use Rattle.gf_fans_theory.specs.FaceLists.{numbered}
use Rattle.gf_rays.specs.Cones.{RowsAndRays, rows_of, AreRaysWithinLimits}
use Rattle.gf_rays.specs.Sums.{adding_steps}
use Rattle.gf_rays.specs.Limits.{has_room, IsSmallSystem}
use Rattle.gf_rays.proofs.RoomLaws.{systems_with_room_stay_within_limits}
use Rattle.gf_facets_theory.specs.Rows.{rows_of_polynomials}
use Rattle.gf_facets_theory.proofs.RowLaws.{row-from, length-differences, get-differences}
use Rattle.gf_fan.specs.FansOfCones.{AreCommonRays}
use Rattle.gf_fan.proofs.LimitLaws.{fans_with_room_stay_within_limits}
use Rattle.gf_small.specs.HomogeneitySpace.{IsSpaceCause}
use Rattle.gf_small.specs.Statistics.{members_of}
use Rattle.gfan_fans.specs.FanTexts.{IsFanOfConesWithin}
use Rattle.gfan_fans.specs.HomogeneitySpace.{nonzero_of, IsSpaceCone}
use Rattle.gfan_theory.specs.SmallSets.{AreSmall, StatisticsOfSmallSetsFit, SpacesOfSmallSetsFit}

-- an exponent of such a monomial, also past its end
entry_up : (b : ℕ) (x : Exponents) (i : ℕ) → All (λ e. e ≤ b) x → entry x i ≤ b
entry_up b [] i h = omega arith
entry_up b (e ∷ x) zero h = h 0 0 (omega arith)
entry_up b (e ∷ x) (suc i) h = entry_up b x i (λ k d l. h (suc k) d (omega (arith, l)))

apart : (a c b : ℕ) → a ≤ b → c ≤ b → unsigned_abs (pos a -ℤ pos c) ≤ b
apart a c b h k = omega (arith, ints, h, k)

module _ (n b : ℕ) (fs : List MarkedPolynomial) (small : AreSmall n b fs) where
  row_width : (r : List ℤ) → Contains (rows_of_polynomials fs) r → length r ≡ n
  row_width r c =
      let o = row-from fs r c in
      let f = small o.0 o.1 in
      ap (λ (z : List ℤ). length z) o.2.row
      ∙ length-differences o.0.head o.2.term.mono (f.mark_width ∙ sym (term_length n o.0.poly o.2.term f.width o.2.inside))
      ∙ f.mark_width

  row_up : (r : List ℤ) → Contains (rows_of_polynomials fs) r → (i : ℕ) → unsigned_abs (get_or r i (pos 0)) ≤ b
  row_up r c i =
      let o = row-from fs r c in
      let f = small o.0 o.1 in
      subst (λ (z : ℤ). unsigned_abs z ≤ b)
      (sym (ap (λ (z : List ℤ). get_or z i (pos 0)) o.2.row
      ∙ get-differences o.0.head o.2.term.mono i (f.mark_width ∙ sym (term_length n o.0.poly o.2.term f.width o.2.inside))))
      (apart (entry o.0.head i) (entry o.2.term.mono i) b (entry_up b o.0.head i f.mark) (entry_up b o.2.term.mono i (f.terms o.2.term o.2.inside)))

  rows_wide : AreRows n (rows_of_polynomials fs)
  rows_wide = all_by (λ t. length t ≡ n) (rows_of_polynomials fs) row_width

  rows_up : HaveEntriesUpTo b (rows_of_polynomials fs)
  rows_up = all_by (All (λ x. unsigned_abs x ≤ b)) (rows_of_polynomials fs) (λ t c i d l.
      subst (λ (z : ℤ). unsigned_abs z ≤ b) (get_or_default t i (pos 0) d l) (row_up t c i))

  system : IsSmallSystem n b (record { inequalities = []; equations = rows_of_polynomials fs })
  system = record { inequalities_width = All-nil _; equations_width = rows_wide; inequalities = All-nil _; equations = rows_up }

-- there is room for equations alone, with entries up to 3
equations_have_room : (n : ℕ) → 1 ≤ n → n ≤ 3 → has_room n 3 0 ≡ true
equations_have_room zero h l = absurd (omega arith)
equations_have_room (suc zero) h l = refl
equations_have_room (suc (suc zero)) h l = refl
equations_have_room (suc (suc (suc zero))) h l = refl
equations_have_room (suc (suc (suc (suc n)))) h l = absurd (omega arith)

space_fits : (n : ℕ) (fs : List MarkedPolynomial) → 1 ≤ n → n ≤ 3 → AreSmall n 3 fs → AreRaysWithinLimits n [] (rows_of_polynomials fs)
space_fits n fs h l small = systems_with_room_stay_within_limits n 3 (record { inequalities = []; equations = rows_of_polynomials fs }) h (omega arith)
    (system n 3 fs small) (equations_have_room n h l)

pub statistics_of_small_sets_fit : StatisticsOfSmallSetsFit
statistics_of_small_sets_fit ring sets h l small = at
  where
    at : (e : GordanError) → IsSpaceCause (length ring) (members_of sets) e → e ≡ gordan_errors.Memory
    at (gordan_errors.Cone s) c = absurd (space_fits (length ring) (members_of sets) h l small s c)
    at gordan_errors.Memory c = refl

-- ---- a cone without inequalities has no rays

no_rays : (n : ℕ) (es lin rays : List (List ℤ)) → IsRays n [] es lin rays → rays ≡ []
no_rays n es lin [] h = refl
no_rays n es lin (r ∷ rs) h =
    let s = ray_in n [] es lin (r ∷ rs) r (described_of n [] es lin (r ∷ rs) h) (Contains-here r rs) in
    let l : length r ≡ n = All-contains (λ t. length t ≡ n) (r ∷ rs) r h.rays_width (Contains-here r rs) in
    let g : Generated n [] lin r = (h.spans r l).0 (record { flat = All-nil _; zero = s.zero }) in
    let w : AreRows n rs = all_by (λ t. length t ≡ n) rs (λ t c. All-contains (λ t. length t ≡ n) (r ∷ rs) t h.rays_width (in_tail r rs t c)) in
    absurd (h.minimal 0 (omega arith)
    (made-generated n rs lin r w h.lin_width (span-made n rs lin r (generated-made n [] lin r (All-nil _) h.lin_width g))))

common_none : (c : RowsAndRays) (rays : List (List ℤ)) → c.rays ≡ [] → AreCommonRays (c ∷ []) rays → rays ≡ []
common_none c [] e a = refl
common_none c (r ∷ rs) e a =
    let o = a.each r (Contains-here r rs) in
    elim (in_cons c [] o.0 o.1.0) [
      | inl q ↦ absurd (none_in r (subst (λ (z : List (List ℤ)). Contains z r) (ap (λ (d : RowsAndRays). d.rays) q ∙ e) o.1.1))
      | inr k ↦ absurd (none_in o.0 k)
    ]

-- nothing is added up of no rays
none_added : (sum : List ℤ) → sum_steps sum [] ≡ []
none_added [] = refl
none_added (x ∷ xs) = refl

none_wide : (w : WideVector) (sum : List ℤ) (ks : List ℕ) → IsFirstWide w (adding_steps sum (numbered [] ks)) → ⊥
none_wide w sum [] f = f
none_wide w sum (k ∷ ks) f =
    none_wide w (vector_sum sum []) ks
    (subst (λ (steps : List WideVector). IsFirstWide w (steps ++ adding_steps (vector_sum sum []) (numbered [] ks))) (none_added sum) f)

-- ---- the fan of a homogeneity space

module _ (n : ℕ) (fs : List MarkedPolynomial) (h : 1 ≤ n) (l : n ≤ 3) (small : AreSmall n 3 fs) (c : RowsAndRays) (is : IsSpaceCone n fs c) where
  alone : (d : RowsAndRays) → Contains (c ∷ []) d → d ≡ c
  alone d k = elim (in_cons c [] d k) [ inl q ↦ q | inr m ↦ absurd (none_in d m) ]

  room : has_room n 3 (length c.inequalities) ≡ true
  room = subst (λ (z : List (List ℤ)). has_room n 3 (length z) ≡ true) (sym is.inequalities) (equations_have_room n h l)

  rows : IsSmallSystem n 3 (rows_of c)
  rows = record {
    inequalities_width = subst (AreRows n) (sym is.inequalities) (All-nil _);
    equations_width = subst (AreRows n) (sym is.equations) (rows_wide n 3 fs small);
    inequalities = subst (HaveEntriesUpTo 3) (sym is.inequalities) (All-nil _);
    equations = subst (HaveEntriesUpTo 3) (sym is.equations) (rows_up n 3 fs small);
  }

  rayless : c.rays ≡ []
  rayless = no_rays c.ambient c.equations c.lineality c.rays (subst (λ (z : List (List ℤ)). IsRays c.ambient z c.equations c.lineality c.rays) is.inequalities
      is.rays)

  fan_fits : IsFanOfConesWithin n (c ∷ [])
  fan_fits = record {
    finding = fans_with_room_stay_within_limits n 3 (c ∷ []) h (omega arith)
        (λ d k. subst (λ (z : RowsAndRays). IsSmallSystem n 3 (rows_of z)) (sym (alone d k)) rows) (record {
          own = λ d k. subst (λ (z : RowsAndRays). has_room n 3 (length z.inequalities) ≡ true) (sym (alone d k)) room;
          pairs = λ i j d e before last p q. absurd (omega (arith, before, last));
          none = equations_have_room n h l;
        });
    writing = λ f is_fan w step.
        none_wide w (zeros f.ambient) step.0.rays
        (subst (λ (z : List (List ℤ)). IsFirstWide w (adding_steps (zeros f.ambient) (numbered z step.0.rays)))
        (common_none c f.rays rayless is_fan.rays) step.1.1);
  }

pub spaces_of_small_sets_fit : SpacesOfSmallSetsFit
spaces_of_small_sets_fit ring set vector h l small = record {
  space = space_fits (length ring) (nonzero_of set) h l small;
  fan = λ c is. fan_fits (length ring) (nonzero_of set) h l small c is;
}
