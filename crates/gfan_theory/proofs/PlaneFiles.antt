-- Fan files of the plane whose vectors have entries 0, 1 and -1 are read, migrated and refined within all limits.
-- To cite: migrations_of_plane_fans_fit, refinements_of_plane_fans_fit. The rest are steps.
use Rattle.std.proofs.Common.{◌≡◌, ◌≢◌, ℕ, ◌+◌, ◌<◌, ◌≤◌, ◌^◌, List, [], ◌∷◌, length, get_or, ℤ, pos, ◌<ℤ◌, arith, refl}
use Rattle.std.proofs.Common.{sym, ap, ◌∙◌, subst, inl, inr, All, Contains, Err}
use Rattle.std.proofs.lemmas.Int.{ints}
use Rattle.std.proofs.lemmas.List.{get_or_default, length-map}
use Rattle.std.proofs.lemmas.List.Elements.{All-contains}
use Rattle.gf_int_theory.proofs.ListLaws.{Contains-here}
use Rattle.gf_int_theory.proofs.SignLaws.{sign_of, negative, none, positive}
use Rattle.gf_vec.specs.Vector.{dot, zeros}
use Rattle.gf_vec.specs.declared.error.WideVector.{WideVector}
use Rattle.gf_vec.proofs.DotLaws.{own_zero, own_not_negative}
use Rattle.gf_gordan.specs.Alternative.{AreRows}
use Rattle.gf_gordan.specs.Sizes.{HaveEntriesUpTo}
use Rattle.gf_gordan.specs.declared.error.ConeOverflow.{ConeOverflow}
use Rattle.gf_gordan.specs.declared.error.GordanError.TheVariants as gordan_errors
use Rattle.gf_gordan.proofs.SizeLaws.{no_dot_step}
use Rattle.gf_gordan.proofs.ThreeColumns.{not_refused}
use Rattle.gf_duality_theory.specs.Generators.{nothing}
use Rattle.gf_duality_theory.specs.Rays.{IsRays, Generated}
use Rattle.gf_duality_theory.specs.Faces.{SameCone}
use Rattle.gf_duality_theory.proofs.ListLaws.{none_in, in_cons, zip_from}
use Rattle.gf_duality_theory.proofs.Generated.{made-generated}
use Rattle.gf_duality_theory.proofs.EchelonUnique.{no_widths}
use Rattle.gf_fans_theory.specs.Fans.{meet}
use Rattle.gf_fans_theory.specs.FaceLists.{numbered}
use Rattle.gf_fans_theory.proofs.PartNumbers.{of_number}
use Rattle.gf_rays.specs.Cones.{RowsAndRays, rows_of, AreRaysWithinLimits}
use Rattle.gf_rays.specs.Limits.{IsSmallSystem}
use Rattle.gf_rays.proofs.RoomLaws.{systems_with_room_stay_within_limits}
use Rattle.gf_fan.specs.declared.cones.FanCone.{FanCone}
use Rattle.gf_fan.specs.FanLists.{FanLists}
use Rattle.gf_fan.specs.FansOfCones.{IsFanOf}
use Rattle.gf_fan.specs.MaximalCones.{maximal_of}
use Rattle.gf_fan.specs.Refusals.{IsFanWithinLimits}
use Rattle.gf_fan.proofs.LimitLaws.{small_meet, fans_with_room_stay_within_limits}
use Rattle.gf_fan.proofs.UnderMaximal.{maximal_some}
use Rattle.gf_refine.specs.FansRefined.{IsRefinementOf}
use Rattle.gf_refine.specs.Limits.{AreSmallCones}
use Rattle.gf_refine.specs.Refusals.{IsRefinedWithinLimits}
use Rattle.gf_refine.proofs.LimitLaws.{refinements_with_room_stay_within_limits}
use Rattle.gf_fan_files.specs.declared.file.FanFile.{FanFile}
use Rattle.gf_fan_files.specs.Certificates.{IsInsideStep}
use Rattle.gf_fan_files.specs.Files.{IsOutside, IsRayTestStep, AreTestsWithin, interior_rows}
use Rattle.gf_fan_files.specs.FilesFans.{IsConeOfFile, AreConesOfFile, IsFanOfFile, IsFanOfText, IsGeneratingStep, IsFileCertificateStep}
use Rattle.gf_fan_files.specs.FilesFans.{IsFileWithinLimits}
use Rattle.gf_fan_files.proofs.FilesLaws.{file_once}
use Rattle.gfan_fans.specs.FanTexts.{IsWritingWithin}
use Rattle.gfan_fans.specs.CommonRefinement.{IsFanTextWithin}
use Rattle.gfan_theory.specs.PlaneFans.{IsSmallPlaneFan, MigrationsOfPlaneFansFit, RefinementsOfPlaneFansFit}
use Rattle.gfan_theory.specs.SmallCones.{HasRoomUpTo}
use Rattle.gfan_theory.proofs.SmallRays.{plane_ray_up}
use Rattle.gfan_theory.proofs.PlaneRays.{plane_rays_few, plane_line_up}
use Rattle.gfan_theory.proofs.SmallFans.{widened, cone_rows_small, writing_fits, written_fits}
use Rattle.gfan_theory.proofs.ConeRowLaws.{AreBounded, IsBounded, small_system}
use Rattle.gfan_theory.proofs.ToldLimits.{bounded_by, few_rows_have_room}

four : HasRoomUpTo 2 1 4
four = few_rows_have_room.four

-- ---- one cone

-- what rays and lineality vectors with such entries generate, where one of the rays isn't zero
module _ (rays lin : List (List ℤ)) (of_rays : AreBounded 2 1 rays) (of_lin : AreBounded 2 1 lin) (few : length rays ≤ 4) (r : List ℤ) (c : Contains rays r)
    (some : pos 0 <ℤ dot r r) where
  dual_fits : AreRaysWithinLimits 2 rays lin
  dual_fits = systems_with_room_stay_within_limits 2 1 (record { inequalities = rays; equations = lin }) (omega arith) (omega arith)
      (small_system 2 1 rays lin of_rays of_lin) (four (length rays) few)

  module _ (lines duals : List (List ℤ)) (is : IsRays 2 rays lin lines duals) where
    duals_few : length duals ≤ 2
    duals_few = plane_rays_few rays lin lines duals is (λ h k. (of_rays h k).long)

    duals_bounded : AreBounded 2 1 duals
    duals_bounded x k = record {
      long = All-contains (λ t. length t ≡ 2) duals x is.rays_width k;
      up = plane_ray_up 1 (record { inequalities = rays; equations = lin }) lines duals (small_system 2 1 rays lin of_rays of_lin) is x k;
    }

    lines_bounded : AreBounded 2 1 lines
    lines_bounded x k = record {
      long = All-contains (λ t. length t ≡ 2) lines x is.lin_width k;
      up = plane_line_up 1 rays lin lines duals is r c some (of_rays r c).long (of_rays r c).up x k;
    }

    cone_fits : AreRaysWithinLimits 2 duals lines
    cone_fits = systems_with_room_stay_within_limits 2 1 (record { inequalities = duals; equations = lines }) (omega arith) (omega arith)
        (small_system 2 1 duals lines duals_bounded lines_bounded) (four (length duals) (let p = duals_few in omega (arith, p)))

-- a fan of the plane that is made of cones with at most two such inequalities
record IsPlaneFan (h : FanLists) : Type 0 where
  cones : List RowsAndRays
  is_fan : IsFanOf 2 cones h
  few : (k : RowsAndRays) → Contains cones k → length k.inequalities ≤ 2
  small : (k : RowsAndRays) → Contains cones k → IsSmallSystem 2 1 (rows_of k)

-- ---- the cones of a file

module _ (source : List ℕ) (f : FanFile) (p : IsSmallPlaneFan source f) where
  rays_bounded : AreBounded 2 1 f.rays
  rays_bounded = bounded_by 2 1 f.rays (subst (λ (n : ℕ). AreRows n f.rays) p.plane p.sound.rays) p.rays

  lineality_bounded : AreBounded 2 1 f.lineality
  lineality_bounded = bounded_by 2 1 f.lineality (subst (λ (n : ℕ). AreRows n f.lineality) p.plane p.sound.lineality) p.lineality

  ray_listed : (numbers : List ℕ) → Contains f.cones numbers → (x : List ℤ) → Contains (numbered f.rays numbers) x → Contains f.rays x
  ray_listed numbers c x k =
      let o = of_number f.rays numbers x k in
      let below : o.0 < length f.rays =
      All-contains (λ (i : ℕ). i < length f.rays) numbers o.0 (All-contains (λ (ns : List ℕ). All (λ (i : ℕ). i < length f.rays) ns)
      f.cones numbers p.sound.below c) o.1.0 in
      (o.0, below, get_or_default f.rays o.0 x [] below ∙ o.1.1)

  numbered_bounded : (numbers : List ℕ) → Contains f.cones numbers → AreBounded 2 1 (numbered f.rays numbers)
  numbered_bounded numbers c x k = rays_bounded x (ray_listed numbers c x k)

  numbered_few : (numbers : List ℕ) → Contains f.cones numbers → length (numbered f.rays numbers) ≤ 4
  numbered_few numbers c = let l = length-map numbers (λ (i : ℕ). get_or f.rays i []) in let k = p.few numbers c in omega (arith, l, k)

  -- a ray isn't zero
  ray_some : (x : List ℤ) → Contains f.rays x → pos 0 <ℤ dot x x
  ray_some x c = elim (sign_of (dot x x)) [
    | positive g ↦ g
    | negative g ↦ absurd (let q = own_not_negative x in omega (arith, ints, q, g))
    | none e ↦
        let z : x ≡ zeros f.ambient = own_zero x e ∙ ap zeros (All-contains (λ t. length t ≡ f.ambient) f.rays x p.sound.rays c) in
        absurd (All-contains (IsOutside f.ambient f.lineality) f.rays x p.sound.outside c (subst (Generated f.ambient [] f.lineality) (sym z)
        (made-generated f.ambient [] f.lineality (zeros f.ambient) (no_widths f.ambient) p.sound.lineality (nothing f.ambient [] f.lineality))))
  ]

  one_of : (numbers : List ℕ) → numbers ≢ [] → (x : List ℤ) × Contains (numbered f.rays numbers) x
  one_of [] n = absurd (n refl)
  one_of (i ∷ numbers) n = (get_or f.rays i [], Contains-here (get_or f.rays i []) (numbered f.rays numbers))

  one_ray : (numbers : List ℕ) → Contains f.cones numbers → (x : List ℤ) × Contains (numbered f.rays numbers) x
  one_ray numbers c = one_of numbers (p.some numbers c)

  one_some : (numbers : List ℕ) (c : Contains f.cones numbers) → pos 0 <ℤ dot (one_ray numbers c).0 (one_ray numbers c).0
  one_some numbers c = ray_some (one_ray numbers c).0 (ray_listed numbers c (one_ray numbers c).0 (one_ray numbers c).1)

  tests_fit : AreTestsWithin f
  tests_fit r step c k =
      let wide : (m : ℕ) (xs : List (List ℤ)) → AreBounded 2 m xs → m ≤ 500 → AreRows 2 xs × HaveEntriesUpTo 500 xs =
      λ m xs h l. (let s = widened 2 m 500 (record { inequalities = xs; equations = [] }) l (small_system 2 m xs [] h (λ x i. absurd (none_in x i))) in
      (s.inequalities_width, s.inequalities)) in
      let a = wide 1 (r ∷ []) (λ x i. elim (in_cons r [] x i) [ inl e ↦ subst (IsBounded 2 1) (sym e) (rays_bounded r c) | inr m ↦ absurd (none_in x m) ])
      (omega arith) in
      let b = wide 1 f.lineality lineality_bounded (omega arith) in
      let e = not_refused (Err (gordan_errors.Cone step)) (length (r ∷ []) + length f.lineality) 2 (r ∷ []) f.lineality a.0 b.0
      (subst (λ (n : ℕ). IsRayTestStep n f.lineality r step) p.plane k) (omega arith) a.1 b.1 in
      absurd (cc)

  generating_fits : (numbers : List ℕ) → Contains f.cones numbers → (s : ConeOverflow) → IsGeneratingStep 2 (numbered f.rays numbers) f.lineality s → ⊥
  generating_fits numbers c s (IsGeneratingStep.of_dual step) =
      dual_fits (numbered f.rays numbers) f.lineality (numbered_bounded numbers c) lineality_bounded (numbered_few numbers c) (one_ray numbers c).0
      (one_ray numbers c).1 (one_some numbers c) s step
  generating_fits numbers c s (IsGeneratingStep.of_cone lines duals is step) =
      cone_fits (numbered f.rays numbers) f.lineality (numbered_bounded numbers c) lineality_bounded (numbered_few numbers c) (one_ray numbers c).0
      (one_ray numbers c).1 (one_some numbers c) lines duals is s step

  -- the rows of a cone, and how many they are
  module _ (cones : List RowsAndRays) (of_file : AreConesOfFile f cones) (k : RowsAndRays) (i : Contains cones k) where
    origin : (numbers : List ℕ) × Contains f.cones numbers × IsConeOfFile f numbers k
    origin = let z = zip_from (IsConeOfFile f) f.cones cones k of_file i in (z.0, z.1.0, z.1.1)

    rows : IsRays 2 (numbered f.rays origin.0) f.lineality k.equations k.inequalities
    rows = subst (λ (n : ℕ). IsRays n (numbered f.rays origin.0) f.lineality k.equations k.inequalities) p.plane origin.2.rows

    pub rows_few_in : length k.inequalities ≤ 2
    rows_few_in = duals_few (numbered f.rays origin.0) f.lineality (numbered_bounded origin.0 origin.1) lineality_bounded (numbered_few origin.0 origin.1)
        (one_ray origin.0 origin.1).0 (one_ray origin.0 origin.1).1 (one_some origin.0 origin.1) k.equations k.inequalities rows

    pub rows_small_in : IsSmallSystem 2 1 (rows_of k)
    rows_small_in = small_system 2 1 k.inequalities k.equations
        (duals_bounded (numbered f.rays origin.0) f.lineality (numbered_bounded origin.0 origin.1) lineality_bounded (numbered_few origin.0 origin.1)
        (one_ray origin.0 origin.1).0 (one_ray origin.0 origin.1).1 (one_some origin.0 origin.1) k.equations k.inequalities rows)
        (lines_bounded (numbered f.rays origin.0) f.lineality (numbered_bounded origin.0 origin.1) lineality_bounded (numbered_few origin.0 origin.1)
        (one_ray origin.0 origin.1).0 (one_ray origin.0 origin.1).1 (one_some origin.0 origin.1) k.equations k.inequalities rows)

  fan_fits : (cones : List RowsAndRays) → AreConesOfFile f cones → IsFanWithinLimits 2 cones
  fan_fits cones of_file = fans_with_room_stay_within_limits 2 1 cones (omega arith) (omega arith) (λ k i. rows_small_in cones of_file k i) (record {
    own = λ k i. four (length k.inequalities) (let l = rows_few_in cones of_file k i in omega (arith, l));
    pairs = λ i j c d before last e h. four (length c.inequalities + length d.inequalities)
        (let l = rows_few_in cones of_file c (i, omega (arith, before, last), get_or_default cones i c c (omega (arith, before, last)) ∙ e) in
        let m = rows_few_in cones of_file d (j, last, h) in omega (arith, l, m));
    none = four 0 (omega arith);
  })

  -- ---- the interior vectors

  certificates_fit : (w : WideVector) → IsFileCertificateStep f w → ⊥
  certificates_fit w step = at step.cones step.rows step.of_file step.step.place step.step.count step.step.within
      (bounded_by 2 (2 ^ 64) step.rows (subst (λ (n : ℕ). AreRows n step.rows) p.plane (subst (AreRows f.ambient) (ap interior_rows step.has)
      p.sound.interiors))
      (subst (HaveEntriesUpTo (2 ^ 64)) (ap interior_rows step.has) p.interiors)) step.step.step
    where
      at : (cones : List RowsAndRays) (rows : List (List ℤ)) → AreConesOfFile f cones → (place : ℕ) → length rows ≡ length cones → place < length rows →
          AreBounded 2 (2 ^ 64) rows → ((c : RowsAndRays) (r : List ℤ) → IsInsideStep (get_or cones place c) (get_or rows place r) w) → ⊥
      at [] rows of_file place count l u inside = omega (arith, count, l)
      at (k ∷ cones) rows of_file place count l u inside =
          let c : RowsAndRays = get_or (k ∷ cones) place k in
          let v : List ℤ = get_or rows place [] in
          let listed : Contains (k ∷ cones) c = (place, omega (arith, count, l), get_or_default (k ∷ cones) place c k (omega (arith, count, l))) in
          let small = rows_small_in (k ∷ cones) of_file c listed in
          let vector : IsBounded 2 (2 ^ 64) v = u v (place, l, get_or_default rows place v [] l) in
          let t = inside k [] in
          let row : IsBounded 2 1 t.0 = elim t.1.0 [
            | inl i ↦ bounded_by 2 1 c.inequalities small.inequalities_width small.inequalities t.0 i
            | inr i ↦ bounded_by 2 1 c.equations small.equations_width small.equations t.0 i
          ] in
          no_dot_step 2 1 (2 ^ 64) 0 (pos 0) t.0 v w (let e = row.long in omega (arith, e)) row.up vector.up (omega arith) (omega arith) t.1.1

  -- ---- the whole

  file_fits : IsFileWithinLimits f
  file_fits = record {
    tests = tests_fit;
    cones = λ s step. generating_fits step.numbers step.listed s
        (subst (λ (n : ℕ). IsGeneratingStep n (numbered f.rays step.numbers) f.lineality s) p.plane step.step);
    certificates = certificates_fit;
    fan = λ cones of_file. subst (λ (n : ℕ). IsFanWithinLimits n cones) (sym p.plane) (fan_fits cones of_file);
  }

  text_fits : IsFanTextWithin source
  text_fits = record { file = f; is_file = p.is_file; sound = p.sound; certified = p.certified; meeting = p.meeting; within = file_fits }

  fan_of : (h : FanLists) → IsFanOfText source h → IsPlaneFan h
  fan_of h is =
      let e : is.file ≡ f = file_once source f is.file p.is_file is.is_file in
      let of_file : IsFanOfFile f h = subst (λ (g : FanFile). IsFanOfFile g h) e is.of_file in
      record {
        cones = of_file.cones;
        is_fan = subst (λ (n : ℕ). IsFanOf n of_file.cones h) p.plane of_file.is_fan;
        few = λ k i. rows_few_in of_file.cones of_file.of_file k i;
        small = λ k i. rows_small_in of_file.cones of_file.of_file k i;
      }

  written : (h : FanLists) → IsFanOfText source h → IsWritingWithin h
  written h is w step = let q = fan_of h is in written_fits 2 1 q.cones h w (omega arith) (omega arith) (omega arith) q.is_fan q.small step

pub migrations_of_plane_fans_fit : MigrationsOfPlaneFansFit
migrations_of_plane_fans_fit source f p = record { reading = text_fits source f p; writing = written source f p }

-- ---- the fan of such a file

module _ (source : List ℕ) (f : FanFile) (p : IsSmallPlaneFan source f) (h : FanLists) (is : IsFanOfText source h) where
  plane : IsPlaneFan h
  plane = fan_of source f p h is

  ambient_two : h.ambient ≡ 2
  ambient_two = plane.is_fan.ambient

  cone_small : (k : FanCone) → Contains h.cones k → IsSmallSystem 2 1 (rows_of k.cone)
  cone_small k c = cone_rows_small 2 1 plane.cones h plane.is_fan plane.small k c

  maximal_small : AreSmallCones 2 1 h
  maximal_small k c = cone_small k (maximal_some 2 plane.cones h plane.is_fan k c)

  maximal_few : (k : FanCone) → Contains (maximal_of h) k → length k.cone.inequalities ≤ 2
  maximal_few k c =
      let o = plane.is_fan.cones.each k (maximal_some 2 plane.cones h plane.is_fan k c) in
      let e = ap (λ (x : List (List ℤ)). length x) o.inequalities in
      let l = plane.few o.origin o.listed in
      omega (arith, e, l)

-- ---- the common refinement of two of them

module _ (a b : List ℕ) (f g : FanFile) (p : IsSmallPlaneFan a f) (q : IsSmallPlaneFan b g) (h k : FanLists) (first : IsFanOfText a h)
    (second : IsFanOfText b k)
  where
    refining_fits : IsRefinedWithinLimits h k
    refining_fits = refinements_with_room_stay_within_limits 2 1 h k (omega arith) (omega arith) (ambient_two a f p h first) (maximal_small a f p h first)
        (maximal_small b g q k second) (λ x y c d. four (length x.cone.inequalities + length y.cone.inequalities)
        (let l = maximal_few a f p h first x c in let m = maximal_few b g q k second y d in omega (arith, l, m))) (four 0 (omega arith))

    refinement_written : (r : FanLists) → IsRefinementOf h k r → IsWritingWithin r
    refinement_written r is w step = writing_fits 2 1 r w (omega arith) (omega arith) (omega arith) (is.ambient ∙ ambient_two a f p h first) is.fan
        (λ x c. let e = is.each x c in (
          meet (rows_of e.0.cone) (rows_of e.1.cone),
          small_meet 2 1 (rows_of e.0.cone) (rows_of e.1.cone) (cone_small a f p h first e.0 e.2.0) (cone_small b g q k second e.1 e.2.1),
          subst (λ (n : ℕ). SameCone n (rows_of x.cone) (meet (rows_of e.0.cone) (rows_of e.1.cone))) (ambient_two a f p h first) e.2.2,
        )) step

pub refinements_of_plane_fans_fit : RefinementsOfPlaneFansFit
unfolding text_fits
refinements_of_plane_fans_fit first second a b f g p q = record {
  first = text_fits a f p;
  second = text_fits b g q;
  same = q.plane ∙ sym p.plane;
  work = λ h k is too. refining_fits a b f g p q h k is too;
  writing = λ h k r is too refined. refinement_written a b f g p q h k is too r refined;
}
