-- The cone of one equation is described with certificates within all limits: both its rows are zero on all of it.
-- To cite: cones_of_few_rows_fit. The rest are steps.
use Rattle.std.proofs.Common.{◌≡◌, ℕ, ◌+◌, ◌≤◌, ◌<◌, Bool, false, List, [], ◌∷◌, length, get_or, flat_map, ℤ, pos, negsuc, ◌*ℤ◌, ◌<ℤ◌}
use Rattle.std.proofs.Common.{◌≤ℤ◌, unsigned_abs, arith, refl, sym, ap, ◌∙◌, subst, inl, inr, All, Contains, Err}
use Rattle.std.proofs.lemmas.Int.{ints}
use Rattle.std.proofs.lemmas.List.{get_or_default}
use Rattle.std.proofs.lemmas.List.Elements.{All-contains}
use Rattle.gf_int_theory.specs.Content.{AllZero}
use Rattle.gf_int_theory.proofs.ListLaws.{Contains-here, all_by}
use Rattle.gf_int_theory.proofs.SignLaws.{IsSigned, sign_of, negative, none, positive, not_negative, zero-cancel, 0<-*ℤ}
use Rattle.gf_vec.specs.Vector.{dot, opposite, values}
use Rattle.gf_vec.specs.Primitive.{IsPrimitivePart}
use Rattle.gf_vec.proofs.VectorLaws.{dot-times}
use Rattle.gf_vec.proofs.DotLaws.{length-values}
use Rattle.gf_gordan.specs.Alternative.{AreRows}
use Rattle.gf_gordan.specs.Sizes.{HaveEntriesUpTo}
use Rattle.gf_gordan.specs.Equations.{IsStepOn}
use Rattle.gf_gordan.specs.declared.error.ConeOverflow.{ConeOverflow}
use Rattle.gf_gordan.specs.declared.error.GordanError.TheVariants as gordan_errors
use Rattle.gf_gordan.proofs.SizeLaws.{UpTo, up_weaker}
use Rattle.gf_gordan.proofs.ThreeColumns.{not_refused}
use Rattle.gf_duality_theory.specs.Generators.{unit_vectors}
use Rattle.gf_duality_theory.specs.Rays.{IsZeroOn}
use Rattle.gf_duality_theory.specs.Faces.{cone_of, IsInCone, IsFacetRow}
use Rattle.gf_duality_theory.proofs.ListLaws.{none_in, in_tail, in_cons}
use Rattle.gf_fans_theory.proofs.PartNumbers.{of_map}
use Rattle.gf_rays.specs.Cones.{AreRaysWithinLimits}
use Rattle.gf_rays.proofs.EliminateLaws.{units_long, unit_long}
use Rattle.gf_rays.proofs.ReachedSizes.{unitary_up, units_unitary}
use Rattle.gf_sections.specs.declared.error.SectionsError.{SectionsError}
use Rattle.gf_sections.specs.declared.error.SectionsError.TheVariants as errors
use Rattle.gf_sections.specs.ConeRows.{AreConeRows, both_sides, given_rows}
use Rattle.gf_sections.specs.ConeCertificates.{AreRowsTold, AreRowsWith, value_columns}
use Rattle.gf_sections.specs.ConeText.{IsCertificateStep, IsCertificateCause, IsSectionsCause, IsConeCause, IsConeWithinLimits}
use Rattle.gf_front.specs.declared.options.GroebnerConeOptions.{GroebnerConeOptions}
use Rattle.gfan_fans.specs.ToPolyhedralFan.{inequalities_of}
use Rattle.gfan_fans.specs.ToldCones.{IsToldWithin, IsTellingWithin}
use Rattle.gfan_theory.specs.SmallCones.{HasRoomUpTo, AreFewRows, ConesOfFewRowsFit}
use Rattle.gfan_theory.proofs.ConeRowLaws.{AreBounded, fewer_rows, given_long, given_bounded, rows_bounded}
use Rattle.gfan_theory.proofs.LinearLimits.{all_up}
use Rattle.gfan_theory.proofs.ToldLimits.{bounded_by, finding_fits, told_sections, told_fan, told_certified}
use Rattle.gfan_theory.proofs.VectorRoom.{AreWide, values_up}

-- ---- rows of equations

zero_turned : (xs : List ℤ) → AllZero (opposite xs) → AllZero xs
zero_turned [] z = tt
zero_turned (x ∷ xs) z = (back x z.0, zero_turned xs z.1)
  where
    back : (y : ℤ) → negsuc 0 *ℤ y ≡ pos 0 → y ≡ pos 0
    back y e = omega (arith, ints, e)

turned_zero : (xs : List ℤ) → AllZero xs → AllZero (opposite xs)
turned_zero [] z = tt
turned_zero (x ∷ xs) z = (there x z.0, turned_zero xs z.1)
  where
    there : (y : ℤ) → y ≡ pos 0 → negsuc 0 *ℤ y ≡ pos 0
    there y e = omega (arith, ints, e)

-- the opposite of a given vector, which is given too
record IsOppositeOf (given : List (List ℤ)) (x : List ℤ) : Type 0 where
  other : List ℤ
  listed : Contains given other
  turned : (v : List ℤ) → dot other v ≡ negsuc 0 *ℤ dot x v
  zero : AllZero other → AllZero x

opposite_given : (es : List (List ℤ)) (x : List ℤ) → Contains (flat_map both_sides es) x → IsOppositeOf (flat_map both_sides es) x
opposite_given [] x c = absurd (none_in x c)
opposite_given (e ∷ es) x c = elim (in_cons e (opposite e ∷ flat_map both_sides es) x c) [
  | inl q ↦ record {
    other = opposite e;
    listed = in_tail e (opposite e ∷ flat_map both_sides es) (opposite e) (Contains-here (opposite e) (flat_map both_sides es));
    turned = λ v. dot-times (negsuc 0) e v ∙ ap (λ (z : List ℤ). negsuc 0 *ℤ dot z v) (sym q);
    zero = λ z. subst AllZero (sym q) (zero_turned e z);
  }
  | inr k ↦ elim (in_cons (opposite e) (flat_map both_sides es) x k) [
    | inl q ↦ record {
      other = e;
      listed = Contains-here e (opposite e ∷ flat_map both_sides es);
      turned = λ v. let p : dot x v ≡ negsuc 0 *ℤ dot e v = ap (λ (z : List ℤ). dot z v) q ∙ dot-times (negsuc 0) e v in omega (arith, ints, p);
      zero = λ z. subst AllZero (sym q) (turned_zero e z);
    }
    | inr m ↦
        let o = opposite_given es x m in
        record {
          other = o.other;
          listed = in_tail e (opposite e ∷ flat_map both_sides es) o.other (in_tail (opposite e) (flat_map both_sides es) o.other o.listed);
          turned = o.turned;
          zero = o.zero;
        }
  ]
]

both_ways : (x y : ℤ) → y ≡ negsuc 0 *ℤ x → pos 0 ≤ℤ x → pos 0 ≤ℤ y → x ≡ pos 0
both_ways x y e p q = omega (arith, ints, e, p, q)

not_below : (a x : ℤ) → pos 0 <ℤ a → pos 0 ≤ℤ x → pos 0 ≤ℤ (a *ℤ x)
not_below a x h k = elim (sign_of x) [
  | negative s ↦ absurd (omega (arith, ints, s, k))
  | none e ↦ subst (λ (z : ℤ). pos 0 ≤ℤ (a *ℤ z)) (sym e) (let q : a *ℤ pos 0 ≡ pos 0 = omega (arith, ints) in omega (arith, ints, q))
  | positive s ↦ not_negative (a *ℤ x) (0<-*ℤ a x h s)
]

module _ (n b : ℕ) (es rows : List (List ℤ)) (one : length es ≤ 1) (high : b ≤ 500) (are : AreConeRows (given_rows [] es) rows)
    (bounded : AreBounded n b rows) where
  -- a given vector isn't negative on the cone
  given_up : (v : List ℤ) → IsInCone (cone_of rows) v → (x : List ℤ) → Contains (given_rows [] es) x → (AllZero x → ⊥) → pos 0 ≤ℤ dot x v
  given_up v i x c z =
      let t = are.primitive.every x c z in
      let up : pos 0 ≤ℤ dot t.0 v = All-contains (λ h. pos 0 ≤ℤ dot h v) rows t.0 i.not_negative t.1 in
      let e : dot x v ≡ t.2.0 *ℤ dot t.0 v = ap (λ (w : List ℤ). dot w v) (sym t.2.1.multiple) ∙ dot-times t.2.0 t.0 v in
      subst (λ (w : ℤ). pos 0 ≤ℤ w) (sym e) (not_below t.2.0 (dot t.0 v) t.2.1.positive up)

  -- so each row is zero on it
  all_flat : (t : List ℤ) → Contains rows t → IsZeroOn n rows [] t
  all_flat t c v l i =
      let o = are.primitive.each t c in
      let y = opposite_given es o.0 o.1 in
      let e : dot o.0 v ≡ o.3.0 *ℤ dot t v = ap (λ (w : List ℤ). dot w v) (sym o.3.1.multiple) ∙ dot-times o.3.0 t v in
      let p = given_up v i o.0 o.1 o.2 in
      let q = given_up v i y.other y.listed (λ z. o.2 (y.zero z)) in
      zero-cancel o.3.0 (dot t v) o.3.1.positive (sym e ∙ both_ways (dot o.0 v) (dot y.other v) (y.turned v) p q)

  wide : (xs : List (List ℤ)) → ((t : List ℤ) → Contains xs t → Contains rows t) → AreWide n b xs
  wide xs in_rows = record { long = λ t c. (bounded t (in_rows t c)).long; small = record { each = λ t c. (bounded t (in_rows t c)).up } }

  -- the system of the rows that are zero
  no_vanishing : (zero_rows : List (List ℤ)) (s : ConeOverflow) → AreRowsWith (IsZeroOn n rows []) rows zero_rows →
      IsStepOn (length (unit_vectors (length zero_rows)) + length (value_columns n zero_rows)) (length zero_rows) (unit_vectors (length zero_rows))
      (value_columns n zero_rows) s → ⊥
  no_vanishing zero_rows s w step =
      let m = length zero_rows in
      let from : (t : List ℤ) → Contains zero_rows t → (x : List ℤ) × Contains (given_rows [] es) x × IsPrimitivePart x t = λ t c.
      (let o = are.primitive.each t (w.each t c).0 in (o.0, o.1, o.3)) in
      let few : m ≤ 2 = (let p = fewer_rows (given_rows [] es) zero_rows w.ascending from in let q = given_long [] es in omega (arith, p, q, one)) in
      let e = not_refused (Err (gordan_errors.Cone s)) (length (unit_vectors m) + length (value_columns n zero_rows)) m (unit_vectors m)
      (value_columns n zero_rows) units_wide columns_wide step (omega (arith, few)) units_small columns_small in
      absurd (cc)
    where
      units_wide : AreRows (length zero_rows) (unit_vectors (length zero_rows))
      units_wide = all_by (λ t. length t ≡ length zero_rows) (unit_vectors (length zero_rows)) (λ t c.
          ap length (sym (get_or_default (unit_vectors (length zero_rows)) c.0 [] t c.1 ∙ c.2))
          ∙ unit_long (length zero_rows) c.0 (let l = c.1 in let k = units_long (length zero_rows) in omega (arith, l, k)))

      units_small : HaveEntriesUpTo 500 (unit_vectors (length zero_rows))
      units_small = all_by (All (λ x. unsigned_abs x ≤ 500)) (unit_vectors (length zero_rows))
          (λ t c. all_up 500 t (up_weaker 1 500 t (omega arith) (unitary_up t ((units_unitary (length zero_rows)).each t c))))

      columns_wide : AreRows (length zero_rows) (value_columns n zero_rows)
      columns_wide = all_by (λ t. length t ≡ length zero_rows) (value_columns n zero_rows)
          (λ t c. let o = of_map (values zero_rows) (unit_vectors n) t c in ap length (sym o.1.1) ∙ length-values zero_rows o.0)

      columns_small : HaveEntriesUpTo 500 (value_columns n zero_rows)
      columns_small = all_by (All (λ x. unsigned_abs x ≤ 500)) (value_columns n zero_rows) (λ t c.
          let o = of_map (values zero_rows) (unit_vectors n) t c in
          let i = o.1.0 in
          let e : get_or (unit_vectors n) i.0 [] ≡ o.0 = get_or_default (unit_vectors n) i.0 [] o.0 i.1 ∙ i.2 in
          let l : i.0 < n = (let k = units_long n in let m = i.1 in omega (arith, k, m)) in
          let up : UpTo b (values zero_rows o.0) =
          subst (λ (z : List ℤ). UpTo b (values zero_rows z)) e (values_up n b i.0 zero_rows l (wide zero_rows (λ x j. (w.each x j).0))) in
          all_up 500 t (subst (UpTo 500) o.1.1 (up_weaker b 500 (values zero_rows o.0) high up)))

  certifying : (e : SectionsError) (facets implied : List (List ℤ)) (told : AreRowsTold n rows facets implied) →
      IsCertificateCause n rows told.rays facets implied e → e ≡ errors.Memory
  certifying (errors.Cone s) facets implied told (IsCertificateStep.combining t c redundant step) = absurd (redundant.nonzero (all_flat t c))
  certifying (errors.Cone s) facets implied told (IsCertificateStep.vanishing zero_rows w step) = absurd (no_vanishing zero_rows s w step)
  certifying (errors.Wide e) facets implied told h =
      let f = All-contains (IsFacetRow n (cone_of rows)) facets h.0 told.are_facets.each h.1 in
      let x = f.proper in
      absurd (let z = all_flat h.0 f.listed x.0 x.1.0 x.1.1 in let p = x.1.2 in omega (arith, ints, z, p))
  certifying errors.Memory facets implied told h = refl

  flat_fits : AreRaysWithinLimits n rows [] → (certified : Bool) (e : SectionsError) → IsSectionsCause n certified rows e → e ≡ errors.Memory
  flat_fits fits certified e (IsSectionsCause.finding s step q) = absurd (fits s step)
  flat_fits fits certified e (IsSectionsCause.certifying facets implied told asked cause) = certifying e facets implied told cause
  flat_fits fits certified e (IsSectionsCause.no_memory q) = q

-- ---- the command

module _ (o : GroebnerConeOptions) (n b : ℕ) (es : List (List ℤ)) (free : o.restricted ≡ false) (one : length es ≤ 1) (are : AreFewRows o n b [] es) where
  none_bounded : AreBounded n b []
  none_bounded x c = absurd (none_in x c)

  of_equations : AreBounded n b es
  of_equations = bounded_by n b es are.equations_width are.equations

  room_for : HasRoomUpTo n b (0 + (length es + length es))
  room_for = subst (λ (cut : Bool). HasRoomUpTo n b (length (inequalities_of cut n []) + (length es + length es))) free are.room

  sections : (certified : Bool) → IsConeWithinLimits n certified [] es
  sections certified e (IsConeCause.no_memory q) = q
  sections certified e (IsConeCause.of_rows rows of c) =
      flat_fits n b es rows one are.high of (rows_bounded n b (given_rows [] es) rows of (given_bounded n b [] es none_bounded of_equations))
      (finding_fits n b [] es rows are.some are.low none_bounded of_equations room_for of) certified e c

  flat_cones_fit : o.as_fan ≡ false → IsTellingWithin o n [] es
  flat_cones_fit p = subst (λ (f : Bool). IsToldWithin f o.certificates n (inequalities_of o.restricted n []) es) (sym p)
      (subst (λ (cut : Bool). IsConeWithinLimits n o.certificates (inequalities_of cut n []) es) (sym free) (sections o.certificates))

pub cones_of_few_rows_fit : ConesOfFewRowsFit
cones_of_few_rows_fit = record {
  sections = λ o n b hs es p q are. told_sections o n b hs es are p q;
  fans = λ o n b hs es p are. told_fan o n b hs es are p;
  flat = λ o n b es p free one are. flat_cones_fit o n b es free one are p;
  certified = λ o n b hs w p are lw inside. told_certified o n b hs w are lw inside p;
}
