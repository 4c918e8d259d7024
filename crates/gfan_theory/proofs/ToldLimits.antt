-- The description of a cone with few small rows stays within all limits: in sections, and as a fan; with certificates if some vector makes each row positive.
-- To cite: bounded_by, finding_fits, sections_fit, fan_fits, certified_fit, told_sections, told_fan, told_certified, up_to_two, up_to_three, up_to_four,
-- few_rows_have_room. The rest are steps.
use Rattle.std.proofs.Common.{◌≡◌, ℕ, zero, suc, ◌+◌, ◌*◌, ◌≤◌, Bool, true, false, List, [], ◌∷◌, ◌++◌, length, get_or, ℤ, pos, ◌<ℤ◌, ◌≤ℤ◌}
use Rattle.std.proofs.Common.{unsigned_abs, arith, refl, sym, ap, subst, inl, inr, All, Contains, Err}
use Rattle.std.specs.Prelude.{not}
use Rattle.std.specs.Ordering.{int_eq}
use Rattle.std.proofs.Math.Nat.{mul-le-mul_left}
use Rattle.std.proofs.lemmas.Int.{ints}
use Rattle.std.proofs.lemmas.List.Elements.{All-nil, All-contains, Contains-append_cases}
use Rattle.std.proofs.lemmas.List.Filters.{length-filter_both}
use Rattle.gf_int_theory.proofs.ListLaws.{Contains-here, all_by}
use Rattle.gf_int_theory.proofs.SignLaws.{not_negative}
use Rattle.gf_vec.specs.Vector.{dot, zeros, values}
use Rattle.gf_vec.specs.Steps.{IsFirstWide}
use Rattle.gf_vec.specs.declared.error.WideVector.{WideVector}
use Rattle.gf_vec.proofs.DotLaws.{own_zero}
use Rattle.gf_gordan.specs.Alternative.{AreRows}
use Rattle.gf_gordan.specs.Sizes.{HaveEntriesUpTo}
use Rattle.gf_gordan.specs.Equations.{IsStepOn}
use Rattle.gf_gordan.specs.declared.error.ConeOverflow.{ConeOverflow}
use Rattle.gf_gordan.specs.declared.error.GordanError.TheVariants as gordan_errors
use Rattle.gf_gordan.proofs.SizeLaws.{UpTo, up_weaker, up_zeros}
use Rattle.gf_gordan.proofs.ThreeColumns.{not_refused}
use Rattle.gf_duality_theory.specs.Generators.{unit_vectors, Made}
use Rattle.gf_duality_theory.specs.Rays.{IsRays, IsImplied, IsZeroOn}
use Rattle.gf_duality_theory.specs.Faces.{cone_of, IsFacetRow}
use Rattle.gf_duality_theory.proofs.ListLaws.{none_in, in_cons}
use Rattle.gf_duality_theory.proofs.Made.{Made-dot_zero}
use Rattle.gf_duality_theory.proofs.Generated.{made-generated, generated-made}
use Rattle.gf_duality_theory.proofs.Echelon.{own_member}
use Rattle.gf_duality_theory.proofs.EchelonUnique.{no_widths}
use Rattle.gf_fans_theory.proofs.PartNumbers.{of_map}
use Rattle.gf_rays.specs.Cones.{RowsAndRays, rows_of, AreRaysWithinLimits}
use Rattle.gf_rays.specs.Parts.{zeros_of}
use Rattle.gf_rays.specs.Sums.{adding_steps}
use Rattle.gf_rays.specs.Limits.{IsSmallSystem, has_room}
use Rattle.gf_rays.proofs.PartLaws.{zeros_part}
use Rattle.gf_rays.proofs.RoomLaws.{systems_with_room_stay_within_limits}
use Rattle.gf_fan.proofs.LimitLaws.{fans_with_room_stay_within_limits}
use Rattle.gf_sections.specs.declared.error.SectionsError.{SectionsError}
use Rattle.gf_sections.specs.declared.error.SectionsError.TheVariants as errors
use Rattle.gf_sections.specs.ConeRows.{AreConeRows, given_rows}
use Rattle.gf_sections.specs.ConeCertificates.{AreRowsTold, value_columns}
use Rattle.gf_sections.specs.ConeByRows.{IsConeByRows}
use Rattle.gf_sections.specs.ConeText.{IsCertificateStep, IsCertificateCause, IsSectionsCause, IsConeCause, IsConeWithinLimits}
use Rattle.gf_front.specs.declared.options.GroebnerConeOptions.{GroebnerConeOptions}
use Rattle.gfan_fans.specs.FanTexts.{IsFanOfConesWithin}
use Rattle.gfan_fans.specs.ToPolyhedralFan.{inequalities_of}
use Rattle.gfan_fans.specs.ToldCones.{IsConeFanWithin, IsToldWithin, IsTellingWithin}
use Rattle.gfan_theory.specs.SmallCones.{HasRoomUpTo, AreFewRows, FewRowsHaveRoom}
use Rattle.gfan_theory.proofs.ConeRowLaws.{AreBounded, IsBounded, given_long, given_bounded, rows_bounded, rows_positive, rows_few, cut_bounded, small_system}
use Rattle.gfan_theory.proofs.FewVectors.{boxes, few_vectors, no_wide_total}
use Rattle.gfan_theory.proofs.SmallRays.{rays_up}
use Rattle.gfan_theory.proofs.SmallFans.{widened, room, written_fits}

-- ---- the rows

pub bounded_by : (n b : ℕ) (xs : List (List ℤ)) → AreRows n xs → HaveEntriesUpTo b xs → AreBounded n b xs
bounded_by n b xs w u x c = record {
  long = All-contains (λ t. length t ≡ n) xs x w c;
  up = record { at = at x (All-contains (All (λ z. unsigned_abs z ≤ b)) xs x u c) };
}
  where
    at : (x : List ℤ) → All (λ z. unsigned_abs z ≤ b) x → (i : ℕ) → unsigned_abs (get_or x i (pos 0)) ≤ b
    at [] h i = omega arith
    at (z ∷ x) h zero = h 0 (pos 0) (omega arith)
    at (z ∷ x) h (suc i) = at x (λ k d l. h (suc k) d (omega (arith, l))) i

-- ---- finding the rays

module _ (n b : ℕ) (hs es rows : List (List ℤ)) (some : 1 ≤ n) (low : 1 ≤ b) (of_hs : AreBounded n b hs) (of_es : AreBounded n b es)
    (room_for : HasRoomUpTo n b (length hs + (length es + length es))) (are : AreConeRows (given_rows hs es) rows) where
  bounded : AreBounded n b rows
  bounded = rows_bounded n b (given_rows hs es) rows are (given_bounded n b hs es of_hs of_es)

  small : IsSmallSystem n b (record { inequalities = rows; equations = [] })
  small = small_system n b rows [] bounded (λ x c. absurd (none_in x c))

  has : has_room n b (length rows) ≡ true
  has = room_for (length rows) (let p = rows_few (given_rows hs es) rows are in let q = given_long hs es in omega (arith, p, q))

  pub finding_fits : AreRaysWithinLimits n rows []
  finding_fits = systems_with_room_stay_within_limits n b (record { inequalities = rows; equations = [] }) some low small has

-- ---- in sections, without certificates

pub sections_fit : (n b : ℕ) (hs es : List (List ℤ)) → 1 ≤ n → 1 ≤ b → AreBounded n b hs → AreBounded n b es →
    HasRoomUpTo n b (length hs + (length es + length es)) → IsConeWithinLimits n false hs es
sections_fit n b hs es some low h k r e (IsConeCause.no_memory q) = q
sections_fit n b hs es some low h k r e (IsConeCause.of_rows rows are c) = at c
  where
    at : IsSectionsCause n false rows e → e ≡ errors.Memory
    at (IsSectionsCause.finding s step q) = absurd (finding_fits n b hs es rows some low h k r are s step)
    at (IsSectionsCause.certifying facets implied told asked cause) = absurd (let q : false ≡ true = asked in cc)
    at (IsSectionsCause.no_memory q) = q

-- ---- as a fan

module _ (n b : ℕ) (hs es : List (List ℤ)) (some : 1 ≤ n) (few : n ≤ 3) (low : 1 ≤ b) (high : b ≤ 500) (of_hs : AreBounded n b hs) (of_es : AreBounded n b es)
    (room_for : HasRoomUpTo n b (length hs + (length es + length es))) where
  module _ (c : RowsAndRays) (is : IsConeByRows n hs es c) where
    alone : (d : RowsAndRays) → Contains (c ∷ []) d → d ≡ c
    alone d k = elim (in_cons c [] d k) [ inl q ↦ q | inr m ↦ absurd (none_in d m) ]

    own_small : IsSmallSystem n b (rows_of c)
    own_small = subst (λ (x : List (List ℤ)). IsSmallSystem n b (record { inequalities = c.inequalities; equations = x })) (sym is.no_equations)
        (small n b hs es c.inequalities some low of_hs of_es room_for is.rows)

    each_small : (d : RowsAndRays) → Contains (c ∷ []) d → IsSmallSystem n b (rows_of d)
    each_small d k = subst (λ (x : RowsAndRays). IsSmallSystem n b (rows_of x)) (sym (alone d k)) own_small

    one_cone : IsFanOfConesWithin n (c ∷ [])
    one_cone = record {
      finding = fans_with_room_stay_within_limits n b (c ∷ []) some low each_small (record {
        own = λ d k. subst (λ (x : RowsAndRays). has_room n b (length x.inequalities) ≡ true) (sym (alone d k))
            (has n b hs es c.inequalities some low of_hs of_es room_for is.rows);
        pairs = λ i j x y before last p q. absurd (omega (arith, before, last));
        none = room_for 0 (omega arith);
      });
      writing = λ f is_fan w step. written_fits n b (c ∷ []) f w some few high is_fan each_small step;
    }

  pub fan_fits : IsConeFanWithin n hs es
  fan_fits = record { rays = λ o step. finding_fits n b hs es step.rows some low of_hs of_es room_for step.are_rows o step.step; fan = one_cone }

-- ---- in sections with certificates, where some vector makes each row positive

module _ (n b : ℕ) (rows : List (List ℤ)) (w : List ℤ) (some : 1 ≤ n) (few : n ≤ 3) (high : b ≤ 500) (bounded : AreBounded n b rows) (lw : length w ≡ n)
    (inside : (t : List ℤ) → Contains rows t → pos 0 <ℤ dot t w) where
  wider : (xs : List (List ℤ)) → AreBounded n b xs → AreRows n xs × HaveEntriesUpTo 500 xs
  wider xs h =
      let s = widened n b 500 (record { inequalities = xs; equations = [] }) high (small_system n b xs [] h (λ x c. absurd (none_in x c))) in
      (s.inequalities_width, s.inequalities)

  -- no row is zero on the whole cone
  none_flat : (t : List ℤ) → Contains rows t → IsZeroOn n rows [] t → ⊥
  none_flat t c z =
      let e : dot t w ≡ pos 0 =
      z w lw (record { not_negative = all_by (λ h. pos 0 ≤ℤ dot h w) rows (λ h k. not_negative (dot h w) (inside h k)); zero = All-nil _ }) in
      let p = inside t c in
      omega (arith, ints, e, p)

  -- so no equation is implied but zeros
  implied_zero : (implied : List (List ℤ)) → IsImplied n rows [] implied → AreBounded n b implied
  implied_zero implied is x c =
      let lx : length x ≡ n = All-contains (λ t. length t ≡ n) implied x is.width c in
      let made : Made n [] implied x = own_member n implied x lx c in
      let of_rows = (is.spans x lx).1 (made-generated n [] implied x (no_widths n) is.width made) in
      let none : (t : List ℤ) → Contains is.rows t → ⊥ = λ t k. elim (is.each t k) [ inl i ↦ none_in t i | inr i ↦ none_flat t i.0 i.1 ] in
      let back : Made n [] is.rows x = generated-made n [] is.rows x (no_widths n) (all_by (λ t. length t ≡ n) is.rows (λ t k. absurd (none t k))) of_rows in
      let z : x ≡ zeros (length x) = own_zero x (Made-dot_zero n [] is.rows x x (λ y k. absurd (none_in y k)) (λ y k. absurd (none y k)) back) in
      record { long = lx; up = subst (UpTo b) (sym z) (up_weaker 0 b (zeros (length x)) (omega arith) (up_zeros 0 (length x))) }

  -- the sum of some of the rays
  no_part : (lin rays : List (List ℤ)) (a : List ℤ) (e : WideVector) → IsRays n rows [] lin rays → IsFirstWide e (adding_steps (zeros n) (zeros_of a rays)) → ⊥
  no_part lin rays a e is f =
      let s = widened n b 500 (record { inequalities = rows; equations = [] }) high (small_system n b rows [] bounded (λ x c. absurd (none_in x c))) in
      let up : (x : List ℤ) → Contains rays x → UpTo 750000000 x =
      rays_up n 500 (record { inequalities = rows; equations = [] }) lin rays some few s is in
      let count : length rays ≤ boxes 1500000001 n =
      few_vectors n 750000000 rays up (λ x i. All-contains (λ t. length t ≡ n) rays x is.rays_width i) is.ascending in
      let fewer : length (zeros_of a rays) ≤ length rays =
      (let q = length-filter_both (λ (r : List ℤ). int_eq (dot a r) (pos 0)) (λ (r : List ℤ). not (int_eq (dot a r) (pos 0))) (λ r. refl) rays in
      omega (arith, q)) in
      let all : length (zeros_of a rays) ≤ boxes 1500000001 n = omega (arith, fewer, count) in
      let p : 750000000 * length (zeros_of a rays) ≤ 750000000 * boxes 1500000001 n = mul-le-mul_left 750000000 all in
      let q = room n some few in
      no_wide_total 0 750000000 (zeros n) (zeros_of a rays) e (up_zeros 0 n) (λ x c. up x ((zeros_part a rays).each x c).0) (omega (arith, p, q)) f

  no_system : (all m : ℕ) (xs ys : List (List ℤ)) (s : ConeOverflow) → m ≤ 3 → AreRows m xs → AreRows m ys → HaveEntriesUpTo 500 xs → HaveEntriesUpTo 500 ys →
      IsStepOn all m xs ys s → ⊥
  no_system all m xs ys s l p q u v step = let e = not_refused (Err (gordan_errors.Cone s)) all m xs ys p q step l u v in absurd (cc)

  certifying : (e : SectionsError) (facets implied : List (List ℤ)) (told : AreRowsTold n rows facets implied) →
      IsCertificateCause n rows told.rays facets implied e → e ≡ errors.Memory
  certifying (errors.Cone s) facets implied told (IsCertificateStep.combining t c redundant step) =
      let of_facets : AreBounded n b facets =
      λ x k. bounded x (All-contains (IsFacetRow n (cone_of rows)) facets x told.are_facets.each k).listed in
      let of_equations : AreBounded n b (implied ++ t ∷ []) =
      λ x k. elim (Contains-append_cases implied (t ∷ []) x k) [
        | inl i ↦ implied_zero implied told.are_implied x i
        | inr i ↦ elim (in_cons t [] x i) [ inl q ↦ subst (IsBounded n b) (sym q) (bounded t c) | inr m ↦ absurd (none_in x m) ]
      ] in
      let f = wider facets of_facets in
      let g = wider (implied ++ t ∷ []) of_equations in
      absurd (no_system (length facets + length (implied ++ t ∷ [])) n facets (implied ++ t ∷ []) s few f.0 g.0 f.1 g.1 step)
  certifying (errors.Cone s) facets implied told (IsCertificateStep.vanishing zero_rows are step) =
      let none : (t : List ℤ) → Contains zero_rows t → ⊥ = λ t k. (let p = are.each t k in none_flat t p.0 p.1) in
      let empty : zero_rows ≡ [] = no_members zero_rows none in
      absurd (no_system (length (unit_vectors (length zero_rows)) + length (value_columns n zero_rows)) 0 [] (value_columns n []) s (omega arith) (All-nil _)
      columns_narrow (All-nil _) columns_empty
      (subst (λ (z : List (List ℤ)). IsStepOn (length (unit_vectors (length zero_rows)) + length (value_columns n zero_rows)) (length z)
      (unit_vectors (length z)) (value_columns n z) s) empty step))
    where
      no_members : (xs : List (List ℤ)) → ((t : List ℤ) → Contains xs t → ⊥) → xs ≡ []
      no_members [] h = refl
      no_members (x ∷ xs) h = absurd (h x (Contains-here x xs))

      columns_narrow : AreRows 0 (value_columns n [])
      columns_narrow = all_by (λ t. length t ≡ 0) (value_columns n []) (λ t c. (let o = of_map (values []) (unit_vectors n) t c in ap length (sym o.1.1)))

      columns_empty : HaveEntriesUpTo 500 (value_columns n [])
      columns_empty = all_by (All (λ x. unsigned_abs x ≤ 500)) (value_columns n []) (λ t c i d l.
          let o = of_map (values []) (unit_vectors n) t c in
          let e : 0 ≡ length t = ap length o.1.1 in
          absurd (omega (arith, e, l)))
  certifying (errors.Wide e) facets implied told h = absurd (no_part told.lineality told.rays h.0 e told.are_rays h.2)
  certifying errors.Memory facets implied told h = refl

  pub certified_fit : AreRaysWithinLimits n rows [] → (certified : Bool) (e : SectionsError) → IsSectionsCause n certified rows e → e ≡ errors.Memory
  certified_fit fits certified e (IsSectionsCause.finding s step q) = absurd (fits s step)
  certified_fit fits certified e (IsSectionsCause.certifying facets implied told asked cause) = certifying e facets implied told cause
  certified_fit fits certified e (IsSectionsCause.no_memory q) = q

-- ---- the command with vectors as input

module _ (o : GroebnerConeOptions) (n b : ℕ) (hs es : List (List ℤ)) (are : AreFewRows o n b hs es) where
  of_inequalities : AreBounded n b (inequalities_of o.restricted n hs)
  of_inequalities = cut_bounded o.restricted n b hs are.low (bounded_by n b hs are.inequalities_width are.inequalities)

  of_equations : AreBounded n b es
  of_equations = bounded_by n b es are.equations_width are.equations

  pub told_sections : o.as_fan ≡ false → o.certificates ≡ false → IsTellingWithin o n hs es
  told_sections p q = subst (λ (f : Bool). IsToldWithin f o.certificates n (inequalities_of o.restricted n hs) es) (sym p)
      (subst (λ (c : Bool). IsConeWithinLimits n c (inequalities_of o.restricted n hs) es) (sym q)
      (sections_fit n b (inequalities_of o.restricted n hs) es are.some are.low of_inequalities of_equations are.room))

  pub told_fan : o.as_fan ≡ true → IsTellingWithin o n hs es
  told_fan p = subst (λ (f : Bool). IsToldWithin f o.certificates n (inequalities_of o.restricted n hs) es) (sym p)
      (fan_fits n b (inequalities_of o.restricted n hs) es are.some are.few are.low are.high of_inequalities of_equations are.room)

module _ (o : GroebnerConeOptions) (n b : ℕ) (hs : List (List ℤ)) (w : List ℤ) (are : AreFewRows o n b hs []) (lw : length w ≡ n)
    (inside : (t : List ℤ) → Contains (inequalities_of o.restricted n hs) t → pos 0 <ℤ dot t w) where
  all_inside : (t : List ℤ) → Contains (given_rows (inequalities_of o.restricted n hs) []) t → pos 0 <ℤ dot t w
  all_inside t c = elim (Contains-append_cases (inequalities_of o.restricted n hs) [] t c) [ inl i ↦ inside t i | inr i ↦ absurd (none_in t i) ]

  certified_sections : (certified : Bool) → IsConeWithinLimits n certified (inequalities_of o.restricted n hs) []
  certified_sections certified e (IsConeCause.no_memory q) = q
  certified_sections certified e (IsConeCause.of_rows rows of c) =
      certified_fit n b rows w are.some are.few are.high
      (bounded n b (inequalities_of o.restricted n hs) [] rows are.some are.low (of_inequalities o n b hs [] are) (of_equations o n b hs [] are) are.room of) lw
      (rows_positive (given_rows (inequalities_of o.restricted n hs) []) rows w of all_inside)
      (finding_fits n b (inequalities_of o.restricted n hs) [] rows are.some are.low (of_inequalities o n b hs [] are) (of_equations o n b hs [] are)
      are.room of)
      certified e c

  pub told_certified : o.as_fan ≡ false → IsTellingWithin o n hs []
  told_certified p = subst (λ (f : Bool). IsToldWithin f o.certificates n (inequalities_of o.restricted n hs) []) (sym p) (certified_sections o.certificates)

-- ---- bounds

pub up_to_two : (n b : ℕ) → has_room n b 0 ≡ true → has_room n b 1 ≡ true → has_room n b 2 ≡ true → HasRoomUpTo n b 2
up_to_two n b p q r zero l = p
up_to_two n b p q r (suc zero) l = q
up_to_two n b p q r (suc (suc zero)) l = r
up_to_two n b p q r (suc (suc (suc k))) l = absurd (omega (arith, l))

pub up_to_three : (n b : ℕ) → HasRoomUpTo n b 2 → has_room n b 3 ≡ true → HasRoomUpTo n b 3
up_to_three n b h r zero l = h 0 (omega arith)
up_to_three n b h r (suc zero) l = h 1 (omega arith)
up_to_three n b h r (suc (suc zero)) l = h 2 (omega arith)
up_to_three n b h r (suc (suc (suc zero))) l = r
up_to_three n b h r (suc (suc (suc (suc k)))) l = absurd (omega (arith, l))

pub up_to_four : (n b : ℕ) → HasRoomUpTo n b 3 → has_room n b 4 ≡ true → HasRoomUpTo n b 4
up_to_four n b h r zero l = h 0 (omega arith)
up_to_four n b h r (suc zero) l = h 1 (omega arith)
up_to_four n b h r (suc (suc zero)) l = h 2 (omega arith)
up_to_four n b h r (suc (suc (suc zero))) l = h 3 (omega arith)
up_to_four n b h r (suc (suc (suc (suc zero)))) l = r
up_to_four n b h r (suc (suc (suc (suc (suc k))))) l = absurd (omega (arith, l))

pub few_rows_have_room : FewRowsHaveRoom
few_rows_have_room = record {
  four = up_to_four 2 1 (up_to_three 2 1 (up_to_two 2 1 refl refl refl) refl) refl;
  three = up_to_three 2 4 (up_to_two 2 4 refl refl refl) refl;
  two = up_to_two 2 50 refl refl refl;
  space = up_to_two 3 1 refl refl refl;
}
