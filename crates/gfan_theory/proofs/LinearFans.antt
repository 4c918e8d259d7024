-- Fans of the closed cones of bases of variables and differences of variables are found and written within all limits.
-- To cite: fans_of_linear_sets_fit. The rest are steps.
use Rattle.std.proofs.Common.{◌≡◌, ◌⊎◌, ℕ, zero, suc, ◌+◌, ◌<◌, ◌≤◌, Bool, true, false, List, [], ◌∷◌, length, length-append, map, arith, refl, sym, ℤ}
use Rattle.std.proofs.Common.{ap, ◌∙◌, subst, inl, inr, Contains}
use Rattle.std.specs.List.{AllZip}
use Rattle.std.proofs.lemmas.List.{get_or_default, length-map}
use Rattle.std.proofs.lemmas.List.Sorted.{length_permutation}
use Rattle.std.proofs.lemmas.Slice.Zip.{AllZip-long}
use Rattle.gf_poly.specs.Marking.{MarkedPolynomials, polys, IsArranged}
use Rattle.gf_gordan.specs.declared.error.ConeOverflow.{ConeOverflow}
use Rattle.gf_duality_theory.proofs.ListLaws.{none_in, in_cons, zip_from}
use Rattle.gf_rays.specs.Cones.{RowsAndRays, rows_of}
use Rattle.gf_rays.specs.Reached.{IsRaysStep}
use Rattle.gf_rays.specs.Limits.{IsSmallSystem, has_room}
use Rattle.gf_rays.proofs.RoomLaws.{systems_with_room_stay_within_limits}
use Rattle.gf_facets_theory.specs.Normals.{AreNormals}
use Rattle.gf_facets_theory.specs.Systems.{units}
use Rattle.gf_facets_theory.specs.Regions.{all_positive}
use Rattle.gf_fan.specs.Pairs.{AreMeeting}
use Rattle.gf_fan.proofs.LimitLaws.{fans_with_room_stay_within_limits}
use Rattle.gf_reduced.specs.Forms.{monic_of, monic_set}
use Rattle.gfan_fans.specs.FanTexts.{IsFanOfConesWithin}
use Rattle.gfan_fans.specs.ToPolyhedralFan.{inequalities_of, IsConeOfSet, IsSetWithin, AreSetsWithin}
use Rattle.gfan_theory.specs.LinearFans.{IsReducedLinearBasis, FansOfLinearSetsFit}
use Rattle.gfan_theory.specs.SmallCones.{HasRoomUpTo}
use Rattle.gfan_theory.proofs.LinearNormals.{one_at_most}
use Rattle.gfan_theory.proofs.LinearChecks.{linear_checks, set_differences, node}
use Rattle.gfan_theory.proofs.ConeRowLaws.{AreBounded, cut_bounded, length_units, small_system}
use Rattle.gfan_theory.proofs.ToldLimits.{up_to_two, up_to_three, up_to_four}
use Rattle.gfan_theory.proofs.SmallFans.{written_fits}
use Rattle.gfan_theory.proofs.Arrangements.{arranged_set}
use Rattle.gfan_theory.proofs.LinearCones.{monic_normals, normals_found, normals_bounded}

-- ---- the inequalities of one basis

module _ (cut : Bool) (n : ℕ) (s : MarkedPolynomials) (some : 1 ≤ n) (small : n ≤ 3) (b : IsReducedLinearBasis n s) (ns : List (List ℤ))
    (are : AreNormals s.items ns) where
  own_some : 1 ≤ s.variables
  own_some = let e = b.variables in omega (arith, e, some)

  own_small : s.variables ≤ 3
  own_small = let e = b.variables in omega (arith, e, small)

  arranged : (t : MarkedPolynomials) × IsArranged (monic_set s) t
  arranged = arranged_set (monic_set s)

  two : length ns ≤ 2
  two = (normals_found s arranged.0 b.linear own_some own_small b.basis b.reduced arranged.1 ns are).0

  bounded : AreBounded n 1 (inequalities_of cut n ns)
  bounded = cut_bounded cut n 1 ns (omega arith) (subst (λ (m : ℕ). AreBounded m 1 ns) b.variables
      (normals_bounded s arranged.0 b.linear own_some own_small b.basis b.reduced arranged.1 ns are))

  -- of a basis of one member
  one : length s.items ≤ 1 → length ns ≤ 1
  one l =
      let t = arranged.0 in
      let p : length t.items ≡ length s.items = length_permutation (map monic_of s.items) t.items arranged.1.members ∙ length-map s.items monic_of in
      one_at_most s.variables (polys s.items) (all_positive s.variables) t.items (set_differences s b.linear)
      (node s b.linear b.basis b.reduced t arranged.1) ns (monic_normals s t arranged.1 ns are) (omega (arith, p, l))

-- ---- a list

-- where each has at most m inequalities, and there is room for them, and for those of any two if there are two bases
module _ (cut : Bool) (n m : ℕ) (sets : List MarkedPolynomials) (some : 1 ≤ n) (small : n ≤ 3) (own : HasRoomUpTo n 1 m)
    (pairs : (length sets ≤ 1) ⊎ HasRoomUpTo n 1 (m + m)) (bases : (s : MarkedPolynomials) → Contains sets s → IsReducedLinearBasis n s)
    (few : (s : MarkedPolynomials) (ns : List (List ℤ)) → Contains sets s → AreNormals s.items ns → length (inequalities_of cut n ns) ≤ m)
    (meeting : (cones : List RowsAndRays) → AllZip (IsConeOfSet cut) sets cones → AreMeeting n cones) where
  set_within : (s : MarkedPolynomials) → Contains sets s → IsSetWithin cut s
  set_within s c =
      let b = bases s c in
      record {
        checked = record {
          variables = b.linear.binomials.variables;
          basis = b.basis;
          terms = b.reduced;
          checks = linear_checks s b.linear (let e = b.variables in omega (arith, e, small));
        };
        cone = λ o step. no_step s c b o step.normals step.are_normals
            (subst (λ (k : ℕ). IsRaysStep k (inequalities_of cut k step.normals) [] o) b.variables step.step);
      }
    where
      no_step : (s : MarkedPolynomials) → Contains sets s → IsReducedLinearBasis n s → (o : ConeOverflow) (ns : List (List ℤ)) → AreNormals s.items ns →
          IsRaysStep n (inequalities_of cut n ns) [] o → ⊥
      no_step s c b o ns are step = systems_with_room_stay_within_limits n 1 (record { inequalities = inequalities_of cut n ns; equations = [] }) some
          (omega arith)
          (small_system n 1 (inequalities_of cut n ns) [] (bounded cut n s some small b ns are) (λ x k. absurd (none_in x k)))
          (own (length (inequalities_of cut n ns)) (few s ns c are)) o step

  module _ (cones : List RowsAndRays) (of_sets : AllZip (IsConeOfSet cut) sets cones) where
    origin : (k : RowsAndRays) → Contains cones k → (s : MarkedPolynomials) × Contains sets s × IsConeOfSet cut s k
    origin k c = let z = zip_from (IsConeOfSet cut) sets cones k of_sets c in (z.0, z.1.0, z.1.1)

    cone_small : (k : RowsAndRays) → Contains cones k → IsSmallSystem n 1 (rows_of k)
    cone_small k c =
        let z = origin k c in
        let b = bases z.0 z.1 in
        let e : k.inequalities ≡ inequalities_of cut n z.2.normals =
        z.2.inequalities ∙ ap (λ (m : ℕ). inequalities_of cut m z.2.normals) b.variables in
        subst (λ (x : List (List ℤ)). IsSmallSystem n 1 (record { inequalities = x; equations = k.equations })) (sym e)
        (subst (λ (x : List (List ℤ)). IsSmallSystem n 1 (record { inequalities = inequalities_of cut n z.2.normals; equations = x })) (sym z.2.equations)
        (small_system n 1 (inequalities_of cut n z.2.normals) [] (bounded cut n z.0 some small b z.2.normals z.2.are_normals) (λ x i. absurd (none_in x i))))

    cone_few : (k : RowsAndRays) → Contains cones k → length k.inequalities ≤ m
    cone_few k c =
        let z = origin k c in
        let b = bases z.0 z.1 in
        let e : k.inequalities ≡ inequalities_of cut n z.2.normals =
        z.2.inequalities ∙ ap (λ (m : ℕ). inequalities_of cut m z.2.normals) b.variables in
        subst (λ (x : List (List ℤ)). length x ≤ m) (sym e) (few z.0 z.2.normals z.1 z.2.are_normals)

    both_room : (i j : ℕ) (c d : RowsAndRays) → i < j → j < length cones → Contains cones c → Contains cones d →
        has_room n 1 (length c.inequalities + length d.inequalities) ≡ true
    both_room i j c d before last p q = at pairs
      where
        at : (length sets ≤ 1) ⊎ HasRoomUpTo n 1 (m + m) → has_room n 1 (length c.inequalities + length d.inequalities) ≡ true
        at (inl l) = absurd (let e = AllZip-long (IsConeOfSet cut) sets cones of_sets in omega (arith, before, last, l, e))
        at (inr r) = r (length c.inequalities + length d.inequalities) (let x = cone_few c p in let y = cone_few d q in omega (arith, x, y))

    fan_within : IsFanOfConesWithin n cones
    fan_within = record {
      finding = fans_with_room_stay_within_limits n 1 cones some (omega arith) cone_small (record {
        own = λ k c. own (length k.inequalities) (cone_few k c);
        pairs = λ i j c d before last e h. both_room i j c d before last
            (i, omega (arith, before, last), get_or_default cones i c c (omega (arith, before, last)) ∙ e) (j, last, h);
        none = own 0 (omega arith);
      });
      writing = λ f is w step. written_fits n 1 cones f w some small (omega arith) is cone_small step;
    }

  pub sets_within : AreSetsWithin cut n sets
  sets_within = record { each = set_within; meeting = meeting; fan = fan_within }

-- ---- the lists

room_for_two : (n : ℕ) → 1 ≤ n → n ≤ 3 → HasRoomUpTo n 1 2
room_for_two zero h l = absurd (omega (arith, h))
room_for_two (suc zero) h l = up_to_two 1 1 refl refl refl
room_for_two (suc (suc zero)) h l = up_to_two 2 1 refl refl refl
room_for_two (suc (suc (suc zero))) h l = up_to_two 3 1 refl refl refl
room_for_two (suc (suc (suc (suc n)))) h l = absurd (omega (arith, l))

room_for_four : (n : ℕ) → 1 ≤ n → n ≤ 2 → HasRoomUpTo n 1 4
room_for_four zero h l = absurd (omega (arith, h))
room_for_four (suc zero) h l = up_to_four 1 1 (up_to_three 1 1 (up_to_two 1 1 refl refl refl) refl) refl
room_for_four (suc (suc zero)) h l = up_to_four 2 1 (up_to_three 2 1 (up_to_two 2 1 refl refl refl) refl) refl
room_for_four (suc (suc (suc n))) h l = absurd (omega (arith, l))

-- one cone meets none
alone_meets : (cut : Bool) (n : ℕ) (s : MarkedPolynomials) (cones : List RowsAndRays) → AllZip (IsConeOfSet cut) (s ∷ []) cones → AreMeeting n cones
alone_meets cut n s cones of_sets i j d before last =
    absurd (let e = AllZip-long (IsConeOfSet cut) (s ∷ []) cones of_sets in omega (arith, before, last, e))

module _ (cut : Bool) (n : ℕ) (s : MarkedPolynomials) (some : 1 ≤ n) (small : n ≤ 3) (b : IsReducedLinearBasis n s) where
  the_one : (x : MarkedPolynomials) → Contains (s ∷ []) x → x ≡ s
  the_one x c = elim (in_cons s [] x c) [ inl e ↦ e | inr m ↦ absurd (none_in x m) ]

  its_basis : (x : MarkedPolynomials) → Contains (s ∷ []) x → IsReducedLinearBasis n x
  its_basis x c = subst (IsReducedLinearBasis n) (sym (the_one x c)) b

  at_most : (x : MarkedPolynomials) (ns : List (List ℤ)) → Contains (s ∷ []) x → AreNormals x.items ns → length ns ≤ 2
  at_most x ns c are = two cut n s some small b ns (subst (λ (y : MarkedPolynomials). AreNormals y.items ns) (the_one x c) are)

one_fits : (cut : Bool) (n : ℕ) (s : MarkedPolynomials) → 1 ≤ n → n ≤ 3 → (cut ≡ false) ⊎ (n ≤ 2) → IsReducedLinearBasis n s → AreSetsWithin cut n (s ∷ [])
one_fits false n s some small q b =
    sets_within false n 2 (s ∷ []) some small (room_for_two n some small) (inl (omega arith)) (its_basis false n s some small b)
    (λ x ns c are. at_most false n s some small b x ns c are) (λ cones z. alone_meets false n s cones z)
one_fits true n s some small (inl q) b = absurd (let e : true ≡ false = q in cc)
one_fits true n s some small (inr q) b =
    sets_within true n 4 (s ∷ []) some small (room_for_four n some q) (inl (omega arith)) (its_basis true n s some small b)
    (λ x ns c are. (let p = at_most true n s some small b x ns c are in let l = length-append ns (units n n) in let k = length_units n n in
    omega (arith, p, l, k, q))) (λ cones z. alone_meets true n s cones z)

several_fit : (n : ℕ) (sets : List MarkedPolynomials) → 1 ≤ n → n ≤ 3 → (n ≤ 2) ⊎ ((s : MarkedPolynomials) → Contains sets s → length s.items ≤ 1) →
    ((s : MarkedPolynomials) → Contains sets s → IsReducedLinearBasis n s) →
    ((cones : List RowsAndRays) → AllZip (IsConeOfSet false) sets cones → AreMeeting n cones) → AreSetsWithin false n sets
several_fit n sets some small (inl q) bases meeting =
    sets_within false n 2 sets some small (room_for_two n some small) (inr (room_for_four n some q)) bases
    (λ s ns c are. two false n s some small (bases s c) ns are) meeting
several_fit n sets some small (inr q) bases meeting =
    sets_within false n 1 sets some small (λ k l. room_for_two n some small k (omega (arith, l))) (inr (room_for_two n some small)) bases
    (λ s ns c are. one false n s some small (bases s c) ns are (q s c)) meeting

pub fans_of_linear_sets_fit : FansOfLinearSetsFit
fans_of_linear_sets_fit = record { one = one_fits; several = several_fit }
