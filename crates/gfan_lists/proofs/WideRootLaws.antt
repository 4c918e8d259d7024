-- If an entry of the root of a region is too great, `_bases --within` tells the first such entry.
-- To cite: wide_roots. The rest are steps.
use Rattle.std.specs.Prelude.{ℕ, Bool, true, List, length, ℤ}
use Rattle.std.proofs.Common.{refl, sym, ap, ◌∙◌, subst, inl, inr}
use Rattle.gf_gordan.specs.Alternative.{AreRows}
use Rattle.gf_facets_theory.specs.Regions.{Region}
use Rattle.gf_weights.specs.declared.region.RegionError.{RegionError}
use Rattle.gf_weights.specs.declared.region.RegionError.TheVariants as region_errors
use Rattle.gf_weights.specs.Roots.{IsRegionOf, IsRegionRefusal}
use Rattle.gf_weights.proofs.RegionLaws.{regions_are_one}
use Rattle.gf_front.specs.declared.refusal.Refusal.{Refusal}
use Rattle.gf_front.specs.declared.refusal.Refusal.TheVariants as refusals
use Rattle.gf_items.specs.Checks.{FirstFails}
use Rattle.gf_items.proofs.CheckLaws.{first_apart}
use Rattle.gf_frame.specs.Loading.{Origin}
use Rattle.gf_frame.specs.Commands.{IsUnanswered}
use Rattle.gfan_lists.specs.declared.bases.ListOptions.{ListOptions}
use Rattle.gfan_lists.specs.Ways.{ways_by}
use Rattle.gfan_lists.specs.Within.{of_region, IsNoRegion}
use Rattle.gfan_lists.specs.After.{names_given}
use Rattle.gfan_lists.specs.ListCommand.{ListValue, IsEarlyCause, IsListCause, list_command, IsToldUnlessUnfinished, WideRootsAreTold}
use Rattle.gfan_common.specs.ToolForms.{for_each}
use Rattle.gfan_common.proofs.ToolFormLaws.{each_check}
use Rattle.gfan_lists.proofs.WithinLaws.{rows_hold}

module _ (n : ℕ) (rows : List (List ℤ)) (index : ℕ) (value : ℤ) (wide : AreRows n rows)
    (past : IsRegionRefusal n rows (region_errors.WideRoot index value)) where
  at_error : (e : RegionError) → IsRegionRefusal n rows e → IsToldUnlessUnfinished n rows (refusals.WideRoot index value) (of_region e)
  at_error (region_errors.Empty ms) h = absurd (regions_are_one.apart n rows ms index value wide h past)
  at_error (region_errors.WideRoot i x) h =
      let p = regions_are_one.same n rows i index x value h past in
      inl (ap (λ z. refusals.WideRoot z x) p.0 ∙ ap (λ z. refusals.WideRoot index z) p.1)
  at_error (region_errors.Cone o) h = inr (inl (region_errors.Cone o, h, tt, refl))
  at_error (region_errors.Wide w) h = inr (inl (region_errors.Wide w, h, tt, refl))
  at_error region_errors.Memory h = inr (inr refl)

  at_region : (r : Refusal) → IsNoRegion n rows r → IsToldUnlessUnfinished n rows (refusals.WideRoot index value) r
  at_region r h = subst (IsToldUnlessUnfinished n rows (refusals.WideRoot index value)) (sym h.1.2) (at_error h.1.0 h.1.1)

  none_there : (k : Region) → IsRegionOf n rows k → ⊥
  none_there k i = regions_are_one.not_wide n rows k index value i past

  formed : (r : Refusal) → FirstFails (for_each n rows) r → ⊥
  formed r f = first_apart (for_each n rows) (each_check n rows) r (rows_hold n rows wide) f

module _ (from_basis after_basis : Bool) (sources : List Origin) (o : ListOptions) (v : ListValue (ways_by from_basis true after_basis)) (index : ℕ) (value : ℤ)
    (w : AreRows (length (names_given from_basis v.1.1)) v.0)
    (h : IsRegionRefusal (length (names_given from_basis v.1.1)) v.0 (region_errors.WideRoot index value)) where
  abbrev n : ℕ
  n = length (names_given from_basis v.1.1)

  told : (r : Refusal) → IsListCause (ways_by from_basis true after_basis) o v r → IsToldUnlessUnfinished n v.0 (refusals.WideRoot index value) r
  told r (IsListCause.early (IsEarlyCause.at_region c x)) = at_region n v.0 index value w h r x
  told r (IsListCause.early (IsEarlyCause.at_names k c i x)) = absurd (none_there n v.0 index value w h k i)
  told r (IsListCause.early (IsEarlyCause.at_start k i e x)) = absurd (none_there n v.0 index value w h k i)
  told r (IsListCause.going k front i e g t x) = absurd (none_there n v.0 index value w h k i)

  unanswered : (r : Refusal) → IsUnanswered (list_command (ways_by from_basis true after_basis) sources o) v r →
      IsToldUnlessUnfinished n v.0 (refusals.WideRoot index value) r
  unanswered r (IsUnanswered.in_form f) = absurd (formed n v.0 index value w h r f)
  unanswered r (IsUnanswered.in_work a c) = told r c
  unanswered r (IsUnanswered.no_memory m) = inr (inr m)

pub wide_roots : WideRootsAreTold
wide_roots from_basis after_basis sources o v index value w h = (
  λ text a. none_there (length (names_given from_basis v.1.1)) v.0 index value w h a.is_answer.0 a.is_answer.1,
  unanswered from_basis after_basis sources o v index value w h,
)
