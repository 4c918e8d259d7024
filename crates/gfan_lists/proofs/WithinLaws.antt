-- The region of `_bases --within`: why there is none, and which basis is the first in it; and commands that are refused before they write.
-- To cite: region_work, region_numbers, no_region_same, no_region_there; stopped_in_form, stopped_in_work, form_unlisted, region_unlisted; no_region_named,
-- region_told; root_in_starts, given_region_starts; rows_hold. The rest are steps.
use Rattle.std.specs.Prelude.{◌≡◌, ◌⊎◌, ℕ, List, [], ◌∷◌, Option, Some, None, ℤ}
use Rattle.std.proofs.Common.{refl, sym, ◌∙◌, subst, inl, inr}
use Rattle.gf_exponents_theory.specs.Orders.{gains}
use Rattle.gf_exponents_theory.specs.SixOrders.{MonomialOrder}
use Rattle.gf_poly.specs.Polynomial.{Terms}
use Rattle.gf_poly.specs.Marking.{MarkedPolynomials, HaveVariables, polys}
use Rattle.gf_ideal_theory.specs.Membership.{AreInVariables}
use Rattle.gf_buchberger.specs.Bases.{IsArrangedBasis}
use Rattle.gf_gordan.specs.Alternative.{AreRows}
use Rattle.gf_reduced.proofs.GroebnerLaws.{polys_variables}
use Rattle.gf_facets_theory.specs.Regions.{Region}
use Rattle.gf_bases_theory.proofs.LawsHold.{only_ideals_count}
use Rattle.gf_reverse_theory.specs.Upward.{IsNodeIn}
use Rattle.gf_tree.specs.Ideals.{ideal_by, ideal_within}
use Rattle.gf_weights.specs.declared.region.RegionError.{RegionError}
use Rattle.gf_weights.specs.declared.region.RegionError.TheVariants as region_errors
use Rattle.gf_weights.specs.Roots.{IsRegionOf, IsRegionRefusal}
use Rattle.gf_weights.proofs.RegionLaws.{regions_are_one}
use Rattle.gf_front.specs.declared.refusal.Refusal.{Refusal}
use Rattle.gf_front.specs.declared.refusal.Refusal.TheVariants as refusals
use Rattle.gf_items.specs.Refusals.{IsOfTest, IsOfNumbers, TellsSame, IsOfWork}
use Rattle.gf_items.specs.Checks.{AllHold, FirstFails}
use Rattle.gf_frame.specs.Seen.{output_seen}
use Rattle.gf_frame.specs.Commands.{Command, IsUnanswered, IsRefusedOn, IsCauseAtStart, IsRefusedAtStart}
use Rattle.gf_frame.specs.Runs.{IsStoppedOn}
use Rattle.gf_frame.proofs.WorkLaws.{nothing_but_limit}
use Rattle.gfan_common.specs.Forms.{IsLengthRefusal}
use Rattle.gf_lists_theory.specs.Starts.{StartsIn}
use Rattle.gfan_lists.specs.GivenBasis.{IsReducedFrom}
use Rattle.gfan_common.specs.Refused.{without_names, IsNamedBy, IsOfSource}
use Rattle.gfan_lists.specs.Within.{of_region, IsNoRegion}
use Rattle.gf_lists_theory.proofs.BasesListLaws.{given_node, start_moved}
use Rattle.gfan_common.specs.ToolForms.{for_each}
use Rattle.std.proofs.lemmas.List.Elements.{All-nil}
use Rattle.gfan_common.proofs.RefusedLaws.{of_source}
use Rattle.gfan_common.proofs.ToolFormLaws.{each_joined}

-- ---- the region

pub region_work : (e : RegionError) → IsOfWork (of_region e)
region_work (region_errors.Empty ms) = tt
region_work (region_errors.WideRoot i x) = tt
region_work (region_errors.Cone s) = tt
region_work (region_errors.Wide w) = tt
region_work region_errors.Memory = tt

-- two refusals of one region are the same, or both say that it is empty, unless numbers don't fit
regions_same : (n : ℕ) (rows : List (List ℤ)) (e f : RegionError) → AreRows n rows → IsOfTest (of_region e) → IsRegionRefusal n rows e →
    IsRegionRefusal n rows f → TellsSame (of_region e) (of_region f) ⊎ IsOfNumbers (of_region f)
regions_same n rows (region_errors.Empty ms) (region_errors.Empty ns) w t h k = inl tt
regions_same n rows (region_errors.Empty ms) (region_errors.WideRoot i x) w t h k = absurd (regions_are_one.apart n rows ms i x w h k)
regions_same n rows (region_errors.WideRoot i x) f w t h k = absurd t
regions_same n rows e (region_errors.Cone s) w t h k = inr tt
regions_same n rows e (region_errors.Wide v) w t h k = inr tt
regions_same n rows e region_errors.Memory w t h k = inr tt
regions_same n rows (region_errors.Cone s) f w t h k = absurd t
regions_same n rows (region_errors.Wide v) f w t h k = absurd t
regions_same n rows region_errors.Memory f w t h k = absurd t

-- where there is a region, that it is empty isn't told
region_there : (n : ℕ) (rows : List (List ℤ)) (k : Region) (e : RegionError) → IsOfTest (of_region e) → IsRegionOf n rows k → IsRegionRefusal n rows e → ⊥
region_there n rows k (region_errors.Empty ms) t p h = regions_are_one.not_empty n rows k ms p h
region_there n rows k (region_errors.WideRoot i x) t p h = t
region_there n rows k (region_errors.Cone s) t p h = t
region_there n rows k (region_errors.Wide v) t p h = t
region_there n rows k region_errors.Memory t p h = t

pub no_region_same : (n : ℕ) (rows : List (List ℤ)) (r d : Refusal) → IsOfTest r → IsNoRegion n rows r → IsNoRegion n rows d → TellsSame r d ⊎ IsOfNumbers d
no_region_same n rows r d t (w, (e, h, q)) (u, (f, k, p)) =
    let same = regions_same n rows e f w (subst IsOfTest q t) h k in
    subst (λ x. TellsSame r x ⊎ IsOfNumbers x) (sym p) (subst (λ x. TellsSame x (of_region f) ⊎ IsOfNumbers (of_region f)) (sym q) same)

pub no_region_there : (n : ℕ) (rows : List (List ℤ)) (k : Region) (r : Refusal) → IsOfTest r → IsNoRegion n rows r → IsRegionOf n rows k → ⊥
no_region_there n rows k r t (w, (e, h, q)) p = region_there n rows k e (subst IsOfTest q t) p h

region_not_listed : (e : RegionError) (most : ℕ) → of_region e ≡ refusals.ListLimit most → ⊥
region_not_listed (region_errors.Empty ms) most q = cc
region_not_listed (region_errors.WideRoot i x) most q = cc
region_not_listed (region_errors.Cone s) most q = cc
region_not_listed (region_errors.Wide w) most q = cc
region_not_listed region_errors.Memory most q = cc

-- a refusal of a region that is there is of numbers
pub region_numbers : (n : ℕ) (rows : List (List ℤ)) (k : Region) (e : RegionError) → IsRegionOf n rows k → IsRegionRefusal n rows e → IsOfNumbers (of_region e)
region_numbers n rows k (region_errors.Empty ms) p h = absurd (regions_are_one.not_empty n rows k ms p h)
region_numbers n rows k (region_errors.WideRoot i x) p h = absurd (regions_are_one.not_wide n rows k i x p h)
region_numbers n rows k (region_errors.Cone s) p h = tt
region_numbers n rows k (region_errors.Wide w) p h = tt
region_numbers n rows k region_errors.Memory p h = tt

-- ---- refused before anything is written

-- by a check of form, or by the work before it writes, but not at the limit of a list
module _ (c : Command) (texts : List (List ℕ)) (a : c.Value) (read : c.reading.IsRead texts a) (held : Option (List ℕ)) (n : ℕ) (r : Refusal)
    (unlisted : (most : ℕ) → r ≡ refusals.ListLimit most → ⊥) where
  pub stopped_in_form : FirstFails (c.checks a) r → IsStoppedOn c texts (output_seen held n) (output_seen held n) r
  stopped_in_form f = IsStoppedOn.in_work (IsRefusedOn.behind_text a read (IsUnanswered.in_form f))
      (nothing_but_limit c texts (output_seen held n) r unlisted (IsRefusedAtStart.in_form a read f)) refl

  pub stopped_in_work : AllHold (c.checks a) → c.IsCause a r → IsCauseAtStart c.writing c.IsCause a r →
      IsStoppedOn c texts (output_seen held n) (output_seen held n) r
  stopped_in_work g w e = IsStoppedOn.in_work (IsRefusedOn.behind_text a read (IsUnanswered.in_work g w))
      (nothing_but_limit c texts (output_seen held n) r unlisted (IsRefusedAtStart.in_work a read g e)) refl

pub form_unlisted : (n : ℕ) (rows : List (List ℤ)) (r : Refusal) → FirstFails (for_each n rows) r → (most : ℕ) → r ≡ refusals.ListLimit most → ⊥
form_unlisted n rows r f most l = none rows (subst (FirstFails (for_each n rows)) l f)
  where
    none : (ws : List (List ℤ)) → FirstFails (for_each n ws) (refusals.ListLimit most) → ⊥
    none [] h = h
    none (w ∷ ws) (inl h) = h
    none (w ∷ ws) (inr (k, h)) = none ws h

pub region_unlisted : (n : ℕ) (rows : List (List ℤ)) (r : Refusal) → IsNoRegion n rows r → (most : ℕ) → r ≡ refusals.ListLimit most → ⊥
region_unlisted n rows r (w, (e, h, q)) most l = region_not_listed e most (sym q ∙ l)

-- ---- the line of a refusal

region_named_by : (names : Option (List (List ℕ))) (e : RegionError) → IsNamedBy names (of_region e)
region_named_by names (region_errors.Empty ms) = λ lent is. tt
region_named_by names (region_errors.WideRoot i x) = λ lent is. tt
region_named_by names (region_errors.Cone s) = λ lent is. tt
region_named_by names (region_errors.Wide w) = λ lent is. tt
region_named_by names region_errors.Memory = λ lent is. tt

pub no_region_named : (names : Option (List (List ℕ))) (n : ℕ) (rows : List (List ℤ)) (r : Refusal) → IsNoRegion n rows r → IsNamedBy names r
no_region_named names n rows r (w, (e, h, q)) = subst (IsNamedBy names) (sym q) (region_named_by names e)

length_named : (names : Option (List (List ℕ))) (n : ℕ) (w : List ℤ) (r : Refusal) → IsLengthRefusal n (Some w) r → IsNamedBy names r
length_named names n w (refusals.Dimensions left right) h = λ lent is. tt
length_named names n w _ h = absurd h

rows_named : (names : Option (List (List ℕ))) (n : ℕ) (rows : List (List ℤ)) (r : Refusal) → FirstFails (for_each n rows) r → IsNamedBy names r
rows_named names n [] r h = absurd h
rows_named names n (w ∷ ws) r (inl h) = length_named names n w r h
rows_named names n (w ∷ ws) r (inr (k, h)) = rows_named names n ws r h

-- it is told without a ring
pub region_told : (source : List ℕ) (n : ℕ) (rows : List (List ℤ)) (r : Refusal) → FirstFails (for_each n rows) r ⊎ IsNoRegion n rows r →
    IsOfSource source (without_names r)
region_told source n rows r (inl f) = of_source source r (rows_named None n rows r f)
region_told source n rows r (inr h) = of_source source r (no_region_named None n rows r h)

-- ---- the first basis

-- the basis that is worked out of the generators
pub root_in_starts : (n : ℕ) (k : Region) (fs : List Terms) (root : MarkedPolynomials) → IsNodeIn (ideal_within n fs k) root →
    IsArrangedBasis (MonomialOrder.weighted (gains k.root)) n fs root → StartsIn n k fs root
root_in_starts n k fs root h b = record { node = h; by_root = b.reduced }

-- that of a reduced basis's polynomials is that of the ideal of the set
pub given_region_starts : (k : Region) (s u root : MarkedPolynomials) → HaveVariables s.variables s.items → IsReducedFrom s u →
    StartsIn s.variables k (polys u.items) root → StartsIn s.variables k (polys s.items) root
given_region_starts k s u root v f h =
    let n = s.variables in
    let inside : AreInVariables n (polys s.items) = polys_variables n s.items v in
    let node : IsNodeIn (ideal_by n (polys s.items)) u = given_node n (polys s.items) u inside f.given in
    let g = only_ideals_count.generated n (polys s.items) u.items inside (record { reduced = node.basis.reduced; arranged = node.basis.arranged }) in
    start_moved n k (polys u.items) (polys s.items) root inside (record { inside = g.1.back; back = g.1.inside }) h

-- the rows of a region pass their check
pub rows_hold : (n : ℕ) (rows : List (List ℤ)) → AreRows n rows → AllHold (for_each n rows)
rows_hold n rows w = each_joined n [] rows (All-nil _) w
