-- `_bases`: it is read in one way, each refusal of it is told in one way, and the command is lawful.
-- To cite: list_read, IsBehindKept, IsListSaid, said_list, said_kept, said_inside; names_apart; unstarted_unlisted, unstarted_within, unstarted_told;
-- cut_rows, checked_list, bases_lawful. The rest are steps.
use Rattle.std.specs.Prelude.{◌≡◌, ◌⊎◌, ℕ, Bool, true, false, List, [], ◌∷◌, ◌++◌, length, Option, Some, None, ℤ}
use Rattle.std.proofs.Common.{sym, ap, ◌∙◌, subst, inl, inr}
use Rattle.gf_poly.specs.Polynomial.{Terms}
use Rattle.gf_poly.specs.Marking.{MarkedPolynomials, polys}
use Rattle.gf_ideal_theory.specs.Membership.{AreInVariables}
use Rattle.gf_buchberger.proofs.TaskLaws.{ring_variables}
use Rattle.gf_gordan.specs.Alternative.{AreRows}
use Rattle.gf_reduced.proofs.GroebnerLaws.{polys_variables}
use Rattle.gf_facets_theory.specs.Regions.{Region}
use Rattle.gf_weights.specs.Roots.{IsRegionOf}
use Rattle.gf_front.specs.declared.options.BasesOptions.{BasesOptions}
use Rattle.gf_front.specs.declared.refusal.Refusal.{Refusal}
use Rattle.gf_front.specs.declared.refusal.Refusal.TheVariants as refusals
use Rattle.gf_items.specs.Items.{from}
use Rattle.gf_items.specs.Kinds.{a_set, a_marked_set, vector_where, vector_list}
use Rattle.gf_items.specs.Sources.{vectors_alone, ring_marked_set}
use Rattle.gf_items.specs.Refusals.{IsOfTest, IsOfNumbers, TellsSame, IsOfWork}
use Rattle.gf_items.proofs.CheckLaws.{AreCheckedOnce}
use Rattle.gf_items.proofs.KindLaws.{items_once, ring_and_once}
use Rattle.gf_frame.specs.Loading.{Origin, HaveInputOnce}
use Rattle.gf_frame.specs.Readings.{Reading, AreReadOnce}
use Rattle.gf_frame.specs.Commands.{Writing, IsFixed, IsOfWriting}
use Rattle.gf_frame.proofs.CommandLaws.{IsLawful, as_told}
use Rattle.gf_frame.proofs.ReadingLaws.{one_once, more_once}
use Rattle.gf_frame.proofs.SoundLaws.{work_apart, writing_kind}
use Rattle.gfan_lists.specs.declared.bases.ListOptions.{ListOptions}
use Rattle.gfan_lists.specs.Ways.{Ways, ways_of, list_options}
use Rattle.gf_lists_theory.specs.BasesList.{AreAllBasesIn}
use Rattle.gfan_common.specs.Forms.{generators_of}
use Rattle.gfan_common.specs.Refused.{IsNamedBy}
use Rattle.gfan_lists.specs.Within.{of_region, IsNoRegion}
use Rattle.gfan_lists.specs.After.{Given, names_given, generators_given, reading_given, IsBasisGiven, with_none, reading_cut, IsRegionCut}
use Rattle.gfan_lists.specs.ListCommand.{Behind, AreSameNames, IsOtherNames, IsFront, reading_behind, ListValue, names_in, ideal_in, reading_list}
use Rattle.gfan_lists.specs.ListCommand.{list_sources, checks_for, checks_list, IsUnstartedFrom, IsUnstarted, IsEarlyCause, IsListCause, IsStartedWithin}
use Rattle.gfan_lists.specs.ListCommand.{IsListWithin, list_command, bases_command}
use Rattle.gfan_common.proofs.ReadSetLaws.{IsSetKept, one_kept, set_variables, set_kept, marked_kept}
use Rattle.gfan_common.proofs.ToolFormLaws.{each_check}
use Rattle.gfan_lists.proofs.WithinLaws.{region_work, no_region_same, no_region_there, region_numbers}
use Rattle.gfan_lists.proofs.AfterLaws.{names_check, cut_one}
use Rattle.gfan_lists.proofs.RootLaws.{IsGivenKept, unrooted_work, unrooted_unlisted, unrooted_refutes, unrooted_same, unrooted_within, unrooted_named}
use Rattle.gfan_lists.proofs.StartLaws.{going_list, full_list, going_behind_work, going_behind_untested, going_behind_within, start_work, start_unlisted}
use Rattle.gfan_lists.proofs.StartLaws.{start_refutes, start_same, start_within, start_named}

-- ---- what is read

given_read : (from_basis : Bool) → AreReadOnce (reading_given from_basis)
given_read false = one_once _ (ring_and_once a_set (vector_where false ∷ []))
given_read true = one_once _ (ring_and_once a_marked_set [])

behind_read : {A : Type 0} (after_basis : Bool) (others : Reading A) → AreReadOnce others → AreReadOnce (reading_behind after_basis others)
behind_read {A} false others rest = record {
  once = once;
  apart = λ texts a e h k n. rest.apart texts a.1 e h k n;
  same = λ texts e d h x k m. rest.same texts e d h x k m;
}
  where
    once : (texts : List (List ℕ)) (a b : Behind false × A) → others.IsRead texts a.1 → others.IsRead texts b.1 → b ≡ a
    once texts a b h k = let two : b.1 ≡ a.1 = rest.once texts a.1 b.1 h k in λ i. (tt, two i)
behind_read true others rest = more_once ring_marked_set (ring_and_once a_marked_set []) others rest

none_read : {A : Type 0} (others : Reading A) → AreReadOnce others → AreReadOnce (with_none others)
none_read {A} others rest = record {
  once = once;
  apart = λ texts a e h k n. rest.apart texts a.1 e h.1 k n;
  same = λ texts e d h x k m. rest.same texts e d h x k m;
}
  where
    once : (texts : List (List ℕ)) (a b : List (List ℤ) × A) → (with_none others).IsRead texts a → (with_none others).IsRead texts b → b ≡ a
    once texts a b h k =
        let one : b.0 ≡ a.0 = k.0 ∙ sym h.0 in
        let two : b.1 ≡ a.1 = rest.once texts a.1 b.1 h.1 k.1 in
        λ i. (one i, two i)

cut_read : {A : Type 0} (in_region : Bool) (others : Reading A) → AreReadOnce others → AreReadOnce (reading_cut in_region others)
cut_read false others rest = none_read others rest
cut_read true others rest = more_once vectors_alone (items_once vector_list [] []) others rest

pub list_read : (ways : Ways) → AreReadOnce (reading_list ways)
list_read ways =
    cut_read ways.in_region (reading_behind ways.after_basis (reading_given ways.from_basis))
    (behind_read ways.after_basis (reading_given ways.from_basis) (given_read ways.from_basis))

-- the set of the file of a basis has the variables of its ring
abbrev pub IsBehindKept : (after_basis : Bool) → Behind after_basis → Type 0
IsBehindKept false s = Unit {0}
IsBehindKept true s = IsSetKept (length s.0) s.1

-- what the texts say: so it is with the file of the basis, and the last of them says what is given
pub record IsListSaid (from_basis after_basis : Bool) (v : Behind after_basis × Given from_basis) : Type 0 where
  pub behind : IsBehindKept after_basis v.0
  pub source : List ℕ
  pub read : (reading_given from_basis).IsRead (source ∷ []) v.1

said_input : (from_basis : Bool) (texts : List (List ℕ)) (v : Given from_basis) → (reading_given from_basis).IsRead texts v →
    (source : List ℕ) × (reading_given from_basis).IsRead (source ∷ []) v
said_input false [] v h = absurd h
said_input false (t ∷ []) v h = (t, h)
said_input false (t ∷ (u ∷ us)) v h = absurd h
said_input true [] v h = absurd h
said_input true (t ∷ []) v h = (t, h)
said_input true (t ∷ (u ∷ us)) v h = absurd h

said_behind : (from_basis after_basis : Bool) (texts : List (List ℕ)) (v : Behind after_basis × Given from_basis) →
    (reading_behind after_basis (reading_given from_basis)).IsRead texts v → IsListSaid from_basis after_basis v
said_behind from_basis false texts v h =
    let s = said_input from_basis texts v.1 h in record { behind = tt; source = s.0; read = s.1 }
said_behind from_basis true [] v h = absurd h
said_behind from_basis true (t ∷ ts) v h =
    let s = said_input from_basis ts v.1 h.1 in
    record { behind = one_kept v.0.0 (from t h.0.read.behind) h.0.end v.0.1 h.0.read.two; source = s.0; read = s.1 }

said_cut : (from_basis in_region after_basis : Bool) (texts : List (List ℕ)) (v : List (List ℤ) × (Behind after_basis × Given from_basis)) →
    (reading_cut in_region (reading_behind after_basis (reading_given from_basis))).IsRead texts v → IsListSaid from_basis after_basis v.1
said_cut from_basis false after_basis texts v h = said_behind from_basis after_basis texts v.1 h.1
said_cut from_basis true after_basis [] v h = absurd h
said_cut from_basis true after_basis (t ∷ ts) v h = said_behind from_basis after_basis ts v.1 h.1

pub said_list : (ways : Ways) (texts : List (List ℕ)) (v : ListValue ways) → (reading_list ways).IsRead texts v →
    IsListSaid ways.from_basis ways.after_basis v.1
said_list ways texts v h = said_cut ways.from_basis ways.in_region ways.after_basis texts v h

pub said_kept : (from_basis : Bool) (source : List ℕ) (v : Given from_basis) → (reading_given from_basis).IsRead (source ∷ []) v → IsGivenKept from_basis v
said_kept false source v r = tt
said_kept true source v r = one_kept v.0 (from source r.read.behind) r.end v.1 r.read.two

-- what is given is in the variables of the ring
pub said_inside : (from_basis : Bool) (source : List ℕ) (v : Given from_basis) → (reading_given from_basis).IsRead (source ∷ []) v →
    AreInVariables (length (names_given from_basis v)) (generators_given from_basis v)
said_inside false source v r = ring_variables (length v.0) (generators_of v.1.0)
    (record { each = λ f c. (set_kept v.0 (from source r.read.behind) r.read.two.behind v.1.0 r.read.two.one f c).0 })
said_inside true source v r = subst (λ n. AreInVariables n (polys v.1.items)) r.read.two.variables
    (polys_variables v.1.variables v.1.items (marked_kept v.0 (from source r.read.behind) r.end v.1 r.read.two))

-- the rows of a region have their width
pub cut_rows : (n : ℕ) (rows : List (List ℤ)) (k : Region) → IsRegionOf n rows k → AreRows n rows
cut_rows n rows k i = subst (AreRows n) i.same i.region.widths

-- ---- the names of the rings

pub names_apart : (after_basis : Bool) (s : Behind after_basis) (names : List (List ℕ)) (r : Refusal) → AreSameNames after_basis s names →
    IsOtherNames after_basis s names r → ⊥
names_apart false s names r e h = h
names_apart true s names r e h = (names_check s.0 names).apart r e h

names_told : (after_basis : Bool) (s : Behind after_basis) (names : List (List ℕ)) (r d : Refusal) → IsOtherNames after_basis s names r →
    IsOtherNames after_basis s names d → TellsSame r d ⊎ IsOfNumbers d
names_told false s names r d h k = absurd h
names_told true s names r d h k = as_told r d (inl ((names_check s.0 names).once r d h k))

names_kind : {A : Type 0} (writing : Writing A) (after_basis : Bool) (s : Behind after_basis) (names : List (List ℕ)) (r : Refusal) →
    IsOtherNames after_basis s names r → IsOfWriting writing r
names_kind writing false s names r h = absurd h
names_kind writing true s names (refusals.OtherRing i) h = tt
names_kind writing true s names _ h = absurd h

-- ---- as the list is started in a region

module _ (ways : Ways) (k : Region) (v : Given ways.from_basis) (pairs : ℕ) where
  abbrev ring : List (List ℕ)
  ring = names_given ways.from_basis v

  abbrev ideal : List Terms
  ideal = generators_given ways.from_basis v

  unstarted_work : (after_basis : Bool) (s : Behind after_basis) (r : Refusal) → IsUnstartedFrom ways after_basis pairs k v s r → IsOfWork r
  unstarted_work false s r h = unrooted_work ways.from_basis ways.in_region v k pairs r h
  unstarted_work true s r h = start_work ways k v s.1 pairs r h

  pub unstarted_unlisted : (after_basis : Bool) (s : Behind after_basis) (r : Refusal) → IsUnstartedFrom ways after_basis pairs k v s r → (most : ℕ) →
      r ≡ refusals.ListLimit most → ⊥
  unstarted_unlisted false s r h most l = unrooted_unlisted ways.from_basis ways.in_region v k pairs r h most l
  unstarted_unlisted true s r h most l = start_unlisted ways k v s.1 pairs r h most l

  module _ (input : IsGivenKept ways.from_basis v) where
    unstarted_same : (after_basis : Bool) (s : Behind after_basis) (r d : Refusal) → IsBehindKept after_basis s →
        AreSameNames after_basis s ring → IsOfTest r → IsUnstartedFrom ways after_basis pairs k v s r → IsUnstartedFrom ways after_basis pairs k v s d →
        TellsSame r d ⊎ IsOfNumbers d
    unstarted_same false s r d kept e t h g = unrooted_same ways.from_basis ways.in_region v k pairs r d input t h g
    unstarted_same true s r d kept e t h g =
        start_same ways k v s.1 (kept.0 ∙ ap length e) (set_variables (length s.0) s.1 kept) input pairs r d t h g

    unstarted_refutes : (after_basis : Bool) (s : Behind after_basis) (front list : List MarkedPolynomials) (r : Refusal) → IsBehindKept after_basis s →
        AreSameNames after_basis s ring → IsOfTest r → IsUnstartedFrom ways after_basis pairs k v s r → IsBasisGiven ways.from_basis v →
        IsFront after_basis s k front → AreAllBasesIn (length ring) k ideal (front ++ list) → ⊥
    unstarted_refutes false s front list r kept e t h g f all = unrooted_refutes ways.from_basis ways.in_region v k pairs r input t h g
    unstarted_refutes true s front list r kept e t h g f all =
        start_refutes ways k v s.1 (kept.0 ∙ ap length e) (set_variables (length s.0) s.1 kept) input pairs f.0 f.1 list r t h f.2 g
        (subst (λ (l : List MarkedPolynomials). AreAllBasesIn (length ring) k ideal (l ++ list)) f.3 all)

    pub unstarted_within : (after_basis : Bool) (s : Behind after_basis) (r : Refusal) → IsBehindKept after_basis s →
        AreSameNames after_basis s ring → IsStartedWithin ways after_basis pairs k v s → IsUnstartedFrom ways after_basis pairs k v s r → r ≡ refusals.Memory
    unstarted_within false s r kept e w h = unrooted_within ways.from_basis ways.in_region v k pairs r input w h
    unstarted_within true s r kept e w h =
        start_within ways k v s.1 (kept.0 ∙ ap length e) (set_variables (length s.0) s.1 kept) input pairs r w h

    unstarted_named : (after_basis : Bool) (s : Behind after_basis) (r : Refusal) → IsBehindKept after_basis s → AreSameNames after_basis s ring →
        IsUnstartedFrom ways after_basis pairs k v s r → IsNamedBy (Some ring) r
    unstarted_named false s r kept e h = unrooted_named ways.from_basis ways.in_region v k pairs r input h
    unstarted_named true s r kept e h =
        start_named ways pairs k v s.1 r (subst (λ (names : List (List ℕ)). IsSetKept (length names) s.1) e kept) input h

    pub unstarted_told : (after_basis : Bool) (s : Behind after_basis) (r : Refusal) → IsBehindKept after_basis s →
        AreSameNames after_basis s ring → IsUnstartedFrom ways after_basis pairs k v s r ⊎ (r ≡ refusals.Memory) →
        IsNamedBy (Some ring) r
    unstarted_told after_basis s r kept e (inl h) = unstarted_named after_basis s r kept e h
    unstarted_told after_basis s r kept e (inr m) = subst (IsNamedBy (Some ring)) (sym m) (λ lent is. tt)

-- ---- the command

fixed_cause : (r : Refusal) → IsOfWork r → IsFixed r → IsOfTest r
fixed_cause r w (inl e) = absurd (work_apart r w e)
fixed_cause r w (inr t) = t

no_region_work : (n : ℕ) (rows : List (List ℤ)) (r : Refusal) → IsNoRegion n rows r → IsOfWork r
no_region_work n rows r (w, (e, h, q)) = subst IsOfWork (sym q) (region_work e)

no_region_numbers : (n : ℕ) (rows : List (List ℤ)) (k : Region) (r : Refusal) → IsRegionOf n rows k → IsNoRegion n rows r → IsOfNumbers r
no_region_numbers n rows k r p (w, (e, h, q)) = subst IsOfNumbers (sym q) (region_numbers n rows k e p h)

-- where there is a file of vectors, the region is that which they cut out
of_cut : (in_region : Bool) (n : ℕ) (rows : List (List ℤ)) (k : Region) → in_region ≡ true → IsRegionCut in_region n rows k → IsRegionOf n rows k
of_cut in_region n rows k e i = subst (λ c. IsRegionCut c n rows k) e i

module _ (ways : Ways) (o : ListOptions) (v : ListValue ways) where
  abbrev n : ℕ
  n = length (names_in ways v)

  abbrev fs : List Terms
  fs = ideal_in ways v

  cause_kind : (sources : List Origin) (r : Refusal) → IsListCause ways o v r → IsOfWriting (list_command ways sources o).writing r
  cause_kind sources r (IsListCause.early (IsEarlyCause.at_region c h)) = writing_kind (list_command ways sources o).writing r
      (no_region_work n v.0 r h) (λ most e. tt)
  cause_kind sources r (IsListCause.early (IsEarlyCause.at_names k c i h)) =
      names_kind (list_command ways sources o).writing ways.after_basis v.1.0 (names_in ways v) r h
  cause_kind sources r (IsListCause.early (IsEarlyCause.at_start k i e h)) = writing_kind (list_command ways sources o).writing r
      (unstarted_work ways k v.1.1 o.pairs ways.after_basis v.1.0 r h) (λ most x. tt)
  cause_kind sources r (IsListCause.going k front i e g t h) = writing_kind (list_command ways sources o).writing r
      (going_behind_work front o n k fs r h) (λ most x. tt)

  module _ (said : IsListSaid ways.from_basis ways.after_basis v.1) where
    input : IsGivenKept ways.from_basis v.1.1
    input = said_kept ways.from_basis said.source v.1.1 said.read

    no_region_fixed : (r : Refusal) → IsFixed r → IsNoRegion n v.0 r → IsOfTest r
    no_region_fixed r f h = fixed_cause r (no_region_work n v.0 r h) f

    start_fixed : (k : Region) (r : Refusal) → IsFixed r → IsUnstarted ways o.pairs k v.1.1 v.1.0 r → IsOfTest r
    start_fixed k r f h = fixed_cause r (unstarted_work ways k v.1.1 o.pairs ways.after_basis v.1.0 r h) f

    moved : (k j : Region) (r : Refusal) → IsRegionCut ways.in_region n v.0 k → IsRegionCut ways.in_region n v.0 j →
        IsUnstarted ways o.pairs j v.1.1 v.1.0 r → IsUnstarted ways o.pairs k v.1.1 v.1.0 r
    moved k j r i m h = subst (λ (z : Region). IsUnstarted ways o.pairs z v.1.1 v.1.0 r) (sym (cut_one ways.in_region n v.0 k j i m)) h

    early_same : (r d : Refusal) → IsFixed r → IsEarlyCause ways o v r → IsEarlyCause ways o v d → TellsSame r d ⊎ IsOfNumbers d
    early_same r d f (IsEarlyCause.at_region c h) (IsEarlyCause.at_region a g) = no_region_same n v.0 r d (no_region_fixed r f h) h g
    early_same r d f (IsEarlyCause.at_region c h) (IsEarlyCause.at_names k a i g) = absurd (no_region_there n v.0 k r (no_region_fixed r f h) h i)
    early_same r d f (IsEarlyCause.at_region c h) (IsEarlyCause.at_start k i e g) =
        absurd (no_region_there n v.0 k r (no_region_fixed r f h) h (of_cut ways.in_region n v.0 k c i))
    early_same r d f (IsEarlyCause.at_names k c i h) (IsEarlyCause.at_region a g) = inr (no_region_numbers n v.0 k d i g)
    early_same r d f (IsEarlyCause.at_names k c i h) (IsEarlyCause.at_names j a m g) = names_told ways.after_basis v.1.0 (names_in ways v) r d h g
    early_same r d f (IsEarlyCause.at_names k c i h) (IsEarlyCause.at_start j m e g) =
        absurd (names_apart ways.after_basis v.1.0 (names_in ways v) r e h)
    early_same r d f (IsEarlyCause.at_start k i e h) (IsEarlyCause.at_region a g) = inr (no_region_numbers n v.0 k d (of_cut ways.in_region n v.0 k a i) g)
    early_same r d f (IsEarlyCause.at_start k i e h) (IsEarlyCause.at_names j a m g) =
        absurd (names_apart ways.after_basis v.1.0 (names_in ways v) d e g)
    early_same r d f (IsEarlyCause.at_start k i e h) (IsEarlyCause.at_start j m w g) =
        unstarted_same ways k v.1.1 o.pairs input ways.after_basis v.1.0 r d said.behind e (start_fixed k r f h) h (moved k j d i m g)

    early_refutes : (k : Region) (front list : List MarkedPolynomials) (r : Refusal) → IsFixed r → IsEarlyCause ways o v r →
        IsRegionCut ways.in_region n v.0 k → AreSameNames ways.after_basis v.1.0 (names_in ways v) → IsBasisGiven ways.from_basis v.1.1 →
        IsFront ways.after_basis v.1.0 k front → AreAllBasesIn n k fs (front ++ list) → ⊥
    early_refutes k front list r f (IsEarlyCause.at_region c h) i e g t all =
        no_region_there n v.0 k r (no_region_fixed r f h) h (of_cut ways.in_region n v.0 k c i)
    early_refutes k front list r f (IsEarlyCause.at_names j c m h) i e g t all = names_apart ways.after_basis v.1.0 (names_in ways v) r e h
    early_refutes k front list r f (IsEarlyCause.at_start j m w h) i e g t all =
        unstarted_refutes ways k v.1.1 o.pairs input ways.after_basis v.1.0 front list r said.behind e (start_fixed j r f h) (moved k j r i m h) g t all

    cause_same : (r d : Refusal) → IsFixed r → IsListCause ways o v r → IsListCause ways o v d → TellsSame r d ⊎ IsOfNumbers d
    cause_same r d f (IsListCause.early h) (IsListCause.early g) = early_same r d f h g
    cause_same r d f (IsListCause.early h) (IsListCause.going k front i e g t c) =
        let all = going_list front o n k fs d c in
        absurd (early_refutes k front all.0 r f h i e g t all.1)
    cause_same r d f (IsListCause.going k front i e g t c) l =
        absurd (going_behind_untested front o n k fs r (fixed_cause r (going_behind_work front o n k fs r c) f) c)

    cause_refutes : (k : Region) (front list : List MarkedPolynomials) (r : Refusal) → IsFixed r → IsListCause ways o v r →
        IsRegionCut ways.in_region n v.0 k → AreSameNames ways.after_basis v.1.0 (names_in ways v) → IsBasisGiven ways.from_basis v.1.1 →
        IsFront ways.after_basis v.1.0 k front → AreAllBasesIn n k fs (front ++ list) → ⊥
    cause_refutes k front list r f (IsListCause.early h) i e g t all = early_refutes k front list r f h i e g t all
    cause_refutes k front list r f (IsListCause.going j before m w a b c) i e g t all =
        going_behind_untested before o n j fs r (fixed_cause r (going_behind_work before o n j fs r c) f) c

    cause_within : (r : Refusal) → IsListWithin ways o v → IsListCause ways o v r → r ≡ refusals.Memory
    cause_within r w (IsListCause.early (IsEarlyCause.at_region c (x, (e, h, q)))) = q ∙ ap of_region (w.region c e h)
    cause_within r w (IsListCause.early (IsEarlyCause.at_names k c i h)) =
        absurd (names_apart ways.after_basis v.1.0 (names_in ways v) r w.names h)
    cause_within r w (IsListCause.early (IsEarlyCause.at_start k i e h)) =
        unstarted_within ways k v.1.1 o.pairs input ways.after_basis v.1.0 r said.behind e (w.list k i).start h
    cause_within r w (IsListCause.going k front i e g t c) =
        going_behind_within front o n k fs r (w.list k i).tree (λ list all. (w.list k i).few front list t all) (w.list k i).certificates c

sources_once : (within after : Option (List ℕ)) → HaveInputOnce (list_sources within after)
sources_once None None = λ h. h
sources_once None (Some name) = λ h. h
sources_once (Some name) None = λ h. h
sources_once (Some name) (Some other) = λ h. h

checked_for : (in_region after_basis : Bool) (rows : List (List ℤ)) (s : Behind after_basis) (names : List (List ℕ)) →
    AreCheckedOnce (checks_for in_region after_basis rows s names)
checked_for true after_basis rows s names = each_check (length names) rows
checked_for false true rows s names = (names_check s.0 names, tt)
checked_for false false rows s names = tt

pub checked_list : (ways : Ways) (v : ListValue ways) → AreCheckedOnce (checks_list ways v)
checked_list ways v = checked_for ways.in_region ways.after_basis v.0 v.1.0 (names_in ways v)

list_lawful : (ways : Ways) (within after : Option (List ℕ)) (o : ListOptions) → IsLawful (list_command ways (list_sources within after) o)
list_lawful ways within after o = record {
  input = sources_once within after;
  reading = list_read ways;
  checks = λ texts v h. checked_list ways v;
  work = λ texts v r h w. cause_kind ways o v (list_sources within after) r w;
  within = λ texts v r h w k. cause_within ways o v (said_list ways texts v h) r w k;
  tests = λ texts v r d h f w k. cause_same ways o v (said_list ways texts v h) r d f w k;
  answers = λ texts v r text h f w a. cause_refutes ways o v (said_list ways texts v h) a.0 a.4.0 a.4.2.list r f w a.1 a.2 a.3 a.4.1 a.4.2.are_all;
  wholes = λ texts v r text h f w a.
      let all = full_list a.4.0 o (names_in ways v) a.0 (ideal_in ways v) text a.4.2 in
      cause_refutes ways o v (said_list ways texts v h) a.0 a.4.0 all.0 r f w a.1 a.2 a.3 a.4.1 all.1;
  turns = tt;
  apart = λ t. absurd t;
}

pub bases_lawful : (o : BasesOptions) → IsLawful (bases_command o)
bases_lawful o = list_lawful (ways_of o) o.within o.after (list_options o)
