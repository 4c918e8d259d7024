-- What `_bases` does with its texts: how it is read, refused, written and stopped.
-- To cite: cut_same, found_same, found_kept, read_texts, file_refused, found_refused, input_refused; unbegun_stopped, unbegun_told, memory_stopped;
-- formed_list, start_stopped, list_done, list_stopped. The rest are steps.
use Rattle.std.specs.Prelude.{◌≡◌, ◌⊎◌, ℕ, Bool, true, false, List, [], ◌∷◌, length, Option, Some, None, is_some, ℤ}
use Rattle.std.specs.Borrow.{Bor}
use Rattle.std.specs.Option.{option_copied}
use Rattle.std.proofs.Common.{refl, sym, ◌∙◌, subst, inl, inr}
use Rattle.std.proofs.lemmas.Bool.{false≢true}
use Rattle.gf_poly.specs.Marking.{MarkedPolynomials}
use Rattle.gf_facets_theory.specs.Regions.{Region}
use Rattle.gf_text.specs.declared.error.TextError.{TextError}
use Rattle.gf_front.specs.declared.refusal.Refusal.{Refusal}
use Rattle.gf_front.specs.declared.refusal.Refusal.TheVariants as refusals
use Rattle.gf_items.specs.Checks.{AllHold}
use Rattle.gf_items.specs.Items.{from}
use Rattle.gf_items.specs.Refusals.{of_text}
use Rattle.gf_items.specs.declared.sources.RingAndMarked.{RingAndMarked}
use Rattle.gf_frame.specs.Seen.{output_seen}
use Rattle.gf_frame.specs.Loading.{Origin}
use Rattle.gf_frame.specs.Commands.{Command, IsRefusedOn, IsRefusedAtStart}
use Rattle.gf_frame.specs.Runs.{IsDoneOn, IsStoppedOn}
use Rattle.gf_frame.proofs.WorkLaws.{nothing_but_limit, text_stopped}
use Rattle.gfan_lists.specs.declared.bases.ListOptions.{ListOptions}
use Rattle.gfan_lists.specs.BasesWriting.{IsListWrittenBehind, IsListStoppedBehind}
use Rattle.gfan_lists.specs.Bases.{IsGoingCauseBehind}
use Rattle.gfan_common.specs.Performed.{IsStoppedFor}
use Rattle.gfan_common.specs.Refused.{without_names, IsNamedBy, IsOfSource}
use Rattle.gfan_lists.specs.Ways.{Ways, ways_by}
use Rattle.gfan_lists.specs.After.{IsOtherRing, Given, names_given, reading_given, IsBasisGiven, IsRegionCut, IsOfCutFile, IsCutFileRefused}
use Rattle.gfan_lists.specs.ListCommand.{Behind, AreSameNames, IsOtherNames, IsFront, ListValue, names_in, ideal_in, reading_list, list_texts, checks_for}
use Rattle.gfan_lists.specs.ListCommand.{checks_list, IsUnstarted, IsEarlyCause, IsListCause, list_command, IsUnbegun}
use Rattle.gfan_lists.specs.Asked.{behind_by, IsOfBasisFile, IsBasisFileRefused}
use Rattle.gfan_common.proofs.PerformedLaws.{performed_on, stopped_on}
use Rattle.gfan_common.proofs.ReadSetLaws.{one_kept}
use Rattle.gfan_common.proofs.RefusedLaws.{of_source}
use Rattle.gfan_lists.proofs.WithinLaws.{stopped_in_form, stopped_in_work, form_unlisted, region_unlisted, region_told, rows_hold}
use Rattle.gfan_lists.proofs.ListCommandLaws.{IsBehindKept, unstarted_unlisted, cut_rows}
use Rattle.gfan_lists.proofs.StoppedLaws.{stopped_for}

-- ---- how it is read

-- whether there is a file of vectors
pub cut_same : (file : Option (Bor (List ℕ))) → is_some file ≡ is_some (option_copied file)
cut_same None = refl
cut_same (Some f) = refl

-- whether there is a file of a basis
pub found_same : (file : Option (Bor (List ℕ))) (found : Option RingAndMarked) → IsOfBasisFile file found → is_some found ≡ is_some (option_copied file)
found_same None None h = refl
found_same None (Some a) h = absurd h
found_same (Some f) None h = absurd h
found_same (Some f) (Some a) h = refl

pub found_kept : (file : Option (Bor (List ℕ))) (found : Option RingAndMarked) → IsOfBasisFile file found → IsBehindKept (is_some found) (behind_by found)
found_kept None None h = tt
found_kept None (Some a) h = absurd h
found_kept (Some f) None h = absurd h
found_kept (Some f) (Some a) h = one_kept a.ring (from f.now h.read.behind) h.end a.set h.read.two

module _ (from_basis : Bool) (source : List ℕ) where
  -- the texts are read
  pub read_texts : (file after : Option (Bor (List ℕ))) (found : Option RingAndMarked) (rows : List (List ℤ)) (v : Given from_basis) →
      IsOfCutFile file rows → IsOfBasisFile after found → (reading_given from_basis).IsRead (source ∷ []) v →
      (reading_list (ways_by from_basis (is_some (option_copied file)) (is_some found))).IsRead
      (list_texts (option_copied file) (option_copied after) source) (rows, (behind_by found, v))
  read_texts None None None rows v h x r = (h, r)
  read_texts None None (Some a) rows v h x r = absurd x
  read_texts None (Some g) None rows v h x r = absurd x
  read_texts None (Some g) (Some a) rows v h x r = (h, (x, r))
  read_texts (Some f) None None rows v h x r = (h, r)
  read_texts (Some f) None (Some a) rows v h x r = absurd x
  read_texts (Some f) (Some g) None rows v h x r = absurd x
  read_texts (Some f) (Some g) (Some a) rows v h x r = (h, (x, r))

  module _ (sources : List Origin) (o : ListOptions) (held : Option (List ℕ)) (n : ℕ) where
    -- a text isn't
    refused : (ways : Ways) (texts : List (List ℕ)) (e : TextError) (r : Refusal) → (reading_list ways).IsRefused texts e → r ≡ of_text e →
        IsStoppedOn (list_command ways sources o) texts (output_seen held n) (output_seen held n) r
    refused ways texts e r h q =
        subst (λ z. IsStoppedOn (list_command ways sources o) texts (output_seen held n) (output_seen held n) z) (sym q)
        (text_stopped (list_command ways sources o) texts (output_seen held n) e h)

    -- that of the vectors
    pub file_refused : (file after : Option (Bor (List ℕ))) (r : Refusal) → IsCutFileRefused file r →
        IsStoppedOn (list_command (ways_by from_basis (is_some (option_copied file)) (is_some (option_copied after))) sources o)
        (list_texts (option_copied file) (option_copied after) source) (output_seen held n) (output_seen held n) r
    file_refused None after r h = absurd h
    file_refused (Some f) after r (e, h, q) =
        refused (ways_by from_basis true (is_some (option_copied after))) (list_texts (Some f.now) (option_copied after) source) e r (inl h) q

    -- that of the basis
    pub found_refused : (file after : Option (Bor (List ℕ))) (rows : List (List ℤ)) (r : Refusal) → IsOfCutFile file rows → IsBasisFileRefused after r →
        IsStoppedOn (list_command (ways_by from_basis (is_some (option_copied file)) (is_some (option_copied after))) sources o)
        (list_texts (option_copied file) (option_copied after) source) (output_seen held n) (output_seen held n) r
    found_refused file None rows r h x = absurd x
    found_refused None (Some g) rows r h (e, x, q) = refused (ways_by from_basis false true) (g.now ∷ (source ∷ [])) e r (inl x) q
    found_refused (Some f) (Some g) rows r h (e, x, q) = refused (ways_by from_basis true true) (f.now ∷ (g.now ∷ (source ∷ []))) e r (inr (rows, h, inl x)) q

    -- the input
    pub input_refused : (file after : Option (Bor (List ℕ))) (found : Option RingAndMarked) (rows : List (List ℤ)) (e : TextError) (r : Refusal) →
        IsOfCutFile file rows → IsOfBasisFile after found → (reading_given from_basis).IsRefused (source ∷ []) e → r ≡ of_text e →
        IsStoppedOn (list_command (ways_by from_basis (is_some (option_copied file)) (is_some (option_copied after))) sources o)
        (list_texts (option_copied file) (option_copied after) source) (output_seen held n) (output_seen held n) r
    input_refused None None found rows e r h x k q = refused (ways_by from_basis false false) (source ∷ []) e r k q
    input_refused None (Some g) None rows e r h x k q = absurd x
    input_refused None (Some g) (Some a) rows e r h x k q = refused (ways_by from_basis false true) (g.now ∷ (source ∷ [])) e r (inr ((a.ring, a.set), x, k)) q
    input_refused (Some f) None found rows e r h x k q = refused (ways_by from_basis true false) (f.now ∷ (source ∷ [])) e r (inr (rows, h, k)) q
    input_refused (Some f) (Some g) None rows e r h x k q = absurd x
    input_refused (Some f) (Some g) (Some a) rows e r h x k q =
        refused (ways_by from_basis true true) (f.now ∷ (g.now ∷ (source ∷ []))) e r (inr (rows, h, inr ((a.ring, a.set), x, k))) q

-- ---- behind its texts

names_unlisted : (after_basis : Bool) (s : Behind after_basis) (names : List (List ℕ)) (r : Refusal) → IsOtherNames after_basis s names r → (most : ℕ) →
    r ≡ refusals.ListLimit most → ⊥
names_unlisted false s names r x most l = x
names_unlisted true s names r x most l = subst (IsOtherRing s.0 names) l x

memory_unlisted : (r : Refusal) → r ≡ refusals.Memory → (most : ℕ) → r ≡ refusals.ListLimit most → ⊥
memory_unlisted r m most l = no_limit (sym m ∙ l)
  where
    no_limit : refusals.Memory ≡ refusals.ListLimit most → ⊥
    no_limit q = cc

pub memory_stopped : (c : Command) (texts : List (List ℕ)) (held : Option (List ℕ)) (n : ℕ) (r : Refusal) → r ≡ refusals.Memory →
    IsStoppedOn c texts (output_seen held n) (output_seen held n) r
memory_stopped c texts held n r m = IsStoppedOn.in_work (IsRefusedOn.no_memory m)
    (nothing_but_limit c texts (output_seen held n) r (memory_unlisted r m) (IsRefusedAtStart.no_memory m)) refl

-- its checks hold where there is a region, and the names are equal
formed_for : (in_region after_basis : Bool) (rows : List (List ℤ)) (s : Behind after_basis) (names : List (List ℕ)) (k : Region) →
    IsRegionCut in_region (length names) rows k → AreSameNames after_basis s names → AllHold (checks_for in_region after_basis rows s names)
formed_for true after_basis rows s names k i e = rows_hold (length names) rows (cut_rows (length names) rows k i)
formed_for false true rows s names k i e = (e, tt)
formed_for false false rows s names k i e = tt

pub formed_list : (ways : Ways) (v : ListValue ways) (k : Region) → IsRegionCut ways.in_region (length (names_in ways v)) v.0 k →
    AreSameNames ways.after_basis v.1.0 (names_in ways v) → AllHold (checks_list ways v)
formed_list ways v k i e = formed_for ways.in_region ways.after_basis v.0 v.1.0 (names_in ways v) k i e

-- there is no region, or the names are others
module _ (from_basis : Bool) (sources : List Origin) (o : ListOptions) (texts : List (List ℕ)) (held : Option (List ℕ)) (n : ℕ) (r : Refusal) where
  pub unbegun_stopped : (in_region after_basis : Bool) (v : ListValue (ways_by from_basis in_region after_basis)) →
      (reading_list (ways_by from_basis in_region after_basis)).IsRead texts v →
      IsUnbegun in_region after_basis (length (names_given from_basis v.1.1)) v.0 v.1.0 (names_given from_basis v.1.1) r →
      IsStoppedOn (list_command (ways_by from_basis in_region after_basis) sources o) texts (output_seen held n) (output_seen held n) r
  unbegun_stopped in_region after_basis v read (inr (inr m)) =
      memory_stopped (list_command (ways_by from_basis in_region after_basis) sources o) texts held n r m
  unbegun_stopped false after_basis v read (inl (c, h)) = absurd (false≢true c)
  unbegun_stopped true after_basis v read (inl (c, inl f)) =
      stopped_in_form (list_command (ways_by from_basis true after_basis) sources o) texts v read held n r
      (form_unlisted (length (names_given from_basis v.1.1)) v.0 r f) f
  unbegun_stopped true after_basis v read (inl (c, inr h)) =
      stopped_in_work (list_command (ways_by from_basis true after_basis) sources o) texts v read held n r
      (region_unlisted (length (names_given from_basis v.1.1)) v.0 r h) (rows_hold (length (names_given from_basis v.1.1)) v.0 h.0)
      (IsListCause.early (IsEarlyCause.at_region refl h)) (IsEarlyCause.at_region refl h)
  unbegun_stopped false false v read (inr (inl (k, i, x))) = absurd x
  unbegun_stopped false true v read (inr (inl (k, i, x))) =
      stopped_in_form (list_command (ways_by from_basis false true) sources o) texts v read held n r
      (names_unlisted true v.1.0 (names_given from_basis v.1.1) r x) (inl x)
  unbegun_stopped true after_basis v read (inr (inl (k, i, x))) =
      stopped_in_work (list_command (ways_by from_basis true after_basis) sources o) texts v read held n r
      (names_unlisted after_basis v.1.0 (names_given from_basis v.1.1) r x)
      (rows_hold (length (names_given from_basis v.1.1)) v.0 (cut_rows (length (names_given from_basis v.1.1)) v.0 k i))
      (IsListCause.early (IsEarlyCause.at_names k refl i x)) (IsEarlyCause.at_names k refl i x)

other_named : (after_basis : Bool) (s : Behind after_basis) (names : List (List ℕ)) (r : Refusal) → IsOtherNames after_basis s names r → IsNamedBy None r
other_named false s names r h = absurd h
other_named true s names (refusals.OtherRing i) h = λ lent is. tt
other_named true s names _ h = absurd h

pub unbegun_told : (source : List ℕ) (in_region after_basis : Bool) (n : ℕ) (rows : List (List ℤ)) (s : Behind after_basis) (names : List (List ℕ))
    (r : Refusal) → IsUnbegun in_region after_basis n rows s names r → IsOfSource source (without_names r)
unbegun_told source in_region after_basis n rows s names r (inl (c, h)) = region_told source n rows r h
unbegun_told source in_region after_basis n rows s names r (inr (inl (k, i, x))) = of_source source r (other_named after_basis s names r x)
unbegun_told source in_region after_basis n rows s names r (inr (inr m)) = of_source source r (subst (IsNamedBy None) (sym m) (λ lent is. tt))

module _ (ways : Ways) (sources : List Origin) (o : ListOptions) (texts : List (List ℕ)) (v : ListValue ways) (read : (reading_list ways).IsRead texts v)
    (k : Region) (i : IsRegionCut ways.in_region (length (names_in ways v)) v.0 k) (e : AreSameNames ways.after_basis v.1.0 (names_in ways v)) where
  -- the list isn't started
  pub start_stopped : (held : Option (List ℕ)) (n : ℕ) (r : Refusal) → IsUnstarted ways o.pairs k v.1.1 v.1.0 r ⊎ (r ≡ refusals.Memory) →
      IsStoppedOn (list_command ways sources o) texts (output_seen held n) (output_seen held n) r
  start_stopped held n r (inl h) =
      stopped_in_work (list_command ways sources o) texts v read held n r
      (unstarted_unlisted ways k v.1.1 o.pairs ways.after_basis v.1.0 r h) (formed_list ways v k i e)
      (IsListCause.early (IsEarlyCause.at_start k i e h)) (IsEarlyCause.at_start k i e h)
  start_stopped held n r (inr m) = memory_stopped (list_command ways sources o) texts held n r m

  module _ (g : IsBasisGiven ways.from_basis v.1.1) (front : List MarkedPolynomials) (t : IsFront ways.after_basis v.1.0 k front) (held holds : Option (List ℕ))
      (n m : ℕ) where
    -- it is written
    pub list_done : IsListWrittenBehind front o (names_in ways v) k (ideal_in ways v) held holds → m ≡ n →
        IsDoneOn (list_command ways sources o) texts (output_seen held n) (output_seen holds m)
    list_done p calm =
        performed_on (list_command ways sources o) texts v read (formed_list ways v k i e) held holds n m (λ x. x)
        (p.0, (k, i, e, g, (front, t, p.1)), p.2) calm

    cause_behind : (r : Refusal) → IsGoingCauseBehind front o (length (names_in ways v)) k (ideal_in ways v) r → IsListCause ways o v r
    cause_behind r c = IsListCause.going k front i e g t c

    stopped_list : (r : Refusal) → IsListStoppedBehind front o (names_in ways v) k (ideal_in ways v) held holds n m r →
        IsStoppedFor (list_command ways sources o) v held holds n m r
    stopped_list r h =
        stopped_for (list_command ways sources o) v front o (names_in ways v) k (ideal_in ways v) held holds n m
        (λ text x. (k, i, e, g, (front, t, x))) (λ text d x. (k, i, e, g, (front, t, x))) cause_behind r h

    -- or stopped
    pub list_stopped : (r : Refusal) → IsListStoppedBehind front o (names_in ways v) k (ideal_in ways v) held holds n m r →
        ((r ≡ refusals.WriteFault → ⊥) → m ≡ n) → IsStoppedOn (list_command ways sources o) texts (output_seen held n) (output_seen holds m) r
    list_stopped r h calm =
        stopped_on (list_command ways sources o) texts v read (formed_list ways v k i e) held holds n m r (stopped_list r h) calm
