-- If each polynomial is written as a monomial or as the difference of two, without numbers, no coefficient of `_bases` overflows.
-- To cite: search_never, list_never. The rest are steps.
use Rattle.std.specs.Prelude.{◌≡◌, ℕ, Bool, true, false, List, [], ◌∷◌, length, map, Contains, Option, None, Some, is_some, ℤ}
use Rattle.std.proofs.Common.{subst, inl, inr}
use Rattle.std.proofs.lemmas.List.Sorted.{Contains-permutation, IsPermutation-sym}
use Rattle.gf_frac.specs.declared.refusal.Overflow.{Overflow}
use Rattle.gf_exponents_theory.specs.SixOrders.{MonomialOrder}
use Rattle.gf_poly.specs.declared.error.PolyError.{PolyError}
use Rattle.gf_poly.specs.declared.error.PolyError.TheVariants as errors
use Rattle.gf_poly.specs.Polynomial.{Terms}
use Rattle.gf_poly.specs.Marking.{MarkedPolynomial, MarkedPolynomials, polys}
use Rattle.gf_ideal_theory.specs.Membership.{AreInVariables}
use Rattle.gf_ideal_theory.proofs.PieceLaws.{Contains-marked}
use Rattle.gf_text.specs.declared.error.TextError.TheVariants as text_errors
use Rattle.gf_reduced.specs.declared.error.CheckError.TheVariants as check_errors
use Rattle.gf_division.specs.Autoreduction.{IsAutoreductionRefusal}
use Rattle.gf_reduced.specs.Forms.{monic_of}
use Rattle.gf_reduced.specs.Refusals.{of_poly, IsReducedBasisRefusal, IsReducedRefusalBeside}
use Rattle.gf_reduced.proofs.GroebnerLaws.{polys_variables}
use Rattle.gfan_lists.specs.TreeError.{TreeError}
use Rattle.gfan_lists.specs.TreeError.TheVariants as tree_errors
use Rattle.gf_facets_theory.specs.Regions.{Region}
use Rattle.gfan_lists.specs.Ideals.{ideal_by, ideal_within}
use Rattle.gfan_lists.specs.Refusals.{IsTreeRefusal}
use Rattle.gfan_lists.proofs.BasisRowLaws.{early_refused}
use Rattle.gf_binomials_theory.specs.Binomials.{IsBinomial, AreBinomials, AreMarkedBinomials}
use Rattle.gf_binomial_bases_theory.proofs.LawsHold.{bases_of_binomials}
use Rattle.gfan_fans.specs.Sets.{IsBinomialSet}
use Rattle.gfan_fans.proofs.CheckLaws.{member_fits, polys_binomial, forms_binomial, pairs_fit}
use Rattle.gfan_fans.proofs.LawsHold.{refusals_tell_no_overflow}
use Rattle.gf_front.specs.declared.options.BasesOptions.{BasesOptions}
use Rattle.gf_front.specs.declared.refusal.Refusal.TheVariants as refusals
use Rattle.gf_items.specs.Items.{IsTextRefused}
use Rattle.gf_items.specs.Sources.{vectors_alone}
use Rattle.gf_items.specs.Checks.{FirstFails}
use Rattle.gf_frame.specs.Commands.{IsUnanswered, IsRefusedOn}
use Rattle.gfan_lists.specs.declared.bases.ListOptions.{ListOptions}
use Rattle.gfan_common.specs.Forms.{generators_of}
use Rattle.gfan_common.specs.Causes.{of_tree}
use Rattle.gfan_lists.specs.Starts.{StartsIn}
use Rattle.gfan_common.specs.CheckedSets.{of_check, IsSomeReductionRefusal}
use Rattle.gfan_lists.specs.After.{IsBasisTaken, IsUnlisted, Given, names_given, generators_given, reading_given, IsUnrooted, IsStartRefused}
use Rattle.gfan_lists.specs.Bases.{IsSearchRefusedBehind, IsGoingCauseBehind}
use Rattle.gfan_lists.specs.GivenBasis.{IsReducedFrom, IsReducingRefusal, IsGivenRootRefusal}
use Rattle.gf_exponents_theory.specs.Orders.{gains}
use Rattle.gf_weights.specs.declared.region.RegionError.{RegionError}
use Rattle.gf_weights.specs.declared.region.RegionError.TheVariants as region_errors
use Rattle.gfan_common.specs.ToolForms.{for_each}
use Rattle.gfan_lists.specs.Within.{of_region, IsGivenRegionRootRefusal}
use Rattle.gfan_plain_theory.specs.PlainInputs.{IsPlainFrom}
use Rattle.gfan_lists.proofs.BasesListLaws.{given_node}
use Rattle.gfan_lists.proofs.GivenBasisLaws.{way_in_tree}
use Rattle.gfan_plain_theory.proofs.PlainReadLaws.{tells_text, no_weight, basis_never, tree_never, check_never, poly_never, set_binomials, marked_binomials}
use Rattle.gfan_plain_theory.proofs.PlainReadLaws.{set_text_never}
use Rattle.gfan_plain_theory.proofs.PlainReadLaws.{marked_text_never}
use Rattle.gfan_lists.specs.Ways.{Ways, ways_by, ways_of, list_options}
use Rattle.gfan_lists.specs.ListCommand.{Behind, IsOtherNames, reading_behind, ListValue, names_in, ideal_in, reading_list, checks_for, IsUnstartedFrom}
use Rattle.gfan_lists.specs.ListCommand.{IsEarlyCause, IsListCause, bases_command}
use Rattle.gfan_plain_theory.specs.PlainInputs.{IsPlainSource, ArePlainBehind}

-- ---- runs and searches

pub search_never : (before : List MarkedPolynomials) (o : ListOptions) (n : ℕ) (k : Region) (fs : List Terms) (e : TreeError) (x : Overflow) →
    ((o : Overflow) (pairs : ℕ) → IsTreeRefusal (ideal_within n fs k) pairs (tree_errors.Overflow o) → ⊥) → IsSearchRefusedBehind before o n k fs e →
    refusals.Overflow x ≡ of_tree e → ⊥
search_never before o n k fs e x never h q = tree_never (ideal_within n fs k) o.pairs e x (λ y. never y o.pairs)
    (early_refused (ideal_within n fs k) o.pairs h.rest e h.early) q

going_never : (before : List MarkedPolynomials) (o : ListOptions) (n : ℕ) (k : Region) (fs : List Terms) (x : Overflow) →
    ((o : Overflow) (pairs : ℕ) → IsTreeRefusal (ideal_within n fs k) pairs (tree_errors.Overflow o) → ⊥) →
    IsGoingCauseBehind before o n k fs (refusals.Overflow x) → ⊥
going_never before o n k fs x never (IsGoingCauseBehind.in_tree e h q) = search_never before o n k fs e x never h q
going_never before o n k fs x never (IsGoingCauseBehind.at_limit most h q) = cc
going_never before o n k fs x never (IsGoingCauseBehind.at_certificates c) = no_weight c.uncertified.0 x c.uncertified.2

-- the polynomials of the reduced basis are such differences
reduced_binomials : (s u : MarkedPolynomials) → IsBinomialSet s → IsReducedFrom s u → AreBinomials (polys u.items)
reduced_binomials s u b f g c = at (Contains-marked u.items g c)
  where
    inside : AreInVariables s.variables (polys s.items)
    inside = polys_variables s.variables s.items b.variables

    two : AreMarkedBinomials (Contains u.items)
    two = bases_of_binomials s.variables (polys s.items) u.items inside (polys_binomial s b)
        (given_node s.variables (polys s.items) u inside f.given).basis.reduced

    at : ((p : MarkedPolynomial) × Contains u.items p × (p.poly ≡ g)) → IsBinomial g
    at p = subst IsBinomial p.2 (record { first = Some p.0.head; second = (two p.0 p.1).tail; binomial = (two p.0 p.1).binomial })

-- ---- a region

region_never : (e : RegionError) (x : Overflow) → refusals.Overflow x ≡ of_region e → ⊥
region_never (region_errors.Empty ms) x q = cc
region_never (region_errors.WideRoot i y) x q = cc
region_never (region_errors.Cone s) x q = cc
region_never (region_errors.Wide w) x q = cc
region_never region_errors.Memory x q = cc

lengths_never : (n : ℕ) (rows : List (List ℤ)) (x : Overflow) → FirstFails (for_each n rows) (refusals.Overflow x) → ⊥
lengths_never n [] x h = h
lengths_never n (w ∷ ws) x (inl h) = h
lengths_never n (w ∷ ws) x (inr (k, h)) = lengths_never n ws x h

vectors_never : (file : List ℕ) (o : Overflow) → IsTextRefused vectors_alone file (text_errors.Overflow o) → ⊥
vectors_never file o (IsTextRefused.in_items h) = h
vectors_never file o (IsTextRefused.behind_items end a s r m q) = cc

-- ---- behind a basis

some_check_never : (rows : List (List ℤ)) (s : MarkedPolynomials) (y : Overflow) → IsBinomialSet s → IsReducedRefusalBeside rows 0 s (check_errors.Overflow y) →
    ⊥
some_check_never rows s y b (IsReducedRefusalBeside.at_forms (errors.Overflow o) h q) = member_fits s b h.member o h.contained h.cause
some_check_never rows s y b (IsReducedRefusalBeside.at_forms (errors.Exponent o) h q) = cc
some_check_never rows s y b (IsReducedRefusalBeside.at_forms errors.Memory h q) = cc
some_check_never rows s y b (IsReducedRefusalBeside.at_weight h) = h
some_check_never rows s y b (IsReducedRefusalBeside.at_terms r h) = h
some_check_never rows s y b (IsReducedRefusalBeside.at_pairs r u h) = pairs_fit (map monic_of s.items) y (forms_binomial s b) h

-- the generators that are given are such differences
abbrev AreGivenBinomials : (from_basis : Bool) → Given from_basis → Type 0
AreGivenBinomials false v = AreBinomials (generators_of v.1.0)
AreGivenBinomials true v = IsBinomialSet v.1

given_binomials : (from_basis : Bool) (v : Given from_basis) → AreGivenBinomials from_basis v → AreBinomials (generators_given from_basis v)
given_binomials false v b = b
given_binomials true v b = polys_binomial v.1 b

reducing_never : (s : MarkedPolynomials) (x : Overflow) → IsBinomialSet s → IsReducingRefusal s (refusals.Overflow x) → ⊥
reducing_never s x b (IsReducingRefusal.at_check e h q) =
    check_never s e x (λ y i. refusals_tell_no_overflow.marked_basis 0 s y b (subst (λ d. IsReducedBasisRefusal 0 s d) i h)) q
reducing_never s x b (IsReducingRefusal.at_tails t d m a h q) =
    poly_never d x (λ y i. refusals_tell_no_overflow.monic_forms s t y b a (subst (λ c. IsAutoreductionRefusal t.items c) i h)) q

unrooted_never : (from_basis in_region : Bool) (v : Given from_basis) (k : Region) (pairs : ℕ) (x : Overflow) → AreGivenBinomials from_basis v →
    IsUnrooted from_basis in_region v k pairs (refusals.Overflow x) → ⊥
unrooted_never false false v k pairs x b h = basis_never MonomialOrder.deglex (length v.0) (generators_of v.1.0) pairs h.0 x b h.1.cause h.2
unrooted_never false true v k pairs x b h = basis_never (MonomialOrder.weighted (gains k.root)) (length v.0) (generators_of v.1.0) pairs h.0 x b h.1.cause h.2
unrooted_never true false v k pairs x b (IsGivenRootRefusal.at_basis h) = reducing_never v.1 x b h
unrooted_never true false v k pairs x b (IsGivenRootRefusal.on_the_way u e m f h q) =
    tree_never (ideal_by v.1.variables (polys v.1.items)) pairs e x (λ y l. refusals_tell_no_overflow.given_search v.1.variables pairs v.1 y b l)
    (way_in_tree v.1 u pairs e b.variables f h) q
unrooted_never true true v k pairs x b (IsGivenRegionRootRefusal.at_basis h) = reducing_never v.1 x b h
unrooted_never true true v k pairs x b (IsGivenRegionRootRefusal.at_root u m f (e, h, q)) =
    basis_never (MonomialOrder.weighted (gains k.root)) v.1.variables (polys u.items) pairs e x (reduced_binomials v.1 u b f) h.cause q

-- reductions of such differences by such
reduced_never : (bs : List MarkedPolynomial) (fs : List Terms) (d : PolyError) (x : Overflow) → AreMarkedBinomials (Contains bs) → AreBinomials fs →
    IsSomeReductionRefusal bs fs d → refusals.Overflow x ≡ of_check (of_poly d) → ⊥
reduced_never bs fs (errors.Overflow o) x two b h q = refusals_tell_no_overflow.reduction bs h.polynomial o two (b h.polynomial h.contained) h.cause
reduced_never bs fs (errors.Exponent o) x two b h q = cc
reduced_never bs fs errors.Memory x two b h q = cc

-- the members of the basis are such
taken_binomials : (k : Region) (s b : MarkedPolynomials) → IsBinomialSet s → IsBasisTaken k s b → AreMarkedBinomials (Contains b.items)
taken_binomials k s b z t c h =
    forms_binomial s z c (Contains-permutation b.items (map monic_of s.items) c (IsPermutation-sym (map monic_of s.items) b.items t.arranged.members) h)

unlisted_never : (n : ℕ) (k : Region) (fs : List Terms) (s root b : MarkedPolynomials) (x : Overflow) → IsBinomialSet s → AreBinomials fs →
    StartsIn n k fs root → IsBasisTaken k s b → IsUnlisted fs s root b (refusals.Overflow x) → ⊥
unlisted_never n k fs s root b x z g f t (IsUnlisted.at_basis i y h e) = cc
unlisted_never n k fs s root b x z g f t (IsUnlisted.at_generator i y a h e) = cc
unlisted_never n k fs s root b x z g f t (IsUnlisted.in_basis d h e) =
    reduced_never root.items (polys s.items) d x (bases_of_binomials n fs root.items f.node.fan.ideal g f.node.basis.reduced) (polys_binomial s z) h e
unlisted_never n k fs s root b x z g f t (IsUnlisted.in_generators d h e) = reduced_never b.items fs d x (taken_binomials k s b z t) g h e

start_never : (ways : Ways) (pairs : ℕ) (k : Region) (v : Given ways.from_basis) (s : MarkedPolynomials) (x : Overflow) → IsBinomialSet s →
    AreGivenBinomials ways.from_basis v → IsStartRefused ways pairs k v s (refusals.Overflow x) → ⊥
start_never ways pairs k v s x z g (IsStartRefused.at_basis e h q) =
    check_never s e x (λ y i. some_check_never k.rows s y z (subst (λ d. IsReducedRefusalBeside k.rows 0 s d) i h)) q
start_never ways pairs k v s x z g (IsStartRefused.at_root b t u) = unrooted_never ways.from_basis ways.in_region v k pairs x g u
start_never ways pairs k v s x z g (IsStartRefused.unlisted b root t m f u) =
    unlisted_never (length (names_given ways.from_basis v)) k (generators_given ways.from_basis v) s root b x z (given_binomials ways.from_basis v g) f t u
start_never ways pairs k v s x z g (IsStartRefused.on_the_way b root e t m f l h q) =
    tree_never (ideal_within (length (names_given ways.from_basis v)) (generators_given ways.from_basis v) k) pairs e x
    (λ y i. refusals_tell_no_overflow.search (ideal_within (length (names_given ways.from_basis v)) (generators_given ways.from_basis v) k) pairs y
    (given_binomials ways.from_basis v g) i) h q

-- ---- the command

-- what the list continues after is such, if anything
abbrev AreBehindBinomials : (after_basis : Bool) → Behind after_basis → Type 0
AreBehindBinomials false s = Unit {0}
AreBehindBinomials true s = IsBinomialSet s.1

unstarted_never : (ways : Ways) (after_basis : Bool) (pairs : ℕ) (k : Region) (v : Given ways.from_basis) (s : Behind after_basis) (x : Overflow) →
    AreBehindBinomials after_basis s → AreGivenBinomials ways.from_basis v → IsUnstartedFrom ways after_basis pairs k v s (refusals.Overflow x) → ⊥
unstarted_never ways false pairs k v s x z g h = unrooted_never ways.from_basis ways.in_region v k pairs x g h
unstarted_never ways true pairs k v s x z g h = start_never ways pairs k v s.1 x z g h

names_never : (after_basis : Bool) (s : Behind after_basis) (names : List (List ℕ)) (x : Overflow) → IsOtherNames after_basis s names (refusals.Overflow x) → ⊥
names_never false s names x h = h
names_never true s names x h = h

cause_never : (ways : Ways) (o : ListOptions) (v : ListValue ways) (x : Overflow) → AreBehindBinomials ways.after_basis v.1.0 →
    AreGivenBinomials ways.from_basis v.1.1 → IsListCause ways o v (refusals.Overflow x) → ⊥
cause_never ways o v x z g (IsListCause.early (IsEarlyCause.at_region c (w, (e, h, q)))) = region_never e x q
cause_never ways o v x z g (IsListCause.early (IsEarlyCause.at_names k c i h)) = names_never ways.after_basis v.1.0 (names_in ways v) x h
cause_never ways o v x z g (IsListCause.early (IsEarlyCause.at_start k i e h)) = unstarted_never ways ways.after_basis o.pairs k v.1.1 v.1.0 x z g h
cause_never ways o v x z g (IsListCause.going k front i e m t h) =
    going_never front o (length (names_in ways v)) k (ideal_in ways v) x
    (λ y pairs l. refusals_tell_no_overflow.search (ideal_within (length (names_in ways v)) (ideal_in ways v) k) pairs y
    (given_binomials ways.from_basis v.1.1 g) l) h

form_never : (in_region after_basis : Bool) (rows : List (List ℤ)) (s : Behind after_basis) (names : List (List ℕ)) (x : Overflow) →
    FirstFails (checks_for in_region after_basis rows s names) (refusals.Overflow x) → ⊥
form_never true after_basis rows s names x f = lengths_never (length names) rows x f
form_never false true rows s names x (inl f) = f
form_never false true rows s names x (inr (k, f)) = f
form_never false false rows s names x f = f

-- what is read of the input, after the file of a basis or not
source_never : (from_basis : Bool) (texts : List (List ℕ)) (o : Overflow) → IsPlainSource texts →
    (reading_given from_basis).IsRefused texts (text_errors.Overflow o) → ⊥
source_never from_basis [] o b h = b
source_never false (source ∷ []) o b h = set_text_never source b false o h
source_never true (source ∷ []) o b h = marked_text_never source b o h
source_never from_basis (source ∷ (other ∷ others)) o b h = b

source_plain : (from_basis : Bool) (texts : List (List ℕ)) (v : Given from_basis) → IsPlainSource texts → (reading_given from_basis).IsRead texts v →
    AreGivenBinomials from_basis v
source_plain from_basis [] v b r = absurd b
source_plain false (source ∷ []) v b r = set_binomials source b r.read.behind v.0 r.read.two.behind v.1.0 r.read.one r.read.two.one
source_plain true (source ∷ []) v b r = marked_binomials source b r.read.behind v.0 r.end v.1 r.read.one r.read.two
source_plain from_basis (source ∷ (other ∷ others)) v b r = absurd b

behind_text_never : (from_basis : Bool) (texts : List (List ℕ)) (o : Overflow) → ArePlainBehind texts →
    (reading_behind true (reading_given from_basis)).IsRefused texts (text_errors.Overflow o) → ⊥
behind_text_never from_basis [] o b h = b
behind_text_never from_basis (after ∷ texts) o b (inl h) = marked_text_never after b.0 o h
behind_text_never from_basis (after ∷ texts) o b (inr h) = source_never from_basis texts o b.1 h.2

behind_plain : (from_basis : Bool) (texts : List (List ℕ)) (v : Behind true × Given from_basis) → ArePlainBehind texts →
    (reading_behind true (reading_given from_basis)).IsRead texts v → IsBinomialSet v.0.1 × AreGivenBinomials from_basis v.1
behind_plain from_basis [] v b r = absurd b
behind_plain from_basis (after ∷ texts) v b r = (
  marked_binomials after b.0 r.0.read.behind v.0.0 r.0.end v.0.1 r.0.read.one r.0.read.two,
  source_plain from_basis texts v.1 b.1 r.1,
)

text_never : (from_basis : Bool) (within after : Option (List ℕ)) (texts : List (List ℕ)) (o : Overflow) → IsPlainFrom after within texts →
    (reading_list (ways_by from_basis (is_some within) (is_some after))).IsRefused texts (text_errors.Overflow o) → ⊥
text_never from_basis None None texts o b h = source_never from_basis texts o b h
text_never from_basis None (Some name) texts o b h = behind_text_never from_basis texts o b h
text_never from_basis (Some name) after [] o b h = h
text_never from_basis (Some name) after (file ∷ texts) o b (inl h) = vectors_never file o h
text_never from_basis (Some name) None (file ∷ texts) o b (inr h) = source_never from_basis texts o b h.2
text_never from_basis (Some name) (Some other) (file ∷ texts) o b (inr h) = behind_text_never from_basis texts o b h.2

read_plain : (from_basis : Bool) (within after : Option (List ℕ)) (texts : List (List ℕ)) (v : ListValue
    (ways_by from_basis (is_some within) (is_some after))) → IsPlainFrom after within texts →
    (reading_list (ways_by from_basis (is_some within) (is_some after))).IsRead texts v → AreBehindBinomials (is_some after) v.1.0 ×
    AreGivenBinomials from_basis v.1.1
read_plain from_basis None None texts v b r = (tt, source_plain from_basis texts v.1.1 b r.1)
read_plain from_basis None (Some name) texts v b r = behind_plain from_basis texts v.1 b r.1
read_plain from_basis (Some name) after [] v b r = absurd r
read_plain from_basis (Some name) None (file ∷ texts) v b r = (tt, source_plain from_basis texts v.1.1 b r.1)
read_plain from_basis (Some name) (Some other) (file ∷ texts) v b r = behind_plain from_basis texts v.1 b r.1

pub list_never : (o : BasesOptions) (texts : List (List ℕ)) (x : Overflow) → IsPlainFrom o.after o.within texts →
    IsRefusedOn (bases_command o) texts (refusals.Overflow x) → ⊥
list_never o texts x b (IsRefusedOn.in_text e h q) =
    text_never o.from_basis o.within o.after texts x b (subst (λ d. (reading_list (ways_of o)).IsRefused texts d) (tells_text e x q) h)
list_never o texts x b (IsRefusedOn.behind_text v r (IsUnanswered.in_form f)) =
    form_never (is_some o.within) (is_some o.after) v.0 v.1.0 (names_in (ways_of o) v) x f
list_never o texts x b (IsRefusedOn.behind_text v r (IsUnanswered.in_work f w)) =
    let plain = read_plain o.from_basis o.within o.after texts v b r in
    cause_never (ways_of o) (list_options o) v x plain.0 plain.1 w
list_never o texts x b (IsRefusedOn.behind_text v r (IsUnanswered.no_memory m)) = cc
list_never o texts x b (IsRefusedOn.no_memory m) = cc
