-- What `_tropicalintersection --basistest` answers and why it doesn't; its source is answered in one way.
-- To cite: ring_of_all, verdict_answered, test_unanswered, degree_unanswered, named_unanswered, of_test_ring; intersection_lawful, intersection_source,
-- intersection_once. The rest are steps.
use Rattle.std.specs.Prelude.{◌≡◌, ◌⊎◌, ℕ, Bool, true, false, List, [], ◌∷◌, All, length, Option, None, Some, ℤ}
use Rattle.std.proofs.Common.{refl, sym, ap, ◌∙◌, subst, inl, inr}
use Rattle.std.proofs.lemmas.List.Elements.{All-contains}
use Rattle.gf_poly.specs.Polynomial.{Terms, HasVariables}
use Rattle.gf_buchberger.specs.declared.homogeneity.NotHomogeneous.{NotHomogeneous}
use Rattle.gf_buchberger.specs.Tasks.{HaveRingVariables, HaveOneDegree}
use Rattle.gf_tropical.specs.declared.error.TropicalError.TheVariants as tropical_errors
use Rattle.gf_tropical.specs.Refusals.{IsTropicalRefusal, NoneIsZero}
use Rattle.gf_tropical.specs.Systems.{IsPairSystem}
use Rattle.gf_tropical_basis_test.specs.TreeError.{TreeError}
use Rattle.gf_tropical_basis_test.specs.TreeError.TheVariants as tree_errors
use Rattle.gf_initial_monomials.specs.declared.error.InitialError.{InitialError}
use Rattle.gf_initial_monomials.specs.declared.error.InitialError.TheVariants as initial_errors
use Rattle.gf_initial_monomials.specs.Limits.{IsMemoryWanted}
use Rattle.gf_tropical_basis_test.specs.declared.error.BasisTestError.{BasisTestError}
use Rattle.gf_tropical_basis_test.specs.declared.error.BasisTestError.TheVariants as test_errors
use Rattle.gf_tropical_basis_test.specs.declared.verdict.Verdict.{Verdict}
use Rattle.gf_tropical_basis_test.specs.Verdicts.{IsVerdict, IsFirstVerdict, maximal_rows}
use Rattle.gf_tropical_basis_test.specs.Refusals.{AreBasesRefused, IsVerdictRefusal}
use Rattle.gf_tropical_basis_test.specs.Limits.{HasNoMemory}
use Rattle.gf_tropical_basis_test.proofs.LimitLaws.{test_memory}
use Rattle.gf_text.specs.declared.written.Written.{Written}
use Rattle.gf_front.specs.declared.options.TropicalIntersectionOptions.{TropicalIntersectionOptions}
use Rattle.gf_front.specs.declared.refusal.Refusal.{Refusal}
use Rattle.gf_front.specs.declared.refusal.Refusal.TheVariants as refusals
use Rattle.gf_front.specs.Table.{usual_pairs}
use Rattle.gf_items.specs.Items.{from, IsTextOf}
use Rattle.gf_items.specs.Kinds.{a_set, vector_where}
use Rattle.gf_items.specs.Sources.{ring_set_vector}
use Rattle.gf_items.specs.Refusals.{IsOfTest, IsOfWork}
use Rattle.gf_items.proofs.KindLaws.{ring_and_once}
use Rattle.gf_frame.specs.Loading.{Origin}
use Rattle.gf_frame.specs.Commands.{IsAnswerFor, IsUnanswered, WritesOnce}
use Rattle.gf_frame.proofs.CommandLaws.{IsLawful}
use Rattle.gf_frame.proofs.ReadingLaws.{one_once, of_one_text}
use Rattle.gf_frame.proofs.SoundLaws.{IsExactCommand, untested, sound_lawful}
use Rattle.gfan_fans.specs.declared.tropical.TropicalFan.TheVariants as fans
use Rattle.gfan_common.specs.Forms.{generators_of, IsDegreeRefusal}
use Rattle.gfan_common.specs.Causes.{of_basis, of_tree}
use Rattle.gfan_common.specs.ToolForms.{HasNoZero, IsZeroRefusal}
use Rattle.gfan_fans.specs.Tropical.{of_tropical}
use Rattle.gfan_fans.specs.BasisTest.{of_initial, of_basis_test, basis_test_text, basis_test_command, intersection_by, intersection_command}
use Rattle.gfan_common.specs.Refused.{IsNamedBy, IsOfSource}
use Rattle.gfan_common.proofs.WrittenSetLaws.{lent_names, first_variables}
use Rattle.gfan_common.proofs.CauseLaws.{basis_work, basis_not_listed, basis_untested, tree_work, tree_untested, tree_not_listed, basis_named_by}
use Rattle.gfan_common.proofs.FormLaws.{degree_check}
use Rattle.gfan_common.proofs.ReadSetLaws.{set_kept}
use Rattle.gfan_common.proofs.ToolFormLaws.{zero_check}
use Rattle.gfan_fans.proofs.TropicalLaws.{no_first_zero, tropical_exact, tropical_tested, tropical_not_listed}

-- ---- for what is read

pub ring_of_all : (n : ℕ) (fs : List Terms) → All (HasVariables n) fs → HaveRingVariables n fs
ring_of_all n fs a = record { each = λ f c. All-contains (HasVariables n) fs f a c }

pub verdict_answered : (n : ℕ) (ring : List (List ℕ)) (ws : List Written) (fs : List Terms) (v : Verdict) (text : List ℕ) → n ≡ length ring →
    fs ≡ generators_of ws → HasNoZero ws → HaveOneDegree fs → IsVerdict n fs v → IsFirstVerdict n fs v → text ≡ basis_test_text v →
    IsAnswerFor basis_test_command (ring, (ws, None)) text
verdict_answered n ring ws fs v text p q z d r f t = record {
  formed = (z, (subst HaveOneDegree q d, tt));
  is_answer = record {
    verdict = v;
    right = subst (λ k. IsVerdict k (generators_of ws) v) p (subst (λ (gs : List Terms). IsVerdict n gs v) q r);
    first = subst (λ k. IsFirstVerdict k (generators_of ws) v) p (subst (λ (gs : List Terms). IsFirstVerdict n gs v) q f);
    is_text = t;
  };
}

pub test_unanswered : (n : ℕ) (ring : List (List ℕ)) (ws : List Written) (fs : List Terms) (e : BasisTestError) → n ≡ length ring → fs ≡ generators_of ws →
    HasNoZero ws → HaveOneDegree fs → NoneIsZero fs → IsVerdictRefusal n fs usual_pairs e → IsUnanswered basis_test_command (ring, (ws, None)) (of_basis_test e)
test_unanswered n ring ws fs e p q z d s h = IsUnanswered.in_work (z, (subst HaveOneDegree q d, tt)) (record {
  error = e;
  told = refl;
  nonzero = subst NoneIsZero q s;
  refused = subst (λ k. IsVerdictRefusal k (generators_of ws) usual_pairs e) p (subst (λ (gs : List Terms). IsVerdictRefusal n gs usual_pairs e) q h);
})

pub degree_unanswered : (ring : List (List ℕ)) (ws : List Written) (fs : List Terms) (r : Refusal) → fs ≡ generators_of ws → HasNoZero ws →
    IsDegreeRefusal true None fs r ⊎ (r ≡ refusals.Memory) → IsUnanswered basis_test_command (ring, (ws, None)) r
degree_unanswered ring ws fs r q z (inl h) = IsUnanswered.in_form (inr (z, inl (subst (λ (gs : List Terms). IsDegreeRefusal true None gs r) q h)))
degree_unanswered ring ws fs r q z (inr m) = IsUnanswered.no_memory m

-- ---- refusals

-- none is told of a zero polynomial
not_zero : (n : ℕ) (fs : List Terms) (set index : ℕ) → NoneIsZero fs →
    IsVerdictRefusal n fs usual_pairs (test_errors.Prevariety (tropical_errors.ZeroPolynomial set index)) → ⊥
not_zero n fs set index some (IsVerdictRefusal.at_prevariety r h q) =
    let e : r ≡ tropical_errors.ZeroPolynomial set index = cc in
    no_first_zero fs index some (subst (IsTropicalRefusal IsPairSystem n fs) e h).1
not_zero n fs set index some (IsVerdictRefusal.at_root r h q) = cc
not_zero n fs set index some (IsVerdictRefusal.at_bases fan p h) = at h
  where
    at : AreBasesRefused n fs (maximal_rows fan) usual_pairs (test_errors.Prevariety (tropical_errors.ZeroPolynomial set index)) → ⊥
    at (AreBasesRefused.at_basis bases b r l k x q) = cc
    at (AreBasesRefused.at_search r x q) = cc
    at (AreBasesRefused.no_memory q) = cc
not_zero n fs set index some (IsVerdictRefusal.no_memory q) = cc

initial_work : (e : InitialError) → IsOfWork (of_initial e)
initial_work (initial_errors.Cone o) = tt
initial_work (initial_errors.Wide w) = tt
initial_work (initial_errors.Entry i x) = tt
initial_work (initial_errors.Saturation e) = basis_work e
initial_work initial_errors.Memory = tt

test_work : (n : ℕ) (fs : List Terms) (e : BasisTestError) → NoneIsZero fs → IsVerdictRefusal n fs usual_pairs e → IsOfWork (of_basis_test e)
test_work n fs (test_errors.Prevariety (tropical_errors.Cone o)) s h = tt
test_work n fs (test_errors.Prevariety (tropical_errors.ZeroPolynomial set index)) s h = absurd (not_zero n fs set index s h)
test_work n fs (test_errors.Prevariety tropical_errors.Memory) s h = tt
test_work n fs (test_errors.Root e) s h = basis_work e
test_work n fs (test_errors.Search e) s h = tree_work e
test_work n fs (test_errors.Initial e) s h = initial_work e
test_work n fs test_errors.Memory s h = tt

initial_memory : (e : InitialError) → IsMemoryWanted e → of_initial e ≡ refusals.Memory
initial_memory (initial_errors.Cone o) m = absurd m
initial_memory (initial_errors.Wide w) m = absurd m
initial_memory (initial_errors.Entry i x) m = absurd m
initial_memory (initial_errors.Saturation e) m = ap of_basis m
initial_memory initial_errors.Memory m = refl

no_memory : (e : BasisTestError) → HasNoMemory e → of_basis_test e ≡ refusals.Memory
no_memory (test_errors.Prevariety e) m = ap of_tropical m
no_memory (test_errors.Root e) m = ap of_basis m
no_memory (test_errors.Search e) m = ap of_tree m
no_memory (test_errors.Initial e) m = initial_memory e m
no_memory test_errors.Memory m = refl

initial_untested : (e : InitialError) → IsOfTest (of_initial e) → ⊥
initial_untested (initial_errors.Cone o) t = t
initial_untested (initial_errors.Wide w) t = t
initial_untested (initial_errors.Entry i x) t = t
initial_untested (initial_errors.Saturation e) t = basis_untested e t
initial_untested initial_errors.Memory t = t

test_untested : (e : BasisTestError) → IsOfTest (of_basis_test e) → ⊥
test_untested (test_errors.Prevariety (tropical_errors.Cone o)) t = t
test_untested (test_errors.Prevariety (tropical_errors.ZeroPolynomial set index)) t = t
test_untested (test_errors.Prevariety tropical_errors.Memory) t = t
test_untested (test_errors.Root e) t = basis_untested e t
test_untested (test_errors.Search e) t = tree_untested e t
test_untested (test_errors.Initial e) t = initial_untested e t
test_untested test_errors.Memory t = t

initial_not_listed : (e : InitialError) (most : ℕ) → refusals.ListLimit most ≡ of_initial e → ⊥
initial_not_listed (initial_errors.Cone o) most q = cc
initial_not_listed (initial_errors.Wide w) most q = cc
initial_not_listed (initial_errors.Entry i x) most q = cc
initial_not_listed (initial_errors.Saturation e) most q = basis_not_listed e most q
initial_not_listed initial_errors.Memory most q = cc

test_not_listed : (e : BasisTestError) (most : ℕ) → refusals.ListLimit most ≡ of_basis_test e → ⊥
test_not_listed (test_errors.Prevariety (tropical_errors.Cone o)) most q = cc
test_not_listed (test_errors.Prevariety (tropical_errors.ZeroPolynomial set index)) most q = cc
test_not_listed (test_errors.Prevariety tropical_errors.Memory) most q = cc
test_not_listed (test_errors.Root e) most q = basis_not_listed e most q
test_not_listed (test_errors.Search e) most q = tree_not_listed e most q
test_not_listed (test_errors.Initial e) most q = initial_not_listed e most q
test_not_listed test_errors.Memory most q = cc

-- ---- the names of the ring

tree_named_by : (names : Option (List (List ℕ))) (e : TreeError) → IsNamedBy names (of_tree e)
tree_named_by names (tree_errors.Overflow o) = λ lent is. tt
tree_named_by names (tree_errors.Exponent o) = λ lent is. tt
tree_named_by names (tree_errors.PairBudget b u) = λ lent is. tt
tree_named_by names (tree_errors.Cone o) = λ lent is. tt
tree_named_by names tree_errors.Memory = λ lent is. tt

initial_named_by : (names : Option (List (List ℕ))) (e : InitialError) → IsNamedBy names (of_initial e)
initial_named_by names (initial_errors.Cone o) = λ lent is. tt
initial_named_by names (initial_errors.Wide w) = λ lent is. tt
initial_named_by names (initial_errors.Entry i x) = λ lent is. tt
initial_named_by names (initial_errors.Saturation e) = basis_named_by names e
initial_named_by names initial_errors.Memory = λ lent is. tt

test_named_by : (names : Option (List (List ℕ))) (e : BasisTestError) → IsNamedBy names (of_basis_test e)
test_named_by names (test_errors.Prevariety (tropical_errors.Cone o)) = λ lent is. tt
test_named_by names (test_errors.Prevariety (tropical_errors.ZeroPolynomial set index)) = λ lent is. tt
test_named_by names (test_errors.Prevariety tropical_errors.Memory) = λ lent is. tt
test_named_by names (test_errors.Root e) = basis_named_by names e
test_named_by names (test_errors.Search e) = tree_named_by names e
test_named_by names (test_errors.Initial e) = initial_named_by names e
test_named_by names test_errors.Memory = λ lent is. tt

zero_named : (names : Option (List (List ℕ))) (ws : List Written) (r : Refusal) → IsZeroRefusal ws r → IsNamedBy names r
zero_named names ws (refusals.ZeroPolynomial set index) h = λ lent is. tt
zero_named names ws _ h = absurd h

degree_named : (ring : List (List ℕ)) (fs : List Terms) (r : Refusal) → HaveRingVariables (length ring) fs → IsDegreeRefusal true None fs r →
    IsNamedBy (Some ring) r
degree_named ring fs (refusals.NotHomogeneous p x y) v h = λ lent is.
    let k : NotHomogeneous = record { polynomial = p; first = x; second = y } in
    let variables = first_variables (length ring) fs k v h in
    (lent_names ring x lent is variables.0, lent_names ring y lent is variables.1)
degree_named ring fs _ v h = absurd h

pub named_unanswered : (ring : List (List ℕ)) (ws : List Written) (r : Refusal) → HaveRingVariables (length ring) (generators_of ws) →
    IsUnanswered basis_test_command (ring, (ws, None)) r → IsNamedBy (Some ring) r
named_unanswered ring ws r v (IsUnanswered.in_form (inl h)) = zero_named (Some ring) ws r h
named_unanswered ring ws r v (IsUnanswered.in_form (inr (z, inl h))) = degree_named ring (generators_of ws) r v h
named_unanswered ring ws r v (IsUnanswered.in_form (inr (z, inr (d, h)))) = absurd h
named_unanswered ring ws r v (IsUnanswered.in_work g w) = subst (IsNamedBy (Some ring)) (sym w.told) (test_named_by (Some ring) w.error)
named_unanswered ring ws r v (IsUnanswered.no_memory q) = subst (IsNamedBy (Some ring)) (sym q) (λ lent is. tt)

pub of_test_ring : (source : List ℕ) (ring : List (List ℕ)) (set : List Written) (w : Option (List ℤ)) →
    IsTextOf (ring_set_vector false) source (ring, (set, w)) → (e : Refusal) → IsNamedBy (Some ring) e →
    IsOfSource source (record { refusal = e; ring = Some ring })
of_test_ring source ring set w r e h = record { named = h; ring = (r.read.behind, r.read.one) }

-- ---- a source is answered in one way

basis_test_exact : IsExactCommand basis_test_command
basis_test_exact = record {
  reading = one_once _ (ring_and_once a_set (vector_where false ∷ []));
  checks = λ texts v h. of_one_text (ring_set_vector false) _ texts v h (λ source r. (
    zero_check v.1.0,
    (
      degree_check (length v.0) true None (generators_of v.1.0)
          (set_kept v.0 (from source r.read.behind) r.read.two.behind v.1.0 r.read.two.one),
      tt,
    ),
  ));
  work = λ v r h. subst IsOfWork (sym h.told) (test_work (length v.0) (generators_of v.1.0) h.error h.nonzero h.refused);
  within = λ v r w h. h.told ∙ no_memory h.error (test_memory (length v.0) (generators_of v.1.0) usual_pairs h.error w h.refused);
}

-- each of the two
lawful_by : (basis_test : Bool) → IsLawful (intersection_by basis_test)
lawful_by false =
    sound_lawful (intersection_by false) (tropical_exact fans.Intersection) (tropical_tested fans.Intersection) (λ h. h) (λ t. t)
    (λ a m w. tropical_not_listed fans.Intersection (length a.0) (generators_of a.1.0) m w)
lawful_by true =
    sound_lawful basis_test_command basis_test_exact (untested basis_test_command (λ v r t h. test_untested h.error (subst IsOfTest h.told t))) (λ h. h)
    (λ t. t) (λ a m w. test_not_listed w.error m w.told)

source_by : (basis_test : Bool) → (intersection_by basis_test).reads ≡ Origin.the_input ∷ []
source_by false = refl
source_by true = refl

once_by : (basis_test : Bool) → WritesOnce (intersection_by basis_test).writing
once_by false = tt
once_by true = tt

pub intersection_lawful : (o : TropicalIntersectionOptions) → IsLawful (intersection_command o)
intersection_lawful o = lawful_by o.basis_test

pub intersection_source : (o : TropicalIntersectionOptions) → (intersection_command o).reads ≡ Origin.the_input ∷ []
intersection_source o = source_by o.basis_test

pub intersection_once : (o : TropicalIntersectionOptions) → WritesOnce (intersection_command o).writing
intersection_once o = once_by o.basis_test
