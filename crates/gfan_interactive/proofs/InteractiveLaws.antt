-- `_interactive`: where its session begins, why it is cut off, that the command is lawful, and that lines have one transcript.
-- To cite: start_read, start_place, named_unopened, named_cut, unopened_refused, interactive_lawful, conversed_done, conversed_stopped. The rest are steps.
use Rattle.std.specs.Prelude.{◌≡◌, ◌⊎◌, ℕ, ◌≤◌, List, [], ◌∷◌, length, Option, Some, None}
use Rattle.std.specs.Io.KnownBytes.{Consumes}
use Rattle.std.proofs.Common.{arith, refl, sym, ap, ap₂, ◌∙◌, subst, inl, inr}
use Rattle.std.proofs.lemmas.List.{length-append}
use Rattle.gf_poly.specs.Marking.{MarkedPolynomials, HaveVariables, polys}
use Rattle.gf_reduced.specs.declared.error.CheckError.{CheckError}
use Rattle.gf_reduced.specs.declared.error.CheckError.TheVariants as check_errors
use Rattle.gf_reduced.proofs.GroebnerLaws.{polys_variables}
use Rattle.gf_reduced.proofs.RefusalLaws.{reduced_memory}
use Rattle.gf_facets_theory.specs.Regions.{all_positive}
use Rattle.gf_facets_theory.specs.MarkedBases.{IsBasisInRegion}
use Rattle.gf_facets_theory.proofs.SystemLaws.{all_positive-region}
use Rattle.gf_bases_theory.proofs.FiniteLaws.{basis_everywhere}
use Rattle.gf_bases_theory.proofs.LawsHold.{only_ideals_count}
use Rattle.gf_reverse_theory.specs.Upward.{Fan, IsNode, IsNodeIn, fan_of}
use Rattle.gf_reverse_theory.proofs.TreeLaws.{own_fan, back_fan, node_moved}
use Rattle.gf_reverse_theory.proofs.ListLaws.{own}
use Rattle.gf_tree.specs.TreeError.{TreeError}
use Rattle.gf_tree.specs.TreeError.TheVariants as tree_errors
use Rattle.gf_tree.specs.Ideals.{ideal_by}
use Rattle.gf_tree.specs.Refusals.{IsTreeRefusal, IsCallRefusal}
use Rattle.gf_tree.proofs.LabelLaws.{across_in}
use Rattle.gf_tree.proofs.RefusalLaws.{call_refused, refusal_moved, within_memory}
use Rattle.gf_outside.specs.Faults.{Rose}
use Rattle.gf_outside.specs.Moved.{Took}
use Rattle.gf_session.specs.declared.session.SessionError.{SessionError}
use Rattle.gf_session.specs.declared.session.SessionError.TheVariants as errors
use Rattle.gf_session.specs.Choices.{choice_of}
use Rattle.gf_session.specs.Sessions.{IsStuck}
use Rattle.gf_session.proofs.StateLaws.{turns-over, near-over}
use Rattle.gf_basis_states.specs.BasisRules.{IsBasisState, IsNumbered, basis_rules}
use Rattle.gf_front.specs.declared.refusal.Refusal.{Refusal}
use Rattle.gf_front.specs.declared.refusal.Refusal.TheVariants as refusals
use Rattle.gf_items.specs.Items.{IsTextOf, from}
use Rattle.gf_items.specs.Sources.{ring_marked_set}
use Rattle.gf_items.specs.Kinds.{a_marked_set}
use Rattle.gf_items.specs.Refusals.{IsOfTest, IsOfNumbers, TellsSame}
use Rattle.gf_items.proofs.KindLaws.{ring_and_once}
use Rattle.gf_frame.specs.Seen.{Seen, InputSeen, FilesSeen, OutputSeen}
use Rattle.gf_frame.specs.Loading.{AreLoaded}
use Rattle.gf_frame.specs.Commands.{Turns, Writing, IsUnanswered, IsRefusedOn, IsFixed, IsOfWriting}
use Rattle.gf_frame.specs.Runs.{IsDoneBy, IsLeftInOutput, IsStoppedBy}
use Rattle.gf_frame.proofs.CommandLaws.{IsOfTurns, AreLawfulTurns, IsLawful, no_fixed_memory}
use Rattle.gf_frame.proofs.ReadingLaws.{one_once, of_one_text}
use Rattle.gf_frame.proofs.WorkLaws.{nothing_left}
use Rattle.gfan_common.specs.Causes.{of_tree}
use Rattle.gfan_common.specs.CheckedSets.{of_check}
use Rattle.gfan_common.specs.ReducedSets.{IsReducedAsRead}
use Rattle.gfan_common.specs.Refused.{IsNamedBy}
use Rattle.gfan_interactive.specs.Interactive.{IsStart, IsUnopened, trail_from, of_session, IsSessionCutOff, IsHeldFrom, IsCutFrom, IsLedWithin}
use Rattle.gfan_interactive.specs.Interactive.{interactive_command, IsConversed, IsNotConversed}
use Rattle.gfan_common.proofs.ReadSetLaws.{IsSetKept, one_kept, read_variables}
use Rattle.gfan_common.proofs.CheckedSetLaws.{named_reduced, reduced_once, reduced_refutes}
use Rattle.gfan_common.proofs.CauseLaws.{tree_numbers, named_tree}

-- ---- where it begins

read_kept : (source : List ℕ) (v : List (List ℕ) × MarkedPolynomials) → IsTextOf ring_marked_set source v → IsSetKept (length v.0) v.1
read_kept source v read = one_kept v.0 (from source read.read.behind) read.end v.1 read.read.two

pub start_read : (source : List ℕ) (ring : List (List ℕ)) (s start : MarkedPolynomials) → IsTextOf ring_marked_set source (ring, s) → IsReducedAsRead s start →
    IsStart s start
start_read source ring s start read a = record { variables = read_variables source (ring, s) read; read = a }

-- it is a basis of the ideal of the set
start_node : (s start : MarkedPolynomials) → IsStart s start → IsNodeIn (ideal_by s.variables (polys s.items)) start
start_node s start h =
    let same = h.read.arranged.variables in
    let ideal = h.read.basis.basis.ideal in
    record {
      fan = record { ideal = polys_variables s.variables s.items h.variables; region = all_positive-region s.variables };
      variables = same;
      basis = only_ideals_count.in_region s.variables (polys start.items) (polys s.items) (all_positive s.variables) start.items
          (record { inside = ideal.back; back = ideal.inside })
          (subst (λ n. IsBasisInRegion n (polys start.items) (all_positive n) start.items) same (basis_everywhere start.variables (polys start.items)
          start.items h.read.basis.reduced));
    }

-- a basis of an ideal, as one of the ideal that it generates
own_node : (n : ℕ) (F : Fan) (p : MarkedPolynomials) → F.region ≡ all_positive n → F.variables ≡ n → IsNodeIn F p → IsNode (all_positive p.variables) p
own_node n F p e v h = subst (λ m. IsNode (all_positive m) p) (sym (h.variables ∙ v)) (subst (λ k. IsNode k p) e (own F.region F p refl h))

pub start_place : (n : ℕ) (s start : MarkedPolynomials) → s.variables ≡ n → IsStart s start → IsBasisState n start
start_place n s start e h = record {
  node = own_node s.variables (ideal_by s.variables (polys s.items)) start refl refl (start_node s start h);
  ring = h.read.arranged.variables ∙ e;
}

-- ---- kinds of refusals

check_writing : {A : Type 0} (turns : Turns A) (e : CheckError) → IsOfWriting (Writing.in_turns turns) (of_check e)
check_writing turns (check_errors.Overflow o) = tt
check_writing turns (check_errors.Exponent o) = tt
check_writing turns (check_errors.NotReduced set i x) = tt
check_writing turns (check_errors.NotBasis set i j r) = tt
check_writing turns (check_errors.Inconsistent set ms) = tt
check_writing turns (check_errors.Cone o) = tt
check_writing turns check_errors.Memory = tt

tree_writing : {A : Type 0} (turns : Turns A) (e : TreeError) → IsOfWriting (Writing.in_turns turns) (of_tree e)
tree_writing turns (tree_errors.Overflow o) = tt
tree_writing turns (tree_errors.Exponent o) = tt
tree_writing turns (tree_errors.PairBudget b u) = tt
tree_writing turns (tree_errors.Cone s) = tt
tree_writing turns tree_errors.Memory = tt

unopened_writing : {A : Type 0} (turns : Turns A) (pairs : ℕ) (s : MarkedPolynomials) (r : Refusal) → IsUnopened pairs s r →
    IsOfWriting (Writing.in_turns turns) r
unopened_writing turns pairs s r (IsUnopened.at_set e h q) = subst (IsOfWriting (Writing.in_turns turns)) (sym q) (check_writing turns e)
unopened_writing turns pairs s r (IsUnopened.at_start start e a h q) = subst (IsOfWriting (Writing.in_turns turns)) (sym q) (tree_writing turns e)
unopened_writing turns pairs s r (IsUnopened.no_memory m) = subst (IsOfWriting (Writing.in_turns turns)) (sym m) tt

-- a check that is told wherever its condition holds is of a test
check_fixed : (e : CheckError) → IsFixed (of_check e) → IsOfTest (of_check e)
check_fixed (check_errors.Overflow o) f = elim f [ inl x ↦ elim x [ inl y ↦ y | inr y ↦ y ] | inr y ↦ y ]
check_fixed (check_errors.Exponent o) f = elim f [ inl x ↦ elim x [ inl y ↦ y | inr y ↦ y ] | inr y ↦ y ]
check_fixed (check_errors.NotReduced set i x) f = tt
check_fixed (check_errors.NotBasis set i j r) f = tt
check_fixed (check_errors.Inconsistent set ms) f = tt
check_fixed (check_errors.Cone o) f = elim f [ inl x ↦ elim x [ inl y ↦ y | inr y ↦ y ] | inr y ↦ y ]
check_fixed check_errors.Memory f = elim f [ inl x ↦ elim x [ inl y ↦ y | inr y ↦ y ] | inr y ↦ y ]

-- one of the search never is
tree_fixed : (e : TreeError) → IsFixed (of_tree e) → ⊥
tree_fixed (tree_errors.Overflow o) f = elim f [ inl x ↦ elim x [ inl y ↦ y | inr y ↦ y ] | inr y ↦ y ]
tree_fixed (tree_errors.Exponent o) f = elim f [ inl x ↦ elim x [ inl y ↦ y | inr y ↦ y ] | inr y ↦ y ]
tree_fixed (tree_errors.PairBudget b u) f = elim f [ inl x ↦ elim x [ inl y ↦ y | inr y ↦ y ] | inr y ↦ y ]
tree_fixed (tree_errors.Cone s) f = elim f [ inl x ↦ elim x [ inl y ↦ y | inr y ↦ y ] | inr y ↦ y ]
tree_fixed tree_errors.Memory f = elim f [ inl x ↦ elim x [ inl y ↦ y | inr y ↦ y ] | inr y ↦ y ]

-- ---- the checks

opened_refutes : (pairs : ℕ) (s start : MarkedPolynomials) (r : Refusal) → IsFixed r → IsUnopened pairs s r → IsStart s start → ⊥
opened_refutes pairs s start r f (IsUnopened.at_set e h q) a =
    reduced_refutes 0 s e a.variables (check_fixed e (subst IsFixed q f)) h a.read.terms a.read.basis.basis.marked
opened_refutes pairs s start r f (IsUnopened.at_start t e b h q) a = tree_fixed e (subst IsFixed q f)
opened_refutes pairs s start r f (IsUnopened.no_memory m) a = no_fixed_memory r m f

unopened_once : (pairs : ℕ) (s : MarkedPolynomials) (r d : Refusal) → HaveVariables s.variables s.items → IsFixed r → IsUnopened pairs s r →
    IsUnopened pairs s d → TellsSame r d ⊎ IsOfNumbers d
unopened_once pairs s r d v f (IsUnopened.at_set e h q) (IsUnopened.at_set g k p) =
    subst (λ x. TellsSame r x ⊎ IsOfNumbers x) (sym p)
    (subst (λ x. TellsSame x (of_check g) ⊎ IsOfNumbers (of_check g)) (sym q) (reduced_once 0 s e g v (check_fixed e (subst IsFixed q f)) h k))
unopened_once pairs s r d v f (IsUnopened.at_set e h q) (IsUnopened.at_start t g a k p) = inr (subst IsOfNumbers (sym p) (tree_numbers g))
unopened_once pairs s r d v f (IsUnopened.at_set e h q) (IsUnopened.no_memory m) = inr (subst IsOfNumbers (sym m) tt)
unopened_once pairs s r d v f (IsUnopened.at_start t e a h q) k = absurd (tree_fixed e (subst IsFixed q f))
unopened_once pairs s r d v f (IsUnopened.no_memory m) k = absurd (no_fixed_memory r m f)

-- ---- the search

-- a refusal of a call at a basis of an ideal is one of the search over its bases
call_in_search : (n : ℕ) (F : Fan) (pairs : ℕ) (p : MarkedPolynomials) (e : TreeError) → F.region ≡ all_positive n → F.variables ≡ n → IsNodeIn F p →
    IsCallRefusal (all_positive p.variables) pairs p e → IsTreeRefusal F pairs e
call_in_search n F pairs p e r v h c =
    let there : all_positive p.variables ≡ F.region = ap all_positive (h.variables ∙ v) ∙ sym r in
    refusal_moved (fan_of F.region p) F pairs e (back_fan F (fan_of F.region p) (own_fan F p h))
    (call_refused F.region pairs p e (own F.region F p refl h) (subst (λ k. IsCallRefusal k pairs p e) there c))

-- a number leads to a basis of the same ideal
number_stays : (n : ℕ) (F : Fan) (p q : MarkedPolynomials) (m : ℕ) → F.region ≡ all_positive n → F.variables ≡ n → IsNodeIn F p → IsNumbered p m q →
    IsNodeIn F q
number_stays n F p q m r v h k =
    let there : all_positive p.variables ≡ F.region = ap all_positive (h.variables ∙ v) ∙ sym r in
    let moved : IsNodeIn (fan_of F.region p) q =
    subst (λ z. IsNodeIn (fan_of z p) q) there (across_in (all_positive p.variables) p q _ k.step.node k.step.across) in
    node_moved (fan_of F.region p) F q (back_fan F (fan_of F.region p) (own_fan F p h)) moved

-- ---- within limits

-- more was taken than the input had
no_more : (left leaves : Option (List ℕ)) (given gives : ℕ) (source bytes : List ℕ) → left ≡ Some source → Took left leaves given gives bytes →
    length bytes ≤ length source
no_more left leaves given gives source bytes e t = at leaves (subst (λ z. Consumes z leaves bytes) e t.bytes_left)
  where
    at : (leaves : Option (List ℕ)) → Consumes (Some source) leaves bytes → length bytes ≤ length source
    at None c = absurd c
    at (Some rest) c = omega (arith, ap length c, length-append bytes rest)

module _ (pairs n : ℕ) (ring : List (List ℕ)) (s start : MarkedPolynomials) (w : IsLedWithin pairs n s) (begins : IsStart s start) where
  abbrev search : Fan
  search = ideal_by n (polys s.items)

  -- a call at a place that a line looks at
  stuck_memory : (left leaves : Option (List ℕ)) (given gives : ℕ) (held holds : Option (List ℕ)) (e : TreeError) →
      IsStuck (basis_rules ring) (λ p r. IsCallRefusal (all_positive p.variables) pairs p r) (trail_from start) left leaves given gives held holds e →
      e ≡ tree_errors.Memory
  stuck_memory left leaves given gives held holds e k =
      let here : IsNodeIn search start = subst (λ m. IsNodeIn (ideal_by m (polys s.items)) start) w.same (start_node s start begins) in
      let stays : (p q : MarkedPolynomials) (m : ℕ) → IsNodeIn search p → IsNumbered p m q → IsNodeIn search q =
      λ p q m h a. number_stays n search p q m refl refl h a in
      let over = turns-over (basis_rules ring) (IsNodeIn search) stays (trail_from start) _ k.t k.talk.text (record { here = here; before = tt })
      k.talk.turns in
      let there : IsNodeIn search k.state = near-over (basis_rules ring) (IsNodeIn search) stays k.t (choice_of k.last) k.state over k.near in
      within_memory search pairs e w.tree (call_in_search n search pairs k.state e refl refl there k.refused)

unopened_within : (pairs n : ℕ) (s : MarkedPolynomials) (r : Refusal) → IsLedWithin pairs n s → IsUnopened pairs s r → r ≡ refusals.Memory
unopened_within pairs n s r w (IsUnopened.at_set e h q) =
    q ∙ ap of_check (reduced_memory 0 s e w.checked.variables w.checked.checks w.checked.basis w.checked.terms h)
unopened_within pairs n s r w (IsUnopened.at_start start e a h q) =
    let begins : IsStart s start = record { variables = w.checked.variables; read = a } in
    let here : IsNodeIn (ideal_by n (polys s.items)) start = subst (λ m. IsNodeIn (ideal_by m (polys s.items)) start) w.same (start_node s start begins) in
    q ∙ ap of_tree (within_memory (ideal_by n (polys s.items)) pairs e w.tree (call_in_search n (ideal_by n (polys s.items)) pairs start e refl refl here
    (IsCallRefusal.here h)))
unopened_within pairs n s r w (IsUnopened.no_memory m) = m

-- ---- the names in lines

pub named_unopened : (source : List ℕ) (ring : List (List ℕ)) (s : MarkedPolynomials) (pairs : ℕ) (r : Refusal) → IsTextOf ring_marked_set source (ring, s) →
    IsUnopened pairs s r → IsNamedBy (Some ring) r
named_unopened source ring s pairs r read (IsUnopened.at_set e h q) =
    subst (IsNamedBy (Some ring)) (sym q) (named_reduced 0 ring s e (read_kept source (ring, s) read) h)
named_unopened source ring s pairs r read (IsUnopened.at_start start e a h q) = subst (IsNamedBy (Some ring)) (sym q) (named_tree ring e)
named_unopened source ring s pairs r read (IsUnopened.no_memory m) = subst (IsNamedBy (Some ring)) (sym m) (λ lent is. tt)

named_session : (ring : List (List ℕ)) (e : SessionError TreeError) → IsNamedBy (Some ring) (of_session e)
named_session ring errors.ReadFault = λ lent is. tt
named_session ring errors.InputTooLong = λ lent is. tt
named_session ring errors.WriteFault = λ lent is. tt
named_session ring errors.Memory = λ lent is. tt
named_session ring (errors.Refused e) = named_tree ring e

pub named_cut : (pairs : ℕ) (ring : List (List ℕ)) (start : MarkedPolynomials) (i j : InputSeen) (o k : OutputSeen) (r : Refusal) →
    IsSessionCutOff pairs ring start i j o k r → IsNamedBy (Some ring) r
named_cut pairs ring start i j o k r (IsSessionCutOff.in_opening text h q f a e) = subst (IsNamedBy (Some ring)) (sym q) (λ lent is. tt)
named_cut pairs ring start i j o k r (IsSessionCutOff.in_session text then e h a c t x y q) = subst (IsNamedBy (Some ring)) (sym q) (named_session ring e)

-- ---- from the text of the file on

pub unopened_refused : (name : List ℕ) (pairs : ℕ) (source : List ℕ) (ring : List (List ℕ)) (s : MarkedPolynomials) (r : Refusal) →
    IsTextOf ring_marked_set source (ring, s) → IsUnopened pairs s r → IsRefusedOn (interactive_command name pairs) (source ∷ []) r
unopened_refused name pairs source ring s r read h = IsRefusedOn.behind_text (ring, s) read (IsUnanswered.in_work tt h)

-- ---- turns

session_kind : (e : SessionError TreeError) → IsOfTurns (of_session e)
session_kind errors.ReadFault = tt
session_kind errors.InputTooLong = tt
session_kind errors.WriteFault = tt
session_kind errors.Memory = tt
session_kind (errors.Refused (tree_errors.Overflow o)) = tt
session_kind (errors.Refused (tree_errors.Exponent o)) = tt
session_kind (errors.Refused (tree_errors.PairBudget b u)) = tt
session_kind (errors.Refused (tree_errors.Cone s)) = tt
session_kind (errors.Refused tree_errors.Memory) = tt

module _ (pairs : ℕ) (ring : List (List ℕ)) (start : MarkedPolynomials) (i j : InputSeen) (o k : OutputSeen) where
  cut_kind : (r : Refusal) → IsSessionCutOff pairs ring start i j o k r → IsOfTurns r
  cut_kind r (IsSessionCutOff.in_opening text h q f a e) = subst IsOfTurns (sym q) tt
  cut_kind r (IsSessionCutOff.in_session text then e h a c t x y q) = subst IsOfTurns (sym q) (session_kind e)

  cut_read : IsSessionCutOff pairs ring start i j o k refusals.ReadFault → Rose i.faults j.faults
  cut_read (IsSessionCutOff.in_opening text h q f a e) = cc
  cut_read (IsSessionCutOff.in_session text then errors.ReadFault h a c t x y q) = c.0
  cut_read (IsSessionCutOff.in_session text then errors.InputTooLong h a c t x y q) = cc
  cut_read (IsSessionCutOff.in_session text then errors.WriteFault h a c t x y q) = cc
  cut_read (IsSessionCutOff.in_session text then errors.Memory h a c t x y q) = cc
  cut_read (IsSessionCutOff.in_session text then (errors.Refused (tree_errors.Overflow z)) h a c t x y q) = cc
  cut_read (IsSessionCutOff.in_session text then (errors.Refused (tree_errors.Exponent z)) h a c t x y q) = cc
  cut_read (IsSessionCutOff.in_session text then (errors.Refused (tree_errors.PairBudget b u)) h a c t x y q) = cc
  cut_read (IsSessionCutOff.in_session text then (errors.Refused (tree_errors.Cone z)) h a c t x y q) = cc
  cut_read (IsSessionCutOff.in_session text then (errors.Refused tree_errors.Memory) h a c t x y q) = cc

  cut_write : IsSessionCutOff pairs ring start i j o k refusals.WriteFault → Rose o.faults k.faults
  cut_write (IsSessionCutOff.in_opening text h q f a e) = f
  cut_write (IsSessionCutOff.in_session text then errors.ReadFault h a c t x y q) = cc
  cut_write (IsSessionCutOff.in_session text then errors.InputTooLong h a c t x y q) = cc
  cut_write (IsSessionCutOff.in_session text then errors.WriteFault h a c t x y q) = c.0
  cut_write (IsSessionCutOff.in_session text then errors.Memory h a c t x y q) = cc
  cut_write (IsSessionCutOff.in_session text then (errors.Refused (tree_errors.Overflow z)) h a c t x y q) = cc
  cut_write (IsSessionCutOff.in_session text then (errors.Refused (tree_errors.Exponent z)) h a c t x y q) = cc
  cut_write (IsSessionCutOff.in_session text then (errors.Refused (tree_errors.PairBudget b u)) h a c t x y q) = cc
  cut_write (IsSessionCutOff.in_session text then (errors.Refused (tree_errors.Cone z)) h a c t x y q) = cc
  cut_write (IsSessionCutOff.in_session text then (errors.Refused tree_errors.Memory) h a c t x y q) = cc

  cut_read_calm : (r : Refusal) → (r ≡ refusals.ReadFault → ⊥) → IsSessionCutOff pairs ring start i j o k r → j.faults ≡ i.faults
  cut_read_calm r n (IsSessionCutOff.in_opening text h q f a e) = ap (λ (x : InputSeen). x.faults) e
  cut_read_calm r n (IsSessionCutOff.in_session text then errors.ReadFault h a c t x y q) = absurd (n q)
  cut_read_calm r n (IsSessionCutOff.in_session text then errors.InputTooLong h a c t x y q) = x
  cut_read_calm r n (IsSessionCutOff.in_session text then errors.WriteFault h a c t x y q) = x
  cut_read_calm r n (IsSessionCutOff.in_session text then errors.Memory h a c t x y q) = x
  cut_read_calm r n (IsSessionCutOff.in_session text then (errors.Refused z) h a c t x y q) = x

  cut_write_calm : (r : Refusal) → (r ≡ refusals.WriteFault → ⊥) → IsSessionCutOff pairs ring start i j o k r → k.faults ≡ o.faults
  cut_write_calm r n (IsSessionCutOff.in_opening text h q f a e) = absurd (n q)
  cut_write_calm r n (IsSessionCutOff.in_session text then errors.ReadFault h a c t x y q) = y
  cut_write_calm r n (IsSessionCutOff.in_session text then errors.InputTooLong h a c t x y q) = y
  cut_write_calm r n (IsSessionCutOff.in_session text then errors.WriteFault h a c t x y q) = absurd (n q)
  cut_write_calm r n (IsSessionCutOff.in_session text then errors.Memory h a c t x y q) = y
  cut_write_calm r n (IsSessionCutOff.in_session text then (errors.Refused z) h a c t x y q) = y

  cut_reach : (n : ℕ) (s : MarkedPolynomials) (r : Refusal) (source : List ℕ) → IsLedWithin pairs n s → IsStart s start → i.left ≡ Some source →
      length source ≤ 67108864 → (Rose i.faults j.faults → ⊥) → (Rose o.faults k.faults → ⊥) → IsSessionCutOff pairs ring start i j o k r → r ≡ refusals.Memory
  cut_reach n s r source w b l m nr nw (IsSessionCutOff.in_opening text h q f a e) = absurd (nw f)
  cut_reach n s r source w b l m nr nw (IsSessionCutOff.in_session text then errors.ReadFault h a c t x y q) = absurd (nr c.0)
  cut_reach n s r source w b l m nr nw (IsSessionCutOff.in_session text then errors.InputTooLong h a c t x y q) =
      let z = no_more i.left j.left i.given j.given source _ l c.talk.took in absurd (omega (arith, z, m, c.exactly))
  cut_reach n s r source w b l m nr nw (IsSessionCutOff.in_session text then errors.WriteFault h a c t x y q) = absurd (nw c.0)
  cut_reach n s r source w b l m nr nw (IsSessionCutOff.in_session text then errors.Memory h a c t x y q) = q
  cut_reach n s r source w b l m nr nw (IsSessionCutOff.in_session text then (errors.Refused e) h a c t x y q) =
      q ∙ ap of_tree (stuck_memory pairs n ring s start w b i.left j.left i.given j.given then k.held e c)

-- ---- the command

module _ (name : List ℕ) (pairs : ℕ) where
  abbrev turns : Turns (List (List ℕ) × MarkedPolynomials)
  turns = record { IsEnded = λ v i j o k. IsHeldFrom v.0 v.1 i j o k; IsCut = λ v i j o k r. IsCutFrom pairs v.0 v.1 i j o k r }

  turns_hold : AreLawfulTurns (interactive_command name pairs).IsCause (interactive_command name pairs).IsWithin turns
  turns_hold = record {
    ended = λ v r i j o k f w h. opened_refutes pairs v.1 h.start r f w h.is_start;
    cut = λ v r d i j o k f w h. opened_refutes pairs v.1 h.start r f w h.is_start;
    kind = λ v r i j o k h. cut_kind pairs v.0 h.start i j o k r h.cut;
    read = λ v i j o k h. cut_read pairs v.0 h.start i j o k h.cut;
    write = λ v i j o k h. cut_write pairs v.0 h.start i j o k h.cut;
    reach = λ v r i j o k source w l m nr nw h. cut_reach pairs v.0 h.start i j o k (length v.0) v.1 r source w h.is_start l m nr nw h.cut;
    ended_calm = λ v i j o k h. h.held.calm;
    read_calm = λ v r i j o k n h. cut_read_calm pairs v.0 h.start i j o k r n h.cut;
    write_calm = λ v r i j o k n h. cut_write_calm pairs v.0 h.start i j o k r n h.cut;
  }

  pub interactive_lawful : IsLawful (interactive_command name pairs)
  interactive_lawful = record {
    input = tt;
    reading = one_once _ (ring_and_once a_marked_set []);
    checks = λ texts v h. tt;
    work = λ texts v r h w. unopened_writing turns pairs v.1 r w;
    within = λ texts v r h w u. unopened_within pairs (length v.0) v.1 r w u;
    tests = λ texts v r d h f w k. of_one_text ring_marked_set _ texts v h (λ source x. unopened_once pairs v.1 r d (read_variables source v x) f w k);
    answers = λ texts v r text h f w a. a;
    wholes = λ texts v r text h f w a. a;
    turns = turns_hold;
    apart = λ t h. h;
  }

  -- from the text of the file on
  module _ (p q m : Seen) (o s : OutputSeen) (source : List ℕ) (loaded : AreLoaded (interactive_command name pairs).reads p m (source ∷ [])) (files : q.files ≡
      m.files) where
    pub conversed_done : IsConversed source m.input q.input o s → IsDoneBy (interactive_command name pairs) p q o s
    conversed_done c = record { texts = source ∷ []; then = m; loaded = loaded; gone = (files, (c.value, c.read, tt, c.held)); calm = c.calm }

    pub conversed_stopped : (r : Refusal) → IsNotConversed name pairs source m.input q.input o s r → IsStoppedBy (interactive_command name pairs) p q o s r
    conversed_stopped r (IsNotConversed.on_text h i e) =
        let c = interactive_command name pairs in
        let same : q ≡ m = ap₂ (λ (a : InputSeen) (b : FilesSeen). record { input = a; files = b }) i files in
        IsStoppedBy.in_work (source ∷ []) (subst (λ (z : Seen). AreLoaded c.reads p z (source ∷ [])) (sym same) loaded) h
        (subst (λ (z : OutputSeen). IsLeftInOutput c (source ∷ []) o z r) (sym e) (nothing_left c interactive_lawful (λ g. g) (source ∷ []) o r h))
        (ap (λ (x : OutputSeen). x.faults) e)
    conversed_stopped r (IsNotConversed.in_turns v t c) = IsStoppedBy.in_turns (source ∷ []) m loaded (files, (v, t, tt, c))
