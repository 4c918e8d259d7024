-- From what the reader, the checks, the algorithm and the printer promise to what is answered.
-- To cite: within_bounded, order_entries, order_suits, suited_by, entries_by; basis_refused, of_ring, named_job. The rest are steps.
use Rattle.std.specs.Prelude.{◌≡◌, ℕ, Bool, true, false, List, length, Option, None, Some, ℤ}
use Rattle.std.proofs.Common.{arith, refl, sym, ◌∙◌, subst, inl, inr}
use Rattle.gf_exponents_theory.specs.Exponents.{Exponents}
use Rattle.gf_exponents_theory.specs.Orders.{gains}
use Rattle.gf_exponents_theory.specs.SixOrders.{MonomialOrder}
use Rattle.gf_exponents_theory.proofs.WholeWeightLaws.{length-gains}
use Rattle.gf_order.specs.Weights.{AreBounded}
use Rattle.gf_order.specs.Comparisons.{HasEntries}
use Rattle.gf_poly.specs.Polynomial.{Terms}
use Rattle.gf_text.specs.declared.written.Written.{Written}
use Rattle.gf_text.specs.Sets.{AreIn}
use Rattle.gf_text.specs.Vectors.{AreEntriesWithin}
use Rattle.gf_buchberger.specs.declared.bases.BasisError.{BasisError}
use Rattle.gf_buchberger.specs.declared.bases.BasisError.TheVariants as basis_errors
use Rattle.gf_buchberger.specs.declared.queue.Strategy.TheVariants as strategies
use Rattle.gf_buchberger.specs.Ruled.{AreRuledRunsWithinLimits}
use Rattle.gf_buchberger.specs.Bases.{IsBasisRefusal, IsWantOfMemory}
use Rattle.gf_buchberger.specs.declared.homogeneity.NotHomogeneous.{NotHomogeneous}
use Rattle.gf_buchberger.specs.Tasks.{HaveRingVariables, IsSuited}
use Rattle.gf_buchberger.proofs.TaskLaws.{orders_that_suit}
use Rattle.gf_front.specs.declared.options.BuchbergerOptions.{BuchbergerOptions}
use Rattle.gf_front.specs.declared.refusal.Refusal.{Refusal}
use Rattle.gf_front.specs.declared.refusal.Refusal.TheVariants as refusals
use Rattle.gf_items.specs.Items.{IsTextOf}
use Rattle.gf_items.specs.Sources.{ring_set_vector}
use Rattle.gf_items.specs.Checks.{AllHold, FirstFails}
use Rattle.gf_frame.specs.Commands.{IsUnanswered}
use Rattle.gfan_common.specs.Forms.{generators_of, FitsVariables, IsFirstNotTaken, form}
use Rattle.gfan_sets.specs.Buchberger.{asked_order, buchberger_command}
use Rattle.gfan_common.specs.Causes.{of_basis}
use Rattle.gfan_common.specs.Refused.{IsNamedBy, IsOfSource}
use Rattle.gfan_common.proofs.WrittenSetLaws.{first_variables, in_ring, lent_names}

-- ---- the order

pub within_bounded : (w : List ℤ) → AreEntriesWithin w → AreBounded w
within_bounded w h = λ k d l. omega (arith, h k d l)

pub order_entries : (n : ℕ) (revlex : Bool) (weight : Option (List ℤ)) → FitsVariables n weight → HasEntries n (asked_order revlex weight)
order_entries n false None h = tt
order_entries n true None h = tt
order_entries n false (Some w) h = length-gains w ∙ h
order_entries n true (Some w) h = length-gains w ∙ h

pub order_suits : (n : ℕ) (revlex : Bool) (weight : Option (List ℤ)) (fs : List Terms) → HaveRingVariables n fs → AllHold (form revlex n weight fs) →
    IsSuited (asked_order revlex weight) n fs
order_suits n false None fs v g = orders_that_suit.lex n fs v
order_suits n true None fs v g = orders_that_suit.revlex n fs v g.1.0
order_suits n false (Some w) fs v g = orders_that_suit.weighted n (gains w) fs v
order_suits n true (Some w) fs v g = orders_that_suit.weighted_revlex n w fs v g.1.1.0 (length-gains w ∙ g.0)

pub suited_by : (n k r : ℕ) (revlex : Bool) (weight : Option (List ℤ)) (ws : List Written) (fs : List Terms) (order : MonomialOrder) → n ≡ r → k ≡ r →
    AreIn r ws → fs ≡ generators_of ws → order ≡ asked_order revlex weight → AllHold (form revlex n weight (generators_of ws)) → IsSuited order k fs
suited_by n k r revlex weight ws fs order p q v e d g =
    let formed : AllHold (form revlex k weight (generators_of ws)) = subst (λ z. AllHold (form revlex z weight (generators_of ws))) (p ∙ sym q) g in
    let ring : HaveRingVariables k (generators_of ws) = in_ring k ws (generators_of ws) (subst (λ z. AreIn z ws) (sym q) v) refl in
    subst (λ z. IsSuited z k fs) (sym d) (subst (IsSuited (asked_order revlex weight) k) (sym e) (order_suits k revlex weight (generators_of ws) ring formed))

pub entries_by : (n k r : ℕ) (revlex : Bool) (weight : Option (List ℤ)) (order : MonomialOrder) → n ≡ r → k ≡ r → order ≡ asked_order revlex weight →
    FitsVariables n weight → HasEntries k order
entries_by n k r revlex weight order p q d h = subst (HasEntries k) (sym d) (order_entries k revlex weight (subst (λ z. FitsVariables z weight) (p ∙ sym q) h))

-- ---- the command

pub basis_refused : (o : BuchbergerOptions) (n k : ℕ) (ring : List (List ℕ)) (weight : Option (List ℤ)) (ws : List Written) (fs : List Terms)
    (order : MonomialOrder) (e : BasisError) → n ≡ length ring → k ≡ length ring → fs ≡ generators_of ws → order ≡ asked_order o.revlex weight →
    AllHold (form o.revlex n weight (generators_of ws)) → IsBasisRefusal order k fs o.pairs e →
    (AreRuledRunsWithinLimits strategies.Degree order fs o.pairs → IsWantOfMemory e) → IsUnanswered (buchberger_command o) (ring, (ws, weight)) (of_basis e)
basis_refused o n k ring weight ws fs order e p q f d g h m =
    IsUnanswered.in_work (subst (λ z. AllHold (form o.revlex z weight (generators_of ws))) p g) (
      e,
      refl,
      subst (λ z. IsBasisRefusal z (length ring) (generators_of ws) o.pairs e) d (subst (λ z. IsBasisRefusal order z (generators_of ws) o.pairs e) q
          (subst (λ z. IsBasisRefusal order k z o.pairs e) f h)),
      subst (λ z. AreRuledRunsWithinLimits strategies.Degree z (generators_of ws) o.pairs → IsWantOfMemory e) d
          (subst (λ z. AreRuledRunsWithinLimits strategies.Degree order z o.pairs → IsWantOfMemory e) f m),
    )

pub of_ring : (o : BuchbergerOptions) (source : List ℕ) (ring : List (List ℕ)) (set : List Written) (w : Option (List ℤ)) →
    IsTextOf (ring_set_vector o.weighted) source (ring, (set, w)) → (e : Refusal) → IsNamedBy (Some ring) e →
    IsOfSource source (record { refusal = e; ring = Some ring })
of_ring o source ring set w r e h = record { named = h; ring = (r.read.behind, r.read.one) }

-- ---- the names of monomials

not_taken_variables : (n : ℕ) (revlex : Bool) (weight : Option (List ℤ)) (fs : List Terms) (e : NotHomogeneous) → HaveRingVariables n fs →
    IsFirstNotTaken revlex weight fs e → (length e.first ≡ n) × (length e.second ≡ n)
not_taken_variables n false weight fs e v h = absurd h
not_taken_variables n true None fs e v h = first_variables n fs e v h
not_taken_variables n true (Some w) fs e v h = absurd h

no_basis : (e : BasisError) (p : ℕ) (x y : Exponents) → refusals.NotHomogeneous p x y ≡ of_basis e → ⊥
no_basis (basis_errors.Overflow o) p x y e = cc
no_basis (basis_errors.Exponent o) p x y e = cc
no_basis (basis_errors.PairBudget b u) p x y e = cc
no_basis basis_errors.Memory p x y e = cc

not_taken : (o : BuchbergerOptions) (ring : List (List ℕ)) (set : List Written) (weight : Option (List ℤ)) (p : ℕ) (x y : Exponents) →
    IsUnanswered (buchberger_command o) (ring, (set, weight)) (refusals.NotHomogeneous p x y)
    → IsFirstNotTaken o.revlex weight (generators_of set) (record { polynomial = p; first = x; second = y })
not_taken o ring set weight p x y (IsUnanswered.in_form (inl h)) = absurd h
not_taken o ring set weight p x y (IsUnanswered.in_form (inr (l, inl h))) = h
not_taken o ring set weight p x y (IsUnanswered.in_form (inr (l, inr (t, inl h)))) = absurd h
not_taken o ring set weight p x y (IsUnanswered.in_form (inr (l, inr (t, inr (w, h))))) = absurd h
not_taken o ring set weight p x y (IsUnanswered.in_work g (e, q, h, m)) = absurd (no_basis e p x y q)
not_taken o ring set weight p x y (IsUnanswered.no_memory m) = cc

-- refusals of checks of bases, which name monomials or polynomials
abbrev IsOfChecks : Refusal → Type 0
IsOfChecks (refusals.NotReduced s p t) = Unit {0}
IsOfChecks (refusals.NotBasis s i j r) = Unit {0}
IsOfChecks (refusals.NotListed side index remainder) = Unit {0}
IsOfChecks _ = ⊥

no_check : (e : BasisError) → IsOfChecks (of_basis e) → ⊥
no_check (basis_errors.Overflow o) k = k
no_check (basis_errors.Exponent o) k = k
no_check (basis_errors.PairBudget b u) k = k
no_check basis_errors.Memory k = k

no_form : (revlex : Bool) (n : ℕ) (weight : Option (List ℤ)) (fs : List Terms) (r : Refusal) → FirstFails (form revlex n weight fs) r → IsOfChecks r → ⊥
no_form revlex n weight fs (refusals.NotReduced s p t) (inl h) k = h
no_form revlex n weight fs (refusals.NotReduced s p t) (inr (l, inl h)) k = h
no_form revlex n weight fs (refusals.NotReduced s p t) (inr (l, inr (d, inl h))) k = h
no_form revlex n weight fs (refusals.NotReduced s p t) (inr (l, inr (d, inr (w, h)))) k = h
no_form revlex n weight fs (refusals.NotBasis s i j r) (inl h) k = h
no_form revlex n weight fs (refusals.NotBasis s i j r) (inr (l, inl h)) k = h
no_form revlex n weight fs (refusals.NotBasis s i j r) (inr (l, inr (d, inl h))) k = h
no_form revlex n weight fs (refusals.NotBasis s i j r) (inr (l, inr (d, inr (w, h)))) k = h
no_form revlex n weight fs (refusals.NotListed s i r) (inl h) k = h
no_form revlex n weight fs (refusals.NotListed s i r) (inr (l, inl h)) k = h
no_form revlex n weight fs (refusals.NotListed s i r) (inr (l, inr (d, inl h))) k = h
no_form revlex n weight fs (refusals.NotListed s i r) (inr (l, inr (d, inr (w, h)))) k = h
no_form revlex n weight fs _ h k = k

not_of_checks : (o : BuchbergerOptions) (ring : List (List ℕ)) (set : List Written) (weight : Option (List ℤ)) (r : Refusal) →
    IsUnanswered (buchberger_command o) (ring, (set, weight)) r → IsOfChecks r → ⊥
not_of_checks o ring set weight r (IsUnanswered.in_form h) k = no_form o.revlex (length ring) weight (generators_of set) r h k
not_of_checks o ring set weight r (IsUnanswered.in_work g (e, q, h, m)) k = no_check e (subst IsOfChecks q k)
not_of_checks o ring set weight r (IsUnanswered.no_memory m) k = subst IsOfChecks m k

pub named_job : (o : BuchbergerOptions) (ring : List (List ℕ)) (set : List Written) (weight : Option (List ℤ)) (e : Refusal) →
    HaveRingVariables (length ring) (generators_of set) → IsUnanswered (buchberger_command o) (ring, (set, weight)) e → IsNamedBy (Some ring) e
named_job o ring set weight (refusals.NotHomogeneous p x y) v h = λ lent is.
    let variables = not_taken_variables (length ring) o.revlex weight (generators_of set) (record { polynomial = p; first = x; second = y }) v
    (not_taken o ring set weight p x y h) in
    (lent_names ring x lent is variables.0, lent_names ring y lent is variables.1)
named_job o ring set weight (refusals.NotReduced s p t) v h = absurd (not_of_checks o ring set weight (refusals.NotReduced s p t) h tt)
named_job o ring set weight (refusals.NotBasis s i j r) v h = absurd (not_of_checks o ring set weight (refusals.NotBasis s i j r) h tt)
named_job o ring set weight (refusals.NotListed s i r) v h = absurd (not_of_checks o ring set weight (refusals.NotListed s i r) h tt)
named_job o ring set weight _ v h = λ lent is. tt
