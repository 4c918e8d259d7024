-- Whether an ideal contains polynomials: what is told one by one holds of all, and why it isn't told.
-- To cite: zero_member, members_next, not_member, all_members, in_next, some_refused, member_refused, members_moved;
-- containment_refused, named_containment, containment_answered; containment_work, containment_within, containment_once,
-- containment_refuses. The rest are steps.
use Rattle.std.specs.Prelude.{◌≡◌, ◌↔◌, ◌⊎◌, ℕ, zero, suc, ◌+◌, ◌<◌, ◌≤◌, Bool, true, false, List, [], ◌∷◌, length, take, slice_index_or, Contains, IsTrue}
use Rattle.std.specs.Prelude.{Some, Err}
use Rattle.std.proofs.Common.{arith, refl, sym, ap, ◌∙◌, subst, inl, inr}
use Rattle.std.proofs.lemmas.List.{take_all}
use Rattle.gf_int_theory.proofs.ListLaws.{Contains-here, Contains-last}
use Rattle.gf_poly.specs.declared.error.PolyError.{PolyError}
use Rattle.gf_poly.specs.declared.error.PolyError.TheVariants as errors
use Rattle.gf_poly.specs.Polynomial.{Terms}
use Rattle.gf_poly.specs.Marking.{MarkedPolynomial, MarkedPolynomials, HaveVariables, polys, IsArranged}
use Rattle.gf_ideal_theory.specs.Membership.{IsMember}
use Rattle.gf_ideal_theory.proofs.MembershipLaws.{member-zero}
use Rattle.gf_ideal_theory.proofs.ListLaws.{Contains-there}
use Rattle.gf_division.specs.Steps.{IsReductionRefusal}
use Rattle.gf_reduced.specs.declared.error.CheckError.{CheckError}
use Rattle.gf_reduced.specs.declared.error.CheckError.TheVariants as check_errors
use Rattle.gf_reduced.specs.Forms.{monic_set}
use Rattle.gf_reduced.specs.Markings.{IsMarkedGroebnerBasis, IsBasisOf}
use Rattle.gf_reduced.specs.Refusals.{of_poly}
use Rattle.gf_reduced.proofs.RefusalLaws.{basis_only_memory}
use Rattle.gf_text.specs.declared.written.Written.{Written}
use Rattle.gf_text.specs.declared.written.Written.TheVariants as written
use Rattle.gf_text.specs.Sets.{IsIn, AreIn}
use Rattle.gf_front.specs.declared.refusal.Refusal.{Refusal}
use Rattle.gf_front.specs.declared.refusal.Refusal.TheVariants as refusals
use Rattle.gf_items.specs.Items.{IsTextOf, from}
use Rattle.gf_items.specs.Sources.{ring_marked_set_and_set}
use Rattle.gf_items.specs.Refusals.{IsOfTest, IsOfNumbers, TellsSame, IsOfWork}
use Rattle.gf_frame.specs.Commands.{IsAnswered, IsUnanswered, IsRefusedOn}
use Rattle.gfan_common.specs.Forms.{polynomial_of, generators_of}
use Rattle.gfan_common.specs.Printing.{verdict_text}
use Rattle.gfan_common.specs.CheckedSets.{of_check, IsSomeReductionRefusal}
use Rattle.gfan_sets.specs.Containment.{AllAreMembers, IsContainmentRefusal, IsContainmentWithin, IsContainmentText, containment_command}
use Rattle.gfan_common.specs.Refused.{IsNamedBy}
use Rattle.gfan_common.proofs.WrittenSetLaws.{polynomials_next}
use Rattle.gfan_common.proofs.ReadSetLaws.{marked_kept}
use Rattle.gfan_common.proofs.CheckedSetLaws.{named_check, named_numbers, check_work, poly_numbers, poly_untested, paired_once, paired_refutes}
use Rattle.gfan_sets.proofs.MarkedLaws.{verdict-of}

-- ---- one by one

-- zero is a member
pub zero_member : (n : ℕ) (gs : List Terms) (w : Written) → w ≡ written.Zero → IsTrue true ↔ IsMember n gs (polynomial_of w)
zero_member n gs w e = (λ t. subst (λ (z : Written). IsMember n gs (polynomial_of z)) (sym e) (member-zero n gs), λ m. refl)

pub members_next : (n : ℕ) (gs : List Terms) (ws : List Written) (i : ℕ) (w : Written) → i < length ws → w ≡ slice_index_or ws i w →
    AllAreMembers n gs (generators_of (take i ws)) → IsMember n gs (polynomial_of w) → AllAreMembers n gs (generators_of (take (i + 1) ws))
members_next n gs ws i w l e h m =
    subst (AllAreMembers n gs) (polynomials_next ws i w (generators_of (take i ws)) (polynomial_of w) l e refl refl)
    (λ f c. elim (Contains-last (generators_of (take i ws)) (polynomial_of w) f c) [ inl k ↦ h f k | inr q ↦ subst (IsMember n gs) (sym q) m ])

generator_at : (ws : List Written) (i : ℕ) (w : Written) → i < length ws → w ≡ slice_index_or ws i w → Contains (generators_of ws) (polynomial_of w)
generator_at [] i w l e = absurd (omega arith)
generator_at (v ∷ ws) zero w l e = subst (Contains (generators_of (v ∷ ws))) (ap polynomial_of (sym e)) (Contains-here (polynomial_of v) (generators_of ws))
generator_at (v ∷ ws) (suc i) w l e = Contains-there (polynomial_of v) (polynomial_of w) (generators_of ws) (generator_at ws i w (omega arith) e)

-- one that isn't a member
pub not_member : (n : ℕ) (gs : List Terms) (ws : List Written) (i : ℕ) (w : Written) (b : Bool) → i < length ws → w ≡ slice_index_or ws i w → b ≡ false →
    IsTrue b ↔ IsMember n gs (polynomial_of w) → IsTrue false ↔ AllAreMembers n gs (generators_of ws)
not_member n gs ws i w b l e q h = (λ t. absurd (cc), λ a. sym q ∙ h.1 (a (polynomial_of w) (generator_at ws i w l e)))

pub all_members : (n : ℕ) (gs : List Terms) (ws : List Written) (i : ℕ) → length ws ≤ i → AllAreMembers n gs (generators_of (take i ws)) →
    IsTrue true ↔ AllAreMembers n gs (generators_of ws)
all_members n gs ws i l h = (λ t. subst (λ (xs : List Written). AllAreMembers n gs (generators_of xs)) (take_all i ws l) h, λ a. refl)

pub in_next : (n : ℕ) (ws : List Written) (i : ℕ) (w : Written) → AreIn n ws → i < length ws → w ≡ slice_index_or ws i w → IsIn n w
in_next n [] i w h l e = absurd (omega arith)
in_next n (v ∷ ws) zero w h l e = subst (IsIn n) (sym e) h.0
in_next n (v ∷ ws) (suc i) w h l e = in_next n ws i w h.1 (omega arith) e

pub some_refused : (bs : List MarkedPolynomial) (ws : List Written) (i : ℕ) (w : Written) (e : PolyError) → i < length ws → w ≡ slice_index_or ws i w →
    IsReductionRefusal bs (polynomial_of w) e → IsSomeReductionRefusal bs (generators_of ws) e
some_refused bs ws i w (errors.Overflow o) l p h = record { polynomial = polynomial_of w; contained = generator_at ws i w l p; cause = h }
some_refused bs ws i w (errors.Exponent o) l p h = record { polynomial = polynomial_of w; contained = generator_at ws i w l p; cause = h }
some_refused bs ws i w errors.Memory l p h = tt

-- ---- by the basis, and by the set that was read

pub member_refused : (s t : MarkedPolynomials) (fs : List Terms) (d : PolyError) → IsBasisOf s t → IsArranged (monic_set s) t →
    IsSomeReductionRefusal t.items fs d → IsContainmentRefusal s fs (of_poly d)
member_refused s t fs d b a h = IsContainmentRefusal.at_member t d b.marked a h refl

pub members_moved : (s t : MarkedPolynomials) (fs : List Terms) (b : Bool) → t.variables ≡ s.variables → IsBasisOf s t →
    IsTrue b ↔ AllAreMembers t.variables (polys t.items) fs → IsTrue b ↔ AllAreMembers s.variables (polys s.items) fs
members_moved s t fs b q h told =
    let here = subst (λ n. IsTrue b ↔ AllAreMembers n (polys t.items) fs) q told in
    (λ x f c. h.ideal.back f (here.0 x f c), λ a. here.1 (λ f c. h.ideal.inside f (a f c)))

-- ---- the command

pub containment_refused : (source : List ℕ) (ring : List (List ℕ)) (s : MarkedPolynomials) (ws : List Written) (e : CheckError) (r : Refusal) →
    IsTextOf ring_marked_set_and_set source (ring, (s, ws)) → IsContainmentRefusal s (generators_of ws) e → r ≡ of_check e →
    IsRefusedOn containment_command (source ∷ []) r
containment_refused source ring s ws e r read h q = IsRefusedOn.behind_text (ring, (s, ws)) read (IsUnanswered.in_work tt (e, q, h))

pub named_containment : (source : List ℕ) (ring : List (List ℕ)) (s : MarkedPolynomials) (ws : List Written) (e : CheckError) →
    IsTextOf ring_marked_set_and_set source (ring, (s, ws)) → IsContainmentRefusal s (generators_of ws) e → IsNamedBy (Some ring) (of_check e)
named_containment source ring s ws e read (IsContainmentRefusal.at_basis h) =
    let m = read.read.two.one in named_check (Unit {0}) 0 ring s e m.variables (marked_kept ring (from source read.read.behind) read.read.two.behind s m) h
named_containment source ring s ws e read (IsContainmentRefusal.at_member t d g a h q) =
    subst (λ z. IsNamedBy (Some ring) (of_check z)) (sym q) (named_numbers ring d)

pub containment_answered : (source text : List ℕ) (ring : List (List ℕ)) (s : MarkedPolynomials) (ws : List Written) (b : Bool) →
    IsTextOf ring_marked_set_and_set source (ring, (s, ws)) → IsMarkedGroebnerBasis s.variables s.items → IsTrue b ↔ AllAreMembers s.variables (polys s.items)
    (generators_of ws) → text ≡ verdict_text b → IsAnswered containment_command (source ∷ []) text
containment_answered source text ring s ws b read g h e = record {
  value = (ring, (s, ws));
  read = read;
  answer = record {
    formed = tt;
    is_answer = record { basis = g; verdict = verdict-of (AllAreMembers s.variables (polys s.items) (generators_of ws)) b text h e };
  };
}

-- ---- its laws

pub containment_work : (s : MarkedPolynomials) (fs : List Terms) (r : Refusal) → (e : CheckError) × (r ≡ of_check e) × IsContainmentRefusal s fs e → IsOfWork r
containment_work s fs r h = subst IsOfWork (sym h.1) (check_work h.0)

-- within its limits
reduced_within : (bs : List MarkedPolynomial) (fs : List Terms) (d : PolyError) → ((f : Terms) (e : PolyError) → Contains fs f → IsReductionRefusal bs f e →
    e ≡ errors.Memory) → IsSomeReductionRefusal bs fs d → d ≡ errors.Memory
reduced_within bs fs (errors.Overflow o) w h = w h.polynomial (errors.Overflow o) h.contained h.cause
reduced_within bs fs (errors.Exponent o) w h = w h.polynomial (errors.Exponent o) h.contained h.cause
reduced_within bs fs errors.Memory w h = refl

refusal_within : (s : MarkedPolynomials) (fs : List Terms) (e : CheckError) → IsContainmentWithin s fs → IsContainmentRefusal s fs e → e ≡ check_errors.Memory
refusal_within s fs e w (IsContainmentRefusal.at_basis h) = basis_only_memory {A = Unit {0}} 0 s (Err e) w.variables h w.checks w.basis
refusal_within s fs e w (IsContainmentRefusal.at_member t d g a h q) = q ∙ ap of_poly (reduced_within t.items fs d (λ f z c k. w.members t f a c z k) h)

pub containment_within : (s : MarkedPolynomials) (fs : List Terms) (r : Refusal) → IsContainmentWithin s fs →
    (e : CheckError) × (r ≡ of_check e) × IsContainmentRefusal s fs e → r ≡ refusals.Memory
containment_within s fs r w h = h.1 ∙ ap of_check (refusal_within s fs h.0 w h.2)

refusal_once : (s : MarkedPolynomials) (fs : List Terms) (e d : CheckError) → HaveVariables s.variables s.items → IsOfTest (of_check e) →
    IsContainmentRefusal s fs e → IsContainmentRefusal s fs d → TellsSame (of_check e) (of_check d) ⊎ IsOfNumbers (of_check d)
refusal_once s fs e d v t (IsContainmentRefusal.at_basis h) (IsContainmentRefusal.at_basis k) = paired_once (Unit {0}) (Unit {0}) 0 s e d v t h k
refusal_once s fs e d v t (IsContainmentRefusal.at_basis h) (IsContainmentRefusal.at_member b z g a k q) =
    inr (subst (λ x. IsOfNumbers (of_check x)) (sym q) (poly_numbers z))
refusal_once s fs e d v t (IsContainmentRefusal.at_member b z g a h q) k = absurd (poly_untested z (subst (λ x. IsOfTest (of_check x)) q t))

-- the set of a source has its variables
read_variables : (source : List ℕ) (v : List (List ℕ) × (MarkedPolynomials × List Written)) → IsTextOf ring_marked_set_and_set source v →
    HaveVariables v.1.0.variables v.1.0.items
read_variables source v read = marked_kept v.0 (from source read.read.behind) read.read.two.behind v.1.0 read.read.two.one

pub containment_once : (source : List ℕ) (v : List (List ℕ) × (MarkedPolynomials × List Written)) (r d : Refusal) → IsTextOf ring_marked_set_and_set source v →
    IsOfTest r
    → (e : CheckError) × (r ≡ of_check e) × IsContainmentRefusal v.1.0 (generators_of v.1.1) e →
    (e : CheckError) × (d ≡ of_check e) × IsContainmentRefusal v.1.0 (generators_of v.1.1) e → TellsSame r d ⊎ IsOfNumbers d
containment_once source v r d read t h k =
    let once = refusal_once v.1.0 (generators_of v.1.1) h.0 k.0 (read_variables source v read) (subst IsOfTest h.1 t) h.2 k.2 in
    subst (λ x. TellsSame r x ⊎ IsOfNumbers x) (sym k.1) (subst (λ x. TellsSame x (of_check k.0) ⊎ IsOfNumbers (of_check k.0)) (sym h.1) once)

-- a set that is refused isn't a basis
refusal_refutes : (s : MarkedPolynomials) (fs : List Terms) (e : CheckError) → HaveVariables s.variables s.items → IsOfTest (of_check e) →
    IsContainmentRefusal s fs e → IsMarkedGroebnerBasis s.variables s.items → ⊥
refusal_refutes s fs e v t (IsContainmentRefusal.at_basis h) g = paired_refutes (Unit {0}) 0 s e v t h g
refusal_refutes s fs e v t (IsContainmentRefusal.at_member b z m a h q) g = poly_untested z (subst (λ x. IsOfTest (of_check x)) q t)

pub containment_refuses : (source : List ℕ) (v : List (List ℕ) × (MarkedPolynomials × List Written)) (r : Refusal) (text : List ℕ) →
    IsTextOf ring_marked_set_and_set source v → IsOfTest r
    → (e : CheckError) × (r ≡ of_check e) × IsContainmentRefusal v.1.0 (generators_of v.1.1) e → IsContainmentText v.1.0 (generators_of v.1.1) text → ⊥
containment_refuses source v r text read t h a = refusal_refutes v.1.0 (generators_of v.1.1) h.0 (read_variables source v read) (subst IsOfTest h.1 t)
    h.2 a.basis
