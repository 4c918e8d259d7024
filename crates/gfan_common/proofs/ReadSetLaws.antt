-- What is kept of a set that is read.
-- To cite: set_kept, marked_kept; IsKeptMember, IsSetKept, set_variables, one_kept, list_kept. The rest are steps.
use Rattle.std.specs.Prelude.{◌≡◌, ℕ, zero, suc, List, [], ◌∷◌, length, map, slice_get, Some}
use Rattle.std.proofs.Common.{sym, subst}
use Rattle.gf_exponents_theory.specs.Exponents.{Exponents}
use Rattle.gf_poly.specs.declared.Term.{Term}
use Rattle.gf_poly.specs.Polynomial.{Terms, HasVariables, IsDescending}
use Rattle.gf_poly.specs.Marking.{MarkedPolynomial, MarkedPolynomials, Each, HaveVariables}
use Rattle.gf_text.specs.declared.written.Written.{Written}
use Rattle.gf_text.specs.declared.written.Written.TheVariants as written
use Rattle.gf_text.specs.declared.tree.WrittenTerm.{WrittenTerm}
use Rattle.gf_text.specs.Tokens.{Position}
use Rattle.gf_text.specs.Combining.{SumsHaveVariables}
use Rattle.gf_text.specs.Sets.{AreWritten, IsSetRead, IsMarkedRead}
use Rattle.gf_text.specs.SetLists.{AreWhatRemain, AreMarkedSets, AreMarkedSetsRead}
use Rattle.gf_text.proofs.CombiningLaws.{sums_variables}
use Rattle.gf_ideal_theory.proofs.ListLaws.{contained_each}
use Rattle.gfan_common.specs.Forms.{generators_of}
use Rattle.gfan_common.proofs.FormLaws.{AreKept}
use Rattle.gf_items.specs.Items.{IsTextOf, from}
use Rattle.gf_items.specs.Sources.{ring_marked_set}

-- the polynomials of a set have the variables of the ring, and descend
abbrev pub IsKept : ℕ → Terms → Type 0
IsKept n f = HasVariables n f × IsDescending f

written_kept : (n : ℕ) (fs : List Terms) (ws : List Written) → SumsHaveVariables n fs → AreWritten fs ws → Each (IsKept n) (generators_of ws)
written_kept n [] [] v a = tt
written_kept n [] (w ∷ ws) v a = absurd a
written_kept n (f ∷ fs) [] v a = absurd a
written_kept n (f ∷ fs) (written.Zero ∷ ws) v a = ((tt, tt), written_kept n fs ws v.1 a.1)
written_kept n (f ∷ fs) (written.Nonzero m ∷ ws) v a = ((a.0.variables.at n v.0, a.0.descending), written_kept n fs ws v.1 a.1)

pub set_kept : (ring : List (List ℕ)) (p : Position) (end : ℕ) (ws : List Written) → IsSetRead ring p end ws → AreKept (length ring) (generators_of ws)
set_kept ring p end ws s f c =
    contained_each (IsKept (length ring)) (generators_of ws) (written_kept (length ring) s.sums ws (sums_variables (length ring) s.said s.sums s.exponents)
    s.written) f c

-- of a marked set, each polynomial has the variables of the ring
nonzero_variables : (n : ℕ) (bs : List MarkedPolynomial) → Each (IsKept n) (generators_of (map (λ m. written.Nonzero m) bs)) → HaveVariables n bs
nonzero_variables n [] h = tt
nonzero_variables n (b ∷ bs) h = (h.0.0, nonzero_variables n bs h.1)

pub marked_kept : (ring : List (List ℕ)) (p : Position) (end : ℕ) (s : MarkedPolynomials) → IsMarkedRead ring p end s → HaveVariables s.variables s.items
marked_kept ring p end s h =
    let r = h.read in
    let kept = written_kept (length ring) r.sums h.written (sums_variables (length ring) r.said r.sums r.exponents) r.written in
    subst (λ n. HaveVariables n s.items) (sym h.variables) (nonzero_variables (length ring) s.items
    (subst (λ (ws : List Written). Each (IsKept (length ring)) (generators_of ws)) h.items kept))

-- ---- marked sets with their marks

-- a member has n variables, and its mark too
abbrev pub IsKeptMember : ℕ → MarkedPolynomial → Type 0
IsKeptMember n b = HasVariables n b.poly × (length b.head ≡ n)

-- each member of a set in n variables
abbrev pub IsSetKept : ℕ → MarkedPolynomials → Type 0
IsSetKept n s = (s.variables ≡ n) × Each (IsKeptMember n) s.items

members_variables : (n : ℕ) (bs : List MarkedPolynomial) → Each (IsKeptMember n) bs → HaveVariables n bs
members_variables n [] h = tt
members_variables n (b ∷ bs) h = (h.0.0, members_variables n bs h.1)

pub set_variables : (n : ℕ) (s : MarkedPolynomials) → IsSetKept n s → HaveVariables s.variables s.items
set_variables n s h = subst (λ (k : ℕ). HaveVariables k s.items) (sym h.0) (members_variables n s.items h.1)

-- a term that stands in a polynomial has its variables
mono_length : (n : ℕ) (f : Terms) (at : ℕ) (t : Term) → HasVariables n f → slice_get f at ≡ Some t → length t.mono ≡ n
mono_length n [] at t v e = cc
mono_length n (u ∷ f) zero t v e = let q : u ≡ t = cc in subst (λ (z : Term). length z.mono ≡ n) q v.0
mono_length n (u ∷ f) (suc at) t v e = mono_length n f at t v.1 e

members_kept : (n : ℕ) (fs : List Terms) (bs : List MarkedPolynomial) → SumsHaveVariables n fs → AreWritten fs (map (λ b. written.Nonzero b) bs) →
    Each (IsKeptMember n) bs
members_kept n [] [] v a = tt
members_kept n [] (b ∷ bs) v a = absurd a
members_kept n (f ∷ fs) [] v a = absurd a
members_kept n (f ∷ fs) (b ∷ bs) v a =
    let m = a.0.marked in
    ((a.0.variables.at n v.0, subst (λ (x : Exponents). length x ≡ n) m.monomial (mono_length n f m.at m.term v.0 m.stands)), members_kept n fs bs v.1 a.1)

pub one_kept : (ring : List (List ℕ)) (p : Position) (end : ℕ) (s : MarkedPolynomials) → IsMarkedRead ring p end s → IsSetKept (length ring) s
one_kept ring p end s h =
    let r = h.read in (
      h.variables,
      members_kept (length ring) r.sums s.items (sums_variables (length ring) r.said r.sums r.exponents)
          (subst (λ (ws : List Written). AreWritten r.sums ws) h.items r.written),
    )

each_kept : (n : ℕ) (said : List (List (List WrittenTerm))) (sets : List (List Written)) (ss : List MarkedPolynomials) → AreWhatRemain n said sets →
    AreMarkedSets n sets ss → Each (IsSetKept n) ss
each_kept n said [] [] h m = tt
each_kept n said [] (s ∷ ss) h m = absurd m
each_kept n said (ws ∷ sets) [] h m = absurd m
each_kept n [] (ws ∷ sets) (s ∷ ss) h m = absurd h
each_kept n (q ∷ said) (ws ∷ sets) (s ∷ ss) h m =
    let r = h.0 in (
      (m.1, members_kept n r.sums s.items (sums_variables n q r.sums r.exponents) (subst (λ (vs : List Written). AreWritten r.sums vs) m.0 r.written)),
      each_kept n said sets ss h.1 m.2,
    )

pub list_kept : (ring : List (List ℕ)) (p : Position) (end : ℕ) (ss : List MarkedPolynomials) → AreMarkedSetsRead ring p end ss →
    Each (IsSetKept (length ring)) ss
list_kept ring p end ss h = each_kept (length ring) h.read.said h.written ss h.read.remain h.marked

-- the set of a source has its variables
pub read_variables : (source : List ℕ) (v : List (List ℕ) × MarkedPolynomials) → IsTextOf ring_marked_set source v → HaveVariables v.1.variables v.1.items
read_variables source v read = marked_kept v.0 (from source read.read.behind) read.end v.1 read.read.two
