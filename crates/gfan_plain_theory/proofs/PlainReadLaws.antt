-- What is read where each polynomial is written as a monomial or as the difference of two, without numbers: sets of such binomials, and no sum of like
-- terms leaves the range.
-- To cite: tells_text, no_weight, basis_never, tree_never, check_never, poly_never; set_binomials, marked_binomials, sum_never, set_text_never,
-- marked_text_never.
use Rattle.std.specs.Prelude.{◌≡◌, ℕ, Bool, true, false, List, [], ◌∷◌, length, map, Contains}
use Rattle.std.proofs.Common.{refl, sym, ap, ◌∙◌, subst}
use Rattle.gf_frac.specs.declared.refusal.Overflow.{Overflow}
use Rattle.gf_exponents_theory.specs.SixOrders.{MonomialOrder}
use Rattle.gf_exponents_theory.proofs.ExponentsLaws.{same_lists, entries_same}
use Rattle.gf_poly.specs.declared.error.PolyError.{PolyError}
use Rattle.gf_poly.specs.declared.error.PolyError.TheVariants as errors
use Rattle.gf_poly.specs.Polynomial.{Terms, HasVariables}
use Rattle.gf_poly.specs.Marking.{MarkedPolynomial, MarkedPolynomials, Each, HasMarkedTerm}
use Rattle.gf_poly.proofs.CoefficientLaws.{term_length}
use Rattle.gf_poly.proofs.InitialFormLaws.{occurs}
use Rattle.gf_ideal_theory.proofs.ListLaws.{each_contained, contained_each}
use Rattle.gf_text.specs.declared.error.TextError.{TextError}
use Rattle.gf_text.specs.declared.error.TextError.TheVariants as text_errors
use Rattle.gf_text.specs.declared.tree.WrittenTerm.{WrittenTerm}
use Rattle.gf_text.specs.declared.written.Written.{Written}
use Rattle.gf_text.specs.declared.written.Written.TheVariants as written
use Rattle.gf_text.specs.Machine.{Reads}
use Rattle.gf_text.specs.Tokens.{Position, lexemes, ring_more}
use Rattle.gf_text.specs.Rings.{IsRingRead}
use Rattle.gf_text.specs.SetText.{IsSetText}
use Rattle.gf_text.specs.Combining.{SumsHaveVariables, IsSumMarked}
use Rattle.gf_text.specs.Sets.{AreWritten, IsSetRead, IsMarkedRead, HasSumOverflow}
use Rattle.gf_text.proofs.CombiningLaws.{sums_variables}
use Rattle.gf_text.proofs.SetMachineLaws.{one_set}
use Rattle.gf_buchberger.specs.declared.bases.BasisError.{BasisError}
use Rattle.gf_buchberger.specs.declared.bases.BasisError.TheVariants as basis_errors
use Rattle.gf_buchberger.specs.Bases.{IsBasisRefusal}
use Rattle.gf_reduced.specs.declared.error.CheckError.{CheckError}
use Rattle.gf_reduced.specs.declared.error.CheckError.TheVariants as check_errors
use Rattle.gf_reduced.specs.Refusals.{of_poly}
use Rattle.gfan_lists.specs.TreeError.{TreeError}
use Rattle.gfan_lists.specs.TreeError.TheVariants as tree_errors
use Rattle.gf_reverse_theory.specs.Upward.{Fan}
use Rattle.gfan_lists.specs.Refusals.{IsTreeRefusal}
use Rattle.gf_weights.specs.declared.error.WeightError.{WeightError}
use Rattle.gf_weights.specs.declared.error.WeightError.TheVariants as weight_errors
use Rattle.gf_binomials_theory.specs.Binomials.{IsBinomial, AreBinomials}
use Rattle.gfan_fans.specs.Sets.{IsBinomialSet}
use Rattle.gfan_fans.specs.Written.{ArePlainlyWritten, written_polynomials}
use Rattle.gfan_fans.proofs.LawsHold.{refusals_tell_no_overflow, plain_sets_are_binomials}
use Rattle.gf_front.specs.declared.refusal.Refusal.TheVariants as refusals
use Rattle.gf_items.specs.Items.{from, a_vector, IsOneRefused, IsRefusedWhere, IsTextRefused}
use Rattle.gf_items.specs.Sources.{ring_set_vector, ring_marked_set}
use Rattle.gf_items.specs.Refusals.{of_text}
use Rattle.gf_items.proofs.ItemLaws.{ring_once}
use Rattle.gfan_common.specs.Forms.{generators_of}
use Rattle.gfan_common.specs.Causes.{of_basis, of_weight_error, of_tree}
use Rattle.gfan_common.specs.CheckedSets.{of_check}
use Rattle.gfan_plain_theory.specs.PlainInputs.{BeginsPlainly}
use Rattle.gfan_common.proofs.ReadSetLaws.{IsKeptMember, marked_kept, one_kept}

-- ---- what a refusal tells

pub tells_text : (e : TextError) (x : Overflow) → refusals.Overflow x ≡ of_text e → e ≡ text_errors.Overflow x
tells_text (text_errors.Overflow o) x q = let s : o ≡ x = cc in ap (λ z. text_errors.Overflow z) s
tells_text (text_errors.Exponent o) x q = cc
tells_text (text_errors.Syntax s) x q = cc
tells_text (text_errors.TooWide at) x q = cc
tells_text (text_errors.UnknownName at) x q = cc
tells_text (text_errors.TooManyVariables count) x q = cc
tells_text (text_errors.ZeroPolynomial set index) x q = cc
tells_text text_errors.Memory x q = cc

pub no_weight : (e : WeightError) (x : Overflow) → refusals.Overflow x ≡ of_weight_error e → ⊥
no_weight (weight_errors.Cone o) x q = cc
no_weight (weight_errors.Wide w) x q = cc
no_weight weight_errors.Memory x q = cc

-- ---- runs and searches

pub basis_never : (order : MonomialOrder) (n : ℕ) (fs : List Terms) (pairs : ℕ) (e : BasisError) (x : Overflow) → AreBinomials fs →
    IsBasisRefusal order n fs pairs e → refusals.Overflow x ≡ of_basis e → ⊥
basis_never order n fs pairs (basis_errors.Overflow o) x b h q = refusals_tell_no_overflow.basis order n fs pairs o b h
basis_never order n fs pairs (basis_errors.Exponent o) x b h q = cc
basis_never order n fs pairs (basis_errors.PairBudget s u) x b h q = cc
basis_never order n fs pairs basis_errors.Memory x b h q = cc

pub tree_never : (F : Fan) (pairs : ℕ) (e : TreeError) (x : Overflow) → ((o : Overflow) → IsTreeRefusal F pairs (tree_errors.Overflow o) → ⊥) →
    IsTreeRefusal F pairs e → refusals.Overflow x ≡ of_tree e → ⊥
tree_never F pairs (tree_errors.Overflow o) x never h q = never o h
tree_never F pairs (tree_errors.Exponent o) x never h q = cc
tree_never F pairs (tree_errors.PairBudget s u) x never h q = cc
tree_never F pairs (tree_errors.Cone o) x never h q = cc
tree_never F pairs tree_errors.Memory x never h q = cc

pub check_never : (s : MarkedPolynomials) (e : CheckError) (x : Overflow) → ((o : Overflow) → e ≡ check_errors.Overflow o → ⊥) →
    refusals.Overflow x ≡ of_check e → ⊥
check_never s (check_errors.Overflow o) x never q = never o refl
check_never s (check_errors.Exponent o) x never q = cc
check_never s (check_errors.NotReduced set polynomial term) x never q = cc
check_never s (check_errors.NotBasis set first second remainder) x never q = cc
check_never s (check_errors.Inconsistent set multipliers) x never q = cc
check_never s (check_errors.Cone o) x never q = cc
check_never s check_errors.Memory x never q = cc

pub poly_never : (e : PolyError) (x : Overflow) → ((o : Overflow) → e ≡ errors.Overflow o → ⊥) → refusals.Overflow x ≡ of_check (of_poly e) → ⊥
poly_never (errors.Overflow o) x never q = never o refl
poly_never (errors.Exponent o) x never q = cc
poly_never errors.Memory x never q = cc

-- ---- what is read

-- a polynomial that is read is marked at one of its terms
marked_term : (n : ℕ) (f : Terms) (m : MarkedPolynomial) → HasVariables n f → IsSumMarked f m → length m.head ≡ n → HasMarkedTerm m
marked_term n f m v h l =
    let t = occurs m.poly m.head (λ z. h.marked.remains (sym (h.sum m.head) ∙ z)) in
    let e : m.head ≡ t.0.mono = same_lists m.head t.0.mono (l ∙ sym (term_length n m.poly t.0 (h.variables.at n v) t.1)) (entries_same m.head t.0.mono t.2) in
    record { descending = h.descending; mark = t.0.coef; term = subst (λ z. Contains m.poly (record { coef = t.0.coef; mono = z })) (sym e) t.1 }

pub members_marked : (n : ℕ) (fs : List Terms) (bs : List MarkedPolynomial) → SumsHaveVariables n fs → AreWritten fs (map (λ b. written.Nonzero b) bs) →
    Each (IsKeptMember n) bs → Each HasMarkedTerm bs
members_marked n [] [] v a k = tt
members_marked n [] (b ∷ bs) v a k = absurd a
members_marked n (f ∷ fs) [] v a k = absurd a
members_marked n (f ∷ fs) (b ∷ bs) v a k = (marked_term n f b v.0 a.0 k.0.1, members_marked n fs bs v.1 a.1 k.1)

pub each_member : (bs : List MarkedPolynomial) → Each IsBinomial (generators_of (map (λ b. written.Nonzero b) bs)) → Each (λ b. IsBinomial b.poly) bs
each_member [] h = tt
each_member (b ∷ bs) h = (h.0, each_member bs h.1)

pub same_generators : (ws : List Written) → written_polynomials ws ≡ generators_of ws
same_generators [] = refl
same_generators (written.Zero ∷ ws) = ap (λ fs. [] ∷ fs) (same_generators ws)
same_generators (written.Nonzero m ∷ ws) = ap (λ fs. m.poly ∷ fs) (same_generators ws)

module _ (source : List ℕ) (b : BeginsPlainly source) where
  -- the source begins with one ring, and behind it one set
  pub said_plain : (behind : ℕ) (ring : List (List ℕ)) (said : List (List WrittenTerm)) (place : ℕ) → IsRingRead (from source 0) behind ring →
      Reads (IsSetText ring) (lexemes (ring_more ring) source behind) said place → ArePlainlyWritten said
  said_plain behind ring said place r t =
      let same = ring_once.once (from source 0) behind b.behind ring b.ring r b.is_ring in
      let moved =
      subst (λ n. Reads (IsSetText ring) (lexemes (ring_more ring) source n) b.said b.place) same.0
      (subst (λ z. Reads (IsSetText z) (lexemes (ring_more z) source b.behind) b.said b.place) same.1 b.is_set) in
      subst ArePlainlyWritten (one_set ring r.ring (lexemes (ring_more ring) source behind) b.said said b.place place moved t).0 b.plain

  pub sum_never : (behind : ℕ) (ring : List (List ℕ)) (o : Overflow) → IsRingRead (from source 0) behind ring → HasSumOverflow ring (from source behind) o → ⊥
  sum_never behind ring o r h =
      plain_sets_are_binomials.sums (length ring) h.said o (said_plain behind ring h.said h.place r h.text) (h.sums, h.exponents, h.overflow)

  pub set_binomials : (behind : ℕ) (ring : List (List ℕ)) (place : ℕ) (ws : List Written) → IsRingRead (from source 0) behind ring →
      IsSetRead ring (from source behind) place ws → AreBinomials (generators_of ws)
  set_binomials behind ring place ws r h =
      subst AreBinomials (same_generators ws)
      (plain_sets_are_binomials.meaning (length ring) h.said ws (said_plain behind ring h.said place r h.text)
      (record { sums = h.sums; exponents = h.exponents; fits = h.fits; written = h.written }))

  pub marked_binomials : (behind : ℕ) (ring : List (List ℕ)) (place : ℕ) (s : MarkedPolynomials) → IsRingRead (from source 0) behind ring →
      IsMarkedRead ring (from source behind) place s → IsBinomialSet s
  marked_binomials behind ring place s r h =
      let k = one_kept ring (from source behind) place s h in
      let terms =
      members_marked (length ring) h.read.sums s.items (sums_variables (length ring) h.read.said h.read.sums h.read.exponents)
      (subst (λ ws. AreWritten h.read.sums ws) h.items h.read.written) k.1 in
      let each =
      each_member s.items
      (each_contained IsBinomial _ (subst (λ ws. AreBinomials (generators_of ws)) h.items (set_binomials behind ring place h.written r h.read))) in
      record {
        variables = marked_kept ring (from source behind) place s h;
        marked = contained_each HasMarkedTerm s.items terms;
        binomials = contained_each (λ c. IsBinomial c.poly) s.items each;
      }

  -- the text isn't refused so
  vector_never : (asked : Bool) (p : Position) (o : Overflow) → IsRefusedWhere asked a_vector p (text_errors.Overflow o) → ⊥
  vector_never true p o h = h
  vector_never false p o h = h

  pub set_text_never : (asked : Bool) (o : Overflow) → IsTextRefused (ring_set_vector asked) source (text_errors.Overflow o) → ⊥
  set_text_never asked o (IsTextRefused.in_items (IsOneRefused.at_first h)) = h
  set_text_never asked o (IsTextRefused.in_items (IsOneRefused.at_second behind ring r (IsOneRefused.at_first h))) = sum_never behind ring o r h
  set_text_never asked o (IsTextRefused.in_items (IsOneRefused.at_second behind ring r (IsOneRefused.at_second place ws s h))) =
      vector_never asked (from source place) o h
  set_text_never asked o (IsTextRefused.behind_items end a s r m q) = cc

  pub marked_text_never : (o : Overflow) → IsTextRefused ring_marked_set source (text_errors.Overflow o) → ⊥
  marked_text_never o (IsTextRefused.in_items (IsOneRefused.at_first h)) = h
  marked_text_never o (IsTextRefused.in_items (IsOneRefused.at_second behind ring r h)) = sum_never behind ring o r h
  marked_text_never o (IsTextRefused.behind_items end a s r m q) = cc
