-- A set is read in one way, and is not refused where it is read; so printed sets are read again as what they are.
-- To cite: all_written, read_once, none_overflows, not_refused, sets_again, bases_again. The rest are steps.
use Rattle.std.proofs.Common.{◌≡◌, ◌<◌, ◌+◌, ℕ, List, [], ◌∷◌, ◌++◌, length, flat_map, map, slice_get, IfSome, Option, Ok, Err, Some, refl, sym, ap, subst, ◌∙◌}
use Rattle.std.proofs.Common.{inl, inr, arith}
use Rattle.std.proofs.lemmas.Bool.{cases_lt}
use Rattle.gf_frac.specs.Fraction.{Fraction, ◌+ℚ◌, zero_ℚ}
use Rattle.gf_frac.specs.Fits.{FitsAdd}
use Rattle.gf_frac.specs.declared.refusal.Overflow.{Overflow}
use Rattle.gf_frac.proofs.FractionLaws.{+ℚ_assoc, +ℚ-zero}
use Rattle.gf_exponents_theory.specs.Exponents.{Exponents}
use Rattle.gf_poly.specs.declared.Term.{Term}
use Rattle.gf_poly.specs.Polynomial.{Terms, HasVariables, coefficient}
use Rattle.gf_poly.specs.Collecting.{sum_of_coefficients, SumsFit, SumsFitFrom, LikeSumsFit, IsLikeSumOverflow}
use Rattle.gf_poly.specs.Marking.{MarkedPolynomial, MarkedPolynomials}
use Rattle.gf_poly.proofs.CoefficientLaws.{descending_unique}
use Rattle.gf_text.specs.declared.error.TextError.{TextError}
use Rattle.gf_text.specs.declared.error.TextError.TheVariants as errors
use Rattle.gf_text.specs.declared.tree.WrittenTerm.{WrittenTerm}
use Rattle.gf_text.specs.declared.written.Written.{Written}
use Rattle.gf_text.specs.declared.written.Written.TheVariants as written
use Rattle.gf_text.specs.Tokens.{Position, lexemes, ring_more}
use Rattle.gf_text.specs.RingText.{IsRing}
use Rattle.gf_text.specs.Machine.{Reads}
use Rattle.gf_text.specs.SetText.{IsSetText}
use Rattle.gf_text.specs.Combining.{SumsHaveVariables, NoneRemains, IsFirstRemaining, IsSumMarked, sums_of}
use Rattle.gf_text.specs.Sets.{IsWritten, AreWritten, AllSumsFit, IsFirstSumOverflow, IsSetRead, IsSetCause, HasNoSet, IsMarkedRead, IsMarkedCause}
use Rattle.gf_text.specs.PrintedSets.{marked_text, polynomial_text, members_text, basis_text}
use Rattle.gf_text.specs.WrittenText.{AreWrittenKept, AreKept, polynomials_text, set_text, IsReadAs, IsReadAsMarked, SetsAreReadAgain, BasesAreReadAgain}
use Rattle.gf_text.proofs.CombiningLaws.{sums_variables}
use Rattle.gf_text.proofs.SetMachineLaws.{one_set}
use Rattle.gf_text.proofs.PrintedPolynomialsLaws.{all_said, set_again}
use Rattle.gf_text.proofs.CombinedAgainLaws.{all_listed, sums_listed, listed_fit, listed_written}

-- ---- what is left of a sum is one polynomial

-- the coefficient at the monomial of a term that stands at a place
vanishes : (f : Terms) (t : Term) (o : Option Term) → o ≡ Some t → IfSome o (λ s. coefficient f s.mono ≡ zero_ℚ) → coefficient f t.mono ≡ zero_ℚ
vanishes f t o is h = subst (λ p. IfSome p (λ s. coefficient f s.mono ≡ zero_ℚ)) is h

not_before : (f : Terms) (x y : Exponents) (a : IsFirstRemaining f x) (b : IsFirstRemaining f y) → a.at < b.at → ⊥
not_before f x y a b h = a.remains (ap (coefficient f) (sym a.monomial) ∙ vanishes f a.term (slice_get f a.at) a.stands (b.before a.at h))

first_same : (f : Terms) (x y : Exponents) → IsFirstRemaining f x → IsFirstRemaining f y → x ≡ y
first_same f x y a b = elim (cases_lt a.at b.at) [
  | inl h ↦ absurd (not_before f x y a b h)
  | inr h ↦ elim (cases_lt b.at a.at) [
    | inl k ↦ absurd (not_before f y x b a k)
    | inr k ↦
        let places : a.at ≡ b.at = omega arith in
        let one : Some a.term ≡ Some b.term = sym a.stands ∙ ap (slice_get f) places ∙ b.stands in
        let same : a.term ≡ b.term = cc in
        sym a.monomial ∙ ap (λ (t : Term). t.mono) same ∙ b.monomial
  ]
]

none_remains : (f : Terms) (x : Exponents) → NoneRemains f → IsFirstRemaining f x → ⊥
none_remains f x none a = a.remains (ap (coefficient f) (sym a.monomial) ∙ vanishes f a.term (slice_get f a.at) a.stands (none a.at))

marked_same : (n : ℕ) (f : Terms) (m k : MarkedPolynomial) → HasVariables n f → IsSumMarked f m → IsSumMarked f k → m ≡ k
marked_same n f m k variables a b =
    let polys : m.poly ≡ k.poly = descending_unique n m.poly k.poly (a.variables.at n variables) (b.variables.at n variables) a.descending b.descending
    (λ e. a.sum e ∙ sym (b.sum e)) in
    let heads : m.head ≡ k.head = first_same f m.head k.head a.marked b.marked in
    λ i. record { poly = polys i; head = heads i }

one_written : (n : ℕ) (f : Terms) (w v : Written) → HasVariables n f → IsWritten f w → IsWritten f v → w ≡ v
one_written n f written.Zero written.Zero variables a b = refl
one_written n f written.Zero (written.Nonzero k) variables a b = absurd (none_remains f k.head a b.marked)
one_written n f (written.Nonzero m) written.Zero variables a b = absurd (none_remains f m.head b a.marked)
one_written n f (written.Nonzero m) (written.Nonzero k) variables a b = ap (λ p. written.Nonzero p) (marked_same n f m k variables a b)

pub all_written : (n : ℕ) (fs : List Terms) (ws vs : List Written) → SumsHaveVariables n fs → AreWritten fs ws → AreWritten fs vs → ws ≡ vs
all_written n [] [] [] variables a b = refl
all_written n [] [] (v ∷ vs) variables a b = absurd b
all_written n [] (w ∷ ws) vs variables a b = absurd a
all_written n (f ∷ fs) [] vs variables a b = absurd a
all_written n (f ∷ fs) (w ∷ ws) [] variables a b = absurd b
all_written n (f ∷ fs) (w ∷ ws) (v ∷ vs) variables a b =
    ap (λ x. x ∷ ws) (one_written n f w v variables.0 a.0 b.0) ∙ ap (λ l. v ∷ l) (all_written n fs ws vs variables.1 a.1 b.1)

-- ---- a set is read in one way

pub read_once : (ring : List (List ℕ)) (old : Position) (place end : ℕ) (ws vs : List Written) → IsSetRead ring old place ws → IsSetRead ring old end vs →
    (end ≡ place) × (vs ≡ ws)
read_once ring old place end ws vs a b =
    let same = one_set ring a.names (lexemes (ring_more ring) old.source old.at) b.said a.said end place b.text a.text in
    let said : b.said ≡ a.said = same.0 in
    let exponents = a.exponents in
    let again : sums_of (length ring) a.said ≡ Ok b.sums = ap (sums_of (length ring)) (sym said) ∙ b.exponents in
    let sums : b.sums ≡ a.sums = cc in
    let variables = sums_variables (length ring) a.said a.sums a.exponents in
    (same.1, all_written (length ring) a.sums vs ws variables (subst (λ fs. AreWritten fs vs) sums b.written) a.written)

-- ---- and isn't refused then

fits_last : (c : Fraction) (earlier later : Terms) (t : Term) → SumsFitFrom c (earlier ++ t ∷ later) → FitsAdd (c +ℚ sum_of_coefficients earlier) t.coef
fits_last c [] later t fits = subst (λ k. FitsAdd k t.coef) (sym (+ℚ-zero c)) fits.0
fits_last c (s ∷ earlier) later t fits = subst (λ k. FitsAdd k t.coef) (+ℚ_assoc c s.coef (sum_of_coefficients earlier))
    (fits_last (c +ℚ s.coef) earlier later t fits.1)

fits_at : (earlier later : Terms) (t : Term) → 0 < length earlier → SumsFit (earlier ++ t ∷ later) → FitsAdd (sum_of_coefficients earlier) t.coef
fits_at [] later t some fits = absurd (omega arith)
fits_at (s ∷ earlier) later t some fits = fits_last s.coef earlier later t fits

no_overflow : (f : Terms) (o : Overflow) → LikeSumsFit f → IsLikeSumOverflow f o → ⊥
no_overflow f o fits over =
    let all : SumsFit (over.earlier ++ over.last ∷ over.later) = subst SumsFit over.split (fits.at over.at) in
    over.leaves (subst (λ k. FitsAdd k o.right) (sym over.left) (subst (λ k. FitsAdd (sum_of_coefficients over.earlier) k) (sym over.right)
    (fits_at over.earlier over.later over.last over.some all)))

fit_in : (front back : List Terms) (f : Terms) → AllSumsFit (front ++ f ∷ back) → LikeSumsFit f
fit_in [] back f fits = fits.0
fit_in (g ∷ front) back f fits = fit_in front back f fits.1

pub none_overflows : (fs : List Terms) (o : Overflow) → AllSumsFit fs → IsFirstSumOverflow fs o → ⊥
none_overflows fs o fits over = no_overflow over.sum o (fit_in over.front over.back over.sum (subst AllSumsFit over.whole fits)) over.overflow

module _ (ring : List (List ℕ)) (is : IsRing ring) (old : Position) (place : ℕ) (ws : List Written) (a : IsSetRead ring old place ws) where
  -- what another text says of the same place is the same
  same_said : (said : List (List WrittenTerm)) (end : ℕ) → Reads (IsSetText ring) (lexemes (ring_more ring) old.source old.at) said end → said ≡ a.said
  same_said said end h = (one_set ring is (lexemes (ring_more ring) old.source old.at) said a.said end place h a.text).0

  no_fault : (e : TextError) → HasNoSet ring old e → ⊥
  no_fault e h = h.none a.said place a.text

  pub not_refused : (e : TextError) → IsSetCause ring old e → e ≡ errors.Memory
  not_refused (errors.Overflow o) h =
      let said = same_said h.said h.place h.text in
      let exponents = a.exponents in
      let again : sums_of (length ring) a.said ≡ Ok h.sums = ap (sums_of (length ring)) (sym said) ∙ h.exponents in
      let sums : h.sums ≡ a.sums = cc in
      absurd (none_overflows a.sums o a.fits (subst (λ fs. IsFirstSumOverflow fs o) sums h.overflow))
  not_refused (errors.Exponent o) h =
      let said = same_said h.said h.place h.text in
      let exponents = a.exponents in
      let again : sums_of (length ring) a.said ≡ Err o = ap (sums_of (length ring)) (sym said) ∙ h.exponents in
      cc
  not_refused (errors.Syntax s) h = absurd (no_fault (errors.Syntax s) h)
  not_refused (errors.TooWide at) h = absurd (no_fault (errors.TooWide at) h)
  not_refused (errors.UnknownName at) h = absurd (no_fault (errors.UnknownName at) h)
  not_refused (errors.TooManyVariables count) h = absurd h
  not_refused (errors.ZeroPolynomial set index) h = absurd h
  not_refused errors.Memory h = refl

-- ---- printed sets

pub sets_again : SetsAreReadAgain
sets_again ring gap ws before text is space kept =
    let source = before ++ (set_text gap ring ws ++ text) in
    let place = length before + length (set_text gap ring ws) in
    let said = set_again ring is gap ws before text space kept in
    let read : IsSetRead ring (record { source = source; at = length before }) place ws = record {
      names = is;
      said = all_said ws;
      text = said;
      sums = all_listed (length ring) ws;
      exponents = sums_listed (length ring) ws kept;
      fits = listed_fit (length ring) ws kept;
      written = listed_written (length ring) ws kept;
    } in
    record {
      read = read;
      only = λ end vs other. read_once ring (record { source = source; at = length before }) place end ws vs read other;
      taken = λ e cause. not_refused ring is (record { source = source; at = length before }) place ws read e cause;
    }

-- ---- printed bases

abbrev nonzero : List MarkedPolynomial → List Written
nonzero ms = map (λ m. written.Nonzero m) ms

more_same : (ring : List (List ℕ)) (ms : List MarkedPolynomial) →
    flat_map (λ k. 44 ∷ 10 ∷ marked_text ring k) ms ≡ flat_map (λ v. 44 ∷ ((10 ∷ []) ++ polynomial_text ring v)) (nonzero ms)
more_same ring [] = refl
more_same ring (m ∷ ms) = ap (λ l. (44 ∷ 10 ∷ marked_text ring m) ++ l) (more_same ring ms)

members_same : (ring : List (List ℕ)) (ms : List MarkedPolynomial) → members_text ring ms ≡ polynomials_text (10 ∷ []) ring (nonzero ms)
members_same ring [] = refl
members_same ring (m ∷ ms) = ap (λ l. marked_text ring m ++ l) (more_same ring ms)

basis_same : (ring : List (List ℕ)) (ms : List MarkedPolynomial) → set_text (10 ∷ []) ring (nonzero ms) ≡ basis_text ring ms
basis_same ring ms = ap (λ l. 123 ∷ 10 ∷ (l ++ 125 ∷ [])) (sym (members_same ring ms))

nonzero_kept : (n : ℕ) (ms : List MarkedPolynomial) → AreKept n ms → AreWrittenKept n (nonzero ms)
nonzero_kept n [] kept = tt
nonzero_kept n (m ∷ ms) kept = (kept.0, nonzero_kept n ms kept.1)

nonzero_once : (ms ks : List MarkedPolynomial) → nonzero ms ≡ nonzero ks → ms ≡ ks
nonzero_once [] [] e = refl
nonzero_once [] (k ∷ ks) e = cc
nonzero_once (m ∷ ms) [] e = cc
nonzero_once (m ∷ ms) (k ∷ ks) e =
    let heads : m ≡ k = cc in
    let tails : nonzero ms ≡ nonzero ks = cc in
    ap (λ x. x ∷ ms) heads ∙ ap (λ l. k ∷ l) (nonzero_once ms ks tails)

no_zero : (ms front : List MarkedPolynomial) (back : List Written) → nonzero ms ≡ nonzero front ++ written.Zero ∷ back → ⊥
no_zero [] [] back e = cc
no_zero [] (k ∷ front) back e = cc
no_zero (m ∷ ms) [] back e = cc
no_zero (m ∷ ms) (k ∷ front) back e = let tails : nonzero ms ≡ nonzero front ++ written.Zero ∷ back = cc in no_zero ms front back tails

module _ (ring : List (List ℕ)) (is : IsRing ring) (old : Position) (place : ℕ) (ms : List MarkedPolynomial) (a : IsReadAs ring old place (nonzero ms)) where
  all : MarkedPolynomials
  all = record { variables = length ring; items = ms }

  only_marked : (end : ℕ) (r : MarkedPolynomials) → IsMarkedRead ring old end r → (end ≡ place) × (r ≡ record { variables = length ring; items = ms })
  only_marked end r other =
      let same = a.only end other.written other.read in
      let items : r.items ≡ ms = nonzero_once r.items ms (sym other.items ∙ same.1) in
      let variables = other.variables in
      (same.0, λ i. record { variables = variables i; items = items i })

  marked_taken : (e : TextError) → IsMarkedCause ring old e → e ≡ errors.Memory
  marked_taken (errors.Overflow o) h = a.taken (errors.Overflow o) h
  marked_taken (errors.Exponent o) h = a.taken (errors.Exponent o) h
  marked_taken (errors.Syntax s) h = a.taken (errors.Syntax s) h
  marked_taken (errors.TooWide at) h = a.taken (errors.TooWide at) h
  marked_taken (errors.UnknownName at) h = a.taken (errors.UnknownName at) h
  marked_taken (errors.TooManyVariables count) h = absurd h
  marked_taken (errors.ZeroPolynomial set index) h = absurd (no_zero ms h.first.front h.first.back (sym (a.only h.place h.written h.read).1 ∙ h.first.whole))
  marked_taken errors.Memory h = refl

  marked_again : IsReadAsMarked ring old place (record { variables = length ring; items = ms })
  marked_again = record {
    read = record { written = nonzero ms; read = a.read; items = refl; variables = refl };
    only = only_marked;
    taken = marked_taken;
  }

pub bases_again : BasesAreReadAgain
bases_again ring ms before text is kept =
    let P : List ℕ → Type 0 = λ bs. IsReadAsMarked ring (record { source = before ++ (bs ++ text); at = length before }) (length before + length bs)
    (record { variables = length ring; items = ms }) in
    let words = set_text (10 ∷ []) ring (nonzero ms) in
    subst P (basis_same ring ms)
    (marked_again ring is (record { source = before ++ (words ++ text); at = length before }) (length before + length words) ms
    (sets_again ring (10 ∷ []) (nonzero ms) before text is refl (nonzero_kept (length ring) ms kept)))
