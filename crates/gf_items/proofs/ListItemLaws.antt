-- Lists of sets, of marked sets and of vectors, dimensions and names of new variables are read in one way.
-- To cite: sets_once, marked_sets_once, marked_sets_variables, list_of_vectors_once, a_dimension_once, a_new_name_once. The rest are steps.
use Rattle.std.specs.Prelude.{◌≡◌, ℕ, suc, List, [], ◌∷◌, ◌++◌, length, All, min, ◌-◌, ◌^◌, Ok, Err, ℤ}
use Rattle.std.specs.List.{AllByRecursion}
use Rattle.std.proofs.Common.{arith, refl, sym, ap, ◌∙◌, subst, inl, inr}
use Rattle.std.proofs.lemmas.List.Elements.{All-from_recursion}
use Rattle.gf_frac.specs.declared.refusal.Overflow.{Overflow}
use Rattle.gf_poly.specs.declared.monomial.ExponentOverflow.{ExponentOverflow}
use Rattle.gf_poly.specs.Marking.{MarkedPolynomials}
use Rattle.gf_text.specs.declared.error.TextError.{TextError}
use Rattle.gf_text.specs.declared.error.TextError.TheVariants as errors
use Rattle.gf_text.specs.declared.error.Syntax.{Syntax}
use Rattle.gf_text.specs.declared.tree.WrittenTerm.{WrittenTerm}
use Rattle.gf_text.specs.declared.written.Written.{Written}
use Rattle.gf_text.specs.declared.written.Written.TheVariants as written
use Rattle.gf_text.specs.Tokens.{Position, lexemes, ring_more, word_more}
use Rattle.gf_text.specs.Combining.{sums_of}
use Rattle.gf_text.specs.Sets.{AreWritten, IsFirstSumOverflow, IsWhatRemains, AreNonzero}
use Rattle.gf_text.specs.SetLists.{polynomials_of, AreWhatRemain, AreSetsRead, HaveSumOverflow, HaveExponentOverflow, HasNoSets, IsSetsCause, AreMarkedSets}
use Rattle.gf_text.specs.SetLists.{IsFirstZeroOf, AreMarkedSetsRead, HaveZeroPolynomial, IsMarkedSetsCause}
use Rattle.gf_text.specs.VectorLists.{AreVectorsRead, HasNoVectors, IsVectorsCause}
use Rattle.gf_text.specs.Singles.{IsDimensionRead, HasNoDimension, HasGreatDimension, IsDimensionCause, IsNameRead, HasNoName, IsNameCause}
use Rattle.gf_text.proofs.CombiningLaws.{sums_variables}
use Rattle.gf_text.proofs.ReadAgainLaws.{all_written, none_overflows}
use Rattle.gf_text.proofs.SetListsLaws.{all_fit, one_list_of_sets, no_sets_same}
use Rattle.gf_text.proofs.VectorListsLaws.{one_list_of_vectors, no_vectors_same}
use Rattle.gf_text.proofs.SingleTextLaws.{dimension_once, no_dimension_same, new_name_once, no_name_same}
use Rattle.gf_items.specs.Items.{a_list_of_sets_in, a_list_of_marked_sets_in, a_list_of_vectors, a_dimension, a_new_name}
use Rattle.gf_items.specs.ReadOnce.{IsSaid, IsExact, IsReadOnce}
use Rattle.gf_items.proofs.ReadingLaws.{exact_said}
use Rattle.gf_items.proofs.ItemLaws.{nonzero_once, no_zero, first_zero}

-- ---- lists of sets

remains_once : (n : ℕ) (q : List (List WrittenTerm)) (ws vs : List Written) → IsWhatRemains n q ws → IsWhatRemains n q vs → vs ≡ ws
remains_once n q ws vs a b =
    let one : sums_of n q ≡ Ok a.sums = a.exponents in
    let two : sums_of n q ≡ Ok b.sums = b.exponents in
    let sums : b.sums ≡ a.sums = cc in
    all_written n a.sums vs ws (sums_variables n q a.sums a.exponents) (subst (λ fs. AreWritten fs vs) sums b.written) a.written

remain_once : (n : ℕ) (qs : List (List (List WrittenTerm))) (sets other : List (List Written)) → AreWhatRemain n qs sets → AreWhatRemain n qs other →
    other ≡ sets
remain_once n [] [] [] a b = refl
remain_once n [] [] (v ∷ other) a b = absurd b
remain_once n [] (w ∷ sets) other a b = absurd a
remain_once n (q ∷ qs) [] other a b = absurd a
remain_once n (q ∷ qs) (w ∷ sets) [] a b = absurd b
remain_once n (q ∷ qs) (w ∷ sets) (v ∷ other) a b =
    ap (λ x. x ∷ other) (remains_once n q w v a.0 b.0) ∙ ap (λ l. w ∷ l) (remain_once n qs sets other a.1 b.1)

module _ (names : List (List ℕ)) (p : Position) where
  sets_read_once : (end other : ℕ) (a b : List (List Written)) → AreSetsRead names p end a → AreSetsRead names p other b → (other ≡ end) × (b ≡ a)
  sets_read_once end other a b h k =
      let same = one_list_of_sets names h.names (lexemes (ring_more names) p.source p.at) k.said h.said other end k.text h.text in
      (same.1, remain_once (length names) h.said a b h.remain (subst (λ qs. AreWhatRemain (length names) qs b) same.0 k.remain))

  module _ (end : ℕ) (sets : List (List Written)) (a : AreSetsRead names p end sets) where
    sum_apart : (o : Overflow) → HaveSumOverflow names p o → ⊥
    sum_apart o h =
        let said = (one_list_of_sets names a.names (lexemes (ring_more names) p.source p.at) h.said a.said h.place end h.text a.text).0 in
        let fit = all_fit (length names) a.said sets a.remain in
        let here : sums_of (length names) (polynomials_of a.said) ≡ Ok fit.sums = fit.exponents in
        let there : sums_of (length names) (polynomials_of a.said) ≡ Ok h.sums =
        ap (λ qs. sums_of (length names) (polynomials_of qs)) (sym said) ∙ h.exponents in
        let sums : h.sums ≡ fit.sums = cc in
        none_overflows fit.sums o fit.fits (subst (λ fs. IsFirstSumOverflow fs o) sums h.overflow)

    exponent_apart : (o : ExponentOverflow) → HaveExponentOverflow names p o → ⊥
    exponent_apart o h =
        let said = (one_list_of_sets names a.names (lexemes (ring_more names) p.source p.at) h.said a.said h.place end h.text a.text).0 in
        let fit = all_fit (length names) a.said sets a.remain in
        let here : sums_of (length names) (polynomials_of a.said) ≡ Ok fit.sums = fit.exponents in
        let there : sums_of (length names) (polynomials_of a.said) ≡ Err o = ap (λ qs. sums_of (length names) (polynomials_of qs)) (sym said) ∙ h.exponents in
        cc

    sets_apart : (e : TextError) → IsSetsCause names p e → IsSaid e → ⊥
    sets_apart (errors.Overflow o) h n = sum_apart o h
    sets_apart (errors.Exponent o) h n = exponent_apart o h
    sets_apart (errors.Syntax s) h n = h.none a.said end a.text
    sets_apart (errors.TooWide at) h n = h.none a.said end a.text
    sets_apart (errors.UnknownName at) h n = h.none a.said end a.text
    sets_apart (errors.TooManyVariables count) h n = h
    sets_apart (errors.ZeroPolynomial set index) h n = h
    sets_apart errors.Memory h n = n refl

  no_sets : (e : TextError) → IsSetsCause names p e → IsExact e → HasNoSets names p e
  no_sets (errors.Overflow o) h x = elim x [ inl y ↦ absurd y | inr y ↦ absurd y ]
  no_sets (errors.Exponent o) h x = elim x [ inl y ↦ absurd y | inr y ↦ absurd y ]
  no_sets (errors.Syntax s) h x = h
  no_sets (errors.TooWide at) h x = h
  no_sets (errors.UnknownName at) h x = h
  no_sets (errors.TooManyVariables count) h x = absurd h
  no_sets (errors.ZeroPolynomial set index) h x = absurd h
  no_sets errors.Memory h x = elim x [ inl y ↦ absurd y | inr y ↦ absurd y ]

  no_sets_once : (e d : TextError) → HasNoSets names p e → IsSetsCause names p d → IsSaid d → d ≡ e
  no_sets_once e (errors.Overflow o) h k m = absurd (h.none k.said k.place k.text)
  no_sets_once e (errors.Exponent o) h k m = absurd (h.none k.said k.place k.text)
  no_sets_once e (errors.Syntax s) h k m = no_sets_same names p e (errors.Syntax s) h k
  no_sets_once e (errors.TooWide at) h k m = no_sets_same names p e (errors.TooWide at) h k
  no_sets_once e (errors.UnknownName at) h k m = no_sets_same names p e (errors.UnknownName at) h k
  no_sets_once e (errors.TooManyVariables count) h k m = absurd k
  no_sets_once e (errors.ZeroPolynomial set index) h k m = absurd k
  no_sets_once e errors.Memory h k m = absurd (m refl)

pub sets_once : (names : List (List ℕ)) → IsReadOnce (a_list_of_sets_in names)
sets_once names = record {
  once = λ p end other a b h k. sets_read_once names p end other a b h k;
  apart = λ p end a e h k n. sets_apart names p end a h e k n;
  same = λ p e d h x k m. no_sets_once names p e d (no_sets names p e h x) k m;
}

-- ---- lists of marked sets

marked_sets_same : (n : ℕ) (ws : List (List Written)) (ss ts : List MarkedPolynomials) → AreMarkedSets n ws ss → AreMarkedSets n ws ts → ts ≡ ss
marked_sets_same n [] [] [] a b = refl
marked_sets_same n [] [] (t ∷ ts) a b = absurd b
marked_sets_same n [] (s ∷ ss) ts a b = absurd a
marked_sets_same n (w ∷ ws) [] ts a b = absurd a
marked_sets_same n (w ∷ ws) (s ∷ ss) [] a b = absurd b
marked_sets_same n (w ∷ ws) (s ∷ ss) (t ∷ ts) a b =
    let items : t.items ≡ s.items = nonzero_once t.items s.items (sym b.0 ∙ a.0) in
    let variables : t.variables ≡ s.variables = b.1 ∙ sym a.1 in
    let one : t ≡ s = λ i. record { variables = variables i; items = items i } in
    ap (λ x. x ∷ ts) one ∙ ap (λ l. s ∷ l) (marked_sets_same n ws ss ts a.2 b.2)

-- a set in the middle is a marked one
marked_middle : (n : ℕ) (front : List (List Written)) (w : List Written) (back : List (List Written)) (ss : List MarkedPolynomials) →
    AreMarkedSets n (front ++ w ∷ back) ss → (s : MarkedPolynomials) × AreNonzero w s.items
marked_middle n [] w back [] a = absurd a
marked_middle n [] w back (s ∷ ss) a = (s, a.0)
marked_middle n (v ∷ front) w back [] a = absurd a
marked_middle n (v ∷ front) w back (s ∷ ss) a = marked_middle n front w back ss a.2

-- the first set with a zero polynomial stands at one place
first_unmarked : (n : ℕ) (front other : List (List Written)) (ss ts : List MarkedPolynomials) (w v : List Written) (back rest : List (List Written)) →
    AreMarkedSets n front ss → AreMarkedSets n other ts
    → ((s : MarkedPolynomials) → AreNonzero w s.items → ⊥) → ((s : MarkedPolynomials) → AreNonzero v s.items → ⊥) → front ++ w ∷ back ≡ other ++ v ∷ rest →
    (length front ≡ length other) × (w ≡ v)
first_unmarked n [] [] ss ts w v back rest a b x y e = let same : w ≡ v = cc in (refl, same)
first_unmarked n [] (u ∷ other) ss [] w v back rest a b x y e = absurd b
first_unmarked n [] (u ∷ other) ss (t ∷ ts) w v back rest a b x y e = let same : u ≡ w =
    cc in absurd (x t (subst (λ (z : List Written). AreNonzero z t.items) same b.0))
first_unmarked n (u ∷ front) [] [] ts w v back rest a b x y e = absurd a
first_unmarked n (u ∷ front) [] (s ∷ ss) ts w v back rest a b x y e = let same : u ≡ v =
    cc in absurd (y s (subst (λ (z : List Written). AreNonzero z s.items) same a.0))
first_unmarked n (u ∷ front) (z ∷ other) [] ts w v back rest a b x y e = absurd a
first_unmarked n (u ∷ front) (z ∷ other) (s ∷ ss) [] w v back rest a b x y e = absurd b
first_unmarked n (u ∷ front) (z ∷ other) (s ∷ ss) (t ∷ ts) w v back rest a b x y e =
    let tails : front ++ w ∷ back ≡ other ++ v ∷ rest = cc in
    let same = first_unmarked n front other ss ts w v back rest a.2 b.2 x y tails in
    (ap (λ (k : ℕ). suc k) same.0, same.1)

-- it has a zero polynomial
unmarked : (n : ℕ) (sets : List (List Written)) (set index : ℕ) (h : IsFirstZeroOf n sets set index) (s : MarkedPolynomials) → AreNonzero h.written s.items → ⊥
unmarked n sets set index h s a = no_zero s.items h.first.front h.first.back (sym a ∙ h.first.whole)

zero_of_once : (n : ℕ) (sets : List (List Written)) (set index other place : ℕ) → IsFirstZeroOf n sets set index → IsFirstZeroOf n sets other place →
    (other ≡ set) × (place ≡ index)
zero_of_once n sets set index other place h k =
    let same = first_unmarked n k.front h.front k.marked h.marked k.written h.written k.back h.back k.before h.before (unmarked n sets other place k)
    (unmarked n sets set index h) (sym k.whole ∙ h.whole) in
    let fronts : length k.first.front ≡ length h.first.front =
    first_zero k.first.front h.first.front k.first.back h.first.back (sym k.first.whole ∙ same.1 ∙ h.first.whole) in
    (k.number ∙ ap (λ m. min m (2 ^ 32 - 1)) same.0 ∙ sym h.number, k.first.place ∙ ap (λ m. min m (2 ^ 32 - 1)) fronts ∙ sym h.first.place)

module _ (names : List (List ℕ)) (p : Position) where
  marked_read_once : (end other : ℕ) (a b : List MarkedPolynomials) → AreMarkedSetsRead names p end a → AreMarkedSetsRead names p other b →
      (other ≡ end) × (b ≡ a)
  marked_read_once end other a b h k =
      let same = sets_read_once names p end other h.written k.written h.read k.read in
      (same.0, marked_sets_same (length names) h.written a b h.marked (subst (λ ws. AreMarkedSets (length names) ws b) same.1 k.marked))

  zeros_apart : (end : ℕ) (ss : List MarkedPolynomials) (set index : ℕ) → AreMarkedSetsRead names p end ss → HaveZeroPolynomial names p set index → ⊥
  zeros_apart end ss set index a h =
      let same = sets_read_once names p end h.place a.written h.written a.read h.read in
      let whole : a.written ≡ h.first.front ++ h.first.written ∷ h.first.back = sym same.1 ∙ h.first.whole in
      let one = marked_middle (length names) h.first.front h.first.written h.first.back ss (subst (λ ws. AreMarkedSets (length names) ws ss) whole a.marked) in
      unmarked (length names) h.written set index h.first one.0 one.1

  marked_apart : (end : ℕ) (ss : List MarkedPolynomials) (e : TextError) → AreMarkedSetsRead names p end ss → IsMarkedSetsCause names p e → IsSaid e → ⊥
  marked_apart end ss (errors.Overflow o) a h n = sets_apart names p end a.written a.read (errors.Overflow o) h n
  marked_apart end ss (errors.Exponent o) a h n = sets_apart names p end a.written a.read (errors.Exponent o) h n
  marked_apart end ss (errors.Syntax s) a h n = sets_apart names p end a.written a.read (errors.Syntax s) h n
  marked_apart end ss (errors.TooWide at) a h n = sets_apart names p end a.written a.read (errors.TooWide at) h n
  marked_apart end ss (errors.UnknownName at) a h n = sets_apart names p end a.written a.read (errors.UnknownName at) h n
  marked_apart end ss (errors.TooManyVariables count) a h n = h
  marked_apart end ss (errors.ZeroPolynomial set index) a h n = zeros_apart end ss set index a h
  marked_apart end ss errors.Memory a h n = n refl

  -- where sets are read with a zero polynomial, the list of marked sets is refused by that alone
  zeros_once : (set index : ℕ) (d : TextError) → HaveZeroPolynomial names p set index → IsMarkedSetsCause names p d → IsSaid d →
      d ≡ errors.ZeroPolynomial set index
  zeros_once set index (errors.Overflow o) h k m = absurd (sets_apart names p h.place h.written h.read (errors.Overflow o) k m)
  zeros_once set index (errors.Exponent o) h k m = absurd (sets_apart names p h.place h.written h.read (errors.Exponent o) k m)
  zeros_once set index (errors.Syntax s) h k m = absurd (sets_apart names p h.place h.written h.read (errors.Syntax s) k m)
  zeros_once set index (errors.TooWide at) h k m = absurd (sets_apart names p h.place h.written h.read (errors.TooWide at) k m)
  zeros_once set index (errors.UnknownName at) h k m = absurd (sets_apart names p h.place h.written h.read (errors.UnknownName at) k m)
  zeros_once set index (errors.TooManyVariables count) h k m = absurd k
  zeros_once set index (errors.ZeroPolynomial other place) h k m =
      let same = sets_read_once names p h.place k.place h.written k.written h.read k.read in
      let both = zero_of_once (length names) h.written set index other place h.first (subst (λ ws. IsFirstZeroOf (length names) ws other place)
      same.1 k.first) in
      ap (λ n. errors.ZeroPolynomial n place) both.0 ∙ ap (λ n. errors.ZeroPolynomial set n) both.1
  zeros_once set index errors.Memory h k m = absurd (m refl)

  -- a fault of the text of sets is that of marked sets
  faults_once : (e d : TextError) → HasNoSets names p e → IsMarkedSetsCause names p d → IsSaid d → d ≡ e
  faults_once e (errors.Overflow o) h k m = no_sets_once names p e (errors.Overflow o) h k m
  faults_once e (errors.Exponent o) h k m = no_sets_once names p e (errors.Exponent o) h k m
  faults_once e (errors.Syntax s) h k m = no_sets_once names p e (errors.Syntax s) h k m
  faults_once e (errors.TooWide at) h k m = no_sets_once names p e (errors.TooWide at) h k m
  faults_once e (errors.UnknownName at) h k m = no_sets_once names p e (errors.UnknownName at) h k m
  faults_once e (errors.TooManyVariables count) h k m = absurd k
  faults_once e (errors.ZeroPolynomial set index) h k m = absurd (h.none k.read.said k.place k.read.text)
  faults_once e errors.Memory h k m = absurd (m refl)

  marked_same : (e d : TextError) → IsMarkedSetsCause names p e → IsExact e → IsMarkedSetsCause names p d → IsSaid d → d ≡ e
  marked_same (errors.Overflow o) d h x k m = elim x [ inl y ↦ absurd y | inr y ↦ absurd y ]
  marked_same (errors.Exponent o) d h x k m = elim x [ inl y ↦ absurd y | inr y ↦ absurd y ]
  marked_same (errors.Syntax s) d h x k m = faults_once (errors.Syntax s) d h k m
  marked_same (errors.TooWide at) d h x k m = faults_once (errors.TooWide at) d h k m
  marked_same (errors.UnknownName at) d h x k m = faults_once (errors.UnknownName at) d h k m
  marked_same (errors.TooManyVariables count) d h x k m = absurd h
  marked_same (errors.ZeroPolynomial set index) d h x k m = zeros_once set index d h k m
  marked_same errors.Memory d h x k m = elim x [ inl y ↦ absurd y | inr y ↦ absurd y ]

pub marked_sets_once : (names : List (List ℕ)) → IsReadOnce (a_list_of_marked_sets_in names)
marked_sets_once names = record {
  once = λ p end other a b h k. marked_read_once names p end other a b h k;
  apart = λ p end a e h k n. marked_apart names p end a e h k n;
  same = λ p e d h x k m. marked_same names p e d h x k m;
}

have_variables : (n : ℕ) (ws : List (List Written)) (ss : List MarkedPolynomials) → AreMarkedSets n ws ss →
    AllByRecursion (λ (s : MarkedPolynomials). s.variables ≡ n) ss
have_variables n [] [] a = tt
have_variables n [] (s ∷ ss) a = absurd a
have_variables n (w ∷ ws) [] a = absurd a
have_variables n (w ∷ ws) (s ∷ ss) a = (a.1, have_variables n ws ss a.2)

-- each of the sets that are read has the variables of the ring
pub marked_sets_variables : (names : List (List ℕ)) (p : Position) (end : ℕ) (ss : List MarkedPolynomials) → AreMarkedSetsRead names p end ss →
    All (λ (s : MarkedPolynomials). s.variables ≡ length names) ss
marked_sets_variables names p end ss a = All-from_recursion (λ (s : MarkedPolynomials). s.variables ≡ length names) ss
    (have_variables (length names) a.written ss a.marked)

-- ---- lists of vectors

vectors_read_once : (p : Position) (end other : ℕ) (v w : List (List ℤ)) → AreVectorsRead p end v → AreVectorsRead p other w → (other ≡ end) × (w ≡ v)
vectors_read_once p end other v w a b =
    let same = one_list_of_vectors (lexemes word_more p.source p.at) w v other end b a in
    (same.1, same.0)

no_vectors : (p : Position) (e : TextError) → IsVectorsCause p e → IsSaid e → HasNoVectors p e
no_vectors p (errors.Overflow o) h n = absurd h
no_vectors p (errors.Exponent o) h n = absurd h
no_vectors p (errors.Syntax s) h n = h
no_vectors p (errors.TooWide at) h n = h
no_vectors p (errors.UnknownName at) h n = absurd h
no_vectors p (errors.TooManyVariables count) h n = absurd h
no_vectors p (errors.ZeroPolynomial set index) h n = absurd h
no_vectors p errors.Memory h n = absurd (n refl)

pub list_of_vectors_once : IsReadOnce a_list_of_vectors
list_of_vectors_once = record {
  once = vectors_read_once;
  apart = λ p end v e a h n. (no_vectors p e h n).none v end a;
  same = λ p e d h x k m. no_vectors_same p e d (no_vectors p e h (exact_said e x)) (no_vectors p d k m);
}

-- ---- dimensions

dimensions_once : (p : Position) (end other n m : ℕ) → IsDimensionRead p end n → IsDimensionRead p other m → (other ≡ end) × (m ≡ n)
dimensions_once p end other n m a b =
    let same = dimension_once (lexemes word_more p.source p.at) m n other end b.text a.text in
    (same.1, same.0)

great_apart : (p : Position) (end n count : ℕ) → IsDimensionRead p end n → HasGreatDimension p count → ⊥
great_apart p end n count a h =
    let same : n ≡ count = (dimension_once (lexemes word_more p.source p.at) n count end h.place a.text h.text).0 in
    omega (arith, a.few, h.many)

dimension_apart : (p : Position) (end n : ℕ) (e : TextError) → IsDimensionRead p end n → IsDimensionCause p e → IsSaid e → ⊥
dimension_apart p end n (errors.Overflow o) a h m = h
dimension_apart p end n (errors.Exponent o) a h m = h
dimension_apart p end n (errors.Syntax s) a h m = h.none n end a.text
dimension_apart p end n (errors.TooWide at) a h m = h.none n end a.text
dimension_apart p end n (errors.UnknownName at) a h m = h
dimension_apart p end n (errors.TooManyVariables count) a h m = great_apart p end n count a h
dimension_apart p end n (errors.ZeroPolynomial set index) a h m = h
dimension_apart p end n errors.Memory a h m = h

no_dimension_once : (p : Position) (e d : TextError) → HasNoDimension p e → IsDimensionCause p d → d ≡ e
no_dimension_once p e (errors.Overflow o) h k = absurd k
no_dimension_once p e (errors.Exponent o) h k = absurd k
no_dimension_once p e (errors.Syntax s) h k = no_dimension_same p e (errors.Syntax s) h k
no_dimension_once p e (errors.TooWide at) h k = no_dimension_same p e (errors.TooWide at) h k
no_dimension_once p e (errors.UnknownName at) h k = absurd k
no_dimension_once p e (errors.TooManyVariables count) h k = absurd (h.none count k.place k.text)
no_dimension_once p e (errors.ZeroPolynomial set index) h k = absurd k
no_dimension_once p e errors.Memory h k = absurd k

great_once : (p : Position) (count : ℕ) (d : TextError) → HasGreatDimension p count → IsDimensionCause p d → d ≡ errors.TooManyVariables count
great_once p count (errors.Overflow o) h k = absurd k
great_once p count (errors.Exponent o) h k = absurd k
great_once p count (errors.Syntax s) h k = absurd (k.none count h.place h.text)
great_once p count (errors.TooWide at) h k = absurd (k.none count h.place h.text)
great_once p count (errors.UnknownName at) h k = absurd k
great_once p count (errors.TooManyVariables other) h k =
    ap (λ n. errors.TooManyVariables n) (dimension_once (lexemes word_more p.source p.at) other count k.place h.place k.text h.text).0
great_once p count (errors.ZeroPolynomial set index) h k = absurd k
great_once p count errors.Memory h k = absurd k

dimension_same : (p : Position) (e d : TextError) → IsDimensionCause p e → IsDimensionCause p d → d ≡ e
dimension_same p (errors.Overflow o) d h k = absurd h
dimension_same p (errors.Exponent o) d h k = absurd h
dimension_same p (errors.Syntax s) d h k = no_dimension_once p (errors.Syntax s) d h k
dimension_same p (errors.TooWide at) d h k = no_dimension_once p (errors.TooWide at) d h k
dimension_same p (errors.UnknownName at) d h k = absurd h
dimension_same p (errors.TooManyVariables count) d h k = great_once p count d h k
dimension_same p (errors.ZeroPolynomial set index) d h k = absurd h
dimension_same p errors.Memory d h k = absurd h

pub a_dimension_once : IsReadOnce a_dimension
a_dimension_once = record {
  once = dimensions_once;
  apart = dimension_apart;
  same = λ p e d h x k m. dimension_same p e d h k;
}

-- ---- names of new variables

no_name : (names : List (List ℕ)) (p : Position) (e : TextError) → IsNameCause names p e → HasNoName names p e
no_name names p (errors.Overflow o) h = absurd h
no_name names p (errors.Exponent o) h = absurd h
no_name names p (errors.Syntax s) h = h
no_name names p (errors.TooWide at) h = absurd h
no_name names p (errors.UnknownName at) h = absurd h
no_name names p (errors.TooManyVariables count) h = absurd h
no_name names p (errors.ZeroPolynomial set index) h = absurd h
no_name names p errors.Memory h = absurd h

names_once : (names : List (List ℕ)) (p : Position) (end other : ℕ) (n m : List ℕ) → IsNameRead names p end n → IsNameRead names p other m →
    (other ≡ end) × (m ≡ n)
names_once names p end other n m a b =
    let same = new_name_once names (lexemes word_more p.source p.at) m n other end b a in
    (same.1, same.0)

pub a_new_name_once : (names : List (List ℕ)) → IsReadOnce (a_new_name names)
a_new_name_once names = record {
  once = names_once names;
  apart = λ p end n e a h m. (no_name names p e h).none n end a;
  same = λ p e d h x k m. no_name_same names p e d (no_name names p e h) (no_name names p d k);
}
