-- Rings, sets, marked sets and vectors are read in one way.
-- To cite: ring_once, set_once, nonzero_once, no_zero, first_zero, marked_set_once, vector_once. The rest are steps.
use Rattle.std.specs.Prelude.{◌≡◌, ℕ, suc, List, [], ◌∷◌, ◌++◌, length, map, min, ◌-◌, ◌^◌, ℤ}
use Rattle.std.proofs.Common.{arith, refl, sym, ap, ◌∙◌, inl, inr}
use Rattle.gf_poly.specs.Marking.{MarkedPolynomial, MarkedPolynomials}
use Rattle.gf_text.specs.declared.error.TextError.{TextError}
use Rattle.gf_text.specs.declared.error.TextError.TheVariants as errors
use Rattle.gf_text.specs.declared.error.Syntax.{Syntax}
use Rattle.gf_text.specs.declared.written.Written.{Written}
use Rattle.gf_text.specs.declared.written.Written.TheVariants as written
use Rattle.gf_text.specs.Tokens.{Position, lexemes, word_more}
use Rattle.gf_text.specs.Rings.{IsRingRead, IsRingCause, HasNoRing, HasTooMany}
use Rattle.gf_text.specs.Sets.{IsSetRead, IsSetCause, HasNoSet, IsMarkedRead, IsMarkedCause, HasZeroPolynomial}
use Rattle.gf_text.specs.Vectors.{IsVectorRead, IsVectorCause, HasNoVector}
use Rattle.gf_text.proofs.RingTextLaws.{one_ring}
use Rattle.gf_text.proofs.RingKindsLaws.{no_ring_same}
use Rattle.gf_text.proofs.SetKindsLaws.{no_set_same}
use Rattle.gf_text.proofs.VectorTextLaws.{one_vector}
use Rattle.gf_text.proofs.VectorKindsLaws.{no_vector_same}
use Rattle.gf_text.proofs.ReadAgainLaws.{read_once, not_refused}
use Rattle.gf_items.specs.Items.{a_ring, a_set_in, a_marked_set_in, a_vector}
use Rattle.gf_items.specs.ReadOnce.{IsSaid, IsExact, IsReadOnce}
use Rattle.gf_items.proofs.ReadingLaws.{exact_said}

-- ---- rings

rings_once : (p : Position) (end other : ℕ) (a b : List (List ℕ)) → IsRingRead p end a → IsRingRead p other b → (other ≡ end) × (b ≡ a)
rings_once p end other a b h k =
    let same = one_ring (lexemes word_more p.source p.at) b a other end k.text h.text in
    (same.1, same.0)

too_many : (p : Position) (at : ℕ) (names : List (List ℕ)) (count : ℕ) → IsRingRead p at names → HasTooMany p count → ⊥
too_many p at names count a h =
    let same = one_ring (lexemes word_more p.source p.at) names h.names at h.place a.text h.text in
    omega (arith, ap length same.0, a.ring.few, h.number, h.many)

ring_apart : (p : Position) (at : ℕ) (names : List (List ℕ)) (e : TextError) → IsRingRead p at names → IsRingCause p e → IsSaid e → ⊥
ring_apart p at names (errors.Overflow o) a h n = h
ring_apart p at names (errors.Exponent o) a h n = h
ring_apart p at names (errors.Syntax s) a h n = h.none names at a.text
ring_apart p at names (errors.TooWide place) a h n = h
ring_apart p at names (errors.UnknownName place) a h n = h
ring_apart p at names (errors.TooManyVariables count) a h n = too_many p at names count a h
ring_apart p at names (errors.ZeroPolynomial set index) a h n = h
ring_apart p at names errors.Memory a h n = n refl

no_ring_once : (p : Position) (s : Syntax) (d : TextError) → HasNoRing p (errors.Syntax s) → IsRingCause p d → IsSaid d → d ≡ errors.Syntax s
no_ring_once p s (errors.Overflow o) h k m = absurd k
no_ring_once p s (errors.Exponent o) h k m = absurd k
no_ring_once p s (errors.Syntax t) h k m = no_ring_same p (errors.Syntax s) (errors.Syntax t) h k
no_ring_once p s (errors.TooWide place) h k m = absurd k
no_ring_once p s (errors.UnknownName place) h k m = absurd k
no_ring_once p s (errors.TooManyVariables count) h k m = absurd (h.none k.names k.place k.text)
no_ring_once p s (errors.ZeroPolynomial set index) h k m = absurd k
no_ring_once p s errors.Memory h k m = absurd (m refl)

too_many_once : (p : Position) (count : ℕ) (d : TextError) → HasTooMany p count → IsRingCause p d → IsSaid d → d ≡ errors.TooManyVariables count
too_many_once p count (errors.Overflow o) h k m = absurd k
too_many_once p count (errors.Exponent o) h k m = absurd k
too_many_once p count (errors.Syntax t) h k m = absurd (k.none h.names h.place h.text)
too_many_once p count (errors.TooWide place) h k m = absurd k
too_many_once p count (errors.UnknownName place) h k m = absurd k
too_many_once p count (errors.TooManyVariables other) h k m =
    let same = one_ring (lexemes word_more p.source p.at) h.names k.names h.place k.place h.text k.text in
    ap (λ n. errors.TooManyVariables n) (sym k.number ∙ ap length (sym same.0) ∙ h.number)
too_many_once p count (errors.ZeroPolynomial set index) h k m = absurd k
too_many_once p count errors.Memory h k m = absurd (m refl)

ring_same : (p : Position) (e d : TextError) → IsRingCause p e → IsSaid e → IsRingCause p d → IsSaid d → d ≡ e
ring_same p (errors.Overflow o) d h n k m = absurd h
ring_same p (errors.Exponent o) d h n k m = absurd h
ring_same p (errors.Syntax s) d h n k m = no_ring_once p s d h k m
ring_same p (errors.TooWide place) d h n k m = absurd h
ring_same p (errors.UnknownName place) d h n k m = absurd h
ring_same p (errors.TooManyVariables count) d h n k m = too_many_once p count d h k m
ring_same p (errors.ZeroPolynomial set index) d h n k m = absurd h
ring_same p errors.Memory d h n k m = absurd (n refl)

ring_exact : (p : Position) (e d : TextError) → IsRingCause p e → IsExact e → IsRingCause p d → IsSaid d → d ≡ e
ring_exact p e d h x k m = ring_same p e d h (exact_said e x) k m

pub ring_once : IsReadOnce a_ring
ring_once = record { once = rings_once; apart = λ p end a e. ring_apart p end a e; same = ring_exact }

-- ---- sets

set_apart : (names : List (List ℕ)) (p : Position) (end : ℕ) (ws : List Written) (e : TextError) → IsSetRead names p end ws → IsSetCause names p e → IsSaid e →
    ⊥
set_apart names p end ws e a h n = n (not_refused names a.names p end ws a e h)

no_set : (names : List (List ℕ)) (p : Position) (e : TextError) → IsSetCause names p e → IsExact e → HasNoSet names p e
no_set names p (errors.Overflow o) h x = elim x [ inl y ↦ absurd y | inr y ↦ absurd y ]
no_set names p (errors.Exponent o) h x = elim x [ inl y ↦ absurd y | inr y ↦ absurd y ]
no_set names p (errors.Syntax s) h x = h
no_set names p (errors.TooWide at) h x = h
no_set names p (errors.UnknownName at) h x = h
no_set names p (errors.TooManyVariables count) h x = absurd h
no_set names p (errors.ZeroPolynomial set index) h x = absurd h
no_set names p errors.Memory h x = elim x [ inl y ↦ absurd y | inr y ↦ absurd y ]

no_set_once : (names : List (List ℕ)) (p : Position) (e d : TextError) → HasNoSet names p e → IsSetCause names p d → IsSaid d → d ≡ e
no_set_once names p e (errors.Overflow o) h k m = absurd (h.none k.said k.place k.text)
no_set_once names p e (errors.Exponent o) h k m = absurd (h.none k.said k.place k.text)
no_set_once names p e (errors.Syntax s) h k m = no_set_same names p e (errors.Syntax s) h k
no_set_once names p e (errors.TooWide at) h k m = no_set_same names p e (errors.TooWide at) h k
no_set_once names p e (errors.UnknownName at) h k m = no_set_same names p e (errors.UnknownName at) h k
no_set_once names p e (errors.TooManyVariables count) h k m = absurd k
no_set_once names p e (errors.ZeroPolynomial set index) h k m = absurd k
no_set_once names p e errors.Memory h k m = absurd (m refl)

set_same : (names : List (List ℕ)) (p : Position) (e d : TextError) → IsSetCause names p e → IsExact e → IsSetCause names p d → IsSaid d → d ≡ e
set_same names p e d h x k m = no_set_once names p e d (no_set names p e h x) k m

pub set_once : (names : List (List ℕ)) → IsReadOnce (a_set_in names)
set_once names = record {
  once = λ p end other a b h k. read_once names p end other a b h k;
  apart = λ p end a e h k n. set_apart names p end a e h k n;
  same = set_same names;
}

-- ---- a marked set

abbrev pub nonzero : List MarkedPolynomial → List Written
nonzero ms = map (λ m. written.Nonzero m) ms

pub nonzero_once : (ms ks : List MarkedPolynomial) → nonzero ms ≡ nonzero ks → ms ≡ ks
nonzero_once [] [] e = refl
nonzero_once [] (k ∷ ks) e = cc
nonzero_once (m ∷ ms) [] e = cc
nonzero_once (m ∷ ms) (k ∷ ks) e =
    let heads : m ≡ k = cc in
    let tails : nonzero ms ≡ nonzero ks = cc in
    ap (λ x. x ∷ ms) heads ∙ ap (λ l. k ∷ l) (nonzero_once ms ks tails)

pub no_zero : (ms front : List MarkedPolynomial) (back : List Written) → nonzero ms ≡ nonzero front ++ written.Zero ∷ back → ⊥
no_zero [] [] back e = cc
no_zero [] (k ∷ front) back e = cc
no_zero (m ∷ ms) [] back e = cc
no_zero (m ∷ ms) (k ∷ front) back e = let tails : nonzero ms ≡ nonzero front ++ written.Zero ∷ back = cc in no_zero ms front back tails

-- the first zero stands at one place
pub first_zero : (front other : List MarkedPolynomial) (back rest : List Written) →
    nonzero front ++ written.Zero ∷ back ≡ nonzero other ++ written.Zero ∷ rest → length front ≡ length other
first_zero [] [] back rest e = refl
first_zero [] (k ∷ other) back rest e = cc
first_zero (m ∷ front) [] back rest e = cc
first_zero (m ∷ front) (k ∷ other) back rest e =
    let tails : nonzero front ++ written.Zero ∷ back ≡ nonzero other ++ written.Zero ∷ rest = cc in
    ap (λ (n : ℕ). suc n) (first_zero front other back rest tails)

marked_read_once : (names : List (List ℕ)) (p : Position) (end other : ℕ) (s t : MarkedPolynomials) → IsMarkedRead names p end s →
    IsMarkedRead names p other t → (other ≡ end) × (t ≡ s)
marked_read_once names p end other s t a b =
    let same = read_once names p end other a.written b.written a.read b.read in
    let items : t.items ≡ s.items = nonzero_once t.items s.items (sym b.items ∙ same.1 ∙ a.items) in
    let variables : t.variables ≡ s.variables = b.variables ∙ sym a.variables in
    (same.0, λ i. record { variables = variables i; items = items i })

zero_apart : (names : List (List ℕ)) (p : Position) (end set index : ℕ) (s : MarkedPolynomials) → IsMarkedRead names p end s →
    HasZeroPolynomial names p set index → ⊥
zero_apart names p end set index s a h =
    let same = read_once names p end h.place a.written h.written a.read h.read in
    no_zero s.items h.first.front h.first.back (sym a.items ∙ sym same.1 ∙ h.first.whole)

marked_apart : (names : List (List ℕ)) (p : Position) (end : ℕ) (s : MarkedPolynomials) (e : TextError) → IsMarkedRead names p end s → IsMarkedCause names p e →
    IsSaid e → ⊥
marked_apart names p end s (errors.Overflow o) a h n = set_apart names p end a.written (errors.Overflow o) a.read h n
marked_apart names p end s (errors.Exponent o) a h n = set_apart names p end a.written (errors.Exponent o) a.read h n
marked_apart names p end s (errors.Syntax t) a h n = set_apart names p end a.written (errors.Syntax t) a.read h n
marked_apart names p end s (errors.TooWide at) a h n = set_apart names p end a.written (errors.TooWide at) a.read h n
marked_apart names p end s (errors.UnknownName at) a h n = set_apart names p end a.written (errors.UnknownName at) a.read h n
marked_apart names p end s (errors.TooManyVariables count) a h n = h
marked_apart names p end s (errors.ZeroPolynomial set index) a h n = zero_apart names p end set index s a h
marked_apart names p end s errors.Memory a h n = n refl

-- where a set is read with a zero polynomial, its marked set is refused by that alone
zero_once : (names : List (List ℕ)) (p : Position) (set index : ℕ) (d : TextError) → HasZeroPolynomial names p set index → IsMarkedCause names p d → IsSaid d →
    d ≡ errors.ZeroPolynomial set index
zero_once names p set index (errors.Overflow o) h k m = absurd (set_apart names p h.place h.written (errors.Overflow o) h.read k m)
zero_once names p set index (errors.Exponent o) h k m = absurd (set_apart names p h.place h.written (errors.Exponent o) h.read k m)
zero_once names p set index (errors.Syntax s) h k m = absurd (set_apart names p h.place h.written (errors.Syntax s) h.read k m)
zero_once names p set index (errors.TooWide at) h k m = absurd (set_apart names p h.place h.written (errors.TooWide at) h.read k m)
zero_once names p set index (errors.UnknownName at) h k m = absurd (set_apart names p h.place h.written (errors.UnknownName at) h.read k m)
zero_once names p set index (errors.TooManyVariables count) h k m = absurd k
zero_once names p set index (errors.ZeroPolynomial other place) h k m =
    let same = read_once names p h.place k.place h.written k.written h.read k.read in
    let numbers : other ≡ set = k.number ∙ sym h.number in
    let fronts : length k.first.front ≡ length h.first.front =
    first_zero k.first.front h.first.front k.first.back h.first.back (sym k.first.whole ∙ same.1 ∙ h.first.whole) in
    let places : place ≡ index = k.first.place ∙ ap (λ n. min n (2 ^ 32 - 1)) fronts ∙ sym h.first.place in
    ap (λ n. errors.ZeroPolynomial n place) numbers ∙ ap (λ n. errors.ZeroPolynomial set n) places
zero_once names p set index errors.Memory h k m = absurd (m refl)

-- a fault of the text of a set is that of a marked set
fault_once : (names : List (List ℕ)) (p : Position) (e d : TextError) → HasNoSet names p e → IsMarkedCause names p d → IsSaid d → d ≡ e
fault_once names p e (errors.Overflow o) h k m = no_set_once names p e (errors.Overflow o) h k m
fault_once names p e (errors.Exponent o) h k m = no_set_once names p e (errors.Exponent o) h k m
fault_once names p e (errors.Syntax s) h k m = no_set_once names p e (errors.Syntax s) h k m
fault_once names p e (errors.TooWide at) h k m = no_set_once names p e (errors.TooWide at) h k m
fault_once names p e (errors.UnknownName at) h k m = no_set_once names p e (errors.UnknownName at) h k m
fault_once names p e (errors.TooManyVariables count) h k m = absurd k
fault_once names p e (errors.ZeroPolynomial set index) h k m = absurd (h.none k.read.said k.place k.read.text)
fault_once names p e errors.Memory h k m = absurd (m refl)

marked_same : (names : List (List ℕ)) (p : Position) (e d : TextError) → IsMarkedCause names p e → IsExact e → IsMarkedCause names p d → IsSaid d → d ≡ e
marked_same names p (errors.Overflow o) d h x k m = elim x [ inl y ↦ absurd y | inr y ↦ absurd y ]
marked_same names p (errors.Exponent o) d h x k m = elim x [ inl y ↦ absurd y | inr y ↦ absurd y ]
marked_same names p (errors.Syntax s) d h x k m = fault_once names p (errors.Syntax s) d h k m
marked_same names p (errors.TooWide at) d h x k m = fault_once names p (errors.TooWide at) d h k m
marked_same names p (errors.UnknownName at) d h x k m = fault_once names p (errors.UnknownName at) d h k m
marked_same names p (errors.TooManyVariables count) d h x k m = absurd h
marked_same names p (errors.ZeroPolynomial set index) d h x k m = zero_once names p set index d h k m
marked_same names p errors.Memory d h x k m = elim x [ inl y ↦ absurd y | inr y ↦ absurd y ]

pub marked_set_once : (names : List (List ℕ)) → IsReadOnce (a_marked_set_in names)
marked_set_once names = record {
  once = λ p end other a b h k. marked_read_once names p end other a b h k;
  apart = λ p end a e h k n. marked_apart names p end a e h k n;
  same = λ p e d h x k m. marked_same names p e d h x k m;
}

-- ---- vectors

vectors_once : (p : Position) (end other : ℕ) (v w : List ℤ) → IsVectorRead p end v → IsVectorRead p other w → (other ≡ end) × (w ≡ v)
vectors_once p end other v w a b =
    let same = one_vector (lexemes word_more p.source p.at) w v other end b a in
    (same.1, same.0)

no_vector : (p : Position) (e : TextError) → IsVectorCause p e → IsSaid e → HasNoVector p e
no_vector p (errors.Overflow o) h n = absurd h
no_vector p (errors.Exponent o) h n = absurd h
no_vector p (errors.Syntax s) h n = h
no_vector p (errors.TooWide at) h n = h
no_vector p (errors.UnknownName at) h n = absurd h
no_vector p (errors.TooManyVariables count) h n = absurd h
no_vector p (errors.ZeroPolynomial set index) h n = absurd h
no_vector p errors.Memory h n = absurd (n refl)

vector_apart : (p : Position) (end : ℕ) (v : List ℤ) (e : TextError) → IsVectorRead p end v → IsVectorCause p e → IsSaid e → ⊥
vector_apart p end v e a h n = (no_vector p e h n).none v end a

vector_same : (p : Position) (e d : TextError) → IsVectorCause p e → IsExact e → IsVectorCause p d → IsSaid d → d ≡ e
vector_same p e d h x k m = no_vector_same p e d (no_vector p e h (exact_said e x)) (no_vector p d k m)

pub vector_once : IsReadOnce a_vector
vector_once = record { once = vectors_once; apart = vector_apart; same = vector_same }
