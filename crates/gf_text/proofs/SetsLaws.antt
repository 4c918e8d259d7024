-- Sums of terms, one after another.
-- To cite: summing_cause, one_sum, adds_fit, adds_overflow, adds_exponent, keeps_overflow, overflow_exponent, keeps_exponent; marked_sum, written_variables,
-- in_at; none_zero, nonzero_variables. The rest are steps.
use Rattle.std.proofs.Common.{◌≡◌, ◌<◌, ℕ, zero, suc, List, [], ◌∷◌, ◌++◌, length, map, get_or, Ok, Err, Some, slice_get, subst, sym, refl, ap, ◌∙◌, append-nil}
use Rattle.std.proofs.Common.{append_assoc, arith}
use Rattle.gf_frac.specs.declared.refusal.Overflow.{Overflow}
use Rattle.gf_poly.specs.declared.monomial.ExponentOverflow.{ExponentOverflow}
use Rattle.gf_poly.specs.declared.Term.{Term}
use Rattle.gf_poly.specs.Polynomial.{Terms, SamePolynomial, IsDescending, KeepsVariables}
use Rattle.gf_poly.specs.declared.error.PolyError.{PolyError}
use Rattle.gf_poly.specs.declared.error.PolyError.TheVariants as polys
use Rattle.gf_poly.specs.Collecting.{LikeSumsFit, IsLikeSumCause}
use Rattle.gf_poly.specs.Marking.{head_of, MarkedPolynomial, HaveVariables as AllHaveVariables}
use Rattle.gf_text.specs.declared.error.TextError.TheVariants as errors
use Rattle.gf_text.specs.declared.combine.Sums.TheVariants as came
use Rattle.gf_text.specs.declared.written.Written.{Written}
use Rattle.gf_text.specs.declared.written.Written.TheVariants as written
use Rattle.gf_text.specs.declared.tree.WrittenTerm.{WrittenTerm}
use Rattle.gf_text.specs.Combining.{SumsHaveVariables, IsFirstRemaining, IsFirstRemainingAt, IsSumMarked, terms_written, WrittenExponentsFit}
use Rattle.gf_text.specs.Sets.{IsWritten, AreWritten, IsIn, AreIn, AllSumsFit, IsSummed, IsSummingCause, IsWhatRemains, IsCombiningCause, Adds, AreNonzero}
use Rattle.gf_text.specs.Sets.{from_poly}
use Rattle.gf_text.proofs.CombiningLaws.{sums_push_ok, sums_push_refused, sums_push_after}

written_push : (fs : List Terms) (ws : List Written) (f : Terms) (w : Written) → AreWritten fs ws → IsWritten f w → AreWritten (fs ++ f ∷ []) (ws ++ w ∷ [])
written_push [] [] f w h k = (k, tt)
written_push [] (v ∷ ws) f w h k = absurd h
written_push (g ∷ fs) [] f w h k = absurd h
written_push (g ∷ fs) (v ∷ ws) f w h k = (h.0, written_push fs ws f w h.1 k)

-- a refusal of the sum of terms
pub summing_cause : (n : ℕ) (us : List WrittenTerm) (f : Terms) (e : PolyError) → terms_written n us ≡ Ok f → IsLikeSumCause f e →
    IsSummingCause n us (from_poly e)
summing_cause n us f (polys.Overflow o) exponents w = (f, exponents, w)
summing_cause n us f (polys.Exponent o) exponents w = absurd w
summing_cause n us f polys.Memory exponents w = tt

-- the terms that are written are one list
pub one_sum : (n : ℕ) (us : List WrittenTerm) (f g : Terms) → terms_written n us ≡ Ok f → terms_written n us ≡ Ok g → f ≡ g
one_sum n us f g d e = cc

fits_push : (fs : List Terms) (f : Terms) → AllSumsFit fs → LikeSumsFit f → AllSumsFit (fs ++ f ∷ [])
fits_push [] f h k = (k, tt)
fits_push (g ∷ fs) f h k = (h.0, fits_push fs f h.1 k)

-- ---- polynomials, one after another

abbrev Sets : Type 0
Sets = List (List WrittenTerm)

-- the polynomial that is added fits
pub adds_fit : (n : ℕ) (us : List WrittenTerm) (old new : List Written) (w : Written) → IsSummed n us w → new ≡ old ++ w ∷ [] → (qs : Sets) →
    IsWhatRemains n qs old → IsWhatRemains n (qs ++ us ∷ []) new
adds_fit n us old new w one is qs h = record {
  sums = h.sums ++ one.terms ∷ [];
  exponents = sums_push_ok n qs us h.sums one.terms h.exponents one.exponents;
  fits = fits_push h.sums one.terms h.fits one.fits;
  written = subst (AreWritten (h.sums ++ one.terms ∷ [])) (sym is) (written_push h.sums old one.terms w h.written one.written);
}

-- a sum of it leaves its range
pub adds_overflow : (n : ℕ) (us : List WrittenTerm) (old : List Written) (o : Overflow) → IsSummingCause n us (errors.Overflow o) → (qs : Sets) →
    IsWhatRemains n qs old → IsCombiningCause n (qs ++ us ∷ []) (errors.Overflow o)
adds_overflow n us old o cause qs h = (
  h.sums ++ cause.0 ∷ [],
  sums_push_ok n qs us h.sums cause.0 h.exponents cause.1,
  record { front = h.sums; sum = cause.0; back = []; whole = refl; before = h.fits; overflow = cause.2 },
)

-- an exponent of it passes its limit
pub adds_exponent : (n : ℕ) (us : List WrittenTerm) (old : List Written) (o : ExponentOverflow) → terms_written n us ≡ Err o → (qs : Sets) →
    IsWhatRemains n qs old → IsCombiningCause n (qs ++ us ∷ []) (errors.Exponent o)
adds_exponent n us old o cause qs h = sums_push_refused n qs us h.sums o h.exponents cause

-- a sum before it leaves its range, and its exponents fit
pub keeps_overflow : (n : ℕ) (us : List WrittenTerm) (o : Overflow) → WrittenExponentsFit n us → Adds n (us ∷ []) (came.Overflow o) (came.Overflow o)
keeps_overflow n us o fit qs h =
    let first = h.2 in (
      h.0 ++ fit.0 ∷ [],
      sums_push_ok n qs us h.0 fit.0 h.1 fit.1,
      record {
        front = first.front;
        sum = first.sum;
        back = first.back ++ fit.0 ∷ [];
        whole = ap (λ l. l ++ fit.0 ∷ []) first.whole ∙ append_assoc first.front (first.sum ∷ first.back) (fit.0 ∷ []);
        before = first.before;
        overflow = first.overflow;
      },
    )

-- an exponent of it passes its limit
pub overflow_exponent : (n : ℕ) (us : List WrittenTerm) (o : Overflow) (x : ExponentOverflow) → terms_written n us ≡ Err x →
    Adds n (us ∷ []) (came.Overflow o) (came.Exponent x)
overflow_exponent n us o x cause qs h = sums_push_refused n qs us h.0 x h.1 cause

-- an exponent before it passes its limit
pub keeps_exponent : (n : ℕ) (us : List WrittenTerm) (o : ExponentOverflow) → Adds n (us ∷ []) (came.Exponent o) (came.Exponent o)
keeps_exponent n us o qs h = sums_push_after n qs us o h

-- the monomial at a place
pub head_of-place : (f : Terms) (i : ℕ) (t : Term) → slice_get f i ≡ Some t → head_of f i ≡ t.mono
head_of-place [] i t e = cc
head_of-place (s ∷ f) zero t e = let same : s ≡ t = cc in ap (λ (x : Term). x.mono) same
head_of-place (s ∷ f) (suc i) t e = head_of-place f i t e

-- a sum, marked at the first term that remains
pub marked_sum : (f g : Terms) (place : ℕ) → SamePolynomial g f → IsDescending g → KeepsVariables f g → IsFirstRemainingAt f g place →
    IsSumMarked f (record { poly = g; head = head_of g place })
marked_sum f g place sum descending variables first = record {
  sum = sum;
  descending = descending;
  variables = variables;
  marked = subst (IsFirstRemaining f) (sym (head_of-place g place first.term first.stands)) first.first;
}

-- what is left of sums in n variables has n variables
pub written_variables : (n : ℕ) (fs : List Terms) (ws : List Written) → SumsHaveVariables n fs → AreWritten fs ws → AreIn n ws
written_variables n [] [] h k = tt
written_variables n [] (w ∷ ws) h k = absurd k
written_variables n (f ∷ fs) [] h k = absurd k
written_variables n (f ∷ fs) (written.Zero ∷ ws) h k = (tt, written_variables n fs ws h.1 k.1)
written_variables n (f ∷ fs) (written.Nonzero m ∷ ws) h k = (k.0.variables.at n h.0, written_variables n fs ws h.1 k.1)

-- the polynomial at a place
pub in_at : (n : ℕ) (ws : List Written) (i : ℕ) (d : Written) → AreIn n ws → i < length ws → IsIn n (get_or ws i d)
in_at n [] i d h k = absurd (omega arith)
in_at n (w ∷ ws) zero d h k = h.0
in_at n (w ∷ ws) (suc i) d h k = in_at n ws i d h.1 (omega arith)

-- ---- marked sets

abbrev pub all_nonzero : List MarkedPolynomial → List Written
all_nonzero ms = map (λ m. written.Nonzero m) ms

no_more : (ws : List Written) → length ws ≡ 0 → ws ≡ []
no_more [] h = refl
no_more (w ∷ ws) h = absurd (omega arith)

pub none_zero : (all ws : List Written) (ms : List MarkedPolynomial) → all ≡ all_nonzero ms ++ ws → length ws ≡ 0 → AreNonzero all ms
none_zero all ws ms whole h = whole ∙ ap (λ l. all_nonzero ms ++ l) (no_more ws h) ∙ append-nil (all_nonzero ms)

pub nonzero_variables : (n : ℕ) (ws : List Written) (ms : List MarkedPolynomial) → AreNonzero ws ms → AreIn n ws → AllHaveVariables n ms
nonzero_variables n ws ms is h = by ms (subst (AreIn n) is h)
  where
    by : (ms : List MarkedPolynomial) → AreIn n (all_nonzero ms) → AllHaveVariables n ms
    by [] h = tt
    by (m ∷ ms) h = (h.0, by ms h.1)
