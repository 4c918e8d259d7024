-- Sets of plainly written polynomials: what they mean, and that they are read.
-- To cite: set_binomials, set_sums.
use Rattle.std.proofs.Common.{◌≡◌, ℕ, List, [], ◌∷◌, ◌++◌, Result, Ok, Err, None, refl, sym, subst}
use Rattle.gf_frac.specs.declared.refusal.Overflow.{Overflow}
use Rattle.gf_poly.specs.declared.monomial.ExponentOverflow.{ExponentOverflow}
use Rattle.gf_poly.specs.Polynomial.{Terms}
use Rattle.gf_poly.specs.Marking.{Each}
use Rattle.gf_text.specs.declared.error.TextError.TheVariants as errors
use Rattle.gf_text.specs.declared.tree.WrittenTerm.{WrittenTerm}
use Rattle.gf_text.specs.declared.written.Written.{Written}
use Rattle.gf_text.specs.declared.written.Written.TheVariants as written
use Rattle.gf_text.specs.Combining.{before_all, terms_written, sums_of}
use Rattle.gf_text.specs.Sets.{AreWritten, IsWhatRemains, IsCombiningCause}
use Rattle.gf_binomials_theory.specs.Binomials.{IsBinomial}
use Rattle.gf_binomials_theory.proofs.MonomialLaws.{binomial_of-equal}
use Rattle.gf_frac.proofs.FractionLaws.{+ℚ-neg_ℚ}
use Rattle.gf_binomial_calls_theory.specs.Written.{IsPlainlyWritten, ArePlainlyWritten, written_polynomials}
use Rattle.gf_binomial_calls_theory.proofs.WrittenLaws.{plain_binomial, plain_sums}

-- f is the sum of plainly written terms
abbrev IsPlain : ℕ → Terms → Type 0
IsPlain n f = (us : List WrittenTerm) × IsPlainlyWritten us × (terms_written n us ≡ Ok f)

sums_plain : (n : ℕ) (qs : List (List WrittenTerm)) (fs : List Terms) → Each IsPlainlyWritten qs → sums_of n qs ≡ Ok fs → Each (IsPlain n) fs
sums_plain n [] fs h e = let q : fs ≡ [] = cc in subst (Each (IsPlain n)) (sym q) tt
sums_plain n (q ∷ qs) fs h e = at (terms_written n q) (sums_of n qs) refl (λ gs k. sums_plain n qs gs h.1 k) refl e
  where
    at : (r : Result Terms ExponentOverflow) (s : Result (List Terms) ExponentOverflow) → terms_written n q ≡ r →
        ((gs : List Terms) → sums_of n qs ≡ Ok gs → Each (IsPlain n) gs) → sums_of n qs ≡ s → before_all r s ≡ Ok fs → Each (IsPlain n) fs
    at (Ok f) (Ok gs) a next b k = let w : fs ≡ f ∷ gs = cc in subst (Each (IsPlain n)) (sym w) ((q, h.0, a), next gs b)
    at (Ok f) (Err o) a next b k = absurd (cc)
    at (Err o) (Ok gs) a next b k = absurd (cc)
    at (Err o) (Err p) a next b k = absurd (cc)

-- an element between others
each_at : (P : Terms → Type 0) (front : List Terms) (x : Terms) (back : List Terms) → Each P (front ++ x ∷ back) → P x
each_at P [] x back h = h.0
each_at P (y ∷ front) x back h = each_at P front x back h.1

-- no sum of like terms leaves the range
pub set_sums : (n : ℕ) (qs : List (List WrittenTerm)) (o : Overflow) → ArePlainlyWritten qs → IsCombiningCause n qs (errors.Overflow o) → ⊥
set_sums n qs o h c =
    let p = each_at (IsPlain n) c.2.front c.2.sum c.2.back (subst (Each (IsPlain n)) c.2.whole (sums_plain n qs c.0 h c.1)) in
    plain_sums n p.0 c.2.sum o p.1 p.2 c.2.overflow

-- ---- what is left of them

written_binomials : (n : ℕ) (fs : List Terms) (ws : List Written) → Each (IsPlain n) fs → AreWritten fs ws → Each IsBinomial (written_polynomials ws)
written_binomials n [] [] h a = tt
written_binomials n [] (w ∷ ws) h a = absurd a
written_binomials n (f ∷ fs) [] h a = absurd a
written_binomials n (f ∷ fs) (written.Zero ∷ ws) h a = (
  record {
    first = None;
    second = None;
    binomial = record { equation = λ e. sym (+ℚ-neg_ℚ _) };
  },
  written_binomials n fs ws h.1 a.1,
)
written_binomials n (f ∷ fs) (written.Nonzero m ∷ ws) h a =
    let b = plain_binomial n h.0.0 f h.0.1 h.0.2 in (
      record {
        first = b.first;
        second = b.second;
        binomial = binomial_of-equal b.first b.second f m.poly (λ e. sym (a.0.sum e)) b.binomial;
      },
      written_binomials n fs ws h.1 a.1,
    )

-- the polynomials that are read are pure difference binomials
pub set_binomials : (n : ℕ) (qs : List (List WrittenTerm)) (ws : List Written) → ArePlainlyWritten qs → IsWhatRemains n qs ws →
    Each IsBinomial (written_polynomials ws)
set_binomials n qs ws h r = written_binomials n r.sums ws (sums_plain n qs r.sums h r.exponents) r.written
