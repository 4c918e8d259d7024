-- A basis that is printed behind the line of its ring is read again as what it is.
-- To cite: read_again, monic_again. The rest are steps.
use Rattle.std.specs.Prelude.{◌≡◌, ℕ, ◌+◌, List, [], ◌∷◌, ◌++◌, drop, length, map, Contains}
use Rattle.std.proofs.Common.{arith, refl, sym, ap, ap₂, ◌∙◌, subst, append_assoc, length-append}
use Rattle.std.proofs.Math.Seq.{drop-append_seam}
use Rattle.gf_frac.specs.Fraction.{Fraction, reciprocal_ℚ, one_ℚ}
use Rattle.gf_frac.proofs.FractionLaws.{*ℚ-reciprocal_ℚ, one-*ℚ, zero-not-one}
use Rattle.gf_poly.specs.Polynomial.{Terms, coefficient, times}
use Rattle.gf_poly.specs.Marking.{MarkedPolynomial, MarkedPolynomials}
use Rattle.gf_poly.proofs.PolynomialLaws.{times-plain}
use Rattle.gf_int_theory.proofs.ListLaws.{Contains-here}
use Rattle.gf_ideal_theory.proofs.ListLaws.{Contains-there}
use Rattle.gf_text.specs.Machine.{Lexeme, Reads}
use Rattle.gf_text.specs.Tokens.{lex_tokens, lexemes, ring_more, Position, IsBlank}
use Rattle.gf_text.specs.RingText.{IsRing, ring_words, ring_text}
use Rattle.gf_text.specs.Rings.{IsRingRead}
use Rattle.gf_text.specs.SetText.{IsSetText}
use Rattle.gf_text.specs.Sets.{IsMarkedRead}
use Rattle.gf_text.specs.PrintedSets.{basis_text}
use Rattle.gf_text.specs.WrittenText.{AreKept}
use Rattle.gf_text.proofs.SpelledLaws.{lex-space}
use Rattle.gf_text.proofs.RingTextLaws.{rings_again}
use Rattle.gf_text.proofs.ReadAgainLaws.{bases_again}
use Rattle.gf_reduced.specs.Forms.{monic_of}
use Rattle.gf_items.specs.Items.{IsTextOf, from}
use Rattle.gf_items.specs.Sources.{ring_marked_set}
use Rattle.gfan_theory.specs.Joined.{basis_file}

-- ---- reading goes by the tokens alone

read_moved : (ring : List (List ℕ)) (old new : Position) (place : ℕ) (s : MarkedPolynomials) →
    lexemes (ring_more ring) old.source old.at ≡ lexemes (ring_more ring) new.source new.at →
    IsMarkedRead ring old place s → IsMarkedRead ring new place s
read_moved ring old new place s e h = record {
  written = h.written;
  read = record {
    names = h.read.names;
    said = h.read.said;
    text = subst (λ (ls : List Lexeme). Reads (IsSetText ring) ls h.read.said place) e h.read.text;
    sums = h.read.sums;
    exponents = h.read.exponents;
    fits = h.read.fits;
    written = h.read.written;
  };
  items = h.items;
  variables = h.variables;
}

none_more : (k : ℕ) → 0 + k ≡ k
none_more k = omega arith

module _ (ring : List (List ℕ)) (b : MarkedPolynomials) (is : IsRing ring) (kept : AreKept (length ring) b.items) where
  -- behind the words of the ring
  flat : basis_file ring b ≡ ring_words ring ++ (10 ∷ (basis_text ring b.items ++ 10 ∷ []))
  flat = append_assoc (ring_words ring) (10 ∷ []) (basis_text ring b.items ++ 10 ∷ [])

  ring_read : IsRingRead (from (basis_file ring b) 0) (length (ring_words ring)) ring
  ring_read =
      subst (λ (m : ℕ). IsRingRead (from (basis_file ring b) 0) m ring) (none_more (length (ring_words ring)))
      (subst (λ (source : List ℕ). IsRingRead (from source 0) (0 + length (ring_words ring)) ring) (sym flat)
      (rings_again ring [] (10 ∷ (basis_text ring b.items ++ 10 ∷ [])) is).read)

  -- at the line end, and behind it
  here : drop (length (ring_words ring)) (basis_file ring b) ≡ 10 ∷ (basis_text ring b.items ++ 10 ∷ [])
  here = ap (λ (source : List ℕ). drop (length (ring_words ring)) source) flat ∙ drop-append_seam (ring_words ring) (10 ∷ (basis_text ring b.items ++ 10 ∷ []))

  there : drop (length (ring_text ring)) (basis_file ring b) ≡ basis_text ring b.items ++ 10 ∷ []
  there = drop-append_seam (ring_text ring) (basis_text ring b.items ++ 10 ∷ [])

  long : length (ring_text ring) ≡ length (ring_words ring) + 1
  long = length-append (ring_words ring) (10 ∷ [])

  same_tokens : lexemes (ring_more ring) (basis_file ring b) (length (ring_text ring)) ≡ lexemes (ring_more ring) (basis_file ring b) (length (ring_words ring))
  same_tokens =
      ap₂ (λ (n : ℕ) (l : List ℕ). lex_tokens (ring_more ring) 0 n l) long there
      ∙ sym (lex-space (ring_more ring) 10 (length (ring_words ring)) (basis_text ring b.items ++ 10 ∷ []) refl)
      ∙ ap (λ (l : List ℕ). lex_tokens (ring_more ring) 0 (length (ring_words ring)) l) (sym here)

  set_read : IsMarkedRead ring (from (basis_file ring b) (length (ring_words ring))) (length (ring_text ring) + length (basis_text ring b.items))
      (record { variables = length ring; items = b.items })
  set_read = read_moved ring (from (basis_file ring b) (length (ring_text ring))) (from (basis_file ring b) (length (ring_words ring)))
      (length (ring_text ring) + length (basis_text ring b.items)) (record { variables = length ring; items = b.items }) same_tokens
      (bases_again ring b.items (ring_text ring) (10 ∷ []) is kept).read

  left : drop (length (ring_text ring) + length (basis_text ring b.items)) (basis_file ring b) ≡ 10 ∷ []
  left =
      ap₂ (λ (n : ℕ) (l : List ℕ). drop n l) (sym (length-append (ring_text ring) (basis_text ring b.items)))
      (sym (append_assoc (ring_text ring) (basis_text ring b.items) (10 ∷ [])))
      ∙ drop-append_seam (ring_text ring ++ basis_text ring b.items) (10 ∷ [])

  pub read_again : IsTextOf ring_marked_set (basis_file ring b) (ring, record { variables = length ring; items = b.items })
  read_again = record {
    end = length (ring_text ring) + length (basis_text ring b.items);
    read = record { behind = length (ring_words ring); one = ring_read; two = set_read };
    blank = subst (λ (l : List ℕ). IsBlank l) (sym left) refl;
  }

-- ---- monic polynomials, made monic

reciprocal_one : reciprocal_ℚ one_ℚ ≡ one_ℚ
reciprocal_one = sym (one-*ℚ (reciprocal_ℚ one_ℚ)) ∙ *ℚ-reciprocal_ℚ one_ℚ (λ e. zero-not-one (sym e))

monic_itself : (b : MarkedPolynomial) → coefficient b.poly b.head ≡ one_ℚ → monic_of b ≡ b
monic_itself b e =
    ap (λ (f : Terms). record { poly = f; head = b.head }) (ap (λ (c : Fraction). times (reciprocal_ℚ c) [] b.poly) e
    ∙ ap (λ (c : Fraction). times c [] b.poly) reciprocal_one ∙ times-plain b.poly)

pub monic_again : (bs : List MarkedPolynomial) → ((b : MarkedPolynomial) → Contains bs b → coefficient b.poly b.head ≡ one_ℚ) → map monic_of bs ≡ bs
monic_again [] h = refl
monic_again (b ∷ bs) h =
    ap₂ (λ (c : MarkedPolynomial) (cs : List MarkedPolynomial). c ∷ cs) (monic_itself b (h b (Contains-here b bs)))
    (monic_again bs (λ c k. h c (Contains-there b c bs k)))
