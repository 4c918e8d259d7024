-- The machine of sets is one of the grammar of sets: it reads exactly its texts, and from each state on some tokens lead to
-- a set.
-- To cite: first_name, set_machine, set_reads, one_set. The rest are steps.
use Rattle.std.proofs.Common.{◌≡◌, ℕ, true, List, [], ◌∷◌, length, Some, Ok, refl, ap, ◌∙◌, bytes_eq, arith}
use Rattle.std.proofs.lemmas.Slice.Eq.{bytes_eq-Decides}
use Rattle.gf_text.specs.declared.error.Cause.TheVariants.{Ended}
use Rattle.gf_text.specs.declared.tree.WrittenTerm.{WrittenTerm}
use Rattle.gf_text.specs.declared.set_reader.SetPlace.TheVariants as at
use Rattle.gf_text.specs.declared.set_reader.Part.{Part}
use Rattle.gf_text.specs.Machine.{go, done, after, Reads, HasOneMeaning}
use Rattle.gf_text.specs.Tokens.{lexemes, ring_more}
use Rattle.gf_text.specs.RingText.{IsRing}
use Rattle.gf_text.specs.SetText.{variable, IsSetText, SetState, with_variable, with_factor, with_numer, with_denom, all_of, behind_step, set_step, empty}
use Rattle.gf_text.specs.SetText.{set_at}
use Rattle.gf_text.specs.Marks.{brace, brace_end}
use Rattle.gf_text.proofs.MachineLaws.{after-go, after-done, reads, one_meaning, IsMachineOf}
use Rattle.gf_text.proofs.SetTokensLaws.{no_name}
use Rattle.gf_text.proofs.KindsLaws.{one}
use Rattle.gf_text.proofs.SetStopsLaws.{reason}
use Rattle.gf_text.proofs.SetTextLaws.{set_given}
use Rattle.gf_text.proofs.SetReadLaws.{set_said}

abbrev Texts : Type 0
Texts = List (List ℕ)

abbrev Sets : Type 0
Sets = List (List WrittenTerm)

-- ---- from each state on some tokens lead to a set

module _ (ring : List (List ℕ)) (is_ring : IsRing ring) where
  -- what leads from a state to a set
  abbrev GoesToEnd : SetState → Type 0
  GoesToEnd s = (later : Texts) × (ps : Sets) × (after (set_step ring) s later ≡ done ps)

  -- a token, and what leads on behind it
  by_token : (s u : SetState) (t : List ℕ) → set_step ring s t ≡ go u → GoesToEnd u → GoesToEnd s
  by_token s u t on e = (t ∷ e.0, e.1, after-go (set_step ring) s u t e.0 on ∙ e.2)

  -- some name is a variable's
  some_name : (ns : Texts) → ns ≡ ring → (t : List ℕ) × (v : ℕ) × (variable ns t ≡ Some v)
  some_name [] is = absurd (let some = is_ring.some in let none = ap length is in omega arith)
  some_name (n ∷ ns) is = let same : bytes_eq n n ≡ true = (bytes_eq-Decides n n).1 refl in (n, 0, rw same refl)

  pub first_name : (t : List ℕ) × (v : ℕ) × (variable ring t ≡ Some v)
  first_name = some_name ring refl

  -- the brace ends the set behind a factor
  brace_ends : (p : Part) → behind_step ring p brace_end ≡ done (all_of p)
  brace_ends p = let none = no_name ring is_ring brace_end refl in rw none refl

  behind_ends : (p : Part) → GoesToEnd (at.Behind, p)
  behind_ends p = (brace_end ∷ [], all_of p, after-done (set_step ring) (at.Behind, p) (all_of p) brace_end (brace_ends p))

  number_ends : (p : Part) → GoesToEnd (at.Number, p)
  number_ends p = (brace_end ∷ [], all_of p, after-done (set_step ring) (at.Number, p) (all_of p) brace_end (brace_ends p))

  name_ends : (p : Part) → GoesToEnd (at.Name, p)
  name_ends p = (
    brace_end ∷ [],
    all_of (with_factor p 1),
    after-done (set_step ring) (at.Name, p) (all_of (with_factor p 1)) brace_end
        (brace_ends (with_factor p 1)),
  )

  set_goes_on : (s : SetState) → GoesToEnd s
  set_goes_on (at.Brace, p) = by_token (at.Brace, p) (at.First, p) brace refl (
    brace_end ∷ [],
    p.polynomials,
    after-done (set_step ring) (at.First, p) p.polynomials brace_end refl,
  )
  set_goes_on (at.First, p) = (brace_end ∷ [], p.polynomials, after-done (set_step ring) (at.First, p) p.polynomials brace_end refl)
  set_goes_on (at.Polynomial, p) = by_token (at.Polynomial, p) (at.Number, with_numer p 1) one refl (number_ends (with_numer p 1))
  set_goes_on (at.Term, p) = by_token (at.Term, p) (at.Number, with_numer p 1) one refl (number_ends (with_numer p 1))
  set_goes_on (at.Number, p) = number_ends p
  set_goes_on (at.Denominator, p) = by_token (at.Denominator, p) (at.Behind, with_denom p 1) one refl (behind_ends (with_denom p 1))
  set_goes_on (at.Star, p) =
      let n = first_name in
      by_token (at.Star, p) (at.Name, with_variable p n.1) n.0 (rw (n.2) refl) (name_ends (with_variable p n.1))
  set_goes_on (at.Name, p) = name_ends p
  set_goes_on (at.Exponent, p) = by_token (at.Exponent, p) (at.Behind, with_factor p 1) one refl (behind_ends (with_factor p 1))
  set_goes_on (at.Behind, p) = behind_ends p

-- ---- what is read is what the grammar says

pub set_machine : (ring : Texts) → IsRing ring → IsMachineOf (set_step ring) (at.Brace, empty) (IsSetText ring)
set_machine ring is = record {
  said = set_said ring;
  given = set_given ring is;
  live = set_goes_on ring is;
  tells = λ s t e. reason ring s.0 s.1 t Ended e;
}

pub set_reads : (ring : Texts) (source : List ℕ) (from : ℕ) (ps : Sets) (place : ℕ) → set_at ring source from ≡ Ok (ps, place) →
    Reads (IsSetText ring) (lexemes (ring_more ring) source from) ps place
set_reads ring source from ps place e = reads (set_step ring) (IsSetText ring) (at.Brace, empty) (length source) (lexemes (ring_more ring) source from) ps place
    (λ ts. set_said ring ts ps) e

pub one_set : (ring : Texts) → IsRing ring → HasOneMeaning (IsSetText ring)
one_set ring is = one_meaning (set_step ring) (IsSetText ring) (at.Brace, empty) (set_given ring is)
