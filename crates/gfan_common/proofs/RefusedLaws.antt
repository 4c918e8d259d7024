-- Which refusals are told without a ring, and with which names the others are told.
-- To cite: named_text, named_words, of_source, written_as_far. The rest are steps.
use Rattle.std.proofs.Common.{◌≡◌, List, ℕ, Option, None, Some, Result, Ok, Err, OnOk, OnErr, refl, ap, ◌∙◌, subst}
use Rattle.std.specs.Io.KnownBytes.{Appends}
use Rattle.std.specs.Borrow.{Bor}
use Rattle.std.specs.Option.{option_copied}
use Rattle.gf_outside.specs.Faults.{Rose}
use Rattle.gf_outside.specs.Moved.{AppendsPrefix}
use Rattle.gf_text.specs.declared.error.TextError.{TextError}
use Rattle.gf_text.specs.declared.error.TextError.TheVariants as text_errors
use Rattle.gf_front.specs.declared.command_line.WordsError.{WordsError}
use Rattle.gf_front.specs.declared.command_line.WordsError.TheVariants as words_errors
use Rattle.gf_front.specs.declared.refusal.Refusal.{Refusal}
use Rattle.gf_front.specs.Lines.{names_in, of_words, line}
use Rattle.gf_items.specs.Refusals.{of_text}
use Rattle.gfan_common.specs.Refused.{without_names, names_of, IsNamedBy, IsOfSource, WrittenAsFar, IsUnnamed}
use Rattle.std.specs.Prelude.{◌≡◌, ℕ, List, None}
use Rattle.gf_front.specs.declared.refusal.Refusal.TheVariants as refusals

-- ---- refusals that name no monomials

pub named_text : (e : TextError) → IsNamedBy None (of_text e)
named_text (text_errors.Overflow o) = λ lent is. tt
named_text (text_errors.Exponent o) = λ lent is. tt
named_text (text_errors.Syntax s) = λ lent is. tt
named_text (text_errors.TooWide at) = λ lent is. tt
named_text (text_errors.UnknownName at) = λ lent is. tt
named_text (text_errors.TooManyVariables count) = λ lent is. tt
named_text (text_errors.ZeroPolynomial set index) = λ lent is. tt
named_text text_errors.Memory = λ lent is. tt

pub named_words : (e : WordsError) → IsNamedBy None (of_words e)
named_words words_errors.Usage = λ lent is. tt
named_words words_errors.Memory = λ lent is. tt

pub of_source : (source : List ℕ) (r : Refusal) → IsNamedBy None r → IsOfSource source (without_names r)
of_source source r h = record { named = h; ring = tt }

-- ---- names

names_lent : (lent : Option (Bor (List (List ℕ)))) → names_in lent ≡ names_of (option_copied lent)
names_lent None = refl
names_lent (Some ring) = refl

names_same : (lent : Option (Bor (List (List ℕ)))) (ring : Option (List (List ℕ))) → option_copied lent ≡ ring → names_in lent ≡ names_of ring
names_same lent ring e = names_lent lent ∙ ap names_of e

-- what holds unless a call fails
unless : {T E : Type 0} (r : Result T E) (P Q : Type 0) → OnOk r P → OnErr r Q → (Q → ⊥) → P
unless (Ok x) P Q p q n = p
unless (Err e) P Q p q n = absurd (n q)

-- ---- the line

pub written_as_far : {T E : Type 0} (a b : Option (List ℕ)) (m n : ℕ) (result : Result T E) (lent : Option (Bor (List (List ℕ)))) (ring : Option
    (List (List ℕ))) (r : Refusal)
    → option_copied lent ≡ ring → AppendsPrefix a b (line (names_in lent) r) → OnOk result (Appends a b (line (names_in lent) r)) → OnErr result (Rose m n)
    → WrittenAsFar a b m n (line (names_of ring) r)
written_as_far a b m n result lent ring r e part all fault =
    let P : List (List ℕ) → Type 0 = λ names. WrittenAsFar a b m n (line names r) in
    subst P (names_same lent ring e) (record { part = part; all = λ calm. unless result _ _ all fault calm })

pub write_unnamed : IsUnnamed (without_names refusals.WriteFault)
write_unnamed = record { ring = refl; named = λ lent is. tt }
