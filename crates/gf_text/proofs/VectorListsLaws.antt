-- A list of vectors is read as the grammar of lists says.
-- To cite: vectors_read, vectors_within, vectors_refused, one_list_of_vectors, no_vectors_same. The rest are steps.
use Rattle.std.proofs.Common.{◌≡◌, ℕ, ℤ, Ok, Err, List, [], ◌∷◌, length, refl, subst}
use Rattle.std.proofs.lemmas.List.Elements.{All-from_recursion}
use Rattle.std.specs.List.{AllByRecursion}
use Rattle.gf_text.specs.declared.error.Cause.{Cause}
use Rattle.gf_text.specs.declared.error.Cause.TheVariants.{Unexpected, UnknownName}
use Rattle.gf_text.specs.declared.error.TextError.{TextError}
use Rattle.gf_text.specs.declared.error.TextError.TheVariants as errors
use Rattle.gf_text.specs.declared.vector_reader.VectorPlace.TheVariants as at
use Rattle.gf_text.specs.Machine.{Fault, HasOneMeaning}
use Rattle.gf_text.specs.Tokens.{lexemes, word_more, Position}
use Rattle.gf_text.specs.Kinds.{IsNumberKind}
use Rattle.gf_text.specs.ListText.{AreMoreItems, IsListText, opening, list_step}
use Rattle.gf_text.specs.VectorText.{IsVectorText, vector_step}
use Rattle.gf_text.specs.Vectors.{AreEntriesWithin}
use Rattle.gf_text.specs.Given.{IsRefusedAs, Fails}
use Rattle.gf_text.specs.VectorLists.{vectors_at, AreVectorsRead, AreVectorsWithin, HasNoVectors, IsVectorsCause}
use Rattle.gf_text.proofs.MachineLaws.{reads, one_meaning, IsMachineOf, no_text, caused}
use Rattle.gf_text.proofs.KindsLaws.{IsNumberCause, gate_number_kind}
use Rattle.gf_text.proofs.FaultsLaws.{number_kind_once, no_text_once}
use Rattle.gf_text.proofs.ListTextLaws.{list_machine, list_causes, list_gate}
use Rattle.gf_text.proofs.RingKindsLaws.{is_unknown}
use Rattle.gf_text.proofs.VectorTextLaws.{vector_machine, vector_within}
use Rattle.gf_text.proofs.VectorKindsLaws.{vector_gate, vector_causes}

vectors_machine : IsMachineOf (list_step vector_step (at.Parenthesis, [])) (opening, []) (IsListText IsVectorText)
vectors_machine = list_machine vector_machine (Unexpected, refl)

pub vectors_read : (source : List ℕ) (from : ℕ) (vs : List (List ℤ)) (place : ℕ) → vectors_at source from ≡ Ok (vs, place) →
    AreVectorsRead (record { source = source; at = from }) place vs
vectors_read source from vs place e = reads (list_step vector_step (at.Parenthesis, [])) (IsListText IsVectorText) (opening, []) (length source)
    (lexemes word_more source from) vs place (λ ts. vectors_machine.said ts vs) e

pub one_list_of_vectors : HasOneMeaning (IsListText IsVectorText)
one_list_of_vectors = one_meaning (list_step vector_step (at.Parenthesis, [])) (IsListText IsVectorText) (opening, []) vectors_machine.given

-- ---- entries are within their limit

more_within : (ts : List (List ℕ)) (vs : List (List ℤ)) → AreMoreItems IsVectorText ts vs → AllByRecursion AreEntriesWithin vs
more_within ts [] h = tt
more_within ts (v ∷ vs) (first, rest, is, item, more) = (vector_within first v item, more_within rest vs more)

all_within : (ts : List (List ℕ)) (vs : List (List ℤ)) → IsListText IsVectorText ts vs → AllByRecursion AreEntriesWithin vs
all_within ts [] h = tt
all_within ts (v ∷ vs) (first, rest, is, item, more) = (vector_within first v item, more_within rest vs more)

pub vectors_within : (ts : List (List ℕ)) (vs : List (List ℤ)) → IsListText IsVectorText ts vs → AreVectorsWithin vs
vectors_within ts vs h = All-from_recursion AreEntriesWithin vs (all_within ts vs h)

-- ---- why no list is read

no_vectors : (source : List ℕ) (from : ℕ) (error : TextError) → IsRefusedAs error (vectors_at source from) →
    HasNoVectors (record { source = source; at = from }) error
no_vectors source from error r =
    no_text vectors_machine (IsNumberKind (IsListText IsVectorText))
    (gate_number_kind vectors_machine (list_gate vector_step (at.Parenthesis, []) [] (λ u v none. cc) vector_gate)
    (list_causes vector_machine (Unexpected, refl) vector_causes))
    (length source) (lexemes word_more source from) error r

not_unknown : (source : List ℕ) (from : ℕ) (f : Fault) → vectors_at source from ≡ Err f → f.cause ≡ UnknownName → ⊥
not_unknown source from f e =
    let P : Cause → Type 0 = λ c. c ≡ UnknownName → ⊥ in
    caused (list_step vector_step (at.Parenthesis, [])) P (λ h. cc)
    (λ s t cause h is. subst IsNumberCause is (list_causes vector_machine (Unexpected, refl) vector_causes s t cause h))
    (opening, []) (length source) (lexemes word_more source from) f e

pub vectors_refused : (source : List ℕ) (from : ℕ) (error : TextError) → Fails error (vectors_at source from) →
    IsVectorsCause (record { source = source; at = from }) error
vectors_refused source from (errors.Overflow o) h = absurd h
vectors_refused source from (errors.Exponent o) h = absurd h
vectors_refused source from (errors.Syntax s) h = no_vectors source from (errors.Syntax s) h
vectors_refused source from (errors.TooWide place) h = no_vectors source from (errors.TooWide place) h
vectors_refused source from (errors.UnknownName place) h = absurd (not_unknown source from h.0 h.1 (is_unknown h.0.at h.0.cause place h.2))
vectors_refused source from (errors.TooManyVariables count) h = absurd h
vectors_refused source from (errors.ZeroPolynomial set index) h = absurd h
vectors_refused source from errors.Memory h = tt

-- where none is read the refusal is one
pub no_vectors_same : (old : Position) (e d : TextError) → HasNoVectors old e → HasNoVectors old d → d ≡ e
no_vectors_same old e d h k = no_text_once (IsListText IsVectorText) (IsNumberKind (IsListText IsVectorText)) (number_kind_once (IsListText IsVectorText))
    (lexemes word_more old.source old.at) (length old.source) d e k h
