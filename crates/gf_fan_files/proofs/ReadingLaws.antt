-- What a loop over the tokens of a content reads, at its end.
-- To cite: below_read, is_refused, refused_on, read_ended, read_halted, read_done. The rest are steps.
use Rattle.std.proofs.Common.{◌≡◌, ℕ, List, [], ◌∷◌, Result, Ok, Err, false, sym, ap, ◌∙◌, if◌then◌else◌}
use Rattle.gf_text.specs.declared.error.Cause.{Cause}
use Rattle.gf_text.specs.declared.error.Cause.TheVariants.{Ended, Unexpected}
use Rattle.gf_text.specs.Machine.{Lexeme, behind, Fault, Move, done, halt, run}
use Rattle.gf_text.proofs.MachineLaws.{run_done, run_halt, run_ended}
use Rattle.gf_text.proofs.PrintedTokensLaws.{byte_itself}
use Rattle.gf_fan_files.specs.declared.error.FanFileError.{FanFileError}
use Rattle.gf_fan_files.specs.declared.error.FanFileError.TheVariants as errors
use Rattle.gf_fan_files.specs.declared.error.Reason.{Reason}
use Rattle.gf_fan_files.specs.Refused.{refused_at, refused_before, cause_of}
use Rattle.gf_fan_files.specs.FanText.{Content, the_number, number_to, held, is_above, first_value, content_read}
use Rattle.gf_fan_files.specs.declared.numbers.NumberState.TheVariants.{Unread}
use Rattle.gf_fan_files.specs.NumberText.{number_step}
use Rattle.gf_fan_files.specs.Found.{IsRefusedSo}

-- what is refused is refused so
pub is_refused : {Y : Type 0} (e : FanFileError) (read : Result Y FanFileError) → read ≡ Err e → IsRefusedSo e read
is_refused (errors.Syntax s) read e = e
is_refused (errors.TooWide at) read e = e
is_refused (errors.TooManyVariables count) read e = e
is_refused (errors.Cone o) read e = e
is_refused (errors.NotAFan i j) read e = e
is_refused (errors.Missing section) read e = e
is_refused (errors.BadRay number) read e = e
is_refused (errors.Dimensions left right) read e = e
is_refused (errors.BadVersion number) read e = e
is_refused (errors.BadCertificate cone) read e = e
is_refused (errors.Wide w) read e = e
is_refused errors.Memory read e = tt

-- where what is refused there is refused here too
pub refused_on : {X Y : Type 0} (e : FanFileError) (there : Result X FanFileError) (read : Result Y FanFileError) →
    ((d : FanFileError) → there ≡ Err d → read ≡ Err d) → IsRefusedSo e there → IsRefusedSo e read
refused_on (errors.Syntax s) there read on h = on (errors.Syntax s) h
refused_on (errors.TooWide at) there read on h = on (errors.TooWide at) h
refused_on (errors.TooManyVariables count) there read on h = on (errors.TooManyVariables count) h
refused_on (errors.Cone o) there read on h = on (errors.Cone o) h
refused_on (errors.NotAFan i j) there read on h = on (errors.NotAFan i j) h
refused_on (errors.Missing section) there read on h = on (errors.Missing section) h
refused_on (errors.BadRay number) there read on h = on (errors.BadRay number) h
refused_on (errors.Dimensions left right) there read on h = on (errors.Dimensions left right) h
refused_on (errors.BadVersion number) there read on h = on (errors.BadVersion number) h
refused_on (errors.BadCertificate cone) there read on h = on (errors.BadCertificate cone) h
refused_on (errors.Wide w) there read on h = on (errors.Wide w) h
refused_on errors.Memory there read on h = tt

-- behind the last token the text has ended, whatever is wrong there
ended_there : (length : ℕ) (c d : Cause) → refused_before length (record { at = length; cause = c }) ≡ refused_before length (record { at = length; cause = d })
ended_there length c d =
    ap (λ b. if b then refused_at length Ended else refused_at length c) (byte_itself length)
    ∙ sym (ap (λ b. if b then refused_at length Ended else refused_at length d) (byte_itself length))

module _ {S A : Type 0} (step : S → List ℕ → Move S A) (make : A → Content) (length : ℕ) (read : Result Content FanFileError) (start : S)
    (content : List Lexeme) (is_read : read ≡ held make length (run step start length content)) where
  module _ (s : S) (all : List Lexeme) (same : run step s length all ≡ run step start length content) where
    here : (r : Result (A × ℕ) Fault) → run step s length all ≡ r → read ≡ held make length r
    here r e = is_read ∙ ap (held make length) (sym same ∙ e)

    pub read_ended : (e : FanFileError) → all ≡ [] → e ≡ refused_before length (record { at = length; cause = Unexpected }) → IsRefusedSo e read
    read_ended e none is = is_refused e read (here (Err (record { at = length; cause = Ended })) (run_ended step s length all none) ∙ ap (λ x. Err x)
        (ended_there length Ended Unexpected ∙ sym is))

    module _ (x : Lexeme) (xs : List Lexeme) (first : all ≡ x ∷ xs) where
      pub read_halted : (e : FanFileError) (place : ℕ) (reason : Reason) → step s x.text ≡ halt (cause_of reason) → place ≡ x.at →
          e ≡ refused_before length (record { at = place; cause = cause_of reason }) → IsRefusedSo e read
      read_halted e place reason halts at is = is_refused e read (
          here (Err (record { at = x.at; cause = cause_of reason })) (run_halt step s (cause_of reason) length all x xs first halts)
          ∙ ap (λ n. Err (refused_before length (record { at = n; cause = cause_of reason }))) (sym at) ∙ ap (λ y. Err y) (sym is)
          )

      pub read_done : (a : A) → step s x.text ≡ done a → read ≡ Ok (make a)
      read_done a is_done = here (Ok (a, behind x)) (run_done step s a length all x xs first is_done)

-- a number that isn't above the limit is read by its machine
pub below_read : (length limit : ℕ) (xs : List Lexeme) → is_above limit xs ≡ false →
    content_read length (number_to limit) xs ≡ held (λ n. the_number n) length (run number_step Unread length xs)
below_read length limit xs e =
    ap (λ v. if v then Err (errors.TooManyVariables (first_value xs)) else held (λ n. the_number n) length (run number_step Unread length xs)) e
