use Rattle.std.specs.Prelude.{◌≡◌, ℕ, List, [], ◌∷◌, map, string_bytes, length}
use Rattle.std.proofs.Common.{ap, Err, refl, sym, subst, inl, ◌∙◌}
use Rattle.std.proofs.lemmas.Result.{err_from_is_err_and}
use Rattle.gf_front.specs.Jobs.{HasNumbersInRange}
use Rattle.gf_front.specs.declared.command_line.Job.{Job}
use Rattle.gf_frame.specs.Seen.{seen, output_seen}
use Rattle.gf_frame.specs.Loading.{AreLoaded}
use Rattle.gf_frame.specs.Origins.{texts_of}
use Rattle.gf_frame.specs.Commands.{IsAnswered}
use Rattle.gf_frame.specs.Runs.{IsDoneOn, IsStoppedOn}
use Rattle.gf_frame.proofs.WorkLaws.{loaded_length, once_refused}
use Rattle.gf_frame.proofs.ProgramLaws.{words_refused, loading_refused, texts_done, texts_refused}
use Rattle.gfan.specs.Commands.{command_of}
use Rattle.gfan.specs.Run.{IsOfLoaded}
use Rattle.gfan.specs.Work.{IsWorkFor}
use Rattle.gfan.proofs.CommandLaws.{lawful}
use Rattle.gfan_common.proofs.RefusedLaws.{named_words}
use Rattle.gfan.proofs.RunLaws.{of_no_source, unloaded_named, unnamed_loaded, told_loaded, turns_done, turns_refused, turns_told, takes_turns}
use Rattle.gfan_common.proofs.PerformedLaws.{on_ok, on_err}
use Rattle.gfan_plain_theory.proofs.TextsLaws.{one_alone}
use Rattle.gfan.proofs.SourceLaws.{texts_length}
use Rattle.gfan.proofs.run.outcome.Goals as goal

-- the words ask for no job

pub returns-in_err-job-clause-refused : goal.returns-in_err-job-clause-refused
returns-in_err-job-clause-refused g c =
    let p = err_from_is_err_and c.from_residual.result c.from_residual.ensures.1 in
    rw (p.1, p.2) (words_refused command_of lawful (map string_bytes c.args.words.now)
    (seen (g.S.Source.left c.args.input.now) (g.S.Source.given c.args.input.now) (g.S.Source.faults c.args.input.now) (g.F.Files.bytes c.args.files.now)
    (g.F.Files.left c.args.files.now) (g.F.Files.given c.args.files.now) (g.F.Files.unopened c.args.files.now) (g.F.Files.faults c.args.files.now))
    (output_seen (g.K.Sink.held c.args.output.now) (g.K.Sink.faults c.args.output.now)) c.in_err-job.field-0.0
    (λ e. c.in_err-job.ensures.usage (ap (λ w. Err w) e)))

pub returns-in_err-job-clause-told : goal.returns-in_err-job-clause-told
returns-in_err-job-clause-told g c =
    let p = err_from_is_err_and c.from_residual.result c.from_residual.ensures.1 in
    rw (p.1, p.2) (of_no_source _ _ _ _ _ _ _ (named_words c.in_err-job.field-0.0))

-- what it reads isn't loaded

pub returns-in_err-texts-clause-refused : goal.returns-in_err-texts-clause-refused
returns-in_err-texts-clause-refused g c =
    let p = err_from_is_err_and c.from_residual-in_err-texts.result c.from_residual-in_err-texts.ensures.1 in
    rw (p.1, p.2) (loading_refused command_of lawful (map string_bytes c.args.words.now)
    (seen (g.S.Source.left c.args.input.now) (g.S.Source.given c.args.input.now) (g.S.Source.faults c.args.input.now) (g.F.Files.bytes c.args.files.now)
    (g.F.Files.left c.args.files.now) (g.F.Files.given c.args.files.now) (g.F.Files.unopened c.args.files.now) (g.F.Files.faults c.args.files.now))
    (seen (g.S.Source.left c.texts_for.new.input) (g.S.Source.given c.texts_for.new.input) (g.S.Source.faults c.texts_for.new.input)
    (g.F.Files.bytes c.texts_for.new.files) (g.F.Files.left c.texts_for.new.files) (g.F.Files.given c.texts_for.new.files)
    (g.F.Files.unopened c.texts_for.new.files) (g.F.Files.faults c.texts_for.new.files))
    (output_seen (g.K.Sink.held c.args.output.now) (g.K.Sink.faults c.args.output.now)) c.in_ok-job.job c.in_err-texts.field-0.0 c.in_ok-job.ensures.job
    c.in_err-texts.ensures.unloaded)

pub returns-in_err-texts-clause-told : goal.returns-in_err-texts-clause-told
returns-in_err-texts-clause-told g c =
    let p = err_from_is_err_and c.from_residual-in_err-texts.result c.from_residual-in_err-texts.ensures.1 in
    rw (p.1, p.2) (of_no_source _ _ _ _ _ _ _ (unloaded_named (command_of c.in_ok-job.job).reads
    (seen (g.S.Source.left c.args.input.now) (g.S.Source.given c.args.input.now) (g.S.Source.faults c.args.input.now) (g.F.Files.bytes c.args.files.now)
    (g.F.Files.left c.args.files.now) (g.F.Files.given c.args.files.now) (g.F.Files.unopened c.args.files.now) (g.F.Files.faults c.args.files.now))
    (seen (g.S.Source.left c.texts_for.new.input) (g.S.Source.given c.texts_for.new.input) (g.S.Source.faults c.texts_for.new.input)
    (g.F.Files.bytes c.texts_for.new.files) (g.F.Files.left c.texts_for.new.files) (g.F.Files.given c.texts_for.new.files)
    (g.F.Files.unopened c.texts_for.new.files) (g.F.Files.faults c.texts_for.new.files)) c.in_err-texts.field-0.0 c.in_err-texts.ensures.unloaded))

pub returns-in_err-texts-clause-input_untouched : goal.returns-in_err-texts-clause-input_untouched
returns-in_err-texts-clause-input_untouched g c = λ none. c.texts_for.ensures.input_kept (λ h. none c.in_ok-job.job c.in_ok-job.ensures.job (inl h))

pub returns-in_err-texts-clause-files_untouched : goal.returns-in_err-texts-clause-files_untouched
returns-in_err-texts-clause-files_untouched g c = λ none. c.texts_for.ensures.files_kept (λ h. none c.in_ok-job.job c.in_ok-job.ensures.job h)

-- its texts are there

pub work_for-requires-clause-all : goal.work_for-requires-clause-all
work_for-requires-clause-all g c κs within =
    let l = loaded_length (command_of c.in_ok-job.job).reads
    (seen (g.S.Source.left c.args.input.now) (g.S.Source.given c.args.input.now) (g.S.Source.faults c.args.input.now) (g.F.Files.bytes c.args.files.now)
    (g.F.Files.left c.args.files.now) (g.F.Files.given c.args.files.now) (g.F.Files.unopened c.args.files.now) (g.F.Files.faults c.args.files.now))
    (seen (g.S.Source.left c.texts_for.new.input) (g.S.Source.given c.texts_for.new.input) (g.S.Source.faults c.texts_for.new.input)
    (g.F.Files.bytes c.texts_for.new.files) (g.F.Files.left c.texts_for.new.files) (g.F.Files.given c.texts_for.new.files)
    (g.F.Files.unopened c.texts_for.new.files) (g.F.Files.faults c.texts_for.new.files)) (texts_of c.in_ok-texts.texts.items)
    c.in_ok-texts.ensures.loaded in
    ap length c.deref.ensures.value ∙ sym (texts_length c.in_ok-texts.texts.items) ∙ l

-- it is, and refused

pub returns-in_err-work-clause-refused : goal.returns-in_err-work-clause-refused
returns-in_err-work-clause-refused g c =
    let p = err_from_is_err_and c.from_residual-in_err-work.result c.from_residual-in_err-work.ensures.1 in
    let o = output_seen (g.K.Sink.held c.args.output.now) (g.K.Sink.faults c.args.output.now) in
    let w = c.in_err-work.ensures in
    let job = c.in_ok-job.job in
    let ts = texts_of c.deref.result.now in
    rw (p.1, p.2) (texts_refused command_of lawful (map string_bytes c.args.words.now) _ _ o o job ts _ c.in_ok-job.ensures.job
    (subst (λ ts. AreLoaded (command_of c.in_ok-job.job).reads
    (seen (g.S.Source.left c.args.input.now) (g.S.Source.given c.args.input.now) (g.S.Source.faults c.args.input.now) (g.F.Files.bytes c.args.files.now)
    (g.F.Files.left c.args.files.now) (g.F.Files.given c.args.files.now) (g.F.Files.unopened c.args.files.now) (g.F.Files.faults c.args.files.now))
    (seen (g.S.Source.left c.texts_for.new.input) (g.S.Source.given c.texts_for.new.input) (g.S.Source.faults c.texts_for.new.input)
    (g.F.Files.bytes c.texts_for.new.files) (g.F.Files.left c.texts_for.new.files) (g.F.Files.given c.texts_for.new.files)
    (g.F.Files.unopened c.texts_for.new.files) (g.F.Files.faults c.texts_for.new.files)) (texts_of ts)) (sym c.deref.ensures.value)
    c.in_ok-texts.ensures.loaded)
    (once_refused (command_of job) (lawful job) w.once ts o _ w.cause))

pub returns-in_err-work-clause-told : goal.returns-in_err-work-clause-told
returns-in_err-work-clause-told g c =
    let p = err_from_is_err_and c.from_residual-in_err-work.result c.from_residual-in_err-work.ensures.1 in
    rw (p.1, p.2) (told_loaded _ (command_of c.in_ok-job.job).reads _ _ (texts_of c.deref.result.now) _
    (subst (λ ts. AreLoaded (command_of c.in_ok-job.job).reads
    (seen (g.S.Source.left c.args.input.now) (g.S.Source.given c.args.input.now) (g.S.Source.faults c.args.input.now) (g.F.Files.bytes c.args.files.now)
    (g.F.Files.left c.args.files.now) (g.F.Files.given c.args.files.now) (g.F.Files.unopened c.args.files.now) (g.F.Files.faults c.args.files.now))
    (seen (g.S.Source.left c.texts_for.new.input) (g.S.Source.given c.texts_for.new.input) (g.S.Source.faults c.texts_for.new.input)
    (g.F.Files.bytes c.texts_for.new.files) (g.F.Files.left c.texts_for.new.files) (g.F.Files.given c.texts_for.new.files)
    (g.F.Files.unopened c.texts_for.new.files) (g.F.Files.faults c.texts_for.new.files)) (texts_of ts)) (sym c.deref.ensures.value)
    c.in_ok-texts.ensures.loaded)
    c.in_err-work.ensures.told)

pub returns-in_err-work-clause-input_untouched : goal.returns-in_err-work-clause-input_untouched
returns-in_err-work-clause-input_untouched g c = λ none. c.texts_for.ensures.input_kept (λ h. none c.in_ok-job.job c.in_ok-job.ensures.job (inl h))

pub returns-in_err-work-clause-files_untouched : goal.returns-in_err-work-clause-files_untouched
returns-in_err-work-clause-files_untouched g c = λ none. c.texts_for.ensures.files_kept (λ h. none c.in_ok-job.job c.in_ok-job.ensures.job h)

-- it is, and the job takes turns

pub returns-clause-done : goal.returns-clause-done
returns-clause-done g c =
    let given = c.in-Turns.given.now in
    let is = subst (IsWorkFor c.in_ok-job.job (texts_of c.deref.result.now)) c.in-Turns.is c.in_ok-work.ensures in
    let ts = c.in_ok-texts.texts.items in
    let l = loaded_length (command_of c.in_ok-job.job).reads (seen (g.S.Source.left c.args.input.now) (g.S.Source.given c.args.input.now)
    (g.S.Source.faults c.args.input.now) (g.F.Files.bytes c.args.files.now) (g.F.Files.left c.args.files.now) (g.F.Files.given c.args.files.now)
    (g.F.Files.unopened c.args.files.now) (g.F.Files.faults c.args.files.now))
    (seen (g.S.Source.left c.texts_for.new.input) (g.S.Source.given c.texts_for.new.input) (g.S.Source.faults c.texts_for.new.input)
    (g.F.Files.bytes c.texts_for.new.files) (g.F.Files.left c.texts_for.new.files) (g.F.Files.given c.texts_for.new.files)
    (g.F.Files.unopened c.texts_for.new.files) (g.F.Files.faults c.texts_for.new.files)) (texts_of ts) c.in_ok-texts.ensures.loaded in
    let one : length ts ≡ 1 = sym (texts_length ts) ∙ l ∙ ap (λ j. length (command_of j).reads) is in
    let alone : texts_of ts ≡ c.deref-in-Turns.result.now ∷ [] =
    sym (one_alone ts c.index.result.now c.deref-in-Turns.result.now one c.index.ensures c.deref-in-Turns.ensures.value) in
    on_ok c.perform.result _ _ (turns_done (map string_bytes c.args.words.now) (seen (g.S.Source.left c.args.input.now) (g.S.Source.given c.args.input.now)
    (g.S.Source.faults c.args.input.now) (g.F.Files.bytes c.args.files.now) (g.F.Files.left c.args.files.now) (g.F.Files.given c.args.files.now)
    (g.F.Files.unopened c.args.files.now) (g.F.Files.faults c.args.files.now))
    (seen (g.S.Source.left c.texts_for.new.input) (g.S.Source.given c.texts_for.new.input) (g.S.Source.faults c.texts_for.new.input)
    (g.F.Files.bytes c.texts_for.new.files) (g.F.Files.left c.texts_for.new.files) (g.F.Files.given c.texts_for.new.files)
    (g.F.Files.unopened c.texts_for.new.files) (g.F.Files.faults c.texts_for.new.files))
    (seen (g.S.Source.left c.perform.new.input) (g.S.Source.given c.perform.new.input) (g.S.Source.faults c.perform.new.input)
    (g.F.Files.bytes c.texts_for.new.files) (g.F.Files.left c.texts_for.new.files) (g.F.Files.given c.texts_for.new.files)
    (g.F.Files.unopened c.texts_for.new.files) (g.F.Files.faults c.texts_for.new.files))
    (output_seen (g.K.Sink.held c.args.output.now) (g.K.Sink.faults c.args.output.now))
    (output_seen (g.K.Sink.held c.perform.new.output) (g.K.Sink.faults c.perform.new.output)) c.in_ok-job.job given c.deref-in-Turns.result.now
    (texts_of ts) c.in_ok-job.ensures.job is c.in_ok-texts.ensures.loaded alone refl) c.perform.ensures.done

pub returns-clause-refused : goal.returns-clause-refused
returns-clause-refused g c =
    let given = c.in-Turns.given.now in
    let is = subst (IsWorkFor c.in_ok-job.job (texts_of c.deref.result.now)) c.in-Turns.is c.in_ok-work.ensures in
    let ts = c.in_ok-texts.texts.items in
    let l = loaded_length (command_of c.in_ok-job.job).reads (seen (g.S.Source.left c.args.input.now) (g.S.Source.given c.args.input.now)
    (g.S.Source.faults c.args.input.now) (g.F.Files.bytes c.args.files.now) (g.F.Files.left c.args.files.now) (g.F.Files.given c.args.files.now)
    (g.F.Files.unopened c.args.files.now) (g.F.Files.faults c.args.files.now))
    (seen (g.S.Source.left c.texts_for.new.input) (g.S.Source.given c.texts_for.new.input) (g.S.Source.faults c.texts_for.new.input)
    (g.F.Files.bytes c.texts_for.new.files) (g.F.Files.left c.texts_for.new.files) (g.F.Files.given c.texts_for.new.files)
    (g.F.Files.unopened c.texts_for.new.files) (g.F.Files.faults c.texts_for.new.files)) (texts_of ts) c.in_ok-texts.ensures.loaded in
    let one : length ts ≡ 1 = sym (texts_length ts) ∙ l ∙ ap (λ j. length (command_of j).reads) is in
    let alone : texts_of ts ≡ c.deref-in-Turns.result.now ∷ [] =
    sym (one_alone ts c.index.result.now c.deref-in-Turns.result.now one c.index.ensures c.deref-in-Turns.ensures.value) in
    on_err c.perform.result _ _ (λ e h. turns_refused (map string_bytes c.args.words.now)
    (seen (g.S.Source.left c.args.input.now) (g.S.Source.given c.args.input.now) (g.S.Source.faults c.args.input.now) (g.F.Files.bytes c.args.files.now)
    (g.F.Files.left c.args.files.now) (g.F.Files.given c.args.files.now) (g.F.Files.unopened c.args.files.now) (g.F.Files.faults c.args.files.now))
    (seen (g.S.Source.left c.texts_for.new.input) (g.S.Source.given c.texts_for.new.input) (g.S.Source.faults c.texts_for.new.input)
    (g.F.Files.bytes c.texts_for.new.files) (g.F.Files.left c.texts_for.new.files) (g.F.Files.given c.texts_for.new.files)
    (g.F.Files.unopened c.texts_for.new.files) (g.F.Files.faults c.texts_for.new.files))
    (seen (g.S.Source.left c.perform.new.input) (g.S.Source.given c.perform.new.input) (g.S.Source.faults c.perform.new.input)
    (g.F.Files.bytes c.texts_for.new.files) (g.F.Files.left c.texts_for.new.files) (g.F.Files.given c.texts_for.new.files)
    (g.F.Files.unopened c.texts_for.new.files) (g.F.Files.faults c.texts_for.new.files))
    (output_seen (g.K.Sink.held c.args.output.now) (g.K.Sink.faults c.args.output.now))
    (output_seen (g.K.Sink.held c.perform.new.output) (g.K.Sink.faults c.perform.new.output)) c.in_ok-job.job given c.deref-in-Turns.result.now
    (texts_of ts) c.in_ok-job.ensures.job is c.in_ok-texts.ensures.loaded alone refl e.refusal h)
    (c.perform.ensures.stopped given.file)

pub returns-clause-told : goal.returns-clause-told
returns-clause-told g c =
    let given = c.in-Turns.given.now in
    let is = subst (IsWorkFor c.in_ok-job.job (texts_of c.deref.result.now)) c.in-Turns.is c.in_ok-work.ensures in
    let ts = c.in_ok-texts.texts.items in
    let l = loaded_length (command_of c.in_ok-job.job).reads (seen (g.S.Source.left c.args.input.now) (g.S.Source.given c.args.input.now)
    (g.S.Source.faults c.args.input.now) (g.F.Files.bytes c.args.files.now) (g.F.Files.left c.args.files.now) (g.F.Files.given c.args.files.now)
    (g.F.Files.unopened c.args.files.now) (g.F.Files.faults c.args.files.now))
    (seen (g.S.Source.left c.texts_for.new.input) (g.S.Source.given c.texts_for.new.input) (g.S.Source.faults c.texts_for.new.input)
    (g.F.Files.bytes c.texts_for.new.files) (g.F.Files.left c.texts_for.new.files) (g.F.Files.given c.texts_for.new.files)
    (g.F.Files.unopened c.texts_for.new.files) (g.F.Files.faults c.texts_for.new.files)) (texts_of ts) c.in_ok-texts.ensures.loaded in
    let one : length ts ≡ 1 = sym (texts_length ts) ∙ l ∙ ap (λ j. length (command_of j).reads) is in
    let alone : texts_of ts ≡ c.deref-in-Turns.result.now ∷ [] =
    sym (one_alone ts c.index.result.now c.deref-in-Turns.result.now one c.index.ensures c.deref-in-Turns.ensures.value) in
    on_err c.perform.result _ _ (λ e h. turns_told (map string_bytes c.args.words.now)
    (seen (g.S.Source.left c.args.input.now) (g.S.Source.given c.args.input.now) (g.S.Source.faults c.args.input.now) (g.F.Files.bytes c.args.files.now)
    (g.F.Files.left c.args.files.now) (g.F.Files.given c.args.files.now) (g.F.Files.unopened c.args.files.now) (g.F.Files.faults c.args.files.now))
    (seen (g.S.Source.left c.texts_for.new.input) (g.S.Source.given c.texts_for.new.input) (g.S.Source.faults c.texts_for.new.input)
    (g.F.Files.bytes c.texts_for.new.files) (g.F.Files.left c.texts_for.new.files) (g.F.Files.given c.texts_for.new.files)
    (g.F.Files.unopened c.texts_for.new.files) (g.F.Files.faults c.texts_for.new.files))
    (seen (g.S.Source.left c.perform.new.input) (g.S.Source.given c.perform.new.input) (g.S.Source.faults c.perform.new.input)
    (g.F.Files.bytes c.texts_for.new.files) (g.F.Files.left c.texts_for.new.files) (g.F.Files.given c.texts_for.new.files)
    (g.F.Files.unopened c.texts_for.new.files) (g.F.Files.faults c.texts_for.new.files))
    (output_seen (g.K.Sink.held c.args.output.now) (g.K.Sink.faults c.args.output.now))
    (output_seen (g.K.Sink.held c.perform.new.output) (g.K.Sink.faults c.perform.new.output)) c.in_ok-job.job given c.deref-in-Turns.result.now
    (texts_of ts) c.in_ok-job.ensures.job is c.in_ok-texts.ensures.loaded alone refl e h) c.perform.ensures.told

pub returns-clause-input_untouched : goal.returns-clause-input_untouched
returns-clause-input_untouched g c =
    let given = c.in-Turns.given.now in
    let is = subst (IsWorkFor c.in_ok-job.job (texts_of c.deref.result.now)) c.in-Turns.is c.in_ok-work.ensures in
    λ none. absurd (none c.in_ok-job.job c.in_ok-job.ensures.job (takes_turns c.in_ok-job.job given is))

pub returns-clause-files_untouched : goal.returns-clause-files_untouched
returns-clause-files_untouched g c = λ none. c.texts_for.ensures.files_kept (λ h. none c.in_ok-job.job c.in_ok-job.ensures.job h)

-- or it writes its output at once

pub returns-in-Text-clause-done : goal.returns-in-Text-clause-done
returns-in-Text-clause-done g c =
    on_ok c.write_text.result _ _ (λ h. texts_done command_of lawful (map string_bytes c.args.words.now)
    (seen (g.S.Source.left c.args.input.now) (g.S.Source.given c.args.input.now) (g.S.Source.faults c.args.input.now) (g.F.Files.bytes c.args.files.now)
    (g.F.Files.left c.args.files.now) (g.F.Files.given c.args.files.now) (g.F.Files.unopened c.args.files.now) (g.F.Files.faults c.args.files.now))
    (seen (g.S.Source.left c.texts_for.new.input) (g.S.Source.given c.texts_for.new.input) (g.S.Source.faults c.texts_for.new.input)
    (g.F.Files.bytes c.texts_for.new.files) (g.F.Files.left c.texts_for.new.files) (g.F.Files.given c.texts_for.new.files)
    (g.F.Files.unopened c.texts_for.new.files) (g.F.Files.faults c.texts_for.new.files))
    (output_seen (g.K.Sink.held c.args.output.now) (g.K.Sink.faults c.args.output.now))
    (output_seen (g.K.Sink.held c.write_text.new.output) (g.K.Sink.faults c.write_text.new.output)) c.in_ok-job.job (texts_of c.deref.result.now)
    c.in_ok-job.ensures.job
    (subst (λ ts. AreLoaded (command_of c.in_ok-job.job).reads
    (seen (g.S.Source.left c.args.input.now) (g.S.Source.given c.args.input.now) (g.S.Source.faults c.args.input.now) (g.F.Files.bytes c.args.files.now)
    (g.F.Files.left c.args.files.now) (g.F.Files.given c.args.files.now) (g.F.Files.unopened c.args.files.now) (g.F.Files.faults c.args.files.now))
    (seen (g.S.Source.left c.texts_for.new.input) (g.S.Source.given c.texts_for.new.input) (g.S.Source.faults c.texts_for.new.input)
    (g.F.Files.bytes c.texts_for.new.files) (g.F.Files.left c.texts_for.new.files) (g.F.Files.given c.texts_for.new.files)
    (g.F.Files.unopened c.texts_for.new.files) (g.F.Files.faults c.texts_for.new.files)) (texts_of ts)) (sym c.deref.ensures.value)
    c.in_ok-texts.ensures.loaded)
    (let w = (subst (IsWorkFor c.in_ok-job.job (texts_of c.deref.result.now)) c.in-Text.is c.in_ok-work.ensures) in
    h c.in_ok-job.job (texts_of c.deref.result.now) w.0
    (subst (λ (t : List ℕ). IsAnswered (command_of c.in_ok-job.job) (texts_of c.deref.result.now) t) (sym c.deref-in-Text.ensures.value) w.1)))
    c.write_text.ensures.done

pub returns-in-Text-clause-refused : goal.returns-in-Text-clause-refused
returns-in-Text-clause-refused g c =
    on_err c.write_text.result _ _ (λ e h. texts_refused command_of lawful (map string_bytes c.args.words.now)
    (seen (g.S.Source.left c.args.input.now) (g.S.Source.given c.args.input.now) (g.S.Source.faults c.args.input.now) (g.F.Files.bytes c.args.files.now)
    (g.F.Files.left c.args.files.now) (g.F.Files.given c.args.files.now) (g.F.Files.unopened c.args.files.now) (g.F.Files.faults c.args.files.now))
    (seen (g.S.Source.left c.texts_for.new.input) (g.S.Source.given c.texts_for.new.input) (g.S.Source.faults c.texts_for.new.input)
    (g.F.Files.bytes c.texts_for.new.files) (g.F.Files.left c.texts_for.new.files) (g.F.Files.given c.texts_for.new.files)
    (g.F.Files.unopened c.texts_for.new.files) (g.F.Files.faults c.texts_for.new.files))
    (output_seen (g.K.Sink.held c.args.output.now) (g.K.Sink.faults c.args.output.now))
    (output_seen (g.K.Sink.held c.write_text.new.output) (g.K.Sink.faults c.write_text.new.output)) c.in_ok-job.job (texts_of c.deref.result.now) e.refusal
    c.in_ok-job.ensures.job
    (subst (λ ts. AreLoaded (command_of c.in_ok-job.job).reads
    (seen (g.S.Source.left c.args.input.now) (g.S.Source.given c.args.input.now) (g.S.Source.faults c.args.input.now) (g.F.Files.bytes c.args.files.now)
    (g.F.Files.left c.args.files.now) (g.F.Files.given c.args.files.now) (g.F.Files.unopened c.args.files.now) (g.F.Files.faults c.args.files.now))
    (seen (g.S.Source.left c.texts_for.new.input) (g.S.Source.given c.texts_for.new.input) (g.S.Source.faults c.texts_for.new.input)
    (g.F.Files.bytes c.texts_for.new.files) (g.F.Files.left c.texts_for.new.files) (g.F.Files.given c.texts_for.new.files)
    (g.F.Files.unopened c.texts_for.new.files) (g.F.Files.faults c.texts_for.new.files)) (texts_of ts)) (sym c.deref.ensures.value)
    c.in_ok-texts.ensures.loaded)
    (let w = (subst (IsWorkFor c.in_ok-job.job (texts_of c.deref.result.now)) c.in-Text.is c.in_ok-work.ensures) in
    h c.in_ok-job.job (texts_of c.deref.result.now) w.0
    (subst (λ (t : List ℕ). IsAnswered (command_of c.in_ok-job.job) (texts_of c.deref.result.now) t) (sym c.deref-in-Text.ensures.value) w.1)))
    c.write_text.ensures.stopped

pub returns-in-Text-clause-told : goal.returns-in-Text-clause-told
returns-in-Text-clause-told g c =
    on_err c.write_text.result _ _ (λ e h. told_loaded (map string_bytes c.args.words.now) (command_of c.in_ok-job.job).reads
    (seen (g.S.Source.left c.args.input.now) (g.S.Source.given c.args.input.now) (g.S.Source.faults c.args.input.now) (g.F.Files.bytes c.args.files.now)
    (g.F.Files.left c.args.files.now) (g.F.Files.given c.args.files.now) (g.F.Files.unopened c.args.files.now) (g.F.Files.faults c.args.files.now))
    (seen (g.S.Source.left c.texts_for.new.input) (g.S.Source.given c.texts_for.new.input) (g.S.Source.faults c.texts_for.new.input)
    (g.F.Files.bytes c.texts_for.new.files) (g.F.Files.left c.texts_for.new.files) (g.F.Files.given c.texts_for.new.files)
    (g.F.Files.unopened c.texts_for.new.files) (g.F.Files.faults c.texts_for.new.files)) (texts_of c.deref.result.now) e
    (subst (λ ts. AreLoaded (command_of c.in_ok-job.job).reads
    (seen (g.S.Source.left c.args.input.now) (g.S.Source.given c.args.input.now) (g.S.Source.faults c.args.input.now) (g.F.Files.bytes c.args.files.now)
    (g.F.Files.left c.args.files.now) (g.F.Files.given c.args.files.now) (g.F.Files.unopened c.args.files.now) (g.F.Files.faults c.args.files.now))
    (seen (g.S.Source.left c.texts_for.new.input) (g.S.Source.given c.texts_for.new.input) (g.S.Source.faults c.texts_for.new.input)
    (g.F.Files.bytes c.texts_for.new.files) (g.F.Files.left c.texts_for.new.files) (g.F.Files.given c.texts_for.new.files)
    (g.F.Files.unopened c.texts_for.new.files) (g.F.Files.faults c.texts_for.new.files)) (texts_of ts)) (sym c.deref.ensures.value)
    c.in_ok-texts.ensures.loaded)
    (unnamed_loaded (command_of c.in_ok-job.job).reads (texts_of c.deref.result.now) e h)) c.write_text.ensures.told

pub returns-in-Text-clause-input_untouched : goal.returns-in-Text-clause-input_untouched
returns-in-Text-clause-input_untouched g c = λ none. c.texts_for.ensures.input_kept (λ h. none c.in_ok-job.job c.in_ok-job.ensures.job (inl h))

pub returns-in-Text-clause-files_untouched : goal.returns-in-Text-clause-files_untouched
returns-in-Text-clause-files_untouched g c = λ none. c.texts_for.ensures.files_kept (λ h. none c.in_ok-job.job c.in_ok-job.ensures.job h)

-- or a list

pub returns-in-List-clause-done : goal.returns-in-List-clause-done
returns-in-List-clause-done g c =
    on_ok c.perform_list.result _ _ (λ h. texts_done command_of lawful (map string_bytes c.args.words.now)
    (seen (g.S.Source.left c.args.input.now) (g.S.Source.given c.args.input.now) (g.S.Source.faults c.args.input.now) (g.F.Files.bytes c.args.files.now)
    (g.F.Files.left c.args.files.now) (g.F.Files.given c.args.files.now) (g.F.Files.unopened c.args.files.now) (g.F.Files.faults c.args.files.now))
    (seen (g.S.Source.left c.texts_for.new.input) (g.S.Source.given c.texts_for.new.input) (g.S.Source.faults c.texts_for.new.input)
    (g.F.Files.bytes c.texts_for.new.files) (g.F.Files.left c.texts_for.new.files) (g.F.Files.given c.texts_for.new.files)
    (g.F.Files.unopened c.texts_for.new.files) (g.F.Files.faults c.texts_for.new.files))
    (output_seen (g.K.Sink.held c.args.output.now) (g.K.Sink.faults c.args.output.now))
    (output_seen (g.K.Sink.held c.perform_list.new.output) (g.K.Sink.faults c.perform_list.new.output)) c.in_ok-job.job (texts_of c.deref-in-List.result.now)
    c.in_ok-job.ensures.job
    (subst (λ ts. AreLoaded (command_of c.in_ok-job.job).reads
    (seen (g.S.Source.left c.args.input.now) (g.S.Source.given c.args.input.now) (g.S.Source.faults c.args.input.now) (g.F.Files.bytes c.args.files.now)
    (g.F.Files.left c.args.files.now) (g.F.Files.given c.args.files.now) (g.F.Files.unopened c.args.files.now) (g.F.Files.faults c.args.files.now))
    (seen (g.S.Source.left c.texts_for.new.input) (g.S.Source.given c.texts_for.new.input) (g.S.Source.faults c.texts_for.new.input)
    (g.F.Files.bytes c.texts_for.new.files) (g.F.Files.left c.texts_for.new.files) (g.F.Files.given c.texts_for.new.files)
    (g.F.Files.unopened c.texts_for.new.files) (g.F.Files.faults c.texts_for.new.files)) (texts_of ts)) (sym c.deref-in-List.ensures.value)
    c.in_ok-texts.ensures.loaded)
    (subst (λ (j : Job). IsDoneOn (command_of j) (texts_of c.deref-in-List.result.now)
    (output_seen (g.K.Sink.held c.args.output.now) (g.K.Sink.faults c.args.output.now))
    (output_seen (g.K.Sink.held c.perform_list.new.output) (g.K.Sink.faults c.perform_list.new.output)))
    (sym (subst (IsWorkFor c.in_ok-job.job (texts_of c.deref.result.now)) c.in-List.is c.in_ok-work.ensures)) h)) c.perform_list.ensures.done

pub returns-in-List-clause-refused : goal.returns-in-List-clause-refused
returns-in-List-clause-refused g c =
    on_err c.perform_list.result _ _ (λ e h. texts_refused command_of lawful (map string_bytes c.args.words.now)
    (seen (g.S.Source.left c.args.input.now) (g.S.Source.given c.args.input.now) (g.S.Source.faults c.args.input.now) (g.F.Files.bytes c.args.files.now)
    (g.F.Files.left c.args.files.now) (g.F.Files.given c.args.files.now) (g.F.Files.unopened c.args.files.now) (g.F.Files.faults c.args.files.now))
    (seen (g.S.Source.left c.texts_for.new.input) (g.S.Source.given c.texts_for.new.input) (g.S.Source.faults c.texts_for.new.input)
    (g.F.Files.bytes c.texts_for.new.files) (g.F.Files.left c.texts_for.new.files) (g.F.Files.given c.texts_for.new.files)
    (g.F.Files.unopened c.texts_for.new.files) (g.F.Files.faults c.texts_for.new.files))
    (output_seen (g.K.Sink.held c.args.output.now) (g.K.Sink.faults c.args.output.now))
    (output_seen (g.K.Sink.held c.perform_list.new.output) (g.K.Sink.faults c.perform_list.new.output)) c.in_ok-job.job (texts_of c.deref-in-List.result.now)
    e.refusal
    c.in_ok-job.ensures.job
    (subst (λ ts. AreLoaded (command_of c.in_ok-job.job).reads
    (seen (g.S.Source.left c.args.input.now) (g.S.Source.given c.args.input.now) (g.S.Source.faults c.args.input.now) (g.F.Files.bytes c.args.files.now)
    (g.F.Files.left c.args.files.now) (g.F.Files.given c.args.files.now) (g.F.Files.unopened c.args.files.now) (g.F.Files.faults c.args.files.now))
    (seen (g.S.Source.left c.texts_for.new.input) (g.S.Source.given c.texts_for.new.input) (g.S.Source.faults c.texts_for.new.input)
    (g.F.Files.bytes c.texts_for.new.files) (g.F.Files.left c.texts_for.new.files) (g.F.Files.given c.texts_for.new.files)
    (g.F.Files.unopened c.texts_for.new.files) (g.F.Files.faults c.texts_for.new.files)) (texts_of ts)) (sym c.deref-in-List.ensures.value)
    c.in_ok-texts.ensures.loaded)
    (subst (λ (j : Job). IsStoppedOn (command_of j) (texts_of c.deref-in-List.result.now)
    (output_seen (g.K.Sink.held c.args.output.now) (g.K.Sink.faults c.args.output.now))
    (output_seen (g.K.Sink.held c.perform_list.new.output) (g.K.Sink.faults c.perform_list.new.output)) e.refusal)
    (sym (subst (IsWorkFor c.in_ok-job.job (texts_of c.deref.result.now)) c.in-List.is c.in_ok-work.ensures)) h)) c.perform_list.ensures.stopped

pub returns-in-List-clause-told : goal.returns-in-List-clause-told
returns-in-List-clause-told g c =
    on_err c.perform_list.result _ _ (λ e h. told_loaded (map string_bytes c.args.words.now) (command_of c.in_ok-job.job).reads
    (seen (g.S.Source.left c.args.input.now) (g.S.Source.given c.args.input.now) (g.S.Source.faults c.args.input.now) (g.F.Files.bytes c.args.files.now)
    (g.F.Files.left c.args.files.now) (g.F.Files.given c.args.files.now) (g.F.Files.unopened c.args.files.now) (g.F.Files.faults c.args.files.now))
    (seen (g.S.Source.left c.texts_for.new.input) (g.S.Source.given c.texts_for.new.input) (g.S.Source.faults c.texts_for.new.input)
    (g.F.Files.bytes c.texts_for.new.files) (g.F.Files.left c.texts_for.new.files) (g.F.Files.given c.texts_for.new.files)
    (g.F.Files.unopened c.texts_for.new.files) (g.F.Files.faults c.texts_for.new.files)) (texts_of c.deref-in-List.result.now) e
    (subst (λ ts. AreLoaded (command_of c.in_ok-job.job).reads
    (seen (g.S.Source.left c.args.input.now) (g.S.Source.given c.args.input.now) (g.S.Source.faults c.args.input.now) (g.F.Files.bytes c.args.files.now)
    (g.F.Files.left c.args.files.now) (g.F.Files.given c.args.files.now) (g.F.Files.unopened c.args.files.now) (g.F.Files.faults c.args.files.now))
    (seen (g.S.Source.left c.texts_for.new.input) (g.S.Source.given c.texts_for.new.input) (g.S.Source.faults c.texts_for.new.input)
    (g.F.Files.bytes c.texts_for.new.files) (g.F.Files.left c.texts_for.new.files) (g.F.Files.given c.texts_for.new.files)
    (g.F.Files.unopened c.texts_for.new.files) (g.F.Files.faults c.texts_for.new.files)) (texts_of ts)) (sym c.deref-in-List.ensures.value)
    c.in_ok-texts.ensures.loaded)
    (subst (λ (j : Job). IsOfLoaded (command_of j).reads (texts_of c.deref-in-List.result.now) e)
    (sym (subst (IsWorkFor c.in_ok-job.job (texts_of c.deref.result.now)) c.in-List.is c.in_ok-work.ensures)) h)) c.perform_list.ensures.told

pub returns-in-List-clause-input_untouched : goal.returns-in-List-clause-input_untouched
returns-in-List-clause-input_untouched g c = λ none. c.texts_for.ensures.input_kept (λ h. none c.in_ok-job.job c.in_ok-job.ensures.job (inl h))

pub returns-in-List-clause-files_untouched : goal.returns-in-List-clause-files_untouched
returns-in-List-clause-files_untouched g c = λ none. c.texts_for.ensures.files_kept (λ h. none c.in_ok-job.job c.in_ok-job.ensures.job h)

pub perform_list-requires-clause-limits : goal.perform_list-requires-clause-limits
perform_list-requires-clause-limits g c κs within =
    subst HasNumbersInRange (subst (IsWorkFor c.in_ok-job.job (texts_of c.deref.result.now)) c.in-List.is c.in_ok-work.ensures) c.in_ok-job.ensures.limits

pub perform_list-requires-clause-all : goal.perform_list-requires-clause-all
perform_list-requires-clause-all g c κs within =
    let l = loaded_length (command_of c.in_ok-job.job).reads
    (seen (g.S.Source.left c.args.input.now) (g.S.Source.given c.args.input.now) (g.S.Source.faults c.args.input.now) (g.F.Files.bytes c.args.files.now)
    (g.F.Files.left c.args.files.now) (g.F.Files.given c.args.files.now) (g.F.Files.unopened c.args.files.now) (g.F.Files.faults c.args.files.now))
    (seen (g.S.Source.left c.texts_for.new.input) (g.S.Source.given c.texts_for.new.input) (g.S.Source.faults c.texts_for.new.input)
    (g.F.Files.bytes c.texts_for.new.files) (g.F.Files.left c.texts_for.new.files) (g.F.Files.given c.texts_for.new.files)
    (g.F.Files.unopened c.texts_for.new.files) (g.F.Files.faults c.texts_for.new.files)) (texts_of c.in_ok-texts.texts.items)
    c.in_ok-texts.ensures.loaded in
    ap length c.deref-in-List.ensures.value ∙ sym (texts_length c.in_ok-texts.texts.items) ∙ l
    ∙ ap (λ j. length (command_of j).reads) (subst (IsWorkFor c.in_ok-job.job (texts_of c.deref.result.now)) c.in-List.is c.in_ok-work.ensures)
