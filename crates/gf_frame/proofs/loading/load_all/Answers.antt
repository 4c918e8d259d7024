use Rattle.std.proofs.Common.{rules, refl, ap, subst, sym, ◌∙◌, arith, []}
use Rattle.std.proofs.lemmas.Result.{err_from_is_err_and}
use Rattle.gf_frame.specs.Seen.{seen}
use Rattle.gf_frame.specs.Loading.{AreLoaded}
use Rattle.gf_frame.specs.Origins.{texts_of}
use Rattle.gf_frame.proofs.LoopLaws.{one_loaded, one_unloaded, one_full, all_loaded, input_among, file_among}
use Rattle.gf_frame.proofs.loading.load_all.Goals as goal

pub loop-from-init : goal.loop-from-init
loop-from-init g c = (
  subst (AreLoaded [] (seen (g.S.Source.left c.args.input.now) (g.S.Source.given c.args.input.now) (g.S.Source.faults c.args.input.now)
      (g.F.Files.bytes c.args.files.now) (g.F.Files.left c.args.files.now) (g.F.Files.given c.args.files.now) (g.F.Files.unopened c.args.files.now)
      (g.F.Files.faults c.args.files.now)) (seen (g.S.Source.left c.args.input.now) (g.S.Source.given c.args.input.now) (g.S.Source.faults c.args.input.now)
      (g.F.Files.bytes c.args.files.now) (g.F.Files.left c.args.files.now) (g.F.Files.given c.args.files.now) (g.F.Files.unopened c.args.files.now)
      (g.F.Files.faults c.args.files.now))) (ap texts_of (sym c.new-texts.ensures.items)) refl,
  λ n. refl,
  λ n. refl,
)

pub returns-in_err-text-clause-unloaded : goal.returns-in_err-text-clause-unloaded
returns-in_err-text-clause-unloaded g c =
    let p = err_from_is_err_and c.from_residual.result c.from_residual.ensures.1 in
    rw (p.1, p.2) (one_unloaded c.args.sources.now c.loop-from.from-index _ c.loop-from-test.true
    (seen (g.S.Source.left c.args.input.now) (g.S.Source.given c.args.input.now) (g.S.Source.faults c.args.input.now) (g.F.Files.bytes c.args.files.now)
    (g.F.Files.left c.args.files.now) (g.F.Files.given c.args.files.now) (g.F.Files.unopened c.args.files.now) (g.F.Files.faults c.args.files.now))
    (seen (g.S.Source.left c.loop-from.input) (g.S.Source.given c.loop-from.input) (g.S.Source.faults c.loop-from.input) (g.F.Files.bytes c.loop-from.files)
    (g.F.Files.left c.loop-from.files) (g.F.Files.given c.loop-from.files) (g.F.Files.unopened c.loop-from.files) (g.F.Files.faults c.loop-from.files))
    (seen (g.S.Source.left c.load_one.new.input) (g.S.Source.given c.load_one.new.input) (g.S.Source.faults c.load_one.new.input)
    (g.F.Files.bytes c.load_one.new.files) (g.F.Files.left c.load_one.new.files) (g.F.Files.given c.load_one.new.files)
    (g.F.Files.unopened c.load_one.new.files) (g.F.Files.faults c.load_one.new.files)) c.loop-from.texts.items c.loop-from.invariant.0 _
    c.in_err-text.ensures.unloaded)

pub returns-then-is_err-clause-unloaded : goal.returns-then-is_err-clause-unloaded
returns-then-is_err-clause-unloaded g c =
    one_full c.args.sources.now c.loop-from.from-index _ c.loop-from-test.true (seen (g.S.Source.left c.args.input.now) (g.S.Source.given c.args.input.now)
    (g.S.Source.faults c.args.input.now) (g.F.Files.bytes c.args.files.now) (g.F.Files.left c.args.files.now) (g.F.Files.given c.args.files.now)
    (g.F.Files.unopened c.args.files.now) (g.F.Files.faults c.args.files.now))
    (seen (g.S.Source.left c.loop-from.input) (g.S.Source.given c.loop-from.input) (g.S.Source.faults c.loop-from.input) (g.F.Files.bytes c.loop-from.files)
    (g.F.Files.left c.loop-from.files) (g.F.Files.given c.loop-from.files) (g.F.Files.unopened c.loop-from.files) (g.F.Files.faults c.loop-from.files))
    (seen (g.S.Source.left c.load_one.new.input) (g.S.Source.given c.load_one.new.input) (g.S.Source.faults c.load_one.new.input)
    (g.F.Files.bytes c.load_one.new.files) (g.F.Files.left c.load_one.new.files) (g.F.Files.given c.load_one.new.files)
    (g.F.Files.unopened c.load_one.new.files) (g.F.Files.faults c.load_one.new.files)) c.loop-from.texts.items c.loop-from.invariant.0 _
    c.in_ok-text.ensures.loaded

pub loop-from-preserved : goal.loop-from-preserved
loop-from-preserved g c = (
  one_loaded c.args.sources.now c.loop-from.from-index _ c.loop-from-test.true (seen (g.S.Source.left c.args.input.now) (g.S.Source.given c.args.input.now)
      (g.S.Source.faults c.args.input.now) (g.F.Files.bytes c.args.files.now) (g.F.Files.left c.args.files.now) (g.F.Files.given c.args.files.now)
      (g.F.Files.unopened c.args.files.now) (g.F.Files.faults c.args.files.now)) (seen (g.S.Source.left c.loop-from.input) (g.S.Source.given c.loop-from.input)
      (g.S.Source.faults c.loop-from.input) (g.F.Files.bytes c.loop-from.files) (g.F.Files.left c.loop-from.files) (g.F.Files.given c.loop-from.files)
      (g.F.Files.unopened c.loop-from.files) (g.F.Files.faults c.loop-from.files))
      (seen (g.S.Source.left c.load_one.new.input) (g.S.Source.given c.load_one.new.input) (g.S.Source.faults c.load_one.new.input)
      (g.F.Files.bytes c.load_one.new.files) (g.F.Files.left c.load_one.new.files) (g.F.Files.given c.load_one.new.files)
      (g.F.Files.unopened c.load_one.new.files) (g.F.Files.faults c.load_one.new.files)) c.loop-from.texts.items c.loop-from.invariant.0 c.push.new.self.items
      c.in_ok-text.text (search rules) c.in_ok-text.ensures.loaded,
  λ n. c.load_one.ensures.input_kept (λ h. n (input_among c.args.sources.now c.loop-from.from-index _ c.loop-from-test.true h)) ∙ c.loop-from.invariant.1 n,
  λ n. c.load_one.ensures.files_kept (λ h. n (file_among c.args.sources.now c.loop-from.from-index _ c.loop-from-test.true h)) ∙ c.loop-from.invariant.2 n,
)

pub returns-clause-loaded : goal.returns-clause-loaded
returns-clause-loaded g c =
    all_loaded c.args.sources.now c.loop-from.from-index (seen (g.S.Source.left c.args.input.now) (g.S.Source.given c.args.input.now)
    (g.S.Source.faults c.args.input.now) (g.F.Files.bytes c.args.files.now) (g.F.Files.left c.args.files.now) (g.F.Files.given c.args.files.now)
    (g.F.Files.unopened c.args.files.now) (g.F.Files.faults c.args.files.now))
    (seen (g.S.Source.left c.loop-from.input) (g.S.Source.given c.loop-from.input) (g.S.Source.faults c.loop-from.input) (g.F.Files.bytes c.loop-from.files)
    (g.F.Files.left c.loop-from.files) (g.F.Files.given c.loop-from.files) (g.F.Files.unopened c.loop-from.files) (g.F.Files.faults c.loop-from.files))
    (texts_of c.loop-from.texts.items) (omega (arith, c.loop-from-test.false)) c.loop-from.invariant.0

pub returns-in_err-text-clause-input_kept : goal.returns-in_err-text-clause-input_kept
returns-in_err-text-clause-input_kept g c = λ n. c.load_one.ensures.input_kept
    (λ h. n (input_among c.args.sources.now c.loop-from.from-index _ c.loop-from-test.true h)) ∙ c.loop-from.invariant.1 n

pub returns-in_err-text-clause-files_kept : goal.returns-in_err-text-clause-files_kept
returns-in_err-text-clause-files_kept g c =
    λ n. c.load_one.ensures.files_kept (λ h. n (file_among c.args.sources.now c.loop-from.from-index _ c.loop-from-test.true h)) ∙ c.loop-from.invariant.2 n

pub returns-then-is_err-clause-input_kept : goal.returns-then-is_err-clause-input_kept
returns-then-is_err-clause-input_kept g c = λ n. c.load_one.ensures.input_kept
    (λ h. n (input_among c.args.sources.now c.loop-from.from-index _ c.loop-from-test.true h)) ∙ c.loop-from.invariant.1 n

pub returns-then-is_err-clause-files_kept : goal.returns-then-is_err-clause-files_kept
returns-then-is_err-clause-files_kept g c =
    λ n. c.load_one.ensures.files_kept (λ h. n (file_among c.args.sources.now c.loop-from.from-index _ c.loop-from-test.true h)) ∙ c.loop-from.invariant.2 n
