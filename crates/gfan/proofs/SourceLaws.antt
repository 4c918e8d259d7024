-- What a job is handed, from the texts of its sources as the code lists them, and what is left to do of it.
-- To cite: texts_length, list_as, work_on_input, work_on_two, work_on_none. The rest are steps.
use Rattle.std.specs.Prelude.{◌≡◌, ℕ, List, [], ◌∷◌, length, get_or, Vec, Result, Ok, Err, IfOk, IfErr, MatchResult}
use Rattle.std.specs.Global.{Global}
use Rattle.std.proofs.Common.{arith, refl, sym, ap, ◌∙◌, subst}
use Rattle.gf_front.specs.declared.command_line.Job.{Job}
use Rattle.gf_front.specs.declared.command_line.Job.TheVariants as jobs
use Rattle.gf_front.specs.declared.options.BasesOptions.{BasesOptions}
use Rattle.gf_front.specs.declared.options.FanCommonRefinementOptions.{FanCommonRefinementOptions}
use Rattle.gf_front.specs.declared.options.GeneratedOptions.{GeneratedOptions}
use Rattle.gf_frame.specs.Loading.{Origin}
use Rattle.gf_frame.specs.Origins.{texts_of}
use Rattle.gf_frame.specs.Commands.{Command, WritesOnce, IsAnswered, IsRefusedOn}
use Rattle.gfan_common.specs.declared.refused.Refused.{Refused}
use Rattle.gfan_common.specs.Refused.{IsUnnamed, IsOfSource}
use Rattle.gfan_common.proofs.PerformedLaws.{on_err}
use Rattle.gfan_plain_theory.specs.ListOptions.{ListOptions}
use Rattle.gfan_plain_theory.specs.Ways.{Ways, ways_of, list_options}
use Rattle.gfan_plain_theory.specs.ListCommand.{list_sources, list_command}
use Rattle.gfan_plain_theory.proofs.TextsLaws.{one_alone, two_alone}
use Rattle.gfan.specs.declared.commands.Work.{Work}
use Rattle.gfan.specs.Commands.{command_of, ReadsInputAlone}
use Rattle.gfan.specs.Run.{IsOfLoaded}
use Rattle.gfan.specs.Work.{as_text, IsWorkFor, IsWorkRefused}

pub texts_length : (ts : List (Vec ℕ Global)) → length (texts_of ts) ≡ length ts
texts_length [] = refl
texts_length (t ∷ ts) = let e = texts_length ts in omega (arith, e)

-- ---- a list

-- it has the texts of its files, if any, and of the input
pub list_as : (P : Command → List (List ℕ) → Type 0) (o : BasesOptions) (ways : Ways) (u : ListOptions) (ts us : List (List ℕ)) → ways ≡ ways_of o →
    u ≡ list_options o → us ≡ ts → ((sources : List Origin) → P (list_command ways sources u) us) → P (command_of (jobs.Bases o)) ts
list_as P o ways u ts us w e t h =
    let sources = list_sources o.within o.after in
    subst (λ xs. P (list_command (ways_of o) sources (list_options o)) xs) t
    (subst (λ (x : ListOptions). P (list_command (ways_of o) sources x) us) e (subst (λ (x : Ways). P (list_command x sources u) us) w (h sources)))

-- ---- a job that writes once

-- what is answered of its texts is its work
work_of : (job : Job) (texts : List (List ℕ)) (answer : Result (Vec ℕ Global) Refused) → WritesOnce (command_of job).writing →
    IfOk answer (λ text. IsAnswered (command_of job) texts text.items) → IfErr answer (λ e. IsRefusedOn (command_of job) texts e.refusal) →
    IfErr answer (IsOfLoaded (command_of job).reads texts) → MatchResult (as_text answer) (IsWorkFor job texts) (IsWorkRefused job texts)
work_of job texts (Ok text) once ok err told = (once, ok)
work_of job texts (Err e) once ok err told = record { once = once; cause = err; told = told }

-- also as the code has the job, the texts and the work
work_as : (job other : Job) (texts us : List (List ℕ)) (answer : Result (Vec ℕ Global) Refused) (work : Result Work Refused) → job ≡ other → us ≡ texts →
    work ≡ as_text answer → MatchResult (as_text answer) (IsWorkFor other us) (IsWorkRefused other us) →
    MatchResult work (IsWorkFor job texts) (IsWorkRefused job texts)
work_as job other texts us answer work is same e h =
    subst (λ (w : Result Work Refused). MatchResult w (IsWorkFor job texts) (IsWorkRefused job texts)) (sym e)
    (subst (λ (j : Job). MatchResult (as_text answer) (IsWorkFor j texts) (IsWorkRefused j texts)) (sym is)
    (subst (λ (ts : List (List ℕ)). MatchResult (as_text answer) (IsWorkFor other ts) (IsWorkRefused other ts)) same h))

-- on the input alone
pub work_on_input : (job other : Job) (ts : List (Vec ℕ Global)) (x : Vec ℕ Global) (a : List ℕ) (answer : Result (Vec ℕ Global) Refused)
    (work : Result Work Refused) → job ≡ other → WritesOnce (command_of other).writing → ReadsInputAlone other →
    length ts ≡ length (command_of job).reads → x ≡ get_or ts 0 x → a ≡ x.items → work ≡ as_text answer →
    IfOk answer (λ text. IsAnswered (command_of other) (a ∷ []) text.items) → IfErr answer (λ e. IsRefusedOn (command_of other) (a ∷ []) e.refusal) →
    IfErr answer (IsOfSource a) → MatchResult work (IsWorkFor job (texts_of ts)) (IsWorkRefused job (texts_of ts))
work_on_input job other ts x a answer work is once alone l i p e ok err told =
    work_as job other (texts_of ts) (a ∷ []) answer work is (one_alone ts x a (l ∙ ap (λ j. length (command_of j).reads) is ∙ ap length alone) i p) e
    (work_of other (a ∷ []) answer once ok err
    (on_err answer _ _ (λ r h. subst (λ os. IsOfLoaded os (a ∷ []) r) (sym alone) h) told))

-- on two files
pub work_on_two : (job : Job) (o : FanCommonRefinementOptions) (ts : List (Vec ℕ Global)) (x y : Vec ℕ Global) (a b : List ℕ)
    (answer : Result (Vec ℕ Global) Refused) (work : Result Work Refused) → job ≡ jobs.FanCommonRefinement o → length ts ≡ length (command_of job).reads →
    x ≡ get_or ts 0 x → y ≡ get_or ts 1 y → a ≡ x.items → b ≡ y.items → work ≡ as_text answer →
    IfOk answer (λ text. IsAnswered (command_of (jobs.FanCommonRefinement o)) (a ∷ (b ∷ [])) text.items) →
    IfErr answer (λ e. IsRefusedOn (command_of (jobs.FanCommonRefinement o)) (a ∷ (b ∷ [])) e.refusal) → IfErr answer IsUnnamed →
    MatchResult work (IsWorkFor job (texts_of ts)) (IsWorkRefused job (texts_of ts))
work_on_two job o ts x y a b answer work is l i j p q e ok err told =
    work_as job (jobs.FanCommonRefinement o) (texts_of ts) (a ∷ (b ∷ [])) answer work is
    (two_alone ts x y a b (l ∙ ap (λ k. length (command_of k).reads) is) i j p q) e
    (work_of (jobs.FanCommonRefinement o) (a ∷ (b ∷ [])) answer tt ok err told)

-- on nothing
none_alone : (ts : List (Vec ℕ Global)) → length ts ≡ 0 → [] ≡ texts_of ts
none_alone [] e = refl
none_alone (t ∷ ts) e = absurd (omega (arith, e))

pub work_on_none : (job : Job) (o : GeneratedOptions) (ts : List (Vec ℕ Global)) (answer : Result (Vec ℕ Global) Refused) (work : Result Work Refused) →
    job ≡ jobs.Generated o → length ts ≡ length (command_of job).reads → work ≡ as_text answer →
    IfOk answer (λ text. IsAnswered (command_of (jobs.Generated o)) [] text.items) →
    IfErr answer (λ e. IsRefusedOn (command_of (jobs.Generated o)) [] e.refusal) → IfErr answer IsUnnamed →
    MatchResult work (IsWorkFor job (texts_of ts)) (IsWorkRefused job (texts_of ts))
work_on_none job o ts answer work is l e ok err told =
    work_as job (jobs.Generated o) (texts_of ts) [] answer work is (none_alone ts (l ∙ ap (λ k. length (command_of k).reads) is)) e
    (work_of (jobs.Generated o) [] answer tt ok err told)
