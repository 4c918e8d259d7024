-- What a run has written that is done.
-- To cite: some_of, written_answer. The rest are steps.
use Rattle.std.specs.Prelude.{◌≡◌, ℕ, Bool, true, false, List, [], ◌∷◌, Option, Some, IfSome}
use Rattle.std.specs.Io.KnownBytes.{Appends}
use Rattle.std.proofs.Common.{refl, sym, subst}
use Rattle.gf_front.specs.Jobs.{IsJobOf}
use Rattle.gf_frame.specs.Seen.{Seen, OutputSeen}
use Rattle.gf_frame.specs.Loading.{Origin, AreLoaded, IsKnown}
use Rattle.gf_frame.specs.Commands.{Writing, Command, IsAnswered}
use Rattle.gf_frame.specs.Runs.{TakesTurns, IsCarriedOut, IsDoneBy}
use Rattle.gf_frame.specs.Programs.{IsRunDone}
use Rattle.gf_frame.proofs.LoadingLaws.{loaded_known}
use Rattle.gf_frame.proofs.ProgramLaws.{done_as}
use Rattle.gfan_lists.specs.declared.bases.ListOptions.{ListOptions}
use Rattle.gfan.specs.Commands.{command_of, list_job, IsAnswerTo}
use Rattle.gfan.proofs.CommandLaws.{lawful}

-- what holds of a value that is there
pub some_of : {A : Type 0} (P : A → Type 0) (o : Option A) (x : A) → IfSome o P → o ≡ Some x → P x
some_of P o x h e = subst (λ y. IfSome y P) e h

module _ (c : Command) (p q : Seen) (o s : OutputSeen) where
  -- a command that takes no turns has written its answer
  carried : (writing : Writing c.Value) (texts : List (List ℕ)) (m : Seen) → (TakesTurns writing → ⊥) → IsCarriedOut c writing texts m q o s →
      (text : List ℕ) × IsAnswered c texts text × Appends o.held s.held text
  carried Writing.at_end texts m n g = g.1
  carried (Writing.as_it_goes whole begun early) texts m n g = g.1
  carried (Writing.in_turns turns) texts m n g = absurd (n tt)

  -- and if it reads the input alone, that for what was left of it
  answered : (source held : List ℕ) → c.reads ≡ Origin.the_input ∷ [] → (TakesTurns c.writing → ⊥) → IsKnown Origin.the_input p q source →
      o.held ≡ Some [] → s.held ≡ Some held → IsDoneBy c p q o s → IsAnswered c (source ∷ []) held
  answered source held r n k e f d =
      let g = carried c.writing d.texts d.then n d.gone in
      let l : AreLoaded (Origin.the_input ∷ []) p d.then d.texts = subst (λ (os : List Origin). AreLoaded os p d.then d.texts) r d.loaded in
      let texts : d.texts ≡ source ∷ [] = loaded_known (Origin.the_input ∷ []) p q d.then (source ∷ []) d.texts (λ h. h) (k, tt) l in
      let grown : Appends (Some []) (Some held) g.0 =
      subst (λ x. Appends x (Some held) g.0) e (subst (λ x. Appends o.held x g.0) f g.2) in
      subst (λ (t : List ℕ). IsAnswered c (source ∷ []) t) (sym grown) (subst (λ (ts : List (List ℕ)). IsAnswered c ts g.0) texts g.1)

-- a list of bases for all positive weights, to an output that was empty
pub written_answer : (words : List (List ℕ)) (p q : Seen) (o s : OutputSeen) (from_basis : Bool) (options : ListOptions) (workers : ℕ)
    (source held : List ℕ) → IsJobOf words (list_job from_basis options workers) → IsKnown Origin.the_input p q source →
    o.held ≡ Some [] → s.held ≡ Some held → IsRunDone command_of words p q o s → IsAnswerTo (list_job from_basis options workers) source held
written_answer words p q o s false options workers source held j k e f d =
    let job = list_job false options workers in
    answered (command_of job) p q o s source held refl (λ t. t) k e f (done_as command_of lawful words p q o s job j d)
written_answer words p q o s true options workers source held j k e f d =
    let job = list_job true options workers in
    answered (command_of job) p q o s source held refl (λ t. t) k e f (done_as command_of lawful words p q o s job j d)
