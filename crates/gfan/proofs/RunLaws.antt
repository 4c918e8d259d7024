-- How a run ends: with which names its refusal is told, and that a list comes to its limit where it goes on past it.
-- To cite: words_named, unloaded_named, unnamed_loaded, told_loaded, one_told, turns_done, turns_refused, turns_told, takes_turns; limit_not_done, limit_told,
-- of_no_source.
-- The rest are steps.
use Rattle.std.specs.Prelude.{◌≡◌, ◌⊎◌, ℕ, List, [], ◌∷◌, Option, None, Some, IfSome, is_some}
use Rattle.std.proofs.Common.{sym, ap, ◌∙◌, subst, inl, inr, ◌≡◌, List, ℕ, Option, None, Some}
use Rattle.gf_outside.specs.Faults.{Rose}
use Rattle.gf_front.specs.declared.command_line.Job.{Job}
use Rattle.gf_front.specs.declared.command_line.Job.TheVariants as jobs
use Rattle.gf_front.specs.declared.options.InteractiveOptions.{InteractiveOptions}
use Rattle.gf_front.specs.declared.refusal.Refusal.{Refusal}
use Rattle.gf_front.specs.declared.refusal.Refusal.TheVariants as refusals
use Rattle.gf_front.specs.declared.refusal.Status.TheVariants as statuses
use Rattle.gf_front.specs.Jobs.{IsJobOf}
use Rattle.gf_frame.specs.Seen.{InputSeen, Seen, OutputSeen}
use Rattle.gf_frame.specs.Loading.{Origin, IsInputLoaded, AreLoaded, AreUnloaded}
use Rattle.gf_frame.specs.Commands.{Writing, Command, IsOfOutside, IsAnswered, IsRefusedOn}
use Rattle.gf_frame.specs.Runs.{TakesTurns, IsCarriedOut, IsDoneBy, AreCut, IsStoppedBy, AreGivenTexts}
use Rattle.gf_frame.specs.Programs.{IsRunDone, IsRunRefused, IsRefusedWith, ReadsInput}
use Rattle.gf_frame.proofs.LoadingLaws.{loaded_known, unloaded_known, unloaded_outside}
use Rattle.gf_frame.proofs.ProgramLaws.{done_as, stopped_as}
use Rattle.gfan_common.specs.declared.refused.Refused.{Refused}
use Rattle.gfan_common.specs.Refused.{IsUnnamed, IsNamedBy, IsRingOf, IsOfSource, without_names}
use Rattle.gfan.specs.Commands.{command_of, IsPastReach}
use Rattle.gfan.specs.Run.{ReadWhole, IsRingOfInput, IsRingOfFile, IsOfSources, IsOfLoaded}
use Rattle.gfan_common.proofs.PerformedLaws.{of_unnamed}
use Rattle.gfan_plain_theory.proofs.PastLaws.{past_refused, past_unanswered}
use Rattle.gfan_plain_theory.specs.Ways.{ways_of, list_options}
use Rattle.gfan_plain_theory.specs.ListCommand.{list_sources}
use Rattle.gfan.proofs.CommandLaws.{lawful}
use Rattle.gfan_interactive.specs.Interactive.{IsConversed, IsNotConversed}
use Rattle.gfan_interactive.proofs.InteractiveLaws.{conversed_done, conversed_stopped}

-- ---- the line of a refusal

-- a refusal of the outside names no monomials
outside_named : (r : Refusal) → IsOfOutside r → IsNamedBy None r
outside_named (refusals.NotReduced set polynomial term) h = absurd h
outside_named (refusals.NotBasis set first second remainder) h = absurd h
outside_named (refusals.NotHomogeneous polynomial first second) h = absurd h
outside_named (refusals.NotListed side index remainder) h = absurd h
outside_named _ h = λ lent is. tt

pub unloaded_named : (os : List Origin) (p q : Seen) (r : Refusal) → AreUnloaded os p q r → IsNamedBy None r
unloaded_named os p q r u = outside_named r (unloaded_outside os p q r u)

unnamed_input : (words : List (List ℕ)) (bytes : List ℕ → Option (List ℕ)) (left leaves : Option (List ℕ)) (given gives : ℕ) (e : Refused) → IsUnnamed e →
    IsOfSources words bytes left leaves given gives e
unnamed_input words bytes left leaves given gives e u = record {
  named = subst (λ ring. IsNamedBy ring e.refusal) (sym u.ring) u.named;
  ring = subst (λ ring. IfSome ring (λ names. IsRingOfInput left leaves given gives names ⊎ IsRingOfFile words bytes names)) (sym u.ring) tt;
}

-- what is told without a ring is told so of any sources
pub unnamed_loaded : (os : List Origin) (texts : List (List ℕ)) (e : Refused) → IsUnnamed e → IsOfLoaded os texts e
unnamed_loaded [] texts e u = u
unnamed_loaded (Origin.a_file name ∷ []) texts e u = u
unnamed_loaded (Origin.a_file name ∷ (Origin.a_file other ∷ [])) texts e u = u
unnamed_loaded (Origin.a_file name ∷ (Origin.a_file other ∷ (Origin.a_file third ∷ os))) texts e u = u
unnamed_loaded (Origin.a_file name ∷ (Origin.a_file other ∷ (Origin.the_input ∷ (o ∷ os)))) texts e u = u
unnamed_loaded (Origin.a_file name ∷ (Origin.a_file other ∷ (Origin.the_input ∷ []))) [] e u = u
unnamed_loaded (Origin.a_file name ∷ (Origin.a_file other ∷ (Origin.the_input ∷ []))) (file ∷ []) e u = u
unnamed_loaded (Origin.a_file name ∷ (Origin.a_file other ∷ (Origin.the_input ∷ []))) (file ∷ (second ∷ [])) e u = u
unnamed_loaded (Origin.a_file name ∷ (Origin.a_file other ∷ (Origin.the_input ∷ []))) (file ∷ (second ∷ (source ∷ []))) e u = of_unnamed source e u
unnamed_loaded (Origin.a_file name ∷ (Origin.a_file other ∷ (Origin.the_input ∷ []))) (file ∷ (second ∷ (source ∷ (more ∷ others)))) e u = u
unnamed_loaded (Origin.a_file name ∷ (Origin.the_input ∷ (o ∷ os))) texts e u = u
unnamed_loaded (Origin.a_file name ∷ (Origin.the_input ∷ [])) [] e u = u
unnamed_loaded (Origin.a_file name ∷ (Origin.the_input ∷ [])) (file ∷ []) e u = u
unnamed_loaded (Origin.a_file name ∷ (Origin.the_input ∷ [])) (file ∷ (source ∷ [])) e u = of_unnamed source e u
unnamed_loaded (Origin.a_file name ∷ (Origin.the_input ∷ [])) (file ∷ (source ∷ (other ∷ others))) e u = u
unnamed_loaded (Origin.the_input ∷ (o ∷ os)) texts e u = u
unnamed_loaded (Origin.the_input ∷ []) [] e u = u
unnamed_loaded (Origin.the_input ∷ []) (source ∷ []) e u = of_unnamed source e u
unnamed_loaded (Origin.the_input ∷ []) (source ∷ (other ∷ others)) e u = u

module _ (words : List (List ℕ)) where
  -- the ring of the text is that of the input
  of_input : (p m q : Seen) (source : List ℕ) (e : Refused) → IsInputLoaded p m source → q ≡ m → IsOfSource source e →
      IsOfSources words p.files.bytes p.input.left q.input.left p.input.given q.input.given e
  of_input p m q source e l same h = record { named = h.named; ring = at e.ring h.ring }
    where
      whole : ReadWhole p.input.left q.input.left p.input.given q.input.given source
      whole = subst (λ (x : Seen). ReadWhole p.input.left x.input.left p.input.given x.input.given source) (sym same)
          (record { took = l.took; end = l.end; short = l.short })

      at : (ring : Option (List (List ℕ))) → IfSome ring (IsRingOf source) →
          IfSome ring (λ names. IsRingOfInput p.input.left q.input.left p.input.given q.input.given names ⊎ IsRingOfFile words p.files.bytes names)
      at None x = tt
      at (Some names) x = inl (record { source = source; read = whole; ring = x })

  pub told_loaded : (os : List Origin) (p q : Seen) (texts : List (List ℕ)) (e : Refused) → AreLoaded os p q texts → IsOfLoaded os texts e →
      IsOfSources words p.files.bytes p.input.left q.input.left p.input.given q.input.given e
  told_loaded [] p q texts e l h = unnamed_input words p.files.bytes p.input.left q.input.left p.input.given q.input.given e h
  told_loaded (Origin.a_file name ∷ []) p q texts e l h = unnamed_input words p.files.bytes p.input.left q.input.left p.input.given q.input.given e h
  told_loaded (Origin.a_file name ∷ (Origin.a_file other ∷ [])) p q texts e l h =
      unnamed_input words p.files.bytes p.input.left q.input.left p.input.given q.input.given e h
  told_loaded (Origin.a_file name ∷ (Origin.a_file other ∷ (Origin.a_file third ∷ os))) p q texts e l h =
      unnamed_input words p.files.bytes p.input.left q.input.left p.input.given q.input.given e h
  told_loaded (Origin.a_file name ∷ (Origin.a_file other ∷ (Origin.the_input ∷ (o ∷ os)))) p q texts e l h =
      unnamed_input words p.files.bytes p.input.left q.input.left p.input.given q.input.given e h
  told_loaded (Origin.a_file name ∷ (Origin.a_file other ∷ (Origin.the_input ∷ []))) p q [] e l h = absurd l
  told_loaded (Origin.a_file name ∷ (Origin.a_file other ∷ (Origin.the_input ∷ []))) p q (file ∷ []) e l h = absurd l.2
  told_loaded (Origin.a_file name ∷ (Origin.a_file other ∷ (Origin.the_input ∷ []))) p q (file ∷ (second ∷ [])) e l h = absurd l.2.2
  told_loaded (Origin.a_file name ∷ (Origin.a_file other ∷ (Origin.the_input ∷ []))) p q (file ∷ (second ∷ (source ∷ []))) e l h =
      subst (λ (z : List ℕ → Option (List ℕ)). IsOfSources words z p.input.left q.input.left p.input.given q.input.given e) (l.2.1.kept ∙ l.1.kept)
      (subst (λ (i : InputSeen). IsOfSources words l.2.0.files.bytes i.left q.input.left i.given q.input.given e)
      (l.2.1.input ∙ l.1.input) (of_input l.2.0 l.2.2.0 q source e l.2.2.1 l.2.2.2 h))
  told_loaded (Origin.a_file name ∷ (Origin.a_file other ∷ (Origin.the_input ∷ []))) p q (file ∷ (second ∷ (source ∷ (more ∷ others)))) e l h = absurd l.2.2.2
  told_loaded (Origin.a_file name ∷ (Origin.the_input ∷ (o ∷ os))) p q texts e l h =
      unnamed_input words p.files.bytes p.input.left q.input.left p.input.given q.input.given e h
  told_loaded (Origin.a_file name ∷ (Origin.the_input ∷ [])) p q [] e l h = absurd l
  told_loaded (Origin.a_file name ∷ (Origin.the_input ∷ [])) p q (file ∷ []) e l h = absurd l.2
  told_loaded (Origin.a_file name ∷ (Origin.the_input ∷ [])) p q (file ∷ (source ∷ [])) e l h =
      subst (λ (z : List ℕ → Option (List ℕ)). IsOfSources words z p.input.left q.input.left p.input.given q.input.given e) l.1.kept
      (subst (λ (i : InputSeen). IsOfSources words l.0.files.bytes i.left q.input.left i.given q.input.given e) l.1.input
      (of_input l.0 l.2.0 q source e l.2.1 l.2.2 h))
  told_loaded (Origin.a_file name ∷ (Origin.the_input ∷ [])) p q (file ∷ (source ∷ (other ∷ others))) e l h = absurd l.2.2
  told_loaded (Origin.the_input ∷ (o ∷ os)) p q texts e l h = unnamed_input words p.files.bytes p.input.left q.input.left p.input.given q.input.given e h
  told_loaded (Origin.the_input ∷ []) p q [] e l h = absurd l
  told_loaded (Origin.the_input ∷ []) p q (source ∷ []) e l h = of_input p l.0 q source e l.1 l.2 h
  told_loaded (Origin.the_input ∷ []) p q (source ∷ (other ∷ others)) e l h = absurd l.2

  -- the ring of the text is that of the one file that the job reads
  told_of_file : (job : Job) (name : List ℕ) (p m q : Seen) (source : List ℕ) (e : Refused) → IsJobOf words job →
      (command_of job).reads ≡ Origin.a_file name ∷ [] → AreLoaded (Origin.a_file name ∷ []) p m (source ∷ []) → IsOfSource source e →
      IsOfSources words p.files.bytes p.input.left q.input.left p.input.given q.input.given e
  told_of_file job name p m q source e asked reads l h = record { named = h.named; ring = at e.ring h.ring }
    where
      at : (ring : Option (List (List ℕ))) → IfSome ring (IsRingOf source) →
          IfSome ring (λ names. IsRingOfInput p.input.left q.input.left p.input.given q.input.given names ⊎ IsRingOfFile words p.files.bytes names)
      at None x = tt
      at (Some names) x = inr (record { job = job; asked = asked; name = name; reads = reads; source = source; is = l.1.is; ring = x })

-- ---- in turns

-- a job that takes turns, from the text of its file on
module _ (words : List (List ℕ)) (p m q : Seen) (o s : OutputSeen) (job : Job) (options : InteractiveOptions) (source : List ℕ) (texts : List (List ℕ))
    (asked : IsJobOf words job) (is : job ≡ jobs.Interactive options)
    (loaded : AreLoaded (command_of job).reads p m texts) (alone : texts ≡ source ∷ []) (files : q.files ≡ m.files) where
  own_loaded : AreLoaded (Origin.a_file options.file ∷ []) p m (source ∷ [])
  own_loaded = subst (λ ts. AreLoaded (Origin.a_file options.file ∷ []) p m ts) alone (subst (λ j. AreLoaded (command_of j).reads p m texts) is loaded)

  pub turns_done : IsConversed source m.input q.input o s → IsRunDone command_of words p q o s
  turns_done c = record {
    job = job;
    asked = asked;
    done = subst (λ j. IsDoneBy (command_of j) p q o s) (sym is) (conversed_done options.file options.pairs p q m o s source own_loaded files c);
  }

  pub turns_refused : (r : Refusal) → IsNotConversed options.file options.pairs source m.input q.input o s r → IsRunRefused command_of words p q o s r
  turns_refused r c = IsRunRefused.of_job job asked (subst (λ j. IsStoppedBy (command_of j) p q o s r) (sym is)
      (conversed_stopped options.file options.pairs p q m o s source own_loaded files r c))

  pub turns_told : (e : Refused) → IsOfSource source e → IsOfSources words p.files.bytes p.input.left q.input.left p.input.given q.input.given e
  turns_told e h = told_of_file words job options.file p m q source e asked (ap (λ j. (command_of j).reads) is) own_loaded h

-- such a job takes of the input
pub takes_turns : (job : Job) (options : InteractiveOptions) → job ≡ jobs.Interactive options → ReadsInput (command_of job)
takes_turns job options is = inr (subst (λ j. TakesTurns (command_of j).writing) (sym is) tt)

-- ---- past the limit of a list

job_refused : (job : Job) (texts : List (List ℕ)) (most : ℕ) (d : Refusal) → IsPastReach job texts most → IsRefusedOn (command_of job) texts d →
    (d ≡ refusals.ListLimit most) ⊎ (d ≡ refusals.Memory)
job_refused (jobs.Bases o) texts most d p h =
    past_refused (ways_of o) (list_sources o.within o.after) (list_options o) texts most p d h
job_refused _ texts most d p h = absurd p

job_unanswered : (job : Job) (texts : List (List ℕ)) (most : ℕ) (text : List ℕ) → IsPastReach job texts most → IsAnswered (command_of job) texts text → ⊥
job_unanswered (jobs.Bases o) texts most text p a =
    past_unanswered (ways_of o) (list_sources o.within o.after) (list_options o) texts most p text a
job_unanswered _ texts most text p a = p

past_alone : (job : Job) (texts : List (List ℕ)) (most : ℕ) → IsPastReach job texts most → TakesTurns (command_of job).writing → ⊥
past_alone (jobs.Bases o) texts most p t = t
past_alone _ texts most p t = p

answered_done : (c : Command) (writing : Writing c.Value) (texts : List (List ℕ)) (m q : Seen) (o s : OutputSeen) → (TakesTurns writing → ⊥) →
    IsCarriedOut c writing texts m q o s → (text : List ℕ) × IsAnswered c texts text
answered_done c Writing.at_end texts m q o s n g = (g.1.0, g.1.1)
answered_done c (Writing.as_it_goes whole begun early) texts m q o s n g = (g.1.0, g.1.1)
answered_done c (Writing.in_turns turns) texts m q o s n g = absurd (n tt)

not_cut : {A : Type 0} (c : Command) (writing : Writing c.Value) (texts : List (List ℕ)) (m q : Seen) (o s : OutputSeen) (r : Refusal) →
    (TakesTurns writing → ⊥) → AreCut c writing texts m q o s r → A
not_cut c Writing.at_end texts m q o s r n k = absurd k
not_cut c (Writing.as_it_goes whole begun early) texts m q o s r n k = absurd k
not_cut c (Writing.in_turns turns) texts m q o s r n k = absurd (n tt)

module _ (words : List (List ℕ)) (p q : Seen) (o s : OutputSeen) (job : Job) (texts : List (List ℕ)) (most : ℕ) (asked : IsJobOf words job)
    (given : AreGivenTexts (command_of job) p q texts) (past : IsPastReach job texts most) where
  same_texts : (us : List (List ℕ)) (m : Seen) → AreLoaded (command_of job).reads p m us → us ≡ texts
  same_texts us m l = loaded_known (command_of job).reads p q m texts us (lawful job).input given.known l

  not_done : IsDoneBy (command_of job) p q o s → ⊥
  not_done d =
      let a = answered_done (command_of job) (command_of job).writing d.texts d.then q o s (past_alone job texts most past) d.gone in
      job_unanswered job texts most a.0 past (subst (λ us. IsAnswered (command_of job) us a.0) (same_texts d.texts d.then d.loaded) a.1)

  pub limit_not_done : IsRunDone command_of words p q o s → ⊥
  limit_not_done d = not_done (done_as command_of lawful words p q o s job asked d)

  stopped : (d : Refusal) → (Rose o.faults s.faults → ⊥) → IsStoppedBy (command_of job) p q o s d → (d ≡ refusals.ListLimit most) ⊎ (d ≡ refusals.Memory)
  stopped d n (IsStoppedBy.in_loading u k e) = inr (unloaded_known (command_of job).reads p q texts d (lawful job).input given.known given.short u)
  stopped d n (IsStoppedBy.in_work us l h left e) = job_refused job texts most d past (subst (λ z. IsRefusedOn (command_of job) z d) (same_texts us q l) h)
  stopped d n (IsStoppedBy.in_writing us text l w e rose part) = absurd (n rose)
  stopped d n (IsStoppedBy.in_turns us m l k) = not_cut (command_of job) (command_of job).writing us m q o s d (past_alone job texts most past) k

  told : (d : Refusal) → (d ≡ refusals.ListLimit most) ⊎ (d ≡ refusals.Memory) → IsRefusedWith (statuses.Refused d) (refusals.ListLimit most)
  told d (inl e) = inl (ap (λ x. statuses.Refused x) e)
  told d (inr e) = inr (ap (λ x. statuses.Refused x) e)

  pub limit_told : (d : Refusal) → (Rose o.faults s.faults → ⊥) → IsRunRefused command_of words p q o s d →
      IsRefusedWith (statuses.Refused d) (refusals.ListLimit most)
  limit_told d n h = elim (stopped_as command_of lawful words p q o s job d asked h) [
    | inl k ↦ told d (stopped d n k)
    | inr m ↦ told d (inr m.0)
  ]

-- ---- a refusal that is told without a ring

pub of_no_source : (words : List (List ℕ)) (bytes : List ℕ → Option (List ℕ)) (left leaves : Option (List ℕ)) (given gives : ℕ) (r : Refusal) →
    IsNamedBy None r → IsOfSources words bytes left leaves given gives (without_names r)
of_no_source words bytes left leaves given gives r h = record { named = h; ring = tt }
