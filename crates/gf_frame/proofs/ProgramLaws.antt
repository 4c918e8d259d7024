-- How a run of a program ends that has a lawful command for each job, and what follows of that for its reader.
-- To cite: same_job, same_refusal, words_refused, loading_refused, texts_done, texts_refused, done_as, stopped_as,
-- run_clauses. The rest are steps.
use Rattle.std.specs.Prelude.{◌≡◌, ◌⊎◌, ℕ, List, Some}
use Rattle.std.specs.Io.KnownBytes.{Keeps}
use Rattle.std.proofs.Common.{refl, sym, ap, ◌∙◌, subst, inl, inr}
use Rattle.std.proofs.KnownBytes.{Keeps-refl}
use Rattle.gf_front.specs.declared.command_line.Job.{Job}
use Rattle.gf_front.specs.declared.command_line.WordsError.{WordsError}
use Rattle.gf_front.specs.declared.command_line.WordsError.TheVariants as words_errors
use Rattle.gf_front.specs.declared.refusal.Refusal.{Refusal}
use Rattle.gf_front.specs.declared.refusal.Refusal.TheVariants as refusals
use Rattle.gf_front.specs.declared.refusal.Status.{Status}
use Rattle.gf_front.specs.declared.refusal.Status.TheVariants as statuses
use Rattle.gf_front.specs.Jobs.{IsMatched, IsJobOf}
use Rattle.gf_front.specs.Lines.{of_words}
use Rattle.gf_items.specs.Refusals.{IsOfNumbers}
use Rattle.gf_frame.specs.Seen.{Seen, OutputSeen}
use Rattle.gf_frame.specs.Loading.{AreLoaded, AreUnloaded, AreReadWithin}
use Rattle.gf_frame.specs.Commands.{Command, IsOfOutside}
use Rattle.gf_frame.specs.Runs.{IsDoneOn, IsStoppedOn, IsDoneBy, IsStoppedBy, IsJobRefused, LeavesInOutput}
use Rattle.gf_frame.proofs.LoadingLaws.{nothing_read}
use Rattle.gf_frame.proofs.CommandLaws.{IsLawful}
use Rattle.gf_frame.proofs.WorkLaws.{done_by, stopped_by}
use Rattle.gf_frame.proofs.RunLaws.{exact_stopped, exact_done, fixed_stopped, fixed_done, reach_stopped, long_stopped, long_done, job_stopped}
use Rattle.gf_frame.proofs.RunLaws.{stopped_not_usage, quiet_stopped, limit_stopped, too_long_stopped, short_stopped, short_done, read_stopped, open_stopped}
use Rattle.gf_frame.proofs.RunLaws.{write_stopped, calm_done, input_calm_stopped, files_calm_stopped, open_calm_stopped, output_calm_stopped, kept_done}
use Rattle.gf_frame.proofs.RunLaws.{kept_stopped}
use Rattle.gf_frame.specs.Programs.{IsRunDone, IsRunRefused, IsRunEnded, IsRefusedWith, OfJobAsked, StandsAtLimit, IsTooMuchTaken, RunClauses}

-- ---- which job

some_one : {A : Type 0} (x y : A) → Some x ≡ Some y → y ≡ x
some_one x y e = cc

-- the words ask for one job
pub same_job : (words : List (List ℕ)) (job other : Job) → IsJobOf words job → IsJobOf words other → other ≡ job
same_job words job other j k = some_one job other (sym j.is ∙ k.is)

pub same_refusal : (d r : Refusal) → statuses.Refused d ≡ statuses.Refused r → d ≡ r
same_refusal d r e = cc

module _ (command_of : Job → Command) (lawful : (job : Job) → IsLawful (command_of job)) where
  -- ---- how it comes to be refused

  -- the words ask for no job, or there is no memory
  pub words_refused : (words : List (List ℕ)) (p : Seen) (o : OutputSeen) (e : WordsError) → (e ≡ words_errors.Usage → IsMatched words → ⊥) →
      IsRunRefused command_of words p p o o (of_words e)
  words_refused words p o words_errors.Usage h = IsRunRefused.no_job (h refl) refl refl refl
  words_refused words p o words_errors.Memory h = IsRunRefused.no_memory refl refl refl

  -- a source isn't loaded
  pub loading_refused : (words : List (List ℕ)) (p q : Seen) (o : OutputSeen) (job : Job) (r : Refusal) → IsJobOf words job →
      AreUnloaded (command_of job).reads p q r → IsRunRefused command_of words p q o o r
  loading_refused words p q o job r j u = IsRunRefused.of_job job j (IsStoppedBy.in_loading u (Keeps-refl o.held) refl)

  -- the texts are answered; or they aren't
  pub texts_done : (words : List (List ℕ)) (p q : Seen) (o s : OutputSeen) (job : Job) (texts : List (List ℕ)) → IsJobOf words job →
      AreLoaded (command_of job).reads p q texts → IsDoneOn (command_of job) texts o s → IsRunDone command_of words p q o s
  texts_done words p q o s job texts j l d = record { job = job; asked = j; done = done_by (command_of job) p q texts o s l d }

  pub texts_refused : (words : List (List ℕ)) (p q : Seen) (o s : OutputSeen) (job : Job) (texts : List (List ℕ)) (r : Refusal) → IsJobOf words job →
      AreLoaded (command_of job).reads p q texts → IsStoppedOn (command_of job) texts o s r → IsRunRefused command_of words p q o s r
  texts_refused words p q o s job texts r j l h = IsRunRefused.of_job job j (stopped_by (command_of job) p q texts o s l r h)

  -- ---- what follows

  module _ (words : List (List ℕ)) (p q : Seen) (o s : OutputSeen) where
    -- the job that is done is the one that is asked for
    pub done_as : (job : Job) → IsJobOf words job → IsRunDone command_of words p q o s → IsDoneBy (command_of job) p q o s
    done_as job j d = subst (λ k. IsDoneBy (command_of k) p q o s) (same_job words job d.job j d.asked) d.done

    -- where the words ask for a job, its command is stopped, or there is no memory and nothing moved
    pub stopped_as : (job : Job) (r : Refusal) → IsJobOf words job → IsRunRefused command_of words p q o s r →
        IsStoppedBy (command_of job) p q o s r ⊎ ((r ≡ refusals.Memory) × (q ≡ p))
    stopped_as job r j (IsRunRefused.no_job n e same out) = absurd (n j.matched)
    stopped_as job r j (IsRunRefused.no_memory e same out) = inr (e, same)
    stopped_as job r j (IsRunRefused.of_job k asked h) = inl (subst (λ i. IsStoppedBy (command_of i) p q o s r) (same_job words job k j asked) h)

    as_refused : {r t : Refusal} → r ≡ t → statuses.Refused r ≡ statuses.Refused t
    as_refused e = ap (λ x. statuses.Refused x) e

    with_memory : (r d : Refusal) → (d ≡ r) ⊎ (d ≡ refusals.Memory) → IsRefusedWith (statuses.Refused d) r
    with_memory r d (inl e) = inl (as_refused e)
    with_memory r d (inr m) = inr (as_refused m)

    -- ---- a refusal

    of_job : (r : Refusal) → (IsOfOutside r → ⊥) → IsRunRefused command_of words p q o s r → OfJobAsked words (λ job. IsJobRefused (command_of job) p q o s r)
    of_job r n (IsRunRefused.no_job m e same out) = absurd (n (subst IsOfOutside (sym e) tt))
    of_job r n (IsRunRefused.no_memory e same out) = absurd (n (subst IsOfOutside (sym e) tt))
    of_job r n (IsRunRefused.of_job job asked h) = (job, asked, job_stopped (command_of job) (lawful job) p q o s r n h)

    at_limit : (most : ℕ) → IsRunRefused command_of words p q o s (refusals.ListLimit most) →
        OfJobAsked words (λ job. StandsAtLimit command_of job p q o s most)
    at_limit most (IsRunRefused.no_job m e same out) = cc
    at_limit most (IsRunRefused.no_memory e same out) = cc
    at_limit most (IsRunRefused.of_job job asked h) =
        let l = limit_stopped (command_of job) (lawful job) p q o s most h in
        (job, asked, record { texts = l.0; loaded = l.1; refused = l.2; text = l.3.0; begun = l.3.1; gained = l.3.2 })

    not_matched : (r : Refusal) → r ≡ refusals.Usage → IsRunRefused command_of words p q o s r → IsMatched words → ⊥
    not_matched r u (IsRunRefused.no_job n e same out) m = n m
    not_matched r u (IsRunRefused.no_memory e same out) m = (let k : refusals.Usage ≡ refusals.Memory = sym u ∙ e in cc)
    not_matched r u (IsRunRefused.of_job job asked h) m =
        stopped_not_usage (command_of job) (lawful job) p q o s (subst (IsStoppedBy (command_of job) p q o s) u h)

    unasked : (r : Refusal) → (IsMatched words → ⊥) → IsRunRefused command_of words p q o s r →
        (statuses.Refused r ≡ statuses.Refused refusals.Usage) ⊎ (statuses.Refused r ≡ statuses.Refused refusals.Memory)
    unasked r n (IsRunRefused.no_job m e same out) = inl (as_refused e)
    unasked r n (IsRunRefused.no_memory e same out) = inr (as_refused e)
    unasked r n (IsRunRefused.of_job job asked h) = absurd (n asked.matched)

    too_much : (r : Refusal) → r ≡ refusals.InputTooLong → IsRunRefused command_of words p q o s r →
        OfJobAsked words (λ job. IsTooMuchTaken command_of job p q o s)
    too_much r u (IsRunRefused.no_job n e same out) = (let k : refusals.InputTooLong ≡ refusals.Usage = sym u ∙ e in cc)
    too_much r u (IsRunRefused.no_memory e same out) = (let k : refusals.InputTooLong ≡ refusals.Memory = sym u ∙ e in cc)
    too_much r u (IsRunRefused.of_job job asked h) = (
      job,
      asked,
      elim (too_long_stopped (command_of job) (lawful job) p q o s (subst (IsStoppedBy (command_of job) p q o s) u h)) [
        | inl k ↦ IsTooMuchTaken.of_source k
        | inr k ↦ IsTooMuchTaken.in_turns k.0 k.1 k.2 k.3
      ],
    )

    quiet : (r : Refusal) → (r ≡ refusals.WriteFault → ⊥) → IsRunRefused command_of words p q o s r →
        (((r ≡ refusals.Usage) ⊎ (r ≡ refusals.Memory)) × Keeps o.held s.held) ⊎ OfJobAsked words (λ job. LeavesInOutput (command_of job) p q o s r)
    quiet r n (IsRunRefused.no_job m e same out) = inl (inl e, subst (λ (x : OutputSeen). Keeps o.held x.held) (sym out) (Keeps-refl o.held))
    quiet r n (IsRunRefused.no_memory e same out) = inl (inr e, subst (λ (x : OutputSeen). Keeps o.held x.held) (sym out) (Keeps-refl o.held))
    quiet r n (IsRunRefused.of_job job asked h) = inr (job, asked, quiet_stopped (command_of job) (lawful job) p q o s r n h)

    -- a fault that is answered comes of a job
    of_outside : (r : Refusal) → (r ≡ refusals.Usage → ⊥) → (r ≡ refusals.Memory → ⊥) → IsRunRefused command_of words p q o s r →
        (job : Job) × IsStoppedBy (command_of job) p q o s r
    of_outside r u m (IsRunRefused.no_job n e same out) = absurd (u e)
    of_outside r u m (IsRunRefused.no_memory e same out) = absurd (m e)
    of_outside r u m (IsRunRefused.of_job job asked h) = (job, h)

    read_calm : (r : Refusal) → (r ≡ refusals.ReadFault → ⊥) → IsRunRefused command_of words p q o s r →
        (q.input.faults ≡ p.input.faults) × (q.files.faults ≡ p.files.faults)
    read_calm r n (IsRunRefused.no_job m e same out) = (ap (λ (x : Seen). x.input.faults) same, ap (λ (x : Seen). x.files.faults) same)
    read_calm r n (IsRunRefused.no_memory e same out) = (ap (λ (x : Seen). x.input.faults) same, ap (λ (x : Seen). x.files.faults) same)
    read_calm r n (IsRunRefused.of_job job asked h) =
        (input_calm_stopped (command_of job) (lawful job) p q o s r n h, files_calm_stopped (command_of job) (lawful job) p q o s r n h)

    opened_calm : (r : Refusal) → (r ≡ refusals.OpenFault → ⊥) → IsRunRefused command_of words p q o s r → q.files.unopened ≡ p.files.unopened
    opened_calm r n (IsRunRefused.no_job m e same out) = ap (λ (x : Seen). x.files.unopened) same
    opened_calm r n (IsRunRefused.no_memory e same out) = ap (λ (x : Seen). x.files.unopened) same
    opened_calm r n (IsRunRefused.of_job job asked h) = open_calm_stopped (command_of job) (lawful job) p q o s r n h

    written_calm : (r : Refusal) → (r ≡ refusals.WriteFault → ⊥) → IsRunRefused command_of words p q o s r → s.faults ≡ o.faults
    written_calm r n (IsRunRefused.no_job m e same out) = ap (λ (x : OutputSeen). x.faults) out
    written_calm r n (IsRunRefused.no_memory e same out) = ap (λ (x : OutputSeen). x.faults) out
    written_calm r n (IsRunRefused.of_job job asked h) = output_calm_stopped (command_of job) (lawful job) p q o s r n h

    kept : (r : Refusal) → IsRunRefused command_of words p q o s r → q.files.bytes ≡ p.files.bytes
    kept r (IsRunRefused.no_job m e same out) = ap (λ (x : Seen). x.files.bytes) same
    kept r (IsRunRefused.no_memory e same out) = ap (λ (x : Seen). x.files.bytes) same
    kept r (IsRunRefused.of_job job asked h) = kept_stopped (command_of job) (lawful job) p q o s r h

    -- ---- its clauses

    clauses_done : IsRunDone command_of words p q o s → RunClauses command_of words p q o s statuses.Done
    clauses_done d = record {
      complete = λ job texts j g w x n. inl refl;
      exact = λ job texts r j g h. absurd (exact_done (command_of job) (lawful job) p q o s texts r g h (done_as job j d));
      fixed = λ job texts r j g x h. absurd (fixed_done (command_of job) (lawful job) p q o s texts r g x h (done_as job j d));
      job = λ r e n. cc;
      limit = λ most e. cc;
      usage = λ e m. cc;
      usage_always = λ n. absurd (n d.asked.matched);
      long = λ job texts j k l. absurd (long_done (command_of job) (lawful job) p q o s texts k l (done_as job j d));
      too_long = λ e. cc;
      short = λ job j t n. short_done (command_of job) (lawful job) p q o s t (done_as job j d);
      quiet = λ r e n. cc;
      read_fault = λ e. cc;
      open_fault = λ e. cc;
      write_fault = λ e. cc;
      input_calm = λ n. (calm_done (command_of d.job) (lawful d.job) p q o s d.done).0;
      open_calm = λ n. (calm_done (command_of d.job) (lawful d.job) p q o s d.done).1;
      files_calm = λ n. (calm_done (command_of d.job) (lawful d.job) p q o s d.done).2;
      output_calm = λ n. (calm_done (command_of d.job) (lawful d.job) p q o s d.done).3;
      files_kept = kept_done (command_of d.job) (lawful d.job) p q o s d.done;
    }

    clauses_refused : (d : Refusal) → IsRunRefused command_of words p q o s d → RunClauses command_of words p q o s (statuses.Refused d)
    clauses_refused d h = record {
      complete = λ job texts j g w x n. elim (stopped_as job d j h) [
        | inl k ↦ inr (as_refused (reach_stopped (command_of job) (lawful job) p q o s texts d g w x n k))
        | inr m ↦ inr (as_refused m.0)
      ];
      exact = λ job texts r j g x. elim (stopped_as job d j h) [
        | inl k ↦ with_memory r d (exact_stopped (command_of job) (lawful job) p q o s texts r d g x k)
        | inr m ↦ inr (as_refused m.0)
      ];
      fixed = λ job texts r j g f x. elim (stopped_as job d j h) [
        | inl k ↦ (d, refl, fixed_stopped (command_of job) (lawful job) p q o s texts r d g f x k)
        | inr m ↦ (d, refl, inr (subst IsOfNumbers (sym m.0) tt))
      ];
      job = λ r e n. of_job r n (subst (IsRunRefused command_of words p q o s) (same_refusal d r e) h);
      limit = λ most e. at_limit most (subst (IsRunRefused command_of words p q o s) (same_refusal d (refusals.ListLimit most) e) h);
      usage = λ e m. not_matched d (same_refusal d refusals.Usage e) h m;
      usage_always = λ n. unasked d n h;
      long = λ job texts j k l. elim (stopped_as job d j h) [
        | inl x ↦ with_memory refusals.InputTooLong d (long_stopped (command_of job) (lawful job) p q o s texts d k l x)
        | inr m ↦ inr (as_refused m.0)
      ];
      too_long = λ e. too_much d (same_refusal d refusals.InputTooLong e) h;
      short = λ job j t n. elim (stopped_as job d j h) [
        | inl k ↦ short_stopped (command_of job) (lawful job) p q o s d t (λ e. n (as_refused e)) k
        | inr m ↦ subst (AreReadWithin (command_of job).reads p) (sym m.1) (nothing_read (command_of job).reads p)
      ];
      quiet = λ r e n. quiet r n (subst (IsRunRefused command_of words p q o s) (same_refusal d r e) h);
      read_fault = λ e.
          let k = of_outside refusals.ReadFault (λ u. cc) (λ u. cc) (subst (IsRunRefused command_of words p q o s) (same_refusal d refusals.ReadFault e) h) in
          read_stopped (command_of k.0) (lawful k.0) p q o s k.1;
      open_fault = λ e.
          let k = of_outside refusals.OpenFault (λ u. cc) (λ u. cc) (subst (IsRunRefused command_of words p q o s) (same_refusal d refusals.OpenFault e) h) in
          open_stopped (command_of k.0) (lawful k.0) p q o s k.1;
      write_fault = λ e.
          let k = of_outside refusals.WriteFault (λ u. cc) (λ u. cc) (subst (IsRunRefused command_of words p q o s) (same_refusal d refusals.WriteFault e) h) in
          write_stopped (command_of k.0) (lawful k.0) p q o s k.1;
      input_calm = λ n. (read_calm d (λ e. n (as_refused e)) h).0;
      files_calm = λ n. (read_calm d (λ e. n (as_refused e)) h).1;
      open_calm = λ n. opened_calm d (λ e. n (as_refused e)) h;
      output_calm = λ n. written_calm d (λ e. n (as_refused e)) h;
      files_kept = kept d h;
    }

    pub run_clauses : (status : Status) → IsRunEnded command_of words p q o s status → RunClauses command_of words p q o s status
    run_clauses statuses.Done run = clauses_done (run.done refl)
    run_clauses (statuses.Refused r) run = clauses_refused r (run.refused r refl)
