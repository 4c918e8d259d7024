-- What the clauses of `run` say of a run over bytes in memory.
-- To cite: done_on_bytes, begun_on_bytes, complete_on_bytes, exact_on_bytes. The rest are steps.
use Rattle.std.specs.Prelude.{◌≡◌, ◌⊎◌, ℕ, List, [], ◌∷◌, map, Option, Some}
use Rattle.std.specs.Io.KnownBytes.{Appends, Keeps}
use Rattle.std.proofs.Common.{arith, refl, sym, ◌∙◌, subst, inl, inr}
use Rattle.gf_outside.specs.Faults.{Rose}
use Rattle.gf_outside.specs.Memory.{FileInMemory, bytes_or_none}
use Rattle.gf_front.specs.declared.command_line.Job.{Job}
use Rattle.gf_front.specs.declared.refusal.Refusal.{Refusal}
use Rattle.gf_front.specs.declared.refusal.Refusal.TheVariants as refusals
use Rattle.gf_front.specs.declared.refusal.Status.{Status}
use Rattle.gf_front.specs.declared.refusal.Status.TheVariants as statuses
use Rattle.gf_front.specs.Jobs.{IsJobOf}
use Rattle.gf_frame.specs.Seen.{Seen, OutputSeen}
use Rattle.gf_frame.specs.Loading.{Origin, AreLoaded, AreKnown, AreShort}
use Rattle.gf_frame.specs.Commands.{Writing, Command, IsAnswered, IsBegunFor, IsRefusedAtOnce, IsRefusedAtStart, IsInReach, IsOfOutside}
use Rattle.gf_frame.specs.Runs.{TakesTurns, IsCarriedOut, IsDoneBy, LeavesInOutput, IsHeard}
use Rattle.gf_frame.specs.Programs.{IsRunDone, IsRefusedWith, RunClauses}
use Rattle.gf_frame.proofs.LoadingLaws.{loaded_known, unloaded_outside}
use Rattle.gf_frame.proofs.WorkLaws.{not_cut}
use Rattle.gf_frame.proofs.ProgramLaws.{same_job, done_as}
use Rattle.gfan.specs.Commands.{command_of}
use Rattle.gfan.proofs.CommandLaws.{lawful}
use Rattle.gfan_on_bytes.specs.OnBytes.{text_of, texts_of, IsOneAnswer, IsDoneUnlessMemory, IsLeftOnBytes}

-- ---- one answer

carried : (c : Command) (w : Writing c.Value) (texts : List (List ℕ)) (m q : Seen) (o s : OutputSeen) → (TakesTurns w → ⊥) → IsCarriedOut c w texts m q o s →
    (text : List ℕ) × IsAnswered c texts text × Appends o.held s.held text
carried c Writing.at_end texts m q o s n h = h.1
carried c (Writing.as_it_goes whole begun early) texts m q o s n h = h.1
carried c (Writing.in_turns turns) texts m q o s n h = absurd (n tt)

heard : {A : Type 0} (w : Writing A) (p q : Seen) → (TakesTurns w → ⊥) → IsHeard w p q
heard Writing.at_end p q n = tt
heard (Writing.as_it_goes whole begun early) p q n = tt
heard (Writing.in_turns turns) p q n = absurd (n tt)

-- what an empty list of bytes has gained
gained : (old new : Option (List ℕ)) (out text : List ℕ) → old ≡ Some [] → new ≡ Some out → Appends old new text → text ≡ out
gained old new out text a b h =
    let k : Appends (Some []) (Some out) text = subst (λ z. Appends (Some []) z text) b (subst (λ z. Appends z new text) a h) in sym k

kept : (old new : Option (List ℕ)) (out : List ℕ) → old ≡ Some [] → new ≡ Some out → Keeps old new → out ≡ []
kept old new out a b h = let k : Keeps (Some []) (Some out) = subst (λ z. Keeps (Some []) z) b (subst (λ z. Keeps z new) a h) in k

-- a count of failures that stays 0 never rose
pub calm : (before now : ℕ) → before ≡ 0 → now ≡ 0 → Rose before now → ⊥
calm before now a b r = omega (arith, a, b, r)

-- ---- a run

-- the input and the files of a run are these bytes, none of their calls failed, and the output was empty and is now this
pub record IsRunOnBytes (input : List ℕ) (files : List FileInMemory) (p q : Seen) (o s : OutputSeen) (out : List ℕ) : Type 0 where
  pub bytes : p.input.left ≡ Some input
  pub named : (name : List ℕ) → p.files.bytes name ≡ Some (bytes_or_none files name)
  pub read : Rose p.input.faults q.input.faults → ⊥
  pub opened : Rose p.files.unopened q.files.unopened → ⊥
  pub files_read : Rose p.files.faults q.files.faults → ⊥
  pub empty : o.held ≡ Some []
  pub held : s.held ≡ Some out
  pub unwritten : o.faults ≡ 0

module _ (words : List (List ℕ)) (input : List ℕ) (files : List FileInMemory) (p q : Seen) (o s : OutputSeen) (out : List ℕ)
    (b : IsRunOnBytes input files p q o s out) where
  known : (os : List Origin) → AreKnown os p q (map (text_of input files) os)
  known [] = tt
  known (Origin.the_input ∷ os) = ((b.bytes, b.read), known os)
  known (Origin.a_file name ∷ os) = ((b.named name, b.opened, b.files_read), known os)

  module _ (job : Job) (asked : IsJobOf words job) where
    same_texts : (m : Seen) (ts : List (List ℕ)) → AreLoaded (command_of job).reads p m ts → ts ≡ texts_of input files job
    same_texts m ts l = loaded_known (command_of job).reads p q m (texts_of input files job) ts (lawful job).input (known (command_of job).reads) l

    pub done_on_bytes : IsOneAnswer job → IsRunDone command_of words p q o s → IsAnswered (command_of job) (texts_of input files job) out
    done_on_bytes n d = at (done_as command_of lawful words p q o s job asked d)
      where
        at : IsDoneBy (command_of job) p q o s → IsAnswered (command_of job) (texts_of input files job) out
        at h =
            let c = carried (command_of job) (command_of job).writing h.texts h.then q o s n h.gone in
            subst (λ z. IsAnswered (command_of job) z out) (same_texts h.then h.texts h.loaded)
            (subst (λ z. IsAnswered (command_of job) h.texts z) (gained o.held s.held out c.0 b.empty b.held c.2) c.1)

    pub begun_on_bytes : (status : Status) (r : Refusal) → IsOneAnswer job → RunClauses command_of words p q o s status → status ≡ statuses.Refused r →
        (r ≡ refusals.WriteFault → ⊥) → IsLeftOnBytes (command_of job) (texts_of input files job) out r
    begun_on_bytes status r n c e w = elim (c.quiet r e w) [
      | inl k ↦ inl (kept o.held s.held out b.empty b.held k.1, inl (of_words k.0))
      | inr l ↦ left l.0 l.1 l.2
    ]
      where
        of_words : (r ≡ refusals.Usage) ⊎ (r ≡ refusals.Memory) → IsOfOutside r
        of_words (inl u) = subst IsOfOutside (sym u) tt
        of_words (inr m) = subst IsOfOutside (sym m) tt

        at : LeavesInOutput (command_of job) p q o s r → IsLeftOnBytes (command_of job) (texts_of input files job) out r
        at (LeavesInOutput.unloaded u k) = inl (kept o.held s.held out b.empty b.held k, inl (unloaded_outside (command_of job).reads p q r u))
        at (LeavesInOutput.at_start ts l h k) =
            inl (kept o.held s.held out b.empty b.held k, inr (subst (λ z. IsRefusedAtStart (command_of job) z r) (same_texts q ts l) h))
        at (LeavesInOutput.beginning ts text l h g) =
            let k : IsBegunFor (command_of job) ts out r = subst (λ z. IsBegunFor (command_of job) ts z r) (gained o.held s.held out text b.empty b.held g) h in
            inr (subst (λ z. IsBegunFor (command_of job) z out r) (same_texts q ts l) k)
        at (LeavesInOutput.turns ts m l h) = absurd (not_cut (command_of job) (command_of job).writing ts m q o s r n h)

        left : (other : Job) → IsJobOf words other → LeavesInOutput (command_of other) p q o s r →
            IsLeftOnBytes (command_of job) (texts_of input files job) out r
        left other k h = at (subst (λ z. LeavesInOutput (command_of z) p q o s r) (same_job words job other asked k) h)

    pub exact_on_bytes : (status : Status) (r : Refusal) → AreShort (texts_of input files job) → RunClauses command_of words p q o s status →
        IsRefusedAtOnce (command_of job) (texts_of input files job) r → IsRefusedWith status r
    exact_on_bytes status r short c h = c.exact job (texts_of input files job) r asked (record { known = known (command_of job).reads; short = short }) h

    pub complete_on_bytes : (status : Status) → IsOneAnswer job → AreShort (texts_of input files job) → RunClauses command_of words p q o s status →
        IsInReach (command_of job) (texts_of input files job) → IsDoneUnlessMemory status
    complete_on_bytes status n short c h = at status refl
      where
        within : (status ≡ statuses.Refused refusals.WriteFault → ⊥) → IsDoneUnlessMemory status
        within w =
            elim (c.complete job (texts_of input files job) asked (record { known = known (command_of job).reads; short = short }) h
            (heard (command_of job).writing p q n)
            (calm o.faults s.faults b.unwritten (c.output_calm w ∙ b.unwritten))) [
              | inl d ↦ inl d
              | inr m ↦ inr (inl m)
            ]

        at : (t : Status) → status ≡ t → IsDoneUnlessMemory status
        at statuses.Done e = inl e
        at (statuses.Refused r) e = by r e
          where
            by : (r : Refusal) → status ≡ statuses.Refused r → IsDoneUnlessMemory status
            by refusals.WriteFault e = inr (inr e)
            by _ e = within (λ k. let f = sym e ∙ k in cc)
