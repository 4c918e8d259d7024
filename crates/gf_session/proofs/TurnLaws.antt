-- Steps and trails, and what a turn does with them. The proofs of the functions of session cite these.
use Rattle.std.proofs.Common.{◌≡◌, ℕ, suc, ◌-◌, ◌^◌, ◌≤◌, min, List, [], ◌∷◌, length, reverse, refl, ap, sym, ◌∙◌, arith, inl, inr, Result, Ok, Err, OnOk}
use Rattle.std.proofs.Common.{IfErr}
use Rattle.std.proofs.lemmas.List.{reverse-append, length-reverse}
use Rattle.std.proofs.KnownBytes.{Appends-nil, Keeps-refl}
use Rattle.std.specs.declared.option.Option.{Option}
use Rattle.std.specs.Io.KnownBytes.{Appends}
use Rattle.gf_outside.specs.Moved.{AppendsPrefix}
use Rattle.gf_session.specs.declared.choice.Choice.{Choice}
use Rattle.gf_session.specs.declared.choice.Choice.TheVariants as choices
use Rattle.gf_session.specs.declared.session.SessionError.{SessionError}
use Rattle.gf_session.specs.declared.session.SessionError.TheVariants as errors
use Rattle.gf_session.specs.Sessions.{Rules, Trail, IsLineTurn, IsNear, IsNearUndo, IsUndone, Joins, AreSteps, no_such_facet, nothing_to_undo, not_understood}
use Rattle.gf_session.specs.Moves.{IsGone, IsBack, IsMoveRefusal, IsBackRefusal, IsSessionAt, IsOfferCause, IsPromptCause, IsTurnTaken, IsTurnUnwritten}
use Rattle.gf_session.specs.Moves.{IsTurnCause}

-- ---- steps

-- as many states are before as there are steps
joins-length : {P S : Type 0} (joins : P → S → P → Type 0) (xs : List S) (here : P) (before : List P) → Joins joins xs here before → length before ≡ length xs
joins-length joins [] here before e = ap length e
joins-length joins (x ∷ xs) here [] e = absurd e
joins-length joins (x ∷ xs) here (p ∷ ps) e = ap suc (joins-length joins xs p ps e.1)

pub steps-length : {P S : Type 0} (joins : P → S → P → Type 0) (steps : List S) (s : Trail P) → AreSteps joins steps s → length s.before ≡ length steps
steps-length joins steps s are = joins-length joins (reverse steps) s.here s.before are ∙ length-reverse steps

-- ---- turns

-- a line without an answer
pub turn-blank : {P S : Type 0} (r : Rules P) (joins : P → S → P → Type 0) (here : P) (steps : List S) (held : Option (List ℕ)) (s : Trail P) (asked : Choice) →
    IsSessionAt joins here steps choices.Blank s asked → IsTurnTaken r joins s asked here steps held held
turn-blank r joins here steps held s choices.Blank on = record {
  t = s;
  is_here = on.is_here;
  are_steps = on.are_steps;
  piece = [];
  turn = record { stays = refl; is_answer = refl };
  gained = Appends-nil held;
}
turn-blank r joins here steps held s (choices.Across n) on = absurd (cc on.is_choice)
turn-blank r joins here steps held s choices.Undo on = absurd (cc on.is_choice)
turn-blank r joins here steps held s choices.Quit on = absurd (cc on.is_choice)
turn-blank r joins here steps held s choices.Unknown on = absurd (cc on.is_choice)

-- where a line leads, and its answer
pub record IsLed {P S : Type 0} (r : Rules P) (joins : P → S → P → Type 0) (s : Trail P) (asked : Choice) (here : P) (steps : List S) (piece : List ℕ) :
    Type 0 where
  pub t : Trail P
  pub is_here : t.here ≡ here
  pub are_steps : AreSteps joins steps t
  pub turn : IsLineTurn r s asked t piece

pub taken : {P S : Type 0} (r : Rules P) (joins : P → S → P → Type 0) (s : Trail P) (asked : Choice) (here : P) (steps : List S) (piece : List ℕ)
    (held holds : Option (List ℕ)) → IsLed r joins s asked here steps piece → Appends held holds piece → IsTurnTaken r joins s asked here steps held holds
taken r joins s asked here steps piece held holds led gained = record {
  t = led.t;
  is_here = led.is_here;
  are_steps = led.are_steps;
  piece = piece;
  turn = led.turn;
  gained = gained;
}

pub unwritten : {P S : Type 0} (r : Rules P) (joins : P → S → P → Type 0) (s : Trail P) (asked : Choice) (here : P) (steps : List S) (piece : List ℕ)
    (held holds : Option (List ℕ)) → IsLed r joins s asked here steps piece → AppendsPrefix held holds piece → IsTurnUnwritten r s asked held holds
unwritten r joins s asked here steps piece held holds led gained = record { t = led.t; piece = piece; turn = led.turn; gained = gained }

-- a line that isn't understood
pub led-unknown : {P S : Type 0} (r : Rules P) (joins : P → S → P → Type 0) (here : P) (steps : List S) (s : Trail P) (asked : Choice) →
    IsSessionAt joins here steps choices.Unknown s asked → IsLed r joins s asked here steps not_understood
led-unknown r joins here steps s choices.Unknown on = record {
  t = s;
  is_here = on.is_here;
  are_steps = on.are_steps;
  turn = record { stays = refl; is_answer = refl };
}
led-unknown r joins here steps s choices.Blank on = absurd (cc on.is_choice)
led-unknown r joins here steps s (choices.Across n) on = absurd (cc on.is_choice)
led-unknown r joins here steps s choices.Undo on = absurd (cc on.is_choice)
led-unknown r joins here steps s choices.Quit on = absurd (cc on.is_choice)

-- a number that leads nowhere
pub led-nowhere : {P S : Type 0} (r : Rules P) (joins : P → S → P → Type 0) (here : P) (steps : List S) (k : ℕ) (s : Trail P) (asked : Choice) →
    ((m : ℕ) → k ≤ m → r.IsLacking here m) → IsSessionAt joins here steps (choices.Across k) s asked → IsLed r joins s asked here steps no_such_facet
led-nowhere r joins here steps k s (choices.Across n) none on =
    let small : k ≡ min n (2 ^ 64 - 1) = ap number on.is_choice in
    record {
      t = s;
      is_here = on.is_here;
      are_steps = on.are_steps;
      turn = inr (rw on.is_here (none n (omega (arith, small))), record { stays = refl; is_answer = refl });
    }
  where
    number : Choice → ℕ
    number (choices.Across n) = n
    number _ = 0
led-nowhere r joins here steps k s choices.Blank none on = absurd (cc on.is_choice)
led-nowhere r joins here steps k s choices.Undo none on = absurd (cc on.is_choice)
led-nowhere r joins here steps k s choices.Quit none on = absurd (cc on.is_choice)
led-nowhere r joins here steps k s choices.Unknown none on = absurd (cc on.is_choice)

-- a number that leads on
pub led-on : {P S : Type 0} (r : Rules P) (joins : P → S → P → Type 0) (is_state : P → Type 0) (here there : P) (steps more : List S) (k : ℕ) (s : Trail P)
    (asked : Choice) (text : List ℕ) → IsGone r joins is_state here steps k there more → r.IsTold there (length more) text →
    IsSessionAt joins here steps (choices.Across k) s asked → IsLed r joins s asked there more text
led-on r joins is_state here there steps more k s (choices.Across n) text gone told on =
    let same : k ≡ n = omega (arith, ap number on.is_choice, gone.fits) in
    let turned : reverse more ≡ gone.step ∷ reverse steps = ap reverse gone.pushed ∙ reverse-append steps (gone.step ∷ []) in
    let are : AreSteps joins more (record { here = there; before = s.here ∷ s.before }) = rw turned (rw on.is_here gone.joined, on.are_steps) in
    record {
      t = record { here = there; before = s.here ∷ s.before };
      is_here = refl;
      are_steps = are;
      turn = inl (record {
        before = refl;
        across = rw (on.is_here, ← same) gone.across;
        told = rw (steps-length joins more (record { here = there; before = s.here ∷ s.before }) are) told;
      });
    }
  where
    number : Choice → ℕ
    number (choices.Across n) = n
    number _ = 0
led-on r joins is_state here there steps more k s choices.Blank text gone told on = absurd (cc on.is_choice)
led-on r joins is_state here there steps more k s choices.Undo text gone told on = absurd (cc on.is_choice)
led-on r joins is_state here there steps more k s choices.Quit text gone told on = absurd (cc on.is_choice)
led-on r joins is_state here there steps more k s choices.Unknown text gone told on = absurd (cc on.is_choice)

-- u where there is a state before, and where there is none
undone : {P : Type 0} (r : Rules P) (here : P) (before : List P) (p : P) (ps : List P) (text : List ℕ) → before ≡ p ∷ ps → r.IsTold p (length ps) text →
    IsUndone r here before (record { here = p; before = ps }) text
undone r here before p ps text e told = rw e (refl, told)

stays_first : {P : Type 0} (r : Rules P) (here : P) (before : List P) → before ≡ [] →
    IsUndone r here before (record { here = here; before = before }) nothing_to_undo
stays_first r here before e = rw e (record { stays = refl; is_answer = refl })

-- the way back
pub led-back : {P S : Type 0} (r : Rules P) (joins : P → S → P → Type 0) (is_state : P → Type 0) (here there : P) (steps less : List S) (s : Trail P)
    (asked : Choice) (text : List ℕ) → IsBack joins is_state here steps there less → r.IsTold there (length less) text →
    IsSessionAt joins here steps choices.Undo s asked → IsLed r joins s asked there less text
led-back r joins is_state here there steps less s choices.Undo text back told on =
    let b = back.before s on.is_here on.are_steps in
    record {
      t = record { here = there; before = b.rest };
      is_here = refl;
      are_steps = b.are_steps;
      turn = undone r s.here s.before there b.rest text b.was (rw (steps-length joins less (record { here = there; before = b.rest }) b.are_steps) told);
    }
led-back r joins is_state here there steps less s choices.Blank text back told on = absurd (cc on.is_choice)
led-back r joins is_state here there steps less s (choices.Across n) text back told on = absurd (cc on.is_choice)
led-back r joins is_state here there steps less s choices.Quit text back told on = absurd (cc on.is_choice)
led-back r joins is_state here there steps less s choices.Unknown text back told on = absurd (cc on.is_choice)

-- no way back
pub led-nowhere_back : {P S : Type 0} (r : Rules P) (joins : P → S → P → Type 0) (here : P) (steps : List S) (s : Trail P) (asked : Choice) → steps ≡ [] →
    IsSessionAt joins here steps choices.Undo s asked → IsLed r joins s asked here steps nothing_to_undo
led-nowhere_back r joins here steps s choices.Undo none on =
    let first : s.before ≡ [] = rw none at on.are_steps in
    record {
      t = s;
      is_here = on.is_here;
      are_steps = on.are_steps;
      turn = stays_first r s.here s.before first;
    }
led-nowhere_back r joins here steps s choices.Blank none on = absurd (cc on.is_choice)
led-nowhere_back r joins here steps s (choices.Across n) none on = absurd (cc on.is_choice)
led-nowhere_back r joins here steps s choices.Quit none on = absurd (cc on.is_choice)
led-nowhere_back r joins here steps s choices.Unknown none on = absurd (cc on.is_choice)

-- ---- clauses of a turn

pub on-ok : {T E : Type 0} {A B : Type 0} (result : Result T E) → OnOk result A → (A → B) → OnOk result B
on-ok (Ok x) a f = f a
on-ok (Err e) a f = a

pub if-err : {T E : Type 0} (A B : E → Type 0) (result : Result T E) → IfErr result A → ((e : E) → A e → B e) → IfErr result B
if-err A B (Ok x) a f = a
if-err A B (Err e) a f = f e a

pub on-as : {P S : Type 0} (joins : P → S → P → Type 0) (here : P) (steps : List S) (choice known : Choice) (s : Trail P) (asked : Choice) → choice ≡ known →
    IsSessionAt joins here steps choice s asked → IsSessionAt joins here steps known s asked
on-as joins here steps choice known s asked e on = record { is_here = on.is_here; are_steps = on.are_steps; is_choice = sym e ∙ on.is_choice }

-- each trail that ends here is led there by this answer
abbrev pub AreLed : {P S : Type 0} → Rules P → (P → S → P → Type 0) → P → List S → Choice → P → List S → List ℕ → Type 0
AreLed {P} r joins here steps choice there more piece = (s : Trail P) (asked : Choice) → IsSessionAt joins here steps choice s asked →
    IsLed r joins s asked there more piece

-- why an answer isn't written
pub cause-offer : {P S E : Type 0} (r : Rules P) (joins : P → S → P → Type 0) (refuses : P → E → Type 0) (here there : P) (steps more : List S)
    (choice : Choice) (held holds : Option (List ℕ)) (written writes : ℕ)
    (piece : List ℕ) (e : SessionError E) → AreLed r joins here steps choice there more piece → IsOfferCause held holds written writes piece e →
    IsTurnCause r joins refuses here steps choice held holds written writes e
cause-offer r joins refuses here there steps more choice held holds written writes piece errors.WriteFault led cause =
    (cause.0, λ s asked on. unwritten r joins s asked there more piece held holds (led s asked on) cause.1)
cause-offer r joins refuses here there steps more choice held holds written writes piece errors.ReadFault led cause = absurd cause
cause-offer r joins refuses here there steps more choice held holds written writes piece errors.InputTooLong led cause = absurd cause
cause-offer r joins refuses here there steps more choice held holds written writes piece errors.Memory led cause = absurd cause
cause-offer r joins refuses here there steps more choice held holds written writes piece (errors.Refused x) led cause = absurd cause

-- why a prompt isn't written
pub cause-prompt : {P S E : Type 0} (r : Rules P) (joins : P → S → P → Type 0) (refuses : P → E → Type 0) (here there : P) (steps more : List S)
    (choice : Choice) (held holds : Option (List ℕ)) (written writes : ℕ)
    (e : SessionError E) → ((text : List ℕ) → r.IsTold there (length more) text → AreLed r joins here steps choice there more text) →
    ((s : Trail P) (asked : Choice) → IsSessionAt joins here steps choice s asked → IsNear r s asked there) →
    IsPromptCause r refuses there (length more) held holds written writes e →
    IsTurnCause r joins refuses here steps choice held holds written writes e
cause-prompt r joins refuses here there steps more choice held holds written writes errors.WriteFault led near cause =
    (cause.0, λ s asked on. unwritten r joins s asked there more cause.1.0 held holds (led cause.1.0 cause.1.1 s asked on) cause.1.2)
cause-prompt r joins refuses here there steps more choice held holds written writes (errors.Refused x) led near cause =
    λ s asked on. record { kept = cause.0; state = there; near = near s asked on; refused = cause.1 }
cause-prompt r joins refuses here there steps more choice held holds written writes errors.ReadFault led near cause = absurd cause
cause-prompt r joins refuses here there steps more choice held holds written writes errors.InputTooLong led near cause = absurd cause
cause-prompt r joins refuses here there steps more choice held holds written writes errors.Memory led near cause = absurd cause

-- the state across by the number that a line asks for
pub near-across : {P S : Type 0} (r : Rules P) (joins : P → S → P → Type 0) (is_state : P → Type 0) (here there : P) (steps more : List S) (k : ℕ) (s : Trail P)
    (asked : Choice) → IsGone r joins is_state here steps k there more → IsSessionAt joins here steps (choices.Across k) s asked → IsNear r s asked there
near-across r joins is_state here there steps more k s (choices.Across n) gone on =
    let same : k ≡ n = omega (arith, ap number on.is_choice, gone.fits) in inr (rw (on.is_here, ← same) gone.across)
  where
    number : Choice → ℕ
    number (choices.Across n) = n
    number _ = 0
near-across r joins is_state here there steps more k s choices.Blank gone on = absurd (cc on.is_choice)
near-across r joins is_state here there steps more k s choices.Undo gone on = absurd (cc on.is_choice)
near-across r joins is_state here there steps more k s choices.Quit gone on = absurd (cc on.is_choice)
near-across r joins is_state here there steps more k s choices.Unknown gone on = absurd (cc on.is_choice)

-- where the session is, for a line with a number
pub near-number : {P S : Type 0} (r : Rules P) (joins : P → S → P → Type 0) (here : P) (steps : List S) (k : ℕ) (s : Trail P) (asked : Choice) →
    IsSessionAt joins here steps (choices.Across k) s asked → IsNear r s asked here
near-number r joins here steps k s (choices.Across n) on = inl (sym on.is_here)
near-number r joins here steps k s choices.Blank on = absurd (cc on.is_choice)
near-number r joins here steps k s choices.Undo on = absurd (cc on.is_choice)
near-number r joins here steps k s choices.Quit on = absurd (cc on.is_choice)
near-number r joins here steps k s choices.Unknown on = absurd (cc on.is_choice)

near-undo-here : {P : Type 0} (here : P) (before : List P) → (before ≡ [] → ⊥) → IsNearUndo here before here
near-undo-here here [] some = some refl
near-undo-here here (q ∷ qs) some = inl refl

near-undo-before : {P : Type 0} (here : P) (before : List P) (p : P) (ps : List P) → before ≡ p ∷ ps → IsNearUndo here before p
near-undo-before here before p ps e = rw e (inr refl)

-- the state before
pub near-before : {P S : Type 0} (r : Rules P) (joins : P → S → P → Type 0) (is_state : P → Type 0) (here there : P) (steps less : List S) (s : Trail P)
    (asked : Choice) → IsBack joins is_state here steps there less → IsSessionAt joins here steps choices.Undo s asked → IsNear r s asked there
near-before r joins is_state here there steps less s choices.Undo back on =
    let b = back.before s on.is_here on.are_steps in near-undo-before s.here s.before there b.rest b.was
near-before r joins is_state here there steps less s choices.Blank back on = absurd (cc on.is_choice)
near-before r joins is_state here there steps less s (choices.Across n) back on = absurd (cc on.is_choice)
near-before r joins is_state here there steps less s choices.Quit back on = absurd (cc on.is_choice)
near-before r joins is_state here there steps less s choices.Unknown back on = absurd (cc on.is_choice)

-- where the session is, for an undo while there is a step
pub near-undo : {P S : Type 0} (r : Rules P) (joins : P → S → P → Type 0) (here : P) (steps : List S) (s : Trail P) (asked : Choice) → (steps ≡ [] → ⊥) →
    IsSessionAt joins here steps choices.Undo s asked → IsNear r s asked here
near-undo r joins here steps s choices.Undo some on =
    let none : s.before ≡ [] → ⊥ = λ e. some (no-steps (sym (steps-length joins steps s on.are_steps) ∙ ap length e)) in
    rw (sym on.is_here) (near-undo-here s.here s.before none)
  where
    no-steps : {T : Type 0} {xs : List T} → length xs ≡ 0 → xs ≡ []
    no-steps {xs = []} e = refl
    no-steps {xs = x ∷ xs} e = absurd (omega (arith, e))
near-undo r joins here steps s choices.Blank some on = absurd (cc on.is_choice)
near-undo r joins here steps s (choices.Across n) some on = absurd (cc on.is_choice)
near-undo r joins here steps s choices.Quit some on = absurd (cc on.is_choice)
near-undo r joins here steps s choices.Unknown some on = absurd (cc on.is_choice)

-- why what is told of the state before isn't written
pub cause-back : {P S E : Type 0} (r : Rules P) (joins : P → S → P → Type 0) (is_state : P → Type 0) (refuses : P → E →
    Type 0) (here there : P) (steps less : List S) (choice : Choice)
    (held holds : Option (List ℕ)) (written writes : ℕ) (e : SessionError E) → choice ≡ choices.Undo → IsBack joins is_state here steps there less →
    IsPromptCause r refuses there (length less) held holds written writes e → IsTurnCause r joins refuses here steps choice held holds written writes e
cause-back r joins is_state refuses here there steps less choice held holds written writes e is back cause =
    cause-prompt r joins refuses here there steps less choice held holds written writes e
    (λ text told s asked on. led-back r joins is_state here there steps less s asked text back told (on-as joins here steps choice choices.Undo s asked is on))
    (λ s asked on. near-before r joins is_state here there steps less s asked back (on-as joins here steps choice choices.Undo s asked is on))
    cause

-- why there is no way back although there is a step
pub cause-no_way_back : {P S E : Type 0} (r : Rules P) (joins : P → S → P → Type 0) (refuses : P → E → Type 0) (here : P) (steps : List S) (choice : Choice)
    (held : Option (List ℕ))
    (written writes : ℕ) (e : SessionError E) → choice ≡ choices.Undo → IsBackRefusal steps (refuses here) e →
    IsTurnCause r joins refuses here steps choice held held written writes e
cause-no_way_back r joins refuses here steps choice held written writes errors.Memory is refusal = Keeps-refl held
cause-no_way_back r joins refuses here steps choice held written writes (errors.Refused x) is refusal =
    λ s asked on. record {
      kept = Keeps-refl held;
      state = here;
      near = near-undo r joins here steps s asked refusal.some (on-as joins here steps choice choices.Undo s asked is on);
      refused = refusal.refused;
    }
cause-no_way_back r joins refuses here steps choice held written writes errors.ReadFault is refusal = absurd refusal.refused
cause-no_way_back r joins refuses here steps choice held written writes errors.InputTooLong is refusal = absurd refusal.refused
cause-no_way_back r joins refuses here steps choice held written writes errors.WriteFault is refusal = absurd refusal.refused

-- why there is no way on by a number
pub cause-no_way_on : {P S E : Type 0} (r : Rules P) (joins : P → S → P → Type 0) (refuses : P → E → Type 0) (here : P) (steps : List S) (k : ℕ)
    (choice : Choice) (held : Option (List ℕ))
    (written writes : ℕ) (e : SessionError E) → choice ≡ choices.Across k → IsMoveRefusal (refuses here) e →
    IsTurnCause r joins refuses here steps choice held held written writes e
cause-no_way_on r joins refuses here steps k choice held written writes errors.Memory is refusal = Keeps-refl held
cause-no_way_on r joins refuses here steps k choice held written writes (errors.Refused x) is refusal =
    λ s asked on. record {
      kept = Keeps-refl held;
      state = here;
      near = near-number r joins here steps k s asked (on-as joins here steps choice (choices.Across k) s asked is on);
      refused = refusal;
    }
cause-no_way_on r joins refuses here steps k choice held written writes errors.ReadFault is refusal = absurd refusal
cause-no_way_on r joins refuses here steps k choice held written writes errors.InputTooLong is refusal = absurd refusal
cause-no_way_on r joins refuses here steps k choice held written writes errors.WriteFault is refusal = absurd refusal
