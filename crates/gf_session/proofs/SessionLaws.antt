-- A session line by line.
-- The proofs of converse cite these.
use Rattle.std.proofs.Common.{◌≡◌, ℕ, ◌+◌, ◌≤◌, true, false, List, [], ◌∷◌, ◌++◌, length, map, flat_map, All, refl, ap, sym, ◌∙◌, arith, length-append, take}
use Rattle.std.proofs.Common.{subst}
use Rattle.std.proofs.lemmas.List.{append_assoc, append-nil, map-append}
use Rattle.std.proofs.lemmas.Grind.{flat_map-append}
use Rattle.std.proofs.lemmas.List.Elements.{All-push}
use Rattle.std.proofs.Math.Seq.{take-append-add}
use Rattle.std.proofs.KnownBytes.{Appends-nil, Appends-trans, Appends-kept, Consumes-nil}
use Rattle.std.specs.declared.option.Option.{Option}
use Rattle.std.specs.Io.KnownBytes.{Appends, Keeps}
use Rattle.gf_outside.specs.Moved.{Took, TookAtMost, AppendsPrefix}
use Rattle.gf_outside.proofs.MovedLaws.{Took-append}
use Rattle.gf_session.specs.declared.choice.Choice.{Choice}
use Rattle.gf_session.specs.declared.choice.Choice.TheVariants as choices
use Rattle.gf_session.specs.declared.line.Heard.{Heard}
use Rattle.gf_session.specs.declared.session.SessionError.{SessionError}
use Rattle.gf_session.specs.declared.session.SessionError.TheVariants as errors
use Rattle.gf_session.specs.Choices.{choice_of, narrowed}
use Rattle.gf_session.specs.Lines.{HasNoFeed, IsLineHeard, IsCut, ended, as_taken}
use Rattle.gf_session.specs.Sessions.{Rules, Trail, IsLineTurn, AreTurns, IsTalk, IsEndedByInput, IsEndedByLine, IsBrokenOff, IsReplyUnwritten, IsStuck}
use Rattle.gf_session.specs.Moves.{IsSessionAt, IsTurnTaken, IsTurnUnwritten, IsTurnRefused, IsTurnCause, IsWriteCalm}
use Rattle.gf_session.specs.Endings.{IsTalking, IsLeftOff, IsCause, IsReadCalm, IsWithinInput}

-- ---- turns in turn

pub turns-more : {P : Type 0} (r : Rules P) (s : Trail P) (cs : List Choice) (t : Trail P) (c : Choice) (u : Trail P) (text piece : List ℕ) →
    AreTurns r s cs t text → IsLineTurn r t c u piece → AreTurns r s (cs ++ c ∷ []) u (text ++ piece)
turns-more r s [] t c u text piece a turn = (u, piece, [], rw a.0 at turn, (refl, refl), rw (a.1, append-nil) refl)
turns-more r s (d ∷ cs) t c u text piece a turn =
    (a.0, a.1, a.2 ++ piece, a.3, turns-more r a.0 cs t c u a.2 piece a.4 turn, rw (a.5, append_assoc) refl)

-- one line more
pub lines-more : {P : Type 0} (r : Rules P) (s : Trail P) (lines : List (List ℕ)) (line : List ℕ) (t u : Trail P) (text piece : List ℕ) →
    AreTurns r s (map choice_of lines) t text → IsLineTurn r t (choice_of line) u piece → AreTurns r s (map choice_of (lines ++ line ∷ [])) u (text ++ piece)
lines-more r s lines line t u text piece a turn = rw map-append (turns-more r s (map choice_of lines) t (choice_of line) u text piece a turn)

pure-more : (lines : List (List ℕ)) (line : List ℕ) → All HasNoFeed lines → HasNoFeed line → All HasNoFeed (lines ++ line ∷ [])
pure-more lines line all one = All-push HasNoFeed lines line all one

-- ---- what a session has done

-- nothing yet
pub talk-nothing : {P S : Type 0} (r : Rules P) (joins : P → S → P → Type 0) (start : P) (left : Option (List ℕ)) (given : ℕ) (held : Option (List ℕ)) →
    IsTalking r joins (record { here = start; before = [] }) start [] left left given given held held 0
talk-nothing r joins start left given held = record {
  lines = [];
  t = record { here = start; before = [] };
  is_here = refl;
  are_steps = refl;
  talk = record {
    pure = λ k d h. absurd (omega arith);
    took = record { bytes_left = Consumes-nil left; count = (omega arith, omega arith) };
    text = [];
    turns = (refl, refl);
    gained = Appends-nil held;
  };
  count = refl;
}

-- what was taken with a further line
pub took-line : {P S : Type 0} (r : Rules P) (joins : P → S → P → Type 0) (s : Trail P) (here : P) (steps : List S) (left middle leaves : Option (List ℕ))
    (given between gives : ℕ) (held holds : Option (List ℕ)) (taken : ℕ) (rest : List ℕ)
    (so : IsTalking r joins s here steps left middle given between held holds taken) → Took middle leaves between gives rest →
    Took left leaves given gives (flat_map ended so.lines ++ rest)
took-line r joins s here steps left middle leaves given between gives held holds taken rest so took =
    Took-append left middle leaves given between gives (flat_map ended so.lines) rest (rw append-nil at so.talk.took) took.bytes_left took.count

-- the same talk with these bytes behind it
pub talk-with : {P S : Type 0} (r : Rules P) (joins : P → S → P → Type 0) (s : Trail P) (here : P) (steps : List S) (left middle leaves : Option (List ℕ))
    (given between gives : ℕ) (held holds after : Option (List ℕ)) (taken : ℕ) (rest : List ℕ)
    (so : IsTalking r joins s here steps left middle given between held holds taken) → Took middle leaves between gives rest → Keeps holds after →
    IsTalk r s so.t left leaves given gives held after so.lines rest
talk-with r joins s here steps left middle leaves given between gives held holds after taken rest so took kept = record {
  pure = so.talk.pure;
  took = took-line r joins s here steps left middle leaves given between gives held holds taken rest so took;
  text = so.talk.text;
  turns = so.talk.turns;
  gained = Appends-kept held holds after so.talk.text so.talk.gained kept;
}

quits : (c : Choice) → choices.Quit ≡ narrowed c → c ≡ choices.Quit
quits choices.Quit e = refl
quits choices.Blank e = absurd (cc e)
quits (choices.Across n) e = absurd (cc e)
quits choices.Undo e = absurd (cc e)
quits choices.Unknown e = absurd (cc e)

-- ---- how it goes on

-- q
pub ended-by-line : {P S : Type 0} (r : Rules P) (joins : P → S → P → Type 0) (s : Trail P) (here : P) (steps : List S) (left middle leaves : Option (List ℕ))
    (given between gives : ℕ) (held holds : Option (List ℕ)) (taken : ℕ) (heard : Heard) →
    IsTalking r joins s here steps left middle given between held holds taken → IsLineHeard middle leaves between gives taken heard →
    heard.choice ≡ choices.Quit → Keeps holds holds → IsEndedByLine r s left leaves given gives held holds
ended-by-line r joins s here steps left middle leaves given between gives held holds taken heard so h quit kept = record {
  lines = so.lines;
  last = h.line;
  is_last = heard.is_last;
  t = so.t;
  pure = h.pure;
  quits = quits (choice_of h.line) (sym quit ∙ h.choice);
  ends = h.ends;
  talk = talk-with r joins s here steps left middle leaves given between gives held holds holds taken (as_taken heard.is_last h.line) so h.took kept;
}

-- the line is one of the trail that the session has come to
pub heard-on : {P S : Type 0} (r : Rules P) (joins : P → S → P → Type 0) (s : Trail P) (here : P) (steps : List S) (left middle leaves : Option (List ℕ))
    (given between gives : ℕ) (held holds : Option (List ℕ)) (taken : ℕ) (heard : Heard)
    (so : IsTalking r joins s here steps left middle given between held holds taken) (h : IsLineHeard middle leaves between gives taken heard) →
    IsSessionAt joins here steps heard.choice so.t (choice_of h.line)
heard-on r joins s here steps left middle leaves given between gives held holds taken heard so h = record {
  is_here = so.is_here;
  are_steps = so.are_steps;
  is_choice = h.choice;
}

-- the last line was answered
pub ended-by-input : {P S : Type 0} (r : Rules P) (joins : P → S → P → Type 0) (s : Trail P) (here there : P) (steps more : List S) (left middle leaves : Option
    (List ℕ)) (given between gives : ℕ) (held holds gained : Option (List ℕ)) (taken : ℕ) (heard : Heard)
    (so : IsTalking r joins s here steps left middle given between held holds taken) (h : IsLineHeard middle leaves between gives taken heard) →
    heard.is_last ≡ true →
    IsTurnTaken r joins so.t (choice_of h.line) there more holds gained → IsEndedByInput r s left leaves given gives held gained
ended-by-input r joins s here there steps more left middle leaves given between gives held holds gained taken heard so h last turn = record {
  lines = so.lines;
  last = h.line;
  t = turn.t;
  pure = pure-more so.lines h.line so.talk.pure h.pure;
  took = took-line r joins s here steps left middle leaves given between gives held holds taken h.line so (rw last at h.took);
  end = h.ends last;
  text = so.talk.text ++ turn.piece;
  turns = lines-more r s so.lines h.line so.t turn.t so.talk.text turn.piece so.talk.turns turn.turn;
  gained = Appends-trans held holds gained so.talk.text turn.piece so.talk.gained turn.gained;
}

-- another line was answered
pub talk-more : {P S : Type 0} (r : Rules P) (joins : P → S → P → Type 0) (s : Trail P) (here there : P) (steps more : List S) (left middle leaves : Option
    (List ℕ)) (given between gives : ℕ) (held holds gained : Option (List ℕ)) (taken : ℕ) (heard : Heard)
    (so : IsTalking r joins s here steps left middle given between held holds taken) (h : IsLineHeard middle leaves between gives taken heard) →
    heard.is_last ≡ false →
    IsTurnTaken r joins so.t (choice_of h.line) there more holds gained → IsTalking r joins s there more left leaves given gives held gained heard.taken
talk-more r joins s here there steps more left middle leaves given between gives held holds gained taken heard so h last turn =
    let took : Took middle leaves between gives (ended h.line) = rw last at h.took in
    let count : heard.taken ≡ taken + length (ended h.line) = rw last at h.count in
    let all : flat_map ended (so.lines ++ h.line ∷ []) ≡ flat_map ended so.lines ++ ended h.line =
    flat_map-append ended so.lines (h.line ∷ []) ∙ ap (λ k. flat_map ended so.lines ++ k) (append-nil (ended h.line)) in
    record {
      lines = so.lines ++ h.line ∷ [];
      t = turn.t;
      is_here = turn.is_here;
      are_steps = turn.are_steps;
      talk = record {
        pure = pure-more so.lines h.line so.talk.pure h.pure;
        took = rw (append-nil, all) (took-line r joins s here steps left middle leaves given between gives held holds taken (ended h.line) so took);
        text = so.talk.text ++ turn.piece;
        turns = lines-more r s so.lines h.line so.t turn.t so.talk.text turn.piece so.talk.turns turn.turn;
        gained = Appends-trans held holds gained so.talk.text turn.piece so.talk.gained turn.gained;
      };
      count = rw all (count ∙ omega (arith, so.count, length-append (flat_map ended so.lines) (ended h.line)));
    }

-- ---- how it is cut off

-- in a line
pub cut-off : {P S : Type 0} (r : Rules P) (joins : P → S → P → Type 0) (s : Trail P) (here : P) (steps : List S) (left middle leaves : Option (List ℕ))
    (given between gives : ℕ) (held holds : Option (List ℕ)) (taken n : ℕ) → IsTalking r joins s here steps left middle given between held holds taken →
    IsCut middle leaves between gives n → Keeps holds holds → IsBrokenOff r s left leaves given gives held holds (taken + n)
cut-off r joins s here steps left middle leaves given between gives held holds taken n so cut kept = record {
  lines = so.lines;
  rest = cut.bytes;
  t = so.t;
  begun = cut.begun;
  talk = talk-with r joins s here steps left middle leaves given between gives held holds holds taken cut.bytes so cut.took kept;
  exactly = omega (arith, so.count, cut.exactly, length-append (flat_map ended so.lines) cut.bytes);
}

-- in its answer
pub left-unwritten : {P S : Type 0} (r : Rules P) (joins : P → S → P → Type 0) (s : Trail P) (here : P) (steps : List S) (left middle leaves : Option (List ℕ))
    (given between gives : ℕ) (held holds gained : Option (List ℕ)) (taken : ℕ) (heard : Heard)
    (so : IsTalking r joins s here steps left middle given between held holds taken) (h : IsLineHeard middle leaves between gives taken heard) →
    IsTurnUnwritten r so.t (choice_of h.line) holds gained → IsReplyUnwritten r s left leaves given gives held gained
left-unwritten r joins s here steps left middle leaves given between gives held holds gained taken heard so h turn = record {
  lines = so.lines;
  last = h.line;
  is_last = heard.is_last;
  t = turn.t;
  pure = pure-more so.lines h.line so.talk.pure h.pure;
  ends = h.ends;
  took = took-line r joins s here steps left middle leaves given between gives held holds taken (as_taken heard.is_last h.line) so h.took;
  text = so.talk.text ++ turn.piece;
  turns = lines-more r s so.lines h.line so.t turn.t so.talk.text turn.piece so.talk.turns turn.turn;
  gained = prefix-behind held holds gained so.talk.text turn.piece so.talk.gained turn.gained;
}
  where
    prefix-behind : (a b c : Option (List ℕ)) (xs ys : List ℕ) → Appends a b xs → AppendsPrefix b c ys → AppendsPrefix a c (xs ++ ys)
    prefix-behind a b c xs ys p q = (length xs + q.0, omega (arith, length-append xs ys, q.1), rw take-append-add (Appends-trans a b c xs (take q.0 ys) p q.2))

-- at a state
pub left-stuck : {P S E : Type 0} (r : Rules P) (joins : P → S → P → Type 0) (refuses : P → E → Type 0) (s : Trail P) (here : P) (steps : List S)
    (left middle leaves : Option (List ℕ)) (given between gives : ℕ) (held holds gained : Option (List ℕ)) (taken : ℕ) (heard : Heard) (e : E)
    (so : IsTalking r joins s here steps left middle given between held holds taken) (h : IsLineHeard middle leaves between gives taken heard) →
    IsTurnRefused r refuses so.t (choice_of h.line) holds gained e → IsStuck r refuses s left leaves given gives held gained e
left-stuck r joins refuses s here steps left middle leaves given between gives held holds gained taken heard e so h turn = record {
  lines = so.lines;
  last = h.line;
  is_last = heard.is_last;
  t = so.t;
  pure = h.pure;
  ends = h.ends;
  talk = talk-with r joins s here steps left middle leaves given between gives held holds gained taken (as_taken heard.is_last h.line) so h.took turn.kept;
  state = turn.state;
  near = turn.near;
  refused = turn.refused;
}

-- for want of memory
pub left-off : {P S : Type 0} (r : Rules P) (joins : P → S → P → Type 0) (s : Trail P) (here : P) (steps : List S) (left middle leaves : Option (List ℕ))
    (given between gives : ℕ) (held holds gained : Option (List ℕ)) (taken : ℕ) (heard : Heard) →
    IsTalking r joins s here steps left middle given between held holds taken → IsLineHeard middle leaves between gives taken heard → Keeps holds gained →
    IsLeftOff r s left leaves given gives held gained
left-off r joins s here steps left middle leaves given between gives held holds gained taken heard so h kept = record {
  lines = so.lines;
  last = h.line;
  is_last = heard.is_last;
  t = so.t;
  pure = h.pure;
  ends = h.ends;
  talk = talk-with r joins s here steps left middle leaves given between gives held holds gained taken (as_taken heard.is_last h.line) so h.took kept;
}

-- as its turn is
pub turn-cause : {P S E : Type 0} (r : Rules P) (joins : P → S → P → Type 0) (refuses : P → E → Type 0) (s : Trail P) (here : P) (steps : List S)
    (left middle leaves : Option (List ℕ)) (given between gives : ℕ) (held holds gained : Option (List ℕ)) (read reads start written writes taken : ℕ)
    (heard : Heard) (e : SessionError E)
    (so : IsTalking r joins s here steps left middle given between held holds taken) (h : IsLineHeard middle leaves between gives taken heard) →
    written ≡ start →
    IsTurnCause r joins refuses here steps heard.choice holds gained written writes e → IsCause r refuses s left leaves given gives held gained read reads start
    writes e
turn-cause r joins refuses s here steps left middle leaves given between gives held holds gained read reads start written writes taken heard errors.ReadFault so
    h calm cause = absurd cause
turn-cause r joins refuses s here steps left middle leaves given between gives held holds gained read reads start written writes taken heard errors.InputTooLong
    so h calm cause = absurd cause
turn-cause r joins refuses s here steps left middle leaves given between gives held holds gained read reads start written writes taken heard errors.WriteFault
    so h calm cause = (
      rw calm at cause.0,
      left-unwritten r joins s here steps left middle leaves given between gives held holds gained taken heard so h
          (cause.1 so.t (choice_of h.line) (heard-on r joins s here steps left middle leaves given between gives held holds taken heard so h)),
    )
turn-cause r joins refuses s here steps left middle leaves given between gives held holds gained read reads start written writes taken heard errors.Memory so h
    calm cause =
    left-off r joins s here steps left middle leaves given between gives held holds gained taken heard so h cause
turn-cause r joins refuses s here steps left middle leaves given between gives held holds gained read reads start written writes taken heard (errors.Refused e)
    so h calm cause =
    left-stuck r joins refuses s here steps left middle leaves given between gives held holds gained taken heard e so h
    (cause so.t (choice_of h.line) (heard-on r joins s here steps left middle leaves given between gives held holds taken heard so h))

-- ---- how much was taken

-- and no more than an input may have
pub cut-short : {P : Type 0} (r : Rules P) (s : Trail P) (left leaves : Option (List ℕ)) (given gives : ℕ) (held holds : Option (List ℕ)) (n : ℕ) →
    IsBrokenOff r s left leaves given gives held holds n → n ≤ 67108864 → TookAtMost left leaves given gives 67108864
cut-short r s left leaves given gives held holds n cut fits = record {
  bytes = flat_map ended cut.lines ++ cut.rest;
  took = cut.talk.took;
  at_most = omega (arith, cut.exactly, fits);
}

-- what a session took with a line
pub line-short : {P S : Type 0} (r : Rules P) (joins : P → S → P → Type 0) (s : Trail P) (here : P) (steps : List S) (left middle leaves : Option (List ℕ))
    (given between gives : ℕ) (held holds : Option (List ℕ)) (taken : ℕ) (heard : Heard) →
    IsTalking r joins s here steps left middle given between held holds taken → IsLineHeard middle leaves between gives taken heard → heard.taken ≤ 67108864 →
    TookAtMost left leaves given gives 67108864
line-short r joins s here steps left middle leaves given between gives held holds taken heard so h fits = record {
  bytes = flat_map ended so.lines ++ as_taken heard.is_last h.line;
  took = took-line r joins s here steps left middle leaves given between gives held holds taken (as_taken heard.is_last h.line) so h.took;
  at_most = omega (arith, so.count, h.count, length-append (flat_map ended so.lines) (as_taken heard.is_last h.line), fits);
}

pub within-input : {E : Type 0} (left leaves : Option (List ℕ)) (given gives : ℕ) (e : SessionError E) → TookAtMost left leaves given gives 67108864 →
    IsWithinInput left leaves given gives e
within-input left leaves given gives errors.ReadFault took = took
within-input left leaves given gives errors.InputTooLong took = tt
within-input left leaves given gives errors.WriteFault took = took
within-input left leaves given gives errors.Memory took = took
within-input left leaves given gives (errors.Refused x) took = took

-- ---- what faults are counted

pub read-calm : {E : Type 0} (read reads : ℕ) (e : SessionError E) → reads ≡ read → IsReadCalm read reads e
read-calm read reads errors.ReadFault same = tt
read-calm read reads errors.InputTooLong same = same
read-calm read reads errors.WriteFault same = same
read-calm read reads errors.Memory same = same
read-calm read reads (errors.Refused x) same = same

pub write-calm-from : {E : Type 0} (start written writes : ℕ) (e : SessionError E) → written ≡ start → IsWriteCalm written writes e → IsWriteCalm start writes e
write-calm-from start written writes e same calm = subst (λ (k : ℕ). IsWriteCalm k writes e) same calm
