-- What each crossing keeps holds at each state of a session, and at each state that its lines look at.
-- To cite: turns-over, near-over. The rest are steps.
use Rattle.std.proofs.Common.{ℕ, List, [], ◌∷◌, sym, subst, inl, inr}
use Rattle.gf_session.specs.declared.choice.Choice.{Choice}
use Rattle.gf_session.specs.declared.choice.Choice.TheVariants as choices
use Rattle.gf_session.specs.Sessions.{Rules, Trail, IsLineTurn, AreTurns, IsUndone, IsNear, IsNearUndo}
use Rattle.gf_session.specs.Transcripts.{HoldsOfStates, HoldsOverTrail}

-- ---- one state

undo-near : {P : Type 0} (Q : P → Type 0) (here : P) (before : List P) (p : P) → Q here → HoldsOfStates Q before → IsNearUndo here before p → Q p
undo-near Q here [] p h b near = absurd near
undo-near Q here (q ∷ qs) p h b (inl e) = subst Q (sym e) h
undo-near Q here (q ∷ qs) p h b (inr e) = subst Q (sym e) b.0

-- a state at which a line looks
pub near-over : {P : Type 0} (r : Rules P) (Q : P → Type 0) → ((p q : P) (n : ℕ) → Q p → r.IsAcross p n q → Q q) → (s : Trail P) (c : Choice) (p : P) →
    HoldsOverTrail Q s → IsNear r s c p → Q p
near-over r Q stays s choices.Blank p over near = absurd near
near-over r Q stays s (choices.Across n) p over (inl e) = subst Q (sym e) over.here
near-over r Q stays s (choices.Across n) p over (inr across) = stays s.here p n over.here across
near-over r Q stays s choices.Undo p over near = undo-near Q s.here s.before p over.here over.before near
near-over r Q stays s choices.Quit p over near = absurd near
near-over r Q stays s choices.Unknown p over near = absurd near

-- ---- lines

undo-over : {P : Type 0} (r : Rules P) (Q : P → Type 0) (here : P) (before : List P) (t : Trail P) (text : List ℕ) → Q here → HoldsOfStates Q before →
    IsUndone r here before t text → HoldsOverTrail Q t
undo-over r Q here [] t text h b a =
    let over : HoldsOverTrail Q (record { here = here; before = [] }) = record { here = h; before = tt } in
    subst (HoldsOverTrail Q) (sym a.stays) over
undo-over r Q here (p ∷ ps) t text h b a =
    let over : HoldsOverTrail Q (record { here = p; before = ps }) = record { here = b.0; before = b.1 } in
    subst (HoldsOverTrail Q) (sym a.0) over

turn-over : {P : Type 0} (r : Rules P) (Q : P → Type 0) → ((p q : P) (n : ℕ) → Q p → r.IsAcross p n q → Q q) →
    (s : Trail P) (c : Choice) (t : Trail P) (text : List ℕ) → HoldsOverTrail Q s → IsLineTurn r s c t text → HoldsOverTrail Q t
turn-over r Q stays s choices.Blank t text over turn = subst (HoldsOverTrail Q) (sym turn.stays) over
turn-over r Q stays s (choices.Across n) t text over (inl x) =
    let both : HoldsOfStates Q (s.here ∷ s.before) = (over.here, over.before) in
    record { here = stays s.here t.here n over.here x.across; before = subst (HoldsOfStates Q) (sym x.before) both }
turn-over r Q stays s (choices.Across n) t text over (inr x) = subst (HoldsOverTrail Q) (sym x.1.stays) over
turn-over r Q stays s choices.Undo t text over turn = undo-over r Q s.here s.before t text over.here over.before turn
turn-over r Q stays s choices.Quit t text over turn = absurd turn
turn-over r Q stays s choices.Unknown t text over turn = subst (HoldsOverTrail Q) (sym turn.stays) over

-- each state of the trail that lines lead to
pub turns-over : {P : Type 0} (r : Rules P) (Q : P → Type 0) → ((p q : P) (n : ℕ) → Q p → r.IsAcross p n q → Q q) →
    (s : Trail P) (cs : List Choice) (t : Trail P) (text : List ℕ) → HoldsOverTrail Q s → AreTurns r s cs t text → HoldsOverTrail Q t
turns-over r Q stays s [] t text over a = subst (HoldsOverTrail Q) (sym a.0) over
turns-over r Q stays s (c ∷ cs) t text over a = turns-over r Q stays a.0 cs t a.2 (turn-over r Q stays s c a.0 a.1 over a.3) a.4
