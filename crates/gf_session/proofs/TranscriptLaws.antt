-- Transcripts: lines have one, and u undoes.
-- To cite: determined, existing. The rest are steps.
use Rattle.std.proofs.Common.{◌≡◌, ◌⊎◌, ℕ, List, [], ◌∷◌, ◌++◌, length, refl, sym, ap₂, ◌∙◌, subst, inl, inr}
use Rattle.gf_session.specs.declared.choice.Choice.{Choice}
use Rattle.gf_session.specs.declared.choice.Choice.TheVariants as choices
use Rattle.gf_session.specs.Sessions.{Rules, Trail, IsLineTurn, AreTurns, IsCrossedTo, IsReply, IsUndone, no_such_facet, nothing_to_undo, not_understood}
use Rattle.gf_session.specs.Transcripts.{AreFunctions, AreDetermined, NoneQuits, HoldsOfStates, HoldsOverTrail, AreTotal, HaveTranscripts}

-- ---- one at most

same_answer : {P : Type 0} (s t u : Trail P) (answer x y : List ℕ) → IsReply s t answer x → IsReply s u answer y → (t ≡ u) × (x ≡ y)
same_answer s t u answer x y a b = (a.stays ∙ sym b.stays, a.is_answer ∙ sym b.is_answer)

same_crossing : {P : Type 0} (r : Rules P) → AreFunctions r → (s t u : Trail P) (n : ℕ) (x y : List ℕ) → IsCrossedTo r s n t x → IsCrossedTo r s n u y →
    (t ≡ u) × (x ≡ y)
same_crossing {P} r f s t u n x y a b =
    let same : t ≡ u = ap₂ (λ (h : P) (ps : List P). record { here = h; before = ps }) (f.one_state s.here t.here u.here n a.across b.across)
    (a.before ∙ sym b.before) in
    (same, f.one_text t.here (length t.before) x y a.told (subst (λ (v : Trail P). r.IsTold v.here (length v.before) y) (sym same) b.told))

same_across : {P : Type 0} (r : Rules P) → AreFunctions r → (s t u : Trail P) (n : ℕ) (x y : List ℕ) → IsLineTurn r s (choices.Across n) t x →
    IsLineTurn r s (choices.Across n) u y → (t ≡ u) × (x ≡ y)
same_across r f s t u n x y (inl a) (inl b) = same_crossing r f s t u n x y a b
same_across r f s t u n x y (inl a) (inr b) = absurd (f.no_state s.here t.here n a.across b.0)
same_across r f s t u n x y (inr a) (inl b) = absurd (f.no_state s.here u.here n b.across a.0)
same_across r f s t u n x y (inr a) (inr b) = same_answer s t u _ x y a.1 b.1

same_undoing : {P : Type 0} (r : Rules P) → AreFunctions r → (here : P) (before : List P) (t u : Trail P) (x y : List ℕ) → IsUndone r here before t x →
    IsUndone r here before u y → (t ≡ u) × (x ≡ y)
same_undoing r f here [] t u x y a b = same_answer _ t u _ x y a b
same_undoing r f here (p ∷ ps) t u x y a b = (a.0 ∙ sym b.0, f.one_text p (length ps) x y a.1 b.1)

same_turn : {P : Type 0} (r : Rules P) → AreFunctions r → (s : Trail P) (c : Choice) (t u : Trail P) (x y : List ℕ) → IsLineTurn r s c t x →
    IsLineTurn r s c u y → (t ≡ u) × (x ≡ y)
same_turn r f s choices.Blank t u x y a b = same_answer s t u _ x y a b
same_turn r f s (choices.Across n) t u x y a b = same_across r f s t u n x y a b
same_turn r f s choices.Undo t u x y a b = same_undoing r f s.here s.before t u x y a b
same_turn r f s choices.Quit t u x y a b = absurd a
same_turn r f s choices.Unknown t u x y a b = same_answer s t u _ x y a b

same_turns : {P : Type 0} (r : Rules P) → AreFunctions r → (s : Trail P) (cs : List Choice) (t u : Trail P) (x y : List ℕ) → AreTurns r s cs t x →
    AreTurns r s cs u y → (t ≡ u) × (x ≡ y)
same_turns r f s [] t u x y a b = (a.0 ∙ sym b.0, a.1 ∙ sym b.1)
same_turns {P} r f s (c ∷ cs) t u x y a b =
    let first = same_turn r f s c a.0 b.0 a.1 b.1 a.3 b.3 in
    let rest = same_turns r f a.0 cs t u a.2 b.2 a.4 (subst (λ (v : Trail P). AreTurns r v cs u b.2) (sym first.0) b.4) in
    (rest.0, a.5 ∙ ap₂ (λ (p q : List ℕ). p ++ q) first.1 rest.1 ∙ sym b.5)

undone_to : {P : Type 0} (r : Rules P) (here : P) (before : List P) (p : P) (ps : List P) (u : Trail P) (y : List ℕ) → before ≡ p ∷ ps →
    IsUndone r here before u y → u ≡ record { here = p; before = ps }
undone_to r here before p ps u y e a = let b : IsUndone r here (p ∷ ps) u y = rw e at a in b.0

pub determined : {P : Type 0} (r : Rules P) → AreDetermined r
determined r = record {
  one = same_turns r;
  undone = λ s t u n x y crossed turn. undone_to r t.here t.before s.here s.before u y crossed.before turn;
}

-- ---- one at least

-- the line leads from the trail to another one of such states, with an answer
record IsLedOn {P : Type 0} (r : Rules P) (Q : P → Type 0) (s : Trail P) (c : Choice) : Type 0 where
  t : Trail P
  piece : List ℕ
  turn : IsLineTurn r s c t piece
  over : HoldsOverTrail Q t

crossing : {P : Type 0} (r : Rules P) (Q : P → Type 0) → AreTotal r Q → (s : Trail P) (n : ℕ) → HoldsOverTrail Q s →
    (((q : P) × r.IsAcross s.here n q) ⊎ r.IsLacking s.here n) → IsLedOn r Q s (choices.Across n)
crossing r Q total s n over (inl q) =
    let there = total.stays s.here q.0 n over.here q.1 in
    let told = total.told q.0 (length (s.here ∷ s.before)) there in
    record {
      t = record { here = q.0; before = s.here ∷ s.before };
      piece = told.0;
      turn = inl (record { before = refl; across = q.1; told = told.1 });
      over = record { here = there; before = (over.here, over.before) };
    }
crossing r Q total s n over (inr lacking) =
    record { t = s; piece = no_such_facet; turn = inr (lacking, record { stays = refl; is_answer = refl }); over = over }

-- the trail before
record IsLedBack {P : Type 0} (r : Rules P) (Q : P → Type 0) (here : P) (before : List P) : Type 0 where
  t : Trail P
  piece : List ℕ
  undone : IsUndone r here before t piece
  over : HoldsOverTrail Q t

undoing : {P : Type 0} (r : Rules P) (Q : P → Type 0) → AreTotal r Q → (here : P) (before : List P) → Q here → HoldsOfStates Q before →
    IsLedBack r Q here before
undoing r Q total here [] h b = record {
  t = record { here = here; before = [] };
  piece = nothing_to_undo;
  undone = record { stays = refl; is_answer = refl };
  over = record { here = h; before = tt };
}
undoing r Q total here (p ∷ ps) h b =
    let told = total.told p (length ps) b.0 in
    record {
      t = record { here = p; before = ps };
      piece = told.0;
      undone = (refl, told.1);
      over = record { here = b.0; before = b.1 };
    }

one_turn : {P : Type 0} (r : Rules P) (Q : P → Type 0) → AreTotal r Q → (s : Trail P) (c : Choice) → HoldsOverTrail Q s → (c ≡ choices.Quit → ⊥) →
    IsLedOn r Q s c
one_turn r Q total s choices.Blank over goes = record { t = s; piece = []; turn = record { stays = refl; is_answer = refl }; over = over }
one_turn r Q total s (choices.Across n) over goes = crossing r Q total s n over (total.across s.here n over.here)
one_turn r Q total s choices.Undo over goes =
    let back = undoing r Q total s.here s.before over.here over.before in
    record { t = back.t; piece = back.piece; turn = back.undone; over = back.over }
one_turn r Q total s choices.Quit over goes = absurd (goes refl)
one_turn r Q total s choices.Unknown over goes = record { t = s; piece = not_understood; turn = record { stays = refl; is_answer = refl }; over = over }

some_turns : {P : Type 0} (r : Rules P) (Q : P → Type 0) → AreTotal r Q → (s : Trail P) (cs : List Choice) → HoldsOverTrail Q s → NoneQuits cs →
    (t : Trail P) × (text : List ℕ) × AreTurns r s cs t text
some_turns r Q total s [] over goes = (s, [], (refl, refl))
some_turns r Q total s (c ∷ cs) over goes =
    let led = one_turn r Q total s c over goes.0 in
    let rest = some_turns r Q total led.t cs led.over goes.1 in
    (rest.0, led.piece ++ rest.1, (led.t, led.piece, rest.1, led.turn, rest.2, refl))

pub existing : {P : Type 0} (r : Rules P) (Q : P → Type 0) → HaveTranscripts r Q
existing r Q = record { some = some_turns r Q }
