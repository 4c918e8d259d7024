-- Transcripts: lines have one, and u undoes. Laws: proofs/TranscriptLaws.antt.
use Rattle.std.specs.Prelude.{◌≡◌, ◌⊎◌, ℕ, List, [], ◌∷◌}
use Rattle.gf_session.specs.declared.choice.Choice.{Choice}
use Rattle.gf_session.specs.declared.choice.Choice.TheVariants as choices
use Rattle.gf_session.specs.Sessions.{Rules, Trail, IsLineTurn, AreTurns, IsCrossedTo}

-- ---- one at most

-- a choice leads to one state or to none, and one text is told of a state
pub record AreFunctions {P : Type 0} (r : Rules P) : Type 0 where
  pub one_state : (p q u : P) (n : ℕ) → r.IsAcross p n q → r.IsAcross p n u → q ≡ u
  pub no_state : (p q : P) (n : ℕ) → r.IsAcross p n q → r.IsLacking p n → ⊥
  pub one_text : (p : P) (behind : ℕ) (x y : List ℕ) → r.IsTold p behind x → r.IsTold p behind y → x ≡ y

-- lines lead from a trail to one trail, and have one transcript; and a choice followed by u gives the trail before it
pub record AreDetermined {P : Type 0} (r : Rules P) : Type 0 where
  pub one : AreFunctions r → (s : Trail P) (cs : List Choice) (t u : Trail P) (x y : List ℕ) → AreTurns r s cs t x → AreTurns r s cs u y → (t ≡ u) × (x ≡ y)
  pub undone : (s t u : Trail P) (n : ℕ) (x y : List ℕ) → IsCrossedTo r s n t x → IsLineTurn r t choices.Undo u y → u ≡ s

-- ---- one at least

-- none of these ends the session
abbrev pub NoneQuits : List Choice → Type 0
NoneQuits [] = Unit {0}
NoneQuits (c ∷ cs) = (c ≡ choices.Quit → ⊥) × NoneQuits cs

-- Q holds of each state
abbrev pub HoldsOfStates : {P : Type 0} → (P → Type 0) → List P → Type 0
HoldsOfStates Q [] = Unit {0}
HoldsOfStates Q (p ∷ ps) = Q p × HoldsOfStates Q ps

-- Q holds of each state of the trail
pub record HoldsOverTrail {P : Type 0} (Q : P → Type 0) (s : Trail P) : Type 0 where
  pub here : Q s.here
  pub before : HoldsOfStates Q s.before

-- where Q holds, each number leads to a state where it holds, or nowhere, and something is told
pub record AreTotal {P : Type 0} (r : Rules P) (Q : P → Type 0) : Type 0 where
  pub across : (p : P) (n : ℕ) → Q p → ((q : P) × r.IsAcross p n q) ⊎ r.IsLacking p n
  pub stays : (p q : P) (n : ℕ) → Q p → r.IsAcross p n q → Q q
  pub told : (p : P) (behind : ℕ) → Q p → (text : List ℕ) × r.IsTold p behind text

-- lines lead on from each trail of such states, and have a transcript
pub record HaveTranscripts {P : Type 0} (r : Rules P) (Q : P → Type 0) : Type 0 where
  pub some : AreTotal r Q → (s : Trail P) (cs : List Choice) → HoldsOverTrail Q s → NoneQuits cs → (t : Trail P) × (text : List ℕ) × AreTurns r s cs t text
