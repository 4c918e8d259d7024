-- How far a run is: the generators that have entered, the pairs that are settled, and why it stops.
-- Laws: proofs/GeneratorsOfRuns.antt, proofs/SettleLaws.antt. Source: Cox, Little, O'Shea, Ideals, Varieties, and Algorithms, 2.7.
use Rattle.std.specs.Prelude.{◌≡◌, ℕ, ◌+◌, ◌<◌, ◌≤◌, false, List, [], ◌∷◌, length, slice_index_or, Contains}
use Rattle.gf_exponents_theory.specs.SixOrders.{MonomialOrder}
use Rattle.gf_poly.specs.declared.error.PolyError.{PolyError}
use Rattle.gf_poly.specs.Polynomial.{Terms}
use Rattle.gf_poly.specs.Refusals.{UnlessMemory}
use Rattle.gf_poly.specs.Marking.{MarkedPolynomial, polys}
use Rattle.gf_ideal_theory.specs.Membership.{IsMember}
use Rattle.gf_buchberger.specs.declared.queue.Strategy.{Strategy}
use Rattle.gf_buchberger.specs.declared.queue.Waiting.{Waiting}
use Rattle.gf_buchberger.specs.declared.runs.Stop.{Stop}
use Rattle.gf_buchberger.specs.declared.runs.Stop.TheVariants as stops
use Rattle.gf_buchberger.specs.Generators.{IsRefusedEntry}
use Rattle.gf_buchberger.specs.Tasks.{HaveRingVariables}
use Rattle.gf_buchberger.specs.Keys.{IsFirst}
use Rattle.gf_buchberger.specs.Pairs.{is_settled, settled_count}
use Rattle.gf_buchberger.specs.Ruled.{IsRuled}
use Rattle.gf_buchberger.specs.Runs.{State, state_of, with_pair, IsRun, IsRefusedPair}

-- ---- generators

-- s is a state of a run on the polynomials by the rule, the first i of which are in the ideal of its members; no pair is settled yet
pub record HasEntered (strategy : Strategy) (order : MonomialOrder) (fs : List Terms) (i : ℕ) (s : State) : Type 0 where
  pub unsettled : settled_count s.table ≡ 0
  pub run : (n : ℕ) → HaveRingVariables n fs → IsRun order n fs s
  pub ruled : IsRuled strategy order fs i s
  pub inside : (n : ℕ) → HaveRingVariables n fs → (k : ℕ) (f : Terms) → k < i → slice_index_or fs k f ≡ f → IsMember n (polys s.members) f

-- one of the polynomials was refused, in such a state
pub record IsRefusedGenerator (strategy : Strategy) (order : MonomialOrder) (fs : List Terms) (e : PolyError) : Type 0 where
  pub i : ℕ
  pub at : State
  pub entered : HasEntered strategy order fs i at
  pub generator : Terms
  pub inside : i < length fs
  pub is : slice_index_or fs i generator ≡ generator
  pub refused : IsRefusedEntry order at generator e

-- one of the polynomials was refused so, or there is no memory
abbrev pub IsGeneratorRefusal : Strategy → MonomialOrder → List Terms → PolyError → Type 0
IsGeneratorRefusal strategy order fs = UnlessMemory (IsRefusedGenerator strategy order fs)

-- ---- pairs

-- each run that is at `old` may go on to `new`, where `done` pairs more are settled; a run by the rule does so by it
pub record IsSettling (order : MonomialOrder) (old new : State) (done : ℕ) : Type 0 where
  pub run : (n : ℕ) (fs : List Terms) → IsRun order n fs old → IsRun order n fs new
  pub ruled : (strategy : Strategy) (fs : List Terms) → IsRuled strategy order fs (length fs) old → IsRuled strategy order fs (length fs) new
  pub kept : (b : MarkedPolynomial) → Contains old.members b → Contains new.members b
  pub members : length new.members ≤ length old.members + done
  pub count : settled_count new.table ≡ settled_count old.table + done

-- no pair waits any more, and at most `budget` were settled
pub record IsWorkedThrough (order : MonomialOrder) (budget : ℕ) (old new : State) : Type 0 where
  pub done : ℕ
  pub within : done ≤ budget
  pub settling : IsSettling order old new done
  pub none : new.queue ≡ []

-- `budget` pairs were settled, and the one that came first was taken out and isn't
pub record IsSpent (order : MonomialOrder) (budget : ℕ) (old new : State) : Type 0 where
  pub pair : Waiting
  pub settling : IsSettling order old (with_pair pair new) budget
  pub first : IsFirst (pair ∷ new.queue) pair
  pub unsettled : is_settled new.table pair.first pair.second ≡ false

-- at most `budget` pairs were settled, and the one that came first then was refused
pub record IsRefusedRun (order : MonomialOrder) (budget : ℕ) (old : State) (e : PolyError) : Type 0 where
  pub done : ℕ
  pub within : done < budget
  pub at : State
  pub pair : Waiting
  pub settling : IsSettling order old (with_pair pair at) done
  pub first : IsFirst (pair ∷ at.queue) pair
  pub refused : IsRefusedPair order at pair.first pair.second e

-- why not all pairs are settled
abbrev pub IsStop : MonomialOrder → ℕ → State → Stop → Type 0
IsStop order budget old (stops.Refused e) = UnlessMemory (IsRefusedRun order budget old) e
IsStop order budget old (stops.Spent run) = IsSpent order budget old (state_of run)
