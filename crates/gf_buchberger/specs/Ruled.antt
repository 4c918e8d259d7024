-- Runs by the rule of the program: which generator, which pair and which remainder come next.
-- The generators enter in their order. Of the pairs that wait the one of least key is taken. What is left of a generator or of an S-polynomial is its
-- normal form, each step of which takes a term by the first member whose mark divides it. Free is only whether a pair that needs no work is reduced all
-- the same. A run of Buchberger's algorithm may do much else: a premise about these runs alone is met by far more polynomials.
-- Laws: proofs/RuledLaws.antt. Source: Becker, Weispfenning, Gröbner Bases, 5.5.
use Rattle.std.specs.Prelude.{◌≡◌, ◌⊎◌, ℕ, ◌+◌, ◌<◌, ◌^◌, true, false, List, [], ◌∷◌, length, Contains, slice_index_or, IsPermutation}
use Rattle.gf_frac.specs.Fraction.{Fraction}
use Rattle.gf_frac.specs.Fits.{Fits}
use Rattle.gf_frac.specs.declared.refusal.Op.{Op}
use Rattle.gf_exponents_theory.specs.Exponents.{Exponents}
use Rattle.gf_exponents_theory.specs.SixOrders.{MonomialOrder, below_of}
use Rattle.gf_poly.specs.Polynomial.{Terms}
use Rattle.gf_poly.specs.Marking.{MarkedPolynomial}
use Rattle.gf_ideal_theory.specs.Bases.{IsGreatest}
use Rattle.gf_ideal_theory.specs.NormalForms.{IsNormalForm}
use Rattle.gf_ideal_theory.specs.Operands.{IsReductionOperation, IsSPolynomialOperation, IsMonicOperation}
use Rattle.gf_ideal_theory.specs.Operands.{IsReductionExponents, IsSPolynomialExponents}
use Rattle.gf_ideal_theory.specs.Reduction.{IsSPolynomial}
use Rattle.gf_ideal_theory.specs.Settled.{IsAt}
use Rattle.gf_division.specs.Autoreduction.{IsTailOperation, IsTailExponents}
use Rattle.gf_buchberger.specs.declared.queue.Strategy.{Strategy}
use Rattle.gf_buchberger.specs.declared.queue.Waiting.{Waiting}
use Rattle.gf_buchberger.specs.Covered.{IsCovered}
use Rattle.gf_buchberger.specs.Generators.{IsEntered}
use Rattle.gf_buchberger.specs.Keys.{IsFirst}
use Rattle.gf_buchberger.specs.Pairs.{is_settled, settled_count}
use Rattle.gf_buchberger.specs.Runs.{State, with_pair, IsSettledBy}

-- there are no members and no pairs
pub record IsBare (k : Strategy) (s : State) : Type 0 where
  pub members : s.members ≡ []
  pub table : s.table ≡ record { members = 0; marks = [] }
  pub queue : s.queue ≡ []
  pub strategy : s.strategy ≡ k

-- t is s with the pairs that wait in another order
pub record IsTurned (s t : State) : Type 0 where
  pub members : t.members ≡ s.members
  pub table : t.table ≡ s.table
  pub queue : IsPermutation s.queue t.queue
  pub strategy : t.strategy ≡ s.strategy

-- the run on fs comes to the state s, once i generators have entered: each in turn; then the first of the pairs that wait is passed over, being
-- settled or covered, or it is worked off
pub data IsRuled (strategy : Strategy) (order : MonomialOrder) (fs : List Terms) : ℕ → State → Type 0 where
  start : (s : State) → IsBare strategy s → IsRuled strategy order fs 0 s
  entered : (i : ℕ) (f : Terms) (old new : State) → IsRuled strategy order fs i old → i < length fs → slice_index_or fs i f ≡ f →
      IsEntered order f old new → IsRuled strategy order fs (i + 1) new
  turned : (i : ℕ) (s t : State) → IsRuled strategy order fs i s → IsTurned s t → IsRuled strategy order fs i t
  passed : (w : Waiting) (s : State) → IsRuled strategy order fs (length fs) (with_pair w s) → IsFirst (w ∷ s.queue) w →
      (is_settled s.table w.first w.second ≡ true) ⊎ IsCovered s.members w.first w.second → IsRuled strategy order fs (length fs) s
  settled : (w : Waiting) (old new : State) → IsRuled strategy order fs (length fs) (with_pair w old) → IsFirst (w ∷ old.queue) w →
      IsSettledBy order old new w.first w.second → IsRuled strategy order fs (length fs) new

-- the pair w comes next at s
pub record IsNextPair (strategy : Strategy) (order : MonomialOrder) (fs : List Terms) (w : Waiting) (s : State) : Type 0 where
  pub ruled : IsRuled strategy order fs (length fs) (with_pair w s)
  pub first : IsFirst (w ∷ s.queue) w

-- f is what is reduced next at s: a generator, or the S-polynomial of a pair
pub data IsRuledOrigin (strategy : Strategy) (order : MonomialOrder) (fs : List Terms) (s : State) (f : Terms) : Type 0 where
  generator : (i : ℕ) → IsRuled strategy order fs i s → i < length fs → slice_index_or fs i f ≡ f → IsRuledOrigin strategy order fs s f
  pair : (w : Waiting) (b c : MarkedPolynomial) → IsNextPair strategy order fs w s → IsAt s.members w.first b → IsAt s.members w.second c →
      IsSPolynomial b c f → IsRuledOrigin strategy order fs s f

-- ---- the operations of such a run

-- the operation `op left right` is one of the run: of any reduction of what comes next, whichever members its steps are by; of an S-polynomial; of making
-- a normal form monic; or, once no pair waits, of a step at an unmarked term of a tail
pub data IsRuledOperation (strategy : Strategy) (order : MonomialOrder) (fs : List Terms) (op : Op) (left right : Fraction) : Type 0 where
  step : (s : State) (f : Terms) → IsRuledOrigin strategy order fs s f → IsReductionOperation (Contains s.members) f op left right →
      IsRuledOperation strategy order fs op left right
  s_polynomial : (w : Waiting) (s : State) (b c : MarkedPolynomial) → IsNextPair strategy order fs w s → IsAt s.members w.first b →
      IsAt s.members w.second c → IsSPolynomialOperation b c op left right → IsRuledOperation strategy order fs op left right
  monic : (s : State) (f r : Terms) (at : Exponents) → IsRuledOrigin strategy order fs s f → IsNormalForm s.members f r →
      IsGreatest (below_of order) r at → IsMonicOperation r at op left right → IsRuledOperation strategy order fs op left right
  tail : (s : State) → IsRuled strategy order fs (length fs) s → s.queue ≡ [] → IsTailOperation s.members op left right →
      IsRuledOperation strategy order fs op left right

-- the exponents `left` and `right` are added in the run
pub data IsRuledExponents (strategy : Strategy) (order : MonomialOrder) (fs : List Terms) (left right : ℕ) : Type 0 where
  step : (s : State) (f : Terms) → IsRuledOrigin strategy order fs s f → IsReductionExponents (Contains s.members) f left right →
      IsRuledExponents strategy order fs left right
  s_polynomial : (w : Waiting) (s : State) (b c : MarkedPolynomial) → IsNextPair strategy order fs w s → IsAt s.members w.first b →
      IsAt s.members w.second c → IsSPolynomialExponents b c left right → IsRuledExponents strategy order fs left right
  tail : (s : State) → IsRuled strategy order fs (length fs) s → s.queue ≡ [] → IsTailExponents s.members left right →
      IsRuledExponents strategy order fs left right

-- the budget is spent: so many pairs are settled, and the one that comes next isn't
pub record IsRuledSpent (strategy : Strategy) (order : MonomialOrder) (fs : List Terms) (budget : ℕ) : Type 0 where
  pub pair : Waiting
  pub at : State
  pub next : IsNextPair strategy order fs pair at
  pub unsettled : is_settled at.table pair.first pair.second ≡ false
  pub count : settled_count at.table ≡ budget

-- each operation of the run fits, each sum of exponents is within the range, and the budget isn't spent
pub record AreRuledRunsWithinLimits (strategy : Strategy) (order : MonomialOrder) (fs : List Terms) (budget : ℕ) : Type 0 where
  pub operations : (op : Op) (left right : Fraction) → IsRuledOperation strategy order fs op left right → Fits op left right
  pub exponents : (left right : ℕ) → IsRuledExponents strategy order fs left right → left + right < 2 ^ 31
  pub pairs : IsRuledSpent strategy order fs budget → ⊥
