-- Where Buchberger's algorithm stands: the list of members, the marks of their pairs, the pairs that wait.
-- Laws: proofs/RunLaws.antt. Source: Becker, Weispfenning, Gröbner Bases, 5.5 (criteria, and what settles a pair).
use Rattle.std.specs.Prelude.{◌≡◌, ◌≢◌, ◌⊎◌, ℕ, ◌+◌, ◌<◌, ◌≤◌, true, List, [], ◌∷◌, ◌++◌, length, Contains, MatchOption}
use Rattle.std.specs.declared.option.Option.{Option}
use Rattle.gf_frac.specs.Fraction.{Fraction}
use Rattle.gf_frac.specs.declared.refusal.Op.{Op}
use Rattle.gf_exponents_theory.specs.Exponents.{Exponents, AreCoprime, Divides, join}
use Rattle.gf_exponents_theory.specs.SixOrders.{MonomialOrder, below_of}
use Rattle.gf_order.specs.Comparisons.{HasEntries}
use Rattle.gf_poly.specs.declared.error.PolyError.{PolyError}
use Rattle.gf_poly.specs.Polynomial.{Terms, HasVariables}
use Rattle.gf_poly.specs.Marking.{MarkedPolynomial}
use Rattle.gf_poly.specs.Refusals.{IsRefusedBy, NoSum, UnlessMemory}
use Rattle.gf_ideal_theory.specs.Marks.{IsMarked}
use Rattle.gf_ideal_theory.specs.NormalForms.{IsNormalForm}
use Rattle.gf_ideal_theory.specs.Reduction.{IsMonicForm, IsSPolynomial, HasOneMonomial}
use Rattle.gf_division.specs.Remainders.{IsRemainder}
use Rattle.gf_ideal_theory.specs.Bases.{IsGreatest}
use Rattle.gf_ideal_theory.specs.Operands.{IsMonicOperation}
use Rattle.gf_ideal_theory.specs.Settled.{IsAt, IsSettledPair}
use Rattle.gf_ideal_theory.specs.WorkLists.{IsWorkList}
use Rattle.gf_division.specs.NormalForms.{HasSomeWeight}
use Rattle.gf_division.specs.Steps.{IsReductionRefusal}
use Rattle.gf_division.specs.SPolynomials.{IsMonicPairRefusal}
use Rattle.gf_buchberger.specs.declared.runs.Run.{Run}
use Rattle.gf_buchberger.specs.declared.queue.Waiting.{Waiting}
use Rattle.gf_buchberger.specs.declared.queue.Strategy.{Strategy}
use Rattle.gf_buchberger.specs.Keys.{IsKeyOf}
use Rattle.gf_buchberger.specs.Tasks.{IsBasisTask}
use Rattle.gf_buchberger.specs.Covered.{IsCovered}
use Rattle.gf_buchberger.specs.Pairs.{PairMarks, IsPairTable, is_settled, with_settled, with_member}

-- ---- members

-- the members and their marks have n variables
pub record MembersHaveVariables (n : ℕ) (bs : List MarkedPolynomial) : Type 0 where
  pub heads : (b : MarkedPolynomial) → Contains bs b → length b.head ≡ n
  pub polys : (b : MarkedPolynomial) → Contains bs b → HasVariables n b.poly

-- they have some number of variables
pub record MembersHaveSomeVariables (bs : List MarkedPolynomial) : Type 0 where
  pub n : ℕ
  pub each : MembersHaveVariables n bs

-- so has the weight of the order, where it has one
pub record AreComparable (order : MonomialOrder) (bs : List MarkedPolynomial) : Type 0 where
  pub n : ℕ
  pub each : MembersHaveVariables n bs
  pub entries : HasEntries n order

-- the same; and some weight sets each mark above the rest, so that they reduce
pub record AreReducers (order : MonomialOrder) (bs : List MarkedPolynomial) : Type 0 where
  pub n : ℕ
  pub each : MembersHaveVariables n bs
  pub entries : HasEntries n order
  pub weight : HasSomeWeight bs

-- ---- the state

-- the members, the marks of their pairs, the pairs that wait, and which of these come first
pub record State : Type 0 where
  pub members : List MarkedPolynomial
  pub table : PairMarks
  pub queue : List Waiting
  pub strategy : Strategy

-- the state of a run of the program
abbrev pub state_of : Run → State
state_of r = record { members = r.members.items; table = r.table; queue = r.queue; strategy = r.strategy }

-- the pair of i and j waits
pub record IsWaiting (queue : List Waiting) (i j : ℕ) : Type 0 where
  pub pair : Waiting
  pub contained : Contains queue pair
  pub first : pair.first ≡ i
  pub second : pair.second ≡ j

-- there is a mark for each pair, and each pair that waits is one of two members
pub record IsState (s : State) : Type 0 where
  pub table : IsPairTable s.table
  pub size : s.table.members ≡ length s.members
  pub valid : (w : Waiting) → Contains s.queue w → (w.first < w.second) × (w.second < length s.members)

-- a state of a run on fs in n variables by the order: a work list, whose pairs are settled where the marks say so, and else wait or are covered
pub record IsRun (order : MonomialOrder) (n : ℕ) (fs : List Terms) (s : State) : Type 0 where
  pub work : IsWorkList fs (below_of order) s.members
  pub variables : MembersHaveVariables n s.members
  pub state : IsState s
  pub settled : (i j : ℕ) (b c : MarkedPolynomial) → i < j → IsAt s.members i b → IsAt s.members j c → is_settled s.table i j ≡ true →
      IsSettledPair n s.members (below_of order) b c
  pub waiting : (i j : ℕ) → i < j → j < length s.members → (is_settled s.table i j ≡ true) ⊎ IsWaiting s.queue i j ⊎ IsCovered s.members i j

-- the state with one pair more that waits
abbrev pub with_pair : Waiting → State → State
with_pair w s = record { members = s.members; table = s.table; queue = w ∷ s.queue; strategy = s.strategy }

-- ---- a new member

-- m is the least common multiple of the marks at i and j
abbrev pub IsMultipleOf : List MarkedPolynomial → ℕ → ℕ → Exponents → Type 0
IsMultipleOf bs i j m = (b c : MarkedPolynomial) → IsAt bs i b → IsAt bs j c → m ≡ join b.head c.head

-- w waits by the key of the marks of its members
pub record IsKeyed (strategy : Strategy) (order : MonomialOrder) (bs : List MarkedPolynomial) (w : Waiting) : Type 0 where
  pub multiple : Exponents
  pub is : IsMultipleOf bs w.first w.second multiple
  pub key : IsKeyOf strategy order multiple w.key

-- of the pairs of the first k members of bs with that at `second` the queue has gained those that aren't covered, by their keys, and nothing
-- else; a covered pair may have been added, too
pub record PairsPushed (strategy : Strategy) (order : MonomialOrder) (bs : List MarkedPolynomial) (old new : List Waiting) (k second : ℕ) : Type 0 where
  pub kept : (w : Waiting) → Contains old w → Contains new w
  pub added : (i : ℕ) → i < k → IsWaiting new i second ⊎ IsCovered bs i second
  pub only : (w : Waiting) → Contains new w → Contains old w ⊎ ((w.first < k) × (w.second ≡ second))
  pub keyed : (w : Waiting) → Contains new w → Contains old w ⊎ IsKeyed strategy order bs w
  pub count : length new ≤ length old + k

-- the monic form of r, marked at its greatest monomial, is the last member now, and its pairs wait or are covered
pub record IsAppended (order : MonomialOrder) (r : Terms) (old new : State) : Type 0 where
  pub member : MarkedPolynomial
  pub monic : IsMonicForm r member
  pub marked : IsMarked (below_of order) member
  pub poly : (n : ℕ) → HasVariables n r → HasVariables n member.poly
  pub head : (n : ℕ) → HasVariables n r → length member.head ≡ n
  pub members : new.members ≡ old.members ++ member ∷ []
  pub table : new.table ≡ with_member old.table
  pub pairs : PairsPushed new.strategy order new.members old.queue new.queue (length old.members) (length old.members)
  pub strategy : new.strategy ≡ old.strategy

-- the new member has the variables of the members, and the weight of the order, where it has one, as many entries
pub record IsJoinable (order : MonomialOrder) (b : MarkedPolynomial) (bs : List MarkedPolynomial) : Type 0 where
  pub n : ℕ
  pub head : length b.head ≡ n
  pub poly : HasVariables n b.poly
  pub members : MembersHaveVariables n bs
  pub entries : HasEntries n order

-- b is the last member now, and its pairs wait or are covered
pub record IsJoined (order : MonomialOrder) (b : MarkedPolynomial) (old new : State) : Type 0 where
  pub members : new.members ≡ old.members ++ b ∷ []
  pub table : new.table ≡ with_member old.table
  pub pairs : PairsPushed new.strategy order new.members old.queue new.queue (length old.members) (length old.members)
  pub strategy : new.strategy ≡ old.strategy

-- what is left is the last member now; where nothing is, the state is as before
abbrev pub IsTakenUp : MonomialOrder → Option MarkedPolynomial → State → State → Type 0
IsTakenUp order left old new = MatchOption left (new ≡ old) (λ b. IsJoined order b old new)

-- b is the monic form of r, marked at its greatest monomial
pub record IsNewMember (order : MonomialOrder) (r : Terms) (b : MarkedPolynomial) : Type 0 where
  pub monic : IsMonicForm r b
  pub marked : IsMarked (below_of order) b
  pub poly : (n : ℕ) → HasVariables n r → HasVariables n b.poly
  pub head : (n : ℕ) → HasVariables n r → length b.head ≡ n

-- what is left of r: nothing where it is zero, else its monic form
abbrev pub IsLeftMember : MonomialOrder → Terms → Option MarkedPolynomial → Type 0
IsLeftMember order r left = MatchOption left (r ≡ []) (λ b. (r ≢ []) × IsNewMember order r b)

-- r has the same variables as the members, and the weight of the order, where it has one
pub record IsAppendable (order : MonomialOrder) (r : Terms) (bs : List MarkedPolynomial) : Type 0 where
  pub n : ℕ
  pub poly : HasVariables n r
  pub members : MembersHaveVariables n bs
  pub entries : HasEntries n order

-- the operation divides a coefficient of r by that of its greatest monomial
abbrev pub IsAppendOperation : MonomialOrder → Terms → Op → Fraction → Fraction → Type 0
IsAppendOperation order r op left right = (at : Exponents) × IsGreatest (below_of order) r at × IsMonicOperation r at op left right

-- why r isn't appended: such a quotient doesn't fit
abbrev pub IsAppendRefusal : MonomialOrder → Terms → PolyError → Type 0
IsAppendRefusal order r = IsRefusedBy (IsAppendOperation order r) NoSum

-- ---- criteria

-- the pair of the members at p and q counts as settled: its mark says so, or the marked monomials are coprime
abbrev pub CountsAsSettled : State → ℕ → ℕ → Type 0
CountsAsSettled s p q = ((p < q) × (is_settled s.table p q ≡ true)) ⊎ ((q < p) × (is_settled s.table q p ≡ true)) ⊎ ((b c : MarkedPolynomial) →
    IsAt s.members p b → IsAt s.members q c → AreCoprime b.head c.head)

-- the mark of a third member divides the least common multiple of the marks, and its pairs with both count as settled
pub record IsChain (s : State) (i j k : ℕ) : Type 0 where
  pub inside : k < length s.members
  pub divides : (b c d : MarkedPolynomial) → IsAt s.members i b → IsAt s.members j c → IsAt s.members k d → Divides d.head (join b.head c.head)
  pub left : CountsAsSettled s i k
  pub right : CountsAsSettled s k j

-- those of a state
abbrev pub IsMultipleAt : State → ℕ → ℕ → Exponents → Type 0
IsMultipleAt s i j m = IsMultipleOf s.members i j m

-- the members at i and j have one monomial each
abbrev pub AreSingleAt : State → ℕ → ℕ → Type 0
AreSingleAt s i j = (b c : MarkedPolynomial) → IsAt s.members i b → IsAt s.members j c → HasOneMonomial b × HasOneMonomial c

-- the pair needs no reduction: the marks are coprime, both members have one monomial, or there is a chain
abbrev pub IsExcused : State → ℕ → ℕ → Type 0
IsExcused s i j = ((b c : MarkedPolynomial) → IsAt s.members i b → IsAt s.members j c → AreCoprime b.head c.head) ⊎ AreSingleAt s i j ⊎
    ((k : ℕ) × IsChain s i j k)

-- ---- one pair

-- r is the normal form by the members of the S-polynomial of those at i and j: zero, and the state is as before, or a new
-- member
pub record IsReducedPair (order : MonomialOrder) (old new : State) (i j : ℕ) : Type 0 where
  pub b : MarkedPolynomial
  pub c : MarkedPolynomial
  pub at_i : IsAt old.members i b
  pub at_j : IsAt old.members j c
  pub s : Terms
  pub is_s : IsSPolynomial b c s
  pub r : Terms
  pub normal : IsRemainder old.members s r
  pub rule : IsNormalForm old.members s r
  pub variables : (n : ℕ) → MembersHaveVariables n old.members → HasVariables n r
  pub left : ((r ≡ []) × (new ≡ old)) ⊎ ((r ≢ []) × IsAppended order r old new)

-- what is left of the S-polynomial of the members of bs at i and j
pub record IsLeftOfMembers (order : MonomialOrder) (bs : List MarkedPolynomial) (i j : ℕ) (left : Option MarkedPolynomial) : Type 0 where
  pub b : MarkedPolynomial
  pub c : MarkedPolynomial
  pub at_i : IsAt bs i b
  pub at_j : IsAt bs j c
  pub s : Terms
  pub is_s : IsSPolynomial b c s
  pub r : Terms
  pub normal : IsRemainder bs s r
  pub rule : IsNormalForm bs s r
  pub variables : (n : ℕ) → MembersHaveVariables n bs → HasVariables n r
  pub is_left : IsLeftMember order r left

-- those of a state
abbrev pub IsLeftOfPair : MonomialOrder → State → ℕ → ℕ → Option MarkedPolynomial → Type 0
IsLeftOfPair order at i j = IsLeftOfMembers order at.members i j

-- the pair is excused, and nothing was done, or it was reduced
abbrev pub IsPairWorkedOff : MonomialOrder → State → State → ℕ → ℕ → Type 0
IsPairWorkedOff order old new i j = (IsExcused old i j × (new ≡ old)) ⊎ IsReducedPair order old new i j

-- the pair is worked off, and marked as settled
pub record IsSettledBy (order : MonomialOrder) (old new : State) (i j : ℕ) : Type 0 where
  pub middle : State
  pub worked : IsPairWorkedOff order old middle i j
  pub members : new.members ≡ middle.members
  pub table : new.table ≡ with_settled middle.table i j
  pub queue : new.queue ≡ middle.queue
  pub strategy : new.strategy ≡ middle.strategy

-- where a pair is refused: at its S-polynomial, at the reduction of that, or in making what is left monic
pub data IsRefusedPair (order : MonomialOrder) (s : State) (i j : ℕ) (e : PolyError) : Type 0 where
  s_polynomial : (b c : MarkedPolynomial) → IsAt s.members i b → IsAt s.members j c → IsMonicPairRefusal b c e → IsRefusedPair order s i j e
  reduction : (b c : MarkedPolynomial) (f : Terms) → IsAt s.members i b → IsAt s.members j c → IsSPolynomial b c f → IsReductionRefusal s.members f e →
      IsRefusedPair order s i j e
  monic : (b c : MarkedPolynomial) (f r : Terms) → IsAt s.members i b → IsAt s.members j c → IsSPolynomial b c f → IsRemainder s.members f r →
      IsNormalForm s.members f r → IsAppendRefusal order r e → IsRefusedPair order s i j e

-- the same, unless there is no memory
abbrev pub IsSettlingRefusal : MonomialOrder → State → ℕ → ℕ → PolyError → Type 0
IsSettlingRefusal order s i j = UnlessMemory (IsRefusedPair order s i j)

-- ---- all pairs

-- some generators, in some number of variables, on which the order is good, have a run that is at s
pub record IsSomeRun (order : MonomialOrder) (s : State) : Type 0 where
  pub n : ℕ
  pub fs : List Terms
  pub task : IsBasisTask order n fs
  pub run : IsRun order n fs s
