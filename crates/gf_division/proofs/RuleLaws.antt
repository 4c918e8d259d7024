-- The rule of the normal form: the step that the search leads to is the rule's, it leaves less work, and its refusal is one
-- of the reduction.
-- To cite: share_along, Found, found_at, found_shares, found_divides, RuleFacts, rule_facts, rule_step, keeps_step,
-- front_irreducible, irreducible_whole, less_work, operation_more, exponents_more, reduction_refused.
use Rattle.std.specs.Prelude.{◌≡◌, ◌⊎◌, ℕ, ◌<◌, ◌^◌, Bool, true, false, List, [], ◌∷◌, ◌++◌, length, Contains, None}
use Rattle.std.specs.declared.option.Option.{Option}
use Rattle.std.specs.Ordering.{MatchOrdering}
use Rattle.std.specs.declared.cmp.Ordering.{Ordering}
use Rattle.std.specs.declared.cmp.Ordering.TheVariants.{Greater, Less, Equal}
use Rattle.std.proofs.Common.{refl, sym, ap, ◌∙◌, subst, inl, inr, get_or, append-nil}
use Rattle.gf_frac.specs.Fraction.{Fraction, neg_ℚ}
use Rattle.gf_frac.specs.declared.refusal.Op.{Op}
use Rattle.gf_frac.specs.declared.refusal.Op.TheVariants.{Add, Sub, Mul, Div}
use Rattle.gf_exponents_theory.specs.Exponents.{Exponents, same, plus, Divides, NoMultiple}
use Rattle.gf_exponents_theory.specs.Orders.{deglex, lighter, IsDeglexBelow}
use Rattle.gf_exponents_theory.proofs.ExponentsLaws.{plus_comm, same_of, same_flip, same_along}
use Rattle.gf_exponents_theory.proofs.OrderLaws.{deglex-compares, deglex-order}
use Rattle.gf_poly.specs.declared.Term.{Term}
use Rattle.gf_poly.specs.declared.TheConstants.{ROOM}
use Rattle.gf_poly.specs.declared.error.PolyError.{PolyError}
use Rattle.gf_poly.specs.declared.error.PolyError.TheVariants as errors
use Rattle.gf_poly.specs.Monomial.{IsMonomial}
use Rattle.gf_poly.specs.Polynomial.{Terms, coefficient, times, IsAbove, IsDescending, HasVariables, KeepsVariables}
use Rattle.gf_poly.specs.Marking.{MarkedPolynomial, Each}
use Rattle.gf_ideal_theory.specs.Membership.{HasMonomial}
use Rattle.gf_ideal_theory.specs.Marks.{AreMarked}
use Rattle.gf_ideal_theory.specs.Measure.{work_left}
use Rattle.gf_ideal_theory.specs.Reduction.{IsDivisible, IsIrreducible, IsStep, Reached}
use Rattle.gf_ideal_theory.specs.Operands.{IsStepOperation, IsStepExponents}
use Rattle.gf_ideal_theory.specs.Settled.{IsAt}
use Rattle.gf_ideal_theory.specs.NormalForms.{IsRuleStep}
use Rattle.gf_ideal_theory.proofs.ListLaws.{Each-++}
use Rattle.gf_ideal_theory.proofs.ListedTerms.{listed, box_of_monomial}
use Rattle.gf_ideal_theory.proofs.MeasureLaws.{work_left-at}
use Rattle.gf_division.specs.Steps.{IsStepRefusal, IsReductionRefusal}
use Rattle.gf_division.specs.Dividends.{Split, joined_terms, IsSound, IsTermInFront, DividesFirst, SharesVariables, TakesStep}
use Rattle.gf_division.specs.Reducers.{IsBeside, AreIrreducible, ShareVariables, IsReducibleFirst}
use Rattle.gf_division.proofs.DescendingParts.{descending-back, variables-back}
use Rattle.gf_division.proofs.DividendLaws.{first_head, first_length}
use Rattle.gf_division.proofs.ReducerLaws.{members_equal, member_contained}
pub use Rattle.gf_ideal_theory.proofs.DividingLaws.{divisible_along}

-- ---- after a search

pub sound_same : (n : ℕ) (s t : Split) → joined_terms t ≡ joined_terms s → IsSound n s → IsSound n t
sound_same n s t e h = record { descending = subst IsDescending (sym e) h.descending; variables = subst (HasVariables n) (sym e) h.variables }

pub share_along : (s t : Split) (bs : List MarkedPolynomial) (spared : Option Exponents) → joined_terms t ≡ joined_terms s → ShareVariables s bs spared →
    ShareVariables t bs spared
share_along s t bs spared e v = record { n = v.n; sound = sound_same v.n s t e v.sound; members = v.members; spare = v.spare }

-- the step at the first term below the index, by the member b at the index j
pub record Found (bs : List MarkedPolynomial) (spared : Option Exponents) (s : Split) (j : ℕ) (b : MarkedPolynomial) : Type 0 where
  pub term : Term
  pub is : IsTermInFront s.below term
  pub at : IsAt bs j b
  pub divides : Divides b.head term.mono
  pub first : (i : ℕ) (c : MarkedPolynomial) → i < j → IsAt bs i c → Divides c.head term.mono → ⊥
  pub head : length b.head ≡ length term.mono
  pub poly : HasVariables (length b.head) b.poly
  pub beside : IsBeside spared term.mono
  pub monomial : IsMonomial term.mono
  pub variables : ShareVariables s bs spared

pub found_at : (bs : List MarkedPolynomial) (spared : Option Exponents) (s : Split) (j : ℕ) (b : MarkedPolynomial) → b ≡ get_or bs j b →
    ShareVariables s bs spared → IsReducibleFirst bs spared s j → Found bs spared s j b
found_at bs spared s j b e v r =
    let d = r.divisor in
    let q : IsAt bs j b = record { within = d.at.within; is = sym e } in
    let m : d.member ≡ b = members_equal bs j d.member b d.at q in
    let l : length b.head ≡ length r.term.mono = ap (λ (c : MarkedPolynomial). length c.head) (sym m) ∙ d.head in
    record {
      term = r.term;
      is = r.is;
      at = q;
      divides = subst (λ (c : MarkedPolynomial). Divides c.head r.term.mono) m d.divides;
      first = d.first;
      head = l;
      poly = subst (λ (n : ℕ). HasVariables n b.poly) (sym l) (subst (λ (c : MarkedPolynomial). HasVariables (length r.term.mono) c.poly) m d.poly);
      beside = r.beside;
      monomial = r.monomial;
      variables = v;
    }

-- so the step may be taken
pub found_shares : (bs : List MarkedPolynomial) (spared : Option Exponents) (s : Split) (j : ℕ) (b : MarkedPolynomial) → Found bs spared s j b →
    SharesVariables b s
found_shares bs spared s j b k = record {
  n = k.variables.n;
  sound = k.variables.sound;
  poly = subst (λ (n : ℕ). HasVariables n b.poly) (k.head ∙ first_length k.variables.n s k.term k.variables.sound k.is) k.poly;
}

pub found_divides : (bs : List MarkedPolynomial) (spared : Option Exponents) (s : Split) (j : ℕ) (b : MarkedPolynomial) → Found bs spared s j b →
    DividesFirst b.head s.below
found_divides bs spared s j b k = record { term = k.term; first = k.is; divides = k.divides }

-- the same, and no term above the index can be divided
pub record RuleFacts (bs : List MarkedPolynomial) (spared : Option Exponents) (s : Split) (j : ℕ) (b : MarkedPolynomial) : Type 0 where
  pub found : Found bs spared s j b
  pub above : AreIrreducible bs spared s.above

pub rule_facts : (bs : List MarkedPolynomial) (spared : Option Exponents) (old s : Split) (j : ℕ) (b : MarkedPolynomial) → b ≡ get_or bs j b →
    ShareVariables old bs spared → joined_terms s ≡ joined_terms old → AreIrreducible bs spared s.above → IsReducibleFirst bs spared s j →
    RuleFacts bs spared s j b
rule_facts bs spared old s j b e v t a r = record { found = found_at bs spared s j b e (share_along old s bs spared t v) r; above = a }

-- ---- the step is one of the rule

-- below x in a descending list
below_first : (n : ℕ) (x y : Exponents) → length x ≡ n → length y ≡ n → deglex x y ≡ Greater → IsDeglexBelow y x
below_first n x y l m g = at (deglex x y) (deglex-compares x y (l ∙ sym m)) g
  where
    at : (o : Ordering) → MatchOrdering o (IsDeglexBelow x y) (x ≡ y) (IsDeglexBelow y x) → o ≡ Greater → IsDeglexBelow y x
    at Less h e = absurd (cc)
    at Equal h e = absurd (cc)
    at Greater h e = h

-- no multiple, where it doesn't divide
pub no_multiple : (h x : Exponents) → (Divides h x → ⊥) → NoMultiple h x
no_multiple h x n rest = at (same x (plus h rest)) refl
  where
    at : (b : Bool) → same x (plus h rest) ≡ b → b ≡ false
    at false e = refl
    at true e = absurd (n (record { rest = rest; product = ap (same x) (plus_comm rest h) ∙ e }))

-- where a listed term can be divided, it is that at x or one below it
pub greatest_divisible : (bs : List MarkedPolynomial) (s : Split) (n : ℕ) (t : Term) → IsSound n s → IsTermInFront s.below t → AreIrreducible bs None s.above →
    (x : Exponents) → HasMonomial (joined_terms s) x → IsDivisible (Contains bs) x → (same x t.mono ≡ true) ⊎ IsDeglexBelow x t.mono
greatest_divisible bs s n t h f a x m d = onto (listed Q (joined_terms s) x (Each-++ Q s.above s.below (above s.above a) below) m)
  where
    Q : Term → Type 0
    Q r = IsDivisible (Contains bs) r.mono → (same r.mono t.mono ≡ true) ⊎ IsDeglexBelow r.mono t.mono

    above : (g : Terms) → AreIrreducible bs None g → Each Q g
    above [] k = tt
    above (r ∷ g) k = (λ q. absurd (k.0 tt q), above g k.1)

    later : (g : Terms) → HasVariables n g → IsAbove t.mono g → Each Q g
    later [] v b = tt
    later (r ∷ g) v b = (λ q. inr (below_first n t.mono r.mono (first_length n s t h f) v.0 b.0), later g v.1 b.1)

    below : Each Q s.below
    below = subst (Each Q) (sym f.is) (
      λ q. inl (same_of t.mono t.mono refl),
      later f.rest (subst (HasVariables n) f.is (variables-back n s.above s.below h.variables)).1
          (subst IsDescending f.is (descending-back s.above s.below h.descending)).1,
    )

    onto : (r : Term) × Q r × (same x r.mono ≡ true) → (same x t.mono ≡ true) ⊎ IsDeglexBelow x t.mono
    onto r = along (r.1 (divisible_along (Contains bs) x r.0.mono r.2 d))
      where
        along : (same r.0.mono t.mono ≡ true) ⊎ IsDeglexBelow r.0.mono t.mono → (same x t.mono ≡ true) ⊎ IsDeglexBelow x t.mono
        along (inl e) = inl (same_along x r.0.mono t.mono r.2 ∙ e)
        along (inr l) = inr (deglex-order.strict.along_left r.0.mono x t.mono (same_flip x r.0.mono r.2) l)

-- the step that was taken, as one by the list
abbrev pub step_by : (bs : List MarkedPolynomial) (spared : Option Exponents) (s t : Split) (j : ℕ) (b : MarkedPolynomial) (q : Term) → Found bs spared s j b →
    TakesStep b s q t → IsStep (Contains bs) (joined_terms s) (joined_terms t)
step_by bs spared s t j b q k w =
    let e = first_head s.below k.term k.is in
    record {
      at = k.term.mono;
      member = b;
      rest = q.mono;
      contained = member_contained bs j b k.at;
      there = λ z. w.there (sym w.coefficient_is ∙ ap (coefficient (joined_terms s)) (sym e) ∙ z);
      divides = same_of k.term.mono (plus q.mono b.head) (e ∙ sym w.product);
      equal = λ y. w.same y ∙ ap (λ c. coefficient (joined_terms s ++ times (neg_ℚ c) q.mono b.poly) y)
          (sym (ap (coefficient (joined_terms s)) e ∙ w.coefficient_is));
    }

abbrev pub rule_step : (bs : List MarkedPolynomial) (s t : Split) (j : ℕ) (b : MarkedPolynomial) (q : Term) → RuleFacts bs None s j b → TakesStep b s q t →
    IsRuleStep bs (joined_terms s) (joined_terms t)
rule_step bs s t j b q r w =
    let k = r.found in
    let p = step_by bs None s t j b q k w in
    record {
      at = p.at;
      index = j;
      member = b;
      rest = q.mono;
      contained = k.at;
      there = p.there;
      divides = p.divides;
      first = λ i c l m. no_multiple c.head k.term.mono (k.first i c l m);
      greatest = greatest_divisible bs s k.variables.n k.term k.variables.sound k.is r.above;
      equal = p.equal;
    }

-- ---- what is kept

-- the irreducible terms above the index that stay
pub front_irreducible : (bs : List MarkedPolynomial) (spared : Option Exponents) (f g h : Terms) → h ≡ f ++ g → AreIrreducible bs spared h →
    AreIrreducible bs spared f
front_irreducible bs spared f g h e a = front f (subst (AreIrreducible bs spared) e a)
  where
    front : (f : Terms) → AreIrreducible bs spared (f ++ g) → AreIrreducible bs spared f
    front [] a = tt
    front (t ∷ f) a = (a.0, front f a.1)

pub share_step : (bs : List MarkedPolynomial) (spared : Option Exponents) (s t : Split) (j : ℕ) (b : MarkedPolynomial) (q : Term) → Found bs spared s j b →
    TakesStep b s q t → ShareVariables t bs spared
share_step bs spared s t j b q k w = record {
  n = k.variables.n;
  sound = w.sound k.variables.n k.variables.sound;
  members = k.variables.members;
  spare = k.variables.spare;
}

pub keeps_step : (bs : List MarkedPolynomial) (spared : Option Exponents) (f : Terms) (s t : Split) (j : ℕ) (b : MarkedPolynomial) (q : Term) →
    Found bs spared s j b → TakesStep b s q t → KeepsVariables f (joined_terms s) → KeepsVariables f (joined_terms t)
keeps_step bs spared f s t j b q k w v = record {
  at = λ n h. (w.sound n (record { descending = k.variables.sound.descending; variables = v.at n h })).variables;
}

pub keeps_along : (f g h : Terms) → h ≡ g → KeepsVariables f g → KeepsVariables f h
keeps_along f g h e v = record { at = λ n a. subst (HasVariables n) (sym e) (v.at n a) }

-- no listed term, so no monomial, can be divided
pub irreducible_whole : (bs : List MarkedPolynomial) (f : Terms) → AreIrreducible bs None f → IsIrreducible (Contains bs) f
irreducible_whole bs f a x m d = onto (listed (λ (t : Term). Unit {0} → IsDivisible (Contains bs) t.mono → ⊥) f x a m)
  where
    onto : (t : Term) × (Unit {0} → IsDivisible (Contains bs) t.mono → ⊥) × (same x t.mono ≡ true) → ⊥
    onto r = r.1 tt (divisible_along (Contains bs) x r.0.mono r.2 d)

-- nothing is below the index
pub all_above : (s : Split) → s.below ≡ [] → joined_terms s ≡ s.above
all_above s e = ap (λ (z : Terms). s.above ++ z) e ∙ append-nil s.above

-- ---- less work

pub less_work : (bs : List MarkedPolynomial) (spared : Option Exponents) (w : List ℕ) (s t : Split) (j : ℕ) (b : MarkedPolynomial) (q : Term) →
    AreMarked (lighter w) bs → Found bs spared s j b → TakesStep b s q t → work_left (2 ^ 31) ROOM bs (joined_terms t) < work_left (2 ^ 31) ROOM bs
    (joined_terms s)
less_work bs spared w s t j b q m k h = work_left-at (2 ^ 31) ROOM w bs (joined_terms s) (joined_terms t) m (step_by bs spared s t j b q k h)
    (box_of_monomial k.term.mono k.monomial)

-- ---- refusals

-- the operations of steps by some members are those by more
pub operation_more : (by kept : MarkedPolynomial → Type 0) → ((b : MarkedPolynomial) → by b → kept b) →
    (f : Terms) (x : Exponents) (op : Op) (left right : Fraction) → IsStepOperation by f x op left right → IsStepOperation kept f x op left right
operation_more by kept w f x Add left right h = absurd h
operation_more by kept w f x Sub left right h = record {
  member = h.member;
  rest = h.rest;
  index = record { contained = w h.member h.index.contained; there = h.index.there; divides = h.index.divides };
  exponents = h.exponents;
  is_left = h.is_left;
  is_right = h.is_right;
}
operation_more by kept w f x Mul left right h = record {
  member = h.member;
  rest = h.rest;
  index = record { contained = w h.member h.index.contained; there = h.index.there; divides = h.index.divides };
  exponents = h.exponents;
  operands = h.operands;
}
operation_more by kept w f x Div left right h = absurd h

pub exponents_more : (by kept : MarkedPolynomial → Type 0) → ((b : MarkedPolynomial) → by b → kept b) → (f : Terms) (x : Exponents) (left right : ℕ) →
    IsStepExponents by f x left right → IsStepExponents kept f x left right
exponents_more by kept w f x left right h = record {
  member = h.member;
  rest = h.rest;
  index = record { contained = w h.member h.index.contained; there = h.index.there; divides = h.index.divides };
  sum = h.sum;
}

-- the one member is in the list
pub only : (bs : List MarkedPolynomial) (b : MarkedPolynomial) → Contains bs b → (c : MarkedPolynomial) → c ≡ b → Contains bs c
only bs b h c e = subst (λ (d : MarkedPolynomial). Contains bs d) (sym e) h

pub reduction_refused : (bs : List MarkedPolynomial) (f g : Terms) (b : MarkedPolynomial) (x : Exponents) (e : PolyError) → Reached (Contains bs) f g →
    Contains bs b → IsStepRefusal g b x e → IsReductionRefusal bs f e
reduction_refused bs f g b x (errors.Overflow o) r c h = (
  record {
    from = g;
    reached = r;
    at = x;
    operation = operation_more (λ (d : MarkedPolynomial). d ≡ b) (Contains bs) (only bs b c) g x o.op o.left o.right h.0;
  },
  h.1,
)
reduction_refused bs f g b x (errors.Exponent o) r c h = (
  record {
    from = g;
    reached = r;
    at = x;
    sum = exponents_more (λ (d : MarkedPolynomial). d ≡ b) (Contains bs) (only bs b c) g x o.left o.right h.0;
  },
  h.1,
)
reduction_refused bs f g b x errors.Memory r c h = tt
