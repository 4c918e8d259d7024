-- Many steps at once: what is between the ends of a chain, and that its steps lead from one end to the other.
-- To cite: chain_leads, jump_leads, jumped-none; IsAlongUpTo, along-start, along-more, along-end, missed_at, missed-more, pair_at, turned_odd, turned_even,
-- turned_at_one, turned_else, over_rest, over_none; jumped_found, jumped_step, jumped_front, jumped_less, jumped_refused; strode, strode_less, strode_by_rule.
use Rattle.std.specs.Prelude.{◌≡◌, ◌≢◌, ◌⊎◌, ℕ, zero, suc, ◌+◌, ◌*◌, ◌-◌, ◌%◌, ◌<◌, ◌≤◌, ◌^◌, Bool, true, false, if◌then◌else◌, List, [], ◌∷◌, ◌++◌}
use Rattle.std.specs.Prelude.{length, reverse, Contains, Some, None}
use Rattle.std.specs.declared.option.Option.{Option}
use Rattle.std.specs.declared.cmp.Ordering.{Ordering}
use Rattle.std.specs.declared.cmp.Ordering.TheVariants.{Less, Equal, Greater}
use Rattle.std.specs.Ordering.{MatchOrdering}
use Rattle.std.proofs.Common.{arith, refl, sym, ap, ◌∙◌, subst, inl, inr, get_or}
use Rattle.std.proofs.lemmas.Bool.{cases_lt}
use Rattle.std.proofs.lemmas.List.{get_or-reverse, length-reverse, reverse-append}
use Rattle.gf_int_theory.specs.Integers.{diff-eq, naturals}
use Rattle.gf_frac.specs.Fraction.{Fraction, over-eq, ◌+ℚ◌, ◌*ℚ◌, neg_ℚ, zero_ℚ, one_ℚ}
use Rattle.gf_frac.proofs.FractionLaws.{overs, each_q, dens, neg_ℚ-*ℚ, neg_ℚ-neg_ℚ, *ℚ-one, *ℚ-neg_ℚ, +ℚ-zero, zero-+ℚ, +ℚ-neg_ℚ, +ℚ_comm}
use Rattle.gf_exponents_theory.specs.Exponents.{Exponents, entry, same, plus, minus, Divides, NoMultiple}
use Rattle.gf_exponents_theory.specs.Orders.{deglex, lighter, IsDeglexBelow}
use Rattle.gf_exponents_theory.proofs.ExponentsLaws.{entry-plus, entry-minus, entry-get_or, entry-past, entries_same, same_by_entries, same_flip, same_along}
use Rattle.gf_exponents_theory.proofs.ExponentsLaws.{same-refl, same-sym, same_trans, same_shift, same_lists, plus_comm}
use Rattle.gf_exponents_theory.proofs.OrderLaws.{deglex-compares, deglex-order}
use Rattle.gf_poly.specs.declared.Term.{Term}
use Rattle.gf_poly.specs.declared.TheConstants.{ROOM}
use Rattle.gf_poly.specs.declared.error.PolyError.{PolyError}
use Rattle.gf_poly.specs.Monomial.{IsMonomial}
use Rattle.gf_poly.specs.Polynomial.{Terms, coefficient, SamePolynomial, times, IsAbove, IsDescending, HasVariables}
use Rattle.gf_poly.specs.Marking.{MarkedPolynomial, head_of}
use Rattle.gf_poly.proofs.PolynomialLaws.{coefficient-++}
use Rattle.gf_poly.proofs.CoefficientLaws.{apart_above, apart_below}
use Rattle.gf_poly.proofs.DescendingLaws.{AllAbove, AllAbove-rest, IsAbove-from}
use Rattle.gf_poly.proofs.MonomialLaws.{length-plus, length-minus, entries_by_divides}
use Rattle.gf_ideal_theory.specs.Marks.{AreMarked}
use Rattle.gf_ideal_theory.specs.Measure.{work_left, IsInBox}
use Rattle.gf_ideal_theory.specs.Membership.{HasMonomial}
use Rattle.gf_ideal_theory.specs.Reduction.{IsStep}
use Rattle.gf_ideal_theory.specs.Settled.{IsAt}
use Rattle.gf_ideal_theory.proofs.ListedTerms.{box_of_monomial}
use Rattle.gf_ideal_theory.proofs.MeasureLaws.{work_left-at}
use Rattle.gf_division.specs.Dividends.{Split, joined_terms, IsSound, IsTermInFront, AreOver, TakesStep}
use Rattle.gf_division.specs.Reducers.{IsFirstFor, IsBeside, IsSpareIn, IsReducibleFirst, AreIrreducible, ShareVariables}
use Rattle.gf_division.specs.Remainders.{ReachedBeside, IsWorkedOn, IsWorkRefusal}
use Rattle.gf_division.specs.Steps.{IsStepRefusal}
use Rattle.gf_division.specs.Chains.{IsUnit, IsPair, marked_term, AreAlong, turned, IsMissed, AreMissed, IsSpareOutside, IsOverRest, HasRoom}
use Rattle.gf_division.specs.Chains.{IsReplaced, IsJump, IsJumped, LeavesNoMore, LeavesLess, IsFrontOf}
use Rattle.gf_division.proofs.DescendingParts.{descending-front, descending-back, descending-across, descending-join}
use Rattle.gf_division.proofs.DescendingParts.{variables-front, variables-back, variables-join, coefficient-midst}
use Rattle.gf_division.proofs.ReducerLaws.{member_contained, member_variables, members_equal}
use Rattle.gf_division.proofs.RuleLaws.{Found, found_at, front_irreducible}
use Rattle.gf_division.proofs.RemainderLaws.{reached_along, worked-none, worked-more, worked-same, worked_along, less_found, work_refused, Working}

-- ---- numbers

-- at most as great, times the same
scaled : (k a b : ℕ) → a ≤ b → k * a ≤ k * b
scaled zero a b h = omega arith
scaled (suc k) a b h = omega (arith, scaled k a b h)

-- the coefficient after k steps: it changes its sign at each where the other one is 1, and else it stays
turned-minus : (k : ℕ) (c : Fraction) → turned (neg_ℚ one_ℚ) k c ≡ c
turned-minus zero c = refl
turned-minus (suc k) c = ap (turned (neg_ℚ one_ℚ) k) (ap neg_ℚ (*ℚ-neg_ℚ c one_ℚ ∙ ap neg_ℚ (*ℚ-one c)) ∙ neg_ℚ-neg_ℚ c) ∙ turned-minus k c

turned-one : (k : ℕ) (c : Fraction) → (k % 2 ≡ 0 → turned one_ℚ k c ≡ c) × (k % 2 ≡ 1 → turned one_ℚ k c ≡ neg_ℚ c)
turned-one zero c = (λ e. refl, λ e. absurd (omega (arith, e)))
turned-one (suc k) c =
    let r = turned-one k (neg_ℚ (c *ℚ one_ℚ)) in
    (λ e. r.1 (omega (arith, e)) ∙ neg_ℚ-neg_ℚ (c *ℚ one_ℚ) ∙ *ℚ-one c, λ e. r.0 (omega (arith, e)) ∙ ap neg_ℚ (*ℚ-one c))

-- ---- exponents between the ends

-- the exponents after one step
abbrev pub next_of : Exponents → Exponents → Exponents → Exponents
next_of l t x = plus (minus x l) t

entry-next : (l t x : Exponents) (i : ℕ) → entry (next_of l t x) i ≡ entry x i - entry l i + entry t i
entry-next l t x i = entry-plus (minus x l) t i ∙ ap (λ k. k + entry t i) (entry-minus x l i)

length-next : (n : ℕ) (l t x : Exponents) → length l ≡ n → length t ≡ n → length x ≡ n → length (next_of l t x) ≡ n
length-next n l t x a b c = length-plus (minus x l) t (length-minus x l (c ∙ sym a) ∙ c ∙ sym b) ∙ length-minus x l (c ∙ sym a) ∙ c

along-next : (k : ℕ) (l t x z : Exponents) → ((i : ℕ) → entry l i ≤ entry x i) → AreAlong (suc k) l t x z → AreAlong k l t (next_of l t x) z
along-next k l t x z d h = record { at = λ i. omega (arith, h.at i, d i, entry-next l t x i) }

-- an exponent after one step is one of the ends or between them
at_most : (k : ℕ) (l t x z : Exponents) (i : ℕ) → entry l i ≤ entry x i → AreAlong (suc k) l t x z →
    (entry (next_of l t x) i ≤ entry x i) ⊎ (entry (next_of l t x) i ≤ entry z i)
at_most k l t x z i d h = elim (cases_lt (entry t i) (entry l i)) [
  | inl e ↦ inl (omega (arith, e, d, entry-next l t x i))
  | inr e ↦ inr (omega (arith, h.at i, d, entry-next l t x i, scaled k (entry l i) (entry t i) e))
]

at_least : (k : ℕ) (l t x z : Exponents) (i : ℕ) → entry l i ≤ entry x i → AreAlong (suc k) l t x z →
    (entry x i ≤ entry (next_of l t x) i) ⊎ (entry z i ≤ entry (next_of l t x) i)
at_least k l t x z i d h = elim (cases_lt (entry t i) (entry l i)) [
  | inl e ↦ inr (omega (arith, h.at i, d, entry-next l t x i, scaled k (entry t i) (entry l i) (omega (arith, e))))
  | inr e ↦ inl (omega (arith, e, d, entry-next l t x i))
]

-- ---- the order between the ends

-- l, k times
abbrev multiple : ℕ → Exponents → Exponents
multiple zero l = []
multiple (suc k) l = plus l (multiple k l)

entry-multiple : (k : ℕ) (l : Exponents) (i : ℕ) → entry (multiple k l) i ≡ k * entry l i
entry-multiple zero l i = omega arith
entry-multiple (suc k) l i = omega (arith, entry-plus l (multiple k l) i, entry-multiple k l i)

sums_same : (k : ℕ) (l t x z : Exponents) → AreAlong k l t x z → same (plus x (multiple k t)) (plus z (multiple k l)) ≡ true
sums_same k l t x z h = same_by_entries (plus x (multiple k t)) (plus z (multiple k l)) (λ i.
    omega (arith, h.at i, entry-plus x (multiple k t) i, entry-plus z (multiple k l) i, entry-multiple k t i, entry-multiple k l i))

-- products from the right keep the order, too
multiple-right : (u x y : Exponents) → IsDeglexBelow x y → IsDeglexBelow (plus x u) (plus y u)
multiple-right u x y b = subst (λ a. IsDeglexBelow a (plus y u)) (plus_comm u x) (subst (λ a. IsDeglexBelow (plus u x) a) (plus_comm u y)
    (deglex-order.strict.invariant u x y b))

-- what is below stays so k times
multiple-below : (k : ℕ) (l t : Exponents) → IsDeglexBelow l t → (k ≡ 0) ⊎ IsDeglexBelow (multiple k l) (multiple k t)
multiple-below zero l t h = inl refl
multiple-below (suc k) l t h = inr (at (multiple-below k l t h))
  where
    at : (k ≡ 0) ⊎ IsDeglexBelow (multiple k l) (multiple k t) → IsDeglexBelow (plus l (multiple k l)) (plus t (multiple k t))
    at (inl e) = subst (λ m. IsDeglexBelow (plus l (multiple m l)) (plus t (multiple m t))) (sym e) (multiple-right [] l t h)
    at (inr b) = deglex-order.strict.transitive (plus l (multiple k l)) (plus t (multiple k l)) (plus t (multiple k t))
        (multiple-right (multiple k l) l t h) (deglex-order.strict.invariant t (multiple k l) (multiple k t) b)

-- steps that lead up don't end below
no_way : (k : ℕ) (l t x z : Exponents) → AreAlong k l t x z → IsDeglexBelow l t → IsDeglexBelow z x → ⊥
no_way k l t x z h b c = at (multiple-below k l t b)
  where
    first : IsDeglexBelow (plus z (multiple k l)) (plus x (multiple k l))
    first = multiple-right (multiple k l) z x c

    never : (y : Exponents) → same y (plus z (multiple k l)) ≡ true → IsDeglexBelow (plus z (multiple k l)) y → ⊥
    never y e d = deglex-order.strict.irreflexive (plus z (multiple k l)) (plus z (multiple k l)) (same-refl (plus z (multiple k l)))
        (deglex-order.strict.along_right (plus z (multiple k l)) y (plus z (multiple k l)) e d)

    at : (k ≡ 0) ⊎ IsDeglexBelow (multiple k l) (multiple k t) → ⊥
    at (inl e) =
        let q : multiple k t ≡ multiple k l = subst (λ m. multiple m t ≡ multiple m l) (sym e) refl in
        never (plus x (multiple k l)) (subst (λ a. same (plus x a) (plus z (multiple k l)) ≡ true) q (sums_same k l t x z h)) first
    at (inr d) = never (plus x (multiple k t)) (sums_same k l t x z h)
        (deglex-order.strict.transitive (plus z (multiple k l)) (plus x (multiple k l)) (plus x (multiple k t)) first
        (deglex-order.strict.invariant x (multiple k l) (multiple k t) d))

-- the mark and what is left of x without it
whole : (l x : Exponents) → ((i : ℕ) → entry l i ≤ entry x i) → same (plus (minus x l) l) x ≡ true
whole l x d = same_by_entries (plus (minus x l) l) x (λ i. omega (arith, d i, entry-plus (minus x l) l i, entry-minus x l i))

-- what is greater than both ends is greater than what is between them
over_next : (k : ℕ) (l t x z y : Exponents) → ((i : ℕ) → entry l i ≤ entry x i) → AreAlong (suc k) l t x z → IsDeglexBelow x y → IsDeglexBelow z y →
    IsDeglexBelow (next_of l t x) y
over_next k l t x z y d h a b = at (deglex-order.total l t)
  where
    n : Exponents
    n = next_of l t x

    up : IsDeglexBelow l t → IsDeglexBelow n z ⊎ (same n z ≡ true) ⊎ IsDeglexBelow z n → IsDeglexBelow n y
    up c (inl e) = deglex-order.strict.transitive n z y e b
    up c (inr (inl e)) = deglex-order.strict.along_left z n y (same_flip n z e) b
    up c (inr (inr e)) = absurd (no_way k l t n z (along-next k l t x z d h) c e)

    at : IsDeglexBelow l t ⊎ (same l t ≡ true) ⊎ IsDeglexBelow t l → IsDeglexBelow n y
    at (inl c) = up c (deglex-order.total n z)
    at (inr (inl c)) = deglex-order.strict.along_left x n y
        (same_trans x (plus (minus x l) l) n (same_flip (plus (minus x l) l) x (whole l x d)) (same_shift (minus x l) l t c)) a
    at (inr (inr c)) = deglex-order.strict.transitive n x y
        (deglex-order.strict.along_right n (plus (minus x l) l) x (whole l x d) (deglex-order.strict.invariant (minus x l) t l c)) a

-- and what is less than both is less
under_next : (k : ℕ) (l t x z y : Exponents) → ((i : ℕ) → entry l i ≤ entry x i) → AreAlong (suc k) l t x z → IsDeglexBelow y x → IsDeglexBelow y z →
    IsDeglexBelow y (next_of l t x)
under_next k l t x z y d h a b = at (deglex-order.total l t)
  where
    n : Exponents
    n = next_of l t x

    swapped : AreAlong k t l z n
    swapped = record { at = λ i. sym ((along-next k l t x z d h).at i) }

    down : IsDeglexBelow t l → IsDeglexBelow n z ⊎ (same n z ≡ true) ⊎ IsDeglexBelow z n → IsDeglexBelow y n
    down c (inl e) = absurd (no_way k t l z n swapped c e)
    down c (inr (inl e)) = deglex-order.strict.along_right y z n (same_flip n z e) b
    down c (inr (inr e)) = deglex-order.strict.transitive y z n b e

    at : IsDeglexBelow l t ⊎ (same l t ≡ true) ⊎ IsDeglexBelow t l → IsDeglexBelow y n
    at (inl c) = deglex-order.strict.transitive y x n a
        (deglex-order.strict.along_left (plus (minus x l) l) x n (whole l x d) (deglex-order.strict.invariant (minus x l) l t c))
    at (inr (inl c)) = deglex-order.strict.along_right y x n
        (same_trans x (plus (minus x l) l) n (same_flip (plus (minus x l) l) x (whole l x d)) (same_shift (minus x l) l t c)) a
    at (inr (inr c)) = down c (deglex-order.total n z)

-- ---- the same by deglex, on monomials in n variables

greater_below : (n : ℕ) (x y : Exponents) → length x ≡ n → length y ≡ n → deglex x y ≡ Greater → IsDeglexBelow y x
greater_below n x y l m g = at (deglex x y) (deglex-compares x y (l ∙ sym m)) g
  where
    at : (o : Ordering) → MatchOrdering o (IsDeglexBelow x y) (x ≡ y) (IsDeglexBelow y x) → o ≡ Greater → IsDeglexBelow y x
    at Less h e = absurd (cc)
    at Equal h e = absurd (cc)
    at Greater h e = h

below_greater : (n : ℕ) (x y : Exponents) → length x ≡ n → length y ≡ n → IsDeglexBelow y x → deglex x y ≡ Greater
below_greater n x y l m b = at (deglex x y) (deglex-compares x y (l ∙ sym m))
  where
    never : (v : Exponents) → same v y ≡ true → IsDeglexBelow y v → ⊥
    never v e c = deglex-order.strict.irreflexive y y (same-refl y) (deglex-order.strict.along_right y v y e c)

    at : (o : Ordering) → MatchOrdering o (IsDeglexBelow x y) (x ≡ y) (IsDeglexBelow y x) → o ≡ Greater
    at Less h = absurd (never y (same-refl y) (deglex-order.strict.transitive y x y b h))
    at Equal h = absurd (never x (subst (λ v. same x v ≡ true) h (same-refl x)) b)
    at Greater h = refl

over_next-deglex : (n k : ℕ) (l t x z y : Exponents) → length x ≡ n → length z ≡ n → length (next_of l t x) ≡ n → length y ≡ n →
    ((i : ℕ) → entry l i ≤ entry x i) → AreAlong (suc k) l t x z → deglex y x ≡ Greater → deglex y z ≡ Greater → deglex y (next_of l t x) ≡ Greater
over_next-deglex n k l t x z y a b c e d h p q = below_greater n y (next_of l t x) e c
    (over_next k l t x z y d h (greater_below n y x e a p) (greater_below n y z e b q))

under_next-deglex : (n k : ℕ) (l t x z y : Exponents) → length x ≡ n → length z ≡ n → length (next_of l t x) ≡ n → length y ≡ n →
    ((i : ℕ) → entry l i ≤ entry x i) → AreAlong (suc k) l t x z → deglex x y ≡ Greater → deglex z y ≡ Greater → deglex (next_of l t x) y ≡ Greater
under_next-deglex n k l t x z y a b c e d h p q = below_greater n (next_of l t x) y c e
    (under_next k l t x z y d h (greater_below n x y a e p) (greater_below n z y b e q))

-- ---- the polynomial with another term in the index

-- what stays while the term goes along
pub record Surroundings (bs : List MarkedPolynomial) (j : ℕ) (spared : Option Exponents) (n : ℕ) (above rest : Terms) (b : MarkedPolynomial) (u : Term) :
    Type 0 where
  pub at : IsAt bs j b
  pub pair : IsPair b u
  pub head : length b.head ≡ n
  pub other : length u.mono ≡ n
  pub spare : IsSpareIn n spared
  pub above_descends : IsDescending above
  pub rest_descends : IsDescending rest
  pub across : AllAbove above rest
  pub above_variables : HasVariables n above
  pub rest_variables : HasVariables n rest

-- what holds at an end of the chain
pub record IsEnd (n : ℕ) (above rest : Terms) (l x : Exponents) : Type 0 where
  pub variables : length x ≡ n
  pub divides : (i : ℕ) → entry l i ≤ entry x i
  pub over : AreOver x above
  pub under : IsAbove x rest
  pub inside : IsInBox (2 ^ 31) ROOM x

-- and of both
pub record AreEnds (bs : List MarkedPolynomial) (j : ℕ) (spared : Option Exponents) (n : ℕ) (above rest : Terms) (l t : Exponents) (k : ℕ) (x z : Exponents) :
    Type 0 where
  pub along : AreAlong k l t x z
  pub start : IsEnd n above rest l x
  pub end : IsEnd n above rest l z
  pub missed : AreMissed bs j x z
  pub outside : IsSpareOutside spared x z

-- one step on the way
ends-next : (bs : List MarkedPolynomial) (j : ℕ) (spared : Option Exponents) (n : ℕ) (above rest : Terms) (l t : Exponents) (k : ℕ) (x z : Exponents) →
    length l ≡ n → length t ≡ n → IsSpareIn n spared → HasVariables n above → HasVariables n rest →
    AreEnds bs j spared n above rest l t (suc k) x z → AreEnds bs j spared n above rest l t k (next_of l t x) z
ends-next bs j spared n above rest l t k x z ll lt sp va vr h = record {
  along = along-next k l t x z h.start.divides h.along;
  start = record {
    variables = m;
    divides = divides;
    over = over_all above va h.start.over h.end.over;
    under = under_all rest vr h.start.under h.end.under;
    inside = inside;
  };
  end = h.end;
  missed = missed;
  outside = outside_both spared sp h.outside;
}
  where
    m : length (next_of l t x) ≡ n
    m = length-next n l t x ll lt h.start.variables

    divides : (i : ℕ) → entry l i ≤ entry (next_of l t x) i
    divides i = elim (at_least k l t x z i (h.start.divides i) h.along) [
      | inl e ↦ omega (arith, e, h.start.divides i)
      | inr e ↦ omega (arith, e, h.end.divides i)
    ]

    missed : AreMissed bs j (next_of l t x) z
    missed i b a c = at (h.missed i b a c)
      where
        at : IsMissed b.head x z → IsMissed b.head (next_of l t x) z
        at g = record {
          at = g.at;
          start = elim (at_most k l t x z g.at (h.start.divides g.at) h.along) [
            | inl e ↦ omega (arith, e, g.start)
            | inr e ↦ omega (arith, e, g.end)
          ];
          end = g.end;
        }

    inside : IsInBox (2 ^ 31) ROOM (next_of l t x)
    inside = record {
      below = λ i. limit i (at_most k l t x z i (h.start.divides i) h.along);
      beyond = λ i r. past i r (at_most k l t x z i (h.start.divides i)
          h.along);
    }
      where
        limit : (i : ℕ) → (entry (next_of l t x) i ≤ entry x i) ⊎ (entry (next_of l t x) i ≤ entry z i) → entry (next_of l t x) i < 2 ^ 31
        limit i (inl e) = omega (arith, e, h.start.inside.below i)
        limit i (inr e) = omega (arith, e, h.end.inside.below i)

        past : (i : ℕ) → ROOM ≤ i → (entry (next_of l t x) i ≤ entry x i) ⊎ (entry (next_of l t x) i ≤ entry z i) → entry (next_of l t x) i ≡ 0
        past i r (inl e) = omega (arith, e, h.start.inside.beyond i r)
        past i r (inr e) = omega (arith, e, h.end.inside.beyond i r)

    over_all : (f : Terms) → HasVariables n f → AreOver x f → AreOver z f → AreOver (next_of l t x) f
    over_all [] v a c = tt
    over_all (r ∷ f) v a c = (
      over_next-deglex n k l t x z r.mono h.start.variables h.end.variables m v.0 h.start.divides h.along a.0 c.0,
      over_all f v.1 a.1
          c.1,
    )

    under_all : (f : Terms) → HasVariables n f → IsAbove x f → IsAbove z f → IsAbove (next_of l t x) f
    under_all [] v a c = tt
    under_all (r ∷ f) v a c = (
      under_next-deglex n k l t x z r.mono h.start.variables h.end.variables m v.0 h.start.divides h.along a.0 c.0,
      under_all f v.1 a.1
          c.1,
    )

    outside_both : (o : Option Exponents) → IsSpareIn n o → IsSpareOutside o x z → IsSpareOutside o (next_of l t x) z
    outside_both None v a = tt
    outside_both (Some y) v (inl a) = inl (over_next-deglex n k l t x z y h.start.variables h.end.variables m v h.start.divides h.along a.0 a.1, a.1)
    outside_both (Some y) v (inr a) = inr (under_next-deglex n k l t x z y h.start.variables h.end.variables m v h.start.divides h.along a.0 a.1, a.1)

-- the polynomial, with the coefficient c at x
abbrev pub put : Terms → Terms → Fraction → Exponents → Terms
put above rest c x = above ++ record { coef = c; mono = x } ∷ rest

put_sound : (n : ℕ) (above rest : Terms) (l : Exponents) (c : Fraction) (x : Exponents) → IsDescending above → IsDescending rest → AllAbove above rest →
    HasVariables n above → HasVariables n rest → c ≢ zero_ℚ → IsEnd n above rest l x →
    IsSound n (record { above = above; below = record { coef = c; mono = x } ∷ rest })
put_sound n above rest l c x da dr ac va vr z h = record {
  descending = descending-join above (record { coef = c; mono = x } ∷ rest) da (z, h.under, dr) (across above ac h.over);
  variables = variables-join n above (record { coef = c; mono = x } ∷ rest) va (h.variables, vr);
}
  where
    across : (f : Terms) → AllAbove f rest → AreOver x f → AllAbove f (record { coef = c; mono = x } ∷ rest)
    across [] a o = tt
    across (t ∷ f) a o = ((o.0, a.0), across f a.1 o.1)

-- ---- one step

neg-zero : neg_ℚ zero_ℚ ≡ zero_ℚ
neg-zero = sym (zero-+ℚ (neg_ℚ zero_ℚ)) ∙ +ℚ-neg_ℚ zero_ℚ

exchanged : (a p r d : Fraction) → a +ℚ (d +ℚ r) ≡ (a +ℚ (p +ℚ r)) +ℚ (neg_ℚ p +ℚ d)
exchanged = each_q _
    (λ a a' k. each_q _
    (λ b b' l. each_q _ (λ c c' m. each_q _ (λ d d' n. simp overs (over-eq _ _ _ _ (simp dens (simp naturals (diff-eq _ _ _ _ (omega arith)))))))))

-- at a monomial that is the same
if_same : (e x y : Exponents) (c : Fraction) → same y x ≡ true → (if same e y then neg_ℚ c *ℚ one_ℚ else zero_ℚ) ≡ neg_ℚ (if same e x then c else zero_ℚ)
if_same e x y c w = ap (λ b. if b then neg_ℚ c *ℚ one_ℚ else zero_ℚ) (same-sym e y ∙ same_along y x e w ∙ same-sym x e) ∙ at (same e x)
  where
    at : (b : Bool) → (if b then neg_ℚ c *ℚ one_ℚ else zero_ℚ) ≡ neg_ℚ (if b then c else zero_ℚ)
    at true = *ℚ-one (neg_ℚ c)
    at false = sym neg-zero

if_times : (b : Bool) (c s : Fraction) → (if b then neg_ℚ c *ℚ s else zero_ℚ) ≡ (if b then neg_ℚ (c *ℚ s) else zero_ℚ)
if_times true c s = neg_ℚ-*ℚ c s
if_times false c s = refl

-- what the multiple of the member takes away, and what it adds
taken : (b : MarkedPolynomial) (u : Term) (c : Fraction) (q x e : Exponents) → IsPair b u → same (plus q b.head) x ≡ true →
    coefficient (times (neg_ℚ c) q b.poly) e ≡ neg_ℚ (if same e x then c else zero_ℚ) +ℚ (if same e (plus q u.mono) then neg_ℚ (c *ℚ u.coef) else zero_ℚ)
taken b u c q x e p w = at p.terms
  where
    first : Fraction
    first = if same e (plus q b.head) then neg_ℚ c *ℚ one_ℚ else zero_ℚ

    second : Fraction
    second = if same e (plus q u.mono) then neg_ℚ c *ℚ u.coef else zero_ℚ

    both : first +ℚ second ≡ neg_ℚ (if same e x then c else zero_ℚ) +ℚ (if same e (plus q u.mono) then neg_ℚ (c *ℚ u.coef) else zero_ℚ)
    both = ap (λ z. z +ℚ second) (if_same e x (plus q b.head) c w) ∙ ap (λ z. neg_ℚ (if same e x then c else zero_ℚ) +ℚ z) (if_times (same e (plus q u.mono)) c
        u.coef)

    at : (b.poly ≡ marked_term b ∷ u ∷ []) ⊎ (b.poly ≡ u ∷ marked_term b ∷ []) → coefficient (times (neg_ℚ c) q b.poly) e ≡
        neg_ℚ (if same e x then c else zero_ℚ) +ℚ (if same e (plus q u.mono) then neg_ℚ (c *ℚ u.coef) else zero_ℚ)
    at (inl k) = ap (λ (f : Terms). coefficient (times (neg_ℚ c) q f) e) k ∙ ap (λ z. first +ℚ z) (+ℚ-zero second) ∙ both
    at (inr k) = ap (λ (f : Terms). coefficient (times (neg_ℚ c) q f) e) k ∙ ap (λ z. second +ℚ z) (+ℚ-zero first) ∙ +ℚ_comm second first ∙ both

put_coefficient : (n : ℕ) (above rest : Terms) (c : Fraction) (x : Exponents) →
    IsSound n (record { above = above; below = record { coef = c; mono = x } ∷ rest }) → coefficient (put above rest c x) x ≡ c
put_coefficient n above rest c x h = coefficient-midst n above (record { coef = c; mono = x }) rest h.variables h.descending

-- the step from one to the next
put_step : (above rest : Terms) (b : MarkedPolynomial) (u : Term) (c : Fraction) (x : Exponents) → IsPair b u → ((i : ℕ) → entry b.head i ≤ entry x i) →
    coefficient (put above rest c x) x ≡ c → SamePolynomial (put above rest (neg_ℚ (c *ℚ u.coef)) (next_of b.head u.mono x))
    (put above rest c x ++ times (neg_ℚ (coefficient (put above rest c x) x)) (minus x b.head) b.poly)
put_step above rest b u c x p d here e =
    coefficient-++ above (record { coef = neg_ℚ (c *ℚ u.coef); mono = next_of b.head u.mono x } ∷ rest) e
    ∙ exchanged (coefficient above e) (if same e x then c else zero_ℚ) (coefficient rest e)
    (if same e (next_of b.head u.mono x) then neg_ℚ (c *ℚ u.coef) else zero_ℚ)
    ∙ ap (λ y. (coefficient above e +ℚ ((if same e x then c else zero_ℚ) +ℚ coefficient rest e)) +ℚ y)
    (sym (taken b u c (minus x b.head) x e p (whole b.head x d)))
    ∙ ap (λ y. y +ℚ coefficient (times (neg_ℚ c) (minus x b.head) b.poly) e) (sym (coefficient-++ above (record { coef = c; mono = x } ∷ rest) e))
    ∙ sym (coefficient-++ (put above rest c x) (times (neg_ℚ c) (minus x b.head) b.poly) e)
    ∙ ap (λ y. coefficient (put above rest c x ++ times (neg_ℚ y) (minus x b.head) b.poly) e) (sym here)

-- ---- the whole chain

-- steps lead from f to g, and leave no more work
pub record Led (bs : List MarkedPolynomial) (spared : Option Exponents) (f g : Terms) : Type 0 where
  pub reached : ReachedBeside bs spared f g
  pub work : LeavesNoMore bs f g

led-next : (bs : List MarkedPolynomial) (spared : Option Exponents) (f g h : Terms) (x : Exponents) (b : MarkedPolynomial) (q : Exponents) →
    Contains bs b → HasMonomial f x → same x (plus q b.head) ≡ true → SamePolynomial g (f ++ times (neg_ℚ (coefficient f x)) q b.poly) → IsBeside spared x →
    IsFirstFor bs x b → IsInBox (2 ^ 31) ROOM x → Led bs spared g h → Led bs spared f h
led-next bs spared f g h x b q c m d e n k i r =
    let s : IsStep (Contains bs) f g = record { at = x; member = b; rest = q; contained = c; there = m; divides = d; equal = e } in
    record {
      reached = reached_along bs spared f g h (ReachedBeside.next f g ReachedBeside.here s n k) r.reached;
      work = λ w a. at_most_less (work_left (2 ^ 31) ROOM bs f) (work_left (2 ^ 31) ROOM bs g) (work_left (2 ^ 31) ROOM bs h)
          (work_left-at (2 ^ 31) ROOM w bs f g a s i) (r.work w a);
    }
  where
    at_most_less : (p q r : ℕ) → q < p → r ≤ q → r ≤ p
    at_most_less p q r a b = omega (arith, a, b)

first_missed : (bs : List MarkedPolynomial) (j : ℕ) (b : MarkedPolynomial) (x z : Exponents) → IsAt bs j b → AreMissed bs j x z → IsFirstFor bs x b
first_missed bs j b x z a m = record { index = j; at = a; before = λ i c l k. missed_none c.head x z (m i c l k) }
  where
    missed_none : (h x z : Exponents) → IsMissed h x z → NoMultiple h x
    missed_none h x z g rest = at (same x (plus h rest)) refl
      where
        at : (b : Bool) → same x (plus h rest) ≡ b → b ≡ false
        at false e = refl
        at true e = absurd (omega (arith, g.start, entries_same x (plus h rest) e g.at, entry-plus h rest g.at))

spare_beside : (n : ℕ) (spared : Option Exponents) (x z : Exponents) → length x ≡ n → IsSpareIn n spared → IsSpareOutside spared x z → IsBeside spared x
spare_beside n None x z l v o = tt
spare_beside n (Some y) x z l v (inl o) = apart_above x y (l ∙ sym v) o.0
spare_beside n (Some y) x z l v (inr o) = apart_below x y (l ∙ sym v) o.0

unit_nonzero : (c s : Fraction) → IsUnit s → c ≢ zero_ℚ → neg_ℚ (c *ℚ s) ≢ zero_ℚ
unit_nonzero c s (inl e) z k = z (sym (neg_ℚ-neg_ℚ c) ∙ ap neg_ℚ (sym (ap neg_ℚ (ap (λ y. c *ℚ y) e ∙ *ℚ-one c)) ∙ k) ∙ neg-zero)
unit_nonzero c s (inr e) z k = z (sym (neg_ℚ-neg_ℚ c) ∙ sym (ap neg_ℚ (ap (λ y. c *ℚ y) e ∙ *ℚ-neg_ℚ c one_ℚ ∙ ap neg_ℚ (*ℚ-one c))) ∙ k)

pub chain_leads : (bs : List MarkedPolynomial) (j : ℕ) (spared : Option Exponents) (n : ℕ) (above rest : Terms) (b : MarkedPolynomial) (u : Term) →
    Surroundings bs j spared n above rest b u → (k : ℕ) (c : Fraction) (x z : Exponents) → c ≢ zero_ℚ →
    AreEnds bs j spared n above rest b.head u.mono k x z → Led bs spared (put above rest c x) (put above rest (turned u.coef k c) z)
chain_leads bs j spared n above rest b u s zero c x z nz h =
    let e : x ≡ z = same_lists x z (h.start.variables ∙ sym h.end.variables) (λ i. omega (arith, h.along.at i)) in
    subst (λ (y : Exponents). Led bs spared (put above rest c x) (put above rest c y)) e
    (record { reached = ReachedBeside.here; work = λ w m. omega arith })
chain_leads bs j spared n above rest b u s (suc k) c x z nz h =
    let here : coefficient (put above rest c x) x ≡ c = put_coefficient n above rest c x
    (put_sound n above rest b.head c x s.above_descends s.rest_descends s.across s.above_variables s.rest_variables nz h.start) in
    led-next bs spared (put above rest c x) (put above rest (neg_ℚ (c *ℚ u.coef)) (next_of b.head u.mono x)) (put above rest (turned u.coef (suc k) c) z)
    x b (minus x b.head) (member_contained bs j b s.at) (λ e. nz (sym here ∙ e))
    (same_flip (plus (minus x b.head) b.head) x (whole b.head x h.start.divides)) (put_step above rest b u c x s.pair h.start.divides here)
    (spare_beside n spared x z h.start.variables s.spare h.outside) (first_missed bs j b x z s.at h.missed) h.start.inside
    (chain_leads bs j spared n above rest b u s k (neg_ℚ (c *ℚ u.coef)) (next_of b.head u.mono x) z (unit_nonzero c u.coef s.pair.unit nz)
    (ends-next bs j spared n above rest b.head u.mono k x z s.head s.other s.spare s.above_variables s.rest_variables h))

-- ---- a jump

turned_nonzero : (k : ℕ) (c s : Fraction) → IsUnit s → c ≢ zero_ℚ → turned s k c ≢ zero_ℚ
turned_nonzero zero c s u z = z
turned_nonzero (suc k) c s u z = turned_nonzero k (neg_ℚ (c *ℚ s)) s u (unit_nonzero c s u z)

spare_beside_end : (n : ℕ) (spared : Option Exponents) (x z : Exponents) → length z ≡ n → IsSpareIn n spared → IsSpareOutside spared x z → IsBeside spared z
spare_beside_end n None x z l v o = tt
spare_beside_end n (Some y) x z l v (inl o) = apart_above z y (l ∙ sym v) o.1
spare_beside_end n (Some y) x z l v (inr o) = apart_below z y (l ∙ sym v) o.1

first_is : {f g : Terms} {s t : Term} → ◌≡◌ {A = Terms} (s ∷ f) (t ∷ g) → s ≡ t
first_is e = cc

rest_is : {f g : Terms} {s t : Term} → ◌≡◌ {A = Terms} (s ∷ f) (t ∷ g) → f ≡ g
rest_is e = cc

jump_at : (bs : List MarkedPolynomial) (j : ℕ) (spared : Option Exponents) (above rest : Terms) (t u : Term) (k : ℕ) →
    ShareVariables (record { above = above; below = t ∷ rest }) bs spared → IsReducibleFirst bs spared (record { above = above; below = t ∷ rest }) j →
    IsJump bs j spared (record { above = above; below = t ∷ rest }) k u →
    IsJumped bs j spared (record { above = above; below = t ∷ rest }) (record { above = above; below = u ∷ rest })
jump_at bs j spared above rest t u k v r h = record {
  worked = record {
    reached = subst (ReachedBeside bs spared (above ++ t ∷ rest)) (sym after) led.reached;
    variables = record { n = v.n; sound = sound; members = v.members; spare = v.spare };
    kept = record {
      at = λ m w. variables-join m above (u ∷ rest) (variables-front m above (t ∷ rest) w)
          (h.variables ∙ ap (λ (y : Term). length y.mono) (sym q) ∙ (variables-back m above (t ∷ rest) w).0, (variables-back m above (t ∷ rest) w).1);
    };
  };
  found = record {
    term = u;
    is = record { rest = rest; is = refl };
    divisor = record {
      member = h.member;
      at = h.at;
      divides = h.divides;
      first = λ i b l a d. none b (h.missed i b l a) d;
      head = head ∙ sym long;
      poly = subst (λ (m : ℕ). HasVariables m h.member.poly) (sym long) (member_variables v.n bs h.member v.members (member_contained bs j h.member h.at));
    };
    beside = spare_beside_end v.n spared h.first.mono u.mono long v.spare h.outside;
    monomial = h.monomial;
  };
  above = refl;
  work = λ w m. subst (λ (f : Terms). work_left (2 ^ 31) ROOM bs f ≤ work_left (2 ^ 31) ROOM bs (above ++ t ∷ rest)) (sym after) (led.work w m);
}
  where
    -- the term in its place is the one that the jump and the search tell
    q : t ≡ h.first
    q = first_is h.is.is

    p : t ≡ r.term
    p = first_is r.is.is

    down : IsDescending (t ∷ rest)
    down = descending-back above (t ∷ rest) v.sound.descending

    short : length t.mono ≡ v.n
    short = (variables-back v.n above (t ∷ rest) v.sound.variables).0

    long : length u.mono ≡ v.n
    long = h.variables ∙ ap (λ (y : Term). length y.mono) (sym q) ∙ short

    one : r.divisor.member ≡ h.member
    one = members_equal bs j r.divisor.member h.member r.divisor.at h.at

    head : length h.member.head ≡ v.n
    head = ap (λ (b : MarkedPolynomial). length b.head) (sym one) ∙ r.divisor.head ∙ ap (λ (y : Term). length y.mono) (sym p) ∙ short

    none : (b : MarkedPolynomial) → IsMissed b.head h.first.mono u.mono → Divides b.head u.mono → ⊥
    none b m d = omega (arith, m.end, entries_by_divides b.head u.mono d m.at)

    other : (b : MarkedPolynomial) (o : Term) → HasVariables v.n b.poly → IsPair b o → length o.mono ≡ v.n
    other b o w i = at i.terms
      where
        at : (b.poly ≡ marked_term b ∷ o ∷ []) ⊎ (b.poly ≡ o ∷ marked_term b ∷ []) → length o.mono ≡ v.n
        at (inl e) = (variables-back v.n (marked_term b ∷ []) (o ∷ []) (subst (HasVariables v.n) e w)).0
        at (inr e) = (subst (HasVariables v.n) e w).0

    around : Surroundings bs j spared v.n above rest h.member h.other
    around = record {
      at = h.at;
      pair = h.pair;
      head = head;
      other = other h.member h.other (member_variables v.n bs h.member v.members (member_contained bs j h.member h.at)) h.pair;
      spare = v.spare;
      above_descends = descending-front above (t ∷ rest) v.sound.descending;
      rest_descends = down.2;
      across = AllAbove-rest above t rest (descending-across above (t ∷ rest) v.sound.descending);
      above_variables = variables-front v.n above (t ∷ rest) v.sound.variables;
      rest_variables = (variables-back v.n above (t ∷ rest) v.sound.variables).1;
    }

    over : (f : Terms) → AllAbove f (t ∷ rest) → AreOver t.mono f
    over [] a = tt
    over (s ∷ f) a = (a.0.0, over f a.1)

    end : IsEnd v.n above rest h.member.head u.mono
    end = record {
      variables = long;
      divides = entries_by_divides h.member.head u.mono h.divides;
      over = h.room.over;
      under = subst (IsAbove u.mono) (sym (rest_is h.room.below.is)) h.room.below.under;
      inside = box_of_monomial u.mono h.monomial;
    }

    ends : AreEnds bs j spared v.n above rest h.member.head h.other.mono k t.mono u.mono
    ends = record {
      along = subst (λ (y : Term). AreAlong k h.member.head h.other.mono y.mono u.mono) (sym q) h.along;
      start = record {
        variables = short;
        divides = entries_by_divides h.member.head t.mono (subst (λ (y : Term). Divides h.member.head y.mono) (sym p)
            (subst (λ (b : MarkedPolynomial). Divides b.head r.term.mono) one r.divisor.divides));
        over = over above (descending-across above (t ∷ rest) v.sound.descending);
        under = down.1;
        inside = box_of_monomial t.mono (subst (λ (y : Term). IsMonomial y.mono) (sym p) r.monomial);
      };
      end = end;
      missed = subst (λ (y : Term). AreMissed bs j y.mono u.mono) (sym q) h.missed;
      outside = subst (λ (y : Term). IsSpareOutside spared y.mono u.mono) (sym q) h.outside;
    }

    led : Led bs spared (put above rest t.coef t.mono) (put above rest (turned h.other.coef k t.coef) u.mono)
    led = chain_leads bs j spared v.n above rest h.member h.other around k t.coef t.mono u.mono down.0 ends

    coefficient_is : u.coef ≡ turned h.other.coef k t.coef
    coefficient_is = h.coefficient_is ∙ ap (λ (y : Term). turned h.other.coef k y.coef) (sym q)

    after : above ++ u ∷ rest ≡ put above rest (turned h.other.coef k t.coef) u.mono
    after = ap (λ (c : Fraction). put above rest c u.mono) coefficient_is

    sound : IsSound v.n (record { above = above; below = u ∷ rest })
    sound = put_sound v.n above rest h.member.head u.coef u.mono around.above_descends around.rest_descends around.across around.above_variables
        around.rest_variables (λ e. turned_nonzero k t.coef h.other.coef h.pair.unit down.0 (sym coefficient_is ∙ e)) end

pub jump_leads : (bs : List MarkedPolynomial) (j : ℕ) (spared : Option Exponents) (s t : Split) (k : ℕ) (u : Term) → ShareVariables s bs spared →
    IsReducibleFirst bs spared s j → IsJump bs j spared s k u → IsReplaced u s t → IsJumped bs j spared s t
jump_leads bs j spared s t k u v r h w =
    let old : s ≡ record { above = s.above; below = w.first ∷ w.rest } = ap (λ (f : Terms). record { above = s.above; below = f }) w.before in
    let new : t ≡ record { above = s.above; below = u ∷ w.rest } =
    ap (λ (f : Terms). record { above = f; below = t.below }) w.above ∙ ap (λ (f : Terms). record { above = s.above; below = f }) w.after in
    let g : IsJumped bs j spared (record { above = s.above; below = w.first ∷ w.rest }) (record { above = s.above; below = u ∷ w.rest }) =
    jump_at bs j spared s.above w.rest w.first u k (subst (λ (z : Split). ShareVariables z bs spared) old v)
    (subst (λ (z : Split). IsReducibleFirst bs spared z j) old r) (subst (λ (z : Split). IsJump bs j spared z k u) old h) in
    subst (λ (z : Split). IsJumped bs j spared z t) (sym old)
    (subst (λ (z : Split). IsJumped bs j spared (record { above = s.above; below = w.first ∷ w.rest }) z) (sym new) g)

-- ---- what loops have found

-- so far each exponent goes along
pub record IsAlongUpTo (k : ℕ) (l t x z : Exponents) (i : ℕ) : Type 0 where
  pub at : (p : ℕ) → p < i → entry x p + k * entry t p ≡ entry z p + k * entry l p

pub along-start : (k : ℕ) (l t x z : Exponents) → IsAlongUpTo k l t x z 0
along-start k l t x z = record { at = λ p h. absurd (omega arith) }

pub along-more : (k : ℕ) (l t x z : Exponents) (i : ℕ) → get_or x i 0 + k * get_or t i 0 ≡ get_or z i 0 + k * get_or l i 0 → IsAlongUpTo k l t x z i →
    IsAlongUpTo k l t x z (i + 1)
along-more k l t x z i e h = record { at = λ p b. index p b (cases_lt p i) }
  where
    here : entry x i + k * entry t i ≡ entry z i + k * entry l i
    here = subst (λ a. entry x i + k * a ≡ entry z i + k * entry l i) (entry-get_or t i) (subst (λ a. entry x i + k * get_or t i 0 ≡ entry z i + k * a)
        (entry-get_or l i) (omega (arith, e, entry-get_or x i, entry-get_or z i)))

    index : (p : ℕ) → p < i + 1 → (p < i) ⊎ (i ≤ p) → entry x p + k * entry t p ≡ entry z p + k * entry l p
    index p b (inl m) = h.at p m
    index p b (inr m) = let q : i ≡ p = omega arith in subst (λ r. entry x r + k * entry t r ≡ entry z r + k * entry l r) q here

pub along-end : (k : ℕ) (l t x z : Exponents) (i : ℕ) → length l ≡ length x → length t ≡ length x → length z ≡ length x → length x ≤ i →
    IsAlongUpTo k l t x z i → AreAlong k l t x z
along-end k l t x z i a b c d h = record { at = λ p. index p (cases_lt p i) }
  where
    index : (p : ℕ) → (p < i) ⊎ (i ≤ p) → entry x p + k * entry t p ≡ entry z p + k * entry l p
    index p (inl m) = h.at p m
    index p (inr m) = subst (λ r. entry x p + k * r ≡ entry z p + k * entry l p) (sym (entry-past t p (omega (arith, b, d))))
        (subst (λ r. entry x p + k * 0 ≡ entry z p + k * r) (sym (entry-past l p (omega (arith, a, d))))
        (omega (arith, entry-past x p (omega (arith, d)), entry-past z p (omega (arith, c, d)))))

-- an exponent of the mark that is greater than both
pub missed_at : (m x z : Exponents) (i : ℕ) → get_or x i 0 < get_or m i 0 → get_or z i 0 < get_or m i 0 → IsMissed m x z
missed_at m x z i a b = record {
  at = i;
  start = omega (arith, a, entry-get_or x i, entry-get_or m i);
  end = omega (arith, b, entry-get_or z i, entry-get_or m i);
}

pub missed-more : (bs : List MarkedPolynomial) (i : ℕ) (b : MarkedPolynomial) (x z : Exponents) → IsAt bs i b → IsMissed b.head x z → AreMissed bs i x z →
    AreMissed bs (i + 1) x z
missed-more bs i b x z a m h p c l k = at (cases_lt p i)
  where
    at : (p < i) ⊎ (i ≤ p) → IsMissed c.head x z
    at (inl d) = h p c d k
    at (inr d) =
        let q : p ≡ i = omega arith in
        subst (λ (e : MarkedPolynomial). IsMissed e.head x z) (members_equal bs i b c a (subst (λ r. IsAt bs r c) q k)) m

-- the two terms of a list
pub pair_at : (b : MarkedPolynomial) (g : Terms) (i : ℕ) (m o : Term) → g ≡ b.poly → length g ≡ 2 → head_of b.poly i ≡ b.head → i < 2 → m ≡ get_or g i m →
    o ≡ get_or g (1 - i) o → m.coef ≡ one_ℚ → IsUnit o.coef → IsPair b o
pair_at b g i m o q l h w e f c u = at g (sym q) i l (ap (λ (y : Terms). head_of y i) q ∙ h) w e f
  where
    marked : (t : Term) → t.coef ≡ one_ℚ → t.mono ≡ b.head → t ≡ marked_term b
    marked t p q = ap (λ (a : Fraction). record { coef = a; mono = t.mono }) p ∙ ap (λ (x : Exponents). record { coef = one_ℚ; mono = x }) q

    at : (g : Terms) → b.poly ≡ g → (i : ℕ) → length g ≡ 2 → head_of g i ≡ b.head → i < 2 → m ≡ get_or g i m → o ≡ get_or g (1 - i) o → IsPair b o
    at (s ∷ t ∷ []) q zero l h w e f = record {
      unit = u;
      terms = inl (q ∙ ap (λ (y : Term). y ∷ t ∷ []) (marked s (ap (λ (y : Term). y.coef) (sym e) ∙ c) h) ∙ ap (λ (y : Term). marked_term b ∷ y ∷ []) (sym f));
    }
    at (s ∷ t ∷ []) q (suc zero) l h w e f = record {
      unit = u;
      terms = inr (q ∙ ap (λ (y : Term). s ∷ y ∷ []) (marked t (ap (λ (y : Term). y.coef) (sym e) ∙ c) h) ∙ ap (λ (y : Term). y ∷ marked_term b ∷ []) (sym f));
    }
    at (s ∷ t ∷ []) q (suc (suc i)) l h w e f = absurd (omega arith)
    at [] q i l h w e f = absurd (omega arith)
    at (s ∷ []) q i l h w e f = absurd (omega arith)
    at (s ∷ t ∷ r ∷ g) q i l h w e f = absurd (omega arith)

-- the coefficient as the code takes it
pub turned_odd : (k : ℕ) (c d : Fraction) → k % 2 ≡ 1 → d ≡ neg_ℚ c → d ≡ turned one_ℚ k c
turned_odd k c d o e = e ∙ sym ((turned-one k c).1 o)

pub turned_even : (k : ℕ) (c : Fraction) → k % 2 ≢ 1 → c ≡ turned one_ℚ k c
turned_even k c o = sym ((turned-one k c).0 (omega (arith, o)))

pub turned_at_one : (s c d : Fraction) (k : ℕ) → s ≡ one_ℚ → d ≡ turned one_ℚ k c → d ≡ turned s k c
turned_at_one s c d k e h = subst (λ y. d ≡ turned y k c) (sym e) h

pub turned_else : (s c : Fraction) (k : ℕ) → IsUnit s → (s ≡ one_ℚ → ⊥) → c ≡ turned s k c
turned_else s c k (inl e) n = absurd (n e)
turned_else s c k (inr e) n = subst (λ y. c ≡ turned y k c) (sym e) (sym (turned-minus k c))

-- ---- the terms beside the index

-- the second of the terms below the index is less
pub over_rest : (x : Exponents) (b : Terms) (n : ℕ) (t : Term) → n ≡ length b → 2 ≤ n → t ≡ get_or b (n - 2) t → deglex x t.mono ≡ Greater →
    IsDescending (reverse b) → IsOverRest x (reverse b)
over_rest x b n t q l e g d = at (reverse b) (omega (arith, l, q, length-reverse b)) (sym (get_or-reverse b 1 t (omega (arith, l, q)) ∙
    ap (λ k. get_or b k t) index ∙ sym e)) d
  where
    index : length b - 1 - 1 ≡ n - 2
    index = omega (arith, q)

    at : (f : Terms) → 2 ≤ length f → t ≡ get_or f 1 t → IsDescending f → IsOverRest x f
    at [] l e d = absurd (omega arith)
    at (r ∷ []) l e d = absurd (omega arith)
    at (r ∷ s ∷ f) l e d =
        let p : deglex x s.mono ≡ Greater = ap (λ (y : Term). deglex x y.mono) (sym e) ∙ g in
        record { first = r; rest = s ∷ f; is = refl; under = (p, IsAbove-from x s.mono f p (descending-back (r ∷ []) (s ∷ f) d).1) }

-- or there is none
pub over_none : (x : Exponents) (b : Terms) → length b ≡ 1 → IsOverRest x (reverse b)
over_none x b l = at (reverse b) (length-reverse b ∙ l)
  where
    at : (f : Terms) → length f ≡ 1 → IsOverRest x f
    at [] l = absurd (omega arith)
    at (r ∷ []) l = record { first = r; rest = []; is = refl; under = tt }
    at (r ∷ s ∷ f) l = absurd (omega arith)

-- another term in place of the last one of the list
pub replaced : (a b d c : Terms) (t u : Term) → b ≡ d ++ t ∷ [] → c ≡ d ++ u ∷ [] →
    IsReplaced u (record { above = a; below = reverse b }) (record { above = a; below = reverse c })
replaced a b d c t u e k = record {
  first = t;
  rest = reverse d;
  before = ap reverse e ∙ reverse-append d (t ∷ []);
  after = ap reverse k ∙ reverse-append d (u ∷ []);
  above = refl;
}

pub below_some : (bs : List MarkedPolynomial) (spared : Option Exponents) (s : Split) (j : ℕ) → IsReducibleFirst bs spared s j → s.below ≢ []
below_some bs spared s j r e = absurd (none (sym r.is.is ∙ e))
  where
    none : {f : Terms} {t : Term} → ◌≡◌ {A = Terms} (t ∷ f) [] → ⊥
    none e = cc

-- ---- what the code has checked

-- the mark has the variables of the term
pub mark_length : (bs : List MarkedPolynomial) (j : ℕ) (spared : Option Exponents) (s : Split) (b : MarkedPolynomial) (t : Term) (m : Exponents) →
    IsReducibleFirst bs spared s j → b ≡ get_or bs j b → IsTermInFront s.below t → m ≡ b.head → length m ≡ length t.mono
mark_length bs j spared s b t m r e f q =
    let one : r.divisor.member ≡ b = members_equal bs j r.divisor.member b r.divisor.at (record { within = r.divisor.at.within; is = sym e }) in
    let p : r.term ≡ t = first_is (sym r.is.is ∙ f.is) in
    ap length q ∙ ap (λ (y : MarkedPolynomial). length y.head) (sym one) ∙ r.divisor.head ∙ ap (λ (y : Term). length y.mono) p

pub jump_made : (bs : List MarkedPolynomial) (j : ℕ) (spared : Option Exponents) (s : Split) (k : ℕ) (b : MarkedPolynomial) (t u w : Term)
    (m l o e z : Exponents) → IsReducibleFirst bs spared s j → b ≡ get_or bs j b → IsPair b u → IsTermInFront s.below t → m ≡ b.head → l ≡ m →
    o ≡ u.mono → e ≡ t.mono → z ≡ w.mono → AreAlong k l o e z → length z ≡ length e → Divides m w.mono → AreMissed bs j e z →
    IsSpareOutside spared t.mono w.mono → HasRoom s w.mono → IsMonomial w.mono → w.coef ≡ turned u.coef k t.coef → IsJump bs j spared s k w
jump_made bs j spared s k b t u w m l o e z r a p f em el eo ee ez h n d i x y v c = record {
  member = b;
  at = record { within = r.divisor.at.within; is = sym a };
  other = u;
  pair = p;
  first = t;
  is = f;
  along = subst (λ q. AreAlong k b.head u.mono t.mono q) ez (subst (λ q. AreAlong k b.head u.mono q z) ee (subst (λ q. AreAlong k b.head q e z) eo
      (subst (λ q. AreAlong k q o e z) (el ∙ em) h)));
  coefficient_is = c;
  divides = subst (λ q. Divides q w.mono) em d;
  missed = subst (λ q. AreMissed bs j t.mono q) ez (subst (λ q. AreMissed bs j q z) ee i);
  outside = x;
  room = y;
  variables = sym (ap length ez) ∙ n ∙ ap length ee;
  monomial = v;
}

-- ---- a step after a jump

pub jumped-none : (bs : List MarkedPolynomial) (j : ℕ) (spared : Option Exponents) (s : Split) → ShareVariables s bs spared → IsReducibleFirst bs spared s j →
    IsJumped bs j spared s s
jumped-none bs j spared s v r = record { worked = worked-none bs spared s v; found = r; above = refl; work = λ w m. omega arith }

-- the step
pub jumped_found : (bs : List MarkedPolynomial) (j : ℕ) (spared : Option Exponents) (s t : Split) (b : MarkedPolynomial) → b ≡ get_or bs j b →
    IsJumped bs j spared s t → Found bs spared t j b
jumped_found bs j spared s t b e h = found_at bs spared t j b e h.worked.variables h.found

pub jumped_step : (bs : List MarkedPolynomial) (j : ℕ) (spared : Option Exponents) (s t u : Split) (b : MarkedPolynomial) (q : Term) → b ≡ get_or bs j b →
    IsJumped bs j spared s t → TakesStep b t q u → IsWorkedOn bs spared s u
jumped_step bs j spared s t u b q e h w = worked-more bs spared s t t u j b q refl (jumped_found bs j spared s t b e h) w h.worked

pub jumped_front : (bs : List MarkedPolynomial) (j : ℕ) (spared : Option Exponents) (s t u : Split) (b : MarkedPolynomial) (q : Term) →
    IsJumped bs j spared s t → TakesStep b t q u → IsFrontOf u.above s.above
jumped_front bs j spared s t u b q h w = record { after = w.passed; is = sym h.above ∙ w.above }

pub jumped_less : (bs : List MarkedPolynomial) (j : ℕ) (spared : Option Exponents) (s t u : Split) (b : MarkedPolynomial) (q : Term) → b ≡ get_or bs j b →
    IsJumped bs j spared s t → TakesStep b t q u → LeavesLess bs (joined_terms s) (joined_terms u)
jumped_less bs j spared s t u b q e h k = λ w m. lower (work_left (2 ^ 31) ROOM bs (joined_terms s)) (work_left (2 ^ 31) ROOM bs (joined_terms t))
    (work_left (2 ^ 31) ROOM bs (joined_terms u)) (h.work w m)
    (less_found bs spared w t t u j b q refl m (jumped_found bs j spared s t b e h) k)
  where
    lower : (p q r : ℕ) → q ≤ p → r < q → r < p
    lower p q r a b = omega (arith, a, b)

pub jumped_refused : (bs : List MarkedPolynomial) (j : ℕ) (spared : Option Exponents) (s t : Split) (b : MarkedPolynomial) (r : PolyError) → b ≡ get_or bs j b →
    IsJumped bs j spared s t → IsStepRefusal (joined_terms t) b (head_of t.below 0) r → IsWorkRefusal bs spared (joined_terms s) r
jumped_refused bs j spared s t b r e h k = work_refused bs spared s t t j b r refl (jumped_found bs j spared s t b e h) h.worked k

-- ---- loops of such steps

pub strode : (bs : List MarkedPolynomial) (spared : Option Exponents) (old now s t : Split) → joined_terms s ≡ joined_terms now → IsWorkedOn bs spared old now →
    IsWorkedOn bs spared s t → IsWorkedOn bs spared old t
strode bs spared old now s t e h k = worked_along bs spared old s t (worked-same bs spared old now s e h) k

pub strode_less : (bs : List MarkedPolynomial) (w : List ℕ) (now s t : Split) → joined_terms s ≡ joined_terms now → AreMarked (lighter w) bs →
    LeavesLess bs (joined_terms s) (joined_terms t) → work_left (2 ^ 31) ROOM bs (joined_terms t) < work_left (2 ^ 31) ROOM bs (joined_terms now)
strode_less bs w now s t e m h = subst (λ (f : Terms). work_left (2 ^ 31) ROOM bs (joined_terms t) < work_left (2 ^ 31) ROOM bs f) e (h w m)

pub strode_by_rule : (bs : List MarkedPolynomial) (spared : Option Exponents) (old now s t : Split) → joined_terms s ≡ joined_terms now →
    AreIrreducible bs spared s.above → Working bs spared old now → IsWorkedOn bs spared s t → IsFrontOf t.above s.above → Working bs spared old t
strode_by_rule bs spared old now s t e a h k f = record {
  worked = strode bs spared old now s t e h.worked k;
  above = front_irreducible bs spared t.above f.after s.above f.is a;
}
