-- The run by the rule of the program on linear polynomials and the inverse of a variable, as a saturation has it. The linear ones enter first, and their
-- marks are different variables. What is left of the inverse is t*y - 1, with a variable y that is no mark, or a constant. So all marks are coprime, and
-- what S-polynomials leave is zero: there are no more members, and the exponents stay small.
-- To cite: IsShape, shape_of_relation, widened_forms, run_stays_within. The rest are steps.
use Rattle.std.proofs.Common.{
  ◌≡◌,
  ◌≢◌,
  ◌⊎◌,
  ℕ,
  zero,
  suc,
  ◌+◌,
  ◌*◌,
  ◌<◌,
  ◌≤◌,
  ◌^◌,
  Bool,
  true,
  false,
  List,
  [],
  ◌∷◌,
  ◌++◌,
  map,
  length,
  replicate,
  slice_index_or,
  get_or,
  sum_by,
  Contains,
  arith,
  refl,
  sym,
  ap,
  ◌∙◌,
  subst,
  inl,
  inr,
  length-append,
}
use Rattle.std.proofs.lemmas.Bool.{cases_lt}
use Rattle.std.proofs.lemmas.List.{get_or_append_left}
use Rattle.std.proofs.lemmas.List.Sums.{sum_by-cons}
use Rattle.gf_frac.specs.Fraction.{Fraction, neg_ℚ, one_ℚ}
use Rattle.gf_frac.specs.declared.refusal.Op.{Op}
use Rattle.gf_int_theory.proofs.ListLaws.{Contains-here, Contains-last}
use Rattle.gf_exponents_theory.specs.Exponents.{Exponents, entry, same, plus, minus, join, degree, AreCoprime, IsInRing}
use Rattle.gf_exponents_theory.specs.Orders.{IsWeightedBelow}
use Rattle.gf_exponents_theory.proofs.ExponentsLaws.{same_by_entries, entries_same, entry-plus, entry-minus}
use Rattle.gf_exponents_theory.proofs.WeightLaws.{degree-plus, degree-same}
use Rattle.gf_poly.specs.Polynomial.{Terms, times}
use Rattle.gf_poly.specs.Marking.{MarkedPolynomial, polys}
use Rattle.gf_poly.proofs.MonomialLaws.{entry-ones, degree-ones}
use Rattle.gf_ideal_theory.specs.Membership.{HasMonomial, IsInVariables, AreInVariables, IsMember}
use Rattle.gf_ideal_theory.specs.Marks.{IsMarked, AreMarked}
use Rattle.gf_ideal_theory.specs.MonomialOrders.{MonomialOrder, below_of, Comparison}
use Rattle.gf_ideal_theory.specs.Reduction.{IsDivisible, Reached, IsSPolynomial, IsMonicForm}
use Rattle.gf_ideal_theory.specs.Operands.{AreThese, IsShiftOperation, IsStepExponents}
use Rattle.gf_ideal_theory.specs.Bases.{IsGroebnerBasisFor}
use Rattle.gf_ideal_theory.specs.NormalForms.{IsNormalForm}
use Rattle.gf_ideal_theory.specs.Settled.{IsAt, ArePairsSettled}
use Rattle.gf_ideal_theory.specs.WorkLists.{IsOrigin, IsWorkList, IsTail, IsRunOperation}
use Rattle.gf_ideal_theory.proofs.LawsOfBasesHold.{buchbergers_criterion, pairs_are_settled}
use Rattle.gf_ideal_theory.proofs.ListedTerms.{by_terms, variables_by_terms}
use Rattle.gf_ideal_theory.proofs.MarkWeights.{mark-there}
use Rattle.gf_ideal_theory.proofs.MembershipLaws.{member-generator, variables-equal}
use Rattle.gf_ideal_theory.proofs.NormalFormLaws.{normal_form-reached}
use Rattle.gf_ideal_theory.proofs.PieceLaws.{Contains-marked, Contains-polys}
use Rattle.gf_ideal_theory.proofs.StepLaws.{IsClosed, IsWithin, reached-one, multiple_within, sum_within, taken, monic-monomials, member-reached}
use Rattle.gf_ideal_theory.proofs.StepLaws.{member-s_polynomial, closed-ring, closed-both}
use Rattle.gf_ideal_theory.proofs.WorkLaws.{work-marked}
use Rattle.gf_buchberger.specs.declared.queue.Strategy.{Strategy}
use Rattle.gf_buchberger.specs.declared.queue.Waiting.{Waiting}
use Rattle.gf_buchberger.specs.Generators.{IsEntered}
use Rattle.gf_buchberger.specs.Tasks.{HaveRingVariables}
use Rattle.gf_buchberger.specs.Pairs.{PairMarks, IsPairTable, pairs_below, one_if, is_settled, with_settled, settled_count}
use Rattle.gf_buchberger.specs.Ruled.{IsRuled, IsNextPair, IsRuledOrigin, IsRuledOperation, IsRuledExponents, IsRuledSpent, AreRuledRunsWithinLimits}
use Rattle.gf_buchberger.specs.Runs.{State, with_pair, MembersHaveVariables, IsRun, IsAppended, IsPairWorkedOff, IsSettledBy}
use Rattle.gf_buchberger.proofs.PairsLaws.{settled_count-settle, IsPairTable-settled}
use Rattle.gf_buchberger.proofs.RuledLaws.{run_of_ruled}
use Rattle.gf_bases_theory.proofs.ExistenceLaws.{homogeneous_in_ring}
use Rattle.gf_binomials_theory.specs.Binomials.{AreBinomials}
use Rattle.gf_binomials_theory.proofs.PrincipalRuns.{form_to}
use Rattle.gf_binomials_theory.proofs.RunLaws.{run_fits}
use Rattle.gf_saturation_theory.specs.Saturations.{last_weight}
use Rattle.gf_saturation_theory.proofs.EliminationLaws.{weight-last}
use Rattle.gf_saturate.specs.Widening.{widened_term, rabinowitsch_terms, variable_at}
use Rattle.gf_saturate.specs.Saturating.{step_order, step_list}
use Rattle.gf_saturate.proofs.WideningLaws.{same-widened, length-variable}
use Rattle.gf_saturate.proofs.StepLaws.{mapped-from, extended-ring}
use Rattle.gfan_theory.specs.Linear.{IsLinear, AreLinearForms}
use Rattle.gfan_theory.proofs.LinearRuns.{
  same_or_not,
  entry_low,
  alone,
  coprime_of,
  last_at,
  IsOfDegree,
  AreLinearMembers,
  plain,
  join_low,
  closed-degree,
  at_contained,
  more,
  few_members,
  pairs_mono,
}

-- ---- monomials t*y, with a variable y, and 1, where t is the variable after the first n

abbrev pub IsShape : ℕ → Exponents → Type 0
IsShape n x = (degree x ≡ 2 * entry x n) × (entry x n ≤ 1)

shape_along : (n : ℕ) (x y : Exponents) → same x y ≡ true → IsShape n x → IsShape n y
shape_along n x y s h =
    let d = degree-same x y s in
    let e = entries_same x y s n in
    let p = h.0 in
    let q = h.1 in
    (omega (arith, d, e, p), omega (arith, e, q))

last_one : (n : ℕ) → (degree (replicate n 0 ++ 1 ∷ []) ≡ 1) × (entry (replicate n 0 ++ 1 ∷ []) n ≡ 1)
last_one zero = (omega arith, refl)
last_one (suc n) = let r = last_one n in let p = r.0 in (omega (arith, p), r.1)

product_shape : (n k : ℕ) → k < n → (degree (variable_at n k ++ 1 ∷ []) ≡ 2) × (entry (variable_at n k ++ 1 ∷ []) n ≡ 1)
product_shape zero k l = absurd (omega (arith, l))
product_shape (suc n) zero l = let r = last_one n in let p = r.0 in (omega (arith, p), r.1)
product_shape (suc n) (suc k) l = let r = product_shape n k (omega (arith, l)) in let p = r.0 in (omega (arith, p), r.1)

-- of t*x - 1
pub shape_of_relation : (n k : ℕ) → k < n → (x : Exponents) → HasMonomial (rabinowitsch_terms (variable_at n k)) x → IsShape n x
shape_of_relation n k l x m = by_terms (IsShape n) (rabinowitsch_terms (variable_at n k)) (shape_along n) (
  (let r = product_shape n k l in let p = r.0 in let q = r.1 in (omega (arith, p, q), omega (arith, q))),
  (
    (let p = degree-ones (length (variable_at n k) + 1) in
        let q = entry-ones (length (variable_at n k) + 1) n in
        (omega (arith, p, q), omega (arith, q))),
    tt,
  ),
) x m

-- a linear polynomial in one more variable
widened_linear : (f : Terms) → IsLinear f → IsLinear (map widened_term f)
widened_linear f h x m = h x (λ z. m (sym (same-widened f x) ∙ z))

pub widened_forms : (n : ℕ) (gs : List Terms) → AreLinearForms n gs → AreLinearForms n (map (map widened_term) gs)
widened_forms n gs d = record {
  variables = λ f c. let g = mapped-from (map widened_term) gs f c in
      subst (IsInVariables n) g.2 (variables-equal n g.0 (map widened_term g.0) (same-widened g.0) (d.variables g.0 g.1));
  linear = λ f c. let g = mapped-from (map widened_term) gs f c in subst IsLinear g.2 (widened_linear g.0 (d.linear g.0 g.1));
}

-- ---- linear lists, and such a list with what is left of t*x - 1

record IsLinearList (n : ℕ) (bs : List MarkedPolynomial) : Type 0 where
  members : AreLinearMembers bs
  variables : (b : MarkedPolynomial) → Contains bs b → IsInVariables n b.poly
  heads : (b : MarkedPolynomial) → Contains bs b → IsInRing n b.head

record IsRestOfRelation (n : ℕ) (bs : List MarkedPolynomial) (b : MarkedPolynomial) : Type 0 where
  shape : (x : Exponents) → HasMonomial b.poly x → IsShape n x
  head : IsShape n b.head
  top : (x : Exponents) → HasMonomial b.poly x → entry x n ≤ entry b.head n
  new : IsDivisible (Contains bs) b.head → ⊥

nothing_linear : (n : ℕ) → IsLinearList n []
nothing_linear n = record {
  members = record {
    heads = λ b c. absurd (omega (arith, c.1));
    within = λ b c. absurd (omega (arith, c.1));
    apart = λ i j b c l p q s. absurd (let k = p.within in omega (arith, k));
  };
  variables = λ b c. absurd (omega (arith, c.1));
  heads = λ b c. absurd (omega (arith, c.1));
}

-- the normal form of a linear polynomial joins
more_linear : (n : ℕ) (bs : List MarkedPolynomial) (f r : Terms) (b : MarkedPolynomial) → IsLinearList n bs → IsLinear f → IsInVariables n f →
    IsNormalForm bs f r → IsMonicForm r b → IsLinearList n (bs ++ b ∷ [])
more_linear n bs f r b m p q h o = record {
  members = more bs r b m.members (λ x y. (inside x y).0) o (h.irreducible b.head o.there);
  variables = λ c i. elim (Contains-last bs b c i) [
    | inl j ↦ m.variables c j
    | inr e ↦ subst (λ (z : MarkedPolynomial). IsInVariables n z.poly) (sym e) (λ x y. (inside x (monic-monomials r b o x y)).1)
  ];
  heads = λ c i. elim (Contains-last bs b c i) [
    | inl j ↦ m.heads c j
    | inr e ↦ subst (λ (z : MarkedPolynomial). IsInRing n z.head) (sym e) (inside b.head o.there).1
  ];
}
  where
    inside : (x : Exponents) → HasMonomial r x → IsOfDegree 1 x × IsInRing n x
    inside = (taken (Contains bs) (λ x. IsOfDegree 1 x × IsInRing n x) f r
        (closed-both (Contains bs) (IsOfDegree 1) (IsInRing n) (closed-degree 1 bs (plain bs m.members)) (closed-ring n (Contains bs) m.variables))
        (λ x y. (p x y, q x y)) (normal_form-reached bs f r h.reached)).within

closed-shape : (n : ℕ) (bs : List MarkedPolynomial) → IsLinearList n bs → IsClosed (Contains bs) (IsShape n)
closed-shape n bs m = record {
  along = shape_along n;
  lower = λ b c u t q h.
      let d = degree-plus u t in
      let e = degree-plus u b.head in
      let f = entry-plus u t n in
      let g = entry-plus u b.head n in
      let one = m.members.heads b c in
      let other = m.members.within b c t q in
      let free = m.heads b c n (omega arith) in
      let none = m.variables b c t q n (omega arith) in
      let left = h.0 in
      let right = h.1 in
      (omega (arith, d, e, f, g, one, other, free, none, left), omega (arith, f, g, free, none, right));
}

-- a monomial that isn't above the mark has no more of t
no_more : (n : ℕ) (x y : Exponents) → (same x y ≡ true) ⊎ IsWeightedBelow (last_weight n) x y → entry x n ≤ entry y n
no_more n x y (inl s) = let e = entries_same x y s n in omega (arith, e)
no_more n x y (inr (inl l)) = let p = weight-last n x in let q = weight-last n y in omega (arith, p, q, l)
no_more n x y (inr (inr e)) = let p = weight-last n x in let q = weight-last n y in let r = e.0 in omega (arith, p, q, r)

-- the normal form of t*x - 1
rest_of_relation : (n k : ℕ) (bs : List MarkedPolynomial) (r : Terms) (b : MarkedPolynomial) → k < n → IsLinearList n bs →
    IsNormalForm bs (rabinowitsch_terms (variable_at n k)) r → IsMonicForm r b → IsMarked (below_of (step_order n)) b → IsRestOfRelation n bs b
rest_of_relation n k bs r b l m h o q = record {
  shape = λ x y. inside x (monic-monomials r b o x y);
  head = inside b.head o.there;
  top = λ x y. no_more n x b.head (q.tail x y);
  new = h.irreducible b.head o.there;
}
  where
    inside : (x : Exponents) → HasMonomial r x → IsShape n x
    inside = (taken (Contains bs) (IsShape n) (rabinowitsch_terms (variable_at n k)) r (closed-shape n bs m) (shape_of_relation n k l)
        (normal_form-reached bs (rabinowitsch_terms (variable_at n k)) r h.reached)).within

-- ---- lists with coprime marks

-- marks of a degree up to 2, no two with a variable in common, and the other monomials of no greater degree
record AreCoprimeMembers (bs : List MarkedPolynomial) : Type 0 where
  short : (b : MarkedPolynomial) → Contains bs b → degree b.head ≤ 2
  within : (b : MarkedPolynomial) → Contains bs b → (x : Exponents) → HasMonomial b.poly x → degree x ≤ degree b.head
  apart : (i j : ℕ) (b c : MarkedPolynomial) → i < j → IsAt bs i b → IsAt bs j c → AreCoprime b.head c.head

linear_coprime : (n : ℕ) (bs : List MarkedPolynomial) → IsLinearList n bs → AreCoprimeMembers bs
linear_coprime n bs m = record {
  short = λ b c. let p = m.members.heads b c in omega (arith, p);
  within = λ b c x y. let p = m.members.heads b c in let q = m.members.within b c x y in omega (arith, p, q);
  apart = λ i j b c l p q. coprime_of b.head c.head (m.members.heads b (at_contained bs i b p)) (m.members.heads c (at_contained bs j c q))
      (m.members.apart i j b c l p q);
}

-- a variable that doesn't divide h isn't in it
coprime_with : (x h : Exponents) → degree x ≡ 1 → ((u : Exponents) → same h (plus u x) ≡ true → ⊥) → AreCoprime x h
coprime_with x h d none i = at (same_or_not (entry x i) 0) (same_or_not (entry h i) 0)
  where
    at : (entry x i ≡ 0) ⊎ (entry x i ≡ 0 → ⊥) → (entry h i ≡ 0) ⊎ (entry h i ≡ 0 → ⊥) → (entry x i ≡ 0) ⊎ (entry h i ≡ 0)
    at (inl z) s = inl z
    at (inr p) (inl z) = inr z
    at (inr p) (inr q) = absurd (none (minus h x) (same_by_entries h (plus (minus h x) x) whole))
      where
        some : (a : ℕ) → (a ≡ 0 → ⊥) → 1 ≤ a
        some zero o = absurd (o refl)
        some (suc a) o = omega arith

        below : (k : ℕ) → (k ≡ i) ⊎ (k ≡ i → ⊥) → entry x k ≤ entry h k
        below k (inl e) =
            let a = entry_low x i in
            let b = some (entry h i) q in
            subst (λ (j : ℕ). entry x j ≤ entry h j) (sym e) (omega (arith, a, b, d))
        below k (inr o) = let z = alone x i k d (some (entry x i) p) o in omega (arith, z)

        whole : (k : ℕ) → entry h k ≡ entry (plus (minus h x) x) k
        whole k =
            let a = entry-plus (minus h x) x k in
            let b = entry-minus h x k in
            let c = below k (same_or_not k i) in
            omega (arith, a, b, c)

-- an index of a list with one more is an index of the list, or the last one
index_in : (ls : List MarkedPolynomial) (b c : MarkedPolynomial) (j : ℕ) → IsAt (ls ++ b ∷ []) j c → IsAt ls j c ⊎ ((j ≡ length ls) × (c ≡ b))
index_in ls b c j p = at (cases_lt j (length ls))
  where
    at : (j < length ls) ⊎ (length ls ≤ j) → IsAt ls j c ⊎ ((j ≡ length ls) × (c ≡ b))
    at (inl l) = inl (record { within = l; is = sym (get_or_append_left ls (b ∷ []) c j l) ∙ p.is })
    at (inr l) =
        let long : length (ls ++ b ∷ []) ≡ length ls + 1 = length-append ls (b ∷ []) in
        let inside : j < length (ls ++ b ∷ []) = p.within in
        let end : j ≡ length ls = omega (arith, long, inside, l) in
        inr (end, sym p.is ∙ ap (λ (z : ℕ). get_or (ls ++ b ∷ []) z c) end ∙ last_at ls b c)

rest_coprime : (n : ℕ) (ls : List MarkedPolynomial) (b : MarkedPolynomial) → IsLinearList n ls → IsRestOfRelation n ls b → AreCoprimeMembers (ls ++ b ∷ [])
rest_coprime n ls b m t = record {
  short = λ c i. elim (Contains-last ls b c i) [
    | inl j ↦ linear.short c j
    | inr e ↦ subst (λ (z : MarkedPolynomial). degree z.head ≤ 2) (sym e) (let p = t.head.0 in let q = t.head.1 in omega (arith, p, q))
  ];
  within = λ c i. elim (Contains-last ls b c i) [
    | inl j ↦ linear.within c j
    | inr e ↦ subst (λ (z : MarkedPolynomial). (x : Exponents) → HasMonomial z.poly x → degree x ≤ degree z.head) (sym e)
        (λ x y. let p = t.head.0 in let q = (t.shape x y).0 in let r = t.top x y in omega (arith, p, q, r))
  ];
  apart = λ i j c e l p q. at i j c e l (index_in ls b c i p) (index_in ls b e j q);
}
  where
    linear : AreCoprimeMembers ls
    linear = linear_coprime n ls m

    at : (i j : ℕ) (c e : MarkedPolynomial) → i < j → IsAt ls i c ⊎ ((i ≡ length ls) × (c ≡ b)) → IsAt ls j e ⊎ ((j ≡ length ls) × (e ≡ b)) →
        AreCoprime c.head e.head
    at i j c e l (inl p) (inl q) = linear.apart i j c e l p q
    at i j c e l (inr p) (inl q) = absurd (let a = p.0 in let k = q.within in omega (arith, l, a, k))
    at i j c e l (inr p) (inr q) = absurd (let a = p.0 in let k = q.0 in omega (arith, l, a, k))
    at i j c e l (inl p) (inr q) =
        subst (λ (z : MarkedPolynomial). AreCoprime c.head z.head) (sym q.1)
        (coprime_with c.head b.head (m.members.heads c (at_contained ls i c p))
        (λ u s. t.new (record { member = c; contained = at_contained ls i c p; rest = u; divides = s })))

-- such a list is a Gröbner basis of the ideal that it generates: what an S-polynomial leaves is no new member
none_new : (w : List ℕ) (n : ℕ) (bs : List MarkedPolynomial) (b c e : MarkedPolynomial) (f g : Terms) → AreCoprimeMembers bs → AreInVariables n (polys bs) →
    AreMarked (below_of (MonomialOrder.weighted w)) bs → Contains bs b → Contains bs c → IsSPolynomial b c f → Reached (Contains bs) f g → IsMonicForm g e →
    IsMarked (below_of (MonomialOrder.weighted w)) e → IsDivisible (Contains bs) e.head
none_new w n bs b c e f g m v marked k l s r q h =
    basis.initial g member e.head (record { there = q.there; greatest = λ y t. h.tail y (form_to g e y q t) })
  where
    pairs : ArePairsSettled n bs (below_of (MonomialOrder.weighted w))
    pairs i j x y less p o =
        pairs_are_settled.by_product (Comparison.by_order (MonomialOrder.weighted w)) n bs x y v marked (at_contained bs i x p) (at_contained bs j y o)
        (m.apart i j x y less p o)

    basis : IsGroebnerBasisFor n (polys bs) (below_of (MonomialOrder.weighted w)) bs
    basis = buchbergers_criterion.for_order (MonomialOrder.weighted w) n [] bs tt v (homogeneous_in_ring n (polys bs) v) marked pairs

    inside : (z : MarkedPolynomial) → Contains bs z → IsMember n (polys bs) z.poly
    inside z t = member-generator n (polys bs) z.poly (Contains-polys bs z t)

    there : (z : MarkedPolynomial) → Contains bs z → HasMonomial z.poly z.head
    there z t = mark-there (below_of (MonomialOrder.weighted w)) z (marked z t)

    member : IsMember n (polys bs) g
    member = member-reached n (polys bs) (Contains bs) f g v inside r
        (member-s_polynomial n (polys bs) b c f v (there b k) (there c l) (inside b k) (inside c l) s)

-- ---- sums of exponents by such a list

abbrev IsUpTo : ℕ → Exponents → Type 0
IsUpTo k x = degree x ≤ k

closed-up_to : (k : ℕ) (bs : List MarkedPolynomial) → AreCoprimeMembers bs → IsClosed (Contains bs) (IsUpTo k)
closed-up_to k bs m = record {
  along = λ x y s h. let d = degree-same x y s in omega (arith, d, h);
  lower = λ b c u t q h.
      let d = degree-plus u t in
      let e = degree-plus u b.head in
      let f = m.within b c t q in
      omega (arith, d, e, f, h);
}

small_member : (bs : List MarkedPolynomial) (b : MarkedPolynomial) → AreCoprimeMembers bs → Contains bs b → IsWithin (IsUpTo 2) b.poly
small_member bs b m c x y = let p = m.short b c in let q = m.within b c x y in omega (arith, p, q)

shift_small : (u : Exponents) (b : MarkedPolynomial) (left right : ℕ) → degree u ≤ 4 → IsWithin (IsUpTo 2) b.poly → IsShiftOperation u b.poly left right →
    left + right < 2 ^ 31
shift_small u b left right l m o = at o.operands
  where
    at : AreThese (entry u o.variable) (entry o.monomial o.variable) left right → left + right < 2 ^ 31
    at t =
        let p = entry_low u o.variable in
        let q = entry_low o.monomial o.variable in
        let r = m o.monomial o.there in
        elim t [
          | inl x ↦ (let y = x.0 in let z = x.1 in omega (arith, p, q, r, l, y, z))
          | inr x ↦
              (let y = x.0 in let z = x.1 in omega (arith, p, q, r, l, y, z))
        ]

step_small : (bs : List MarkedPolynomial) (f : Terms) (at : Exponents) (left right : ℕ) → AreCoprimeMembers bs → IsWithin (IsUpTo 4) f →
    IsStepExponents (Contains bs) f at left right → left + right < 2 ^ 31
step_small bs f at left right m w o =
    let p : degree at ≤ 4 = w at o.index.there in
    let q = degree-same at (plus o.rest o.member.head) o.index.divides in
    let r = degree-plus o.rest o.member.head in
    shift_small o.rest o.member left right (omega (arith, p, q, r)) (small_member bs o.member m o.index.contained) o.sum

-- the marks of two members have a least common multiple of a degree up to 4
join_small : (bs : List MarkedPolynomial) (b c : MarkedPolynomial) → AreCoprimeMembers bs → Contains bs b → Contains bs c → degree (join b.head c.head) ≤ 4
join_small bs b c m k l =
    let p = join_low b.head c.head in
    let q = m.short b k in
    let r = m.short c l in
    omega (arith, p, q, r)

s_polynomial_small : (bs : List MarkedPolynomial) (b c : MarkedPolynomial) (f : Terms) → AreCoprimeMembers bs → Contains bs b → Contains bs c →
    IsSPolynomial b c f → IsWithin (IsUpTo 4) f
s_polynomial_small bs b c f m k l s = sum_within (IsUpTo 4) (times one_ℚ s.left b.poly) (times (neg_ℚ one_ℚ) s.right c.poly) f
    (multiple_within (Contains bs) (IsUpTo 4) b one_ℚ s.left (closed-up_to 4 bs m) k (up_to s.left b.head s.of_left))
    (multiple_within (Contains bs) (IsUpTo 4) c (neg_ℚ one_ℚ) s.right (closed-up_to 4 bs m) l (up_to s.right c.head s.of_right)) s.equal
  where
    up_to : (u x : Exponents) → same (plus u x) (join b.head c.head) ≡ true → degree (plus u x) ≤ 4
    up_to u x e = let p = degree-same (plus u x) (join b.head c.head) e in let q = join_small bs b c m k l in omega (arith, p, q)

tail_small : (bs : List MarkedPolynomial) (b : MarkedPolynomial) → AreCoprimeMembers bs → IsTail bs b → IsWithin (IsUpTo 4) b.poly
tail_small bs b m (IsTail.member e c) = λ x y. let p = small_member bs b m c x y in omega (arith, p)
tail_small bs c m (IsTail.step b e t h s k) =
    (taken (Contains bs) (IsUpTo 4) b.poly c.poly (closed-up_to 4 bs m) (tail_small bs b m t) (reached-one (Contains bs) b.poly c.poly s)).within

-- ---- counts of pairs

set_fewer : (ms : List Bool) → sum_by one_if ms ≤ length ms
set_fewer [] = omega arith
set_fewer (true ∷ ms) = let e = sum_by-cons one_if true ms in omega (arith, e, set_fewer ms)
set_fewer (false ∷ ms) = let e = sum_by-cons one_if false ms in omega (arith, e, set_fewer ms)

-- of pairs of which one isn't settled fewer are settled than there are
settled_fewer : (t : PairMarks) (i j : ℕ) → IsPairTable t → i < j → j < t.members → is_settled t i j ≡ false → settled_count t < pairs_below t.members
settled_fewer t i j v l m e =
    let one : settled_count (with_settled t i j) ≡ suc (settled_count t) = settled_count-settle t i j v l m e in
    let some : settled_count (with_settled t i j) ≤ length (with_settled t i j).marks = set_fewer (with_settled t i j).marks in
    let all : length (with_settled t i j).marks ≡ pairs_below t.members = (IsPairTable-settled t i j v).each in
    omega (arith, one, some, all)

-- ---- the run

at_last : (fs : List Terms) (r f : Terms) → slice_index_or (fs ++ r ∷ []) (length fs) f ≡ r
at_last [] r f = refl
at_last (g ∷ fs) r f = at_last fs r f

-- once i generators have entered, of which the linear ones are the first `many`: linear members, or these and what is left of t*x - 1, which enters last
data AreMembersAt (n many i : ℕ) (bs : List MarkedPolynomial) : Type 0 where
  linear : IsLinearList n bs → AreMembersAt n many i bs
  whole : i ≡ many + 1 → (ls : List MarkedPolynomial) (b : MarkedPolynomial) → bs ≡ ls ++ b ∷ [] → IsLinearList n ls → IsRestOfRelation n ls b →
      AreMembersAt n many i bs

module _ (strategy : Strategy) (n k : ℕ) (gs : List Terms) (l : k < n) (v : HaveRingVariables n gs) (d : AreLinearForms n gs) where
  abbrev order : MonomialOrder
  order = step_order n

  -- the linear polynomials come first
  abbrev front : List Terms
  front = map (map widened_term) gs

  abbrev relation : Terms
  relation = rabinowitsch_terms (variable_at n k)

  abbrev fs : List Terms
  fs = step_list n k gs

  ring : HaveRingVariables (n + 1) fs
  ring = extended-ring n (variable_at n k) gs (length-variable n k l) v

  long : length fs ≡ length front + 1
  long = length-append front (relation ∷ [])

  run : (i : ℕ) (s : State) → IsRuled strategy order fs i s → IsRun order (n + 1) fs s
  run i s r = run_of_ruled strategy order (n + 1) fs i s ring r

  in_ring : (bs : List MarkedPolynomial) → MembersHaveVariables (n + 1) bs → AreInVariables (n + 1) (polys bs)
  in_ring bs m f c = let b = Contains-marked bs f c in subst (IsInVariables (n + 1)) b.2 (variables_by_terms (n + 1) b.0.poly (m.polys b.0 b.1))

  forms : AreLinearForms n front
  forms = widened_forms n gs d

  abbrev AreAt : ℕ → List MarkedPolynomial → Type 0
  AreAt i bs = AreMembersAt n (length front) i bs

  coprime : (i : ℕ) (bs : List MarkedPolynomial) → AreAt i bs → AreCoprimeMembers bs
  coprime i bs (AreMembersAt.linear m) = linear_coprime n bs m
  coprime i bs (AreMembersAt.whole e ls b is m t) = subst AreCoprimeMembers (sym is) (rest_coprime n ls b m t)

  few : (i : ℕ) (bs : List MarkedPolynomial) → AreAt i bs → length bs ≤ n + 1
  few i bs (AreMembersAt.linear m) = let p = few_members n bs m.members m.heads in omega (arith, p)
  few i bs (AreMembersAt.whole e ls b is m t) =
      let p = few_members n ls m.members m.heads in
      let q : length bs ≡ length ls + 1 = ap length is ∙ length-append ls (b ∷ []) in
      omega (arith, p, q)

  -- one generator more
  enter : (j : ℕ) (f : Terms) (old new : State) → j < length fs → slice_index_or fs j f ≡ f → IsEntered order f old new → AreAt j old.members →
      AreAt (j + 1) new.members
  enter j f old new less q h (AreMembersAt.whole e ls b is m t) = absurd (let w = long in omega (arith, e, less, w))
  enter j f old new less q h (AreMembersAt.linear m) = at h.left
    where
      joined : (b : MarkedPolynomial) → IsMonicForm h.r b → IsMarked (below_of order) b → (j < length front) ⊎ (length front ≤ j) →
          AreAt (j + 1) (old.members ++ b ∷ [])
      joined b o marked (inl i) =
          let c : Contains front f = (j, i, sym (get_or_append_left front (relation ∷ []) f j i) ∙ q) in
          AreMembersAt.linear (more_linear n old.members f h.r b m (forms.linear f c) (forms.variables f c) h.rule o)
      joined b o marked (inr i) =
          let w = long in
          let end : j ≡ length front = omega (arith, less, w, i) in
          let is : f ≡ relation = sym q ∙ ap (λ (z : ℕ). slice_index_or fs z f) end ∙ at_last front relation f in
          AreMembersAt.whole (omega (arith, end)) old.members b refl m
          (rest_of_relation n k old.members h.r b l m (subst (λ (z : Terms). IsNormalForm old.members z h.r) is h.rule) o marked)

      at : ((h.r ≡ []) × (new ≡ old)) ⊎ ((h.r ≢ []) × IsAppended order h.r old new) → AreAt (j + 1) new.members
      at (inl p) = AreMembersAt.linear (subst (λ (z : State). IsLinearList n z.members) (sym p.1) m)
      at (inr p) =
          subst (AreAt (j + 1)) (sym p.1.members) (joined p.1.member p.1.monic p.1.marked (cases_lt j (length front)))

  -- one pair more
  settle : (w : Waiting) (old new : State) → IsSettledBy order old new w.first w.second → IsRun order (n + 1) fs (with_pair w old) →
      AreAt (length fs) old.members → AreAt (length fs) new.members
  settle w old new b u m = subst (AreAt (length fs)) (sym b.members) (at b.worked)
    where
      at : IsPairWorkedOff order old b.middle w.first w.second → AreAt (length fs) b.middle.members
      at (inl p) = subst (λ (z : State). AreAt (length fs) z.members) (sym p.1) m
      at (inr p) = elim p.left [
        | inl q ↦ subst (λ (z : State). AreAt (length fs) z.members) (sym q.1) m
        | inr q ↦ absurd (p.rule.irreducible q.1.member.head q.1.monic.there
            (none_new (last_weight n) (n + 1) old.members p.b p.c q.1.member p.s p.r (coprime (length fs) old.members m) (in_ring old.members u.variables)
            (work-marked fs (below_of order) old.members u.work) (at_contained old.members w.first p.b p.at_i) (at_contained old.members w.second p.c p.at_j)
            p.is_s (normal_form-reached old.members p.s p.r p.rule.reached) q.1.monic q.1.marked))
      ]

  members_at : (i : ℕ) (s : State) → IsRuled strategy order fs i s → AreAt i s.members
  members_at i s (IsRuled.start t b) = AreMembersAt.linear (subst (IsLinearList n) (sym b.members) (nothing_linear n))
  members_at i s (IsRuled.entered j f old new r less q h) = enter j f old new less q h (members_at j old r)
  members_at i s (IsRuled.turned j old new r q) = subst (AreAt j) (sym q.members) (members_at j old r)
  members_at i s (IsRuled.passed w t r first q) = members_at (length fs) (with_pair w t) r
  members_at i s (IsRuled.settled w old new r first b) =
      settle w old new b (run (length fs) (with_pair w old) r) (members_at (length fs) (with_pair w old) r)

  -- at the next pair
  next_coprime : (w : Waiting) (s : State) → IsNextPair strategy order fs w s → AreCoprimeMembers s.members
  next_coprime w s h = coprime (length fs) s.members (members_at (length fs) (with_pair w s) h.ruled)

  origin_coprime : (s : State) (f : Terms) → IsRuledOrigin strategy order fs s f → AreCoprimeMembers s.members
  origin_coprime s f (IsRuledOrigin.generator i r less q) = coprime i s.members (members_at i s r)
  origin_coprime s f (IsRuledOrigin.pair w b c h x y q) = next_coprime w s h

  -- what is reduced has a degree up to 4
  origin_small : (s : State) (f : Terms) → IsRuledOrigin strategy order fs s f → IsWithin (IsUpTo 4) f
  origin_small s f (IsRuledOrigin.generator i r less q) = λ x y. elim (Contains-last front relation f (i, less, q)) [
    | inl c ↦ (let p = forms.linear f c x y in omega (arith, p))
    | inr e ↦
        (let p = shape_of_relation n k l x (subst (λ (z : Terms). HasMonomial z x) e y) in
        let a = p.0 in
        let b = p.1 in
        omega (arith, a, b))
  ]
  origin_small s f (IsRuledOrigin.pair w b c h x y q) =
      s_polynomial_small s.members b c f (next_coprime w s h) (at_contained s.members w.first b x) (at_contained s.members w.second c y) q

  exponents : (left right : ℕ) → IsRuledExponents strategy order fs left right → left + right < 2 ^ 31
  exponents left right (IsRuledExponents.step s f q o) =
      let m = origin_coprime s f q in
      step_small s.members o.from o.at left right m (taken (Contains s.members) (IsUpTo 4) f o.from (closed-up_to 4 s.members m) (origin_small s f q)
      o.reached).within o.sum
  exponents left right (IsRuledExponents.s_polynomial w s b c h x y o) = at o.sum
    where
      m : AreCoprimeMembers s.members
      m = next_coprime w s h

      of_b : Contains s.members b
      of_b = at_contained s.members w.first b x

      of_c : Contains s.members c
      of_c = at_contained s.members w.second c y

      small : (u z : Exponents) → same (plus u z) (join b.head c.head) ≡ true → degree u ≤ 4
      small u z e =
          let p = degree-same (plus u z) (join b.head c.head) e in
          let q = degree-plus u z in
          let r = join_small s.members b c m of_b of_c in
          omega (arith, p, q, r)

      at : IsShiftOperation o.of_b b.poly left right ⊎ IsShiftOperation o.of_c c.poly left right → left + right < 2 ^ 31
      at (inl t) = shift_small o.of_b b left right (small o.of_b b.head o.shift_b) (small_member s.members b m of_b) t
      at (inr t) = shift_small o.of_c c left right (small o.of_c c.head o.shift_c) (small_member s.members c m of_c) t
  exponents left right (IsRuledExponents.tail s r q t) =
      let m = coprime (length fs) s.members (members_at (length fs) s r) in
      step_small s.members t.from.poly t.at left right m (tail_small s.members t.from m t.tail) t.sum

  -- ---- coefficients

  origin_of : (s : State) (f : Terms) → IsRuledOrigin strategy order fs s f → IsWorkList fs (below_of order) s.members × IsOrigin fs s.members f
  origin_of s f (IsRuledOrigin.generator i r less q) = ((run i s r).work, inl (i, less, q))
  origin_of s f (IsRuledOrigin.pair w b c h x y q) = (
    (run (length fs) (with_pair w s) h.ruled).work,
    inr (b, c, at_contained s.members w.first b x, at_contained s.members w.second c y, q),
  )

  operation_of : (op : Op) (left right : Fraction) → IsRuledOperation strategy order fs op left right → IsRunOperation fs (below_of order) op left right
  operation_of op left right (IsRuledOperation.step s f q o) = let w = origin_of s f q in IsRunOperation.step s.members f w.0 w.1 o
  operation_of op left right (IsRuledOperation.s_polynomial w s b c h x y o) =
      IsRunOperation.s_polynomial s.members b c (run (length fs) (with_pair w s) h.ruled).work (at_contained s.members w.first b x)
      (at_contained s.members w.second c y) o
  operation_of op left right (IsRuledOperation.monic s f r at q h g o) =
      let w = origin_of s f q in
      IsRunOperation.monic s.members f r at w.0 w.1 (normal_form-reached s.members f r h.reached) g (λ t. h.irreducible at g.there t) o
  operation_of op left right (IsRuledOperation.tail s r q t) =
      IsRunOperation.tail s.members t.from t.at (run (length fs) s r).work t.tail t.unmarked t.operation

  -- ---- all of it

  pub run_stays_within : (budget : ℕ) → AreBinomials fs → pairs_below (n + 1) ≤ budget → AreRuledRunsWithinLimits strategy order fs budget
  run_stays_within budget two room = record {
    operations = λ op left right o. run_fits fs (below_of order) op left right two (operation_of op left right o);
    exponents = exponents;
    pairs = none;
  }
    where
      none : IsRuledSpent strategy order fs budget → ⊥
      none s =
          let at_pair : IsRun order (n + 1) fs (with_pair s.pair s.at) = run (length fs) (with_pair s.pair s.at) s.next.ruled in
          let valid = at_pair.state.valid s.pair (Contains-here s.pair s.at.queue) in
          let fewer : settled_count s.at.table < pairs_below s.at.table.members =
          settled_fewer s.at.table s.pair.first s.pair.second at_pair.state.table valid.0 (omega (arith, valid.1, at_pair.state.size)) s.unsettled in
          let most = pairs_mono (length s.at.members) (n + 1)
          (few (length fs) s.at.members (members_at (length fs) (with_pair s.pair s.at) s.next.ruled)) in
          absurd (omega (arith, room, most, fewer, s.count, ap pairs_below at_pair.state.size))
