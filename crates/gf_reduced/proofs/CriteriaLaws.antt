-- Pairs that a criterion settles, or whose S-polynomial reduces to zero, are settled, so that they make a Gröbner basis.
-- To cite: coprime_by_test, excused_coprime, excused_divided, divided_before, redundant_passed, marks_long, multiple_variables, PassedBefore,
-- AllPassedBefore, all_passed_next, vanish_passed, passed_groebner. The rest are steps.
use Rattle.std.specs.Prelude.{◌≡◌, ◌⊎◌, ℕ, zero, suc, ◌+◌, ◌<◌, ◌≤◌, Bool, List, [], length, max, get_or, IsTrue, Contains, map}
use Rattle.std.proofs.Common.{arith, refl, sym, ap, ◌∙◌, subst, inl, inr, eqb}
use Rattle.std.proofs.lemmas.Bool.{cases_lt}
use Rattle.std.proofs.lemmas.List.{get_or_default}
use Rattle.std.proofs.lemmas.Slice.Eq.{slice_eq-Decides}
use Rattle.std.proofs.lemmas.Bool.Decides.{Decides-eqb}
use lib.Pointwise.{pointwise}
use Rattle.gf_exponents_theory.specs.Exponents.{Exponents, entry, plus, join, Divides, AreCoprime}
use Rattle.gf_exponents_theory.specs.Orders.{lighter}
use Rattle.gf_exponents_theory.proofs.ExponentsLaws.{entry-plus, entry-join}
use Rattle.gf_exponents_theory.proofs.OrderLaws.{lighter-strict}
use Rattle.gf_poly.specs.Marking.{MarkedPolynomial, HaveVariables, HasMarkedTerm, polys}
use Rattle.gf_ideal_theory.specs.Membership.{AreInVariables}
use Rattle.gf_ideal_theory.specs.Marks.{AreMarked, IsRealisable}
use Rattle.gf_ideal_theory.specs.Settled.{IsAt, IsSettledPair, ArePairsSettled}
use Rattle.gf_ideal_theory.proofs.CriteriaLaws.{pair_by_steps, pair_by_product, pair_by_chain, pair_turned}
use Rattle.gf_ideal_theory.proofs.LawsOfBasesHold.{buchbergers_criterion}
use Rattle.gf_ideal_theory.proofs.NormalFormLaws.{normal_form-reached}
use Rattle.gf_division.proofs.NeededLaws.{divides_trans}
use Rattle.gf_division.proofs.ReducerLaws.{members_equal, member_contained, member_length}
use Rattle.gf_division.proofs.SPolynomialLaws.{join_length, divides_left}
use Rattle.gf_reduced.specs.Forms.{monic_of}
use Rattle.gf_reduced.specs.Markings.{IsMarkedGroebnerBasis}
use Rattle.gf_reduced.specs.Pairs.{Vanishes, DoAllVanish}
use Rattle.gf_reduced.specs.Criteria.{IsDividedBefore, IsPairExcused, IsPassed, ArePassedFrom, AreAllPassed}
use Rattle.gf_reduced.proofs.FormLaws.{forms-variables, forms_marked_by}
use Rattle.gf_reduced.proofs.GroebnerLaws.{polys_variables, s_at, groebner_of_forms}

-- ---- coprime monomials

equal_by_test : (a b : Exponents) (r : Bool) → r ≡ pointwise eqb a b → IsTrue r → a ≡ b
equal_by_test a b r e t = (slice_eq-Decides Decides-eqb a b (pointwise eqb a b) refl).0 (sym e ∙ t)

either_zero : (a b m : ℕ) → b + a ≡ m → m ≡ max a b → (a ≡ 0) ⊎ (b ≡ 0)
either_zero zero b m p q = inl refl
either_zero (suc a) zero m p q = inr refl
either_zero (suc a) (suc b) m p q = absurd (omega (arith, p, q))

-- the least common multiple of x and y is their product
pub coprime_by_test : (x y u a v m : Exponents) (r : Bool) → plus u x ≡ m → m ≡ join x y → a ≡ u → v ≡ y → r ≡ pointwise eqb a v → IsTrue r → AreCoprime x y
coprime_by_test x y u a v m r p q j k e t i =
    let s : u ≡ y = sym j ∙ equal_by_test a v r e t ∙ k in
    either_zero (entry x i) (entry y i) (entry m i) (sym (entry-plus y x i) ∙ ap (λ (z : Exponents). entry z i) (ap (λ (z : Exponents). plus z x) (sym s) ∙ p))
    (ap (λ (z : Exponents). entry z i) q ∙ entry-join x y i)

-- ---- one pair

pub excused_coprime : (bs : List MarkedPolynomial) (i j : ℕ) (b c : MarkedPolynomial) (x y : Exponents) → IsAt bs i b → IsAt bs j c → x ≡ b.head → y ≡ c.head →
    AreCoprime x y → IsPairExcused bs i j
excused_coprime bs i j b c x y p q e f k = record {
  first = b;
  second = c;
  at_first = p;
  at_second = q;
  criterion = inl (subst (λ (z : Exponents). AreCoprime z c.head) e (subst (AreCoprime x) f k));
}

pub excused_divided : (bs : List MarkedPolynomial) (i j : ℕ) (b c : MarkedPolynomial) (x y m : Exponents) → IsAt bs i b → IsAt bs j c → x ≡ b.head →
    y ≡ c.head → m ≡ join x y → IsDividedBefore bs i m → IsPairExcused bs i j
excused_divided bs i j b c x y m p q e f g d = record {
  first = b;
  second = c;
  at_first = p;
  at_second = q;
  criterion = inr (subst (IsDividedBefore bs i) (g ∙ ap (λ (z : Exponents). join z y) e ∙ ap (join b.head) f) d);
}

pub divided_before : (bs : List MarkedPolynomial) (i k : ℕ) (b : MarkedPolynomial) (h x : Exponents) → IsAt bs k b → k < i → h ≡ b.head → Divides h x →
    IsDividedBefore bs i x
divided_before bs i k b h x p l e d = record { index = k; before = l; member = b; at = p; divides = subst (λ (z : Exponents). Divides z x) e d }

-- where an earlier mark divides that of the member at i, each pair of it with a later member is excused
pub redundant_passed : (bs : List MarkedPolynomial) (i : ℕ) (b : MarkedPolynomial) (x : Exponents) → IsAt bs i b → x ≡ b.head → IsDividedBefore bs i x →
    ArePassedFrom bs i
redundant_passed bs i b x p e d j l h =
    let c : MarkedPolynomial = get_or bs j b in
    let m : Exponents = join b.head c.head in
    inl (record {
      first = b;
      second = c;
      at_first = p;
      at_second = record { within = h; is = get_or_default bs j c b h };
      criterion = inr (record {
        index = d.index;
        before = d.before;
        member = d.member;
        at = d.at;
        divides = divides_trans d.member.head b.head m (subst (Divides d.member.head) e d.divides) (divides_left b.head c.head m refl);
      });
    })

-- ---- variables

pub marks_long : (n : ℕ) (bs : List MarkedPolynomial) (i : ℕ) (b : MarkedPolynomial) (x : Exponents) → HaveVariables n bs → IsAt bs i b → HasMarkedTerm b →
    x ≡ b.head → length x ≡ n
marks_long n bs i b x v p m e = ap (λ (z : Exponents). length z) e ∙ member_length n i bs b v p m

pub multiple_variables : (n : ℕ) (bs : List MarkedPolynomial) (x y m : Exponents) → HaveVariables n bs → length x ≡ n → length y ≡ n → m ≡ join x y →
    HaveVariables (length m) bs
multiple_variables n bs x y m v p q e = subst (λ (k : ℕ). HaveVariables k bs) (sym (join_length x y m (p ∙ sym q) e ∙ p)) v

-- ---- the loops

abbrev pub PassedBefore : List MarkedPolynomial → ℕ → ℕ → Type 0
PassedBefore bs i j = (k : ℕ) → i < k → k < j → IsPassed bs i k

abbrev pub AllPassedBefore : List MarkedPolynomial → ℕ → Type 0
AllPassedBefore bs i = (k : ℕ) → k < i → ArePassedFrom bs k

-- those of one member more
pub all_passed_next : (bs : List MarkedPolynomial) (i : ℕ) → ArePassedFrom bs i → AllPassedBefore bs i → AllPassedBefore bs (i + 1)
all_passed_next bs i p h k l = at (cases_lt k i)
  where
    at : (k < i) ⊎ (i ≤ k) → ArePassedFrom bs k
    at (inl q) = h k q
    at (inr q) = let e : i ≡ k = omega arith in subst (ArePassedFrom bs) e p

-- where all normal forms are zero
pub vanish_passed : (bs : List MarkedPolynomial) → DoAllVanish bs → AreAllPassed bs
vanish_passed bs h i l j q r = inr (h i l j q r)

-- ---- they are settled

module _ (n : ℕ) (w : List ℕ) (bs : List MarkedPolynomial) (v : AreInVariables n (polys bs)) (m : AreMarked (lighter w) bs) (h : AreAllPassed bs) where
  Settled : ℕ → ℕ → Type 0
  Settled i j = (b c : MarkedPolynomial) → IsAt bs i b → IsAt bs j c → IsSettledPair n bs (lighter w) b c

  -- a pair whose S-polynomial has the normal form zero
  by_steps : (i j : ℕ) → Vanishes bs i j → Settled i j
  unfolding Settled
  by_steps i j z b c p q = pair_by_steps n bs (lighter w) b c z.s [] v (lighter-strict w) m (member_contained bs i b p) (member_contained bs j c q)
      (s_at bs i j b c [] z p q) (normal_form-reached bs z.s [] z.normal_form.reached) (inl (λ x. refl))

  -- a pair that a criterion settles, where those of earlier members are settled
  by_criterion : (i j : ℕ) → i < j → ((k l : ℕ) → k < i → k < l → Settled k l) → IsPairExcused bs i j → Settled i j
  unfolding Settled
  by_criterion i j l earlier e b c p q = subst (λ (x : MarkedPolynomial). IsSettledPair n bs (lighter w) x c) (members_equal bs i e.first b e.at_first p)
      (subst (λ (y : MarkedPolynomial). IsSettledPair n bs (lighter w) e.first y) (members_equal bs j e.second c e.at_second q) (at e.criterion))
    where
      one : Contains bs e.first
      one = member_contained bs i e.first e.at_first

      two : Contains bs e.second
      two = member_contained bs j e.second e.at_second

      at : AreCoprime e.first.head e.second.head ⊎ IsDividedBefore bs i (join e.first.head e.second.head) → IsSettledPair n bs (lighter w) e.first e.second
      at (inl k) = pair_by_product n bs (lighter w) e.first e.second v (lighter-strict w) m one two k
      at (inr d) =
          let third : Contains bs d.member = member_contained bs d.index d.member d.at in
          pair_by_chain n bs (lighter w) e.first e.second d.member d.divides.rest v (lighter-strict w) m one two d.divides.product
          (pair_turned n bs (lighter w) d.member e.first v (lighter-strict w) m third one
          (earlier d.index i d.before d.before d.member e.first d.at e.at_first))
          (earlier d.index j d.before (omega (arith, d.before, l)) d.member e.second d.at e.at_second)

  -- the pairs of the member at k, where those of earlier members are settled
  next_settled : (i j : ℕ) → i < j → ((k l : ℕ) → k < i → k < l → Settled k l) → Settled i j
  unfolding Settled
  next_settled i j l earlier b c p q = at (h i p.within j l q.within)
    where
      at : IsPassed bs i j → IsSettledPair n bs (lighter w) b c
      at (inl e) = by_criterion i j l earlier e b c p q
      at (inr z) = by_steps i j z b c p q

  -- all pairs of the members before k
  settled_before : (k i j : ℕ) → i < k → i < j → Settled i j
  settled_before zero i j l q = absurd (omega arith)
  settled_before (suc k) i j l q = at (settled_before k) (cases_lt i k)
    where
      at : ((x y : ℕ) → x < k → x < y → Settled x y) → (i < k) ⊎ (k ≤ i) → Settled i j
      at f (inl s) = f i j s q
      at f (inr s) = next_settled i j q (λ x y t u. f x y (omega (arith, t, l)) u)

  pub all_settled : ArePairsSettled n bs (lighter w)
  unfolding Settled
  all_settled i j b c l p q = settled_before (suc i) i j (omega arith) l b c p q

-- ---- they make a Gröbner basis

pub passed_groebner : (n : ℕ) (bs : List MarkedPolynomial) → HaveVariables n bs → IsRealisable n bs → AreAllPassed (map monic_of bs) →
    IsMarkedGroebnerBasis n bs
passed_groebner n bs v r h = groebner_of_forms n bs v r (buchbergers_criterion.for_weight n r.0 (map monic_of bs) variables r.1 marked
    (all_settled n r.0 (map monic_of bs) variables marked h))
  where
    variables : AreInVariables n (polys (map monic_of bs))
    variables = polys_variables n (map monic_of bs) (forms-variables n bs v)

    marked : AreMarked (lighter r.0) (map monic_of bs)
    marked = forms_marked_by r.0 bs r.2
