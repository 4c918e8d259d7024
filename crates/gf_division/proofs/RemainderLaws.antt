-- Steps at whichever terms: what they lead to, and what is left when no term can be divided any more.
-- To cite: reducible_first, worked-none, worked-more, worked-same, worked_along, less_found, work_refused, work_follows, refusal_follows, Working,
-- working-none, working-more, working_end, share_start, remainder_at, normal_form_of, remainder_refused.
use Rattle.std.specs.Prelude.{◌≡◌, ℕ, ◌<◌, ◌^◌, List, [], Contains, None, Some, IfSome, Result, Ok, Err, OnOk, IfErr}
use Rattle.std.specs.declared.option.Option.{Option}
use Rattle.std.proofs.Common.{refl, sym, ap, subst}
use Rattle.gf_exponents_theory.specs.Exponents.{Exponents}
use Rattle.gf_exponents_theory.specs.Orders.{lighter}
use Rattle.gf_poly.specs.declared.Term.{Term}
use Rattle.gf_poly.specs.declared.TheConstants.{ROOM}
use Rattle.gf_poly.specs.declared.error.PolyError.{PolyError}
use Rattle.gf_poly.specs.declared.error.PolyError.TheVariants as errors
use Rattle.gf_poly.specs.Monomial.{IsMonomial}
use Rattle.gf_poly.specs.Polynomial.{Terms, IsDescending, HasVariables, KeepsVariables}
use Rattle.gf_poly.specs.Marking.{MarkedPolynomial, head_of}
use Rattle.gf_ideal_theory.specs.Marks.{AreMarked}
use Rattle.gf_ideal_theory.specs.Measure.{work_left}
use Rattle.gf_ideal_theory.specs.Reduction.{Reached}
use Rattle.gf_ideal_theory.specs.NormalForms.{IsNormalForm}
use Rattle.gf_division.specs.Steps.{IsStepRefusal, IsReductionRefusal}
use Rattle.gf_division.specs.NormalForms.{HaveSameVariables}
use Rattle.gf_division.specs.Dividends.{Split, joined_terms, IsTermInFront, TakesStep}
use Rattle.gf_division.specs.Reducers.{IsFirstFor, IsBeside, IsDivisorAt, IsReducibleFirst, AreIrreducible, ShareVariables}
use Rattle.gf_division.specs.Remainders.{IsRemainder, ReachedBeside, IsWorkedOn, IsWorkFault, IsWorkRefusal}
use Rattle.gf_division.proofs.DividendLaws.{first_head}
use Rattle.gf_division.proofs.ReducerLaws.{member_contained}
use Rattle.gf_division.proofs.RuleLaws.{Found, share_along, step_by, share_step, keeps_step, keeps_along, less_work, front_irreducible, irreducible_whole}
use Rattle.gf_division.proofs.RuleLaws.{all_above, reduction_refused, no_multiple}
use Rattle.gf_division.proofs.FirstStepLaws.{IsFirstReached}
use Rattle.gf_division.proofs.NormalFormExists.{normal_form-of_first}

-- ---- the index

-- the first term below the index, and the member that reduces it
pub reducible_first : (bs : List MarkedPolynomial) (spared : Option Exponents) (s : Split) (t : Term) (o : Option ℕ) → IsTermInFront s.below t →
    IsMonomial t.mono → IfSome o (IsDivisorAt bs t.mono) → IfSome o (λ _. IsBeside spared t.mono) → IfSome o (IsReducibleFirst bs spared s)
reducible_first bs spared s t (Some j) f m d b = record { term = t; is = f; divisor = d; beside = b; monomial = m }
reducible_first bs spared s t None f m d b = tt

-- ---- steps

pub worked-none : (bs : List MarkedPolynomial) (spared : Option Exponents) (s : Split) → ShareVariables s bs spared → IsWorkedOn bs spared s s
worked-none bs spared s v = record { reached = ReachedBeside.here; variables = v; kept = record { at = λ n h. h } }

reached-same : (bs : List MarkedPolynomial) (spared : Option Exponents) (f g h : Terms) → h ≡ g → ReachedBeside bs spared f g → ReachedBeside bs spared f h
reached-same bs spared f g h e r = subst (ReachedBeside bs spared f) (sym e) r

pub worked-same : (bs : List MarkedPolynomial) (spared : Option Exponents) (old now s : Split) → joined_terms s ≡ joined_terms now →
    IsWorkedOn bs spared old now → IsWorkedOn bs spared old s
worked-same bs spared old now s e h = record {
  reached = reached-same bs spared (joined_terms old) (joined_terms now) (joined_terms s) e h.reached;
  variables = share_along now s bs spared e h.variables;
  kept = keeps_along (joined_terms old) (joined_terms now) (joined_terms s) e h.kept;
}

-- no mark of a member before it divides the monomial
found_first : (bs : List MarkedPolynomial) (spared : Option Exponents) (s : Split) (j : ℕ) (b : MarkedPolynomial) (k : Found bs spared s j b) →
    IsFirstFor bs k.term.mono b
found_first bs spared s j b k = record { index = j; at = k.at; before = λ i c l m. no_multiple c.head k.term.mono (k.first i c l m) }

pub worked-more : (bs : List MarkedPolynomial) (spared : Option Exponents) (old now s t : Split) (j : ℕ) (b : MarkedPolynomial) (q : Term) →
    joined_terms s ≡ joined_terms now → Found bs spared s j b → TakesStep b s q t → IsWorkedOn bs spared old now → IsWorkedOn bs spared old t
worked-more bs spared old now s t j b q e k w h = record {
  reached = ReachedBeside.next (joined_terms s) (joined_terms t) (reached-same bs spared (joined_terms old) (joined_terms now) (joined_terms s) e h.reached)
      (step_by bs spared s t j b q k w) k.beside (found_first bs spared s j b k);
  variables = share_step bs spared s t j b q k w;
  kept = keeps_step bs spared (joined_terms old) s t j b q k w (keeps_along (joined_terms old) (joined_terms now) (joined_terms s) e h.kept);
}

pub reached_along : (bs : List MarkedPolynomial) (spared : Option Exponents) (f g h : Terms) → ReachedBeside bs spared f g → ReachedBeside bs spared g h →
    ReachedBeside bs spared f h
reached_along bs spared f g _ r ReachedBeside.here = r
reached_along bs spared f g _ r (ReachedBeside.next k h q s b d) = ReachedBeside.next k h (reached_along bs spared f g k r q) s b d

pub worked_along : (bs : List MarkedPolynomial) (spared : Option Exponents) (old now new : Split) → IsWorkedOn bs spared old now →
    IsWorkedOn bs spared now new → IsWorkedOn bs spared old new
worked_along bs spared old now new h k = record {
  reached = reached_along bs spared (joined_terms old) (joined_terms now) (joined_terms new) h.reached k.reached;
  variables = k.variables;
  kept = record { at = λ n v. k.kept.at n (h.kept.at n v) };
}

pub reached_by : (bs : List MarkedPolynomial) (spared : Option Exponents) (f g : Terms) → ReachedBeside bs spared f g → Reached (Contains bs) f g
reached_by bs spared f _ ReachedBeside.here = Reached.here f (λ x. refl)
reached_by bs spared f _ (ReachedBeside.next g h r s b d) = Reached.next g h (reached_by bs spared f g r) s

reached_first : (bs : List MarkedPolynomial) (spared : Option Exponents) (f g : Terms) → ReachedBeside bs spared f g → IsFirstReached bs f g
reached_first bs spared f _ ReachedBeside.here = IsFirstReached.here f (λ x. refl)
reached_first bs spared f _ (ReachedBeside.next g h r s b d) = IsFirstReached.next g h (reached_first bs spared f g r) (record { step = s; first = d })

pub less_found : (bs : List MarkedPolynomial) (spared : Option Exponents) (w : List ℕ) (now s t : Split) (j : ℕ) (b : MarkedPolynomial) (q : Term) →
    joined_terms s ≡ joined_terms now → AreMarked (lighter w) bs → Found bs spared s j b → TakesStep b s q t → work_left (2 ^ 31) ROOM bs (joined_terms t) <
    work_left (2 ^ 31) ROOM bs (joined_terms now)
less_found bs spared w now s t j b q e m k h = subst (λ (f : Terms). work_left (2 ^ 31) ROOM bs (joined_terms t) < work_left (2 ^ 31) ROOM bs f) e
    (less_work bs spared w s t j b q m k h)

-- ---- refusals

pub work_refused : (bs : List MarkedPolynomial) (spared : Option Exponents) (old now s : Split) (j : ℕ) (b : MarkedPolynomial) (e : PolyError) →
    joined_terms s ≡ joined_terms now → Found bs spared s j b → IsWorkedOn bs spared old now → IsStepRefusal (joined_terms s) b (head_of s.below 0) e →
    IsWorkRefusal bs spared (joined_terms old) e
work_refused bs spared old now s j b e q k h r = at e r
  where
    fault : (e : PolyError) → IsStepRefusal (joined_terms s) b (head_of s.below 0) e → IsWorkFault bs spared (joined_terms old) e
    fault e r = record {
      from = joined_terms s;
      reached = reached-same bs spared (joined_terms old) (joined_terms now) (joined_terms s) q h.reached;
      at = head_of s.below 0;
      beside = subst (IsBeside spared) (first_head s.below k.term k.is) k.beside;
      member = b;
      contained = member_contained bs j b k.at;
      refused = r;
    }

    at : (e : PolyError) → IsStepRefusal (joined_terms s) b (head_of s.below 0) e → IsWorkRefusal bs spared (joined_terms old) e
    at (errors.Overflow o) r = fault (errors.Overflow o) r
    at (errors.Exponent o) r = fault (errors.Exponent o) r
    at errors.Memory r = tt

pub refused_along : (bs : List MarkedPolynomial) (spared : Option Exponents) (old now : Split) (f : Terms) (e : PolyError) → f ≡ joined_terms now →
    IsWorkedOn bs spared old now → IsWorkRefusal bs spared f e → IsWorkRefusal bs spared (joined_terms old) e
refused_along bs spared old now f e q h r = at e r
  where
    fault : (e : PolyError) → IsWorkFault bs spared f e → IsWorkFault bs spared (joined_terms old) e
    fault e r = record {
      from = r.from;
      reached = reached_along bs spared (joined_terms old) f r.from (reached-same bs spared (joined_terms old) (joined_terms now) f q h.reached) r.reached;
      at = r.at;
      beside = r.beside;
      member = r.member;
      contained = r.contained;
      refused = r.refused;
    }

    at : (e : PolyError) → IsWorkRefusal bs spared f e → IsWorkRefusal bs spared (joined_terms old) e
    at (errors.Overflow o) r = fault (errors.Overflow o) r
    at (errors.Exponent o) r = fault (errors.Exponent o) r
    at errors.Memory r = tt

-- ---- one after the other

pub work_follows : {E : Type 0} (bs : List MarkedPolynomial) (spared : Option Exponents) (old now s new : Split) (x : Result (Unit {0}) E) → s ≡ now →
    IsWorkedOn bs spared old now → OnOk x (IsWorkedOn bs spared s new) → OnOk x (IsWorkedOn bs spared old new)
work_follows bs spared old now s new (Ok u) e h k = worked_along bs spared old now new h (subst (λ (z : Split). IsWorkedOn bs spared z new) e k)
work_follows bs spared old now s new (Err r) e h k = tt

pub refusal_follows : {A : Type 0} (bs : List MarkedPolynomial) (spared : Option Exponents) (old now s : Split) (x : Result A PolyError) → s ≡ now →
    IsWorkedOn bs spared old now → IfErr x (IsWorkRefusal bs spared (joined_terms s)) → IfErr x (IsWorkRefusal bs spared (joined_terms old))
refusal_follows bs spared old now s (Ok a) e h k = tt
refusal_follows bs spared old now s (Err r) e h k = refused_along bs spared old now (joined_terms s) r (ap joined_terms e) h k

-- ---- by the rule

-- what holds while the terms above the index can't be divided
pub record Working (bs : List MarkedPolynomial) (spared : Option Exponents) (old now : Split) : Type 0 where
  pub worked : IsWorkedOn bs spared old now
  pub above : AreIrreducible bs spared now.above

pub working-none : (bs : List MarkedPolynomial) (spared : Option Exponents) (s : Split) → ShareVariables s bs spared → AreIrreducible bs spared s.above →
    Working bs spared s s
working-none bs spared s v a = record { worked = worked-none bs spared s v; above = a }

pub working-more : (bs : List MarkedPolynomial) (spared : Option Exponents) (old now s t : Split) (j : ℕ) (b : MarkedPolynomial) (q : Term) →
    joined_terms s ≡ joined_terms now → AreIrreducible bs spared s.above → Found bs spared s j b → TakesStep b s q t → Working bs spared old now →
    Working bs spared old t
working-more bs spared old now s t j b q e a k w h = record {
  worked = worked-more bs spared old now s t j b q e k w h.worked;
  above = front_irreducible bs spared t.above w.passed s.above w.above a;
}

-- nothing is below the index
pub working_end : (bs : List MarkedPolynomial) (spared : Option Exponents) (s : Split) → s.below ≡ [] → AreIrreducible bs spared s.above →
    AreIrreducible bs spared (joined_terms s)
working_end bs spared s e a = subst (AreIrreducible bs spared) (sym (all_above s e)) a

-- ---- the whole

pub share_start : (f : Terms) (bs : List MarkedPolynomial) (s : Split) → HaveSameVariables f bs → IsDescending f → s ≡ record { above = []; below = f } →
    ShareVariables s bs None
share_start f bs s v d e = subst (λ (z : Split). ShareVariables z bs None) (sym e) (record {
  n = v.n;
  sound = record { descending = d; variables = v.poly };
  members = v.members;
  spare = tt;
})

pub nothing_above : (f : Terms) (bs : List MarkedPolynomial) (spared : Option Exponents) (s : Split) → s ≡ record { above = []; below = f } →
    AreIrreducible bs spared s.above
nothing_above f bs spared s e = subst (λ (z : Split). AreIrreducible bs spared z.above) (sym e) tt

pub terms_start : (f : Terms) (s : Split) → s ≡ record { above = []; below = f } → joined_terms s ≡ f
terms_start f s e = ap joined_terms e

pub remainder_at : (bs : List MarkedPolynomial) (f r : Terms) (old s : Split) → old ≡ record { above = []; below = f } → r ≡ joined_terms s →
    AreIrreducible bs None (joined_terms s) → IsWorkedOn bs None old s → IsRemainder bs f r
remainder_at bs f r old s e q a h = record {
  reached = subst (λ (z : Terms). Reached (Contains bs) z r) (terms_start f old e) (subst (Reached (Contains bs) (joined_terms old)) (sym q)
      (reached_by bs None (joined_terms old) (joined_terms s) h.reached));
  irreducible = irreducible_whole bs r (subst (AreIrreducible bs None) (sym q) a);
}

-- by a weight of the marks it is the normal form, whichever terms were taken
pub normal_form_of : (bs : List MarkedPolynomial) (w : List ℕ) (f r : Terms) (old s : Split) → AreMarked (lighter w) bs →
    old ≡ record { above = []; below = f } → r ≡ joined_terms s → AreIrreducible bs None (joined_terms s) → IsWorkedOn bs None old s → IsNormalForm bs f r
normal_form_of bs w f r old s m e q a h = normal_form-of_first bs w f r m
    (subst (λ (z : Terms). IsFirstReached bs z r) (terms_start f old e) (subst (IsFirstReached bs (joined_terms old)) (sym q)
    (reached_first bs None (joined_terms old) (joined_terms s) h.reached)))
    (irreducible_whole bs r (subst (AreIrreducible bs None) (sym q) a))

pub remainder_keeps : (bs : List MarkedPolynomial) (f r : Terms) (old s : Split) → old ≡ record { above = []; below = f } → r ≡ joined_terms s →
    IsWorkedOn bs None old s → KeepsVariables f r
remainder_keeps bs f r old s e q h = record { at = λ n v. subst (HasVariables n) (sym q) (h.kept.at n (subst (HasVariables n) (sym (terms_start f old e)) v)) }

pub remainder_refused : (bs : List MarkedPolynomial) (f : Terms) (old : Split) (e : PolyError) → old ≡ record { above = []; below = f } →
    IsWorkRefusal bs None (joined_terms old) e → IsReductionRefusal bs f e
remainder_refused bs f old e s r = at e r
  where
    told : (e : PolyError) → IsWorkFault bs None (joined_terms old) e → IsReductionRefusal bs f e
    told e k = subst (λ (z : Terms). IsReductionRefusal bs z e) (terms_start f old s) (reduction_refused bs (joined_terms old) k.from k.member k.at e
        (reached_by bs None (joined_terms old) k.from k.reached) k.contained k.refused)

    at : (e : PolyError) → IsWorkRefusal bs None (joined_terms old) e → IsReductionRefusal bs f e
    at (errors.Overflow o) r = told (errors.Overflow o) r
    at (errors.Exponent o) r = told (errors.Exponent o) r
    at errors.Memory r = tt
