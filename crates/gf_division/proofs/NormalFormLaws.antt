-- The loop of a normal form.
-- To cite: NormalForming, normal_forming-none, normal_forming-more, rule_refused, normal_form_at.
use Rattle.std.specs.Prelude.{◌≡◌, ℕ, List, [], ◌<◌, ◌^◌, Some, None}
use Rattle.std.specs.declared.option.Option.{Option}
use Rattle.std.proofs.Common.{refl, sym, subst, get_or, ◌∙◌}
use Rattle.gf_exponents_theory.specs.Exponents.{Exponents}
use Rattle.gf_exponents_theory.specs.Orders.{lighter}
use Rattle.gf_poly.specs.declared.Term.{Term}
use Rattle.gf_poly.specs.declared.TheConstants.{ROOM}
use Rattle.gf_poly.specs.declared.error.PolyError.{PolyError}
use Rattle.gf_poly.specs.Polynomial.{Terms, IsDescending, HasVariables, KeepsVariables}
use Rattle.gf_poly.specs.Marking.{MarkedPolynomial, head_of, HaveVariables}
use Rattle.gf_ideal_theory.specs.Marks.{AreMarked, HasPositiveWeight}
use Rattle.gf_ideal_theory.specs.Measure.{work_left}
use Rattle.gf_ideal_theory.specs.NormalForms.{IsRuleReached, IsNormalForm}
use Rattle.gf_ideal_theory.proofs.NormalFormLaws.{normal_form-reached}
use Rattle.gf_division.specs.Steps.{IsStepRefusal, IsReductionRefusal}
use Rattle.gf_division.specs.NormalForms.{HasSomeWeight, HaveSameVariables}
use Rattle.gf_division.specs.Dividends.{Split, joined_terms, TakesStep}
use Rattle.gf_division.specs.Reducers.{AreIrreducible, ShareVariables, IsSought}
use Rattle.gf_division.proofs.ReducerLaws.{member_contained}
use Rattle.gf_division.proofs.RuleLaws.{RuleFacts, rule_facts, less_work, rule_step, share_step, keeps_step, keeps_along, front_irreducible, irreducible_whole}
use Rattle.gf_division.proofs.RuleLaws.{all_above, reduction_refused}

-- what holds after some steps of the rule
pub record NormalForming (bs : List MarkedPolynomial) (f : Terms) (s : Split) : Type 0 where
  pub reached : IsRuleReached bs f (joined_terms s)
  pub variables : ShareVariables s bs None
  pub above : AreIrreducible bs None s.above
  pub kept : KeepsVariables f (joined_terms s)

-- at the start the index is above all terms
pub normal_forming-none : (bs : List MarkedPolynomial) (f : Terms) (s : Split) → HaveSameVariables f bs → IsDescending f →
    s ≡ record { above = []; below = f } → NormalForming bs f s
normal_forming-none bs f s v d e = subst (NormalForming bs f) (sym e) (record {
  reached = IsRuleReached.here f (λ x. refl);
  variables = record { n = v.n; sound = record { descending = d; variables = v.poly }; members = v.members; spare = tt };
  above = tt;
  kept = record { at = λ n h. h };
})

-- what the search has found
pub found_facts : (bs : List MarkedPolynomial) (spared : Option Exponents) (old s : Split) (o : Option ℕ) (j : ℕ) (b : MarkedPolynomial) → o ≡ Some j →
    b ≡ get_or bs j b → ShareVariables old bs spared → joined_terms s ≡ joined_terms old → AreIrreducible bs spared s.above → IsSought bs spared s o →
    RuleFacts bs spared s j b
found_facts bs spared old s o j b i e v t a h = rule_facts bs spared old s j b e v t a (subst (IsSought bs spared s) i h)

pub less_left : (bs : List MarkedPolynomial) (spared : Option Exponents) (w : List ℕ) (old s t : Split) (j : ℕ) (b : MarkedPolynomial) (q : Term) →
    joined_terms s ≡ joined_terms old → AreMarked (lighter w) bs → RuleFacts bs spared s j b → TakesStep b s q t → work_left (2 ^ 31) ROOM bs (joined_terms t) <
    work_left (2 ^ 31) ROOM bs (joined_terms old)
less_left bs spared w old s t j b q e m k h = subst (λ (f : Terms). work_left (2 ^ 31) ROOM bs (joined_terms t) < work_left (2 ^ 31) ROOM bs f) e
    (less_work bs spared w s t j b q m k.found h)

pub normal_forming-more : (bs : List MarkedPolynomial) (f : Terms) (old s t : Split) (j : ℕ) (b : MarkedPolynomial) (q : Term) →
    joined_terms s ≡ joined_terms old → RuleFacts bs None s j b → TakesStep b s q t → NormalForming bs f old → NormalForming bs f t
normal_forming-more bs f old s t j b q e k w h = record {
  reached = IsRuleReached.next (joined_terms s) (joined_terms t) (subst (IsRuleReached bs f) (sym e) h.reached) (rule_step bs s t j b q k w);
  variables = share_step bs None s t j b q k.found w;
  above = front_irreducible bs None t.above w.passed s.above w.above k.above;
  kept = keeps_step bs None f s t j b q k.found w (keeps_along f (joined_terms old) (joined_terms s) e h.kept);
}

-- a refusal of the step is one of the reduction
pub rule_refused : (bs : List MarkedPolynomial) (f : Terms) (old s : Split) (j : ℕ) (b : MarkedPolynomial) (e : PolyError) → joined_terms s ≡ joined_terms old →
    RuleFacts bs None s j b → NormalForming bs f old → IsStepRefusal (joined_terms s) b (head_of s.below 0) e → IsReductionRefusal bs f e
rule_refused bs f old s j b e q k h r = reduction_refused bs f (joined_terms s) b (head_of s.below 0) e
    (normal_form-reached bs f (joined_terms s) (subst (IsRuleReached bs f) (sym q) h.reached)) (member_contained bs j b k.found.at) r

-- at the end
pub normal_form_at : (bs : List MarkedPolynomial) (f r : Terms) (old s : Split) → joined_terms s ≡ joined_terms old → s.below ≡ [] → r ≡ joined_terms s →
    AreIrreducible bs None s.above → NormalForming bs f old → IsNormalForm bs f r
normal_form_at bs f r old s e b q a h = record {
  reached = subst (IsRuleReached bs f) (sym (q ∙ e)) h.reached;
  irreducible = irreducible_whole bs r (subst (AreIrreducible bs None) (sym (q ∙ all_above s b)) a);
}

-- ---- the members of a set

pub some_weight : (n : ℕ) (bs cs : List MarkedPolynomial) → cs ≡ bs → HasPositiveWeight n bs → HasSomeWeight cs
some_weight n bs cs e h = subst HasSomeWeight (sym e) (h.0, h.2)

pub same_variables : (n : ℕ) (f g : Terms) (bs cs : List MarkedPolynomial) → g ≡ f → cs ≡ bs → HasVariables n f → HaveVariables n bs → HaveSameVariables g cs
same_variables n f g bs cs e q v w = record { n = n; poly = subst (HasVariables n) (sym e) v; members = subst (HaveVariables n) (sym q) w }
