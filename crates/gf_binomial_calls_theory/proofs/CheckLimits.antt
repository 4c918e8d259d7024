-- A marked set of one pure difference binomial, neither of whose monomials divides the other, is checked and reduced within its limits.
-- To cite: checks_within, tails_within. The rest are steps.
use Rattle.std.proofs.Common.{◌≡◌, ◌⊎◌, ℕ, ◌+◌, ◌<◌, ◌≤◌, ◌^◌, true, List, [], ◌∷◌, map, Contains, arith, refl, sym, ap, ◌∙◌, subst, inl, inr}
use Rattle.std.proofs.lemmas.List.Sorted.{Contains-permutation, IsPermutation-sym}
use Rattle.gf_frac.specs.Fraction.{neg_ℚ, one_ℚ}
use Rattle.gf_exponents_theory.specs.Exponents.{Exponents, same, plus, join}
use Rattle.gf_exponents_theory.proofs.ExponentsLaws.{same_flip, same_by_entries, entry-join}
use Rattle.gf_int_theory.proofs.ListLaws.{Contains-here}
use Rattle.gf_poly.specs.declared.error.PolyError.{PolyError}
use Rattle.gf_poly.specs.declared.error.PolyError.TheVariants as errors
use Rattle.gf_poly.specs.Polynomial.{Terms, times}
use Rattle.gf_poly.specs.Marking.{MarkedPolynomial, MarkedPolynomials, IsArranged}
use Rattle.gf_ideal_theory.specs.Membership.{HasMonomial}
use Rattle.gf_ideal_theory.specs.Operands.{IsShiftOperation}
use Rattle.gf_ideal_theory.specs.Reduction.{IsSPolynomial, IsMonicForm}
use Rattle.gf_ideal_theory.proofs.SmallBases.{only}
use Rattle.gf_ideal_theory.proofs.StepLaws.{IsClosed, IsWithin, multiple_within, sum_within, monic-monomials}
use Rattle.gf_division.specs.MonicForms.{IsMadeMonic}
use Rattle.gf_division.specs.SPolynomials.{IsPairExponents}
use Rattle.gf_division.specs.Autoreduction.{AreNeededForms, IsAutoreductionRefusal}
use Rattle.gf_reduced.specs.Forms.{monic_of, monic_set, IsFormRefusal}
use Rattle.gf_reduced.specs.Refusals.{IsPairCause, IsPairsRefusal, AreChecksWithinLimits}
use Rattle.gf_reduced.proofs.FormLaws.{is_form}
use Rattle.gf_binomials_theory.proofs.PrincipalRuns.{IsAmong, AreAmong, there_along, unraised, closed-among, reached_within, shift_short, step_short}
use Rattle.gf_binomials_theory.proofs.PrincipalRuns.{tail_within, form-among}
use Rattle.gf_binomial_calls_theory.specs.Sets.{IsBinomialSet}
use Rattle.gf_binomial_calls_theory.specs.Limits.{IsPlainGenerator, HasExponentsUpTo}
use Rattle.gf_binomial_calls_theory.proofs.CheckLaws.{head_there, member_fits, forms_binomial, pairs_fit, monic_forms_fit}
use Rattle.gf_binomial_calls_theory.proofs.SystemLimits.{marking_within}

join_itself : (h : Exponents) → same (join h h) h ≡ true
join_itself h = same_by_entries (join h h) h (λ i. entry-join h h i ∙ omega arith)

joined : (f : Terms) (x y : Exponents) → x ≡ y → HasMonomial f x → HasMonomial f (join x y)
joined f x y q h = subst (λ (z : Exponents). HasMonomial f (join x z)) q (there_along f x (join x x) (same_flip (join x x) x (join_itself x)) h)

module _ (n : ℕ) (b : MarkedPolynomial) (p : IsBinomialSet (record { variables = n; items = b ∷ [] })) (g : IsPlainGenerator b.poly) where
  there : HasMonomial b.poly b.head
  there = head_there (record { variables = n; items = b ∷ [] }) p b (Contains-here b [])

  -- the monic form has no monomials but those of the member
  among : AreAmong b.poly (map monic_of (b ∷ []))
  among d c = form-among b.poly d (subst (IsMonicForm b.poly) (only (monic_of b) d c) (is_form b there))

  headed : (c d : MarkedPolynomial) → Contains (map monic_of (b ∷ [])) c → Contains (map monic_of (b ∷ [])) d → c.head ≡ d.head
  headed c d hc hd = ap (λ (z : MarkedPolynomial). z.head) (sym (only (monic_of b) c hc) ∙ only (monic_of b) d hd)

  made : (d x : MarkedPolynomial) → Contains (map monic_of (b ∷ [])) d → IsMadeMonic d x → IsAmong b.poly x
  made d x c m = record { head = (among d c).within x.head m.form.there; within = λ z k. (among d c).within z (monic-monomials d.poly x m.form z k) }

  -- ---- pairs

  pair_short : (c d : MarkedPolynomial) (left right : ℕ) → Contains (map monic_of (b ∷ [])) c → Contains (map monic_of (b ∷ [])) d →
      IsPairExponents c d left right → left + right < 2 ^ 31
  pair_short c d left right hc hd (x, y, m, k) = at k.sum
    where
      in_x : IsAmong b.poly x
      in_x = made c x hc m.left

      in_y : IsAmong b.poly y
      in_y = made d y hd m.right

      top : HasMonomial b.poly (join x.head y.head)
      top = joined b.poly x.head y.head (m.left.head ∙ headed c d hc hd ∙ sym m.right.head) in_x.head

      at : IsShiftOperation k.of_b x.poly left right ⊎ IsShiftOperation k.of_c y.poly left right → left + right < 2 ^ 31
      at (inl i) = shift_short b.poly k.of_b x left right g.short in_x
          (unraised b.poly k.of_b x g.antichain in_x (there_along b.poly (join x.head y.head) (plus k.of_b x.head)
          (same_flip (plus k.of_b x.head) (join x.head y.head) k.shift_b) top)) i
      at (inr i) = shift_short b.poly k.of_c y left right g.short in_y
          (unraised b.poly k.of_c y g.antichain in_y (there_along b.poly (join x.head y.head) (plus k.of_c y.head)
          (same_flip (plus k.of_c y.head) (join x.head y.head) k.shift_c) top)) i

  s_polynomial_within : (c d : MarkedPolynomial) (h : Terms) → Contains (map monic_of (b ∷ [])) c → Contains (map monic_of (b ∷ [])) d → IsSPolynomial c d h →
      IsWithin (HasMonomial b.poly) h
  s_polynomial_within c d h hc hd q =
      sum_within (HasMonomial b.poly) (times one_ℚ q.left c.poly) (times (neg_ℚ one_ℚ) q.right d.poly) h
      (multiple_within (Contains (map monic_of (b ∷ []))) (HasMonomial b.poly) c one_ℚ q.left closed hc
      (there_along b.poly (join c.head d.head) (plus q.left c.head) (same_flip (plus q.left c.head) (join c.head d.head) q.of_left) top))
      (multiple_within (Contains (map monic_of (b ∷ []))) (HasMonomial b.poly) d (neg_ℚ one_ℚ) q.right closed hd
      (there_along b.poly (join c.head d.head) (plus q.right d.head) (same_flip (plus q.right d.head) (join c.head d.head) q.of_right) top))
      q.equal
    where
      closed : IsClosed (Contains (map monic_of (b ∷ []))) (HasMonomial b.poly)
      closed = closed-among b.poly (map monic_of (b ∷ [])) g.antichain among

      top : HasMonomial b.poly (join c.head d.head)
      top = joined b.poly c.head d.head (headed c d hc hd) (among c hc).head

  pairs_memory : (e : PolyError) → IsPairsRefusal (map monic_of (b ∷ [])) e → e ≡ errors.Memory
  pairs_memory (errors.Overflow o) q = absurd (pairs_fit (map monic_of (b ∷ [])) o (forms_binomial (record { variables = n; items = b ∷ [] }) p) q)
  pairs_memory (errors.Exponent o) (IsPairCause.s_polynomial c d hc hd r) =
      absurd (let l = pair_short c d o.left o.right hc hd r.0 in let k = r.1 in omega arith)
  pairs_memory (errors.Exponent o) (IsPairCause.reduction c d h hc hd q r) =
      let w = reached_within b.poly (map monic_of (b ∷ [])) h r.0.from g.antichain among (s_polynomial_within c d h hc hd q) r.0.reached in
      absurd (let l = step_short b.poly (map monic_of (b ∷ [])) r.0.from r.0.at o.left o.right g.antichain g.short among w r.0.sum in let k = r.1 in
      omega arith)
  pairs_memory errors.Memory q = refl

  -- ---- the checks

  forms_memory : (e : PolyError) → IsFormRefusal (b ∷ []) e → e ≡ errors.Memory
  forms_memory (errors.Overflow o) f = absurd (member_fits (record { variables = n; items = b ∷ [] }) p f.member o f.contained f.cause)
  forms_memory (errors.Exponent o) f = absurd f
  forms_memory errors.Memory f = refl

  pub checks_within : n ≤ 3 → HasExponentsUpTo 500 b.poly → AreChecksWithinLimits (record { variables = n; items = b ∷ [] })
  checks_within few low = record {
    system = marking_within n (b ∷ []) p.variables (p.marked b (Contains-here b []), tt) few
        (λ d c. subst (λ (z : MarkedPolynomial). HasExponentsUpTo 500 z.poly) (only b d c) low);
    forms = forms_memory;
    pairs = pairs_memory;
  }

  -- ---- the set is reduced

  module _ (t : MarkedPolynomials) (a : IsArranged (monic_set (record { variables = n; items = b ∷ [] })) t) where
    needed_among : (ks : List MarkedPolynomial) → AreNeededForms t.items ks → AreAmong b.poly ks
    needed_among ks m d c =
        let e = m.inside d c in
        made e.member d (Contains-permutation t.items (map monic_of (b ∷ [])) e.member (IsPermutation-sym (map monic_of (b ∷ [])) t.items a.members)
        (e.index, e.needed.at.within, e.needed.at.is)) e.form

    pub tails_within : (e : PolyError) → IsAutoreductionRefusal t.items e → e ≡ errors.Memory
    tails_within (errors.Overflow o) r = absurd (monic_forms_fit (record { variables = n; items = b ∷ [] }) t o p a r)
    tails_within (errors.Exponent o) (inl k) = absurd k.0
    tails_within (errors.Exponent o) (inr (ks, m, k)) =
        let i = needed_among ks m in
        absurd (let l = step_short b.poly ks k.0.from.poly k.0.at o.left o.right g.antichain g.short i (tail_within b.poly ks k.0.from g.antichain i k.0.tail)
        k.0.sum in let h = k.1 in omega arith)
    tails_within errors.Memory r = refl
