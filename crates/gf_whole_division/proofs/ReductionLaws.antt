-- Steps up to a factor.
-- To cite: keeps_refl, keeps_trans, keeps_same, keeps_divided, added_parts, moved_last, coefficient_last, step_kept, divided_parts, remainder_reached,
-- pair_start, pair_started,
-- passed, added, plain_times, divided_lists, divided_at, member_there, reduce_kept, remainder_left, empty_remainder, keeps_first, keeps_pair,
-- not_zero, multiple_empty, more_variables, pair_formed, start_multiple, no_items.
use Rattle.std.specs.Prelude.{◌≡◌, ◌≢◌, ◌↔◌, IsTrue, false, ℕ, ◌+◌, ◌<◌, ℤ, pos}
use Rattle.std.specs.Prelude.{neg_ℤ, true, List, [], ◌∷◌, ◌++◌, length, Contains, None, if◌then◌else◌, Bool}
use Rattle.std.proofs.Common.{arith, refl, sym, ap, ◌∙◌, subst, get_or, take}
use Rattle.std.proofs.lemmas.List.{get_or_default, take_more}
use Rattle.gf_frac.specs.Fraction.{Fraction, whole, ◌+ℚ◌, ◌*ℚ◌, neg_ℚ, zero_ℚ, one_ℚ}
use Rattle.gf_frac.proofs.FractionLaws.{+ℚ_comm, +ℚ_assoc, +ℚ-zero, zero-+ℚ, *ℚ_comm, *ℚ_assoc}
use Rattle.gf_frac.proofs.FractionLaws.{*ℚ-+ℚ, *ℚ-zero, neg_ℚ-*ℚ, *ℚ-neg_ℚ, one-*ℚ, *ℚ-one, zero-not-one}
use Rattle.gf_exponents_theory.specs.Exponents.{Exponents, plus, join, Divides}
use Rattle.gf_exponents_theory.proofs.ExponentsLaws.{plus-nil, same-refl, same_of}
use Rattle.gf_poly.specs.declared.Term.{Term}
use Rattle.gf_poly.specs.Polynomial.{Terms, coefficient, SamePolynomial, times, HasVariables, KeepsVariables}
use Rattle.gf_poly.specs.Marking.{MarkedPolynomial, HasMarkedTerm}
use Rattle.gf_poly.specs.Products.{IsScaled}
use Rattle.gf_poly.proofs.PolynomialLaws.{coefficient-++, coefficient-factor, times-times, times-++, times-plain, SamePolynomial-times}
use Rattle.gf_poly.proofs.DescendingLaws.{HasVariables-push}
use Rattle.gf_poly.proofs.ProductLaws.{nonzero_product, HasVariables-at}
use Rattle.gf_ideal_theory.specs.NormalForms.{IsRuleReached}
use Rattle.gf_ideal_theory.specs.Reduction.{IsStep, Reached, IsIrreducible}
use Rattle.gf_ideal_theory.specs.Settled.{IsAt}
use Rattle.gf_ideal_theory.proofs.StepLaws.{reached-here, reached_trans}
use Rattle.gf_ideal_theory.proofs.Identities.{whole-*}
use Rattle.gf_division.specs.Reducers.{IsFirstFor}
use Rattle.gf_division.specs.Remainders.{ReachedBeside}
use Rattle.gf_division.proofs.FirstStepLaws.{IsFirstReached}
use Rattle.gf_division.proofs.NormalFormExists.{normal_form-of_first}
use Rattle.gf_division.proofs.ReducerLaws.{NoneDivides, member_contained}
use Rattle.gf_division.proofs.RemainderLaws.{reached_by}
use Rattle.gf_division.proofs.RuleLaws.{no_multiple}
use Rattle.gf_division.specs.SPolynomials.{AreLcmCofactors, KeepsPairVariables}
use Rattle.gf_division.proofs.StepLaws.{head_length}
use Rattle.gf_whole.specs.Common.{IsCommonTo}
use Rattle.gf_whole_division.specs.declared.terms.WholeTerm.{WholeTerm}
use Rattle.gf_whole_division.specs.Values.{term_value, whole_terms, HasNone, IsMultipleOf, IsWholeMultiple}
use Rattle.gf_whole_division.specs.Reductions.{IsMultipleReached, KeepsReached, IsRemainderMultiple, IsPairMultiple, IsPairRemainderMultiple, IsDividedAt}
use Rattle.gf_whole_division.proofs.FactorLaws.{multiple_refl, whole-neg, nonzero_whole, nonzero_factor, multiple_trans}
use Rattle.gf_whole_division.proofs.FactorLaws.{multiple_back, multiple-same, times-coefficient, multiple_of_times, none_there, irreducible-multiple}
use Rattle.gf_whole_division.proofs.ValueLaws.{values_push}

-- ---- what is kept

pub keeps_same : (bs : List MarkedPolynomial) (old new : Terms) → SamePolynomial new old → KeepsReached bs old new
keeps_same bs old new s = record { at = λ f r. record { poly = r.poly; reached = r.reached; multiple = multiple-same r.poly old new r.multiple s } }

pub keeps_trans : (bs : List MarkedPolynomial) (f g h : Terms) → KeepsReached bs f g → KeepsReached bs g h → KeepsReached bs f h
keeps_trans bs f g h a b = record { at = λ x r. b.at x (a.at x r) }

-- a divisor is taken out
pub keeps_divided : (bs : List MarkedPolynomial) (old new : Terms) → IsMultipleOf new old → KeepsReached bs old new
keeps_divided bs old new m =
    record { at = λ f r. record { poly = r.poly; reached = r.reached; multiple = multiple_trans r.poly old new r.multiple (multiple_back new old m) } }

-- ---- parts

-- the last of the second part is the last of the first
pub moved_last : (done left : List WholeTerm) (t : WholeTerm) →
    SamePolynomial (whole_terms (done ++ t ∷ []) ++ whole_terms left) (whole_terms done ++ whole_terms (left ++ t ∷ []))
moved_last done left t e =
    coefficient-++ (whole_terms (done ++ t ∷ [])) (whole_terms left) e
    ∙ ap (λ (z : Terms). coefficient z e +ℚ coefficient (whole_terms left) e) (values_push done t)
    ∙ ap (λ z. z +ℚ coefficient (whole_terms left) e) (coefficient-++ (whole_terms done) (term_value t ∷ []) e)
    ∙ +ℚ_assoc (coefficient (whole_terms done) e) (coefficient (term_value t ∷ []) e) (coefficient (whole_terms left) e)
    ∙ ap (λ z. coefficient (whole_terms done) e +ℚ z)
    (+ℚ_comm (coefficient (term_value t ∷ []) e) (coefficient (whole_terms left) e) ∙ sym (coefficient-++ (whole_terms left) (term_value t ∷ []) e) ∙ ap
    (λ (z : Terms). coefficient z e) (sym (values_push left t)))
    ∙ sym (coefficient-++ (whole_terms done) (whole_terms (left ++ t ∷ [])) e)

-- both parts times a number, and more in the second
pub added_parts : (k m : Fraction) (x : Exponents) (f g h l p : Terms) → SamePolynomial h (times k [] f) → SamePolynomial l (times k [] g ++ times m x p) →
    SamePolynomial (h ++ l) (times k [] (f ++ g) ++ times m x p)
added_parts k m x f g h l p eh el e =
    coefficient-++ h l e ∙ ap (λ z. z +ℚ coefficient l e) (eh e)
    ∙ ap (λ z. coefficient (times k [] f) e +ℚ z) (el e ∙ coefficient-++ (times k [] g) (times m x p) e)
    ∙ sym (+ℚ_assoc (coefficient (times k [] f) e) (coefficient (times k [] g) e) (coefficient (times m x p) e))
    ∙ ap (λ z. z +ℚ coefficient (times m x p) e)
    (sym (coefficient-++ (times k [] f) (times k [] g) e) ∙ ap (λ (z : Terms). coefficient z e) (sym (times-++ k [] f g)))
    ∙ sym (coefficient-++ (times k [] (f ++ g)) (times m x p) e)

-- a divisor of both
pub divided_parts : (k : Fraction) (f g h l : Terms) → k ≢ zero_ℚ → f ≡ times k [] h → g ≡ times k [] l → IsMultipleOf (h ++ l) (f ++ g)
divided_parts k f g h l n ef eg =
    multiple_of_times k (h ++ l) (f ++ g) n
    (λ e. ap (λ (z : Terms). coefficient z e) (ap (λ (z : Terms). z ++ g) ef ∙ ap (λ (z : Terms). times k [] h ++ z) eg ∙ sym (times-++ k [] h l)))

-- the coefficient at the monomial of the last term, which no other one has
pub coefficient_last : (done left : Terms) (t : Term) → HasNone t.mono done → HasNone t.mono left → coefficient (done ++ (left ++ t ∷ [])) t.mono ≡ t.coef
coefficient_last done left t hd hl =
    coefficient-++ done (left ++ t ∷ []) t.mono ∙ ap (λ z. z +ℚ coefficient (left ++ t ∷ []) t.mono) (none_there t.mono done hd) ∙ zero-+ℚ
    (coefficient (left ++ t ∷ []) t.mono)
    ∙ coefficient-++ left (t ∷ []) t.mono ∙ ap (λ z. z +ℚ coefficient (t ∷ []) t.mono) (none_there t.mono left hl) ∙ zero-+ℚ (coefficient (t ∷ []) t.mono)
    ∙ ap (λ (b : Bool). (if b then t.coef else zero_ℚ) +ℚ zero_ℚ) (same-refl t.mono) ∙ +ℚ-zero t.coef

-- ---- a step

-- a multiple of a whole multiple
raised_multiple : (c l : Fraction) (x : Exponents) (f p : Terms) → IsScaled l f p → (e : Exponents) →
    coefficient (times c x p) e ≡ (c *ℚ l) *ℚ coefficient (times one_ℚ x f) e
raised_multiple c l x f p s e =
    SamePolynomial-times c x p (times l [] f) (λ y. s y ∙ sym (times-coefficient l f y)) e
    ∙ ap (λ (z : Terms). coefficient z e) (sym (times-times c l x [] f)) ∙ ap (λ (y : Exponents). coefficient (times (c *ℚ l) y f) e) (plus-nil x)
    ∙ coefficient-factor (c *ℚ l) x f e

-- the factors agree
factors : (l g s u c : ℤ) (k a : Fraction) → IsCommonTo l c g s u → whole c ≡ k *ℚ a → whole (neg_ℤ u) *ℚ whole l ≡ (whole s *ℚ k) *ℚ neg_ℚ a
factors l g s u c k a h e =
    ap (λ z. z *ℚ whole l) (whole-neg u) ∙ neg_ℚ-*ℚ (whole u) (whole l)
    ∙ ap neg_ℚ
    (ap (λ z. whole u *ℚ z) (ap whole h.first ∙ whole-* g s) ∙ turned (whole u) (whole g) (whole s) ∙ ap (λ z. whole s *ℚ z)
    (sym (ap whole h.second ∙ whole-* g u) ∙ e) ∙ sym (*ℚ_assoc (whole s) k a))
    ∙ sym (*ℚ-neg_ℚ (whole s *ℚ k) a)
  where
    turned : (u g s : Fraction) → u *ℚ (g *ℚ s) ≡ s *ℚ (g *ℚ u)
    turned u g s = sym (*ℚ_assoc u g s) ∙ *ℚ_comm (u *ℚ g) s ∙ ap (λ z. s *ℚ z) (*ℚ_comm u g)

pub step_kept : (bs : List MarkedPolynomial) (b : MarkedPolynomial) (old new : Terms) (t : WholeTerm) (p : List WholeTerm) (l g s u : ℤ) (x : Exponents) →
    IsFirstFor bs t.kept.value.mono b → IsWholeMultiple l p b.poly → IsCommonTo l t.kept.value.coef g s u → t.kept.value.coef ≢ pos 0 →
    coefficient old t.kept.value.mono ≡ whole t.kept.value.coef → plus x b.head ≡ t.kept.value.mono →
    SamePolynomial new (times (whole s) [] old ++ times (whole (neg_ℤ u)) x (whole_terms p)) → KeepsReached bs old new
step_kept bs b old new t p l g s u x first m common n there product same_new = record { at = kept }
  where
    kept : (f : Terms) → IsMultipleReached bs f old → IsMultipleReached bs f new
    kept f r =
        let k : Fraction = r.multiple.factor in
        let a : Fraction = coefficient r.poly t.kept.value.mono in
        let c : whole t.kept.value.coef ≡ k *ℚ a = sym there ∙ r.multiple.scaled t.kept.value.mono in
        let next : Terms = r.poly ++ times (neg_ℚ a) x b.poly in
        let nz : a ≢ zero_ℚ = λ z. nonzero_whole t.kept.value.coef n (c ∙ ap (λ y. k *ℚ y) z ∙ *ℚ-zero k) in
        let step : IsStep (Contains bs) r.poly next = record {
          at = t.kept.value.mono;
          member = b;
          rest = x;
          contained = member_contained bs first.index b first.at;
          there = nz;
          divides = same_of t.kept.value.mono (plus x b.head) (sym product);
          equal = λ e. refl;
        } in
        record {
          poly = next;
          reached = ReachedBeside.next r.poly next r.reached step tt first;
          multiple = record {
            factor = whole s *ℚ k;
            nonzero = nonzero_product (whole s) k (nonzero_whole s (nonzero_factor l g s m.nonzero common.first)) r.multiple.nonzero;
            scaled = λ e.
                same_new e ∙ coefficient-++ (times (whole s) [] old) (times (whole (neg_ℤ u)) x (whole_terms p)) e
                ∙ ap (λ z. z +ℚ coefficient (times (whole (neg_ℤ u)) x (whole_terms p)) e)
                (times-coefficient (whole s) old e ∙ ap (λ z. whole s *ℚ z) (r.multiple.scaled e) ∙ sym (*ℚ_assoc (whole s) k (coefficient r.poly e)))
                ∙ ap (λ z. (whole s *ℚ k) *ℚ coefficient r.poly e +ℚ z)
                (raised_multiple (whole (neg_ℤ u)) (whole l) x b.poly (whole_terms p) m.scaled e
                ∙ ap (λ z. z *ℚ coefficient (times one_ℚ x b.poly) e) (factors l g s u t.kept.value.coef k a common c)
                ∙ *ℚ_assoc (whole s *ℚ k) (neg_ℚ a) (coefficient (times one_ℚ x b.poly) e)
                ∙ ap (λ z. (whole s *ℚ k) *ℚ z) (sym (coefficient-factor (neg_ℚ a) x b.poly e)))
                ∙ sym (*ℚ-+ℚ (whole s *ℚ k) (coefficient r.poly e) (coefficient (times (neg_ℚ a) x b.poly) e))
                ∙ ap (λ z. (whole s *ℚ k) *ℚ z) (sym (coefficient-++ r.poly (times (neg_ℚ a) x b.poly) e));
          };
        }

-- ---- the beginning and the end

-- steps by first members, up to equal polynomials
first_along : (bs : List MarkedPolynomial) (f g h : Terms) → SamePolynomial g h → IsFirstReached bs f g → IsFirstReached bs f h
first_along bs f g h s (IsFirstReached.here k e) = IsFirstReached.here h (λ x. e x ∙ s x)
first_along bs f g h s (IsFirstReached.next k l r t) = IsFirstReached.next k h r (record {
  step = record {
    at = t.step.at;
    member = t.step.member;
    rest = t.step.rest;
    contained = t.step.contained;
    there = t.step.there;
    divides = t.step.divides;
    equal = λ x. sym (s x) ∙ t.step.equal x;
  };
  first = t.first;
})

first_reached : (bs : List MarkedPolynomial) (f g : Terms) → ReachedBeside bs None f g → IsFirstReached bs f g
first_reached bs f _ ReachedBeside.here = IsFirstReached.here f (λ x. refl)
first_reached bs f _ (ReachedBeside.next g h r s b d) = IsFirstReached.next g h (first_reached bs f g r) (record { step = s; first = d })

-- what is left, divided by a number, is a multiple of a remainder
pub remainder_reached : (bs : List MarkedPolynomial) (f start left p : Terms) → KeepsReached bs start left → IsIrreducible (Contains bs) left →
    IsMultipleOf left p → IsMultipleOf f start → IsRemainderMultiple bs f p
remainder_reached bs f start left p k i m s =
    let r : IsMultipleReached bs f left = k.at f (record { poly = f; reached = ReachedBeside.here; multiple = s }) in
    let back : IsMultipleOf p r.poly = multiple_back r.poly p (multiple_trans r.poly left p r.multiple m) in
    let rest : Terms = times back.factor [] p in
    let eq : SamePolynomial r.poly rest = λ e. back.scaled e ∙ sym (times-coefficient back.factor p e) in
    let none : IsIrreducible (Contains bs) rest =
    irreducible-multiple (Contains bs) rest left (multiple_trans rest r.poly left (multiple_refl rest r.poly eq) r.multiple) i in
    record {
      factor = back.factor;
      nonzero = back.nonzero;
      is = record { reached = reached_trans (Contains bs) f r.poly rest (reached_by bs None f r.poly r.reached) (Reached.here rest eq); irreducible = none };
      normal_form =
          λ h. normal_form-of_first bs h.0 f rest h.1 (first_along bs f r.poly rest eq (first_reached bs f r.poly r.reached)) none;
    }

-- multiples of two members that make one of their S-polynomial
pub pair_start : (b c : MarkedPolynomial) (x y : Exponents) (first h : Terms) (p q : List WholeTerm) (l m g s u : ℤ) → AreLcmCofactors b.head c.head x y →
    IsWholeMultiple l p b.poly → IsWholeMultiple m q c.poly → IsCommonTo l m g s u →
    SamePolynomial first (times one_ℚ [] [] ++ times (whole u) x (whole_terms p)) →
    SamePolynomial h (times one_ℚ [] first ++ times (whole (neg_ℤ s)) y (whole_terms q)) → IsPairMultiple b c h
pair_start b c x y first h p q l m g s u k mp mq common ef eh = record {
  s = times one_ℚ x b.poly ++ times (neg_ℚ one_ℚ) y c.poly;
  is_s = record {
    left = x;
    right = y;
    of_left = same_of (plus x b.head) (join b.head c.head) k.left;
    of_right = same_of (plus y c.head) (join b.head c.head) k.right;
    equal = λ e. refl;
  };
  multiple = record {
    factor = whole u *ℚ whole l;
    nonzero = nonzero_product (whole u) (whole l) (nonzero_whole u (nonzero_factor m g u mq.nonzero common.second)) (nonzero_whole l mp.nonzero);
    scaled = λ e.
        eh e ∙ coefficient-++ (times one_ℚ [] first) (times (whole (neg_ℤ s)) y (whole_terms q)) e
        ∙ ap (λ z. z +ℚ coefficient (times (whole (neg_ℤ s)) y (whole_terms q)) e)
        (times-coefficient one_ℚ first e ∙ one-*ℚ (coefficient first e) ∙ ef e ∙ raised_multiple (whole u) (whole l) x b.poly (whole_terms p) mp.scaled e)
        ∙ ap (λ z. (whole u *ℚ whole l) *ℚ coefficient (times one_ℚ x b.poly) e +ℚ z)
        (raised_multiple (whole (neg_ℤ s)) (whole m) y c.poly (whole_terms q) mq.scaled e
        ∙ ap (λ z. z *ℚ coefficient (times one_ℚ y c.poly) e) (crossed ∙ sym (*ℚ-neg_ℚ (whole u *ℚ whole l) one_ℚ ∙ ap neg_ℚ (*ℚ-one (whole u *ℚ whole l))))
        ∙ *ℚ_assoc (whole u *ℚ whole l) (neg_ℚ one_ℚ) (coefficient (times one_ℚ y c.poly) e)
        ∙ ap (λ z. (whole u *ℚ whole l) *ℚ z) (sym (coefficient-factor (neg_ℚ one_ℚ) y c.poly e)))
        ∙ sym (*ℚ-+ℚ (whole u *ℚ whole l) (coefficient (times one_ℚ x b.poly) e) (coefficient (times (neg_ℚ one_ℚ) y c.poly) e))
        ∙ ap (λ z. (whole u *ℚ whole l) *ℚ z) (sym (coefficient-++ (times one_ℚ x b.poly) (times (neg_ℚ one_ℚ) y c.poly) e));
  };
}
  where
    turned : (u g s : Fraction) → s *ℚ (g *ℚ u) ≡ u *ℚ (g *ℚ s)
    turned u g s = sym (*ℚ_assoc s g u) ∙ *ℚ_comm (s *ℚ g) u ∙ ap (λ z. u *ℚ z) (*ℚ_comm s g)

    crossed : whole (neg_ℤ s) *ℚ whole m ≡ neg_ℚ (whole u *ℚ whole l)
    crossed =
        ap (λ z. z *ℚ whole m) (whole-neg s) ∙ neg_ℚ-*ℚ (whole s) (whole m)
        ∙ ap neg_ℚ
        (ap (λ z. whole s *ℚ z) (ap whole common.second ∙ whole-* g u) ∙ turned (whole u) (whole g) (whole s) ∙ ap (λ z. whole u *ℚ z)
        (sym (ap whole common.first ∙ whole-* g s)))

-- a remainder of a multiple of an S-polynomial
pub pair_started : (bs : List MarkedPolynomial) (b c : MarkedPolynomial) (h p : Terms) → IsPairMultiple b c h →
    ((f : Terms) → IsMultipleOf f h → IsRemainderMultiple bs f p) → IsPairRemainderMultiple bs b c p
pair_started bs b c h p m k = record { s = m.s; is_s = m.is_s; remainder = k m.s m.multiple }

-- ---- lists of terms

-- the last term that waits is done
pub passed : (done rest left new : List WholeTerm) (t : WholeTerm) → rest ≡ left ++ t ∷ [] → new ≡ done ++ t ∷ [] →
    SamePolynomial (whole_terms new ++ whole_terms left) (whole_terms done ++ whole_terms rest)
passed done rest left new t er en e =
    ap (λ (z : List WholeTerm). coefficient (whole_terms z ++ whole_terms left) e) en ∙ moved_last done left t e
    ∙ ap (λ (z : List WholeTerm). coefficient (whole_terms done ++ whole_terms z) e) (sym er)

-- both lists times a number, and more in the second
pub added : (k m : ℤ) (x : Exponents) (f g a b h l p : List WholeTerm) → a ≡ f → b ≡ g → SamePolynomial (whole_terms h) (times (whole k) [] (whole_terms a)) →
    SamePolynomial (whole_terms l) (times (whole k) [] (whole_terms b) ++ times (whole m) x (whole_terms p)) →
    SamePolynomial (whole_terms h ++ whole_terms l) (times (whole k) [] (whole_terms f ++ whole_terms g) ++ times (whole m) x (whole_terms p))
added k m x f g a b h l p ea eb eh el = added_parts (whole k) (whole m) x (whole_terms f) (whole_terms g) (whole_terms h) (whole_terms l) (whole_terms p)
    (subst (λ (z : List WholeTerm). SamePolynomial (whole_terms h) (times (whole k) [] (whole_terms z))) ea eh)
    (subst (λ (z : List WholeTerm). SamePolynomial (whole_terms l) (times (whole k) [] (whole_terms z) ++ times (whole m) x (whole_terms p))) eb el)

-- a multiple by 1
pub plain_times : (k : ℤ) (f : List WholeTerm) → k ≡ pos 1 → SamePolynomial (whole_terms f) (times (whole k) [] (whole_terms f))
plain_times k f one e = ap (λ (z : Terms). coefficient z e) (sym (times-plain (whole_terms f)) ∙ ap (λ (z : ℤ). times (whole z) [] (whole_terms f)) (sym one))

-- a divisor of both lists
pub divided_lists : (k : ℤ) (f g a b h l : List WholeTerm) → a ≡ f → b ≡ g → k ≢ pos 0 → whole_terms a ≡ times (whole k) [] (whole_terms h) →
    whole_terms b ≡ times (whole k) [] (whole_terms l) → IsMultipleOf (whole_terms h ++ whole_terms l) (whole_terms f ++ whole_terms g)
divided_lists k f g a b h l ea eb n eh el =
    divided_parts (whole k) (whole_terms f) (whole_terms g) (whole_terms h) (whole_terms l) (nonzero_whole k n) (ap whole_terms (sym ea) ∙ eh)
    (ap whole_terms (sym eb) ∙ el)

-- the mark at the index j divides x, and none before it
pub divided_at : (bs : List MarkedPolynomial) (x h : Exponents) (j : ℕ) (b : MarkedPolynomial) → IsAt bs j b → h ≡ b.head → length h ≡ length x →
    Divides h x → NoneDivides bs j x → IsDividedAt bs x j
divided_at bs x h j b a e l d k = record {
  member = b;
  at = a;
  variables = ap length (sym e) ∙ l;
  divides = subst (λ (y : Exponents). Divides y x) e d;
  first = k.none;
}

-- the member that is found, as it is read
pub record IsMemberFor (bs : List MarkedPolynomial) (x : Exponents) (b : MarkedPolynomial) : Type 0 where
  pub first : IsFirstFor bs x b
  pub variables : length b.head ≡ length x
  pub divides : Divides b.head x

pub member_there : (bs : List MarkedPolynomial) (x y : Exponents) (j : ℕ) (b : MarkedPolynomial) → y ≡ x → IsDividedAt bs y j → b ≡ get_or bs j b →
    IsMemberFor bs x b
member_there bs x y j b ex d e =
    let same_member : d.member ≡ b = sym d.at.is ∙ get_or_default bs j d.member b d.at.within ∙ sym e in
    subst (λ (z : Exponents). IsMemberFor bs z b) ex (subst (IsMemberFor bs y) same_member (record {
      first = record { index = j; at = d.at; before = λ i c l m. no_multiple c.head y (d.first i c l m) };
      variables = d.variables;
      divides = d.divides;
    }))

-- the step at the last term that waits, by its number and its monomial as they are read
pub reduce_kept : (bs : List MarkedPolynomial) (b : MarkedPolynomial) (done rest left : List WholeTerm) (new : Terms) (t : WholeTerm) (y : Exponents) (c : ℤ)
    (p : List WholeTerm) (l g s u k : ℤ) (x h : Exponents) →
    y ≡ t.kept.value.mono → c ≡ t.kept.value.coef → IsFirstFor bs y b → IsWholeMultiple l p b.poly → IsCommonTo l c g s u → c ≢ pos 0 →
    rest ≡ left ++ t ∷ [] → HasNone y (whole_terms done) → HasNone y (whole_terms left) → h ≡ b.head → plus x h ≡ y → k ≡ neg_ℤ u →
    SamePolynomial new (times (whole s) [] (whole_terms done ++ whole_terms rest) ++ times (whole k) x (whole_terms p)) →
    KeepsReached bs (whole_terms done ++ whole_terms rest) new
reduce_kept bs b done rest left new t y c p l g s u k x h ey ec first m common n er hd hl eh product ek sum =
    let m_x : Exponents = t.kept.value.mono in
    step_kept bs b (whole_terms done ++ whole_terms rest) new t p l g s u x (subst (λ (z : Exponents). IsFirstFor bs z b) ey first) m
    (subst (λ (z : ℤ). IsCommonTo l z g s u) ec common) (subst (λ (z : ℤ). z ≢ pos 0) ec n)
    (ap (λ (z : List WholeTerm). coefficient (whole_terms done ++ whole_terms z) m_x) er
    ∙ ap (λ (z : Terms). coefficient (whole_terms done ++ z) m_x) (values_push left t)
    ∙ coefficient_last (whole_terms done) (whole_terms left) (term_value t) (subst (λ (z : Exponents). HasNone z (whole_terms done)) ey hd)
    (subst (λ (z : Exponents). HasNone z (whole_terms left)) ey hl))
    (ap (plus x) (sym eh) ∙ product ∙ ey)
    (subst (λ (z : ℤ). SamePolynomial new (times (whole s) [] (whole_terms done ++ whole_terms rest) ++ times (whole z) x (whole_terms p))) ek sum)

-- ---- the whole way

pub remainder_left : (bs : List MarkedPolynomial) (f start begun ended : Terms) (left read again : List WholeTerm) (p : Terms) → SamePolynomial begun start →
    KeepsReached bs begun ended → whole_terms left ≡ ended → read ≡ left → IsIrreducible (Contains bs) (whole_terms read) → again ≡ left →
    IsMultipleOf (whole_terms again) p → IsMultipleOf f start → IsRemainderMultiple bs f p
remainder_left bs f start begun ended left read again p sb k el er i ea m s =
    remainder_reached bs f start (whole_terms left) p
    (keeps_trans bs start begun (whole_terms left) (keeps_same bs start begun sb) (keeps_trans bs begun ended (whole_terms left) k
    (keeps_same bs ended (whole_terms left) (λ e. ap (λ (z : Terms). coefficient z e) el))))
    (subst (λ (z : List WholeTerm). IsIrreducible (Contains bs) (whole_terms z)) er i)
    (subst (λ (z : List WholeTerm). IsMultipleOf (whole_terms z) p) ea m) s

-- of the polynomial without terms
pub empty_remainder : (bs : List MarkedPolynomial) (f p : Terms) → f ≡ [] → p ≡ [] → IsRemainderMultiple bs f p
empty_remainder bs f p ef ep = subst (λ (z : Terms). IsRemainderMultiple bs z p) (sym ef) (subst (IsRemainderMultiple bs []) (sym ep) (record {
  factor = one_ℚ;
  nonzero = λ z. zero-not-one (sym z);
  is = record { reached = reached-here (Contains bs) []; irreducible = λ x h d. h refl };
  normal_form = λ h. record { reached = IsRuleReached.here [] (λ e. refl); irreducible = λ x h d. h refl };
}))

-- a polynomial in the variables of the first term, or of a mark
pub keeps_first : (f g p : Terms) (n : ℕ) (t : Term) → g ≡ f → 0 < length g → t ≡ get_or g 0 t → n ≡ length t.mono → HasVariables n p → KeepsVariables f p
keeps_first f g p n t eg l is en v =
    record { at = λ m h. subst (λ (k : ℕ). HasVariables k p) (en ∙ HasVariables-at m g 0 t l is (subst (HasVariables m) (sym eg) h)) v }

pub keeps_pair : (b c : MarkedPolynomial) (p : Terms) (n : ℕ) → HasMarkedTerm b → n ≡ length b.head → HasVariables n p → KeepsPairVariables b c p
keeps_pair b c p n m en v = record { at = λ k h. subst (λ (i : ℕ). HasVariables i p) (en ∙ head_length k b h.left m) v }

-- ---- tests

pub not_zero : (r : Bool) (k : ℤ) → (IsTrue r ↔ (k ≡ pos 0)) → r ≡ false → k ≢ pos 0
not_zero r k h f z = let m : r ≡ true = h.1 z in cc

pub multiple_empty : (f : List WholeTerm) (p : Terms) → f ≡ [] → p ≡ [] → IsMultipleOf (whole_terms f) p
multiple_empty f p ef ep =
    subst (λ (z : List WholeTerm). IsMultipleOf (whole_terms z) p) (sym ef) (subst (IsMultipleOf []) (sym ep) (multiple_refl [] [] (λ e. refl)))

pub more_variables : (n : ℕ) (f : Terms) (i : ℕ) (t : Term) (x : Exponents) → i < length f → t ≡ get_or f i t → x ≡ t.mono → length x ≡ n →
    HasVariables n (take i f) → HasVariables n (take (i + 1) f)
more_variables n f i t x l is ex e h =
    subst (HasVariables n) (sym (take_more f i t l ∙ ap (λ (z : Term). take i f ++ z ∷ []) (sym is)))
    (HasVariables-push n (take i f) t h (ap length (sym ex) ∙ e))

-- a multiple of an S-polynomial, as it is formed
pub pair_formed : (b c : MarkedPolynomial) (hb hc x y : Exponents) (first read : List WholeTerm) (h : Terms) (p q : List WholeTerm) (l m g s u k o : ℤ) →
    hb ≡ b.head → hc ≡ c.head → AreLcmCofactors hb hc x y → IsWholeMultiple l p b.poly → IsWholeMultiple m q c.poly → IsCommonTo l m g s u → o ≡ pos 1 →
    k ≡ neg_ℤ s → read ≡ first → SamePolynomial (whole_terms first) (times (whole o) [] [] ++ times (whole u) x (whole_terms p)) →
    SamePolynomial h (times (whole o) [] (whole_terms read) ++ times (whole k) y (whole_terms q)) → IsPairMultiple b c h
pair_formed b c hb hc x y first read h p q l m g s u k o ehb ehc a mp mq common eo ek er ef eh =
    pair_start b c x y (whole_terms first) h p q l m g s u
    (subst (λ (z : Exponents). AreLcmCofactors z c.head x y) ehb (subst (λ (z : Exponents). AreLcmCofactors hb z x y) ehc a)) mp mq common
    (subst (λ (z : ℤ). SamePolynomial (whole_terms first) (times (whole z) [] [] ++ times (whole u) x (whole_terms p))) eo ef)
    (subst (λ (z : List WholeTerm). SamePolynomial h (times one_ℚ [] (whole_terms z) ++ times (whole (neg_ℤ s)) y (whole_terms q))) er
    (subst (λ (z : ℤ). SamePolynomial h (times one_ℚ [] (whole_terms read) ++ times (whole z) y (whole_terms q))) ek
    (subst (λ (z : ℤ). SamePolynomial h (times (whole z) [] (whole_terms read) ++ times (whole k) y (whole_terms q))) eo eh)))

-- a whole multiple of a polynomial, as it is read
pub start_multiple : (k : ℤ) (h : List WholeTerm) (f g : Terms) → g ≡ f → IsWholeMultiple k h g → IsMultipleOf f (whole_terms h)
start_multiple k h f g e m = subst (λ (z : Terms). IsMultipleOf z (whole_terms h)) e
    (record { factor = whole k; nonzero = nonzero_whole k m.nonzero; scaled = m.scaled })

-- a list without length
pub no_items : {A : Type 0} (f : List A) → length f ≡ 0 → f ≡ []
no_items [] h = refl
no_items (x ∷ f) h = absurd (omega (arith, h))
