-- What is left of a dividend: terms that no member reduces.
-- To cite: shares_there, divides_there, term_members, term_spare, irreducible_more, irreducible_all, whole_worked, whole_shares, pair_shares, if_remainder,
-- if_normal_form, if_kept, if_pair_remainder.
use Rattle.std.specs.Prelude.{◌≡◌, ℕ, ◌+◌, ◌<◌, ◌≤◌, List, [], ◌∷◌, length, Contains, None, take, Result, Ok, Err, IfOk}
use Rattle.std.specs.declared.option.Option.{Option}
use Rattle.std.proofs.Common.{arith, refl, sym, ◌∙◌, subst, get_or}
use Rattle.std.proofs.lemmas.List.{take_all, take_more}
use Rattle.gf_exponents_theory.specs.Exponents.{Exponents, Divides}
use Rattle.gf_exponents_theory.specs.Orders.{lighter}
use Rattle.gf_poly.specs.declared.Term.{Term}
use Rattle.gf_poly.specs.Polynomial.{Terms, IsDescending, HasVariables, KeepsVariables}
use Rattle.gf_poly.specs.Marking.{MarkedPolynomial, HaveVariables}
use Rattle.gf_poly.proofs.ProductLaws.{HasVariables-at}
use Rattle.gf_ideal_theory.specs.Marks.{AreMarked}
use Rattle.gf_ideal_theory.specs.NormalForms.{IsNormalForm}
use Rattle.gf_ideal_theory.specs.Reduction.{IsDivisible, IsSPolynomial}
use Rattle.gf_ideal_theory.specs.Settled.{IsAt}
use Rattle.gf_ideal_theory.proofs.ListLaws.{Each-++}
use Rattle.gf_division.specs.Dividends.{Split, joined_terms, SharesVariables}
use Rattle.gf_division.specs.Reducers.{IsBeside, IsSpareIn, AreIrreducible, ShareVariables}
use Rattle.gf_division.specs.Remainders.{IsRemainder, IsWorkedOn}
use Rattle.gf_division.specs.SPolynomials.{KeepsPairVariables}
use Rattle.gf_division.specs.Tables.{IsReducibleAt}
use Rattle.gf_division.proofs.ReducerLaws.{members_equal, member_contained, member_variables}
use Rattle.gf_division.proofs.RemainderLaws.{worked-same, remainder_at, normal_form_of, remainder_keeps}
use Rattle.gf_wide_division.specs.declared.terms.WideTerm.{WideTerm}
use Rattle.gf_wide_division.specs.Dividends.{uncut}
use Rattle.gf_wide_division.specs.Pairs.{IsPairRemainder, SharePairMembers}
use Rattle.gf_wide_division.specs.Values.{term_value, value_terms}
use Rattle.gf_wide_division.proofs.ValueLaws.{length-values, value_at}

-- ---- the member that reduces the foremost term

-- as it is read
member_there : (bs : List MarkedPolynomial) (spared : Option Exponents) (f : Terms) (t : Term) (j : ℕ) (b : MarkedPolynomial) → b ≡ get_or bs j b →
    IsReducibleAt bs spared f t j → IsAt bs j b
member_there bs spared f t j b e r = record { within = r.divisor.at.within; is = sym e }

pub shares_there : (bs : List MarkedPolynomial) (spared : Option Exponents) (now : Split) (t : Term) (j : ℕ) (b : MarkedPolynomial) → b ≡ get_or bs j b →
    ShareVariables now bs spared → IsReducibleAt bs spared (joined_terms now) t j → SharesVariables b now
shares_there bs spared now t j b e v r = record {
  n = v.n;
  sound = v.sound;
  poly = member_variables v.n bs b v.members (member_contained bs j b (member_there bs spared (joined_terms now) t j b e r));
}

pub divides_there : (bs : List MarkedPolynomial) (spared : Option Exponents) (f : Terms) (t : Term) (j : ℕ) (b : MarkedPolynomial) → b ≡ get_or bs j b →
    IsReducibleAt bs spared f t j → Divides b.head t.mono
divides_there bs spared f t j b e r = subst (λ (d : MarkedPolynomial). Divides d.head t.mono) (members_equal bs j r.divisor.member b r.divisor.at
    (member_there bs spared f t j b e r)) r.divisor.divides

-- ---- terms

-- the variables of a term
pub term_variables : (bs : List MarkedPolynomial) (spared : Option Exponents) (f : List WideTerm) (g : Terms) (i : ℕ) (t : WideTerm) → value_terms f ≡ g →
    i < length f → t ≡ get_or f i t → (v : ShareVariables (uncut g) bs spared) → length t.mono ≡ v.n
term_variables bs spared f g i t e l is v = HasVariables-at v.n (value_terms f) i (term_value t) (omega (arith, l, length-values f)) (value_at f i t is)
    (subst (HasVariables v.n) (sym e) v.sound.variables)

pub term_members : (bs : List MarkedPolynomial) (spared : Option Exponents) (f : List WideTerm) (g : Terms) (i : ℕ) (t : WideTerm) → value_terms f ≡ g →
    i < length f → t ≡ get_or f i t → ShareVariables (uncut g) bs spared → HaveVariables (length t.mono) bs
term_members bs spared f g i t e l is v = subst (λ (n : ℕ). HaveVariables n bs) (sym (term_variables bs spared f g i t e l is v)) v.members

pub term_spare : (bs : List MarkedPolynomial) (spared : Option Exponents) (f : List WideTerm) (g : Terms) (i : ℕ) (t : WideTerm) → value_terms f ≡ g →
    i < length f → t ≡ get_or f i t → ShareVariables (uncut g) bs spared → IsSpareIn (length t.mono) spared
term_spare bs spared f g i t e l is v = subst (λ (n : ℕ). IsSpareIn n spared) (sym (term_variables bs spared f g i t e l is v)) v.spare

-- one term more that no member reduces
pub irreducible_more : (bs : List MarkedPolynomial) (spared : Option Exponents) (f : List WideTerm) (i : ℕ) (t : WideTerm) → i < length f → t ≡ get_or f i t →
    (IsBeside spared t.mono → IsDivisible (Contains bs) t.mono → ⊥) → AreIrreducible bs spared (take i (value_terms f)) →
    AreIrreducible bs spared (take (i + 1) (value_terms f))
irreducible_more bs spared f i t l is n a =
    let r : term_value t ≡ get_or (value_terms f) i (term_value t) = value_at f i t is in
    subst (AreIrreducible bs spared) (sym (take_more (value_terms f) i (term_value t) (omega (arith, l, length-values f))))
    (Each-++ (λ (s : Term). IsBeside spared s.mono → IsDivisible (Contains bs) s.mono → ⊥) (take i (value_terms f))
    (get_or (value_terms f) i (term_value t) ∷ []) a
    (subst (λ (s : Term). IsBeside spared s.mono → IsDivisible (Contains bs) s.mono → ⊥) r n, tt))

pub irreducible_all : (bs : List MarkedPolynomial) (spared : Option Exponents) (f : List WideTerm) (g : Terms) (i : ℕ) → value_terms f ≡ g → length f ≤ i →
    AreIrreducible bs spared (take i (value_terms f)) → AreIrreducible bs spared g
irreducible_all bs spared f g i e l a = subst (AreIrreducible bs spared) (take_all i (value_terms f) (omega (arith, l, length-values f)) ∙ e) a

-- the same, once it is a list of its own
pub whole_worked : (bs : List MarkedPolynomial) (spared : Option Exponents) (old now : Split) (f : Terms) → f ≡ joined_terms now →
    IsWorkedOn bs spared old now → IsWorkedOn bs spared old (uncut f)
whole_worked bs spared old now f e h = worked-same bs spared old now (uncut f) e h

pub whole_shares : (bs : List MarkedPolynomial) (spared : Option Exponents) (old now : Split) (f : Terms) → f ≡ joined_terms now →
    IsWorkedOn bs spared old now → ShareVariables (uncut f) bs spared
whole_shares bs spared old now f e h = (whole_worked bs spared old now f e h).variables

-- ---- pairs

pub pair_shares : (bs : List MarkedPolynomial) (b c : MarkedPolynomial) (s : Split) → SharePairMembers bs b c → IsDescending (joined_terms s) →
    KeepsPairVariables b c (joined_terms s) → ShareVariables s bs None
pair_shares bs b c s v d k = record { n = v.n; sound = record { descending = d; variables = k.at v.n v.pair }; members = v.members; spare = tt }

pair_remainder : (bs : List MarkedPolynomial) (w : List ℕ) (b c : MarkedPolynomial) (r : Terms) (old : Split) → AreMarked (lighter w) bs →
    IsSPolynomial b c (joined_terms old) → KeepsPairVariables b c (joined_terms old) → AreIrreducible bs None r → IsWorkedOn bs None old (uncut r) →
    IsPairRemainder bs b c r
pair_remainder bs w b c r old m p k a h =
    let start : IsWorkedOn bs None (uncut (joined_terms old)) (uncut r) = record { reached = h.reached; variables = h.variables; kept = h.kept } in
    record {
      s = joined_terms old;
      is_s = p;
      variables = k;
      remainder = remainder_at bs (joined_terms old) r (uncut (joined_terms old)) (uncut r) refl refl a start;
      normal_form = normal_form_of bs w (joined_terms old) r (uncut (joined_terms old)) (uncut r) m refl refl a start;
      kept = remainder_keeps bs (joined_terms old) r (uncut (joined_terms old)) (uncut r) refl refl start;
    }

-- ---- what is answered

pub if_remainder : {E : Type 0} (bs : List MarkedPolynomial) (f : Terms) (old : Split) (x : Result Terms E) → old ≡ uncut f → IfOk x (AreIrreducible bs None) →
    IfOk x (λ r. IsWorkedOn bs None old (uncut r)) → IfOk x (IsRemainder bs f)
if_remainder bs f old (Ok r) e a h = remainder_at bs f r old (uncut r) e refl a h
if_remainder bs f old (Err y) e a h = tt

pub if_normal_form : {E : Type 0} (bs : List MarkedPolynomial) (w : List ℕ) (f : Terms) (old : Split) (x : Result Terms E) → AreMarked (lighter w) bs →
    old ≡ uncut f → IfOk x (AreIrreducible bs None) → IfOk x (λ r. IsWorkedOn bs None old (uncut r)) → IfOk x (IsNormalForm bs f)
if_normal_form bs w f old (Ok r) m e a h = normal_form_of bs w f r old (uncut r) m e refl a h
if_normal_form bs w f old (Err y) m e a h = tt

pub if_kept : {E : Type 0} (bs : List MarkedPolynomial) (f : Terms) (old : Split) (x : Result Terms E) → old ≡ uncut f →
    IfOk x (λ r. IsWorkedOn bs None old (uncut r)) → IfOk x (KeepsVariables f)
if_kept bs f old (Ok r) e h = remainder_keeps bs f r old (uncut r) e refl h
if_kept bs f old (Err y) e h = tt

pub if_pair_remainder : {E : Type 0} (bs : List MarkedPolynomial) (w : List ℕ) (b c : MarkedPolynomial) (old : Split) (x : Result Terms E) →
    AreMarked (lighter w) bs → IsSPolynomial b c (joined_terms old) → KeepsPairVariables b c (joined_terms old) → IfOk x (AreIrreducible bs None) →
    IfOk x (λ r. IsWorkedOn bs None old (uncut r)) → IfOk x (IsPairRemainder bs b c)
if_pair_remainder bs w b c old (Ok r) m p k a h = pair_remainder bs w b c r old m p k a h
if_pair_remainder bs w b c old (Err y) m p k a h = tt
