-- Quotients of marked polynomials by powers of a variable.
-- To cite: quotient_least, quotient_marked, quotient_members, quotient_basis.
use Rattle.std.proofs.Common.{◌≡◌, ◌⊎◌, ◌↔◌, ℕ, zero, suc, ◌<◌, ◌≤◌, true, List, [], ◌∷◌, ◌++◌, Contains, arith, refl, sym, ap, ◌∙◌, inl, inr}
use Rattle.std.proofs.lemmas.Bool.{cases_lt}
use Rattle.gf_frac.specs.Fraction.{Fraction, ◌+ℚ◌, ◌*ℚ◌, one_ℚ}
use Rattle.gf_frac.proofs.FractionLaws.{*ℚ_comm, one-*ℚ}
use Rattle.gf_exponents_theory.specs.Exponents.{Exponents, entry, same, plus, minus, NoMultiple, IsInRing}
use Rattle.gf_exponents_theory.specs.Orders.{lighter}
use Rattle.gf_exponents_theory.proofs.ExponentsLaws.{same_by_entries, entries_same, entry-plus, entry-minus, same-plus, same_trans, multiple_or_not}
use Rattle.gf_exponents_theory.proofs.WeightLaws.{weight-plus, weight-same}
use Rattle.gf_poly.specs.Polynomial.{Terms, coefficient, SamePolynomial, times}
use Rattle.gf_poly.specs.Marking.{MarkedPolynomial, polys, Each}
use Rattle.gf_poly.proofs.PolynomialLaws.{coefficient-++, coefficient-same, coefficient-times, coefficient-times-none}
use Rattle.gf_poly.proofs.PolynomialLaws.{SamePolynomial-times, times-times, times-++}
use Rattle.gf_ideal_theory.specs.Membership.{HasMonomial, AreInVariables, IsMember, Spans}
use Rattle.gf_ideal_theory.specs.Marks.{Piece, value, IsMarked}
use Rattle.gf_ideal_theory.specs.Reduction.{IsDivisible, IsIrreducible}
use Rattle.gf_ideal_theory.specs.Bases.{IsBasis}
use Rattle.gf_ideal_theory.proofs.SpanLaws.{Spans-equal, Spans-zero, Spans-generator, Spans-++, Spans-times}
use Rattle.gf_ideal_theory.proofs.MembershipLaws.{variables-times, variables-equal, variables_of_member, spans_of_member, member_of_spans, member-generator}
use Rattle.gf_ideal_theory.proofs.PieceLaws.{Contains-polys, Contains-marked}
use Rattle.gf_ideal_theory.proofs.StepLaws.{IsClosed, IsPieceIn, IsWithin}
use Rattle.gf_ideal_theory.proofs.BasisLaws.{member_pieces}
use Rattle.gf_saturation_theory.specs.Saturations.{powered, next_variable, IsSaturatedBy}
use Rattle.gf_saturation_theory.proofs.SubstitutionLaws.{next-here, next-below, ring-next, ring-powered}
use Rattle.gf_saturation_theory.proofs.SaturationLaws.{times_same, variables_of_multiple, variables_of_saturated}
use Rattle.gf_quotients_theory.proofs.TakenLaws.{IsTaken, taken}
use Rattle.gf_quotients_theory.specs.Quotients.{HasLeastAtMark, IsQuotient, AreQuotients}

-- ---- powers of a variable

abbrev pub power : ℕ → ℕ → Exponents
power p k = powered p (next_variable k)

pub power-here : (p k : ℕ) → entry (power p k) k ≡ p
power-here zero k = refl
power-here (suc p) k = omega (arith, entry-plus (next_variable k) (power p k) k, next-here k, power-here p k)

pub next-other : (k i : ℕ) → (i < k) ⊎ (k < i) → entry (next_variable k) i ≡ 0
next-other k i (inl l) = next-below k i l
next-other k i (inr l) = ring-next k i (omega (arith, l))

pub power-other : (p k i : ℕ) → (i < k) ⊎ (k < i) → entry (power p k) i ≡ 0
power-other zero k i l = refl
power-other (suc p) k i l = omega (arith, entry-plus (next_variable k) (power p k) i, next-other k i l, power-other p k i l)

ring-power : (n p k : ℕ) → k < n → IsInRing n (power p k)
ring-power n p k l = ring-powered n p (next_variable k) (λ i g. ring-next k i (omega (arith, l, g)))

-- three cases of an index
pub cases_at : (i k : ℕ) → ((i < k) ⊎ (k < i)) ⊎ (i ≡ k)
cases_at i k = at (cases_lt i k) (cases_lt k i)
  where
    at : (i < k) ⊎ (k ≤ i) → (k < i) ⊎ (i ≤ k) → ((i < k) ⊎ (k < i)) ⊎ (i ≡ k)
    at (inl l) z = inl (inl l)
    at (inr l) (inl g) = inl (inr g)
    at (inr l) (inr g) = inr (omega (arith, l, g))

-- ---- multiples by a monomial

multiple_at : (c : Fraction) (w : Exponents) (f : Terms) (y : Exponents) → HasMonomial (times c w f) y → (x : Exponents) × (same y (plus w x) ≡ true)
multiple_at c w f y m = at (multiple_or_not w y)
  where
    at : ((x : Exponents) × (same y (plus w x) ≡ true)) ⊎ NoMultiple w y → (x : Exponents) × (same y (plus w x) ≡ true)
    at (inl r) = r
    at (inr z) = absurd (m (coefficient-times-none c w f y z))

pub coefficient_at : (w : Exponents) (f : Terms) (x : Exponents) → coefficient (times one_ℚ w f) (plus w x) ≡ coefficient f x
coefficient_at w f x = coefficient-times one_ℚ w f x ∙ one-*ℚ _

cancelled : (w : Exponents) (f g : Terms) → SamePolynomial (times one_ℚ w f) (times one_ℚ w g) → SamePolynomial f g
cancelled w f g h x = sym (coefficient_at w f x) ∙ h (plus w x) ∙ coefficient_at w g x

-- ---- one quotient

quotient_power : (k : ℕ) (b d : MarkedPolynomial) (q : IsQuotient k b d) → entry b.head k ≡ q.power
quotient_power k b d q =
    omega (arith, entries_same b.head (plus (power q.power k) d.head) q.head k, entry-plus (power q.power k) d.head k, power-here q.power k, q.free)

pub quotient_least : (k : ℕ) (b d : MarkedPolynomial) → IsQuotient k b d → HasLeastAtMark k b
quotient_least k b d q x h =
    let r = multiple_at one_ℚ (power q.power k) d.poly x (λ z. h (q.poly x ∙ z)) in
    omega (arith, quotient_power k b d q, entries_same x (plus (power q.power k) r.0) r.1 k, entry-plus (power q.power k) r.0 k, power-here q.power k)

pub quotient_marked : (k : ℕ) (w : List ℕ) (b d : MarkedPolynomial) → IsQuotient k b d → IsMarked (lighter w) b → IsMarked (lighter w) d
quotient_marked k w b d q m = record {
  monic = sym (coefficient_at u d.poly d.head) ∙ sym (q.poly (plus u d.head)) ∙ sym (coefficient-same b.poly b.head (plus u d.head) q.head) ∙ m.monic;
  tail = λ x h. at x (m.tail (plus u x) (λ z. h (sym (coefficient_at u d.poly x) ∙ sym (q.poly (plus u x)) ∙ z)));
}
  where
    u : Exponents
    u = power q.power k

    at : (x : Exponents) → (same (plus u x) b.head ≡ true) ⊎ lighter w (plus u x) b.head → (same x d.head ≡ true) ⊎ lighter w x d.head
    at x (inl s) = inl (sym (same-plus u x d.head) ∙ same_trans (plus u x) b.head (plus u d.head) s q.head)
    at x (inr l) = inr (omega (arith, l, weight-plus w u x, weight-plus w u d.head, weight-same w b.head (plus u d.head) q.head))

-- ---- from the quotients to the saturation

quotient_taken : (n k : ℕ) (fs : List Terms) (bs ds : List MarkedPolynomial) → IsBasis n fs bs → AreQuotients k bs ds → (d : Terms) → Contains (polys ds) d →
    IsTaken (next_variable k) fs d
quotient_taken n k fs bs ds b q d c =
    let m = Contains-marked ds d c in
    let o = q.only m.0 m.1 in
    record {
      by = o.2.power;
      spans = Spans-equal fs o.0.poly (times one_ℚ (power o.2.power k) d)
          (λ x. o.2.poly x ∙ ap (λ z. coefficient (times one_ℚ (power o.2.power k) z) x) m.2) (spans_of_member n fs o.0.poly (b.members o.0 o.1));
    }

pub quotient_variables : (n k : ℕ) (fs : List Terms) (bs ds : List MarkedPolynomial) → AreInVariables n fs → IsBasis n fs bs → AreQuotients k bs ds →
    AreInVariables n (polys ds)
quotient_variables n k fs bs ds v b q d c =
    let m = Contains-marked ds d c in
    let o = q.only m.0 m.1 in
    variables_of_multiple n (power o.2.power k) d
    (variables-equal n o.0.poly (times one_ℚ (power o.2.power k) d) (λ x. o.2.poly x
    ∙ ap (λ z. coefficient (times one_ℚ (power o.2.power k) z) x) m.2) (variables_of_member n fs o.0.poly v (b.members o.0 o.1)))

saturated_of_quotients : (n k : ℕ) (fs : List Terms) (bs ds : List MarkedPolynomial) (f : Terms) → k < n → AreInVariables n fs → IsBasis n fs bs →
    AreQuotients k bs ds → IsMember n (polys ds) f → IsSaturatedBy n fs (next_variable k) f
saturated_of_quotients n k fs bs ds f l v b q m =
    let t = taken (next_variable k) fs (polys ds) (quotient_taken n k fs bs ds b q) f (spans_of_member n (polys ds) f m) in
    record {
      power = t.by;
      member =
          member_of_spans n fs (times one_ℚ (power t.by k) f) v
          (variables-times n one_ℚ (power t.by k) f (ring-power n t.by k l)
          (variables_of_member n (polys ds) f (quotient_variables n k fs bs ds v b q) m)) t.spans;
    }

-- ---- from the saturation to the quotients

-- a sum of multiples that have at least P of the variable is P of it times a sum of multiples of quotients
record IsMoved (k P : ℕ) (ds : List MarkedPolynomial) (f : Terms) : Type 0 where
  to : Terms
  spans : Spans (polys ds) to
  equal : SamePolynomial f (times one_ℚ (power P k) to)

-- monomials with at least P of the variable
abbrev HasAtLeast : ℕ → ℕ → Exponents → Type 0
HasAtLeast k P x = P ≤ entry x k

moved : (k P : ℕ) (bs ds : List MarkedPolynomial) → AreQuotients k bs ds → (ps : List Piece) → Each (IsPieceIn (Contains bs) (HasAtLeast k P)) ps →
    IsMoved k P ds (value ps)
moved k P bs ds q [] h = record { to = []; spans = Spans-zero (polys ds); equal = λ e. refl }
moved k P bs ds q (p ∷ ps) h = at (q.each p.of h.0.member) (moved k P bs ds q ps h.1)
  where
    at : ((d : MarkedPolynomial) × Contains ds d × IsQuotient k p.of d) → IsMoved k P ds (value ps) → IsMoved k P ds (value (p ∷ ps))
    at o r = record {
      to = times p.factor s o.0.poly ++ r.to;
      spans =
          Spans-++ (polys ds) (times p.factor s o.0.poly) r.to
          (Spans-times (polys ds) o.0.poly p.factor s (Spans-generator (polys ds) o.0.poly (Contains-polys ds o.0 o.1))) r.spans;
      equal = equal;
    }
      where
        u : Exponents
        u = power o.2.power k

        w : Exponents
        w = power P k

        s : Exponents
        s = minus (plus p.shift u) w

        enough : P ≤ entry (plus p.shift u) k
        enough = omega (arith, h.0.inside, entry-plus p.shift p.of.head k, entry-plus p.shift u k, power-here o.2.power k, quotient_power k p.of o.0 o.2)

        entries : (i : ℕ) → ((i < k) ⊎ (k < i)) ⊎ (i ≡ k) → entry (plus p.shift u) i ≡ entry (plus w s) i
        entries i (inl l) = omega (arith, entry-plus w s i, entry-minus (plus p.shift u) w i, power-other P k i l)
        entries i (inr e) =
            ap (entry (plus p.shift u)) e ∙ omega (arith, entry-plus w s k, entry-minus (plus p.shift u) w k, power-here P k, enough)
            ∙ ap (entry (plus w s)) (sym e)

        meets : same (plus p.shift u) (plus w s) ≡ true
        meets = same_by_entries (plus p.shift u) (plus w s) (λ i. entries i (cases_at i k))

        one : SamePolynomial (times p.factor p.shift p.of.poly) (times one_ℚ w (times p.factor s o.0.poly))
        one e =
            SamePolynomial-times p.factor p.shift p.of.poly (times one_ℚ u o.0.poly) o.2.poly e
            ∙ ap (λ z. coefficient z e) (sym (times-times p.factor one_ℚ p.shift u o.0.poly)
            ∙ ap (λ z. times z (plus p.shift u) o.0.poly) (*ℚ_comm p.factor one_ℚ))
            ∙ times_same (one_ℚ *ℚ p.factor) (plus p.shift u) (plus w s) o.0.poly meets e
            ∙ ap (λ z. coefficient z e) (times-times one_ℚ p.factor w s o.0.poly)

        equal : SamePolynomial (value (p ∷ ps)) (times one_ℚ w (times p.factor s o.0.poly ++ r.to))
        equal e =
            coefficient-++ (times p.factor p.shift p.of.poly) (value ps) e
            ∙ ap (λ z. z +ℚ coefficient (value ps) e) (one e)
            ∙ ap (λ z. coefficient (times one_ℚ w (times p.factor s o.0.poly)) e +ℚ z) (r.equal e)
            ∙ sym (coefficient-++ (times one_ℚ w (times p.factor s o.0.poly)) (times one_ℚ w r.to) e)
            ∙ ap (λ z. coefficient z e) (sym (times-++ one_ℚ w (times p.factor s o.0.poly) r.to))

quotients_of_saturated : (n k : ℕ) (fs : List Terms) (bs ds : List MarkedPolynomial) (f : Terms) → k < n → AreInVariables n fs → IsBasis n fs bs →
    AreQuotients k bs ds → IsSaturatedBy n fs (next_variable k) f → IsMember n (polys ds) f
quotients_of_saturated n k fs bs ds f l v b q t = at (member_pieces n fs bs (HasAtLeast k t.power) (times one_ℚ (power t.power k) f) v b closed t.member within)
  where
    closed : IsClosed (Contains bs) (HasAtLeast k t.power)
    closed = record {
      along = λ x y s h. omega (arith, h, entries_same x y s k);
      lower = λ c j u y m h. let o = q.each c j in omega (arith, h, entry-plus u c.head k, entry-plus u y k, quotient_least k c o.0 o.2 y m);
    }

    within : IsWithin (HasAtLeast k t.power) (times one_ℚ (power t.power k) f)
    within y m =
        let r = multiple_at one_ℚ (power t.power k) f y m in
        omega (arith, entries_same y (plus (power t.power k) r.0) r.1 k, entry-plus (power t.power k) r.0 k, power-here t.power k)

    at : ((ps : List Piece) × Each (IsPieceIn (Contains bs) (HasAtLeast k t.power)) ps × SamePolynomial (times one_ℚ (power t.power k) f) (value ps)) →
        IsMember n (polys ds) f
    at r = onto (moved k t.power bs ds q r.0 r.1)
      where
        onto : IsMoved k t.power ds (value r.0) → IsMember n (polys ds) f
        onto m = member_of_spans n (polys ds) f (quotient_variables n k fs bs ds v b q) (variables_of_saturated n fs (next_variable k) f v t)
            (Spans-equal (polys ds) m.to f (λ e. sym (cancelled (power t.power k) f m.to (λ x. r.2 x ∙ m.equal x) e)) m.spans)

pub quotient_members : (n k : ℕ) (fs : List Terms) (bs ds : List MarkedPolynomial) (f : Terms) → k < n → AreInVariables n fs → IsBasis n fs bs →
    AreQuotients k bs ds → IsMember n (polys ds) f ↔ IsSaturatedBy n fs (next_variable k) f
quotient_members n k fs bs ds f l v b q = (saturated_of_quotients n k fs bs ds f l v b q, quotients_of_saturated n k fs bs ds f l v b q)

-- ---- and they are a basis

-- a quotient's mark divides x where the mark of what it was made of divides a power of the variable times x
divisible_back : (k P : ℕ) (bs ds : List MarkedPolynomial) (x y : Exponents) → AreQuotients k bs ds → same y (plus (power P k) x) ≡ true →
    IsDivisible (Contains bs) y → IsDivisible (Contains ds) x
divisible_back k P bs ds x y q s d = at (q.each d.member d.contained)
  where
    at : ((e : MarkedPolynomial) × Contains ds e × IsQuotient k d.member e) → IsDivisible (Contains ds) x
    at o =
        record {
          member =
              o.0;
          contained = o.1;
          rest = minus x o.0.head;
          divides = same_by_entries x (plus (minus x o.0.head) o.0.head) (λ i. entries i (cases_at i k));
        }
      where
        entries : (i : ℕ) → ((i < k) ⊎ (k < i)) ⊎ (i ≡ k) → entry x i ≡ entry (plus (minus x o.0.head) o.0.head) i
        entries i (inl l) = omega (
          arith,
          entry-plus (minus x o.0.head) o.0.head i,
          entry-minus x o.0.head i,
          entries_same y (plus (power P k) x) s i,
          entry-plus (power P k) x i,
          power-other P k i l,
          entries_same y (plus d.rest d.member.head) d.divides i,
          entry-plus d.rest d.member.head i,
          entries_same d.member.head (plus (power o.2.power k) o.0.head) o.2.head i,
          entry-plus (power o.2.power k) o.0.head i,
        )
        entries i (inr e) =
            ap (entry x) e ∙ omega (arith, entry-plus (minus x o.0.head) o.0.head k, entry-minus x o.0.head k, o.2.free)
            ∙ ap (entry (plus (minus x o.0.head) o.0.head)) (sym e)

pub quotient_basis : (n k : ℕ) (fs : List Terms) (bs ds : List MarkedPolynomial) → k < n → AreInVariables n fs → IsBasis n fs bs →
    AreQuotients k bs ds → IsBasis n (polys ds) ds
quotient_basis n k fs bs ds l v b q = record {
  members = λ d c. member-generator n (polys ds) d.poly (Contains-polys ds d c);
  marked = (b.marked.0, b.marked.1, λ d c. let o = q.only d c in quotient_marked k b.marked.0 o.0 d o.2 (b.marked.2 o.0 o.1));
  decides = λ f m i. decided f i (saturated_of_quotients n k fs bs ds f l v b q m);
}
  where
    decided : (f : Terms) → IsIrreducible (Contains ds) f → IsSaturatedBy n fs (next_variable k) f → SamePolynomial f []
    decided f i t = cancelled (power t.power k) f [] (b.decides (times one_ℚ (power t.power k) f) t.member irreducible)
      where
        irreducible : IsIrreducible (Contains bs) (times one_ℚ (power t.power k) f)
        irreducible y m d =
            let r = multiple_at one_ℚ (power t.power k) f y m in
            i r.0 (λ z. m (coefficient-same (times one_ℚ (power t.power k) f) y (plus (power t.power k) r.0) r.1 ∙ coefficient_at (power t.power k) f r.0 ∙ z))
            (divisible_back k t.power bs ds r.0 y q r.1 d)
