-- Steps by the first member whose mark divides the monomial: whichever monomials they take, they lead to one remainder.
-- What two such chains take away are sums of multiples of which each is told by the monomial that its mark comes to. Their
-- difference has no monomial that a mark divides; but the heaviest of these monomials is one, and nothing lighter cancels it.
-- To cite: IsFirstStep, IsFirstReached, first_along, first_of_rule, first_unique.
use Rattle.std.specs.Prelude.{◌≡◌, ◌⊎◌, ℕ, zero, suc, ◌≤◌, true, List, [], ◌∷◌, ◌++◌, length, Contains}
use Rattle.std.proofs.Common.{arith, refl, sym, ap, ◌∙◌, subst, inl, inr}
use Rattle.std.proofs.lemmas.Bool.{cases_lt}
use Rattle.gf_frac.specs.Fraction.{◌+ℚ◌, ◌*ℚ◌, neg_ℚ, one_ℚ}
use Rattle.gf_frac.proofs.FractionLaws.{+ℚ_assoc, +ℚ-zero, zero-+ℚ, zero-*ℚ, zero_or_not}
use Rattle.gf_exponents_theory.specs.Exponents.{Exponents, same, plus, weight}
use Rattle.gf_exponents_theory.specs.Orders.{lighter}
use Rattle.gf_exponents_theory.proofs.ExponentsLaws.{same-refl, same_flip, same_along, cancel}
use Rattle.gf_poly.specs.Polynomial.{Terms, coefficient, SamePolynomial, times}
use Rattle.gf_poly.specs.Marking.{MarkedPolynomial, Each}
use Rattle.gf_poly.proofs.PolynomialLaws.{coefficient-++, coefficient-factor, times-plain}
use Rattle.gf_poly.proofs.MergeLaws.{swap_first}
use Rattle.gf_ideal_theory.specs.Marks.{AreMarked, Piece, level, value}
use Rattle.gf_ideal_theory.specs.Reduction.{IsIrreducible, IsStep}
use Rattle.gf_ideal_theory.specs.NormalForms.{IsRuleReached}
use Rattle.gf_ideal_theory.specs.Settled.{IsAt}
use Rattle.gf_ideal_theory.proofs.Identities.{joined, crossed_over, neg_one}
use Rattle.gf_ideal_theory.proofs.ListLaws.{Each-++, Each-weaker}
use Rattle.gf_ideal_theory.proofs.SettledLaws.{times_along}
use Rattle.gf_ideal_theory.proofs.StepLaws.{coefficient-mark, step-back}
use Rattle.gf_ideal_theory.proofs.PieceLaws.{coefficient-value-++, scale, value-scale, Each-scale, Found, NoneAt, find}
use Rattle.gf_ideal_theory.proofs.CriterionLaws.{IsPieceWithin, nothing_at}
use Rattle.gf_ideal_theory.proofs.NormalFormLaws.{no_divisor}
use Rattle.gf_division.specs.Reducers.{IsFirstFor}
use Rattle.gf_division.proofs.ReducerLaws.{members_equal}

-- g is f after a step at any monomial that a mark divides, by the first member whose mark divides it
pub record IsFirstStep (bs : List MarkedPolynomial) (f g : Terms) : Type 0 where
  pub step : IsStep (Contains bs) f g
  pub first : IsFirstFor bs step.at step.member

-- finitely many such steps, up to equal polynomials
pub data IsFirstReached (bs : List MarkedPolynomial) (f : Terms) : Terms → Type 0 where
  here : (g : Terms) → SamePolynomial f g → IsFirstReached bs f g
  next : (g h : Terms) → IsFirstReached bs f g → IsFirstStep bs g h → IsFirstReached bs f h

-- the steps of the rule are such steps
pub first_of_rule : (bs : List MarkedPolynomial) (f g : Terms) → IsRuleReached bs f g → IsFirstReached bs f g
first_of_rule bs f g (IsRuleReached.here k e) = IsFirstReached.here k e
first_of_rule bs f g (IsRuleReached.next k l r s) = IsFirstReached.next k l (first_of_rule bs f k r) (record {
  step = record {
    at = s.at;
    member = s.member;
    rest = s.rest;
    contained = (s.index, s.contained.within, s.contained.is);
    there = s.there;
    divides = s.divides;
    equal = s.equal;
  };
  first = record { index = s.index; at = s.contained; before = s.first };
})

-- ---- the first member

pub first_along : (bs : List MarkedPolynomial) (x y : Exponents) (b : MarkedPolynomial) → same x y ≡ true → IsFirstFor bs x b → IsFirstFor bs y b
first_along bs x y b s k = record { index = k.index; at = k.at; before = λ i c l a u. sym (same_along x y (plus c.head u) s) ∙ k.before i c l a u }

first_contained : (bs : List MarkedPolynomial) (x : Exponents) (b : MarkedPolynomial) → IsFirstFor bs x b → Contains bs b
first_contained bs x b k = (k.index, k.at.within, k.at.is)

-- ---- multiples of the first member whose mark divides what the mark comes to

abbrev IsFirstPiece : List MarkedPolynomial → Piece → Type 0
IsFirstPiece bs p = IsFirstFor bs (level p) p.of

-- two of them at one monomial are the same, but for their factors
same_multiple : (bs : List MarkedPolynomial) (p q : Piece) (e : Exponents) → IsFirstPiece bs p → IsFirstPiece bs q →
    same (level p) (level q) ≡ true →
    coefficient (times one_ℚ q.shift q.of.poly) e ≡ coefficient (times one_ℚ p.shift p.of.poly) e
same_multiple bs p q e k l s =
    ap (λ (b : MarkedPolynomial). coefficient (times one_ℚ q.shift b.poly) e) (sym member)
    ∙ times_along one_ℚ q.shift p.shift p.of.poly e shift
  where
    index : k.index ≡ l.index
    index = elim (cases_lt k.index l.index) [
      | inl m ↦ absurd (no_divisor (level q) p.of.head p.shift (l.before k.index p.of m k.at) (same_flip (level p) (level q) s))
      | inr m ↦ elim (cases_lt l.index k.index) [
        | inl o ↦ absurd (no_divisor (level p) q.of.head q.shift (k.before l.index q.of o l.at) s)
        | inr o ↦ omega arith
      ]
    ]

    member : p.of ≡ q.of
    member = members_equal bs l.index p.of q.of (subst (λ (i : ℕ). IsAt bs i p.of) index k.at) l.at

    shift : same q.shift p.shift ≡ true
    shift = cancel p.of.head q.shift p.shift (subst (λ (b : MarkedPolynomial). same (plus q.shift b.head) (level p) ≡ true) (sym member)
        (same_flip (level p) (level q) s))

-- a multiple whose mark comes to a monomial of the greatest weight, and the rest
record Heaviest (bs : List MarkedPolynomial) (w : List ℕ) (ps : List Piece) : Type 0 where
  piece : Piece
  rest : List Piece
  first : IsFirstPiece bs piece
  rest_first : Each (IsFirstPiece bs) rest
  all : Each (IsPieceWithin (Contains bs) w (weight w (level piece))) ps
  rest_within : Each (IsPieceWithin (Contains bs) w (weight w (level piece))) rest
  shorter : length ps ≡ suc (length rest)
  equal : (e : Exponents) →
      coefficient (value ps) e ≡ coefficient (times piece.factor piece.shift piece.of.poly) e +ℚ coefficient (value rest) e

heaviest : (bs : List MarkedPolynomial) (w : List ℕ) (p : Piece) (ps : List Piece) → IsFirstPiece bs p →
    Each (IsFirstPiece bs) ps → Heaviest bs w (p ∷ ps)
heaviest bs w p [] h k = record {
  piece = p;
  rest = [];
  first = h;
  rest_first = tt;
  all = (record { member = first_contained bs (level p) p.of h; within = omega arith }, tt);
  rest_within = tt;
  shorter = refl;
  equal = λ e. coefficient-++ (times p.factor p.shift p.of.poly) [] e;
}
heaviest bs w p (q ∷ ps) h k = at (heaviest bs w q ps k.0 k.1)
  where
    here : Contains bs p.of
    here = first_contained bs (level p) p.of h

    at : Heaviest bs w (q ∷ ps) → Heaviest bs w (p ∷ q ∷ ps)
    at r = elim (cases_lt (weight w (level r.piece)) (weight w (level p))) [
      | inl l ↦
          let up : Each (IsPieceWithin (Contains bs) w (weight w (level p))) (q ∷ ps) =
          Each-weaker (IsPieceWithin (Contains bs) w (weight w (level r.piece))) (IsPieceWithin (Contains bs) w (weight w (level p)))
          (λ x m. record { member = m.member; within = omega (arith, m.within, l) }) (q ∷ ps) r.all in
          record {
            piece = p;
            rest = q ∷ ps;
            first = h;
            rest_first = k;
            all = (record { member = here; within = omega arith }, up);
            rest_within = up;
            shorter = refl;
            equal = λ e. coefficient-++ (times p.factor p.shift p.of.poly) (value (q ∷ ps)) e;
          }
      | inr l ↦ record {
        piece = r.piece;
        rest = p ∷ r.rest;
        first = r.first;
        rest_first = (h, r.rest_first);
        all = (record { member = here; within = l }, r.all);
        rest_within = (record { member = here; within = l }, r.rest_within);
        shorter = ap suc r.shorter;
        equal = λ e.
            coefficient-++ (times p.factor p.shift p.of.poly) (value (q ∷ ps)) e
            ∙ ap (λ z. coefficient (times p.factor p.shift p.of.poly) e +ℚ z) (r.equal e)
            ∙ swap_first _ _ _
            ∙ ap (λ z. coefficient (times r.piece.factor r.piece.shift r.piece.of.poly) e +ℚ z) (sym (coefficient-++ (times p.factor p.shift p.of.poly)
            (value r.rest) e));
      }
    ]

-- a sum of them that no mark divides a monomial of is 0
first_zero : (bs : List MarkedPolynomial) (w : List ℕ) → AreMarked (lighter w) bs → (n : ℕ) (ps : List Piece) →
    length ps ≤ n → Each (IsFirstPiece bs) ps → IsIrreducible (Contains bs) (value ps) → SamePolynomial (value ps) []
first_zero bs w m n [] l h i = λ e. refl
first_zero bs w m zero (p ∷ ps) l h i = absurd (omega arith)
first_zero bs w m (suc n) (p ∷ ps) l h i = at (heaviest bs w p ps h.0 h.1) (first_zero bs w m n)
  where
    at : Heaviest bs w (p ∷ ps) →
        ((qs : List Piece) → length qs ≤ n → Each (IsFirstPiece bs) qs → IsIrreducible (Contains bs) (value qs) → SamePolynomial (value qs) []) →
        SamePolynomial (value (p ∷ ps)) []
    at r rec = onto (find (IsFirstPiece bs) (level r.piece) r.rest r.rest_first)
      where
        t : Piece
        t = r.piece

        -- the same sum of fewer
        fewer : (qs : List Piece) → length qs ≤ n → Each (IsFirstPiece bs) qs →
            SamePolynomial (value (p ∷ ps)) (value qs) → SamePolynomial (value (p ∷ ps)) []
        fewer qs s k e = λ x. e x ∙ rec qs s k (λ y c d. i y (λ z. c (sym (e y) ∙ z)) d) x

        -- where no other comes to the monomial of the heaviest, its factor is the coefficient there
        alone : NoneAt (level t) r.rest → coefficient (value (p ∷ ps)) (level t) ≡ t.factor
        alone none =
            r.equal (level t)
            ∙ ap (λ z. z +ℚ coefficient (value r.rest) (level t))
            (coefficient-mark t.factor t.shift (level t) t.of (m t.of (first_contained bs (level t) t.of r.first)).monic (same-refl (level t)))
            ∙ ap (λ z. t.factor +ℚ z) (nothing_at (Contains bs) w (level t) r.rest m r.rest_within none)
            ∙ +ℚ-zero t.factor

        onto : Found (IsFirstPiece bs) (level t) r.rest ⊎ NoneAt (level t) r.rest → SamePolynomial (value (p ∷ ps)) []
        onto (inl f) = fewer (record { factor = t.factor +ℚ f.piece.factor; shift = t.shift; of = t.of } ∷ f.rest) (omega (arith, r.shorter, f.shorter))
            (r.first, f.rest_holds) (λ e.
            r.equal e
            ∙ ap (λ z. coefficient (times t.factor t.shift t.of.poly) e +ℚ z) (f.equal e)
            ∙ ap (λ z. z +ℚ (coefficient (times f.piece.factor f.piece.shift f.piece.of.poly) e +ℚ coefficient (value f.rest) e))
            (coefficient-factor t.factor t.shift t.of.poly e)
            ∙ ap (λ z. t.factor *ℚ coefficient (times one_ℚ t.shift t.of.poly) e +ℚ (z +ℚ coefficient (value f.rest) e))
            (coefficient-factor f.piece.factor f.piece.shift f.piece.of.poly e ∙
            ap (λ z. f.piece.factor *ℚ z) (same_multiple bs t f.piece e r.first f.holds f.like))
            ∙ joined t.factor f.piece.factor (coefficient (times one_ℚ t.shift t.of.poly) e) (coefficient (value f.rest) e)
            ∙ ap (λ z. z +ℚ coefficient (value f.rest) e) (sym (coefficient-factor (t.factor +ℚ f.piece.factor) t.shift t.of.poly e))
            ∙ sym (coefficient-++ (times (t.factor +ℚ f.piece.factor) t.shift t.of.poly) (value f.rest) e))
        onto (inr none) = elim (zero_or_not t.factor) [
          | inl z ↦ fewer r.rest (omega (arith, r.shorter)) r.rest_first (λ e.
              r.equal e
              ∙ ap (λ y. y +ℚ coefficient (value r.rest) e) (coefficient-factor t.factor t.shift t.of.poly e ∙
              ap (λ y. y *ℚ coefficient (times one_ℚ t.shift t.of.poly) e) z ∙ zero-*ℚ _)
              ∙ zero-+ℚ _)
          | inr z ↦ absurd (i (level t) (λ y. z (sym (alone none) ∙ y)) (record {
            member = t.of;
            contained = first_contained bs (level t) t.of r.first;
            rest = t.shift;
            divides = same-refl (level t);
          }))
        ]

-- ---- what such steps take away

-- f is g and a sum of such multiples
record AreFirstTaken (bs : List MarkedPolynomial) (f g : Terms) : Type 0 where
  pieces : List Piece
  first : Each (IsFirstPiece bs) pieces
  equal : (e : Exponents) → coefficient f e ≡ coefficient g e +ℚ coefficient (value pieces) e

first_taken : (bs : List MarkedPolynomial) (f g : Terms) → IsFirstReached bs f g → AreFirstTaken bs f g
first_taken bs f g (IsFirstReached.here k e) = record { pieces = []; first = tt; equal = λ x. e x ∙ sym (+ℚ-zero _) }
first_taken bs f g (IsFirstReached.next k l r s) = more (first_taken bs f k r)
  where
    more : AreFirstTaken bs f k → AreFirstTaken bs f g
    more t =
        let c = coefficient k s.step.at in
        record {
          pieces = record { factor = c; shift = s.step.rest; of = s.step.member } ∷ t.pieces;
          first = (first_along bs s.step.at (plus s.step.rest s.step.member.head) s.step.member s.step.divides s.first, t.first);
          equal = λ e.
              t.equal e
              ∙ ap (λ z. z +ℚ coefficient (value t.pieces) e) (step-back (Contains bs) k g s.step e ∙ coefficient-++ g (times c s.step.rest s.step.member.poly)
              e)
              ∙ +ℚ_assoc _ _ _
              ∙ ap (λ z. coefficient g e +ℚ z) (sym (coefficient-++ (times c s.step.rest s.step.member.poly) (value t.pieces) e));
        }

-- ---- one remainder

pub first_unique : (bs : List MarkedPolynomial) (w : List ℕ) (f r t : Terms) → AreMarked (lighter w) bs →
    IsFirstReached bs f r → IsFirstReached bs f t → IsIrreducible (Contains bs) r → IsIrreducible (Contains bs) t →
    SamePolynomial r t
first_unique bs w f r t m p q i j = at (first_taken bs f r p) (first_taken bs f t q)
  where
    at : AreFirstTaken bs f r → AreFirstTaken bs f t → SamePolynomial r t
    at a b = λ e. difference e ∙ ap (λ z. coefficient t e +ℚ z) (first_zero bs w m (length pieces) pieces (omega arith) firsts irreducible e) ∙ +ℚ-zero _
      where
        pieces : List Piece
        pieces = b.pieces ++ scale (neg_ℚ one_ℚ) [] a.pieces

        firsts : Each (IsFirstPiece bs) pieces
        firsts = Each-++ (IsFirstPiece bs) b.pieces (scale (neg_ℚ one_ℚ) [] a.pieces) b.first (Each-scale (IsFirstPiece bs) (IsFirstPiece bs) (neg_ℚ one_ℚ)
            [] (λ x k. k) a.pieces a.first)

        negated : (e : Exponents) → coefficient (value (scale (neg_ℚ one_ℚ) [] a.pieces)) e ≡ neg_ℚ (coefficient (value a.pieces) e)
        negated e = ap (λ z. coefficient z e) (value-scale (neg_ℚ one_ℚ) [] a.pieces) ∙ coefficient-factor (neg_ℚ one_ℚ) [] (value a.pieces) e ∙
            ap (λ z. neg_ℚ one_ℚ *ℚ coefficient z e) (times-plain (value a.pieces)) ∙ neg_one _

        difference : (e : Exponents) → coefficient r e ≡ coefficient t e +ℚ coefficient (value pieces) e
        difference e =
            crossed_over (coefficient r e) (coefficient (value a.pieces) e) (coefficient t e) (coefficient (value b.pieces) e) (sym (a.equal e) ∙ b.equal e)
            ∙ ap (λ z. coefficient t e +ℚ z) (ap (λ z. coefficient (value b.pieces) e +ℚ z) (sym (negated e)) ∙
            sym (coefficient-value-++ b.pieces (scale (neg_ℚ one_ℚ) [] a.pieces) e))

        irreducible : IsIrreducible (Contains bs) (value pieces)
        irreducible x c d = elim (zero_or_not (coefficient r x)) [
          | inr n ↦ i x n d
          | inl z ↦ elim (zero_or_not (coefficient t x)) [
            | inr n ↦ j x n d
            | inl y ↦ c (sym (zero-+ℚ (coefficient (value pieces) x)) ∙ ap (λ v. v +ℚ coefficient (value pieces) x) (sym y) ∙ sym (difference x) ∙ z)
          ]
        ]
