-- Settled in whole numbers and in the ring's variables, and in fractions and any variables.
-- To cite: settled_of_pair, pair_of_settled. The rest are steps: pieces whose shifts leave the ring are left out, and the
-- denominators are cleared.
use Rattle.std.proofs.Common.{◌≡◌, ◌⊎◌, ℕ, ◌-◌, ◌*◌, ◌<◌, ℤ, pos, ◌*ℤ◌, List, [], ◌∷◌, ◌++◌, Contains, arith, refl, sym, ap, ◌∙◌, inl, inr}
use Rattle.std.proofs.Math.Nat.{mul-pos}
use Rattle.gf_frac.specs.Fraction.{Fraction, over, whole, ◌+ℚ◌, ◌*ℚ◌, neg_ℚ, zero_ℚ, one_ℚ}
use Rattle.gf_frac.proofs.FractionLaws.{+ℚ_assoc, +ℚ_comm, +ℚ-zero, +ℚ-neg_ℚ, *ℚ-+ℚ, *ℚ-zero, *ℚ_assoc, *ℚ_comm, zero-+ℚ, zero_or_not, one-*ℚ}
use Rattle.gf_exponents_theory.specs.Exponents.{Exponents, plus, join, IsInRing}
use Rattle.gf_exponents_theory.specs.Orders.{IsStrict}
use Rattle.gf_exponents_theory.proofs.ExponentsLaws.{same_flip}
use Rattle.gf_poly.specs.Polynomial.{Terms, coefficient, times}
use Rattle.gf_poly.specs.Marking.{MarkedPolynomial, polys, Each}
use Rattle.gf_poly.proofs.PolynomialLaws.{coefficient-++, coefficient-factor, times-plain}
use Rattle.gf_ideal_theory.specs.Membership.{HasMonomial, IsInVariables, AreInVariables}
use Rattle.gf_ideal_theory.specs.Marks.{AreMarked, Piece, level, value}
use Rattle.gf_ideal_theory.specs.Reduction.{IsSPolynomial}
use Rattle.gf_ideal_theory.specs.Settled.{IntegerPiece, integer_value, IsMultipleBelow, IsSettledPair, IsPieceBelow, IsSettledAtJoin}
use Rattle.gf_ideal_theory.proofs.Identities.{taken_over, neg_one, whole-*, den_times, inverse}
use Rattle.gf_ideal_theory.proofs.ListLaws.{Each-weaker}
use Rattle.gf_ideal_theory.proofs.RingLaws.{in_ring, ring-along, ring-left, ring-plus}
use Rattle.gf_ideal_theory.proofs.TermLaws.{nothing_there}
use Rattle.gf_ideal_theory.proofs.PieceLaws.{scale, value-scale, Each-scale, Contains-polys}
use Rattle.gf_ideal_theory.proofs.StepLaws.{variables-s_polynomial}
use Rattle.gf_ideal_theory.proofs.MarkWeights.{mark-there}

abbrev with_fractions : List IntegerPiece → List Piece
with_fractions [] = []
with_fractions (p ∷ ps) = record { factor = whole p.factor; shift = p.shift; of = p.of } ∷ with_fractions ps

value-with : (ps : List IntegerPiece) → value (with_fractions ps) ≡ integer_value ps
value-with [] = refl
value-with (p ∷ ps) = ap (λ z. times (whole p.factor) p.shift p.of.poly ++ z) (value-with ps)

Each-with : (n : ℕ) (bs : List MarkedPolynomial) (below : Exponents → Exponents → Type 0) (x : Exponents) (ps : List IntegerPiece) →
    Each (IsMultipleBelow n bs below x) ps → Each (IsPieceBelow (Contains bs) below x) (with_fractions ps)
Each-with n bs below x [] h = tt
Each-with n bs below x (p ∷ ps) h = (record { member = h.0.contained; lower = h.0.lower }, Each-with n bs below x ps h.1)

spoly-parts : (b c : MarkedPolynomial) (s : Terms) (q : IsSPolynomial b c s) (e : Exponents) →
    coefficient s e ≡ coefficient (times one_ℚ q.left b.poly) e +ℚ neg_ℚ (coefficient (times one_ℚ q.right c.poly) e)
spoly-parts b c s q e = q.equal e ∙ coefficient-++ (times one_ℚ q.left b.poly) (times (neg_ℚ one_ℚ) q.right c.poly) e ∙
    ap (λ z. coefficient (times one_ℚ q.left b.poly) e +ℚ z) (coefficient-factor (neg_ℚ one_ℚ) q.right c.poly e ∙ neg_one _)

-- from whole numbers to fractions
pub settled_of_pair : (n : ℕ) (bs : List MarkedPolynomial) (below : Exponents → Exponents → Type 0) (b c : MarkedPolynomial) →
    IsStrict below → IsSettledPair n bs below b c → IsSettledAtJoin (Contains bs) below b c
settled_of_pair n bs below b c o h =
    let d = over (pos 1) (h.factor - 1) in
    record {
      left = h.is_s.left;
      right = h.is_s.right;
      of_left = h.is_s.of_left;
      of_right = h.is_s.of_right;
      bridge = record {
        pieces = scale d [] (with_fractions h.multiples);
        lower = Each-scale (IsPieceBelow (Contains bs) below (join b.head c.head)) (IsPieceBelow (Contains bs) below (plus h.is_s.left b.head)) d []
            (λ p q. record {
              member = q.member;
              lower = o.along_right (level p) (join b.head c.head) (plus h.is_s.left b.head) (same_flip (plus h.is_s.left b.head) (join b.head c.head)
                  h.is_s.of_left) q.lower;
            })
            (with_fractions h.multiples) (Each-with n bs below (join b.head c.head) h.multiples h.lower);
        equation = λ e. taken_over _ _ _ _ (spoly-parts b c h.s h.is_s e)
            (sym (one-*ℚ (coefficient h.s e))
            ∙ ap (λ z. z *ℚ coefficient h.s e) (sym (inverse h.factor h.positive))
            ∙ *ℚ_assoc d (whole (pos h.factor)) (coefficient h.s e)
            ∙ ap (λ z. d *ℚ z) (h.equation e ∙ ap (λ z. coefficient z e)
            (sym (value-with h.multiples) ∙ sym (times-plain (value (with_fractions h.multiples)))))
            ∙ sym (coefficient-factor d [] (value (with_fractions h.multiples)) e)
            ∙ ap (λ z. coefficient z e) (sym (value-scale d [] (with_fractions h.multiples))));
      };
    }

-- ---- back: the denominators are cleared
abbrev whole_times : ℤ → List IntegerPiece → List IntegerPiece
whole_times k [] = []
whole_times k (p ∷ ps) = record { factor = k *ℤ p.factor; shift = p.shift; of = p.of } ∷ whole_times k ps

coefficient-whole_times : (k : ℤ) (ps : List IntegerPiece) (e : Exponents) →
    coefficient (integer_value (whole_times k ps)) e ≡ whole k *ℚ coefficient (integer_value ps) e
coefficient-whole_times k [] e = sym (*ℚ-zero (whole k))
coefficient-whole_times k (p ∷ ps) e =
    coefficient-++ (times (whole (k *ℤ p.factor)) p.shift p.of.poly) (integer_value (whole_times k ps)) e
    ∙ ap (λ z. z +ℚ coefficient (integer_value (whole_times k ps)) e) (coefficient-factor (whole (k *ℤ p.factor)) p.shift p.of.poly e ∙
    ap (λ z. z *ℚ coefficient (times one_ℚ p.shift p.of.poly) e) (whole-* k p.factor) ∙ *ℚ_assoc _ _ _ ∙
    ap (λ z. whole k *ℚ z) (sym (coefficient-factor (whole p.factor) p.shift p.of.poly e)))
    ∙ ap (λ z. whole k *ℚ coefficient (times (whole p.factor) p.shift p.of.poly) e +ℚ z) (coefficient-whole_times k ps e)
    ∙ sym (*ℚ-+ℚ (whole k) _ _)
    ∙ ap (λ z. whole k *ℚ z) (sym (coefficient-++ (times (whole p.factor) p.shift p.of.poly) (integer_value ps) e))

Each-whole_times : (n : ℕ) (bs : List MarkedPolynomial) (below : Exponents → Exponents → Type 0) (x : Exponents) (k : ℤ) (ps : List IntegerPiece) →
    Each (IsMultipleBelow n bs below x) ps → Each (IsMultipleBelow n bs below x) (whole_times k ps)
Each-whole_times n bs below x k [] h = tt
Each-whole_times n bs below x k (p ∷ ps) h = (
  record {
    contained = h.0.contained;
    in_ring = h.0.in_ring;
    lower = h.0.lower;
  },
  Each-whole_times n bs below x k ps h.1,
)

record IsRingPieceBelow (n : ℕ) (bs : List MarkedPolynomial) (below : Exponents → Exponents → Type 0) (x : Exponents) (p : Piece) : Type 0 where
  piece : IsPieceBelow (Contains bs) below x p
  shift : IsInRing n p.shift

record Cleared (n : ℕ) (bs : List MarkedPolynomial) (below : Exponents → Exponents → Type 0) (x : Exponents) (ps : List Piece) : Type 0 where
  factor : ℕ
  positive : 0 < factor
  multiples : List IntegerPiece
  lower : Each (IsMultipleBelow n bs below x) multiples
  equation : (e : Exponents) → whole (pos factor) *ℚ coefficient (value ps) e ≡ coefficient (integer_value multiples) e

cleared : (n : ℕ) (bs : List MarkedPolynomial) (below : Exponents → Exponents → Type 0) (x : Exponents) (ps : List Piece) →
    Each (IsRingPieceBelow n bs below x) ps → Cleared n bs below x ps
cleared n bs below x [] h = record { factor = 1; positive = omega arith; multiples = []; lower = tt; equation = λ e. *ℚ-zero _ }
cleared n bs below x (p ∷ ps) h = at (cleared n bs below x ps h.1)
  where
    at : Cleared n bs below x ps → Cleared n bs below x (p ∷ ps)
    at r = record {
      factor = r.factor * p.factor.den;
      positive = mul-pos r.positive p.factor.positive;
      multiples = record { factor = pos r.factor *ℤ p.factor.num; shift = p.shift; of = p.of } ∷ whole_times (pos p.factor.den) r.multiples;
      lower = (
        record {
          contained = h.0.piece.member;
          in_ring = h.0.shift;
          lower = h.0.piece.lower;
        },
        Each-whole_times n bs below x (pos p.factor.den) r.multiples r.lower,
      );
      equation = λ e. equal e;
    }
      where
        d : Fraction
        d = whole (pos r.factor)

        m : Fraction
        m = whole (pos p.factor.den)

        first : (x : Fraction) → (d *ℚ m) *ℚ (p.factor *ℚ x) ≡ whole (pos r.factor *ℤ p.factor.num) *ℚ x
        first x = sym (*ℚ_assoc (d *ℚ m) p.factor x) ∙ ap (λ z. z *ℚ x) (*ℚ_assoc d m p.factor ∙ ap (λ z. d *ℚ z) (den_times p.factor) ∙
            sym (whole-* (pos r.factor) p.factor.num))

        second : (v : Fraction) → (d *ℚ m) *ℚ v ≡ m *ℚ (d *ℚ v)
        second v = ap (λ z. z *ℚ v) (*ℚ_comm d m) ∙ *ℚ_assoc m d v

        equal : (e : Exponents) → whole (pos (r.factor * p.factor.den)) *ℚ coefficient (value (p ∷ ps)) e ≡
            coefficient (integer_value (record {
              factor = pos r.factor *ℤ p.factor.num;
              shift = p.shift;
              of = p.of;
            } ∷ whole_times (pos p.factor.den) r.multiples)) e
        equal e =
            ap (λ z. z *ℚ coefficient (value (p ∷ ps)) e) (whole-* (pos r.factor) (pos p.factor.den))
            ∙ ap (λ z. (d *ℚ m) *ℚ z) (coefficient-++ (times p.factor p.shift p.of.poly) (value ps) e ∙ ap (λ z. z +ℚ coefficient (value ps) e)
            (coefficient-factor p.factor p.shift p.of.poly e))
            ∙ *ℚ-+ℚ (d *ℚ m) _ _
            ∙ ap (λ z. z +ℚ (d *ℚ m) *ℚ coefficient (value ps) e)
            (first _ ∙ sym (coefficient-factor (whole (pos r.factor *ℤ p.factor.num)) p.shift p.of.poly e))
            ∙ ap (λ z. coefficient (times (whole (pos r.factor *ℤ p.factor.num)) p.shift p.of.poly) e +ℚ z) (second (coefficient (value ps) e) ∙
            ap (λ z. m *ℚ z) (r.equation e) ∙ sym (coefficient-whole_times (pos p.factor.den) r.multiples e))
            ∙ sym (coefficient-++ (times (whole (pos r.factor *ℤ p.factor.num)) p.shift p.of.poly) (integer_value (whole_times (pos p.factor.den) r.multiples))
            e)

-- ---- pieces with shifts in the ring

-- the pieces of ps whose shifts are in the ring: the same sum there, and nothing elsewhere
record RingPieces (P : Piece → Type 0) (n : ℕ) (ps : List Piece) : Type 0 where
  pieces : List Piece
  holds : Each (λ (p : Piece). P p × IsInRing n p.shift) pieces
  alike : (e : Exponents) → IsInRing n e → coefficient (value ps) e ≡ coefficient (value pieces) e
  nothing : (e : Exponents) → (IsInRing n e → ⊥) → coefficient (value pieces) e ≡ zero_ℚ

ring_pieces : (P : Piece → Type 0) (n : ℕ) (ps : List Piece) → ((p : Piece) → P p → IsInVariables n p.of.poly) →
    Each P ps → RingPieces P n ps
ring_pieces P n [] g h = record { pieces = []; holds = tt; alike = λ e k. refl; nothing = λ e k. refl }
ring_pieces P n (p ∷ ps) g h = at (in_ring n p.shift) (ring_pieces P n ps g h.1)
  where
    at : IsInRing n p.shift ⊎ (IsInRing n p.shift → ⊥) → RingPieces P n ps → RingPieces P n (p ∷ ps)
    at (inl k) r = record {
      pieces = p ∷ r.pieces;
      holds = ((h.0, k), r.holds);
      alike = λ e j. coefficient-++ (times p.factor p.shift p.of.poly) (value ps) e ∙ ap (λ z. coefficient (times p.factor p.shift p.of.poly) e +ℚ
          z) (r.alike e j) ∙ sym (coefficient-++ (times p.factor p.shift p.of.poly) (value r.pieces) e);
      nothing = λ e j. coefficient-++ (times p.factor p.shift p.of.poly) (value r.pieces) e
          ∙ ap (λ z. z +ℚ coefficient (value r.pieces) e) (nothing_there p.factor p.shift p.of.poly e
          (λ y m s. j (ring-along n (plus p.shift y) e (same_flip e (plus p.shift y) s) (ring-plus n p.shift y k (g p h.0 y m)))))
          ∙ zero-+ℚ _ ∙ r.nothing e j;
    }
    at (inr k) r = record {
      pieces = r.pieces;
      holds = r.holds;
      alike = λ e j. coefficient-++ (times p.factor p.shift p.of.poly) (value ps) e
          ∙ ap (λ z. z +ℚ coefficient (value ps) e) (nothing_there p.factor p.shift p.of.poly e
          (λ y m s. k (ring-left n p.shift y (ring-along n e (plus p.shift y) s j))))
          ∙ zero-+ℚ _ ∙ r.alike e j;
      nothing = r.nothing;
    }

-- ---- to whole numbers in the ring

-- and back, in the ring of the members
pub pair_of_settled : (n : ℕ) (bs : List MarkedPolynomial) (below : Exponents → Exponents → Type 0) (b c : MarkedPolynomial) →
    AreInVariables n (polys bs) → IsStrict below → AreMarked below bs → Contains bs b → Contains bs c →
    IsSettledAtJoin (Contains bs) below b c → IsSettledPair n bs below b c
pair_of_settled n bs below b c v o m hb hc h =
    at (ring_pieces (IsPieceBelow (Contains bs) below (join b.head c.head)) n h.bridge.pieces (λ p k. inside p.of k.member)
    (Each-weaker (IsPieceBelow (Contains bs) below (plus h.left b.head)) (IsPieceBelow (Contains bs) below (join b.head c.head))
    (λ p q. record { member = q.member; lower = o.along_right (level p) (plus h.left b.head) (join b.head c.head) h.of_left q.lower })
    h.bridge.pieces h.bridge.lower))
  where
    inside : (d : MarkedPolynomial) → Contains bs d → IsInVariables n d.poly
    inside d k = v d.poly (Contains-polys bs d k)

    s : Terms
    s = times one_ℚ h.left b.poly ++ times (neg_ℚ one_ℚ) h.right c.poly

    is_s : IsSPolynomial b c s
    is_s = record { left = h.left; right = h.right; of_left = h.of_left; of_right = h.of_right; equal = λ e. refl }

    in_variables : IsInVariables n s
    in_variables = variables-s_polynomial n b c s (inside b hb) (inside c hc) (mark-there below b (m b hb)) (mark-there below c (m c hc)) is_s

    less : (l m v : Fraction) → l ≡ m +ℚ v → l +ℚ neg_ℚ m ≡ v
    less l m v q = ap (λ z. z +ℚ neg_ℚ m) (q ∙ +ℚ_comm m v) ∙ +ℚ_assoc v m (neg_ℚ m) ∙ ap (λ z. v +ℚ z) (+ℚ-neg_ℚ m) ∙ +ℚ-zero v

    sum : (e : Exponents) → coefficient s e ≡ coefficient (value h.bridge.pieces) e
    sum e = spoly-parts b c s is_s e ∙ less (coefficient (times one_ℚ h.left b.poly) e) (coefficient (times one_ℚ h.right c.poly) e)
        (coefficient (value h.bridge.pieces) e) (h.bridge.equation e)

    at : RingPieces (IsPieceBelow (Contains bs) below (join b.head c.head)) n h.bridge.pieces →
        IsSettledPair n bs below b c
    at r = finish (cleared n bs below (join b.head c.head) r.pieces
        (Each-weaker (λ (p : Piece). IsPieceBelow (Contains bs) below (join b.head c.head) p × IsInRing n p.shift)
        (IsRingPieceBelow n bs below (join b.head c.head)) (λ p k. record { piece = k.0; shift = k.1 }) r.pieces r.holds))
      where
        equal : (e : Exponents) → IsInRing n e ⊎ (IsInRing n e → ⊥) → coefficient s e ≡ coefficient (value r.pieces) e
        equal e (inl k) = sum e ∙ r.alike e k
        equal e (inr k) = outside (zero_or_not (coefficient s e)) ∙ sym (r.nothing e k)
          where
            outside : (coefficient s e ≡ zero_ℚ) ⊎ HasMonomial s e → coefficient s e ≡ zero_ℚ
            outside (inl z) = z
            outside (inr q) = absurd (k (in_variables e q))

        finish : Cleared n bs below (join b.head c.head) r.pieces → IsSettledPair n bs below b c
        finish q = record {
          s = s;
          is_s = is_s;
          factor = q.factor;
          positive = q.positive;
          multiples = q.multiples;
          lower = q.lower;
          equation = λ e. ap (λ z. whole (pos q.factor) *ℚ z) (equal e (in_ring n e)) ∙ q.equation e;
        }
