-- Buchberger's criterion for an order: the finitely many comparisons in settled pairs are traded for those of one weight.
-- To cite: traded, basis_by_order. The rest are steps: of each pair the pieces of the grade of its least common multiple
-- are kept, and a box is found for all that is compared.
use Rattle.std.proofs.Common.{◌≡◌, ◌⊎◌, ℕ, ◌≤◌, true, List, [], ◌∷◌, Contains, max, arith, refl, sym, ap, ◌∙◌, inl, inr}
use Rattle.gf_frac.specs.Fraction.{Fraction, ◌+ℚ◌, zero_ℚ, one_ℚ}
use Rattle.gf_frac.proofs.FractionLaws.{zero-+ℚ}
use Rattle.gf_exponents_theory.specs.Exponents.{Exponents, plus, same, join}
use Rattle.gf_exponents_theory.specs.Orders.{lighter, IsStrict}
use Rattle.gf_exponents_theory.proofs.ExponentsLaws.{same_flip}
use Rattle.gf_exponents_theory.proofs.OrderLaws.{lighter-strict}
use Rattle.gf_poly.specs.Polynomial.{Terms, coefficient, times}
use Rattle.gf_poly.specs.Marking.{MarkedPolynomial, Each}
use Rattle.gf_poly.proofs.PolynomialLaws.{coefficient-++}
use Rattle.gf_ideal_theory.specs.Membership.{IsMember}
use Rattle.gf_ideal_theory.specs.Marks.{Piece, level, value, AreMarked, HasPositiveWeight, IsCombined}
use Rattle.gf_ideal_theory.specs.Settled.{IsPieceBelow, IsSettledEverywhere, IsSettledAtJoin}
use Rattle.gf_ideal_theory.specs.Bases.{AreMembers, IsBasis}
use Rattle.gf_ideal_theory.proofs.ListLaws.{Each-weaker, each_contained, contained_each, collect}
use Rattle.gf_ideal_theory.proofs.TermLaws.{nothing_there}
use Rattle.gf_ideal_theory.proofs.OrderWeights.{IsShort, IsGrading, HasWeightsFor, short-up, box_of, weights-positive}
use Rattle.gf_ideal_theory.proofs.MarkWeights.{IsGradedBy, IsPolyTraded, poly-up, polys_traded, marked_by}
use Rattle.gf_ideal_theory.proofs.SettledLaws.{settled_everywhere}
use Rattle.gf_ideal_theory.proofs.BasisLaws.{basis_by_pairs}

-- ---- of one grade
record IsPieceTraded (by : MarkedPolynomial → Type 0) (below : Exponents → Exponents → Type 0) (Alike : Exponents → Exponents → Type 0) (x : Exponents)
    (p : Piece) (k : ℕ) : Type 0 where
  member : by p.of
  lower : below (level p) x
  graded : Alike (level p) x
  boxed : IsShort k (level p)

record Kept (by : MarkedPolynomial → Type 0) (below : Exponents → Exponents → Type 0) (Alike : Exponents → Exponents → Type 0) (x : Exponents)
    (ps : List Piece) : Type 0 where
  pieces : List Piece
  each : Each (λ p. (k : ℕ) × IsPieceTraded by below Alike x p k) pieces
  alike : (e : Exponents) → Alike e x → coefficient (value ps) e ≡ coefficient (value pieces) e
  nothing : (e : Exponents) → (Alike e x → ⊥) → coefficient (value pieces) e ≡ zero_ℚ

other_grade : (Alike : Exponents → Exponents → Type 0) (b : MarkedPolynomial) (c : Fraction) (u e : Exponents) →
    IsGrading Alike → IsGradedBy Alike b → (Alike e (plus u b.head) → ⊥) → coefficient (times c u b.poly) e ≡ zero_ℚ
other_grade Alike b c u e gr g n =
    nothing_there c u b.poly e (λ y k s. n (gr.transitive e (plus u y) (plus u b.head) (gr.along e (plus u y) s) (gr.invariant u y b.head (g y k))))

keep : (by : MarkedPolynomial → Type 0) (below : Exponents → Exponents → Type 0) (Alike : Exponents → Exponents → Type 0) (x : Exponents) →
    IsGrading Alike → ((b : MarkedPolynomial) → by b → IsGradedBy Alike b) → (ps : List Piece) →
    Each (IsPieceBelow by below x) ps → Kept by below Alike x ps
keep by below Alike x gr g [] h = record { pieces = []; each = tt; alike = λ e s. refl; nothing = λ e n. refl }
keep by below Alike x gr g (p ∷ ps) h = at (keep by below Alike x gr g ps h.1) (gr.decide (level p) x) (box_of (level p))
  where
    at : Kept by below Alike x ps → Alike (level p) x ⊎ (Alike (level p) x → ⊥) → ((k : ℕ) × IsShort k (level p)) →
        Kept by below Alike x (p ∷ ps)
    at r (inl s) b = record {
      pieces = p ∷ r.pieces;
      each = ((b.0, record { member = h.0.member; lower = h.0.lower; graded = s; boxed = b.1 }), r.each);
      alike = λ e q. coefficient-++ (times p.factor p.shift p.of.poly) (value ps) e ∙ ap (λ z. coefficient (times p.factor p.shift p.of.poly) e +ℚ
          z) (r.alike e q) ∙ sym (coefficient-++ (times p.factor p.shift p.of.poly) (value r.pieces) e);
      nothing = λ e n. coefficient-++ (times p.factor p.shift p.of.poly) (value r.pieces) e
          ∙ ap (λ z. z +ℚ coefficient (value r.pieces) e) (other_grade Alike p.of p.factor p.shift e gr (g p.of h.0.member)
          (λ q. n (gr.transitive e (level p) x q s))) ∙ zero-+ℚ _ ∙ r.nothing e n;
    }
    at r (inr n) b = record {
      pieces = r.pieces;
      each = r.each;
      alike = λ e q. coefficient-++ (times p.factor p.shift p.of.poly) (value ps) e
          ∙ ap (λ z. z +ℚ coefficient (value ps) e) (other_grade Alike p.of p.factor p.shift e gr (g p.of h.0.member)
          (λ s. n (gr.transitive (level p) e x (gr.symmetric e (level p) s) q))) ∙ zero-+ℚ _ ∙ r.alike e q;
      nothing = r.nothing;
    }

-- ---- a pair, inside a box
record IsPairTraded (by : MarkedPolynomial → Type 0) (below : Exponents → Exponents → Type 0) (Alike : Exponents → Exponents → Type 0) (b c : MarkedPolynomial)
    (k : ℕ) : Type 0 where
  left : Exponents
  right : Exponents
  of_left : same (plus left b.head) (join b.head c.head) ≡ true
  of_right : same (plus right c.head) (join b.head c.head) ≡ true
  top : IsShort k (join b.head c.head)
  pieces : List Piece
  each : Each (λ p. IsPieceTraded by below Alike (join b.head c.head) p k) pieces
  equation : (e : Exponents) →
      coefficient (times one_ℚ left b.poly) e ≡ coefficient (times one_ℚ right c.poly) e +ℚ coefficient (value pieces) e

traded-up : (by : MarkedPolynomial → Type 0) (below : Exponents → Exponents → Type 0) (Alike : Exponents → Exponents → Type 0) (x : Exponents) (p : Piece)
    (k l : ℕ) → k ≤ l → IsPieceTraded by below Alike x p k → IsPieceTraded by below Alike x p l
traded-up by below Alike x p k l h t = record { member = t.member; lower = t.lower; graded = t.graded; boxed = short-up (level p) k l h t.boxed }

pair-up : (by : MarkedPolynomial → Type 0) (below : Exponents → Exponents → Type 0) (Alike : Exponents → Exponents → Type 0) (b c : MarkedPolynomial)
    (k l : ℕ) → k ≤ l → IsPairTraded by below Alike b c k → IsPairTraded by below Alike b c l
pair-up by below Alike b c k l h t = record {
  left = t.left;
  right = t.right;
  of_left = t.of_left;
  of_right = t.of_right;
  top = short-up (join b.head c.head) k l h t.top;
  pieces = t.pieces;
  each = Each-weaker (λ p. IsPieceTraded by below Alike (join b.head c.head) p k) (λ p. IsPieceTraded by below Alike (join b.head c.head) p l)
      (λ p q. traded-up by below Alike (join b.head c.head) p k l h q) t.pieces t.each;
  equation = t.equation;
}

pair_traded : (by : MarkedPolynomial → Type 0) (below : Exponents → Exponents → Type 0) (Alike : Exponents → Exponents → Type 0) (b c : MarkedPolynomial) →
    IsStrict below → IsGrading Alike → ((d : MarkedPolynomial) → by d → IsGradedBy Alike d) → by b → by c →
    IsSettledAtJoin by below b c → (k : ℕ) × IsPairTraded by below Alike b c k
pair_traded by below Alike b c o gr g hb hc s = at (keep by below Alike x gr g s.bridge.pieces low)
  where
    x : Exponents
    x = join b.head c.head

    low : Each (IsPieceBelow by below x) s.bridge.pieces
    low = Each-weaker (IsPieceBelow by below (plus s.left b.head)) (IsPieceBelow by below x)
        (λ p h. record { member = h.member; lower = o.along_right (level p) (plus s.left b.head) x s.of_left h.lower }) s.bridge.pieces s.bridge.lower

    at : Kept by below Alike x s.bridge.pieces → (k : ℕ) × IsPairTraded by below Alike b c k
    at r = within (collect (λ p k. IsPieceTraded by below Alike x p k) (λ p k l h t. traded-up by below Alike x p k l h t) r.pieces r.each) (box_of x)
      where
        within : ((k : ℕ) × Each (λ p. IsPieceTraded by below Alike x p k) r.pieces) → ((k : ℕ) × IsShort k x) →
            (k : ℕ) × IsPairTraded by below Alike b c k
        within k l = (
          max k.0 l.0,
          record {
            left = s.left;
            right = s.right;
            of_left = s.of_left;
            of_right = s.of_right;
            top = short-up x l.0 (max k.0 l.0) (omega arith) l.1;
            pieces = r.pieces;
            each = Each-weaker (λ p. IsPieceTraded by below Alike x p k.0) (λ p. IsPieceTraded by below Alike x p (max k.0 l.0))
                (λ p q. traded-up by below Alike x p k.0 (max k.0 l.0) (omega arith) q) r.pieces k.1;
            equation = λ e. elim (gr.decide e x) [
              | inl q ↦ s.bridge.equation e ∙ ap (λ z. coefficient (times one_ℚ s.right c.poly) e +ℚ z) (r.alike e q)
              | inr n ↦ other_grade Alike b one_ℚ s.left e gr (g b hb)
                  (λ q. n (gr.transitive e (plus s.left b.head) x q (gr.along (plus s.left b.head) x s.of_left)))
                  ∙ sym (ap (λ z. z +ℚ coefficient (value r.pieces) e)
                  (other_grade Alike c one_ℚ s.right e gr (g c hc)
                  (λ q. n (gr.transitive e (plus s.right c.head) x q (gr.along (plus s.right c.head) x s.of_right)))) ∙ zero-+ℚ _ ∙ r.nothing e n)
            ];
          },
        )

-- ---- the weight
-- one positive weight gives the marks, and settles each pair
pub record IsTraded (n : ℕ) (bs : List MarkedPolynomial) : Type 0 where
  pub marked : HasPositiveWeight n bs
  pub settled : (b c : MarkedPolynomial) → Contains bs b → Contains bs c →
      IsSettledEverywhere (Contains bs) (lighter marked.0) b c

settled_by : (by : MarkedPolynomial → Type 0) (below : Exponents → Exponents → Type 0) (Alike : Exponents → Exponents →
    Type 0) (k : ℕ) (w : List ℕ) (b c : MarkedPolynomial) → ((x y : Exponents) → IsShort k x → IsShort k y → Alike x y → below x y → lighter w x y) →
    IsPairTraded by below Alike b c k → IsSettledEverywhere by (lighter w) b c
settled_by by below Alike k w b c h t = settled_everywhere by (lighter w) b c (lighter-strict w) (record {
  left = t.left;
  right = t.right;
  of_left = t.of_left;
  of_right = t.of_right;
  bridge = record {
    pieces = t.pieces;
    lower = Each-weaker (λ p. IsPieceTraded by below Alike (join b.head c.head) p k) (IsPieceBelow by (lighter w) (plus t.left b.head))
        (λ p q. record {
          member = q.member;
          lower = (lighter-strict w).along_right (level p) (join b.head c.head) (plus t.left b.head) (same_flip (plus t.left b.head) (join b.head c.head)
              t.of_left) (h (level p) (join b.head c.head) q.boxed t.top q.graded q.lower);
        }) t.pieces t.each;
    equation = t.equation;
  };
})

-- an order is traded for a weight
pub traded : (n : ℕ) (below : Exponents → Exponents → Type 0) (Alike : Exponents → Exponents → Type 0) (bs : List MarkedPolynomial) →
    IsStrict below → IsGrading Alike → HasWeightsFor Alike below → AreMarked below bs →
    ((b : MarkedPolynomial) → Contains bs b → IsGradedBy Alike b) →
    ((b c : MarkedPolynomial) → Contains bs b → Contains bs c → IsSettledAtJoin (Contains bs) below b c) →
    IsTraded n bs
traded n below Alike bs o gr hw m g s = at (polys_traded bs) pairs_in
  where
    pairs_with : (b : MarkedPolynomial) → Contains bs b →
        (k : ℕ) × Each (λ c. IsPairTraded (Contains bs) below Alike b c k) bs
    pairs_with b hb = collect (λ c k. IsPairTraded (Contains bs) below Alike b c k) (λ c k l h t. pair-up (Contains bs) below Alike b c k l h t) bs
        (each_contained (λ c. (k : ℕ) × IsPairTraded (Contains bs) below Alike b c k) bs (λ c hc. pair_traded (Contains bs) below Alike b c o gr g hb hc
        (s b c hb hc)))

    pairs_in : (k : ℕ) × Each (λ b. Each (λ c. IsPairTraded (Contains bs) below Alike b c k) bs) bs
    pairs_in = collect (λ b k. Each (λ c. IsPairTraded (Contains bs) below Alike b c k) bs)
        (λ b k l h t. Each-weaker (λ c. IsPairTraded (Contains bs) below Alike b c k) (λ c. IsPairTraded (Contains bs) below Alike b c l)
        (λ c q. pair-up (Contains bs) below Alike b c k l h q) bs t)
        bs (each_contained (λ b. (k : ℕ) × Each (λ c. IsPairTraded (Contains bs) below Alike b c k) bs) bs pairs_with)

    at : ((k : ℕ) × Each (λ b. IsPolyTraded b k) bs) →
        ((k : ℕ) × Each (λ b. Each (λ c. IsPairTraded (Contains bs) below Alike b c k) bs) bs) → IsTraded n bs
    at p q =
        let k = max p.0 q.0 in
        let w = weights-positive Alike below n hw k in
        record {
          marked = (
            w.0,
            w.1,
            λ b c. marked_by below Alike k w.0 b w.2 (m b c) (g b c)
                (poly-up b p.0 k (omega arith) (contained_each (λ b. IsPolyTraded b p.0) bs p.1 b c)),
          );
          settled = λ b c hb hc. settled_by (Contains bs) below Alike k w.0 b c w.2
              (pair-up (Contains bs) below Alike b c q.0 k (omega arith) (contained_each (λ c. IsPairTraded (Contains bs) below Alike b c q.0) bs
              (contained_each (λ b. Each (λ c. IsPairTraded (Contains bs) below Alike b c q.0) bs) bs q.1 b hb) c hc));
        }

-- Buchberger's criterion
pub basis_by_order : (n : ℕ) (fs : List Terms) (bs : List MarkedPolynomial) (below : Exponents → Exponents → Type 0) (Alike : Exponents → Exponents → Type 0) →
    IsStrict below → IsGrading Alike → HasWeightsFor Alike below → AreMarked below bs →
    ((b : MarkedPolynomial) → Contains bs b → IsGradedBy Alike b) →
    ((b c : MarkedPolynomial) → Contains bs b → Contains bs c → IsSettledAtJoin (Contains bs) below b c) →
    AreMembers n fs bs → ((f : Terms) → IsMember n fs f → IsCombined (Contains bs) f) → IsBasis n fs bs
basis_by_order n fs bs below Alike o gr hw m g s inside all = at (traded n below Alike bs o gr hw m g s)
  where
    at : IsTraded n bs → IsBasis n fs bs
    at t = basis_by_pairs n fs bs t.marked inside all t.settled
