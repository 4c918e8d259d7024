-- Pairs that are settled: at one common multiple and at each, either way round, in a longer list, by a chain of two.
-- To cite: settled_everywhere, settled_at_join, settled_turned, settled_itself, settled_by_chain, settled_more, all_pairs.
use Rattle.std.proofs.Common.{◌≡◌, ℕ, zero, suc, ◌<◌, true, if◌then◌else◌, List, [], ◌∷◌, ◌++◌, length, Contains, slice_index_or, arith, refl, sym, ap, ◌∙◌}
use Rattle.std.proofs.Common.{subst, inl, inr}
use Rattle.std.proofs.lemmas.Bool.{cases_lt}
use Rattle.gf_frac.specs.Fraction.{Fraction, ◌+ℚ◌, ◌*ℚ◌, neg_ℚ, zero_ℚ, one_ℚ}
use Rattle.gf_frac.proofs.FractionLaws.{+ℚ_assoc, +ℚ-zero, one-*ℚ}
use Rattle.gf_exponents_theory.specs.Exponents.{Exponents, plus, same, join, minus}
use Rattle.gf_exponents_theory.specs.Orders.{IsStrict}
use Rattle.gf_exponents_theory.proofs.ExponentsLaws.{plus_assoc, same-sym, same_along, same_flip, same_shift, same_shift_right, same_trans, same_of}
use Rattle.gf_exponents_theory.proofs.ExponentsLaws.{over_join, over_join_right, join_divides, cancel, minus_left, minus_right}
use Rattle.gf_poly.specs.Polynomial.{Terms, coefficient, times}
use Rattle.gf_poly.specs.Marking.{MarkedPolynomial}
use Rattle.gf_poly.proofs.PolynomialLaws.{coefficient-++, SamePolynomial-times, times-times, times-++, coefficient-factor, times-plain}
use Rattle.gf_ideal_theory.specs.Marks.{level, value}
use Rattle.gf_ideal_theory.specs.Settled.{IsPieceBelow, IsBridged, IsSettledEverywhere, IsSettledAtJoin, IsAt}
use Rattle.gf_ideal_theory.proofs.Identities.{turned}
use Rattle.gf_ideal_theory.proofs.ListLaws.{Each-++, Each-weaker}
use Rattle.gf_ideal_theory.proofs.PieceLaws.{coefficient-value-++, scale, scale_piece, value-scale, level-scale, Each-scale}

-- shifts that are the same
pub times_along : (c : Fraction) (x y : Exponents) (f : Terms) (e : Exponents) → same x y ≡ true →
    coefficient (times c x f) e ≡ coefficient (times c y f) e
times_along c x y [] e h = refl
times_along c x y (t ∷ f) e h =
    ap (λ b. (if b then c *ℚ t.coef else zero_ℚ) +ℚ coefficient (times c x f) e) (same-sym e (plus x t.mono) ∙ same_along (plus x t.mono) (plus y t.mono) e
    (same_shift_right t.mono x y h) ∙ same-sym (plus y t.mono) e)
    ∙ ap (λ z. (if same e (plus y t.mono) then c *ℚ t.coef else zero_ℚ) +ℚ z) (times_along c x y f e h)

pub twice : (x y : Exponents) (f : Terms) → times one_ℚ (plus x y) f ≡ times one_ℚ x (times one_ℚ y f)
twice x y f = ap (λ c. times c (plus x y) f) (sym (one-*ℚ one_ℚ)) ∙ times-times one_ℚ one_ℚ x y f

-- what is settled at the least common multiple is so at each one
pub settled_everywhere : (by : MarkedPolynomial → Type 0) (below : Exponents → Exponents → Type 0) (b c : MarkedPolynomial) →
    IsStrict below → IsSettledAtJoin by below b c → IsSettledEverywhere by below b c
settled_everywhere by below b c o j u v s =
    let x = minus (plus u b.head) (join b.head c.head) in
    let ul = over_join b.head c.head u v j.left s j.of_left in
    let vr = over_join_right b.head c.head u v j.right s j.of_right in
    let top : same (plus x (plus j.left b.head)) (plus u b.head) ≡ true = same_trans (plus x (plus j.left b.head)) (plus (plus x j.left) b.head) (plus u b.head)
    (same_of _ _ (sym (plus_assoc x j.left b.head))) (same_shift_right b.head (plus x j.left) u (same_flip u (plus x j.left) ul)) in
    record {
      pieces = scale one_ℚ x j.bridge.pieces;
      lower = Each-scale (IsPieceBelow by below (plus j.left b.head)) (IsPieceBelow by below (plus u b.head)) one_ℚ x
          (λ p h. record {
            member = h.member;
            lower = o.along_right (level (scale_piece one_ℚ x p)) (plus x (plus j.left b.head)) (plus u b.head) top
                (subst (λ l. below l (plus x (plus j.left b.head))) (sym (level-scale one_ℚ x p)) (o.invariant x (level p) (plus j.left b.head) h.lower));
          })
          j.bridge.pieces j.bridge.lower;
      equation = λ e.
          times_along one_ℚ u (plus x j.left) b.poly e ul
          ∙ ap (λ z. coefficient z e) (twice x j.left b.poly)
          ∙ SamePolynomial-times one_ℚ x (times one_ℚ j.left b.poly) (times one_ℚ j.right c.poly ++ value j.bridge.pieces)
          (λ y. j.bridge.equation y ∙ sym (coefficient-++ (times one_ℚ j.right c.poly) (value j.bridge.pieces) y)) e
          ∙ ap (λ z. coefficient z e) (times-++ one_ℚ x (times one_ℚ j.right c.poly) (value j.bridge.pieces))
          ∙ coefficient-++ (times one_ℚ x (times one_ℚ j.right c.poly)) (times one_ℚ x (value j.bridge.pieces)) e
          ∙ ap (λ z. z +ℚ coefficient (times one_ℚ x (value j.bridge.pieces)) e) (ap (λ z. coefficient z e) (sym (twice x j.right c.poly)) ∙
          sym (times_along one_ℚ v (plus x j.right) c.poly e vr))
          ∙ ap (λ z. coefficient (times one_ℚ v c.poly) e +ℚ coefficient z e) (sym (value-scale one_ℚ x j.bridge.pieces));
    }

-- either way round
pub settled_turned : (by : MarkedPolynomial → Type 0) (below : Exponents → Exponents → Type 0) (b c : MarkedPolynomial) →
    IsStrict below → IsSettledEverywhere by below b c → IsSettledEverywhere by below c b
settled_turned by below b c o h u v s =
    let r = h v u (same_flip (plus u c.head) (plus v b.head) s) in
    record {
      pieces = scale (neg_ℚ one_ℚ) [] r.pieces;
      lower = Each-scale (IsPieceBelow by below (plus v b.head)) (IsPieceBelow by below (plus u c.head)) (neg_ℚ one_ℚ) []
          (λ p k. record {
            member = k.member;
            lower = o.along_right (level p) (plus v b.head) (plus u c.head) (same_flip (plus u c.head) (plus v b.head) s) k.lower;
          }) r.pieces r.lower;
      equation = λ e. turned _ _ _ (r.equation e)
          ∙ ap (λ z. coefficient (times one_ℚ v b.poly) e +ℚ z) (sym (ap (λ z. coefficient z e) (value-scale (neg_ℚ one_ℚ) [] r.pieces) ∙
          coefficient-factor (neg_ℚ one_ℚ) [] (value r.pieces) e ∙ ap (λ z. neg_ℚ one_ℚ *ℚ coefficient z e) (times-plain (value r.pieces))));
    }

-- a polynomial with itself
pub settled_itself : (by : MarkedPolynomial → Type 0) (below : Exponents → Exponents → Type 0) (b : MarkedPolynomial) →
    IsSettledEverywhere by below b b
settled_itself by below b u v s = record {
  pieces = [];
  lower = tt;
  equation = λ e. times_along one_ℚ u v b.poly e (cancel b.head u v s) ∙ sym (+ℚ-zero _);
}

-- ---- the chain criterion

-- two bridges, one after the other
pub bridge_on : (by : MarkedPolynomial → Type 0) (below : Exponents → Exponents → Type 0) (b c d : MarkedPolynomial) (u v t : Exponents) →
    IsStrict below → same (plus t d.head) (plus u b.head) ≡ true → IsBridged by below b d u t →
    IsBridged by below d c t v → IsBridged by below b c u v
bridge_on by below b c d u v t o s p q = record {
  pieces = q.pieces ++ p.pieces;
  lower = Each-++ (IsPieceBelow by below (plus u b.head)) q.pieces p.pieces
      (Each-weaker (IsPieceBelow by below (plus t d.head)) (IsPieceBelow by below (plus u b.head))
      (λ z g. record { member = g.member; lower = o.along_right (level z) (plus t d.head) (plus u b.head) s g.lower }) q.pieces q.lower)
      p.lower;
  equation = λ e.
      p.equation e ∙ ap (λ z. z +ℚ coefficient (value p.pieces) e) (q.equation e) ∙ +ℚ_assoc _ _ _
      ∙ ap (λ z. coefficient (times one_ℚ v c.poly) e +ℚ z) (sym (coefficient-value-++ q.pieces p.pieces e));
}

-- a common multiple of two marks is one of a third that divides their least common multiple
common_multiple : (h k d u v x : Exponents) → same (join h k) (plus x d) ≡ true → same (plus u h) (plus v k) ≡ true →
    same (plus u h) (plus (plus (minus (plus u h) (join h k)) x) d) ≡ true
common_multiple h k d u v x j s =
    same_trans (plus u h) (plus (minus (plus u h) (join h k)) (join h k)) (plus (plus (minus (plus u h) (join h k)) x) d) (join_divides h k u v s)
    (same_trans (plus (minus (plus u h) (join h k)) (join h k)) (plus (minus (plus u h) (join h k)) (plus x d)) (plus (plus (minus (plus u h) (join h k)) x) d)
    (same_shift (minus (plus u h) (join h k)) (join h k) (plus x d) j) (same_of _ _ (sym (plus_assoc (minus (plus u h) (join h k)) x d))))

-- a third member whose mark divides the least common multiple
pub settled_by_chain : (by : MarkedPolynomial → Type 0) (below : Exponents → Exponents → Type 0) (b c d : MarkedPolynomial) (x : Exponents) →
    IsStrict below → same (join b.head c.head) (plus x d.head) ≡ true → IsSettledEverywhere by below b d →
    IsSettledEverywhere by below d c → IsSettledEverywhere by below b c
settled_by_chain by below b c d x o h k l u v s = at (plus (minus (plus u b.head) (join b.head c.head)) x) (common_multiple b.head c.head d.head u v x h s)
  where
    at : (t : Exponents) → same (plus u b.head) (plus t d.head) ≡ true → IsBridged by below b c u v
    at t ud = bridge_on by below b c d u v t o (same_flip (plus u b.head) (plus t d.head) ud) (k u t ud)
        (l t v (same_trans (plus t d.head) (plus u b.head) (plus v c.head) (same_flip (plus u b.head) (plus t d.head) ud) s))

-- in particular at the least common multiple
pub settled_at_join : (by : MarkedPolynomial → Type 0) (below : Exponents → Exponents → Type 0) (b c : MarkedPolynomial) →
    IsSettledEverywhere by below b c → IsSettledAtJoin by below b c
settled_at_join by below b c h =
    let s = minus_left b.head c.head in
    let t = minus_right b.head c.head in
    record {
      left = minus (join b.head c.head) b.head;
      right = minus (join b.head c.head) c.head;
      of_left = s;
      of_right = t;
      bridge = h (minus (join b.head c.head) b.head) (minus (join b.head c.head) c.head) (same_trans (plus (minus (join b.head c.head) b.head) b.head)
          (join b.head c.head) (plus (minus (join b.head c.head) c.head) c.head) s (same_flip (plus (minus (join b.head c.head) c.head) c.head)
          (join b.head c.head) t));
    }

-- ---- a longer list

-- the pairs of two indices are settled
abbrev pub AreWorkingPairsSettled : (Exponents → Exponents → Type 0) → List MarkedPolynomial → Type 0
AreWorkingPairsSettled below bs = (i j : ℕ) (b c : MarkedPolynomial) → i < j → IsAt bs i b → IsAt bs j c → IsSettledAtJoin (Contains bs) below b c

-- an element that is there doesn't depend on the default
pub default : (bs : List MarkedPolynomial) (i : ℕ) (c d : MarkedPolynomial) → i < length bs →
    slice_index_or bs i c ≡ slice_index_or bs i d
default [] i c d h = absurd (omega arith)
default (b ∷ bs) zero c d h = refl
default (b ∷ bs) (suc i) c d h = default bs i c d (omega arith)

-- pairs of two indices are all pairs
pub all_pairs : (below : Exponents → Exponents → Type 0) (bs : List MarkedPolynomial) → IsStrict below →
    AreWorkingPairsSettled below bs → (b c : MarkedPolynomial) → Contains bs b → Contains bs c →
    IsSettledAtJoin (Contains bs) below b c
all_pairs below bs o h b c hb hc = elim (cases_lt hb.0 hc.0) [
  | inl l ↦ h hb.0 hc.0 b c l (record { within = hb.1; is = hb.2 }) (record { within = hc.1; is = hc.2 })
  | inr g ↦ elim (cases_lt hc.0 hb.0) [
    | inl l ↦ settled_at_join (Contains bs) below b c (settled_turned (Contains bs) below c b o
        (settled_everywhere (Contains bs) below c b o (h hc.0 hb.0 c b l (record { within = hc.1; is = hc.2 }) (record { within = hb.1; is = hb.2 }))))
    | inr k ↦
        let i : hb.0 ≡ hc.0 = omega arith in
        let e : b ≡ c = sym hb.2 ∙ ap (λ (n : ℕ). slice_index_or bs n b) i ∙ default bs hc.0 b c hc.1 ∙ hc.2 in
        subst (λ (x : MarkedPolynomial). IsSettledAtJoin (Contains bs) below b x) e
        (settled_at_join (Contains bs) below b b (settled_itself (Contains bs) below b))
  ]
]
