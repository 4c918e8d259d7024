-- Buchberger's criterion for a weight: where all pairs are settled, a sum of multiples is 0 or has a term at a mark that
-- no multiple passes by weight.
-- To cite: divisible_heaviest, irreducible_zero. The rest are steps: of two multiples whose marks come to one monomial
-- one is exchanged for the other and lighter ones, until each monomial of greatest weight is that of one multiple.
use Rattle.std.proofs.Common.{◌≡◌, ◌⊎◌, ◌≢◌, ℕ, zero, suc, ◌<◌, ◌≤◌, Bool, true, false, List, [], ◌∷◌, ◌++◌, length, max, arith, refl, sym, ap, ◌∙◌, inl, inr}
use Rattle.std.proofs.lemmas.Bool.{cases_lt}
use Rattle.gf_frac.specs.Fraction.{Fraction, ◌+ℚ◌, ◌*ℚ◌, zero_ℚ, one_ℚ}
use Rattle.gf_frac.proofs.FractionLaws.{+ℚ_assoc, +ℚ_comm, +ℚ-zero, *ℚ-zero, *ℚ_comm, zero-+ℚ, zero_or_not}
use Rattle.gf_exponents_theory.specs.Exponents.{Exponents, plus, same, weight}
use Rattle.gf_exponents_theory.specs.Orders.{lighter}
use Rattle.gf_exponents_theory.proofs.ExponentsLaws.{same-refl, same_flip, same_shift, same_trans}
use Rattle.gf_exponents_theory.proofs.WeightLaws.{weight-plus, weight-same}
use Rattle.gf_poly.specs.Polynomial.{Terms, coefficient, SamePolynomial, times}
use Rattle.gf_poly.specs.Marking.{MarkedPolynomial, Each}
use Rattle.gf_poly.proofs.PolynomialLaws.{coefficient-++, coefficient-factor, times-plain}
use Rattle.gf_ideal_theory.specs.Marks.{Piece, level, value, IsMarked, IsCombined}
use Rattle.gf_ideal_theory.specs.Reduction.{IsDivisible, IsIrreducible}
use Rattle.gf_ideal_theory.specs.Settled.{IsPieceBelow, IsSettledEverywhere}
use Rattle.gf_ideal_theory.proofs.Identities.{merged, exchange_inner}
use Rattle.gf_ideal_theory.proofs.ListLaws.{Each-++, Each-weaker}
use Rattle.gf_ideal_theory.proofs.TermLaws.{nothing_there}
use Rattle.gf_ideal_theory.proofs.StepLaws.{coefficient-mark}
use Rattle.gf_ideal_theory.proofs.PieceLaws.{coefficient-value-++, scale, value-scale, Each-scale, Found, NoneAt, find}

-- multiples of members of at most this weight
pub record IsPieceWithin (by : MarkedPolynomial → Type 0) (w : List ℕ) (d : ℕ) (p : Piece) : Type 0 where
  pub member : by p.of
  pub within : weight w (level p) ≤ d

pub record IsPieceUnder (by : MarkedPolynomial → Type 0) (w : List ℕ) (d : ℕ) (p : Piece) : Type 0 where
  pub member : by p.of
  pub under : weight w (level p) < d

pub record IsPieceAt (by : MarkedPolynomial → Type 0) (w : List ℕ) (d : ℕ) (p : Piece) : Type 0 where
  pub member : by p.of
  pub here : weight w (level p) ≡ d

-- f is a sum of multiples, and has a term at a mark that no multiple passes by weight
pub record HasTop (by : MarkedPolynomial → Type 0) (w : List ℕ) (f : Terms) : Type 0 where
  pub pieces : List Piece
  pub top : Exponents
  pub there : coefficient f top ≢ zero_ℚ
  pub within : Each (IsPieceWithin by w (weight w top)) pieces
  pub equal : SamePolynomial f (value pieces)

abbrev pub IsStandard : (MarkedPolynomial → Type 0) → List ℕ → Terms → Type 0
IsStandard by w f = SamePolynomial f [] ⊎ HasTop by w f

IsStandard-equal : (by : MarkedPolynomial → Type 0) (w : List ℕ) (f g : Terms) → SamePolynomial f g →
    IsStandard by w g → IsStandard by w f
IsStandard-equal by w f g h (inl z) = inl (λ e. h e ∙ z e)
IsStandard-equal by w f g h (inr t) =
    inr (record { pieces = t.pieces; top = t.top; there = λ z. t.there (sym (h t.top) ∙ z); within = t.within; equal = λ e. h e ∙ t.equal e })

-- ---- the coefficient at the greatest weight
pub not_same : (x y : Exponents) → (same x y ≡ true → ⊥) → same x y ≡ false
not_same x y h = at (same x y) h
  where
    at : (b : Bool) → (b ≡ true → ⊥) → b ≡ false
    at true h = absurd (h refl)
    at false h = refl

-- and nothing at other exponents that are not below it
pub coefficient-off : (w : List ℕ) (c : Fraction) (u x : Exponents) (b : MarkedPolynomial) → IsMarked (lighter w) b →
    weight w (plus u b.head) ≤ weight w x → same x (plus u b.head) ≡ false → coefficient (times c u b.poly) x ≡ zero_ℚ
coefficient-off w c u x b m le n = nothing_there c u b.poly x (λ y k q. at y (m.tail y k) q)
  where
    at : (y : Exponents) → (same y b.head ≡ true) ⊎ (weight w y < weight w b.head) → same x (plus u y) ≡ true → ⊥
    at y (inl s) q = let e : same x (plus u b.head) ≡ true = same_trans x (plus u y) (plus u b.head) q (same_shift u y b.head s) in absurd (cc)
    at y (inr l) q = absurd (omega (arith, weight-same w x (plus u y) q, weight-plus w u y, weight-plus w u b.head))

-- no mark stands at an exponent that no piece passes
pub nothing_at : (by : MarkedPolynomial → Type 0) (w : List ℕ) (x : Exponents) (ps : List Piece) →
    ((b : MarkedPolynomial) → by b → IsMarked (lighter w) b) → Each (IsPieceWithin by w (weight w x)) ps → NoneAt x ps →
    coefficient (value ps) x ≡ zero_ℚ
nothing_at by w x [] m h n = refl
nothing_at by w x (p ∷ ps) m h n =
    coefficient-++ (times p.factor p.shift p.of.poly) (value ps) x
    ∙ ap (λ z. z +ℚ coefficient (value ps) x) (coefficient-off w p.factor p.shift x p.of (m p.of h.0.member) h.0.within n.0)
    ∙ zero-+ℚ _ ∙ nothing_at by w x ps m h.1 n.1

-- ---- by weight
record Parted (by : MarkedPolynomial → Type 0) (w : List ℕ) (d : ℕ) (ps : List Piece) : Type 0 where
  pub at : List Piece
  pub under : List Piece
  pub all_at : Each (IsPieceAt by w d) at
  pub all_under : Each (IsPieceUnder by w d) under
  pub equal : (e : Exponents) → coefficient (value ps) e ≡ coefficient (value at) e +ℚ coefficient (value under) e

part : (by : MarkedPolynomial → Type 0) (w : List ℕ) (d : ℕ) (ps : List Piece) → Each (IsPieceUnder by w (suc d)) ps →
    Parted by w d ps
part by w d [] h = record { at = []; under = []; all_at = tt; all_under = tt; equal = λ e. sym (+ℚ-zero zero_ℚ) }
part by w d (p ∷ ps) h = into (cases_lt (weight w (level p)) d) (part by w d ps h.1)
  where
    into : (weight w (level p) < d) ⊎ (d ≤ weight w (level p)) → Parted by w d ps → Parted by w d (p ∷ ps)
    into (inl l) r = record {
      at = r.at;
      under = p ∷ r.under;
      all_at = r.all_at;
      all_under = (record { member = h.0.member; under = l }, r.all_under);
      equal = λ e.
          coefficient-++ (times p.factor p.shift p.of.poly) (value ps) e
          ∙ ap (λ z. coefficient (times p.factor p.shift p.of.poly) e +ℚ z) (r.equal e)
          ∙ front _ _ _
          ∙ ap (λ z. coefficient (value r.at) e +ℚ z) (sym (coefficient-++ (times p.factor p.shift p.of.poly) (value r.under) e));
    }
      where
        front : (a b c : Fraction) → a +ℚ (b +ℚ c) ≡ b +ℚ (a +ℚ c)
        front a b c = sym (+ℚ_assoc a b c) ∙ ap (λ z. z +ℚ c) (+ℚ_comm a b) ∙ +ℚ_assoc b a c
    into (inr g) r = record {
      at = p ∷ r.at;
      under = r.under;
      all_at = (record { member = h.0.member; here = exactly h.0 g }, r.all_at);
      all_under = r.all_under;
      equal = λ e.
          coefficient-++ (times p.factor p.shift p.of.poly) (value ps) e
          ∙ ap (λ z. coefficient (times p.factor p.shift p.of.poly) e +ℚ z) (r.equal e)
          ∙ sym (+ℚ_assoc _ _ _)
          ∙ ap (λ z. z +ℚ coefficient (value r.under) e) (sym (coefficient-++ (times p.factor p.shift p.of.poly) (value r.at) e));
    }
      where
        exactly : IsPieceUnder by w (suc d) p → d ≤ weight w (level p) → weight w (level p) ≡ d
        exactly k g = omega (arith, k.under)

-- ---- one level down
within_all : (by : MarkedPolynomial → Type 0) (w : List ℕ) (d e : ℕ) (ps qs : List Piece) → d ≡ e →
    Each (IsPieceAt by w d) ps → Each (IsPieceUnder by w d) qs → Each (IsPieceWithin by w e) (ps ++ qs)
within_all by w d e ps qs q h k =
    Each-++ (IsPieceWithin by w e) ps qs
    (Each-weaker (IsPieceAt by w d) (IsPieceWithin by w e) (λ p a. record { member = a.member; within = omega (arith, a.here, q) }) ps h)
    (Each-weaker (IsPieceUnder by w d) (IsPieceWithin by w e) (λ p a. record { member = a.member; within = omega (arith, a.under, q) }) qs k)

-- two pieces at one exponent become one, and pieces below
merge_equal : (p q : Piece) (rest ts qs : List Piece) (e : Exponents) →
    coefficient (times one_ℚ q.shift q.of.poly) e ≡ coefficient (times one_ℚ p.shift p.of.poly) e +ℚ coefficient (value ts) e →
    coefficient (times p.factor p.shift p.of.poly) e +ℚ ((coefficient (times q.factor q.shift q.of.poly) e +ℚ coefficient (value rest) e) +ℚ
    coefficient (value qs) e)
    ≡ coefficient (times (p.factor +ℚ q.factor) p.shift p.of.poly) e +ℚ
    (coefficient (value rest) e +ℚ (coefficient (value (scale q.factor [] ts)) e +ℚ coefficient (value qs) e))
merge_equal p q rest ts qs e h =
    ap (λ z. z +ℚ ((coefficient (times q.factor q.shift q.of.poly) e +ℚ coefficient (value rest) e) +ℚ coefficient (value qs) e))
    (coefficient-factor p.factor p.shift p.of.poly e)
    ∙ ap (λ z. p.factor *ℚ a +ℚ ((z +ℚ coefficient (value rest) e) +ℚ coefficient (value qs) e)) (coefficient-factor q.factor q.shift q.of.poly e ∙
    ap (λ z. q.factor *ℚ z) h)
    ∙ turn (p.factor *ℚ a) (q.factor *ℚ (a +ℚ t)) (coefficient (value rest) e) (coefficient (value qs) e)
    ∙ ap (λ z. z +ℚ (coefficient (value rest) e +ℚ coefficient (value qs) e)) (merged p.factor q.factor a t)
    ∙ exchange_inner _ _ _ _
    ∙ ap (λ z. z +ℚ (coefficient (value rest) e +ℚ (q.factor *ℚ t +ℚ coefficient (value qs) e)))
    (sym (coefficient-factor (p.factor +ℚ q.factor) p.shift p.of.poly e))
    ∙ ap (λ z. coefficient (times (p.factor +ℚ q.factor) p.shift p.of.poly) e +ℚ (coefficient (value rest) e +ℚ (z +ℚ coefficient (value qs) e))) (sym scaled)
  where
    a : Fraction
    a = coefficient (times one_ℚ p.shift p.of.poly) e

    t : Fraction
    t = coefficient (value ts) e

    turn : (a b r s : Fraction) → a +ℚ ((b +ℚ r) +ℚ s) ≡ (a +ℚ b) +ℚ (r +ℚ s)
    turn a b r s = ap (λ z. a +ℚ z) (+ℚ_assoc b r s) ∙ sym (+ℚ_assoc a b (r +ℚ s))

    scaled : coefficient (value (scale q.factor [] ts)) e ≡ q.factor *ℚ coefficient (value ts) e
    scaled = ap (λ z. coefficient z e) (value-scale q.factor [] ts) ∙ coefficient-factor q.factor [] (value ts) e ∙ ap (λ z. q.factor *ℚ coefficient z e)
        (times-plain (value ts))

standard_at : (by : MarkedPolynomial → Type 0) (w : List ℕ) (d : ℕ) →
    ((b : MarkedPolynomial) → by b → IsMarked (lighter w) b) →
    ((b c : MarkedPolynomial) → by b → by c → IsSettledEverywhere by (lighter w) b c) →
    ((ps : List Piece) → Each (IsPieceUnder by w d) ps → IsStandard by w (value ps)) →
    (n : ℕ) (ps qs : List Piece) → length ps ≤ n → Each (IsPieceAt by w d) ps → Each (IsPieceUnder by w d) qs →
    IsStandard by w (value (ps ++ qs))
standard_at by w d m s lower n [] qs l h k = lower qs k
standard_at by w d m s lower zero (p ∷ ps) qs l h k = absurd (omega arith)
standard_at by w d m s lower (suc n) (p ∷ ps) qs l h k = at (find (IsPieceAt by w d) (level p) ps h.1) (standard_at by w d m s lower n)
  where
    at : Found (IsPieceAt by w d) (level p) ps ⊎ NoneAt (level p) ps →
        ((ps qs : List Piece) → length ps ≤ n → Each (IsPieceAt by w d) ps → Each (IsPieceUnder by w d) qs → IsStandard by w (value (ps ++ qs))) →
        IsStandard by w (value (p ∷ ps ++ qs))
    at (inl f) rec =
        let q = f.piece in
        let r = s q.of p.of f.holds.member h.0.member q.shift p.shift (same_flip (level p) (level q) f.like) in
        let p' : Piece = record { factor = p.factor +ℚ q.factor; shift = p.shift; of = p.of } in
        let low : Each (IsPieceUnder by w d) (scale q.factor [] r.pieces) =
        Each-scale (IsPieceBelow by (lighter w) (level q)) (IsPieceUnder by w d) q.factor
        [] (λ t g. record { member = g.member; under = omega (arith, g.lower, f.holds.here) }) r.pieces r.lower in
        IsStandard-equal by w (value (p ∷ ps ++ qs)) (value (p' ∷ f.rest ++ (scale q.factor [] r.pieces ++ qs)))
        (λ e.
        coefficient-++ (times p.factor p.shift p.of.poly) (value (ps ++ qs)) e
        ∙ ap (λ z. coefficient (times p.factor p.shift p.of.poly) e +ℚ z) (coefficient-value-++ ps qs e ∙ ap (λ z. z +ℚ coefficient (value qs) e) (f.equal e))
        ∙ merge_equal p q f.rest r.pieces qs e (r.equation e)
        ∙ ap (λ z. coefficient (times (p.factor +ℚ q.factor) p.shift p.of.poly) e +ℚ z)
        (ap (λ z. coefficient (value f.rest) e +ℚ z) (sym (coefficient-value-++ (scale q.factor [] r.pieces) qs e)) ∙
        sym (coefficient-value-++ f.rest (scale q.factor [] r.pieces ++ qs) e))
        ∙ sym (coefficient-++ (times p'.factor p'.shift p'.of.poly) (value (f.rest ++ (scale q.factor [] r.pieces ++ qs))) e))
        (rec (p' ∷ f.rest) (scale q.factor [] r.pieces ++ qs) (omega (arith, f.shorter)) (
          record { member = h.0.member; here = h.0.here },
          f.rest_holds,
        ) (Each-++ (IsPieceUnder by w d) (scale q.factor [] r.pieces) qs low k))
    at (inr none) rec = elim (zero_or_not p.factor) [
      | inl z ↦ IsStandard-equal by w (value (p ∷ ps ++ qs)) (value (ps ++ qs))
          (λ e. coefficient-++ (times p.factor p.shift p.of.poly) (value (ps ++ qs)) e
          ∙ ap (λ y. y +ℚ coefficient (value (ps ++ qs)) e) (coefficient-factor p.factor p.shift p.of.poly e ∙
          ap (λ y. y *ℚ coefficient (times one_ℚ p.shift p.of.poly) e) z ∙ *ℚ_comm zero_ℚ _ ∙ *ℚ-zero _)
          ∙ zero-+ℚ _)
          (rec ps qs (omega arith) h.1 k)
      | inr z ↦ inr (record {
        pieces = p ∷ ps ++ qs;
        top = level p;
        there = λ y. z (sym (alone none) ∙ y);
        within = within_all by w d (weight w (level p)) (p ∷ ps) qs (sym h.0.here) h k;
        equal = λ e. refl;
      })
    ]
      where
        below_none : (xs : List Piece) → Each (IsPieceUnder by w d) xs → NoneAt (level p) xs
        below_none [] k = tt
        below_none (x ∷ xs) k = (
          not_same (level p) (level x) (λ y. absurd (omega (arith, k.0.under, h.0.here, weight-same w (level p) (level x) y))),
          below_none xs k.1,
        )

        alone : NoneAt (level p) ps → coefficient (value (p ∷ ps ++ qs)) (level p) ≡ p.factor
        alone none =
            coefficient-++ (times p.factor p.shift p.of.poly) (value (ps ++ qs)) (level p)
            ∙ ap (λ z. z +ℚ coefficient (value (ps ++ qs)) (level p)) (coefficient-mark p.factor p.shift (level p) p.of (m p.of h.0.member).monic
            (same-refl (level p)))
            ∙ ap (λ z. p.factor +ℚ z) (nothing_at by w (level p) (ps ++ qs) m (within_all by w d (weight w (level p)) ps qs (sym h.0.here) h.1 k)
            (Each-++ _ ps qs none (below_none qs k)))
            ∙ +ℚ-zero p.factor

-- sums of lighter multiples are 0, or have a term at a mark that no multiple passes
pub standard_under : (by : MarkedPolynomial → Type 0) (w : List ℕ) →
    ((b : MarkedPolynomial) → by b → IsMarked (lighter w) b) →
    ((b c : MarkedPolynomial) → by b → by c → IsSettledEverywhere by (lighter w) b c) →
    (d : ℕ) (ps : List Piece) → Each (IsPieceUnder by w d) ps → IsStandard by w (value ps)
standard_under by w m s zero [] h = inl (λ e. refl)
standard_under by w m s zero (p ∷ ps) h = absurd (omega (arith, h.0.under))
standard_under by w m s (suc d) ps h =
    let r = part by w d ps h in
    IsStandard-equal by w (value ps) (value (r.at ++ r.under)) (λ e. r.equal e ∙ sym (coefficient-value-++ r.at r.under e))
    (standard_at by w d m s (standard_under by w m s d) (length r.at) r.at r.under (omega arith) r.all_at r.all_under)

-- ---- the criterion

bounded : (by : MarkedPolynomial → Type 0) (w : List ℕ) (ps : List Piece) → Each (λ (p : Piece). by p.of) ps →
    (d : ℕ) × Each (IsPieceUnder by w d) ps
bounded by w [] h = (0, tt)
bounded by w (p ∷ ps) h = at (bounded by w ps h.1)
  where
    at : ((d : ℕ) × Each (IsPieceUnder by w d) ps) → (d : ℕ) × Each (IsPieceUnder by w d) (p ∷ ps)
    at r =
        let d = suc (max r.0 (weight w (level p))) in (
          d,
          (
            record { member = h.0; under = omega arith },
            Each-weaker (IsPieceUnder by w r.0) (IsPieceUnder by w d)
                (λ q k. record { member = k.member; under = omega (arith, k.under) }) ps r.1,
          ),
        )

-- so are all sums of multiples
pub standard : (by : MarkedPolynomial → Type 0) (w : List ℕ) (f : Terms) →
    ((b : MarkedPolynomial) → by b → IsMarked (lighter w) b) →
    ((b c : MarkedPolynomial) → by b → by c → IsSettledEverywhere by (lighter w) b c) → IsCombined by f →
    IsStandard by w f
standard by w f m s c =
    let d = bounded by w c.pieces c.members in
    at (standard_under by w m s d.0 c.pieces d.1)
  where
    at : IsStandard by w (value c.pieces) → IsStandard by w f
    at (inl z) = inl (λ e. c.equal e ∙ z e)
    at (inr t) = inr (record {
      pieces = t.pieces;
      top = t.top;
      there = λ z. t.there (sym (c.equal t.top) ∙ z);
      within = t.within;
      equal = λ e. c.equal e ∙ t.equal e;
    })

-- a term at an exponent that no piece passes by weight stands at a mark
divisible_at : (by : MarkedPolynomial → Type 0) (w : List ℕ) (x : Exponents) (ps : List Piece) →
    ((b : MarkedPolynomial) → by b → IsMarked (lighter w) b) → Each (IsPieceWithin by w (weight w x)) ps →
    coefficient (value ps) x ≢ zero_ℚ → IsDivisible by x
divisible_at by w x ps m h n = at (find (IsPieceWithin by w (weight w x)) x ps h)
  where
    at : Found (IsPieceWithin by w (weight w x)) x ps ⊎ NoneAt x ps → IsDivisible by x
    at (inl f) = record { member = f.piece.of; contained = f.holds.member; rest = f.piece.shift; divides = f.like }
    at (inr z) = absurd (n (nothing_at by w x ps m h z))

-- an irreducible sum of multiples is 0
pub irreducible_zero : (by : MarkedPolynomial → Type 0) (w : List ℕ) (f : Terms) →
    ((b : MarkedPolynomial) → by b → IsMarked (lighter w) b) →
    ((b c : MarkedPolynomial) → by b → by c → IsSettledEverywhere by (lighter w) b c) → IsCombined by f →
    IsIrreducible by f → SamePolynomial f []
irreducible_zero by w f m s c i = at (standard by w f m s c)
  where
    at : IsStandard by w f → SamePolynomial f []
    at (inl z) = z
    at (inr k) = absurd (i k.top k.there (divisible_at by w k.top k.pieces m k.within (λ z. k.there (k.equal k.top ∙ z))))
