-- Division: each polynomial is an irreducible remainder and a sum of multiples, inside any set that steps don't leave.
-- To cite: divisible_or_not, divided, irreducible_terms. The rest are steps: terms are divided or kept weight by weight,
-- so that the recursion is on the weight and needs no normal form.
use Rattle.std.proofs.Common.{◌≡◌, ◌⊎◌, ◌≢◌, ℕ, zero, suc, ◌<◌, ◌≤◌, Bool, true, false, if◌then◌else◌, List, [], ◌∷◌, ◌++◌, Contains, max, arith, refl, sym, ap}
use Rattle.std.proofs.Common.{◌∙◌, inl, inr}
use Rattle.std.proofs.lemmas.Bool.{cases_lt}
use Rattle.gf_frac.specs.Fraction.{Fraction, ◌+ℚ◌, ◌*ℚ◌, neg_ℚ, zero_ℚ, one_ℚ}
use Rattle.gf_frac.proofs.FractionLaws.{+ℚ_assoc, +ℚ-zero, *ℚ-one}
use Rattle.gf_exponents_theory.specs.Exponents.{Exponents, plus, same, NoMultiple, weight}
use Rattle.gf_exponents_theory.specs.Orders.{lighter}
use Rattle.gf_exponents_theory.proofs.ExponentsLaws.{plus_comm, same-sym, same_along, same_flip, same_trans, multiple_or_not}
use Rattle.gf_exponents_theory.proofs.WeightLaws.{weight-plus, weight-same}
use Rattle.gf_poly.specs.declared.Term.{Term}
use Rattle.gf_poly.specs.Polynomial.{Terms, coefficient, times}
use Rattle.gf_poly.specs.Marking.{MarkedPolynomial, Each}
use Rattle.gf_poly.proofs.PolynomialLaws.{coefficient-++, SamePolynomial-times, coefficient-factor, times-plain}
use Rattle.gf_ideal_theory.specs.Membership.{HasMonomial}
use Rattle.gf_ideal_theory.specs.Marks.{Piece, value, AreMarked}
use Rattle.gf_ideal_theory.specs.Reduction.{IsDivisible, IsIrreducible}
use Rattle.gf_ideal_theory.proofs.Identities.{away, into_pieces, into_lower, two_parts}
use Rattle.gf_ideal_theory.proofs.ListLaws.{Each-++, Each-weaker, contained_each, Contains-there}
use Rattle.gf_ideal_theory.proofs.TermLaws.{without, apart, found_term, Canonical, canonical, canonical_terms}
use Rattle.gf_ideal_theory.proofs.PieceLaws.{coefficient-value-++}
use Rattle.gf_ideal_theory.proofs.StepLaws.{IsClosed, IsPieceIn, IsWithin}

-- ---- whether a mark divides
abbrev pub NoMark : List MarkedPolynomial → Exponents → Type 0
NoMark bs x = Each (λ (b : MarkedPolynomial). NoMultiple b.head x) bs

-- whether a mark divides x is decided
pub divisible_or_not : (bs : List MarkedPolynomial) (x : Exponents) → IsDivisible (Contains bs) x ⊎ NoMark bs x
divisible_or_not [] x = inr tt
divisible_or_not (b ∷ bs) x = at (multiple_or_not b.head x) (divisible_or_not bs x)
  where
    at : ((y : Exponents) × (same x (plus b.head y) ≡ true)) ⊎ NoMultiple b.head x →
        IsDivisible (Contains bs) x ⊎ NoMark bs x → IsDivisible (Contains (b ∷ bs)) x ⊎ NoMark (b ∷ bs) x
    at (inl m) r = inl (record { member = b; contained = (0, omega arith, refl); rest = m.0; divides = ap (same x) (plus_comm m.0 b.head) ∙ m.1 })
    at (inr n) (inl d) = inl (record { member = d.member; contained = Contains-there b d.member bs d.contained; rest = d.rest; divides = d.divides })
    at (inr n) (inr m) = inr (n, m)

-- where no mark divides x, x isn't divisible
pub undivided : (bs : List MarkedPolynomial) (x : Exponents) → NoMark bs x → IsDivisible (Contains bs) x → ⊥
undivided bs x n d =
    let f : same x (plus d.member.head d.rest) ≡ false = contained_each (λ (b : MarkedPolynomial). NoMultiple b.head x) bs n d.member d.contained d.rest in
    let t : same x (plus d.member.head d.rest) ≡ true = ap (same x) (plus_comm d.member.head d.rest) ∙ d.divides in
    absurd (cc)

without-below : (below : Exponents → Exponents → Type 0) (h : Exponents) (f : Terms) →
    Each (λ (t : Term). (same t.mono h ≡ true) ⊎ below t.mono h) f → Each (λ (t : Term). below t.mono h) (without h f)
without-below below h [] k = tt
without-below below h (t ∷ f) k = at (same h t.mono) refl (without-below below h f k.1)
  where
    at : (b : Bool) → same h t.mono ≡ b → Each (λ (t : Term). below t.mono h) (without h f) →
        Each (λ (t : Term). below t.mono h) (if b then without h f else (t ∷ without h f))
    at true q r = r
    at false q r = (low k.0, r)
      where
        low : (same t.mono h ≡ true) ⊎ below t.mono h → below t.mono h
        low (inl z) = let n : same h t.mono ≡ true = same_flip t.mono h z in absurd (cc)
        low (inr l) = l

each-without : (P : Term → Type 0) (h : Exponents) (f : Terms) → Each P f → Each P (without h f)
each-without P h [] k = tt
each-without P h (t ∷ f) k = at (same h t.mono) (each-without P h f k.1)
  where
    at : (b : Bool) → Each P (without h f) → Each P (if b then without h f else (t ∷ without h f))
    at true r = r
    at false r = (k.0, r)

-- a term whose exponent a mark divides: a multiple, and the rest of it
taken_term : (t : Term) (b : MarkedPolynomial) (k : Canonical b.poly) (u e : Exponents) →
    coefficient b.poly b.head ≡ one_ℚ → same t.mono (plus u b.head) ≡ true →
    (if same e t.mono then t.coef else zero_ℚ) ≡ coefficient (times t.coef u b.poly) e +ℚ coefficient (times (neg_ℚ t.coef) u (without b.head k.terms)) e
taken_term t b k u e one s =
    away (coefficient (times t.coef u b.poly) e) (if same e t.mono then t.coef else zero_ℚ) t.coef (coefficient (times one_ℚ u (without b.head k.terms)) e)
    (SamePolynomial-times t.coef u b.poly (record { coef = one_ℚ; mono = b.head } ∷ without b.head k.terms) monic e
    ∙ ap (λ z. z +ℚ coefficient (times t.coef u (without b.head k.terms)) e) here
    ∙ ap (λ z. (if same e t.mono then t.coef else zero_ℚ) +ℚ z) (coefficient-factor t.coef u (without b.head k.terms) e))
    ∙ ap (λ z. coefficient (times t.coef u b.poly) e +ℚ z) (sym (coefficient-factor (neg_ℚ t.coef) u (without b.head k.terms) e))
  where
    monic : (y : Exponents) →
        coefficient b.poly y ≡ (if same y b.head then one_ℚ else zero_ℚ) +ℚ coefficient (without b.head k.terms) y
    monic y = k.equal y ∙ apart b.head k.terms y ∙ ap (λ z. (if same y b.head then z else zero_ℚ) +ℚ coefficient (without b.head k.terms) y)
        (sym (k.equal b.head) ∙ one)

    here : (if same e (plus u b.head) then t.coef *ℚ one_ℚ else zero_ℚ) ≡ (if same e t.mono then t.coef else zero_ℚ)
    here = ap (λ c. if same e (plus u b.head) then c else zero_ℚ) (*ℚ-one t.coef) ∙ ap (λ b. if b then t.coef else zero_ℚ)
        (same-sym e (plus u b.head) ∙ sym (same_along t.mono (plus u b.head) e s) ∙ same-sym t.mono e)

-- ---- division
-- f is an irreducible remainder and a sum of pieces, all inside B
pub record Divided (bs : List MarkedPolynomial) (B : Exponents → Type 0) (f : Terms) : Type 0 where
  pub remainder : Terms
  pub kept : Each (λ (t : Term). B t.mono) remainder
  pub irreducible : Each (λ (t : Term). NoMark bs t.mono) remainder
  pub pieces : List Piece
  pub inside : Each (IsPieceIn (Contains bs) B) pieces
  pub equal : (e : Exponents) → coefficient f e ≡ coefficient remainder e +ℚ coefficient (value pieces) e

-- the terms of weight d are divided, or kept
record Split (bs : List MarkedPolynomial) (w : List ℕ) (d : ℕ) (B : Exponents → Type 0) (f : Terms) : Type 0 where
  remainder : Terms
  kept : Each (λ (t : Term). B t.mono) remainder
  irreducible : Each (λ (t : Term). NoMark bs t.mono) remainder
  pieces : List Piece
  inside : Each (IsPieceIn (Contains bs) B) pieces
  lower : Terms
  under : Each (λ (t : Term). weight w t.mono < d) lower
  within : Each (λ (t : Term). B t.mono) lower
  equal : (e : Exponents) →
      coefficient f e ≡ coefficient remainder e +ℚ (coefficient (value pieces) e +ℚ coefficient lower e)

Each-times : (P Q : Exponents → Type 0) (c : Fraction) (u : Exponents) → ((x : Exponents) → P x → Q (plus u x)) →
    (f : Terms) → Each (λ (t : Term). P t.mono) f → Each (λ (t : Term). Q t.mono) (times c u f)
Each-times P Q c u h [] k = tt
Each-times P Q c u h (t ∷ f) k = (h t.mono k.0, Each-times P Q c u h f k.1)

split : (bs : List MarkedPolynomial) (w : List ℕ) (B : Exponents → Type 0) → AreMarked (lighter w) bs →
    IsClosed (Contains bs) B → (d : ℕ) (f : Terms) → Each (λ (t : Term). weight w t.mono < suc d) f →
    Each (λ (t : Term). B t.mono) f → Split bs w d B f
split bs w B mw dw d [] h k = record {
  remainder = [];
  kept = tt;
  irreducible = tt;
  pieces = [];
  inside = tt;
  lower = [];
  under = tt;
  within = tt;
  equal = λ e. sym (ap (λ z. zero_ℚ +ℚ z) (+ℚ-zero zero_ℚ) ∙ +ℚ-zero zero_ℚ);
}
split bs w B mw dw d (t ∷ f) h k = at (split bs w B mw dw d f h.1 k.1) (cases_lt (weight w t.mono) d) (divisible_or_not bs t.mono)
  where
    at : Split bs w d B f → (weight w t.mono < d) ⊎ (d ≤ weight w t.mono) →
        IsDivisible (Contains bs) t.mono ⊎ NoMark bs t.mono → Split bs w d B (t ∷ f)
    at r (inl l) q = record {
      remainder = r.remainder;
      kept = r.kept;
      irreducible = r.irreducible;
      pieces = r.pieces;
      inside = r.inside;
      lower = t ∷ r.lower;
      under = (l, r.under);
      within = (k.0, r.within);
      equal = λ e. ap (λ z. (if same e t.mono then t.coef else zero_ℚ) +ℚ z) (r.equal e) ∙ into_lower _ _ _ _;
    }
    at r (inr g) (inr n) = record {
      remainder = t ∷ r.remainder;
      kept = (k.0, r.kept);
      irreducible = (n, r.irreducible);
      pieces = r.pieces;
      inside = r.inside;
      lower = r.lower;
      under = r.under;
      within = r.within;
      equal = λ e. ap (λ z. (if same e t.mono then t.coef else zero_ℚ) +ℚ z) (r.equal e) ∙ sym (+ℚ_assoc _ _ _);
    }
    at r (inr g) (inl q) =
        let b = q.member in
        let u = q.rest in
        let top : B (plus u b.head) = dw.along t.mono (plus u b.head) q.divides k.0 in
        let kb = canonical b.poly in
        let rest = without b.head kb.terms in
        let under : Each (λ (s : Term). weight w s.mono < d) (times (neg_ℚ t.coef) u rest) =
        Each-times (λ x. lighter w x b.head) (λ x. weight w x < d) (neg_ℚ t.coef) u (λ x l. omega (
          arith,
          weight-plus w u x,
          weight-plus w u b.head,
          weight-same w t.mono (plus u b.head) q.divides,
          h.0,
        )) rest
        (without-below (lighter w) b.head kb.terms (canonical_terms (λ y. (same y b.head ≡ true) ⊎ lighter w y b.head) b.poly kb (mw b q.contained).tail)) in
        let within : Each (λ (s : Term). B s.mono) (times (neg_ℚ t.coef) u rest) =
        Each-times (λ x. HasMonomial b.poly x) B (neg_ℚ t.coef) u (λ x n. dw.lower b q.contained u x n top) rest
        (each-without (λ (s : Term). HasMonomial b.poly s.mono) b.head kb.terms kb.there) in
        record {
          remainder = r.remainder;
          kept = r.kept;
          irreducible = r.irreducible;
          pieces = record { factor = t.coef; shift = u; of = b } ∷ r.pieces;
          inside = (record { member = q.contained; inside = top }, r.inside);
          lower = times (neg_ℚ t.coef) u rest ++ r.lower;
          under = Each-++ (λ (s : Term). weight w s.mono < d) (times (neg_ℚ t.coef) u rest) r.lower under r.under;
          within = Each-++ (λ (s : Term). B s.mono) (times (neg_ℚ t.coef) u rest) r.lower within r.within;
          equal = λ e.
              ap (λ z. z +ℚ coefficient f e) (taken_term t b kb u e (mw b q.contained).monic q.divides)
              ∙ ap (λ z. (coefficient (times t.coef u b.poly) e +ℚ coefficient (times (neg_ℚ t.coef) u rest) e) +ℚ z) (r.equal e)
              ∙ into_pieces _ _ _ _ _
              ∙ ap (λ z. coefficient r.remainder e +ℚ (z +ℚ (coefficient (times (neg_ℚ t.coef) u rest) e +ℚ coefficient r.lower e)))
              (sym (coefficient-++ (times t.coef u b.poly) (value r.pieces) e))
              ∙ ap (λ z. coefficient r.remainder e +ℚ (coefficient (times t.coef u b.poly ++ value r.pieces) e +ℚ z))
              (sym (coefficient-++ (times (neg_ℚ t.coef) u rest) r.lower e));
        }

divide_under : (bs : List MarkedPolynomial) (w : List ℕ) (B : Exponents → Type 0) → AreMarked (lighter w) bs →
    IsClosed (Contains bs) B → (d : ℕ) (f : Terms) → Each (λ (t : Term). weight w t.mono < d) f →
    Each (λ (t : Term). B t.mono) f → Divided bs B f
divide_under bs w B mw dw zero [] h k = record { remainder = []; kept = tt; irreducible = tt; pieces = []; inside = tt; equal = λ e. sym (+ℚ-zero zero_ℚ) }
divide_under bs w B mw dw zero (t ∷ f) h k = absurd (omega (arith, h.0))
divide_under bs w B mw dw (suc d) f h k = at (split bs w B mw dw d f h k) (divide_under bs w B mw dw d)
  where
    at : Split bs w d B f →
        ((f : Terms) → Each (λ (t : Term). weight w t.mono < d) f → Each (λ (t : Term). B t.mono) f → Divided bs B f) →
        Divided bs B f
    at s rec =
        let r = rec s.lower s.under s.within in
        record {
          remainder = s.remainder ++ r.remainder;
          kept = Each-++ (λ (t : Term). B t.mono) s.remainder r.remainder s.kept r.kept;
          irreducible = Each-++ (λ (t : Term). NoMark bs t.mono) s.remainder r.remainder s.irreducible r.irreducible;
          pieces = s.pieces ++ r.pieces;
          inside = Each-++ (IsPieceIn (Contains bs) B) s.pieces r.pieces s.inside r.inside;
          equal = λ e.
              s.equal e
              ∙ ap (λ z. coefficient s.remainder e +ℚ (coefficient (value s.pieces) e +ℚ z)) (r.equal e)
              ∙ two_parts _ _ _ _
              ∙ ap (λ z. z +ℚ (coefficient (value s.pieces) e +ℚ coefficient (value r.pieces) e)) (sym (coefficient-++ s.remainder r.remainder e))
              ∙ ap (λ z. coefficient (s.remainder ++ r.remainder) e +ℚ z) (sym (coefficient-value-++ s.pieces r.pieces e));
        }

heavy : (w : List ℕ) (f : Terms) → (d : ℕ) × Each (λ (t : Term). weight w t.mono < d) f
heavy w [] = (0, tt)
heavy w (t ∷ f) = at (heavy w f)
  where
    at : ((d : ℕ) × Each (λ (t : Term). weight w t.mono < d) f) →
        (d : ℕ) × Each (λ (s : Term). weight w s.mono < d) (t ∷ f)
    at r = (
      suc (max r.0 (weight w t.mono)),
      (
        omega arith,
        Each-weaker (λ (s : Term). weight w s.mono < r.0) (λ (s : Term). weight w s.mono <
            suc (max r.0 (weight w t.mono))) (λ s l. omega arith) f r.1,
      ),
    )

-- each polynomial is divided, and neither multiples nor the remainder leave a set that steps don't leave
pub divided : (bs : List MarkedPolynomial) (w : List ℕ) (B : Exponents → Type 0) (f : Terms) →
    AreMarked (lighter w) bs → IsClosed (Contains bs) B → IsWithin B f → Divided bs B f
divided bs w B f mw dw h = at (canonical f)
  where
    at : Canonical f → Divided bs B f
    at c = finish (heavy w c.terms)
      where
        finish : ((d : ℕ) × Each (λ (t : Term). weight w t.mono < d) c.terms) → Divided bs B f
        finish d =
            let r = divide_under bs w B mw dw d.0 c.terms d.1 (Each-weaker (λ (t : Term). coefficient f t.mono ≢ zero_ℚ) (λ (t : Term). B t.mono)
            (λ t n. h t.mono n) c.terms c.there) in
            record {
              remainder = r.remainder;
              kept = r.kept;
              irreducible = r.irreducible;
              pieces = r.pieces;
              inside = r.inside;
              equal = λ e. c.equal e ∙ r.equal e;
            }

-- terms that no mark divides are irreducible
pub irreducible_terms : (bs : List MarkedPolynomial) (f : Terms) → Each (λ (t : Term). NoMark bs t.mono) f →
    IsIrreducible (Contains bs) f
irreducible_terms bs f h x n d =
    let r = found_term (λ (t : Term). NoMark bs t.mono) one_ℚ [] f x h (λ z. n (ap (λ g. coefficient g x) (sym (times-plain f)) ∙ z)) in
    undivided bs r.0.mono r.1 (record {
      member = d.member;
      contained = d.contained;
      rest = d.rest;
      divides = same_trans r.0.mono x (plus d.rest d.member.head) (same_flip x r.0.mono r.2) d.divides;
    })
