-- A pair whose S-polynomial was reduced to zero, or to a multiple of a member, is settled; so is a pair of two monomials.
-- To cite: settled_by_steps, settled_monomials, s_polynomial-within.
use Rattle.std.proofs.Common.{◌≡◌, ◌⊎◌, ◌≢◌, Bool, true, false, List, [], ◌∷◌, refl, sym, ap, ◌∙◌, inl, inr}
use Rattle.gf_frac.specs.Fraction.{Fraction, ◌+ℚ◌, neg_ℚ, zero_ℚ, one_ℚ}
use Rattle.gf_frac.proofs.FractionLaws.{+ℚ-zero, +ℚ-neg_ℚ, zero-+ℚ, zero_or_not}
use Rattle.gf_exponents_theory.specs.Exponents.{Exponents, plus, same, join, minus}
use Rattle.gf_exponents_theory.specs.Orders.{IsStrict}
use Rattle.gf_exponents_theory.proofs.ExponentsLaws.{same-sym, same_along, same_flip, same_shift, same_trans, minus_left, minus_right}
use Rattle.gf_poly.specs.Polynomial.{Terms, coefficient, times}
use Rattle.gf_poly.specs.Marking.{MarkedPolynomial, Each}
use Rattle.gf_poly.proofs.PolynomialLaws.{coefficient-++, coefficient-factor}
use Rattle.gf_ideal_theory.specs.Marks.{IsMarked, Piece, level, value}
use Rattle.gf_ideal_theory.specs.Reduction.{Reached, IsSPolynomial, IsKept, HasOneMonomial}
use Rattle.gf_ideal_theory.specs.Settled.{IsPieceBelow, IsBridged, IsSettledAtJoin}
use Rattle.gf_ideal_theory.proofs.Identities.{taken_over, neg_one}
use Rattle.gf_ideal_theory.proofs.ListLaws.{Each-weaker}
use Rattle.gf_ideal_theory.proofs.TermLaws.{found, nothing_there}
use Rattle.gf_ideal_theory.proofs.StepLaws.{coefficient-mark, times-monic, closed-below, IsWithin, IsPieceIn, AreTaken, taken}

-- ---- S-polynomials
off_mark : (below : Exponents → Exponents → Type 0) (b : MarkedPolynomial) (c : Fraction) (u e : Exponents) →
    IsStrict below → IsMarked below b → coefficient (times c u b.poly) e ≢ zero_ℚ → same e (plus u b.head) ≡ false →
    below e (plus u b.head)
off_mark below b c u e o m n off = let r = found c u b.poly e n in at r.0 (m.tail r.0 r.1) r.2
  where
    at : (y : Exponents) → (same y b.head ≡ true) ⊎ below y b.head → same e (plus u y) ≡ true → below e (plus u b.head)
    at y (inl s) k = let q : same e (plus u b.head) ≡ true = same_trans e (plus u y) (plus u b.head) k (same_shift u y b.head s) in absurd (cc)
    at y (inr l) k = o.along_left (plus u y) e (plus u b.head) (same_flip e (plus u y) k) (o.invariant u y b.head l)

-- its monomials are below the least common multiple
pub s_polynomial-within : (below : Exponents → Exponents → Type 0) (b c : MarkedPolynomial) (s : Terms) →
    IsStrict below → IsMarked below b → IsMarked below c → IsSPolynomial b c s →
    IsWithin (λ x. below x (join b.head c.head)) s
s_polynomial-within below b c s o mb mc q e n = at (same e (plus q.left b.head)) refl
  where
    parts : coefficient s e ≡ coefficient (times one_ℚ q.left b.poly) e +ℚ coefficient (times (neg_ℚ one_ℚ) q.right c.poly) e
    parts = q.equal e ∙ coefficient-++ (times one_ℚ q.left b.poly) (times (neg_ℚ one_ℚ) q.right c.poly) e

    across : same (plus q.left b.head) (plus q.right c.head) ≡ true
    across = same_trans (plus q.left b.head) (join b.head c.head) (plus q.right c.head) q.of_left (same_flip (plus q.right c.head) (join b.head c.head)
        q.of_right)

    at : (t : Bool) → same e (plus q.left b.head) ≡ t → below e (join b.head c.head)
    at true y = absurd (n (parts
        ∙ ap (λ z. z +ℚ coefficient (times (neg_ℚ one_ℚ) q.right c.poly) e) (coefficient-mark one_ℚ q.left e b mb.monic y)
        ∙ ap (λ z. one_ℚ +ℚ z) (coefficient-mark (neg_ℚ one_ℚ) q.right e c mc.monic (same_trans e (plus q.left b.head) (plus q.right c.head) y across))
        ∙ +ℚ-neg_ℚ one_ℚ))
    at false y = elim (zero_or_not (coefficient (times one_ℚ q.left b.poly) e)) [
      | inr m ↦ o.along_right e (plus q.left b.head) (join b.head c.head) q.of_left (off_mark below b one_ℚ q.left e o mb m y)
      | inl z ↦ o.along_right e (plus q.right c.head) (join b.head c.head) q.of_right
          (off_mark below c (neg_ℚ one_ℚ) q.right e o mc (λ x. n (parts ∙ ap (λ v. v +ℚ coefficient (times (neg_ℚ one_ℚ) q.right c.poly) e) z ∙ zero-+ℚ _ ∙ x))
          (sym (same_along (plus q.left b.head) (plus q.right c.head) e across ∙ same-sym (plus q.right c.head) e) ∙ same-sym (plus q.left b.head) e ∙ y))
    ]

-- a pair whose S-polynomial was reduced is settled
pub settled_by_steps : (by kept : MarkedPolynomial → Type 0) (below : Exponents → Exponents → Type 0) (b c : MarkedPolynomial) (s r : Terms) →
    IsStrict below → ((d : MarkedPolynomial) → by d → IsMarked below d) → ((d : MarkedPolynomial) → by d → kept d) →
    by b → by c → IsSPolynomial b c s → Reached by s r → IsKept kept r → IsSettledAtJoin kept below b c
settled_by_steps by kept below b c s r o m more hb hc q steps k =
    let t = taken by (λ x. below x (join b.head c.head)) s r (closed-below by below (join b.head c.head) o m)
    (s_polynomial-within below b c s o (m b hb) (m c hc) q) steps in
    record { left = q.left; right = q.right; of_left = q.of_left; of_right = q.of_right; bridge = at t k }
  where
    low : AreTaken by (λ x. below x (join b.head c.head)) s r → (ps : List Piece) →
        Each (IsPieceIn by (λ x. below x (join b.head c.head))) ps →
        Each (IsPieceBelow kept below (plus q.left b.head)) ps
    low t ps h = Each-weaker (IsPieceIn by (λ x. below x (join b.head c.head))) (IsPieceBelow kept below (plus q.left b.head))
        (λ p g. record {
          member = more p.of g.member;
          lower = o.along_right (level p) (join b.head c.head) (plus q.left b.head) (same_flip (plus q.left b.head) (join b.head c.head) q.of_left) g.inside;
        }) ps h

    spoly : (e : Exponents) →
        coefficient s e ≡ coefficient (times one_ℚ q.left b.poly) e +ℚ neg_ℚ (coefficient (times one_ℚ q.right c.poly) e)
    spoly e = q.equal e ∙ coefficient-++ (times one_ℚ q.left b.poly) (times (neg_ℚ one_ℚ) q.right c.poly) e ∙
        ap (λ z. coefficient (times one_ℚ q.left b.poly) e +ℚ z) (coefficient-factor (neg_ℚ one_ℚ) q.right c.poly e ∙ neg_one _)

    at : AreTaken by (λ x. below x (join b.head c.head)) s r → IsKept kept r → IsBridged kept below b c q.left q.right
    at t (inl z) = record {
      pieces = t.pieces;
      lower = low t t.pieces t.inside;
      equation = λ e. taken_over _ _ _ _ (spoly e) (t.equal e ∙ ap (λ y. y +ℚ coefficient (value t.pieces) e) (z e) ∙ zero-+ℚ _);
    }
    at t (inr d) = record {
      pieces = record { factor = coefficient r d.0.head; shift = []; of = d.0 } ∷ t.pieces;
      lower = (
        record {
          member = d.1;
          lower = o.along_right d.0.head (join b.head c.head) (plus q.left b.head) (same_flip (plus q.left b.head) (join b.head c.head) q.of_left)
              (t.within d.0.head d.2.there);
        },
        low t t.pieces t.inside,
      );
      equation = λ e. taken_over _ _ _ _ (spoly e) (t.equal e ∙ ap (λ y. y +ℚ coefficient (value t.pieces) e) (times-monic r d.0 d.2 e) ∙
          sym (coefficient-++ (times (coefficient r d.0.head) [] d.0.poly) (value t.pieces) e));
    }

-- ---- two monomials

single_else : (b : MarkedPolynomial) (u x : Exponents) → HasOneMonomial b → same x (plus u b.head) ≡ false →
    coefficient (times one_ℚ u b.poly) x ≡ zero_ℚ
single_else b u x h n = nothing_there one_ℚ u b.poly x (λ y m s. let t : same x (plus u b.head) ≡ true = same_trans x (plus u y) (plus u b.head) s
    (same_shift u y b.head (h y m)) in absurd (cc))

-- the S-polynomial of two monomials is zero
pub settled_monomials : (by : MarkedPolynomial → Type 0) (below : Exponents → Exponents → Type 0) (b c : MarkedPolynomial) →
    coefficient b.poly b.head ≡ one_ℚ → coefficient c.poly c.head ≡ one_ℚ → HasOneMonomial b → HasOneMonomial c →
    IsSettledAtJoin by below b c
settled_monomials by below b c mb mc hb hc = record {
  left = minus (join b.head c.head) b.head;
  right = minus (join b.head c.head) c.head;
  of_left = minus_left b.head c.head;
  of_right = minus_right b.head c.head;
  bridge = record { pieces = []; lower = tt; equation = λ x. at x (same x (join b.head c.head)) refl ∙ sym (+ℚ-zero _) };
}
  where
    u : Exponents
    u = minus (join b.head c.head) b.head

    v : Exponents
    v = minus (join b.head c.head) c.head

    at : (x : Exponents) (t : Bool) → same x (join b.head c.head) ≡ t →
        coefficient (times one_ℚ u b.poly) x ≡ coefficient (times one_ℚ v c.poly) x
    at x true s =
        coefficient-mark one_ℚ u x b mb (same_trans x (join b.head c.head) (plus u b.head) s
        (same_flip (plus u b.head) (join b.head c.head) (minus_left b.head c.head)))
        ∙ sym (coefficient-mark one_ℚ v x c mc (same_trans x (join b.head c.head) (plus v c.head) s
        (same_flip (plus v c.head) (join b.head c.head) (minus_right b.head c.head))))
    at x false s = single_else b u x hb (off (plus u b.head) (minus_left b.head c.head)) ∙
        sym (single_else c v x hc (off (plus v c.head) (minus_right b.head c.head)))
      where
        off : (y : Exponents) → same y (join b.head c.head) ≡ true → same x y ≡ false
        off y e = same-sym x y ∙ same_along y (join b.head c.head) x e ∙ same-sym (join b.head c.head) x ∙ s
