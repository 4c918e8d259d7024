-- Monomials a multiple of a vector apart: what weights give on them, and how they compare.
-- To cite: weight-steps, steps-back, lex_by_steps, rooted-negated, below_by_positive, below_by_negative.
use Rattle.std.proofs.Common.{◌≡◌, ℕ, zero, suc, ◌<◌, List, [], ◌∷◌, get_or, All, ℤ, pos, neg_ℤ, ◌+ℤ◌, ◌*ℤ◌, ◌<ℤ◌, ◌≤ℤ◌, arith, sym, ap, ◌∙◌, subst, inl, inr}
use Rattle.std.proofs.lemmas.Int.{ints}
use Rattle.std.proofs.Math.IntN.{*ℤ-zero}
use Rattle.gf_int_theory.proofs.RingLaws.{*ℤ-neg}
use Rattle.gf_int_theory.proofs.SignLaws.{0<-*ℤ}
use Rattle.gf_exponents_theory.specs.Exponents.{Exponents, entry, weight}
use Rattle.gf_exponents_theory.specs.Orders.{IsLexBelow, IsWeightedBelow, gains}
use Rattle.gf_exponents_theory.proofs.WholeWeightLaws.{natural-weight}
use Rattle.gf_ideal_theory.proofs.RingLaws.{rest, entry-rest}
use Rattle.gf_vec.specs.Vector.{dot}
use Rattle.gf_facets_theory.specs.Rows.{negated}
use Rattle.gf_facets_theory.specs.LexPositive.{IsLexPositive, rooted, IsNegative}
use Rattle.gf_facets_theory.specs.Beyond.{IsStepsFrom}
use Rattle.gf_facets_theory.proofs.WholeLaws.{weight-apart}
use Rattle.gf_facets_theory.proofs.VectorLaws.{get-negated, dot-negated, minus_one}

-- ---- weights

-- what a weight with entries at least 0 gives on y is what it gives on x and k times what it gives on a
pub weight-steps : (r : List ℤ) (k : ℕ) (a : List ℤ) (x y : Exponents) → All (λ c. pos 0 ≤ℤ c) r → IsStepsFrom k a x y →
    pos (weight (gains r) y) ≡ pos (weight (gains r) x) +ℤ pos k *ℤ dot a r
weight-steps r k a x y p h =
    natural-weight r y p ∙ weight-apart r a y x (pos k) h ∙ ap (λ u. u +ℤ pos k *ℤ dot a r) (sym (natural-weight r x p))

-- ---- the way back
back_step : (p q k c : ℤ) → q ≡ p +ℤ k *ℤ c → p ≡ q +ℤ k *ℤ neg_ℤ c
back_step p q k c e = let f : k *ℤ neg_ℤ c ≡ neg_ℤ (k *ℤ c) = *ℤ-neg k c in omega (arith, ints, e, f)

pub steps-back : (k : ℕ) (a : List ℤ) (x y : Exponents) → IsStepsFrom k a x y → IsStepsFrom k (negated a) y x
steps-back k a x y h i = back_step (pos (entry x i)) (pos (entry y i)) (pos k) (get_or a i (pos 0)) (h i) ∙
    ap (λ z. pos (entry y i) +ℤ pos k *ℤ z) (sym (get-negated a i))

-- ---- how they compare
grows : (p q k c : ℤ) → q ≡ p +ℤ k *ℤ c → pos 0 <ℤ k → pos 0 <ℤ c → p <ℤ q
grows p q k c e h l = let m : pos 0 <ℤ (k *ℤ c) = 0<-*ℤ k c h l in omega (arith, ints, e, m)

stays : (p q k c : ℤ) → q ≡ p +ℤ k *ℤ c → c ≡ pos 0 → p ≡ q
stays p q k c e z = let m : k *ℤ c ≡ pos 0 = ap (λ d. k *ℤ d) z ∙ *ℤ-zero k in omega (arith, ints, e, m)

pub lex_by_steps : (k : ℕ) (a : List ℤ) (x y : Exponents) → 0 < k → IsStepsFrom k a x y → IsLexPositive a → IsLexBelow x y
lex_by_steps k [] x y l h p = elim p [ ]
lex_by_steps k (c ∷ a) x y l h (inl p) = record {
  at = 0;
  before = λ i m. absurd (omega (arith, m));
  here = (let g = grows (pos (entry x 0)) (pos (entry y 0)) (pos k) c (h 0) (omega (arith, ints)) p in omega (arith, ints, g));
}
lex_by_steps k (c ∷ a) x y l h (inr p) = further (lex_by_steps k a (rest x) (rest y) l
    (λ i. ap pos (entry-rest y i) ∙ h (suc i) ∙ ap (λ z. pos z +ℤ pos k *ℤ get_or a i (pos 0)) (sym (entry-rest x i))) p.1)
  where
    first : entry x 0 ≡ entry y 0
    first = let g = stays (pos (entry x 0)) (pos (entry y 0)) (pos k) c (h 0) p.0 in omega (arith, ints, g)

    further : IsLexBelow (rest x) (rest y) → IsLexBelow x y
    further r = record {
      at = suc r.at;
      before = early;
      here = omega (arith, r.here, entry-rest x r.at, entry-rest y r.at);
    }
      where
        early : (i : ℕ) → i < suc r.at → entry x i ≡ entry y i
        early zero m = first
        early (suc i) m = sym (entry-rest x i) ∙ r.before i (omega arith) ∙ entry-rest y i

-- the root order goes up along a positive vector
pub below_by_positive : (r : List ℤ) (k : ℕ) (a : List ℤ) (x y : Exponents) → All (λ c. pos 0 ≤ℤ c) r → 0 < k → IsStepsFrom k a x y →
    IsLexPositive (rooted r a) → IsWeightedBelow (gains r) x y
below_by_positive r k a x y q l h (inl p) = inl (let e = grows (pos (weight (gains r) x)) (pos (weight (gains r) y)) (pos k) (dot a r)
    (weight-steps r k a x y q h) (omega (arith, ints)) p in omega (arith, ints, e))
below_by_positive r k a x y q l h (inr p) = inr (
  (let e = stays (pos (weight (gains r) x)) (pos (weight (gains r) y)) (pos k) (dot a r)
      (weight-steps r k a x y q h) p.0 in omega (arith, ints, e)),
  lex_by_steps k a x y l h p.1,
)

-- what the negative gives at the root
pub rooted-negated : (r a : List ℤ) → rooted r (negated a) ≡ negated (rooted r a)
rooted-negated r a = ap (λ z. z ∷ negated a) (dot-negated a r ∙ sym (minus_one (dot a r)))

-- and down along a negative one
pub below_by_negative : (r : List ℤ) (k : ℕ) (a : List ℤ) (x y : Exponents) → All (λ c. pos 0 ≤ℤ c) r → 0 < k → IsStepsFrom k a x y → IsNegative r a →
    IsWeightedBelow (gains r) y x
below_by_negative r k a x y q l h p = below_by_positive r k (negated a) y x q l (steps-back k a x y h) (subst IsLexPositive (sym (rooted-negated r a)) p)
