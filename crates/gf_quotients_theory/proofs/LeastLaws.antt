-- Marks that have least of a variable.
-- To cite: least_by_revlex, least_by_lowered.
use Rattle.std.proofs.Common.{◌≡◌, ◌⊎◌, ℕ, zero, suc, ◌+◌, ◌*◌, ◌-◌, ◌<◌, ◌≤◌, true, List, [], ◌∷◌, arith, refl, ap, ◌∙◌, inl, inr}
use Rattle.std.proofs.lemmas.Bool.{cases_lt}
use Rattle.gf_exponents_theory.specs.Exponents.{Exponents, entry, same, weight}
use Rattle.gf_exponents_theory.specs.Orders.{IsRevlexBelow, IsWeightedRevlexBelow}
use Rattle.gf_exponents_theory.proofs.ExponentsLaws.{entries_same}
use Rattle.gf_poly.specs.Marking.{MarkedPolynomial}
use Rattle.gf_ideal_theory.specs.Marks.{IsMarked, IsPositive}
use Rattle.gf_ideal_theory.specs.MonomialOrders.{IsHomogeneous}
use Rattle.gf_ideal_theory.proofs.MarkWeights.{mark-there}
use Rattle.gf_quotients_theory.specs.Quotients.{HasLeastAtMark, doubled, lowered}

pub least_by_revlex : (k : ℕ) (grade : List ℕ) (b : MarkedPolynomial) → IsHomogeneous (suc k) grade b.poly → IsMarked IsRevlexBelow b → HasLeastAtMark k b
least_by_revlex k grade b h m x t = at (m.tail x t)
  where
    here : (x y : Exponents) → x ≡ x → (j : ℕ) → j ≡ k → entry y j < entry x j → entry y k < entry x k
    here x y r j e l = omega (arith, l, ap (entry x) e, ap (entry y) e)

    at : (same x b.head ≡ true) ⊎ IsRevlexBelow x b.head → entry b.head k ≤ entry x k
    at (inl s) = omega (arith, entries_same x b.head s k)
    at (inr r) = by (cases_lt r.at k) (cases_lt k r.at)
      where
        by : (r.at < k) ⊎ (k ≤ r.at) → (k < r.at) ⊎ (r.at ≤ k) → entry b.head k ≤ entry x k
        by (inl l) z = omega (arith, r.after k l)
        by (inr l) (inl g) = absurd (omega (arith, r.here, (h x b.head t (mark-there IsRevlexBelow b m)).1 r.at (omega (arith, g))))
        by (inr l) (inr g) = omega (arith, here x b.head refl r.at (omega (arith, l, g)) r.here)

weight-doubled : (g : List ℕ) (x : Exponents) → weight (doubled g) x ≡ 2 * weight g x
weight-doubled [] x = refl
weight-doubled (g ∷ gs) [] = refl
weight-doubled (g ∷ gs) (a ∷ x) = omega (arith, weight-doubled gs x)

one_less : (g a u v : ℕ) → 1 ≤ g → u ≡ 2 * v → (2 * g - 1) * a + u + a ≡ 2 * (g * a + v)
one_less zero a u v p e = absurd (omega (arith, p))
one_less (suc g) a u v p e = ap (λ c. c * a + u + a) less ∙ omega (arith, e)
  where
    less : 2 * suc g - 1 ≡ 2 * g + 1
    less = omega arith

weight-lowered : (n k : ℕ) (g : List ℕ) (x : Exponents) → k < n → IsPositive n g → weight (lowered k g) x + entry x k ≡ 2 * weight g x
weight-lowered n k [] x l p = absurd (omega (arith, p k l))
weight-lowered n zero (g ∷ gs) [] l p = refl
weight-lowered n (suc k) (g ∷ gs) [] l p = refl
weight-lowered n zero (g ∷ gs) (a ∷ x) l p = one_less g a (weight (doubled gs) x) (weight gs x) (p zero l) (weight-doubled gs x)
weight-lowered zero (suc k) (g ∷ gs) (a ∷ x) l p = absurd (omega (arith, l))
weight-lowered (suc n) (suc k) (g ∷ gs) (a ∷ x) l p = omega (arith, weight-lowered n k gs x (omega (arith, l)) (λ i q. p (suc i) (omega (arith, q))))

pub least_by_lowered : (n k : ℕ) (grade : List ℕ) (b : MarkedPolynomial) → k < n → IsPositive n grade → IsHomogeneous n grade b.poly →
    IsMarked (IsWeightedRevlexBelow (lowered k grade)) b → HasLeastAtMark k b
least_by_lowered n k grade b l p h m x t = at (m.tail x t)
  where
    mx : weight (lowered k grade) x + entry x k ≡ 2 * weight grade x
    mx = weight-lowered n k grade x l p

    mh : weight (lowered k grade) b.head + entry b.head k ≡ 2 * weight grade b.head
    mh = weight-lowered n k grade b.head l p

    alike : weight grade x ≡ weight grade b.head
    alike = (h x b.head t (mark-there (IsWeightedRevlexBelow (lowered k grade)) b m)).0

    at : (same x b.head ≡ true) ⊎ IsWeightedRevlexBelow (lowered k grade) x b.head → entry b.head k ≤ entry x k
    at (inl s) = omega (arith, entries_same x b.head s k)
    at (inr (inl q)) = omega (arith, mx, mh, alike, q)
    at (inr (inr q)) = omega (arith, mx, mh, alike, q.0)
