-- Monomials without the variables past the first n.
-- To cite: cut, cut-ring, cut-same, cut-along, cut-plus.
use Rattle.std.proofs.Common.{◌≡◌, ℕ, zero, suc, ◌<◌, true, [], ◌∷◌, arith, refl, sym, ◌∙◌}
use Rattle.gf_exponents_theory.specs.Exponents.{Exponents, entry, same, plus, IsInRing}
use Rattle.gf_exponents_theory.proofs.ExponentsLaws.{entry-plus, entries_same}
use Rattle.gf_ideal_theory.proofs.RingLaws.{same_in_ring}

-- the first n exponents
abbrev pub cut : ℕ → Exponents → Exponents
cut zero x = []
cut (suc n) [] = []
cut (suc n) (a ∷ x) = a ∷ cut n x

pub entry-cut : (n : ℕ) (x : Exponents) (i : ℕ) → i < n → entry (cut n x) i ≡ entry x i
entry-cut zero x i l = absurd (omega arith)
entry-cut (suc n) [] i l = refl
entry-cut (suc n) (a ∷ x) zero l = refl
entry-cut (suc n) (a ∷ x) (suc i) l = entry-cut n x i (omega arith)

pub cut-ring : (n : ℕ) (x : Exponents) → IsInRing n (cut n x)
cut-ring zero x i l = refl
cut-ring (suc n) [] i l = refl
cut-ring (suc n) (a ∷ x) zero l = absurd (omega arith)
cut-ring (suc n) (a ∷ x) (suc i) l = cut-ring n x i (omega arith)

pub cut-same : (n : ℕ) (x : Exponents) → IsInRing n x → same (cut n x) x ≡ true
cut-same n x h = same_in_ring n (cut n x) x (cut-ring n x) h (λ i l. entry-cut n x i l)

pub cut-along : (n : ℕ) (x y : Exponents) → same x y ≡ true → same (cut n x) (cut n y) ≡ true
cut-along n x y s = same_in_ring n (cut n x) (cut n y) (cut-ring n x) (cut-ring n y) (λ i l. entry-cut n x i l ∙ entries_same x y s i ∙ sym (entry-cut n y i l))

pub cut-plus : (n : ℕ) (z x : Exponents) → same (plus (cut n z) (cut n x)) (cut n (plus z x)) ≡ true
cut-plus n z x = same_in_ring n (plus (cut n z) (cut n x)) (cut n (plus z x)) (λ i l. omega (
  arith,
  entry-plus (cut n z) (cut n x) i,
  cut-ring n z i l,
  cut-ring n x i l,
)) (cut-ring n (plus z x))
    (λ i l. omega (arith, entry-plus (cut n z) (cut n x) i, entry-cut n z i l, entry-cut n x i l, entry-cut n (plus z x) i l, entry-plus z x i))
