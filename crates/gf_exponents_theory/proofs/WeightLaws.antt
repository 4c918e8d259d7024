-- Weights and degrees of products, and of the same monomial.
-- To cite: weight-nil, weight-plus, weight-same, degree-plus, degree-same.
use Rattle.std.proofs.Common.{◌≡◌, ℕ, ◌+◌, ◌==◌, true, List, [], ◌∷◌, arith, refl, sym, ◌∙◌}
use Rattle.gf_exponents_theory.specs.Exponents.{Exponents, plus, same, weight, degree}
use Rattle.gf_exponents_theory.proofs.ExponentsLaws.{same-sym, eq_by}
use Rattle.std.proofs.lemmas.Bool.{and_parts}

pub weight-nil : (w : List ℕ) → weight w [] ≡ 0
weight-nil [] = refl
weight-nil (w ∷ ws) = refl

pub weight-plus : (w : List ℕ) (x y : Exponents) → weight w (plus x y) ≡ weight w x + weight w y
weight-plus [] x y = refl
weight-plus (w ∷ ws) [] y = omega arith
weight-plus (w ∷ ws) (a ∷ x) [] = omega arith
weight-plus (w ∷ ws) (a ∷ x) (b ∷ y) = omega (arith, weight-plus ws x y)

weight-zero : (w : List ℕ) (y : Exponents) → same [] y ≡ true → weight w y ≡ 0
weight-zero [] y h = refl
weight-zero (w ∷ ws) [] h = refl
weight-zero (w ∷ ws) (b ∷ y) h =
    let p = and_parts (b == 0) (same [] y) h in
    let e : b ≡ 0 = eq_by b 0 p.0 in
    let r : weight ws y ≡ 0 = weight-zero ws y p.1 in
    rw (e, r) (omega arith)

pub weight-same : (w : List ℕ) (x y : Exponents) → same x y ≡ true → weight w x ≡ weight w y
weight-same [] x y h = refl
weight-same (w ∷ ws) [] y h = sym (weight-zero (w ∷ ws) y h)
weight-same (w ∷ ws) (a ∷ x) [] h =
    let p = and_parts (a == 0) (same x []) h in
    let e : a ≡ 0 = eq_by a 0 p.0 in
    let r : weight ws x ≡ 0 = weight-zero ws x (same-sym [] x ∙ p.1) in
    rw (e, r) (omega arith)
weight-same (w ∷ ws) (a ∷ x) (b ∷ y) h =
    let p = and_parts (a == b) (same x y) h in
    let e : a ≡ b = eq_by a b p.0 in
    let r : weight ws x ≡ weight ws y = weight-same ws x y p.1 in
    rw (e, r) refl

pub degree-plus : (x y : Exponents) → degree (plus x y) ≡ degree x + degree y
degree-plus [] y = omega arith
degree-plus (a ∷ x) [] = omega arith
degree-plus (a ∷ x) (b ∷ y) = omega (arith, degree-plus x y)

degree-zero : (y : Exponents) → same [] y ≡ true → degree y ≡ 0
degree-zero [] h = refl
degree-zero (b ∷ y) h =
    let p = and_parts (b == 0) (same [] y) h in
    omega (arith, eq_by b 0 p.0, degree-zero y p.1)

pub degree-same : (x y : Exponents) → same x y ≡ true → degree x ≡ degree y
degree-same [] y h = sym (degree-zero y h)
degree-same (a ∷ x) [] h = degree-zero (a ∷ x) (same-sym [] (a ∷ x) ∙ h)
degree-same (a ∷ x) (b ∷ y) h =
    let p = and_parts (a == b) (same x y) h in
    omega (arith, eq_by a b p.0, degree-same x y p.1)
