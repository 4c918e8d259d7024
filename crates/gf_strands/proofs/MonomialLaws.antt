-- Lists whose members at the front are monomials.
-- To cite: monomial_single, monomial_one, joined_length, front_at, behind_at, AtFront, AtBehind, joined_cases, joined_push, behind_contained, front_contained,
-- behind_variables, front_variables, apart_later.
use Rattle.std.proofs.Common.{◌≡◌, ◌⊎◌, ℕ, zero, suc, ◌+◌, ◌<◌, Bool, true, false, if◌then◌else◌, List, [], ◌∷◌, ◌++◌, length, map, get_or, Contains, arith}
use Rattle.std.proofs.Common.{refl, sym, ap, ◌∙◌, subst, inl, inr}
use Rattle.std.proofs.lemmas.List.{get_or_default}
use Rattle.std.proofs.lemmas.List.Elements.{Contains-append_left, Contains-append_right}
use Rattle.gf_frac.specs.Fraction.{one_ℚ, zero_ℚ, ◌+ℚ◌}
use Rattle.gf_frac.proofs.FractionLaws.{zero-+ℚ, +ℚ-zero}
use Rattle.gf_exponents_theory.specs.Exponents.{Exponents, Divides, same, plus}
use Rattle.gf_exponents_theory.proofs.ExponentsLaws.{same-refl, same_trans, same_flip}
use Rattle.gf_poly.specs.Polynomial.{coefficient}
use Rattle.gf_poly.specs.Marking.{MarkedPolynomial, HaveVariables}
use Rattle.gf_ideal_theory.specs.Membership.{HasMonomial}
use Rattle.gf_ideal_theory.specs.Reduction.{HasOneMonomial}
use Rattle.gf_ideal_theory.specs.Settled.{IsAt}
use Rattle.gf_strands.specs.Monomials.{monomial_member, with_monomials, AreMonomialsApart, AreLaterUndivided}

-- ---- monomials as members

pub monomial_single : (x : Exponents) → HasOneMonomial (monomial_member x)
monomial_single x y h = at (same y x) refl
  where
    at : (b : Bool) → same y x ≡ b → same y x ≡ true
    at true e = e
    at false e = absurd (h (ap (λ (b : Bool). (if b then one_ℚ else zero_ℚ) +ℚ zero_ℚ) e ∙ zero-+ℚ zero_ℚ))

pub monomial_one : (x : Exponents) → coefficient (monomial_member x).poly (monomial_member x).head ≡ one_ℚ
monomial_one x = ap (λ (b : Bool). (if b then one_ℚ else zero_ℚ) +ℚ zero_ℚ) (same-refl x) ∙ +ℚ-zero one_ℚ

-- ---- indices

pub joined_length : (xs : List Exponents) (bs : List MarkedPolynomial) → length (with_monomials xs bs) ≡ length xs + length bs
joined_length [] bs = omega arith
joined_length (x ∷ xs) bs = omega (arith, joined_length xs bs)

-- the monomial at an index
pub front_at : (xs : List Exponents) (bs : List MarkedPolynomial) (i : ℕ) (x : Exponents) → i < length xs → x ≡ get_or xs i x →
    IsAt (with_monomials xs bs) i (monomial_member x)
front_at [] bs i x l e = absurd (omega (arith, l))
front_at (y ∷ xs) bs zero x l e = record { within = omega arith; is = ap monomial_member (sym e) }
front_at (y ∷ xs) bs (suc i) x l e =
    let r = front_at xs bs i x (omega (arith, l)) e in
    record { within = omega (arith, r.within); is = r.is }

-- the member at an index behind the monomials
pub behind_at : (xs : List Exponents) (bs : List MarkedPolynomial) (j : ℕ) (b : MarkedPolynomial) → IsAt bs j b → IsAt (with_monomials xs bs) (length xs + j) b
behind_at [] bs j b h =
    let e : j ≡ length {A = Exponents} [] + j = omega arith in
    subst (λ (k : ℕ). IsAt bs k b) e h
behind_at (x ∷ xs) bs j b h =
    let r = behind_at xs bs j b h in
    let e : suc (length xs + j) ≡ length (x ∷ xs) + j = omega arith in
    subst (λ (k : ℕ). IsAt (with_monomials (x ∷ xs) bs) k b) e (record { within = omega (arith, r.within); is = r.is })

-- what stands at an index: a monomial
pub record AtFront (xs : List Exponents) (k : ℕ) (b : MarkedPolynomial) : Type 0 where
  pub mono : Exponents
  pub within : k < length xs
  pub is : mono ≡ get_or xs k mono
  pub member : b ≡ monomial_member mono

-- or a member behind them
pub record AtBehind (xs : List Exponents) (bs : List MarkedPolynomial) (k : ℕ) (b : MarkedPolynomial) : Type 0 where
  pub index : ℕ
  pub is : k ≡ length xs + index
  pub at : IsAt bs index b

pub joined_cases : (xs : List Exponents) (bs : List MarkedPolynomial) (k : ℕ) (b : MarkedPolynomial) → IsAt (with_monomials xs bs) k b →
    AtFront xs k b ⊎ AtBehind xs bs k b
joined_cases [] bs k b h = inr (record { index = k; is = omega arith; at = h })
joined_cases (x ∷ xs) bs zero b h = inl (record { mono = x; within = omega arith; is = refl; member = sym h.is })
joined_cases (x ∷ xs) bs (suc k) b h = elim (joined_cases xs bs k b (record { within = omega (arith, h.within); is = h.is })) [
  | inl f ↦ inl (record { mono = f.mono; within = omega (arith, f.within); is = f.is; member = f.member })
  | inr g ↦ inr (record { index = g.index; is = omega (arith, g.is); at = g.at })
]

-- one member more
pub joined_push : (xs : List Exponents) (bs : List MarkedPolynomial) (b : MarkedPolynomial) → with_monomials xs (bs ++ b ∷ []) ≡ with_monomials xs bs ++ b ∷ []
joined_push [] bs b = refl
joined_push (x ∷ xs) bs b = ap (λ (z : List MarkedPolynomial). monomial_member x ∷ z) (joined_push xs bs b)

pub behind_contained : (xs : List Exponents) (bs : List MarkedPolynomial) (b : MarkedPolynomial) → Contains bs b → Contains (with_monomials xs bs) b
behind_contained xs bs b c = Contains-append_right (map monomial_member xs) bs b c

pub front_contained : (xs : List Exponents) (bs : List MarkedPolynomial) (b : MarkedPolynomial) → Contains (with_monomials xs []) b →
    Contains (with_monomials xs bs) b
front_contained xs bs b c = Contains-append_left (map monomial_member xs) bs b (subst (λ (z : List MarkedPolynomial). Contains z b) (nil xs) c)
  where
    nil : (xs : List Exponents) → with_monomials xs [] ≡ map monomial_member xs
    nil [] = refl
    nil (x ∷ xs) = ap (λ (z : List MarkedPolynomial). monomial_member x ∷ z) (nil xs)

-- ---- variables

-- the members behind have the variables of all
pub behind_variables : (n : ℕ) (xs : List Exponents) (bs : List MarkedPolynomial) → HaveVariables n (with_monomials xs bs) → HaveVariables n bs
behind_variables n [] bs v = v
behind_variables n (x ∷ xs) bs v = behind_variables n xs bs v.1

-- and so do the monomials
pub front_variables : (n : ℕ) (xs : List Exponents) (bs : List MarkedPolynomial) (i : ℕ) (x : Exponents) → HaveVariables n (with_monomials xs bs) →
    i < length xs → x ≡ get_or xs i x → length x ≡ n
front_variables n [] bs i x v l e = absurd (omega (arith, l))
front_variables n (y ∷ xs) bs zero x v l e = ap length e ∙ v.0.0
front_variables n (y ∷ xs) bs (suc i) x v l e = front_variables n xs bs i x v.1 (omega (arith, l)) e

-- ---- monomials of which none divides another one

pub apart_later : (xs : List Exponents) → AreMonomialsApart xs → AreLaterUndivided (with_monomials xs [])
apart_later xs h = record { none = λ i j b c l p q x m d. at i j b c l (joined_cases xs [] i b p) (joined_cases xs [] j c q) x m d }
  where
    at : (i j : ℕ) (b c : MarkedPolynomial) → i < j → AtFront xs i b ⊎ AtBehind xs [] i b → AtFront xs j c ⊎ AtBehind xs [] j c → (x : Exponents) →
        HasMonomial c.poly x → Divides b.head x → ⊥
    at i j b c l (inr f) g x m d = absurd (omega (arith, f.at.within))
    at i j b c l (inl f) (inr g) x m d = absurd (omega (arith, g.at.within))
    at i j b c l (inl f) (inl g) x m d =
        let s : same g.mono x ≡ true = same_flip x g.mono (monomial_single g.mono x (subst (λ (z : MarkedPolynomial). HasMonomial z.poly x) g.member m)) in
        let v : Divides b.head g.mono = record { rest = d.rest; product = same_trans g.mono x (plus d.rest b.head) s d.product } in
        let p : b.head ≡ get_or xs i [] = ap (λ (z : MarkedPolynomial). z.head) f.member ∙ f.is ∙ get_or_default xs i f.mono [] f.within in
        let q : g.mono ≡ get_or xs j [] = g.is ∙ get_or_default xs j g.mono [] g.within in
        let r : i ≡ j = h.none i j f.within g.within (subst (λ (z : Exponents). Divides z (get_or xs j [])) p (subst (Divides b.head) q v)) in
        absurd (omega (arith, l, r))
