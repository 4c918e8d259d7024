-- Lists whose members at the front are monomials, of which a program keeps the exponents alone. Laws: proofs/MonomialLaws.antt.
use Rattle.std.specs.Prelude.{◌≡◌, ℕ, ◌<◌, Bool, true, false, List, [], ◌∷◌, ◌++◌, length, map, get_or}
use Rattle.gf_frac.specs.Fraction.{one_ℚ}
use Rattle.gf_exponents_theory.specs.Exponents.{Exponents, Divides}
use Rattle.gf_poly.specs.Marking.{MarkedPolynomial}
use Rattle.gf_ideal_theory.specs.Membership.{HasMonomial}
use Rattle.gf_ideal_theory.specs.Settled.{IsAt}

-- the monomial x, its coefficient 1, as a member
abbrev pub monomial_member : Exponents → MarkedPolynomial
monomial_member x = record { poly = record { coef = one_ℚ; mono = x } ∷ []; head = x }

-- the monomials xs, and then the members bs
abbrev pub with_monomials : List Exponents → List MarkedPolynomial → List MarkedPolynomial
with_monomials xs bs = map monomial_member xs ++ bs

-- no monomial of the list divides another one
pub record AreMonomialsApart (xs : List Exponents) : Type 0 where
  pub none : (i j : ℕ) → i < length xs → j < length xs → Divides (get_or xs i []) (get_or xs j []) → i ≡ j

-- no mark divides a monomial of a later member
pub record AreLaterUndivided (bs : List MarkedPolynomial) : Type 0 where
  pub none : (i j : ℕ) (b c : MarkedPolynomial) → i < j → IsAt bs i b → IsAt bs j c → (x : Exponents) → HasMonomial c.poly x → Divides b.head x → ⊥

-- the entries whose flags are set
abbrev pub chosen : {A : Type 0} → List Bool → List A → List A
chosen [] xs = []
chosen (f ∷ flags) [] = []
chosen (true ∷ flags) (x ∷ xs) = x ∷ chosen flags xs
chosen (false ∷ flags) (x ∷ xs) = chosen flags xs

-- x is added, or the list stays
abbrev pub IsAddedWhere : {A : Type 0} → Bool → A → List A → List A → Type 0
IsAddedWhere true x old new = new ≡ old ++ x ∷ []
IsAddedWhere false x old new = new ≡ old
