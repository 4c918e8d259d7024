-- The six orders row by row: on which monomials each is one positive weight, as far as finitely many comparisons go.
-- Laws: proofs/OrderTableLaws.antt. Source: Sturmfels, Gröbner Bases and Convex Polytopes, 1.
use Rattle.std.specs.Prelude.{◌≡◌, ℕ, List, get_or, All, ℤ, pos, ◌+ℤ◌, ◌*ℤ◌, ◌≤ℤ◌}
use Rattle.gf_exponents_theory.specs.Exponents.{Exponents, entry, IsInRing, degree, whole_weight}
use Rattle.gf_exponents_theory.specs.Orders.{lighter, negated_row_of, IsLexBelow, IsDeglexBelow, IsRevlexBelow, IsWeightedBelow, IsWeightedRevlexBelow}
use Rattle.gf_exponents_theory.specs.Orders.{IsFacetBelow}
use Rattle.gf_poly.specs.Polynomial.{Terms}
use Rattle.gf_ideal_theory.specs.Membership.{HasMonomial, IsInVariables}
use Rattle.gf_ideal_theory.specs.Marks.{IsPositive}
use Rattle.gf_ideal_theory.specs.MonomialOrders.{ArePairs, IsHomogeneous}

-- two monomials of n variables
abbrev pub AreInRing : ℕ → Exponents → Exponents → Type 0
AreInRing n x y = IsInRing n x × IsInRing n y

-- the exponents of x are those of y and a whole multiple of a
abbrev pub AreMultipleApart : List ℤ → Exponents → Exponents → Type 0
AreMultipleApart a x y = (k : ℤ) × ((i : ℕ) → pos (entry x i) ≡ pos (entry y i) +ℤ k *ℤ get_or a i (pos 0))

-- any list of comparisons of related monomials is made by a weight that is positive on the first n variables
abbrev pub IsTraded : ℕ → (Exponents → Exponents → Type 0) → (Exponents → Exponents → Type 0) → Type 0
IsTraded n related below = (ps : List (Exponents × Exponents)) → ArePairs related ps → ArePairs below ps →
    (w : List ℕ) × IsPositive n w × ArePairs (lighter w) ps

-- lex, deglex, a weight before lex, and a positive weight before revlex: all monomials of n variables; revlex: those of
-- one degree; the order along a facet with normal a: where a positive v is orthogonal to a, those a multiple of a
-- apart, and where no entry of a is positive, all
pub record OrderTable : Type 0 where
  pub lex : (n : ℕ) → IsTraded n (AreInRing n) IsLexBelow
  pub deglex : (n : ℕ) → IsTraded n (AreInRing n) IsDeglexBelow
  pub weighted : (n : ℕ) (u : List ℕ) → IsTraded n (AreInRing n) (IsWeightedBelow u)
  pub weighted_revlex : (n : ℕ) (u : List ℕ) → IsPositive n u → IsTraded n (AreInRing n) (IsWeightedRevlexBelow u)
  pub revlex : (n : ℕ) → IsTraded n (λ x y. AreInRing n x y × (degree x ≡ degree y)) IsRevlexBelow
  pub facet : (n : ℕ) (a : List ℤ) (v : List ℕ) → IsPositive n v → whole_weight a v ≡ pos 0 →
      IsTraded n (λ x y. AreInRing n x y × AreMultipleApart a x y) (IsFacetBelow (negated_row_of a))
  pub facet_downward : (n : ℕ) (a : List ℤ) → All (λ k. k ≤ℤ pos 0) a →
      IsTraded n (AreInRing n) (IsFacetBelow (negated_row_of a))

-- a polynomial whose exponents are multiples of a apart is homogeneous by a weight that is orthogonal to a
abbrev pub MultiplesAreHomogeneous : Type 0
MultiplesAreHomogeneous = (n : ℕ) (a : List ℤ) (v : List ℕ) (f : Terms) → whole_weight a v ≡ pos 0 → IsInVariables n f →
    ((x y : Exponents) → HasMonomial f x → HasMonomial f y → AreMultipleApart a x y) → IsHomogeneous n v f
