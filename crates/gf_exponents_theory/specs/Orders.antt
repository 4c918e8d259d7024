-- The orders of monomials: as comparisons of two exponent lists of one length, and as relations on all monomials.
-- A first variable is greatest. Each order is said once as a relation (`Is..Below x y`: x is below y) by the first or
-- last exponent that differs; lex and deglex are also said as the comparison that code computes.
-- Laws: proofs/OrderLaws.antt. Source: Cox, Little, O'Shea, Ideals, Varieties, and Algorithms, 2.2.
use Rattle.std.specs.Prelude.{◌≡◌, ◌⊎◌, ℕ, suc, ◌+◌, ◌<◌, true, List, [], ◌∷◌, ℤ, pos, negsuc}
use Rattle.std.specs.Ordering.{nat_cmp, ordering_then}
use Rattle.std.specs.Cmp.Lexicographic.{slice_cmp}
use Rattle.std.specs.declared.cmp.Ordering.{Ordering}
use Rattle.gf_exponents_theory.specs.Exponents.{Exponents, entry, same, plus, IsInRing, degree, weight}

-- ---- comparisons of two lists of one length

-- lex: the first exponent that differs decides
abbrev pub lex : Exponents → Exponents → Ordering
lex x y = slice_cmp nat_cmp x y

-- deglex: the total degree, then lex
abbrev pub deglex : Exponents → Exponents → Ordering
deglex x y = ordering_then (nat_cmp (degree x) (degree y)) (lex x y)

-- ---- what a comparison of monomials is

-- a strict comparison: it goes by the monomials that are meant, and products keep it
pub record IsStrict (below : Exponents → Exponents → Type 0) : Type 0 where
  pub irreflexive : (x y : Exponents) → same x y ≡ true → below x y → ⊥
  pub transitive : (x y z : Exponents) → below x y → below y z → below x z
  pub invariant : (z x y : Exponents) → below x y → below (plus z x) (plus z y)
  pub along_left : (x y z : Exponents) → same x y ≡ true → below x z → below y z
  pub along_right : (x y z : Exponents) → same y z ≡ true → below x y → below x z

-- a monomial order: a strict comparison of which one of three holds of any two monomials
pub record IsMonomialOrder (below : Exponents → Exponents → Type 0) : Type 0 where
  pub strict : IsStrict below
  pub total : (x y : Exponents) → below x y ⊎ (same x y ≡ true) ⊎ below y x

-- a term order of the monomials in n variables: a monomial order by which 1 is the least of them
pub record IsTermOrder (n : ℕ) (below : Exponents → Exponents → Type 0) : Type 0 where
  pub order : IsMonomialOrder below
  pub least : (x : Exponents) → IsInRing n x → (same [] x ≡ true) ⊎ below [] x

-- ---- the orders as relations

-- lex: the first exponent that differs is smaller
pub record IsLexBelow (x y : Exponents) : Type 0 where
  pub at : ℕ
  pub before : (i : ℕ) → i < at → entry x i ≡ entry y i
  pub here : entry x at < entry y at

-- revlex: the last exponent that differs is greater
pub record IsRevlexBelow (x y : Exponents) : Type 0 where
  pub at : ℕ
  pub after : (i : ℕ) → at < i → entry x i ≡ entry y i
  pub here : entry y at < entry x at

-- deglex: the degree is smaller, or equal and lex says so
abbrev pub IsDeglexBelow : Exponents → Exponents → Type 0
IsDeglexBelow x y = (degree x < degree y) ⊎ ((degree x ≡ degree y) × IsLexBelow x y)

-- the weight of x is smaller than that of y
abbrev pub lighter : List ℕ → Exponents → Exponents → Type 0
lighter w x y = weight w x < weight w y

-- weighted(w): the weight is smaller, or equal and lex says so
abbrev pub IsWeightedBelow : List ℕ → Exponents → Exponents → Type 0
IsWeightedBelow w x y = (weight w x < weight w y) ⊎ ((weight w x ≡ weight w y) × IsLexBelow x y)

-- weighted_revlex(w): the weight is smaller, or equal and revlex says so
abbrev pub IsWeightedRevlexBelow : List ℕ → Exponents → Exponents → Type 0
IsWeightedRevlexBelow w x y = (weight w x < weight w y) ⊎ ((weight w x ≡ weight w y) × IsRevlexBelow x y)

-- an integer weight: what counts for an exponent, and what counts against it
pub record WeightRow : Type 0 where
  pub gain : List ℕ
  pub loss : List ℕ

-- the row is smaller at x than at y
abbrev pub is_less : WeightRow → Exponents → Exponents → Type 0
is_less r x y = weight r.gain x + weight r.loss y < weight r.gain y + weight r.loss x

-- the row is the same at both
abbrev pub is_alike : WeightRow → Exponents → Exponents → Type 0
is_alike r x y = weight r.gain x + weight r.loss y ≡ weight r.gain y + weight r.loss x

-- facet, by the row of the negated normal: the row is smaller, or equal and lex says so
abbrev pub IsFacetBelow : WeightRow → Exponents → Exponents → Type 0
IsFacetBelow r x y = is_less r x y ⊎ (is_alike r x y × IsLexBelow x y)

-- the entries of a vector of integers as natural numbers, with 0 for each negative one
abbrev pub gains : List ℤ → List ℕ
gains [] = []
gains (pos k ∷ ws) = k ∷ gains ws
gains (negsuc k ∷ ws) = 0 ∷ gains ws

-- of whole weights, what counts against it: the entries that are negative, without their sign
abbrev pub losses : List ℤ → List ℕ
losses [] = []
losses (pos k ∷ ws) = 0 ∷ losses ws
losses (negsuc k ∷ ws) = suc k ∷ losses ws

-- whole weights as a row
abbrev pub row_of : List ℤ → WeightRow
row_of ws = record { gain = gains ws; loss = losses ws }

-- their negatives as a row
abbrev pub negated_row_of : List ℤ → WeightRow
negated_row_of ws = record { gain = losses ws; loss = gains ws }
