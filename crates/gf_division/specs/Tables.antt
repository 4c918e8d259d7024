-- A polynomial under reduction as a table: a coefficient for each monomial, the deglex greatest first.
-- Laws: proofs/TableLaws.antt.
use Rattle.std.specs.Prelude.{◌≡◌, ◌≢◌, ◌⊎◌, ℕ, List, [], ◌∷◌}
use Rattle.std.specs.declared.cmp.Ordering.{Ordering}
use Rattle.std.specs.declared.option.Option.{Option}
use Rattle.std.specs.BTreeMap.{insert_entry, is_at}
use Rattle.std.specs.Map.{lookup, remove_entry}
use Rattle.gf_frac.specs.Fraction.{Fraction, zero_ℚ}
use Rattle.gf_exponents_theory.specs.Orders.{deglex}
use Rattle.gf_poly.specs.declared.Term.{Term}
use Rattle.gf_poly.specs.Monomial.{IsMonomial}
use Rattle.gf_poly.specs.Polynomial.{Terms}
use Rattle.gf_poly.specs.Marking.{MarkedPolynomial}
use Rattle.gf_division.specs.declared.table.Key.{Key}
use Rattle.gf_division.specs.declared.table.Table.{Table}
use Rattle.gf_division.specs.Dividends.{Split, joined_terms, IsTermInFront, TakesStep}
use Rattle.gf_division.specs.Reducers.{IsDivisorAt, IsBeside}

-- how keys compare: a greater monomial comes first
abbrev pub key_order : Key → Key → Ordering
key_order k l = deglex l.mono k.mono

-- the terms of the entries
abbrev pub terms_in : List (Key × Fraction) → Terms
terms_in [] = []
terms_in (e ∷ es) = record { coef = e.1; mono = e.0.mono } ∷ terms_in es

-- all terms of the table, with the index above them
abbrev pub table_of : Table → Split
table_of t = record { above = []; below = terms_in t.entries.entries }

-- the coefficient at the key, where there is an entry
abbrev pub coefficient_in : Key → List (Key × Fraction) → Option Fraction
coefficient_in k es = lookup (is_at (key_order k)) es

-- c stands at the key from now on; where it is zero no entry does
abbrev pub Puts : Key → Fraction → List (Key × Fraction) → List (Key × Fraction) → Type 0
Puts k c old new = ((c ≡ zero_ℚ) × (new ≡ remove_entry (is_at (key_order k)) old)) ⊎ ((c ≢ zero_ℚ) × (new ≡ insert_entry key_order old k c))

-- t is a term of f: f is cut before it
pub record IsCutBefore (f : Terms) (t : Term) : Type 0 where
  pub cut : Split
  pub same : joined_terms cut ≡ f
  pub first : IsTermInFront cut.below t

-- the step at the term t of f by b leads to new, wherever the index is at that term
pub record StepsFrom (b : MarkedPolynomial) (f : Terms) (t : Term) (new : Split) : Type 0 where
  pub step : (s : Split) → joined_terms s ≡ f → IsTermInFront s.below t → (q : Term) × TakesStep b s q new

-- t is a term of f, and the member at the index j is the first one whose mark divides it
pub record IsReducibleAt (bs : List MarkedPolynomial) (spared : Option (List ℕ)) (f : Terms) (t : Term) (j : ℕ) : Type 0 where
  pub there : IsCutBefore f t
  pub divisor : IsDivisorAt bs t.mono j
  pub beside : IsBeside spared t.mono
  pub monomial : IsMonomial t.mono
