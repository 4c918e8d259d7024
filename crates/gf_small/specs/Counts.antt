-- What is counted of a list of marked sets.
-- Laws: proofs/CountsLaws.antt.
use Rattle.std.specs.Prelude.{◌≡◌, ℕ, ◌+◌, min, List, [], ◌∷◌, map, length}
use Rattle.gf_poly.specs.Marking.{MarkedPolynomial, MarkedPolynomials}
use Rattle.gf_small.specs.declared.counts.Counts.{Counts}
use Rattle.gf_small.specs.Degrees.{greatest, total_degree}

-- the least of these numbers; 0 if there are none
abbrev pub least : List ℕ → ℕ
least [] = 0
least (k ∷ []) = k
least (k ∷ l ∷ ks) = min k (least (l ∷ ks))

-- the total degree of a set: the greatest total degree of its polynomials; 0 if it is empty
abbrev pub degree_of_set : MarkedPolynomials → ℕ
degree_of_set s = greatest (map (λ b. total_degree b.poly) s.items)

-- the number of terms of all these polynomials
abbrev pub count_of_terms : List MarkedPolynomial → ℕ
count_of_terms [] = 0
count_of_terms (b ∷ bs) = length b.poly + count_of_terms bs

-- c has the counts of these sets
pub record AreSetCounts (sets : List MarkedPolynomials) (c : Counts) : Type 0 where
  pub max_degree : c.max_degree ≡ greatest (map degree_of_set sets)
  pub min_degree : c.min_degree ≡ least (map degree_of_set sets)
  pub max_polynomials : c.max_polynomials ≡ greatest (map (λ t. length t.items) sets)
  pub max_terms : c.max_terms ≡ greatest (map (λ t. count_of_terms t.items) sets)
