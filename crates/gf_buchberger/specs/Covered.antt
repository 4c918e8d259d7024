-- Covered pairs: each is settled once pairs below it are, so that it needs no work of its own.
-- Pairs compare by the degree of the least common multiple of their marks, then by their later index, then by how far apart their
-- indices are.
-- Laws: proofs/CoveredLaws.antt. Source: Gebauer, Möller, On an installation of Buchberger's algorithm; Becker, Weispfenning, Gröbner
-- Bases, 5.5.
use Rattle.std.specs.Prelude.{◌≡◌, ◌≢◌, ◌⊎◌, ℕ, ◌-◌, ◌<◌, max, min, List}
use Rattle.gf_exponents_theory.specs.Exponents.{Exponents, AreCoprime, Divides, join, degree}
use Rattle.gf_poly.specs.Marking.{MarkedPolynomial}
use Rattle.gf_ideal_theory.specs.Settled.{IsAt}
use Rattle.gf_buchberger.specs.declared.covered.Rank.{Rank}

-- the rank of the pair of the indices p and q, where the least common multiple of the marks is x
abbrev pub rank_of : Exponents → ℕ → ℕ → Rank
rank_of x p q = record { degree = degree x; later = max p q; apart = max p q - min p q }

-- r is below s: by the degree, then by the later index, then by how far apart the indices are
abbrev pub IsBelow : Rank → Rank → Type 0
IsBelow r s = (r.degree < s.degree) ⊎ ((r.degree ≡ s.degree) × ((r.later < s.later) ⊎ ((r.later ≡ s.later) × (r.apart < s.apart))))

-- the marks x and y at p and q are coprime, or their pair is below the rank r
abbrev pub AreCoprimeOrBelow : Exponents → Exponents → ℕ → ℕ → Rank → Type 0
AreCoprimeOrBelow x y p q r = AreCoprime x y ⊎ IsBelow (rank_of (join x y) p q) r

-- the mark z at a third index k covers the pair of the marks x and y at i and j: it divides their least common multiple, and each of its
-- pairs with them has coprime marks or is below theirs
pub record IsCovering (x y z : Exponents) (i j k : ℕ) : Type 0 where
  pub not_first : k ≢ i
  pub not_second : k ≢ j
  pub divides : Divides z (join x y)
  pub left : AreCoprimeOrBelow x z i k (rank_of (join x y) i j)
  pub right : AreCoprimeOrBelow z y k j (rank_of (join x y) i j)

-- the pair of the members at i and j is covered by some third member's mark
pub record IsCovered (bs : List MarkedPolynomial) (i j : ℕ) : Type 0 where
  pub k : ℕ
  pub b : MarkedPolynomial
  pub c : MarkedPolynomial
  pub d : MarkedPolynomial
  pub at_i : IsAt bs i b
  pub at_j : IsAt bs j c
  pub at_k : IsAt bs k d
  pub covering : IsCovering b.head c.head d.head i j k
