-- All marked reduced Gröbner bases of an ideal in a region, as one list, so that their number may stand in a measure.
-- It is a total function, and nobody computes it. Laws: proofs/AllBasesLaws.antt.
use Rattle.std.proofs.Common.{◌⊎◌, ℕ, List, [], length, inl, inr}
use Rattle.gf_poly.specs.Polynomial.{Terms}
use Rattle.gf_poly.specs.Marking.{MarkedPolynomial}
use Rattle.gf_facets_theory.specs.Regions.{Region}
use Rattle.gf_bases_theory.proofs.FiniteLaws.{AreOfVariables, suits_or_not, listed_in_region}

-- the list that exists where generators and region suit, and none elsewhere
abbrev pub bases_where : (n : ℕ) (k : Region) (fs : List Terms) →
    AreOfVariables n k fs ⊎ (AreOfVariables n k fs → ⊥) → List (List MarkedPolynomial)
bases_where n k fs (inl h) = (listed_in_region n fs k h.generators h.widths).bases
bases_where n k fs (inr m) = []

-- the marked reduced bases of the ideal of fs in n variables whose marks a vector of the region gives; none where a
-- generator isn't a polynomial in n variables, or a row of the region hasn't n entries
unfoldable pub all_bases : ℕ → Region → List Terms → List (List MarkedPolynomial)
all_bases n k fs = bases_where n k fs (suits_or_not n k fs)

-- how many there are; one that is listed twice counts twice
abbrev pub number_of_bases : ℕ → Region → List Terms → ℕ
number_of_bases n k fs = length (all_bases n k fs)
