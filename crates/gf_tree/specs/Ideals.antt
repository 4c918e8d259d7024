-- An ideal that is given by generators. Laws: proofs/IdealLaws.antt.
use Rattle.std.specs.Prelude.{ℕ, List}
use Rattle.gf_poly.specs.Polynomial.{Terms}
use Rattle.gf_facets_theory.specs.Regions.{Region, all_positive}
use Rattle.gf_reverse_theory.specs.Upward.{Fan}

-- the ideal that fs generates in n variables, with the region k
abbrev pub ideal_within : ℕ → List Terms → Region → Fan
ideal_within n fs k = record { variables = n; ideal = fs; region = k }

-- the ideal that fs generates in n variables, with the region of all positive weights
abbrev pub ideal_by : ℕ → List Terms → Fan
ideal_by n fs = ideal_within n fs (all_positive n)
