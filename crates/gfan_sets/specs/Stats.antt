-- `_stats`: its input, its output, and why it is refused.
use Rattle.std.specs.Prelude.{◌≡◌, ℕ, List, [], ◌∷◌, length, codes}
use Rattle.std.specs.List.{concat}
use Rattle.gf_poly.specs.Marking.{MarkedPolynomials}
use Rattle.gf_gordan.specs.declared.error.GordanError.{GordanError}
use Rattle.gf_gordan.specs.declared.error.GordanError.TheVariants as gordan_errors
use Rattle.gf_small.specs.declared.counts.Stats.{Stats}
use Rattle.gf_small.specs.Statistics.{AreStatistics, IsStatisticsCause}
use Rattle.gf_items.specs.Sources.{ring_marked_sets}
use Rattle.gf_frame.specs.Loading.{Origin}
use Rattle.gf_frame.specs.Readings.{of_one}
use Rattle.gf_frame.specs.Commands.{Writing, Command}
use Rattle.gfan_common.specs.Printing.{count_line}
use Rattle.gfan_common.specs.Causes.{of_gordan}

-- ---- what is written

-- the seven lines of the statistics
abbrev pub stats_text : Stats → List ℕ
stats_text s = concat (
    count_line (codes "Number of reduced Groebner bases: ") s.bases
    ∷ count_line (codes "Number of variables: ") s.variables
    ∷ count_line (codes "Dimension of homogeneity space: ") s.homogeneity
    ∷ count_line (codes "Maximal total degree of a polynomial: ") s.max_degree
    ∷ count_line (codes "Minimal total degree of a basis: ") s.min_degree
    ∷ count_line (codes "Maximal number of polynomials in a basis: ") s.max_polynomials
    ∷ count_line (codes "Maximal number of terms in a basis: ") s.max_terms
    ∷ [])

-- the text is that of the statistics of the sets in n variables, in seven lines
pub record IsStatsText (n : ℕ) (sets : List MarkedPolynomials) (text : List ℕ) : Type 0 where
  pub stats : Stats
  pub are_stats : AreStatistics n sets stats
  pub is_text : text ≡ stats_text stats

-- ---- the command

-- the command `_stats`
abbrev pub stats_command : Command
stats_command = record {
  Value = List (List ℕ) × List MarkedPolynomials;
  reads = Origin.the_input ∷ [];
  reading = of_one ring_marked_sets;
  checks = λ v. [];
  IsAnswer = λ v text. IsStatsText (length v.0) v.1 text;
  IsCause = λ v r. (e : GordanError) × (r ≡ of_gordan e) × IsStatisticsCause (length v.0) v.1 e;
  IsWithin = λ v. (e : GordanError) → IsStatisticsCause (length v.0) v.1 e → e ≡ gordan_errors.Memory;
  writing = Writing.at_end;
}
