-- The weights that `_weightvector` writes give the bases that it read.
use Rattle.std.specs.Prelude.{◌≡◌, ℕ, Bool, true, false, List, [], ◌∷◌, zip, ℤ}
use Rattle.std.specs.List.{AllZip}
use Rattle.gf_poly.specs.Marking.{MarkedPolynomials}
use Rattle.gf_front.specs.declared.command_line.Job.TheVariants as jobs
use Rattle.gf_items.specs.Items.{IsTextOf}
use Rattle.gf_items.specs.Sources.{ring_marked_set, ring_marked_sets}
use Rattle.gfan_sets.specs.WeightVector.{GivesBasis, weights_text}
use Rattle.gfan.specs.Commands.{IsAnswerTo}

-- the source is the text of the ring and of a single set in it, or of a list of sets
abbrev pub HasSets : Bool → List ℕ → List (List ℕ) → List MarkedPolynomials → Type 0
HasSets false source ring sets = (s : MarkedPolynomials) × (sets ≡ s ∷ []) × IsTextOf ring_marked_set source (ring, s)
HasSets true source ring sets = IsTextOf ring_marked_sets source (ring, sets)

-- the text is that of the sets of the source with their weights, and each weight gives the basis of its set
pub record HasGivingWeights (listed echoed : Bool) (source text : List ℕ) : Type 0 where
  pub ring : List (List ℕ)
  pub sets : List MarkedPolynomials
  pub weights : List (List ℤ)
  pub read : HasSets listed source ring sets
  pub is_text : text ≡ weights_text listed echoed ring (zip sets weights)
  pub give : AllZip GivesBasis sets weights

-- each output of `_weightvector` is such a text
abbrev pub WrittenWeightsGiveBases : Type 0
WrittenWeightsGiveBases = (listed echoed : Bool) (source text : List ℕ) → IsAnswerTo (jobs.WeightVector (record { listed = listed; echoed = echoed }))
    source text → HasGivingWeights listed echoed source text
