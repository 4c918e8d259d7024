-- The summary of a list by `_generated`, basis by basis. Laws: proofs/SummaryLaws.antt.
use Rattle.std.specs.Prelude.{◌≡◌, ℕ, ◌+◌, nat_le, max, min, true, List, length, take, map, ℤ}
use Rattle.gf_vec.specs.Vector.{zeros, vector_sum}
use Rattle.gf_vec.specs.Steps.{sum_steps, NoneWide, IsFirstWide}
use Rattle.gf_vec.specs.declared.error.WideVector.{WideVector}
use Rattle.gf_poly.specs.Polynomial.{Terms}
use Rattle.gf_poly.specs.Marking.{MarkedPolynomials}
use Rattle.gf_small.specs.Degrees.{greatest}
use Rattle.gf_small.specs.Counts.{degree_of_set}
use Rattle.gf_weights.specs.declared.error.WeightError.{WeightError}
use Rattle.gf_weights.specs.Weights.{IsPrintedWeight}
use Rattle.gf_weights.specs.Refusals.{IsWeightCause}
use Rattle.gf_front.specs.declared.refusal.Refusal.{Refusal}
use Rattle.gf_front.specs.declared.refusal.Refusal.TheVariants as refusals
use Rattle.gfan_generated.specs.declared.Summary.{Summary}
use Rattle.gf_lists_theory.specs.BasesList.{AreAllBases}
use Rattle.gfan_common.specs.Causes.{of_weight_error}
use Rattle.gfan_generated.specs.Generated.{ArePrintedWeights, added}

-- s is the summary of no bases
pub record IsOfNoBasis (s : Summary) : Type 0 where
  pub bases : s.bases ≡ 0
  pub degree : s.degree ≡ 0
  pub weights : s.weights ≡ zeros 4
  pub complete : s.complete ≡ true

-- new is the summary of the bases of old and of b
pub record IsWithBasis (old : Summary) (b : MarkedPolynomials) (new : Summary) : Type 0 where
  pub bases : new.bases ≡ old.bases + 1
  pub degree : new.degree ≡ max old.degree (degree_of_set b)
  pub weight : List ℤ
  pub is_weight : IsPrintedWeight b.variables b.items weight
  pub weights : new.weights ≡ vector_sum old.weights weight
  pub fits : NoneWide (sum_steps old.weights weight)
  pub complete : new.complete ≡ true

-- why a weight can't be added: a sum of two entries leaves the range, the first such sum being reported; or memory runs out
pub data IsWideSum (weights weight : List ℤ) (r : Refusal) : Type 0 where
  wide : (e : WideVector) → IsFirstWide e (sum_steps weights weight) → r ≡ refusals.WideVector e → IsWideSum weights weight r
  no_memory : r ≡ refusals.Memory → IsWideSum weights weight r

-- why a basis can't be added to a summary: its weight can't be computed, or can't be added
pub data IsUnsummed (old : Summary) (b : MarkedPolynomials) (r : Refusal) : Type 0 where
  at_weight : (e : WeightError) → IsWeightCause b.variables b.items e → r ≡ of_weight_error e → IsUnsummed old b r
  at_sum : (weight : List ℤ) → IsPrintedWeight b.variables b.items weight → IsWideSum old.weights weight r → IsUnsummed old b r

-- s is the summary of the first bases of the ideal of fs, as many as the limit, or of all if there are fewer
pub record IsSummary (limit : ℕ) (fs : List Terms) (s : Summary) : Type 0 where
  pub list : List MarkedPolynomials
  pub are_all : AreAllBases 4 fs list
  pub weights : List (List ℤ)
  pub are_weights : ArePrintedWeights (take limit list) weights
  pub bases : s.bases ≡ min limit (length list)
  pub degree : s.degree ≡ greatest (map degree_of_set (take limit list))
  pub sum : s.weights ≡ added (zeros 4) weights
  pub complete : s.complete ≡ nat_le (length list) limit
