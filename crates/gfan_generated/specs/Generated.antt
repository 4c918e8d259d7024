-- `_generated`: its output for the ideal with a number, and why it is refused.
use Rattle.std.specs.Prelude.{◌≡◌, ℕ, ◌<◌, ◌≤◌, nat_le, min, Bool, true, false, List, [], ◌∷◌, ◌++◌, length, take, map, Some, codes, ℤ}
use Rattle.std.specs.List.{AllZip, concat}
use Rattle.gf_exponents_theory.specs.SixOrders.{MonomialOrder}
use Rattle.gf_vec.specs.Vector.{zeros, vector_sum}
use Rattle.gf_vec.specs.Steps.{IsFirstWide}
use Rattle.gf_vec.specs.declared.error.WideVector.{WideVector}
use Rattle.gf_poly.specs.Polynomial.{Terms}
use Rattle.gf_poly.specs.Marking.{MarkedPolynomials}
use Rattle.gf_rays.specs.Sums.{adding_steps}
use Rattle.gf_small.specs.Degrees.{greatest}
use Rattle.gf_small.specs.Counts.{degree_of_set}
use Rattle.gf_text.specs.VectorText.{vector_text}
use Rattle.gf_buchberger.specs.declared.bases.BasisError.{BasisError}
use Rattle.gfan_lists.specs.TreeError.{TreeError}
use Rattle.gf_weights.specs.declared.error.WeightError.{WeightError}
use Rattle.gf_weights.specs.Weights.{IsPrintedWeight}
use Rattle.gf_weights.specs.Refusals.{IsWeightCause}
use Rattle.gf_generated.specs.Generated.{generated_set}
use Rattle.gf_front.specs.declared.options.GeneratedOptions.{GeneratedOptions}
use Rattle.gf_front.specs.declared.refusal.Refusal.{Refusal}
use Rattle.gf_front.specs.declared.refusal.Refusal.TheVariants as refusals
use Rattle.gf_frame.specs.Readings.{of_none}
use Rattle.gf_frame.specs.Commands.{Writing, Command}
use Rattle.gfan_lists.specs.declared.bases.ListOptions.{ListOptions}
use Rattle.gfan_common.specs.Printing.{count_line}
use Rattle.gfan_common.specs.Causes.{of_basis, of_weight_error, of_tree}
use Rattle.gf_lists_theory.specs.BasesList.{AreAllBases}
use Rattle.gf_facets_theory.specs.Regions.{all_positive}
use Rattle.gfan_lists.specs.Bases.{IsFirstRefusal, IsSearchRefusedBehind}

-- ---- the output

-- ws has the weight that is printed for each of these bases
abbrev pub ArePrintedWeights : List MarkedPolynomials → List (List ℤ) → Type 0
ArePrintedWeights bs ws = AllZip (λ b w. IsPrintedWeight b.variables b.items w) bs ws

-- the sum of a vector and the vectors of a list, added from the left
abbrev pub added : List ℤ → List (List ℤ) → List ℤ
added sum [] = sum
added sum (w ∷ ws) = added (vector_sum sum w) ws

-- 1 for true, and 0 for false
abbrev pub one_where : Bool → ℕ
one_where true = 1
one_where false = 0

-- a line: a label, and the vector
abbrev pub vector_line : List ℕ → List ℤ → List ℕ
vector_line label v = label ++ (vector_text v ++ 10 ∷ [])

-- four lines: the number of bases, the greatest total degree of their polynomials, the sum of their weights, and 1 if these are all bases,
-- else 0
abbrev pub summary_text : ℕ → ℕ → List ℤ → Bool → List ℕ
summary_text bases degree weights complete = concat (
    count_line (codes "Bases: ") bases
    ∷ count_line (codes "Greatest degree: ") degree
    ∷ vector_line (codes "Sum of weights: ") weights
    ∷ count_line (codes "Complete: ") (one_where complete)
    ∷ [])

-- the text has these lines for the first bases of the ideal of fs in four variables, as many as the limit, or all if there are fewer. They
-- are all bases if and only if there are no more bases than the limit
pub record IsSummaryText (limit : ℕ) (fs : List Terms) (text : List ℕ) : Type 0 where
  pub list : List MarkedPolynomials
  pub are_all : AreAllBases 4 fs list
  pub weights : List (List ℤ)
  pub are_weights : ArePrintedWeights (take limit list) weights
  pub is_text : text ≡ summary_text (min limit (length list)) (greatest (map degree_of_set (take limit list))) (added (zeros 4) weights) (nat_le (length list)
      limit)

-- ---- why it is refused

-- the options of the list of these bases, up to the limit
abbrev pub list_to : ℕ → ℕ → ListOptions
list_to limit pairs = record { limit = Some limit; pairs = pairs; certified = true }

-- the weight of a basis up to the limit can't be computed
pub record IsWeightRefused (limit : ℕ) (fs : List Terms) (e : WeightError) : Type 0 where
  pub before : List MarkedPolynomials
  pub basis : MarkedPolynomials
  pub rest : List MarkedPolynomials
  pub are_all : AreAllBases 4 fs (before ++ basis ∷ rest)
  pub few : length before < limit
  pub cause : IsWeightCause basis.variables basis.items e

-- e is the first sum of an entry of a partial sum of the weights of the bases up to the limit and one of the next weight that leaves the
-- range
pub record IsSumRefused (limit : ℕ) (fs : List Terms) (e : WideVector) : Type 0 where
  pub summed : List MarkedPolynomials
  pub rest : List MarkedPolynomials
  pub are_all : AreAllBases 4 fs (summed ++ rest)
  pub few : length summed ≤ limit
  pub weights : List (List ℤ)
  pub are_weights : ArePrintedWeights summed weights
  pub wide : IsFirstWide e (adding_steps (zeros 4) weights)

-- the first basis, by deglex, is refused; or a call of the search, at a basis up to the limit or at the next one; or a weight, or the sum
-- of the weights
pub data IsSummaryCause (limit pairs : ℕ) (fs : List Terms) (r : Refusal) : Type 0 where
  at_root : (e : BasisError) → IsFirstRefusal MonomialOrder.deglex 4 fs pairs e → r ≡ of_basis e → IsSummaryCause limit pairs fs r
  in_tree : (e : TreeError) → IsSearchRefusedBehind [] (list_to limit pairs) 4 (all_positive 4) fs e → r ≡ of_tree e → IsSummaryCause limit pairs fs r
  at_weight : (e : WeightError) → IsWeightRefused limit fs e → r ≡ of_weight_error e → IsSummaryCause limit pairs fs r
  at_sum : (e : WideVector) → IsSumRefused limit fs e → r ≡ refusals.WideVector e → IsSummaryCause limit pairs fs r

-- ---- the command

-- the command `_generated`: it reads nothing, and its output doesn't depend on the number of workers
abbrev pub summary_command : ℕ → ℕ → ℕ → Command
summary_command number limit pairs = record {
  Value = Unit {0};
  reads = [];
  reading = of_none;
  checks = λ v. [];
  IsAnswer = λ v text. IsSummaryText limit (generated_set number) text;
  IsCause = λ v r. IsSummaryCause limit pairs (generated_set number) r;
  IsWithin = λ v. (r : Refusal) → IsSummaryCause limit pairs (generated_set number) r → r ≡ refusals.Memory;
  writing = Writing.at_end;
}

-- the command `_generated` with these options
abbrev pub generated_command : GeneratedOptions → Command
generated_command o = summary_command o.number o.limit o.pairs
