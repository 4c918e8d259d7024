pub mod PairsLaws  -- the marks of pairs: indices, counts
pub mod UnsettledLaws  -- the list of the unsettled pairs
pub mod QueueLaws  -- the pair that comes first
pub mod LeadingLaws  -- the greatest term
pub mod TaskLaws  -- positive weights, and which order is good on what
pub mod SingleLaws  -- members with one monomial
pub mod RunLaws  -- the states of a run, one step further
pub mod AppendLaws  -- a member that is appended
pub mod CoveredLaws  -- covered pairs, and why they are settled at the end
pub mod ReducedPairLaws  -- one pair reduced
pub mod WholeLaws  -- what is left by a reduction in whole numbers
pub mod RunSteps  -- from one state of a run to the next
pub mod SettleLaws  -- all pairs of a run
pub mod GeneratorsOfRuns  -- generators that enter a run
pub mod InterreductionOfRuns  -- the end of a run, autoreduced
pub mod RefusalsOfRuns  -- refusals are operations of the run
pub mod RuledLaws  -- runs by the rule of the program
pub mod BasesOfRuns  -- where a run ends
pub mod MonomialRuns  -- the runs on one monomial
pub mod HomogeneityLaws  -- the first term of another degree
