pub mod BatchLaws  -- the steps of a batch
pub mod PlanLaws  -- how a row is cut up for a wave, and put together again
pub mod WaveLaws  -- a wave and a call keep what is left
pub mod RefusedLaws  -- a wave and a call keep that each refusal is its walker's
