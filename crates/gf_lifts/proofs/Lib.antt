pub mod CrossingMath  -- from a crossing to its neighbour
pub mod LiftSteps  -- the lifts, one after another
pub mod LiftRefusalSteps  -- refusals of a lift are operations of the lift
pub mod TopLaws  -- lifts that end early, one after another
pub mod LiftTailLaws  -- tails of lifts that stay
pub mod TailsInTurn  -- tails of lifts, one after another
pub mod LiftedTails  -- lifts with reduced tails are lifts
pub mod LiftsInTurnLaws  -- lifts with reduced tails, each at once, are lifts
pub mod TailSteps  -- the tail of one lift
