pub mod Crossings  -- what a flip asks for, and what it answers
pub mod Lifting  -- members of the basis of the parts, and their lifts
pub mod LiftRefusals  -- the operations of a lift, and why it is refused
pub mod Tops  -- lifts that end early
pub mod LiftTails  -- tails of lifts
pub mod LiftsInTurn  -- lifts with reduced tails, each at once
