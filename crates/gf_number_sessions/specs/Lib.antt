-- What the contracts of this crate cite.
pub mod NumberMoves  -- numbers as states, and what is told of them
