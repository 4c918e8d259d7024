pub mod CoverLaws  -- pairs that members with one monomial settle
pub mod TurnLaws  -- a run that takes the pairs in turn
pub mod JoinedTurns  -- a run with monomials in front of its members
pub mod StrandTurns  -- the steps of a run on strands
pub mod NeededStrands  -- which monomials and strands are needed
pub mod SettlingLaws  -- the tails of strands, reduced in place
