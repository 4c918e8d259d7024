pub mod WideningLaws  -- polynomials in one more variable
pub mod StepLaws  -- the lists that the code makes
pub mod MarkLaws  -- least common multiples of marks
pub mod SparedLaws  -- a variable that divides no mark adds nothing
pub mod StageLaws  -- the sets on the way, and what stands at the end
pub mod UnitLaws  -- variables that are units modulo an ideal
pub mod GradedLaws  -- sets that steps by division leave, and what stands at the end
pub mod ProposalLaws  -- vectors that are proposed, and what runs start from
pub mod ChoiceLaws  -- which variables are enough
pub mod SearchLaws  -- a list searched index by index
pub mod OneReached  -- a saturation that 1 is in has all polynomials
pub mod OneTermLaws  -- what a polynomial of one term, or a mark that is 1, says of the ideal
pub mod InverseLaws  -- more polynomials of a saturation, by inverses
pub mod ChainLaws  -- one variable after another, by elimination by degree
