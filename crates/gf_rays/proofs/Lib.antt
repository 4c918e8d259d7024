mod CombineLaws  -- vectors that loops write, what a refusal says
pub mod EliminateLaws  -- an elimination one column further, the columns of equations
mod SplitLaws  -- the state after an inequality that is zero on the lineality vectors
mod FlagLaws  -- flags of words: what is read, one flag more, what two lists share
mod SplitLoops  -- the loops over rays, one ray further
mod PruneLaws  -- rays taken away by their flags
mod ColumnLaws  -- which rays have a flag, and rays inside another one by that
mod LevelLaws  -- a vector brought along another one
mod LinedLaws  -- the state after an inequality that is not zero on a lineality vector
mod StateLaws  -- what a state says of widths and flags
mod StraightLaws  -- a vector straightened along one vector more
mod StepLaws  -- the operations of one inequality
mod FinishLaws  -- from the last state to the rays
mod ProjectionLaws  -- a ray told by what the rows give on it is a straightened one
pub mod ReachedLaws  -- what holds of the states that are reached
pub mod ReachedSizes  -- how large the entries of reached states are
pub mod RoomLaws  -- bounds with room for any equations and lineality space
mod ImpliedLaws  -- inequalities that are zero on all rays
pub mod SumLaws  -- sums of lists of vectors
pub mod OrderLaws  -- vectors in lexicographic order: sorted, ascending, each once
mod FacetLoops  -- rows that a loop takes, one index further
mod LeastLaws  -- among inequalities with the same flags there is a least one
pub mod FacetLaws  -- facet rows by flags
pub mod PartLaws  -- the rays on which an inequality is zero
pub mod FacePartLaws  -- whether a cone is a face of another one, by flags
pub mod FlagFaceLaws  -- faces by flags, one inequality further
mod HeightLaws  -- the part next below another one
mod MemberLaws  -- flags at numbers, and parts inside one another by them
pub mod FaceNumbers  -- faces by the numbers of their rays, from flags
pub mod PickedLaws  -- rays picked by their numbers, one further
mod FurtherLaws  -- a double description taken further from the rays of a cone
mod KeptLaws  -- rays with one flag more, where an inequality is negative on none of them
mod TurnLaws  -- rows that are zero in the column already
