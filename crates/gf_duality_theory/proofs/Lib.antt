pub mod ListLaws  -- what lists contain, a list without one of its indices
pub mod IndicesLaws  -- what holds of all but one
pub mod PairLaws  -- the combination of two vectors that is zero at a row
pub mod PivotLaws  -- one pivot for each vector, made positive
pub mod Made  -- what is generated, and what is kept along it
pub mod Stepping  -- one row more
pub mod Taking  -- rays that may go
pub mod Described  -- what holds after each row
pub mod Thinning  -- rays that are never made
pub mod Generated  -- what is generated, with multipliers
pub mod Equations  -- solutions of equations
pub mod Echelon  -- what an elimination leaves
pub mod NullSpace  -- the null space read from an elimination
pub mod EchelonUnique  -- a span has one echelon basis
pub mod Orthogonal  -- orthogonal lineality vectors, straightened rays
pub mod Finishing  -- from the last state to rays
pub mod Uniqueness  -- rays are determined by the cone
pub mod Determined  -- rays and lineality basis are a function of the cone
pub mod RaySums  -- the sum of rays
pub mod Interior  -- the sum of the rays
pub mod FacetRows  -- facet rows, by witnesses
pub mod Facets  -- each facet row has a witness
pub mod Implied  -- rows that are zero on the whole cone
pub mod Sums  -- sums of rays as weights and witnesses
mod LawsHold  -- what functions of this crate name
