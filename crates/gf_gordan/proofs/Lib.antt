mod EntriesLaws  -- entries that a loop appends or multiplies; a reduced row in two parts
pub mod SystemLaws  -- the system by a vector, one vector further
mod LiftLaws  -- what a row gives behind its pivot, the factor of a push, a push one entry further
mod CarryLaws  -- the scale, the takings and the multipliers carried back, one entry further
mod PointLaws  -- points of the recursion are positive on each row
mod ScaleLaws  -- the scale is a multiple of each content that counts
pub mod MultiplierLaws  -- multipliers of the recursion refute
mod RecursionLaws  -- the recursion on rows, one row further
mod EquationLaws  -- the recursion with equations, one equation further
mod EquationSound  -- points solve, and multipliers refute, with equations
mod BelowLaws  -- the recursion below the last equation
pub mod AlternativeLaws  -- solutions, Farkas multipliers, and that none has both
pub mod ExistenceLaws  -- each system has a solution or multipliers, and none has both
mod CheckLaws  -- sums of multiples, and what the checks of a candidate say together
pub mod SizeLaws  -- how large entries of multiples, sums, quotients and dot products are
pub mod ReducedSizes  -- how large the entries and contents of the system by a vector are
mod PointSizes  -- how large points are
mod ScaleSizes  -- how many multipliers aren't zero, how large the scale and the takings are
mod MultiplierSizes  -- how large multipliers are
pub mod StepSizes  -- no step leaves the range where the bounds have room
pub mod ThreeColumns  -- with three columns and entries up to 500 they have
