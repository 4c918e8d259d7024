pub mod FormLaws  -- initial forms, one member further
pub mod SumLaws  -- sums of rays by their numbers, one further
pub mod OutcomeLaws  -- a list that is gone through until something fails
pub mod FaceLaws  -- one face tried; what is refused there
pub mod CutLaws  -- what a cone and rows share, by whatever rows
pub mod LimitLaws  -- within limits only memory may be wanting
pub mod SameLaws  -- lists that are the same up to an index
pub mod PassingLaws  -- vectors that passed at a basis
