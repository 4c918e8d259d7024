pub mod ReadingLaws  -- items one behind another are read in one way
pub mod ItemLaws  -- rings, sets, marked sets and vectors are read in one way
pub mod ListItemLaws  -- lists, dimensions and new names are
pub mod KindLaws  -- items of any kinds, one behind another, are
pub mod CheckLaws  -- the first check that fails is one
