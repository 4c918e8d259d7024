pub mod Items  -- items of a text, one behind another
pub mod Kinds  -- items by their kinds
pub mod Sources  -- what the commands read
pub mod Checks  -- checks of form, one after another
pub mod Refusals  -- kinds of refusals
pub mod ReadOnce  -- items are read in one way, and have one first fault
