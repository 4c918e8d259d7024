pub mod Generated  -- the output of `_generated`
pub mod Summaries  -- the summary of a list by `_generated`
pub mod OneSummary  -- `_generated` writes at most one text for a number and a limit
