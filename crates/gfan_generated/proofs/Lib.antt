pub mod SummaryLaws  -- how a list is summed up
