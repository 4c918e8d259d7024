pub mod Weights  -- bounded weights, and the first entry that is too small
pub mod Comparisons  -- what a comparison by an order answers
pub mod Kinds  -- the orders as the program keeps them
pub mod Laws  -- comparisons are total, and products keep them
