pub mod Weights  -- the weight of an order that is lex, or a weight with ties broken by lex
pub mod Steps  -- the steps of a walk, and where it ends
