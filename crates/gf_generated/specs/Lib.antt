pub mod Generated  -- the generators that a number stands for
pub mod Laws  -- the theorems that functions of this crate name
