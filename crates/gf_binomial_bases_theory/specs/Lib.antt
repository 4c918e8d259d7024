pub mod Laws  -- the theorems that functions of this crate name
