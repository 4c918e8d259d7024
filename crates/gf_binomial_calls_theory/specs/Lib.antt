pub mod Sets  -- marked sets of pure difference binomials, as they are read
pub mod Written  -- how pure difference binomials are written
pub mod Limits  -- ideals that stay within limits
pub mod Laws  -- the theorems that functions of this crate name
