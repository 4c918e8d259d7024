pub mod Saturations  -- saturations, Rabinowitsch's trick, elimination of the last variable, polynomials of one term
pub mod Laws  -- the theorems that functions of this crate name
