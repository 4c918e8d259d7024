pub mod Membership  -- the ideal that polynomials generate
pub mod Marks  -- marked polynomials under a comparison, sums of their multiples
pub mod Reduction  -- steps, S-polynomials, monic forms
pub mod Operands  -- the numbers that a step works on
pub mod Measure  -- how much work a reduction may still have
pub mod MonomialOrders  -- the six orders, and where each may be used
pub mod OrderTable  -- the six orders row by row, as weights
pub mod Bases  -- Gröbner bases, and the reduced ones
pub mod Settled  -- when a pair is settled
pub mod NormalForms  -- the normal form by a rule without choice
pub mod WorkLists  -- the lists of Buchberger's algorithm
pub mod Laws  -- the laws of ideals, steps and marks that functions of this crate name
pub mod LawsOfBases  -- the theorems on Gröbner bases that functions of this crate name
