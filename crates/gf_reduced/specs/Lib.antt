pub mod Forms  -- monic forms
pub mod Markings  -- positive weights of a marking; when the set is a Gröbner basis for it
pub mod Terms  -- terms that keep a set from being reduced
pub mod Pairs  -- pairs whose S-polynomials don't reduce to zero
pub mod Criteria  -- pairs that need no reduction
pub mod Refusals  -- why a set is refused, or can't be tested
