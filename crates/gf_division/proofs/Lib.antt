pub mod DescendingParts  -- descending lists, one after the other
pub mod DividendLaws  -- moves of the index
pub mod SubtractionLaws  -- a subtraction from the index down
pub mod StepLaws  -- one step
pub mod ReducerLaws  -- the search for a reducer
pub mod RuleLaws  -- the steps of the rule
pub mod NormalFormLaws  -- the loop of a normal form
pub mod FirstStepLaws  -- steps by first divisors lead to one remainder
pub mod NormalFormExists  -- and that is the normal form
pub mod RemainderLaws  -- steps at whichever terms
pub mod ChainLaws  -- many steps at once
pub mod TableLaws  -- a table of coefficients
pub mod IndexLaws  -- the step at a monomial
pub mod SPolynomialLaws  -- S-polynomials as code forms them
pub mod MonicLaws  -- marked polynomials made monic
pub mod NeededLaws  -- which members are needed
pub mod TailLaws  -- one tail
pub mod AutoreductionLaws  -- all tails, and the whole
pub mod QuotientLaws  -- quotients as they are kept
pub mod DivisionLaws  -- the loop of a division
pub mod WeighedMarks  -- tests of weights
pub mod KeyLaws  -- exponents arranged in keys
