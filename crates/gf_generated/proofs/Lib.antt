pub mod GeneratedLaws  -- the numbers, one step further; the generators are differences of two monomials, and none is zero
