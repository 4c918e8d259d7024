pub mod FormLaws  -- the form of what is read fails in one way at most
pub mod ToolFormLaws  -- the form that the small tools, and those on cones, need fails in one way at most
pub mod WrittenSetLaws  -- the polynomials of a set that is read, and the names of their monomials
pub mod CauseLaws  -- of which kind a refusal of an algorithm is, and that it names no monomials
pub mod PolynomialListLaws  -- the polynomials of a marked set
pub mod ReadSetLaws  -- what is kept of a set that is read
pub mod CheckedSetLaws  -- what is answered for a marked set, and why it isn't taken
pub mod ZipLaws  -- two lists, element by element
pub mod ReducedListLaws  -- lists of marked sets that are read as reduced bases
pub mod RefusedLaws  -- which refusals are told without a ring
pub mod PerformedLaws  -- what a command does with its texts
