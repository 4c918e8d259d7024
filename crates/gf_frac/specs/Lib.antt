pub mod Fraction  -- fractions in lowest terms, their sums, products, negatives and reciprocals
pub mod Fields  -- what a `Frac` keeps of its two numbers
pub mod Fits  -- the numbers of each operation's working, and when they are in range
pub mod Equality  -- when two fractions compare equal
pub mod Laws  -- the laws that the functions of `src/laws.rt` stand for
