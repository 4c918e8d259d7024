pub mod LeadingTerms  -- the marked terms of a set
pub mod MarksByWeight  -- the greatest term by a weight, ties by lex
pub mod InitialForms  -- initial forms with their marks
pub mod Degrees  -- total degrees
pub mod Homogenization  -- homogenization by a new last variable
pub mod Unions  -- each polynomial of several sets once
pub mod Keys  -- the numbers of a polynomial's terms, by which equal polynomials are found
pub mod Counts  -- what is counted of marked sets
pub mod HomogeneitySpace  -- the vectors by which polynomials are homogeneous
pub mod Statistics  -- statistics of a list of marked sets
