pub mod Integers  -- identities between whole numbers in one line
pub mod Gcd  -- greatest common divisors, what coprime numbers divide, lowest terms
pub mod Range  -- the range of the numbers that the program keeps
pub mod Content  -- common divisors of a list, its content, primitive lists
pub mod Laws  -- the laws that the functions of `src/laws.rt` stand for
