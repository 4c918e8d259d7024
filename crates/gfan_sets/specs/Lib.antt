pub mod Buchberger  -- the input and output of `_buchberger`
pub mod Questions  -- the check of what is read, and the question that it asks
pub mod Marked  -- the input and output of `_ismarkedgroebnerbasis`
pub mod Containment  -- the input and output of `_doesidealcontain`
pub mod LeadingTerms  -- the output of `_leadingterms`
pub mod MarkPolynomialSet  -- the input and output of `_markpolynomialset`
pub mod InitialForms  -- the input and output of `_initialforms`
pub mod Homogenize  -- the input and output of `_homogenize`
pub mod PolynomialSetUnion  -- the input and output of `_polynomialsetunion`
pub mod Stats  -- the input and output of `_stats`
pub mod WeightVector  -- the input and output of `_weightvector`
pub mod Saturation  -- the input and output of `_saturation`
