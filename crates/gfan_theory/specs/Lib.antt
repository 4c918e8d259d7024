pub mod ListSources  -- the ring and the polynomials of a source of `_bases`
pub mod OneSourceText  -- `_bases` writes at most one text for a source
pub mod ServedLists  -- the bases in the list of `_bases` for each weight and each term order
pub mod CertifiedBases  -- the meaning of certificates
pub mod GivingWeights  -- the weights that `_weightvector` writes give the bases that it read
pub mod Answers  -- the jobs of `_bases`, what they read, and what an answer consists of
pub mod OneText  -- what is written is determined by what is read, and depends on the ideal alone
pub mod Served  -- what the list of an answer has for each weight of its region
pub mod Certified  -- what the certificates of an answer show
pub mod Parts  -- a list that is written in parts
pub mod Joined  -- a list that was cut and then continued
pub mod Differences  -- rows that compare two entries of a vector
pub mod Everyday  -- everyday inputs that meet the premise of completeness
pub mod Linear  -- ideals that differences of variables generate
pub mod Continued  -- their lists, from a marked basis or after one
pub mod Summaries  -- the ideals with a number
pub mod Tested  -- tests of marked sets
pub mod SmallSets  -- polynomials with small exponents in few variables
pub mod Inputs  -- the premises of completeness of `_bases`, of each input that says given polynomials
pub mod SmallCones  -- cones with few small rows
pub mod LinearFans  -- fans of the cones of bases of variables and differences of variables
pub mod PlaneFans  -- fan files of the plane
pub mod TropicalFans  -- polynomials with few terms and small exponents
pub mod BasisTests  -- differences of variables in the test for a tropical basis
pub mod Homogenizations  -- polynomials whose homogenizations stay within the limit of exponents
pub mod Dimensions  -- the dimension of a cone, by its implied equations and by its rays
