pub mod CertifiedListLaws  -- what the certificates of a list show
pub mod ListSourceLaws  -- what `_bases` writes for a source is one text
pub mod ServedListLaws  -- what the answer of `_bases` has
pub mod GivingWeightsLaws  -- the weights that `_weightvector` writes give the bases that it read
pub mod AnswerLaws  -- each answer is the text of a list, and what is read determines it
pub mod OneTextLaws  -- two answers for one ideal are one text
pub mod ServedLaws  -- the list of an answer serves each weight of its region
pub mod CertifiedLaws  -- what is printed after each basis
pub mod BasisFileLaws  -- a basis that is printed behind its ring is read again
pub mod PartsLaws  -- parts of a list make it up
pub mod JoinedLaws  -- a list that was cut and then continued
pub mod BinaryRays  -- the rays of cones that compare entries have entries 0 and 1
pub mod RowSteps  -- the vectors that are reached on the way to them
pub mod FourColumns  -- systems with four columns
pub mod DifferenceLimits  -- few such rows, in few variables, stay within their limits
pub mod VariableLaws  -- the normals of the difference of two variables
pub mod EverydayLaws  -- everyday inputs meet the premise of completeness
pub mod LinearRuns  -- runs on variables and differences of variables
pub mod LinearBases  -- the members of their bases are linear, and their flips within limits
pub mod LinearNormals  -- their normals, in four variables three at most
pub mod LinearLimits  -- searches over their bases, in at most four variables
pub mod LinearChecks  -- the checks of marked sets of such polynomials, and their weights
pub mod GivenLimits  -- their lists, from a marked basis
pub mod ContinuedLaws  -- their lists, after a basis
pub mod SummaryLimits  -- summaries of such ideals
pub mod TestLimits  -- tests of marked sets of such polynomials
pub mod SessionLaws  -- sessions that start at one of their bases
pub mod CoefficientSums  -- the sum of the coefficients, on an ideal
pub mod SaturationRuns  -- runs on linear polynomials and the inverse of a variable
pub mod SaturationLimits  -- saturations of differences of variables
pub mod SpaceLimits  -- homogeneity spaces of polynomials with small exponents, in at most three variables
pub mod InputLaws  -- what meets these premises
pub mod RayLines  -- the line of a ray
pub mod SmallRays  -- rays of cones with small rows, in at most three variables
pub mod PlaneRays  -- cones in the plane have at most two rays
pub mod FewVectors  -- there are few vectors with small entries
pub mod SmallFans  -- sums that are written of fans with small rows
pub mod ConeRowLaws  -- the rows of a cone: no more, and no larger, than what is given
pub mod ToldLimits  -- descriptions of cones with few small rows
pub mod FlatCones  -- cones of one equation, with certificates
pub mod Arrangements  -- marked sets have arrangements
pub mod LinearCones  -- cones of bases of variables and differences of variables
pub mod LinearFans  -- fans of their cones
pub mod PlaneFiles  -- fan files of the plane
pub mod TropicalLimits  -- tropical fans of polynomials with few terms
pub mod VectorRoom  -- vectors brought along others, and null spaces
pub mod RepeatedRows  -- systems with any number of rows, which are few up to sign
pub mod BasisTestLimits  -- tests for a tropical basis
pub mod HomogenizationLimits  -- homogenizations
pub mod DimensionLaws  -- the dimension of a cone by its implied equations, and by its rays
