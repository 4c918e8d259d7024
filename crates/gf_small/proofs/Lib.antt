mod LeadingTermsLaws  -- marked terms as code finds them
mod MarksByWeightLaws  -- the greatest term by a weight, as a search finds it
mod WrittenLaws  -- polynomials that may be zero, one after another
mod InitialFormsLaws  -- initial forms aren't zero, and their marks
pub mod HomogenizationLaws  -- homogenisation, term by term and polynomial by polynomial
mod KeyLaws  -- polynomials with equal keys are equal
mod UnionsLaws  -- the union of sets, polynomial by polynomial
mod HomogeneitySpaceLaws  -- the homogeneity space as the null space of rows
pub mod CountsLaws  -- counts of sets, one after another
