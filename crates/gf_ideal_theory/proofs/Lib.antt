pub mod Identities  -- identities between fractions
pub mod ListLaws  -- lists
pub mod RingLaws  -- monomials in the first n variables
pub mod TermLaws  -- the monomials of polynomials and of their multiples
pub mod DividingLaws  -- members of a list, and the monomials that their marks divide
pub mod SpanLaws  -- sums of multiples: the working form of membership
pub mod MembershipLaws  -- members, in whole numbers; the bridge to the working form
pub mod PieceLaws  -- sums of multiples of marked polynomials
pub mod StepLaws  -- steps stay in the ideal; what they take away
pub mod MeasureLaws  -- a step leaves less work
pub mod RowLaws  -- comparisons by rows of weights, and one weight for all rows
pub mod OrderWeights  -- the trade of an order for a weight
pub mod GeneratorLaws  -- lists of generators with the same ideal
pub mod MarkWeights  -- marks by an order are marks by a positive weight
pub mod OrderTableLaws  -- the six orders row by row
pub mod ListedTerms  -- from the lists that a program keeps to polynomials
pub mod CriterionLaws  -- Buchberger's criterion for a weight
pub mod SettledLaws  -- settled pairs
pub mod ProductLaws  -- the product criterion
pub mod ReductionLaws  -- pairs that were reduced
pub mod DivisionLaws  -- division
pub mod LeadingLaws  -- leading monomials
pub mod BasisLaws  -- what a basis gives, and what gives a basis
pub mod UniquenessLaws  -- the reduced basis is the only one
pub mod ArrangedLists  -- arranged bases that are the same are equal
pub mod InterreductionLaws  -- interreduction
pub mod ArrangementLaws  -- bases in any order
pub mod IntegerPairLaws  -- settled in whole numbers
pub mod TradeLaws  -- Buchberger's criterion for an order
pub mod CriteriaLaws  -- what settles a pair
pub mod WorkLaws  -- the lists of Buchberger's algorithm
pub mod NormalFormLaws  -- normal forms by the rule
pub mod KeptForms  -- what a program keeps, and what the theory speaks of
pub mod LawsHold  -- the laws of specs/Laws.antt
pub mod LawsOfBasesHold  -- the theorems of specs/LawsOfBases.antt
pub mod SmallBases  -- the zero ideal, ideals with one generator
