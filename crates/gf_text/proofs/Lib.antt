pub mod TokensLaws  -- the tokens of a text, one after another
pub mod FrontsLaws  -- how much texts have in common at their fronts
pub mod SpelledLaws  -- bytes that spell tokens
pub mod MachineLaws  -- what machines read, and what grammars say of it
pub mod NamesLaws  -- different names, kept as keys of a set
pub mod SetTokensLaws  -- names, numbers and marks of a set
pub mod KindsLaws  -- of which kind a fault is, by what a machine takes
pub mod FaultsLaws  -- the same tokens have one fault at most
pub mod ListTextLaws  -- the machine of lists reads what the grammar says
pub mod ListReadLaws  -- a list is read item by item
pub mod RingTextLaws  -- the machine of rings reads what the grammar says; printed rings are read again
pub mod RingKindsLaws  -- of which kind a fault of a ring is
pub mod VectorTextLaws  -- the machine of vectors reads what the grammar says
pub mod VectorListsLaws  -- lists of vectors are read as the grammar says
pub mod SingleTextLaws  -- dimensions and names of new variables are read as the grammar says
pub mod VectorKindsLaws  -- of which kind a fault of a vector is
pub mod ToldLaws  -- what a sink gained of texts, one after another
pub mod PrintedTextLaws  -- the parts of printed terms and vectors
pub mod LimitsLaws  -- what a text says is within its limits
pub mod CombiningLaws  -- terms and sums of terms, one after another
pub mod SetsLaws  -- sums of terms, one after another
pub mod PiecesLaws  -- a polynomial is summed piece by piece
pub mod PrintedSetsLaws  -- the pieces of printed polynomials and sets
pub mod SetFactorsLaws  -- the machine of sets at powers of variables
pub mod SetTextLaws  -- the machine of sets reads what the grammar says
pub mod SetPartsLaws  -- what is read from each place of a set on
pub mod SetReadLaws  -- the machine of sets reads no more than the grammar says
pub mod SetStopsLaws  -- why the machine of sets can't take a token
pub mod SetMachineLaws  -- sets are read as the grammar says, and each state goes on to one
pub mod SetGrowsLaws  -- a set is read polynomial by polynomial
pub mod SetPiecesLaws  -- a set is read piece by piece
pub mod SetKindsLaws  -- of which kind a fault of a set is
pub mod SetListsLaws  -- lists of sets: what comes of them, and that they are read as the grammar says
pub mod PrintedTokensLaws  -- the tokens of printed numbers, names and powers
pub mod VectorsAgainLaws  -- printed vectors are read again
pub mod PrintedTermsLaws  -- what printed terms say
pub mod PrintedPolynomialsLaws  -- what printed polynomials and sets say
pub mod CombinedAgainLaws  -- what is said of polynomials is combined to them
pub mod ReadAgainLaws  -- printed sets are read again
pub mod KeptLaws  -- what the program keeps is in range
