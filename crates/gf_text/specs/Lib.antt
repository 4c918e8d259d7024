pub mod Machine  -- machines that read tokens, and the places of faults
pub mod Refusing  -- what a fault is refused as
pub mod Tokens  -- white space, the tokens of a text
pub mod Fronts  -- fronts that texts have in common
pub mod Marks  -- the tokens of a single byte
pub mod ListText  -- lists: grammar, machine
pub mod RingText  -- rings: grammar, machine, printed text
pub mod Kinds  -- of which kind a fault at a token is
pub mod RingKinds  -- of which kind a fault of a ring is
pub mod SetText  -- sets of polynomials: grammar, machine
pub mod VectorText  -- vectors: grammar, machine
pub mod Limits  -- what a text may say
pub mod Combining  -- products of powers, sums of terms, the marked term
pub mod WrittenText  -- the tokens by which a set is said
pub mod PrintedText  -- signs, coefficients, powers, terms as they are printed
pub mod Told  -- what a sink gained of a text
pub mod SingleText  -- dimensions and names of new variables: grammar
pub mod Given  -- what a reader gave
pub mod GivenSet  -- the same of sets
pub mod GivenVector  -- the same of vectors
pub mod TokensRead  -- tokens as they are read
pub mod Rings  -- rings as they are read
pub mod VectorLists  -- lists of vectors as they are read
pub mod Vectors  -- vectors as they are read
pub mod Singles  -- dimensions and names as they are read
pub mod Sets  -- the polynomials of a text
pub mod Pieces  -- polynomials that are summed piece by piece
pub mod SetLists  -- lists of sets as they are read
pub mod PrintedSets  -- polynomials and sets as they are printed
