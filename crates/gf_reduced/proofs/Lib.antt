pub mod FormLaws  -- monic forms as code makes them
pub mod WeightLaws  -- what an elimination of a marking's system answers
pub mod PairLaws  -- the normal forms of S-polynomials
pub mod GroebnerLaws  -- pairs tell whether a marked set is a Gröbner basis
pub mod CriteriaLaws  -- pairs that a criterion settles
pub mod TermLaws  -- terms that offend, as code finds them
pub mod ReducedLaws  -- a basis without such terms is the reduced one
pub mod CallLaws  -- the checks one after another
pub mod RefusalLaws  -- refusals of the calls
