use Rattle.gf_facets_theory.proofs.LawsHold.{lex_positive_vectors}
use Rattle.gf_facets_theory.proofs.lex_positive_vectors.Goals as goal

pub returns : goal.returns
returns c = lex_positive_vectors
