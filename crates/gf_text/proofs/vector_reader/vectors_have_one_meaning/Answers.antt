use Rattle.gf_text.proofs.VectorTextLaws.{one_vector}
use Rattle.gf_text.proofs.vector_reader.vectors_have_one_meaning.Goals as goal

pub returns : goal.returns
returns c = one_vector
