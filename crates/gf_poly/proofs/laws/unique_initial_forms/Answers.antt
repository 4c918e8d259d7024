use Rattle.gf_poly.proofs.InitialFormLaws.{initial_form_unique}
use Rattle.gf_poly.proofs.laws.unique_initial_forms.Goals as goal

pub returns : goal.returns
returns c = initial_form_unique
