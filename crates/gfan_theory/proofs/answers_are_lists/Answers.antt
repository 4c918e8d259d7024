use Rattle.gfan_theory.proofs.AnswerLaws.{answers_are_lists}
use Rattle.gfan_theory.proofs.answers_are_lists.Goals as goal

pub returns : goal.returns
returns c = answers_are_lists
