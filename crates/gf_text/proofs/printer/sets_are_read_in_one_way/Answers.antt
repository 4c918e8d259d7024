use Rattle.gf_text.proofs.ReadAgainLaws.{read_once, not_refused}
use Rattle.gf_text.proofs.printer.sets_are_read_in_one_way.Goals as goal

pub returns : goal.returns
returns c = record {
  same = λ ring old place end ws vs read other. read_once ring old place end ws vs read other;
  taken = λ ring old place ws e is read cause. not_refused ring is old place ws read e cause;
}
