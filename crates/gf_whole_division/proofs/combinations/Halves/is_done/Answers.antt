use Rattle.std.proofs.Common.{◌≡◌, length, rules}
use Rattle.gf_whole_division.proofs.ReductionLaws.{no_items}
use Rattle.gf_whole_division.proofs.combinations.Halves.is_done.Goals as goal

pub returns-clause-yes : goal.returns-clause-yes
returns-clause-yes c = λ t. (let e : length c.args.self.now.below.items ≡ 0 = search rules in no_items c.args.self.now.below.items e)
