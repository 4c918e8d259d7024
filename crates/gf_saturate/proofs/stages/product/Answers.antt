use Rattle.gf_poly.specs.declared.TheConstants.{ROOM}
use Rattle.gf_saturate.proofs.WideningLaws.{long_ones, all_ones}
use Rattle.gf_saturate.proofs.stages.product.Goals as goal

pub returns-clause-long : goal.returns-clause-long
returns-clause-long c = long_ones c.args.n ROOM c.new.result c.requires c.new.ensures

pub returns-clause-all : goal.returns-clause-all
returns-clause-all c = all_ones c.args.n ROOM c.new.result c.requires c.new.ensures
