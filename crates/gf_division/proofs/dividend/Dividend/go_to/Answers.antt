use Rattle.gf_division.specs.Dividends.{split_of}
use Rattle.gf_division.proofs.DescendingParts.{descending-front}
use Rattle.gf_division.proofs.dividend.Dividend.go_to.Goals as goal

pub ascend-requires : goal.ascend-requires
ascend-requires c = descending-front (split_of c.args.self.now).above (split_of c.args.self.now).below c.requires
