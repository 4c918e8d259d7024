use Rattle.gf_division.specs.Dividends.{split_of}
use Rattle.gf_division.proofs.DescendingParts.{descending-front, descending-back}
use Rattle.gf_division.proofs.dividend.Dividend.has_room.Goals as goal

pub returns : goal.returns
returns c = λ t. record {
  over = c.has_passed.ensures.no c.if-has_passed.false (descending-front (split_of c.args.self.now).above (split_of c.args.self.now).below c.requires);
  below = c.is_over_next.ensures t (descending-back (split_of c.args.self.now).above (split_of c.args.self.now).below c.requires);
}
