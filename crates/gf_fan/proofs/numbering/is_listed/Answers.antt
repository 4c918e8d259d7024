use Rattle.std.proofs.Common.{◌∙◌, sym}
use Rattle.gf_fan.proofs.TopLaws.{listed_by, found_by}
use Rattle.gf_fan.proofs.numbering.is_listed.Goals as goal

pub returns : goal.returns
returns c = (
  λ t. listed_by c.args.lists.now.keys c.args.own.now (sym c.contains.ensures ∙ t),
  λ k. c.contains.ensures ∙ found_by c.args.lists.now.keys c.args.own.now k,
)
