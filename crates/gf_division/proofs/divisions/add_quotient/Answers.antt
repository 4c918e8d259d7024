use Rattle.gf_division.proofs.QuotientLaws.{quotient_added}
use Rattle.gf_division.proofs.divisions.add_quotient.Goals as goal

pub returns : goal.returns
returns c = quotient_added c.args.lists.now.items c.args.k c.index_mut-list.result.now c.push.new.self c.args.quotient c.requires c.index_mut-list.ensures.value
    c.in_ok-push.ensures.items
