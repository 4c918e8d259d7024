use Rattle.std.proofs.Common.{◌∙◌}
use Rattle.std.proofs.lemmas.Result.{err_from_is_err_and}
use Rattle.gf_text.specs.SetLists.{sets_in}
use Rattle.gf_items.specs.Items.{a_ring, a_list_of_sets_in}
use Rattle.gf_items.specs.Sources.{ring_and_set_list}
use Rattle.gf_items.proofs.ReadingLaws.{pair_read, pair_refused, items_refused, end_refused}
use Rattle.gf_items.proofs.sources.ring_and_sets.Goals as goal

pub returns-in_err-sets-clause-err : goal.returns-in_err-sets-clause-err
returns-in_err-sets-clause-err c =
    let p = err_from_is_err_and c.from_residual-in_err-sets.result c.from_residual-in_err-sets.ensures.1 in
    rw (p.1, p.2) (items_refused ring_and_set_list c.args.source.now c.new-reader.result c.new-reader.ensures c.in_err-sets.field-0.0
    (pair_refused a_ring a_list_of_sets_in c.new-reader.result c.read_ring.new.self c.in_ok-ring.ring c.in_ok-ring.ensures.ok c.in_ok-ring.ensures.source
    c.in_err-sets.field-0.0 c.in_err-sets.ensures.err))

pub returns-in-Err-clause-err : goal.returns-in-Err-clause-err
returns-in-Err-clause-err c =
    end_refused ring_and_set_list c.args.source.now c.new-reader.result c.new-reader.ensures c.read_sets.new.self
    (c.in_ok-sets.ensures.source ∙ c.in_ok-ring.ensures.source) (c.in_ok-ring.ring, sets_in c.in_ok-sets.sets.items)
    (pair_read a_ring a_list_of_sets_in c.new-reader.result c.read_ring.new.self c.in_ok-ring.ring c.in_ok-ring.ensures.ok c.in_ok-ring.ensures.source
    c.read_sets.new.self.at (sets_in c.in_ok-sets.sets.items) c.in_ok-sets.ensures.ok)
    c.in-Err.more c.in-Err.ensures.more
