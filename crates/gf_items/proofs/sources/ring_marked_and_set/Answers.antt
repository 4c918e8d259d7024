use Rattle.std.proofs.Common.{◌∙◌}
use Rattle.std.proofs.lemmas.Result.{err_from_is_err_and}
use Rattle.gf_items.specs.Items.{IsOneRefused, both, a_ring, a_marked_set_in, a_set_in}
use Rattle.gf_items.specs.Sources.{ring_marked_set_and_set}
use Rattle.gf_items.proofs.ReadingLaws.{pair_read, pair_refused, items_refused, end_refused}
use Rattle.gf_items.proofs.sources.ring_marked_and_set.Goals as goal

pub returns-in_err-marked-clause-err : goal.returns-in_err-marked-clause-err
returns-in_err-marked-clause-err c =
    let p = err_from_is_err_and c.from_residual-in_err-marked.result c.from_residual-in_err-marked.ensures.1 in
    rw (p.1, p.2) (items_refused ring_marked_set_and_set c.args.source.now c.new-reader.result c.new-reader.ensures c.in_err-marked.field-0.0
    (pair_refused a_ring (λ names. both (a_marked_set_in names) (λ marked. a_set_in names)) c.new-reader.result c.read_ring.new.self c.in_ok-ring.ring
    c.in_ok-ring.ensures.ok c.in_ok-ring.ensures.source c.in_err-marked.field-0.0
    (IsOneRefused.at_first c.in_err-marked.ensures.err)))

pub returns-in_err-set-clause-err : goal.returns-in_err-set-clause-err
returns-in_err-set-clause-err c =
    let p = err_from_is_err_and c.from_residual-in_err-set.result c.from_residual-in_err-set.ensures.1 in
    rw (p.1, p.2) (items_refused ring_marked_set_and_set c.args.source.now c.new-reader.result c.new-reader.ensures c.in_err-set.field-0.0
    (pair_refused a_ring (λ names. both (a_marked_set_in names) (λ marked. a_set_in names)) c.new-reader.result c.read_ring.new.self c.in_ok-ring.ring
    c.in_ok-ring.ensures.ok c.in_ok-ring.ensures.source c.in_err-set.field-0.0
    (pair_refused (a_marked_set_in c.in_ok-ring.ring) (λ marked. a_set_in c.in_ok-ring.ring) c.read_ring.new.self c.read_marked.new.self c.in_ok-marked.marked
    c.in_ok-marked.ensures.ok c.in_ok-marked.ensures.source c.in_err-set.field-0.0 c.in_err-set.ensures.err)))

pub returns-in-Err-clause-err : goal.returns-in-Err-clause-err
returns-in-Err-clause-err c =
    let last = pair_read (a_marked_set_in c.in_ok-ring.ring) (λ marked. a_set_in c.in_ok-ring.ring) c.read_ring.new.self c.read_marked.new.self
    c.in_ok-marked.marked c.in_ok-marked.ensures.ok c.in_ok-marked.ensures.source c.read_set.new.self.at c.in_ok-set.set.items c.in_ok-set.ensures.ok in
    end_refused ring_marked_set_and_set c.args.source.now c.new-reader.result c.new-reader.ensures c.read_set.new.self
    (c.in_ok-set.ensures.source ∙ c.in_ok-marked.ensures.source ∙ c.in_ok-ring.ensures.source) (
      c.in_ok-ring.ring,
      (c.in_ok-marked.marked, c.in_ok-set.set.items),
    )
    (pair_read a_ring (λ names. both (a_marked_set_in names) (λ marked. a_set_in names)) c.new-reader.result c.read_ring.new.self c.in_ok-ring.ring
    c.in_ok-ring.ensures.ok c.in_ok-ring.ensures.source c.read_set.new.self.at (c.in_ok-marked.marked, c.in_ok-set.set.items) last)
    c.in-Err.more c.in-Err.ensures.more
