use Rattle.std.proofs.Common.{◌∙◌}
use Rattle.std.proofs.lemmas.Result.{err_from_is_err_and}
use Rattle.gf_items.specs.Items.{IsOneRefused, both, a_ring, a_set_in, a_new_name}
use Rattle.gf_items.specs.Sources.{ring_set_and_name}
use Rattle.gf_items.proofs.ReadingLaws.{pair_read, pair_refused, items_refused, end_refused}
use Rattle.gf_items.proofs.sources.ring_set_and_name.Goals as goal

pub returns-in_err-set-clause-err : goal.returns-in_err-set-clause-err
returns-in_err-set-clause-err c =
    let p = err_from_is_err_and c.from_residual-in_err-set.result c.from_residual-in_err-set.ensures.1 in
    rw (p.1, p.2) (items_refused ring_set_and_name c.args.source.now c.new-reader.result c.new-reader.ensures c.in_err-set.field-0.0
    (pair_refused a_ring (λ names. both (a_set_in names) (λ set. a_new_name names)) c.new-reader.result c.read_ring.new.self c.in_ok-ring.ring
    c.in_ok-ring.ensures.ok c.in_ok-ring.ensures.source c.in_err-set.field-0.0
    (IsOneRefused.at_first c.in_err-set.ensures.err)))

pub returns-in_err-name-clause-err : goal.returns-in_err-name-clause-err
returns-in_err-name-clause-err c =
    let p = err_from_is_err_and c.from_residual-in_err-name.result c.from_residual-in_err-name.ensures.1 in
    rw (p.1, p.2) (items_refused ring_set_and_name c.args.source.now c.new-reader.result c.new-reader.ensures c.in_err-name.field-0.0
    (pair_refused a_ring (λ names. both (a_set_in names) (λ set. a_new_name names)) c.new-reader.result c.read_ring.new.self c.in_ok-ring.ring
    c.in_ok-ring.ensures.ok c.in_ok-ring.ensures.source c.in_err-name.field-0.0
    (pair_refused (a_set_in c.in_ok-ring.ring) (λ set. a_new_name c.in_ok-ring.ring) c.read_ring.new.self c.read_set.new.self c.in_ok-set.set.items
    c.in_ok-set.ensures.ok c.in_ok-set.ensures.source c.in_err-name.field-0.0 c.in_err-name.ensures.err)))

pub returns-in-Err-clause-err : goal.returns-in-Err-clause-err
returns-in-Err-clause-err c =
    let last = pair_read (a_set_in c.in_ok-ring.ring) (λ set. a_new_name c.in_ok-ring.ring) c.read_ring.new.self c.read_set.new.self c.in_ok-set.set.items
    c.in_ok-set.ensures.ok c.in_ok-set.ensures.source c.read_name.new.self.at c.in_ok-name.name.now c.in_ok-name.ensures.ok in
    end_refused ring_set_and_name c.args.source.now c.new-reader.result c.new-reader.ensures c.read_name.new.self
    (c.in_ok-name.ensures.source ∙ c.in_ok-set.ensures.source ∙ c.in_ok-ring.ensures.source) (
      c.in_ok-ring.ring,
      (c.in_ok-set.set.items, c.in_ok-name.name.now),
    )
    (pair_read a_ring (λ names. both (a_set_in names) (λ set. a_new_name names)) c.new-reader.result c.read_ring.new.self c.in_ok-ring.ring
    c.in_ok-ring.ensures.ok c.in_ok-ring.ensures.source c.read_name.new.self.at (c.in_ok-set.set.items, c.in_ok-name.name.now) last)
    c.in-Err.more c.in-Err.ensures.more
