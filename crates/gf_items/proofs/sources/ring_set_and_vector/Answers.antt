use Rattle.std.proofs.Common.{◌∙◌}
use Rattle.std.proofs.lemmas.Result.{err_from_is_err_and}
use Rattle.gf_items.specs.Items.{IsOneRefused, both, a_ring, a_set_in, a_vector}
use Rattle.gf_items.specs.Sources.{ring_set_and_vector}
use Rattle.gf_items.proofs.ReadingLaws.{pair_read, pair_refused, items_refused, end_refused}
use Rattle.gf_items.proofs.sources.ring_set_and_vector.Goals as goal

pub returns-in_err-set-clause-err : goal.returns-in_err-set-clause-err
returns-in_err-set-clause-err c =
    let p = err_from_is_err_and c.from_residual-in_err-set.result c.from_residual-in_err-set.ensures.1 in
    rw (p.1, p.2) (items_refused ring_set_and_vector c.args.source.now c.new-reader.result c.new-reader.ensures c.in_err-set.field-0.0
    (pair_refused a_ring (λ names. both (a_set_in names) (λ set. a_vector)) c.new-reader.result c.read_ring.new.self c.in_ok-ring.ring c.in_ok-ring.ensures.ok
    c.in_ok-ring.ensures.source c.in_err-set.field-0.0
    (IsOneRefused.at_first c.in_err-set.ensures.err)))

pub returns-in_err-vector-clause-err : goal.returns-in_err-vector-clause-err
returns-in_err-vector-clause-err c =
    let p = err_from_is_err_and c.from_residual-in_err-vector.result c.from_residual-in_err-vector.ensures.1 in
    rw (p.1, p.2) (items_refused ring_set_and_vector c.args.source.now c.new-reader.result c.new-reader.ensures c.in_err-vector.field-0.0
    (pair_refused a_ring (λ names. both (a_set_in names) (λ set. a_vector)) c.new-reader.result c.read_ring.new.self c.in_ok-ring.ring c.in_ok-ring.ensures.ok
    c.in_ok-ring.ensures.source c.in_err-vector.field-0.0
    (pair_refused (a_set_in c.in_ok-ring.ring) (λ set. a_vector) c.read_ring.new.self c.read_set.new.self c.in_ok-set.set.items c.in_ok-set.ensures.ok
    c.in_ok-set.ensures.source c.in_err-vector.field-0.0 c.in_err-vector.ensures.err)))

pub returns-in-Err-clause-err : goal.returns-in-Err-clause-err
returns-in-Err-clause-err c =
    let last = pair_read (a_set_in c.in_ok-ring.ring) (λ set. a_vector) c.read_ring.new.self c.read_set.new.self c.in_ok-set.set.items c.in_ok-set.ensures.ok
    c.in_ok-set.ensures.source c.read_vector.new.self.at c.in_ok-vector.vector c.in_ok-vector.ensures.ok in
    end_refused ring_set_and_vector c.args.source.now c.new-reader.result c.new-reader.ensures c.read_vector.new.self
    (c.in_ok-vector.ensures.source ∙ c.in_ok-set.ensures.source ∙ c.in_ok-ring.ensures.source) (
      c.in_ok-ring.ring,
      (c.in_ok-set.set.items, c.in_ok-vector.vector),
    )
    (pair_read a_ring (λ names. both (a_set_in names) (λ set. a_vector)) c.new-reader.result c.read_ring.new.self c.in_ok-ring.ring c.in_ok-ring.ensures.ok
    c.in_ok-ring.ensures.source c.read_vector.new.self.at (c.in_ok-set.set.items, c.in_ok-vector.vector) last)
    c.in-Err.more c.in-Err.ensures.more
