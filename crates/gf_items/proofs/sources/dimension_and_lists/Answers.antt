use Rattle.std.proofs.Common.{◌∙◌}
use Rattle.std.proofs.lemmas.Result.{err_from_is_err_and}
use Rattle.gf_items.specs.Items.{IsOneRefused, both, a_dimension, a_list_of_vectors}
use Rattle.gf_items.specs.Sources.{dimension_two_lists}
use Rattle.gf_items.proofs.ReadingLaws.{pair_read, pair_refused, items_refused, end_refused}
use Rattle.gf_items.proofs.sources.dimension_and_lists.Goals as goal

pub returns-in_err-inequalities-clause-err : goal.returns-in_err-inequalities-clause-err
returns-in_err-inequalities-clause-err c =
    let p = err_from_is_err_and c.from_residual-in_err-inequalities.result c.from_residual-in_err-inequalities.ensures.1 in
    rw (p.1, p.2) (items_refused dimension_two_lists c.args.source.now c.new-reader.result c.new-reader.ensures c.in_err-inequalities.field-0.0
    (pair_refused a_dimension (λ n. both a_list_of_vectors (λ v. a_list_of_vectors)) c.new-reader.result c.read_dimension.new.self c.in_ok-dimension.dimension
    c.in_ok-dimension.ensures.ok c.in_ok-dimension.ensures.source c.in_err-inequalities.field-0.0
    (IsOneRefused.at_first c.in_err-inequalities.ensures.err)))

pub returns-in_err-equations-clause-err : goal.returns-in_err-equations-clause-err
returns-in_err-equations-clause-err c =
    let p = err_from_is_err_and c.from_residual-in_err-equations.result c.from_residual-in_err-equations.ensures.1 in
    rw (p.1, p.2) (items_refused dimension_two_lists c.args.source.now c.new-reader.result c.new-reader.ensures c.in_err-equations.field-0.0
    (pair_refused a_dimension (λ n. both a_list_of_vectors (λ v. a_list_of_vectors)) c.new-reader.result c.read_dimension.new.self c.in_ok-dimension.dimension
    c.in_ok-dimension.ensures.ok c.in_ok-dimension.ensures.source c.in_err-equations.field-0.0
    (pair_refused a_list_of_vectors (λ v. a_list_of_vectors) c.read_dimension.new.self c.read_vectors.new.self c.in_ok-inequalities.inequalities.items
    c.in_ok-inequalities.ensures.ok c.in_ok-inequalities.ensures.source c.in_err-equations.field-0.0 c.in_err-equations.ensures.err)))

pub returns-in-Err-clause-err : goal.returns-in-Err-clause-err
returns-in-Err-clause-err c =
    let last = pair_read a_list_of_vectors (λ v. a_list_of_vectors) c.read_dimension.new.self c.read_vectors.new.self c.in_ok-inequalities.inequalities.items
    c.in_ok-inequalities.ensures.ok c.in_ok-inequalities.ensures.source c.read_vectors-2.new.self.at c.in_ok-equations.equations.items
    c.in_ok-equations.ensures.ok in
    end_refused dimension_two_lists c.args.source.now c.new-reader.result c.new-reader.ensures c.read_vectors-2.new.self
    (c.in_ok-equations.ensures.source ∙ c.in_ok-inequalities.ensures.source ∙ c.in_ok-dimension.ensures.source) (
      c.in_ok-dimension.dimension,
      (c.in_ok-inequalities.inequalities.items, c.in_ok-equations.equations.items),
    )
    (pair_read a_dimension (λ n. both a_list_of_vectors (λ v. a_list_of_vectors)) c.new-reader.result c.read_dimension.new.self c.in_ok-dimension.dimension
    c.in_ok-dimension.ensures.ok c.in_ok-dimension.ensures.source c.read_vectors-2.new.self.at (
      c.in_ok-inequalities.inequalities.items,
      c.in_ok-equations.equations.items,
    ) last)
    c.in-Err.more c.in-Err.ensures.more
