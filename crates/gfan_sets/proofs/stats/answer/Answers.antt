use Rattle.std.proofs.Common.{ℕ, List, length, refl, sym, subst}
use Rattle.std.proofs.lemmas.Result.{err_from_is_err_and}
use Rattle.gf_poly.specs.Marking.{MarkedPolynomials}
use Rattle.gf_small.specs.Statistics.{AreSetsIn, AreStatistics, IsStatisticsCause}
use Rattle.gf_frame.specs.Commands.{IsRefusedOn}
use Rattle.gfan_common.proofs.RefusedLaws.{of_source, named_text}
use Rattle.gfan_sets.proofs.ToolLaws.{stats_unanswered, stats_answered}
use Rattle.gfan_common.proofs.CauseLaws.{named_gordan}
use Rattle.gfan_sets.proofs.stats.answer.Goals as goal

pub returns-in_err-read-clause-err : goal.returns-in_err-read-clause-err
returns-in_err-read-clause-err c =
    let p = err_from_is_err_and c.from_residual.result c.from_residual.ensures.1 in
    rw (p.1, p.2) (IsRefusedOn.in_text c.in_err-read.field-0.0 c.in_err-read.ensures.err refl)

pub returns-in_err-read-clause-told : goal.returns-in_err-read-clause-told
returns-in_err-read-clause-told c =
    let p = err_from_is_err_and c.from_residual.result c.from_residual.ensures.1 in
    rw (p.1, p.2) (of_source _ _ (named_text c.in_err-read.field-0.0))

pub stats-requires : goal.stats-requires
stats-requires c =
    subst (λ (k : ℕ). AreSetsIn k c.deref.result.now) (sym c.len.ensures.value)
    (subst (λ (ss : List MarkedPolynomials). AreSetsIn (length c.in_ok-read.read.ring) ss) (sym c.deref.ensures.value) c.in_ok-read.ensures.variables)

pub returns-in_err-stats-clause-err : goal.returns-in_err-stats-clause-err
returns-in_err-stats-clause-err c =
    let p = err_from_is_err_and c.from_residual-in_err-stats.result c.from_residual-in_err-stats.ensures.1 in
    rw (p.1, p.2) (IsRefusedOn.behind_text (c.in_ok-read.read.ring, c.in_ok-read.read.sets.items) c.in_ok-read.ensures.ok
    (stats_unanswered c.len.result c.in_ok-read.read.ring c.in_ok-read.read.sets.items c.in_err-stats.field-0.0 c.len.ensures.value
    (subst (λ (ss : List MarkedPolynomials). IsStatisticsCause c.len.result ss c.in_err-stats.field-0.0) c.deref.ensures.value c.in_err-stats.ensures.err)))

pub returns-in_err-stats-clause-told : goal.returns-in_err-stats-clause-told
returns-in_err-stats-clause-told c =
    let p = err_from_is_err_and c.from_residual-in_err-stats.result c.from_residual-in_err-stats.ensures.1 in
    rw (p.1, p.2) (of_source _ _ (named_gordan c.in_err-stats.field-0.0))

pub returns-clause-ok : goal.returns-clause-ok
returns-clause-ok c = record {
  value = (c.in_ok-read.read.ring, c.in_ok-read.read.sets.items);
  read = c.in_ok-read.ensures.ok;
  answer = stats_answered c.len.result c.in_ok-read.read.ring c.in_ok-read.read.sets.items c.in_ok-stats.stats c.in_ok-text.text.items c.len.ensures.value
      (subst (λ (ss : List MarkedPolynomials). AreStatistics c.len.result ss c.in_ok-stats.stats) c.deref.ensures.value c.in_ok-stats.ensures.ok)
      c.in_ok-text.ensures;
}
