use Rattle.std.proofs.Common.{sym, ◌∙◌, subst}
use Rattle.std.proofs.lemmas.Result.{err_from_is_err_and}
use Rattle.gf_poly.specs.declared.error.PolyError.TheVariants as errors
use Rattle.gf_division.specs.declared.table.Table.{Table}
use Rattle.gf_division.specs.Dividends.{TakesAway}
use Rattle.gf_division.specs.Tables.{table_of}
use Rattle.gf_division.proofs.TableLaws.{taken_there, taken_new, refused_there}
use Rattle.gf_division.proofs.table.Table.take_away.Goals.{in-Some+in_ok-left-in-Some+in_ok-put-in-Some, in-None+in_ok-push-in-None+in_ok-put-in-None}
use Rattle.gf_division.proofs.table.Table.take_away.Goals as goal

pub returns-in_err-left-in-Some-clause-cause : goal.returns-in_err-left-in-Some-clause-cause
returns-in_err-left-in-Some-clause-cause c =
    let p = err_from_is_err_and c.from_residual.result c.from_residual.ensures.1 in
    rw (p.1, p.2) (refused_there (record { mono = c.args.mono }) c.args.self.now.entries.entries c.in-Some.c c.args.coef.now
    (errors.Overflow c.in_err-left-in-Some.field-0.0) c.requires.sound (sym c.coefficient.ensures ∙ c.in-Some.is) c.in_err-left-in-Some.ensures.overflow)

pub returns-clause-ok : goal.returns-clause-ok
returns-clause-ok c = elim c.match-coefficient.branch [
  | in-Some+in_ok-left-in-Some+in_ok-put-in-Some w ↦ subst (λ (t : Table). TakesAway c.args.coef.now c.args.mono (table_of c.args.self.now) (table_of t))
      (sym w.self-is) (taken_there (record { mono = c.args.mono }) c.args.self.now.entries.entries w.put.new.self.entries.entries w.in-Some.c c.args.coef.now
      w.in_ok-left-in-Some.left c.requires.sound (sym c.coefficient.ensures ∙ w.in-Some.is) w.in_ok-left-in-Some.ensures.value w.in_ok-put-in-Some.ensures)
  | in-None+in_ok-push-in-None+in_ok-put-in-None w ↦ subst (λ (t : Table). TakesAway c.args.coef.now c.args.mono (table_of c.args.self.now) (table_of t))
      (sym w.self-is) (taken_new (record { mono = c.args.mono }) c.args.self.now.entries.entries w.put-in-None.new.self.entries.entries c.args.coef.now
      w.neg.result c.requires.sound (sym c.coefficient.ensures ∙ w.in-None.is) c.requires.nonzero w.neg.ensures w.in_ok-put-in-None.ensures)
]
