use Rattle.std.proofs.Common.{sym, subst}
use Rattle.gf_gordan.specs.Alternative.{AreRows}
use Rattle.gf_saturate.proofs.grades.orthogonal.Goals as goal

pub strict-requires-clause-rows : goal.strict-requires-clause-rows
strict-requires-clause-rows c = subst (AreRows c.args.n) (sym c.as_slice-rows.ensures.value) c.in-Ok.ensures

pub strict-requires-clause-equations : goal.strict-requires-clause-equations
strict-requires-clause-equations c = subst (AreRows c.args.n) (sym c.as_slice-equations.ensures.value) c.in-Ok-differences.ensures
