use Rattle.std.proofs.Common.{ℕ, ◌<◌, [], slice_index_or}
use Rattle.gf_ideal_theory.specs.NormalForms.{IsNormalForm}
use Rattle.gfan_lists.proofs.after.first_outside.Given as goal

-- the polynomials before leave zero
abbrev pub invariant-polynomials : goal.invariant-polynomials
invariant-polynomials l = (j : ℕ) → j < l.i → IsNormalForm l.by.items (slice_index_or l.polynomials j []) []
