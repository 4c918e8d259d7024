use Rattle.std.proofs.Common.{ℕ, ◌<◌, arith, sym, subst}
use Rattle.gf_saturate.proofs.chain.next_index.Goals as goal

pub exponent-requires : goal.exponent-requires
exponent-requires c = subst (λ (m : ℕ). c.args.first < m) (sym c.requires.long) c.requires.inside

pub first_variable-requires : goal.first_variable-requires
first_variable-requires c = omega (arith, c.requires.long)
