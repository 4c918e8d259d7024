use Rattle.std.proofs.Common.{◌≡◌, ◌+◌, arith, length, ℤ, List}
use Rattle.std.proofs.lemmas.Result.{IfOk-weaker}
use Rattle.gf_int_theory.specs.Range.{InRange}
use Rattle.gf_exponents_theory.specs.Orders.{gains}
use Rattle.gf_order.specs.Weights.{AreBounded}
use Rattle.gf_poly.specs.declared.TheConstants.{ROOM}
use Rattle.gf_saturation_theory.specs.Saturations.{last_weight}
use Rattle.gf_saturate.proofs.StepLaws.{entries-all, entries-gains, entries-long, bounded-of}
use Rattle.gf_saturate.proofs.elimination.last_entries.Goals as goal

pub from_slice-requires : goal.from_slice-requires
from_slice-requires c = entries-all InRange (record { within = omega arith }) (record { within = omega arith }) c.args.n ROOM c.requires

pub returns-clause-gains : goal.returns-clause-gains
returns-clause-gains c = IfOk-weaker c.from_slice.result _ (λ (w : List ℤ). gains w ≡ last_weight c.args.n) (λ w e. entries-gains c.args.n ROOM w c.requires e)
    c.from_slice.ensures

pub returns-clause-bounded : goal.returns-clause-bounded
returns-clause-bounded c = IfOk-weaker c.from_slice.result _ AreBounded (λ w e. bounded-of c.args.n ROOM w c.requires e) c.from_slice.ensures

pub returns-clause-long : goal.returns-clause-long
returns-clause-long c = IfOk-weaker c.from_slice.result _ (λ (w : List ℤ). length w ≡ c.args.n + 1) (λ w e. entries-long c.args.n ROOM w c.requires e)
    c.from_slice.ensures
