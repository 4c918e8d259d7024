use Rattle.std.proofs.Common.{arith}
use Rattle.gf_lifts.proofs.tails.copied_back.Goals as goal

pub lifts-init : goal.lifts-init
lifts-init c = record { copied = λ j g l. absurd (omega (arith, l)); within = omega arith }
