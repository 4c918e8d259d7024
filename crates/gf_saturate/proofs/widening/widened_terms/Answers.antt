use Rattle.std.proofs.Common.{◌<◌, ℕ, sym, subst}
use Rattle.gf_poly.specs.declared.TheConstants.{ROOM}
use Rattle.gf_poly.proofs.ProductLaws.{HasVariables-at}
use Rattle.gf_saturate.proofs.widening.widened_terms.Goals as goal

pub filled-requires-clause-room : goal.filled-requires-clause-room
filled-requires-clause-room c = subst (λ (k : ℕ). k < ROOM) (sym (HasVariables-at c.requires.0 c.args.terms.now c.terms.i c.index-terms-i.result
    c.terms-test.true c.index-terms-i.is c.requires.1.1)) c.requires.1.0
