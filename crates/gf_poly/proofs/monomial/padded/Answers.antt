use Rattle.std.proofs.Common.{ℕ, arith}
use Rattle.std.proofs.lemmas.List.{length-replicate}
use Rattle.gf_poly.specs.declared.TheConstants.{ROOM}
use Rattle.gf_poly.proofs.MonomialLaws.{ArePlacedUpTo-more, entry-get_or, entry-ones}
use Rattle.gf_poly.proofs.PlacedLaws.{placed_by_loop}
use Rattle.gf_poly.proofs.monomial.padded.Goals as goal

pub entries-init : goal.entries-init
entries-init c = record { room = length-replicate {A = ℕ} ROOM 0; at = λ k l. absurd (omega arith); behind = λ k l. entry-ones ROOM k }

pub entries-preserved : goal.entries-preserved
entries-preserved c = ArePlacedUpTo-more c.args.exponents.now c.entries.all c.entries.i _
    (omega (arith, c.requires.room)) (omega (arith, entry-get_or c.args.exponents.now c.entries.i)) c.entries.invariant

pub returns : goal.returns
returns c = placed_by_loop c.args.exponents.now c.entries.all c.entries.i (omega arith) c.requires c.entries.invariant
