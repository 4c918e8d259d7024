use Rattle.std.proofs.Common.{◌+◌, length, refl}
use Rattle.gf_strands.specs.Strands.{facet_order, strand_member, strand_members}
use Rattle.gf_strands.specs.Monomials.{with_monomials}
use Rattle.gf_strand_runs.specs.Turns.{IsPairTaken}
use Rattle.gf_strand_runs.proofs.StrandTurns.{strand_within, read_strands}
use Rattle.gf_strand_runs.proofs.TurnLaws.{turned_on}
use Rattle.gf_strand_runs.proofs.JoinedTurns.{pair_behind, behind_second}
use Rattle.gf_strand_runs.proofs.turns.take_turn.Goals as goal

pub returns-then-is_excused-clause-turning : goal.returns-then-is_excused-clause-turning
returns-then-is_excused-clause-turning c =
    let r = read_strands c.args.ground.now.normal.now c.args.ground.now.marks.now c.args.strands.now.items c.args.i c.args.j c.index.result.now
    c.index-2.result.now
    c.requires.pair c.requires.second c.index.ensures c.index-2.ensures in
    record {
      at = λ fs t. (turned_on (facet_order c.args.ground.now.normal.now) (length c.args.ground.now.normal.now) fs
          (with_monomials c.args.ground.now.marks.now (strand_members c.args.ground.now.normal.now c.args.strands.now.items))
          (with_monomials c.args.ground.now.marks.now (strand_members c.args.ground.now.normal.now c.args.strands.now.items))
          (length c.args.ground.now.marks.now + c.args.i) (length c.args.ground.now.marks.now + c.args.j) (pair_behind c.args.ground.now.marks.now c.args.i
          c.args.j c.requires.pair) (behind_second c.args.ground.now.marks.now (strand_members c.args.ground.now.normal.now c.args.strands.now.items) c.args.j
          (strand_within c.args.ground.now.normal.now c.args.strands.now.items c.args.j c.requires.second)) t
          (IsPairTaken.excused (strand_member c.args.ground.now.normal.now c.index.result.now) (strand_member c.args.ground.now.normal.now c.index-2.result.now)
          r.at_i r.at_j (c.is_excused.ensures c.args.ground.now.normal.now c.if-is_excused.true) refl)).turning;
    }
