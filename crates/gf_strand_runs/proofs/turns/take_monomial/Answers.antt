use Rattle.std.proofs.Common.{[], ◌+◌, length, ap, refl, sym, subst, inr, ◌∙◌}
use Rattle.gf_exponents_theory.specs.Exponents.{Exponents, AreCoprime}
use Rattle.gf_ideal_theory.proofs.ListLaws.{contained_each}
use Rattle.gf_strands.specs.Strands.{IsStrandOf, facet_order, strand_member, strand_members}
use Rattle.gf_strands.specs.Monomials.{monomial_member, with_monomials}
use Rattle.gf_strand_runs.specs.Turns.{IsPairTaken}
use Rattle.gf_strand_runs.proofs.StrandTurns.{strand_within, read_strand}
use Rattle.gf_strands.proofs.MonomialLaws.{front_variables}
use Rattle.gf_strand_runs.proofs.TurnLaws.{turned_on}
use Rattle.gf_strand_runs.proofs.JoinedTurns.{first_behind, behind_second}
use Rattle.gf_strand_runs.proofs.turns.take_monomial.Goals as goal

pub are_coprime-requires : goal.are_coprime-requires
are_coprime-requires c =
    let q = (contained_each (IsStrandOf c.args.ground.now.normal.now c.args.ground.now.by.now) c.args.strands.now.items c.requires.strands c.index-c.result.now
    (c.args.j, c.requires.second, sym c.index-c.ensures)).0 in
    let w = front_variables (length c.args.ground.now.normal.now) c.args.ground.now.marks.now [] c.args.i c.index-ground-i.result c.requires.ground.marks
    c.requires.first c.index-ground-i.is in
    ap length (sym c.index-ground-i.is) ∙ w ∙ sym q.width

pub returns-then-are_coprime-clause-turning : goal.returns-then-are_coprime-clause-turning
returns-then-are_coprime-clause-turning c =
    let r = read_strand c.args.ground.now.normal.now c.args.ground.now.marks.now c.args.strands.now.items c.args.i c.args.j c.index-ground-i.result
    c.index-c.result.now c.requires.first c.index-ground-i.is c.requires.second c.index-c.ensures in
    record {
      at = λ fs t. (turned_on (facet_order c.args.ground.now.normal.now) (length c.args.ground.now.normal.now) fs
          (with_monomials c.args.ground.now.marks.now (strand_members c.args.ground.now.normal.now c.args.strands.now.items))
          (with_monomials c.args.ground.now.marks.now (strand_members c.args.ground.now.normal.now c.args.strands.now.items)) c.args.i
          (length c.args.ground.now.marks.now + c.args.j) (first_behind c.args.ground.now.marks.now c.args.i c.args.j c.requires.first)
          (behind_second c.args.ground.now.marks.now (strand_members c.args.ground.now.normal.now c.args.strands.now.items) c.args.j
          (strand_within c.args.ground.now.normal.now c.args.strands.now.items c.args.j c.requires.second)) t
          (IsPairTaken.excused (monomial_member c.index-ground-i.result) (strand_member c.args.ground.now.normal.now c.index-c.result.now) r.at_i r.at_j
          (inr (subst (λ (z : Exponents). AreCoprime z c.index-c.result.now.mark) (sym c.index-ground-i.is) (c.are_coprime.ensures c.if-are_coprime.true)))
          refl)).turning;
    }
