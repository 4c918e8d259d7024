use Rattle.std.proofs.Common.{List, [], length, arith, sym, subst}
use Rattle.std.proofs.lemmas.List.{nil_from_length}
use Rattle.gf_strands.specs.declared.strands.Part.{Part}
use Rattle.gf_strands.specs.Strands.{ArePartsOnStrands, facet_order, strand_members, terms_of_part, terms_of_parts}
use Rattle.gf_strands.specs.Monomials.{with_monomials}
use Rattle.gf_strand_runs.specs.Turns.{AreUndividedBy, IsEntering, KeepsEntering}
use Rattle.gf_strand_runs.proofs.TurnLaws.{entering-taken}
use Rattle.gf_strand_runs.proofs.JoinedTurns.{undivided-first, undivided-rest}
use Rattle.gf_strand_runs.proofs.turns.enter.Goals as goal

pub list-init : goal.list-init
list-init c = record {
  kept = subst (λ (z : List Part). KeepsEntering (facet_order c.args.ground.now.normal.now) (length c.args.ground.now.normal.now)
      (terms_of_parts c.args.ground.now.normal.now c.args.list.items)
      (with_monomials c.args.ground.now.marks.now (strand_members c.args.ground.now.normal.now c.args.strands.now.items))
      (terms_of_parts c.args.ground.now.normal.now z) (with_monomials c.args.ground.now.marks.now
      (strand_members c.args.ground.now.normal.now c.args.strands.now.items))) (sym c.into_iter-part-iterator.ensures.into_iter_gives.0)
      (record { at = λ fs e. e });
  clear = subst (λ (z : List Part). AreUndividedBy (with_monomials c.args.ground.now.marks.now []) (terms_of_parts c.args.ground.now.normal.now z))
      (sym c.into_iter-part-iterator.ensures.into_iter_gives.0) c.requires.clear;
  parts = subst (ArePartsOnStrands c.args.ground.now.normal.now c.args.ground.now.by.now) (sym c.into_iter-part-iterator.ensures.into_iter_gives.0)
      c.requires.parts;
  strands = c.requires.strands;
}

pub take_part-requires-clause-strands : goal.take_part-requires-clause-strands
take_part-requires-clause-strands c = c.list.invariant.strands

pub take_part-requires-clause-part : goal.take_part-requires-clause-part
take_part-requires-clause-part c =
    (subst (ArePartsOnStrands c.args.ground.now.normal.now c.args.ground.now.by.now) c.in-Some.ensures.steps.0 c.list.invariant.parts).0

pub take_part-requires-clause-clear : goal.take_part-requires-clause-clear
take_part-requires-clause-clear c = undivided-first (with_monomials c.args.ground.now.marks.now []) (terms_of_part c.args.ground.now.normal.now c.in-Some.part)
    (terms_of_parts c.args.ground.now.normal.now c.next.new.self.rest.items)
    (subst (λ (z : List Part). AreUndividedBy (with_monomials c.args.ground.now.marks.now []) (terms_of_parts c.args.ground.now.normal.now z))
    c.in-Some.ensures.steps.0 c.list.invariant.clear)

pub list-preserved : goal.list-preserved
list-preserved c = record {
  kept = record {
    at = λ fs e. entering-taken (facet_order c.args.ground.now.normal.now) (length c.args.ground.now.normal.now) fs
        (terms_of_part c.args.ground.now.normal.now c.in-Some.part) (terms_of_parts c.args.ground.now.normal.now c.next.new.self.rest.items)
        (with_monomials c.args.ground.now.marks.now (strand_members c.args.ground.now.normal.now c.list.strands.items))
        (with_monomials c.args.ground.now.marks.now (strand_members c.args.ground.now.normal.now c.take_part.new.strands.items)) c.in_ok-take_part.ensures.taken
        (subst (λ (z : List Part). IsEntering (facet_order c.args.ground.now.normal.now) (length c.args.ground.now.normal.now) fs
        (terms_of_parts c.args.ground.now.normal.now z) (with_monomials c.args.ground.now.marks.now
        (strand_members c.args.ground.now.normal.now c.list.strands.items))) c.in-Some.ensures.steps.0 (c.list.invariant.kept.at fs e));
  };
  clear = undivided-rest (with_monomials c.args.ground.now.marks.now []) (terms_of_part c.args.ground.now.normal.now c.in-Some.part)
      (terms_of_parts c.args.ground.now.normal.now c.next.new.self.rest.items)
      (subst (λ (z : List Part). AreUndividedBy (with_monomials c.args.ground.now.marks.now []) (terms_of_parts c.args.ground.now.normal.now z))
      c.in-Some.ensures.steps.0 c.list.invariant.clear);
  parts = (subst (ArePartsOnStrands c.args.ground.now.normal.now c.args.ground.now.by.now) c.in-Some.ensures.steps.0 c.list.invariant.parts).1;
  strands = c.in_ok-take_part.ensures.strands;
}

pub returns-clause-entering : goal.returns-clause-entering
returns-clause-entering c = subst (λ (z : List Part). KeepsEntering (facet_order c.args.ground.now.normal.now) (length c.args.ground.now.normal.now)
    (terms_of_parts c.args.ground.now.normal.now c.args.list.items)
    (with_monomials c.args.ground.now.marks.now (strand_members c.args.ground.now.normal.now c.args.strands.now.items))
    (terms_of_parts c.args.ground.now.normal.now z) (with_monomials c.args.ground.now.marks.now
    (strand_members c.args.ground.now.normal.now c.list.strands.items)))
    (nil_from_length c.list.part-iterator.rest.items (omega (arith, c.list.part-iterator.rest.ok.0, c.in-None.ensures.steps.0))) c.list.invariant.kept

pub returns-clause-strands : goal.returns-clause-strands
returns-clause-strands c = c.list.invariant.strands
