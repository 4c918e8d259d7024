use Rattle.std.proofs.Common.{IfSome, Bool, List, subst, length}
use Rattle.gf_initial_theory.specs.Lifts.{AreTopLifts}
use Rattle.gf_ideal_theory.proofs.ListLaws.{each_contained}
use Rattle.gf_poly.specs.Polynomial.{HasVariables}
use Rattle.gf_poly.specs.Marking.{MarkedPolynomial}
use Rattle.gf_strands.specs.declared.strands.Strand.{Strand}
use Rattle.gf_strands.specs.Strands.{strand_members, terms_of_parts}
use Rattle.gf_strands.specs.Monomials.{with_monomials, chosen}
use Rattle.gf_flip.proofs.RunSteps.{start_of, entering_of, ground_of, end_later, run_lifts}
use Rattle.gf_strands.proofs.SplitLaws.{split_size, split_alone}
use Rattle.gf_flip.proofs.flips.lifts_of_split.Goals as goal

pub strands_in_turn-requires-clause-ground : goal.strands_in_turn-requires-clause-ground
strands_in_turn-requires-clause-ground c =
    ground_of c.args.ground.now.by.now c.args.ground.now.normal.now c.args.ground.now.marks.now (terms_of_parts c.args.ground.now.normal.now c.args.list.items)
    c.requires.crossing c.requires.bounded
    (start_of c.args.ground.now.by.now c.args.ground.now.normal.now c.args.indices.now c.args.ground.now.marks.now
    (terms_of_parts c.args.ground.now.normal.now c.args.list.items) c.requires.crossing c.requires.split)

pub strands_in_turn-requires-clause-entering : goal.strands_in_turn-requires-clause-entering
strands_in_turn-requires-clause-entering c =
    entering_of c.args.ground.now.by.now c.args.ground.now.normal.now c.args.ground.now.marks.now
    (terms_of_parts c.args.ground.now.normal.now c.args.list.items)
    (start_of c.args.ground.now.by.now c.args.ground.now.normal.now c.args.indices.now c.args.ground.now.marks.now
    (terms_of_parts c.args.ground.now.normal.now c.args.list.items) c.requires.crossing c.requires.split)

pub strands_in_turn-requires-clause-clear : goal.strands_in_turn-requires-clause-clear
strands_in_turn-requires-clause-clear c = (start_of c.args.ground.now.by.now c.args.ground.now.normal.now c.args.indices.now c.args.ground.now.marks.now
    (terms_of_parts c.args.ground.now.normal.now c.args.list.items) c.requires.crossing c.requires.split).clear

pub settled-requires-clause-ground : goal.settled-requires-clause-ground
settled-requires-clause-ground c =
    ground_of c.args.ground.now.by.now c.args.ground.now.normal.now c.args.ground.now.marks.now (terms_of_parts c.args.ground.now.normal.now c.args.list.items)
    c.requires.crossing c.requires.bounded
    (start_of c.args.ground.now.by.now c.args.ground.now.normal.now c.args.indices.now c.args.ground.now.marks.now
    (terms_of_parts c.args.ground.now.normal.now c.args.list.items) c.requires.crossing c.requires.split)

pub settled-requires-clause-apart : goal.settled-requires-clause-apart
settled-requires-clause-apart c = (start_of c.args.ground.now.by.now c.args.ground.now.normal.now c.args.indices.now c.args.ground.now.marks.now
    (terms_of_parts c.args.ground.now.normal.now c.args.list.items) c.requires.crossing c.requires.split).apart

pub settled-requires-clause-later : goal.settled-requires-clause-later
settled-requires-clause-later c =
    end_later c.args.ground.now.by.now c.args.ground.now.normal.now c.args.ground.now.marks.now (terms_of_parts c.args.ground.now.normal.now c.args.list.items)
    (with_monomials c.args.ground.now.marks.now (strand_members c.args.ground.now.normal.now c.in_ok-strands.strands.items))
    (start_of c.args.ground.now.by.now c.args.ground.now.normal.now c.args.indices.now c.args.ground.now.marks.now
    (terms_of_parts c.args.ground.now.normal.now c.args.list.items) c.requires.crossing c.requires.split) c.in_ok-strands.ensures.end

pub chosen_lifts-requires-clause-ground : goal.chosen_lifts-requires-clause-ground
chosen_lifts-requires-clause-ground c =
    ground_of c.args.ground.now.by.now c.args.ground.now.normal.now c.args.ground.now.marks.now (terms_of_parts c.args.ground.now.normal.now c.args.list.items)
    c.requires.crossing c.requires.bounded
    (start_of c.args.ground.now.by.now c.args.ground.now.normal.now c.args.indices.now c.args.ground.now.marks.now
    (terms_of_parts c.args.ground.now.normal.now c.args.list.items) c.requires.crossing c.requires.split)

pub chosen_lifts-requires-clause-set : goal.chosen_lifts-requires-clause-set
chosen_lifts-requires-clause-set c = each_contained (λ (b : MarkedPolynomial). HasVariables (length c.args.ground.now.normal.now) b.poly)
    c.args.ground.now.by.now (λ b k. (c.requires.crossing.basis.arranged.canonical b k).variables)

pub chosen_lifts-requires-clause-size : goal.chosen_lifts-requires-clause-size
chosen_lifts-requires-clause-size c = split_size c.args.ground.now.normal.now c.args.ground.now.by.now c.args.indices.now c.args.ground.now.marks.now
    (terms_of_parts c.args.ground.now.normal.now c.args.list.items) c.requires.split

pub chosen_lifts-requires-clause-alone : goal.chosen_lifts-requires-clause-alone
chosen_lifts-requires-clause-alone c = split_alone c.args.ground.now.normal.now c.args.ground.now.by.now c.args.indices.now c.args.ground.now.marks.now
    (terms_of_parts c.args.ground.now.normal.now c.args.list.items) c.requires.split

pub returns : goal.returns
returns c =
    run_lifts c.args.ground.now.by.now c.args.ground.now.normal.now c.args.ground.now.marks.now (terms_of_parts c.args.ground.now.normal.now c.args.list.items)
    (with_monomials c.args.ground.now.marks.now (strand_members c.args.ground.now.normal.now c.in_ok-strands.strands.items))
    (chosen c.in_ok-flags.flags.items (with_monomials c.args.ground.now.marks.now (strand_members c.args.ground.now.normal.now c.settled.new.strands.items)))
    c.chosen_lifts.result
    (start_of c.args.ground.now.by.now c.args.ground.now.normal.now c.args.indices.now c.args.ground.now.marks.now
    (terms_of_parts c.args.ground.now.normal.now c.args.list.items) c.requires.crossing c.requires.split) c.in_ok-strands.ensures.end
    c.in_ok-flags.ensures.basis
    (subst (λ (z : List Strand). IfSome c.chosen_lifts.result (λ ls. AreTopLifts c.args.ground.now.by.now c.args.ground.now.normal.now
    (chosen c.in_ok-flags.flags.items (with_monomials c.args.ground.now.marks.now (strand_members c.args.ground.now.normal.now z))) ls.members.items))
    c.deref.ensures.value
    (subst (λ (z : List Bool). IfSome c.chosen_lifts.result (λ ls. AreTopLifts c.args.ground.now.by.now c.args.ground.now.normal.now
    (chosen z (with_monomials c.args.ground.now.marks.now (strand_members c.args.ground.now.normal.now c.deref.result.now))) ls.members.items))
    c.deref-2.ensures.value c.chosen_lifts.ensures.value))
    c.chosen_lifts.ensures.variables c.chosen_lifts.ensures.copied
