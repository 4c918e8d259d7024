use Rattle.std.proofs.Common.{refl, ◌∙◌}
use Rattle.gf_division.proofs.ReducerLaws.{member_at}
use Rattle.gf_reduced.proofs.TermLaws.{head_variables, term_variables, term_lengths, searched_none, searched_next, found_at_head, found_in_terms, no_offence_in}
use Rattle.gf_reduced.proofs.terms.offending_of.Goals as goal

pub is_divided-requires : goal.is_divided-requires
is_divided-requires c = head_variables c.requires.variables.n c.args.items.now c.args.i c.index-items-i.result c.head-head.result.now c.requires.variables.each
    (member_at c.args.items.now c.args.i c.index-items-i.result c.requires.within c.index-items-i.is) c.head-head.ensures.marked c.head-head.ensures.value

pub returns-then-is_divided-clause-some : goal.returns-then-is_divided-clause-some
returns-then-is_divided-clause-some c = found_at_head c.args.items.now c.args.i c.index-items-i.result c.head-head.result.now _
    (member_at c.args.items.now c.args.i c.index-items-i.result c.requires.within c.index-items-i.is) c.head-head.ensures.value c.copy.ensures
    (c.is_divided.ensures.yes c.if-is_divided.true)

pub terms-init : goal.terms-init
terms-init c = searched_none c.args.items.now c.args.i (record { poly = c.terms-terms.result.now; head = c.head-head.result.now })
    c.head-head.result.now c.terms-terms.result.now refl (c.is_divided.ensures.no c.if-is_divided.false)

pub offends_in_tail-requires-clause-lengths : goal.offends_in_tail-requires-clause-lengths
offends_in_tail-requires-clause-lengths c = term_lengths c.requires.variables.n c.args.items.now c.args.i c.index-items-i.result c.head-head.result.now
    c.terms-terms.result.now c.terms.k c.index-terms-k.result c.requires.variables.each
    (member_at c.args.items.now c.args.i c.index-items-i.result c.requires.within c.index-items-i.is) c.head-head.ensures.marked c.head-head.ensures.value
    (c.terms-terms.ensures.value ∙ c.poly.ensures) c.terms-test.true c.index-terms-k.is

pub offends_in_tail-requires-clause-variables : goal.offends_in_tail-requires-clause-variables
offends_in_tail-requires-clause-variables c = term_variables c.requires.variables.n c.args.items.now c.args.i c.index-items-i.result c.terms-terms.result.now
    c.terms.k c.index-terms-k.result c.requires.variables.each (member_at c.args.items.now c.args.i c.index-items-i.result c.requires.within c.index-items-i.is)
    (c.terms-terms.ensures.value ∙ c.poly.ensures) c.terms-test.true c.index-terms-k.is

pub returns-then-offends_in_tail-clause-some : goal.returns-then-offends_in_tail-clause-some
returns-then-offends_in_tail-clause-some c = found_in_terms c.args.items.now c.args.i c.index-items-i.result c.head-head.result.now c.terms-terms.result.now
    c.terms.k c.index-terms-k.result _ (member_at c.args.items.now c.args.i c.index-items-i.result c.requires.within c.index-items-i.is)
    c.head-head.ensures.value (c.terms-terms.ensures.value ∙ c.poly.ensures) c.terms-test.true c.index-terms-k.is c.copy-then-offends_in_tail.ensures
    (c.offends_in_tail.ensures.different c.if-offends_in_tail.true) (c.offends_in_tail.ensures.divided c.if-offends_in_tail.true) c.terms.invariant

pub terms-preserved : goal.terms-preserved
terms-preserved c = searched_next c.args.items.now c.args.i (record { poly = c.terms-terms.result.now; head = c.head-head.result.now })
    c.terms-terms.result.now c.terms.k c.index-terms-k.result c.head-head.result.now c.terms-test.true c.index-terms-k.is refl
    (c.offends_in_tail.ensures.no c.if-offends_in_tail.false) c.terms.invariant

pub returns-clause-none : goal.returns-clause-none
returns-clause-none c = no_offence_in c.args.items.now c.args.i c.index-items-i.result c.head-head.result.now c.terms-terms.result.now c.terms.k
    (member_at c.args.items.now c.args.i c.index-items-i.result c.requires.within c.index-items-i.is) c.head-head.ensures.value
    (c.terms-terms.ensures.value ∙ c.poly.ensures) c.terms-test.false c.terms.invariant
