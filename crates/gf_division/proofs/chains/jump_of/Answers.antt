use Rattle.std.proofs.Common.{sym, ap, ◌∙◌, length}
use Rattle.gf_division.specs.Dividends.{split_of}
use Rattle.gf_division.proofs.ChainLaws.{jump_made, mark_length}
use Rattle.gf_division.proofs.chains.jump_of.Goals as goal

pub reach-steps-requires : goal.reach-steps-requires
reach-steps-requires c = c.requires.found.divisor.at.within

pub are_missed-requires : goal.are_missed-requires
are_missed-requires c = c.requires.found.divisor.at.within

pub divides-requires : goal.divides-requires
divides-requires c =
    mark_length c.args.by.now c.args.j c.args.spared.now (split_of c.args.rest.now) c.index-by-j.result c.in_ok-first.first.now c.head-mark.result.now
    c.requires.found c.index-by-j.is c.in_ok-first.ensures c.head-mark.ensures.value
    ∙ sym (sym (ap length c.exponents-z.ensures.value) ∙ c.are_along.ensures.variables c.if-not-are_along.false ∙ ap length c.exponents-e.ensures.value)

pub has_room-requires : goal.has_room-requires
has_room-requires c = c.requires.variables.sound.descending

pub turned-coef-requires : goal.turned-coef-requires
turned-coef-requires c = c.in_ok-other.ensures.unit

pub returns : goal.returns
returns c = jump_made c.args.by.now c.args.j c.args.spared.now (split_of c.args.rest.now) c.reach-steps.result c.index-by-j.result c.in_ok-first.first.now
    c.in_ok-other.other.now (record { coef = c.turned-coef.result; mono = c.in_ok-end.end }) c.head-mark.result.now c.exponents-l.result.now
    c.exponents-t.result.now c.exponents-e.result.now c.exponents-z.result.now c.requires.found c.index-by-j.is c.in_ok-other.ensures c.in_ok-first.ensures
    c.head-mark.ensures.value c.exponents-l.ensures.value c.exponents-t.ensures.value c.exponents-e.ensures.value c.exponents-z.ensures.value
    (c.are_along.ensures.along c.if-not-are_along.false) (c.are_along.ensures.variables c.if-not-are_along.false) (c.divides.ensures.0 c.if-not-divides.false)
    (c.are_missed.ensures c.if-not-are_missed.false) (c.is_spare_outside.ensures c.if-not-is_spare_outside.false) (c.has_room.ensures c.if-not-has_room.false)
    c.exponents-z.ensures.valid c.turned-coef.ensures
