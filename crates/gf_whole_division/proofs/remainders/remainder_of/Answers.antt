use Rattle.std.proofs.Common.{refl}
use Rattle.gf_whole_division.specs.Reductions.{terms_of}
use Rattle.gf_whole_division.specs.Values.{whole_terms}
use Rattle.gf_whole_division.proofs.ReductionLaws.{remainder_left}
use Rattle.gf_whole_division.proofs.remainders.remainder_of.Goals as goal

pub returns-then-have_variables-clause-remainder : goal.returns-then-have_variables-clause-remainder
returns-then-have_variables-clause-remainder c = λ f m.
    remainder_left c.args.by.now f (whole_terms c.args.start.items) (terms_of c.new-rest.result)
    (terms_of c.worked_off.new.rest) c.into_terms-left.result.items c.deref.result.now c.deref-2.result.now
    c.in_ok-narrow.narrow c.new-rest.ensures c.in_ok-worked_off.ensures.reached c.into_terms-left.ensures c.deref.ensures.value
    (c.if-not-is_irreducible.ensures refl) c.deref-2.ensures.value
    c.in_ok-narrow.ensures m
