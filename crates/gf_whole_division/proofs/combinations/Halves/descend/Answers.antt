use Rattle.gf_frac.specs.Fraction.{whole}
use Rattle.gf_whole_division.proofs.CombinationLaws.{moved_refl, moved_trans}
use Rattle.gf_whole_division.proofs.combinations.Halves.descend.Goals as goal

pub terms-init : goal.terms-init
terms-init c = moved_refl (whole c.args.by.now) c.args.self.now

pub terms-preserved : goal.terms-preserved
terms-preserved c =
    moved_trans (whole c.args.by.now) c.args.self.now c.terms.self c.pass.new.self c.terms.invariant c.in_ok-pass.ensures.moved

pub terms-smaller : goal.terms-smaller
terms-smaller c = c.in_ok-pass.ensures.shorter (c.is_next_greater.ensures c.terms-test.true)
