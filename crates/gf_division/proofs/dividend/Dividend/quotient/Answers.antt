use Rattle.std.proofs.Common.{ap, ◌∙◌, length}
use Rattle.gf_poly.proofs.MonomialLaws.{length-minus}
use Rattle.gf_division.specs.Dividends.{split_of}
use Rattle.gf_division.proofs.DividendLaws.{first_coefficient, first_nonzero, first_length}
use Rattle.gf_division.proofs.dividend.Dividend.quotient.Goals as goal

pub quotient-requires-clause-same_variables : goal.quotient-requires-clause-same_variables
quotient-requires-clause-same_variables c = first_length _ (split_of c.args.self.now) c.in-Some.t.now c.requires.sound c.in-Some.ensures

pub returns-clause-coefficient : goal.returns-clause-coefficient
returns-clause-coefficient c = first_coefficient _ (split_of c.args.self.now) c.in-Some.t.now c.requires.sound c.in-Some.ensures

pub returns-clause-nonzero : goal.returns-clause-nonzero
returns-clause-nonzero c = first_nonzero _ (split_of c.args.self.now) c.in-Some.t.now c.requires.sound c.in-Some.ensures

pub returns-clause-variables : goal.returns-clause-variables
returns-clause-variables c =
    let e = first_length _ (split_of c.args.self.now) c.in-Some.t.now c.requires.sound c.in-Some.ensures in
    ap length c.quotient.ensures.value ∙ length-minus c.in-Some.t.now.mono c.args.by.now e ∙ e
