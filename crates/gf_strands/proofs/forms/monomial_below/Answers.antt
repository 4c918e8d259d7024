use Rattle.std.proofs.Common.{[], length, sym, ◌∙◌}
use Rattle.std.proofs.lemmas.Bool.{false≢true}
use Rattle.gf_strands.proofs.MonomialLaws.{front_variables}
use Rattle.gf_strands.proofs.FormLaws.{undivided-none, undivided-more, undivided_end, monomial_for}
use Rattle.gf_strands.proofs.forms.monomial_below.Goals as goal

pub marks-init : goal.marks-init
marks-init c = undivided-none c.args.marks.now c.args.x.now

pub divides-requires : goal.divides-requires
divides-requires c = front_variables (length c.args.x.now) c.args.marks.now [] c.marks.j c.index-marks-j.result c.requires c.marks-test.true c.index-marks-j.is

pub returns-then-divides-clause-found : goal.returns-then-divides-clause-found
returns-then-divides-clause-found c = monomial_for c.args.marks.now c.marks.j c.args.x.now c.index-marks-j.result c.marks-test.true c.index-marks-j.is
    (c.divides.ensures.0 c.if-divides.true) c.marks.invariant

pub marks-preserved : goal.marks-preserved
marks-preserved c = undivided-more c.args.marks.now c.marks.j c.args.x.now c.index-marks-j.result c.marks-test.true c.index-marks-j.is
    (λ d. false≢true (sym c.if-divides.false ∙ c.divides.ensures.1 d)) c.marks.invariant

pub returns-clause-none : goal.returns-clause-none
returns-clause-none c = undivided_end c.args.marks.now c.marks.j c.args.x.now c.marks-test.false c.marks.invariant
