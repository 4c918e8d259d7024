use Rattle.std.proofs.Common.{Contains, sym, ap, ◌∙◌, subst}
use Rattle.gf_poly.specs.Marking.{MarkedPolynomial}
use Rattle.gf_division.proofs.ReducerLaws.{member_at, members_equal}
use Rattle.gf_lifts.proofs.TopLaws.{untouched_at, monic_member}
use Rattle.gf_flip.proofs.queued.lifted.Goals as goal

pub returns-in-Ok-clause-value : goal.returns-in-Ok-clause-value
returns-in-Ok-clause-value c =
    let m = c.in-Some.ensures.index in
    let h = member_at c.args.by.now c.in-Some.j c.index-by-j.result m.at.within c.index-by-j.is in
    untouched_at c.args.by.now c.args.normal.now c.args.member c.index-by-j.result c.in-Ok.copy c.requires.monic
    (monic_member c.args.by.now c.index-by-j.result c.in-Some.j c.requires.marked m.at.within c.index-by-j.is)
    c.in-Some.ensures.single
    (c.in-Some.j, m.at.within, sym c.index-by-j.is)
    (ap (λ (z : MarkedPolynomial). z.head) (members_equal c.args.by.now c.in-Some.j c.index-by-j.result m.member h m.at) ∙ m.head)
    (c.requires.alone.at c.in-Some.j c.index-by-j.result h c.in-Some.ensures.alone)
    c.in-Ok.ensures

pub returns-in-Ok-clause-copied : goal.returns-in-Ok-clause-copied
returns-in-Ok-clause-copied c = subst (Contains c.args.by.now) (sym c.in-Ok.ensures) (c.in-Some.j, c.in-Some.ensures.index.at.within, sym c.index-by-j.is)
