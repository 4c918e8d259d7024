use Rattle.std.proofs.Common.{ℕ, List, sym, subst, IfSome}
use Rattle.std.specs.declared.option.Option.{Option}
use Rattle.std.proofs.lemmas.Option.{IfSome_then}
use Rattle.gf_poly.specs.Marking.{Each}
use Rattle.gf_strands.specs.declared.strands.Strand.{Strand}
use Rattle.gf_strands.specs.declared.strands.Point.{Point}
use Rattle.gf_strands.specs.Strands.{HasOrigin, moved}
use Rattle.gf_strands.specs.Forms.{NoStrandFrom}
use Rattle.gf_strands.proofs.FormLaws.{none_below, taken_part, strands_more, origin_of}
use Rattle.gf_strands.proofs.forms.take_part.Goals as goal

pub returns-then-are_left-clause-taken : goal.returns-then-are_left-clause-taken
returns-then-are_left-clause-taken c = IfSome_then c.push_strand.result c.push_strand.ensures
    (λ u e. taken_part c.args.ground.now.normal.now c.args.ground.now.marks.now c.args.strands.now.items c.push_strand.new.strands.items c.args.part
    c.in_ok-strand.strand
    c.requires.ground c.requires.part.width c.requires.clear
    (none_below c.args.ground.now.normal.now c.args.part.base c.args.strands.now.items c.args.part.points.items
    (subst (λ (z : List Strand). Each (λ (q : Point). NoStrandFrom z 0 (moved c.args.ground.now.normal.now c.args.part.base q.k)) c.args.part.points.items)
    c.deref-2.ensures.value
    (subst (λ (z : List Point). Each (λ (q : Point). NoStrandFrom c.deref-2.result.now 0 (moved c.args.ground.now.normal.now c.args.part.base q.k)) z)
    c.deref.ensures.value (c.are_left.ensures c.if-are_left.true))))
    c.in_ok-strand.ensures.value e)

pub returns-then-are_left-clause-strands : goal.returns-then-are_left-clause-strands
returns-then-are_left-clause-strands c = IfSome_then c.push_strand.result c.push_strand.ensures
    (λ u e. strands_more c.args.ground.now.normal.now c.args.ground.now.by.now c.args.strands.now.items c.push_strand.new.strands.items c.in_ok-strand.strand
    c.requires.strands c.in_ok-strand.ensures.value.strand
    (subst (λ (o : Option ℕ). IfSome o (HasOrigin c.args.ground.now.normal.now c.args.ground.now.by.now c.in_ok-strand.strand))
    (sym c.in_ok-strand.ensures.origin)
    (origin_of c.args.ground.now.normal.now c.args.ground.now.by.now c.args.part c.in_ok-strand.strand c.requires.ground.nonzero c.requires.part
    c.in_ok-strand.ensures.value)) e)
