use Rattle.std.proofs.Common.{◌≡◌, None, refl, sym, ap, ◌∙◌}
use Rattle.std.proofs.lemmas.List.{get_or_default}
use Rattle.gf_strands.specs.declared.strands.Strand.{Strand}
use Rattle.gf_strand_runs.proofs.SettlingLaws.{tail_kept, tail_reduced, strands_put}
use Rattle.gf_strand_runs.proofs.reduction.settle_tail.Goals as goal

pub returns-then-are_left-clause-settled : goal.returns-then-are_left-clause-settled
returns-then-are_left-clause-settled c = tail_kept c.args.ground.now.normal.now c.args.ground.now.marks.now c.args.strands.now.items c.deref-2.result.now
    c.args.j
    c.index-strand.result.now c.deref.result.now c.index-strand.ensures c.deref-2.ensures.value c.deref.ensures.value (c.are_left.ensures c.if-are_left.true)

pub returns-clause-settled : goal.returns-clause-settled
returns-clause-settled c =
    let same : c.index_mut-strand.result.now ≡ c.index-strand.result.now = c.index_mut-strand.ensures.value ∙ get_or_default c.args.strands.now.items c.args.j
    c.index_mut-strand.result.now c.index-strand.result.now c.requires.within ∙ sym c.index-strand.ensures in
    tail_reduced c.args.ground.now.normal.now c.args.ground.now.marks.now c.args.strands.now.items c.deref-4.result.now c.args.j c.index-strand.result.now
    (record { mark = c.index_mut-strand.result.now.mark; rest = c.in_ok-rest.rest; origin = None }) c.in_ok-points.points.items
    c.requires.within c.index-strand.ensures c.deref-4.ensures.value (c.in_ok-points.ensures ∙ c.deref-3.ensures.value) (ap (λ (z : Strand). z.mark) same)
    c.in_ok-rest.ensures.value

pub returns-clause-strands : goal.returns-clause-strands
returns-clause-strands c =
    let same : c.index_mut-strand.result.now ≡ c.index-strand.result.now = c.index_mut-strand.ensures.value ∙ get_or_default c.args.strands.now.items c.args.j
    c.index_mut-strand.result.now c.index-strand.result.now c.requires.within ∙ sym c.index-strand.ensures in
    strands_put c.args.ground.now.normal.now c.args.ground.now.by.now c.args.strands.now.items c.args.j c.index-strand.result.now
    (record { mark = c.index_mut-strand.result.now.mark; rest = c.in_ok-rest.rest; origin = None }) c.in_ok-points.points.items
    c.requires.strands c.requires.within c.index-strand.ensures (c.in_ok-points.ensures ∙ c.deref-3.ensures.value) (ap (λ (z : Strand). z.mark) same)
    refl c.in_ok-rest.ensures.on c.in_ok-rest.ensures.further c.in_ok-rest.ensures.falling
