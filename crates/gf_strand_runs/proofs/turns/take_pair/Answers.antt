use Rattle.std.proofs.Common.{[], ℕ, List, ◌+◌, length, take, arith, ap, refl, sym, subst, ◌∙◌}
use Rattle.std.proofs.lemmas.Option.{IfSome_then}
use Rattle.gf_exponents_theory.specs.Exponents.{Exponents, join}
use Rattle.gf_poly.specs.Marking.{HaveVariables}
use Rattle.gf_ideal_theory.proofs.ListLaws.{contained_each}
use Rattle.gf_strands.specs.declared.strands.Point.{Point}
use Rattle.gf_strands.specs.Strands.{IsStrandOf, IsSubtracted, facet_order, strand_member, strand_members}
use Rattle.gf_strands.specs.Monomials.{with_monomials}
use Rattle.gf_strand_runs.specs.Turns.{IsChained, IsPairTaken}
use Rattle.gf_strand_runs.proofs.StrandTurns.{strand_within, strands_more, read_strands, front_width, chained_strands, wide_join, whole_is, two_strands}
use Rattle.gf_strand_runs.proofs.StrandTurns.{two_strands_on}
use Rattle.gf_strand_runs.proofs.StrandTurns.{turned_strand}
use Rattle.gf_strand_runs.proofs.TurnLaws.{turned_on}
use Rattle.gf_strand_runs.proofs.JoinedTurns.{pair_behind, behind_second, behind_size}
use Rattle.gf_strand_runs.proofs.turns.take_pair.Goals as goal

pub is_chained-requires-clause-monomials : goal.is_chained-requires-clause-monomials
is_chained-requires-clause-monomials c =
    let p = (contained_each (IsStrandOf c.args.ground.now.normal.now c.args.ground.now.by.now) c.args.strands.now.items c.requires.strands c.index-b.result.now
    (c.args.i, omega (arith, c.requires.pair, c.requires.second), sym c.index-b.ensures)).0 in
    let q = (contained_each (IsStrandOf c.args.ground.now.normal.now c.args.ground.now.by.now) c.args.strands.now.items c.requires.strands c.index-c.result.now
    (c.args.j, c.requires.second, sym c.index-c.ensures)).0 in
    subst (λ (k : ℕ). HaveVariables k (with_monomials c.args.ground.now.marks.now [])) (sym (ap (λ (z : Exponents). length z) c.lcm-multiple.ensures ∙
    wide_join (length c.args.ground.now.normal.now) c.index-b.result.now.mark c.index-c.result.now.mark p.width q.width)) c.requires.ground.marks

pub is_chained-requires-clause-strands : goal.is_chained-requires-clause-strands
is_chained-requires-clause-strands c =
    let p = (contained_each (IsStrandOf c.args.ground.now.normal.now c.args.ground.now.by.now) c.args.strands.now.items c.requires.strands c.index-b.result.now
    (c.args.i, omega (arith, c.requires.pair, c.requires.second), sym c.index-b.ensures)).0 in
    let q = (contained_each (IsStrandOf c.args.ground.now.normal.now c.args.ground.now.by.now) c.args.strands.now.items c.requires.strands c.index-c.result.now
    (c.args.j, c.requires.second, sym c.index-c.ensures)).0 in
    front_width c.args.ground.now.normal.now c.args.ground.now.by.now c.args.strands.now.items c.deref.result.now c.args.i c.lcm-multiple.result
    c.deref.ensures.value (ap (λ (z : Exponents). length z) c.lcm-multiple.ensures ∙ wide_join (length c.args.ground.now.normal.now)
    c.index-b.result.now.mark c.index-c.result.now.mark p.width q.width) c.requires.strands

pub returns-then-is_chained-clause-turning : goal.returns-then-is_chained-clause-turning
returns-then-is_chained-clause-turning c =
    let r = read_strands c.args.ground.now.normal.now c.args.ground.now.marks.now c.args.strands.now.items c.args.i c.args.j c.index-b.result.now
    c.index-c.result.now c.requires.pair c.requires.second c.index-b.ensures c.index-c.ensures in
    let k = chained_strands c.args.ground.now.normal.now c.args.ground.now.marks.now c.args.strands.now.items c.deref.result.now c.args.i
    (join c.index-b.result.now.mark c.index-c.result.now.mark) c.deref.ensures.value
    (subst (IsChained (with_monomials c.args.ground.now.marks.now (strand_members c.args.ground.now.normal.now (take c.args.i c.deref.result.now))))
    c.lcm-multiple.ensures (c.is_chained.ensures c.args.ground.now.normal.now c.if-is_chained.true)) in
    record {
      at = λ fs t. (turned_on (facet_order c.args.ground.now.normal.now) (length c.args.ground.now.normal.now) fs
          (with_monomials c.args.ground.now.marks.now (strand_members c.args.ground.now.normal.now c.args.strands.now.items))
          (with_monomials c.args.ground.now.marks.now (strand_members c.args.ground.now.normal.now c.args.strands.now.items))
          (length c.args.ground.now.marks.now + c.args.i) (length c.args.ground.now.marks.now + c.args.j) (pair_behind c.args.ground.now.marks.now c.args.i
          c.args.j c.requires.pair) (behind_second c.args.ground.now.marks.now (strand_members c.args.ground.now.normal.now c.args.strands.now.items) c.args.j
          (strand_within c.args.ground.now.normal.now c.args.strands.now.items c.args.j c.requires.second)) t
          (IsPairTaken.chained (strand_member c.args.ground.now.normal.now c.index-b.result.now)
          (strand_member c.args.ground.now.normal.now c.index-c.result.now)
          r.at_i r.at_j k refl)).turning;
    }

pub take_in-requires-clause-base : goal.take_in-requires-clause-base
take_in-requires-clause-base c =
    let p = (contained_each (IsStrandOf c.args.ground.now.normal.now c.args.ground.now.by.now) c.args.strands.now.items c.requires.strands c.index-b.result.now
    (c.args.i, omega (arith, c.requires.pair, c.requires.second), sym c.index-b.ensures)).0 in
    let q = (contained_each (IsStrandOf c.args.ground.now.normal.now c.args.ground.now.by.now) c.args.strands.now.items c.requires.strands c.index-c.result.now
    (c.args.j, c.requires.second, sym c.index-c.ensures)).0 in
    ap (λ (z : Exponents). length z) c.lcm-multiple.ensures ∙ wide_join (length c.args.ground.now.normal.now)
    c.index-b.result.now.mark c.index-c.result.now.mark p.width q.width

pub take_in-requires-clause-on : goal.take_in-requires-clause-on
take_in-requires-clause-on c =
    let p = (contained_each (IsStrandOf c.args.ground.now.normal.now c.args.ground.now.by.now) c.args.strands.now.items c.requires.strands c.index-b.result.now
    (c.args.i, omega (arith, c.requires.pair, c.requires.second), sym c.index-b.ensures)).0 in
    let q = (contained_each (IsStrandOf c.args.ground.now.normal.now c.args.ground.now.by.now) c.args.strands.now.items c.requires.strands c.index-c.result.now
    (c.args.j, c.requires.second, sym c.index-c.ensures)).0 in
    let s = subst (λ (z : List Point). IsSubtracted c.whole.result z c.index-b.result.now.rest.items c.subtract.new.work.items) c.deref-3.ensures.value
    (subst (λ (z : List Point). IsSubtracted c.whole.result c.deref-3.result.now z c.subtract.new.work.items)
    (c.in_ok-points.ensures ∙ c.deref-2.ensures.value) c.in_ok-subtract.ensures) in
    let one = whole_is c.whole.result c.whole.ensures.k c.whole.ensures.coef in
    two_strands_on c.args.ground.now.normal.now c.lcm-multiple.result c.index-b.result.now c.index-c.result.now c.whole.result c.subtract.new.work.items
    (p.width ∙ sym q.width) c.lcm-multiple.ensures p.on q.on one s

pub returns-clause-turning : goal.returns-clause-turning
returns-clause-turning c =
    let r = read_strands c.args.ground.now.normal.now c.args.ground.now.marks.now c.args.strands.now.items c.args.i c.args.j c.index-b.result.now
    c.index-c.result.now c.requires.pair c.requires.second c.index-b.ensures c.index-c.ensures in
    let p = (contained_each (IsStrandOf c.args.ground.now.normal.now c.args.ground.now.by.now) c.args.strands.now.items c.requires.strands c.index-b.result.now
    (c.args.i, omega (arith, c.requires.pair, c.requires.second), sym c.index-b.ensures)).0 in
    let q = (contained_each (IsStrandOf c.args.ground.now.normal.now c.args.ground.now.by.now) c.args.strands.now.items c.requires.strands c.index-c.result.now
    (c.args.j, c.requires.second, sym c.index-c.ensures)).0 in
    let s = subst (λ (z : List Point). IsSubtracted c.whole.result z c.index-b.result.now.rest.items c.subtract.new.work.items) c.deref-3.ensures.value
    (subst (λ (z : List Point). IsSubtracted c.whole.result c.deref-3.result.now z c.subtract.new.work.items)
    (c.in_ok-points.ensures ∙ c.deref-2.ensures.value) c.in_ok-subtract.ensures) in
    let one = whole_is c.whole.result c.whole.ensures.k c.whole.ensures.coef in
    IfSome_then c.take_in.result c.take_in.ensures.taken (λ _ h. record {
      at = λ fs t. (turned_strand (facet_order c.args.ground.now.normal.now) (length c.args.ground.now.normal.now) fs
          (with_monomials c.args.ground.now.marks.now (strand_members c.args.ground.now.normal.now c.args.strands.now.items))
          (with_monomials c.args.ground.now.marks.now (strand_members c.args.ground.now.normal.now c.take_in.new.strands.items))
          (length c.args.ground.now.marks.now + c.args.i) (length c.args.ground.now.marks.now + c.args.j) (strand_member c.args.ground.now.normal.now
          c.index-b.result.now) (strand_member c.args.ground.now.normal.now c.index-c.result.now) c.args.ground.now.normal.now c.lcm-multiple.result
          c.subtract.new.work.items (pair_behind c.args.ground.now.marks.now c.args.i c.args.j c.requires.pair)
          (behind_second c.args.ground.now.marks.now (strand_members c.args.ground.now.normal.now c.args.strands.now.items) c.args.j
          (strand_within c.args.ground.now.normal.now c.args.strands.now.items c.args.j c.requires.second)) t r (p.width ∙ sym q.width) c.lcm-multiple.ensures
          (two_strands c.args.ground.now.normal.now c.lcm-multiple.result c.index-b.result.now c.index-c.result.now c.whole.result c.subtract.new.work.items
          (p.width ∙ sym q.width) c.lcm-multiple.ensures p.on q.on one s) h).turning;
    })

pub returns-clause-kept : goal.returns-clause-kept
returns-clause-kept c =
    let r = read_strands c.args.ground.now.normal.now c.args.ground.now.marks.now c.args.strands.now.items c.args.i c.args.j c.index-b.result.now
    c.index-c.result.now c.requires.pair c.requires.second c.index-b.ensures c.index-c.ensures in
    let p = (contained_each (IsStrandOf c.args.ground.now.normal.now c.args.ground.now.by.now) c.args.strands.now.items c.requires.strands c.index-b.result.now
    (c.args.i, omega (arith, c.requires.pair, c.requires.second), sym c.index-b.ensures)).0 in
    let q = (contained_each (IsStrandOf c.args.ground.now.normal.now c.args.ground.now.by.now) c.args.strands.now.items c.requires.strands c.index-c.result.now
    (c.args.j, c.requires.second, sym c.index-c.ensures)).0 in
    let s = subst (λ (z : List Point). IsSubtracted c.whole.result z c.index-b.result.now.rest.items c.subtract.new.work.items) c.deref-3.ensures.value
    (subst (λ (z : List Point). IsSubtracted c.whole.result c.deref-3.result.now z c.subtract.new.work.items)
    (c.in_ok-points.ensures ∙ c.deref-2.ensures.value) c.in_ok-subtract.ensures) in
    let one = whole_is c.whole.result c.whole.ensures.k c.whole.ensures.coef in
    IfSome_then c.take_in.result c.take_in.ensures.taken (λ _ h. (turned_strand (facet_order c.args.ground.now.normal.now) (length c.args.ground.now.normal.now)
    c.requires.turning.polynomials (with_monomials c.args.ground.now.marks.now (strand_members c.args.ground.now.normal.now c.args.strands.now.items))
    (with_monomials c.args.ground.now.marks.now (strand_members c.args.ground.now.normal.now c.take_in.new.strands.items))
    (length c.args.ground.now.marks.now + c.args.i) (length c.args.ground.now.marks.now + c.args.j) (strand_member c.args.ground.now.normal.now
    c.index-b.result.now) (strand_member c.args.ground.now.normal.now c.index-c.result.now) c.args.ground.now.normal.now c.lcm-multiple.result
    c.subtract.new.work.items (pair_behind c.args.ground.now.marks.now c.args.i c.args.j c.requires.pair)
    (behind_second c.args.ground.now.marks.now (strand_members c.args.ground.now.normal.now c.args.strands.now.items) c.args.j
    (strand_within c.args.ground.now.normal.now c.args.strands.now.items c.args.j c.requires.second)) c.requires.turning.turning r (p.width ∙ sym q.width)
    c.lcm-multiple.ensures (two_strands c.args.ground.now.normal.now c.lcm-multiple.result c.index-b.result.now c.index-c.result.now c.whole.result
    c.subtract.new.work.items (p.width ∙ sym q.width) c.lcm-multiple.ensures p.on q.on one s) h).kept)

pub returns-clause-size : goal.returns-clause-size
returns-clause-size c =
    let r = read_strands c.args.ground.now.normal.now c.args.ground.now.marks.now c.args.strands.now.items c.args.i c.args.j c.index-b.result.now
    c.index-c.result.now c.requires.pair c.requires.second c.index-b.ensures c.index-c.ensures in
    let p = (contained_each (IsStrandOf c.args.ground.now.normal.now c.args.ground.now.by.now) c.args.strands.now.items c.requires.strands c.index-b.result.now
    (c.args.i, omega (arith, c.requires.pair, c.requires.second), sym c.index-b.ensures)).0 in
    let q = (contained_each (IsStrandOf c.args.ground.now.normal.now c.args.ground.now.by.now) c.args.strands.now.items c.requires.strands c.index-c.result.now
    (c.args.j, c.requires.second, sym c.index-c.ensures)).0 in
    let s = subst (λ (z : List Point). IsSubtracted c.whole.result z c.index-b.result.now.rest.items c.subtract.new.work.items) c.deref-3.ensures.value
    (subst (λ (z : List Point). IsSubtracted c.whole.result c.deref-3.result.now z c.subtract.new.work.items)
    (c.in_ok-points.ensures ∙ c.deref-2.ensures.value) c.in_ok-subtract.ensures) in
    let one = whole_is c.whole.result c.whole.ensures.k c.whole.ensures.coef in
    IfSome_then c.take_in.result c.take_in.ensures.taken (λ _ h. strands_more c.args.ground.now.normal.now c.args.strands.now.items c.take_in.new.strands.items
    (behind_size c.args.ground.now.marks.now (strand_members c.args.ground.now.normal.now c.args.strands.now.items)
    (strand_members c.args.ground.now.normal.now c.take_in.new.strands.items) (turned_strand (facet_order c.args.ground.now.normal.now)
    (length c.args.ground.now.normal.now) c.requires.turning.polynomials
    (with_monomials c.args.ground.now.marks.now (strand_members c.args.ground.now.normal.now c.args.strands.now.items))
    (with_monomials c.args.ground.now.marks.now (strand_members c.args.ground.now.normal.now c.take_in.new.strands.items))
    (length c.args.ground.now.marks.now + c.args.i) (length c.args.ground.now.marks.now + c.args.j) (strand_member c.args.ground.now.normal.now
    c.index-b.result.now) (strand_member c.args.ground.now.normal.now c.index-c.result.now) c.args.ground.now.normal.now c.lcm-multiple.result
    c.subtract.new.work.items (pair_behind c.args.ground.now.marks.now c.args.i c.args.j c.requires.pair)
    (behind_second c.args.ground.now.marks.now (strand_members c.args.ground.now.normal.now c.args.strands.now.items) c.args.j
    (strand_within c.args.ground.now.normal.now c.args.strands.now.items c.args.j c.requires.second)) c.requires.turning.turning r (p.width ∙ sym q.width)
    c.lcm-multiple.ensures (two_strands c.args.ground.now.normal.now c.lcm-multiple.result c.index-b.result.now c.index-c.result.now c.whole.result
    c.subtract.new.work.items (p.width ∙ sym q.width) c.lcm-multiple.ensures p.on q.on one s) h).size))
