use Rattle.std.proofs.Common.{[], ℕ, ◌+◌, length, take, map, arith, ap, refl, sym, subst, ◌∙◌}
use Rattle.std.proofs.lemmas.Option.{IfSome_then}
use Rattle.gf_exponents_theory.specs.Exponents.{Exponents, Divides, join}
use Rattle.gf_poly.specs.Marking.{Each, HaveVariables}
use Rattle.gf_ideal_theory.proofs.ListLaws.{contained_each}
use Rattle.gf_strands.specs.declared.strands.Point.{Point}
use Rattle.gf_strands.specs.Strands.{AreFalling, AreSpots, IsStrandOf, facet_order, strand_member, strand_members, moved, negated_point}
use Rattle.gf_strands.specs.Monomials.{monomial_member, with_monomials}
use Rattle.gf_strands.specs.Forms.{HasCover}
use Rattle.gf_strand_runs.specs.Turns.{IsPairTaken}
use Rattle.gf_strand_runs.proofs.CoverLaws.{join_right}
use Rattle.gf_strand_runs.proofs.StrandTurns.{strand_within, strands_more, read_strand, wide_join, on_multiple, cover_of_strand, negated_on, negated_falling}
use Rattle.gf_strand_runs.proofs.StrandTurns.{monomial_strand}
use Rattle.gf_strand_runs.proofs.StrandTurns.{turned_strand}
use Rattle.gf_strands.proofs.MonomialLaws.{front_variables}
use Rattle.gf_strand_runs.proofs.TurnLaws.{turned_on}
use Rattle.gf_strand_runs.proofs.JoinedTurns.{front_take, front_chain, first_behind, behind_second, behind_size, tail_cover_monomial}
use Rattle.gf_strand_runs.proofs.turns.take_sharing.Goals as goal

pub lcm-multiple-requires : goal.lcm-multiple-requires
lcm-multiple-requires c =
    let q = (contained_each (IsStrandOf c.args.ground.now.normal.now c.args.ground.now.by.now) c.args.strands.now.items c.requires.strands c.index-c.result.now
    (c.args.j, c.requires.second, sym c.index-c.ensures)).0 in
    let w = front_variables (length c.args.ground.now.normal.now) c.args.ground.now.marks.now [] c.args.i c.index-ground-i.result c.requires.ground.marks
    c.requires.first c.index-ground-i.is in
    ap length (sym c.index-ground-i.is) ∙ w ∙ sym q.width

pub are_covered-requires-clause-base : goal.are_covered-requires-clause-base
are_covered-requires-clause-base c =
    let q = (contained_each (IsStrandOf c.args.ground.now.normal.now c.args.ground.now.by.now) c.args.strands.now.items c.requires.strands c.index-c.result.now
    (c.args.j, c.requires.second, sym c.index-c.ensures)).0 in
    let w = front_variables (length c.args.ground.now.normal.now) c.args.ground.now.marks.now [] c.args.i c.index-ground-i.result c.requires.ground.marks
    c.requires.first c.index-ground-i.is in
    ap (λ (z : Exponents). length z) (c.lcm-multiple.ensures ∙ ap (λ (z : Exponents). join z c.index-c.result.now.mark) (sym c.index-ground-i.is)) ∙
    wide_join (length c.args.ground.now.normal.now) c.index-ground-i.result c.index-c.result.now.mark w q.width

pub returns-then-are_covered-clause-turning : goal.returns-then-are_covered-clause-turning
returns-then-are_covered-clause-turning c =
    let r = read_strand c.args.ground.now.normal.now c.args.ground.now.marks.now c.args.strands.now.items c.args.i c.args.j c.index-ground-i.result
    c.index-c.result.now c.requires.first c.index-ground-i.is c.requires.second c.index-c.ensures in
    let q = (contained_each (IsStrandOf c.args.ground.now.normal.now c.args.ground.now.by.now) c.args.strands.now.items c.requires.strands c.index-c.result.now
    (c.args.j, c.requires.second, sym c.index-c.ensures)).0 in
    let w = front_variables (length c.args.ground.now.normal.now) c.args.ground.now.marks.now [] c.args.i c.index-ground-i.result c.requires.ground.marks
    c.requires.first c.index-ground-i.is in
    let k = cover_of_strand c.args.ground.now.normal.now (with_monomials c.args.ground.now.marks.now
    []) (join c.index-ground-i.result c.index-c.result.now.mark)
    c.index-c.result.now (wide_join (length c.args.ground.now.normal.now) c.index-ground-i.result c.index-c.result.now.mark w q.width ∙ sym q.width)
    (join_right c.index-ground-i.result c.index-c.result.now.mark) q.on
    (subst (Each (λ (p : Point). HasCover (with_monomials c.args.ground.now.marks.now []) (moved c.args.ground.now.normal.now
    (join c.index-ground-i.result c.index-c.result.now.mark) p.k))) c.deref.ensures.value
    (subst (λ (z : Exponents). Each (λ (p : Point). HasCover (with_monomials c.args.ground.now.marks.now []) (moved c.args.ground.now.normal.now z p.k))
    c.deref.result.now) (c.lcm-multiple.ensures ∙ ap (λ (z : Exponents). join z c.index-c.result.now.mark) (sym c.index-ground-i.is))
    (c.are_covered.ensures c.if-are_covered.true))) in
    record {
      at = λ fs t. (turned_on (facet_order c.args.ground.now.normal.now) (length c.args.ground.now.normal.now) fs
          (with_monomials c.args.ground.now.marks.now (strand_members c.args.ground.now.normal.now c.args.strands.now.items))
          (with_monomials c.args.ground.now.marks.now (strand_members c.args.ground.now.normal.now c.args.strands.now.items)) c.args.i
          (length c.args.ground.now.marks.now + c.args.j) (first_behind c.args.ground.now.marks.now c.args.i c.args.j c.requires.first)
          (behind_second c.args.ground.now.marks.now (strand_members c.args.ground.now.normal.now c.args.strands.now.items) c.args.j
          (strand_within c.args.ground.now.normal.now c.args.strands.now.items c.args.j c.requires.second)) t
          (IsPairTaken.covered (monomial_member c.index-ground-i.result) (strand_member c.args.ground.now.normal.now c.index-c.result.now) r.at_i r.at_j
          (tail_cover_monomial c.args.ground.now.marks.now (strand_members c.args.ground.now.normal.now c.args.strands.now.items) c.index-ground-i.result
          (strand_member c.args.ground.now.normal.now c.index-c.result.now) k) refl)).turning;
    }

pub is_covered-requires : goal.is_covered-requires
is_covered-requires c =
    let q = (contained_each (IsStrandOf c.args.ground.now.normal.now c.args.ground.now.by.now) c.args.strands.now.items c.requires.strands c.index-c.result.now
    (c.args.j, c.requires.second, sym c.index-c.ensures)).0 in
    let w = front_variables (length c.args.ground.now.normal.now) c.args.ground.now.marks.now [] c.args.i c.index-ground-i.result c.requires.ground.marks
    c.requires.first c.index-ground-i.is in
    subst (λ (k : ℕ). HaveVariables k (with_monomials (take c.args.i c.args.ground.now.marks.now) []))
    (sym (ap (λ (z : Exponents). length z) (c.lcm-multiple.ensures ∙ ap (λ (z : Exponents). join z c.index-c.result.now.mark) (sym c.index-ground-i.is)) ∙
    wide_join (length c.args.ground.now.normal.now) c.index-ground-i.result c.index-c.result.now.mark w q.width))
    (front_take (length c.args.ground.now.normal.now) c.args.ground.now.marks.now c.args.i c.requires.ground.marks)

pub returns-then-is_covered-clause-turning : goal.returns-then-is_covered-clause-turning
returns-then-is_covered-clause-turning c =
    let r = read_strand c.args.ground.now.normal.now c.args.ground.now.marks.now c.args.strands.now.items c.args.i c.args.j c.index-ground-i.result
    c.index-c.result.now c.requires.first c.index-ground-i.is c.requires.second c.index-c.ensures in
    let k = front_chain c.args.ground.now.marks.now (strand_members c.args.ground.now.normal.now c.args.strands.now.items) c.args.i
    (join c.index-ground-i.result c.index-c.result.now.mark)
    (omega (arith, c.requires.first)) (subst (HasCover (with_monomials (take c.args.i c.args.ground.now.marks.now) [])) (c.lcm-multiple.ensures ∙
    ap (λ (z : Exponents). join z c.index-c.result.now.mark) (sym c.index-ground-i.is)) (c.is_covered.ensures.yes c.if-is_covered.true)) in
    record {
      at = λ fs t. (turned_on (facet_order c.args.ground.now.normal.now) (length c.args.ground.now.normal.now) fs
          (with_monomials c.args.ground.now.marks.now (strand_members c.args.ground.now.normal.now c.args.strands.now.items))
          (with_monomials c.args.ground.now.marks.now (strand_members c.args.ground.now.normal.now c.args.strands.now.items)) c.args.i
          (length c.args.ground.now.marks.now + c.args.j) (first_behind c.args.ground.now.marks.now c.args.i c.args.j c.requires.first)
          (behind_second c.args.ground.now.marks.now (strand_members c.args.ground.now.normal.now c.args.strands.now.items) c.args.j
          (strand_within c.args.ground.now.normal.now c.args.strands.now.items c.args.j c.requires.second)) t
          (IsPairTaken.chained (monomial_member c.index-ground-i.result) (strand_member c.args.ground.now.normal.now c.index-c.result.now)
          r.at_i r.at_j k refl)).turning;
    }

pub take_in-requires-clause-base : goal.take_in-requires-clause-base
take_in-requires-clause-base c =
    let q = (contained_each (IsStrandOf c.args.ground.now.normal.now c.args.ground.now.by.now) c.args.strands.now.items c.requires.strands c.index-c.result.now
    (c.args.j, c.requires.second, sym c.index-c.ensures)).0 in
    let w = front_variables (length c.args.ground.now.normal.now) c.args.ground.now.marks.now [] c.args.i c.index-ground-i.result c.requires.ground.marks
    c.requires.first c.index-ground-i.is in
    ap (λ (z : Exponents). length z) (c.lcm-multiple.ensures ∙ ap (λ (z : Exponents). join z c.index-c.result.now.mark) (sym c.index-ground-i.is)) ∙
    wide_join (length c.args.ground.now.normal.now) c.index-ground-i.result c.index-c.result.now.mark w q.width

pub take_in-requires-clause-on : goal.take_in-requires-clause-on
take_in-requires-clause-on c =
    let q = (contained_each (IsStrandOf c.args.ground.now.normal.now c.args.ground.now.by.now) c.args.strands.now.items c.requires.strands c.index-c.result.now
    (c.args.j, c.requires.second, sym c.index-c.ensures)).0 in
    let w = front_variables (length c.args.ground.now.normal.now) c.args.ground.now.marks.now [] c.args.i c.index-ground-i.result c.requires.ground.marks
    c.requires.first c.index-ground-i.is in
    subst (AreSpots c.args.ground.now.normal.now c.lcm-multiple.result) (sym (c.in_ok-points.ensures ∙ ap (map negated_point) c.deref-2.ensures.value))
    (negated_on c.args.ground.now.normal.now c.lcm-multiple.result c.index-c.result.now.rest.items
    (on_multiple c.args.ground.now.normal.now c.index-c.result.now.mark c.lcm-multiple.result c.index-c.result.now.rest.items
    (ap (λ (z : Exponents). length z) (c.lcm-multiple.ensures ∙ ap (λ (z : Exponents). join z c.index-c.result.now.mark) (sym c.index-ground-i.is)) ∙
    wide_join (length c.args.ground.now.normal.now) c.index-ground-i.result c.index-c.result.now.mark w q.width ∙ sym q.width)
    (subst (Divides c.index-c.result.now.mark) (sym (c.lcm-multiple.ensures ∙ ap (λ (z : Exponents). join z c.index-c.result.now.mark)
    (sym c.index-ground-i.is))) (join_right c.index-ground-i.result c.index-c.result.now.mark)) q.on))

pub take_in-requires-clause-falling : goal.take_in-requires-clause-falling
take_in-requires-clause-falling c =
    let q = (contained_each (IsStrandOf c.args.ground.now.normal.now c.args.ground.now.by.now) c.args.strands.now.items c.requires.strands c.index-c.result.now
    (c.args.j, c.requires.second, sym c.index-c.ensures)).0 in
    subst AreFalling (sym (c.in_ok-points.ensures ∙ ap (map negated_point) c.deref-2.ensures.value)) (negated_falling c.index-c.result.now.rest.items q.falling)

pub returns-clause-turning : goal.returns-clause-turning
returns-clause-turning c =
    let r = read_strand c.args.ground.now.normal.now c.args.ground.now.marks.now c.args.strands.now.items c.args.i c.args.j c.index-ground-i.result
    c.index-c.result.now c.requires.first c.index-ground-i.is c.requires.second c.index-c.ensures in
    let q = (contained_each (IsStrandOf c.args.ground.now.normal.now c.args.ground.now.by.now) c.args.strands.now.items c.requires.strands c.index-c.result.now
    (c.args.j, c.requires.second, sym c.index-c.ensures)).0 in
    let w = front_variables (length c.args.ground.now.normal.now) c.args.ground.now.marks.now [] c.args.i c.index-ground-i.result c.requires.ground.marks
    c.requires.first c.index-ground-i.is in
    IfSome_then c.take_in.result c.take_in.ensures.taken (λ _ h. record {
      at = λ fs t. (turned_strand (facet_order c.args.ground.now.normal.now) (length c.args.ground.now.normal.now) fs
          (with_monomials c.args.ground.now.marks.now (strand_members c.args.ground.now.normal.now c.args.strands.now.items))
          (with_monomials c.args.ground.now.marks.now (strand_members c.args.ground.now.normal.now c.take_in.new.strands.items)) c.args.i
          (length c.args.ground.now.marks.now + c.args.j) (monomial_member c.index-ground-i.result)
          (strand_member c.args.ground.now.normal.now c.index-c.result.now) c.args.ground.now.normal.now c.lcm-multiple.result c.in_ok-points.points.items
          (first_behind c.args.ground.now.marks.now c.args.i c.args.j c.requires.first)
          (behind_second c.args.ground.now.marks.now (strand_members c.args.ground.now.normal.now c.args.strands.now.items) c.args.j
          (strand_within c.args.ground.now.normal.now c.args.strands.now.items c.args.j c.requires.second)) t r (w ∙ sym q.width)
          (c.lcm-multiple.ensures ∙ ap (λ (z : Exponents). join z c.index-c.result.now.mark) (sym c.index-ground-i.is))
          (monomial_strand c.args.ground.now.normal.now c.index-ground-i.result c.lcm-multiple.result c.index-c.result.now c.in_ok-points.points.items
          (w ∙ sym q.width) (c.lcm-multiple.ensures ∙ ap (λ (z : Exponents). join z c.index-c.result.now.mark) (sym c.index-ground-i.is)) q.on
          (c.in_ok-points.ensures ∙ ap (map negated_point) c.deref-2.ensures.value)) h).turning;
    })

pub returns-clause-kept : goal.returns-clause-kept
returns-clause-kept c =
    let r = read_strand c.args.ground.now.normal.now c.args.ground.now.marks.now c.args.strands.now.items c.args.i c.args.j c.index-ground-i.result
    c.index-c.result.now c.requires.first c.index-ground-i.is c.requires.second c.index-c.ensures in
    let q = (contained_each (IsStrandOf c.args.ground.now.normal.now c.args.ground.now.by.now) c.args.strands.now.items c.requires.strands c.index-c.result.now
    (c.args.j, c.requires.second, sym c.index-c.ensures)).0 in
    let w = front_variables (length c.args.ground.now.normal.now) c.args.ground.now.marks.now [] c.args.i c.index-ground-i.result c.requires.ground.marks
    c.requires.first c.index-ground-i.is in
    IfSome_then c.take_in.result c.take_in.ensures.taken (λ _ h. (turned_strand (facet_order c.args.ground.now.normal.now) (length c.args.ground.now.normal.now)
    c.requires.turning.polynomials (with_monomials c.args.ground.now.marks.now (strand_members c.args.ground.now.normal.now c.args.strands.now.items))
    (with_monomials c.args.ground.now.marks.now (strand_members c.args.ground.now.normal.now c.take_in.new.strands.items)) c.args.i
    (length c.args.ground.now.marks.now + c.args.j) (monomial_member c.index-ground-i.result)
    (strand_member c.args.ground.now.normal.now c.index-c.result.now) c.args.ground.now.normal.now c.lcm-multiple.result c.in_ok-points.points.items
    (first_behind c.args.ground.now.marks.now c.args.i c.args.j c.requires.first)
    (behind_second c.args.ground.now.marks.now (strand_members c.args.ground.now.normal.now c.args.strands.now.items) c.args.j
    (strand_within c.args.ground.now.normal.now c.args.strands.now.items c.args.j c.requires.second)) c.requires.turning.turning r (w ∙ sym q.width)
    (c.lcm-multiple.ensures ∙ ap (λ (z : Exponents). join z c.index-c.result.now.mark) (sym c.index-ground-i.is))
    (monomial_strand c.args.ground.now.normal.now c.index-ground-i.result c.lcm-multiple.result c.index-c.result.now c.in_ok-points.points.items
    (w ∙ sym q.width) (c.lcm-multiple.ensures ∙ ap (λ (z : Exponents). join z c.index-c.result.now.mark) (sym c.index-ground-i.is)) q.on
    (c.in_ok-points.ensures ∙ ap (map negated_point) c.deref-2.ensures.value)) h).kept)

pub returns-clause-size : goal.returns-clause-size
returns-clause-size c =
    let r = read_strand c.args.ground.now.normal.now c.args.ground.now.marks.now c.args.strands.now.items c.args.i c.args.j c.index-ground-i.result
    c.index-c.result.now c.requires.first c.index-ground-i.is c.requires.second c.index-c.ensures in
    let q = (contained_each (IsStrandOf c.args.ground.now.normal.now c.args.ground.now.by.now) c.args.strands.now.items c.requires.strands c.index-c.result.now
    (c.args.j, c.requires.second, sym c.index-c.ensures)).0 in
    let w = front_variables (length c.args.ground.now.normal.now) c.args.ground.now.marks.now [] c.args.i c.index-ground-i.result c.requires.ground.marks
    c.requires.first c.index-ground-i.is in
    IfSome_then c.take_in.result c.take_in.ensures.taken (λ _ h. strands_more c.args.ground.now.normal.now c.args.strands.now.items c.take_in.new.strands.items
    (behind_size c.args.ground.now.marks.now (strand_members c.args.ground.now.normal.now c.args.strands.now.items)
    (strand_members c.args.ground.now.normal.now c.take_in.new.strands.items) (turned_strand (facet_order c.args.ground.now.normal.now)
    (length c.args.ground.now.normal.now) c.requires.turning.polynomials
    (with_monomials c.args.ground.now.marks.now (strand_members c.args.ground.now.normal.now c.args.strands.now.items))
    (with_monomials c.args.ground.now.marks.now (strand_members c.args.ground.now.normal.now c.take_in.new.strands.items)) c.args.i
    (length c.args.ground.now.marks.now + c.args.j) (monomial_member c.index-ground-i.result)
    (strand_member c.args.ground.now.normal.now c.index-c.result.now) c.args.ground.now.normal.now c.lcm-multiple.result c.in_ok-points.points.items
    (first_behind c.args.ground.now.marks.now c.args.i c.args.j c.requires.first)
    (behind_second c.args.ground.now.marks.now (strand_members c.args.ground.now.normal.now c.args.strands.now.items) c.args.j
    (strand_within c.args.ground.now.normal.now c.args.strands.now.items c.args.j c.requires.second)) c.requires.turning.turning r (w ∙ sym q.width)
    (c.lcm-multiple.ensures ∙ ap (λ (z : Exponents). join z c.index-c.result.now.mark) (sym c.index-ground-i.is))
    (monomial_strand c.args.ground.now.normal.now c.index-ground-i.result c.lcm-multiple.result c.index-c.result.now c.in_ok-points.points.items
    (w ∙ sym q.width) (c.lcm-multiple.ensures ∙ ap (λ (z : Exponents). join z c.index-c.result.now.mark) (sym c.index-ground-i.is)) q.on
    (c.in_ok-points.ensures ∙ ap (map negated_point) c.deref-2.ensures.value)) h).size))
