use Rattle.std.proofs.Common.{subst}
use Rattle.gf_reverse_search.specs.Split.{IsCutAt, Splits, HaveTree}
use Rattle.gf_facets_theory.specs.LexPositive.{IsBefore}
use Rattle.gf_tree.specs.Refusals.{IsTreeRefusal}
use Rattle.gf_tree.specs.Walks.{Walk, ideal_at}
use Rattle.gf_tree.proofs.RefusalLaws.{refusal_above}
use Rattle.gf_tree.proofs.WalkLaws.{up_in, left_first, left_rest, left_read, parts_of, parts_read}
use Rattle.gf_tree.proofs.split.cut.Goals as goal

pub invariant_of-first : goal.invariant_of-first
invariant_of-first c =
    let p = c.walker.inside.inner in
    let f = c.in-Ok-Parts.first in
    let r = c.in-Ok-Parts.rest in
    let trees = subst (HaveTree p.tree) c.in-Ok-Parts.field-0-is c.in-Ok-Parts.ensures.trees in
    left_read f _ c.none.result c.in-Ok-Parts.first-is
    (left_first p f r c.walker.inside.given c.none.result c.none-in-Ok-Parts.result
    (subst (IsCutAt IsBefore up_in p) c.in-Ok-Parts.field-0-is c.in-Ok-Parts.ensures.standings) trees.0 trees.1
    (λ nodes l. subst (Splits IsBefore up_in nodes) c.in-Ok-Parts.field-0-is (c.in-Ok-Parts.ensures.parts nodes l)) c.none.ensures c.none-in-Ok-Parts.ensures
    c.walker.invariant)

pub invariant_of-rest : goal.invariant_of-rest
invariant_of-rest c =
    let p = c.walker.inside.inner in
    let f = c.in-Ok-Parts.first in
    let r = c.in-Ok-Parts.rest in
    let trees = subst (HaveTree p.tree) c.in-Ok-Parts.field-0-is c.in-Ok-Parts.ensures.trees in
    left_read r _ c.none-in-Ok-Parts.result c.in-Ok-Parts.rest-is
    (left_rest p f r c.walker.inside.given c.none.result c.none-in-Ok-Parts.result
    (subst (IsCutAt IsBefore up_in p) c.in-Ok-Parts.field-0-is c.in-Ok-Parts.ensures.standings) trees.0 trees.1
    (λ nodes l. subst (Splits IsBefore up_in nodes) c.in-Ok-Parts.field-0-is (c.in-Ok-Parts.ensures.parts nodes l)) c.none.ensures c.none-in-Ok-Parts.ensures
    c.walker.invariant)

pub returns-in-Ok-Parts-clause-ok : goal.returns-in-Ok-Parts-clause-ok
returns-in-Ok-Parts-clause-ok c =
    let p = c.walker.inside.inner in
    let f = c.in-Ok-Parts.first in
    let r = c.in-Ok-Parts.rest in
    let trees = subst (HaveTree p.tree) c.in-Ok-Parts.field-0-is c.in-Ok-Parts.ensures.trees in
    parts_read _ c.args.walker f _ r _ c.none.result c.none-in-Ok-Parts.result c.walker.view_is c.in-Ok-Parts.first-is c.in-Ok-Parts.rest-is
    (parts_of p f r c.walker.inside.given c.none.result c.none-in-Ok-Parts.result
    (subst (IsCutAt IsBefore up_in p) c.in-Ok-Parts.field-0-is c.in-Ok-Parts.ensures.standings) trees.0 trees.1
    (λ nodes l. subst (Splits IsBefore up_in nodes) c.in-Ok-Parts.field-0-is (c.in-Ok-Parts.ensures.parts nodes l)) c.none.ensures c.none-in-Ok-Parts.ensures
    c.walker.invariant)

pub returns-clause-cause : goal.returns-clause-cause
returns-clause-cause c =
    let p = c.walker.inside.inner in
    subst (λ (w : Walk). IsTreeRefusal (ideal_at w) w.pairs c.in-Err.refusal) c.walker.view_is
    (refusal_above p.tree.region p.tree.pairs p.here p.depth c.in-Err.refusal c.walker.invariant.basis c.in-Err.ensures.refused)
