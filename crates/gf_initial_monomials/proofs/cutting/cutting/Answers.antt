use Rattle.std.proofs.Common.{◌≡◌, ◌∙◌, ap, List, ℤ, ◌++◌, ◌∷◌, [], length, sym}
use Rattle.std.proofs.lemmas.List.Elements.{All-contains}
use Rattle.gf_rays.specs.Cones.{rows_of}
use Rattle.gf_initial_monomials.proofs.CutLaws.{cutting_none, cutting_left, cutting_more, cutting_all}
use Rattle.gf_initial_monomials.proofs.cutting.cutting.Goals as goal

pub rows-init : goal.rows-init
rows-init c = rw c.new-out.ensures.items (cutting_none c.args.cone.now.ambient (rows_of c.args.cone.now) c.args.rows.now)

pub is_nowhere_negative-requires : goal.is_nowhere_negative-requires
is_nowhere_negative-requires c =
    All-contains (λ t. length t ≡ c.args.cone.now.ambient) c.args.rows.now c.index-rows-i.result c.requires
    (c.rows.i, c.rows-test.true, sym c.index-rows-i.is)

pub rows-preserved-then-is_nowhere_negative : goal.rows-preserved-then-is_nowhere_negative
rows-preserved-then-is_nowhere_negative c = cutting_left c.args.cone.now.ambient (rows_of c.args.cone.now) c.args.rows.now c.rows.i c.index-rows-i.result
    c.rows.out.items c.rows-test.true c.index-rows-i.is (c.is_nowhere_negative.ensures c.if-is_nowhere_negative.true) c.rows.invariant

pub rows-preserved : goal.rows-preserved
rows-preserved c = cutting_more c.args.cone.now.ambient (rows_of c.args.cone.now) c.args.rows.now c.rows.i c.index-rows-i.result c.rows.out.items _
    c.rows-test.true c.index-rows-i.is (c.in_ok-push.ensures.items ∙ ap (λ (v : List ℤ). c.rows.out.items ++ v ∷ []) c.in_ok-copy.ensures) c.rows.invariant

pub returns : goal.returns
returns c = cutting_all c.args.cone.now.ambient (rows_of c.args.cone.now) c.args.rows.now c.rows.i c.rows.out.items c.rows-test.false c.rows.invariant
