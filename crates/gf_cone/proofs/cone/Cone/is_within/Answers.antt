use Rattle.std.proofs.Common.{arith}
use Rattle.gf_cone.proofs.RegionLaws.{agree_next, rows_same}
use Rattle.gf_cone.proofs.cone.Cone.is_within.Goals as goal

pub rows-preserved : goal.rows-preserved
rows-preserved c = agree_next c.rows-own.result.now c.rows-rows.result.now c.rows.i c.index-own-i.result c.index-rows-i.result c.lex_cmp.result
    (omega (arith, c.rows-test.true, c.if-own-rows.false)) c.rows-test.true c.index-own-i.is c.index-rows-i.is c.lex_cmp.ensures c.in-Equal.is c.rows.invariant

pub returns : goal.returns
returns c = λ t. rows_same c.args.region.now c.args.self.now c.rows-own.result.now c.rows-rows.result.now c.rows-own.ensures.value c.rows-rows.ensures.value
    (omega (arith, c.if-own-rows.false)) (λ j m. c.rows.invariant j (omega (arith, m, c.rows-test.false)))
