use Rattle.std.proofs.Common.{arith}
use Rattle.gf_cone.proofs.ListingLaws.{lower_through, higher_at, index_between, is_in}
use Rattle.gf_cone.proofs.listing.index_in.Goals as goal

pub returns-in-Equal : goal.returns-in-Equal
returns-in-Equal c = is_in c.args.v.now c.index-list-middle.result c.args.list.now _ c.lex_cmp.result
    (omega (arith, c.indices.invariant.inside, c.indices-test.true)) c.index-list-middle.is c.lex_cmp.ensures c.in-Equal.is

pub indices-preserved-in-Less : goal.indices-preserved-in-Less
indices-preserved-in-Less c = record {
  ordered = omega (arith, c.indices.invariant.ordered, c.indices-test.true);
  inside = c.indices.invariant.inside;
  lower = lower_through c.args.v.now c.index-list-middle.result c.args.list.now _ c.lex_cmp.result c.requires
      (omega (arith, c.indices.invariant.inside, c.indices-test.true)) c.index-list-middle.is c.lex_cmp.ensures c.in-Less.is;
  higher = c.indices.invariant.higher;
}

pub indices-preserved : goal.indices-preserved
indices-preserved c = record {
  ordered = omega (arith, c.indices.invariant.ordered);
  inside = omega (arith, c.indices.invariant.inside, c.indices.invariant.ordered);
  lower = c.indices.invariant.lower;
  higher = higher_at c.args.v.now c.index-list-middle.result c.args.list.now _ c.lex_cmp.result (omega (arith, c.indices.invariant.inside, c.indices-test.true))
      c.index-list-middle.is c.lex_cmp.ensures c.in-Greater.is;
}

pub returns : goal.returns
returns c = index_between c.args.v.now c.args.list.now c.indices.low c.indices.high (omega (arith, c.indices.invariant.ordered, c.indices-test.false))
    c.indices.invariant.inside c.indices.invariant.lower c.indices.invariant.higher
