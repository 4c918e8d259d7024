use Rattle.std.proofs.Common.{refl, subst, [], ◌++◌, ◌+◌, take, List, ℤ}
use Rattle.gf_facets_theory.proofs.SystemLaws.{canonical_all}
use Rattle.gf_facets_theory.specs.Rows.{rows_of_terms, rows_of_polynomials}
use Rattle.gf_cone.specs.Placing.{Gathers}
use Rattle.gf_cone.proofs.RowsLaws.{Collecting, Collecting-more, all_collected, collected_marked, some_variables}
use Rattle.gf_cone.proofs.ListingLaws.{gathers_append, gathered}
use Rattle.gf_cone.proofs.listing.normals.Goals as goal

pub with_normals-requires-clause-variables : goal.with_normals-requires-clause-variables
with_normals-requires-clause-variables c = some_variables c.args.set.now.variables c.args.set.now.items c.items-items.result.now c.members.i
    c.index-items-i.result c.items-items.ensures.value c.items-items.ensures.variables c.members-test.true c.index-items-i.is

pub members-preserved : goal.members-preserved
members-preserved c =
    let b = c.index-items-i.result in
    let old : List (List ℤ) = rows_of_polynomials (take c.members.i c.items-items.result.now) in
    let k : Collecting c.items-items.result.now (old ++ rows_of_terms b.head b.poly) (c.members.i + 1) =
    Collecting-more c.items-items.result.now c.members.i b old (old ++ rows_of_terms b.head b.poly) c.members-test.true c.index-items-i.is
    c.in_ok-all.ensures.marked refl c.members.invariant.collected in
    record {
      gathers = subst (λ (z : List (List ℤ)). Gathers [] z c.in_ok-all.all.items) k.items (gathers_append [] old (rows_of_terms b.head b.poly)
          c.members.all.items c.in_ok-all.all.items c.members.invariant.gathers c.in_ok-all.ensures.gathers);
      small = c.in_ok-all.ensures.small;
      collected = subst (λ (z : List (List ℤ)). Collecting c.items-items.result.now z (c.members.i + 1)) k.items k;
    }

pub returns-clause-normals : goal.returns-clause-normals
returns-clause-normals c = gathered c.args.set.now.items c.members.all.items (subst (λ (z : List (List ℤ)). Gathers [] z c.members.all.items)
    (all_collected c.args.set.now.items c.items-items.result.now (rows_of_polynomials (take c.members.i c.items-items.result.now))
    c.members.i c.items-items.ensures.value c.members-test.false c.members.invariant.collected) c.members.invariant.gathers)

pub returns-clause-canonical : goal.returns-clause-canonical
returns-clause-canonical c = canonical_all c.args.set.now.variables c.args.set.now.items c.items-items.ensures.variables
    (collected_marked c.args.set.now.items c.items-items.result.now (rows_of_polynomials (take c.members.i c.items-items.result.now))
    c.members.i c.items-items.ensures.value c.members-test.false c.members.invariant.collected)
