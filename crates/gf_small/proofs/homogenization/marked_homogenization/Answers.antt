use Rattle.gf_small.proofs.HomogenizationLaws.{filling_at, filling-short, filling-variables, filling-there, filling-value}
use Rattle.gf_small.proofs.homogenization.marked_homogenization.Goals as goal

pub sum_of-requires : goal.sum_of-requires
sum_of-requires c =
    let filling = filling_at c.args.b.now c.poly.result.now c.terms-terms.result.now c.in_ok-all.all.items c.total_degree.result c.index.result
    c.index-2.result.now c.copy-head.result c.poly.ensures c.terms-terms.ensures.value c.terms-terms.ensures.descending c.index.ensures.inside
    c.index.ensures.head c.total_degree.ensures c.in_ok-all.ensures.value c.index-2.ensures c.copy-head.ensures in
    filling-short _ _ _ _ _ _ _ filling

pub index_of-index-requires-clause-variables : goal.index_of-index-requires-clause-variables
index_of-index-requires-clause-variables c =
    let filling = filling_at c.args.b.now c.poly.result.now c.terms-terms.result.now c.in_ok-all.all.items c.total_degree.result c.index.result
    c.index-2.result.now c.copy-head.result c.poly.ensures c.terms-terms.ensures.value c.terms-terms.ensures.descending c.index.ensures.inside
    c.index.ensures.head c.total_degree.ensures c.in_ok-all.ensures.value c.index-2.ensures c.copy-head.ensures in
    filling-variables c.requires.0 _ _ _ _ _ _ _ c.in_ok-poly.poly c.terms.result.now c.requires.1.1 c.in_ok-poly.ensures.variables c.terms.ensures.value
    filling

pub index_of-index-requires-clause-there : goal.index_of-index-requires-clause-there
index_of-index-requires-clause-there c =
    let filling = filling_at c.args.b.now c.poly.result.now c.terms-terms.result.now c.in_ok-all.all.items c.total_degree.result c.index.result
    c.index-2.result.now c.copy-head.result c.poly.ensures c.terms-terms.ensures.value c.terms-terms.ensures.descending c.index.ensures.inside
    c.index.ensures.head c.total_degree.ensures c.in_ok-all.ensures.value c.index-2.ensures c.copy-head.ensures in
    filling-there c.requires.0 _ _ _ _ _ _ _ c.in_ok-poly.poly c.terms.result.now c.requires.1.1 c.in_ok-poly.ensures.value c.terms.ensures.value filling

pub returns-clause-value : goal.returns-clause-value
returns-clause-value c =
    let filling = filling_at c.args.b.now c.poly.result.now c.terms-terms.result.now c.in_ok-all.all.items c.total_degree.result c.index.result
    c.index-2.result.now c.copy-head.result c.poly.ensures c.terms-terms.ensures.value c.terms-terms.ensures.descending c.index.ensures.inside
    c.index.ensures.head c.total_degree.ensures c.in_ok-all.ensures.value c.index-2.ensures c.copy-head.ensures in
    filling-value _ c.mark.result _ _ _ _ _ _ c.in_ok-poly.poly c.terms.result.now c.index_of-index.result c.in_ok-poly.ensures.value
    c.in_ok-poly.ensures.descending c.in_ok-poly.ensures.variables c.terms.ensures.value c.index_of-index.ensures.head c.mark.ensures filling
