use Rattle.std.proofs.Common.{◌≡◌, sym, subst, rules}
use Rattle.gf_subtree.specs.Rows.{Row, AreLeftIn, HasRowLeft, first_row}
use Rattle.gf_subtree.proofs.BasisRowLaws.{row_of, left_at_start, start_leaves}
use Rattle.gf_subtree.proofs.waves.Waves.new.Goals as goal

pub invariant_of-result : goal.invariant_of-result
invariant_of-result g c =
    let e : row_of c.in-Ok.inner c.args.pairs c.of-kept.result.value c.of-start.result.value c.zero.result ≡ first_row c.args.alloc c.args.root
    c.args.region.now c.args.workers c.args.pairs = search rules in
    subst HasRowLeft (sym e) (left_at_start c.args.alloc c.args.root c.args.region.now c.args.workers c.args.pairs c.requires.basis)

pub returns-in-Ok-clause-list : goal.returns-in-Ok-clause-list
returns-in-Ok-clause-list g c =
    let e : row_of c.in-Ok.inner c.args.pairs c.of-kept.result.value c.of-start.result.value c.zero.result ≡ first_row c.args.alloc c.args.root
    c.args.region.now c.args.workers c.args.pairs = search rules in
    λ nodes l. subst (λ (r : Row). AreLeftIn r nodes) (sym e) (start_leaves c.args.alloc c.args.root c.args.region.now c.args.workers c.args.pairs
    c.requires.basis nodes l)
