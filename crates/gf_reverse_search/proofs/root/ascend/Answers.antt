use Rattle.std.proofs.Common.{◌≡◌, ◌+◌, ◌∷◌, length, refl, subst, arith}
use Rattle.std.proofs.lemmas.Result.{err_from_is_err_and}
use Rattle.gf_reverse_search.specs.Tree.{IsParentOf}
use Rattle.gf_reverse_search.proofs.RefusalLaws.{refused_at}
use Rattle.gf_reverse_search.proofs.root.ascend.Goals as goal

pub returns-in_err-raise-clause-err : goal.returns-in_err-raise-clause-err
returns-in_err-raise-clause-err g c =
    let l = c.loop-depth in
    let w = l.invariant.path in
    let t = c.args.tree.now in
    let p = err_from_is_err_and c.from_residual-in_err-raise.result c.from_residual-in_err-raise.ensures.1 in
    rw p.1 (
      length w.0 + 0,
      refused_at (g.T.Tree.up t) (g.T.Tree.refuses t) l.node c.args.start w.0 0 (length w.0 + 0) p.0 w.1.leads refl
          (g.met.T.Tree.memory t l.node p.0 (g.met.T.Tree.from_memory c.in_err-raise.field-0.0 p.0 p.2)),
    )

-- one step further up
pub loop-depth-preserved : goal.loop-depth-preserved
loop-depth-preserved g c =
    let l = c.loop-depth in
    let w = l.invariant.path in
    let t = c.args.tree.now in
    let step = subst (IsParentOf (g.T.Tree.up t) l.node) c.in-Some.is c.in_ok-parent.ensures.ok in
    record {
      is_node = (g.met.T.Tree.nodes t l.node c.in-Some.field-0-0 c.in-Some.parent step).1;
      path = (
        c.in-Some.field-0-0 ∷ w.0,
        record {
          leads = (l.node, step, w.1.leads);
          long = (let e = w.1.long in let f : c.raise.new.self ≡ l.depth + 1 = c.in_ok-raise.ensures.ok in omega arith);
        },
      );
    }
