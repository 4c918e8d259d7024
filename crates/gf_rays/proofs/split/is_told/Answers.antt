use Rattle.std.proofs.Common.{sym, subst, true, ◌++◌, ◌∷◌, []}
use Rattle.gf_rays.specs.declared.ray.Ray.{Ray}
use Rattle.gf_rays.specs.Flags.{IsBelow, common}
use Rattle.gf_rays.proofs.split.is_told.Goals as goal

pub is_shared_below-requires-clause-next : goal.is_shared_below-requires-clause-next
is_shared_below-requires-clause-next c = c.requires.rays c.in_ok-j.j c.index-rays-j.result c.if-j-rays.false

pub returns : goal.returns
returns c = λ t. (
  c.in_ok-j.j,
  c.index-rays-j.result,
  c.if-j-rays.false,
  sym c.index-rays-j.is,
  subst (λ (r : Ray). IsBelow (common c.args.p.now c.args.q.now ++ true ∷ []) r.zero) (sym c.index-rays-j.is) (c.is_shared_below.ensures.0 t),
)
