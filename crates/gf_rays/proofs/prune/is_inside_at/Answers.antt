use Rattle.std.proofs.Common.{◌∙◌, sym}
use Rattle.gf_rays.proofs.ColumnLaws.{inside_by}
use Rattle.gf_rays.proofs.prune.is_inside_at.Goals as goal

pub is_below-requires : goal.is_below-requires
is_below-requires c = c.requires.1 c.args.i c.index-rays-i.result c.if-i-rays.false ∙ sym (c.requires.1 c.args.j c.index-rays-j.result c.if-j-rays.false)

pub returns : goal.returns
returns c = λ t. (
  c.if-i-rays.false,
  inside_by c.args.rays.now c.args.i c.args.j c.index-rays-i.result c.index-rays-j.result c.if-i-rays.false c.if-j-rays.false c.if-i-j.false
      (c.is_below.ensures.0 t),
)
