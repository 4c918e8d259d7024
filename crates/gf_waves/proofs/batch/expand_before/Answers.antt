use Rattle.std.proofs.Common.{[], ◌∷◌, ap, inl, inr}
use Rattle.gf_reverse_search.specs.declared.expand.Piece.TheVariants.{Refused}
use Rattle.gf_waves.proofs.batch.expand_before.Goals as goal

pub returns-in-Ok-clause-expanded : goal.returns-in-Ok-clause-expanded
returns-in-Ok-clause-expanded g c = (c.in-Ok.pieces.items, c.put_before.ensures.items, inl c.in-Ok.ensures.expands)

pub returns-in-Err-clause-expanded : goal.returns-in-Err-clause-expanded
returns-in-Err-clause-expanded g c = (
  Refused c.in-Err.walker c.in-Err.refusal ∷ [],
  c.push_before.ensures.items,
  inr (c.in-Err.refusal, ap (λ w. Refused w c.in-Err.refusal ∷ []) c.in-Err.ensures.unchanged, c.in-Err.ensures.refused),
)
