use Rattle.std.proofs.Common.{List, inl, inr, subst}
use Rattle.gf_fan.specs.declared.bits.RowBits.{RowBits}
use Rattle.gf_fan.specs.Bits.{IsExcludedBy}
use Rattle.gf_fan.proofs.BitLaws.{differing}
use Rattle.gf_fan.proofs.bits.are_told_by_bits.Goals as goal

pub returns : goal.returns
returns c = λ t i. elim (differing c.args.s.now.own c.args.t.now.own c.cut_by-first.result c.cut_by-second.result i (c.is_word_below.ensures t i)) [
  | inl e ↦ inl e
  | inr w ↦ elim w [
    | inl x ↦ inr (inl (subst (λ (l : List RowBits). IsExcludedBy l c.args.t.now.own i) c.as_slice.ensures.value (c.cut_by-first.ensures i x)))
    | inr x ↦ inr (inr (subst (λ (l : List RowBits). IsExcludedBy l c.args.s.now.own i) c.as_slice-2.ensures.value (c.cut_by-second.ensures i x)))
  ]
]
