use Rattle.std.proofs.Common.{inl, inr}
use Rattle.gf_fan.proofs.BitLaws.{differing, same_of_none}
use Rattle.gf_fan.proofs.words.is_told_at.Goals as goal

pub returns-then-differing-eq0 : goal.returns-then-differing-eq0
returns-then-differing-eq0 c = λ t i. inl (same_of_none c.args.x c.args.y i c.if-differing-eq0.true)

pub returns : goal.returns
returns c = λ t i. elim (differing c.args.x c.args.y c.cut_at.result c.cut_at-2.result i (c.is_word_below.ensures t i)) [
  | inl e ↦ inl e
  | inr w ↦ elim w [ inl z ↦ inr (inl (c.cut_at.ensures i z)) | inr z ↦ inr (inr (c.cut_at-2.ensures i z)) ]
]
