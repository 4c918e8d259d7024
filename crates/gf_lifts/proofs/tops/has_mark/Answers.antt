use Rattle.std.proofs.Common.{ap, sym, ◌∙◌, length}
use Rattle.gf_lifts.proofs.tops.has_mark.Goals as goal

pub is_same-requires : goal.is_same-requires
is_same-requires c = sym (ap length c.exponents.ensures.value) ∙ c.if-exponents.false ∙ ap length c.exponents-2.ensures.value

pub returns : goal.returns
returns c = λ t. sym c.head-mark.ensures.value ∙ c.is_same.ensures.0 t
