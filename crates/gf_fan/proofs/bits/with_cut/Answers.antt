use Rattle.std.proofs.Common.{◌≡◌, bit_and, inl, inr, rules}
use Rattle.gf_fan.proofs.BitLaws.{none_common, bit_either}
use Rattle.gf_fan.proofs.bits.with_cut.Goals as goal

pub returns-then-row-own-eq0 : goal.returns-then-row-own-eq0
returns-then-row-own-eq0 c = λ i t.
    let e : bit_and c.args.row.high c.args.own ≡ 0 = search rules in
    elim (bit_either c.args.cut c.args.row.cut i t) [ inl x ↦ inl x | inr x ↦ inr (λ j b. none_common c.args.row.high c.args.own j e b, x) ]
