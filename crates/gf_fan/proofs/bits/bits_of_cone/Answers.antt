use Rattle.std.proofs.Common.{◌≡◌, ◌↔◌, ◌∙◌, sym, subst, ℕ, List, ℤ, Contains}
use Rattle.std.specs.Int.{bit_at}
use Rattle.gf_gordan.specs.Alternative.{AreRows}
use Rattle.gf_fan.specs.Bits.{AreBitsOfRows}
use Rattle.gf_fan.proofs.BitLaws.{own_of}
use Rattle.gf_fan.proofs.bits.bits_of_cone.Goals as goal

pub bits_of_rows-requires-clause-width : goal.bits_of_rows-requires-clause-width
bits_of_rows-requires-clause-width c =
    (c.args.c.now.ambient, (c.inequalities.ensures.width, subst (AreRows c.args.c.now.ambient) (sym c.as_slice.ensures) c.requires.width))

pub returns : goal.returns
returns c =
    let rays : List (List ℤ) = c.args.numbering.now in
    let s : (j : ℕ) → (bit_at c.own_bits.result j ≡ 1) ↔ Contains c.in_ok-numbers.numbers.items j =
    subst (λ (l : List ℕ). (j : ℕ) → (bit_at c.own_bits.result j ≡ 1) ↔ Contains l j) c.as_slice-2.ensures.value c.own_bits.ensures in
    let o = own_of rays c.args.c.now c.in_ok-numbers.numbers.items c.own_bits.result c.in_ok-numbers.ensures.0
    (c.in_ok-numbers.ensures.1 ∙ c.rays.ensures.value) s in
    record {
      each = o.0;
      every = o.1;
      rows = subst (λ (l : List (List ℤ)). AreBitsOfRows rays l c.in_ok-rows.rows.items) c.inequalities.ensures.value
          (subst (λ (l : List (List ℤ)). AreBitsOfRows l c.inequalities.result.now c.in_ok-rows.rows.items) c.as_slice.ensures c.in_ok-rows.ensures);
    }
