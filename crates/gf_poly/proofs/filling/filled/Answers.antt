use Rattle.std.proofs.Common.{◌≡◌, ◌+◌, ◌<◌, ◌++◌, ◌∷◌, [], length, arith, subst, sym, take, set, ap, ◌∙◌, refl}
use Rattle.std.proofs.lemmas.List.{length-set}
use Rattle.gf_exponents_theory.specs.Exponents.{Exponents}
use Rattle.gf_poly.specs.Monomial.{IsMonomial}
use Rattle.gf_poly.proofs.FillingLaws.{filled-monomial, entries-more, filled-array}
use Rattle.gf_poly.proofs.filling.filled.Goals as goal

pub entries-preserved : goal.entries-preserved
entries-preserved c =
    let old : Exponents = c.exponents-old.result.now in
    let inside : c.entries.i < length c.entries.all = omega (
      arith,
      c.entries.invariant.0,
      c.entries-test.true,
      ap length c.exponents-old.ensures.value,
      c.requires.room,
    ) in (
      length-set c.entries.all c.entries.i _ ∙ c.entries.invariant.0,
      entries-more c.entries.all old c.entries.i _ inside c.entries-test.true refl
          c.entries.invariant.1,
    )

pub new-requires : goal.new-requires
new-requires c =
    let old : Exponents = c.exponents-old.result.now in
    let long : length old < length c.entries.all = omega (arith, c.entries.invariant.0, ap length c.exponents-old.ensures.value, c.requires.room) in
    let is : take (length old + 1) (set c.entries.all (length old) c.args.exponent) ≡ c.args.x.now ++ c.args.exponent ∷ [] =
    filled-array c.entries.all old c.entries.i c.args.exponent c.entries-test.false c.entries.auto.i-end long c.entries.invariant.1 ∙
    ap (λ (z : Exponents). z ++ c.args.exponent ∷ []) c.exponents-old.ensures.value in
    subst IsMonomial (sym is) (filled-monomial c.args.x.now c.args.exponent c.requires.room c.exponents-old.ensures.valid c.requires.limit)
