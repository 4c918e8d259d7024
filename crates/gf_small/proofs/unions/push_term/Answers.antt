use Rattle.std.proofs.Common.{◌≡◌, ◌++◌, ◌∷◌, [], FitsSigned, sym, rules, append-nil}
use Rattle.std.specs.Int.{w128}
use Rattle.std.proofs.lemmas.Int.{to_z-of_z}
use Rattle.gf_small.proofs.KeyLaws.{number_more, term_whole}
use Rattle.gf_small.proofs.unions.push_term.Goals as goal

pub exponents-init : goal.exponents-init
exponents-init c = (sym (append-nil _), c.in_ok-push_number-2.ensures.range)

pub exponents-preserved : goal.exponents-preserved
exponents-preserved c =
    let fits : FitsSigned w128 c.from.result = search rules in
    let more : c.push_number-in-exponents.new.key.items ≡ c.exponents.key.items ++ c.from.result ∷ [] = simp (to_z-of_z, fits) at
    c.in_ok-push_number-3.ensures.items in (
      number_more c.push_number-2.new.key.items c.exponents.key.items _ c.exponents-exponents.result.now c.exponents.i c.from.result c.exponents-test.true
          c.from.ensures c.exponents.invariant.0 more,
      c.in_ok-push_number-3.ensures.range,
    )

pub returns-clause-items : goal.returns-clause-items
returns-clause-items c =
    let fits : FitsSigned w128 c.numer.result = search rules in
    let fits2 : FitsSigned w128 c.denom.result = search rules in
    let first : c.push_number.new.key.items ≡ c.args.key.now.items ++ c.numer.result ∷ [] = simp (to_z-of_z, fits) at c.in_ok-push_number.ensures.items in
    let second : c.push_number-2.new.key.items ≡ c.push_number.new.key.items ++ c.denom.result ∷ [] = simp (to_z-of_z, fits2) at
    c.in_ok-push_number-2.ensures.items in
    term_whole c.args.key.now.items c.push_number.new.key.items c.push_number-2.new.key.items c.exponents.key.items c.args.t.now
    c.exponents-exponents.result.now
    c.numer.result c.denom.result c.exponents.i c.numer.ensures.value c.denom.ensures.value c.exponents-exponents.ensures.value c.exponents-test.false first
    second c.exponents.invariant.0
