use Rattle.std.proofs.Common.{◌≡◌, length, sym, subst, ap, ◌∙◌}
use Rattle.gf_exponents_theory.specs.Exponents.{Exponents, join, minus, Divides}
use Rattle.gf_exponents_theory.proofs.ExponentsLaws.{plus_comm}
use Rattle.gf_poly.proofs.MonomialLaws.{length-join, length-minus, divides_by_entries}
use Rattle.gf_dividing.proofs.DividingLaws.{shared_divides, rest_divides, rest_long, shared_right}
use Rattle.gf_saturate.proofs.vectors.divided.Goals as goal

rest : (x y m r : Exponents) → m ≡ join x y → r ≡ minus m y → r ≡ minus (join x y) y
rest x y m r e f = f ∙ ap (λ z. minus z y) e

all : (x y m r q : Exponents) → m ≡ join x y → r ≡ minus m y → q ≡ minus x r → q ≡ minus x (minus (join x y) y)
all x y m r q e f g = g ∙ ap (minus x) (rest x y m r e f)

long : (x y m r q : Exponents) → m ≡ join x y → r ≡ minus m y → q ≡ minus x r → length x ≡ length y → length q ≡ length x
long x y m r q e f g l = ap length (all x y m r q e f g) ∙ length-minus x (minus (join x y) y) (sym (rest_long x y l))

pub quotient-first-requires-clause-same_variables : goal.quotient-first-requires-clause-same_variables
quotient-first-requires-clause-same_variables c = ap length c.lcm-multiple.ensures ∙ length-join c.args.x.now c.args.y.now c.requires ∙ c.requires

pub quotient-first-requires-clause-divides : goal.quotient-first-requires-clause-divides
quotient-first-requires-clause-divides c = subst (Divides c.args.y.now) (sym c.lcm-multiple.ensures) (shared_divides c.args.x.now c.args.y.now)

pub quotient-shared-requires-clause-same_variables : goal.quotient-shared-requires-clause-same_variables
quotient-shared-requires-clause-same_variables c =
    sym (ap length (rest c.args.x.now c.args.y.now c.lcm-multiple.result c.quotient-first.result c.lcm-multiple.ensures c.quotient-first.ensures.value)
    ∙ rest_long c.args.x.now c.args.y.now c.requires)

pub quotient-shared-requires-clause-divides : goal.quotient-shared-requires-clause-divides
quotient-shared-requires-clause-divides c =
    subst (λ z. Divides z c.args.x.now)
    (sym (rest c.args.x.now c.args.y.now c.lcm-multiple.result c.quotient-first.result c.lcm-multiple.ensures c.quotient-first.ensures.value))
    (rest_divides c.args.x.now c.args.y.now)

pub quotient-second-requires-clause-same_variables : goal.quotient-second-requires-clause-same_variables
quotient-second-requires-clause-same_variables c =
    sym (long c.args.x.now c.args.y.now c.lcm-multiple.result c.quotient-first.result c.quotient-shared.result c.lcm-multiple.ensures
    c.quotient-first.ensures.value c.quotient-shared.ensures.value c.requires ∙ c.requires)

pub quotient-second-requires-clause-divides : goal.quotient-second-requires-clause-divides
quotient-second-requires-clause-divides c =
    subst (λ z. Divides z c.args.y.now)
    (sym (all c.args.x.now c.args.y.now c.lcm-multiple.result c.quotient-first.result c.quotient-shared.result c.lcm-multiple.ensures
    c.quotient-first.ensures.value c.quotient-shared.ensures.value))
    (divides_by_entries (minus c.args.x.now (minus (join c.args.x.now c.args.y.now) c.args.y.now)) c.args.y.now (shared_right c.args.x.now c.args.y.now))

pub returns : goal.returns
returns c =
    let shared = long c.args.x.now c.args.y.now c.lcm-multiple.result c.quotient-first.result c.quotient-shared.result c.lcm-multiple.ensures
    c.quotient-first.ensures.value c.quotient-shared.ensures.value c.requires in
    record {
      by = c.quotient-shared.result;
      long = shared;
      first_long =
          ap length (rest c.args.x.now c.args.y.now c.lcm-multiple.result c.quotient-first.result c.lcm-multiple.ensures c.quotient-first.ensures.value)
          ∙ rest_long c.args.x.now c.args.y.now c.requires;
      second_long =
          ap length c.quotient-second.ensures.value ∙ length-minus c.args.y.now c.quotient-shared.result (sym (shared ∙ c.requires)) ∙ sym c.requires;
      first = c.quotient-shared.ensures.product;
      second = plus_comm c.quotient-shared.result c.quotient-second.result ∙ c.quotient-second.ensures.product;
    }
