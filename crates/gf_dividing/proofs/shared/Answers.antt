use Rattle.std.proofs.Common.{◌≡◌, ◌≤◌, length, sym, subst, ap, ◌∙◌}
use Rattle.gf_exponents_theory.specs.Exponents.{Exponents, entry, join, minus, Divides}
use Rattle.gf_poly.proofs.MonomialLaws.{length-join, length-minus}
use Rattle.gf_dividing.proofs.DividingLaws.{shared_divides, rest_divides, rest_long, shared_left, shared_right, shared_greatest}
use Rattle.gf_dividing.proofs.shared.Goals as goal

rest : (x y m r : Exponents) → m ≡ join x y → r ≡ minus m y → r ≡ minus (join x y) y
rest x y m r e f = f ∙ ap (λ z. minus z y) e

all : (x y m r q : Exponents) → m ≡ join x y → r ≡ minus m y → q ≡ minus x r → q ≡ minus x (minus (join x y) y)
all x y m r q e f g = g ∙ ap (minus x) (rest x y m r e f)

pub quotient-rest-requires-clause-same_variables : goal.quotient-rest-requires-clause-same_variables
quotient-rest-requires-clause-same_variables c = ap length c.lcm-multiple.ensures ∙ length-join c.args.x.now c.args.y.now c.requires ∙ c.requires

pub quotient-rest-requires-clause-divides : goal.quotient-rest-requires-clause-divides
quotient-rest-requires-clause-divides c = subst (Divides c.args.y.now) (sym c.lcm-multiple.ensures) (shared_divides c.args.x.now c.args.y.now)

pub quotient-requires-clause-same_variables : goal.quotient-requires-clause-same_variables
quotient-requires-clause-same_variables c =
    sym (ap length (rest c.args.x.now c.args.y.now c.lcm-multiple.result c.quotient-rest.result c.lcm-multiple.ensures c.quotient-rest.ensures.value)
    ∙ rest_long c.args.x.now c.args.y.now c.requires)

pub quotient-requires-clause-divides : goal.quotient-requires-clause-divides
quotient-requires-clause-divides c =
    subst (λ z. Divides z c.args.x.now)
    (sym (rest c.args.x.now c.args.y.now c.lcm-multiple.result c.quotient-rest.result c.lcm-multiple.ensures c.quotient-rest.ensures.value))
    (rest_divides c.args.x.now c.args.y.now)

pub returns-clause-long : goal.returns-clause-long
returns-clause-long c =
    ap length (all c.args.x.now c.args.y.now c.lcm-multiple.result c.quotient-rest.result c.quotient.result c.lcm-multiple.ensures
    c.quotient-rest.ensures.value c.quotient.ensures.value)
    ∙ length-minus c.args.x.now (minus (join c.args.x.now c.args.y.now) c.args.y.now) (sym (rest_long c.args.x.now c.args.y.now c.requires))

pub returns-clause-left : goal.returns-clause-left
returns-clause-left c k =
    subst (λ z. entry z k ≤ entry c.args.x.now k)
    (sym (all c.args.x.now c.args.y.now c.lcm-multiple.result c.quotient-rest.result c.quotient.result c.lcm-multiple.ensures
    c.quotient-rest.ensures.value c.quotient.ensures.value)) (shared_left c.args.x.now c.args.y.now k)

pub returns-clause-right : goal.returns-clause-right
returns-clause-right c k =
    subst (λ z. entry z k ≤ entry c.args.y.now k)
    (sym (all c.args.x.now c.args.y.now c.lcm-multiple.result c.quotient-rest.result c.quotient.result c.lcm-multiple.ensures
    c.quotient-rest.ensures.value c.quotient.ensures.value)) (shared_right c.args.x.now c.args.y.now k)

pub returns-clause-greatest : goal.returns-clause-greatest
returns-clause-greatest c j k l m =
    subst (λ z. j ≤ entry z k)
    (sym (all c.args.x.now c.args.y.now c.lcm-multiple.result c.quotient-rest.result c.quotient.result
    c.lcm-multiple.ensures c.quotient-rest.ensures.value c.quotient.ensures.value))
    (shared_greatest c.args.x.now c.args.y.now j k l m)
