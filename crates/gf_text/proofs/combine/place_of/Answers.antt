use Rattle.std.proofs.Common.{rules}
use Rattle.std.proofs.lemmas.Fn.{always_returns_same}
use Rattle.gf_exponents_theory.specs.Orders.{deglex}
use Rattle.gf_poly.specs.declared.Term.{Term}
use Rattle.gf_text.proofs.CombiningLaws.{found_place}
use Rattle.gf_text.proofs.combine.place_of.Goals as goal

pub returns : goal.returns
returns c =
    let f = c.args.terms.now in
    let e = c.args.at.now in
    let found = c.binary_search_by.ensures.position (λ (t : Term). deglex e t.mono) (always_returns_same _ _ _ (λ a r g h. search rules)) in
    rw c.ok.ensures.value (found_place f e c.binary_search_by.result c.requires.descending c.requires.same_variables c.binary_search_by.ensures.bound found)
