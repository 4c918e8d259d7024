use Rattle.std.proofs.Common.{◌≡◌, ◌++◌, ◌∷◌, flat_map, take}
use Rattle.gf_text.specs.PrintedSets.{polynomial_text}
use Rattle.gfan_common.proofs.printing.push_later_polynomials.Given as goal

-- the polynomials so far are added
abbrev pub invariant-polynomials : goal.invariant-polynomials
invariant-polynomials l = l.text.items ≡ l.initial.text.items ++ flat_map (λ v. 44 ∷ 10 ∷ polynomial_text l.ring v) (take l.polynomial-index l.polynomials)
