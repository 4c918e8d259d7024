use Rattle.std.proofs.Common.{◌≡◌, refl, sym, subst}
use Rattle.gfan_lists.specs.declared.list.Asked.{Asked}
use Rattle.gfan_lists.specs.Asked.{names_asked}
use Rattle.gfan_lists.proofs.list.Asked.into_ring.Goals as goal

pub returns-in-Generators : goal.returns-in-Generators
returns-in-Generators c = subst (λ (a : Asked). c.in-Generators.ring ≡ names_asked a) (sym c.in-Generators.is) refl

pub returns : goal.returns
returns c = subst (λ (a : Asked). c.in-Basis.ring ≡ names_asked a) (sym c.in-Basis.is) refl
