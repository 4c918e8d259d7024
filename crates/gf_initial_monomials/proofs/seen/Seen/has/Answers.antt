use Rattle.std.proofs.Common.{◌∙◌, List, All, sym, subst}
use Rattle.gf_poly.specs.Polynomial.{Terms}
use Rattle.gf_saturation_theory.specs.Saturations.{HasOneTermMember}
use Rattle.gf_initial_monomials.proofs.seen.Seen.has.Goals as goal

pub returns-then-is_same_list : goal.returns-then-is_same_list
returns-then-is_same_list c = λ yes member.
    let free = subst (All (λ (fs : List Terms). HasOneTermMember c.self.inside.variables fs → ⊥)) (sym c.as_slice-lists.ensures.value) c.self.invariant in
    let is = sym c.index-lists-i.is ∙ sym c.items.ensures ∙ c.is_same_list.ensures c.if-is_same_list.true in
    free c.lists.i c.index-lists-i.result c.lists-test.true (subst (λ (fs : List Terms). HasOneTermMember c.self.inside.variables fs) (sym is)
    (subst (λ n. HasOneTermMember n c.args.forms.now) (sym c.self.view_is) member))
