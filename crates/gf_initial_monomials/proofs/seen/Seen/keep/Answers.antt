use Rattle.std.proofs.Common.{List, All, sym, subst}
use Rattle.std.proofs.lemmas.List.Elements.{All-push}
use Rattle.gf_poly.specs.Polynomial.{Terms}
use Rattle.gf_saturation_theory.specs.Saturations.{HasOneTermMember}
use Rattle.gf_initial_monomials.proofs.seen.Seen.keep.Goals as goal

pub invariant_of-self : goal.invariant_of-self
invariant_of-self c = subst (All (λ (fs : List Terms). HasOneTermMember c.self.inside.variables fs → ⊥)) (sym c.in_err-push.ensures.items) c.self.invariant

pub invariant_of-self-2 : goal.invariant_of-self-2
invariant_of-self-2 c = subst (All (λ (fs : List Terms). HasOneTermMember c.self.inside.variables fs → ⊥)) (sym c.in_ok-push.ensures.items)
    (All-push (λ (fs : List Terms). HasOneTermMember c.self.inside.variables fs → ⊥) c.self.inside.lists.items c.new.result c.self.invariant
    (λ member. c.requires (subst (λ n. HasOneTermMember n c.args.forms.items) c.self.view_is
    (subst (λ (fs : List Terms). HasOneTermMember c.self.inside.variables fs) c.new.ensures member))))
