use Rattle.std.proofs.Common.{refl, sym, ap, subst}
use Rattle.gf_poly.specs.Polynomial.{Terms}
use Rattle.gf_whole_division.specs.Values.{IsMultipleOf}
use Rattle.gf_whole_division.specs.Reductions.{terms_of}
use Rattle.gf_whole_division.proofs.FactorLaws.{multiple_refl}
use Rattle.gf_whole_division.proofs.dividend.WholeDividend.shorten.Goals as goal
use Rattle.gf_whole_division.proofs.dividend.WholeDividend.shorten.Goals.{in-Some-last, in-None-last}

pub returns-in-None : goal.returns-in-None
returns-in-None c = multiple_refl (terms_of c.args.self.now) (terms_of c.args.self.now) (λ e. refl)

pub returns-then-words-saturating_add : goal.returns-then-words-saturating_add
returns-then-words-saturating_add c = multiple_refl (terms_of c.args.self.now) (terms_of c.args.self.now) (λ e. refl)

pub returns : goal.returns
returns c = elim c.match-last-2.branch [
  | in-Some-last w ↦ subst (λ (z : Terms). IsMultipleOf z (terms_of c.args.self.now)) (sym (ap terms_of w.self-is)) c.in_ok-divide.ensures
  | in-None-last w ↦ subst (λ (z : Terms). IsMultipleOf z (terms_of c.args.self.now)) (sym (ap terms_of w.self-is)) c.in_ok-divide.ensures
]
