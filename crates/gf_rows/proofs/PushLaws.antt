-- Lists of terms, of polynomials and of members, one further.
use Rattle.std.proofs.Common.{◌≡◌, ℕ, List, [], ◌∷◌, ◌++◌, length, sym, subst}
use Rattle.gf_poly.specs.declared.Term.{Term}
use Rattle.gf_poly.specs.Polynomial.{Terms, HasVariables}
use Rattle.gf_poly.specs.Marking.{MarkedPolynomial, Each, HaveVariables}
use Rattle.gf_poly.proofs.DescendingLaws.{HasVariables-push}

each_push : {A : Type 0} (P : A → Type 0) (xs : List A) (x : A) → Each P xs → P x → Each P (xs ++ x ∷ [])
each_push P [] x h p = (p, tt)
each_push P (y ∷ xs) x h p = (h.0, each_push P xs x h.1 p)

pub terms_push : (n : ℕ) (old new : Terms) (t : Term) → new ≡ old ++ t ∷ [] → HasVariables n old → length t.mono ≡ n → HasVariables n new
terms_push n old new t e h l = subst (HasVariables n) (sym e) (HasVariables-push n old t h l)

pub polys_push : (n : ℕ) (old new : List Terms) (f : Terms) → new ≡ old ++ f ∷ [] → Each (HasVariables n) old → HasVariables n f → Each (HasVariables n) new
polys_push n old new f e h p = subst (Each (HasVariables n)) (sym e) (each_push (HasVariables n) old f h p)

pub members_push : (n : ℕ) (old new : List MarkedPolynomial) (b : MarkedPolynomial) → new ≡ old ++ b ∷ [] → HaveVariables n old → HasVariables n b.poly →
    HaveVariables n new
members_push n old new b e h p = subst (HaveVariables n) (sym e) (each_push (λ (c : MarkedPolynomial). HasVariables n c.poly) old b h p)
