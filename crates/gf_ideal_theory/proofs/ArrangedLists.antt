-- Bases that are the same up to the order and the form of their members are equal lists, once both are arranged.
-- To cite: arranged_equal. The rest are steps.
use Rattle.std.proofs.Common.{◌≡◌, ◌⊎◌, ℕ, List, [], ◌∷◌, Contains, arith, refl, sym, ap, ◌∙◌, subst, inl, inr}
use Rattle.gf_exponents_theory.specs.Exponents.{Exponents}
use Rattle.gf_exponents_theory.specs.Orders.{IsLexBelow}
use Rattle.gf_exponents_theory.proofs.ExponentsLaws.{same-refl, entries_same}
use Rattle.gf_exponents_theory.proofs.OrderLaws.{lex-strict}
use Rattle.gf_int_theory.proofs.ListLaws.{Contains-here}
use Rattle.gf_poly.specs.Marking.{MarkedPolynomial}
use Rattle.gf_poly.proofs.MonomialLaws.{same_lists}
use Rattle.gf_poly.proofs.CoefficientLaws.{descending_unique}
use Rattle.gf_ideal_theory.specs.Bases.{IsTwin, AreSameBasis, IsCanonical, HaveAscendingMarks, AreArranged}
use Rattle.gf_ideal_theory.proofs.ListLaws.{Contains-there, Contains-cases, contained_each}

-- twins as a program keeps them are equal
twins_equal : (n : ℕ) (b c : MarkedPolynomial) → IsCanonical n b → IsCanonical n c → IsTwin b c → b ≡ c
twins_equal n b c h k t = both b c (descending_unique n b.poly c.poly h.variables k.variables h.descending k.descending t.poly)
    (same_lists b.head c.head (h.head ∙ sym k.head) (entries_same b.head c.head t.head))
  where
    both : (b c : MarkedPolynomial) → b.poly ≡ c.poly → b.head ≡ c.head → b ≡ c
    both b c p q = λ i. record { poly = p i; head = q i }

-- the same members
abbrev HasThese : List MarkedPolynomial → List MarkedPolynomial → Type 0
HasThese bs cs = (b : MarkedPolynomial) → Contains bs b → Contains cs b

never : (x : Exponents) → IsLexBelow x x → ⊥
never x l = lex-strict.irreflexive x x (same-refl x) l

-- the first of one ascending list is that of the other
first_equal : (b c : MarkedPolynomial) (bs cs : List MarkedPolynomial) → HaveAscendingMarks (b ∷ bs) → HaveAscendingMarks (c ∷ cs) →
    Contains (c ∷ cs) b → Contains (b ∷ bs) c → b ≡ c
first_equal b c bs cs h k p q = at (Contains-cases c b cs p) (Contains-cases b c bs q)
  where
    at : (c ≡ b) ⊎ Contains cs b → (b ≡ c) ⊎ Contains bs c → b ≡ c
    at (inl e) r = sym e
    at (inr s) (inl e) = e
    at (inr s) (inr t) = absurd (never b.head (lex-strict.transitive b.head c.head b.head (contained_each (λ (d : MarkedPolynomial). IsLexBelow b.head d.head)
        bs h.0 c t) (contained_each (λ (d : MarkedPolynomial). IsLexBelow c.head d.head) cs k.0 b s)))

-- the rest of the one is in the rest of the other
rest_there : (b c : MarkedPolynomial) (bs cs : List MarkedPolynomial) → HaveAscendingMarks (b ∷ bs) → b ≡ c →
    HasThese (b ∷ bs) (c ∷ cs) → HasThese bs cs
rest_there b c bs cs h e t d q = at (Contains-cases c d cs (t d (Contains-there b d bs q)))
  where
    at : (c ≡ d) ⊎ Contains cs d → Contains cs d
    at (inr k) = k
    at (inl f) = absurd (never b.head (subst (λ (x : MarkedPolynomial). IsLexBelow b.head x.head)
        (sym (e ∙ f)) (contained_each (λ (x : MarkedPolynomial). IsLexBelow b.head x.head) bs h.0 d q)))

ascending_equal : (bs cs : List MarkedPolynomial) → HaveAscendingMarks bs → HaveAscendingMarks cs → HasThese bs cs →
    HasThese cs bs → bs ≡ cs
ascending_equal [] [] h k t u = refl
ascending_equal [] (c ∷ cs) h k t u = absurd (omega (arith, (u c (Contains-here c cs)).1))
ascending_equal (b ∷ bs) [] h k t u = absurd (omega (arith, (t b (Contains-here b bs)).1))
ascending_equal (b ∷ bs) (c ∷ cs) h k t u = at (first_equal b c bs cs h k (t b (Contains-here b bs)) (u c (Contains-here c cs))) (ascending_equal bs cs h.1 k.1)
  where
    at : b ≡ c → (HasThese bs cs → HasThese cs bs → bs ≡ cs) → (b ∷ bs) ≡ (c ∷ cs)
    at e r = ap (λ (x : MarkedPolynomial). x ∷ bs) e ∙ ap (λ (xs : List MarkedPolynomial). c ∷ xs) (r (rest_there b c bs cs h e t)
        (rest_there c b cs bs k (sym e) u))

-- the same basis, twice arranged, is one list
pub arranged_equal : (n : ℕ) (bs cs : List MarkedPolynomial) → AreArranged n bs → AreArranged n cs →
    AreSameBasis bs cs → bs ≡ cs
arranged_equal n bs cs h k s = ascending_equal bs cs h.ascending k.ascending there back
  where
    there : HasThese bs cs
    there b q = let c = s.there b q in subst (λ (x : MarkedPolynomial). Contains cs x) (sym (twins_equal n b c.0 (h.canonical b q) (k.canonical c.0 c.1) c.2))
        c.1

    back : HasThese cs bs
    back c q = let b = s.back c q in subst (λ (x : MarkedPolynomial). Contains bs x) (twins_equal n b.0 c (h.canonical b.0 b.1) (k.canonical c q) b.2) b.1
