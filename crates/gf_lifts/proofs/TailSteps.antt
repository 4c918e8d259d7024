-- The tail of one lift.
-- To cite: lifts_width, lift_variables, ArePassedOver, passed_over, passed_over_end, reduced_at.
use Rattle.std.proofs.Common.{◌≡◌, ◌⊎◌, ℕ, ◌+◌, ◌<◌, ◌≤◌, false, Some, List, [], ◌∷◌, ◌++◌, Contains, length, take, get_or, sym, ap, ◌∙◌, subst, inl, inr, eqb}
use Rattle.std.proofs.lemmas.Bool.{cases_eq, ne_eqb, false≢true}
use Rattle.std.proofs.lemmas.List.{take_more, take_all}
use Rattle.gf_exponents_theory.specs.Exponents.{Exponents, same}
use Rattle.gf_exponents_theory.proofs.ExponentsLaws.{same_of}
use Rattle.gf_poly.specs.declared.Term.{Term}
use Rattle.gf_poly.specs.Polynomial.{Terms, HasVariables}
use Rattle.gf_poly.specs.Marking.{MarkedPolynomial, HaveVariables, HasMarkedTerm, head_of}
use Rattle.gf_ideal_theory.specs.Reduction.{IsDivisible}
use Rattle.gf_ideal_theory.proofs.ListLaws.{Each-++}
use Rattle.gf_ideal_theory.specs.WorkLists.{IsReducedTail}
use Rattle.gf_division.specs.Autoreduction.{ShareSomeVariables, IsKeptForm}
use Rattle.gf_division.specs.Reducers.{AreIrreducible, IsBeside}
use Rattle.gf_division.specs.Remainders.{HasTailReached}
use Rattle.gf_division.proofs.ReducerLaws.{member_at, members_equal, member_contained, member_variables}
use Rattle.gf_division.proofs.StepLaws.{head_length}
use Rattle.gf_division.proofs.TailLaws.{head_at}
use Rattle.gf_lifts.specs.LiftTails.{IsReducedLift, IsReducedLiftAt}

-- the lift at the index is a member, with the variables
lift_width : (ls : List MarkedPolynomial) (b : MarkedPolynomial) (i : ℕ) (v : ShareSomeVariables ls) → i < length ls → b ≡ get_or ls i b → HasMarkedTerm b →
    length b.head ≡ v.n
lift_width ls b i v l q m = head_length v.n b (member_variables v.n ls b v.each (member_contained ls i b (member_at ls i b l q))) m

pub lifts_width : (ls : List MarkedPolynomial) (b : MarkedPolynomial) (h : Exponents) (i : ℕ) → ShareSomeVariables ls → i < length ls → b ≡ get_or ls i b →
    HasMarkedTerm b → h ≡ b.head → HaveVariables (length h) ls
lifts_width ls b h i v l q m e = subst (λ (k : ℕ). HaveVariables k ls) (sym (ap length e ∙ lift_width ls b i v l q m)) v.each

pub lift_variables : (ls : List MarkedPolynomial) (b : MarkedPolynomial) (h : Exponents) (f : Terms) (i : ℕ) → ShareSomeVariables ls → i < length ls →
    b ≡ get_or ls i b → HasMarkedTerm b → h ≡ b.head → f ≡ b.poly → HasVariables (length h) f
lift_variables ls b h f i v l q m e d = subst (HasVariables (length h)) (sym d) (member_variables (length h) ls b (lifts_width ls b h i v l q m e)
    (member_contained ls i b (member_at ls i b l q)))

-- no mark divides an unmarked term before the index i
abbrev pub ArePassedOver : List MarkedPolynomial → Exponents → ℕ → Terms → Type 0
ArePassedOver ls h i f = AreIrreducible ls (Some h) (take i f)

-- nor one at the index k, which is the marked one or is tried
pub passed_over : (ls : List MarkedPolynomial) (b : MarkedPolynomial) (k m : ℕ) (f : Terms) (t : Term) → f ≡ b.poly → k < length f → t ≡ get_or f k t →
    head_of b.poly m ≡ b.head → (eqb k m ≡ false → IsDivisible (Contains ls) t.mono → ⊥) → ArePassedOver ls b.head k f → ArePassedOver ls b.head (k + 1) f
passed_over ls b k m f t q l e h n p = subst (AreIrreducible ls (Some b.head)) (sym (take_more f k t l ∙ ap (λ (z : Term). take k f ++ z ∷ []) (sym e)))
    (Each-++ (λ (z : Term). IsBeside (Some b.head) z.mono → IsDivisible (Contains ls) z.mono → ⊥) (take k f) (t ∷ []) p (at (cases_eq k m), tt))
  where
    at : (k ≡ m) ⊎ (k ≡ m → ⊥) → same t.mono b.head ≡ false → IsDivisible (Contains ls) t.mono → ⊥
    at (inl r) s d = false≢true (sym s ∙ same_of t.mono b.head (sym (head_at f k t l e) ∙ ap (λ (z : Terms). head_of z k) q ∙ ap (head_of b.poly) r ∙ h))
    at (inr r) s d = n (ne_eqb k m r) d

pub passed_over_end : (ls : List MarkedPolynomial) (b : MarkedPolynomial) (k : ℕ) (f : Terms) → f ≡ b.poly → length f ≤ k → ArePassedOver ls b.head k f →
    AreIrreducible ls (Some b.head) b.poly
passed_over_end ls b k f q l p = subst (AreIrreducible ls (Some b.head)) (take_all k f l ∙ q) p

-- the lift with its tail reduced
pub reduced_at : (ls : List MarkedPolynomial) (b c : MarkedPolynomial) (i : ℕ) → i < length ls → b ≡ get_or ls i b → IsReducedTail ls b c →
    HasTailReached ls b c → IsKeptForm b c → IsReducedLiftAt ls i c
reduced_at ls b c i l q t r k = record {
  at = λ x y. subst (λ (u : MarkedPolynomial). IsReducedLift ls u c) (members_equal ls i b x (member_at ls i b l q) y)
      (record { head = r.head; reached = r.reached; irreducible = t.irreducible; kept = k });
}
