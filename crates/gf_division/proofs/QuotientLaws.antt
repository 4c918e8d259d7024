-- Quotients as they are kept, and their sums.
-- To cite: quotient_added, sums-none, sums-more, sum_refused.
use Rattle.std.specs.Prelude.{◌≡◌, ℕ, zero, suc, ◌<◌, List, [], ◌∷◌, ◌++◌, length, Contains, slice_set}
use Rattle.std.specs.Global.{Vec}
use Rattle.std.proofs.Common.{arith, sym, ap, ◌∙◌, subst, get_or, append_assoc}
use Rattle.std.proofs.lemmas.List.{map_push, map-append}
use Rattle.gf_poly.specs.declared.Term.{Term}
use Rattle.gf_poly.specs.declared.error.PolyError.{PolyError}
use Rattle.gf_poly.specs.declared.error.PolyError.TheVariants as errors
use Rattle.gf_poly.specs.Polynomial.{Terms, SamePolynomial, IsDescending, HasVariables, KeepsVariables}
use Rattle.gf_poly.specs.Collecting.{IsLikeSumCause}
use Rattle.gf_poly.specs.Marking.{Each}
use Rattle.gf_ideal_theory.proofs.ListLaws.{Each-++}
use Rattle.gf_division.proofs.DescendingParts.{contains-midst}
use Rattle.gf_division.specs.Divisions.{with_quotient, lists_of, AreForms, AreSums, KeepForms, IsSumRefusal}

pub quotient_added : (vs : List (Vec Term)) (k : ℕ) (v w : Vec Term) (t : Term) → k < length vs → v ≡ get_or vs k v → w.items ≡ v.items ++ t ∷ [] →
    lists_of (slice_set vs k w) ≡ with_quotient (lists_of vs) k t
quotient_added [] k v w t l e q = absurd (omega arith)
quotient_added (u ∷ vs) zero v w t l e q = ap (λ (z : Terms). z ∷ lists_of vs) (q ∙ ap (λ (z : Vec Term). z.items ++ t ∷ []) e)
quotient_added (u ∷ vs) (suc k) v w t l e q = ap (λ (z : List Terms). u.items ∷ z) (quotient_added vs k v w t (omega arith) e q)

-- ---- sums

-- the sums of the quotients so far
pub record Summing (qs hs : List Terms) : Type 0 where
  pub sums : AreSums qs hs
  pub forms : KeepForms qs hs

sums-push : (qs hs : List Terms) (q h : Terms) → AreSums qs hs → SamePolynomial h q → AreSums (qs ++ q ∷ []) (hs ++ h ∷ [])
sums-push [] [] q h a s = (s, tt)
sums-push [] (k ∷ hs) q h a s = elim a [ ]
sums-push (p ∷ qs) [] q h a s = elim a [ ]
sums-push (p ∷ qs) (k ∷ hs) q h a s = (a.0, sums-push qs hs q h a.1 s)

forms-push : (n : ℕ) (hs : List Terms) (h : Terms) → AreForms n hs → IsDescending h → HasVariables n h → AreForms n (hs ++ h ∷ [])
forms-push n hs h f d v = Each-++ (λ (k : Terms). IsDescending k × HasVariables n k) hs (h ∷ []) f ((d, v), tt)

each-front : {A : Type 0} (P : A → Type 0) (xs ys : List A) → Each P (xs ++ ys) → Each P xs
each-front P [] ys h = tt
each-front P (x ∷ xs) ys h = (h.0, each-front P xs ys h.1)

each-back : {A : Type 0} (P : A → Type 0) (xs ys : List A) → Each P (xs ++ ys) → Each P ys
each-back P [] ys h = h
each-back P (x ∷ xs) ys h = each-back P xs ys h.1

pub summing-more : (vs : List (Vec Term)) (v : Vec Term) (hs ks : List Terms) (h : Terms) → SamePolynomial h v.items → IsDescending h →
    KeepsVariables v.items h → ks ≡ hs ++ h ∷ [] → Summing (lists_of vs) hs → Summing (lists_of (vs ++ v ∷ [])) ks
summing-more vs v hs ks h s d k e m =
    let q : lists_of (vs ++ v ∷ []) ≡ lists_of vs ++ v.items ∷ [] = map_push (λ (v : Vec Term). v.items) vs v in
    subst (λ (z : List Terms). Summing z ks) (sym q) (subst (λ (z : List Terms). Summing (lists_of vs ++ v.items ∷ []) z) (sym e) (record {
      sums = sums-push (lists_of vs) hs v.items h m.sums s;
      forms = record {
        at = λ n w. forms-push n hs h (m.forms.at n (each-front (HasVariables n) (lists_of vs) (v.items ∷ []) w)) d
            (k.at n (each-back (HasVariables n) (lists_of vs) (v.items ∷ []) w).0);
      };
    }))

-- the list that comes next is one of all
pub next_whole : (vs rest new all : List (Vec Term)) (v : Vec Term) → rest ≡ v ∷ new → vs ++ rest ≡ all → (vs ++ v ∷ []) ++ new ≡ all
next_whole vs rest new all v e h = append_assoc vs (v ∷ []) new ∙ ap (λ (z : List (Vec Term)). vs ++ z) (sym e) ∙ h

pub sum_refused : (vs rest new all : List (Vec Term)) (v : Vec Term) (e : PolyError) → rest ≡ v ∷ new → vs ++ rest ≡ all → IsLikeSumCause v.items e →
    IsSumRefusal (lists_of all) e
sum_refused vs rest new all v (errors.Overflow o) e h k = (
  v.items,
  subst (λ (z : List (Vec Term)). Contains (lists_of z) v.items)
      (ap (λ (z : List (Vec Term)). vs ++ z) (sym e) ∙ h) (subst (λ (z : List Terms). Contains z v.items)
      (sym (map-append (λ (v : Vec Term). v.items) vs (v ∷ new))) (contains-midst (lists_of vs) v.items (lists_of new))),
  k,
)
sum_refused vs rest new all v (errors.Exponent o) e h k = k
sum_refused vs rest new all v errors.Memory e h k = tt
