-- Lists that match index by index.
-- To cite: matched-from, matched-to, matched-map, matched-apart, matched-push.
use Rattle.std.proofs.Common.{◌≡◌, ◌⊎◌, List, [], ◌∷◌, Contains, arith, sym, subst, inl, inr, ◌++◌}
use Rattle.gf_exponents_theory.specs.Exponents.{Exponents, NoMultiple}
use Rattle.gf_int_theory.proofs.ListLaws.{Contains-here}
use Rattle.gf_poly.specs.Marking.{MarkedPolynomial, Each}
use Rattle.gf_ideal_theory.specs.Bases.{AreApart}
use Rattle.gf_ideal_theory.proofs.ListLaws.{Contains-there, Contains-cases}
use Rattle.gf_initial_theory.specs.Parts.{Matching}

-- an element of the second list stands over one of the first
pub matched-from : {A B : Type 0} (R : A → B → Type 0) (xs : List A) (ys : List B) → Matching R xs ys → (y : B) →
    Contains ys y → (x : A) × Contains xs x × R x y
matched-from R [] [] h y c = absurd (omega (arith, c.1))
matched-from R [] (z ∷ ys) h y c = elim h [ ]
matched-from R (x ∷ xs) [] h y c = elim h [ ]
matched-from {A} {B} R (x ∷ xs) (z ∷ ys) h y c = at (Contains-cases z y ys c) (λ k. matched-from R xs ys h.1 y k)
  where
    at : (z ≡ y) ⊎ Contains ys y → (Contains ys y → (x : A) × Contains xs x × R x y) →
        (w : A) × Contains (x ∷ xs) w × R w y
    at (inl e) r = (x, Contains-here x xs, subst (λ (w : B). R x w) e h.0)
    at (inr k) r = let q = r k in (q.0, Contains-there x q.0 xs q.1, q.2)

-- and back
pub matched-to : {A B : Type 0} (R : A → B → Type 0) (xs : List A) (ys : List B) → Matching R xs ys → (x : A) →
    Contains xs x → (y : B) × Contains ys y × R x y
matched-to R [] [] h x c = absurd (omega (arith, c.1))
matched-to R [] (z ∷ ys) h x c = elim h [ ]
matched-to R (w ∷ xs) [] h x c = elim h [ ]
matched-to {A} {B} R (w ∷ xs) (z ∷ ys) h x c = at (Contains-cases w x xs c) (λ k. matched-to R xs ys h.1 x k)
  where
    at : (w ≡ x) ⊎ Contains xs x → (Contains xs x → (y : B) × Contains ys y × R x y) →
        (y : B) × Contains (z ∷ ys) y × R x y
    at (inl e) r = (z, Contains-here z ys, subst (λ (v : A). R v z) e h.0)
    at (inr k) r = let q = r k in (q.0, Contains-there z q.0 ys q.1, q.2)

-- what follows at each index
pub matched-map : {A B : Type 0} (R S : A → B → Type 0) (xs : List A) (ys : List B) →
    ((x : A) (y : B) → Contains xs x → R x y → S x y) → Matching R xs ys → Matching S xs ys
matched-map R S [] [] w h = tt
matched-map R S [] (y ∷ ys) w h = elim h [ ]
matched-map R S (x ∷ xs) [] w h = elim h [ ]
matched-map R S (x ∷ xs) (y ∷ ys) w h = (w x y (Contains-here x xs) h.0, matched-map R S xs ys (λ a b c r. w a b (Contains-there x a xs c) r) h.1)

-- members with the same marks are apart too
pub matched-apart : (R : MarkedPolynomial → MarkedPolynomial → Type 0) (bs cs : List MarkedPolynomial) →
    ((b c : MarkedPolynomial) → R b c → c.head ≡ b.head) → Matching R bs cs → AreApart bs → AreApart cs
matched-apart R [] [] e h a = tt
matched-apart R [] (c ∷ cs) e h a = elim h [ ]
matched-apart R (b ∷ bs) [] e h a = elim h [ ]
matched-apart R (b ∷ bs) (c ∷ cs) e h a = (each bs cs h.1 a.0, matched-apart R bs cs e h.1 a.1)
  where
    each : (xs ys : List MarkedPolynomial) → Matching R xs ys →
        Each (λ (d : MarkedPolynomial). NoMultiple b.head d.head × NoMultiple d.head b.head) xs →
        Each (λ (d : MarkedPolynomial). NoMultiple c.head d.head × NoMultiple d.head c.head) ys
    each [] [] m k = tt
    each [] (y ∷ ys) m k = elim m [ ]
    each (x ∷ xs) [] m k = elim m [ ]
    each (x ∷ xs) (y ∷ ys) m k = (moved (e b c h.0) (e x y m.0) k.0, each xs ys m.1 k.1)
      where
        moved : {p q r s : Exponents} → p ≡ q → r ≡ s → NoMultiple q s × NoMultiple s q → NoMultiple p r × NoMultiple r p
        moved {p} {q} {r} {s} i j k =
            let two : NoMultiple p s × NoMultiple s p = subst (λ (z : Exponents). NoMultiple z s × NoMultiple s z) (sym i) k in
            subst (λ (z : Exponents). NoMultiple p z × NoMultiple z p) (sym j) two

-- one index more
pub matched-push : {A B : Type 0} (R : A → B → Type 0) (xs : List A) (ys : List B) (x : A) (y : B) → Matching R xs ys → R x y →
    Matching R (xs ++ x ∷ []) (ys ++ y ∷ [])
matched-push R [] [] x y m r = (r, tt)
matched-push R [] (z ∷ ys) x y m r = elim m [ ]
matched-push R (w ∷ xs) [] x y m r = elim m [ ]
matched-push R (w ∷ xs) (z ∷ ys) x y m r = (m.0, matched-push R xs ys x y m.1 r)
