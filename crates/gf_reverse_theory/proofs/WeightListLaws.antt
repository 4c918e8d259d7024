-- The list of the monomials up to a weight: what is in it, and that it ascends.
-- To cite: among_below, below-weight, below-long, below-ascends. The rest are steps.
use Rattle.std.proofs.Common.{◌≡◌, ◌⊎◌, if◌then◌else◌, ℕ, zero, suc, ◌+◌, ◌-◌, ◌*◌, ◌<◌, ◌≤◌, ◌==◌, Bool, true, false, List, [], ◌∷◌, ◌++◌, map, length, arith}
use Rattle.std.proofs.Common.{refl, sym, ap, ◌∙◌, subst, inl, inr}
use Rattle.std.proofs.lemmas.Bool.{cases_lt}
use Rattle.std.proofs.lemmas.Bool.Decides.{nat_tests}
use Rattle.gf_exponents_theory.specs.Exponents.{Exponents, weight}
use Rattle.gf_exponents_theory.specs.Orders.{IsLexBelow, IsWeightedBelow}
use Rattle.gf_exponents_theory.proofs.ExponentsLaws.{eq_by}
use Rattle.gf_exponents_theory.proofs.OrderLaws.{lex-first, lex-later}
use Rattle.gf_ideal_theory.specs.Marks.{IsPositive}
use Rattle.gf_reverse_search.specs.Listing.{Among}
use Rattle.gf_reverse_theory.specs.LeadingNumber.{by_first, of_weight, below_weight}
use Rattle.gf_reverse_theory.proofs.NumberLaws.{AscendsBy}

-- ---- lists
among-append : {X : Type 0} (xs ys : List X) (x : X) → Among (xs ++ ys) x → Among xs x ⊎ Among ys x
among-append [] ys x j = inr j
among-append (z ∷ xs) ys x (inl e) = inl (inl e)
among-append (z ∷ xs) ys x (inr j) = elim (among-append xs ys x j) [ inl k ↦ inl (inr k) | inr k ↦ inr k ]

among-left : {X : Type 0} (xs ys : List X) (x : X) → Among xs x → Among (xs ++ ys) x
among-left (z ∷ xs) ys x (inl e) = inl e
among-left (z ∷ xs) ys x (inr j) = inr (among-left xs ys x j)
among-left [] ys x j = elim j [ ]

pub among-right : {X : Type 0} (xs ys : List X) (x : X) → Among ys x → Among (xs ++ ys) x
among-right [] ys x j = j
among-right (z ∷ xs) ys x j = inr (among-right xs ys x j)

among-map : {X Y : Type 0} (f : X → Y) (xs : List X) (y : Y) → Among (map f xs) y → (x : X) × Among xs x × (f x ≡ y)
among-map f [] y j = elim j [ ]
among-map f (x ∷ xs) y (inl e) = (x, inl refl, e)
among-map f (x ∷ xs) y (inr j) = let r = among-map f xs y j in (r.0, inr r.1, r.2)

among-mapped : {X Y : Type 0} (f : X → Y) (xs : List X) (x : X) → Among xs x → Among (map f xs) (f x)
among-mapped f [] x j = elim j [ ]
among-mapped f (z ∷ xs) x (inl e) = inl (ap f e)
among-mapped f (z ∷ xs) x (inr j) = inr (among-mapped f xs x j)

ascends-append : {X : Type 0} (lt : X → X → Type 0) (xs ys : List X) → AscendsBy lt xs → AscendsBy lt ys →
    ((x y : X) → Among xs x → Among ys y → lt x y) → AscendsBy lt (xs ++ ys)
ascends-append lt [] ys a b h = b
ascends-append lt (x ∷ xs) ys a b h = (
  λ y j. elim (among-append xs ys y j) [ inl k ↦ a.0 y k | inr k ↦ h x y (inl refl) k ],
  ascends-append lt xs ys a.1 b (λ z y j k. h z y (inr j) k),
)

ascends-map : {X Y : Type 0} (lt : X → X → Type 0) (gt : Y → Y → Type 0) (f : X → Y) → ((x y : X) → lt x y → gt (f x) (f y)) → (xs : List X) →
    AscendsBy lt xs → AscendsBy gt (map f xs)
ascends-map lt gt f h [] a = tt
ascends-map {X} {Y} lt gt f h (x ∷ xs) a = (λ y j. at y (among-map f xs y j), ascends-map lt gt f h xs a.1)
  where
    at : (y : Y) → ((z : X) × Among xs z × (f z ≡ y)) → gt (f x) y
    at y r = subst (gt (f x)) r.2 (h x r.0 (a.0 r.0 r.1))

-- weaker between members
ascends-within : {X : Type 0} (lt gt : X → X → Type 0) (xs : List X) → ((x y : X) → Among xs x → Among xs y → lt x y → gt x y) →
    AscendsBy lt xs → AscendsBy gt xs
ascends-within lt gt [] h a = tt
ascends-within lt gt (x ∷ xs) h a = (λ y j. h x y (inl refl) (inr j) (a.0 y j), ascends-within lt gt xs (λ y z j k. h y z (inr j) (inr k)) a.1)

-- ---- by the first exponent

-- x is an exponent below k before a monomial of what is left
record IsByFirst (others : ℕ → List Exponents) (r d k : ℕ) (x : Exponents) : Type 0 where
  first : ℕ
  small : first < k
  fits : r * first ≤ d
  rest : Exponents
  among : Among (others (d - r * first)) rest
  is : first ∷ rest ≡ x

zero_test : (a : ℕ) → a ≡ 0 → (a == 0) ≡ true
zero_test a e = grind (arith, nat_tests)

fits_or_not : (a d : ℕ) → (((a - d) == 0) ≡ true) × (a ≤ d) ⊎ (((a - d) == 0) ≡ false) × (d < a)
fits_or_not a d = at ((a - d) == 0) refl
  where
    at : (b : Bool) → ((a - d) == 0) ≡ b → (((a - d) == 0) ≡ true) × (a ≤ d) ⊎ (((a - d) == 0) ≡ false) × (d < a)
    at true e = inl (e, (let f = eq_by (a - d) 0 e in omega arith))
    at false e = inr (e, elim (cases_lt d a) [ inl l ↦ l | inr g ↦ absurd (let f : ((a - d) == 0) ≡ true = zero_test (a - d) (omega arith) in cc) ])

by_first-is : (others : ℕ → List Exponents) (r d k : ℕ) (x : Exponents) → Among (by_first others r d k) x → IsByFirst others r d k x
by_first-is others r d zero x j = elim j [ ]
by_first-is others r d (suc k) x j = at (among-append (by_first others r d k) (if (r * k - d) == 0 then map (λ (y : Exponents). k ∷ y) (others (d - r * k)) else
    []) x j) (λ i. by_first-is others r d k x i)
  where
    at : Among (by_first others r d k) x ⊎ Among (if (r * k - d) == 0 then map (λ (y : Exponents). k ∷ y) (others (d - r * k)) else []) x →
        (Among (by_first others r d k) x → IsByFirst others r d k x) → IsByFirst others r d (suc k) x
    at (inl i) rec = let q = rec i in record { first = q.first; small = omega (arith, q.small); fits = q.fits; rest = q.rest; among = q.among; is = q.is }
    at (inr i) rec = elim (fits_or_not (r * k) d) [
      | inr f ↦ absurd (subst (λ (b : Bool). Among (if b then map (λ (y : Exponents). k ∷ y) (others (d - r * k)) else []) x) f.0 i)
      | inl f ↦ (let q = among-map (λ (y : Exponents). k ∷ y) (others (d - r * k)) x
          (subst (λ (b : Bool). Among (if b then map (λ (y : Exponents). k ∷ y) (others (d - r * k)) else []) x) f.0 i) in
          record { first = k; small = omega arith; fits = f.1; rest = q.0; among = q.1; is = q.2 })
    ]

among_by_first : (others : ℕ → List Exponents) (r d k a : ℕ) (y : Exponents) → a < k → r * a ≤ d → Among (others (d - r * a)) y →
    Among (by_first others r d k) (a ∷ y)
among_by_first others r d zero a y l f j = absurd (omega arith)
among_by_first others r d (suc k) a y l f j = at (cases_lt a k) (λ m. among_by_first others r d k a y m f j)
  where
    last : a ≡ k → Among (if (r * k - d) == 0 then map (λ (z : Exponents). k ∷ z) (others (d - r * k)) else []) (a ∷ y)
    last e = subst (λ c. Among (if (r * c - d) == 0 then map (λ (z : Exponents). c ∷ z) (others (d - r * c)) else []) (a ∷ y)) e
        (elim (fits_or_not (r * a) d) [
          | inl g ↦ subst (λ (b : Bool). Among (if b then map (λ (z : Exponents). a ∷ z) (others (d - r * a)) else []) (a ∷ y)) (sym g.0)
              (among-mapped (λ (z : Exponents). a ∷ z) (others (d - r * a)) y j)
          | inr g ↦ absurd (let m = g.1 in omega arith)
        ])

    at : (a < k) ⊎ (k ≤ a) → (a < k → Among (by_first others r d k) (a ∷ y)) → Among (by_first others r d (suc k)) (a ∷ y)
    at (inl m) rec = among-left (by_first others r d k) _ (a ∷ y) (rec m)
    at (inr g) rec = among-right (by_first others r d k) _ (a ∷ y) (last (omega arith))

by_first-ascends : (others : ℕ → List Exponents) → ((d : ℕ) → AscendsBy IsLexBelow (others d)) → (r d k : ℕ) → AscendsBy IsLexBelow (by_first others r d k)
by_first-ascends others h r d zero = tt
by_first-ascends others h r d (suc k) =
    ascends-append IsLexBelow (by_first others r d k) (if (r * k - d) == 0 then map (λ (y : Exponents). k ∷ y) (others (d - r * k)) else
    []) (by_first-ascends others h r d k) (last ((r * k - d) == 0)) (λ x y i j. cross x y (by_first-is others r d k x i)
    (among-last ((r * k - d) == 0) y j))
  where
    last : (b : Bool) → AscendsBy IsLexBelow (if b then map (λ (y : Exponents). k ∷ y) (others (d - r * k)) else [])
    last true = ascends-map IsLexBelow IsLexBelow (λ (y : Exponents). k ∷ y) (λ x y l. lex-later k k x y refl l) (others (d - r * k)) (h (d - r * k))
    last false = tt

    among-last : (b : Bool) (y : Exponents) → Among (if b then map (λ (y : Exponents). k ∷ y) (others (d - r * k)) else []) y → (z : Exponents) × (k ∷ z ≡ y)
    among-last true y j = let q = among-map (λ (y : Exponents). k ∷ y) (others (d - r * k)) y j in (q.0, q.2)
    among-last false y j = elim j [ ]

    cross : (x y : Exponents) → IsByFirst others r d k x → ((z : Exponents) × (k ∷ z ≡ y)) → IsLexBelow x y
    cross x y q z = subst (λ (u : Exponents). IsLexBelow u y) q.is (subst (λ (v : Exponents). IsLexBelow (q.first ∷ q.rest) v) z.1
        (lex-first q.first k q.rest z.0 q.small))

-- ---- of one weight
of_weight-is : (r : List ℕ) (d : ℕ) (x : Exponents) → Among (of_weight r d) x → (weight r x ≡ d) × (length x ≡ length r)
of_weight-is [] zero x (inl e) = (refl, ap length (sym e))
of_weight-is [] zero x (inr j) = elim j [ ]
of_weight-is [] (suc d) x j = elim j [ ]
of_weight-is (r ∷ rs) d x j = at (by_first-is (of_weight rs) r d (suc d) x j) (λ e y i. of_weight-is rs e y i)
  where
    at : IsByFirst (of_weight rs) r d (suc d) x → ((e : ℕ) (y : Exponents) → Among (of_weight rs e) y → (weight rs y ≡ e) × (length y ≡ length rs)) →
        (weight (r ∷ rs) x ≡ d) × (length x ≡ length (r ∷ rs))
    at q rec = let p = rec (d - r * q.first) q.rest q.among in
        subst (λ (z : Exponents). (weight (r ∷ rs) z ≡ d) × (length z ≡ length (r ∷ rs))) q.is (
          (let f = q.fits in let e = p.0 in omega arith),
          (let e = p.1 in omega arith),
        )

pub among_of : (r : List ℕ) (x : Exponents) → IsPositive (length r) r → length x ≡ length r → Among (of_weight r (weight r x)) x
among_of [] [] p e = inl refl
among_of [] (a ∷ x) p e = absurd (omega arith)
among_of (r ∷ rs) [] p e = absurd (omega arith)
among_of (r ∷ rs) (a ∷ x) p e =
    among_by_first (of_weight rs) r (r * a + weight rs x) (suc (r * a + weight rs x)) a x (small r a (weight rs x) (p 0 (omega arith))) (omega arith)
    (subst (λ d. Among (of_weight rs d) x) (omega arith) (among_of rs x (λ i l. p (suc i) (omega arith)) (omega arith)))
  where
    small : (r a w : ℕ) → 1 ≤ r → a < suc (r * a + w)
    small r a w h = let g : a ≤ r * a = grind arith in omega arith

of_weight-ascends : (r : List ℕ) (d : ℕ) → AscendsBy IsLexBelow (of_weight r d)
of_weight-ascends [] zero = (λ y j. elim j [ ], tt)
of_weight-ascends [] (suc d) = tt
of_weight-ascends (r ∷ rs) d = by_first-ascends (of_weight rs) (of_weight-ascends rs) r d (suc d)

-- ---- below a weight
pub below-is : (r : List ℕ) (d : ℕ) (x : Exponents) → Among (below_weight r d) x → (weight r x < d) × (length x ≡ length r)
below-is r zero x j = elim j [ ]
below-is r (suc d) x j = elim (among-append (below_weight r d) (of_weight r d) x j) [
  | inl i ↦ (let p = below-is r d x i in (omega (arith, p.0), p.1))
  | inr i ↦ (let p = of_weight-is r d x i in (omega (arith, p.0), p.1))
]

pub among_below : (r : List ℕ) (d : ℕ) (x : Exponents) → IsPositive (length r) r → length x ≡ length r → weight r x < d → Among (below_weight r d) x
among_below r zero x p e l = absurd (omega arith)
among_below r (suc d) x p e l = elim (cases_lt (weight r x) d) [
  | inl m ↦ among-left (below_weight r d) (of_weight r d) x (among_below r d x p e m)
  | inr g ↦ among-right (below_weight r d) (of_weight r d) x (subst (λ k. Among (of_weight r k) x) (omega arith) (among_of r x p e))
]

pub below-ascends : (r : List ℕ) (d : ℕ) → AscendsBy (IsWeightedBelow r) (below_weight r d)
below-ascends r zero = tt
below-ascends r (suc d) =
    ascends-append (IsWeightedBelow r) (below_weight r d) (of_weight r d) (below-ascends r d)
    (ascends-within IsLexBelow (IsWeightedBelow r) (of_weight r d) (λ x y i j l. inr ((of_weight-is r d x i).0 ∙ sym (of_weight-is r d y j).0, l))
    (of_weight-ascends r d))
    (λ x y i j. inl (let p = (below-is r d x i).0 in let q = (of_weight-is r d y j).0 in omega arith))
