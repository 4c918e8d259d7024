-- What a run on the parts begins with: the monomials and the parts, as they are kept.
-- To cite: split_rising, split_clear, IsStart, split_start.
use Rattle.std.proofs.Common.{◌≡◌, ◌⊎◌, ℕ, ◌+◌, ◌<◌, ◌≤◌, Bool, true, false, if◌then◌else◌, List, [], ◌∷◌, ◌++◌, length, map, get_or, Contains, ℤ, arith, refl}
use Rattle.std.proofs.Common.{sym, ap, ◌∙◌, subst, inl, inr}
use Rattle.std.proofs.lemmas.Bool.{cases_lt, false≢true}
use Rattle.std.proofs.lemmas.List.{append-nil, map_push, get_or_append_left, get_or_push}
use Rattle.std.proofs.lemmas.List.Elements.{Contains-append_left, Contains-push, Contains-push_cases}
use Rattle.gf_int_theory.proofs.ListLaws.{Contains-here}
use Rattle.gf_frac.specs.Fraction.{◌+ℚ◌, ◌*ℚ◌, zero_ℚ, one_ℚ}
use Rattle.gf_frac.proofs.FractionLaws.{+ℚ-zero, one-*ℚ, zero_or_not}
use Rattle.gf_exponents_theory.specs.Exponents.{Exponents, same, plus, Divides, NoMultiple}
use Rattle.gf_exponents_theory.specs.Orders.{negated_row_of}
use Rattle.gf_exponents_theory.specs.SixOrders.{MonomialOrder, below_of}
use Rattle.gf_exponents_theory.proofs.ExponentsLaws.{same-refl, same_trans, same_flip}
use Rattle.gf_order.specs.Comparisons.{HasEntries}
use Rattle.gf_poly.specs.Polynomial.{Terms, coefficient, HasVariables}
use Rattle.gf_poly.specs.Marking.{MarkedPolynomial, polys, Each}
use Rattle.gf_poly.proofs.PolynomialLaws.{coefficient-same}
use Rattle.gf_ideal_theory.specs.Membership.{HasMonomial, IsMember}
use Rattle.gf_ideal_theory.specs.Marks.{IsMarked}
use Rattle.gf_ideal_theory.specs.Reduction.{IsDivisible, Reached, IsMonicForm}
use Rattle.gf_ideal_theory.specs.OrderTable.{AreMultipleApart}
use Rattle.gf_ideal_theory.specs.Settled.{IsAt}
use Rattle.gf_ideal_theory.specs.Bases.{AreApart, HasReducedTails, IsCanonical}
use Rattle.gf_ideal_theory.specs.WorkLists.{IsWorkList}
use Rattle.gf_ideal_theory.proofs.DividingLaws.{member_contained}
use Rattle.gf_ideal_theory.proofs.Identities.{one_not_zero}
use Rattle.gf_ideal_theory.proofs.ListLaws.{Contains-there, Contains-cases}
use Rattle.gf_ideal_theory.proofs.MembershipLaws.{member-generator}
use Rattle.gf_ideal_theory.proofs.PieceLaws.{Contains-polys}
use Rattle.gf_buchberger.proofs.RunSteps.{contained_old}
use Rattle.gf_initial_theory.proofs.ClassLaws.{multiple-grading}
use Rattle.gf_strands.specs.Along.{HasNonzero, AreAlong}
use Rattle.gf_strands.specs.Strands.{IsPartOf}
use Rattle.gf_strands.specs.Splits.{IsAlone, AreSplit}
use Rattle.gf_strands.specs.Monomials.{monomial_member, with_monomials, AreMonomialsApart}
use Rattle.gf_strands.proofs.AlongLaws.{along_more}
use Rattle.gf_strands.proofs.MonomialLaws.{apart_later}
use Rattle.gf_strands.proofs.SplitLaws.{pushed, at_kept, at_last, split_size, split_alone}
use Rattle.gf_strand_runs.specs.Turns.{AreUndividedBy, IsEntering}
use Rattle.gf_lifts.specs.Crossings.{IsCrossing}
use Rattle.gf_lifts.proofs.CrossingMath.{crossing_width, crossing_nonzero, crossing_weight, one_index}
use Rattle.gf_flip.proofs.PartJobs.{in_ring, suited}

-- the indices rise
pub split_rising : (a : List ℤ) (bs : List MarkedPolynomial) (indices : List ℕ) (xs : List Exponents) (fs : List Terms) → AreSplit a bs indices xs fs →
    (i j : ℕ) → i < j → j < length indices → get_or indices i 0 < get_or indices j 0
split_rising a bs indices xs fs AreSplit.none i j l m = absurd (omega (arith, m))
split_rising a bs indices xs fs (AreSplit.alone cs ps ys gs b h o) i j l m = at (cases_lt j (length ps)) (λ k. split_rising a cs ps ys gs h i j l k)
  where
    at : (j < length ps) ⊎ (length ps ≤ j) → (j < length ps → get_or ps i 0 < get_or ps j 0) →
        get_or (ps ++ length cs ∷ []) i 0 < get_or (ps ++ length cs ∷ []) j 0
    at (inl k) r =
        omega (arith, r k, get_or_append_left ps (length cs ∷ []) 0 i (omega (arith, l, k)), get_or_append_left ps (length cs ∷ []) 0 j k)
    at (inr k) r =
        let e : length ps ≡ j = omega (arith, m, k, pushed ps (length cs)) in
        let w = (split_alone a cs ps ys gs h i (omega (arith, l, e))).at.within in
        omega (arith, w, get_or_append_left ps (length cs ∷ []) 0 i (omega (arith, l, e)), get_or_push ps (length cs) 0 j e)
split_rising a bs indices xs fs (AreSplit.part cs ps ys gs b f h p) i j l m = split_rising a cs ps ys gs h i j l m

-- ---- monomials

abbrev monomial : Exponents → Terms
monomial x = record { coef = one_ℚ; mono = x } ∷ []

coefficient-here : (x y : Exponents) → same y x ≡ true → coefficient (monomial x) y ≡ one_ℚ
coefficient-here x y e = ap (λ (b : Bool). (if b then one_ℚ else zero_ℚ) +ℚ zero_ℚ) e ∙ +ℚ-zero one_ℚ

coefficient-elsewhere : (x y : Exponents) → same y x ≡ false → coefficient (monomial x) y ≡ zero_ℚ
coefficient-elsewhere x y e = ap (λ (b : Bool). (if b then one_ℚ else zero_ℚ) +ℚ zero_ℚ) e ∙ +ℚ-zero zero_ℚ

monomial_there : (x : Exponents) → HasMonomial (monomial x) x
monomial_there x z = one_not_zero (sym (coefficient-here x x (same-refl x)) ∙ z)

monomial_one : (x y : Exponents) → HasMonomial (monomial x) y → same y x ≡ true
monomial_one x y m = at (same y x) refl
  where
    at : (b : Bool) → same y x ≡ b → same y x ≡ true
    at true e = e
    at false e = absurd (m (coefficient-elsewhere x y e))

monomial_marked : (below : Exponents → Exponents → Type 0) (x : Exponents) → IsMarked below (monomial_member x)
monomial_marked below x = record { monic = coefficient-here x x (same-refl x); tail = λ y m. inl (monomial_one x y m) }

monomial_form : (x : Exponents) → IsMonicForm (monomial x) (monomial_member x)
monomial_form x = record {
  there = monomial_there x;
  equation = λ y. ap (λ z. z *ℚ coefficient (monomial x) y) (coefficient-here x x (same-refl x)) ∙ one-*ℚ (coefficient (monomial x) y);
}

-- a polynomial with a monomial has one number of variables
one_width : (f : Terms) (x : Exponents) (m n : ℕ) → HasMonomial f x → HasVariables m f → HasVariables n f → m ≡ n
one_width [] x m n h v w = absurd (h refl)
one_width (t ∷ f) x m n h v w = sym v.0 ∙ w.0

-- the part of a monic member of which one term is along
alone_along : (a : List ℤ) (n : ℕ) (b : MarkedPolynomial) → HasNonzero a → coefficient b.poly b.head ≡ one_ℚ → IsCanonical n b → IsAlone a b →
    IsPartOf a b (monomial b.head)
alone_along a n b z one k o = record {
  along = record { head = refl; along = λ x p. along x p (same x b.head) refl; off = λ x p. off x p (same x b.head) refl };
  variables = record { at = λ m v. (k.head ∙ sym (one_width b.poly b.head m n (λ e. one_not_zero (sym one ∙ e)) v k.variables), tt) };
}
  where
    nothing : (x : Exponents) → AreMultipleApart a x b.head → same x b.head ≡ false → (coefficient b.poly x ≡ zero_ℚ) ⊎ HasMonomial b.poly x →
        coefficient b.poly x ≡ zero_ℚ
    nothing x p e (inl q) = q
    nothing x p e (inr m) = absurd (false≢true (sym e ∙ o x m p))

    along : (x : Exponents) → AreMultipleApart a x b.head → (s : Bool) → same x b.head ≡ s → coefficient (monomial b.head) x ≡ coefficient b.poly x
    along x p true e = coefficient-here b.head x e ∙ sym (coefficient-same b.poly x b.head e ∙ one)
    along x p false e = coefficient-elsewhere b.head x e ∙ sym (nothing x p e (zero_or_not (coefficient b.poly x)))

    off : (x : Exponents) → (AreMultipleApart a x b.head → ⊥) → (s : Bool) → same x b.head ≡ s → coefficient (monomial b.head) x ≡ zero_ℚ
    off x p true e = absurd (p ((multiple-grading a z).along x b.head e))
    off x p false e = coefficient-elsewhere b.head x e

-- ---- a polynomial for each member

-- the monomials at xs, and fs
record IsGenerated (a : List ℤ) (bs : List MarkedPolynomial) (xs : List Exponents) (fs : List Terms) : Type 0 where
  generators : List Terms
  along : AreAlong a bs generators
  fronts : (x : Exponents) → Contains xs x → Contains generators (monomial x)
  within : (f : Terms) → Contains fs f → Contains generators f
  each : (f : Terms) → Contains generators f → ((x : Exponents) × Contains xs x × (monomial x ≡ f)) ⊎ Contains fs f

generated-none : (a : List ℤ) → IsGenerated a [] [] []
generated-none a = record {
  generators = [];
  along = record { parts = []; each = tt; polynomials = refl; variables = λ n v f c. absurd (omega (arith, c.1)) };
  fronts = λ x c. absurd (omega (arith, c.1));
  within = λ f c. c;
  each = λ f c. inr c;
}

generated-alone : (a : List ℤ) (bs : List MarkedPolynomial) (xs : List Exponents) (fs : List Terms) (b : MarkedPolynomial) → IsPartOf a b (monomial b.head) →
    IsGenerated a bs xs fs → IsGenerated a (bs ++ b ∷ []) (xs ++ b.head ∷ []) fs
generated-alone a bs xs fs b p w = record {
  generators = w.generators ++ monomial b.head ∷ [];
  along = along_more a bs b w.generators (monomial b.head) w.along p;
  fronts = λ x c. front x (Contains-push_cases xs b.head x c);
  within = λ f c. Contains-append_left w.generators (monomial b.head ∷ []) f (w.within f c);
  each = λ f c. at f (Contains-push_cases w.generators (monomial b.head) f c);
}
  where
    front : (x : Exponents) → Contains xs x ⊎ (b.head ≡ x) → Contains (w.generators ++ monomial b.head ∷ []) (monomial x)
    front x (inl c) = Contains-append_left w.generators (monomial b.head ∷ []) (monomial x) (w.fronts x c)
    front x (inr e) = subst (λ (z : Exponents). Contains (w.generators ++ monomial b.head ∷ []) (monomial z)) e (Contains-push w.generators (monomial b.head))

    at : (f : Terms) → Contains w.generators f ⊎ (monomial b.head ≡ f) → ((x : Exponents) × Contains (xs ++ b.head ∷ []) x × (monomial x ≡ f)) ⊎ Contains fs f
    at f (inl c) = elim (w.each f c) [ inl q ↦ inl (q.0, Contains-append_left xs (b.head ∷ []) q.0 q.1, q.2) | inr m ↦ inr m ]
    at f (inr e) = inl (b.head, Contains-push xs b.head, e)

generated-part : (a : List ℤ) (bs : List MarkedPolynomial) (xs : List Exponents) (fs : List Terms) (b : MarkedPolynomial) (f : Terms) → IsPartOf a b f →
    IsGenerated a bs xs fs → IsGenerated a (bs ++ b ∷ []) xs (fs ++ f ∷ [])
generated-part a bs xs fs b f p w = record {
  generators = w.generators ++ f ∷ [];
  along = along_more a bs b w.generators f w.along p;
  fronts = λ x c. Contains-append_left w.generators (f ∷ []) (monomial x) (w.fronts x c);
  within = λ g c. there g (Contains-push_cases fs f g c);
  each = λ g c. at g (Contains-push_cases w.generators f g c);
}
  where
    there : (g : Terms) → Contains fs g ⊎ (f ≡ g) → Contains (w.generators ++ f ∷ []) g
    there g (inl c) = Contains-append_left w.generators (f ∷ []) g (w.within g c)
    there g (inr e) = subst (Contains (w.generators ++ f ∷ [])) e (Contains-push w.generators f)

    at : (g : Terms) → Contains w.generators g ⊎ (f ≡ g) → ((x : Exponents) × Contains xs x × (monomial x ≡ g)) ⊎ Contains (fs ++ f ∷ []) g
    at g (inl c) = elim (w.each g c) [ inl q ↦ inl q | inr m ↦ inr (Contains-append_left fs (f ∷ []) g m) ]
    at g (inr e) = inr (subst (Contains (fs ++ f ∷ [])) e (Contains-push fs f))

-- each member is monic, and kept as a program keeps it
abbrev AreKeptMonic : ℕ → List MarkedPolynomial → Type 0
AreKeptMonic n bs = (b : MarkedPolynomial) → Contains bs b → (coefficient b.poly b.head ≡ one_ℚ) × IsCanonical n b

generated : (a : List ℤ) (n : ℕ) (bs : List MarkedPolynomial) (indices : List ℕ) (xs : List Exponents) (fs : List Terms) → HasNonzero a → AreKeptMonic n bs →
    AreSplit a bs indices xs fs → IsGenerated a bs xs fs
generated a n bs indices xs fs z k AreSplit.none = generated-none a
generated a n bs indices xs fs z k (AreSplit.alone cs ps ys gs b h o) =
    let m = k b (Contains-push cs b) in
    generated-alone a cs ys gs b (alone_along a n b z m.0 m.1 o) (generated a n cs ps ys gs z (λ c i. k c (contained_old cs b c i)) h)
generated a n bs indices xs fs z k (AreSplit.part cs ps ys gs b f h p) =
    generated-part a cs ys gs b f p (generated a n cs ps ys gs z (λ c i. k c (contained_old cs b c i)) h)

-- ---- the monomials

-- a member of the front
front_member : (xs : List Exponents) (b : MarkedPolynomial) → Contains (map monomial_member xs) b → (x : Exponents) × Contains xs x × (monomial_member x ≡ b)
front_member [] b c = absurd (omega (arith, c.1))
front_member (y ∷ xs) b c = at (Contains-cases (monomial_member y) b (map monomial_member xs) c) (λ k. front_member xs b k)
  where
    at : (monomial_member y ≡ b) ⊎ Contains (map monomial_member xs) b →
        (Contains (map monomial_member xs) b → (x : Exponents) × Contains xs x × (monomial_member x ≡ b)) →
        (x : Exponents) × Contains (y ∷ xs) x × (monomial_member x ≡ b)
    at (inl e) r = (y, Contains-here y xs, e)
    at (inr k) r = let q = r k in (q.0, Contains-there y q.0 xs q.1, q.2)

-- and back
member_front : (xs : List Exponents) (x : Exponents) → Contains xs x → Contains (map monomial_member xs) (monomial_member x)
member_front [] x c = absurd (omega (arith, c.1))
member_front (y ∷ xs) x c = at (Contains-cases y x xs c) (λ k. member_front xs x k)
  where
    at : (y ≡ x) ⊎ Contains xs x → (Contains xs x → Contains (map monomial_member xs) (monomial_member x)) →
        Contains (map monomial_member (y ∷ xs)) (monomial_member x)
    at (inl e) r = subst (λ (z : Exponents). Contains (monomial_member y ∷ map monomial_member xs) (monomial_member z)) e
        (Contains-here (monomial_member y) (map monomial_member xs))
    at (inr k) r = Contains-there (monomial_member y) (monomial_member x) (map monomial_member xs) (r k)

-- each is the mark of a member
split_mark : (a : List ℤ) (bs : List MarkedPolynomial) (indices : List ℕ) (xs : List Exponents) (fs : List Terms) → AreSplit a bs indices xs fs →
    (x : Exponents) → Contains xs x → (b : MarkedPolynomial) × Contains bs b × (b.head ≡ x)
split_mark a bs indices xs fs AreSplit.none x c = absurd (omega (arith, c.1))
split_mark a bs indices xs fs (AreSplit.alone cs ps ys gs b h o) x c = at (Contains-push_cases ys b.head x c) (λ k. split_mark a cs ps ys gs h x k)
  where
    at : Contains ys x ⊎ (b.head ≡ x) → (Contains ys x → (d : MarkedPolynomial) × Contains cs d × (d.head ≡ x)) →
        (d : MarkedPolynomial) × Contains (cs ++ b ∷ []) d × (d.head ≡ x)
    at (inl k) r = let q = r k in (q.0, contained_old cs b q.0 q.1, q.2)
    at (inr e) r = (b, Contains-push cs b, e)
split_mark a bs indices xs fs (AreSplit.part cs ps ys gs b f h p) x c = let q = split_mark a cs ps ys gs h x c in (q.0, contained_old cs b q.0 q.1, q.2)

-- without the last one they are apart
apart_front : (bs : List MarkedPolynomial) (b : MarkedPolynomial) → AreApart (bs ++ b ∷ []) → AreApart bs
apart_front [] b h = tt
apart_front (c ∷ bs) b h = (front bs h.0, apart_front bs b h.1)
  where
    front : (ds : List MarkedPolynomial) → Each (λ (d : MarkedPolynomial). NoMultiple c.head d.head × NoMultiple d.head c.head) (ds ++ b ∷ []) →
        Each (λ (d : MarkedPolynomial). NoMultiple c.head d.head × NoMultiple d.head c.head) ds
    front [] e = tt
    front (d ∷ ds) e = (e.0, front ds e.1)

-- no mark of a list whose members are apart divides that of the last one
last_undivided : (bs : List MarkedPolynomial) (b c : MarkedPolynomial) → AreApart (bs ++ b ∷ []) → Contains bs c → Divides c.head b.head → ⊥
last_undivided bs b c h k d =
    let e = one_index (bs ++ b ∷ []) (length bs) k.0 b c h (at_last bs b) (at_kept bs b c k.0 (record { within = k.1; is = k.2 })) d in
    omega (arith, e, k.1)

-- the monomials are such a list as a run has, where each is a generator
split_work : (gs : List Terms) (below : Exponents → Exponents → Type 0) (a : List ℤ) (bs : List MarkedPolynomial) (indices : List ℕ) (xs : List Exponents)
    (fs : List Terms) → ((x : Exponents) → Contains xs x → Contains gs (monomial x)) → AreApart bs → AreSplit a bs indices xs fs →
    IsWorkList gs below (map monomial_member xs)
split_work gs below a bs indices xs fs w r AreSplit.none = IsWorkList.start
split_work gs below a bs indices xs fs w r (AreSplit.alone cs ps ys hs b h o) = subst (IsWorkList gs below) (sym (map_push monomial_member ys b.head))
    (IsWorkList.more (map monomial_member ys) (monomial b.head) (monomial b.head) (monomial_member b.head)
    (split_work gs below a cs ps ys hs (λ x c. w x (Contains-append_left ys (b.head ∷ []) x c)) (apart_front cs b r) h)
    (inl (w b.head (Contains-push ys b.head))) (Reached.here (monomial b.head) (λ e. refl)) (monomial_form b.head) (monomial_marked below b.head) undivided)
  where
    undivided : IsDivisible (Contains (map monomial_member ys)) b.head → ⊥
    undivided d =
        let m = front_member ys d.member d.contained in
        let q = split_mark a cs ps ys hs h m.0 m.1 in
        last_undivided cs b q.0 r q.1 (record {
          rest = d.rest;
          product = subst (λ (z : Exponents). same b.head (plus d.rest z) ≡ true) (sym (q.2 ∙ ap (λ (z : MarkedPolynomial). z.head) m.2)) d.divides;
        })
split_work gs below a bs indices xs fs w r (AreSplit.part cs ps ys hs b f h p) = split_work gs below a cs ps ys hs w (apart_front cs b r) h

split_apart : (a : List ℤ) (bs : List MarkedPolynomial) (indices : List ℕ) (xs : List Exponents) (fs : List Terms) → AreApart bs → AreSplit a bs indices xs fs →
    AreMonomialsApart xs
split_apart a bs indices xs fs r h = record { none = λ i j l m d. at i j (omega (arith, l, size)) (omega (arith, m, size)) d }
  where
    size : length xs ≡ length indices
    size = split_size a bs indices xs fs h

    at : (i j : ℕ) → i < length indices → j < length indices → Divides (get_or xs i []) (get_or xs j []) → i ≡ j
    at i j l m d =
        let p = split_alone a bs indices xs fs h i l in
        let q = split_alone a bs indices xs fs h j m in
        let v : Divides p.member.head q.member.head = subst (λ (z : Exponents). Divides z q.member.head) (sym p.head)
        (subst (Divides (get_or xs i [])) (sym q.head) d) in
        let e : get_or indices j 0 ≡ get_or indices i 0 = one_index bs (get_or indices j 0) (get_or indices i 0) q.member p.member r q.at p.at v in
        elim (cases_lt i j) [
          | inl k ↦ (let s : get_or indices i 0 < get_or indices j 0 = split_rising a bs indices xs fs h i j k m in absurd (omega (arith, s, e)))
          | inr k ↦ elim (cases_lt j i) [
            | inl t ↦ (let s : get_or indices j 0 < get_or indices i 0 = split_rising a bs indices xs fs h j i t l in absurd (omega (arith, s, e)))
            | inr t ↦ omega (arith, k, t)
          ]
        ]

-- ---- the parts and the monomials

-- each polynomial is the part of a member
split_origin : (a : List ℤ) (bs : List MarkedPolynomial) (indices : List ℕ) (xs : List Exponents) (fs : List Terms) → AreSplit a bs indices xs fs →
    (f : Terms) → Contains fs f → (b : MarkedPolynomial) × Contains bs b × IsPartOf a b f
split_origin a bs indices xs fs AreSplit.none f c = absurd (omega (arith, c.1))
split_origin a bs indices xs fs (AreSplit.alone cs ps ys gs b h o) f c = let q = split_origin a cs ps ys gs h f c in (q.0, contained_old cs b q.0 q.1, q.2)
split_origin a bs indices xs fs (AreSplit.part cs ps ys gs b g h p) f c = at (Contains-push_cases gs g f c) (λ k. split_origin a cs ps ys gs h f k)
  where
    at : Contains gs f ⊎ (g ≡ f) → (Contains gs f → (d : MarkedPolynomial) × Contains cs d × IsPartOf a d f) →
        (d : MarkedPolynomial) × Contains (cs ++ b ∷ []) d × IsPartOf a d f
    at (inl k) r = let q = r k in (q.0, contained_old cs b q.0 q.1, q.2)
    at (inr e) r = (b, Contains-push cs b, subst (IsPartOf a b) e p)

-- f is the part of a member, and x the mark of one at another index
record AreOfTwo (a : List ℤ) (bs : List MarkedPolynomial) (f : Terms) (x : Exponents) : Type 0 where
  i : ℕ
  j : ℕ
  b : MarkedPolynomial
  c : MarkedPolynomial
  at_i : IsAt bs i b
  at_j : IsAt bs j c
  apart : i ≡ j → ⊥
  part : IsPartOf a b f
  head : c.head ≡ x

of_two_kept : (a : List ℤ) (bs : List MarkedPolynomial) (b : MarkedPolynomial) (f : Terms) (x : Exponents) → AreOfTwo a bs f x → AreOfTwo a (bs ++ b ∷ []) f x
of_two_kept a bs b f x h = record {
  i = h.i;
  j = h.j;
  b = h.b;
  c = h.c;
  at_i = at_kept bs b h.b h.i h.at_i;
  at_j = at_kept bs b h.c h.j h.at_j;
  apart = h.apart;
  part = h.part;
  head = h.head;
}

-- so it is of each polynomial and each monomial
split_of_two : (a : List ℤ) (bs : List MarkedPolynomial) (indices : List ℕ) (xs : List Exponents) (fs : List Terms) → AreSplit a bs indices xs fs →
    (f : Terms) → Contains fs f → (x : Exponents) → Contains xs x → AreOfTwo a bs f x
split_of_two a bs indices xs fs AreSplit.none f c x k = absurd (omega (arith, c.1))
split_of_two a bs indices xs fs (AreSplit.alone cs ps ys gs b h o) f c x k = at (Contains-push_cases ys b.head x k) (λ m. split_of_two a cs ps ys gs h f c x m)
  where
    at : Contains ys x ⊎ (b.head ≡ x) → (Contains ys x → AreOfTwo a cs f x) → AreOfTwo a (cs ++ b ∷ []) f x
    at (inl m) r = of_two_kept a cs b f x (r m)
    at (inr e) r =
        let q = split_origin a cs ps ys gs h f c in
        record {
          i = q.1.0;
          j = length cs;
          b = q.0;
          c = b;
          at_i = at_kept cs b q.0 q.1.0 (record { within = q.1.1; is = q.1.2 });
          at_j = at_last cs b;
          apart = λ s. omega (arith, s, q.1.1);
          part = q.2;
          head = e;
        }
split_of_two a bs indices xs fs (AreSplit.part cs ps ys gs b g h p) f c x k = at (Contains-push_cases gs g f c) (λ m. split_of_two a cs ps ys gs h f m x k)
  where
    at : Contains gs f ⊎ (g ≡ f) → (Contains gs f → AreOfTwo a cs f x) → AreOfTwo a (cs ++ b ∷ []) f x
    at (inl m) r = of_two_kept a cs b f x (r m)
    at (inr e) r =
        let q = split_mark a cs ps ys gs h x k in
        record {
          i = length cs;
          j = q.1.0;
          b = b;
          c = q.0;
          at_i = at_last cs b;
          at_j = at_kept cs b q.0 q.1.0 (record { within = q.1.1; is = q.1.2 });
          apart = λ s. omega (arith, s, q.1.1);
          part = subst (IsPartOf a b) e p;
          head = q.2;
        }

-- of members that are reduced the mark of none divides a monomial of the part of one at another index
part_undivided : (a : List ℤ) (bs : List MarkedPolynomial) (f : Terms) (y x : Exponents) → HasReducedTails bs → AreApart bs → AreOfTwo a bs f x →
    HasMonomial f y → Divides x y → ⊥
part_undivided a bs f y x t r w m d = w.apart (one_index bs w.i w.j w.b w.c r w.at_i w.at_j marked)
  where
    e : Divides w.c.head y
    e = subst (λ (z : Exponents). Divides z y) (sym w.head) d

    there : HasMonomial w.b.poly y
    there z = m (w.part.along.off y (λ p. m (w.part.along.along y p ∙ z)))

    same_mark : same y w.b.head ≡ true
    same_mark = t w.b (member_contained bs w.i w.b w.at_i) y there (record {
      member = w.c;
      contained = member_contained bs w.j w.c w.at_j;
      rest = e.rest;
      divides = e.product;
    })

    marked : Divides w.c.head w.b.head
    marked = record { rest = e.rest; product = same_trans w.b.head y (plus e.rest w.c.head) (same_flip y w.b.head same_mark) e.product }

pub split_clear : (a : List ℤ) (bs : List MarkedPolynomial) (indices : List ℕ) (xs : List Exponents) (fs : List Terms) → HasReducedTails bs → AreApart bs →
    AreSplit a bs indices xs fs → AreUndividedBy (with_monomials xs []) fs
split_clear a bs indices xs fs t r h = record {
  at = λ f c y m d. undivided f c y m d (front_member xs d.member (subst (λ (z : List MarkedPolynomial). Contains z d.member)
      (append-nil (map monomial_member xs)) d.contained));
}
  where
    undivided : (f : Terms) → Contains fs f → (y : Exponents) → HasMonomial f y → (d : IsDivisible (Contains (with_monomials xs [])) y) →
        (x : Exponents) × Contains xs x × (monomial_member x ≡ d.member) → ⊥
    undivided f c y m d q = part_undivided a bs f y q.0 t r (split_of_two a bs indices xs fs h f c q.0 q.1) m
        (record { rest = d.rest; product = subst (λ (z : MarkedPolynomial). same y (plus d.rest z.head) ≡ true) (sym q.2) d.divides })

-- ---- what a run on the parts begins with

pub record IsStart (n : ℕ) (bs : List MarkedPolynomial) (a : List ℤ) (xs : List Exponents) (fs : List Terms) : Type 0 where
  pub generators : List Terms
  pub along : AreAlong a bs generators
  pub entering : IsEntering (MonomialOrder.facet (negated_row_of a)) n generators fs (with_monomials xs [])
  pub apart : AreMonomialsApart xs
  pub clear : AreUndividedBy (with_monomials xs []) fs

pub split_start : (n : ℕ) (bs : List MarkedPolynomial) (a : List ℤ) (indices : List ℕ) (xs : List Exponents) (fs : List Terms) → IsCrossing n bs a →
    HasEntries (length a) (MonomialOrder.facet (negated_row_of a)) → AreSplit a bs indices xs fs → IsStart n bs a xs fs
split_start n bs a indices xs fs c w h = record {
  generators = g.generators;
  along = g.along;
  entering = record {
    underway = record {
      task = record {
        ring = in_ring n bs a g.generators c g.along;
        entries = subst (λ (z : ℕ). HasEntries z order) (crossing_width n bs a c) w;
        suited = suited n bs a g.generators c g.along;
      };
      work = subst (IsWorkList g.generators (below_of order)) (sym (append-nil (map monomial_member xs)))
          (split_work g.generators (below_of order) a bs indices xs fs g.fronts c.basis.reduced.heads h);
      variables = record { heads = λ b k. head b (member b k); polys = λ b k. poly b (member b k) };
      later = apart_later xs (split_apart a bs indices xs fs c.basis.reduced.heads h);
    };
    inside = λ f k. inside f (g.each f k);
    within = g.within;
  };
  apart = split_apart a bs indices xs fs c.basis.reduced.heads h;
  clear = split_clear a bs indices xs fs c.basis.reduced.tails c.basis.reduced.heads h;
}
  where
    order : MonomialOrder
    order = MonomialOrder.facet (negated_row_of a)

    sound : AreKeptMonic n bs
    sound b k = (((crossing_weight n bs a c).2 b k).monic, c.basis.arranged.canonical b k)

    g : IsGenerated a bs xs fs
    g = generated a n bs indices xs fs (crossing_nonzero n bs a c) sound h

    width : (x : Exponents) → Contains xs x → length x ≡ n
    width x k = let q = split_mark a bs indices xs fs h x k in ap length (sym q.2) ∙ (c.basis.arranged.canonical q.0 q.1).head

    member : (b : MarkedPolynomial) → Contains (with_monomials xs []) b → (x : Exponents) × Contains xs x × (monomial_member x ≡ b)
    member b k = front_member xs b (subst (λ (z : List MarkedPolynomial). Contains z b) (append-nil (map monomial_member xs)) k)

    head : (b : MarkedPolynomial) → (x : Exponents) × Contains xs x × (monomial_member x ≡ b) → length b.head ≡ n
    head b q = subst (λ (z : MarkedPolynomial). length z.head ≡ n) q.2 (width q.0 q.1)

    poly : (b : MarkedPolynomial) → (x : Exponents) × Contains xs x × (monomial_member x ≡ b) → HasVariables n b.poly
    poly b q = subst (λ (z : MarkedPolynomial). HasVariables n z.poly) q.2 (width q.0 q.1, tt)

    there : (x : Exponents) → Contains xs x → Contains (with_monomials xs []) (monomial_member x)
    there x k = subst (λ (z : List MarkedPolynomial). Contains z (monomial_member x)) (sym (append-nil (map monomial_member xs))) (member_front xs x k)

    inside : (f : Terms) → ((x : Exponents) × Contains xs x × (monomial x ≡ f)) ⊎ Contains fs f → IsMember n (polys (with_monomials xs [])) f ⊎ Contains fs f
    inside f (inl q) = inl (subst (IsMember n (polys (with_monomials xs []))) q.2 (member-generator n (polys (with_monomials xs [])) (monomial q.0)
        (Contains-polys (with_monomials xs []) (monomial_member q.0) (there q.0 q.1))))
    inside f (inr k) = inr k
