-- Which members of a marked list are needed: the marks of those divide each mark, and none divides another.
-- To cite: divides_trans; NeededSoFar, needed_none, needed_by_test, needed_end, Forming, forming-none, forming-more, forming-skipped,
-- forming_end, forming_variables, needed_divisible.
use Rattle.std.specs.Prelude.{◌≡◌, ◌⊎◌, ℕ, zero, suc, ◌+◌, ◌<◌, ◌≤◌, Bool, true, false, List, [], ◌∷◌, ◌++◌, length, Contains, nat_lt}
use Rattle.std.proofs.Common.{arith, refl, sym, ◌∙◌, subst, inl, inr, get_or}
use Rattle.std.proofs.lemmas.Bool.{cases_lt}
use Rattle.std.proofs.lemmas.Bool.Decides.{nat_tests}
use Rattle.std.proofs.lemmas.List.{get_or_default}
use Rattle.std.proofs.lemmas.List.Elements.{Contains-push, Contains-push_cases, Contains-append_left}
use Rattle.gf_exponents_theory.specs.Exponents.{Exponents, same, plus, degree, Divides, NoMultiple}
use Rattle.gf_exponents_theory.proofs.ExponentsLaws.{plus_comm, same-refl, same_of, same_flip, same_trans, same_by_entries, entries_same, entry-plus}
use Rattle.gf_exponents_theory.proofs.ExponentsLaws.{multiple_or_not}
use Rattle.gf_exponents_theory.proofs.WeightLaws.{degree-plus, degree-same}
use Rattle.gf_int_theory.proofs.ListLaws.{Contains-here}
use Rattle.gf_poly.specs.declared.error.PolyError.{PolyError}
use Rattle.gf_poly.specs.declared.error.PolyError.TheVariants as errors
use Rattle.gf_poly.specs.Polynomial.{HasVariables, KeepsVariables}
use Rattle.gf_poly.specs.Marking.{MarkedPolynomial, HaveVariables}
use Rattle.gf_ideal_theory.specs.Reduction.{IsDivisible}
use Rattle.gf_ideal_theory.specs.Settled.{IsAt}
use Rattle.gf_ideal_theory.specs.Bases.{AreApart}
use Rattle.gf_ideal_theory.proofs.ListLaws.{each_contained, contained_each, Contains-there}
use Rattle.gf_ideal_theory.proofs.RingLaws.{degree-none}
use Rattle.gf_division.specs.MonicForms.{IsMadeMonic, IsMonicRefusal}
use Rattle.gf_division.specs.Autoreduction.{IsNeeded, IsNeededForm, AreNeededForms, MakesNeedless, IsNeededAt, KeepVariables, IsNeededRefusal}
use Rattle.gf_division.proofs.ReducerLaws.{members_equal, member_contained, member_variables}
use Rattle.gf_division.proofs.RuleLaws.{no_multiple}

-- ---- divisors

both_divide : (x y : Exponents) → Divides x y → Divides y x → same x y ≡ true
both_divide x y h k = same_by_entries x y (λ i. omega (
  arith,
  entries_same y (plus h.rest x) h.product i,
  entry-plus h.rest x i,
  entries_same x (plus k.rest y) k.product i,
  entry-plus k.rest y i,
))

divides_same : (x y : Exponents) → same x y ≡ true → Divides x y
divides_same x y s = record { rest = []; product = same_flip x y s }

-- divisibility is transitive
pub divides_trans : (x y z : Exponents) → Divides x y → Divides y z → Divides x z
divides_trans x y z h k = record {
  rest = plus k.rest h.rest;
  product = same_by_entries z (plus (plus k.rest h.rest) x) (λ i. omega (
    arith,
    entries_same y (plus h.rest x) h.product i,
    entry-plus h.rest x i,
    entries_same z (plus k.rest y) k.product i,
    entry-plus k.rest y i,
    entry-plus (plus k.rest h.rest) x i,
    entry-plus k.rest h.rest i,
  ));
}

divides_or_not : (x y : Exponents) → Divides x y ⊎ ¬ (Divides x y)
divides_or_not x y = elim (multiple_or_not x y) [
  | inl m ↦ inl (record { rest = m.0; product = same_trans y (plus x m.0) (plus m.0 x) m.1 (same_of (plus x m.0) (plus m.0 x) (plus_comm x m.0)) })
  | inr n ↦ inr (λ d. absurd (not_both d n))
]
  where
    not_both : Divides x y → NoMultiple x y → ⊥
    not_both d n =
        let f : same y (plus x d.rest) ≡ false = n d.rest in
        let t : same y (plus x d.rest) ≡ true =
        same_trans y (plus d.rest x) (plus x d.rest) d.product (same_of (plus d.rest x) (plus x d.rest) (plus_comm d.rest x)) in
        cc

-- a divisor of the same degree is the same monomial
divisor_degree : (x y : Exponents) → Divides x y → (same x y ≡ true) ⊎ (degree x < degree y)
divisor_degree x y d = at (cases_lt (degree x) (degree y))
  where
    whole : degree y ≡ degree d.rest + degree x
    whole = degree-same y (plus d.rest x) d.product ∙ degree-plus d.rest x

    at : (degree x < degree y) ⊎ (degree y ≤ degree x) → (same x y ≡ true) ⊎ (degree x < degree y)
    at (inl l) = inr l
    at (inr g) =
        let z : same d.rest [] ≡ true = degree-none d.rest (omega (arith, whole, g)) in
        inl (same_by_entries x y (λ i. omega (arith, entries_same y (plus d.rest x) d.product i, entry-plus d.rest x i, entries_same d.rest [] z i)))

-- ---- one member

-- no member before the index j makes one with the mark x, at the index i, needless
pub record NeededSoFar (bs : List MarkedPolynomial) (i j : ℕ) (x : Exponents) : Type 0 where
  pub least : (k : ℕ) (c : MarkedPolynomial) → k < j → IsAt bs k c → Divides c.head x → (same c.head x ≡ true) × (i ≤ k)

pub needed_none : (bs : List MarkedPolynomial) (i : ℕ) (x : Exponents) → NeededSoFar bs i 0 x
needed_none bs i x = record { least = λ k c l m d. absurd (omega arith) }

-- the test of one member
not_needless : (x y : Exponents) (before : Bool) → (MakesNeedless x y before → ⊥) → Divides x y → (same x y ≡ true) × (before ≡ false)
not_needless x y true n d = absurd (n d)
not_needless x y false n d = elim (divides_or_not y x) [ inl k ↦ (both_divide x y d k, refl) | inr k ↦ absurd (n (d, k)) ]

needless_or_not : (x y : Exponents) (before : Bool) → MakesNeedless x y before ⊎ (MakesNeedless x y before → ⊥)
needless_or_not x y true = divides_or_not x y
needless_or_not x y false = elim (divides_or_not x y) [
  | inl d ↦ elim (divides_or_not y x) [ inl k ↦ inr (λ h. absurd (h.1 k)) | inr k ↦ inl (d, k) ]
  | inr d ↦ inr (λ h. absurd (d h.0))
]

not_before : (i j : ℕ) (r : Bool) → ((j < i → r ≡ true)) → r ≡ false → i ≤ j
not_before i j r y e = elim (cases_lt j i) [ inl l ↦ let t = y l in absurd (cc) | inr g ↦ g ]

needed_more : (bs : List MarkedPolynomial) (i j : ℕ) (x : Exponents) (c : MarkedPolynomial) (r : Bool) → IsAt bs j c → (j < i → r ≡ true) →
    (MakesNeedless c.head x r → ⊥) → NeededSoFar bs i j x → NeededSoFar bs i (j + 1) x
needed_more bs i j x c r a y n h = record { least = λ k d l m v. at k d (cases_lt k j) l m v }
  where
    at : (k : ℕ) (d : MarkedPolynomial) → (k < j) ⊎ (j ≤ k) → k < j + 1 → IsAt bs k d → Divides d.head x → (same d.head x ≡ true) × (i ≤ k)
    at k d (inl q) l m v = h.least k d q m v
    at k d (inr q) l m v =
        let e : k ≡ j = omega arith in
        let g : c ≡ d = members_equal bs j c d a (subst (λ (i : ℕ). IsAt bs i d) e m) in
        let t = not_needless c.head x r n (subst (λ (b : MarkedPolynomial). Divides b.head x) (sym g) v) in
        (subst (λ (b : MarkedPolynomial). same b.head x ≡ true) g t.0, omega (arith, not_before i j r y t.1))

pub needed_end : (bs : List MarkedPolynomial) (i j : ℕ) (b : MarkedPolynomial) → IsAt bs i b → length bs ≤ j → NeededSoFar bs i j b.head → IsNeeded bs i b
needed_end bs i j b a l h = record { at = a; least = λ k c m d. h.least k c (omega (arith, m.within)) m d }

-- the tests of the code
before_test : (j i : ℕ) → j < i → nat_lt j i ≡ true
before_test j i l = grind (arith, nat_tests)

pub needed_by_test : (bs : List MarkedPolynomial) (i j : ℕ) (b c : MarkedPolynomial) (x y : Exponents) → IsAt bs j c → x ≡ c.head → y ≡ b.head →
    (MakesNeedless x y (nat_lt j i) → ⊥) → NeededSoFar bs i j b.head → NeededSoFar bs i (j + 1) b.head
needed_by_test bs i j b c x y a ex ey n h = needed_more bs i j b.head c (nat_lt j i) a (before_test j i)
    (λ m. n (subst (λ (z : Exponents). MakesNeedless z y (nat_lt j i)) (sym ex) (subst (λ (z : Exponents). MakesNeedless c.head z (nat_lt j i)) (sym ey) m))) h

-- ---- the marks of needed members divide each mark

-- the mark of a needed member divides x
record IsCovered (bs : List MarkedPolynomial) (x : Exponents) : Type 0 where
  index : ℕ
  member : MarkedPolynomial
  needed : IsNeeded bs index member
  divides : Divides member.head x

-- a member that makes the one at i needless
record IsMadeNeedless (bs : List MarkedPolynomial) (i : ℕ) (x : Exponents) : Type 0 where
  index : ℕ
  member : MarkedPolynomial
  at : IsAt bs index member
  divides : Divides member.head x
  less : (degree member.head < degree x) ⊎ ((degree member.head ≡ degree x) × (index < i))

before : (j i : ℕ) → (r : Bool) × (j < i → r ≡ true) × (r ≡ true → j < i)
before j i = elim (cases_lt j i) [ inl l ↦ (true, λ _. refl, λ _. l) | inr g ↦ (false, λ l. absurd (omega arith), λ e. absurd (cc)) ]

search : (bs : List MarkedPolynomial) (i m : ℕ) (b : MarkedPolynomial) → IsAt bs i b → m ≤ length bs → NeededSoFar bs i m b.head ⊎ IsMadeNeedless bs i b.head
search bs i zero b a l = inl (needed_none bs i b.head)
search bs i (suc m) b a l = elim (search bs i m b a (omega arith)) [
  | inr h ↦ inr h
  | inl h ↦ here h
]
  where
    c : MarkedPolynomial
    c = get_or bs m b

    at : IsAt bs m c
    at = record { within = omega arith; is = sym (get_or_default bs m b c (omega arith)) }

    r : (r : Bool) × (m < i → r ≡ true) × (r ≡ true → m < i)
    r = before m i

    found : (r : Bool) → (r ≡ true → m < i) → MakesNeedless c.head b.head r → IsMadeNeedless bs i b.head
    found true y d = record {
      index = m;
      member = c;
      at = at;
      divides = d;
      less = elim (divisor_degree c.head b.head d) [ inl s ↦ inr (degree-same c.head b.head s, y refl) | inr l ↦ inl l ];
    }
    found false y d = record {
      index = m;
      member = c;
      at = at;
      divides = d.0;
      less = elim (divisor_degree c.head b.head d.0) [ inl s ↦ absurd (d.1 (divides_same b.head c.head (same_flip c.head b.head s))) | inr l ↦ inl l ];
    }

    here : NeededSoFar bs i m b.head → NeededSoFar bs i (suc m) b.head ⊎ IsMadeNeedless bs i b.head
    here h = elim (needless_or_not c.head b.head r.0) [
      | inl n ↦ inr (found r.0 r.2 n)
      | inr n ↦ inl (subst (λ (k : ℕ). NeededSoFar bs i k b.head) (omega arith) (needed_more bs i m b.head c r.0 at r.1 n h))
    ]

-- members whose marks have a degree below d are covered
abbrev CoveredBelow : List MarkedPolynomial → ℕ → Type 0
CoveredBelow bs d = (i : ℕ) (b : MarkedPolynomial) → IsAt bs i b → degree b.head < d → IsCovered bs b.head

covered_indices : (bs : List MarkedPolynomial) (d p i : ℕ) (b : MarkedPolynomial) → CoveredBelow bs d → IsAt bs i b → degree b.head < suc d → i < p →
    IsCovered bs b.head
covered_indices bs d zero i b w a l m = absurd (omega arith)
covered_indices bs d (suc p) i b w a l m =
    at (search bs i (length bs) b a (omega arith)) (λ h e k. covered_indices bs d p h.index h.member w h.at (omega (arith, e)) (omega (arith, k)))
  where
    through : (c : MarkedPolynomial) → Divides c.head b.head → IsCovered bs c.head → IsCovered bs b.head
    through c v h = record { index = h.index; member = h.member; needed = h.needed; divides = divides_trans h.member.head c.head b.head h.divides v }

    less : (h : IsMadeNeedless bs i b.head) → ((h : IsMadeNeedless bs i b.head) → degree h.member.head ≡ degree b.head → h.index < i →
        IsCovered bs h.member.head) → (degree h.member.head < degree b.head) ⊎ ((degree h.member.head ≡ degree b.head) × (h.index < i)) → IsCovered bs b.head
    less h e (inl k) = through h.member h.divides (w h.index h.member h.at (omega arith))
    less h e (inr k) = through h.member h.divides (e h k.0 k.1)

    at : NeededSoFar bs i (length bs) b.head ⊎ IsMadeNeedless bs i b.head → ((h : IsMadeNeedless bs i b.head) → degree h.member.head ≡ degree b.head →
        h.index < i → IsCovered bs h.member.head) → IsCovered bs b.head
    at (inl h) e = record {
      index = i;
      member = b;
      needed = needed_end bs i (length bs) b a (omega arith) h;
      divides = divides_same b.head b.head (same-refl b.head);
    }
    at (inr h) e = less h e h.less

covered_below : (bs : List MarkedPolynomial) (d : ℕ) → CoveredBelow bs d
covered_below bs zero i b a l = absurd (omega arith)
covered_below bs (suc d) i b a l = covered_indices bs d (length bs) i b (covered_below bs d) a l a.within

covered : (bs : List MarkedPolynomial) (i : ℕ) (b : MarkedPolynomial) → IsAt bs i b → IsCovered bs b.head
covered bs i b a = covered_below bs (suc (degree b.head)) i b a (omega arith)

-- ---- the forms of the needed members

-- k is the monic form of a needed member before the index i
record IsFormBefore (bs : List MarkedPolynomial) (i : ℕ) (k : MarkedPolynomial) : Type 0 where
  form : IsNeededForm bs k
  earlier : form.index < i

-- ks are the forms of the needed members before the index i
pub record Forming (bs : List MarkedPolynomial) (i : ℕ) (ks : List MarkedPolynomial) : Type 0 where
  inside : (k : MarkedPolynomial) → Contains ks k → IsFormBefore bs i k
  all : (j : ℕ) (b : MarkedPolynomial) → j < i → IsNeeded bs j b → (k : MarkedPolynomial) × Contains ks k × IsMadeMonic b k
  apart : AreApart ks
  variables : KeepVariables bs ks

pub forming-none : (bs : List MarkedPolynomial) → Forming bs 0 []
forming-none bs = record {
  inside = λ k c. absurd (omega (arith, c.1));
  all = λ j b l n. absurd (omega arith);
  apart = tt;
  variables = record { at = λ n v. tt };
}

form_later : (bs : List MarkedPolynomial) (i : ℕ) (k : MarkedPolynomial) → IsFormBefore bs i k → IsFormBefore bs (i + 1) k
form_later bs i k f = record { form = f.form; earlier = omega (arith, f.earlier) }

-- the member at i isn't needed
pub forming-skipped : (bs : List MarkedPolynomial) (i : ℕ) (ks : List MarkedPolynomial) → (IsNeededAt bs i → ⊥) → Forming bs i ks → Forming bs (i + 1) ks
forming-skipped bs i ks n h = record {
  inside = λ k c. form_later bs i k (h.inside k c);
  all = λ j b l m. at j b (cases_lt j i) l m;
  apart = h.apart;
  variables = h.variables;
}
  where
    at : (j : ℕ) (b : MarkedPolynomial) → (j < i) ⊎ (i ≤ j) → j < i + 1 → IsNeeded bs j b → (k : MarkedPolynomial) × Contains ks k × IsMadeMonic b k
    at j b (inl q) l m = h.all j b q m
    at j b (inr q) l m = absurd (n (b, subst (λ (i : ℕ). IsNeeded bs i b) (omega arith) m))

-- a list that is apart, and one more
apart-push : (ks : List MarkedPolynomial) (b : MarkedPolynomial) → AreApart ks →
    ((c : MarkedPolynomial) → Contains ks c → NoMultiple c.head b.head × NoMultiple b.head c.head) → AreApart (ks ++ b ∷ [])
apart-push [] b h n = (tt, tt)
apart-push (a ∷ ks) b h n = (
  each_contained (λ (c : MarkedPolynomial). NoMultiple a.head c.head × NoMultiple c.head a.head) (ks ++ b ∷ []) (λ c k. at c (Contains-push_cases ks b c k)),
  apart-push ks b h.1 (λ c k. n c (Contains-there a c ks k)),
)
  where
    at : (c : MarkedPolynomial) → Contains ks c ⊎ (b ≡ c) → NoMultiple a.head c.head × NoMultiple c.head a.head
    at c (inl k) = contained_each (λ (d : MarkedPolynomial). NoMultiple a.head d.head × NoMultiple d.head a.head) ks h.0 c k
    at c (inr e) = subst (λ (d : MarkedPolynomial). NoMultiple a.head d.head × NoMultiple d.head a.head) e (n a (Contains-here a ks))

-- the marks of needed members at two indices are apart
needed_apart : (bs : List MarkedPolynomial) (i j : ℕ) (b c : MarkedPolynomial) → IsNeeded bs i b → IsNeeded bs j c → j < i →
    NoMultiple c.head b.head × NoMultiple b.head c.head
needed_apart bs i j b c m n l = (
  no_multiple c.head b.head (λ d. absurd (omega (arith, (m.least j c n.at d).1))),
  no_multiple b.head c.head (λ d. absurd (omega (arith, (m.least j c n.at (divides_same c.head b.head (same_flip b.head c.head (n.least i b m.at d).0))).1))),
)

-- the member at the index i, where that is needed
needed_here : (bs : List MarkedPolynomial) (i : ℕ) (b : MarkedPolynomial) → IsAt bs i b → IsNeededAt bs i → IsNeeded bs i b
needed_here bs i b a m = subst (IsNeeded bs i) (members_equal bs i m.0 b m.1.at a) m.1

-- the form of the needed member at i
pub forming-more : (bs : List MarkedPolynomial) (i : ℕ) (ks ls : List MarkedPolynomial) (b k : MarkedPolynomial) → IsAt bs i b → IsNeededAt bs i →
    IsMadeMonic b k → KeepsVariables b.poly k.poly → ls ≡ ks ++ k ∷ [] → Forming bs i ks → Forming bs (i + 1) ls
forming-more bs i ks ls b k a m f v e h = subst (Forming bs (i + 1)) (sym e) (record {
  inside = λ c l. within c (Contains-push_cases ks k c l);
  all = λ j c l n. at j c (cases_lt j i) l n;
  apart = apart-push ks k h.apart (λ c l. beside c (h.inside c l));
  variables = record {
    at = λ n w. each_contained (λ (c : MarkedPolynomial). HasVariables n c.poly) (ks ++ k ∷ []) (λ c l. kept n w c (Contains-push_cases ks k c l));
  };
})
  where
    here : IsNeeded bs i b
    here = needed_here bs i b a m

    within : (c : MarkedPolynomial) → Contains ks c ⊎ (k ≡ c) → IsFormBefore bs (i + 1) c
    within c (inl l) = form_later bs i c (h.inside c l)
    within c (inr q) = subst (IsFormBefore bs (i + 1)) q (record { form = record { index = i; member = b; needed = here; form = f }; earlier = omega arith })

    at : (j : ℕ) (c : MarkedPolynomial) → (j < i) ⊎ (i ≤ j) → j < i + 1 → IsNeeded bs j c → (d : MarkedPolynomial) × Contains (ks ++ k ∷ []) d × IsMadeMonic c d
    at j c (inl q) l n = let d = h.all j c q n in (d.0, Contains-append_left ks (k ∷ []) d.0 d.1, d.2)
    at j c (inr q) l n =
        let g : b ≡ c = members_equal bs i b c a (subst (λ (i : ℕ). IsAt bs i c) (omega arith) n.at) in
        (k, Contains-push ks k, subst (λ (d : MarkedPolynomial). IsMadeMonic d k) g f)

    beside : (c : MarkedPolynomial) → IsFormBefore bs i c → NoMultiple c.head k.head × NoMultiple k.head c.head
    beside c g =
        let p = needed_apart bs i g.form.index b g.form.member here g.form.needed g.earlier in
        subst (λ (x : Exponents). NoMultiple x k.head × NoMultiple k.head x) (sym g.form.form.head)
        (subst (λ (x : Exponents). NoMultiple g.form.member.head x × NoMultiple x g.form.member.head) (sym f.head) p)

    kept : (n : ℕ) → HaveVariables n bs → (c : MarkedPolynomial) → Contains ks c ⊎ (k ≡ c) → HasVariables n c.poly
    kept n w c (inl l) = contained_each (λ (c : MarkedPolynomial). HasVariables n c.poly) ks (h.variables.at n w) c l
    kept n w c (inr q) = subst (λ (d : MarkedPolynomial). HasVariables n d.poly) q (v.at n (member_variables n bs b w (member_contained bs i b a)))

pub forming_end : (bs : List MarkedPolynomial) (i : ℕ) (ks : List MarkedPolynomial) → length bs ≤ i → Forming bs i ks → AreNeededForms bs ks
forming_end bs i ks l h = record {
  inside = λ k c. (h.inside k c).form;
  all = λ j b n. h.all j b (omega (arith, n.at.within)) n;
  apart = h.apart;
}

pub forming_variables : (bs : List MarkedPolynomial) (i : ℕ) (ks : List MarkedPolynomial) → Forming bs i ks → KeepVariables bs ks
forming_variables bs i ks h = h.variables

-- they divide each mark
pub needed_divisible : (bs ks : List MarkedPolynomial) → AreNeededForms bs ks → (b : MarkedPolynomial) → Contains bs b → IsDivisible (Contains ks) b.head
needed_divisible bs ks h b c =
    let w = covered bs c.0 b (record { within = c.1; is = c.2 }) in
    let k = h.all w.index w.member w.needed in
    record {
      member = k.0;
      contained = k.1;
      rest = w.divides.rest;
      divides = subst (λ (x : Exponents). same b.head (plus w.divides.rest x) ≡ true) (sym k.2.head) w.divides.product;
    }

-- ---- refusals

-- the member at the index i is needed, and isn't made monic
pub needed_refused : (bs : List MarkedPolynomial) (i : ℕ) (b : MarkedPolynomial) (e : PolyError) → IsAt bs i b → IsNeededAt bs i → IsMonicRefusal b e →
    IsNeededRefusal bs e
needed_refused bs i b (errors.Overflow o) a m h = (record { index = i; member = b; needed = needed_here bs i b a m; operation = h.0 }, h.1)
needed_refused bs i b (errors.Exponent o) a m h = h
needed_refused bs i b errors.Memory a m h = tt
