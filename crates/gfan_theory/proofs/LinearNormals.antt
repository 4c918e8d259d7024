-- The normals of a reduced basis of an ideal that differences of variables generate are differences of two entries, and in four variables there are at most
-- three. To cite: variable_at, IsLinearNormal, normal_at, few_in_three, one_at_most, linear_normals. The rest are steps.
use Rattle.std.proofs.Common.{◌≡◌, ◌≢◌, ◌⊎◌, ℕ, ◌<◌, ◌≤◌, true, false, List, [], ◌∷◌, length, get_or, Some, None, Option, ℤ, pos}
use Rattle.std.proofs.Common.{◌-ℤ◌, Contains, arith, sym, ap, ap₂, ◌∙◌, subst, inl, inr}
use Rattle.std.proofs.lemmas.Bool.{cases_lt}
use Rattle.gf_int_theory.proofs.ListLaws.{Contains-here}
use Rattle.gf_vec.specs.Vector.{dot}
use Rattle.gf_vec.specs.Primitive.{IsPrimitivePart}
use Rattle.gf_vec.proofs.VectorLaws.{dot_comm}
use Rattle.gf_duality_theory.proofs.ListLaws.{none_in, in_tail, in_cons}
use Rattle.gf_exponents_theory.specs.Exponents.{Exponents, entry, same, degree, IsInRing}
use Rattle.gf_exponents_theory.proofs.ExponentsLaws.{same_flip, same_trans, entries_same}
use Rattle.gf_poly.specs.Polynomial.{Terms}
use Rattle.gf_poly.specs.Marking.{MarkedPolynomial}
use Rattle.gf_ideal_theory.specs.Membership.{HasMonomial}
use Rattle.gf_ideal_theory.proofs.Identities.{one_not_zero}
use Rattle.gf_ideal_theory.proofs.MarkWeights.{mark-there}
use Rattle.gf_ideal_theory.proofs.MembershipLaws.{variables_of_member}
use Rattle.gf_ideal_theory.proofs.UniquenessLaws.{apart_same}
use Rattle.gf_exponents_theory.specs.Orders.{gains, lighter}
use Rattle.gf_facets_theory.specs.Rows.{IsNormal}
use Rattle.gf_facets_theory.specs.Systems.{unit}
use Rattle.gf_facets_theory.specs.LexPositive.{IsBefore}
use Rattle.gf_facets_theory.specs.Normals.{AreNormals}
use Rattle.gf_facets_theory.specs.Regions.{Region}
use Rattle.gf_facets_theory.specs.MarkedBases.{IsBasisInRegion}
use Rattle.gf_facets_theory.proofs.NormalLaws.{IsNormalOf, normal_of, normal-length}
use Rattle.gf_facets_theory.proofs.UnitLaws.{dot-unit}
use Rattle.gf_facets_theory.proofs.VectorOrder.{before_strict}
use Rattle.gf_binomials_theory.specs.Binomials.{AreMarkedBinomials}
use Rattle.gf_binomials_theory.proofs.MonomialLaws.{IsTheMonomial, IsFirst, one_of_two}
use Rattle.gf_binomial_bases_theory.proofs.LawsHold.{bases_of_binomials}
use Rattle.gfan_theory.specs.Differences.{IsDifferenceRow, AreDifferenceRows}
use Rattle.gfan_theory.specs.Everyday.{IsVariable}
use Rattle.gfan_theory.specs.Linear.{AreLinearDifferences}
use Rattle.gfan_theory.proofs.VariableLaws.{is_monomial, gives, vectors_equal}
use Rattle.gfan_theory.proofs.LinearRuns.{same_or_not, entry_low, alone, index_of, index_there, same_indices, AreLinearMembers}
use Rattle.gfan_theory.proofs.LinearBases.{region_members}

-- ---- variables

pub variable_at : (x : Exponents) → degree x ≡ 1 → IsVariable (index_of x) x
variable_at x d = record {
  one = (let p = index_there x d in let q = entry_low x (index_of x) in omega (arith, p, q, d));
  others = λ k n. alone x (index_of x) k d (index_there x d) n;
}

index_inside : (n : ℕ) (x : Exponents) → degree x ≡ 1 → IsInRing n x → index_of x < n
index_inside n x d r = elim (cases_lt (index_of x) n) [
  | inl l ↦ l
  | inr g ↦ absurd (let p = index_there x d in let q = r (index_of x) g in omega (arith, p, q))
]

-- monomials that are the same variable stand at one index
index_same : (x y : Exponents) → degree x ≡ 1 → degree y ≡ 1 → same x y ≡ true → index_of x ≡ index_of y
index_same x y d e s = elim (same_or_not (index_of x) (index_of y)) [
  | inl q ↦ q
  | inr n ↦ absurd (let z = alone y (index_of y) (index_of x) e (index_there y e) n in let t = entries_same x y s (index_of x) in let p = index_there x d in
      omega (arith, z, t, p))
]

-- indices that are apart
record AreApart (p q r s : ℕ) : Type 0 where
  pub first_second : p ≢ q
  pub first_third : p ≢ r
  pub first_fourth : p ≢ s
  pub second_third : q ≢ r
  pub second_fourth : q ≢ s
  pub third_fourth : r ≢ s

-- three numbers below four that are none of these, and one more
four_of_three : (c p q r s : ℕ) → c ≤ 3 → p ≤ 3 → q ≤ 3 → r ≤ 3 → s ≤ 3 → AreApart p q r s → p ≢ c → q ≢ c → r ≢ c → s ≢ c → ⊥
four_of_three c p q r s lc lp lq lr ls a np nq nr ns =
    let d1 = a.first_second in
    let d2 = a.first_third in
    let d3 = a.first_fourth in
    let d4 = a.second_third in
    let d5 = a.second_fourth in
    let d6 = a.third_fourth in
    omega (arith, lc, lp, lq, lr, ls, d1, d2, d3, d4, d5, d6, np, nq, nr, ns)

-- four indices that differ aren't below 3
four_indices : (n p q r s : ℕ) → n ≤ 3 → p < n → q < n → r < n → s < n → p ≢ q → p ≢ r → p ≢ s → q ≢ r → q ≢ s → r ≢ s → ⊥
four_indices n p q r s l a b c d e f g h i j = omega arith

-- the members of a list of one are one
alone_in : (bs : List MarkedPolynomial) (x y : MarkedPolynomial) → length bs ≤ 1 → Contains bs x → Contains bs y → x ≡ y
alone_in [] x y l c d = absurd (none_in x c)
alone_in (b ∷ []) x y l c d = one x c ∙ sym (one y d)
  where
    one : (z : MarkedPolynomial) → Contains (b ∷ []) z → z ≡ b
    one z k = elim (in_cons b [] z k) [ inl e ↦ e | inr m ↦ absurd (none_in z m) ]
alone_in (b ∷ (d ∷ bs)) x y l c e = absurd (omega (arith, l))

-- ---- normals

module _ (n : ℕ) (fs : List Terms) (k : Region) (bs : List MarkedPolynomial) (d : AreLinearDifferences n fs) (b : IsBasisInRegion n fs k bs) where
  members : AreLinearMembers bs
  members = region_members n fs k bs d.forms b

  binomials : AreMarkedBinomials (Contains bs)
  binomials = bases_of_binomials n fs bs d.forms.variables d.binomials b.reduced

  pub record IsLinearNormal (a : List ℤ) : Type 0 where
    pub member : MarkedPolynomial
    pub contained : Contains bs member
    pub at : Exponents
    pub there : HasMonomial member.poly at
    pub unmarked : same member.head at ≡ false
    pub high_inside : index_of member.head < n
    pub low_inside : index_of at < n
    pub value : (v : List ℤ) → dot a v ≡ get_or v (index_of member.head) (pos 0) -ℤ get_or v (index_of at) (pos 0)

  at_degree : (a : List ℤ) (r : IsLinearNormal a) → degree r.at ≡ 1
  at_degree a r = members.within r.member r.contained r.at r.there

  pub normal_at : (a : List ℤ) → IsNormal bs a → IsLinearNormal a
  normal_at a h = record {
    member = r.member;
    contained = r.contained;
    at = r.at;
    there = r.there;
    unmarked = r.unmarked;
    high_inside = high;
    low_inside = low;
    value = gives n (index_of r.member.head) (index_of r.at) r.member.head r.at a (b.arranged.canonical r.member r.contained).head r.width high low apart
        (variable_at r.member.head dx) (variable_at r.at dy) (subst (λ (z : List ℤ). IsPrimitivePart z a) r.row r.part);
  }
    where
      r : IsNormalOf n bs a
      r = normal_of n bs a b.arranged.canonical h

      dx : degree r.member.head ≡ 1
      dx = members.heads r.member r.contained

      dy : degree r.at ≡ 1
      dy = members.within r.member r.contained r.at r.there

      inside : (x : Exponents) → HasMonomial r.member.poly x → IsInRing n x
      inside x m = variables_of_member n fs r.member.poly d.forms.variables (b.reduced.basis.members r.member r.contained) x m

      high : index_of r.member.head < n
      high = index_inside n r.member.head dx (inside r.member.head (mark-there (lighter (gains b.weight)) r.member (b.marked r.member r.contained)))

      low : index_of r.at < n
      low = index_inside n r.at dy (inside r.at r.there)

      apart : index_of r.member.head ≡ index_of r.at → ⊥
      apart e =
          let s = same_indices r.member.head r.at (index_of r.at) dx dy (subst (λ (z : ℕ). 1 ≤ entry r.member.head z) e (index_there r.member.head dx))
          (index_there r.at dy) in
          let t : true ≡ false = sym s ∙ r.unmarked in
          absurd (cc)

  -- the unmarked monomial of a member is the same for each of its normals
  tail_once : (m : MarkedPolynomial) → Contains bs m → (x y : Exponents) → HasMonomial m.poly x → HasMonomial m.poly y → same m.head x ≡ false →
      same m.head y ≡ false → same x y ≡ true
  tail_once m c x y h i p q = at (binomials m c).tail (one_of_two (Some m.head) (binomials m c).tail m.poly x (binomials m c).binomial h)
      (one_of_two (Some m.head) (binomials m c).tail m.poly y (binomials m c).binomial i)
    where
      no_mark : (z : Exponents) → IsTheMonomial (Some m.head) z → same m.head z ≡ false → ⊥
      no_mark z t o = let s = same_flip z m.head (is_monomial m.head z t) in let e : true ≡ false = sym s ∙ o in absurd (cc)

      both : (s : Option Exponents) → IsTheMonomial s x → IsTheMonomial s y → same x y ≡ true
      both None t u = absurd (one_not_zero (sym t.one))
      both (Some z) t u = same_trans x z y (is_monomial z x t) (same_flip y z (is_monomial z y u))

      at : (s : Option Exponents) → IsFirst (Some m.head) s x ⊎ IsFirst s (Some m.head) x → IsFirst (Some m.head) s y ⊎ IsFirst s (Some m.head) y →
          same x y ≡ true
      at s (inl t) u = absurd (no_mark x t.there p)
      at s (inr t) (inl u) = absurd (no_mark y u.there q)
      at s (inr t) (inr u) = both s t.there u.there

  -- so a normal is known by the index of the mark
  one_normal : (a c : List ℤ) → IsNormal bs a → IsNormal bs c → (r : IsLinearNormal a) (s : IsLinearNormal c) →
      index_of r.member.head ≡ index_of s.member.head → a ≡ c
  one_normal a c h i r s e = vectors_equal a c (wide ∙ sym wide_too) (λ j l.
      let inside : j < n = omega (arith, l, wide) in
      sym (dot-unit n j a inside wide) ∙ dot_comm (unit n j) a ∙ r.value (unit n j)
      ∙ ap₂ (λ (p q : ℕ). get_or (unit n j) p (pos 0) -ℤ get_or (unit n j) q (pos 0)) e lows
      ∙ sym (s.value (unit n j)) ∙ dot_comm c (unit n j) ∙ dot-unit n j c inside wide_too)
    where
      wide : length a ≡ n
      wide = normal-length n bs a b.arranged.canonical h

      wide_too : length c ≡ n
      wide_too = normal-length n bs c b.arranged.canonical i

      dr : degree r.member.head ≡ 1
      dr = members.heads r.member r.contained

      ds : degree s.member.head ≡ 1
      ds = members.heads s.member s.contained

      marks : same s.member.head r.member.head ≡ true
      marks = same_indices s.member.head r.member.head (index_of s.member.head) ds dr (index_there s.member.head ds)
          (subst (λ (z : ℕ). 1 ≤ entry r.member.head z) e (index_there r.member.head dr))

      same_member : r.member ≡ s.member
      same_member = apart_same bs r.member s.member b.reduced.heads r.contained s.contained [] marks

      lows : index_of r.at ≡ index_of s.at
      lows = index_same r.at s.at (at_degree a r) (at_degree c s)
          (tail_once s.member s.contained r.at s.at (subst (λ (z : MarkedPolynomial). HasMonomial z.poly r.at) same_member r.there) s.there
          (subst (λ (z : MarkedPolynomial). same z.head r.at ≡ false) same_member r.unmarked) s.unmarked)

  -- and its unmarked monomial isn't a mark
  no_mark : (a : List ℤ) (r : IsLinearNormal a) (m : MarkedPolynomial) → Contains bs m → index_of r.at ≡ index_of m.head → ⊥
  no_mark a r m c e =
      let dm = members.heads m c in
      let dr = at_degree a r in
      let s = same_indices r.at m.head (index_of m.head) dr dm (subst (λ (z : ℕ). 1 ≤ entry r.at z) e (index_there r.at dr)) (index_there m.head dm) in
      let t = b.reduced.tails r.member r.contained r.at r.there (record { member = m; contained = c; rest = []; divides = s }) in
      let u : true ≡ false = sym (same_flip r.at r.member.head t) ∙ r.unmarked in
      absurd (cc)

  -- normals at different indices of a list have marks at different indices
  apart_marks : (a c : List ℤ) → IsBefore a c → IsNormal bs a → IsNormal bs c → (r : IsLinearNormal a) (s : IsLinearNormal c) →
      index_of r.member.head ≢ index_of s.member.head
  apart_marks a c l h i r s q = before_strict.irreflexive a (subst (IsBefore a) (sym (one_normal a c h i r s q)) l)

  few : (ns : List (List ℤ)) → AreNormals bs ns → n ≤ 4 → length ns ≤ 3
  few [] m l = omega arith
  few (a ∷ []) m l = omega arith
  few (a ∷ (c ∷ [])) m l = omega arith
  few (a ∷ (c ∷ (e ∷ []))) m l = omega arith
  few (a ∷ (c ∷ (e ∷ (g ∷ ns)))) m l =
      absurd (four_of_three (index_of r.at) (index_of r.member.head) (index_of s.member.head) (index_of t.member.head) (index_of u.member.head)
      (let p = r.low_inside in omega (arith, p, l)) (let p = r.high_inside in omega (arith, p, l)) (let p = s.high_inside in omega (arith, p, l))
      (let p = t.high_inside in omega (arith, p, l)) (let p = u.high_inside in omega (arith, p, l))
      (record {
        first_second = apart_marks a c (m.rises.0 c (Contains-here c (e ∷ (g ∷ ns)))) first second r s;
        first_third = apart_marks a e (m.rises.0 e (in_tail c (e ∷ (g ∷ ns)) e (Contains-here e (g ∷ ns)))) first third r t;
        first_fourth = apart_marks a g (m.rises.0 g (in_tail c (e ∷ (g ∷ ns)) g (in_tail e (g ∷ ns) g (Contains-here g ns)))) first fourth r u;
        second_third = apart_marks c e (m.rises.1.0 e (Contains-here e (g ∷ ns))) second third s t;
        second_fourth = apart_marks c g (m.rises.1.0 g (in_tail e (g ∷ ns) g (Contains-here g ns))) second fourth s u;
        third_fourth = apart_marks e g (m.rises.1.1.0 g (Contains-here g ns)) third fourth t u;
      })
      (λ q. no_mark a r r.member r.contained (sym q)) (λ q. no_mark a r s.member s.contained (sym q)) (λ q. no_mark a r t.member t.contained (sym q))
      (λ q. no_mark a r u.member u.contained (sym q)))
    where
      first : IsNormal bs a
      first = m.only a (Contains-here a (c ∷ (e ∷ (g ∷ ns))))

      second : IsNormal bs c
      second = m.only c (in_tail a (c ∷ (e ∷ (g ∷ ns))) c (Contains-here c (e ∷ (g ∷ ns))))

      third : IsNormal bs e
      third = m.only e (in_tail a (c ∷ (e ∷ (g ∷ ns))) e (in_tail c (e ∷ (g ∷ ns)) e (Contains-here e (g ∷ ns))))

      fourth : IsNormal bs g
      fourth =
          m.only g (in_tail a (c ∷ (e ∷ (g ∷ ns))) g (in_tail c (e ∷ (g ∷ ns)) g (in_tail e (g ∷ ns) g (Contains-here g ns))))

      r : IsLinearNormal a
      r = normal_at a first

      s : IsLinearNormal c
      s = normal_at c second

      t : IsLinearNormal e
      t = normal_at e third

      u : IsLinearNormal g
      u = normal_at g fourth

  -- in three variables there are at most two
  pub few_in_three : (ns : List (List ℤ)) → AreNormals bs ns → n ≤ 3 → length ns ≤ 2
  few_in_three [] m l = omega arith
  few_in_three (a ∷ []) m l = omega arith
  few_in_three (a ∷ (c ∷ [])) m l = omega arith
  few_in_three (a ∷ (c ∷ (e ∷ ns))) m l =
      absurd (four_indices n (index_of r.member.head) (index_of s.member.head) (index_of t.member.head) (index_of r.at) l r.high_inside s.high_inside
      t.high_inside r.low_inside (apart_marks a c (m.rises.0 c (Contains-here c (e ∷ ns))) first second r s)
      (apart_marks a e (m.rises.0 e (in_tail c (e ∷ ns) e (Contains-here e ns))) first third r t) (λ q. no_mark a r r.member r.contained (sym q))
      (apart_marks c e (m.rises.1.0 e (Contains-here e ns)) second third s t) (λ q. no_mark a r s.member s.contained (sym q))
      (λ q. no_mark a r t.member t.contained (sym q)))
    where
      first : IsNormal bs a
      first = m.only a (Contains-here a (c ∷ (e ∷ ns)))

      second : IsNormal bs c
      second = m.only c (in_tail a (c ∷ (e ∷ ns)) c (Contains-here c (e ∷ ns)))

      third : IsNormal bs e
      third = m.only e (in_tail a (c ∷ (e ∷ ns)) e (in_tail c (e ∷ ns) e (Contains-here e ns)))

      r : IsLinearNormal a
      r = normal_at a first

      s : IsLinearNormal c
      s = normal_at c second

      t : IsLinearNormal e
      t = normal_at e third

  -- of one member there is at most one
  pub one_at_most : (ns : List (List ℤ)) → AreNormals bs ns → length bs ≤ 1 → length ns ≤ 1
  one_at_most [] m l = omega arith
  one_at_most (a ∷ []) m l = omega arith
  one_at_most (a ∷ (c ∷ ns)) m l =
      absurd (apart_marks a c (m.rises.0 c (Contains-here c ns)) first second r s (ap (λ (x : MarkedPolynomial). index_of x.head)
      (alone_in bs r.member s.member l r.contained s.contained)))
    where
      first : IsNormal bs a
      first = m.only a (Contains-here a (c ∷ ns))

      second : IsNormal bs c
      second = m.only c (in_tail a (c ∷ ns) c (Contains-here c ns))

      r : IsLinearNormal a
      r = normal_at a first

      s : IsLinearNormal c
      s = normal_at c second

  differ : (a : List ℤ) → IsNormal bs a → IsDifferenceRow n a
  differ a h =
      let r = normal_at a h in
      record {
        width = normal-length n bs a b.arranged.canonical h;
        high = index_of r.member.head;
        low = index_of r.at;
        high_inside = r.high_inside;
        low_inside = r.low_inside;
        difference = λ v l. r.value v;
      }

  pub linear_normals : (ns : List (List ℤ)) → AreNormals bs ns → n ≤ 4 → (length ns ≤ 3) × AreDifferenceRows n ns
  linear_normals ns m l = (few ns m l, λ row c. differ row (m.only row c))
