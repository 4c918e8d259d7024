-- Runs of Buchberger's algorithm on variables and differences of variables: their members stay such, and no two have the same mark. For the S-polynomials of
-- such a list need no new member, since its marks are coprime: the list is a Gröbner basis of the ideal that it generates.
-- To cite: same_or_not, entry_low, alone, index_of, index_there, same_indices, coprime_of, none_degree, weight_ones, homogeneous, last_at, IsOfDegree,
-- AreLinearMembers, AreLinearMarked, plain, join_low, closed-degree, shift_short, s_polynomial_degree, at_contained, step_short, tail_linear, linear_basis,
-- more, few_members, few, run_short, pairs_mono, linear_runs, linear_ruled_runs.
-- The rest are steps.
use Rattle.std.proofs.Common.{
  ◌≡◌,
  ◌⊎◌,
  ℕ,
  zero,
  suc,
  ◌+◌,
  ◌<◌,
  ◌≤◌,
  ◌^◌,
  true,
  List,
  [],
  ◌∷◌,
  ◌++◌,
  length,
  replicate,
  get_or,
  Contains,
  arith,
  refl,
  sym,
  ap,
  ◌∙◌,
  subst,
  inl,
  inr,
  length-append,
}
use Rattle.std.proofs.lemmas.Bool.{cases_lt}
use Rattle.std.proofs.lemmas.List.{get_or_default, get_or_append_left}
use Rattle.gf_frac.specs.Fraction.{neg_ℚ, one_ℚ}
use Rattle.gf_int_theory.proofs.ListLaws.{Contains-last}
use Rattle.gf_exponents_theory.specs.Exponents.{Exponents, entry, same, plus, join, degree, weight, AreCoprime, IsInRing}
use Rattle.gf_exponents_theory.proofs.ExponentsLaws.{same_flip, same_by_entries}
use Rattle.gf_exponents_theory.proofs.WeightLaws.{degree-plus, degree-same}
use Rattle.gf_poly.specs.Polynomial.{Terms, times}
use Rattle.gf_poly.specs.Marking.{MarkedPolynomial, polys}
use Rattle.gf_ideal_theory.specs.Membership.{HasMonomial, IsInVariables, AreInVariables, IsMember}
use Rattle.gf_ideal_theory.specs.Marks.{IsMarked, AreMarked}
use Rattle.gf_ideal_theory.specs.MonomialOrders.{MonomialOrder, below_of, IsAdmissible, IsHomogeneous, Comparison}
use Rattle.gf_ideal_theory.specs.Reduction.{IsDivisible, Reached, IsSPolynomial, IsMonicForm}
use Rattle.gf_ideal_theory.specs.Operands.{AreThese, IsShiftOperation, IsStepExponents}
use Rattle.gf_ideal_theory.specs.Bases.{IsGroebnerBasisFor}
use Rattle.gf_ideal_theory.specs.Settled.{IsAt, ArePairsSettled}
use Rattle.gf_ideal_theory.specs.WorkLists.{IsOrigin, IsWorkList, IsTail, IsRunExponents}
use Rattle.gf_ideal_theory.proofs.LawsOfBasesHold.{buchbergers_criterion, pairs_are_settled}
use Rattle.gf_ideal_theory.proofs.MarkWeights.{mark-there}
use Rattle.gf_ideal_theory.proofs.MembershipLaws.{member-generator, variables_of_member}
use Rattle.gf_ideal_theory.proofs.PieceLaws.{Contains-marked, Contains-polys}
use Rattle.gf_ideal_theory.proofs.StepLaws.{IsClosed, IsWithin, reached-one, multiple_within, sum_within, taken, monic-monomials, member-reached}
use Rattle.gf_ideal_theory.proofs.StepLaws.{member-s_polynomial}
use Rattle.gf_ideal_theory.proofs.WorkLaws.{work-marked, work-members}
use Rattle.gf_buchberger.specs.Pairs.{pairs_below}
use Rattle.gf_buchberger.proofs.RuledLaws.{ruled_within_limits}
use Rattle.gf_binomials_theory.proofs.PrincipalRuns.{form_to}
use Rattle.gf_binomials_theory.proofs.RunLaws.{run_fits}
use Rattle.gfan_theory.specs.Linear.{IsLinear, AreLinearForms, LinearRunsStayWithinLimits, LinearRuledRunsStayWithinLimits}

-- ---- numbers

pub same_or_not : (a b : ℕ) → (a ≡ b) ⊎ (a ≡ b → ⊥)
same_or_not zero zero = inl refl
same_or_not zero (suc b) = inr (λ e. omega (arith, e))
same_or_not (suc a) zero = inr (λ e. omega (arith, e))
same_or_not (suc a) (suc b) = elim (same_or_not a b) [ inl e ↦ inl (ap suc e) | inr n ↦ inr (λ e. n (omega (arith, e))) ]

below : (v n : ℕ) → v < suc n → (v ≡ n → ⊥) → v < n
below v n l o = elim (cases_lt v n) [ inl s ↦ s | inr g ↦ absurd (o (omega (arith, l, g))) ]

-- v in the place of n
abbrev turned : (n v a : ℕ) → (a ≡ n) ⊎ (a ≡ n → ⊥) → ℕ
turned n v a (inl e) = v
turned n v a (inr o) = a

turned_low : (n v a : ℕ) (d : (a ≡ n) ⊎ (a ≡ n → ⊥)) → v < suc n → a < suc n → (a ≡ v → ⊥) → turned n v a d < n
turned_low n v a (inl e) l m o = below v n l (λ q. o (e ∙ sym q))
turned_low n v a (inr k) l m o = below a n m k

turned_apart : (n v a b : ℕ) (d : (a ≡ n) ⊎ (a ≡ n → ⊥)) (e : (b ≡ n) ⊎ (b ≡ n → ⊥)) → (a ≡ b → ⊥) → (a ≡ v → ⊥) → (b ≡ v → ⊥) →
    turned n v a d ≡ turned n v b e → ⊥
turned_apart n v a b (inl p) (inl q) o x y z = o (p ∙ sym q)
turned_apart n v a b (inl p) (inr q) o x y z = y (sym z)
turned_apart n v a b (inr p) (inl q) o x y z = x z
turned_apart n v a b (inr p) (inr q) o x y z = o z

-- m different numbers below n
pigeons : (n m : ℕ) (p : ℕ → ℕ) → ((i : ℕ) → i < m → p i < n) → ((i j : ℕ) → i < j → j < m → p i ≡ p j → ⊥) → m ≤ n
pigeons zero zero p low apart = omega arith
pigeons zero (suc m) p low apart = absurd (let l = low 0 (omega arith) in omega (arith, l))
pigeons (suc n) zero p low apart = omega arith
pigeons (suc n) (suc m) p low apart =
    let other : (i : ℕ) → i < m → p i ≡ p m → ⊥ = λ i l. apart i m l (omega arith) in
    let q : m ≤ n = pigeons n m (λ i. turned n (p m) (p i) (same_or_not (p i) n))
    (λ i l. turned_low n (p m) (p i) (same_or_not (p i) n) (low m (omega arith)) (low i (omega (arith, l))) (other i l))
    (λ i j l k. turned_apart n (p m) (p i) (p j) (same_or_not (p i) n) (same_or_not (p j) n) (apart i j l (omega (arith, k))) (other i (omega (arith, l, k)))
    (other j k)) in
    omega (arith, q)

-- ---- degrees

pub entry_low : (x : Exponents) (i : ℕ) → entry x i ≤ degree x
entry_low [] i = omega arith
entry_low (a ∷ x) zero = omega arith
entry_low (a ∷ x) (suc i) = let p = entry_low x i in omega (arith, p)

-- in a variable one entry is 1, and the others are 0
pub alone : (x : Exponents) (i k : ℕ) → degree x ≡ 1 → 1 ≤ entry x i → (k ≡ i → ⊥) → entry x k ≡ 0
alone [] i k d l n = absurd (omega (arith, l))
alone (a ∷ x) zero zero d l n = absurd (n refl)
alone (a ∷ x) zero (suc k) d l n = let p = entry_low x k in omega (arith, p, d, l)
alone (a ∷ x) (suc i) zero d l n = let p = entry_low x i in omega (arith, p, d, l)
alone (a ∷ x) (suc i) (suc k) d l n =
    let p = entry_low x i in
    alone x i k (omega (arith, p, d, l)) l (λ e. n (ap suc e))

-- the index of a variable
abbrev pub index_of : Exponents → ℕ
index_of [] = 0
index_of (zero ∷ x) = suc (index_of x)
index_of (suc a ∷ x) = 0

pub index_there : (x : Exponents) → degree x ≡ 1 → 1 ≤ entry x (index_of x)
index_there [] d = absurd (omega (arith, d))
index_there (zero ∷ x) d = index_there x (omega (arith, d))
index_there (suc a ∷ x) d = omega arith

pub same_indices : (x y : Exponents) (i : ℕ) → degree x ≡ 1 → degree y ≡ 1 → 1 ≤ entry x i → 1 ≤ entry y i → same x y ≡ true
same_indices x y i d e l m = same_by_entries x y (λ k. elim (same_or_not k i) [
  | inl q ↦ subst (λ (j : ℕ). entry x j ≡ entry y j) (sym q) (let u = entry_low x i in let v = entry_low y i in omega (arith, u, v, d, e, l, m))
  | inr n ↦ alone x i k d l n ∙ sym (alone y i k e m n)
])

pub coprime_of : (x y : Exponents) → degree x ≡ 1 → degree y ≡ 1 → (same x y ≡ true → ⊥) → AreCoprime x y
coprime_of x y d e o i = at (same_or_not (entry x i) 0) (same_or_not (entry y i) 0)
  where
    at : (entry x i ≡ 0) ⊎ (entry x i ≡ 0 → ⊥) → (entry y i ≡ 0) ⊎ (entry y i ≡ 0 → ⊥) → (entry x i ≡ 0) ⊎ (entry y i ≡ 0)
    at (inl z) k = inl z
    at (inr p) (inl z) = inr z
    at (inr p) (inr q) = absurd (o (same_indices x y i d e (some (entry x i) p) (some (entry y i) q)))
      where
        some : (a : ℕ) → (a ≡ 0 → ⊥) → 1 ≤ a
        some zero n = absurd (n refl)
        some (suc a) n = omega arith

pub join_low : (x y : Exponents) → degree (join x y) ≤ degree x + degree y
join_low [] y = omega arith
join_low (a ∷ x) [] = omega arith
join_low (a ∷ x) (b ∷ y) = let p = join_low x y in omega (arith, p)

-- ---- polynomials of a degree

abbrev pub IsOfDegree : ℕ → Exponents → Type 0
IsOfDegree d x = degree x ≡ d

-- ---- the grade by the degree

pub none_degree : (x : Exponents) → ((i : ℕ) → entry x i ≡ 0) → degree x ≡ 0
none_degree [] z = refl
none_degree (a ∷ x) z = let p : a ≡ 0 = z 0 in let q = none_degree x (λ i. z (suc i)) in omega (arith, p, q)

pub weight_ones : (n : ℕ) (x : Exponents) → IsInRing n x → weight (replicate n 1) x ≡ degree x
weight_ones zero x z = sym (none_degree x (λ i. z i (omega arith)))
weight_ones (suc n) [] z = refl
weight_ones (suc n) (a ∷ x) z = let p = weight_ones n x (λ i l. z (suc i) (omega (arith, l))) in omega (arith, p)

pub homogeneous : (n : ℕ) (f : Terms) → IsInVariables n f → IsLinear f → IsHomogeneous n (replicate n 1) f
homogeneous n f v l x y h k = (
  weight_ones n x (v x h) ∙ l x h ∙ sym (l y k) ∙ sym (weight_ones n y (v y k)),
  λ i m. v x h i m ∙ sym (v y k i m),
)

pub last_at : (bs : List MarkedPolynomial) (b e : MarkedPolynomial) → get_or (bs ++ b ∷ []) (length bs) e ≡ b
last_at [] b e = refl
last_at (c ∷ bs) b e = last_at bs b e

-- ---- lists of linear members, no two of which have one mark

pub record AreLinearMembers (bs : List MarkedPolynomial) : Type 0 where
  pub heads : (b : MarkedPolynomial) → Contains bs b → degree b.head ≡ 1
  pub within : (b : MarkedPolynomial) → Contains bs b → IsLinear b.poly
  pub apart : (i j : ℕ) (b c : MarkedPolynomial) → i < j → IsAt bs i b → IsAt bs j c → same b.head c.head ≡ true → ⊥

-- the marks and the other monomials of the members are variables
pub record AreLinearMarked (bs : List MarkedPolynomial) : Type 0 where
  pub heads : (b : MarkedPolynomial) → Contains bs b → degree b.head ≡ 1
  pub within : (b : MarkedPolynomial) → Contains bs b → IsLinear b.poly

pub plain : (bs : List MarkedPolynomial) → AreLinearMembers bs → AreLinearMarked bs
plain bs m = record { heads = m.heads; within = m.within }

pub closed-degree : (d : ℕ) (bs : List MarkedPolynomial) → AreLinearMarked bs → IsClosed (Contains bs) (IsOfDegree d)
closed-degree d bs m = record {
  along = λ x y s h. sym (degree-same x y s) ∙ h;
  lower = λ b c u t n h.
      let p = degree-plus u t in
      let q = degree-plus u b.head in
      let r = m.within b c t n in
      let s = m.heads b c in
      omega (arith, p, q, r, s, h);
}

pub at_contained : (bs : List MarkedPolynomial) (i : ℕ) (b : MarkedPolynomial) → IsAt bs i b → Contains bs b
at_contained bs i b h = (i, h.within, h.is)

pub shift_short : (u : Exponents) (b : MarkedPolynomial) (left right : ℕ) → degree u ≤ 1 → IsLinear b.poly → IsShiftOperation u b.poly left right →
    left + right < 2 ^ 31
shift_short u b left right l m o = at o.operands
  where
    at : AreThese (entry u o.variable) (entry o.monomial o.variable) left right → left + right < 2 ^ 31
    at t =
        let p = entry_low u o.variable in
        let q = entry_low o.monomial o.variable in
        let r = m o.monomial o.there in
        elim t [
          | inl x ↦ (let y = x.0 in let z = x.1 in omega (arith, p, q, r, l, y, z))
          | inr x ↦
              (let y = x.0 in let z = x.1 in omega (arith, p, q, r, l, y, z))
        ]

pub step_short : (bs : List MarkedPolynomial) (e : ℕ) (f : Terms) (at : Exponents) (left right : ℕ) → AreLinearMarked bs → e ≤ 2 → IsWithin (IsOfDegree e) f →
    IsStepExponents (Contains bs) f at left right → left + right < 2 ^ 31
step_short bs e f at left right m l w o =
    let p : degree at ≡ e = w at o.index.there in
    let q = degree-same at (plus o.rest o.member.head) o.index.divides in
    let r = degree-plus o.rest o.member.head in
    let s = m.heads o.member o.index.contained in
    shift_short o.rest o.member left right (omega (arith, p, q, r, s, l)) (m.within o.member o.index.contained) o.sum

pub tail_linear : (bs : List MarkedPolynomial) (b : MarkedPolynomial) → AreLinearMarked bs → IsTail bs b → IsLinear b.poly
tail_linear bs b m (IsTail.member e c) = m.within b c
tail_linear bs c m (IsTail.step b e t h s k) =
    (taken (Contains bs) (IsOfDegree 1) b.poly c.poly (closed-degree 1 bs m) (tail_linear bs b m t) (reached-one (Contains bs) b.poly c.poly s)).within

-- an S-polynomial has a degree of two at most
pub s_polynomial_degree : (bs : List MarkedPolynomial) (b c : MarkedPolynomial) (f : Terms) → AreLinearMarked bs → Contains bs b → Contains bs c →
    IsSPolynomial b c f → (e : ℕ) × (e ≤ 2) × IsWithin (IsOfDegree e) f
s_polynomial_degree bs b c f m k l s = (
  degree (join b.head c.head),
  (let p = join_low b.head c.head in let q = m.heads b k in let r = m.heads c l in omega (arith, p, q, r)),
  sum_within (IsOfDegree (degree (join b.head c.head))) (times one_ℚ s.left b.poly) (times (neg_ℚ one_ℚ) s.right c.poly) f
      (multiple_within (Contains bs) (IsOfDegree (degree (join b.head c.head))) b one_ℚ s.left (closed-degree (degree (join b.head c.head)) bs m) k
      (degree-same (plus s.left b.head) (join b.head c.head) s.of_left))
      (multiple_within (Contains bs) (IsOfDegree (degree (join b.head c.head))) c (neg_ℚ one_ℚ) s.right (closed-degree (degree (join b.head c.head)) bs m) l
      (degree-same (plus s.right c.head) (join b.head c.head) s.of_right)) s.equal,
)

-- such a list is a Gröbner basis of the ideal that it generates, by each order that marks it so
pub linear_basis : (order : MonomialOrder) (n : ℕ) (bs : List MarkedPolynomial) → IsAdmissible order n (replicate n 1) → AreLinearMembers bs →
    AreInVariables n (polys bs) → AreMarked (below_of order) bs →
    IsGroebnerBasisFor n (polys bs) (below_of order) bs
linear_basis order n bs a m v marked = buchbergers_criterion.for_order order n (replicate n 1) bs a v
    (λ f c. homogeneous n f (v f c) (let k = Contains-marked bs f c in subst IsLinear k.2 (m.within k.0 k.1))) marked pairs
  where
    pairs : ArePairsSettled n bs (below_of order)
    pairs i j b c l p q =
        pairs_are_settled.by_product (Comparison.by_order order) n bs b c v marked (at_contained bs i b p) (at_contained bs j c q)
        (coprime_of b.head c.head (m.heads b (at_contained bs i b p)) (m.heads c (at_contained bs j c q)) (m.apart i j b c l p q))

-- one member more
pub more : (bs : List MarkedPolynomial) (g : Terms) (b : MarkedPolynomial) → AreLinearMembers bs → IsLinear g → IsMonicForm g b →
    (IsDivisible (Contains bs) b.head → ⊥) → AreLinearMembers (bs ++ b ∷ [])
more bs g b m l q new = record {
  heads = λ c k. elim (Contains-last bs b c k) [ inl i ↦ m.heads c i | inr e ↦ ap (λ (z : MarkedPolynomial). degree z.head) e ∙ l b.head q.there ];
  within = λ c k. elim (Contains-last bs b c k) [
    | inl i ↦ m.within c i
    | inr e ↦
        subst (λ (z : MarkedPolynomial). IsLinear z.poly) (sym e) (λ x h. l x (monic-monomials g b q x h))
  ];
  apart = λ i j c e less p o s. at i j c e less p o s (cases_lt j (length bs));
}
  where
    -- an index before the last one
    before : (i : ℕ) (c : MarkedPolynomial) → i < length bs → IsAt (bs ++ b ∷ []) i c → IsAt bs i c
    before i c less p = record { within = less; is = sym (get_or_append_left bs (b ∷ []) c i less) ∙ p.is }

    at : (i j : ℕ) (c e : MarkedPolynomial) → i < j → IsAt (bs ++ b ∷ []) i c → IsAt (bs ++ b ∷ []) j e → same c.head e.head ≡ true → (j < length bs)
        ⊎ (length bs ≤ j) → ⊥
    at i j c e less p o s (inl k) = m.apart i j c e less (before i c (omega (arith, less, k)) p) (before j e k o) s
    at i j c e less p o s (inr k) =
        let long : length (bs ++ b ∷ []) ≡ length bs + 1 = length-append bs (b ∷ []) in
        let inside : j < length (bs ++ b ∷ []) = o.within in
        let end : j ≡ length bs = omega (arith, long, inside, k) in
        let is : e ≡ b = sym o.is ∙ ap (λ (z : ℕ). get_or (bs ++ b ∷ []) z e) end ∙ last_at bs b e in
        let first : IsAt bs i c = before i c (omega (arith, less, end)) p in
        new (record {
          member = c;
          contained = at_contained bs i c first;
          rest = [];
          divides = same_flip c.head b.head (subst (λ (z : MarkedPolynomial). same c.head z.head ≡ true) is s);
        })

-- their marks are different variables
pub few_members : (n : ℕ) (bs : List MarkedPolynomial) → AreLinearMembers bs → ((b : MarkedPolynomial) → Contains bs b → IsInRing n b.head) → length bs ≤ n
few_members n bs m ring = pigeons n (length bs) (λ i. index_of (head_at i)) low apart
  where
    none : MarkedPolynomial
    none = record { poly = []; head = [] }

    head_at : ℕ → Exponents
    head_at i = (get_or bs i none).head

    here : (i : ℕ) → i < length bs → IsAt bs i (get_or bs i none)
    here i l = record { within = l; is = get_or_default bs i (get_or bs i none) none l }

    one : (i : ℕ) → i < length bs → degree (head_at i) ≡ 1
    one i l = m.heads (get_or bs i none) (at_contained bs i (get_or bs i none) (here i l))

    low : (i : ℕ) → i < length bs → index_of (head_at i) < n
    low i l = at (cases_lt (index_of (head_at i)) n)
      where
        at : (index_of (head_at i) < n) ⊎ (n ≤ index_of (head_at i)) → index_of (head_at i) < n
        at (inl k) = k
        at (inr k) =
            let z : entry (head_at i) (index_of (head_at i)) ≡ 0 =
            ring (get_or bs i none) (at_contained bs i (get_or bs i none) (here i l)) (index_of (head_at i)) k in
            let s = index_there (head_at i) (one i l) in
            absurd (omega (arith, z, s))

    apart : (i j : ℕ) → i < j → j < length bs → index_of (head_at i) ≡ index_of (head_at j) → ⊥
    apart i j l k e =
        let il : i < length bs = omega (arith, l, k) in
        m.apart i j (get_or bs i none) (get_or bs j none) l (here i il) (here j k)
        (same_indices (head_at i) (head_at j) (index_of (head_at j)) (one i il) (one j k)
        (subst (λ (z : ℕ). 1 ≤ entry (head_at i) z) e (index_there (head_at i) (one i il))) (index_there (head_at j) (one j k)))

module _ (order : MonomialOrder) (n : ℕ) (fs : List Terms) (a : IsAdmissible order n (replicate n 1)) (d : AreLinearForms n fs) where
  -- such a list of a run is in the variables, and a Gröbner basis of the ideal that it generates
  members_variables : (bs : List MarkedPolynomial) → IsWorkList fs (below_of order) bs → AreInVariables n (polys bs)
  members_variables bs w f c =
      let m = Contains-marked bs f c in
      subst (IsInVariables n) m.2 (variables_of_member n fs m.0.poly d.variables (work-members n fs (below_of order) bs d.variables w m.0 m.1))

  basis : (bs : List MarkedPolynomial) → IsWorkList fs (below_of order) bs → AreLinearMembers bs → IsGroebnerBasisFor n (polys bs) (below_of order) bs
  basis bs w m = linear_basis order n bs a m (members_variables bs w) (work-marked fs (below_of order) bs w)

  -- so what an S-polynomial of it leaves has a greatest monomial that a mark divides
  none_new : (bs : List MarkedPolynomial) (f g : Terms) (b : MarkedPolynomial) → IsWorkList fs (below_of order) bs → AreLinearMembers bs →
      ((e : MarkedPolynomial) × (c : MarkedPolynomial) × Contains bs e × Contains bs c × IsSPolynomial e c f) → Reached (Contains bs) f g → IsMonicForm g b →
      IsMarked (below_of order) b → IsDivisible (Contains bs) b.head
  none_new bs f g b w m (e, c, k, l, s) r q h = (basis bs w m).initial g member b.head
      (record { there = q.there; greatest = λ y t. h.tail y (form_to g b y q t) })
    where
      inside : (z : MarkedPolynomial) → Contains bs z → IsMember n (polys bs) z.poly
      inside z t = member-generator n (polys bs) z.poly (Contains-polys bs z t)

      there : (z : MarkedPolynomial) → Contains bs z → HasMonomial z.poly z.head
      there z t = mark-there (below_of order) z (work-marked fs (below_of order) bs w z t)

      member : IsMember n (polys bs) g
      member = member-reached n (polys bs) (Contains bs) f g (members_variables bs w) inside r
          (member-s_polynomial n (polys bs) e c f (members_variables bs w) (there e k) (there c l) (inside e k) (inside c l) s)

  work_linear : (bs : List MarkedPolynomial) → IsWorkList fs (below_of order) bs → AreLinearMembers bs
  work_linear bs IsWorkList.start = record {
    heads = λ b c. absurd (omega (arith, c.1));
    within = λ b c. absurd (omega (arith, c.1));
    apart = λ i j b c l p q s. absurd (let k = p.within in omega (arith, k));
  }
  work_linear cs (IsWorkList.more bs f g b w o r q m new) = at (work_linear bs w) o
    where
      at : AreLinearMembers bs → IsOrigin fs bs f → AreLinearMembers (bs ++ b ∷ [])
      at l (inl k) = more bs g b l (taken (Contains bs) (IsOfDegree 1) f g (closed-degree 1 bs (plain bs l)) (d.linear f k) r).within q new
      at l (inr k) = absurd (new (none_new bs f g b w l k r q m))

  -- ---- there are few members

  pub few : (bs : List MarkedPolynomial) → IsWorkList fs (below_of order) bs → length bs ≤ n
  few bs w = few_members n bs (work_linear bs w)
      (λ b c. variables_of_member n fs b.poly d.variables (work-members n fs (below_of order) bs d.variables w b c) b.head
      (mark-there (below_of order) b (work-marked fs (below_of order) bs w b c)))

  -- ---- sums of exponents

  -- what a reduction starts from has a degree of two at most
  origin_degree : (bs : List MarkedPolynomial) (f : Terms) → AreLinearMarked bs → IsOrigin fs bs f → (e : ℕ) × (e ≤ 2) × IsWithin (IsOfDegree e) f
  origin_degree bs f m (inl k) = (1, omega arith, d.linear f k)
  origin_degree bs f m (inr (b, c, k, l, s)) = s_polynomial_degree bs b c f m k l s

  pub run_short : (left right : ℕ) → IsRunExponents fs (below_of order) left right → left + right < 2 ^ 31
  run_short left right (IsRunExponents.step bs f w o h) =
      let m = plain bs (work_linear bs w) in
      let e = origin_degree bs f m o in
      step_short bs e.0 h.from h.at left right m e.1 (taken (Contains bs) (IsOfDegree e.0) f h.from (closed-degree e.0 bs m) e.2 h.reached).within h.sum
  run_short left right (IsRunExponents.s_polynomial bs b c w k l h) = at h.sum
    where
      m : AreLinearMembers bs
      m = work_linear bs w

      at : IsShiftOperation h.of_b b.poly left right ⊎ IsShiftOperation h.of_c c.poly left right → left + right < 2 ^ 31
      at (inl s) =
          let p = degree-same (plus h.of_b b.head) (join b.head c.head) h.shift_b in
          let q = degree-plus h.of_b b.head in
          let r = join_low b.head c.head in
          let x = m.heads b k in
          let y = m.heads c l in
          shift_short h.of_b b left right (omega (arith, p, q, r, x, y)) (m.within b k) s
      at (inr s) =
          let p = degree-same (plus h.of_c c.head) (join b.head c.head) h.shift_c in
          let q = degree-plus h.of_c c.head in
          let r = join_low b.head c.head in
          let x = m.heads b k in
          let y = m.heads c l in
          shift_short h.of_c c left right (omega (arith, p, q, r, x, y)) (m.within c l) s
  run_short left right (IsRunExponents.tail bs b at w t k h) =
      let m = plain bs (work_linear bs w) in step_short bs 1 b.poly at left right m (omega arith) (tail_linear bs b m t) h

-- ---- pairs

pub pairs_mono : (k n : ℕ) → k ≤ n → pairs_below k ≤ pairs_below n
pairs_mono zero n l = omega arith
pairs_mono (suc k) zero l = absurd (omega (arith, l))
pairs_mono (suc k) (suc n) l = let p = pairs_mono k n (omega (arith, l)) in omega (arith, p, l)

pub linear_runs : LinearRunsStayWithinLimits
linear_runs order n fs budget a d room = record {
  operations = λ op left right o. run_fits fs (below_of order) op left right d.binomials o;
  exponents = λ left right o. run_short order n fs a d.forms left right o;
  pairs = λ bs w. let p = pairs_mono (length bs) n (few order n fs a d.forms bs w) in omega (arith, p, room);
}

pub linear_ruled_runs : LinearRuledRunsStayWithinLimits
linear_ruled_runs strategy order n fs budget a v d room = ruled_within_limits strategy order n fs budget v (linear_runs order n fs budget a d room)
