-- Autoreduction: all tails, and what the arranged list then is.
-- To cite: AreTails, tails_more, given_variables, forms_some_variables, forms_weight, tails_variables, Autoreducing,
-- autoreducing, autoreduced_value, autoreduced_arranged, autoreduced_marked, autoreduced_reduced.
use Rattle.std.specs.Prelude.{◌≡◌, ◌⊎◌, ℕ, ◌+◌, ◌<◌, true, List, [], ◌∷◌, ◌++◌, length, Contains, take}
use Rattle.std.proofs.Common.{arith, sym, ap, ◌∙◌, subst, inl, inr, get_or}
use Rattle.std.proofs.lemmas.List.{take_more}
use Rattle.std.proofs.lemmas.List.Elements.{Contains-push_cases}
use Rattle.std.proofs.lemmas.List.Sorted.{Contains-permutation, IsPermutation-sym}
use Rattle.gf_frac.specs.Fraction.{◌*ℚ◌}
use Rattle.gf_frac.proofs.FractionLaws.{*ℚ_cancel}
use Rattle.gf_exponents_theory.specs.Exponents.{same}
use Rattle.gf_exponents_theory.specs.Orders.{lighter}
use Rattle.gf_exponents_theory.proofs.ExponentsLaws.{same_flip, same_of, same_trans}
use Rattle.gf_exponents_theory.proofs.OrderLaws.{lighter-strict}
use Rattle.gf_int_theory.proofs.ListLaws.{Contains-here}
use Rattle.gf_poly.specs.Polynomial.{Terms, coefficient, SamePolynomial, HasVariables}
use Rattle.gf_poly.specs.Marking.{MarkedPolynomial, MarkedPolynomials, HaveVariables, IsArranged}
use Rattle.gf_poly.proofs.PolynomialLaws.{coefficient-same}
use Rattle.gf_ideal_theory.specs.Membership.{AreInVariables, IsMember}
use Rattle.gf_ideal_theory.specs.Marks.{IsMarked, AreMarked, IsPositive, HasPositiveWeight, IsRealisedBy, IsRealisable}
use Rattle.gf_ideal_theory.specs.Reduction.{IsMonicForm, AreMonicForms, IsDivisible}
use Rattle.gf_ideal_theory.specs.Bases.{IsBasis, AreApart, IsReducedBasis, IsHeaviest, IsCanonical, AreArranged}
use Rattle.gf_ideal_theory.specs.WorkLists.{IsReducedTail, AreReducedTails}
use Rattle.gf_ideal_theory.proofs.ListLaws.{each_contained, Contains-there, Contains-cases}
use Rattle.gf_ideal_theory.proofs.MembershipLaws.{member-equal}
use Rattle.gf_ideal_theory.proofs.GeneratorLaws.{monic-from}
use Rattle.gf_ideal_theory.proofs.MarkWeights.{monic_realised}
use Rattle.gf_ideal_theory.proofs.InterreductionLaws.{divisible_through, interreduced, reduced-tails, apart-tails, tail-marked, reduced_by_weight}
use Rattle.gf_ideal_theory.proofs.ArrangementLaws.{reduced-arranged}
use Rattle.gf_ideal_theory.proofs.KeptForms.{arranged_list}
use Rattle.gf_ideal_theory.proofs.DividingLaws.{divisible_itself}
use Rattle.gf_division.specs.MonicForms.{IsMadeMonic}
use Rattle.gf_division.specs.NormalForms.{HasSomeWeight}
use Rattle.gf_division.specs.Autoreduction.{IsNeededForm, AreNeededForms, IsAutoreduced, IsBasisOnceMonic, IsReducedOf, ShareSomeVariables, KeepVariables}
use Rattle.gf_division.specs.Autoreduction.{IsKeptForm, AreKeptForms}
use Rattle.gf_division.proofs.ReducerLaws.{member_contained, member_variables}
use Rattle.gf_division.proofs.NeededLaws.{needed_divisible}

-- ---- all tails

-- cs are the members ks with their tails reduced by bs, index by index, and kept in as many variables
pub record AreTails (bs ks cs : List MarkedPolynomial) : Type 0 where
  pub tails : AreReducedTails bs ks cs
  pub forms : AreKeptForms bs cs

tails-push : (bs ks cs : List MarkedPolynomial) (k c : MarkedPolynomial) → AreReducedTails bs ks cs → IsReducedTail bs k c →
    AreReducedTails bs (ks ++ k ∷ []) (cs ++ c ∷ [])
tails-push bs [] [] k c h t = (t, tt)
tails-push bs [] (d ∷ cs) k c h t = elim h [ ]
tails-push bs (j ∷ ks) [] k c h t = elim h [ ]
tails-push bs (j ∷ ks) (d ∷ cs) k c h t = (h.0, tails-push bs ks cs k c h.1 t)

pub tails_more : (bs cs ds : List MarkedPolynomial) (k c : MarkedPolynomial) (i : ℕ) → i < length bs → k ≡ get_or bs i k → ds ≡ cs ++ c ∷ [] →
    IsReducedTail bs k c → IsKeptForm k c → AreTails bs (take i bs) cs → AreTails bs (take (i + 1) bs) ds
tails_more bs cs ds k c i l e q t f h = record {
  tails = subst (λ (z : List MarkedPolynomial). AreReducedTails bs (take (i + 1) bs) z) (sym q)
      (subst (λ (z : List MarkedPolynomial). AreReducedTails bs z (cs ++ c ∷ []))
      (sym (take_more bs i k l ∙ ap (λ (z : MarkedPolynomial). take i bs ++ z ∷ []) (sym e))) (tails-push bs (take i bs) cs k c h.tails t));
  forms = record { at = λ n v d m. at n v d (Contains-push_cases cs c d (subst (λ (z : List MarkedPolynomial). Contains z d) q m)) };
}
  where
    at : (n : ℕ) → HaveVariables n bs → (d : MarkedPolynomial) → Contains cs d ⊎ (c ≡ d) → IsCanonical n d
    at n v d (inl m) = h.forms.at n v d m
    at n v d (inr g) = subst (IsCanonical n) g (f.at n (member_variables n bs k v (member_contained bs i k (record { within = l; is = sym e }))))

-- ---- the forms of the needed members

pub forms_some_variables : (n : ℕ) (bs cs ks ls : List MarkedPolynomial) → cs ≡ bs → HaveVariables n bs → KeepVariables cs ks → ls ≡ ks → ShareSomeVariables ls
forms_some_variables n bs cs ks ls e v k q = record { n = n; each = subst (HaveVariables n) (sym q) (k.at n (subst (HaveVariables n) (sym e) v)) }

pub given_variables : (n : ℕ) (bs cs : List MarkedPolynomial) → cs ≡ bs → HaveVariables n bs → ShareSomeVariables cs
given_variables n bs cs e v = record { n = n; each = subst (HaveVariables n) (sym e) v }

-- a weight of the marking marks them
forms_marked : (w : List ℕ) (bs ks : List MarkedPolynomial) → ((b : MarkedPolynomial) → Contains bs b → IsRealisedBy w b) → AreNeededForms bs ks →
    AreMarked (lighter w) ks
forms_marked w bs ks r h k c =
    let f = h.inside k c in
    monic_realised w f.member k f.form.form (same_of k.head f.member.head f.form.head) (r f.member (member_contained bs f.index f.member f.needed.at))

pub forms_weight : (n : ℕ) (bs cs ks ls : List MarkedPolynomial) → cs ≡ bs → ls ≡ ks → IsRealisable n bs → AreNeededForms cs ks → HasSomeWeight ls
forms_weight n bs cs ks ls e q r h =
    subst HasSomeWeight (sym q) (r.0, forms_marked r.0 bs ks r.2 (subst (λ (z : List MarkedPolynomial). AreNeededForms z ks) e h))

-- ---- they are a basis

-- the monic form of a member
monic_of : (bs cs : List MarkedPolynomial) → AreMonicForms bs cs → (b : MarkedPolynomial) → Contains bs b →
    (c : MarkedPolynomial) × Contains cs c × IsMonicForm b.poly c × (same c.head b.head ≡ true)
monic_of [] cs h b q = absurd (omega (arith, q.1))
monic_of (a ∷ bs) [] h b q = elim h [ ]
monic_of (a ∷ bs) (d ∷ cs) h b q = at (Contains-cases a b bs q) (λ r. monic_of bs cs h.2 b r)
  where
    at : (a ≡ b) ⊎ Contains bs b → (Contains bs b → (c : MarkedPolynomial) × Contains cs c × IsMonicForm b.poly c × (same c.head b.head ≡ true)) →
        (c : MarkedPolynomial) × Contains (d ∷ cs) c × IsMonicForm b.poly c × (same c.head b.head ≡ true)
    at (inl e) r = (
      d,
      Contains-here d cs,
      subst (λ (z : MarkedPolynomial). IsMonicForm z.poly d) e h.0,
      subst (λ (z : MarkedPolynomial). same d.head z.head ≡ true) e h.1,
    )
    at (inr k) r = let c = r k in (c.0, Contains-there d c.0 cs c.1, c.2, c.3)

-- two monic forms of one member
same_forms : (b k m : MarkedPolynomial) → IsMadeMonic b k → IsMonicForm b.poly m → same m.head b.head ≡ true → SamePolynomial m.poly k.poly
same_forms b k m h q s x =
    *ℚ_cancel (coefficient b.poly m.head) (coefficient m.poly x) (coefficient k.poly x) q.there
    (q.equation x ∙ sym (h.form.equation x) ∙ ap (λ z. z *ℚ coefficient k.poly x)
    (coefficient-same b.poly k.head m.head (same_trans k.head b.head m.head (same_of k.head b.head h.head) (same_flip m.head b.head s))))

forms_basis : (n : ℕ) (fs : List Terms) (w : List ℕ) (bs ks : List MarkedPolynomial) → IsPositive n w →
    ((b : MarkedPolynomial) → Contains bs b → IsRealisedBy w b) → AreNeededForms bs ks → IsBasisOnceMonic n fs bs → IsBasis n fs ks
forms_basis n fs w bs ks p r h b = record {
  members = λ k c. member k (h.inside k c);
  marked = (w, p, forms_marked w bs ks r h);
  decides = λ f m i. b.basis.decides f m (λ x n d. i x n (divisible_through b.forms ks (λ d c. over d (monic-from bs b.forms b.monic d c)) x d));
}
  where
    over : (d : MarkedPolynomial) → ((e : MarkedPolynomial) × Contains bs e × IsMonicForm e.poly d × (same d.head e.head ≡ true)) →
        IsDivisible (Contains ks) d.head
    over d e =
        let v = needed_divisible bs ks h e.0 e.1 in
        record { member = v.member; contained = v.contained; rest = v.rest; divides = same_trans d.head e.0.head _ e.3 v.divides }

    member : (k : MarkedPolynomial) → IsNeededForm bs k → IsMember n fs k.poly
    member k f =
        let m = monic_of bs b.forms b.monic f.member (member_contained bs f.index f.member f.needed.at) in
        member-equal n fs m.0.poly k.poly (same_forms f.member k m.0 f.form m.2 m.3) (b.basis.members m.0 m.1)

-- ---- the whole

-- what is worked out on the way
pub record Autoreducing (n : ℕ) (bs ks cs : List MarkedPolynomial) (t : MarkedPolynomials) : Type 0 where
  needed : AreNeededForms bs ks
  variables : HaveVariables n ks
  tails : AreTails ks ks cs
  arranged : IsArranged (record { variables = n; items = cs }) t

-- the tails have the variables of the set
pub tails_variables : (n m : ℕ) (bs gs ks ls cs : List MarkedPolynomial) → m ≡ n → gs ≡ bs → ls ≡ ks → HaveVariables n bs → KeepVariables gs ks →
    AreKeptForms ls cs → HaveVariables m cs
tails_variables n m bs gs ks ls cs em e q v k f = subst (λ (i : ℕ). HaveVariables i cs) (sym em)
    (each_contained (λ (c : MarkedPolynomial). HasVariables n c.poly) cs
    (λ c l. (f.at n (subst (HaveVariables n) (sym q) (k.at n (subst (HaveVariables n) (sym e) v))) c l).variables))

pub autoreducing : (n m : ℕ) (bs gs ks ls cs : List MarkedPolynomial) (s t : MarkedPolynomials) → m ≡ n → gs ≡ bs → ls ≡ ks →
    ◌≡◌ {A = MarkedPolynomials} s (record { variables = m; items = cs }) → HaveVariables n bs → AreNeededForms gs ks → KeepVariables gs ks →
    AreReducedTails ls ls cs → AreKeptForms ls cs → IsArranged s t → Autoreducing n bs ks cs t
autoreducing n m bs gs ks ls cs s t em e q es v h k d f a = record {
  needed = subst (λ (z : List MarkedPolynomial). AreNeededForms z ks) e h;
  variables = k.at n (subst (HaveVariables n) (sym e) v);
  tails = subst (λ (z : List MarkedPolynomial). AreTails z z cs) q (record { tails = d; forms = f });
  arranged = subst (λ (i : ℕ). IsArranged (record { variables = i; items = cs }) t) em (subst (λ (z : MarkedPolynomials). IsArranged z t) es a);
}

pub autoreduced_value : (n : ℕ) (bs ks cs : List MarkedPolynomial) (t : MarkedPolynomials) → Autoreducing n bs ks cs t →
    IsAutoreduced (record { variables = n; items = bs }) t
autoreduced_value n bs ks cs t a = record { forms = ks; needed = a.needed; tails = cs; reduced = a.tails.tails; arranged = a.arranged }

canonical : (n : ℕ) (bs ks cs : List MarkedPolynomial) (t : MarkedPolynomials) → Autoreducing n bs ks cs t → (c : MarkedPolynomial) → Contains cs c →
    IsCanonical n c
canonical n bs ks cs t a c l = a.tails.forms.at n a.variables c l

apart : (n : ℕ) (bs ks cs : List MarkedPolynomial) (t : MarkedPolynomials) → Autoreducing n bs ks cs t → AreApart cs
apart n bs ks cs t a = apart-tails ks ks cs a.tails.tails a.needed.apart

pub autoreduced_arranged : (n : ℕ) (bs ks cs : List MarkedPolynomial) (t : MarkedPolynomials) → Autoreducing n bs ks cs t → AreArranged n t.items
autoreduced_arranged n bs ks cs t a = arranged_list n (record { variables = n; items = cs }) t a.arranged (canonical n bs ks cs t a) (apart n bs ks cs t a)

-- tails of marked members are marked
all_marked : (w : List ℕ) (bs ks cs : List MarkedPolynomial) → AreMarked (lighter w) bs → AreReducedTails bs ks cs → AreMarked (lighter w) cs
all_marked w bs [] [] m h c l = absurd (omega (arith, l.1))
all_marked w bs [] (d ∷ cs) m h c l = elim h [ ]
all_marked w bs (k ∷ ks) [] m h c l = elim h [ ]
all_marked w bs (k ∷ ks) (d ∷ cs) m h c l = at (Contains-cases d c cs l) (λ j. all_marked w bs ks cs m h.1 c j)
  where
    at : (d ≡ c) ⊎ Contains cs c → (Contains cs c → IsMarked (lighter w) c) → IsMarked (lighter w) c
    at (inl e) r = subst (λ (z : MarkedPolynomial). IsMarked (lighter w) z) e (tail-marked (lighter w) bs d (lighter-strict w) m h.0.tail)
    at (inr j) r = r j

tails_marked : (n : ℕ) (w : List ℕ) (bs ks cs : List MarkedPolynomial) (t : MarkedPolynomials) → ((b : MarkedPolynomial) → Contains bs b → IsRealisedBy w b) →
    Autoreducing n bs ks cs t → AreMarked (lighter w) cs
tails_marked n w bs ks cs t r a = all_marked w ks ks cs (forms_marked w bs ks r a.needed) a.tails.tails

pub autoreduced_marked : (n : ℕ) (bs ks cs : List MarkedPolynomial) (t : MarkedPolynomials) → IsRealisable n bs → Autoreducing n bs ks cs t →
    HasPositiveWeight n t.items
autoreduced_marked n bs ks cs t r a =
    (r.0, r.1, λ c l. tails_marked n r.0 bs ks cs t r.2 a c (Contains-permutation t.items cs c (IsPermutation-sym cs t.items a.arranged.members) l))

pub autoreduced_reduced : (n : ℕ) (bs ks cs : List MarkedPolynomial) (t : MarkedPolynomials) → Autoreducing n bs ks cs t → IsReducedOf n bs t.items
autoreduced_reduced n bs ks cs t a = record {
  at = λ fs w v b p r. record {
    positive = p;
    reduced = reduced-arranged n fs (lighter w) (IsHeaviest w) cs t.items a.arranged.members (all fs w v b p r).reduced;
  };
}
  where
    all : (fs : List Terms) (w : List ℕ) → AreInVariables n fs → IsBasisOnceMonic n fs bs → IsPositive n w →
        ((b : MarkedPolynomial) → Contains bs b → IsRealisedBy w b) → IsReducedBasis n fs w cs
    all fs w v b p r =
        reduced_by_weight n fs cs w v
        (interreduced n fs ks ks cs v (forms_basis n fs w bs ks p r a.needed b) (λ k q. q) (divisible_itself ks) a.tails.tails)
        p (tails_marked n w bs ks cs t r a) (reduced-tails ks cs a.tails.tails) (apart n bs ks cs t a)
