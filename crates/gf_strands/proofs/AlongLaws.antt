-- The terms along a vector, one term and one member after another.
-- To cite: selected-kept, selected-dropped, marked_along, marked_here, along_selected, part_of, along_more, width_at, added_coefficient, added_on, term_added,
-- term_off,
-- IsStrandTo, strand_start, strand_more_of, strand_all, strand_end.
use Rattle.std.proofs.Common.{◌≡◌, ◌⊎◌, Bool, true, false, eqb, ℕ, zero, suc, ◌+◌, ◌<◌, ◌≤◌, if◌then◌else◌, List, [], ◌∷◌, ◌++◌, length, take, get_or, ℤ}
use Rattle.std.proofs.Common.{Option, None, Some, IfSome, arith, refl, sym, ap, ap₂, ◌∙◌, subst, inl, inr}
use Rattle.std.proofs.lemmas.Bool.{cases_eq, ne_eqb, false≢true}
use Rattle.std.proofs.lemmas.List.{take_more, take_all, map-append}
use Rattle.std.proofs.lemmas.List.Elements.{Contains-append_left, Contains-append_right, Contains-append_cases}
use Rattle.gf_frac.specs.Fraction.{Fraction, ◌+ℚ◌, zero_ℚ}
use Rattle.gf_frac.proofs.FractionLaws.{+ℚ_comm, +ℚ_assoc, +ℚ-zero}
use Rattle.gf_exponents_theory.specs.Exponents.{Exponents, same}
use Rattle.gf_exponents_theory.proofs.ExponentsLaws.{same_of}
use Rattle.gf_int_theory.proofs.ListLaws.{Contains-here}
use Rattle.gf_poly.specs.declared.Term.{Term}
use Rattle.gf_poly.specs.Polynomial.{Terms, coefficient, HasVariables, IsAbove, IsDescending}
use Rattle.gf_poly.specs.Marking.{MarkedPolynomial, HasMarkedTerm, Each, head_of}
use Rattle.gf_poly.proofs.PolynomialLaws.{coefficient-++}
use Rattle.gf_ideal_theory.specs.OrderTable.{AreMultipleApart}
use Rattle.gf_ideal_theory.proofs.ListLaws.{Contains-cases, Each-++}
use Rattle.gf_ideal_theory.proofs.GeneratorLaws.{polys-++}
use Rattle.gf_division.proofs.TailLaws.{head_at}
use Rattle.gf_division.proofs.StepLaws.{head_length}
use Rattle.gf_initial_theory.specs.Parts.{IsPartAlong}
use Rattle.gf_initial_theory.proofs.ClassLaws.{multiple-grading}
use Rattle.gf_initial_theory.proofs.MatchingLaws.{matched-push}
use Rattle.gf_strands.specs.Along.{HasNonzero, IsSelected, IsAlong, AreAlong}
use Rattle.gf_strands.specs.declared.strands.Point.{Point}
use Rattle.gf_strands.specs.Strands.{moved, IsDistance, IsSpot, AreSpots, AreFalling, point_term, strand_terms, IsPartOf, IsPointAdded, IsTermAdded}
use Rattle.gf_strands.proofs.MoveLaws.{moved_is, on_is, moved_apart}
use Rattle.gf_strands.proofs.StrandLaws.{strand_variables}
use Rattle.gf_ideal_theory.proofs.CriterionLaws.{not_same}
use Rattle.gf_poly.proofs.InitialFormLaws.{elsewhere, take-next}

-- ---- terms

-- the terms that are a multiple of a apart from h
abbrev pub IsTermAlong : List ℤ → Exponents → Term → Type 0
IsTermAlong a h t = AreMultipleApart a t.mono h

pub selected-kept : (P : Term → Type 0) (f g : Terms) (t : Term) → IsSelected P f g → P t → IsSelected P (f ++ t ∷ []) (g ++ t ∷ [])
selected-kept P f g t IsSelected.none p = IsSelected.kept t [] [] p IsSelected.none
selected-kept P f g t (IsSelected.kept s k l q r) p = IsSelected.kept s (k ++ t ∷ []) (l ++ t ∷ []) q (selected-kept P k l t r p)
selected-kept P f g t (IsSelected.dropped s k l q r) p = IsSelected.dropped s (k ++ t ∷ []) (g ++ t ∷ []) q (selected-kept P k g t r p)

pub selected-dropped : (P : Term → Type 0) (f g : Terms) (t : Term) → IsSelected P f g → (P t → ⊥) → IsSelected P (f ++ t ∷ []) g
selected-dropped P f g t IsSelected.none n = IsSelected.dropped t [] [] n IsSelected.none
selected-dropped P f g t (IsSelected.kept s k l q r) n = IsSelected.kept s (k ++ t ∷ []) l q (selected-dropped P k l t r n)
selected-dropped P f g t (IsSelected.dropped s k l q r) n = IsSelected.dropped s (k ++ t ∷ []) g q (selected-dropped P k g t r n)

above_selected : (P : Term → Type 0) (x : Exponents) (f g : Terms) → IsSelected P f g → IsAbove x f → IsAbove x g
above_selected P x f g IsSelected.none h = tt
above_selected P x f g (IsSelected.kept s k l q r) h = (h.0, above_selected P x k l r h.1)
above_selected P x f g (IsSelected.dropped s k l q r) h = above_selected P x k g r h.1

pub descending_selected : (P : Term → Type 0) (f g : Terms) → IsSelected P f g → IsDescending f → IsDescending g
descending_selected P f g IsSelected.none h = tt
descending_selected P f g (IsSelected.kept s k l q r) h = (h.0, above_selected P s.mono k l r h.1, descending_selected P k l r h.2)
descending_selected P f g (IsSelected.dropped s k l q r) h = descending_selected P k g r h.2

variables_selected : (P : Term → Type 0) (n : ℕ) (f g : Terms) → IsSelected P f g → HasVariables n f → HasVariables n g
variables_selected P n f g IsSelected.none h = tt
variables_selected P n f g (IsSelected.kept s k l q r) h = (h.0, variables_selected P n k l r h.1)
variables_selected P n f g (IsSelected.dropped s k l q r) h = variables_selected P n k g r h.1

on_selected : (a : List ℤ) (n : HasNonzero a) (h : Exponents) (f g : Terms) (x : Exponents) → IsSelected (IsTermAlong a h) f g →
    AreMultipleApart a x h → coefficient g x ≡ coefficient f x
on_selected a n h f g x IsSelected.none p = refl
on_selected a n h f g x (IsSelected.kept s k l q r) p = ap (λ z. (if same x s.mono then s.coef else zero_ℚ) +ℚ z) (on_selected a n h k l x r p)
on_selected a n h f g x (IsSelected.dropped s k l q r) p =
    let m = multiple-grading a n in
    on_selected a n h k g x r p ∙ sym (elsewhere s k x (not_same x s.mono (λ e. q (m.transitive s.mono x h (m.symmetric x s.mono (m.along x s.mono e)) p))))

off_selected : (a : List ℤ) (n : HasNonzero a) (h : Exponents) (f g : Terms) (x : Exponents) → IsSelected (IsTermAlong a h) f g →
    (AreMultipleApart a x h → ⊥) → coefficient g x ≡ zero_ℚ
off_selected a n h f g x IsSelected.none p = refl
off_selected a n h f g x (IsSelected.kept s k l q r) p =
    let m = multiple-grading a n in
    elsewhere s l x (not_same x s.mono (λ e. p (m.transitive x s.mono h (m.along x s.mono e) q))) ∙ off_selected a n h k l x r p
off_selected a n h f g x (IsSelected.dropped s k l q r) p = off_selected a n h k g x r p

-- the term at the marked index is along
pub marked_along : (a : List ℤ) (x h : Exponents) → HasNonzero a → x ≡ h → AreMultipleApart a x h
marked_along a x h n e = (multiple-grading a n).along x h (same_of x h e)

pub same_apart : (a : List ℤ) (x y z w : Exponents) → x ≡ z → y ≡ w → (AreMultipleApart a x y → AreMultipleApart a z w) × (AreMultipleApart a z w →
    AreMultipleApart a x y)
same_apart a x y z w e q = (
  λ m. subst (λ (u : Exponents). AreMultipleApart a u w) e (subst (AreMultipleApart a x) q m),
  λ m. subst (λ (u : Exponents). AreMultipleApart a u y) (sym e) (subst (AreMultipleApart a z) (sym q) m),
)

-- and the term at the index i is it where i is that index
pub marked_here : (b : MarkedPolynomial) (i m : ℕ) (f : Terms) (t : Term) → f ≡ b.poly → i < length f → t ≡ get_or f i t → head_of b.poly m ≡ b.head →
    eqb i m ≡ true → t.mono ≡ b.head
marked_here b i m f t q l e h r = at (cases_eq i m)
  where
    at : (i ≡ m) ⊎ (i ≡ m → ⊥) → t.mono ≡ b.head
    at (inl p) = sym (head_at f i t l e) ∙ ap (λ (z : Terms). head_of z i) q ∙ ap (head_of b.poly) p ∙ h
    at (inr p) = absurd (false≢true (sym (ne_eqb i m p) ∙ r))

-- all terms along a vector
pub along_selected : (a : List ℤ) (b : MarkedPolynomial) (f g : Terms) → HasNonzero a → f ≡ b.poly → IsDescending f →
    IsSelected (IsTermAlong a b.head) f g → IsAlong a b g
along_selected a b f g n e d s = record {
  part = record { head = refl; along = λ x p. on_selected a n b.head f g x s p ∙ ap (λ z. coefficient z x) e; off = λ x p. off_selected a n b.head f g x s p };
  descending = descending_selected (IsTermAlong a b.head) f g s d;
  variables = λ m h. variables_selected (IsTermAlong a b.head) m f g s (subst (HasVariables m) (sym e) h);
}

-- ---- members

-- the terms along in their order are such a part
pub part_of : (a : List ℤ) (b : MarkedPolynomial) (f : Terms) → IsAlong a b f → IsPartOf a b f
part_of a b f k = record { along = k.part; variables = record { at = k.variables } }

-- and one more
pub along_more : (a : List ℤ) (bs : List MarkedPolynomial) (b : MarkedPolynomial) (fs : List Terms) (f : Terms) → AreAlong a bs fs →
    IsPartOf a b f → AreAlong a (bs ++ b ∷ []) (fs ++ f ∷ [])
along_more a bs b fs f h k = record {
  parts = h.parts ++ record { poly = f; head = b.head } ∷ [];
  each = matched-push (IsPartAlong a) bs h.parts b (record { poly = f; head = b.head }) h.each k.along;
  polynomials = ap (λ z. z ++ f ∷ []) h.polynomials ∙ sym (polys-++ h.parts (record { poly = f; head = b.head } ∷ []));
  variables = λ n v g c. elim (Contains-append_cases fs (f ∷ []) g c) [
    | inl l ↦ h.variables n (λ d e. v d (Contains-append_left bs (b ∷ []) d e)) g l
    | inr r ↦ elim (Contains-cases f g [] r) [
      | inl e ↦ subst (HasVariables n) e (k.variables.at n (v b (Contains-append_right bs (b ∷ []) b (Contains-here b []))))
      | inr z ↦ absurd (omega (arith, z.1))
    ]
  ];
}

-- ---- as the code goes on

-- a listed term has the variables
pub width_at : (n : ℕ) (f g : Terms) (t : Term) (i : ℕ) → HasVariables n g → f ≡ g → i < length f → t ≡ get_or f i t →
    length t.mono ≡ n
width_at n f g t i v e l q = at f i (subst (HasVariables n) (sym e) v) l q
  where
    at : (f : Terms) (i : ℕ) → HasVariables n f → i < length f → t ≡ get_or f i t → length t.mono ≡ n
    at [] i v l q = absurd (omega arith)
    at (s ∷ f) zero v l q = ap (λ (z : Term). length z.mono) q ∙ v.0
    at (s ∷ f) (suc i) v l q = at f i v.1 (omega arith) q

-- a term that is kept
pub more_kept : (a : List ℤ) (h : Exponents) (f old new : Terms) (t : Term) (i : ℕ) → i < length f → t ≡ get_or f i t →
    AreMultipleApart a t.mono h → new ≡ old ++ t ∷ [] → IsSelected (IsTermAlong a h) (take i f) old →
    IsSelected (IsTermAlong a h) (take (i + 1) f) new
more_kept a h f old new t i l q m e s =
    subst (λ (z : Terms). IsSelected (IsTermAlong a h) z new) (sym (take-next f i t l q))
    (subst (λ (z : Terms). IsSelected (IsTermAlong a h) (take i f ++ t ∷ []) z) (sym e)
    (selected-kept (IsTermAlong a h) (take i f) old t s m))

-- and one that isn't
pub more_dropped : (a : List ℤ) (h : Exponents) (f old : Terms) (t : Term) (i : ℕ) → i < length f → t ≡ get_or f i t →
    (AreMultipleApart a t.mono h → ⊥) → IsSelected (IsTermAlong a h) (take i f) old →
    IsSelected (IsTermAlong a h) (take (i + 1) f) old
more_dropped a h f old t i l q n s =
    subst (λ (z : Terms). IsSelected (IsTermAlong a h) z old) (sym (take-next f i t l q))
    (selected-dropped (IsTermAlong a h) (take i f) old t s n)

-- at the end
pub all_selected : (a : List ℤ) (h : Exponents) (f g : Terms) (i : ℕ) → length f ≤ i → IsSelected (IsTermAlong a h) (take i f) g →
    IsSelected (IsTermAlong a h) f g
all_selected a h f g i l s = subst (λ (z : Terms). IsSelected (IsTermAlong a h) z g) (take_all i f l) s

-- a member more
pub members_more : (a : List ℤ) (bs : List MarkedPolynomial) (i : ℕ) (b : MarkedPolynomial) (old new : List Terms) (f : Terms) →
    i < length bs → b ≡ get_or bs i b → IsAlong a b f → new ≡ old ++ f ∷ [] → AreAlong a (take i bs) old →
    AreAlong a (take (i + 1) bs) new
members_more a bs i b old new f l q k e h =
    subst (λ (z : List MarkedPolynomial). AreAlong a z new) (sym (take_more bs i b l ∙ ap (λ (z : MarkedPolynomial). take i bs ++ z ∷ []) (sym q)))
    (subst (λ (z : List Terms). AreAlong a (take i bs ++ b ∷ []) z) (sym e) (along_more a (take i bs) b old f h (part_of a b f k)))

-- ---- on the strand through the mark

with_more : (s : Bool) (b a d c : Fraction) → b +ℚ ((if s then d +ℚ c else zero_ℚ) +ℚ a) ≡ (b +ℚ ((if s then d else zero_ℚ) +ℚ a)) +ℚ (if s then c else zero_ℚ)
with_more true b a d c = ap (λ z. b +ℚ z) (+ℚ_assoc d c a ∙ ap (λ z. d +ℚ z) (+ℚ_comm c a) ∙ sym (+ℚ_assoc d a c)) ∙ sym (+ℚ_assoc b (d +ℚ a) c)
with_more false b a d c = sym (+ℚ-zero _)

between : (b a c : Fraction) → b +ℚ (c +ℚ a) ≡ (b +ℚ a) +ℚ c
between b a c = ap (λ z. b +ℚ z) (+ℚ_comm c a) ∙ sym (+ℚ_assoc b a c)

-- the coefficient with a point between others
with_point : (a : List ℤ) (x y : Exponents) (before after : List Point) (p : Point) →
    coefficient (strand_terms a x (before ++ p ∷ after)) y ≡ coefficient (strand_terms a x before) y +ℚ ((if same y (moved a x p.k) then p.coef else zero_ℚ) +ℚ
    coefficient (strand_terms a x after) y)
with_point a x y before after p = ap (λ z. coefficient z y) (map-append (point_term a x) before (p ∷ after)) ∙ coefficient-++ (strand_terms a x before)
    (strand_terms a x (p ∷ after)) y

-- what is added at a multiple is added to the coefficient at the monomial there
pub added_coefficient : (a : List ℤ) (x y : Exponents) (k : ℤ) (c : Fraction) (old new : List Point) → IsPointAdded k c old new →
    coefficient (strand_terms a x new) y ≡ coefficient (strand_terms a x old) y +ℚ (if same y (moved a x k) then c else zero_ℚ)
added_coefficient a x y k c old new (IsPointAdded.joined before after d e q) =
    ap (λ (z : List Point). coefficient (strand_terms a x z) y) q
    ∙ with_point a x y before after (record { k = k; coef = d +ℚ c })
    ∙ with_more (same y (moved a x k)) (coefficient (strand_terms a x before) y) (coefficient (strand_terms a x after) y) d c
    ∙ ap (λ z. z +ℚ (if same y (moved a x k) then c else zero_ℚ))
    (sym (ap (λ (z : List Point). coefficient (strand_terms a x z) y) e ∙ with_point a x y before after (record { k = k; coef = d })))
added_coefficient a x y k c old new (IsPointAdded.entered before after e q) =
    ap (λ (z : List Point). coefficient (strand_terms a x z) y) q
    ∙ with_point a x y before after (record { k = k; coef = c })
    ∙ between (coefficient (strand_terms a x before) y) (coefficient (strand_terms a x after) y) (if same y (moved a x k) then c else zero_ℚ)
    ∙ ap (λ z. z +ℚ (if same y (moved a x k) then c else zero_ℚ)) (sym (ap (λ (z : List Point). coefficient (strand_terms a x z) y) e
    ∙ ap (λ z. coefficient z y) (map-append (point_term a x) before after) ∙ coefficient-++ (strand_terms a x before) (strand_terms a x after) y))

-- what holds of all holds of the first ones, and of the later ones
each_first : (P : Point → Type 0) (ps qs : List Point) → Each P (ps ++ qs) → Each P ps
each_first P [] qs h = tt
each_first P (p ∷ ps) qs h = (h.0, each_first P ps qs h.1)

each_later : (P : Point → Type 0) (ps qs : List Point) → Each P (ps ++ qs) → Each P qs
each_later P [] qs h = h
each_later P (p ∷ ps) qs h = each_later P ps qs h.1

-- points that all have P, where the new one has it
pub added_each : (P : ℤ → Type 0) (k : ℤ) (c : Fraction) (old new : List Point) → IsPointAdded k c old new → P k → Each (λ (p : Point). P p.k) old →
    Each (λ (p : Point). P p.k) new
added_each P k c old new (IsPointAdded.joined before after d e q) h o = subst (Each (λ (p : Point). P p.k)) (sym q)
    (let r : Each (λ (p : Point). P p.k) (before ++ record { k = k; coef = d } ∷ after) = subst (Each (λ (p : Point). P p.k)) e o in
    Each-++ (λ (p : Point). P p.k) before (record { k = k; coef = d +ℚ c } ∷ after) (each_first (λ (p : Point). P p.k) before
    (record { k = k; coef = d } ∷ after) r)
    (h, (each_later (λ (p : Point). P p.k) before (record { k = k; coef = d } ∷ after) r).1))
added_each P k c old new (IsPointAdded.entered before after e q) h o = subst (Each (λ (p : Point). P p.k)) (sym q)
    (let r : Each (λ (p : Point). P p.k) (before ++ after) = subst (Each (λ (p : Point). P p.k)) e o in
    Each-++ (λ (p : Point). P p.k) before (record { k = k; coef = c } ∷ after) (each_first (λ (p : Point). P p.k) before after r)
    (h, each_later (λ (p : Point). P p.k) before after r))

-- so exponents stay exponents
pub added_on : (a : List ℤ) (x : Exponents) (k : ℤ) (c : Fraction) (old new : List Point) → IsPointAdded k c old new → IsSpot a x k → AreSpots a x old →
    AreSpots a x new
added_on a x k c old new i h o = added_each (IsSpot a x) k c old new i h o

-- the point of a term is added, if numbers fit
pub term_added : (a : List ℤ) (x : Exponents) (t : Term) (y z : Exponents) (j k : ℤ) (old new : List Point) (r : Option (Unit {0})) → y ≡ t.mono → z ≡ x →
    k ≡ j → IsDistance a y z j → IfSome r (λ _. IsPointAdded k t.coef old new) → IfSome r (λ _. AreFalling old → AreFalling new) →
    IfSome r (λ _. IsTermAdded a x t old new)
term_added a x t y z j k old new None ey ez ek d p f = tt
term_added a x t y z j k old new (Some u) ey ez ek d p f = IsTermAdded.on k
    (subst (λ (w : Exponents). IsDistance a w x k) ey (subst (λ (w : Exponents). IsDistance a y w k) ez (subst (IsDistance a y z) (sym ek) d))) p f

-- one that isn't on the strand isn't
pub term_off : (a : List ℤ) (x : Exponents) (t : Term) (y z : Exponents) (ps : List Point) → y ≡ t.mono → z ≡ x → (AreMultipleApart a y z → ⊥) →
    IsTermAdded a x t ps ps
term_off a x t y z ps ey ez n = IsTermAdded.off (λ m. n ((same_apart a y z t.mono x ey ez).1 m)) refl

-- the points have the terms of f that are a multiple of a apart from h
pub record IsStrandTo (a : List ℤ) (h : Exponents) (f : Terms) (ps : List Point) : Type 0 where
  pub along : (x : Exponents) → AreMultipleApart a x h → coefficient (strand_terms a h ps) x ≡ coefficient f x
  pub on : AreSpots a h ps
  pub falling : AreFalling ps

pub strand_start : (a : List ℤ) (h : Exponents) (ps : List Point) → ps ≡ [] → IsStrandTo a h [] ps
strand_start a h ps e = subst (IsStrandTo a h []) (sym e) (record { along = λ x p. refl; on = tt; falling = tt })

-- one term more
last_coefficient : (f : Terms) (t : Term) (x : Exponents) → coefficient (f ++ t ∷ []) x ≡ coefficient f x +ℚ (if same x t.mono then t.coef else zero_ℚ)
last_coefficient f t x = coefficient-++ f (t ∷ []) x ∙ ap (λ z. coefficient f x +ℚ z) (+ℚ-zero _)

strand_added : (a : List ℤ) (h : Exponents) (f : Terms) (t : Term) (old new : List Point) → HasNonzero a → length t.mono ≡ length h →
    IsTermAdded a h t old new → IsStrandTo a h f old → IsStrandTo a h (f ++ t ∷ []) new
strand_added a h f t old new n l (IsTermAdded.on k d i g) o = record {
  along = λ x p. added_coefficient a h x k t.coef old new i
      ∙ ap₂ (λ y z. y +ℚ z) (o.along x p) (ap (λ (m : Exponents). if same x m then t.coef else zero_ℚ) (sym (moved_is a h t.mono k l d)))
      ∙ sym (last_coefficient f t x);
  on = added_on a h k t.coef old new i (on_is a h t.mono k l d) o.on;
  falling = g o.falling;
}
strand_added a h f t old new n l (IsTermAdded.off q e) o = subst (IsStrandTo a h (f ++ t ∷ [])) (sym e) (record {
  along = λ x p. o.along x p ∙ sym (coefficient-++ f (t ∷ []) x ∙ ap (λ z. coefficient f x +ℚ z) (elsewhere t [] x (other x p)) ∙ +ℚ-zero (coefficient f x));
  on = o.on;
  falling = o.falling;
})
  where
    other : (x : Exponents) → AreMultipleApart a x h → same x t.mono ≡ false
    other x p = let m = multiple-grading a n in not_same x t.mono (λ s. q (m.transitive t.mono x h (m.symmetric x t.mono (m.along x t.mono s)) p))

pub strand_more : (a : List ℤ) (h : Exponents) (f : Terms) (t : Term) (i : ℕ) (old new : List Point) → HasNonzero a → length t.mono ≡ length a →
    length h ≡ length a → i < length f → t ≡ get_or f i t → IsTermAdded a h t old new → IsStrandTo a h (take i f) old → IsStrandTo a h (take (i + 1) f) new
strand_more a h f t i old new n l w k e d o = subst (λ (z : Terms). IsStrandTo a h z new) (sym (take-next f i t k e))
    (strand_added a h (take i f) t old new n (l ∙ sym w) d o)

-- of a member
pub strand_more_of : (a : List ℤ) (b : MarkedPolynomial) (f : Terms) (h : Exponents) (t : Term) (i : ℕ) (old new : List Point) → HasNonzero a →
    HasVariables (length a) b.poly → HasMarkedTerm b → f ≡ b.poly → h ≡ b.head → i < length f → t ≡ get_or f i t → IsTermAdded a h t old new →
    IsStrandTo a b.head (take i f) old → IsStrandTo a b.head (take (i + 1) f) new
strand_more_of a b f h t i old new n v m q e k s d o = strand_more a b.head f t i old new n (width_at (length a) f b.poly t i v q k s)
    (head_length (length a) b v m) k s (subst (λ (z : Exponents). IsTermAdded a z t old new) e d) o

-- elsewhere there is nothing
off_strand : (a : List ℤ) (h x : Exponents) (ps : List Point) → HasNonzero a → AreSpots a h ps → (AreMultipleApart a x h → ⊥) →
    coefficient (strand_terms a h ps) x ≡ zero_ℚ
off_strand a h x [] n o q = refl
off_strand a h x (p ∷ ps) n o q =
    let m = multiple-grading a n in
    elsewhere (point_term a h p) (strand_terms a h ps) x (not_same x (moved a h p.k)
    (λ s. q (m.transitive x (moved a h p.k) h (m.along x (moved a h p.k) s) (moved_apart a h p.k o.0))))
    ∙ off_strand a h x ps n o.1 q

-- all terms
pub strand_all : (a : List ℤ) (h : Exponents) (f g : Terms) (ps : List Point) (i : ℕ) → f ≡ g → length f ≤ i → IsStrandTo a h (take i f) ps →
    IsStrandTo a h g ps
strand_all a h f g ps i e l o = subst (λ (z : Terms). IsStrandTo a h z ps) (take_all i f l ∙ e) o

pub strand_end : (a : List ℤ) (b : MarkedPolynomial) (ps : List Point) → HasNonzero a → HasMarkedTerm b → IsStrandTo a b.head b.poly ps →
    IsPartOf a b (strand_terms a b.head ps)
strand_end a b ps n m o = record {
  along = record { head = refl; along = o.along; off = λ x q. off_strand a b.head x ps n o.on q };
  variables = record { at = λ k v. strand_variables a b.head ps k (head_length k b v m) };
}
