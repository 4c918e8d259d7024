-- Homogenisation, term by term and polynomial by polynomial.
-- To cite: degree_first, degree_at, copied_more, FilledSoFar and its steps, filled-short, filled-variables,
-- filled-monomial_there, AllDone and its steps. The rest are steps.
use Rattle.std.specs.Prelude.{◌≡◌, ◌≢◌, ℕ, zero, suc, ◌+◌, ◌^◌, ◌<◌, ◌≤◌, ◌==◌, ◌&&◌, Bool, true, false, cond, if◌then◌else◌, List, [], ◌∷◌, ◌++◌, length, take}
use Rattle.std.specs.Prelude.{drop, get_or, map, All, Contains}
use Rattle.std.specs.Ordering.{nat_cmp, ordering_then, is_eq, MatchOrdering}
use Rattle.std.specs.declared.cmp.Ordering.{Ordering}
use Rattle.std.specs.declared.cmp.Ordering.TheVariants.{Less, Equal, Greater}
use Rattle.std.proofs.Common.{arith, refl, sym, ap, subst, ◌∙◌, length-append, take-append-drop}
use Rattle.std.proofs.lemmas.Cmp.{ranked}
use Rattle.std.proofs.lemmas.List.{take_more, drop_more, map-append, same_from_push}
use Rattle.std.proofs.lemmas.List.Elements.{All-push, All-contains, Contains-append_right, all_zip_more}
use Rattle.gf_frac.specs.Fraction.{◌+ℚ◌, zero_ℚ}
use Rattle.gf_exponents_theory.specs.Exponents.{Exponents, same, degree}
use Rattle.gf_exponents_theory.specs.Orders.{deglex, lex}
use Rattle.gf_exponents_theory.proofs.ExponentsLaws.{entries_same, same_lists}
use Rattle.gf_poly.specs.declared.Term.{Term}
use Rattle.gf_poly.specs.declared.monomial.ExponentOverflow.{ExponentOverflow}
use Rattle.gf_poly.specs.Polynomial.{Terms, coefficient, SamePolynomial, IsAbove, IsDescending, HasVariables, KeepsVariables}
use Rattle.gf_poly.specs.Collecting.{like}
use Rattle.gf_poly.specs.Marking.{MarkedPolynomial, HasMarkedTerm, head_of}
use Rattle.gf_poly.proofs.CoefficientLaws.{term_length, term_nonzero, term_coefficient}
use Rattle.gf_poly.proofs.DescendingLaws.{equal_same, never_greater}
use Rattle.gf_text.specs.declared.written.Written.{Written}
use Rattle.gf_text.specs.declared.written.Written.TheVariants as written
use Rattle.gf_text.specs.Sets.{IsIn, AreIn}
use Rattle.gf_small.specs.Degrees.{total_degree}
use Rattle.gf_small.specs.Homogenization.{new_exponent, filled, filled_term, ExponentsFit, IsExponentPastLimit, IsFirstPastLimit, IsHomogenizedWithinLimit}
use Rattle.gf_small.specs.Homogenization.{IsWrittenPastLimit, IsFirstExponentPastLimit, IsMarkedHomogenization, IsWrittenHomogenization, AreHomogenizations}
use Rattle.gf_small.specs.Homogenization.{HasExponent}
use Rattle.gf_small.specs.declared.homogenization.SmallError.{SmallError}
use Rattle.gf_small.specs.declared.homogenization.SmallError.TheVariants as errors
use Rattle.gf_poly.proofs.MarkingLaws.{mark_at}
use Rattle.gf_poly.proofs.InitialFormLaws.{take-next}
use Rattle.gf_small.proofs.WrittenLaws.{AreIn-push}

-- ---- degrees

degree_most : (x y : Exponents) → deglex x y ≡ Greater → degree y ≤ degree x
degree_most x y h = at (nat_cmp (degree x) (degree y)) (ranked (degree x) (degree y) _ refl) h
  where
    at : (o : Ordering) → MatchOrdering o (degree x < degree y) (degree x ≡ degree y) (degree y < degree x) → ordering_then o (lex x y) ≡ Greater →
        degree y ≤ degree x
    at Less m e = absurd (cc)
    at Equal m e = omega (arith, m)
    at Greater m e = omega (arith, m)

degree_above : (x : Exponents) (f : Terms) → IsAbove x f → total_degree f ≤ degree x
degree_above x [] a = omega arith
degree_above x (t ∷ f) a = omega (arith, degree_most x t.mono a.0, degree_above x f a.1)

-- the first term of a descending list has the total degree
pub degree_first : (f : Terms) (t : Term) → IsDescending f → 0 < length f → t ≡ get_or f 0 t → degree t.mono ≡ total_degree f
degree_first [] t d l e = absurd (omega arith)
degree_first (s ∷ f) t d l e = ap (λ (z : Term). degree z.mono) e ∙ omega (arith, degree_above s.mono f d.1)

-- no term has a greater one
pub degree_at : (f : Terms) (i : ℕ) (t : Term) → i < length f → t ≡ get_or f i t → degree t.mono ≤ total_degree f
degree_at [] i t l e = absurd (omega arith)
degree_at (s ∷ f) zero t l e = omega (arith, ap (λ (z : Term). degree z.mono) e)
degree_at (s ∷ f) (suc i) t l e = omega (arith, degree_at f i t (omega arith) e)

-- ---- the terms

pub record FilledSoFar (d : ℕ) (f out : Terms) (i : ℕ) : Type 0 where
  pub items : out ≡ map (filled_term d) (take i f)
  pub fits : ExponentsFit d (take i f)

pub filled-more : (d : ℕ) (f out next : Terms) (i : ℕ) (t s : Term) → i < length f → t ≡ get_or f i t → s ≡ filled_term d t → new_exponent d t.mono < 2 ^ 31 →
    next ≡ out ++ s ∷ [] → FilledSoFar d f out i → FilledSoFar d f next (i + 1)
filled-more d f out next i t s l e q h n k = record {
  items = n ∙ ap (λ (z : Term). out ++ z ∷ []) q ∙ ap (λ (z : Terms). z ++ filled_term d t ∷ []) k.items ∙
      sym (map-append (filled_term d) (take i f) (t ∷ [])) ∙ ap (map (filled_term d)) (sym (take-next f i t l e));
  fits = subst (ExponentsFit d) (sym (take-next f i t l e)) (All-push (λ (z : Term). new_exponent d z.mono < 2 ^ 31) (take i f) t k.fits h);
}

split_terms : (f : Terms) (i : ℕ) (t : Term) → i < length f → t ≡ get_or f i t → f ≡ take i f ++ t ∷ drop (i + 1) f
split_terms f i t l e = sym (take-append-drop i f) ∙ ap (λ (z : Terms). take i f ++ z) (drop_more f i t l ∙ ap (λ (z : Term). z ∷ drop (i + 1) f) (sym e))

pub filled-past : (d : ℕ) (f out : Terms) (i : ℕ) (t : Term) (o : ExponentOverflow) → i < length f → t ≡ get_or f i t →
    IsExponentPastLimit (new_exponent d t.mono) o → FilledSoFar d f out i → IsFirstPastLimit d f o
filled-past d f out i t o l e p k = record { earlier = take i f; term = t; later = drop (i + 1) f; split = split_terms f i t l e; before = k.fits; past = p }

-- ---- no two of them are alike

filled-same : (d : ℕ) (x y : Exponents) → filled d x ≡ filled d y → x ≡ y
filled-same d x y e = (same_from_push x y (new_exponent d x) (new_exponent d y) e).0

none_alike : (d : ℕ) (x : Exponents) (f : Terms) → IsAbove x f → like (filled d x) (map (filled_term d) f) ≡ []
none_alike d x [] a = refl
none_alike d x (t ∷ f) a = by (none_alike d x f a.1) (deglex (filled d x) (filled d t.mono)) refl
  where
    by : like (filled d x) (map (filled_term d) f) ≡ [] → (o : Ordering) → deglex (filled d x) (filled d t.mono) ≡ o →
        cond (is_eq o) (filled_term d t ∷ like (filled d x) (map (filled_term d) f)) (like (filled d x) (map (filled_term d) f)) ≡ []
    by later Less e = later
    by later Greater e = later
    by later Equal e =
        absurd (never_greater x (subst (λ (y : Exponents). deglex x y ≡ Greater) (sym (filled-same d x t.mono (equal_same (filled d x) (filled d t.mono) e)))
        a.0))

pub filled-short : (d : ℕ) (f : Terms) (x : Exponents) → IsDescending f → length (like x (map (filled_term d) f)) ≤ 1
filled-short d [] x h = omega arith
filled-short d (t ∷ f) x h = by (filled-short d f x h.2) (deglex x (filled d t.mono)) refl
  where
    by : length (like x (map (filled_term d) f)) ≤ 1 → (o : Ordering) → deglex x (filled d t.mono) ≡ o →
        length (cond (is_eq o) (filled_term d t ∷ like x (map (filled_term d) f)) (like x (map (filled_term d) f))) ≤ 1
    by later Less e = later
    by later Greater e = later
    by later Equal e = let none : like x (map (filled_term d) f) ≡ [] =
        subst (λ (y : Exponents). like y (map (filled_term d) f) ≡ []) (sym (equal_same x (filled d t.mono) e)) (none_alike d t.mono f h.1) in
        omega (arith, ap length none)

-- ---- variables and marks

pub filled-variables : (n d : ℕ) (f : Terms) → HasVariables n f → HasVariables (n + 1) (map (filled_term d) f)
filled-variables n d [] v = tt
filled-variables n d (t ∷ f) v = (omega (arith, length-append t.mono (new_exponent d t.mono ∷ []), v.0), filled-variables n d f v.1)

same-push : (x y : Exponents) (a b : ℕ) → length x ≡ length y → same (x ++ a ∷ []) (y ++ b ∷ []) ≡ (same x y && (a == b))
same-push [] [] a b l = by (a == b)
  where
    by : (p : Bool) → (p && true) ≡ (true && p)
    by true = refl
    by false = refl
same-push [] (c ∷ y) a b l = absurd (omega arith)
same-push (c ∷ x) [] a b l = absurd (omega arith)
same-push (c ∷ x) (e ∷ y) a b l = ap (λ (p : Bool). (c == e) && p) (same-push x y a b (omega arith)) ∙ by (c == e)
  where
    by : (p : Bool) → (p && (same x y && (a == b))) ≡ ((p && same x y) && (a == b))
    by true = refl
    by false = refl

filled-alike : (d : ℕ) (x y : Exponents) → length x ≡ length y → same (filled d x) (filled d y) ≡ same x y
filled-alike d x y l = same-push x y (new_exponent d x) (new_exponent d y) l ∙ by (same x y) refl
  where
    equal : same x y ≡ true → x ≡ y
    equal s = same_lists x y l (entries_same x y s)

    one : same x y ≡ true → (new_exponent d x == new_exponent d y) ≡ true
    one s = subst (λ (z : Exponents). (new_exponent d x == new_exponent d z) ≡ true) (equal s) (itself (new_exponent d x))
      where
        itself : (k : ℕ) → (k == k) ≡ true
        itself k = (search (arith))

    by : (p : Bool) → same x y ≡ p → (p && (new_exponent d x == new_exponent d y)) ≡ p
    by true s = one s
    by false s = refl

-- at a filled monomial the coefficient is what it was
filled-coefficient : (d : ℕ) (f : Terms) (x : Exponents) → HasVariables (length x) f → coefficient (map (filled_term d) f) (filled d x) ≡ coefficient f x
filled-coefficient d [] x v = refl
filled-coefficient d (t ∷ f) x v =
    ap (λ (p : Bool). (if p then t.coef else zero_ℚ) +ℚ coefficient (map (filled_term d) f) (filled d x)) (filled-alike d x t.mono (sym v.0)) ∙
    ap (λ c. (if same x t.mono then t.coef else zero_ℚ) +ℚ c) (filled-coefficient d f x v.1)

-- what becomes of the marked term is there
pub filled-there : (n d : ℕ) (b : MarkedPolynomial) (g : Terms) → HasVariables n b.poly → HasMarkedTerm b → SamePolynomial g (map (filled_term d) b.poly) →
    coefficient g (filled d b.head) ≢ zero_ℚ
filled-there n d b g v m s z =
    let length_of : length b.head ≡ n = term_length n b.poly (record { coef = m.mark; mono = b.head }) v m.term in
    let same_variables : HasVariables (length b.head) b.poly = subst (λ (k : ℕ). HasVariables k b.poly) (sym length_of) v in
    term_nonzero b.poly (record { coef = m.mark; mono = b.head }) m.descending m.term
    (sym (term_coefficient n b.poly (record { coef = m.mark; mono = b.head }) v m.descending m.term) ∙ sym (filled-coefficient d b.poly b.head same_variables) ∙
    sym (s (filled d b.head)) ∙ z)

pub filled-length : (n d : ℕ) (b : MarkedPolynomial) → HasVariables n b.poly → HasMarkedTerm b → length (filled d b.head) ≡ n + 1
filled-length n d b v m = omega (
  arith,
  length-append b.head (new_exponent d b.head ∷ []),
  term_length n b.poly (record { coef = m.mark; mono = b.head })
      v m.term,
)

-- the term at the index of the mark, filled
pub filled-mark : (d : ℕ) (f g : Terms) (i : ℕ) (t : Term) → g ≡ map (filled_term d) f → i < length f → t ≡ get_or g i t → t.mono ≡ filled d (head_of f i)
filled-mark d [] g i t e l q = absurd (omega arith)
filled-mark d (s ∷ f) g zero t e l q = ap (λ (z : Term). z.mono) (q ∙ ap (λ (z : Terms). get_or z 0 t) e)
filled-mark d (s ∷ f) g (suc i) t e l q = filled-mark d f (map (filled_term d) f) i t refl (omega arith) (q ∙ ap (λ (z : Terms). get_or z (suc i) t) e)

-- ---- polynomial by polynomial

-- what becomes of the first i
pub record DoneSoFar (n : ℕ) (fs gs : List Written) (i : ℕ) : Type 0 where
  pub items : AreHomogenizations (take i fs) gs
  pub variables : AreIn (n + 1) gs
  pub fits : All IsHomogenizedWithinLimit (take i fs)

next_of : (fs : List Written) (i : ℕ) (f : Written) → i < length fs → f ≡ get_or fs i f → take (i + 1) fs ≡ take i fs ++ f ∷ []
next_of fs i f l e = take_more fs i f l ∙ ap (λ (z : Written). take i fs ++ z ∷ []) (sym e)

homogenized_in : (n : ℕ) (f g : Written) → IsWrittenHomogenization f g → IsIn n f → IsIn (n + 1) g
homogenized_in n written.Zero written.Zero h v = tt
homogenized_in n written.Zero (written.Nonzero c) h v = absurd h
homogenized_in n (written.Nonzero b) written.Zero h v = absurd h
homogenized_in n (written.Nonzero b) (written.Nonzero c) h v = h.variables n v

pub done-more : (n : ℕ) (fs gs next : List Written) (i : ℕ) (f g : Written) → i < length fs → f ≡ get_or fs i f → IsIn n f → IsWrittenHomogenization f g →
    IsHomogenizedWithinLimit f → next ≡ gs ++ g ∷ [] → DoneSoFar n fs gs i → DoneSoFar n fs next (i + 1)
done-more n fs gs next i f g l e v h w q k = record {
  items = subst (AreHomogenizations (take (i + 1) fs)) (sym q) (all_zip_more IsWrittenHomogenization fs gs i f g l e k.items h);
  variables = subst (AreIn (n + 1)) (sym q) (AreIn-push (n + 1) gs g k.variables (homogenized_in n f g h v));
  fits = subst (All IsHomogenizedWithinLimit) (sym (next_of fs i f l e)) (All-push IsHomogenizedWithinLimit (take i fs) f k.fits w);
}

pub done-past : (n : ℕ) (fs gs : List Written) (i : ℕ) (f : Written) (o : ExponentOverflow) → i < length fs → f ≡ get_or fs i f → IsWrittenPastLimit f o →
    DoneSoFar n fs gs i → IsFirstExponentPastLimit fs o
done-past n fs gs i f o l e p k = record {
  earlier = take i fs;
  polynomial = f;
  later = drop (i + 1) fs;
  split = sym (take-append-drop i fs) ∙ ap (λ (z : List Written). take i fs ++ z) (drop_more fs i f l ∙ ap (λ (z : Written). z ∷ drop (i + 1) fs) (sym e));
  before = k.fits;
  past = p;
}

-- ---- a marked polynomial

-- what the code knows: the terms, their filled ones, and the one at the index of the mark
pub record Filling (b : MarkedPolynomial) (terms all : Terms) (d i : ℕ) (t : Term) (head : Exponents) : Type 0 where
  pub terms_are : terms ≡ b.poly
  pub descending : IsDescending b.poly
  pub inside : i < length b.poly
  pub mark : head_of b.poly i ≡ b.head
  pub total : d ≡ total_degree terms
  pub all_are : all ≡ map (filled_term d) terms
  pub at : t ≡ get_or all i t
  pub head_is : head ≡ t.mono

pub filling_at : (b : MarkedPolynomial) (f terms all : Terms) (d i : ℕ) (t : Term) (head : Exponents) → f ≡ b.poly → terms ≡ f → IsDescending f →
    i < length b.poly → head_of b.poly i ≡ b.head → d ≡ total_degree terms → all ≡ map (filled_term d) terms → t ≡ get_or all i t → head ≡ t.mono →
    Filling b terms all d i t head
filling_at b f terms all d i t head ef et desc l m e q at h = record {
  terms_are = et ∙ ef;
  descending = subst IsDescending ef desc;
  inside = l;
  mark = m;
  total = e;
  all_are = q;
  at = at;
  head_is = h;
}

marked_there : (b : MarkedPolynomial) (i : ℕ) → IsDescending b.poly → i < length b.poly → head_of b.poly i ≡ b.head → HasMarkedTerm b
marked_there b i d l e = record {
  descending = d;
  mark = (get_or b.poly i nothing).coef;
  term = subst (λ (h : Exponents). Contains b.poly (record { coef = (get_or b.poly i nothing).coef; mono = h })) e
      (mark_at b.poly i (get_or b.poly i nothing) l (same b.poly i nothing l));
}
  where
    nothing : Term
    nothing = record { coef = zero_ℚ; mono = [] }

    same : (f : Terms) (k : ℕ) (d : Term) → k < length f → get_or f k d ≡ get_or f k (get_or f k d)
    same [] k d l = absurd (omega arith)
    same (s ∷ f) zero d l = refl
    same (s ∷ f) (suc k) d l = same f k d (omega arith)

filling_marked : (b : MarkedPolynomial) (terms all : Terms) (d i : ℕ) (t : Term) (head : Exponents) → Filling b terms all d i t head → HasMarkedTerm b
filling_marked b terms all d i t head h = marked_there b i h.descending h.inside h.mark

filling_degree : (b : MarkedPolynomial) (terms all : Terms) (d i : ℕ) (t : Term) (head : Exponents) → Filling b terms all d i t head → d ≡ total_degree b.poly
filling_degree b terms all d i t head h = h.total ∙ ap total_degree h.terms_are

filling_items : (b : MarkedPolynomial) (terms all : Terms) (d i : ℕ) (t : Term) (head : Exponents) → Filling b terms all d i t head →
    all ≡ map (filled_term d) b.poly
filling_items b terms all d i t head h = h.all_are ∙ ap (map (filled_term d)) h.terms_are

filling_head : (b : MarkedPolynomial) (terms all : Terms) (d i : ℕ) (t : Term) (head : Exponents) → Filling b terms all d i t head → head ≡ filled d b.head
filling_head b terms all d i t head h = h.head_is ∙ filled-mark d b.poly all i t (filling_items b terms all d i t head h) h.inside h.at ∙ ap (filled d) h.mark

pub filling-short : (b : MarkedPolynomial) (terms all : Terms) (d i : ℕ) (t : Term) (head : Exponents) → Filling b terms all d i t head → (x : Exponents) →
    length (like x all) ≤ 1
filling-short b terms all d i t head h x = subst (λ (g : Terms). length (like x g) ≤ 1) (sym (filling_items b terms all d i t head h))
    (filled-short d b.poly x h.descending)

pub filling-variables : (n : ℕ) (b : MarkedPolynomial) (terms all : Terms) (d i : ℕ) (t : Term) (head : Exponents) (poly found : Terms) →
    HasVariables n b.poly → KeepsVariables all poly → found ≡ poly → Filling b terms all d i t head → HasVariables (length head) found
filling-variables n b terms all d i t head poly found v k e h =
    let long : length head ≡ n + 1 = ap length (filling_head b terms all d i t head h) ∙ filled-length n d b v (filling_marked b terms all d i t head h) in
    let wide : HasVariables (n + 1) poly =
    k.at (n + 1) (subst (HasVariables (n + 1)) (sym (filling_items b terms all d i t head h)) (filled-variables n d b.poly v)) in
    subst (λ (m : ℕ). HasVariables m found) (sym long) (subst (HasVariables (n + 1)) (sym e) wide)

pub filling-there : (n : ℕ) (b : MarkedPolynomial) (terms all : Terms) (d i : ℕ) (t : Term) (head : Exponents) (poly found : Terms) → HasVariables n b.poly →
    SamePolynomial poly all → found ≡ poly → Filling b terms all d i t head → coefficient found head ≢ zero_ℚ
filling-there n b terms all d i t head poly found v s e h z =
    filled-there n d b poly v (filling_marked b terms all d i t head h)
    (λ x. s x ∙ ap (λ (g : Terms). coefficient g x) (filling_items b terms all d i t head h))
    (ap (coefficient poly) (sym (filling_head b terms all d i t head h)) ∙ ap (λ (g : Terms). coefficient g head) (sym e) ∙ z)

pub filling-value : (b c : MarkedPolynomial) (terms all : Terms) (d i : ℕ) (t : Term) (head : Exponents) (poly found : Terms) (index : ℕ) →
    SamePolynomial poly all → IsDescending poly → KeepsVariables all poly → found ≡ poly → head_of found index ≡ head →
    c ≡ record { poly = poly; head = head_of poly index } → Filling b terms all d i t head → IsMarkedHomogenization b c
filling-value b c terms all d i t head poly found index s desc k e at is h =
    let degree_is : d ≡ total_degree b.poly = filling_degree b terms all d i t head h in
    let items : all ≡ map (filled_term d) b.poly = filling_items b terms all d i t head h in
    subst (IsMarkedHomogenization b) (sym is) (record {
      polynomial = λ x. s x ∙ ap (λ (g : Terms). coefficient g x) (items ∙ ap (λ (m : ℕ). map (filled_term m) b.poly) degree_is);
      descending = desc;
      variables = λ n v. k.at (n + 1) (subst (HasVariables (n + 1)) (sym items) (filled-variables n d b.poly v));
      head = ap (λ (g : Terms). head_of g index) (sym e) ∙ at ∙ filling_head b terms all d i t head h ∙ ap (λ (m : ℕ). filled m b.head) degree_is;
    })

-- ---- refusals

pub exponent_along : {P Q : ExponentOverflow → Type 0} (e : SmallError) → ((o : ExponentOverflow) → P o → Q o) → HasExponent P e → HasExponent Q e
exponent_along (errors.TooManyVariables count) f h = h
exponent_along (errors.Exponent o) f h = f o h
exponent_along errors.Memory f h = tt

-- where each exponent is within the limit none passes it
pub never_past : (fs : List Written) (o : ExponentOverflow) → All IsHomogenizedWithinLimit fs → IsFirstExponentPastLimit fs o → ⊥
never_past fs o h v = by v.polynomial (All-contains IsHomogenizedWithinLimit fs v.polynomial h (subst (λ (z : List Written). Contains z v.polynomial)
    (sym v.split) (Contains-append_right v.earlier (v.polynomial ∷ v.later) v.polynomial (0, omega arith, refl)))) v.past
  where
    by : (f : Written) → IsHomogenizedWithinLimit f → IsWrittenPastLimit f o → ⊥
    by written.Zero w p = absurd p
    by (written.Nonzero b) w p = absurd (omega (
      arith,
      All-contains (λ (t : Term). new_exponent (total_degree b.poly) t.mono < 2 ^ 31) b.poly p.term w
          (subst (λ (z : Terms). Contains z p.term) (sym p.split) (Contains-append_right p.earlier (p.term ∷ p.later) p.term (0, omega arith, refl))),
      p.past.leaves,
    ))

pub only_memory : (fs : List Written) (e : SmallError) → All IsHomogenizedWithinLimit fs → HasExponent (IsFirstExponentPastLimit fs) e → e ≡ errors.Memory
only_memory fs (errors.TooManyVariables count) w h = absurd h
only_memory fs (errors.Exponent o) w h = absurd (never_past fs o w h)
only_memory fs errors.Memory w h = refl
