-- Polynomials in the same number of variables are equal if and only if their keys are, and a key is among those of a list if and only if an equal polynomial is
-- in the list.
-- To cite: number_more, term_whole, terms_more, among_in, new_in, keyed-none, keyed-added, keyed-same.
use Rattle.std.specs.Prelude.{◌≡◌, ℕ, suc, ◌+◌, ◌<◌, ◌≤◌, Bool, true, false, ◌||◌, not}
use Rattle.std.specs.Prelude.{if◌then◌else◌, ℤ, pos, List, [], ◌∷◌, ◌++◌, length, map, take, get_or, All}
use Rattle.std.specs.List.{list_any}
use Rattle.std.specs.Ordering.{int_eq}
use Rattle.std.specs.Cmp.Lexicographic.{pointwise}
use Rattle.std.specs.Bool.{Decides}
use Rattle.std.proofs.Common.{arith, refl, sym, ap, subst, ◌∙◌, append_assoc, append-nil}
use Rattle.std.proofs.lemmas.Bool.{true≢false}
use Rattle.std.proofs.lemmas.Bool.Decides.{Decides-int_eq}
use Rattle.std.proofs.lemmas.List.{length-map, map-append, take_all, take_more}
use Rattle.std.proofs.lemmas.List.Elements.{All-nil, All-cons, All-push}
use Rattle.std.proofs.lemmas.Slice.Eq.{slice_eq-Decides}
use Rattle.indexmap.specs.IndexSet.{insert_key}
use Rattle.gf_exponents_theory.specs.Exponents.{Exponents}
use Rattle.gf_frac.specs.Fraction.{Fraction, same_parts}
use Rattle.gf_poly.specs.declared.Term.{Term}
use Rattle.gf_poly.specs.Polynomial.{Terms, coefficient, IsDescending, HasVariables}
use Rattle.gf_poly.proofs.CoefficientLaws.{descending_unique}
use Rattle.gf_text.specs.declared.written.Written.{Written}
use Rattle.gf_text.specs.declared.written.Written.TheVariants as written
use Rattle.gf_text.specs.Sets.{IsIn, AreIn}
use Rattle.gf_small.specs.Unions.{terms_of, AreEqual, IsAmong, IsNew}
use Rattle.gf_small.specs.Keys.{term_key, terms_key, keys_of, AreKeyed}

-- ---- lists of numbers

pos_same : (x y : List ℕ) → map pos x ≡ map pos y → x ≡ y
pos_same [] [] e = refl
pos_same [] (b ∷ y) e = absurd (cc)
pos_same (a ∷ x) [] e = absurd (cc)
pos_same (a ∷ x) (b ∷ y) e =
    let head : pos a ≡ pos b = cc in
    let tail : map pos x ≡ map pos y = cc in
    let rest = pos_same x y tail in
    let number : a ≡ b = cc in
    cc

front_same : (x y a b : List ℤ) → length x ≡ length y → x ++ a ≡ y ++ b → (x ≡ y) × (a ≡ b)
front_same [] [] a b l e = (refl, e)
front_same [] (v ∷ y) a b l e = absurd (omega arith)
front_same (u ∷ x) [] a b l e = absurd (omega arith)
front_same (u ∷ x) (v ∷ y) a b l e =
    let head : u ≡ v = cc in
    let tail : x ++ a ≡ y ++ b = cc in
    let rest = front_same x y a b (omega arith) tail in
    let front = rest.0 in
    (cc, rest.1)

-- ---- keys under way

-- one exponent more
pub number_more : (k m next : List ℤ) (x : List ℕ) (i : ℕ) (z : ℤ) → i < length x → z ≡ pos (get_or x i 0) → m ≡ k ++ map pos (take i x) → next ≡ m ++ z ∷ [] →
    next ≡ k ++ map pos (take (i + 1) x)
number_more k m next x i z l e h q =
    q ∙ ap (λ (y : List ℤ). y ++ z ∷ []) h ∙ append_assoc k (map pos (take i x)) (z ∷ [])
    ∙ ap (λ (y : List ℤ). k ++ y) (ap (λ (y : ℤ). map pos (take i x) ++ y ∷ []) e ∙ sym (map-append pos (take i x) (get_or x i 0 ∷ []))
    ∙ ap (map pos) (sym (take_more x i 0 l)))

-- all numbers of a term
pub term_whole : (k k1 k2 m : List ℤ) (t : Term) (x : List ℕ) (a b : ℤ) (i : ℕ) → a ≡ t.coef.num → b ≡ pos t.coef.den → x ≡ t.mono → length x ≤ i →
    k1 ≡ k ++ a ∷ [] → k2 ≡ k1 ++ b ∷ [] → m ≡ k2 ++ map pos (take i x) → m ≡ k ++ term_key t
term_whole k k1 k2 m t x a b i ea eb ex l h1 h2 h =
    h ∙ ap (λ (y : List ℕ). k2 ++ map pos y) (take_all i x l ∙ ex) ∙ ap (λ (y : List ℤ). y ++ map pos t.mono) (h2 ∙ ap (λ (y : List ℤ). y ++ b ∷ []) h1)
    ∙ ap (λ (y : List ℤ). y ++ map pos t.mono) (append_assoc k (a ∷ []) (b ∷ [])) ∙ append_assoc k (a ∷ b ∷ []) (map pos t.mono)
    ∙ ap (λ (y : ℤ). k ++ (y ∷ b ∷ map pos t.mono)) ea ∙ ap (λ (y : ℤ). k ++ (t.coef.num ∷ y ∷ map pos t.mono)) eb

terms_key-push : (f : Terms) (t : Term) → terms_key (f ++ t ∷ []) ≡ terms_key f ++ term_key t
terms_key-push [] t = append-nil (term_key t)
terms_key-push (s ∷ f) t = ap (λ (y : List ℤ). term_key s ++ y) (terms_key-push f t) ∙ sym (append_assoc (term_key s) (terms_key f) (term_key t))

-- one term more
pub terms_more : (m next : List ℤ) (f : Terms) (i : ℕ) (t : Term) → i < length f → t ≡ get_or f i t → m ≡ terms_key (take i f) → next ≡ m ++ term_key t →
    next ≡ terms_key (take (i + 1) f)
terms_more m next f i t l e h q =
    q ∙ ap (λ (y : List ℤ). y ++ term_key t) h ∙ sym (terms_key-push (take i f) t) ∙ ap (λ (u : Term). terms_key (take i f ++ u ∷ [])) e
    ∙ ap terms_key (sym (take_more f i t l))

-- ---- polynomials

-- lists of terms in the same number of variables are equal where their keys are
key_same : (n : ℕ) (f g : Terms) → HasVariables n f → HasVariables n g → terms_key f ≡ terms_key g → f ≡ g
key_same n [] [] v w e = refl
key_same n [] (t ∷ g) v w e = absurd (cc)
key_same n (s ∷ f) [] v w e = absurd (cc)
key_same n (s ∷ f) (t ∷ g) v w e =
    let num : s.coef.num ≡ t.coef.num = cc in
    let den : pos s.coef.den ≡ pos t.coef.den = cc in
    let den_same : s.coef.den ≡ t.coef.den = cc in
    let tail : map pos s.mono ++ terms_key f ≡ map pos t.mono ++ terms_key g = cc in
    let long : length (map pos s.mono) ≡ length (map pos t.mono) = length-map s.mono pos ∙ v.0 ∙ sym w.0 ∙ sym (length-map t.mono pos) in
    let both = front_same (map pos s.mono) (map pos t.mono) (terms_key f) (terms_key g) long tail in
    let mono : s.mono ≡ t.mono = pos_same s.mono t.mono both.0 in
    let coef : s.coef ≡ t.coef = same_parts s.coef t.coef num den_same in
    let rest : f ≡ g = key_same n f g v.1 w.1 both.1 in
    let term : s ≡ t = ap (λ (c : Fraction). record { coef = c; mono = s.mono }) coef ∙ ap (λ (m : Exponents). record { coef = t.coef; mono = m }) mono in
    cc

in_variables : (n : ℕ) (w : Written) → IsIn n w → HasVariables n (terms_of w)
in_variables n written.Zero h = tt
in_variables n (written.Nonzero b) h = h

-- ---- lists of polynomials

pub keys-push : (ws : List Written) (w : Written) → keys_of (ws ++ w ∷ []) ≡ keys_of ws ++ terms_key (terms_of w) ∷ []
keys-push [] w = refl
keys-push (v ∷ ws) w = ap (λ (z : List (List ℤ)). terms_key (terms_of v) ∷ z) (keys-push ws w)

decided : (x y : List ℤ) → Decides (pointwise int_eq x y) (x ≡ y)
decided x y = slice_eq-Decides Decides-int_eq x y _ refl

among_step : (b c : Bool) (w v : Written) (vs : List Written) → (b ≡ true → AreEqual v w) → (c ≡ true → IsAmong w vs) → (b || c) ≡ true → IsAmong w (v ∷ vs)
among_step true c w v vs f g e = (0, v, omega arith, refl, f refl)
among_step false c w v vs f g e = let h = g e in (suc h.0, h.1, omega (arith, h.2), h.3, h.4)

-- a polynomial whose key is among those of a list is equal to one of the list
pub among_by_key : (n : ℕ) (w : Written) (ws : List Written) → IsIn n w → AreIn n ws → list_any (pointwise int_eq (terms_key (terms_of w))) (keys_of ws) ≡
    true → IsAmong w ws
among_by_key n w [] h k e = absurd (cc)
among_by_key n w (v ∷ vs) h k e =
    among_step (pointwise int_eq (terms_key (terms_of w)) (terms_key (terms_of v))) (list_any (pointwise int_eq (terms_key (terms_of w))) (keys_of vs)) w v vs
    (λ b x. ap (λ (f : Terms). coefficient f x)
    (sym (key_same n (terms_of w) (terms_of v) (in_variables n w h) (in_variables n v k.0) ((decided (terms_key (terms_of w)) (terms_key (terms_of v))).0 b))))
    (among_by_key n w vs h k.1) e

new_step : (b c : Bool) (w v : Written) (vs : List Written) → (b ≡ false → AreEqual v w → ⊥) → (c ≡ false → IsNew w vs) → (b || c) ≡ false → IsNew w (v ∷ vs)
new_step true c w v vs f g e = absurd (true≢false e)
new_step false c w v vs f g e = All-cons (λ u. AreEqual u w → ⊥) v vs (f refl) (g e)

-- one whose key isn't among them is equal to none
pub new_by_key : (n : ℕ) (w : Written) (ws : List Written) → IsIn n w → AreIn n ws → IsDescending (terms_of w) → All (λ v. IsDescending (terms_of v)) ws →
    list_any (pointwise int_eq (terms_key (terms_of w))) (keys_of ws) ≡ false → IsNew w ws
new_by_key n w [] h k d ds e = λ i u l. absurd (omega (arith, l))
new_by_key n w (v ∷ vs) h k d ds e =
    new_step (pointwise int_eq (terms_key (terms_of w)) (terms_key (terms_of v))) (list_any (pointwise int_eq (terms_key (terms_of w))) (keys_of vs)) w v vs
    (λ b s. let same : terms_of v ≡ terms_of w = descending_unique n (terms_of v) (terms_of w) (in_variables n v k.0) (in_variables n w h)
    (ds 0 v (omega arith)) d s in
    true≢false (sym ((decided (terms_key (terms_of w)) (terms_key (terms_of v))).1 (ap terms_key (sym same))) ∙ b))
    (new_by_key n w vs h k.1 d (λ i u l. ds (suc i) u (omega (arith, l)))) e

-- ---- the kept polynomials and their keys

pub among_in : (n : ℕ) (w : Written) (ws : List Written) (keys : List (List ℤ)) (k : List ℤ) → IsIn n w → AreIn n ws → AreKeyed ws keys →
    k ≡ terms_key (terms_of w) →
    list_any (pointwise int_eq k) keys ≡ true → IsAmong w ws
among_in n w ws keys k h a d e l = among_by_key n w ws h a (ap (λ (y : List ℤ). list_any (pointwise int_eq y) (keys_of ws)) (sym e)
    ∙ ap (list_any (pointwise int_eq k)) (sym d.each) ∙ l)

pub new_in : (n : ℕ) (w : Written) (ws : List Written) (keys : List (List ℤ)) (k : List ℤ) → IsIn n w → AreIn n ws → AreKeyed ws keys →
    k ≡ terms_key (terms_of w) → IsDescending (terms_of w) →
    list_any (pointwise int_eq k) keys ≡ false → IsNew w ws
new_in n w ws keys k h a d e f l = new_by_key n w ws h a f d.descending (ap (λ (y : List ℤ). list_any (pointwise int_eq y) (keys_of ws)) (sym e)
    ∙ ap (list_any (pointwise int_eq k)) (sym d.each) ∙ l)

chosen_false : (b : Bool) (x y : List (List ℤ)) → b ≡ false → (if b then x else y) ≡ y
chosen_false true x y e = absurd (true≢false e)
chosen_false false x y e = refl

chosen_true : (b : Bool) (x y : List (List ℤ)) → b ≡ true → (if b then x else y) ≡ x
chosen_true true x y e = refl
chosen_true false x y e = absurd (true≢false (sym e))

pub keyed-none : (kept : List Written) (keys : List (List ℤ)) → kept ≡ [] → keys ≡ [] → AreKeyed kept keys
keyed-none kept keys e h = record {
  each = h ∙ ap keys_of (sym e);
  descending = subst (All (λ v. IsDescending (terms_of v))) (sym e) (All-nil (λ v. IsDescending (terms_of v)));
}

-- one polynomial more, whose key is new
pub keyed-added : (kept next : List Written) (keys more : List (List ℤ)) (k : List ℤ) (w v : Written) → AreKeyed kept keys → k ≡ terms_key (terms_of w) →
    IsDescending (terms_of w) → v ≡ w →
    next ≡ kept ++ v ∷ [] → list_any (pointwise int_eq k) keys ≡ false → more ≡ insert_key (pointwise int_eq) keys k → AreKeyed next more
keyed-added kept next keys more k w v d e f s q l m =
    let same : next ≡ kept ++ w ∷ [] = q ∙ ap (λ (u : Written). kept ++ u ∷ []) s in
    record {
      each = m ∙ chosen_false (list_any (pointwise int_eq k) keys) keys (keys ++ k ∷ []) l ∙ ap (λ (y : List (List ℤ)). y ++ k ∷ []) d.each
          ∙ ap (λ (y : List ℤ). keys_of kept ++ y ∷ []) e
          ∙ sym (keys-push kept w) ∙ ap keys_of (sym same);
      descending = subst (All (λ u. IsDescending (terms_of u))) (sym same) (All-push (λ u. IsDescending (terms_of u)) kept w d.descending f);
    }

pub keyed-same : (kept : List Written) (keys more : List (List ℤ)) (k : List ℤ) → AreKeyed kept keys → list_any (pointwise int_eq k) keys ≡ true →
    more ≡ insert_key (pointwise int_eq) keys k →
    AreKeyed kept more
keyed-same kept keys more k d l m = record {
  each = m ∙ chosen_true (list_any (pointwise int_eq k) keys) keys (keys ++ k ∷ []) l
      ∙ d.each;
  descending = d.descending;
}

pub was_new : (r b : Bool) → r ≡ not b → r ≡ true → b ≡ false
was_new r true e h = absurd (true≢false (sym h ∙ e))
was_new r false e h = refl

pub was_there : (r b : Bool) → r ≡ not b → r ≡ false → b ≡ true
was_there r true e h = refl
was_there r false e h = absurd (true≢false (sym e ∙ h))
