-- Indices in a dividend, and what is taken at them.
-- To cite: over_more, descends_here, descends_end, cut_there, taken_zero, taken_rest, taken_there, taken_new.
use Rattle.std.specs.Prelude.{◌≡◌, ℕ, zero, suc, ◌+◌, ◌<◌, ◌≤◌, List, [], ◌∷◌, ◌++◌, length, Ok}
use Rattle.std.specs.List.{insert, remove}
use Rattle.std.specs.declared.cmp.Ordering.{Ordering}
use Rattle.std.specs.declared.cmp.Ordering.TheVariants.{Less, Equal, Greater}
use Rattle.std.proofs.Common.{arith, refl, sym, ap, ◌∙◌, subst, inl, inr, get_or, take, drop, append_assoc, add-one}
use Rattle.std.proofs.lemmas.List.{take_more, take-append-drop, drop_all}
use Rattle.gf_frac.specs.Fraction.{Fraction, ◌-ℚ◌, neg_ℚ, zero_ℚ}
use Rattle.gf_exponents_theory.specs.Exponents.{Exponents}
use Rattle.gf_exponents_theory.specs.Orders.{deglex}
use Rattle.gf_poly.specs.declared.Term.{Term}
use Rattle.gf_poly.specs.Polynomial.{Terms, coefficient, IsDescending, HasVariables}
use Rattle.gf_poly.proofs.CoefficientLaws.{head_at}
use Rattle.gf_ideal_theory.proofs.ListLaws.{Each-++}
use Rattle.gf_division.specs.Dividends.{Split, joined_terms, IsSound, AreOver, FirstIs, Descends, TakesAway}
use Rattle.gf_division.specs.Tables.{IsCutBefore}
use Rattle.gf_division.proofs.SubtractionLaws.{taken_at, taken_beside}
use Rattle.gf_wide_division.specs.declared.terms.WideTerm.{WideTerm}
use Rattle.gf_wide_division.specs.Dividends.{uncut, cut_at, TakesAt}
use Rattle.gf_wide_division.specs.Values.{term_value, value_terms}
use Rattle.gf_wide_division.proofs.ValueLaws.{length-values, values_append, values_take, values_drop, value_at}

-- ---- the index

-- what is before it is greater
pub over_more : (x : Exponents) (f : List WideTerm) (i : ℕ) (t : WideTerm) → i < length f → t ≡ get_or f i t → deglex t.mono x ≡ Greater →
    AreOver x (take i (value_terms f)) → AreOver x (take (i + 1) (value_terms f))
over_more x f i t l is g o =
    subst (AreOver x) (sym (take_more (value_terms f) i (term_value t) (omega (arith, l, length-values f))))
    (Each-++ (λ (s : Term). deglex s.mono x ≡ Greater) (take i (value_terms f)) (get_or (value_terms f) i (term_value t) ∷ []) o
    (subst (λ (s : Term). deglex s.mono x ≡ Greater) (value_at f i t is) g, tt))

descends_at : (x : Exponents) (f : Terms) (i : ℕ) (o : Ordering) → AreOver x (take i f) → FirstIs (drop i f) x o → (o ≡ Greater → ⊥) →
    Descends x (uncut f) (cut_at i f) o
descends_at x f i o a h n = record { passed = take i f; above = refl; below = sym (take-append-drop i f); over = a; first = h; ends = n }

term_first : (f : List WideTerm) (i : ℕ) (t : WideTerm) → i < length f → t ≡ get_or f i t → drop i (value_terms f) ≡ term_value t ∷ drop (i + 1) (value_terms f)
term_first f i t l is = head_at (value_terms f) i (term_value t) (omega (arith, l, length-values f)) (value_at f i t is)

pub descends_here : (x : Exponents) (f : List WideTerm) (i : ℕ) (t : WideTerm) (o : Ordering) → i < length f → t ≡ get_or f i t → o ≡ deglex t.mono x →
    (o ≡ Greater → ⊥) → AreOver x (take i (value_terms f)) → Descends x (uncut (value_terms f)) (cut_at i (value_terms f)) o
descends_here x f i t o l is q n a = descends_at x (value_terms f) i o a (subst (λ (z : Terms). FirstIs z x o) (sym (term_first f i t l is)) q) n

pub descends_end : (x : Exponents) (f : List WideTerm) (i : ℕ) → length f ≤ i → AreOver x (take i (value_terms f)) →
    Descends x (uncut (value_terms f)) (cut_at i (value_terms f)) Less
descends_end x f i l a = descends_at x (value_terms f) i Less a
    (subst (λ (z : Terms). FirstIs z x Less) (sym (drop_all i (value_terms f) (omega (arith, l, length-values f)))) refl) (λ z. absurd (cc))

-- a term of it
pub cut_there : (f : List WideTerm) (i : ℕ) (t u : WideTerm) → i < length f → t ≡ get_or f i t → u ≡ t → IsCutBefore (value_terms f) (term_value u)
cut_there f i t u l is e = subst (λ (z : WideTerm). IsCutBefore (value_terms f) (term_value z)) (sym e) (record {
  cut = cut_at i (value_terms f);
  same = take-append-drop i (value_terms f);
  first = record { rest = drop (i + 1) (value_terms f); is = term_first f i t l is };
})

-- ---- what is left of a term

values_removed : (f g : List WideTerm) (i : ℕ) → g ≡ remove f i → value_terms g ≡ take i (value_terms f) ++ drop (i + 1) (value_terms f)
values_removed f g i e =
    ap value_terms e ∙ values_append (take i f) (drop (suc i) f) ∙ ap (λ (z : Terms). z ++ value_terms (drop (suc i) f)) (values_take f i)
    ∙ ap (λ (z : Terms). take i (value_terms f) ++ z) (values_drop f (suc i) ∙ ap (λ (n : ℕ). drop n (value_terms f)) (sym (add-one i)))

insert_removed : (f : List WideTerm) (i : ℕ) (u : WideTerm) → i < length f → insert (remove f i) i u ≡ take i f ++ u ∷ drop (suc i) f
insert_removed [] i u l = absurd (omega arith)
insert_removed (x ∷ f) zero u l = refl
insert_removed (x ∷ f) (suc i) u l = ap (λ (z : List WideTerm). x ∷ z) (insert_removed f i u (omega arith))

values_put : (f g h : List WideTerm) (i : ℕ) (u : WideTerm) → i < length f → g ≡ remove f i → h ≡ insert g i u →
    value_terms h ≡ take i (value_terms f) ++ term_value u ∷ drop (i + 1) (value_terms f)
values_put f g h i u l e p =
    ap value_terms (p ∙ ap (λ (z : List WideTerm). insert z i u) e ∙ insert_removed f i u l)
    ∙ values_append (take i f) (u ∷ drop (suc i) f) ∙ ap (λ (z : Terms). z ++ term_value u ∷ value_terms (drop (suc i) f)) (values_take f i)
    ∙ ap (λ (z : Terms). take i (value_terms f) ++ term_value u ∷ z) (values_drop f (suc i) ∙ ap (λ (n : ℕ). drop n (value_terms f)) (sym (add-one i)))

pub taken_zero : (c : Fraction) (f g : List WideTerm) (i : ℕ) (t : WideTerm) (v : Fraction) → i < length f → t ≡ get_or f i t → g ≡ remove f i →
    v ≡ t.coef -ℚ c → v ≡ zero_ℚ → TakesAt c i (value_terms f) (value_terms g)
taken_zero c f g i t v l is e d z = record {
  left = record { above = take i (value_terms f); below = drop (i + 1) (value_terms f) };
  taken = record { term = term_value t; below = term_first f i t l is; above = inl (sym d ∙ z, refl) };
  same = values_removed f g i e;
}

pub taken_rest : (c : Fraction) (f g h : List WideTerm) (i : ℕ) (t u : WideTerm) (v : Fraction) → i < length f → t ≡ get_or f i t → g ≡ remove f i →
    h ≡ insert g i u → v ≡ t.coef -ℚ c → u.coef ≡ v → u.mono ≡ t.mono → (v ≡ zero_ℚ → ⊥) → TakesAt c i (value_terms f) (value_terms h)
taken_rest c f g h i t u v l is e p d uc um n =
    let s : Term = record { coef = t.coef -ℚ c; mono = t.mono } in
    let q : term_value u ≡ s = λ r. record { coef = (uc ∙ d) r; mono = um r } in
    record {
      left = record { above = take i (value_terms f) ++ s ∷ []; below = drop (i + 1) (value_terms f) };
      taken = record { term = term_value t; below = term_first f i t l is; above = inr (λ z. n (d ∙ z), refl) };
      same = values_put f g h i u l e p ∙ ap (λ (z : Term). take i (value_terms f) ++ z ∷ drop (i + 1) (value_terms f)) q ∙
          sym (append_assoc (take i (value_terms f)) (s ∷ []) (drop (i + 1) (value_terms f)));
    }

-- ---- one term taken away

relay : (c : Fraction) (x : Exponents) (f g : Terms) (w : Split) → g ≡ joined_terms w → TakesAway c x (uncut f) w → TakesAway c x (uncut f) (uncut g)
relay c x f g w e t = record {
  same = λ y. ap (λ (z : Terms). coefficient z y) e ∙ t.same y;
  sound = record { descending = subst IsDescending (sym e) t.sound.descending; variables = subst (HasVariables (length x)) (sym e) t.sound.variables };
  passed = [];
  above = refl;
  from = tt;
}

pub taken_there : (c : Fraction) (x : Exponents) (f g : Terms) (i : ℕ) (o : Ordering) → o ≡ Equal → IsSound (length x) (uncut f) →
    Descends x (uncut f) (cut_at i f) o → TakesAt c i f g → TakesAway c x (uncut f) (uncut g)
taken_there c x f g i o q s d t = relay c x f g t.left t.same (taken_at {E = Unit {0}} c x (uncut f) (cut_at i f) t.left o (Ok tt) q s tt d t.taken)

pub taken_new : (c : Fraction) (x : Exponents) (f g : List WideTerm) (i : ℕ) (o : Ordering) (u : WideTerm) → (o ≡ Equal → ⊥) → (c ≡ zero_ℚ → ⊥) →
    u.coef ≡ neg_ℚ c → u.mono ≡ x → g ≡ insert f i u → IsSound (length x) (uncut (value_terms f)) →
    Descends x (uncut (value_terms f)) (cut_at i (value_terms f)) o → TakesAway c x (uncut (value_terms f)) (uncut (value_terms g))
taken_new c x f g i o u n z uc um p s d =
    let t : Term = term_value u in
    let q : t ≡ record { coef = neg_ℚ c; mono = x } = λ r. record { coef = uc r; mono = um r } in
    let w : Split = record { above = take i (value_terms f) ++ t ∷ []; below = drop i (value_terms f) } in
    let e : value_terms g ≡ joined_terms w =
    ap value_terms p ∙ values_append (take i f) (u ∷ drop i f) ∙ ap (λ (k : Terms). k ++ t ∷ value_terms (drop i f)) (values_take f i)
    ∙ ap (λ (k : Terms). take i (value_terms f) ++ t ∷ k) (values_drop f i) ∙ sym (append_assoc (take i (value_terms f)) (t ∷ []) (drop i (value_terms f))) in
    relay c x (value_terms f) (value_terms g) w e (taken_beside c x (uncut (value_terms f)) (cut_at i (value_terms f)) w o t n z q s tt d refl refl)
