-- Terms that offend, as code finds them: member by member, the marked monomial first.
-- To cite: not_false, NoneDivided, Searched, searched_none, searched_next, found_at_head, found_in_terms, no_offence_in,
-- head_variables, term_variables, term_lengths, NoneBefore.
use Rattle.std.specs.Prelude.{◌≡◌, ◌≢◌, ◌⊎◌, ℕ, ◌+◌, ◌<◌, ◌≤◌, Bool, true, false, if◌then◌else◌, List, [], ◌∷◌, ◌++◌, length, take, drop}
use Rattle.std.proofs.Common.{refl, sym, ap, ◌∙◌, subst, inl, inr, get_or}
use Rattle.std.proofs.lemmas.List.{take_all, take-append-drop, drop_more}
use Rattle.gf_exponents_theory.specs.Exponents.{Exponents, same, Divides}
use Rattle.gf_exponents_theory.proofs.ExponentsLaws.{same-refl}
use Rattle.gf_poly.specs.declared.Term.{Term}
use Rattle.gf_poly.specs.Polynomial.{Terms, HasVariables}
use Rattle.gf_poly.specs.Marking.{MarkedPolynomial, HaveVariables, HasMarkedTerm}
use Rattle.gf_poly.proofs.CoefficientLaws.{term_length}
use Rattle.gf_poly.proofs.InitialFormLaws.{take-next}
use Rattle.gf_ideal_theory.specs.Settled.{IsAt}
use Rattle.gf_ideal_theory.proofs.ListLaws.{Each-++}
use Rattle.gf_division.proofs.ReducerLaws.{members_equal, member_contained, member_variables, member_length}
use Rattle.gf_reduced.specs.Terms.{all_but, printed_monomials, IsOffending, NoneOffends, IsFirstOffendingOf, HasNoOffence, IsDividedAt}

-- ---- different monomials

pub not_false : (s : Bool) → (s ≡ false → ⊥) → s ≡ true
not_false true n = refl
not_false false n = absurd (n refl)

-- ---- whether a mark divides a monomial

-- no mark before the index j that counts divides x
pub record NoneDivided (bs : List MarkedPolynomial) (i : ℕ) (x : Exponents) (m : Bool) (j : ℕ) : Type 0 where
  pub none : (k : ℕ) (c : MarkedPolynomial) → k < j → IsAt bs k c → Divides c.head x → (k ≢ i) ⊎ (m ≡ false) → ⊥

-- ---- the monomials of one member

-- the marked monomial offends where the mark of another member divides it
head_offends : (bs : List MarkedPolynomial) (i : ℕ) (b : MarkedPolynomial) (x : Exponents) → x ≡ b.head → IsDividedAt bs i x true → IsOffending bs i b b.head
head_offends bs i b x e d = record {
  index = d.index;
  member = d.member;
  at = d.at;
  divides = subst (λ (z : Exponents). Divides d.member.head z) e d.divides;
  other = at d.other;
}
  where
    at : (d.index ≢ i) ⊎ (true ≡ false) → (d.index ≢ i) ⊎ (same b.head b.head ≡ false)
    at (inl n) = inl n
    at (inr f) = absurd (cc)

head_divided : (bs : List MarkedPolynomial) (i : ℕ) (b : MarkedPolynomial) (x : Exponents) → x ≡ b.head → IsOffending bs i b b.head → IsDividedAt bs i x true
head_divided bs i b x e o = record {
  index = o.index;
  member = o.member;
  at = o.at;
  divides = subst (λ (z : Exponents). Divides o.member.head z) (sym e) o.divides;
  other = at o.other;
}
  where
    at : (o.index ≢ i) ⊎ (same b.head b.head ≡ false) → (o.index ≢ i) ⊎ (true ≡ false)
    at (inl n) = inl n
    at (inr f) = let t : same b.head b.head ≡ true = same-refl b.head in absurd (cc)

-- another one where any mark divides it
term_offends : (bs : List MarkedPolynomial) (i : ℕ) (b : MarkedPolynomial) (x : Exponents) → same x b.head ≡ false → IsDividedAt bs i x false →
    IsOffending bs i b x
term_offends bs i b x f d = record { index = d.index; member = d.member; at = d.at; divides = d.divides; other = inr f }

term_divided : (bs : List MarkedPolynomial) (i : ℕ) (b : MarkedPolynomial) (x : Exponents) → IsOffending bs i b x → IsDividedAt bs i x false
term_divided bs i b x o = record { index = o.index; member = o.member; at = o.at; divides = o.divides; other = inr refl }

-- ---- lists of monomials

all_but-++ : (h : Exponents) (f g : Terms) → all_but h (f ++ g) ≡ all_but h f ++ all_but h g
all_but-++ h [] g = refl
all_but-++ h (t ∷ f) g = at (same t.mono h) (all_but-++ h f g)
  where
    at : (s : Bool) → all_but h (f ++ g) ≡ all_but h f ++ all_but h g →
        (if s then all_but h (f ++ g) else (t.mono ∷ all_but h (f ++ g))) ≡ (if s then all_but h f else (t.mono ∷ all_but h f)) ++ all_but h g
    at true r = r
    at false r = ap (λ z. t.mono ∷ z) r

other_term : (h : Exponents) (t : Term) (f : Terms) → same t.mono h ≡ false → all_but h (t ∷ f) ≡ t.mono ∷ all_but h f
other_term h t f e = ap (λ s. if s then all_but h f else (t.mono ∷ all_but h f)) e

marked_term : (h : Exponents) (t : Term) (f : Terms) → same t.mono h ≡ true → all_but h (t ∷ f) ≡ all_but h f
marked_term h t f e = ap (λ s. if s then all_but h f else (t.mono ∷ all_but h f)) e

-- ---- the search in one member

-- neither the marked monomial of b nor one of its first k terms offends
pub record Searched (bs : List MarkedPolynomial) (i : ℕ) (b : MarkedPolynomial) (f : Terms) (k : ℕ) : Type 0 where
  pub head : IsOffending bs i b b.head → ⊥
  pub terms : NoneOffends bs i b (all_but b.head (take k f))

pub searched_none : (bs : List MarkedPolynomial) (i : ℕ) (b : MarkedPolynomial) (x : Exponents) (f : Terms) → x ≡ b.head → (IsDividedAt bs i x true → ⊥) →
    Searched bs i b f 0
searched_none bs i b x f e n = record { head = λ o. n (head_divided bs i b x e o); terms = none f }
  where
    none : (f : Terms) → NoneOffends bs i b (all_but b.head (take 0 f))
    none [] = tt
    none (t ∷ f) = tt

searched_more : (bs : List MarkedPolynomial) (i : ℕ) (b : MarkedPolynomial) (f : Terms) (k : ℕ) (t : Term) → k < length f → t ≡ get_or f k t →
    same t.mono b.head ≡ false → (IsDividedAt bs i t.mono false → ⊥) → Searched bs i b f k → Searched bs i b f (k + 1)
searched_more bs i b f k t l e s n h = record {
  head = h.head;
  terms = subst (NoneOffends bs i b) (sym (ap (all_but b.head) (take-next f k t l e) ∙ all_but-++ b.head (take k f) (t ∷ []) ∙
      ap (λ z. all_but b.head (take k f) ++ z) (other_term b.head t [] s)))
      (Each-++ (λ (x : Exponents). IsOffending bs i b x → ⊥) (all_but b.head (take k f)) (t.mono ∷ []) h.terms (λ o. n (term_divided bs i b t.mono o), tt));
}

searched_skipped : (bs : List MarkedPolynomial) (i : ℕ) (b : MarkedPolynomial) (f : Terms) (k : ℕ) (t : Term) → k < length f → t ≡ get_or f k t →
    same t.mono b.head ≡ true → Searched bs i b f k → Searched bs i b f (k + 1)
searched_skipped bs i b f k t l e s h = record {
  head = h.head;
  terms = subst (NoneOffends bs i b) (sym (ap (all_but b.head) (take-next f k t l e) ∙ all_but-++ b.head (take k f) (t ∷ []) ∙
      ap (λ z. all_but b.head (take k f) ++ z) (marked_term b.head t [] s) ∙ append_nil (all_but b.head (take k f)))) h.terms;
}
  where
    append_nil : (xs : List Exponents) → xs ++ [] ≡ xs
    append_nil [] = refl
    append_nil (x ∷ xs) = ap (λ z. x ∷ z) (append_nil xs)

pub searched_next : (bs : List MarkedPolynomial) (i : ℕ) (b : MarkedPolynomial) (f : Terms) (k : ℕ) (t : Term) (x : Exponents) → k < length f →
    t ≡ get_or f k t → x ≡ b.head → (same t.mono x ≡ true) ⊎ (IsDividedAt bs i t.mono false → ⊥) → Searched bs i b f k → Searched bs i b f (k + 1)
searched_next bs i b f k t x l e q (inl s) h = searched_skipped bs i b f k t l e (subst (λ (y : Exponents). same t.mono y ≡ true) q s) h
searched_next bs i b f k t x l e q (inr n) h = at (same t.mono b.head) refl
  where
    at : (s : Bool) → same t.mono b.head ≡ s → Searched bs i b f (k + 1)
    at true s = searched_skipped bs i b f k t l e s h
    at false s = searched_more bs i b f k t l e s n h

pub found_at_head : (bs : List MarkedPolynomial) (i : ℕ) (b : MarkedPolynomial) (x y : Exponents) → IsAt bs i b → x ≡ b.head → y ≡ x → IsDividedAt bs i x true →
    IsFirstOffendingOf bs i y
found_at_head bs i b x y p e q d = subst (IsFirstOffendingOf bs i) (sym (q ∙ e)) (record {
  member = b;
  at = p;
  earlier = [];
  later = all_but b.head b.poly;
  printed = refl;
  offends = head_offends bs i b x e d;
  none_earlier = tt;
})

pub found_at_term : (bs : List MarkedPolynomial) (i : ℕ) (b : MarkedPolynomial) (f : Terms) (k : ℕ) (t : Term) (y : Exponents) → IsAt bs i b → f ≡ b.poly →
    k < length f → t ≡ get_or f k t → y ≡ t.mono → same t.mono b.head ≡ false → IsDividedAt bs i t.mono false → Searched bs i b f k → IsFirstOffendingOf bs i y
found_at_term bs i b f k t y p ef l e q s d h = subst (IsFirstOffendingOf bs i) (sym q) (record {
  member = b;
  at = p;
  earlier = b.head ∷ all_but b.head (take k f);
  later = all_but b.head (drop (k + 1) f);
  printed = ap (λ z. b.head ∷ z) (ap (all_but b.head) (sym ef ∙ parts f k t l e) ∙ all_but-++ b.head (take k f) (t ∷ drop (k + 1) f) ∙
      ap (λ z. all_but b.head (take k f) ++ z) (other_term b.head t (drop (k + 1) f) s));
  offends = term_offends bs i b t.mono s d;
  none_earlier = (h.head, h.terms);
})
  where
    parts : (f : Terms) (k : ℕ) (t : Term) → k < length f → t ≡ get_or f k t → f ≡ take k f ++ t ∷ drop (k + 1) f
    parts f k t l e = sym (take-append-drop k f) ∙ ap (λ z. take k f ++ z) (drop_more f k t l ∙ ap (λ z. z ∷ drop (k + 1) f) (sym e))

pub no_offence : (bs : List MarkedPolynomial) (i : ℕ) (b : MarkedPolynomial) (f : Terms) (k : ℕ) → IsAt bs i b → f ≡ b.poly → length f ≤ k →
    Searched bs i b f k → HasNoOffence bs i
no_offence bs i b f k p ef l h c q = subst (λ (z : MarkedPolynomial). NoneOffends bs i z (printed_monomials z)) (members_equal bs i b c p q)
    (h.head, subst (λ (g : Terms). NoneOffends bs i b (all_but b.head g)) (take_all k f l ∙ ef) h.terms)

-- the same by the parts of the member
as_kept : (b : MarkedPolynomial) (f : Terms) (x : Exponents) → f ≡ b.poly → x ≡ b.head → ◌≡◌ {A = MarkedPolynomial} (record { poly = f; head = x }) b
as_kept b f x e q = λ i. record { poly = e i; head = q i }

pub found_in_terms : (bs : List MarkedPolynomial) (i : ℕ) (b : MarkedPolynomial) (x : Exponents) (f : Terms) (k : ℕ) (t : Term) (y : Exponents) → IsAt bs i b →
    x ≡ b.head → f ≡ b.poly → k < length f → t ≡ get_or f k t → y ≡ t.mono → same t.mono x ≡ false → IsDividedAt bs i t.mono false →
    Searched bs i (record { poly = f; head = x }) f k → IsFirstOffendingOf bs i y
found_in_terms bs i b x f k t y p ex ef l e q s d h = found_at_term bs i b f k t y p ef l e q (subst (λ (z : Exponents). same t.mono z ≡ false) ex s) d
    (subst (λ (c : MarkedPolynomial). Searched bs i c f k) (as_kept b f x ef ex) h)

pub no_offence_in : (bs : List MarkedPolynomial) (i : ℕ) (b : MarkedPolynomial) (x : Exponents) (f : Terms) (k : ℕ) → IsAt bs i b → x ≡ b.head → f ≡ b.poly →
    length f ≤ k → Searched bs i (record { poly = f; head = x }) f k → HasNoOffence bs i
no_offence_in bs i b x f k p ex ef l h = no_offence bs i b f k p ef l (subst (λ (c : MarkedPolynomial). Searched bs i c f k) (as_kept b f x ef ex) h)

-- ---- variables

pub head_variables : (n : ℕ) (bs : List MarkedPolynomial) (i : ℕ) (b : MarkedPolynomial) (x : Exponents) → HaveVariables n bs → IsAt bs i b → HasMarkedTerm b →
    x ≡ b.head → HaveVariables (length x) bs
head_variables n bs i b x v p m e = subst (λ (k : ℕ). HaveVariables k bs) (sym (ap (λ (z : Exponents). length z) e ∙ member_length n i bs b v p m)) v

term_width : (n : ℕ) (bs : List MarkedPolynomial) (i : ℕ) (b : MarkedPolynomial) (f : Terms) (k : ℕ) (t : Term) → HaveVariables n bs → IsAt bs i b →
    f ≡ b.poly → k < length f → t ≡ get_or f k t → length t.mono ≡ n
term_width n bs i b f k t v p ef l e = term_length n f t (subst (HasVariables n) (sym ef) (member_variables n bs b v (member_contained bs i b p))) (k, l, sym e)

pub term_variables : (n : ℕ) (bs : List MarkedPolynomial) (i : ℕ) (b : MarkedPolynomial) (f : Terms) (k : ℕ) (t : Term) → HaveVariables n bs → IsAt bs i b →
    f ≡ b.poly → k < length f → t ≡ get_or f k t → HaveVariables (length t.mono) bs
term_variables n bs i b f k t v p ef l e = subst (λ (w : ℕ). HaveVariables w bs) (sym (term_width n bs i b f k t v p ef l e)) v

pub term_lengths : (n : ℕ) (bs : List MarkedPolynomial) (i : ℕ) (b : MarkedPolynomial) (x : Exponents) (f : Terms) (k : ℕ) (t : Term) → HaveVariables n bs →
    IsAt bs i b → HasMarkedTerm b → x ≡ b.head → f ≡ b.poly → k < length f → t ≡ get_or f k t → length t.mono ≡ length x
term_lengths n bs i b x f k t v p m e ef l g = term_width n bs i b f k t v p ef l g ∙ sym (ap (λ (z : Exponents). length z) e ∙ member_length n i bs b v p m)

-- ---- the search in all members

-- the members before i have no monomial that offends
abbrev pub NoneBefore : List MarkedPolynomial → ℕ → Type 0
NoneBefore bs i = (k : ℕ) → k < i → HasNoOffence bs k
