-- What is read from each place of a set on: the rest of a term, terms, polynomials, the brace.
-- For each place a record says it; what stands at the place and what is read behind it give what is read from the place on.
-- To cite: the records; one_factor, more_factors, more_terms, more_polynomials, at_end, factor_term, number_term, signed, bare. The rest are steps.
use Rattle.std.proofs.Common.{◌≡◌, ◌<◌, ℕ, Bool, false, List, [], ◌∷◌, ◌++◌, Some, refl, sym, ap, ◌∙◌, ◌⊎◌, inl, inr, append_assoc, append-nil}
use Rattle.gf_text.specs.declared.tree.Factor.{Factor}
use Rattle.gf_text.specs.declared.tree.WrittenTerm.{WrittenTerm}
use Rattle.gf_text.specs.declared.set_reader.Part.{Part}
use Rattle.gf_text.specs.Tokens.{decimal_value}
use Rattle.gf_text.specs.SetText.{variable, sign, most, most_exponent, IsNumberText, IsFactorText, IsStar, AreMoreFactors, IsRationalText, IsTermText}
use Rattle.gf_text.specs.SetText.{AreMoreTerms, IsPolynomialText, AreMorePolynomials, with_variable, with_factor, with_sign, with_numer, with_denom, part_terms}
use Rattle.gf_text.specs.SetText.{next_term, all_of, next_polynomial}
use Rattle.gf_text.specs.Marks.{comma, slash, caret, brace_end}

abbrev Texts : Type 0
Texts = List (List ℕ)

abbrev Sets : Type 0
Sets = List (List WrittenTerm)

-- nothing of a term was read
pub record FreshTerm (p : Part) : Type 0 where
  pub numer : p.numer ≡ 1
  pub denom : p.denom ≡ 1
  pub factors : p.factors ≡ []

-- nothing of a polynomial was read
pub record Fresh (p : Part) : Type 0 where
  pub terms : p.terms ≡ []
  pub plus_sign : p.minus ≡ false
  pub term : FreshTerm p

module _ (ring : List (List ℕ)) where
  -- ---- what is read from each place on

  -- behind a factor: more of the term, more terms, more polynomials, the brace
  pub record Behind (p : Part) (ts : Texts) (ps : Sets) : Type 0 where
    pub factors : Texts
    pub fs : List Factor
    pub terms : Texts
    pub us : List WrittenTerm
    pub polynomials : Texts
    pub qs : Sets
    pub tokens : ts ≡ factors ++ (terms ++ (polynomials ++ brace_end ∷ []))
    pub are_factors : AreMoreFactors ring factors fs
    pub are_terms : AreMoreTerms ring terms us
    pub are_polynomials : AreMorePolynomials ring polynomials qs
    pub all : ps ≡ p.polynomials ++ (p.terms ++ record { minus = p.minus; numer = p.numer; denom = p.denom; factors = p.factors ++ fs } ∷ us) ∷ qs

  -- where a factor is expected: one, and what follows it
  pub record Factored (p : Part) (ts : Texts) (ps : Sets) : Type 0 where
    pub first : Texts
    pub f : Factor
    pub rest : Texts
    pub tokens : ts ≡ first ++ rest
    pub is_factor : IsFactorText ring first f
    pub behind : Behind (record p { factors = p.factors ++ f ∷ [] }) rest ps

  -- behind a name: ^ and an exponent, or nothing for 1
  pub record Named (p : Part) (ts : Texts) (ps : Sets) : Type 0 where
    pub power : Texts
    pub k : ℕ
    pub rest : Texts
    pub tokens : ts ≡ power ++ rest
    pub which : ((power ≡ []) × (k ≡ 1)) ⊎ ((t : List ℕ) × (power ≡ caret ∷ t ∷ []) × IsNumberText t k most_exponent)
    pub behind : Behind (with_factor p k) rest ps

  -- where an exponent is expected
  pub record Powered (p : Part) (ts : Texts) (ps : Sets) : Type 0 where
    pub t : List ℕ
    pub rest : Texts
    pub tokens : ts ≡ t ∷ rest
    pub number : IsNumberText t (decimal_value t) most_exponent
    pub behind : Behind (with_factor p (decimal_value t)) rest ps

  -- behind a numerator: / and a denominator, or nothing
  pub record Numbered (p : Part) (ts : Texts) (ps : Sets) : Type 0 where
    pub over : Texts
    pub d : ℕ
    pub rest : Texts
    pub tokens : ts ≡ over ++ rest
    pub which : ((over ≡ []) × (d ≡ p.denom)) ⊎ ((t : List ℕ) × (over ≡ slash ∷ t ∷ []) × IsNumberText t d most × (0 < d))
    pub behind : Behind (with_denom p d) rest ps

  -- where a denominator is expected
  pub record Divided (p : Part) (ts : Texts) (ps : Sets) : Type 0 where
    pub t : List ℕ
    pub rest : Texts
    pub tokens : ts ≡ t ∷ rest
    pub number : IsNumberText t (decimal_value t) most
    pub nonzero : 0 < decimal_value t
    pub behind : Behind (with_denom p (decimal_value t)) rest ps

  -- where a term is expected: one, more of them, more polynomials, the brace
  pub record Term (p : Part) (ts : Texts) (ps : Sets) : Type 0 where
    pub term : Texts
    pub u : WrittenTerm
    pub terms : Texts
    pub us : List WrittenTerm
    pub polynomials : Texts
    pub qs : Sets
    pub tokens : ts ≡ term ++ (terms ++ (polynomials ++ brace_end ∷ []))
    pub is_term : IsTermText ring term u
    pub its_sign : u.minus ≡ p.minus
    pub are_terms : AreMoreTerms ring terms us
    pub are_polynomials : AreMorePolynomials ring polynomials qs
    pub all : ps ≡ p.polynomials ++ (p.terms ++ u ∷ us) ∷ qs

  -- where a polynomial is expected: one, more of them, the brace
  pub record Polynomial (p : Part) (ts : Texts) (ps : Sets) : Type 0 where
    pub first_texts : Texts
    pub first : List WrittenTerm
    pub polynomials : Texts
    pub qs : Sets
    pub tokens : ts ≡ first_texts ++ (polynomials ++ brace_end ∷ [])
    pub is_polynomial : IsPolynomialText ring first_texts first
    pub are_polynomials : AreMorePolynomials ring polynomials qs
    pub all : ps ≡ p.polynomials ++ first ∷ qs

  -- behind the first brace: the other one, or polynomials
  abbrev pub First : Part → Texts → Sets → Type 0
  First p ts ps = ((ts ≡ brace_end ∷ []) × (ps ≡ p.polynomials)) ⊎ (Fresh p → Polynomial p ts ps)

  -- ---- factors

  -- which variable is open makes no difference
  reopened : (p : Part) (v : ℕ) (ts : Texts) (ps : Sets) → Behind (record p { variable = v }) ts ps → Behind p ts ps
  reopened p v ts ps b = record {
    factors = b.factors;
    fs = b.fs;
    terms = b.terms;
    us = b.us;
    polynomials = b.polynomials;
    qs = b.qs;
    tokens = b.tokens;
    are_factors = b.are_factors;
    are_terms = b.are_terms;
    are_polynomials = b.are_polynomials;
    all = b.all;
  }

  -- a name, and its exponent behind it
  factor_by : (t : List ℕ) (v k : ℕ) (power : Texts) → variable ring t ≡ Some v →
      ((power ≡ []) × (k ≡ 1)) ⊎ ((u : List ℕ) × (power ≡ caret ∷ u ∷ []) × IsNumberText u k most_exponent)
      → IsFactorText ring (t ∷ power) (record { variable = v; exponent = k })
  factor_by t v k power named (inl h) = (t, named, inl (ap (λ l. t ∷ l) h.0, h.1))
  factor_by t v k power named (inr (u, is, number)) = (t, named, inr (u, ap (λ l. t ∷ l) is, number))

  pub one_factor : (p : Part) (t : List ℕ) (v : ℕ) (ts : Texts) (ps : Sets) → variable ring t ≡ Some v → Named (with_variable p v) ts ps →
      Factored p (t ∷ ts) ps
  one_factor p t v ts ps named n = record {
    first = t ∷ n.power;
    f = record { variable = v; exponent = n.k };
    rest = n.rest;
    tokens = ap (λ l. t ∷ l) n.tokens;
    is_factor = factor_by t v n.k n.power named n.which;
    behind = reopened (record p { factors = p.factors ++ record { variable = v; exponent = n.k } ∷ [] }) v n.rest ps n.behind;
  }

  -- a factor behind others, with or without a *
  pub more_factors : (p : Part) (between ts : Texts) (ps : Sets) → IsStar between → Factored p ts ps → Behind p (between ++ ts) ps
  more_factors p between ts ps star_or f =
      let b = f.behind in
      let end = b.terms ++ (b.polynomials ++ brace_end ∷ []) in
      let regrouped : between ++ (f.first ++ (b.factors ++ end)) ≡ (between ++ (f.first ++ b.factors)) ++ end = simp append_assoc in
      record {
        factors = between ++ (f.first ++ b.factors);
        fs = f.f ∷ b.fs;
        terms = b.terms;
        us = b.us;
        polynomials = b.polynomials;
        qs = b.qs;
        tokens = ap (λ l. between ++ l) (f.tokens ∙ ap (λ l. f.first ++ l) b.tokens) ∙ regrouped;
        are_factors = (between, f.first, b.factors, refl, star_or, f.is_factor, b.are_factors);
        are_terms = b.are_terms;
        are_polynomials = b.are_polynomials;
        all = b.all ∙ ap (λ l. p.polynomials ++ (p.terms ++ record { minus = p.minus; numer = p.numer; denom = p.denom; factors = l } ∷ b.us) ∷
            b.qs) (append_assoc p.factors (f.f ∷ []) b.fs);
      }

  -- ---- terms

  -- the term that was read without more factors
  no_more : (p : Part) (us : List WrittenTerm) (qs : Sets)
      → p.polynomials ++ (part_terms p ++ us) ∷ qs ≡ p.polynomials ++ (p.terms ++ record {
        minus = p.minus;
        numer = p.numer;
        denom = p.denom;
        factors = p.factors ++ [];
      } ∷ us) ∷ qs
  no_more p us qs =
      ap (λ l. p.polynomials ++ l ∷ qs) (append_assoc p.terms (record { minus = p.minus; numer = p.numer; denom = p.denom; factors = p.factors } ∷ []) us)
      ∙ ap (λ l. p.polynomials ++ (p.terms ++ record { minus = p.minus; numer = p.numer; denom = p.denom; factors = l } ∷ us) ∷ qs) (sym (append-nil p.factors))

  pub more_terms : (p : Part) (m : Bool) (t : List ℕ) (ts : Texts) (ps : Sets) → t ≡ sign m → Term (next_term p m) ts ps → Behind p (t ∷ ts) ps
  more_terms p m t ts ps is n =
      let end = n.polynomials ++ brace_end ∷ [] in
      record {
        factors = [];
        fs = [];
        terms = sign n.u.minus ∷ (n.term ++ n.terms);
        us = n.u ∷ n.us;
        polynomials = n.polynomials;
        qs = n.qs;
        tokens = ap (λ x. x ∷ ts) (is ∙ ap sign (sym n.its_sign)) ∙ ap (λ l. sign n.u.minus ∷ l) (n.tokens ∙ sym (append_assoc n.term n.terms end));
        are_factors = refl;
        are_terms = (n.term, n.terms, refl, n.is_term, n.are_terms);
        are_polynomials = n.are_polynomials;
        all = n.all ∙ no_more p (n.u ∷ n.us) n.qs;
      }

  pub more_polynomials : (p : Part) (t : List ℕ) (ts : Texts) (ps : Sets) → t ≡ comma → Polynomial (next_polynomial p) ts ps → Behind p (t ∷ ts) ps
  more_polynomials p t ts ps is f = record {
    factors = [];
    fs = [];
    terms = [];
    us = [];
    polynomials = comma ∷ (f.first_texts ++ f.polynomials);
    qs = f.first ∷ f.qs;
    tokens = ap (λ x. x ∷ ts) is ∙ ap (λ l. comma ∷ l) (f.tokens ∙ sym (append_assoc f.first_texts f.polynomials (brace_end ∷ [])));
    are_factors = refl;
    are_terms = refl;
    are_polynomials = (f.first_texts, f.polynomials, refl, f.is_polynomial, f.are_polynomials);
    all = f.all ∙ append_assoc p.polynomials (part_terms p ∷ []) (f.first ∷ f.qs) ∙
        ap (λ l. p.polynomials ++ l ∷ f.first ∷ f.qs) (sym (append-nil (part_terms p))) ∙ no_more p [] (f.first ∷ f.qs);
  }

  pub at_end : (p : Part) (t : List ℕ) (ts : Texts) (ps : Sets) → t ≡ brace_end → ts ≡ [] → ps ≡ all_of p → Behind p (t ∷ ts) ps
  at_end p t ts ps is none e = record {
    factors = [];
    fs = [];
    terms = [];
    us = [];
    polynomials = [];
    qs = [];
    tokens = ap (λ x. x ∷ ts) is ∙ ap (λ l. brace_end ∷ l) none;
    are_factors = refl;
    are_terms = refl;
    are_polynomials = refl;
    all = e ∙ ap (λ l. p.polynomials ++ l ∷ []) (sym (append-nil (part_terms p))) ∙ no_more p [] [];
  }

  -- a term that begins with a factor
  pub factor_term : (p : Part) (ts : Texts) (ps : Sets) → Factored p ts ps → FreshTerm p → Term p ts ps
  factor_term p ts ps f fresh =
      let b = f.behind in
      let end = b.terms ++ (b.polynomials ++ brace_end ∷ []) in
      record {
        term = f.first ++ b.factors;
        u = record { minus = p.minus; numer = 1; denom = 1; factors = f.f ∷ b.fs };
        terms = b.terms;
        us = b.us;
        polynomials = b.polynomials;
        qs = b.qs;
        tokens = f.tokens ∙ ap (λ l. f.first ++ l) b.tokens ∙ sym (append_assoc f.first b.factors end);
        is_term = inr (refl, refl, (f.first, b.factors, refl, f.is_factor, b.are_factors));
        its_sign = refl;
        are_terms = b.are_terms;
        are_polynomials = b.are_polynomials;
        all = b.all
            ∙ ap (λ l. p.polynomials ++ (p.terms ++ record { minus = p.minus; numer = p.numer; denom = p.denom; factors = (l ++ f.f ∷ []) ++ b.fs } ∷ b.us) ∷
            b.qs) fresh.factors
            ∙ ap (λ a. p.polynomials ++ (p.terms ++ record { minus = p.minus; numer = a; denom = p.denom; factors = f.f ∷ b.fs } ∷ b.us) ∷ b.qs) fresh.numer
            ∙ ap (λ a. p.polynomials ++ (p.terms ++ record { minus = p.minus; numer = 1; denom = a; factors = f.f ∷ b.fs } ∷ b.us) ∷ b.qs) fresh.denom;
      }

  -- a number, and its denominator behind it
  rational_by : (t : List ℕ) (d e : ℕ) (over : Texts) → IsNumberText t (decimal_value t) most → e ≡ 1 →
      ((over ≡ []) × (d ≡ e)) ⊎ ((u : List ℕ) × (over ≡ slash ∷ u ∷ []) × IsNumberText u d most × (0 < d))
      → IsRationalText (t ∷ over) (decimal_value t) d
  rational_by t d e over number one (inl h) = inl (t, ap (λ l. t ∷ l) h.0, number, h.1 ∙ one)
  rational_by t d e over number one (inr (u, is, denom, nonzero)) = inr (t, u, ap (λ l. t ∷ l) is, number, denom, nonzero)

  -- a term that begins with a number
  pub number_term : (p : Part) (t : List ℕ) (ts : Texts) (ps : Sets) → IsNumberText t (decimal_value t) most → Numbered (with_numer p (decimal_value t)) ts ps →
      FreshTerm p → Term p (t ∷ ts) ps
  number_term p t ts ps number n fresh =
      let b = n.behind in
      let end = b.terms ++ (b.polynomials ++ brace_end ∷ []) in
      record {
        term = (t ∷ n.over) ++ b.factors;
        u = record { minus = p.minus; numer = decimal_value t; denom = n.d; factors = b.fs };
        terms = b.terms;
        us = b.us;
        polynomials = b.polynomials;
        qs = b.qs;
        tokens = ap (λ l. t ∷ l) (n.tokens ∙ ap (λ l. n.over ++ l) b.tokens) ∙ sym (append_assoc (t ∷ n.over) b.factors end);
        is_term = inl (t ∷ n.over, b.factors, refl, rational_by t n.d p.denom n.over number fresh.denom n.which, b.are_factors);
        its_sign = refl;
        are_terms = b.are_terms;
        are_polynomials = b.are_polynomials;
        all = b.all ∙ ap (λ l. p.polynomials ++ (p.terms ++ record { minus = p.minus; numer = decimal_value t; denom = n.d; factors = l ++ b.fs } ∷ b.us) ∷
            b.qs) fresh.factors;
      }

  -- ---- polynomials

  -- a polynomial that begins with a sign
  pub signed : (p : Part) (m : Bool) (t : List ℕ) (ts : Texts) (ps : Sets) → t ≡ sign m → Term (with_sign p m) ts ps → Fresh p → Polynomial p (t ∷ ts) ps
  signed p m t ts ps is n fresh =
      let end = n.polynomials ++ brace_end ∷ [] in
      record {
        first_texts = (t ∷ []) ++ (n.term ++ n.terms);
        first = n.u ∷ n.us;
        polynomials = n.polynomials;
        qs = n.qs;
        tokens = ap (λ l. t ∷ l) (n.tokens ∙ sym (append_assoc n.term n.terms end));
        is_polynomial = (t ∷ [], n.term, n.terms, refl, inl (ap (λ x. x ∷ []) (is ∙ ap sign (sym n.its_sign))), n.is_term, n.are_terms);
        are_polynomials = n.are_polynomials;
        all = n.all ∙ ap (λ l. p.polynomials ++ (l ++ n.u ∷ n.us) ∷ n.qs) fresh.terms;
      }

  -- and one that begins with none
  pub bare : (p : Part) (ts : Texts) (ps : Sets) → Term p ts ps → Fresh p → Polynomial p ts ps
  bare p ts ps n fresh =
      let end = n.polynomials ++ brace_end ∷ [] in
      record {
        first_texts = [] ++ (n.term ++ n.terms);
        first = n.u ∷ n.us;
        polynomials = n.polynomials;
        qs = n.qs;
        tokens = n.tokens ∙ sym (append_assoc n.term n.terms end);
        is_polynomial = ([], n.term, n.terms, refl, inr (refl, n.its_sign ∙ fresh.plus_sign), n.is_term, n.are_terms);
        are_polynomials = n.are_polynomials;
        all = n.all ∙ ap (λ l. p.polynomials ++ (l ++ n.u ∷ n.us) ∷ n.qs) fresh.terms;
      }
