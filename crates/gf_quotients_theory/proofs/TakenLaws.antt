-- What a power of a monomial takes into an ideal.
-- To cite: powered-sum, taken, spans_more, powered-up, powered-none, powered-least, traded.
use Rattle.std.proofs.Common.{◌≡◌, ℕ, zero, suc, ◌+◌, ◌≤◌, List, [], ◌∷◌, ◌++◌, Contains, arith, refl, sym, ap, ◌∙◌}
use Rattle.gf_frac.specs.Fraction.{Fraction, ◌+ℚ◌, ◌*ℚ◌, neg_ℚ, one_ℚ}
use Rattle.gf_frac.proofs.FractionLaws.{+ℚ-zero, *ℚ_comm, one-*ℚ, +ℚ-neg_ℚ, +ℚ-middle}
use Rattle.gf_exponents_theory.specs.Exponents.{Exponents, entry, plus, minus}
use Rattle.gf_exponents_theory.proofs.ExponentsLaws.{same_by_entries, entry-plus, entry-minus, plus_assoc, plus_comm}
use Rattle.gf_poly.specs.declared.Term.{Term}
use Rattle.gf_poly.specs.Polynomial.{Terms, coefficient, SamePolynomial, times}
use Rattle.gf_poly.proofs.PolynomialLaws.{coefficient-++, coefficient-factor, SamePolynomial-times, times-times, times-plain, times-++}
use Rattle.gf_poly.proofs.MergeLaws.{swap_first}
use Rattle.gf_ideal_theory.specs.Membership.{Spans}
use Rattle.gf_ideal_theory.proofs.Identities.{neg_one, turned}
use Rattle.gf_ideal_theory.proofs.SpanLaws.{Spans-equal, Spans-zero, Spans-++, Spans-times, Spans-difference}
use Rattle.gf_ideal_theory.proofs.SettledLaws.{twice}
use Rattle.gf_saturation_theory.specs.Saturations.{powered}
use Rattle.gf_saturation_theory.proofs.SaturationLaws.{times_same}
use Rattle.gf_quotients_theory.specs.Ways.{difference}

pub powered-sum : (j p : ℕ) (u : Exponents) → plus (powered j u) (powered p u) ≡ powered (j + p) u
powered-sum zero p u = let e : p ≡ 0 + p = omega arith in ap (λ z. powered z u) e
powered-sum (suc j) p u =
    let e : suc (j + p) ≡ suc j + p = omega arith in plus_assoc u (powered j u) (powered p u) ∙ ap (plus u) (powered-sum j p u) ∙ ap (λ z. powered z u) e

pub powered-up : (p : ℕ) (v : Exponents) (i : ℕ) → 1 ≤ entry v i → p ≤ entry (powered p v) i
powered-up zero v i l = omega arith
powered-up (suc p) v i l = omega (arith, l, entry-plus v (powered p v) i, powered-up p v i l)

pub powered-none : (p : ℕ) (v : Exponents) (i : ℕ) → entry v i ≡ 0 → entry (powered p v) i ≡ 0
powered-none zero v i l = refl
powered-none (suc p) v i l = omega (arith, l, entry-plus v (powered p v) i, powered-none p v i l)

pub powered-least : (p : ℕ) (x y : Exponents) (i : ℕ) → entry x i ≤ entry y i → entry (powered p x) i ≤ entry (powered p y) i
powered-least zero x y i l = omega arith
powered-least (suc p) x y i l = omega (arith, l, entry-plus x (powered p x) i, entry-plus y (powered p y) i, powered-least p x y i l)

-- ---- what is taken in

-- some power of u times f is spanned
pub record IsTaken (u : Exponents) (fs : List Terms) (f : Terms) : Type 0 where
  pub by : ℕ
  pub spans : Spans fs (times one_ℚ (powered by u) f)

pub taken : (u : Exponents) (fs ds : List Terms) → ((d : Terms) → Contains ds d → IsTaken u fs d) → (f : Terms) → Spans ds f → IsTaken u fs f
taken u fs ds h f (Spans.none g z) = record { by = 0; spans = Spans.none (times one_ℚ [] f) (SamePolynomial-times one_ℚ [] f [] z) }
taken u fs ds h f (Spans.more c w p z g j s e) = at (h p j) (taken u fs ds h g s)
  where
    at : IsTaken u fs p → IsTaken u fs g → IsTaken u fs f
    at a r = record {
      by = a.by + r.by;
      spans =
          Spans-equal fs (times c (plus w (powered r.by u)) (times one_ℚ (powered a.by u) p) ++ times one_ℚ (powered a.by u)
          (times one_ℚ (powered r.by u) g)) (times one_ℚ (powered (a.by + r.by) u) f) (λ x. sym (equal x))
          (Spans-++ fs (times c (plus w (powered r.by u)) (times one_ℚ (powered a.by u) p)) (times one_ℚ (powered a.by u) (times one_ℚ (powered r.by u) g))
          (Spans-times fs (times one_ℚ (powered a.by u) p) c (plus w (powered r.by u)) a.spans)
          (Spans-times fs (times one_ℚ (powered r.by u) g) one_ℚ (powered a.by u) r.spans));
    }
      where
        t : Exponents
        t = powered (a.by + r.by) u

        lists : plus t w ≡ plus (plus w (powered r.by u)) (powered a.by u)
        lists =
            plus_comm t w
            ∙ ap (plus w) (sym (powered-sum a.by r.by u) ∙ plus_comm (powered a.by u) (powered r.by u))
            ∙ sym (plus_assoc w (powered r.by u) (powered a.by u))

        first : times one_ℚ t (times c w p) ≡ times c (plus w (powered r.by u)) (times one_ℚ (powered a.by u) p)
        first =
            sym (times-times one_ℚ c t w p)
            ∙ ap (λ z. times z (plus t w) p) (*ℚ_comm one_ℚ c)
            ∙ ap (λ z. times (c *ℚ one_ℚ) z p) lists
            ∙ times-times c one_ℚ (plus w (powered r.by u)) (powered a.by u) p

        second : times one_ℚ t g ≡ times one_ℚ (powered a.by u) (times one_ℚ (powered r.by u) g)
        second =
            ap (λ z. times one_ℚ z g) (sym (powered-sum a.by r.by u))
            ∙ ap (λ z. times z (plus (powered a.by u) (powered r.by u)) g) (sym (one-*ℚ one_ℚ))
            ∙ times-times one_ℚ one_ℚ (powered a.by u) (powered r.by u) g

        equal : SamePolynomial (times one_ℚ t f)
            (times c (plus w (powered r.by u)) (times one_ℚ (powered a.by u) p) ++ times one_ℚ (powered a.by u) (times one_ℚ (powered r.by u) g))
        equal x =
            SamePolynomial-times one_ℚ t f (times c w p ++ g) e x
            ∙ ap (λ z. coefficient z x) (times-++ one_ℚ t (times c w p) g)
            ∙ ap (λ z. coefficient (z ++ times one_ℚ t g) x) first
            ∙ ap (λ z. coefficient (times c (plus w (powered r.by u)) (times one_ℚ (powered a.by u) p) ++ z) x) second

-- ---- multiples

-- by more of each variable
pub spans_more : (gs : List Terms) (f : Terms) (x y : Exponents) → ((i : ℕ) → entry x i ≤ entry y i) → Spans gs (times one_ℚ x f) → Spans gs (times one_ℚ y f)
spans_more gs f x y l s = Spans-equal gs (times one_ℚ d (times one_ℚ x f)) (times one_ℚ y f)
    (λ e. ap (λ g. coefficient g e) (sym (twice d x f))
    ∙ times_same one_ℚ (plus d x) y f (same_by_entries (plus d x) y (λ i. omega (arith, entry-plus d x i, entry-minus y x i, l i))) e)
    (Spans-times gs (times one_ℚ x f) one_ℚ d s)
  where
    d : Exponents
    d = minus y x

-- ---- one monomial for another, where their difference is in the ideal

-- f times the difference
differences : (gs : List Terms) (a b : Exponents) → Spans gs (difference a b) → (f : Terms) → Spans gs (times one_ℚ a f ++ times (neg_ℚ one_ℚ) b f)
differences gs a b s [] = Spans-zero gs
differences gs a b s (t ∷ f) = Spans-equal gs (times t.coef t.mono (difference a b) ++ (P ++ Q)) ((l ∷ P) ++ (r ∷ Q)) equal
    (Spans-++ gs (times t.coef t.mono (difference a b)) (P ++ Q) (Spans-times gs (difference a b) t.coef t.mono s) (differences gs a b s f))
  where
    l : Term
    l = record { coef = one_ℚ *ℚ t.coef; mono = plus a t.mono }

    r : Term
    r = record { coef = neg_ℚ one_ℚ *ℚ t.coef; mono = plus b t.mono }

    two : times t.coef t.mono (difference a b) ≡ l ∷ r ∷ []
    two =
        ap (λ c. record { coef = c; mono = plus t.mono a } ∷ record { coef = t.coef *ℚ neg_ℚ one_ℚ; mono = plus t.mono b } ∷ []) (*ℚ_comm t.coef one_ℚ)
        ∙ ap (λ x. record { coef = one_ℚ *ℚ t.coef; mono = x } ∷ record { coef = t.coef *ℚ neg_ℚ one_ℚ; mono = plus t.mono b } ∷ []) (plus_comm t.mono a)
        ∙ ap (λ c. l ∷ record { coef = c; mono = plus t.mono b } ∷ []) (*ℚ_comm t.coef (neg_ℚ one_ℚ))
        ∙ ap (λ x. l ∷ record { coef = neg_ℚ one_ℚ *ℚ t.coef; mono = x } ∷ []) (plus_comm t.mono b)

    P : Terms
    P = times one_ℚ a f

    Q : Terms
    Q = times (neg_ℚ one_ℚ) b f

    equal : SamePolynomial (times t.coef t.mono (difference a b) ++ (P ++ Q)) ((l ∷ P) ++ (r ∷ Q))
    equal e =
        ap (λ z. coefficient (z ++ (P ++ Q)) e) two
        ∙ coefficient-++ (l ∷ r ∷ []) (P ++ Q) e
        ∙ ap (λ z. coefficient (l ∷ r ∷ []) e +ℚ z) (coefficient-++ P Q e)
        ∙ ap (λ z. z +ℚ (coefficient P e +ℚ coefficient Q e)) (coefficient-++ (l ∷ []) (r ∷ []) e)
        ∙ +ℚ-middle _ _ _ _
        ∙ ap (λ z. z +ℚ (coefficient (r ∷ []) e +ℚ coefficient Q e)) (sym (coefficient-++ (l ∷ []) P e))
        ∙ ap (λ z. coefficient (l ∷ P) e +ℚ z) (sym (coefficient-++ (r ∷ []) Q e))
        ∙ sym (coefficient-++ (l ∷ P) (r ∷ Q) e)

traded_one : (gs : List Terms) (a b : Exponents) (f : Terms) → Spans gs (difference a b) → Spans gs (times one_ℚ a f) → Spans gs (times one_ℚ b f)
traded_one gs a b f r s =
    Spans-equal gs (times one_ℚ a f ++ times (neg_ℚ one_ℚ) [] d) (times one_ℚ b f) equal (Spans-difference gs (times one_ℚ a f) d s (differences gs a b r f))
  where
    d : Terms
    d = times one_ℚ a f ++ times (neg_ℚ one_ℚ) b f

    parts : (x y : Fraction) → x ≡ y +ℚ (x +ℚ neg_ℚ y)
    parts x y = sym (+ℚ-zero x) ∙ ap (λ z. x +ℚ z) (sym (+ℚ-neg_ℚ y)) ∙ swap_first x y (neg_ℚ y)

    all : (e : Exponents) → coefficient (times one_ℚ a f) e ≡ coefficient (times one_ℚ b f) e +ℚ coefficient d e
    all e =
        parts (coefficient (times one_ℚ a f) e) (coefficient (times one_ℚ b f) e)
        ∙ ap (λ z. coefficient (times one_ℚ b f) e +ℚ z)
        (sym (coefficient-++ (times one_ℚ a f) (times (neg_ℚ one_ℚ) b f) e
        ∙ ap (λ z. coefficient (times one_ℚ a f) e +ℚ z) (coefficient-factor (neg_ℚ one_ℚ) b f e ∙ neg_one (coefficient (times one_ℚ b f) e))))

    equal : SamePolynomial (times one_ℚ a f ++ times (neg_ℚ one_ℚ) [] d) (times one_ℚ b f)
    equal e =
        coefficient-++ (times one_ℚ a f) (times (neg_ℚ one_ℚ) [] d) e
        ∙ ap (λ z. coefficient (times one_ℚ a f) e +ℚ z) (coefficient-factor (neg_ℚ one_ℚ) [] d e ∙ ap (λ g. neg_ℚ one_ℚ *ℚ coefficient g e) (times-plain d))
        ∙ sym (turned (coefficient (times one_ℚ a f) e) (coefficient (times one_ℚ b f) e) (coefficient d e) (all e))

-- so too of powers
pub traded : (gs : List Terms) (a b : Exponents) (p : ℕ) (u : Exponents) (f : Terms) → Spans gs (difference a b) →
    Spans gs (times one_ℚ (plus (powered p a) u) f) → Spans gs (times one_ℚ (plus (powered p b) u) f)
traded gs a b zero u f r s = s
traded gs a b (suc p) u f r s = spans_more gs f (plus (powered p b) (plus b u)) (plus (plus b (powered p b)) u)
    (λ i. omega (arith, entry-plus (powered p b) (plus b u) i, entry-plus b u i, entry-plus (plus b (powered p b)) u i, entry-plus b (powered p b) i))
    (traded gs a b p (plus b u) f r
    (spans_more gs f (plus b (plus (powered p a) u)) (plus (powered p a) (plus b u))
    (λ i. omega (arith, entry-plus b (plus (powered p a) u) i, entry-plus (powered p a) u i, entry-plus (powered p a) (plus b u) i, entry-plus b u i))
    (onto b (traded_one gs a b (times one_ℚ (plus (powered p a) u) f) r (from a s)))))
  where
    onto : (c : Exponents) → Spans gs (times one_ℚ c (times one_ℚ (plus (powered p a) u) f)) → Spans gs (times one_ℚ (plus c (plus (powered p a) u)) f)
    onto c k =
        Spans-equal gs (times one_ℚ c (times one_ℚ (plus (powered p a) u) f)) (times one_ℚ (plus c (plus (powered p a) u)) f)
        (λ e. ap (λ z. coefficient z e) (sym (twice c (plus (powered p a) u) f))) k

    from : (c : Exponents) → Spans gs (times one_ℚ (plus (plus c (powered p a)) u) f) → Spans gs (times one_ℚ c (times one_ℚ (plus (powered p a) u) f))
    from c k = Spans-equal gs (times one_ℚ (plus (plus c (powered p a)) u) f) (times one_ℚ c (times one_ℚ (plus (powered p a) u) f))
        (λ e. ap (λ y. coefficient (times one_ℚ y f) e) (plus_assoc c (powered p a) u) ∙ ap (λ z. coefficient z e) (twice c (plus (powered p a) u) f)) k
