-- Divided polynomials.
use Rattle.std.proofs.Common.{◌≡◌, ℕ, zero, suc, ◌+◌, ◌<◌, ◌≤◌, [], ◌∷◌, map, take, length, get_or, arith, refl, sym, ap, subst, ◌∙◌}
use Rattle.gf_frac.specs.Fraction.{one_ℚ}
use Rattle.gf_frac.proofs.FractionLaws.{one-*ℚ}
use Rattle.gf_exponents_theory.specs.Exponents.{Exponents, entry, plus, minus, join, Divides}
use Rattle.gf_exponents_theory.specs.Orders.{deglex}
use Rattle.gf_exponents_theory.proofs.ExponentsLaws.{entry-plus, entry-minus, entry-join, same_lists}
use Rattle.gf_poly.specs.declared.Term.{Term}
use Rattle.gf_poly.specs.Polynomial.{Terms, HasVariables, IsAbove, IsDescending, times}
use Rattle.gf_poly.specs.Marking.{Each}
use Rattle.gf_poly.proofs.MonomialLaws.{length-minus, length-join, length-plus, divides_by_entries}
use Rattle.gf_poly.proofs.ProductLaws.{deglex-plus}
use Rattle.gf_dividing.specs.Dividing.{DividesAll, divided_term}

whole : (u x : Exponents) → length u ≡ length x → ((k : ℕ) → entry u k ≤ entry x k) → plus u (minus x u) ≡ x
whole u x l h =
    same_lists (plus u (minus x u)) x (length-plus u (minus x u) (l ∙ sym (length-minus x u (sym l)))
    ∙ l) (λ k. omega (arith, h k, entry-plus u (minus x u) k, entry-minus x u k))

pub divided_back : (n : ℕ) (u : Exponents) (f : Terms) → length u ≡ n → HasVariables n f → DividesAll u f → times one_ℚ u (map (divided_term u) f) ≡ f
divided_back n u [] l v h = refl
divided_back n u (t ∷ f) l v h =
    ap (λ c. record { coef = c; mono = plus u (minus t.mono u) } ∷ times one_ℚ u (map (divided_term u) f)) (one-*ℚ t.coef)
    ∙ ap (λ x. record { coef = t.coef; mono = x } ∷ times one_ℚ u (map (divided_term u) f)) (whole u t.mono (l ∙ sym v.0) h.0)
    ∙ ap (λ z. t ∷ z) (divided_back n u f l v.1 h.1)

pub divided_variables : (n : ℕ) (u : Exponents) (f : Terms) → length u ≡ n → HasVariables n f → HasVariables n (map (divided_term u) f)
divided_variables n u [] l v = tt
divided_variables n u (t ∷ f) l v = (length-minus t.mono u (v.0 ∙ sym l) ∙ v.0, divided_variables n u f l v.1)

deglex-minus : (u x y : Exponents) → length u ≡ length x → length x ≡ length y → ((k : ℕ) → entry u k ≤ entry x k) → ((k : ℕ) → entry u k ≤ entry y k) →
    deglex (minus x u) (minus y u) ≡ deglex x y
deglex-minus u x y l m hx hy =
    sym (deglex-plus u (minus x u) (minus y u) (l ∙ sym (length-minus x u (sym l))) (length-minus x u (sym l) ∙ m ∙ sym (length-minus y u (sym m ∙ sym l))))
    ∙ ap (λ z. deglex z (plus u (minus y u))) (whole u x l hx)
    ∙ ap (deglex x) (whole u y (l ∙ m) hy)

divided_above : (n : ℕ) (u x : Exponents) (f : Terms) → length u ≡ n → length x ≡ n → ((k : ℕ) → entry u k ≤ entry x k) → HasVariables n f → DividesAll u f →
    IsAbove x f → IsAbove (minus x u) (map (divided_term u) f)
divided_above n u x [] l m hx v h a = tt
divided_above n u x (t ∷ f) l m hx v h a = (deglex-minus u x t.mono (l ∙ sym m) (m ∙ sym v.0) hx h.0 ∙ a.0, divided_above n u x f l m hx v.1 h.1 a.1)

pub divided_descending : (n : ℕ) (u : Exponents) (f : Terms) → length u ≡ n → HasVariables n f → DividesAll u f → IsDescending f →
    IsDescending (map (divided_term u) f)
divided_descending n u [] l v h d = tt
divided_descending n u (t ∷ f) l v h d = (d.0, divided_above n u t.mono f l v.0 h.0 v.1 h.1 d.1, divided_descending n u f l v.1 h.1 d.2)

-- ---- what two share

pub shared_divides : (x y : Exponents) → Divides y (join x y)
shared_divides x y = divides_by_entries y (join x y) (λ k. omega (arith, entry-join x y k))

pub rest_divides : (x y : Exponents) → Divides (minus (join x y) y) x
rest_divides x y = divides_by_entries (minus (join x y) y) x (λ k. omega (arith, entry-minus (join x y) y k, entry-join x y k))

pub rest_long : (x y : Exponents) → length x ≡ length y → length (minus (join x y) y) ≡ length x
rest_long x y l = length-minus (join x y) y (length-join x y l ∙ l) ∙ length-join x y l

pub shared_left : (x y : Exponents) (k : ℕ) → entry (minus x (minus (join x y) y)) k ≤ entry x k
shared_left x y k = omega (arith, entry-minus x (minus (join x y) y) k)

pub shared_greatest : (x y : Exponents) (j k : ℕ) → j ≤ entry x k → j ≤ entry y k → j ≤ entry (minus x (minus (join x y) y)) k
shared_greatest x y j k l m =
    omega (arith, l, m, entry-minus x (minus (join x y) y) k, entry-minus (join x y) y k, entry-join x y k)

pub shared_right : (x y : Exponents) (k : ℕ) → entry (minus x (minus (join x y) y)) k ≤ entry y k
shared_right x y k = omega (arith, entry-minus x (minus (join x y) y) k, entry-minus (join x y) y k, entry-join x y k)

-- ---- what holds of the first ones

each_next : (P : Term → Type 0) (f : Terms) (i : ℕ) (t : Term) → i < length f → t ≡ get_or f i t → Each P (take i f) → P t → Each P (take (suc i) f)
each_next P [] i t l e h p = absurd (omega (arith, l))
each_next P (s ∷ f) zero t l e h p = (subst P e p, tt)
each_next P (s ∷ f) (suc i) t l e h p = (h.0, each_next P f i t (omega (arith, l)) e h.1 p)

pub each_more : (P : Term → Type 0) (f : Terms) (i : ℕ) (t : Term) → i < length f → t ≡ get_or f i t → Each P (take i f) → P t → Each P (take (i + 1) f)
each_more P f i t l e h p = let n : suc i ≡ i + 1 = omega arith in subst (λ j. Each P (take j f)) n (each_next P f i t l e h p)

pub each_weaker : (P Q : Term → Type 0) (f : Terms) → ((t : Term) → P t → Q t) → Each P f → Each Q f
each_weaker P Q [] w h = tt
each_weaker P Q (t ∷ f) w h = (w t h.0, each_weaker P Q f w h.1)

pub each_all : (P : Term → Type 0) (f : Terms) (i : ℕ) → length f ≤ i → Each P (take i f) → Each P f
each_all P [] i l h = tt
each_all P (t ∷ f) zero l h = absurd (omega (arith, l))
each_all P (t ∷ f) (suc i) l h = (h.0, each_all P f i (omega (arith, l)) h.1)

pub each_at : (P : Term → Type 0) (f : Terms) (i : ℕ) (t : Term) → i < length f → t ≡ get_or f i t → Each P f → P t
each_at P [] i t l e h = absurd (omega (arith, l))
each_at P (s ∷ f) zero t l e h = subst P (sym e) h.0
each_at P (s ∷ f) (suc i) t l e h = each_at P f i t (omega (arith, l)) e h.1

front_next : (P : Term → Type 0) (f : Terms) (i : ℕ) → Each P (take (suc i) f) → Each P (take i f)
front_next P [] i h = each_none P i
  where
    each_none : (P : Term → Type 0) (i : ℕ) → Each P (take i [])
    each_none P zero = tt
    each_none P (suc i) = tt
front_next P (t ∷ f) zero h = tt
front_next P (t ∷ f) (suc i) h = (h.0, front_next P f i h.1)

pub each_front : (P : Term → Type 0) (f : Terms) (i : ℕ) → Each P (take (i + 1) f) → Each P (take i f)
each_front P f i h = let n : i + 1 ≡ suc i = omega arith in front_next P f i (subst (λ j. Each P (take j f)) n h)

last_next : (P : Term → Type 0) (f : Terms) (i : ℕ) (t : Term) → i < length f → t ≡ get_or f i t → Each P (take (suc i) f) → P t
last_next P [] i t l e h = absurd (omega (arith, l))
last_next P (s ∷ f) zero t l e h = subst P (sym e) h.0
last_next P (s ∷ f) (suc i) t l e h = last_next P f i t (omega (arith, l)) e h.1

pub each_last : (P : Term → Type 0) (f : Terms) (i : ℕ) (t : Term) → i < length f → t ≡ get_or f i t → Each P (take (i + 1) f) → P t
each_last P f i t l e h = let n : i + 1 ≡ suc i = omega arith in last_next P f i t l e (subst (λ j. Each P (take j f)) n h)
