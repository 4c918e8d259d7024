-- The parts of printed polynomials and sets, one after another.
-- To cite: marked_parts, other_test, members_parts. The rest are steps.
use Rattle.std.proofs.Common.{◌≡◌, ◌<◌, ◌≤◌, ◌-◌, ℕ, zero, suc, List, [], ◌∷◌, ◌++◌, length, take, take_all, drop, get_or, flat_map, refl, sym, ap, ◌∙◌, arith}
use Rattle.std.proofs.Common.{Bool, bytes_eq, if◌then◌else◌}
use Rattle.gf_exponents_theory.specs.Exponents.{Exponents}
use Rattle.gf_poly.specs.declared.Term.{Term}
use Rattle.gf_poly.specs.Polynomial.{Terms, IsDescending, HasVariables, coefficient}
use Rattle.gf_poly.specs.Marking.{MarkedPolynomial, head_of}
use Rattle.gf_poly.proofs.CoefficientLaws.{coefficient-contains}
use Rattle.gf_text.specs.PrintedText.{first_text, later_text}
use Rattle.gf_text.specs.PrintedSets.{other_text, marked_text, members_text}
use Rattle.gf_text.proofs.CombiningLaws.{variables_at_place, same_at}

head_of-get : (f : Terms) (i : ℕ) (d : Term) → i < length f → head_of f i ≡ (get_or f i d).mono
head_of-get [] i d h = absurd (omega arith)
head_of-get (t ∷ f) zero d h = refl
head_of-get (t ∷ f) (suc i) d h = head_of-get f i d (omega arith)

-- the coefficient at the monomial of the term at a place is that term's
coefficient_at : (n : ℕ) (f : Terms) (i : ℕ) (d : Term) → i < length f → HasVariables n f → IsDescending f →
    coefficient f (get_or f i d).mono ≡ (get_or f i d).coef
coefficient_at n f i d h variables descending =
    let t = get_or f i d in
    coefficient-contains n f t variables descending (i, h, same_at f i t d h) (variables_at_place n f i d variables h)

-- the marked term, and then the others
pub marked_parts : (names : List (List ℕ)) (m : MarkedPolynomial) (terms : Terms) (n i : ℕ) (t : Term) (exponents : Exponents)
    → terms ≡ m.poly → t ≡ get_or terms i t → i < length m.poly → HasVariables n m.poly → IsDescending m.poly → head_of m.poly i ≡ m.head → exponents ≡ t.mono
    → first_text names t.coef t.mono ++ flat_map (other_text names exponents) terms ≡ marked_text names m
marked_parts names m terms n i t exponents same is h variables descending head exponents_are =
    let term : t ≡ get_or m.poly i t = is ∙ ap (λ f. get_or f i t) same in
    let mono : t.mono ≡ m.head = ap (λ (s : Term). s.mono) term ∙ sym (head_of-get m.poly i t h) ∙ head in
    let coef : t.coef ≡ coefficient m.poly m.head =
    ap (λ (s : Term). s.coef) term ∙ sym (coefficient_at n m.poly i t h variables descending) ∙ ap (coefficient m.poly)
    (sym (head_of-get m.poly i t h) ∙ head) in
    let start = first_text names (coefficient m.poly m.head) m.head in
    ap (λ c. first_text names c t.mono ++ flat_map (other_text names exponents) terms) coef
    ∙ ap (λ e. first_text names (coefficient m.poly m.head) e ++ flat_map (other_text names exponents) terms) mono
    ∙ ap (λ e. start ++ flat_map (other_text names e) terms) (exponents_are ∙ mono)
    ∙ ap (λ f. start ++ flat_map (other_text names m.head) f) same

-- a term by the test whether it is at the marked monomial
pub other_test : (names : List (List ℕ)) (head es : Exponents) (t : Term) (is_head b : Bool) → es ≡ t.mono → is_head ≡ bytes_eq es head → is_head ≡ b
    → (if b then [] else later_text names t.coef t.mono) ≡ other_text names head t
other_test names head es t is_head b same test is = ap (λ v. if v then [] else later_text names t.coef t.mono) (sym is ∙ test ∙ ap (λ x. bytes_eq x head) same)

-- the first of some polynomials, and the others
pub members_parts : (names : List (List ℕ)) (ms : List MarkedPolynomial) (m : MarkedPolynomial) → m ≡ get_or ms 0 m → 1 ≤ length ms
    → marked_text names m ++ flat_map (λ k. 44 ∷ 10 ∷ marked_text names k) (take (length ms - 1) (drop 1 ms)) ≡ members_text names ms
members_parts names [] m is h = absurd (omega arith)
members_parts names (k ∷ ms) m is h =
    ap (λ l. marked_text names l ++ flat_map (λ n. 44 ∷ 10 ∷ marked_text names n) (take (length (k ∷ ms) - 1) ms)) is
    ∙ ap (λ ls. marked_text names k ++ flat_map (λ n. 44 ∷ 10 ∷ marked_text names n) ls) (take_all (length (k ∷ ms) - 1) ms (omega arith))
