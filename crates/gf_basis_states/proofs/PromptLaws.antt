-- The lines of facets, one more at the end.
-- To cite: lines_more, lines_all. The rest are steps.
use Rattle.std.proofs.Common.{◌≡◌, ℕ, ◌+◌, ◌<◌, ◌≤◌, List, [], ◌∷◌, ◌++◌, length, take, get_or, ℤ, arith, sym, ap, ◌∙◌, append_assoc}
use Rattle.std.proofs.lemmas.List.{take_more, take_all, length-take-le, append-nil}
use Rattle.gf_basis_states.specs.Prompts.{facet_line, facet_lines}

lines-append : (k : ℕ) (ns : List (List ℤ)) (a : List ℤ) → facet_lines k (ns ++ a ∷ []) ≡ facet_lines k ns ++ facet_line (k + length ns) a
lines-append k [] a =
    let there : k ≡ k + length {A = List ℤ} [] = omega arith in
    append-nil (facet_line k a) ∙ ap (λ j. facet_line j a) there
lines-append k (b ∷ ns) a =
    let there : k + 1 + length ns ≡ k + length (b ∷ ns) = omega arith in
    ap (λ (t : List ℕ). facet_line k b ++ t) (lines-append (k + 1) ns a ∙ ap (λ j. facet_lines (k + 1) ns ++ facet_line j a) there)
    ∙ sym (append_assoc (facet_line k b) (facet_lines (k + 1) ns) (facet_line (k + length (b ∷ ns)) a))

-- the line of the next one is added
pub lines_more : (ns : List (List ℤ)) (i : ℕ) (a : List ℤ) (start before after : List ℕ) → i < length ns → a ≡ get_or ns i a →
    before ≡ start ++ facet_lines 0 (take i ns) → after ≡ before ++ facet_line i a → after ≡ start ++ facet_lines 0 (take (i + 1) ns)
lines_more ns i a start before after l e b s =
    let shorter : 0 + length (take i ns) ≡ i = let m = length-take-le i ns (omega (arith, l)) in omega (arith, m) in
    let lines : facet_lines 0 (take (i + 1) ns) ≡ facet_lines 0 (take i ns) ++ facet_line i a =
    ap (facet_lines 0) (take_more ns i a l ∙ ap (λ (x : List ℤ). take i ns ++ x ∷ []) (sym e)) ∙ lines-append 0 (take i ns) a ∙
    ap (λ j. facet_lines 0 (take i ns) ++ facet_line j a) shorter in
    s ∙ ap (λ (t : List ℕ). t ++ facet_line i a) b ∙ append_assoc start (facet_lines 0 (take i ns)) (facet_line i a) ∙
    ap (λ (t : List ℕ). start ++ t) (sym lines)

pub lines_all : (ns : List (List ℤ)) (i : ℕ) (start text : List ℕ) → length ns ≤ i → text ≡ start ++ facet_lines 0 (take i ns) →
    text ≡ start ++ facet_lines 0 ns
lines_all ns i start text l e = e ∙ ap (λ (xs : List (List ℤ)). start ++ facet_lines 0 xs) (take_all i ns l)
