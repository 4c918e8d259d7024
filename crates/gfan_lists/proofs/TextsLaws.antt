-- One, two or three texts, as the code lists them.
-- To cite: one_alone, two_alone, three_alone, count, sources_count. The rest are steps.
use Rattle.std.specs.Prelude.{◌≡◌, ℕ, Bool, true, false, List, [], ◌∷◌, length, get_or, Vec, Option, Some, None, is_some}
use Rattle.std.specs.Global.{Global}
use Rattle.std.proofs.Common.{arith, refl, ap, ◌∙◌}
use Rattle.gf_frame.specs.Origins.{texts_of}
use Rattle.gfan_lists.specs.ListCommand.{list_sources}

pub one_alone : (ts : List (Vec ℕ Global)) (x : Vec ℕ Global) (a : List ℕ) → length ts ≡ 1 → x ≡ get_or ts 0 x → a ≡ x.items → a ∷ [] ≡ texts_of ts
one_alone [] x a e i p = absurd (omega (arith, e))
one_alone (t ∷ []) x a e i p = ap (λ (z : List ℕ). z ∷ []) (p ∙ ap (λ (v : Vec ℕ Global). v.items) i)
one_alone (t ∷ (u ∷ us)) x a e i p = absurd (omega (arith, e))

pub two_alone : (ts : List (Vec ℕ Global)) (x y : Vec ℕ Global) (a b : List ℕ) → length ts ≡ 2 → x ≡ get_or ts 0 x → y ≡ get_or ts 1 y → a ≡ x.items →
    b ≡ y.items → a ∷ (b ∷ []) ≡ texts_of ts
two_alone [] x y a b e i j p q = absurd (omega (arith, e))
two_alone (t ∷ []) x y a b e i j p q = absurd (omega (arith, e))
two_alone (t ∷ (u ∷ [])) x y a b e i j p q =
    ap (λ (z : List ℕ). z ∷ (b ∷ [])) (p ∙ ap (λ (v : Vec ℕ Global). v.items) i)
    ∙ ap (λ (z : List ℕ). t.items ∷ (z ∷ [])) (q ∙ ap (λ (v : Vec ℕ Global). v.items) j)
two_alone (t ∷ (u ∷ (v ∷ vs))) x y a b e i j p q = absurd (omega (arith, e))

pub three_alone : (ts : List (Vec ℕ Global)) (x y z : Vec ℕ Global) (a b c : List ℕ) → length ts ≡ 3 → x ≡ get_or ts 0 x → y ≡ get_or ts 1 y →
    z ≡ get_or ts 2 z → a ≡ x.items → b ≡ y.items → c ≡ z.items → a ∷ (b ∷ (c ∷ [])) ≡ texts_of ts
three_alone [] x y z a b c e i j k p q r = absurd (omega (arith, e))
three_alone (t ∷ []) x y z a b c e i j k p q r = absurd (omega (arith, e))
three_alone (t ∷ (u ∷ [])) x y z a b c e i j k p q r = absurd (omega (arith, e))
three_alone (t ∷ (u ∷ (v ∷ []))) x y z a b c e i j k p q r =
    ap (λ (w : List ℕ). w ∷ (b ∷ (c ∷ []))) (p ∙ ap (λ (s : Vec ℕ Global). s.items) i)
    ∙ ap (λ (w : List ℕ). t.items ∷ (w ∷ (c ∷ []))) (q ∙ ap (λ (s : Vec ℕ Global). s.items) j)
    ∙ ap (λ (w : List ℕ). t.items ∷ (u.items ∷ (w ∷ []))) (r ∙ ap (λ (s : Vec ℕ Global). s.items) k)
three_alone (t ∷ (u ∷ (v ∷ (w ∷ ws)))) x y z a b c e i j k p q r = absurd (omega (arith, e))

-- how many sources a list has
abbrev pub count : (in_region after_basis : Bool) → ℕ
count false false = 1
count false true = 2
count true false = 2
count true true = 3

pub sources_count : (within after : Option (List ℕ)) → length (list_sources within after) ≡ count (is_some within) (is_some after)
sources_count None None = refl
sources_count None (Some a) = refl
sources_count (Some w) None = refl
sources_count (Some w) (Some a) = refl
