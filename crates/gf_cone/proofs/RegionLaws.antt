-- Regions of weights: what a program keeps of one, the sign at its root, and cones in a region.
-- To cite: sign_told, plain_sign, plain_told, zero_sign, positive_is, positive_wide, region_moved, cone_in_region,
-- flip_told_in, rows_same. The rest are steps.
use Rattle.std.specs.Ordering.{int_cmp, MatchOrdering}
use Rattle.std.specs.Cmp.Lexicographic.{slice_cmp}
use Rattle.std.specs.declared.cmp.Ordering.{Ordering}
use Rattle.std.specs.declared.cmp.Ordering.TheVariants.{Less, Equal}
use Rattle.std.proofs.Common.{◌≡◌, ◌↔◌, ℕ, zero, suc, ◌+◌, ◌*◌, ◌<◌, ◌≤◌, ◌^◌, List, [], ◌∷◌, ◌++◌, length, get_or, drop, replicate, All, ℤ, pos, ◌+ℤ◌, ◌*ℤ◌}
use Rattle.std.proofs.Common.{unsigned_abs, arith, refl, sym, ap, ap₂, ◌∙◌, subst, inl, inr, append_assoc, length-append}
use Rattle.std.proofs.lemmas.Bool.{cases_lt}
use Rattle.std.proofs.lemmas.Int.{ints, unsigned_abs-mul}
use Rattle.std.proofs.lemmas.List.{get_or_default, length-replicate, drop_more}
use Rattle.std.proofs.Math.ListN.{get_or-append}
use Rattle.std.proofs.lemmas.List.Elements.{All-contains, Contains-append_left, Contains-append_cases}
use Rattle.gf_int_theory.proofs.ListLaws.{all_by}
use Rattle.gf_gordan.specs.Sizes.{HaveEntriesUpTo}
use Rattle.gf_facets_theory.specs.Normals.{others_of}
use Rattle.gf_facets_theory.proofs.UnitLaws.{units_wide}
use Rattle.gf_facets_theory.proofs.VectorOrder.{vectors_compare}
use Rattle.gf_vec.specs.Vector.{dot}
use Rattle.gf_vec.specs.RootSign.{sign_or, first_sign, root_sign}
use Rattle.gf_gordan.specs.Alternative.{AreRows}
use Rattle.gf_poly.specs.Marking.{MarkedPolynomial}
use Rattle.gf_facets_theory.specs.Systems.{units}
use Rattle.gf_facets_theory.specs.LexPositive.{rooted, IsNegative, IsBefore}
use Rattle.gf_facets_theory.specs.Regions.{Region, all_positive}
use Rattle.gf_facets_theory.proofs.RootSignLaws.{dot-ones, first-less, less-first}
use Rattle.gf_cone.specs.Cones.{ConeRows, normal_at, other_rows, all_rows, IsConeOf, in_region, HasRowsOf, HasInterior}
use Rattle.gf_cone.specs.Answers.{AnswersFlip, IsFlipToldIn}
use Rattle.gf_cone.specs.declared.answer.FlipAnswer.{FlipAnswer}
use Rattle.gf_cone.proofs.NarrowLaws.{grown}
use Rattle.gf_cone.proofs.AnswerLaws.{flip_told, length-units, others-append, others_all_of, small_others, small_one}

-- ---- the sign

-- Less exactly for the negative vectors
pub sign_told : (r a : List ℤ) (o : Ordering) → o ≡ first_sign (rooted r a) → (o ≡ Less) ↔ IsNegative r a
sign_told r a o e = (λ l. first-less (rooted r a) (sym e ∙ l), λ h. e ∙ less-first (rooted r a) h)

-- at a plain root it is the sum of the entries that counts
pub plain_sign : (r a : List ℤ) → r ≡ replicate (length r) (pos 1) → length a ≡ length r → root_sign a ≡ first_sign (rooted r a)
plain_sign r a e l = sym (ap (λ z. first_sign (z ∷ a)) (ap (dot a) e ∙ dot-ones (length r) a l))

pub plain_told : (j k : Region) (a : List ℤ) (o : Ordering) → j ≡ k → j.root ≡ replicate (length j.root) (pos 1) → length a ≡ length k.root → o ≡ root_sign a →
    o ≡ first_sign (rooted k.root a)
plain_told j k a o q e l r = r ∙ plain_sign k.root a (subst (λ (z : Region). z.root ≡ replicate (length z.root) (pos 1)) q e) l

pub zero_sign : (r a : List ℤ) (d : ℤ) (o : Ordering) → d ≡ dot a r → d ≡ pos 0 → o ≡ first_sign a → o ≡ first_sign (rooted r a)
zero_sign r a d o e z q = q ∙ ap (λ z. sign_or (int_cmp z (pos 0)) (first_sign a)) (sym z ∙ e)

-- ---- what a program keeps

-- all positive vectors, as a program makes them for a number that it reads
pub positive_is : (n m : ℕ) (k : Region) → m ≡ n → k ≡ all_positive m → k ≡ all_positive n
positive_is n m k e q = q ∙ ap all_positive e

pub positive_wide : (n m : ℕ) (k : Region) → m ≡ n → k ≡ all_positive m → length k.root ≡ n
positive_wide n m k e q = ap (λ (z : Region). length z.root) (positive_is n m k e q) ∙ length-replicate n (pos 1)

-- ---- cones in a region

-- the rows of a region are all that a cone knows of it
pub region_moved : (n : ℕ) (j k : Region) (bs : List MarkedPolynomial) (c : ConeRows) → j.rows ≡ k.rows → IsConeOf n j bs c → IsConeOf n k bs c
region_moved n j k bs c e is = record {
  variables = is.variables;
  canonical = is.canonical;
  normals = is.normals;
  beside = is.beside ∙ ap (λ (z : List (List ℤ)). z ++ units n n) e;
}

-- a cone in another region
pub cone_in_region : (n : ℕ) (j k : Region) (bs : List MarkedPolynomial) (c : ConeRows) → IsConeOf n j bs c → IsConeOf n k bs (in_region k c)
cone_in_region n j k bs c is = record {
  variables = is.variables;
  canonical = is.canonical;
  normals = is.normals;
  beside = ap (λ (m : ℕ). k.rows ++ units m m) is.variables;
}

pub flip_told_in : (k : Region) (c : ConeRows) (i : ℕ) → i < length c.normals → AreRows c.variables (all_rows (in_region k c)) → HasInterior (in_region k c) →
    (answer : FlipAnswer) → AnswersFlip (in_region k c) i answer → IsFlipToldIn k c i answer
flip_told_in k c i l wide h answer s n j bs is = flip_told (in_region k c) i l wide h answer s n k bs (cone_in_region n j k bs c is)

-- ---- the system of a normal in a region, as a program makes it

pub region_wide : (k : Region) (c : ConeRows) → AreRows c.variables c.normals → AreRows c.variables k.rows → AreRows c.variables (all_rows (in_region k c))
region_wide k c wide rows = all_by (λ t. length t ≡ c.variables) (all_rows (in_region k c))
    (λ t m. elim (Contains-append_cases c.normals (k.rows ++ units c.variables c.variables) t m) [
      | inl h ↦ All-contains (λ z. length z ≡ c.variables) c.normals t wide h
      | inr h ↦ elim (Contains-append_cases k.rows (units c.variables c.variables) t h) [
        | inl d ↦ All-contains (λ z. length z ≡ c.variables) k.rows t rows d
        | inr d ↦ units_wide c.variables c.variables t d
      ]
    ])

pub system_rows : (k : Region) (c : ConeRows) (i m : ℕ) (given rows more list ns beside : List (List ℤ)) → given ≡ rows → rows ≡ more ++ units m m →
    more ≡ list ++ beside → list ≡ others_of i ns → ns ≡ c.normals → m ≡ c.variables → beside ≡ k.rows → given ≡ other_rows (in_region k c) i
system_rows k c i m given rows more list ns beside e f g h o q b =
    e ∙ f ∙ ap₂ ◌++◌ (g ∙ ap₂ ◌++◌ (h ∙ ap (others_of i) o) b) (ap (λ (j : ℕ). units j j) q) ∙ append_assoc (others_of i c.normals) k.rows
    (units c.variables c.variables)

pub others_of_region : (k : Region) (c : ConeRows) (i : ℕ) → i < length c.normals → AreRows c.variables (all_rows (in_region k c)) →
    AreRows c.variables (other_rows (in_region k c) i)
others_of_region k c i l w = subst (AreRows c.variables) (others-append i c.normals (k.rows ++ units c.variables c.variables) l)
    (others_all_of (λ t. length t ≡ c.variables) (all_rows (in_region k c)) i w)

pub small_system : (b : ℕ) (k : Region) (c : ConeRows) (i : ℕ) → i < length c.normals → HaveEntriesUpTo b (all_rows (in_region k c)) →
    HaveEntriesUpTo b (other_rows (in_region k c) i)
small_system b k c i l h = subst (HaveEntriesUpTo b) (others-append i c.normals (k.rows ++ units c.variables c.variables) l)
    (small_others b i (all_rows (in_region k c)) h)

pub small_normal : (b : ℕ) (k : Region) (c : ConeRows) (i : ℕ) (a : List ℤ) → i < length c.normals → a ≡ normal_at c i →
    HaveEntriesUpTo b (all_rows (in_region k c)) → HaveEntriesUpTo b (a ∷ [])
small_normal b k c i a l e h = small_one b a (subst (All (λ x. unsigned_abs x ≤ b)) (sym e)
    (All-contains (All (λ x. unsigned_abs x ≤ b)) (all_rows (in_region k c)) (normal_at c i) h
    (Contains-append_left c.normals (k.rows ++ units c.variables c.variables) (normal_at c i) (i, l, get_or_default c.normals i _ [] l))))

-- ---- whether a cone was made in a region

-- the first vectors of a list are those of another
abbrev pub AgreeTo : List (List ℤ) → List (List ℤ) → ℕ → Type 0
AgreeTo xs ys i = (j : ℕ) → j < i → get_or xs j [] ≡ get_or ys j []

pub agree_more : (xs ys : List (List ℤ)) (i : ℕ) → AgreeTo xs ys i → get_or xs i [] ≡ get_or ys i [] → AgreeTo xs ys (i + 1)
agree_more xs ys i h e j l = elim (cases_lt j i) [
  | inl s ↦ h j s
  | inr g ↦ (let q : i ≡ j = omega (arith, l, g) in subst (λ (z : ℕ). get_or xs z [] ≡ get_or ys z []) q e)
]

front_same : (xs more ys : List (List ℤ)) → length xs ≡ length ys → AgreeTo (xs ++ more) ys (length ys) → xs ≡ ys
front_same [] more [] e h = refl
front_same [] more (y ∷ ys) e h = absurd (omega (arith, e))
front_same (x ∷ xs) more [] e h = absurd (omega (arith, e))
front_same (x ∷ xs) more (y ∷ ys) e h = ap₂ ◌∷◌ (h zero (omega arith)) (front_same xs more ys (omega (arith, e)) (λ j l. h (suc j) (omega (arith, l))))

pub rows_same : (k : Region) (c : ConeRows) (given rows : List (List ℤ)) → c.beside ≡ given ++ units c.variables c.variables → rows ≡ k.rows →
    length given ≡ length rows → AgreeTo given rows (length rows) → HasRowsOf k c
rows_same k c given rows e f l h n j bs is =
    let wide : AgreeTo c.beside rows (length rows) = subst (λ (z : List (List ℤ)). AgreeTo z rows (length rows)) (sym e)
    (λ i m. get_or-append given (units c.variables c.variables) [] i (omega (arith, l, m)) ∙ h i m) in
    let own : length c.beside ≡ length given + c.variables = ap (λ (z : List (List ℤ)). length z) e ∙ length-append given (units c.variables c.variables) ∙
    ap (λ (m : ℕ). length given + m) (length-units c.variables c.variables) in
    let other : length c.beside ≡ length j.rows + n = ap (λ (z : List (List ℤ)). length z) is.beside ∙ length-append j.rows (units n n) ∙
    ap (λ (m : ℕ). length j.rows + m) (length-units n n) in
    let same : length j.rows ≡ length rows = (let v = is.variables in omega (arith, own, other, l, v)) in
    region_moved n j k bs c (front_same j.rows (units n n) rows same (subst (λ (z : List (List ℤ)). AgreeTo z rows (length rows)) is.beside wide) ∙ f) is

-- ---- the root, as a program reads it

-- the first entries are 1
abbrev pub AreOnesTo : List ℤ → ℕ → Type 0
AreOnesTo xs i = (j : ℕ) → j < i → get_or xs j (pos 0) ≡ pos 1

pub all_ones : (xs : List ℤ) (i : ℕ) → length xs ≤ i → AreOnesTo xs i → xs ≡ replicate (length xs) (pos 1)
all_ones [] i l h = refl
all_ones (x ∷ xs) zero l h = absurd (omega (arith, l))
all_ones (x ∷ xs) (suc i) l h = ap₂ ◌∷◌ (h zero (omega arith)) (all_ones xs i (omega (arith, l)) (λ j m. h (suc j) (omega (arith, m))))

-- the product of numbers up to 2^32 and below 2^63
pub product_small : (x y : ℤ) → unsigned_abs x ≤ 2 ^ 32 → unsigned_abs y < 2 ^ 63 → unsigned_abs (x *ℤ y) ≤ 2 ^ 95
product_small x y l m = (let g : unsigned_abs x * unsigned_abs y ≤ (2 ^ 32) * (2 ^ 63) = grown (unsigned_abs x) (unsigned_abs y) (2 ^ 32) (2 ^ 63) l
    (omega (arith, m)) in omega (arith, g, unsigned_abs-mul x y))

-- one step of the sum
pub dot_step : (xs ys : List ℤ) (i : ℕ) (sum z x y : ℤ) → i < length xs → i < length ys → x ≡ get_or xs i (pos 0) → y ≡ get_or ys i (pos 0) → z ≡ x *ℤ y →
    sum +ℤ dot (drop i xs) (drop i ys) ≡ dot xs ys → (sum +ℤ z) +ℤ dot (drop (i + 1) xs) (drop (i + 1) ys) ≡ dot xs ys
dot_step xs ys i sum z x y l m p q r h = (let e : z ≡ get_or xs i (pos 0) *ℤ get_or ys i (pos 0) = r ∙ ap₂ ◌*ℤ◌ p q in
    let d : dot (drop i xs) (drop i ys) ≡ get_or xs i (pos 0) *ℤ get_or ys i (pos 0) +ℤ dot (drop (i + 1) xs) (drop (i + 1) ys) =
    rw (drop_more xs i (pos 0) l, drop_more ys i (pos 0) m) refl in omega (arith, ints, d, h, e))

pub sum_small : (i : ℕ) (sum z : ℤ) → unsigned_abs sum ≤ i * 2 ^ 95 → unsigned_abs z ≤ 2 ^ 95 → unsigned_abs (sum +ℤ z) ≤ (i + 1) * 2 ^ 95
sum_small i sum z h k = omega (arith, ints, h, k)

pub sum_fits : (i n : ℕ) (z : ℤ) → i < n → n < 2 ^ 32 → unsigned_abs z ≤ (i + 1) * 2 ^ 95 → unsigned_abs z < 2 ^ 127
sum_fits i n z l m h = omega (arith, l, m, h)

pub product_fits : (z : ℤ) → unsigned_abs z ≤ 2 ^ 95 → unsigned_abs z < 2 ^ 127
product_fits z h = omega (arith, h)

pub agree_next : (xs ys : List (List ℤ)) (i : ℕ) (x y : List ℤ) (o : Ordering) → i < length xs → i < length ys → x ≡ get_or xs i x → y ≡ get_or ys i y →
    o ≡ slice_cmp int_cmp x y → o ≡ Equal → AgreeTo xs ys i → AgreeTo xs ys (i + 1)
agree_next xs ys i x y o l m p q r e h = agree_more xs ys i h
    (sym (p ∙ get_or_default xs i x [] l) ∙ subst (λ c. MatchOrdering c (IsBefore x y) (x ≡ y) (IsBefore y x)) (sym r ∙ e) (vectors_compare x y) ∙
    (q ∙ get_or_default ys i y [] m))
