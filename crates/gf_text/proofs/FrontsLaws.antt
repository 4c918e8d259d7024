-- How much texts have in common at their fronts.
-- To cite: known_exactly, known_least; front_short, front_short_right, front_on; front_ends, front_steps, front_over; front_starts; with_next, none_yet,
-- one_more. The rest are steps.
use Rattle.std.proofs.Common.{◌≡◌, ◌≢◌, ◌<◌, ◌≤◌, ℕ, zero, suc, ◌+◌, ◌-◌, List, [], ◌∷◌, ◌++◌, length, drop, nat_eq, get_or, refl, sym}
use Rattle.std.proofs.Common.{ap, ◌∙◌, inl, inr, arith, subst, min, replicate, set, length-append, length-drop}
use Rattle.std.proofs.Math.Dec.{eqb-zero-suc, eqb-suc-suc}
use Rattle.std.proofs.lemmas.Bool.Decides.{eqb_tells}
use Rattle.std.proofs.lemmas.List.{drop-drop, get_or_append_left, get_or_push, get_or-set_same, get_or-set_other}
use Rattle.std.specs.List.{starts_with}
use Rattle.gf_text.specs.declared.fronts.Found.{Found}
use Rattle.gf_text.specs.Fronts.{common_front, IsTable, IsFound, AreFound, nowhere}

-- ---- what two numbers are

front_same : (a b : ℕ) (x y : List ℕ) → a ≡ b → common_front (a ∷ x) (b ∷ y) ≡ suc (common_front x y)
front_same a b x y e = elim (eqb_tells a b) [ inl k ↦ rw (k.0) refl | inr k ↦ absurd (k.1 e) ]

front_other : (a b : ℕ) (x y : List ℕ) → a ≢ b → common_front (a ∷ x) (b ∷ y) ≡ 0
front_other a b x y e = elim (eqb_tells a b) [ inl k ↦ absurd (e k.1) | inr k ↦ rw (k.0) refl ]

-- ---- a front is no longer than the text

pub front_short : (x y : List ℕ) → common_front x y ≤ length x
front_short [] y = omega arith
front_short (a ∷ x) [] = omega arith
front_short (a ∷ x) (b ∷ y) = elim (eqb_tells a b) [
  | inl k ↦ let here = front_same a b x y k.1 in let later = front_short x y in omega arith
  | inr k ↦ let here = front_other a b x y k.1 in omega arith
]

pub front_short_right : (x y : List ℕ) → common_front x y ≤ length y
front_short_right [] y = omega arith
front_short_right (a ∷ x) [] = omega arith
front_short_right (a ∷ x) (b ∷ y) = elim (eqb_tells a b) [
  | inl k ↦ let here = front_same a b x y k.1 in let later = front_short_right x y in omega arith
  | inr k ↦ let here = front_other a b x y k.1 in omega arith
]

-- ---- the fronts of three texts

-- where x leaves y before z does, it leaves z there
same_front : (x y z : List ℕ) (m : ℕ) → m ≤ common_front y z → common_front x y < m → common_front x z ≡ common_front x y
same_front [] y z m far near = refl
same_front (a ∷ x) [] z m far near = absurd (omega arith)
same_front (a ∷ x) (b ∷ y) [] m far near = absurd (omega arith)
same_front (a ∷ x) (b ∷ y) (c ∷ z) m far near = elim (eqb_tells b c) [
  | inl k ↦ elim (eqb_tells a b) [
    | inl l ↦
        let xy = front_same a b x y l.1 in
        let yz = front_same b c y z k.1 in
        let xz = front_same a c x z (l.1 ∙ k.1) in
        let later = same_front x y z (m - 1) (omega arith) (omega arith) in
        omega arith
    | inr l ↦
        let xy = front_other a b x y l.1 in
        let xz = front_other a c x z (λ e. l.1 (e ∙ sym k.1)) in
        omega arith
  ]
  | inr k ↦ let yz = front_other b c y z k.1 in absurd (omega arith)
]

-- where x goes with y as far as y does with z, it goes with z as far
long_front : (x y z : List ℕ) (m : ℕ) → m ≤ common_front y z → m ≤ common_front x y → m ≤ common_front x z
long_front [] y z m far near = omega arith
long_front (a ∷ x) [] z m far near = omega arith
long_front (a ∷ x) (b ∷ y) [] m far near = omega arith
long_front (a ∷ x) (b ∷ y) (c ∷ z) m far near = elim (eqb_tells b c) [
  | inl k ↦ elim (eqb_tells a b) [
    | inl l ↦
        let xy = front_same a b x y l.1 in
        let yz = front_same b c y z k.1 in
        let xz = front_same a c x z (l.1 ∙ k.1) in
        let later = long_front x y z (m - 1) (omega arith) (omega arith) in
        omega arith
    | inr l ↦ let xy = front_other a b x y l.1 in omega arith
  ]
  | inr k ↦ let yz = front_other b c y z k.1 in omega arith
]

-- what texts have in common behind a part of their front
inside_front : (d : ℕ) (x y : List ℕ) → common_front x y - d ≤ common_front (drop d x) (drop d y)
inside_front zero x y = omega arith
inside_front (suc d) [] y = omega arith
inside_front (suc d) (a ∷ x) [] = omega arith
inside_front (suc d) (a ∷ x) (b ∷ y) = elim (eqb_tells a b) [
  | inl k ↦ let here = front_same a b x y k.1 in let later = inside_front d x y in omega arith
  | inr k ↦ let here = front_other a b x y k.1 in omega arith
]

-- a front goes on behind a part of it
goes_on : (m : ℕ) (x y : List ℕ) → m ≤ common_front x y → m + common_front (drop m x) (drop m y) ≡ common_front x y
goes_on zero x y h = omega arith
goes_on (suc m) [] y h = absurd (omega arith)
goes_on (suc m) (a ∷ x) [] h = absurd (omega arith)
goes_on (suc m) (a ∷ x) (b ∷ y) h = elim (eqb_tells a b) [
  | inl k ↦ let here = front_same a b x y k.1 in let later = goes_on m x y (omega arith) in omega arith
  | inr k ↦ let here = front_other a b x y k.1 in absurd (omega arith)
]

-- ---- what is known of a place

-- what is found, of a place inside it
known_inside : (name source : List ℕ) (found : Found) (at : ℕ) → IsFound name source found → found.at ≤ at →
    found.size - (at - found.at) ≤ common_front (drop (at - found.at) name) (drop at source)
known_inside name source found at is behind =
    let places : found.at + (at - found.at) ≡ at = omega arith in
    let rest : drop (at - found.at) (drop found.at source) ≡ drop at source = drop-drop (at - found.at) found.at source ∙ ap (λ n. drop n source) places in
    let inside : common_front name (drop found.at source) - (at - found.at) ≤ common_front (drop (at - found.at) name) (drop at source) =
    subst (λ t. common_front name (drop found.at source) - (at - found.at) ≤ common_front (drop (at - found.at) name) t) rest
    (inside_front (at - found.at) name (drop found.at source)) in
    omega (arith, is, inside)

pub known_exactly : (name source table : List ℕ) (found : Found) (at k : ℕ) → IsTable name table → IsFound name source found → found.at ≤ at →
    at - found.at < length table → get_or table (at - found.at) 0 ≡ k → k < found.size - (at - found.at) → common_front name (drop at source) ≡ k
known_exactly name source table found at k is_table is behind within has less =
    let d = at - found.at in
    let value : k ≡ common_front name (drop d name) = sym has ∙ is_table d within in
    same_front name (drop d name) (drop at source) (found.size - d) (known_inside name source found at is behind) (rw (← value) less) ∙ sym value

pub known_least : (name source table : List ℕ) (found : Found) (at k : ℕ) → IsTable name table → IsFound name source found → found.at ≤ at →
    at - found.at < length table → get_or table (at - found.at) 0 ≡ k → found.size - (at - found.at) ≤ k →
    found.size - (at - found.at) ≤ common_front name (drop at source)
known_least name source table found at k is_table is behind within has most =
    let d = at - found.at in
    let value : k ≡ common_front name (drop d name) = sym has ∙ is_table d within in
    long_front name (drop d name) (drop at source) (found.size - d) (known_inside name source found at is behind) (rw (← value) most)

-- behind a part of a front, in the source
pub front_on : (name source : List ℕ) (at least k : ℕ) → least ≤ common_front name (drop at source) →
    k ≡ common_front (drop least name) (drop (at + least) source) → least + k ≡ common_front name (drop at source)
front_on name source at least k h is =
    let rest : drop least (drop at source) ≡ drop (at + least) source = drop-drop least at source in
    let on : least + common_front (drop least name) (drop least (drop at source)) ≡ common_front name (drop at source) =
    goes_on least name (drop at source) h in
    ap (λ n. least + n) (is ∙ ap (λ t. common_front (drop least name) t) (sym rest)) ∙ on

-- ---- byte by byte

pub front_ends : (i : ℕ) (x y : List ℕ) → i < length x → i < length y → get_or x i 0 ≢ get_or y i 0 → common_front (drop i x) (drop i y) ≡ 0
front_ends i [] y h k differ = absurd (omega arith)
front_ends i (a ∷ x) [] h k differ = absurd (omega arith)
front_ends zero (a ∷ x) (b ∷ y) h k differ = front_other a b x y differ
front_ends (suc i) (a ∷ x) (b ∷ y) h k differ = front_ends i x y (omega arith) (omega arith) differ

pub front_steps : (i : ℕ) (x y : List ℕ) → i < length x → i < length y → get_or x i 0 ≡ get_or y i 0 →
    common_front (drop i x) (drop i y) ≡ suc (common_front (drop (suc i) x) (drop (suc i) y))
front_steps i [] y h k same = absurd (omega arith)
front_steps i (a ∷ x) [] h k same = absurd (omega arith)
front_steps zero (a ∷ x) (b ∷ y) h k same = front_same a b x y same
front_steps (suc i) (a ∷ x) (b ∷ y) h k same = front_steps i x y (omega arith) (omega arith) same

-- where one of the texts ends
pub front_over : (i : ℕ) (x y : List ℕ) → min (length x) (length y) ≤ i → common_front (drop i x) (drop i y) ≡ 0
front_over i x y h =
    omega (arith, front_short (drop i x) (drop i y), front_short_right (drop i x) (drop i y), length-drop i x, length-drop i y)

-- ---- a text that begins with a name

pub front_starts : (name text : List ℕ) → nat_eq (common_front name text) (length name) ≡ starts_with nat_eq text name
front_starts [] text = refl
front_starts (a ∷ name) [] = eqb-zero-suc (length name)
front_starts (a ∷ name) (b ∷ text) = elim (eqb_tells a b) [
  | inl k ↦ rw (k.0) (eqb-suc-suc (common_front name text) (length name) ∙ front_starts name text)
  | inr k ↦ rw (k.0) (eqb-zero-suc (length name))
]

-- ---- tables and places, one after another

pub with_next : (name table : List ℕ) (k at : ℕ) → length table ≡ at → IsTable name table → k ≡ common_front name (drop at name) →
    IsTable name (table ++ k ∷ [])
with_next name table k at long is value i h = elim (eqb_tells i at) [
  | inl e ↦ get_or_push table k 0 i (long ∙ sym e.1) ∙ value ∙ ap (λ n. common_front name (drop n name)) (sym e.1)
  | inr e ↦
      let other = e.1 in
      let inside : i < length table = omega (arith, length-append table (k ∷ [])) in
      get_or_append_left table (k ∷ []) 0 i inside ∙ is i inside
]

nowhere_at : (n i : ℕ) → get_or (replicate n nowhere) i nowhere ≡ nowhere
nowhere_at zero i = refl
nowhere_at (suc n) zero = refl
nowhere_at (suc n) (suc i) = nowhere_at n i

pub none_yet : (names : List (List ℕ)) (source : List ℕ) (n : ℕ) → AreFound names source (replicate n nowhere)
none_yet names source n i h = rw (nowhere_at n i) (omega arith)

pub one_more : (names : List (List ℕ)) (source : List ℕ) (all : List Found) (i : ℕ) (next : Found) → AreFound names source all → i < length all →
    IsFound (get_or names i []) source next → AreFound names source (set all i next)
one_more names source all i next are within is j h = elim (eqb_tells j i) [
  | inl e ↦ subst (λ n. IsFound (get_or names n []) source (get_or (set all i next) n nowhere)) (sym e.1)
      (rw (get_or-set_same all i next nowhere within) is)
  | inr e ↦ rw (get_or-set_other all i j next nowhere e.1) (are j h)
]
