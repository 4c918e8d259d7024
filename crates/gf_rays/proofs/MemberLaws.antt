-- Flags at numbers, set one by one, and parts inside one another by their flags.
use Rattle.std.proofs.Common.{◌≡◌, ◌↔◌, ℕ, ◌+◌, ◌-◌, ◌/◌, ◌%◌, ◌<◌, ◌≤◌, List, [], ◌∷◌, ◌++◌, length, take, get_or, Bool, eq-eqb, arith, refl, sym, ap, ◌∙◌}
use Rattle.std.proofs.Common.{subst, inl, inr, All, Contains, length-append, Option, Some, None, MatchOption}
use Rattle.std.proofs.Math.ListN.{get_or-append}
use Rattle.std.proofs.Math.Seq.{get_or-append_seam}
use Rattle.std.proofs.lemmas.Bool.{eqb-true}
use Rattle.std.proofs.lemmas.List.{get_or_default, take_more}
use Rattle.std.proofs.lemmas.List.Elements.{All-contains, Contains-push}
use Rattle.std.proofs.lemmas.Nat.Bits.{bit_at-lt}
use Rattle.gf_int_theory.proofs.ListLaws.{Contains-last, all_by}
use Rattle.gf_duality_theory.proofs.ListLaws.{first_in, index, less, at, more}
use Rattle.gf_fans_theory.specs.Heights.{IsWithinPart, IsNextBelow}
use Rattle.gf_rays.specs.Flags.{IsBelow, IsRoomFor, bit_of, flags_of}
use Rattle.gf_rays.specs.FlagFaces.{AreInside, AreFlagsAt, ArePartFlags, IsLastBelow}
use Rattle.gf_rays.proofs.FlagLaws.{flags_long, flag_is}

-- ---- bits

-- words with room for so many flags, whose bits are set at these numbers
pub record AreBitsAt (count : ℕ) (numbers words : List ℕ) : Type 0 where
  pub long : length words ≡ count / 64 + 1
  pub each : (i : ℕ) → (bit_of words i ≡ 1) ↔ Contains numbers i

pub bits_more : (count k x : ℕ) (numbers old new : List ℕ) → k < length numbers → x ≡ get_or numbers k 0 → length new ≡ length old → bit_of new x ≡ 1 →
    ((j : ℕ) → (j ≡ x → ⊥) → bit_of new j ≡ bit_of old j) → AreBitsAt count (take k numbers) old → AreBitsAt count (take (k + 1) numbers) new
bits_more count k x numbers old new h e l b others a =
    let t : take (k + 1) numbers ≡ take k numbers ++ x ∷ [] = take_more numbers k 0 h ∙ ap (λ z. take k numbers ++ z ∷ []) (sym e) in
    subst (λ z. AreBitsAt count z new) (sym t) (record {
      long = l ∙ a.long;
      each = λ i. (
        (λ q. elim (index i x) [
          | at g ↦ subst (Contains (take k numbers ++ x ∷ [])) (sym g) (Contains-push (take k numbers) x)
          | less g ↦ first_in (take k numbers) x i ((a.each i).0 (sym (others i (λ z. omega (arith, g, z))) ∙ q))
          | more g ↦ first_in (take k numbers) x i ((a.each i).0 (sym (others i (λ z. omega (arith, g, z))) ∙ q))
        ]),
        λ c. elim (index i x) [
          | at g ↦ subst (λ z. bit_of new z ≡ 1) (sym g) b
          | less g ↦ others i (λ z. omega (arith, g, z)) ∙ (a.each i).1 (elim (Contains-last (take k numbers) x i c) [
            | inl d ↦ d
            | inr d ↦
                absurd (omega (arith, g, d))
          ])
          | more g ↦ others i (λ z. omega (arith, g, z)) ∙ (a.each i).1 (elim (Contains-last (take k numbers) x i c) [
            | inl d ↦ d
            | inr d ↦
                absurd (omega (arith, g, d))
          ])
        ],
      );
    })

pub bits_room : (count : ℕ) (numbers words : List ℕ) → AreInside count numbers → AreBitsAt count numbers words → IsRoomFor count words
bits_room count numbers words inside a = record {
  long = a.long;
  clear = λ i h.
      let l : bit_of words i < 2 = bit_at-lt (get_or words (i / 64) 0) (i % 64) in
      let n : bit_of words i ≡ 1 → ⊥ = λ b. let k : i < count = All-contains (λ i. i < count) numbers i inside ((a.each i).0 b) in omega (arith, h, k) in
      elim (index (bit_of words i) 1) [
        | at e ↦ absurd (n e)
        | more e ↦ let q : bit_of words i ≡ 0 = omega (arith, e) in q
        | less e ↦ absurd (omega (arith, e, l))
      ];
}

pub bits_flags : (count : ℕ) (numbers words : List ℕ) → AreBitsAt count numbers words → AreFlagsAt count numbers (flags_of words count)
bits_flags count numbers words a = record {
  long = flags_long words count;
  each = λ i h. (
    (λ t. (a.each i).0 (eqb-true (bit_of words i) 1 (sym (flag_is words count i h) ∙ t))),
    λ c. flag_is words count i h ∙ eq-eqb (bit_of words i) 1 ((a.each i).1 c),
  );
}

-- a number's word is there
pub word_there : (count i : ℕ) (words : List ℕ) → i < count → length words ≡ count / 64 + 1 → i / 64 < length words
word_there count i words h e = let d : i / 64 ≤ count / 64 = omega (arith, h) in omega (arith, d, e)

-- ---- parts

-- the flags of one part more
pub record MembersSoFar (count : ℕ) (parts : List (List ℕ)) (k : ℕ) (members : List (List Bool)) : Type 0 where
  pub long : length members ≡ k
  pub inside : k ≤ length parts
  pub each : (i : ℕ) → i < k → AreFlagsAt count (get_or parts i []) (get_or members i [])

pub members_none : (count : ℕ) (parts : List (List ℕ)) → MembersSoFar count parts 0 []
members_none count parts = record { long = refl; inside = omega arith; each = λ i h. absurd (omega (arith, h)) }

pub members_more : (count k : ℕ) (parts : List (List ℕ)) (part numbers : List ℕ) (flags : List Bool) (old new : List (List Bool)) → k < length parts →
    part ≡ get_or parts k part → numbers ≡ part → new ≡ old ++ flags ∷ [] → AreFlagsAt count numbers flags → MembersSoFar count parts k old →
    MembersSoFar count parts (k + 1) new
members_more count k parts part numbers flags old new h e q en f m = subst (MembersSoFar count parts (k + 1)) (sym en) (record {
  long = omega (arith, length-append old (flags ∷ []), m.long);
  inside = omega (arith, h);
  each = λ i b. elim (index i k) [
    | more l ↦ subst (AreFlagsAt count (get_or parts i [])) (sym (get_or-append old (flags ∷ []) [] i (omega (arith, l, m.long)))) (m.each i l)
    | at l ↦ subst (λ j. AreFlagsAt count (get_or parts j []) (get_or (old ++ flags ∷ []) j [])) (sym l)
        (subst (λ z. AreFlagsAt count z (get_or (old ++ flags ∷ []) k [])) (q ∙ e ∙ get_or_default parts k part [] h)
        (subst (AreFlagsAt count numbers) (sym (ap (λ j. get_or (old ++ flags ∷ []) j []) (sym m.long) ∙ get_or-append_seam old flags [] [])) f))
    | less l ↦ absurd (omega (arith, l, b))
  ];
})

pub members_all : (count k : ℕ) (parts : List (List ℕ)) (members : List (List Bool)) → length parts ≤ k → MembersSoFar count parts k members →
    ArePartFlags count parts members
members_all count k parts members e m = record { long = omega (arith, e, m.long, m.inside); each = λ i h. m.each i (omega (arith, h, e)) }

pub members_long : (count : ℕ) (parts : List (List ℕ)) (members : List (List Bool)) → ArePartFlags count parts members →
    All (λ (f : List Bool). length f ≡ count) members
members_long count parts members m = all_by (λ (f : List Bool). length f ≡ count) members (λ f c. ap length (sym (get_or_default members c.0 [] f c.1 ∙ c.2)) ∙
    (m.each c.0 (omega (arith, c.1, m.long))).long)

pub below_within : (count i j : ℕ) (parts : List (List ℕ)) (members : List (List Bool)) → All (AreInside count) parts → ArePartFlags count parts members →
    i < length parts → j < length parts → IsBelow (get_or members j []) (get_or members i []) → IsWithinPart parts j i
below_within count i j parts members inside m hi hj b = all_by (Contains (get_or parts i [])) (get_or parts j []) (λ x c.
    let h : x < count = All-contains (λ i. i < count) (get_or parts j []) x (inside j [] hj) c in
    let f = m.each j hj in
    ((m.each i hi).each x h).0 (b x (omega (arith, h, f.long)) ((f.each x h).1 c)))

pub within_below : (count i j : ℕ) (parts : List (List ℕ)) (members : List (List Bool)) → ArePartFlags count parts members → i < length parts →
    j < length parts → IsWithinPart parts j i → IsBelow (get_or members j []) (get_or members i [])
within_below count i j parts members m hi hj w = λ x h t.
    let f = m.each j hj in
    let k : x < count = omega (arith, h, f.long) in
    ((m.each i hi).each x k).1 (All-contains (Contains (get_or parts i [])) (get_or parts j []) x w ((f.each x k).0 t))

-- the last flags below are those of the last part inside
pub next_from : (count i : ℕ) (parts : List (List ℕ)) (members : List (List Bool)) (o : Option ℕ) → All (AreInside count) parts →
    ArePartFlags count parts members → i < length parts → MatchOption o ((j : ℕ) → j < i → IsBelow (get_or members j []) (get_or members i []) →
    ⊥) (IsLastBelow members i) → MatchOption o ((j : ℕ) → j < i → IsWithinPart parts j i → ⊥) (IsNextBelow parts i)
next_from count i parts members None inside m hi f = λ j h w. f j h (within_below count i j parts members m hi (omega (arith, h, hi)) w)
next_from count i parts members (Some j) inside m hi f = record {
  before = f.before;
  within = let hj : j < length parts = (let b = f.before in omega (arith, b, hi)) in below_within count i j parts members inside m hi hj f.below;
  later = λ k a b w. f.later k a b (within_below count i k parts members m hi (omega (arith, b, hi)) w);
}

pub below_further : (members : List (List Bool)) (i k : ℕ) → k < i → (IsBelow (get_or members (i - 1 - k) []) (get_or members i []) → ⊥) →
    ((m : ℕ) → i ≤ m + k → m < i → IsBelow (get_or members m []) (get_or members i []) → ⊥) → (m : ℕ) → i ≤ m + (k + 1) → m < i →
    IsBelow (get_or members m []) (get_or members i []) → ⊥
below_further members i k h n f m a b w = elim (index m (i - 1 - k)) [
  | at e ↦ n (subst (λ t. IsBelow (get_or members t []) (get_or members i [])) e w)
  | less e ↦ f m (omega (arith, e, h)) b w
  | more e ↦ absurd (omega (arith, a, e, h))
]

-- flags that are read
pub flags_read : (members : List (List Bool)) (i : ℕ) (x : List Bool) → i < length members → x ≡ get_or members i x → x ≡ get_or members i []
flags_read members i x h e = e ∙ get_or_default members i x [] h

pub long_at : (count : ℕ) (members : List (List Bool)) (i : ℕ) (x : List Bool) → i < length members → x ≡ get_or members i x →
    All (λ (f : List Bool). length f ≡ count) members → length x ≡ count
long_at count members i x h e a = ap length e ∙ a i x h
