-- The part next below another one: of those with some flag the last.
use Rattle.std.proofs.Common.{◌≡◌, ℕ, ◌+◌, ◌<◌, ◌≤◌, max, List, [], ◌∷◌, length, arith, refl, sym, ap, ◌∙◌, subst, Contains, ◌⊎◌, inl, inr, AllPairs, get_or}
use Rattle.std.proofs.Common.{Option, Some, None, MatchOption, nat_eq}
use Rattle.std.specs.List.{position}
use Rattle.std.specs.List.Sorted.{IsSortedByKey, IsPermutation}
use Rattle.std.specs.Ordering.{nat_cmp}
use Rattle.std.specs.Cmp.Lexicographic.{pointwise}
use Rattle.std.proofs.lemmas.List.{get_or_default}
use Rattle.std.proofs.lemmas.List.Elements.{All-contains, Contains-get_or}
use Rattle.std.proofs.lemmas.List.Quantifiers.{position-Some}
use Rattle.std.proofs.lemmas.Option.{none-some, same_Some}
use Rattle.std.proofs.lemmas.List.Sorted.{Contains-permutation, IsPermutation-sym}
use Rattle.gf_int_theory.proofs.ListLaws.{Contains-here, all_by}
use Rattle.gf_duality_theory.proofs.ListLaws.{none_in, in_tail, in_cons, index, less, at, more}
use Rattle.gf_fans_theory.specs.Heights.{IsWithinPart, IsNextBelow}
use Rattle.gf_fans_theory.proofs.Ordered.{by_lengths, within_short, within_all, same_numbers, still_apart, decide_same}
use Rattle.gf_rays.specs.declared.ray.Ray.{Ray}
use Rattle.gf_rays.specs.FlagFaces.{IsNarrowed, AreFlagFaces, AreSortedParts, IsFlatPart, IsPartAtFlag, later_index, IsLastAtFlags}

-- ---- faces in another order

pub sorted_parts : (m : ℕ) (rays : List Ray) (found parts : List (List ℕ)) → AreFlagFaces m rays found → IsPermutation found parts →
    IsSortedByKey (λ (part : List ℕ). length part) nat_cmp parts → AreSortedParts m rays parts
sorted_parts m rays found parts a p s = record {
  faces = record {
    each = λ f c. a.each f (Contains-permutation parts found f (IsPermutation-sym found parts p) c);
    every = λ ks h. let f = a.every ks h in (f.0, (Contains-permutation found parts f.0 p f.1.0, f.1.1));
    once = still_apart (λ (f : List ℕ). f) found parts p a.once;
  };
  sorted = s;
}

-- ---- the part at a flag

pub ascending_at : (m : ℕ) (rays : List Ray) (parts : List (List ℕ)) (i : ℕ) → AreFlagFaces m rays parts → i < length parts →
    AllPairs (λ x y. x < y) (get_or parts i [])
ascending_at m rays parts i a h = (a.each (get_or parts i []) (Contains-get_or parts i [] h)).1.1.ascending

-- as many rays: all
pub flat_at : (m k : ℕ) (rays : List Ray) (parts : List (List ℕ)) (i : ℕ) (out : List ℕ) → AreFlagFaces m rays parts → i < length parts →
    IsNarrowed k rays (get_or parts i []) out → length out ≡ length (get_or parts i []) → IsFlatPart k rays parts i
flat_at m k rays parts i out a h n e x c =
    let up = ascending_at m rays parts i a h in
    (n.each x (within_all out (get_or parts i []) (n.ascending up) up (λ y d. (n.each y d).0) (omega (arith, e)) x c)).1

pub number_of : (parts : List (List ℕ)) (f : List ℕ) (j : ℕ) → position (pointwise nat_eq f) parts ≡ Some j → (j < length parts) × (get_or parts j [] ≡ f)
number_of parts f j e = let p = position-Some (pointwise nat_eq f) parts j [] e in (p.0, sym ((decide_same f (get_or parts j [])).0 p.1))

pub number_there : (parts : List (List ℕ)) (f : List ℕ) (j : ℕ) → position (pointwise nat_eq f) parts ≡ Some j → Contains parts f
number_there parts f j e = let p = number_of parts f j e in (j, p.0, get_or_default parts j f [] p.0 ∙ p.1)

pub at_flag : (m k : ℕ) (rays : List Ray) (parts : List (List ℕ)) (i j : ℕ) (out : List ℕ) → AreFlagFaces m rays parts → i < length parts →
    IsNarrowed k rays (get_or parts i []) out → (length out ≡ length (get_or parts i []) → ⊥) → position (pointwise nat_eq out) parts ≡ Some j →
    IsPartAtFlag k rays parts i j
at_flag m k rays parts i j out a h n d e =
    let p = number_of parts out j e in
    let up = ascending_at m rays parts i a h in
    let short = within_short out (get_or parts i []) (n.ascending up) up (λ y c. (n.each y c).0) in
    record {
      inside = p.0;
      narrowed = subst (IsNarrowed k rays (get_or parts i [])) (sym p.1) n;
      fewer = subst (λ (z : List ℕ). length z < length (get_or parts i [])) (sym p.1) (omega (arith, short, d));
    }

-- ---- the last of them, one flag further

pub last_none : (rays : List Ray) (parts : List (List ℕ)) (i : ℕ) → IsLastAtFlags 0 rays parts i None
last_none rays parts i = record { each = λ l e. absurd (none-some l e); every = λ q h. absurd (omega (arith, h)) }

further : (P : ℕ → Type 0) (k : ℕ) → ((q : ℕ) → q < k → P q) → P k → (q : ℕ) → q < k + 1 → P q
further P k old new q h = elim (index q k) [ more l ↦ old q l | at e ↦ subst P (sym e) new | less l ↦ absurd (omega (arith, h, l)) ]

pub last_more : (k : ℕ) (rays : List Ray) (parts : List (List ℕ)) (i : ℕ) (last next : Option ℕ) → IsLastAtFlags k rays parts i last →
    MatchOption next (IsFlatPart k rays parts i) (IsPartAtFlag k rays parts i) → IsLastAtFlags (k + 1) rays parts i (later_index last next)
last_more k rays parts i None None s flat = record {
  each = s.each;
  every = further (λ q. IsFlatPart q rays parts i ⊎ ((j : ℕ) × (l : ℕ) × (IsPartAtFlag q rays parts i j × (None ≡ Some l) × (j ≤ l)))) k s.every (inl flat);
}
last_more k rays parts i (Some l) None s flat = record {
  each = s.each;
  every = further (λ q. IsFlatPart q rays parts i ⊎ ((j : ℕ) × (z : ℕ) × (IsPartAtFlag q rays parts i j × (Some l ≡ Some z) × (j ≤ z)))) k s.every (inl flat);
}
last_more k rays parts i None (Some j) s p = record {
  each = λ l e. (k, subst (IsPartAtFlag k rays parts i) (same_Some j l e) p);
  every = further (λ q. IsFlatPart q rays parts i ⊎ ((h : ℕ) × (l : ℕ) × (IsPartAtFlag q rays parts i h × (Some j ≡ Some l) × (h ≤ l)))) k
      (λ q h. elim (s.every q h) [ inl f ↦ inl f | inr x ↦ absurd (none-some x.1 x.2.1) ]) (inr (j, j, (p, refl, omega arith)));
}
last_more k rays parts i (Some l) (Some j) s p =
    let low : l ≤ max l j = omega arith in let high : j ≤ max l j = omega arith in
    record {
      each = λ z e. elim (index l j) [
        | more h ↦ let q : max l j ≡ j = omega (arith, h) in (k, subst (IsPartAtFlag k rays parts i) (sym q ∙ same_Some (max l j) z e) p)
        | at h ↦ let q : max l j ≡ j = omega (arith, h) in (k, subst (IsPartAtFlag k rays parts i) (sym q ∙ same_Some (max l j) z e) p)
        | less h ↦ let q : max l j ≡ l = omega (arith, h) in s.each z (ap (λ t. Some t) (sym q ∙ same_Some (max l j) z e))
      ];
      every = further (λ q. IsFlatPart q rays parts i ⊎ ((h : ℕ) × (z : ℕ) × (IsPartAtFlag q rays parts i h × (Some (max l j) ≡ Some z) × (h ≤ z)))) k
          (λ q h. elim (s.every q h) [
            | inl f ↦ inl f
            | inr x ↦ let e = same_Some l x.1 x.2.1 in let b = x.2.2 in inr (x.0, max l j, (x.2.0, refl, omega (arith, b, e, low)))
          ]) (inr (j, max l j, (p, refl, high)));
    }

-- ---- the part next below

-- flags that all rays of a part have, or one that they haven't all
flat_or : (m : ℕ) (rays : List Ray) (parts : List (List ℕ)) (i : ℕ) (last : Option ℕ) (ks : List ℕ) → IsLastAtFlags m rays parts i last →
    ((k : ℕ) → Contains ks k → k < m) → ((k : ℕ) → Contains ks k → IsFlatPart k rays parts i) ⊎
    ((k : ℕ) × (j : ℕ) × (l : ℕ) × (Contains ks k × IsPartAtFlag k rays parts i j × (last ≡ Some l) × (j ≤ l)))
flat_or m rays parts i last [] s f = inl (λ k c. absurd (none_in k c))
flat_or m rays parts i last (k ∷ ks) s f = elim (s.every k (f k (Contains-here k ks))) [
  | inr x ↦ inr (k, x.0, x.1, (Contains-here k ks, x.2.0, x.2.1, x.2.2))
  | inl flat ↦ elim (flat_or m rays parts i last ks s (λ q c. f q (in_tail k ks q c))) [
    | inr x ↦ inr (x.0, x.1, x.2, (in_tail k ks x.0 x.3.0, x.3.1, x.3.2, x.3.3))
    | inl all ↦ inl (λ q c. elim (in_cons k ks q c) [ inl e ↦ subst (λ t. IsFlatPart t rays parts i) (sym e) flat | inr d ↦ all q d ])
  ]
]

-- no two indices have the same part
apart_at : (parts : List (List ℕ)) (i j : ℕ) → AllPairs (λ f g. (f ≡ g) → ⊥) parts → i < length parts → j < length parts →
    get_or parts i [] ≡ get_or parts j [] → i ≡ j
apart_at parts i j once hi hj e = elim (index i j) [ at q ↦ q | more h ↦ absurd (once i j [] h hj e) | less h ↦ absurd (once j i [] h hi (sym e)) ]

-- a part inside another one isn't behind the last one
within_last : (m : ℕ) (rays : List Ray) (parts : List (List ℕ)) (i p : ℕ) (last : Option ℕ) → AreSortedParts m rays parts → i < length parts →
    p < length parts → (p ≡ i → ⊥) → IsWithinPart parts p i → IsLastAtFlags m rays parts i last → (l : ℕ) × ((last ≡ Some l) × (p ≤ l))
within_last m rays parts i p last a hi hp d w s =
    let fs : List ℕ = get_or parts i [] in let gs : List ℕ = get_or parts p [] in
    let own = a.faces.each fs (Contains-get_or parts i [] hi) in
    let lower = a.faces.each gs (Contains-get_or parts p [] hp) in
    let inside : (x : ℕ) → Contains gs x → Contains fs x = λ x c. All-contains (Contains fs) gs x w c in
    elim (flat_or m rays parts i last lower.0 s lower.1.0) [
      | inl flat ↦
          absurd (d (apart_at parts p i a.faces.once hp hi (same_numbers gs fs lower.1.1.ascending own.1.1.ascending inside
          (λ x c. lower.1.1.every x (own.1.1.each x c).0 (λ k ck. flat k ck x c)))))
      | inr x ↦
          let k = x.0 in let j = x.1 in let at_k = x.3.1 in let hj = at_k.inside in
          let hs : List ℕ = get_or parts j [] in
          let up = ascending_at m rays parts j a.faces hj in
          let sub : (y : ℕ) → Contains gs y → Contains hs y = λ y c. at_k.narrowed.every y (inside y c) ((lower.1.1.each y c).1 k x.3.0) in
          let b : p ≤ j = elim (index p j) [
            | more h ↦ omega (arith, h)
            | at h ↦ omega (arith, h)
            | less h ↦
                let short : length hs ≤ length gs = by_lengths parts a.sorted j p (omega (arith, h)) hp in
                let same : p ≡ j =
                apart_at parts p j a.faces.once hp hj (same_numbers gs hs lower.1.1.ascending up sub (within_all gs hs lower.1.1.ascending up sub short)) in
                omega (arith, same)
          ] in
          let c = x.3.3 in (x.2, (x.3.2, omega (arith, b, c)))
    ]

pub next_of : (m : ℕ) (rays : List Ray) (parts : List (List ℕ)) (i : ℕ) (last : Option ℕ) → AreSortedParts m rays parts → i < length parts →
    IsLastAtFlags m rays parts i last → MatchOption last ((j : ℕ) → j < i → IsWithinPart parts j i → ⊥) (IsNextBelow parts i)
next_of m rays parts i None a hi s = λ j h w. let x = within_last m rays parts i j None a hi (omega (arith, h, hi)) (λ e. omega (arith, e, h)) w s in
    none-some x.0 x.1.0
next_of m rays parts i (Some l) a hi s =
    let x = s.each l refl in let p = x.1 in let few = p.fewer in
    record {
      before = elim (index l i) [
        | more h ↦ h
        | at h ↦ let e = ap (λ t. length (get_or parts t [])) h in absurd (omega (arith, few, e))
        | less h ↦ let b = by_lengths parts a.sorted i l (omega (arith, h)) p.inside in absurd (omega (arith, few, b))
      ];
      within = all_by (Contains (get_or parts i [])) (get_or parts l []) (λ y c. (p.narrowed.each y c).0);
      later = λ j h b w.
          let z = within_last m rays parts i j (Some l) a hi (omega (arith, b, hi)) (λ e. omega (arith, e, b)) w s in
          let e = same_Some l z.0 z.1.0 in let g = z.1.1 in omega (arith, h, e, g);
    }
