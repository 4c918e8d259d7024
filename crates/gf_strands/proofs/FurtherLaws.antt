-- Remainders of points whose multiples are positive: those of what is left are.
-- To cite: further_dropped, further_subtracted, further_kept, further_none, further_more, further_done.
use Rattle.std.proofs.Common.{◌≡◌, ℕ, ◌<◌, List, [], ◌∷◌, ◌++◌, length, get_or, ℤ, pos, ◌<ℤ◌, sym, subst}
use Rattle.std.proofs.lemmas.List.{append-nil}
use Rattle.gf_poly.specs.Marking.{Each}
use Rattle.gf_ideal_theory.proofs.ListLaws.{Each-++, contained_each}
use Rattle.gf_strands.specs.declared.strands.Point.{Point}
use Rattle.gf_strands.specs.declared.strands.Strand.{Strand}
use Rattle.gf_strands.specs.Strands.{IsStrandAlong, IsSubtracted, KeepsFurther}

-- all multiples are positive
abbrev AreFurther : List Point → Type 0
AreFurther ps = Each (λ (p : Point). pos 0 <ℤ p.k) ps

each_parts : {A : Type 0} (P : A → Type 0) (xs ys : List A) → Each P (xs ++ ys) → Each P xs × Each P ys
each_parts P [] ys h = (tt, h)
each_parts P (x ∷ xs) ys h = let r = each_parts P xs ys h.1 in ((h.0, r.0), r.1)

-- the points before the one that is worked off, that one, and those that are kept
work_parts : (work kept : List Point) (p : Point) → AreFurther ((work ++ p ∷ []) ++ kept) → AreFurther work × (pos 0 <ℤ p.k) × AreFurther kept
work_parts work kept p h =
    let r = each_parts (λ (p : Point). pos 0 <ℤ p.k) (work ++ p ∷ []) kept h in
    let s = each_parts (λ (p : Point). pos 0 <ℤ p.k) work (p ∷ []) r.0 in
    (s.0, s.1.0, r.1)

pub further_dropped : (work kept : List Point) (p : Point) → KeepsFurther (work ++ p ∷ []) kept work kept
further_dropped work kept p = record { at = λ h. (let r = work_parts work kept p h in Each-++ (λ (p : Point). pos 0 <ℤ p.k) work kept r.0 r.2) }

pub further_subtracted : (a : List ℤ) (ls : List Strand) (work kept new : List Point) (p : Point) (j : ℕ) (l : Strand) → Each (IsStrandAlong a) ls →
    j < length ls → l ≡ get_or ls j l → IsSubtracted p l.rest.items work new → KeepsFurther (work ++ p ∷ []) kept new kept
further_subtracted a ls work kept new p j l k w q s = record {
  at = λ h. (let r = work_parts work kept p h in Each-++ (λ (p : Point). pos 0 <ℤ p.k) new kept
      (s.above (pos 0) r.1 (contained_each (IsStrandAlong a) ls k l (j, w, sym q)).further r.0) r.2);
}

pub further_kept : (work kept new : List Point) (p : Point) → new ≡ p ∷ kept → KeepsFurther (work ++ p ∷ []) kept work new
further_kept work kept new p e = subst (KeepsFurther (work ++ p ∷ []) kept work) (sym e)
    (record { at = λ h. (let r = work_parts work kept p h in Each-++ (λ (p : Point). pos 0 <ℤ p.k) work (p ∷ kept) r.0 (r.1, r.2)) })

pub further_none : (points kept : List Point) → kept ≡ [] → KeepsFurther points [] points kept
further_none points kept e = subst (KeepsFurther points [] points) (sym e) (record { at = λ h. h })

pub further_more : (points work popped kept newer more : List Point) → work ≡ popped → KeepsFurther popped kept newer more → KeepsFurther points [] work kept →
    KeepsFurther points [] newer more
further_more points work popped kept newer more e k h = record { at = λ f. k.at (subst (λ (z : List Point). AreFurther (z ++ kept)) e (h.at f)) }

pub further_done : (points work kept : List Point) → work ≡ [] → KeepsFurther points [] work kept → AreFurther points → AreFurther kept
further_done points work kept e h f = subst (λ (z : List Point). AreFurther (z ++ kept)) e (h.at (subst AreFurther (sym (append-nil points)) f))
