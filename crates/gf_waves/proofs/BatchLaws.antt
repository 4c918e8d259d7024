-- The steps of a batch.
-- To cite: map_more, on_ready, on_first, on_stopped, on_over, worked_more, worked_over.
use Rattle.std.proofs.Common.{◌≡◌, ℕ, zero, suc, ◌≤◌, ◌+◌, ◌-◌, min, map, List, [], ◌∷◌, ◌++◌, ◌⊎◌, length, length-append, refl, sym, ap, inl, inr, subst, ◌∙◌}
use Rattle.std.proofs.Common.{append-nil, append_assoc, arith}
use Rattle.std.proofs.lemmas.List.{map-append}
use Rattle.gf_reverse_search.specs.Standing.{Standing}
use Rattle.gf_reverse_search.specs.declared.expand.Piece.{Piece}
use Rattle.gf_reverse_search.specs.declared.expand.Piece.TheVariants.{Ready, Under, Refused}
use Rattle.gf_waves.specs.declared.batch.Slot.{Slot}
use Rattle.gf_waves.specs.Wave.{ExpandsOn}
use Rattle.gf_waves.specs.Plans.{IsExpanded, IsOn, AreExpanded}

pub map_more : {A B : Type 0} (f : A → B) (xs news : List A) (x : A) → news ≡ xs ++ x ∷ [] → map f news ≡ map f xs ++ f x ∷ []
map_more f xs news x e = ap (map f) e ∙ map-append f xs (x ∷ [])

module _ {T N L E : Type 0} (lt : L → L → Type 0) (up : T → N → L → N → Type 0) (refuses : Standing T N L → E → Type 0) where
  -- where no expansion is left, no piece, or no room, nothing is done
  pub on_over : (k n : ℕ) (ps : List (Piece T N L E)) → (k ≡ 0) ⊎ ((length ps ≡ 0) ⊎ (n ≤ 1)) → ExpandsOn lt up refuses k n ps k n ps
  on_over zero n ps h = (refl, refl, refl)
  on_over (suc k) zero ps h = (refl, refl, refl)
  on_over (suc k) (suc zero) ps h = (refl, refl, refl)
  on_over (suc k) (suc (suc n)) [] h = (refl, refl, refl)
  on_over (suc k) (suc (suc n)) (p ∷ ps) (inl h) = absurd (omega (arith, h))
  on_over (suc k) (suc (suc n)) (p ∷ ps) (inr (inl h)) = absurd (omega (arith, h))
  on_over (suc k) (suc (suc n)) (p ∷ ps) (inr (inr h)) = absurd (omega (arith, h))

  -- the same for other numbers, and from other pieces
  onward : (k q n m : ℕ) (olds ps : List (Piece T N L E)) (j i : ℕ) (news : List (Piece T N L E)) → k ≡ q → n ≡ m → olds ≡ ps →
      ExpandsOn lt up refuses q m ps j i news → ExpandsOn lt up refuses k n olds j i news
  onward k q n m olds ps j i news d e f h = subst (λ x. ExpandsOn lt up refuses x n olds j i news) (sym d)
      (subst (λ x. ExpandsOn lt up refuses q x olds j i news) (sym e) (subst (λ x. ExpandsOn lt up refuses q m x j i news) (sym f) h))

  -- a node goes behind what is done
  pub on_ready : (k q n m r : ℕ) (v : N) (olds rest dones more : List (Piece T N L E)) → k ≡ suc q → n ≡ suc (suc m) → r ≡ n → olds ≡ Ready v ∷ rest →
      more ≡ dones ++ Ready v ∷ [] → IsOn lt up refuses k n dones olds k r more rest
  on_ready k q n m r v olds rest dones more d e s f g = (
    Ready v ∷ [],
    g,
    λ j i news h. onward k (suc q) n (suc (suc m)) olds (Ready v ∷ rest) j i (Ready v ∷ news) d e f (
      news,
      refl,
      onward (suc q) k (suc (suc m)) r rest rest j i news (sym d) (sym (s ∙ e)) refl h,
    ),
  )

  -- a walker is expanded
  pub on_first : (k q n m r : ℕ) (w : Standing T N L) (olds rest news dones : List (Piece T N L E)) → k ≡ suc q → n ≡ suc (suc m) →
      r ≡ n + 1 + length rest - length news → olds ≡ Under w ∷ rest → IsExpanded lt up refuses w rest news → IsOn lt up refuses k n dones olds q r dones news
  on_first k q n m r w olds rest news dones d e s f x =
      let long : length news ≡ length x.0 + length rest = ap length x.1 ∙ length-append x.0 rest in
      let less : m + 3 - length x.0 ≡ r = omega (arith, e, s, long) in (
        [],
        sym (append-nil dones),
        λ j i more h. onward k (suc q) n (suc (suc m)) olds (Under w ∷ rest) j i more d e f (
          x.0,
          x.2,
          onward q q (m + 3 - length x.0) r (x.0 ++ rest) news j i more refl less (sym x.1) h,
        ),
      )

  -- a walker that stands refused ends it
  pub on_stopped : (k q n m r : ℕ) (w : Standing T N L) (x : E) (olds rest news dones : List (Piece T N L E)) → k ≡ suc q → n ≡ suc (suc m) → r ≡ n →
      olds ≡ Refused w x ∷ rest → news ≡ Refused w x ∷ rest → IsOn lt up refuses k n dones olds 0 r dones news
  on_stopped k q n m r w x olds rest news dones d e s f g = (
    [],
    sym (append-nil dones),
    λ j i more h. onward k (suc q) n (suc (suc m)) olds (Refused w x ∷ rest) j i more d e f (h.0 ∙ g, h.1, h.2 ∙ s ∙ e),
  )

  -- ---- cell after cell

  -- what is still to be worked on with what is left, behind what is worked on, is the whole
  abbrev pub GoesOn : ℕ → ℕ → List (Slot T N L E) → List (List (Piece T N L E)) → ℕ → ℕ → List (Slot T N L E) → Type 0
  GoesOn k n all dones j i slots = (rows : List (List (Piece T N L E))) → AreExpanded lt up refuses j i slots rows →
      AreExpanded lt up refuses k n all (dones ++ rows)

  pub worked_more : (k n j i q m free : ℕ) (all slots rest : List (Slot T N L E)) (s : Slot T N L E) (dones more : List (List (Piece T N L E))) (row : List
      (Piece T N L E)) → slots ≡ s ∷ rest → more ≡ dones ++ row ∷ [] → ExpandsOn lt up refuses j i s.row.items q m row →
      length row + m ≤ length s.row.items + i → free ≡ min m 56 → GoesOn k n all dones j i slots → GoesOn k n all more q free rest
  worked_more k n j i q m free all slots rest s dones more row e f h few less goes = λ rows a.
      subst (AreExpanded lt up refuses k n all) (sym (ap (λ x. x ++ rows) f ∙ append_assoc dones (row ∷ []) rows))
      (goes (row ∷ rows) (subst (λ x. AreExpanded lt up refuses j i x (row ∷ rows)) (sym e) (
        q,
        m,
        h,
        few,
        subst (λ x. AreExpanded lt up refuses q x rest rows) less a,
      )))

  -- no cell is left
  pub worked_over : (k n j i : ℕ) (all slots : List (Slot T N L E)) (dones : List (List (Piece T N L E))) → length slots ≡ 0 → GoesOn k n all dones j i slots →
      AreExpanded lt up refuses k n all dones
  worked_over k n j i all [] dones e goes = subst (AreExpanded lt up refuses k n all) (append-nil dones) (goes [] refl)
  worked_over k n j i all (s ∷ slots) dones e goes = absurd (omega (arith, e))
