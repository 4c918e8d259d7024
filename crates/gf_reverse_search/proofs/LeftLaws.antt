-- What is left by the marks' words is what is left by recursion on the path.
-- To cite: open_from_left, left_from_open.
use Rattle.std.proofs.Common.{◌≡◌, List, [], ◌∷◌, ◌++◌, ◌⊎◌, refl, sym, inl, inr, subst, ◌∙◌}
use Rattle.gf_reverse_search.specs.declared.mark.Mark.{Mark}
use Rattle.gf_reverse_search.specs.declared.mark.Mark.TheVariants.{Before, After, Listed, Finished}
use Rattle.gf_reverse_search.specs.Path.{IsStrictOrder, Precedes, Begins}
use Rattle.gf_reverse_search.specs.Left.{IsLeft, IsOpen}

module _ {L : Type 0} (lt : L → L → Type 0) where
  open_precedes : (r q : List L) → IsOpen lt Listed r q → Precedes lt r q
  open_precedes [] [] h = h
  open_precedes [] (b ∷ q) h = tt
  open_precedes (c ∷ r) [] h = h
  open_precedes (c ∷ r) (b ∷ q) (inl h) = inl h
  open_precedes (c ∷ r) (b ∷ q) (inr h) = inr (h.0, open_precedes r q h.1)

  precedes_open : (r q : List L) → Precedes lt r q → IsOpen lt Listed r q
  precedes_open [] [] h = h
  precedes_open [] (b ∷ q) h = tt
  precedes_open (c ∷ r) [] h = h
  precedes_open (c ∷ r) (b ∷ q) (inl h) = inl h
  precedes_open (c ∷ r) (b ∷ q) (inr h) = inr (h.0, precedes_open r q h.1)

  open_here : (r : List L) → IsOpen lt Before r r
  open_here [] = tt
  open_here (c ∷ r) = inr (refl, open_here r)

  -- before a path, the path is left and what is left once it is listed
  pub before_cases : (r q : List L) → IsOpen lt Before r q → (r ≡ q) ⊎ IsOpen lt Listed r q
  before_cases [] [] h = inl refl
  before_cases [] (b ∷ q) h = inr tt
  before_cases (c ∷ r) [] h = absurd h
  before_cases (c ∷ r) (b ∷ q) (inl h) = inr (inl h)
  before_cases (c ∷ r) (b ∷ q) (inr h) = elim (before_cases r q h.1) [
    | inl e ↦ inl cc
    | inr k ↦ inr (inr (h.0, k))
  ]

  pub before_from : (r q : List L) → (r ≡ q) ⊎ IsOpen lt Listed r q → IsOpen lt Before r q
  before_from r q (inl e) = subst (λ x. IsOpen lt Before r x) e (open_here r)
  before_from [] q (inr h) = tt
  before_from (c ∷ r) [] (inr h) = absurd h
  before_from (c ∷ r) (b ∷ q) (inr h) = elim h [
    | inl k ↦ inl k
    | inr k ↦ inr (k.0, before_from r q (inr k.1))
  ]

  open_after : (strict : IsStrictOrder lt) (a : L) (r q : List L) → Precedes lt r q → ((b : L) → (lt b a ⊎ (b ≡ a)) → Begins (r ++ b ∷ []) q → ⊥) →
      IsOpen lt (After a) r q
  open_after strict a [] [] h n = h
  open_after strict a [] (c ∷ q) h n = elim (strict.total c a) [
    | inl k ↦ absurd (n c (inl k) (q, refl))
    | inr k ↦ elim k [ inl e ↦ absurd (n c (inr e) (q, refl)) | inr k ↦ k ]
  ]
  open_after strict a (c ∷ r) [] h n = h
  open_after strict a (c ∷ r) (b ∷ q) (inl h) n = inl h
  open_after strict a (c ∷ r) (b ∷ q) (inr h) n = inr (
    h.0,
    open_after strict a r q h.1 (λ d k z. n d k (
      z.0,
      let e : (b ∷ q) ≡ c ∷ ((r ++ d ∷ []) ++ z.0) =
          (let f : b ≡ c = sym h.0 in let g : q ≡ (r ++ d ∷ []) ++ z.0 = z.1 in cc) in e,
    )),
  )

  after_open : (strict : IsStrictOrder lt) (a : L) (r q : List L) → IsOpen lt (After a) r q →
      Precedes lt r q × ((b : L) → (lt b a ⊎ (b ≡ a)) → Begins (r ++ b ∷ []) q → ⊥)
  after_open strict a [] [] h = absurd h
  after_open strict a [] (c ∷ q) h = (
    tt,
    λ b k z.
        let e : c ≡ b = (let f : (c ∷ q) ≡ b ∷ z.0 = z.1 in cc) in
        elim k [
          | inl l ↦ strict.irreflexive a (strict.transitive a c a h (subst (λ x. lt x a) (sym e) l))
          | inr l ↦ strict.irreflexive a (subst (λ x. lt a x) (e ∙ l) h)
        ],
  )
  after_open strict a (c ∷ r) [] h = absurd h
  after_open strict a (c ∷ r) (b ∷ q) (inl h) = (
    inl h,
    λ d k z.
        let e : b ≡ c = (let f : (b ∷ q) ≡ c ∷ ((r ++ d ∷ []) ++ z.0) = z.1 in cc) in
        strict.irreflexive c (subst (λ x. lt c x) e h),
  )
  after_open strict a (c ∷ r) (b ∷ q) (inr h) =
      let p = after_open strict a r q h.1 in
      (inr (h.0, p.0), λ d k z. p.1 d k (z.0, let f : (b ∷ q) ≡ c ∷ ((r ++ d ∷ []) ++ z.0) = z.1 in cc))

  open_finished : (r q : List L) → Precedes lt r q → (Begins r q → ⊥) → IsOpen lt Finished r q
  open_finished [] q h n = absurd (n (q, refl))
  open_finished (c ∷ r) [] h n = h
  open_finished (c ∷ r) (b ∷ q) (inl h) n = inl h
  open_finished (c ∷ r) (b ∷ q) (inr h) n =
      inr (h.0, open_finished r q h.1 (λ z. n (z.0, let e : (b ∷ q) ≡ c ∷ (r ++ z.0) = (let f : c ≡ b = h.0 in let g : q ≡ r ++ z.0 = z.1 in cc) in e)))

  finished_open : (strict : IsStrictOrder lt) (r q : List L) → IsOpen lt Finished r q → Precedes lt r q × (Begins r q → ⊥)
  finished_open strict [] q h = absurd h
  finished_open strict (c ∷ r) [] h = absurd h
  finished_open strict (c ∷ r) (b ∷ q) (inl h) = (
    inl h,
    λ z.
        let e : b ≡ c = (let f : (b ∷ q) ≡ c ∷ (r ++ z.0) = z.1 in cc) in
        strict.irreflexive c (subst (λ x. lt c x) e h),
  )
  finished_open strict (c ∷ r) (b ∷ q) (inr h) =
      let p = finished_open strict r q h.1 in
      (inr (h.0, p.0), λ z. p.1 (z.0, let f : (b ∷ q) ≡ c ∷ (r ++ z.0) = z.1 in cc))

  -- the two forms agree
  pub open_from_left : (strict : IsStrictOrder lt) (m : Mark L) (r q : List L) → IsLeft lt m r q → IsOpen lt m r q
  open_from_left strict Before r q h = before_from r q (elim h [ inl e ↦ inl e | inr k ↦ inr (precedes_open r q k) ])
  open_from_left strict (After a) r q h = open_after strict a r q h.0 h.1
  open_from_left strict Listed r q h = precedes_open r q h
  open_from_left strict Finished r q h = open_finished r q h.0 h.1

  pub left_from_open : (strict : IsStrictOrder lt) (m : Mark L) (r q : List L) → IsOpen lt m r q → IsLeft lt m r q
  left_from_open strict Before r q h = elim (before_cases r q h) [ inl e ↦ inl e | inr k ↦ inr (open_precedes r q k) ]
  left_from_open strict (After a) r q h = after_open strict a r q h
  left_from_open strict Listed r q h = open_precedes r q h
  left_from_open strict Finished r q h = finished_open strict r q h
