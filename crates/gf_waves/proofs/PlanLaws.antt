-- How a row is cut up for a wave, dealt out, and put together again.
-- To cite: cut_more, cut_over, cut_done, first_out, last_over, spare_more, spare_last, free_more, numbered_more, goes_cell, goes_none, planned_fits, fit_last,
-- dealt_first, free_hands,
-- free_dealt, hands_last, hands_fewer, hands_fit, wave_of, gathered_more, gathered_fits.
use Rattle.std.proofs.Common.{◌≡◌, ℕ, zero, suc, ◌<◌, ◌≤◌, ◌+◌, ◌-◌, ◌*◌, min, List, [], ◌∷◌, ◌++◌, length, refl, sym, ap, subst, ◌∙◌, append_assoc, arith}
use Rattle.std.proofs.Common.{get_or, length-append, append-nil, replicate, take, drop}
use Rattle.std.specs.Vec.{vec_capacity}
use Rattle.std.specs.VecDeque.{deque_capacity}
use Rattle.std.proofs.Math.Nat.{suc-mul}
use Rattle.gf_reverse_search.specs.Standing.{Standing}
use Rattle.gf_reverse_search.specs.declared.expand.Piece.{Piece}
use Rattle.gf_waves.specs.declared.batch.Slot.{Slot}
use Rattle.gf_waves.specs.declared.batch.Batch.{Batch}
use Rattle.gf_waves.specs.Frontier.{batch_number, first_batch, behind_batch, renewed, walkers_of}
use Rattle.gf_waves.specs.Plans.{IsPlanned, IsSpare, AreSpare, IsFit, AreFit, IsBatchFit, IsSpareRow, AreFreeBatches, AreNumbered, IsDealt, hands_of}
use Rattle.gf_waves.specs.Plans.{AreExpanded}
use Rattle.gf_waves.specs.Plans.{IsWorked, worked_rows, piles_of, gather}
use Rattle.gf_waves.specs.Wave.{IsWaved, ExpandsOn}

-- ---- the pieces of a batch

module _ {T N L E : Type 0} where
  -- together they are as many as there were
  cut_length : (c m : ℕ) (ps : List (Piece T N L E)) → length (first_batch c m ps) + length (behind_batch c m ps) ≡ length ps
  cut_length zero m ps = omega arith
  cut_length (suc c) zero ps = omega arith
  cut_length (suc c) (suc m) [] = omega arith
  cut_length (suc c) (suc m) (p ∷ ps) = (let k = cut_length c (suc m - walkers_of p) ps in omega (arith, k))

  -- one piece more is taken
  first_more : (c m : ℕ) (p : Piece T N L E) (ps : List (Piece T N L E)) → 0 < c → 0 < m →
      first_batch c m (p ∷ ps) ≡ renewed p ∷ first_batch (c - 1) (m - walkers_of p) ps
  first_more zero m p ps h k = absurd (omega arith)
  first_more (suc c) zero p ps h k = absurd (omega arith)
  first_more (suc c) (suc m) p ps h k = ap (λ d. renewed p ∷ first_batch d (suc m - walkers_of p) ps) (let e : c ≡ suc c - 1 = omega arith in e)

  behind_more : (c m : ℕ) (p : Piece T N L E) (ps : List (Piece T N L E)) → 0 < c → 0 < m →
      behind_batch c m (p ∷ ps) ≡ behind_batch (c - 1) (m - walkers_of p) ps
  behind_more zero m p ps h k = absurd (omega arith)
  behind_more (suc c) zero p ps h k = absurd (omega arith)
  behind_more (suc c) (suc m) p ps h k = ap (λ d. behind_batch d (suc m - walkers_of p) ps) (let e : c ≡ suc c - 1 = omega arith in e)

  pub cut_more : (c m d k : ℕ) (p : Piece T N L E) (row rest batch more olds : List (Piece T N L E)) → 0 < c → 0 < m → d ≡ c - 1 → k ≡ m - walkers_of p →
      row ≡ p ∷ rest → more ≡ batch ++ renewed p ∷ [] → batch ++ first_batch c m row ≡ first_batch 8 1 olds → behind_batch c m row ≡ behind_batch 8 1 olds →
      (more ++ first_batch d k rest ≡ first_batch 8 1 olds) × (behind_batch d k rest ≡ behind_batch 8 1 olds)
  cut_more c m d k p row rest batch more olds h i e f is on first behind = (
    subst (λ x. more ++ first_batch x k rest ≡ first_batch 8 1 olds) (sym e) (subst (λ x. more ++ first_batch (c - 1) x rest ≡ first_batch 8 1 olds) (sym f)
        (ap (λ x. x ++ first_batch (c - 1) (m - walkers_of p) rest) on ∙ append_assoc batch (renewed p ∷ []) (first_batch (c - 1) (m - walkers_of p) rest) ∙
        ap (λ x. batch ++ x) (sym (first_more c m p rest h i)) ∙ ap (λ x. batch ++ first_batch c m x) (sym is) ∙ first)),
    subst (λ x. behind_batch x k rest ≡ behind_batch 8 1 olds) (sym e) (subst (λ x. behind_batch (c - 1) x rest ≡ behind_batch 8 1 olds) (sym f)
        (sym (behind_more c m p rest h i) ∙ ap (behind_batch c m) (sym is) ∙ behind)),
  )

  none_first : (c m : ℕ) → first_batch {T = T} {N = N} {L = L} {E = E} c m [] ≡ []
  none_first zero m = refl
  none_first (suc c) zero = refl
  none_first (suc c) (suc m) = refl

  none_behind : (c m : ℕ) → behind_batch {T = T} {N = N} {L = L} {E = E} c m [] ≡ []
  none_behind zero m = refl
  none_behind (suc c) zero = refl
  none_behind (suc c) (suc m) = refl

  -- no piece is left
  pub cut_over : (c m : ℕ) (row rest batch olds : List (Piece T N L E)) → row ≡ [] → rest ≡ [] → batch ++ first_batch c m row ≡ first_batch 8 1 olds →
      behind_batch c m row ≡ behind_batch 8 1 olds → (batch ≡ first_batch 8 1 olds) × (rest ≡ behind_batch 8 1 olds)
  cut_over c m row rest batch olds e f first behind = (
    sym (ap (λ x. batch ++ x) (ap (first_batch c m) e ∙ none_first c m) ∙ append-nil batch) ∙ first,
    f ∙ sym (ap (behind_batch c m) e ∙ none_behind c m) ∙ behind,
  )

  -- no piece is to be taken
  pub cut_done : (c m : ℕ) (row batch olds : List (Piece T N L E)) → (0 < c → 0 < m → ⊥) → batch ++ first_batch c m row ≡ first_batch 8 1 olds →
      behind_batch c m row ≡ behind_batch 8 1 olds → (batch ≡ first_batch 8 1 olds) × (row ≡ behind_batch 8 1 olds)
  cut_done zero m row batch olds none first behind = (sym (append-nil batch) ∙ first, behind)
  cut_done (suc c) zero row batch olds none first behind = (sym (append-nil batch) ∙ first, behind)
  cut_done (suc c) (suc m) row batch olds none first behind = absurd (none (omega arith) (omega arith))

-- ---- lists

-- the first element is taken out
pub first_out : {A : Type 0} (xs ys : List A) (x : A) → 0 < length xs → x ≡ get_or xs 0 x → ys ≡ take 0 xs ++ drop (0 + 1) xs → xs ≡ x ∷ ys
first_out [] ys x h e f = absurd (omega (arith, h))
first_out (z ∷ xs) ys x h e f = sym (ap (λ k. k ∷ ys) e ∙ ap (λ k. z ∷ k) f)

-- the last element of the first of two lists is put before the second
pub last_over : {A : Type 0} (all xs rest ys : List A) (x : A) → all ≡ xs ++ ys → xs ≡ rest ++ x ∷ [] → all ≡ rest ++ x ∷ ys
last_over all xs rest ys x e f = e ∙ ap (λ k. k ++ ys) f ∙ append_assoc rest (x ∷ []) ys

-- ---- spare cells and batches

module _ {T N L E : Type 0} where
  pub spare_more : (ss : List (Slot T N L E)) (s : Slot T N L E) → AreSpare ss → IsSpare s → AreSpare (ss ++ s ∷ [])
  spare_more [] s a b = (b, tt)
  spare_more (r ∷ ss) s a b = (a.0, spare_more ss s a.1 b)

  pub spare_last : (ss : List (Slot T N L E)) (s : Slot T N L E) → AreSpare (ss ++ s ∷ []) → AreSpare ss × IsSpare s
  spare_last [] s a = (tt, a.0)
  spare_last (r ∷ ss) s a = (let k = spare_last ss s a.1 in ((a.0, k.0), k.1))

  pub free_more : (m : ℕ) (js : List (Batch T N L E)) (j : Batch T N L E) → AreFreeBatches m js → AreFreeBatches m (j ∷ []) → AreFreeBatches m (js ++ j ∷ [])
  free_more m [] j a b = b
  free_more m (i ∷ js) j a b = (a.0, a.1, a.2, a.3, a.4, free_more m js j a.5 b)

  pub numbered_more : (n : ℕ) (js : List (Batch T N L E)) (j : Batch T N L E) → AreNumbered n js → j.number ≡ batch_number (n + length js) →
      AreNumbered n (js ++ j ∷ [])
  numbered_more n [] j a e = (e ∙ ap batch_number (let k : n + 0 ≡ n = omega arith in k), tt)
  numbered_more n (i ∷ js) j a e =
      (a.0, numbered_more (n + 1) js j a.1 (e ∙ ap batch_number (let k : n + suc (length js) ≡ n + 1 + length js = omega arith in k)))

-- ---- a plan that goes on

module _ {T N L E : Type 0} (count : ℕ) (olds : List (Piece T N L E)) where
  -- a plan of what is left of the row, for so many cells more, goes on from the cells that are there
  abbrev pub Goes : ℕ → List (Piece T N L E) → List (Slot T N L E) → Type 0
  Goes m row slots = (ss : List (Slot T N L E)) (tail : List (Piece T N L E)) → IsPlanned m row ss tail → IsPlanned count olds (slots ++ ss) tail

  behind : {X : Type 0} (xs news ys : List X) (x : X) → news ≡ xs ++ x ∷ [] → news ++ ys ≡ xs ++ (x ∷ ys)
  behind xs news ys x e = ap (λ n. n ++ ys) e ∙ append_assoc xs (x ∷ []) ys

  -- past a cell
  pub goes_cell : (m k : ℕ) (row rest : List (Piece T N L E)) (slots more : List (Slot T N L E)) (slot : Slot T N L E) → m ≡ suc k →
      rest ≡ behind_batch 8 1 row → IsFit slot → slot.row.items ≡ first_batch 8 1 row → more ≡ slots ++ slot ∷ [] → Goes m row slots → Goes k rest more
  goes_cell m k row rest slots more slot e f fit is on goes = λ ss tail p.
      subst (λ x. IsPlanned count olds x tail) (sym (behind slots more ss slot on))
      (goes (slot ∷ ss) tail (subst (λ j. IsPlanned j row (slot ∷ ss) tail) (sym e) (slot, ss, refl, fit, is, subst (λ r. IsPlanned k r ss tail) f p)))

  -- no cell is to be made any more
  pub goes_none : (m : ℕ) (row : List (Piece T N L E)) (slots : List (Slot T N L E)) → m ≡ 0 → Goes m row slots → IsPlanned count olds slots row
  goes_none m row slots e goes =
      subst (λ x. IsPlanned count olds x row) (append-nil slots) (goes [] row (subst (λ j. IsPlanned j row [] row) (sym e) (refl, refl)))

-- ---- dealing out

module _ {T N L E : Type 0} where
  pub planned_fits : (m : ℕ) (olds tail : List (Piece T N L E)) (slots : List (Slot T N L E)) → IsPlanned m olds slots tail → AreFit slots × (length slots ≡ m)
  planned_fits zero olds tail slots p = (subst AreFit (sym p.0) tt, ap length p.0)
  planned_fits (suc m) olds tail slots p =
      (let k = planned_fits m (behind_batch 8 1 olds) tail p.1 p.5 in (subst AreFit (sym p.2) (p.3, k.0), ap length p.2 ∙ ap suc k.1))

  pub fit_last : (ss : List (Slot T N L E)) (s : Slot T N L E) → AreFit (ss ++ s ∷ []) → AreFit ss × IsFit s
  fit_last [] s a = (tt, a.0)
  fit_last (r ∷ ss) s a = (let k = fit_last ss s a.1 in ((a.0, k.0), k.1))

  hands_more : (js : List (Batch T N L E)) (j : Batch T N L E) → hands_of (js ++ j ∷ []) ≡ hands_of js ++ j.slots.items ∷ []
  hands_more [] j = refl
  hands_more (i ∷ js) j = ap (λ x. i.slots.items ∷ x) (hands_more js j)

  -- one cell more, in front: the last batch has it, and comes first
  pub dealt_first : (s : Slot T N L E) (ss : List (Slot T N L E)) (batches init news : List (Batch T N L E)) (j k : Batch T N L E) → batches ≡ init ++ j ∷ [] →
      news ≡ k ∷ init → k.slots.items ≡ s ∷ j.slots.items → IsDealt ss (hands_of batches) → IsDealt (s ∷ ss) (hands_of news)
  dealt_first s ss batches init news j k e f g d =
      subst (λ x. IsDealt (s ∷ ss) (hands_of x)) (sym f) (j.slots.items, g, subst (IsDealt ss) (ap hands_of e ∙ hands_more init j) d)

  -- the batches, while so many cells are to be dealt out
  abbrev pub IsOpenHand : ℕ → Batch T N L E → Type 0
  IsOpenHand m j = AreFit j.slots.items × (j.worked.items ≡ []) × (length j.slots.items + m ≤ vec_capacity j.slots) ×
      (length j.slots.items + m ≤ vec_capacity j.worked) ×
      IsSpareRow j.spare.items (deque_capacity j.spare)

  abbrev pub AreOpenHands : ℕ → List (Batch T N L E) → Type 0
  AreOpenHands m [] = Unit {0}
  AreOpenHands m (j ∷ js) = IsOpenHand m j × AreOpenHands m js

  pub free_hands : (m : ℕ) (js : List (Batch T N L E)) → AreFreeBatches m js → AreOpenHands m js
  free_hands m [] a = tt
  free_hands m (j ∷ js) a =
      let none : length j.slots.items ≡ 0 = ap length a.0 in
      let room = a.2 in
      let cell = a.3 in
      ((subst AreFit (sym a.0) tt, a.1, omega (arith, none, room), omega (arith, none, cell), a.4), free_hands m js a.5)

  none_at : (m : ℕ) (js : List (Batch T N L E)) → AreFreeBatches m js → (i : ℕ) (d : List (Slot T N L E)) → i < length (hands_of js) →
      get_or (hands_of js) i d ≡ []
  none_at m [] a i d h = absurd (omega (arith, h))
  none_at m (j ∷ js) a zero d h = a.0
  none_at m (j ∷ js) a (suc i) d h = none_at m js a.5 i d (omega (arith, h))

  pub free_dealt : (m : ℕ) (js : List (Batch T N L E)) → AreFreeBatches m js → IsDealt [] (hands_of js)
  free_dealt m js a = none_at m js a

  pub hands_last : (m : ℕ) (js : List (Batch T N L E)) (j : Batch T N L E) → AreOpenHands m (js ++ j ∷ []) → AreOpenHands m js × IsOpenHand m j
  hands_last m [] j a = (tt, a.0)
  hands_last m (i ∷ js) j a = (let k = hands_last m js j a.1 in ((a.0, k.0), k.1))

  pub hands_fewer : (m : ℕ) (js : List (Batch T N L E)) → AreOpenHands (suc m) js → AreOpenHands m js
  hands_fewer m [] a = tt
  hands_fewer m (j ∷ js) a = (let h = a.0 in let x = h.2 in let y = h.3 in ((h.0, h.1, omega (arith, x), omega (arith, y), h.4), hands_fewer m js a.1))

  pub hands_fit : (m : ℕ) (js : List (Batch T N L E)) → AreOpenHands m js → (i : ℕ) (d : Batch T N L E) → i < length js → IsBatchFit (get_or js i d)
  hands_fit m [] a i d h = absurd (omega (arith, h))
  hands_fit m (j ∷ js) a zero d h = (let x = a.0 in let y = x.3 in (x.0, x.1, omega (arith, y), x.4))
  hands_fit m (j ∷ js) a (suc i) d h = hands_fit m js a.1 i d (omega (arith, h))

-- ---- a row that was cut up, dealt out, worked on and put together again

module _ {T N L E : Type 0} (lt : L → L → Type 0) (up : T → N → L → N → Type 0) (refuses : Standing T N L → E → Type 0) where
  -- batch by batch, each with its own expansions and room
  abbrev AreHandsWorked : List (ℕ × ℕ) → List (List (Slot T N L E)) → List (List (List (Piece T N L E))) → Type 0
  AreHandsWorked [] [] [] = Unit {0}
  AreHandsWorked [] [] (p ∷ piles) = ⊥
  AreHandsWorked [] (h ∷ hands) piles = ⊥
  AreHandsWorked (b ∷ bs) [] piles = ⊥
  AreHandsWorked (b ∷ bs) (h ∷ hands) [] = ⊥
  AreHandsWorked (b ∷ bs) (h ∷ hands) (p ∷ piles) = AreExpanded lt up refuses b.0 b.1 h p × AreHandsWorked bs hands piles

  hands_worked_more : (bs : List (ℕ × ℕ)) (hands : List (List (Slot T N L E))) (piles : List (List (List (Piece T N L E)))) (b : ℕ × ℕ) (h : List
      (Slot T N L E)) (p : List (List (Piece T N L E))) → AreHandsWorked bs hands piles → AreExpanded lt up refuses b.0 b.1 h p →
      AreHandsWorked (bs ++ b ∷ []) (hands ++ h ∷ []) (piles ++ p ∷ [])
  hands_worked_more [] [] [] b h p a e = (e, tt)
  hands_worked_more [] [] (q ∷ piles) b h p a e = absurd a
  hands_worked_more [] (g ∷ hands) piles b h p a e = absurd a
  hands_worked_more (c ∷ bs) [] piles b h p a e = absurd a
  hands_worked_more (c ∷ bs) (g ∷ hands) [] b h p a e = absurd a
  hands_worked_more (c ∷ bs) (g ∷ hands) (q ∷ piles) b h p a e = (a.0, hands_worked_more bs hands piles b h p a.1 e)

  -- the room of all batches
  abbrev total : List (ℕ × ℕ) → ℕ
  total [] = 0
  total (b ∷ bs) = b.1 + total bs

  total_more : (bs : List (ℕ × ℕ)) (b : ℕ × ℕ) → total (bs ++ b ∷ []) ≡ total bs + b.1
  total_more [] b = omega arith
  total_more (c ∷ bs) b = (let k = total_more bs b in omega (arith, k))

  total_even : (due times room : ℕ) → total (replicate due (times, room)) ≡ due * room
  total_even zero times room = omega arith
  total_even (suc due) times room = (let k = total_even due times room in let x = suc-mul due room in omega (arith, k, x))

  -- the first cell is worked on, and the next batch's turn comes
  waved_dealt : (m : ℕ) (olds tail : List (Piece T N L E)) (slots : List (Slot T N L E)) (bs : List (ℕ × ℕ)) (hands : List (List (Slot T N L E))) (piles : List
      (List (List (Piece T N L E)))) → IsPlanned m olds slots tail → IsDealt slots hands → AreHandsWorked bs hands piles →
      IsWaved lt up refuses m bs olds (gather m piles ++ tail) × (length (gather m piles ++ tail) ≤ length olds + total bs)
  waved_dealt zero olds tail slots bs hands piles p d a = (p.1, let k : length tail ≡ length olds = ap length p.1 in omega (arith, k))
  waved_dealt (suc m) olds tail slots bs hands piles p d a =
      at_first (λ cs gs qs e b. waved_dealt m (behind_batch 8 1 olds) tail p.1 cs gs qs p.5 e b) bs hands piles (subst (λ x. IsDealt x hands) p.2 d) a
    where
      at_pile : ((bs : List (ℕ × ℕ)) (hands : List (List (Slot T N L E))) (piles : List (List (List (Piece T N L E)))) → IsDealt p.1 hands →
          AreHandsWorked bs hands piles → IsWaved lt up refuses m bs (behind_batch 8 1 olds) (gather m piles ++ tail) ×
          (length (gather m piles ++ tail) ≤ length (behind_batch 8 1 olds) + total bs)) → (b : ℕ × ℕ) (bs : List (ℕ × ℕ)) (hands : List (List (Slot T N L E)))
          (q : List (List (Piece T N L E))) (piles : List (List (List (Piece T N L E)))) (rest : List (Slot T N L E)) →
          AreExpanded lt up refuses b.0 b.1 (p.0 ∷ rest) q → IsDealt p.1 (hands ++ rest ∷ []) → AreHandsWorked bs hands piles →
          IsWaved lt up refuses (suc m) (b ∷ bs) olds (gather (suc m) (q ∷ piles) ++ tail) × (length (gather (suc m) (q ∷ piles) ++ tail) ≤ length olds +
          total (b ∷ bs))
      at_pile go b bs hands [] piles rest e d a = absurd e
      at_pile go b bs hands (row ∷ rows) piles rest e d a =
          let j = e.0 in
          let i = e.1 in
          let few = e.3 in
          let news = gather m (piles ++ rows ∷ []) in
          let k = go (bs ++ (j, min i 56) ∷ []) (hands ++ rest ∷ []) (piles ++ rows ∷ []) d (hands_worked_more bs hands piles (j, min i 56) rest rows a e.4) in
          let whole = append_assoc row news tail in
          let bound = k.1 in
          let sum = total_more bs (j, min i 56) in
          let cut = cut_length 8 1 olds in
          let slot = ap length p.4 in
          let long = ap length whole in
          let parts = length-append row (news ++ tail) in (
            (row, news ++ tail, j, i, whole, subst (λ x. ExpandsOn lt up refuses b.0 b.1 x j i row) p.4 e.2, k.0),
            omega (arith, few, bound, sum, cut, slot, long, parts),
          )

      at_first : ((bs : List (ℕ × ℕ)) (hands : List (List (Slot T N L E))) (piles : List (List (List (Piece T N L E)))) → IsDealt p.1 hands →
          AreHandsWorked bs hands piles → IsWaved lt up refuses m bs (behind_batch 8 1 olds) (gather m piles ++ tail) ×
          (length (gather m piles ++ tail) ≤ length (behind_batch 8 1 olds) + total bs)) → (bs : List (ℕ × ℕ)) (hands : List (List (Slot T N L E)))
          (piles : List (List (List (Piece T N L E)))) → IsDealt (p.0 ∷ p.1) hands → AreHandsWorked bs hands piles →
          IsWaved lt up refuses (suc m) bs olds (gather (suc m) piles ++ tail) × (length (gather (suc m) piles ++ tail) ≤ length olds + total bs)
      at_first go bs [] piles d a = absurd d
      at_first go [] (h ∷ hands) piles d a = absurd a
      at_first go (b ∷ bs) (h ∷ hands) [] d a = absurd a
      at_first go (b ∷ bs) (h ∷ hands) (q ∷ piles) d a = at_pile go b bs hands q piles d.0 (subst (λ x. AreExpanded lt up refuses b.0 b.1 x q) d.1 a.0) d.2 a.1

  -- batch by batch from index by index
  worked_hands : (times room : ℕ) (js ds : List (Batch T N L E)) → length ds ≡ length js →
      ((i : ℕ) (d : Batch T N L E) → i < length js → IsWorked lt up refuses times room (get_or js i d) (get_or ds i d)) →
      AreHandsWorked (replicate (length js) (times, room)) (hands_of js) (piles_of ds)
  worked_hands times room [] [] e z = tt
  worked_hands times room [] (d ∷ ds) e z = absurd (omega (arith, e))
  worked_hands times room (j ∷ js) [] e z = absurd (omega (arith, e))
  worked_hands times room (j ∷ js) (d ∷ ds) e z =
      (z zero j (omega arith), worked_hands times room js ds (omega (arith, e)) (λ i x h. z (suc i) x (omega (arith, h))))

  -- a row that is cut up into cells, dealt out, worked on by batch and put together again
  pub wave_of : (due times room m : ℕ) (olds tail : List (Piece T N L E)) (slots : List (Slot T N L E)) (js ds : List (Batch T N L E)) (n : ℕ) → m ≡ due * 12 →
      IsPlanned m olds slots tail → IsDealt slots (hands_of js) → length js ≡ n → n ≡ due → length ds ≡ length js →
      ((i : ℕ) (d : Batch T N L E) → i < length js → IsWorked lt up refuses times room (get_or js i d) (get_or ds i d)) →
      IsWaved lt up refuses (due * 12) (replicate due (times, room)) olds (gather (due * 12) (piles_of ds) ++ tail) ×
      (length (gather (due * 12) (piles_of ds) ++ tail) ≤ length olds + due * room)
  wave_of due times room m olds tail slots js ds n e planned dealt long count same each =
      let worked = subst (λ x. AreHandsWorked (replicate x (times, room)) (hands_of js) (piles_of ds))
      (long ∙ count) (worked_hands times room js ds same each) in
      let k = waved_dealt (due * 12) olds tail slots (replicate due (times, room)) (hands_of js) (piles_of ds)
      (subst (λ x. IsPlanned x olds slots tail) e planned) dealt worked in
      let bound = k.1 in
      let sum = total_even due times room in
      (k.0, omega (arith, bound, sum))

-- ---- putting together

module _ {T N L E : Type 0} where
  piles_more : (js : List (Batch T N L E)) (j : Batch T N L E) → piles_of (js ++ j ∷ []) ≡ piles_of js ++ worked_rows j ∷ []
  piles_more [] j = refl
  piles_more (i ∷ js) j = ap (λ x. worked_rows i ∷ x) (piles_more js j)

  gather_next : (k : ℕ) (p : List (List (Piece T N L E))) (piles : List (List (List (Piece T N L E)))) →
      gather (suc k) (p ∷ piles) ≡ get_or p 0 [] ++ gather k (piles ++ drop 1 p ∷ [])
  gather_next k [] piles = refl
  gather_next k (row ∷ rows) piles = refl

  -- the first batch's next row, if there is one, and then the others'
  gathered_next : (m k : ℕ) (batches rest news : List (Batch T N L E)) (j d : Batch T N L E) → m ≡ suc k → batches ≡ j ∷ rest → news ≡ rest ++ d ∷ [] →
      worked_rows d ≡ drop 1 (worked_rows j) → gather m (piles_of batches) ≡ get_or (worked_rows j) 0 [] ++ gather k (piles_of news)
  gathered_next m k batches rest news j d e f g h =
      ap (λ x. gather x (piles_of batches)) e ∙ ap (λ x. gather (suc k) (piles_of x)) f ∙ gather_next k (worked_rows j) (piles_of rest) ∙
      ap (λ x. get_or (worked_rows j) 0 [] ++ gather k (piles_of rest ++ x ∷ [])) (sym h) ∙ ap (λ x. get_or (worked_rows j) 0 [] ++ gather k x)
      (sym (ap piles_of g ∙ piles_more rest d))

  -- it is put behind a row
  pub gathered_more : (m k : ℕ) (batches rest news : List (Batch T N L E)) (j d : Batch T N L E) (row more whole : List (Piece T N L E)) → m ≡ suc k →
      batches ≡ j ∷ rest → news ≡ rest ++ d ∷ [] → worked_rows d ≡ drop 1 (worked_rows j) → more ≡ row ++ get_or (worked_rows j) 0 [] →
      row ++ gather m (piles_of batches) ≡ whole → more ++ gather k (piles_of news) ≡ whole
  gathered_more m k batches rest news j d row more whole e f g h on all =
      ap (λ x. x ++ gather k (piles_of news)) on ∙ append_assoc row (get_or (worked_rows j) 0 []) (gather k (piles_of news)) ∙
      ap (λ x. row ++ x) (sym (gathered_next m k batches rest news j d e f g h)) ∙ all

  -- and is no longer than all
  pub gathered_fits : (m k : ℕ) (batches rest : List (Batch T N L E)) (j : Batch T N L E) (row whole : List (Piece T N L E)) → m ≡ suc k → batches ≡ j ∷ rest →
      row ++ gather m (piles_of batches) ≡ whole → length row + length (get_or (worked_rows j) 0 []) ≤ length whole
  gathered_fits m k batches rest j row whole e f all =
      let first = get_or (worked_rows j) 0 [] in
      let back = gather k (piles_of rest ++ drop 1 (worked_rows j) ∷ []) in
      let parts = ap length (ap (λ x. gather x (piles_of batches)) e ∙ ap (λ x. gather (suc k) (piles_of x)) f ∙ gather_next k (worked_rows j)
      (piles_of rest)) in
      let both = length-append first back in
      let long = ap length all in
      let sum = length-append row (gather m (piles_of batches)) in
      omega (arith, parts, both, long, sum)
