-- The parts along a vector, as they are kept: one member after another.
-- To cite: AreTermsAlone, passed_alone, passed_alone_more, alone_end, split_none, split_more, split_end, mark_added, part_added, parts_none, parts_more,
-- pushed, at_kept, at_last, split_size, split_alone.
use Rattle.std.proofs.Common.{◌≡◌, ◌⊎◌, ℕ, ◌+◌, ◌<◌, ◌≤◌, true, false, eqb, List, [], ◌∷◌, ◌++◌, length, take, get_or, ℤ, Option, None, Some, IfSome, arith}
use Rattle.std.proofs.Common.{refl, sym, ap, ◌∙◌, subst, inl, inr}
use Rattle.std.proofs.lemmas.Bool.{cases_eq, cases_lt, ne_eqb}
use Rattle.std.proofs.lemmas.List.{take_more, take_all, length-take-le, length-append, map_push, get_or_append_left, get_or_push}
use Rattle.gf_exponents_theory.specs.Exponents.{Exponents, same}
use Rattle.gf_exponents_theory.proofs.ExponentsLaws.{same_trans, same_of}
use Rattle.gf_poly.specs.declared.Term.{Term}
use Rattle.gf_poly.specs.Polynomial.{Terms}
use Rattle.gf_poly.specs.Marking.{MarkedPolynomial, Each, head_of}
use Rattle.gf_ideal_theory.specs.OrderTable.{AreMultipleApart}
use Rattle.gf_ideal_theory.specs.Settled.{IsAt}
use Rattle.gf_ideal_theory.proofs.ListedTerms.{listed}
use Rattle.gf_ideal_theory.proofs.ListLaws.{Each-++}
use Rattle.gf_division.proofs.TailLaws.{head_at}
use Rattle.gf_initial_theory.proofs.ClassLaws.{multiple-grading}
use Rattle.gf_strands.specs.declared.along.Split.{Split}
use Rattle.gf_strands.specs.Along.{HasNonzero}
use Rattle.gf_strands.specs.declared.strands.Part.{Part}
use Rattle.gf_strands.specs.Strands.{IsPartOf, IsPartOnStrand, ArePartsOnStrands, AreSpots, AreFalling, strand_terms, terms_of_part, terms_of_parts}
use Rattle.gf_strands.specs.Splits.{IsAlone, IsAloneAt, AreSplit, IsSplitOn}

-- ---- the terms of a member, one after another

-- the term is at the mark h, or no multiple of a apart from it
abbrev pub IsTermAlone : List ℤ → Exponents → Term → Type 0
IsTermAlone a h t = (same t.mono h ≡ true) ⊎ (AreMultipleApart a t.mono h → ⊥)

-- so are the terms before the index k
abbrev pub AreTermsAlone : List ℤ → Exponents → ℕ → Terms → Type 0
AreTermsAlone a h k f = Each (IsTermAlone a h) (take k f)

pub passed_alone : (a : List ℤ) (h : Exponents) (b : MarkedPolynomial) (k m : ℕ) (f : Terms) (t : Term) → h ≡ b.head → f ≡ b.poly → k < length f →
    t ≡ get_or f k t → head_of b.poly m ≡ b.head → (eqb k m ≡ false → AreMultipleApart a t.mono h → ⊥) → IsTermAlone a b.head t
passed_alone a h b k m f t eh q l e p n = at (cases_eq k m)
  where
    at : (k ≡ m) ⊎ (k ≡ m → ⊥) → IsTermAlone a b.head t
    at (inl r) = inl (same_of t.mono b.head (sym (head_at f k t l e) ∙ ap (λ (z : Terms). head_of z k) q ∙ ap (head_of b.poly) r ∙ p))
    at (inr r) = inr (λ s. n (ne_eqb k m r) (subst (AreMultipleApart a t.mono) (sym eh) s))

pub passed_alone_more : (a : List ℤ) (h : Exponents) (k : ℕ) (f : Terms) (t : Term) → k < length f → t ≡ get_or f k t → IsTermAlone a h t →
    AreTermsAlone a h k f → AreTermsAlone a h (k + 1) f
passed_alone_more a h k f t l e p c = subst (Each (IsTermAlone a h)) (sym (take_more f k t l ∙ ap (λ (z : Term). take k f ++ z ∷ []) (sym e)))
    (Each-++ (IsTermAlone a h) (take k f) (t ∷ []) c (p, tt))

-- all of them are
pub alone_end : (a : List ℤ) (b : MarkedPolynomial) (k : ℕ) (f : Terms) → HasNonzero a → f ≡ b.poly → length f ≤ k → AreTermsAlone a b.head k f → IsAlone a b
alone_end a b k f z q n h x m s = at (listed (IsTermAlone a b.head) b.poly x all m)
  where
    all : Each (IsTermAlone a b.head) b.poly
    all = subst (Each (IsTermAlone a b.head)) (take_all k f n ∙ q) h

    at : (t : Term) × IsTermAlone a b.head t × (same x t.mono ≡ true) → same x b.head ≡ true
    at t = let g = multiple-grading a z in elim t.1 [
      | inl r ↦ same_trans x t.0.mono b.head t.2 r
      | inr r ↦ absurd (r (g.transitive t.0.mono x b.head (g.symmetric x t.0.mono (g.along x t.0.mono t.2)) s))
    ]

-- ---- the members, one after another

pub split_none : (a : List ℤ) (indices : List ℕ) (xs : List Exponents) (ps : List Part) → indices ≡ [] → xs ≡ [] → ps ≡ [] →
    AreSplit a [] indices xs (terms_of_parts a ps)
split_none a indices xs ps p q r =
    subst (λ (z : List ℕ). AreSplit a [] z xs (terms_of_parts a ps)) (sym p)
    (subst (λ (z : List Exponents). AreSplit a [] [] z (terms_of_parts a ps)) (sym q)
    (subst (λ (z : List Part). AreSplit a [] [] [] (terms_of_parts a z)) (sym r) AreSplit.none))

pub split_more : (a : List ℤ) (bs : List MarkedPolynomial) (i : ℕ) (b : MarkedPolynomial) (old new : Split) → i < length bs → b ≡ get_or bs i b →
    IsSplitOn a i b old new → AreSplit a (take i bs) old.indices.items old.marks.items (terms_of_parts a old.list.items) →
    AreSplit a (take (i + 1) bs) new.indices.items new.marks.items (terms_of_parts a new.list.items)
split_more a bs i b old new l q s h = subst (λ (z : List MarkedPolynomial). AreSplit a z new.indices.items new.marks.items (terms_of_parts a new.list.items))
    (sym (take_more bs i b l ∙ ap (λ (z : MarkedPolynomial). take i bs ++ z ∷ []) (sym q))) (at s)
  where
    size : length (take i bs) ≡ i
    size = length-take-le i bs (omega arith)

    at : IsSplitOn a i b old new → AreSplit a (take i bs ++ b ∷ []) new.indices.items new.marks.items (terms_of_parts a new.list.items)
    at (IsSplitOn.alone o ep ex ef) =
        subst (λ (z : List ℕ). AreSplit a (take i bs ++ b ∷ []) z new.marks.items (terms_of_parts a new.list.items))
        (ap (λ (k : ℕ). old.indices.items ++ k ∷ []) size ∙ sym ep)
        (subst (λ (z : List Exponents). AreSplit a (take i bs ++ b ∷ []) (old.indices.items ++ length (take i bs) ∷ []) z (terms_of_parts a new.list.items))
        (sym ex)
        (subst (λ (z : List Part). AreSplit a (take i bs ++ b ∷ []) (old.indices.items ++ length (take i bs) ∷ []) (old.marks.items ++ b.head ∷
        []) (terms_of_parts a z)) (sym ef)
        (AreSplit.alone (take i bs) old.indices.items old.marks.items (terms_of_parts a old.list.items) b h o)))
    at (IsSplitOn.part p pi pb w t on falling ep ex ef) =
        subst (λ (z : List ℕ). AreSplit a (take i bs ++ b ∷ []) z new.marks.items (terms_of_parts a new.list.items)) (sym ep)
        (subst (λ (z : List Exponents). AreSplit a (take i bs ++ b ∷ []) old.indices.items z (terms_of_parts a new.list.items)) (sym ex)
        (subst (λ (z : List Terms). AreSplit a (take i bs ++ b ∷ []) old.indices.items old.marks.items z)
        (sym (ap (terms_of_parts a) ef ∙ map_push (terms_of_part a) old.list.items p))
        (AreSplit.part (take i bs) old.indices.items old.marks.items (terms_of_parts a old.list.items) b (terms_of_part a p) h t)))

-- all of them
pub split_end : (a : List ℤ) (bs : List MarkedPolynomial) (i : ℕ) (s : Split) → length bs ≤ i →
    AreSplit a (take i bs) s.indices.items s.marks.items (terms_of_parts a s.list.items) → AreSplit a bs s.indices.items s.marks.items
    (terms_of_parts a s.list.items)
split_end a bs i s l h = subst (λ (z : List MarkedPolynomial). AreSplit a z s.indices.items s.marks.items (terms_of_parts a s.list.items)) (take_all i bs l) h

-- an index and a mark are added, or a part, if there is memory
pub mark_added : (a : List ℤ) (i : ℕ) (b : MarkedPolynomial) (old new : Split) (h : Exponents) (r : Option (Unit {0})) → IsAlone a b → h ≡ b.head →
    IfSome r (λ _. new.indices.items ≡ old.indices.items ++ i ∷ []) → IfSome r (λ _. new.marks.items ≡ old.marks.items ++ h ∷ []) →
    IfSome r (λ _. new.list.items ≡ old.list.items) → IfSome r (λ _. IsSplitOn a i b old new)
mark_added a i b old new h None o e p m l = tt
mark_added a i b old new h (Some x) o e p m l = IsSplitOn.alone o p (m ∙ ap (λ (z : Exponents). old.marks.items ++ z ∷ []) e) l

pub part_added : (a : List ℤ) (i : ℕ) (b : MarkedPolynomial) (old new : Split) (q : Part) (r : Option (Unit {0})) → q.index ≡ i → q.base ≡ b.head →
    length q.base ≡ length a → IsPartOf a b (strand_terms a b.head q.points.items) → AreSpots a b.head q.points.items → AreFalling q.points.items →
    IfSome r (λ _. new.indices.items ≡ old.indices.items) → IfSome r (λ _. new.marks.items ≡ old.marks.items) →
    IfSome r (λ _. new.list.items ≡ old.list.items ++ q ∷ []) → IfSome r (λ _. IsSplitOn a i b old new)
part_added a i b old new q None ei eb w t on falling p m l = tt
part_added a i b old new q (Some x) ei eb w t on falling p m l = IsSplitOn.part q ei eb w
    (subst (λ (z : Exponents). IsPartOf a b (strand_terms a z q.points.items)) (sym eb) t) (subst (λ (z : Exponents). AreSpots a z q.points.items) (sym eb) on)
    falling p m l

-- each part is of the member at its index
pub parts_none : (a : List ℤ) (bs : List MarkedPolynomial) (ps : List Part) → ps ≡ [] → ArePartsOnStrands a bs ps
parts_none a bs ps e = subst (ArePartsOnStrands a bs) (sym e) tt

pub parts_more : (a : List ℤ) (bs : List MarkedPolynomial) (i : ℕ) (b : MarkedPolynomial) (old new : Split) → i < length bs → b ≡ get_or bs i b →
    IsSplitOn a i b old new → ArePartsOnStrands a bs old.list.items → ArePartsOnStrands a bs new.list.items
parts_more a bs i b old new l q (IsSplitOn.alone o ep ex ef) h = subst (ArePartsOnStrands a bs) (sym ef) h
parts_more a bs i b old new l q (IsSplitOn.part p pi pb w t on falling ep ex ef) h =
    subst (ArePartsOnStrands a bs) (sym ef) (Each-++ (IsPartOnStrand a bs) old.list.items (p ∷ []) h (
      record {
        member = b;
        at = subst (λ (k : ℕ). IsAt bs k b) (sym pi) (record { within = l; is = sym q });
        base = pb;
        width = w;
        part = t;
        on = on;
        falling = falling;
      },
      tt,
    ))

-- ---- what stands at an index

pub pushed : {A : Type 0} (xs : List A) (x : A) → length (xs ++ x ∷ []) ≡ length xs + 1
pushed xs x = length-append xs (x ∷ [])

-- a member at an index stays there
pub at_kept : (bs : List MarkedPolynomial) (b c : MarkedPolynomial) (i : ℕ) → IsAt bs i c → IsAt (bs ++ b ∷ []) i c
at_kept bs b c i h = record { within = omega (arith, h.within, pushed bs b); is = get_or_append_left bs (b ∷ []) c i h.within ∙ h.is }

-- the last one
pub at_last : (bs : List MarkedPolynomial) (b : MarkedPolynomial) → IsAt (bs ++ b ∷ []) (length bs) b
at_last bs b = record { within = omega (arith, pushed bs b); is = get_or_push bs b b (length bs) refl }

pub split_size : (a : List ℤ) (bs : List MarkedPolynomial) (indices : List ℕ) (xs : List Exponents) (fs : List Terms) → AreSplit a bs indices xs fs →
    length xs ≡ length indices
split_size a bs indices xs fs AreSplit.none = refl
split_size a bs indices xs fs (AreSplit.alone cs ps ys gs b h o) =
    pushed ys b.head ∙ ap (λ (k : ℕ). k + 1) (split_size a cs ps ys gs h) ∙ sym (pushed ps (length cs))
split_size a bs indices xs fs (AreSplit.part cs ps ys gs b f h p) = split_size a cs ps ys gs h

alone_kept : (a : List ℤ) (bs : List MarkedPolynomial) (b : MarkedPolynomial) (p : ℕ) (x : Exponents) → IsAloneAt a bs p x → IsAloneAt a (bs ++ b ∷ []) p x
alone_kept a bs b p x h = record { member = h.member; at = at_kept bs b h.member p h.at; head = h.head; alone = h.alone }

-- the members at the indices have the marks
pub split_alone : (a : List ℤ) (bs : List MarkedPolynomial) (indices : List ℕ) (xs : List Exponents) (fs : List Terms) → AreSplit a bs indices xs fs → (i : ℕ) →
    i < length indices → IsAloneAt a bs (get_or indices i 0) (get_or xs i [])
split_alone a bs indices xs fs AreSplit.none i l = absurd (omega (arith, l))
split_alone a bs indices xs fs (AreSplit.alone cs ps ys gs b h o) i l = at (cases_lt i (length ps)) (λ m. split_alone a cs ps ys gs h i m)
  where
    size : length ys ≡ length ps
    size = split_size a cs ps ys gs h

    at : (i < length ps) ⊎ (length ps ≤ i) → (i < length ps → IsAloneAt a cs (get_or ps i 0) (get_or ys i [])) →
        IsAloneAt a (cs ++ b ∷ []) (get_or (ps ++ length cs ∷ []) i 0) (get_or (ys ++ b.head ∷ []) i [])
    at (inl m) r =
        subst (λ (k : ℕ). IsAloneAt a (cs ++ b ∷ []) k (get_or (ys ++ b.head ∷ []) i [])) (sym (get_or_append_left ps (length cs ∷ []) 0 i m))
        (subst (IsAloneAt a (cs ++ b ∷ []) (get_or ps i 0)) (sym (get_or_append_left ys (b.head ∷ []) [] i (omega (arith, m, size))))
        (alone_kept a cs b (get_or ps i 0) (get_or ys i []) (r m)))
    at (inr m) r =
        let e : length ps ≡ i = omega (arith, l, m, pushed ps (length cs)) in
        subst (λ (k : ℕ). IsAloneAt a (cs ++ b ∷ []) k (get_or (ys ++ b.head ∷ []) i [])) (sym (get_or_push ps (length cs) 0 i e))
        (subst (IsAloneAt a (cs ++ b ∷ []) (length cs)) (sym (get_or_push ys b.head [] i (size ∙ e)))
        (record { member = b; at = at_last cs b; head = refl; alone = o }))
split_alone a bs indices xs fs (AreSplit.part cs ps ys gs b f h p) i l = alone_kept a cs b (get_or ps i 0) (get_or ys i []) (split_alone a cs ps ys gs h i l)
