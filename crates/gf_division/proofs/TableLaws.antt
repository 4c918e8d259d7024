-- A table of coefficients: where a key stands, what a new coefficient there makes of the terms, and the steps.
-- To cite: new_more, taken_there, taken_new, refused_there, cut_at, subtracting-none, table_step, table_refused, stepped,
-- less_stepped, ended.
use Rattle.std.specs.Prelude.{◌≡◌, ◌≢◌, ◌<◌, ◌^◌, ℕ, List, [], ◌∷◌, ◌++◌, length, cond, Some, None, Ok, Err}
use Rattle.std.specs.declared.option.Option.{Option}
use Rattle.std.specs.Ordering.{match_ordering, is_eq, ordering_reverse}
use Rattle.std.specs.declared.cmp.Ordering.{Ordering}
use Rattle.std.specs.declared.cmp.Ordering.TheVariants.{Less, Equal, Greater}
use Rattle.std.specs.BTreeMap.{insert_entry, is_at}
use Rattle.std.specs.Map.{remove_entry}
use Rattle.std.proofs.Common.{refl, sym, ap, ◌∙◌, subst, inl, inr, get_or, drop, append_assoc, append-nil}
use Rattle.std.proofs.lemmas.Cmp.{tied_itself}
use Rattle.gf_frac.specs.Fraction.{Fraction, ◌-ℚ◌, neg_ℚ, zero_ℚ}
use Rattle.gf_exponents_theory.specs.Exponents.{Exponents, plus, Divides}
use Rattle.gf_exponents_theory.specs.Orders.{deglex, lighter}
use Rattle.gf_poly.specs.declared.Term.{Term}
use Rattle.gf_poly.specs.declared.TheConstants.{ROOM}
use Rattle.gf_poly.specs.declared.error.PolyError.{PolyError}
use Rattle.gf_poly.specs.Polynomial.{Terms, coefficient, times, IsAbove, IsDescending, HasVariables}
use Rattle.gf_poly.specs.Marking.{MarkedPolynomial}
use Rattle.gf_poly.proofs.DescendingLaws.{deglex-total, equal_same}
use Rattle.gf_ideal_theory.specs.Marks.{AreMarked}
use Rattle.gf_ideal_theory.specs.Measure.{work_left}
use Rattle.gf_division.specs.declared.table.Key.{Key}
use Rattle.gf_division.specs.Steps.{IsStepRefusal}
use Rattle.gf_division.specs.Dividends.{Split, joined_terms, IsSound, IsTermInFront, AreOver, FirstIs, Descends, TakesFromFirst, TakesAway, IsDifferenceRefusal}
use Rattle.gf_division.specs.Dividends.{Subtracts, IsSubtractionRefusal, TakesStep}
use Rattle.gf_division.specs.Reducers.{IsReducibleFirst, ShareVariables}
use Rattle.gf_division.specs.Remainders.{IsWorkedOn}
use Rattle.gf_division.specs.Tables.{key_order, terms_in, coefficient_in, Puts, IsCutBefore, StepsFrom, IsReducibleAt}
use Rattle.gf_division.proofs.DescendingParts.{descending-back}
use Rattle.gf_division.proofs.SubtractionLaws.{Subtracting, neg-nonzero, taken_at, taken_beside, refused_at}
use Rattle.gf_division.proofs.DividendLaws.{first_head, first_coefficient, first_nonzero, first_length}
use Rattle.gf_division.proofs.StepLaws.{sound_along, step_facts, step_refused}
use Rattle.gf_division.proofs.RuleLaws.{Found, share_along, found_at}
use Rattle.gf_division.proofs.RemainderLaws.{worked-more, worked-same, worked_along, less_found}
use Rattle.gf_division.proofs.SPolynomialLaws.{over_nothing}

-- ---- one entry

-- the term of an entry
abbrev pub term_of : Key → Fraction → Term
term_of k c = record { coef = c; mono = k.mono }

-- an entry stands at the key
record Present (k : Key) (es : List (Key × Fraction)) (c : Fraction) : Type 0 where
  before : Terms
  after : Terms
  is : terms_in es ≡ before ++ record { coef = c; mono = k.mono } ∷ after
  over : AreOver k.mono before
  put : (v : Fraction) → terms_in (insert_entry key_order es k v) ≡ before ++ record { coef = v; mono = k.mono } ∷ after
  gone : terms_in (remove_entry (is_at (key_order k)) es) ≡ before ++ after

-- none does
record Absent (k : Key) (es : List (Key × Fraction)) : Type 0 where
  before : Terms
  after : Terms
  is : terms_in es ≡ before ++ after
  over : AreOver k.mono before
  first : FirstIs after k.mono Less
  put : (v : Fraction) → terms_in (insert_entry key_order es k v) ≡ before ++ record { coef = v; mono = k.mono } ∷ after

-- what is above a list is greater than a term of it
above_midst : (x : Exponents) (f g : Terms) (t : Term) → IsAbove x (f ++ t ∷ g) → deglex x t.mono ≡ Greater
above_midst x [] g t a = a.0
above_midst x (s ∷ f) g t a = above_midst x f g t a.1

present : (k : Key) (es : List (Key × Fraction)) (c : Fraction) → IsDescending (terms_in es) → coefficient_in k es ≡ Some c → Present k es c
present k [] c d h = absurd (cc)
present k (e ∷ es) c d h = at (λ q. present k es c d.2 q) (key_order k e.0) refl
  where
    look : (o : Ordering) → key_order k e.0 ≡ o → cond (is_eq o) (Some e.1) (coefficient_in k es) ≡ Some c
    look o q = ap (λ (p : Ordering). cond (is_eq p) (Some e.1) (coefficient_in k es)) (sym q) ∙ h

    into : (v : Fraction) (o : Ordering) → key_order k e.0 ≡ o →
        terms_in (insert_entry key_order (e ∷ es) k v) ≡ terms_in (match_ordering o ((k, v) ∷ e ∷ es) ((e.0, v) ∷ es) (e ∷ insert_entry key_order es k v))
    into v o q = ap (λ (p : Ordering). terms_in (match_ordering p ((k, v) ∷ e ∷ es) ((e.0, v) ∷ es) (e ∷ insert_entry key_order es k v))) q

    out : (o : Ordering) → key_order k e.0 ≡ o → terms_in (remove_entry (is_at (key_order k)) (e ∷ es)) ≡ terms_in (cond (is_eq o) es
        (e ∷ remove_entry (is_at (key_order k)) es))
    out o q = ap (λ (p : Ordering). terms_in (cond (is_eq p) es (e ∷ remove_entry (is_at (key_order k)) es))) q

    t : Term
    t = term_of e.0 e.1

    at : (coefficient_in k es ≡ Some c → Present k es c) → (o : Ordering) → key_order k e.0 ≡ o → Present k (e ∷ es) c
    at later Less q =
        let r = later (look Less q) in
        let z : Less ≡ Greater = sym q ∙ above_midst e.0.mono r.before r.after (term_of k c) (subst (IsAbove e.0.mono) r.is d.1) in
        absurd (cc)
    at later Equal q =
        let s : e.0.mono ≡ k.mono = equal_same e.0.mono k.mono q in
        let v : e.1 ≡ c = some_same (look Equal q) in
        record {
          before = [];
          after = terms_in es;
          is = λ i. record { coef = v i; mono = s i } ∷ terms_in es;
          over = tt;
          put = λ w. into w Equal q ∙ ap (λ (m : Exponents). record { coef = w; mono = m } ∷ terms_in es) s;
          gone = out Equal q;
        }
      where
        some_same : {a b : Fraction} → Some a ≡ Some b → a ≡ b
        some_same u = cc
    at later Greater q =
        let r = later (look Greater q) in
        record {
          before = t ∷ r.before;
          after = r.after;
          is = ap (λ (z : Terms). t ∷ z) r.is;
          over = (q, r.over);
          put = λ w. into w Greater q ∙ ap (λ (z : Terms). t ∷ z) (r.put w);
          gone = out Greater q ∙ ap (λ (z : Terms). t ∷ z) r.gone;
        }

absent : (k : Key) (es : List (Key × Fraction)) → coefficient_in k es ≡ None → Absent k es
absent k [] h = record { before = []; after = []; is = refl; over = tt; first = refl; put = λ v. refl }
absent k (e ∷ es) h = at (λ q. absent k es q) (key_order k e.0) refl
  where
    look : (o : Ordering) → key_order k e.0 ≡ o → cond (is_eq o) (Some e.1) (coefficient_in k es) ≡ None
    look o q = ap (λ (p : Ordering). cond (is_eq p) (Some e.1) (coefficient_in k es)) (sym q) ∙ h

    into : (v : Fraction) (o : Ordering) → key_order k e.0 ≡ o →
        terms_in (insert_entry key_order (e ∷ es) k v) ≡ terms_in (match_ordering o ((k, v) ∷ e ∷ es) ((e.0, v) ∷ es) (e ∷ insert_entry key_order es k v))
    into v o q = ap (λ (p : Ordering). terms_in (match_ordering p ((k, v) ∷ e ∷ es) ((e.0, v) ∷ es) (e ∷ insert_entry key_order es k v))) q

    t : Term
    t = term_of e.0 e.1

    at : (coefficient_in k es ≡ None → Absent k es) → (o : Ordering) → key_order k e.0 ≡ o → Absent k (e ∷ es)
    at later Less q = record { before = []; after = t ∷ terms_in es; is = refl; over = tt; first = sym q; put = λ v. into v Less q }
    at later Equal q = let z : Some e.1 ≡ None = look Equal q in absurd (cc)
    at later Greater q =
        let r = later (look Greater q) in
        record {
          before = t ∷ r.before;
          after = r.after;
          is = ap (λ (z : Terms). t ∷ z) r.is;
          over = (q, r.over);
          first = r.first;
          put = λ v. into v Greater q ∙ ap (λ (z : Terms). t ∷ z) (r.put v);
        }

-- ---- the first entry

-- a key above all goes before all
put_first : (k : Key) (c : Fraction) (es : List (Key × Fraction)) → IsAbove k.mono (terms_in es) → terms_in (insert_entry key_order es k c) ≡ record {
  coef = c;
  mono = k.mono;
} ∷ terms_in es
put_first k c [] a = refl
put_first k c (e ∷ es) a = ap (λ (o : Ordering). terms_in (match_ordering o ((k, c) ∷ e ∷ es) ((e.0, c) ∷ es) (e ∷ insert_entry key_order es k c))) less
  where
    less : key_order k e.0 ≡ Less
    less = deglex-total.antisymm e.0.mono k.mono ∙ ap ordering_reverse a.0

pub new_more : (f r g : Terms) (t : Term) (es new : List (Key × Fraction)) → IsDescending f → g ≡ r ++ t ∷ [] → g ++ terms_in es ≡ f →
    new ≡ insert_entry key_order es (record { mono = t.mono }) t.coef → r ++ terms_in new ≡ f
new_more f r g t es new d q e n =
    let w : r ++ t ∷ terms_in es ≡ f = sym (append_assoc r (t ∷ []) (terms_in es)) ∙ ap (λ (z : Terms). z ++ terms_in es) (sym q) ∙ e in
    let a = (descending-back r (t ∷ terms_in es) (subst IsDescending (sym w) d)).1 in
    ap (λ (z : Terms). r ++ z) (ap terms_in n ∙ put_first (record { mono = t.mono }) t.coef es a) ∙ w

-- ---- a new coefficient

-- the whole below the index
abbrev pub whole : Terms → Split
whole f = record { above = []; below = f }

relay : (c : Fraction) (x : Exponents) (f g : Terms) (w : Split) → g ≡ joined_terms w → TakesAway c x (whole f) w → TakesAway c x (whole f) (whole g)
relay c x f g w e t = record {
  same = λ y. ap (λ (z : Terms). coefficient z y) e ∙ t.same y;
  sound = record { descending = subst IsDescending (sym e) t.sound.descending; variables = subst (HasVariables (length x)) (sym e) t.sound.variables };
  passed = [];
  above = refl;
  from = tt;
}

-- the index at the key
down : (k : Key) (f g h : Terms) (o : Ordering) → f ≡ g ++ h → AreOver k.mono g → FirstIs h k.mono o → o ≢ Greater →
    Descends k.mono (whole f) (record { above = g; below = h }) o
down k f g h o e a i n = record { passed = g; above = refl; below = e; over = a; first = i; ends = n }

down_there : (k : Key) (es : List (Key × Fraction)) (c : Fraction) (p : Present k es c) →
    Descends k.mono (whole (terms_in es)) (record { above = p.before; below = record { coef = c; mono = k.mono } ∷ p.after }) Equal
down_there k es c p = down k (terms_in es) p.before (record { coef = c; mono = k.mono } ∷ p.after) Equal p.is p.over (sym (tied_itself deglex-total k.mono))
    (λ z. absurd (cc))

pub taken_there : (k : Key) (es new : List (Key × Fraction)) (a c v : Fraction) → IsSound (length k.mono) (whole (terms_in es)) → coefficient_in k es ≡ Some a →
    v ≡ a -ℚ c → Puts k v es new → TakesAway c k.mono (whole (terms_in es)) (whole (terms_in new))
taken_there k es new a c v s h e p = at p
  where
    r : Present k es a
    r = present k es a s.descending h

    t : Term
    t = record { coef = a; mono = k.mono }

    u : Term
    u = record { coef = a -ℚ c; mono = k.mono }

    go : (w : Split) → terms_in new ≡ joined_terms w → TakesFromFirst c (record { above = r.before; below = t ∷ r.after }) w →
        TakesAway c k.mono (whole (terms_in es)) (whole (terms_in new))
    go w q f = relay c k.mono (terms_in es) (terms_in new) w q
        (taken_at {E = Unit {0}} c k.mono (whole (terms_in es)) (record { above = r.before; below = t ∷ r.after }) w Equal (Ok tt) refl s tt
        (down_there k es a r) f)

    at : Puts k v es new → TakesAway c k.mono (whole (terms_in es)) (whole (terms_in new))
    at (inl z) =
        go (record { above = r.before; below = r.after }) (ap terms_in z.1 ∙ r.gone) (record { term = t; below = refl; above = inl (sym e ∙ z.0, refl) })
    at (inr z) = go (record { above = r.before ++ u ∷ []; below = r.after })
        (ap terms_in z.1 ∙ r.put v ∙ ap (λ b. r.before ++ record { coef = b; mono = k.mono } ∷ r.after) e ∙ sym (append_assoc r.before (u ∷ []) r.after))
        (record { term = t; below = refl; above = inr (subst (λ b. b ≢ zero_ℚ) e z.0, refl) })

pub taken_new : (k : Key) (es new : List (Key × Fraction)) (c v : Fraction) → IsSound (length k.mono) (whole (terms_in es)) → coefficient_in k es ≡ None →
    c ≢ zero_ℚ → v ≡ neg_ℚ c → Puts k v es new → TakesAway c k.mono (whole (terms_in es)) (whole (terms_in new))
taken_new k es new c v s h n e p = at p
  where
    r : Absent k es
    r = absent k es h

    u : Term
    u = record { coef = neg_ℚ c; mono = k.mono }

    w : Split
    w = record { above = r.before ++ u ∷ []; below = r.after }

    d : Descends k.mono (whole (terms_in es)) (record { above = r.before; below = r.after }) Less
    d = down k (terms_in es) r.before r.after Less r.is r.over r.first (λ z. absurd (cc))

    at : Puts k v es new → TakesAway c k.mono (whole (terms_in es)) (whole (terms_in new))
    at (inl z) = absurd (neg-nonzero c n (sym e ∙ z.0))
    at (inr z) = relay c k.mono (terms_in es) (terms_in new) w
        (ap terms_in z.1 ∙ r.put v ∙ ap (λ b. r.before ++ record { coef = b; mono = k.mono } ∷ r.after) e ∙ sym (append_assoc r.before (u ∷ []) r.after))
        (taken_beside c k.mono (whole (terms_in es)) (record { above = r.before; below = r.after }) w Less u (λ z. absurd (cc)) n refl s tt d refl refl)

pub refused_there : (k : Key) (es : List (Key × Fraction)) (a c : Fraction) (e : PolyError) → IsSound (length k.mono) (whole (terms_in es)) →
    coefficient_in k es ≡ Some a → IsDifferenceRefusal a c e → IsDifferenceRefusal (coefficient (terms_in es) k.mono) c e
refused_there k es a c e s h w =
    let r = present k es a s.descending h in
    refused_at {T = Unit {0}} c k.mono (whole (terms_in es)) (record { above = r.before; below = record { coef = a; mono = k.mono } ∷ r.after }) Equal (Err e)
    refl s tt (down_there k es a r) w

-- the term at a key
pub cut_at : (k : Key) (es : List (Key × Fraction)) (a : Fraction) → IsDescending (terms_in es) → coefficient_in k es ≡ Some a →
    IsCutBefore (terms_in es) (record { coef = a; mono = k.mono })
cut_at k es a d h =
    let r = present k es a d h in
    record {
      cut = record { above = r.before; below = record { coef = a; mono = k.mono } ∷ r.after };
      same = sym r.is;
      first = record { rest = r.after; is = refl };
    }

cut_sound : (n : ℕ) (f : Terms) (t : Term) → IsSound n (whole f) → (c : IsCutBefore f t) → IsSound n c.cut
cut_sound n f t v c = record { descending = subst IsDescending (sym c.same) v.descending; variables = subst (HasVariables n) (sym c.same) v.variables }

pub cut_length : (n : ℕ) (f : Terms) (t : Term) → IsSound n (whole f) → IsCutBefore f t → length t.mono ≡ n
cut_length n f t v c = first_length n c.cut t (cut_sound n f t v c) c.first

pub cut_nonzero : (n : ℕ) (f : Terms) (t : Term) → IsSound n (whole f) → IsCutBefore f t → t.coef ≢ zero_ℚ
cut_nonzero n f t v c = first_nonzero n c.cut t (cut_sound n f t v c) c.first

-- ---- a multiple

pub subtracting-none : (c : Fraction) (u : Exponents) (g f : Terms) → IsSound (length u) (whole f) → Subtracting c u g (whole f) (whole f) 0
subtracting-none c u g f s = record {
  same = λ y. ap (λ (z : Terms). coefficient z y) (sym (append-nil f));
  sound = s;
  passed = [];
  above = refl;
  over = over_nothing u (drop 0 g);
}

-- ---- a step

pub table_step : (b : MarkedPolynomial) (f g : Terms) (t : Term) (shift : Exponents) (new : Split) → new.above ≡ [] → g ≡ b.poly →
    IsSound (length b.head) (whole f) → Divides b.head t.mono → length t.mono ≡ length b.head → plus shift b.head ≡ t.mono → length shift ≡ length b.head →
    Subtracts t.coef shift g (whole f) new → StepsFrom b f t new
table_step b f g t shift new none eg v d l p e sub = record { step = at }
  where
    at : (s : Split) → joined_terms s ≡ f → IsTermInFront s.below t → (q : Term) × TakesStep b s q new
    at s q i =
        let n : IsSound (length b.head) s = record {
          descending = subst IsDescending (sym q) v.descending;
          variables = subst (HasVariables (length b.head)) (sym q) v.variables;
        } in (
          record { coef = t.coef; mono = shift },
          record {
            there = first_nonzero (length b.head) s t n i;
            coefficient_is = first_coefficient (length b.head) s t n i;
            product = p ∙ first_head s.below t i;
            variables = e;
            same = λ y. sub.same y ∙ ap (λ (z : Terms). coefficient z y) (ap (λ (z : Terms). z ++ times (neg_ℚ t.coef) shift g) (sym q) ∙
                ap (λ (z : Terms). joined_terms s ++ times (neg_ℚ t.coef) shift z) eg);
            sound = λ m k. sound_along (length shift) m new (e ∙ sym l ∙ first_length m s t k i) sub.sound;
            passed = s.above;
            above = ap (λ (z : Terms). z ++ s.above) (sym none);
          },
        )

pub table_refused : (b : MarkedPolynomial) (f g : Terms) (t : Term) (shift : Exponents) (e : PolyError) → g ≡ b.poly → IsDescending g →
    HasVariables (length b.head) b.poly → IsSound (length b.head) (whole f) → IsCutBefore f t → plus shift b.head ≡ t.mono →
    IsSubtractionRefusal f t.coef shift g e → IsStepRefusal f b t.mono e
table_refused b f g t shift e eg d w v c p r =
    let s = c.cut in
    let n : IsSound (length b.head) s = record {
      descending = subst IsDescending (sym c.same) v.descending;
      variables = subst (HasVariables (length b.head)) (sym c.same) v.variables;
    } in
    let q : coefficient f t.mono ≡ t.coef = ap (λ (z : Terms). coefficient z t.mono) (sym c.same) ∙ ap (coefficient (joined_terms s))
    (first_head s.below t c.first) ∙ first_coefficient (length b.head) s t n c.first in
    let k = step_facts (length b.head) f b t.mono (record { coef = t.coef; mono = shift }) g q (first_nonzero (length b.head) s t n c.first) p w eg d in
    step_refused f f b t.mono (record { coef = t.coef; mono = shift }) g e k refl eg r

-- ---- the search

abbrev pub reducible_first_in : (bs : List MarkedPolynomial) (spared : Option Exponents) (f : Terms) (t : Term) (j : ℕ) (r : IsReducibleAt bs spared f t j) →
    IsReducibleFirst bs spared r.there.cut j
reducible_first_in bs spared f t j r = record { term = t; is = r.there.first; divisor = r.divisor; beside = r.beside; monomial = r.monomial }

abbrev pub found_there : (bs : List MarkedPolynomial) (spared : Option Exponents) (now : Split) (t : Term) (j : ℕ) (b : MarkedPolynomial) → b ≡ get_or bs j b →
    ShareVariables now bs spared → (r : IsReducibleAt bs spared (joined_terms now) t j) → Found bs spared r.there.cut j b
found_there bs spared now t j b e v r = found_at bs spared r.there.cut j b e (share_along now r.there.cut bs spared r.there.same v)
    (reducible_first_in bs spared (joined_terms now) t j r)

pub stepped : (bs : List MarkedPolynomial) (spared : Option Exponents) (old now new : Split) (t : Term) (j : ℕ) (b : MarkedPolynomial) → b ≡ get_or bs j b →
    IsReducibleAt bs spared (joined_terms now) t j → StepsFrom b (joined_terms now) t new → IsWorkedOn bs spared old now → IsWorkedOn bs spared old new
stepped bs spared old now new t j b e r h k =
    let s = h.step r.there.cut r.there.same r.there.first in
    worked-more bs spared old now r.there.cut new j b s.0 r.there.same (found_there bs spared now t j b e k.variables r) s.1 k

pub less_stepped : (bs : List MarkedPolynomial) (spared : Option Exponents) (w : List ℕ) (now new : Split) (t : Term) (j : ℕ) (b : MarkedPolynomial) →
    b ≡ get_or bs j b → AreMarked (lighter w) bs → ShareVariables now bs spared → IsReducibleAt bs spared (joined_terms now) t j →
    StepsFrom b (joined_terms now) t new → work_left (2 ^ 31) ROOM bs (joined_terms new) < work_left (2 ^ 31) ROOM bs (joined_terms now)
less_stepped bs spared w now new t j b e m v r h =
    let s = h.step r.there.cut r.there.same r.there.first in
    less_found bs spared w now r.there.cut new j b s.0 r.there.same m (found_there bs spared now t j b e v r) s.1

-- ---- from the lists to the table and back

pub ended : (bs : List MarkedPolynomial) (spared : Option Exponents) (old start now new : Split) (g : Terms) → IsWorkedOn bs spared old start →
    IsWorkedOn bs spared start now → g ≡ joined_terms now → new ≡ whole g → IsWorkedOn bs spared old new
ended bs spared old start now new g h k e q = worked-same bs spared old now new (ap joined_terms q ∙ e) (worked_along bs spared old start now h k)
