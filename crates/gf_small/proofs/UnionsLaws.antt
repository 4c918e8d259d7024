-- The union of sets, polynomial by polynomial.
-- To cite: SeenSoFar and its steps, UnitedSoFar and its steps, set_at, set_inside, in_set.
use Rattle.std.specs.Prelude.{◌≡◌, ℕ, zero, suc, ◌+◌, ◌<◌, List, [], ◌∷◌, ◌++◌, length, take, get_or, flat_map}
use Rattle.std.proofs.Common.{arith, sym, ap, subst, ◌∙◌, append_assoc, append-nil}
use Rattle.std.specs.Prelude.{Vec}
use Rattle.std.specs.Global.{Global}
use Rattle.std.proofs.lemmas.List.{take_more, length-map}
use Rattle.gf_text.specs.declared.written.Written.{Written}
use Rattle.gf_text.specs.Sets.{AreIn}
use Rattle.gf_text.specs.SetLists.{AreAllIn, sets_in}
use Rattle.gf_small.specs.Unions.{IsAmong, IsNew, AreFirstSeen, IsUnion}
use Rattle.gf_small.proofs.WrittenLaws.{AreIn-push, in_read}

-- ---- the polynomials of a set

-- what is kept after the first i polynomials of a set
pub record SeenSoFar (old set kept : List Written) (i : ℕ) : Type 0 where
  pub seen : (fs : List Written) → AreFirstSeen fs old → AreFirstSeen (fs ++ take i set) kept
  pub variables : (n : ℕ) → AreIn n old → AreIn n set → AreIn n kept

one_more : (fs set : List Written) (i : ℕ) (w : Written) → i < length set → w ≡ get_or set i w → fs ++ take (i + 1) set ≡ (fs ++ take i set) ++ w ∷ []
one_more fs set i w l e = ap (λ (z : List Written). fs ++ z) (take_more set i w l ∙ ap (λ (z : Written). take i set ++ z ∷ []) (sym e)) ∙
    sym (append_assoc fs (take i set) (w ∷ []))

pub seen-added : (old set kept next : List Written) (i : ℕ) (w v : Written) → i < length set → w ≡ get_or set i w → v ≡ w → next ≡ kept ++ v ∷ [] →
    IsNew w kept → SeenSoFar old set kept i → SeenSoFar old set next (i + 1)
seen-added old set kept next i w v l e c q new h = record {
  seen = λ fs s. AreFirstSeen.added (fs ++ take i set) kept (fs ++ take (i + 1) set) next w (one_more fs set i w l e)
      (q ∙ ap (λ (z : Written). kept ++ z ∷ []) c) new (h.seen fs s);
  variables = λ n a b. subst (AreIn n) (sym (q ∙ ap (λ (z : Written). kept ++ z ∷ []) c)) (AreIn-push n kept w (h.variables n a b) (in_read n set i w b l e));
}

pub seen-dropped : (old set kept : List Written) (i : ℕ) (w : Written) → i < length set → w ≡ get_or set i w → IsAmong w kept → SeenSoFar old set kept i →
    SeenSoFar old set kept (i + 1)
seen-dropped old set kept i w l e among h = record {
  seen = λ fs s. AreFirstSeen.dropped (fs ++ take i set) kept (fs ++ take (i + 1) set) w (one_more fs set i w l e) among (h.seen fs s);
  variables = h.variables;
}

-- ---- the sets

-- what is kept after the first i sets
pub record UnitedSoFar (sets : List (List Written)) (kept : List Written) (i : ℕ) : Type 0 where
  pub union : IsUnion (take i sets) kept
  pub variables : (n : ℕ) → AreAllIn n sets → AreIn n kept

pub united-none : (sets : List (List Written)) → UnitedSoFar sets [] 0
united-none sets = record { union = AreFirstSeen.nothing; variables = λ n a. tt }

pub set_in : (n : ℕ) (sets : List (List Written)) (i : ℕ) (d : List Written) → AreAllIn n sets → i < length sets → AreIn n (get_or sets i d)
set_in n [] i d h l = absurd (omega arith)
set_in n (s ∷ sets) zero d h l = h.0
set_in n (s ∷ sets) (suc i) d h l = set_in n sets i d h.1 (omega arith)

all_and_one : (sets : List (List Written)) (s : List Written) → flat_map (λ t. t) (sets ++ s ∷ []) ≡ flat_map (λ t. t) sets ++ s
all_and_one [] s = append-nil s
all_and_one (t ∷ sets) s = ap (λ (z : List Written). t ++ z) (all_and_one sets s) ∙ sym (append_assoc t (flat_map (λ u. u) sets) s)

pub united-more : (sets : List (List Written)) (kept next s : List Written) (i : ℕ) → i < length sets → s ≡ get_or sets i s →
    ((fs : List Written) → AreFirstSeen fs kept → AreFirstSeen (fs ++ s) next) → ((n : ℕ) → AreIn n kept → AreIn n s → AreIn n next) → UnitedSoFar sets kept i →
    UnitedSoFar sets next (i + 1)
united-more sets kept next s i l e add in_n h = record {
  union = subst (λ (z : List Written). AreFirstSeen z next) (sym (ap (flat_map (λ (t : List Written). t))
      (take_more sets i s l ∙ ap (λ (z : List Written). take i sets ++ z ∷ []) (sym e)) ∙ all_and_one (take i sets) s)) (add _ h.union);
  variables = λ n a. in_n n (h.variables n a) (subst (AreIn n) (sym e) (set_in n sets i s a l));
}

-- ---- sets at their indices

-- a set at its index
pub set_at : (vs : List (Vec Written Global)) (i : ℕ) (v : Vec Written Global) → i < length vs → v ≡ get_or vs i v → v.items ≡ get_or (sets_in vs) i v.items
set_at [] i v l e = absurd (omega arith)
set_at (u ∷ vs) zero v l e = ap (λ (z : Vec Written Global). z.items) e
set_at (u ∷ vs) (suc i) v l e = set_at vs i v (omega arith) e

pub set_inside : (vs : List (Vec Written Global)) (i : ℕ) → i < length vs → i < length (sets_in vs)
set_inside vs i l = omega (arith, length-map vs (λ (v : Vec Written Global). v.items))

pub in_set : (n : ℕ) (sets : List (List Written)) (i : ℕ) (s : List Written) → i < length sets → s ≡ get_or sets i s → AreAllIn n sets → AreIn n s
in_set n sets i s l e h = subst (AreIn n) (sym e) (set_in n sets i s h l)
