-- Different names, kept as keys of a set.
-- To cite: new_key, with_key, one_more; with_new. The rest are steps.
use Rattle.std.proofs.Common.{◌≡◌, ℕ, Bool, true, false, ◌||◌, not, List, [], ◌∷◌, ◌++◌, ◌<◌, ◌+◌, length, map, take, get_or, refl, sym, ap, ◌∙◌, bytes_eq}
use Rattle.std.proofs.Common.{append_assoc, append-nil, length-append, subst, arith, if◌then◌else◌}
use Rattle.std.proofs.lemmas.Bool.Decides.{same_from_decides}
use Rattle.std.proofs.lemmas.Slice.Eq.{bytes_eq-Decides}
use Rattle.std.proofs.lemmas.List.{map-append, get_or-map, take_more, length-map}
use Rattle.std.specs.Bool.{Decides}
use Rattle.std.specs.List.{list_any}
use Rattle.gf_text.specs.declared.TheConstants.{MOST_VARIABLES}
use Rattle.gf_text.specs.RingText.{is_name, has, AreNew, IsRing}

same_either_way : (m n : List ℕ) → bytes_eq m n ≡ bytes_eq n m
same_either_way m n =
    let one = bytes_eq-Decides m n in
    let other = bytes_eq-Decides n m in
    let turned : Decides (bytes_eq n m) (m ≡ n) = (λ e. sym (other.0 e), λ e. other.1 (sym e)) in
    same_from_decides (bytes_eq m n) (bytes_eq n m) one turned

module _ {K : Type 0} (bytes : K → List ℕ) where
  -- the names of keys
  abbrev names : List K → List (List ℕ)
  names ks = map bytes ks

  found : (k : K) (ks : List K) → list_any (λ x. bytes_eq (bytes k) (bytes x)) ks ≡ has (names ks) (bytes k)
  found k [] = refl
  found k (x ∷ ks) = ap (λ b. b || list_any (λ y. bytes_eq (bytes k) (bytes y)) ks) (same_either_way (bytes k) (bytes x)) ∙
      ap (λ b. bytes_eq (bytes x) (bytes k) || b) (found k ks)

  -- whether a key with this name is new
  pub new_key : (k : K) (ks : List K) (name : List ℕ) → bytes k ≡ name → not (list_any (λ x. bytes_eq (bytes k) (bytes x)) ks) ≡ not (has (names ks) name)
  new_key k ks name is = ap (λ b. not b) (found k ks) ∙ ap (λ n. not (has (names ks) n)) is

  with_by : (k : K) (ks : List K) (v : Bool) → names (if v then ks else ks ++ k ∷ []) ≡ (if v then names ks else names ks ++ bytes k ∷ [])
  with_by k ks true = refl
  with_by k ks false = map-append bytes ks (k ∷ [])

  -- the names with a key of this name
  pub with_key : (k : K) (ks : List K) (name : List ℕ) → bytes k ≡ name → names (if list_any (λ x. bytes_eq (bytes k) (bytes x)) ks then ks else ks ++ k ∷ []) ≡
      (if has (names ks) name then names ks else names ks ++ name ∷ [])
  with_key k ks name is =
      with_by k ks (list_any (λ x. bytes_eq (bytes k) (bytes x)) ks)
      ∙ ap (λ v. if v then names ks else names ks ++ bytes k ∷ []) (found k ks)
      ∙ ap (λ n. if has (names ks) n then names ks else names ks ++ n ∷ []) is

  -- the names up to a key, and its own
  pub one_more : (ks : List K) (i : ℕ) (k : K) → i < length ks → k ≡ get_or ks i k → take i (names ks) ++ bytes k ∷ [] ≡ take (i + 1) (names ks)
  one_more ks i k h is =
      let long : i < length (names ks) = omega (arith, length-map ks bytes) in
      let here : get_or (names ks) i [] ≡ bytes k = get_or-map bytes ks i k [] h ∙ ap bytes (sym is) in
      ap (λ n. take i (names ks) ++ n ∷ []) (sym here) ∙ sym (take_more (names ks) i [] long)

-- ---- a ring with one more name

new_last : (before ns : List (List ℕ)) (n : List ℕ) → AreNew before ns → is_name n ≡ true → has (before ++ ns) n ≡ false → AreNew before (ns ++ n ∷ [])
new_last before [] n all named new = (named, subst (λ l. has l n ≡ false) (append-nil before) new, tt)
new_last before (m ∷ ms) n all named new =
    (all.0, all.1, new_last (before ++ m ∷ []) ms n all.2 named (subst (λ l. has l n ≡ false) (sym (append_assoc before (m ∷ []) ms)) new))

pub with_new : (names : List (List ℕ)) (n : List ℕ) → IsRing names → is_name n ≡ true → has names n ≡ false → length names < MOST_VARIABLES →
    IsRing (names ++ n ∷ [])
with_new names n ring named new room = record {
  some = omega (arith, length-append names (n ∷ []));
  few = omega (arith, length-append names (n ∷ []));
  different = new_last [] names n ring.different named new;
}
