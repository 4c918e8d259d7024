-- Sources as the code lists them, loaded one after another.
-- To cite: one_loaded, one_unloaded, one_full, all_loaded, input_among, file_among. The rest are steps.
use Rattle.std.specs.Prelude.{◌≡◌, ℕ, ◌+◌, ◌<◌, ◌≤◌, zero, suc, List, [], ◌∷◌, ◌++◌, length, take, get_or, Vec}
use Rattle.std.specs.Global.{Global}
use Rattle.std.proofs.Common.{arith, sym, ap, ◌∙◌, subst, inl, inr}
use Rattle.std.proofs.lemmas.List.{map_more, map_push, take_all}
use Rattle.gf_front.specs.declared.refusal.Refusal.{Refusal}
use Rattle.gf_front.specs.declared.refusal.Refusal.TheVariants as refusals
use Rattle.gf_frame.specs.Seen.{Seen}
use Rattle.gf_frame.specs.Loading.{Origin, IsLoaded, IsUnloaded, AreLoaded, AreUnloaded, HaveInput, HaveFile}
use Rattle.gf_frame.specs.declared.loading.LoadFrom.{LoadFrom}
use Rattle.gf_frame.specs.Origins.{origin_of, origins_of, texts_of}
use Rattle.gf_frame.proofs.LoadingLaws.{loaded_more, unloaded_more, loaded_full}

unloaded_part : (n : ℕ) (xs : List LoadFrom) (p q : Seen) (r : Refusal) → AreUnloaded (origins_of (take n xs)) p q r → AreUnloaded (origins_of xs) p q r
unloaded_part zero [] p q r u = u
unloaded_part zero (x ∷ xs) p q r u = absurd u
unloaded_part (suc n) [] p q r u = u
unloaded_part (suc n) (x ∷ xs) p q r (inl u) = inl u
unloaded_part (suc n) (x ∷ xs) p q r (inr u) = inr (u.0, u.1, u.2, unloaded_part n xs u.1 q r u.3)

module _ (xs : List LoadFrom) (i : ℕ) (d : LoadFrom) (l : i < length xs) (p m q : Seen) (ts : List (Vec ℕ Global))
    (loaded : AreLoaded (origins_of (take i xs)) p m (texts_of ts)) where
  pub one_loaded : (vs : List (Vec ℕ Global)) (t : Vec ℕ Global) → vs ≡ ts ++ (t ∷ []) → IsLoaded (origin_of (get_or xs i d)) m q t.items →
      AreLoaded (origins_of (take (i + 1) xs)) p q (texts_of vs)
  one_loaded vs t e h =
      let more = loaded_more (origins_of (take i xs)) (origin_of (get_or xs i d)) p m q (texts_of ts) t.items loaded h in
      let texts : texts_of ts ++ (t.items ∷ []) ≡ texts_of vs = sym (map_push (λ (v : Vec ℕ Global). v.items) ts t) ∙ ap texts_of (sym e) in
      subst (λ os. AreLoaded os p q (texts_of vs)) (sym (map_more origin_of xs i d l))
      (subst (λ us. AreLoaded (origins_of (take i xs) ++ (origin_of (get_or xs i d) ∷ [])) p q us) texts more)

  pub one_unloaded : (r : Refusal) → IsUnloaded (origin_of (get_or xs i d)) m q r → AreUnloaded (origins_of xs) p q r
  one_unloaded r h =
      unloaded_part (i + 1) xs p q r
      (subst (λ os. AreUnloaded os p q r) (sym (map_more origin_of xs i d l)) (unloaded_more (origins_of (take i xs)) [] (origin_of (get_or xs i d)) p m q
      (texts_of ts) r loaded h))

  pub one_full : (t : List ℕ) → IsLoaded (origin_of (get_or xs i d)) m q t → AreUnloaded (origins_of xs) p q refusals.Memory
  one_full t h = one_unloaded refusals.Memory (loaded_full (origin_of (get_or xs i d)) m q t h)

pub all_loaded : (xs : List LoadFrom) (i : ℕ) (p q : Seen) (ts : List (List ℕ)) → length xs ≤ i → AreLoaded (origins_of (take i xs)) p q ts →
    AreLoaded (origins_of xs) p q ts
all_loaded xs i p q ts e l = subst (λ ys. AreLoaded (origins_of ys) p q ts) (take_all i xs e) l

-- the input, or a file, is among all of them where it is one of them
pub input_among : (xs : List LoadFrom) (i : ℕ) (d : LoadFrom) → i < length xs → HaveInput (origin_of (get_or xs i d) ∷ []) → HaveInput (origins_of xs)
input_among [] i d l h = absurd (omega (arith, l))
input_among (x ∷ xs) zero d l h = head (origin_of x) h
  where
    head : (o : Origin) → HaveInput (o ∷ []) → HaveInput (o ∷ origins_of xs)
    head Origin.the_input h = tt
    head (Origin.a_file name) h = absurd h
input_among (x ∷ xs) (suc i) d l h = behind (origin_of x) (input_among xs i d (omega (arith, l)) h)
  where
    behind : (o : Origin) → HaveInput (origins_of xs) → HaveInput (o ∷ origins_of xs)
    behind Origin.the_input h = tt
    behind (Origin.a_file name) h = h

pub file_among : (xs : List LoadFrom) (i : ℕ) (d : LoadFrom) → i < length xs → HaveFile (origin_of (get_or xs i d) ∷ []) → HaveFile (origins_of xs)
file_among [] i d l h = absurd (omega (arith, l))
file_among (x ∷ xs) zero d l h = head (origin_of x) h
  where
    head : (o : Origin) → HaveFile (o ∷ []) → HaveFile (o ∷ origins_of xs)
    head Origin.the_input h = absurd h
    head (Origin.a_file name) h = tt
file_among (x ∷ xs) (suc i) d l h = behind (origin_of x) (file_among xs i d (omega (arith, l)) h)
  where
    behind : (o : Origin) → HaveFile (origins_of xs) → HaveFile (o ∷ origins_of xs)
    behind Origin.the_input h = h
    behind (Origin.a_file name) h = tt
