-- A wave and a call keep that each refusal in the row is its walker's, and a refusal that is told is that of the walker in front.
-- To cite: waved_refusals, given_refusals, given_refused_any, starved_refused.
use Rattle.std.proofs.Common.{IfErr, ◌≡◌, ℕ, zero, suc, ◌+◌, ◌-◌, min, length, List, [], ◌∷◌, ◌++◌, refl, sym, inl, inr, subst, Option, Some, None, Ok, Err}
use Rattle.std.proofs.Common.{true, false}
use Rattle.std.specs.declared.result.Result.{Result}
use Rattle.gf_reverse_search.specs.declared.mark.Mark.{Mark}
use Rattle.gf_reverse_search.specs.declared.mark.Mark.TheVariants.{After}
use Rattle.gf_reverse_search.specs.Standing.{Standing}
use Rattle.gf_reverse_search.specs.Pieces.{ArePiecesBelow, Follows, GoesDown}
use Rattle.gf_reverse_search.specs.declared.expand.Piece.{Piece}
use Rattle.gf_reverse_search.specs.declared.expand.Piece.TheVariants.{Ready, Under, Refused}
use Rattle.gf_waves.specs.Frontier.{AreRefusals, IsFrontRefused, first_batch, behind_batch}
use Rattle.gf_waves.specs.Wave.{IsWaved, IsExpansion, ExpandsOn, IsGiven, is_served}

module _ {T N L E : Type 0} (lt : L → L → Type 0) (up : T → N → L → N → Type 0) (refuses : Standing T N L → E → Type 0) where
  refusals_both : (ps qs : List (Piece T N L E)) → AreRefusals refuses ps → AreRefusals refuses qs → AreRefusals refuses (ps ++ qs)
  refusals_both [] qs a b = b
  refusals_both (Ready v ∷ ps) qs a b = refusals_both ps qs a b
  refusals_both (Under w ∷ ps) qs a b = refusals_both ps qs a b
  refusals_both (Refused w e ∷ ps) qs a b = (a.0, refusals_both ps qs a.1 b)

  -- ---- an expansion

  below_refusals : (t : T) (u : N) (m m1 : Mark L) (ps : List (Piece T N L E)) → ArePiecesBelow lt up t u m ps m1 → AreRefusals refuses ps
  below_refusals t u m m1 [] b = tt
  below_refusals t u m m1 (Ready v ∷ ps) b = absurd b
  below_refusals t u m m1 (Under w ∷ ps) b = below_refusals t u (After b.1.label) m1 ps b.2
  below_refusals t u m m1 (Refused w e ∷ ps) b = absurd b

  follows_refusals : (Full : Type 0) (w : Standing T N L) (ps : List (Piece T N L E)) → Follows lt up refuses w Full ps → AreRefusals refuses ps
  follows_refusals Full w [] f = tt
  follows_refusals Full w (Ready v ∷ ps) f = absurd f
  follows_refusals Full w (Under x ∷ ps) f = subst (AreRefusals refuses) (sym f.0) tt
  follows_refusals Full w (Refused x e ∷ ps) f = (subst (λ y. refuses y e) (sym f.1) f.2, subst (AreRefusals refuses) (sym f.0) tt)

  down_refusals : (most : ℕ) (w : Standing T N L) (ps : List (Piece T N L E)) → GoesDown lt up refuses most w ps → AreRefusals refuses ps
  down_refusals most w ps g = subst (AreRefusals refuses) (sym g.whole)
      (refusals_both g.below g.rest (below_refusals w.tree w.here w.mark g.mark g.below g.children) (follows_refusals _ _ g.rest g.follows))

  one_refusals : (w : Standing T N L) (ps : List (Piece T N L E)) → IsExpansion lt up refuses w ps → AreRefusals refuses ps
  one_refusals w ps (inl (inl g)) = down_refusals 1 w ps g
  one_refusals w ps (inl (inr h)) = subst (AreRefusals refuses) (sym h.1.1) (down_refusals 1 _ h.1.0 h.1.2)
  one_refusals w ps (inr h) = subst (AreRefusals refuses) (sym h.1) (h.2, tt)

  -- ---- a batch

  on_refusals : (k n : ℕ) (olds : List (Piece T N L E)) (j i : ℕ) (news : List (Piece T N L E)) → ExpandsOn lt up refuses k n olds j i news →
      AreRefusals refuses olds → AreRefusals refuses news
  on_refusals zero n olds j i news h a = subst (AreRefusals refuses) (sym h.0) a
  on_refusals (suc k) zero olds j i news h a = subst (AreRefusals refuses) (sym h.0) a
  on_refusals (suc k) (suc zero) olds j i news h a = subst (AreRefusals refuses) (sym h.0) a
  on_refusals (suc k) (suc (suc n)) [] j i news h a = subst (AreRefusals refuses) (sym h.0) a
  on_refusals (suc k) (suc (suc n)) (Ready v ∷ ps) j i news h a = subst (AreRefusals refuses) (sym h.1) (on_refusals (suc k) (suc (suc n)) ps j i h.0 h.2 a)
  on_refusals (suc k) (suc (suc n)) (Under w ∷ ps) j i news h a =
      on_refusals k (n + 3 - length h.0) (h.0 ++ ps) j i news h.2 (refusals_both h.0 ps (one_refusals w h.0 h.1) a)
  on_refusals (suc k) (suc (suc n)) (Refused w e ∷ ps) j i news h a = subst (AreRefusals refuses) (sym h.0) a

  -- ---- a wave

  -- the pieces of a batch have none
  first_refusals : (c m : ℕ) (ps : List (Piece T N L E)) → AreRefusals refuses (first_batch c m ps)
  first_refusals zero m ps = tt
  first_refusals (suc c) zero ps = tt
  first_refusals (suc c) (suc m) [] = tt
  first_refusals (suc c) (suc m) (Ready v ∷ ps) = first_refusals c (suc m - 0) ps
  first_refusals (suc c) (suc m) (Under w ∷ ps) = first_refusals c (suc m - 1) ps
  first_refusals (suc c) (suc m) (Refused w e ∷ ps) = first_refusals c (suc m - 1) ps

  behind_refusals : (c m : ℕ) (ps : List (Piece T N L E)) → AreRefusals refuses ps → AreRefusals refuses (behind_batch c m ps)
  behind_refusals zero m ps a = a
  behind_refusals (suc c) zero ps a = a
  behind_refusals (suc c) (suc m) [] a = a
  behind_refusals (suc c) (suc m) (Ready v ∷ ps) a = behind_refusals c (suc m - 0) ps a
  behind_refusals (suc c) (suc m) (Under w ∷ ps) a = behind_refusals c (suc m - 1) ps a
  behind_refusals (suc c) (suc m) (Refused w e ∷ ps) a = behind_refusals c (suc m - 1) ps a.1

  pub waved_refusals : (m : ℕ) (batches : List (ℕ × ℕ)) (olds news : List (Piece T N L E)) → IsWaved lt up refuses m batches olds news →
      AreRefusals refuses olds → AreRefusals refuses news
  waved_refusals zero batches olds news h a = subst (AreRefusals refuses) (sym h) a
  waved_refusals (suc m) [] olds news h a = absurd h
  waved_refusals (suc m) (b ∷ batches) olds news h a =
      subst (AreRefusals refuses) (sym h.4) (refusals_both h.0 h.1 (on_refusals b.0 b.1 (first_batch 8 1 olds) h.2 h.3 h.0 h.5 (first_refusals 8 1 olds))
      (waved_refusals m (batches ++ (h.2, min h.3 56) ∷ []) (behind_batch 8 1 olds) h.1 h.6 (behind_refusals 8 1 olds a)))

  -- ---- an answer

  pub given_refusals : (olds : List (Piece T N L E)) (answer : Result (Option N) E) (news : List (Piece T N L E)) → IsGiven lt up refuses olds answer news →
      AreRefusals refuses olds → AreRefusals refuses news
  given_refusals [] answer news h a = subst (AreRefusals refuses) (sym h.1) tt
  given_refusals (Ready v ∷ ps) answer news h a = subst (AreRefusals refuses) (sym h.1) a
  given_refusals (Refused w e ∷ ps) answer news h a = subst (AreRefusals refuses) (sym h.1) a.1
  given_refusals (Under w ∷ ps) (Ok None) news (inl h) a = absurd h
  given_refusals (Under w ∷ ps) (Ok (Some v)) news (inl h) a = subst (AreRefusals refuses) (sym h.3) a
  given_refusals (Under w ∷ ps) (Err e) news (inl h) a = subst (AreRefusals refuses) (sym h.1) a
  given_refusals (Under w ∷ ps) answer news (inr h) a = given_refusals ps answer news h.1 a

  same_refusal : (e f : E) → (answer : Result (Option N) E) → answer ≡ Err e → answer ≡ Err f → e ≡ f
  same_refusal e f answer h k = cc

  -- a refusal that is told is that of the walker in front
  given_refused : (olds : List (Piece T N L E)) (e : E) (news : List (Piece T N L E)) → IsGiven lt up refuses olds (Err e) news → AreRefusals refuses olds →
      IsFrontRefused refuses news e
  given_refused [] e news h a = absurd (let f = h.0 in cc)
  given_refused (Ready v ∷ ps) e news h a = absurd (let f = h.0 in cc)
  given_refused (Refused w f ∷ ps) e news h a =
      subst (λ r. IsFrontRefused refuses r e) (sym h.1) (subst (λ g. refuses w g) (sym (same_refusal e f (Err e) refl h.0)) a.0)
  given_refused (Under w ∷ ps) e news (inl h) a = subst (λ r. IsFrontRefused refuses r e) (sym h.1) h.0
  given_refused (Under w ∷ ps) e news (inr h) a = given_refused ps e news h.1 a

  pub given_refused_any : (olds : List (Piece T N L E)) (answer : Result (Option N) E) (news : List (Piece T N L E)) → IsGiven lt up refuses olds answer news →
      AreRefusals refuses olds → IfErr answer (IsFrontRefused refuses news)
  given_refused_any olds (Ok o) news h a = tt
  given_refused_any olds (Err e) news h a = given_refused olds e news h a

  -- where no node is ready in front, what may refuse any walker may refuse the one in front
  pub starved_refused : (ps : List (Piece T N L E)) (e : E) → is_served ps ≡ false → ((w : Standing T N L) → refuses w e) → IsFrontRefused refuses ps e
  starved_refused [] e h any = absurd (let f : true ≡ false = h in cc)
  starved_refused (Ready v ∷ ps) e h any = absurd (let f : true ≡ false = h in cc)
  starved_refused (Under w ∷ ps) e h any = any w
  starved_refused (Refused w f ∷ ps) e h any = any w
