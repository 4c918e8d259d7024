-- The pairs of cones that are met.
use Rattle.std.proofs.Common.{◌≡◌, ℕ, ◌+◌, ◌*◌, ◌/◌, ◌%◌, ◌<◌, ◌≤◌, List, [], ◌∷◌, ◌++◌, length, get_or, arith, refl, sym, ap, ◌∙◌, subst, inl, inr, Contains}
use Rattle.std.proofs.Common.{length-append, Option, Some, None, IfSome, MatchOption}
use Rattle.std.proofs.Math.ListN.{get_or-append}
use Rattle.std.proofs.Math.Seq.{get_or-append_seam}
use Rattle.std.proofs.lemmas.List.{get_or_default}
use Rattle.std.proofs.lemmas.List.Elements.{Contains-push}
use Rattle.std.proofs.lemmas.Nat.{div-mul-add, mod-mul-add}
use Rattle.gf_int_theory.proofs.ListLaws.{Contains-last}
use Rattle.gf_duality_theory.specs.Faces.{Rows}
use Rattle.gf_duality_theory.proofs.ListLaws.{none_in, first_in, index, less, at, more}
use Rattle.gf_fan.specs.declared.cones.FanCone.{FanCone}
use Rattle.gf_fans_theory.specs.Fans.{meet}
use Rattle.gf_refine.specs.Inside.{LiesInside, cone_at, meet_at, IsHolder, AreHolders, IsMet, AreMetPairs}
use Rattle.gf_refine.proofs.InsideLaws.{first_wider, second_wider}
use Rattle.gf_refine.proofs.MeetLaws.{pair_below, pair_indices}

-- of the first so many numbers those of the pairs that are met
pub record MetSoFar (held others : List (Option ℕ)) (width k : ℕ) (out : List ℕ) : Type 0 where
  pub each : (x : ℕ) → Contains out x → x < k
  pub every : (x : ℕ) → x < k → IsMet held others (x / width) (x % width) → Contains out x
  pub long : length out ≤ k

pub met_none : (held others : List (Option ℕ)) (width : ℕ) → MetSoFar held others width 0 []
met_none held others width = record { each = λ x c. absurd (none_in x c); every = λ x h. absurd (omega (arith, h)); long = omega arith }

pub met_taken : (held others : List (Option ℕ)) (width k : ℕ) (out new : List ℕ) → new ≡ out ++ k ∷ [] → MetSoFar held others width k out →
    MetSoFar held others width (k + 1) new
met_taken held others width k out new e m = subst (MetSoFar held others width (k + 1)) (sym e) (record {
  each = λ x c. elim (Contains-last out k x c) [ inl i ↦ (let h = m.each x i in omega (arith, h)) | inr q ↦ omega (arith, q) ];
  every = λ x h t. elim (index x k) [
    | more l ↦ first_in out k x (m.every x l t)
    | at q ↦ subst (Contains (out ++ k ∷ [])) (sym q) (Contains-push out k)
    | less l ↦ absurd (omega (arith, h, l))
  ];
  long = let l = m.long in omega (arith, l, length-append out (k ∷ []));
})

pub met_left : (held others : List (Option ℕ)) (width k : ℕ) (out : List ℕ) → (IsMet held others (k / width) (k % width) → ⊥) →
    MetSoFar held others width k out → MetSoFar held others width (k + 1) out
met_left held others width k out n m = record {
  each = λ x c. (let h = m.each x c in omega (arith, h));
  every = λ x h t. elim (index x k) [
    | more l ↦ m.every x l t
    | at q ↦ absurd (n (subst (λ z. IsMet held others (z / width) (z % width)) q t))
    | less l ↦ absurd (omega (arith, h, l))
  ];
  long = let l = m.long in omega (arith, l);
}

-- the pair at two indices has the number of these
numbered_inside : (n i j a : ℕ) (cs ds : List FanCone) (p : Rows) → a < length ds → i * length ds + a ≡ j →
    LiesInside n p (meet (cone_at cs i) (cone_at ds a)) → LiesInside n p (meet_at cs ds j)
numbered_inside n i j a cs ds p h e k =
    let b = length ds in
    let q : j / b ≡ i = ap (λ z. z / b) (sym e) ∙ div-mul-add i b a h in
    let r : j % b ≡ a = ap (λ z. z % b) (sym e) ∙ mod-mul-add i b a h in
    subst (λ z. LiesInside n p (meet (cone_at cs z) (cone_at ds (j % b)))) (sym q) (subst (λ z. LiesInside n p (meet (cone_at cs i) (cone_at ds z))) (sym r) k)

numbered_met : (held others : List (Option ℕ)) (i b a : ℕ) → a < b → IsMet held others i a → IsMet held others ((i * b + a) / b) ((i * b + a) % b)
numbered_met held others i b a h m = subst (λ z. IsMet held others z ((i * b + a) % b)) (sym (div-mul-add i b a h))
    (subst (λ z. IsMet held others i z) (sym (mod-mul-add i b a h)) m)

pub pairs_met : (n count : ℕ) (cs ds : List FanCone) (free held others : List (Option ℕ)) (out : List ℕ) → count ≡ length cs * length ds →
    AreHolders n cs ds free held → AreHolders n ds cs held others → MetSoFar held others (length ds) count out → AreMetPairs n cs ds out
pairs_met n count cs ds free held others out ec hf ho m = record {
  each = λ k c. (let h = m.each k c in omega (arith, h, ec));
  every = λ k h. by_first k h (pair_indices (length cs) (length ds) k h) (get_or held (k / length ds) None) refl;
}
  where
    Over : ℕ → Type 0
    Over k = (x : ℕ) × (Contains out x × LiesInside n (meet_at cs ds k) (meet_at cs ds x))

    by_second : (k : ℕ) → k < length cs * length ds → (k / length ds < length cs) × (k % length ds < length ds) → get_or held (k / length ds) None ≡ None →
        (o : Option ℕ) → get_or others (k % length ds) None ≡ o → Over k
    by_second k h p e (Some a) g =
        let i = k / length ds in let j = k % length ds in
        let t : IsHolder n (cone_at ds j) cs held a = subst (λ z. IfSome z (IsHolder n (cone_at ds j) cs held)) g (ho.each j p.1) in
        let f : get_or held a None ≡ None = get_or_default held a None (Some 0) (let w = t.inside in omega (arith, w, hf.long)) ∙ t.free in
        let met : IsMet held others a j = subst (λ z. MatchOption z (MatchOption (get_or others j None) (Unit {0}) (λ o. o ≡ a)) (λ o. o ≡ j)) (sym f)
        (subst (λ z. MatchOption z (Unit {0}) (λ o. o ≡ a)) (sym g) refl) in
        let x = a * length ds + j in (
          x,
          (
            m.every x (let w = pair_below a j (length cs) (length ds) t.inside p.1 in omega (arith, w, ec)) (numbered_met held others a (length ds) j p.1 met),
            numbered_inside n a x j cs ds (meet_at cs ds k) p.1 refl (first_wider n (cone_at cs i) (cone_at ds j) (cone_at cs a) t.holds),
          ),
        )
    by_second k h p e None g =
        let i = k / length ds in let j = k % length ds in
        let met : IsMet held others i j = subst (λ z. MatchOption z (MatchOption (get_or others j None) (Unit {0}) (λ o. o ≡ i)) (λ o. o ≡ j)) (sym e)
        (subst (λ z. MatchOption z (Unit {0}) (λ o. o ≡ i)) (sym g) tt) in
        (k, (m.every k (omega (arith, h, ec)) met, λ v l s. s))

    by_first : (k : ℕ) → k < length cs * length ds → (k / length ds < length cs) × (k % length ds < length ds) → (o : Option ℕ) →
        get_or held (k / length ds) None ≡ o → Over k
    by_first k h p (Some a) e =
        let i = k / length ds in let j = k % length ds in
        let t : IsHolder n (cone_at cs i) ds free a = subst (λ z. IfSome z (IsHolder n (cone_at cs i) ds free)) e (hf.each i p.0) in
        let met : IsMet held others i a = subst (λ z. MatchOption z (MatchOption (get_or others a None) (Unit {0}) (λ o. o ≡ i)) (λ o. o ≡ a)) (sym e) refl in
        let x = i * length ds + a in (
          x,
          (
            m.every x (let w = pair_below i a (length cs) (length ds) p.0 t.inside in omega (arith, w, ec)) (numbered_met held others i (length ds)
                a t.inside met),
            numbered_inside n i x a cs ds (meet_at cs ds k) t.inside refl (second_wider n (cone_at cs i) (cone_at ds j) (cone_at ds a) t.holds),
          ),
        )
    by_first k h p None e = by_second k h p e (get_or others (k % length ds) None) refl

-- ---- holders, one by one

pub record HoldersSoFar (n : ℕ) (cs ds : List FanCone) (held : List (Option ℕ)) (k : ℕ) (holders : List (Option ℕ)) : Type 0 where
  pub long : length holders ≡ k
  pub each : (i : ℕ) → i < k → IfSome (get_or holders i None) (IsHolder n (cone_at cs i) ds held)

pub holders_none : (n : ℕ) (cs ds : List FanCone) (held : List (Option ℕ)) → HoldersSoFar n cs ds held 0 []
holders_none n cs ds held = record { long = refl; each = λ i h. absurd (omega (arith, h)) }

pub holders_more : (n : ℕ) (cs ds : List FanCone) (held : List (Option ℕ)) (k : ℕ) (c : Rows) (o : Option ℕ) (old new : List (Option ℕ)) → c ≡ cone_at cs k →
    new ≡ old ++ o ∷ [] → IfSome o (IsHolder n c ds held) → HoldersSoFar n cs ds held k old → HoldersSoFar n cs ds held (k + 1) new
holders_more n cs ds held k c o old new ec en h s = subst (HoldersSoFar n cs ds held (k + 1)) (sym en) (record {
  long = omega (arith, length-append old (o ∷ []), s.long);
  each = λ i b. elim (index i k) [
    | more l ↦ subst (λ z. IfSome z (IsHolder n (cone_at cs i) ds held)) (sym (get_or-append old (o ∷ []) None i (omega (arith, l, s.long)))) (s.each i l)
    | at l ↦ subst (λ j. IfSome (get_or (old ++ o ∷ []) j None) (IsHolder n (cone_at cs j) ds held)) (sym l)
        (subst (λ z. IfSome z (IsHolder n (cone_at cs k) ds held))
        (sym (ap (λ j. get_or (old ++ o ∷ []) j None) (sym s.long) ∙ get_or-append_seam old o [] None)) (subst (λ z. IfSome o (IsHolder n z ds held)) ec h))
    | less l ↦ absurd (omega (arith, l, b))
  ];
})

pub holders_all : (n k : ℕ) (cs ds : List FanCone) (held holders : List (Option ℕ)) → k ≡ length cs → HoldersSoFar n cs ds held k holders →
    AreHolders n cs ds held holders
holders_all n k cs ds held holders e s = record { long = s.long ∙ e; each = λ i h. s.each i (omega (arith, h, e)) }
