-- Lists of as many facts, one further; the width of the rays of cones.
use Rattle.std.proofs.Common.{◌≡◌, ℕ, ◌+◌, ◌<◌, ◌≤◌, ◌-◌, List, [], ◌∷◌, ◌++◌, length, get_or, ℤ, All, arith, sym, ap, ◌∙◌, subst}
use Rattle.std.proofs.lemmas.List.{get_or_default, get_or_append_left, get_or-append_right, length-append}
use Rattle.std.proofs.lemmas.List.Elements.{All-contains}
use Rattle.gf_int_theory.proofs.ListLaws.{all_by}
use Rattle.gf_gordan.specs.Alternative.{AreRows}
use Rattle.gf_duality_theory.proofs.ListLaws.{index, less, at, more}
use Rattle.gf_rays.specs.Cones.{RowsAndRays}
use Rattle.gf_fan.specs.Pairs.{AreOfAmbient}
use Rattle.gf_fan.specs.Parts.{HasItsRays}
use Rattle.gf_fan.specs.FansOfCones.{AreCommonRays}
use Rattle.gf_fan.specs.Signs.{AreEach}

-- ---- one further

pub each_more : {X : Type 0} (R : ℕ → X → Type 0) (i : ℕ) (x : X) (out new : List X) → new ≡ out ++ x ∷ [] → R i x → AreEach R i out → AreEach R (i + 1) new
each_more {X} R i x out new e r s =
    let l = s.long in
    subst (AreEach R (i + 1)) (sym e) (record {
      long = let a = length-append out (x ∷ []) in omega (arith, a, l);
      each = λ k d h. elim (index k i) [
        | less b ↦ absurd (omega (arith, h, b))
        | more b ↦ subst (R k) (sym (get_or_append_left out (x ∷ []) d k (omega (arith, b, l)))) (s.each k d b)
        | at q ↦
            let last : get_or (out ++ x ∷ []) i d ≡ x = get_or-append_right out (x ∷ []) i i d l (omega arith) ∙ ap (λ j. get_or (x ∷ []) j d)
            (let z : i - i ≡ 0 = omega arith in z) in
            subst (λ j. R j (get_or (out ++ x ∷ []) j d)) (sym q) (subst (R i) (sym last) r)
      ];
    })

-- of what is read
pub read_more : {X Y : Type 0} (Q : Y → X → Type 0) (ys : List Y) (d : Y) (i : ℕ) (y : Y) (x : X) (out new : List X) → i < length ys → y ≡ get_or ys i y →
    new ≡ out ++ x ∷ [] → Q y x → AreEach (λ k (z : X). Q (get_or ys k d) z) i out → AreEach (λ k (z : X). Q (get_or ys k d) z) (i + 1) new
read_more {X} {Y} Q ys d i y x out new h e en q s =
    each_more (λ k (z : X). Q (get_or ys k d) z) i x out new en (subst (λ z. Q z x) (e ∙ get_or_default ys i y d h) q) s

pub each_done : {X : Type 0} (R : ℕ → X → Type 0) (n i : ℕ) (out : List X) → i ≤ n → n ≤ i → AreEach R i out → AreEach R n out
each_done {X} R n i out h l s = subst (λ m. AreEach R m out) (let e : i ≡ n = omega (arith, h, l) in e) s

-- ---- widths

-- the rays of cones have as many entries as their rows
pub common_width : (n : ℕ) (cones : List RowsAndRays) (rays : List (List ℤ)) → AreOfAmbient n cones → All HasItsRays cones → AreCommonRays cones rays →
    AreRows n rays
common_width n cones rays ambient own common = all_by (λ v. length v ≡ n) rays (λ v k.
    let w = common.each v k in
    let e : w.0.ambient ≡ n = All-contains (λ (c : RowsAndRays). c.ambient ≡ n) cones w.0 ambient w.1.0 in
    let r = (All-contains HasItsRays cones w.0 own w.1.0).are_rays in
    All-contains (λ v. length v ≡ w.0.ambient) w.0.rays v r.rays_width w.1.1 ∙ e)

pub cone_width : (n : ℕ) (cones : List RowsAndRays) (rays : List (List ℤ)) (i : ℕ) (c : RowsAndRays) → AreOfAmbient n cones → i < length cones →
    c ≡ get_or cones i c → AreRows n rays → AreRows c.ambient rays
cone_width n cones rays i c ambient h e w = subst (λ m. AreRows m rays) (sym (All-contains (λ (c : RowsAndRays). c.ambient ≡ n) cones c ambient (i, h, sym e)))
    w
