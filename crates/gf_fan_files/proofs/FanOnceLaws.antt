-- A fan file is refused in one way, but for limits: its cones have one list of rows, so there is one first row that isn't inside its cone,
-- and one first pair that doesn't meet in faces.
-- To cite: rows_same, refusals_once, refusal_refutes, always_refused. The rest are steps.
use Rattle.std.proofs.Common.{◌≡◌, ◌⊎◌, ℕ, zero, suc, ◌<◌, ◌≤◌, Option, Some, ℤ, List, [], ◌∷◌, length, get_or, Result, Ok, Err, IfOk, IfErr, MatchResult, sym}
use Rattle.std.proofs.Common.{ap₂, ◌∙◌, subst, inl, inr, arith, ap, min}
use Rattle.std.specs.List.{AllZip}
use Rattle.std.proofs.lemmas.Bool.{cases_lt}
use Rattle.std.proofs.lemmas.Slice.Zip.{AllZip-long}
use Rattle.gf_duality_theory.specs.Faces.{Rows, IsInterior}
use Rattle.gf_duality_theory.proofs.Determined.{rays_determined}
use Rattle.gf_fans_theory.specs.FaceLists.{numbered}
use Rattle.gf_fans_theory.specs.Fans.{MeetInFaces}
use Rattle.gf_rays.specs.Cones.{RowsAndRays, rows_of}
use Rattle.gf_fan.specs.declared.error.FanError.{FanError}
use Rattle.gf_fan.specs.declared.error.FanError.TheVariants as fan_errors
use Rattle.gf_fan.specs.FanLists.{FanLists}
use Rattle.gf_fan.specs.Pairs.{AreMeetingAt, IsFirstPair}
use Rattle.gf_fan.specs.Refusals.{IsFanRefusal}
use Rattle.gf_fan_files.specs.declared.error.FanFileError.{FanFileError}
use Rattle.gf_fan_files.specs.declared.error.FanFileError.TheVariants as errors
use Rattle.gf_fan_files.specs.declared.file.FanFile.{FanFile}
use Rattle.gf_fan_files.specs.Files.{IsOfLimits}
use Rattle.gf_fan_files.specs.Certificates.{IsInsideAt, AreInsideCones, AreCertified, IsFirstRowOutside, IsCertificateFault, other_count, at_row, too_wide}
use Rattle.gf_fan_files.specs.FilesFans.{IsConeOfFile, AreConesOfFile, IsFanOfFile, IsFanOfText, refusal_of_fan, IsFanFault, in_cone, in_certificate, in_fan}
use Rattle.gf_fan_files.specs.FilesFans.{IsFanFileRefusal, before_cones, behind_form}
use Rattle.gf_fan_files.proofs.FilesLaws.{file_once}
use Rattle.gf_fan_files.proofs.OnceLaws.{refused_once, refused_unsound}

-- ---- the cones of a file have one list of rows

module _ (f : FanFile) where
  pub rows_same : (ns : List ℕ) (c d : RowsAndRays) → IsConeOfFile f ns c → IsConeOfFile f ns d → rows_of c ≡ rows_of d
  rows_same ns c d h k =
      let dual : Rows = record { inequalities = numbered f.rays ns; equations = f.lineality } in
      let one = rays_determined f.ambient dual dual c.equations c.inequalities d.equations d.inequalities (λ v l. (λ i. i, λ i. i)) h.rows k.rows in
      let lines = one.0 in
      let duals = one.1 in
      λ i. record { inequalities = duals i; equations = lines i }

  place_same : (lists : List (List ℕ)) (cs ds : List RowsAndRays) → AllZip (IsConeOfFile f) lists cs → AllZip (IsConeOfFile f) lists ds →
      (i : ℕ) (x : RowsAndRays) → i < length cs → rows_of (get_or cs i x) ≡ rows_of (get_or ds i x)
  place_same [] [] ds a b i x l = absurd (omega (arith, l))
  place_same [] (c ∷ cs) ds a b i x l = absurd a
  place_same (s ∷ lists) [] ds a b i x l = absurd a
  place_same (s ∷ lists) (c ∷ cs) [] a b i x l = absurd b
  place_same (s ∷ lists) (c ∷ cs) (d ∷ ds) a b zero x l = rows_same s c d a.0 b.0
  place_same (s ∷ lists) (c ∷ cs) (d ∷ ds) a b (suc i) x l = place_same lists cs ds a.1 b.1 i x (omega arith)

  long_same : (cs ds : List RowsAndRays) → AreConesOfFile f cs → AreConesOfFile f ds → length cs ≡ length ds
  long_same cs ds a b = AllZip-long (IsConeOfFile f) f.cones cs a ∙ sym (AllZip-long (IsConeOfFile f) f.cones ds b)

  meeting_along : (cs ds : List RowsAndRays) → AreConesOfFile f cs → AreConesOfFile f ds → (i j : ℕ) → i < length cs → j < length cs →
      AreMeetingAt f.ambient cs i j → AreMeetingAt f.ambient ds i j
  meeting_along cs ds a b i j k l m = λ x.
      subst (λ (r : Rows). MeetInFaces f.ambient r (rows_of (get_or ds j x))) (place_same f.cones cs ds a b i x k)
      (subst (λ (r : Rows). MeetInFaces f.ambient (rows_of (get_or cs i x)) r) (place_same f.cones cs ds a b j x l) (m x))

  pair_along : (cs ds : List RowsAndRays) → AreConesOfFile f cs → AreConesOfFile f ds → (i j : ℕ) → IsFirstPair f.ambient cs i j → IsFirstPair f.ambient ds i j
  pair_along cs ds a b i j h =
      let long = long_same cs ds a b in
      let o = h.after.ordered in
      let u = h.after.inside in
      record {
        after = record {
          ordered = o;
          inside = subst (λ m. j < m) long u;
          clash = λ m. h.after.clash (meeting_along ds cs b a i j (omega (arith, o, u, long)) (omega (arith, u, long)) m);
          earlier = λ k p q. meeting_along cs ds a b i k (omega (arith, o, u)) (omega (arith, q, u)) (h.after.earlier k p q);
        };
        before = λ g k p q r. meeting_along cs ds a b g k (omega (arith, p, o, u)) (omega (arith, r, long)) (h.before g k p q (omega (arith, r, long)));
      }

  -- so a row is inside the one where it is inside the other
  inside_along : (cs ds : List RowsAndRays) (rows : List (List ℤ)) (i : ℕ) → AreConesOfFile f cs → AreConesOfFile f ds → i < length cs →
      IsInsideAt f.ambient cs rows i → IsInsideAt f.ambient ds rows i
  inside_along cs ds rows i a b l h = λ c r. subst (λ (x : Rows). IsInterior f.ambient x (get_or rows i r)) (place_same f.cones cs ds a b i c l) (h c r)

  outside_along : (cs ds : List RowsAndRays) (rows : List (List ℤ)) (i : ℕ) → AreConesOfFile f cs → AreConesOfFile f ds →
      IsFirstRowOutside f.ambient cs rows i → IsFirstRowOutside f.ambient ds rows i
  outside_along cs ds rows i a b h =
      let long = long_same cs ds a b in
      let count = h.count in
      let within = h.within in
      record {
        count = count ∙ long;
        within = within;
        before = λ k l. inside_along cs ds rows k a b (omega (arith, l, within, count)) (h.before k l);
        here = λ t. h.here (inside_along ds cs rows i b a (omega (arith, within, count, long)) t);
      }

-- ---- there is one first row

row_once : (n : ℕ) (cs : List RowsAndRays) (rows : List (List ℤ)) (i j : ℕ) → IsFirstRowOutside n cs rows i → IsFirstRowOutside n cs rows j → j ≡ i
row_once n cs rows i j h g = at (cases_lt i j) (cases_lt j i)
  where
    at : (i < j) ⊎ (j ≤ i) → (j < i) ⊎ (i ≤ j) → j ≡ i
    at (inl p) q = absurd (h.here (g.before i p))
    at (inr p) (inl q) = absurd (g.here (h.before j q))
    at (inr p) (inr q) = omega arith

-- ---- there is one first pair

pub first_place : (n : ℕ) (cs : List RowsAndRays) (i j k l : ℕ) → IsFirstPair n cs i j → IsFirstPair n cs k l → k ≡ i
first_place n cs i j k l h g = at (cases_lt i k) (cases_lt k i)
  where
    at : (i < k) ⊎ (k ≤ i) → (k < i) ⊎ (i ≤ k) → k ≡ i
    at (inl p) q = absurd (h.after.clash (g.before i j p h.after.ordered h.after.inside))
    at (inr p) (inl q) = absurd (g.after.clash (h.before k l q g.after.ordered g.after.inside))
    at (inr p) (inr q) = omega arith

pub second_place : (n : ℕ) (cs : List RowsAndRays) (i j l : ℕ) → IsFirstPair n cs i j → IsFirstPair n cs i l → l ≡ j
second_place n cs i j l h g = at (cases_lt j l) (cases_lt l j)
  where
    at : (j < l) ⊎ (l ≤ j) → (l < j) ⊎ (j ≤ l) → l ≡ j
    at (inl p) q = absurd (h.after.clash (g.after.earlier j h.after.ordered p))
    at (inr p) (inl q) = absurd (g.after.clash (h.after.earlier l g.after.ordered q))
    at (inr p) (inr q) = omega arith

pair_once : (n : ℕ) (cs : List RowsAndRays) (i j k l : ℕ) → IsFirstPair n cs i j → IsFirstPair n cs k l → errors.NotAFan k l ≡ errors.NotAFan i j
pair_once n cs i j k l h g =
    let e = first_place n cs i j k l h g in
    ap₂ (λ x y. errors.NotAFan x y) e (second_place n cs i j l h (subst (λ m. IsFirstPair n cs m l) e g))

-- ---- refusals

fan_once : (f : FanFile) (cs ds : List RowsAndRays) (x y : FanError) → (IsOfLimits (refusal_of_fan x) → ⊥) → AreConesOfFile f cs → AreConesOfFile f ds →
    IsFanRefusal f.ambient cs x → IsFanRefusal f.ambient ds y → (refusal_of_fan y ≡ refusal_of_fan x) ⊎ IsOfLimits (refusal_of_fan y)
fan_once f cs ds (fan_errors.Cone s) y told a b h g = absurd (told tt)
fan_once f cs ds fan_errors.Memory y told a b h g = absurd (told tt)
fan_once f cs ds (fan_errors.NotAFan i j) (fan_errors.Cone s) told a b h g = inr tt
fan_once f cs ds (fan_errors.NotAFan i j) fan_errors.Memory told a b h g = inr tt
fan_once f cs ds (fan_errors.NotAFan i j) (fan_errors.NotAFan k l) told a b h g = inl (pair_once f.ambient cs i j k l h (pair_along f ds cs b a k l g))

-- rows that lie inside their cones aren't refused, but for limits
certificate_refutes : (f : FanFile) (cs ds : List RowsAndRays) (rows : List (List ℤ)) (e : FanFileError) → AreConesOfFile f cs → AreConesOfFile f ds →
    AreInsideCones f.ambient ds rows → IsCertificateFault f.ambient cs rows e → IsOfLimits e
certificate_refutes f cs ds rows e a b k (other_count other is) = absurd (other (k.count ∙ sym (long_same f cs ds a b)))
certificate_refutes f cs ds rows e a b k (at_row place h is) =
    absurd (h.here (let within = h.within in let count = k.count in inside_along f ds cs rows place b a (omega (arith, within, count)) (k.each place within)))
certificate_refutes f cs ds rows e a b k (too_wide w h is) = subst IsOfLimits (sym is) tt

certificate_once : (f : FanFile) (cs ds : List RowsAndRays) (rows : List (List ℤ)) (e d : FanFileError) → (IsOfLimits e → ⊥) → AreConesOfFile f cs →
    AreConesOfFile f ds → IsCertificateFault f.ambient cs rows e → IsCertificateFault f.ambient ds rows d → (d ≡ e) ⊎ IsOfLimits d
certificate_once f cs ds rows e d told a b (too_wide w h is) g = absurd (told (subst IsOfLimits (sym is) tt))
certificate_once f cs ds rows e d told a b h (too_wide w g is) = inr (subst IsOfLimits (sym is) tt)
certificate_once f cs ds rows e d told a b (other_count other is) (other_count another so) =
    inl (so ∙ ap (λ n. errors.BadCertificate (min (length rows) n)) (sym (long_same f cs ds a b)) ∙ sym is)
certificate_once f cs ds rows e d told a b (other_count other is) (at_row place g so) = absurd (other (g.count ∙ sym (long_same f cs ds a b)))
certificate_once f cs ds rows e d told a b (at_row place h is) (other_count other so) = absurd (other (h.count ∙ long_same f cs ds a b))
certificate_once f cs ds rows e d told a b (at_row place h is) (at_row other g so) =
    inl (so ∙ ap (λ n. errors.BadCertificate n) (row_once f.ambient cs rows place other h (outside_along f ds cs rows other b a g)) ∙ sym is)

rows_one : (f : FanFile) (rows others : List (List ℤ)) → f.interiors ≡ Some rows → f.interiors ≡ Some others → others ≡ rows
rows_one f rows others h g = cc

certified_rows : (f : FanFile) (cs : List RowsAndRays) (rows : List (List ℤ)) → f.interiors ≡ Some rows → AreCertified f.ambient cs f.interiors →
    AreInsideCones f.ambient cs rows
certified_rows f cs rows is h = subst (λ (i : Option (List (List ℤ))). AreCertified f.ambient cs i) is h

fault_once : (f : FanFile) (e d : FanFileError) → (IsOfLimits e → ⊥) → IsFanFault f e → IsFanFault f d → (d ≡ e) ⊎ IsOfLimits d
fault_once f e d told (in_cone s h q) g = absurd (told (subst IsOfLimits (sym q) tt))
fault_once f e d told h (in_cone s g p) = inr (subst IsOfLimits (sym p) tt)
fault_once f e d told (in_certificate cs rows a is h) (in_certificate ds others b so g) =
    certificate_once f cs ds rows e d told a b h (subst (λ (r : List (List ℤ)). IsCertificateFault f.ambient ds r d) (rows_one f rows others is so) g)
fault_once f e d told (in_certificate cs rows a is h) (in_fan ds y b k g p) =
    absurd (told (certificate_refutes f cs ds rows e a b (certified_rows f ds rows is k) h))
fault_once f e d told (in_fan cs x a k h q) (in_certificate ds rows b is g) = inr (certificate_refutes f ds cs rows d b a (certified_rows f cs rows is k) g)
fault_once f e d told (in_fan cs x a k h q) (in_fan ds y b m g p) = elim (fan_once f cs ds x y (λ l. told (subst IsOfLimits (sym q) l)) a b h g) [
  | inl same ↦ inl (p ∙ same ∙ sym q)
  | inr l ↦ inr (subst IsOfLimits (sym p) l)
]

fan_refutes : (f : FanFile) (h : FanLists) (cs : List RowsAndRays) (x : FanError) → (IsOfLimits (refusal_of_fan x) → ⊥) → AreConesOfFile f cs →
    IsFanRefusal f.ambient cs x → IsFanOfFile f h → ⊥
fan_refutes f h cs (fan_errors.Cone s) told a r k = told tt
fan_refutes f h cs fan_errors.Memory told a r k = told tt
fan_refutes f h cs (fan_errors.NotAFan i j) told a r k =
    let p = pair_along f cs k.cones a k.of_file i j r in
    p.after.clash (λ d. k.is_fan.meeting i j d p.after.ordered p.after.inside)

fault_refutes : (f : FanFile) (h : FanLists) (e : FanFileError) → (IsOfLimits e → ⊥) → IsFanFault f e → IsFanOfFile f h → ⊥
fault_refutes f h e told (in_cone s r q) k = told (subst IsOfLimits (sym q) tt)
fault_refutes f h e told (in_certificate cs rows a is r) k =
    told (certificate_refutes f cs k.cones rows e a k.of_file (certified_rows f k.cones rows is k.certified) r)
fault_refutes f h e told (in_fan cs x a c r q) k = fan_refutes f h cs x (λ l. told (subst IsOfLimits (sym q) l)) a r k

is_of_limits : (e : FanFileError) → IsOfLimits e ⊎ (IsOfLimits e → ⊥)
is_of_limits (errors.Syntax s) = inr (λ l. l)
is_of_limits (errors.TooWide at) = inr (λ l. l)
is_of_limits (errors.TooManyVariables count) = inr (λ l. l)
is_of_limits (errors.Cone step) = inl tt
is_of_limits (errors.NotAFan i j) = inr (λ l. l)
is_of_limits (errors.Missing section) = inr (λ l. l)
is_of_limits (errors.BadRay number) = inr (λ l. l)
is_of_limits (errors.Dimensions left right) = inr (λ l. l)
is_of_limits (errors.BadVersion number) = inr (λ l. l)
is_of_limits (errors.BadCertificate cone) = inr (λ l. l)
is_of_limits (errors.Wide w) = inl tt
is_of_limits errors.Memory = inl tt

pub refusals_once : (source : List ℕ) (e d : FanFileError) → (IsOfLimits e → ⊥) → IsFanFileRefusal source e → IsFanFileRefusal source d → (d ≡ e) ⊎ IsOfLimits d
refusals_once source e d told (before_cones h) (before_cones g) = refused_once source e d told h g
refusals_once source e d told (before_cones h) (behind_form f is s g) = absurd (refused_unsound source f e told is s h)
refusals_once source e d told (behind_form f is s h) (before_cones g) = elim (is_of_limits d) [
  | inl l ↦ inr l
  | inr n ↦ absurd (refused_unsound source f d n is s g)
]
refusals_once source e d told (behind_form f is s h) (behind_form k so t g) =
    fault_once f e d told h (subst (λ q. IsFanFault q d) (file_once source f k is so) g)

pub refusal_refutes : (source : List ℕ) (h : FanLists) (e : FanFileError) → (IsOfLimits e → ⊥) → IsFanFileRefusal source e → IsFanOfText source h → ⊥
refusal_refutes source h e told (before_cones r) k = refused_unsound source k.file e told k.is_file k.sound r
refusal_refutes source h e told (behind_form f is s r) k =
    fault_refutes f h e told r (subst (λ q. IsFanOfFile q h) (file_once source f k.file is k.is_file) k.of_file)

pub always_refused : (source : List ℕ) (e : FanFileError) (r : Result FanLists FanFileError) → (IsOfLimits e → ⊥) → IsFanFileRefusal source e →
    IfOk r (IsFanOfText source) → IfErr r (IsFanFileRefusal source) → MatchResult r (λ _. ⊥) (λ d. (d ≡ e) ⊎ IsOfLimits d)
always_refused source e (Ok h) told refused k n = refusal_refutes source h e told refused k
always_refused source e (Err d) told refused k n = refusals_once source e d told refused n
