-- The cones of a file, and why they have no fan.
-- To cite: numbered_rows, rays_along, cone_generated, dual_step, cone_step, step_of_cones, zip_further, cones_of_ambient, cones_refused, fan_refused,
-- certificate_fault, only_memory, fan_said, fan_narrow,
-- fan_refusal, fan_complete. The rest are steps.
use Rattle.std.specs.Prelude.{◌≡◌, ◌⊎◌, ℕ, ◌+◌, ◌<◌, ◌≤◌, List, [], ◌∷◌, ◌++◌, length, take, get_or, ℤ, Option, Some, Contains, Result, Ok, Err, IfOk, IfErr}
use Rattle.std.specs.Prelude.{MatchResult}
use Rattle.std.specs.List.{AllZip}
use Rattle.std.proofs.Common.{refl, sym, ap, ◌∙◌, subst, inl, inr}
use Rattle.std.proofs.lemmas.List.{take_more}
use Rattle.std.proofs.lemmas.List.Elements.{All-contains}
use Rattle.std.proofs.lemmas.Slice.Zip.{all_zipped_more}
use Rattle.gf_int_theory.proofs.ListLaws.{all_by}
use Rattle.gf_gordan.specs.Alternative.{AreRows}
use Rattle.gf_gordan.specs.Steps.{Failed}
use Rattle.gf_gordan.specs.declared.error.GordanError.{GordanError}
use Rattle.gf_gordan.specs.declared.error.GordanError.TheVariants as gordan_errors
use Rattle.gf_duality_theory.specs.Rays.{IsRays, Satisfies}
use Rattle.gf_rays.specs.Reached.{IsRaysStep}
use Rattle.gf_duality_theory.proofs.ListLaws.{zip_from}
use Rattle.gf_fans_theory.specs.FaceLists.{numbered}
use Rattle.gf_fans_theory.proofs.PartNumbers.{of_number}
use Rattle.gf_rays.specs.Cones.{RowsAndRays}
use Rattle.gf_fan.specs.declared.error.FanError.{FanError}
use Rattle.gf_fan.specs.declared.error.FanError.TheVariants as fan_errors
use Rattle.gf_fan.specs.FanLists.{FanLists}
use Rattle.gf_fan.specs.Pairs.{AreOfAmbient, AreMeeting}
use Rattle.gf_fan.specs.Refusals.{IsFanRefusal, IsFanWithinLimits}
use Rattle.gf_text.specs.declared.TheConstants.{MOST_VARIABLES}
use Rattle.gf_fan_files.specs.declared.error.FanFileError.{FanFileError}
use Rattle.gf_fan_files.specs.declared.error.FanFileError.TheVariants as errors
use Rattle.gf_fan_files.specs.declared.file.FanFile.{FanFile}
use Rattle.gf_fan_files.specs.Duals.{DualsOfDuals}
use Rattle.gf_fan_files.specs.Files.{IsFileOf, AreBelow, IsSoundFile, no_memory}
use Rattle.gf_fan_files.specs.Certificates.{AreInsideCones, AreCertified, IsCertificateFault, other_count, at_row, too_wide}
use Rattle.gf_fan_files.specs.FilesFans.{IsGeneratedCone, IsConeOfFile, AreConesOfFile, IsFanOfFile, IsFanOfText, IsGeneratingStep, of_dual, of_cone}
use Rattle.gf_fan_files.specs.FilesFans.{IsConesStep, IsFileWithinLimits, IsCertifiedFile, AreFileConesMeeting, refusal_of_gordan, refusal_of_fan, IsFanFault}
use Rattle.gf_fan_files.specs.FilesFans.{in_cone, in_certificate, in_fan, IsFanFileRefusal, before_cones, behind_form}
use Rattle.gf_fan_files.proofs.FilesLaws.{file_once, file_within}

-- ---- the rays of a cone

-- they have as many entries as all rays
pub numbered_rows : (n : ℕ) (rays : List (List ℤ)) (numbers : List ℕ) → AreRows n rays → AreBelow (length rays) numbers → AreRows n (numbered rays numbers)
numbered_rows n rays numbers w b = all_by (λ (t : List ℤ). length t ≡ n) (numbered rays numbers) (λ x c.
    let m = of_number rays numbers x c in
    ap length (sym m.1.1) ∙ w m.0 [] (All-contains (λ k. k < length rays) numbers m.0 b m.1.0))

-- ---- a cone

-- the rays of the dual cone, as they are handed on
pub rays_along : (n : ℕ) (rays lin : List (List ℤ)) (dual : RowsAndRays) (lines duals : List (List ℤ)) → IsRays n rays lin dual.lineality dual.rays →
    lines ≡ dual.lineality → duals ≡ dual.rays → IsRays n rays lin lines duals
rays_along n rays lin dual lines duals r l d = subst (λ z. IsRays n rays lin z duals) (sym l) (subst (λ z. IsRays n rays lin dual.lineality z) (sym d) r)

pub cone_generated : (n : ℕ) (rays lin lines duals : List (List ℤ)) (c : RowsAndRays) → DualsOfDuals → AreRows n rays → AreRows n lin →
    IsRays n rays lin lines duals → c.ambient ≡ n → c.inequalities ≡ duals → c.equations ≡ lines → IsRays n duals lines c.lineality c.rays →
    IsGeneratedCone n rays lin c
cone_generated n rays lin lines duals c d wr wl r a i e s = record {
  ambient = a;
  generated = λ v l. (
    λ h. (d n rays lin lines duals v wr wl r l).0 (subst (λ z. Satisfies z lines v) i (subst (λ z. Satisfies c.inequalities z v) e h)),
    λ g. subst (λ z. Satisfies z c.equations v) (sym i) (subst (λ z. Satisfies duals z v) (sym e) ((d n rays lin lines duals v wr wl r l).1 g)),
  );
  rows = subst (λ z. IsRays n rays lin z c.inequalities) (sym e) (subst (λ z. IsRays n rays lin lines z) (sym i) r);
  are_rays = subst (λ z. IsRays n z c.equations c.lineality c.rays) (sym i) (subst (λ z. IsRays n duals z c.lineality c.rays) (sym e) s);
}

pub dual_step : (n : ℕ) (rays lin : List (List ℤ)) (e : GordanError) → Failed (IsRaysStep n rays lin) e → Failed (IsGeneratingStep n rays lin) e
dual_step n rays lin (gordan_errors.Cone s) h = of_dual h
dual_step n rays lin gordan_errors.Memory h = tt

pub cone_step : (n : ℕ) (rays lin lines duals : List (List ℤ)) (e : GordanError) → IsRays n rays lin lines duals → Failed (IsRaysStep n duals lines) e →
    Failed (IsGeneratingStep n rays lin) e
cone_step n rays lin lines duals (gordan_errors.Cone s) r h = of_cone lines duals r h
cone_step n rays lin lines duals gordan_errors.Memory r h = tt

-- ---- the cones

-- an operation of finding one of them
pub step_of_cones : (f : FanFile) (lists : List (List ℕ)) (i : ℕ) (numbers : List ℕ) (e : GordanError) → lists ≡ f.cones → i < length lists →
    numbers ≡ get_or lists i numbers → Failed (IsGeneratingStep f.ambient (numbered f.rays numbers) f.lineality) e → Failed (IsConesStep f) e
step_of_cones f lists i numbers (gordan_errors.Cone s) q l is h = record {
  numbers = numbers;
  listed = subst (λ (zs : List (List ℕ)). Contains zs numbers) q (i, l, sym is);
  step = h;
}
step_of_cones f lists i numbers gordan_errors.Memory q l is h = tt

-- one cone further
pub zip_further : (f : FanFile) (lists : List (List ℕ)) (i : ℕ) (numbers : List ℕ) (c : RowsAndRays) (cones new : List RowsAndRays) → i < length lists →
    numbers ≡ get_or lists i numbers → IsConeOfFile f numbers c → new ≡ cones ++ c ∷ [] → AllZip (IsConeOfFile f) (take i lists) cones →
    AllZip (IsConeOfFile f) (take (i + 1) lists) new
zip_further f lists i numbers c cones new l is r q a =
    let more : take (i + 1) lists ≡ take i lists ++ numbers ∷ [] = take_more lists i numbers l ∙ ap (λ (z : List ℕ). take i lists ++ z ∷ []) (sym is) in
    subst (λ (zs : List (List ℕ)). AllZip (IsConeOfFile f) zs new) (sym more) (subst (AllZip (IsConeOfFile f) (take i lists ++ numbers ∷ [])) (sym q)
    (all_zipped_more (IsConeOfFile f) (take i lists) cones numbers c a r))

pub cones_of_ambient : (f : FanFile) (cones : List RowsAndRays) → AreConesOfFile f cones → AreOfAmbient f.ambient cones
cones_of_ambient f cones a = all_by (λ (c : RowsAndRays). c.ambient ≡ f.ambient) cones (λ c k. (zip_from (IsConeOfFile f) f.cones cones c a k).1.1.ambient)

-- ---- refusals

pub cones_refused : (f : FanFile) (d : GordanError) (e : FanFileError) → Failed (IsConesStep f) d → e ≡ refusal_of_gordan d →
    IsFanFault f e ⊎ (e ≡ errors.Memory)
cones_refused f (gordan_errors.Cone s) e h q = inl (in_cone s h q)
cones_refused f gordan_errors.Memory e h q = inr q

pub fan_refused : (f : FanFile) (cones : List RowsAndRays) (d : FanError) (e : FanFileError) → AreConesOfFile f cones →
    AreCertified f.ambient cones f.interiors → IsFanRefusal f.ambient cones d → e ≡ refusal_of_fan d → IsFanFault f e ⊎ (e ≡ errors.Memory)
fan_refused f cones d e a k h q = inl (in_fan cones d a k h q)

-- what its rows are refused for
pub certificate_fault : {X : Type 0} (f : FanFile) (cones : List RowsAndRays) (rows given : List (List ℤ)) (r : Result X FanFileError) →
    AreConesOfFile f cones → f.interiors ≡ Some rows → given ≡ rows → MatchResult r (λ _. AreInsideCones f.ambient cones given)
    (IsCertificateFault f.ambient cones given) → IfErr r (IsFanFault f)
certificate_fault f cones rows given (Ok x) a is q h = tt
certificate_fault f cones rows given (Err e) a is q h =
    in_certificate cones rows a is (subst (λ (rs : List (List ℤ)). IsCertificateFault f.ambient cones rs e) q h)

narrow : (source : List ℕ) (f : FanFile) (h : FanLists) → IsFileOf source f → IsFanOfFile f h → h.ambient ≤ MOST_VARIABLES
narrow source f h is k = subst (λ n. n ≤ MOST_VARIABLES) (sym k.is_fan.ambient) (file_within source f is)

fault_refused : (source : List ℕ) (f : FanFile) (e : FanFileError) → IsFileOf source f → IsSoundFile f → IsFanFault f e ⊎ (e ≡ errors.Memory) →
    IsFanFileRefusal source e
fault_refused source f e is s (inl h) = behind_form f is s h
fault_refused source f e is s (inr m) = before_cones (no_memory m)

-- ---- within limits

fan_within : (n : ℕ) (cones : List RowsAndRays) (d : FanError) → IsFanWithinLimits n cones → AreMeeting n cones → IsFanRefusal n cones d →
    refusal_of_fan d ≡ errors.Memory
fan_within n cones (fan_errors.Cone s) w m h = absurd (w s h)
fan_within n cones (fan_errors.NotAFan i j) w m h = absurd (h.after.clash (λ d. m i j d h.after.ordered h.after.inside))
fan_within n cones fan_errors.Memory w m h = refl

certificate_within : (f : FanFile) (cones : List RowsAndRays) (rows : List (List ℤ)) (e : FanFileError) → IsFileWithinLimits f → IsCertifiedFile f →
    AreConesOfFile f cones → f.interiors ≡ Some rows → IsCertificateFault f.ambient cones rows e → ⊥
certificate_within f cones rows e w k a is h = by h
  where
    inside : AreInsideCones f.ambient cones rows
    inside = subst (λ (i : Option (List (List ℤ))). AreCertified f.ambient cones i) is (k cones a)

    by : IsCertificateFault f.ambient cones rows e → ⊥
    by (other_count other q) = other inside.count
    by (at_row place g q) = g.here (inside.each place g.within)
    by (too_wide x g q) = w.certificates x (record { cones = cones; rows = rows; of_file = a; has = is; step = g })

pub only_memory : (f : FanFile) (e : FanFileError) → IsFileWithinLimits f → IsCertifiedFile f → AreFileConesMeeting f → IsFanFault f e ⊎ (e ≡ errors.Memory) →
    e ≡ errors.Memory
only_memory f e w k m (inl (in_cone s h q)) = absurd (w.cones s h)
only_memory f e w k m (inl (in_certificate cones rows a is h)) = absurd (certificate_within f cones rows e w k a is h)
only_memory f e w k m (inl (in_fan cones d a c h q)) = q ∙ fan_within f.ambient cones d (w.fan cones a) (m cones a) h
only_memory f e w k m (inr q) = q

-- ---- what is answered

pub fan_said : (source : List ℕ) (f : FanFile) (r : Result FanLists FanFileError) → IsFileOf source f → IsSoundFile f → IfOk r (IsFanOfFile f) →
    IfOk r (IsFanOfText source)
fan_said source f (Ok h) is s k = record { file = f; is_file = is; sound = s; of_file = k }
fan_said source f (Err e) is s k = tt

pub fan_narrow : (source : List ℕ) (f : FanFile) (r : Result FanLists FanFileError) → IsFileOf source f → IfOk r (IsFanOfFile f) →
    IfOk r (λ h. h.ambient ≤ MOST_VARIABLES)
fan_narrow source f (Ok h) is k = narrow source f h is k
fan_narrow source f (Err e) is k = tt

pub fan_refusal : (source : List ℕ) (f : FanFile) (r : Result FanLists FanFileError) → IsFileOf source f → IsSoundFile f →
    IfErr r (λ e. IsFanFault f e ⊎ (e ≡ errors.Memory)) → IfErr r (IsFanFileRefusal source)
fan_refusal source f (Ok h) is s k = tt
fan_refusal source f (Err e) is s k = fault_refused source f e is s k

pub fan_complete : (source : List ℕ) (f g : FanFile) (r : Result FanLists FanFileError) → IsFileOf source f → IsFileOf source g → IsFileWithinLimits f →
    IsCertifiedFile f → AreFileConesMeeting f → IfOk r (IsFanOfFile g) → IfErr r (λ e. IsFanFault g e ⊎ (e ≡ errors.Memory)) →
    MatchResult r (IsFanOfFile f) (λ e. e ≡ errors.Memory)
fan_complete source f g (Ok h) is so w c m k n = subst (λ q. IsFanOfFile q h) (file_once source f g is so) k
fan_complete source f g (Err e) is so w c m k n = only_memory f e w c m (subst (λ q. IsFanFault q e ⊎ (e ≡ errors.Memory)) (file_once source f g is so) n)
