-- A text is refused in one way, but for limits.
-- To cite: refused_once, refused_unsound. The rest are steps.
use Rattle.std.proofs.Common.{◌≡◌, ◌⊎◌, ℕ, ◌<◌, ◌≤◌, Some, List, [], ◌∷◌, ◌++◌, length, get_or, refl, sym, ap, ◌∙◌, subst, inl, inr, arith, All, ℤ}
use Rattle.std.proofs.lemmas.Bool.{cases_lt}
use Rattle.gf_text.specs.Machine.{Lexeme}
use Rattle.gf_text.specs.Kinds.{IsNumberKind}
use Rattle.gf_text.proofs.FaultsLaws.{number_kind_once, fault_once}
use Rattle.gf_text.specs.declared.error.Section.{Section}
use Rattle.gf_text.specs.declared.error.Section.TheVariants as names
use Rattle.gf_fan_files.specs.declared.error.FanFileError.{FanFileError}
use Rattle.gf_fan_files.specs.declared.error.FanFileError.TheVariants as errors
use Rattle.gf_fan_files.specs.declared.file.FanFile.{FanFile}
use Rattle.gf_fan_files.specs.Refused.{refused_before}
use Rattle.gf_fan_files.specs.Lines.{Section as TextSection, sections, content_tokens, end_before}
use Rattle.gf_fan_files.specs.RowText.{AreRowTexts}
use Rattle.gf_fan_files.specs.ConeText.{AreConeTexts}
use Rattle.gf_fan_files.specs.NumberText.{IsOneNumberText}
use Rattle.gf_fan_files.specs.FanText.{ContentKind, number_to, rows, cones, any, kind_in, Table, Named, told_version, IsKnownVersion, told_table, IsFaultOf}
use Rattle.gf_fan_files.specs.FanText.{IsContentFault, IsFirstFault, wanted, first_missing}
use Rattle.gf_fan_files.specs.Files.{AreSectionsOf, IsFileOf, section_name, interior_rows, IsOutside, AreBelow, IsSoundFile, IsBehind, IsLengthFault}
use Rattle.gf_fan_files.specs.Files.{IsRayFault, IsNumberFault, IsFormFault, zero_dimension, at_rays, at_lineality, at_interiors, at_ray, at_number}
use Rattle.gf_fan_files.specs.Files.{IsFileRefused, in_text, bad_version, not_there, in_form, no_memory, IsOfLimits}
use Rattle.gf_fan_files.proofs.FanTextLaws.{content_sound, text_sound}
use Rattle.gf_fan_files.proofs.FilesLaws.{sections_once, file_once, behind_holds, length_sound, none_missing, version_known, sound_refused}

-- ---- the first fault of the text

of_once : {A : Type 0} (grammar : List (List ℕ) → A → Type 0) (end : ℕ) (xs : List Lexeme) (e d : FanFileError) → IsFaultOf grammar end xs e →
    IsFaultOf grammar end xs d → d ≡ e
of_once grammar end xs e d (f, never, here, is) (g, neither, there, so) =
    so ∙ ap (refused_before end) (sym (fault_once grammar (IsNumberKind grammar) (number_kind_once grammar) xs end f g here there)) ∙ sym is

content_once : (end : ℕ) (k : ContentKind) (xs : List Lexeme) (e d : FanFileError) → IsContentFault end k xs e → IsContentFault end k xs d → d ≡ e
content_once end (number_to limit) xs e d (inl h) (inl g) = g.1 ∙ sym h.1
content_once end (number_to limit) xs e d (inl h) (inr g) = (let a = h.0 in let b = g.0 in cc)
content_once end (number_to limit) xs e d (inr h) (inl g) = (let a = h.0 in let b = g.0 in cc)
content_once end (number_to limit) xs e d (inr h) (inr g) = of_once IsOneNumberText end xs e d h.1 g.1
content_once end rows xs e d h g = of_once AreRowTexts end xs e d h g
content_once end cones xs e d h g = of_once AreConeTexts end xs e d h g
content_once end any xs e d h g = absurd h

first_once : (table : Table) (end : ℕ) (seen : List (List ℕ)) (ss : List TextSection) (e d : FanFileError) → IsFirstFault table end seen ss e →
    IsFirstFault table end seen ss d → d ≡ e
first_once table end seen [] e d h g = absurd h
first_once table end seen (s ∷ ss) e d (inl h) (inl g) = g.1 ∙ sym h.1
first_once table end seen (s ∷ ss) e d (inl h) (inr (inl g)) = (let a = h.0 in let b = g.0 in cc)
first_once table end seen (s ∷ ss) e d (inl h) (inr (inr g)) = (let a = h.0 in let b = g.0 in cc)
first_once table end seen (s ∷ ss) e d (inr (inl h)) (inl g) = (let a = h.0 in let b = g.0 in cc)
first_once table end seen (s ∷ ss) e d (inr (inl h)) (inr (inl g)) =
    content_once end (kind_in table s.name) (content_tokens (end_before end ss) s.content) e d h.1 g.1
first_once table end seen (s ∷ ss) e d (inr (inl h)) (inr (inr g)) =
    absurd (content_sound end (kind_in table s.name) (content_tokens (end_before end ss) s.content) g.1.0 e g.1.1 h.1)
first_once table end seen (s ∷ ss) e d (inr (inr h)) (inl g) = (let a = h.0 in let b = g.0 in cc)
first_once table end seen (s ∷ ss) e d (inr (inr h)) (inr (inl g)) =
    absurd (content_sound end (kind_in table s.name) (content_tokens (end_before end ss) s.content) h.1.0 d h.1.1 g.1)
first_once table end seen (s ∷ ss) e d (inr (inr h)) (inr (inr g)) = first_once table end (seen ++ s.name ∷ []) ss e d h.2 g.2

-- ---- the first of a list

module _ {X : Type 0} (P : X → Type 0) (xs : List X) where
  place_once : (i j : ℕ) (x y : X) → IsBehind P xs i x → IsBehind P xs j y → (P x → ⊥) → (P y → ⊥) → j ≡ i
  place_once i j x y h g nx ny = at (cases_lt i j) (cases_lt j i)
    where
      at : (i < j) ⊎ (j ≤ i) → (j < i) ⊎ (i ≤ j) → j ≡ i
      at (inl p) q = absurd (nx (subst P (h.here x) (g.before i x (omega arith) p)))
      at (inr p) (inl q) = absurd (ny (subst P (g.here y) (h.before j y (omega arith) q)))
      at (inr p) (inr q) = omega arith

  behind_once : (i j : ℕ) (x y : X) → IsBehind P xs i x → IsBehind P xs j y → (P x → ⊥) → (P y → ⊥) → (j ≡ i) × (y ≡ x)
  behind_once i j x y h g nx ny =
      let e = place_once i j x y h g nx ny in
      (e, sym (g.here x) ∙ ap (λ k. get_or xs k x) e ∙ h.here x)

-- ---- the form of a file

length_once : (n : ℕ) (rs : List (List ℤ)) (e d : FanFileError) → IsLengthFault n rs e → IsLengthFault n rs d → d ≡ e
length_once n rs e d h g =
    let same = behind_once (λ (t : List ℤ). length t ≡ n) rs h.place g.place h.row g.row h.first g.first h.other g.other in
    g.refused ∙ ap (λ (r : List ℤ). errors.Dimensions (length r) n) same.1 ∙ sym h.refused

ray_once : (n : ℕ) (lineality rays : List (List ℤ)) (e d : FanFileError) → (IsOfLimits e → ⊥) → IsRayFault n lineality rays e → IsRayFault n lineality rays d →
    (d ≡ e) ⊎ IsOfLimits d
ray_once n lineality rays e d told h g = elim h.refused [
  | inr s ↦ absurd (told (subst IsOfLimits (sym s.2) tt))
  | inl k ↦ elim g.refused [
    | inr s ↦ inr (subst IsOfLimits (sym s.2) tt)
    | inl l ↦
        let same = behind_once (IsOutside n lineality) rays h.place g.place h.ray g.ray h.first g.first (λ o. o k.0) (λ o. o l.0) in
        inl (l.1 ∙ ap (λ i. errors.BadRay i) same.0 ∙ sym k.1)
  ]
]

-- a ray that isn't outside refutes that all are
ray_refutes : (n : ℕ) (lineality rays : List (List ℤ)) (e : FanFileError) → All (IsOutside n lineality) rays → IsRayFault n lineality rays e → IsOfLimits e
ray_refutes n lineality rays e all h = elim h.refused [
  | inr s ↦ subst IsOfLimits (sym s.2) tt
  | inl k ↦ absurd (behind_holds (IsOutside n lineality) (IsOutside n lineality) rays h.place h.ray h.first all k.0)
]

below_refutes : (count : ℕ) (ns : List ℕ) (i k : ℕ) → IsBehind (λ j. j < count) ns i k → count ≤ k → AreBelow count ns → ⊥
below_refutes count ns i k b above all = (let small : k < count = behind_holds (λ j. j < count) (λ j. j < count) ns i k b all in omega (arith, small, above))

number_once : (count : ℕ) (cs : List (List ℕ)) (e d : FanFileError) → IsNumberFault count cs e → IsNumberFault count cs d → d ≡ e
number_once count cs e d h g =
    let above = h.above in let over = g.above in
    let cone = behind_once (AreBelow count) cs h.place g.place h.cone g.cone h.first g.first
    (λ b. below_refutes count h.cone h.within h.number h.first_within above b) (λ b. below_refutes count g.cone g.within g.number g.first_within over b) in
    let there : IsBehind (λ k. k < count) h.cone g.within g.number = subst (λ c. IsBehind (λ k. k < count) c g.within g.number) cone.1 g.first_within in
    let number = behind_once (λ k. k < count) h.cone h.within g.within h.number g.number h.first_within there (λ b. omega (arith, above, b)) (λ b.
    omega (arith, over, b)) in
    g.refused ∙ ap (λ i. errors.BadRay i) number.1 ∙ sym h.refused

form_once : (f : FanFile) (e d : FanFileError) → (IsOfLimits e → ⊥) → IsFormFault f e → IsFormFault f d → (d ≡ e) ⊎ IsOfLimits d
form_once f e d told (zero_dimension z is) (zero_dimension y so) = inl (so ∙ sym is)
form_once f e d told (zero_dimension z is) (at_rays q g) = absurd (omega (arith, z, q))
form_once f e d told (zero_dimension z is) (at_lineality q s g) = absurd (omega (arith, z, q))
form_once f e d told (zero_dimension z is) (at_interiors q s m g) = absurd (omega (arith, z, q))
form_once f e d told (zero_dimension z is) (at_ray q s m j g) = absurd (omega (arith, z, q))
form_once f e d told (zero_dimension z is) (at_number q s m j u g) = absurd (omega (arith, z, q))
form_once f e d told (at_rays p h) (zero_dimension y so) = absurd (omega (arith, p, y))
form_once f e d told (at_rays p h) (at_rays q g) = inl (length_once f.ambient f.rays e d h g)
form_once f e d told (at_rays p h) (at_lineality q s g) = absurd (length_sound f.ambient f.rays e s h)
form_once f e d told (at_rays p h) (at_interiors q s m g) = absurd (length_sound f.ambient f.rays e s h)
form_once f e d told (at_rays p h) (at_ray q s m j g) = absurd (length_sound f.ambient f.rays e s h)
form_once f e d told (at_rays p h) (at_number q s m j u g) = absurd (length_sound f.ambient f.rays e s h)
form_once f e d told (at_lineality p r h) (zero_dimension y so) = absurd (omega (arith, p, y))
form_once f e d told (at_lineality p r h) (at_rays q g) = absurd (length_sound f.ambient f.rays d r g)
form_once f e d told (at_lineality p r h) (at_lineality q s g) = inl (length_once f.ambient f.lineality e d h g)
form_once f e d told (at_lineality p r h) (at_interiors q s m g) = absurd (length_sound f.ambient f.lineality e m h)
form_once f e d told (at_lineality p r h) (at_ray q s m j g) = absurd (length_sound f.ambient f.lineality e m h)
form_once f e d told (at_lineality p r h) (at_number q s m j u g) = absurd (length_sound f.ambient f.lineality e m h)
form_once f e d told (at_interiors p r l h) (zero_dimension y so) = absurd (omega (arith, p, y))
form_once f e d told (at_interiors p r l h) (at_rays q g) = absurd (length_sound f.ambient f.rays d r g)
form_once f e d told (at_interiors p r l h) (at_lineality q s g) = absurd (length_sound f.ambient f.lineality d l g)
form_once f e d told (at_interiors p r l h) (at_interiors q s m g) = inl (length_once f.ambient (interior_rows f.interiors) e d h g)
form_once f e d told (at_interiors p r l h) (at_ray q s m j g) = absurd (length_sound f.ambient (interior_rows f.interiors) e j h)
form_once f e d told (at_interiors p r l h) (at_number q s m j u g) = absurd (length_sound f.ambient (interior_rows f.interiors) e j h)
form_once f e d told (at_ray p r l i h) (zero_dimension y so) = absurd (omega (arith, p, y))
form_once f e d told (at_ray p r l i h) (at_rays q g) = absurd (length_sound f.ambient f.rays d r g)
form_once f e d told (at_ray p r l i h) (at_lineality q s g) = absurd (length_sound f.ambient f.lineality d l g)
form_once f e d told (at_ray p r l i h) (at_interiors q s m g) = absurd (length_sound f.ambient (interior_rows f.interiors) d i g)
form_once f e d told (at_ray p r l i h) (at_ray q s m j g) = ray_once f.ambient f.lineality f.rays e d told h g
form_once f e d told (at_ray p r l i h) (at_number q s m j u g) = absurd (told (ray_refutes f.ambient f.lineality f.rays e u h))
form_once f e d told (at_number p r l i o h) (zero_dimension y so) = absurd (omega (arith, p, y))
form_once f e d told (at_number p r l i o h) (at_rays q g) = absurd (length_sound f.ambient f.rays d r g)
form_once f e d told (at_number p r l i o h) (at_lineality q s g) = absurd (length_sound f.ambient f.lineality d l g)
form_once f e d told (at_number p r l i o h) (at_interiors q s m g) = absurd (length_sound f.ambient (interior_rows f.interiors) d i g)
form_once f e d told (at_number p r l i o h) (at_ray q s m j g) = inr (ray_refutes f.ambient f.lineality f.rays d o g)
form_once f e d told (at_number p r l i o h) (at_number q s m j u g) = inl (number_once (length f.rays) f.cones e d h g)

-- ---- texts

-- names of sections are different
named_once : (s t : Section) → section_name s ≡ section_name t → t ≡ s
named_once names.AmbientDim names.AmbientDim e = refl
named_once names.AmbientDim names.Rays e = cc
named_once names.AmbientDim names.LinealitySpace e = cc
named_once names.AmbientDim names.MaximalCones e = cc
named_once names.AmbientDim names.MaximalInteriors e = cc
named_once names.Rays names.AmbientDim e = cc
named_once names.Rays names.Rays e = refl
named_once names.Rays names.LinealitySpace e = cc
named_once names.Rays names.MaximalCones e = cc
named_once names.Rays names.MaximalInteriors e = cc
named_once names.LinealitySpace names.AmbientDim e = cc
named_once names.LinealitySpace names.Rays e = cc
named_once names.LinealitySpace names.LinealitySpace e = refl
named_once names.LinealitySpace names.MaximalCones e = cc
named_once names.LinealitySpace names.MaximalInteriors e = cc
named_once names.MaximalCones names.AmbientDim e = cc
named_once names.MaximalCones names.Rays e = cc
named_once names.MaximalCones names.LinealitySpace e = cc
named_once names.MaximalCones names.MaximalCones e = refl
named_once names.MaximalCones names.MaximalInteriors e = cc
named_once names.MaximalInteriors names.AmbientDim e = cc
named_once names.MaximalInteriors names.Rays e = cc
named_once names.MaximalInteriors names.LinealitySpace e = cc
named_once names.MaximalInteriors names.MaximalCones e = cc
named_once names.MaximalInteriors names.MaximalInteriors e = refl

-- a version that isn't known has one number
version_once : (source : List ℕ) (number other : ℕ) → told_version source ≡ Some number → told_version source ≡ Some other → other ≡ number
version_once source number other h g = cc

version_unknown : (source : List ℕ) (number : ℕ) → told_version source ≡ Some number → (number ≡ 1 → ⊥) → (number ≡ 2 → ⊥) →
    IsKnownVersion (told_version source) → ⊥
version_unknown source number is no_first no_second k = elim (subst IsKnownVersion is k) [ inl e ↦ no_first e | inr e ↦ no_second e ]

missing_same : (source : List ℕ) (all other : Named) → AreSectionsOf source all → AreSectionsOf source other →
    first_missing (wanted (told_version source)) all ≡ first_missing (wanted (told_version source)) other
missing_same source all other h g = ap (first_missing (wanted (told_version source))) (sections_once source all other h g)

pub refused_once : (source : List ℕ) (e d : FanFileError) → (IsOfLimits e → ⊥) → IsFileRefused source e → IsFileRefused source d → (d ≡ e) ⊎ IsOfLimits d
refused_once source e d told (no_memory is) g = absurd (told (subst IsOfLimits (sym is) tt))
refused_once source e d told h (no_memory is) = inr (subst IsOfLimits (sym is) tt)
refused_once source e d told (in_text h) (in_text g) = inl (first_once (told_table source) (length source) [] (sections source) e d h g)
refused_once source e d told (in_text h) (bad_version all number held v a b is) = absurd (text_sound (told_table source) source all e held h)
refused_once source e d told (in_text h) (not_there all section held known missing is) = absurd (text_sound (told_table source) source all e held h)
refused_once source e d told (in_text h) (in_form f is g) = absurd (text_sound (told_table source) source is.all e is.held h)
refused_once source e d told (bad_version all number held v a b is) (in_text g) = absurd (text_sound (told_table source) source all d held g)
refused_once source e d told (bad_version all number held v a b is) (bad_version some other holds w p q so) =
    inl (so ∙ ap (λ n. errors.BadVersion n) (version_once source number other v w) ∙ sym is)
refused_once source e d told (bad_version all number held v a b is) (not_there some section holds known missing so) =
    absurd (version_unknown source number v a b known)
refused_once source e d told (bad_version all number held v a b is) (in_form f said g) = absurd (version_known source f number said v a b)
refused_once source e d told (not_there all section held known missing is) (in_text g) = absurd (text_sound (told_table source) source all d held g)
refused_once source e d told (not_there all section held known missing is) (bad_version some other holds w p q so) =
    absurd (version_unknown source other w p q known)
refused_once source e d told (not_there all section held known missing is) (not_there other name there also none so) =
    let same = missing_same source other all there held in
    let first : section_name section ≡ section_name name = cc in
    inl (so ∙ ap (λ n. errors.Missing n) (named_once section name first) ∙ sym is)
refused_once source e d told (not_there all section held known missing is) (in_form f said g) =
    let same = missing_same source all said.all held said.held in
    let none = none_missing source f said in
    absurd (cc)
refused_once source e d told (in_form f said h) (in_text g) = absurd (text_sound (told_table source) source said.all d said.held g)
refused_once source e d told (in_form f said h) (bad_version all number held v a b is) = absurd (version_known source f number said v a b)
refused_once source e d told (in_form f said h) (not_there all section held known missing is) =
    let same = missing_same source all said.all held said.held in
    let none = none_missing source f said in
    absurd (cc)
refused_once source e d told (in_form f said h) (in_form g read k) = form_once f e d told h (subst (λ q. IsFormFault q d) (file_once source f g said read) k)

-- a text that is refused, but for limits, says no sound file
pub refused_unsound : (source : List ℕ) (f : FanFile) (e : FanFileError) → (IsOfLimits e → ⊥) → IsFileOf source f → IsSoundFile f → IsFileRefused source e → ⊥
refused_unsound source f e told h s r = elim (sound_refused source f e h s r) [
  | inl m ↦ told (subst IsOfLimits (sym m) tt)
  | inr t ↦ told (subst IsOfLimits (sym t.1.1) tt)
]
