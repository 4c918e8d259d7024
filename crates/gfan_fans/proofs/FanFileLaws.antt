-- What a fan file says within limits, and what is refused of it exactly.
-- To cite: within_memory, ambient_once, told_words, words_refused_once. The rest are steps.
use Rattle.std.specs.Prelude.{◌≡◌, ◌⊎◌, ℕ, ℤ, nat_eq, Bool, true, false, List, [], ◌∷◌, ◌++◌, length, if◌then◌else◌}
use Rattle.std.proofs.Common.{arith, refl, sym, ap, ◌∙◌, subst, inl, inr}
use Rattle.gf_fan.specs.declared.error.FanError.{FanError}
use Rattle.gf_fan.specs.declared.error.FanError.TheVariants as fan_errors
use Rattle.gf_fan.specs.FanLists.{FanLists}
use Rattle.gf_rays.specs.Cones.{RowsAndRays}
use Rattle.gf_text.specs.declared.error.Cause.{Cause}
use Rattle.gf_text.specs.declared.error.Cause.TheVariants as causes
use Rattle.gf_text.specs.Machine.{Lexeme, Fault}
use Rattle.gf_fan_files.specs.declared.error.FanFileError.{FanFileError}
use Rattle.gf_fan_files.specs.declared.error.FanFileError.TheVariants as errors
use Rattle.gf_fan_files.specs.declared.file.FanFile.{FanFile}
use Rattle.gf_fan_files.specs.Refused.{refused_at, refused_before}
use Rattle.gf_fan_files.specs.Lines.{Section, sections, content_tokens, end_before}
use Rattle.gf_fan_files.specs.RowText.{AreRowTexts}
use Rattle.gf_fan_files.specs.ConeText.{AreConeTexts}
use Rattle.gf_fan_files.specs.NumberText.{IsOneNumberText}
use Rattle.gf_fan_files.specs.FanText.{ContentKind, number_to, rows, cones, any, told_version, kind_in, Table, told_table, IsFaultOf, IsContentFault}
use Rattle.gf_fan_files.specs.FanText.{IsFirstFault, first_missing, wanted}
use Rattle.gf_fan_files.specs.Files.{IsOfLimits, interior_rows, IsFormFault, zero_dimension, at_rays, at_lineality, at_interiors, at_ray, at_number}
use Rattle.gf_fan_files.specs.Files.{IsFileRefused, in_text, bad_version, not_there, in_form, no_memory}
use Rattle.gf_fan_files.specs.Certificates.{IsCertificateFault, other_count, at_row, too_wide}
use Rattle.gf_fan_files.specs.FilesFans.{IsFanOfText, refusal_of_fan, IsFanFault, in_cone, in_certificate, in_fan, IsFanFileRefusal, before_cones, behind_form}
use Rattle.gf_fan_files.proofs.FanTextLaws.{text_sound}
use Rattle.gf_fan_files.proofs.FilesLaws.{sections_once, file_once, length_sound, none_missing, version_known, refused_sound}
use Rattle.gf_fan_files.proofs.FilesFansLaws.{only_memory}
use Rattle.gf_fan_files.proofs.OnceLaws.{refused_once, refused_unsound}
use Rattle.gfan_fans.specs.CommonRefinement.{IsOfWords, IsFanTextWithin}

-- ---- a text that says a fan

-- within limits one that says a fan isn't refused, unless there is no memory
pub within_memory : (source : List ℕ) (e : FanFileError) → IsFanTextWithin source → IsFanFileRefusal source e → e ≡ errors.Memory
within_memory source e w (before_cones k) = refused_sound source w.file e w.is_file w.sound w.within.tests k
within_memory source e w (behind_form g so s k) =
    only_memory w.file e w.within w.certified w.meeting (inl (subst (λ q. IsFanFault q e) (file_once source w.file g w.is_file so) k))

-- its fan is one of vectors of one length
pub ambient_once : (source : List ℕ) (g h : FanLists) → IsFanOfText source g → IsFanOfText source h → h.ambient ≡ g.ambient
ambient_once source g h s t = t.of_file.is_fan.ambient ∙ ap (λ (f : FanFile). f.ambient) (file_once source s.file t.file s.is_file t.is_file) ∙
    sym s.of_file.is_fan.ambient

-- ---- what is found before any operation on vectors

refused_told : (place : ℕ) (c : Cause) → IsOfLimits (refused_at place c) → ⊥
refused_told place causes.Ended l = l
refused_told place causes.Unexpected l = l
refused_told place causes.RepeatedName l = l
refused_told place causes.ZeroDenominator l = l
refused_told place causes.TooWide l = l
refused_told place causes.UnknownName l = l

before_told : (end : ℕ) (f : Fault) → IsOfLimits (refused_before end f) → ⊥
before_told end f l = by (nat_eq f.at end) l
  where
    by : (b : Bool) → IsOfLimits (if b then refused_at f.at causes.Ended else refused_at f.at f.cause) → ⊥
    by true l = refused_told f.at causes.Ended l
    by false l = refused_told f.at f.cause l

of_told : {A : Type 0} (grammar : List (List ℕ) → A → Type 0) (end : ℕ) (xs : List Lexeme) (e : FanFileError) → IsFaultOf grammar end xs e → IsOfLimits e → ⊥
of_told grammar end xs e (f, none, here, is) l = before_told end f (subst IsOfLimits is l)

content_told : (end : ℕ) (k : ContentKind) (xs : List Lexeme) (e : FanFileError) → IsContentFault end k xs e → IsOfLimits e → ⊥
content_told end (number_to limit) xs e (inl h) l = subst IsOfLimits h.1 l
content_told end (number_to limit) xs e (inr h) l = of_told IsOneNumberText end xs e h.1 l
content_told end rows xs e h l = of_told AreRowTexts end xs e h l
content_told end cones xs e h l = of_told AreConeTexts end xs e h l
content_told end any xs e h l = h

first_told : (table : Table) (end : ℕ) (seen : List (List ℕ)) (ss : List Section) (e : FanFileError) → IsFirstFault table end seen ss e → IsOfLimits e → ⊥
first_told table end seen [] e h l = h
first_told table end seen (s ∷ ss) e (inl h) l = refused_told s.at causes.RepeatedName (subst IsOfLimits h.1 l)
first_told table end seen (s ∷ ss) e (inr (inl h)) l = content_told end (kind_in table s.name) (content_tokens (end_before end ss) s.content) e h.1 l
first_told table end seen (s ∷ ss) e (inr (inr h)) l = first_told table end (seen ++ s.name ∷ []) ss e h.2 l

-- what a file is refused for, where it isn't its numbers: its lengths, or a ray
form_words : (f : FanFile) (e d : FanFileError) → IsOfWords e → (d ≡ errors.Memory → ⊥) → IsFormFault f e → IsFormFault f d → IsOfLimits d → ⊥
form_words f e d w m h (zero_dimension y so) l = subst IsOfLimits so l
form_words f e d w m h (at_rays q g) l = subst IsOfLimits g.refused l
form_words f e d w m h (at_lineality q r g) l = subst IsOfLimits g.refused l
form_words f e d w m h (at_interiors q r o g) l = subst IsOfLimits g.refused l
form_words f e d w m h (at_number q r o i u g) l = subst IsOfLimits g.refused l
form_words f e d w m (zero_dimension z is) (at_ray q r o i g) l = omega (arith, z, q)
form_words f e d w m (at_rays p h) (at_ray q r o i g) l = length_sound f.ambient f.rays e r h
form_words f e d w m (at_lineality p s h) (at_ray q r o i g) l = length_sound f.ambient f.lineality e o h
form_words f e d w m (at_interiors p s t h) (at_ray q r o i g) l = length_sound f.ambient (interior_rows f.interiors) e i h
form_words f e d w m (at_ray p s o j h) (at_ray q r u i g) l = elim h.refused [ inl x ↦ subst IsOfWords x.1 w | inr x ↦ subst IsOfWords x.2 w ]
form_words f e d w m (at_number p s o j u h) (at_ray q r t i g) l = subst IsOfWords h.refused w

pub told_words : (e : FanFileError) → IsOfWords e → IsOfLimits e → ⊥
told_words (errors.Cone o) w l = w
told_words (errors.Wide x) w l = w
told_words errors.Memory w l = w
told_words _ w l = l

-- what is refused so isn't refused for an operation
file_words : (source : List ℕ) (e d : FanFileError) → IsOfWords e → (d ≡ errors.Memory → ⊥) → IsFileRefused source e → IsFileRefused source d → IsOfLimits d → ⊥
file_words source e d w m (no_memory is) k l = subst IsOfWords is w
file_words source e d w m h (no_memory so) l = m so
file_words source e d w m h (in_text g) l = first_told (told_table source) (length source) [] (sections source) d g l
file_words source e d w m h (bad_version other number there told first second so) l = subst IsOfLimits so l
file_words source e d w m h (not_there other name there known none so) l = subst IsOfLimits so l
file_words source e d w m (in_text h) (in_form g read k) l = text_sound (told_table source) source read.all e read.held h
file_words source e d w m (bad_version all number held told first second is) (in_form g read k) l = version_known source g number read told first second
file_words source e d w m (not_there all section held known missing is) (in_form f said g) l =
    let same : first_missing (wanted (told_version source)) all ≡ first_missing (wanted (told_version source)) said.all =
    ap (first_missing (wanted (told_version source))) (sections_once source all said.all held said.held) in
    let none = none_missing source f said in
    cc
file_words source e d w m (in_form f said h) (in_form g read k) l = form_words f e d w m h (subst (λ q. IsFormFault q d) (file_once source f g said read) k) l

-- nor is a file whose rows don't lie inside its cones
certificate_words : (f : FanFile) (e : FanFileError) (cs : List RowsAndRays) (given : List (List ℤ)) → IsOfWords e → IsCertificateFault f.ambient cs given e → ⊥
certificate_words f e cs given w (other_count other q) = subst IsOfWords q w
certificate_words f e cs given w (at_row place h q) = subst IsOfWords q w
certificate_words f e cs given w (too_wide x h q) = subst IsOfWords q w

-- where a text is refused so, it is refused so exactly
pub words_refused_once : (source : List ℕ) (e d : FanFileError) → IsOfWords e → IsFanFileRefusal source e → IsFanFileRefusal source d →
    (d ≡ e) ⊎ (d ≡ errors.Memory)
words_refused_once source e d w (before_cones h) (before_cones k) = by d k (refused_once source e d (told_words e w) h k)
  where
    by : (x : FanFileError) → IsFileRefused source x → (x ≡ e) ⊎ IsOfLimits x → (x ≡ e) ⊎ (x ≡ errors.Memory)
    by x k (inl s) = inl s
    by (errors.Cone o) k (inr l) = absurd (file_words source e (errors.Cone o) w (λ q. cc) h k tt)
    by (errors.Wide o) k (inr l) = absurd (file_words source e (errors.Wide o) w (λ q. cc) h k tt)
    by errors.Memory k (inr l) = inr refl
    by _ k (inr l) = absurd l
words_refused_once source e d w (before_cones h) (behind_form f is s k) = absurd (refused_unsound source f e (told_words e w) is s h)
words_refused_once source e d w (behind_form f is s (in_cone o h q)) k = absurd (subst IsOfWords q w)
words_refused_once source e d w (behind_form f is s (in_certificate cs given a has h)) k = absurd (certificate_words f e cs given w h)
words_refused_once source e d w (behind_form f is s (in_fan cs x a c h q)) k = absurd (fan_words x (subst IsOfWords q w))
  where
    fan_words : (x : FanError) → IsOfWords (refusal_of_fan x) → ⊥
    fan_words (fan_errors.Cone o) w = w
    fan_words (fan_errors.NotAFan i j) w = w
    fan_words fan_errors.Memory w = w
