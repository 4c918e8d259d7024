-- What `_fancommonrefinement` answers, why it doesn't, and that two texts are answered in one way.
-- To cite: fan_unrefused, told_file, of_numbers, file_refused_once, in_words_once, fan_in_words; refined_told, words_once,
-- words_no_text, once_no_text, within_answered; refinement_refused, refinement_answered, refinement_lawful; file_named,
-- refine_named, writing_named, refinement_unwritten. The rest are steps.
use Rattle.std.specs.Prelude.{◌≡◌, ◌⊎◌, ℕ, List, [], ◌∷◌, None}
use Rattle.std.proofs.Common.{refl, sym, ap, ◌∙◌, subst, inl, inr}
use Rattle.gf_fan.specs.FanLists.{FanLists}
use Rattle.gf_front.specs.declared.refusal.Refusal.{Refusal}
use Rattle.gf_front.specs.declared.refusal.Refusal.TheVariants as refusals
use Rattle.gf_items.specs.Refusals.{IsExactRefusal, IsOfNumbers, TellsSame}
use Rattle.gf_items.proofs.CheckLaws.{IsCheckedOnce}
use Rattle.gf_frame.specs.Commands.{Writing, IsOfWriting, IsFixed, IsUnanswered, IsAnswered, IsRefusedOn}
use Rattle.gf_frame.proofs.ReadingLaws.{two_once}
use Rattle.gf_frame.proofs.CommandLaws.{IsLawful, tells_itself}
use Rattle.gf_fan_files.specs.declared.error.FanFileError.{FanFileError}
use Rattle.gf_fan_files.specs.declared.error.FanFileError.TheVariants as file_errors
use Rattle.gf_fan_files.specs.declared.file.FanFile.{FanFile}
use Rattle.gf_fan_files.specs.Files.{IsFileOf, IsOfLimits}
use Rattle.gf_fan_files.specs.FilesFans.{IsFanOfText, IsFanFileRefusal}
use Rattle.gf_fan_files.proofs.FilesLaws.{file_once}
use Rattle.gf_refine.specs.declared.error.RefineError.{RefineError}
use Rattle.gf_refine.specs.declared.error.RefineError.TheVariants as refine_errors
use Rattle.gf_refine.specs.Refusals.{IsRefineRefusal}
use Rattle.gf_refine.specs.FansRefined.{IsRefinementOf}
use Rattle.gf_vec.specs.declared.error.VecError.{VecError}
use Rattle.gf_vec.specs.declared.error.VecError.TheVariants as vec_errors
use Rattle.gf_vec.specs.Steps.{IfWide}
use Rattle.gf_fan_files.specs.FanTexts.{IsWritingStep}
use Rattle.gfan_fans.specs.FanTexts.{of_writing}
use Rattle.gfan_common.specs.Refused.{IsNamedBy}
use Rattle.gfan_fans.specs.CommonRefinement.{of_fan_file, of_refine, IsRefinementText, IsRefinementRefused, IsOfWords, IsRefusedInWords, IsRefinementWithin}
use Rattle.gfan_fans.specs.CommonRefinement.{in_words, refinement_command}
use Rattle.gf_fan_files.proofs.FanOnceLaws.{refusals_once, refusal_refutes}
use Rattle.gfan_fans.proofs.FanFileLaws.{told_words, words_refused_once, within_memory, ambient_once}

-- ---- kinds of refusals

pub fan_unrefused : (source : List ℕ) (f : FanLists) (e : FanFileError) → (IsOfLimits e → ⊥) → IsFanOfText source f → IsFanFileRefusal source e → ⊥
fan_unrefused source f e told t h = refusal_refutes source f e told h t

limits_numbers : (e : FanFileError) → IsOfLimits e → IsOfNumbers (of_fan_file e)
limits_numbers (file_errors.Cone o) l = tt
limits_numbers (file_errors.Wide w) l = tt
limits_numbers file_errors.Memory l = tt
limits_numbers _ l = absurd l

pub told_file : (r : Refusal) (e : FanFileError) → (IsOfNumbers r → ⊥) → r ≡ of_fan_file e → IsOfLimits e → ⊥
told_file r e n q l = n (subst IsOfNumbers (sym q) (limits_numbers e l))

-- what isn't told of a text that says a fan is of its numbers
pub of_numbers : (source : List ℕ) (f : FanLists) (d : Refusal) (e : FanFileError) → IsFanOfText source f → IsFanFileRefusal source e → d ≡ of_fan_file e →
    IsOfNumbers d
of_numbers source f d e i h q = subst IsOfNumbers (sym q) (by e h)
  where
    by : (x : FanFileError) → IsFanFileRefusal source x → IsOfNumbers (of_fan_file x)
    by (file_errors.Cone o) h = tt
    by (file_errors.Wide w) h = tt
    by file_errors.Memory h = tt
    by (file_errors.Syntax s) h = absurd (fan_unrefused source f (file_errors.Syntax s) (λ l. l) i h)
    by (file_errors.TooWide at) h = absurd (fan_unrefused source f (file_errors.TooWide at) (λ l. l) i h)
    by (file_errors.TooManyVariables count) h = absurd (fan_unrefused source f (file_errors.TooManyVariables count) (λ l. l) i h)
    by (file_errors.NotAFan first second) h = absurd (fan_unrefused source f (file_errors.NotAFan first second) (λ l. l) i h)
    by (file_errors.Missing section) h = absurd (fan_unrefused source f (file_errors.Missing section) (λ l. l) i h)
    by (file_errors.BadRay number) h = absurd (fan_unrefused source f (file_errors.BadRay number) (λ l. l) i h)
    by (file_errors.Dimensions left right) h = absurd (fan_unrefused source f (file_errors.Dimensions left right) (λ l. l) i h)
    by (file_errors.BadVersion number) h = absurd (fan_unrefused source f (file_errors.BadVersion number) (λ l. l) i h)
    by (file_errors.BadCertificate cone) h = absurd (fan_unrefused source f (file_errors.BadCertificate cone) (λ l. l) i h)

-- ---- two texts

pub file_refused_once : (source : List ℕ) (r d : Refusal) (e x : FanFileError) → (IsOfNumbers r → ⊥) → IsFanFileRefusal source e → r ≡ of_fan_file e →
    IsFanFileRefusal source x → d ≡ of_fan_file x → (d ≡ r) ⊎ IsOfNumbers d
file_refused_once source r d e x n h q k p = elim (refusals_once source e x (told_file r e n q) h k) [
  | inl s ↦ inl (p ∙ ap of_fan_file s ∙ sym q)
  | inr l ↦ inr (subst IsOfNumbers (sym p) (limits_numbers x l))
]

work_refused_once : (a b : List ℕ) (r d : Refusal) (f g h k : FanLists) (e x : RefineError) → (IsOfNumbers r → ⊥) → IsFanOfText a f → IsFanOfText b g →
    IsFanOfText a h → IsFanOfText b k → IsRefineRefusal f g e → r ≡ of_refine e → IsRefineRefusal h k x → d ≡ of_refine x → (d ≡ r) ⊎ IsOfNumbers d
work_refused_once a b r d f g h k (refine_errors.Cone o) x n i j s t w q y p = absurd (n (subst IsOfNumbers (sym q) tt))
work_refused_once a b r d f g h k refine_errors.Memory x n i j s t w q y p = absurd (n (subst IsOfNumbers (sym q) tt))
work_refused_once a b r d f g h k (refine_errors.Dimensions l m) (refine_errors.Cone o) n i j s t w q y p = inr (subst IsOfNumbers (sym p) tt)
work_refused_once a b r d f g h k (refine_errors.Dimensions l m) refine_errors.Memory n i j s t w q y p = inr (subst IsOfNumbers (sym p) tt)
work_refused_once a b r d f g h k (refine_errors.Dimensions l m) (refine_errors.Dimensions u v) n i j s t w q y p =
    let left : u ≡ l = y.0 ∙ ambient_once a f h i s ∙ sym w.0 in
    let right : v ≡ m = y.1 ∙ ambient_once b g k j t ∙ sym w.1 in
    inl (p ∙ (λ z. refusals.Dimensions (left z) (right z)) ∙ sym q)

-- they are refused in one way, unless numbers don't fit
refined_once : (a b : List ℕ) (r d : Refusal) → (IsOfNumbers r → ⊥) → IsRefinementRefused a b r → IsRefinementRefused a b d → (d ≡ r) ⊎ IsOfNumbers d
refined_once a b r d n (IsRefinementRefused.no_memory q) k = absurd (n (subst IsOfNumbers (sym q) tt))
refined_once a b r d n (IsRefinementRefused.in_writing f g x w i j t s q) k = absurd (n (subst IsOfNumbers (sym q) tt))
refined_once a b r d n h (IsRefinementRefused.no_memory p) = inr (subst IsOfNumbers (sym p) tt)
refined_once a b r d n h (IsRefinementRefused.in_writing f g x w i j t s p) = inr (subst IsOfNumbers (sym p) tt)
refined_once a b r d n (IsRefinementRefused.in_first e h q) (IsRefinementRefused.in_first x k p) = file_refused_once a r d e x n h q k p
refined_once a b r d n (IsRefinementRefused.in_first e h q) (IsRefinementRefused.in_second f x i k p) = absurd (fan_unrefused a f e (told_file r e n q) i h)
refined_once a b r d n (IsRefinementRefused.in_first e h q) (IsRefinementRefused.in_work f g x i j k p) = absurd (fan_unrefused a f e (told_file r e n q) i h)
refined_once a b r d n (IsRefinementRefused.in_second f e i h q) (IsRefinementRefused.in_first x k p) = inr (of_numbers a f d x i k p)
refined_once a b r d n (IsRefinementRefused.in_second f e i h q) (IsRefinementRefused.in_second g x j k p) = file_refused_once b r d e x n h q k p
refined_once a b r d n (IsRefinementRefused.in_second f e i h q) (IsRefinementRefused.in_work g s x j t k p) =
    absurd (fan_unrefused b s e (told_file r e n q) t h)
refined_once a b r d n (IsRefinementRefused.in_work f g e i j h q) (IsRefinementRefused.in_first x k p) = inr (of_numbers a f d x i k p)
refined_once a b r d n (IsRefinementRefused.in_work f g e i j h q) (IsRefinementRefused.in_second s x t k p) = inr (of_numbers b g d x j k p)
refined_once a b r d n (IsRefinementRefused.in_work f g e i j h q) (IsRefinementRefused.in_work s t x u v k p) =
    work_refused_once a b r d f g s t e x n i j u v h q k p

pub refined_told : (a b : List ℕ) (r d : Refusal) → (IsOfNumbers r → ⊥) → IsRefinementRefused a b r → IsRefinementRefused a b d → TellsSame r d ⊎ IsOfNumbers d
refined_told a b r d n h k = elim (refined_once a b r d n h k) [
  | inl e ↦ inl (subst (TellsSame r) (sym e) (tells_itself r))
  | inr m ↦ inr m
]

-- what the first text is refused for without an operation on vectors is told exactly
pub words_once : (a b : List ℕ) (r d : Refusal) → IsRefusedInWords a r → IsRefinementRefused a b d → (d ≡ r) ⊎ (d ≡ refusals.Memory)
words_once a b r d w (IsRefinementRefused.in_first x k p) = elim (words_refused_once a w.error x w.of_words w.refused k) [
  | inl s ↦ inl (p ∙ ap of_fan_file s ∙ sym w.is)
  | inr m ↦ inr (p ∙ ap of_fan_file m)
]
words_once a b r d w (IsRefinementRefused.in_second f x i k p) = absurd (fan_unrefused a f w.error (told_words w.error w.of_words) i w.refused)
words_once a b r d w (IsRefinementRefused.in_work f g x i j k p) = absurd (fan_unrefused a f w.error (told_words w.error w.of_words) i w.refused)
words_once a b r d w (IsRefinementRefused.in_writing f g h x i j t s p) = absurd (fan_unrefused a f w.error (told_words w.error w.of_words) i w.refused)
words_once a b r d w (IsRefinementRefused.no_memory p) = inr p

pub words_no_text : (a b text : List ℕ) (r : Refusal) → IsRefusedInWords a r → IsRefinementText a b text → ⊥
words_no_text a b text r w t = fan_unrefused a t.first w.error (told_words w.error w.of_words) t.is_first w.refused

-- where they are refused they have no text
pub once_no_text : (a b text : List ℕ) (r : Refusal) → (IsOfNumbers r → ⊥) → IsRefinementRefused a b r → IsRefinementText a b text → ⊥
once_no_text a b text r n (IsRefinementRefused.in_first e h q) t = fan_unrefused a t.first e (told_file r e n q) t.is_first h
once_no_text a b text r n (IsRefinementRefused.in_second f e i h q) t = fan_unrefused b t.second e (told_file r e n q) t.is_second h
once_no_text a b text r n (IsRefinementRefused.in_work f g (refine_errors.Cone o) i j h q) t = n (subst IsOfNumbers (sym q) tt)
once_no_text a b text r n (IsRefinementRefused.in_work f g refine_errors.Memory i j h q) t = n (subst IsOfNumbers (sym q) tt)
once_no_text a b text r n (IsRefinementRefused.in_work f g (refine_errors.Dimensions l m) i j h q) t =
    h.2 (h.0 ∙ ambient_once a t.first f t.is_first i ∙ sym t.same ∙ sym (ambient_once b t.second g t.is_second j) ∙ sym h.1)
once_no_text a b text r n (IsRefinementRefused.in_writing f g h w i j x s q) t = n (subst IsOfNumbers (sym q) tt)
once_no_text a b text r n (IsRefinementRefused.no_memory q) t = n (subst IsOfNumbers (sym q) tt)

text_ambient : (source : List ℕ) (f : FanFile) (h : FanLists) → IsFileOf source f → IsFanOfText source h → h.ambient ≡ f.ambient
text_ambient source f h i t = t.of_file.is_fan.ambient ∙ ap (λ (g : FanFile). g.ambient) (file_once source f t.file i t.is_file)

-- within limits they are answered, unless there is no memory
pub within_answered : (a b : List ℕ) (r : Refusal) → IsRefinementWithin a b → IsRefinementRefused a b r → r ≡ refusals.Memory
within_answered a b r w (IsRefinementRefused.in_first e h q) = q ∙ ap of_fan_file (within_memory a e w.first h)
within_answered a b r w (IsRefinementRefused.in_second f e i h q) = q ∙ ap of_fan_file (within_memory b e w.second h)
within_answered a b r w (IsRefinementRefused.in_work f g (refine_errors.Cone o) i j h q) = absurd (w.work f g i j o h.1)
within_answered a b r w (IsRefinementRefused.in_work f g refine_errors.Memory i j h q) = q
within_answered a b r w (IsRefinementRefused.in_work f g (refine_errors.Dimensions l m) i j h q) =
    absurd (h.2 (h.0 ∙ text_ambient a w.first.file f w.first.is_file i ∙ sym w.same ∙ sym (text_ambient b w.second.file g w.second.is_file j) ∙ sym h.1))
within_answered a b r w (IsRefinementRefused.in_writing f g h x i j t s q) = absurd (w.writing f g h i j t x s)
within_answered a b r w (IsRefinementRefused.no_memory q) = q

-- ---- the command

words_kind : (e : FanFileError) → IsOfWords e → IsExactRefusal (of_fan_file e)
words_kind (file_errors.Syntax s) w = inl tt
words_kind (file_errors.TooWide at) w = inl tt
words_kind (file_errors.TooManyVariables count) w = inl tt
words_kind (file_errors.BadVersion number) w = inr tt
words_kind (file_errors.Missing section) w = inr tt
words_kind (file_errors.Dimensions left right) w = inr tt
words_kind _ w = absurd w

in_words_kind : (a : List ℕ) (r : Refusal) → IsRefusedInWords a r → IsExactRefusal r
in_words_kind a r w = subst IsExactRefusal (sym w.is) (words_kind w.error w.of_words)

no_memory : (r : Refusal) → IsExactRefusal r → r ≡ refusals.Memory → ⊥
no_memory r e m = elim (subst IsExactRefusal m e) [ inl x ↦ x | inr x ↦ x ]

pub in_words_once : (a : List ℕ) → IsCheckedOnce (in_words a)
in_words_once a = record {
  once = λ r d w v. elim (words_once a a r d w (IsRefinementRefused.in_first v.error v.refused v.is)) [
    | inl e ↦ e
    | inr m ↦ absurd (no_memory d (in_words_kind a d v) m)
  ];
  apart = λ r h w. h r w;
  kind = in_words_kind a;
}

-- what isn't exact, nor want of memory, isn't found in words
not_in_words : (a b : List ℕ) (r d : Refusal) → (IsExactRefusal r → ⊥) → (r ≡ refusals.Memory → ⊥) → IsRefinementRefused a b r → IsRefusedInWords a d → ⊥
not_in_words a b r d n m h w = elim (words_once a b d r w h) [ inl e ↦ n (subst IsExactRefusal (sym e) (in_words_kind a d w)) | inr k ↦ m k ]

-- what a text that says a fan isn't refused for
pub fan_in_words : (a : List ℕ) (f : FanLists) (d : Refusal) → IsFanOfText a f → IsRefusedInWords a d → ⊥
fan_in_words a f d i w = fan_unrefused a f w.error (told_words w.error w.of_words) i w.refused

not_exact : (r q : Refusal) → r ≡ q → (IsExactRefusal q → ⊥) → IsExactRefusal r → ⊥
not_exact r q e n x = n (subst IsExactRefusal e x)

module _ (first second a b : List ℕ) where
  in_form : (r : Refusal) (e : FanFileError) → IsOfWords e → IsFanFileRefusal a e → r ≡ of_fan_file e →
      IsRefusedOn (refinement_command first second) (a ∷ (b ∷ [])) r
  in_form r e w h q = IsRefusedOn.behind_text (a, b) refl (IsUnanswered.in_form (inl (record { error = e; of_words = w; refused = h; is = q })))

  in_work : (r : Refusal) → ((d : Refusal) → IsRefusedInWords a d → ⊥) → IsRefinementRefused a b r →
      IsRefusedOn (refinement_command first second) (a ∷ (b ∷ [])) r
  in_work r n h = IsRefusedOn.behind_text (a, b) refl (IsUnanswered.in_work (n, tt) h)

  -- a refusal of two texts is one of the command
  pub refinement_refused : (r : Refusal) → IsRefinementRefused a b r → IsRefusedOn (refinement_command first second) (a ∷ (b ∷ [])) r
  refinement_refused r (IsRefinementRefused.in_first (file_errors.Syntax s) h q) = in_form r (file_errors.Syntax s) tt h q
  refinement_refused r (IsRefinementRefused.in_first (file_errors.TooWide at) h q) = in_form r (file_errors.TooWide at) tt h q
  refinement_refused r (IsRefinementRefused.in_first (file_errors.TooManyVariables count) h q) = in_form r (file_errors.TooManyVariables count) tt h q
  refinement_refused r (IsRefinementRefused.in_first (file_errors.BadVersion number) h q) = in_form r (file_errors.BadVersion number) tt h q
  refinement_refused r (IsRefinementRefused.in_first (file_errors.Missing section) h q) = in_form r (file_errors.Missing section) tt h q
  refinement_refused r (IsRefinementRefused.in_first (file_errors.Dimensions left right) h q) = in_form r (file_errors.Dimensions left right) tt h q
  refinement_refused r (IsRefinementRefused.in_first (file_errors.Cone o) h q) =
      in_work r (λ d. not_in_words a b r d (not_exact r (of_fan_file (file_errors.Cone o)) q (λ x. elim x [ inl y ↦ y | inr y ↦ y ])) (λ m. cc)
      (IsRefinementRefused.in_first (file_errors.Cone o) h q)) (IsRefinementRefused.in_first (file_errors.Cone o) h q)
  refinement_refused r (IsRefinementRefused.in_first (file_errors.NotAFan left right) h q) =
      in_work r (λ d. not_in_words a b r d (not_exact r (of_fan_file (file_errors.NotAFan left right)) q (λ x. elim x [ inl y ↦ y | inr y ↦ y ])) (λ m. cc)
      (IsRefinementRefused.in_first (file_errors.NotAFan left right) h q)) (IsRefinementRefused.in_first (file_errors.NotAFan left right) h q)
  refinement_refused r (IsRefinementRefused.in_first (file_errors.BadRay number) h q) =
      in_work r (λ d. not_in_words a b r d (not_exact r (of_fan_file (file_errors.BadRay number)) q (λ x. elim x [ inl y ↦ y | inr y ↦ y ])) (λ m. cc)
      (IsRefinementRefused.in_first (file_errors.BadRay number) h q)) (IsRefinementRefused.in_first (file_errors.BadRay number) h q)
  refinement_refused r (IsRefinementRefused.in_first (file_errors.BadCertificate cone) h q) =
      in_work r (λ d. not_in_words a b r d (not_exact r (of_fan_file (file_errors.BadCertificate cone)) q (λ x. elim x [ inl y ↦ y | inr y ↦ y ])) (λ m. cc)
      (IsRefinementRefused.in_first (file_errors.BadCertificate cone) h q)) (IsRefinementRefused.in_first (file_errors.BadCertificate cone) h q)
  refinement_refused r (IsRefinementRefused.in_first (file_errors.Wide w) h q) =
      in_work r (λ d. not_in_words a b r d (not_exact r (of_fan_file (file_errors.Wide w)) q (λ x. elim x [ inl y ↦ y | inr y ↦ y ])) (λ m. cc)
      (IsRefinementRefused.in_first (file_errors.Wide w) h q)) (IsRefinementRefused.in_first (file_errors.Wide w) h q)
  refinement_refused r (IsRefinementRefused.in_first file_errors.Memory h q) = IsRefusedOn.no_memory q
  refinement_refused r (IsRefinementRefused.in_second f e i h q) = in_work r (λ d w. fan_in_words a f d i w) (IsRefinementRefused.in_second f e i h q)
  refinement_refused r (IsRefinementRefused.in_work f g e i j h q) = in_work r (λ d w. fan_in_words a f d i w) (IsRefinementRefused.in_work f g e i j h q)
  refinement_refused r (IsRefinementRefused.in_writing f g h w i j t s q) =
      in_work r (λ d x. fan_in_words a f d i x) (IsRefinementRefused.in_writing f g h w i j t s q)
  refinement_refused r (IsRefinementRefused.no_memory q) = IsRefusedOn.no_memory q

  pub refinement_answered : (text : List ℕ) → IsRefinementText a b text → IsAnswered (refinement_command first second) (a ∷ (b ∷ [])) text
  refinement_answered text t = record { value = (a, b); read = refl; answer = record { formed = (λ r w. words_no_text a b text r w t, tt); is_answer = t } }

file_writing : (e : FanFileError) → IsOfWriting {A = List ℕ × List ℕ} Writing.at_end (of_fan_file e)
file_writing (file_errors.Syntax s) = tt
file_writing (file_errors.TooWide at) = tt
file_writing (file_errors.TooManyVariables count) = tt
file_writing (file_errors.Cone o) = tt
file_writing (file_errors.NotAFan first second) = tt
file_writing (file_errors.Missing section) = tt
file_writing (file_errors.BadRay number) = tt
file_writing (file_errors.Dimensions left right) = tt
file_writing (file_errors.BadVersion number) = tt
file_writing (file_errors.BadCertificate cone) = tt
file_writing (file_errors.Wide w) = tt
file_writing file_errors.Memory = tt

refine_writing : (e : RefineError) → IsOfWriting {A = List ℕ × List ℕ} Writing.at_end (of_refine e)
refine_writing (refine_errors.Cone o) = tt
refine_writing (refine_errors.Dimensions left right) = tt
refine_writing refine_errors.Memory = tt

refinement_writing : (a b : List ℕ) (r : Refusal) → IsRefinementRefused a b r → IsOfWriting {A = List ℕ × List ℕ} Writing.at_end r
refinement_writing a b r (IsRefinementRefused.in_first e h q) = subst (IsOfWriting {A = List ℕ × List ℕ} Writing.at_end) (sym q) (file_writing e)
refinement_writing a b r (IsRefinementRefused.in_second f e i h q) = subst (IsOfWriting {A = List ℕ × List ℕ} Writing.at_end) (sym q) (file_writing e)
refinement_writing a b r (IsRefinementRefused.in_work f g e i j h q) = subst (IsOfWriting {A = List ℕ × List ℕ} Writing.at_end) (sym q) (refine_writing e)
refinement_writing a b r (IsRefinementRefused.in_writing f g h w i j t s q) = subst (IsOfWriting {A = List ℕ × List ℕ} Writing.at_end) (sym q) tt
refinement_writing a b r (IsRefinementRefused.no_memory q) = subst (IsOfWriting {A = List ℕ × List ℕ} Writing.at_end) (sym q) tt

-- a refusal that is fixed isn't one of numbers
fixed_not_numbers : (r : Refusal) → IsFixed r → IsOfNumbers r → ⊥
fixed_not_numbers (refusals.WideVector w) f n = elim f [ inl x ↦ elim x [ inl y ↦ y | inr y ↦ y ] | inr x ↦ x ]
fixed_not_numbers (refusals.Overflow o) f n = elim f [ inl x ↦ elim x [ inl y ↦ y | inr y ↦ y ] | inr x ↦ x ]
fixed_not_numbers (refusals.ExponentOverflow o) f n = elim f [ inl x ↦ elim x [ inl y ↦ y | inr y ↦ y ] | inr x ↦ x ]
fixed_not_numbers (refusals.ConeOverflow row op left right) f n = elim f [ inl x ↦ elim x [ inl y ↦ y | inr y ↦ y ] | inr x ↦ x ]
fixed_not_numbers (refusals.PairBudget basis unsettled) f n = elim f [ inl x ↦ elim x [ inl y ↦ y | inr y ↦ y ] | inr x ↦ x ]
fixed_not_numbers (refusals.WideRoot index value) f n = elim f [ inl x ↦ elim x [ inl y ↦ y | inr y ↦ y ] | inr x ↦ x ]
fixed_not_numbers refusals.Memory f n = elim f [ inl x ↦ elim x [ inl y ↦ y | inr y ↦ y ] | inr x ↦ x ]
fixed_not_numbers _ f n = n

pub refinement_lawful : (first second : List ℕ) → IsLawful (refinement_command first second)
refinement_lawful first second = record {
  input = tt;
  reading = two_once;
  checks = λ texts v read. (in_words_once v.0, tt);
  work = λ texts v r read h. refinement_writing v.0 v.1 r h;
  within = λ texts v r read w h. within_answered v.0 v.1 r w h;
  tests = λ texts v r d read f h k. refined_told v.0 v.1 r d (fixed_not_numbers r f) h k;
  answers = λ texts v r text read f h a. once_no_text v.0 v.1 text r (fixed_not_numbers r f) h a;
  wholes = λ texts v r text read f h a. once_no_text v.0 v.1 text r (fixed_not_numbers r f) h a;
  turns = tt;
  apart = λ t. absurd t;
}

-- ---- lines without a ring

pub file_named : (e : FanFileError) → IsNamedBy None (of_fan_file e)
file_named (file_errors.Syntax s) = λ lent is. tt
file_named (file_errors.TooWide at) = λ lent is. tt
file_named (file_errors.TooManyVariables count) = λ lent is. tt
file_named (file_errors.Cone o) = λ lent is. tt
file_named (file_errors.NotAFan first second) = λ lent is. tt
file_named (file_errors.Missing section) = λ lent is. tt
file_named (file_errors.BadRay number) = λ lent is. tt
file_named (file_errors.Dimensions left right) = λ lent is. tt
file_named (file_errors.BadVersion number) = λ lent is. tt
file_named (file_errors.BadCertificate cone) = λ lent is. tt
file_named (file_errors.Wide w) = λ lent is. tt
file_named file_errors.Memory = λ lent is. tt

pub refine_named : (e : RefineError) → IsNamedBy None (of_refine e)
refine_named (refine_errors.Cone o) = λ lent is. tt
refine_named (refine_errors.Dimensions left right) = λ lent is. tt
refine_named refine_errors.Memory = λ lent is. tt

pub writing_named : (v : VecError) → IsNamedBy None (of_writing v)
writing_named (vec_errors.Wide w) = λ lent is. tt
writing_named vec_errors.Memory = λ lent is. tt

-- what is found isn't written
pub refinement_unwritten : (a b : List ℕ) (f g h : FanLists) (v : VecError) → IsFanOfText a f → IsFanOfText b g → IsRefinementOf f g h →
    IfWide (IsWritingStep h) v → IsRefinementRefused a b (of_writing v)
refinement_unwritten a b f g h (vec_errors.Wide w) i j t s = IsRefinementRefused.in_writing f g h w i j t s refl
refinement_unwritten a b f g h vec_errors.Memory i j t s = IsRefinementRefused.no_memory refl
