-- What the contents of a text say of its file; a text says one file at most, and a sound one is refused for its numbers alone.
-- To cite: dimension_within, file_within, file_of_contents, text_refused, missing_ambient, missing_rays, missing_lineality, missing_cones, missing_interiors,
-- version_refused,
-- sections_once, file_once, behind_holds, length_sound, none_missing, version_known, sound_refused, refused_sound. The rest are steps.
use Rattle.std.proofs.Common.{◌≡◌, ◌⊎◌, ℕ, ◌≤◌, ◌<◌, Bool, true, false, ◌&&◌, is_none, List, [], ◌∷◌, ◌++◌, length, Option, None, Some, refl, sym, ap, ap₂}
use Rattle.std.proofs.Common.{subst, ◌∙◌, inl, inr, bytes_eq, arith, All, Contains, IfSome, if◌then◌else◌, ℤ}
use Rattle.gf_text.specs.declared.TheConstants.{MOST_VARIABLES}
use Rattle.gf_text.specs.Machine.{texts}
use Rattle.gf_text.proofs.SetTokensLaws.{is_mark, le_from}
use Rattle.gf_gordan.specs.declared.error.ConeOverflow.{ConeOverflow}
use Rattle.gf_fan_files.specs.declared.error.FanFileError.{FanFileError}
use Rattle.gf_fan_files.specs.declared.error.FanFileError.TheVariants as errors
use Rattle.gf_text.specs.declared.error.Section.TheVariants as names
use Rattle.gf_fan_files.specs.declared.file.FanFile.{FanFile}
use Rattle.gf_fan_files.specs.declared.sections.Contents.{Contents}
use Rattle.gf_fan_files.specs.Lines.{Section, sections, content_tokens, end_before}
use Rattle.gf_fan_files.specs.FanText.{ContentKind, number_to, Content, the_number, the_rows, the_cones, IsContentText, kind_in, Named, is_second}
use Rattle.gf_fan_files.specs.FanText.{told_version, IsKnownVersion, fan_table, told_table, text_read, AreHeld, found, wanted, wanted_last, first_missing}
use Rattle.gf_fan_files.specs.FanText.{ambient_dim, rays_name, lineality_space, maximal_cones, maximal_interiors}
use Rattle.gf_fan_files.specs.Found.{IsRefusedSo}
use Rattle.gf_fan_files.specs.Contents.{Says, number_kept, rows_kept, cones_kept, AreInteriorsKept}
use Rattle.gf_fan_files.specs.Files.{AreSectionsOf, AreInteriorsOf, interior_rows, IsFileOf, IsOutside, AreBelow, IsSoundFile, IsTestStep, AreTestsWithin}
use Rattle.gf_fan_files.specs.Files.{IsBehind, IsLengthFault, IsFormFault, zero_dimension, at_rays, at_lineality, at_interiors, at_ray, at_number}
use Rattle.gf_fan_files.specs.Files.{IsFileRefused, in_text, bad_version, not_there, in_form, no_memory}
use Rattle.gf_fan_files.proofs.FanTextLaws.{text_said, text_given, text_fault, text_sound}

-- ---- the ambient dimension is at most MOST_VARIABLES

dimension_of_content : (k : ContentKind) (ts : List (List ℕ)) (c : Content) (n : ℕ) → k ≡ number_to MOST_VARIABLES → c ≡ the_number n → IsContentText k ts c →
    n ≤ MOST_VARIABLES
dimension_of_content k ts c n is_kind is_number h =
    let g : IsContentText k ts (the_number n) = subst (λ d. IsContentText k ts d) is_number h in
    let same : MOST_VARIABLES ≡ g.0 = (let e : number_to MOST_VARIABLES ≡ number_to g.0 = sym is_kind ∙ g.1 in cc) in
    let small = le_from n g.0 g.3 in
    omega (arith, same, small)

kind_of_ambient : (v : Option ℕ) (name : List ℕ) → bytes_eq name ambient_dim ≡ true → kind_in (fan_table v) name ≡ number_to MOST_VARIABLES
kind_of_ambient v name h = ap (kind_in (fan_table v)) (is_mark name ambient_dim h)

held_within : (v : Option ℕ) (end : ℕ) (seen : List (List ℕ)) (ss : List Section) (all : Named) (n : ℕ) → AreHeld (fan_table v) end seen ss all →
    found ambient_dim all ≡ Some (the_number n) → n ≤ MOST_VARIABLES
held_within v end seen [] [] n held e = cc
held_within v end seen [] (h ∷ hs) n held e = cc
held_within v end seen (s ∷ ss) [] n held e = absurd held
held_within v end seen (s ∷ ss) (h ∷ hs) n (new, name, content, later) e =
    by (bytes_eq h.0 ambient_dim) refl (λ f. held_within v end (seen ++ s.name ∷ []) ss hs n later f) e
  where
    by : (w : Bool) → bytes_eq h.0 ambient_dim ≡ w → (found ambient_dim hs ≡ Some (the_number n) → n ≤ MOST_VARIABLES) →
        (if w then Some h.1 else found ambient_dim hs) ≡ Some (the_number n) → n ≤ MOST_VARIABLES
    by true is more f = (
        let number : h.1 ≡ the_number n = cc in
        dimension_of_content (kind_in (fan_table v) s.name) (texts (content_tokens (end_before end ss) s.content)) h.1 n
        (kind_of_ambient v s.name (ap (λ b. bytes_eq b ambient_dim) (sym name) ∙ is)) number content)
    by false is more f = more f

pub dimension_within : (source : List ℕ) (c : Contents) → Says source c → IfSome c.ambient (λ n. n ≤ MOST_VARIABLES)
dimension_within source c s = by c.ambient refl
  where
    by : (o : Option ℕ) → c.ambient ≡ o → IfSome o (λ n. n ≤ MOST_VARIABLES)
    by None is = tt
    by (Some n) is = held_within (told_version source) (length source) [] (sections source) s.all n (text_said (told_table source) source s.all s.read)
        (s.kept.ambient ∙ ap number_kept is)

pub file_within : (source : List ℕ) (f : FanFile) → IsFileOf source f → f.ambient ≤ MOST_VARIABLES
file_within source f h = held_within (told_version source) (length source) [] (sections source) h.all f.ambient h.held h.ambient

-- ---- contents and files

-- the rows are there where the version has them
interiors_whole : (second : Bool) (o : Option Content) (kept : Option (List (List ℤ))) → (second && is_none kept) ≡ false → AreInteriorsKept second o kept →
    AreInteriorsOf second o kept
interiors_whole true o None e k = absurd (cc)
interiors_whole true o (Some rows) e k = (rows, (k, refl))
interiors_whole false o kept e k = k

pub file_of_contents : (source : List ℕ) (c : Contents) (f : FanFile) → Says source c → IsKnownVersion c.version → c.ambient ≡ Some f.ambient →
    c.rays ≡ Some f.rays → c.lineality ≡ Some f.lineality → c.cones ≡ Some f.cones → c.interiors ≡ f.interiors
    → (is_second c.version && is_none c.interiors) ≡ false → IsFileOf source f
file_of_contents source c f s known a r l m i whole =
    let rows : AreInteriorsOf (is_second c.version) (found maximal_interiors s.all) c.interiors =
    interiors_whole (is_second c.version) (found maximal_interiors s.all) c.interiors whole s.kept.interiors in
    record {
      all = s.all;
      held = text_said (told_table source) source s.all s.read;
      known = subst IsKnownVersion s.version known;
      ambient = s.kept.ambient ∙ ap number_kept a;
      rays = s.kept.rays ∙ ap rows_kept r;
      lineality = s.kept.lineality ∙ ap rows_kept l;
      cones = s.kept.cones ∙ ap cones_kept m;
      interiors = subst (λ (x : Option (List (List ℤ))). AreInteriorsOf (is_second (told_version source)) (found maximal_interiors s.all) x) i
          (subst (λ (v : Option ℕ). AreInteriorsOf (is_second v) (found maximal_interiors s.all) c.interiors) s.version rows);
    }

-- what refuses a text refuses its file
pub text_refused : (source : List ℕ) (e : FanFileError) → IsRefusedSo e (text_read (told_table source) source) → IsFileRefused source e
text_refused source (errors.Syntax s) h = in_text (text_fault (told_table source) source (errors.Syntax s) h)
text_refused source (errors.TooWide at) h = in_text (text_fault (told_table source) source (errors.TooWide at) h)
text_refused source (errors.TooManyVariables count) h = in_text (text_fault (told_table source) source (errors.TooManyVariables count) h)
text_refused source (errors.Cone step) h = in_text (text_fault (told_table source) source (errors.Cone step) h)
text_refused source (errors.NotAFan i j) h = in_text (text_fault (told_table source) source (errors.NotAFan i j) h)
text_refused source (errors.Missing section) h = in_text (text_fault (told_table source) source (errors.Missing section) h)
text_refused source (errors.BadRay number) h = in_text (text_fault (told_table source) source (errors.BadRay number) h)
text_refused source (errors.Dimensions left right) h = in_text (text_fault (told_table source) source (errors.Dimensions left right) h)
text_refused source (errors.BadVersion number) h = in_text (text_fault (told_table source) source (errors.BadVersion number) h)
text_refused source (errors.BadCertificate cone) h = in_text (text_fault (told_table source) source (errors.BadCertificate cone) h)
text_refused source (errors.Wide w) h = in_text (text_fault (told_table source) source (errors.Wide w) h)
text_refused source errors.Memory h = no_memory refl

-- so does what refuses its form
pub form_refused : (source : List ℕ) (f : FanFile) (e : FanFileError) → IsFileOf source f → IsFormFault f e ⊎ (e ≡ errors.Memory) → IsFileRefused source e
form_refused source f e h (inl fault) = in_form f h fault
form_refused source f e h (inr none) = no_memory none

-- its version
pub version_refused : (source : List ℕ) (c : Contents) (number : ℕ) → Says source c → c.version ≡ Some number → (number ≡ 1 → ⊥) → (number ≡ 2 → ⊥) →
    IsFileRefused source (errors.BadVersion number)
version_refused source c number s is no_first no_second = bad_version s.all number (text_said (told_table source) source s.all s.read)
    (sym s.version ∙ is) no_first no_second refl

module _ (source : List ℕ) (c : Contents) (s : Says source c) (known : IsKnownVersion c.version) where
  here_known : IsKnownVersion (told_version source)
  here_known = subst IsKnownVersion s.version known

  the_ambient : (n : ℕ) → c.ambient ≡ Some n → found ambient_dim s.all ≡ Some (the_number n)
  the_ambient n is = s.kept.ambient ∙ ap number_kept is

  the_rays : (rs : List (List ℤ)) → c.rays ≡ Some rs → found rays_name s.all ≡ Some (the_rows rs)
  the_rays rs is = s.kept.rays ∙ ap rows_kept is

  the_lineality : (rs : List (List ℤ)) → c.lineality ≡ Some rs → found lineality_space s.all ≡ Some (the_rows rs)
  the_lineality rs is = s.kept.lineality ∙ ap rows_kept is

  pub missing_ambient : c.ambient ≡ None → IsFileRefused source (errors.Missing names.AmbientDim)
  missing_ambient a = (
      let e : found ambient_dim s.all ≡ None = s.kept.ambient ∙ ap number_kept a in
      let first : first_missing (wanted (told_version source)) s.all ≡ Some ambient_dim = rw e refl in
      not_there s.all names.AmbientDim (text_said (told_table source) source s.all s.read) here_known first refl)

  pub missing_rays : (n : ℕ) → c.ambient ≡ Some n → c.rays ≡ None → IsFileRefused source (errors.Missing names.Rays)
  missing_rays n a r = (
      let e : found rays_name s.all ≡ None = s.kept.rays ∙ ap rows_kept r in
      let first : first_missing (wanted (told_version source)) s.all ≡ Some rays_name = rw (the_ambient n a, e) refl in
      not_there s.all names.Rays (text_said (told_table source) source s.all s.read) here_known first refl)

  pub missing_lineality : (n : ℕ) (rs : List (List ℤ)) → c.ambient ≡ Some n → c.rays ≡ Some rs → c.lineality ≡ None →
      IsFileRefused source (errors.Missing names.LinealitySpace)
  missing_lineality n rs a r l = (
      let e : found lineality_space s.all ≡ None = s.kept.lineality ∙ ap rows_kept l in
      let first : first_missing (wanted (told_version source)) s.all ≡ Some lineality_space = rw (the_ambient n a, the_rays rs r, e) refl in
      not_there s.all names.LinealitySpace (text_said (told_table source) source s.all s.read) here_known first refl)

  pub missing_cones : (n : ℕ) (rs ls : List (List ℤ)) → c.ambient ≡ Some n → c.rays ≡ Some rs → c.lineality ≡ Some ls → c.cones ≡ None →
      IsFileRefused source (errors.Missing names.MaximalCones)
  missing_cones n rs ls a r l m = (
      let e : found maximal_cones s.all ≡ None = s.kept.cones ∙ ap cones_kept m in
      let first : first_missing (wanted (told_version source)) s.all ≡ Some maximal_cones = rw (the_ambient n a, the_rays rs r, the_lineality ls l, e) refl in
      not_there s.all names.MaximalCones (text_said (told_table source) source s.all s.read) here_known first refl)

  pub missing_interiors : (n : ℕ) (rs ls : List (List ℤ)) (ms : List (List ℕ)) → c.ambient ≡ Some n → c.rays ≡ Some rs → c.lineality ≡ Some ls →
      c.cones ≡ Some ms → (is_second c.version && is_none c.interiors) ≡ true → IsFileRefused source (errors.Missing names.MaximalInteriors)
  missing_interiors n rs ls ms a r l m lacks = by (is_second c.version) c.interiors refl refl lacks
    where
      the_cones_are : found maximal_cones s.all ≡ Some (the_cones ms)
      the_cones_are = s.kept.cones ∙ ap cones_kept m

      by : (second : Bool) (i : Option (List (List ℤ))) → is_second c.version ≡ second → c.interiors ≡ i → (second && is_none i) ≡ true →
          IsFileRefused source (errors.Missing names.MaximalInteriors)
      by true None is none e =
          let kept : AreInteriorsKept true (found maximal_interiors s.all) c.interiors =
          subst (λ (x : Bool). AreInteriorsKept x (found maximal_interiors s.all) c.interiors) is s.kept.interiors in
          let none_found : found maximal_interiors s.all ≡ None = kept ∙ ap rows_kept none in
          let told : is_second (told_version source) ≡ true = ap is_second (sym s.version) ∙ is in
          let first : first_missing (wanted (told_version source)) s.all ≡ Some maximal_interiors =
          rw (told, the_ambient n a, the_rays rs r, the_lineality ls l, the_cones_are, none_found) refl in
          not_there s.all names.MaximalInteriors (text_said (told_table source) source s.all s.read) here_known first refl
      by true (Some rows) is none e = absurd (cc)
      by false i is none e = absurd (cc)

-- ---- one file

pub sections_once : (source : List ℕ) (all other : Named) → AreSectionsOf source all → AreSectionsOf source other → all ≡ other
sections_once source all other h k =
    let e = text_given (told_table source) source all h in
    let f = text_given (told_table source) source other k in
    cc

interiors_once : (second : Bool) (o : Option Content) (i j : Option (List (List ℤ))) → AreInteriorsOf second o i → AreInteriorsOf second o j → j ≡ i
interiors_once true o i j h k =
    let e = h.1.0 in let d = k.1.0 in
    let rows : k.0 ≡ h.0 = cc in
    k.1.1 ∙ ap (λ (r : List (List ℤ)). Some r) rows ∙ sym h.1.1
interiors_once false o i j h k = k ∙ sym h

file : ℕ → List (List ℤ) → List (List ℤ) → List (List ℕ) → Option (List (List ℤ)) → FanFile
file a r l m i = record { ambient = a; rays = r; lineality = l; cones = m; interiors = i }

pub file_once : (source : List ℕ) (f g : FanFile) → IsFileOf source f → IsFileOf source g → g ≡ f
unfolding file
file_once source f g h k =
    let same : h.all ≡ k.all = sections_once source h.all k.all h.held k.held in
    let a : g.ambient ≡ f.ambient = (let e = h.ambient in let d = k.ambient in let s = ap (found ambient_dim) same in cc) in
    let r : g.rays ≡ f.rays = (let e = h.rays in let d = k.rays in let s = ap (found rays_name) same in cc) in
    let l : g.lineality ≡ f.lineality = (let e = h.lineality in let d = k.lineality in let s = ap (found lineality_space) same in cc) in
    let m : g.cones ≡ f.cones = (let e = h.cones in let d = k.cones in let s = ap (found maximal_cones) same in cc) in
    let here : AreInteriorsOf (is_second (told_version source)) (found maximal_interiors k.all) f.interiors =
    subst (λ (all : Named). AreInteriorsOf (is_second (told_version source)) (found maximal_interiors all) f.interiors) same h.interiors in
    let i : g.interiors ≡ f.interiors = interiors_once (is_second (told_version source)) (found maximal_interiors k.all)
    f.interiors g.interiors here k.interiors in
    ap₂ (λ x y. file x y g.lineality g.cones g.interiors) a r ∙ ap₂ (λ x y. file f.ambient f.rays x y g.interiors) l m ∙
    ap (λ x. file f.ambient f.rays f.lineality f.cones x) i

-- ---- a sound file isn't refused

pub behind_holds : {X : Type 0} (P Q : X → Type 0) (xs : List X) (i : ℕ) (x : X) → IsBehind Q xs i x → All P xs → P x
behind_holds P Q xs i x b all = subst P (b.here x) (all i x b.within)

behind_in : {X : Type 0} (Q : X → Type 0) (xs : List X) (i : ℕ) (x : X) → IsBehind Q xs i x → Contains xs x
behind_in Q xs i x b = (i, b.within, b.here x)

pub length_sound : (n : ℕ) (rs : List (List ℤ)) (e : FanFileError) → All (λ t. length t ≡ n) rs → IsLengthFault n rs e → ⊥
length_sound n rs e all h = h.other (behind_holds (λ t. length t ≡ n) (λ t. length t ≡ n) rs h.place h.row h.first all)

-- a sound file is refused only for an operation of the test of one of its rays
form_sound : (f : FanFile) (e : FanFileError) → IsSoundFile f → IsFormFault f e → (s : ConeOverflow) × (IsTestStep f s × (e ≡ errors.Cone s))
form_sound f e s (zero_dimension z is) = absurd (let p = s.positive in omega (arith, z, p))
form_sound f e s (at_rays p h) = absurd (length_sound f.ambient f.rays e s.rays h)
form_sound f e s (at_lineality p r h) = absurd (length_sound f.ambient f.lineality e s.lineality h)
form_sound f e s (at_interiors p r l h) = absurd (length_sound f.ambient (interior_rows f.interiors) e s.interiors h)
form_sound f e s (at_ray p r l i h) = elim h.refused [
  | inl g ↦ absurd (behind_holds (IsOutside f.ambient f.lineality) (IsOutside f.ambient f.lineality) f.rays h.place h.ray h.first s.outside g.0)
  | inr g ↦ (g.0, ((h.ray, (behind_in (IsOutside f.ambient f.lineality) f.rays h.place h.ray h.first, g.1)), g.2))
]
form_sound f e s (at_number p r l i o h) =
    let count = length f.rays in
    let below = behind_holds (AreBelow count) (AreBelow count) f.cones h.place h.cone h.first s.below in
    let small : h.number < count = behind_holds (λ k. k < count) (λ k. k < count) h.cone h.within h.number h.first_within below in
    let above = h.above in
    absurd (omega (arith, small, above))

last_there : (second : Bool) (all : Named) (i : Option (List (List ℤ))) → AreInteriorsOf second (found maximal_interiors all) i →
    first_missing (wanted_last second) all ≡ None
last_there true all i h = (let e = h.1.0 in rw e refl)
last_there false all i h = refl

pub none_missing : (source : List ℕ) (f : FanFile) (h : IsFileOf source f) → first_missing (wanted (told_version source)) h.all ≡ None
none_missing source f h = (let a = h.ambient in let r = h.rays in let l = h.lineality in let m = h.cones in
    rw (a, r, l, m) (last_there (is_second (told_version source)) h.all f.interiors h.interiors))

-- the version that it has is known
pub version_known : (source : List ℕ) (f : FanFile) (number : ℕ) → IsFileOf source f → told_version source ≡ Some number → (number ≡ 1 → ⊥) → (number ≡ 2 → ⊥) →
    ⊥
version_known source f number h is no_first no_second = elim (subst IsKnownVersion is h.known) [ inl e ↦ no_first e | inr e ↦ no_second e ]

-- and a text that says it for memory alone, or for such an operation
pub sound_refused : (source : List ℕ) (f : FanFile) (e : FanFileError) → IsFileOf source f → IsSoundFile f → IsFileRefused source e →
    (e ≡ errors.Memory) ⊎ ((s : ConeOverflow) × (IsTestStep f s × (e ≡ errors.Cone s)))
sound_refused source f e h s (in_text fault) = absurd (text_sound (told_table source) source h.all e h.held fault)
sound_refused source f e h s (bad_version all number held told no_first no_second is) = absurd (version_known source f number h told no_first no_second)
sound_refused source f e h s (not_there all section held known missing is) =
    let same : first_missing (wanted (told_version source)) all ≡ first_missing (wanted (told_version source)) h.all =
    ap (first_missing (wanted (told_version source))) (sections_once source all h.all held h.held) in
    let none = none_missing source f h in
    absurd (cc)
sound_refused source f e h s (in_form g k fault) = inr (form_sound f e s (subst (λ q. IsFormFault q e) (file_once source f g h k) fault))
sound_refused source f e h s (no_memory is) = inl is

pub refused_sound : (source : List ℕ) (f : FanFile) (e : FanFileError) → IsFileOf source f → IsSoundFile f → AreTestsWithin f → IsFileRefused source e →
    e ≡ errors.Memory
refused_sound source f e h s within r = elim (sound_refused source f e h s r) [
  | inl m ↦ m
  | inr t ↦ absurd (within t.1.0.0 t.0 t.1.0.1.0 t.1.0.1.1)
]
