-- Sections are read one after another, and what is kept of them.
-- To cite: kind_ambient, kind_rays, kind_lineality, kind_cones, version_read, version_section, interiors_section,
-- other_section; IsReadUpTo, begun, one_more, repeated, faulty, finished. The rest are steps.
use Rattle.std.proofs.Common.{◌≡◌, ℕ, Bool, true, false, ◌||◌, List, [], ◌∷◌, ◌++◌, length, map, bytes_eq, Option, Some, None, Result, Ok, Err, ℤ, refl, sym}
use Rattle.std.proofs.Common.{ap, subst, inl, inr, ◌∙◌, append_assoc, append-nil, if◌then◌else◌}
use Rattle.std.specs.Prelude.{MatchBool, MatchResult}
use Rattle.gf_text.specs.declared.TheConstants.{MOST_VARIABLES}
use Rattle.gf_text.specs.Machine.{Lexeme}
use Rattle.gf_text.specs.RingText.{has}
use Rattle.gf_text.specs.declared.error.Cause.TheVariants.{RepeatedName}
use Rattle.gf_text.proofs.SetTokensLaws.{is_mark}
use Rattle.gf_fan_files.specs.declared.error.FanFileError.{FanFileError}
use Rattle.gf_fan_files.specs.declared.sections.Contents.{Contents}
use Rattle.gf_fan_files.specs.Lines.{with_name, sections_from, content_from}
use Rattle.gf_fan_files.specs.Refused.{refused_at}
use Rattle.gf_fan_files.specs.ConeText.{most_number}
use Rattle.gf_fan_files.specs.FanText.{ContentKind, Content, number_to, rows, cones, any, the_number, the_rows, the_cones, passed, Named, is_second}
use Rattle.gf_fan_files.specs.FanText.{told_version, version_kind, interiors_kind, fan_table, told_table, kind_in, content_read, then_content, sections_read}
use Rattle.gf_fan_files.specs.FanText.{text_read, found, file_version, ambient_dim, rays_name, lineality_space, maximal_cones, maximal_interiors}
use Rattle.gf_fan_files.specs.Found.{IsRefusedSo}
use Rattle.gf_fan_files.specs.Contents.{no_contents, IsSectionKept, at_ambient, at_rays, at_lineality, at_cones, at_interiors, at_other, number_kept}
use Rattle.gf_fan_files.specs.Contents.{rows_kept, cones_kept, AreInteriorsKept, AreSectionsKept, Says}

abbrev pub names_of : Named → List (List ℕ)
names_of all = map (λ (h : List ℕ × Content). h.0) all

-- ---- what is found

-- a name that isn't there yet is found where it is added
new_by : (name : List ℕ) (c h : Content) (n : List ℕ) (names : List (List ℕ)) (x : List ℕ) (later : Option Content) →
    (has names name ≡ false → later ≡ Some c) → (bytes_eq n name || has names name) ≡ false → name ≡ x → (v : Bool) → bytes_eq n x ≡ v →
    (if v then Some h else later) ≡ Some c
new_by name c h n names x later more new same true e =
    let there : bytes_eq n name ≡ true = ap (bytes_eq n) same ∙ e in
    let not_there : (true || has names name) ≡ false = ap (λ v. v || has names name) (sym there) ∙ new in
    cc
new_by name c h n names x later more new same false e =
    let there : bytes_eq n name ≡ false = ap (bytes_eq n) same ∙ e in
    more (ap (λ v. v || has names name) (sym there) ∙ new)

found_new : (name : List ℕ) (c : Content) (done : Named) (x : List ℕ) → has (names_of done) name ≡ false → bytes_eq x name ≡ true → name ≡ x →
    found x (done ++ (name, c) ∷ []) ≡ Some c
found_new name c [] x new is same = ap (λ v. if v then Some c else None) (ap (λ n. bytes_eq n x) same ∙ ap (λ n. bytes_eq x n) (sym same) ∙ is)
found_new name c (h ∷ done) x new is same =
    new_by name c h.1 h.0 (names_of done) x (found x (done ++ (name, c) ∷ [])) (λ none. found_new name c done x none is same) new same (bytes_eq h.0 x) refl

-- other names are found as before
found_other : (name : List ℕ) (c : Content) (done : Named) (x : List ℕ) → bytes_eq name x ≡ false → found x (done ++ (name, c) ∷ []) ≡ found x done
found_other name c [] x other = ap (λ v. if v then Some c else None) other
found_other name c (h ∷ done) x other = ap (λ l. if bytes_eq h.0 x then Some h.1 else l) (found_other name c done x other)

module _ (done : Named) (name : List ℕ) (b a : Contents) (kept : AreSectionsKept done b) (new : has (names_of done) name ≡ false) where
  other_at : (x y : List ℕ) (c : Content) → name ≡ y → bytes_eq y x ≡ false → found x (done ++ (name, c) ∷ []) ≡ found x done
  other_at x y c is other = found_other name c done x (ap (λ n. bytes_eq n x) is ∙ other)

  not_same : (x : List ℕ) → bytes_eq x name ≡ false → bytes_eq name x ≡ false
  not_same x e = by (bytes_eq name x) refl
    where
      by : (v : Bool) → bytes_eq name x ≡ v → v ≡ false
      by true h = (let same = is_mark name x h in let there : bytes_eq x name ≡ true = ap (bytes_eq x) same ∙ ap (λ n. bytes_eq n x) (sym same) ∙ h in cc)
      by false h = refl

  -- the rows of MAXIMAL_INTERIORS, where another section is added
  interiors_along : (c : Content) → found maximal_interiors (done ++ (name, c) ∷ []) ≡ found maximal_interiors done → a.version ≡ b.version →
      a.interiors ≡ b.interiors → AreInteriorsKept (is_second a.version) (found maximal_interiors (done ++ (name, c) ∷ [])) a.interiors
  interiors_along c f v i =
      let o : Option Content = found maximal_interiors (done ++ (name, c) ∷ []) in
      let here : AreInteriorsKept (is_second b.version) o b.interiors =
      subst (λ (x : Option Content). AreInteriorsKept (is_second b.version) x b.interiors) (sym f) kept.interiors in
      let same : AreInteriorsKept (is_second b.version) o a.interiors =
      subst (λ (x : Option (List (List ℤ))). AreInteriorsKept (is_second b.version) o x) (sym i) here in
      subst (λ (x : Option ℕ). AreInteriorsKept (is_second x) o a.interiors) (sym v) same

  -- where they aren't looked at
  interiors_none : (o : Option Content) → is_second b.version ≡ false → a.version ≡ b.version → a.interiors ≡ b.interiors →
      AreInteriorsKept (is_second a.version) o a.interiors
  interiors_none o old v i =
      let none : b.interiors ≡ None = subst (λ (x : Bool). AreInteriorsKept x (found maximal_interiors done) b.interiors) old kept.interiors in
      subst (λ (x : Bool). AreInteriorsKept x o a.interiors) (sym (ap is_second v ∙ old)) (i ∙ none)

  pub kept_more : (read : Result Content FanFileError) → IsSectionKept name b a read →
      (c : Content) × (read ≡ Ok c) × AreSectionsKept (done ++ (name, c) ∷ []) a
  kept_more read (at_ambient n is got same) =
      let name_is = sym (is_mark ambient_dim name is) in
      let c = the_number n in (
        c,
        got,
        record {
          ambient = found_new name c done ambient_dim new is name_is ∙ ap (λ (k : Contents). number_kept k.ambient) (sym same);
          rays = other_at rays_name ambient_dim c name_is refl ∙ kept.rays ∙ ap (λ (k : Contents). rows_kept k.rays) (sym same);
          lineality = other_at lineality_space ambient_dim c name_is refl ∙ kept.lineality ∙ ap (λ (k : Contents). rows_kept k.lineality) (sym same);
          cones = other_at maximal_cones ambient_dim c name_is refl ∙ kept.cones ∙ ap (λ (k : Contents). cones_kept k.cones) (sym same);
          interiors = interiors_along c (other_at maximal_interiors ambient_dim c name_is refl) (ap (λ (k : Contents). k.version) same)
              (ap (λ (k : Contents). k.interiors) same);
        },
      )
  kept_more read (at_rays rs is got same) =
      let name_is = sym (is_mark rays_name name is) in
      let c = the_rows rs in (
        c,
        got,
        record {
          ambient = other_at ambient_dim rays_name c name_is refl ∙ kept.ambient ∙ ap (λ (k : Contents). number_kept k.ambient) (sym same);
          rays = found_new name c done rays_name new is name_is ∙ ap (λ (k : Contents). rows_kept k.rays) (sym same);
          lineality = other_at lineality_space rays_name c name_is refl ∙ kept.lineality ∙ ap (λ (k : Contents). rows_kept k.lineality) (sym same);
          cones = other_at maximal_cones rays_name c name_is refl ∙ kept.cones ∙ ap (λ (k : Contents). cones_kept k.cones) (sym same);
          interiors = interiors_along c (other_at maximal_interiors rays_name c name_is refl) (ap (λ (k : Contents). k.version) same)
              (ap (λ (k : Contents). k.interiors) same);
        },
      )
  kept_more read (at_lineality rs is got same) =
      let name_is = sym (is_mark lineality_space name is) in
      let c = the_rows rs in (
        c,
        got,
        record {
          ambient = other_at ambient_dim lineality_space c name_is refl ∙ kept.ambient ∙ ap (λ (k : Contents). number_kept k.ambient) (sym same);
          rays = other_at rays_name lineality_space c name_is refl ∙ kept.rays ∙ ap (λ (k : Contents). rows_kept k.rays) (sym same);
          lineality = found_new name c done lineality_space new is name_is ∙ ap (λ (k : Contents). rows_kept k.lineality) (sym same);
          cones = other_at maximal_cones lineality_space c name_is refl ∙ kept.cones ∙ ap (λ (k : Contents). cones_kept k.cones) (sym same);
          interiors = interiors_along c (other_at maximal_interiors lineality_space c name_is refl) (ap (λ (k : Contents). k.version) same)
              (ap (λ (k : Contents). k.interiors) same);
        },
      )
  kept_more read (at_cones cs is got same) =
      let name_is = sym (is_mark maximal_cones name is) in
      let c = the_cones cs in (
        c,
        got,
        record {
          ambient = other_at ambient_dim maximal_cones c name_is refl ∙ kept.ambient ∙ ap (λ (k : Contents). number_kept k.ambient) (sym same);
          rays = other_at rays_name maximal_cones c name_is refl ∙ kept.rays ∙ ap (λ (k : Contents). rows_kept k.rays) (sym same);
          lineality = other_at lineality_space maximal_cones c name_is refl ∙ kept.lineality ∙ ap (λ (k : Contents). rows_kept k.lineality) (sym same);
          cones = found_new name c done maximal_cones new is name_is ∙ ap (λ (k : Contents). cones_kept k.cones) (sym same);
          interiors = interiors_along c (other_at maximal_interiors maximal_cones c name_is refl) (ap (λ (k : Contents). k.version) same)
              (ap (λ (k : Contents). k.interiors) same);
        },
      )
  kept_more read (at_interiors rs is second got same) =
      let name_is = sym (is_mark maximal_interiors name is) in
      let c = the_rows rs in
      let v : a.version ≡ b.version = ap (λ (k : Contents). k.version) same in (
        c,
        got,
        record {
          ambient = other_at ambient_dim maximal_interiors c name_is refl ∙ kept.ambient ∙ ap (λ (k : Contents). number_kept k.ambient) (sym same);
          rays = other_at rays_name maximal_interiors c name_is refl ∙ kept.rays ∙ ap (λ (k : Contents). rows_kept k.rays) (sym same);
          lineality = other_at lineality_space maximal_interiors c name_is refl ∙ kept.lineality ∙ ap (λ (k : Contents). rows_kept k.lineality) (sym same);
          cones = other_at maximal_cones maximal_interiors c name_is refl ∙ kept.cones ∙ ap (λ (k : Contents). cones_kept k.cones) (sym same);
          interiors = subst (λ (x : Bool). AreInteriorsKept x (found maximal_interiors (done ++ (name, c) ∷ [])) a.interiors) (sym (ap is_second v ∙ second))
              (found_new name c done maximal_interiors new is name_is ∙ ap (λ (k : Contents). rows_kept k.interiors) (sym same));
        },
      )
  kept_more read (at_other c no_ambient no_rays no_lineality no_cones last got same) = (
    c,
    got,
    record {
      ambient = found_other name c done ambient_dim (not_same ambient_dim no_ambient) ∙ kept.ambient ∙ ap (λ (k : Contents). number_kept k.ambient) (sym same);
      rays = found_other name c done rays_name (not_same rays_name no_rays) ∙ kept.rays ∙ ap (λ (k : Contents). rows_kept k.rays) (sym same);
      lineality = found_other name c done lineality_space (not_same lineality_space no_lineality) ∙ kept.lineality ∙
          ap (λ (k : Contents). rows_kept k.lineality) (sym same);
      cones = found_other name c done maximal_cones (not_same maximal_cones no_cones) ∙ kept.cones ∙ ap (λ (k : Contents). cones_kept k.cones) (sym same);
      interiors = elim last [
        | inl other ↦ interiors_along c (found_other name c done maximal_interiors (not_same maximal_interiors other)) (ap (λ (k : Contents). k.version) same)
            (ap (λ (k : Contents). k.interiors) same)
        | inr old ↦ interiors_none (found maximal_interiors (done ++ (name, c) ∷ [])) old (ap (λ (k : Contents). k.version) same)
            (ap (λ (k : Contents). k.interiors) same)
      ];
    },
  )

-- the version stays
version_kept : (name : List ℕ) (b a : Contents) (read : Result Content FanFileError) → IsSectionKept name b a read → a.version ≡ b.version
version_kept name b a read (at_ambient n is got same) = ap (λ (k : Contents). k.version) same
version_kept name b a read (at_rays rs is got same) = ap (λ (k : Contents). k.version) same
version_kept name b a read (at_lineality rs is got same) = ap (λ (k : Contents). k.version) same
version_kept name b a read (at_cones cs is got same) = ap (λ (k : Contents). k.version) same
version_kept name b a read (at_interiors rs is second got same) = ap (λ (k : Contents). k.version) same
version_kept name b a read (at_other c no_ambient no_rays no_lineality no_cones last got same) = ap (λ (k : Contents). k.version) same

-- ---- what sections hold

pub kind_ambient : (v : Option ℕ) (name : List ℕ) → bytes_eq ambient_dim name ≡ true → kind_in (fan_table v) name ≡ number_to MOST_VARIABLES
kind_ambient v name is = rw is refl

pub kind_rays : (v : Option ℕ) (name : List ℕ) → bytes_eq ambient_dim name ≡ false → bytes_eq rays_name name ≡ true → kind_in (fan_table v) name ≡ rows
kind_rays v name no_ambient is = rw (no_ambient, is) refl

pub kind_lineality : (v : Option ℕ) (name : List ℕ) → bytes_eq ambient_dim name ≡ false → bytes_eq rays_name name ≡ false →
    bytes_eq lineality_space name ≡ true → kind_in (fan_table v) name ≡ rows
kind_lineality v name no_ambient no_rays is = rw (no_ambient, no_rays, is) refl

pub kind_cones : (v : Option ℕ) (name : List ℕ) → bytes_eq ambient_dim name ≡ false → bytes_eq rays_name name ≡ false → bytes_eq lineality_space name ≡ false →
    bytes_eq maximal_cones name ≡ true → kind_in (fan_table v) name ≡ cones
kind_cones v name no_ambient no_rays no_lineality is = rw (no_ambient, no_rays, no_lineality, is) refl

module _ (v : Option ℕ) (name : List ℕ) (no_ambient : bytes_eq ambient_dim name ≡ false) (no_rays : bytes_eq rays_name name ≡ false) (no_lineality : bytes_eq
    lineality_space name ≡ false) (no_cones : bytes_eq maximal_cones name ≡ false) where
  pub kind_version : bytes_eq file_version name ≡ true → kind_in (fan_table v) name ≡ version_kind v
  kind_version is = rw (no_ambient, no_rays, no_lineality, no_cones, is) refl

  pub kind_interiors : bytes_eq file_version name ≡ false → bytes_eq maximal_interiors name ≡ true → kind_in (fan_table v) name ≡ interiors_kind (is_second v)
  kind_interiors no_version is = rw (no_ambient, no_rays, no_lineality, no_cones, no_version, is) refl

  pub kind_any : bytes_eq file_version name ≡ false → bytes_eq maximal_interiors name ≡ false → kind_in (fan_table v) name ≡ any
  kind_any no_version no_interiors = rw (no_ambient, no_rays, no_lineality, no_cones, no_version, no_interiors) refl

-- ---- the sections whose contents wait on the version

-- FILE_VERSION is a number where it tells the version
pub version_read : (length : ℕ) (v : Option ℕ) (number : ℕ) (content : List Lexeme) → v ≡ Some number →
    content_read length (version_kind v) content ≡ content_read length (number_to most_number) content
version_read length v number content is = ap (λ (w : Option ℕ). content_read length (version_kind w) content) is

module _ (length : ℕ) (name : List ℕ) (content : List Lexeme) (b : Contents)
    (no_ambient : bytes_eq ambient_dim name ≡ false) (no_rays : bytes_eq rays_name name ≡ false) (no_lineality : bytes_eq lineality_space name ≡
    false) (no_cones : bytes_eq maximal_cones name ≡ false) where
  -- what is read of it by its name, and as a content of this kind
  abbrev ByName : Result Content FanFileError
  ByName = content_read length (kind_in (fan_table b.version) name) content

  abbrev ByKind : ContentKind → Result Content FanFileError
  ByKind k = content_read length k content

  pub version_section : bytes_eq file_version name ≡ true → (r : Result Contents FanFileError) →
      MatchResult r (λ k. (k ≡ b) × ((c : Content) × (ByKind (version_kind b.version) ≡ Ok c))) (λ e. IsRefusedSo e (ByKind (version_kind b.version))) →
      MatchResult r (λ k. IsSectionKept name b k ByName) (λ e. IsRefusedSo e ByName)
  version_section is r h = by r h
    where
      same : ByName ≡ ByKind (version_kind b.version)
      same = ap ByKind (kind_version b.version name no_ambient no_rays no_lineality no_cones is)

      other : bytes_eq maximal_interiors name ≡ false
      other = ap (bytes_eq maximal_interiors) (sym (is_mark file_version name is))

      by : (r : Result Contents FanFileError) → MatchResult r (λ k. (k ≡ b) × ((c : Content) × (ByKind (version_kind b.version) ≡ Ok c))) (λ e. IsRefusedSo e
          (ByKind (version_kind b.version))) → MatchResult r (λ k. IsSectionKept name b k ByName) (λ e. IsRefusedSo e ByName)
      by (Ok k) h = at_other h.1.0 no_ambient no_rays no_lineality no_cones (inl other) (same ∙ h.1.1) h.0
      by (Err e) h = subst (IsRefusedSo e) (sym same) h

  -- the rows are kept in the version 2, and in others nothing is
  abbrev pub AreRowsKept : Bool → Contents → Type 0
  AreRowsKept second k = MatchBool second ((rs : List (List ℤ)) × (ByKind (interiors_kind second) ≡ Ok (the_rows rs)) × (k ≡ record b { interiors = Some rs }))
      ((ByKind (interiors_kind second) ≡ Ok passed) × (k ≡ b))

  pub interiors_section : bytes_eq file_version name ≡ false → bytes_eq maximal_interiors name ≡ true → (r : Result Contents FanFileError) →
      MatchResult r (AreRowsKept (is_second b.version)) (λ e. IsRefusedSo e (ByKind (interiors_kind (is_second b.version)))) →
      MatchResult r (λ k. IsSectionKept name b k ByName) (λ e. IsRefusedSo e ByName)
  interiors_section other is r h = by r h
    where
      same : ByName ≡ ByKind (interiors_kind (is_second b.version))
      same = ap ByKind (kind_interiors b.version name no_ambient no_rays no_lineality no_cones other is)

      kept : (k : Contents) (second : Bool) → is_second b.version ≡ second → ByName ≡ ByKind (interiors_kind second) → AreRowsKept second k →
          IsSectionKept name b k ByName
      kept k true told here g = at_interiors g.0 is told (here ∙ g.1) g.2
      kept k false told here g = at_other passed no_ambient no_rays no_lineality no_cones (inr told) (here ∙ g.0) g.1

      by : (r : Result Contents FanFileError) → MatchResult r (AreRowsKept (is_second b.version)) (λ e. IsRefusedSo e
          (ByKind (interiors_kind (is_second b.version)))) → MatchResult r (λ k. IsSectionKept name b k ByName) (λ e. IsRefusedSo e ByName)
      by (Ok k) h = kept k (is_second b.version) refl same h
      by (Err e) h = subst (IsRefusedSo e) (sym same) h

  pub other_section : bytes_eq file_version name ≡ false → bytes_eq maximal_interiors name ≡ false → IsSectionKept name b b ByName
  other_section other none = at_other passed no_ambient no_rays no_lineality no_cones (inl none)
      (ap ByKind (kind_any b.version name no_ambient no_rays no_lineality no_cones other none)) refl

-- ---- from left to right

-- what stands behind sections that were read
abbrev pub all_behind : Named → Result Named FanFileError → Result Named FanFileError
all_behind done (Ok all) = Ok (done ++ all)
all_behind done (Err e) = Err e

-- Up to this place sections of these names were read, and these contents are kept of them.
pub record IsReadUpTo (source : List ℕ) (at : ℕ) (names : List (List ℕ)) (c : Contents) : Type 0 where
  pub version : c.version ≡ told_version source
  pub done : Named
  pub names_are : names_of done ≡ names
  pub left : text_read (told_table source) source ≡ all_behind done (sections_read (told_table source) (length source) names (sections_from source at).all)
  pub kept : AreSectionsKept done c

behind_none : (r : Result Named FanFileError) → r ≡ all_behind [] r
behind_none (Ok all) = refl
behind_none (Err e) = refl

none_kept : (second : Bool) → AreInteriorsKept second None None
none_kept true = refl
none_kept false = refl

pub begun : (source : List ℕ) (v : Option ℕ) → v ≡ told_version source → IsReadUpTo source 0 [] (no_contents v)
begun source v is = record {
  version = is;
  done = [];
  names_are = refl;
  left = behind_none (text_read (told_table source) source);
  kept = record { ambient = refl; rays = refl; lineality = refl; cones = refl; interiors = none_kept (is_second v) };
}

behind_more : (done : Named) (name : List ℕ) (c : Content) (r : Result Named FanFileError) →
    all_behind done (then_content (Ok c) name r) ≡ all_behind (done ++ (name, c) ∷ []) r
behind_more done name c (Ok all) = ap (λ l. Ok l) (sym (append_assoc done ((name, c) ∷ []) all))
behind_more done name c (Err e) = refl

names_more : (done : Named) (name : List ℕ) (c : Content) → names_of (done ++ (name, c) ∷ []) ≡ names_of done ++ name ∷ []
names_more [] name c = refl
names_more (h ∷ done) name c = ap (λ l. h.0 ∷ l) (names_more done name c)

module _ (source : List ℕ) (at : ℕ) (names : List (List ℕ)) (b : Contents) (r : IsReadUpTo source at names b) where
  module _ (x : Lexeme) (next : ℕ) (is : (sections_from source at).all ≡ (with_name x (sections_from source next)).all) where
    abbrev Reading : Result Content FanFileError
    Reading = content_read (length source) (kind_in (told_table source) x.text) (content_from source next)

    abbrev Later : Result Named FanFileError
    Later = sections_read (told_table source) (length source) (names ++ x.text ∷ []) (sections_from source next).all

    here : text_read (told_table source) source ≡ all_behind r.done (if has names x.text then Err (refused_at x.at RepeatedName)
        else then_content Reading x.text Later)
    here = r.left ∙ ap (λ ss. all_behind r.done (sections_read (told_table source) (length source) names ss)) is

    -- its name was there already
    pub repeated : has names x.text ≡ true → text_read (told_table source) source ≡ Err (refused_at x.at RepeatedName)
    repeated e = here ∙ ap (λ v. all_behind r.done (if v then Err (refused_at x.at RepeatedName) else then_content Reading x.text Later)) e

    fresh : has names x.text ≡ false → text_read (told_table source) source ≡ all_behind r.done (then_content Reading x.text Later)
    fresh e = here ∙ ap (λ v. all_behind r.done (if v then Err (refused_at x.at RepeatedName) else then_content Reading x.text Later)) e

    -- what is read of it by the version of the contents
    abbrev pub ByVersion : Result Content FanFileError
    ByVersion = content_read (length source) (kind_in (fan_table b.version) x.text) (content_from source next)

    same_reading : ByVersion ≡ Reading
    same_reading = ap (λ (v : Option ℕ). content_read (length source) (kind_in (fan_table v) x.text) (content_from source next)) r.version

    -- its content is at fault
    pub faulty : has names x.text ≡ false → (e : FanFileError) → ByVersion ≡ Err e → text_read (told_table source) source ≡ Err e
    faulty new e is_fault = fresh new ∙ ap (λ c. all_behind r.done (then_content c x.text Later)) (sym same_reading ∙ is_fault)

    -- its content is kept
    pub one_more : has names x.text ≡ false → (a : Contents) → IsSectionKept x.text b a ByVersion → IsReadUpTo source next (names ++ x.text ∷ []) a
    one_more new a kept_so =
        let kept : IsSectionKept x.text b a Reading = subst (IsSectionKept x.text b a) same_reading kept_so in
        let more = kept_more r.done x.text b a r.kept (ap (λ l. has l x.text) r.names_are ∙ new) Reading kept in
        record {
          version = version_kept x.text b a Reading kept ∙ r.version;
          done = r.done ++ (x.text, more.0) ∷ [];
          names_are = names_more r.done x.text more.0 ∙ ap (λ l. l ++ x.text ∷ []) r.names_are;
          left = fresh new ∙ ap (λ c. all_behind r.done (then_content c x.text Later)) more.1 ∙ behind_more r.done x.text more.0 Later;
          kept = more.2;
        }

  -- no section follows
  pub finished : (sections_from source at).all ≡ [] → Says source b
  finished none = record {
    version = r.version;
    all = r.done;
    read = r.left ∙ ap (λ ss. all_behind r.done (sections_read (told_table source) (length source) names ss)) none ∙ ap (λ l. Ok l) (append-nil r.done);
    kept = r.kept;
  }
