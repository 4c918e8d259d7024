-- What the program keeps of the sections that are looked at, against what the text says.
use Rattle.std.specs.Prelude.{◌≡◌, ◌⊎◌, ℕ, ℤ, Bool, true, false, List, bytes_eq, Option, Some, None, Result, Ok}
use Rattle.gf_fan_files.specs.declared.error.FanFileError.{FanFileError}
use Rattle.gf_fan_files.specs.declared.sections.Contents.{Contents}
use Rattle.gf_fan_files.specs.FanText.{Content, the_number, the_rows, the_cones, Named, is_second, told_version, told_table, text_read, found, ambient_dim}
use Rattle.gf_fan_files.specs.FanText.{rays_name, lineality_space, maximal_cones, maximal_interiors}

-- nothing is known of the file yet but its version
abbrev pub no_contents : Option ℕ → Contents
no_contents v = record { version = v; ambient = None; rays = None; lineality = None; cones = None; interiors = None }

-- behind these contents, that of the section of this name is kept, as it is read
pub data IsSectionKept (name : List ℕ) (before after : Contents) (read : Result Content FanFileError) : Type 0 where
  at_ambient : (n : ℕ) → bytes_eq ambient_dim name ≡ true → read ≡ Ok (the_number n) → after ≡ record before { ambient = Some n } →
      IsSectionKept name before after read
  at_rays : (rs : List (List ℤ)) → bytes_eq rays_name name ≡ true → read ≡ Ok (the_rows rs) → after ≡ record before { rays = Some rs } →
      IsSectionKept name before after read
  at_lineality : (rs : List (List ℤ)) → bytes_eq lineality_space name ≡ true → read ≡ Ok (the_rows rs) → after ≡ record before { lineality = Some rs } →
      IsSectionKept name before after read
  at_cones : (cs : List (List ℕ)) → bytes_eq maximal_cones name ≡ true → read ≡ Ok (the_cones cs) → after ≡ record before { cones = Some cs } →
      IsSectionKept name before after read
  at_interiors : (rs : List (List ℤ)) → bytes_eq maximal_interiors name ≡ true → is_second before.version ≡ true → read ≡ Ok (the_rows rs) →
      after ≡ record before { interiors = Some rs } → IsSectionKept name before after read
  at_other : (c : Content) → bytes_eq ambient_dim name ≡ false → bytes_eq rays_name name ≡ false → bytes_eq lineality_space name ≡ false →
      bytes_eq maximal_cones name ≡ false → (bytes_eq maximal_interiors name ≡ false) ⊎ (is_second before.version ≡ false) → read ≡ Ok c → after ≡ before →
      IsSectionKept name before after read

-- what is kept of a number, of rows, of lists
abbrev pub number_kept : Option ℕ → Option Content
number_kept None = None
number_kept (Some n) = Some (the_number n)

-- rows that were read, as a content
abbrev pub rows_kept : Option (List (List ℤ)) → Option Content
rows_kept None = None
rows_kept (Some rs) = Some (the_rows rs)

-- cones that were read, as a content
abbrev pub cones_kept : Option (List (List ℕ)) → Option Content
cones_kept None = None
cones_kept (Some cs) = Some (the_cones cs)

-- of what was found of MAXIMAL_INTERIORS these rows are kept in the version 2, and none in others
abbrev pub AreInteriorsKept : Bool → Option Content → Option (List (List ℤ)) → Type 0
AreInteriorsKept true o kept = o ≡ rows_kept kept
AreInteriorsKept false o kept = kept ≡ None

-- of these sections these contents are kept
pub record AreSectionsKept (all : Named) (c : Contents) : Type 0 where
  pub ambient : found ambient_dim all ≡ number_kept c.ambient
  pub rays : found rays_name all ≡ rows_kept c.rays
  pub lineality : found lineality_space all ≡ rows_kept c.lineality
  pub cones : found maximal_cones all ≡ cones_kept c.cones
  pub interiors : AreInteriorsKept (is_second c.version) (found maximal_interiors all) c.interiors

-- the text says these contents
pub record Says (source : List ℕ) (c : Contents) : Type 0 where
  pub version : c.version ≡ told_version source
  pub all : Named
  pub read : text_read (told_table source) source ≡ Ok all
  pub kept : AreSectionsKept all c
