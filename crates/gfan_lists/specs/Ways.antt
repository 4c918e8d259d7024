-- In which ways the list of `_bases` may be asked for.
use Rattle.std.specs.Prelude.{Bool, is_some}
use Rattle.gf_front.specs.declared.options.BasesOptions.{BasesOptions}
use Rattle.gfan_lists.specs.declared.bases.ListOptions.{ListOptions}

-- The ways that decide what is read: from a marked Gröbner basis, or from generators; in the region that a file cuts out, or for all positive weights;
-- after the basis of a file, or from the first basis on.
pub record Ways : Type 0 where
  pub from_basis : Bool
  pub in_region : Bool
  pub after_basis : Bool

-- these ways
abbrev pub ways_by : (from_basis in_region after_basis : Bool) → Ways
ways_by from_basis in_region after_basis = record { from_basis = from_basis; in_region = in_region; after_basis = after_basis }

-- the ways that the options of `_bases` ask for
abbrev pub ways_of : BasesOptions → Ways
ways_of o = ways_by o.from_basis (is_some o.within) (is_some o.after)

-- the options on which the list depends: not the files that are read, nor the number of workers
abbrev pub list_options : BasesOptions → ListOptions
list_options o = record { limit = o.limit; pairs = o.pairs; certified = o.certificates }
