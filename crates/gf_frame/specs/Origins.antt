-- Sources as the code lists them.
use Rattle.std.specs.Prelude.{ℕ, List, map, Vec}
use Rattle.std.specs.Global.{Global}
use Rattle.gf_frame.specs.declared.loading.LoadFrom.{LoadFrom}
use Rattle.gf_frame.specs.declared.loading.LoadFrom.TheVariants as origins
use Rattle.gf_frame.specs.Loading.{Origin}

-- where the code loads from, as a source
abbrev pub origin_of : LoadFrom → Origin
origin_of origins.Input = Origin.the_input
origin_of (origins.File name) = Origin.a_file name.now

-- the sources of such a list, in its order
abbrev pub origins_of : List LoadFrom → List Origin
origins_of = map origin_of

-- texts as the code lists them
abbrev pub texts_of : List (Vec ℕ Global) → List (List ℕ)
texts_of ts = map (λ t. t.items) ts
