pub mod AllBasesLaws  -- the list of all bases holds exactly them
pub mod StepsLaws  -- monomials a multiple of a vector apart
pub mod CrossingLaws  -- what enters and what leaves where a facet is crossed
pub mod NumberLaws  -- binary numbers that fall
pub mod WeightListLaws  -- the monomials up to a weight, listed
pub mod LeadingNumberLaws  -- the leading number falls where a facet is crossed
pub mod RootwardLaws  -- a negative normal gives a flippable one
pub mod RootLaws  -- a basis from which no facet leads towards the root is that of the root
pub mod UpwardLaws  -- the parent relation is that of a tree
pub mod WayLaws  -- the way up is found
pub mod FanLaws  -- the fan of an ideal in a region is a finite tree
pub mod TreeLaws  -- bases of the ideals that they generate, as one tree
pub mod ChildLaws  -- which neighbours are children
pub mod ListLaws  -- paths, and the list of all bases
pub mod OneListLaws  -- an ideal has one list of its bases
pub mod LeftLaws  -- what a walker has left, by whole paths
pub mod StartLaws  -- a reduced basis for an order is a node
pub mod TermOrderLaws  -- a term order as a weight, and its reduced basis
pub mod LawsHold  -- the theorems of specs/Laws.antt
