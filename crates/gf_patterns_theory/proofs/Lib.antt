pub mod MeetLaws  -- the faces of a meet
pub mod RefinementLaws  -- the common refinement of two fans is a fan
pub mod InnerLaws  -- each cone has an interior vector, by Gordan's alternative
pub mod InteriorLaws  -- relative interiors
pub mod NestedFaces  -- faces without rows, faces of faces
pub mod PatternLaws  -- patterns, and the closed cones of several polynomials
pub mod RowLaws  -- cones of patterns by rows
mod VertexLaws  -- each pattern has a vertex, and each of two members two of them
pub mod ConeLaws  -- the cones of single points and of pairs
pub mod PatternFanLaws  -- lists of cones for prevarieties and Minkowski fans
pub mod CoverLaws  -- lists of cones with the same faces
pub mod CutLaws  -- parts that cover what two fans share are their common refinement
pub mod PointLaws  -- the points of a polynomial
pub mod FormLaws  -- patterns and initial forms
mod LawsHold  -- what functions of this crate name
