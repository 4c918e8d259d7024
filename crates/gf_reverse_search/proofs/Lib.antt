pub mod LeftLaws  -- what is left by the marks' words is what is left by recursion on the path
pub mod FrontLaws  -- what is left, where both paths go on from a common front
pub mod StepLaws  -- what each step of a walk leaves: down to the least child, or up
pub mod ChildLaws  -- the least child past a mark, found along the labels
pub mod ClimbLaws  -- a climb keeps what is left
pub mod SearchLaws  -- what the search finds, in the words of the walker's contract
pub mod RefusalLaws  -- refusals at a node, and above it
pub mod ListLaws  -- from what is left as a set of paths to what is left as a list of nodes
pub mod CutLaws  -- what is left above a node is its subtree, and then what is left after that
pub mod SplitLaws  -- a walker's step, said of its two parts
pub mod PiecesLaws  -- a walker's list in pieces
pub mod SuffixLaws  -- what follows a node in the list
pub mod KeptLaws  -- from the whole list to what is left at any path
pub mod FinitenessLaws  -- from any list of a tree's nodes to the list in path order
pub mod NodesLaws  -- an iterator over what a walker has left
pub mod GrowingLaws  -- a list that grows by the first of what is left
