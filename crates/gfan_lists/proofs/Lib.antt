pub mod CertificateLaws  -- what stands for a basis is one text, and what its certificates show
pub mod BasesTextLaws  -- pieces that follow one another are the text of the list
pub mod StoppedLaws  -- what stands where a list is refused, and why
pub mod BasesLaws  -- how the list is written
pub mod AheadLaws  -- bases that are taken out of a list before they are written
pub mod FirstLaws  -- why the first basis of a list isn't there
pub mod GivenBasisLaws  -- a marked Gröbner basis is reduced, and taken up to the root
pub mod WithinLaws  -- the region of a file, and refusals before anything is written
pub mod RootLaws  -- why a list has no first basis
pub mod WideRootLaws  -- an entry of the root of a region that is too great
pub mod AfterLaws  -- the basis that a list goes on behind is taken, and listed below the root, in one way
pub mod StartLaws  -- what follows some bases of a list, and why it isn't started after one
pub mod ListCommandLaws  -- the command `_bases` is lawful
pub mod ListWritingLaws  -- what `_bases` does with its texts
pub mod PastLaws  -- two lists after one basis are one, and lists that continue after their limit
pub mod AskedLaws  -- what the input says, as the code has it
pub mod TextsLaws  -- texts as the code lists them
pub use Rattle.gf_subtree.proofs.BasisRowLaws
pub use Rattle.gf_lists_theory.proofs.BasesListLaws
