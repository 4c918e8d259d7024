use Rattle.std.proofs.Common.{◌≡◌, take}
use Rattle.gf_frame.specs.Seen.{seen}
use Rattle.gf_frame.specs.Loading.{AreLoaded, HaveInput, HaveFile}
use Rattle.gf_frame.specs.Origins.{origins_of, texts_of}
use Rattle.gf_frame.proofs.loading.load_all.Given as goal

-- those so far are loaded, and what isn't among all of them is as before
abbrev pub invariant-loop-from : goal.invariant-loop-from
invariant-loop-from g l =
    AreLoaded (origins_of (take l.from-index l.sources))
    (seen (g.S.Source.left l.initial.input) (g.S.Source.given l.initial.input) (g.S.Source.faults l.initial.input) (g.F.Files.bytes l.initial.files)
    (g.F.Files.left l.initial.files) (g.F.Files.given l.initial.files) (g.F.Files.unopened l.initial.files) (g.F.Files.faults l.initial.files))
    (seen (g.S.Source.left l.input) (g.S.Source.given l.input) (g.S.Source.faults l.input) (g.F.Files.bytes l.files) (g.F.Files.left l.files)
    (g.F.Files.given l.files) (g.F.Files.unopened l.files) (g.F.Files.faults l.files))
    (texts_of l.texts.items)
    × ((HaveInput (origins_of l.sources) → ⊥) → l.input ≡ l.initial.input)
    × ((HaveFile (origins_of l.sources) → ⊥) → l.files ≡ l.initial.files)
