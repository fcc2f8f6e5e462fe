use Rattle.std.proofs.Common.{◌≡◌, ◌≤◌, ◌+◌, ◌*◌, ◌-◌, length, take}
use Rattle.ab_sigmod.specs.FileOrder.{asked}
use Rattle.ab_sigmod.specs.Outcomes.{seen}
use Rattle.ab_sigmod.specs.Texts.{unread, IsUsable}
use Rattle.ab_sigmod.specs.Readings.{chain_of, progress_of, Reads, ReadSoFar}
use Rattle.ab_sigmod.proofs.spec_files.+files.Given as goal

-- each file that is loaded leaves fewer to load
abbrev pub decreases-read_file : goal.decreases-read_file
decreases-read_file g l = 3 * (1000 - l.reading.now.loads)

abbrev pub decreases-read_all : goal.decreases-read_all
decreases-read_all g l = 3 * (1000 - l.reading.now.loads) + 1

abbrev pub decreases-read_items : goal.decreases-read_items
decreases-read_items g l = 3 * (1000 - l.reading.now.loads) + 2

-- the files of the first names were read
abbrev pub invariant-read_all-loop-name : goal.invariant-read_all-loop-name
invariant-read_all-loop-name g l =
    Reads (chain_of l.fn.reading) (asked l.kind (take l.name-index l.names)) (progress_of l.fn.reading)
    (seen (g.F.Files.files l.fn.files) (g.F.Files.plan l.fn.files) (g.F.Files.faults l.fn.files) (g.F.Files.misses l.fn.files) (g.F.Files.long_files l.fn.files))
    (seen (g.F.Files.files l.files) (g.F.Files.plan l.files) (g.F.Files.faults l.files) (g.F.Files.misses l.files) (g.F.Files.long_files l.files)) (progress_of l.reading)
    × (chain_of l.reading ≡ chain_of l.fn.reading) × (l.fn.reading.loads ≤ l.reading.loads)

-- the items so far were read, with the files at their places
abbrev pub invariant-read_items-loop-items : goal.invariant-read_items-loop-items
invariant-read_items-loop-items g l =
    IsUsable l.text × (l.text.bytes ≡ l.fn.text.bytes)
    × ReadSoFar l.fn.text.bytes.items l.kind (unread l.fn.text) (chain_of l.fn.reading) (progress_of l.fn.reading)
    (seen (g.F.Files.files l.fn.files) (g.F.Files.plan l.fn.files) (g.F.Files.faults l.fn.files) (g.F.Files.misses l.fn.files) (g.F.Files.long_files l.fn.files))
    (seen (g.F.Files.files l.files) (g.F.Files.plan l.files) (g.F.Files.faults l.files) (g.F.Files.misses l.files) (g.F.Files.long_files l.files)) (progress_of l.reading) l.items.items (unread l.text)
    × (chain_of l.reading ≡ chain_of l.fn.reading) × (l.fn.reading.loads ≤ l.reading.loads)

abbrev pub decreases-read_items-loop-items : goal.decreases-read_items-loop-items
decreases-read_items-loop-items g l = length l.text.tokens.items - l.text.here
