-- The scanner's own description, byte by byte: a tool of the scanner's functions and of the proofs, not what a text means.
-- That it finds the commands, the items and the blank rest of `Commands` is proved, and no public clause speaks of it.
use Rattle.std.specs.Prelude.{◌==◌, ◌&&◌, ◌||◌, ℕ, zero, suc, Bool, true, false, if◌then◌else◌, List, [], ◌∷◌, Option, Some, None}
use Rattle.ab_lex.specs.declared.scanner.Mode.{Mode}
use Rattle.ab_lex.specs.declared.scanner.Mode.TheVariants.{Plain, Slash, Line, Quoted, Block, BlockSlash, BlockStar}
use Rattle.ab_lex.specs.declared.scanner.Scan.{Scan}
use Rattle.ab_lex.specs.Units.{newline, quote, percent, star, full_stop, slash, is_blank}

-- the byte ends a command
abbrev pub ends : Mode → ℕ → Bool
ends Plain b = b == full_stop
ends Slash b = b == full_stop
ends Line b = false
ends Quoted b = false
ends (Block d) b = false
ends (BlockSlash d) b = false
ends (BlockStar d) b = false

abbrev pub from_plain : ℕ → Mode
from_plain b = if b == percent then Line else if b == quote then Quoted else if b == slash then Slash else Plain

abbrev pub from_block : ℕ → ℕ → Mode
from_block d b = if b == slash then BlockSlash d else if b == star then BlockStar d else Block d

-- a comment is closed
abbrev pub closed : ℕ → Mode
closed zero = Plain
closed (suc d) = Block d

-- the mode behind one more byte
abbrev pub step : Mode → ℕ → Mode
step Plain b = from_plain b
step Slash b = if b == star then Block 0 else from_plain b
step Line b = if b == newline then Plain else Line
step Quoted b = if b == quote then Plain else Quoted
step (Block d) b = from_block d b
step (BlockSlash d) b = if b == star then Block (suc d) else from_block d b
step (BlockStar d) b = if b == slash then closed d else from_block d b

-- how many block comments are open
abbrev pub depth : Mode → ℕ
depth Plain = 0
depth Slash = 0
depth Line = 0
depth Quoted = 0
depth (Block d) = suc d
depth (BlockSlash d) = suc d
depth (BlockStar d) = suc d

-- what follows the first command's end, from this mode on
abbrev pub behind : Mode → List ℕ → Option (List ℕ)
behind m [] = None
behind m (b ∷ s) = if ends m b then Some s else behind (step m b) s

-- what follows the string or comment that this mode is in
abbrev pub past : Mode → List ℕ → Option (List ℕ)
past Plain s = Some s
past m [] = None
past m (b ∷ s) = past (step m b) s

-- a byte in this mode leaves a rest blank
abbrev pub keeps_blank : Mode → ℕ → Bool
keeps_blank Plain b = is_blank b || ((b == percent) || (b == slash))
keeps_blank Slash b = b == star
keeps_blank Line b = true
keeps_blank Quoted b = true
keeps_blank (Block d) b = true
keeps_blank (BlockSlash d) b = true
keeps_blank (BlockStar d) b = true

-- a rest that ends in this mode is whole
abbrev pub is_whole : Mode → Bool
is_whole Plain = true
is_whole Slash = false
is_whole Line = true
is_whole Quoted = false
is_whole (Block d) = false
is_whole (BlockSlash d) = false
is_whole (BlockStar d) = false

-- the scan behind the last command's end
abbrev pub fresh : Scan
fresh = record { mode = Plain; blank = true }

abbrev pub after_byte : Scan → ℕ → Scan
after_byte k b = record { mode = step k.mode b; blank = k.blank && keeps_blank k.mode b }

-- the scan behind these bytes, in which no command ends
abbrev pub run : Scan → List ℕ → Scan
run k [] = k
run k (b ∷ s) = run (after_byte k b) s

-- the bytes behind the last command are blanks and whole comments, from this scan on
abbrev pub blank_from : Scan → List ℕ → Bool
blank_from k [] = k.blank && is_whole k.mode
blank_from k (b ∷ s) = if ends k.mode b then blank_from fresh s else blank_from (after_byte k b) s
