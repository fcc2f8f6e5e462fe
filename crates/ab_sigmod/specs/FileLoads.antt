-- The loads of files, one after another: what each is asked for and answers, and what is known of the files between two of them.
use Rattle.std.specs.Prelude.{◌≡◌, ◌↔◌, ◌<◌, ◌≤◌, ℕ, List, [], ◌∷◌, ◌++◌, Option, Some, None, IfSome, IsSomeAnd, length, option_map}
use Rattle.std.specs.FinMap.{get}
use Rattle.ab_io.specs.Count.{Rose}
use Rattle.ab_io.specs.Loads.{FileMap, Answer, loaded, missing, failed, too_long}
use Rattle.ab_io.specs.Plan.{Plan, IsPlanned, after_call}

-- what is told of the files, of the calls that fail, and how many loads failed, found no file, and found one that is too long
pub record FilesSeen : Type 0 where
  pub files : Option FileMap
  pub plan : Option Plan
  pub faults : ℕ
  pub misses : ℕ
  pub long_files : ℕ

-- a load: the name that is asked for, and the answer
pub record Load : Type 0 where
  pub name : List ℕ
  pub answer : Answer

-- a file has at most so many bytes
abbrev pub longest : ℕ
longest = 16777216

-- what is true of an answer where a file of that name would hold this, if there is one
abbrev pub Tells : Answer → Option (List ℕ) → Type 0
Tells (loaded bytes) file = (file ≡ Some bytes) × (length bytes ≤ longest)
Tells missing file = file ≡ None
Tells failed file = Unit {0}
Tells too_long file = IsSomeAnd file (λ bytes. longest < length bytes)

-- an answer of its kind is counted
abbrev pub Counted : Answer → FilesSeen → FilesSeen → Type 0
Counted (loaded bytes) s t = Unit {0}
Counted missing s t = Rose s.misses t.misses
Counted failed s t = Rose s.faults t.faults
Counted too_long s t = Rose s.long_files t.long_files

-- ONE LOAD. Where the files are told, it answers what they hold, unless it failed; where the plan is told, it fails exactly as planned.
pub record IsLoad (s : FilesSeen) (l : Load) (t : FilesSeen) : Type 0 where
  pub files_stay : t.files ≡ s.files
  pub called : t.plan ≡ option_map after_call s.plan
  pub told : IfSome s.files (λ m. Tells l.answer (get m l.name))
  pub planned : IfSome s.plan (λ p. (l.answer ≡ failed) ↔ IsPlanned p)
  pub counted : Counted l.answer s t
  pub faults_never_fall : s.faults ≤ t.faults
  pub misses_never_fall : s.misses ≤ t.misses
  pub long_files_never_fall : s.long_files ≤ t.long_files

-- LOADS, one after another
pub data AreLoads (s : FilesSeen) : List Load → FilesSeen → Type 0 where
  no_load : AreLoads s [] s
  then_load : {ls : List Load} {l : Load} {t u : FilesSeen} → AreLoads s ls t → IsLoad t l u → AreLoads s (ls ++ l ∷ []) u
