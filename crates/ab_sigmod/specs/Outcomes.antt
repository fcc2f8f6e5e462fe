-- The answers of the program, in the terms of the order of files.
use Rattle.std.specs.Prelude.{◌≡◌, ℕ, List, map, Option, Some, None}
use Rattle.ab_io.specs.Loads.{FileMap}
use Rattle.ab_io.specs.Plan.{Plan}
use Rattle.ab_syntax.specs.ab_expressions.specs.Items.{list_of}
use Rattle.ab_syntax.specs.FileItems.{own_item_of}
use Rattle.ab_sigmod.specs.declared.spec.SpecFile.{SpecFile}
use Rattle.ab_sigmod.specs.declared.spec.Spec.{Spec}
use Rattle.ab_sigmod.specs.declared.spec.SpecFault.{SpecFault}
use Rattle.ab_sigmod.specs.declared.spec.SpecFault.TheVariants.{FileMissing, FileFault, FileTooLong, Syntax, TooNested, WrongTitle, Circular, TooManyFiles, Memory}
use Rattle.ab_sigmod.specs.FileTexts.{syntax, too_nested, wrong_title}
use Rattle.ab_sigmod.specs.FileLoads.{FilesSeen, Load, AreLoads}
use Rattle.ab_sigmod.specs.FileOrder.{Read, Fault, file_missing, file_fault, file_too_long, text_fault, circular, too_many_files, IsSpecification, IsRefused}

-- what is told of files
abbrev pub seen : Option FileMap → Option Plan → ℕ → ℕ → ℕ → FilesSeen
seen files plan faults misses long_files = record { files = files; plan = plan; faults = faults; misses = misses; long_files = long_files }

abbrev pub read_of : SpecFile → Read
read_of f = record { name = f.name; items = map own_item_of (list_of f.items) }

abbrev pub files_of : Spec → List Read
files_of s = map read_of (list_of s.files)

-- the fault; none where there was no memory
abbrev pub fault_of : SpecFault → Option Fault
fault_of (FileMissing x) = Some (file_missing x)
fault_of (FileFault x) = Some (file_fault x)
fault_of (FileTooLong x) = Some (file_too_long x)
fault_of (Syntax x p) = Some (text_fault x (syntax p))
fault_of (TooNested x p) = Some (text_fault x (too_nested p))
fault_of (WrongTitle x) = Some (text_fault x wrong_title)
fault_of (Circular xs) = Some (circular (list_of xs))
fault_of (TooManyFiles x) = Some (too_many_files x)
fault_of (Memory e) = None

-- A SPECIFICATION WAS READ, by these loads, from what was told of the files before to what is told of them now
pub record WasRead (x : List ℕ) (s t : FilesSeen) (spec : Spec) : Type 0 where
  pub loads : List Load
  pub asked : AreLoads s loads t
  pub is : IsSpecification x loads (files_of spec)

-- IT WAS REFUSED, for this fault, which is the first
pub record WasRefused (x : List ℕ) (s t : FilesSeen) (fault : Fault) : Type 0 where
  pub loads : List Load
  pub asked : AreLoads s loads t
  pub is : IsRefused x loads fault

abbrev pub IfRefused : List ℕ → FilesSeen → FilesSeen → SpecFault → Type 0
IfRefused x s t e = (f : Fault) → fault_of e ≡ Some f → WasRefused x s t f
