-- IN WHICH ORDER SPECIFICATION FILES ARE READ, by the answers of the loads; and what is told where they can't be read.
-- A file stands behind all files that were read at its places, and each is read once.
use Rattle.std.specs.Prelude.{◌≡◌, ◌<◌, ◌+◌, ℕ, List, [], ◌∷◌, ◌++◌, map, Contains}
use Rattle.ab_grammar.specs.declared.file.FileKind.{FileKind}
use Rattle.ab_grammar.specs.declared.file.FileKind.TheVariants.{Signature, Module}
use Rattle.ab_grammar.specs.FileTrees.{Item, accumulation}
use Rattle.ab_lex.specs.declared.token.Token.{Token as Lexed}
use Rattle.ab_sigmod.specs.FileNames.{File, name_of}
use Rattle.ab_sigmod.specs.FileTexts.{TextFault, Begins, Says, IsFaulty}
use Rattle.ab_io.specs.Loads.{Answer, loaded, missing, failed, too_long}
use Rattle.ab_sigmod.specs.FileLoads.{Load}

-- a file that was read: its name, and the items that it declares, in order
pub record Read : Type 0 where
  pub name : List ℕ
  pub items : List Item

-- how far reading has come: how many files were loaded, and those that were read, in the order in which their items take effect
pub record Progress : Type 0 where
  pub loads : ℕ
  pub files : List Read

-- at most so many files are loaded
abbrev pub limit : ℕ
limit = 1000

abbrev pub WasRead : Progress → File → Type 0
WasRead p f = (r : Read) × Contains p.files r × (r.name ≡ name_of f)

-- the items that a file declares itself
abbrev pub own : List Item → List Item
own [] = []
own (accumulation xs ∷ is) = own is
own (i ∷ is) = i ∷ own is

-- what the files of these names ask to be read, in a file of that kind
abbrev pub asked : FileKind → List (List ℕ) → List File
asked k [] = []
asked Signature (x ∷ xs) = record { base = x; kind = Signature } ∷ asked Signature xs
asked Module (x ∷ xs) = record { base = x; kind = Signature } ∷ record { base = x; kind = Module } ∷ asked Module xs

-- and what items ask to be read
abbrev pub asked_by : FileKind → List Item → List File
asked_by k [] = []
asked_by k (accumulation xs ∷ is) = asked k xs ++ asked_by k is
asked_by k (i ∷ is) = asked_by k is

-- why files can't be read
pub data Fault : Type 0 where
  file_missing : List ℕ → Fault
  file_fault : List ℕ → Fault
  file_too_long : List ℕ → Fault
  text_fault : List ℕ → TextFault → Fault
  -- the names of a chain of files, from one to itself
  circular : List (List ℕ) → Fault
  too_many_files : List ℕ → Fault

-- a load that gives no bytes, and the fault that it is
pub data IsRefusal (x : List ℕ) : Answer → Fault → Type 0 where
  is_missing : IsRefusal x missing (file_missing x)
  has_failed : IsRefusal x failed (file_fault x)
  is_too_long : IsRefusal x too_long (file_too_long x)

-- f is one of the files that are being read, of which the first is the outermost: the names from it to it
pub record GoesRound (chain : List File) (f : File) (names : List (List ℕ)) : Type 0 where
  pub before : List File
  pub behind : List File
  pub whole : chain ≡ before ++ f ∷ behind
  pub names_are : names ≡ map (λ g. g.base) (f ∷ behind) ++ f.base ∷ []

-- the file is none of those that are being read, it wasn't read, and one more may be loaded
pub record IsNew (chain : List File) (p : Progress) (f : File) : Type 0 where
  pub no_circle : ¬ Contains chain f
  pub not_read : ¬ WasRead p f
  pub within : p.loads < limit

abbrev pub load_of : File → Answer → Load
load_of f a = record { name = name_of f; answer = a }

abbrev pub one_loaded : Progress → Progress
one_loaded p = record { loads = p.loads + 1; files = p.files }

abbrev pub behind_all : Progress → File → List Item → Progress
behind_all p f is = record { loads = p.loads; files = p.files ++ record { name = name_of f; items = own is } ∷ [] }

mutual
  -- FILES ARE READ one after another, with these loads. The chain is that of the files which are being read, the outermost first.
  pub data AreRead : List File → List File → Progress → List Load → Progress → Type 0 where
    none : {chain : List File} {p : Progress} → AreRead chain [] p [] p
    again : {chain : List File} {f : File} {fs : List File} {p q : Progress} {ls : List Load} → AreRead chain fs p ls q → ¬ Contains chain f → WasRead q f → AreRead chain (fs ++ f ∷ []) p ls q
    once : {chain : List File} {f : File} {fs : List File} {p q r : Progress} {ls ms : List Load} → AreRead chain fs p ls q → IsRead chain f q ms r → AreRead chain (fs ++ f ∷ []) p (ls ++ ms) r

  -- ONE FILE IS READ, which wasn't: its items are gone through, the files at their places are read, and it stands behind them
  pub data IsRead : List File → File → Progress → List Load → Progress → Type 0 where
    is_read : {chain : List File} {f : File} {p : Progress} {bytes : List ℕ} {is : List Item} {ls : List Load} {q : Progress} → IsNew chain p f → Says bytes f is
        → AreRead (chain ++ f ∷ []) (asked_by f.kind is) (one_loaded p) ls q → IsRead chain f p (load_of f (loaded bytes) ∷ ls) (behind_all q f is)

mutual
  -- THEY CAN'T BE READ, for this fault, which is the first
  pub data AreFaulty : List File → List File → Progress → List Load → Fault → Type 0 where
    at_one : {chain fs done : List File} (later : List File) {f : File} {p q : Progress} {ls ms : List Load} {t : Fault} → fs ≡ done ++ f ∷ later → AreRead chain done p ls q → IsUnreadable chain f q ms t → AreFaulty chain fs p (ls ++ ms) t

  -- THIS FILE CAN'T BE READ
  pub data IsUnreadable : List File → File → Progress → List Load → Fault → Type 0 where
    goes_round : {chain : List File} {f : File} {p : Progress} {xs : List (List ℕ)} → GoesRound chain f xs → IsUnreadable chain f p [] (circular xs)
    is_one_more : {chain : List File} {f : File} {p : Progress} → ¬ Contains chain f → ¬ WasRead p f → p.loads ≡ limit → IsUnreadable chain f p [] (too_many_files (name_of f))
    isnt_loaded : {chain : List File} {f : File} {p : Progress} {a : Answer} {t : Fault} → IsNew chain p f → IsRefusal (name_of f) a t → IsUnreadable chain f p (load_of f a ∷ []) t
    -- a fault of the text comes once the files at the places before it are read
    in_its_text : {chain : List File} {f : File} {p : Progress} {bytes : List ℕ} {is : List Item} {t : TextFault} {ls : List Load} {q : Progress} → IsNew chain p f → IsFaulty bytes f is t
        → AreRead (chain ++ f ∷ []) (asked_by f.kind is) (one_loaded p) ls q → IsUnreadable chain f p (load_of f (loaded bytes) ∷ ls) (text_fault (name_of f) t)
    -- a file at one of its places can't be read; what stands behind that place isn't looked at
    at_a_place : {chain : List File} {f : File} {p : Progress} {bytes : List ℕ} {is : List Item} {rest : List Lexed} {t : Fault} {ls : List Load} → IsNew chain p f → Begins bytes f is rest
        → AreFaulty (chain ++ f ∷ []) (asked_by f.kind is) (one_loaded p) ls t → IsUnreadable chain f p (load_of f (loaded bytes) ∷ ls) t

-- the two files of a specification
abbrev pub files_of : List ℕ → List File
files_of x = asked Module (x ∷ [])

abbrev pub beginning : Progress
beginning = record { loads = 0; files = [] }

-- A SPECIFICATION of that name is read: its signature, and then its module
abbrev pub IsSpecification : List ℕ → List Load → List Read → Type 0
IsSpecification x ls fs = (n : ℕ) × AreRead [] (files_of x) beginning ls (record { loads = n; files = fs })

-- and here it can't be
abbrev pub IsRefused : List ℕ → List Load → Fault → Type 0
IsRefused x ls t = AreFaulty [] (files_of x) beginning ls t
