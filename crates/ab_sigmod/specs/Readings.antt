-- What the reader's own functions say of how far they have come. No public contract speaks of it.
use Rattle.std.specs.Prelude.{◌≡◌, ◌<◌, ◌+◌, ℕ, List, [], ◌∷◌, map, drop, length, Contains, Option, Some, None, Result, Ok, Err}
use Rattle.ab_lex.specs.declared.token.Token.{Token as Lexed}
use Rattle.ab_grammar.specs.declared.file.FileKind.{FileKind}
use Rattle.ab_grammar.specs.FileTrees.{Item}
use Rattle.ab_syntax.specs.ab_expressions.specs.declared.items.Items.{Items}
use Rattle.ab_syntax.specs.declared.spec_item.SpecItem.{SpecItem}
use Rattle.ab_syntax.specs.ab_expressions.specs.Items.{list_of}
use Rattle.ab_syntax.specs.FileItems.{own_item_of}
use Rattle.std.specs.Prelude.{Vec}
use Rattle.std.specs.Global.{Global}
use Rattle.ab_sigmod.specs.declared.progress.OpenFile.{OpenFile}
use Rattle.ab_sigmod.specs.declared.progress.Reading.{Reading}
use Rattle.ab_sigmod.specs.declared.spec.SpecFault.{SpecFault}
use Rattle.ab_sigmod.specs.FileNames.{File}
use Rattle.ab_sigmod.specs.FileTexts.{TextFault, ItemsRead}
use Rattle.ab_io.specs.Loads.{Answer, loaded}
use Rattle.ab_sigmod.specs.FileLoads.{FilesSeen, Load, IsLoad, AreLoads}
use Rattle.ab_sigmod.specs.FileOrder.{Read, Progress, Fault, text_fault, IsRefusal, own, asked_by, AreRead, AreFaulty}
use Rattle.ab_sigmod.specs.Outcomes.{read_of, fault_of}
use Rattle.ab_sigmod.specs.Texts.{Unread}

abbrev pub file_of : OpenFile → File
file_of o = record { base = o.base; kind = o.kind }

-- the files that are being read, the outermost first
abbrev pub chain_of : Reading → List File
chain_of r = map file_of r.open.items

abbrev pub progress_of : Reading → Progress
progress_of r = record { loads = r.loads; files = map read_of r.files.items }

-- where the file stands among these, or that it doesn't
abbrev pub IsPlaceIn : List File → File → Option ℕ → Type 0
IsPlaceIn fs f (Some i) = (i < length fs) × (drop i fs ≡ f ∷ drop (i + 1) fs)
IsPlaceIn fs f None = ¬ Contains fs f

-- one of the files has that name
abbrev pub SomeName : List Read → List ℕ → Type 0
SomeName rs x = (r : Read) × Contains rs r × (r.name ≡ x)

-- one load of the file of that name
abbrev pub IsLoaded : List ℕ → FilesSeen → FilesSeen → Result (Vec ℕ Global) SpecFault → Type 0
IsLoaded x s t (Ok bytes) = IsLoad s (record { name = x; answer = loaded bytes.items }) t
IsLoaded x s t (Err e) = (f : Fault) → fault_of e ≡ Some f → (a : Answer) × IsLoad s (record { name = x; answer = a }) t × IsRefusal x a f

-- files were read, by some loads
pub record Reads (chain fs : List File) (p : Progress) (s t : FilesSeen) (q : Progress) : Type 0 where
  pub loads : List Load
  pub asked : AreLoads s loads t
  pub are_read : AreRead chain fs p loads q

-- they can't be read
pub record Refuses (chain fs : List File) (p : Progress) (s t : FilesSeen) (f : Fault) : Type 0 where
  pub loads : List Load
  pub asked : AreLoads s loads t
  pub are_faulty : AreFaulty chain fs p loads f

abbrev pub Outcome : List File → List File → Progress → FilesSeen → FilesSeen → Progress → Result (Unit {0}) SpecFault → Type 0
Outcome chain fs p s t q (Ok u) = Reads chain fs p s t q
Outcome chain fs p s t q (Err e) = (f : Fault) → fault_of e ≡ Some f → Refuses chain fs p s t f

-- items were read, with the files at their places; the tokens are those behind them
pub record ReadSoFar (bytes : List ℕ) (k : FileKind) (ts : List Lexed) (chain : List File) (p : Progress) (s t : FilesSeen) (q : Progress) (items : List SpecItem) (behind : List Lexed) : Type 0 where
  pub written : List Item
  pub read : ItemsRead bytes k ts written behind
  pub declared : own written ≡ map own_item_of items
  pub files : Reads chain (asked_by k written) p s t q

-- the items can't be read: one that is no item, or files at the place of one
pub data AreUnread (x : List ℕ) (bytes : List ℕ) (k : FileKind) (ts : List Lexed) (chain : List File) (p : Progress) (s t : FilesSeen) : Fault → Type 0 where
  no_item : {items : List SpecItem} {us : List Lexed} {q : Progress} {e : TextFault} → ReadSoFar bytes k ts chain p s t q items us → Unread bytes k us e → AreUnread x bytes k ts chain p s t (text_fault x e)
  no_files : {is : List Item} {us : List Lexed} {f : Fault} → ItemsRead bytes k ts is us → Refuses chain (asked_by k is) p s t f → AreUnread x bytes k ts chain p s t f

abbrev pub ItemsOutcome : List ℕ → List ℕ → FileKind → List Lexed → List File → Progress → FilesSeen → FilesSeen → Progress → Result (Items SpecItem) SpecFault → Type 0
ItemsOutcome x bytes k ts chain p s t q (Ok items) = ReadSoFar bytes k ts chain p s t q (list_of items) []
ItemsOutcome x bytes k ts chain p s t q (Err e) = (f : Fault) → fault_of e ≡ Some f → AreUnread x bytes k ts chain p s t f

-- what is told where the text of the file of that name isn't read
abbrev pub fault_in : List ℕ → Option TextFault → Option Fault
fault_in x None = None
fault_in x (Some e) = Some (text_fault x e)
