-- What the reader's own functions say of the text of one file. No public contract speaks of it.
use Rattle.std.specs.Prelude.{◌≡◌, ◌≢◌, ◌<◌, ◌≤◌, ℕ, List, [], drop, length, Option, Some, None, Result, Ok, Err}
use Rattle.ab_lex.specs.declared.token.Token.{Token as Lexed}
use Rattle.ab_lex.specs.declared.token.LexFault.{LexFault}
use Rattle.ab_lex.specs.Tokens.{TokensOf, FaultOf, place_of}
use Rattle.ab_grammar.specs.declared.file.FileKind.{FileKind}
use Rattle.ab_grammar.specs.FileTable.{ItemText}
use Rattle.ab_grammar.specs.FileTokens.{item_tokens}
use Rattle.ab_syntax.specs.ab_expressions.specs.declared.fault.ParseFault.{ParseFault}
use Rattle.ab_syntax.specs.ab_expressions.specs.declared.fault.ParseFault.TheVariants as parse
use Rattle.ab_syntax.specs.declared.spec_item.FileItem.{FileItem}
use Rattle.ab_syntax.specs.FileItems.{item_of}
use Rattle.ab_syntax.specs.ab_expressions.specs.Tokens.{StandIn, tokens_from}
use Rattle.ab_sigmod.specs.declared.file_text.TextStop.{TextStop}
use Rattle.ab_sigmod.specs.declared.file_text.TextStop.TheVariants.{Syntax, TooNested, WrongTitle, Memory}
use Rattle.ab_sigmod.specs.declared.text.FileText.{FileText}
use Rattle.ab_sigmod.specs.FileNames.{File}
use Rattle.ab_sigmod.specs.FileTexts.{TextFault, syntax, too_nested, wrong_title, Divided, IsRefused, ItemRead, Titled, IsFaulty}

-- why a text isn't read; none where there was no memory
abbrev pub fault_of : TextStop → Option TextFault
fault_of (Syntax p) = Some (syntax p)
fault_of (TooNested p) = Some (too_nested p)
fault_of WrongTitle = Some wrong_title
fault_of (Memory e) = None

-- the same of a sentence
abbrev pub stop_of : ParseFault → TextStop
stop_of (parse.Syntax p) = Syntax p
stop_of (parse.TooNested p) = TooNested p
stop_of (parse.Memory e) = Memory e

-- the tokens that weren't read yet
abbrev pub unread : FileText → List Lexed
unread t = drop t.here t.tokens.items

-- the tokens stand in the bytes, and no more of them were read than there are
abbrev pub IsUsable : FileText → Type 0
IsUsable t = StandIn t.bytes.items 0 t.tokens.items × (t.here ≤ length t.tokens.items)

-- the bytes are all tokens, of which none was read, or one has a fault
abbrev pub IsTokenized : List ℕ → Result FileText TextStop → Type 0
IsTokenized bytes (Ok t) = (t.bytes.items ≡ bytes) × TokensOf bytes t.tokens.items × (t.here ≡ 0)
IsTokenized bytes (Err s) = (e : TextFault) → fault_of s ≡ Some e → (f : LexFault) × FaultOf bytes f × (e ≡ syntax (place_of f))

-- the title of the file was read, or it is faulty
abbrev pub IsOpened : List ℕ → File → Result FileText TextStop → Type 0
IsOpened bytes f (Ok t) = (t.bytes.items ≡ bytes) × IsUsable t × Titled bytes f (unread t)
IsOpened bytes f (Err s) = (e : TextFault) → fault_of s ≡ Some e → IsFaulty bytes f [] e

-- the next sentence is no item
pub record Unread (bytes : List ℕ) (k : FileKind) (ts : List Lexed) (e : TextFault) : Type 0 where
  pub some_left : ts ≢ []
  pub written : List Lexed
  pub behind : List Lexed
  pub divided : Divided bytes ts written behind
  pub refused : IsRefused bytes (ItemText k) (item_tokens k (tokens_from bytes 0 written)) written e

-- the next item was read, there is none, or the next sentence is no item
abbrev pub IsNextItem : FileKind → FileText → FileText → Result (Option FileItem) ParseFault → Type 0
IsNextItem k t u (Ok None) = unread t ≡ []
IsNextItem k t u (Ok (Some i)) = ItemRead t.bytes.items k (unread t) (item_of i) (unread u) × (t.here < u.here)
IsNextItem k t u (Err s) = (e : TextFault) → fault_of (stop_of s) ≡ Some e → Unread t.bytes.items k (unread t) e
