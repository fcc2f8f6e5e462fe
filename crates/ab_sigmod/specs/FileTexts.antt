-- What the bytes of a specification file say: a title, and items behind it, in the terms of the grammar; or where and why they say nothing.
use Rattle.std.specs.Prelude.{◌≡◌, ◌≢◌, ℕ, List, [], ◌∷◌, ◌++◌}
use Rattle.ab_lex.specs.declared.token.Token.{Token as Lexed}
use Rattle.ab_lex.specs.declared.token.LexFault.{LexFault}
use Rattle.ab_lex.specs.Tokens.{TokensOf, FaultOf, place_of}
use Rattle.ab_grammar.specs.declared.file.FileKind.{FileKind}
use Rattle.ab_grammar.specs.Token.{Token}
use Rattle.ab_grammar.specs.Nesting.{blamed}
use Rattle.ab_grammar.specs.Language.{Accepted, SyntaxAt, TooNestedAt}
use Rattle.ab_grammar.specs.CommandForms.{Form}
use Rattle.ab_grammar.specs.FileTrees.{Item}
use Rattle.ab_grammar.specs.FileTable.{TitleText, ItemText}
use Rattle.ab_grammar.specs.FileTokens.{item_tokens, sentence}
use Rattle.ab_syntax.specs.ab_expressions.specs.Tokens.{tokens_from}
use Rattle.ab_syntax.specs.Faults.{place_past}
use Rattle.ab_sigmod.specs.FileNames.{File, IsTitle}

-- why a text says nothing, at a place of the file, or because its title is another
pub data TextFault : Type 0 where
  syntax : ℕ → TextFault
  too_nested : ℕ → TextFault
  wrong_title : TextFault

module _ (bytes : List ℕ) where
  -- the first sentence of some tokens of the file, and those behind it
  pub record Divided (ts first behind : List Lexed) : Type 0 where
    pub whole : ts ≡ first ++ behind
    pub is_sentence : tokens_from bytes 0 first ≡ sentence (tokens_from bytes 0 ts)

  -- the sentence, which the grammar sees as these tokens, is no text of G
  pub data IsRefused {A : Type 0} (G : Form A) (ks : List Token) (ts : List Lexed) : TextFault → Type 0 where
    for_its_form : (i : ℕ) → SyntaxAt G ks i → IsRefused G ks ts (syntax (place_past bytes 0 ts i))
    for_its_depth : (i : ℕ) → TooNestedAt G ks i → IsRefused G ks ts (too_nested (place_past bytes 0 ts (blamed ks i)))

  -- an item of such a file stands in front of some tokens, and these are behind it
  pub record ItemRead (k : FileKind) (ts : List Lexed) (i : Item) (behind : List Lexed) : Type 0 where
    pub written : List Lexed
    pub divided : Divided ts written behind
    pub is : Accepted (ItemText k) (item_tokens k (tokens_from bytes 0 written)) i

  -- items stand in front, in order
  pub data ItemsRead (k : FileKind) (ts : List Lexed) : List Item → List Lexed → Type 0 where
    none_yet : ItemsRead k ts [] ts
    one_more : {is : List Item} {i : Item} {us vs : List Lexed} → ItemsRead k ts is us → ItemRead k us i vs → ItemsRead k ts (is ++ i ∷ []) vs

  -- the bytes are all tokens, the file's own title stands in front, and these are behind it
  pub record Titled (f : File) (behind : List Lexed) : Type 0 where
    pub tokens : List Lexed
    pub all : TokensOf bytes tokens
    pub written : List Lexed
    pub divided : Divided tokens written behind
    pub title : List ℕ
    pub is : Accepted (TitleText f.kind) (tokens_from bytes 0 written) title
    pub right : IsTitle f.base title

  -- THE FILE BEGINS WITH THESE ITEMS, and some tokens are behind them
  pub record Begins (f : File) (is : List Item) (behind : List Lexed) : Type 0 where
    pub first : List Lexed
    pub titled : Titled f first
    pub items : ItemsRead f.kind first is behind

  -- THE FILE SAYS THESE ITEMS
  abbrev pub Says : File → List Item → Type 0
  Says f is = Begins f is []

  -- THE FILE IS FAULTY, once these items of it were read
  pub data IsFaulty (f : File) : List Item → TextFault → Type 0 where
    no_tokens : {e : LexFault} → FaultOf bytes e → IsFaulty f [] (syntax (place_of e))
    no_title : {t : TextFault} {ts us vs : List Lexed} → TokensOf bytes ts → Divided ts us vs → IsRefused (TitleText f.kind) (tokens_from bytes 0 us) us t → IsFaulty f [] t
    other_title : {ts us vs : List Lexed} {x y : List ℕ} → TokensOf bytes ts → Divided ts us vs → Accepted (TitleText f.kind) (tokens_from bytes 0 us) x → IsTitle f.base y → x ≢ y → IsFaulty f [] wrong_title
    no_item : {is : List Item} {t : TextFault} {ts us vs : List Lexed} → Begins f is ts → ts ≢ [] → Divided ts us vs → IsRefused (ItemText f.kind) (item_tokens f.kind (tokens_from bytes 0 us)) us t → IsFaulty f is t
