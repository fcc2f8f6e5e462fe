-- What a caller sees of a splitter: the bytes that its spans stand for, and the text that is still to be split.
use Rattle.std.specs.Prelude.{◌↔◌, ◌++◌, ◌∷◌, [], ℕ, Bool, true, false, List, length}
use Rattle.ab_lex.specs.declared.splitter.Next.{Next}
use Rattle.ab_lex.specs.declared.splitter.Next.TheVariants.{Whole, More, TooLong}
use Rattle.ab_lex.specs.Spans.{IsWithin, bytes_at}
use Rattle.ab_lex.specs.Commands.{CommandAt, Item, command, long, ItemsOf, HasBlankRest}

pub record Pending : Type 0 where
  -- the bytes that spans stand for
  pub buffer : List ℕ
  -- what is still to be split, behind which comes what is fed later
  pub text : List ℕ
  -- whether the first command of the text was told to be too long before its end came; of its bytes that were passed, the
  -- text then has some that leave open what they did
  pub in_long : Bool

-- the items behind the end of a text's first command, where it ends
pub data ItemsBehind : List ℕ → List Item → Type 0 where
  no_end : {s : List ℕ} → ((r : List ℕ) → ¬ CommandAt s r) → ItemsBehind s []
  an_end : {s r : List ℕ} {is : List Item} → CommandAt s r → ItemsOf r is → ItemsBehind s is

-- the items of a text; behind its first command, where that was told
abbrev pub ItemsFrom : Bool → List ℕ → List Item → Type 0
ItemsFrom false s is = ItemsOf s is
ItemsFrom true s is = ItemsBehind s is

-- these items are still to be reported, where these bytes are fed too
abbrev pub Awaits : Pending → List ℕ → List Item → Type 0
Awaits p more is = ItemsFrom p.in_long (p.text ++ more) is

-- whatever is fed later, the same items are to be reported
abbrev pub SameItems : Pending → Pending → Type 0
SameItems old new = (more : List ℕ) (is : List Item) → Awaits new more is → Awaits old more is

-- whatever is fed later, this item is to be reported, and then those that are left
abbrev pub NextItem : Pending → Item → Pending → Type 0
NextItem old item new = (more : List ℕ) (is : List Item) → Awaits new more is → Awaits old more (item ∷ is)

-- whatever is fed later, what stands behind the last command is blanks and whole comments, or is more
abbrev pub SameRest : Pending → Pending → Type 0
SameRest old new = (more : List ℕ) → HasBlankRest (old.text ++ more) ↔ HasBlankRest (new.text ++ more)

-- the answer is the next item; or there is none in what was fed
abbrev pub Answers : Pending → Next → Pending → Type 0
Answers old (Whole span) new = IsWithin (length new.buffer) span × NextItem old (command (bytes_at new.buffer span)) new
Answers old TooLong new = NextItem old long new
Answers old More new = Awaits new [] [] × SameItems old new
