-- The commands of a text and its rest, by its units; the items that are reported of it; and a rest that is blank.
use Rattle.std.specs.Prelude.{◌≡◌, ◌≢◌, ℕ, if◌then◌else◌, nat_le, List, [], ◌∷◌, ◌++◌, length, map}
use Rattle.ab_lex.specs.declared.TheConstants.{COMMAND_LIMIT}
use Rattle.ab_lex.specs.Units.{full_stop, UnitAt, IsBlank}

-- a command stands at the front: units up to the first that is a full stop, and r follows
pub data CommandAt : List ℕ → List ℕ → Type 0 where
  stop : {b : ℕ} {s : List ℕ} → b ≡ full_stop → CommandAt (b ∷ s) s
  unit : {b : ℕ} {s m r : List ℕ} → b ≢ full_stop → UnitAt (b ∷ s) m → CommandAt m r → CommandAt (b ∷ s) r

-- the text is these commands, and then a rest at which no command stands
pub data Splits : List ℕ → List (List ℕ) → List ℕ → Type 0 where
  no_more : {s : List ℕ} → ((r : List ℕ) → ¬ CommandAt s r) → Splits s [] s
  one_more : {s r rest c : List ℕ} {cs : List (List ℕ)} → CommandAt s r → s ≡ c ++ r → Splits r cs rest → Splits s (c ∷ cs) rest

-- what is reported: a command, or that one is too long
pub data Item : Type 0 where
  command : List ℕ → Item
  long : Item

abbrev pub item_of : ℕ → List ℕ → Item
item_of limit c = if nat_le (length c) limit then command c else long

-- a rest of `limit` bytes can only become a command of more
abbrev pub items_of_rest : ℕ → List ℕ → List Item
items_of_rest limit r = if nat_le limit (length r) then long ∷ [] else []

-- the items of a text, where a command may have `limit` bytes
pub record ItemsWithin (limit : ℕ) (text : List ℕ) (is : List Item) : Type 0 where
  pub whole : List (List ℕ)
  pub rest : List ℕ
  pub splits : Splits text whole rest
  pub items_are : is ≡ map (item_of limit) whole ++ items_of_rest limit rest

-- the items of a text
abbrev pub ItemsOf : List ℕ → List Item → Type 0
ItemsOf text is = ItemsWithin COMMAND_LIMIT text is

-- the second list is the first, and perhaps more behind it
abbrev pub GoesOn : List Item → List Item → Type 0
GoesOn is js = (later : List Item) × (js ≡ is ++ later)

-- what stands behind the last command of the text is blanks and whole comments
pub record HasBlankRest (text : List ℕ) : Type 0 where
  pub whole : List (List ℕ)
  pub rest : List ℕ
  pub splits : Splits text whole rest
  pub blank : IsBlank rest
