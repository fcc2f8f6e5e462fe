-- Written types, and types without formulas.
use Rattle.std.specs.Prelude.{◌≢◌, ℕ, List, [], ◌∷◌, Bool, false, ◌||◌, bytes_eq, Result, Ok, Err, if◌then◌else◌}
use Rattle.ab_term.specs.Types.{Ty, kind, arrow, prop}
use Rattle.ab_grammar.specs.Tree as tree

-- `prop` doesn't stand in the type
abbrev pub PropFree : Ty → Type 0
PropFree (kind k) = kind k ≢ prop
PropFree (arrow A B) = PropFree A × PropFree B

-- `prop` stands at most as the result: in no argument
abbrev pub IsDeclarable : Ty → Type 0
IsDeclarable (kind k) = Unit {0}
IsDeclarable (arrow A B) = PropFree A × IsDeclarable B

abbrev pub is_listed : List (List ℕ) → List ℕ → Bool
is_listed [] x = false
is_listed (y ∷ ys) x = bytes_eq y x || is_listed ys x

abbrev pub arrow_of : Result Ty (List ℕ) → Result Ty (List ℕ) → Result Ty (List ℕ)
arrow_of (Ok A) (Ok B) = Ok (arrow A B)
arrow_of (Ok A) (Err x) = Err x
arrow_of (Err x) b = Err x

-- the type that is written, or the first name in it that is no kind
abbrev pub written_type : List (List ℕ) → tree.Ty → Result Ty (List ℕ)
written_type kinds (tree.base x p) = if is_listed kinds x then Ok (kind x) else Err x
written_type kinds (tree.arrow a b) = arrow_of (written_type kinds a) (written_type kinds b)

-- where a written type begins
abbrev pub type_place : tree.Ty → ℕ
type_place (tree.base x p) = p
type_place (tree.arrow a b) = type_place a
