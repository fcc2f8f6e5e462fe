-- THE BLOCK THAT ANSWERS A COMMAND, as bytes: how many commands are kept, the reply, and what is left to prove.
use Rattle.std.specs.Prelude.{ℕ, ◌+◌, Bool, true, false, List, [], ◌∷◌, ◌++◌, length, codes, decimal, Option, Some, None}
use Rattle.ab_term.specs.Terms.{Read}
use Rattle.ab_term.specs.Translation.{translate}
use Rattle.ab_print.specs.GoalText.{reply_line}
use Rattle.ab_formulas.specs.NamedGoals.{Named, Goal}
use Rattle.ab_print.specs.NamedGoalText.{shown as term, goal_lines, other_goal}
use Rattle.ab_states.specs.ab_specification.specs.ab_declare.specs.declared.refusal.Place.{Place}
use Rattle.ab_states.specs.ab_specification.specs.ab_declare.specs.declared.refusal.Refusal.{Refusal}
use Rattle.ab_states.specs.ab_specification.specs.ab_declare.specs.declared.refusal.Refusal.TheVariants.{Syntax, TooLong, Unknown, Clash, TypeClash, Untyped, NotStratified, BadHead, WrongPlace, NoHypothesis, WrongShape, NoMatch, NotPattern, Unresolved, Mark, NotFound, NothingToUndo, FileMissing, FileFault, FileTooLong, WrongTitle, Circular, TooNested, NamesSpent, TooManyFiles, NotBuilt}
use Rattle.ab_states.specs.State.{State, goals_of}
use Rattle.ab_states.specs.Reply.{Reply, accepted, completed, admitted, shown, quit, refused}

-- a refusal's number and class
abbrev pub class : Refusal → List ℕ
class (Syntax p) = codes "1 Syntax"
class TooLong = codes "2 TooLong"
class (Unknown x f) = codes "3 Unknown"
class (Clash x f) = codes "4 Clash"
class (TypeClash p) = codes "5 TypeClash"
class (Untyped p) = codes "6 Untyped"
class (NotStratified x) = codes "7 NotStratified"
class (BadHead i f) = codes "8 BadHead"
class WrongPlace = codes "9 WrongPlace"
class (NoHypothesis x) = codes "10 NoHypothesis"
class WrongShape = codes "11 WrongShape"
class NoMatch = codes "12 NoMatch"
class (NotPattern i) = codes "13 NotPattern"
class (Unresolved x) = codes "14 Unresolved"
class Mark = codes "15 Mark"
class NotFound = codes "16 NotFound"
class NothingToUndo = codes "17 NothingToUndo"
class (FileMissing x) = codes "18 FileMissing"
class (FileFault x) = codes "19 FileFault"
class (FileTooLong x) = codes "20 FileTooLong"
class (WrongTitle x) = codes "21 WrongTitle"
class (Circular xs) = codes "22 Circular"
class (TooNested p) = codes "23 TooNested"
class NamesSpent = codes "25 NamesSpent"
class (TooManyFiles x) = codes "26 TooManyFiles"
class NotBuilt = codes "27 NotBuilt"

-- the file of a fault, where it isn't the command
abbrev pub in_file : Option (List ℕ) → List ℕ
in_file None = []
in_file (Some x) = codes " in " ++ x

abbrev pub at_place : Place → List ℕ
at_place p = codes " at " ++ (decimal p.at ++ in_file p.file)

abbrev pub named : List ℕ → List ℕ
named x = codes " " ++ x

abbrev pub all_named : List (List ℕ) → List ℕ
all_named [] = []
all_named (x ∷ xs) = named x ++ all_named xs

-- its detail
abbrev pub detail : Refusal → List ℕ
detail (Syntax p) = at_place p
detail (Unknown x f) = named x ++ in_file f
detail (Clash x f) = named x ++ in_file f
detail (TypeClash p) = at_place p
detail (Untyped p) = at_place p
detail (NotStratified x) = named x
detail (BadHead i f) = codes " clause " ++ (decimal i ++ in_file f)
detail (NoHypothesis x) = named x
detail (NotPattern i) = codes " equation " ++ decimal i
detail (Unresolved x) = named x
detail (FileMissing x) = named x
detail (FileFault x) = named x
detail (FileTooLong x) = named x
detail (WrongTitle x) = named x
detail (Circular xs) = all_named xs
detail (TooNested p) = at_place p
detail (TooManyFiles x) = named x
detail _ = []

-- a formula without variables, as it is printed
abbrev pub closed_formula : Read → List ℕ
closed_formula F = term (translate (λ n. []) (λ x. x) F)

-- what stands behind the number of kept commands
abbrev pub text : Reply → List ℕ
text accepted = []
text (completed x) = codes "Proof completed: " ++ (x ++ codes ".")
text (admitted x ys) = codes "Proof completed, assuming" ++ (all_named ys ++ (codes ": " ++ (x ++ codes ".")))
text (shown x F) = x ++ (codes " : " ++ closed_formula F)
text quit = codes "Quit."
text (refused r) = codes "Refused " ++ (class r ++ detail r)

-- the goals behind the current one, the first of which has this number
abbrev pub others_from : ℕ → List Goal → List ℕ
others_from n [] = []
others_from n (g ∷ gs) = other_goal n g ++ others_from (n + 1) gs

abbrev pub others_if : Bool → List Goal → List ℕ
others_if true gs = others_from 2 gs
others_if false gs = []

-- what is left to prove: the current goal and, where they are asked for, those behind it
abbrev pub goals_shown : Bool → List Goal → List ℕ
goals_shown all [] = []
goals_shown all (g ∷ gs) = goal_lines g ++ others_if all gs

-- THE BLOCK of a reply, with the state behind the command
abbrev pub block : Reply → State → List ℕ
block reply s = reply_line (length s.kept) (text reply) ++ goals_shown s.all_subgoals (goals_of s)
