-- What the steps of the reader's machines keep, in the words of the machines that read the grammar. No public contract speaks of it.
use Rattle.std.specs.Prelude.{◌≡◌, ◌≤◌, List, [], ◌∷◌, ◌++◌, Bool, true, false, Option, Some, None, ◌⊎◌, Box, ◌&&◌, map, not, reverse}
use Rattle.ab_grammar.specs.Token.{Token}
use Rattle.ab_grammar.specs.Nesting as nesting
use Rattle.ab_grammar.specs.Nesting.{depth_of, limit}
use Rattle.ab_grammar.proofs.Following.{Follower}
use Rattle.ab_grammar.proofs.Machine as machine
use Rattle.ab_expressions.specs.declared.nesting.Layer.{Layer}
use Rattle.ab_expressions.specs.declared.nesting.Layers.{Layers}
use Rattle.ab_expressions.specs.declared.types.TypeFrame.{TypeFrame}
use Rattle.ab_expressions.specs.declared.types.TypeFrame.TheVariants as type_frame
use Rattle.ab_expressions.specs.declared.stack.Stack.{Stack}
use Rattle.std.specs.Global.{Global}
use Rattle.ab_expressions.specs.declared.tree.TypeParse.{TypeParse}
use Rattle.ab_expressions.specs.declared.kind.Kind.{Kind}
use Rattle.ab_expressions.specs.declared.kind.Kind.TheVariants as kind
use Rattle.ab_expressions.specs.declared.machine.Next.{Next}
use Rattle.ab_expressions.specs.declared.machine.Next.TheVariants as next
use Rattle.ab_expressions.specs.declared.stop.Stop.{Stop}
use Rattle.ab_expressions.specs.declared.stop.Stop.TheVariants.{Syntax, TooNested, Memory}
use Rattle.ab_expressions.specs.SyntaxTrees.{type_of}

-- whether a token of the kind can begin an argument
abbrev pub begins : Kind → Bool
begins kind.Word = true
begins kind.Truth = true
begins kind.Forall = true
begins kind.Exists = true
begins kind.Nabla = true
begins kind.LeftParen = true
begins kind.LeftBrace = true
begins k = false

-- whether a token of the kind is a sign
abbrev pub is_sign : Kind → Bool
is_sign kind.Arrow = true
is_sign kind.Or = true
is_sign kind.And = true
is_sign kind.Equal = true
is_sign kind.Imply = true
is_sign kind.Both = true
is_sign kind.Cons = true
is_sign k = false

-- whether a token of the kind can stand behind a whole expression and a whole type
abbrev pub follows : Kind → Bool
follows kind.Pi = false
follows kind.LeftBracket = false
follows kind.Backslash = false
follows k = not (begins k) && not (is_sign k)

-- the last item of the program's stack is the first of the machine's
abbrev pub stack : {A B : Type 0} → (A → B) → List A → List B
stack f [] = []
stack f (x ∷ xs) = stack f xs ++ f x ∷ []

-- nesting

abbrev pub layer_of : Layer → nesting.Layer
layer_of l = record { count = l.count; naming = l.naming }

abbrev pub layers_of : Layers → List nesting.Layer
layers_of l = layer_of l.inner ∷ stack layer_of l.outer.items

abbrev pub IsMeasured : Layers → Type 0
IsMeasured l = l.depth ≡ depth_of (layers_of l)

-- why nothing is read behind layers: they are too deep, or there was no memory for them
abbrev pub IsTooDeep : List nesting.Layer → Stop → Type 0
IsTooDeep ls Syntax = ⊥
IsTooDeep ls TooNested = depth_of ls ≤ limit → ⊥
IsTooDeep ls (Memory e) = Unit {0}

-- types

abbrev pub type_frame_of : TypeFrame → machine.TypeFrame
type_frame_of type_frame.Paren = machine.type_paren
type_frame_of (type_frame.Arrow a) = machine.type_arrow (type_of a.value)

abbrev pub type_frames_of : Stack TypeFrame → List machine.TypeFrame
type_frames_of v = map type_frame_of (reverse v.items.items)

-- the type that stands there, or none where a type must come
abbrev pub type_state : List machine.TypeFrame → Option (Box TypeParse Global) → machine.TypeState
type_state gs None = machine.type_want gs
type_state gs (Some A) = machine.type_have gs (type_of A.value)

-- below the parenthesis that was taken away are the frames that are left
abbrev pub below_type : Bool → List machine.TypeFrame → Option (List machine.TypeFrame)
below_type true gs = Some gs
below_type false gs = None

abbrev pub type_shut_of : Box TypeParse Global × Bool → List machine.TypeFrame → machine.TypeShut
type_shut_of s gs = record { inner = type_of s.0.value; below = below_type s.1 gs }

-- what a token does: the type goes on with the frames that are left, or it ended before the token, or neither
abbrev pub IsTypeNext : machine.TypeState → Token → List machine.TypeFrame → Next (Option (Box TypeParse Global)) TypeParse → Type 0
IsTypeNext s k gs (next.On t) = machine.type_step s k ≡ Some (type_state gs t)
IsTypeNext s k gs (next.Done a) = (machine.type_step s k ≡ None) × (machine.type_finish s ≡ Some (type_of a.value))
IsTypeNext s k gs next.Wrong = (machine.type_step s k ≡ None) × ((machine.type_finish s ≡ None) ⊎ (Follower (Some k) → ⊥))
