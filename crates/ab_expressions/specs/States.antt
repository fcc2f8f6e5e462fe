-- The states of the reader of expressions, in the words of the machine that reads the grammar. No public contract speaks of it.
use Rattle.std.specs.Prelude.{◌≡◌, ◌≢◌, ℕ, List, map, Option, Some, None, ◌⊎◌}
use Rattle.ab_grammar.specs.Token.{Token, sign}
use Rattle.ab_grammar.specs.Tree.{Tree, name}
use Rattle.ab_grammar.proofs.Following.{Follower}
use Rattle.ab_grammar.proofs.Machine as machine
use Rattle.ab_expressions.specs.declared.machine.State.{State}
use Rattle.ab_expressions.specs.declared.machine.State.TheVariants as state
use Rattle.ab_expressions.specs.declared.tree.Parse.{Parse}
use Rattle.ab_grammar.specs.declared.Infix.{Infix}
use Rattle.ab_expressions.specs.declared.kind.Kind.{Kind}
use Rattle.ab_expressions.specs.Kinds.{meaning}
use Rattle.ab_expressions.specs.declared.machine.Next.{Next}
use Rattle.ab_expressions.specs.declared.machine.Next.TheVariants as next
use Rattle.ab_expressions.specs.SyntaxTrees.{tree_of, binder_of}
use Rattle.ab_expressions.specs.ReaderSteps.{type_frames_of, type_state}

abbrev pub state_in : List machine.Frame → State → machine.State
state_in fs state.Want = machine.want fs
state_in fs (state.Alone x p) = machine.have (machine.alone x p) fs (name x p)
state_in fs (state.Have t) = machine.have machine.compound fs (tree_of t.value)
state_in fs state.PiWant = machine.pi_want fs
state_in fs (state.PiName x p) = machine.pi_name fs x p
state_in fs (state.Enclosed t) = machine.enclosed fs (tree_of t.value)
state_in fs (state.Item c) = machine.item fs c.place (map tree_of c.items.items)
state_in fs (state.FocusEnd c t) = machine.focus_end fs c.place (map tree_of c.items.items) (tree_of t.value)
state_in fs (state.Binders q) = machine.binders fs q.quant q.place (map binder_of q.binders.items)
state_in fs (state.BinderName q) = machine.binder_name fs q.quant q.place (map binder_of q.binders.items)
state_in fs (state.BinderColon q x p) = machine.binder_colon fs q.quant q.place (map binder_of q.binders.items) x p
state_in fs (state.BinderType q x p gs s) = machine.binder_type fs q.quant q.place (map binder_of q.binders.items) x p (type_state (type_frames_of gs) s)

-- what a token does, where the machine goes on so and has read that much: the expression goes on with the frames that are left, or it ended before the token, or neither
abbrev pub Says : Option machine.State → Option Tree → Token → List machine.Frame → Next State Parse → Type 0
Says on whole k fs (next.On t) = on ≡ Some (state_in fs t)
Says on whole k fs (next.Done t) = (on ≡ None) × (whole ≡ Some (tree_of t.value))
Says on whole k fs next.Wrong = (on ≡ None) × ((whole ≡ None) ⊎ (Follower (Some k) → ⊥))

abbrev pub IsNext : machine.State → Token → List machine.Frame → Next State Parse → Type 0
IsNext s k fs r = Says (machine.step s k) (machine.finish s) k fs r

-- a token that can follow an expression, behind what was shut up to the innermost bracket
abbrev pub IsClosed : machine.Shut → Token → List machine.Frame → Next State Parse → Type 0
IsClosed s k fs r = Says (machine.closing s.below s.inner k) (machine.whole_of s.inner s.below) k fs r

-- the sign that a token of the kind is
abbrev pub IsSign : Kind → Option Infix → Type 0
IsSign k (Some o) = (w : List ℕ) (p : ℕ) → meaning k w p ≡ sign o
IsSign k None = (o : Infix) (w : List ℕ) (p : ℕ) → meaning k w p ≢ sign o
