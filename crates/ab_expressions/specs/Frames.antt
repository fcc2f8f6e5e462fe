-- What the reader of expressions keeps, in the words of the machine that reads the grammar. No public contract speaks of it.
use Rattle.std.specs.Prelude.{◌≡◌, List, [], ◌∷◌, ◌++◌, map, reverse, option_map, Option, Some, None, Box}
use Rattle.ab_grammar.proofs.Machine as machine
use Rattle.ab_expressions.specs.declared.frame.Bracket.{Bracket}
use Rattle.ab_expressions.specs.declared.frame.Bracket.TheVariants as brackets
use Rattle.ab_expressions.specs.declared.frame.Frame.{Frame}
use Rattle.ab_expressions.specs.declared.frame.Frame.TheVariants as frame
use Rattle.ab_expressions.specs.declared.stack.Stack.{Stack}
use Rattle.ab_expressions.specs.declared.frame.Fate.{Fate}
use Rattle.ab_expressions.specs.declared.frame.Fate.TheVariants as fate
use Rattle.ab_grammar.specs.declared.Infix.{Infix}
use Rattle.ab_grammar.specs.Tree.{Tree, joined, applied, pi_of, abs, bind}
use Rattle.std.specs.Global.{Global}
use Rattle.ab_expressions.specs.declared.tree.Parse.{Parse}
use Rattle.ab_expressions.specs.SyntaxTrees.{tree_of, binder_of}

abbrev pub bracket_of : Bracket → machine.Bracket
bracket_of brackets.Paren = machine.paren
bracket_of brackets.PiParen = machine.pi_paren
bracket_of (brackets.Item c) = machine.item_in c.place (map tree_of c.items.items)
bracket_of (brackets.Focus c) = machine.focus_in c.place (map tree_of c.items.items)
bracket_of (brackets.Goal c f) = machine.goal_in c.place (map tree_of c.items.items) (option_map (λ b. tree_of b.value) f)

abbrev pub frame_of : Frame → machine.Frame
frame_of (frame.Infix o t) = machine.infix_at o (tree_of t.value)
frame_of (frame.Args f vs) = machine.args_at (tree_of f.value) (map tree_of vs.items)
frame_of (frame.Pi p) = machine.pi_at p
frame_of (frame.Abs x p) = machine.abs_at x p
frame_of (frame.Bind q) = machine.bind_at q.quant q.place (map binder_of q.binders.items)
frame_of (frame.Bracket b) = machine.bracket_at (bracket_of b)

abbrev pub frames_of : Stack Frame → List machine.Frame
frames_of v = map frame_of (reverse v.items.items)

-- what an operand is the last part of, in a frame; in a bracket the operand alone
abbrev pub reduced : machine.Frame → Tree → Tree
reduced (machine.infix_at p a) t = joined p a t
reduced (machine.args_at f vs) t = applied f (vs ++ t ∷ [])
reduced (machine.pi_at p) t = pi_of p t
reduced (machine.abs_at x p) t = abs x t p
reduced (machine.bind_at q p bs) t = bind q bs t p
reduced (machine.bracket_at b) t = t

-- what becomes of a frame where a sign comes
abbrev pub IsFate : Infix → machine.Frame → Fate → Type 0
IsFate o f fate.Stays = (t : Tree) (fs : List machine.Frame) → machine.pop o t (f ∷ fs) ≡ Some (machine.infix_at o t ∷ f ∷ fs)
IsFate o f fate.Reduces = (t : Tree) (fs : List machine.Frame) → machine.pop o t (f ∷ fs) ≡ machine.pop o (reduced f t) fs
IsFate o f fate.Refuses = (t : Tree) (fs : List machine.Frame) → machine.pop o t (f ∷ fs) ≡ None

-- below the bracket that was taken away are the frames that are left
abbrev pub below_of : Option Bracket → List machine.Frame → machine.Below
below_of None fs = machine.bottom
below_of (Some b) fs = machine.bracket (bracket_of b) fs

abbrev pub shut_of : Box Parse Global × Option Bracket → List machine.Frame → machine.Shut
shut_of s fs = record { inner = tree_of s.0.value; below = below_of s.1 fs }
