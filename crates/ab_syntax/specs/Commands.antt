-- The trees of the grammar that the program's commands stand for.
use Rattle.std.specs.Prelude.{Bool, true, false, option_map, map}
use Rattle.ab_syntax.specs.declared.command.Defined.{Defined}
use Rattle.ab_syntax.specs.declared.command.ClauseParse.{ClauseParse}
use Rattle.ab_syntax.specs.declared.command.Instance.{Instance}
use Rattle.ab_syntax.specs.declared.command.Argument.{Argument}
use Rattle.ab_syntax.specs.declared.command.Argument.TheVariants.{Named, Hole}
use Rattle.ab_syntax.specs.declared.command.ProofCommand.{ProofCommand}
use Rattle.ab_syntax.specs.declared.command.ProofCommand.TheVariants as proof
use Rattle.ab_syntax.specs.declared.command.Command.{Command}
use Rattle.ab_syntax.specs.declared.command.Command.TheVariants as plain
use Rattle.ab_grammar.specs.declared.head.Head.{Head}
use Rattle.ab_grammar.specs.declared.head.Head.TheVariants as head
use Rattle.ab_grammar.specs.CommandTrees as tree
use Rattle.ab_expressions.specs.Items.{list_of}
use Rattle.ab_expressions.specs.SyntaxTrees.{type_of, tree_of}

abbrev pub defined_of : Defined → tree.Defined
defined_of d = record { name = d.name; type_of = type_of d.ty }

abbrev pub clause_of : ClauseParse → tree.Clause
clause_of c = record { head = tree_of c.head; body = option_map tree_of c.body; place = c.place }

abbrev pub instance_of : Instance → tree.Instance
instance_of i = record { name = i.name; term = tree_of i.term }

abbrev pub argument_of : Argument → tree.Argument
argument_of (Named x) = tree.named x
argument_of Hole = tree.hole

abbrev pub proof_command_of : ProofCommand → tree.ProofCommand
proof_command_of (proof.Intros xs) = tree.intros (list_of xs)
proof_command_of (proof.Induction ns) = tree.induction (list_of ns)
proof_command_of proof.Coinduction = tree.coinduction
proof_command_of (proof.Case x keep) = tree.case x keep
proof_command_of (proof.Apply x vs is) = tree.apply x (map argument_of (list_of vs)) (map instance_of (list_of is))
proof_command_of (proof.Backchain x is) = tree.backchain x (map instance_of (list_of is))
proof_command_of (proof.Cut x y) = tree.cut x y
proof_command_of (proof.Inst x is) = tree.inst x (map instance_of (list_of is))
proof_command_of (proof.Monotone x e) = tree.monotone x (tree_of e)
proof_command_of (proof.Search n) = tree.search n
proof_command_of proof.Skip = tree.skip
proof_command_of proof.Split = tree.split
proof_command_of proof.SplitAll = tree.split_all
proof_command_of proof.Left = tree.left
proof_command_of proof.Right = tree.right
proof_command_of (proof.Exists e) = tree.exists (tree_of e)
proof_command_of proof.Unfold = tree.unfold_goal
proof_command_of (proof.Assert e) = tree.assert (tree_of e)
proof_command_of (proof.Clear xs) = tree.clear (list_of xs)
proof_command_of (proof.Rename x y) = tree.rename x y
proof_command_of (proof.Permute ns x) = tree.permute (list_of ns) x

-- the tree of a command
abbrev pub command_of : Command → tree.Command
command_of (plain.Kind xs) = tree.kinds (list_of xs)
command_of (plain.Typed xs a) = tree.constants (list_of xs) (type_of a)
command_of (plain.Define inductive ds cs) = tree.define inductive (map defined_of (list_of ds)) (map clause_of (list_of cs))
command_of (plain.Theorem x e) = tree.theorem x (tree_of e)
command_of (plain.Specification x) = tree.specification x
command_of (plain.Query e n m) = tree.query (tree_of e) n m
command_of (plain.Show x) = tree.show x
command_of plain.Quit = tree.quit
command_of (plain.Subgoals on) = tree.subgoals on
command_of plain.Back = tree.back
command_of plain.Reset = tree.reset
command_of plain.Undo = tree.undo
command_of plain.Abort = tree.abort
command_of (plain.InProof label c) = tree.in_proof label (proof_command_of c)

-- the head of a block, by whether it is inductive
abbrev pub block_head : Bool → Head
block_head true = head.Define
block_head false = head.CoDefine
