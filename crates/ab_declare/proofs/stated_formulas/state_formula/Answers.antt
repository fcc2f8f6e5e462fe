use Rattle.std.specs.Prelude.{None}
use Rattle.std.proofs.Common.{[], refl, sym, ◌∙◌, subst, append-nil}
use Rattle.ab_grammar.specs.CommandTrees as command
use Rattle.ab_syntax.specs.ab_expressions.specs.SyntaxTrees.{tree_of}
use Rattle.ab_logic.specs.Worlds.{read, declarations_of}
use Rattle.ab_declare.specs.declared.refusal.Refusal.TheVariants.{Clash}
use Rattle.ab_declare.specs.DeclarationCommands.{Declines, theorem_taken}
use Rattle.ab_declare.proofs.Concluding.{some_read, none_read}
use Rattle.ab_declare.proofs.Restoring.{restored_itself}
use Rattle.ab_declare.proofs.Statements.{stated, statement_declined}
use Rattle.ab_declare.proofs.stated_formulas.state_formula.Goals as goal

pub returns-then-is_some-clause-answer : goal.returns-then-is_some-clause-answer
returns-then-is_some-clause-answer g c =
    let there = some_read c.theorem.result (read c.args.world.now) _ (sym c.is_some.ensures ∙ c.if-is_some.true) c.theorem.ensures.reads in
    record {
      declines = subst (λ x. Declines (declarations_of c.args.world.now) (command.theorem c.args.name.now (tree_of c.args.parse.now)) (Clash x None)) (sym c.in_ok-copy.ensures) (theorem_taken there.1);
      restored = restored_itself c.args.world.now;
    }

pub read_formula-requires-clause-table : goal.read_formula-requires-clause-table
read_formula-requires-clause-table g c = c.of-moment.ensures.table

pub returns-in-Ok-clause-answer : goal.returns-in-Ok-clause-answer
returns-in-Ok-clause-answer g c =
    let free = none_read c.theorem.result (read c.args.world.now) _ (sym c.is_some.ensures ∙ c.if-is_some.false) c.theorem.ensures.reads in
    stated c.args.world.now c.requires.world c.read_formula.new.types c.read_formula.new.store c.read_formula.ensures.kept c.read_formula.ensures.kinds c.read_formula.ensures.constants c.read_formula.ensures.adds
    c.args.name.now (tree_of c.args.parse.now) c.in-Ok.formula free c.in-Ok.ensures.answer

pub cut_back-requires : goal.cut_back-requires
cut_back-requires g c = (
  c.args.world.now,
  c.requires.world,
  c.of-moment.ensures,
  record { types = c.read_formula.ensures.kept; marks = c.read_formula.ensures.adds.before.marks; additions = ([], sym (append-nil c.args.world.now.additions)) },
)

pub returns-in_ok-refusal_for-in-Err-clause-answer : goal.returns-in_ok-refusal_for-in-Err-clause-answer
returns-in_ok-refusal_for-in-Err-clause-answer g c =
    let free = none_read c.theorem.result (read c.args.world.now) _ (sym c.is_some.ensures ∙ c.if-is_some.false) c.theorem.ensures.reads in
    statement_declined c.args.world.now c.requires.world c.read_formula.new.types c.read_formula.new.store c.cut_back.new.world c.args.name.now (tree_of c.args.parse.now) c.in-Err.fault _ free
    c.in-Err.ensures.answer c.in_ok-refusal_for-in-Err.ensures
    (c.cut_back.ensures.restored c.args.world.now c.requires.world c.of-moment.ensures (record { types = c.read_formula.ensures.kept; marks = c.read_formula.ensures.adds.before.marks; additions = ([], sym (append-nil c.args.world.now.additions)) }))
