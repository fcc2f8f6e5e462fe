use Rattle.std.proofs.Common.{◌∙◌, sym, subst, ap, arith}
use Rattle.std.proofs.lemmas.Result.{err_from_is_err_and}
use Rattle.std.specs.Prelude.{All}
use Rattle.ab_term.specs.Constants.{type_in}
use Rattle.ab_norm.specs.ab_types.specs.Entries.{kinds, signature}
use Rattle.ab_norm.specs.ab_types.proofs.Entries.{extended_twice}
use Rattle.ab_syntax.specs.Commands.{clause_of}
use Rattle.ab_infer.proofs.Larger.{store_more}
use Rattle.ab_declare.specs.DefinitionCommands.{IsNamed, IsUnnamed}
use Rattle.ab_declare.specs.Halts.{Halts, halt_for}
use Rattle.ab_declare.proofs.Meant.{unnamed}
use Rattle.ab_declare.proofs.Turns.{all_behind, first_halts, at_end}
use Rattle.ab_declare.proofs.clauses.look_at_clauses.Goals as goal

pub returns-in_err-look_at_names-clause-named : goal.returns-in_err-look_at_names-clause-named
returns-in_err-look_at_names-clause-named c =
    let inv = c.loop-clause.invariant in
    let p = err_from_is_err_and c.from_residual.result c.from_residual.ensures.1 in
    let f = c.in_err-look_at_names.field-0.0 in
    let ks = kinds c.args.types.now in
    let sg = signature c.args.types.now in
    let k = clause_of c.clause-item.result in
    rw (p.1, p.2) (first_halts clause_of c.args.clauses.now c.loop-clause.clause-index c.clause-item.result c.loop-clause-test.true c.clause-item.is (IsNamed ks sg) (IsUnnamed ks sg) (halt_for f)
    inv.named (subst (λ z. Halts (IsUnnamed z sg k) (halt_for f)) inv.kinds (subst (λ z. Halts (IsUnnamed (kinds c.loop-clause.types) z k) (halt_for f)) (ap type_in inv.constants)
    (unnamed (kinds c.loop-clause.types) (signature c.loop-clause.types) k f c.in_err-look_at_names.ensures.names))))

pub loop-clause-preserved : goal.loop-clause-preserved
loop-clause-preserved c =
    let inv = c.loop-clause.invariant in
    let now = c.in_ok-look_at_names.ensures in
    let ks = kinds c.args.types.now in
    let sg = signature c.args.types.now in
    let k = clause_of c.clause-item.result in
    record {
      named =
          all_behind clause_of c.args.clauses.now c.loop-clause.clause-index c.clause-item.result c.loop-clause-test.true c.clause-item.is (IsNamed ks sg) inv.named
          (subst (λ z. IsNamed z sg k) inv.kinds (subst (λ z. IsNamed (kinds c.loop-clause.types) z k) (ap type_in inv.constants) now.names));
      kinds = now.kinds ∙ inv.kinds;
      constants = now.constants ∙ inv.constants;
      kept = extended_twice c.args.types.now c.loop-clause.types c.look_at_names.new.types inv.kept now.kept;
      table = now.table;
      typed = store_more c.loop-clause.types c.look_at_names.new.types now.kept c.args.store.now inv.typed;
    }

pub returns-clause-named : goal.returns-clause-named
returns-clause-named c =
    subst (All (IsNamed (kinds c.args.types.now) (signature c.args.types.now))) (at_end clause_of c.args.clauses.now c.loop-clause.clause-index (omega (arith, c.loop-clause-test.false))) c.loop-clause.invariant.named
