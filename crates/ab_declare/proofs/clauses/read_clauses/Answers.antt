use Rattle.std.specs.Prelude.{All}
use Rattle.std.proofs.Common.{◌∙◌, [], map, take, length, sym, subst, ap, arith}
use Rattle.std.proofs.lemmas.Result.{err_from_is_err_and}
use Rattle.ab_term.specs.Types.{prop}
use Rattle.ab_term.specs.Constants.{type_in}
use Rattle.ab_norm.specs.ab_types.specs.Entries.{kinds, signature}
use Rattle.ab_norm.specs.ab_types.specs.Ids.{type_of}
use Rattle.ab_norm.specs.ab_types.proofs.Entries.{extended_twice, type_still_held}
use Rattle.ab_norm.specs.ab_store.proofs.Growing.{extended_on}
use Rattle.ab_syntax.specs.Commands.{clause_of}
use Rattle.ab_infer.proofs.Larger.{type_more}
use Rattle.ab_declare.proofs.Answering.{adds_nothing}
use Rattle.ab_declare.specs.DefinitionCommands.{IsRead, IsUnread}
use Rattle.ab_declare.specs.Halts.{Halts, halt_for, AreReadAs}
use Rattle.ab_declare.proofs.Meant.{unread, more_read, one_read, are_read}
use Rattle.ab_declare.proofs.Turns.{behind_item, first_halts, at_end}
use Rattle.ab_declare.proofs.clauses.read_clauses.Goals as goal

pub loop-clause-init : goal.loop-clause-init
loop-clause-init g c = record {
  read = subst (AreReadAs c.formula_type.new.types c.args.store.now []) (sym c.new-terms.ensures.items) tt;
  kinds = c.in_ok-formula.ensures.kinds;
  constants = c.in_ok-formula.ensures.constants;
  kept = c.in_ok-formula.ensures.kept;
  table = c.in_ok-formula.ensures.table;
  adds = adds_nothing c.args.types.now c.formula_type.new.types c.args.store.now c.in_ok-formula.ensures.kept c.requires.store;
  formula_held = c.in_ok-formula.ensures.held;
  formula_is = c.in_ok-formula.ensures.is;
  steps = omega arith;
}

pub returns-in_err-formula-clause-adds : goal.returns-in_err-formula-clause-adds
returns-in_err-formula-clause-adds g c = adds_nothing c.args.types.now c.formula_type.new.types c.args.store.now c.in_err-formula.ensures.kept c.requires.store

pub returns-in_err-term-clause-adds : goal.returns-in_err-term-clause-adds
returns-in_err-term-clause-adds g c =
    let adds = c.in_err-term.ensures.adds in
    record { before = extended_on c.args.store.now c.loop-clause.store c.elaborate_clause.new.store c.loop-clause.invariant.adds.before adds.before; typed = adds.typed }

pub returns-in_err-put_last-clause-adds : goal.returns-in_err-put_last-clause-adds
returns-in_err-put_last-clause-adds g c =
    let adds = c.in_ok-term.ensures.adds in
    record { before = extended_on c.args.store.now c.loop-clause.store c.elaborate_clause.new.store c.loop-clause.invariant.adds.before adds.before; typed = adds.typed }

pub elaborate_clause-requires-clause-store : goal.elaborate_clause-requires-clause-store
elaborate_clause-requires-clause-store g c = c.loop-clause.invariant.adds.typed

pub returns-in_err-term-clause-read : goal.returns-in_err-term-clause-read
returns-in_err-term-clause-read g c =
    let inv = c.loop-clause.invariant in
    let p = err_from_is_err_and c.from_residual-in_err-term.result c.from_residual-in_err-term.ensures.1 in
    let f = c.in_err-term.field-0.0 in
    let t = c.args.types.now in
    let ks = kinds t in
    let sg = signature t in
    let i = c.loop-clause.clause-index in
    let k = clause_of c.clause-item.result in
    let now = are_read c.loop-clause.types inv.table c.loop-clause.store (map clause_of (take i c.args.clauses.now)) c.loop-clause.terms.items inv.read in
    let before : All (IsRead ks sg) (map clause_of (take i c.args.clauses.now)) =
    subst (λ z. All (IsRead ks z) (map clause_of (take i c.args.clauses.now))) (ap type_in inv.constants) (subst (λ z. All (IsRead z (signature c.loop-clause.types)) (map clause_of (take i c.args.clauses.now))) inv.kinds now) in
    rw (p.1, p.2) (first_halts clause_of c.args.clauses.now i c.clause-item.result c.loop-clause-test.true c.clause-item.is (IsRead ks sg) (IsUnread ks sg) (halt_for f) before
    (subst (λ z. Halts (IsUnread ks z k) (halt_for f)) (ap type_in inv.constants) (subst (λ z. Halts (IsUnread z (signature c.loop-clause.types) k) (halt_for f)) inv.kinds
    (unread (kinds c.loop-clause.types) (signature c.loop-clause.types) k (type_of c.loop-clause.types c.in_ok-formula.formula) f inv.formula_is c.in_err-term.ensures.answer))))

pub loop-clause-preserved : goal.loop-clause-preserved
loop-clause-preserved g c =
    let inv = c.loop-clause.invariant in
    let now = c.in_ok-term.ensures in
    let t = c.args.types.now in
    let u = c.loop-clause.types in
    let v = c.elaborate_clause.new.types in
    let s = c.loop-clause.store in
    let r = c.elaborate_clause.new.store in
    let formula = c.in_ok-formula.formula in
    let i = c.loop-clause.clause-index in
    let xs = c.args.clauses.now in
    let k = clause_of c.clause-item.result in
    let here = one_read u v r (length s.cells) k (type_of u formula) c.in_ok-term.term inv.formula_is now.kinds now.constants now.answer (now.proposed inv.formula_is) now.held in
    let more = more_read u v s r now.kept now.kinds now.constants inv.adds.typed now.adds.before (map clause_of (take i xs)) c.loop-clause.terms.items k c.in_ok-term.term inv.read here in
    record {
      read = rw (behind_item clause_of xs i c.clause-item.result c.loop-clause-test.true c.clause-item.is, c.in_ok-put_last.ensures) more;
      kinds = now.kinds ∙ inv.kinds;
      constants = now.constants ∙ inv.constants;
      kept = extended_twice t u v inv.kept now.kept;
      table = now.table;
      adds = record { before = extended_on c.args.store.now s r inv.adds.before now.adds.before; typed = now.adds.typed };
      formula_held = type_still_held u v now.kept formula inv.formula_held;
      formula_is = type_more u v now.kept formula inv.formula_held ∙ inv.formula_is;
      steps = omega (arith, inv.steps, c.elaborate_clause.ensures.steps);
    }

pub returns-clause-read : goal.returns-clause-read
returns-clause-read g c =
    subst (λ cs. AreReadAs c.loop-clause.types c.loop-clause.store cs c.loop-clause.terms.items) (at_end clause_of c.args.clauses.now c.loop-clause.clause-index (omega (arith, c.loop-clause-test.false))) c.loop-clause.invariant.read
