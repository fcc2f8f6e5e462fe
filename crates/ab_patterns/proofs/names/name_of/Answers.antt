use Rattle.std.proofs.Common.{codes, sym}
use Rattle.ab_norm.specs.ab_types.specs.Ids.{type_of}
use Rattle.ab_norm.specs.ab_store.specs.Trees.{tree_of, head_reading}
use Rattle.ab_patterns.proofs.Rules.{true_or_not}
use Rattle.ab_patterns.proofs.Named.{name_found, name_missed, name_resolved}
use Rattle.ab_patterns.proofs.names.name_of.Goals as goal

pub eta-requires-clause-typed : goal.eta-requires-clause-typed
eta-requires-clause-typed c = c.in-Some.ensures.typed c.args.types.now c.requires.store

pub returns-then-branch-clause-reads : goal.returns-then-branch-clause-reads
returns-then-branch-clause-reads c =
    let types = c.args.types.now in
    let old = c.args.store.now in
    let new = c.eta.new.store in
    name_found (type_of types c.args.ty) (tree_of types new c.args.term) (tree_of types new c.in_ok-form-in-Some.form) (head_reading types old c.in-Some.head) c.in_ok-form-in-Some.ensures.tree
    (tree_of types old c.args.term) (c.in_ok-form-in-Some.ensures.adds.before.trees types c.args.term c.requires.term) (c.in-Some.ensures.reads types) (c.if-is_name.ensures types old)
    ((true_or_not c.in_ok-are_same-in-Some.field-0 _ c.in_ok-are_same-in-Some.ensures).0 c.if-branch.true)

pub returns-else-branch-clause-reads : goal.returns-else-branch-clause-reads
returns-else-branch-clause-reads c =
    let types = c.args.types.now in
    let old = c.args.store.now in
    let new = c.eta.new.store in
    name_missed (type_of types c.args.ty) (tree_of types new c.args.term) (tree_of types new c.in_ok-form-in-Some.form) (head_reading types old c.in-Some.head) c.in_ok-form-in-Some.ensures.tree
    (tree_of types old c.args.term) (c.in_ok-form-in-Some.ensures.adds.before.trees types c.args.term c.requires.term) (c.in-Some.ensures.reads types) (c.if-is_name.ensures types old)
    ((true_or_not c.in_ok-are_same-in-Some.field-0 _ c.in_ok-are_same-in-Some.ensures).1 c.if-branch.false)

pub returns-then-branch-clause-typed : goal.returns-then-branch-clause-typed
returns-then-branch-clause-typed c = c.in-Some.ensures.typed c.args.types.now c.requires.store

pub are_same-requires-clause-resolved_b : goal.are_same-requires-clause-resolved_b
are_same-requires-clause-resolved_b c =
    let types = c.args.types.now in
    name_resolved types c.eta.new.store c.in_ok-form-in-Some.form (codes "x") (type_of types c.args.ty) (head_reading types c.args.store.now c.in-Some.head) (sym (c.if-is_name.ensures types c.args.store.now)) c.in_ok-form-in-Some.ensures.tree
