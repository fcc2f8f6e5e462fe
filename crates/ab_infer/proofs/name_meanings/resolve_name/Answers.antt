use Rattle.std.proofs.Common.{sym, subst}
use Rattle.std.specs.Prelude.{option_map}
use Rattle.ab_meaning.specs.ResolvedNames.{bound}
use Rattle.ab_meaning.specs.Scopes.{index_of}
use Rattle.ab_meaning.specs.Scopes as scopes
use Rattle.ab_infer.specs.NameAnswers.{Finds}
use Rattle.ab_infer.specs.NameScopes.{names_in, nodes_in, entries_in, nominals_in, scope_of, HoldsNominals}
use Rattle.ab_infer.proofs.Lookups.{none_here, by_bound, by_truth, by_clause, by_variable, by_constant, by_nominal}
use Rattle.ab_infer.proofs.name_meanings.resolve_name.Goals as goal

pub returns-in-Some : goal.returns-in-Some
returns-in-Some c = λ p.
    let T = c.args.types.now in
    let S = c.args.store.now in
    let N = nodes_in c.args.bound.now in
    let x = c.args.name.now in
    let s = scope_of T S c.args.scope.now in
    let bs = names_in c.args.bound.now in
    by_bound T S N x p s bs c.bound_at.result c.in-Some.found c.in-Some.is (c.bound_at.ensures T S p)

pub returns-in-Some-truth_named : goal.returns-in-Some-truth_named
returns-in-Some-truth_named c = λ p.
    let T = c.args.types.now in
    let S = c.args.store.now in
    let N = nodes_in c.args.bound.now in
    let x = c.args.name.now in
    let s = scope_of T S c.args.scope.now in
    let bs = names_in c.args.bound.now in
    let no_bound = none_here T S N x p (option_map bound (index_of bs x)) c.bound_at.result c.in_default.is (c.bound_at.ensures T S p) in
    by_truth T S N x p s bs no_bound c.truth_named.result c.in-Some-truth_named.found c.in-Some-truth_named.is (c.truth_named.ensures T S N p c.requires.prop_held c.requires.prop)

pub returns-in-Some-clause_variable : goal.returns-in-Some-clause_variable
returns-in-Some-clause_variable c = λ p.
    let T = c.args.types.now in
    let S = c.args.store.now in
    let N = nodes_in c.args.bound.now in
    let x = c.args.name.now in
    let s = scope_of T S c.args.scope.now in
    let bs = names_in c.args.bound.now in
    let no_bound = none_here T S N x p (option_map bound (index_of bs x)) c.bound_at.result c.in_default.is (c.bound_at.ensures T S p) in
    let no_truth = none_here T S N x p (scopes.truth_named x) c.truth_named.result c.in_default-truth_named.is (c.truth_named.ensures T S N p c.requires.prop_held c.requires.prop) in
    by_clause T S N x p s bs no_bound no_truth c.clause_variable.result c.in-Some-clause_variable.found c.in-Some-clause_variable.is (c.clause_variable.ensures T S N p)

pub returns-in-Some-variable_named : goal.returns-in-Some-variable_named
returns-in-Some-variable_named c = λ p.
    let T = c.args.types.now in
    let S = c.args.store.now in
    let N = nodes_in c.args.bound.now in
    let x = c.args.name.now in
    let s = scope_of T S c.args.scope.now in
    let bs = names_in c.args.bound.now in
    let no_bound = none_here T S N x p (option_map bound (index_of bs x)) c.bound_at.result c.in_default.is (c.bound_at.ensures T S p) in
    let no_truth = none_here T S N x p (scopes.truth_named x) c.truth_named.result c.in_default-truth_named.is (c.truth_named.ensures T S N p c.requires.prop_held c.requires.prop) in
    let no_clause = none_here T S N x p (scopes.clause_variable s.place x p) c.clause_variable.result c.in_default-clause_variable.is (c.clause_variable.ensures T S N p) in
    by_variable T S N x p s bs no_bound no_truth no_clause c.variable_named.result c.in-Some-variable_named.found c.in-Some-variable_named.is (subst (λ vs. Finds T S N x p (scopes.variable_named (entries_in T S vs) x) c.variable_named.result) c.deref.ensures.value (c.variable_named.ensures N p))

pub returns-in-Some-constant_named : goal.returns-in-Some-constant_named
returns-in-Some-constant_named c = λ p.
    let T = c.args.types.now in
    let S = c.args.store.now in
    let N = nodes_in c.args.bound.now in
    let x = c.args.name.now in
    let s = scope_of T S c.args.scope.now in
    let bs = names_in c.args.bound.now in
    let no_bound = none_here T S N x p (option_map bound (index_of bs x)) c.bound_at.result c.in_default.is (c.bound_at.ensures T S p) in
    let no_truth = none_here T S N x p (scopes.truth_named x) c.truth_named.result c.in_default-truth_named.is (c.truth_named.ensures T S N p c.requires.prop_held c.requires.prop) in
    let no_clause = none_here T S N x p (scopes.clause_variable s.place x p) c.clause_variable.result c.in_default-clause_variable.is (c.clause_variable.ensures T S N p) in
    let no_variable = none_here T S N x p (scopes.variable_named s.variables x) c.variable_named.result c.in_default-variable_named.is (subst (λ vs. Finds T S N x p (scopes.variable_named (entries_in T S vs) x) c.variable_named.result) c.deref.ensures.value (c.variable_named.ensures N p)) in
    by_constant T S N x p s bs no_bound no_truth no_clause no_variable c.constant_named.result c.in-Some-constant_named.found c.in-Some-constant_named.is (c.constant_named.ensures S N p)

pub returns : goal.returns
returns c = λ p.
    let T = c.args.types.now in
    let S = c.args.store.now in
    let N = nodes_in c.args.bound.now in
    let x = c.args.name.now in
    let s = scope_of T S c.args.scope.now in
    let bs = names_in c.args.bound.now in
    let no_bound = none_here T S N x p (option_map bound (index_of bs x)) c.bound_at.result c.in_default.is (c.bound_at.ensures T S p) in
    let no_truth = none_here T S N x p (scopes.truth_named x) c.truth_named.result c.in_default-truth_named.is (c.truth_named.ensures T S N p c.requires.prop_held c.requires.prop) in
    let no_clause = none_here T S N x p (scopes.clause_variable s.place x p) c.clause_variable.result c.in_default-clause_variable.is (c.clause_variable.ensures T S N p) in
    let no_variable = none_here T S N x p (scopes.variable_named s.variables x) c.variable_named.result c.in_default-variable_named.is (subst (λ vs. Finds T S N x p (scopes.variable_named (entries_in T S vs) x) c.variable_named.result) c.deref.ensures.value (c.variable_named.ensures N p)) in
    let no_constant = none_here T S N x p (scopes.constant_at x (s.constants x)) c.constant_named.result c.in_default-constant_named.is (c.constant_named.ensures S N p) in
    let held = subst (HoldsNominals T) (sym c.deref-2.ensures.value) c.requires.scope.nominals in
    by_nominal T S N x p s bs no_bound no_truth no_clause no_variable no_constant c.nominal_named.result
    (subst (λ ns. Finds T S N x p (scopes.nominal_named s.place (nominals_in T ns) x p) c.nominal_named.result) c.deref-2.ensures.value (c.nominal_named.ensures T S N p held))
