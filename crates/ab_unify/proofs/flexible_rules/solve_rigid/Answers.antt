use Rattle.std.proofs.Common.{◌≡◌, ℕ, List, map, Some, None, codes, sym, ◌∙◌, ap, subst}
use Rattle.ab_term.specs.Types.{kind}
use Rattle.ab_term.specs.Terms.{Variable, Head, Term, terms_of}
use Rattle.ab_term.specs.Typing.{TakeType}
use Rattle.ab_norm.specs.ab_types.specs.Entries.{signature}
use Rattle.ab_norm.specs.ab_types.specs.Ids.{type_of}
use Rattle.ab_norm.specs.ab_store.specs.Trees.{Holds, cell_in, cell_of, tree_of, head_reading}
use Rattle.ab_norm.specs.ab_store.specs.Reading.{cell_variable}
use Rattle.ab_norm.specs.ab_store.specs.Naming.{IsTerm}
use Rattle.ab_norm.proofs.Frame.{typed_on}
use Rattle.ab_patterns.specs.EquationReadings.{names_of}
use Rattle.ab_patterns.specs.ab_unifiers.specs.Patterns.{pattern}
use Rattle.ab_patterns.proofs.Bound.{same_cell}
use Rattle.ab_unify.specs.Problem.{cell_read, cells_read, variables_read}
use Rattle.ab_unify.proofs.Growth.{grows_on, grows_terms, grown_term}
use Rattle.ab_unify.proofs.Put.{same_variables}
use Rattle.ab_unify.proofs.Pruned.{same_heads}
use Rattle.ab_patterns.specs.ab_unifiers.specs.Replacements.{Cell, has_patterns, occurs, no_foreign}
use Rattle.ab_patterns.specs.ab_unifiers.specs.Unification.{replaced, pattern_of}
use Rattle.ab_unify.proofs.Ruled.{tells_none, tells_clash, tells_replaced, inverted, no_patterns, it_occurs, is_foreign, is_inverted}
use Rattle.ab_unify.proofs.flexible_rules.solve_rigid.Goals as goal

pub returns-in_err-given_names-clause-grows : goal.returns-in_err-given_names-clause-grows
returns-in_err-given_names-clause-grows g c =
    let types = c.args.types.now in
    let store = c.args.store.now in
    let F = c.args.flexible.now.items in
    let cell = c.args.cell in
    let term = c.args.term in
    let A = type_of types (cell_of store cell).ty in
    let ts = terms_of (map (tree_of types store) c.args.args.now) in
    let read = head_reading types store in
    let middle = c.given_names.new.store in
    let cells = cells_read types store in
    let ys = variables_read types store F in
    let y = cell_variable types store cell in
    let t = tree_of types store term in
    let held : Holds store term = c.requires.typed.3.0 in
    grows_terms types store middle c.in_err-given_names.ensures.adds

pub returns-in_err-has_patterns-in-Some-clause-grows : goal.returns-in_err-has_patterns-in-Some-clause-grows
returns-in_err-has_patterns-in-Some-clause-grows g c =
    let types = c.args.types.now in
    let store = c.args.store.now in
    let F = c.args.flexible.now.items in
    let cell = c.args.cell in
    let term = c.args.term in
    let A = type_of types (cell_of store cell).ty in
    let ts = terms_of (map (tree_of types store) c.args.args.now) in
    let read = head_reading types store in
    let middle = c.given_names.new.store in
    let cells = cells_read types store in
    let ys = variables_read types store F in
    let y = cell_variable types store cell in
    let t = tree_of types store term in
    let held : Holds store term = c.requires.typed.3.0 in
    grows_terms types store c.has_patterns.new.store (typed_on types store middle c.has_patterns.new.store c.in_ok-given_names.ensures.adds c.in_err-has_patterns-in-Some.ensures.adds)

pub returns-then-not-branch-clause-grows : goal.returns-then-not-branch-clause-grows
returns-then-not-branch-clause-grows g c =
    let types = c.args.types.now in
    let store = c.args.store.now in
    let F = c.args.flexible.now.items in
    let cell = c.args.cell in
    let term = c.args.term in
    let A = type_of types (cell_of store cell).ty in
    let ts = terms_of (map (tree_of types store) c.args.args.now) in
    let read = head_reading types store in
    let middle = c.given_names.new.store in
    let cells = cells_read types store in
    let ys = variables_read types store F in
    let y = cell_variable types store cell in
    let t = tree_of types store term in
    let held : Holds store term = c.requires.typed.3.0 in
    let adds1 = c.in_ok-given_names.ensures.adds in
    let names = c.in-Some.names.items in
    let hs = map read names in
    let found : Some hs ≡ pattern A ts = ap (names_of types store) (sym c.in-Some.is) ∙ c.in_ok-given_names.ensures.reads in
    let next = c.has_patterns.new.store in
    let adds = typed_on types store middle next adds1 c.in_ok-has_patterns-in-Some.ensures.adds in
    let rule = pattern_of (codes "x") cells ys y t in
    let patterns : c.in_ok-has_patterns-in-Some.field-0 ≡ has_patterns ys t =
    c.in_ok-has_patterns-in-Some.ensures.reads
    ∙ ap (λ l. has_patterns l (tree_of types middle term)) (same_variables types store middle adds1.cells F)
    ∙ ap (has_patterns ys) (adds1.before.trees types term held) in
    grows_terms types store next adds

pub returns-then-not-branch-clause-tells : goal.returns-then-not-branch-clause-tells
returns-then-not-branch-clause-tells g c =
    let types = c.args.types.now in
    let store = c.args.store.now in
    let F = c.args.flexible.now.items in
    let cell = c.args.cell in
    let term = c.args.term in
    let A = type_of types (cell_of store cell).ty in
    let ts = terms_of (map (tree_of types store) c.args.args.now) in
    let read = head_reading types store in
    let middle = c.given_names.new.store in
    let cells = cells_read types store in
    let ys = variables_read types store F in
    let y = cell_variable types store cell in
    let t = tree_of types store term in
    let held : Holds store term = c.requires.typed.3.0 in
    let adds1 = c.in_ok-given_names.ensures.adds in
    let names = c.in-Some.names.items in
    let hs = map read names in
    let found : Some hs ≡ pattern A ts = ap (names_of types store) (sym c.in-Some.is) ∙ c.in_ok-given_names.ensures.reads in
    let next = c.has_patterns.new.store in
    let adds = typed_on types store middle next adds1 c.in_ok-has_patterns-in-Some.ensures.adds in
    let rule = pattern_of (codes "x") cells ys y t in
    let patterns : c.in_ok-has_patterns-in-Some.field-0 ≡ has_patterns ys t =
    c.in_ok-has_patterns-in-Some.ensures.reads
    ∙ ap (λ l. has_patterns l (tree_of types middle term)) (same_variables types store middle adds1.cells F)
    ∙ ap (has_patterns ys) (adds1.before.trees types term held) in
    tells_none types store next F c.requires.store c.requires.free adds (rule (pattern A ts)) (sym (ap rule found) ∙ no_patterns cells ys y hs t (sym patterns ∙ c.if-not-branch.true))

pub returns-in_err-occurs-in-Some-clause-grows : goal.returns-in_err-occurs-in-Some-clause-grows
returns-in_err-occurs-in-Some-clause-grows g c =
    let types = c.args.types.now in
    let store = c.args.store.now in
    let F = c.args.flexible.now.items in
    let cell = c.args.cell in
    let term = c.args.term in
    let A = type_of types (cell_of store cell).ty in
    let ts = terms_of (map (tree_of types store) c.args.args.now) in
    let read = head_reading types store in
    let middle = c.given_names.new.store in
    let cells = cells_read types store in
    let ys = variables_read types store F in
    let y = cell_variable types store cell in
    let t = tree_of types store term in
    let held : Holds store term = c.requires.typed.3.0 in
    let adds1 = c.in_ok-given_names.ensures.adds in
    let names = c.in-Some.names.items in
    let hs = map read names in
    let found : Some hs ≡ pattern A ts = ap (names_of types store) (sym c.in-Some.is) ∙ c.in_ok-given_names.ensures.reads in
    let next = c.has_patterns.new.store in
    let adds = typed_on types store middle next adds1 c.in_ok-has_patterns-in-Some.ensures.adds in
    let rule = pattern_of (codes "x") cells ys y t in
    let patterns : c.in_ok-has_patterns-in-Some.field-0 ≡ has_patterns ys t =
    c.in_ok-has_patterns-in-Some.ensures.reads
    ∙ ap (λ l. has_patterns l (tree_of types middle term)) (same_variables types store middle adds1.cells F)
    ∙ ap (has_patterns ys) (adds1.before.trees types term held) in
    grows_terms types store next adds

pub returns-then-branch-clause-grows : goal.returns-then-branch-clause-grows
returns-then-branch-clause-grows g c =
    let types = c.args.types.now in
    let store = c.args.store.now in
    let F = c.args.flexible.now.items in
    let cell = c.args.cell in
    let term = c.args.term in
    let A = type_of types (cell_of store cell).ty in
    let ts = terms_of (map (tree_of types store) c.args.args.now) in
    let read = head_reading types store in
    let middle = c.given_names.new.store in
    let cells = cells_read types store in
    let ys = variables_read types store F in
    let y = cell_variable types store cell in
    let t = tree_of types store term in
    let held : Holds store term = c.requires.typed.3.0 in
    let adds1 = c.in_ok-given_names.ensures.adds in
    let names = c.in-Some.names.items in
    let hs = map read names in
    let found : Some hs ≡ pattern A ts = ap (names_of types store) (sym c.in-Some.is) ∙ c.in_ok-given_names.ensures.reads in
    let next = c.has_patterns.new.store in
    let adds = typed_on types store middle next adds1 c.in_ok-has_patterns-in-Some.ensures.adds in
    let rule = pattern_of (codes "x") cells ys y t in
    let patterns : c.in_ok-has_patterns-in-Some.field-0 ≡ has_patterns ys t =
    c.in_ok-has_patterns-in-Some.ensures.reads
    ∙ ap (λ l. has_patterns l (tree_of types middle term)) (same_variables types store middle adds1.cells F)
    ∙ ap (has_patterns ys) (adds1.before.trees types term held) in
    grows_terms types store next adds

pub returns-then-branch-clause-tells : goal.returns-then-branch-clause-tells
returns-then-branch-clause-tells g c =
    let types = c.args.types.now in
    let store = c.args.store.now in
    let F = c.args.flexible.now.items in
    let cell = c.args.cell in
    let term = c.args.term in
    let A = type_of types (cell_of store cell).ty in
    let ts = terms_of (map (tree_of types store) c.args.args.now) in
    let read = head_reading types store in
    let middle = c.given_names.new.store in
    let cells = cells_read types store in
    let ys = variables_read types store F in
    let y = cell_variable types store cell in
    let t = tree_of types store term in
    let held : Holds store term = c.requires.typed.3.0 in
    let adds1 = c.in_ok-given_names.ensures.adds in
    let names = c.in-Some.names.items in
    let hs = map read names in
    let found : Some hs ≡ pattern A ts = ap (names_of types store) (sym c.in-Some.is) ∙ c.in_ok-given_names.ensures.reads in
    let next = c.has_patterns.new.store in
    let adds = typed_on types store middle next adds1 c.in_ok-has_patterns-in-Some.ensures.adds in
    let rule = pattern_of (codes "x") cells ys y t in
    let patterns : c.in_ok-has_patterns-in-Some.field-0 ≡ has_patterns ys t =
    c.in_ok-has_patterns-in-Some.ensures.reads
    ∙ ap (λ l. has_patterns l (tree_of types middle term)) (same_variables types store middle adds1.cells F)
    ∙ ap (has_patterns ys) (adds1.before.trees types term held) in
    let there : c.in_ok-occurs-in-Some.field-0 ≡ occurs y t =
    c.in_ok-occurs-in-Some.ensures types
    ∙ ap (λ v. occurs v (tree_of types next term)) (same_cell types store next cell adds.cells)
    ∙ ap (occurs y) (adds.before.trees types term held) in
    tells_clash types store next F c.requires.store c.requires.free adds (rule (pattern A ts)) (sym (ap rule found) ∙ it_occurs cells ys y hs t (sym patterns ∙ c.if-not-branch.false) (sym there ∙ c.if-branch.true))

pub returns-in_err-has_no_foreign-in-Some-clause-grows : goal.returns-in_err-has_no_foreign-in-Some-clause-grows
returns-in_err-has_no_foreign-in-Some-clause-grows g c =
    let types = c.args.types.now in
    let store = c.args.store.now in
    let F = c.args.flexible.now.items in
    let cell = c.args.cell in
    let term = c.args.term in
    let A = type_of types (cell_of store cell).ty in
    let ts = terms_of (map (tree_of types store) c.args.args.now) in
    let read = head_reading types store in
    let middle = c.given_names.new.store in
    let cells = cells_read types store in
    let ys = variables_read types store F in
    let y = cell_variable types store cell in
    let t = tree_of types store term in
    let held : Holds store term = c.requires.typed.3.0 in
    let adds1 = c.in_ok-given_names.ensures.adds in
    let names = c.in-Some.names.items in
    let hs = map read names in
    let found : Some hs ≡ pattern A ts = ap (names_of types store) (sym c.in-Some.is) ∙ c.in_ok-given_names.ensures.reads in
    let next = c.has_patterns.new.store in
    let adds = typed_on types store middle next adds1 c.in_ok-has_patterns-in-Some.ensures.adds in
    let rule = pattern_of (codes "x") cells ys y t in
    let patterns : c.in_ok-has_patterns-in-Some.field-0 ≡ has_patterns ys t =
    c.in_ok-has_patterns-in-Some.ensures.reads
    ∙ ap (λ l. has_patterns l (tree_of types middle term)) (same_variables types store middle adds1.cells F)
    ∙ ap (has_patterns ys) (adds1.before.trees types term held) in
    grows_terms types store next adds

pub returns-then-not-branch-2-clause-grows : goal.returns-then-not-branch-2-clause-grows
returns-then-not-branch-2-clause-grows g c =
    let types = c.args.types.now in
    let store = c.args.store.now in
    let F = c.args.flexible.now.items in
    let cell = c.args.cell in
    let term = c.args.term in
    let A = type_of types (cell_of store cell).ty in
    let ts = terms_of (map (tree_of types store) c.args.args.now) in
    let read = head_reading types store in
    let middle = c.given_names.new.store in
    let cells = cells_read types store in
    let ys = variables_read types store F in
    let y = cell_variable types store cell in
    let t = tree_of types store term in
    let held : Holds store term = c.requires.typed.3.0 in
    let adds1 = c.in_ok-given_names.ensures.adds in
    let names = c.in-Some.names.items in
    let hs = map read names in
    let found : Some hs ≡ pattern A ts = ap (names_of types store) (sym c.in-Some.is) ∙ c.in_ok-given_names.ensures.reads in
    let next = c.has_patterns.new.store in
    let adds = typed_on types store middle next adds1 c.in_ok-has_patterns-in-Some.ensures.adds in
    let rule = pattern_of (codes "x") cells ys y t in
    let patterns : c.in_ok-has_patterns-in-Some.field-0 ≡ has_patterns ys t =
    c.in_ok-has_patterns-in-Some.ensures.reads
    ∙ ap (λ l. has_patterns l (tree_of types middle term)) (same_variables types store middle adds1.cells F)
    ∙ ap (has_patterns ys) (adds1.before.trees types term held) in
    grows_terms types store next adds

pub returns-then-not-branch-2-clause-tells : goal.returns-then-not-branch-2-clause-tells
returns-then-not-branch-2-clause-tells g c =
    let types = c.args.types.now in
    let store = c.args.store.now in
    let F = c.args.flexible.now.items in
    let cell = c.args.cell in
    let term = c.args.term in
    let A = type_of types (cell_of store cell).ty in
    let ts = terms_of (map (tree_of types store) c.args.args.now) in
    let read = head_reading types store in
    let middle = c.given_names.new.store in
    let cells = cells_read types store in
    let ys = variables_read types store F in
    let y = cell_variable types store cell in
    let t = tree_of types store term in
    let held : Holds store term = c.requires.typed.3.0 in
    let adds1 = c.in_ok-given_names.ensures.adds in
    let names = c.in-Some.names.items in
    let hs = map read names in
    let found : Some hs ≡ pattern A ts = ap (names_of types store) (sym c.in-Some.is) ∙ c.in_ok-given_names.ensures.reads in
    let next = c.has_patterns.new.store in
    let adds = typed_on types store middle next adds1 c.in_ok-has_patterns-in-Some.ensures.adds in
    let rule = pattern_of (codes "x") cells ys y t in
    let patterns : c.in_ok-has_patterns-in-Some.field-0 ≡ has_patterns ys t =
    c.in_ok-has_patterns-in-Some.ensures.reads
    ∙ ap (λ l. has_patterns l (tree_of types middle term)) (same_variables types store middle adds1.cells F)
    ∙ ap (has_patterns ys) (adds1.before.trees types term held) in
    let there : c.in_ok-occurs-in-Some.field-0 ≡ occurs y t =
    c.in_ok-occurs-in-Some.ensures types
    ∙ ap (λ v. occurs v (tree_of types next term)) (same_cell types store next cell adds.cells)
    ∙ ap (occurs y) (adds.before.trees types term held) in
    let own : c.in_ok-has_no_foreign-in-Some.field-0 ≡ no_foreign ys hs t =
    c.in_ok-has_no_foreign-in-Some.ensures
    ∙ ap (λ l. no_foreign l (map (head_reading types next) c.deref.result.now) (tree_of types next term)) (same_variables types store next adds.cells F)
    ∙ ap (λ l. no_foreign ys l (tree_of types next term)) (ap (map (head_reading types next)) c.deref.ensures.value ∙ same_heads types store next adds.cells names)
    ∙ ap (no_foreign ys hs) (adds.before.trees types term held) in
    tells_clash types store next F c.requires.store c.requires.free adds (rule (pattern A ts)) (sym (ap rule found) ∙ is_foreign cells ys y hs t (sym patterns ∙ c.if-not-branch.false) (sym there ∙ c.if-branch.false) (sym own ∙ c.if-not-branch-2.true))

pub invert-requires-clause-fits : goal.invert-requires-clause-fits
invert-requires-clause-fits g c =
    let types = c.args.types.now in
    let store = c.args.store.now in
    let F = c.args.flexible.now.items in
    let cell = c.args.cell in
    let term = c.args.term in
    let A = type_of types (cell_of store cell).ty in
    let ts = terms_of (map (tree_of types store) c.args.args.now) in
    let read = head_reading types store in
    let middle = c.given_names.new.store in
    let cells = cells_read types store in
    let ys = variables_read types store F in
    let y = cell_variable types store cell in
    let t = tree_of types store term in
    let held : Holds store term = c.requires.typed.3.0 in
    let adds1 = c.in_ok-given_names.ensures.adds in
    let names = c.in-Some.names.items in
    let hs = map read names in
    let found : Some hs ≡ pattern A ts = ap (names_of types store) (sym c.in-Some.is) ∙ c.in_ok-given_names.ensures.reads in
    let next = c.has_patterns.new.store in
    let adds = typed_on types store middle next adds1 c.in_ok-has_patterns-in-Some.ensures.adds in
    let rule = pattern_of (codes "x") cells ys y t in
    let patterns : c.in_ok-has_patterns-in-Some.field-0 ≡ has_patterns ys t =
    c.in_ok-has_patterns-in-Some.ensures.reads
    ∙ ap (λ l. has_patterns l (tree_of types middle term)) (same_variables types store middle adds1.cells F)
    ∙ ap (has_patterns ys) (adds1.before.trees types term held) in
    let typed = c.requires.typed in
    let is : IsTerm types next typed.0 term (kind typed.1) = grown_term types types store next (grows_terms types store next adds) typed.0 term (kind typed.1) typed.3 in
    let takes : TakeType (signature types) typed.0 ts (type_of types (cell_of next cell).ty) (kind typed.1) = subst (λ cs. TakeType (signature types) typed.0 ts (type_of types (cell_in cs cell).ty) (kind typed.1)) (sym adds.cells) typed.2 in
    let again : pattern (type_of types (cell_of next cell).ty) ts ≡ Some (map (head_reading types next) c.deref-in-Some.result.now) =
    ap (λ cs. pattern (type_of types (cell_in cs cell).ty) ts) adds.cells ∙ sym found ∙ ap Some (sym (ap (map (head_reading types next)) c.deref-in-Some.ensures.value ∙ same_heads types store next adds.cells names)) in
    (typed.0, typed.1, ts, again, takes, is)

pub returns-in_err-invert-in-Some-clause-grows : goal.returns-in_err-invert-in-Some-clause-grows
returns-in_err-invert-in-Some-clause-grows g c =
    let types = c.args.types.now in
    let store = c.args.store.now in
    let F = c.args.flexible.now.items in
    let cell = c.args.cell in
    let term = c.args.term in
    let A = type_of types (cell_of store cell).ty in
    let ts = terms_of (map (tree_of types store) c.args.args.now) in
    let read = head_reading types store in
    let middle = c.given_names.new.store in
    let cells = cells_read types store in
    let ys = variables_read types store F in
    let y = cell_variable types store cell in
    let t = tree_of types store term in
    let held : Holds store term = c.requires.typed.3.0 in
    let adds1 = c.in_ok-given_names.ensures.adds in
    let names = c.in-Some.names.items in
    let hs = map read names in
    let found : Some hs ≡ pattern A ts = ap (names_of types store) (sym c.in-Some.is) ∙ c.in_ok-given_names.ensures.reads in
    let next = c.has_patterns.new.store in
    let adds = typed_on types store middle next adds1 c.in_ok-has_patterns-in-Some.ensures.adds in
    let rule = pattern_of (codes "x") cells ys y t in
    let patterns : c.in_ok-has_patterns-in-Some.field-0 ≡ has_patterns ys t =
    c.in_ok-has_patterns-in-Some.ensures.reads
    ∙ ap (λ l. has_patterns l (tree_of types middle term)) (same_variables types store middle adds1.cells F)
    ∙ ap (has_patterns ys) (adds1.before.trees types term held) in
    grows_on types types c.invert.new.types store next c.invert.new.store (grows_terms types store next adds) c.in_err-invert-in-Some.ensures.grows

pub returns-in-None-clause-grows : goal.returns-in-None-clause-grows
returns-in-None-clause-grows g c =
    let types = c.args.types.now in
    let store = c.args.store.now in
    let F = c.args.flexible.now.items in
    let cell = c.args.cell in
    let term = c.args.term in
    let A = type_of types (cell_of store cell).ty in
    let ts = terms_of (map (tree_of types store) c.args.args.now) in
    let read = head_reading types store in
    let middle = c.given_names.new.store in
    let cells = cells_read types store in
    let ys = variables_read types store F in
    let y = cell_variable types store cell in
    let t = tree_of types store term in
    let held : Holds store term = c.requires.typed.3.0 in
    grows_terms types store middle c.in_ok-given_names.ensures.adds

pub returns-in-None-clause-tells : goal.returns-in-None-clause-tells
returns-in-None-clause-tells g c =
    let types = c.args.types.now in
    let store = c.args.store.now in
    let F = c.args.flexible.now.items in
    let cell = c.args.cell in
    let term = c.args.term in
    let A = type_of types (cell_of store cell).ty in
    let ts = terms_of (map (tree_of types store) c.args.args.now) in
    let read = head_reading types store in
    let middle = c.given_names.new.store in
    let cells = cells_read types store in
    let ys = variables_read types store F in
    let y = cell_variable types store cell in
    let t = tree_of types store term in
    let held : Holds store term = c.requires.typed.3.0 in
    let none : None ≡ pattern A ts = ap (names_of types store) (sym c.in-None.is) ∙ c.in_ok-given_names.ensures.reads in
    tells_none types store middle F c.requires.store c.requires.free c.in_ok-given_names.ensures.adds (pattern_of (codes "x") cells ys y t (pattern A ts)) (sym (ap (pattern_of (codes "x") cells ys y t) none))

pub returns-in_ok-invert-in-Some-clause-grows : goal.returns-in_ok-invert-in-Some-clause-grows
returns-in_ok-invert-in-Some-clause-grows g c =
    let types = c.args.types.now in
    let store = c.args.store.now in
    let F = c.args.flexible.now.items in
    let cell = c.args.cell in
    let term = c.args.term in
    let A = type_of types (cell_of store cell).ty in
    let ts = terms_of (map (tree_of types store) c.args.args.now) in
    let read = head_reading types store in
    let middle = c.given_names.new.store in
    let cells = cells_read types store in
    let ys = variables_read types store F in
    let y = cell_variable types store cell in
    let t = tree_of types store term in
    let held : Holds store term = c.requires.typed.3.0 in
    let adds1 = c.in_ok-given_names.ensures.adds in
    let names = c.in-Some.names.items in
    let hs = map read names in
    let found : Some hs ≡ pattern A ts = ap (names_of types store) (sym c.in-Some.is) ∙ c.in_ok-given_names.ensures.reads in
    let next = c.has_patterns.new.store in
    let adds = typed_on types store middle next adds1 c.in_ok-has_patterns-in-Some.ensures.adds in
    let rule = pattern_of (codes "x") cells ys y t in
    let patterns : c.in_ok-has_patterns-in-Some.field-0 ≡ has_patterns ys t =
    c.in_ok-has_patterns-in-Some.ensures.reads
    ∙ ap (λ l. has_patterns l (tree_of types middle term)) (same_variables types store middle adds1.cells F)
    ∙ ap (has_patterns ys) (adds1.before.trees types term held) in
    grows_on types types c.invert.new.types store next c.invert.new.store (grows_terms types store next adds) c.in_ok-invert-in-Some.ensures.grows

pub returns-in_ok-invert-in-Some-clause-tells : goal.returns-in_ok-invert-in-Some-clause-tells
returns-in_ok-invert-in-Some-clause-tells g c =
    let types = c.args.types.now in
    let store = c.args.store.now in
    let F = c.args.flexible.now.items in
    let cell = c.args.cell in
    let term = c.args.term in
    let A = type_of types (cell_of store cell).ty in
    let ts = terms_of (map (tree_of types store) c.args.args.now) in
    let read = head_reading types store in
    let middle = c.given_names.new.store in
    let cells = cells_read types store in
    let ys = variables_read types store F in
    let y = cell_variable types store cell in
    let t = tree_of types store term in
    let held : Holds store term = c.requires.typed.3.0 in
    let adds1 = c.in_ok-given_names.ensures.adds in
    let names = c.in-Some.names.items in
    let hs = map read names in
    let found : Some hs ≡ pattern A ts = ap (names_of types store) (sym c.in-Some.is) ∙ c.in_ok-given_names.ensures.reads in
    let next = c.has_patterns.new.store in
    let adds = typed_on types store middle next adds1 c.in_ok-has_patterns-in-Some.ensures.adds in
    let rule = pattern_of (codes "x") cells ys y t in
    let patterns : c.in_ok-has_patterns-in-Some.field-0 ≡ has_patterns ys t =
    c.in_ok-has_patterns-in-Some.ensures.reads
    ∙ ap (λ l. has_patterns l (tree_of types middle term)) (same_variables types store middle adds1.cells F)
    ∙ ap (has_patterns ys) (adds1.before.trees types term held) in
    let there : c.in_ok-occurs-in-Some.field-0 ≡ occurs y t =
    c.in_ok-occurs-in-Some.ensures types
    ∙ ap (λ v. occurs v (tree_of types next term)) (same_cell types store next cell adds.cells)
    ∙ ap (occurs y) (adds.before.trees types term held) in
    let own : c.in_ok-has_no_foreign-in-Some.field-0 ≡ no_foreign ys hs t =
    c.in_ok-has_no_foreign-in-Some.ensures
    ∙ ap (λ l. no_foreign l (map (head_reading types next) c.deref.result.now) (tree_of types next term)) (same_variables types store next adds.cells F)
    ∙ ap (λ l. no_foreign ys l (tree_of types next term)) (ap (map (head_reading types next)) c.deref.ensures.value ∙ same_heads types store next adds.cells names)
    ∙ ap (no_foreign ys hs) (adds.before.trees types term held) in
    let ms = map (head_reading types next) c.deref-in-Some.result.now in
    let made = λ (l : List (Cell (List ℕ))) (vs : List (Variable ℕ)) (v : Variable ℕ) (ns : List (Head ℕ)) (u : Term ℕ (List ℕ)). Some (replaced (inverted l vs v ns u)) in
    tells_replaced types store next F c.requires.store c.requires.free adds (rule (pattern A ts)) c.invert.new.types c.invert.new.store c.invert.new.flexible.items
    (inverted (cells_read types next) (variables_read types next F) (cell_variable types next cell) ms (tree_of types next term)) c.in_ok-invert-in-Some.ensures.changed
    (sym (ap rule found)
    ∙ is_inverted cells ys y hs t (sym patterns ∙ c.if-not-branch.false) (sym there ∙ c.if-branch.false) (sym own ∙ c.if-not-branch-2.false)
    ∙ sym (ap (λ l. made l (variables_read types next F) (cell_variable types next cell) ms (tree_of types next term)) (ap (map (cell_read types)) adds.cells)
    ∙ ap (λ l. made cells l (cell_variable types next cell) ms (tree_of types next term)) (same_variables types store next adds.cells F)
    ∙ ap (λ v. made cells ys v ms (tree_of types next term)) (same_cell types store next cell adds.cells)
    ∙ ap (λ l. made cells ys y l (tree_of types next term)) (ap (map (head_reading types next)) c.deref-in-Some.ensures.value ∙ same_heads types store next adds.cells names)
    ∙ ap (made cells ys y hs) (adds.before.trees types term held)))
