use Rattle.std.proofs.Common.{◌≡◌, map, length, Some, None, IfSome, codes, refl, sym, ◌∙◌, ap, subst}
use Rattle.std.specs.Prelude.{All}
use Rattle.ab_term.specs.Types.{kind}
use Rattle.ab_term.specs.Terms.{terms_of}
use Rattle.ab_term.specs.Abstraction.{Named}
use Rattle.ab_norm.specs.ab_types.specs.Entries.{signature}
use Rattle.ab_norm.specs.ab_types.specs.Ids.{type_of}
use Rattle.ab_norm.specs.ab_store.specs.Trees.{cell_of, tree_of, head_reading}
use Rattle.ab_norm.specs.ab_store.specs.Reading.{cell_variable}
use Rattle.ab_norm.specs.ab_store.specs.Naming.{HeadIsTyped}
use Rattle.ab_norm.proofs.Frame.{typed_on}
use Rattle.ab_patterns.specs.EquationReadings.{names_of}
use Rattle.ab_patterns.specs.ab_unifiers.specs.Patterns.{pattern}
use Rattle.ab_patterns.proofs.Bound.{same_cell}
use Rattle.ab_unify.specs.Problem.{cells_read, variables_read}
use Rattle.ab_unify.specs.StoreChanges.{AreNames}
use Rattle.ab_unify.proofs.Growth.{grows_on, grows_terms}
use Rattle.ab_unify.proofs.Put.{starts}
use Rattle.ab_unify.proofs.Pruned.{typed_names, same_heads, free_on}
use Rattle.std.proofs.lemmas.List.{length-map}
use Rattle.ab_term.proofs.Abstracting.{named_length}
use Rattle.ab_patterns.specs.ab_unifiers.specs.Replacements.{narrowed}
use Rattle.ab_patterns.specs.ab_unifiers.specs.Unification.{agreeing, replaced, same_variable_at}
use Rattle.ab_patterns.specs.ab_unifiers.proofs.Ruling.{agreeing_long}
use Rattle.ab_unify.specs.Outcome.{still}
use Rattle.ab_unify.proofs.Ruled.{tells_none, tells_replaced, given_later, same_still, found_named}
use Rattle.ab_unify.proofs.flexible_rules.solve_one.Goals as goal

pub returns-in-None-clause-tells : goal.returns-in-None-clause-tells
returns-in-None-clause-tells g c =
    let types = c.args.types.now in
    let store = c.args.store.now in
    let F = c.args.flexible.now.items in
    let cell = c.args.cell in
    let A = type_of types (cell_of store cell).ty in
    let ts = terms_of (map (tree_of types store) c.args.args.now) in
    let us = terms_of (map (tree_of types store) c.args.more.now) in
    let read = head_reading types store in
    let middle = c.given_names.new.store in
    let adds1 = c.in_ok-given_names.ensures.adds in
    let rule = same_variable_at (codes "x") (cells_read types store) (variables_read types store F) (cell_variable types store cell) in
    let none : None ≡ pattern A ts = ap (names_of types store) (sym c.in-None.is) ∙ c.in_ok-given_names.ensures.reads in
    tells_none types store middle F c.requires.store c.requires.free adds1 (rule (pattern A ts) (pattern A us)) (sym (ap (λ o. rule o (pattern A us)) none))

pub returns-in-None-2-clause-tells : goal.returns-in-None-2-clause-tells
returns-in-None-2-clause-tells g c =
    let types = c.args.types.now in
    let store = c.args.store.now in
    let F = c.args.flexible.now.items in
    let cell = c.args.cell in
    let A = type_of types (cell_of store cell).ty in
    let ts = terms_of (map (tree_of types store) c.args.args.now) in
    let us = terms_of (map (tree_of types store) c.args.more.now) in
    let read = head_reading types store in
    let middle = c.given_names.new.store in
    let adds1 = c.in_ok-given_names.ensures.adds in
    let rule = same_variable_at (codes "x") (cells_read types store) (variables_read types store F) (cell_variable types store cell) in
    let names = c.in-Some.names.items in
    let hs = map read names in
    let found1 : Some hs ≡ pattern A ts = ap (names_of types store) (sym c.in-Some.is) ∙ c.in_ok-given_names.ensures.reads in
    let next = c.given_names-in-Some.new.store in
    let adds2 = c.in_ok-given_names-in-Some.ensures.adds in
    let adds = typed_on types store middle next adds1 adds2 in
    let reads2 = given_later types store middle adds1 cell c.args.more.now c.requires.more_held c.in_ok-given_names-in-Some.field-0 c.in_ok-given_names-in-Some.ensures.reads in
    let none : None ≡ pattern A us = ap (names_of types store) (sym c.in-None-2.is) ∙ reads2 in
    tells_none types store next F c.requires.store c.requires.free adds (rule (pattern A ts) (pattern A us)) (sym (ap (λ o. rule (Some hs) o) none ∙ ap (λ o. rule o (pattern A us)) found1))

pub narrow-requires-clause-fits : goal.narrow-requires-clause-fits
narrow-requires-clause-fits g c =
    let types = c.args.types.now in
    let store = c.args.store.now in
    let F = c.args.flexible.now.items in
    let cell = c.args.cell in
    let A = type_of types (cell_of store cell).ty in
    let ts = terms_of (map (tree_of types store) c.args.args.now) in
    let us = terms_of (map (tree_of types store) c.args.more.now) in
    let read = head_reading types store in
    let middle = c.given_names.new.store in
    let adds1 = c.in_ok-given_names.ensures.adds in
    let rule = same_variable_at (codes "x") (cells_read types store) (variables_read types store F) (cell_variable types store cell) in
    let names = c.in-Some.names.items in
    let hs = map read names in
    let found1 : Some hs ≡ pattern A ts = ap (names_of types store) (sym c.in-Some.is) ∙ c.in_ok-given_names.ensures.reads in
    let next = c.given_names-in-Some.new.store in
    let adds2 = c.in_ok-given_names-in-Some.ensures.adds in
    let adds = typed_on types store middle next adds1 adds2 in
    let reads2 = given_later types store middle adds1 cell c.args.more.now c.requires.more_held c.in_ok-given_names-in-Some.field-0 c.in_ok-given_names-in-Some.ensures.reads in
    let others = c.in-Some-2.others.items in
    let gs = map read others in
    let found2 : Some gs ≡ pattern A us = ap (names_of types store) (sym c.in-Some-2.is) ∙ reads2 in
    let are1 : AreNames types names = subst (λ o. IfSome o (λ l. AreNames types l.items)) c.in-Some.is c.in_ok-given_names.ensures.names in
    let are2 : AreNames types others = subst (λ o. IfSome o (λ l. AreNames types l.items)) c.in-Some-2.is c.in_ok-given_names-in-Some.ensures.names in
    let typed = c.requires.typed in
    (typed.0, typed.1, subst (λ l. Named (signature types) typed.0 (map (head_reading types next) l) (type_of types (cell_of next cell).ty) (kind typed.1)) (sym c.deref-in-Some-2-2.ensures.value) (found_named types store next adds.cells cell ts names typed.0 typed.1 found1 typed.2))

pub narrow-requires-clause-flags : goal.narrow-requires-clause-flags
narrow-requires-clause-flags g c =
    let types = c.args.types.now in
    let store = c.args.store.now in
    let F = c.args.flexible.now.items in
    let cell = c.args.cell in
    let A = type_of types (cell_of store cell).ty in
    let ts = terms_of (map (tree_of types store) c.args.args.now) in
    let us = terms_of (map (tree_of types store) c.args.more.now) in
    let read = head_reading types store in
    let middle = c.given_names.new.store in
    let adds1 = c.in_ok-given_names.ensures.adds in
    let rule = same_variable_at (codes "x") (cells_read types store) (variables_read types store F) (cell_variable types store cell) in
    let names = c.in-Some.names.items in
    let hs = map read names in
    let found1 : Some hs ≡ pattern A ts = ap (names_of types store) (sym c.in-Some.is) ∙ c.in_ok-given_names.ensures.reads in
    let next = c.given_names-in-Some.new.store in
    let adds2 = c.in_ok-given_names-in-Some.ensures.adds in
    let adds = typed_on types store middle next adds1 adds2 in
    let reads2 = given_later types store middle adds1 cell c.args.more.now c.requires.more_held c.in_ok-given_names-in-Some.field-0 c.in_ok-given_names-in-Some.ensures.reads in
    let others = c.in-Some-2.others.items in
    let gs = map read others in
    let found2 : Some gs ≡ pattern A us = ap (names_of types store) (sym c.in-Some-2.is) ∙ reads2 in
    let are1 : AreNames types names = subst (λ o. IfSome o (λ l. AreNames types l.items)) c.in-Some.is c.in_ok-given_names.ensures.names in
    let are2 : AreNames types others = subst (λ o. IfSome o (λ l. AreNames types l.items)) c.in-Some-2.is c.in_ok-given_names-in-Some.ensures.names in
    let keep_is : c.in_ok-keep-in-Some-2.keep.items ≡ agreeing hs gs =
    c.in_ok-keep-in-Some-2.ensures types store c.len.ensures.table (subst (All (HeadIsTyped types)) (sym c.deref.ensures.value) (typed_names types names are1)) (subst (All (HeadIsTyped types)) (sym c.deref-in-Some-2.ensures.value) (typed_names types others are2))
    ∙ ap (λ l. agreeing (map read l) (map read c.deref-in-Some-2.result.now)) c.deref.ensures.value ∙ ap (λ l. agreeing hs (map read l)) c.deref-in-Some-2.ensures.value in
    let typed = c.requires.typed in
    let one = named_length typed.1 (found_named types store store refl cell ts names typed.0 typed.1 found1 typed.2) in
    let two = named_length typed.1 (found_named types store store refl cell us others typed.0 typed.1 found2 typed.3) in
    ap length c.deref-in-Some-2-3.ensures.value ∙ ap length keep_is ∙ agreeing_long hs gs (one ∙ sym two) ∙ length-map names read ∙ sym (ap length c.deref-in-Some-2-2.ensures.value)

pub returns-in_err-narrow-in-Some-2-clause-grows : goal.returns-in_err-narrow-in-Some-2-clause-grows
returns-in_err-narrow-in-Some-2-clause-grows g c =
    let types = c.args.types.now in
    let store = c.args.store.now in
    let F = c.args.flexible.now.items in
    let cell = c.args.cell in
    let A = type_of types (cell_of store cell).ty in
    let ts = terms_of (map (tree_of types store) c.args.args.now) in
    let us = terms_of (map (tree_of types store) c.args.more.now) in
    let read = head_reading types store in
    let middle = c.given_names.new.store in
    let adds1 = c.in_ok-given_names.ensures.adds in
    let rule = same_variable_at (codes "x") (cells_read types store) (variables_read types store F) (cell_variable types store cell) in
    let names = c.in-Some.names.items in
    let hs = map read names in
    let found1 : Some hs ≡ pattern A ts = ap (names_of types store) (sym c.in-Some.is) ∙ c.in_ok-given_names.ensures.reads in
    let next = c.given_names-in-Some.new.store in
    let adds2 = c.in_ok-given_names-in-Some.ensures.adds in
    let adds = typed_on types store middle next adds1 adds2 in
    let reads2 = given_later types store middle adds1 cell c.args.more.now c.requires.more_held c.in_ok-given_names-in-Some.field-0 c.in_ok-given_names-in-Some.ensures.reads in
    grows_on types types c.narrow.new.types store next c.narrow.new.store (grows_terms types store next adds) c.in_err-narrow-in-Some-2.ensures.grows

pub returns-clause-grows : goal.returns-clause-grows
returns-clause-grows g c =
    let types = c.args.types.now in
    let store = c.args.store.now in
    let F = c.args.flexible.now.items in
    let cell = c.args.cell in
    let A = type_of types (cell_of store cell).ty in
    let ts = terms_of (map (tree_of types store) c.args.args.now) in
    let us = terms_of (map (tree_of types store) c.args.more.now) in
    let read = head_reading types store in
    let middle = c.given_names.new.store in
    let adds1 = c.in_ok-given_names.ensures.adds in
    let rule = same_variable_at (codes "x") (cells_read types store) (variables_read types store F) (cell_variable types store cell) in
    let names = c.in-Some.names.items in
    let hs = map read names in
    let found1 : Some hs ≡ pattern A ts = ap (names_of types store) (sym c.in-Some.is) ∙ c.in_ok-given_names.ensures.reads in
    let next = c.given_names-in-Some.new.store in
    let adds2 = c.in_ok-given_names-in-Some.ensures.adds in
    let adds = typed_on types store middle next adds1 adds2 in
    let reads2 = given_later types store middle adds1 cell c.args.more.now c.requires.more_held c.in_ok-given_names-in-Some.field-0 c.in_ok-given_names-in-Some.ensures.reads in
    grows_on types types c.narrow.new.types store next c.narrow.new.store (grows_terms types store next adds) c.in_ok-narrow-in-Some-2.ensures.grows

pub returns-clause-tells : goal.returns-clause-tells
returns-clause-tells g c =
    let types = c.args.types.now in
    let store = c.args.store.now in
    let F = c.args.flexible.now.items in
    let cell = c.args.cell in
    let A = type_of types (cell_of store cell).ty in
    let ts = terms_of (map (tree_of types store) c.args.args.now) in
    let us = terms_of (map (tree_of types store) c.args.more.now) in
    let read = head_reading types store in
    let middle = c.given_names.new.store in
    let adds1 = c.in_ok-given_names.ensures.adds in
    let rule = same_variable_at (codes "x") (cells_read types store) (variables_read types store F) (cell_variable types store cell) in
    let names = c.in-Some.names.items in
    let hs = map read names in
    let found1 : Some hs ≡ pattern A ts = ap (names_of types store) (sym c.in-Some.is) ∙ c.in_ok-given_names.ensures.reads in
    let next = c.given_names-in-Some.new.store in
    let adds2 = c.in_ok-given_names-in-Some.ensures.adds in
    let adds = typed_on types store middle next adds1 adds2 in
    let reads2 = given_later types store middle adds1 cell c.args.more.now c.requires.more_held c.in_ok-given_names-in-Some.field-0 c.in_ok-given_names-in-Some.ensures.reads in
    let others = c.in-Some-2.others.items in
    let gs = map read others in
    let found2 : Some gs ≡ pattern A us = ap (names_of types store) (sym c.in-Some-2.is) ∙ reads2 in
    let are1 : AreNames types names = subst (λ o. IfSome o (λ l. AreNames types l.items)) c.in-Some.is c.in_ok-given_names.ensures.names in
    let are2 : AreNames types others = subst (λ o. IfSome o (λ l. AreNames types l.items)) c.in-Some-2.is c.in_ok-given_names-in-Some.ensures.names in
    let keep_is : c.in_ok-keep-in-Some-2.keep.items ≡ agreeing hs gs =
    c.in_ok-keep-in-Some-2.ensures types store c.len.ensures.table (subst (All (HeadIsTyped types)) (sym c.deref.ensures.value) (typed_names types names are1)) (subst (All (HeadIsTyped types)) (sym c.deref-in-Some-2.ensures.value) (typed_names types others are2))
    ∙ ap (λ l. agreeing (map read l) (map read c.deref-in-Some-2.result.now)) c.deref.ensures.value ∙ ap (λ l. agreeing hs (map read l)) c.deref-in-Some-2.ensures.value in
    let y = cell_variable types store cell in
    let now = map (head_reading types next) c.deref-in-Some-2-2.result.now in
    let flags = c.deref-in-Some-2-3.result.now in
    let was = c.in_ok-narrow-in-Some-2.ensures.changed types next F (still types next F) (starts types next adds.typed F (free_on types store next adds F c.requires.free) (variables_read types next F) refl) in
    tells_replaced types store next F c.requires.store c.requires.free adds (rule (pattern A ts) (pattern A us)) c.narrow.new.types c.narrow.new.store c.narrow.new.flexible.items
    (narrowed (codes "x") (cell_variable types next cell) now flags (still types next F)) was
    (sym (ap (λ o. rule (Some hs) o) found2 ∙ ap (λ o. rule o (pattern A us)) found1)
    ∙ sym (ap (λ v. Some (replaced (narrowed (codes "x") v now flags (still types next F)))) (same_cell types store next cell adds.cells)
    ∙ ap (λ l. Some (replaced (narrowed (codes "x") y l flags (still types next F)))) (ap (map (head_reading types next)) c.deref-in-Some-2-2.ensures.value ∙ same_heads types store next adds.cells names)
    ∙ ap (λ l. Some (replaced (narrowed (codes "x") y hs l (still types next F)))) (c.deref-in-Some-2-3.ensures.value ∙ keep_is)
    ∙ ap (λ d. Some (replaced (narrowed (codes "x") y hs (agreeing hs gs) d))) (same_still types store next adds.cells F)))
