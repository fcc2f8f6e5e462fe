use Rattle.std.proofs.Common.{◌≡◌, map, length, Some, None, true, false, IfSome, codes, sym, ◌∙◌, ap, subst}
use Rattle.std.specs.Prelude.{All}
use Rattle.std.specs.List.{list_all}
use Rattle.std.proofs.lemmas.List.{length-map}
use Rattle.ab_term.specs.Types.{kind}
use Rattle.ab_term.specs.Terms.{terms_of}
use Rattle.ab_term.specs.Abstraction.{among, is_name, Named}
use Rattle.ab_norm.specs.ab_types.specs.Entries.{signature}
use Rattle.ab_norm.specs.ab_types.specs.Ids.{type_of}
use Rattle.ab_norm.specs.ab_store.specs.Trees.{cell_in, cell_of, head_in, tree_of, head_reading}
use Rattle.ab_norm.specs.ab_store.specs.Reading.{cell_variable}
use Rattle.ab_norm.specs.ab_store.specs.Naming.{HeadIsTyped}
use Rattle.ab_patterns.specs.EquationReadings.{names_of}
use Rattle.ab_patterns.specs.ab_unifiers.specs.Patterns.{pattern}
use Rattle.ab_patterns.specs.ab_unifiers.specs.Replacements.{pruned_names, narrowed}
use Rattle.ab_patterns.specs.ab_unifiers.proofs.Views.{is_pattern}
use Rattle.ab_patterns.specs.ab_unifiers.proofs.Values.{pattern_named}
use Rattle.ab_patterns.specs.ab_unifiers.proofs.Readings.{pattern_distinct}
use Rattle.ab_patterns.specs.ab_unifiers.proofs.Ruling.{distinct_names}
use Rattle.ab_patterns.proofs.Bound.{same_cell}
use Rattle.ab_unify.specs.StoreChanges.{Changed}
use Rattle.ab_unify.proofs.Growth.{grows_on, grows_terms}
use Rattle.ab_unify.proofs.Pruned.{changed_on, same_heads, typed_names, are_read_names, names_then, names_kept, pruned_whole, pruned_some}
use Rattle.ab_unify.proofs.pruning.prune_cell.Goals as goal

pub returns-in-None-clause-changed : goal.returns-in-None-clause-changed
returns-in-None-clause-changed g c = λ T S F change was.
    let types = c.args.types.now in
    let store = c.args.store.now in
    let A = type_of types (cell_of store c.args.cell).ty in
    let ts = terms_of (map (tree_of types store) c.args.args.now) in
    let none : None ≡ pattern A ts = ap (names_of types store) (sym c.in-None.is) ∙ c.in_ok-pattern.ensures.reads ∙ ap (λ a. pattern (type_of types a) ts) c.cell_type-ty.ensures.ty in
    subst (λ o. Changed T S F (pruned_names (codes "x") (map (head_reading types store) c.args.names.now) (cell_variable types store c.args.cell) o change) types c.pattern.new.store c.args.flexible.now.items) none
    (changed_on T S F change types store c.pattern.new.store c.args.flexible.now.items was c.in_ok-pattern.ensures.adds)

pub returns-then-keeps_all-clause-grows : goal.returns-then-keeps_all-clause-grows
returns-then-keeps_all-clause-grows g c = grows_terms c.args.types.now c.args.store.now c.pattern.new.store c.in_ok-pattern.ensures.adds

pub returns-then-keeps_all-clause-changed : goal.returns-then-keeps_all-clause-changed
returns-then-keeps_all-clause-changed g c = λ T S F change was.
    let types = c.args.types.now in
    let store = c.args.store.now in
    let middle = c.pattern.new.store in
    let adds = c.in_ok-pattern.ensures.adds in
    let others = c.in-Some.others.items in
    let read = head_reading types store in
    let hs = map read c.args.names.now in
    let A = type_of types (cell_of store c.args.cell).ty in
    let ts = terms_of (map (tree_of types store) c.args.args.now) in
    let found : Some (map read others) ≡ pattern A ts = ap (names_of types store) (sym c.in-Some.is) ∙ c.in_ok-pattern.ensures.reads ∙ ap (λ a. pattern (type_of types a) ts) c.cell_type-ty.ensures.ty in
    let typed : All (HeadIsTyped types) others = subst (λ o. IfSome o (λ l. All (HeadIsTyped types) l.items)) c.in-Some.is c.in_ok-pattern.ensures.typed in
    let keep_is : c.in_ok-keep-in-Some.keep.items ≡ map (among hs) (map read others) =
    c.in_ok-keep-in-Some.ensures types store c.len.ensures.table (subst (All (HeadIsTyped types)) (sym c.deref.ensures.value) typed) (typed_names types c.args.names.now c.requires.names)
    ∙ ap (λ l. map (among hs) (map read l)) c.deref.ensures.value in
    let y = cell_variable types store c.args.cell in
    let all : list_all (among hs) (map read others) ≡ true = names_kept hs (map read others) c.in_ok-keep-in-Some.keep.items true keep_is
    (ap (list_all (λ k. k)) (sym c.deref-in-Some.ensures.value) ∙ sym c.keeps_all.ensures ∙ c.if-keeps_all.true) in
    subst (λ o. Changed T S F (pruned_names (codes "x") hs y o change) types middle c.args.flexible.now.items) found
    (subst (λ d. Changed T S F d types middle c.args.flexible.now.items) (pruned_whole (codes "x") hs (map read others) y change all)
    (changed_on T S F change types store middle c.args.flexible.now.items was adds))

pub narrow-requires-clause-are_names : goal.narrow-requires-clause-are_names
narrow-requires-clause-are_names g c =
    let types = c.args.types.now in
    let store = c.args.store.now in
    let middle = c.pattern.new.store in
    let adds = c.in_ok-pattern.ensures.adds in
    let others = c.in-Some.others.items in
    let read = head_reading types store in
    let hs = map read c.args.names.now in
    let A = type_of types (cell_of store c.args.cell).ty in
    let ts = terms_of (map (tree_of types store) c.args.args.now) in
    let found : Some (map read others) ≡ pattern A ts = ap (names_of types store) (sym c.in-Some.is) ∙ c.in_ok-pattern.ensures.reads ∙ ap (λ a. pattern (type_of types a) ts) c.cell_type-ty.ensures.ty in
    let typed : All (HeadIsTyped types) others = subst (λ o. IfSome o (λ l. All (HeadIsTyped types) l.items)) c.in-Some.is c.in_ok-pattern.ensures.typed in
    subst (All (λ h. is_name (head_reading types middle h) ≡ true)) (sym c.deref-in-Some-2.ensures.value)
    (are_read_names types middle others (names_then types store others typed (distinct_names (map read others) (pattern_distinct (is_pattern A ts (map read others) (sym found))))))

pub narrow-requires-clause-fits : goal.narrow-requires-clause-fits
narrow-requires-clause-fits g c =
    let types = c.args.types.now in
    let store = c.args.store.now in
    let middle = c.pattern.new.store in
    let adds = c.in_ok-pattern.ensures.adds in
    let others = c.in-Some.others.items in
    let read = head_reading types store in
    let hs = map read c.args.names.now in
    let A = type_of types (cell_of store c.args.cell).ty in
    let ts = terms_of (map (tree_of types store) c.args.args.now) in
    let found : Some (map read others) ≡ pattern A ts = ap (names_of types store) (sym c.in-Some.is) ∙ c.in_ok-pattern.ensures.reads ∙ ap (λ a. pattern (type_of types a) ts) c.cell_type-ty.ensures.ty in
    let typed : All (HeadIsTyped types) others = subst (λ o. IfSome o (λ l. All (HeadIsTyped types) l.items)) c.in-Some.is c.in_ok-pattern.ensures.typed in
    let G = c.requires.typed.0 in
    let k = c.requires.typed.1 in
    let base : Named (signature types) G (map read others) A (kind k) = pattern_named (signature types) (is_pattern A ts (map read others) (sym found)) c.requires.typed.2 in (
      G,
      k,
      subst (λ l. Named (signature types) G (map (head_reading types middle) l) (type_of types (cell_of middle c.args.cell).ty) (kind k)) (sym c.deref-in-Some-2.ensures.value)
          (subst (λ cs. Named (signature types) G (map (head_in types cs) others) (type_of types (cell_in cs c.args.cell).ty) (kind k)) (sym adds.cells) base),
    )

pub narrow-requires-clause-flags : goal.narrow-requires-clause-flags
narrow-requires-clause-flags g c =
    let types = c.args.types.now in
    let store = c.args.store.now in
    let middle = c.pattern.new.store in
    let adds = c.in_ok-pattern.ensures.adds in
    let others = c.in-Some.others.items in
    let read = head_reading types store in
    let hs = map read c.args.names.now in
    let A = type_of types (cell_of store c.args.cell).ty in
    let ts = terms_of (map (tree_of types store) c.args.args.now) in
    let found : Some (map read others) ≡ pattern A ts = ap (names_of types store) (sym c.in-Some.is) ∙ c.in_ok-pattern.ensures.reads ∙ ap (λ a. pattern (type_of types a) ts) c.cell_type-ty.ensures.ty in
    let typed : All (HeadIsTyped types) others = subst (λ o. IfSome o (λ l. All (HeadIsTyped types) l.items)) c.in-Some.is c.in_ok-pattern.ensures.typed in
    let keep_is : c.in_ok-keep-in-Some.keep.items ≡ map (among hs) (map read others) =
    c.in_ok-keep-in-Some.ensures types store c.len.ensures.table (subst (All (HeadIsTyped types)) (sym c.deref.ensures.value) typed) (typed_names types c.args.names.now c.requires.names)
    ∙ ap (λ l. map (among hs) (map read l)) c.deref.ensures.value in
    ap length c.deref-in-Some-3.ensures.value ∙ ap length keep_is ∙ length-map (map read others) (among hs) ∙ length-map others read ∙ sym (ap length c.deref-in-Some-2.ensures.value)

pub returns-in_err-narrow-in-Some-clause-grows : goal.returns-in_err-narrow-in-Some-clause-grows
returns-in_err-narrow-in-Some-clause-grows g c =
    let types = c.args.types.now in
    grows_on types types c.narrow.new.types c.args.store.now c.pattern.new.store c.narrow.new.store (grows_terms types c.args.store.now c.pattern.new.store c.in_ok-pattern.ensures.adds) c.in_err-narrow-in-Some.ensures.grows

pub returns-in_ok-narrow-in-Some-clause-grows : goal.returns-in_ok-narrow-in-Some-clause-grows
returns-in_ok-narrow-in-Some-clause-grows g c =
    let types = c.args.types.now in
    grows_on types types c.narrow.new.types c.args.store.now c.pattern.new.store c.narrow.new.store (grows_terms types c.args.store.now c.pattern.new.store c.in_ok-pattern.ensures.adds) c.in_ok-narrow-in-Some.ensures.grows

pub returns-in_ok-narrow-in-Some-clause-changed : goal.returns-in_ok-narrow-in-Some-clause-changed
returns-in_ok-narrow-in-Some-clause-changed g c = λ T S F change was.
    let types = c.args.types.now in
    let store = c.args.store.now in
    let middle = c.pattern.new.store in
    let adds = c.in_ok-pattern.ensures.adds in
    let others = c.in-Some.others.items in
    let read = head_reading types store in
    let hs = map read c.args.names.now in
    let A = type_of types (cell_of store c.args.cell).ty in
    let ts = terms_of (map (tree_of types store) c.args.args.now) in
    let found : Some (map read others) ≡ pattern A ts = ap (names_of types store) (sym c.in-Some.is) ∙ c.in_ok-pattern.ensures.reads ∙ ap (λ a. pattern (type_of types a) ts) c.cell_type-ty.ensures.ty in
    let typed : All (HeadIsTyped types) others = subst (λ o. IfSome o (λ l. All (HeadIsTyped types) l.items)) c.in-Some.is c.in_ok-pattern.ensures.typed in
    let keep_is : c.in_ok-keep-in-Some.keep.items ≡ map (among hs) (map read others) =
    c.in_ok-keep-in-Some.ensures types store c.len.ensures.table (subst (All (HeadIsTyped types)) (sym c.deref.ensures.value) typed) (typed_names types c.args.names.now c.requires.names)
    ∙ ap (λ l. map (among hs) (map read l)) c.deref.ensures.value in
    let y = cell_variable types store c.args.cell in
    let bs = map read others in
    let some : list_all (among hs) bs ≡ false = names_kept hs bs c.in_ok-keep-in-Some.keep.items false keep_is
    (ap (list_all (λ k. k)) (sym c.deref-in-Some.ensures.value) ∙ sym c.keeps_all.ensures ∙ c.if-keeps_all.false) in
    let now = map (head_reading types middle) c.deref-in-Some-2.result.now in
    subst (λ o. Changed T S F (pruned_names (codes "x") hs y o change) c.narrow.new.types c.narrow.new.store c.narrow.new.flexible.items) found
    (subst (λ d. Changed T S F d c.narrow.new.types c.narrow.new.store c.narrow.new.flexible.items)
    (ap (λ v. narrowed (codes "x") v now c.deref-in-Some-3.result.now change) (same_cell types store middle c.args.cell adds.cells)
    ∙ ap (λ l. narrowed (codes "x") y l c.deref-in-Some-3.result.now change) (ap (map (head_reading types middle)) c.deref-in-Some-2.ensures.value ∙ same_heads types store middle adds.cells others)
    ∙ ap (λ k. narrowed (codes "x") y bs k change) (c.deref-in-Some-3.ensures.value ∙ keep_is)
    ∙ pruned_some (codes "x") hs bs y change some)
    (c.in_ok-narrow-in-Some.ensures.changed T S F change (changed_on T S F change types store middle c.args.flexible.now.items was adds)))
