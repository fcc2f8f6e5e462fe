use Rattle.std.proofs.Common.{◌≡◌, map, cond, true, false, codes, sym, ◌∙◌, ap, subst}
use Rattle.std.specs.List.{list_all}
use Rattle.std.proofs.lemmas.Result.{on_ok_weaker}
use Rattle.ab_term.specs.Abstraction.{among}
use Rattle.ab_norm.specs.ab_store.specs.Trees.{head_reading}
use Rattle.ab_norm.specs.ab_store.specs.Reading.{cell_variable}
use Rattle.ab_patterns.specs.ab_unifiers.specs.Patterns.{applied}
use Rattle.ab_patterns.specs.ab_unifiers.specs.Unification.{begun, put_in, joined_at}
use Rattle.ab_patterns.specs.ab_unifiers.proofs.Pruned.{all_pass}
use Rattle.ab_unify.specs.Problem.{cells_read, variables_read}
use Rattle.ab_unify.specs.StoreChanges.{Changed}
use Rattle.ab_unify.proofs.Pruned.{typed_names, names_kept}
use Rattle.ab_unify.proofs.joined_patterns.join.Goals as goal

pub bind_to_cell-requires-clause-within : goal.bind_to_cell-requires-clause-within
bind_to_cell-requires-clause-within g c =
    let types = c.args.types.now in
    let store = c.args.store.now in
    let read = head_reading types store in
    let hs = map read c.args.names.now in
    let gs = map read c.args.others.now in
    let keep_is : c.in_ok-keep.keep.items ≡ map (among gs) hs = c.in_ok-keep.ensures types store c.len.ensures.table (typed_names types c.args.names.now c.requires.names) (typed_names types c.args.others.now c.requires.others) in
    let all : list_all (among gs) hs ≡ true = names_kept gs hs c.in_ok-keep.keep.items true keep_is (ap (list_all (λ k. k)) (sym c.deref.ensures.value) ∙ sym c.keeps_all.ensures ∙ c.if-keeps_all.true) in
    λ h e. all_pass gs hs h all e

pub returns-then-keeps_all-clause-changed : goal.returns-then-keeps_all-clause-changed
returns-then-keeps_all-clause-changed g c =
    let types = c.args.types.now in
    let store = c.args.store.now in
    let read = head_reading types store in
    let hs = map read c.args.names.now in
    let gs = map read c.args.others.now in
    let keep_is : c.in_ok-keep.keep.items ≡ map (among gs) hs = c.in_ok-keep.ensures types store c.len.ensures.table (typed_names types c.args.names.now c.requires.names) (typed_names types c.args.others.now c.requires.others) in
    let all : list_all (among gs) hs ≡ true = names_kept gs hs c.in_ok-keep.keep.items true keep_is (ap (list_all (λ k. k)) (sym c.deref.ensures.value) ∙ sym c.keeps_all.ensures ∙ c.if-keeps_all.true) in
    let cells = cells_read types store in
    let ys = variables_read types store c.args.flexible.now.items in
    let y = cell_variable types store c.args.older in
    let z = cell_variable types store c.args.younger in
    on_ok_weaker c.bind_to_cell.result (λ done.
    subst (λ d. Changed types store c.args.flexible.now.items d types c.bind_to_cell.new.store c.bind_to_cell.new.flexible.items)
    (sym (ap (λ b. cond b (put_in (codes "x") cells ys z gs (applied (codes "x") y hs) (begun (codes "x") cells ys z))
    (cond (list_all (among hs) gs) (put_in (codes "x") cells ys y hs (applied (codes "x") z gs) (begun (codes "x") cells ys y)) (joined_at (codes "x") cells ys y hs z gs))) all)) done) c.bind_to_cell.ensures.changed

pub bind_to_cell-requires-then-keeps_all-2-clause-within : goal.bind_to_cell-requires-then-keeps_all-2-clause-within
bind_to_cell-requires-then-keeps_all-2-clause-within g c =
    let types = c.args.types.now in
    let store = c.args.store.now in
    let read = head_reading types store in
    let hs = map read c.args.names.now in
    let gs = map read c.args.others.now in
    let keep_is : c.in_ok-keep.keep.items ≡ map (among gs) hs = c.in_ok-keep.ensures types store c.len.ensures.table (typed_names types c.args.names.now c.requires.names) (typed_names types c.args.others.now c.requires.others) in
    let back_is : c.in_ok-back.back.items ≡ map (among hs) gs = c.in_ok-back.ensures types store c.len.ensures.table (typed_names types c.args.others.now c.requires.others) (typed_names types c.args.names.now c.requires.names) in
    let all : list_all (among hs) gs ≡ true = names_kept hs gs c.in_ok-back.back.items true back_is (ap (list_all (λ k. k)) (sym c.deref-2.ensures.value) ∙ sym c.keeps_all-2.ensures ∙ c.if-keeps_all-2.true) in
    λ h e. all_pass hs gs h all e

pub returns-then-keeps_all-2-clause-changed : goal.returns-then-keeps_all-2-clause-changed
returns-then-keeps_all-2-clause-changed g c =
    let types = c.args.types.now in
    let store = c.args.store.now in
    let read = head_reading types store in
    let hs = map read c.args.names.now in
    let gs = map read c.args.others.now in
    let keep_is : c.in_ok-keep.keep.items ≡ map (among gs) hs = c.in_ok-keep.ensures types store c.len.ensures.table (typed_names types c.args.names.now c.requires.names) (typed_names types c.args.others.now c.requires.others) in
    let back_is : c.in_ok-back.back.items ≡ map (among hs) gs = c.in_ok-back.ensures types store c.len.ensures.table (typed_names types c.args.others.now c.requires.others) (typed_names types c.args.names.now c.requires.names) in
    let some : list_all (among gs) hs ≡ false = names_kept gs hs c.in_ok-keep.keep.items false keep_is (ap (list_all (λ k. k)) (sym c.deref.ensures.value) ∙ sym c.keeps_all.ensures ∙ c.if-keeps_all.false) in
    let all : list_all (among hs) gs ≡ true = names_kept hs gs c.in_ok-back.back.items true back_is (ap (list_all (λ k. k)) (sym c.deref-2.ensures.value) ∙ sym c.keeps_all-2.ensures ∙ c.if-keeps_all-2.true) in
    let cells = cells_read types store in
    let ys = variables_read types store c.args.flexible.now.items in
    let y = cell_variable types store c.args.older in
    let z = cell_variable types store c.args.younger in
    let first = put_in (codes "x") cells ys z gs (applied (codes "x") y hs) (begun (codes "x") cells ys z) in
    let second = put_in (codes "x") cells ys y hs (applied (codes "x") z gs) (begun (codes "x") cells ys y) in
    let third = joined_at (codes "x") cells ys y hs z gs in
    on_ok_weaker c.bind_to_cell-then-keeps_all-2.result (λ done.
    subst (λ d. Changed types store c.args.flexible.now.items d types c.bind_to_cell-then-keeps_all-2.new.store c.bind_to_cell-then-keeps_all-2.new.flexible.items)
    (sym (ap (λ b. cond b first (cond (list_all (among hs) gs) second third)) some ∙ ap (λ b. cond b second third) all)) done) c.bind_to_cell-then-keeps_all-2.ensures.changed

pub returns-clause-changed : goal.returns-clause-changed
returns-clause-changed g c =
    let types = c.args.types.now in
    let store = c.args.store.now in
    let read = head_reading types store in
    let hs = map read c.args.names.now in
    let gs = map read c.args.others.now in
    let keep_is : c.in_ok-keep.keep.items ≡ map (among gs) hs = c.in_ok-keep.ensures types store c.len.ensures.table (typed_names types c.args.names.now c.requires.names) (typed_names types c.args.others.now c.requires.others) in
    let back_is : c.in_ok-back.back.items ≡ map (among hs) gs = c.in_ok-back.ensures types store c.len.ensures.table (typed_names types c.args.others.now c.requires.others) (typed_names types c.args.names.now c.requires.names) in
    let some : list_all (among gs) hs ≡ false = names_kept gs hs c.in_ok-keep.keep.items false keep_is (ap (list_all (λ k. k)) (sym c.deref.ensures.value) ∙ sym c.keeps_all.ensures ∙ c.if-keeps_all.false) in
    let other : list_all (among hs) gs ≡ false = names_kept hs gs c.in_ok-back.back.items false back_is (ap (list_all (λ k. k)) (sym c.deref-2.ensures.value) ∙ sym c.keeps_all-2.ensures ∙ c.if-keeps_all-2.false) in
    let cells = cells_read types store in
    let ys = variables_read types store c.args.flexible.now.items in
    let y = cell_variable types store c.args.older in
    let z = cell_variable types store c.args.younger in
    let first = put_in (codes "x") cells ys z gs (applied (codes "x") y hs) (begun (codes "x") cells ys z) in
    let second = put_in (codes "x") cells ys y hs (applied (codes "x") z gs) (begun (codes "x") cells ys y) in
    let third = joined_at (codes "x") cells ys y hs z gs in
    on_ok_weaker c.join_both.result (λ done.
    subst (λ d. Changed types store c.args.flexible.now.items d c.join_both.new.types c.join_both.new.store c.join_both.new.flexible.items)
    (sym (ap (λ b. cond b first (cond (list_all (among hs) gs) second third)) some ∙ ap (λ b. cond b second third) other)) done) c.join_both.ensures.changed
