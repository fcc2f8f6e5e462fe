use Rattle.std.proofs.Common.{◌≡◌, ℕ, ◌<◌, ◌++◌, map, length, codes, refl, sym, ◌∙◌, ap, subst}
use Rattle.std.specs.Prelude.{All, Contains}
use Rattle.std.proofs.lemmas.List.{length-map}
use Rattle.std.proofs.lemmas.List.Elements.{All-contains}
use Rattle.std.proofs.lemmas.Result.{on_ok_weaker}
use Rattle.ab_term.specs.Abstraction.{among}
use Rattle.ab_term.specs.Variables.{composition}
use Rattle.ab_term.specs.Sameness.{same_number}
use Rattle.ab_norm.specs.ab_types.specs.Ids.{type_of}
use Rattle.ab_norm.specs.ab_store.specs.Trees.{cell_of, tree_of, head_reading}
use Rattle.ab_norm.specs.ab_store.specs.Reading.{cell_variable}
use Rattle.ab_norm.specs.ab_store.specs.Naming.{HoldsHead, HeadIsTyped}
use Rattle.ab_patterns.specs.ab_unifiers.specs.Patterns.{applied, kept, kept_type}
use Rattle.ab_patterns.specs.ab_unifiers.specs.Replacements as solve
use Rattle.ab_patterns.specs.ab_unifiers.specs.Replacements.{narrowed, next_variable}
use Rattle.ab_patterns.specs.ab_unifiers.specs.Unification.{begun}
use Rattle.ab_patterns.specs.ab_unifiers.proofs.Falling.{map_length}
use Rattle.ab_patterns.proofs.Narrowed.{are_names}
use Rattle.ab_patterns.proofs.Renewed.{youngest_other}
use Rattle.ab_unify.specs.Problem.{cell_read, cells_read, variables_read}
use Rattle.ab_unify.specs.StoreChanges.{Changed, IsFree, AreNames, others_than}
use Rattle.ab_unify.proofs.Growth.{grows_on, grows_terms}
use Rattle.ab_unify.proofs.Listed.{same_cell, still_other, was_other, all_others}
use Rattle.ab_unify.proofs.Put.{begins}
use Rattle.ab_unify.proofs.Pruned.{changed_on, typed_names, are_read_names}
use Rattle.ab_unify.proofs.Other.{other_resolved, other_apart, other_fits}
use Rattle.ab_unify.proofs.Joined.{names_more, held_names, kept_are_names, kept_read_names, joined_is, left_named, others_named, left_within, younger_pair}
use Rattle.ab_unify.proofs.joined_patterns.join_both.Goals as goal

pub narrow-requires-clause-listed : goal.narrow-requires-clause-listed
narrow-requires-clause-listed g c =
    let types = c.args.types.now in
    let store = c.args.store.now in
    let F = c.args.flexible.now.items in
    let younger = c.args.younger in
    let older = c.args.older in
    let names = c.args.names.now in
    let others = c.args.others.now in
    let keep = c.args.keep.now in
    let rest_is : c.remove.new.self.items ≡ others_than younger F = c.remove.ensures in
    subst (λ l. Contains l older) (sym rest_is) (still_other younger older F (λ e. c.requires.differ (same_cell older younger e)) c.requires.older_listed)

pub narrow-requires-clause-free : goal.narrow-requires-clause-free
narrow-requires-clause-free g c =
    let types = c.args.types.now in
    let store = c.args.store.now in
    let F = c.args.flexible.now.items in
    let younger = c.args.younger in
    let older = c.args.older in
    let names = c.args.names.now in
    let others = c.args.others.now in
    let keep = c.args.keep.now in
    let rest_is : c.remove.new.self.items ≡ others_than younger F = c.remove.ensures in
    subst (All (IsFree store)) (sym rest_is) (all_others (IsFree store) younger F c.requires.free)

pub apply_cell-requires-clause-names : goal.apply_cell-requires-clause-names
apply_cell-requires-clause-names g c =
    let types = c.args.types.now in
    let store = c.args.store.now in
    let F = c.args.flexible.now.items in
    let younger = c.args.younger in
    let older = c.args.older in
    let names = c.args.names.now in
    let others = c.args.others.now in
    let keep = c.args.keep.now in
    let more = c.narrow.new.types in
    let middle = c.narrow.new.store in
    let made = c.in_ok-made.made in
    let part = c.in_ok-made.ensures.grows.table in
    let left = c.deref.result.now in
    let which : left ≡ kept keep names = c.deref.ensures.value ∙ c.in_ok-keep_heads.ensures ∙ ap (λ l. l ++ kept keep names) c.new-left.ensures.items in
    subst (All (HoldsHead middle)) (sym which) (held_names more middle (kept keep names) (kept_are_names more keep names (names_more types more part names c.requires.names)))

pub apply_cell-requires-clause-typed_names : goal.apply_cell-requires-clause-typed_names
apply_cell-requires-clause-typed_names g c =
    let types = c.args.types.now in
    let store = c.args.store.now in
    let F = c.args.flexible.now.items in
    let younger = c.args.younger in
    let older = c.args.older in
    let names = c.args.names.now in
    let others = c.args.others.now in
    let keep = c.args.keep.now in
    let more = c.narrow.new.types in
    let middle = c.narrow.new.store in
    let made = c.in_ok-made.made in
    let part = c.in_ok-made.ensures.grows.table in
    let left = c.deref.result.now in
    let which : left ≡ kept keep names = c.deref.ensures.value ∙ c.in_ok-keep_heads.ensures ∙ ap (λ l. l ++ kept keep names) c.new-left.ensures.items in
    subst (All (HeadIsTyped more)) (sym which) (typed_names more (kept keep names) (kept_are_names more keep names (names_more types more part names c.requires.names)))

pub returns-in_err-term-clause-grows : goal.returns-in_err-term-clause-grows
returns-in_err-term-clause-grows g c =
    let types = c.args.types.now in
    let store = c.args.store.now in
    let F = c.args.flexible.now.items in
    let younger = c.args.younger in
    let older = c.args.older in
    let names = c.args.names.now in
    let others = c.args.others.now in
    let keep = c.args.keep.now in
    grows_on types c.narrow.new.types c.narrow.new.types store c.narrow.new.store c.apply_cell.new.store c.in_ok-made.ensures.grows (grows_terms c.narrow.new.types c.narrow.new.store c.apply_cell.new.store c.in_err-term.ensures.adds)

pub bind-requires-clause-names : goal.bind-requires-clause-names
bind-requires-clause-names g c =
    let types = c.args.types.now in
    let store = c.args.store.now in
    let F = c.args.flexible.now.items in
    let younger = c.args.younger in
    let older = c.args.older in
    let names = c.args.names.now in
    let others = c.args.others.now in
    let keep = c.args.keep.now in
    typed_names c.narrow.new.types others (names_more types c.narrow.new.types c.in_ok-made.ensures.grows.table others c.requires.others)

pub bind-requires-clause-resolved : goal.bind-requires-clause-resolved
bind-requires-clause-resolved g c =
    let types = c.args.types.now in
    let store = c.args.store.now in
    let F = c.args.flexible.now.items in
    let younger = c.args.younger in
    let older = c.args.older in
    let names = c.args.names.now in
    let others = c.args.others.now in
    let keep = c.args.keep.now in
    let more = c.narrow.new.types in
    let middle = c.narrow.new.store in
    let made = c.in_ok-made.made in
    let part = c.in_ok-made.ensures.grows.table in
    let left = c.deref.result.now in
    let which : left ≡ kept keep names = c.deref.ensures.value ∙ c.in_ok-keep_heads.ensures ∙ ap (λ l. l ++ kept keep names) c.new-left.ensures.items in
    let next = c.apply_cell.new.store in
    let adds = c.in_ok-term.ensures.adds in
    let is = c.in_ok-term.ensures.reads in
    let term = c.in_ok-term.term in
    let named = are_names (head_reading more middle) left (are_read_names more middle left (subst (AreNames more) (sym which) (kept_are_names more keep names (names_more types more part names c.requires.names)))) in
    other_resolved more middle next adds younger made others left term is named c.in_ok-made.ensures.made.1

pub bind-requires-clause-apart : goal.bind-requires-clause-apart
bind-requires-clause-apart g c =
    let types = c.args.types.now in
    let store = c.args.store.now in
    let F = c.args.flexible.now.items in
    let younger = c.args.younger in
    let older = c.args.older in
    let names = c.args.names.now in
    let others = c.args.others.now in
    let keep = c.args.keep.now in
    let more = c.narrow.new.types in
    let middle = c.narrow.new.store in
    let made = c.in_ok-made.made in
    let part = c.in_ok-made.ensures.grows.table in
    let left = c.deref.result.now in
    let which : left ≡ kept keep names = c.deref.ensures.value ∙ c.in_ok-keep_heads.ensures ∙ ap (λ l. l ++ kept keep names) c.new-left.ensures.items in
    let next = c.apply_cell.new.store in
    let adds = c.in_ok-term.ensures.adds in
    let is = c.in_ok-term.ensures.reads in
    let term = c.in_ok-term.term in
    let named = are_names (head_reading more middle) left (are_read_names more middle left (subst (AreNames more) (sym which) (kept_are_names more keep names (names_more types more part names c.requires.names)))) in
    let held : IsFree store younger = All-contains (IsFree store) F younger c.requires.free c.requires.younger_listed in
    let B = kept_type keep (type_of types (cell_of store older).ty) in
    other_apart more middle next adds younger made others left term is named (youngest_other store made younger c.in_ok-made.ensures.number held.0)

pub bind-requires-clause-fits : goal.bind-requires-clause-fits
bind-requires-clause-fits g c =
    let types = c.args.types.now in
    let store = c.args.store.now in
    let F = c.args.flexible.now.items in
    let younger = c.args.younger in
    let older = c.args.older in
    let names = c.args.names.now in
    let others = c.args.others.now in
    let keep = c.args.keep.now in
    let more = c.narrow.new.types in
    let middle = c.narrow.new.store in
    let made = c.in_ok-made.made in
    let part = c.in_ok-made.ensures.grows.table in
    let left = c.deref.result.now in
    let which : left ≡ kept keep names = c.deref.ensures.value ∙ c.in_ok-keep_heads.ensures ∙ ap (λ l. l ++ kept keep names) c.new-left.ensures.items in
    let next = c.apply_cell.new.store in
    let adds = c.in_ok-term.ensures.adds in
    let is = c.in_ok-term.ensures.reads in
    let term = c.in_ok-term.term in
    let held : IsFree store younger = All-contains (IsFree store) F younger c.requires.free c.requires.younger_listed in
    let B = kept_type keep (type_of types (cell_of store older).ty) in
    let fits = c.requires.fits in
    let flags : length keep ≡ length (map (head_reading types store) names) = ap length c.requires.keep ∙ length-map (map (head_reading types store) names) (among (map (head_reading types store) others)) in
    other_fits more middle next adds younger made others left term is fits.0 fits.1
    (others_named types more store middle next c.requires.store c.in_ok-made.ensures.grows adds younger made held.0 names others left c.requires.names c.requires.others keep B term which c.in_ok-made.ensures.number c.in_ok-made.ensures.ty is fits.0 fits.1 fits.3)
    (left_named types more store middle next c.requires.store c.in_ok-made.ensures.grows adds younger made held.0 names others left c.requires.names c.requires.others keep B term which c.in_ok-made.ensures.number c.in_ok-made.ensures.ty is fits.0 fits.1 older fits.2 flags refl)
    (left_within types more store middle next c.requires.store c.in_ok-made.ensures.grows adds younger made held.0 names others left c.requires.names c.requires.others keep B term which c.in_ok-made.ensures.number c.in_ok-made.ensures.ty is c.requires.keep)

pub returns-clause-grows : goal.returns-clause-grows
returns-clause-grows g c =
    let types = c.args.types.now in
    let store = c.args.store.now in
    let F = c.args.flexible.now.items in
    let younger = c.args.younger in
    let older = c.args.older in
    let names = c.args.names.now in
    let others = c.args.others.now in
    let keep = c.args.keep.now in
    let more = c.narrow.new.types in
    let middle = c.narrow.new.store in
    let made = c.in_ok-made.made in
    let part = c.in_ok-made.ensures.grows.table in
    let left = c.deref.result.now in
    let which : left ≡ kept keep names = c.deref.ensures.value ∙ c.in_ok-keep_heads.ensures ∙ ap (λ l. l ++ kept keep names) c.new-left.ensures.items in
    let next = c.apply_cell.new.store in
    let adds = c.in_ok-term.ensures.adds in
    let is = c.in_ok-term.ensures.reads in
    let term = c.in_ok-term.term in
    grows_on types more more store next c.bind.new.store (grows_on types more more store middle next c.in_ok-made.ensures.grows (grows_terms more middle next adds)) c.bind.ensures.grows

pub returns-clause-changed : goal.returns-clause-changed
returns-clause-changed g c = on_ok_weaker c.bind.result (λ bound.
    let types = c.args.types.now in
    let store = c.args.store.now in
    let F = c.args.flexible.now.items in
    let younger = c.args.younger in
    let older = c.args.older in
    let names = c.args.names.now in
    let others = c.args.others.now in
    let keep = c.args.keep.now in
    let rest_is : c.remove.new.self.items ≡ others_than younger F = c.remove.ensures in
    let more = c.narrow.new.types in
    let middle = c.narrow.new.store in
    let made = c.in_ok-made.made in
    let part = c.in_ok-made.ensures.grows.table in
    let left = c.deref.result.now in
    let which : left ≡ kept keep names = c.deref.ensures.value ∙ c.in_ok-keep_heads.ensures ∙ ap (λ l. l ++ kept keep names) c.new-left.ensures.items in
    let next = c.apply_cell.new.store in
    let adds = c.in_ok-term.ensures.adds in
    let is = c.in_ok-term.ensures.reads in
    let term = c.in_ok-term.term in
    let held : IsFree store younger = All-contains (IsFree store) F younger c.requires.free c.requires.younger_listed in
    let B = kept_type keep (type_of types (cell_of store older).ty) in
    let cells = cells_read types store in
    let ys = variables_read types store F in
    let y = cell_variable types store older in
    let z = cell_variable types store younger in
    let hs = map (head_reading types store) names in
    let gs = map (head_reading types store) others in
    let start = begun (codes "x") cells ys z in
    let first = narrowed (codes "x") y hs keep start in
    let was0 : Changed types store (others_than younger F) start types store c.remove.new.self.items = subst (λ l. Changed types store (others_than younger F) start types store l) (sym rest_is) (begins types store c.requires.store F c.requires.free younger) in
    let was1 = c.in_ok-made.ensures.changed types store (others_than younger F) start was0 in
    let was2 : Changed types store (others_than younger F) first more next c.narrow.new.flexible.items = changed_on types store (others_than younger F) first more middle next c.narrow.new.flexible.items was1 adds in
    let out : ¬ Contains c.narrow.new.flexible.items younger = (was2.others younger held (λ q. (was_other younger younger F q).1 refl)).1 in
    let pair = solve.one (codes "x") (cell_variable more next younger) (map (head_reading more next) others) (tree_of more next term) in
    let done : Changed types store F (record { cells = first.cells; flexible = first.flexible; pairs = composition same_number first.pairs pair }) more c.bind.new.store c.narrow.new.flexible.items = bound types store F c.narrow.new.flexible.items first was2 c.requires.younger_listed out in
    let low : z.name < length cells = subst (λ n. younger.0 < n) (sym (map_length (cell_read types) store.cells)) held.0 in
    subst (λ d. Changed types store F d more c.bind.new.store c.narrow.new.flexible.items)
    (ap (λ p. record { cells = first.cells; flexible = first.flexible; pairs = composition same_number first.pairs p })
    (younger_pair types more store middle next c.requires.store c.in_ok-made.ensures.grows adds younger made held.0 names others left c.requires.names c.requires.others keep B term which c.in_ok-made.ensures.number c.in_ok-made.ensures.ty is
    ∙ ap (λ (n : ℕ). solve.one (codes "x") z gs (applied (codes "x") (record { name = n; type = B }) (kept keep hs))) (sym (map_length (cell_read types) store.cells)))
    ∙ ap (λ k. record {
      cells = (narrowed (codes "x") y hs k start).cells;
      flexible = (narrowed (codes "x") y hs k start).flexible;
      pairs = composition same_number (narrowed (codes "x") y hs k start).pairs (solve.one (codes "x") z gs (applied (codes "x") (next_variable (codes "x") cells (kept_type k y.type)) (kept k hs)));
    }) c.requires.keep
    ∙ joined_is cells ys y z hs gs (kept_read_names types store (map (among gs) hs) names c.requires.names) low)
    done) c.bind.ensures.changed
