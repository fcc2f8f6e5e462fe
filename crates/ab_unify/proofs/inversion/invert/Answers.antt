use Rattle.std.proofs.Common.{◌≡◌, map, [], codes, refl, sym, ◌∙◌, ap, subst}
use Rattle.std.specs.Prelude.{All, Contains}
use Rattle.std.proofs.lemmas.Bool.{false≢true}
use Rattle.std.proofs.lemmas.List.Elements.{All-contains}
use Rattle.std.proofs.lemmas.Result.{on_ok_weaker}
use Rattle.ab_term.specs.Types.{kind}
use Rattle.ab_term.specs.Typing.{HasType}
use Rattle.ab_term.specs.Variables.{variables, image, composition}
use Rattle.ab_term.specs.Sameness.{same_number}
use Rattle.ab_term.proofs.Lists.{Contains-map}
use Rattle.ab_norm.specs.ab_types.specs.Entries.{signature}
use Rattle.ab_norm.specs.ab_store.specs.Trees.{tree_of, head_reading}
use Rattle.ab_norm.specs.ab_store.specs.Reading.{bound_in, cell_variable}
use Rattle.ab_patterns.specs.ab_unifiers.specs.Patterns.{value}
use Rattle.ab_patterns.specs.ab_unifiers.specs.Replacements as solve
use Rattle.ab_patterns.specs.ab_unifiers.specs.Replacements.{holds, pruned}
use Rattle.ab_patterns.specs.ab_unifiers.specs.Unification.{begun}
use Rattle.ab_patterns.specs.ab_unifiers.proofs.Views.{is_pattern}
use Rattle.ab_patterns.specs.ab_unifiers.proofs.Agreeing.{contains_holds}
use Rattle.ab_patterns.proofs.Standing.{avoids_then, stands_holds}
use Rattle.ab_unify.specs.Problem.{cells_read, variables_read}
use Rattle.ab_unify.specs.StoreChanges.{Changed, IsFree, others_than}
use Rattle.ab_unify.proofs.Growth.{grows_on, grows_terms, typed_terms, lifted, grown_variable}
use Rattle.ab_unify.proofs.Listed.{was_other, all_others}
use Rattle.ab_unify.proofs.Put.{begins}
use Rattle.ab_unify.proofs.Pruned.{changed_on, typed_names, same_names, resolved_unbound, unbound_reads}
use Rattle.ab_unify.proofs.Joined.{names_more}
use Rattle.ab_unify.proofs.Losing.{none_seen}
use Rattle.ab_unify.proofs.Without.{pruned_others}
use Rattle.ab_unify.proofs.RigidSolutions.{known_cells, solved_parts}
use Rattle.ab_unify.proofs.inversion.invert.Goals as goal

pub prune-requires-clause-free : goal.prune-requires-clause-free
prune-requires-clause-free g c =
    let types = c.args.types.now in
    let store = c.args.store.now in
    let F = c.args.flexible.now.items in
    let cell = c.args.cell in
    let names = c.args.names.now in
    let term = c.args.term in
    let fits = c.requires.fits in
    let y = cell_variable types store cell in
    let hs = map (head_reading types store) names in
    let t = tree_of types store term in
    let cells = cells_read types store in
    let ys = variables_read types store F in
    let start = begun (codes "x") cells ys y in
    let after = pruned (codes "x") ys hs t start in
    let rest_is : c.remove.new.self.items ≡ others_than cell F = c.remove.ensures in
    subst (All (IsFree store)) (sym rest_is) (all_others (IsFree store) cell F c.requires.free)

pub returns-in_err-plain-clause-grows : goal.returns-in_err-plain-clause-grows
returns-in_err-plain-clause-grows g c =
    let more = c.prune.new.types in
    let grows = c.in_ok-prune.ensures.grows in
    grows_on c.args.types.now more more c.args.store.now c.prune.new.store c.copy_resolved.new.store grows (grows_terms more c.prune.new.store c.copy_resolved.new.store (typed_terms more c.prune.new.store c.copy_resolved.new.store grows.typed c.in_err-plain.ensures.adds))

pub bind-requires-clause-cell : goal.bind-requires-clause-cell
bind-requires-clause-cell g c =
    let types = c.args.types.now in
    let store = c.args.store.now in
    let F = c.args.flexible.now.items in
    let cell = c.args.cell in
    let names = c.args.names.now in
    let term = c.args.term in
    let fits = c.requires.fits in
    let y = cell_variable types store cell in
    let hs = map (head_reading types store) names in
    let t = tree_of types store term in
    let cells = cells_read types store in
    let ys = variables_read types store F in
    let start = begun (codes "x") cells ys y in
    let after = pruned (codes "x") ys hs t start in
    let rest_is : c.remove.new.self.items ≡ others_than cell F = c.remove.ensures in
    let more = c.prune.new.types in
    let middle = c.prune.new.store in
    let held : IsFree store cell = All-contains (IsFree store) F cell c.requires.free c.requires.listed in
    let was0 : Changed types store (others_than cell F) start types store c.remove.new.self.items = subst (λ l. Changed types store (others_than cell F) start types store l) (sym rest_is) (begins types store c.requires.store F c.requires.free cell) in
    let was1 : Changed types store (others_than cell F) after more middle c.prune.new.flexible.items =
    subst (λ d. Changed types store (others_than cell F) d more middle c.prune.new.flexible.items) (pruned_others types store cell F hs t start c.requires.absent)
    (c.in_ok-prune.ensures.changed types store (others_than cell F) start was0 c.requires.names fits.0 (kind fits.1) fits.5 (resolved_unbound types store term c.requires.resolved) hs 0 refl (none_seen types store (others_than cell F) hs start c.new-seen.result c.new-seen.ensures)).0 in
    let apart = was1.others cell held (λ q. (was_other cell cell F q).1 refl) in
    let next = c.copy_resolved.new.store in
    let adds = typed_terms more middle next was1.grows.typed c.in_ok-plain.ensures.adds in
    let whole = grows_on types more more store middle next was1.grows (grows_terms more middle next adds) in
    let plain = c.in_ok-plain.plain in
    let u = image same_number after.pairs t in
    let is : tree_of more next plain ≡ u = c.in_ok-plain.ensures.tree ∙ was1.reads fits.0 term (kind fits.1) fits.5 ∙ ap (image same_number after.pairs) (unbound_reads types store term (resolved_unbound types store term c.requires.resolved)) in
    let named = same_names types more store next whole.table names c.requires.names in
    let same_y = grown_variable types more store next whole c.requires.store cell held.0 in
    let parts = solved_parts (signature types) cells ys (known_cells types store F c.requires.free) fits.0 fits.1 y fits.2 hs t
    (contains_holds ys y (Contains-map (cell_variable types store) F cell c.requires.listed)) (is_pattern y.type fits.2 hs fits.3) fits.4 fits.5.1 c.requires.patterns c.requires.absent c.requires.own in
    ((adds.before.cell_ids cell apart.0.0), ap (λ bs. bound_in bs cell) adds.before.bindings ∙ apart.0.1)

pub bind-requires-clause-names : goal.bind-requires-clause-names
bind-requires-clause-names g c =
    let grows = c.in_ok-prune.ensures.grows in
    typed_names c.prune.new.types c.args.names.now (names_more c.args.types.now c.prune.new.types grows.table c.args.names.now c.requires.names)

pub bind-requires-clause-apart : goal.bind-requires-clause-apart
bind-requires-clause-apart g c =
    let types = c.args.types.now in
    let store = c.args.store.now in
    let F = c.args.flexible.now.items in
    let cell = c.args.cell in
    let names = c.args.names.now in
    let term = c.args.term in
    let fits = c.requires.fits in
    let y = cell_variable types store cell in
    let hs = map (head_reading types store) names in
    let t = tree_of types store term in
    let cells = cells_read types store in
    let ys = variables_read types store F in
    let start = begun (codes "x") cells ys y in
    let after = pruned (codes "x") ys hs t start in
    let rest_is : c.remove.new.self.items ≡ others_than cell F = c.remove.ensures in
    let more = c.prune.new.types in
    let middle = c.prune.new.store in
    let held : IsFree store cell = All-contains (IsFree store) F cell c.requires.free c.requires.listed in
    let was0 : Changed types store (others_than cell F) start types store c.remove.new.self.items = subst (λ l. Changed types store (others_than cell F) start types store l) (sym rest_is) (begins types store c.requires.store F c.requires.free cell) in
    let was1 : Changed types store (others_than cell F) after more middle c.prune.new.flexible.items =
    subst (λ d. Changed types store (others_than cell F) d more middle c.prune.new.flexible.items) (pruned_others types store cell F hs t start c.requires.absent)
    (c.in_ok-prune.ensures.changed types store (others_than cell F) start was0 c.requires.names fits.0 (kind fits.1) fits.5 (resolved_unbound types store term c.requires.resolved) hs 0 refl (none_seen types store (others_than cell F) hs start c.new-seen.result c.new-seen.ensures)).0 in
    let apart = was1.others cell held (λ q. (was_other cell cell F q).1 refl) in
    let next = c.copy_resolved.new.store in
    let adds = typed_terms more middle next was1.grows.typed c.in_ok-plain.ensures.adds in
    let whole = grows_on types more more store middle next was1.grows (grows_terms more middle next adds) in
    let plain = c.in_ok-plain.plain in
    let u = image same_number after.pairs t in
    let is : tree_of more next plain ≡ u = c.in_ok-plain.ensures.tree ∙ was1.reads fits.0 term (kind fits.1) fits.5 ∙ ap (image same_number after.pairs) (unbound_reads types store term (resolved_unbound types store term c.requires.resolved)) in
    let named = same_names types more store next whole.table names c.requires.names in
    let same_y = grown_variable types more store next whole c.requires.store cell held.0 in
    let parts = solved_parts (signature types) cells ys (known_cells types store F c.requires.free) fits.0 fits.1 y fits.2 hs t
    (contains_holds ys y (Contains-map (cell_variable types store) F cell c.requires.listed)) (is_pattern y.type fits.2 hs fits.3) fits.4 fits.5.1 c.requires.patterns c.requires.absent c.requires.own in
    λ st. false≢true (
    sym (avoids_then y u parts.1)
    ∙ ap (λ v. holds (variables v) y) (sym is)
    ∙ ap (holds (variables (tree_of more next plain))) (sym same_y)
    ∙ stands_holds more next cell plain st)

pub bind-requires-clause-fits : goal.bind-requires-clause-fits
bind-requires-clause-fits g c =
    let types = c.args.types.now in
    let store = c.args.store.now in
    let F = c.args.flexible.now.items in
    let cell = c.args.cell in
    let names = c.args.names.now in
    let term = c.args.term in
    let fits = c.requires.fits in
    let y = cell_variable types store cell in
    let hs = map (head_reading types store) names in
    let t = tree_of types store term in
    let cells = cells_read types store in
    let ys = variables_read types store F in
    let start = begun (codes "x") cells ys y in
    let after = pruned (codes "x") ys hs t start in
    let rest_is : c.remove.new.self.items ≡ others_than cell F = c.remove.ensures in
    let more = c.prune.new.types in
    let middle = c.prune.new.store in
    let held : IsFree store cell = All-contains (IsFree store) F cell c.requires.free c.requires.listed in
    let was0 : Changed types store (others_than cell F) start types store c.remove.new.self.items = subst (λ l. Changed types store (others_than cell F) start types store l) (sym rest_is) (begins types store c.requires.store F c.requires.free cell) in
    let was1 : Changed types store (others_than cell F) after more middle c.prune.new.flexible.items =
    subst (λ d. Changed types store (others_than cell F) d more middle c.prune.new.flexible.items) (pruned_others types store cell F hs t start c.requires.absent)
    (c.in_ok-prune.ensures.changed types store (others_than cell F) start was0 c.requires.names fits.0 (kind fits.1) fits.5 (resolved_unbound types store term c.requires.resolved) hs 0 refl (none_seen types store (others_than cell F) hs start c.new-seen.result c.new-seen.ensures)).0 in
    let apart = was1.others cell held (λ q. (was_other cell cell F q).1 refl) in
    let next = c.copy_resolved.new.store in
    let adds = typed_terms more middle next was1.grows.typed c.in_ok-plain.ensures.adds in
    let whole = grows_on types more more store middle next was1.grows (grows_terms more middle next adds) in
    let plain = c.in_ok-plain.plain in
    let u = image same_number after.pairs t in
    let is : tree_of more next plain ≡ u = c.in_ok-plain.ensures.tree ∙ was1.reads fits.0 term (kind fits.1) fits.5 ∙ ap (image same_number after.pairs) (unbound_reads types store term (resolved_unbound types store term c.requires.resolved)) in
    let named = same_names types more store next whole.table names c.requires.names in
    let same_y = grown_variable types more store next whole c.requires.store cell held.0 in
    let parts = solved_parts (signature types) cells ys (known_cells types store F c.requires.free) fits.0 fits.1 y fits.2 hs t
    (contains_holds ys y (Contains-map (cell_variable types store) F cell c.requires.listed)) (is_pattern y.type fits.2 hs fits.3) fits.4 fits.5.1 c.requires.patterns c.requires.absent c.requires.own in
    subst (λ v. HasType (signature more) [] (value (codes "x") v (map (head_reading more next) names) (tree_of more next plain)) v.type) (sym same_y)
    (subst (λ l. HasType (signature more) [] (value (codes "x") y l (tree_of more next plain)) y.type) (sym named)
    (subst (λ v. HasType (signature more) [] (value (codes "x") y hs v) y.type) (sym is) (lifted types more whole.table parts.0)))

pub returns-clause-grows : goal.returns-clause-grows
returns-clause-grows g c =
    let more = c.prune.new.types in
    let grows = c.in_ok-prune.ensures.grows in
    grows_on c.args.types.now more more c.args.store.now c.copy_resolved.new.store c.bind.new.store (grows_on c.args.types.now more more c.args.store.now c.prune.new.store c.copy_resolved.new.store grows (grows_terms more c.prune.new.store c.copy_resolved.new.store (typed_terms more c.prune.new.store c.copy_resolved.new.store grows.typed c.in_ok-plain.ensures.adds))) c.bind.ensures.grows

pub returns-clause-changed : goal.returns-clause-changed
returns-clause-changed g c = on_ok_weaker c.bind.result (λ bound.
    let types = c.args.types.now in
    let store = c.args.store.now in
    let F = c.args.flexible.now.items in
    let cell = c.args.cell in
    let names = c.args.names.now in
    let term = c.args.term in
    let fits = c.requires.fits in
    let y = cell_variable types store cell in
    let hs = map (head_reading types store) names in
    let t = tree_of types store term in
    let cells = cells_read types store in
    let ys = variables_read types store F in
    let start = begun (codes "x") cells ys y in
    let after = pruned (codes "x") ys hs t start in
    let rest_is : c.remove.new.self.items ≡ others_than cell F = c.remove.ensures in
    let more = c.prune.new.types in
    let middle = c.prune.new.store in
    let held : IsFree store cell = All-contains (IsFree store) F cell c.requires.free c.requires.listed in
    let was0 : Changed types store (others_than cell F) start types store c.remove.new.self.items = subst (λ l. Changed types store (others_than cell F) start types store l) (sym rest_is) (begins types store c.requires.store F c.requires.free cell) in
    let was1 : Changed types store (others_than cell F) after more middle c.prune.new.flexible.items =
    subst (λ d. Changed types store (others_than cell F) d more middle c.prune.new.flexible.items) (pruned_others types store cell F hs t start c.requires.absent)
    (c.in_ok-prune.ensures.changed types store (others_than cell F) start was0 c.requires.names fits.0 (kind fits.1) fits.5 (resolved_unbound types store term c.requires.resolved) hs 0 refl (none_seen types store (others_than cell F) hs start c.new-seen.result c.new-seen.ensures)).0 in
    let apart = was1.others cell held (λ q. (was_other cell cell F q).1 refl) in
    let next = c.copy_resolved.new.store in
    let adds = typed_terms more middle next was1.grows.typed c.in_ok-plain.ensures.adds in
    let whole = grows_on types more more store middle next was1.grows (grows_terms more middle next adds) in
    let plain = c.in_ok-plain.plain in
    let u = image same_number after.pairs t in
    let is : tree_of more next plain ≡ u = c.in_ok-plain.ensures.tree ∙ was1.reads fits.0 term (kind fits.1) fits.5 ∙ ap (image same_number after.pairs) (unbound_reads types store term (resolved_unbound types store term c.requires.resolved)) in
    let named = same_names types more store next whole.table names c.requires.names in
    let same_y = grown_variable types more store next whole c.requires.store cell held.0 in
    let parts = solved_parts (signature types) cells ys (known_cells types store F c.requires.free) fits.0 fits.1 y fits.2 hs t
    (contains_holds ys y (Contains-map (cell_variable types store) F cell c.requires.listed)) (is_pattern y.type fits.2 hs fits.3) fits.4 fits.5.1 c.requires.patterns c.requires.absent c.requires.own in
    let was2 : Changed types store (others_than cell F) after more next c.prune.new.flexible.items = changed_on types store (others_than cell F) after more middle next c.prune.new.flexible.items was1 adds in
    let out : ¬ Contains c.prune.new.flexible.items cell = (was2.others cell held (λ q. (was_other cell cell F q).1 refl)).1 in
    let pair = solve.one (codes "x") (cell_variable more next cell) (map (head_reading more next) names) (tree_of more next plain) in
    let done : Changed types store F (record { cells = after.cells; flexible = after.flexible; pairs = composition same_number after.pairs pair }) more c.bind.new.store c.prune.new.flexible.items = bound types store F c.prune.new.flexible.items after was2 c.requires.listed out in
    subst (λ p. Changed types store F (record { cells = after.cells; flexible = after.flexible; pairs = composition same_number after.pairs p }) more c.bind.new.store c.prune.new.flexible.items)
    (ap (λ v. solve.one (codes "x") v (map (head_reading more next) names) (tree_of more next plain)) same_y
    ∙ ap (λ l. solve.one (codes "x") y l (tree_of more next plain)) named
    ∙ ap (λ v. solve.one (codes "x") y hs v) is)
    done) c.bind.ensures.changed
