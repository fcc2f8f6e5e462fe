use Rattle.std.proofs.Common.{◌≡◌, codes, refl, sym, subst}
use Rattle.std.specs.Prelude.{Contains}
use Rattle.ab_norm.specs.ab_store.specs.Trees.{head_reading}
use Rattle.ab_norm.specs.ab_store.specs.Reading.{cell_variable}
use Rattle.ab_patterns.specs.ab_unifiers.specs.Unification.{begun}
use Rattle.ab_patterns.specs.ab_unifiers.specs.Replacements.{without}
use Rattle.ab_patterns.proofs.Narrowed.{are_names}
use Rattle.ab_unify.specs.Problem.{cells_read, variables_read}
use Rattle.ab_unify.specs.StoreChanges.{Changed, others_than}
use Rattle.ab_unify.proofs.Growth.{grows_on, grows_terms}
use Rattle.ab_unify.proofs.Listed.{was_other}
use Rattle.ab_unify.proofs.Put.{begins}
use Rattle.ab_unify.proofs.Pruned.{changed_on, are_read_names}
use Rattle.ab_unify.proofs.Other.{other_resolved, other_apart, other_fits, same_pair}
use Rattle.ab_unify.proofs.cell_bindings.bind_to_cell.Goals as goal

pub bind-requires-clause-resolved : goal.bind-requires-clause-resolved
bind-requires-clause-resolved g c =
    let types = c.args.types.now in
    let store = c.args.store.now in
    let e = c.in_ok-term.ensures in
    let named = are_names (head_reading types store) c.args.others.now (are_read_names types store c.args.others.now c.requires.others) in
    other_resolved types store c.apply_cell.new.store e.adds c.args.cell c.args.other c.args.names.now c.args.others.now c.in_ok-term.term e.reads named c.requires.other_free.1

pub bind-requires-clause-apart : goal.bind-requires-clause-apart
bind-requires-clause-apart g c =
    let types = c.args.types.now in
    let store = c.args.store.now in
    let e = c.in_ok-term.ensures in
    let named = are_names (head_reading types store) c.args.others.now (are_read_names types store c.args.others.now c.requires.others) in
    other_apart types store c.apply_cell.new.store e.adds c.args.cell c.args.other c.args.names.now c.args.others.now c.in_ok-term.term e.reads named c.requires.differ

pub bind-requires-clause-fits : goal.bind-requires-clause-fits
bind-requires-clause-fits g c =
    let e = c.in_ok-term.ensures in
    let fits = c.requires.fits in
    other_fits c.args.types.now c.args.store.now c.apply_cell.new.store e.adds c.args.cell c.args.other c.args.names.now c.args.others.now c.in_ok-term.term e.reads fits.0 fits.1 fits.2 fits.3 c.requires.within

pub returns-in_err-term-clause-grows : goal.returns-in_err-term-clause-grows
returns-in_err-term-clause-grows g c = grows_terms c.args.types.now c.args.store.now c.apply_cell.new.store c.in_err-term.ensures.adds

pub returns-in_err-bind-clause-grows : goal.returns-in_err-bind-clause-grows
returns-in_err-bind-clause-grows g c =
    let types = c.args.types.now in
    grows_on types types types c.args.store.now c.apply_cell.new.store c.bind.new.store (grows_terms types c.args.store.now c.apply_cell.new.store c.in_ok-term.ensures.adds) c.in_err-bind.ensures.grows

pub returns-clause-grows : goal.returns-clause-grows
returns-clause-grows g c =
    let types = c.args.types.now in
    grows_on types types types c.args.store.now c.apply_cell.new.store c.bind.new.store (grows_terms types c.args.store.now c.apply_cell.new.store c.in_ok-term.ensures.adds) c.in_ok-bind.ensures.grows

pub returns-clause-changed : goal.returns-clause-changed
returns-clause-changed g c =
    let types = c.args.types.now in
    let store = c.args.store.now in
    let middle = c.apply_cell.new.store in
    let F = c.args.flexible.now.items in
    let cell = c.args.cell in
    let y = cell_variable types store cell in
    let change = begun (codes "x") (cells_read types store) (variables_read types store F) y in
    let rest_is : c.remove.new.self.items ≡ others_than cell F = c.remove.ensures in
    let was : Changed types store (others_than cell F) change types middle c.remove.new.self.items =
    subst (λ l. Changed types store (others_than cell F) change types middle l) (sym rest_is)
    (changed_on types store (others_than cell F) change types store middle (others_than cell F) (begins types store c.requires.store F c.requires.free cell) c.in_ok-term.ensures.adds) in
    let done = c.in_ok-bind.ensures.changed types store F c.remove.new.self.items change was c.requires.listed (λ m. (was_other cell cell F (subst (λ l. Contains l cell) rest_is m)).1 refl) in
    subst (λ p. Changed types store F (record { cells = cells_read types store; flexible = without y (variables_read types store F); pairs = p }) types c.bind.new.store c.remove.new.self.items)
    (same_pair types store middle c.in_ok-term.ensures.adds cell c.args.other c.args.names.now c.args.others.now c.in_ok-term.term c.in_ok-term.ensures.reads)
    done
