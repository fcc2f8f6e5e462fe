use Rattle.std.proofs.Common.{ℕ, ◌∙◌, ◌<◌, length, ap, sym, subst}
use Rattle.ab_norm.specs.ab_store.specs.Reading.{bound_in}
use Rattle.ab_norm.specs.ab_store.proofs.Growing.{extended_on}
use Rattle.ab_norm.specs.ab_store.proofs.Rebinding.{bound_others}
use Rattle.ab_patterns.proofs.Bound.{now_bound, still_term, same_nodes, made_apart, made_resolved, made_term, made_reads}
use Rattle.ab_patterns.proofs.bound_cells.put.Goals as goal

pub bind-requires-clause-unbound : goal.bind-requires-clause-unbound
bind-requires-clause-unbound g c =
    let more = extended_on c.args.store.now c.value.new.store c.reserve.new.self c.in_ok-made.ensures.adds.before c.in_ok-reserve.ensures.before in
    ap (λ bs. bound_in bs c.args.cell) more.bindings ∙ c.requires.unbound

pub bind-requires-clause-typed : goal.bind-requires-clause-typed
bind-requires-clause-typed g c =
    let types = c.args.types.now in
    let more = extended_on c.args.store.now c.value.new.store c.reserve.new.self c.in_ok-made.ensures.adds.before c.in_ok-reserve.ensures.before in (
      types,
      made_term types c.args.store.now c.reserve.new.self more (c.in_ok-reserve.ensures.cells ∙ c.in_ok-made.ensures.adds.cells) c.args.cell c.args.names.now c.args.term c.in_ok-made.made
          (c.in_ok-reserve.ensures.before.trees types c.in_ok-made.made c.in_ok-made.ensures.held ∙ c.in_ok-made.ensures.reads)
          c.requires.cell (c.in_ok-reserve.ensures.before.ids c.in_ok-made.made c.in_ok-made.ensures.held) c.requires.fits,
    )

pub bind-requires-clause-apart : goal.bind-requires-clause-apart
bind-requires-clause-apart g c =
    let types = c.args.types.now in
    let more = extended_on c.args.store.now c.value.new.store c.reserve.new.self c.in_ok-made.ensures.adds.before c.in_ok-reserve.ensures.before in
    made_apart types c.args.store.now c.reserve.new.self more (c.in_ok-reserve.ensures.cells ∙ c.in_ok-made.ensures.adds.cells) c.args.cell c.args.names.now c.args.term c.in_ok-made.made
    (c.in_ok-reserve.ensures.before.trees types c.in_ok-made.made c.in_ok-made.ensures.held ∙ c.in_ok-made.ensures.reads) c.requires.apart

pub bind-requires-clause-resolved : goal.bind-requires-clause-resolved
bind-requires-clause-resolved g c =
    let types = c.args.types.now in
    let more = extended_on c.args.store.now c.value.new.store c.reserve.new.self c.in_ok-made.ensures.adds.before c.in_ok-reserve.ensures.before in
    made_resolved types c.args.store.now c.reserve.new.self more (c.in_ok-reserve.ensures.cells ∙ c.in_ok-made.ensures.adds.cells) c.args.cell c.args.names.now c.args.term c.in_ok-made.made
    (c.in_ok-reserve.ensures.before.trees types c.in_ok-made.made c.in_ok-made.ensures.held ∙ c.in_ok-made.ensures.reads) c.requires.resolved

pub returns-in_err-made-clause-terms : goal.returns-in_err-made-clause-terms
returns-in_err-made-clause-terms g c = λ G r A is. still_term c.args.types.now c.args.store.now c.value.new.store c.in_err-made.ensures.adds.before G r A is

pub returns-in_err-reserve-clause-trees : goal.returns-in_err-reserve-clause-trees
returns-in_err-reserve-clause-trees g c = λ r held.
    let more = extended_on c.args.store.now c.value.new.store c.reserve.new.self c.in_ok-made.ensures.adds.before c.in_err-reserve.ensures.before in
    (more.ids r held, more.trees c.args.types.now r held)

pub returns-in_err-reserve-clause-terms : goal.returns-in_err-reserve-clause-terms
returns-in_err-reserve-clause-terms g c = λ G r A is.
    let more = extended_on c.args.store.now c.value.new.store c.reserve.new.self c.in_ok-made.ensures.adds.before c.in_err-reserve.ensures.before in
    still_term c.args.types.now c.args.store.now c.reserve.new.self more G r A is

pub returns-clause-reads : goal.returns-clause-reads
returns-clause-reads g c = λ r held.
    let types = c.args.types.now in
    let more = extended_on c.args.store.now c.value.new.store c.reserve.new.self c.in_ok-made.ensures.adds.before c.in_ok-reserve.ensures.before in
    made_reads types c.args.store.now c.reserve.new.self more (c.in_ok-reserve.ensures.cells ∙ c.in_ok-made.ensures.adds.cells) c.args.cell c.args.names.now c.args.term c.in_ok-made.made
    (c.in_ok-reserve.ensures.before.trees types c.in_ok-made.made c.in_ok-made.ensures.held ∙ c.in_ok-made.ensures.reads) c.requires.resolved c.bind.new.self r held (c.bind.ensures.reads types r (more.ids r held))

pub returns-clause-trees : goal.returns-clause-trees
returns-clause-trees g c = λ r held.
    let types = c.args.types.now in
    let more = extended_on c.args.store.now c.value.new.store c.reserve.new.self c.in_ok-made.ensures.adds.before c.in_ok-reserve.ensures.before in
    (subst (λ ns. r.0 < length ns) (sym c.bind.ensures.nodes) (more.ids r held), same_nodes types c.reserve.new.self c.bind.new.self r c.bind.ensures.nodes c.bind.ensures.cells ∙ more.trees types r held)

pub returns-clause-terms : goal.returns-clause-terms
returns-clause-terms g c = λ G r A is.
    let types = c.args.types.now in
    let more = extended_on c.args.store.now c.value.new.store c.reserve.new.self c.in_ok-made.ensures.adds.before c.in_ok-reserve.ensures.before in
    c.bind.ensures.terms types G r A (still_term types c.args.store.now c.reserve.new.self more G r A is)

pub returns-in_err-made-clause-free : goal.returns-in_err-made-clause-free
returns-in_err-made-clause-free g c = λ y other free. ap (λ bs. bound_in bs y) c.in_err-made.ensures.adds.before.bindings ∙ free

pub returns-in_err-reserve-clause-free : goal.returns-in_err-reserve-clause-free
returns-in_err-reserve-clause-free g c = λ y other free.
    let more = extended_on c.args.store.now c.value.new.store c.reserve.new.self c.in_ok-made.ensures.adds.before c.in_err-reserve.ensures.before in
    ap (λ bs. bound_in bs y) more.bindings ∙ free

pub returns-clause-free : goal.returns-clause-free
returns-clause-free g c = λ y other free.
    let more = extended_on c.args.store.now c.value.new.store c.reserve.new.self c.in_ok-made.ensures.adds.before c.in_ok-reserve.ensures.before in
    ap (λ bs. bound_in bs y) c.bind.ensures.bound
    ∙ bound_others c.reserve.new.self.bindings (record { cell = c.args.cell; term = c.in_ok-made.made }) y (λ e. other (sym (ap (λ (n : ℕ). record { 0 = n }) e)))
    ∙ ap (λ bs. bound_in bs y) more.bindings
    ∙ free

pub returns-clause-bound : goal.returns-clause-bound
returns-clause-bound g c = λ free.
    let more = extended_on c.args.store.now c.value.new.store c.reserve.new.self c.in_ok-made.ensures.adds.before c.in_ok-reserve.ensures.before in
    now_bound c.reserve.new.self.bindings c.args.cell c.in_ok-made.made (ap (λ bs. bound_in bs c.args.cell) more.bindings ∙ c.requires.unbound) (sym (ap (λ bs. bound_in bs c.args.cell) c.bind.ensures.bound) ∙ free)
