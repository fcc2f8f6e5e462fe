use Rattle.std.proofs.Common.{◌≡◌, ◌++◌, sym, ◌∙◌, ap, subst}
use Rattle.std.proofs.lemmas.List.{length-map}
use Rattle.std.proofs.lemmas.Result.{on_ok_weaker, on_err_weaker}
use Rattle.std.specs.List.{All}
use Rattle.ab_norm.specs.ab_store.specs.Trees.{head_reading}
use Rattle.ab_norm.specs.ab_store.specs.Reading.{bound_in}
use Rattle.ab_norm.specs.ab_store.specs.Naming.{HoldsHead, HeadIsTyped}
use Rattle.ab_norm.specs.ab_store.proofs.Growing.{extended_on}
use Rattle.ab_unifiers.specs.Patterns.{kept}
use Rattle.ab_patterns.proofs.Bound.{still_term}
use Rattle.ab_patterns.proofs.Narrowed.{kept_all, are_names, term_apart, term_resolved, value_fits, narrowed_reads}
use Rattle.ab_patterns.proofs.narrow_cells.narrow.Goals as goal

pub apply_cell-requires-clause-names : goal.apply_cell-requires-clause-names
apply_cell-requires-clause-names g c =
    let which : c.deref.result.now ≡ kept c.args.keep.now c.args.names.now = c.deref.ensures.value ∙ c.in_ok-keep_heads.ensures ∙ ap (λ l. l ++ kept c.args.keep.now c.args.names.now) c.new-left.ensures.items in
    subst (All (HoldsHead c.args.store.now)) (sym which) (kept_all (HoldsHead c.args.store.now) c.args.keep.now c.args.names.now c.requires.names_held)

pub apply_cell-requires-clause-typed_names : goal.apply_cell-requires-clause-typed_names
apply_cell-requires-clause-typed_names g c =
    let which : c.deref.result.now ≡ kept c.args.keep.now c.args.names.now = c.deref.ensures.value ∙ c.in_ok-keep_heads.ensures ∙ ap (λ l. l ++ kept c.args.keep.now c.args.names.now) c.new-left.ensures.items in
    subst (All (HeadIsTyped c.args.types.now)) (sym which) (kept_all (HeadIsTyped c.args.types.now) c.args.keep.now c.args.names.now c.requires.names_typed)

pub put-requires-clause-unbound : goal.put-requires-clause-unbound
put-requires-clause-unbound g c = ap (λ bs. bound_in bs c.args.cell) c.in_ok-term.ensures.adds.before.bindings ∙ c.requires.unbound

pub put-requires-clause-resolved : goal.put-requires-clause-resolved
put-requires-clause-resolved g c =
    let types = c.args.types.now in
    let adds = c.in_ok-term.ensures.adds in
    let which : c.deref.result.now ≡ kept c.args.keep.now c.args.names.now = c.deref.ensures.value ∙ c.in_ok-keep_heads.ensures ∙ ap (λ l. l ++ kept c.args.keep.now c.args.names.now) c.new-left.ensures.items in
    term_resolved types c.args.store.now c.apply_cell.new.store adds.before adds.cells c.args.cell c.args.made c.args.names.now c.deref.result.now c.args.keep.now c.in_ok-term.term which c.in_ok-term.ensures.reads (are_names (head_reading types c.args.store.now) c.args.names.now c.requires.are_names) c.requires.made_unbound

pub put-requires-clause-apart : goal.put-requires-clause-apart
put-requires-clause-apart g c =
    let types = c.args.types.now in
    let adds = c.in_ok-term.ensures.adds in
    let which : c.deref.result.now ≡ kept c.args.keep.now c.args.names.now = c.deref.ensures.value ∙ c.in_ok-keep_heads.ensures ∙ ap (λ l. l ++ kept c.args.keep.now c.args.names.now) c.new-left.ensures.items in
    term_apart types c.args.store.now c.apply_cell.new.store adds.before adds.cells c.args.cell c.args.made c.args.names.now c.deref.result.now c.args.keep.now c.in_ok-term.term which c.in_ok-term.ensures.reads (are_names (head_reading types c.args.store.now) c.args.names.now c.requires.are_names) c.requires.other

pub put-requires-clause-fits : goal.put-requires-clause-fits
put-requires-clause-fits g c =
    let types = c.args.types.now in
    let adds = c.in_ok-term.ensures.adds in
    let which : c.deref.result.now ≡ kept c.args.keep.now c.args.names.now = c.deref.ensures.value ∙ c.in_ok-keep_heads.ensures ∙ ap (λ l. l ++ kept c.args.keep.now c.args.names.now) c.new-left.ensures.items in
    value_fits types c.args.store.now c.apply_cell.new.store adds.before adds.cells c.args.cell c.args.made c.args.names.now c.deref.result.now c.args.keep.now c.in_ok-term.term which c.in_ok-term.ensures.reads (are_names (head_reading types c.args.store.now) c.args.names.now c.requires.are_names) c.requires.ty c.requires.fits.0 c.requires.fits.1 c.requires.fits.2 (c.requires.flags ∙ sym (length-map c.args.names.now (head_reading types c.args.store.now))) c.requires.cell

pub returns-clause-reads : goal.returns-clause-reads
returns-clause-reads g c =
    let types = c.args.types.now in
    let adds = c.in_ok-term.ensures.adds in
    let which : c.deref.result.now ≡ kept c.args.keep.now c.args.names.now = c.deref.ensures.value ∙ c.in_ok-keep_heads.ensures ∙ ap (λ l. l ++ kept c.args.keep.now c.args.names.now) c.new-left.ensures.items in
    on_ok_weaker c.put.result (λ put r held. narrowed_reads types c.args.store.now c.apply_cell.new.store adds.before adds.cells c.args.cell c.args.made c.args.names.now c.deref.result.now c.args.keep.now c.in_ok-term.term which c.in_ok-term.ensures.reads (are_names (head_reading types c.args.store.now) c.args.names.now c.requires.are_names) c.put.new.store r held (put r (adds.before.ids r held))) c.put.ensures.reads

pub returns-clause-trees : goal.returns-clause-trees
returns-clause-trees g c = λ r held.
    let adds = c.in_ok-term.ensures.adds in
    let there = c.put.ensures.trees r (adds.before.ids r held) in
    (there.0, there.1 ∙ adds.before.trees c.args.types.now r held)

pub returns-clause-err : goal.returns-clause-err
returns-clause-err g c = on_err_weaker c.put.result (λ more. extended_on c.args.store.now c.apply_cell.new.store c.put.new.store c.in_ok-term.ensures.adds.before more) c.put.ensures.err

pub returns-in_err-term-clause-terms : goal.returns-in_err-term-clause-terms
returns-in_err-term-clause-terms g c = λ G r A is. still_term c.args.types.now c.args.store.now c.apply_cell.new.store c.in_err-term.ensures.adds.before G r A is

pub returns-clause-terms : goal.returns-clause-terms
returns-clause-terms g c = λ G r A is. c.put.ensures.terms G r A (still_term c.args.types.now c.args.store.now c.apply_cell.new.store c.in_ok-term.ensures.adds.before G r A is)

pub returns-in_err-term-clause-free : goal.returns-in_err-term-clause-free
returns-in_err-term-clause-free g c = λ y other free. ap (λ bs. bound_in bs y) c.in_err-term.ensures.adds.before.bindings ∙ free

pub returns-clause-free : goal.returns-clause-free
returns-clause-free g c = λ y other free. c.put.ensures.free y other (ap (λ bs. bound_in bs y) c.in_ok-term.ensures.adds.before.bindings ∙ free)
