use Rattle.std.proofs.Common.{refl, sym, ◌∙◌}
use Rattle.std.proofs.lemmas.List.Elements.{All-nil}
use Rattle.ab_store.specs.Reading.{tree_of}
use Rattle.ab_norm.specs.declared.nominal.Swap.{Swap}
use Rattle.ab_norm.specs.Nominals.{HoldsNominal}
use Rattle.ab_norm.proofs.UpTo.{no_renaming, sent, up_to}
use Rattle.ab_norm.proofs.equality_up_to_names.permutation.Goals as goal

pub match_terms-requires-clause-held : goal.match_terms-requires-clause-held
match_terms-requires-clause-held c = rw c.new-decided.ensures.items (All-nil (λ (p : Swap). HoldsNominal c.args.types.now p.from × HoldsNominal c.args.types.now p.to))

pub match_terms-requires-clause-agreed : goal.match_terms-requires-clause-agreed
match_terms-requires-clause-agreed c = λ x y e. absurd (cc (sym (c.new-agreed.ensures x y) ∙ e))

pub returns-then-not-branch-clause-none : goal.returns-then-not-branch-clause-none
returns-then-not-branch-clause-none c =
    let found = rw c.new-decided.ensures.items at c.in_ok-match_terms.ensures.found in
    (λ e. no_renaming c.args.types.now (tree_of c.args.types.now c.args.store.now c.args.a) (tree_of c.args.types.now c.args.store.now c.args.b) c.match_terms.new.decided.items c.in_ok-match_terms.field-0 found c.if-not-branch.true, λ e. refl)

pub returns-clause-permutes : goal.returns-clause-permutes
returns-clause-permutes c =
    let found = rw c.new-decided.ensures.items at c.in_ok-match_terms.ensures.found in
    let all = rw c.deref.ensures.value at c.in_ok-complete.ensures in
    let done = all c.args.types.now c.requires.types found.held in
    rw c.from_vec-pairs.ensures done.0.1

pub returns-clause-held : goal.returns-clause-held
returns-clause-held c =
    let found = rw c.new-decided.ensures.items at c.in_ok-match_terms.ensures.found in
    let all = rw c.deref.ensures.value at c.in_ok-complete.ensures in
    let done = all c.args.types.now c.requires.types found.held in
    rw c.from_vec-pairs.ensures done.0.0

pub returns-clause-sends : goal.returns-clause-sends
returns-clause-sends c =
    let found = rw c.new-decided.ensures.items at c.in_ok-match_terms.ensures.found in
    let all = rw c.deref.ensures.value at c.in_ok-complete.ensures in
    let done = all c.args.types.now c.requires.types found.held in
    rw c.from_vec-pairs.ensures
    (sent c.args.types.now (tree_of c.args.types.now c.args.store.now c.args.a) (tree_of c.args.types.now c.args.store.now c.args.b) c.match_terms.new.decided.items c.in_ok-match_terms.field-0 found c.in_ok-complete.field-0.items c.if-not-branch.false done)

pub returns-clause-none : goal.returns-clause-none
returns-clause-none c =
    let found = rw c.new-decided.ensures.items at c.in_ok-match_terms.ensures.found in
    let all = rw c.deref.ensures.value at c.in_ok-complete.ensures in
    let done = all c.args.types.now c.requires.types found.held in
    (λ e. absurd (cc), λ no_way. absurd (no_way (up_to c.args.types.now (tree_of c.args.types.now c.args.store.now c.args.a) (tree_of c.args.types.now c.args.store.now c.args.b) c.match_terms.new.decided.items c.in_ok-match_terms.field-0 found c.in_ok-complete.field-0.items c.if-not-branch.false done)))
