use Rattle.std.proofs.Common.{◌≡◌, ◌≢◌, [], ◌∷◌, length, map, sym, ap, subst, ◌∙◌, rules}
use Rattle.ab_term.specs.Terms.{logical, spine, terms_of}
use Rattle.ab_norm.specs.ab_types.specs.Ids.{type_of}
use Rattle.ab_norm.specs.ab_store.specs.Trees.{tree_of, logical_of}
use Rattle.ab_norm.specs.ab_store.specs.declared.node.Logical.TheVariants.{Pi}
use Rattle.ab_search_ways.specs.Blindness.{atoms_of, IsSeen}
use Rattle.ab_search_ways.proofs.OtherCounts.{atom_by_with, atom_by_imply, atom_by_pi, imply_atoms, one_term}
use Rattle.ab_search_ways.proofs.blindness.seen_by.Goals as goal

pub returns-else-args-eq2-clause-seen : goal.returns-else-args-eq2-clause-seen
returns-else-args-eq2-clause-seen c = λ types.
    let f = tree_of types c.args.store.now in
    let ts = terms_of (map f c.args.args.now) in
    let other : length c.args.args.now ≢ 2 = search rules in
    subst (λ l. let F = spine (logical (logical_of types l)) ts in atoms_of F ≡ F ∷ []) (sym c.in-With.is) (atom_by_with f c.args.args.now other)

pub returns-then-args-eq2-2-clause-seen : goal.returns-then-args-eq2-2-clause-seen
returns-then-args-eq2-2-clause-seen c = λ types.
    let f = tree_of types c.args.store.now in
    let ts = terms_of (map f c.args.args.now) in
    let two : length c.args.args.now ≡ 2 = search rules in
    ap (λ l. atoms_of (spine (logical (logical_of types l)) ts)) c.in-Imply.is ∙ imply_atoms f (record { 0 = 0 }) c.args.args.now two

pub returns-else-args-eq2-2-clause-seen : goal.returns-else-args-eq2-2-clause-seen
returns-else-args-eq2-2-clause-seen c = λ types.
    let f = tree_of types c.args.store.now in
    let ts = terms_of (map f c.args.args.now) in
    let other : length c.args.args.now ≢ 2 = search rules in
    subst (λ l. let F = spine (logical (logical_of types l)) ts in atoms_of F ≡ F ∷ []) (sym c.in-Imply.is) (atom_by_imply f c.args.args.now other)

pub returns-then-args-eq1-clause-seen : goal.returns-then-args-eq1-clause-seen
returns-then-args-eq1-clause-seen c = λ types.
    let S = c.args.store.now in
    let f = tree_of types S in
    let one : length c.args.args.now ≡ 1 = search rules in
    subst (λ l. IsSeen types S (spine (logical (logical_of types l)) (terms_of (map f c.args.args.now))) c.under_pi.result) (sym c.in-Pi.is)
    (subst (λ ts. IsSeen types S (spine (logical (logical_of types (Pi c.in-Pi.field-0))) ts) c.under_pi.result) (sym (one_term f (record { 0 = 0 }) c.args.args.now one)) (c.under_pi.ensures.seen types (type_of types c.in-Pi.field-0)))

pub returns-else-args-eq1-clause-seen : goal.returns-else-args-eq1-clause-seen
returns-else-args-eq1-clause-seen c = λ types.
    let f = tree_of types c.args.store.now in
    let ts = terms_of (map f c.args.args.now) in
    let other : length c.args.args.now ≢ 1 = search rules in
    subst (λ l. let F = spine (logical (logical_of types l)) ts in atoms_of F ≡ F ∷ []) (sym c.in-Pi.is) (atom_by_pi f (type_of types c.in-Pi.field-0) c.args.args.now other)
