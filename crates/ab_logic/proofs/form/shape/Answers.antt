use Rattle.std.proofs.Common.{sym, ap, ◌∙◌, subst, rules}
use Rattle.ab_store.specs.Naming.{HeadIsTyped}
use Rattle.ab_store.specs.Trees.{node_tree, logical_of}
use Rattle.ab_logic.specs.Worlds.{read}
use Rattle.ab_formulas.specs.Forms.{form_of}
use Rattle.ab_store.specs.declared.node.Node.TheVariants.{Spine}
use Rattle.ab_logic.proofs.Counts.{many}
use Rattle.ab_logic.proofs.form.shape.Goals as goal

pub returns-then-args-eq0-clause-held : goal.returns-then-args-eq0-clause-held
returns-then-args-eq0-clause-held c = c.form_alone.ensures.held c.args.world.now

pub returns-else-args-eq2-clause-reads : goal.returns-else-args-eq2-clause-reads
returns-else-args-eq2-clause-reads c =
    let w = c.args.world.now in
    let e = many (logical_of w.types c.in-Logic.logical) (read w) c.in-Spine.args (search rules) (search rules) (search rules) in
    sym (ap form_of (c.view.ensures.tree w.types)
    ∙ ap (λ n. form_of (node_tree w.types w.store n)) c.in-Spine.is
    ∙ ap (λ h. form_of (node_tree w.types w.store (Spine h c.in-Spine.args))) c.in-Logic.is
    ∙ e)

pub returns-then-args-eq0-clause-typed : goal.returns-then-args-eq0-clause-typed
returns-then-args-eq0-clause-typed c typed =
    let w = c.args.world.now in
    let node : HeadIsTyped w.types c.in-Spine.head = rw c.in-Spine.is at c.view.ensures.typed w.types typed.typed in
    c.form_alone.ensures.typed w (subst (HeadIsTyped w.types) c.in-Logic.is node)

pub returns-then-args-eq1-clause-typed : goal.returns-then-args-eq1-clause-typed
returns-then-args-eq1-clause-typed c typed =
    let w = c.args.world.now in
    let node : HeadIsTyped w.types c.in-Spine.head = rw c.in-Spine.is at c.view.ensures.typed w.types typed.typed in
    c.form_with.ensures.typed w (subst (HeadIsTyped w.types) c.in-Logic.is node)

pub returns-then-args-eq2-clause-typed : goal.returns-then-args-eq2-clause-typed
returns-then-args-eq2-clause-typed c typed =
    let w = c.args.world.now in
    let node : HeadIsTyped w.types c.in-Spine.head = rw c.in-Spine.is at c.view.ensures.typed w.types typed.typed in
    c.form_between.ensures.typed w (subst (HeadIsTyped w.types) c.in-Logic.is node)
