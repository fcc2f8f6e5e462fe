use Rattle.std.proofs.Common.{◌<◌, sym, ap, ◌∙◌, arith}
use Rattle.ab_norm.specs.ab_types.specs.Ids.{type_of, constant_of}
use Rattle.ab_norm.specs.ab_store.specs.Trees.{Holds, tree_of, node_tree}
use Rattle.ab_norm.proofs.Frame.{if_ok, typed_on, lam_names}
use Rattle.ab_logic.specs.Forms.{sign_of}
use Rattle.ab_judgement_forms.proofs.Opened.{opens_spine, opens_other, made_pi, made_imply, made_with}
use Rattle.ab_judgement_forms.proofs.opened_goals.+opened.Goals as goal

pub open-open_under-requires : goal.open-open_under-requires
open-open_under-requires t c =
    let below = c.in-Pi.ensures.below in (
      omega (arith, below, c.decreases),
      (
        c.requires.store,
        (
          c.requires.manner,
          (
            c.requires.list,
            (
              c.requires.goal,
              (omega (arith, below, c.requires.goal), (c.in-Pi.ensures.typed c.args.types.now c.requires.store, sym (c.in-Pi.ensures.reads c.args.types.now))),
            ),
          ),
        ),
      ),
    )

-- `=>`
pub open-open-requires : goal.open-open-requires
open-open-requires t c =
    let adds = c.in_ok-longer-in-Imply.ensures.adds in
    let below = c.in-Imply.ensures.below.1 in
    (omega (arith, below, c.decreases), (adds.typed, (c.requires.manner, (c.in_ok-longer-in-Imply.ensures.held, adds.before.ids c.in-Imply.inner (omega (arith, below, c.requires.goal))))))

pub open-returns-in_ok-longer-in-Imply-clause-tree : goal.open-returns-in_ok-longer-in-Imply-clause-tree
open-returns-in_ok-longer-in-Imply-clause-tree t c =
    let T = c.args.types.now in
    let S = c.args.store.now in
    let adds = c.in_ok-longer-in-Imply.ensures.adds in
    let there : Holds S c.in-Imply.inner = omega (arith, c.in-Imply.ensures.below.1, c.requires.goal) in
    if_ok c.open.result (λ r opened.
    made_imply T (sign_of c.args.manner.sign) S c.between.new.store c.open.new.store c.open.new.store c.args.list c.args.goal r
    (constant_of T c.args.manner.cons).name c.in-Imply.formula c.in-Imply.inner c.in_ok-longer-in-Imply.longer
    (sym (c.in-Imply.ensures.reads T)) c.requires.manner.1 (adds.before.trees T c.in-Imply.inner there) c.in_ok-longer-in-Imply.ensures.tree opened) c.open.ensures.tree

pub open-returns-in_ok-longer-in-Imply-clause-adds : goal.open-returns-in_ok-longer-in-Imply-clause-adds
open-returns-in_ok-longer-in-Imply-clause-adds t c = typed_on c.args.types.now c.args.store.now c.between.new.store c.open.new.store c.in_ok-longer-in-Imply.ensures.adds c.open.ensures.adds

pub open_under-returns-in-Spine-clause-tree : goal.open_under-returns-in-Spine-clause-tree
open_under-returns-in-Spine-clause-tree t c =
    let T = c.args.types.now in
    let S = c.args.store.now in
    if_ok c.marked_judgement.result (λ r made.
    made ∙ opens_spine (sign_of c.args.manner.sign) (tree_of T S c.args.list) (tree_of T S c.args.goal) (tree_of T S c.args.abstraction) (type_of T c.args.ty) _ _ c.requires.shape (c.view.ensures.tree T ∙ ap (node_tree T S) c.in-Spine.is)) c.marked_judgement.ensures.tree

-- neither
pub open-returns-in-Other-clause-tree : goal.open-returns-in-Other-clause-tree
open-returns-in-Other-clause-tree t c =
    let T = c.args.types.now in
    let S = c.args.store.now in
    if_ok c.marked_judgement.result (λ r made. made ∙ opens_other (sign_of c.args.manner.sign) (tree_of T S c.args.list) (tree_of T S c.args.goal) (sym (c.in-Other.ensures.reads T))) c.marked_judgement.ensures.tree

-- `&`
pub open-returns-in_err-second-in-With-clause-adds : goal.open-returns-in_err-second-in-With-clause-adds
open-returns-in_err-second-in-With-clause-adds t c =
    typed_on c.args.types.now c.args.store.now c.open-in-With.new.store c.open-in-With-2.new.store c.in_ok-first-in-With.ensures.adds c.open-in-With-2.ensures.adds

pub open-returns-in_ok-second-in-With-clause-tree : goal.open-returns-in_ok-second-in-With-clause-tree
open-returns-in_ok-second-in-With-clause-tree t c =
    let T = c.args.types.now in
    let S = c.args.store.now in
    let one = c.in_ok-first-in-With.ensures.adds in
    let two = c.in_ok-second-in-With.ensures.adds in
    let there : Holds S c.in-With.right = omega (arith, c.in-With.ensures.below.1, c.requires.goal) in
    if_ok c.between-in-With.result (λ r made.
    made_with T (sign_of c.args.manner.sign) S c.open-in-With.new.store c.open-in-With-2.new.store c.between-in-With.new.store c.args.list c.args.goal r
    c.in-With.left c.in-With.right c.in_ok-first-in-With.first c.in_ok-second-in-With.second
    (sym (c.in-With.ensures.reads T)) c.in_ok-first-in-With.ensures.tree (one.before.trees T c.args.list c.requires.list) (one.before.trees T c.in-With.right there)
    (two.before.trees T c.in_ok-first-in-With.first c.in_ok-first-in-With.ensures.held) c.in_ok-second-in-With.ensures.tree made) c.between-in-With.ensures.tree

pub open-returns-in_ok-second-in-With-clause-adds : goal.open-returns-in_ok-second-in-With-clause-adds
open-returns-in_ok-second-in-With-clause-adds t c =
    let T = c.args.types.now in
    let S = c.args.store.now in
    typed_on T S c.open-in-With-2.new.store c.between-in-With.new.store
    (typed_on T S c.open-in-With.new.store c.open-in-With-2.new.store c.in_ok-first-in-With.ensures.adds c.in_ok-second-in-With.ensures.adds) c.between-in-With.ensures.adds

-- `pi`
pub open_under-open-requires : goal.open_under-open-requires
open_under-open-requires t c =
    let T = c.args.types.now in
    let adds = c.in_ok-longer-in-Lam.ensures.adds in
    let below : c.in-Lam.body.0 < c.args.abstraction.0 = lam_names _ _ _ _ _ _ c.in-Lam.is c.view.ensures.earlier in
    let there : Holds c.args.store.now c.in-Lam.body = omega (arith, below, c.requires.abstraction) in
    (omega (arith, below, c.decreases), (adds.typed, (c.requires.manner, (c.in_ok-longer-in-Lam.ensures.held, adds.before.ids c.in-Lam.body there))))

pub open_under-returns-in_err-opened-in-Lam-clause-adds : goal.open_under-returns-in_err-opened-in-Lam-clause-adds
open_under-returns-in_err-opened-in-Lam-clause-adds t c =
    typed_on c.args.types.now c.args.store.now c.under_binder.new.store c.open.new.store c.in_ok-longer-in-Lam.ensures.adds c.open.ensures.adds

pub open_under-returns-in_ok-opened-in-Lam-clause-tree : goal.open_under-returns-in_ok-opened-in-Lam-clause-tree
open_under-returns-in_ok-opened-in-Lam-clause-tree t c =
    let T = c.args.types.now in
    let S = c.args.store.now in
    let adds = c.in_ok-longer-in-Lam.ensures.adds in
    let below : c.in-Lam.body.0 < c.args.abstraction.0 = lam_names _ _ _ _ _ _ c.in-Lam.is c.view.ensures.earlier in
    let there : Holds S c.in-Lam.body = omega (arith, below, c.requires.abstraction) in
    if_ok c.nabla.result (λ r made.
    made_pi T (sign_of c.args.manner.sign) S c.under_binder.new.store c.open.new.store c.nabla.new.store c.args.list c.args.goal r
    (type_of T c.args.ty) _ _ _ c.args.abstraction c.in-Lam.body c.in_ok-longer-in-Lam.longer c.in_ok-opened-in-Lam.opened
    c.requires.shape (c.view.ensures.tree T ∙ ap (node_tree T S) c.in-Lam.is) c.in_ok-hint-in-Lam.ensures
    (adds.before.trees T c.in-Lam.body there) c.in_ok-longer-in-Lam.ensures.tree c.in_ok-opened-in-Lam.ensures.tree made) c.nabla.ensures.tree

pub open_under-returns-in_ok-opened-in-Lam-clause-adds : goal.open_under-returns-in_ok-opened-in-Lam-clause-adds
open_under-returns-in_ok-opened-in-Lam-clause-adds t c =
    let T = c.args.types.now in
    let S = c.args.store.now in
    typed_on T S c.open.new.store c.nabla.new.store
    (typed_on T S c.under_binder.new.store c.open.new.store c.in_ok-longer-in-Lam.ensures.adds c.in_ok-opened-in-Lam.ensures.adds) c.nabla.ensures.adds
