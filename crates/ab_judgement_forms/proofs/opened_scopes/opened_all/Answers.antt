use Rattle.std.proofs.Common.{◌≡◌, ◌<◌, ◌++◌, ◌≤◌, ◌==◌, ℕ, List, [], ◌∷◌, map, take, length, get_or, cond, take_all, length-take-le, arith, sym, ap, ◌∙◌}
use Rattle.std.proofs.lemmas.List.{map_more, length-map}
use Rattle.ab_term.specs.Logical.{truth}
use Rattle.ab_term.specs.Terms.{logical, spine, terms_of, Read}
use Rattle.ab_norm.specs.ab_store.specs.declared.node.TermId.{TermId}
use Rattle.ab_norm.specs.ab_store.specs.Trees.{Holds, tree_of}
use Rattle.ab_norm.proofs.Frame.{typed_on}
use Rattle.ab_logic.specs.Forms.{sign_of}
use Rattle.ab_theory.specs.Opening.{both, conjunction_of}
use Rattle.ab_judgement_forms.proofs.ClosedInTurn.{map_then}
use Rattle.ab_judgement_forms.proofs.ScopesOpened.{opened_at, still_opened}
use Rattle.ab_judgement_forms.proofs.StandInsMade.{joined_more}
use Rattle.ab_judgement_forms.proofs.opened_scopes.opened_all.Goals as goal

pub loop-i-init : goal.loop-i-init
loop-i-init g c =
    let T = c.args.types.now in
    let S = c.args.store.now in
    record {
      held = c.in_ok-formula.ensures.held;
      tree = c.in_ok-formula.ensures.tree T ∙ ap (λ (ids : List TermId). spine (logical truth) (terms_of (map (tree_of T S) ids))) c.new.ensures.items;
      adds = record { before = c.spine.ensures.before; cells = c.spine.ensures.cells; typed = c.spine.ensures.typed T c.requires.store tt };
      steps = omega arith;
    }

pub returns-in_err-formula-2-clause-adds : goal.returns-in_err-formula-2-clause-adds
returns-in_err-formula-2-clause-adds g c =
    let T = c.args.types.now in
    let S = c.args.store.now in
    typed_on T S c.opened_scope.new.store c.join_goals.new.store (typed_on T S c.loop-i.store c.opened_scope.new.store c.loop-i.invariant.adds c.opened_scope.ensures.adds) c.join_goals.ensures.adds

pub returns-in_err-opened-clause-adds : goal.returns-in_err-opened-clause-adds
returns-in_err-opened-clause-adds g c = typed_on c.args.types.now c.args.store.now c.loop-i.store c.opened_scope.new.store c.loop-i.invariant.adds c.opened_scope.ensures.adds

pub loop-i-preserved : goal.loop-i-preserved
loop-i-preserved g c =
    let T = c.args.types.now in
    let S = c.args.store.now in
    let l = c.loop-i in
    let inv = l.invariant in
    let U = c.opened_scope.new.store in
    let V = c.join_goals.new.store in
    let m = sign_of c.args.opening.manner.sign in
    let list = c.args.opening.list in
    let names = c.args.names.now in
    let scopes = c.args.scopes.now in
    let d : TermId = record { 0 = 0 } in
    let s = get_or scopes l.i d in
    let within : l.i < length scopes = omega (arith, c.loop-i-test.true) in
    let there : Holds S s = c.requires.scopes l.i d within in
    let f : TermId → Read = (λ t. opened_at T m list names S (tree_of T S t)) in
    let done = map f (take l.i scopes) in
    let count : length done ≡ l.i = length-map (take l.i scopes) f ∙ length-take-le l.i scopes (omega arith) in
    let opened_is : tree_of T U c.in_ok-opened.opened ≡ f s =
    c.in_ok-opened.ensures.tree
    ∙ ap (opened_at T m list names l.store) (inv.adds.before.trees T s there)
    ∙ still_opened T m list names S l.store inv.adds c.requires.list c.requires.names (tree_of T S s) in
    let formula_is : tree_of T U l.formula ≡ conjunction_of done = c.opened_scope.ensures.adds.before.trees T l.formula inv.held ∙ inv.tree in
    record {
      held = c.in_ok-formula-2.ensures.held;
      tree = c.in_ok-formula-2.ensures.tree
          ∙ ap (λ t. cond (l.i == 0) t (both (tree_of T U l.formula) t)) opened_is
          ∙ ap (λ F. cond (l.i == 0) (f s) (both F (f s))) formula_is
          ∙ joined_more l.i done (f s) count
          ∙ ap conjunction_of (sym (map_more f scopes l.i d within));
      adds = typed_on T S U V (typed_on T S l.store U inv.adds c.opened_scope.ensures.adds) c.join_goals.ensures.adds;
      steps = omega (arith, inv.steps, c.opened_scope.ensures.steps);
    }

pub returns-clause-tree : goal.returns-clause-tree
returns-clause-tree g c =
    let T = c.args.types.now in
    let S = c.args.store.now in
    let m = sign_of c.args.opening.manner.sign in
    let list = c.args.opening.list in
    let names = c.args.names.now in
    let f : TermId → Read = (λ t. opened_at T m list names S (tree_of T S t)) in
    c.loop-i.invariant.tree
    ∙ ap (λ ts. conjunction_of (map f ts)) (take_all c.loop-i.i c.args.scopes.now (omega (arith, c.loop-i-test.false)))
    ∙ ap conjunction_of (sym (map_then (tree_of T S) (opened_at T m list names S) c.args.scopes.now))
