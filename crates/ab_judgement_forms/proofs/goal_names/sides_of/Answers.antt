use Rattle.std.proofs.Common.{◌≡◌, ◌<◌, ◌+◌, ◌++◌, Bool, [], ◌∷◌, map, take, length, get_or, true, false, cond, arith, sym, ap, ◌∙◌, length-append, length-take-le, append-nil, subst}
use Rattle.std.specs.Prelude.{not, vec_len}
use Rattle.std.specs.List.{All}
use Rattle.std.proofs.lemmas.List.{map-append, map_more, take_more}
use Rattle.std.proofs.lemmas.List.Elements.{All-push}
use Rattle.ab_norm.specs.ab_types.specs.Entries.{Table}
use Rattle.ab_norm.specs.ab_store.specs.declared.node.CellId.{CellId}
use Rattle.ab_formulas.specs.Sequents.{Variable}
use Rattle.ab_norm.specs.ab_store.specs.Trees.{HoldsCell, tree_of}
use Rattle.ab_logic.specs.Worlds.{variable_at}
use Rattle.ab_theory.specs.SpecRules.{stands_in_goals_alone}
use Rattle.ab_judgement_forms.specs.DemandWalks.{trues, chosen}
use Rattle.ab_judgement_forms.proofs.StoresGrown.{chosen_next, others_next, trues_next}
use Rattle.ab_judgement_forms.proofs.goal_names.sides_of.Goals as goal
use Rattle.ab_judgement_forms.proofs.goal_names.sides_of.Goals.{then-is_closed+in_ok-push-2, else-is_closed+in_ok-push-3}

pub loop-cell-preserved : goal.loop-cell-preserved
loop-cell-preserved c =
    let S = c.args.store.now in
    let l = c.loop-cell in
    let inv = l.invariant in
    let i = l.cell-index in
    let cells = c.args.cells.now in
    let d : CellId = record { 0 = 0 } in
    let a = get_or cells i d in
    let b = c.in_ok-is_closed.is_closed in
    let within : i < length cells = omega (arith, c.loop-cell-test.true) in
    let pushed = c.in_ok-push.ensures.items in
    let more = take_more cells i d within in
    let same : length l.alone.items ≡ length (take i cells) = inv.long ∙ sym (length-take-le i cells (omega arith)) in
    let held : HoldsCell S a = c.requires.cells i d within in
    let q : Table → Variable → Bool = (λ types. stands_in_goals_alone (tree_of types S c.args.atom) (map (tree_of types S) c.args.goals.now)) in
    record {
      alone = λ types.
          pushed
          ∙ ap (λ xs. xs ++ (b ∷ [])) (inv.alone types)
          ∙ ap (λ r. map (q types) (map (variable_at types S) (take i cells)) ++ (r ∷ [])) (c.in_ok-is_closed.ensures types)
          ∙ sym (ap (map (q types)) (map_more (variable_at types S) cells i d within) ∙ map-append (q types) (map (variable_at types S) (take i cells)) (variable_at types S a ∷ []));
      long = ap length pushed ∙ length-append l.alone.items (b ∷ []) ∙ omega (arith, inv.long);
      closed = elim c.if-is_closed.branch [
        | then-is_closed+in_ok-push-2 w ↦ ap (λ v. v.items) w.closed-is ∙ w.in_ok-push-2.ensures.items ∙ ap (λ xs. xs ++ (a ∷ [])) inv.closed ∙ chosen_next l.alone.items (take i cells) true a same c.push.new.self.items (take (i + 1) cells) (pushed ∙ ap (λ r. l.alone.items ++ (r ∷ [])) w.if-is_closed.true) more
        | else-is_closed+in_ok-push-3 w ↦ ap (λ v. v.items) w.closed-is ∙ inv.closed ∙ sym (append-nil (chosen l.alone.items (take i cells))) ∙ chosen_next l.alone.items (take i cells) false a same c.push.new.self.items (take (i + 1) cells) (pushed ∙ ap (λ r. l.alone.items ++ (r ∷ [])) w.if-is_closed.false) more
      ];
      own = elim c.if-is_closed.branch [
        | then-is_closed+in_ok-push-2 w ↦ ap (λ v. v.items) w.own-is ∙ inv.own ∙ sym (append-nil (chosen (map not l.alone.items) (take i cells))) ∙ others_next l.alone.items (take i cells) true a same c.push.new.self.items (take (i + 1) cells) (pushed ∙ ap (λ r. l.alone.items ++ (r ∷ [])) w.if-is_closed.true) more
        | else-is_closed+in_ok-push-3 w ↦ ap (λ v. v.items) w.own-is ∙ w.in_ok-push-3.ensures.items ∙ ap (λ xs. xs ++ (a ∷ [])) inv.own ∙ others_next l.alone.items (take i cells) false a same c.push.new.self.items (take (i + 1) cells) (pushed ∙ ap (λ r. l.alone.items ++ (r ∷ [])) w.if-is_closed.false) more
      ];
      count = elim c.if-is_closed.branch [
        | then-is_closed+in_ok-push-2 w ↦ ap (λ v. v.len) w.closed-is ∙ w.in_ok-push-2.ensures.len ∙ ap (λ k. k + 1) inv.count ∙ trues_next l.alone.items true c.push.new.self.items (pushed ∙ ap (λ r. l.alone.items ++ (r ∷ [])) w.if-is_closed.true)
        | else-is_closed+in_ok-push-3 w ↦ ap (λ v. v.len) w.closed-is ∙ inv.count ∙ (let plain : trues l.alone.items ≡ trues l.alone.items + 0 = omega arith in plain) ∙ trues_next l.alone.items false c.push.new.self.items (pushed ∙ ap (λ r. l.alone.items ++ (r ∷ [])) w.if-is_closed.false)
      ];
      closed_held = elim c.if-is_closed.branch [
        | then-is_closed+in_ok-push-2 w ↦ subst (All (HoldsCell S)) (sym (ap (λ v. v.items) w.closed-is ∙ w.in_ok-push-2.ensures.items)) (All-push (HoldsCell S) l.closed.items a inv.closed_held held)
        | else-is_closed+in_ok-push-3 w ↦ subst (All (HoldsCell S)) (sym (ap (λ v. v.items) w.closed-is)) inv.closed_held
      ];
      own_held = elim c.if-is_closed.branch [
        | then-is_closed+in_ok-push-2 w ↦ subst (All (HoldsCell S)) (sym (ap (λ v. v.items) w.own-is)) inv.own_held
        | else-is_closed+in_ok-push-3 w ↦ subst (All (HoldsCell S)) (sym (ap (λ v. v.items) w.own-is ∙ w.in_ok-push-3.ensures.items)) (All-push (HoldsCell S) l.own.items a inv.own_held held)
      ];
    }
