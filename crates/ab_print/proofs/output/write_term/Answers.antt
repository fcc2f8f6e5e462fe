use Rattle.std.proofs.Common.{ℕ, List, [], length, ◌∙◌, ap, sym, subst, arith}
use Rattle.std.proofs.lemmas.List.{append-nil}
use Rattle.ab_print.specs.declared.drawings.Seen.{Seen}
use Rattle.ab_print.specs.Drawings.{IsSound}
use Rattle.ab_print.specs.Places.{places_of, own_name}
use Rattle.ab_print.specs.BinderNames.{is_this}
use Rattle.ab_print.proofs.Telling.{told_first}
use Rattle.ab_print.proofs.output.write_term.Goals as goal

pub name_alone-requires-clause-ready : goal.name_alone-requires-clause-ready
name_alone-requires-clause-ready c = record {
  seen = c.draw.new.seen.items;
  start = 0;
  end = length c.draw.new.seen.items;
  sound = subst (λ (n : ℕ). IsSound c.args.types.now c.args.store.now c.draw.new.seen.items n 0 (length c.draw.new.seen.items) c.in_ok-drawing.drawing) (sym (ap length c.new-names.ensures.items))
      (subst (λ (w : List Seen). IsSound c.args.types.now c.args.store.now w 0 0 (length c.draw.new.seen.items) c.in_ok-drawing.drawing) (append-nil c.draw.new.seen.items)
      (c.in_ok-drawing.ensures.sound [] 0 (length c.draw.new.seen.items) (omega arith) (omega arith)));
  told = told_first c.args.types.now c.args.store.now c.in_ok-places.places c.new-names.result.items c.draw.new.seen.items c.new-names.ensures.items
      (λ x. c.in_ok-places.ensures x ∙ ap (λ (w : List Seen). places_of (λ s. is_this x (own_name c.args.types.now c.args.store.now s)) 0 w) c.deref.ensures.value);
}
