use Rattle.std.specs.Prelude.{slice_get}
use Rattle.std.specs.Option.{option_map}
use Rattle.std.proofs.Common.{◌∙◌, sym, ap}
use Rattle.std.proofs.lemmas.Option.{slice_get-map}
use Rattle.ab_logic.specs.Additions.{entries_of}
use Rattle.ab_logic.proofs.Declaring.{shown, theorems_are, kept_places, assumptions_are}
use Rattle.ab_logic.proofs.world.World.theorem_at.Goals as goal

pub returns-clause-reads : goal.returns-clause-reads
returns-clause-reads c =
    let w = c.args.self.now in
    ap (option_map (shown w)) c.theorem_at.ensures
    ∙ sym (slice_get-map (shown w) (entries_of w.additions) c.args.place)
    ∙ ap (λ xs. slice_get xs c.args.place) (sym (theorems_are w 0 w.additions))

pub returns-clause-assumes : goal.returns-clause-assumes
returns-clause-assumes c =
    let w = c.args.self.now in
    ap (option_map kept_places) c.theorem_at.ensures
    ∙ sym (slice_get-map kept_places (entries_of w.additions) c.args.place)
    ∙ ap (λ xs. slice_get xs c.args.place) (sym (assumptions_are w 0 w.additions))
