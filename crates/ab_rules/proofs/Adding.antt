-- What a call that makes terms leaves of a world, one call after another.
use Rattle.std.proofs.Common.{List, refl, ◌∙◌}
use Rattle.ab_norm.specs.ab_types.specs.Entries.{Table}
use Rattle.ab_norm.specs.ab_store.specs.Trees.{Contents}
use Rattle.ab_norm.specs.NodeGrowth.{AddsTerms, AddsTypedTerms}
use Rattle.ab_logic.specs.Worlds.{IsWorld}
use Rattle.ab_logic.specs.declared.world.World.{World}
use Rattle.ab_logic.specs.declared.additions.Added.{Added}
use Rattle.ab_logic.proofs.Growing.{grows_not, grows_on, grows_store}
use Rattle.ab_rules.specs.Terms.{Adds}
use Rattle.ab_logic.proofs.Declared.{declared_same}

pub adds_not : (w : World) → IsWorld w → Adds w w
adds_not w is = record { grows = grows_not w is; types = refl; cells = refl; declared = refl }

pub adds_on : (u v w : World) → Adds u v → Adds v w → Adds u w
adds_on u v w a b = record { grows = grows_on u v w a.grows b.grows; types = b.types ∙ a.types; cells = b.cells ∙ a.cells; declared = b.declared ∙ a.declared }

pub adds_terms : (types : Table) (old new : Contents) (xs : List Added) → IsWorld (record { types = types; store = old; additions = xs }) → AddsTerms old new
    → Adds (record { types = types; store = old; additions = xs }) (record { types = types; store = new; additions = xs })
adds_terms types old new xs is a =
    let grown = grows_store types old new xs is a.before (a.typed types is.typed) in
    record { grows = grown; types = refl; cells = a.cells; declared = declared_same (record { types = types; store = old; additions = xs }) (record { types = types; store = new; additions = xs }) is grown refl refl }

pub adds_typed : (types : Table) (old new : Contents) (xs : List Added) → IsWorld (record { types = types; store = old; additions = xs }) → AddsTypedTerms types old new
    → Adds (record { types = types; store = old; additions = xs }) (record { types = types; store = new; additions = xs })
adds_typed types old new xs is a =
    let grown = grows_store types old new xs is a.before a.typed in
    record { grows = grown; types = refl; cells = a.cells; declared = declared_same (record { types = types; store = old; additions = xs }) (record { types = types; store = new; additions = xs }) is grown refl refl }
