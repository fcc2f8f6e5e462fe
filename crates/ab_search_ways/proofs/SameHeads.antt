-- Heads that are the same, read in the table of a world.
use Rattle.std.proofs.Common.{◌≡◌, ◌↔◌, Bool, true, false, refl, sym, ap}
use Rattle.std.proofs.lemmas.Bool.{false≢true, false_from_ne_true}
use Rattle.ab_term.specs.Sameness.{same_head}
use Rattle.ab_term.proofs.Same.{same_head-Decides}
use Rattle.ab_norm.specs.ab_types.specs.Entries.{Table}
use Rattle.ab_norm.specs.ab_types.specs.Sound.{IsTable}
use Rattle.ab_norm.specs.ab_store.specs.declared.node.Head.{Head}
use Rattle.ab_norm.specs.ab_store.specs.Trees.{Contents, head_reading}
use Rattle.ab_norm.specs.ab_store.specs.Naming.{HeadIsTyped}
use Rattle.ab_norm.proofs.OneHead.{one_head}

pub equal_heads : (types : Table) (store : Contents) → IsTable types → (h g : Head) → HeadIsTyped types h → HeadIsTyped types g → (b : Bool) → (b ≡ true) ↔ (h ≡ g) → b ≡ same_head (head_reading types store h) (head_reading types store g)
equal_heads types store ok h g a b true d = sym ((same_head-Decides (head_reading types store h) (head_reading types store g)).1 (ap (head_reading types store) (d.0 refl)))
equal_heads types store ok h g a b false d =
    sym (false_from_ne_true (same_head (head_reading types store h) (head_reading types store g)) (λ e. false≢true (d.1 (one_head types ok store h g a b ((same_head-Decides (head_reading types store h) (head_reading types store g)).0 e)))))
