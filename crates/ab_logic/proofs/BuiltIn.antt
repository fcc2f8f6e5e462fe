-- Every world has what is built in for lists: its table begins with it.
use Rattle.std.proofs.Common.{◌≡◌, Some, codes, refl, sym, subst}
use Rattle.ab_term.specs.Types.{olist}
use Rattle.ab_term.specs.Typing as typing
use Rattle.ab_term.specs.Typing.{Signature}
use Rattle.ab_unifiers.specs.Member.{HasMember}
use Rattle.ab_store.specs.ab_types.specs.Entries.{signature, first_entries}
use Rattle.ab_store.specs.ab_types.proofs.Entries.{same_signature}
use Rattle.ab_formulas.specs.Declarations.{signature_in}
use Rattle.ab_logic.specs.Worlds.{declarations_of, IsWorld}
use Rattle.ab_logic.specs.declared.world.World.{World}
use Rattle.ab_logic.proofs.Growing.{same_constants}

module _ (w : World) (is : IsWorld w) where
  larger : typing.IsExtendedBy (signature first_entries) (signature_in (declarations_of w))
  larger =
      subst (typing.IsExtendedBy (signature first_entries)) (same_constants w is)
      (subst (λ t. typing.IsExtendedBy (signature first_entries) (signature t)) (sym is.begins.1) (same_signature first_entries is.begins.0))

  pub has_member : HasMember (signature_in (declarations_of w))
  has_member = record { member = larger (codes "member") _ refl; cons = larger (codes "::") _ refl }

  pub has_nil : signature_in (declarations_of w) (codes "nil") ≡ Some olist
  has_nil = larger (codes "nil") olist refl
