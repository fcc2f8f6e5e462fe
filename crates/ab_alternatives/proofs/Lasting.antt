-- A defined atom in a world that has grown.
use Rattle.std.specs.List.{All}
use Rattle.std.proofs.Common.{◌≡◌, List, [], ◌∷◌, map, refl, sym, ◌∙◌, ap, subst}
use Rattle.std.proofs.lemmas.List.Elements.{All-head, All-tail, All-weaker}
use Rattle.ab_term.specs.Terms.{terms_of}
use Rattle.ab_term.specs.Constants.{Constant}
use Rattle.ab_norm.specs.ab_types.specs.Ids.{HoldsConstant}
use Rattle.ab_norm.specs.ab_types.proofs.Entries.{holds_constant, same_constant}
use Rattle.ab_norm.specs.ab_store.specs.declared.node.TermId.{TermId}
use Rattle.ab_typing.specs.DefinitionReadings.{name_of}
use Rattle.ab_logic.specs.Forms.{sign_of}
use Rattle.ab_logic.specs.WorldGrowth.{Grows}
use Rattle.ab_logic.specs.Worlds.{Holds, read, definition_of}
use Rattle.ab_logic.specs.declared.world.World.{World}
use Rattle.ab_logic.specs.declared.additions.Addition.TheVariants.{Definition}
use Rattle.ab_logic.proofs.Blocks.{same_definition, still_kept}
use Rattle.ab_alternatives.specs.AtomReadings.{defined_read, HoldsDefined}
use Rattle.ab_alternatives.specs.declared.atoms.DefinedAtom.{DefinedAtom}

module _ (w v : World) (g : Grows w v) where
  same_terms : (ts : List TermId) → All (Holds w) ts → map (read v) ts ≡ map (read w) ts
  same_terms [] all = refl
  same_terms (t ∷ ts) all = ap (λ r. r ∷ map (read v) ts) (g.readings t (All-head (Holds w) t ts all)) ∙ ap (λ l. read w t ∷ l) (same_terms ts (All-tail (Holds w) t ts all))

  module _ (a : DefinedAtom) (h : HoldsDefined w a) where
    pub same_atom : defined_read v a ≡ defined_read w a
    same_atom =
        ap (λ p. record { sign = sign_of a.sign; predicate = p; arguments = terms_of (map (read v) a.arguments.items); block = definition_of v a.block })
        (ap (λ t. name_of t a.predicate) g.types.1 ∙ ap (λ (c : Constant). c.name) (same_constant w.types g.types.0 a.predicate h.predicate))
        ∙ ap (λ l. record { sign = sign_of a.sign; predicate = name_of w.types a.predicate; arguments = terms_of l; block = definition_of v a.block }) (same_terms a.arguments.items h.arguments)
        ∙ ap (λ b. record { sign = sign_of a.sign; predicate = name_of w.types a.predicate; arguments = terms_of (map (read w) a.arguments.items); block = b })
        (same_definition w v g.types.0 g.types.1 g.ids g.readings g.cell_ids g.cells a.block h.block)

    pub still_defined : HoldsDefined v a
    still_defined = record {
      predicate = subst (λ t. HoldsConstant t a.predicate) (sym g.types.1) (holds_constant w.types g.types.0 a.predicate h.predicate);
      arguments = All-weaker (Holds w) (Holds v) g.ids a.arguments.items h.arguments;
      block = still_kept w v g.types.0 g.types.1 g.ids g.readings g.cell_ids g.cells (Definition a.block) h.block;
    }
