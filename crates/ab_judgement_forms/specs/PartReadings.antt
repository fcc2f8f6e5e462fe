-- What the program's parts of a formula in focus stand for.
use Rattle.std.specs.Prelude.{ℕ, List, map, All}
use Rattle.ab_norm.specs.ab_types.specs.Entries.{Table}
use Rattle.ab_norm.specs.ab_types.specs.Ids.{type_of, HoldsType}
use Rattle.ab_norm.specs.ab_store.specs.Trees.{Contents, Holds, tree_of}
use Rattle.ab_unifiers.specs.Replacements.{Cell}
use Rattle.ab_theory.specs.Parts.{Part}
use Rattle.ab_judgement_forms.specs.declared.part_names.PartName.{PartName}
use Rattle.ab_judgement_forms.specs.declared.focus_parts.Part.{Part as Kept}

abbrev pub name_read : Table → PartName → Cell (List ℕ)
name_read types n = record { hint = n.hint; type = type_of types n.ty }

abbrev pub HoldsName : Table → PartName → Type 0
HoldsName types n = HoldsType types n.ty

-- THE READING of a part
abbrev pub part_read : Table → Contents → Kept → Part
part_read types store p = record {
  names = map (name_read types) p.names.items;
  goals = map (tree_of types store) p.goals.items;
  atom = tree_of types store p.atom;
}

-- what it names is there
pub record HoldsPart (types : Table) (store : Contents) (p : Kept) : Type 0 where
  pub names : All (HoldsName types) p.names.items
  pub goals : All (Holds store) p.goals.items
  pub atom : Holds store p.atom
