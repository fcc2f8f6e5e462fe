-- What a walk stands on, in a table with more types.
use Rattle.std.proofs.Common.{◌≡◌, List, [], ◌∷◌, Option, Some, None, option_map, refl, ap, ◌∙◌}
use Rattle.std.proofs.lemmas.List.Elements.{All-nil, All-cons, All-head, All-tail}
use Rattle.ab_term.specs.Constants.{type_in}
use Rattle.ab_norm.specs.ab_types.specs.Entries.{Table, kinds, signature, IsExtendedBy}
use Rattle.ab_norm.specs.ab_types.specs.Sound.{IsTable}
use Rattle.ab_norm.specs.ab_types.specs.Ids.{HoldsType, type_of}
use Rattle.ab_norm.specs.ab_types.specs.declared.ids.TypeId.{TypeId}
use Rattle.ab_norm.specs.ab_types.proofs.Entries.{extended_by_itself, extended_twice, type_still_held}
use Rattle.ab_norm.specs.ab_store.specs.declared.node.CellId.{CellId}
use Rattle.ab_norm.specs.ab_store.specs.Trees.{Contents, HoldsCell, cell_of}
use Rattle.ab_norm.specs.declared.nominal.Nominal as declared
use Rattle.ab_norm.specs.Nominals.{nominal_of, HoldsNominal}
use Rattle.ab_inference.specs.declared.constraints.Formulas.{Formulas}
use Rattle.ab_inference.specs.Programs.{HoldsWritten}
use Rattle.ab_infer.specs.declared.scope.Scope.{Scope}
use Rattle.ab_infer.specs.NameScopes.{entry_of, entries_in, nominals_in, place_of, scope_of, HoldsCells, HoldsNominals, HoldsScope}
use Rattle.ab_infer.proofs.Larger.{formulas_more, type_more, store_more}
use Rattle.ab_infer.specs.Rows.{IsGround, AddsTypes}

pub adds_none : (t : Table) → AddsTypes t t
adds_none t = record { kept = extended_by_itself t; kinds = refl; constants = refl }

pub adds_both : (s t u : Table) → AddsTypes s t → AddsTypes t u → AddsTypes s u
adds_both s t u a b = record { kept = extended_twice s t u a.kept b.kept; kinds = b.kinds ∙ a.kinds; constants = b.constants ∙ a.constants }

module _ (old new : Table) (adds : AddsTypes old new) where
  cells_more : (store : Contents) (cs : List CellId) → HoldsCells old store cs → HoldsCells new store cs
  cells_more store [] h = All-nil (λ k. HoldsCell store k × HoldsType new (cell_of store k).ty)
  cells_more store (c ∷ cs) h = let one : HoldsCell store c × HoldsType old (cell_of store c).ty = All-head (λ k. HoldsCell store k × HoldsType old (cell_of store k).ty) c cs h in
      All-cons (λ k. HoldsCell store k × HoldsType new (cell_of store k).ty) c cs (one.0, type_still_held old new adds.kept (cell_of store c).ty one.1) (cells_more store cs (All-tail (λ k. HoldsCell store k × HoldsType old (cell_of store k).ty) c cs h))

  nominals_more : (ns : List declared.Nominal) → HoldsNominals old ns → HoldsNominals new ns
  nominals_more [] h = All-nil (HoldsNominal new)
  nominals_more (n ∷ ns) h = All-cons (HoldsNominal new) n ns (type_still_held old new adds.kept n.ty (All-head (HoldsNominal old) n ns h)) (nominals_more ns (All-tail (HoldsNominal old) n ns h))

  same_entries : (store : Contents) (cs : List CellId) → HoldsCells old store cs → entries_in new store cs ≡ entries_in old store cs
  same_entries store [] h = refl
  same_entries store (c ∷ cs) h =
      ap (λ A. record { name = (cell_of store c).hint; number = c.0; type = A } ∷ entries_in new store cs) (type_more old new adds.kept (cell_of store c).ty (All-head (λ k. HoldsCell store k × HoldsType old (cell_of store k).ty) c cs h).1)
      ∙ ap (λ es. entry_of old store c ∷ es) (same_entries store cs (All-tail (λ k. HoldsCell store k × HoldsType old (cell_of store k).ty) c cs h))

  same_nominals : (ns : List declared.Nominal) → HoldsNominals old ns → nominals_in new ns ≡ nominals_in old ns
  same_nominals [] h = refl
  same_nominals (n ∷ ns) h =
      ap (λ A. record { number = n.number; type = A } ∷ nominals_in new ns) (type_more old new adds.kept n.ty (All-head (HoldsNominal old) n ns h))
      ∙ ap (λ ms. nominal_of old n ∷ ms) (same_nominals ns (All-tail (HoldsNominal old) n ns h))

  pub scope_more : (store : Contents) (s : Scope) → HoldsScope old store s → HoldsScope new store s
  scope_more store s h = record { cells = cells_more store s.variables.items h.cells; nominals = nominals_more s.nominals.items h.nominals }

  -- the scope stays the same
  pub same_scope : (store : Contents) (s : Scope) → HoldsScope old store s → scope_of new store s ≡ scope_of old store s
  same_scope store s h =
      ap (λ ks. record { kinds = ks; constants = signature new; variables = entries_in new store s.variables.items; nominals = nominals_in new s.nominals.items; place = place_of s.place }) adds.kinds
      ∙ (ap (λ cs. record { kinds = kinds old; constants = type_in cs; variables = entries_in new store s.variables.items; nominals = nominals_in new s.nominals.items; place = place_of s.place }) adds.constants
      ∙ (ap (λ es. record { kinds = kinds old; constants = signature old; variables = es; nominals = nominals_in new s.nominals.items; place = place_of s.place }) (same_entries store s.variables.items h.cells)
      ∙ ap (λ ns. record { kinds = kinds old; constants = signature old; variables = entries_in old store s.variables.items; nominals = ns; place = place_of s.place }) (same_nominals s.nominals.items h.nominals)))

  pub ground_more : (store : Contents) (f : Formulas) (s : Scope) → IsTable new → IsGround old store f s → IsGround new store f s
  ground_more store f s table g = record {
    table = table;
    typed = store_more old new adds.kept store g.typed;
    are_formulas = formulas_more old new adds.kept f g.are_formulas;
    holds_scope = scope_more store s g.holds_scope;
  }

-- a written type stays what it is
pub written_later : (s t : Table) → IsExtendedBy s t → (w : Option TypeId) → HoldsWritten s w → HoldsWritten t w × (option_map (type_of t) w ≡ option_map (type_of s) w)
written_later s t e None h = (tt, refl)
written_later s t e (Some id) h = (type_still_held s t e id h, ap Some (type_more s t e id h))
